-- What number 5's not being given says of the bits of one syllable: one code, one setting of SC3, and no one of SC3 but over larger and smaller.
use Prim.Native.Nat.{ℕ, ◌+◌, ◌<◌}
use mathlib.Core.Path.{◌≡◌, refl, sym, ap, ◌∙◌}
use mathlib.Core.Bool.{Bool, true, false, ◌&&◌}
use mathlib.Core.Logic.{⊎_elim}
use native.Mathlib.Omega.{arith}
use Rattle.laws.proofs.Bits.{every_at, and_left, and_right, or_cases}
use Rattle.machine.specs.declared.Panel.{Panel}
use Rattle.machine.specs.declared.Code.{Code}
use Rattle.machine.specs.declared.Code.TheVariants.{DontCare, Exact, Larger, Smaller}
use Rattle.machine.specs.Machine.{Syllable}
use Rattle.machine.specs.Search.{code_at, or_equal, each_bit, one_code, or_unset, or_set, one_setting, over_compared, compared_only, unmixed, cared}
use Rattle.machine.proofs.Cells.{carried}

-- a code that is cared for is no don't care
pub is_cared : (d : Code) → cared d 1 ≡ 1 → d ≡ DontCare → ⊥
is_cared d h e = omega (arith, h, ap (λ (c : Code). cared c 1) e)

unset_off : (d : Code) (e : Bool) → (d ≡ DontCare → ⊥) → or_unset d e ≡ true → e ≡ false
unset_off DontCare e n h = absurd (n refl)
unset_off Exact true n h = sym h
unset_off Exact false n h = refl
unset_off Larger true n h = sym h
unset_off Larger false n h = refl
unset_off Smaller true n h = sym h
unset_off Smaller false n h = refl

set_on : (d : Code) (e : Bool) → (d ≡ DontCare → ⊥) → or_set d e ≡ true → e ≡ true
set_on DontCare e n h = absurd (n refl)
set_on Exact e n h = h
set_on Larger e n h = h
set_on Smaller e n h = h

off_unless : (d : Code) (e : Bool) → d ≡ DontCare → over_compared d e ≡ true → e ≡ false
off_unless d true n h = cc
off_unless d false n h = refl

module _ (p : Panel) (y : Syllable) (fair : unmixed p y ≡ true) where
  abbrev at : ℕ → Code
  at j = code_at p (y.low + j)

  abbrev set : ℕ → Bool
  set j = or_equal p (y.low + j)

  abbrev Cared : ℕ → Type 0
  Cared j = at j ≡ DontCare → ⊥

  codes : one_code p y ≡ true
  codes = and_left (one_code p y) (one_setting p y && compared_only p y) fair

  settings : one_setting p y ≡ true
  settings = and_left (one_setting p y) (compared_only p y) (and_right (one_code p y) (one_setting p y && compared_only p y) fair)

  compared : compared_only p y ≡ true
  compared = and_right (one_setting p y) (compared_only p y) (and_right (one_code p y) (one_setting p y && compared_only p y) fair)

  pub one_code_lem : (i j : ℕ) → i < y.width → j < y.width → Cared i → Cared j → at i ≡ at j
  one_code_lem i j hi hj ni nj =
      let c = carried p y codes in
      ⊎_elim (λ e. absurd (ni e)) (λ e. e) (c.1 i hi) ∙ sym (⊎_elim (λ e. absurd (nj e)) (λ e. e) (c.1 j hj))

  pub one_setting_lem : (i j : ℕ) → i < y.width → j < y.width → Cared i → Cared j → set i ≡ set j
  unfolding one_setting
  one_setting_lem i j hi hj ni nj =
      ⊎_elim (λ h. unset_off (at i) (set i) ni (every_at y.width (λ k. or_unset (at k) (set k)) h i hi) ∙ sym (unset_off (at j) (set j) nj (every_at y.width (λ k. or_unset (at k) (set k)) h j hj)))
      (λ h. set_on (at i) (set i) ni (every_at y.width (λ k. or_set (at k) (set k)) h i hi) ∙ sym (set_on (at j) (set j) nj (every_at y.width (λ k. or_set (at k) (set k)) h j hj)))
      (or_cases (each_bit p y or_unset) (each_bit p y or_set) settings)

  -- no one of SC3 over a don't care
  pub unset_there : (j : ℕ) → j < y.width → at j ≡ DontCare → set j ≡ false
  unfolding compared_only
  unset_there j hj e = off_unless (at j) (set j) e (every_at y.width (λ k. over_compared (at k) (set k)) compared j hj)
