-- Where SC3 is 0, number 5 asks only for one code; where SC1 is 0 too, nothing is compared and no syllable is mixed.
use Prim.Native.Nat.{ℕ, zero, suc, ◌+◌}
use mathlib.Core.Path.{◌≡◌, refl, ◌∙◌}
use mathlib.Core.Bool.{true, false, and-true}
use mathlib.Core.List.{List, [], ◌∷◌}
use Rattle.laws.specs.Bits.{bit}
use Rattle.laws.specs.Lists.{all}
use Rattle.laws.proofs.Bits.{every_all, bit_none}
use Rattle.machine.specs.declared.Panel.{Panel}
use Rattle.machine.specs.declared.Code.{Code}
use Rattle.machine.specs.declared.Code.TheVariants.{DontCare, Exact, Larger, Smaller}
use Rattle.machine.specs.Machine.{Syllable}
use Rattle.machine.specs.Search.{code, code_at, or_equal, or_exact, one_code, or_unset, one_setting, over_compared, compared_only, unmixed}

unset_code : (d : Code) → or_unset d false ≡ true
unset_code DontCare = refl
unset_code Exact = refl
unset_code Larger = refl
unset_code Smaller = refl

over_code : (d : Code) → over_compared d false ≡ true
over_code DontCare = refl
over_code Exact = refl
over_code Larger = refl
over_code Smaller = refl

exact_code : (b : ℕ) → or_exact (code 0 b) ≡ true
exact_code zero = refl
exact_code (suc b) = refl

module _ (p : Panel) (third : p.sc3 ≡ 0) where
  pub unset : (i : ℕ) → or_equal p i ≡ false
  unset i = rw (third, bit_none i)

  pub unmixed_is : (y : Syllable) → unmixed p y ≡ one_code p y
  unfolding one_setting compared_only
  unmixed_is y =
      rw (
        every_all y.width (λ j. or_unset (code_at p (y.low + j)) (or_equal p (y.low + j))) (λ j g. rw (unset (y.low + j)) (unset_code (code_at p (y.low + j)))),
        every_all y.width (λ j. over_compared (code_at p (y.low + j)) (or_equal p (y.low + j))) (λ j g. rw (unset (y.low + j)) (over_code (code_at p (y.low + j)))),
        and-true (one_code p y),
      ) refl

  module _ (first : p.sc1 ≡ 0) where
    one_code_lem : (y : Syllable) → one_code p y ≡ true
    unfolding one_code
    one_code_lem y =
        rw (every_all y.width (λ j. or_exact (code_at p (y.low + j))) (λ j g. rw (first, bit_none (y.low + j)) (exact_code (bit p.sc2 (y.low + j)))))

    pub all_unmixed : (ys : List Syllable) → all (unmixed p) ys ≡ true
    unfolding all
    all_unmixed [] = refl
    all_unmixed (y ∷ ys) = rw (unmixed_is y ∙ one_code_lem y) (all_unmixed ys)
