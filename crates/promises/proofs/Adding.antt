-- Demand 2, of an add: "Each syllable becomes word plus addend modulo 2 to its width; no carry crosses a syllable's top", read syllable by syllable.
use Prim.Native.Nat.{ℕ, zero, suc, ◌+◌, ◌*◌, ◌/◌, ◌%◌, ◌^◌, ◌≤◌, ◌<◌}
use mathlib.Core.Path.{◌≡◌, sym, ap, ◌∙◌}
use mathlib.Core.Bool.{true, false, ◌&&◌, ◌||◌}
use mathlib.Core.List.{List, [], ◌∷◌}
use native.Mathlib.Omega.{arith}
use native.Mathlib.Nat.{mod-lt, mul-le-mul_right}
use lib.Dec.{eqb}
use lib.ListN.{length, get_or}
use lib.Pow.{pow_pos, pow-add, high, low}
use Rattle.std.specs.Prelude.{Ok}
use Rattle.laws.specs.Bits.{bit}
use Rattle.laws.proofs.Bits.{shifted, number_is}
use Rattle.machine.specs.declared.Panel.{Panel}
use Rattle.machine.specs.declared.Lines.{Lines}
use Rattle.machine.specs.Machine.{Machine, Syllable, tops, syllables, over, selected, response}
use Rattle.machine.specs.Pulse.{addend, sums, added, word_after}
use Rattle.machine.specs.Refusals.{pulse_check, after}
use Rattle.machine.proofs.Machine.{Tiled, syllables_tile}
use Rattle.promises.proofs.Demand2.{word_after_lem}

-- it is so of each
abbrev pub Each : (Syllable → Type 0) → List Syllable → Type 0
Each so [] = Unit {0}
Each so (y ∷ ys) = so y × Each so ys

-- over syllable y, the new word's number is the word's plus the addend's, modulo 2 to the width
abbrev pub IsSum : Panel → ℕ → ℕ → Syllable → Type 0
IsSum p w new y = over y (bit new) ≡ (over y (bit w) + over y (addend p)) % 2 ^ y.width

-- a run of bits of a number
over_is : (x : ℕ) (y : Syllable) → over y (bit x) ≡ x / 2 ^ y.low % 2 ^ y.width
over_is x y = number_is y.width (x / 2 ^ y.low) _ (λ j h. sym (shifted x y.low j))

module _ (p : Panel) (w : ℕ) where
  -- the sums from a syllable up, as a number that begins at its lowest bit
  abbrev from : List Syllable → ℕ
  from [] = 0
  from (y ∷ ys) = from ys * 2 ^ y.width + (over y (bit w) + over y (addend p)) % 2 ^ y.width

  from_is : (ys : List Syllable) (lo hi : ℕ) → Tiled lo ys hi → sums p w ys ≡ from ys * 2 ^ lo
  unfolding Tiled sums
  from_is [] lo hi t = omega arith
  from_is (y ∷ ys) lo hi t =
      step ((over y (bit w) + over y (addend p)) % 2 ^ y.width) (from ys) (sums p w ys) y.width y.low lo t.0 (from_is ys (lo + y.width) hi t.2)
    where
      step : (v q s k at lo : ℕ) → at ≡ lo → s ≡ q * 2 ^ (lo + k) → v * 2 ^ at + s ≡ (q * 2 ^ k + v) * 2 ^ lo
      step v q s k at lo e h = rw (e, h, pow-add 2 lo k) (omega arith)

  read_off : (ys : List Syllable) (lo hi below x : ℕ) → Tiled lo ys hi → below < 2 ^ lo → x ≡ from ys * 2 ^ lo + below → Each (IsSum p w x) ys
  unfolding Tiled
  read_off [] lo hi below x t h e = Prim.tt
  read_off (y ∷ ys) lo hi below x t h e =
      let v : ℕ = (over y (bit w) + over y (addend p)) % 2 ^ y.width in
      let small : v < 2 ^ y.width = mod-lt (over y (bit w) + over y (addend p)) (pow_pos y.width) in (
        over_is x y ∙ ap (λ (k : ℕ). x / 2 ^ k % 2 ^ y.width) t.0 ∙ here v (from ys) y.width small e,
        read_off ys (lo + y.width) hi (v * 2 ^ lo + below) x t.2 (next v y.width small) (e ∙ apart v (from ys) y.width),
      )
    where
      here : (v q k : ℕ) → v < 2 ^ k → x ≡ (q * 2 ^ k + v) * 2 ^ lo + below → x / 2 ^ lo % 2 ^ k ≡ v
      here v q k s e = ap (λ (z : ℕ). z / 2 ^ lo % 2 ^ k) e ∙ ap (λ (z : ℕ). z % 2 ^ k) (high (q * 2 ^ k + v) lo h) ∙ low q k s

      next : (v k : ℕ) → v < 2 ^ k → v * 2 ^ lo + below < 2 ^ (lo + k)
      next v k s =
          let m : (v + 1) * 2 ^ lo ≤ 2 ^ k * 2 ^ lo = mul-le-mul_right (2 ^ lo) (omega arith) in
          omega (arith, m, pow-add 2 lo k, h)

      apart : (v q k : ℕ) → (q * 2 ^ k + v) * 2 ^ lo + below ≡ q * 2 ^ (lo + k) + (v * 2 ^ lo + below)
      apart v q k = rw (pow-add 2 lo k) (omega arith)

none_of_none : (p : Panel) (w x : ℕ) → Each (IsSum p w x) (syllables 0 p.sdr)
unfolding tops
none_of_none p w x = Prim.tt

-- for every width and every SDR
pub syllables_added : (n : ℕ) (p : Panel) (w : ℕ) → Each (IsSum p w (added n p w)) (syllables n p.sdr)
unfolding added
syllables_added zero p w = none_of_none p w _
syllables_added (suc n) p w =
    let t = syllables_tile (suc n) p.sdr (omega arith) in
    read_off p w (syllables (suc n) p.sdr) 0 (suc n) 0 _ t (pow_pos 0) (from_is p w (syllables (suc n) p.sdr) 0 (suc n) t ∙ omega arith)

-- so of each word that an accepted pulse adds to and does not write
pub syllables_after : (m : Machine) (p : Panel) (l : Lines) → pulse_check m p l ≡ Ok tt → (k : ℕ) → k < length m.words
    → (l.write && eqb k p.address.0 || l.multiwrite && selected p.key p.care (response m k)) ≡ false
    → (l.add && eqb k p.address.0 || l.multiadd && selected p.key p.care (response m k)) ≡ true
    → Each (IsSum p (get_or m.words k 0) (get_or (after m p l).words k 0)) (syllables m.width p.sdr)
unfolding word_after
syllables_after m p l accepted k h e g =
    let a : get_or (after m p l).words k 0 ≡ added m.width p (get_or m.words k 0) = word_after_lem m p l accepted k h ∙ rw (e, g) in
    rw a (syllables_added m.width p (get_or m.words k 0))
