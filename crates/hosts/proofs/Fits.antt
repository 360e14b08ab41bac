-- A machine that passes 1 to 3 passes them after any accepted pulse: no word outgrows the width.
use Prim.Native.Nat.{ℕ, ◌+◌, ◌*◌, ◌%◌, ◌^◌, ◌≤◌, ◌<◌}
use mathlib.Core.Path.{◌≡◌}
use mathlib.Core.Bool.{Bool, true, false, ◌&&◌, ◌||◌}
use mathlib.Core.List.{List, [], ◌∷◌}
use native.Mathlib.Omega.{arith}
use native.Mathlib.Nat.{mod-lt, mul-le-mul_right}
use lib.Dec.{eqb}
use lib.Pow.{pow_pos, pow-add}
use Rattle.std.specs.Prelude.{Ok}
use Rattle.laws.specs.Bits.{bit}
use Rattle.laws.proofs.Bits.{number_lt}
use Rattle.machine.specs.declared.Panel.{Panel}
use Rattle.machine.specs.declared.Lines.{Lines}
use Rattle.machine.specs.Machine.{Machine, Syllable, syllables, selected, over}
use Rattle.machine.specs.Pulse.{written, addend, sums, added, asks_flip, change, word_after, pulsed}
use Rattle.machine.specs.Refusals.{machine_check}
use Rattle.machine.proofs.Machine.{Tiled, syllables_tile}
use Rattle.machine.proofs.Refusals.{sound}
use Rattle.ends.proofs.Machines.{passes, pos, sound_after}
use Rattle.hosts.proofs.Below.{bit_below, flip_below, either_below}

one_syllable : (a rest width low lo hi : ℕ) → low ≡ lo → a < 2 ^ width → rest + 2 ^ (lo + width) ≤ 2 ^ hi → a * 2 ^ low + rest + 2 ^ lo ≤ 2 ^ hi
one_syllable a rest width low lo hi e h g =
    let k : a + 1 ≤ 2 ^ width = omega arith in
    let m : (a + 1) * 2 ^ lo ≤ 2 ^ width * 2 ^ lo = mul-le-mul_right (2 ^ lo) k in
    let n : (a + 1) * 2 ^ lo ≡ a * 2 ^ lo + 2 ^ lo = omega arith in
    rw e (omega (arith, m, n, pow-add 2 lo width, g))

sums_fit : (p : Panel) (w : ℕ) (ys : List Syllable) (lo hi : ℕ) → Tiled lo ys hi → sums p w ys + 2 ^ lo ≤ 2 ^ hi
unfolding Tiled sums
sums_fit p w [] lo hi t = rw t (omega arith)
sums_fit p w (y ∷ ys) lo hi t =
    one_syllable ((over y (bit w) + over y (addend p)) % 2 ^ y.width) (sums p w ys) y.width y.low lo hi t.0
    (mod-lt (over y (bit w) + over y (addend p)) (pow_pos y.width)) (sums_fit p w ys (lo + y.width) hi t.2)

added_fits : (n : ℕ) (p : Panel) (w : ℕ) → 0 < n → added n p w < 2 ^ n
unfolding added
added_fits n p w h = let s = sums_fit p w (syllables n p.sdr) 0 n (syllables_tile n p.sdr h) in omega (arith, s)

changed_fits : (n : ℕ) (write add : Bool) (w x y : ℕ) → w < 2 ^ n → x < 2 ^ n → y < 2 ^ n → change n write add w x y < 2 ^ n
changed_fits n false false w x y h g k = h
changed_fits n false true w x y h g k = k
changed_fits n true false w x y h g k = g
changed_fits n true true w x y h g k =
    number_lt n _ (λ i l. either_below (asks_flip w x i || asks_flip w y i) (flip_below (bit_below w i)) (bit_below w i))

word_fits : (n : ℕ) (p : Panel) (l : Lines) → 0 < n → (k w r : ℕ) → w < 2 ^ n → word_after n p l k w r < 2 ^ n
unfolding word_after written
word_fits n p l h k w r g =
    let addressed = eqb k p.address.0 in
    let chosen = selected p.key p.care r in
    changed_fits n (l.write && addressed || l.multiwrite && chosen) (l.add && addressed || l.multiadd && chosen) w _ _ g
    (number_lt n _ (λ i q. either_below (eqb (bit p.mor i) 1) (bit_below p.comp i) (bit_below w i)))
    (added_fits n p w h)

pub pulsed_passes : (m : Machine) (p : Panel) (l : Lines) → machine_check m ≡ Ok tt → machine_check (pulsed m p l) ≡ Ok tt
pulsed_passes m p l h =
    let s = sound m h in passes (pulsed m p l) (sound_after m s p l (word_fits m.width p l (pos m s)))
