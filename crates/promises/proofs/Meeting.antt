-- Demand 2, of a write and an add on one word (document 02, request b): "each asks for certain bits to flip, and a bit flips if either asks."
use Prim.Native.Nat.{ℕ, ◌-◌, ◌<◌}
use mathlib.Core.Path.{◌≡◌, refl, ap, ◌∙◌}
use mathlib.Core.Bool.{Bool, true, false, not, ◌&&◌, ◌||◌}
use lib.Dec.{eqb}
use lib.ListN.{length, get_or}
use Rattle.std.specs.Prelude.{Ok}
use Rattle.laws.specs.Bits.{bit, pick}
use Rattle.laws.proofs.Digits.{Bit, off, on}
use Rattle.laws.proofs.Bits.{digit_at, number_bit}
use Rattle.machine.specs.declared.Panel.{Panel}
use Rattle.machine.specs.declared.Lines.{Lines}
use Rattle.machine.specs.Machine.{Machine, selected, response}
use Rattle.machine.specs.Pulse.{written, added, asks_flip, both_of, word_after}
use Rattle.machine.specs.Refusals.{pulse_check, after}
use Rattle.hosts.proofs.Below.{bit_below, flip_below, either_below}
use Rattle.promises.proofs.Demand2.{word_after_lem}

-- a write asks for the bits under MOR where COMP's is not the word's
pub write_asks : (n : ℕ) (p : Panel) (w i : ℕ) → i < n → asks_flip w (written n p w) i ≡ (eqb (bit p.mor i) 1 && not (eqb (bit p.comp i) (bit w i)))
unfolding written
write_asks n p w i h =
    ap (λ (x : ℕ). not (eqb x (bit w i)))
    (number_bit n _ (λ j g. either_below (eqb (bit p.mor j) 1) (bit_below p.comp j) (bit_below w j)) i h)
    ∙ go (eqb (bit p.mor i) 1) (bit p.comp i) (digit_at w i)
  where
    go : (t : Bool) (c : ℕ) {w : ℕ} → Bit w → not (eqb (pick t c w) w) ≡ (t && not (eqb c w))
    go true c d = refl
    go false c off = refl
    go false c on = refl

-- each bit of a word that an accepted pulse writes and adds to, by whichever lines
pub flips_after : (m : Machine) (p : Panel) (l : Lines) → pulse_check m p l ≡ Ok tt → (k i : ℕ) → k < length m.words → i < m.width
    → (l.write && eqb k p.address.0 || l.multiwrite && selected p.key p.care (response m k)) ≡ true
    → (l.add && eqb k p.address.0 || l.multiadd && selected p.key p.care (response m k)) ≡ true
    → let w = get_or m.words k 0 in
    bit (get_or (after m p l).words k 0) i
    ≡ pick (asks_flip w (written m.width p w) i || asks_flip w (added m.width p w) i) (1 - bit w i) (bit w i)
unfolding word_after
flips_after m p l accepted k i h g e f =
    let w = get_or m.words k 0 in
    let a : get_or (after m p l).words k 0 ≡ both_of m.width w (written m.width p w) (added m.width p w)
    = word_after_lem m p l accepted k h ∙ rw (e, f) in
    ap (λ (x : ℕ). bit x i) a
    ∙ number_bit m.width _
    (λ j q. either_below (asks_flip w (written m.width p w) j || asks_flip w (added m.width p w) j) (flip_below (bit_below w j)) (bit_below w j)) i g
