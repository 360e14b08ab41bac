-- 65,536 bytes are room for every answer and its newline, of an image of at most 20,000 bytes.
use Prim.Native.Nat.{ℕ, ◌*◌, ◌<◌, ◌≤◌}
use mathlib.Core.List.{List, [], ◌∷◌}
use native.Mathlib.Omega.{arith}
use lib.Dec.{leb}
use lib.ListN.{length, length-take, take}
use Rattle.console_commands.specs.declared.Outcome.{Outcome}
use Rattle.console_commands.specs.declared.Outcome.TheVariants as outcome
use Rattle.listing.proofs.Lengths.{Within, none, both, within, either, text, number, word, refused}
use Rattle.listing.proofs.Room.{list}
use Rattle.console_replies.specs.Texts.{pairs_text, printed}
use Rattle.console_replies.proofs.Lengths.{panel, step, why}

pairs : (bytes : List ℕ) → Within (pairs_text bytes) (2 * length bytes)
unfolding pairs_text
pairs [] = none
pairs (b ∷ bytes) = record { fits = omega (arith, (pairs bytes).fits) }

small : {s : List ℕ} {m : ℕ} → m ≤ 65535 → Within s m → length s < 65536
small h p = omega (arith, p.fits)

pub room : (o : Outcome) (bs : List ℕ) → length bs ≤ 20000 → length (printed o bs) < 65536
room outcome.BadLine bs h = omega arith
room outcome.Fine bs h = omega arith
room (outcome.Refused why) bs h = small (omega arith) (refused why)
room (outcome.Pulsed count w) bs h = small (omega arith) (both (number "count " count) (word " read " w))
room (outcome.Word w) bs h = small (omega arith) (number "word " w.0)
room outcome.NoWord bs h = omega arith
room (outcome.Why given) bs h = small (omega arith) (why given)
room (outcome.Registers p) bs h = small (omega arith) (both (panel p) (number " address " p.address.0))
room (outcome.Gave k count held) bs h = small (omega arith) (step k count held)
room (outcome.Pulses k) bs h = small (omega arith) (number "pulses " k)
room (outcome.Image n) bs h =
    let t = either {n = 40006} (leb n (length bs)) (within 40006 (omega (arith, length-take n bs)) (both (text "image ") (pairs (take n bs)))) none in
    small (omega arith) t
room (outcome.Length n) bs h = small (omega arith) (number "image " n)
room (outcome.Listing n) bs h = let t = either {n = 42037} (leb n (length bs)) (list (take n bs)) none in small (omega arith) t
