-- The bytes that are not put yet are still to be.
use mathlib.Core.Path.{◌≡◌}
use lib.ListN.{length, drop}
use Rattle.console_replies.specs.Texts.{pairs_text}
use Rattle.output.proofs.Puts.{Rest}
use Rattle.console_replies.proofs.put_bytes.Given as goal

abbrev pub invariant-loop-byte : goal.invariant-loop-byte
invariant-loop-byte l = (length l.out ≡ length l.initial.out) × Rest (pairs_text l.bytes) l.initial.n l.initial.out (pairs_text (drop l.byte-index l.bytes)) l.out l.n
