use Prim.Native.Nat.{◌-◌}
use mathlib.Core.Path.{◌≡◌}
use lib.ListN.{length}
use Rattle.output.proofs.Puts.{Rest}
use Rattle.array_replies.specs.Texts.{words_text}
use Rattle.array_replies.proofs.put_list.Given as goal

abbrev pub invariant-loop-i : goal.invariant-loop-i
invariant-loop-i l =
    (length l.out ≡ length l.initial.out)
    × Rest (words_text l.fn.rack.words 0 l.ones l.xs l.selectors) l.initial.end l.initial.out (words_text (l.fn.rack.words - l.i) l.i l.ones l.xs l.selectors) l.out l.end
