use mathlib.Core.Path.{◌≡◌, sym, ◌∙◌}
use mathlib.Core.Bool.{not}
use native.Mathlib.Omega.{arith}
use borrow.Author.Rules.{rules}
use Rattle.handout.specs.Whole.{verdict_by}
use Rattle.handout.proofs.Working.{few, one_if, over, goes_on, turn}
use Rattle.handout.proofs.work.Goals.{then-sound, else-sound}
use Rattle.handout.proofs.work.Goals as goal

-- no word is shown
pub returns-in_default : goal.returns-in_default
returns-in_default c =
    let q = over c.loop-taken.invariant.0 (search rules) in record {
      value = q.0;
      responses_after = q.1;
    }

-- the checks pass, so show is not turned down
pub returns-in_default-2 : goal.returns-in_default-2
returns-in_default-2 c = absurd (goes_on c.loop-taken.invariant.0 (sym c.show.ensures ∙ c.in_default.is))

pub overflow_add-report : goal.overflow_add-report
overflow_add-report c = omega (arith, (few c.loop-taken.invariant.0).0, c.from.ensures, one_if c.says_done-sound.result)

pub overflow_add-report-in-loop-taken : goal.overflow_add-report-in-loop-taken
overflow_add-report-in-loop-taken c =
    omega (arith, (few c.loop-taken.invariant.0).1, c.from-in-loop-taken.ensures, one_if (not c.says_done-sound.result))

pub loop-taken-smaller : goal.loop-taken-smaller
loop-taken-smaller c =
    let judged : c.if-sound.verdict ≡ verdict_by c.says_done-sound.result = elim c.if-sound.branch [ then-sound w ↦ rw w.if-sound.true w.verdict-is | else-sound w ↦ rw w.if-sound.false w.verdict-is ] in
    let t = turn c.loop-taken.invariant.0 (search rules)
    c.says_done-sound.ensures judged c.answer.ensures.value c.answer.ensures.responses_after c.is_ok-taken.ensures.value
    c.from.ensures c.from-in-loop-taken.ensures in
    t.falls

pub loop-taken-preserved : goal.loop-taken-preserved
loop-taken-preserved c =
    let judged : c.if-sound.verdict ≡ verdict_by c.says_done-sound.result = elim c.if-sound.branch [ then-sound w ↦ rw w.if-sound.true w.verdict-is | else-sound w ↦ rw w.if-sound.false w.verdict-is ] in
    let t = turn c.loop-taken.invariant.0 (search rules)
    c.says_done-sound.ensures judged c.answer.ensures.value c.answer.ensures.responses_after c.is_ok-taken.ensures.value
    c.from.ensures c.from-in-loop-taken.ensures in
    (t.next, t.again)
