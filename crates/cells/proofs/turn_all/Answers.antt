use mathlib.Core.Path.{◌≡◌, refl, ◌∙◌}
use mathlib.Core.Bool.{Bool, true, false}
use mir.Val.{bool_byte}
use borrow.Author.Rules.{rules}
use Rattle.laws.specs.Bits.{digit}
use Rattle.laws.proofs.Walk.{start, step, done}
use Rattle.machine.specs.Pulse.{word_after, response_after, counts}
use Rattle.cells.proofs.turn_all.Goals as goal

as_digit : (b : Bool) → bool_byte b ≡ digit b
as_digit true = refl
as_digit false = refl

pub loop-k-init : goal.loop-k-init
loop-k-init c = start _ _ _ _ _ c.requires.responses_len

pub loop-k-preserved : goal.loop-k-preserved
loop-k-preserved c =
    let a = c.args in
    let t = c.turn-t in
    rw (c.from-counted.ensures ∙ as_digit t.result.counted)
    (step (word_after a.width a.panel a.lines) (response_after a.width a.panel a.lines) (counts a.width a.panel a.lines)
    a.words.now a.responses.now c.loop-k.words c.loop-k.responses c.loop-k.counted c.loop-k.k
    t.result.word t.result.response t.result.counted c.loop-k.invariant (search rules) t.ensures.0 t.ensures.1 t.ensures.2)

pub returns : goal.returns
returns c =
    let d = done _ _ _ _ _ _ _ _ c.loop-k.k c.loop-k.invariant (search rules) in record {
      value = d.0;
      words_after = d.1;
      responses_after = d.2;
    }
