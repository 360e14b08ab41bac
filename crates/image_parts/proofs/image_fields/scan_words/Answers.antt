use Prim.Native.Nat.{ℕ, ◌+◌, ◌≤◌}
use mathlib.Core.Path.{◌≡◌, sym, ◌∙◌}
use native.Mathlib.Omega.{arith}
use native.Mathlib.Nat.{sub-zero}
use lib.ListN.{length}
use Rattle.image_layout.specs.Sizes.{word_size, responses_at}
use Rattle.image_layout.specs.Reading.{word_field}
use Rattle.image_parts.proofs.Parts.{handed, held, field_wrong, one_more, no_more, word_step}
use Rattle.image_parts.proofs.image_fields.scan_words.Goals as goal

pub loop-i-init : goal.loop-i-init
loop-i-init c = (omega arith, λ fs. rw sub-zero)

pub returns-in_err-judge : goal.returns-in_err-judge
returns-in_err-judge c =
    let l = c.loop-i in
    let a = c.args in
    let d = handed _ _ (responses_at l.i) c.from_residual.ensures.1 c.in_err-judge.ensures.1 in (
      λ fs. l.invariant.1 fs ∙ rw (d, one_more a.n l.i (word_field a.width) fs (omega arith))
          (field_wrong (word_field a.width) _ a.image.now (responses_at l.i) (sym c.word_right.ensures ∙ c.in_err-judge.ensures.0)),
      λ z. absurd (let q : ◌≡◌ {A = ℕ} 0 1 = cc in omega arith),
    )

pub loop-i-preserved : goal.loop-i-preserved
loop-i-preserved c =
    let l = c.loop-i in
    let a = c.args in
    let h = sym c.word_right.ensures ∙ c.in_ok-judge.ensures in
    let f : responses_at l.i + word_size ≤ length a.image.now = (held (word_field a.width) a.image.now (responses_at l.i) l.invariant.0 h).fits in (
      omega arith,
      λ fs. l.invariant.1 fs ∙ rw (one_more a.n l.i (word_field a.width) fs (omega arith)) (word_step a.width l.i a.image.now _ h),
    )

pub returns : goal.returns
returns c =
    let l = c.loop-i in
    let a = c.args in
    let e : l.i ≡ a.n = omega arith in
    (λ fs. rw (e, no_more) at (l.invariant.1 fs), λ z. rw e at l.invariant.0)
