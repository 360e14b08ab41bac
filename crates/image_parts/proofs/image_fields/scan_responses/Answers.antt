use Prim.Native.Nat.{ℕ, ◌*◌, ◌-◌, ◌%◌, ◌≤◌, ◌<◌}
use mathlib.Core.Path.{◌≡◌, sym, ap, ◌∙◌}
use mathlib.Core.Bool.{true}
use native.Mathlib.Omega.{arith}
use lib.ListN.{length, drop}
use borrow.Author.Tests.{leb-true, leb-false}
use Rattle.image_layout.specs.Sizes.{response_size, items_at, responses_at}
use Rattle.image_layout.specs.Reading.{scan, count_is}
use Rattle.image_parts.specs.Parts.{holds, job_fields}
use Rattle.image_parts.proofs.Parts.{handed, held, after_cut, after_right}
use Rattle.image_parts.proofs.image_fields.scan_responses.Goals as goal

pub returns-in_err-judge-2 : goal.returns-in_err-judge-2
returns-in_err-judge-2 c =
    let a = c.args in
    let e : c.responses_at-at.result ≡ responses_at a.n = c.responses_at-at.ensures in
    let h : holds (count_is a.n) (drop (responses_at a.n) a.image.now) ≡ true = rw e at (sym c.count_is.ensures ∙ c.in_ok-judge.ensures) in
    let f : items_at (responses_at a.n) ≤ length a.image.now = (held (count_is a.n) a.image.now (responses_at a.n) c.requires.0 h).fits in
    let l : length a.image.now - items_at (responses_at a.n) < response_size * a.n = rw e at (leb-false _ _ c.in_err-judge-2.ensures.0) in
    let p : length a.image.now - (length a.image.now - items_at c.responses_at-at.result) % response_size
    ≡ length a.image.now - (length a.image.now - items_at (responses_at a.n)) % response_size = rw e in
    handed _ _ _ c.from_residual-in_err-judge-2.ensures.1 (c.in_err-judge-2.ensures.1 ∙ p) ∙ sym (after_cut a.width a.n a.image.now h c.requires.0 l)

pub returns : goal.returns
returns c =
    let a = c.args in
    let e : c.responses_at-at.result ≡ responses_at a.n = c.responses_at-at.ensures in
    let h : holds (count_is a.n) (drop (responses_at a.n) a.image.now) ≡ true = rw e at (sym c.count_is.ensures ∙ c.in_ok-judge.ensures) in
    let f : items_at (responses_at a.n) ≤ length a.image.now = (held (count_is a.n) a.image.now (responses_at a.n) c.requires.0 h).fits in
    let l : response_size * a.n ≤ length a.image.now - items_at (responses_at a.n) = rw e at (leb-true _ _ c.in_ok-judge-2.ensures) in
    c.scan_job.ensures ∙ ap (λ (q : ℕ). scan (job_fields a.width q a.image.now) q (drop q a.image.now)) c.jobs_at.ensures
    ∙ sym (after_right a.width a.n a.image.now h (omega (arith, f, l)))
