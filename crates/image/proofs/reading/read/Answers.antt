use Prim.Native.Nat.{ℕ, ◌+◌}
use mathlib.Core.Path.{ap, ◌∙◌}
use native.Mathlib.Omega.{arith}
use lib.ListN.{length, drop}
use lib.Seq.{sets}
use Rattle.machine.proofs.Refusals.{handed}
use Rattle.image_layout.specs.Sizes.{count_size, word_size, response_size, items_at, words_at}
use Rattle.image_layout.specs.Format.{number_at, held_of}
use Rattle.image_layout.specs.Reading.{numbers, records}
use Rattle.image.proofs.ReadCalls.{room, filled, copied, read_refused, read_done}
use Rattle.image.proofs.reading.read.Goals as goal

pub returns-in_err-check_read : goal.returns-in_err-check_read
returns-in_err-check_read c =
    let a = c.args in
    let q = read_refused a.image.now a.words.now a.responses.now _ c.in_err-check_read.ensures in
    record { value = handed _ _ c.from_residual.ensures.1 ∙ q.0; words_after = q.1.0; responses_after = q.1.1 }

pub returns : goal.returns
returns c =
    let a = c.args in
    let b = a.image.now in
    let n = c.words_in-n in
    let g = room b n.result (length a.words.now) (length a.responses.now) c.in_ok-check_read.ensures n.ensures in
    let e = c.responses_at-responses_at.ensures in
    let ws = filled word_size a.words.now (drop (items_at words_at) b) c.fill_words.new.words n.result g.words c.fill_words.ensures in
    let rs = c.put_bytes.ensures.1 ∙ copied a.responses.now b (c.responses_at-responses_at.result + count_size) n.result (omega (arith, g.room, e)) in
    let q = read_done b a.words.now a.responses.now _ _ _ n.result _ c.in_ok-check_read.ensures c.width_in.ensures n.ensures
    (c.held_at.ensures ∙ ap (λ (q : ℕ). held_of (records (number_at count_size q b) (drop (items_at q) b))) c.jobs_at.ensures)
    ws
    (rs ∙ ap (λ (q : ℕ). sets a.responses.now 0 (numbers response_size n.result (drop (items_at q) b))) e) in
    record { value = q.0; words_after = q.1.0; responses_after = q.1.1 }
