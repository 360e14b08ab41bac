use mathlib.Core.Path.{refl, sym, ◌∙◌}
use Rattle.image_parts.proofs.Parts.{handed, head, words_broken, words_sound}
use Rattle.image_parts.proofs.image_fields.scan_image.Goals as goal

pub returns-in_err-scan_words : goal.returns-in_err-scan_words
returns-in_err-scan_words c =
    let b = c.args.image.now in
    let h = head b (sym c.count_is.ensures ∙ c.in_ok-judge.ensures) (sym c.width_right.ensures ∙ c.in_ok-judge-2.ensures) (sym c.word_count_right.ensures ∙ c.in_ok-judge-3.ensures) in
    handed _ _ _ c.from_residual-in_err-scan_words.ensures.1 refl
    ∙ words_broken b _ _ c.scan_words.result h c.width_in-width.ensures c.words_in-n.ensures c.scan_words.ensures.0 _ c.in_err-scan_words.was

pub returns : goal.returns
returns c =
    let b = c.args.image.now in
    let h = head b (sym c.count_is.ensures ∙ c.in_ok-judge.ensures) (sym c.width_right.ensures ∙ c.in_ok-judge-2.ensures) (sym c.word_count_right.ensures ∙ c.in_ok-judge-3.ensures) in
    words_sound b _ _ c.scan_words.result h c.width_in-width.ensures c.words_in-n.ensures c.scan_words.ensures.0 _ c.in_ok-scan_words.was c.scan_responses.ensures
