-- What is printed of each outcome, in the words of docs/BOARD.md, without the newline at its end.
use Rattle.std.specs.Prelude.{ℕ, Bool, List, [], ◌∷◌, ◌++◌, Result, Ok, Err, leb, length, take}
use Rattle.laws.specs.Bits.{pick}
use Rattle.machine.specs.declared.Panel.{Panel}
use Rattle.machine.specs.declared.Refusal.{Refusal}
use Rattle.explainer.specs.declared.Reason.{Reason}
use Rattle.explainer.specs.declared.Reason.TheVariants as explains
use Rattle.job_plans.specs.declared.Command.{Command}
use Rattle.text.specs.Ascii.{ascii}
use Rattle.output.specs.Digits.{pair}
use Rattle.listing.specs.Lists.{named, named16, named_response, refusal_text, list_text}
use Rattle.console_commands.specs.declared.Outcome.{Outcome}
use Rattle.console_commands.specs.declared.Outcome.TheVariants as outcome

-- ---- the panel

-- request c: "`sc3 HEX` after `sc2 HEX`"
abbrev pub search_text : Panel → List ℕ
search_text p = named16 " sc1 " p.sc1 ++ named16 " sc2 " p.sc2 ++ named16 " sc3 " p.sc3

abbrev pub registers_text : Panel → List ℕ
registers_text p = named16 "comp " p.comp ++ named16 " sdr " p.sdr ++ search_text p ++ named16 " mor " p.mor

-- the panel but for its address
abbrev pub panel_text : Panel → List ℕ
panel_text p = registers_text p ++ named_response " key " p.key ++ named_response " care " p.care ++ named_response " target " p.target

-- ---- a step: "L comp HEX .. count C held", "`ended` in place of `held` after the last pulse"

abbrev pub step_text : Command → ℕ → Bool → List ℕ
step_text command count held =
    pick command.lines.search (ascii "search ") (ascii "multiadd ")
    ++ panel_text command.panel
    ++ named " count " count
    ++ pick held (ascii " held") (ascii " ended")

-- ---- an image: "all its bytes, two capital digits each, with no spaces"

unfoldable pub pairs_text : List ℕ → List ℕ
pairs_text [] = []
pairs_text (byte ∷ bytes) = pair byte ++ pairs_text bytes

-- ---- request e: "`matched`, `not selected bit K`, `syllable T against at B`, `syllable T equal to the bottom`", or the refusal

abbrev pub why_text : Result Reason Refusal → List ℕ
why_text (Ok explains.Matched) = ascii "matched"
why_text (Ok (explains.NotSelected bit)) = named "not selected bit " bit.0
why_text (Ok (explains.Against syllable bit)) = named "syllable " syllable.0 ++ named " against at " bit.0
why_text (Ok (explains.EqualToTheBottom syllable)) = named "syllable " syllable.0 ++ ascii " equal to the bottom"
why_text (Err why) = refusal_text why

-- ---- every outcome; `bytes` holds the image where it speaks of one

abbrev pub of_image : List ℕ → ℕ → (List ℕ → List ℕ) → List ℕ
of_image bytes n text = pick (leb n (length bytes)) (text (take n bytes)) []

abbrev pub printed : Outcome → List ℕ → List ℕ
printed outcome.BadLine bytes = ascii "bad line"
printed outcome.Fine bytes = ascii "ok"
printed (outcome.Refused why) bytes = refusal_text why
printed (outcome.Pulsed count word) bytes = named "count " count ++ named16 " read " word
printed (outcome.Word word) bytes = named "word " word.0
printed outcome.NoWord bytes = ascii "none"
printed (outcome.Why given) bytes = why_text given
printed (outcome.Registers panel) bytes = panel_text panel ++ named " address " panel.address.0
printed (outcome.Gave command count held) bytes = step_text command count held
printed (outcome.Pulses k) bytes = named "pulses " k
printed (outcome.Image n) bytes = of_image bytes n (λ image. ascii "image " ++ pairs_text image)
printed (outcome.Length n) bytes = named "image " n
printed (outcome.Listing n) bytes = of_image bytes n list_text
