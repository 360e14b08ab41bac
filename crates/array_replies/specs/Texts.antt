-- What is printed of each outcome of the array's commands, in the words of docs/BOARD.md, without the newline at its end.
use Rattle.std.specs.Prelude.{ℕ, zero, suc, ◌&&◌, List, [], ◌++◌, ltb, length, get_or}
use Rattle.laws.specs.Bits.{pick}
use Rattle.text.specs.Ascii.{ascii}
use Rattle.output.specs.Digits.{pair, hex_digits}
use Rattle.listing.specs.Lists.{named, named16}
use Rattle.array.specs.declared.Refusal.{Refusal}
use Rattle.array.specs.declared.Refusal.TheVariants as refusal
use Rattle.array.specs.Refusals.{number_of}
use Rattle.array_console.specs.declared.Rack.{Rack}
use Rattle.array_console.specs.declared.Outcome.{Outcome}
use Rattle.array_console.specs.declared.Outcome.TheVariants as outcome

-- ---- refusals: "Refusals print as ever, 3 with its word"

abbrev pub also_text : Refusal → List ℕ
also_text refusal.Size = []
also_text refusal.Width = []
also_text (refusal.WordTooWide word) = named " word " word.0
also_text refusal.NoCell = []
also_text refusal.RegisterTooWide = []

abbrev pub refusal_text : Refusal → List ℕ
refusal_text why = named "refused " (number_of why) ++ also_text why

-- ---- the list

-- "`cells WORDS width N r1 HEX r2 HEX m HEX`"
abbrev pub head_text : Rack → List ℕ
head_text k =
    named "cells " k.words
    ++ named " width " k.width
    ++ named16 " r1 " k.registers.r1
    ++ named16 " r2 " k.registers.r2
    ++ named16 " m " k.registers.m

-- "for each word a line `I ONES XS SELECTORS` of 16, 16 and 2 digits"
abbrev pub word_text : ℕ → ℕ → ℕ → ℕ → List ℕ
word_text i one x selectors = named "\n" i ++ ascii " " ++ hex_digits 16 one ++ ascii " " ++ hex_digits 16 x ++ ascii " " ++ pair selectors

abbrev pub entry_text : ℕ → List ℕ → List ℕ → List ℕ → List ℕ
entry_text i ones xs selectors =
    pick (ltb i (length ones) && ltb i (length xs) && ltb i (length selectors))
    (word_text i (get_or ones i 0) (get_or xs i 0) (get_or selectors i 0))
    []

-- k of them, from word i on
unfoldable pub words_text : ℕ → ℕ → List ℕ → List ℕ → List ℕ → List ℕ
words_text zero i ones xs selectors = []
words_text (suc k) i ones xs selectors = entry_text i ones xs selectors ++ words_text k (suc i) ones xs selectors

abbrev pub list_text : Rack → List ℕ → List ℕ → List ℕ → List ℕ
list_text k ones xs selectors = head_text k ++ words_text k.words 0 ones xs selectors

-- ---- every outcome; a rack and its buffers are what `list3` prints

abbrev pub printed : Outcome → Rack → List ℕ → List ℕ → List ℕ → List ℕ
printed outcome.BadLine k ones xs selectors = ascii "bad line"
printed outcome.Fine k ones xs selectors = ascii "ok"
printed (outcome.Refused why) k ones xs selectors = refusal_text why
printed (outcome.Counted count) k ones xs selectors = named "count " count
printed outcome.Listing k ones xs selectors = list_text k ones xs selectors
