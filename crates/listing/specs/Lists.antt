-- What the program `list` prints of an image (document 01, figure 13), what is printed of a refusal, and the parts of a line.
use Rattle.std.specs.Prelude.{ℕ, zero, suc, ◌&&◌, List, [], ◌++◌, ltb, leb, eqb, length, get_or, replicate, Result, Ok, Err}
use Prim.Native.String.{String}
use Rattle.laws.specs.Bits.{pick}
use Rattle.machine.specs.declared.Refusal.{Refusal}
use Rattle.machine.specs.Refusals.{number_of, also_answers}
use Rattle.image.specs.declared.Loaded.{Loaded}
use Rattle.image.specs.Calls.{read_of, words_read, responses_read}
use Rattle.text.specs.Ascii.{ascii}
use Rattle.output.specs.Digits.{pair, hex_digits, decimal_digits}

-- ---- parts of a line

-- a name and a number: "Other numbers are printed in decimal"
abbrev pub named : String → ℕ → List ℕ
named name x = ascii name ++ decimal_digits 20 x

-- a name and a word or an N-bit register: "16 of them"
abbrev pub named16 : String → ℕ → List ℕ
named16 name x = ascii name ++ hex_digits 16 x

-- a response or an 8-bit register: "2 for a response or an 8-bit register"
abbrev pub response_text : ℕ → List ℕ
response_text x = pair x

abbrev pub named_response : String → ℕ → List ℕ
named_response name x = ascii name ++ response_text x

-- ---- refusals: "`refused K`, for number 3 `refused 3 word I`, for number 9 `refused 9 at I`", and since request d "20, 21 and 22 name their
-- syllable"

-- a syllable's letter, by the value that names it
abbrev pub syllable_text : ℕ → List ℕ
syllable_text value = pick (eqb value 1) (ascii " A") (pick (eqb value 2) (ascii " B") (ascii " P"))

abbrev pub also_text : Refusal → List ℕ
also_text why =
    pick (eqb (number_of why) 3) (named " word " (also_answers why))
    (pick (eqb (number_of why) 9) (named " at " (also_answers why))
    (pick (leb 20 (number_of why) && leb (number_of why) 22) (syllable_text (also_answers why)) []))

abbrev pub refusal_text : Refusal → List ℕ
refusal_text why = named "refused " (number_of why) ++ also_text why

-- ---- the list: "the head and a line for each word"

-- document 01, figure 13: the word's number, content and response
abbrev pub word_text : ℕ → ℕ → ℕ → List ℕ
word_text i word response = named "\n" i ++ ascii " " ++ hex_digits 16 word ++ ascii " " ++ response_text response

abbrev pub entry_text : ℕ → List ℕ → List ℕ → List ℕ
entry_text i words responses =
    pick (ltb i (length words) && ltb i (length responses)) (word_text i (get_or words i 0) (get_or responses i 0)) []

-- k of them, from word i on
unfoldable pub words_text : ℕ → ℕ → List ℕ → List ℕ → List ℕ
words_text zero i words responses = []
words_text (suc k) i words responses = entry_text i words responses ++ words_text k (suc i) words responses

abbrev pub found_text : Result Loaded Refusal → List ℕ → List ℕ → List ℕ
found_text (Ok m) words responses =
    named "words " m.words ++ named " width " m.width ++ words_text m.words 0 words responses
found_text (Err why) words responses = refusal_text why

-- what the program `list` prints of an image, read into 1024 words and responses
abbrev pub list_text : List ℕ → List ℕ
list_text image =
    let zeros : List ℕ = replicate 1024 0 in
    found_text (read_of image 1024 1024) (words_read image zeros zeros) (responses_read image zeros zeros)
