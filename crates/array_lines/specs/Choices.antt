-- An operation on the array as a line of docs/BOARD.md writes it: `args` are the words behind the command's name, one for each choice.
use Rattle.std.specs.Prelude.{ℕ, Bool, true, false, ◌&&◌, List, [], ◌∷◌, ltb, eqb, length, get_or, Option, Some, None, Result, Ok, Err}
use Prim.Native.String.{String}
use Rattle.laws.specs.Bits.{pick}
use Rattle.text.specs.Ascii.{ascii}
use Rattle.text.specs.Words.{words_of, place_of}
use Rattle.array.specs.declared.Source.{Source}
use Rattle.array.specs.declared.Source.TheVariants as source
use Rattle.array.specs.declared.Mask.{Mask}
use Rattle.array.specs.declared.Mask.TheVariants as mask
use Rattle.array.specs.declared.Wanted.{Wanted}
use Rattle.array.specs.declared.Wanted.TheVariants.{Agree, Disagree}
use Rattle.array.specs.declared.Latches.{Latches}
use Rattle.array.specs.declared.Latches.TheVariants as latches
use Rattle.array.specs.declared.Combine.{Combine}
use Rattle.array.specs.declared.Combine.TheVariants.{Replace, And, Or}
use Rattle.array.specs.declared.Selector.{Selector}
use Rattle.array.specs.declared.Selector.TheVariants as selector
use Rattle.array.specs.declared.Form.{Form}
use Rattle.array.specs.declared.Form.TheVariants.{True, Complement}
use Rattle.array.specs.declared.Sink.{Sink}
use Rattle.array.specs.declared.Sink.TheVariants as sink
use Rattle.array.specs.declared.Kind.{Kind}
use Rattle.array.specs.declared.Kind.TheVariants.{Normal, Special}
use Rattle.array.specs.declared.Operation.{Operation}
use Rattle.array.specs.declared.Operation.TheVariants.{Search, Read, Write}

-- ---- a word among the names of a choice

-- what was found, whether it is one of the names or not
abbrev pub either : {A : Type 0} → Result A A → A
either (Ok x) = x
either (Err x) = x

abbrev pub place_in : String → List ℕ → ℕ
place_in names word = place_of word (words_of (ascii names))

abbrev pub is_in : String → List ℕ → Bool
is_in names word = ltb (place_in names word) (length (words_of (ascii names)))

-- each word is a name of its choice, and there is no word more
unfoldable pub named : List String → List (List ℕ) → Bool
named [] [] = true
named [] (word ∷ words) = false
named (names ∷ rest) [] = false
named (names ∷ rest) (word ∷ words) = is_in names word && named rest words

-- the place of word k among these names
abbrev pub at : List (List ℕ) → ℕ → String → ℕ
at args k names = place_in names (get_or args k [])

-- ---- each choice, by the place of its name

-- "DATA `r1` `r2`"
abbrev pub source_at : ℕ → Source
source_at k = pick (eqb k 0) source.R1 source.R2

-- "MASK `m` `ones` `zeros`"
abbrev pub mask_at : ℕ → Mask
mask_at k = pick (eqb k 0) mask.M (pick (eqb k 1) mask.Ones mask.Zeros)

-- "WORDS `agree` `disagree`"
abbrev pub wanted_at : ℕ → Wanted
wanted_at k = pick (eqb k 0) Agree Disagree

-- "SET `p` `s`"
abbrev pub latches_at : ℕ → Latches
latches_at k = pick (eqb k 0) latches.P latches.S

-- "HOW `replace` `and` `or`"
abbrev pub combine_at : ℕ → Combine
combine_at k = pick (eqb k 0) Replace (pick (eqb k 1) And Or)

-- "SET `p` `s` `none`"
abbrev pub selector_at : ℕ → Selector
selector_at k = pick (eqb k 0) selector.P (pick (eqb k 1) selector.S selector.Zeros)

-- "SENSE `true` `complement`"
abbrev pub form_at : ℕ → Form
form_at k = pick (eqb k 0) True Complement

-- "SINK `r1` `r2` `m`"
abbrev pub sink_at : ℕ → Sink
sink_at k = pick (eqb k 0) sink.R1 (pick (eqb k 1) sink.R2 sink.M)

-- "KIND `normal` `special`"
abbrev pub kind_at : ℕ → Kind
kind_at k = pick (eqb k 0) Normal Special

-- ---- the three operations

-- "search3 DATA MASK WORDS SET HOW"
unfoldable pub search_line : List (List ℕ) → Option Operation
search_line args =
    pick (named ("r1 r2" ∷ "m ones zeros" ∷ "agree disagree" ∷ "p s" ∷ "replace and or" ∷ []) args)
    (Some
    (Search
    (source_at (at args 0 "r1 r2"))
    (mask_at (at args 1 "m ones zeros"))
    (wanted_at (at args 2 "agree disagree"))
    (latches_at (at args 3 "p s"))
    (combine_at (at args 4 "replace and or"))))
    None

-- "read3 SET SENSE SINK MASK"
unfoldable pub read_line : List (List ℕ) → Option Operation
read_line args =
    pick (named ("p s none" ∷ "true complement" ∷ "r1 r2 m" ∷ "m ones zeros" ∷ []) args)
    (Some
    (Read
    (selector_at (at args 0 "p s none"))
    (form_at (at args 1 "true complement"))
    (sink_at (at args 2 "r1 r2 m"))
    (mask_at (at args 3 "m ones zeros"))))
    None

-- "write3 KIND DATA MASK SET SENSE"
unfoldable pub write_line : List (List ℕ) → Option Operation
write_line args =
    pick (named ("normal special" ∷ "r1 r2" ∷ "m ones zeros" ∷ "p s none" ∷ "true complement" ∷ []) args)
    (Some
    (Write
    (kind_at (at args 0 "normal special"))
    (source_at (at args 1 "r1 r2"))
    (mask_at (at args 2 "m ones zeros"))
    (selector_at (at args 3 "p s none"))
    (form_at (at args 4 "true complement"))))
    None
