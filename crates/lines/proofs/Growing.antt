-- A line that grows, byte by byte and piece by piece.
use Prim.Native.Nat.{ℕ, suc, ◌+◌, ◌<◌, ◌≤◌, min}
use mathlib.Core.Bool.{Bool, true, false, not, ◌&&◌, ◌||◌}
use mathlib.Core.Path.{◌≡◌, refl, ap, sym, ◌∙◌}
use mathlib.Core.List.{List, [], ◌∷◌, ◌++◌, append_assoc, append-nil}
use native.Mathlib.Numerals.{add-one}
use native.Mathlib.Omega.{arith}
use borrow.Author.Tests.{lt-ltb, le-ltb}
use lib.Dec.{ltb, eqb}
use lib.ListN.{length, take, get_or, set, length-append}
use lib.Seq.{sets, length-sets, take-suc, take-length, take-nil, take_all, take-append-le}
use Rattle.laws.specs.Lists.{all}
use Rattle.text.specs.Words.{is_space}
use Rattle.lines.specs.Input.{line_of, before_newline}
use Rattle.lines.specs.Pieces.{Holds, up_to_newline}
use Rattle.lines.specs.declared.Line.{Line}

-- a line by its parts
abbrev made : ℕ → Bool → Bool → Line
made n longer word = record { kept = n; longer = longer; has_word = word }

as_line : (room : ℕ) (s : List ℕ) (n : ℕ) (longer word : Bool) → n ≡ min (length s) room → longer ≡ ltb room (length s) →
    word ≡ not (all (is_space true) s) → made n longer word ≡ line_of room s
as_line room s n longer word e f g = rw (e, f, g)

none : (f : ℕ → Bool) → all f [] ≡ true
unfolding all
none f = refl

-- nothing is read
pub nothing : (lent : List ℕ) → Holds lent [] (made 0 false false) lent
nothing lent =
    record {
      line_is = as_line (length lent) [] 0 false false (omega arith) (sym (le-ltb (length lent) 0 (omega arith))) (rw none);
      kept_is = rw (take-nil (length lent));
    }

-- ---- a byte more

word_more : (s : List ℕ) (b : ℕ) → not (all (is_space true) s) || not (eqb b 32) ≡ not (all (is_space true) (s ++ (b ∷ [])))
unfolding all
word_more [] b = by (eqb b 32)
  where
    by : (x : Bool) → not x ≡ not (x && true)
    by true = refl
    by false = refl
word_more (a ∷ s) b = by (eqb a 32) (word_more s b)
  where
    by : (x : Bool) → not (all (is_space true) s) || not (eqb b 32) ≡ not (all (is_space true) (s ++ (b ∷ []))) →
        not (x && all (is_space true) s) || not (eqb b 32) ≡ not (x && all (is_space true) (s ++ (b ∷ [])))
    by true h = h
    by false h = refl

sets_more : (l : List ℕ) (i : ℕ) (s : List ℕ) (b : ℕ) → set (sets l i s) (i + length s) b ≡ sets l i (s ++ (b ∷ []))
sets_more l i [] b = let e : i + 0 ≡ i = omega arith in rw e
sets_more l i (a ∷ s) b = let e : i + suc (length s) ≡ suc i + length s = omega arith in rw e (sets_more (set l i a) (suc i) s b)

module _ (lent t : List ℕ) (b : ℕ) (line : Line) (kept : List ℕ) (h : Holds lent t line kept) where
  same_room : length kept ≡ length lent
  same_room = rw h.kept_is (length-sets lent 0 (take (length lent) t))

  one_longer : length (t ++ (b ∷ [])) ≡ length t + 1
  one_longer = length-append t (b ∷ [])

  filled : line.kept ≡ min (length t) (length lent)
  filled = ap (λ (l : Line). l.kept) h.line_is

  word : line.has_word || not (eqb b 32) ≡ not (all (is_space true) (t ++ (b ∷ [])))
  word = ap (λ (l : Line). l.has_word || not (eqb b 32)) h.line_is ∙ word_more t b

  -- where there is room
  pub one_kept : line.kept < length kept → Holds lent (t ++ (b ∷ [])) (made (line.kept + 1) line.longer (line.has_word || not (eqb b 32))) (set kept line.kept b)
  one_kept k =
      let room : length t < length lent = omega (arith, same_room, filled) in
      let at : line.kept ≡ 0 + length t = omega (arith, same_room, filled) in
      let z : line.longer ≡ ltb (length lent) (length (t ++ (b ∷ []))) =
      ap (λ (l : Line). l.longer) h.line_is ∙ (le-ltb (length lent) (length t) (omega arith) ∙ sym (le-ltb (length lent) (length (t ++ (b ∷ []))) (omega (arith, one_longer)))) in
      record {
        line_is = as_line (length lent) (t ++ (b ∷ [])) _ _ _ (omega (arith, one_longer, at)) z word;
        kept_is = rw (h.kept_is, at, take_all (length lent) t (omega arith), take_all (length lent) (t ++ (b ∷ [])) (omega (arith, one_longer))) (sets_more lent 0 t b);
      }

  -- where there is none
  pub one_lost : length kept ≤ line.kept → Holds lent (t ++ (b ∷ [])) (made line.kept true (line.has_word || not (eqb b 32))) kept
  one_lost k =
      let full : length lent ≤ length t = omega (arith, same_room, filled) in
      record {
        line_is = as_line (length lent) (t ++ (b ∷ [])) _ _ _ (omega (arith, one_longer, filled, same_room)) (sym (lt-ltb (length lent) (length (t ++ (b ∷ []))) (omega (arith, one_longer)))) word;
        kept_is = rw (take-append-le (length lent) t (b ∷ []) full) h.kept_is;
      }

-- ---- byte by byte through the bytes s: whatever was read before, they stand behind it

abbrev pub Grows : List ℕ → Line → List ℕ → Line → List ℕ → Type 0
Grows s line kept line' kept' = (lent t : List ℕ) → Holds lent t line kept → Holds lent (t ++ s) line' kept'

pub grows_none : (line : Line) (kept : List ℕ) → Grows [] line kept line kept
grows_none line kept lent t h = rw (append-nil t) h

pub grows_more : (s : List ℕ) (i : ℕ) (l₀ l₁ l₂ : Line) (k₀ k₁ k₂ : List ℕ) → i < length s → Grows (take i s) l₀ k₀ l₁ k₁ →
    Grows (get_or s i 0 ∷ []) l₁ k₁ l₂ k₂ → Grows (take (i + 1) s) l₀ k₀ l₂ k₂
grows_more s i l₀ l₁ l₂ k₀ k₁ k₂ h f g lent t k = rw (add-one i, take-suc s i 0, ← append_assoc) (g lent (t ++ take i s) (f lent t k))

pub grows_all : (s : List ℕ) (i : ℕ) (l₀ l₁ : Line) (k₀ k₁ : List ℕ) → length s ≡ i → Grows (take i s) l₀ k₀ l₁ k₁ → Grows s l₀ k₀ l₁ k₁
grows_all s i l₀ l₁ k₀ k₁ e f lent t h = rw (← e, take-length) at (f lent t h)

-- up to the first newline, whose place was found
pub grows_part : (p : List ℕ) (n : ℕ) (l₀ l₁ : Line) (k₀ k₁ : List ℕ) → n ≡ before_newline p → Grows (take n p) l₀ k₀ l₁ k₁ →
    Grows (up_to_newline p) l₀ k₀ l₁ k₁
grows_part p n l₀ l₁ k₀ k₁ e f lent t h = rw e at (f lent t h)

-- all of them, where there is none
pub grows_whole : (p : List ℕ) (l₀ l₁ : Line) (k₀ k₁ : List ℕ) → before_newline p ≡ length p → Grows p l₀ k₀ l₁ k₁ → Grows (up_to_newline p) l₀ k₀ l₁ k₁
grows_whole p l₀ l₁ k₀ k₁ e f lent t h = rw (e, take-length) (f lent t h)
