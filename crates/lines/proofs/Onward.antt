-- A line that goes on with pieces that have no newline, from one read to the next.
use Prim.Native.Nat.{ℕ, ◌+◌, ◌<◌, ◌≤◌}
use mathlib.Core.Bool.{Bool, true, false, ◌&&◌}
use mathlib.Core.Path.{◌≡◌, refl, ap, ◌∙◌}
use mathlib.Core.List.{List, [], ◌∷◌, ◌++◌}
use native.Mathlib.Numerals.{add-one}
use native.Mathlib.Omega.{arith}
use borrow.Author.Tests.{ltb-true, leb-true}
use lib.Dec.{ltb, leb}
use lib.ListN.{length, take, length-take}
use lib.Seq.{take-length, take-nil, take-append-le}
use Rattle.laws.specs.Bits.{pick}
use Rattle.laws.specs.Lists.{all}
use Rattle.text.specs.Words.{ahead}
use Rattle.lines.specs.Input.{is_plain, before_newline, kept_of, unread, first_line, Whole, behind_newline, Taken}
use Rattle.lines.specs.Pieces.{Holds, between, up_to_newline, behind}
use Rattle.lines.proofs.Growing.{Grows, grows_none}
use Rattle.lines.specs.declared.Reader.{Reader}
use Rattle.lines.specs.declared.Line.{Line}

-- ---- bytes that all pass a test

all_cons : (f : ℕ → Bool) (b : ℕ) (s : List ℕ) → f b ≡ true → all f s ≡ true → all f (b ∷ s) ≡ true
unfolding all
all_cons f b s e h = rw e h

all_more : (f : ℕ → Bool) (s t : List ℕ) → all f s ≡ true → all f t ≡ true → all f (s ++ t) ≡ true
unfolding all
all_more f [] t h k = k
all_more f (b ∷ s) t h k = by (f b) (λ e. all_more f s t e k) h
  where
    by : (x : Bool) → (all f s ≡ true → all f (s ++ t) ≡ true) → x && all f s ≡ true → x && all f (s ++ t) ≡ true
    by true g e = g e
    by false g e = e

-- those ahead of the first that does not
all_ahead : (f : ℕ → Bool) (s : List ℕ) → all f (take (ahead f s) s) ≡ true
unfolding ahead all
all_ahead f [] = refl
all_ahead f (b ∷ s) = by (f b) refl (all_ahead f s)
  where
    by : (x : Bool) → f b ≡ x → all f (take (ahead f s) s) ≡ true → all f (take (pick x (ahead f s + 1) 0) (b ∷ s)) ≡ true
    by true e h = rw (add-one (ahead f s)) (all_cons f b (take (ahead f s) s) e h)
    by false e h = refl

pub first_plain : (reader : Reader) (chunk : List ℕ) → all is_plain (first_line reader chunk) ≡ true
first_plain reader chunk = all_ahead is_plain (unread reader chunk)

-- ---- a line that begins with some bytes

abbrev pub Onward : List ℕ → List ℕ → Line → List ℕ → Type 0
Onward lent first line kept = ((s : List ℕ) × (Taken (length lent) first s line × (kept ≡ kept_of s lent)))

-- the first piece is all of them
pub onward_first : (lent first : List ℕ) (line : Line) (kept : List ℕ) → all is_plain first ≡ true → Holds lent first line kept → Onward lent first line kept
onward_first lent first line kept e h = (first, (record { plain = e; begins = take-length first; whole = h.line_is }, h.kept_is))

-- a piece more
pub onward_more : (lent first p : List ℕ) (line line' : Line) (kept kept' : List ℕ) → all is_plain p ≡ true → Grows p line kept line' kept' →
    Onward lent first line kept → Onward lent first line' kept'
onward_more lent first p line line' kept kept' e g (s, (t, k)) =
    let h : Holds lent (s ++ p) line' kept' = g lent s (record { line_is = t.whole; kept_is = k }) in
    let le : length first ≤ length s = omega (arith, length-take (length first) s, ap length t.begins) in
    (s ++ p, (record { plain = all_more is_plain s p t.plain e; begins = take-append-le (length first) s p le ∙ t.begins; whole = h.line_is }, h.kept_is))

-- ---- one turn: `more` with what is left of the last read, and without

unlike : false ≡ true → ⊥
unlike e = let z : ◌≡◌ {A = ℕ} 0 1 = cc in omega arith

both : (x y : Bool) → x && y ≡ true → (x ≡ true) × (y ≡ true)
both true y e = (refl, e)
both false y e = absurd (unlike e)

module _ (reader : Reader) (chunk : List ℕ) where
  pub in_order : ltb reader.from reader.to && leb reader.to (length chunk) ≡ true → (reader.from ≤ reader.to) × (reader.to ≤ length chunk)
  in_order e =
      let b = both (ltb reader.from reader.to) (leb reader.to (length chunk)) e in
      (omega (arith, ltb-true reader.from reader.to b.0), leb-true reader.to (length chunk) b.1)

  -- what one turn promises: it takes the rest of the line that was read, and knows where that has its end
  abbrev pub Turned : Line → List ℕ → List ℕ → Reader → Line → Bool → List ℕ → Type 0
  Turned line kept chunk' reader' line' whole kept' =
      (Grows (first_line reader chunk) line kept line' kept' ×
      (Whole reader chunk → (reader' ≡ behind_newline reader chunk) × ((whole ≡ true) × (chunk' ≡ chunk))))

  pub turned_left : ltb reader.from reader.to && leb reader.to (length chunk) ≡ true → (line : Line) (kept : List ℕ) (reader' : Reader) (line' : Line) (whole : Bool) (kept' : List ℕ) →
      Grows (up_to_newline (between reader.from reader.to chunk)) line kept line' kept' →
      (before_newline (between reader.from reader.to chunk) < length (between reader.from reader.to chunk) →
      (reader' ≡ behind reader.from reader.to (between reader.from reader.to chunk)) × (whole ≡ true)) →
      Turned line kept chunk reader' line' whole kept'
  turned_left e line kept reader' line' whole kept' g w = rw e (g, λ h. ((w h).0, ((w h).1, refl)))

  pub turned_none : ltb reader.from reader.to && leb reader.to (length chunk) ≡ false → (line : Line) (kept chunk' : List ℕ) (reader' : Reader) (whole : Bool) →
      Turned line kept chunk' reader' line whole kept
  turned_none e line kept chunk' reader' whole = rw e (rw (take-nil (before_newline [])) (grows_none line kept), λ h. let z : ⊥ = omega arith in absurd z)

-- ---- turn after turn: the first begins an empty line

pub begun : (lent : List ℕ) (reader : Reader) (chunk : List ℕ) (line line' : Line) (kept' : List ℕ) → Holds lent [] line lent →
    Grows (first_line reader chunk) line lent line' kept' → Onward lent (first_line reader chunk) line' kept'
begun lent reader chunk line line' kept' h g = onward_first lent (first_line reader chunk) line' kept' (first_plain reader chunk) (g lent [] h)

-- a turn more
pub gone_on : (lent first : List ℕ) (reader : Reader) (chunk : List ℕ) (line line' : Line) (kept kept' : List ℕ) →
    Grows (first_line reader chunk) line kept line' kept' → Onward lent first line kept → Onward lent first line' kept'
gone_on lent first reader chunk line line' kept kept' g o = onward_more lent first (first_line reader chunk) line line' kept kept' (first_plain reader chunk) g o
