-- The image's word on the line, and its bytes in the room that is lent for them.
use Prim.Native.Nat.{ℕ, ◌+◌, ◌-◌, ◌<◌, ◌≤◌}
use mathlib.Core.Bool.{Bool, true, false, not, ◌&&◌}
use mathlib.Core.Path.{◌≡◌, refl, sym, ◌∙◌}
use mathlib.Core.List.{List, [], ◌∷◌}
use mathlib.Core.Logic.{⊎_elim}
use native.Mathlib.Nat.{eq-or-lt_of_le}
use native.Mathlib.Omega.{arith}
use borrow.Author.Tests.{not-true, not-false, eqb-true, eqb-false, leb-true}
use lib.Dec.{eqb, leb, leb-zero}
use lib.ListN.{length, take, drop}
use lib.Seq.{sets, sets-eq, length-sets, take_all, take-nil, take_at}
use Rattle.laws.specs.Bits.{pick}
use Rattle.std.specs.Prelude.{Option, Some, None}
use Rattle.text.specs.declared.Place.{Place}
use Rattle.text.specs.Numbers.{paired, pairs, bytes_of}
use Rattle.text.specs.Words.{word_at, words_of}
use Rattle.text.proofs.Runs.{at_from, here_none, here_one, here_ordered}
use Rattle.console_storing.specs.Images.{digits, image_length, kept}

no_pairs : pairs [] ≡ []
unfolding pairs
no_pairs = refl

no_bytes : (room : ℕ) → bytes_of room [] ≡ Some 0
unfolding paired pairs
no_bytes room = rw leb-zero

never : (n : ℕ) → Some n ≡ None → ⊥
never n e = let z : ◌≡◌ {A = ℕ} 0 1 = cc in omega arith

-- ---- from the line

abbrev pub Kept : List (List ℕ) → List ℕ → Option ℕ → List ℕ → Type 0
Kept args bytes found left = (found ≡ image_length args (length bytes)) × (left ≡ kept args bytes)

module _ (line : List ℕ) (at : ℕ) (inside : at ≤ length line) (p : Place) (is : p ≡ word_at line at) (within : p.to ≤ length line)
    (none : Bool) (told : none ≡ eqb (word_at line p.to).from (word_at line p.to).to) (bytes : List ℕ) where
  abbrev word : List ℕ
  word = take (p.to - p.from) (drop p.from line)

  abbrev next : Place
  next = word_at line p.to

  more : not none ≡ true → next.from < next.to
  more e =
      ⊎_elim (λ (f : next.from ≡ next.to). absurd (eqb-false next.from next.to (sym told ∙ not-true none e) f))
      (λ (h : next.from < next.to). h)
      (eq-or-lt_of_le (here_ordered line p.to next refl within))

  over : not none ≡ false → words_of (drop p.to line) ≡ []
  over e = here_none line p.to next refl within (eqb-true next.from next.to (sym told ∙ not-false none e))

  pub two_words : not none ≡ true → Kept (words_of (drop at line)) bytes None bytes
  two_words e =
      let k = here_one line p.to next refl within (more e) in
      ⊎_elim (λ (f : p.from ≡ p.to).
      let g = here_none line at p is inside f in
      let h = rw f at (at_from line at p is inside) in
      let z : ◌≡◌ {A = ℕ} 0 1 = cc in let y : ⊥ = omega arith in absurd y)
      (λ (h : p.from < p.to). let g = rw k at (here_one line at p is inside h) in (rw g, rw g))
      (eq-or-lt_of_le (here_ordered line at p is inside))

  pub one_word : not none ≡ false → (found : Option ℕ) → found ≡ bytes_of (length bytes) word →
      (left : List ℕ) → left ≡ sets bytes 0 (take (length bytes) (pairs word)) → Kept (words_of (drop at line)) bytes found left
  one_word e found f left g =
      ⊎_elim (λ (h : p.from ≡ p.to).
      let k : p.to - p.from ≡ 0 = omega arith in
      let m = here_none line at p is inside h in
      (rw m (f ∙ (rw k (no_bytes (length bytes)))), rw m (g ∙ (rw (k, no_pairs, take-nil)))))
      (λ (h : p.from < p.to). let m = rw (over e) at (here_one line at p is inside h) in (rw m f, rw m g))
      (eq-or-lt_of_le (here_ordered line at p is inside))

-- ---- in the room

is_told : (t : Bool) (x k : ℕ) → Some k ≡ pick t (Some x) None → (t ≡ true) × (k ≡ x)
is_told true x k e = (refl, cc)
is_told false x k e = absurd (never k e)

and_second : (x y : Bool) → x && y ≡ true → y ≡ true
and_second true y e = e
and_second false y e = let z : ◌≡◌ {A = ℕ} 0 1 = cc in let y : ⊥ = omega arith in absurd y

-- the first k bytes are the image's
abbrev pub Holds : List (List ℕ) → ℕ → List ℕ → Type 0
Holds args k left = (k ≤ length left) × (take k left ≡ pairs (digits args))

put_holds : (vs bytes : List ℕ) → length vs ≤ length bytes → take (length vs) (sets bytes 0 vs) ≡ vs
put_holds vs bytes h = rw (sets-eq vs bytes 0 (omega arith)) (take_at vs (drop (0 + length vs) bytes) (length vs) refl)

holds : (args : List (List ℕ)) (bytes : List ℕ) (k : ℕ) → Some k ≡ image_length args (length bytes) → Holds args k (kept args bytes)
holds [] bytes k e = let f : k ≡ 0 = cc in (omega arith, rw (f, no_pairs))
holds (word ∷ []) bytes k e =
    let f = is_told (paired word && leb (length (pairs word)) (length bytes)) (length (pairs word)) k e in
    let h = leb-true (length (pairs word)) (length bytes) (and_second (paired word) (leb (length (pairs word)) (length bytes)) f.0) in
    (rw (length-sets, f.1) h, rw (f.1, take_all (length bytes) (pairs word) h) (put_holds (pairs word) bytes h))
holds (word ∷ (next ∷ more)) bytes k e = absurd (never k e)

pub image_holds : (args : List (List ℕ)) (bytes : List ℕ) (found : Option ℕ) → found ≡ image_length args (length bytes) → (left : List ℕ) → left ≡ kept args bytes →
    (k : ℕ) → found ≡ Some k → Holds args k left
image_holds args bytes found is left put k e = rw put (holds args bytes k (sym e ∙ is))
