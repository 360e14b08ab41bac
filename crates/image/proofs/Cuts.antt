-- Places: every place is within the bytes, and a proper prefix of sound bytes is refused at the field that is cut.
-- "The place in 9 is the offset of the first field, read in order, that is cut off or breaks a rule"
use Prim.Native.Nat.{ℕ, zero, suc, ◌+◌, ◌*◌, ◌-◌, ◌≤◌, ◌<◌}
use mathlib.Core.Path.{◌≡◌, refl, ap, ◌∙◌}
use mathlib.Core.Bool.{Bool, true, false}
use mathlib.Core.List.{List, [], ◌∷◌, ◌++◌, append_assoc}
use native.Mathlib.Nat.{zero-add}
use native.Mathlib.Omega.{arith}
use lib.Dec.{ltb, eqb}
use lib.ListN.{length, take, drop, replicate, length-drop}
use lib.Seq.{take-take, length-take-le}
use borrow.Author.Tests.{lt-ltb, le-ltb, ltb-true, ltb-false, eqb-true}
use Rattle.std.specs.Prelude.{Ok, Err}
use Rattle.laws.specs.Bits.{pick}
use Rattle.jobs.specs.Runs.{State}
use Rattle.image_layout.specs.Sizes.{count_size, width_size, items_at, width_at, words_at, jobs_at}
use Rattle.image_layout.specs.Format.{value, number_at, image_of}
use Rattle.image_layout.specs.Reading.{Field, scan, count_is, word_count, width_byte, word_field, response_field, job_count, job_field, width_in, words_in, jobs_in, fields_of, scanned, Scanned}
use Rattle.image_layout.proofs.Format.{drop_take, before_cut}
use Rattle.image_layout.specs.Reading.{start_of}
use Rattle.image.proofs.RoundTrip.{image_sound}
use Rattle.image.specs.Calls.{Stored}

-- ---- every place is within the bytes

end_within : (n at p : ℕ) (t : Bool) → ◌≡◌ {A = Scanned} (pick t (Ok tt) (Err at)) (Err p) → p ≤ at + n
end_within n at p true h = absurd (let z : ◌≡◌ {A = ℕ} 0 1 = cc in omega arith)
end_within n at p false h = let e : at ≡ p = cc in omega arith

scan_within : (fs : List Field) (at p : ℕ) (b : List ℕ) → scan fs at b ≡ Err p → p ≤ at + length b
unfolding scan
scan_within [] at p b h = end_within (length b) at p (eqb (length b) 0) h
scan_within (f ∷ fs) at p b h = go (ltb (length b) f.size) (f.right (take f.size b)) refl h (scan_within fs (at + f.size) p (drop f.size b))
  where
    go : (t u : Bool) → ltb (length b) f.size ≡ t → pick t (Err at) (pick u (scan fs (at + f.size) (drop f.size b)) (Err at)) ≡ Err p
        → (scan fs (at + f.size) (drop f.size b) ≡ Err p → p ≤ at + f.size + length (drop f.size b)) → p ≤ at + length b
    go true u e g r = let q : at ≡ p = cc in omega arith
    go false true e g r = omega (arith, r g, length-drop f.size b, ltb-false (length b) f.size e)
    go false false e g r = let q : at ≡ p = cc in omega arith

-- no place is beyond the input's end
pub within : (b : List ℕ) (p : ℕ) → scanned b ≡ Err p → p ≤ length b
unfolding scanned
within b p h = omega (arith, scan_within (fields_of b) 0 p b h)

-- ---- a prefix

prefix : (fs : List Field) (at k : ℕ) (b : List ℕ) → scan fs at b ≡ Ok tt → k < length b → scan fs at (take k b) ≡ Err (start_of fs at (at + k))
unfolding scan start_of
prefix [] at k b h l = go (eqb (length b) 0) refl h
  where
    go : (t : Bool) → eqb (length b) 0 ≡ t → ◌≡◌ {A = Scanned} (pick t (Ok tt) (Err at)) (Ok tt) → scan [] at (take k b) ≡ Err (start_of [] at (at + k))
    go true e g = absurd (omega (arith, eqb-true (length b) 0 e))
    go false e g = absurd (let z : ◌≡◌ {A = ℕ} 0 1 = cc in omega arith)
prefix (f ∷ fs) at k b h l =
    go (ltb (length b) f.size) (f.right (take f.size b)) (ltb k f.size) refl refl refl h (λ g m. prefix fs (at + f.size) (k - f.size) (drop f.size b) g m)
  where
    same : (j : ℕ) → f.size ≤ k → j ≡ k - f.size → drop f.size (take k b) ≡ take j (drop f.size b)
    same j m e = let q : k ≡ f.size + j = omega arith in rw q (drop_take f.size j b)

    go : (t u v : Bool) → ltb (length b) f.size ≡ t → f.right (take f.size b) ≡ u → ltb k f.size ≡ v
        → pick t (Err at) (pick u (scan fs (at + f.size) (drop f.size b)) (Err at)) ≡ Ok tt
        → (scan fs (at + f.size) (drop f.size b) ≡ Ok tt → k - f.size < length (drop f.size b)
        → scan fs (at + f.size) (take (k - f.size) (drop f.size b)) ≡ Err (start_of fs (at + f.size) (at + f.size + (k - f.size))))
        → pick (ltb (length (take k b)) f.size) (Err at) (pick (f.right (take f.size (take k b))) (scan fs (at + f.size) (drop f.size (take k b))) (Err at))
        ≡ Err (pick (ltb (at + k) (at + f.size)) at (start_of fs (at + f.size) (at + k)))
    go true u v e i j g r = absurd (let z : ◌≡◌ {A = ℕ} 0 1 = cc in omega arith)
    go false false v e i j g r = absurd (let z : ◌≡◌ {A = ℕ} 0 1 = cc in omega arith)
    go false true true e i j g r =
        let n : length (take k b) ≡ k = length-take-le k b (omega arith) in
        let m : k < f.size = ltb-true k f.size j in
        rw (n, j, lt-ltb (at + k) (at + f.size) (omega arith))
    go false true false e i j g r =
        let n : length (take k b) ≡ k = length-take-le k b (omega arith) in
        let m : f.size ≤ k = ltb-false k f.size j in
        let q : at + f.size + (k - f.size) ≡ at + k = omega arith in
        let w : k - f.size < length (drop f.size b) = omega (arith, length-drop f.size b) in
        rw (n, j, le-ltb (at + k) (at + f.size) (omega arith), take-take f.size k b m, i, same (k - f.size) m refl) (rw q at (r g w))

-- the fields beyond the cut make no difference
abbrev sizes : List Field → ℕ
sizes [] = 0
sizes (f ∷ fs) = f.size + sizes fs

sizes_run : (n : ℕ) (f : Field) (fs : List Field) → sizes (replicate n f ++ fs) ≡ f.size * n + sizes fs
sizes_run zero f fs = omega arith
sizes_run (suc n) f fs = omega (arith, sizes_run n f fs)

beyond : (fs gs hs : List Field) (at : ℕ) (b : List ℕ) → length b < sizes fs → scan (fs ++ gs) at b ≡ scan (fs ++ hs) at b
unfolding scan
beyond [] gs hs at b l = absurd (omega arith)
beyond (f ∷ fs) gs hs at b l = go (ltb (length b) f.size) refl (λ m. beyond fs gs hs (at + f.size) (drop f.size b) m)
  where
    go : (t : Bool) → ltb (length b) f.size ≡ t → (length (drop f.size b) < sizes fs → scan (fs ++ gs) (at + f.size) (drop f.size b) ≡ scan (fs ++ hs) (at + f.size) (drop f.size b))
        → pick (ltb (length b) f.size) (Err at) (pick (f.right (take f.size b)) (scan (fs ++ gs) (at + f.size) (drop f.size b)) (Err at))
        ≡ pick (ltb (length b) f.size) (Err at) (pick (f.right (take f.size b)) (scan (fs ++ hs) (at + f.size) (drop f.size b)) (Err at))
    go true e r = rw e
    go false e r = rw (e, r (omega (arith, length-drop f.size b, ltb-false (length b) f.size e)))

abbrev first3 : List Field
first3 = count_is 1 ∷ width_byte ∷ word_count ∷ []

abbrev first7 : ℕ → ℕ → List Field
first7 w n = count_is 1 ∷ width_byte ∷ word_count ∷ (replicate n (word_field w) ++ (count_is n ∷ (replicate n response_field ++ (job_count ∷ []))))

sizes7 : (w n : ℕ) → sizes (first7 w n) ≡ items_at (jobs_at n)
sizes7 w n = omega (arith, sizes_run n (word_field w) (count_is n ∷ (replicate n response_field ++ (job_count ∷ []))), sizes_run n response_field (job_count ∷ []))

fields7 : (b : List ℕ) → fields_of b ≡ first7 (width_in b) (words_in b) ++ replicate (jobs_in b) (job_field (width_in b))
unfolding fields_of
fields7 b = simp append_assoc

-- the fields that the prefix says, as far as it reaches, are the fields of the whole
abbrev Alike : ℕ → List ℕ → Type 0
Alike k b = scan (fields_of (take k b)) 0 (take k b) ≡ scan (fields_of b) 0 (take k b)

early : (k : ℕ) (b : List ℕ) → k < length b → k < items_at words_at → Alike k b
unfolding fields_of
early k b l h = let n : length (take k b) ≡ k = length-take-le k b (omega arith) in beyond first3 _ _ 0 (take k b) (omega (arith, n))

late : (k : ℕ) (b : List ℕ) → k < length b → items_at words_at ≤ k → Alike k b
late k b l m = go (ltb k (items_at (jobs_at (words_in b)))) refl
  where
    n : length (take k b) ≡ k
    n = length-take-le k b (omega arith)

    w : width_in (take k b) ≡ width_in b
    w = ap value (before_cut k (items_at width_at) width_size b (omega arith))

    c : words_in (take k b) ≡ words_in b
    c = ap value (before_cut k words_at count_size b (omega arith))

    go : (t : Bool) → ltb k (items_at (jobs_at (words_in b))) ≡ t → Alike k b
    go true f =
        rw (fields7 (take k b), fields7 b, w, c)
        (beyond (first7 (width_in b) (words_in b)) _ _ 0 (take k b) (omega (arith, ltb-true k (items_at (jobs_at (words_in b))) f, sizes7 (width_in b) (words_in b), n)))
    go false f =
        let j : number_at count_size (jobs_at (words_in b)) (take k b) ≡ jobs_in b =
        ap value (before_cut k (jobs_at (words_in b)) count_size b (omega (arith, ltb-false k (items_at (jobs_at (words_in b))) f))) in
        rw (fields7 (take k b), fields7 b, w, c, j)

alike : (k : ℕ) (b : List ℕ) → k < length b → Alike k b
alike k b l = go (ltb k (items_at words_at)) refl
  where
    go : (t : Bool) → ltb k (items_at words_at) ≡ t → Alike k b
    go true e = early k b l (ltb-true k (items_at words_at) e)
    go false e = late k b l (ltb-false k (items_at words_at) e)

-- of bytes that are sound, a proper prefix is refused at the start of the field that it cuts
pub cut_off : (k : ℕ) (b : List ℕ) → scanned b ≡ Ok tt → k < length b → scanned (take k b) ≡ Err (start_of (fields_of b) 0 k)
unfolding scanned
cut_off k b h l = alike k b l ∙ prefix (fields_of b) 0 k b h l ∙ ap (λ (q : ℕ). Err (start_of (fields_of b) 0 q)) (zero-add k)

-- that start is at or before offset k (and, by definition, the field that starts there goes beyond k)
pub start_below : (fs : List Field) (at k : ℕ) → at ≤ k → start_of fs at k ≤ k
unfolding start_of
start_below [] at k h = h
start_below (f ∷ fs) at k h = go (ltb k (at + f.size)) refl (start_below fs (at + f.size) k)
  where
    go : (t : Bool) → ltb k (at + f.size) ≡ t → (at + f.size ≤ k → start_of fs (at + f.size) k ≤ k) → pick t at (start_of fs (at + f.size) k) ≤ k
    go true e r = h
    go false e r = r (ltb-false k (at + f.size) e)

-- so of an image
pub image_cut_off : (s : State) (k : ℕ) → Stored s → k < length (image_of s) → scanned (take k (image_of s)) ≡ Err (start_of (fields_of (image_of s)) 0 k)
image_cut_off s k t l = cut_off k (image_of s) (image_sound s t) l
