-- Sound bytes with more after them are refused at the first byte too many.
-- "The place in 9 is the offset .. of the first byte too many."
use Prim.Native.Nat.{ℕ, ◌+◌, ◌≤◌}
use mathlib.Core.Path.{◌≡◌, refl, sym, ap, ◌∙◌}
use mathlib.Core.Bool.{Bool, true, false}
use mathlib.Core.List.{List, [], ◌∷◌, ◌++◌}
use native.Mathlib.Omega.{arith}
use lib.Dec.{ltb}
use lib.ListN.{length, take, drop, length-append, length-drop}
use lib.Seq.{take-append-le, drop-append-le}
use borrow.Author.Tests.{le-ltb, ltb-false, ne_eqb}
use Rattle.std.specs.Prelude.{Ok, Err}
use Rattle.laws.specs.Bits.{pick}
use Rattle.image_layout.specs.Sizes.{count_size, width_size, items_at, width_at, words_at, jobs_at}
use Rattle.image_layout.specs.Format.{value, number_at}
use Rattle.image_layout.specs.Reading.{Field, scan, width_in, words_in, jobs_in, fields_of, scanned, Scanned}
use Rattle.image.proofs.Unique.{parsed}

not_sound : (at : ℕ) → ◌≡◌ {A = Scanned} (Err at) (Ok tt) → ⊥
not_sound at h = let z : ◌≡◌ {A = ℕ} 0 1 = cc in omega arith

module _ (x : ℕ) (more : List ℕ) where
  -- the same fields, with more bytes after the last
  scan_more : (fs : List Field) (at : ℕ) (b : List ℕ) → scan fs at b ≡ Ok tt → scan fs at (b ++ (x ∷ more)) ≡ Err (at + length b)
  unfolding scan
  scan_more [] at [] h =
      let e : at ≡ at + length {A = ℕ} [] = omega arith in
      ap (λ (t : Bool). pick t (Ok tt) (Err at)) (ne_eqb (length (x ∷ more)) 0 (λ q. omega arith)) ∙ ap (λ (k : ℕ). Err k) e
  scan_more [] at (y ∷ ys) h =
      absurd (not_sound at (ap (λ (t : Bool). pick t (Ok tt) (Err at)) (sym (ne_eqb (length (y ∷ ys)) 0 (λ q. omega arith))) ∙ h))
  scan_more (f ∷ fs) at b h =
      go (ltb (length b) f.size) (f.right (take f.size b)) refl refl h (λ g. scan_more fs (at + f.size) (drop f.size b) g)
    where
      go : (t u : Bool) → ltb (length b) f.size ≡ t → f.right (take f.size b) ≡ u
          → pick t (Err at) (pick u (scan fs (at + f.size) (drop f.size b)) (Err at)) ≡ Ok tt
          → (scan fs (at + f.size) (drop f.size b) ≡ Ok tt
          → scan fs (at + f.size) (drop f.size b ++ (x ∷ more)) ≡ Err (at + f.size + length (drop f.size b)))
          → pick (ltb (length (b ++ (x ∷ more))) f.size) (Err at)
          (pick (f.right (take f.size (b ++ (x ∷ more)))) (scan fs (at + f.size) (drop f.size (b ++ (x ∷ more)))) (Err at))
          ≡ Err (at + length b)
      go true u e i g r = absurd (not_sound at g)
      go false false e i g r = absurd (not_sound at g)
      go false true e i g r =
          let m : f.size ≤ length b = ltb-false (length b) f.size e in
          let q : at + f.size + length (drop f.size b) ≡ at + length b = omega (arith, length-drop f.size b) in
          rw (
            le-ltb (length (b ++ (x ∷ more))) f.size (omega (arith, length-append b (x ∷ more))),
            take-append-le f.size b (x ∷ more) m,
            i,
            drop-append-le f.size b (x ∷ more) m,
          )
          (r g ∙ ap (λ (k : ℕ). Err k) q)

-- what stands within the first bytes is read the same
number_more : (k at : ℕ) (b c : List ℕ) → at + k ≤ length b → number_at k at (b ++ c) ≡ number_at k at b
number_more k at b c h =
    ap (λ (s : List ℕ). value (take k s)) (drop-append-le at b c (omega arith))
    ∙ ap value (take-append-le k (drop at b) c (omega (arith, length-drop at b)))

fields_more : (b c : List ℕ) → scanned b ≡ Ok tt → fields_of (b ++ c) ≡ fields_of b
unfolding fields_of
fields_more b c h =
    let l = (parsed b h).long in
    let w : width_in (b ++ c) ≡ width_in b = number_more width_size (items_at width_at) b c (omega (arith, l)) in
    let n : words_in (b ++ c) ≡ words_in b = number_more count_size words_at b c (omega (arith, l)) in
    let j : number_at count_size (jobs_at (words_in b)) (b ++ c) ≡ jobs_in b = number_more count_size (jobs_at (words_in b)) b c (omega (arith, l)) in
    rw (w, n, j)

pub too_many : (b : List ℕ) (x : ℕ) (more : List ℕ) → scanned b ≡ Ok tt → scanned (b ++ (x ∷ more)) ≡ Err (length b)
unfolding scanned
too_many b x more h =
    ap (λ (fs : List Field). scan fs 0 (b ++ (x ∷ more))) (fields_more b (x ∷ more) h) ∙ scan_more x more (fields_of b) 0 b h ∙ (let e : 0 + length b ≡ length b = omega arith in ap (λ (k : ℕ). Err k) e)
