-- One field and runs of fields: what looking at them comes to. b is always the whole of the bytes, `at` a place in them.
use Prim.Native.Nat.{ℕ, zero, suc, ◌+◌, ◌*◌, ◌-◌, ◌%◌, ◌≤◌, ◌<◌}
use mathlib.Core.Path.{◌≡◌, refl, sym, ap, ◌∙◌}
use mathlib.Core.Bool.{Bool, true, false}
use mathlib.Core.List.{List, [], ◌∷◌, ◌++◌, append-nil}
use native.Mathlib.Nat.{add-zero, mul-zero}
use native.Mathlib.Omega.{arith}
use lib.Dec.{ltb, leb}
use lib.ListN.{length, take, drop, replicate, length-drop}
use lib.Seq.{drop-drop}
use borrow.Author.Tests.{lt-ltb, le-ltb, lt-leb, ltb-false, leb-true, leb-false, eq-eqb, ne_eqb}
use Rattle.std.specs.Prelude.{Ok, Err, IsErrAnd, Some, None}
use Rattle.laws.specs.Bits.{pick}
use Rattle.laws.proofs.Bits.{and_left, and_right}
use Rattle.image_layout.specs.Sizes.{count_size, word_size, response_size, record_size, most_jobs, items_at, past_section, width_at, words_at, responses_at, jobs_at}
use Rattle.image_layout.specs.Format.{number_at, job_of, held_of}
use Rattle.image_layout.specs.Reading.{Field, scan, count_is, word_count, width_byte, word_field, response_field, job_count, job_field, width_in, words_in, jobs_in, records, fields_of, scanned, Scanned}
use Rattle.image_parts.specs.Parts.{holds, onward, job_fields, after_words}

-- what `?` hands on is the very place
pub handed : (d : Scanned) (e at : ℕ) → IsErrAnd d (λ y. y ≡ e) → e ≡ at → d ≡ Err at
handed (Ok u) e at h g = absurd h
handed (Err y) e at h g = ap (λ (q : ℕ). Err q) (h ∙ g)

-- ---- one field

pub holds_cut : (f : Field) (b : List ℕ) (at : ℕ) → length b - at < f.size → false ≡ holds f (drop at b)
unfolding holds
holds_cut f b at g = rw (lt-ltb (length (drop at b)) f.size (rw length-drop g))

-- so in the code's terms
pub cut_off : (f : Field) (b : List ℕ) (at : ℕ) → length b - at < f.size → leb f.size (length b - at) ≡ holds f (drop at b)
cut_off f b at g = lt-leb f.size (length b - at) g ∙ holds_cut f b at g

pub holds_read : (f : Field) (b : List ℕ) (at : ℕ) (r : Bool) → f.size ≤ length b - at → r ≡ f.right (take f.size (drop at b)) → r ≡ holds f (drop at b)
unfolding holds
holds_read f b at r g e = rw (le-ltb (length (drop at b)) f.size (rw length-drop g)) e

-- a field that holds: it fits, and it is right
pub record Held (f : Field) (b : List ℕ) (at : ℕ) : Type 0 where
  pub fits : at + f.size ≤ length b
  pub right : f.right (take f.size (drop at b)) ≡ true

pub held : (f : Field) (b : List ℕ) (at : ℕ) → at ≤ length b → holds f (drop at b) ≡ true → Held f b at
unfolding holds
held f b at l h = go (ltb (length (drop at b)) f.size) refl h
  where
    go : (t : Bool) → ltb (length (drop at b)) f.size ≡ t → pick t false (f.right (take f.size (drop at b))) ≡ true → Held f b at
    go true e g = absurd (let z : ◌≡◌ {A = ℕ} 0 1 = cc in omega arith)
    go false e g = record { fits = omega (arith, ltb-false (length (drop at b)) f.size e, length-drop at b); right = g }

pub fits : (f : Field) (b : List ℕ) (at : ℕ) → at ≤ length b → holds f (drop at b) ≡ true → at + f.size ≤ length b
fits f b at l h = (held f b at l h).fits

pub field_wrong : (f : Field) (fs : List Field) (b : List ℕ) (at : ℕ) → holds f (drop at b) ≡ false → scan (f ∷ fs) at (drop at b) ≡ Err at
unfolding holds scan
field_wrong f fs b at h = go (ltb (length (drop at b)) f.size) (f.right (take f.size (drop at b))) h
  where
    go : (t u : Bool) → pick t false u ≡ false → pick t (Err at) (pick u (scan fs (at + f.size) (drop f.size (drop at b))) (Err at)) ≡ Err at
    go true u e = refl
    go false true e = cc
    go false false e = refl

pub field_right : (f : Field) (fs : List Field) (b : List ℕ) (at : ℕ) → holds f (drop at b) ≡ true
    → scan (f ∷ fs) at (drop at b) ≡ scan fs (at + f.size) (drop (at + f.size) b)
unfolding holds scan
field_right f fs b at h =
    go (ltb (length (drop at b)) f.size) (f.right (take f.size (drop at b))) h ∙ ap (scan fs (at + f.size)) (drop-drop f.size at b)
  where
    go : (t u : Bool) → pick t false u ≡ true
        → pick t (Err at) (pick u (scan fs (at + f.size) (drop f.size (drop at b))) (Err at)) ≡ scan fs (at + f.size) (drop f.size (drop at b))
    go true u e = cc
    go false true e = refl
    go false false e = cc

-- ---- after the last field

pub too_many : (b : List ℕ) (at : ℕ) → at < length b → scan [] at (drop at b) ≡ Err at
unfolding scan
too_many b at h = rw (ne_eqb (length (drop at b)) 0 (λ e. omega (arith, length-drop at b, e)))

pub all_read : (b : List ℕ) (at : ℕ) → length b ≤ at → scan [] at (drop at b) ≡ Ok tt
unfolding scan
all_read b at h = rw (eq-eqb (length (drop at b)) 0 (omega (arith, length-drop at b)))

-- ---- runs of fields

pub one_more : (n i : ℕ) (f : Field) (fs : List Field) → i < n → replicate (n - i) f ++ fs ≡ f ∷ (replicate (n - (i + 1)) f ++ fs)
one_more n i f fs h = let e : n - i ≡ suc (n - (i + 1)) = omega arith in rw e

pub no_more : (n : ℕ) (f : Field) (fs : List Field) → replicate (n - n) f ++ fs ≡ fs
no_more n f fs = let e : n - n ≡ 0 = omega arith in rw e

-- any bytes are a response
responds : (b : List ℕ) (p : ℕ) → p + response_size ≤ length b → holds response_field (drop p b) ≡ true
responds b p h = sym (holds_read response_field b p true (omega arith) refl)

pub responses_right : (b : List ℕ) (n p : ℕ) (fs : List Field) → p + response_size * n ≤ length b
    → scan (replicate n response_field ++ fs) p (drop p b) ≡ scan fs (p + response_size * n) (drop (p + response_size * n) b)
responses_right b zero p fs h = rw add-zero
responses_right b (suc n) p fs h =
    let e : p + response_size + response_size * n ≡ p + response_size * suc n = omega arith in
    field_right response_field _ b p (responds b p (omega arith)) ∙ responses_right b n (p + response_size) fs (omega arith) ∙ ap (λ (q : ℕ). scan fs q (drop q b)) e

-- the first that is not whole: after as many as fit
pub responses_cut : (b : List ℕ) (n p : ℕ) (fs : List Field) → p ≤ length b → length b < p + response_size * n
    → scan (replicate n response_field ++ fs) p (drop p b) ≡ Err (length b - (length b - p) % response_size)
responses_cut b zero p fs h g = absurd (omega arith)
responses_cut b (suc n) p fs h g = go (leb (p + response_size) (length b)) refl (λ k l. responses_cut b n (p + response_size) fs k l)
  where
    go : (t : Bool) → leb (p + response_size) (length b) ≡ t
        → (p + response_size ≤ length b → length b < p + response_size + response_size * n
        → scan (replicate n response_field ++ fs) (p + response_size) (drop (p + response_size) b) ≡ Err (length b - (length b - (p + response_size)) % response_size))
        → scan (replicate (suc n) response_field ++ fs) p (drop p b) ≡ Err (length b - (length b - p) % response_size)
    go true e r =
        let l : p + response_size ≤ length b = leb-true (p + response_size) (length b) e in
        let f : length b - (length b - (p + response_size)) % response_size ≡ length b - (length b - p) % response_size = omega arith in
        field_right response_field _ b p (responds b p l) ∙ r l (omega arith) ∙ ap (λ (q : ℕ). Err q) f
    go false e r =
        let l : length b < p + response_size = leb-false (p + response_size) (length b) e in
        let f : p ≡ length b - (length b - p) % response_size = omega arith in
        field_wrong response_field _ b p (sym (holds_cut response_field b p (omega arith))) ∙ ap (λ (q : ℕ). Err q) f

-- ---- what sound bytes show, field by field

pub record Next (f : Field) (fs : List Field) (b : List ℕ) (at : ℕ) : Type 0 where
  pub held : Held f b at
  pub rest : scan fs (at + f.size) (drop (at + f.size) b) ≡ Ok tt

pub next : (f : Field) (fs : List Field) (b : List ℕ) (at : ℕ) → at ≤ length b → scan (f ∷ fs) at (drop at b) ≡ Ok tt → Next f fs b at
next f fs b at l h = go (holds f (drop at b)) refl
  where
    go : (t : Bool) → holds f (drop at b) ≡ t → Next f fs b at
    go true e = record { held = held f b at l e; rest = sym (field_right f fs b at e) ∙ h }
    go false e = absurd (let g : scan (f ∷ fs) at (drop at b) ≡ Err at = field_wrong f fs b at e in let z : ◌≡◌ {A = ℕ} 0 1 = cc in omega arith)

-- n like fields
pub run : (f : Field) (n : ℕ) (fs : List Field) (b : List ℕ) (at : ℕ) → at ≤ length b → scan (replicate n f ++ fs) at (drop at b) ≡ Ok tt
    → (at + f.size * n ≤ length b) × (scan fs (at + f.size * n) (drop (at + f.size * n) b) ≡ Ok tt)
run f zero fs b at l h = let e : at + f.size * 0 ≡ at = omega (arith, mul-zero f.size) in (omega (arith, mul-zero f.size), rw e h)
run f (suc n) fs b at l h =
    let s = next f (replicate n f ++ fs) b at l h in
    let r = run f n fs b (at + f.size) s.held.fits s.rest in
    let e : at + f.size + f.size * n ≡ at + f.size * suc n = omega arith in
    (omega (arith, r.0), rw (← e) r.1)

-- how long sound bytes are, and how many words they can have
pub record Long (b : List ℕ) : Type 0 where
  pub few : words_in b ≤ 1024
  pub room : past_section (jobs_at (words_in b)) record_size (jobs_in b) ≤ length b
  pub some : 1 ≤ words_in b

pub long : (b : List ℕ) → scanned b ≡ Ok tt → Long b
unfolding scanned fields_of
long b h =
    let n = words_in b in
    let f0 = next (count_is 1) _ b width_at (omega arith) h in
    let f1 = next width_byte _ b (items_at width_at) f0.held.fits f0.rest in
    let f2 = next word_count _ b words_at f1.held.fits f1.rest in
    let f3 = run (word_field (width_in b)) n _ b (items_at words_at) f2.held.fits f2.rest in
    let f4 = next (count_is n) _ b (responses_at n) f3.0 f3.1 in
    let f5 = run response_field n _ b (items_at (responses_at n)) f4.held.fits f4.rest in
    let f6 = next job_count _ b (jobs_at n) f5.0 f5.1 in
    let f7 = run (job_field (width_in b)) (jobs_in b) [] b (items_at (jobs_at n)) f6.held.fits (rw append-nil f6.rest) in
    record {
      few = leb-true n 1024 (and_right (leb 1 n) (leb n 1024) f2.held.right);
      room = f7.0;
      some = leb-true 1 n (and_left (leb 1 n) (leb n 1024) f2.held.right);
    }

-- ---- the code's own steps

pub word_step : (w i : ℕ) (b : List ℕ) (fs : List Field) → holds (word_field w) (drop (responses_at i) b) ≡ true
    → scan (word_field w ∷ fs) (responses_at i) (drop (responses_at i) b) ≡ scan fs (responses_at (i + 1)) (drop (responses_at (i + 1)) b)
word_step w i b fs h =
    let e : responses_at i + word_size ≡ responses_at (i + 1) = omega arith in
    field_right (word_field w) fs b (responses_at i) h ∙ ap (λ (q : ℕ). scan fs q (drop q b)) e

module _ (w n : ℕ) (b : List ℕ) (h : holds (count_is n) (drop (responses_at n) b) ≡ true) where
  pub after_cut : responses_at n ≤ length b → length b - items_at (responses_at n) < response_size * n
      → scan (after_words w n b) (responses_at n) (drop (responses_at n) b) ≡ Err (length b - (length b - items_at (responses_at n)) % response_size)
  after_cut l g =
      let f : items_at (responses_at n) ≤ length b = (held (count_is n) b (responses_at n) l h).fits in
      field_right (count_is n) _ b (responses_at n) h ∙ responses_cut b n (items_at (responses_at n)) _ f (omega arith)

  pub after_right : jobs_at n ≤ length b
      → scan (after_words w n b) (responses_at n) (drop (responses_at n) b) ≡ scan (job_fields w (jobs_at n) b) (jobs_at n) (drop (jobs_at n) b)
  after_right g = field_right (count_is n) _ b (responses_at n) h ∙ responses_right b n (items_at (responses_at n)) _ g

module _ (w at : ℕ) (b : List ℕ) (h : holds job_count (drop at b) ≡ true) where
  pub job_none : number_at count_size at b ≡ 0 → scan (job_fields w at b) at (drop at b) ≡ scan [] (items_at at) (drop (items_at at) b)
  job_none e = field_right job_count _ b at h ∙ ap (λ (k : ℕ). scan (replicate k (job_field w)) (items_at at) (drop (items_at at) b)) e

  pub job_one : at ≤ length b → (number_at count_size at b ≡ 0 → ⊥)
      → scan (job_fields w at b) at (drop at b) ≡ scan (job_field w ∷ []) (items_at at) (drop (items_at at) b)
  job_one l g =
      let f : number_at count_size at b ≤ most_jobs = leb-true (number_at count_size at b) most_jobs (held job_count b at l h).right in
      field_right job_count _ b at h ∙ ap (λ (k : ℕ). scan (replicate k (job_field w)) (items_at at) (drop (items_at at) b)) (one (number_at count_size at b) f g)
    where
      one : (v : ℕ) → v ≤ most_jobs → (v ≡ 0 → ⊥) → v ≡ 1
      one zero p q = absurd (q refl)
      one (suc v) p q = omega arith

pub job_end : (w at : ℕ) (b : List ℕ) → holds (job_field w) (drop at b) ≡ true
    → scan (job_field w ∷ []) at (drop at b) ≡ scan [] (at + record_size) (drop (at + record_size) b)
job_end w at b h = field_right (job_field w) [] b at h

-- the held job of a count that is 0, or not
pub none_held : (v : ℕ) (b : List ℕ) → v ≡ 0 → None ≡ held_of (records v b)
unfolding records
none_held v b e = rw e

pub one_held : (v : ℕ) (b : List ℕ) → (v ≡ 0 → ⊥) → Some (job_of (take record_size b)) ≡ held_of (records v b)
unfolding records
one_held zero b g = absurd (g refl)
one_held (suc v) b g = refl

-- the first three fields

pub head_count : (b : List ℕ) → holds (count_is 1) b ≡ false → Err width_at ≡ scanned b
unfolding scanned fields_of
head_count b h = sym (field_wrong (count_is 1) _ b width_at h)

module _ (b : List ℕ) (h : holds (count_is 1) b ≡ true) where
  pub head_width : holds width_byte (drop (items_at width_at) b) ≡ false → Err (items_at width_at) ≡ scanned b
  unfolding scanned fields_of
  head_width g = sym (field_right (count_is 1) _ b width_at h ∙ field_wrong width_byte _ b (items_at width_at) g)

  pub head_words : holds width_byte (drop (items_at width_at) b) ≡ true → holds word_count (drop words_at b) ≡ false → Err words_at ≡ scanned b
  unfolding scanned fields_of
  head_words g f = sym (field_right (count_is 1) _ b width_at h ∙ field_right width_byte _ b (items_at width_at) g ∙ field_wrong word_count _ b words_at f)

-- so they fit, and there are not too many words

pub first_fits : (b : List ℕ) → holds (count_is 1) b ≡ true → items_at width_at ≤ length b
first_fits b h = fits (count_is 1) b width_at (omega arith) h

pub second_fits : (b : List ℕ) → items_at width_at ≤ length b → holds width_byte (drop (items_at width_at) b) ≡ true → words_at ≤ length b
second_fits b l h = fits width_byte b (items_at width_at) l h

pub third_fits : (b : List ℕ) → words_at ≤ length b → holds word_count (drop words_at b) ≡ true → items_at words_at ≤ length b
third_fits b l h = fits word_count b words_at l h

pub few_words : (b : List ℕ) → words_at ≤ length b → holds word_count (drop words_at b) ≡ true → words_in b ≤ 1024
few_words b l h = leb-true (words_in b) 1024 (and_right (leb 1 (words_in b)) (leb (words_in b) 1024) (held word_count b words_at l h).right)

-- what is left are the words, and what comes after them
pub head : (b : List ℕ) → holds (count_is 1) b ≡ true → holds width_byte (drop (items_at width_at) b) ≡ true → holds word_count (drop words_at b) ≡ true
    → scanned b ≡ scan (replicate (words_in b) (word_field (width_in b)) ++ after_words (width_in b) (words_in b) b) (items_at words_at) (drop (items_at words_at) b)
unfolding scanned fields_of
head b h g f = field_right (count_is 1) _ b width_at h ∙ field_right width_byte _ b (items_at width_at) g ∙ field_right word_count _ b words_at f

-- the words, by what looking at them found
module _ (b : List ℕ) (w n : ℕ) (r : Scanned)
    (t : scanned b ≡ scan (replicate (words_in b) (word_field (width_in b)) ++ after_words (width_in b) (words_in b) b) (items_at words_at) (drop (items_at words_at) b))
    (v : w ≡ width_in b) (e : n ≡ words_in b)
    (h : (fs : List Field) → scan (replicate n (word_field w) ++ fs) (items_at words_at) (drop (items_at words_at) b) ≡ onward r (scan fs (responses_at n) (drop (responses_at n) b))) where
  pub words_broken : (at : ℕ) → r ≡ Err at → Err at ≡ scanned b
  words_broken at g =
      let f = rw (e, v) at (h (after_words w n b)) in
      sym (t ∙ f ∙ rw g)

  pub words_sound : (q : Scanned) → r ≡ Ok tt → q ≡ scan (after_words w n b) (responses_at n) (drop (responses_at n) b) → q ≡ scanned b
  words_sound q g i =
      let f = rw (e, v) at (h (after_words w n b)) in
      let j = rw (e, v) at i in
      sym (t ∙ f ∙ rw g (sym j))

-- what the check cites where a field is judged
pub ruleset judged = (handed, fits, first_fits, second_fits, third_fits, few_words, field_wrong, head_count, head_width, head_words)
