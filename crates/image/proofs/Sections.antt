-- Sections written and sections read: a field that is written right is passed, and bytes that are taken are the bytes of what they say.
use Prim.Native.Nat.{ℕ, zero, suc, ◌+◌, ◌*◌, ◌^◌, ◌≤◌}
use mathlib.Core.Path.{◌≡◌, refl, sym, ap, ap₂, ◌∙◌}
use mathlib.Core.Bool.{Bool, true, false, not}
use mathlib.Core.List.{List, [], ◌∷◌, ◌++◌, append_assoc}
use native.Mathlib.Nat.{add-zero, mul-zero}
use native.Mathlib.Omega.{arith}
use lib.Dec.{ltb, eqb}
use lib.ListN.{length, take, drop, replicate, length-append, length-drop, take-append-drop}
use lib.Pow.{pow_mono}
use lib.Seq.{take_at, drop_at, drop-drop, length-take-le}
use borrow.Author.Tests.{le-ltb, lt-leb, leb-false, ne_eqb, not-true}
use Rattle.std.specs.Prelude.{Some, None, Ok, Err}
use Rattle.laws.specs.Bits.{pick}
use Rattle.machine.specs.Resolution.{lowest}
use Rattle.machine.specs.Refusals.{too_wide, passes}
use Rattle.machine.proofs.Refusals.{else_passed}
use Rattle.job_plans.specs.declared.Job.{Job}
use Rattle.job_plans.specs.Places.{held_check}
use Rattle.image_layout.specs.Sizes.{word_size, response_size, record_size}
use Rattle.image_layout.specs.Format.{bytes, value, number_at, items, job_bytes, job_of, Under, AreBytes, JobFits, JobsFit}
use Rattle.image_layout.specs.Reading.{Field, scan, word_field, response_field, job_field, numbers, records}
use Rattle.image_layout.proofs.Format.{under_take, under_drop, length_bytes, value_bytes, number_lt, number_cut, length_job, job_back, job_law, job_fits}
use Rattle.image_parts.proofs.Parts.{next}
use Rattle.image.specs.Calls.{jobs_check}

-- ---- written: a field that is right is passed

pub passed : (f : Field) (fs : List Field) (at : ℕ) (s b : List ℕ) → length s ≡ f.size → f.right s ≡ true → scan (f ∷ fs) at (s ++ b) ≡ scan fs (at + f.size) b
unfolding scan
passed f fs at s b e h =
    let l : ltb (length (s ++ b)) f.size ≡ false = le-ltb (length (s ++ b)) f.size (omega (arith, length-append s b)) in
    rw (l, take_at s b f.size e, drop_at s b f.size e, h)

pub words_pass : (w at : ℕ) (ws b : List ℕ) (fs : List Field) → w ≤ 64 → Under (2 ^ w) ws
    → scan (replicate (length ws) (word_field w) ++ fs) at (items (bytes word_size) ws ++ b) ≡ scan fs (at + word_size * length ws) b
unfolding items
words_pass w at [] b fs h u = rw add-zero
words_pass w at (x ∷ ws) b fs h u =
    let lim : 2 ^ w ≤ 2 ^ 64 = pow_mono h in
    let ok : not (too_wide w (value (bytes word_size x))) ≡ true = rw (value_bytes word_size x (omega arith), lt-leb (2 ^ w) x u.0) in
    let e : at + word_size + word_size * length ws ≡ at + word_size * suc (length ws) = omega arith in
    rw append_assoc (passed (word_field w) _ at (bytes word_size x) (items (bytes word_size) ws ++ b) (length_bytes word_size x) ok
    ∙ words_pass w (at + word_size) ws b fs h u.1 ∙ ap (λ (q : ℕ). scan fs q b) e)

pub responses_pass : (at : ℕ) (rs b : List ℕ) (fs : List Field)
    → scan (replicate (length rs) response_field ++ fs) at (items (bytes response_size) rs ++ b) ≡ scan fs (at + response_size * length rs) b
unfolding items
responses_pass at [] b fs = rw add-zero
responses_pass at (x ∷ rs) b fs =
    let e : at + response_size + response_size * length rs ≡ at + response_size * suc (length rs) = omega arith in
    rw append_assoc (passed response_field _ at (bytes response_size x) (items (bytes response_size) rs ++ b) (length_bytes response_size x) refl
    ∙ responses_pass (at + response_size) rs b fs ∙ ap (λ (q : ℕ). scan fs q b) e)

pub jobs_pass : (w at : ℕ) (os : List Job) → jobs_check w os ≡ Ok tt → JobsFit os → scan (replicate (length os) (job_field w)) at (items job_bytes os) ≡ Ok tt
unfolding items scan
jobs_pass w at [] g c = refl
jobs_pass w at (o ∷ os) g c =
    let a = else_passed (held_check w o) (jobs_check w os) g in
    passed (job_field w) (replicate (length os) (job_field w)) at (job_bytes o) (items job_bytes os) (length_job o) (ap (λ (q : Job). passes (held_check w q)) (job_back o c.0) ∙ ap passes a.0)
    ∙ jobs_pass w (at + record_size) os a.1 c.1

-- numbers written in k bytes each are read back
pub numbers_back : (k : ℕ) (xs b : List ℕ) → Under (256 ^ k) xs → numbers k (length xs) (items (bytes k) xs ++ b) ≡ xs
unfolding items numbers
numbers_back k [] b u = refl
numbers_back k (x ∷ xs) b u =
    rw (
      append_assoc,
      take_at (bytes k x) (items (bytes k) xs ++ b) k (length_bytes k x),
      drop_at (bytes k x) (items (bytes k) xs ++ b) k (length_bytes k x),
      value_bytes k x u.0,
      numbers_back k xs b u.1,
    )

-- so are records
pub records_back : (os : List Job) → JobsFit os → records (length os) (items job_bytes os) ≡ os
unfolding items records
records_back [] c = refl
records_back (o ∷ os) c =
    rw (
      take_at (job_bytes o) (items job_bytes os) record_size (length_job o),
      drop_at (job_bytes o) (items job_bytes os) record_size (length_job o),
      job_back o c.0,
      records_back os c.1,
    )

-- words that 3 has nothing against
pub all_fit : (n k : ℕ) (ws : List ℕ) → lowest (too_wide n) k ws ≡ None → Under (2 ^ n) ws
unfolding lowest
all_fit n k [] h = tt
all_fit n k (w ∷ ws) h = go (too_wide n w) refl h (all_fit n (suc k) ws)
  where
    go : (t : Bool) → too_wide n w ≡ t → pick t (Some (record { 0 = k })) (lowest (too_wide n) (suc k) ws) ≡ None
        → (lowest (too_wide n) (suc k) ws ≡ None → Under (2 ^ n) ws) → Under (2 ^ n) (w ∷ ws)
    go true e g r = absurd (let z : ◌≡◌ {A = ℕ} 0 1 = cc in omega arith)
    go false e g r = (leb-false (2 ^ n) w e, r g)

-- ---- read: bytes are the bytes of what they say

module _ (b : List ℕ) (u : AreBytes b) where
  pub items_cut : (k n at : ℕ) → at + k * n ≤ length b → drop at b ≡ items (bytes k) (numbers k n (drop at b)) ++ drop (at + k * n) b
  unfolding items numbers
  items_cut k zero at h = rw (mul-zero, add-zero)
  items_cut k (suc n) at h =
      let e : at + k + k * n ≡ at + k * suc n = omega arith in
      let r = items_cut k n (at + k) (omega arith) in
      number_cut b u k at (omega arith) ∙ rw (← e, append_assoc, drop-drop, ← r)

  pub numbers_under : (k n at : ℕ) → at + k * n ≤ length b → Under (256 ^ k) (numbers k n (drop at b))
  unfolding numbers
  numbers_under k zero at h = tt
  numbers_under k (suc n) at h = (number_lt b u k at (omega arith), rw drop-drop (numbers_under k n (at + k) (omega arith)))

  module _ (at : ℕ) (h : at + record_size ≤ length b) where
    length_record : length (take record_size (drop at b)) ≡ record_size
    length_record = length-take-le record_size (drop at b) (omega (arith, length-drop at b))

    record_bytes : AreBytes (take record_size (drop at b))
    record_bytes = under_take 256 record_size (drop at b) (under_drop 256 at b u)

    pub job_typed : JobFits (job_of (take record_size (drop at b)))
    job_typed = job_fits (take record_size (drop at b)) length_record record_bytes

    pub job_cut : drop at b ≡ job_bytes (job_of (take record_size (drop at b))) ++ drop (at + record_size) b
    job_cut =
        sym (take-append-drop record_size (drop at b))
        ∙ ap₂ (λ (x y : List ℕ). x ++ y) (sym (job_law (take record_size (drop at b)) length_record record_bytes)) (drop-drop record_size at b)

-- the words that fields of sound bytes say
pub words_held : (w n : ℕ) (fs : List Field) (b : List ℕ) (at : ℕ) → at ≤ length b → scan (replicate n (word_field w) ++ fs) at (drop at b) ≡ Ok tt
    → Under (2 ^ w) (numbers word_size n (drop at b))
unfolding numbers
words_held w zero fs b at l h = tt
words_held w (suc n) fs b at l h =
    let s = next (word_field w) (replicate n (word_field w) ++ fs) b at l h in (
      leb-false (2 ^ w) (number_at word_size at b) (not-true _ s.held.right),
      rw drop-drop (words_held w n fs b (at + word_size) s.held.fits s.rest),
    )

pub none_wide : (n k : ℕ) (ws : List ℕ) → Under (2 ^ n) ws → lowest (too_wide n) k ws ≡ None
unfolding lowest
none_wide n k [] u = refl
none_wide n k (w ∷ ws) u = rw (lt-leb (2 ^ n) w u.0) (none_wide n (suc k) ws u.1)

-- nothing after the last field
pub nothing_left : (b : List ℕ) (at : ℕ) → scan [] at (drop at b) ≡ Ok tt → drop at b ≡ []
unfolding scan
nothing_left b at h = go (drop at b) h
  where
    go : (s : List ℕ) → scan [] at s ≡ Ok tt → s ≡ []
    go [] e = refl
    go (x ∷ s) e =
        let f : eqb (length (x ∷ s)) 0 ≡ false = ne_eqb (length (x ∷ s)) 0 (λ q. omega (arith, q)) in
        let g : Err at ≡ Ok tt = rw f at e in
        absurd (let z : ◌≡◌ {A = ℕ} 0 1 = cc in omega arith)
