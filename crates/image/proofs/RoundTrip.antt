-- Theorem: the image of a machine is sound, and reads as that machine. So two machines with one image are one machine.
-- Document 01, 'The image': "the machine an image stands for is width, words, responses and job".
use Prim.Native.Nat.{ℕ, zero, suc, ◌^◌, ◌≤◌, ◌<◌}
use mathlib.Core.Path.{◌≡◌, refl, sym, ap, ap₂, ◌∙◌}
use mathlib.Core.Bool.{true, false, not, ◌||◌}
use mathlib.Core.List.{List, ◌∷◌, ◌++◌, append_assoc, append-nil}
use native.Mathlib.Omega.{arith}
use lib.Dec.{ltb, eqb}
use lib.ListN.{length, take, drop, replicate, length-append}
use lib.Pow.{pow_mono}
use lib.Seq.{take_at, drop_at, drop-drop}
use borrow.Author.Tests.{le-leb, eq-eqb, eqb-false}
use Rattle.std.specs.Prelude.{Ok}
use Rattle.machine.specs.Refusals.{bad_size, bad_width}
use Rattle.machine.proofs.Refusals as checks
use Rattle.job_plans.specs.declared.Job.{Job}
use Rattle.job_plans.specs.Fields.{Held}
use Rattle.jobs.specs.Runs.{State}
use Rattle.image_layout.specs.Sizes.{count_size, width_size, word_size, response_size, most_jobs, items_at, width_at, words_at, responses_at, jobs_at}
use Rattle.image_layout.specs.Format.{bytes, value, number_at, items, section, job_bytes, held_jobs, held_of, image_of, Under, AreResponses, JobsFit}
use Rattle.image_layout.specs.Reading.{Field, scan, count_is, word_count, width_byte, word_field, response_field, job_count, job_field, width_in, words_in, jobs_in, records, jobs_of, fields_of, scanned, numbers, state_in}
use Rattle.image_layout.proofs.Format.{under_more, length_bytes, length_items, value_bytes, held_jobs_lem, few_jobs}
use Rattle.image_stores.specs.Stored.{machine_bytes}
use Rattle.image.specs.Calls.{jobs_check, Stored}
use Rattle.image.proofs.WriteCalls.{whole, length_machine, same_size, few_words}
use Rattle.image.proofs.Sections.{passed, words_pass, responses_pass, jobs_pass, numbers_back, records_back, all_fit}

-- ---- what the checks show, as plain facts

pub record Plain (s : State) : Type 0 where
  pub narrow : s.machine.width ≤ 64
  pub width : bad_width s.machine.width ≡ false
  pub some : 1 ≤ length s.machine.words
  pub few : length s.machine.words ≤ 1024
  pub same : length s.machine.responses ≡ length s.machine.words
  pub words : Under (2 ^ s.machine.width) s.machine.words

size_some : (n k : ℕ) → bad_size n k ≡ false → 1 ≤ n
unfolding bad_size
size_some n k h = go n (eqb-false n 0 (checks.or_left (eqb n 0) (ltb 1024 n || not (eqb k n)) h))
  where
    go : (n : ℕ) → (n ≡ 0 → ⊥) → 1 ≤ n
    go zero g = absurd (g refl)
    go (suc n) g = omega arith

pub plain : (s : State) → Stored s → Plain s
plain s t =
    let m = checks.sound s.machine t.machine in
    record {
      narrow = checks.width_le s.machine.width m.width;
      width = m.width;
      some = size_some (length s.machine.words) (length s.machine.responses) m.size;
      few = few_words s.machine t.machine;
      same = same_size s.machine t.machine;
      words = all_fit s.machine.width 0 s.machine.words m.words;
    }

-- ---- what the image's bytes say

-- the image field after field
pub flat : (s : State) → image_of s
    ≡ bytes count_size 1 ++ (bytes width_size s.machine.width ++ (bytes count_size (length s.machine.words) ++ (items (bytes word_size) s.machine.words
    ++ (bytes count_size (length s.machine.responses) ++ (items (bytes response_size) s.machine.responses ++ section job_bytes (held_jobs s.held))))))
unfolding image_of items
flat s = simp (append-nil, append_assoc)

count_few : (k : ℕ) → k ≤ most_jobs → value (bytes count_size k) ≡ k
count_few k h = value_bytes count_size k (omega arith)

module _ (s : State) (p : Plain s) where
  width_back : width_in (image_of s) ≡ s.machine.width
  unfolding image_of bytes items
  width_back = value_bytes width_size s.machine.width (omega (arith, p.narrow))

  count_back : words_in (image_of s) ≡ length s.machine.words
  unfolding image_of bytes items
  count_back = value_bytes count_size (length s.machine.words) (omega (arith, p.few))

  words_back : numbers word_size (length s.machine.words) (drop (items_at words_at) (image_of s)) ≡ s.machine.words
  unfolding image_of bytes items
  words_back =
      numbers_back word_size s.machine.words _ (under_more (2 ^ s.machine.width) (2 ^ 64) s.machine.words (pow_mono p.narrow) p.words)

  -- from the job's count on
  job_part : drop (jobs_at (length s.machine.words)) (image_of s) ≡ section job_bytes (held_jobs s.held)
  job_part =
      rw (whole s) (drop_at (machine_bytes s.machine) _ (jobs_at (length s.machine.words)) (omega (arith, length_machine s.machine, p.same)))

  responses_back : AreResponses s.machine.responses
      → numbers response_size (length s.machine.words) (drop (items_at (responses_at (length s.machine.words))) (image_of s)) ≡ s.machine.responses
  responses_back u =
      let n = length s.machine.words in
      let q = bytes count_size 1 ++ (bytes width_size s.machine.width ++ (bytes count_size n ++ (items (bytes word_size) s.machine.words ++ bytes count_size (length s.machine.responses)))) in
      let e : image_of s ≡ q ++ (items (bytes response_size) s.machine.responses ++ section job_bytes (held_jobs s.held)) = flat s ∙ simp append_assoc in
      let l : length q ≡ items_at (responses_at n) = simp (length-append, length_bytes, length_items) (omega arith) in
      rw (e, drop_at q _ (items_at (responses_at n)) l, ← p.same) (numbers_back response_size s.machine.responses _ u)

  jobs_back : jobs_in (image_of s) ≡ length (held_jobs s.held)
  jobs_back =
      ap (λ (k : ℕ). number_at count_size (jobs_at k) (image_of s)) count_back
      ∙ ap (λ (x : List ℕ). value (take count_size x)) job_part
      ∙ ap value (take_at (bytes count_size (length (held_jobs s.held))) _ count_size (length_bytes count_size (length (held_jobs s.held))))
      ∙ count_few (length (held_jobs s.held)) (few_jobs s.held)

  record_part : drop (items_at (jobs_at (words_in (image_of s)))) (image_of s) ≡ items job_bytes (held_jobs s.held)
  record_part =
      ap (λ (k : ℕ). drop (items_at (jobs_at k)) (image_of s)) count_back
      ∙ sym (drop-drop count_size (jobs_at (length s.machine.words)) (image_of s))
      ∙ ap (drop count_size) job_part
      ∙ drop_at (bytes count_size (length (held_jobs s.held))) _ count_size (length_bytes count_size (length (held_jobs s.held)))

  held_back : JobsFit (held_jobs s.held) → held_of (jobs_of (image_of s)) ≡ s.held
  held_back c =
      ap held_of (ap₂ records jobs_back record_part ∙ records_back (held_jobs s.held) c) ∙ held_jobs_lem s.held

-- ---- the image's fields are passed one after the other

count_right : (k x : ℕ) → x < 256 ^ k → eqb (value (bytes k x)) x ≡ true
count_right k x h = eq-eqb (value (bytes k x)) x (value_bytes k x h)

section_passed : (w at : ℕ) (os : List Job) → length os ≤ most_jobs → jobs_check w os ≡ Ok tt → JobsFit os
    → scan (job_count ∷ replicate (length os) (job_field w)) at (section job_bytes os) ≡ Ok tt
section_passed w at os h g c =
    passed job_count _ at (bytes count_size (length os)) (items job_bytes os) (length_bytes count_size (length os))
    (rw (count_few (length os) h) (le-leb (length os) most_jobs h))
    ∙ jobs_pass w (items_at at) os g c

module _ (s : State) (t : Stored s) where
  fields_back : fields_of (image_of s)
      ≡ count_is 1 ∷ width_byte ∷ word_count ∷ (replicate (length s.machine.words) (word_field s.machine.width)
      ++ (count_is (length s.machine.words) ∷ (replicate (length s.machine.words) response_field
      ++ (job_count ∷ replicate (length (held_jobs s.held)) (job_field s.machine.width)))))
  unfolding fields_of
  fields_back = rw (jobs_back s (plain s t), width_back s (plain s t), count_back s (plain s t))

  pub image_sound : scanned (image_of s) ≡ Ok tt
  unfolding scanned
  image_sound =
      let p = plain s t in
      let w = s.machine.width in
      let n = length s.machine.words in
      let v : value (bytes width_size w) ≡ w = value_bytes width_size w (omega (arith, p.narrow)) in
      let c : value (bytes count_size n) ≡ n = value_bytes count_size n (omega (arith, p.few)) in
      let r = rw p.same at (responses_pass (items_at (responses_at n)) s.machine.responses (section job_bytes (held_jobs s.held)) (job_count ∷ replicate (length (held_jobs s.held)) (job_field w))) in
      ap₂ (λ (fs : List Field) (b : List ℕ). scan fs width_at b) fields_back (flat s)
      ∙ passed (count_is 1) _ width_at (bytes count_size 1) _ (length_bytes count_size 1) (count_right count_size 1 (omega arith))
      ∙ passed width_byte _ (items_at width_at) (bytes width_size w) _ (length_bytes width_size w) (ap (λ (x : ℕ). not (bad_width x)) v ∙ ap not p.width)
      ∙ passed word_count _ words_at (bytes count_size n) _ (length_bytes count_size n) (rw (c, le-leb 1 n p.some, le-leb n 1024 p.few))
      ∙ words_pass w (items_at words_at) s.machine.words _ _ p.narrow p.words
      ∙ passed (count_is n) _ (responses_at n) (bytes count_size (length s.machine.responses)) _ (length_bytes count_size (length s.machine.responses))
      (eq-eqb (value (bytes count_size (length s.machine.responses))) n (value_bytes count_size (length s.machine.responses) (omega (arith, p.same, p.few)) ∙ p.same))
      ∙ r
      ∙ section_passed w (jobs_at n) (held_jobs s.held) (few_jobs s.held) t.jobs t.typed

same_state : (s : State) (w : ℕ) (ws rs : List ℕ) (h : Held) → w ≡ s.machine.width → ws ≡ s.machine.words → rs ≡ s.machine.responses → h ≡ s.held
    → ◌≡◌ {A = State} (record { machine = record { width = w; words = ws; responses = rs }; held = h }) s
same_state s w ws rs h e f g i = rw (e, f, g, i)

-- the image of a machine reads as that machine
pub image_back : (s : State) → Stored s → state_in (image_of s) ≡ s
unfolding state_in
image_back s t =
    let p = plain s t in
    let c = count_back s p in
    same_state s _ _ _ _ (width_back s p)
    (ap (λ (n : ℕ). numbers word_size n (drop (items_at words_at) (image_of s))) c ∙ words_back s p)
    (ap (λ (n : ℕ). numbers response_size n (drop (items_at (responses_at n)) (image_of s))) c ∙ responses_back s p t.responses)
    (held_back s p t.typed)

pub round_trip : (s : State) → Stored s → (scanned (image_of s) ≡ Ok tt) × (state_in (image_of s) ≡ s)
round_trip s t = (image_sound s t, image_back s t)

-- two machines with one image are one machine
pub injective : (s t : State) → Stored s → Stored t → image_of s ≡ image_of t → s ≡ t
injective s t p q e = sym (image_back s p) ∙ ap state_in e ∙ image_back t q
