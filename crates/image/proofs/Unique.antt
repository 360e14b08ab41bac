-- Theorem: bytes that are sound are the image of the machine that they say. So the bytes that read as a machine are its one image,
-- and sound bytes give a machine and a job that pass every check of writing but room, so that they can be stored and stepped again.
-- Document 01, 'The image' and number 9.
use Prim.Native.Nat.{ℕ, zero, suc, ◌+◌, ◌^◌, ◌≤◌}
use mathlib.Core.Path.{◌≡◌, refl, sym, ap, ◌∙◌}
use mathlib.Core.Bool.{true, false}
use mathlib.Core.List.{List, ◌++◌}
use native.Mathlib.Omega.{arith}
use lib.Dec.{leb}
use lib.ListN.{length, take, drop, replicate}
use lib.Seq.{drop-drop}
use borrow.Author.Tests.{leb-true, eqb-true, eq-eqb, ne_eqb, le-ltb, not-true}
use Rattle.std.specs.Prelude.{Ok, Err}
use Rattle.laws.proofs.Bits.{and_left, and_right}
use Rattle.machine.specs.Refusals.{bad_size, bad_width, passes, machine_check, Check}
use Rattle.job_plans.specs.declared.Job.{Job}
use Rattle.job_plans.specs.Places.{held_check}
use Rattle.jobs.specs.Runs.{State}
use Rattle.image_layout.specs.Sizes.{count_size, width_size, word_size, response_size, record_size, most_jobs, items_at, width_at, words_at, responses_at, jobs_at}
use Rattle.image_layout.specs.Format.{bytes, number_at, items, job_bytes, job_of, held_jobs, held_of, image_of, Under, AreBytes, JobsFit}
use Rattle.image_layout.specs.Reading.{scan, count_is, word_count, width_byte, word_field, response_field, job_count, job_field, width_in, words_in, jobs_in, records, jobs_of, fields_of, scanned, numbers, state_in}
use Rattle.image_layout.proofs.Format.{number_cut, jobs_held}
use Rattle.image_layout.proofs.Reading.{length_numbers, length_records}
use Rattle.image_parts.proofs.Parts.{next, run}
use Rattle.image.specs.Calls.{jobs_check, Stored}
use Rattle.image.proofs.Sections.{items_cut, numbers_under, job_cut, job_typed, words_held, none_wide, nothing_left}
use Rattle.image.proofs.RoundTrip.{flat}

-- ---- what sound bytes show, field by field

pub record Parsed (b : List ℕ) : Type 0 where
  pub one : number_at count_size width_at b ≡ 1
  pub width : bad_width (width_in b) ≡ false
  pub some : 1 ≤ words_in b
  pub few : words_in b ≤ 1024
  pub words : Under (2 ^ width_in b) (numbers word_size (words_in b) (drop (items_at words_at) b))
  pub same : number_at count_size (responses_at (words_in b)) b ≡ words_in b
  pub jobs : jobs_in b ≤ most_jobs
  pub long : items_at (jobs_at (words_in b)) ≤ length b
  pub rest : scan (replicate (jobs_in b) (job_field (width_in b))) (items_at (jobs_at (words_in b))) (drop (items_at (jobs_at (words_in b))) b) ≡ Ok tt

pub parsed : (b : List ℕ) → scanned b ≡ Ok tt → Parsed b
unfolding scanned fields_of
parsed b h =
    let n = words_in b in
    let f0 = next (count_is 1) _ b width_at (omega arith) h in
    let f1 = next width_byte _ b (items_at width_at) f0.held.fits f0.rest in
    let f2 = next word_count _ b words_at f1.held.fits f1.rest in
    let f3 = run (word_field (width_in b)) n _ b (items_at words_at) f2.held.fits f2.rest in
    let f4 = next (count_is n) _ b (responses_at n) f3.0 f3.1 in
    let f5 = run response_field n _ b (items_at (responses_at n)) f4.held.fits f4.rest in
    let f6 = next job_count _ b (jobs_at n) f5.0 f5.1 in
    record {
      one = eqb-true (number_at count_size width_at b) 1 f0.held.right;
      width = not-true (bad_width (width_in b)) f1.held.right;
      some = leb-true 1 n (and_left (leb 1 n) (leb n 1024) f2.held.right);
      few = leb-true n 1024 (and_right (leb 1 n) (leb n 1024) f2.held.right);
      words = words_held (width_in b) n _ b (items_at words_at) f2.held.fits f2.rest;
      same = eqb-true (number_at count_size (responses_at n) b) n f4.held.right;
      jobs = leb-true (jobs_in b) most_jobs f6.held.right;
      long = f6.held.fits;
      rest = f6.rest;
    }

-- ---- the jobs' records

passing : (c : Check) → passes c ≡ true → c ≡ Ok tt
passing (Ok tt) h = refl
passing (Err r) h = cc

-- what is left is the bytes of these jobs, which pass 20 to 25
record JobsLeft (w : ℕ) (s : List ℕ) (os : List Job) : Type 0 where
  bytes_of : s ≡ items job_bytes os
  fit : jobs_check w os ≡ Ok tt
  typed : JobsFit os

jobs_left : (b : List ℕ) → AreBytes b → (w v at : ℕ) → at ≤ length b → scan (replicate v (job_field w)) at (drop at b) ≡ Ok tt
    → JobsLeft w (drop at b) (records v (drop at b))
unfolding items records
jobs_left b u w zero at l h = record { bytes_of = nothing_left b at h; fit = refl; typed = tt }
jobs_left b u w (suc v) at l h =
    let s = next (job_field w) (replicate v (job_field w)) b at l h in
    let r = rw (← (drop-drop record_size at b)) at (jobs_left b u w v (at + record_size) s.held.fits s.rest) in
    let p = passing (held_check w (job_of (take record_size (drop at b)))) s.held.right in
    record {
      bytes_of = job_cut b u at s.held.fits
          ∙ ap (λ (x : List ℕ). job_bytes (job_of (take record_size (drop at b))) ++ x) (sym (drop-drop record_size at b) ∙ r.bytes_of);
      fit = rw (p, r.fit);
      typed = (job_typed b u at s.held.fits, r.typed);
    }

-- the jobs that sound bytes say, and that all of them are held
jobs_of_lem : (b : List ℕ) → AreBytes b → Parsed b → JobsLeft (width_in b) (drop (items_at (jobs_at (words_in b))) b) (jobs_of b)
jobs_of_lem b u p = jobs_left b u (width_in b) (jobs_in b) (items_at (jobs_at (words_in b))) p.long p.rest

all_held : (b : List ℕ) → Parsed b → held_jobs (held_of (jobs_of b)) ≡ jobs_of b
all_held b p = jobs_held (jobs_of b) (rw (length_records (jobs_in b) (drop (items_at (jobs_at (words_in b))) b)) p.jobs)

-- ---- the theorem

-- the parts, one after the other
joined : {b b1 b2 b3 b4 b5 b6 b7 : List ℕ} {n l3 l5 k l7 : ℕ} (w : ℕ) (s3 s5 s7 : List ℕ) → b ≡ bytes count_size 1 ++ b1 → b1 ≡ bytes width_size w ++ b2
    → b2 ≡ bytes count_size n ++ b3 → b3 ≡ s3 ++ b4 → b4 ≡ bytes count_size n ++ b5 → b5 ≡ s5 ++ b6 → b6 ≡ bytes count_size k ++ b7 → b7 ≡ s7
    → l3 ≡ n → l5 ≡ n → l7 ≡ k
    → bytes count_size 1 ++ (bytes width_size w ++ (bytes count_size l3 ++ (s3 ++ (bytes count_size l5 ++ (s5 ++ (bytes count_size l7 ++ s7)))))) ≡ b
joined w s3 s5 s7 g0 g1 g2 g3 g4 g5 g6 g7 e f g = cc

pub unique : (b : List ℕ) → AreBytes b → scanned b ≡ Ok tt → image_of (state_in b) ≡ b
unfolding state_in
unique b u h =
    let p = parsed b h in
    let n = words_in b in
    let l : items_at (jobs_at n) ≤ length b = p.long in
    let a0 : b ≡ bytes count_size 1 ++ drop (items_at width_at) b = rw p.one at (number_cut b u count_size width_at (omega arith)) in
    let a1 = number_cut b u width_size (items_at width_at) (omega arith) in
    let a2 = number_cut b u count_size words_at (omega arith) in
    let a3 = items_cut b u word_size n (items_at words_at) (omega arith) in
    let a4 : drop (responses_at n) b ≡ bytes count_size n ++ drop (items_at (responses_at n)) b = rw p.same at (number_cut b u count_size (responses_at n) (omega arith)) in
    let a5 = items_cut b u response_size n (items_at (responses_at n)) (omega arith) in
    let a6 = number_cut b u count_size (jobs_at n) p.long in
    flat (state_in b)
    ∙ rw (all_held b p) (joined (width_in b) (items (bytes word_size) (numbers word_size n (drop (items_at words_at) b))) (items (bytes response_size) (numbers response_size n (drop (items_at (responses_at n)) b)))
    (items job_bytes (jobs_of b)) a0 a1 a2 a3 a4 a5 a6 (jobs_of_lem b u p).bytes_of
    (length_numbers word_size n (drop (items_at words_at) b)) (length_numbers response_size n (drop (items_at (responses_at n)) b)) (length_records (jobs_in b) (drop (items_at (jobs_at n)) b)))

-- the bytes that read as a machine are its one image
pub one_image : (b : List ℕ) (s : State) → AreBytes b → scanned b ≡ Ok tt → state_in b ≡ s → b ≡ image_of s
one_image b s u h e = sym (unique b u h) ∙ ap image_of e

-- ---- and can be stored again

size_right : (n k : ℕ) → 1 ≤ n → n ≤ 1024 → k ≡ n → bad_size n k ≡ false
unfolding bad_size
size_right n k h g e = rw (ne_eqb n 0 (λ z. omega (arith, z)), le-ltb 1024 n g, eq-eqb k n e)

pub stored_again : (b : List ℕ) → AreBytes b → scanned b ≡ Ok tt → Stored (state_in b)
unfolding state_in machine_check
stored_again b u h =
    let p = parsed b h in
    let n = words_in b in
    let l : items_at (jobs_at n) ≤ length b = p.long in
    let j = jobs_of_lem b u p in
    let a : bad_size (length (numbers word_size n (drop (items_at words_at) b))) (length (numbers response_size n (drop (items_at (responses_at n)) b))) ≡ false =
    simp length_numbers (size_right n n p.some p.few refl) in
    record {
      machine = rw (a, p.width, none_wide (width_in b) 0 (numbers word_size n (drop (items_at words_at) b)) p.words);
      jobs = rw (all_held b p) j.fit;
      responses = numbers_under b u response_size n (items_at (responses_at n)) (omega arith);
      typed = rw (all_held b p) j.typed;
    }
