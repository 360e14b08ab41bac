-- What a host has stored is the machine's image, and what it resumes from that image is the machine.
-- Document 01, 'The image': "the machine an image stands for is width, words, responses and job".
use Prim.Native.Nat.{ℕ, ◌≤◌, ◌+◌}
use mathlib.Core.Path.{◌≡◌, refl, sym, ap, ap₂, ◌∙◌}
use mathlib.Core.Bool.{◌||◌}
use mathlib.Core.List.{List}
use native.Mathlib.Omega.{arith}
use lib.Dec.{ltb}
use lib.ListN.{length, take, drop}
use lib.Seq.{sets, sets-eq, take_at}
use borrow.Author.Tests.{ltb-false, le-ltb}
use Rattle.std.specs.Prelude.{Result, Ok, Err}
use Rattle.machine.specs.declared.Refusal.TheVariants.{NoRoom}
use Rattle.machine.specs.Machine.{machine}
use Rattle.machine.specs.Refusals.{◌else◌, refuse, machine_check, answer_by, change_by, Check}
use Rattle.machine.proofs.Refusals.{else_passed, not_refused, or_left, or_right}
use Rattle.machine.specs.declared.Refusal.{Refusal}
use Rattle.job_plans.specs.Fields.{Held}
use Rattle.jobs.specs.Runs.{State}
use Rattle.image_layout.specs.Format.{held_jobs, image_of}
use Rattle.image_layout.specs.Reading.{words_in, scanned, state_in}
use Rattle.image_layout.specs.Sizes.{word_size, items_at, words_at}
use Rattle.image_layout.proofs.Reading.{length_numbers}
use Rattle.image.specs.Calls.{jobs_check, write_check, write_of, written, refuse_bytes, read_check, read_of, words_read, responses_read}
use Rattle.image.proofs.RoundTrip.{plain, round_trip}
use Rattle.image.specs.Calls.{Stored}
use Rattle.image.specs.declared.Loaded.{Loaded}
use Rattle.hosts.specs.Images.{Stores, Resumes}
use Rattle.hosts.specs.Images.{Typed}

-- the first of what was stored at the beginning
first_of_sets : (xs l : List ℕ) (n : ℕ) → n ≡ length xs → length xs ≤ length l → take n (sets l 0 xs) ≡ xs
first_of_sets xs l n e h =
    ap₂ take e (sets-eq xs l 0 (omega arith)) ∙ take_at xs (drop (0 + length xs) l) (length xs) refl

-- ---- storing

-- 20 to 25 of what is held, as writing judges it
abbrev pub job_check : ℕ → Held → Check
job_check n h = jobs_check n (held_jobs h)

abbrev wrote_by : Check → ℕ → Result ℕ Refusal
wrote_by c n = answer_by c n

wrote_passed : (c : Check) (n k : ℕ) → wrote_by c n ≡ Ok k → (c ≡ Ok tt) × (k ≡ n)
wrote_passed (Ok tt) n k h = (refl, cc)
wrote_passed (Err r) n k h = (cc, cc)

module _ (s : State) (room : ℕ) (h : write_check s room ≡ Ok tt) where
  pub machine_passed : machine_check s.machine ≡ Ok tt
  unfolding write_check
  machine_passed = (else_passed (machine_check s.machine) _ h).0

  pub job_passed : job_check s.machine.width s.held ≡ Ok tt
  unfolding write_check
  job_passed = (else_passed (job_check s.machine.width s.held) _ (else_passed (machine_check s.machine) _ h).1).0

  pub room_passed : length (image_of s) ≤ room
  unfolding write_check
  room_passed =
      ltb-false room (length (image_of s))
      (not_refused NoRoom _ (else_passed (job_check s.machine.width s.held) _ (else_passed (machine_check s.machine) _ h).1).1)

pub stored_image : {output : List ℕ} {s : State} {image : List ℕ} → Typed s → Stores output s image → Stored s × (image ≡ image_of s)
unfolding write_of written
stored_image {output} {s} {image} t w =
    let p = wrote_passed (write_check s (length output)) _ w.size w.accepted in
    let room = length output in (
      record { machine = machine_passed s room p.0; jobs = job_passed s room p.0; responses = t.responses; typed = t.job },
      w.bytes
          ∙ ap (λ (c : Check). take w.size (change_by c (sets output 0 (image_of s)) output)) p.0
          ∙ first_of_sets (image_of s) output w.size p.1 (room_passed s room p.0),
    )

-- a machine that passes the checks can be stored in any output that is long enough
pub can_store : (s : State) → Stored s → (output : List ℕ) → length (image_of s) ≤ length output → Stores output s (image_of s)
unfolding write_of written write_check
can_store s t output h =
    let c : write_check s (length output) ≡ Ok tt = rw (t.machine, t.jobs, le-ltb (length output) (length (image_of s)) h) in
    record {
      size = length (image_of s);
      accepted = ap (λ (c : Check). wrote_by c (length (image_of s))) c;
      bytes =
          sym (ap (λ (c : Check). take (length (image_of s)) (change_by c (sets output 0 (image_of s)) output)) c
          ∙ first_of_sets (image_of s) output (length (image_of s)) refl h);
    }

-- ---- resuming

abbrev read_by : Check → State → Result Loaded Refusal
read_by c s = answer_by c (record { width = s.machine.width; words = length s.machine.words; held = s.held })

record Answered (s : State) (w n : ℕ) (h : Held) : Type 0 where
  pub width : w ≡ s.machine.width
  pub size : n ≡ length s.machine.words
  pub held : h ≡ s.held

read_passed : (c : Check) (s : State) {w n : ℕ} {h : Held} → read_by c s ≡ Ok (record { width = w; words = n; held = h }) → (c ≡ Ok tt) × Answered s w n h
read_passed (Ok tt) s {w} {n} {h} e =
    let q : ◌≡◌ {A = Loaded} (record { width = w; words = n; held = h }) (record { width = s.machine.width; words = length s.machine.words; held = s.held }) = cc in
    (refl, record { width = ap (λ (l : Loaded). l.width) q; size = ap (λ (l : Loaded). l.words) q; held = ap (λ (l : Loaded). l.held) q })
read_passed (Err r) s e = (cc, record { width = cc; size = cc; held = cc })

long_enough : (c : Check) (n words responses : ℕ) → (c else refuse NoRoom (ltb words n || ltb responses n)) ≡ Ok tt → (n ≤ words) × (n ≤ responses)
long_enough c n words responses h =
    let t = not_refused NoRoom _ (else_passed c _ h).1 in
    (ltb-false words n (or_left (ltb words n) (ltb responses n) t), ltb-false responses n (or_right (ltb words n) (ltb responses n) t))

-- the machine that stands in the destinations, where reading was accepted
landed : (s : State) (words responses : List ℕ) (c : Check) (w n : ℕ) (h : Held) → c ≡ Ok tt → Answered s w n h
    → length s.machine.responses ≡ length s.machine.words → length s.machine.words ≤ length words → length s.machine.words ≤ length responses
    → record {
      machine = machine w (take n (change_by c (sets words 0 s.machine.words) words)) (take n (change_by c (sets responses 0 s.machine.responses) responses));
      held = h;
    }
    ≡ s
landed s words responses c w n h e a l g k =
    ap (λ (d : Check). record {
      machine = machine w (take n (change_by d (sets words 0 s.machine.words) words)) (take n (change_by d (sets responses 0 s.machine.responses) responses));
      held = h;
    }) e
    ∙ rw (
      a.width,
      a.held,
      first_of_sets s.machine.words words n a.size g,
      first_of_sets s.machine.responses responses n (a.size ∙ sym l) (omega arith),
    )

module _ (s : State) (t : Stored s) where
  in_image : state_in (image_of s) ≡ s
  in_image = (round_trip s t).1

  count_in : words_in (image_of s) ≡ length s.machine.words
  unfolding state_in
  count_in = sym (length_numbers word_size (words_in (image_of s)) (drop (items_at words_at) (image_of s))) ∙ ap (λ (z : State). length z.machine.words) in_image

  -- what is read back is the machine, its held job included
  pub resumed_machine : {words responses : List ℕ} {u : State} → Resumes words responses (image_of s) u → u ≡ s
  unfolding read_of words_read responses_read read_check
  resumed_machine {words} {responses} {u} r =
      let c = read_check (image_of s) (length words) (length responses) in
      let p = read_passed c s (ap (read_by c) (sym in_image) ∙ r.accepted) in
      let l = long_enough (refuse_bytes (scanned (image_of s))) (words_in (image_of s)) (length words) (length responses) p.0 in
      r.stands
      ∙ ap (λ (z : State). record {
        machine = machine r.width (take r.size (change_by c (sets words 0 z.machine.words) words)) (take r.size (change_by c (sets responses 0 z.machine.responses) responses));
        held = r.held;
      }) in_image
      ∙ landed s words responses c r.width r.size r.held p.0 p.1 (plain s t).same (omega (arith, l.0, count_in)) (omega (arith, l.1, count_in))

  -- into any destinations that are long enough
  pub can_resume : (words responses : List ℕ) → length s.machine.words ≤ length words → length s.machine.words ≤ length responses
      → Resumes words responses (image_of s) s
  unfolding read_of words_read responses_read read_check
  can_resume words responses h g =
      let n = length s.machine.words in
      let c = read_check (image_of s) (length words) (length responses) in
      let p : c ≡ Ok tt = rw ((round_trip s t).0, count_in, le-ltb (length words) n h, le-ltb (length responses) n g) in
      record {
        width = s.machine.width;
        size = n;
        held = s.held;
        accepted = ap (read_by c) in_image ∙ ap (λ (d : Check). read_by d s) p;
        stands = sym (ap (λ (z : State). record {
          machine = machine s.machine.width (take n (change_by c (sets words 0 z.machine.words) words)) (take n (change_by c (sets responses 0 z.machine.responses) responses));
          held = s.held;
        }) in_image
            ∙ landed s words responses c s.machine.width n s.held p (record { width = refl; size = refl; held = refl }) (plain s t).same h g);
      }

-- stored, then resumed, is equal
pub stored_then_resumed : {output words responses image : List ℕ} {s t : State} → Typed s → Stores output s image → Resumes words responses image t → t ≡ s
stored_then_resumed {s = s} typed w r = let p = stored_image typed w in resumed_machine s p.0 (rw p.1 at r)
