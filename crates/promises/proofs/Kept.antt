-- What the types say, kept by every call. A slice denotes any list of numbers, so that a response is a byte and that a job's key, care and c are what
-- their types have is not to be had from a call's arguments. `Typed` says it: it is asked once, of the machine that a history begins with and of
-- a job offered (`JobFits`), and of an image read that its elements are bytes (`AreBytes`). Each call below leaves it so, accepted or refused.
use Prim.Native.Nat.{ℕ, zero, suc, ◌+◌, ◌^◌, ◌≤◌, ◌<◌}
use mathlib.Core.Path.{◌≡◌, refl, sym, ap, ap₂, ◌∙◌}
use mathlib.Core.Bool.{Bool, true, false}
use mathlib.Core.List.{List, [], ◌∷◌}
use native.Mathlib.Omega.{arith}
use lib.Dec.{ltb}
use lib.ListN.{length, take, drop, set}
use lib.Seq.{sets, sets-eq, take_at}
use borrow.Author.Tests.{ltb-false}
use contract.Lifetimes.{Lfts}
use borrow.Fn.World.{ArgsD, ResD}
use borrow.Fn.Kinds.{ended_of}
use denote.Triple.Clauses.{AtExit}
use Rattle.std.specs.Prelude.{Some, Result, Ok, Err}
use Rattle.laws.specs.Bits.{pick}
use Rattle.machine.specs.declared.Lines.{Lines}
use Rattle.machine.specs.declared.Panel.{Panel}
use Rattle.machine.specs.declared.Refusal.{Refusal}
use Rattle.machine.specs.declared.Refusal.TheVariants.{NoRoom}
use Rattle.machine.specs.declared.ResponseBit.{ResponseBit}
use Rattle.machine.specs.declared.WordSlice.{WordSlice}
use Rattle.machine.specs.Machine.{Machine, machine}
use Rattle.machine.specs.Pulse.{pulsed}
use Rattle.machine.specs.Refusals.{Check, pulse_check, answer_by, change_by, after}
use Rattle.machine.proofs.Refusals as checks
use Rattle.machine.proofs.Refusals.{else_passed, not_refused, or_right}
use Rattle.rounds.specs.declared.Verdict.{Verdict}
use Rattle.rounds.specs.declared.Verdict.TheVariants.{Done, Faulty}
use Rattle.rounds.specs.Round.{has, put, answered, round_check, answer_check, answered_at, after_answer}
use Rattle.rounds.proofs.Marks.{put_lt}
use Rattle.handout.specs.Whole.{each, worked, verdict_of, after_ended, after_round}
use Rattle.job_plans.specs.declared.Job.{Job}
use Rattle.job_plans.specs.Fields.{Held}
use Rattle.job_plans.specs.Places.{first}
use Rattle.jobs.specs.Calls.{start_check, start_of}
use Rattle.jobs.specs.Runs.{State, state, held_after}
use Rattle.image_layout.specs.Format.{AreBytes, AreResponses, JobFits}
use Rattle.image_layout.specs.Reading.{Scanned, words_in, scanned, state_in}
use Rattle.image_layout.specs.Sizes.{word_size, response_size, items_at, words_at}
use Rattle.image_layout.proofs.Reading.{length_numbers}
use Rattle.image.specs.declared.Loaded.{Loaded}
use Rattle.image.specs.Calls.{refuse_bytes, read_check, read_of, responses_read, told_read, Stored}
use Rattle.image.proofs.Unique.{stored_again}
use Rattle.hosts.specs.Images.{Typed}
use Rattle.hosts.proofs.Typed.{pulsed_responses, first_fits, stepped_typed}
use Rattle.promises.proofs.Calls.{machine_in, plain_pulse_meets, wide_pulse_meets, answer_meets, round_meets, start_meets, step_meets, read_meets}
use Rattle.cells.specs.contracts.pulse as plain-pulse
use Rattle.cells.proofs.pulse.Kinds as plain-pulse-kinds
use Rattle.cells.proofs.pulse.Reads as plain-pulse-reads
use Rattle.wide.specs.contracts.pulse as wide-pulse
use Rattle.wide.proofs.pulse.Kinds as wide-pulse-kinds
use Rattle.wide.proofs.pulse.Reads as wide-pulse-reads
use Rattle.rounds.specs.contracts.answer as answer
use Rattle.rounds.proofs.answer.Kinds as answer-kinds
use Rattle.rounds.proofs.answer.Reads as answer-reads
use Rattle.handout.specs.contracts.round as round
use Rattle.handout.proofs.round.Kinds as round-kinds
use Rattle.handout.proofs.round.Reads as round-reads
use Rattle.jobs.specs.contracts.start as start
use Rattle.jobs.proofs.start.Kinds as start-kinds
use Rattle.jobs.proofs.start.Reads as start-reads
use Rattle.jobs.specs.contracts.step as step
use Rattle.jobs.proofs.step.Kinds as step-kinds
use Rattle.jobs.proofs.step.Reads as step-reads
use Rattle.image.specs.contracts.reading.read as read
use Rattle.image.proofs.reading.read.Kinds as read-kinds
use Rattle.image.proofs.reading.read.Reads as read-reads

-- ---- responses after a pulse, an answer and a round

unfoldable pub Stays : Machine → Machine → Type 0
Stays m n = AreResponses m.responses → AreResponses n.responses

by_check : (c : Check) (m n : Machine) → Stays m n → Stays m (change_by c n m)
unfolding Stays
by_check (Ok tt) m n h = h
by_check (Err why) m n h = λ t. t

pub a_pulse : (m : Machine) (p : Panel) (l : Lines) → Stays m (after m p l)
unfolding after Stays
a_pulse m p l = by_check (pulse_check m p l) m (pulsed m p l) (pulsed_responses m p l)

answered_fits : (x f : ResponseBit) (v : Verdict) (r : ℕ) → answered x f v r < 256 ^ response_size
answered_fits x f Done r = put_lt x 0 r (omega arith)
answered_fits x f Faulty r = put_lt f 1 (put x 0 r) (omega arith)

set_responses : (rs : List ℕ) (k v : ℕ) → v < 256 ^ response_size → AreResponses rs → AreResponses (set rs k v)
set_responses [] k v g h = tt
set_responses (r ∷ rs) zero v g h = (g, h.1)
set_responses (r ∷ rs) (suc k) v g h = (h.0, set_responses rs k v g h.1)

pub an_answer : (x f : ResponseBit) (k : WordSlice) (v : Verdict) (m : Machine) → Stays m (after_answer x f k v m)
unfolding after_answer Stays
an_answer x f k v m = by_check (answer_check x f k m) m (answered_at x f k v m) (set_responses m.responses k.0 _ (answered_fits x f v _))

each_response : (f : ℕ → ℕ → ℕ) → ((k r : ℕ) → r < 256 ^ response_size → f k r < 256 ^ response_size) → (k : ℕ) (rs : List ℕ) → AreResponses rs → AreResponses (each f k rs)
unfolding each
each_response f h k [] b = tt
each_response f h k (r ∷ rs) b = (h k r b.0, each_response f h (suc k) rs b.1)

pub a_round : (x f : ResponseBit) (vs : List ℕ) (m : Machine) → Stays m (after_round x f vs m)
unfolding after_round after_ended Stays
a_round x f vs m =
    by_check (round_check x f m) m (after_ended x f vs m) (each_response (worked x f vs) (λ k r h. go (has x r) (verdict_of vs k) r h) 0 m.responses)
  where
    go : (b : Bool) (v : Verdict) (r : ℕ) → r < 256 ^ response_size → pick b (answered x f v r) r < 256 ^ response_size
    go true v r h = answered_fits x f v r
    go false v r h = h

-- the machine m with a job held, then n, of which the buffers say that it is q
so : (m n q : Machine) (h : Held) → q ≡ n → Stays m n → Typed (record { machine = m; held = h }) → Typed (record { machine = q; held = h })
unfolding Stays
so m n q h e k t = record { responses = rw e (k t.responses); job = t.job }

-- ---- a job started, and an image read

started_first : (c : Check) (o q : Job) → answer_by c o ≡ Ok q → q ≡ o
started_first (Ok tt) o q e = cc
started_first (Err why) o q e = cc

-- the first n of what was read into a destination that is long enough
first_of : (xs l : List ℕ) (n : ℕ) → n ≡ length xs → length xs ≤ length l → take n (sets l 0 xs) ≡ xs
first_of xs l n e h = ap₂ take e (sets-eq xs l 0 (omega arith)) ∙ take_at xs (drop (0 + length xs) l) (length xs) refl

record Reads (m : State) (c : Check) (w n : ℕ) (h : Held) : Type 0 where
  pub check : c ≡ Ok tt
  pub count : n ≡ length m.machine.words
  pub held : h ≡ m.held

reads : (m : State) (c : Check) (w n : ℕ) (h : Held) → answer_by c (machine_in m) ≡ Ok (record { width = w; words = n; held = h }) → Reads m c w n h
reads m (Ok tt) w n h e =
    record {
      check = refl;
      count = sym (ap (λ (q : Result Loaded Refusal). (told_read q).words) e);
      held = sym (ap (λ (q : Result Loaded Refusal). (told_read q).held) e);
    }
reads m (Err why) w n h e = record { check = cc; count = cc; held = cc }

sound_bytes : (c : Scanned) → refuse_bytes c ≡ Ok tt → c ≡ Ok tt
sound_bytes (Ok tt) e = refl
sound_bytes (Err at) e = cc

module _ (image ws rs : List ℕ) (bytes : AreBytes image) (e : read_check image (length ws) (length rs) ≡ Ok tt) where
  was_sound : scanned image ≡ Ok tt
  unfolding read_check
  was_sound = sound_bytes (scanned image) (else_passed (refuse_bytes (scanned image)) _ e).0

  was_stored : Stored (state_in image)
  was_stored = stored_again image bytes was_sound

  room : words_in image ≤ length rs
  unfolding read_check
  room =
      let t = not_refused NoRoom _ (else_passed (refuse_bytes (scanned image)) _ e).1 in
      ltb-false (length rs) (words_in image) (or_right (ltb (length ws) (words_in image)) (ltb (length rs) (words_in image)) t)

  same_count : length (state_in image).machine.responses ≡ length (state_in image).machine.words
  same_count = checks.size_same _ _ (checks.sound (state_in image).machine was_stored.machine).size

  many : length (state_in image).machine.words ≡ words_in image
  unfolding state_in
  many = length_numbers word_size (words_in image) (drop (items_at words_at) image)

  read_back : (n : ℕ) → n ≡ length (state_in image).machine.words → take n (responses_read image ws rs) ≡ (state_in image).machine.responses
  unfolding responses_read
  read_back n g =
      ap (λ (c : Check). take n (change_by c (sets rs 0 (state_in image).machine.responses) rs)) e
      ∙ first_of (state_in image).machine.responses rs n (g ∙ sym same_count) (omega (arith, room, many, same_count))

  -- the first n responses then, beside any width and words, and the job that the image holds
  pub an_image_read : (w n : ℕ) (xs : List ℕ) → n ≡ length (state_in image).machine.words
      → Typed (state w xs (take n (responses_read image ws rs)) (state_in image).held)
  an_image_read w n xs g = record { responses = rw (read_back n g) was_stored.responses; job = was_stored.typed }

-- ---- the calls that lend by &mut, and start, whose answer is the job that is held then

pub plain_pulse_keeps : (κs : Lfts 2) (a : ArgsD plain-pulse.signature κs) (r : ResD plain-pulse.signature κs) (s : AtExit (ended_of 2 plain-pulse-kinds.ps plain-pulse-kinds.r) κs)
    → plain-pulse-reads.Post κs a r s → (h : Held)
    → Typed (state a.1.1.0 a.0.now a.1.0.now h) → Typed (state a.1.1.0 s.0.now s.1.0.now h)
plain_pulse_keeps κs a r s p h =
    let m = machine a.1.1.0 a.0.now a.1.0.now in
    so m _ _ h (plain_pulse_meets κs a r s p).1.leaves (a_pulse m a.1.1.1.0 a.1.1.1.1.0)

pub wide_pulse_keeps : (κs : Lfts 2) (a : ArgsD wide-pulse.signature κs) (r : ResD wide-pulse.signature κs) (s : AtExit (ended_of 2 wide-pulse-kinds.ps wide-pulse-kinds.r) κs)
    → wide-pulse-reads.Post κs a r s → (h : Held)
    → Typed (state a.1.1.0 a.0.now a.1.0.now h) → Typed (state a.1.1.0 s.0.now s.1.0.now h)
wide_pulse_keeps κs a r s p h =
    let m = machine a.1.1.0 a.0.now a.1.0.now in
    so m _ _ h (wide_pulse_meets κs a r s p).1.leaves (a_pulse m a.1.1.1.0 a.1.1.1.1.0)

pub answer_keeps : (κs : Lfts 2) (a : ArgsD answer.signature κs) (r : ResD answer.signature κs) (s : AtExit (ended_of 2 answer-kinds.ps answer-kinds.r) κs)
    → answer-reads.Post κs a r s → (h : Held)
    → Typed (state a.1.1.0 a.0.now a.1.0.now h) → Typed (state a.1.1.0 a.0.now s.1.0.now h)
answer_keeps κs a r s p h =
    let m = machine a.1.1.0 a.0.now a.1.0.now in
    so m _ _ h (answer_meets κs a r s p).1.leaves (an_answer a.1.1.1.0 a.1.1.1.1.0 a.1.1.1.1.1.0 a.1.1.1.1.1.1.0 m)

pub round_keeps : (κs : Lfts 3) (a : ArgsD round.signature κs) (r : ResD round.signature κs) (s : AtExit (ended_of 3 round-kinds.ps round-kinds.r) κs)
    → round-reads.Post κs a r s → (h : Held)
    → Typed (state a.1.1.0 a.0.now a.1.0.now h) → Typed (state a.1.1.0 a.0.now s.1.0.now h)
round_keeps κs a r s p h =
    let m = machine a.1.1.0 a.0.now a.1.0.now in
    so m _ _ h (round_meets κs a r s p).1.leaves (a_round a.1.1.1.0 a.1.1.1.1.0 a.1.1.1.1.1.0.now m)

-- of a job offered as its type has it
pub start_keeps : (κs : Lfts 2) (a : ArgsD start.signature κs) (r : ResD start.signature κs) (s : AtExit (ended_of 2 start-kinds.ps start-kinds.r) κs)
    → start-reads.Post κs a r s → (q : Job) → r ≡ Ok q → JobFits a.1.1.1.1.0
    → Typed (state a.1.1.0 a.0.now a.1.0.now a.1.1.1.0) → Typed (state a.1.1.0 a.0.now a.1.0.now (Some q))
unfolding start_of
start_keeps κs a r s p q e f t =
    let m = machine a.1.1.0 a.0.now a.1.0.now in
    let offered = a.1.1.1.1.0 in
    let is : q ≡ first offered = started_first (start_check m a.1.1.1.0 offered) (first offered) q (sym (start_meets κs a r s p).answers ∙ e) in
    record { responses = t.responses; job = rw is (first_fits offered f) }

pub step_keeps : (κs : Lfts 2) (a : ArgsD step.signature κs) (r : ResD step.signature κs) (s : AtExit (ended_of 2 step-kinds.ps step-kinds.r) κs)
    → step-reads.Post κs a r s
    → Typed (state a.1.1.0 a.0.now a.1.0.now a.1.1.1.0) → Typed (state a.1.1.0 s.0.now s.1.0.now (held_after r a.1.1.1.0))
step_keeps κs a r s p t = rw (step_meets κs a r s p).1.leaves (stepped_typed _ t)

-- of an image of bytes: the machine that reading leaves in the first n of each destination
pub read_keeps : (κs : Lfts 3) (a : ArgsD read.signature κs) (r : ResD read.signature κs) (s : AtExit (ended_of 3 read-kinds.ps read-kinds.r) κs)
    → read-reads.Post κs a r s → (w n : ℕ) (h : Held) → r ≡ Ok (record { width = w; words = n; held = h }) → AreBytes a.0.now
    → Typed (state w (take n s.1.0.now) (take n s.1.1.0.now) h)
unfolding read_of
read_keeps κs a r s p w n h e b =
    let image = a.0.now in
    let ws = a.1.0.now in
    let rs = a.1.1.0.now in
    let g = reads (state_in image) (read_check image (length ws) (length rs)) w n h (sym (read_meets κs a r s p).0.answers ∙ e) in
    rw ((read_meets κs a r s p).2.leaves, g.held) (an_image_read image ws rs b g.check w n _ g.count)
