-- What the types say, kept by every entry point that lends words, responses or a record by &mut, as `Kept` in promises says it of the calls. Of a
-- host in another language `Typed` speaks of the machine in its buffers and of the job that its record stands for (`held_in`). Of a record that is
-- offered, or that an image's job is read into, and of an image, it is asked that they are bytes (`AreBytes`), as their type says.
use Prim.Native.Nat.{ℕ, zero, suc, ◌+◌}
use mathlib.Core.Path.{◌≡◌, refl, sym, ap, subst, ◌∙◌}
use mathlib.Core.Bool.{Bool, true, false}
use mathlib.Core.List.{List, [], ◌++◌, append-nil}
use native.Mathlib.Omega.{arith}
use native.Mathlib.Nat.{suc-ne-zero}
use lib.Dec.{ltb, eqb}
use lib.ListN.{length, take, drop}
use lib.Seq.{sets, sets-eq, length-sets, drop-length}
use borrow.Author.Tests.{eqb-true}
use contract.Lifetimes.{Lfts}
use borrow.Fn.World.{ArgsD, ResD}
use borrow.Fn.Kinds.{ended_of}
use denote.Triple.Clauses.{AtExit}
use Rattle.std.specs.Prelude.{Some, None, Result, Ok, Err}
use Rattle.laws.specs.Bits.{pick}
use Rattle.machine.specs.declared.Refusal.{Refusal}
use Rattle.machine.specs.Machine.{Machine, machine}
use Rattle.machine.specs.Panel.{panel_of}
use Rattle.machine.specs.Refusals.{Check, answer_by}
use Rattle.handout.specs.Whole.{verdict_by}
use Rattle.job_plans.specs.Fields.{Held}
use Rattle.job_plans.specs.Places.{first}
use Rattle.jobs.specs.declared.Stepped.{Stepped}
use Rattle.jobs.specs.Calls.{start_check, start_of, step_of}
use Rattle.jobs.specs.Runs.{State, state, stepped, held_after}
use Rattle.image_layout.specs.Sizes.{record_size}
use Rattle.image_layout.specs.Format.{bytes, value, job_of, held_jobs, AreBytes, AreResponses, JobFits, JobsFit}
use Rattle.image_layout.specs.Reading.{state_in}
use Rattle.image_layout.proofs.Format.{job_back, job_fits}
use Rattle.image.specs.Calls.{read_check, read_of, ToldRead, told_read}
use Rattle.hosts.specs.Images.{Typed}
use Rattle.hosts.proofs.Typed.{first_fits, stepped_typed}
use Rattle.promises.proofs.Calls.{machine_in}
use Rattle.promises.proofs.Kept.{Stays, a_pulse, an_answer, a_round, an_image_read}
use Rattle.entry_forms.specs.Numbers.{lines_of, tell_in}
use Rattle.entry_forms.specs.Records.{job_in, held_in, record_of}
use Rattle.entry_forms.proofs.Recorded.{length_record}
use Rattle.entry_rounds.specs.Entries as rounds
use Rattle.entry_jobs.specs.Entries as jobs
use Rattle.entry_images.specs.Entries as images
use Rattle.entry_promises.proofs.Entered.{Keeps}
use Rattle.entry_promises.proofs.Entering.{wide_pulse_enters, plain_pulse_enters, answer_enters, round_enters, start_enters, step_enters, read_enters}
use Rattle.entry_pulses.specs.contracts.dushvaneth_wide_pulse as wide-pulse
use Rattle.entry_pulses.proofs.dushvaneth_wide_pulse.Kinds as wide-pulse-kinds
use Rattle.entry_pulses.proofs.dushvaneth_wide_pulse.Reads as wide-pulse-reads
use Rattle.entry_pulses.specs.contracts.dushvaneth_cells_pulse as plain-pulse
use Rattle.entry_pulses.proofs.dushvaneth_cells_pulse.Kinds as plain-pulse-kinds
use Rattle.entry_pulses.proofs.dushvaneth_cells_pulse.Reads as plain-pulse-reads
use Rattle.entry_rounds.specs.contracts.dushvaneth_answer as answer
use Rattle.entry_rounds.proofs.dushvaneth_answer.Kinds as answer-kinds
use Rattle.entry_rounds.proofs.dushvaneth_answer.Reads as answer-reads
use Rattle.entry_rounds.specs.contracts.dushvaneth_round as round
use Rattle.entry_rounds.proofs.dushvaneth_round.Kinds as round-kinds
use Rattle.entry_rounds.proofs.dushvaneth_round.Reads as round-reads
use Rattle.entry_jobs.specs.contracts.dushvaneth_start as start
use Rattle.entry_jobs.proofs.dushvaneth_start.Kinds as start-kinds
use Rattle.entry_jobs.proofs.dushvaneth_start.Reads as start-reads
use Rattle.entry_jobs.specs.contracts.dushvaneth_step as step
use Rattle.entry_jobs.proofs.dushvaneth_step.Kinds as step-kinds
use Rattle.entry_jobs.proofs.dushvaneth_step.Reads as step-reads
use Rattle.entry_images.specs.contracts.dushvaneth_read as read
use Rattle.entry_images.proofs.dushvaneth_read.Kinds as read-kinds
use Rattle.entry_images.proofs.dushvaneth_read.Reads as read-reads

-- ---- what is lent, and what the call leaves of it

-- what holds of it before, and of what the call leaves, holds afterwards
still : {A : Type 0} (P : A → Type 0) (n : ℕ) (before left then : A) → Keeps n before left then → P before → P left → P then
still P zero before left then k b l = rw (k.accepted refl) l
still P (suc n) before left then k b l = rw (k.refused (suc-ne-zero n)) b

-- the machine m with a job held, and what is lent of its responses
so : (n : ℕ) (m q : Machine) (h : Held) {rs : List ℕ} {w : ℕ} {ws : List ℕ} → Keeps n m.responses q.responses rs → Stays m q
    → Typed (record { machine = m; held = h }) → Typed (state w ws rs h)
unfolding Stays
so n m q h {rs} k f t = record { responses = still AreResponses n m.responses q.responses rs k t.responses (f t.responses); job = t.job }

-- ---- a record

Fits : Held → Type 0
Fits h = JobsFit (held_jobs h)

held_fits : (bs : List ℕ) → (length bs ≡ record_size → JobFits (job_of bs)) → Fits (held_in bs)
unfolding Fits
held_fits bs f = go (eqb (length bs) record_size) refl
  where
    go : (b : Bool) → eqb (length bs) record_size ≡ b → JobsFit (held_jobs (pick b (Some (job_of bs)) None))
    go true e = (f (eqb-true (length bs) record_size e), tt)
    go false e = tt

-- of bytes it is that of a job as its types have it
bytes_fit : (bs : List ℕ) → AreBytes bs → Fits (held_in bs)
bytes_fit bs u = held_fits bs (λ e. job_fits bs e u)

offered_fits : (bs : List ℕ) → AreBytes bs → JobFits (job_in bs)
unfolding value
offered_fits bs u = go (eqb (length bs) record_size) refl
  where
    go : (b : Bool) → eqb (length bs) record_size ≡ b → JobFits (job_of (pick b bs []))
    go true e = job_fits bs (eqb-true (length bs) record_size e) u
    go false e = (omega arith, omega arith, omega arith)

-- what is held, written over a whole record, is read from it again
over : (xs d : List ℕ) → length xs ≡ length d → sets d 0 xs ≡ xs
over xs d e =
    sets-eq xs d 0 (omega arith) ∙ ap (λ (k : ℕ). xs ++ drop k d) (let f : 0 + length xs ≡ length d = omega arith in f)
    ∙ ap (λ (l : List ℕ). xs ++ l) (drop-length d) ∙ append-nil xs

zeros_fit : JobFits (job_of (bytes record_size 0))
unfolding value bytes
zeros_fit = (omega arith, omega arith, omega arith)

record_fits : (h : Held) → Fits h → JobFits (job_of (record_of h))
unfolding Fits
record_fits None f = zeros_fit
record_fits (Some o) f = subst JobFits (sym (job_back o f.0)) f.0

kept_in : (h : Held) (d : List ℕ) → Fits h → Fits (held_in d) → Fits (held_in (tell_in (record_of h) d))
kept_in h d f g = go (ltb (length d) (length (record_of h)))
  where
    go : (b : Bool) → Fits (held_in (pick b d (sets d 0 (record_of h))))
    go true = g
    go false =
        held_fits (sets d 0 (record_of h))
        (λ e. rw (over (record_of h) d (length_record h ∙ sym (sym (length-sets d 0 (record_of h)) ∙ e))) (record_fits h f))

-- ---- the entries that change the machine alone, whatever is held

pub wide_pulse_keeps : (κs : Lfts 4) (a : ArgsD wide-pulse.signature κs) (r : ResD wide-pulse.signature κs) (s : AtExit (ended_of 4 wide-pulse-kinds.ps wide-pulse-kinds.r) κs)
    → wide-pulse-reads.Post κs a r s → (h : Held)
    → Typed (state a.1.1.0 a.0.now a.1.0.now h) → Typed (state a.1.1.0 s.0.now s.1.0.now h)
wide_pulse_keeps κs a r s p h t =
    let m = machine a.1.1.0 a.0.now a.1.0.now in
    so r m _ h (wide_pulse_enters κs a r s p).1.1.1 (a_pulse m (panel_of a.1.1.1.0.now) (lines_of a.1.1.1.1.0)) t

pub plain_pulse_keeps : (κs : Lfts 4) (a : ArgsD plain-pulse.signature κs) (r : ResD plain-pulse.signature κs) (s : AtExit (ended_of 4 plain-pulse-kinds.ps plain-pulse-kinds.r) κs)
    → plain-pulse-reads.Post κs a r s → (h : Held)
    → Typed (state a.1.1.0 a.0.now a.1.0.now h) → Typed (state a.1.1.0 s.0.now s.1.0.now h)
plain_pulse_keeps κs a r s p h t =
    let m = machine a.1.1.0 a.0.now a.1.0.now in
    so r m _ h (plain_pulse_enters κs a r s p).1.1.1 (a_pulse m (panel_of a.1.1.1.0.now) (lines_of a.1.1.1.1.0)) t

pub answer_keeps : (κs : Lfts 3) (a : ArgsD answer.signature κs) (r : ResD answer.signature κs) (s : AtExit (ended_of 3 answer-kinds.ps answer-kinds.r) κs)
    → answer-reads.Post κs a r s → (h : Held)
    → Typed (state a.1.1.0 a.0.now a.1.0.now h) → Typed (state a.1.1.0 a.0.now s.1.0.now h)
answer_keeps κs a r s p h t =
    let m = machine a.1.1.0 a.0.now a.1.0.now in
    so r m _ h (answer_enters κs a r s p).1.1
    (an_answer (rounds.bit_of a.1.1.1.0) (rounds.bit_of a.1.1.1.1.0) (rounds.word_of a.1.1.1.1.1.0) (verdict_by (eqb a.1.1.1.1.1.1.0 1)) m) t

pub round_keeps : (κs : Lfts 4) (a : ArgsD round.signature κs) (r : ResD round.signature κs) (s : AtExit (ended_of 4 round-kinds.ps round-kinds.r) κs)
    → round-reads.Post κs a r s → (h : Held)
    → Typed (state a.1.1.0 a.0.now a.1.0.now h) → Typed (state a.1.1.0 a.0.now s.1.0.now h)
round_keeps κs a r s p h t =
    let m = machine a.1.1.0 a.0.now a.1.0.now in
    so r m _ h (round_enters κs a r s p).1.1 (a_round (rounds.bit_of a.1.1.1.0) (rounds.bit_of a.1.1.1.1.0) a.1.1.1.1.1.0.now m) t

-- ---- the entries that write a record

-- the record offered is then that of the job held, or as it was
pub start_keeps : (κs : Lfts 5) (a : ArgsD start.signature κs) (r : ResD start.signature κs) (s : AtExit (ended_of 5 start-kinds.ps start-kinds.r) κs)
    → start-reads.Post κs a r s → AreBytes a.1.1.1.1.0.now
    → Typed (state a.1.1.0 a.0.now a.1.0.now (held_in a.1.1.1.0.now))
    → Typed (state a.1.1.0 a.0.now a.1.0.now (held_in s.1.1.1.1.0.now))
unfolding Fits start_of
start_keeps κs a r s p u t =
    let m = machine a.1.1.0 a.0.now a.1.0.now in
    let job = a.1.1.1.1.0.now in
    let fit = bytes_fit job u in
    record {
      responses = t.responses;
      job = still (λ (bs : List ℕ). Fits (held_in bs)) r job _ _ (start_enters κs a r s p).1.1 fit (go job u (start_check m (held_in a.1.1.1.0.now) (job_in job)));
    }
  where
    go : (job : List ℕ) (u : AreBytes job) (c : Check) → Fits (held_in (jobs.started_in (answer_by c (first (job_in job))) job))
    go job u (Ok tt) = kept_in (Some (first (job_in job))) job (first_fits (job_in job) (offered_fits job u)) (bytes_fit job u)
    go job u (Err w) = bytes_fit job u

-- the record is then that of the job held afterwards, or zeros
pub step_keeps : (κs : Lfts 4) (a : ArgsD step.signature κs) (r : ResD step.signature κs) (s : AtExit (ended_of 4 step-kinds.ps step-kinds.r) κs)
    → step-reads.Post κs a r s → Typed (state a.1.1.0 a.0.now a.1.0.now (held_in a.1.1.1.0.now))
    → Typed (state a.1.1.0 s.0.now s.1.0.now (held_in s.1.1.1.0.now))
unfolding Fits stepped
step_keeps κs a r s p t =
    let m = machine a.1.1.0 a.0.now a.1.0.now in
    let job = a.1.1.1.0.now in
    let e = (step_enters κs a r s p).1.1 in
    let then = stepped_typed _ t in
    record {
      responses = still AreResponses r a.1.0.now _ _ e.1.0 t.responses then.responses;
      job = still (λ (bs : List ℕ). Fits (held_in bs)) r job _ _ e.1.1 t.job (go job (step_of m (held_in job)) t.job then.job);
    }
  where
    go : (job : List ℕ) (w : Result Stepped Refusal) → Fits (held_in job) → Fits (held_after w (held_in job)) → Fits (held_in (jobs.stepped_in w job))
    go job (Ok given) f g = kept_in given.held job g f
    go job (Err w) f g = f

-- accepted: the machine that reading leaves in the first n of each destination, n as it is told, and the record of its job, or zeros
pub read_keeps : (κs : Lfts 5) (a : ArgsD read.signature κs) (r : ResD read.signature κs) (s : AtExit (ended_of 5 read-kinds.ps read-kinds.r) κs)
    → read-reads.Post κs a r s → r ≡ 0 → AreBytes a.0.now → AreBytes a.1.1.1.0.now
    → let t = images.read_told a.0.now (length a.1.0.now) (length a.1.1.0.now) a.1.1.1.0.now (length a.1.1.1.1.0.now) in
    Typed (state t.width (take t.words s.1.0.now) (take t.words s.1.1.0.now) (held_in s.1.1.1.0.now))
unfolding Fits read_of
read_keeps κs a r s p z u v =
    let image = a.0.now in
    let ws = a.1.0.now in
    let rs = a.1.1.0.now in
    let job = a.1.1.1.0.now in
    let e = read_enters κs a r s p in
    let st = state_in image in
    let check = read_check image (length ws) (length rs) in
    let passed : check ≡ Ok tt = (e.0.accepted z).0 in
    let told : (images.read_told image (length ws) (length rs) job (length a.1.1.1.1.0.now)).words ≡ length st.machine.words
    = ap (λ (x : ToldRead). x.words) (e.0.accepted z).1
    ∙ ap (λ (c : Check). (told_read (answer_by c (machine_in st))).words) passed in
    let then = an_image_read image ws rs u passed 0 _ [] told in
    record {
      responses = rw (e.1.1.1.0.accepted z) then.responses;
      job = still (λ (bs : List ℕ). Fits (held_in bs)) r job _ _ e.1.1.1.1 (bytes_fit job v) (go job v st then.job check);
    }
  where
    go : (job : List ℕ) (v : AreBytes job) (st : State) → Fits st.held → (c : Check)
        → Fits (held_in (images.read_in (answer_by c (machine_in st)) job))
    go job v st f (Ok tt) = kept_in st.held job f (bytes_fit job v)
    go job v st f (Err w) = bytes_fit job v
