-- The three demands, said of the calls themselves: of every public call, what its own source promises (`Post` of the call, of its arguments a, an
-- answer r and what stands behind the lent references at exit, s) is what the demands speak of. What is lent by & cannot change.
use Prim.Native.Nat.{ℕ, ◌<◌}
use mathlib.Core.Path.{◌≡◌, refl, sym, ap, ◌∙◌}
use mathlib.Core.Bool.{Bool, true, false, not}
use lib.Dec.{ltb}
use borrow.Author.Tests.{ltb-true}
use mathlib.Core.List.{List, []}
use native.Mathlib.Omega.{arith}
use lib.ListN.{length}
use contract.Lifetimes.{Lfts}
use borrow.Fn.World.{ArgsD, ResD}
use borrow.Fn.Kinds.{ended_of}
use denote.Triple.Clauses.{AtExit}
use Rattle.std.specs.Prelude.{Result, Ok, Err}
use Rattle.laws.specs.Bits.{pick}
use Rattle.machine.specs.declared.Answer.{Answer}
use Rattle.machine.specs.declared.Lines.{Lines}
use Rattle.machine.specs.declared.Panel.{Panel}
use Rattle.machine.specs.declared.Refusal.{Refusal}
use Rattle.machine.specs.declared.ResponseBit.{ResponseBit}
use Rattle.machine.specs.declared.WordSlice.{WordSlice}
use Rattle.machine.specs.Machine.{Machine, machine, response_bits}
use Rattle.machine.specs.Panel.{registers, load}
use Rattle.machine.specs.Pulse as pulse
use Rattle.machine.specs.Pulse.{count_of, pulsed}
use Rattle.machine.specs.Refusals.{Check, too_wide, machine_check, pulse_check, answer_by, change_by, answer_of, after}
use Rattle.machine.specs.Resolution.{resolved}
use Rattle.machine.proofs.Loads.{held, load_that, load_no_other, same_panel}
use Rattle.panel.specs.Numbered.{takes}
use Rattle.explainer.specs.Reasons.{explain_check, reason_at, explained}
use Rattle.resolver.specs.Answers.{resolution}
use Rattle.rounds.specs.Round as rounds
use Rattle.rounds.specs.Round.{shown, show_check, show_of, round_check, answer_check, reply_of, answered_at, after_answer}
use Rattle.handout.specs.Whole as whole_round
use Rattle.handout.specs.Whole.{report_of, after_ended, after_round}
use Rattle.job_plans.specs.declared.Job.{Job}
use Rattle.job_plans.specs.Fields.{Held}
use Rattle.job_plans.specs.Places as place
use Rattle.job_tally.specs.Totals.{held_pulses, total_check, total_of}
use Rattle.jobs.specs.declared.Stepped.{Stepped}
use Rattle.jobs.specs.Calls.{start_check, start_of, step_check, gave, given_by, step_of, machine_after, after_step}
use Rattle.jobs.specs.Runs.{State, state, held_after, stepped}
use Rattle.image_layout.specs.Format.{image_of}
use Rattle.image_layout.specs.Reading.{state_in}
use Rattle.image.specs.declared.Loaded.{Loaded}
use Rattle.image.specs.Calls.{write_check, write_of, written, read_check, read_of, words_read, responses_read}
use Rattle.promises.proofs.Answered.{passes, tells_answer, tells_explained, tells_resolved, tells_report, tells_started, tells_stepped, tells_total, tells_wrote, tells_read, pulse_tells, explain_tells, resolution_tells, show_tells, answer_tells, round_tells, start_tells, step_tells, total_tells, write_tells, read_tells, pulse_unchanged, answer_unchanged, round_unchanged, step_unchanged, write_unchanged, read_unchanged}
use Rattle.promises.proofs.Demand1.{Entry, first, given, machine_table, pulse_table, explain_table, show_table, answer_table, round_table, start_table, steps_table, total_table, write_table, read_table}
use Rattle.promises.proofs.Given.{pulse_given, explain_given, resolution_given, show_given, answer_given, round_given, start_given, step_given, total_given, write_given, read_given}
use Rattle.cells.specs.contracts.pulse as plain-pulse
use Rattle.cells.proofs.pulse.Kinds as plain-pulse-kinds
use Rattle.cells.proofs.pulse.Reads as plain-pulse-reads
use Rattle.wide.specs.contracts.pulse as wide-pulse
use Rattle.wide.proofs.pulse.Kinds as wide-pulse-kinds
use Rattle.wide.proofs.pulse.Reads as wide-pulse-reads
use Rattle.explainer.specs.contracts.explain as explain
use Rattle.explainer.proofs.explain.Kinds as explain-kinds
use Rattle.explainer.proofs.explain.Reads as explain-reads
use Rattle.resolver.specs.contracts.scan as scan
use Rattle.resolver.proofs.scan.Kinds as scan-kinds
use Rattle.resolver.proofs.scan.Reads as scan-reads
use Rattle.resolver.specs.contracts.network as network
use Rattle.resolver.proofs.network.Kinds as network-kinds
use Rattle.resolver.proofs.network.Reads as network-reads
use Rattle.rounds.specs.contracts.show as show
use Rattle.rounds.proofs.show.Kinds as show-kinds
use Rattle.rounds.proofs.show.Reads as show-reads
use Rattle.rounds.specs.contracts.answer as answer
use Rattle.rounds.proofs.answer.Kinds as answer-kinds
use Rattle.rounds.proofs.answer.Reads as answer-reads
use Rattle.handout.specs.contracts.round as round
use Rattle.handout.proofs.round.Kinds as round-kinds
use Rattle.handout.proofs.round.Reads as round-reads
use Rattle.jobs.specs.contracts.start as start
use Rattle.jobs.proofs.start.Kinds as start-kinds
use Rattle.jobs.proofs.start.Reads as start-reads
use Rattle.jobs.specs.contracts.step as step
use Rattle.jobs.proofs.step.Kinds as step-kinds
use Rattle.jobs.proofs.step.Reads as step-reads
use Rattle.job_tally.specs.contracts.totals.total as total
use Rattle.job_tally.proofs.totals.total.Kinds as total-kinds
use Rattle.job_tally.proofs.totals.total.Reads as total-reads
use Rattle.image.specs.contracts.writing.write as write
use Rattle.image.proofs.writing.write.Kinds as write-kinds
use Rattle.image.proofs.writing.write.Reads as write-reads
use Rattle.image.specs.contracts.reading.read as read
use Rattle.image.proofs.reading.read.Kinds as read-kinds
use Rattle.image.proofs.reading.read.Reads as read-reads
use Rattle.machine.specs.contracts.Panel.load_comp as own-comp
use Rattle.machine.proofs.Panel.load_comp.Kinds as own-comp-kinds
use Rattle.machine.proofs.Panel.load_comp.Reads as own-comp-reads
use Rattle.machine.specs.contracts.Panel.load_sdr as own-sdr
use Rattle.machine.proofs.Panel.load_sdr.Kinds as own-sdr-kinds
use Rattle.machine.proofs.Panel.load_sdr.Reads as own-sdr-reads
use Rattle.machine.specs.contracts.Panel.load_sc1 as own-sc1
use Rattle.machine.proofs.Panel.load_sc1.Kinds as own-sc1-kinds
use Rattle.machine.proofs.Panel.load_sc1.Reads as own-sc1-reads
use Rattle.machine.specs.contracts.Panel.load_sc2 as own-sc2
use Rattle.machine.proofs.Panel.load_sc2.Kinds as own-sc2-kinds
use Rattle.machine.proofs.Panel.load_sc2.Reads as own-sc2-reads
use Rattle.machine.specs.contracts.Panel.load_mor as own-mor
use Rattle.machine.proofs.Panel.load_mor.Kinds as own-mor-kinds
use Rattle.machine.proofs.Panel.load_mor.Reads as own-mor-reads
use Rattle.machine.specs.contracts.Panel.load_key as own_key
use Rattle.machine.proofs.Panel.load_key.Kinds as own-key-kinds
use Rattle.machine.proofs.Panel.load_key.Reads as own-key-reads
use Rattle.machine.specs.contracts.Panel.load_care as own-care
use Rattle.machine.proofs.Panel.load_care.Kinds as own-care-kinds
use Rattle.machine.proofs.Panel.load_care.Reads as own-care-reads
use Rattle.machine.specs.contracts.Panel.load_target as own-target
use Rattle.machine.proofs.Panel.load_target.Kinds as own-target-kinds
use Rattle.machine.proofs.Panel.load_target.Reads as own-target-reads
use Rattle.machine.specs.contracts.Panel.load_address as own-address
use Rattle.machine.proofs.Panel.load_address.Kinds as own-address-kinds
use Rattle.machine.proofs.Panel.load_address.Reads as own-address-reads
use Rattle.machine.specs.contracts.Panel.load_sc3 as own-sc3
use Rattle.machine.proofs.Panel.load_sc3.Kinds as own-sc3-kinds
use Rattle.machine.proofs.Panel.load_sc3.Reads as own-sc3-reads
use Rattle.panel.specs.contracts.load_comp as load-comp
use Rattle.panel.proofs.load_comp.Kinds as load-comp-kinds
use Rattle.panel.proofs.load_comp.Reads as load-comp-reads
use Rattle.panel.specs.contracts.load_sdr as load-sdr
use Rattle.panel.proofs.load_sdr.Kinds as load-sdr-kinds
use Rattle.panel.proofs.load_sdr.Reads as load-sdr-reads
use Rattle.panel.specs.contracts.load_sc1 as load-sc1
use Rattle.panel.proofs.load_sc1.Kinds as load-sc1-kinds
use Rattle.panel.proofs.load_sc1.Reads as load-sc1-reads
use Rattle.panel.specs.contracts.load_sc2 as load-sc2
use Rattle.panel.proofs.load_sc2.Kinds as load-sc2-kinds
use Rattle.panel.proofs.load_sc2.Reads as load-sc2-reads
use Rattle.panel.specs.contracts.load_mor as load-mor
use Rattle.panel.proofs.load_mor.Kinds as load-mor-kinds
use Rattle.panel.proofs.load_mor.Reads as load-mor-reads
use Rattle.panel.specs.contracts.load_key as load-key
use Rattle.panel.proofs.load_key.Kinds as load-key-kinds
use Rattle.panel.proofs.load_key.Reads as load-key-reads
use Rattle.panel.specs.contracts.load_care as load-care
use Rattle.panel.proofs.load_care.Kinds as load-care-kinds
use Rattle.panel.proofs.load_care.Reads as load-care-reads
use Rattle.panel.specs.contracts.load_target as load-target
use Rattle.panel.proofs.load_target.Kinds as load-target-kinds
use Rattle.panel.proofs.load_target.Reads as load-target-reads
use Rattle.panel.specs.contracts.load_address as load-address
use Rattle.panel.proofs.load_address.Kinds as load-address-kinds
use Rattle.panel.proofs.load_address.Reads as load-address-reads
use Rattle.panel.specs.contracts.load_sc3 as load-sc3
use Rattle.panel.proofs.load_sc3.Kinds as load-sc3-kinds
use Rattle.panel.proofs.load_sc3.Reads as load-sc3-reads
use Rattle.panel.specs.contracts.load as numbered
use Rattle.panel.proofs.load.Kinds as numbered-kinds
use Rattle.panel.proofs.load.Reads as numbered-reads
use Rattle.panel.specs.contracts.takes as taking
use Rattle.panel.proofs.takes.Kinds as taking-kinds
use Rattle.panel.proofs.takes.Reads as taking-reads

-- ---- what each call's contract says

-- of an answer r, where `says` is the answer that the demands speak of: its part of the table (Demand 1), and where its number is 0 its check is
-- passed, which is where Demand 2 and Demand 3 begin, and it answers `done`
pub record Answers {R : Type 0} (tell : R → ℕ × ℕ) (table : List Entry) (check : Check) (says done r : R) : Type 0 where
  pub answers : r ≡ says
  pub number : tell r ≡ first table
  pub accepted : (tell r).0 ≡ 0 → (check ≡ Ok tt) × (r ≡ done)

-- of what is lent by &mut, `before` the call and `now`, where `left` is what the demands speak of: "nothing lent changes" where the answer's
-- number is not 0
pub record Leaves {A : Type 0} (refusal : ℕ) (before left now : A) : Type 0 where
  pub leaves : now ≡ left
  pub unchanged : (refusal ≡ 0 → ⊥) → now ≡ before

answers_by : {R : Type 0} (tell : R → ℕ × ℕ) {table : List Entry} (check : Check) (says : R) {done : R} (r : R)
    → tell says ≡ first table → given check ≡ first table → (check ≡ Ok tt → says ≡ done) → r ≡ says → Answers tell table check says done r
answers_by tell check says r t g d e =
    let p : (tell r).0 ≡ 0 → check ≡ Ok tt = λ z. passes check (ap (λ (x : ℕ × ℕ). x.0) (g ∙ sym t ∙ sym (ap tell e)) ∙ z) in
    record { answers = e; number = ap tell e ∙ t; accepted = λ z. (p z, e ∙ d (p z)) }

-- what a call answers where its check is passed
taken : {A : Type 0} (done : A) (c : Check) → c ≡ Ok tt → answer_by c done ≡ Ok done
taken done c e = ap (λ (d : Check). answer_by d done) e

leaves_by : {A : Type 0} {before left now : A} {n k : ℕ × ℕ} → n ≡ k → ((k.0 ≡ 0 → ⊥) → left ≡ before) → now ≡ left → Leaves n.0 before left now
leaves_by e u h = record { leaves = h; unchanged = λ z. h ∙ u (λ g. z (ap (λ (x : ℕ × ℕ). x.0) e ∙ g)) }

-- the machine that stands in the buffers
whole : (n : ℕ) (ws rs : List ℕ) (m : Machine) → m.width ≡ n → ws ≡ m.words → rs ≡ m.responses → machine n ws rs ≡ m
whole n ws rs m e f g = rw (← e, f, g)

-- ---- the two machines: an outcome of a pulse on m with panel p and lines l, the answer r and the machine n afterwards

abbrev pub Pulse : Machine → Panel → Lines → Result Answer Refusal → Machine → Type 0
Pulse m p l r n =
    Answers tells_answer (pulse_table m p l) (pulse_check m p l) (answer_of m p l) (Ok (record { count = count_of m p l; read = pulse.read_of m p l })) r
    × Leaves (tells_answer r).0 m (after m p l) n

same_width : (m : Machine) (p : Panel) (l : Lines) → (after m p l).width ≡ m.width
unfolding after pulsed
same_width m p l = go (pulse_check m p l)
  where
    go : (c : Check) → (change_by c (pulsed m p l) m).width ≡ m.width
    go (Ok tt) = refl
    go (Err r) = refl

pulse_done : (m : Machine) (p : Panel) (l : Lines) → pulse_check m p l ≡ Ok tt → answer_of m p l ≡ Ok (record { count = count_of m p l; read = pulse.read_of m p l })
unfolding answer_of
pulse_done m p l = taken _ (pulse_check m p l)

a_pulse : (m : Machine) (p : Panel) (l : Lines) (r : Result Answer Refusal) (ws rs : List ℕ) → r ≡ answer_of m p l → ws ≡ (after m p l).words → rs ≡ (after m p l).responses
    → Pulse m p l r (machine m.width ws rs)
a_pulse m p l r ws rs e f g =
    let a = answers_by tells_answer (pulse_check m p l) (answer_of m p l) r (pulse_tells m p l) (pulse_given m p l) (pulse_done m p l) e in
    (a, leaves_by a.number (pulse_unchanged m p l) (whole m.width ws rs (after m p l) (same_width m p l) f g))

pub plain_pulse_meets : (κs : Lfts 2) (a : ArgsD plain-pulse.signature κs) (r : ResD plain-pulse.signature κs) (s : AtExit (ended_of 2 plain-pulse-kinds.ps plain-pulse-kinds.r) κs)
    → plain-pulse-reads.Post κs a r s
    → let m = machine a.1.1.0 a.0.now a.1.0.now in
    let panel = a.1.1.1.0 in
    let lines = a.1.1.1.1.0 in
    Pulse m panel lines r (machine m.width s.0.now s.1.0.now)
plain_pulse_meets κs a r s h = a_pulse (machine a.1.1.0 a.0.now a.1.0.now) a.1.1.1.0 a.1.1.1.1.0 r s.0.now s.1.0.now h.0 h.1.0 h.1.1

pub wide_pulse_meets : (κs : Lfts 2) (a : ArgsD wide-pulse.signature κs) (r : ResD wide-pulse.signature κs) (s : AtExit (ended_of 2 wide-pulse-kinds.ps wide-pulse-kinds.r) κs)
    → wide-pulse-reads.Post κs a r s
    → let m = machine a.1.1.0 a.0.now a.1.0.now in
    let panel = a.1.1.1.0 in
    let lines = a.1.1.1.1.0 in
    Pulse m panel lines r (machine m.width s.0.now s.1.0.now)
wide_pulse_meets κs a r s h = a_pulse (machine a.1.1.0 a.0.now a.1.0.now) a.1.1.1.0 a.1.1.1.1.0 r s.0.now s.1.0.now h.0 h.1.0 h.1.1

-- ---- the explainer

explain_done : (m : Machine) (p : Panel) (k : WordSlice) → explain_check m p k ≡ Ok tt → explained m p k ≡ Ok (reason_at m p k)
unfolding explained
explain_done m p k = taken _ (explain_check m p k)

pub explain_meets : (κs : Lfts 2) (a : ArgsD explain.signature κs) (r : ResD explain.signature κs) (s : AtExit (ended_of 2 explain-kinds.ps explain-kinds.r) κs)
    → explain-reads.Post κs a r s
    → let m = machine a.1.1.0 a.0.now a.1.0.now in
    let panel = a.1.1.1.0 in
    let word = a.1.1.1.1.0 in
    Answers tells_explained (explain_table m panel word) (explain_check m panel word) (explained m panel word) (Ok (reason_at m panel word)) r
explain_meets κs a r s h =
    let m = machine a.1.1.0 a.0.now a.1.0.now in
    let p = a.1.1.1.0 in
    let k = a.1.1.1.1.0 in
    answers_by tells_explained (explain_check m p k) (explained m p k) r (explain_tells m p k) (explain_given m p k) (explain_done m p k) h

-- ---- resolution

resolution_done : (key care : ℕ) (m : Machine) → machine_check m ≡ Ok tt → resolution key care m ≡ Ok (resolved key care m)
unfolding resolution
resolution_done key care m = taken _ (machine_check m)

pub scan_meets : (κs : Lfts 2) (a : ArgsD scan.signature κs) (r : ResD scan.signature κs) (s : AtExit (ended_of 2 scan-kinds.ps scan-kinds.r) κs)
    → scan-reads.Post κs a r s
    → let m = machine a.1.1.0 a.0.now a.1.0.now in
    let key = a.1.1.1.0 in
    let care = a.1.1.1.1.0 in
    Answers tells_resolved (machine_table m []) (machine_check m) (resolution key care m) (Ok (resolved key care m)) r
scan_meets κs a r s h =
    let m = machine a.1.1.0 a.0.now a.1.0.now in
    answers_by tells_resolved (machine_check m) (resolution a.1.1.1.0 a.1.1.1.1.0 m) r (resolution_tells a.1.1.1.0 a.1.1.1.1.0 m) (resolution_given m) (resolution_done a.1.1.1.0 a.1.1.1.1.0 m) h

pub network_meets : (κs : Lfts 2) (a : ArgsD network.signature κs) (r : ResD network.signature κs) (s : AtExit (ended_of 2 network-kinds.ps network-kinds.r) κs)
    → network-reads.Post κs a r s
    → let m = machine a.1.1.0 a.0.now a.1.0.now in
    let key = a.1.1.1.0 in
    let care = a.1.1.1.1.0 in
    Answers tells_resolved (machine_table m []) (machine_check m) (resolution key care m) (Ok (resolved key care m)) r
network_meets κs a r s h =
    let m = machine a.1.1.0 a.0.now a.1.0.now in
    answers_by tells_resolved (machine_check m) (resolution a.1.1.1.0 a.1.1.1.1.0 m) r (resolution_tells a.1.1.1.0 a.1.1.1.1.0 m) (resolution_given m) (resolution_done a.1.1.1.0 a.1.1.1.1.0 m) h

-- ---- the round

show_done : (x : ResponseBit) (m : Machine) → show_check x m ≡ Ok tt → show_of x m ≡ Ok (shown x m)
unfolding show_of
show_done x m = taken _ (show_check x m)

answer_done : (x f : ResponseBit) (k : WordSlice) (m : Machine) → answer_check x f k m ≡ Ok tt → reply_of x f k m ≡ Ok tt
unfolding reply_of
answer_done x f k m h = h

round_done : (x f : ResponseBit) (vs : List ℕ) (m : Machine) → round_check x f m ≡ Ok tt → report_of x f vs m ≡ Ok (whole_round.ended x vs m)
unfolding report_of
round_done x f vs m = taken _ (round_check x f m)

pub show_meets : (κs : Lfts 2) (a : ArgsD show.signature κs) (r : ResD show.signature κs) (s : AtExit (ended_of 2 show-kinds.ps show-kinds.r) κs)
    → show-reads.Post κs a r s
    → let m = machine a.1.1.0 a.0.now a.1.0.now in
    let x = a.1.1.1.0 in
    Answers tells_resolved (show_table x m) (show_check x m) (show_of x m) (Ok (shown x m)) r
show_meets κs a r s h =
    let m = machine a.1.1.0 a.0.now a.1.0.now in
    let x = a.1.1.1.0 in
    answers_by tells_resolved (show_check x m) (show_of x m) r (show_tells x m) (show_given x m) (show_done x m) h

-- an answer and a round change nothing but responses
responses_only : (c : Check) (m : Machine) (qs rs : List ℕ) → rs ≡ (change_by c (machine m.width m.words qs) m).responses
    → machine m.width m.words rs ≡ change_by c (machine m.width m.words qs) m
responses_only (Ok tt) m qs rs e = ap (machine m.width m.words) e
responses_only (Err why) m qs rs e = ap (machine m.width m.words) e

pub answer_meets : (κs : Lfts 2) (a : ArgsD answer.signature κs) (r : ResD answer.signature κs) (s : AtExit (ended_of 2 answer-kinds.ps answer-kinds.r) κs)
    → answer-reads.Post κs a r s
    → let m = machine a.1.1.0 a.0.now a.1.0.now in
    let x = a.1.1.1.0 in
    let f = a.1.1.1.1.0 in
    let k = a.1.1.1.1.1.0 in
    let v = a.1.1.1.1.1.1.0 in
    Answers rounds.told (answer_table x f k m) (answer_check x f k m) (reply_of x f k m) (Ok tt) r
    × Leaves (rounds.told r).0 m (after_answer x f k v m) (machine m.width m.words s.1.0.now)
unfolding after_answer
answer_meets κs a r s h =
    let m = machine a.1.1.0 a.0.now a.1.0.now in
    let x = a.1.1.1.0 in
    let f = a.1.1.1.1.0 in
    let k = a.1.1.1.1.1.0 in
    let v = a.1.1.1.1.1.1.0 in
    let b = answers_by rounds.told (answer_check x f k m) (reply_of x f k m) r (answer_tells x f k m) (answer_given x f k m) (answer_done x f k m) h.0 in
    (b, leaves_by b.number (answer_unchanged x f k v m) (responses_only (answer_check x f k m) m (answered_at x f k v m).responses s.1.0.now h.1))

pub round_meets : (κs : Lfts 3) (a : ArgsD round.signature κs) (r : ResD round.signature κs) (s : AtExit (ended_of 3 round-kinds.ps round-kinds.r) κs)
    → round-reads.Post κs a r s
    → let m = machine a.1.1.0 a.0.now a.1.0.now in
    let x = a.1.1.1.0 in
    let f = a.1.1.1.1.0 in
    let vs = a.1.1.1.1.1.0.now in
    Answers tells_report (round_table x f m) (round_check x f m) (report_of x f vs m) (Ok (whole_round.ended x vs m)) r
    × Leaves (tells_report r).0 m (after_round x f vs m) (machine m.width m.words s.1.0.now)
unfolding after_round after_ended
round_meets κs a r s h =
    let m = machine a.1.1.0 a.0.now a.1.0.now in
    let x = a.1.1.1.0 in
    let f = a.1.1.1.1.0 in
    let vs = a.1.1.1.1.1.0.now in
    let b = answers_by tells_report (round_check x f m) (report_of x f vs m) r (round_tells x f vs m) (round_given x f m) (round_done x f vs m) h.0 in
    (b, leaves_by b.number (round_unchanged x f vs m) (responses_only (round_check x f m) m (after_ended x f vs m).responses s.1.0.now h.1))

-- ---- jobs

start_done : (m : Machine) (h : Held) (o : Job) → start_check m h o ≡ Ok tt → start_of m h o ≡ Ok (place.first o)
unfolding start_of
start_done m h o = taken _ (start_check m h o)

step_done : (m : Machine) (h : Held) → step_check m h ≡ Ok tt → step_of m h ≡ gave m h
unfolding step_of
step_done m h e = ap (λ (c : Check). given_by c (gave m h)) e

total_done : (m : Machine) (h : Held) → total_check m h ≡ Ok tt → total_of m h ≡ Ok (held_pulses m h)
unfolding total_of
total_done m h = taken _ (total_check m h)

pub start_meets : (κs : Lfts 2) (a : ArgsD start.signature κs) (r : ResD start.signature κs) (s : AtExit (ended_of 2 start-kinds.ps start-kinds.r) κs)
    → start-reads.Post κs a r s
    → let m = machine a.1.1.0 a.0.now a.1.0.now in
    let held = a.1.1.1.0 in
    let offered = a.1.1.1.1.0 in
    Answers tells_started (start_table m held offered) (start_check m held offered) (start_of m held offered) (Ok (place.first offered)) r
start_meets κs a r s h =
    let m = machine a.1.1.0 a.0.now a.1.0.now in
    let held = a.1.1.1.0 in
    let offered = a.1.1.1.1.0 in
    answers_by tells_started (start_check m held offered) (start_of m held offered) r (start_tells m held offered) (start_given m held offered) (start_done m held offered) h

-- the machine and what the answer says is held are what one step leaves (`stepped`)
step_width : (m : Machine) (h : Held) → (after_step m h).width ≡ m.width
unfolding after_step pulsed
step_width m h = go (step_of m h)
  where
    go : (q : Result Stepped Refusal) → (machine_after q m).width ≡ m.width
    go (Ok given) = refl
    go (Err why) = refl

held_still : (m : Machine) (h : Held) → ((tells_stepped (step_of m h)).0 ≡ 0 → ⊥) → held_after (step_of m h) h ≡ h
held_still m h = go (step_of m h)
  where
    go : (q : Result Stepped Refusal) → ((tells_stepped q).0 ≡ 0 → ⊥) → held_after q h ≡ h
    go (Ok given) z = absurd (z refl)
    go (Err why) z = refl

both : (m n : Machine) (h g : Held) → m ≡ n → h ≡ g → ◌≡◌ {A = State} (record { machine = m; held = h }) (record { machine = n; held = g })
both m n h g e f = rw (e, f)

pub step_meets : (κs : Lfts 2) (a : ArgsD step.signature κs) (r : ResD step.signature κs) (s : AtExit (ended_of 2 step-kinds.ps step-kinds.r) κs)
    → step-reads.Post κs a r s
    → let m = machine a.1.1.0 a.0.now a.1.0.now in
    let held = a.1.1.1.0 in
    Answers tells_stepped (steps_table m held) (step_check m held) (step_of m held) (gave m held) r
    × Leaves (tells_stepped r).0 (record { machine = m; held = held }) (stepped (record { machine = m; held = held }))
    (state m.width s.0.now s.1.0.now (held_after r held))
unfolding stepped
step_meets κs a r s h =
    let m = machine a.1.1.0 a.0.now a.1.0.now in
    let held = a.1.1.1.0 in
    let b = answers_by tells_stepped (step_check m held) (step_of m held) r (step_tells m held) (step_given m held) (step_done m held) h.0 in
    let t = step_tells m held in (
      b,
      leaves_by b.number (λ z. both (after_step m held) m _ held (step_unchanged m held z) (held_still m held (λ y. z (sym (ap (λ (x : ℕ × ℕ). x.0) t) ∙ y))))
          (both (machine m.width s.0.now s.1.0.now) (after_step m held) _ _ (whole m.width s.0.now s.1.0.now (after_step m held) (step_width m held) h.1.0 h.1.1) (ap (λ (q : Result Stepped Refusal). held_after q held) h.0)),
    )

pub total_meets : (κs : Lfts 2) (a : ArgsD total.signature κs) (r : ResD total.signature κs) (s : AtExit (ended_of 2 total-kinds.ps total-kinds.r) κs)
    → total-reads.Post κs a r s
    → let m = machine a.1.1.0 a.0.now a.1.0.now in
    let held = a.1.1.1.0 in
    Answers tells_total (total_table m held) (total_check m held) (total_of m held) (Ok (held_pulses m held)) r
total_meets κs a r s h =
    let m = machine a.1.1.0 a.0.now a.1.0.now in
    let held = a.1.1.1.0 in
    answers_by tells_total (total_check m held) (total_of m held) r (total_tells m held) (total_given m held) (total_done m held) h

-- ---- the image

write_done : (m : State) (room : ℕ) → write_check m room ≡ Ok tt → write_of m room ≡ Ok (length (image_of m))
unfolding write_of
write_done m room = taken _ (write_check m room)

-- the answer for the machine that an image stands for
abbrev pub machine_in : State → Loaded
machine_in m = record { width = m.machine.width; words = length m.machine.words; held = m.held }

read_done : (image : List ℕ) (words responses : ℕ) → read_check image words responses ≡ Ok tt → read_of image words responses ≡ Ok (machine_in (state_in image))
unfolding read_of
read_done image words responses = taken _ (read_check image words responses)

pub write_meets : (κs : Lfts 3) (a : ArgsD write.signature κs) (r : ResD write.signature κs) (s : AtExit (ended_of 3 write-kinds.ps write-kinds.r) κs)
    → write-reads.Post κs a r s
    → let m = state a.1.1.0 a.0.now a.1.0.now a.1.1.1.0 in
    let out = a.1.1.1.1.0.now in
    Answers tells_wrote (write_table m (length out)) (write_check m (length out)) (write_of m (length out)) (Ok (length (image_of m))) r
    × Leaves (tells_wrote r).0 out (written m out) s.1.1.1.1.0.now
write_meets κs a r s h =
    let m = state a.1.1.0 a.0.now a.1.0.now a.1.1.1.0 in
    let out = a.1.1.1.1.0.now in
    let b = answers_by tells_wrote (write_check m (length out)) (write_of m (length out)) r (write_tells m (length out)) (write_given m (length out)) (write_done m (length out)) h.0 in
    (b, leaves_by b.number (write_unchanged m out) h.1)

pub read_meets : (κs : Lfts 3) (a : ArgsD read.signature κs) (r : ResD read.signature κs) (s : AtExit (ended_of 3 read-kinds.ps read-kinds.r) κs)
    → read-reads.Post κs a r s
    → let image = a.0.now in
    let ws = a.1.0.now in
    let rs = a.1.1.0.now in
    Answers tells_read (read_table image (length ws) (length rs)) (read_check image (length ws) (length rs)) (read_of image (length ws) (length rs)) (Ok (machine_in (state_in image))) r
    × Leaves (tells_read r).0 ws (words_read image ws rs) s.1.0.now
    × Leaves (tells_read r).0 rs (responses_read image ws rs) s.1.1.0.now
read_meets κs a r s h =
    let image = a.0.now in
    let ws = a.1.0.now in
    let rs = a.1.1.0.now in
    let c = read_check image (length ws) (length rs) in
    let b = answers_by tells_read c (read_of image (length ws) (length rs)) r (read_tells image (length ws) (length rs)) (read_given image (length ws) (length rs)) (read_done image (length ws) (length rs)) h.0 in
    (b, leaves_by b.number (λ z. (read_unchanged image ws rs z).0) h.1.0, leaves_by b.number (λ z. (read_unchanged image ws rs z).1) h.1.1)

-- ---- the panel

-- "Loading one register of the panel changes that register and no other": register k of p loaded with v gives q
pub record Loads (k v : ℕ) (p q : Panel) : Type 0 where
  pub that : held q k ≡ v
  pub no_other : (j : ℕ) → (j ≡ k → ⊥) → held q j ≡ held p j

a_load : (k v : ℕ) (p q : Panel) → k < 10 → registers q ≡ load k v p → Loads k v p q
a_load k v p q few e = record { that = load_that k v p q few e; no_other = λ j z. load_no_other k v p q j z e }

pub own_comp_meets : (κs : Lfts 0) (a : ArgsD own-comp.signature κs) (r : ResD own-comp.signature κs) (s : AtExit (ended_of 0 own-comp-kinds.ps own-comp-kinds.r) κs)
    → own-comp-reads.Post κs a r s → Loads 0 a.1.0 a.0 r
own_comp_meets κs a r s h = a_load 0 a.1.0 a.0 r (omega arith) h

pub own_sdr_meets : (κs : Lfts 0) (a : ArgsD own-sdr.signature κs) (r : ResD own-sdr.signature κs) (s : AtExit (ended_of 0 own-sdr-kinds.ps own-sdr-kinds.r) κs)
    → own-sdr-reads.Post κs a r s → Loads 1 a.1.0 a.0 r
own_sdr_meets κs a r s h = a_load 1 a.1.0 a.0 r (omega arith) h

pub own_sc1_meets : (κs : Lfts 0) (a : ArgsD own-sc1.signature κs) (r : ResD own-sc1.signature κs) (s : AtExit (ended_of 0 own-sc1-kinds.ps own-sc1-kinds.r) κs)
    → own-sc1-reads.Post κs a r s → Loads 2 a.1.0 a.0 r
own_sc1_meets κs a r s h = a_load 2 a.1.0 a.0 r (omega arith) h

pub own_sc2_meets : (κs : Lfts 0) (a : ArgsD own-sc2.signature κs) (r : ResD own-sc2.signature κs) (s : AtExit (ended_of 0 own-sc2-kinds.ps own-sc2-kinds.r) κs)
    → own-sc2-reads.Post κs a r s → Loads 3 a.1.0 a.0 r
own_sc2_meets κs a r s h = a_load 3 a.1.0 a.0 r (omega arith) h

pub own_mor_meets : (κs : Lfts 0) (a : ArgsD own-mor.signature κs) (r : ResD own-mor.signature κs) (s : AtExit (ended_of 0 own-mor-kinds.ps own-mor-kinds.r) κs)
    → own-mor-reads.Post κs a r s → Loads 4 a.1.0 a.0 r
own_mor_meets κs a r s h = a_load 4 a.1.0 a.0 r (omega arith) h

pub own_key_meets : (κs : Lfts 0) (a : ArgsD own_key.signature κs) (r : ResD own_key.signature κs) (s : AtExit (ended_of 0 own-key-kinds.ps own-key-kinds.r) κs)
    → own-key-reads.Post κs a r s → Loads 5 a.1.0 a.0 r
own_key_meets κs a r s h = a_load 5 a.1.0 a.0 r (omega arith) h

pub own_care_meets : (κs : Lfts 0) (a : ArgsD own-care.signature κs) (r : ResD own-care.signature κs) (s : AtExit (ended_of 0 own-care-kinds.ps own-care-kinds.r) κs)
    → own-care-reads.Post κs a r s → Loads 6 a.1.0 a.0 r
own_care_meets κs a r s h = a_load 6 a.1.0 a.0 r (omega arith) h

pub own_target_meets : (κs : Lfts 0) (a : ArgsD own-target.signature κs) (r : ResD own-target.signature κs) (s : AtExit (ended_of 0 own-target-kinds.ps own-target-kinds.r) κs)
    → own-target-reads.Post κs a r s → Loads 7 a.1.0 a.0 r
own_target_meets κs a r s h = a_load 7 a.1.0 a.0 r (omega arith) h

pub own_address_meets : (κs : Lfts 0) (a : ArgsD own-address.signature κs) (r : ResD own-address.signature κs) (s : AtExit (ended_of 0 own-address-kinds.ps own-address-kinds.r) κs)
    → own-address-reads.Post κs a r s → Loads 8 a.1.0.0 a.0 r
own_address_meets κs a r s h = a_load 8 a.1.0.0 a.0 r (omega arith) h

pub own_sc3_meets : (κs : Lfts 0) (a : ArgsD own-sc3.signature κs) (r : ResD own-sc3.signature κs) (s : AtExit (ended_of 0 own-sc3-kinds.ps own-sc3-kinds.r) κs)
    → own-sc3-reads.Post κs a r s → Loads 9 a.1.0 a.0 r
own_sc3_meets κs a r s h = a_load 9 a.1.0 a.0 r (omega arith) h

-- of a panel lent
pub load_comp_meets : (κs : Lfts 1) (a : ArgsD load-comp.signature κs) (r : ResD load-comp.signature κs) (s : AtExit (ended_of 1 load-comp-kinds.ps load-comp-kinds.r) κs)
    → load-comp-reads.Post κs a r s → Loads 0 a.1.0 a.0.now s.0.now
load_comp_meets κs a r s h = a_load 0 a.1.0 a.0.now s.0.now (omega arith) h

pub load_sdr_meets : (κs : Lfts 1) (a : ArgsD load-sdr.signature κs) (r : ResD load-sdr.signature κs) (s : AtExit (ended_of 1 load-sdr-kinds.ps load-sdr-kinds.r) κs)
    → load-sdr-reads.Post κs a r s → Loads 1 a.1.0 a.0.now s.0.now
load_sdr_meets κs a r s h = a_load 1 a.1.0 a.0.now s.0.now (omega arith) h

pub load_sc1_meets : (κs : Lfts 1) (a : ArgsD load-sc1.signature κs) (r : ResD load-sc1.signature κs) (s : AtExit (ended_of 1 load-sc1-kinds.ps load-sc1-kinds.r) κs)
    → load-sc1-reads.Post κs a r s → Loads 2 a.1.0 a.0.now s.0.now
load_sc1_meets κs a r s h = a_load 2 a.1.0 a.0.now s.0.now (omega arith) h

pub load_sc2_meets : (κs : Lfts 1) (a : ArgsD load-sc2.signature κs) (r : ResD load-sc2.signature κs) (s : AtExit (ended_of 1 load-sc2-kinds.ps load-sc2-kinds.r) κs)
    → load-sc2-reads.Post κs a r s → Loads 3 a.1.0 a.0.now s.0.now
load_sc2_meets κs a r s h = a_load 3 a.1.0 a.0.now s.0.now (omega arith) h

pub load_mor_meets : (κs : Lfts 1) (a : ArgsD load-mor.signature κs) (r : ResD load-mor.signature κs) (s : AtExit (ended_of 1 load-mor-kinds.ps load-mor-kinds.r) κs)
    → load-mor-reads.Post κs a r s → Loads 4 a.1.0 a.0.now s.0.now
load_mor_meets κs a r s h = a_load 4 a.1.0 a.0.now s.0.now (omega arith) h

pub load_key_meets : (κs : Lfts 1) (a : ArgsD load-key.signature κs) (r : ResD load-key.signature κs) (s : AtExit (ended_of 1 load-key-kinds.ps load-key-kinds.r) κs)
    → load-key-reads.Post κs a r s → Loads 5 a.1.0 a.0.now s.0.now
load_key_meets κs a r s h = a_load 5 a.1.0 a.0.now s.0.now (omega arith) h

pub load_care_meets : (κs : Lfts 1) (a : ArgsD load-care.signature κs) (r : ResD load-care.signature κs) (s : AtExit (ended_of 1 load-care-kinds.ps load-care-kinds.r) κs)
    → load-care-reads.Post κs a r s → Loads 6 a.1.0 a.0.now s.0.now
load_care_meets κs a r s h = a_load 6 a.1.0 a.0.now s.0.now (omega arith) h

pub load_target_meets : (κs : Lfts 1) (a : ArgsD load-target.signature κs) (r : ResD load-target.signature κs) (s : AtExit (ended_of 1 load-target-kinds.ps load-target-kinds.r) κs)
    → load-target-reads.Post κs a r s → Loads 7 a.1.0 a.0.now s.0.now
load_target_meets κs a r s h = a_load 7 a.1.0 a.0.now s.0.now (omega arith) h

pub load_address_meets : (κs : Lfts 1) (a : ArgsD load-address.signature κs) (r : ResD load-address.signature κs) (s : AtExit (ended_of 1 load-address-kinds.ps load-address-kinds.r) κs)
    → load-address-reads.Post κs a r s → Loads 8 a.1.0.0 a.0.now s.0.now
load_address_meets κs a r s h = a_load 8 a.1.0.0 a.0.now s.0.now (omega arith) h

pub load_sc3_meets : (κs : Lfts 1) (a : ArgsD load-sc3.signature κs) (r : ResD load-sc3.signature κs) (s : AtExit (ended_of 1 load-sc3-kinds.ps load-sc3-kinds.r) κs)
    → load-sc3-reads.Post κs a r s → Loads 9 a.1.0 a.0.now s.0.now
load_sc3_meets κs a r s h = a_load 9 a.1.0 a.0.now s.0.now (omega arith) h

-- by number: what `takes` answers beforehand, and nothing changes where it is false
pub takes_meets : (κs : Lfts 0) (a : ArgsD taking.signature κs) (r : ResD taking.signature κs) (s : AtExit (ended_of 0 taking-kinds.ps taking-kinds.r) κs)
    → taking-reads.Post κs a r s → r ≡ takes a.0 a.1.0
takes_meets κs a r s h = h

a_register : (k v : ℕ) → takes k v ≡ true → k < 10
a_register k v e = go (ltb k 5) (ltb k 8) refl refl e
  where
    go : (b c : Bool) → ltb k 5 ≡ b → ltb k 8 ≡ c → pick b true (pick c (not (too_wide response_bits v)) (ltb k 10)) ≡ true → k < 10
    go true c f g z = omega (arith, ltb-true k 5 f)
    go false true f g z = omega (arith, ltb-true k 8 g)
    go false false f g z = ltb-true k 10 z

pub load_meets : (κs : Lfts 0) (a : ArgsD numbered.signature κs) (r : ResD numbered.signature κs) (s : AtExit (ended_of 0 numbered-kinds.ps numbered-kinds.r) κs)
    → numbered-reads.Post κs a r s
    → let k = a.1.0 in
    let v = a.1.1.0 in
    (takes k v ≡ true → Loads k v a.0 r) × (takes k v ≡ false → r ≡ a.0)
load_meets κs a r s h =
    let k = a.1.0 in
    let v = a.1.1.0 in (
      (λ e. a_load k v a.0 r (a_register k v e) (h ∙ ap (λ (b : Bool). pick b (load k v a.0) (registers a.0)) e)),
      (λ e. same_panel r a.0 (h ∙ ap (λ (b : Bool). pick b (load k v a.0) (registers a.0)) e)),
    )
