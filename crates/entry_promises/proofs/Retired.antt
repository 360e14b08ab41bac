-- Document 02, request d: "8 is retired". No entry point returns it, from each one's own contract (`Post`, of its arguments a, the number returned r
-- and what stands behind the lent references at exit, s).
use Prim.Native.Nat.{ℕ}
use mathlib.Core.Path.{◌≡◌, sym, ◌∙◌}
use mathlib.Core.List.{List}
use native.Mathlib.Omega.{arith}
use lib.ListN.{length}
use contract.Lifetimes.{Lfts}
use borrow.Fn.World.{ArgsD, ResD}
use borrow.Fn.Kinds.{ended_of}
use denote.Triple.Clauses.{AtExit}
use Rattle.std.specs.Prelude.{Ok, Err}
use Rattle.machine.specs.Machine.{Machine}
use Rattle.machine.specs.Panel.{panel_of}
use Rattle.machine.specs.Pulse.{count_of, read_of}
use Rattle.machine.specs.Refusals.{Check, machine_check, answer_by}
use Rattle.machine.specs.Resolution.{resolved}
use Rattle.machine.proofs.Refusals.{not_eight}
use Rattle.rounds.specs.Round.{shown, show_check}
use Rattle.handout.specs.Whole.{ended}
use Rattle.job_tally.specs.Totals.{held_pulses, total_check}
use Rattle.jobs.specs.Runs.{State}
use Rattle.image_layout.specs.Format.{image_of}
use Rattle.entry_forms.specs.Numbers.{lower, lines_of, room_check, resolved_size}
use Rattle.entry_forms.specs.Records.{held_in}
use Rattle.explainer.specs.Reasons.{reason_at}
use Rattle.entry_pulses.specs.Entries as pulses
use Rattle.entry_rounds.specs.Entries as rounds
use Rattle.entry_jobs.specs.Entries as jobs
use Rattle.entry_images.specs.Entries as images
use Rattle.promises.proofs.InOrder.{answer_not_8, explained_not_8, resolved_not_8, reply_not_8, report_not_8, started_not_8, stepped_not_8, total_not_8, wrote_not_8, read_not_8}
use Rattle.entry_pulses.specs.contracts.dushvaneth_load as load
use Rattle.entry_pulses.proofs.dushvaneth_load.Kinds as load-kinds
use Rattle.entry_pulses.proofs.dushvaneth_load.Reads as load-reads
use Rattle.entry_pulses.specs.contracts.dushvaneth_wide_pulse as wide-pulse
use Rattle.entry_pulses.proofs.dushvaneth_wide_pulse.Kinds as wide-pulse-kinds
use Rattle.entry_pulses.proofs.dushvaneth_wide_pulse.Reads as wide-pulse-reads
use Rattle.entry_pulses.specs.contracts.dushvaneth_cells_pulse as plain-pulse
use Rattle.entry_pulses.proofs.dushvaneth_cells_pulse.Kinds as plain-pulse-kinds
use Rattle.entry_pulses.proofs.dushvaneth_cells_pulse.Reads as plain-pulse-reads
use Rattle.entry_pulses.specs.contracts.dushvaneth_explain as explain
use Rattle.entry_pulses.proofs.dushvaneth_explain.Kinds as explain-kinds
use Rattle.entry_pulses.proofs.dushvaneth_explain.Reads as explain-reads
use Rattle.entry_pulses.specs.contracts.dushvaneth_scan as scan
use Rattle.entry_pulses.proofs.dushvaneth_scan.Kinds as scan-kinds
use Rattle.entry_pulses.proofs.dushvaneth_scan.Reads as scan-reads
use Rattle.entry_pulses.specs.contracts.dushvaneth_network as network
use Rattle.entry_pulses.proofs.dushvaneth_network.Kinds as network-kinds
use Rattle.entry_pulses.proofs.dushvaneth_network.Reads as network-reads
use Rattle.entry_rounds.specs.contracts.dushvaneth_show as show
use Rattle.entry_rounds.proofs.dushvaneth_show.Kinds as show-kinds
use Rattle.entry_rounds.proofs.dushvaneth_show.Reads as show-reads
use Rattle.entry_rounds.specs.contracts.dushvaneth_answer as answer
use Rattle.entry_rounds.proofs.dushvaneth_answer.Kinds as answer-kinds
use Rattle.entry_rounds.proofs.dushvaneth_answer.Reads as answer-reads
use Rattle.entry_rounds.specs.contracts.dushvaneth_round as round
use Rattle.entry_rounds.proofs.dushvaneth_round.Kinds as round-kinds
use Rattle.entry_rounds.proofs.dushvaneth_round.Reads as round-reads
use Rattle.entry_jobs.specs.contracts.dushvaneth_start as start
use Rattle.entry_jobs.proofs.dushvaneth_start.Kinds as start-kinds
use Rattle.entry_jobs.proofs.dushvaneth_start.Reads as start-reads
use Rattle.entry_jobs.specs.contracts.dushvaneth_step as step
use Rattle.entry_jobs.proofs.dushvaneth_step.Kinds as step-kinds
use Rattle.entry_jobs.proofs.dushvaneth_step.Reads as step-reads
use Rattle.entry_jobs.specs.contracts.dushvaneth_total as total
use Rattle.entry_jobs.proofs.dushvaneth_total.Kinds as total-kinds
use Rattle.entry_jobs.proofs.dushvaneth_total.Reads as total-reads
use Rattle.entry_images.specs.contracts.dushvaneth_write as write
use Rattle.entry_images.proofs.dushvaneth_write.Kinds as write-kinds
use Rattle.entry_images.proofs.dushvaneth_write.Reads as write-reads
use Rattle.entry_images.specs.contracts.dushvaneth_read as read
use Rattle.entry_images.proofs.dushvaneth_read.Kinds as read-kinds
use Rattle.entry_images.proofs.dushvaneth_read.Reads as read-reads

number_not_8 : (c : Check) → pulses.number_in c ≡ 8 → ⊥
number_not_8 (Ok tt) e = omega (arith, e)
number_not_8 (Err r) e = not_eight r e

-- ---- what an entry tells, whatever is lent

load_not_8 : (rs : List ℕ) (k v : ℕ) → pulses.load_number rs k v ≡ 8 → ⊥
unfolding pulses.load_number
load_not_8 rs k v e = number_not_8 (pulses.load_check rs k v) e

pulse_not_8 : (m : Machine) (rs : List ℕ) (l room : ℕ) → (pulses.pulse_told m rs l room).refusal ≡ 8 → ⊥
unfolding pulses.pulse_told
pulse_not_8 m rs l room e =
    answer_not_8 (answer_by (pulses.pulse_entry m rs l room) (record { count = count_of m (panel_of rs) (lines_of l); read = read_of m (panel_of rs) (lines_of l) })) e

explain_not_8 : (m : Machine) (rs : List ℕ) (w room : ℕ) → (pulses.explained_told m rs w room).refusal ≡ 8 → ⊥
unfolding pulses.explained_told
explain_not_8 m rs w room e = explained_not_8 (answer_by (pulses.explain_entry m rs w room) (reason_at m (panel_of rs) (record { 0 = w }))) e

resolution_not_8 : (key care : ℕ) (m : Machine) (room : ℕ) → (pulses.resolved_told key care m room).refusal ≡ 8 → ⊥
unfolding pulses.resolved_told
resolution_not_8 key care m room e =
    resolved_not_8 (answer_by (lower (room_check resolved_size room) (machine_check m)) (resolved key care m)) e

show_not_8 : (x : ℕ) (m : Machine) (room : ℕ) → (rounds.show_told x m room).refusal ≡ 8 → ⊥
unfolding rounds.show_told
show_not_8 x m room e =
    resolved_not_8 (answer_by (lower (room_check resolved_size room) (show_check (rounds.bit_of x) m)) (shown (rounds.bit_of x) m)) e

answering_not_8 : (x f k : ℕ) (m : Machine) (room : ℕ) → (rounds.answer_told x f k m room).0 ≡ 8 → ⊥
unfolding rounds.answer_told
answering_not_8 x f k m room e = reply_not_8 (rounds.answer_entry x f k m room) e

round_not_8 : (x f : ℕ) (vs : List ℕ) (m : Machine) (room : ℕ) → (rounds.round_told x f vs m room).refusal ≡ 8 → ⊥
unfolding rounds.round_told
round_not_8 x f vs m room e = report_not_8 (answer_by (rounds.round_entry x f m room) (ended (rounds.bit_of x) vs m)) e

start_not_8 : (m : Machine) (held job : List ℕ) (room : ℕ) → (jobs.start_told m held job room).refusal ≡ 8 → ⊥
unfolding jobs.start_told
start_not_8 m held job room e = started_not_8 (jobs.started_by (jobs.start_entry m held job room) job) e

step_not_8 : (m : Machine) (job : List ℕ) (room : ℕ) → (jobs.step_told m job room).refusal ≡ 8 → ⊥
unfolding jobs.step_told
step_not_8 m job room e = stepped_not_8 (jobs.stepped_by (jobs.step_entry m job room) m job) e

totalling_not_8 : (m : Machine) (job : List ℕ) (room : ℕ) → (jobs.total_told m job room).refusal ≡ 8 → ⊥
unfolding jobs.total_told
totalling_not_8 m job room e =
    total_not_8 (answer_by (lower (jobs.total_own job room) (total_check m (held_in job))) (held_pulses m (held_in job))) e

write_not_8 : (s : State) (job image : List ℕ) (room : ℕ) → (images.write_told s job image room).refusal ≡ 8 → ⊥
unfolding images.write_told
write_not_8 s job image room e = wrote_not_8 (answer_by (images.write_entry s job image room) (length (image_of s))) e

reading_not_8 : (image : List ℕ) (words responses : ℕ) (job : List ℕ) (room : ℕ) → (images.read_told image words responses job room).refusal ≡ 8 → ⊥
unfolding images.read_told
reading_not_8 image words responses job room e = read_not_8 (images.read_by (images.read_entry image words responses job room) image) e

-- ---- the entry points

pub load_entry_not_8 : (κs : Lfts 1) (a : ArgsD load.signature κs) (r : ResD load.signature κs) (s : AtExit (ended_of 1 load-kinds.ps load-kinds.r) κs)
    → load-reads.Post κs a r s → r ≡ 8 → ⊥
load_entry_not_8 κs a r s h e = load_not_8 _ _ _ (sym h.0 ∙ e)

pub wide_pulse_entry_not_8 : (κs : Lfts 4) (a : ArgsD wide-pulse.signature κs) (r : ResD wide-pulse.signature κs) (s : AtExit (ended_of 4 wide-pulse-kinds.ps wide-pulse-kinds.r) κs)
    → wide-pulse-reads.Post κs a r s → r ≡ 8 → ⊥
wide_pulse_entry_not_8 κs a r s h e = pulse_not_8 _ _ _ _ (sym h.0 ∙ e)

pub plain_pulse_entry_not_8 : (κs : Lfts 4) (a : ArgsD plain-pulse.signature κs) (r : ResD plain-pulse.signature κs) (s : AtExit (ended_of 4 plain-pulse-kinds.ps plain-pulse-kinds.r) κs)
    → plain-pulse-reads.Post κs a r s → r ≡ 8 → ⊥
plain_pulse_entry_not_8 κs a r s h e = pulse_not_8 _ _ _ _ (sym h.0 ∙ e)

pub explain_entry_not_8 : (κs : Lfts 4) (a : ArgsD explain.signature κs) (r : ResD explain.signature κs) (s : AtExit (ended_of 4 explain-kinds.ps explain-kinds.r) κs)
    → explain-reads.Post κs a r s → r ≡ 8 → ⊥
explain_entry_not_8 κs a r s h e = explain_not_8 _ _ _ _ (sym h.0 ∙ e)

pub scan_entry_not_8 : (κs : Lfts 3) (a : ArgsD scan.signature κs) (r : ResD scan.signature κs) (s : AtExit (ended_of 3 scan-kinds.ps scan-kinds.r) κs)
    → scan-reads.Post κs a r s → r ≡ 8 → ⊥
scan_entry_not_8 κs a r s h e = resolution_not_8 _ _ _ _ (sym h.0 ∙ e)

pub network_entry_not_8 : (κs : Lfts 3) (a : ArgsD network.signature κs) (r : ResD network.signature κs) (s : AtExit (ended_of 3 network-kinds.ps network-kinds.r) κs)
    → network-reads.Post κs a r s → r ≡ 8 → ⊥
network_entry_not_8 κs a r s h e = resolution_not_8 _ _ _ _ (sym h.0 ∙ e)

pub show_entry_not_8 : (κs : Lfts 3) (a : ArgsD show.signature κs) (r : ResD show.signature κs) (s : AtExit (ended_of 3 show-kinds.ps show-kinds.r) κs)
    → show-reads.Post κs a r s → r ≡ 8 → ⊥
show_entry_not_8 κs a r s h e = show_not_8 _ _ _ (sym h.0 ∙ e)

pub answer_entry_not_8 : (κs : Lfts 3) (a : ArgsD answer.signature κs) (r : ResD answer.signature κs) (s : AtExit (ended_of 3 answer-kinds.ps answer-kinds.r) κs)
    → answer-reads.Post κs a r s → r ≡ 8 → ⊥
answer_entry_not_8 κs a r s h e = answering_not_8 _ _ _ _ _ (sym h.0 ∙ e)

pub round_entry_not_8 : (κs : Lfts 4) (a : ArgsD round.signature κs) (r : ResD round.signature κs) (s : AtExit (ended_of 4 round-kinds.ps round-kinds.r) κs)
    → round-reads.Post κs a r s → r ≡ 8 → ⊥
round_entry_not_8 κs a r s h e = round_not_8 _ _ _ _ _ (sym h.0 ∙ e)

pub start_entry_not_8 : (κs : Lfts 5) (a : ArgsD start.signature κs) (r : ResD start.signature κs) (s : AtExit (ended_of 5 start-kinds.ps start-kinds.r) κs)
    → start-reads.Post κs a r s → r ≡ 8 → ⊥
start_entry_not_8 κs a r s h e = start_not_8 _ _ _ _ (sym h.0 ∙ e)

pub step_entry_not_8 : (κs : Lfts 4) (a : ArgsD step.signature κs) (r : ResD step.signature κs) (s : AtExit (ended_of 4 step-kinds.ps step-kinds.r) κs)
    → step-reads.Post κs a r s → r ≡ 8 → ⊥
step_entry_not_8 κs a r s h e = step_not_8 _ _ _ (sym h.0 ∙ e)

pub total_entry_not_8 : (κs : Lfts 4) (a : ArgsD total.signature κs) (r : ResD total.signature κs) (s : AtExit (ended_of 4 total-kinds.ps total-kinds.r) κs)
    → total-reads.Post κs a r s → r ≡ 8 → ⊥
total_entry_not_8 κs a r s h e = totalling_not_8 _ _ _ (sym h.0 ∙ e)

pub write_entry_not_8 : (κs : Lfts 5) (a : ArgsD write.signature κs) (r : ResD write.signature κs) (s : AtExit (ended_of 5 write-kinds.ps write-kinds.r) κs)
    → write-reads.Post κs a r s → r ≡ 8 → ⊥
write_entry_not_8 κs a r s h e = write_not_8 _ _ _ _ (sym h.0 ∙ e)

pub read_entry_not_8 : (κs : Lfts 5) (a : ArgsD read.signature κs) (r : ResD read.signature κs) (s : AtExit (ended_of 5 read-kinds.ps read-kinds.r) κs)
    → read-reads.Post κs a r s → r ≡ 8 → ⊥
read_entry_not_8 κs a r s h e = reading_not_8 _ _ _ _ _ (sym h.0 ∙ e)
