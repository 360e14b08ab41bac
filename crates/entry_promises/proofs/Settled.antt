-- "Each public call's contract determines its answer and everything lent to it afterwards": of each entry point, that two outcomes meeting its
-- contract (`Post`, of its arguments a, the number returned r and what stands behind the lent references at exit, s) are equal. What is lent by &
-- cannot change.
use mathlib.Core.Path.{◌≡◌, sym, ◌∙◌}
use contract.Lifetimes.{Lfts}
use borrow.Fn.World.{ArgsD, ResD}
use borrow.Fn.Kinds.{ended_of}
use denote.Triple.Clauses.{AtExit}
use Rattle.entry_pulses.specs.contracts.dushvaneth_load as load
use Rattle.entry_pulses.proofs.dushvaneth_load.Kinds as load-kinds
use Rattle.entry_pulses.proofs.dushvaneth_load.Reads as load-reads
use Rattle.entry_pulses.specs.contracts.dushvaneth_wide_pulse as wide-pulse
use Rattle.entry_pulses.proofs.dushvaneth_wide_pulse.Kinds as wide-pulse-kinds
use Rattle.entry_pulses.proofs.dushvaneth_wide_pulse.Reads as wide-pulse-reads
use Rattle.entry_pulses.specs.contracts.dushvaneth_cells_pulse as plain-pulse
use Rattle.entry_pulses.proofs.dushvaneth_cells_pulse.Kinds as plain-pulse-kinds
use Rattle.entry_pulses.proofs.dushvaneth_cells_pulse.Reads as plain-pulse-reads
use Rattle.entry_pulses.specs.contracts.dushvaneth_explain as explain
use Rattle.entry_pulses.proofs.dushvaneth_explain.Kinds as explain-kinds
use Rattle.entry_pulses.proofs.dushvaneth_explain.Reads as explain-reads
use Rattle.entry_pulses.specs.contracts.dushvaneth_scan as scan
use Rattle.entry_pulses.proofs.dushvaneth_scan.Kinds as scan-kinds
use Rattle.entry_pulses.proofs.dushvaneth_scan.Reads as scan-reads
use Rattle.entry_pulses.specs.contracts.dushvaneth_network as network
use Rattle.entry_pulses.proofs.dushvaneth_network.Kinds as network-kinds
use Rattle.entry_pulses.proofs.dushvaneth_network.Reads as network-reads
use Rattle.entry_rounds.specs.contracts.dushvaneth_show as show
use Rattle.entry_rounds.proofs.dushvaneth_show.Kinds as show-kinds
use Rattle.entry_rounds.proofs.dushvaneth_show.Reads as show-reads
use Rattle.entry_rounds.specs.contracts.dushvaneth_answer as answer
use Rattle.entry_rounds.proofs.dushvaneth_answer.Kinds as answer-kinds
use Rattle.entry_rounds.proofs.dushvaneth_answer.Reads as answer-reads
use Rattle.entry_rounds.specs.contracts.dushvaneth_round as round
use Rattle.entry_rounds.proofs.dushvaneth_round.Kinds as round-kinds
use Rattle.entry_rounds.proofs.dushvaneth_round.Reads as round-reads
use Rattle.entry_jobs.specs.contracts.dushvaneth_start as start
use Rattle.entry_jobs.proofs.dushvaneth_start.Kinds as start-kinds
use Rattle.entry_jobs.proofs.dushvaneth_start.Reads as start-reads
use Rattle.entry_jobs.specs.contracts.dushvaneth_step as step
use Rattle.entry_jobs.proofs.dushvaneth_step.Kinds as step-kinds
use Rattle.entry_jobs.proofs.dushvaneth_step.Reads as step-reads
use Rattle.entry_jobs.specs.contracts.dushvaneth_total as total
use Rattle.entry_jobs.proofs.dushvaneth_total.Kinds as total-kinds
use Rattle.entry_jobs.proofs.dushvaneth_total.Reads as total-reads
use Rattle.entry_images.specs.contracts.dushvaneth_write as write
use Rattle.entry_images.proofs.dushvaneth_write.Kinds as write-kinds
use Rattle.entry_images.proofs.dushvaneth_write.Reads as write-reads
use Rattle.entry_images.specs.contracts.dushvaneth_read as read
use Rattle.entry_images.proofs.dushvaneth_read.Kinds as read-kinds
use Rattle.entry_images.proofs.dushvaneth_read.Reads as read-reads

pub load_settled : (κs : Lfts 1) (a : ArgsD load.signature κs) (r r' : ResD load.signature κs) (s s' : AtExit (ended_of 1 load-kinds.ps load-kinds.r) κs)
    → load-reads.Post κs a r s → load-reads.Post κs a r' s' → (r ≡ r') × (s.0.now ≡ s'.0.now)
load_settled κs a r r' s s' h g = (h.0 ∙ sym g.0, h.1 ∙ sym g.1)

pub wide_pulse_settled : (κs : Lfts 4) (a : ArgsD wide-pulse.signature κs) (r r' : ResD wide-pulse.signature κs) (s s' : AtExit (ended_of 4 wide-pulse-kinds.ps wide-pulse-kinds.r) κs)
    → wide-pulse-reads.Post κs a r s → wide-pulse-reads.Post κs a r' s' → (r ≡ r') × (s.1.1.1.1.1.0.now ≡ s'.1.1.1.1.1.0.now) × (s.0.now ≡ s'.0.now) × (s.1.0.now ≡ s'.1.0.now)
wide_pulse_settled κs a r r' s s' h g = (h.0 ∙ sym g.0, h.1.0 ∙ sym g.1.0, h.1.1.0 ∙ sym g.1.1.0, h.1.1.1 ∙ sym g.1.1.1)

pub plain_pulse_settled : (κs : Lfts 4) (a : ArgsD plain-pulse.signature κs) (r r' : ResD plain-pulse.signature κs) (s s' : AtExit (ended_of 4 plain-pulse-kinds.ps plain-pulse-kinds.r) κs)
    → plain-pulse-reads.Post κs a r s → plain-pulse-reads.Post κs a r' s' → (r ≡ r') × (s.1.1.1.1.1.0.now ≡ s'.1.1.1.1.1.0.now) × (s.0.now ≡ s'.0.now) × (s.1.0.now ≡ s'.1.0.now)
plain_pulse_settled κs a r r' s s' h g = (h.0 ∙ sym g.0, h.1.0 ∙ sym g.1.0, h.1.1.0 ∙ sym g.1.1.0, h.1.1.1 ∙ sym g.1.1.1)

pub explain_settled : (κs : Lfts 4) (a : ArgsD explain.signature κs) (r r' : ResD explain.signature κs) (s s' : AtExit (ended_of 4 explain-kinds.ps explain-kinds.r) κs)
    → explain-reads.Post κs a r s → explain-reads.Post κs a r' s' → (r ≡ r') × (s.1.1.1.1.1.0.now ≡ s'.1.1.1.1.1.0.now)
explain_settled κs a r r' s s' h g = (h.0 ∙ sym g.0, h.1 ∙ sym g.1)

pub scan_settled : (κs : Lfts 3) (a : ArgsD scan.signature κs) (r r' : ResD scan.signature κs) (s s' : AtExit (ended_of 3 scan-kinds.ps scan-kinds.r) κs)
    → scan-reads.Post κs a r s → scan-reads.Post κs a r' s' → (r ≡ r') × (s.1.1.1.1.1.0.now ≡ s'.1.1.1.1.1.0.now)
scan_settled κs a r r' s s' h g = (h.0 ∙ sym g.0, h.1 ∙ sym g.1)

pub network_settled : (κs : Lfts 3) (a : ArgsD network.signature κs) (r r' : ResD network.signature κs) (s s' : AtExit (ended_of 3 network-kinds.ps network-kinds.r) κs)
    → network-reads.Post κs a r s → network-reads.Post κs a r' s' → (r ≡ r') × (s.1.1.1.1.1.0.now ≡ s'.1.1.1.1.1.0.now)
network_settled κs a r r' s s' h g = (h.0 ∙ sym g.0, h.1 ∙ sym g.1)

pub show_settled : (κs : Lfts 3) (a : ArgsD show.signature κs) (r r' : ResD show.signature κs) (s s' : AtExit (ended_of 3 show-kinds.ps show-kinds.r) κs)
    → show-reads.Post κs a r s → show-reads.Post κs a r' s' → (r ≡ r') × (s.1.1.1.1.0.now ≡ s'.1.1.1.1.0.now)
show_settled κs a r r' s s' h g = (h.0 ∙ sym g.0, h.1 ∙ sym g.1)

pub answer_settled : (κs : Lfts 3) (a : ArgsD answer.signature κs) (r r' : ResD answer.signature κs) (s s' : AtExit (ended_of 3 answer-kinds.ps answer-kinds.r) κs)
    → answer-reads.Post κs a r s → answer-reads.Post κs a r' s' → (r ≡ r') × (s.1.1.1.1.1.1.1.0.now ≡ s'.1.1.1.1.1.1.1.0.now) × (s.1.0.now ≡ s'.1.0.now)
answer_settled κs a r r' s s' h g = (h.0 ∙ sym g.0, h.1.0 ∙ sym g.1.0, h.1.1 ∙ sym g.1.1)

pub round_settled : (κs : Lfts 4) (a : ArgsD round.signature κs) (r r' : ResD round.signature κs) (s s' : AtExit (ended_of 4 round-kinds.ps round-kinds.r) κs)
    → round-reads.Post κs a r s → round-reads.Post κs a r' s' → (r ≡ r') × (s.1.1.1.1.1.1.0.now ≡ s'.1.1.1.1.1.1.0.now) × (s.1.0.now ≡ s'.1.0.now)
round_settled κs a r r' s s' h g = (h.0 ∙ sym g.0, h.1.0 ∙ sym g.1.0, h.1.1 ∙ sym g.1.1)

pub start_settled : (κs : Lfts 5) (a : ArgsD start.signature κs) (r r' : ResD start.signature κs) (s s' : AtExit (ended_of 5 start-kinds.ps start-kinds.r) κs)
    → start-reads.Post κs a r s → start-reads.Post κs a r' s' → (r ≡ r') × (s.1.1.1.1.1.0.now ≡ s'.1.1.1.1.1.0.now) × (s.1.1.1.1.0.now ≡ s'.1.1.1.1.0.now)
start_settled κs a r r' s s' h g = (h.0 ∙ sym g.0, h.1.0 ∙ sym g.1.0, h.1.1 ∙ sym g.1.1)

pub step_settled : (κs : Lfts 4) (a : ArgsD step.signature κs) (r r' : ResD step.signature κs) (s s' : AtExit (ended_of 4 step-kinds.ps step-kinds.r) κs)
    → step-reads.Post κs a r s → step-reads.Post κs a r' s' → (r ≡ r') × (s.1.1.1.1.0.now ≡ s'.1.1.1.1.0.now) × (s.0.now ≡ s'.0.now) × (s.1.0.now ≡ s'.1.0.now) × (s.1.1.1.0.now ≡ s'.1.1.1.0.now)
step_settled κs a r r' s s' h g = (h.0 ∙ sym g.0, h.1.0 ∙ sym g.1.0, h.1.1.0 ∙ sym g.1.1.0, h.1.1.1.0 ∙ sym g.1.1.1.0, h.1.1.1.1 ∙ sym g.1.1.1.1)

pub total_settled : (κs : Lfts 4) (a : ArgsD total.signature κs) (r r' : ResD total.signature κs) (s s' : AtExit (ended_of 4 total-kinds.ps total-kinds.r) κs)
    → total-reads.Post κs a r s → total-reads.Post κs a r' s' → (r ≡ r') × (s.1.1.1.1.0.now ≡ s'.1.1.1.1.0.now)
total_settled κs a r r' s s' h g = (h.0 ∙ sym g.0, h.1 ∙ sym g.1)

pub write_settled : (κs : Lfts 5) (a : ArgsD write.signature κs) (r r' : ResD write.signature κs) (s s' : AtExit (ended_of 5 write-kinds.ps write-kinds.r) κs)
    → write-reads.Post κs a r s → write-reads.Post κs a r' s' → (r ≡ r') × (s.1.1.1.1.1.0.now ≡ s'.1.1.1.1.1.0.now) × (s.1.1.1.1.0.now ≡ s'.1.1.1.1.0.now)
write_settled κs a r r' s s' h g = (h.0 ∙ sym g.0, h.1.0 ∙ sym g.1.0, h.1.1 ∙ sym g.1.1)

pub read_settled : (κs : Lfts 5) (a : ArgsD read.signature κs) (r r' : ResD read.signature κs) (s s' : AtExit (ended_of 5 read-kinds.ps read-kinds.r) κs)
    → read-reads.Post κs a r s → read-reads.Post κs a r' s' → (r ≡ r') × (s.1.1.1.1.0.now ≡ s'.1.1.1.1.0.now) × (s.1.0.now ≡ s'.1.0.now) × (s.1.1.0.now ≡ s'.1.1.0.now) × (s.1.1.1.0.now ≡ s'.1.1.1.0.now)
read_settled κs a r r' s s' h g = (h.0 ∙ sym g.0, h.1.0 ∙ sym g.1.0, h.1.1.0 ∙ sym g.1.1.0, h.1.1.1.0 ∙ sym g.1.1.1.0, h.1.1.1.1 ∙ sym g.1.1.1.1)
