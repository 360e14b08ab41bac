-- Demand 1: "Every call takes any input": the precondition of each entry point, as its own source states it (`Pre`), holds for any arguments a.
use contract.Lifetimes.{Lfts}
use borrow.Fn.World.{ArgsD}
use Rattle.entry_pulses.specs.contracts.dushvaneth_load as load
use Rattle.entry_pulses.proofs.dushvaneth_load.Reads as load-reads
use Rattle.entry_pulses.specs.contracts.dushvaneth_wide_pulse as wide-pulse
use Rattle.entry_pulses.proofs.dushvaneth_wide_pulse.Reads as wide-pulse-reads
use Rattle.entry_pulses.specs.contracts.dushvaneth_cells_pulse as plain-pulse
use Rattle.entry_pulses.proofs.dushvaneth_cells_pulse.Reads as plain-pulse-reads
use Rattle.entry_pulses.specs.contracts.dushvaneth_explain as explain
use Rattle.entry_pulses.proofs.dushvaneth_explain.Reads as explain-reads
use Rattle.entry_pulses.specs.contracts.dushvaneth_scan as scan
use Rattle.entry_pulses.proofs.dushvaneth_scan.Reads as scan-reads
use Rattle.entry_pulses.specs.contracts.dushvaneth_network as network
use Rattle.entry_pulses.proofs.dushvaneth_network.Reads as network-reads
use Rattle.entry_rounds.specs.contracts.dushvaneth_show as show
use Rattle.entry_rounds.proofs.dushvaneth_show.Reads as show-reads
use Rattle.entry_rounds.specs.contracts.dushvaneth_answer as answer
use Rattle.entry_rounds.proofs.dushvaneth_answer.Reads as answer-reads
use Rattle.entry_rounds.specs.contracts.dushvaneth_round as round
use Rattle.entry_rounds.proofs.dushvaneth_round.Reads as round-reads
use Rattle.entry_jobs.specs.contracts.dushvaneth_start as start
use Rattle.entry_jobs.proofs.dushvaneth_start.Reads as start-reads
use Rattle.entry_jobs.specs.contracts.dushvaneth_step as step
use Rattle.entry_jobs.proofs.dushvaneth_step.Reads as step-reads
use Rattle.entry_jobs.specs.contracts.dushvaneth_total as total
use Rattle.entry_jobs.proofs.dushvaneth_total.Reads as total-reads
use Rattle.entry_images.specs.contracts.dushvaneth_write as write
use Rattle.entry_images.proofs.dushvaneth_write.Reads as write-reads
use Rattle.entry_images.specs.contracts.dushvaneth_read as read
use Rattle.entry_images.proofs.dushvaneth_read.Reads as read-reads

pub load_takes_any : (κs : Lfts 1) (a : ArgsD load.signature κs) → load-reads.Pre κs a
load_takes_any κs a = tt

pub wide_pulse_takes_any : (κs : Lfts 4) (a : ArgsD wide-pulse.signature κs) → wide-pulse-reads.Pre κs a
wide_pulse_takes_any κs a = tt

pub plain_pulse_takes_any : (κs : Lfts 4) (a : ArgsD plain-pulse.signature κs) → plain-pulse-reads.Pre κs a
plain_pulse_takes_any κs a = tt

pub explain_takes_any : (κs : Lfts 4) (a : ArgsD explain.signature κs) → explain-reads.Pre κs a
explain_takes_any κs a = tt

pub scan_takes_any : (κs : Lfts 3) (a : ArgsD scan.signature κs) → scan-reads.Pre κs a
scan_takes_any κs a = tt

pub network_takes_any : (κs : Lfts 3) (a : ArgsD network.signature κs) → network-reads.Pre κs a
network_takes_any κs a = tt

pub show_takes_any : (κs : Lfts 3) (a : ArgsD show.signature κs) → show-reads.Pre κs a
show_takes_any κs a = tt

pub answer_takes_any : (κs : Lfts 3) (a : ArgsD answer.signature κs) → answer-reads.Pre κs a
answer_takes_any κs a = tt

pub round_takes_any : (κs : Lfts 4) (a : ArgsD round.signature κs) → round-reads.Pre κs a
round_takes_any κs a = tt

pub start_takes_any : (κs : Lfts 5) (a : ArgsD start.signature κs) → start-reads.Pre κs a
start_takes_any κs a = tt

pub step_takes_any : (κs : Lfts 4) (a : ArgsD step.signature κs) → step-reads.Pre κs a
step_takes_any κs a = tt

pub total_takes_any : (κs : Lfts 4) (a : ArgsD total.signature κs) → total-reads.Pre κs a
total_takes_any κs a = tt

pub write_takes_any : (κs : Lfts 5) (a : ArgsD write.signature κs) → write-reads.Pre κs a
write_takes_any κs a = tt

pub read_takes_any : (κs : Lfts 5) (a : ArgsD read.signature κs) → read-reads.Pre κs a
read_takes_any κs a = tt
