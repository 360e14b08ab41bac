-- Demand 1: "Every call takes any input": the precondition of each public call, as its own source states it (`Pre` of the call), holds for any
-- arguments a.
use contract.Lifetimes.{Lfts}
use borrow.Fn.World.{ArgsD}
use Rattle.cells.specs.contracts.pulse as plain-pulse
use Rattle.cells.proofs.pulse.Reads as plain-pulse-reads
use Rattle.wide.specs.contracts.pulse as wide-pulse
use Rattle.wide.proofs.pulse.Reads as wide-pulse-reads
use Rattle.explainer.specs.contracts.explain as explain
use Rattle.explainer.proofs.explain.Reads as explain-reads
use Rattle.resolver.specs.contracts.scan as scan
use Rattle.resolver.proofs.scan.Reads as scan-reads
use Rattle.resolver.specs.contracts.network as network
use Rattle.resolver.proofs.network.Reads as network-reads
use Rattle.rounds.specs.contracts.show as show
use Rattle.rounds.proofs.show.Reads as show-reads
use Rattle.rounds.specs.contracts.answer as answer
use Rattle.rounds.proofs.answer.Reads as answer-reads
use Rattle.handout.specs.contracts.round as round
use Rattle.handout.proofs.round.Reads as round-reads
use Rattle.jobs.specs.contracts.start as start
use Rattle.jobs.proofs.start.Reads as start-reads
use Rattle.jobs.specs.contracts.step as step
use Rattle.jobs.proofs.step.Reads as step-reads
use Rattle.job_tally.specs.contracts.totals.total as total
use Rattle.job_tally.proofs.totals.total.Reads as total-reads
use Rattle.image.specs.contracts.writing.write as write
use Rattle.image.proofs.writing.write.Reads as write-reads
use Rattle.image.specs.contracts.reading.read as read
use Rattle.image.proofs.reading.read.Reads as read-reads
use Rattle.panel.specs.contracts.load as load
use Rattle.panel.proofs.load.Reads as load-reads
use Rattle.panel.specs.contracts.takes as takes
use Rattle.panel.proofs.takes.Reads as takes-reads
use Rattle.machine.specs.contracts.Panel.load_comp as own-comp
use Rattle.machine.proofs.Panel.load_comp.Reads as own-comp-reads
use Rattle.machine.specs.contracts.Panel.load_sdr as own-sdr
use Rattle.machine.proofs.Panel.load_sdr.Reads as own-sdr-reads
use Rattle.machine.specs.contracts.Panel.load_sc1 as own-sc1
use Rattle.machine.proofs.Panel.load_sc1.Reads as own-sc1-reads
use Rattle.machine.specs.contracts.Panel.load_sc2 as own-sc2
use Rattle.machine.proofs.Panel.load_sc2.Reads as own-sc2-reads
use Rattle.machine.specs.contracts.Panel.load_mor as own-mor
use Rattle.machine.proofs.Panel.load_mor.Reads as own-mor-reads
use Rattle.machine.specs.contracts.Panel.load_key as own_key
use Rattle.machine.proofs.Panel.load_key.Reads as own-key-reads
use Rattle.machine.specs.contracts.Panel.load_care as own-care
use Rattle.machine.proofs.Panel.load_care.Reads as own-care-reads
use Rattle.machine.specs.contracts.Panel.load_target as own-target
use Rattle.machine.proofs.Panel.load_target.Reads as own-target-reads
use Rattle.machine.specs.contracts.Panel.load_address as own-address
use Rattle.machine.proofs.Panel.load_address.Reads as own-address-reads
use Rattle.machine.specs.contracts.Panel.load_sc3 as own-sc3
use Rattle.machine.proofs.Panel.load_sc3.Reads as own-sc3-reads
use Rattle.panel.specs.contracts.load_comp as load-comp
use Rattle.panel.proofs.load_comp.Reads as load-comp-reads
use Rattle.panel.specs.contracts.load_sdr as load-sdr
use Rattle.panel.proofs.load_sdr.Reads as load-sdr-reads
use Rattle.panel.specs.contracts.load_sc1 as load-sc1
use Rattle.panel.proofs.load_sc1.Reads as load-sc1-reads
use Rattle.panel.specs.contracts.load_sc2 as load-sc2
use Rattle.panel.proofs.load_sc2.Reads as load-sc2-reads
use Rattle.panel.specs.contracts.load_mor as load-mor
use Rattle.panel.proofs.load_mor.Reads as load-mor-reads
use Rattle.panel.specs.contracts.load_key as load-key
use Rattle.panel.proofs.load_key.Reads as load-key-reads
use Rattle.panel.specs.contracts.load_care as load-care
use Rattle.panel.proofs.load_care.Reads as load-care-reads
use Rattle.panel.specs.contracts.load_target as load-target
use Rattle.panel.proofs.load_target.Reads as load-target-reads
use Rattle.panel.specs.contracts.load_address as load-address
use Rattle.panel.proofs.load_address.Reads as load-address-reads
use Rattle.panel.specs.contracts.load_sc3 as load-sc3
use Rattle.panel.proofs.load_sc3.Reads as load-sc3-reads

pub plain_pulse_takes_any : (κs : Lfts 2) (a : ArgsD plain-pulse.signature κs) → plain-pulse-reads.Pre κs a
plain_pulse_takes_any κs a = tt

pub wide_pulse_takes_any : (κs : Lfts 2) (a : ArgsD wide-pulse.signature κs) → wide-pulse-reads.Pre κs a
wide_pulse_takes_any κs a = tt

pub explain_takes_any : (κs : Lfts 2) (a : ArgsD explain.signature κs) → explain-reads.Pre κs a
explain_takes_any κs a = tt

pub scan_takes_any : (κs : Lfts 2) (a : ArgsD scan.signature κs) → scan-reads.Pre κs a
scan_takes_any κs a = tt

pub network_takes_any : (κs : Lfts 2) (a : ArgsD network.signature κs) → network-reads.Pre κs a
network_takes_any κs a = tt

pub show_takes_any : (κs : Lfts 2) (a : ArgsD show.signature κs) → show-reads.Pre κs a
show_takes_any κs a = tt

pub answer_takes_any : (κs : Lfts 2) (a : ArgsD answer.signature κs) → answer-reads.Pre κs a
answer_takes_any κs a = tt

pub round_takes_any : (κs : Lfts 3) (a : ArgsD round.signature κs) → round-reads.Pre κs a
round_takes_any κs a = tt

pub start_takes_any : (κs : Lfts 2) (a : ArgsD start.signature κs) → start-reads.Pre κs a
start_takes_any κs a = tt

pub step_takes_any : (κs : Lfts 2) (a : ArgsD step.signature κs) → step-reads.Pre κs a
step_takes_any κs a = tt

pub total_takes_any : (κs : Lfts 2) (a : ArgsD total.signature κs) → total-reads.Pre κs a
total_takes_any κs a = tt

pub write_takes_any : (κs : Lfts 3) (a : ArgsD write.signature κs) → write-reads.Pre κs a
write_takes_any κs a = tt

pub read_takes_any : (κs : Lfts 3) (a : ArgsD read.signature κs) → read-reads.Pre κs a
read_takes_any κs a = tt

pub load_takes_any : (κs : Lfts 0) (a : ArgsD load.signature κs) → load-reads.Pre κs a
load_takes_any κs a = tt

pub takes_takes_any : (κs : Lfts 0) (a : ArgsD takes.signature κs) → takes-reads.Pre κs a
takes_takes_any κs a = tt

pub own_comp_takes_any : (κs : Lfts 0) (a : ArgsD own-comp.signature κs) → own-comp-reads.Pre κs a
own_comp_takes_any κs a = tt

pub own_sdr_takes_any : (κs : Lfts 0) (a : ArgsD own-sdr.signature κs) → own-sdr-reads.Pre κs a
own_sdr_takes_any κs a = tt

pub own_sc1_takes_any : (κs : Lfts 0) (a : ArgsD own-sc1.signature κs) → own-sc1-reads.Pre κs a
own_sc1_takes_any κs a = tt

pub own_sc2_takes_any : (κs : Lfts 0) (a : ArgsD own-sc2.signature κs) → own-sc2-reads.Pre κs a
own_sc2_takes_any κs a = tt

pub own_mor_takes_any : (κs : Lfts 0) (a : ArgsD own-mor.signature κs) → own-mor-reads.Pre κs a
own_mor_takes_any κs a = tt

pub own_key_takes_any : (κs : Lfts 0) (a : ArgsD own_key.signature κs) → own-key-reads.Pre κs a
own_key_takes_any κs a = tt

pub own_care_takes_any : (κs : Lfts 0) (a : ArgsD own-care.signature κs) → own-care-reads.Pre κs a
own_care_takes_any κs a = tt

pub own_target_takes_any : (κs : Lfts 0) (a : ArgsD own-target.signature κs) → own-target-reads.Pre κs a
own_target_takes_any κs a = tt

pub own_address_takes_any : (κs : Lfts 0) (a : ArgsD own-address.signature κs) → own-address-reads.Pre κs a
own_address_takes_any κs a = tt

pub own_sc3_takes_any : (κs : Lfts 0) (a : ArgsD own-sc3.signature κs) → own-sc3-reads.Pre κs a
own_sc3_takes_any κs a = tt

-- the ten loads of a panel lent
pub load_comp_takes_any : (κs : Lfts 1) (a : ArgsD load-comp.signature κs) → load-comp-reads.Pre κs a
load_comp_takes_any κs a = tt

pub load_sdr_takes_any : (κs : Lfts 1) (a : ArgsD load-sdr.signature κs) → load-sdr-reads.Pre κs a
load_sdr_takes_any κs a = tt

pub load_sc1_takes_any : (κs : Lfts 1) (a : ArgsD load-sc1.signature κs) → load-sc1-reads.Pre κs a
load_sc1_takes_any κs a = tt

pub load_sc2_takes_any : (κs : Lfts 1) (a : ArgsD load-sc2.signature κs) → load-sc2-reads.Pre κs a
load_sc2_takes_any κs a = tt

pub load_mor_takes_any : (κs : Lfts 1) (a : ArgsD load-mor.signature κs) → load-mor-reads.Pre κs a
load_mor_takes_any κs a = tt

pub load_key_takes_any : (κs : Lfts 1) (a : ArgsD load-key.signature κs) → load-key-reads.Pre κs a
load_key_takes_any κs a = tt

pub load_care_takes_any : (κs : Lfts 1) (a : ArgsD load-care.signature κs) → load-care-reads.Pre κs a
load_care_takes_any κs a = tt

pub load_target_takes_any : (κs : Lfts 1) (a : ArgsD load-target.signature κs) → load-target-reads.Pre κs a
load_target_takes_any κs a = tt

pub load_address_takes_any : (κs : Lfts 1) (a : ArgsD load-address.signature κs) → load-address-reads.Pre κs a
load_address_takes_any κs a = tt

pub load_sc3_takes_any : (κs : Lfts 1) (a : ArgsD load-sc3.signature κs) → load-sc3-reads.Pre κs a
load_sc3_takes_any κs a = tt
