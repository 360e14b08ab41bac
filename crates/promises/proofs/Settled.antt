-- "Each public call's contract determines its answer and everything lent to it afterwards, on refusal as on success; prove that two outcomes
-- meeting it are equal." Each theorem speaks of the contract as the call's own source states it: `Post` of the call, of its arguments a, an
-- answer r and what stands behind the lent references at exit, s. What is lent by & cannot change.
use mathlib.Core.Path.{◌≡◌, sym, ◌∙◌}
use contract.Lifetimes.{Lfts}
use borrow.Fn.World.{ArgsD, ResD}
use borrow.Fn.Kinds.{ended_of}
use denote.Triple.Clauses.{AtExit}
use Rattle.cells.specs.contracts.pulse as plain-pulse
use Rattle.cells.proofs.pulse.Kinds as plain-pulse-kinds
use Rattle.cells.proofs.pulse.Reads as plain-pulse-reads
use Rattle.wide.specs.contracts.pulse as wide-pulse
use Rattle.wide.proofs.pulse.Kinds as wide-pulse-kinds
use Rattle.wide.proofs.pulse.Reads as wide-pulse-reads
use Rattle.explainer.specs.contracts.explain as explain
use Rattle.explainer.proofs.explain.Kinds as explain-kinds
use Rattle.explainer.proofs.explain.Reads as explain-reads
use Rattle.resolver.specs.contracts.scan as scan
use Rattle.resolver.proofs.scan.Kinds as scan-kinds
use Rattle.resolver.proofs.scan.Reads as scan-reads
use Rattle.resolver.specs.contracts.network as network
use Rattle.resolver.proofs.network.Kinds as network-kinds
use Rattle.resolver.proofs.network.Reads as network-reads
use Rattle.rounds.specs.contracts.show as show
use Rattle.rounds.proofs.show.Kinds as show-kinds
use Rattle.rounds.proofs.show.Reads as show-reads
use Rattle.rounds.specs.contracts.answer as answer
use Rattle.rounds.proofs.answer.Kinds as answer-kinds
use Rattle.rounds.proofs.answer.Reads as answer-reads
use Rattle.handout.specs.contracts.round as round
use Rattle.handout.proofs.round.Kinds as round-kinds
use Rattle.handout.proofs.round.Reads as round-reads
use Rattle.jobs.specs.contracts.start as start
use Rattle.jobs.proofs.start.Kinds as start-kinds
use Rattle.jobs.proofs.start.Reads as start-reads
use Rattle.jobs.specs.contracts.step as step
use Rattle.jobs.proofs.step.Kinds as step-kinds
use Rattle.jobs.proofs.step.Reads as step-reads
use Rattle.job_tally.specs.contracts.totals.total as total
use Rattle.job_tally.proofs.totals.total.Kinds as total-kinds
use Rattle.job_tally.proofs.totals.total.Reads as total-reads
use Rattle.image.specs.contracts.writing.write as write
use Rattle.image.proofs.writing.write.Kinds as write-kinds
use Rattle.image.proofs.writing.write.Reads as write-reads
use Rattle.image.specs.contracts.reading.read as read
use Rattle.image.proofs.reading.read.Kinds as read-kinds
use Rattle.image.proofs.reading.read.Reads as read-reads
use Rattle.machine.specs.contracts.Panel.load_comp as own-comp
use Rattle.machine.proofs.Panel.load_comp.Kinds as own-comp-kinds
use Rattle.machine.proofs.Panel.load_comp.Reads as own-comp-reads
use Rattle.machine.specs.contracts.Panel.load_sdr as own-sdr
use Rattle.machine.proofs.Panel.load_sdr.Kinds as own-sdr-kinds
use Rattle.machine.proofs.Panel.load_sdr.Reads as own-sdr-reads
use Rattle.machine.specs.contracts.Panel.load_sc1 as own-sc1
use Rattle.machine.proofs.Panel.load_sc1.Kinds as own-sc1-kinds
use Rattle.machine.proofs.Panel.load_sc1.Reads as own-sc1-reads
use Rattle.machine.specs.contracts.Panel.load_sc2 as own-sc2
use Rattle.machine.proofs.Panel.load_sc2.Kinds as own-sc2-kinds
use Rattle.machine.proofs.Panel.load_sc2.Reads as own-sc2-reads
use Rattle.machine.specs.contracts.Panel.load_mor as own-mor
use Rattle.machine.proofs.Panel.load_mor.Kinds as own-mor-kinds
use Rattle.machine.proofs.Panel.load_mor.Reads as own-mor-reads
use Rattle.machine.specs.contracts.Panel.load_key as own_key
use Rattle.machine.proofs.Panel.load_key.Kinds as own-key-kinds
use Rattle.machine.proofs.Panel.load_key.Reads as own-key-reads
use Rattle.machine.specs.contracts.Panel.load_care as own-care
use Rattle.machine.proofs.Panel.load_care.Kinds as own-care-kinds
use Rattle.machine.proofs.Panel.load_care.Reads as own-care-reads
use Rattle.machine.specs.contracts.Panel.load_target as own-target
use Rattle.machine.proofs.Panel.load_target.Kinds as own-target-kinds
use Rattle.machine.proofs.Panel.load_target.Reads as own-target-reads
use Rattle.machine.specs.contracts.Panel.load_address as own-address
use Rattle.machine.proofs.Panel.load_address.Kinds as own-address-kinds
use Rattle.machine.proofs.Panel.load_address.Reads as own-address-reads
use Rattle.machine.specs.contracts.Panel.load_sc3 as own-sc3
use Rattle.machine.proofs.Panel.load_sc3.Kinds as own-sc3-kinds
use Rattle.machine.proofs.Panel.load_sc3.Reads as own-sc3-reads
use Rattle.machine.proofs.Loads.{same_panel}
use Rattle.panel.specs.contracts.load_comp as load-comp
use Rattle.panel.proofs.load_comp.Kinds as load-comp-kinds
use Rattle.panel.proofs.load_comp.Reads as load-comp-reads
use Rattle.panel.specs.contracts.load_sdr as load-sdr
use Rattle.panel.proofs.load_sdr.Kinds as load-sdr-kinds
use Rattle.panel.proofs.load_sdr.Reads as load-sdr-reads
use Rattle.panel.specs.contracts.load_sc1 as load-sc1
use Rattle.panel.proofs.load_sc1.Kinds as load-sc1-kinds
use Rattle.panel.proofs.load_sc1.Reads as load-sc1-reads
use Rattle.panel.specs.contracts.load_sc2 as load-sc2
use Rattle.panel.proofs.load_sc2.Kinds as load-sc2-kinds
use Rattle.panel.proofs.load_sc2.Reads as load-sc2-reads
use Rattle.panel.specs.contracts.load_mor as load-mor
use Rattle.panel.proofs.load_mor.Kinds as load-mor-kinds
use Rattle.panel.proofs.load_mor.Reads as load-mor-reads
use Rattle.panel.specs.contracts.load_key as load-key
use Rattle.panel.proofs.load_key.Kinds as load-key-kinds
use Rattle.panel.proofs.load_key.Reads as load-key-reads
use Rattle.panel.specs.contracts.load_care as load-care
use Rattle.panel.proofs.load_care.Kinds as load-care-kinds
use Rattle.panel.proofs.load_care.Reads as load-care-reads
use Rattle.panel.specs.contracts.load_target as load-target
use Rattle.panel.proofs.load_target.Kinds as load-target-kinds
use Rattle.panel.proofs.load_target.Reads as load-target-reads
use Rattle.panel.specs.contracts.load_address as load-address
use Rattle.panel.proofs.load_address.Kinds as load-address-kinds
use Rattle.panel.proofs.load_address.Reads as load-address-reads
use Rattle.panel.specs.contracts.load_sc3 as load-sc3
use Rattle.panel.proofs.load_sc3.Kinds as load-sc3-kinds
use Rattle.panel.proofs.load_sc3.Reads as load-sc3-reads
use Rattle.panel.specs.contracts.load as numbered
use Rattle.panel.proofs.load.Kinds as numbered-kinds
use Rattle.panel.proofs.load.Reads as numbered-reads
use Rattle.panel.specs.contracts.takes as takes
use Rattle.panel.proofs.takes.Kinds as takes-kinds
use Rattle.panel.proofs.takes.Reads as takes-reads

pub plain_pulse_settled : (κs : Lfts 2) (a : ArgsD plain-pulse.signature κs) (r r' : ResD plain-pulse.signature κs) (s s' : AtExit (ended_of 2 plain-pulse-kinds.ps plain-pulse-kinds.r) κs)
    → plain-pulse-reads.Post κs a r s → plain-pulse-reads.Post κs a r' s' → (r ≡ r') × (s.0.now ≡ s'.0.now) × (s.1.0.now ≡ s'.1.0.now)
plain_pulse_settled κs a r r' s s' h g = (h.0 ∙ sym g.0, h.1.0 ∙ sym g.1.0, h.1.1 ∙ sym g.1.1)

pub wide_pulse_settled : (κs : Lfts 2) (a : ArgsD wide-pulse.signature κs) (r r' : ResD wide-pulse.signature κs) (s s' : AtExit (ended_of 2 wide-pulse-kinds.ps wide-pulse-kinds.r) κs)
    → wide-pulse-reads.Post κs a r s → wide-pulse-reads.Post κs a r' s' → (r ≡ r') × (s.0.now ≡ s'.0.now) × (s.1.0.now ≡ s'.1.0.now)
wide_pulse_settled κs a r r' s s' h g = (h.0 ∙ sym g.0, h.1.0 ∙ sym g.1.0, h.1.1 ∙ sym g.1.1)

pub explain_settled : (κs : Lfts 2) (a : ArgsD explain.signature κs) (r r' : ResD explain.signature κs) (s s' : AtExit (ended_of 2 explain-kinds.ps explain-kinds.r) κs)
    → explain-reads.Post κs a r s → explain-reads.Post κs a r' s' → r ≡ r'
explain_settled κs a r r' s s' h g = h ∙ sym g

pub scan_settled : (κs : Lfts 2) (a : ArgsD scan.signature κs) (r r' : ResD scan.signature κs) (s s' : AtExit (ended_of 2 scan-kinds.ps scan-kinds.r) κs)
    → scan-reads.Post κs a r s → scan-reads.Post κs a r' s' → r ≡ r'
scan_settled κs a r r' s s' h g = h ∙ sym g

pub network_settled : (κs : Lfts 2) (a : ArgsD network.signature κs) (r r' : ResD network.signature κs) (s s' : AtExit (ended_of 2 network-kinds.ps network-kinds.r) κs)
    → network-reads.Post κs a r s → network-reads.Post κs a r' s' → r ≡ r'
network_settled κs a r r' s s' h g = h ∙ sym g

pub show_settled : (κs : Lfts 2) (a : ArgsD show.signature κs) (r r' : ResD show.signature κs) (s s' : AtExit (ended_of 2 show-kinds.ps show-kinds.r) κs)
    → show-reads.Post κs a r s → show-reads.Post κs a r' s' → r ≡ r'
show_settled κs a r r' s s' h g = h ∙ sym g

pub answer_settled : (κs : Lfts 2) (a : ArgsD answer.signature κs) (r r' : ResD answer.signature κs) (s s' : AtExit (ended_of 2 answer-kinds.ps answer-kinds.r) κs)
    → answer-reads.Post κs a r s → answer-reads.Post κs a r' s' → (r ≡ r') × (s.1.0.now ≡ s'.1.0.now)
answer_settled κs a r r' s s' h g = (h.0 ∙ sym g.0, h.1 ∙ sym g.1)

pub round_settled : (κs : Lfts 3) (a : ArgsD round.signature κs) (r r' : ResD round.signature κs) (s s' : AtExit (ended_of 3 round-kinds.ps round-kinds.r) κs)
    → round-reads.Post κs a r s → round-reads.Post κs a r' s' → (r ≡ r') × (s.1.0.now ≡ s'.1.0.now)
round_settled κs a r r' s s' h g = (h.0 ∙ sym g.0, h.1 ∙ sym g.1)

pub start_settled : (κs : Lfts 2) (a : ArgsD start.signature κs) (r r' : ResD start.signature κs) (s s' : AtExit (ended_of 2 start-kinds.ps start-kinds.r) κs)
    → start-reads.Post κs a r s → start-reads.Post κs a r' s' → r ≡ r'
start_settled κs a r r' s s' h g = h ∙ sym g

pub step_settled : (κs : Lfts 2) (a : ArgsD step.signature κs) (r r' : ResD step.signature κs) (s s' : AtExit (ended_of 2 step-kinds.ps step-kinds.r) κs)
    → step-reads.Post κs a r s → step-reads.Post κs a r' s' → (r ≡ r') × (s.0.now ≡ s'.0.now) × (s.1.0.now ≡ s'.1.0.now)
step_settled κs a r r' s s' h g = (h.0 ∙ sym g.0, h.1.0 ∙ sym g.1.0, h.1.1 ∙ sym g.1.1)

pub total_settled : (κs : Lfts 2) (a : ArgsD total.signature κs) (r r' : ResD total.signature κs) (s s' : AtExit (ended_of 2 total-kinds.ps total-kinds.r) κs)
    → total-reads.Post κs a r s → total-reads.Post κs a r' s' → r ≡ r'
total_settled κs a r r' s s' h g = h ∙ sym g

pub write_settled : (κs : Lfts 3) (a : ArgsD write.signature κs) (r r' : ResD write.signature κs) (s s' : AtExit (ended_of 3 write-kinds.ps write-kinds.r) κs)
    → write-reads.Post κs a r s → write-reads.Post κs a r' s' → (r ≡ r') × (s.1.1.1.1.0.now ≡ s'.1.1.1.1.0.now)
write_settled κs a r r' s s' h g = (h.0 ∙ sym g.0, h.1 ∙ sym g.1)

pub read_settled : (κs : Lfts 3) (a : ArgsD read.signature κs) (r r' : ResD read.signature κs) (s s' : AtExit (ended_of 3 read-kinds.ps read-kinds.r) κs)
    → read-reads.Post κs a r s → read-reads.Post κs a r' s' → (r ≡ r') × (s.1.0.now ≡ s'.1.0.now) × (s.1.1.0.now ≡ s'.1.1.0.now)
read_settled κs a r r' s s' h g = (h.0 ∙ sym g.0, h.1.0 ∙ sym g.1.0, h.1.1 ∙ sym g.1.1)

-- the ten loads by value: each contract says `load` of its register's number
pub own_comp_settled : (κs : Lfts 0) (a : ArgsD own-comp.signature κs) (r r' : ResD own-comp.signature κs) (s s' : AtExit (ended_of 0 own-comp-kinds.ps own-comp-kinds.r) κs)
    → own-comp-reads.Post κs a r s → own-comp-reads.Post κs a r' s' → r ≡ r'
own_comp_settled κs a r r' s s' h g = same_panel r r' (h ∙ sym g)

pub own_sdr_settled : (κs : Lfts 0) (a : ArgsD own-sdr.signature κs) (r r' : ResD own-sdr.signature κs) (s s' : AtExit (ended_of 0 own-sdr-kinds.ps own-sdr-kinds.r) κs)
    → own-sdr-reads.Post κs a r s → own-sdr-reads.Post κs a r' s' → r ≡ r'
own_sdr_settled κs a r r' s s' h g = same_panel r r' (h ∙ sym g)

pub own_sc1_settled : (κs : Lfts 0) (a : ArgsD own-sc1.signature κs) (r r' : ResD own-sc1.signature κs) (s s' : AtExit (ended_of 0 own-sc1-kinds.ps own-sc1-kinds.r) κs)
    → own-sc1-reads.Post κs a r s → own-sc1-reads.Post κs a r' s' → r ≡ r'
own_sc1_settled κs a r r' s s' h g = same_panel r r' (h ∙ sym g)

pub own_sc2_settled : (κs : Lfts 0) (a : ArgsD own-sc2.signature κs) (r r' : ResD own-sc2.signature κs) (s s' : AtExit (ended_of 0 own-sc2-kinds.ps own-sc2-kinds.r) κs)
    → own-sc2-reads.Post κs a r s → own-sc2-reads.Post κs a r' s' → r ≡ r'
own_sc2_settled κs a r r' s s' h g = same_panel r r' (h ∙ sym g)

pub own_mor_settled : (κs : Lfts 0) (a : ArgsD own-mor.signature κs) (r r' : ResD own-mor.signature κs) (s s' : AtExit (ended_of 0 own-mor-kinds.ps own-mor-kinds.r) κs)
    → own-mor-reads.Post κs a r s → own-mor-reads.Post κs a r' s' → r ≡ r'
own_mor_settled κs a r r' s s' h g = same_panel r r' (h ∙ sym g)

pub own_key_settled : (κs : Lfts 0) (a : ArgsD own_key.signature κs) (r r' : ResD own_key.signature κs) (s s' : AtExit (ended_of 0 own-key-kinds.ps own-key-kinds.r) κs)
    → own-key-reads.Post κs a r s → own-key-reads.Post κs a r' s' → r ≡ r'
own_key_settled κs a r r' s s' h g = same_panel r r' (h ∙ sym g)

pub own_care_settled : (κs : Lfts 0) (a : ArgsD own-care.signature κs) (r r' : ResD own-care.signature κs) (s s' : AtExit (ended_of 0 own-care-kinds.ps own-care-kinds.r) κs)
    → own-care-reads.Post κs a r s → own-care-reads.Post κs a r' s' → r ≡ r'
own_care_settled κs a r r' s s' h g = same_panel r r' (h ∙ sym g)

pub own_target_settled : (κs : Lfts 0) (a : ArgsD own-target.signature κs) (r r' : ResD own-target.signature κs) (s s' : AtExit (ended_of 0 own-target-kinds.ps own-target-kinds.r) κs)
    → own-target-reads.Post κs a r s → own-target-reads.Post κs a r' s' → r ≡ r'
own_target_settled κs a r r' s s' h g = same_panel r r' (h ∙ sym g)

pub own_address_settled : (κs : Lfts 0) (a : ArgsD own-address.signature κs) (r r' : ResD own-address.signature κs) (s s' : AtExit (ended_of 0 own-address-kinds.ps own-address-kinds.r) κs)
    → own-address-reads.Post κs a r s → own-address-reads.Post κs a r' s' → r ≡ r'
own_address_settled κs a r r' s s' h g = same_panel r r' (h ∙ sym g)

pub own_sc3_settled : (κs : Lfts 0) (a : ArgsD own-sc3.signature κs) (r r' : ResD own-sc3.signature κs) (s s' : AtExit (ended_of 0 own-sc3-kinds.ps own-sc3-kinds.r) κs)
    → own-sc3-reads.Post κs a r s → own-sc3-reads.Post κs a r' s' → r ≡ r'
own_sc3_settled κs a r r' s s' h g = same_panel r r' (h ∙ sym g)

-- the ten loads of a panel lent
pub load_comp_settled : (κs : Lfts 1) (a : ArgsD load-comp.signature κs) (r r' : ResD load-comp.signature κs) (s s' : AtExit (ended_of 1 load-comp-kinds.ps load-comp-kinds.r) κs)
    → load-comp-reads.Post κs a r s → load-comp-reads.Post κs a r' s' → s.0.now ≡ s'.0.now
load_comp_settled κs a r r' s s' h g = same_panel s.0.now s'.0.now (h ∙ sym g)

pub load_sdr_settled : (κs : Lfts 1) (a : ArgsD load-sdr.signature κs) (r r' : ResD load-sdr.signature κs) (s s' : AtExit (ended_of 1 load-sdr-kinds.ps load-sdr-kinds.r) κs)
    → load-sdr-reads.Post κs a r s → load-sdr-reads.Post κs a r' s' → s.0.now ≡ s'.0.now
load_sdr_settled κs a r r' s s' h g = same_panel s.0.now s'.0.now (h ∙ sym g)

pub load_sc1_settled : (κs : Lfts 1) (a : ArgsD load-sc1.signature κs) (r r' : ResD load-sc1.signature κs) (s s' : AtExit (ended_of 1 load-sc1-kinds.ps load-sc1-kinds.r) κs)
    → load-sc1-reads.Post κs a r s → load-sc1-reads.Post κs a r' s' → s.0.now ≡ s'.0.now
load_sc1_settled κs a r r' s s' h g = same_panel s.0.now s'.0.now (h ∙ sym g)

pub load_sc2_settled : (κs : Lfts 1) (a : ArgsD load-sc2.signature κs) (r r' : ResD load-sc2.signature κs) (s s' : AtExit (ended_of 1 load-sc2-kinds.ps load-sc2-kinds.r) κs)
    → load-sc2-reads.Post κs a r s → load-sc2-reads.Post κs a r' s' → s.0.now ≡ s'.0.now
load_sc2_settled κs a r r' s s' h g = same_panel s.0.now s'.0.now (h ∙ sym g)

pub load_mor_settled : (κs : Lfts 1) (a : ArgsD load-mor.signature κs) (r r' : ResD load-mor.signature κs) (s s' : AtExit (ended_of 1 load-mor-kinds.ps load-mor-kinds.r) κs)
    → load-mor-reads.Post κs a r s → load-mor-reads.Post κs a r' s' → s.0.now ≡ s'.0.now
load_mor_settled κs a r r' s s' h g = same_panel s.0.now s'.0.now (h ∙ sym g)

pub load_key_settled : (κs : Lfts 1) (a : ArgsD load-key.signature κs) (r r' : ResD load-key.signature κs) (s s' : AtExit (ended_of 1 load-key-kinds.ps load-key-kinds.r) κs)
    → load-key-reads.Post κs a r s → load-key-reads.Post κs a r' s' → s.0.now ≡ s'.0.now
load_key_settled κs a r r' s s' h g = same_panel s.0.now s'.0.now (h ∙ sym g)

pub load_care_settled : (κs : Lfts 1) (a : ArgsD load-care.signature κs) (r r' : ResD load-care.signature κs) (s s' : AtExit (ended_of 1 load-care-kinds.ps load-care-kinds.r) κs)
    → load-care-reads.Post κs a r s → load-care-reads.Post κs a r' s' → s.0.now ≡ s'.0.now
load_care_settled κs a r r' s s' h g = same_panel s.0.now s'.0.now (h ∙ sym g)

pub load_target_settled : (κs : Lfts 1) (a : ArgsD load-target.signature κs) (r r' : ResD load-target.signature κs) (s s' : AtExit (ended_of 1 load-target-kinds.ps load-target-kinds.r) κs)
    → load-target-reads.Post κs a r s → load-target-reads.Post κs a r' s' → s.0.now ≡ s'.0.now
load_target_settled κs a r r' s s' h g = same_panel s.0.now s'.0.now (h ∙ sym g)

pub load_address_settled : (κs : Lfts 1) (a : ArgsD load-address.signature κs) (r r' : ResD load-address.signature κs) (s s' : AtExit (ended_of 1 load-address-kinds.ps load-address-kinds.r) κs)
    → load-address-reads.Post κs a r s → load-address-reads.Post κs a r' s' → s.0.now ≡ s'.0.now
load_address_settled κs a r r' s s' h g = same_panel s.0.now s'.0.now (h ∙ sym g)

pub load_sc3_settled : (κs : Lfts 1) (a : ArgsD load-sc3.signature κs) (r r' : ResD load-sc3.signature κs) (s s' : AtExit (ended_of 1 load-sc3-kinds.ps load-sc3-kinds.r) κs)
    → load-sc3-reads.Post κs a r s → load-sc3-reads.Post κs a r' s' → s.0.now ≡ s'.0.now
load_sc3_settled κs a r r' s s' h g = same_panel s.0.now s'.0.now (h ∙ sym g)

pub load_settled : (κs : Lfts 0) (a : ArgsD numbered.signature κs) (r r' : ResD numbered.signature κs) (s s' : AtExit (ended_of 0 numbered-kinds.ps numbered-kinds.r) κs)
    → numbered-reads.Post κs a r s → numbered-reads.Post κs a r' s' → r ≡ r'
load_settled κs a r r' s s' h g = same_panel r r' (h ∙ sym g)

pub takes_settled : (κs : Lfts 0) (a : ArgsD takes.signature κs) (r r' : ResD takes.signature κs) (s s' : AtExit (ended_of 0 takes-kinds.ps takes-kinds.r) κs)
    → takes-reads.Post κs a r s → takes-reads.Post κs a r' s' → r ≡ r'
takes_settled κs a r r' s s' h g = h ∙ sym g
