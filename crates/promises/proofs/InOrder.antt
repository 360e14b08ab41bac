-- Demand 1, of the order in which a call's numbers are checked: "Checked in number order", and document 02, request d: "8 is retired and 20 to 25
-- stand in its place in the order, lowest first", with "A before B before P". And that 8 is given by nothing any more.
use Prim.Native.Nat.{ℕ}
use mathlib.Core.Path.{◌≡◌, refl}
use mathlib.Core.Bool.{Bool, true, not, ◌&&◌, ◌||◌}
use mathlib.Core.List.{List, [], ◌∷◌}
use native.Mathlib.Omega.{arith}
use lib.Dec.{ltb, leb, eqb}
use Rattle.std.specs.Prelude.{Option, Some, None, Result, Ok, Err}
use Rattle.machine.specs.declared.Panel.{Panel}
use Rattle.machine.specs.declared.Lines.{Lines}
use Rattle.machine.specs.declared.WordSlice.{WordSlice}
use Rattle.machine.specs.declared.ResponseBit.{ResponseBit}
use Rattle.machine.specs.declared.Answer.{Answer}
use Rattle.machine.specs.declared.Refusal.{Refusal}
use Rattle.machine.specs.Machine.{Machine}
use Rattle.machine.specs.Refusals.{Check, turn}
use Rattle.machine.proofs.Refusals.{not_eight}
use Rattle.explainer.specs.declared.Reason.{Reason}
use Rattle.explainer.specs.declared.Reason.TheVariants.{Matched, NotSelected, Against, EqualToTheBottom}
use Rattle.rounds.specs.Round as rounds
use Rattle.handout.specs.declared.Report.{Report}
use Rattle.job_plans.specs.declared.Job.{Job}
use Rattle.job_plans.specs.Fields.{Held, Kind, greatest, smallest, scaledAdd, product, unknown, kind_of, unused_zero}
use Rattle.jobs.specs.declared.Stepped.{Stepped}
use Rattle.jobs.specs.Calls.{is_held}
use Rattle.image_layout.specs.Reading.{Scanned, words_in, scanned}
use Rattle.image.specs.declared.Loaded.{Loaded}
use Rattle.promises.proofs.Demand1.{Entry, entry, malformed, machine_table, used_table, wrong_job, pulse_table, explain_table, show_table, round_table, answer_table, start_table, steps_table, total_table, write_table, read_table}
use Rattle.promises.proofs.Answered.{tells_answer, tells_explained, tells_resolved, tells_report, tells_started, tells_stepped, tells_total, tells_wrote, tells_read}

-- ---- every call's table is in the order of the numbers' turns, and of one number in that of the syllables' values

abbrev pub follows : Entry → Entry → Bool
follows e d = ltb (turn e.number) (turn d.number) || eqb e.number d.number && leb e.also d.also

abbrev pub ordered : List Entry → Bool
ordered [] = true
ordered (e ∷ []) = true
ordered (e ∷ d ∷ es) = follows e d && ordered (d ∷ es)

pub pulse_ordered : (m : Machine) (p : Panel) (l : Lines) → ordered (pulse_table m p l) ≡ true
pulse_ordered m p l = refl

pub explain_ordered : (m : Machine) (p : Panel) (k : WordSlice) → ordered (explain_table m p k) ≡ true
explain_ordered m p k = refl

pub resolution_ordered : (m : Machine) → ordered (machine_table m []) ≡ true
resolution_ordered m = refl

pub show_ordered : (x : ResponseBit) (m : Machine) → ordered (show_table x m) ≡ true
show_ordered x m = refl

pub answer_ordered : (x f : ResponseBit) (k : WordSlice) (m : Machine) → ordered (answer_table x f k m) ≡ true
answer_ordered x f k m = refl

pub round_ordered : (x f : ResponseBit) (m : Machine) → ordered (round_table x f m) ≡ true
round_ordered x f m = refl

-- 1 to 3, a job's used fields, and then what is checked after them, from a 25 on
used_ordered : (k : Kind) (m : Machine) (o : Job) (b : Bool) (rest : List Entry) → ordered (wrong_job b ∷ rest) ≡ true
    → ordered (machine_table m (used_table k m.width o (wrong_job b ∷ rest))) ≡ true
used_ordered greatest m o b rest h = h
used_ordered smallest m o b rest h = h
used_ordered scaledAdd m o b rest h = h
used_ordered product m o b rest h = h
used_ordered unknown m o b rest h = h

pub start_ordered : (m : Machine) (h : Held) (o : Job) → ordered (start_table m h o) ≡ true
start_ordered m h o = used_ordered (kind_of o.kind) m o (is_held h) [] refl

pub step_ordered : (m : Machine) (h : Held) → ordered (steps_table m h) ≡ true
step_ordered m None = refl
step_ordered m (Some o) = used_ordered (kind_of o.kind) m o (not (unused_zero o)) _ refl

pub total_ordered : (m : Machine) (h : Held) → ordered (total_table m h) ≡ true
total_ordered m None = refl
total_ordered m (Some o) = used_ordered (kind_of o.kind) m o (not (unused_zero o)) _ refl

pub write_ordered : (m : Machine) (h : Held) (room : ℕ) → ordered (write_table (record { machine = m; held = h }) room) ≡ true
write_ordered m None room = refl
write_ordered m (Some o) room = used_ordered (kind_of o.kind) m o (not (unused_zero o)) _ refl

pub read_ordered : (bs : List ℕ) (words responses : ℕ) → ordered (read_table bs words responses) ≡ true
read_ordered bs words responses = go (scanned bs)
  where
    go : (c : Scanned) → ordered (malformed c ∷ entry 10 (ltb words (words_in bs) || ltb responses (words_in bs)) ∷ []) ≡ true
    go (Ok tt) = refl
    go (Err at) = refl

-- ---- "8 is retired": whatever a call answers, it does not tell 8

pub answer_not_8 : (a : Result Answer Refusal) → (tells_answer a).0 ≡ 8 → ⊥
answer_not_8 (Ok given) e = omega (arith, e)
answer_not_8 (Err r) e = not_eight r e

pub explained_not_8 : (a : Result Reason Refusal) → (tells_explained a).0 ≡ 8 → ⊥
explained_not_8 (Ok Matched) e = omega (arith, e)
explained_not_8 (Ok (NotSelected x)) e = omega (arith, e)
explained_not_8 (Ok (Against t b)) e = omega (arith, e)
explained_not_8 (Ok (EqualToTheBottom t)) e = omega (arith, e)
explained_not_8 (Err r) e = not_eight r e

pub resolved_not_8 : (a : Result (Option WordSlice) Refusal) → (tells_resolved a).0 ≡ 8 → ⊥
resolved_not_8 (Ok (Some k)) e = omega (arith, e)
resolved_not_8 (Ok None) e = omega (arith, e)
resolved_not_8 (Err r) e = not_eight r e

pub reply_not_8 : (a : Check) → (rounds.told a).0 ≡ 8 → ⊥
reply_not_8 (Ok tt) e = omega (arith, e)
reply_not_8 (Err r) e = not_eight r e

pub report_not_8 : (a : Result Report Refusal) → (tells_report a).0 ≡ 8 → ⊥
report_not_8 (Ok ended) e = omega (arith, e)
report_not_8 (Err r) e = not_eight r e

start_without_8 : (a : Result Job Refusal) → (tells_started a).0 ≡ 8 → ⊥
start_without_8 (Ok o) e = omega (arith, e)
start_without_8 (Err r) e = not_eight r e

pub started_not_8 : (a : Result Job Refusal) → (tells_started a).0 ≡ 8 → ⊥
started_not_8 a e = start_without_8 a e

pub stepped_not_8 : (a : Result Stepped Refusal) → (tells_stepped a).0 ≡ 8 → ⊥
stepped_not_8 (Ok given) e = omega (arith, e)
stepped_not_8 (Err r) e = not_eight r e

pub total_not_8 : (a : Result ℕ Refusal) → (tells_total a).0 ≡ 8 → ⊥
total_not_8 (Ok k) e = omega (arith, e)
total_not_8 (Err r) e = not_eight r e

pub wrote_not_8 : (a : Result ℕ Refusal) → (tells_wrote a).0 ≡ 8 → ⊥
wrote_not_8 (Ok k) e = omega (arith, e)
wrote_not_8 (Err r) e = not_eight r e

pub read_not_8 : (a : Result Loaded Refusal) → (tells_read a).0 ≡ 8 → ⊥
read_not_8 (Ok loaded) e = omega (arith, e)
read_not_8 (Err r) e = not_eight r e

-- of all calls: both pulses answer an `Answer`, the explainer a `Reason`, scan, network and show a word or none, an answer in a round nothing, a whole
-- round a `Report`, start a job, step a `Step`, total how many pulses, writing how many bytes and reading a `Loaded`; and each of them a refusal instead
pub eight_is_retired : ((a : Result Answer Refusal) → (tells_answer a).0 ≡ 8 → ⊥) × ((a : Result Reason Refusal) → (tells_explained a).0 ≡ 8 → ⊥) × ((a : Result (Option WordSlice) Refusal) → (tells_resolved a).0 ≡ 8 → ⊥)
    × ((a : Check) → (rounds.told a).0 ≡ 8 → ⊥) × ((a : Result Report Refusal) → (tells_report a).0 ≡ 8 → ⊥)
    × ((a : Result Job Refusal) → (tells_started a).0 ≡ 8 → ⊥) × ((a : Result Stepped Refusal) → (tells_stepped a).0 ≡ 8 → ⊥) × ((a : Result ℕ Refusal) → (tells_total a).0 ≡ 8 → ⊥)
    × ((a : Result ℕ Refusal) → (tells_wrote a).0 ≡ 8 → ⊥) × ((a : Result Loaded Refusal) → (tells_read a).0 ≡ 8 → ⊥)
eight_is_retired =
    (answer_not_8, explained_not_8, resolved_not_8, reply_not_8, report_not_8, start_without_8, stepped_not_8, total_not_8, wrote_not_8, read_not_8)
