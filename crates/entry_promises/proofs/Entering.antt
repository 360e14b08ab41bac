-- What each entry point returns, tells and leaves: it is what `Entered` says, from the entry's own contract and the promises of the call itself.
use Prim.Native.Nat.{ℕ}
use mathlib.Core.Path.{◌≡◌, refl, sym, ap, ◌∙◌}
use mathlib.Core.Bool.{true, not}
use mathlib.Core.List.{List, []}
use lib.Dec.{eqb}
use lib.ListN.{length}
use lib.Seq.{sets}
use contract.Lifetimes.{Lfts}
use borrow.Fn.World.{ArgsD, ResD}
use borrow.Fn.Kinds.{ended_of}
use denote.Triple.Clauses.{AtExit}
use Rattle.std.specs.Prelude.{Option, Some, None, Result, Ok, Err}
use Rattle.machine.specs.declared.Answer.{Answer}
use Rattle.machine.specs.declared.Refusal.{Refusal}
use Rattle.machine.specs.declared.Refusal.TheVariants.{PanelTooWide}
use Rattle.machine.specs.declared.ResponseBit.{ResponseBit}
use Rattle.machine.specs.Machine.{Machine, machine}
use Rattle.machine.specs.Panel.{panel_of}
use Rattle.machine.specs.Panel as panel
use Rattle.machine.specs.declared.WordSlice.{WordSlice}
use Rattle.machine.specs.Pulse.{count_of, pulsed}
use Rattle.machine.specs.Pulse as pulse
use Rattle.machine.specs.Refusals.{Check, ◌else◌, refuse, machine_check, pulse_check, answer_by, change_by, answer_of, after, tells, Told, told}
use Rattle.machine.specs.Resolution.{resolved}
use Rattle.machine.proofs.Refusals.{some_number}
use Rattle.panel.specs.Numbered.{takes}
use Rattle.resolver.specs.Answers.{resolution}
use Rattle.resolver.specs.Answers as resolving
use Rattle.rounds.specs.Round.{shown, show_check, show_of, round_check, answer_check, reply_of, answered_at, after_answer}
use Rattle.rounds.specs.Round as rounding
use Rattle.handout.specs.Whole.{ended, report_of, after_ended, after_round, verdict_by}
use Rattle.handout.specs.Whole as whole
use Rattle.job_plans.specs.declared.Job.{Job}
use Rattle.job_plans.specs.Fields.{Held}
use Rattle.job_plans.specs.Places.{first as firstPlace, none_held}
use Rattle.job_tally.specs.Totals.{held_pulses, total_check, total_of}
use Rattle.job_tally.specs.Totals as totals
use Rattle.jobs.specs.declared.Stepped.{Stepped}
use Rattle.jobs.specs.Calls.{start_check, start_of, step_check, gave, given_by, step_of, machine_after, after_step, ToldStarted, told_started, ToldStepped, told_stepped}
use Rattle.jobs.specs.Runs.{state}
use Rattle.image_layout.specs.Format.{image_of}
use Rattle.image_layout.specs.Reading.{state_in}
use Rattle.image.specs.declared.Loaded.{Loaded}
use Rattle.image.specs.Calls.{write_check, write_of, written, read_check, read_of, words_read, responses_read, ToldWrote, told_wrote, ToldRead, told_read}
use Rattle.explainer.specs.declared.Reason.{Reason}
use Rattle.explainer.specs.Reasons as reasons
use Rattle.explainer.specs.Reasons.{explain_check, reason_at, explained}
use Rattle.explainer.proofs.Answers.{reason_answers}
use Rattle.promises.proofs.Calls.{machine_in}
use Rattle.promises.proofs.Explaining.{TrueAt, accepted_true}
use Rattle.promises.proofs.Demand1.{Entry, first, given, machine_table, pulse_table, explain_table, show_table, answer_table, round_table, start_table, steps_table, total_table, write_table, read_table}
use Rattle.promises.proofs.Given.{pulse_given, explain_given, resolution_given, show_given, answer_given, round_given, start_given, step_given, total_given, write_given, read_given}
use Rattle.entry_forms.specs.Numbers.{lower, panel_check, lines_of, room_check, tell_in, resolved_size, resolved_numbers}
use Rattle.entry_forms.specs.Records.{job_in, held_in}
use Rattle.entry_pulses.specs.Entries as pulses
use Rattle.entry_rounds.specs.Entries as rounds
use Rattle.entry_jobs.specs.Entries as jobs
use Rattle.entry_images.specs.Entries as images
use Rattle.entry_promises.proofs.Lowest.{lowest, load_own_table, pulse_own_table, explain_own_table, room_table, record_table, held_own_table, start_own_table, load_own, pulse_own, explain_own, room_own, record_own, held_own, start_own, lower_given, both_pass}
use Rattle.entry_pulses.specs.contracts.dushvaneth_load as load
use Rattle.entry_pulses.proofs.dushvaneth_load.Kinds as load-kinds
use Rattle.entry_pulses.proofs.dushvaneth_load.Reads as load-reads
use Rattle.entry_pulses.specs.contracts.dushvaneth_wide_pulse as wide-pulse
use Rattle.entry_pulses.proofs.dushvaneth_wide_pulse.Kinds as wide-pulse-kinds
use Rattle.entry_pulses.proofs.dushvaneth_wide_pulse.Reads as wide-pulse-reads
use Rattle.entry_pulses.specs.contracts.dushvaneth_cells_pulse as plain-pulse
use Rattle.entry_pulses.proofs.dushvaneth_cells_pulse.Kinds as plain-pulse-kinds
use Rattle.entry_pulses.proofs.dushvaneth_cells_pulse.Reads as plain-pulse-reads
use Rattle.entry_pulses.specs.contracts.dushvaneth_explain as explain
use Rattle.entry_pulses.proofs.dushvaneth_explain.Kinds as explain-kinds
use Rattle.entry_pulses.proofs.dushvaneth_explain.Reads as explain-reads
use Rattle.entry_pulses.specs.contracts.dushvaneth_scan as scan
use Rattle.entry_pulses.proofs.dushvaneth_scan.Kinds as scan-kinds
use Rattle.entry_pulses.proofs.dushvaneth_scan.Reads as scan-reads
use Rattle.entry_pulses.specs.contracts.dushvaneth_network as network
use Rattle.entry_pulses.proofs.dushvaneth_network.Kinds as network-kinds
use Rattle.entry_pulses.proofs.dushvaneth_network.Reads as network-reads
use Rattle.entry_rounds.specs.contracts.dushvaneth_show as show
use Rattle.entry_rounds.proofs.dushvaneth_show.Kinds as show-kinds
use Rattle.entry_rounds.proofs.dushvaneth_show.Reads as show-reads
use Rattle.entry_rounds.specs.contracts.dushvaneth_answer as answer
use Rattle.entry_rounds.proofs.dushvaneth_answer.Kinds as answer-kinds
use Rattle.entry_rounds.proofs.dushvaneth_answer.Reads as answer-reads
use Rattle.entry_rounds.specs.contracts.dushvaneth_round as round
use Rattle.entry_rounds.proofs.dushvaneth_round.Kinds as round-kinds
use Rattle.entry_rounds.proofs.dushvaneth_round.Reads as round-reads
use Rattle.entry_jobs.specs.contracts.dushvaneth_start as start
use Rattle.entry_jobs.proofs.dushvaneth_start.Kinds as start-kinds
use Rattle.entry_jobs.proofs.dushvaneth_start.Reads as start-reads
use Rattle.entry_jobs.specs.contracts.dushvaneth_step as step
use Rattle.entry_jobs.proofs.dushvaneth_step.Kinds as step-kinds
use Rattle.entry_jobs.proofs.dushvaneth_step.Reads as step-reads
use Rattle.entry_jobs.specs.contracts.dushvaneth_total as total
use Rattle.entry_jobs.proofs.dushvaneth_total.Kinds as total-kinds
use Rattle.entry_jobs.proofs.dushvaneth_total.Reads as total-reads
use Rattle.entry_images.specs.contracts.dushvaneth_write as write
use Rattle.entry_images.proofs.dushvaneth_write.Kinds as write-kinds
use Rattle.entry_images.proofs.dushvaneth_write.Reads as write-reads
use Rattle.entry_images.specs.contracts.dushvaneth_read as read
use Rattle.entry_images.proofs.dushvaneth_read.Kinds as read-kinds
use Rattle.entry_images.proofs.dushvaneth_read.Reads as read-reads
use Rattle.entry_promises.proofs.Entered.{Enters, Keeps}

-- ---- one law for all

-- of a call, `answer` by its check
module _ {A : Type 0} (answer : Check → A) (own call : Check) where
  -- what the entry answers, and what the call does
  abbrev entry_says : A
  entry_says = answer (lower own call)

  abbrev call_says : A
  call_says = answer call

  -- an answer's number and what it also answers are those of its check
  tell_given : (tell : A → ℕ × ℕ) → ((r : Refusal) → tell (answer (Err r)) ≡ tells r) → (call ≡ Ok tt → tell (answer (Ok tt)) ≡ (0, 0))
      → tell entry_says ≡ given (lower own call)
  tell_given tell e z = go (lower own call) refl
    where
      go : (c : Check) → lower own call ≡ c → tell (answer c) ≡ given c
      go (Ok tt) h = z (both_pass own call (ap (λ (d : Check). (given d).0) h)).1
      go (Err r) h = e r

  same_answer : own ≡ Ok tt → entry_says ≡ call_says
  same_answer e = ap (λ (d : Check). answer (lower d call)) e

  enters_by : {T : Type 0} (tell : T → ℕ × ℕ) (told : A → T) → ((r : Refusal) → tell (told (answer (Err r))) ≡ tells r)
      → (call ≡ Ok tt → tell (told (answer (Ok tt))) ≡ (0, 0)) → (es fs : List Entry) → given own ≡ first es → given call ≡ first fs
      → (n : ℕ) → n ≡ (tell (told entry_says)).0 → Enters tell es fs call n (told entry_says) (told call_says)
  enters_by tell told e z es fs f g n k =
      let told_is = tell_given (λ (a : A). tell (told a)) e z in
      record {
        returned = k;
        lowest_told = told_is ∙ lower_given own call ∙ ap (λ (x : ℕ × ℕ). lowest x (given call)) f ∙ ap (lowest (first es)) g;
        accepted =
            λ y. let b = both_pass own call (sym (k ∙ ap (λ (x : ℕ × ℕ). x.0) told_is) ∙ y) in (b.1, ap told (same_answer b.0));
      }

  -- what is left is a matter of the answer: `left` of a refusal is what was there before
  keeps_by : {B : Type 0} (tell : A → ℕ × ℕ) → ((r : Refusal) → tell (answer (Err r)) ≡ tells r) → (call ≡ Ok tt → tell (answer (Ok tt)) ≡ (0, 0))
      → (left : A → B) (before : B) → ((r : Refusal) → left (answer (Err r)) ≡ before)
      → (n : ℕ) → n ≡ (tell entry_says).0 → (now : B) → now ≡ left entry_says → Keeps n before (left call_says) now
  keeps_by tell e z left before k n h now g =
      let number_is : n ≡ (given (lower own call)).0 = h ∙ ap (λ (x : ℕ × ℕ). x.0) (tell_given tell e z) in
      record {
        accepted = λ y. g ∙ ap left (same_answer (both_pass own call (sym number_is ∙ y)).0);
        refused = λ y. g ∙ go (lower own call) (λ w. y (number_is ∙ w));
      }
    where
      go : (c : Check) → ((given c).0 ≡ 0 → ⊥) → left (answer c) ≡ before
      go (Ok tt) y = absurd (y refl)
      go (Err r) y = k r

-- the same law of what changes by a check: `part` of it
kept_by : {A B : Type 0} (own call : Check) (part : A → B) (new old : A) (n : ℕ) → n ≡ (given (lower own call)).0
    → (now : B) → now ≡ part (change_by (lower own call) new old) → Keeps n (part old) (part (change_by call new old)) now
kept_by own call part new old n h now g =
    record {
      accepted = λ y. g ∙ ap (λ (d : Check). part (change_by (lower d call) new old)) (both_pass own call (sym h ∙ y)).0;
      refused = λ y. g ∙ go (lower own call) (λ w. y (h ∙ w));
    }
  where
    go : (c : Check) → ((given c).0 ≡ 0 → ⊥) → part (change_by c new old) ≡ part old
    go (Ok tt) y = absurd (y refl)
    go (Err r) y = refl

-- ---- the panel's load

pub load_enters : (κs : Lfts 1) (a : ArgsD load.signature κs) (r : ResD load.signature κs) (s : AtExit (ended_of 1 load-kinds.ps load-kinds.r) κs)
    → load-reads.Post κs a r s
    → let registers = a.0.now in
    let k = a.1.0 in
    let v = a.1.1.0 in
    (r ≡ (first (load_own_table registers k v)).0) × Keeps r registers (panel.load k v (panel_of registers)) s.0.now
unfolding pulses.load_check pulses.load_number pulses.loaded
load_enters κs a r s h =
    let registers = a.0.now in
    let k = a.1.0 in
    let v = a.1.1.0 in
    let own = lower (panel_check registers) (refuse PanelTooWide (not (takes k v))) in
    let number_is : r ≡ (given (lower own (Ok tt))).0 = h.0 ∙ by_number own in (
      h.0 ∙ by_number own ∙ ap (λ (x : ℕ × ℕ). x.0) (same own ∙ load_own registers k v),
      kept_by own (Ok tt) (λ (xs : List ℕ). xs) (panel.load k v (panel_of registers)) registers r number_is s.0.now (h.1 ∙ sym (ap (λ (c : Check). change_by c (panel.load k v (panel_of registers)) registers) (passed_lower own))),
    )
  where
    passed_lower : (c : Check) → lower c (Ok tt) ≡ c
    passed_lower (Ok tt) = refl
    passed_lower (Err w) = refl

    by_number : (c : Check) → pulses.number_in c ≡ (given (lower c (Ok tt))).0
    by_number (Ok tt) = refl
    by_number (Err w) = refl

    same : (c : Check) → given (lower c (Ok tt)) ≡ given c
    same c = ap given (passed_lower c)

-- ---- both pulses

abbrev tells_pulse : Told → ℕ × ℕ
tells_pulse t = (t.refusal, t.also)

-- an outcome: the number returned, the answer's buffer, words and responses afterwards
abbrev pub Pulse : Machine → List ℕ → ℕ → List ℕ → ℕ → List ℕ → List ℕ → List ℕ → Type 0
Pulse m registers lines answer number answer' words responses =
    let room = length answer in
    let p = panel_of registers in
    let l = lines_of lines in
    let t = pulses.pulse_told m registers lines room in
    Enters tells_pulse (pulse_own_table registers lines pulses.pulse_size room) (pulse_table m p l) (pulse_check m p l) number t (told (answer_of m p l))
    × ((answer' ≡ tell_in (pulses.pulse_numbers t) answer)
    × (Keeps number m.words (after m p l).words words × Keeps number m.responses (after m p l).responses responses))

a_pulse : (m : Machine) (registers : List ℕ) (lines : ℕ) (answer : List ℕ) (number : ℕ) (answer' words responses : List ℕ)
    → number ≡ (pulses.pulse_told m registers lines (length answer)).refusal
    → answer' ≡ tell_in (pulses.pulse_numbers (pulses.pulse_told m registers lines (length answer))) answer
    → words ≡ (pulses.pulse_left m registers lines (length answer)).words → responses ≡ (pulses.pulse_left m registers lines (length answer)).responses
    → Pulse m registers lines answer number answer' words responses
unfolding pulses.pulse_told pulses.pulse_left pulses.pulse_entry answer_of after
a_pulse m registers lines answer number answer' words responses e f g h =
    let room = length answer in
    let p = panel_of registers in
    let l = lines_of lines in
    let own = pulses.pulse_own registers lines room in
    let call = pulse_check m p l in
    let says : Check → Result Answer Refusal = λ c. answer_by c (record { count = count_of m p l; read = pulse.read_of m p l }) in
    let number_is : number ≡ (given (lower own call)).0
    = e ∙ ap (λ (x : ℕ × ℕ). x.0) (tell_given says own call (λ a. tells_pulse (told a)) (λ r. refl) (λ z. refl)) in (
      enters_by says own call tells_pulse told (λ r. refl) (λ z. refl) (pulse_own_table registers lines pulses.pulse_size room) (pulse_table m p l)
          (pulse_own registers lines pulses.pulse_size room) (pulse_given m p l) number e,
      (
        f,
        (
          kept_by own call (λ (n : Machine). n.words) (pulsed m p l) m number number_is words g,
          kept_by own call (λ (n : Machine). n.responses) (pulsed m p l) m number number_is responses h,
        ),
      ),
    )

pub wide_pulse_enters : (κs : Lfts 4) (a : ArgsD wide-pulse.signature κs) (r : ResD wide-pulse.signature κs) (s : AtExit (ended_of 4 wide-pulse-kinds.ps wide-pulse-kinds.r) κs)
    → wide-pulse-reads.Post κs a r s
    → Pulse (machine a.1.1.0 a.0.now a.1.0.now) a.1.1.1.0.now a.1.1.1.1.0 a.1.1.1.1.1.0.now r
    s.1.1.1.1.1.0.now s.0.now s.1.0.now
wide_pulse_enters κs a r s h =
    a_pulse (machine a.1.1.0 a.0.now a.1.0.now) a.1.1.1.0.now a.1.1.1.1.0 a.1.1.1.1.1.0.now r
    s.1.1.1.1.1.0.now s.0.now s.1.0.now h.0 h.1.0 h.1.1.0 h.1.1.1

pub plain_pulse_enters : (κs : Lfts 4) (a : ArgsD plain-pulse.signature κs) (r : ResD plain-pulse.signature κs) (s : AtExit (ended_of 4 plain-pulse-kinds.ps plain-pulse-kinds.r) κs)
    → plain-pulse-reads.Post κs a r s
    → Pulse (machine a.1.1.0 a.0.now a.1.0.now) a.1.1.1.0.now a.1.1.1.1.0 a.1.1.1.1.1.0.now r
    s.1.1.1.1.1.0.now s.0.now s.1.0.now
plain_pulse_enters κs a r s h =
    a_pulse (machine a.1.1.0 a.0.now a.1.0.now) a.1.1.1.0.now a.1.1.1.1.0 a.1.1.1.1.1.0.now r
    s.1.1.1.1.1.0.now s.0.now s.1.0.now h.0 h.1.0 h.1.1.0 h.1.1.1

-- ---- the explainer

abbrev tells_explained : reasons.Told → ℕ × ℕ
tells_explained t = (t.refusal, t.also)

pub explain_enters : (κs : Lfts 4) (a : ArgsD explain.signature κs) (r : ResD explain.signature κs) (s : AtExit (ended_of 4 explain-kinds.ps explain-kinds.r) κs)
    → explain-reads.Post κs a r s
    → let m = machine a.1.1.0 a.0.now a.1.0.now in
    let registers = a.1.1.1.0.now in
    let word : WordSlice = record { 0 = a.1.1.1.1.0 } in
    let answer = a.1.1.1.1.1.0.now in
    let t = pulses.explained_told m registers a.1.1.1.1.0 (length answer) in
    Enters tells_explained (explain_own_table registers pulses.explained_size (length answer)) (explain_table m (panel_of registers) word)
    (explain_check m (panel_of registers) word) r t (reasons.told (explained m (panel_of registers) word))
    × (s.1.1.1.1.1.0.now ≡ tell_in (pulses.explained_numbers t) answer)
unfolding pulses.explained_told pulses.explain_entry explained
explain_enters κs a r s h =
    let m = machine a.1.1.0 a.0.now a.1.0.now in
    let registers = a.1.1.1.0.now in
    let p = panel_of registers in
    let word : WordSlice = record { 0 = a.1.1.1.1.0 } in
    let room = length a.1.1.1.1.1.0.now in (
      enters_by (λ (c : Check). answer_by c (reason_at m p word)) (pulses.explain_own registers room) (explain_check m p word) tells_explained reasons.told (λ w. refl)
          (λ z. reason_answers _ p _ _) (explain_own_table registers pulses.explained_size room) (explain_table m p word)
          (explain_own registers pulses.explained_size room) (explain_given m p word) r h.0,
      h.1,
    )

-- 02 e: "Each reason given is proved true": what a caller in C is told where 0 is returned is an answer that is true
pub explain_entry_true : (κs : Lfts 4) (a : ArgsD explain.signature κs) (r : ResD explain.signature κs) (s : AtExit (ended_of 4 explain-kinds.ps explain-kinds.r) κs)
    → explain-reads.Post κs a r s → r ≡ 0
    → let m = machine a.1.1.0 a.0.now a.1.0.now in
    let answer = a.1.1.1.1.1.0.now in
    (e : Result Reason Refusal) × (s.1.1.1.1.1.0.now ≡ tell_in (pulses.explained_numbers (reasons.told e)) answer) × TrueAt m (panel_of a.1.1.1.0.now) (record { 0 = a.1.1.1.1.0 }) e
explain_entry_true κs a r s h z =
    let m = machine a.1.1.0 a.0.now a.1.0.now in
    let p = panel_of a.1.1.1.0.now in
    let word : WordSlice = record { 0 = a.1.1.1.1.0 } in
    let answer = a.1.1.1.1.1.0.now in
    let c = explain_enters κs a r s h in
    (explained m p word, c.1 ∙ ap (λ (t : reasons.Told). tell_in (pulses.explained_numbers t) answer) (c.0.accepted z).1, accepted_true m p word (c.0.accepted z).0)

-- ---- resolution and show

abbrev tells_resolved : resolving.Told → ℕ × ℕ
tells_resolved t = (t.refusal, t.also)

abbrev pub Resolution : ℕ → ℕ → Machine → List ℕ → ℕ → List ℕ → Type 0
Resolution key care m answer number answer' =
    let room = length answer in
    let t = pulses.resolved_told key care m room in
    Enters tells_resolved (room_table resolved_size room) (machine_table m []) (machine_check m) number t (resolving.told (resolution key care m))
    × (answer' ≡ tell_in (resolved_numbers t) answer)

no_number : (w : Option WordSlice) → tells_resolved (resolving.told (Ok w)) ≡ (0, 0)
no_number (Some k) = refl
no_number None = refl

a_resolution : (key care : ℕ) (m : Machine) (answer : List ℕ) (number : ℕ) (answer' : List ℕ)
    → number ≡ (pulses.resolved_told key care m (length answer)).refusal
    → answer' ≡ tell_in (resolved_numbers (pulses.resolved_told key care m (length answer))) answer → Resolution key care m answer number answer'
unfolding pulses.resolved_told resolution
a_resolution key care m answer number answer' e f =
    let room = length answer in
    let w = resolved key care m in (
      enters_by (λ (c : Check). answer_by c w) (room_check resolved_size room) (machine_check m) tells_resolved resolving.told (λ r. refl) (λ z. no_number w)
          (room_table resolved_size room) (machine_table m []) (room_own resolved_size room) (resolution_given m) number e,
      f,
    )

pub scan_enters : (κs : Lfts 3) (a : ArgsD scan.signature κs) (r : ResD scan.signature κs) (s : AtExit (ended_of 3 scan-kinds.ps scan-kinds.r) κs)
    → scan-reads.Post κs a r s
    → Resolution a.1.1.1.0 a.1.1.1.1.0 (machine a.1.1.0 a.0.now a.1.0.now) a.1.1.1.1.1.0.now r
    s.1.1.1.1.1.0.now
scan_enters κs a r s h =
    a_resolution a.1.1.1.0 a.1.1.1.1.0 (machine a.1.1.0 a.0.now a.1.0.now) a.1.1.1.1.1.0.now r
    s.1.1.1.1.1.0.now h.0 h.1

pub network_enters : (κs : Lfts 3) (a : ArgsD network.signature κs) (r : ResD network.signature κs) (s : AtExit (ended_of 3 network-kinds.ps network-kinds.r) κs)
    → network-reads.Post κs a r s
    → Resolution a.1.1.1.0 a.1.1.1.1.0 (machine a.1.1.0 a.0.now a.1.0.now) a.1.1.1.1.1.0.now r
    s.1.1.1.1.1.0.now
network_enters κs a r s h =
    a_resolution a.1.1.1.0 a.1.1.1.1.0 (machine a.1.1.0 a.0.now a.1.0.now) a.1.1.1.1.1.0.now r
    s.1.1.1.1.1.0.now h.0 h.1

pub show_enters : (κs : Lfts 3) (a : ArgsD show.signature κs) (r : ResD show.signature κs) (s : AtExit (ended_of 3 show-kinds.ps show-kinds.r) κs)
    → show-reads.Post κs a r s
    → let m = machine a.1.1.0 a.0.now a.1.0.now in
    let x = rounds.bit_of a.1.1.1.0 in
    let answer = a.1.1.1.1.0.now in
    let t = rounds.show_told a.1.1.1.0 m (length answer) in
    Enters tells_resolved (room_table resolved_size (length answer)) (show_table x m) (show_check x m) r t (resolving.told (show_of x m))
    × (s.1.1.1.1.0.now ≡ tell_in (resolved_numbers t) answer)
unfolding rounds.show_told show_of
show_enters κs a r s h =
    let m = machine a.1.1.0 a.0.now a.1.0.now in
    let x = rounds.bit_of a.1.1.1.0 in
    let room = length a.1.1.1.1.0.now in (
      enters_by (λ (c : Check). answer_by c (shown x m)) (room_check resolved_size room) (show_check x m) tells_resolved resolving.told (λ w. refl)
          (λ z. no_number (shown x m)) (room_table resolved_size room) (show_table x m) (room_own resolved_size room) (show_given x m) r h.0,
      h.1,
    )

-- ---- answer and a whole round

pub answer_enters : (κs : Lfts 3) (a : ArgsD answer.signature κs) (r : ResD answer.signature κs) (s : AtExit (ended_of 3 answer-kinds.ps answer-kinds.r) κs)
    → answer-reads.Post κs a r s
    → let m = machine a.1.1.0 a.0.now a.1.0.now in
    let x = rounds.bit_of a.1.1.1.0 in
    let f = rounds.bit_of a.1.1.1.1.0 in
    let k = rounds.word_of a.1.1.1.1.1.0 in
    let verdict = verdict_by (eqb a.1.1.1.1.1.1.0 1) in
    let buffer = a.1.1.1.1.1.1.1.0.now in
    let t = rounds.answer_told a.1.1.1.0 a.1.1.1.1.0 a.1.1.1.1.1.0 m (length buffer) in
    Enters (λ u. u) (room_table rounds.reply_size (length buffer)) (answer_table x f k m) (answer_check x f k m) r t (rounding.told (reply_of x f k m))
    × ((s.1.1.1.1.1.1.1.0.now ≡ tell_in (rounds.reply_numbers t) buffer)
    × Keeps r a.1.0.now (after_answer x f k verdict m).responses s.1.0.now)
unfolding rounds.answer_told rounds.answer_left rounds.answer_entry reply_of after_answer
answer_enters κs a r s h =
    let m = machine a.1.1.0 a.0.now a.1.0.now in
    let x = rounds.bit_of a.1.1.1.0 in
    let f = rounds.bit_of a.1.1.1.1.0 in
    let k = rounds.word_of a.1.1.1.1.1.0 in
    let verdict = verdict_by (eqb a.1.1.1.1.1.1.0 1) in
    let room = length a.1.1.1.1.1.1.1.0.now in
    let own = room_check rounds.reply_size room in
    let call = answer_check x f k m in
    let number_is : r ≡ (given (lower own call)).0
    = h.0 ∙ ap (λ (u : ℕ × ℕ). u.0) (tell_given (λ (c : Check). c) own call rounding.told (λ w. refl) (λ z. refl)) in (
      enters_by (λ (c : Check). c) own call (λ u. u) rounding.told (λ w. refl) (λ z. refl) (room_table rounds.reply_size room) (answer_table x f k m)
          (room_own rounds.reply_size room) (answer_given x f k m) r h.0,
      (h.1.0, kept_by own call (λ (n : Machine). n.responses) (answered_at x f k verdict m) m r number_is s.1.0.now h.1.1),
    )

abbrev tells_report : whole.Told → ℕ × ℕ
tells_report t = (t.refusal, t.also)

ended_no_number : (x : ResponseBit) (verdicts : List ℕ) (m : Machine) → tells_report (whole.told (Ok (ended x verdicts m))) ≡ (0, 0)
unfolding ended
ended_no_number x verdicts m = refl

pub round_enters : (κs : Lfts 4) (a : ArgsD round.signature κs) (r : ResD round.signature κs) (s : AtExit (ended_of 4 round-kinds.ps round-kinds.r) κs)
    → round-reads.Post κs a r s
    → let m = machine a.1.1.0 a.0.now a.1.0.now in
    let x = rounds.bit_of a.1.1.1.0 in
    let f = rounds.bit_of a.1.1.1.1.0 in
    let verdicts = a.1.1.1.1.1.0.now in
    let buffer = a.1.1.1.1.1.1.0.now in
    let t = rounds.round_told a.1.1.1.0 a.1.1.1.1.0 verdicts m (length buffer) in
    Enters tells_report (room_table rounds.report_size (length buffer)) (round_table x f m) (round_check x f m) r t (whole.told (report_of x f verdicts m))
    × ((s.1.1.1.1.1.1.0.now ≡ tell_in (rounds.report_numbers t) buffer)
    × Keeps r a.1.0.now (after_round x f verdicts m).responses s.1.0.now)
unfolding rounds.round_told rounds.round_left rounds.round_entry report_of after_round
round_enters κs a r s h =
    let m = machine a.1.1.0 a.0.now a.1.0.now in
    let x = rounds.bit_of a.1.1.1.0 in
    let f = rounds.bit_of a.1.1.1.1.0 in
    let verdicts = a.1.1.1.1.1.0.now in
    let room = length a.1.1.1.1.1.1.0.now in
    let own = room_check rounds.report_size room in
    let call = round_check x f m in
    let number_is : r ≡ (given (lower own call)).0
    = h.0 ∙ ap (λ (u : ℕ × ℕ). u.0) (tell_given (λ (c : Check). answer_by c (ended x verdicts m)) own call (λ w. tells_report (whole.told w)) (λ w. refl) (λ z. ended_no_number x verdicts m)) in (
      enters_by (λ (c : Check). answer_by c (ended x verdicts m)) own call tells_report whole.told (λ w. refl) (λ z. ended_no_number x verdicts m) (room_table rounds.report_size room) (round_table x f m)
          (room_own rounds.report_size room) (round_given x f m) r h.0,
      (h.1.0, kept_by own call (λ (n : Machine). n.responses) (after_ended x f verdicts m) m r number_is s.1.0.now h.1.1),
    )

-- ---- jobs

abbrev tells_started : ToldStarted → ℕ × ℕ
tells_started t = (t.refusal, t.also)

-- the record offered becomes that of the job held
pub start_enters : (κs : Lfts 5) (a : ArgsD start.signature κs) (r : ResD start.signature κs) (s : AtExit (ended_of 5 start-kinds.ps start-kinds.r) κs)
    → start-reads.Post κs a r s
    → let m = machine a.1.1.0 a.0.now a.1.0.now in
    let record-held = a.1.1.1.0.now in
    let job = a.1.1.1.1.0.now in
    let buffer = a.1.1.1.1.1.0.now in
    let held = held_in record-held in
    let offered = job_in job in
    let t = jobs.start_told m record-held job (length buffer) in
    Enters tells_started (start_own_table record-held job jobs.start_size (length buffer)) (start_table m held offered) (start_check m held offered) r t
    (told_started (start_of m held offered))
    × ((s.1.1.1.1.1.0.now ≡ tell_in (jobs.start_numbers t) buffer)
    × Keeps r job (jobs.started_in (start_of m held offered) job) s.1.1.1.1.0.now)
unfolding jobs.start_told jobs.start_left jobs.start_entry start_of
start_enters κs a r s h =
    let m = machine a.1.1.0 a.0.now a.1.0.now in
    let record-held = a.1.1.1.0.now in
    let job = a.1.1.1.1.0.now in
    let room = length a.1.1.1.1.1.0.now in
    let held = held_in record-held in
    let offered = job_in job in
    let own = jobs.start_own record-held job room in
    let call = start_check m held offered in
    let says : Check → Result Job Refusal = λ c. answer_by c (firstPlace offered) in (
      enters_by says own call tells_started told_started (λ w. refl) (λ z. refl) (start_own_table record-held job jobs.start_size room)
          (start_table m held offered) (start_own record-held job jobs.start_size room) (start_given m held offered) r h.0,
      (
        h.1.0,
        keeps_by says own call (λ w. tells_started (told_started w)) (λ w. refl) (λ z. refl) (λ w. jobs.started_in w job) job (λ w. refl) r h.0
            s.1.1.1.1.0.now h.1.1,
      ),
    )

abbrev tells_stepped : ToldStepped → ℕ × ℕ
tells_stepped t = (t.refusal, t.also)

-- a step while none is held is not passed
gave_no_number : (m : Machine) (held : Held) → step_check m held ≡ Ok tt → tells_stepped (told_stepped (gave m held)) ≡ (0, 0)
unfolding step_check
gave_no_number m (Some o) z = refl
gave_no_number m None z = absurd (go (machine_check m) z)
  where
    go : (c : Check) → (c else refuse none_held true) ≡ Ok tt → ⊥
    go (Ok tt) y = some_number none_held (ap (λ (d : Check). (given d).0) y)
    go (Err w) y = some_number w (ap (λ (d : Check). (given d).0) y)

-- the machine is that of the command's pulse, and the record that of the job held afterwards
pub step_enters : (κs : Lfts 4) (a : ArgsD step.signature κs) (r : ResD step.signature κs) (s : AtExit (ended_of 4 step-kinds.ps step-kinds.r) κs)
    → step-reads.Post κs a r s
    → let m = machine a.1.1.0 a.0.now a.1.0.now in
    let job = a.1.1.1.0.now in
    let buffer = a.1.1.1.1.0.now in
    let held = held_in job in
    let t = jobs.step_told m job (length buffer) in
    Enters tells_stepped (held_own_table job jobs.step_size (length buffer)) (steps_table m held) (step_check m held) r t (told_stepped (step_of m held))
    × ((s.1.1.1.1.0.now ≡ tell_in (jobs.step_numbers t) buffer)
    × (Keeps r m.words (after_step m held).words s.0.now
    × (Keeps r m.responses (after_step m held).responses s.1.0.now × Keeps r job (jobs.stepped_in (step_of m held) job) s.1.1.1.0.now)))
unfolding jobs.step_told jobs.step_left jobs.record_left jobs.step_entry step_of after_step
step_enters κs a r s h =
    let m = machine a.1.1.0 a.0.now a.1.0.now in
    let job = a.1.1.1.0.now in
    let room = length a.1.1.1.1.0.now in
    let held = held_in job in
    let own = jobs.step_own job room in
    let call = step_check m held in
    let says : Check → Result Stepped Refusal = λ c. given_by c (gave m held) in
    let tell : Result Stepped Refusal → ℕ × ℕ = λ w. tells_stepped (told_stepped w) in (
      enters_by says own call tells_stepped told_stepped (λ w. refl) (gave_no_number m held) (held_own_table job jobs.step_size room) (steps_table m held)
          (held_own job jobs.step_size room) (step_given m held) r h.0,
      (
        h.1.0,
        (
          keeps_by says own call tell (λ w. refl) (gave_no_number m held) (λ w. (machine_after w m).words) m.words (λ w. refl) r h.0
              s.0.now h.1.1.0,
          (
            keeps_by says own call tell (λ w. refl) (gave_no_number m held) (λ w. (machine_after w m).responses) m.responses (λ w. refl) r h.0
                s.1.0.now h.1.1.1.0,
            keeps_by says own call tell (λ w. refl) (gave_no_number m held) (λ w. jobs.stepped_in w job) job (λ w. refl) r h.0
                s.1.1.1.0.now h.1.1.1.1,
          ),
        ),
      ),
    )

abbrev tells_total : totals.Told → ℕ × ℕ
tells_total t = (t.refusal, t.also)

pub total_enters : (κs : Lfts 4) (a : ArgsD total.signature κs) (r : ResD total.signature κs) (s : AtExit (ended_of 4 total-kinds.ps total-kinds.r) κs)
    → total-reads.Post κs a r s
    → let m = machine a.1.1.0 a.0.now a.1.0.now in
    let job = a.1.1.1.0.now in
    let buffer = a.1.1.1.1.0.now in
    let held = held_in job in
    let t = jobs.total_told m job (length buffer) in
    Enters tells_total (held_own_table job jobs.total_size (length buffer)) (total_table m held) (total_check m held) r t (totals.told (total_of m held))
    × (s.1.1.1.1.0.now ≡ tell_in (jobs.total_numbers t) buffer)
unfolding jobs.total_told total_of
total_enters κs a r s h =
    let m = machine a.1.1.0 a.0.now a.1.0.now in
    let job = a.1.1.1.0.now in
    let room = length a.1.1.1.1.0.now in
    let held = held_in job in (
      enters_by (λ (c : Check). answer_by c (held_pulses m held)) (jobs.total_own job room) (total_check m held) tells_total totals.told (λ w. refl) (λ z. refl)
          (held_own_table job jobs.total_size room) (total_table m held) (held_own job jobs.total_size room) (total_given m held) r h.0,
      h.1,
    )

-- ---- images

abbrev tells_wrote : ToldWrote → ℕ × ℕ
tells_wrote t = (t.refusal, t.also)

pub write_enters : (κs : Lfts 5) (a : ArgsD write.signature κs) (r : ResD write.signature κs) (s : AtExit (ended_of 5 write-kinds.ps write-kinds.r) κs)
    → write-reads.Post κs a r s
    → let job = a.1.1.1.0.now in
    let st = state a.1.1.0 a.0.now a.1.0.now (held_in job) in
    let image = a.1.1.1.1.0.now in
    let buffer = a.1.1.1.1.1.0.now in
    let t = images.write_told st job image (length buffer) in
    Enters tells_wrote (held_own_table job images.write_size (length buffer)) (write_table st (length image)) (write_check st (length image)) r t
    (told_wrote (write_of st (length image)))
    × ((s.1.1.1.1.1.0.now ≡ tell_in (images.write_numbers t) buffer) × Keeps r image (written st image) s.1.1.1.1.0.now)
unfolding images.write_told images.write_left images.write_entry write_of written
write_enters κs a r s h =
    let job = a.1.1.1.0.now in
    let st = state a.1.1.0 a.0.now a.1.0.now (held_in job) in
    let image = a.1.1.1.1.0.now in
    let room = length a.1.1.1.1.1.0.now in
    let own = images.write_own job room in
    let call = write_check st (length image) in
    let says : Check → Result ℕ Refusal = λ c. answer_by c (length (image_of st)) in
    let number_is : r ≡ (given (lower own call)).0
    = h.0 ∙ ap (λ (u : ℕ × ℕ). u.0) (tell_given says own call (λ w. tells_wrote (told_wrote w)) (λ w. refl) (λ z. refl)) in (
      enters_by says own call tells_wrote told_wrote (λ w. refl) (λ z. refl) (held_own_table job images.write_size room) (write_table st (length image))
          (held_own job images.write_size room) (write_given st (length image)) r h.0,
      (h.1.0, kept_by own call (λ (xs : List ℕ). xs) (sets image 0 (image_of st)) image r number_is s.1.1.1.1.0.now h.1.1),
    )

abbrev tells_read : ToldRead → ℕ × ℕ
tells_read t = (t.refusal, t.also)

-- the record becomes that of the job that the image holds
pub read_enters : (κs : Lfts 5) (a : ArgsD read.signature κs) (r : ResD read.signature κs) (s : AtExit (ended_of 5 read-kinds.ps read-kinds.r) κs)
    → read-reads.Post κs a r s
    → let image = a.0.now in
    let ws = a.1.0.now in
    let rs = a.1.1.0.now in
    let job = a.1.1.1.0.now in
    let buffer = a.1.1.1.1.0.now in
    let t = images.read_told image (length ws) (length rs) job (length buffer) in
    Enters tells_read (record_table job images.read_size (length buffer)) (read_table image (length ws) (length rs)) (read_check image (length ws) (length rs)) r t
    (told_read (read_of image (length ws) (length rs)))
    × ((s.1.1.1.1.0.now ≡ tell_in (images.read_numbers t) buffer)
    × (Keeps r ws (words_read image ws rs) s.1.0.now
    × (Keeps r rs (responses_read image ws rs) s.1.1.0.now
    × Keeps r job (images.read_in (read_of image (length ws) (length rs)) job) s.1.1.1.0.now)))
unfolding images.read_told images.words_left images.responses_left images.record_left images.read_entry read_of words_read responses_read
read_enters κs a r s h =
    let image = a.0.now in
    let ws = a.1.0.now in
    let rs = a.1.1.0.now in
    let job = a.1.1.1.0.now in
    let room = length a.1.1.1.1.0.now in
    let own = images.read_own job room in
    let call = read_check image (length ws) (length rs) in
    let st = state_in image in
    let says : Check → Result Loaded Refusal = λ c. answer_by c (machine_in st) in
    let number_is : r ≡ (given (lower own call)).0
    = h.0 ∙ ap (λ (u : ℕ × ℕ). u.0) (tell_given says own call (λ w. tells_read (told_read w)) (λ w. refl) (λ z. refl)) in (
      enters_by says own call tells_read told_read (λ w. refl) (λ z. refl) (record_table job images.read_size room)
          (read_table image (length ws) (length rs)) (record_own job images.read_size room) (read_given image (length ws) (length rs)) r h.0,
      (
        h.1.0,
        (
          kept_by own call (λ (xs : List ℕ). xs) (sets ws 0 st.machine.words) ws r number_is s.1.0.now h.1.1.0,
          (
            kept_by own call (λ (xs : List ℕ). xs) (sets rs 0 st.machine.responses) rs r number_is s.1.1.0.now h.1.1.1.0,
            keeps_by says own call (λ w. tells_read (told_read w)) (λ w. refl) (λ z. refl) (λ w. images.read_in w job) job (λ w. refl) r h.0
                s.1.1.1.0.now h.1.1.1.1,
          ),
        ),
      ),
    )
