-- Demand 1, of the answers: each "tells the number and what it also answers" of the first condition of its table that holds (`Demand1`), and
-- "nothing lent changes".
use Prim.Native.Nat.{ℕ, suc, ◌+◌, ◌≤◌}
use mathlib.Core.Path.{◌≡◌, refl, sym, ap, ◌∙◌}
use mathlib.Core.List.{List, [], ◌∷◌, ◌++◌}
use native.Mathlib.Omega.{arith}
use lib.ListN.{length, drop, set}
use lib.Seq.{sets, drop-set-lt}
use Rattle.std.specs.Prelude.{Option, Some, None, Result, Ok, Err}
use Rattle.machine.specs.declared.Panel.{Panel}
use Rattle.machine.specs.declared.Lines.{Lines}
use Rattle.machine.specs.declared.WordSlice.{WordSlice}
use Rattle.machine.specs.declared.ResponseBit.{ResponseBit}
use Rattle.machine.specs.declared.Refusal.{Refusal}
use Rattle.machine.specs.declared.Answer.{Answer}
use Rattle.machine.specs.Machine.{Machine}
use Rattle.machine.specs.Pulse.{count_of, read_of as wordRead, pulsed}
use Rattle.machine.specs.Resolution as res
use Rattle.machine.specs.Refusals.{Check, ◌else◌, machine_check, pulse_check, answer_by, change_by, answer_of, after, tells, told}
use Rattle.machine.proofs.Refusals.{some_number}
use Rattle.job_plans.specs.declared.Job.{Job}
use Rattle.job_plans.specs.Fields.{Held}
use Rattle.job_plans.specs.Places as places
use Rattle.job_plans.specs.Places.{step_held_check, next}
use Rattle.job_plans.specs.Commands.{command}
use Rattle.jobs.specs.declared.Stepped.{Stepped}
use Rattle.jobs.specs.Calls.{start_check, start_of, step_check, gave, given_by, step_of, machine_after, after_step, no_command, told_started, ToldStepped, told_stepped}
use Rattle.job_tally.specs.Totals as tally
use Rattle.job_tally.specs.Totals.{pulses, total_check, total_of}
use Rattle.jobs.specs.Runs.{State}
use Rattle.image.specs.declared.Loaded.{Loaded}
use Rattle.image.specs.Calls.{write_check, write_of, written, read_check, read_of, words_read, responses_read, told_wrote, told_read}
use Rattle.image_layout.specs.Format.{image_of}
use Rattle.image_layout.specs.Reading.{words_in, scanned, state_in}
use Rattle.image_layout.proofs.Reading.{length_numbers}
use Rattle.resolver.specs.Answers as resolver
use Rattle.resolver.specs.Answers.{resolution}
use Rattle.rounds.specs.declared.Verdict.{Verdict}
use Rattle.rounds.specs.Round as rounds
use Rattle.handout.specs.declared.Report.{Report}
use Rattle.handout.specs.Whole as whole
use Rattle.handout.specs.Whole.{is_done, is_faulty, ended, report_of, after_round}
use Rattle.rounds.specs.Round.{shown, show_check, show_of, round_check, answer_check, reply_of, answered_at, after_answer}
use Rattle.promises.proofs.Demand2.{byte_too_many}
use Rattle.explainer.specs.declared.Reason.{Reason}
use Rattle.explainer.specs.Reasons as reasons
use Rattle.explainer.specs.Reasons.{explain_check, reason_at, explained}
use Rattle.explainer.proofs.Answers.{reason_answers}
use Rattle.promises.proofs.Demand1.{Entry, answer_table, explain_table, first, given, machine_table, pulse_table, read_table, round_table, show_table, start_table, steps_table, total_table, write_table}
use Rattle.promises.proofs.Given.{answer_given, explain_given, pulse_given, read_given, resolution_given, round_given, show_given, start_given, step_given, total_given, write_given}

-- ---- the answer tells that number and what it also answers: `tells..` is an answer's, 0 where the call is accepted

abbrev pub tells_answer : Result Answer Refusal → ℕ × ℕ
tells_answer a = ((told a).refusal, (told a).also)

abbrev pub tells_resolved : Result (Option WordSlice) Refusal → ℕ × ℕ
tells_resolved a = ((resolver.told a).refusal, (resolver.told a).also)

abbrev pub tells_explained : Result Reason Refusal → ℕ × ℕ
tells_explained a = ((reasons.told a).refusal, (reasons.told a).also)

abbrev pub tells_report : Result Report Refusal → ℕ × ℕ
tells_report a = ((whole.told a).refusal, (whole.told a).also)

abbrev pub tells_started : Result Job Refusal → ℕ × ℕ
tells_started a = ((told_started a).refusal, (told_started a).also)

abbrev pub tells_stepped : Result Stepped Refusal → ℕ × ℕ
tells_stepped a = ((told_stepped a).refusal, (told_stepped a).also)

abbrev pub tells_total : Result ℕ Refusal → ℕ × ℕ
tells_total a = ((tally.told a).refusal, (tally.told a).also)

abbrev pub tells_wrote : Result ℕ Refusal → ℕ × ℕ
tells_wrote a = ((told_wrote a).refusal, (told_wrote a).also)

abbrev pub tells_read : Result Loaded Refusal → ℕ × ℕ
tells_read a = ((told_read a).refusal, (told_read a).also)

-- any answer by a check: a refusal's own number, and 0 for what is answered where the check passes
by_check : {A : Type 0} (says : Result A Refusal → ℕ × ℕ) → ((r : Refusal) → says (Err r) ≡ tells r) → (c : Check) (done : A)
    → says (Ok done) ≡ (0, 0) → says (answer_by c done) ≡ given c
by_check says e (Ok tt) done h = h
by_check says e (Err r) done h = e r

pub pulse_tells : (m : Machine) (p : Panel) (l : Lines) → tells_answer (answer_of m p l) ≡ first (pulse_table m p l)
unfolding answer_of
pulse_tells m p l = by_check tells_answer (λ r. refl) (pulse_check m p l) _ refl ∙ pulse_given m p l

pub explain_tells : (m : Machine) (p : Panel) (k : WordSlice) → tells_explained (explained m p k) ≡ first (explain_table m p k)
unfolding explained
explain_tells m p k = by_check tells_explained (λ r. refl) (explain_check m p k) _ (reason_answers _ p _ _) ∙ explain_given m p k

found_none : (w : Option WordSlice) → tells_resolved (Ok w) ≡ (0, 0)
found_none (Some k) = refl
found_none None = refl

pub resolution_tells : (key care : ℕ) (m : Machine) → tells_resolved (resolution key care m) ≡ first (machine_table m [])
unfolding resolution
resolution_tells key care m =
    by_check tells_resolved (λ r. refl) (machine_check m) _ (found_none (res.resolved key care m)) ∙ resolution_given m

pub show_tells : (x : ResponseBit) (m : Machine) → tells_resolved (show_of x m) ≡ first (show_table x m)
unfolding show_of
show_tells x m = by_check tells_resolved (λ r. refl) (show_check x m) _ (found_none (shown x m)) ∙ show_given x m

reply_told : (c : Check) → rounds.told c ≡ given c
reply_told (Ok tt) = refl
reply_told (Err r) = refl

pub answer_tells : (x f : ResponseBit) (k : WordSlice) (m : Machine) → rounds.told (reply_of x f k m) ≡ first (answer_table x f k m)
unfolding reply_of
answer_tells x f k m = reply_told (answer_check x f k m) ∙ answer_given x f k m

pub round_tells : (x f : ResponseBit) (vs : List ℕ) (m : Machine) → tells_report (report_of x f vs m) ≡ first (round_table x f m)
unfolding report_of ended
round_tells x f vs m = by_check tells_report (λ r. refl) (round_check x f m) _ refl ∙ round_given x f m

pub start_tells : (m : Machine) (h : Held) (o : Job) → tells_started (start_of m h o) ≡ first (start_table m h o)
unfolding start_of
start_tells m h o = by_check tells_started (λ r. refl) (start_check m h o) _ refl ∙ start_given m h o

-- a step while no job is held is turned down before anything is given
step_by : (m : Machine) (h : Held) (c : Check) → tells_stepped (given_by (c else step_held_check m.width h) (gave m h)) ≡ given (c else step_held_check m.width h)
step_by m None (Ok tt) = refl
step_by m None (Err r) = refl
step_by m (Some o) c = go (c else step_held_check m.width (Some o))
  where
    go : (d : Check) → tells_stepped (given_by d (gave m (Some o))) ≡ given d
    go (Ok tt) = refl
    go (Err r) = refl

pub step_tells : (m : Machine) (h : Held) → tells_stepped (step_of m h) ≡ first (steps_table m h)
unfolding step_of step_check
step_tells m h = step_by m h (machine_check m) ∙ step_given m h

pub total_tells : (m : Machine) (h : Held) → tells_total (total_of m h) ≡ first (total_table m h)
unfolding total_of
total_tells m h = by_check tells_total (λ r. refl) (total_check m h) _ refl ∙ total_given m h

pub write_tells : (s : State) (room : ℕ) → tells_wrote (write_of s room) ≡ first (write_table s room)
unfolding write_of
write_tells s room = by_check tells_wrote (λ r. refl) (write_check s room) _ refl ∙ write_given s room

pub read_tells : (bs : List ℕ) (words responses : ℕ) → tells_read (read_of bs words responses) ≡ first (read_table bs words responses)
unfolding read_of
read_tells bs words responses = by_check tells_read (λ r. refl) (read_check bs words responses) _ refl ∙ read_given bs words responses

-- ---- the whole answer: what it is where no condition of the table holds, and on a refusal that number, what it also answers, and else 0

pub passes : (c : Check) → (given c).0 ≡ 0 → c ≡ Ok tt
passes (Ok tt) h = refl
passes (Err r) h = absurd (some_number r h)

-- of any check whose number a table says
accepted : (c : Check) (es : List Entry) → given c ≡ first es → (first es).0 ≡ 0 → c ≡ Ok tt
accepted c es g h = passes c (ap (λ (x : ℕ × ℕ). x.0) g ∙ h)

-- others is a refusal's answer, by its number and what it also answers
refused : {A B : Type 0} (says : Result A Refusal → B) (others : ℕ → ℕ → B) → ((r : Refusal) → says (Err r) ≡ others (tells r).0 (tells r).1)
    → (c : Check) (es : List Entry) (done : A) → given c ≡ first es → ((first es).0 ≡ 0 → ⊥) → says (answer_by c done) ≡ others (first es).0 (first es).1
refused says others e (Ok tt) es done g h = absurd (h (ap (λ (x : ℕ × ℕ). x.0) (sym g)))
refused says others e (Err r) es done g h = e r ∙ ap (λ (x : ℕ × ℕ). others x.0 x.1) g

pub pulse_done : (m : Machine) (p : Panel) (l : Lines) → (first (pulse_table m p l)).0 ≡ 0
    → told (answer_of m p l) ≡ record { refusal = 0; also = 0; count = count_of m p l; read = wordRead m p l }
unfolding answer_of
pulse_done m p l h = rw (accepted (pulse_check m p l) _ (pulse_given m p l) h)

pub pulse_refused : (m : Machine) (p : Panel) (l : Lines) → ((first (pulse_table m p l)).0 ≡ 0 → ⊥)
    → told (answer_of m p l) ≡ record { refusal = (first (pulse_table m p l)).0; also = (first (pulse_table m p l)).1; count = 0; read = 0 }
unfolding answer_of
pulse_refused m p l = refused told (λ k a. record { refusal = k; also = a; count = 0; read = 0 }) (λ r. refl) (pulse_check m p l) _ _ (pulse_given m p l)

-- 02 e: the reason at that word
pub explain_done : (m : Machine) (p : Panel) (k : WordSlice) → (first (explain_table m p k)).0 ≡ 0 → explained m p k ≡ Ok (reason_at m p k)
unfolding explained
explain_done m p k h = rw (accepted (explain_check m p k) _ (explain_given m p k) h)

pub explain_refused : (m : Machine) (p : Panel) (k : WordSlice) → ((first (explain_table m p k)).0 ≡ 0 → ⊥)
    → reasons.told (explained m p k) ≡ record { refusal = (first (explain_table m p k)).0; also = (first (explain_table m p k)).1; answer = 0; syllable = 0; bit = 0 }
unfolding explained
explain_refused m p k =
    refused reasons.told (λ n a. record { refusal = n; also = a; answer = 0; syllable = 0; bit = 0 }) (λ r. refl) (explain_check m p k) _ _ (explain_given m p k)

-- the word found, and 0 and 0 for none
abbrev pub found_in : Option WordSlice → resolver.Told
found_in (Some k) = record { refusal = 0; also = 0; found = 1; word = k.0 }
found_in None = record { refusal = 0; also = 0; found = 0; word = 0 }

found_told : (w : Option WordSlice) → resolver.told (Ok w) ≡ found_in w
found_told (Some k) = refl
found_told None = refl

pub resolution_done : (key care : ℕ) (m : Machine) → (first (machine_table m [])).0 ≡ 0 → resolver.told (resolution key care m) ≡ found_in (res.resolved key care m)
unfolding resolution
resolution_done key care m h = rw (accepted (machine_check m) _ (resolution_given m) h) (found_told (res.resolved key care m))

pub resolution_refused : (key care : ℕ) (m : Machine) → ((first (machine_table m [])).0 ≡ 0 → ⊥)
    → resolver.told (resolution key care m) ≡ record { refusal = (first (machine_table m [])).0; also = (first (machine_table m [])).1; found = 0; word = 0 }
unfolding resolution
resolution_refused key care m =
    refused resolver.told (λ k a. record { refusal = k; also = a; found = 0; word = 0 }) (λ r. refl) (machine_check m) _ _ (resolution_given m)

pub show_done : (x : ResponseBit) (m : Machine) → (first (show_table x m)).0 ≡ 0 → resolver.told (show_of x m) ≡ found_in (shown x m)
unfolding show_of
show_done x m h = rw (accepted (show_check x m) _ (show_given x m) h) (found_told (shown x m))

pub show_refused : (x : ResponseBit) (m : Machine) → ((first (show_table x m)).0 ≡ 0 → ⊥)
    → resolver.told (show_of x m) ≡ record { refusal = (first (show_table x m)).0; also = (first (show_table x m)).1; found = 0; word = 0 }
unfolding show_of
show_refused x m = refused resolver.told (λ k a. record { refusal = k; also = a; found = 0; word = 0 }) (λ r. refl) (show_check x m) _ _ (show_given x m)

pub round_done : (x f : ResponseBit) (vs : List ℕ) (m : Machine) → (first (round_table x f m)).0 ≡ 0
    → whole.told (report_of x f vs m) ≡ record { refusal = 0; also = 0; done = whole.tally (is_done x vs) 0 m.responses; faulty = whole.tally (is_faulty x vs) 0 m.responses }
unfolding report_of ended
round_done x f vs m h = rw (accepted (round_check x f m) _ (round_given x f m) h)

pub round_refused : (x f : ResponseBit) (vs : List ℕ) (m : Machine) → ((first (round_table x f m)).0 ≡ 0 → ⊥)
    → whole.told (report_of x f vs m) ≡ record { refusal = (first (round_table x f m)).0; also = (first (round_table x f m)).1; done = 0; faulty = 0 }
unfolding report_of
round_refused x f vs m = refused whole.told (λ k a. record { refusal = k; also = a; done = 0; faulty = 0 }) (λ r. refl) (round_check x f m) _ _ (round_given x f m)

-- the job held is the one offered, at its first place
pub start_done : (m : Machine) (h : Held) (o : Job) → (first (start_table m h o)).0 ≡ 0
    → told_started (start_of m h o) ≡ record { refusal = 0; also = 0; held = Some (places.first o) }
unfolding start_of
start_done m h o e = rw (accepted (start_check m h o) _ (start_given m h o) e)

pub start_refused : (m : Machine) (h : Held) (o : Job) → ((first (start_table m h o)).0 ≡ 0 → ⊥)
    → told_started (start_of m h o) ≡ record { refusal = (first (start_table m h o)).0; also = (first (start_table m h o)).1; held = None }
unfolding start_of
start_refused m h o = refused told_started (λ k a. record { refusal = k; also = a; held = None }) (λ r. refl) (start_check m h o) _ _ (start_given m h o)

-- "A job step answers the command it gave", that command's count, and the job held afterwards
pub step_done : (m : Machine) (o : Job) → (first (steps_table m (Some o))).0 ≡ 0
    → told_stepped (step_of m (Some o))
    ≡ record {
      refusal = 0;
      also = 0;
      given = command o;
      count = count_of m (command o).panel (command o).lines;
      held = next o (count_of m (command o).panel (command o).lines);
    }
unfolding step_of
step_done m o e = rw (accepted (step_check m (Some o)) _ (step_given m (Some o)) e)

pub step_refused : (m : Machine) (h : Held) → ((first (steps_table m h)).0 ≡ 0 → ⊥)
    → told_stepped (step_of m h)
    ≡ record { refusal = (first (steps_table m h)).0; also = (first (steps_table m h)).1; given = no_command; count = 0; held = None }
unfolding step_of
step_refused m h =
    turned (step_check m h) _ (gave m h) (step_given m h)
  where
    turned : (c : Check) (es : List Entry) (q : Result Stepped Refusal) → given c ≡ first es → ((first es).0 ≡ 0 → ⊥)
        → told_stepped (given_by c q) ≡ record { refusal = (first es).0; also = (first es).1; given = no_command; count = 0; held = None }
    turned (Ok tt) es q g e = absurd (e (ap (λ (x : ℕ × ℕ). x.0) (sym g)))
    turned (Err r) es q g e =
        let others : ℕ × ℕ → ToldStepped = λ x. record { refusal = x.0; also = x.1; given = no_command; count = 0; held = None } in
        ap others g

pub total_done : (m : Machine) (o : Job) → (first (total_table m (Some o))).0 ≡ 0
    → tally.told (total_of m (Some o)) ≡ record { refusal = 0; also = 0; pulses = pulses m o }
unfolding total_of
total_done m o e = rw (accepted (total_check m (Some o)) _ (total_given m (Some o)) e)

pub total_refused : (m : Machine) (h : Held) → ((first (total_table m h)).0 ≡ 0 → ⊥)
    → tally.told (total_of m h) ≡ record { refusal = (first (total_table m h)).0; also = (first (total_table m h)).1; pulses = 0 }
unfolding total_of
total_refused m h = refused tally.told (λ k a. record { refusal = k; also = a; pulses = 0 }) (λ r. refl) (total_check m h) _ _ (total_given m h)

pub write_done : (s : State) (room : ℕ) → (first (write_table s room)).0 ≡ 0
    → told_wrote (write_of s room) ≡ record { refusal = 0; also = 0; size = length (image_of s) }
unfolding write_of
write_done s room e = rw (accepted (write_check s room) _ (write_given s room) e)

pub write_refused : (s : State) (room : ℕ) → ((first (write_table s room)).0 ≡ 0 → ⊥)
    → told_wrote (write_of s room) ≡ record { refusal = (first (write_table s room)).0; also = (first (write_table s room)).1; size = 0 }
unfolding write_of
write_refused s room = refused told_wrote (λ k a. record { refusal = k; also = a; size = 0 }) (λ r. refl) (write_check s room) _ _ (write_given s room)

pub read_done : (bs : List ℕ) (words responses : ℕ) → (first (read_table bs words responses)).0 ≡ 0
    → told_read (read_of bs words responses)
    ≡ record { refusal = 0; also = 0; width = (state_in bs).machine.width; words = length (state_in bs).machine.words; held = (state_in bs).held }
unfolding read_of
read_done bs words responses e = rw (accepted (read_check bs words responses) _ (read_given bs words responses) e)

pub read_refused : (bs : List ℕ) (words responses : ℕ) → ((first (read_table bs words responses)).0 ≡ 0 → ⊥)
    → told_read (read_of bs words responses)
    ≡ record { refusal = (first (read_table bs words responses)).0; also = (first (read_table bs words responses)).1; width = 0; words = 0; held = None }
unfolding read_of
read_refused bs words responses =
    refused told_read (λ k a. record { refusal = k; also = a; width = 0; words = 0; held = None }) (λ r. refl) (read_check bs words responses) _ _ (read_given bs words responses)

-- ---- "Nothing lent changes": of every call that lends anything by &mut

kept : {A : Type 0} (c : Check) (new old : A) → ((given c).0 ≡ 0 → ⊥) → change_by c new old ≡ old
kept (Ok tt) new old h = absurd (h refl)
kept (Err r) new old h = refl

pub pulse_unchanged : (m : Machine) (p : Panel) (l : Lines) → ((first (pulse_table m p l)).0 ≡ 0 → ⊥) → after m p l ≡ m
unfolding after
pulse_unchanged m p l h = kept (pulse_check m p l) (pulsed m p l) m (λ e. h (ap (λ (x : ℕ × ℕ). x.0) (sym (pulse_given m p l)) ∙ e))

pub answer_unchanged : (x f : ResponseBit) (k : WordSlice) (v : Verdict) (m : Machine) → ((first (answer_table x f k m)).0 ≡ 0 → ⊥) → after_answer x f k v m ≡ m
unfolding after_answer
answer_unchanged x f k v m h = kept (answer_check x f k m) (answered_at x f k v m) m (λ e. h (ap (λ (x : ℕ × ℕ). x.0) (sym (answer_given x f k m)) ∙ e))

pub round_unchanged : (x f : ResponseBit) (vs : List ℕ) (m : Machine) → ((first (round_table x f m)).0 ≡ 0 → ⊥) → after_round x f vs m ≡ m
unfolding after_round
round_unchanged x f vs m h = kept (round_check x f m) _ m (λ e. h (ap (λ (x : ℕ × ℕ). x.0) (sym (round_given x f m)) ∙ e))

not_given : (c : Check) (m : Machine) (a : Result Stepped Refusal) → ((given c).0 ≡ 0 → ⊥) → machine_after (given_by c a) m ≡ m
not_given (Ok tt) m a h = absurd (h refl)
not_given (Err r) m a h = refl

pub step_unchanged : (m : Machine) (h : Held) → ((first (steps_table m h)).0 ≡ 0 → ⊥) → after_step m h ≡ m
unfolding after_step step_of
step_unchanged m h g = not_given (step_check m h) m (gave m h) (λ e. g (ap (λ (x : ℕ × ℕ). x.0) (sym (step_given m h)) ∙ e))

pub write_unchanged : (s : State) (out : List ℕ) → ((first (write_table s (length out))).0 ≡ 0 → ⊥) → written s out ≡ out
unfolding written
write_unchanged s out h = kept (write_check s (length out)) _ out (λ e. h (ap (λ (x : ℕ × ℕ). x.0) (sym (write_given s (length out))) ∙ e))

pub read_unchanged : (bs ws rs : List ℕ) → ((first (read_table bs (length ws) (length rs))).0 ≡ 0 → ⊥) → (words_read bs ws rs ≡ ws) × (responses_read bs ws rs ≡ rs)
unfolding words_read responses_read
read_unchanged bs ws rs h =
    let c = read_check bs (length ws) (length rs) in
    let g : (given c).0 ≡ 0 → ⊥ = λ e. h (ap (λ (x : ℕ × ℕ). x.0) (sym (read_given bs (length ws) (length rs))) ∙ e) in
    (kept c _ ws g, kept c _ rs g)

-- ---- "Reading changes only the first n of each destination, writing only the image's own bytes": what is past them stays, whatever the call answers

drop_sets : (vs l : List ℕ) (i n : ℕ) → i + length vs ≤ n → drop n (sets l i vs) ≡ drop n l
drop_sets [] l i n h = refl
drop_sets (v ∷ vs) l i n h = drop_sets vs (set l i v) (suc i) n (omega arith) ∙ drop-set-lt n l i v (omega arith)

past : (c : Check) (vs l : List ℕ) (n : ℕ) → length vs ≡ n → drop n (change_by c (sets l 0 vs) l) ≡ drop n l
past (Ok tt) vs l n h = drop_sets vs l 0 n (omega arith)
past (Err r) vs l n h = refl

pub past_image_stays : (s : State) (out : List ℕ) → drop (length (image_of s)) (written s out) ≡ drop (length (image_of s)) out
unfolding written
past_image_stays s out = past (write_check s (length out)) (image_of s) out (length (image_of s)) refl

pub past_n_stays : (bs ws rs : List ℕ)
    → (drop (words_in bs) (words_read bs ws rs) ≡ drop (words_in bs) ws) × (drop (words_in bs) (responses_read bs ws rs) ≡ drop (words_in bs) rs)
unfolding words_read responses_read state_in
past_n_stays bs ws rs =
    let c = read_check bs (length ws) (length rs) in
    (past c (state_in bs).machine.words ws (words_in bs) (length_numbers _ _ _), past c (state_in bs).machine.responses rs (words_in bs) (length_numbers _ _ _))

-- ---- 9: "the first byte too many", of any sound image and any bytes after it

pub too_many_told : (image : List ℕ) (b : ℕ) (more : List ℕ) (words responses : ℕ) → scanned image ≡ Ok tt
    → told_read (read_of (image ++ (b ∷ more)) words responses) ≡ record { refusal = 9; also = length image; width = 0; words = 0; held = None }
unfolding read_of read_check
too_many_told image b more words responses h = rw (byte_too_many image b more h)
