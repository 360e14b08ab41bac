-- Demand 3, rounds: "A hand-out round shows a responder with k lower ones after exactly k stored answers."
use Prim.Native.Nat.{ℕ, ◌+◌, ◌≤◌, ◌<◌}
use mathlib.Core.Path.{◌≡◌}
use mathlib.Core.Bool.{false}
use mathlib.Core.List.{List}
use lib.ListN.{length, take, drop, get_or}
use Rattle.std.specs.Prelude.{Some, None, Ok}
use Rattle.laws.specs.Bits.{bit}
use Rattle.machine.specs.declared.Panel.{Panel}
use Rattle.machine.specs.declared.Lines.{Lines}
use Rattle.machine.specs.declared.WordSlice.{WordSlice}
use Rattle.machine.specs.declared.ResponseBit.{ResponseBit}
use Rattle.machine.specs.Machine.{Machine, response_bits}
use Rattle.machine.specs.Refusals.{pulse_check, after}
use Rattle.job_plans.specs.declared.Job.{Job}
use Rattle.job_plans.specs.declared.Command.{Command}
use Rattle.job_plans.specs.Fields.{Held}
use Rattle.jobs.specs.Calls.{step_of, after_step}
use Rattle.jobs.specs.Runs.{State, stepped}
use Rattle.rounds.specs.declared.Verdict.{Verdict}
use Rattle.rounds.specs.declared.Verdict.TheVariants.{Done, Faulty}
use Rattle.rounds.specs.Round.{Fit, round_check, shown, show_of, reply_of, after_answer}
use Rattle.rounds.specs.Handout.{responders, responder, response, NotAmong, first_of, Answers}
use Rattle.rounds.proofs.Handout.{handed_out}
use Rattle.handout.specs.Whole.{report_of, after_round}
use Rattle.image_layout.specs.Format.{image_of}
use Rattle.hosts.specs.Images.{Stores, Resumes, Typed}
use Rattle.hosts.specs.Rounds.{Responder, lower, Looks, Leaves, Apart, Beside, Given, words_of, verdicts_of, Phase, ready, showing, Entry, Hosted, stops, Both, Orderly, Shown, Finished}
use Rattle.hosts.proofs.Book as over-stops
use Rattle.hosts.proofs.Rounds.{was_next, answerable, same_again, taken_is_shown, is_next, ends, over, faulty_has, done_has, others_have, storable_round, resumable}
use Rattle.hosts.proofs.Book.{in_order, none_skipped, each_in_turn, words_in_turn}
use Rattle.hosts.proofs.Both.{first_alone, second_alone, second_typed}
use Rattle.hosts.proofs.Elsewhere.{answer_spares, round_spares}
use Rattle.hosts.proofs.Leaving.{target_spares, lines_spare, step_spares, looks_leave}

-- ---- rounds: show and answer alone

-- after k accepted answers vs, done or faulty, from the machine `before` to the machine `after`
module _ {x f : ResponseBit} {before after : Machine} {vs : List Verdict} (answers : Answers x f before vs after) where
  -- the next shown is the responder with k lower ones, or none where there is none
  pub shown_next : shown x after ≡ first_of (drop (length vs) (responders x before))
  shown_next = (handed_out answers).next

  -- exactly the lowest k responders have lost X
  pub no_more_than_responders : length vs ≤ length (responders x before)
  no_more_than_responders = (handed_out answers).enough

  pub lost_mark : (i : ℕ) → i < length vs → bit (response after (responder x before i)) x.0 ≡ 0
  lost_mark = (handed_out answers).lost_mark

  pub responders_left : responders x after ≡ drop (length vs) (responders x before)
  responders_left = (handed_out answers).left

  -- faulty ones carry F, and done ones have it as before
  pub faulty_marked : (i : ℕ) → i < length vs → get_or vs i Done ≡ Faulty → bit (response after (responder x before i)) f.0 ≡ 1
  faulty_marked = (handed_out answers).faulty_marked

  pub done_unmarked : (i : ℕ) → i < length vs → get_or vs i Done ≡ Done
      → bit (response after (responder x before i)) f.0 ≡ bit (response before (responder x before i)) f.0
  done_unmarked = (handed_out answers).done_unmarked

  -- nothing else changes: no other word's response, no other response bit, no word
  pub other_responses : (j : ℕ) → NotAmong (responders x before) (length vs) j → response after j ≡ response before j
  other_responses = (handed_out answers).other_words

  pub other_bits : (j b : ℕ) → b < response_bits → (b ≡ x.0 → ⊥) → (b ≡ f.0 → ⊥) → bit (response after j) b ≡ bit (response before j) b
  other_bits = (handed_out answers).other_bits

  pub words_unchanged : after.words ≡ before.words
  words_unchanged = (handed_out answers).words

-- ---- rounds over stops: `Hosted x f b s image phase vs book` says that a round over X and F began at b and its image; by shows, answers, stores, stops
-- and other calls that leave X and F alone s stands now, `image` is the last stored, vs are the answers that are stored, and `book` has the words
-- shown and the stops

module _ (x f : ResponseBit) (b : State) (fine : round_check x f b.machine ≡ Ok tt) (typed : Typed b) where
  -- a word that is shown was a responder in the first image, with exactly as many lower ones as answers are stored
  pub shown_was_next : {s : State} {image : List ℕ} {k : ℕ} {vs : List Given} {book : List Entry} → Hosted x f b s image (showing k) vs book
      → Responder x b.machine k × (lower x b.machine k ≡ length vs)
  shown_was_next = was_next x f b fine typed

  -- asked again, show gives that word again: after a show, and after an answer that was turned down
  pub asked_gives_the_same : {s : State} {image : List ℕ} {k : ℕ} {vs : List Given} {book : List Entry} → Hosted x f b s image (showing k) vs book
      → show_of x s.machine ≡ Ok (Some (record { 0 = k }))
  asked_gives_the_same = same_again x f b fine typed

  -- its answer is accepted, done or faulty, and no other word's is; a refused one changes nothing (Demand1, `answer_unchanged`)
  pub shown_can_be_answered : {s : State} {image : List ℕ} {k : ℕ} {vs : List Given} {book : List Entry} → Hosted x f b s image (showing k) vs book
      → reply_of x f (record { 0 = k }) s.machine ≡ Ok tt
  shown_can_be_answered = answerable x f b fine typed

  pub only_shown_can_be : {s : State} {image : List ℕ} {j : ℕ} {vs : List Given} {book : List Entry} → Hosted x f b s image (showing j) vs book
      → (k : WordSlice) → reply_of x f k s.machine ≡ Ok tt → k.0 ≡ j
  only_shown_can_be = taken_is_shown x f b fine typed

  -- before a show: an image of vs is stored, and no answer is given that isn't
  module _ {s : State} {image : List ℕ} {vs : List Given} {book : List Entry} (hosted : Hosted x f b s image ready vs book) where
    -- a responder with k lower ones is the one shown after exactly k stored answers
    pub next_is_shown : (k : ℕ) → Responder x b.machine k → lower x b.machine k ≡ length vs → show_of x s.machine ≡ Ok (Some (record { 0 = k }))
    next_is_shown = is_next x f b fine typed hosted

    -- the round ends after as many stored answers as there were responders, and only then
    pub ends_after_all : show_of x s.machine ≡ Ok None → length vs ≡ length (responders x b.machine)
    ends_after_all = ends x f b fine typed hosted

    pub after_all_ends : length vs ≡ length (responders x b.machine) → show_of x s.machine ≡ Ok None
    after_all_ends = over x f b fine typed hosted

    -- F marks exactly the ones answered faulty, and stored, among them: those answered done and all other words have it as before
    pub faulty_have_f : (i : ℕ) → i < length vs → get_or (verdicts_of vs) i Done ≡ Faulty → bit (response s.machine (responder x b.machine i)) f.0 ≡ 1
    faulty_have_f = faulty_has x f b fine typed hosted

    pub done_have_f_as_before : (i : ℕ) → i < length vs → get_or (verdicts_of vs) i Done ≡ Done
        → bit (response s.machine (responder x b.machine i)) f.0 ≡ bit (response b.machine (responder x b.machine i)) f.0
    done_have_f_as_before = done_has x f b fine typed hosted

    pub others_have_f_as_before : (j : ℕ) → NotAmong (responders x b.machine) (length vs) j
        → bit (response s.machine j) f.0 ≡ bit (response b.machine j) f.0
    others_have_f_as_before = others_have x f b fine typed hosted

    -- the finished round: when show gives none
    pub finished : show_of x s.machine ≡ Ok None → Finished x f b.machine s.machine vs book
    finished = over-stops.finished x f b fine typed hosted

  module _ {s : State} {image : List ℕ} {phase : Phase} {vs : List Given} {book : List Entry} (hosted : Hosted x f b s image phase vs book) where
    -- every show in the book, not only the last, gave a responder after exactly as many stored answers as it has lower ones
    pub each_shown_in_turn : (k n : ℕ) → Shown k n book → Responder x b.machine k × (lower x b.machine k ≡ n)
    each_shown_in_turn = each_in_turn x f b fine typed hosted

    -- "From an older image the round is the one that stood then": wherever the round went on to after `hosted`, from the image that was the last
    -- there it shows the responder that was the next then
    pub from_older_image : {words responses : List ℕ} {t : State} → Resumes words responses image t → (k : ℕ) → Responder x b.machine k → lower x b.machine k ≡ length vs
        → show_of x t.machine ≡ Ok (Some (record { 0 = k }))
    from_older_image resumes = next_is_shown (stops hosted resumes)

    -- the stored answers are the lowest responders', in rising order, one each
    pub answered_in_turn : words_of vs ≡ take (length vs) (responders x b.machine)
    answered_in_turn = words_in_turn x f b fine typed hosted

    -- "never skipped, at most one twice at each stop": each word shown was the next responder or, after a stop or where the host asked
    -- again, the last one again (`Orderly`)
    pub shown_in_order : (many : ℕ) × ((length vs ≤ many) × (many ≤ length vs + 1) × Orderly x b.machine book many)
    shown_in_order = in_order x f b fine typed hosted

    pub never_skipped : (k : ℕ) → Responder x b.machine k → lower x b.machine k < length vs → Shown k (lower x b.machine k) book
    never_skipped = none_skipped x f b fine typed hosted

    -- what stands can always be stored, and the last stored image resumed
    pub can_store_round : (output : List ℕ) → length (image_of s) ≤ length output → Stores output s (image_of s)
    can_store_round = storable_round x f b fine typed hosted

    pub can_resume_round : (words responses : List ℕ) → length b.machine.words ≤ length words → length b.machine.words ≤ length responses
        → (t : State) × Resumes words responses image t
    can_resume_round = resumable x f b fine typed hosted

-- ---- two rounds side by side, over four different bits, their calls in any order (`Both`)

module _ (x f y g : ResponseBit) (b c : State) (fine : round_check x f b.machine ≡ Ok tt) (also : round_check y g c.machine ≡ Ok tt)
    (typed : Typed b) (x_apart : Beside y g x) (f_apart : Beside y g f) where
  module _ {s : State} {image : List ℕ} {phase turn : Phase} {vs us : List Given} {book log : List Entry}
      (both : Both x f y g b c s image phase vs book turn us log) where
    -- each is a round as if alone, so that all that is said above of a round holds of both
    pub one_as_if_alone : Hosted x f b s image phase vs book
    one_as_if_alone = first_alone x f y g b c fine also x_apart f_apart both

    pub other_as_if_alone : Hosted y g c s image turn us log
    other_as_if_alone = second_alone x f y g b c fine also x_apart f_apart both

    pub typed_there_too : Typed c
    typed_there_too = second_typed x f y g b c fine also x_apart f_apart typed both

  -- each hands out its own responders
  pub each_shows_its_own : {s : State} {image : List ℕ} {j k : ℕ} {vs us : List Given} {book log : List Entry}
      → Both x f y g b c s image (showing j) vs book (showing k) us log
      → (Responder x b.machine j × (lower x b.machine j ≡ length vs)) × (Responder y c.machine k × (lower y c.machine k ≡ length us))
  each_shows_its_own both =
      (shown_was_next x f b fine typed (one_as_if_alone both), shown_was_next y g c also (typed_there_too both) (other_as_if_alone both))

  pub one_shows_next : {s : State} {image : List ℕ} {turn : Phase} {vs us : List Given} {book log : List Entry}
      → Both x f y g b c s image ready vs book turn us log → (k : ℕ) → Responder x b.machine k → lower x b.machine k ≡ length vs
      → show_of x s.machine ≡ Ok (Some (record { 0 = k }))
  one_shows_next both = next_is_shown x f b fine typed (one_as_if_alone both)

  pub other_shows_next : {s : State} {image : List ℕ} {phase : Phase} {vs us : List Given} {book log : List Entry}
      → Both x f y g b c s image phase vs book ready us log → (k : ℕ) → Responder y c.machine k → lower y c.machine k ≡ length us
      → show_of y s.machine ≡ Ok (Some (record { 0 = k }))
  other_shows_next both = next_is_shown y g c also (typed_there_too both) (other_as_if_alone both)

  pub both_finished : {s : State} {image : List ℕ} {vs us : List Given} {book log : List Entry} → Both x f y g b c s image ready vs book ready us log
      → show_of x s.machine ≡ Ok None → show_of y s.machine ≡ Ok None
      → Finished x f b.machine s.machine vs book × Finished y g c.machine s.machine us log
  both_finished both p q =
      (finished x f b fine typed (one_as_if_alone both) p, finished y g c also (typed_there_too both) (other_as_if_alone both) q)

-- ---- which calls leave X and F alone: pulses whose target has neither, or that raise neither search nor complement; steps of jobs that work on
-- neither; answers and whole rounds over other bits; and every call that lends by & only or lends the panel alone (`Looks`)

pub pulse_with_other_target : (x f : ResponseBit) (m : Machine) (p : Panel) (l : Lines) → pulse_check m p l ≡ Ok tt → Fit x f → bit p.target x.0 ≡ 0
    → bit p.target f.0 ≡ 0 → Leaves x f m (after m p l)
pulse_with_other_target = target_spares

pub pulse_without_target : (x f : ResponseBit) (m : Machine) (p : Panel) (l : Lines) → pulse_check m p l ≡ Ok tt → l.search ≡ false → l.complement ≡ false
    → Leaves x f m (after m p l)
pulse_without_target = lines_spare

pub step_with_other_bits : (x f : ResponseBit) → Fit x f → (s : State) (o : Job) → s.held ≡ Some o → Apart o x → Apart o f → {k : Command} {c : ℕ} {h : Held}
    → step_of s.machine s.held ≡ Ok (record { command = k; count = c; held = h }) → Leaves x f s.machine (after_step s.machine s.held)
unfolding stepped
step_with_other_bits = step_spares

pub answer_over_other_bits : (x f : ResponseBit) → Fit x f → (y g : ResponseBit) → Beside y g x → Beside y g f → (m : Machine) (k : WordSlice) (v : Verdict)
    → reply_of y g k m ≡ Ok tt → Leaves x f m (after_answer y g k v m)
answer_over_other_bits = answer_spares

pub round_over_other_bits : (x f : ResponseBit) → Fit x f → (y g : ResponseBit) → Beside y g x → Beside y g f → (m : Machine) (vs : List ℕ) {done faulty : ℕ}
    → report_of y g vs m ≡ Ok (record { done = done; faulty = faulty }) → Leaves x f m (after_round y g vs m)
round_over_other_bits = round_spares

-- show, resolution, total, start, writing and the loads
pub calls_that_only_look : (x f : ResponseBit) {s t : State} → Looks s t → Leaves x f s.machine t.machine
calls_that_only_look = looks_leave
