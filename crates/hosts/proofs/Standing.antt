-- A round over stops: what stands after any events. Document 01, 'The hand-out round'.
-- The argument: the machine's X and F bits are those that the stored answers, and the one not stored, make of the first image's, and the last stored
-- image has those of the stored answers.
use Prim.Native.Nat.{ℕ}
use mathlib.Core.Path.{◌≡◌, refl, sym, ap, ◌∙◌}
use mathlib.Core.List.{List, [], ◌∷◌, ◌++◌, append-nil}
use native.Mathlib.Omega.{arith}
use lib.ListN.{length, length-set}
use Rattle.std.specs.Prelude.{Option, Some, None, Ok, Err}
use Rattle.machine.specs.declared.WordSlice.{WordSlice}
use Rattle.machine.specs.declared.ResponseBit.{ResponseBit}
use Rattle.machine.specs.declared.Refusal.{Refusal}
use Rattle.machine.specs.declared.Refusal.TheVariants.{Size, Width}
use Rattle.machine.specs.Machine.{Machine, machine}
use Rattle.machine.specs.Refusals.{bad_size, bad_width, too_wide, ◌else◌, refuse, refuse_word, machine_check, answer_by, Check}
use Rattle.machine.specs.Resolution.{lowest}
use Rattle.rounds.specs.declared.Verdict.{Verdict}
use Rattle.rounds.specs.Round.{round_check, shown, show_check, show_of, answered_at, reply_of, after_answer}
use Rattle.rounds.specs.Handout.{response, Answers, none_yet, one_more}
use Rattle.rounds.proofs.Passing.{round_fits}
use Rattle.rounds.specs.Round.{Fit}
use Rattle.rounds.proofs.Handout.{refused_nothing}
use Rattle.jobs.specs.Runs.{State}
use Rattle.image_layout.specs.Format.{image_of}
use Rattle.image.specs.Calls.{Stored}
use Rattle.hosts.specs.Images.{Stores, Resumes}
use Rattle.hosts.specs.Rounds as events
use Rattle.hosts.specs.Rounds.{Other, Leaves, Given, verdicts_of, Phase, ready, showing, answered, pending, settled, Entry, Own, Hosted}
use Rattle.hosts.proofs.Images.{job_check, stored_image, resumed_machine}
use Rattle.hosts.specs.Images.{Typed}
use Rattle.hosts.proofs.Shadow.{shadow, shadow_shown, shadow_left, shadow_taken, shadow_after}
use Rattle.hosts.proofs.Elsewhere.{set_responses, answered_fits, answered_machine}
use Rattle.hosts.proofs.Leaving.{other_passes, other_typed}
use Rattle.hosts.proofs.Staying.{other_job}

-- ---- checks taken apart

pub shown_by : (c : Check) (w : Option WordSlice) (k : WordSlice) → answer_by c w ≡ Ok (Some k) → (c ≡ Ok tt) × (w ≡ Some k)
shown_by (Ok tt) (Some j) k h = (refl, cc)
shown_by (Ok tt) None k h = (refl, cc)
shown_by (Err r) w k h = (cc, cc)

pub none_by : (c : Check) (w : Option WordSlice) → answer_by c w ≡ Ok None → w ≡ None
none_by (Ok tt) (Some j) h = cc
none_by (Ok tt) None h = refl
none_by (Err r) w h = cc

same_word : (k j : ℕ) → showing k ≡ showing j → k ≡ j
same_word k j e = cc

-- one answer more
verdicts_one : (vs : List Given) (a : Given) → verdicts_of (vs ++ (a ∷ [])) ≡ verdicts_of (vs ++ []) ++ (a.verdict ∷ [])
verdicts_one [] a = refl
verdicts_one (g ∷ vs) a = ap (λ (us : List Verdict). g.verdict ∷ us) (verdicts_one vs a)

-- ---- an answer keeps what the checks look at, and responses

same_machine : (n : ℕ) (ws rs qs : List ℕ) → length qs ≡ length rs → machine_check (machine n ws qs) ≡ machine_check (machine n ws rs)
unfolding machine_check
same_machine n ws rs qs e =
    ap (λ (k : ℕ). refuse Size (bad_size (length ws) k) else refuse Width (bad_width n) else refuse_word (lowest (too_wide n) 0 ws)) e

module _ (x f : ResponseBit) (b : State) (fine : round_check x f b.machine ≡ Ok tt) (typed : Typed b) where
  pub fit : Fit x f
  fit = round_fits x f b.machine fine

  -- the machine's X and F bits alone
  abbrev pub shade : Machine → Machine
  shade m = shadow x f fit b.machine m

  -- ---- what every course of events keeps

  pub record Kept (image : List ℕ) (vs : List Given) : Type 0 where
    pub state : State
    pub is : image ≡ image_of state
    pub stored : Stored state
    pub size : length state.machine.responses ≡ length b.machine.responses
    pub trail : Answers x f (shade b.machine) (verdicts_of vs) (shade state.machine)

  pub record Standing (s : State) (image : List ℕ) (phase : Phase) (vs : List Given) : Type 0 where
    pub passes : machine_check s.machine ≡ Ok tt
    pub kinds : Typed s
    pub job : job_check s.machine.width s.held ≡ Ok tt
    pub size : length s.machine.responses ≡ length b.machine.responses
    pub trail : Answers x f (shade b.machine) (verdicts_of (vs ++ pending phase)) (shade s.machine)
    pub kept : Kept image vs
    pub word : (k : ℕ) → phase ≡ showing k → shown x s.machine ≡ Some (record { 0 = k })

  opened : {output : List ℕ} (image : List ℕ) → Stores output b image → Standing b image ready []
  opened image w =
      let p = stored_image typed w in
      record {
        passes = p.0.machine;
        kinds = typed;
        job = p.0.jobs;
        size = refl;
        trail = none_yet;
        kept = record { state = b; is = p.1; stored = p.0; size = refl; trail = none_yet };
        word = λ k e. absurd (let z : ◌≡◌ {A = ℕ} 0 1 = cc in omega arith);
      }

  -- a show where no answer waits to be stored
  show_word : (s : State) (image : List ℕ) (vs : List Given) (phase : Phase) → pending phase ≡ [] → (k : WordSlice) → Standing s image phase vs
      → show_of x s.machine ≡ Ok (Some k) → Standing s image (showing k.0) vs
  unfolding show_of
  show_word s image vs phase none k w h =
      let p = shown_by (show_check x s.machine) (shown x s.machine) k h in
      record {
        passes = w.passes;
        kinds = w.kinds;
        job = w.job;
        size = w.size;
        trail = rw none at w.trail;
        kept = w.kept;
        word = λ j e. p.1 ∙ ap (λ (i : ℕ). Some (record { 0 = i })) (same_word k.0 j e);
      }

  after_answer_lem : State → WordSlice → Verdict → State
  after_answer_lem s k v = record { machine = after_answer x f k v s.machine; held = s.held }

  answer_word : (s : State) (image : List ℕ) (j : ℕ) (vs : List Given) (k : WordSlice) (v : Verdict) → Standing s image (showing j) vs
      → reply_of x f k s.machine ≡ Ok tt → Standing (after_answer_lem s k v) image (answered (record { word = k.0; verdict = v })) vs
  unfolding reply_of after_answer_lem
  answer_word s image j vs k v w h =
      let m = s.machine in
      let e : after_answer x f k v m ≡ answered_at x f k v m = answered_machine x f m k v h in
      let one = one_more k v w.trail (shadow_taken x f fit b.machine fine m w.size k h) in
      record {
        passes = ap machine_check e ∙ same_machine m.width m.words m.responses _ (length-set m.responses k.0 _) ∙ w.passes;
        kinds = record {
          responses = rw e (set_responses m.responses k.0 _ w.kinds.responses (answered_fits x f v (response m k.0)));
          job = w.kinds.job;
        };
        job = rw e w.job;
        size = ap (λ (z : Machine). length z.responses) e ∙ length-set m.responses k.0 _ ∙ w.size;
        trail = rw (shadow_after x f fit b.machine fine m w.size k h v, verdicts_one vs (record { word = k.0; verdict = v })) one;
        kept = w.kept;
        word = λ i q. absurd (let z : ◌≡◌ {A = ℕ} 0 1 = cc in omega arith);
      }

  -- nothing changes
  refuse_word_lem : (s : State) (image : List ℕ) (phase : Phase) (vs : List Given) (k : WordSlice) (v : Verdict) (r : Refusal) → Standing s image phase vs
      → reply_of x f k s.machine ≡ Err r → Standing (after_answer_lem s k v) image phase vs
  unfolding reply_of after_answer_lem
  refuse_word_lem s image phase vs k v r w h =
      let e : after_answer_lem s k v ≡ s =
      ap (λ (z : Machine). record { machine = z; held = s.held }) (refused_nothing x f k v s.machine r h) in
      rw e w

  store_word : (s : State) {output : List ℕ} (image new : List ℕ) (phase : Phase) (vs : List Given) → Standing s image phase vs → Stores output s new
      → Standing s new (settled phase) (vs ++ pending phase)
  store_word s image new phase vs w h =
      let p = stored_image w.kinds h in
      record {
        passes = w.passes;
        kinds = w.kinds;
        job = w.job;
        size = w.size;
        trail = rw (nothing_pending phase, append-nil (vs ++ pending phase)) w.trail;
        kept = record { state = s; is = p.1; stored = p.0; size = w.size; trail = w.trail };
        word = λ k e. w.word k (still_shown phase k e);
      }
    where
      nothing_pending : (phase : Phase) → pending (settled phase) ≡ []
      nothing_pending ready = refl
      nothing_pending (showing k) = refl
      nothing_pending (answered v) = refl

      still_shown : (phase : Phase) (k : ℕ) → settled phase ≡ showing k → phase ≡ showing k
      still_shown ready k e = e
      still_shown (showing j) k e = e
      still_shown (answered v) k e = cc

  stop_word : (s t : State) {words responses : List ℕ} (image : List ℕ) (phase : Phase) (vs : List Given) → Standing s image phase vs
      → Resumes words responses image t → Standing t image ready vs
  stop_word s t image phase vs w r =
      let i = w.kept in
      let e : t ≡ i.state = resumed_machine i.state i.stored (rw i.is at r) in
      rw e (record {
        passes = i.stored.machine;
        kinds = record { responses = i.stored.responses; job = i.stored.typed };
        job = i.stored.jobs;
        size = i.size;
        trail = rw (append-nil vs) i.trail;
        kept = w.kept;
        word = λ k q. absurd (let z : ◌≡◌ {A = ℕ} 0 1 = cc in omega arith);
      })

  other_word : (s t : State) (image : List ℕ) (phase : Phase) (vs : List Given) → Standing s image phase vs → Other s t
      → Leaves x f s.machine t.machine → Standing t image phase vs
  other_word s t image phase vs w o l =
      let e = shadow_left x f fit b.machine s.machine t.machine l in
      record {
        passes = other_passes o w.passes;
        kinds = other_typed o w.kinds;
        job = other_job o w.kinds w.job;
        size = l.count ∙ w.size;
        trail = rw e w.trail;
        kept = w.kept;
        word = λ k q.
            sym (shadow_shown x f fit b.machine t.machine) ∙ ap (shown x) e ∙ shadow_shown x f fit b.machine s.machine ∙ w.word k q;
      }

  own_word : {s t : State} {image : List ℕ} {phase next : Phase} {vs : List Given} {book new : List Entry} → Own x f vs s phase book t next new
      → Standing s image phase vs → Standing t image next vs
  unfolding after_answer_lem
  own_word {image = image} {vs = vs} (events.shows {s} {k = k} e) w = show_word s image vs ready refl k w e
  own_word {image = image} {vs = vs} (events.asks {s} {j = j} {k = k} e) w = show_word s image vs (showing j) refl k w e
  own_word {image = image} {vs = vs} (events.answers {s} {j = j} k v e) w = answer_word s image j vs k v w e
  own_word {image = image} {vs = vs} (events.refused {s} {phase = phase} {r = r} k v e) w = refuse_word_lem s image phase vs k v r w e

  pub standing : {s : State} {image : List ℕ} {phase : Phase} {vs : List Given} {book : List Entry} → Hosted x f b s image phase vs book
      → Standing s image phase vs
  standing (events.opens w) = opened _ w
  standing (events.owns h o) = own_word o (standing h)
  standing (events.stores {s} {image = image} {phase = phase} h w) = store_word s image _ phase _ (standing h) w
  standing (events.stops {s} {t} {image = image} {phase = phase} h r) = stop_word s t image phase _ (standing h) r
  standing (events.others {s} {t} {image = image} {phase = phase} h o l) = other_word s t image phase _ (standing h) o l
