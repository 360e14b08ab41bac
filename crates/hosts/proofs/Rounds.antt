-- A round over stops: the next responder is shown, and its answer taken; the round ends after as many answers as there were responders, and never
-- sticks. Document 01, 'The hand-out round'.
use Prim.Native.Nat.{ℕ, ◌≤◌, ◌<◌}
use mathlib.Core.Path.{◌≡◌, refl, sym, ap, ap₂, ◌∙◌}
use mathlib.Core.List.{List, [], ◌++◌, append-nil}
use native.Mathlib.Omega.{arith}
use lib.ListN.{length, get_or, drop, length-map}
use borrow.Author.Tests.{lt-leb}
use Rattle.std.specs.Prelude.{Some, None, Ok}
use Rattle.laws.specs.Bits.{bit}
use Rattle.machine.specs.declared.WordSlice.{WordSlice}
use Rattle.machine.specs.declared.ResponseBit.{ResponseBit}
use Rattle.machine.proofs.Refusals.{sound}
use Rattle.machine.specs.Machine.{response_bits}
use Rattle.machine.specs.Refusals.{answer_by}
use Rattle.rounds.specs.declared.Verdict.TheVariants.{Done, Faulty}
use Rattle.rounds.specs.Round.{round_check, shown, show_check, show_of, reply_of}
use Rattle.rounds.specs.Handout.{responders, responder, response, NotAmong, first_of}
use Rattle.rounds.proofs.Passing.{round_parts, acceptable, accepted}
use Rattle.rounds.specs.Round.{Fit}
use Rattle.rounds.proofs.Responders.{first_of_rest}
use Rattle.rounds.proofs.Handout.{HandedOut, handed_out}
use Rattle.jobs.specs.Runs.{State}
use Rattle.ends.proofs.Machines.{same}
use Rattle.image_layout.specs.Format.{image_of}
use Rattle.hosts.specs.Images.{Stores, Resumes}
use Rattle.hosts.specs.Rounds.{Responder, lower, Given, verdicts_of, Phase, ready, showing, pending, Entry, Hosted}
use Rattle.hosts.proofs.Images.{can_store, can_resume}
use Rattle.hosts.specs.Images.{Typed}
use Rattle.hosts.proofs.Shadow.{shadow_responders, shadow_shown, shadow_fault}
use Rattle.hosts.proofs.Counting.{responder_at, responder_is, first_left, none_left, left_none}
use Rattle.hosts.proofs.Standing.{none_by, fit, shade, Kept, Standing, standing}

pub one_word : (k j : WordSlice) → Some k ≡ Some j → k.0 ≡ j.0
one_word k j e = cc

module _ (x f : ResponseBit) (b : State) (fine : round_check x f b.machine ≡ Ok tt) (typed : Typed b) where
  abbrev Stands : State → List ℕ → Phase → List Given → Type 0
  Stands s image phase vs = Standing x f b fine typed s image phase vs

  round_fit : Fit x f
  round_fit = fit x f b fine typed

  -- show is not turned down
  show_accepted : {s : State} {image : List ℕ} {phase : Phase} {vs : List Given} → Stands s image phase vs → show_check x s.machine ≡ Ok tt
  unfolding show_check
  show_accepted w = rw (w.passes, lt-leb response_bits x.0 round_fit.mark)

  -- what the answers given make of the first image's marks
  module _ {s : State} {image : List ℕ} {phase : Phase} {vs : List Given} (w : Stands s image phase vs) where
    out : HandedOut x f (verdicts_of (vs ++ pending phase)) (shade x f b fine typed b.machine) (shade x f b fine typed s.machine)
    out = handed_out w.trail

    next_shown : shown x s.machine ≡ first_of (drop (length (vs ++ pending phase)) (responders x b.machine))
    next_shown =
        sym (shadow_shown x f round_fit b.machine s.machine) ∙ out.next
        ∙ ap (λ (i : ℕ). first_of (drop i (responders x (shade x f b fine typed b.machine)))) (length-map (vs ++ pending phase) (λ (a : Given). a.verdict))
        ∙ ap (λ (ks : List ℕ). first_of (drop (length (vs ++ pending phase)) ks)) (shadow_responders x f round_fit b.machine b.machine)

    enough : length (vs ++ pending phase) ≤ length (responders x b.machine)
    enough = rw (shadow_responders x f round_fit b.machine b.machine, length-map (vs ++ pending phase) (λ (a : Given). a.verdict)) at out.enough

    responder_shade : (i : ℕ) → responder x (shade x f b fine typed b.machine) i ≡ responder x b.machine i
    responder_shade i = ap (λ (ks : List ℕ). get_or ks i 0) (shadow_responders x f round_fit b.machine b.machine)

    fault_now : (i : ℕ) → bit (response (shade x f b fine typed s.machine) (responder x (shade x f b fine typed b.machine) i)) f.0
        ≡ bit (response s.machine (responder x b.machine i)) f.0
    fault_now i =
        shadow_fault x f round_fit b.machine s.machine (responder x (shade x f b fine typed b.machine) i)
        ∙ ap (λ (k : ℕ). bit (response s.machine k) f.0) (responder_shade i)

    fault_first : (i : ℕ) → bit (response (shade x f b fine typed b.machine) (responder x (shade x f b fine typed b.machine) i)) f.0
        ≡ bit (response b.machine (responder x b.machine i)) f.0
    fault_first i =
        shadow_fault x f round_fit b.machine b.machine (responder x (shade x f b fine typed b.machine) i)
        ∙ ap (λ (k : ℕ). bit (response b.machine k) f.0) (responder_shade i)

  -- ---- a word that is shown

  pub shown_turn : {s : State} {image : List ℕ} {k : ℕ} {vs : List Given} → Stands s image (showing k) vs
      → (length vs < length (responders x b.machine)) × (responder x b.machine (length vs) ≡ k)
  shown_turn {s} {image} {k} {vs} w =
      let p = first_of_rest (record { 0 = k }) (length (vs ++ [])) (responders x b.machine) (sym (next_shown w) ∙ w.word k refl) in
      rw (append-nil vs) at p

  pub was_next : {s : State} {image : List ℕ} {k : ℕ} {vs : List Given} {book : List Entry} → Hosted x f b s image (showing k) vs book
      → Responder x b.machine k × (lower x b.machine k ≡ length vs)
  was_next {s} {image} {k} {vs} h =
      let p = shown_turn (standing x f b fine typed h) in
      let q = responder_at x b.machine (length vs) p.0 in
      rw p.1 at q

  -- ---- ready to show

  module _ {s : State} {image : List ℕ} {vs : List Given} {book : List Entry} (h : Hosted x f b s image ready vs book) where
    stands : Stands s image ready vs
    stands = standing x f b fine typed h

    counted : length (vs ++ []) ≡ length vs
    counted = ap length (append-nil vs)

    judged : length (verdicts_of (vs ++ [])) ≡ length vs
    judged = length-map (vs ++ []) (λ (a : Given). a.verdict) ∙ counted

    to_show : shown x s.machine ≡ first_of (drop (length vs) (responders x b.machine))
    to_show = next_shown stands ∙ ap (λ (i : ℕ). first_of (drop i (responders x b.machine))) counted

    pub is_next : (k : ℕ) → Responder x b.machine k → lower x b.machine k ≡ length vs → show_of x s.machine ≡ Ok (Some (record { 0 = k }))
    unfolding show_of
    is_next k r e =
        let p = responder_is x b.machine k r in
        let l : length vs < length (responders x b.machine) = omega (arith, p.0, e) in
        let i : responder x b.machine (length vs) ≡ k = ap (responder x b.machine) (sym e) ∙ p.1 in
        ap₂ answer_by (show_accepted stands)
        (to_show ∙ first_left (responders x b.machine) (length vs) l ∙ ap (λ (j : ℕ). Some (record { 0 = j })) i)

    -- the round ends after as many stored answers as there were responders, and not before
    pub ends : show_of x s.machine ≡ Ok None → length vs ≡ length (responders x b.machine)
    unfolding show_of
    ends e =
        let n = none_left (responders x b.machine) (length vs) (sym to_show ∙ none_by (show_check x s.machine) (shown x s.machine) e) in
        let l = enough stands in
        omega (arith, n, l, counted)

    pub over : length vs ≡ length (responders x b.machine) → show_of x s.machine ≡ Ok None
    unfolding show_of
    over e = ap₂ answer_by (show_accepted stands) (to_show ∙ left_none (responders x b.machine) (length vs) (omega (arith, e)))

    -- F: of those answered, and stored
    pub faulty_has : (i : ℕ) → i < length vs → get_or (verdicts_of vs) i Done ≡ Faulty → bit (response s.machine (responder x b.machine i)) f.0 ≡ 1
    faulty_has i l e =
        sym (fault_now stands i)
        ∙ (out stands).faulty_marked i (omega (arith, l, judged)) (ap (λ (us : List Given). get_or (verdicts_of us) i Done) (append-nil vs) ∙ e)

    pub done_has : (i : ℕ) → i < length vs → get_or (verdicts_of vs) i Done ≡ Done
        → bit (response s.machine (responder x b.machine i)) f.0 ≡ bit (response b.machine (responder x b.machine i)) f.0
    done_has i l e =
        sym (fault_now stands i)
        ∙ (out stands).done_unmarked i (omega (arith, l, judged)) (ap (λ (us : List Given). get_or (verdicts_of us) i Done) (append-nil vs) ∙ e)
        ∙ fault_first stands i

    pub others_have : (j : ℕ) → NotAmong (responders x b.machine) (length vs) j → bit (response s.machine j) f.0 ≡ bit (response b.machine j) f.0
    others_have j none =
        sym (shadow_fault x f round_fit b.machine s.machine j)
        ∙ ap (λ (r : ℕ). bit r f.0) ((out stands).other_words j (λ i l e. none i (omega (arith, l, judged)) (sym (responder_shade stands i) ∙ e)))
        ∙ shadow_fault x f round_fit b.machine b.machine j

  -- ---- never stuck

  bits_fine : {s : State} {image : List ℕ} {phase : Phase} {vs : List Given} → Stands s image phase vs → round_check x f s.machine ≡ Ok tt
  unfolding round_check
  bits_fine w = rw w.passes (round_parts x f b.machine fine).1

  -- the word that is shown can be answered, either way
  pub answerable : {s : State} {image : List ℕ} {k : ℕ} {vs : List Given} {book : List Entry} → Hosted x f b s image (showing k) vs book
      → reply_of x f (record { 0 = k }) s.machine ≡ Ok tt
  unfolding reply_of
  answerable {s} {image} {k} h =
      let w = standing x f b fine typed h in
      acceptable x f (record { 0 = k }) s.machine (bits_fine w) (w.word k refl)

  -- asked again, show gives that word again
  pub same_again : {s : State} {image : List ℕ} {k : ℕ} {vs : List Given} {book : List Entry} → Hosted x f b s image (showing k) vs book
      → show_of x s.machine ≡ Ok (Some (record { 0 = k }))
  unfolding show_of
  same_again {k = k} h =
      let w = standing x f b fine typed h in
      ap₂ answer_by (show_accepted w) (w.word k refl)

  -- and no other word's answer is taken
  pub taken_is_shown : {s : State} {image : List ℕ} {j : ℕ} {vs : List Given} {book : List Entry} → Hosted x f b s image (showing j) vs book
      → (k : WordSlice) → reply_of x f k s.machine ≡ Ok tt → k.0 ≡ j
  unfolding reply_of
  taken_is_shown {s} {image} {j} h k e =
      let p = (accepted x f k s.machine e).word in
      one_word k (record { 0 = j }) (sym p ∙ (standing x f b fine typed h).word j refl)

  -- what stands can be stored in any output that is long enough
  pub storable_round : {s : State} {image : List ℕ} {phase : Phase} {vs : List Given} {book : List Entry} → Hosted x f b s image phase vs book
      → (output : List ℕ) → length (image_of s) ≤ length output → Stores output s (image_of s)
  storable_round {s} h =
      let w = standing x f b fine typed h in
      can_store s (record { machine = w.passes; jobs = w.job; responses = w.kinds.responses; typed = w.kinds.job })

  first_size : length b.machine.responses ≡ length b.machine.words
  first_size = same b.machine (sound b.machine (round_parts x f b.machine fine).0)

  from_kept : {image : List ℕ} {vs : List Given} → Kept x f b fine typed image vs
      → (words responses : List ℕ) → length b.machine.words ≤ length words → length b.machine.words ≤ length responses
      → (t : State) × Resumes words responses image t
  from_kept i words responses l g =
      let e = same i.state.machine (sound i.state.machine i.stored.machine) in
      let n : length i.state.machine.words ≡ length b.machine.words = sym e ∙ i.size ∙ first_size in
      (i.state, rw i.is (can_resume i.state i.stored words responses (omega (arith, l, n)) (omega (arith, g, n))))

  -- the last stored image can be resumed, into any destinations that are long enough
  pub resumable : {s : State} {image : List ℕ} {phase : Phase} {vs : List Given} {book : List Entry} → Hosted x f b s image phase vs book
      → (words responses : List ℕ) → length b.machine.words ≤ length words → length b.machine.words ≤ length responses
      → (t : State) × Resumes words responses image t
  resumable h words responses l g = from_kept (standing x f b fine typed h).kept words responses l g
