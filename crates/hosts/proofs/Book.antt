-- The book of a round over stops: each responder is shown in its turn, none is skipped, each stop repeats at most one; each has one stored answer.
-- Document 01, 'The hand-out round'.
use Prim.Native.Nat.{ℕ, zero, suc, ◌+◌, ◌≤◌, ◌<◌}
use mathlib.Core.Path.{◌≡◌, refl, sym, ap, ap₂, ◌∙◌}
use mathlib.Core.Logic.{◌⊎◌, inl, inr, ⊎_elim}
use mathlib.Core.List.{List, [], ◌∷◌, ◌++◌, append-nil}
use native.Mathlib.Omega.{arith}
use lib.ListN.{length, get_or, take, drop, length-append}
use Rattle.std.specs.Prelude.{None, Ok}
use Rattle.laws.proofs.Digits.{tri}
use Rattle.machine.specs.declared.ResponseBit.{ResponseBit}
use Rattle.machine.specs.Machine.{Machine}
use Rattle.rounds.specs.Round.{round_check, shown, show_check, show_of}
use Rattle.rounds.specs.Handout.{responders, responder}
use Rattle.rounds.proofs.Responders.{first_lowest}
use Rattle.jobs.specs.Runs.{State}
use Rattle.hosts.specs.Rounds as events
use Rattle.hosts.specs.Rounds.{Responder, lower, Given, words_of, Phase, ready, showing, answered, pending, settled, Entry, Own, Hosted, Last, Again, Orderly, Shown, Finished}
use Rattle.hosts.specs.Images.{Typed}
use Rattle.hosts.proofs.Counting.{responder_at, responder_is, none_left}
use Rattle.hosts.proofs.Standing.{shown_by, none_by, standing}
use Rattle.hosts.proofs.Rounds.{one_word, shown_turn, taken_is_shown, ends, faulty_has, done_has, others_have}

-- ---- of a book in order

-- every responder with fewer lower ones than were shown stands in it, after as many stored answers
shown_in : (x : ResponseBit) (m : Machine) {book : List Entry} {many : ℕ} → Orderly x m book many → (k : ℕ) → Responder x m k → lower x m k < many
    → Shown k (lower x m k) book
shown_in x m events.nothing_yet k r l = absurd (omega arith)
shown_in x m (events.next {book} {many} {k = j} o q e) k r l = ⊎_elim (λ g. events.before (shown_in x m o k r g)) (⊎_elim here (λ g. absurd (omega arith))) (tri (lower x m k) many)
  where
    here : lower x m k ≡ many → Shown k (lower x m k) (events.shown j many ∷ book)
    here g =
        let i : j ≡ k = sym (responder_is x m j q).1 ∙ ap (responder x m) (e ∙ sym g) ∙ (responder_is x m k r).1 in
        rw (i, g) events.last
shown_in x m (events.again o a) k r l = events.before (shown_in x m o k r l)
shown_in x m (events.asking o a) k r l = events.before (shown_in x m o k r l)
shown_in x m (events.stop o) k r l = events.before (shown_in x m o k r l)

-- what was shown last stands in it
last_in : {k n : ℕ} {book : List Entry} → Last k n book → Shown k n book
last_in events.just_shown = events.last
last_in (events.asked_since l) = events.last_asked

again_in : {k n : ℕ} {book : List Entry} → Again k n book → Shown k n book
again_in (events.stopped_once l) = events.before (last_in l)
again_in (events.stopped_more a) = events.before (again_in a)

-- whatever stands in it is a responder, shown after as many stored answers as it has lower ones
in_turn : (x : ResponseBit) (m : Machine) {book : List Entry} {many : ℕ} → Orderly x m book many → (k n : ℕ) → Shown k n book
    → Responder x m k × (lower x m k ≡ n)
in_turn x m events.nothing_yet k n s = elim s [ ]
in_turn x m (events.next o r e) k n events.last = (r, e)
in_turn x m (events.next o r e) k n (events.before s) = in_turn x m o k n s
in_turn x m (events.again o a) k n events.last = in_turn x m o k n (again_in a)
in_turn x m (events.again o a) k n (events.before s) = in_turn x m o k n s
in_turn x m (events.asking o l) k n events.last_asked = in_turn x m o k n (last_in l)
in_turn x m (events.asking o l) k n (events.before s) = in_turn x m o k n s
in_turn x m (events.stop o) k n (events.before s) = in_turn x m o k n s

settled_none : (phase : Phase) → pending (settled phase) ≡ []
settled_none ready = refl
settled_none (showing k) = refl
settled_none (answered a) = refl

take_all : (ks : List ℕ) (n : ℕ) → length ks ≤ n → take n ks ≡ ks
take_all [] zero h = refl
take_all [] (suc n) h = refl
take_all (k ∷ ks) zero h = absurd (omega arith)
take_all (k ∷ ks) (suc n) h = ap (λ (js : List ℕ). k ∷ js) (take_all ks n (omega arith))

module _ (x f : ResponseBit) (b : State) (fine : round_check x f b.machine ≡ Ok tt) (typed : Typed b) where
  -- ---- the book

  -- word k is in hand: shown last, and not stored; and, after a stop, to be shown again
  record InHand (k : ℕ) (vs : List Given) (book : List Entry) : Type 0 where
    pub orderly : Orderly x b.machine book (suc (length vs))
    pub top : Last k (length vs) book
    pub turn : responder x b.machine (length vs) ≡ k

  record Lost (k : ℕ) (vs : List Given) (book : List Entry) : Type 0 where
    pub orderly : Orderly x b.machine book (suc (length vs))
    pub due : Again k (length vs) book
    pub turn : responder x b.machine (length vs) ≡ k

  Booked : Phase → List Given → List Entry → Type 0
  Booked ready vs book = Orderly x b.machine book (length vs) ⊎ ((k : ℕ) × Lost k vs book)
  Booked (showing k) vs book = InHand k vs book
  Booked (answered v) vs book = (k : ℕ) × InHand k vs book

  book_show : (k : ℕ) (vs : List Given) (book : List Entry) → length vs < length (responders x b.machine) → responder x b.machine (length vs) ≡ k
      → Booked ready vs book → InHand k vs (events.shown k (length vs) ∷ book)
  unfolding Booked
  book_show k vs book l e (inl o) =
      let r = responder_at x b.machine (length vs) l in
      record { orderly = events.next o (rw e at r.0) (rw e at r.1); top = events.just_shown; turn = e }
  book_show k vs book l e (inr (j, p)) =
      let q : j ≡ k = sym p.turn ∙ e in
      record { orderly = events.again p.orderly (rw q at p.due); top = events.just_shown; turn = e }

  book_ask : (k : ℕ) (vs : List Given) (book : List Entry) → InHand k vs book → InHand k vs (events.asked k (length vs) ∷ book)
  book_ask k vs book h = record { orderly = events.asking h.orderly h.top; top = events.asked_since h.top; turn = h.turn }

  book_store : (phase : Phase) (vs : List Given) (book : List Entry) → Booked phase vs book → Booked (settled phase) (vs ++ pending phase) book
  unfolding Booked
  book_store ready vs book h = rw (append-nil vs) h
  book_store (showing k) vs book h = rw (append-nil vs) h
  book_store (answered v) vs book (k, h) =
      let n : length (vs ++ (v ∷ [])) ≡ suc (length vs) = length-append vs (v ∷ []) ∙ omega arith in inl (rw n h.orderly)

  hand_lost : (k : ℕ) (vs : List Given) (book : List Entry) → InHand k vs book → Lost k vs (events.stopped ∷ book)
  hand_lost k vs book h =
      record { orderly = events.stop h.orderly; due = events.stopped_once h.top; turn = h.turn }

  book_stop : (phase : Phase) (vs : List Given) (book : List Entry) → Booked phase vs book → Booked ready vs (events.stopped ∷ book)
  unfolding Booked
  book_stop ready vs book (inl o) = inl (events.stop o)
  book_stop ready vs book (inr (k, p)) = inr (k, record { orderly = events.stop p.orderly; due = events.stopped_more p.due; turn = p.turn })
  book_stop (showing k) vs book h = inr (k, hand_lost k vs book h)
  book_stop (answered v) vs book (k, h) = inr (k, hand_lost k vs book h)

  -- the call's own entry
  book_own : {s t : State} {image : List ℕ} {phase next : Phase} {vs : List Given} {book new : List Entry} → Hosted x f b s image phase vs book
      → Own x f vs s phase book t next new → Booked phase vs book → Booked next vs new
  unfolding Booked show_of
  book_own {vs = vs} {book = book} h (events.shows {k = k} e) c =
      let p = shown_turn x f b fine typed (standing x f b fine typed (events.owns h (events.shows {k = k} e))) in
      book_show k.0 vs book p.0 p.1 c
  book_own {s = s} {vs = vs} {book = book} h (events.asks {j = j} {k = k} e) c =
      let p = (shown_by (show_check x s.machine) (shown x s.machine) k e).1 in
      let i : k.0 ≡ j = one_word k (record { 0 = j }) (sym p ∙ (standing x f b fine typed h).word j refl) in
      rw i (book_ask j vs book c)
  book_own h (events.answers {j = j} k v e) c = (j, c)
  book_own h (events.refused k v e) c = c

  booked : {s : State} {image : List ℕ} {phase : Phase} {vs : List Given} {book : List Entry} → Hosted x f b s image phase vs book → Booked phase vs book
  unfolding Booked
  booked (events.opens w) = inl events.nothing_yet
  booked (events.owns h o) = book_own h o (booked h)
  booked (events.stores {phase = phase} {vs} {book} h w) = book_store phase vs book (booked h)
  booked (events.stops {phase = phase} {vs} {book} h r) = book_stop phase vs book (booked h)
  booked (events.others h o l) = booked h

  -- each word shown was the next responder, or the last one again after a stop: as many have been shown as answers are stored, or one more
  pub in_order : {s : State} {image : List ℕ} {phase : Phase} {vs : List Given} {book : List Entry} → Hosted x f b s image phase vs book
      → (many : ℕ) × ((length vs ≤ many) × (many ≤ length vs + 1) × Orderly x b.machine book many)
  unfolding Booked
  in_order {s} {image} {phase} {vs} {book} h = go phase (booked h)
    where
      one : Orderly x b.machine book (suc (length vs)) → (many : ℕ) × ((length vs ≤ many) × (many ≤ length vs + 1) × Orderly x b.machine book many)
      one o = (suc (length vs), (omega arith, omega arith, o))

      go : (phase : Phase) → Booked phase vs book → (many : ℕ) × ((length vs ≤ many) × (many ≤ length vs + 1) × Orderly x b.machine book many)
      go ready (inl o) = (length vs, (omega arith, omega arith, o))
      go ready (inr (k, p)) = one p.orderly
      go (showing k) p = one p.orderly
      go (answered v) (k, p) = one p.orderly

  -- none is skipped
  pub none_skipped : {s : State} {image : List ℕ} {phase : Phase} {vs : List Given} {book : List Entry} → Hosted x f b s image phase vs book
      → (k : ℕ) → Responder x b.machine k → lower x b.machine k < length vs → Shown k (lower x b.machine k) book
  none_skipped h k r l = let o = in_order h in shown_in x b.machine o.1.2 k r (omega (arith, l, o.1.0))

  -- whatever stands in the book was a responder, shown after as many stored answers as it has lower ones
  pub each_in_turn : {s : State} {image : List ℕ} {phase : Phase} {vs : List Given} {book : List Entry} → Hosted x f b s image phase vs book
      → (k n : ℕ) → Shown k n book → Responder x b.machine k × (lower x b.machine k ≡ n)
  each_in_turn h k n s = let o = in_order h in in_turn x b.machine o.1.2 k n s

  -- ---- the words answered

  -- these answers are the first responders', in rising order, one each
  InTurn : List Given → Type 0
  InTurn vs = words_of vs ≡ take (length vs) (responders x b.machine)

  one_more_word : (vs : List Given) (ks : List ℕ) (a : Given) → words_of vs ≡ take (length vs) ks → length vs < length ks → a.word ≡ get_or ks (length vs) 0
      → words_of (vs ++ (a ∷ [])) ≡ take (length (vs ++ (a ∷ []))) ks
  one_more_word [] [] a h l e = absurd (omega arith)
  one_more_word [] (k ∷ ks) a h l e = ap (λ (j : ℕ). j ∷ []) e
  one_more_word (g ∷ vs) [] a h l e = absurd (omega arith)
  one_more_word (g ∷ vs) (k ∷ ks) a h l e =
      ap₂ (λ (j : ℕ) (js : List ℕ). j ∷ js) (ap (λ (js : List ℕ). get_or js 0 0) h) (one_more_word vs ks a (ap (drop 1) h) (omega arith) e)

  turn_own : {s t : State} {image : List ℕ} {phase next : Phase} {vs : List Given} {book new : List Entry} → Hosted x f b s image phase vs book
      → Own x f vs s phase book t next new → InTurn vs → InTurn (vs ++ pending phase) → InTurn (vs ++ pending next)
  unfolding InTurn
  turn_own h (events.shows e) p q = q
  turn_own h (events.asks e) p q = q
  turn_own {vs = vs} h (events.answers {j = j} k v e) p q =
      let w = shown_turn x f b fine typed (standing x f b fine typed h) in
      one_more_word vs (responders x b.machine) (record { word = k.0; verdict = v }) p w.0 (taken_is_shown x f b fine typed h k e ∙ sym w.1)
  turn_own h (events.refused k v e) p q = q

  in_turns : {s : State} {image : List ℕ} {phase : Phase} {vs : List Given} {book : List Entry} → Hosted x f b s image phase vs book
      → InTurn vs × InTurn (vs ++ pending phase)
  unfolding InTurn
  in_turns (events.opens w) = (refl, refl)
  in_turns (events.owns h o) = let p = in_turns h in (p.0, turn_own h o p.0 p.1)
  in_turns (events.stores {phase = phase} {vs = vs} h w) =
      let p = in_turns h in (p.1, rw (settled_none phase, append-nil (vs ++ pending phase)) p.1)
  in_turns (events.stops {vs = vs} h r) = let p = in_turns h in (p.0, rw (append-nil vs) p.0)
  in_turns (events.others h o l) = in_turns h

  pub words_in_turn : {s : State} {image : List ℕ} {phase : Phase} {vs : List Given} {book : List Entry} → Hosted x f b s image phase vs book
      → words_of vs ≡ take (length vs) (responders x b.machine)
  unfolding InTurn
  words_in_turn h = (in_turns h).0

  -- ---- the end

  module _ {s : State} {image : List ℕ} {vs : List Given} {book : List Entry} (h : Hosted x f b s image ready vs book) (none : show_of x s.machine ≡ Ok None) where
    all_answered : length vs ≡ length (responders x b.machine)
    all_answered = ends x f b fine typed h none

    its_answer : (k : ℕ) → Responder x b.machine k → lower x b.machine k < length vs
    its_answer k r = let p = (responder_is x b.machine k r).0 in omega (arith, p, all_answered)

    -- a responder by its number among them
    numbered : (k : ℕ) → Responder x b.machine k → responder x b.machine (lower x b.machine k) ≡ k
    numbered k r = (responder_is x b.machine k r).1

    none_there : (k : ℕ) → Responder x s.machine k → ⊥
    unfolding show_of shown
    none_there k r =
        let e = none_by (show_check x s.machine) (shown x s.machine) none in
        let p = (responder_is x s.machine k r).0 in
        let z = none_left (responders x s.machine) 0 (sym (first_lowest x 0 s.machine.responses) ∙ e) in
        absurd (omega (arith, p, z))

    pub finished : Finished x f b.machine s.machine vs book
    finished = record {
      all_shown = λ k r. none_skipped h k r (its_answer k r);
      only_responders = λ k i t. each_in_turn h k i t;
      one_answer_each = words_in_turn h ∙ take_all (responders x b.machine) (length vs) (omega (arith, all_answered));
      faulty = λ k r e. rw (numbered k r) at (faulty_has x f b fine typed h (lower x b.machine k) (its_answer k r) e);
      done = λ k r e. rw (numbered k r) at (done_has x f b fine typed h (lower x b.machine k) (its_answer k r) e);
      elsewhere = λ k n. others_have x f b fine typed h k (λ i l e. n (rw e at (responder_at x b.machine i (omega (arith, l, all_answered))).0));
      none_left = none_there;
    }
