-- What every run of accepted answers keeps, answer by answer: the argument behind the theorem of Handout.
use Prim.Native.Nat.{ℕ, ◌+◌, ◌≤◌, ◌<◌}
use mathlib.Core.Path.{◌≡◌, refl, sym, ap, ap₂, ◌∙◌}
use mathlib.Core.Bool.{true, false}
use mathlib.Core.Logic.{⊎_elim}
use mathlib.Core.List.{List, [], ◌∷◌, ◌++◌}
use native.Mathlib.Omega.{arith}
use lib.ListN.{length, get_or, drop, length-append, length-set, get_or-append}
use lib.Seq.{drop-drop, get_or-set_same, get_or-set_other, get_or_at}
use Rattle.laws.specs.Bits.{bit}
use Rattle.laws.proofs.Digits.{tri}
use Rattle.machine.specs.declared.WordSlice.{WordSlice}
use Rattle.machine.specs.declared.ResponseBit.{ResponseBit}
use Rattle.machine.specs.Machine.{Machine, response_bits}
use Rattle.rounds.specs.declared.Verdict.{Verdict}
use Rattle.rounds.specs.declared.Verdict.TheVariants.{Done}
use Rattle.rounds.specs.Round.{has, shown, answered, answered_at, after_answer}
use Rattle.rounds.specs.Handout.{responders, responder, response, NotAmong, first_of, Answers, none_yet, one_more}
use Rattle.rounds.proofs.Passing.{Accepted, accepted}
use Rattle.rounds.specs.Round.{Fit}
use Rattle.rounds.proofs.Round.{lost, answered_else}
use Rattle.rounds.proofs.Responders.{first_lowest, first_off, first_of_rest}

pub record Kept (x f : ResponseBit) (vs : List Verdict) (m n : Machine) : Type 0 where
  pub enough : length vs ≤ length (responders x m)
  pub left : responders x n ≡ drop (length vs) (responders x m)
  pub judged : (i : ℕ) → i < length vs → response n (responder x m i) ≡ answered x f (get_or vs i Done) (response m (responder x m i))
  pub others : (j : ℕ) → NotAmong (responders x m) (length vs) j → response n j ≡ response m j
  pub kept : (j b : ℕ) → b < response_bits → (b ≡ x.0 → ⊥) → (b ≡ f.0 → ⊥) → bit (response n j) b ≡ bit (response m j) b
  pub fit : 0 < length vs → Fit x f
  pub width : n.width ≡ m.width
  pub words : n.words ≡ m.words
  pub as_many : length n.responses ≡ length m.responses

start : (x f : ResponseBit) (m : Machine) → Kept x f [] m m
start x f m = record {
  enough = omega arith;
  left = refl;
  judged = λ i l. absurd (omega arith);
  others = λ j h. refl;
  kept = λ j b h p q. refl;
  fit = λ l. absurd (omega arith);
  width = refl;
  words = refl;
  as_many = refl;
}

-- ---- one more answer: for word k, with the verdict v, from the machine n

module _ (x f : ResponseBit) (vs : List Verdict) (m n : Machine) (w : Kept x f vs m n) (k : WordSlice) (v : Verdict) (a : Accepted x f k n) where
  -- the word is responder `length vs`
  in_turn : (length vs < length (responders x m)) × (responder x m (length vs) ≡ k.0)
  unfolding shown
  in_turn = first_of_rest k (length vs) (responders x m) (sym (ap first_of w.left) ∙ sym (first_lowest x 0 n.responses) ∙ a.word)

  longer : length (vs ++ (v ∷ [])) ≡ length vs + 1
  longer = length-append vs (v ∷ [])

  -- no word answered earlier: those have lost X, and this one has it
  not_earlier : (i : ℕ) → i < length vs → responder x m i ≡ k.0 → ⊥
  not_earlier i l e =
      let off : has x (response n (responder x m i)) ≡ false =
      ap (has x) (w.judged i l) ∙ lost x f (get_or vs i Done) (response m (responder x m i)) a.fit in
      let on : has x (response n (responder x m i)) ≡ true = ap (λ (j : ℕ). has x (response n j)) e ∙ a.low.passes in
      let z : ◌≡◌ {A = ℕ} 0 1 = cc in
      omega arith

  new : Machine
  new = answered_at x f k v n

  here : response new k.0 ≡ answered x f v (response n k.0)
  unfolding new
  here = get_or-set_same n.responses k.0 (answered x f v (response n k.0)) 0 a.low.within

  elsewhere : (j : ℕ) → (j ≡ k.0 → ⊥) → response new j ≡ response n j
  unfolding new
  elsewhere j h = get_or-set_other n.responses k.0 j (answered x f v (response n k.0)) 0 h

  new_judged : (i : ℕ) → i < length (vs ++ (v ∷ []))
      → response new (responder x m i) ≡ answered x f (get_or (vs ++ (v ∷ [])) i Done) (response m (responder x m i))
  new_judged i l = ⊎_elim earlier (⊎_elim last (λ u. absurd (omega (arith, longer)))) (tri i (length vs))
    where
      earlier : i < length vs → response new (responder x m i) ≡ answered x f (get_or (vs ++ (v ∷ [])) i Done) (response m (responder x m i))
      earlier u =
          elsewhere (responder x m i) (not_earlier i u) ∙ w.judged i u
          ∙ sym (ap (λ (t : Verdict). answered x f t (response m (responder x m i))) (get_or-append vs (v ∷ []) Done i u))

      last : i ≡ length vs → response new (responder x m i) ≡ answered x f (get_or (vs ++ (v ∷ [])) i Done) (response m (responder x m i))
      last e =
          let p : responder x m i ≡ k.0 = ap (responder x m) e ∙ in_turn.1 in
          let d : get_or (vs ++ (v ∷ [])) i Done ≡ v = ap (λ (j : ℕ). get_or (vs ++ (v ∷ [])) j Done) e ∙ get_or_at vs v [] Done (length vs) refl in
          ap (response new) p ∙ here ∙ ap (answered x f v) (w.others k.0 not_earlier)
          ∙ sym (ap₂ (λ (t : Verdict) (j : ℕ). answered x f t (response m j)) d p)

  new_others : (j : ℕ) → NotAmong (responders x m) (length (vs ++ (v ∷ []))) j → response new j ≡ response m j
  new_others j h =
      elsewhere j (λ e. h (length vs) (omega (arith, longer)) (in_turn.1 ∙ sym e)) ∙ w.others j (λ i l. h i (omega (arith, longer)))

  new_kept : (j b : ℕ) → b < response_bits → (b ≡ x.0 → ⊥) → (b ≡ f.0 → ⊥) → bit (response new j) b ≡ bit (response m j) b
  new_kept j b h p q =
      ⊎_elim (λ u. off (λ e. absurd (omega arith)))
      (⊎_elim (λ e. rw e (ap (λ (r : ℕ). bit r b) here ∙ answered_else x f v (response n k.0) b h p q ∙ w.kept k.0 b h p q))
      (λ u. off (λ e. absurd (omega arith))))
      (tri j k.0)
    where
      off : (j ≡ k.0 → ⊥) → bit (response new j) b ≡ bit (response m j) b
      off e = ap (λ (r : ℕ). bit r b) (elsewhere j e) ∙ w.kept j b h p q

  step : Kept x f (vs ++ (v ∷ [])) m new
  unfolding new
  step = record {
    enough = omega (arith, longer, in_turn.0);
    left =
        first_off x 0 k.0 (answered x f v (response n k.0)) n.responses a.low (lost x f v (response n k.0) a.fit)
        ∙ ap (drop 1) w.left ∙ drop-drop 1 (length vs) (responders x m) ∙ sym (ap (λ (l : ℕ). drop l (responders x m)) longer);
    judged = new_judged;
    others = new_others;
    kept = new_kept;
    fit = λ l. a.fit;
    width = w.width;
    words = w.words;
    as_many = length-set n.responses k.0 (answered x f v (response n k.0)) ∙ w.as_many;
  }

pub run : {x f : ResponseBit} {m : Machine} {vs : List Verdict} {n : Machine} → Answers x f m vs n → Kept x f vs m n
unfolding after_answer new
run {x} {f} {m} none_yet = start x f m
run {x} {f} {m} (one_more {vs} {n} k v t h) =
    rw h (step x f vs m n (run t) k v (accepted x f k n h))
