-- One step of each of the explainer's loops, and its answers by its checks.
use Prim.Native.Nat.{ℕ, zero, suc, ◌+◌, ◌-◌, ◌≤◌, ◌<◌}
use mathlib.Core.Path.{◌≡◌, refl, sym, ap, ◌∙◌}
use mathlib.Core.Bool.{Bool, true, false, not, ◌&&◌}
use mathlib.Core.Logic.{⊎_elim}
use native.Mathlib.Omega.{arith}
use lib.Dec.{ltb, leb, eqb}
use lib.ListN.{length}
use borrow.Author.Tests.{ltb-false, leb-false, not-false}
use Rattle.laws.specs.Bits.{pick}
use Rattle.laws.specs.Lists.{all}
use Rattle.laws.proofs.Digits.{tri}
use Rattle.laws.proofs.Bits.{and_left}
use Rattle.machine.specs.declared.Panel.{Panel}
use Rattle.machine.specs.declared.Status.{Status}
use Rattle.machine.specs.declared.Refusal.TheVariants.{NoSuchWord}
use Rattle.std.specs.Prelude.{Option, Some, None, Ok, MatchOption}
use Rattle.std.specs.Option.{unwrap_or}
use Rattle.machine.specs.declared.WordSlice.{WordSlice}
use Rattle.machine.specs.Machine.{Machine, Syllable, is_top, down_from, syllables}
use Rattle.machine.specs.Search.{one_code, one_setting, compared_only, unmixed, satisfied}
use Rattle.machine.specs.Cells.{accepted}
use Rattle.machine.specs.Refusals.{bad_size, bad_codes, pulse_check}
use Rattle.machine.proofs.Machine.{all_down}
use Rattle.machine.proofs.Cells.{accepted_satisfied}
use Rattle.machine.proofs.Refusals as checks
use Rattle.machine.proofs.Refusals.{else_passed, not_refused, or_left, or_right}
use Rattle.chains.specs.Walks.{here}
use Rattle.explainer.specs.declared.Reason.{Reason}
use Rattle.explainer.specs.declared.Reason.TheVariants as answer
use Rattle.explainer.specs.Reasons.{lowest_of, cell_at, is_against, down_through, in_syllable, unsatisfied, topmost, reason, searching, explain_check, told}

-- ---- the lowest response bit that differs

module _ (test : ℕ → Bool) where
  none_lowest : (i m : ℕ) → ((k : ℕ) → i ≤ k → k < i + m → test k ≡ false) → i + m ≡ lowest_of test i m
  unfolding lowest_of
  none_lowest i zero h = omega arith
  none_lowest i (suc m) h =
      let e : i + suc m ≡ suc i + m = omega arith in
      rw (e, h i (omega arith) (omega arith)) (none_lowest (suc i) m (λ k a b. h k (omega arith) (omega arith)))

  is_lowest : (i m k : ℕ) → i ≤ k → k < i + m → test k ≡ true → ((j : ℕ) → i ≤ j → j < k → test j ≡ false) → k ≡ lowest_of test i m
  unfolding lowest_of
  is_lowest i zero k a b t h = absurd (omega arith)
  is_lowest i (suc m) k a b t h =
      ⊎_elim (λ (l : i < k). let q : test i ≡ false = h i (omega arith) l in rw q (is_lowest (suc i) m k (omega arith) (omega arith) t (λ j c d. h j (omega arith) d)))
      (⊎_elim (λ (e : i ≡ k). let q : test i ≡ true = ap test e ∙ t in rw q (sym e)) (λ l. absurd (omega arith))) (tri i k)

  -- what `find` answers over m numbers
  abbrev pub Finds : ℕ → Option ℕ → Type 0
  Finds m r = MatchOption r ((k : ℕ) → 0 ≤ k → k < m → test k ≡ false) (λ i. (0 ≤ i) × (i < m) × (test i ≡ true) × ((k : ℕ) → 0 ≤ k → k < i → test k ≡ false))

  pub found_lowest : (m : ℕ) (r : Option ℕ) → Finds m r → unwrap_or r m ≡ lowest_of test 0 m
  found_lowest m None h = let e : m ≡ 0 + m = omega arith in e ∙ none_lowest 0 m (λ k a b. h k a (omega arith))
  found_lowest m (Some i) h = is_lowest 0 m i h.0 (omega (arith, h.1)) h.2 h.3

  pub found_within : (m : ℕ) (r : Option ℕ) → Finds m r → unwrap_or r m ≤ m
  found_within m None h = omega arith
  found_within m (Some i) h = omega (arith, h.1)

-- ---- down through a syllable

module _ (p : Panel) (w t : ℕ) (y : Syllable) (whole : Reason) where
  pub settles : (j : ℕ) (s u : Status) → 0 < j → down_through p w t y j s ≡ whole → u ≡ cell_at p w (y.low + (j - 1)) s → is_against u ≡ true
      → answer.Against (record { 0 = t }) (record { 0 = y.low + (j - 1) }) ≡ whole
  unfolding down_through
  settles zero s u l h e f = absurd (omega arith)
  settles (suc j) s u l h e f = let z : suc j - 1 ≡ j = omega arith in rw z (rw (sym (rw z at e), f) at h)

  pub goes_on : (j : ℕ) (s u : Status) → 0 < j → down_through p w t y j s ≡ whole → u ≡ cell_at p w (y.low + (j - 1)) s → is_against u ≡ false
      → down_through p w t y (j - 1) u ≡ whole
  unfolding down_through
  goes_on zero s u l h e f = absurd (omega arith)
  goes_on (suc j) s u l h e f = let z : suc j - 1 ≡ j = omega arith in rw z (rw (sym (rw z at e), f) at h)

  pub comes_down : (j : ℕ) (s : Status) → j ≡ 0 → down_through p w t y j s ≡ whole → answer.EqualToTheBottom (record { 0 = t }) ≡ whole
  unfolding down_through
  comes_down j s e h = rw e at h

-- ---- from the topmost syllable down, by what the cells accept

module _ (n : ℕ) (p : Panel) (w : ℕ) (fair : all (unmixed p) (syllables n p.sdr) ≡ true) where
  as_cells : (t : ℕ) → t < n → unsatisfied n p w t ≡ not (here (accepted p w) n p.sdr t)
  unfolding here
  as_cells t l = go (is_top n p.sdr t) refl
    where
      go : (b : Bool) → is_top n p.sdr t ≡ b → (b && not (satisfied p w (down_from p.sdr t))) ≡ not (pick b (accepted p w (down_from p.sdr t)) true)
      go true e =
          let y = down_from p.sdr t in
          ap not (sym (accepted_satisfied p w y (and_left (one_code p y) (one_setting p y && compared_only p y) (all_down (unmixed p) n p.sdr t l e fair))))
      go false e = refl

  pub stops_at : (t : ℕ) (b : Bool) → 0 < t → t ≤ n → topmost n p w t ≡ topmost n p w n → b ≡ here (accepted p w) n p.sdr (t - 1) → b ≡ false
      → in_syllable p w (t - 1) ≡ topmost n p w n
  unfolding topmost
  stops_at zero b l k h e f = absurd (omega arith)
  stops_at (suc t) b l k h e f =
      let z : suc t - 1 ≡ t = omega arith in
      rw z (rw (as_cells t (omega arith), sym (rw z at e), f) at h)

  pub goes_below : (t : ℕ) (b : Bool) → 0 < t → t ≤ n → topmost n p w t ≡ topmost n p w n → b ≡ here (accepted p w) n p.sdr (t - 1) → b ≡ true
      → topmost n p w (t - 1) ≡ topmost n p w n
  unfolding topmost
  goes_below zero b l k h e f = absurd (omega arith)
  goes_below (suc t) b l k h e f =
      let z : suc t - 1 ≡ t = omega arith in
      rw z (rw (as_cells t (omega arith), sym (rw z at e), f) at h)

  pub all_satisfied : (t : ℕ) → t ≡ 0 → topmost n p w t ≡ topmost n p w n → answer.Matched ≡ topmost n p w n
  unfolding topmost
  all_satisfied t e h = rw e at h

-- ---- the call

module _ (m : Machine) (p : Panel) (k : WordSlice) (h : explain_check m p k ≡ Ok tt) where
  both : (pulse_check m p searching ≡ Ok tt) × (leb (length m.words) k.0 ≡ false)
  unfolding explain_check
  both =
      let q = else_passed (pulse_check m p searching) _ h in
      (q.0, not_refused NoSuchWord _ q.1)

  pub number_within : k.0 < length m.words
  number_within = leb-false (length m.words) k.0 both.1

  pub number_small : k.0 < 1024
  unfolding bad_size
  number_small =
      let n = length m.words in
      let q = or_right (eqb n 0) _ (checks.clean m p searching both.0).sound.size in
      omega (arith, number_within, ltb-false 1024 n (or_left (ltb 1024 n) _ q))

  pub response_within : k.0 < length m.responses
  response_within = rw (checks.size_same _ _ (checks.clean m p searching both.0).sound.size) number_within

  pub narrow : m.width ≤ 64
  narrow = checks.width_le m.width (checks.clean m p searching both.0).sound.width

  pub unmixed_all : all (unmixed p) (syllables m.width p.sdr) ≡ true
  unfolding bad_codes
  unmixed_all = not-false _ (checks.clean m p searching both.0).codes

-- ---- a reason is no refusal

abbrev pub number : Reason → ℕ × ℕ
number e = ((told (Ok e)).refusal, (told (Ok e)).also)

none : (e : Reason) → number e ≡ (0, 0)
none answer.Matched = refl
none (answer.NotSelected x) = refl
none (answer.Against t b) = refl
none (answer.EqualToTheBottom t) = refl

pub reason_answers : (n : ℕ) (p : Panel) (w r : ℕ) → number (reason n p w r) ≡ (0, 0)
reason_answers n p w r = none (reason n p w r)
