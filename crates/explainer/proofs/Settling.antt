-- Each answer that `reason` gives is true, where no syllable is mixed.
use Prim.Native.Nat.{ℕ, zero, suc, ◌+◌, ◌-◌, ◌≤◌, ◌<◌}
use mathlib.Core.Path.{◌≡◌, refl, sym, ap, ap₂, ◌∙◌}
use mathlib.Core.Bool.{Bool, true, false, not, ◌&&◌}
use mathlib.Core.Logic.{◌⊎◌, inl, inr, ⊎_elim}
use native.Mathlib.Omega.{arith}
use Rattle.laws.specs.Bits.{bit, pick}
use Rattle.laws.specs.Lists.{all}
use Rattle.laws.proofs.Digits.{tri}
use Rattle.laws.proofs.Bits.{digit_at, and_left}
use Rattle.machine.specs.declared.Panel.{Panel}
use Rattle.machine.specs.declared.Code.{Code}
use Rattle.machine.specs.declared.Code.TheVariants.{DontCare, Exact, Larger, Smaller}
use Rattle.machine.specs.declared.Status.{Status}
use Rattle.machine.specs.declared.Status.TheVariants.{Equal, For, Against}
use Rattle.machine.specs.Machine.{Syllable, is_top, bottom, down_from, syllables, selected}
use Rattle.machine.specs.Search.{code_at, or_equal, or_exact, one_code, one_setting, compared_only, unmixed, satisfied, matches}
use Rattle.machine.specs.Cells.{wants, accepted}
use Rattle.machine.proofs.Machine.{bottom_le, all_down, all_up}
use Rattle.machine.proofs.Cells.{accepted_satisfied}
use Rattle.machine.proofs.Codes.{one_code_lem, one_setting_lem, unset_there}
use Rattle.explainer.specs.declared.Reason.TheVariants as answer
use Rattle.explainer.specs.Reasons.{cell_at, is_against, down_through, in_syllable, unsatisfied, topmost, not_selected, reason}
use Rattle.explainer.specs.Truth.{Topmost, status_at, SettledAgainst, NoDifference, TrueOf}
use Rattle.explainer.proofs.Selecting.{never, every_not, unselected}
use Rattle.explainer.proofs.Statuses.{turns, starts_equal, passes_on, equal_above, against_below, never_for, agrees_at, same_number}

-- ---- settled against

against : (s : Status) → is_against s ≡ true → s ≡ Against
against Equal h = never (cc)
against For h = never (cc)
against Against h = refl

-- at bit b, which turns a status that was not yet against
settled_at : (p : Panel) (w t b : ℕ) → bottom p.sdr t ≤ b → b ≤ t → is_against (status_at p w t (suc b)) ≡ false → status_at p w t b ≡ Against
    → SettledAgainst p w t b
settled_at p w t b low top before h =
    let d = turns (code_at p b) (bit w b) (bit p.comp b) (digit_at w b) (digit_at p.comp b) (status_at p w t (suc b)) before (sym (passes_on p w t b top) ∙ h) in
    let above : (i : ℕ) → b < i → i ≤ t → status_at p w t i ≡ Equal = λ i l g. equal_above p w t (suc b) i (omega arith) (omega arith) d.0 in
    record {
      inside = (low, top);
      equal_above = above;
      against_from = λ i l g. against_below p w t b i g (omega arith) h;
      differs = d.1;
      same_above = same_number p w t (suc b) (t - b) (omega arith) (λ i l g. above i (omega arith) g);
    }

-- ---- equal to the bottom

-- a bit that is not content with a status that is not against
record Discontent (d : Code) (e : Bool) (s : Status) : Type 0 where
  pub exactly : s ≡ For → d ≡ Exact
  pub compares : s ≡ Equal → (d ≡ Larger) ⊎ (d ≡ Smaller)
  pub without : s ≡ Equal → e ≡ false

discontent : (d : Code) (e : Bool) (s : Status) → wants d e s ≡ false → Discontent d e s
discontent DontCare e Equal h = never (cc)
discontent DontCare e For h = never (cc)
discontent DontCare e Against h = never (cc)
discontent Exact e Equal h = never (cc)
discontent Exact e For h = record { exactly = λ q. refl; compares = λ q. never (cc); without = λ q. never (cc) }
discontent Exact e Against h = record { exactly = λ q. never (cc); compares = λ q. never (cc); without = λ q. never (cc) }
discontent Larger e Equal h = record { exactly = λ q. never (cc); compares = λ q. inl refl; without = λ q. h }
discontent Larger e For h = never (cc)
discontent Larger e Against h = record { exactly = λ q. never (cc); compares = λ q. never (cc); without = λ q. never (cc) }
discontent Smaller e Equal h = record { exactly = λ q. never (cc); compares = λ q. inr refl; without = λ q. h }
discontent Smaller e For h = never (cc)
discontent Smaller e Against h = record { exactly = λ q. never (cc); compares = λ q. never (cc); without = λ q. never (cc) }

either : (d : Code) → (d ≡ DontCare) ⊎ (d ≡ DontCare → ⊥)
either DontCare = inl refl
either Exact = inr (λ q. never (cc))
either Larger = inr (λ q. never (cc))
either Smaller = inr (λ q. never (cc))

exact_or : (d : Code) → (d ≡ DontCare) ⊎ (d ≡ Exact) → or_exact d ≡ true
exact_or d (inl e) = rw e
exact_or d (inr e) = rw e

module _ (p : Panel) (w t : ℕ) (fair : unmixed p (down_from p.sdr t) ≡ true) (left : satisfied p w (down_from p.sdr t) ≡ false) where
  abbrev y : Syllable
  y = down_from p.sdr t

  abbrev low : ℕ
  low = bottom p.sdr t

  abbrev at : ℕ → Code
  at j = code_at p (low + j)

  low_le : low ≤ t
  low_le = bottom_le p.sdr t

  -- some bit is not content with the status at the bottom
  unhappy : (j : ℕ) × (j < y.width) × (wants (at j) (or_equal p (low + j)) (status_at p w t low) ≡ false)
  unfolding accepted
  unhappy = every_not y.width _ (accepted_satisfied p w y (and_left (one_code p y) (one_setting p y && compared_only p y) fair) ∙ left)

  abbrev j₀ : ℕ
  j₀ = unhappy.0

  mood : Discontent (at j₀) (or_equal p (low + j₀)) (status_at p w t low)
  mood = discontent (at j₀) (or_equal p (low + j₀)) (status_at p w t low) unhappy.2

  -- every bit is as that one, or not cared for
  as_that : (at j₀ ≡ DontCare → ⊥) → (j : ℕ) → j < y.width → (at j ≡ DontCare) ⊎ (at j ≡ at j₀)
  as_that n j l = ⊎_elim (λ e. inl e) (λ m. inr (one_code_lem p y fair j j₀ l unhappy.1 m n)) (either (at j))

  not_for : status_at p w t low ≡ For → ⊥
  not_for h =
      never_for p w t low low_le (λ b l g. let e : low + (b - low) ≡ b = omega arith in
      ap (λ (i : ℕ). or_exact (code_at p i)) (sym e)
      ∙ exact_or (at (b - low)) (⊎_elim (λ q. inl q) (λ q. inr (q ∙ mood.exactly h)) (as_that (λ q. clash q (mood.exactly h)) (b - low) (omega arith)))) h
    where
      clash : at j₀ ≡ DontCare → at j₀ ≡ Exact → ⊥
      clash a b = never (cc)

  to_the_bottom : is_against (status_at p w t low) ≡ false → status_at p w t low ≡ Equal
  to_the_bottom = go (status_at p w t low) refl
    where
      go : (s : Status) → status_at p w t low ≡ s → is_against s ≡ false → s ≡ Equal
      go Equal e h = refl
      go For e h = absurd (not_for e)
      go Against e h = never (cc)

  pub found_none : is_against (status_at p w t low) ≡ false → NoDifference p w y
  found_none h =
      let e = to_the_bottom h in
      let c = mood.compares e in
      let n : at j₀ ≡ DontCare → ⊥ = λ q. clash q c in
      let equal : (i : ℕ) → low ≤ i → i ≤ t → status_at p w t i ≡ Equal = λ i l g. equal_above p w t low i l (omega arith) e in
      record {
        code = at j₀;
        compares = c;
        somewhere = (j₀, unhappy.1, refl);
        carried = as_that n;
        without = λ j l. ⊎_elim (λ q. unset_there p y fair j l q) (λ q. one_setting_lem p y fair j j₀ l unhappy.1 (λ z. n (sym q ∙ z)) n ∙ mood.without e) (as_that n j l);
        agree = λ j l q. ⊎_elim (λ z. absurd (n (sym q ∙ z))) (λ z. z) (agrees_at p w t (low + j) (omega (arith, low_le)) (equal (low + j) (omega arith) (omega (arith, low_le))));
        same = same_number p w t low y.width (omega (arith, low_le)) equal;
      }
    where
      clash : at j₀ ≡ DontCare → (at j₀ ≡ Larger) ⊎ (at j₀ ≡ Smaller) → ⊥
      clash a (inl b) = never (cc)
      clash a (inr b) = never (cc)

-- ---- down through the topmost syllable that is not satisfied

module _ (n : ℕ) (p : Panel) (w r t : ℕ) (top : Topmost n p w r t) (fair : unmixed p (down_from p.sdr t) ≡ true) where
  abbrev from : ℕ
  from = bottom p.sdr t

  from_le : from ≤ t
  from_le = bottom_le p.sdr t

  down : (j : ℕ) (s : Status) → from + j ≤ suc t → s ≡ status_at p w t (from + j) → is_against s ≡ false → TrueOf n p w r (down_through p w t (down_from p.sdr t) j s)
  unfolding down_through
  down zero s l e na =
      let z : from + 0 ≡ from = omega arith in
      (top, found_none p w t fair top.unsatisfied (ap is_against (sym (e ∙ ap (status_at p w t) z)) ∙ na))
  down (suc j) s l e na = go (is_against (cell_at p w (from + j) s)) refl (λ h. down j (cell_at p w (from + j) s) (omega arith) is h)
    where
      is : cell_at p w (from + j) s ≡ status_at p w t (from + j)
      is = let z : from + suc j ≡ suc (from + j) = omega arith in ap (cell_at p w (from + j)) (e ∙ ap (status_at p w t) z) ∙ sym (passes_on p w t (from + j) (omega arith))

      before : is_against (status_at p w t (suc (from + j))) ≡ false
      before = let z : from + suc j ≡ suc (from + j) = omega arith in ap is_against (sym (e ∙ ap (status_at p w t) z)) ∙ na

      go : (b : Bool) → is_against (cell_at p w (from + j) s) ≡ b
          → (is_against (cell_at p w (from + j) s) ≡ false → TrueOf n p w r (down_through p w t (down_from p.sdr t) j (cell_at p w (from + j) s)))
          → TrueOf n p w r (pick b (answer.Against (record { 0 = t }) (record { 0 = from + j })) (down_through p w t (down_from p.sdr t) j (cell_at p w (from + j) s)))
      go true h rest = (top, settled_at p w t (from + j) (omega arith) (omega arith) before (sym is ∙ against (cell_at p w (from + j) s) h))
      go false h rest = rest h

  pub in_syllable_lem : TrueOf n p w r (in_syllable p w t)
  in_syllable_lem =
      let e : from + (suc t - from) ≡ suc t = omega (arith, from_le) in
      down (suc t - from) Equal (omega arith) (sym (ap (status_at p w t) e ∙ starts_equal p w t)) refl

-- ---- the topmost, and the whole answer

not_satisfied : (a b : Bool) → (a && not b) ≡ true → (a ≡ true) × (b ≡ false)
not_satisfied true true h = never (cc)
not_satisfied true false h = (refl, refl)
not_satisfied false b h = never (cc)

is_satisfied : (a b : Bool) → (a && not b) ≡ false → a ≡ true → b ≡ true
is_satisfied true true h e = refl
is_satisfied true false h e = never (cc)
is_satisfied false b h e = never (cc)

module _ (n : ℕ) (p : Panel) (w r : ℕ) (fair : all (unmixed p) (syllables n p.sdr) ≡ true) (chosen : selected p.key p.care r ≡ true) where
  from_top : (t : ℕ) → t ≤ n → ((i : ℕ) → t ≤ i → i < n → is_top n p.sdr i ≡ true → satisfied p w (down_from p.sdr i) ≡ true) → TrueOf n p w r (topmost n p w t)
  unfolding topmost matches
  from_top zero l h = ap₂ (λ (a b : Bool). a && b) chosen (all_up (satisfied p w) n p.sdr (λ i g. h i (omega arith) g))
  from_top (suc t) l h = go (unsatisfied n p w t) refl (λ g. from_top t (omega arith) g)
    where
      go : (b : Bool) → unsatisfied n p w t ≡ b
          → (((i : ℕ) → t ≤ i → i < n → is_top n p.sdr i ≡ true → satisfied p w (down_from p.sdr i) ≡ true) → TrueOf n p w r (topmost n p w t))
          → TrueOf n p w r (pick b (in_syllable p w t) (topmost n p w t))
      go true e rest =
          let u = not_satisfied (is_top n p.sdr t) (satisfied p w (down_from p.sdr t)) e in
          let is : Topmost n p w r t = record { is_selected = chosen; within = omega arith; top = u.0; unsatisfied = u.1; above = λ i a b. h i (omega arith) b } in
          in_syllable_lem n p w r t is (all_down (unmixed p) n p.sdr t (omega arith) u.0 fair)
      go false e rest =
          rest (λ i a b top. ⊎_elim (λ q. h i (omega arith) b top)
          (⊎_elim (λ q. ap (λ (k : ℕ). satisfied p w (down_from p.sdr k)) (sym q) ∙ is_satisfied (is_top n p.sdr t) (satisfied p w (down_from p.sdr t)) e (ap (is_top n p.sdr) q ∙ top)) (λ q. absurd (omega arith))) (tri t i))

pub reason_true : (n : ℕ) (p : Panel) (w r : ℕ) → all (unmixed p) (syllables n p.sdr) ≡ true → TrueOf n p w r (reason n p w r)
unfolding reason
reason_true n p w r fair = go (selected p.key p.care r) refl
  where
    go : (b : Bool) → selected p.key p.care r ≡ b → TrueOf n p w r (pick b (topmost n p w n) (not_selected p r))
    go true e = from_top n p w r fair e n (omega arith) (λ i a b. absurd (omega arith))
    go false e = unselected p r e
