-- Document 02, request e: "Each reason given is proved true, and "matched" is said exactly when the search matches", of the call: what its own source
-- promises (`Post`, of its arguments a, an answer r and what stands behind the lent references at exit, s). `Truth` in the crate's specs has what each
-- answer says.
use Prim.Native.Nat.{ℕ, ◌<◌}
use mathlib.Core.Path.{◌≡◌, refl, sym, ap, ap₂, ◌∙◌}
use mathlib.Core.Bool.{Bool, true, false}
use mathlib.Core.Logic.{◌⊎◌, inl, inr}
use lib.ListN.{length, get_or}
use borrow.Author.Tests.{leb-false, eq-eqb, not-false}
use contract.Lifetimes.{Lfts}
use borrow.Fn.World.{ArgsD, ResD}
use borrow.Fn.Kinds.{ended_of}
use denote.Triple.Clauses.{AtExit}
use Rattle.std.specs.Prelude.{Result, Ok, Err}
use Rattle.laws.specs.Bits.{bit, pick, digit}
use Rattle.laws.specs.Lists.{all}
use Rattle.laws.proofs.Bits.{and_right}
use Rattle.machine.specs.declared.Panel.{Panel}
use Rattle.machine.specs.declared.Lines.{Lines}
use Rattle.machine.specs.declared.BitSlice.{BitSlice}
use Rattle.machine.specs.declared.WordSlice.{WordSlice}
use Rattle.machine.specs.declared.ResponseBit.{ResponseBit}
use Rattle.machine.specs.declared.Refusal.{Refusal}
use Rattle.machine.specs.declared.Refusal.TheVariants.{NoSuchWord}
use Rattle.machine.specs.declared.Answer.{Answer}
use Rattle.machine.specs.Machine.{Machine, machine, response_bits, down_from, syllables, selected}
use Rattle.machine.specs.Search.{satisfied, matches}
use Rattle.machine.specs.Refusals.{bad_codes, pulse_check, after}
use Rattle.machine.proofs.Machine.{all_down}
use Rattle.machine.proofs.Refusals as checks
use Rattle.machine.proofs.Refusals.{else_passed, not_refused, some_number}
use Rattle.explainer.specs.declared.Reason.{Reason}
use Rattle.explainer.specs.declared.Reason.TheVariants.{Matched, NotSelected, Against, EqualToTheBottom}
use Rattle.explainer.specs.Reasons.{searching, explain_check, reason_at, explained}
use Rattle.explainer.specs.Truth.{Unselected, Topmost, SettledAgainst, NoDifference, is_matched, TrueOf}
use Rattle.explainer.proofs.Settling.{reason_true}
use Rattle.promises.proofs.Answered.{tells_answer, tells_explained}
use Rattle.promises.proofs.Calls.{Pulse, explain_meets, plain_pulse_meets, wide_pulse_meets}
use Rattle.promises.proofs.Demand1.{first, explain_table}
use Rattle.promises.proofs.Demand2.{search_marks}
use Rattle.explainer.specs.contracts.explain as explain
use Rattle.explainer.proofs.explain.Kinds as explain-kinds
use Rattle.explainer.proofs.explain.Reads as explain-reads
use Rattle.cells.specs.contracts.pulse as plain-pulse
use Rattle.cells.proofs.pulse.Kinds as plain-pulse-kinds
use Rattle.cells.proofs.pulse.Reads as plain-pulse-reads
use Rattle.wide.specs.contracts.pulse as wide-pulse
use Rattle.wide.proofs.pulse.Kinds as wide-pulse-kinds
use Rattle.wide.proofs.pulse.Reads as wide-pulse-reads

-- ---- of a call that was accepted

-- the search matches word k
abbrev pub picks : Machine → Panel → WordSlice → Bool
picks m p k = matches m.width p (get_or m.words k.0 0) (get_or m.responses k.0 0)

-- "matched" is said
abbrev pub says_matched : Result Reason Refusal → Bool
says_matched (Ok e) = is_matched e
says_matched (Err why) = false

-- what an answer says of word k is true, and it is no refusal
abbrev pub TrueAt : Machine → Panel → WordSlice → Result Reason Refusal → Type 0
TrueAt m p k (Ok e) = TrueOf m.width p (get_or m.words k.0 0) (get_or m.responses k.0 0) e
TrueAt m p k (Err why) = ⊥

module _ (m : Machine) (p : Panel) (k : WordSlice) (accepted : explain_check m p k ≡ Ok tt) where
  as_search : pulse_check m p searching ≡ Ok tt
  unfolding explain_check
  as_search = (else_passed (pulse_check m p searching) _ accepted).0

  within : k.0 < length m.words
  unfolding explain_check
  within = leb-false (length m.words) k.0 (not_refused NoSuchWord _ (else_passed (pulse_check m p searching) _ accepted).1)

  true_there : TrueAt m p k (Ok (reason_at m p k))
  unfolding bad_codes
  true_there = reason_true m.width p _ _ (not-false _ (checks.clean m p searching as_search).codes)

  pub accepted_true : TrueAt m p k (explained m p k)
  unfolding explained
  accepted_true = rw accepted true_there

-- a word with a syllable that is not satisfied is not matched
unmatched : (n : ℕ) (p : Panel) (w r t : ℕ) → Topmost n p w r t → false ≡ matches n p w r
unfolding matches
unmatched n p w r t top = go (matches n p w r) refl
  where
    go : (b : Bool) → matches n p w r ≡ b → false ≡ b
    go true h =
        let s = all_down (satisfied p w) n p.sdr t top.within top.top (and_right (selected p.key p.care r) (all (satisfied p w) (syllables n p.sdr)) h) in
        sym top.unsatisfied ∙ s
    go false h = refl

-- an answer that is true says "matched" exactly if the word matches
matched_if : (n : ℕ) (p : Panel) (w r : ℕ) (e : Reason) → TrueOf n p w r e → is_matched e ≡ matches n p w r
unfolding matches
matched_if n p w r Matched h = sym h
matched_if n p w r (NotSelected x) h = let u = h.unselected in rw u
matched_if n p w r (Against t b) h = unmatched n p w r t.0 h.0
matched_if n p w r (EqualToTheBottom t) h = unmatched n p w r t.0 h.0

matched_at : (m : Machine) (p : Panel) (k : WordSlice) (r : Result Reason Refusal) → TrueAt m p k r → says_matched r ≡ picks m p k
matched_at m p k (Ok e) h = matched_if m.width p _ _ e h
matched_at m p k (Err why) h = absurd h

-- an answer that is no refusal is one of the four
abbrev pub OneOfFour : Result Reason Refusal → Type 0
OneOfFour r =
    (r ≡ Ok Matched)
    ⊎ (((x : ResponseBit) × (r ≡ Ok (NotSelected x)))
    ⊎ (((t : BitSlice) × (b : BitSlice) × (r ≡ Ok (Against t b))) ⊎ ((t : BitSlice) × (r ≡ Ok (EqualToTheBottom t)))))

no_refusal : (r : Result Reason Refusal) → (tells_explained r).0 ≡ 0 → OneOfFour r
no_refusal (Ok Matched) h = inl refl
no_refusal (Ok (NotSelected x)) h = inr (inl (x, refl))
no_refusal (Ok (Against t b)) h = inr (inr (inl (t, b, refl)))
no_refusal (Ok (EqualToTheBottom t)) h = inr (inr (inr (t, refl)))
no_refusal (Err why) h = absurd (some_number why h)

-- ---- of the call

module _ (κs : Lfts 2) (a : ArgsD explain.signature κs) (r : ResD explain.signature κs) (s : AtExit (ended_of 2 explain-kinds.ps explain-kinds.r) κs)
    (post : explain-reads.Post κs a r s) where
  abbrev m : Machine
  m = machine a.1.1.0 a.0.now a.1.0.now

  abbrev p : Panel
  p = a.1.1.1.0

  abbrev k : WordSlice
  k = a.1.1.1.1.0

  -- one of the four is given wherever no condition of the call's table holds
  pub one_of_four : (first (explain_table m p k)).0 ≡ 0 → OneOfFour r
  one_of_four h = no_refusal r (ap (λ (x : ℕ × ℕ). x.0) (explain_meets κs a r s post).number ∙ h)

  -- whatever is answered is true, where the call is accepted
  pub answer_true : (tells_explained r).0 ≡ 0 → TrueAt m p k r
  answer_true h =
      let c = (explain_meets κs a r s post).accepted h in
      rw c.1 (true_there m p k c.0)

  matched_here : (tells_explained r).0 ≡ 0 → says_matched r ≡ picks m p k
  matched_here h = matched_at m p k r (answer_true h)

  -- ""matched" is said exactly when the search matches"
  pub matched_exactly : (tells_explained r).0 ≡ 0 → says_matched r ≡ picks m p k
  matched_exactly h = matched_here h

  -- "not selected, with the lowest response bit that differs"
  pub not_selected_true : (x : ResponseBit) → r ≡ Ok (NotSelected x) → Unselected p (get_or m.responses k.0 0) x.0
  not_selected_true x e = rw e at (answer_true (rw e refl))

  -- "the topmost syllable not satisfied, with the bit where it was settled against"
  pub against_true : (t b : BitSlice) → r ≡ Ok (Against t b)
      → Topmost m.width p (get_or m.words k.0 0) (get_or m.responses k.0 0) t.0 × SettledAgainst p (get_or m.words k.0 0) t.0 b.0
  against_true t b e = rw e at (answer_true (rw e refl))

  -- "or "equal to the bottom" when larger or smaller found no difference"
  pub equal_true : (t : BitSlice) → r ≡ Ok (EqualToTheBottom t)
      → Topmost m.width p (get_or m.words k.0 0) (get_or m.responses k.0 0) t.0 × NoDifference p (get_or m.words k.0 0) (down_from p.sdr t.0)
  equal_true t e = rw e at (answer_true (rw e refl))

  -- and of any pulse on that machine, under that panel, that was accepted with search raised: at word k each target bit is then 1 exactly if "matched"
  -- was said
  search_agrees : (tells_explained r).0 ≡ 0 → (m' : Machine) (p' : Panel) (l : Lines) (r' : Result Answer Refusal) (n : Machine) → Pulse m' p' l r' n → (tells_answer r').0 ≡ 0
      → l.search ≡ true → m' ≡ m → p' ≡ p → (i : ℕ) → i < response_bits → bit p.target i ≡ 1 → bit (get_or n.responses k.0 0) i ≡ digit (says_matched r)
  search_agrees h m' p' l r' n met h' raised e f i g t =
      let passed = ap₂ (λ (m : Machine) (p : Panel). pulse_check m p l) (sym e) (sym f) ∙ (met.0.accepted h').0 in
      ap (λ (q : Machine). bit (get_or q.responses k.0 0) i) (met.1.leaves ∙ ap₂ (λ (m : Machine) (p : Panel). after m p l) e f)
      ∙ search_marks m p l passed raised k.0 i (within m p k ((explain_meets κs a r s post).accepted h).0) g
      ∙ ap (λ (b : Bool). pick b (digit (picks m p k)) (bit (get_or m.responses k.0 0) i)) (eq-eqb (bit p.target i) 1 t)
      ∙ ap digit (sym (matched_here h))

  pub wide_search_agrees : (tells_explained r).0 ≡ 0
      → (κs' : Lfts 2) (a' : ArgsD wide-pulse.signature κs') (r' : ResD wide-pulse.signature κs') (s' : AtExit (ended_of 2 wide-pulse-kinds.ps wide-pulse-kinds.r) κs')
      → wide-pulse-reads.Post κs' a' r' s' → (tells_answer r').0 ≡ 0 → a'.1.1.1.1.0.search ≡ true
      → machine a'.1.1.0 a'.0.now a'.1.0.now ≡ m → a'.1.1.1.0 ≡ p
      → (i : ℕ) → i < response_bits → bit p.target i ≡ 1 → bit (get_or s'.1.0.now k.0 0) i ≡ digit (says_matched r)
  wide_search_agrees h κs' a' r' s' post' =
      search_agrees h (machine a'.1.1.0 a'.0.now a'.1.0.now) a'.1.1.1.0 a'.1.1.1.1.0 r' (machine a'.1.1.0 s'.0.now s'.1.0.now)
      (wide_pulse_meets κs' a' r' s' post')

  pub plain_search_agrees : (tells_explained r).0 ≡ 0
      → (κs' : Lfts 2) (a' : ArgsD plain-pulse.signature κs') (r' : ResD plain-pulse.signature κs') (s' : AtExit (ended_of 2 plain-pulse-kinds.ps plain-pulse-kinds.r) κs')
      → plain-pulse-reads.Post κs' a' r' s' → (tells_answer r').0 ≡ 0 → a'.1.1.1.1.0.search ≡ true
      → machine a'.1.1.0 a'.0.now a'.1.0.now ≡ m → a'.1.1.1.0 ≡ p
      → (i : ℕ) → i < response_bits → bit p.target i ≡ 1 → bit (get_or s'.1.0.now k.0 0) i ≡ digit (says_matched r)
  plain_search_agrees h κs' a' r' s' post' =
      search_agrees h (machine a'.1.1.0 a'.0.now a'.1.0.now) a'.1.1.1.0 a'.1.1.1.1.0 r' (machine a'.1.1.0 s'.0.now s'.1.0.now)
      (plain_pulse_meets κs' a' r' s' post')
