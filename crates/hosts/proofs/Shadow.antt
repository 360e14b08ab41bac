-- A round looks at X and F alone: of a machine, what is left if every response keeps only these two bits, beside the words the round began with.
-- An answer does to it what it does to the machine, and a call that leaves X and F alone leaves it as it is.
use Prim.Native.Nat.{ℕ, zero, suc, ◌<◌}
use mathlib.Core.Path.{◌≡◌, refl, sym, ap, ap₂, ◌∙◌}
use mathlib.Core.Bool.{Bool, true, false, ◌||◌}
use mathlib.Core.List.{List, [], ◌∷◌, map}
use native.Mathlib.Omega.{arith}
use lib.Dec.{eqb}
use lib.ListN.{length, get_or, set, length-map, get_or-map}
use borrow.Author.Tests.{eq-eqb, eqb-true}
use Rattle.std.specs.Prelude.{Option, Some, Ok}
use Rattle.laws.specs.Bits.{bit, pick, number}
use Rattle.laws.proofs.Bits.{bit_none, number_fits, number_like, number_bit}
use Rattle.machine.specs.declared.WordSlice.{WordSlice}
use Rattle.machine.specs.declared.ResponseBit.{ResponseBit}
use Rattle.machine.specs.Machine.{Machine, machine, response_bits}
use Rattle.machine.specs.Resolution.{lowest}
use Rattle.machine.specs.Refusals.{change_by, Check}
use Rattle.rounds.specs.declared.Verdict.{Verdict}
use Rattle.rounds.specs.declared.Verdict.TheVariants.{Done, Faulty}
use Rattle.rounds.specs.Round.{has, shown, put, answered, answered_at, round_check, answer_check, after_answer}
use Rattle.rounds.specs.Handout.{numbers_with, responders, response}
use Rattle.rounds.proofs.Marks.{put_bit}
use Rattle.rounds.proofs.Passing.{acceptable, accepted}
use Rattle.rounds.specs.Round.{Fit}
use Rattle.rounds.proofs.Round.{same_checks}
use Rattle.hosts.specs.Rounds.{Leaves}
use Rattle.hosts.proofs.Below.{bit_below, either_below}

-- ---- one response

unfoldable pub only : ResponseBit → ResponseBit → ℕ → ℕ
only x f r = number response_bits (λ j. pick (eqb j x.0 || eqb j f.0) (bit r j) 0)

only_bit : (x f : ResponseBit) (r j : ℕ) → j < response_bits → bit (only x f r) j ≡ pick (eqb j x.0 || eqb j f.0) (bit r j) 0
unfolding only
only_bit x f r j h =
    number_bit response_bits _ (λ i g. either_below (eqb i x.0 || eqb i f.0) (bit_below r i) (omega arith)) j h

-- bit by bit: a tells X, b tells F
done_kept : (a b : Bool) (d : ℕ) → pick (a || b) (pick a 0 d) 0 ≡ pick a 0 (pick (a || b) d 0)
done_kept true b d = refl
done_kept false true d = refl
done_kept false false d = refl

faulty_kept : (a b : Bool) (d : ℕ) → pick (a || b) (pick b 1 (pick a 0 d)) 0 ≡ pick b 1 (pick a 0 (pick (a || b) d 0))
faulty_kept true true d = refl
faulty_kept true false d = refl
faulty_kept false true d = refl
faulty_kept false false d = refl

module _ (x f : ResponseBit) (fit : Fit x f) where
  pub only_mark : (r : ℕ) → bit (only x f r) x.0 ≡ bit r x.0
  only_mark r =
      only_bit x f r x.0 fit.mark ∙ ap (λ (t : Bool). pick (t || eqb x.0 f.0) (bit r x.0) 0) (eq-eqb x.0 x.0 refl)

  pub only_fault : (r : ℕ) → bit (only x f r) f.0 ≡ bit r f.0
  only_fault r = only_bit x f r f.0 fit.fault ∙ go (eqb f.0 x.0)
    where
      go : (t : Bool) → pick (t || eqb f.0 f.0) (bit r f.0) 0 ≡ bit r f.0
      go true = refl
      go false = ap (λ (u : Bool). pick u (bit r f.0) 0) (eq-eqb f.0 f.0 refl)

  only_none : only x f 0 ≡ 0
  unfolding only
  only_none = number_fits response_bits 0 _ (omega arith) (λ i h. bit_none i ∙ sym (go (eqb i x.0 || eqb i f.0) (bit_none i)))
    where
      go : (t : Bool) {b : ℕ} → b ≡ 0 → pick t b 0 ≡ 0
      go true h = h
      go false h = refl

  -- two responses that agree at X and F
  only_same : (r q : ℕ) → bit q x.0 ≡ bit r x.0 → bit q f.0 ≡ bit r f.0 → only x f q ≡ only x f r
  unfolding only
  only_same r q h g = number_like response_bits _ _ (λ j l. go j (eqb j x.0) (eqb j f.0) refl refl)
    where
      go : (j : ℕ) (t u : Bool) → eqb j x.0 ≡ t → eqb j f.0 ≡ u → pick (t || u) (bit q j) 0 ≡ pick (t || u) (bit r j) 0
      go j true u e d = let i = eqb-true j x.0 e in ap (bit q) i ∙ h ∙ sym (ap (bit r) i)
      go j false true e d = let i = eqb-true j f.0 d in ap (bit q) i ∙ g ∙ sym (ap (bit r) i)
      go j false false e d = refl

  -- an answer does the same to what is left
  pub only_answered : (v : Verdict) (r : ℕ) → only x f (answered x f v r) ≡ answered x f v (only x f r)
  unfolding only put
  only_answered Done r =
      number_like response_bits _ _ (λ j l.
      ap (λ (b : ℕ). pick (eqb j x.0 || eqb j f.0) b 0) (put_bit x 0 r j (omega arith) l)
      ∙ done_kept (eqb j x.0) (eqb j f.0) (bit r j)
      ∙ sym (ap (pick (eqb j x.0) 0) (only_bit x f r j l)))
  only_answered Faulty r =
      number_like response_bits _ _ (λ j l.
      ap (λ (b : ℕ). pick (eqb j x.0 || eqb j f.0) b 0) (put_bit f 1 (put x 0 r) j (omega arith) l)
      ∙ ap (λ (b : ℕ). pick (eqb j x.0 || eqb j f.0) (pick (eqb j f.0) 1 b) 0) (put_bit x 0 r j (omega arith) l)
      ∙ faulty_kept (eqb j x.0) (eqb j f.0) (bit r j)
      ∙ sym (ap (λ (b : ℕ). pick (eqb j f.0) 1 (pick (eqb j x.0) 0 b)) (only_bit x f r j l))
      ∙ sym (ap (pick (eqb j f.0) 1) (put_bit x 0 (only x f r) j (omega arith) l)))

  -- ---- all responses

  only_has : (r : ℕ) → has x (only x f r) ≡ has x r
  only_has r = ap (λ (b : ℕ). eqb b 1) (only_mark r)

  numbers_only : (k : ℕ) (rs : List ℕ) → numbers_with x k (map (only x f) rs) ≡ numbers_with x k rs
  unfolding numbers_with
  numbers_only k [] = refl
  numbers_only k (r ∷ rs) =
      ap₂ (λ (t : Bool) (ks : List ℕ). pick t (k ∷ ks) ks) (only_has r) (numbers_only (suc k) rs)

  lowest_only : (k : ℕ) (rs : List ℕ) → lowest (has x) k (map (only x f) rs) ≡ lowest (has x) k rs
  unfolding lowest
  lowest_only k [] = refl
  lowest_only k (r ∷ rs) = ap₂ (λ (t : Bool) (w : Option WordSlice). pick t (Some (record { 0 = k })) w) (only_has r) (lowest_only (suc k) rs)

  set_only : (rs : List ℕ) (k v : ℕ) → map (only x f) (set rs k v) ≡ set (map (only x f) rs) k (only x f v)
  set_only [] k v = refl
  set_only (r ∷ rs) zero v = refl
  set_only (r ∷ rs) (suc k) v = ap (λ (qs : List ℕ). only x f r ∷ qs) (set_only rs k v)

  at_only : (rs : List ℕ) (k : ℕ) → get_or (map (only x f) rs) k 0 ≡ only x f (get_or rs k 0)
  at_only rs k = ap (λ (d : ℕ). get_or (map (only x f) rs) k d) (sym only_none) ∙ get_or-map (only x f) rs k 0

  same_only : (rs qs : List ℕ) → length qs ≡ length rs → ((k : ℕ) → k < length rs → bit (get_or qs k 0) x.0 ≡ bit (get_or rs k 0) x.0)
      → ((k : ℕ) → k < length rs → bit (get_or qs k 0) f.0 ≡ bit (get_or rs k 0) f.0) → map (only x f) qs ≡ map (only x f) rs
  same_only [] [] e h g = refl
  same_only [] (q ∷ qs) e h g = absurd (omega arith)
  same_only (r ∷ rs) [] e h g = absurd (omega arith)
  same_only (r ∷ rs) (q ∷ qs) e h g =
      ap₂ (λ (a : ℕ) (as' : List ℕ). a ∷ as') (only_same r q (h 0 (omega arith)) (g 0 (omega arith)))
      (same_only rs qs (omega arith) (λ k l. h (suc k) (omega arith)) (λ k l. g (suc k) (omega arith)))

  -- ---- the machine, beside the width and the words of b

  module _ (b : Machine) where
    abbrev pub shadow : Machine → Machine
    shadow m = machine b.width b.words (map (only x f) m.responses)

    pub shadow_responders : (m : Machine) → responders x (shadow m) ≡ responders x m
    shadow_responders m = numbers_only 0 m.responses

    pub shadow_shown : (m : Machine) → shown x (shadow m) ≡ shown x m
    unfolding shown
    shadow_shown m = lowest_only 0 m.responses

    pub shadow_mark : (m : Machine) (k : ℕ) → bit (response (shadow m) k) x.0 ≡ bit (response m k) x.0
    shadow_mark m k = ap (λ (r : ℕ). bit r x.0) (at_only m.responses k) ∙ only_mark (response m k)

    pub shadow_fault : (m : Machine) (k : ℕ) → bit (response (shadow m) k) f.0 ≡ bit (response m k) f.0
    shadow_fault m k = ap (λ (r : ℕ). bit r f.0) (at_only m.responses k) ∙ only_fault (response m k)

    pub shadow_left : (m n : Machine) → Leaves x f m n → shadow n ≡ shadow m
    shadow_left m n l =
        ap (machine b.width b.words) (same_only m.responses n.responses l.count l.mark l.fault)

    module _ (fine : round_check x f b ≡ Ok tt) (m : Machine) (size : length m.responses ≡ length b.responses) (k : WordSlice)
        (taken : answer_check x f k m ≡ Ok tt) where
      pub shadow_taken : answer_check x f k (shadow m) ≡ Ok tt
      shadow_taken =
          acceptable x f k (shadow m)
          (same_checks x f b.width b.words b.responses _ (length-map m.responses (only x f) ∙ size) ∙ fine)
          (shadow_shown m ∙ (accepted x f k m taken).word)

      pub shadow_after : (v : Verdict) → shadow (after_answer x f k v m) ≡ after_answer x f k v (shadow m)
      unfolding after_answer
      shadow_after v =
          ap (λ (c : Check). shadow (change_by c (answered_at x f k v m) m)) taken
          ∙ ap (machine b.width b.words)
          (set_only m.responses k.0 _
          ∙ ap (set (map (only x f) m.responses) k.0) (only_answered v (response m k.0) ∙ sym (ap (answered x f v) (at_only m.responses k.0))))
          ∙ sym (ap (λ (c : Check). change_by c (answered_at x f k v (shadow m)) (shadow m)) shadow_taken)
