-- A job's search on one word: it matches if it is selected and has COMP's bits at the mask; it sets the target bit alone.
use Prim.Native.Nat.{ℕ, ◌+◌, ◌^◌, ◌<◌}
use mathlib.Core.Path.{◌≡◌, refl, sym, ap, ap₂, ◌∙◌}
use mathlib.Core.Bool.{Bool, true, false, ◌&&◌, ◌||◌, and-true, or-true}
use native.Mathlib.Nat.{mod-eq_of_lt, zero-add}
use native.Mathlib.Omega.{arith}
use lib.Dec.{eqb}
use Rattle.laws.specs.Bits.{bit, every, pick, digit}
use Rattle.laws.specs.Lists.{all}
use Rattle.laws.proofs.Digits.{Bit, off, on, bit_lt}
use Rattle.laws.proofs.Bits.{digit_at, number_lt, number_bit, every_like, every_all, every_at, every_eqb, bit_none}
use Rattle.machine.specs.declared.ResponseBit.{ResponseBit}
use Rattle.machine.specs.Machine.{response_bits, selected}
use Rattle.machine.specs.Search.{code, code_at, or_equal, cared, asks, read_over, satisfied, matches, marked}
use Rattle.machine.specs.Pulse.{word_after, response_after}
use Rattle.job_plans.specs.Commands.{look}
use Rattle.ends.proofs.Agreeing.{agrees, one_here, one_there}
use Rattle.ends.proofs.Shapes.{from, whole}

-- ---- one syllable with exact bits and don't-care bits: agreement under the mask

one_asks : {m : ℕ} → Bit m → (e : Bool) (x y : ℕ) → asks (code 0 m) e x y ≡ (eqb m 0 || eqb x y)
one_asks off e x y = refl
one_asks on e x y = refl

cared_lt : {m b : ℕ} → Bit m → Bit b → cared (code 0 m) b < 2
cared_lt off b = omega arith
cared_lt on b = bit_lt b

cared_same : {m : ℕ} → Bit m → (x y : ℕ) → eqb (cared (code 0 m) x) (cared (code 0 m) y) ≡ (eqb m 0 || eqb x y)
cared_same off x y = refl
cared_same on x y = refl

mark_lt : (a b : Bool) {r : ℕ} → r < 2 → pick a (digit b) r < 2
mark_lt true true h = omega arith
mark_lt true false h = omega arith
mark_lt false b h = h

module _ (n key care : ℕ) (t : ResponseBit) (mask comp : ℕ) where
  code_is : (i : ℕ) → code_at (look key care t mask comp).panel (0 + i) ≡ code 0 (bit mask i)
  code_is i = rw (zero-add i, bit_none i)

  -- the number read over the whole word
  abbrev seen : ℕ → ℕ
  seen x = read_over (look key care t mask comp).panel (from 0 n) x

  seen_digit : (x i : ℕ) → cared (code_at (look key care t mask comp).panel (0 + i)) (bit x (0 + i)) ≡ cared (code 0 (bit mask i)) (bit x i)
  seen_digit x i = rw (code_is i, zero-add i)

  seen_bit : (x i : ℕ) → i < n → bit (seen x) i ≡ cared (code 0 (bit mask i)) (bit x i)
  seen_bit x i g =
      number_bit n _ (λ j l. rw (seen_digit x j) (cared_lt (digit_at mask j) (digit_at x j))) i g ∙ seen_digit x i

  seen_lt : (x : ℕ) → seen x < 2 ^ n
  seen_lt x = number_lt n _ (λ j l. rw (seen_digit x j) (cared_lt (digit_at mask j) (digit_at x j)))

  -- the two numbers are equal where the bits of the mask are
  seen_same : (w : ℕ) → eqb (seen w) (seen comp) ≡ agrees n mask w comp
  seen_same w =
      ap₂ eqb (sym (mod-eq_of_lt (seen_lt w))) (sym (mod-eq_of_lt (seen_lt comp)))
      ∙ sym (every_eqb n (seen w) (seen comp))
      ∙ every_like n _ _ (λ i g. rw (seen_bit w i g, seen_bit comp i g) (cared_same (digit_at mask i) (bit w i) (bit comp i)))

  -- where no bit of the mask is a one there is nothing to ask
  asked_if : (w : ℕ) (a b : Bool) → every n (λ i. eqb (bit mask i) 0 || b) ≡ a → agrees n mask w comp ≡ b → a ≡ b
  asked_if w true true e h = refl
  asked_if w false false e h = refl
  asked_if w false true e h = cc (every_all n (λ i. eqb (bit mask i) 0 || true) (λ i g. or-true (eqb (bit mask i) 0)))
  asked_if w true false e h = cc (every_all n (λ i. eqb (bit mask i) 0 || eqb (bit w i) (bit comp i)) (λ i g. free (eqb (bit mask i) 0) _ (every_at n _ e i g)))
    where
      free : (a c : Bool) → (a || false) ≡ true → (a || c) ≡ true
      free true c h = refl
      free false c h = cc

  asked : (w : ℕ) → satisfied (look key care t mask comp).panel w (from 0 n) ≡ agrees n mask w comp
  unfolding satisfied
  asked w =
      every_like n _ (λ i. eqb (bit mask i) 0 || agrees n mask w comp)
      (λ i g. rw (code_is i) (one_asks (digit_at mask i) (or_equal (look key care t mask comp).panel (0 + i)) (seen w) (seen comp)) ∙ ap (λ (b : Bool). eqb (bit mask i) 0 || b) (seen_same w))
      ∙ asked_if w _ (agrees n mask w comp) refl refl

  -- "A word matches if it is selected and all its syllables are satisfied."
  pub look_matches : 0 < n → (w r : ℕ) → matches n (look key care t mask comp).panel w r ≡ (selected key care r && agrees n mask w comp)
  unfolding matches all
  look_matches h w r = rw (whole n h) (ap (λ (b : Bool). selected key care r && b) (and-true _ ∙ asked w))

  pub look_word : (k w r : ℕ) → word_after n (look key care t mask comp).panel (look key care t mask comp).lines k w r ≡ w
  unfolding word_after
  look_word k w r = refl

  -- the target bit tells whether the word matched, and no other bit of the response changes
  pub look_target : (k w r : ℕ) → t.0 < response_bits
      → bit (response_after n (look key care t mask comp).panel (look key care t mask comp).lines k w r) t.0
      ≡ digit (matches n (look key care t mask comp).panel w r)
  unfolding response_after marked
  look_target k w r h =
      number_bit response_bits _ (λ j g. mark_lt (eqb (bit (2 ^ t.0) j) 1) (matches n (look key care t mask comp).panel w r) (bit_lt (digit_at r j))) t.0 h
      ∙ rw (one_here t.0)

  pub look_others : (k w r i : ℕ) → i < response_bits → (i ≡ t.0 → ⊥)
      → bit (response_after n (look key care t mask comp).panel (look key care t mask comp).lines k w r) i ≡ bit r i
  unfolding response_after marked
  look_others k w r i h g =
      number_bit response_bits _ (λ j q. mark_lt (eqb (bit (2 ^ t.0) j) 1) (matches n (look key care t mask comp).panel w r) (bit_lt (digit_at r j))) i h
      ∙ rw (one_there t.0 i g)
