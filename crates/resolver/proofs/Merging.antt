-- The lowest of a list is the lowest of its first part and, where that has none, of the rest: the law of the tree.
use Prim.Native.Nat.{ℕ, suc, ◌+◌, ◌≤◌, ◌<◌}
use mathlib.Core.Path.{◌≡◌, refl, sym, ap, ◌∙◌}
use mathlib.Core.Bool.{Bool, true, false}
use mathlib.Core.List.{List, [], ◌∷◌, ◌++◌}
use native.Mathlib.Nat.{add-zero}
use native.Mathlib.Omega.{arith}
use lib.ListN.{length, get_or}
use Rattle.std.specs.Prelude.{Option, Some, None}
use Rattle.std.specs.Option.{option_or}
use Rattle.std.specs.Bool.{then_some}
use Rattle.laws.specs.Bits.{pick}
use Rattle.machine.specs.declared.WordSlice.{WordSlice}
use Rattle.machine.specs.Resolution.{lowest}

or_none : (f : Option WordSlice) → option_or f None ≡ f
or_none (Some k) = refl
or_none None = refl

or_assoc : (f g h : Option WordSlice) → option_or (option_or f g) h ≡ option_or f (option_or g h)
or_assoc (Some k) g h = refl
or_assoc None g h = refl

-- word k, by its number
abbrev pub word : ℕ → WordSlice
word k = record { 0 = k }

first_or : (t : Bool) (k : WordSlice) (f : Option WordSlice) → option_or (then_some t k) f ≡ pick t (Some k) f
first_or true k f = refl
first_or false k f = refl

module _ (test : ℕ → Bool) where
  -- one word, then the rest
  head_first : (k x : ℕ) (xs : List ℕ) → lowest test k (x ∷ xs) ≡ option_or (then_some (test x) (word k)) (lowest test (suc k) xs)
  unfolding lowest
  head_first k x xs = sym (first_or (test x) (word k) (lowest test (suc k) xs))

  -- ---- the tree: no word, one word, two halves

  pub no_word : (k : ℕ) (xs : List ℕ) → length xs < 1 → None ≡ lowest test k xs
  unfolding lowest
  no_word k [] h = refl
  no_word k (x ∷ xs) h = absurd (omega arith)

  pub one_word : (k : ℕ) (xs : List ℕ) → 1 ≤ length xs → length xs < 2 → then_some (test (get_or xs 0 0)) (word k) ≡ lowest test k xs
  unfolding lowest
  one_word k [] h g = absurd (omega arith)
  one_word k (x ∷ []) h g = sym (or_none (then_some (test x) (word k))) ∙ first_or (test x) (word k) None
  one_word k (x ∷ y ∷ xs) h g = absurd (omega arith)

  pub joint : (k : ℕ) (xs ys : List ℕ) → lowest test k (xs ++ ys) ≡ option_or (lowest test k xs) (lowest test (k + length xs) ys)
  unfolding lowest
  joint k [] ys = rw add-zero
  joint k (x ∷ xs) ys =
      let e : suc k + length xs ≡ k + length (x ∷ xs) = omega arith in
      head_first k x (xs ++ ys)
      ∙ ap (option_or (then_some (test x) (word k))) (joint (suc k) xs ys ∙ ap (λ (n : ℕ). option_or (lowest test (suc k) xs) (lowest test n ys)) e)
      ∙ sym (or_assoc (then_some (test x) (word k)) (lowest test (suc k) xs) (lowest test (k + length (x ∷ xs)) ys))
      ∙ sym (ap (λ (f : Option WordSlice). option_or f (lowest test (k + length (x ∷ xs)) ys)) (head_first k x xs))
