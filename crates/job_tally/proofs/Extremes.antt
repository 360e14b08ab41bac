-- The extreme value, word by word: the extreme so far, with the extreme of the rest, is that of all.
use Prim.Native.Nat.{ℕ, ◌-◌, ◌/◌, ◌%◌, ◌^◌, ◌≤◌, ◌<◌, min, max}
use mathlib.Core.Path.{◌≡◌, refl, sym, ap, ◌∙◌}
use mathlib.Core.Bool.{Bool, true, false}
use mathlib.Core.List.{List, [], ◌∷◌}
use native.Mathlib.Nat.{mod-lt}
use native.Mathlib.Omega.{arith}
use lib.Pow.{pow_pos}
use lib.ListN.{length}
use Rattle.laws.specs.Bits.{pick}
use Rattle.laws.proofs.Bits.{shifted, number_is}
use Rattle.machine.specs.Machine.{selected}
use Rattle.job_plans.specs.declared.Span.{Span}
use Rattle.job_plans.specs.declared.Job.{Job}
use Rattle.job_tally.specs.Totals.{value_of, values, greatest_of, smallest_of}

-- a value more, or not
abbrev pub keep_value : Bool → ℕ → List ℕ → List ℕ
keep_value chosen v vs = pick chosen (v ∷ vs) vs

-- a syllable is what stands above its lowest bit, modulo 2 to its width
pub value_is : (s : Span) (w : ℕ) → w / 2 ^ s.low.0 % 2 ^ s.width ≡ value_of s w
value_is s w = sym (number_is s.width (w / 2 ^ s.low.0) _ (λ j g. sym (shifted w s.low.0 j)))

value_lt : (s : Span) (w : ℕ) → value_of s w < 2 ^ s.width
value_lt s w = rw (← (value_is s w)) (mod-lt (w / 2 ^ s.low.0) (pow_pos s.width))

-- the extreme of a list; `top` stands where there is none and the smallest is asked for
abbrev pub extreme : Bool → ℕ → List ℕ → ℕ
extreme small top vs = pick small (smallest_of top vs) (greatest_of vs)

abbrev pub further : Bool → ℕ → ℕ → ℕ
further small x y = pick small (min x y) (max x y)

module _ (top : ℕ) where
  smallest_le : (vs : List ℕ) → smallest_of top vs ≤ top
  unfolding smallest_of
  smallest_le [] = omega arith
  smallest_le (v ∷ vs) = omega (arith, smallest_le vs)

  first : (small : Bool) (vs : List ℕ) → further small (pick small top 0) (extreme small top vs) ≡ extreme small top vs
  first true vs = omega (arith, smallest_le vs)
  first false vs = omega arith

  last : (small : Bool) (x : ℕ) → x ≤ top → further small x (extreme small top []) ≡ x
  unfolding smallest_of greatest_of
  last true x h = omega arith
  last false x h = omega arith

  -- one value more, or one word that is not selected
  one_more : (small chosen : Bool) (x v : ℕ) (vs : List ℕ)
      → further small (pick chosen (further small x v) x) (extreme small top vs) ≡ further small x (extreme small top (keep_value chosen v vs))
  unfolding smallest_of greatest_of
  one_more true true x v vs = omega arith
  one_more true false x v vs = refl
  one_more false true x v vs = omega arith
  one_more false false x v vs = refl

  stays : (small chosen : Bool) (x v : ℕ) → x ≤ top → v ≤ top → pick chosen (further small x v) x ≤ top
  stays true true x v h g = omega arith
  stays false true x v h g = omega arith
  stays true false x v h g = h
  stays false false x v h g = h

-- with `left` and `right` still to come
pub record Seen (o : Job) (small : Bool) (ws rs left right : List ℕ) (best : ℕ) : Type 0 where
  pub fits : best ≤ 2 ^ o.a.width - 1
  pub whole : further small best (extreme small (2 ^ o.a.width - 1) (values o left right)) ≡ extreme small (2 ^ o.a.width - 1) (values o ws rs)

module _ (o : Job) (small : Bool) (ws rs : List ℕ) where
  pub start : (x : ℕ) (left right : List ℕ) → left ≡ ws → right ≡ rs → x ≡ pick small (2 ^ o.a.width - 1) 0 → Seen o small ws rs left right x
  start x left right l r e = record { fits = rw e (low small); whole = rw (e, l, r) (first (2 ^ o.a.width - 1) small (values o ws rs)) }
    where
      low : (s : Bool) → pick s (2 ^ o.a.width - 1) 0 ≤ 2 ^ o.a.width - 1
      low true = omega arith
      low false = omega arith

  pub turn : (x best w r : ℕ) (before_left before_right left right : List ℕ) → Seen o small ws rs before_left before_right best
      → (before_left ≡ w ∷ left) × (before_right ≡ r ∷ right)
      → x ≡ pick (selected o.key o.care r) (further small best (value_of o.a w)) best → Seen o small ws rs left right x
  unfolding values
  turn x best w r before_left before_right left right s e d =
      let v = value_of o.a w in
      let top = 2 ^ o.a.width - 1 in
      let c = selected o.key o.care r in
      record {
        fits = rw d (stays top small c best v s.fits (omega (arith, value_lt o.a w)));
        whole = rw d (one_more top small c best v (values o left right)) ∙ rw (e.0, e.1) at s.whole;
      }

  none_left : (left right : List ℕ) → min (length left) (length right) ≡ 0 → values o left right ≡ []
  unfolding values
  none_left [] right h = refl
  none_left (w ∷ left) [] h = refl
  none_left (w ∷ left) (r ∷ right) h = absurd (omega arith)

  pub done : (best : ℕ) (left right : List ℕ) → Seen o small ws rs left right best → min (length left) (length right) ≡ 0
      → (best ≡ extreme small (2 ^ o.a.width - 1) (values o ws rs)) × (best < 2 ^ o.a.width)
  done best left right s h = (
    sym (last (2 ^ o.a.width - 1) small best s.fits)
        ∙ ap (λ (vs : List ℕ). further small best (extreme small (2 ^ o.a.width - 1) vs)) (sym (none_left left right h))
        ∙ s.whole,
    omega (arith, s.fits, pow_pos o.a.width),
  )
