-- Document 01, 'One pulse', Resolution: "The lowest-numbered selected word, or none exactly if no word is selected."
-- The definitions `lowest` and `resolved` say exactly that, in both directions.
use Prim.Native.Nat.{ℕ, zero, suc, ◌+◌, ◌<◌}
use mathlib.Core.Path.{◌≡◌, refl, ap, ◌∙◌}
use mathlib.Core.Bool.{Bool, true, false}
use mathlib.Core.List.{List, [], ◌∷◌}
use native.Mathlib.Omega.{arith}
use lib.ListN.{get_or}
use Rattle.laws.specs.Bits.{pick}
use Rattle.machine.specs.declared.WordSlice.{WordSlice}
use Rattle.std.specs.Prelude.{Some, None}
use Rattle.machine.specs.Machine.{Machine, selected}
use Rattle.machine.specs.Resolution.{lowest, resolved}
use Rattle.resolver.specs.Answers.{NonePasses, LowestAt}

-- two answers of a test
apart : {A : Type 0} {b : Bool} → b ≡ true → b ≡ false → A
apart h g = absurd (let z : ◌≡◌ {A = ℕ} 0 1 = cc in omega arith)

-- ---- one element in front

none_behind : (test : ℕ → Bool) (x : ℕ) (xs : List ℕ) → NonePasses test (x ∷ xs) → NonePasses test xs
none_behind test x xs h i g = h (suc i) (omega arith)

none_cons : (test : ℕ → Bool) (x : ℕ) (xs : List ℕ) → test x ≡ false → NonePasses test xs → NonePasses test (x ∷ xs)
none_cons test x xs e h zero g = e
none_cons test x xs e h (suc i) g = h i (omega arith)

lowest_head : (test : ℕ → Bool) (x : ℕ) (xs : List ℕ) → test x ≡ true → LowestAt test (x ∷ xs) 0
lowest_head test x xs e = record { within = omega arith; passes = e; none_lower = λ j g. absurd (omega arith) }

lowest_cons : (test : ℕ → Bool) (x : ℕ) (xs : List ℕ) (i : ℕ) → test x ≡ false → LowestAt test xs i → LowestAt test (x ∷ xs) (suc i)
lowest_cons test x xs i e l = record { within = omega (arith, l.within); passes = l.passes; none_lower = lower }
  where
    lower : (j : ℕ) → j < suc i → test (get_or (x ∷ xs) j 0) ≡ false
    lower zero g = e
    lower (suc j) g = l.none_lower j (omega arith)

lowest_behind : (test : ℕ → Bool) (x : ℕ) (xs : List ℕ) (i : ℕ) → LowestAt test (x ∷ xs) (suc i) → LowestAt test xs i
lowest_behind test x xs i l =
    record { within = omega (arith, l.within); passes = l.passes; none_lower = λ j g. l.none_lower (suc j) (omega arith) }

-- ---- numbered from k

-- the number w stands at a place of the list that is the lowest to pass
record Numbered (test : ℕ → Bool) (k : ℕ) (xs : List ℕ) (w : ℕ) : Type 0 where
  place : ℕ
  is : w ≡ k + place
  low : LowestAt test xs place

none_from : (test : ℕ → Bool) (k : ℕ) (xs : List ℕ) → lowest test k xs ≡ None → NonePasses test xs
unfolding lowest
none_from test k [] h = λ i g. absurd (omega arith)
none_from test k (x ∷ xs) h = go (test x) refl h (none_from test (suc k) xs)
  where
    go : (b : Bool) → test x ≡ b → pick b (Some (record { 0 = k })) (lowest test (suc k) xs) ≡ None
        → (lowest test (suc k) xs ≡ None → NonePasses test xs) → NonePasses test (x ∷ xs)
    go true e g rest = absurd (let z : ◌≡◌ {A = ℕ} 0 1 = cc in omega arith)
    go false e g rest = none_cons test x xs e (rest g)

from_none : (test : ℕ → Bool) (k : ℕ) (xs : List ℕ) → NonePasses test xs → lowest test k xs ≡ None
unfolding lowest
from_none test k [] h = refl
from_none test k (x ∷ xs) h = rw (h 0 (omega arith)) (from_none test (suc k) xs (none_behind test x xs h))

found_from : (test : ℕ → Bool) (k : ℕ) (xs : List ℕ) (w : WordSlice) → lowest test k xs ≡ Some w → Numbered test k xs w.0
unfolding lowest
found_from test k [] w h = absurd (let z : ◌≡◌ {A = ℕ} 0 1 = cc in omega arith)
found_from test k (x ∷ xs) w h = go (test x) refl h (found_from test (suc k) xs w)
  where
    behind : test x ≡ false → Numbered test (suc k) xs w.0 → Numbered test k (x ∷ xs) w.0
    behind e n = record { place = suc n.place; is = omega (arith, n.is); low = lowest_cons test x xs n.place e n.low }

    go : (b : Bool) → test x ≡ b → pick b (Some (record { 0 = k })) (lowest test (suc k) xs) ≡ Some w
        → (lowest test (suc k) xs ≡ Some w → Numbered test (suc k) xs w.0) → Numbered test k (x ∷ xs) w.0
    go true e g rest =
        let s : ◌≡◌ {A = WordSlice} w (record { 0 = k }) = cc in
        record { place = 0; is = omega (arith, ap (λ (v : WordSlice). v.0) s); low = lowest_head test x xs e }
    go false e g rest = behind e (rest g)

from_found : (test : ℕ → Bool) (k : ℕ) (xs : List ℕ) (i : ℕ) → LowestAt test xs i → lowest test k xs ≡ Some (record { 0 = k + i })
unfolding lowest
from_found test k [] i l = absurd (omega (arith, l.within))
from_found test k (x ∷ xs) zero l =
    let e : k + 0 ≡ k = omega arith in
    rw (l.passes, e)
from_found test k (x ∷ xs) (suc i) l =
    let e : k + suc i ≡ suc k + i = omega arith in
    rw (l.none_lower 0 (omega arith), e) (from_found test (suc k) xs i (lowest_behind test x xs i l))

-- ---- the two sentences, for any test

pub none_exactly : (test : ℕ → Bool) (xs : List ℕ)
    → (lowest test 0 xs ≡ None → NonePasses test xs) × (NonePasses test xs → lowest test 0 xs ≡ None)
none_exactly test xs = (none_from test 0 xs, from_none test 0 xs)

pub found_exactly : (test : ℕ → Bool) (xs : List ℕ) (w : WordSlice)
    → (lowest test 0 xs ≡ Some w → LowestAt test xs w.0) × (LowestAt test xs w.0 → lowest test 0 xs ≡ Some w)
found_exactly test xs w = (
  λ h. let n = found_from test 0 xs w h in let e : w.0 ≡ n.place = omega (arith, n.is) in rw e n.low,
  λ l. let e : 0 + w.0 ≡ w.0 = omega arith in from_found test 0 xs w.0 l ∙ ap (λ (v : ℕ). Some (record { 0 = v })) e,
)

-- ---- and for selection

-- "none exactly if no word is selected"
pub resolved_none : (key care : ℕ) (m : Machine)
    → (resolved key care m ≡ None → NonePasses (selected key care) m.responses)
    × (NonePasses (selected key care) m.responses → resolved key care m ≡ None)
unfolding resolved
resolved_none key care m = none_exactly (selected key care) m.responses

-- "The lowest-numbered selected word"
pub resolved_word : (key care : ℕ) (m : Machine) (w : WordSlice)
    → (resolved key care m ≡ Some w → LowestAt (selected key care) m.responses w.0)
    × (LowestAt (selected key care) m.responses w.0 → resolved key care m ≡ Some w)
unfolding resolved
resolved_word key care m w = found_exactly (selected key care) m.responses w
