-- A walk along a list that changes beside another: after i steps the first i are done and the rest is as it was, so what the code reads next is
-- what stood there at entry. One step, a block of steps at once, and the end.
use Rattle.std.proofs.Common.{◌≡◌, ℕ, zero, suc, ◌+◌, ◌<◌, ◌≤◌, min, Bool, true, false, List, [], ◌∷◌, ◌++◌, length, get_or, take, drop, set, sym, refl, ap, ◌∙◌, ap₂, append_assoc, add-one, arith, length-append, length-drop, take-append-drop, length-take, length-take-le, get_or-drop, drop-cons, drop-drop, take_at, take-add, drop_at}
use lib.Seq.{set_split}
use mir.Val.{bool_byte}
use Rattle.laws.specs.Bits.{digit}
use Rattle.laws.specs.Lists.{count}
use Rattle.sweeps.specs.Along.{along, each, many}

-- ---- along and count, split at a place that both lists have

pub length_along : (f : ℕ → ℕ → ℕ) (xs ys : List ℕ) → length (along f xs ys) ≡ length ys
unfolding along
length_along f [] ys = refl
length_along f (x ∷ xs) [] = refl
length_along f (x ∷ xs) (y ∷ ys) = ap suc (length_along f xs ys)

along_split : (f : ℕ → ℕ → ℕ) (xs ys : List ℕ) (i : ℕ) → i ≤ length xs → i ≤ length ys
    → along f xs ys ≡ along f (take i xs) (take i ys) ++ along f (drop i xs) (drop i ys)
unfolding along
along_split f xs ys zero h g = refl
along_split f [] ys (suc i) h g = absurd (omega arith)
along_split f (x ∷ xs) [] (suc i) h g = absurd (omega arith)
along_split f (x ∷ xs) (y ∷ ys) (suc i) h g = ap (λ (l : List ℕ). f x y ∷ l) (along_split f xs ys i (omega arith) (omega arith))

count_split : (h : ℕ → ℕ → Bool) (xs ys : List ℕ) (i : ℕ) → i ≤ length xs → i ≤ length ys
    → count h xs ys ≡ count h (take i xs) (take i ys) + count h (drop i xs) (drop i ys)
unfolding count
count_split h xs ys zero p q = omega arith
count_split h [] ys (suc i) p q = absurd (omega arith)
count_split h (x ∷ xs) [] (suc i) p q = absurd (omega arith)
count_split h (x ∷ xs) (y ∷ ys) (suc i) p q = omega (arith, count_split h xs ys i (omega arith) (omega arith))

-- nothing changes
pub along_same : (f : ℕ → ℕ → ℕ) → ((x y : ℕ) → f x y ≡ y) → (xs ys : List ℕ) → ys ≡ along f xs ys
unfolding along
along_same f h [] ys = refl
along_same f h (x ∷ xs) [] = refl
along_same f h (x ∷ xs) (y ∷ ys) = ap₂ (λ (z : ℕ) (l : List ℕ). z ∷ l) (sym (h x y)) (along_same f h xs ys)

pub count_le : (h : ℕ → ℕ → Bool) (xs ys : List ℕ) → count h xs ys ≤ length ys
unfolding count
count_le h [] ys = omega arith
count_le h (x ∷ xs) [] = omega arith
count_le h (x ∷ xs) (y ∷ ys) = one_more (h x y) (count_le h xs ys)
  where
    one_more : (t : Bool) {n m : ℕ} → n ≤ m → digit t + n ≤ suc m
    one_more true k = omega arith
    one_more false k = omega arith

-- the first i, then the next k
along_add : (f : ℕ → ℕ → ℕ) (xs ys : List ℕ) (i k : ℕ) → i + k ≤ length xs → i + k ≤ length ys
    → along f (take (i + k) xs) (take (i + k) ys) ≡ along f (take i xs) (take i ys) ++ along f (take k (drop i xs)) (take k (drop i ys))
along_add f xs ys i k h g =
    let a : length (take i xs) ≡ i = length-take-le i xs (omega arith) in
    let b : length (take i ys) ≡ i = length-take-le i ys (omega arith) in
    ap₂ (along f) (take-add i k xs) (take-add i k ys)
    ∙ along_split f (take i xs ++ take k (drop i xs)) (take i ys ++ take k (drop i ys)) i
    (omega (arith, length-append (take i xs) (take k (drop i xs)))) (omega (arith, length-append (take i ys) (take k (drop i ys))))
    ∙ ap₂ (λ (u v : List ℕ). u ++ v)
    (ap₂ (along f) (take_at (take i xs) (take k (drop i xs)) i a) (take_at (take i ys) (take k (drop i ys)) i b))
    (ap₂ (along f) (drop_at (take i xs) (take k (drop i xs)) i a) (drop_at (take i ys) (take k (drop i ys)) i b))

count_add : (h : ℕ → ℕ → Bool) (xs ys : List ℕ) (i k : ℕ) → i + k ≤ length xs → i + k ≤ length ys
    → count h (take (i + k) xs) (take (i + k) ys) ≡ count h (take i xs) (take i ys) + count h (take k (drop i xs)) (take k (drop i ys))
count_add h xs ys i k p q =
    let a : length (take i xs) ≡ i = length-take-le i xs (omega arith) in
    let b : length (take i ys) ≡ i = length-take-le i ys (omega arith) in
    ap₂ (count h) (take-add i k xs) (take-add i k ys)
    ∙ count_split h (take i xs ++ take k (drop i xs)) (take i ys ++ take k (drop i ys)) i
    (omega (arith, length-append (take i xs) (take k (drop i xs)))) (omega (arith, length-append (take i ys) (take k (drop i ys))))
    ∙ ap₂ (λ (u v : ℕ). u + v)
    (ap₂ (count h) (take_at (take i xs) (take k (drop i xs)) i a) (take_at (take i ys) (take k (drop i ys)) i b))
    (ap₂ (count h) (drop_at (take i xs) (take k (drop i xs)) i a) (drop_at (take i ys) (take k (drop i ys)) i b))

-- the next one
next : (xs : List ℕ) (i : ℕ) → i < length xs → take 1 (drop i xs) ≡ get_or xs i 0 ∷ []
next xs i h = ap (take 1) (drop-cons xs i 0 h)

-- ---- the walk

pub record Walk (f : ℕ → ℕ → ℕ) (xs ys₀ ys : List ℕ) (i : ℕ) : Type 0 where
  pub first : i ≤ length xs
  pub second : i ≤ length ys₀
  pub long : length ys ≡ length ys₀
  pub done : take i ys ≡ along f (take i xs) (take i ys₀)
  pub left : drop i ys ≡ drop i ys₀

module _ (f : ℕ → ℕ → ℕ) (xs ys₀ : List ℕ) where
  pub start : Walk f xs ys₀ ys₀ 0
  unfolding along
  start = record { first = omega arith; second = omega arith; long = refl; done = refl; left = refl }

  module _ (ys : List ℕ) (i : ℕ) (w : Walk f xs ys₀ ys i) where
    -- what stands at i
    pub here : get_or ys i 0 ≡ get_or ys₀ i 0
    here =
        let z : i + 0 ≡ i = omega arith in
        ap (λ (j : ℕ). get_or ys j 0) (sym z) ∙ sym (get_or-drop i ys 0 0) ∙ ap (λ (l : List ℕ). get_or l 0 0) w.left ∙ get_or-drop i ys₀ 0 0
        ∙ ap (λ (j : ℕ). get_or ys₀ j 0) z

    pub block : (part : List ℕ) (k : ℕ) → i + k ≤ length xs → i + k ≤ length ys₀
        → part ≡ along f (take k (drop i xs)) (take k (drop i ys₀)) → Walk f xs ys₀ (take i ys ++ (part ++ drop k (drop i ys))) (i + k)
    block part k h g e =
        let lt : length (take i ys) ≡ i = length-take-le i ys (omega arith) in
        let lp : length part ≡ k = ap length e ∙ length_along f _ _ ∙ length-take-le k (drop i ys₀) (omega (arith, length-drop i ys₀)) in
        let lh : length (take i ys ++ part) ≡ i + k = length-append (take i ys) part ∙ ap₂ (λ (x y : ℕ). x + y) lt lp in
        let ass = sym (append_assoc (take i ys) part (drop k (drop i ys))) in
        record {
          first = h;
          second = g;
          long =
              ap length ass
              ∙ length-append (take i ys ++ part) (drop k (drop i ys))
              ∙ omega (arith, lh, length-drop k (drop i ys), length-drop i ys);
          done =
              ap (take (i + k)) ass
              ∙ take_at (take i ys ++ part) (drop k (drop i ys)) (i + k) lh
              ∙ ap₂ (λ (u v : List ℕ). u ++ v) w.done e
              ∙ sym (along_add f xs ys₀ i k h g);
          left =
              ap (drop (i + k)) ass
              ∙ drop_at (take i ys ++ part) (drop k (drop i ys)) (i + k) lh
              ∙ ap (drop k) w.left
              ∙ drop-drop k i ys₀;
        }

    pub step : (v : ℕ) → i < length xs → i < length ys₀ → v ≡ f (get_or xs i 0) (get_or ys i 0) → Walk f xs ys₀ (set ys i v) (i + 1)
    unfolding along
    step v h g e =
        let s : set ys i v ≡ take i ys ++ ((v ∷ []) ++ drop 1 (drop i ys)) =
        set_split ys i v (omega arith)
        ∙ ap (λ (l : List ℕ). take i ys ++ v ∷ l) (ap (λ (j : ℕ). drop j ys) (sym (add-one i)) ∙ sym (drop-drop 1 i ys)) in
        rw s
        (block (v ∷ []) 1 (omega arith) (omega arith)
        (ap (λ (x : ℕ). x ∷ []) (e ∙ ap (f (get_or xs i 0)) here) ∙ sym (ap₂ (along f) (next xs i h) (next ys₀ i g))))

    pub finish : min (length xs) (length ys₀) ≤ i → ys ≡ along f xs ys₀
    unfolding along
    finish h =
        sym (take-append-drop i ys)
        ∙ ap₂ (λ (u v : List ℕ). u ++ v) w.done (w.left ∙ rest (drop i xs) (drop i ys₀) (over w.first w.second))
        ∙ sym (along_split f xs ys₀ i w.first w.second)
      where
        over : i ≤ length xs → i ≤ length ys₀ → min (length (drop i xs)) (length (drop i ys₀)) ≡ 0
        over a b = omega (arith, length-drop i xs, length-drop i ys₀)

        rest : (us vs : List ℕ) → min (length us) (length vs) ≡ 0 → vs ≡ along f us vs
        rest [] vs e = refl
        rest (u ∷ us) [] e = refl
        rest (u ∷ us) (v ∷ vs) e = absurd (omega arith)

-- ---- the count on the way

pub record Tally (h : ℕ → ℕ → Bool) (xs ys : List ℕ) (n i : ℕ) : Type 0 where
  pub few : n ≤ i
  pub counts : n ≡ count h (take i xs) (take i ys)

module _ (h : ℕ → ℕ → Bool) (xs ys : List ℕ) where
  pub none_yet : Tally h xs ys 0 0
  unfolding count
  none_yet = record { few = omega arith; counts = refl }

  pub block_counts : (n q i k : ℕ) → Tally h xs ys n i → i + k ≤ length xs → i + k ≤ length ys
      → q ≡ count h (take k (drop i xs)) (take k (drop i ys)) → Tally h xs ys (n + q) (i + k)
  block_counts n q i k t a b e =
      record {
        few = omega (arith, t.few, e, count_le h (take k (drop i xs)) (take k (drop i ys)), length-take k (drop i ys));
        counts = ap₂ (λ (u v : ℕ). u + v) t.counts e ∙ sym (count_add h xs ys i k a b);
      }

  pub step_counts : (n i : ℕ) (t : Bool) → Tally h xs ys n i → i < length xs → i < length ys
      → t ≡ h (get_or xs i 0) (get_or ys i 0) → Tally h xs ys (n + digit t) (i + 1)
  unfolding count
  step_counts n i t w a b e =
      block_counts n (digit t) i 1 w (omega arith) (omega arith)
      (ap digit e ∙ none (digit (h (get_or xs i 0) (get_or ys i 0))) ∙ sym (ap₂ (count h) (next xs i a) (next ys i b)))
    where
      none : (x : ℕ) → x ≡ x + 0
      none x = omega arith

  pub all_counted : (n i : ℕ) → Tally h xs ys n i → i ≤ length xs → i ≤ length ys → min (length xs) (length ys) ≤ i → n ≡ count h xs ys
  unfolding count
  all_counted n i t a b m =
      omega (
        arith,
        t.counts,
        count_split h xs ys i a b,
        rest (drop i xs) (drop i ys) (omega (arith, length-drop i xs, length-drop i ys)),
      )
    where
      rest : (us vs : List ℕ) → min (length us) (length vs) ≡ 0 → count h us vs ≡ 0
      rest [] vs e = refl
      rest (u ∷ us) [] e = refl
      rest (u ∷ us) (v ∷ vs) e = absurd (omega arith)

-- ---- a test as a byte

pub byte_is : (t : Bool) → bool_byte t ≡ digit t
byte_is true = refl
byte_is false = refl

pub byte_le : (t : Bool) → bool_byte t ≤ 1
byte_le true = omega arith
byte_le false = omega arith

-- ---- one list alone: it is walked beside itself

pub each_is : (f : ℕ → ℕ) (ys : List ℕ) → each f ys ≡ along (λ x y. f y) ys ys
unfolding each along
each_is f [] = refl
each_is f (y ∷ ys) = ap (λ (l : List ℕ). f y ∷ l) (each_is f ys)

pub many_is : (h : ℕ → Bool) (ys : List ℕ) → many h ys ≡ count (λ x y. h y) ys ys
unfolding many count
many_is h [] = refl
many_is h (y ∷ ys) = ap (λ (n : ℕ). digit (h y) + n) (many_is h ys)
