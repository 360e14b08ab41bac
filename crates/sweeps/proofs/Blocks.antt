-- A block of a sweep: the part from i to e, lent to a callee and put back; and response bits by a block's flags, which are those by its words.
use Rattle.std.proofs.Common.{◌≡◌, ℕ, suc, ◌+◌, ◌-◌, ◌<◌, ◌≤◌, Bool, List, [], ◌∷◌, ◌++◌, length, get_or, take, drop, refl, ap, ◌∙◌, subst, ap₂, arith, length-drop, length-take-le}
use Rattle.laws.specs.Bits.{digit}
use Rattle.laws.specs.Lists.{count}
use Rattle.sweeps.specs.Along.{along}
use Rattle.sweeps.proofs.Along.{Walk, block, Tally, block_counts}

-- the part from i to e
abbrev pub between : ℕ → ℕ → List ℕ → List ℕ
between i e ys = take (e - i) (drop i ys)

-- ys with that part replaced
abbrev pub replaced : ℕ → ℕ → List ℕ → List ℕ → List ℕ
replaced i e ys part = take i ys ++ (part ++ drop (e - i) (drop i ys))

pub length_between : (i e : ℕ) (ys : List ℕ) → e ≤ length ys → length (between i e ys) ≡ e - i
length_between i e ys h = length-take-le (e - i) (drop i ys) (omega (arith, length-drop i ys))

module _ (i e : ℕ) (up : i ≤ e) where
  here_on : i + (e - i) ≡ e
  here_on = omega arith

  pub to_end : (f : ℕ → ℕ → ℕ) (xs ys₀ ys part : List ℕ) → Walk f xs ys₀ ys i → e ≤ length xs → e ≤ length ys₀
      → part ≡ along f (between i e xs) (between i e ys) → Walk f xs ys₀ (replaced i e ys part) e
  to_end f xs ys₀ ys part w a b h =
      subst (Walk f xs ys₀ (replaced i e ys part)) here_on
      (block f xs ys₀ ys i w part (e - i) (omega arith) (omega arith) (h ∙ ap (λ (l : List ℕ). along f (between i e xs) (take (e - i) l)) w.left))

  pub counts_to_end : (h : ℕ → ℕ → Bool) (xs ys : List ℕ) (n q : ℕ) → Tally h xs ys n i → e ≤ length xs → e ≤ length ys
      → q ≡ count h (between i e xs) (between i e ys) → Tally h xs ys (n + q) e
  counts_to_end h xs ys n q t a b g =
      subst (Tally h xs ys (n + q)) here_on (block_counts h xs ys n q i (e - i) t (omega arith) (omega arith) g)

-- ---- by flags

module _ (flag : ℕ → ℕ) where
  -- hs begins with the flags of ws
  abbrev pub Flags : List ℕ → List ℕ → Type 0
  Flags ws hs = (j : ℕ) → j < length ws → get_or hs j 0 ≡ flag (get_or ws j 0)

  pub by_flags : (g : ℕ → ℕ → ℕ) (hs ws rs : List ℕ) → length rs ≡ length ws → length ws ≤ length hs → Flags ws hs
      → along g hs rs ≡ along (λ w r. g (flag w) r) ws rs
  unfolding along
  by_flags g [] [] rs a b p = refl
  by_flags g (x ∷ hs) [] [] a b p = refl
  by_flags g (x ∷ hs) [] (r ∷ rs) a b p = absurd (omega arith)
  by_flags g [] (w ∷ ws) rs a b p = absurd (omega arith)
  by_flags g (x ∷ hs) (w ∷ ws) [] a b p = refl
  by_flags g (x ∷ hs) (w ∷ ws) (r ∷ rs) a b p =
      ap₂ (λ (y : ℕ) (l : List ℕ). g y r ∷ l) (p 0 (omega arith)) (by_flags g hs ws rs (omega arith) (omega arith) (λ j k. p (suc j) (omega arith)))

  pub count_flags : (g : ℕ → ℕ → Bool) (hs ws rs : List ℕ) → length rs ≡ length ws → length ws ≤ length hs → Flags ws hs
      → count g hs rs ≡ count (λ w r. g (flag w) r) ws rs
  unfolding count
  count_flags g [] [] rs a b p = refl
  count_flags g (x ∷ hs) [] [] a b p = refl
  count_flags g (x ∷ hs) [] (r ∷ rs) a b p = absurd (omega arith)
  count_flags g [] (w ∷ ws) rs a b p = absurd (omega arith)
  count_flags g (x ∷ hs) (w ∷ ws) [] a b p = refl
  count_flags g (x ∷ hs) (w ∷ ws) (r ∷ rs) a b p =
      ap₂ (λ (y l : ℕ). digit (g y r) + l) (p 0 (omega arith)) (count_flags g hs ws rs (omega arith) (omega arith) (λ j k. p (suc j) (omega arith)))
