-- A walk over two lists side by side, both changed as it goes: what is done and what is left to do give the whole.
use Prim.Native.Nat.{ℕ, suc, ◌+◌, ◌≤◌, ◌<◌}
use mathlib.Core.Path.{◌≡◌, refl, sym, ap, ap₂, ◌∙◌}
use mathlib.Core.List.{List, [], ◌∷◌, ◌++◌, append-nil}
use mathlib.Core.Bool.{Bool, true, false}
use native.Mathlib.Nat.{le_refl}
use native.Mathlib.Numerals.{add-one}
use native.Mathlib.Omega.{arith}
use lib.ListN.{length, take, drop, set, get_or, length-set, drop_of_length-le}
use lib.Seq.{take-suc-set, drop-set-lt, drop-cons, append_snoc, take_all}
use Rattle.laws.specs.Bits.{digit}
use Rattle.laws.specs.Lists.{zip, count}

-- after i steps: f and g have been stored up to i, n have passed the test h
pub record Walk (f g : ℕ → ℕ → ℕ → ℕ) (h : ℕ → ℕ → Bool) (ws₀ rs₀ ws rs : List ℕ) (n i : ℕ) : Type 0 where
  pub within : i ≤ length ws₀
  pub first : length ws ≡ length ws₀
  pub second : length rs ≡ length ws₀
  pub few : n ≤ i
  pub left : take i ws ++ zip f i (drop i ws) (drop i rs) ≡ zip f 0 ws₀ rs₀
  pub right : take i rs ++ zip g i (drop i ws) (drop i rs) ≡ zip g 0 ws₀ rs₀
  pub counts : n + count h (drop i ws) (drop i rs) ≡ count h ws₀ rs₀

-- one store into each list; `l` is the list that `f` answers for
module _ (f : ℕ → ℕ → ℕ → ℕ) (ws rs l : List ℕ) (i x y v : ℕ) (hw : i < length ws) (hr : i < length rs) (hl : i < length l) where
  zip_step : v ≡ f i (get_or ws i 0) (get_or rs i 0)
      → take (suc i) (set l i v) ++ zip f (suc i) (drop (suc i) (set ws i x)) (drop (suc i) (set rs i y)) ≡ take i l ++ zip f i (drop i ws) (drop i rs)
  unfolding zip
  zip_step e =
      ap₂ (λ (a b : List ℕ). a ++ zip f (suc i) b (drop (suc i) (set rs i y))) (take-suc-set l i v hl) (drop-set-lt (suc i) ws i x (le_refl _))
      ∙ ap (λ (b : List ℕ). (take i l ++ (v ∷ [])) ++ zip f (suc i) (drop (suc i) ws) b) (drop-set-lt (suc i) rs i y (le_refl _))
      ∙ append_snoc (take i l) v (zip f (suc i) (drop (suc i) ws) (drop (suc i) rs))
      ∙ ap (λ (a : ℕ). take i l ++ a ∷ zip f (suc i) (drop (suc i) ws) (drop (suc i) rs)) e
      ∙ sym (ap₂ (λ (a b : List ℕ). take i l ++ zip f i a b) (drop-cons ws i 0 hw) (drop-cons rs i 0 hr))

module _ (h : ℕ → ℕ → Bool) (ws rs : List ℕ) (i x y n : ℕ) (t : Bool) (hw : i < length ws) (hr : i < length rs) where
  count_step : t ≡ h (get_or ws i 0) (get_or rs i 0)
      → (n + digit t) + count h (drop (suc i) (set ws i x)) (drop (suc i) (set rs i y)) ≡ n + count h (drop i ws) (drop i rs)
  unfolding count
  count_step e =
      rw (drop-set-lt (suc i) ws i x (le_refl _), drop-set-lt (suc i) rs i y (le_refl _), drop-cons ws i 0 hw, drop-cons rs i 0 hr, ← e) (omega arith)

module _ (f g : ℕ → ℕ → ℕ → ℕ) (h : ℕ → ℕ → Bool) (ws₀ rs₀ : List ℕ) where
  pub start : length rs₀ ≡ length ws₀ → Walk f g h ws₀ rs₀ ws₀ rs₀ 0 0
  start e = record { within = omega arith; first = refl; second = e; few = omega arith; left = refl; right = refl; counts = omega arith }

  pub step : (ws rs : List ℕ) (n i x y : ℕ) (t : Bool) → Walk f g h ws₀ rs₀ ws rs n i → i < length ws
      → x ≡ f i (get_or ws i 0) (get_or rs i 0) → y ≡ g i (get_or ws i 0) (get_or rs i 0) → t ≡ h (get_or ws i 0) (get_or rs i 0)
      → Walk f g h ws₀ rs₀ (set ws i x) (set rs i y) (n + digit t) (i + 1)
  step ws rs n i x y t w k ex ey et =
      let hr : i < length rs = omega arith in
      rw (add-one i) (record {
        within = omega arith;
        first = length-set ws i x ∙ w.first;
        second = length-set rs i y ∙ w.second;
        few = some t;
        left = zip_step f ws rs ws i x y x k hr k ex ∙ w.left;
        right = zip_step g ws rs rs i x y y k hr hr ey ∙ w.right;
        counts = count_step h ws rs i x y n t k hr et ∙ w.counts;
      })
    where
      some : (t : Bool) → n + digit t ≤ suc i
      some true = omega arith
      some false = omega arith

  pub done : (ws rs : List ℕ) (n i : ℕ) → Walk f g h ws₀ rs₀ ws rs n i → length ws ≤ i
      → (n ≡ count h ws₀ rs₀) × (ws ≡ zip f 0 ws₀ rs₀) × (rs ≡ zip g 0 ws₀ rs₀)
  unfolding zip count
  done ws rs n i w k = (
    omega (arith, ap (λ (x : List ℕ). count h x (drop i rs)) (drop_of_length-le ws k), w.counts),
    sym (append-nil ws) ∙ sym (ap₂ (λ (a b : List ℕ). a ++ zip f i b (drop i rs)) (take_all i ws k) (drop_of_length-le ws k)) ∙ w.left,
    sym (append-nil rs) ∙ sym (ap₂ (λ (a b : List ℕ). a ++ zip g i b (drop i rs)) (take_all i rs (omega arith)) (drop_of_length-le ws k)) ∙ w.right,
  )
