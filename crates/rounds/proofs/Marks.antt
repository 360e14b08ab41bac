-- One response: bit x as a mask, and what an answer does to each of its bits.
use Prim.Native.Nat.{ℕ, zero, suc, ◌+◌, ◌-◌, ◌*◌, ◌/◌, ◌%◌, ◌^◌, ◌<◌}
use mathlib.Core.Path.{◌≡◌, refl, sym, ap, ap₂, ◌∙◌}
use mathlib.Core.Bool.{Bool, true, false, ◌||◌}
use mathlib.Core.Logic.{⊎_elim}
use mathlib.Core.List.{List, [], ◌∷◌}
use native.Mathlib.Nat.{mod-eq_of_lt, pow-suc}
use native.Mathlib.Omega.{arith}
use lib.Dec.{eqb}
use lib.Bits.{bit_and, bit_or}
use lib.Pow.{pow-lt, high, low}
use borrow.Author.Tests.{eq-eqb, ne_eqb}
use Rattle.laws.specs.Bits.{bit, number, every, pick, digit}
use Rattle.laws.proofs.Digits.{tri, div_suc, bit_lt}
use Rattle.laws.proofs.Bits.{digit_at, number_like, number_lt, every_at, every_all, low_bit, bit_none}
use Rattle.std.specs.Prelude.{Option, Some}
use Rattle.machine.specs.declared.WordSlice.{WordSlice}
use Rattle.machine.specs.declared.ResponseBit.{ResponseBit}
use Rattle.machine.specs.Machine.{response_bits, selected}
use Rattle.machine.specs.Resolution.{lowest}
use Rattle.machine.specs.Search.{marked}
use Rattle.machine.proofs.Masks.{marked_is}
use Rattle.rounds.specs.declared.Verdict.TheVariants.{Done, Faulty}
use Rattle.rounds.specs.Round.{has, put, answered}

-- ---- the bits of the number that bits make

top_digit : (k a n : ℕ) → a < 2 → n < 2 ^ k → bit (a * 2 ^ k + n) k ≡ a
top_digit k a n h g = rw (high a k g) (mod-eq_of_lt h)

lower_digit : (k a n i : ℕ) → n < 2 ^ k → i < k → bit (a * 2 ^ k + n) i ≡ bit n i
lower_digit k a n i g l = sym (low_bit k (a * 2 ^ k + n) i l) ∙ ap (λ (y : ℕ). bit y i) (low a k g)

pub number_bit : (k : ℕ) (f : ℕ → ℕ) (i : ℕ) → ((j : ℕ) → j < k → f j < 2) → i < k → bit (number k f) i ≡ f i
unfolding number
number_bit zero f i h g = absurd (omega arith)
number_bit (suc k) f i h g =
    let rest : number k f < 2 ^ k = number_lt k f (λ j l. h j (omega arith)) in
    ⊎_elim (λ l. lower_digit k (f k) (number k f) i rest l ∙ number_bit k f i (λ j u. h j (omega arith)) l)
    (⊎_elim (λ e. rw e (top_digit k (f k) (number k f) (h k (omega arith)) rest)) (λ u. absurd (omega arith)))
    (tri i k)

-- ---- the number that has bit x alone

half : (x : ℕ) → 2 ^ suc x / 2 ≡ 2 ^ x
half x = rw (pow-suc 2 x) (omega arith)

pub mask_here : (x : ℕ) → bit (2 ^ x) x ≡ 1
mask_here zero = refl
mask_here (suc x) = rw (div_suc (2 ^ suc x) x, half x) (mask_here x)

pub mask_else : (x i : ℕ) → (i ≡ x → ⊥) → bit (2 ^ x) i ≡ 0
mask_else zero zero h = absurd (h refl)
mask_else zero (suc i) h = rw (div_suc 1 i) (bit_none i)
mask_else (suc x) zero h = rw (pow-suc 2 x) (omega arith)
mask_else (suc x) (suc i) h = rw (div_suc (2 ^ suc x) i, half x) (mask_else x i (λ e. h (ap suc e)))

-- `1 << x` in a response
pub shifted : (x : ℕ) → x < response_bits → 1 * 2 ^ x % 2 ^ response_bits ≡ 2 ^ x
shifted x h = let e : 1 * 2 ^ x ≡ 2 ^ x = omega arith in rw e (mod-eq_of_lt (pow-lt h))

-- ---- having bit x is being selected with x as key and care

-- a test that holds at every place but x holds throughout exactly if it holds at x
every_one : (k x : ℕ) (f : ℕ → Bool) → x < k → ((i : ℕ) → (i ≡ x → ⊥) → f i ≡ true) → every k f ≡ f x
every_one k x f h g = go (f x) (every k f) refl refl
  where
    at : f x ≡ true → (i : ℕ) → i < k → f i ≡ true
    at e i l = ⊎_elim (λ u. g i (λ z. absurd (omega arith))) (⊎_elim (λ z. ap f z ∙ e) (λ u. g i (λ z. absurd (omega arith)))) (tri i x)

    go : (a b : Bool) → f x ≡ a → every k f ≡ b → b ≡ a
    go true b e d = sym d ∙ every_all k f (at e)
    go false true e d = sym (every_at k f d x h) ∙ e
    go false false e d = refl

pub selected_has : (x : ResponseBit) (r : ℕ) → x.0 < response_bits → selected (2 ^ x.0) (2 ^ x.0) r ≡ has x r
unfolding selected
selected_has x r h =
    every_one response_bits x.0 (λ i. eqb (bit (2 ^ x.0) i) 0 || eqb (bit r i) (bit (2 ^ x.0) i)) h (λ i g. rw (mask_else x.0 i g))
    ∙ ap (λ (b : ℕ). eqb b 0 || eqb (bit r x.0) b) (mask_here x.0)

-- two tests that agree find the same
lowest_like : (f g : ℕ → Bool) (k : ℕ) (rs : List ℕ) → ((r : ℕ) → f r ≡ g r) → lowest f k rs ≡ lowest g k rs
unfolding lowest
lowest_like f g k [] h = refl
lowest_like f g k (r ∷ rs) h = ap₂ (λ (t : Bool) (s : Option WordSlice). pick t (Some (record { 0 = k })) s) (h r) (lowest_like f g (suc k) rs h)

pub lowest_mask : (x : ResponseBit) (k : ℕ) (rs : List ℕ) → x.0 < response_bits
    → lowest (selected (1 * 2 ^ x.0 % 2 ^ response_bits) (1 * 2 ^ x.0 % 2 ^ response_bits)) k rs ≡ lowest (has x) k rs
lowest_mask x k rs h = rw (shifted x.0 h) (lowest_like _ (has x) k rs (λ r. selected_has x r h))

-- ---- one bit put, as a mask

mask_test : (x i : ℕ) → eqb (bit (2 ^ x) i) 1 ≡ eqb i x
mask_test x i =
    ⊎_elim (λ u. else (λ z. absurd (omega arith))) (⊎_elim (λ z. here z) (λ u. else (λ z. absurd (omega arith)))) (tri i x)
  where
    here : i ≡ x → eqb (bit (2 ^ x) i) 1 ≡ eqb i x
    here z = ap (λ (y : ℕ). eqb (bit (2 ^ x) y) 1) z ∙ ap (λ (b : ℕ). eqb b 1) (mask_here x) ∙ sym (eq-eqb i x z)

    else : (i ≡ x → ⊥) → eqb (bit (2 ^ x) i) 1 ≡ eqb i x
    else z = ap (λ (b : ℕ). eqb b 1) (mask_else x i z) ∙ sym (ne_eqb i x z)

put_marked : (x : ResponseBit) (b : Bool) (r : ℕ) → put x (digit b) r ≡ marked (2 ^ x.0) b r
unfolding put marked
put_marked x b r =
    number_like response_bits _ _ (λ i g. ap (λ (t : Bool). pick t (digit b) (bit r i)) (sym (mask_test x.0 i)))

pub cleared : (x : ResponseBit) (r : ℕ) → x.0 < response_bits → r < 2 ^ response_bits → put x 0 r ≡ bit_and r (2 ^ response_bits - 1 - 2 ^ x.0)
cleared x r h g = put_marked x false r ∙ marked_is (2 ^ x.0) false r g (pow-lt h)

pub raised : (x : ResponseBit) (r : ℕ) → x.0 < response_bits → r < 2 ^ response_bits → put x 1 r ≡ bit_or r (2 ^ x.0)
raised x r h g = put_marked x true r ∙ marked_is (2 ^ x.0) true r g (pow-lt h)

put_digit : (x : ResponseBit) (v r j : ℕ) → v < 2 → pick (eqb j x.0) v (bit r j) < 2
put_digit x v r j h = go (eqb j x.0)
  where
    go : (b : Bool) → pick b v (bit r j) < 2
    go true = h
    go false = bit_lt (digit_at r j)

pub put_lt : (x : ResponseBit) (v r : ℕ) → v < 2 → put x v r < 2 ^ response_bits
unfolding put
put_lt x v r h = number_lt response_bits _ (λ j g. put_digit x v r j h)

-- an answer, by masks
pub done_mask : (x f : ResponseBit) (r : ℕ) → x.0 < response_bits → r < 2 ^ response_bits
    → bit_and r (2 ^ response_bits - 1 - 1 * 2 ^ x.0 % 2 ^ response_bits) ≡ answered x f Done r
done_mask x f r h g = ap (λ (t : ℕ). bit_and r (2 ^ response_bits - 1 - t)) (shifted x.0 h) ∙ sym (cleared x r h g)

pub faulty_mask : (x f : ResponseBit) (r : ℕ) → x.0 < response_bits → f.0 < response_bits → r < 2 ^ response_bits
    → bit_or (bit_and r (2 ^ response_bits - 1 - 1 * 2 ^ x.0 % 2 ^ response_bits)) (1 * 2 ^ f.0 % 2 ^ response_bits) ≡ answered x f Faulty r
faulty_mask x f r h k g =
    ap₂ bit_or (done_mask x f r h g) (shifted f.0 k) ∙ sym (raised f (put x 0 r) k (put_lt x 0 r (omega arith)))

-- ---- the bits of a response with one bit put

pub put_bit : (x : ResponseBit) (v r i : ℕ) → v < 2 → i < response_bits → bit (put x v r) i ≡ pick (eqb i x.0) v (bit r i)
unfolding put
put_bit x v r i h g = number_bit response_bits _ i (λ j l. put_digit x v r j h) g

pub put_here : (x : ResponseBit) (v r : ℕ) → v < 2 → x.0 < response_bits → bit (put x v r) x.0 ≡ v
put_here x v r h g = put_bit x v r x.0 h g ∙ ap (λ (t : Bool). pick t v (bit r x.0)) (eq-eqb x.0 x.0 refl)

pub put_else : (x : ResponseBit) (v r i : ℕ) → v < 2 → i < response_bits → (i ≡ x.0 → ⊥) → bit (put x v r) i ≡ bit r i
put_else x v r i h g z = put_bit x v r i h g ∙ ap (λ (t : Bool). pick t v (bit r i)) (ne_eqb i x.0 z)
