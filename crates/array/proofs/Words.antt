-- The checks of the words of three buffers, walked by a place k: the lowest that passes a test, and cells as masks of both planes.
use Prim.Native.Nat.{ℕ, zero, suc, ◌+◌, ◌^◌, ◌≤◌, ◌<◌, min}
use mathlib.Core.Path.{◌≡◌, refl, sym, ap, ap₂, ◌∙◌}
use mathlib.Core.Bool.{Bool, true, false, ◌&&◌, ◌||◌, and_assoc, and-true}
use mathlib.Core.List.{List}
use native.Mathlib.Nat.{mod-eq_of_lt}
use native.Mathlib.Numerals.{add-one}
use native.Mathlib.Omega.{arith}
use lib.Dec.{eqb}
use lib.ListN.{length, get_or}
use lib.Pow.{pow_pos}
use lib.Bits.{bit_and, bit_or, and_le_l, and_le_r, or_add_and}
use borrow.Author.Tests.{eq-eqb, ne_eqb}
use Rattle.laws.specs.Bits.{bit}
use Rattle.laws.specs.Lists.{all}
use Rattle.laws.proofs.Digits.{Bit, off, on}
use Rattle.laws.proofs.Bits.{digit_at, every_like, every_eqb, and_bit, bit_none}
use Rattle.std.specs.Prelude.{Some, None}
use Rattle.array.specs.Words.{Word, lowest_word}
use Rattle.array.specs.Refusals.{word_too_wide, all_cells}
use Rattle.array.proofs.Refusals.{all_every, every_narrow}
use Rattle.array.proofs.Walks.{word_at, words_from, words_cons, words_end}

-- no place is a one in both planes
abbrev pub apart : Word → Bool
apart w = eqb (bit_and w.ones w.xs) 0

-- ---- the lowest word, looked for from place k

module _ (test : Word → Bool) (ones xs ss : List ℕ) (k : ℕ) where
  module _ (h : k < length ones) (hx : length xs ≡ length ones) (hs : length ss ≡ length ones) where
    pub lowest_here : test (word_at ones xs ss k) ≡ true → lowest_word test k (words_from ones xs ss k) ≡ Some (record { 0 = k })
    unfolding lowest_word
    lowest_here e = rw (words_cons ones xs ss k h (omega arith) (omega arith), e)

    pub lowest_later : test (word_at ones xs ss k) ≡ false → lowest_word test (k + 1) (words_from ones xs ss (k + 1)) ≡ lowest_word test k (words_from ones xs ss k)
    unfolding lowest_word
    lowest_later e = rw (add-one k, words_cons ones xs ss k h (omega arith) (omega arith), e)

  pub lowest_end : length ones ≤ k → lowest_word test k (words_from ones xs ss k) ≡ None
  unfolding lowest_word
  lowest_end h = rw (words_end ones xs ss k h)

-- ---- planes apart, by the OR of what they have in common

none_in : (x a b : ℕ) → x ≤ a + b → a ≤ x → b ≤ x → eqb x 0 ≡ (eqb a 0 && eqb b 0)
none_in x zero zero h ha hb = eq-eqb x 0 (omega arith)
none_in x zero (suc b) h ha hb = ne_eqb x 0 (λ e. omega arith) ∙ sym (ne_eqb (suc b) 0 (λ e. omega arith))
none_in x (suc a) b h ha hb =
    ne_eqb x 0 (λ e. omega arith) ∙ sym (ap (λ (t : Bool). t && eqb b 0) (ne_eqb (suc a) 0 (λ e. omega arith)))

pub or_none : (a b : ℕ) → eqb (bit_or a b) 0 ≡ (eqb a 0 && eqb b 0)
or_none a b =
    none_in (bit_or a b) a b (omega (arith, or_add_and a b)) (omega (arith, or_add_and a b, and_le_r a b)) (omega (arith, or_add_and a b, and_le_l a b))

-- common holds what the planes have in common before place k
module _ (ones xs ss : List ℕ) (k common : ℕ) where
  pub apart_step : k < length ones → length xs ≡ length ones → length ss ≡ length ones
      → (eqb (bit_or common (bit_and (get_or ones k 0) (get_or xs k 0))) 0 && all apart (words_from ones xs ss (k + 1)))
      ≡ (eqb common 0 && all apart (words_from ones xs ss k))
  unfolding all
  apart_step h hx hs =
      rw (add-one k, words_cons ones xs ss k h (omega arith) (omega arith), or_none common (bit_and (get_or ones k 0) (get_or xs k 0)))
      (and_assoc (eqb common 0) (apart (word_at ones xs ss k)) (all apart (words_from ones xs ss (suc k))))

  pub apart_end : length ones ≤ k → (eqb common 0 && all apart (words_from ones xs ss k)) ≡ eqb common 0
  unfolding all
  apart_end h = rw (words_end ones xs ss k h) (and-true (eqb common 0))

-- ---- planes apart exactly if each cell is one

one_cell : {o x : ℕ} → Bit o → Bit x → eqb (min o x) 0 ≡ (eqb o 0 || eqb x 0)
one_cell off off = refl
one_cell off on = refl
one_cell on off = refl
one_cell on on = refl

pub apart_is : (n : ℕ) (w : Word) → w.ones < 2 ^ n → apart w ≡ all_cells n w
apart_is n w h =
    let a : bit_and w.ones w.xs < 2 ^ n = omega (arith, and_le_l w.ones w.xs) in
    sym
    (every_like n _ (λ i. eqb (bit (bit_and w.ones w.xs) i) (bit 0 i))
    (λ i g. sym (ap₂ eqb (and_bit w.ones w.xs i) (bit_none i) ∙ one_cell (digit_at w.ones i) (digit_at w.xs i)))
    ∙ every_eqb n (bit_and w.ones w.xs) 0
    ∙ ap₂ eqb (mod-eq_of_lt a) (mod-eq_of_lt (pow_pos n)))

pub all_apart : (n : ℕ) (ws : List Word) → lowest_word (word_too_wide n) 0 ws ≡ None → all apart ws ≡ all (all_cells n) ws
all_apart n ws h = all_every apart (all_cells n) (every_narrow n 0 ws h) (λ w p. apart_is n w p.0)
