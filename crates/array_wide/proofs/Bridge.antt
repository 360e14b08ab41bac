-- What the definitions that go bit by bit are as operations on whole numbers: agreement, the read bus, what a write leaves.
use Prim.Native.Nat.{ℕ, ◌-◌, ◌^◌, ◌≤◌, ◌<◌, min, max}
use mathlib.Core.Path.{◌≡◌, refl, sym, ap₂, ◌∙◌}
use mathlib.Core.Bool.{Bool, true, false, not}
use mathlib.Core.List.{List}
use native.Mathlib.Nat.{mod-eq_of_lt}
use native.Mathlib.Omega.{arith}
use lib.Dec.{eqb}
use borrow.Author.Tests.{eq-eqb}
use lib.Bits.{bit_and, bit_xor, differ, and_le_l, and_le_r, or_lt}
use lib.Pow.{pow_pos, pow_mono}
use Rattle.laws.specs.Bits.{bit, number, pick}
use Rattle.laws.proofs.Digits.{Bit, off, on, bit_lt}
use Rattle.laws.proofs.Bits.{digit_at, number_fits, every_like, every_at, every_eqb, and_bit, or_bit, xor_bit, not_bit, bit_none}
use Rattle.array.specs.declared.Registers.{Registers}
use Rattle.array.specs.declared.Mask.{Mask}
use Rattle.array.specs.declared.Mask.TheVariants.{M, Ones, Zeros}
use Rattle.array.specs.declared.Cell.{Cell}
use Rattle.array.specs.declared.Cell.TheVariants.{Zero, One, X}
use Rattle.array.specs.declared.Kind.{Kind}
use Rattle.array.specs.declared.Kind.TheVariants.{Normal, Special}
use Rattle.array.specs.Cells.{is_cell, cell_of, one_of, x_of, argument, mismatch, reads, written}
use Rattle.array.specs.Words.{Word, cell_at}
use Rattle.array.specs.Registers.{mask_of}
use Rattle.array.specs.Operations.{agrees, bus, read_into, written_to}
use Rattle.array.proofs.Refusals.{Fit, Every, end, more}
use Rattle.array_wide.specs.Rules.{agreeing, union, filled, fill_ones, fill_xs}

-- ---- one bit

-- an X in the argument mismatches nothing
unmasked : (c : Cell) → not (mismatch X c) ≡ true
unmasked Zero = refl
unmasked One = refl
unmasked X = refl

-- the argument's cell, of the mask's bit and the data's, against the word's, of its two planes' bits
one_agrees : {m d o x : ℕ} → Bit m → Bit d → Bit o → Bit x → not (mismatch (argument m d) (cell_of o x)) ≡ eqb (min (min m (1 - x)) (differ o d)) 0
one_agrees {m} {d} {o} {x} off p q r = unmasked (cell_of o x) ∙ sym (eq-eqb (min (min 0 (1 - x)) (differ o d)) 0 (omega arith))
one_agrees on off off off = refl
one_agrees on off off on = refl
one_agrees on off on off = refl
one_agrees on off on on = refl
one_agrees on on off off = refl
one_agrees on on off on = refl
one_agrees on on on off = refl
one_agrees on on on on = refl

-- a cell's two planes, and what it reads as
one_cell : {o x : ℕ} → Bit o → Bit x → is_cell o x ≡ true → (one_of (cell_of o x) ≡ o) × (x_of (cell_of o x) ≡ x) × (reads (cell_of o x) ≡ o)
one_cell off off h = (refl, refl, refl)
one_cell off on h = (refl, refl, refl)
one_cell on off h = (refl, refl, refl)
one_cell on on h = (cc, cc, cc)

one_normal : {m d o x : ℕ} → Bit m → Bit d → Bit o → Bit x → is_cell o x ≡ true
    → (max (min o (1 - m)) (min d m) ≡ one_of (written Normal (argument m d) (cell_of o x)))
    × (max (min x (1 - m)) 0 ≡ x_of (written Normal (argument m d) (cell_of o x)))
one_normal off d o x h = let k = one_cell o x h in (omega (arith, bit_lt o), omega (arith, bit_lt x))
one_normal on off o x h = (omega arith, omega arith)
one_normal on on o x h = (omega arith, omega arith)

one_special : {m d o x : ℕ} → Bit m → Bit d → Bit o → Bit x → is_cell o x ≡ true
    → (max (min o (1 - m)) 0 ≡ one_of (written Special (argument m d) (cell_of o x)))
    × (max (min x (1 - m)) m ≡ x_of (written Special (argument m d) (cell_of o x)))
one_special off d o x h = let k = one_cell o x h in (omega (arith, bit_lt o), omega (arith, bit_lt x))
one_special on off o x h = (omega arith, omega arith)
one_special on on o x h = (omega arith, omega arith)

-- under a one of the mask the bus, elsewhere what stood there
one_loaded : {m b o : ℕ} → Bit m → Bit b → Bit o → max (min o (1 - m)) (min b m) ≡ pick (eqb m 1) b o
one_loaded off b o = omega (arith, bit_lt o)
one_loaded on b o = omega (arith, bit_lt b)

-- ---- all of them, for a width of at most 64

module _ (n : ℕ) (wide : n ≤ 64) where
  -- the complement of a word of the processor
  outside : (m i : ℕ) → m < 2 ^ n → i < n → bit (2 ^ 64 - 1 - m) i ≡ 1 - bit m i
  outside m i h g = not_bit 64 m i (omega (arith, pow_mono wide)) (omega arith)

  pub agrees_is : (d mask : ℕ) (w : Word) → mask < 2 ^ n → Fit n w → agreeing d mask w ≡ agrees n d mask w
  unfolding agrees
  agrees_is d mask w hm h =
      let v = bit_and (bit_and mask (2 ^ 64 - 1 - w.xs)) (bit_xor w.ones d) in
      let small : v < 2 ^ n = omega (arith, and_le_l (bit_and mask (2 ^ 64 - 1 - w.xs)) (bit_xor w.ones d), and_le_l mask (2 ^ 64 - 1 - w.xs)) in
      sym
      (every_like n _ (λ i. eqb (bit v i) (bit 0 i))
      (λ i g. one_agrees (digit_at mask i) (digit_at d i) (digit_at w.ones i) (digit_at w.xs i)
      ∙ sym (rw (and_bit, and_bit, xor_bit, outside w.xs i h.xs g, bit_none) refl))
      ∙ every_eqb n v 0
      ∙ ap₂ eqb (mod-eq_of_lt small) (mod-eq_of_lt (pow_pos n)))

  -- a plane filled is the number of its bits
  filled_is : (mask fill x : ℕ) (f : ℕ → ℕ) → mask < 2 ^ n → fill < 2 ^ n → x < 2 ^ n
      → ((i : ℕ) → i < n → max (min (bit x i) (1 - bit mask i)) (bit fill i) ≡ f i) → filled mask fill x ≡ number n f
  filled_is mask fill x f hm hf hx h =
      sym
      (number_fits n (filled mask fill x) f (or_lt n (bit_and x (2 ^ 64 - 1 - mask)) fill (omega (arith, and_le_l x (2 ^ 64 - 1 - mask))) hf)
      (λ i g. rw (or_bit, and_bit, outside mask i hm g) (h i g)))

  pub written_is : (kind : Kind) (d mask : ℕ) (w : Word) → mask < 2 ^ n → Fit n w
      → (filled mask (fill_ones kind d mask) w.ones ≡ (written_to n kind d mask w).ones)
      × (filled mask (fill_xs kind mask) w.xs ≡ (written_to n kind d mask w).xs)
  unfolding written_to
  written_is Normal d mask w hm h = (
    filled_is mask (bit_and d mask) w.ones _ hm (omega (arith, and_le_r d mask)) h.ones
        (λ i g. rw and_bit (one_normal (digit_at mask i) (digit_at d i) (digit_at w.ones i) (digit_at w.xs i) (every_at n _ h.cells i g)).0),
    filled_is mask 0 w.xs _ hm (pow_pos n) h.xs
        (λ i g. rw bit_none (one_normal (digit_at mask i) (digit_at d i) (digit_at w.ones i) (digit_at w.xs i) (every_at n _ h.cells i g)).1),
  )
  written_is Special d mask w hm h = (
    filled_is mask 0 w.ones _ hm (pow_pos n) h.ones
        (λ i g. rw bit_none (one_special (digit_at mask i) (digit_at d i) (digit_at w.ones i) (digit_at w.xs i) (every_at n _ h.cells i g)).0),
    filled_is mask mask w.xs _ hm hm h.xs
        (λ i g. (one_special (digit_at mask i) (digit_at d i) (digit_at w.ones i) (digit_at w.xs i) (every_at n _ h.cells i g)).1),
  )

  -- each bit of the OR of the chosen words' ones is the bus there
  union_bit : (chosen : ℕ → Bool) {ws : List Word} (i : ℕ) → i < n → Every (Fit n) ws → bit (union chosen ws) i ≡ bus chosen ws i
  unfolding union bus
  union_bit chosen i g end = bit_none i
  union_bit chosen i g (more {w} {ws} h hs) =
      or_bit (pick (chosen w.selectors) w.ones 0) (union chosen ws) i ∙ ap₂ max (one (chosen w.selectors)) (union_bit chosen i g hs)
    where
      one : (t : Bool) → bit (pick t w.ones 0) i ≡ pick t (reads (cell_at w i)) 0
      one true = sym (one_cell (digit_at w.ones i) (digit_at w.xs i) (every_at n _ h.cells i g)).2
      one false = bit_none i

  pub read_is : (mask old : ℕ) (chosen : ℕ → Bool) (ws : List Word) → mask < 2 ^ n → old < 2 ^ n → Every (Fit n) ws
      → filled mask (bit_and (union chosen ws) mask) old ≡ read_into n mask old chosen ws
  unfolding read_into
  read_is mask old chosen ws hm ho h =
      filled_is mask (bit_and (union chosen ws) mask) old _ hm (omega (arith, and_le_r (union chosen ws) mask)) ho
      (λ i g. rw (and_bit, ← union_bit chosen i g h) (one_loaded (digit_at mask i) (digit_at (union chosen ws) i) (digit_at old i)))

  pub mask_lt : (r : Registers) (mask : Mask) → r.m < 2 ^ n → mask_of n r mask < 2 ^ n
  mask_lt r M h = h
  mask_lt r Ones h = omega (arith, pow_pos n)
  mask_lt r Zeros h = pow_pos n
