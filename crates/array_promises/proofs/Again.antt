-- What passes the checks passes them again after any operation: each word, the registers, the array.
use Prim.Native.Nat.{ℕ, zero, suc, ◌^◌, ◌<◌}
use mathlib.Core.Path.{◌≡◌, refl, ap, ap₂, ◌∙◌}
use mathlib.Core.Bool.{Bool, true, false, not}
use mathlib.Core.List.{List, [], ◌∷◌}
use native.Mathlib.Omega.{arith}
use lib.Dec.{eqb}
use lib.ListN.{length, get_or}
use borrow.Author.Tests.{lt-leb}
use Rattle.std.specs.Prelude.{None, Ok}
use Rattle.laws.specs.Bits.{bit, pick}
use Rattle.laws.specs.Lists.{all}
use Rattle.laws.proofs.Digits.{bit_lt}
use Rattle.laws.proofs.Bits.{digit_at, number_lt, number_bit, every_all}
use Rattle.array.specs.declared.Cell.{Cell}
use Rattle.array.specs.declared.Cell.TheVariants.{Zero, One, X}
use Rattle.array.specs.declared.Kind.{Kind}
use Rattle.array.specs.declared.Registers.{Registers}
use Rattle.array.specs.declared.Sink.{Sink}
use Rattle.array.specs.declared.Sink.TheVariants as sink
use Rattle.array.specs.declared.Operation.{Operation}
use Rattle.array.specs.declared.Operation.TheVariants.{Search, Read, Write}
use Rattle.array.specs.Cells.{is_cell, cell_of, one_of, x_of, reads}
use Rattle.array.specs.Words.{Word, word, cell_at, words, each, lowest_word}
use Rattle.array.specs.Selectors.{selected}
use Rattle.array.specs.Registers.{data_of, mask_of, sink_of, load}
use Rattle.array.specs.Operations.{Array, words_of, bus, loaded_at, read_into, written_at, written_to, word_after, registers_after, operated}
use Rattle.array.specs.Refusals.{word_too_wide, first_too_wide, all_cells, bad_cells, bad_registers, call_check, after}
use Rattle.array_cells.proofs.Bus.{reads_one}
use Rattle.array.proofs.Refusals.{Sound, sound, same_xs, same_selectors, r1_fits, r2_fits, m_fits, Fit, Every, end, more, fits}

-- ---- what an operation makes of the words, by their places

module _ (f : Word → ℕ) where
  pub length_each : (os xs ss : List ℕ) → length xs ≡ length os → length ss ≡ length os → length (each f (words os xs ss)) ≡ length os
  unfolding words each
  length_each [] xs ss hx hs = refl
  length_each (one ∷ os) [] ss hx hs = absurd (omega arith)
  length_each (one ∷ os) (x ∷ xs) [] hx hs = absurd (omega arith)
  length_each (one ∷ os) (x ∷ xs) (s ∷ ss) hx hs = ap suc (length_each os xs ss (omega arith) (omega arith))

  pub at_each : (os xs ss : List ℕ) (k : ℕ) → length xs ≡ length os → length ss ≡ length os → k < length os
      → get_or (each f (words os xs ss)) k 0 ≡ f (word (get_or os k 0) (get_or xs k 0) (get_or ss k 0))
  unfolding words each
  at_each [] xs ss k hx hs h = absurd (omega arith)
  at_each (one ∷ os) [] ss k hx hs h = absurd (omega arith)
  at_each (one ∷ os) (x ∷ xs) [] k hx hs h = absurd (omega arith)
  at_each (one ∷ os) (x ∷ xs) (s ∷ ss) zero hx hs h = refl
  at_each (one ∷ os) (x ∷ xs) (s ∷ ss) (suc k) hx hs h = at_each os xs ss k (omega arith) (omega arith) (omega arith)

-- ---- a cell in two planes

pub one_lt : (c : Cell) → one_of c < 2
one_lt Zero = omega arith
one_lt One = omega arith
one_lt X = omega arith

pub x_lt : (c : Cell) → x_of c < 2
x_lt Zero = omega arith
x_lt One = omega arith
x_lt X = omega arith

cell_of_lem : (c : Cell) → cell_of (one_of c) (x_of c) ≡ c
cell_of_lem Zero = refl
cell_of_lem One = refl
cell_of_lem X = refl

is_cell_lem : (c : Cell) → is_cell (one_of c) (x_of c) ≡ true
is_cell_lem Zero = refl
is_cell_lem One = refl
is_cell_lem X = refl

-- ---- each word

module _ (n : ℕ) (kind : Kind) (d mask : ℕ) (w : Word) where
  one_at : (i : ℕ) → i < n → bit (written_to n kind d mask w).ones i ≡ one_of (written_at kind d mask w i)
  unfolding written_to
  one_at = number_bit n _ (λ j l. one_lt (written_at kind d mask w j))

  x_at : (i : ℕ) → i < n → bit (written_to n kind d mask w).xs i ≡ x_of (written_at kind d mask w i)
  unfolding written_to
  x_at = number_bit n _ (λ j l. x_lt (written_at kind d mask w j))

  pub written_cell : (i : ℕ) → i < n → cell_at (written_to n kind d mask w) i ≡ written_at kind d mask w i
  written_cell i l = ap₂ cell_of (one_at i l) (x_at i l) ∙ cell_of_lem (written_at kind d mask w i)

  written_fits : Fit n (written_to n kind d mask w)
  unfolding written_to
  written_fits = record {
    ones = number_lt n _ (λ j l. one_lt (written_at kind d mask w j));
    xs = number_lt n _ (λ j l. x_lt (written_at kind d mask w j));
    cells = every_all n _ (λ i l. ap₂ is_cell (one_at i l) (x_at i l) ∙ is_cell_lem (written_at kind d mask w i));
  }

pick_fits : (n : ℕ) (t : Bool) (v w : Word) → Fit n v → Fit n w → Fit n (pick t v w)
pick_fits n true v w p q = p
pick_fits n false v w p q = q

word_fits : (n : ℕ) (r : Registers) (o : Operation) (w : Word) → Fit n w → Fit n (word_after n r o w)
unfolding word_after
word_fits n r (Search d mask wanted set combine) w h = record { ones = h.ones; xs = h.xs; cells = h.cells }
word_fits n r (Read selector form sink mask) w h = h
word_fits n r (Write kind d mask selector form) w h =
    pick_fits n (selected selector form w.selectors) _ w (written_fits n kind (data_of r d) (mask_of n r mask) w) h

every_after : {P : Word → Type 0} {ws : List Word} (f : Word → Word) → ((w : Word) → P w → P (f w)) → Every P ws
    → Every P (words (each (λ w. (f w).ones) ws) (each (λ w. (f w).xs) ws) (each (λ w. (f w).selectors) ws))
unfolding words each
every_after f h end = end
every_after f h (more {w} p ps) = more (h w p) (every_after f h ps)

first_of : {P : Word → Type 0} {w : Word} {ws : List Word} → Every P (w ∷ ws) → P w × Every P ws
first_of (more p ps) = (p, ps)

pub at_every : {P : Word → Type 0} (os xs ss : List ℕ) (k : ℕ) → length xs ≡ length os → length ss ≡ length os → k < length os → Every P (words os xs ss)
    → P (word (get_or os k 0) (get_or xs k 0) (get_or ss k 0))
unfolding words
at_every [] xs ss k hx hs h e = absurd (omega arith)
at_every (one ∷ os) [] ss k hx hs h e = absurd (omega arith)
at_every (one ∷ os) (x ∷ xs) [] k hx hs h e = absurd (omega arith)
at_every (one ∷ os) (x ∷ xs) (s ∷ ss) zero hx hs h e = (first_of e).0
at_every (one ∷ os) (x ∷ xs) (s ∷ ss) (suc k) hx hs h e = at_every os xs ss k (omega arith) (omega arith) (omega arith) (first_of e).1

none_wide : {n : ℕ} {ws : List Word} (k : ℕ) → Every (Fit n) ws → lowest_word (word_too_wide n) k ws ≡ None
unfolding lowest_word
none_wide k end = refl
none_wide {n} k (more {w} p ps) = rw (lt-leb (2 ^ n) w.ones p.ones, lt-leb (2 ^ n) w.xs p.xs) (none_wide (suc k) ps)

all_cells_lem : {n : ℕ} {ws : List Word} → Every (Fit n) ws → all (all_cells n) ws ≡ true
unfolding all
all_cells_lem end = refl
all_cells_lem (more p ps) = rw p.cells (all_cells_lem ps)

-- ---- the registers

pick_lt : (t : Bool) {x y : ℕ} → x < 2 → y < 2 → pick t x y < 2
pick_lt true h g = h
pick_lt false h g = g

bus_lt : (chosen : ℕ → Bool) (ws : List Word) (i : ℕ) → bus chosen ws i < 2
unfolding bus
bus_lt chosen [] i = omega arith
bus_lt chosen (w ∷ ws) i =
    let h : pick (chosen w.selectors) (reads (cell_at w i)) 0 < 2 = pick_lt (chosen w.selectors) (omega (arith, reads_one (cell_at w i))) (omega arith) in
    omega (arith, h, bus_lt chosen ws i)

pub loaded_lt : (mask old : ℕ) (chosen : ℕ → Bool) (ws : List Word) (i : ℕ) → loaded_at mask old chosen ws i < 2
loaded_lt mask old chosen ws i = pick_lt (eqb (bit mask i) 1) (bus_lt chosen ws i) (bit_lt (digit_at old i))

module _ {a : Array} {r : Registers} (s : Sound a r) where
  load_fits : (k : Sink) (v : ℕ) → v < 2 ^ a.width → bad_registers a.width (load k v r) ≡ false
  unfolding bad_registers
  load_fits sink.R1 v h = rw (lt-leb (2 ^ a.width) v h, lt-leb _ _ (r2_fits s), lt-leb _ _ (m_fits s))
  load_fits sink.R2 v h = rw (lt-leb (2 ^ a.width) v h, lt-leb _ _ (r1_fits s), lt-leb _ _ (m_fits s))
  load_fits sink.M v h = rw (lt-leb (2 ^ a.width) v h, lt-leb _ _ (r1_fits s), lt-leb _ _ (r2_fits s))

  registers_fit : (o : Operation) → bad_registers a.width (registers_after a.width r o (words_of a)) ≡ false
  unfolding registers_after read_into
  registers_fit (Search d mask wanted set combine) = s.registers
  registers_fit (Read selector form k mask) =
      load_fits k _ (number_lt a.width _ (λ i l. loaded_lt (mask_of a.width r mask) (sink_of r k) (selected selector form) (words_of a) i))
  registers_fit (Write kind d mask selector form) = s.registers

  -- ---- the array

  after_fits : (o : Operation) → Every (Fit a.width) (words_of (operated a r o))
  after_fits o = every_after (word_after a.width r o) (word_fits a.width r o) (fits s)

  pub fits_after : (o : Operation) (k : ℕ) → k < length a.ones
      → Fit a.width (word_after a.width r o (word (get_or a.ones k 0) (get_or a.xs k 0) (get_or a.selectors k 0)))
  fits_after o k h =
      word_fits a.width r o _ (at_every a.ones a.xs a.selectors k (same_xs s) (same_selectors s) h (fits s))

  long : (f : Word → ℕ) → length (each f (words_of a)) ≡ length a.ones
  long f = length_each f a.ones a.xs a.selectors (same_xs s) (same_selectors s)

  sound_after : (o : Operation) → Sound (operated a r o) (registers_after a.width r o (words_of a))
  unfolding first_too_wide bad_cells
  sound_after o = record {
    size = rw (long (λ w. (word_after a.width r o w).ones), long (λ w. (word_after a.width r o w).xs), long (λ w. (word_after a.width r o w).selectors))
        (rw (same_xs s, same_selectors s) at s.size);
    width = s.width;
    words = none_wide 0 (after_fits o);
    cells = ap not (all_cells_lem (after_fits o));
    registers = registers_fit o;
  }

passes : {a : Array} {r : Registers} → Sound a r → call_check a r ≡ Ok tt
unfolding call_check
passes s = rw (s.size, s.width, s.words, s.cells, s.registers)

pub changed : (a : Array) (r : Registers) (o : Operation) → call_check a r ≡ Ok tt → after a r o ≡ operated a r o
unfolding after
changed a r o h = rw h

pub again : (a : Array) (r : Registers) (o : Operation) → call_check a r ≡ Ok tt
    → call_check (after a r o) (registers_after a.width r o (words_of a)) ≡ Ok tt
again a r o h = rw (changed a r o h) (passes (sound_after (sound a r h) o))
