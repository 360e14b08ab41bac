-- Chains of checks, what a call that passes them shows, and what then holds of each word.
use Prim.Native.Nat.{ℕ, suc, ◌+◌, ◌^◌, ◌≤◌, ◌<◌}
use mathlib.Core.Path.{◌≡◌, refl, ap₂}
use mathlib.Core.Bool.{Bool, true, false, ◌&&◌, ◌||◌}
use mathlib.Core.List.{List, [], ◌∷◌}
use lib.ListN.{length}
use borrow.Author.Tests.{not-false}
use Rattle.laws.specs.Bits.{digit}
use Rattle.laws.specs.Lists.{all}
use Rattle.laws.proofs.Bits.{and_left, and_right}
use Rattle.machine.specs.declared.WordSlice.{WordSlice}
use Rattle.std.specs.Prelude.{Ok, Err, Option, Some, None}
use Rattle.machine.specs.Refusals.{bad_size, bad_width, too_wide, ◌else◌, refuse}
use Rattle.machine.proofs.Refusals as machine
use Rattle.array.specs.declared.Registers.{Registers}
use Rattle.array.specs.declared.Refusal.{Refusal}
use Rattle.array.specs.declared.Refusal.TheVariants.{Size, Width, NoCell, RegisterTooWide}
use Rattle.array.specs.Words.{Word, each, how_many, lowest_word}
use Rattle.array.specs.Operations.{Array, words_of}
use Rattle.array.specs.Refusals.{bad_sizes, word_too_wide, first_too_wide, all_cells, bad_cells, bad_registers, Check, refuse_word, call_check}

-- ---- what a check that is passed shows

pub else_passed : (c d : Check) → (c else d) ≡ Ok tt → (c ≡ Ok tt) × (d ≡ Ok tt)
else_passed (Ok tt) d h = (refl, h)
else_passed (Err r) d h = (cc, cc)

pub not_refused : (r : Refusal) (t : Bool) → refuse r t ≡ Ok tt → t ≡ false
not_refused r true h = cc
not_refused r false h = refl

no_word : (f : Option WordSlice) → refuse_word f ≡ Ok tt → f ≡ None
no_word (Some k) h = cc
no_word None h = refl

-- an array and registers that pass 1, 2, 3, 12 and 4
pub record Sound (a : Array) (r : Registers) : Type 0 where
  pub size : bad_sizes (length a.ones) (length a.xs) (length a.selectors) ≡ false
  pub width : bad_width a.width ≡ false
  pub words : first_too_wide a.width (words_of a) ≡ None
  pub cells : bad_cells a.width (words_of a) ≡ false
  pub registers : bad_registers a.width r ≡ false

pub sound : (a : Array) (r : Registers) → call_check a r ≡ Ok tt → Sound a r
unfolding call_check
sound a r h =
    let s = else_passed (refuse Size (bad_sizes (length a.ones) (length a.xs) (length a.selectors))) _ h in
    let n = else_passed (refuse Width (bad_width a.width)) _ s.1 in
    let w = else_passed (refuse_word (first_too_wide a.width (words_of a))) _ n.1 in
    let c = else_passed (refuse NoCell (bad_cells a.width (words_of a))) _ w.1 in
    record {
      size = not_refused Size _ s.0;
      width = not_refused Width _ n.0;
      words = no_word _ w.0;
      cells = not_refused NoCell _ c.0;
      registers = not_refused RegisterTooWide _ c.1;
    }

-- ---- lengths, the width, the registers

pub sizes_same : (n k j : ℕ) → bad_sizes n k j ≡ false → (k ≡ n) × (j ≡ n)
unfolding bad_sizes
sizes_same n k j h = (
  machine.size_same n k (machine.or_left (bad_size n k) (bad_size n j) h),
  machine.size_same n j (machine.or_right (bad_size n k) (bad_size n j) h),
)

registers_fit : (n : ℕ) (r : Registers) → bad_registers n r ≡ false → (r.r1 < 2 ^ n) × (r.r2 < 2 ^ n) × (r.m < 2 ^ n)
unfolding bad_registers
registers_fit n r h =
    let two = machine.or_left (too_wide n r.r1 || too_wide n r.r2) (too_wide n r.m) h in (
      machine.not_wide n r.r1 (machine.or_left (too_wide n r.r1) (too_wide n r.r2) two),
      machine.not_wide n r.r2 (machine.or_right (too_wide n r.r1) (too_wide n r.r2) two),
      machine.not_wide n r.m (machine.or_right (too_wide n r.r1 || too_wide n r.r2) (too_wide n r.m) h),
    )

module _ {a : Array} {r : Registers} (s : Sound a r) where
  pub same_xs : length a.xs ≡ length a.ones
  same_xs = (sizes_same _ _ _ s.size).0

  pub same_selectors : length a.selectors ≡ length a.ones
  same_selectors = (sizes_same _ _ _ s.size).1

  pub width_pos : 0 < a.width
  width_pos = machine.width_pos a.width s.width

  pub width_le : a.width ≤ 64
  width_le = machine.width_le a.width s.width

  pub r1_fits : r.r1 < 2 ^ a.width
  r1_fits = (registers_fit a.width r s.registers).0

  pub r2_fits : r.r2 < 2 ^ a.width
  r2_fits = (registers_fit a.width r s.registers).1

  pub m_fits : r.m < 2 ^ a.width
  m_fits = (registers_fit a.width r s.registers).2

-- ---- each word

-- both planes of n bits
abbrev pub Narrow : ℕ → Word → Type 0
Narrow n w = (w.ones < 2 ^ n) × (w.xs < 2 ^ n)

-- and each cell 0, 1 or X
pub record Fit (n : ℕ) (w : Word) : Type 0 where
  pub ones : w.ones < 2 ^ n
  pub xs : w.xs < 2 ^ n
  pub cells : all_cells n w ≡ true

pub data Every (P : Word → Type 0) : List Word → Type 0 where
  end : Every P []
  more : {w : Word} {ws : List Word} → P w → Every P ws → Every P (w ∷ ws)

-- where none passes a test, the first doesn't and none of the rest
no_lowest : (test : Word → Bool) (k : ℕ) (w : Word) (ws : List Word) (b : Bool) → test w ≡ b → lowest_word test k (w ∷ ws) ≡ None
    → (b ≡ false) × (lowest_word test (suc k) ws ≡ None)
unfolding lowest_word
no_lowest test k w ws true e h = (cc (rw e at h), cc (rw e at h))
no_lowest test k w ws false e h = (refl, rw e at h)

pub every_narrow : (n k : ℕ) (ws : List Word) → lowest_word (word_too_wide n) k ws ≡ None → Every (Narrow n) ws
every_narrow n k [] h = end
every_narrow n k (w ∷ ws) h =
    let t = no_lowest (word_too_wide n) k w ws _ refl h in
    more (
      machine.not_wide n w.ones (machine.or_left (too_wide n w.ones) (too_wide n w.xs) t.0),
      machine.not_wide n w.xs (machine.or_right (too_wide n w.ones) (too_wide n w.xs) t.0),
    ) (every_narrow n (suc k) ws t.1)

with_cells : {n : ℕ} {ws : List Word} → Every (Narrow n) ws → all (all_cells n) ws ≡ true → Every (Fit n) ws
unfolding all
with_cells end h = end
with_cells {n} (more {w} {ws} p ps) h =
    more (record { ones = p.0; xs = p.1; cells = and_left (all_cells n w) (all (all_cells n) ws) h })
    (with_cells ps (and_right (all_cells n w) (all (all_cells n) ws) h))

pub every_fit : (n k : ℕ) (ws : List Word) → lowest_word (word_too_wide n) k ws ≡ None → all (all_cells n) ws ≡ true → Every (Fit n) ws
every_fit n k ws h g = with_cells (every_narrow n k ws h) g

pub fits : {a : Array} {r : Registers} → Sound a r → Every (Fit a.width) (words_of a)
unfolding first_too_wide bad_cells
fits {a} s = every_fit a.width 0 (words_of a) s.words (not-false (all (all_cells a.width) (words_of a)) s.cells)

-- ---- two rules that agree on each word

pub each_every : {P : Word → Type 0} {ws : List Word} (f g : Word → ℕ) → Every P ws → ((w : Word) → P w → f w ≡ g w) → each f ws ≡ each g ws
unfolding each
each_every f g end h = refl
each_every f g (more p ps) h = ap₂ (λ (x : ℕ) (xs : List ℕ). x ∷ xs) (h _ p) (each_every f g ps h)

pub how_many_every : {P : Word → Type 0} {ws : List Word} (f g : Word → Bool) → Every P ws → ((w : Word) → P w → f w ≡ g w)
    → how_many f ws ≡ how_many g ws
unfolding how_many
how_many_every f g end h = refl
how_many_every f g (more p ps) h = ap₂ (λ (b : Bool) (k : ℕ). digit b + k) (h _ p) (how_many_every f g ps h)

pub all_every : {P : Word → Type 0} {ws : List Word} (f g : Word → Bool) → Every P ws → ((w : Word) → P w → f w ≡ g w) → all f ws ≡ all g ws
unfolding all
all_every f g end h = refl
all_every f g (more p ps) h = ap₂ (λ (a b : Bool). a && b) (h _ p) (all_every f g ps h)
