-- Document 02, request a: "Demands 1 and 2 hold for it too", here demand 2: every operation does to every word what 02 lays down, "a search replaces,
-- ANDs or ORs" a selector set "with the words that agree, or with those that don't", and the cell-by-cell machine and the word-wide machine agree.
use Prim.Native.Nat.{ℕ, ◌<◌}
use mathlib.Core.Path.{◌≡◌, refl, sym, ap, ◌∙◌}
use mathlib.Core.Bool.{Bool, true, false}
use mathlib.Core.List.{List}
use native.Mathlib.Omega.{arith}
use lib.Dec.{eqb}
use lib.ListN.{length, get_or}
use lib.Seq.{ext_get_or}
use contract.Lifetimes.{Lfts}
use borrow.Fn.World.{ArgsD, ResD}
use borrow.Fn.Kinds.{ended_of}
use denote.Triple.Clauses.{AtExit}
use borrow.Author.Tests.{ne_eqb}
use Rattle.std.specs.Prelude.{Ok}
use Rattle.array.proofs.Calls.{an_answer}
use Rattle.laws.specs.Bits.{bit, pick, digit, under}
use Rattle.laws.proofs.Digits.{bit_lt}
use Rattle.laws.proofs.Bits.{digit_at, number_bit, every_at}
use Rattle.array.specs.declared.Kind.{Kind}
use Rattle.array.specs.declared.Registers.{Registers}
use Rattle.array.specs.declared.Source.{Source}
use Rattle.array.specs.declared.Mask.{Mask}
use Rattle.array.specs.declared.Latches.{Latches}
use Rattle.array.specs.declared.Latches.TheVariants as latches
use Rattle.array.specs.declared.Selector.{Selector}
use Rattle.array.specs.declared.Selector.TheVariants.{Zeros}
use Rattle.array.specs.declared.Form.{Form}
use Rattle.array.specs.declared.Form.TheVariants.{True, Complement}
use Rattle.array.specs.declared.Wanted.{Wanted}
use Rattle.array.specs.declared.Combine.{Combine}
use Rattle.array.specs.declared.Sink.{Sink}
use Rattle.array.specs.declared.Sink.TheVariants as sink
use Rattle.array.specs.declared.Operation.{Operation}
use Rattle.array.specs.declared.Operation.TheVariants.{Search, Read, Write}
use Rattle.array.specs.Cells.{is_cell, written}
use Rattle.array.specs.Words.{Word, word, cell_at, each}
use Rattle.array.specs.Selectors.{place, latch, selected, wants, combined, put, marked}
use Rattle.array.specs.Registers.{data_of, mask_of, sink_of, load}
use Rattle.array.specs.Operations.{Array, words_of, argument_at, agrees, bus, read_into, written_to, word_after, registers_after, count_of}
use Rattle.array.specs.Refusals.{call_check, answer_of, after}
use Rattle.array.proofs.Refusals.{sound, same_xs, same_selectors}
use Rattle.array_cells.specs.contracts.operate as plain
use Rattle.array_cells.proofs.operate.Kinds as plain-kinds
use Rattle.array_cells.proofs.operate.Reads as plain-reads
use Rattle.array_wide.proofs.operate.Reads as wide-reads
use Rattle.array_promises.proofs.Again.{length_each, at_each, written_cell, loaded_lt, fits_after, changed, again}

-- word k of an array, and the registers after an operation
abbrev pub word_at : Array → ℕ → Word
word_at a k = word (get_or a.ones k 0) (get_or a.xs k 0) (get_or a.selectors k 0)

abbrev pub registers_of : Array → Registers → Operation → Registers
registers_of a r o = registers_after a.width r o (words_of a)

-- ---- one latch of a byte

put_bit : (set : Latches) (on : Bool) (byte i : ℕ) → i < 8 → bit (put set on byte) i ≡ pick (eqb i (place set)) (digit on) (bit byte i)
put_bit set on byte = number_bit 8 _ (λ j l. picked (eqb j (place set)) on (bit_lt (digit_at byte j)))
  where
    picked : (t on : Bool) {x : ℕ} → x < 2 → pick t (digit on) x < 2
    picked true true h = omega arith
    picked true false h = omega arith
    picked false on h = h

is_one : (b : Bool) → eqb (digit b) 1 ≡ b
is_one true = refl
is_one false = refl

put_latch : (set : Latches) (on : Bool) (byte : ℕ) → latch set (put set on byte) ≡ on
put_latch latches.P on byte = ap (λ (x : ℕ). eqb x 1) (put_bit latches.P on byte 0 (omega arith)) ∙ is_one on
put_latch latches.S on byte = ap (λ (x : ℕ). eqb x 1) (put_bit latches.S on byte 1 (omega arith)) ∙ is_one on

module _ (wanted : Wanted) (set : Latches) (combine : Combine) (agree : Bool) (byte : ℕ) where
  marked_latch : latch set (marked wanted set combine agree byte) ≡ combined combine (latch set byte) (wants wanted agree)
  unfolding marked
  marked_latch = put_latch set _ byte

  marked_other : (i : ℕ) → i < 8 → (i ≡ place set → ⊥) → bit (marked wanted set combine agree byte) i ≡ bit byte i
  unfolding marked
  marked_other i l e = put_bit set (combined combine (latch set byte) (wants wanted agree)) byte i l ∙ rw (ne_eqb i (place set) e)

-- ---- an operation that is accepted

module _ (a : Array) (r : Registers) (accepted : call_check a r ≡ Ok tt) where
  -- the answer is the registers after it and the count
  pub answered : (o : Operation) → answer_of a r o ≡ Ok (an_answer (registers_of a r o) (count_of a r o))
  unfolding answer_of
  answered o = rw accepted

  -- each word after it is what word_after makes of it
  pub word_after_lem : (o : Operation) (k : ℕ) → k < length a.ones → word_at (after a r o) k ≡ word_after a.width r o (word_at a k)
  word_after_lem o k h =
      let s = sound a r accepted in
      rw (
        changed a r o accepted,
        at_each (λ w. (word_after a.width r o w).ones) a.ones a.xs a.selectors k (same_xs s) (same_selectors s) h,
        at_each (λ w. (word_after a.width r o w).xs) a.ones a.xs a.selectors k (same_xs s) (same_selectors s) h,
        at_each (λ w. (word_after a.width r o w).selectors) a.ones a.xs a.selectors k (same_xs s) (same_selectors s) h,
      )

  -- and there are as many
  pub as_many : (o : Operation)
      → (length (after a r o).ones ≡ length a.ones) × (length (after a r o).xs ≡ length a.ones) × (length (after a r o).selectors ≡ length a.ones)
  as_many o =
      let s = sound a r accepted in
      rw (changed a r o accepted) (
        length_each _ a.ones a.xs a.selectors (same_xs s) (same_selectors s),
        length_each _ a.ones a.xs a.selectors (same_xs s) (same_selectors s),
        length_each _ a.ones a.xs a.selectors (same_xs s) (same_selectors s),
      )

  -- a buffer is as before where every word's part of it is
  kept : (l : List ℕ) (f : Word → ℕ) → length l ≡ length a.ones → ((k : ℕ) → f (word_at a k) ≡ get_or l k 0) → each f (words_of a) ≡ l
  kept l f e h =
      let s = sound a r accepted in
      let long = length_each f a.ones a.xs a.selectors (same_xs s) (same_selectors s) in
      ext_get_or 0 (each f (words_of a)) l (long ∙ sym e)
      (λ k g. at_each f a.ones a.xs a.selectors k (same_xs s) (same_selectors s) (omega (arith, long)) ∙ h k)

  -- no operation makes a cell that is neither 0, 1 nor X, a one in both planes
  pub cell_after : (o : Operation) (k i : ℕ) → k < length a.ones → i < a.width
      → is_cell (bit (word_at (after a r o) k).ones i) (bit (word_at (after a r o) k).xs i) ≡ true
  cell_after o k i h l =
      ap (λ (w : Word). is_cell (bit w.ones i) (bit w.xs i)) (word_after_lem o k h)
      ∙ every_at a.width _ (fits_after (sound a r accepted) o k h).cells i l

  -- and the array is accepted again with the registers answered
  pub accepted_again : (o : Operation) → call_check (after a r o) (registers_of a r o) ≡ Ok tt
  accepted_again o = again a r o accepted

  -- ---- "which a search replaces, ANDs or ORs with the words that agree, or with those that don't"

  module _ (d : Source) (mask : Mask) (wanted : Wanted) (set : Latches) (combine : Combine) where
    -- in every word, the latch of the set named
    pub search_marks : (k : ℕ) → k < length a.ones
        → latch set (word_at (after a r (Search d mask wanted set combine)) k).selectors
        ≡ combined combine (latch set (word_at a k).selectors) (wants wanted (agrees a.width (data_of r d) (mask_of a.width r mask) (word_at a k)))
    unfolding word_after
    search_marks k h =
        ap (λ (w : Word). latch set w.selectors) (word_after_lem (Search d mask wanted set combine) k h)
        ∙ marked_latch wanted set combine _ (word_at a k).selectors

    -- no other bit of the byte changes
    pub search_keeps_bits : (k i : ℕ) → k < length a.ones → i < 8 → (i ≡ place set → ⊥)
        → bit (word_at (after a r (Search d mask wanted set combine)) k).selectors i ≡ bit (word_at a k).selectors i
    unfolding word_after
    search_keeps_bits k i h l e =
        ap (λ (w : Word). bit w.selectors i) (word_after_lem (Search d mask wanted set combine) k h)
        ∙ marked_other wanted set combine _ (word_at a k).selectors i l e

    -- no cell and no register changes
    pub search_keeps_cells : ((after a r (Search d mask wanted set combine)).ones ≡ a.ones) × ((after a r (Search d mask wanted set combine)).xs ≡ a.xs)
    unfolding word_after
    search_keeps_cells =
        rw (changed a r (Search d mask wanted set combine) accepted)
        (kept a.ones (λ w. w.ones) refl (λ k. refl), kept a.xs (λ w. w.xs) (same_xs (sound a r accepted)) (λ k. refl))

    pub search_keeps_registers : registers_of a r (Search d mask wanted set combine) ≡ r
    unfolding registers_after
    search_keeps_registers = refl

  -- ---- "Write normal stores a 0 or 1 argument; write special stores X for either; an X argument changes nothing."

  module _ (kind : Kind) (d : Source) (mask : Mask) (selector : Selector) (form : Form) where
    -- in a selected word, each cell by the truth table
    pub write_stores : (k i : ℕ) → k < length a.ones → i < a.width → selected selector form (word_at a k).selectors ≡ true
        → cell_at (word_at (after a r (Write kind d mask selector form)) k) i
        ≡ written kind (argument_at (data_of r d) (mask_of a.width r mask) i) (cell_at (word_at a k) i)
    unfolding word_after
    write_stores k i h l e =
        let stored : word_at (after a r (Write kind d mask selector form)) k ≡ written_to a.width kind (data_of r d) (mask_of a.width r mask) (word_at a k) =
        word_after_lem (Write kind d mask selector form) k h ∙ rw e in
        ap (λ (w : Word). cell_at w i) stored ∙ written_cell a.width kind (data_of r d) (mask_of a.width r mask) (word_at a k) i l

    -- no other word changes, no selector and no register
    pub write_keeps_words : (k : ℕ) → k < length a.ones → selected selector form (word_at a k).selectors ≡ false
        → word_at (after a r (Write kind d mask selector form)) k ≡ word_at a k
    unfolding word_after
    write_keeps_words k h e = word_after_lem (Write kind d mask selector form) k h ∙ rw e

    pub write_keeps_selectors : (after a r (Write kind d mask selector form)).selectors ≡ a.selectors
    unfolding word_after written_to
    write_keeps_selectors =
        rw (changed a r (Write kind d mask selector form) accepted)
        (kept a.selectors _ (same_selectors (sound a r accepted)) (λ k. either (selected selector form (word_at a k).selectors) _ (word_at a k) refl))
      where
        either : (t : Bool) (v w : Word) → v.selectors ≡ w.selectors → (pick t v w).selectors ≡ w.selectors
        either true v w h = h
        either false v w h = refl

    pub write_keeps_registers : registers_of a r (Write kind d mask selector form) ≡ r
    unfolding registers_after
    write_keeps_registers = refl

  -- ---- "Read ORs selected words, X reading as 0, and loads only the register bits under the mask."

  module _ (selector : Selector) (form : Form) (into : Sink) (mask : Mask) where
    pub read_keeps_words : after a r (Read selector form into mask) ≡ a
    unfolding word_after
    read_keeps_words =
        rw (
          changed a r (Read selector form into mask) accepted,
          kept a.ones (λ w. w.ones) refl (λ k. refl),
          kept a.xs (λ w. w.xs) (same_xs (sound a r accepted)) (λ k. refl),
          kept a.selectors (λ w. w.selectors) (same_selectors (sound a r accepted)) (λ k. refl),
        )

    -- the sink: each bit under the mask is the bus's, every other bit as before
    pub read_loads : (i : ℕ) → i < a.width
        → bit (sink_of (registers_of a r (Read selector form into mask)) into) i
        ≡ under (mask_of a.width r mask) (bus (selected selector form) (words_of a)) (bit (sink_of r into)) i
    unfolding registers_after read_into
    read_loads i l =
        ap (λ (x : ℕ). bit x i) (loaded into _)
        ∙ number_bit a.width _ (λ j g. loaded_lt (mask_of a.width r mask) (sink_of r into) (selected selector form) (words_of a) j) i l
      where
        loaded : (k : Sink) (v : ℕ) → sink_of (load k v r) k ≡ v
        loaded sink.R1 v = refl
        loaded sink.R2 v = refl
        loaded sink.M v = refl

    -- no other register changes
    pub read_keeps_registers : (k : Sink) → (k ≡ into → ⊥) → sink_of (registers_of a r (Read selector form into mask)) k ≡ sink_of r k
    unfolding registers_after
    read_keeps_registers k e = others k into _ e
      where
        others : (k j : Sink) (v : ℕ) → (k ≡ j → ⊥) → sink_of (load j v r) k ≡ sink_of r k
        others sink.R1 sink.R1 v e = absurd (e refl)
        others sink.R1 sink.R2 v e = refl
        others sink.R1 sink.M v e = refl
        others sink.R2 sink.R1 v e = refl
        others sink.R2 sink.R2 v e = absurd (e refl)
        others sink.R2 sink.M v e = refl
        others sink.M sink.R1 v e = refl
        others sink.M sink.R2 v e = refl
        others sink.M sink.M v e = absurd (e refl)

-- ---- selection: "all 0's", in true form no word and in complement form every word

pub none_true : (byte : ℕ) → selected Zeros True byte ≡ false
none_true byte = refl

pub none_complement : (byte : ℕ) → selected Zeros Complement byte ≡ true
none_complement byte = refl

-- ---- the two machines agree: for the same arguments a, an outcome that meets the one's contract and an outcome that meets the other's are equal,
-- in the answer r and in the three buffers at exit, s, on refusal as on success

pub machines_agree : (κs : Lfts 3) (a : ArgsD plain.signature κs) (r r' : ResD plain.signature κs) (s s' : AtExit (ended_of 3 plain-kinds.ps plain-kinds.r) κs)
    → plain-reads.Post κs a r s → wide-reads.Post κs a r' s'
    → (r ≡ r') × (s.0.now ≡ s'.0.now) × (s.1.0.now ≡ s'.1.0.now) × (s.1.1.0.now ≡ s'.1.1.0.now)
machines_agree κs a r r' s s' h g =
    (h.0 ∙ sym g.0, h.1.0 ∙ sym g.1.0, h.1.1.0 ∙ sym g.1.1.0, h.1.1.1 ∙ sym g.1.1.1)
