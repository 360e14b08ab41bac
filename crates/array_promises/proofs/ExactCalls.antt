-- Document 02, request a: "Where a word has no X, its search is the exact search under the same mask", of the calls: an array's search that was
-- accepted, and the machine's pulse on the array's plane of ones, with any responses. Both machines' contracts are cited as their own sources state
-- them: `Post` of the call, of its arguments, its answer and what stands behind the lent references at exit.
use Prim.Native.Nat.{ℕ, ◌^◌, ◌<◌}
use mathlib.Core.Path.{◌≡◌, refl, sym, ap, ◌∙◌}
use mathlib.Core.Bool.{true, false}
use mathlib.Core.List.{List, [], ◌∷◌}
use native.Mathlib.Omega.{arith}
use lib.Dec.{eqb}
use lib.Pow.{pow_pos}
use lib.ListN.{length, get_or}
use contract.Lifetimes.{Lfts}
use borrow.Fn.World.{ArgsD, ResD}
use borrow.Fn.Kinds.{ended_of}
use denote.Triple.Clauses.{AtExit}
use borrow.Author.Tests.{lt-leb}
use Rattle.std.specs.Prelude.{Result, Ok}
use Rattle.laws.specs.Bits.{bit, digit}
use Rattle.laws.proofs.Digits.{Bit, off, on}
use Rattle.laws.proofs.Bits.{digit_at}
use Rattle.machine.specs.declared.Panel.{Panel}
use Rattle.machine.specs.declared.Lines.{Lines}
use Rattle.machine.specs.declared.Answer as base-answer
use Rattle.machine.specs.declared.Refusal as base-refusal
use Rattle.machine.specs.Machine.{Machine, machine, response_bits, syllables}
use Rattle.machine.specs.Panel.{panel_of}
use Rattle.machine.specs.Refusals as base
use Rattle.machine.specs.Refusals.{bad_panel, bad_codes, bad_lines, bad_address, machine_check, pulse_check}
use Rattle.machine.proofs.Refusals.{none_lowest, or_left}
use Rattle.machine.proofs.Search.{all_unmixed}
use Rattle.promises.proofs.Demand2 as pulses
use Rattle.array.specs.declared.Registers.{Registers}
use Rattle.array.specs.declared.Source.{Source}
use Rattle.array.specs.declared.Source.TheVariants as source
use Rattle.array.specs.declared.Mask.{Mask}
use Rattle.array.specs.declared.Mask.TheVariants as mask
use Rattle.array.specs.declared.Latches.{Latches}
use Rattle.array.specs.declared.Wanted.TheVariants.{Agree}
use Rattle.array.specs.declared.Combine.TheVariants.{Replace}
use Rattle.array.specs.declared.Operation.{Operation}
use Rattle.array.specs.declared.Operation.TheVariants.{Search}
use Rattle.array.specs.declared.Answer.{Answer}
use Rattle.array.specs.declared.Refusal.{Refusal}
use Rattle.array.specs.Selectors.{place}
use Rattle.array.specs.Registers.{data_of, mask_of}
use Rattle.array.specs.Operations.{Array, array}
use Rattle.array.specs.Refusals.{bad_sizes, call_check, answer_of, after, told}
use Rattle.array.proofs.Refusals.{Sound, sound, same_xs, same_selectors, r1_fits, r2_fits, m_fits, fits}
use Rattle.array_promises.proofs.Again.{at_every}
use Rattle.array_promises.proofs.Demand1.{told_accepted}
use Rattle.array_promises.proofs.Demand2.{word_at}
use Rattle.array_promises.proofs.Exact.{NoX, exact_latch}
use Rattle.array_cells.specs.contracts.operate as plain
use Rattle.array_cells.proofs.operate.Kinds as plain-kinds
use Rattle.array_cells.proofs.operate.Reads as plain-reads
use Rattle.array_wide.proofs.operate.Reads as wide-reads
use Rattle.cells.specs.contracts.pulse as plain-pulse
use Rattle.cells.proofs.pulse.Kinds as plain-pulse-kinds
use Rattle.cells.proofs.pulse.Reads as plain-pulse-reads
use Rattle.wide.proofs.pulse.Reads as wide-pulse-reads

-- the exact search under the same mask, as the machine's panel has it: COMP is the data, SC1 0, SC2 the mask, SC3 0, care 0; SDR, MOR, key and address
-- are 0 too, and the target is any
abbrev pub exact_panel : Array → Registers → Source → Mask → ℕ → Panel
exact_panel a r d k target = panel_of (data_of r d ∷ 0 ∷ 0 ∷ mask_of a.width r k ∷ 0 ∷ 0 ∷ 0 ∷ target ∷ 0 ∷ 0 ∷ [])

-- search, raised alone
abbrev pub search_line : Lines
search_line = record { search = true; read = false; write = false; add = false; multiwrite = false; multiadd = false; complement = false }

-- ---- that pulse is accepted

module _ (a : Array) (r : Registers) (accepted : call_check a r ≡ Ok tt) (d : Source) (k : Mask) (responses : List ℕ)
    (same : length responses ≡ length a.ones) (target : ℕ) where
  s : Sound a r
  s = sound a r accepted

  data_fits : (x : Source) → data_of r x < 2 ^ a.width
  data_fits source.R1 = r1_fits s
  data_fits source.R2 = r2_fits s

  mask_fits : (x : Mask) → mask_of a.width r x < 2 ^ a.width
  mask_fits mask.M = m_fits s
  mask_fits mask.Ones = omega (arith, pow_pos a.width)
  mask_fits mask.Zeros = pow_pos a.width

  size : base.bad_size (length a.ones) (length responses) ≡ false
  unfolding bad_sizes
  size = rw (same ∙ sym (same_xs s)) (or_left (base.bad_size (length a.ones) (length a.xs)) _ s.size)

  pub exact_accepted : pulse_check (machine a.width a.ones responses) (exact_panel a r d k target) search_line ≡ Ok tt
  unfolding pulse_check machine_check bad_panel bad_codes bad_lines bad_address
  exact_accepted =
      rw (
        size,
        s.width,
        none_lowest a.width 0 a.ones (λ j l. (at_every a.ones a.xs a.selectors j (same_xs s) (same_selectors s) l (fits s)).ones),
        lt-leb (2 ^ a.width) (data_of r d) (data_fits d),
        lt-leb (2 ^ a.width) 0 (pow_pos a.width),
        lt-leb (2 ^ a.width) (mask_of a.width r k) (mask_fits k),
        all_unmixed (exact_panel a r d k target) refl refl (syllables a.width 0),
      )

  -- ---- and its target bit is the selector bit

  as_digit : {b : ℕ} → Bit b → b ≡ digit (eqb b 1)
  as_digit off = refl
  as_digit on = refl

  pub exact_bit : (set : Latches) (j i : ℕ) → j < length a.ones → i < response_bits → bit target i ≡ 1 → NoX a.width (word_at a j)
      → bit (get_or (after a r (Search d k Agree set Replace)).selectors j 0) (place set)
      ≡ bit (get_or (base.after (machine a.width a.ones responses) (exact_panel a r d k target) search_line).responses j 0) i
  exact_bit set j i h l t x =
      as_digit (digit_at (get_or (after a r (Search d k Agree set Replace)).selectors j 0) (place set))
      ∙ ap digit (exact_latch a r accepted d k Agree set Replace (exact_panel a r d k target) refl refl refl refl refl j (get_or responses j 0) h x)
      ∙ sym (pulses.search_marks (machine a.width a.ones responses) (exact_panel a r d k target) search_line exact_accepted refl j i h l ∙ rw t)

-- ---- the calls

-- what a call of the array was given: the array lent, the registers, the operation; and what a pulse was: the machine, the panel, the lines
abbrev pub lent : (κs : Lfts 3) → ArgsD plain.signature κs → Array
lent κs x = array x.1.1.1.0 x.0.now x.1.0.now x.1.1.0.now

abbrev pub held : (κs : Lfts 3) → ArgsD plain.signature κs → Registers
held κs x = x.1.1.1.1.0

abbrev pub asked : (κs : Lfts 3) → ArgsD plain.signature κs → Operation
asked κs x = x.1.1.1.1.1.0

abbrev pub machine_of : (κs : Lfts 2) → ArgsD plain-pulse.signature κs → Machine
machine_of κs y = machine y.1.1.0 y.0.now y.1.0.now

abbrev pub panel_given : (κs : Lfts 2) → ArgsD plain-pulse.signature κs → Panel
panel_given κs y = y.1.1.1.0

abbrev pub raised : (κs : Lfts 2) → ArgsD plain-pulse.signature κs → Lines
raised κs y = y.1.1.1.1.0

-- the pulse was accepted, and in every word without X the selector bit that the search left is each target bit that the pulse left
abbrev pub SameBits : Array → Latches → ℕ → List ℕ → Result base-answer.Answer base-refusal.Refusal → List ℕ → Type 0
SameBits a set target selectors u responses =
    ((base.told u).refusal ≡ 0)
    × ((j i : ℕ) → j < length a.ones → i < response_bits → bit target i ≡ 1 → NoX a.width (word_at a j)
    → bit (get_or selectors j 0) (place set) ≡ bit (get_or responses j 0) i)

done : (m : Machine) (p : Panel) (l : Lines) → pulse_check m p l ≡ Ok tt → (base.told (base.answer_of m p l)).refusal ≡ 0
unfolding base.answer_of
done m p l h = rw h

module _ (a : Array) (r : Registers) (d : Source) (k : Mask) (set : Latches) (target : ℕ) (responses : List ℕ) where
  same_bits : (o : Operation) → o ≡ Search d k Agree set Replace → (t : Result Answer Refusal) → t ≡ answer_of a r o → (told t).refusal ≡ 0
      → (selectors : List ℕ) → selectors ≡ (after a r o).selectors → length responses ≡ length a.ones
      → (m : Machine) → m ≡ machine a.width a.ones responses → (p : Panel) → p ≡ exact_panel a r d k target → (l : Lines) → l ≡ search_line
      → (u : Result base-answer.Answer base-refusal.Refusal) → u ≡ base.answer_of m p l → (marks : List ℕ) → marks ≡ (base.after m p l).responses
      → SameBits a set target selectors u marks
  same_bits o eo t et h selectors es same m em p ep l el u eu marks er =
      let accepted : call_check a r ≡ Ok tt = told_accepted a r o (ap (λ (x : Result Answer Refusal). (told x).refusal) (sym et) ∙ h) in (
        rw (eu, em, ep, el) (done (machine a.width a.ones responses) (exact_panel a r d k target) search_line (exact_accepted a r accepted d k responses same target)),
        λ j i hj hi b x. rw (es, eo, er, em, ep, el) (exact_bit a r accepted d k responses same target set j i hj hi b x),
      )

module _ (κs : Lfts 3) (x : ArgsD plain.signature κs) (t : ResD plain.signature κs) (s : AtExit (ended_of 3 plain-kinds.ps plain-kinds.r) κs)
    (κs' : Lfts 2) (y : ArgsD plain-pulse.signature κs') (u : ResD plain-pulse.signature κs')
    (q : AtExit (ended_of 2 plain-pulse-kinds.ps plain-pulse-kinds.r) κs')
    (d : Source) (k : Mask) (set : Latches) (target : ℕ) (responses : List ℕ) where
  -- the cell-by-cell machines: a search that replaces a set by the words that agree, accepted; and the exact search on the plane of ones, with any
  -- responses, as many
  pub plain_exact : plain-reads.Post κs x t s → plain-pulse-reads.Post κs' y u q
      → asked κs x ≡ Search d k Agree set Replace → (told t).refusal ≡ 0
      → length responses ≡ length (lent κs x).ones → machine_of κs' y ≡ machine (lent κs x).width (lent κs x).ones responses
      → panel_given κs' y ≡ exact_panel (lent κs x) (held κs x) d k target → raised κs' y ≡ search_line
      → SameBits (lent κs x) set target s.1.1.0.now u q.1.0.now
  plain_exact h g eo accepted same em ep el =
      same_bits (lent κs x) (held κs x) d k set target responses (asked κs x) eo t h.0 accepted s.1.1.0.now h.1.1.1 same
      (machine_of κs' y) em (panel_given κs' y) ep (raised κs' y) el u g.0 q.1.0.now g.1.1

  -- the word-wide ones
  pub wide_exact : wide-reads.Post κs x t s → wide-pulse-reads.Post κs' y u q
      → asked κs x ≡ Search d k Agree set Replace → (told t).refusal ≡ 0
      → length responses ≡ length (lent κs x).ones → machine_of κs' y ≡ machine (lent κs x).width (lent κs x).ones responses
      → panel_given κs' y ≡ exact_panel (lent κs x) (held κs x) d k target → raised κs' y ≡ search_line
      → SameBits (lent κs x) set target s.1.1.0.now u q.1.0.now
  wide_exact h g eo accepted same em ep el =
      same_bits (lent κs x) (held κs x) d k set target responses (asked κs x) eo t h.0 accepted s.1.1.0.now h.1.1.1 same
      (machine_of κs' y) em (panel_given κs' y) ep (raised κs' y) el u g.0 q.1.0.now g.1.1
