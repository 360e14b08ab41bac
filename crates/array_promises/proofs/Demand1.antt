-- Document 02, request a: "Demands 1 and 2 hold for it too", here demand 1: "Every call takes any input. What is wrong gets its refusal number ..,
-- always the same one, and nothing lent changes"; and "Refusals: 1 to 4 as before, 12 for a cell coded as neither 0, 1 nor X, after 3."
-- That operations take any input is said by their contracts, which have no `requires`.
use Prim.Native.Nat.{ℕ}
use mathlib.Core.Path.{◌≡◌, refl, sym, ap, ◌∙◌}
use mathlib.Core.Bool.{Bool, true, false}
use mathlib.Core.List.{List, [], ◌∷◌}
use lib.ListN.{length}
use Rattle.array.proofs.Calls.{an_answer}
use Rattle.std.specs.Prelude.{Option, Some, None, Result, Ok, Err}
use Rattle.machine.specs.declared.WordSlice.{WordSlice}
use Rattle.machine.specs.Refusals.{bad_width, ◌else◌, refuse, answer_by, change_by}
use Rattle.array.specs.declared.Registers.{Registers}
use Rattle.array.specs.declared.Operation.{Operation}
use Rattle.array.specs.declared.Refusal.TheVariants.{Size, Width, WordTooWide, NoCell, RegisterTooWide}
use Rattle.array.specs.declared.Answer.{Answer}
use Rattle.array.specs.declared.Refusal.{Refusal}
use Rattle.array.specs.Operations.{Array, words_of, registers_after, count_of, operated}
use Rattle.array.specs.Refusals.{bad_sizes, first_too_wide, bad_cells, bad_registers, Check, refuse_word, call_check, answer_of, after, tells, told}
use Rattle.promises.proofs.Demand1.{Entry, first, stray}

-- ---- an operation's table: the numbers it is checked for, in order, each with its condition; 3 also answers the "lowest such word"

abbrev entry : ℕ → Bool → Entry
entry k b = record { number = k; also = 0; holds = b }

abbrev pub operate_table : Array → Registers → List Entry
operate_table a r =
    entry 1 (bad_sizes (length a.ones) (length a.xs) (length a.selectors))
    ∷ entry 2 (bad_width a.width)
    ∷ stray (first_too_wide a.width (words_of a))
    ∷ entry 12 (bad_cells a.width (words_of a))
    ∷ entry 4 (bad_registers a.width r)
    ∷ []

-- ---- "given exactly then": the refusal is the first condition of the table that holds, and there is none where none does

-- the number that a check gives and what it also answers, 0 if it is passed
abbrev pub given : Check → ℕ × ℕ
given (Ok tt) = (0, 0)
given (Err r) = tells r

in_order : (b₁ b₂ : Bool) (f : Option WordSlice) (b₁₂ b₄ : Bool)
    → given (refuse Size b₁ else refuse Width b₂ else refuse_word f else refuse NoCell b₁₂ else refuse RegisterTooWide b₄)
    ≡ first (entry 1 b₁ ∷ entry 2 b₂ ∷ stray f ∷ entry 12 b₁₂ ∷ entry 4 b₄ ∷ [])
unfolding first
in_order true b₂ f b₁₂ b₄ = refl
in_order false true f b₁₂ b₄ = refl
in_order false false (Some k) b₁₂ b₄ = refl
in_order false false None true b₄ = refl
in_order false false None false true = refl
in_order false false None false false = refl

pub operate_given : (a : Array) (r : Registers) → given (call_check a r) ≡ first (operate_table a r)
unfolding call_check
operate_given a r =
    in_order (bad_sizes (length a.ones) (length a.xs) (length a.selectors)) (bad_width a.width) (first_too_wide a.width (words_of a))
    (bad_cells a.width (words_of a)) (bad_registers a.width r)

-- ---- the whole answer: that number and that word and "other answer fields are 0", or 0 and 0 with the registers and the count

abbrev pub tells_answer : Result Answer Refusal → ℕ × ℕ
tells_answer t = ((told t).refusal, (told t).also)

by_check : (c : Check) (r : Registers) (k : ℕ) → tells_answer (answer_by c (an_answer r k)) ≡ given c
by_check (Ok tt) r k = refl
by_check (Err why) r k = refl

pub operate_tells : (a : Array) (r : Registers) (o : Operation) → tells_answer (answer_of a r o) ≡ first (operate_table a r)
unfolding answer_of
operate_tells a r o = by_check (call_check a r) _ _ ∙ operate_given a r

-- an operation is accepted exactly if no condition holds
passes : (c : Check) → (given c).0 ≡ 0 → c ≡ Ok tt
passes (Ok tt) h = refl
passes (Err Size) h = cc
passes (Err Width) h = cc
passes (Err (WordTooWide k)) h = cc
passes (Err NoCell) h = cc
passes (Err RegisterTooWide) h = cc

pub operate_accepted : (a : Array) (r : Registers) → (first (operate_table a r)).0 ≡ 0 → call_check a r ≡ Ok tt
operate_accepted a r h = passes (call_check a r) (ap (λ (x : ℕ × ℕ). x.0) (operate_given a r) ∙ h)

-- and that it was can be seen from the answer
pub told_accepted : (a : Array) (r : Registers) (o : Operation) → (told (answer_of a r o)).refusal ≡ 0 → call_check a r ≡ Ok tt
told_accepted a r o h = operate_accepted a r (ap (λ (x : ℕ × ℕ). x.0) (sym (operate_tells a r o)) ∙ h)

pub operate_done : (a : Array) (r : Registers) (o : Operation) → (first (operate_table a r)).0 ≡ 0
    → told (answer_of a r o) ≡ record { refusal = 0; also = 0; registers = registers_after a.width r o (words_of a); count = count_of a r o }
unfolding answer_of
operate_done a r o h = rw (operate_accepted a r h)

others_0 : (c : Check) (r : Registers) (k : ℕ) → ((given c).0 ≡ 0 → ⊥)
    → told (answer_by c (an_answer r k)) ≡ record { refusal = (given c).0; also = (given c).1; registers = record { r1 = 0; r2 = 0; m = 0 }; count = 0 }
others_0 (Ok tt) r k h = absurd (h refl)
others_0 (Err why) r k h = refl

pub operate_refused : (a : Array) (r : Registers) (o : Operation) → ((first (operate_table a r)).0 ≡ 0 → ⊥)
    → told (answer_of a r o)
    ≡ record { refusal = (first (operate_table a r)).0; also = (first (operate_table a r)).1; registers = record { r1 = 0; r2 = 0; m = 0 }; count = 0 }
unfolding answer_of
operate_refused a r o h = rw (← operate_given a r) (others_0 (call_check a r) _ _ (λ e. h (ap (λ (x : ℕ × ℕ). x.0) (sym (operate_given a r)) ∙ e)))

-- ---- "nothing lent changes"

kept : (c : Check) (new old : Array) → ((given c).0 ≡ 0 → ⊥) → change_by c new old ≡ old
kept (Ok tt) new old h = absurd (h refl)
kept (Err why) new old h = refl

pub operate_unchanged : (a : Array) (r : Registers) (o : Operation) → ((first (operate_table a r)).0 ≡ 0 → ⊥) → after a r o ≡ a
unfolding after
operate_unchanged a r o h = kept (call_check a r) (operated a r o) a (λ e. h (ap (λ (x : ℕ × ℕ). x.0) (sym (operate_given a r)) ∙ e))
