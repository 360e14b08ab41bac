-- Document 02, request d: "8 is retired". Whatever an operation on the array answers, it does not tell 8, and no entry point returns it.
use Prim.Native.Nat.{ℕ}
use mathlib.Core.Path.{◌≡◌, refl, sym, ◌∙◌}
use mathlib.Core.Bool.{Bool, true, false}
use mathlib.Core.List.{List}
use native.Mathlib.Omega.{arith}
use lib.Dec.{ltb}
use contract.Lifetimes.{Lfts}
use borrow.Fn.World.{ArgsD, ResD}
use borrow.Fn.Kinds.{ended_of}
use denote.Triple.Clauses.{AtExit}
use Rattle.std.specs.Prelude.{Option, Some, None, Result, Ok, Err}
use Rattle.laws.specs.Bits.{pick}
use Rattle.array.specs.declared.Operation.{Operation}
use Rattle.array.specs.declared.Registers.{Registers}
use Rattle.array.specs.declared.Refusal.{Refusal}
use Rattle.array.specs.declared.Refusal.TheVariants.{Size, Width, WordTooWide, NoCell, RegisterTooWide}
use Rattle.array.specs.declared.Answer.{Answer}
use Rattle.array.specs.Operations.{Array}
use Rattle.array.specs.Refusals.{Check, call_check, answer_of, tells, told}
use Rattle.array_entries.specs.Numbers.{operation_of, registers_of, answer_size, order_of, refused, turned, told_by, is_three, entry_told}
use Rattle.array_entries.specs.contracts.dushvaneth_array_cells as plain_entry
use Rattle.array_entries.proofs.dushvaneth_array_cells.Kinds as plain-entry-kinds
use Rattle.array_entries.proofs.dushvaneth_array_cells.Reads as plain-entry-reads
use Rattle.array_entries.specs.contracts.dushvaneth_array_wide as wide-entry
use Rattle.array_entries.proofs.dushvaneth_array_wide.Kinds as wide-entry-kinds
use Rattle.array_entries.proofs.dushvaneth_array_wide.Reads as wide-entry-reads

why_not_8 : (r : Refusal) → (tells r).0 ≡ 8 → ⊥
why_not_8 Size e = omega (arith, e)
why_not_8 Width e = omega (arith, e)
why_not_8 (WordTooWide k) e = omega (arith, e)
why_not_8 NoCell e = omega (arith, e)
why_not_8 RegisterTooWide e = omega (arith, e)

pub answer_not_8 : (a : Result Answer Refusal) → (told a).refusal ≡ 8 → ⊥
answer_not_8 (Ok a) e = omega (arith, e)
answer_not_8 (Err why) e = why_not_8 why e

-- ---- the entry points: 1 for the registers' buffer, the operation's own numbers, 6 and 10

turned_not_8 : (c : Check) (k : ℕ) → (k ≡ 8 → ⊥) → (turned c k).refusal ≡ 8 → ⊥
turned_not_8 (Ok tt) k h e = h e
turned_not_8 (Err why) k h e = why_not_8 why e

entry_not_8 : (b : Array) (g : Registers) (room : ℕ) (three : Bool) (o : Option Operation) (low : Bool) → ltb room answer_size ≡ low
    → (pick three (told_by b g (order_of o room)) (refused 1)).refusal ≡ 8 → ⊥
entry_not_8 b g room false o low h e = omega (arith, e)
entry_not_8 b g room true None low h e = turned_not_8 (call_check b g) 6 (λ z. omega (arith, z)) e
entry_not_8 b g room true (Some o) true h e = turned_not_8 (call_check b g) 10 (λ z. omega (arith, z)) (rw h at e)
entry_not_8 b g room true (Some o) false h e = answer_not_8 (answer_of b g o) (rw h at e)

told_not_8 : (b : Array) (held : List ℕ) (code room : ℕ) → (entry_told b held code room).refusal ≡ 8 → ⊥
unfolding entry_told
told_not_8 b held code room e = entry_not_8 b (registers_of held) room (is_three held) (operation_of code) _ refl e

pub plain_entry_not_8 : (κs : Lfts 5) (a : ArgsD plain_entry.signature κs) (r : ResD plain_entry.signature κs)
    (s : AtExit (ended_of 5 plain-entry-kinds.ps plain-entry-kinds.r) κs) → plain-entry-reads.Post κs a r s → r ≡ 8 → ⊥
plain_entry_not_8 κs a r s h e = told_not_8 _ _ _ _ (sym h.0 ∙ e)

pub wide_entry_not_8 : (κs : Lfts 5) (a : ArgsD wide-entry.signature κs) (r : ResD wide-entry.signature κs)
    (s : AtExit (ended_of 5 wide-entry-kinds.ps wide-entry-kinds.r) κs) → wide-entry-reads.Post κs a r s → r ≡ 8 → ⊥
wide_entry_not_8 κs a r s h e = told_not_8 _ _ _ _ (sym h.0 ∙ e)
