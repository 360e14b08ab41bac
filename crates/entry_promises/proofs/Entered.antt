-- The entry points for other languages, from each one's own contract (`Post`, of its arguments a, the number returned r and what stands behind the
-- lent references at exit, s): the number returned and told is the lowest that applies (Demand 1); where it is 0 the call was accepted, and what is
-- told and left is what the call itself answers and leaves, which Demand 2 and Demand 3 speak of; otherwise nothing lent changes. The answer's
-- buffer has the numbers told, or is as it was if it is too short for them.
use Prim.Native.Nat.{ℕ}
use mathlib.Core.Path.{◌≡◌}
use mathlib.Core.List.{List}
use Rattle.std.specs.Prelude.{Ok}
use Rattle.machine.specs.Refusals.{Check}
use Rattle.promises.proofs.Demand1.{Entry, first}
use Rattle.entry_promises.proofs.Lowest.{lowest}

-- ---- what each entry's contract says

-- of the number returned and the answer t that is told, where `own` is what the library itself refuses, `table` the call's part of document 01's
-- table, `call` the call's check and `says` what the call answers
pub record Enters {T : Type 0} (tell : T → ℕ × ℕ) (own table : List Entry) (call : Check) (number : ℕ) (t says : T) : Type 0 where
  pub returned : number ≡ (tell t).0
  pub lowest_told : tell t ≡ lowest (first own) (first table)
  pub accepted : number ≡ 0 → (call ≡ Ok tt) × (t ≡ says)

-- of what is lent by &mut, `before` the call and `now`, where `left` is what the call itself leaves
pub record Keeps {A : Type 0} (number : ℕ) (before left now : A) : Type 0 where
  pub accepted : number ≡ 0 → now ≡ left
  pub refused : (number ≡ 0 → ⊥) → now ≡ before
