-- Demand 1 of the array: "Every call takes any input": the precondition of each operation, as its own source states it (`Pre` of the call), holds for
-- any arguments a.
use contract.Lifetimes.{Lfts}
use borrow.Fn.World.{ArgsD}
use Rattle.array_cells.specs.contracts.operate as plain
use Rattle.array_cells.proofs.operate.Reads as plain-reads
use Rattle.array_wide.specs.contracts.operate as wide
use Rattle.array_wide.proofs.operate.Reads as wide-reads
use Rattle.array_entries.specs.contracts.dushvaneth_array_cells as plain_entry
use Rattle.array_entries.proofs.dushvaneth_array_cells.Reads as plain-entry-reads
use Rattle.array_entries.specs.contracts.dushvaneth_array_wide as wide-entry
use Rattle.array_entries.proofs.dushvaneth_array_wide.Reads as wide-entry-reads

pub plain_takes_any : (κs : Lfts 3) (a : ArgsD plain.signature κs) → plain-reads.Pre κs a
plain_takes_any κs a = tt

pub wide_takes_any : (κs : Lfts 3) (a : ArgsD wide.signature κs) → wide-reads.Pre κs a
wide_takes_any κs a = tt

pub plain_entry_takes_any : (κs : Lfts 5) (a : ArgsD plain_entry.signature κs) → plain-entry-reads.Pre κs a
plain_entry_takes_any κs a = tt

pub wide_entry_takes_any : (κs : Lfts 5) (a : ArgsD wide-entry.signature κs) → wide-entry-reads.Pre κs a
wide_entry_takes_any κs a = tt
