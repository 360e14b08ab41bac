-- "Each public call's contract determines its answer and everything lent to it afterwards, on refusal as on success; prove that two outcomes
-- meeting it are equal." Of the array's operation, as the two machines' own sources state it: `Post` of the call, of its arguments a, an answer r
-- and what stands behind the lent references at exit, s.
use mathlib.Core.Path.{◌≡◌, sym, ◌∙◌}
use contract.Lifetimes.{Lfts}
use borrow.Fn.World.{ArgsD, ResD}
use borrow.Fn.Kinds.{ended_of}
use denote.Triple.Clauses.{AtExit}
use Rattle.array_cells.specs.contracts.operate as plain
use Rattle.array_cells.proofs.operate.Kinds as plain-kinds
use Rattle.array_cells.proofs.operate.Reads as plain-reads
use Rattle.array_wide.specs.contracts.operate as wide
use Rattle.array_wide.proofs.operate.Kinds as wide-kinds
use Rattle.array_wide.proofs.operate.Reads as wide-reads
use Rattle.array_entries.specs.contracts.dushvaneth_array_cells as plain_entry
use Rattle.array_entries.proofs.dushvaneth_array_cells.Kinds as plain-entry-kinds
use Rattle.array_entries.proofs.dushvaneth_array_cells.Reads as plain-entry-reads
use Rattle.array_entries.specs.contracts.dushvaneth_array_wide as wide-entry
use Rattle.array_entries.proofs.dushvaneth_array_wide.Kinds as wide-entry-kinds
use Rattle.array_entries.proofs.dushvaneth_array_wide.Reads as wide-entry-reads

pub plain_settled : (κs : Lfts 3) (a : ArgsD plain.signature κs) (r r' : ResD plain.signature κs) (s s' : AtExit (ended_of 3 plain-kinds.ps plain-kinds.r) κs)
    → plain-reads.Post κs a r s → plain-reads.Post κs a r' s'
    → (r ≡ r') × (s.0.now ≡ s'.0.now) × (s.1.0.now ≡ s'.1.0.now) × (s.1.1.0.now ≡ s'.1.1.0.now)
plain_settled κs a r r' s s' h g =
    (h.0 ∙ sym g.0, h.1.0 ∙ sym g.1.0, h.1.1.0 ∙ sym g.1.1.0, h.1.1.1 ∙ sym g.1.1.1)

pub wide_settled : (κs : Lfts 3) (a : ArgsD wide.signature κs) (r r' : ResD wide.signature κs) (s s' : AtExit (ended_of 3 wide-kinds.ps wide-kinds.r) κs)
    → wide-reads.Post κs a r s → wide-reads.Post κs a r' s'
    → (r ≡ r') × (s.0.now ≡ s'.0.now) × (s.1.0.now ≡ s'.1.0.now) × (s.1.1.0.now ≡ s'.1.1.0.now)
wide_settled κs a r r' s s' h g =
    (h.0 ∙ sym g.0, h.1.0 ∙ sym g.1.0, h.1.1.0 ∙ sym g.1.1.0, h.1.1.1 ∙ sym g.1.1.1)

-- ---- the entry points for other languages, which are lent the registers too, and a buffer for the answer

pub plain_entry_settled : (κs : Lfts 5) (a : ArgsD plain_entry.signature κs) (r r' : ResD plain_entry.signature κs)
    (s s' : AtExit (ended_of 5 plain-entry-kinds.ps plain-entry-kinds.r) κs)
    → plain-entry-reads.Post κs a r s → plain-entry-reads.Post κs a r' s'
    → (r ≡ r') × (s.0.now ≡ s'.0.now) × (s.1.0.now ≡ s'.1.0.now) × (s.1.1.0.now ≡ s'.1.1.0.now)
    × (s.1.1.1.0.now ≡ s'.1.1.1.0.now) × (s.1.1.1.1.1.1.0.now ≡ s'.1.1.1.1.1.1.0.now)
plain_entry_settled κs a r r' s s' h g = (
  h.0 ∙ sym g.0,
  h.1.1.0 ∙ sym g.1.1.0,
  h.1.1.1.0 ∙ sym g.1.1.1.0,
  h.1.1.1.1.0 ∙ sym g.1.1.1.1.0,
  h.1.1.1.1.1 ∙ sym g.1.1.1.1.1,
  h.1.0 ∙ sym g.1.0,
)

pub wide_entry_settled : (κs : Lfts 5) (a : ArgsD wide-entry.signature κs) (r r' : ResD wide-entry.signature κs)
    (s s' : AtExit (ended_of 5 wide-entry-kinds.ps wide-entry-kinds.r) κs)
    → wide-entry-reads.Post κs a r s → wide-entry-reads.Post κs a r' s'
    → (r ≡ r') × (s.0.now ≡ s'.0.now) × (s.1.0.now ≡ s'.1.0.now) × (s.1.1.0.now ≡ s'.1.1.0.now)
    × (s.1.1.1.0.now ≡ s'.1.1.1.0.now) × (s.1.1.1.1.1.1.0.now ≡ s'.1.1.1.1.1.1.0.now)
wide_entry_settled κs a r r' s s' h g = (
  h.0 ∙ sym g.0,
  h.1.1.0 ∙ sym g.1.1.0,
  h.1.1.1.0 ∙ sym g.1.1.1.0,
  h.1.1.1.1.0 ∙ sym g.1.1.1.1.0,
  h.1.1.1.1.1 ∙ sym g.1.1.1.1.1,
  h.1.0 ∙ sym g.1.0,
)
