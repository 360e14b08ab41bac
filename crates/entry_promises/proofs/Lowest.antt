-- Demand 1, of the entry points: always the one whose turn comes first, of what the library itself refuses and of the call's own part of document
-- 01's table, with 20 to 25 of document 02, request d, in the place of 8. The library's own conditions are the house's (docs/DECISIONS.md, 'The library for C').
use Prim.Native.Nat.{ℕ}
use mathlib.Core.Path.{◌≡◌, refl}
use mathlib.Core.Bool.{Bool, true, false, not, ◌||◌}
use mathlib.Core.List.{List, [], ◌∷◌}
use lib.Dec.{ltb, eqb}
use lib.ListN.{length}
use borrow.Author.Tests.{eqb-true}
use Rattle.std.specs.Prelude.{Ok, Err}
use Rattle.laws.specs.Bits.{pick}
use Rattle.machine.specs.declared.Refusal.{Refusal}
use Rattle.machine.specs.declared.Refusal.TheVariants.{Size, PanelTooWide, WrongLines, NoRoom}
use Rattle.machine.specs.Refusals.{Check, ◌else◌, refuse, tells, number_of, turn}
use Rattle.machine.proofs.Refusals.{some_number}
use Rattle.image_layout.specs.Sizes.{record_size}
use Rattle.panel.specs.Numbered.{takes}
use Rattle.entry_forms.specs.Numbers.{lower_of, lower, panel_size, overflows, panel_check, raised, lines_check, room_check}
use Rattle.entry_forms.specs.Records.{record_check, held_check}
use Rattle.promises.proofs.Answered.{passes}
use Rattle.promises.proofs.Demand1.{Entry, entry, first, given}
use Rattle.promises.proofs.InOrder.{ordered}

-- of two numbers with what they also answer, 0 for none, the one whose turn comes first
abbrev pub lowest : ℕ × ℕ → ℕ × ℕ → ℕ × ℕ
lowest s t = pick (eqb s.0 0) t (pick (eqb t.0 0) s (pick (ltb (turn t.0) (turn s.0)) t s))

-- ---- the library's own conditions, each table in the order of its numbers

-- of a panel: "a panel .. of a wrong length is 1; an 8-bit register above 255 is 4"
abbrev pub wrong_panel : List ℕ → Bool
wrong_panel rs = not (eqb (length rs) panel_size)

abbrev pub overflow : List ℕ → Bool
overflow rs = overflows rs 5 || (overflows rs 6 || overflows rs 7)

-- "a stray bit of the line byte is 6", "one too short is 10"
abbrev pub pulse_own_table : List ℕ → ℕ → ℕ → ℕ → List Entry
pulse_own_table rs lines size room = entry 1 (wrong_panel rs) ∷ entry 4 (overflow rs) ∷ entry 6 (raised lines 7) ∷ entry 10 (ltb room size) ∷ []

abbrev pub explain_own_table : List ℕ → ℕ → ℕ → List Entry
explain_own_table rs size room = entry 1 (wrong_panel rs) ∷ entry 4 (overflow rs) ∷ entry 10 (ltb room size) ∷ []

abbrev pub load_own_table : List ℕ → ℕ → ℕ → List Entry
load_own_table rs k v = entry 1 (wrong_panel rs) ∷ entry 4 (overflow rs || not (takes k v)) ∷ []

abbrev pub room_table : ℕ → ℕ → List Entry
room_table size room = entry 10 (ltb room size) ∷ []

-- of a record that has to be there
abbrev pub record_table : List ℕ → ℕ → ℕ → List Entry
record_table job size room = entry 1 (not (eqb (length job) record_size)) ∷ entry 10 (ltb room size) ∷ []

-- of one that may be there
abbrev pub held_own_table : List ℕ → ℕ → ℕ → List Entry
held_own_table job size room = entry 1 (not (eqb (length job) 0 || eqb (length job) record_size)) ∷ entry 10 (ltb room size) ∷ []

abbrev pub start_own_table : List ℕ → List ℕ → ℕ → ℕ → List Entry
start_own_table held job size room =
    entry 1 (not (eqb (length held) 0 || eqb (length held) record_size)) ∷ record_table job size room

-- each is in the order of the numbers' turns
pub own_ordered : (rs : List ℕ) (lines k v : ℕ) (held job : List ℕ) (size room : ℕ)
    → (ordered (pulse_own_table rs lines size room) ≡ true) × (ordered (explain_own_table rs size room) ≡ true) × (ordered (load_own_table rs k v) ≡ true) × (ordered (room_table size room) ≡ true)
    × (ordered (record_table job size room) ≡ true) × (ordered (held_own_table held size room) ≡ true) × (ordered (start_own_table held job size room) ≡ true)
own_ordered rs lines k v held job size room = (refl, refl, refl, refl, refl, refl, refl)

-- ---- each is given exactly then

pub pulse_own : (rs : List ℕ) (lines size room : ℕ)
    → given (lower (panel_check rs) (lower (lines_check lines) (room_check size room))) ≡ first (pulse_own_table rs lines size room)
unfolding first
pulse_own rs lines size room = go (wrong_panel rs) (overflow rs) (raised lines 7) (ltb room size)
  where
    go : (a b c d : Bool)
        → given (lower (refuse Size a else refuse PanelTooWide b) (lower (refuse WrongLines c) (refuse NoRoom d)))
        ≡ first (entry 1 a ∷ entry 4 b ∷ entry 6 c ∷ entry 10 d ∷ [])
    go true b true true = refl
    go true b true false = refl
    go true b false true = refl
    go true b false false = refl
    go false true true true = refl
    go false true true false = refl
    go false true false true = refl
    go false true false false = refl
    go false false true true = refl
    go false false true false = refl
    go false false false true = refl
    go false false false false = refl

pub explain_own : (rs : List ℕ) (size room : ℕ) → given (lower (panel_check rs) (room_check size room)) ≡ first (explain_own_table rs size room)
unfolding first
explain_own rs size room = go (wrong_panel rs) (overflow rs) (ltb room size)
  where
    go : (a b c : Bool) → given (lower (refuse Size a else refuse PanelTooWide b) (refuse NoRoom c)) ≡ first (entry 1 a ∷ entry 4 b ∷ entry 10 c ∷ [])
    go true b true = refl
    go true b false = refl
    go false true true = refl
    go false true false = refl
    go false false true = refl
    go false false false = refl

pub load_own : (rs : List ℕ) (k v : ℕ) → given (lower (panel_check rs) (refuse PanelTooWide (not (takes k v)))) ≡ first (load_own_table rs k v)
unfolding first
load_own rs k v = go (wrong_panel rs) (overflow rs) (not (takes k v))
  where
    go : (a b c : Bool) → given (lower (refuse Size a else refuse PanelTooWide b) (refuse PanelTooWide c)) ≡ first (entry 1 a ∷ entry 4 (b || c) ∷ [])
    go true b true = refl
    go true b false = refl
    go false true true = refl
    go false true false = refl
    go false false true = refl
    go false false false = refl

pub room_own : (size room : ℕ) → given (room_check size room) ≡ first (room_table size room)
unfolding first
room_own size room = go (ltb room size)
  where
    go : (b : Bool) → given (refuse NoRoom b) ≡ first (entry 10 b ∷ [])
    go true = refl
    go false = refl

two : (a b : Bool) → given (lower (refuse Size a) (refuse NoRoom b)) ≡ first (entry 1 a ∷ entry 10 b ∷ [])
unfolding first
two true true = refl
two true false = refl
two false true = refl
two false false = refl

pub record_own : (job : List ℕ) (size room : ℕ) → given (lower (record_check job) (room_check size room)) ≡ first (record_table job size room)
record_own job size room = two _ _

pub held_own : (job : List ℕ) (size room : ℕ) → given (lower (held_check job) (room_check size room)) ≡ first (held_own_table job size room)
held_own job size room = two _ _

pub start_own : (held job : List ℕ) (size room : ℕ)
    → given (lower (held_check held) (lower (record_check job) (room_check size room))) ≡ first (start_own_table held job size room)
unfolding first
start_own held job size room = go (not (eqb (length held) 0 || eqb (length held) record_size)) (not (eqb (length job) record_size)) (ltb room size)
  where
    go : (a b c : Bool)
        → given (lower (refuse Size a) (lower (refuse Size b) (refuse NoRoom c))) ≡ first (entry 1 a ∷ entry 1 b ∷ entry 10 c ∷ [])
    go true true true = refl
    go true true false = refl
    go true false true = refl
    go true false false = refl
    go false true true = refl
    go false true false = refl
    go false false true = refl
    go false false false = refl

-- ---- the first of the two

not_zero : (r : Refusal) → eqb (tells r).0 0 ≡ false
not_zero r = go (eqb (tells r).0 0) refl
  where
    go : (b : Bool) → eqb (tells r).0 0 ≡ b → b ≡ false
    go true e = absurd (some_number r (eqb-true (tells r).0 0 e))
    go false e = refl

pub lower_given : (own call : Check) → given (lower own call) ≡ lowest (given own) (given call)
lower_given (Ok tt) call = refl
lower_given (Err r) (Ok tt) = rw (not_zero r)
lower_given (Err r) (Err s) = rw (not_zero r, not_zero s) (go (ltb (turn (number_of s)) (turn (number_of r))))
  where
    go : (b : Bool) → tells (pick b s r) ≡ pick b (tells s) (tells r)
    go true = refl
    go false = refl

-- both are passed where there is no number
pub both_pass : (own call : Check) → (given (lower own call)).0 ≡ 0 → (own ≡ Ok tt) × (call ≡ Ok tt)
both_pass (Ok tt) call h = (refl, passes call h)
both_pass (Err r) call h = absurd (some_number (lower_of r call) h)
