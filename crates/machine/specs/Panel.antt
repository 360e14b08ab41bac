-- Document 01, 'The machine': the panel's registers, with SC3 of document 02, request c, and loading one of them.
use Rattle.std.specs.Prelude.{ℕ, List, [], ◌∷◌, get_or, set}
use Rattle.machine.specs.declared.Panel.{Panel}

-- "The panel holds five N-bit registers (comparand COMP, syllable definition SDR, search commands SC1 and SC2, multioperation MOR), three 8-bit
-- ones (response key, response care, response target) and an address": numbered from 0 in this order. 02 c: "Add a third search register SC3": the
-- others keep their numbers, and it has the next (house).
abbrev pub registers : Panel → List ℕ
registers p = p.comp ∷ p.sdr ∷ p.sc1 ∷ p.sc2 ∷ p.mor ∷ p.key ∷ p.care ∷ p.target ∷ p.address.0 ∷ p.sc3 ∷ []

-- the panel with these registers; those that the list doesn't reach are 0
abbrev pub panel_of : List ℕ → Panel
panel_of rs = let at : ℕ → ℕ = λ k. get_or rs k 0 in
    record { comp = at 0; sdr = at 1; sc1 = at 2; sc2 = at 3; mor = at 4; key = at 5; care = at 6; target = at 7; address = record { 0 = at 8 }; sc3 = at 9 }

-- "Loading one register of the panel changes that register and no other": the registers after register k is loaded with v. A panel has no other.
abbrev pub load : ℕ → ℕ → Panel → List ℕ
load k v p = set (registers p) k v
