-- Document 01, 'Jobs': the command at each place. "Registers not mentioned are 0 in its commands."
use Rattle.std.specs.Prelude.{ℕ, ◌+◌, ◌-◌, ◌*◌, ◌%◌, ◌^◌, Bool, true, false, [], ◌∷◌, eqb}
use Rattle.std.specs.Int.Bits.{bit_or}
use Rattle.laws.specs.Bits.{pick}
use Rattle.machine.specs.declared.Lines.{Lines}
use Rattle.machine.specs.declared.ResponseBit.{ResponseBit}
use Rattle.machine.specs.Panel.{panel_of}
use Rattle.job_plans.specs.declared.Span.{Span}
use Rattle.job_plans.specs.declared.Job.{Job}
use Rattle.job_plans.specs.declared.Command.{Command}
use Rattle.job_plans.specs.Fields.{Kind, greatest, smallest, scaledAdd, product, unknown, kind_of, by_kind}
use Rattle.job_plans.specs.Places.{no_bit}

-- the lines of a command: search s, multiadd m, and no other
abbrev pub raising : Bool → Bool → Lines
raising s m = record { search = s; read = false; write = false; add = false; multiwrite = false; multiadd = m; complement = false }

-- a command: its lines, then COMP, SDR, SC2, MOR, key, care and target; SC1, the address and SC3 are 0 in every one. 02 c: "Jobs set it to 0."
abbrev pub order : Lines → ℕ → ℕ → ℕ → ℕ → ℕ → ℕ → ℕ → Command
order lines comp sdr sc2 mor key care target = record { panel = panel_of (comp ∷ sdr ∷ 0 ∷ sc2 ∷ mor ∷ key ∷ care ∷ target ∷ []); lines = lines }

-- search the bits of the mask exact as in comp, under (key, care), target bit t; all other bits are don't care
abbrev pub look : ℕ → ℕ → ResponseBit → ℕ → ℕ → Command
look key care t mask comp = order (raising true false) comp 0 mask 0 key care (2 ^ t.0)

-- multiadd v into P under response bit y: "Adds set MOR to P's bits and SDR to P's top bit."
abbrev pub plus : ResponseBit → Span → ℕ → Command
plus y s v = order (raising false true) (v * 2 ^ s.low.0) (2 ^ (s.low.0 + s.width - 1)) 0
    (2 ^ (s.width + s.low.0) - 2 ^ s.low.0) (2 ^ y.0) (2 ^ y.0) 0

-- bit i of a syllable, at its place in the word
abbrev pub bit_of : Span → ℕ → ℕ
bit_of s i = 2 ^ (s.low.0 + i)

-- "search, all don't care, under the criterion, target X"
abbrev pub opening : Job → Command
opening o = look o.key o.care o.x 0 0

-- "search that bit exact 1 under X=1, target Y"; "the same with exact 0"; "search A's bit i exact 1 under the criterion, target Y";
-- "search A's bit i and B's bit j exact 1 under the criterion, target Y"
abbrev pub trial : Kind → Job → Command
trial greatest o = look (2 ^ o.x.0) (2 ^ o.x.0) o.y (bit_of o.a o.i) (bit_of o.a o.i)
trial smallest o = look (2 ^ o.x.0) (2 ^ o.x.0) o.y (bit_of o.a o.i) 0
trial scaledAdd o = look o.key o.care o.y (bit_of o.a o.i) (bit_of o.a o.i)
trial product o = look o.key o.care o.y (bit_or (bit_of o.a o.i) (bit_of o.b o.j)) (bit_or (bit_of o.a o.i) (bit_of o.b o.j))
trial unknown o = look 0 0 no_bit 0 0

-- "search all don't care under Y=1, target X"; "multiadd c·2^i mod 2^p into P under Y=1"; "multiadd 2^(i+j) into P under Y=1"
abbrev pub second : Kind → Job → Command
second k o = by_kind k (look (2 ^ o.y.0) (2 ^ o.y.0) o.x 0 0) (plus o.y o.p (o.c * 2 ^ o.i % 2 ^ o.p.width))
    (plus o.y o.p (2 ^ (o.i + o.j))) (look 0 0 no_bit 0 0)

unfoldable pub command : Job → Command
command o = pick (eqb o.phase 0) (opening o) (pick (eqb o.phase 1) (trial (kind_of o.kind) o) (second (kind_of o.kind) o))
