-- Document 02, request d: 20 to 25 of the fields that a job uses, and of those that it does not. They stand where document 01 has 8, of which it
-- says: "Of a job 8 judges used fields, its place only after the start, and then too that others are 0."
use Rattle.std.specs.Prelude.{◌≡◌, ℕ, ◌+◌, Bool, true, false, not, ◌&&◌, ltb, eqb, Option, Result, Ok, Err}
use Rattle.laws.specs.Bits.{pick}
use Rattle.machine.specs.declared.Syllable.{Syllable}
use Rattle.machine.specs.declared.Syllable.TheVariants.{A, B, P}
use Rattle.machine.specs.declared.Refusal.{Refusal}
use Rattle.machine.specs.declared.Refusal.TheVariants.{EmptySyllable, BeyondWord, Overlap, WrongJob}
use Rattle.machine.specs.declared.ResponseBit.{ResponseBit}
use Rattle.machine.specs.Refusals.{Check, ◌else◌, refuse, bit_check, apart_check, care_check}
use Rattle.job_plans.specs.declared.Span.{Span}
use Rattle.job_plans.specs.declared.Job.{Job}
use Rattle.job_plans.specs.declared.Kind.{Kind as Known}
use Rattle.job_plans.specs.declared.Kind.TheVariants.{Greatest, Smallest, ScaledAdd, Product}

-- a job's fields, in the image's order
abbrev pub job : ℕ → ℕ → ℕ → ResponseBit → ResponseBit → Span → Span → Span → ℕ → ℕ → ℕ → ℕ → Job
job kind key care x y a b p phase i j c =
    record { kind = kind; key = key; care = care; x = x; y = y; a = a; b = b; p = p; phase = phase; i = i; j = j; c = c }

-- the held job: none, or one
abbrev pub Held : Type 0
Held = Option Job

-- "kind (1 to 4 as in the table)"
pub data Kind : Type 0 where
  greatest smallest scaledAdd product unknown : Kind

unfoldable pub kind_of : ℕ → Kind
kind_of k = pick (eqb k 1) greatest (pick (eqb k 2) smallest (pick (eqb k 3) scaledAdd (pick (eqb k 4) product unknown)))

-- the same four, as the code names them
abbrev pub named : Known → Kind
named Greatest = greatest
named Smallest = smallest
named ScaledAdd = scaledAdd
named Product = product

-- the kind of that number, or 25: "unknown kind"
abbrev pub IsKindOf : ℕ → Result Known Refusal → Type 0
IsKindOf number (Ok kind) = kind_of number ≡ named kind
IsKindOf number (Err why) = (kind_of number ≡ unknown) × (why ≡ WrongJob)

-- what is said of extremes, of scaled adds, of products, and of a kind that isn't in the table, in this order
abbrev pub by_kind : {A : Type 0} → Kind → A → A → A → A → A
by_kind greatest e s p u = e
by_kind smallest e s p u = e
by_kind scaledAdd e s p u = s
by_kind product e s p u = p
by_kind unknown e s p u = u

-- ---- used fields

-- 20: "syllable empty"; "also name the syllable"
abbrev pub empty_check : Syllable → Span → Check
empty_check name s = refuse (EmptySyllable name) (eqb s.width 0)

-- 21: "syllable beyond the word"
abbrev pub beyond_check : ℕ → Syllable → Span → Check
beyond_check n name s = refuse (BeyondWord name) (ltb n (s.low.0 + s.width))

-- 22: "result overlaps a source"
abbrev pub overlaps : Span → Span → Bool
overlaps s t = ltb s.low.0 (t.low.0 + t.width) && ltb t.low.0 (s.low.0 + s.width)

-- "for 22 the source"
abbrev pub overlap_check : Span → Syllable → Span → Check
overlap_check p name s = refuse (Overlap name) (overlaps p s)

-- asked only if the field is used
abbrev pub if_used : Bool → Check → Check
if_used used c = pick used c (Ok tt)

-- Every job uses A and Y; x, b and p say whether it uses X, B and P.
-- "lowest first", and of one number "A before B before P"; 23 and 24 of X and then Y
abbrev pub fields_check : Bool → Bool → Bool → ℕ → Job → Check
fields_check x b p n o = empty_check A o.a else if_used b (empty_check B o.b) else if_used p (empty_check P o.p)
    else beyond_check n A o.a else if_used b (beyond_check n B o.b) else if_used p (beyond_check n P o.p)
    else if_used p (overlap_check o.p A o.a) else if_used b (overlap_check o.p B o.b)
    else if_used x (bit_check o.x) else bit_check o.y
    else if_used x (apart_check o.x o.y) else if_used x (care_check o.care o.x) else care_check o.care o.y

-- extremes use X, Y and A
unfoldable pub extreme_check : ℕ → Job → Check
extreme_check n o = fields_check true false false n o

-- a scaled add Y, A and P
unfoldable pub scaled_add_check : ℕ → Job → Check
scaled_add_check n o = fields_check false false true n o

-- a product Y, A, B and P
unfoldable pub product_check : ℕ → Job → Check
product_check n o = fields_check false true true n o

-- 25: "unknown kind"; "an unknown kind gets only 25"
abbrev pub used_check_for : Kind → ℕ → Job → Check
used_check_for k n o = by_kind k (extreme_check n o) (scaled_add_check n o) (product_check n o) (refuse WrongJob true)

unfoldable pub used_check : ℕ → Job → Check
used_check n o = used_check_for (kind_of o.kind) n o

-- ---- the others

abbrev pub is_zero : Span → Bool
is_zero s = eqb s.low.0 0 && eqb s.width 0

-- extremes use no B, P, j and c; a scaled add no X, B and j; a product no X and c
abbrev pub unused_zero_for : Kind → Job → Bool
unused_zero_for k o = by_kind k (is_zero o.b && is_zero o.p && eqb o.j 0 && eqb o.c 0)
    (eqb o.x.0 0 && is_zero o.b && eqb o.j 0) (eqb o.x.0 0 && eqb o.c 0) false

unfoldable pub unused_zero : Job → Bool
unused_zero o = unused_zero_for (kind_of o.kind) o

-- 25: "unused field not 0"
abbrev pub unused_check : Job → Check
unused_check o = refuse WrongJob (not (unused_zero o))
