-- How long the parts of an answer can be, and a refusal's.
use Prim.Native.Nat.{ℕ, zero, suc, ◌+◌, ◌/◌, ◌%◌, ◌≤◌}
use Prim.Native.String.{String}
use mathlib.Core.Bool.{Bool, true, false, ◌&&◌}
use mathlib.Core.List.{List, [], ◌∷◌, ◌++◌}
use native.Mathlib.Omega.{arith}
use lib.Dec.{ltb, leb, eqb}
use lib.ListN.{length, length-append}
use Rattle.laws.specs.Bits.{pick}
use Rattle.machine.specs.declared.Refusal.{Refusal}
use Rattle.machine.specs.Refusals.{number_of, also_answers}
use Rattle.text.specs.Ascii.{ascii}
use Rattle.output.specs.Digits.{hex_digits, decimal_digits}
use Rattle.output.specs.Digits.{pair}
use Rattle.listing.specs.Lists.{named, named16, named_response, syllable_text, also_text, refusal_text}
use Rattle.output.proofs.Puts.{length_hex}

-- ---- texts of at most so many bytes

pub record Within (s : List ℕ) (n : ℕ) : Type 0 where
  pub fits : length s ≤ n

pub none : {n : ℕ} → Within [] n
none = record { fits = omega arith }

pub both : {a b : List ℕ} {m n : ℕ} → Within a m → Within b n → Within (a ++ b) (m + n)
both {a} {b} p q = record { fits = omega (arith, p.fits, q.fits, length-append a b) }

pub within : {s : List ℕ} {m : ℕ} (n : ℕ) → m ≤ n → Within s m → Within s n
within n h p = record { fits = omega (arith, p.fits) }

pub either : {a b : List ℕ} {n : ℕ} (t : Bool) → Within a n → Within b n → Within (pick t a b) n
either true p q = p
either false p q = q

pub text : (s : String) → Within (ascii s) (length (ascii s))
text s = record { fits = omega arith }

pub decimal : (k x : ℕ) → Within (decimal_digits k x) k
unfolding decimal_digits
decimal zero x = record { fits = omega arith }
decimal (suc k) x =
    either {a = (48 + x) ∷ []} {b = decimal_digits k (x / 10) ++ ((48 + x % 10) ∷ [])} (ltb x 10) (record { fits = omega arith })
    (record { fits = omega (arith, (decimal k (x / 10)).fits, length-append (decimal_digits k (x / 10)) ((48 + x % 10) ∷ [])) })

pub hex : (x : ℕ) → Within (hex_digits 16 x) 16
hex x = record { fits = omega (arith, length_hex x) }

pub two : (x : ℕ) → Within (pair x) 2
two x = record { fits = omega arith }

pub number : (name : String) (x : ℕ) → Within (named name x) (length (ascii name) + 20)
number name x = both (text name) (decimal 20 x)

pub word : (name : String) (x : ℕ) → Within (named16 name x) (length (ascii name) + 16)
word name x = both (text name) (hex x)

pub byte : (name : String) (x : ℕ) → Within (named_response name x) (length (ascii name) + 2)
byte name x = both (text name) (two x)

-- ---- a refusal

syllable : (value : ℕ) → Within (syllable_text value) 26
syllable value = within 26 (omega arith) (either (eqb value 1) (text " A") (either (eqb value 2) (text " B") (text " P")))

pub also : (why : Refusal) → Within (also_text why) 26
also why =
    either (eqb (number_of why) 3) (number " word " (also_answers why))
    (either (eqb (number_of why) 9) (within 26 (omega arith) (number " at " (also_answers why)))
    (either {b = []} (leb 20 (number_of why) && leb (number_of why) 22) (syllable (also_answers why)) none))

pub refused : (why : Refusal) → Within (refusal_text why) 54
refused why = let x = both (number "refused " (number_of why)) (also why) in x
