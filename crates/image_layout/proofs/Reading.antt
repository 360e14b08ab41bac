-- What bytes say: numbers and records, as many as are asked for.
use Prim.Native.Nat.{ℕ, zero, suc}
use mathlib.Core.Path.{◌≡◌, refl, ap}
use mathlib.Core.List.{List}
use lib.ListN.{length, drop}
use Rattle.image_layout.specs.Sizes.{record_size}
use Rattle.image_layout.specs.Reading.{numbers, records}

pub length_numbers : (k n : ℕ) (b : List ℕ) → length (numbers k n b) ≡ n
unfolding numbers
length_numbers k zero b = refl
length_numbers k (suc n) b = ap suc (length_numbers k n (drop k b))

pub length_records : (n : ℕ) (b : List ℕ) → length (records n b) ≡ n
unfolding records
length_records zero b = refl
length_records (suc n) b = ap suc (length_records n (drop record_size b))
