-- Digit pairs, one after the other, by the definitions paired and pairs.
use Prim.Native.Nat.{ℕ, suc, ◌+◌, ◌-◌, ◌*◌, ◌%◌, ◌<◌, ◌≤◌}
use mathlib.Core.Bool.{Bool, true, false, ◌&&◌}
use mathlib.Core.Path.{◌≡◌, refl, sym, ◌∙◌}
use mathlib.Core.List.{List, [], ◌∷◌}
use native.Mathlib.Numerals.{add-one}
use native.Mathlib.Omega.{arith}
use borrow.Author.Tests.{le-leb, lt-leb, ltb-true}
use lib.Dec.{ltb}
use lib.ListN.{length, take, drop, get_or, set}
use lib.Seq.{sets, drop-cons, drop-length, take-nil}
use Rattle.std.specs.Prelude.{Option, Some, None}
use Rattle.laws.specs.Bits.{pick}
use Rattle.text.specs.Numbers.{digit_of, paired, pairs, bytes_of}

-- ---- one pair

is_told : (t : Bool) (x v : ℕ) → Some v ≡ pick t (Some x) None → (t ≡ true) × (v ≡ x)
is_told true x v e = (refl, cc)
is_told false x v e = let z : ◌≡◌ {A = ℕ} 0 1 = cc in let y : ⊥ = omega arith in absurd y

bad_told : (t : Bool) (x : ℕ) → None ≡ pick t (Some x) None → t ≡ false
bad_told true x e = let z : ◌≡◌ {A = ℕ} 0 1 = cc in let y : ⊥ = omega arith in absurd y
bad_told false x e = refl

and_first : (x y : Bool) → x && y ≡ true → x ≡ true
and_first true y e = refl
and_first false y e = e

and_second : (x y : Bool) → x && y ≡ true → y ≡ true
and_second true y e = e
and_second false y e = let z : ◌≡◌ {A = ℕ} 0 1 = cc in let y : ⊥ = omega arith in absurd y

and_false : (x : Bool) → x && false ≡ false
and_false true = refl
and_false false = refl

-- ---- what the definitions say

two_paired : (a b : ℕ) (s : List ℕ) → paired (a ∷ (b ∷ s)) ≡ (ltb (digit_of a) 16 && ltb (digit_of b) 16) && paired s
unfolding paired
two_paired a b s = refl

one_paired : (a : ℕ) → paired (a ∷ []) ≡ false
unfolding paired
one_paired a = refl

none_paired : paired [] ≡ true
unfolding paired
none_paired = refl

two_pairs : (a b : ℕ) (s : List ℕ) → pairs (a ∷ (b ∷ s)) ≡ pick (ltb (digit_of a) 16 && ltb (digit_of b) 16) ((digit_of a * 16 + digit_of b) ∷ pairs s) []
unfolding pairs
two_pairs a b s = refl

one_pairs : (a : ℕ) → pairs (a ∷ []) ≡ []
unfolding pairs
one_pairs a = refl

none_pairs : pairs [] ≡ []
unfolding pairs
none_pairs = refl

-- ---- what is still to be read and put: at place i of the digits and n of the buffer

pub record Pairing (out₀ s out : List ℕ) (n i : ℕ) : Type 0 where
  pub right : paired (drop i s) ≡ paired s
  pub count : n + length (pairs (drop i s)) ≡ length (pairs s)
  pub whole : sets out n (take (length out₀ - n) (pairs (drop i s))) ≡ sets out₀ 0 (take (length out₀) (pairs s))

pub begun : (out s : List ℕ) → Pairing out s out 0 0
begun out s =
    let e : length out - 0 ≡ length out = omega arith in record { right = refl; count = omega arith; whole = rw e }

-- the answer and the buffer at an end
abbrev pub Ends : List ℕ → List ℕ → List ℕ → Option ℕ → Type 0
Ends out₀ s out r = (r ≡ bytes_of (length out₀) s) × (out ≡ sets out₀ 0 (take (length out₀) (pairs s)))

module _ (out₀ s out : List ℕ) (n i : ℕ) (so_far : Pairing out₀ s out n i) where
  wrong : paired (drop i s) ≡ false → None ≡ bytes_of (length out₀) s
  wrong e = rw (← so_far.right, e)

  no_pairs : pairs (drop i s) ≡ [] → out ≡ sets out₀ 0 (take (length out₀) (pairs s))
  no_pairs e = rw (e, take-nil) at so_far.whole

  pub all_read : length s ≡ i → n ≤ length out₀ → Ends out₀ s out (Some n)
  all_read e h =
      let no_more : drop i s ≡ [] = rw (← e, drop-length) in
      let f : paired s ≡ true = sym so_far.right ∙ (rw no_more none_paired) in
      let g : length (pairs s) ≡ n = omega (arith, rw (no_more, none_pairs) at so_far.count) in
      (rw (f, g, le-leb n (length out₀) h), no_pairs (rw no_more none_pairs))

  module _ (inside : i < length s) where
    pub odd : length s - i < 2 → Ends out₀ s out None
    odd h =
        let e : length s ≡ suc i = omega arith in
        let last : drop i s ≡ get_or s i 0 ∷ [] = rw (drop-cons s i 0 inside, ← e, drop-length) in
        (wrong (rw last (one_paired (get_or s i 0))), no_pairs (rw last (one_pairs (get_or s i 0))))

    module _ (two : 2 ≤ length s - i) where
      left : drop i s ≡ get_or s i 0 ∷ (get_or s (i + 1) 0 ∷ drop (i + 2) s)
      left =
          let e : i + 2 ≡ suc (suc i) = omega arith in
          rw (e, add-one i, drop-cons s i 0 inside, drop-cons s (suc i) 0 (omega arith))

      abbrev good : Bool
      good = ltb (digit_of (get_or s i 0)) 16 && ltb (digit_of (get_or s (i + 1) 0)) 16

      abbrev value : ℕ
      value = digit_of (get_or s i 0) * 16 + digit_of (get_or s (i + 1) 0)

      none_more : good ≡ false → Ends out₀ s out None
      none_more e = (wrong (rw (left, two_paired, e)), no_pairs (rw (left, two_pairs, e)))

      more : good ≡ true → pairs (drop i s) ≡ value ∷ pairs (drop (i + 2) s)
      more e = rw (left, two_pairs, e)

      counted : good ≡ true → n + suc (length (pairs (drop (i + 2) s))) ≡ length (pairs s)
      counted e = rw (more e) at so_far.count

      full_by : (t : Bool) → good ≡ t → length out₀ ≤ n → None ≡ bytes_of (length out₀) s
      full_by true e h = rw (lt-leb (length (pairs s)) (length out₀) (omega (arith, counted e)), and_false)
      full_by false e h = (none_more e).0

      pub full : length out₀ ≤ n → Ends out₀ s out None
      full h =
          let e : length out₀ - n ≡ 0 = omega arith in
          (full_by good refl h, rw e at so_far.whole)

      module _ (found : Option ℕ) (is : found ≡ pick good (Some value) None) where
        pub no_pair : found ≡ None → Ends out₀ s out None
        no_pair e = none_more (bad_told _ _ (sym e ∙ is))

        pub one_pair : n < length out₀ → (v : ℕ) → found ≡ Some v → (out' : List ℕ) → out' ≡ set out n (v % 256) → Pairing out₀ s out' (n + 1) (i + 2)
        one_pair k v e out' f =
            let x = digit_of (get_or s i 0) in
            let y = digit_of (get_or s (i + 1) 0) in
            let g = is_told good value v (sym e ∙ is) in
            let h = ltb-true x 16 (and_first (ltb x 16) (ltb y 16) g.0) in
            let l = ltb-true y 16 (and_second (ltb x 16) (ltb y 16) g.0) in
            let small : v % 256 ≡ value = omega (arith, g.1, h, l) in
            let room : length out₀ - n ≡ suc (length out₀ - suc n) = omega arith in
            record {
              right = sym (rw (left, two_paired, g.0) refl) ∙ so_far.right;
              count = omega (arith, counted g.0);
              whole = rw (f, small, add-one n) (rw (more g.0, room) at so_far.whole);
            }
