-- Chains of checks: the first that is not passed is the answer.
use Prim.Native.Nat.{ℕ, zero, suc, ◌+◌, ◌/◌, ◌^◌, ◌≤◌, ◌<◌}
use mathlib.Core.Path.{◌≡◌, refl, sym, ap, ◌∙◌}
use mathlib.Core.Bool.{Bool, true, false, not, ◌||◌}
use mathlib.Core.Logic.{◌⊎◌, inl, inr, ⊎_elim}
use mathlib.Core.List.{List, [], ◌∷◌}
use native.Mathlib.Nat.{div-eq_of_lt, le-div_iff_mul-le}
use native.Mathlib.Numerals.{add-one}
use native.Mathlib.Omega.{arith}
use lib.Dec.{ltb, eqb}
use lib.ListN.{length, get_or, drop, drop_of_length-le}
use lib.Seq.{drop-cons}
use lib.Pow.{pow_pos, pow_mono}
use borrow.Author.Tests.{lt-ltb, le-ltb, le-leb, lt-leb, ltb-false, leb-false, not-false, eqb-true}
use Rattle.laws.proofs.Digits.{tri}
use Rattle.machine.specs.declared.Panel.{Panel}
use Rattle.machine.specs.declared.Lines.{Lines}
use Rattle.machine.specs.declared.WordSlice.{WordSlice}
use Rattle.std.specs.Prelude.{Result, Ok, Err, Option, Some, None, IsErrAnd}
use Rattle.machine.specs.declared.Refusal.{Refusal}
use Rattle.machine.specs.declared.Refusal.TheVariants.{Size, Width, WordTooWide, PanelTooWide, TwoCodes, WrongLines, NoSuchWord, EmptySyllable, BeyondWord, Overlap, NoSuchBit, BitsClash, WrongJob, Malformed, NoRoom, NotShown}
use Rattle.machine.specs.Resolution.{lowest}
use Rattle.machine.specs.Machine.{Machine}
use Rattle.machine.specs.Refusals.{bad_size, bad_width, too_wide, bad_panel, bad_codes, bad_lines, bad_address, ◌else◌, Check, refuse, refuse_word, machine_check, pulse_check, tells, numbers, turn}

-- ---- one link of a chain, in the code's terms: d is what the code answers, t its test

pub refused : (r : Refusal) (t : Bool) (c : Check) → t ≡ true → Err r ≡ (refuse r t else c)
refused r t c h = rw h

pub onward : (r : Refusal) (t : Bool) (c d : Check) → t ≡ false → d ≡ c → d ≡ (refuse r t else c)
onward r t c d h e = rw h e

-- what `?` hands on is the very refusal
pub handed : {A R : Type 0} (d : Result A R) (e : R) → IsErrAnd d (λ y. y ≡ e) → d ≡ Err e
handed (Ok x) e h = absurd h
handed (Err y) e h = ap Err h

-- the last link
pub last : (r : Refusal) (t : Bool) → t ≡ true → Err r ≡ refuse r t
last r t h = rw h

pub none : (r : Refusal) (t : Bool) → t ≡ false → (Ok tt) ≡ refuse r t
none r t h = rw h

-- ---- a number too wide, by its bits at and above bit n

pub above : (n x : ℕ) → ltb 0 (x / 2 ^ n) ≡ too_wide n x
above n x =
    ⊎_elim (λ h. le-ltb 0 (x / 2 ^ n) (omega (arith, div-eq_of_lt h)) ∙ sym (lt-leb (2 ^ n) x h))
    (λ h. lt-ltb 0 (x / 2 ^ n) ((le-div_iff_mul-le (pow_pos n)).1 (omega arith)) ∙ sym (le-leb (2 ^ n) x h))
    (or_more x (2 ^ n))
  where
    or_more : (x m : ℕ) → (x < m) ⊎ (m ≤ x)
    or_more x m = ⊎_elim inl (⊎_elim (λ e. inr (omega arith)) (λ h. inr (omega arith))) (tri x m)

pub never : (n x : ℕ) → 64 ≤ n → x < 2 ^ 64 → false ≡ too_wide n x
never n x h g = sym (lt-leb (2 ^ n) x (omega (arith, pow_mono h)))

-- ---- the lowest that passes a test

pub lowest_here : (test : ℕ → Bool) (xs : List ℕ) (i : ℕ) → i < length xs → test (get_or xs i 0) ≡ true → lowest test i (drop i xs) ≡ Some (record { 0 = i })
unfolding lowest
lowest_here test xs i h e = rw (drop-cons xs i 0) (rw e refl)

pub lowest_later : (test : ℕ → Bool) (xs : List ℕ) (i : ℕ) → i < length xs → test (get_or xs i 0) ≡ false
    → lowest test (i + 1) (drop (i + 1) xs) ≡ lowest test i (drop i xs)
unfolding lowest
lowest_later test xs i h e = rw (add-one i, drop-cons xs i 0) (rw e refl)

pub lowest_end : (test : ℕ → Bool) (xs : List ℕ) (i : ℕ) → length xs ≤ i → lowest test i (drop i xs) ≡ None
unfolding lowest
lowest_end test xs i h = rw (drop_of_length-le xs h)

pub none_lowest : (n k : ℕ) (ws : List ℕ) → ((j : ℕ) → j < length ws → get_or ws j 0 < 2 ^ n) → lowest (too_wide n) k ws ≡ None
unfolding lowest
none_lowest n k [] h = refl
none_lowest n k (w ∷ ws) h = rw (lt-leb (2 ^ n) w (h 0 (omega arith))) (none_lowest n (suc k) ws (λ j g. h (suc j) (omega arith)))

-- ---- each refusal's number is one of those that are checked; so it is not 0, and not 8: "8 is retired"

pub listed : (r : Refusal) → turn (tells r).0 < length numbers
listed Size = omega arith
listed Width = omega arith
listed (WordTooWide k) = omega arith
listed PanelTooWide = omega arith
listed TwoCodes = omega arith
listed WrongLines = omega arith
listed NoSuchWord = omega arith
listed (EmptySyllable s) = omega arith
listed (BeyondWord s) = omega arith
listed (Overlap s) = omega arith
listed NoSuchBit = omega arith
listed BitsClash = omega arith
listed WrongJob = omega arith
listed (Malformed place) = omega arith
listed NoRoom = omega arith
listed NotShown = omega arith

not_listed : (k n : ℕ) → turn n < length numbers → n ≡ k → length numbers ≤ turn k → ⊥
not_listed k n h e g = let x : turn n ≡ turn k = ap turn e in omega (arith, x)

pub some_number : (r : Refusal) → (tells r).0 ≡ 0 → ⊥
some_number r e = not_listed 0 (tells r).0 (listed r) e (omega arith)

pub not_eight : (r : Refusal) → (tells r).0 ≡ 8 → ⊥
not_eight r e = not_listed 8 (tells r).0 (listed r) e (omega arith)

-- ---- what a check that is passed shows

pub else_passed : (c d : Check) → (c else d) ≡ Ok tt → (c ≡ Ok tt) × (d ≡ Ok tt)
else_passed (Ok tt) d h = (refl, h)
else_passed (Err r) d h = (cc, cc)

pub else_assoc : (b c d : Check) → ((b else c) else d) ≡ (b else c else d)
else_assoc (Ok tt) c d = refl
else_assoc (Err r) c d = refl

pub not_refused : (r : Refusal) (t : Bool) → refuse r t ≡ Ok tt → t ≡ false
not_refused r true h = cc
not_refused r false h = refl

pub or_left : (x y : Bool) → (x || y) ≡ false → x ≡ false
or_left true y h = h
or_left false y h = refl

pub or_right : (x y : Bool) → (x || y) ≡ false → y ≡ false
or_right true y h = cc
or_right false y h = h

pub width_pos : (n : ℕ) → bad_width n ≡ false → 0 < n
unfolding bad_width
width_pos zero h = let z : ◌≡◌ {A = ℕ} 0 1 = cc in absurd (omega arith)
width_pos (suc n) h = omega arith

pub width_le : (n : ℕ) → bad_width n ≡ false → n ≤ 64
unfolding bad_width
width_le n h = ltb-false 64 n (or_right (eqb n 0) (ltb 64 n) h)

pub size_same : (n k : ℕ) → bad_size n k ≡ false → k ≡ n
unfolding bad_size
size_same n k h = eqb-true k n (not-false (eqb k n) (or_right (ltb 1024 n) (not (eqb k n)) (or_right (eqb n 0) (ltb 1024 n || not (eqb k n)) h)))

no_word : (f : Option WordSlice) → refuse_word f ≡ Ok tt → f ≡ None
no_word (Some k) h = cc
no_word None h = refl

-- a machine that passes 1 to 3
pub record Sound (m : Machine) : Type 0 where
  pub size : bad_size (length m.words) (length m.responses) ≡ false
  pub width : bad_width m.width ≡ false
  pub words : lowest (too_wide m.width) 0 m.words ≡ None

pub sound : (m : Machine) → machine_check m ≡ Ok tt → Sound m
unfolding machine_check
sound m h =
    let a = else_passed (refuse Size (bad_size (length m.words) (length m.responses))) _ h in
    let b = else_passed (refuse Width (bad_width m.width)) _ a.1 in
    record { size = not_refused Size _ a.0; width = not_refused Width _ b.0; words = no_word _ b.1 }

-- a command that passes 1 to 7
pub record Clean (m : Machine) (p : Panel) (l : Lines) : Type 0 where
  pub sound : Sound m
  pub panel : bad_panel m.width p ≡ false
  pub codes : bad_codes m.width p l ≡ false
  pub lines : bad_lines l ≡ false
  pub address : bad_address (length m.words) p l ≡ false

pub clean : (m : Machine) (p : Panel) (l : Lines) → pulse_check m p l ≡ Ok tt → Clean m p l
unfolding pulse_check
clean m p l h =
    let a = else_passed (machine_check m) _ h in
    let b = else_passed (refuse PanelTooWide (bad_panel m.width p)) _ a.1 in
    let c = else_passed (refuse TwoCodes (bad_codes m.width p l)) _ b.1 in
    let d = else_passed (refuse WrongLines (bad_lines l)) _ c.1 in
    record {
      sound = sound m a.0;
      panel = not_refused PanelTooWide _ b.0;
      codes = not_refused TwoCodes _ c.0;
      lines = not_refused WrongLines _ d.0;
      address = not_refused NoSuchWord _ d.1;
    }

-- the numbers below 2 to the width
pub not_wide : (n x : ℕ) → too_wide n x ≡ false → x < 2 ^ n
not_wide n x h = leb-false (2 ^ n) x h
