-- The cells' statuses agree with the numbers wherever each syllable has one code.
use Prim.Native.Nat.{ℕ, zero, suc, ◌+◌, ◌*◌, ◌^◌, ◌<◌}
use mathlib.Core.Path.{◌≡◌, refl, sym, ap, ap₂, ◌∙◌}
use mathlib.Core.Bool.{Bool, true, false, ◌&&◌, ◌||◌}
use mathlib.Core.List.{List, [], ◌∷◌}
use mathlib.Core.Logic.{◌⊎◌, inl, inr, ⊎_elim}
use native.Mathlib.Omega.{arith}
use lib.Dec.{ltb}
use borrow.Author.Tests.{lt-ltb, le-ltb, le-leb, lt-leb, eq-eqb, ne_eqb}
use Rattle.laws.specs.Bits.{bit, number}
use Rattle.laws.specs.Lists.{all}
use Rattle.laws.proofs.Digits.{Bit, off, on, bit_lt, tri}
use Rattle.laws.proofs.Bits.{digit_at, number_lt, every_like, every_at, and_left, and_right, or_cases}
use Rattle.machine.specs.declared.Panel.{Panel}
use Rattle.machine.specs.declared.Code.{Code}
use Rattle.machine.specs.declared.Code.TheVariants.{DontCare, Exact, Larger, Smaller}
use Rattle.machine.specs.declared.Status.{Status}
use Rattle.machine.specs.declared.Status.TheVariants.{Equal, For, Against}
use Rattle.machine.specs.Machine.{Syllable, syllables, selected}
use Rattle.machine.specs.Search.{code_at, each_code, or_equal, or_exact, or_larger, or_smaller, one_code, one_setting, compared_only, unmixed, cared, read_over, asks, satisfied, matches}
use Rattle.machine.specs.Cells.{cell, passed, wants, accepted, cells_match}

-- ---- two numbers compared, as a status

abbrev three : Bool → Bool → Status
three true t = For
three false true = Against
three false false = Equal

unfoldable compared : ℕ → ℕ → Status
compared u v = three (ltb v u) (ltb u v)

lower : (u v : ℕ) → u < v → compared u v ≡ Against
unfolding compared
lower u v h = simp (le-ltb v u (omega arith), lt-ltb u v h)

higher : (u v : ℕ) → v < u → compared u v ≡ For
unfolding compared
higher u v h = simp (lt-ltb v u h)

level : (u v : ℕ) → u ≡ v → compared u v ≡ Equal
unfolding compared
level u v h = simp (le-ltb v u (omega arith), le-ltb u v (omega arith))

-- a settled status stays
abbrev join : Status → Status → Status
join Equal t = t
join For t = For
join Against t = Against

-- what stands in front of both changes nothing
in_front : (a u v : ℕ) → compared (a + u) (a + v) ≡ compared u v
in_front a u v =
    ⊎_elim (λ h. lower (a + u) (a + v) (omega arith) ∙ sym (lower u v h))
    (⊎_elim (λ h. level (a + u) (a + v) (omega arith) ∙ sym (level u v h)) (λ h. higher (a + u) (a + v) (omega arith) ∙ sym (higher u v h)))
    (tri u v)

-- the top digit decides, and where it is equal the rest
top_decides : (k x y u v : ℕ) → Bit x → Bit y → u < 2 ^ k → v < 2 ^ k
    → compared (x * 2 ^ k + u) (y * 2 ^ k + v) ≡ join (compared x y) (compared u v)
top_decides k x y u v off on h g = lower (0 * 2 ^ k + u) (1 * 2 ^ k + v) (omega arith) ∙ sym (ap (λ (t : Status). join t (compared u v)) (lower 0 1 (omega arith)))
top_decides k x y u v on off h g = higher (1 * 2 ^ k + u) (0 * 2 ^ k + v) (omega arith) ∙ sym (ap (λ (t : Status). join t (compared u v)) (higher 1 0 (omega arith)))
top_decides k x y u v off off h g = in_front (0 * 2 ^ k) u v ∙ sym (ap (λ (t : Status). join t (compared u v)) (level 0 0 refl))
top_decides k x y u v on on h g = in_front (1 * 2 ^ k) u v ∙ sym (ap (λ (t : Status). join t (compared u v)) (level 1 1 refl))

-- ---- a syllable's status is its numbers compared, as its code sees them

abbrev seen : Code → Status → Status
seen d Equal = Equal
seen DontCare For = Equal
seen DontCare Against = Equal
seen Exact For = Against
seen Exact Against = Against
seen Larger For = For
seen Larger Against = Against
seen Smaller For = Against
seen Smaller Against = For

-- a bit's code in a syllable of code d
abbrev Carries : Code → Code → Type 0
Carries d e = (e ≡ DontCare) ⊎ (e ≡ d)

-- one cell, from equal
cell_is : (d : Code) (w c : ℕ) → Bit w → Bit c → cell d w c Equal ≡ seen d (compared (cared d w) (cared d c))
unfolding compared
cell_is DontCare w c p q = refl
cell_is Exact w c off off = refl
cell_is Exact w c off on = refl
cell_is Exact w c on off = refl
cell_is Exact w c on on = refl
cell_is Larger w c off off = refl
cell_is Larger w c off on = refl
cell_is Larger w c on off = refl
cell_is Larger w c on on = refl
cell_is Smaller w c off off = refl
cell_is Smaller w c off on = refl
cell_is Smaller w c on off = refl
cell_is Smaller w c on on = refl

carried_cell : (d e : Code) (w c : ℕ) → Carries d e → Bit w → Bit c → cell e w c Equal ≡ seen d (compared (cared e w) (cared e c))
unfolding compared
carried_cell d e w c (inl h) p q = rw h
carried_cell d e w c (inr h) p q = rw h (cell_is d w c p q)

cared_bit : (d : Code) (b : ℕ) → Bit b → Bit (cared d b)
cared_bit DontCare b h = off
cared_bit Exact b h = h
cared_bit Larger b h = h
cared_bit Smaller b h = h

module _ (e : ℕ → Code) (w c : ℕ → ℕ) where
  abbrev row : ℕ → Status → Status
  row j = cell (e j) (w j) (c j)

  stays_for : (k : ℕ) → passed row k For ≡ For
  unfolding passed
  stays_for zero = refl
  stays_for (suc k) = stays_for k

  stays_against : (k : ℕ) → passed row k Against ≡ Against
  unfolding passed
  stays_against zero = refl
  stays_against (suc k) = stays_against k

  unseen : (u : Status) → seen DontCare u ≡ Equal
  unseen Equal = refl
  unseen For = refl
  unseen Against = refl

  -- from a status that one bit has given
  onward : (d : Code) (k : ℕ) (t u : Status) → passed row k Equal ≡ seen d u → passed row k (seen d t) ≡ seen d (join t u)
  onward d k Equal u h = h
  onward DontCare k For u h = h ∙ unseen u
  onward DontCare k Against u h = h ∙ unseen u
  onward Exact k For u h = stays_against k
  onward Exact k Against u h = stays_against k
  onward Larger k For u h = stays_for k
  onward Larger k Against u h = stays_against k
  onward Smaller k For u h = stays_against k
  onward Smaller k Against u h = stays_for k

  abbrev sum : (ℕ → ℕ) → ℕ → ℕ
  sum x k = number k (λ j. cared (e j) (x j))

  sum_lt : (x : ℕ → ℕ) → ((j : ℕ) → Bit (x j)) → (k : ℕ) → sum x k < 2 ^ k
  sum_lt x b k = number_lt k _ (λ j g. bit_lt (cared_bit (e j) (x j) (b j)))

  status_is : (d : Code) → ((j : ℕ) → Bit (w j)) → ((j : ℕ) → Bit (c j)) → (k : ℕ) → ((j : ℕ) → j < k → Carries d (e j))
      → passed row k Equal ≡ seen d (compared (sum w k) (sum c k))
  unfolding passed number
  status_is d p q zero h = ap (seen d) (sym (level 0 0 refl))
  status_is d p q (suc k) h =
      ap (passed row k) (carried_cell d (e k) (w k) (c k) (h k (omega arith)) (p k) (q k))
      ∙ onward d k (compared (cared (e k) (w k)) (cared (e k) (c k))) _ (status_is d p q k (λ j g. h j (omega arith)))
      ∙ ap (seen d) (sym (top_decides k (cared (e k) (w k)) (cared (e k) (c k)) (sum w k) (sum c k)
      (cared_bit (e k) (w k) (p k)) (cared_bit (e k) (c k) (q k)) (sum_lt w p k) (sum_lt c q k)))

-- ---- what the bottom wants is what the numbers are asked

not_minding : (e : Bool) (t : Status) → wants DontCare e t ≡ true
not_minding e Equal = refl
not_minding e For = refl
not_minding e Against = refl

wants_asks : (d : Code) (e : Bool) (u v : ℕ) → wants d e (seen d (compared u v)) ≡ asks d e u v
wants_asks DontCare e u v = not_minding e (seen DontCare (compared u v))
wants_asks Exact e u v =
    ⊎_elim (λ h. rw (lower u v h, ne_eqb u v (λ n. omega arith)))
    (⊎_elim (λ h. rw (level u v h, eq-eqb u v h)) (λ h. rw (higher u v h, ne_eqb u v (λ n. omega arith)))) (tri u v)
wants_asks Larger false u v =
    ⊎_elim (λ h. rw (lower u v h, le-ltb v u (omega arith)))
    (⊎_elim (λ h. rw (level u v h, le-ltb v u (omega arith))) (λ h. rw (higher u v h, lt-ltb v u h))) (tri u v)
wants_asks Larger true u v =
    ⊎_elim (λ h. rw (lower u v h, lt-leb v u h))
    (⊎_elim (λ h. rw (level u v h, le-leb v u (omega arith))) (λ h. rw (higher u v h, le-leb v u (omega arith)))) (tri u v)
wants_asks Smaller true u v =
    ⊎_elim (λ h. rw (lower u v h, le-leb u v (omega arith)))
    (⊎_elim (λ h. rw (level u v h, le-leb u v (omega arith))) (λ h. rw (higher u v h, lt-leb u v h))) (tri u v)
wants_asks Smaller false u v =
    ⊎_elim (λ h. rw (lower u v h, lt-ltb u v h))
    (⊎_elim (λ h. rw (level u v h, le-ltb u v (omega arith))) (λ h. rw (higher u v h, le-ltb u v (omega arith)))) (tri u v)

carried_wants : (d e : Code) (s : Bool) (u v : ℕ) → Carries d e → wants e s (seen d (compared u v)) ≡ asks e s u v
carried_wants d e s u v (inl h) = rw h (not_minding s (seen d (compared u v)))
carried_wants d e s u v (inr h) = rw h (wants_asks d s u v)

-- ---- one code

or_exact_lem : (e : Code) → or_exact e ≡ true → Carries Exact e
or_exact_lem DontCare h = inl refl
or_exact_lem Exact h = inr refl
or_exact_lem Larger h = inl (cc)
or_exact_lem Smaller h = inl (cc)

or_larger_lem : (e : Code) → or_larger e ≡ true → Carries Larger e
or_larger_lem DontCare h = inl refl
or_larger_lem Exact h = inl (cc)
or_larger_lem Larger h = inr refl
or_larger_lem Smaller h = inl (cc)

or_smaller_lem : (e : Code) → or_smaller e ≡ true → Carries Smaller e
or_smaller_lem DontCare h = inl refl
or_smaller_lem Exact h = inl (cc)
or_smaller_lem Larger h = inl (cc)
or_smaller_lem Smaller h = inr refl

-- the code that a syllable of one code carries
pub carried : (p : Panel) (y : Syllable) → one_code p y ≡ true → (d : Code) × ((j : ℕ) → j < y.width → Carries d (code_at p (y.low + j)))
unfolding one_code
carried p y h =
    ⊎_elim (λ g. (Exact, λ j l. or_exact_lem _ (every_at y.width _ g j l)))
    (λ r. ⊎_elim (λ g. (Larger, λ j l. or_larger_lem _ (every_at y.width _ g j l))) (λ g. (Smaller, λ j l. or_smaller_lem _ (every_at y.width _ g j l)))
    (or_cases (each_code p y or_larger) (each_code p y or_smaller) r))
    (or_cases (each_code p y or_exact) (each_code p y or_larger || each_code p y or_smaller) h)

-- ---- the theorem: a syllable, and a word

pub accepted_satisfied : (p : Panel) (w : ℕ) (y : Syllable) → one_code p y ≡ true → accepted p w y ≡ satisfied p w y
unfolding accepted satisfied
accepted_satisfied p w y h =
    let d = carried p y h in
    every_like y.width _ _ (λ j l.
    ap (wants (code_at p (y.low + j)) (or_equal p (y.low + j)))
    (status_is (λ j. code_at p (y.low + j)) (λ j. bit w (y.low + j)) (λ j. bit p.comp (y.low + j)) d.0
    (λ j. digit_at w (y.low + j)) (λ j. digit_at p.comp (y.low + j)) y.width d.1)
    ∙ carried_wants d.0 (code_at p (y.low + j)) (or_equal p (y.low + j)) (read_over p y w) (read_over p y p.comp) (d.1 j l))

-- of the reasons for 5 the cells' agreement needs only that codes are not mixed
one_code_lem : (p : Panel) (y : Syllable) → unmixed p y ≡ true → one_code p y ≡ true
one_code_lem p y = and_left (one_code p y) (one_setting p y && compared_only p y)

all_accepted : (p : Panel) (w : ℕ) (ys : List Syllable) → all (unmixed p) ys ≡ true → all (accepted p w) ys ≡ all (satisfied p w) ys
unfolding all
all_accepted p w [] h = refl
all_accepted p w (y ∷ ys) h =
    ap₂ (λ (a b : Bool). a && b) (accepted_satisfied p w y (one_code_lem p y (and_left (unmixed p y) (all (unmixed p) ys) h)))
    (all_accepted p w ys (and_right (unmixed p y) (all (unmixed p) ys) h))

pub cells_match_lem : (n : ℕ) (p : Panel) (w r : ℕ) → all (unmixed p) (syllables n p.sdr) ≡ true → cells_match n p w r ≡ matches n p w r
unfolding cells_match matches
cells_match_lem n p w r h = ap (λ (t : Bool). selected p.key p.care r && t) (all_accepted p w (syllables n p.sdr) h)
