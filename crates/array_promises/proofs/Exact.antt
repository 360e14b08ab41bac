-- Document 02, request a: "Where a word has no X, its search is the exact search under the same mask, shown once over all widths."
-- The exact search is the base machine's own: COMP holds the data, SC1 is 0 and SC2 is the mask, so that each bit is exact under a one of the
-- mask and don't care elsewhere; SDR is any.
use Prim.Native.Nat.{ℕ, zero, suc, ◌+◌, ◌<◌}
use mathlib.Core.Path.{◌≡◌, refl, sym, ap, ap₂, ◌∙◌}
use mathlib.Core.Bool.{Bool, true, false, not, ◌&&◌, ◌||◌, and-true, and_assoc}
use mathlib.Core.List.{List, [], ◌∷◌}
use native.Mathlib.Nat.{mod-eq_of_lt, add-zero, add-suc}
use native.Mathlib.Omega.{arith}
use lib.Dec.{eqb}
use lib.ListN.{length, get_or}
use borrow.Author.Tests.{eq-eqb}
use Rattle.std.specs.Prelude.{Ok}
use Rattle.laws.specs.Bits.{bit, number, every}
use Rattle.laws.specs.Lists.{all}
use Rattle.laws.proofs.Digits.{Bit, off, on, bit_lt}
use Rattle.laws.proofs.Bits.{digit_at, number_lt, number_bit, every_like, every_at, every_all, every_eqb, bit_none}
use Rattle.machine.specs.declared.Panel.{Panel}
use Rattle.machine.specs.declared.Code.{Code}
use Rattle.machine.specs.declared.Code.TheVariants.{DontCare, Exact}
use Rattle.machine.specs.Machine.{response_bits, Syllable, syllables, tops, selected}
use Rattle.machine.specs.Search.{code, code_at, or_equal, cared, asks, read_over, satisfied, matches}
use Rattle.machine.proofs.Machine.{Tiled, syllables_tile}
use Rattle.array.specs.declared.Cell.TheVariants.{X}
use Rattle.array.specs.declared.Registers.{Registers}
use Rattle.array.specs.declared.Source.{Source}
use Rattle.array.specs.declared.Mask.{Mask}
use Rattle.array.specs.declared.Latches.{Latches}
use Rattle.array.specs.declared.Wanted.{Wanted}
use Rattle.array.specs.declared.Combine.{Combine}
use Rattle.array.specs.declared.Operation.TheVariants.{Search}
use Rattle.array.specs.Cells.{cell_of, argument, mismatch}
use Rattle.array.specs.Words.{Word, cell_at}
use Rattle.array.specs.Selectors.{latch, wants, combined}
use Rattle.array.specs.Registers.{data_of, mask_of}
use Rattle.array.specs.Operations.{Array, agrees}
use Rattle.array.specs.Refusals.{call_check, after}
use Rattle.array_promises.proofs.Demand2.{word_at, search_marks}

-- no cell of the word's n is X
abbrev pub NoX : ℕ → Word → Type 0
NoX n w = (i : ℕ) → i < n → cell_at w i ≡ X → ⊥

-- ---- one bit: argument and cell agree exactly if word and COMP, as the codes read them, are equal

-- no code but these two, where SC1 is 0
pub data Mild : Code → Type 0 where
  none : Mild DontCare
  exactly : Mild Exact

mild : (a b : ℕ) → a ≡ 0 → Bit b → Mild (code a b)
mild a b e off = rw e none
mild a b e on = rw e exactly

pub mild_at : (p : Panel) → p.sc1 ≡ 0 → (i : ℕ) → Mild (code_at p i)
mild_at p e i = mild (bit p.sc1 i) (bit p.sc2 i) (ap (λ (x : ℕ). bit x i) e ∙ bit_none i) (digit_at p.sc2 i)

cared_bit : {d : Code} {b : ℕ} → Mild d → Bit b → Bit (cared d b)
cared_bit none h = off
cared_bit exactly h = h

plain : {o x : ℕ} → Bit o → Bit x → (cell_of o x ≡ X → ⊥) → x ≡ 0
plain o off h = refl
plain off on h = absurd (h refl)
plain on on h = absurd (h refl)

one_bit : {m d o : ℕ} (a x : ℕ) → a ≡ 0 → x ≡ 0 → Bit m → Bit d → Bit o
    → not (mismatch (argument m d) (cell_of o x)) ≡ eqb (cared (code a m) o) (cared (code a m) d)
one_bit a x e z off d off = rw (e, z)
one_bit a x e z off d on = rw (e, z)
one_bit a x e z on off off = rw (e, z)
one_bit a x e z on off on = rw (e, z)
one_bit a x e z on on off = rw (e, z)
one_bit a x e z on on on = rw (e, z)

-- word and COMP are equal at bit i
abbrev same_at : Panel → ℕ → ℕ → Bool
same_at p x i = eqb (cared (code_at p i) (bit x i)) (cared (code_at p i) (bit p.comp i))

agrees_same : (n : ℕ) (p : Panel) (w : Word) → p.sc1 ≡ 0 → NoX n w → agrees n p.comp p.sc2 w ≡ every n (same_at p w.ones)
unfolding agrees
agrees_same n p w e h =
    every_like n _ _ (λ i g.
    one_bit (bit p.sc1 i) (bit w.xs i) (ap (λ (x : ℕ). bit x i) e ∙ bit_none i) (plain (digit_at w.ones i) (digit_at w.xs i) (h i g))
    (digit_at p.sc2 i) (digit_at p.comp i) (digit_at w.ones i))

-- ---- one syllable: it is satisfied exactly if each of its bits is equal

both_ways : (a b : Bool) → (a ≡ true → b ≡ true) → (b ≡ true → a ≡ true) → a ≡ b
both_ways true b f g = sym (f refl)
both_ways false true f g = g refl
both_ways false false f g = refl

-- numbers of k digits are equal exactly if each digit is
number_same : (k : ℕ) (f g : ℕ → ℕ) → ((j : ℕ) → Bit (f j)) → ((j : ℕ) → Bit (g j)) → every k (λ j. eqb (f j) (g j)) ≡ eqb (number k f) (number k g)
number_same k f g a b =
    let la : (j : ℕ) → j < k → f j < 2 = λ j l. bit_lt (a j) in
    let lb : (j : ℕ) → j < k → g j < 2 = λ j l. bit_lt (b j) in
    every_like k _ _ (λ j l. sym (ap₂ eqb (number_bit k f la j l) (number_bit k g lb j l)))
    ∙ every_eqb k (number k f) (number k g)
    ∙ ap₂ eqb (mod-eq_of_lt (number_lt k f la)) (mod-eq_of_lt (number_lt k g lb))

-- what one of the two codes asks of whole numbers, and of one bit
asked : {d : Code} (e : Bool) (u v : ℕ) → Mild d → eqb u v ≡ true → asks d e u v ≡ true
asked e u v none h = refl
asked e u v exactly h = h

answered : {d : Code} (e : Bool) (u v a b : ℕ) → Mild d → asks d e u v ≡ true → (eqb u v ≡ true → eqb (cared d a) (cared d b) ≡ true)
    → eqb (cared d a) (cared d b) ≡ true
answered e u v a b none h f = refl
answered e u v a b exactly h f = f h

-- a test holds at each bit of a syllable
abbrev within : (ℕ → Bool) → Syllable → Bool
within f y = every y.width (λ j. f (y.low + j))

module _ (p : Panel) (e : p.sc1 ≡ 0) (x : ℕ) (y : Syllable) where
  equal : within (same_at p x) y ≡ eqb (read_over p y x) (read_over p y p.comp)
  equal =
      number_same y.width _ _ (λ j. cared_bit (mild_at p e (y.low + j)) (digit_at x (y.low + j)))
      (λ j. cared_bit (mild_at p e (y.low + j)) (digit_at p.comp (y.low + j)))

  satisfied_same : satisfied p x y ≡ within (same_at p x) y
  unfolding satisfied
  satisfied_same =
      both_ways _ _
      (λ h. every_all y.width _ (λ j l.
      answered (or_equal p (y.low + j)) (read_over p y x) (read_over p y p.comp) (bit x (y.low + j)) (bit p.comp (y.low + j)) (mild_at p e (y.low + j))
      (every_at y.width _ h j l) (λ q. every_at y.width _ (equal ∙ q) j l)))
      (λ h. every_all y.width _ (λ j l. asked (or_equal p (y.low + j)) (read_over p y x) (read_over p y p.comp) (mild_at p e (y.low + j)) (sym equal ∙ h)))

-- ---- the word: its syllables tile it

between : (a b c : Bool) → (a && (b && c)) ≡ (b && (a && c))
between true b c = refl
between false true c = refl
between false false c = refl

every_add : (lo k : ℕ) (f : ℕ → Bool) → every (lo + k) f ≡ (every lo f && every k (λ j. f (lo + j)))
unfolding every
every_add lo zero f = rw (add-zero lo) (sym (and-true (every lo f)))
every_add lo (suc k) f = rw (add-suc lo k) (ap (λ (t : Bool). f (lo + k) && t) (every_add lo k f) ∙ between (f (lo + k)) (every lo f) (every k (λ j. f (lo + j))))

tiled_every : (f : ℕ → Bool) (lo hi : ℕ) (ys : List Syllable) → Tiled lo ys hi → every hi f ≡ (every lo f && all (within f) ys)
unfolding Tiled all
tiled_every f lo hi [] h = rw h (sym (and-true (every hi f)))
tiled_every f lo hi (y ∷ ys) h =
    tiled_every f (lo + y.width) hi ys h.2
    ∙ ap (λ (t : Bool). t && all (within f) ys) (every_add lo y.width f ∙ ap (λ (l : ℕ). every lo f && every y.width (λ j. f (l + j))) (sym h.0))
    ∙ and_assoc (every lo f) (within f y) (all (within f) ys)

every_within : (n sdr : ℕ) (f : ℕ → Bool) → every n f ≡ all (within f) (syllables n sdr)
unfolding every all tops
every_within zero sdr f = refl
every_within (suc n) sdr f = tiled_every f 0 (suc n) (syllables (suc n) sdr) (syllables_tile (suc n) sdr (omega arith))

all_satisfied : (p : Panel) (x : ℕ) (ys : List Syllable) → p.sc1 ≡ 0 → all (satisfied p x) ys ≡ all (within (same_at p x)) ys
unfolding all
all_satisfied p x [] e = refl
all_satisfied p x (y ∷ ys) e = ap₂ (λ (a b : Bool). a && b) (satisfied_same p e x y) (all_satisfied p x ys e)

-- ---- the theorem, for every width, word, panel and SDR

pub exact : (n : ℕ) (p : Panel) (w : Word) → p.sc1 ≡ 0 → NoX n w
    → agrees n p.comp p.sc2 w ≡ all (satisfied p w.ones) (syllables n p.sdr)
exact n p w e h =
    agrees_same n p w e h ∙ every_within n p.sdr (same_at p w.ones) ∙ sym (all_satisfied p w.ones (syllables n p.sdr) e)

-- the words that match are those that are selected and agree
pub exact_search : (n : ℕ) (p : Panel) (w : Word) (r : ℕ) → p.sc1 ≡ 0 → NoX n w
    → matches n p w.ones r ≡ (selected p.key p.care r && agrees n p.comp p.sc2 w)
unfolding matches
exact_search n p w r e h = ap (λ (t : Bool). selected p.key p.care r && t) (sym (exact n p w e h))

-- where care is 0 every word is selected: those that match are those that agree
every_word : (key care r : ℕ) → care ≡ 0 → selected key care r ≡ true
unfolding selected
every_word key care r e =
    every_all response_bits _ (λ i l. ap (λ (t : Bool). t || eqb (bit r i) (bit key i)) (eq-eqb (bit care i) 0 (ap (λ (x : ℕ). bit x i) e ∙ bit_none i)))

pub exact_search_of_all : (n : ℕ) (p : Panel) (w : Word) (r : ℕ) → p.sc1 ≡ 0 → p.care ≡ 0 → NoX n w
    → matches n p w.ones r ≡ agrees n p.comp p.sc2 w
exact_search_of_all n p w r e c h =
    exact_search n p w r e h ∙ ap (λ (t : Bool). t && agrees n p.comp p.sc2 w) (every_word p.key p.care r c)

-- so of an array: the word's latch, after any search, by whether the exact search matches the word: the words that agree or those that don't, put in
-- place of the set, ANDed or ORed with it. The exact search has SC1 and SC3 0, or 5 would be given.
pub exact_latch : (a : Array) (r : Registers) → call_check a r ≡ Ok tt
    → (d : Source) (mask : Mask) (wanted : Wanted) (set : Latches) (combine : Combine) (p : Panel)
    → p.comp ≡ data_of r d → p.sc1 ≡ 0 → p.sc2 ≡ mask_of a.width r mask → p.sc3 ≡ 0 → p.care ≡ 0
    → (k response : ℕ) → k < length a.ones → NoX a.width (word_at a k)
    → latch set (word_at (after a r (Search d mask wanted set combine)) k).selectors
    ≡ combined combine (latch set (word_at a k).selectors) (wants wanted (matches a.width p (get_or a.ones k 0) response))
exact_latch a r accepted d mask wanted set combine p comp sc1 sc2 sc3 care k response h x =
    search_marks a r accepted d mask wanted set combine k h
    ∙ ap (λ (t : Bool). combined combine (latch set (word_at a k).selectors) (wants wanted t))
    (ap₂ (λ (x m : ℕ). agrees a.width x m (word_at a k)) (sym comp) (sym sc2) ∙ sym (exact_search_of_all a.width p (word_at a k) response sc1 care x))
