-- A walk over three lists side by side, each changed or kept as it goes: what is done and what is left to do give the whole.
use Prim.Native.Nat.{ℕ, suc, ◌+◌, ◌≤◌, ◌<◌}
use mathlib.Core.Path.{◌≡◌, refl, sym, ap, ap₂, ◌∙◌}
use mathlib.Core.List.{List, [], ◌∷◌, ◌++◌, append-nil}
use mathlib.Core.Bool.{Bool, true, false}
use mir.Val.{bool_byte}
use native.Mathlib.Nat.{le_refl}
use native.Mathlib.Numerals.{add-one}
use native.Mathlib.Omega.{arith}
use lib.ListN.{length, take, drop, set, get_or, length-set, drop_of_length-le}
use lib.Seq.{take-suc, take-suc-set, drop-set-lt, drop-cons, append_snoc, take_all}
use Rattle.laws.specs.Bits.{digit}
use Rattle.array.specs.Words.{Word, word, words, each, how_many}

-- ---- one list, in which v stands at i afterwards and nothing else is changed

pub record Put (l : List ℕ) (i v : ℕ) (l' : List ℕ) : Type 0 where
  pub long : length l' ≡ length l
  pub upto : take (suc i) l' ≡ take i l ++ (v ∷ [])
  pub rest : drop (suc i) l' ≡ drop (suc i) l

module _ (l : List ℕ) (i v : ℕ) (h : i < length l) where
  pub stored : Put l i v (set l i v)
  stored = record { long = length-set l i v; upto = take-suc-set l i v h; rest = drop-set-lt (suc i) l i v (le_refl _) }

  pub kept : v ≡ get_or l i 0 → Put l i v l
  kept e = record { long = refl; upto = take-suc l i 0 h ∙ ap (λ (x : ℕ). take i l ++ (x ∷ [])) (sym e); rest = refl }

-- ---- the words that are left

abbrev pub word_at : List ℕ → List ℕ → List ℕ → ℕ → Word
word_at os xs ss i = word (get_or os i 0) (get_or xs i 0) (get_or ss i 0)

abbrev pub words_from : List ℕ → List ℕ → List ℕ → ℕ → List Word
words_from os xs ss i = words (drop i os) (drop i xs) (drop i ss)

module _ (os xs ss : List ℕ) (i : ℕ) where
  pub words_cons : i < length os → i < length xs → i < length ss → words_from os xs ss i ≡ word_at os xs ss i ∷ words_from os xs ss (suc i)
  unfolding words
  words_cons ho hx hs = rw (drop-cons os i 0 ho, drop-cons xs i 0 hx, drop-cons ss i 0 hs)

  pub words_end : length os ≤ i → words_from os xs ss i ≡ []
  unfolding words
  words_end h = rw (drop_of_length-le os h)

-- ---- the walk

-- one more is counted exactly if the test holds
pub as_digit : (b : Bool) → bool_byte b ≡ digit b
as_digit true = refl
as_digit false = refl

-- after i steps: f has been stored up to i, n have passed the test t
pub record Walk (f : Word → Word) (t : Word → Bool) (os₀ xs₀ ss₀ os xs ss : List ℕ) (n i : ℕ) : Type 0 where
  pub first : length os ≡ length os₀
  pub second : length xs ≡ length os₀
  pub third : length ss ≡ length os₀
  pub few : n ≤ i
  pub ones : take i os ++ each (λ w. (f w).ones) (words_from os xs ss i) ≡ each (λ w. (f w).ones) (words os₀ xs₀ ss₀)
  pub xes : take i xs ++ each (λ w. (f w).xs) (words_from os xs ss i) ≡ each (λ w. (f w).xs) (words os₀ xs₀ ss₀)
  pub selectors : take i ss ++ each (λ w. (f w).selectors) (words_from os xs ss i) ≡ each (λ w. (f w).selectors) (words os₀ xs₀ ss₀)
  pub counts : n + how_many t (words_from os xs ss i) ≡ how_many t (words os₀ xs₀ ss₀)

-- one step; `l` is the list that `g` answers for
module _ {os xs ss os' xs' ss' : List ℕ} {i a b c : ℕ} (po : Put os i a os') (px : Put xs i b xs') (ps : Put ss i c ss') where
  words_put : words_from os' xs' ss' (suc i) ≡ words_from os xs ss (suc i)
  words_put = rw (po.rest, px.rest, ps.rest)

  module _ (ho : i < length os) (hx : i < length xs) (hs : i < length ss) where
    each_step : {l l' : List ℕ} {v : ℕ} (g : Word → ℕ) → Put l i v l' → v ≡ g (word_at os xs ss i)
        → take (suc i) l' ++ each g (words_from os' xs' ss' (suc i)) ≡ take i l ++ each g (words_from os xs ss i)
    unfolding each
    each_step {l} {l'} {v} g p e =
        ap₂ (λ (x : List ℕ) (y : List Word). x ++ each g y) p.upto words_put
        ∙ append_snoc (take i l) v (each g (words_from os xs ss (suc i)))
        ∙ ap (λ (x : ℕ). take i l ++ x ∷ each g (words_from os xs ss (suc i))) e
        ∙ sym (ap (λ (y : List Word). take i l ++ each g y) (words_cons os xs ss i ho hx hs))

    count_step : (t : Word → Bool) (n : ℕ) (on : Bool) → on ≡ t (word_at os xs ss i)
        → (n + digit on) + how_many t (words_from os' xs' ss' (suc i)) ≡ n + how_many t (words_from os xs ss i)
    unfolding how_many
    count_step t n on e = rw (words_put, words_cons os xs ss i ho hx hs, ← e) (omega arith)

module _ (f : Word → Word) (t : Word → Bool) (os₀ xs₀ ss₀ : List ℕ) where
  pub start : length xs₀ ≡ length os₀ → length ss₀ ≡ length os₀ → Walk f t os₀ xs₀ ss₀ os₀ xs₀ ss₀ 0 0
  start ex es = record {
    first = refl;
    second = ex;
    third = es;
    few = omega arith;
    ones = refl;
    xes = refl;
    selectors = refl;
    counts = omega arith;
  }

  pub step : {os xs ss os' xs' ss' : List ℕ} {n i a b c : ℕ} {on : Bool} → Walk f t os₀ xs₀ ss₀ os xs ss n i → i < length os
      → Put os i a os' → Put xs i b xs' → Put ss i c ss'
      → a ≡ (f (word_at os xs ss i)).ones → b ≡ (f (word_at os xs ss i)).xs → c ≡ (f (word_at os xs ss i)).selectors
      → on ≡ t (word_at os xs ss i) → Walk f t os₀ xs₀ ss₀ os' xs' ss' (n + digit on) (i + 1)
  step {os} {xs} {ss} {n = n} {i = i} {on = on} w k po px ps eo ex es et =
      let hx : i < length xs = omega arith in
      let hs : i < length ss = omega arith in
      rw (add-one i) (record {
        first = po.long ∙ w.first;
        second = px.long ∙ w.second;
        third = ps.long ∙ w.third;
        few = some on;
        ones = each_step po px ps k hx hs (λ w. (f w).ones) po eo ∙ w.ones;
        xes = each_step po px ps k hx hs (λ w. (f w).xs) px ex ∙ w.xes;
        selectors = each_step po px ps k hx hs (λ w. (f w).selectors) ps es ∙ w.selectors;
        counts = count_step po px ps k hx hs t n on et ∙ w.counts;
      })
    where
      some : (on : Bool) → n + digit on ≤ suc i
      some true = omega arith
      some false = omega arith

  module _ {os xs ss : List ℕ} {n i : ℕ} (w : Walk f t os₀ xs₀ ss₀ os xs ss n i) (k : length os ≤ i) where
    all_done : (l : List ℕ) (g : Word → ℕ) → length l ≤ i → take i l ++ each g (words_from os xs ss i) ≡ l
    unfolding each
    all_done l g h = ap₂ (λ (x : List ℕ) (y : List Word). x ++ each g y) (take_all i l h) (words_end os xs ss i k) ∙ append-nil l

    pub done : (n ≡ how_many t (words os₀ xs₀ ss₀)) × (os ≡ each (λ w. (f w).ones) (words os₀ xs₀ ss₀)) × (xs ≡ each (λ w. (f w).xs) (words os₀ xs₀ ss₀))
        × (ss ≡ each (λ w. (f w).selectors) (words os₀ xs₀ ss₀))
    unfolding how_many
    done = (
      omega (arith, ap (how_many t) (words_end os xs ss i k), w.counts),
      sym (all_done os (λ w. (f w).ones) k) ∙ w.ones,
      sym (all_done xs (λ w. (f w).xs) (omega arith)) ∙ w.xes,
      sym (all_done ss (λ w. (f w).selectors) (omega arith)) ∙ w.selectors,
    )
