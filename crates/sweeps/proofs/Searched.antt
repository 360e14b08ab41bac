-- One block of a search, and of a change of words beside it, in the terms of the lists at entry: beyond i neither list has changed yet.
use Rattle.std.proofs.Common.{◌≡◌, ℕ, ◌+◌, ◌-◌, ◌≤◌, Bool, List, [], ◌∷◌, length, take, drop, sym, refl, ap, ◌∙◌, ap₂, arith}
use Rattle.laws.specs.Bits.{digit}
use Rattle.laws.specs.Lists.{count}
use Rattle.sweeps.specs.declared.Changes.{Changes}
use Rattle.sweeps.specs.declared.Masks.{Masks}
use Rattle.sweeps.specs.declared.Tags.{Tags}
use Rattle.sweeps.specs.Along.{along, many}
use Rattle.sweeps.specs.Rules.{flag, chosen, hit, mark, found, answer, choice, gated, changed, takes}
use Rattle.sweeps.proofs.Along.{Walk, Tally}
use Rattle.sweeps.proofs.Blocks.{between, replaced, length_between, to_end, counts_to_end, Flags, by_flags, count_flags}

many_first : (h : ℕ → Bool) (us vs : List ℕ) → length us ≡ length vs → many h us ≡ count (λ x y. h x) us vs
unfolding many count
many_first h [] vs e = refl
many_first h (u ∷ us) [] e = absurd (omega arith)
many_first h (u ∷ us) (v ∷ vs) e = ap (λ (n : ℕ). digit (h u) + n) (many_first h us vs (omega arith))

module _ (i e : ℕ) (up : i ≤ e) (xs₀ ys₀ xs ys : List ℕ) (ex : e ≤ length xs₀) (ey : e ≤ length ys₀) (same : drop i xs ≡ drop i xs₀) where
  same_part : between i e xs ≡ between i e xs₀
  same_part = ap (take (e - i)) same

  pub moved : (f : ℕ → ℕ → ℕ) (part : List ℕ) → Walk f xs₀ ys₀ ys i → part ≡ along f (between i e xs) (between i e ys)
      → Walk f xs₀ ys₀ (replaced i e ys part) e
  moved f part w h = to_end i e up f xs₀ ys₀ ys part w ex ey (h ∙ ap (λ (l : List ℕ). along f l (between i e ys)) same_part)

  -- xs are the words and ys the responses
  pub searched : (m : Masks) (p : Tags) (hs part : List ℕ) (n q : ℕ) → Walk (answer m p) xs₀ ys₀ ys i → Tally (found m p) xs₀ ys₀ n i
      → e - i ≤ length hs → Flags (flag m) (between i e xs) hs → part ≡ along (mark p) hs (between i e ys) → q ≡ count (hit p) hs (between i e ys)
      → Walk (answer m p) xs₀ ys₀ (replaced i e ys part) e × Tally (found m p) xs₀ ys₀ (n + q) e
  unfolding answer found
  searched m p hs part n q w t fit fl h g =
      let lx : length (between i e xs) ≡ e - i = ap length same_part ∙ length_between i e xs₀ ex in
      let ly : length (between i e ys) ≡ e - i = length_between i e ys (omega arith) in
      let left : between i e ys ≡ between i e ys₀ = ap (take (e - i)) w.left in (
        moved (answer m p) part w (h ∙ by_flags (flag m) (mark p) hs (between i e xs) (between i e ys) (ly ∙ sym lx) (omega arith) fl),
        counts_to_end i e up (found m p) xs₀ ys₀ n q t ex ey
            (g ∙ count_flags (flag m) (hit p) hs (between i e xs) (between i e ys) (ly ∙ sym lx) (omega arith) fl ∙ ap₂ (count (found m p)) same_part left),
      )

  -- xs are the responses and ys the words
  pub rewritten : (write add : Bool) (q : Changes) (p : Tags) (gs part : List ℕ) → Walk (changed write add q p) xs₀ ys₀ ys i
      → e - i ≤ length gs → Flags (choice p) (between i e xs) gs → part ≡ along (gated write add q) gs (between i e ys)
      → Walk (changed write add q p) xs₀ ys₀ (replaced i e ys part) e
  unfolding changed
  rewritten write add q p gs part w fit fl h =
      let lx : length (between i e xs) ≡ e - i = ap length same_part ∙ length_between i e xs₀ ex in
      let ly : length (between i e ys) ≡ e - i = length_between i e ys (omega arith) in
      moved (changed write add q p) part w
      (h ∙ by_flags (choice p) (gated write add q) gs (between i e xs) (between i e ys) (ly ∙ sym lx) (omega arith) fl)

  pub chosen_counted : (p : Tags) (n q : ℕ) → Tally (takes p) xs₀ ys₀ n i → q ≡ many (chosen p) (between i e xs) → Tally (takes p) xs₀ ys₀ (n + q) e
  chosen_counted p n q t g =
      counts_to_end i e up (takes p) xs₀ ys₀ n q t ex ey
      (g ∙ ap (many (chosen p)) same_part
      ∙ many_first (chosen p) (between i e xs₀) (between i e ys₀) (length_between i e xs₀ ex ∙ sym (length_between i e ys₀ ey)))
