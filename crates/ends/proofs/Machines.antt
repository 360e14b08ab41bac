-- A pulse word by word, and a machine that passes 1 to 3 still passes them after a job's pulse.
use Prim.Native.Nat.{ℕ, zero, suc, ◌^◌, ◌<◌}
use mathlib.Core.Path.{◌≡◌, refl, sym, ap₂, ◌∙◌}
use mathlib.Core.Bool.{Bool, true, false}
use mathlib.Core.List.{List, [], ◌∷◌}
use native.Mathlib.Omega.{arith}
use lib.ListN.{length, get_or}
use borrow.Author.Tests.{lt-leb, leb-false}
use Rattle.std.specs.Prelude.{Ok, Some, None}
use Rattle.laws.specs.Bits.{pick}
use Rattle.laws.proofs.Lists.{length_zip, at_zip}
use Rattle.machine.specs.declared.Panel.{Panel}
use Rattle.machine.specs.declared.Lines.{Lines}
use Rattle.machine.specs.Machine.{Machine}
use Rattle.machine.specs.Pulse.{word_after, response_after, pulsed}
use Rattle.machine.specs.Resolution.{lowest}
use Rattle.machine.specs.Refusals.{bad_size, too_wide, machine_check}
use Rattle.machine.proofs.Refusals.{Sound, size_same, width_pos}
use Rattle.ends.specs.Ends.{word, response}

-- ---- words of the machine's width

pub words_fit : (n j : ℕ) (ws : List ℕ) → lowest (too_wide n) j ws ≡ None → (k : ℕ) → k < length ws → get_or ws k 0 < 2 ^ n
unfolding lowest
words_fit n j [] e k h = absurd (omega arith)
words_fit n j (w ∷ ws) e k h = go (too_wide n w) refl e k h (λ f i l. words_fit n (suc j) ws f i l)
  where
    go : (t : Bool) → too_wide n w ≡ t → pick t (Some (record { 0 = j })) (lowest (too_wide n) (suc j) ws) ≡ None → (k : ℕ) → k < length (w ∷ ws)
        → (lowest (too_wide n) (suc j) ws ≡ None → (i : ℕ) → i < length ws → get_or ws i 0 < 2 ^ n) → get_or (w ∷ ws) k 0 < 2 ^ n
    go true d f k h later = let z : ◌≡◌ {A = ℕ} 0 1 = cc in absurd (omega arith)
    go false d f zero h later = leb-false (2 ^ n) w d
    go false d f (suc k) h later = later f k (omega arith)

pub fit_words : (n j : ℕ) (ws : List ℕ) → ((k : ℕ) → k < length ws → get_or ws k 0 < 2 ^ n) → lowest (too_wide n) j ws ≡ None
unfolding lowest
fit_words n j [] h = refl
fit_words n j (w ∷ ws) h = rw (lt-leb (2 ^ n) w (h 0 (omega arith))) (fit_words n (suc j) ws (λ k l. h (suc k) (omega arith)))

-- ---- a sound machine

pub passes : (m : Machine) → Sound m → machine_check m ≡ Ok tt
unfolding machine_check
passes m s = rw (s.size, s.width, s.words)

module _ (m : Machine) (s : Sound m) where
  pub pos : 0 < m.width
  pos = width_pos m.width s.width

  pub same : length m.responses ≡ length m.words
  same = size_same (length m.words) (length m.responses) s.size

  pub fits : (k : ℕ) → k < length m.words → word m k < 2 ^ m.width
  fits k h = words_fit m.width 0 m.words s.words k h

  module _ (p : Panel) (l : Lines) where
    pub words_length : length (pulsed m p l).words ≡ length m.words
    unfolding pulsed
    words_length = length_zip _ 0 m.words m.responses same

    pub responses_length : length (pulsed m p l).responses ≡ length m.words
    unfolding pulsed
    responses_length = length_zip _ 0 m.words m.responses same

    pub width_is : (pulsed m p l).width ≡ m.width
    unfolding pulsed
    width_is = refl

    pub word_at : (k : ℕ) → k < length m.words → word (pulsed m p l) k ≡ word_after m.width p l k (word m k) (response m k)
    unfolding pulsed
    word_at k h = at_zip _ m.words m.responses k same h

    pub response_at : (k : ℕ) → k < length m.words → response (pulsed m p l) k ≡ response_after m.width p l k (word m k) (response m k)
    unfolding pulsed
    response_at k h = at_zip _ m.words m.responses k same h

    -- "All results are worked out from the machine before the pulse": what fits still fits
    pub sound_after : ((k w r : ℕ) → w < 2 ^ m.width → word_after m.width p l k w r < 2 ^ m.width) → Sound (pulsed m p l)
    sound_after h = record {
      size = ap₂ bad_size words_length (responses_length ∙ sym same) ∙ s.size;
      width = rw width_is s.width;
      words = rw width_is (fit_words m.width 0 (pulsed m p l).words (λ k g.
          let i : k < length m.words = omega (arith, words_length) in rw (word_at k i) (h k (word m k) (response m k) (fits k i))));
    }
