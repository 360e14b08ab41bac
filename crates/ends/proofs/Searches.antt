-- A job's search on the whole machine, and the count that its pulse answers.
use Prim.Native.Nat.{ℕ, zero, suc, ◌<◌}
use mathlib.Core.Path.{◌≡◌, refl, sym, ap, ◌∙◌}
use mathlib.Core.Bool.{Bool, true, false, ◌&&◌}
use mathlib.Core.List.{List, [], ◌∷◌}
use native.Mathlib.Omega.{arith}
use lib.ListN.{length, get_or}
use Rattle.laws.specs.Bits.{bit, digit}
use Rattle.laws.specs.Lists.{count}
use Rattle.laws.proofs.Lists.{zip_kept}
use Rattle.machine.specs.declared.ResponseBit.{ResponseBit}
use Rattle.machine.specs.Machine.{Machine, response_bits, selected}
use Rattle.machine.specs.Pulse.{counts, count_of, pulsed}
use Rattle.machine.proofs.Refusals.{Sound}
use Rattle.job_plans.specs.declared.Command.{Command}
use Rattle.job_plans.specs.Commands.{look}
use Rattle.ends.specs.Ends.{word, response, SameSize}
use Rattle.ends.proofs.Agreeing.{agrees}
use Rattle.ends.proofs.Looking.{look_matches, look_word, look_target, look_others}
use Rattle.ends.proofs.Machines.{pos, same, words_length, responses_length, width_is, response_at, sound_after}

-- ---- a count is 0 where nothing passes, and more where something does

pub count_none : (f : ℕ → ℕ → Bool) (ws rs : List ℕ) → length rs ≡ length ws → ((k : ℕ) → k < length ws → f (get_or ws k 0) (get_or rs k 0) ≡ false)
    → count f ws rs ≡ 0
unfolding count
count_none f [] rs e h = refl
count_none f (w ∷ ws) [] e h = refl
count_none f (w ∷ ws) (r ∷ rs) e h =
    rw (h 0 (omega arith), count_none f ws rs (omega arith) (λ k l. h (suc k) (omega arith)))

pub count_some : (f : ℕ → ℕ → Bool) (ws rs : List ℕ) (k : ℕ) → length rs ≡ length ws → k < length ws → f (get_or ws k 0) (get_or rs k 0) ≡ true
    → 0 < count f ws rs
unfolding count
count_some f [] rs k e l h = absurd (omega arith)
count_some f (w ∷ ws) [] k e l h = absurd (omega arith)
count_some f (w ∷ ws) (r ∷ rs) zero e l h = rw h (omega arith)
count_some f (w ∷ ws) (r ∷ rs) (suc k) e l h = omega (arith, count_some f ws rs k (omega arith) (omega arith) h)

-- ---- the search

module _ (m : Machine) (s : Sound m) (key care : ℕ) (t : ResponseBit) (mask comp : ℕ) (t_lt : t.0 < response_bits) where
  abbrev search : Command
  search = look key care t mask comp

  abbrev after : Machine
  after = pulsed m search.panel search.lines

  -- word k is selected and has COMP's bits at the mask
  abbrev hit : ℕ → Bool
  hit k = selected key care (response m k) && agrees m.width mask (word m k) comp

  pub search_sound : Sound after
  search_sound = sound_after m s search.panel search.lines (λ k w r h. rw (look_word m.width key care t mask comp k w r) h)

  pub search_size : SameSize m after
  search_size = record {
    width = width_is m s search.panel search.lines;
    words = words_length m s search.panel search.lines;
    responses = responses_length m s search.panel search.lines ∙ sym (same m s);
  }

  pub search_words : after.words ≡ m.words
  unfolding pulsed
  search_words = zip_kept _ 0 m.words m.responses (same m s) (λ k w r. look_word m.width key care t mask comp k w r)

  pub search_target : (k : ℕ) → k < length m.words → bit (response after k) t.0 ≡ digit (hit k)
  search_target k l =
      rw (response_at m s search.panel search.lines k l)
      (look_target m.width key care t mask comp k (word m k) (response m k) t_lt
      ∙ ap digit (look_matches m.width key care t mask comp (pos m s) (word m k) (response m k)))

  pub search_others : (k i : ℕ) → k < length m.words → i < response_bits → (i ≡ t.0 → ⊥) → bit (response after k) i ≡ bit (response m k) i
  search_others k i l g f =
      rw (response_at m s search.panel search.lines k l) (look_others m.width key care t mask comp k (word m k) (response m k) i g f)

  counted : (k : ℕ) → counts m.width search.panel search.lines (word m k) (response m k) ≡ hit k
  unfolding counts
  counted k = look_matches m.width key care t mask comp (pos m s) (word m k) (response m k)

  pub search_none : ((k : ℕ) → k < length m.words → hit k ≡ false) → count_of m search.panel search.lines ≡ 0
  unfolding count_of
  search_none h = count_none _ m.words m.responses (same m s) (λ k l. counted k ∙ h k l)

  pub search_some : (k : ℕ) → k < length m.words → hit k ≡ true → 0 < count_of m search.panel search.lines
  unfolding count_of
  search_some k l h = count_some _ m.words m.responses k (same m s) l (counted k ∙ h)
