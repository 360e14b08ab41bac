-- The end of an adding job, pulse by pulse: gains add up, and a search with its multiadd is one gain.
use Prim.Native.Nat.{ℕ, ◌+◌, ◌*◌, ◌%◌, ◌^◌, ◌<◌}
use mathlib.Core.Path.{◌≡◌, refl, sym, ap, ap₂, ◌∙◌}
use mathlib.Core.Bool.{Bool, true, false, ◌&&◌}
use native.Mathlib.Nat.{mod-add-mod, zero-mul}
use native.Mathlib.Omega.{arith}
use lib.Dec.{eqb}
use mathlib.Core.List.{List}
use lib.ListN.{length, get_or}
use Rattle.laws.specs.Bits.{bit, pick, digit}
use Rattle.machine.specs.Machine.{Machine, response_bits, selected}
use Rattle.machine.specs.Pulse.{pulsed, added}
use Rattle.machine.proofs.Refusals.{Sound}
use Rattle.job_plans.specs.declared.Job.{Job}
use Rattle.job_plans.specs.declared.Command.{Command}
use Rattle.job_plans.specs.Commands.{look, plus}
use Rattle.job_tally.specs.Totals.{value_of}
use Rattle.ends.specs.Ends.{word, response, chosen, Outside, SameSize, Adds}
use Rattle.ends.proofs.Agreeing.{agrees, selected_one, selected_like}
use Rattle.ends.proofs.Parts.{Gains, gains_none}
use Rattle.ends.proofs.Adding.{plus_word, plus_response, plus_gains, plus_fits}
use Rattle.ends.proofs.Machines.{same, fits, words_length, responses_length, width_is, word_at, response_at, sound_after}
use Rattle.ends.proofs.Searches.{search_sound, search_size, search_words, search_target, search_others}
use Rattle.ends.proofs.Fields.{Inside, Working}

-- ---- sizes

pub size_none : (m : Machine) → SameSize m m
size_none m = record { width = refl; words = refl; responses = refl }

pub size_both : (m d e : Machine) → SameSize m d → SameSize d e → SameSize m e
size_both m d e f g = record { width = g.width ∙ f.width; words = g.words ∙ f.words; responses = g.responses ∙ f.responses }

-- ---- gains add up

module _ (o : Job) (y_works : Working o.care o.y) where
  pub adds_none : (m : Machine) → Adds o (λ w. 0) m m
  adds_none m = record {
    size = size_none m;
    holds = λ k h c. (gains_none o.p (word m k)).value;
    outside = λ k i h f. refl;
    unselected = λ k h c. refl;
    responses = λ k i h g f. refl;
  }

  -- Y is no bit of the criterion
  pub chosen_kept : (m e : Machine) (k : ℕ) → ((i : ℕ) → i < response_bits → (i ≡ o.y.0 → ⊥) → bit (response e k) i ≡ bit (response m k) i)
      → chosen e o k ≡ chosen m o k
  chosen_kept m e k h = selected_like o.key o.care (response m k) (response e k) (λ i g c. h i g (λ z. c (rw z y_works.free)))

  module _ (g h : ℕ → ℕ) (m d e : Machine) (kept : (w x : ℕ) → ((i : ℕ) → Outside o.p i → bit x i ≡ bit w i) → h x ≡ h w)
      (a : Adds o g m d) (b : Adds o h d e) where
    -- word k is a word of d too
    also : (k : ℕ) → k < length m.words → k < length d.words
    also k l = omega (arith, a.size.words)

    like : (k : ℕ) → k < length m.words → chosen d o k ≡ chosen m o k
    like k l = chosen_kept m d k (λ i. a.responses k i l)

    both_hold : (k : ℕ) → k < length m.words → chosen m o k ≡ true
        → value_of o.p (word e k) ≡ (value_of o.p (word m k) + (g (word m k) + h (word m k))) % 2 ^ o.p.width
    both_hold k l c =
        let v : ℕ = value_of o.p (word m k) in
        let z : v + g (word m k) + h (word m k) ≡ v + (g (word m k) + h (word m k)) = omega arith in
        b.holds k (also k l) (like k l ∙ c)
        ∙ ap₂ (λ (x u : ℕ). (x + u) % 2 ^ o.p.width) (a.holds k l c) (kept (word m k) (word d k) (λ i. a.outside k i l))
        ∙ mod-add-mod (v + g (word m k)) (2 ^ o.p.width) (h (word m k))
        ∙ ap (λ (x : ℕ). x % 2 ^ o.p.width) z

    pub adds_both : Adds o (λ w. g w + h w) m e
    adds_both = record {
      size = size_both m d e a.size b.size;
      holds = both_hold;
      outside = λ k i l f. b.outside k i (also k l) f ∙ a.outside k i l f;
      unselected = λ k l c. b.unselected k (also k l) (like k l ∙ c) ∙ a.unselected k l c;
      responses = λ k i l q f. b.responses k i (also k l) q f ∙ a.responses k i l q f;
    }

  pub adds_like : (g h : ℕ → ℕ) (m e : Machine)
      → ((w : ℕ) → (value_of o.p w + g w) % 2 ^ o.p.width ≡ (value_of o.p w + h w) % 2 ^ o.p.width) → Adds o g m e → Adds o h m e
  adds_like g h m e z a = record {
    size = a.size;
    holds = λ k l c. a.holds k l c ∙ z (word m k);
    outside = a.outside;
    unselected = a.unselected;
    responses = a.responses;
  }

-- ---- a search for a mask of ones under the criterion, target Y, and a multiadd of v into P under Y

module _ (o : Job) (m : Machine) (s : Sound m) (y_works : Working o.care o.y) (p : Inside m.width o.p) (mask v : ℕ) (opens : ℕ → Bool)
    (small : v < 2 ^ o.p.width) (found : (w : ℕ) → agrees m.width mask w mask ≡ opens w) where
  abbrev search : Command
  search = look o.key o.care o.y mask mask

  abbrev multiadd : Command
  multiadd = plus o.y o.p v

  abbrev m₁ : Machine
  m₁ = pulsed m search.panel search.lines

  abbrev m₂ : Machine
  m₂ = pulsed m₁ multiadd.panel multiadd.lines

  -- the search opens the gate of word k
  abbrev opened : ℕ → Bool
  opened k = chosen m o k && opens (word m k)

  pub sound₁ : Sound m₁
  sound₁ = search_sound m s o.key o.care o.y mask mask y_works.bit_lt

  size₁ : SameSize m m₁
  size₁ = search_size m s o.key o.care o.y mask mask y_works.bit_lt

  module _ (k : ℕ) (l : k < length m.words) where
    also₁ : k < length m₁.words
    also₁ = omega (arith, size₁.words)

    word₁ : word m₁ k ≡ word m k
    word₁ = ap (λ (ws : List ℕ). get_or ws k 0) (search_words m s o.key o.care o.y mask mask y_works.bit_lt)

    target₁ : bit (response m₁ k) o.y.0 ≡ digit (opened k)
    target₁ = search_target m s o.key o.care o.y mask mask y_works.bit_lt k l ∙ ap (λ (t : Bool). digit (chosen m o k && t)) (found (word m k))

    others₁ : (i : ℕ) → i < response_bits → (i ≡ o.y.0 → ⊥) → bit (response m₁ k) i ≡ bit (response m k) i
    others₁ i g f = search_others m s o.key o.care o.y mask mask y_works.bit_lt k i l g f

    word₂ : word m₂ k ≡ pick (opened k) (added m.width multiadd.panel (word m k)) (word m k)
    word₂ =
        word_at m₁ sound₁ multiadd.panel multiadd.lines k also₁
        ∙ plus_word m₁.width o.y o.p v k (word m₁ k) (response m₁ k)
        ∙ rw (selected_one o.y.0 (response m₁ k) y_works.bit_lt, target₁, word₁, size₁.width, is_one (opened k)) refl
      where
        is_one : (b : Bool) → eqb (digit b) 1 ≡ b
        is_one true = refl
        is_one false = refl

    response₂ : response m₂ k ≡ response m₁ k
    response₂ =
        response_at m₁ sound₁ multiadd.panel multiadd.lines k also₁ ∙ plus_response m₁.width o.y o.p v k (word m₁ k) (response m₁ k)

    -- the word gains v in P if its gate is open
    gained : (b : Bool) → Gains o.p (digit b * v) (word m k) (pick b (added m.width multiadd.panel (word m k)) (word m k))
    gained true = let e : 1 * v ≡ v = omega arith in rw e (plus_gains m.width o.y o.p v (word m k) p.some p.fits small (fits m s k l))
    gained false = rw (zero-mul v) (gains_none o.p (word m k))

  pub sound₂ : Sound m₂
  sound₂ =
      sound_after m₁ sound₁ multiadd.panel multiadd.lines
      (λ k w r h. rw (plus_word m₁.width o.y o.p v k w r) (go (selected (2 ^ o.y.0) (2 ^ o.y.0) r) w h))
    where
      go : (b : Bool) (w : ℕ) → w < 2 ^ m₁.width → pick b (added m₁.width multiadd.panel w) w < 2 ^ m₁.width
      go true w h = plus_fits m₁.width o.y o.p v w p.some (rw size₁.width p.fits) small h
      go false w h = h

  pub gate_adds : Adds o (λ w. digit (opens w) * v) m m₂
  gate_adds = record {
    size = size_both m m₁ m₂ size₁ (record {
      width = width_is m₁ sound₁ multiadd.panel multiadd.lines;
      words = words_length m₁ sound₁ multiadd.panel multiadd.lines;
      responses = responses_length m₁ sound₁ multiadd.panel multiadd.lines ∙ sym (same m₁ sound₁);
    });
    holds = λ k l c. let b : opened k ≡ opens (word m k) = rw c in rw (word₂ k l, b) (gained k l (opens (word m k))).value;
    outside = λ k i l f. rw (word₂ k l) ((gained k l (opened k)).others i f);
    unselected = λ k l c. let b : opened k ≡ false = rw c in rw (word₂ k l, b);
    responses = λ k i l g f. rw (response₂ k l) (others₁ k l i g f);
  }
