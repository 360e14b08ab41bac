-- An extreme at one place: the trial search, and the narrowing of X where it found any.
use Prim.Native.Nat.{ℕ, zero, suc, ◌^◌, ◌≤◌, ◌<◌}
use mathlib.Core.Path.{◌≡◌, refl, sym, ap, ap₂, ◌∙◌}
use mathlib.Core.Bool.{Bool, true, false, ◌&&◌, ◌||◌, and-true}
use mathlib.Core.List.{List}
use native.Mathlib.Omega.{arith}
use lib.Dec.{eqb}
use lib.ListN.{length, get_or}
use Rattle.std.specs.Prelude.{Ok, Some}
use Rattle.laws.specs.Bits.{bit, pick, digit}
use Rattle.laws.proofs.Bits.{bit_none}
use Rattle.machine.specs.Machine.{Machine, response_bits, selected}
use Rattle.machine.proofs.Refusals.{Sound}
use Rattle.job_plans.specs.declared.Job.{Job}
use Rattle.job_plans.specs.Places.{held_check, moved, next_below, next}
use Rattle.job_plans.specs.Commands.{command, look, bit_of}
use Rattle.ends.specs.Ends.{word, response, chosen, SameSize}
use Rattle.ends.proofs.Agreeing.{agrees, agrees_none, selected_one}
use Rattle.ends.proofs.Searches.{search_sound, search_size, search_words, search_target, search_others, search_none, search_some}
use Rattle.ends.proofs.Steps.{pulsed_by, counted_by}
use Rattle.ends.proofs.Fields.{ExtremeFields}
use Rattle.ends.proofs.Passing.{size_both}
use Rattle.ends.proofs.Narrowing.{same, same_top, same_one, same_zero, none_zero, some_one}

-- the commands and places of an extreme: the trial at place i wants COMP's bits in the bit of A there
pub record Plan (n : ℕ) (b : Job) (comp : ℕ → ℕ) : Type 0 where
  pub opens : command b ≡ look b.key b.care b.x 0 0
  pub tries : (i : ℕ) → command (moved b 1 i 0) ≡ look (2 ^ b.x.0) (2 ^ b.x.0) b.y (bit_of b.a i) (comp i)
  pub narrows : (i : ℕ) → command (moved b 2 i 0) ≡ look (2 ^ b.y.0) (2 ^ b.y.0) b.x 0 0
  pub after_opening : (c : ℕ) → next b c ≡ next_below b b.a.width
  pub after_trial_lem : (i c : ℕ) → next (moved b 1 i 0) c ≡ pick (eqb c 0) (next_below b i) (Some (moved b 2 i 0))
  pub after_second_lem : (i c : ℕ) → next (moved b 2 i 0) c ≡ next_below b i
  pub first_fits : held_check n b ≡ Ok tt
  pub fits : (f i : ℕ) → (eqb f 1 || eqb f 2) ≡ true → i < b.a.width → held_check n (moved b f i 0) ≡ Ok tt

-- u is a word's value, of which the trial at place i finds the bit i; g is the best of the selected words, and 0 if there is none
pub record Best (m : Machine) (b : Job) (comp : ℕ → ℕ) (u : ℕ → ℕ) (g : ℕ) : Type 0 where
  pub finds : (i w : ℕ) → i < b.a.width → agrees m.width (bit_of b.a i) w (comp i) ≡ eqb (bit (u w) i) 1
  pub value_lt : (w : ℕ) → u w < 2 ^ b.a.width
  pub best_lt : g < 2 ^ b.a.width
  pub bounds : (k : ℕ) → k < length m.words → chosen m b k ≡ true → u (word m k) ≤ g
  pub has : 0 < g → (k : ℕ) × (k < length m.words) × (chosen m b k ≡ true) × (u (word m k) ≡ g)

is_one : (b : Bool) → eqb (digit b) 1 ≡ b
is_one true = refl
is_one false = refl

not_none : (g i : ℕ) → bit g i ≡ 1 → 0 < g
not_none zero i d = absurd (omega (arith, bit_none i))
not_none (suc g) i d = omega arith

-- the place below is the same whatever the place of the job
pub below_is : (b : Job) (f i j k : ℕ) → next_below (moved b f i j) k ≡ next_below b k
below_is b f i j zero = refl
below_is b f i j (suc k) = refl

module _ (m : Machine) (s : Sound m) (b : Job) (f : ExtremeFields m.width b) (comp u : ℕ → ℕ) (g : ℕ) (plan : Plan m.width b comp) (best : Best m b comp u g) where
  -- word k is marked once the places from i up are done
  abbrev pub mark : ℕ → ℕ → Bool
  mark i k = chosen m b k && same i (u (word m k)) g

  -- X marks these words, and nothing but X and Y has changed
  pub record Narrowed (i : ℕ) (e : Machine) : Type 0 where
    pub sound : Sound e
    pub size : SameSize m e
    pub words : e.words ≡ m.words
    pub marks : (k : ℕ) → k < length m.words → bit (response e k) b.x.0 ≡ digit (mark i k)
    pub others : (k j : ℕ) → k < length m.words → j < response_bits → (j ≡ b.x.0 → ⊥) → (j ≡ b.y.0 → ⊥) → bit (response e k) j ≡ bit (response m k) j

  -- ---- the opening search
  pub opened : Narrowed b.a.width (pulsed_by m b)
  opened = rw plan.opens (record {
    sound = search_sound m s b.key b.care b.x 0 0 f.x_works.bit_lt;
    size = search_size m s b.key b.care b.x 0 0 f.x_works.bit_lt;
    words = search_words m s b.key b.care b.x 0 0 f.x_works.bit_lt;
    marks = λ k l. search_target m s b.key b.care b.x 0 0 f.x_works.bit_lt k l
        ∙ ap (λ (t : Bool). digit (chosen m b k && t))
        (agrees_none m.width (word m k) 0 ∙ sym (same_top b.a.width (u (word m k)) g (best.value_lt (word m k)) best.best_lt));
    others = λ k j l h p q. search_others m s b.key b.care b.x 0 0 f.x_works.bit_lt k j l h p;
  })

  -- ---- the trial search at place i, on a machine e narrowed to the places above
  module _ (i : ℕ) (e : Machine) (h : i < b.a.width) (n : Narrowed (suc i) e) where
    also : (k : ℕ) → k < length m.words → k < length e.words
    also k l = omega (arith, n.size.words)

    word_kept : (k : ℕ) → word e k ≡ word m k
    word_kept k = ap (λ (ws : List ℕ). get_or ws k 0) n.words

    -- word k is marked and has a 1 at place i
    abbrev pub hit : ℕ → Bool
    hit k = mark (suc i) k && eqb (bit (u (word m k)) i) 1

    hit_is : (k : ℕ) → k < length m.words
        → (selected (2 ^ b.x.0) (2 ^ b.x.0) (response e k) && agrees e.width (bit_of b.a i) (word e k) (comp i)) ≡ hit k
    hit_is k l =
        ap₂ (λ (p q : Bool). p && q)
        (selected_one b.x.0 (response e k) f.x_works.bit_lt ∙ ap (λ (z : ℕ). eqb z 1) (n.marks k l) ∙ is_one (mark (suc i) k))
        (ap₂ (λ (v w : ℕ). agrees v (bit_of b.a i) w (comp i)) n.size.width (word_kept k) ∙ best.finds i (word m k) h)

    abbrev pub tried : Machine
    tried = pulsed_by e (moved b 1 i 0)

    pub record Tried : Type 0 where
      pub sound : Sound tried
      pub size : SameSize m tried
      pub words : tried.words ≡ m.words
      pub marks : (k : ℕ) → k < length m.words → bit (response tried k) b.x.0 ≡ digit (mark (suc i) k)
      pub hits : (k : ℕ) → k < length m.words → bit (response tried k) b.y.0 ≡ digit (hit k)
      pub others : (k j : ℕ) → k < length m.words → j < response_bits → (j ≡ b.x.0 → ⊥) → (j ≡ b.y.0 → ⊥) → bit (response tried k) j ≡ bit (response m k) j

    pub tries : Tried
    tries =
        let y = f.y_works.bit_lt in
        let z = n.sound in
        let c = 2 ^ b.x.0 in
        let a = bit_of b.a i in
        let v = comp i in
        record {
          sound = rw (plan.tries i) (search_sound e z c c b.y a v y);
          size = size_both m e tried n.size (rw (plan.tries i) (search_size e z c c b.y a v y));
          words = rw (plan.tries i) (search_words e z c c b.y a v y) ∙ n.words;
          marks = λ k l. rw (plan.tries i) (search_others e z c c b.y a v y k b.x.0 (also k l) f.x_works.bit_lt f.differ) ∙ n.marks k l;
          hits = λ k l. rw (plan.tries i) (search_target e z c c b.y a v y k (also k l)) ∙ ap digit (hit_is k l);
          others = λ k j l g p q. rw (plan.tries i) (search_others e z c c b.y a v y k j (also k l) g q) ∙ n.others k j l g p q;
        }

    -- "and, if any matched": whether any did is the best value's own bit
    none_hit : bit g i ≡ 0 → (k : ℕ) → k < length m.words → hit k ≡ false
    none_hit d k l = go (chosen m b k) refl
      where
        go : (t : Bool) → chosen m b k ≡ t → ((t && same (suc i) (u (word m k)) g) && eqb (bit (u (word m k)) i) 1) ≡ false
        go true c = none_zero i (u (word m k)) g (best.bounds k l c) d
        go false c = refl

    pub count_zero : bit g i ≡ 0 → counted_by e (moved b 1 i 0) ≡ 0
    count_zero d =
        rw (plan.tries i) (search_none e n.sound (2 ^ b.x.0) (2 ^ b.x.0) b.y (bit_of b.a i) (comp i) f.y_works.bit_lt (λ k l.
        let k-in : k < length m.words = omega (arith, n.size.words) in hit_is k k-in ∙ none_hit d k k-in))

    pub count_more : bit g i ≡ 1 → 0 < counted_by e (moved b 1 i 0)
    count_more d =
        let some : 0 < g = not_none g i d in
        let w = best.has some in
        rw (plan.tries i) (search_some e n.sound (2 ^ b.x.0) (2 ^ b.x.0) b.y (bit_of b.a i) (comp i) f.y_works.bit_lt w.0 (also w.0 w.1)
        (hit_is w.0 w.1 ∙ rw (w.2, w.3) (some_one i g d)))

    -- ---- the best value has a 0 at place i: no word matched, and the marks stay
    pub stays : bit g i ≡ 0 → Narrowed i tried
    stays d = record {
      sound = tries.sound;
      size = tries.size;
      words = tries.words;
      marks = λ k l. tries.marks k l ∙ ap digit (go k l (chosen m b k) refl);
      others = tries.others;
    }
      where
        go : (k : ℕ) → k < length m.words → (t : Bool) → chosen m b k ≡ t → (t && same (suc i) (u (word m k)) g) ≡ (t && same i (u (word m k)) g)
        go k l true c = same_zero i (u (word m k)) g (best.bounds k l c) d
        go k l false c = refl

    -- ---- the best value has a 1 there: "search all don't care under Y=1, target X"
    abbrev pub second : Machine
    second = pulsed_by tried (moved b 2 i 0)

    pub narrowed : bit g i ≡ 1 → Narrowed i second
    narrowed d =
        let x = f.x_works.bit_lt in
        let z = tries.sound in
        let c = 2 ^ b.y.0 in
        record {
          sound = rw (plan.narrows i) (search_sound tried z c c b.x 0 0 x);
          size = size_both m tried second tries.size (rw (plan.narrows i) (search_size tried z c c b.x 0 0 x));
          words = rw (plan.narrows i) (search_words tried z c c b.x 0 0 x) ∙ tries.words;
          marks = λ k l. rw (plan.narrows i) (search_target tried z c c b.x 0 0 x k (in_tried k l)) ∙ ap digit (left k l);
          others = λ k j l h p q. rw (plan.narrows i) (search_others tried z c c b.x 0 0 x k j (in_tried k l) h p) ∙ tries.others k j l h p q;
        }
      where
        in_tried : (k : ℕ) → k < length m.words → k < length tried.words
        in_tried k l = omega (arith, tries.size.words)

        regroup : (p q r : Bool) → ((p && q) && r) ≡ (p && (q && r))
        regroup true q r = refl
        regroup false q r = refl

        left : (k : ℕ) → k < length m.words
            → (selected (2 ^ b.y.0) (2 ^ b.y.0) (response tried k) && agrees tried.width 0 (word tried k) 0) ≡ mark i k
        left k l =
            ap₂ (λ (p q : Bool). p && q)
            (selected_one b.y.0 (response tried k) f.y_works.bit_lt ∙ ap (λ (z : ℕ). eqb z 1) (tries.hits k l) ∙ is_one (hit k))
            (agrees_none tried.width (word tried k) 0)
            ∙ and-true (hit k) ∙ regroup (chosen m b k) _ _ ∙ ap (λ (t : Bool). chosen m b k && t) (same_one i (u (word m k)) g d)
