-- All words: what the sweeps leave and count is what the machine's definitions say, with search raised and without; then the addressed word.
-- Document 01, 'One pulse'.
use Prim.Native.Nat.{ℕ, ◌^◌, ◌<◌}
use mathlib.Core.Path.{◌≡◌, refl, sym, ap, ap₂, ◌∙◌}
use mathlib.Core.List.{List}
use mathlib.Core.Bool.{Bool, true, false, ◌&&◌, ◌||◌}
use native.Mathlib.Omega.{arith}
use lib.ListN.{length, get_or, set}
use borrow.Author.Tests.{eq-eqb, ne_eqb}
use Rattle.laws.specs.Bits.{pick}
use Rattle.laws.specs.Lists.{zip, count}
use Rattle.machine.specs.declared.Panel.{Panel}
use Rattle.machine.specs.declared.Lines.{Lines}
use Rattle.machine.specs.Machine.{Machine, machine, response_bits, selected}
use Rattle.machine.specs.Search.{matches}
use Rattle.machine.specs.Pulse.{written, added, change, word_after, response_after, counts, count_of, pulsed}
use Rattle.sweeps.specs.declared.Masks.{Masks}
use Rattle.sweeps.specs.declared.Tags.{Tags}
use Rattle.sweeps.specs.declared.Changes.{Changes}
use Rattle.sweeps.specs.Along.{along, each}
use Rattle.sweeps.specs.Rules.{chosen, found, answer, new, changed, takes, flipped}
use Rattle.fields.proofs.Settings.{unmixed}
use Rattle.masks.specs.Plan.{Fit, masks_of, tags_of, changes_of}
use Rattle.wide.specs.Accepted.{Accepted, multi_after}
use Rattle.wide.proofs.Lists.{second_along, first_along, second_each, first_stays, second_stays, count_turned, zip_like, count_like, zip_same, zip_set}
use Rattle.masks.proofs.Plan.{chosen_is, found_is, answer_is, flipped_as, new_is, changed_is}

module _ (n : ℕ) (p : Panel) (l : Lines) (ws rs : List ℕ) (a : Accepted n p l ws rs)
    (care : p.care < 2 ^ response_bits) (target : p.target < 2 ^ response_bits) (bytes : (j : ℕ) → get_or rs j 0 < 2 ^ response_bits) where
  like : (f g : ℕ → ℕ → ℕ → ℕ) → ((k w r : ℕ) → w < 2 ^ n → r < 2 ^ response_bits → f k w r ≡ g k w r) → zip f 0 ws rs ≡ zip g 0 ws rs
  like f g h = zip_like (2 ^ n) (2 ^ response_bits) f g h 0 ws rs a.words bytes

  -- ---- the words

  pub words_change : (q : Changes) (t : Tags) {ws' : List ℕ} → q ≡ changes_of n p → t ≡ tags_of p
      → ws' ≡ along (changed l.multiwrite l.multiadd q t) rs ws → ws' ≡ zip (multi_after n p l) 0 ws rs
  unfolding multi_after
  words_change q t e g h =
      h
      ∙ ap₂ (λ (i : Changes) (j : Tags). along (changed l.multiwrite l.multiadd i j) rs ws) e g
      ∙ first_along (changed l.multiwrite l.multiadd (changes_of n p) (tags_of p)) 0 ws rs a.size
      ∙ like _ _ (λ k w r hw hr. changed_is n p a.fit care target w hw l.multiwrite l.multiadd r)

  pub words_stay : (l.multiwrite || l.multiadd) ≡ false → ws ≡ zip (multi_after n p l) 0 ws rs
  unfolding multi_after
  words_stay h =
      first_stays 0 ws rs a.size
      ∙ like _ _ (λ k w r hw hr. neither l.multiwrite l.multiadd (selected p.key p.care r) w (written n p w) (added n p w) h)
    where
      neither : (x y t : Bool) (w u v : ℕ) → (x || y) ≡ false → w ≡ change n (x && t) (y && t) w u v
      neither true y t w u v h = cc
      neither false true t w u v h = cc
      neither false false t w u v h = refl

  -- ---- search raised

  module _ (s : l.search ≡ true) where
    pub matches_count : (b : Masks) (t : Tags) {k : ℕ} → b ≡ masks_of n p → t ≡ tags_of p → k ≡ count (found b t) ws rs → k ≡ count (counts n p l) ws rs
    unfolding counts
    matches_count b t e g h =
        h
        ∙ ap₂ (λ (i : Masks) (j : Tags). count (found i j) ws rs) e g
        ∙ count_like _ _ (λ w r.
        found_is n p a.fit care target (unmixed _ _ _ _ (a.codes s)) w r ∙ sym (ap (λ (x : Bool). pick x (matches n p w r) (selected p.key p.care r)) s)) ws rs

    pub matches_mark : (b : Masks) (t : Tags) {rs' : List ℕ} → b ≡ masks_of n p → t ≡ tags_of p → rs' ≡ along (answer b t) ws rs
        → rs' ≡ zip (response_after n p l) 0 ws rs
    unfolding response_after
    matches_mark b t e g h =
        h
        ∙ ap₂ (λ (i : Masks) (j : Tags). along (answer i j) ws rs) e g
        ∙ second_along (answer (masks_of n p) (tags_of p)) 0 ws rs a.size
        ∙ like _ _ (λ k w r hw hr. answer_is n p a.fit care target (unmixed _ _ _ _ (a.codes s)) w r hr ∙ rw s refl)

  -- ---- search not raised

  module _ (s : l.search ≡ false) where
    pub selected_count : (t : Tags) {k : ℕ} → t ≡ tags_of p → k ≡ count (takes t) rs ws → k ≡ count (counts n p l) ws rs
    unfolding counts
    selected_count t g h =
        h
        ∙ ap (λ (j : Tags). count (takes j) rs ws) g
        ∙ count_turned (takes (tags_of p)) ws rs
        ∙ count_like _ _ (λ w r. chosen_is n p a.fit care target r ∙ rw s refl) ws rs

    pub targets_flip : (t : Tags) {rs' : List ℕ} → t ≡ tags_of p → l.complement ≡ true → rs' ≡ each (flipped t) rs → rs' ≡ zip (response_after n p l) 0 ws rs
    unfolding response_after
    targets_flip t g c h =
        h
        ∙ ap (λ (j : Tags). each (flipped j) rs) g
        ∙ second_each (flipped (tags_of p)) 0 ws rs a.size
        ∙ like _ _ (λ k w r hw hr. flipped_as n p a.fit care target r hr ∙ rw (s, c) refl)

    pub responses_stay : l.complement ≡ false → rs ≡ zip (response_after n p l) 0 ws rs
    unfolding response_after
    responses_stay c = second_stays 0 ws rs a.size ∙ like _ _ (λ k w r hw hr. rw (s, c) refl)

-- ---- the addressed word

pub at_address : (n : ℕ) (p : Panel) (f : Fit n p) (care : p.care < 2 ^ response_bits) (target : p.target < 2 ^ response_bits) (l : Lines) (w r : ℕ)
    → w < 2 ^ n → (q : Changes) (t : Tags) {x : ℕ} {c : Bool} → q ≡ changes_of n p → t ≡ tags_of p → c ≡ chosen t r
    → x ≡ new (l.write || l.multiwrite && c) (l.add || l.multiadd && c) q w → x ≡ word_after n p l p.address.0 w r
unfolding word_after
at_address n p f care target l w r h q t e g d k =
    let sel = d ∙ ap (λ (j : Tags). chosen j r) g ∙ chosen_is n p f care target r in
    k
    ∙ ap₂ (λ (b : Bool) (i : Changes). new (l.write || l.multiwrite && b) (l.add || l.multiadd && b) i w) sel e
    ∙ new_is n p f care target w h (l.write || l.multiwrite && selected p.key p.care r) (l.add || l.multiadd && selected p.key p.care r)
    ∙ rw (eq-eqb p.address.0 p.address.0 refl, always l.write, always l.add) refl
  where
    always : (x : Bool) → (x && true) ≡ x
    always true = refl
    always false = refl

-- elsewhere, and everywhere if neither write nor add is raised, only multiwrite and multiadd reach a word
elsewhere : (n : ℕ) (p : Panel) (l : Lines) (k w r : ℕ) → (k ≡ p.address.0 → ⊥) → multi_after n p l k w r ≡ word_after n p l k w r
unfolding word_after multi_after
elsewhere n p l k w r h = rw (ne_eqb k p.address.0 h, never l.write, never l.add) refl
  where
    never : (x : Bool) → (x && false) ≡ false
    never true = refl
    never false = refl

untouched : (n : ℕ) (p : Panel) (l : Lines) (k w r : ℕ) → (l.write || l.add) ≡ false → multi_after n p l k w r ≡ word_after n p l k w r
unfolding word_after multi_after
untouched n p l k w r h = rw (first l.write l.add h, second l.write l.add h) refl
  where
    first : (x y : Bool) → (x || y) ≡ false → x ≡ false
    first true y h = h
    first false y h = refl

    second : (x y : Bool) → (x || y) ≡ false → y ≡ false
    second true y h = cc
    second false y h = h

module _ (n : ℕ) (p : Panel) (l : Lines) (ws rs : List ℕ) (a : Accepted n p l ws rs) where
  abbrev M : Machine
  M = machine n ws rs

  -- where write or add is raised there is a word at the address
  pub in_range : (l.write || l.add) ≡ true → p.address.0 < length ws
  in_range h = a.address (either l.read l.write l.add h)
    where
      either : (x y z : Bool) → (y || z) ≡ true → (x || y || z) ≡ true
      either true true z h = refl
      either true false true h = refl
      either true false false h = refl
      either false true z h = refl
      either false false z h = h

  -- what a sweep and the store at the address give
  pub with_address : (k x : ℕ) (ws' rs' : List ℕ) → p.address.0 < length ws → x ≡ word_after n p l p.address.0 (get_or ws p.address.0 0) (get_or rs p.address.0 0)
      → k ≡ count (counts n p l) ws rs → ws' ≡ zip (multi_after n p l) 0 ws rs → rs' ≡ zip (response_after n p l) 0 ws rs
      → (k ≡ count_of M p l) × ((set ws' p.address.0 x ≡ (pulsed M p l).words) × (rs' ≡ (pulsed M p l).responses))
  unfolding count_of pulsed
  with_address k x ws' rs' h e c w r = (
    c,
    (
      ap (λ (us : List ℕ). set us p.address.0 x) w
          ∙ zip_set (multi_after n p l) (word_after n p l) 0 p.address.0 x ws rs h a.size
          (e ∙ ap (λ (j : ℕ). word_after n p l j (get_or ws p.address.0 0) (get_or rs p.address.0 0)) (omega arith))
          (λ j u v g. elsewhere n p l j u v (λ f. g (omega arith))),
      r,
    ),
  )

  pub without_address : (k : ℕ) (ws' rs' : List ℕ) → (l.write || l.add) ≡ false
      → k ≡ count (counts n p l) ws rs → ws' ≡ zip (multi_after n p l) 0 ws rs → rs' ≡ zip (response_after n p l) 0 ws rs
      → (k ≡ count_of M p l) × ((ws' ≡ (pulsed M p l).words) × (rs' ≡ (pulsed M p l).responses))
  unfolding count_of pulsed
  without_address k ws' rs' h c w r = (c, (w ∙ zip_same (multi_after n p l) (word_after n p l) 0 (λ j u v g. untouched n p l j u v h) ws rs, r))
