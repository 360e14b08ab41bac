-- From what the plain machine's cells give to what document 01 says of one word in one pulse, and of all of them.
use Prim.Native.Nat.{ℕ}
use mathlib.Core.Path.{◌≡◌, ap, ◌∙◌}
use mathlib.Core.Bool.{Bool, true, false, ◌&&◌, ◌||◌}
use mathlib.Core.List.{List}
use lib.Dec.{eqb}
use lib.ListN.{get_or}
use borrow.Author.Tests.{not-false}
use Rattle.laws.specs.Bits.{pick}
use Rattle.laws.specs.Lists.{all, zip, count}
use Rattle.machine.specs.declared.Panel.{Panel}
use Rattle.machine.specs.declared.Lines.{Lines}
use Rattle.machine.specs.declared.Refusal.{Refusal}
use Rattle.std.specs.Prelude.{Ok, Err}
use Rattle.machine.specs.Machine.{machine, syllables, selected}
use Rattle.machine.specs.Search.{unmixed, matches, marked}
use Rattle.machine.specs.Cells.{cells_match}
use Rattle.machine.specs.Pulse.{written, added, change, word_after, flipped, response_after, counts, count_of, read_of, pulsed}
use Rattle.machine.specs.Refusals.{bad_codes, pulse_check, answer_of, after}
use Rattle.machine.proofs.Cells.{cells_match_lem}

-- ---- one word

module _ (n : ℕ) (p : Panel) (l : Lines) (k w r : ℕ) where
  pub word_is : (s : Bool) (x : ℕ) → s ≡ selected p.key p.care r
      → x ≡ change n (l.write && eqb k p.address.0 || l.multiwrite && s) (l.add && eqb k p.address.0 || l.multiadd && s) w (written n p w) (added n p w)
      → x ≡ word_after n p l k w r
  unfolding word_after
  word_is s x h e = rw h at e

  codes_fine : l.search ≡ true → bad_codes n p l ≡ false → all (unmixed p) (syllables n p.sdr) ≡ true
  unfolding bad_codes
  codes_fine h g = not-false _ (rw h at g)

  -- where search is raised: the matching words are marked and counted
  pub search_is : (m : Bool) (q : ℕ) → l.search ≡ true → bad_codes n p l ≡ false → m ≡ cells_match n p w r → q ≡ marked p.target m r
      → (q ≡ response_after n p l k w r) × (m ≡ counts n p l w r)
  unfolding response_after counts
  search_is m q h g e f =
      let d : m ≡ matches n p w r = e ∙ cells_match_lem n p w r (codes_fine h g) in
      (rw h (f ∙ ap (λ (t : Bool). marked p.target t r) d), rw h d)

  pub complement_is : (s : Bool) (q : ℕ) → l.search ≡ false → s ≡ selected p.key p.care r → (l.complement && s) ≡ true → q ≡ flipped p.target r
      → (q ≡ response_after n p l k w r) × (s ≡ counts n p l w r)
  unfolding response_after counts
  complement_is s q h e g f = (rw (h, ← e, g) f, rw h e)

  pub other_is : (s : Bool) → l.search ≡ false → s ≡ selected p.key p.care r → (l.complement && s) ≡ false
      → (r ≡ response_after n p l k w r) × (s ≡ counts n p l w r)
  unfolding response_after counts
  other_is s h e g = (rw (h, ← e, g), rw h e)

-- ---- the whole call

module _ (n : ℕ) (ws rs : List ℕ) (p : Panel) (l : Lines) where
  pub call_done : (c r : ℕ) (ws' rs' : List ℕ) → pulse_check (machine n ws rs) p l ≡ Ok tt
      → c ≡ count (counts n p l) ws rs → r ≡ pick l.read (get_or ws p.address.0 0) 0
      → ws' ≡ zip (word_after n p l) 0 ws rs → rs' ≡ zip (response_after n p l) 0 ws rs
      → (Ok (record { count = c; read = r }) ≡ answer_of (machine n ws rs) p l) × ((ws' ≡ (after (machine n ws rs) p l).words) × (rs' ≡ (after (machine n ws rs) p l).responses))
  unfolding answer_of after pulsed count_of read_of
  call_done c r ws' rs' h ec er ew es = (rw (h, ec, er), (rw h ew, rw h es))

  pub call_refused : (why : Refusal) → pulse_check (machine n ws rs) p l ≡ Err why
      → (Err why ≡ answer_of (machine n ws rs) p l) × ((ws ≡ (after (machine n ws rs) p l).words) × (rs ≡ (after (machine n ws rs) p l).responses))
  unfolding answer_of after
  call_refused why h = (rw h, (rw h, rw h))
