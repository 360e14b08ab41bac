-- What each operation answers and leaves where nothing is turned down: an operation keeps what it doesn't name.
use Prim.Native.Nat.{ℕ}
use mathlib.Core.Path.{◌≡◌, refl, sym, ap, ◌∙◌}
use mathlib.Core.Bool.{Bool, true, false}
use mathlib.Core.List.{List, [], ◌∷◌}
use native.Mathlib.Omega.{arith}
use lib.ListN.{length}
use Rattle.laws.specs.Bits.{pick}
use Rattle.array.specs.declared.Registers.{Registers}
use Rattle.array.specs.declared.Source.{Source}
use Rattle.array.specs.declared.Mask.{Mask}
use Rattle.array.specs.declared.Wanted.{Wanted}
use Rattle.array.specs.declared.Latches.{Latches}
use Rattle.array.specs.declared.Combine.{Combine}
use Rattle.array.specs.declared.Selector.{Selector}
use Rattle.array.specs.declared.Form.{Form}
use Rattle.array.specs.declared.Sink.{Sink}
use Rattle.array.specs.declared.Kind.{Kind}
use Rattle.array.specs.declared.Operation.{Operation}
use Rattle.array.specs.declared.Operation.TheVariants.{Search, Read, Write}
use Rattle.array.specs.declared.Refusal.{Refusal}
use Rattle.array.specs.declared.Answer.{Answer}
use Rattle.std.specs.Prelude.{Result, Ok}
use Rattle.array.specs.Words.{Word, words, each}
use Rattle.array.specs.Selectors.{selected}
use Rattle.array.specs.Registers.{data_of, mask_of}
use Rattle.array.specs.Operations.{Array, array, words_of, written_to, word_after}
use Rattle.array.specs.Refusals.{call_check, answer_of, after}
use Rattle.array.proofs.Calls.{Told, left}
use Rattle.array.proofs.Refusals.{sound, fits, same_xs, same_selectors, each_every}

-- ---- what an operation doesn't name it keeps

each_kept : (os xs ss : List ℕ) → length xs ≡ length os → length ss ≡ length os
    → (os ≡ each (λ w. w.ones) (words os xs ss)) × (xs ≡ each (λ w. w.xs) (words os xs ss)) × (ss ≡ each (λ w. w.selectors) (words os xs ss))
unfolding words each
each_kept [] [] [] hx hs = (refl, refl, refl)
each_kept [] (x ∷ xs) ss hx hs = absurd (omega arith)
each_kept [] [] (s ∷ ss) hx hs = absurd (omega arith)
each_kept (o ∷ os) [] ss hx hs = absurd (omega arith)
each_kept (o ∷ os) (x ∷ xs) [] hx hs = absurd (omega arith)
each_kept (o ∷ os) (x ∷ xs) (s ∷ ss) hx hs =
    let t = each_kept os xs ss (omega arith) (omega arith) in
    (ap (λ (l : List ℕ). o ∷ l) t.0, ap (λ (l : List ℕ). x ∷ l) t.1, ap (λ (l : List ℕ). s ∷ l) t.2)

module _ (n : ℕ) (os xs ss : List ℕ) (r : Registers) (h : call_check (array n os xs ss) r ≡ Ok tt) (o : Operation) (t : Result Answer Refusal) where
  abbrev A : Array
  A = array n os xs ss

  kept : (os ≡ each (λ w. w.ones) (words_of A)) × (xs ≡ each (λ w. w.xs) (words_of A)) × (ss ≡ each (λ w. w.selectors) (words_of A))
  kept = each_kept os xs ss (same_xs (sound A r h)) (same_selectors (sound A r h))

  module _ (source : Source) (mask : Mask) (wanted : Wanted) (set : Latches) (combine : Combine) where
    abbrev S : Operation
    S = Search source mask wanted set combine

    pub after_search : (ss' : List ℕ) → o ≡ S → t ≡ answer_of A r S → ss' ≡ (after A r S).selectors → Told A r o t os xs ss'
    unfolding word_after
    after_search ss' e et es =
        let l = left A r S h in rw e (et, (kept.0 ∙ ap (λ (a : Array). a.ones) l, (kept.1 ∙ ap (λ (a : Array). a.xs) l, es)))

  module _ (selector : Selector) (form : Form) (sink : Sink) (mask : Mask) where
    abbrev R : Operation
    R = Read selector form sink mask

    pub after_read : o ≡ R → t ≡ answer_of A r R → Told A r o t os xs ss
    unfolding word_after
    after_read e et =
        let l = left A r R h in
        rw e (et, (kept.0 ∙ ap (λ (a : Array). a.ones) l, (kept.1 ∙ ap (λ (a : Array). a.xs) l, kept.2 ∙ ap (λ (a : Array). a.selectors) l)))

  module _ (kind : Kind) (source : Source) (mask : Mask) (selector : Selector) (form : Form) where
    abbrev W : Operation
    W = Write kind source mask selector form

    pub after_write : (os' xs' : List ℕ) → o ≡ W → t ≡ answer_of A r W → os' ≡ (after A r W).ones → xs' ≡ (after A r W).xs → Told A r o t os' xs' ss
    unfolding word_after written_to
    after_write os' xs' e et eo ex =
        let same = each_every _ _ (fits (sound A r h)) (λ w p. either (selected selector form w.selectors) (written_to n kind (data_of r source) (mask_of n r mask) w) w refl) in
        rw e (et, (eo, (ex, kept.2 ∙ same ∙ ap (λ (a : Array). a.selectors) (left A r W h))))
      where
        either : (b : Bool) (u w : Word) → u.selectors ≡ w.selectors → w.selectors ≡ (pick b u w).selectors
        either true u w e = sym e
        either false u w e = refl
