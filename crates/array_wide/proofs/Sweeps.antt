-- What the sweeps promise by rule is what the definitions say, where nothing is turned down.
use Prim.Native.Nat.{ℕ, ◌^◌, ◌<◌}
use mathlib.Core.Path.{◌≡◌, refl, ap, ap₂, ◌∙◌}
use mathlib.Core.Bool.{Bool, true, false}
use mathlib.Core.List.{List}
use lib.Bits.{bit_and}
use Rattle.laws.specs.Bits.{pick}
use Rattle.array.specs.declared.Registers.{Registers}
use Rattle.array.specs.declared.Source.{Source}
use Rattle.array.specs.declared.Mask.{Mask}
use Rattle.array.specs.declared.Wanted.{Wanted}
use Rattle.array.specs.declared.Latches.{Latches}
use Rattle.array.specs.declared.Combine.{Combine}
use Rattle.array.specs.declared.Selector.{Selector}
use Rattle.array.specs.declared.Form.{Form}
use Rattle.array.specs.declared.Sink.{Sink}
use Rattle.array.specs.declared.Sink.TheVariants.{R1, R2, M}
use Rattle.array.specs.declared.Kind.{Kind}
use Rattle.array.specs.declared.Operation.{Operation}
use Rattle.array.specs.declared.Operation.TheVariants.{Search, Read, Write}
use Rattle.std.specs.Prelude.{Ok}
use Rattle.array.specs.Words.{Word, each, how_many}
use Rattle.array.specs.Selectors.{selected, marked}
use Rattle.array.specs.Registers.{data_of, mask_of, sink_of, load}
use Rattle.array.specs.Operations.{Array, words_of, agrees, written_to, word_after, registers_after, counted}
use Rattle.array.specs.Refusals.{call_check, answer_of, after}
use Rattle.array.proofs.Refusals.{Fit, Sound, sound, fits, width_le, r1_fits, r2_fits, m_fits, each_every, how_many_every}
use Rattle.array_wide.specs.Rules.{agreeing, union, filled, fill_ones, fill_xs}
use Rattle.array_wide.proofs.Bridge.{agrees_is, written_is, read_is, mask_lt}
use Rattle.array.proofs.Calls.{an_answer, answered, left}

pick_of : (f : Word → ℕ) (t : Bool) (u w : Word) → pick t (f u) (f w) ≡ f (pick t u w)
pick_of f true u w = refl
pick_of f false u w = refl

sink_fits : {a : Array} {r : Registers} → Sound a r → (sink : Sink) → sink_of r sink < 2 ^ a.width
sink_fits s R1 = r1_fits s
sink_fits s R2 = r2_fits s
sink_fits s M = m_fits s

-- d, m and the others are what the code has computed
module _ (a : Array) (r : Registers) (h : call_check a r ≡ Ok tt) (mask : Mask) (m : ℕ) (em : m ≡ mask_of a.width r mask) where
  mask_fits : m < 2 ^ a.width
  mask_fits = rw em (mask_lt a.width (width_le (sound a r h)) r mask (m_fits (sound a r h)))

  module _ (source : Source) (wanted : Wanted) (set : Latches) (combine : Combine) (d : ℕ) (ed : d ≡ data_of r source) where
    abbrev S : Operation
    S = Search source mask wanted set combine

    same : (w : Word) → Fit a.width w → agreeing d m w ≡ agrees a.width (data_of r source) (mask_of a.width r mask) w
    same w p = agrees_is a.width (width_le (sound a r h)) d m w mask_fits p ∙ ap₂ (λ (x y : ℕ). agrees a.width x y w) ed em

    pub searched : (k : ℕ) (ss : List ℕ) → k ≡ how_many (agreeing d m) (words_of a) → ss ≡ each (λ w. marked wanted set combine (agreeing d m w) w.selectors) (words_of a)
        → (Ok (an_answer r k) ≡ answer_of a r S) × (ss ≡ (after a r S).selectors)
    unfolding registers_after counted word_after
    searched k ss ek es = (
      answered a r S h r k refl (ek ∙ how_many_every _ _ (fits (sound a r h)) same),
      es
          ∙ each_every _ _ (fits (sound a r h)) (λ w p. ap (λ (b : Bool). marked wanted set combine b w.selectors) (same w p))
          ∙ ap (λ (b : Array). b.selectors) (left a r S h),
    )

  module _ (selector : Selector) (form : Form) where
    abbrev chosen : Word → Bool
    chosen w = selected selector form w.selectors

    module _ (kind : Kind) (source : Source) where
      abbrev W : Operation
      W = Write kind source mask selector form

      abbrev new : Word → Word
      new w = written_to a.width kind (data_of r source) (mask_of a.width r mask) w

      pub wrote : (d f g k : ℕ) (os xs : List ℕ) → d ≡ data_of r source → f ≡ fill_ones kind d m → g ≡ fill_xs kind m → k ≡ how_many chosen (words_of a)
          → os ≡ each (λ w. pick (chosen w) (filled m f w.ones) w.ones) (words_of a) → xs ≡ each (λ w. pick (chosen w) (filled m g w.xs) w.xs) (words_of a)
          → (Ok (an_answer r k) ≡ answer_of a r W) × ((os ≡ (after a r W).ones) × (xs ≡ (after a r W).xs))
      unfolding registers_after counted word_after
      wrote d f g k os xs ed ef eg ek eo ex =
          let same : (w : Word) → Fit a.width w → (filled m f w.ones ≡ (new w).ones) × (filled m g w.xs ≡ (new w).xs)
          = λ w p. rw (ef, eg, ← ed, ← em) (written_is a.width (width_le (sound a r h)) kind d m w mask_fits p) in (
            answered a r W h r k refl ek,
            (
              eo
                  ∙ each_every _ _ (fits (sound a r h)) (λ w p. ap (λ (x : ℕ). pick (chosen w) x w.ones) (same w p).0 ∙ pick_of (λ w. w.ones) (chosen w) (new w) w)
                  ∙ ap (λ (b : Array). b.ones) (left a r W h),
              ex
                  ∙ each_every _ _ (fits (sound a r h)) (λ w p. ap (λ (x : ℕ). pick (chosen w) x w.xs) (same w p).1 ∙ pick_of (λ w. w.xs) (chosen w) (new w) w)
                  ∙ ap (λ (b : Array). b.xs) (left a r W h),
            ),
          )

    pub loaded : (sink : Sink) (q : Registers) (old v b k : ℕ) → old ≡ sink_of r sink → b ≡ union (selected selector form) (words_of a) → k ≡ how_many chosen (words_of a)
        → v ≡ filled m (bit_and b m) old → q ≡ load sink v r → Ok (an_answer q k) ≡ answer_of a r (Read selector form sink mask)
    unfolding registers_after counted
    loaded sink q old v b k eo eb ek ev eq =
        let same = read_is a.width (width_le (sound a r h)) m (sink_of r sink) (selected selector form) (words_of a) mask_fits (sink_fits (sound a r h) sink) (fits (sound a r h)) in
        answered a r (Read selector form sink mask) h q k (eq ∙ ap (λ (x : ℕ). load sink x r) (rw (ev, eb, eo, ← em) same)) ek
