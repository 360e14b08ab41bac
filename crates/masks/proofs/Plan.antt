-- The sweeps' rules with the panel's masks are the machine's definitions: what the code computes by whole words is what document 01 says bit by bit
-- and syllable by syllable ('One pulse').
use Rattle.std.proofs.Common.{◌≡◌, ℕ, ◌+◌, ◌-◌, ◌%◌, ◌^◌, ◌<◌, ◌≤◌, Bool, true, false, ◌&&◌, eqb, sym, refl, ap, ◌∙◌, ap₂, mod-lt, arith, pow_pos, pow_mono}
use lib.Bits.{bit_and, bit_or, bit_xor, and_le_l, xor_lt}
use Rattle.laws.specs.Bits.{pick, digit}
use Rattle.laws.specs.Lists.{all}
use Rattle.machine.specs.declared.Panel.{Panel}
use Rattle.machine.specs.Machine.{response_bits, syllables, selected}
use Rattle.machine.specs.Search.{satisfied, matches, marked}
use Rattle.machine.specs.Pulse as m
use Rattle.machine.proofs.Masks.{selected_is, marked_is, flipped_is, written_is, both_is}
use Rattle.fields.specs.Fields.{fields}
use Rattle.fields.specs.Tops.{tops_of}
use Rattle.fields.proofs.Shape.{same_fields, topped, bits_fields, add_lt}
use Rattle.fields.proofs.Turned.{limit}
use Rattle.fields.proofs.Tested.{tested_word}
use Rattle.fields.proofs.WordSum.{sum_word}
use Rattle.fields.proofs.Settings.{Unmixed, swapped_one, swapped_care, turned_is}
use Rattle.fields.proofs.Reader.{all_satisfied_is, added_is}
use Rattle.sweeps.specs.Rules.{test, flag, chosen, hit, put, mark, found, answer, written, summed, asked, both as flips, new, choice, gated, changed, flipped}
use Rattle.masks.specs.Plan.{masks_of, tags_of, changes_of}
use Rattle.masks.specs.Plan.{Fit}
use Rattle.masks.proofs.Asked.{asked_is}

module _ (n : ℕ) (p : Panel) (f : Fit n p) (care : p.care < 2 ^ response_bits) (target : p.target < 2 ^ response_bits) where
  pub chosen_is : (r : ℕ) → chosen (tags_of p) r ≡ selected p.key p.care r
  unfolding chosen tags_of
  chosen_is r = sym (selected_is p.key p.care r care)

  -- ---- search

  module _ (u : Unmixed (fields n p.sdr) p.sc1 p.sc2 p.sc3) where
    test_is : (w : ℕ) → eqb (test (masks_of n p) w) (masks_of n p).want ≡ all (satisfied p w) (syllables n p.sdr)
    unfolding test masks_of limit
    test_is w =
        let t = topped n p.sdr f.least f.most f.sdr in
        let e = same_fields n p.sdr f.least in
        (rw (swapped_care (fields n p.sdr) p.sc1 p.sc2 p.sc3 u) at (tested_word n (tops_of n p.sdr) t.pos t.wide t.within t.top p.sc1 (bit_xor p.sc2 p.sc3) p.sc3 p.comp w f.sc1
        (xor_lt n p.sc2 p.sc3 f.sc2 f.sc3) (rw e (swapped_one (fields n p.sdr) p.sc1 p.sc2 p.sc3 u))))
        ∙ rw e (turned_is (fields n p.sdr) p.sc1 p.sc2 p.sc3 w p.comp u)
        ∙ sym (all_satisfied_is n p w u)

    pub found_is : (w r : ℕ) → found (masks_of n p) (tags_of p) w r ≡ matches n p w r
    unfolding found hit flag matches
    found_is w r =
        flagged (eqb (test (masks_of n p) w) (masks_of n p).want) (chosen (tags_of p) r) ∙ ap₂ (λ (s t : Bool). s && t) (chosen_is r) (test_is w)
      where
        flagged : (x s : Bool) → (eqb (digit x) 1 && s) ≡ (s && x)
        flagged true true = refl
        flagged true false = refl
        flagged false true = refl
        flagged false false = refl

    pub answer_is : (w r : ℕ) → r < 2 ^ response_bits → answer (masks_of n p) (tags_of p) w r ≡ marked p.target (matches n p w r) r
    unfolding answer mark found tags_of
    answer_is w r h = ap (λ (t : Bool). put p.target t r) (found_is w r) ∙ put_is (matches n p w r)
      where
        put_is : (t : Bool) → put p.target t r ≡ marked p.target t r
        put_is true = sym (marked_is p.target true r h target)
        put_is false = sym (marked_is p.target false r h target)

  -- ---- complement

  pub flipped_as : (r : ℕ) → r < 2 ^ response_bits → flipped (tags_of p) r ≡ pick (selected p.key p.care r) (m.flipped p.target r) r
  unfolding flipped tags_of
  flipped_as r h = ap₂ (λ (t : Bool) (x : ℕ). pick t x r) (chosen_is r) (sym (flipped_is p.target r h target))

  -- ---- write and add

  module _ (w : ℕ) (h : w < 2 ^ n) where
    written_as : written (changes_of n p) w ≡ m.written n p w
    unfolding written changes_of
    written_as = sym (written_is n p w h f.comp)

    written_lt : m.written n p w < 2 ^ n
    written_lt =
        rw (written_is n p w h f.comp)
        (xor_lt n w _ h (omega (arith, and_le_l (bit_xor w p.comp) p.mor, xor_lt n w p.comp h f.comp)))

    summed_as : summed (changes_of n p) w ≡ m.added n p w
    unfolding summed changes_of
    summed_as =
        sum_word n p.sdr w (bit_and p.comp p.mor) f.least f.most f.sdr h (omega (arith, and_le_l p.comp p.mor, f.comp))
        ∙ sym (added_is n p w)

    added_lt : m.added n p w < 2 ^ n
    added_lt = rw (added_is n p w) (rw (bits_fields n p.sdr) at (add_lt (fields n p.sdr) w (bit_and p.comp p.mor) 0))

    asked_as : asked (changes_of n p) w ≡ bit_xor w (m.added n p w)
    unfolding asked summed changes_of
    asked_as =
        let most : 2 ^ n ≤ 2 ^ 64 = pow_mono f.most in
        let t : ℕ = tops_of n p.sdr in
        let within : t < 2 ^ n = (topped n p.sdr f.least f.most f.sdr).within in
        let a : ℕ = bit_and p.comp p.mor in
        let low : ℕ = bit_and w (2 ^ 64 - 1 - t) + bit_and a (2 ^ 64 - 1 - t) in
        asked_is 64 w a t (low % 2 ^ 64) (omega arith) (omega (arith, and_le_l p.comp p.mor, f.comp)) (omega arith) (mod-lt low (pow_pos 64))
        ∙ ap (bit_xor w) summed_as

    pub new_is : (write add : Bool) → new write add (changes_of n p) w ≡ m.change n write add w (m.written n p w) (m.added n p w)
    unfolding new flips
    new_is false false = refl
    new_is false true = summed_as
    new_is true false = written_as
    new_is true true = ap₂ (λ (x : ℕ) (y : ℕ). bit_xor w (bit_or (bit_xor w x) y)) written_as asked_as ∙ sym (both_is n w _ _ h written_lt added_lt)

    pub changed_is : (write add : Bool) (r : ℕ)
        → let sel = selected p.key p.care r in
        changed write add (changes_of n p) (tags_of p) r w ≡ m.change n (write && sel) (add && sel) w (m.written n p w) (m.added n p w)
    unfolding changed gated choice
    changed_is write add r =
        ap₂ (λ (t : Bool) (x : ℕ). pick t x w) (back (chosen (tags_of p) r) ∙ chosen_is r) (new_is write add)
        ∙ both write add (selected p.key p.care r)
      where
        back : (t : Bool) → eqb (digit t) 1 ≡ t
        back true = refl
        back false = refl

        both : (x y t : Bool) → pick t (m.change n x y w (m.written n p w) (m.added n p w)) w ≡ m.change n (x && t) (y && t) w (m.written n p w) (m.added n p w)
        both false false true = refl
        both false true true = refl
        both true false true = refl
        both true true true = refl
        both false false false = refl
        both false true false = refl
        both true false false = refl
        both true true false = refl
