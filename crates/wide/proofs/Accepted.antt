-- What passing the checks shows, check by check. Document 01, 'Numbers given when a call is turned down', 1 to 7.
use Prim.Native.Nat.{ℕ, zero, suc, ◌-◌, ◌^◌, ◌≤◌, ◌<◌}
use mathlib.Core.Path.{◌≡◌, refl, sym, ap, ◌∙◌}
use mathlib.Core.Bool.{Bool, true, false, not, ◌||◌}
use mathlib.Core.List.{List, [], ◌∷◌}
use native.Mathlib.Omega.{arith}
use lib.Dec.{eqb}
use lib.ListN.{length, get_or}
use lib.Pow.{pow_pos, pow_mono}
use lib.Bits.{bit_and, bit_or}
use borrow.Author.Tests.{leb-false, not-false}
use Rattle.laws.specs.Bits.{pick}
use Rattle.machine.specs.declared.Panel.{Panel}
use Rattle.machine.specs.declared.Lines.{Lines}
use Rattle.machine.specs.declared.WordSlice.{WordSlice}
use Rattle.std.specs.Prelude.{Some, None, Ok}
use Rattle.machine.specs.Machine.{Machine, machine}
use Rattle.machine.specs.Resolution.{lowest}
use Rattle.machine.specs.Refusals.{too_wide, bad_panel, bad_codes, bad_address, machine_check, pulse_check}
use Rattle.machine.proofs.Refusals.{or_left, or_right, width_pos, width_le, size_same, sound, clean}
use Rattle.fields.specs.Fields.{fields}
use Rattle.fields.specs.Tops.{tops_of}
use Rattle.fields.specs.Codes.{clash, set_bits, unmixed_in}
use Rattle.fields.proofs.Shape.{same_fields}
use Rattle.fields.proofs.Codes.{unmixed_word}
use Rattle.fields.proofs.Mixing.{unmixed_is}
use Rattle.masks.specs.Plan.{Fit}
use Rattle.wide.specs.Accepted.{Accepted}

-- ---- 3

not_at : {A : Type 0} (k : WordSlice) → Some k ≡ None → A
not_at k e = let z : ◌≡◌ {A = ℕ} 0 1 = cc in absurd (omega arith)

words_fit : (n k : ℕ) (ws : List ℕ) → lowest (too_wide n) k ws ≡ None → (j : ℕ) → get_or ws j 0 < 2 ^ n
unfolding lowest
words_fit n k [] e j = pow_pos n
words_fit n k (w ∷ ws) e j = go (too_wide n w) refl e (words_fit n (suc k) ws) j
  where
    go : (t : Bool) → too_wide n w ≡ t → pick t (Some (record { 0 = k })) (lowest (too_wide n) (suc k) ws) ≡ None
        → (lowest (too_wide n) (suc k) ws ≡ None → (j : ℕ) → get_or ws j 0 < 2 ^ n) → (j : ℕ) → get_or (w ∷ ws) j 0 < 2 ^ n
    go true f g rest j = not_at _ g
    go false f g rest zero = leb-false (2 ^ n) w f
    go false f g rest (suc j) = rest g j

-- ---- 4

pub fit : (n : ℕ) (p : Panel) → 0 < n → n ≤ 64 → bad_panel n p ≡ false → Fit n p
unfolding bad_panel
fit n p pos most h =
    let f = or_left _ (too_wide n p.sc3) h in
    let e = or_left _ (too_wide n p.mor) f in
    let d = or_left _ (too_wide n p.sc2) e in
    let c = or_left _ (too_wide n p.sc1) d in
    record {
      least = pos;
      most = most;
      comp = leb-false _ _ (or_left (too_wide n p.comp) (too_wide n p.sdr) c);
      sdr = leb-false _ _ (or_right (too_wide n p.comp) (too_wide n p.sdr) c);
      sc1 = leb-false _ _ (or_right (too_wide n p.comp || too_wide n p.sdr) (too_wide n p.sc1) d);
      sc2 = leb-false _ _ (or_right (too_wide n p.comp || too_wide n p.sdr || too_wide n p.sc1) (too_wide n p.sc2) e);
      mor = leb-false _ _ (or_right (too_wide n p.comp || too_wide n p.sdr || too_wide n p.sc1 || too_wide n p.sc2) (too_wide n p.mor) f);
      sc3 = leb-false _ _ (or_right (too_wide n p.comp || too_wide n p.sdr || too_wide n p.sc1 || too_wide n p.sc2 || too_wide n p.mor) (too_wide n p.sc3) h);
    }

-- ---- 5 and 7

pub two_codes : (n : ℕ) (p : Panel) (l : Lines) (t x y : ℕ) → Fit n p → l.search ≡ true → t ≡ tops_of n p.sdr
    → x ≡ clash (fields n t) p.sc1 p.sc2 → y ≡ clash (fields n t) (set_bits p.sc1 p.sc2 p.sc3) (bit_or p.sc1 p.sc2)
    → not (eqb (bit_or (bit_or x y) (bit_and p.sc3 (2 ^ 64 - 1 - p.sc1))) 0) ≡ bad_codes n p l
unfolding bad_codes
two_codes n p l t x y f s e ex ey =
    let most : 2 ^ n ≤ 2 ^ 64 = pow_mono f.most in
    rw (ex, ey, e, same_fields n p.sdr f.least, s)
    (ap not (unmixed_word (fields n p.sdr) p.sc1 p.sc2 p.sc3 (omega (arith, f.sc1)) (omega (arith, f.sc3)) ∙ sym (unmixed_is n p f.sc3)))

codes_fit : (n : ℕ) (p : Panel) (l : Lines) → Fit n p → bad_codes n p l ≡ false → l.search ≡ true
    → unmixed_in (fields n p.sdr) p.sc1 p.sc2 p.sc3 ≡ true
unfolding bad_codes
codes_fit n p l f h s = sym (unmixed_is n p f.sc3) ∙ not-false _ (rw s at h)

address_fits : (m : ℕ) (p : Panel) (l : Lines) → bad_address m p l ≡ false → (l.read || l.write || l.add) ≡ true → p.address.0 < m
unfolding bad_address
address_fits m p l h s = leb-false m p.address.0 (rw s at h)

-- ---- all of them

-- 2: what number 4 to 7 are judged by
pub machine_width : (m : Machine) → machine_check m ≡ Ok tt → (0 < m.width) × (m.width ≤ 64)
machine_width m h = let s = sound m h in (width_pos m.width s.width, width_le m.width s.width)

pub accepted : (n : ℕ) (p : Panel) (l : Lines) (ws rs : List ℕ) → pulse_check (machine n ws rs) p l ≡ Ok tt → Accepted n p l ws rs
accepted n p l ws rs h =
    let c = clean (machine n ws rs) p l h in
    let s = c.sound in
    let f = fit n p (width_pos n s.width) (width_le n s.width) c.panel in
    record {
      fit = f;
      size = size_same (length ws) (length rs) s.size;
      words = words_fit n 0 ws s.words;
      codes = codes_fit n p l f c.codes;
      address = address_fits (length ws) p l c.address;
    }
