-- Reading as a whole: what its checks show, and what sound bytes leave.
use Prim.Native.Nat.{ℕ, zero, suc, ◌+◌, ◌*◌, ◌-◌, ◌≤◌}
use mathlib.Core.Path.{◌≡◌, refl, sym, ap, ◌∙◌}
use mathlib.Core.Bool.{◌||◌}
use mathlib.Core.List.{List, [], ◌∷◌, ◌++◌, append-nil}
use native.Mathlib.Omega.{arith}
use lib.Dec.{ltb}
use lib.ListN.{length, take, drop, length-drop}
use lib.Seq.{sets, sets-eq, drop-length, length-take-le}
use borrow.Author.Tests.{ltb-false}
use Rattle.std.specs.Prelude.{Result, Ok, Err}
use Rattle.machine.specs.declared.Refusal.{Refusal}
use Rattle.machine.specs.declared.Refusal.TheVariants.{NoRoom}
use Rattle.machine.proofs.Refusals.{else_passed, not_refused, or_left, or_right}
use Rattle.job_plans.specs.Fields.{Held}
use Rattle.image_layout.specs.Sizes.{count_size, word_size, response_size, record_size, items_at, past_section, words_at, responses_at, jobs_at}
use Rattle.image_layout.specs.Format.{value, number_at, held_of}
use Rattle.image_layout.specs.Reading.{scanned, state_in, width_in, words_in, records, jobs_of, numbers, Scanned}
use Rattle.image_layout.proofs.Reading.{length_numbers}
use Rattle.image_parts.proofs.Parts.{Long, long}
use Rattle.image.specs.Calls.{refuse_bytes, read_check, read_of, words_read, responses_read}
use Rattle.image.specs.declared.Loaded.{Loaded}

-- ---- numbers written over the first n of a destination

put_first : (d xs : List ℕ) (n : ℕ) → length xs ≡ n → n ≤ length d → xs ++ drop n d ≡ sets d 0 xs
put_first d xs n e h =
    let k : 0 + length xs ≡ n = omega (arith, e) in
    let m : 0 + length xs ≤ length d = omega (arith, k) in
    sym (rw k at (sets-eq xs d 0 m))

pub put_all : (d xs : List ℕ) → length xs ≡ length d → xs ≡ sets d 0 xs
put_all d xs e =
    let f : xs ++ drop (length d) d ≡ xs = rw (drop-length, append-nil) in
    sym f ∙ put_first d xs (length d) e (omega arith)

pub filled : (k : ℕ) (d b xs : List ℕ) (n : ℕ) → n ≤ length d → xs ≡ numbers k (length (take n d)) b → xs ++ drop n d ≡ sets d 0 (numbers k n b)
filled k d b xs n h e = rw (e, length-take-le n d h) (put_first d (numbers k n b) n (length_numbers k n b) h)

-- responses, each of one byte, are copied as they are

numbers_are : (n : ℕ) (b : List ℕ) → n ≤ length b → take n b ≡ numbers response_size n b
unfolding numbers value
numbers_are zero b h = refl
numbers_are (suc n) [] h = absurd (omega arith)
numbers_are (suc n) (x ∷ b) h =
    let e : x ≡ x + 256 * 0 = omega arith in
    rw (← e) (ap (λ (r : List ℕ). x ∷ r) (numbers_are n b (omega arith)))

pub copied : (d b : List ℕ) (at n : ℕ) → at + n ≤ length b → sets d 0 (take (at + n - at) (drop at b)) ≡ sets d 0 (numbers response_size n (drop at b))
copied d b at n h =
    let k : at + n - at ≡ n = omega arith in
    rw k (ap (sets d 0) (numbers_are n (drop at b) (omega (arith, length-drop at b))))

pub copied_length : (d b : List ℕ) (at n : ℕ) → n ≤ length d → at + n ≤ length b → 0 + length (take (at + n - at) (drop at b)) ≤ length d
copied_length d b at n h g =
    let k : at + n - at ≡ n = omega arith in
    rw (k, length-take-le n (drop at b) (omega (arith, length-drop at b))) (omega arith)

-- ---- the call

pub record Fits (b : List ℕ) (w r : ℕ) : Type 0 where
  pub sound : scanned b ≡ Ok tt
  pub long : Long b
  pub words : words_in b ≤ w
  pub responses : words_in b ≤ r

pub unbroken : (k : Scanned) → refuse_bytes k ≡ Ok tt → k ≡ Ok tt
unbroken (Ok tt) h = refl
unbroken (Err at) h = cc

pub fits : (b : List ℕ) (w r : ℕ) → Ok tt ≡ read_check b w r → Fits b w r
unfolding read_check
fits b w r e =
    let a = else_passed (refuse_bytes (scanned b)) _ (sym e) in
    let s = unbroken (scanned b) a.0 in
    let t = not_refused NoRoom (ltb w (words_in b) || ltb r (words_in b)) a.1 in
    record {
      sound = s;
      long = long b s;
      words = ltb-false w (words_in b) (or_left (ltb w (words_in b)) (ltb r (words_in b)) t);
      responses = ltb-false r (words_in b) (or_right (ltb w (words_in b)) (ltb r (words_in b)) t);
    }

-- the same, of the count that was read
pub record Room (b : List ℕ) (n w r : ℕ) : Type 0 where
  pub few : n ≤ 1024
  pub room : past_section (jobs_at n) record_size (number_at count_size (jobs_at n) b) ≤ length b
  pub words : n ≤ w
  pub responses : n ≤ r

pub room : (b : List ℕ) (n w r : ℕ) → Ok tt ≡ read_check b w r → n ≡ words_in b → Room b n w r
room b n w r e g =
    let f = fits b w r e in
    record { few = rw g f.long.few; room = rw g f.long.room; words = rw g f.words; responses = rw g f.responses }

-- so by each clause
pub words_few : (b : List ℕ) (w r : ℕ) → read_check b w r ≡ Ok tt → words_in b ≤ 1024
words_few b w r e = (fits b w r (sym e)).long.few

pub image_long : (b : List ℕ) (w r : ℕ) → read_check b w r ≡ Ok tt → past_section (jobs_at (words_in b)) record_size (number_at count_size (jobs_at (words_in b)) b) ≤ length b
image_long b w r e = (fits b w r (sym e)).long.room

pub words_fit : (b : List ℕ) (w r : ℕ) → read_check b w r ≡ Ok tt → words_in b ≤ w
words_fit b w r e = (fits b w r (sym e)).words

pub responses_fit : (b : List ℕ) (w r : ℕ) → read_check b w r ≡ Ok tt → words_in b ≤ r
responses_fit b w r e = (fits b w r (sym e)).responses

-- what the check cites where reading is accepted
pub ruleset accepted = (words_few, image_long, words_fit, responses_fit, length-take-le, copied_length)

pub read_refused : (b ws rs : List ℕ) (why : Refusal) → Err why ≡ read_check b (length ws) (length rs)
    → (Err why ≡ read_of b (length ws) (length rs)) × ((ws ≡ words_read b ws rs) × (rs ≡ responses_read b ws rs))
unfolding read_of words_read responses_read
read_refused b ws rs why e = (rw (← e), (rw (← e), rw (← e)))

pub read_done : (b ws rs ws' rs' : List ℕ) (w n : ℕ) (o : Held) → Ok tt ≡ read_check b (length ws) (length rs)
    → w ≡ width_in b → n ≡ words_in b
    → o ≡ held_of (records (number_at count_size (jobs_at n) b) (drop (items_at (jobs_at n)) b))
    → ws' ≡ sets ws 0 (numbers word_size n (drop (items_at words_at) b)) → rs' ≡ sets rs 0 (numbers response_size n (drop (items_at (responses_at n)) b))
    → (Ok (record { width = w; words = n; held = o }) ≡ read_of b (length ws) (length rs)) × ((ws' ≡ words_read b ws rs) × (rs' ≡ responses_read b ws rs))
unfolding read_of words_read responses_read state_in
read_done b ws rs ws' rs' w n o e f g i p q =
    let ns = numbers word_size (words_in b) (drop (items_at words_at) b) in
    let l : n ≡ length ns = g ∙ sym (length_numbers word_size (words_in b) (drop (items_at words_at) b)) in
    let j : o ≡ held_of (jobs_of b) = rw g at i in
    let a : ◌≡◌ {A = Result Loaded Refusal} (Ok (record { width = w; words = n; held = o })) (Ok (record { width = width_in b; words = length ns; held = held_of (jobs_of b) })) = rw (f, ← l, j) in
    let y : ws' ≡ sets ws 0 ns = rw g at p in
    let z : rs' ≡ sets rs 0 (numbers response_size (words_in b) (drop (items_at (responses_at (words_in b))) b)) = rw g at q in
    (rw (← e) a, (rw (← e) y, rw (← e) z))
