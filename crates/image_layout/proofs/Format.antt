-- Bytes and the numbers that they stand for; a job's record.
use Prim.Native.Nat.{ℕ, zero, suc, ◌+◌, ◌*◌, ◌-◌, ◌/◌, ◌%◌, ◌^◌, ◌≤◌, ◌<◌}
use mathlib.Core.Path.{◌≡◌, refl, sym, ap, ◌∙◌}
use mathlib.Core.List.{List, [], ◌∷◌, ◌++◌, append-nil}
use native.Mathlib.Nat.{pow-suc}
use native.Mathlib.Omega.{arith}
use lib.ListN.{length, take, drop, get_or, length-append, length-drop, take-append-drop}
use lib.Pow.{pow_mono, pow-add}
use lib.Seq.{drop-cons, drop-drop, drop-length, take-take, length-take-le}
use Rattle.std.specs.Prelude.{Some, None}
use Rattle.machine.specs.declared.ResponseBit.{ResponseBit}
use Rattle.job_plans.specs.declared.Job.{Job}
use Rattle.job_plans.specs.declared.Span.{Span}
use Rattle.job_plans.specs.Fields.{Held}
use Rattle.image_layout.specs.Sizes.{count_size, response_size, record_size, most_jobs, bits_at, constant_size}
use Rattle.image_layout.specs.Format.{bytes, value, number_at, items, section, byte, bit_at, span_at, job_of, job_bytes, held_jobs, held_of, Under, AreBytes, JobFits}

-- ---- lists of bytes

pub under_take : (lim k : ℕ) (s : List ℕ) → Under lim s → Under lim (take k s)
under_take lim zero s u = tt
under_take lim (suc k) [] u = tt
under_take lim (suc k) (x ∷ s) u = (u.0, under_take lim k s u.1)

pub under_drop : (lim k : ℕ) (s : List ℕ) → Under lim s → Under lim (drop k s)
under_drop lim zero s u = u
under_drop lim (suc k) [] u = tt
under_drop lim (suc k) (x ∷ s) u = under_drop lim k s u.1

pub under_more : (m n : ℕ) (s : List ℕ) → m ≤ n → Under m s → Under n s
under_more m n [] h u = tt
under_more m n (x ∷ s) h u = (omega (arith, u.0), under_more m n s h u.1)

pub drop_take : (k m : ℕ) (s : List ℕ) → drop k (take (k + m) s) ≡ take m (drop k s)
drop_take zero m s = let e : zero + m ≡ m = omega arith in rw e
drop_take (suc k) zero [] = let e : suc k + zero ≡ suc (k + zero) = omega arith in rw e
drop_take (suc k) (suc m) [] = let e : suc k + suc m ≡ suc (k + suc m) = omega arith in rw e
drop_take (suc k) m (x ∷ xs) = let e : suc k + m ≡ suc (k + m) = omega arith in rw e (drop_take k m xs)

-- bytes that lie before a cut
pub before_cut : (k p n : ℕ) (b : List ℕ) → p + n ≤ k → take n (drop p (take k b)) ≡ take n (drop p b)
before_cut k p n b h =
    let e : p + (k - p) ≡ k = omega arith in
    ap (λ (q : ℕ). take n (drop p (take q b))) (sym e) ∙ ap (take n) (drop_take p (k - p) b) ∙ take-take n (k - p) (drop p b) (omega arith)

-- ---- there and back

pub length_bytes : (k x : ℕ) → length (bytes k x) ≡ k
unfolding bytes
length_bytes zero x = refl
length_bytes (suc k) x = ap suc (length_bytes k _)

pub value_bytes : (k x : ℕ) → x < 256 ^ k → value (bytes k x) ≡ x
unfolding value bytes
value_bytes zero x h = omega arith
value_bytes (suc k) x h = let r : value (bytes k (x / 256)) ≡ x / 256 = value_bytes k (x / 256) (omega arith) in rw r (omega arith)

pub bytes_value : (s : List ℕ) → AreBytes s → bytes (length s) (value s) ≡ s
unfolding value bytes
bytes_value [] h = refl
bytes_value (x ∷ s) h =
    let a : (x + 256 * value s) % 256 ≡ x = omega arith in
    let b : (x + 256 * value s) / 256 ≡ value s = omega arith in
    rw (a, b, bytes_value s h.1)

value_lt : (s : List ℕ) → AreBytes s → value s < 256 ^ length s
unfolding value
value_lt [] u = omega arith
value_lt (x ∷ s) u = rw (pow-suc 256 (length s)) (omega (arith, u.0, value_lt s u.1))

-- of bytes, k from a place on: how large their number is, and that they are its bytes
module _ (b : List ℕ) (u : AreBytes b) (k at : ℕ) (h : at + k ≤ length b) where
  length_part : length (take k (drop at b)) ≡ k
  length_part = length-take-le k (drop at b) (omega (arith, length-drop at b))

  part_bytes : AreBytes (take k (drop at b))
  part_bytes = under_take 256 k (drop at b) (under_drop 256 at b u)

  pub number_lt : number_at k at b < 256 ^ k
  number_lt = rw length_part at (value_lt (take k (drop at b)) part_bytes)

  pub number_cut : drop at b ≡ bytes k (number_at k at b) ++ drop (at + k) b
  number_cut =
      let e : bytes k (number_at k at b) ≡ take k (drop at b) = rw length_part at (bytes_value (take k (drop at b)) part_bytes) in
      rw (e, ← (drop-drop k at b)) (sym (take-append-drop k (drop at b)))

-- ---- items of k bytes

pub length_items : (k : ℕ) (xs : List ℕ) → length (items (bytes k) xs) ≡ k * length xs
unfolding items
length_items k [] = omega arith
length_items k (x ∷ xs) = omega (arith, length-append (bytes k x) (items (bytes k) xs), length_bytes k x, length_items k xs)

-- ---- a number read from its highest byte down

pub value_turn : (b : List ℕ) (at k i : ℕ) → i < k → at + k ≤ length b
    → value (take (k - i) (drop (at + i) b)) ≡ get_or b (at + i) 0 + 256 * value (take (k - (i + 1)) (drop (at + (i + 1)) b))
unfolding value
value_turn b at k i h l =
    let e : k - i ≡ suc (k - (i + 1)) = omega arith in
    let f : at + (i + 1) ≡ suc (at + i) = omega arith in
    let g : at + i < length b = omega arith in
    rw (e, f, drop-cons b (at + i) 0 g)

pub value_down : (b : List ℕ) (at k i : ℕ) → 0 < i → i ≤ k → at + k ≤ length b
    → value (take (k - (i - 1)) (drop (at + (i - 1)) b)) ≡ value (take (k - i) (drop (at + i) b)) * 256 + get_or b (at + (i - 1)) 0
value_down b at k i h g l =
    let e : i - 1 + 1 ≡ i = omega arith in
    let t = rw e at (value_turn b at k (i - 1) (omega arith) l) in
    omega (arith, t)

pub value_none : (k : ℕ) (s : List ℕ) → 0 ≡ value (take (k - k) s)
unfolding value
value_none k s = let e : k - k ≡ 0 = omega arith in rw e

pub pow_down : (k i : ℕ) → 0 < i → i ≤ k → 2 ^ (8 * (k - (i - 1))) ≡ 256 * 2 ^ (8 * (k - i))
pow_down k i h g = let e : 8 * (k - (i - 1)) ≡ 8 + 8 * (k - i) = omega arith in rw e (pow-add 2 8 (8 * (k - i)))

pub pow_room : (k i : ℕ) → 0 < i → k ≤ 8 → 2 ^ (8 * (k - i)) ≤ 2 ^ 56
pow_room k i h g = pow_mono {i = 8 * (k - i)} {j = 56} (omega arith)

-- ---- the job's record

pub length_job : (o : Job) → length (job_bytes o) ≡ record_size
length_job o = simp (length-append, length_bytes) (omega (arith, length_bytes constant_size o.c))

pub length_jobs : (os : List Job) → length (items job_bytes os) ≡ record_size * length os
unfolding items
length_jobs [] = omega arith
length_jobs (o ∷ os) = omega (arith, length-append (job_bytes o) (items job_bytes os), length_job o, length_jobs os)

-- a job from its parts
pub made : (s : List ℕ) (kind key care : ℕ) (x y : ResponseBit) (a b p : Span) (phase i j c : ℕ)
    → kind ≡ byte s 0 → key ≡ number_at response_size 1 s → care ≡ number_at response_size (1 + response_size) s → x ≡ bit_at s bits_at → y ≡ bit_at s (bits_at + 1)
    → a ≡ span_at s (bits_at + 2) → b ≡ span_at s (bits_at + 4) → p ≡ span_at s (bits_at + 6)
    → phase ≡ byte s (bits_at + 8) → i ≡ byte s (bits_at + 9) → j ≡ byte s (bits_at + 10) → c ≡ number_at constant_size (bits_at + 11) s
    → record { kind = kind; key = key; care = care; x = x; y = y; a = a; b = b; p = p; phase = phase; i = i; j = j; c = c } ≡ job_of s
made s kind key care x y a b p phase i j c e0 e1 e2 e3 e4 e5 e6 e7 e8 e9 e10 e11 = rw (e0, e1, e2, e3, e4, e5, e6, e7, e8, e9, e10, e11)

pub job_back : (o : Job) → JobFits o → job_of (job_bytes o) ≡ o
unfolding bytes
job_back o h =
    sym (made (job_bytes o) _ _ _ _ _ _ _ _ _ _ _ _ refl (sym (value_bytes response_size o.key h.0)) (sym (value_bytes response_size o.care h.1))
    refl refl refl refl refl refl refl refl (sym (value_bytes constant_size o.c h.2)))

module _ (s : List ℕ) (h : length s ≡ record_size) (u : AreBytes s) where
  one : (t : List ℕ) (i : ℕ) → i < record_size → t ≡ drop (suc i) s → byte s i ∷ t ≡ drop i s
  one t i l e = ap (λ (x : List ℕ). byte s i ∷ x) e ∙ sym (drop-cons s i 0 (omega arith))

  some : (t : List ℕ) (k at : ℕ) → at + k ≤ record_size → t ≡ drop (at + k) s → bytes k (number_at k at s) ++ t ≡ drop at s
  some t k at l e = ap (λ (x : List ℕ). bytes k (number_at k at s) ++ x) e ∙ sym (number_cut s u k at (omega arith))

  last : bytes constant_size (number_at constant_size (bits_at + 11) s) ≡ drop (bits_at + 11) s
  last =
      let z : drop record_size s ≡ [] = ap (λ (q : ℕ). drop q s) (sym h) ∙ drop-length s in
      sym (append-nil _) ∙ some [] constant_size (bits_at + 11) (omega arith) (sym z)

  pub job_law : job_bytes (job_of s) ≡ s
  job_law =
      one _ 0 (omega arith) (some _ response_size 1 (omega arith) (some _ response_size (1 + response_size) (omega arith)
      (one _ bits_at (omega arith) (one _ (bits_at + 1) (omega arith) (one _ (bits_at + 2) (omega arith) (one _ (bits_at + 3) (omega arith)
      (one _ (bits_at + 4) (omega arith) (one _ (bits_at + 5) (omega arith) (one _ (bits_at + 6) (omega arith) (one _ (bits_at + 7) (omega arith)
      (one _ (bits_at + 8) (omega arith) (one _ (bits_at + 9) (omega arith) (one _ (bits_at + 10) (omega arith) last)))))))))))))

  -- what a record of bytes says is of a job's types
  pub job_fits : JobFits (job_of s)
  job_fits =
      (number_lt s u response_size 1 (omega arith), number_lt s u response_size (1 + response_size) (omega arith), number_lt s u constant_size (bits_at + 11) (omega arith))

-- a number of the record that begins at this place
pub in_record : (b : List ℕ) (at p k : ℕ) → p + k ≤ record_size → number_at k (at + p) b ≡ number_at k p (take record_size (drop at b))
in_record b at p k h = ap value (ap (take k) (sym (drop-drop p at b)) ∙ sym (before_cut record_size p k (drop at b) h))

-- ---- the held jobs

pub held_jobs_lem : (h : Held) → held_of (held_jobs h) ≡ h
held_jobs_lem None = refl
held_jobs_lem (Some o) = refl

pub jobs_held : (os : List Job) → length os ≤ most_jobs → held_jobs (held_of os) ≡ os
jobs_held [] h = refl
jobs_held (o ∷ []) h = refl
jobs_held (o ∷ q ∷ os) h = absurd (omega arith)

pub few_jobs : (h : Held) → length (held_jobs h) ≤ most_jobs
few_jobs None = omega arith
few_jobs (Some o) = omega arith

-- ---- how long a section is

pub length_job_section : (os : List Job) → length (section job_bytes os) ≡ count_size + record_size * length os
length_job_section os = omega (arith, length-append (bytes count_size (length os)) (items job_bytes os), length_bytes count_size (length os), length_jobs os)
