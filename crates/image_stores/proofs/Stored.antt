-- Stores, said of what is still to be stored: one turn of each loop, and parts one after the other.
use Prim.Native.Nat.{ℕ, suc, ◌+◌, ◌*◌, ◌-◌, ◌/◌, ◌%◌, ◌≤◌, ◌<◌}
use mathlib.Core.Path.{◌≡◌, refl, sym, ap, ap₂, ◌∙◌}
use mathlib.Core.List.{List, [], ◌∷◌, ◌++◌, append_assoc, append-nil}
use native.Mathlib.Nat.{suc-add, add-suc, add-zero}
use native.Mathlib.Numerals.{add-one}
use native.Mathlib.Omega.{arith}
use lib.ListN.{length, take, drop, get_or, set}
use lib.Seq.{sets, sets-eq, drop-cons, drop-drop, drop-length}
use Rattle.std.specs.Prelude.{Some, None}
use Rattle.machine.specs.Machine.{Machine}
use Rattle.job_plans.specs.declared.Job.{Job}
use Rattle.job_plans.specs.Fields.{Held}
use Rattle.image_layout.specs.Sizes.{count_size, width_size, word_size, response_size, record_size, constant_size, items_at, past_section, width_at, responses_at}
use Rattle.image_layout.specs.Format.{bytes, number_at, items, section, job_bytes, held_jobs}
use Rattle.image_layout.specs.Reading.{numbers}
use Rattle.image_layout.proofs.Format.{length_bytes, length_items}
use Rattle.image_stores.specs.Stored.{machine_bytes}

pub sets_append : (s t d : List ℕ) (i : ℕ) → sets d i (s ++ t) ≡ sets (sets d i s) (i + length s) t
sets_append [] t d i = rw add-zero
sets_append (a ∷ s) t d i = rw (add-suc, ← suc-add) (sets_append s t (set d i a) (suc i))

-- ---- the bytes of a number
pub put_none : (d : List ℕ) (at k x : ℕ) → sets d at (bytes (k - k) x) ≡ d
unfolding bytes
put_none d at k x = let e : k - k ≡ 0 = omega arith in rw e

pub put_turn : (d : List ℕ) (at k x j : ℕ) → j < k
    → sets d (at + j) (bytes (k - j) x) ≡ sets (set d (at + j) (x % 256)) (at + (j + 1)) (bytes (k - (j + 1)) (x / 256))
unfolding bytes
put_turn d at k x j h =
    let e : k - j ≡ suc (k - (j + 1)) = omega arith in
    let f : at + (j + 1) ≡ suc (at + j) = omega arith in
    rw (e, f)

-- ---- bytes as they are
pub list_turn : (d : List ℕ) (at : ℕ) (s : List ℕ) (i : ℕ) → i < length s
    → sets d (at + i) (drop i s) ≡ sets (set d (at + i) (get_or s i 0)) (at + (i + 1)) (drop (i + 1) s)
list_turn d at s i h =
    let f : at + (i + 1) ≡ suc (at + i) = omega arith in
    rw (drop-cons s i 0, f, add-one)

pub list_none : (d : List ℕ) (at : ℕ) (s : List ℕ) → sets d at (drop (length s) s) ≡ d
list_none d at s = rw drop-length

-- so are numbers of one byte each
pub as_they_are : (s : List ℕ) → ((i : ℕ) → get_or s i 0 < 256) → s ≡ items (bytes response_size) s
unfolding items bytes
as_they_are [] h = refl
as_they_are (x ∷ s) h =
    let e : x % 256 ≡ x = omega (arith, h 0) in
    rw e (ap (λ (r : List ℕ). x ∷ r) (as_they_are s (λ i. h (suc i))))

-- ---- numbers of k bytes each
pub items_turn : (k : ℕ) (d : List ℕ) (at : ℕ) (s : List ℕ) (i : ℕ) → i < length s
    → sets d at (items (bytes k) (drop i s)) ≡ sets (sets d at (bytes k (get_or s i 0))) (at + k) (items (bytes k) (drop (i + 1) s))
unfolding items
items_turn k d at s i h =
    rw (drop-cons s i 0, add-one) (sets_append (bytes k (get_or s i 0)) (items (bytes k) (drop (suc i) s)) d at ∙ rw length_bytes)

pub items_none : (k : ℕ) (d : List ℕ) (at : ℕ) (s : List ℕ) → sets d at (items (bytes k) (drop (length s) s)) ≡ d
unfolding items
items_none k d at s = rw drop-length

-- ---- numbers of k bytes each, read into a destination
pub fill_none : (d b : List ℕ) (k i n : ℕ) → sets d i (numbers k (n - n) b) ≡ d
unfolding numbers
fill_none d b k i n = let e : n - n ≡ 0 = omega arith in rw e

pub fill_turn : (k : ℕ) (d b : List ℕ) (at i n : ℕ) → i < n
    → sets d i (numbers k (n - i) (drop (at + k * i) b)) ≡ sets (set d i (number_at k (at + k * i) b)) (i + 1) (numbers k (n - (i + 1)) (drop (at + k * (i + 1)) b))
unfolding numbers
fill_turn k d b at i n h =
    let e : n - i ≡ suc (n - (i + 1)) = omega arith in
    let f : at + k * i + k ≡ at + k * (i + 1) = omega arith in
    rw (e, drop-drop, f, add-one)

-- ---- the parts one after the other

-- two parts, the second where the first ends
stored : (s t d d1 d2 : List ℕ) (at p : ℕ) → p ≡ at + length s → d1 ≡ sets d at s → d2 ≡ sets d1 p t → d2 ≡ sets d at (s ++ t)
stored s t d d1 d2 at p e f g = g ∙ ap₂ (λ (x : List ℕ) (q : ℕ). sets x q t) f e ∙ sym (sets_append s t d at)

-- so where the first is k bytes of a number
stored_number : (k x : ℕ) (t d d1 d2 : List ℕ) (at p : ℕ) → (p ≡ at + k) × (d1 ≡ sets d at (bytes k x)) → d2 ≡ sets d1 p t → d2 ≡ sets d at (bytes k x ++ t)
stored_number k x t d d1 d2 at p e g = stored (bytes k x) t d d1 d2 at p (e.0 ∙ ap (λ (q : ℕ). at + q) (sym (length_bytes k x))) e.1 g

-- the job's bytes between care and c
abbrev pub small : Job → List ℕ
small o =
    o.x.0 ∷ o.y.0 ∷ o.a.low.0 ∷ o.a.width ∷ o.b.low.0 ∷ o.b.width ∷ o.p.low.0 ∷ o.p.width
    ∷ o.phase ∷ o.i ∷ o.j ∷ []

pub wrote_job : (o : Job) (d d0 d1 d2 d3 d4 : List ℕ) (at p0 p1 p2 p3 r : ℕ)
    → (p0 ≡ at + 1) × (d0 ≡ sets d at (o.kind ∷ []))
    → (p1 ≡ p0 + response_size) × (d1 ≡ sets d0 p0 (bytes response_size o.key))
    → (p2 ≡ p1 + response_size) × (d2 ≡ sets d1 p1 (bytes response_size o.care))
    → (p3 ≡ p2 + length (small o)) × (d3 ≡ sets d2 p2 (small o))
    → (r ≡ p3 + constant_size) × (d4 ≡ sets d3 p3 (bytes constant_size o.c))
    → (r ≡ at + record_size) × (d4 ≡ sets d at (job_bytes o))
wrote_job o d d0 d1 d2 d3 d4 at p0 p1 p2 p3 r e0 e1 e2 e3 e4 =
    let t3 = small o ++ bytes constant_size o.c in
    let t2 = bytes response_size o.care ++ t3 in
    let t1 = bytes response_size o.key ++ t2 in
    let f3 : d4 ≡ sets d2 p2 t3 = stored (small o) (bytes constant_size o.c) d2 d3 d4 p2 p3 e3.0 e3.1 e4.1 in
    let f2 : d4 ≡ sets d1 p1 t2 = stored_number response_size o.care t3 d1 d2 d4 p1 p2 e2 f3 in
    let f1 : d4 ≡ sets d0 p0 t1 = stored_number response_size o.key t2 d0 d1 d4 p0 p1 e1 f2 in
    (omega arith, stored (o.kind ∷ []) t1 d d0 d4 at p0 e0.0 e0.1 f1)

pub wrote_machine : (m : Machine) (d d0 d1 d2 d3 d4 d5 : List ℕ) (p0 p1 p2 p3 p4 p5 : ℕ)
    → (p0 ≡ items_at width_at) × (d0 ≡ sets d width_at (bytes count_size 1))
    → (p1 ≡ p0 + width_size) × (d1 ≡ sets d0 p0 (bytes width_size m.width))
    → (p2 ≡ p1 + count_size) × (d2 ≡ sets d1 p1 (bytes count_size (length m.words)))
    → (p3 ≡ p2 + word_size * length m.words) × (d3 ≡ sets d2 p2 (items (bytes word_size) m.words))
    → (p4 ≡ p3 + count_size) × (d4 ≡ sets d3 p3 (bytes count_size (length m.responses)))
    → (p5 ≡ p4 + response_size * length m.responses) × (d5 ≡ sets d4 p4 (items (bytes response_size) m.responses))
    → (p5 ≡ past_section (responses_at (length m.words)) response_size (length m.responses)) × (d5 ≡ sets d 0 (machine_bytes m))
unfolding machine_bytes items
wrote_machine m d d0 d1 d2 d3 d4 d5 p0 p1 p2 p3 p4 p5 e0 e1 e2 e3 e4 e5 = (
  omega arith,
  simp (append-nil, append_assoc)
      (stored_number count_size 1 _ d d0 d5 width_at p0 e0
      (stored_number width_size m.width _ d0 d1 d5 p0 p1 e1
      (stored_number count_size (length m.words) _ d1 d2 d5 p1 p2 e2
      (stored (items (bytes word_size) m.words) _ d2 d3 d5 p2 p3 (e3.0 ∙ ap (λ (q : ℕ). p2 + q) (sym (length_items word_size m.words))) e3.1
      (stored_number count_size (length m.responses) _ d3 d4 d5 p3 p4 e4 e5.1))))),
)

-- the job's section, by what is held
pub stored_none : (h : Held) (d d1 : List ℕ) (at r : ℕ) → h ≡ None → (r ≡ items_at at) × (d1 ≡ sets d at (bytes count_size 0))
    → (r ≡ past_section at record_size (length (held_jobs h))) × (d1 ≡ sets d at (section job_bytes (held_jobs h)))
unfolding items
stored_none h d d1 at r e f = rw e (omega (arith, f.0), rw append-nil f.1)

pub stored_one : (h : Held) (o : Job) (d d1 d2 : List ℕ) (at p r : ℕ) → h ≡ Some o → (p ≡ items_at at) × (d1 ≡ sets d at (bytes count_size 1))
    → (r ≡ p + record_size) × (d2 ≡ sets d1 p (job_bytes o))
    → (r ≡ past_section at record_size (length (held_jobs h))) × (d2 ≡ sets d at (section job_bytes (held_jobs h)))
unfolding items
stored_one h o d d1 d2 at p r e f g = rw e (omega arith, rw append-nil (stored_number count_size 1 (job_bytes o) d d1 d2 at p f g.1))
