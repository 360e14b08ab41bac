-- Document 01, 'The image': the bytes of a machine and its held job.
use Rattle.std.specs.Prelude.{ℕ, zero, suc, ◌+◌, ◌*◌, ◌/◌, ◌%◌, ◌^◌, ◌<◌, List, [], ◌∷◌, ◌++◌, length, take, drop, get_or, Some, None}
use Rattle.machine.specs.declared.ResponseBit.{ResponseBit}
use Rattle.machine.specs.Machine.{response_bits}
use Rattle.job_plans.specs.declared.Span.{Span}
use Rattle.job_plans.specs.declared.Job.{Job}
use Rattle.job_plans.specs.Fields.{job, Held}
use Rattle.jobs.specs.Runs.{State}
use Rattle.image_layout.specs.Sizes.{count_size, width_size, word_size, response_size, bits_at, constant_size}

-- "low byte first": k bytes of a number, and the number that bytes stand for
unfoldable pub bytes : ℕ → ℕ → List ℕ
bytes zero x = []
bytes (suc k) x = x % 256 ∷ bytes k (x / 256)

unfoldable pub value : List ℕ → ℕ
value [] = 0
value (b ∷ bs) = b + 256 * value bs

-- the number that k bytes from this place on stand for
abbrev pub number_at : ℕ → ℕ → List ℕ → ℕ
number_at k at bs = value (take k (drop at bs))

-- "kind (1 to 4 as in the table), key, care, X, Y, lowest bit and width of A, B, P, phase, i, j, then c in 8 bytes, low first"
abbrev pub job_bytes : Job → List ℕ
job_bytes o = o.kind ∷ (bytes response_size o.key ++ (bytes response_size o.care ++ (o.x.0 ∷ o.y.0
    ∷ o.a.low.0 ∷ o.a.width ∷ o.b.low.0 ∷ o.b.width ∷ o.p.low.0 ∷ o.p.width ∷ o.phase ∷ o.i ∷ o.j ∷ bytes constant_size o.c)))

abbrev pub byte : List ℕ → ℕ → ℕ
byte bs k = get_or bs k 0

abbrev pub bit_at : List ℕ → ℕ → ResponseBit
bit_at bs k = record { 0 = byte bs k }

abbrev pub span_at : List ℕ → ℕ → Span
span_at bs k = record { low = record { 0 = byte bs k }; width = byte bs (k + 1) }

-- the job that a record's bytes say, in the same order: kind, key and care, then from `bits_at` on
abbrev pub job_of : List ℕ → Job
job_of bs = job (byte bs 0) (number_at response_size 1 bs) (number_at response_size (1 + response_size) bs)
    (bit_at bs bits_at) (bit_at bs (bits_at + 1)) (span_at bs (bits_at + 2)) (span_at bs (bits_at + 4)) (span_at bs (bits_at + 6))
    (byte bs (bits_at + 8)) (byte bs (bits_at + 9)) (byte bs (bits_at + 10)) (number_at constant_size (bits_at + 11) bs)

-- "each after its count (4 bytes, low byte first)"
unfoldable pub items : {A : Type 0} → (A → List ℕ) → List A → List ℕ
items item [] = []
items item (x ∷ xs) = item x ++ items item xs

abbrev pub section : {A : Type 0} → (A → List ℕ) → List A → List ℕ
section item xs = bytes count_size (length xs) ++ items item xs

-- the held jobs, and what is held where these are: "job, count 0 or 1"
abbrev pub held_jobs : Held → List Job
held_jobs None = []
held_jobs (Some o) = o ∷ []

abbrev pub held_of : List Job → Held
held_of [] = None
held_of (o ∷ os) = Some o

-- "Four sections in this order": "width, count 1, one byte N; words, count n, 8 bytes each, low byte first; responses, count n, one byte each; job"
-- "The panel isn't stored; the machine an image stands for is width, words, responses and job."
unfoldable pub image_of : State → List ℕ
image_of s = section (bytes width_size) (s.machine.width ∷ [])
    ++ (section (bytes word_size) s.machine.words
    ++ (section (bytes response_size) s.machine.responses
    ++ section job_bytes (held_jobs s.held)))

-- ---- words of the theorems

-- each is below the limit
abbrev pub Under : ℕ → List ℕ → Type 0
Under lim [] = Unit {0}
Under lim (x ∷ xs) = (x < lim) × Under lim xs

-- each is a byte
abbrev pub AreBytes : List ℕ → Type 0
AreBytes bs = Under 256 bs

-- each is a response
abbrev pub AreResponses : List ℕ → Type 0
AreResponses rs = Under (2 ^ response_bits) rs

-- a job's numbers as their types have them: key and care are responses, c is a number of 64 bits
abbrev pub JobFits : Job → Type 0
JobFits o = (o.key < 2 ^ response_bits) × (o.care < 2 ^ response_bits) × (o.c < 2 ^ 64)

abbrev pub JobsFit : List Job → Type 0
JobsFit [] = Unit {0}
JobsFit (o ∷ os) = JobFits o × JobsFit os
