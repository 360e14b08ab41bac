-- Document 01, 'The image': how many bytes each part has, and where each section stands.
use Rattle.std.specs.Prelude.{ℕ, ◌+◌, ◌*◌}

-- "each after its count (4 bytes, low byte first)"
abbrev pub count_size : ℕ
count_size = 4

-- "one byte N"
abbrev pub width_size : ℕ
width_size = 1

-- "8 bytes each"
abbrev pub word_size : ℕ
word_size = 8

-- "one byte each"; in the job's record key and care have as many
abbrev pub response_size : ℕ
response_size = 1

-- "22 bytes"
abbrev pub record_size : ℕ
record_size = 22

-- "job, count 0 or 1"
abbrev pub most_jobs : ℕ
most_jobs = 1

-- ---- where each section stands: its count first

-- the items of the section at this place
abbrev pub items_at : ℕ → ℕ
items_at at = at + count_size

-- after a section of k items of this size
abbrev pub past_section : ℕ → ℕ → ℕ → ℕ
past_section at size k = items_at at + size * k

abbrev pub width_at : ℕ
width_at = 0

abbrev pub words_at : ℕ
words_at = past_section width_at width_size 1

-- by the number of words
abbrev pub responses_at : ℕ → ℕ
responses_at n = past_section words_at word_size n

abbrev pub jobs_at : ℕ → ℕ
jobs_at n = past_section (responses_at n) response_size n

-- the whole image, by the number of words and of jobs
abbrev pub image_size : ℕ → ℕ → ℕ
image_size n k = past_section (jobs_at n) record_size k

-- ---- where the parts of a job's record stand in it

-- after kind (one byte), key and care: X, Y, lowest bit and width of A, B, P, phase, i, j, one byte each, then c
abbrev pub bits_at : ℕ
bits_at = 1 + response_size + response_size

-- "c in 8 bytes"
abbrev pub constant_size : ℕ
constant_size = 8
