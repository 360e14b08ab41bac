-- Demand 2: "Every pulse does to every word what 01 lays down. Search marks exactly the matching words. The cell-by-cell machine and the word-wide
-- machine agree. An image read back is the machine stored; each machine has one image."
use Prim.Native.Nat.{ℕ, ◌≤◌, ◌<◌}
use mathlib.Core.Path.{◌≡◌, sym, ◌∙◌}
use mathlib.Core.Bool.{Bool, true, false}
use native.Mathlib.Omega.{arith}
use lib.Dec.{eqb}
use contract.Lifetimes.{Lfts}
use borrow.Fn.World.{ArgsD, ResD}
use borrow.Fn.Kinds.{ended_of}
use denote.Triple.Clauses.{AtExit}
use mathlib.Core.List.{List, ◌∷◌, ◌++◌}
use lib.ListN.{length, take, get_or}
use Rattle.std.specs.Prelude.{Some, None, Ok, Err}
use Rattle.laws.specs.Bits.{bit, pick, digit}
use Rattle.laws.proofs.Digits.{bit_lt}
use Rattle.laws.proofs.Bits.{digit_at, number_bit}
use Rattle.laws.specs.Lists.{all}
use Rattle.laws.proofs.Lists.{at_zip}
use Rattle.machine.specs.declared.Panel.{Panel}
use Rattle.machine.specs.declared.Lines.{Lines}
use Rattle.machine.specs.Machine.{Machine, response_bits, syllables, selected}
use Rattle.machine.specs.Search.{unmixed, matches, marked}
use Rattle.machine.specs.Cells.{cells_match}
use Rattle.machine.specs.Pulse.{word_after, response_after, pulsed}
use Rattle.machine.specs.declared.WordSlice.{WordSlice}
use Rattle.machine.specs.Resolution.{resolved}
use Rattle.machine.specs.Refusals.{pulse_check, after}
use Rattle.machine.proofs.Refusals as checks
use Rattle.machine.proofs.Cells.{cells_match_lem}
use Rattle.jobs.specs.Runs.{State}
use Rattle.image_layout.specs.Format.{image_of}
use Rattle.image_layout.specs.Reading.{scanned, fields_of, state_in}
use Rattle.image_layout.specs.Format.{AreBytes}
use Rattle.image.proofs.RoundTrip.{round_trip, injective}
use Rattle.image.specs.Calls.{Stored}
use Rattle.hosts.specs.Images.{Stores, Resumes, Typed}
use Rattle.hosts.proofs.Images.{stored_then_resumed}
use Rattle.image.proofs.Unique.{one_image, stored_again}
use Rattle.image.proofs.Cuts.{within, image_cut_off}
use Rattle.image.proofs.TooMany.{too_many}
use Rattle.image_layout.specs.Reading.{start_of}
use Rattle.cells.specs.contracts.pulse as plain
use Rattle.cells.proofs.pulse.Kinds as plain-kinds
use Rattle.cells.proofs.pulse.Reads as plain-reads
use Rattle.wide.proofs.pulse.Reads as wide-reads
use Rattle.resolver.specs.contracts.scan as scan
use Rattle.resolver.proofs.scan.Kinds as scan-kinds
use Rattle.resolver.proofs.scan.Reads as scan-reads
use Rattle.resolver.proofs.network.Reads as network-reads
use Rattle.resolver.proofs.Lowest.{resolved_none, resolved_word}
use Rattle.resolver.specs.Answers.{NonePasses, LowestAt}

marked_digit : (t : ℕ) (b : Bool) {r : ℕ} → r < 2 → pick (eqb t 1) (digit b) r < 2
marked_digit t b h = go (eqb t 1) b h
  where
    go : (u b : Bool) {r : ℕ} → r < 2 → pick u (digit b) r < 2
    go true true h = omega arith
    go true false h = omega arith
    go false b h = h

module _ (m : Machine) (p : Panel) (l : Lines) (accepted : pulse_check m p l ≡ Ok tt) where
  same_length : length m.responses ≡ length m.words
  same_length = checks.size_same _ _ (checks.clean m p l accepted).sound.size

  -- each word after an accepted pulse is what word_after makes of it
  pub word_after_lem : (k : ℕ) → k < length m.words
      → get_or (after m p l).words k 0 ≡ word_after m.width p l k (get_or m.words k 0) (get_or m.responses k 0)
  unfolding after pulsed
  word_after_lem k h = rw accepted (at_zip (word_after m.width p l) m.words m.responses k same_length h)

  -- and each response what response_after makes of it
  pub response_after_lem : (k : ℕ) → k < length m.words
      → get_or (after m p l).responses k 0 ≡ response_after m.width p l k (get_or m.words k 0) (get_or m.responses k 0)
  unfolding after pulsed
  response_after_lem k h = rw accepted (at_zip (response_after m.width p l) m.words m.responses k same_length h)

  -- "Each target bit becomes 1 in matching words and 0 in all others": and no other response bit changes
  pub search_marks : l.search ≡ true → (k i : ℕ) → k < length m.words → i < response_bits
      → bit (get_or (after m p l).responses k 0) i
      ≡ pick (eqb (bit p.target i) 1) (digit (matches m.width p (get_or m.words k 0) (get_or m.responses k 0))) (bit (get_or m.responses k 0) i)
  unfolding response_after marked
  search_marks s k i h g =
      rw (response_after_lem k h, s)
      (number_bit response_bits _ (λ j q. marked_digit (bit p.target j) (matches m.width p (get_or m.words k 0) (get_or m.responses k 0)) (bit_lt (digit_at (get_or m.responses k 0) j))) i g)

-- ---- the cells agree with the numbers, for every width

-- "This is the plain machine; the word-wide one agrees with it": its cells match the words that the numbers match wherever 5 is not given
pub cells_agree : (n : ℕ) (p : Panel) (w r : ℕ) → all (unmixed p) (syllables n p.sdr) ≡ true → cells_match n p w r ≡ matches n p w r
cells_agree = cells_match_lem

-- ---- the two machines agree, and so do the two resolutions: for the same arguments a, an outcome that meets the one's contract and an outcome
-- that meets the other's are equal, in the answer r and in both buffers at exit, s, on refusal as on success

pub machines_agree : (κs : Lfts 2) (a : ArgsD plain.signature κs) (r r' : ResD plain.signature κs) (s s' : AtExit (ended_of 2 plain-kinds.ps plain-kinds.r) κs)
    → plain-reads.Post κs a r s → wide-reads.Post κs a r' s' → (r ≡ r') × (s.0.now ≡ s'.0.now) × (s.1.0.now ≡ s'.1.0.now)
machines_agree κs a r r' s s' h g = (h.0 ∙ sym g.0, h.1.0 ∙ sym g.1.0, h.1.1 ∙ sym g.1.1)

-- "the tree halves the words until one is left, and answers as a scan from word 0 does"
pub resolutions_agree : (κs : Lfts 2) (a : ArgsD scan.signature κs) (r r' : ResD scan.signature κs) (s s' : AtExit (ended_of 2 scan-kinds.ps scan-kinds.r) κs)
    → scan-reads.Post κs a r s → network-reads.Post κs a r' s' → r ≡ r'
resolutions_agree κs a r r' s s' h g = h ∙ sym g

-- "The lowest-numbered selected word, or none exactly if no word is selected"
pub none_exactly : (key care : ℕ) (m : Machine)
    → (resolved key care m ≡ None → NonePasses (selected key care) m.responses)
    × (NonePasses (selected key care) m.responses → resolved key care m ≡ None)
none_exactly = resolved_none

pub lowest_exactly : (key care : ℕ) (m : Machine) (w : WordSlice)
    → (resolved key care m ≡ Some w → LowestAt (selected key care) m.responses w.0)
    × (LowestAt (selected key care) m.responses w.0 → resolved key care m ≡ Some w)
lowest_exactly = resolved_word

-- ---- "An image read back is the machine stored; each machine has one image": `Stored s` says that writing does not turn s down for want of
-- anything but room, `AreBytes` that each element is below 256

-- over the two calls: what was stored (`Stores`), then resumed (`Resumes`), is equal, its held job included, whatever the buffers are
pub stored_comes_back : {output words responses image : List ℕ} {s t : State} → Typed s → Stores output s image → Resumes words responses image t → t ≡ s
stored_comes_back = stored_then_resumed

-- what was written reads back as the same machine, its held job included
pub read_back : (s : State) → Stored s → (scanned (image_of s) ≡ Ok tt) × (state_in (image_of s) ≡ s)
read_back = round_trip

-- bytes that read as machine s are the one image of s
pub one_image_each : (b : List ℕ) (s : State) → AreBytes b → scanned b ≡ Ok tt → state_in b ≡ s → b ≡ image_of s
one_image_each = one_image

-- so two machines with one image are equal
pub one_machine_each : (s t : State) → Stored s → Stored t → image_of s ≡ image_of t → s ≡ t
one_machine_each = injective

-- and what has been read can be stored again
pub storable : (b : List ℕ) → AreBytes b → scanned b ≡ Ok tt → Stored (state_in b)
storable = stored_again

-- every place that 9 gives is below or at the input's length
pub place_within : (b : List ℕ) (at : ℕ) → scanned b ≡ Err at → at ≤ length b
place_within = within

-- a proper prefix of an image is turned down at the field that is cut
pub cut_field : (s : State) (k : ℕ) → Stored s → k < length (image_of s) → scanned (take k (image_of s)) ≡ Err (start_of (fields_of (image_of s)) 0 k)
cut_field = image_cut_off

-- sound bytes and then any more: turned down at the first byte too many
pub byte_too_many : (b : List ℕ) (x : ℕ) (more : List ℕ) → scanned b ≡ Ok tt → scanned (b ++ (x ∷ more)) ≡ Err (length b)
byte_too_many = too_many
