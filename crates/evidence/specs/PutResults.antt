-- What the calls about puts (document 02, Q-1) give where they refuse nothing, which is "its result" in demand 1: of the hub a new store and
-- an answer, of a bench the put that it sends, and what the answer to it tells. And why the bench's two refuse; why the hub's does, is
-- `WhyPut` in Puts.
-- Assumes nothing.
use Rattle.std.specs.Prelude.{◌≡◌, List, [], ◌∷◌, ◌++◌, ◌⊎◌, ℕ, ◌≤◌, ◌<◌, length, drop}
use Rattle.laws.specs.Placed.{placed}
use Rattle.numbers.specs.Refusals.{fault_at, too_short, longest_input}
use Rattle.numbers.specs.declared.guid.Guid.{Guid}
use Rattle.numbers.specs.declared.refusal.Refusal.{Refusal}
use Rattle.objects.specs.Results.Reading.{Refused}
use Rattle.store.specs.Store.{Stands}
use Rattle.puts.specs.Applied.{entered, put_outcome}
use Rattle.client.specs.PutWritten.{put_bytes, elements_given}
use Rattle.client.specs.ReadPut.{put_answer_in, put_answer_end}
use Rattle.client.specs.declared.put_answer.ReceivedPut.{ReceivedPut}
use Rattle.client.specs.Results.ReadPutAnswer as answer
use Rattle.report.specs.Report.{numbers_bytes, three_numbers}
use Rattle.hub.specs.BenchPut.{widest_number, expected_of, put_report_after}

-- ---- a put applied: the put q on the store s, under the hub's GUID g

pub record PutGiven (s q : List ℕ) (g : Guid) (new new' out out' report report' : List ℕ) : Type 0 where
  pub answer : List ℕ
  pub store : List ℕ
  -- they are those of the definition. (What they have in them, is the matter of demand 2.)
  pub enters : put_outcome s q g (length new) (length out) ≡ entered answer store
  -- each stands at the front of its buffer; what stood behind it stays
  pub store_stands : new' ≡ store ++ drop (length store) new
  pub answer_stands : out' ≡ answer ++ drop (length answer) out
  -- the report takes 0, 0 and the answer's length; and one of 32 bytes or more the new store's length behind these
  pub told : report' ≡ placed (numbers_bytes (0 ∷ 0 ∷ length answer ∷ length store ∷ [])) (placed (three_numbers 0 0 (length answer)) report)

-- ---- what a bench's calls give

-- a put of the elements e, at the front of the output
abbrev pub PutSent : ℕ → ℕ → ℕ → ℕ → ℕ → List ℕ → List ℕ → List ℕ → List ℕ → List ℕ → Type 0
PutSent id named low high number e out out' report report' =
    (w : List ℕ) × (w ≡ put_bytes id (expected_of named low high number) e) × (out' ≡ w ++ drop (length w) out)
    × (report' ≡ placed (three_numbers 0 0 (length w)) report)

-- what the answer to a put tells
abbrev pub PutAnswerRead : List ℕ → List ℕ → List ℕ → Type 0
PutAnswerRead w report report' = (x : ReceivedPut) × (put_answer_in w ≡ answer.Is x) × (report' ≡ put_report_after (answer.Is x) report)

-- ---- why they refuse

-- no storage index is expected, or one whose number has at most 32 bits
abbrev pub IndexFits : ℕ → ℕ → Type 0
IndexFits named number = (named ≡ 0) ⊎ (number ≤ widest_number)

-- why writing a put of the elements e into an output of so many bytes refuses with r
pub data WhyAskPut (id named low high number : ℕ) (e : List ℕ) (room : ℕ) (r : Refusal) : Type 0 where
  -- the number of the storage index that is expected is over 32 bits
  wide : (named ≡ 0 → ⊥) → widest_number < number → r ≡ fault_at 3 0 → WhyAskPut id named low high number e room r
  -- the first fault that reading the elements meets
  elements : IndexFits named number → elements_given e ≡ Refused r → WhyAskPut id named low high number e room r
  -- they are read: the put itself would be over 16,777,216 bytes
  long : IndexFits named number → Stands (elements_given e) → longest_input < length (put_bytes id (expected_of named low high number) e) → r ≡ fault_at 1 0
      → WhyAskPut id named low high number e room r
  -- the output is shorter than the put, whose length is the needed one
  short : IndexFits named number → Stands (elements_given e) → length (put_bytes id (expected_of named low high number) e) ≤ longest_input
      → room < length (put_bytes id (expected_of named low high number) e) → r ≡ too_short (length (put_bytes id (expected_of named low high number) e))
      → WhyAskPut id named low high number e room r

-- why reading the answer to a put refuses with r: the first fault that is met
abbrev pub WhyReadPut : List ℕ → Refusal → Type 0
WhyReadPut w r = put_answer_end w ≡ Refused r
