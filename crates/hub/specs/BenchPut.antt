-- What the bench's calls about puts (document 02, Q-1) promise in the form exported to C: a put written, and the answer to it read. Each
-- returns the refusal number or 0; on a refusal the report is that of every call.
-- Assumes nothing.
use Rattle.std.specs.Prelude.{◌≡◌, Bool, false, ℕ, List, ◌∷◌, length, ltb, eqb}
use Rattle.laws.specs.Pick.{pick}
use Rattle.laws.specs.Placed.{placed}
use Rattle.numbers.specs.Refusals.{fault_at}
use Rattle.numbers.specs.Results.ExtendedGuid.{ExtendedGuid, Named, Null}
use Rattle.numbers.specs.Results.Wrote.{Wrote}
use Rattle.numbers.specs.Results.Wrote as wrote
use Rattle.client.specs.PutWritten.{put_bytes, put_wrote}
use Rattle.client.specs.ReadPut.{put_answer_in, received_put_numbers, tell_read_put_answer}
use Rattle.client.specs.Results.ReadPutAnswer.{ReadPutAnswer}
use Rattle.client.specs.Results.ReadPutAnswer as answer
use Rattle.report.specs.Report.{numbers_bytes, three_numbers, refusal_report}
use Rattle.hub.specs.Bench.{HubWrites}

-- ---- a put written: on success 0, 0 and its length

-- "A put names the storage index it expects", here as numbers: null where `named` is 0, and then the others do not count; else the GUID
-- as two little-endian numbers, and the number
unfoldable pub expected_of : ℕ → ℕ → ℕ → ℕ → ExtendedGuid
expected_of named low high number = pick (eqb named 0) Null (Named (record { low = low; high = high }) number)

-- "Extended GUIDs .. keep refusal 3": the number of one has 32 bits
abbrev pub widest_number : ℕ
widest_number = 0xFFFFFFFF

unfoldable pub too_wide : ℕ → ℕ → Bool
too_wide named number = pick (eqb named 0) false (ltb widest_number number)

-- 3 for such a number comes before all else: first input, place 0
unfoldable pub put_asked : ℕ → ℕ → ℕ → ℕ → ℕ → List ℕ → ℕ → Wrote
put_asked id named low high number s room =
    pick (too_wide named number) (wrote.Refused (fault_at 3 0)) (put_wrote id (expected_of named low high number) s room)

abbrev pub HubAsksPut : ℕ → ℕ → ℕ → ℕ → ℕ → List ℕ → ℕ → List ℕ → List ℕ → List ℕ → List ℕ → Type 0
HubAsksPut id named low high number s r out out' report report' =
    HubWrites (put_asked id named low high number s (length out)) (put_bytes id (expected_of named low high number) s) r out out' report report'

-- ---- the answer to a put read: on success 0 and the place and length of the knowledge; and a report of 32 bytes or more takes behind
-- these the id

unfoldable pub put_report_after : ReadPutAnswer → List ℕ → List ℕ
put_report_after (answer.Is x) report = placed (numbers_bytes (0 ∷ received_put_numbers x)) (placed (three_numbers 0 x.knowledge x.length) report)
put_report_after (answer.Refused r) report = placed (refusal_report r) report

abbrev pub HubReadsPut : List ℕ → ℕ → List ℕ → List ℕ → Type 0
HubReadsPut s r report report' = (r ≡ (tell_read_put_answer (put_answer_in s)).number) × (report' ≡ put_report_after (put_answer_in s) report)
