-- What the bench's calls promise in the form exported to C: a request written, an answer read, and where an element of a store or of an
-- answer stands. Each returns the refusal number or 0; on a refusal the report is that of every call.
-- Assumes nothing.
use Rattle.std.specs.Prelude.{◌≡◌, ℕ, List, ◌∷◌, length, eqb}
use Rattle.laws.specs.Pick.{pick}
use Rattle.laws.specs.Placed.{placed}
use Rattle.numbers.specs.Refusals.{tell_wrote}
use Rattle.numbers.specs.Results.Wrote.{Wrote}
use Rattle.numbers.specs.Results.Wrote as wrote
use Rattle.store.specs.Accessor.{found_in, tell_found}
use Rattle.store.specs.Results.Found.{Found}
use Rattle.store.specs.Results.Found as found
use Rattle.client.specs.AskWritten.{ask_bytes}
use Rattle.client.specs.Ask.{ask_wrote, ask_output}
use Rattle.client.specs.Read.{answer_in, received_numbers, tell_read_answer}
use Rattle.client.specs.Accessor.{received_at}
use Rattle.client.specs.declared.answer.Received.{Received}
use Rattle.client.specs.Results.ReadAnswer.{ReadAnswer}
use Rattle.client.specs.Results.ReadAnswer as answer
use Rattle.report.specs.Report.{numbers_bytes, three_numbers, refusal_report}

-- ---- a request written: on success 0, 0 and its length

unfoldable pub wrote_report : Wrote → List ℕ
wrote_report (wrote.Done n) = three_numbers 0 0 n
wrote_report (wrote.Refused r) = refusal_report r

-- what is promised where writing the bytes w answers o
abbrev pub HubWrites : Wrote → List ℕ → ℕ → List ℕ → List ℕ → List ℕ → List ℕ → Type 0
HubWrites o w r out out' report report' =
    (r ≡ (tell_wrote o).number) × (out' ≡ ask_output o w out) × (report' ≡ placed (wrote_report o) report)

abbrev pub HubAsks : ℕ → ℕ → List ℕ → List ℕ → ℕ → List ℕ → List ℕ → List ℕ → List ℕ → Type 0
HubAsks id limit f k r out out' report report' =
    HubWrites (ask_wrote id limit f k (length out)) (ask_bytes id limit f k) r out out' report report'

-- ---- an answer read: on success 0 and the place and length of the knowledge to send back; and a report of 88 bytes or more takes
-- behind these the id, the mark (1 or 0), the place and number of the elements, and the storage index (1 or 0 for null, the GUID as two
-- little-endian numbers, the number)

abbrev pub received_report : Received → List ℕ
received_report x = numbers_bytes (0 ∷ received_numbers x)

unfoldable pub report_after : ReadAnswer → List ℕ → List ℕ
report_after (answer.Is x) report = placed (received_report x) (placed (three_numbers 0 x.knowledge x.length) report)
report_after (answer.Refused r) report = placed (refusal_report r) report

abbrev pub HubReads : List ℕ → ℕ → List ℕ → List ℕ → Type 0
HubReads s r report report' = (r ≡ (tell_read_answer (answer_in s)).number) × (report' ≡ report_after (answer_in s) report)

-- ---- one element by its position: on success 0, its place and its length. The bytes are those of a store (kind 0) or of an answer
-- (another kind)

unfoldable pub element_found : ℕ → List ℕ → ℕ → Found
element_found kind s i = pick (eqb kind 0) (found_in s i) (received_at s i)

unfoldable pub found_report : Found → List ℕ
found_report (found.At at n) = three_numbers 0 at n
found_report (found.Refused r) = refusal_report r

abbrev pub HubFinds : ℕ → List ℕ → ℕ → ℕ → List ℕ → List ℕ → Type 0
HubFinds kind s i r report report' =
    (r ≡ (tell_found (element_found kind s i)).number) × (report' ≡ placed (found_report (element_found kind s i)) report)
