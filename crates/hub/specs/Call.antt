-- What the answering calls promise in the form exported to C. "The form exported to C has tables of its own and takes byte slices and
-- numbers; it returns the refusal number or 0, and a slice, if of 24 bytes or more, takes in its first 24 input (0 or 1), place and
-- length as 8-byte numbers (on success 0, 0 and the answer's length); its other bytes stay."
-- Assumes nothing.
use Rattle.std.specs.Prelude.{◌≡◌, ℕ, List, length}
use Rattle.laws.specs.Placed.{placed}
use Rattle.store.specs.Store.{beginning_of}
use Rattle.order.specs.Order.{ranked_numbers}
use Rattle.store.specs.Results.Beginning.{Nothing}
use Rattle.pages.specs.Answer.{Outcome, refused, answered, number_in, knowledge_numbers, answer_of, output_after}
use Rattle.report.specs.Report.{three_numbers, refusal_report}

-- the report: "input (0 or 1), place and length"
unfoldable pub report_bytes : Outcome → List ℕ
report_bytes (refused r) = refusal_report r
report_bytes (answered w all l) = three_numbers 0 0 (length w)

-- "has tables of its own": of as many numbers as the answering calls ask for
abbrev pub hub_outcome : List ℕ → List ℕ → ℕ → Outcome
hub_outcome s q room = answer_of s q ranked_numbers knowledge_numbers room

-- what is promised where the outcome is o: "the refusal number or 0", and the report at exit
abbrev pub HubTells : Outcome → ℕ → List ℕ → List ℕ → Type 0
HubTells o r report report' = (r ≡ number_in o) × (report' ≡ placed (report_bytes o) report)

-- and the output at exit
abbrev pub HubGives : Outcome → ℕ → List ℕ → List ℕ → List ℕ → List ℕ → Type 0
HubGives o r out out' report report' =
    (r ≡ number_in o) × (out' ≡ output_after o out) × (report' ≡ placed (report_bytes o) report)

-- what the call promises that tells the length for an output length that is offered
abbrev pub HubTellsLength : List ℕ → List ℕ → ℕ → ℕ → List ℕ → List ℕ → Type 0
HubTellsLength s q offered r report report' = HubTells (hub_outcome s q offered) r report report'

-- the same of whatever store has no elements; a part of the code promises it
abbrev pub TellsOfNothing : List ℕ → ℕ → ℕ → List ℕ → List ℕ → Type 0
TellsOfNothing q offered r report report' = (s : List ℕ) → beginning_of s ≡ Nothing → HubTellsLength s q offered r report report'

-- and the call that decides again, and writes
abbrev pub HubWritesAnswer : List ℕ → List ℕ → ℕ → List ℕ → List ℕ → List ℕ → List ℕ → Type 0
HubWritesAnswer s q r out out' report report' = HubGives (hub_outcome s q (length out)) r out out' report report'
