-- What a call gives where it refuses nothing: "its result" in demand 1. Of the answering calls one gives the length of an answer and the
-- other an answer, in either of their forms; the bench's calls give a request, what an answer tells, and where an element stands. And
-- what an exported call refuses with; why it does, is said in Refusing and BenchRefusing. The calls about puts have theirs in PutResults.
-- Assumes nothing.
use Rattle.std.specs.Prelude.{◌≡◌, List, ◌++◌, ℕ, ◌*◌, length, drop}
use Rattle.laws.specs.Placed.{placed}
use Rattle.numbers.specs.Refusals.{refusal_number}
use Rattle.numbers.specs.declared.refusal.Refusal.{Refusal}
use Rattle.talk.specs.declared.range.Range.{Range}
use Rattle.ranges.specs.RangeTable.{range_width}
use Rattle.order.specs.Order.{ordered, ranked_rows, ranked_width}
use Rattle.store.specs.Results.Found as found
use Rattle.store.specs.declared.element.Element.{Element}
use Rattle.pages.specs.Answer.{Ask, range_rows}
use Rattle.pages.specs.Cases.{Asks, Sends}
use Rattle.pages.specs.Results.Answered.{Answered, Sent}
use Rattle.client.specs.AskWritten.{ask_bytes}
use Rattle.client.specs.Read.{answer_in}
use Rattle.client.specs.declared.answer.Received.{Received}
use Rattle.client.specs.Results.ReadAnswer as answer
use Rattle.report.specs.Report.{three_numbers, refusal_report}
use Rattle.hub.specs.Bench.{report_after, element_found}

-- ---- an answer

-- both inputs are read, and of what they ask for the greatest page is decided, for an output of so many bytes. The call returns how long
-- its answer is, and both row counts. (What a bench finds in it, is the matter of demand 2.)
pub record Result (s q : List ℕ) (room n rowCount rangeCount : ℕ) : Type 0 where
  pub asked : Ask
  pub asks : Asks s q asked
  pub bytes : List ℕ
  pub ranges : List Range
  pub sends : Sends asked room bytes asked.elements ranges
  pub length_is : n ≡ length bytes
  pub rows_are : rowCount ≡ length asked.elements
  pub ranges_are : rangeCount ≡ length ranges

-- "After success the store table holds a row per element .. and the knowledge table a row per range of the answer .. Later rows .. keep
-- their contents"; the rows with their ranks, in row order
abbrev pub TablesHold : List Element → List Range → List ℕ → List ℕ → List ℕ → List ℕ → Type 0
TablesHold elements l rows rows' ranges ranges' =
    (rows' ≡ ranked_rows (ordered elements) ++ drop (length elements * ranked_width) rows) × (ranges' ≡ range_rows l ++ drop (length l * range_width) ranges)

-- the answer stands at the front of the output, and what stood behind it stays
abbrev pub AnswerStands : List ℕ → List ℕ → List ℕ → Type 0
AnswerStands bytes out out' = out' ≡ bytes ++ drop (length bytes) out

-- so the call that is lent tables tells a length ..
abbrev pub LengthTold : List ℕ → List ℕ → ℕ → Answered → List ℕ → List ℕ → List ℕ → List ℕ → Type 0
LengthTold s q offered r rows rows' ranges ranges' =
    (n : ℕ) × (rowCount : ℕ) × (rangeCount : ℕ) × (r ≡ Sent n rowCount rangeCount) × (x : Result s q offered n rowCount rangeCount)
    × TablesHold x.asked.elements x.ranges rows rows' ranges ranges'

-- .. and the one that is lent an output besides gives an answer
abbrev pub AnswerSent : List ℕ → List ℕ → Answered → List ℕ → List ℕ → List ℕ → List ℕ → List ℕ → List ℕ → Type 0
AnswerSent s q r rows rows' ranges ranges' out out' =
    (n : ℕ) × (rowCount : ℕ) × (rangeCount : ℕ) × (r ≡ Sent n rowCount rangeCount) × (x : Result s q (length out) n rowCount rangeCount)
    × TablesHold x.asked.elements x.ranges rows rows' ranges ranges' × AnswerStands x.bytes out out'

-- joined (document 02, Q-6) both give one result, for the length that was offered: each fills the tables that it is lent from it, and the
-- output of exactly the told length is its answer
abbrev pub PairGiven : List ℕ → List ℕ → ℕ → ℕ → ℕ → ℕ → List ℕ → List ℕ → List ℕ → List ℕ → List ℕ → List ℕ → List ℕ → List ℕ → List ℕ → Type 0
PairGiven s q offered n rowCount rangeCount rows rows' ranges ranges' rowsThen rowsThen' rangesThen rangesThen' out' =
    (x : Result s q offered n rowCount rangeCount) × TablesHold x.asked.elements x.ranges rows rows' ranges ranges'
    × TablesHold x.asked.elements x.ranges rowsThen rowsThen' rangesThen rangesThen' × (out' ≡ x.bytes)

-- and so the exported ones, whose tables are their own: the report takes the answer's length
abbrev pub LengthGiven : List ℕ → List ℕ → ℕ → List ℕ → List ℕ → Type 0
LengthGiven s q offered report report' =
    (n : ℕ) × (rowCount : ℕ) × (rangeCount : ℕ) × Result s q offered n rowCount rangeCount × (report' ≡ placed (three_numbers 0 0 n) report)

abbrev pub AnswerGiven : List ℕ → List ℕ → List ℕ → List ℕ → List ℕ → List ℕ → Type 0
AnswerGiven s q out out' report report' =
    (n : ℕ) × (rowCount : ℕ) × (rangeCount : ℕ) × (x : Result s q (length out) n rowCount rangeCount) × AnswerStands x.bytes out out'
    × (report' ≡ placed (three_numbers 0 0 n) report)

-- ---- what a bench's calls give

-- a request, at the front of the output
abbrev pub RequestGiven : ℕ → ℕ → List ℕ → List ℕ → List ℕ → List ℕ → List ℕ → List ℕ → Type 0
RequestGiven id limit f k out out' report report' =
    (w : List ℕ) × (w ≡ ask_bytes id limit f k) × (out' ≡ w ++ drop (length w) out) × (report' ≡ placed (three_numbers 0 0 (length w)) report)

-- what an answer that is read tells
abbrev pub AnswerRead : List ℕ → List ℕ → List ℕ → Type 0
AnswerRead w report report' = (x : Received) × (answer_in w ≡ answer.Is x) × (report' ≡ report_after (answer.Is x) report)

-- where the element stands, and its length
abbrev pub ElementGiven : ℕ → List ℕ → ℕ → List ℕ → List ℕ → Type 0
ElementGiven kind s i report report' =
    (place : ℕ) × (n : ℕ) × (element_found kind s i ≡ found.At place n) × (report' ≡ placed (three_numbers 0 place n) report)

-- ---- what an exported call refuses with

-- "one of the numbered refusals of document 01, with the place of the fault", which is what `IsFault` says of it, and which the report
-- takes; and its reason
pub record RefusedWith (IsFault Reason : Refusal → Type 0) (number : ℕ) (report report' : List ℕ) : Type 0 where
  pub refusal : Refusal
  pub number_is : number ≡ refusal_number refusal
  pub fault : IsFault refusal
  pub reason : Reason refusal
  pub told : report' ≡ placed (refusal_report refusal) report
