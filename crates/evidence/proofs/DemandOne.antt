-- Demand 1: "Every store, request, table and buffer handed in, damaged or hostile, gets its result or one of the numbered refusals of
-- document 01, with the place of the fault. No caller has to check anything first. A refusal leaves output and tables untouched."
--
-- The statement stands first: `LentKeeps` for the calls that are lent tables, `ExportKeeps` for the exported calls, `NumbersExactly` for
-- the numbers one by one, `Writable` for stores that are good. Its words are defined in specs: what a result is in Results, what a
-- refusal tells and its reasons in Refusing and BenchRefusing. Below it the theorems `demand-one-..` say that all of it holds of the two
-- answering calls and of the exported calls but for the three about puts, which PutDemands has in the same words: each starts
-- from what its call promises, and from nothing else. Who proves nothing reads the statement and the types of the theorems. What stands
-- behind a `=` can be skipped. The calls for single items and the others of the crates below have their refusals in their own contracts
-- (docs/PROMISES.md).
--
-- That every call returns is nothing to state here: functions of Rattle are total, so each call returns, whatever is handed in, and it
-- returns what its promise says (`TellsLength`, `WritesAnswer`, `HubTellsLength`, `HubWritesAnswer`, `HubAsks`, `HubReads`, `HubFinds`),
-- which asks nothing of the caller.
-- Assumes nothing.
use mathlib.Core.Path.{◌≡◌, refl, sym, ap, subst}
use mathlib.Core.Bool.{true}
use mathlib.Core.List.{List, [], ◌∷◌, map}
use mathlib.Core.Logic.{◌⊎◌}
use Prim.Native.Nat.{ℕ, ◌^◌, ◌≤◌, ◌<◌}
use lib.ListN.{length}
use Rattle.laws.specs.Bytes.{AllBytes}
use Rattle.laws.specs.Once.{once}
use Rattle.laws.specs.Placed.{placed}
use Rattle.laws.proofs.Cases.{impossible}
use Rattle.numbers.specs.Refusals.{longest_input, tell_wrote, refusal_number}
use Rattle.numbers.specs.declared.refusal.Refusal.{Refusal}
use Rattle.store.specs.Tables.{most_elements}
use Rattle.order.specs.Order.{ranked_numbers}
use Rattle.store.specs.Element.{same_key}
use Rattle.store.specs.Store.{store_walk, Stands, store_padding}
use Rattle.store.specs.Written.{Content, package_front, package_bytes, elements_from, AllFit}
use Rattle.store.proofs.PackageWritten.{package_written}
use Rattle.request.specs.Message.{request_in}
use Rattle.request.specs.Results.Request as request
use Rattle.pages.specs.Answer.{Ask, page_ranges, number_in, tell_answered, answer_of, TellsLength, WritesAnswer, knowledge_numbers}
use Rattle.pages.specs.Cases.{Asks, OverLong, TooShort}
use Rattle.pages.specs.Results.Answered.{Answered, Refused, Sent}
use Rattle.pages.proofs.TwoCalls.{pair_tables}
use Rattle.client.specs.AskWritten.{ask_bytes}
use Rattle.client.specs.Ask.{ask_wrote}
use Rattle.client.specs.Back.{ReadBack}
use Rattle.client.proofs.NextAsk.{written_reads}
use Rattle.report.specs.Report.{refusal_report}
use Rattle.hub.specs.Call.{HubTellsLength, HubWritesAnswer}
use Rattle.hub.specs.Bench.{HubAsks, HubReads, HubFinds}
use Rattle.hub.proofs.Laws.{tells_no_thirteen, writes_no_thirteen}
use Rattle.evidence.specs.Refusing.{Fault, Tables, IfAndOnlyIf, Why}
use Rattle.evidence.specs.BenchRefusing.{WhyAsk, WhyRead, WhyElement}
use Rattle.evidence.specs.Results.{RefusedWith, LengthTold, AnswerSent, PairGiven, LengthGiven, AnswerGiven, RequestGiven, AnswerRead, ElementGiven}
use Rattle.evidence.specs.Calling.{report_number, GivesAnswer, exported_pair}
use Rattle.evidence.proofs.Calling.{exported_pair_told, one_given}
use Rattle.evidence.proofs.Refusals.{only_pages, request_written}
use Rattle.evidence.proofs.Results.{lent_kept, export_kept, length_comes, answer_comes, pair_comes, hub_length_comes, hub_write_comes, hub_ask_comes, hub_read_comes, hub_element_comes}
use Rattle.evidence.proofs.RefusalNumbers.{number_told, numbers_exactly}

-- ---- the calls that are lent two tables, and the one that is lent an output besides

-- "Every store, request, table and buffer handed in, damaged or hostile": s and q are any bytes, the tables have any numbers, so many
-- each, and the output that is lent or offered has so many bytes; r is what the call returns. What it gives, says `Gives`; that what was
-- lent is as it was, says `Untouched`
pub record LentKeeps (s q : List ℕ) (rows ranges room : ℕ) (Gives Untouched : Type 0) (r : Answered) : Type 0 where
  -- "gets its result or one of the numbered refusals of document 01, with the place of the fault"
  pub gets : Gives ⊎ ((x : Refusal) × (r ≡ Refused x) × Fault (s ∷ q ∷ []) x)
  -- a refusal has its reason
  pub reason : (x : Refusal) → r ≡ Refused x → Why s q rows ranges room x
  -- and is given wherever there is one
  pub given : (x : Refusal) → Why s q rows ranges room x → r ≡ Refused x
  -- "A refusal leaves output and tables untouched."
  pub untouched : (x : Refusal) → r ≡ Refused x → Untouched

-- so both keep this; rows', ranges' and out' are what then stands in what was lent
abbrev pub LengthKeeps : List ℕ → List ℕ → ℕ → Answered → List ℕ → List ℕ → List ℕ → List ℕ → Type 0
LengthKeeps s q offered r rows rows' ranges ranges' =
    LentKeeps s q (length rows) (length ranges) offered (LengthTold s q offered r rows rows' ranges ranges') ((rows' ≡ rows) × (ranges' ≡ ranges)) r

abbrev pub AnswerKeeps : List ℕ → List ℕ → Answered → List ℕ → List ℕ → List ℕ → List ℕ → List ℕ → List ℕ → Type 0
AnswerKeeps s q r rows rows' ranges ranges' out out' =
    LentKeeps s q (length rows) (length ranges) (length out) (AnswerSent s q r rows rows' ranges ranges' out out')
    ((rows' ≡ rows) × (ranges' ≡ ranges) × (out' ≡ out)) r

-- ---- the exported calls: each returns 0 or the number of a refusal, and has a report

-- the inputs are any bytes, and the output and the report any, each of any length; report' is what then stands in the report. What a
-- refusal is, says `IsFault`; that what was lent to be written is as it was, says `Untouched`
pub record ExportKeeps (IsFault : Refusal → Type 0) (Gives : Type 0) (Reason : Refusal → Type 0) (Untouched : Type 0) (number : ℕ) (report report' : List ℕ) : Type 0 where
  -- "gets its result or one of the numbered refusals of document 01, with the place of the fault"
  pub gets : ((number ≡ 0) × Gives) ⊎ RefusedWith IsFault Reason number report report'
  -- a refusal is given wherever there is a reason
  pub given : (x : Refusal) → Reason x → (number ≡ refusal_number x) × (report' ≡ placed (refusal_report x) report)
  -- "A refusal leaves output and tables untouched." (The tables are the call's own.)
  pub untouched : (number ≡ 0 → ⊥) → Untouched

-- so five of the calls keep this (PutDemands has the three about puts): the length of the answer to the request q on the store s, for an
-- output length that is offered, by the call's own tables; it is lent no output
abbrev pub HubLengthKeeps : List ℕ → List ℕ → ℕ → ℕ → List ℕ → List ℕ → Type 0
HubLengthKeeps s q offered number report report' =
    ExportKeeps (Fault (s ∷ q ∷ [])) (LengthGiven s q offered report report') (Why s q ranked_numbers knowledge_numbers offered) (Unit {0}) number report report'

-- the answer itself
abbrev pub HubAnswerKeeps : List ℕ → List ℕ → ℕ → List ℕ → List ℕ → List ℕ → List ℕ → Type 0
HubAnswerKeeps s q number out out' report report' =
    ExportKeeps (Fault (s ∷ q ∷ [])) (AnswerGiven s q out out' report report') (Why s q ranked_numbers knowledge_numbers (length out)) (out' ≡ out) number report
    report'

-- a request of the filters f and the knowledge k
abbrev pub HubAskKeeps : ℕ → ℕ → List ℕ → List ℕ → ℕ → List ℕ → List ℕ → List ℕ → List ℕ → Type 0
HubAskKeeps id limit f k number out out' report report' =
    ExportKeeps (Fault (f ∷ k ∷ [])) (RequestGiven id limit f k out out' report report') (WhyAsk id limit f k (length out)) (out' ≡ out) number report report'

-- the answer w, read; this call and the next are lent no output either
abbrev pub HubReadKeeps : List ℕ → ℕ → List ℕ → List ℕ → Type 0
HubReadKeeps w number report report' = ExportKeeps (Fault (w ∷ [])) (AnswerRead w report report') (WhyRead w) (Unit {0}) number report report'

-- the element at the position i of s, a store (kind 0) or an answer (another kind)
abbrev pub HubElementKeeps : ℕ → List ℕ → ℕ → ℕ → List ℕ → List ℕ → Type 0
HubElementKeeps kind s i number report report' =
    ExportKeeps (Fault (s ∷ [])) (ElementGiven kind s i report report') (WhyElement kind s i) (Unit {0}) number report report'

-- ---- the numbers that have an "if and only if" of their own

-- of a call that is lent tables of so many numbers, is lent or offered an output of so many bytes, and tells this number (0 where nothing
-- is refused)
pub record NumbersExactly (s q : List ℕ) (rows ranges room number : ℕ) : Type 0 where
  -- 13: "store table under 1,536 numbers or knowledge table under 2,048"; 1,792 by document 02, Q-14
  pub thirteen : IfAndOnlyIf (number ≡ 13) ((rows < ranked_numbers) ⊎ (ranges < knowledge_numbers))
  -- 1: "an input is over 16,777,216 bytes"
  pub one : IfAndOnlyIf (number ≡ 1) (Tables rows ranges × OverLong s q)
  -- 9 for a page, where both inputs are read and a is asked: "a page of 1 needs over 512 ranges"
  pub nine : (a : Ask) → Asks s q a
      → IfAndOnlyIf (number ≡ 9) (Tables rows ranges × (0 < length a.wanted) × (a.most < length (page_ranges a 1)))
  -- 14: "the output is shorter than the page of 1 (of 0, if nothing is wanted)"
  pub fourteen : IfAndOnlyIf (number ≡ 14) (Tables rows ranges × (a : Ask) × TooShort s q room a)

-- ---- stores and requests that are good

-- a store can be written of these: at most 256 elements that fit, no id twice, and not over-long. A serial number may stand twice: "11 is kept
-- for ids only" (document 02, Q-3)
pub record Writable (cs : List Content) : Type 0 where
  pub count : length cs ≤ most_elements
  pub fit : AllFit store_padding 14 cs
  pub ids_once : once same_key (map (λ (c : Content). c.id) cs) ≡ true
  pub within : length (package_bytes cs) ≤ longest_input

-- ---- the theorems: of the calls that are lent tables

module _ (s q : List ℕ) (r : Answered) (rows rows' ranges ranges' : List ℕ) where
  pub demand_one_length : (offered : ℕ) → TellsLength s q offered r rows rows' ranges ranges' → LengthKeeps s q offered r rows rows' ranges ranges'
  demand_one_length offered h =
      let k = lent_kept s q (length rows) (length ranges) offered _ _ r (λ g. (g.0, g.1, g.2, g.3)) (length_comes s q r rows rows' ranges ranges' offered h) in
      record { gets = k.0; reason = k.1; given = k.2; untouched = k.3 }

  pub demand_one_write : (out out' : List ℕ) → WritesAnswer s q r rows rows' ranges ranges' out out' → AnswerKeeps s q r rows rows' ranges ranges' out out'
  demand_one_write out out' h =
      let k = lent_kept s q (length rows) (length ranges) (length out) _ _ r (λ g. (g.0, g.1, g.2, g.3)) (answer_comes s q r rows rows' ranges ranges' out out' h) in
      record { gets = k.0; reason = k.1; given = k.2; untouched = k.3 }

-- ---- of the exported calls

module _ (s q : List ℕ) (offered number : ℕ) (report report' : List ℕ) where
  pub demand_one_hub_length : HubTellsLength s q offered number report report' → HubLengthKeeps s q offered number report report'
  demand_one_hub_length h =
      let k = export_kept _ _ _ _ number report report' (hub_length_comes s q number report report' offered h) in
      record { gets = k.0; given = k.1; untouched = k.2 }

  -- its own tables are never too short
  pub demand_one_hub_length_tables : HubTellsLength s q offered number report report' → number ≡ 13 → ⊥
  demand_one_hub_length_tables h e = tells_no_thirteen s q offered report report' (subst (λ (n : ℕ). HubTellsLength s q offered n report report') e h)

module _ (s q : List ℕ) (number : ℕ) (out out' report report' : List ℕ) where
  pub demand_one_hub_write : HubWritesAnswer s q number out out' report report' → HubAnswerKeeps s q number out out' report report'
  demand_one_hub_write h =
      let k = export_kept _ _ _ _ number report report' (hub_write_comes s q number report report' out out' h) in
      record { gets = k.0; given = k.1; untouched = k.2 }

  pub demand_one_hub_write_tables : HubWritesAnswer s q number out out' report report' → number ≡ 13 → ⊥
  demand_one_hub_write_tables h e = writes_no_thirteen s q out out' report report' (subst (λ (n : ℕ). HubWritesAnswer s q n out out' report report') e h)

-- ---- of the two together: who lends exactly the length that was told is never refused for room, nor for anything else. He gets what was
-- decided for the length that he offered: in the tables, whatever ones he lends that are long enough, and in the output

pub demand_one_pair : (s q : List ℕ) (offered n rowCount rangeCount : ℕ) (rows rows' ranges ranges' : List ℕ)
    → TellsLength s q offered (Sent n rowCount rangeCount) rows rows' ranges ranges' → (r : Answered) (rowsThen rowsThen' rangesThen rangesThen' out out' : List ℕ)
    → Tables (length rowsThen) (length rangesThen) → length out ≡ n → WritesAnswer s q r rowsThen rowsThen' rangesThen rangesThen' out out'
    → (r ≡ Sent n rowCount rangeCount)
    × PairGiven s q offered n rowCount rangeCount rows rows' ranges ranges' rowsThen rowsThen' rangesThen rangesThen' out'
demand_one_pair s q offered n rowCount rangeCount rows rows' ranges ranges' h r rowsThen rowsThen' rangesThen rangesThen' out out' t e k =
    pair_comes s q offered n rowCount rangeCount rows rows' ranges ranges' r rowsThen rowsThen' rangesThen rangesThen' out out' h t e k

-- and if he lends the tables as the first call left them, they stay so
pub demand_one_pair_tables : (s q : List ℕ) (offered n rowCount rangeCount : ℕ) (rows rows' ranges ranges' : List ℕ)
    → TellsLength s q offered (Sent n rowCount rangeCount) rows rows' ranges ranges' → (r : Answered) (rows'' ranges'' out out' : List ℕ) → length out ≡ n
    → WritesAnswer s q r rows' rows'' ranges' ranges'' out out' → (r ≡ Sent n rowCount rangeCount) × (rows'' ≡ rows') × (ranges'' ≡ ranges')
demand_one_pair_tables s q offered n rowCount rangeCount rows rows' ranges ranges' h r rows'' ranges'' out out' e k =
    pair_tables s q offered rows ranges n rowCount rangeCount rows' ranges' h r rows'' ranges'' out out' e k

-- by the exported calls: the report tells the length again, and all of the output is the answer that is given for the offered length
pub demand_one_hub_pair : (s q : List ℕ) → AllBytes s → AllBytes q → (offered : ℕ) (told told' : List ℕ) → HubTellsLength s q offered 0 told told' → 24 ≤ length told
    → (number : ℕ) (out out' report report' : List ℕ) → length out ≡ report_number 2 told' → HubWritesAnswer s q number out out' report report'
    → (number ≡ 0) × (24 ≤ length report → report_number 2 report' ≡ report_number 2 told') × ((w : List ℕ) → GivesAnswer s q offered w → out' ≡ w)
demand_one_hub_pair s q b d offered told told' h long number out out' report report' e k =
    let z = exported_pair_told s q b d offered told told' h long number out out' report report' e k in
    (z.0, z.1, λ w g. one_given s q b d offered out' w (exported_pair told told' h long number out out' report report' e k refl) g)

pub demand_one_hub_ask : (id limit : ℕ) (f k : List ℕ) (number : ℕ) (out out' report report' : List ℕ)
    → HubAsks id limit f k number out out' report report' → HubAskKeeps id limit f k number out out' report report'
demand_one_hub_ask id limit f k number out out' report report' h =
    let k = export_kept _ _ _ _ number report report' (hub_ask_comes id limit f k number out out' report report' h) in
    record { gets = k.0; given = k.1; untouched = k.2 }

pub demand_one_hub_read : (w : List ℕ) (number : ℕ) (report report' : List ℕ) → HubReads w number report report' → HubReadKeeps w number report report'
demand_one_hub_read w number report report' h =
    let k = export_kept _ _ _ _ number report report' (hub_read_comes w number report report' h) in
    record { gets = k.0; given = k.1; untouched = k.2 }

pub demand_one_hub_element : (kind : ℕ) (s : List ℕ) (i number : ℕ) (report report' : List ℕ) → HubFinds kind s i number report report'
    → HubElementKeeps kind s i number report report'
demand_one_hub_element kind s i number report report' h =
    let k = export_kept _ _ _ _ number report report' (hub_element_comes kind s i number report report' h) in
    record { gets = k.0; given = k.1; untouched = k.2 }

-- ---- of the numbers

-- of what a call that is lent tables tells
numbers_of_lem : (s q : List ℕ) (rows ranges room number : ℕ) → number ≡ number_in (answer_of s q rows ranges room) → NumbersExactly s q rows ranges room number
numbers_of_lem s q rows ranges room number e =
    let k = numbers_exactly s q rows ranges room number e in
    record { thirteen = k.0; one = k.1; nine = k.2; fourteen = k.3 }

pub demand_one_length_numbers : (s q : List ℕ) (offered : ℕ) (r : Answered) (rows rows' ranges ranges' : List ℕ) → TellsLength s q offered r rows rows' ranges ranges'
    → NumbersExactly s q (length rows) (length ranges) offered (tell_answered r).number
demand_one_length_numbers s q offered r rows rows' ranges ranges' h =
    numbers_of_lem s q (length rows) (length ranges) offered (tell_answered r).number (number_told r (answer_of s q (length rows) (length ranges) offered) h.0)

pub demand_one_write_numbers : (s q : List ℕ) (r : Answered) (rows rows' ranges ranges' out out' : List ℕ) → WritesAnswer s q r rows rows' ranges ranges' out out'
    → NumbersExactly s q (length rows) (length ranges) (length out) (tell_answered r).number
demand_one_write_numbers s q r rows rows' ranges ranges' out out' h =
    numbers_of_lem s q (length rows) (length ranges) (length out) (tell_answered r).number (number_told r (answer_of s q (length rows) (length ranges) (length out)) h.0)

pub demand_one_hub_length_numbers : (s q : List ℕ) (offered number : ℕ) (report report' : List ℕ) → HubTellsLength s q offered number report report'
    → NumbersExactly s q ranked_numbers knowledge_numbers offered number
demand_one_hub_length_numbers s q offered number report report' h = numbers_of_lem s q ranked_numbers knowledge_numbers offered number h.0

pub demand_one_hub_write_numbers : (s q : List ℕ) (number : ℕ) (out out' report report' : List ℕ) → HubWritesAnswer s q number out out' report report'
    → NumbersExactly s q ranked_numbers knowledge_numbers (length out) number
demand_one_hub_write_numbers s q number out out' report report' h = numbers_of_lem s q ranked_numbers knowledge_numbers (length out) number h.0

-- ---- of stores and requests that are good

-- a store that is written is read, and as exactly its elements
pub demand_one_good_store : (cs : List Content) → Writable cs
    → ((store_walk (package_bytes cs)).elements ≡ elements_from (length package_front) cs) × Stands (store_walk (package_bytes cs)).last
demand_one_good_store cs w =
    let e = package_written cs w.count w.fit w.ids_once w.within in
    (e.0, subst Stands (sym e.1) tt)

-- a request that is written, the bytes of `RequestGiven`, is read, and as exactly what was handed in
pub demand_one_good_request : (id limit : ℕ) (f k out out' report report' : List ℕ) → id < 2 ^ 64 → limit < 2 ^ 64
    → HubAsks id limit f k 0 out out' report report' → (count : ℕ) × ReadBack id limit f k count (ask_bytes id limit f k) []
demand_one_good_request id limit f k out out' report report' a b h =
    let w = request_written id limit f k (length out) (ask_wrote id limit f k (length out)) refl h.0 in
    let z = written_reads id limit f k w.0 out out' a b (ap tell_wrote (sym w.1), h.1) [] in
    subst (λ (q : List ℕ). (count : ℕ) × ReadBack id limit f k count q []) z.bytes_are (z.count, z.back)

-- where both inputs are read and the tables long enough, what is left are the refusals of a page: 9 and 14
pub demand_one_good : (s q : List ℕ) (id limit place count known rows ranges room : ℕ) → Tables rows ranges → Stands (store_walk s).last
    → request_in q [] ≡ request.Asked id limit place count known → (x : Refusal) → Why s q rows ranges room x → (refusal_number x ≡ 9) ⊎ (refusal_number x ≡ 14)
demand_one_good s q id limit place count known rows ranges room t g h x w = only_pages s q rows ranges room x t g (λ y e. impossible (cc)) w
