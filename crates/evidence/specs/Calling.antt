-- The answering calls as a caller sees them, in either of their forms: the bytes of an answer, or the number of a refusal. A caller may
-- write into an output of his own, or ask for the length first and then lend exactly so much (document 02, Q-6). What each call promises
-- is `TellsLength` and `WritesAnswer` (in pages), `HubTellsLength` and `HubWritesAnswer` (in hub).
-- Assumes nothing.
use Rattle.std.specs.Prelude.{◌≡◌, List, ℕ, ◌*◌, ◌≤◌, length, take, drop}
use Rattle.laws.specs.Bytes.{le}
use Rattle.numbers.specs.Refusals.{refusal_number}
use Rattle.numbers.specs.declared.refusal.Refusal.{Refusal}
use Rattle.pages.specs.Answer.{TellsLength, WritesAnswer}
use Rattle.pages.specs.Results.Answered.{Answered, Refused, Sent}
use Rattle.hub.specs.Call.{HubTellsLength, HubWritesAnswer}
use Rattle.evidence.specs.Refusing.{Tables}

-- a number of a report, by its position: "as 8-byte numbers"
abbrev pub report_number : ℕ → List ℕ → ℕ
report_number i report = le (take 8 (drop (i * 8) report))

-- the calls on the store s and the request q answer w, where an output of so many bytes is lent or offered
pub data GivesAnswer (s q : List ℕ) (room : ℕ) (w : List ℕ) : Type 0 where
  -- an output of so many bytes is lent to the call that writes: the one that is lent tables says how long w is, and the exported one says
  -- so in a report
  lent : (n rowCount rangeCount : ℕ) (rows rows' ranges ranges' out out' : List ℕ) → WritesAnswer s q (Sent n rowCount rangeCount) rows rows' ranges ranges' out out'
      → length out ≡ room → w ≡ take n out' → GivesAnswer s q room w
  exported : (out out' report report' : List ℕ) → HubWritesAnswer s q 0 out out' report report' → length out ≡ room → 24 ≤ length report
      → w ≡ take (report_number 2 report') out' → GivesAnswer s q room w
  -- so many bytes are offered to the call that tells the length, and an output of exactly the told length is lent to the call that writes:
  -- whatever that returns, w is then all of the output
  lent_pair : (n rowCount rangeCount : ℕ) (rows rows' ranges ranges' : List ℕ) → TellsLength s q room (Sent n rowCount rangeCount) rows rows' ranges ranges'
      → (r : Answered) (rowsThen rowsThen' rangesThen rangesThen' out out' : List ℕ) → Tables (length rowsThen) (length rangesThen) → length out ≡ n
      → WritesAnswer s q r rowsThen rowsThen' rangesThen rangesThen' out out' → w ≡ out' → GivesAnswer s q room w
  exported_pair : (told told' : List ℕ) → HubTellsLength s q room 0 told told' → 24 ≤ length told → (number : ℕ) (out out' report report' : List ℕ)
      → length out ≡ report_number 2 told' → HubWritesAnswer s q number out out' report report' → w ≡ out' → GivesAnswer s q room w

-- they refuse with a number: the call that writes, or the one that tells the length
pub data GivesRefusal (s q : List ℕ) (room number : ℕ) : Type 0 where
  lent : (r : Refusal) (rows rows' ranges ranges' out out' : List ℕ) → WritesAnswer s q (Refused r) rows rows' ranges ranges' out out' → length out ≡ room
      → number ≡ refusal_number r → GivesRefusal s q room number
  exported : (out out' report report' : List ℕ) → HubWritesAnswer s q number out out' report report' → length out ≡ room → (number ≡ 0 → ⊥)
      → GivesRefusal s q room number
  lent_told : (r : Refusal) (rows rows' ranges ranges' : List ℕ) → TellsLength s q room (Refused r) rows rows' ranges ranges' → number ≡ refusal_number r
      → GivesRefusal s q room number
  exported_told : (report report' : List ℕ) → HubTellsLength s q room number report report' → (number ≡ 0 → ⊥) → GivesRefusal s q room number
