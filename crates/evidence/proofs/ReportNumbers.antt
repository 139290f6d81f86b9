-- A number that a report takes is the number that a caller finds there. A reader can skip all but the statements with `pub`.
-- Assumes nothing.
use mathlib.Core.Path.{◌≡◌, refl, sym, ap, ◌∙◌}
use mathlib.Core.List.{List, [], ◌∷◌, ◌++◌, append_assoc}
use Prim.Native.Nat.{ℕ, zero, suc, ◌+◌, ◌*◌, ◌^◌, ◌≤◌, ◌<◌}
use native.Mathlib.Omega.{arith}
use lib.ListN.{length, take, drop, get_or}
use lib.Seq.{take_at, drop_at, drop-drop}
use Rattle.laws.specs.Bytes.{bytes}
use Rattle.laws.specs.Placed.{placed}
use Rattle.laws.proofs.Cases.{by_lt}
use Rattle.laws.proofs.Numbers.{length_bytes, le_bytes}
use Rattle.laws.proofs.Placing.{placed_fits, placed_short, length_placed}
use Rattle.numbers.specs.Results.ExtendedGuid.{ExtendedGuid}
use Rattle.numbers.specs.Results.ExtendedGuid as id
use Rattle.client.specs.Read.{id_numbers, received_numbers}
use Rattle.client.specs.declared.answer.Received.{Received}
use Rattle.client.specs.Results.ReadAnswer as answer
use Rattle.report.specs.Report.{numbers_bytes, three_numbers}
use Rattle.hub.specs.Bench.{received_report, report_after}
use Rattle.report.proofs.Numbers.{length_numbers}
use Rattle.evidence.specs.Calling.{report_number}

-- ---- any numbers

-- the bytes of each stand behind those of the ones before it
number_bytes_lem : (xs rest : List ℕ) (i : ℕ) → i < length xs → take 8 (drop (i * 8) (numbers_bytes xs ++ rest)) ≡ bytes 8 (get_or xs i 0)
unfolding numbers_bytes
number_bytes_lem [] rest i h = absurd (omega arith)
number_bytes_lem (x ∷ xs) rest zero h = rw append_assoc (take_at (bytes 8 x) (numbers_bytes xs ++ rest) 8 (length_bytes 8 x))
number_bytes_lem (x ∷ xs) rest (suc i) h =
    let n : suc i * 8 ≡ 8 + i * 8 = omega arith in
    let e : drop (8 + i * 8) (bytes 8 x ++ (numbers_bytes xs ++ rest)) ≡ drop (i * 8) (numbers_bytes xs ++ rest) =
    sym (drop-drop (i * 8) 8 (bytes 8 x ++ (numbers_bytes xs ++ rest))) ∙ ap (drop (i * 8)) (drop_at (bytes 8 x) (numbers_bytes xs ++ rest) 8 (length_bytes 8 x)) in
    rw (n, append_assoc, e) (number_bytes_lem xs rest i (omega arith))

pub report_number_lem : (xs report : List ℕ) (i : ℕ) → i < length xs → length xs * 8 ≤ length report → get_or xs i 0 < 2 ^ 64
    → report_number i (placed (numbers_bytes xs) report) ≡ get_or xs i 0
report_number_lem xs report i h room fits =
    let l = length_numbers xs in
    rw (placed_fits (numbers_bytes xs) report (omega arith), number_bytes_lem xs (drop (length (numbers_bytes xs)) report) i h)
    (le_bytes 8 (get_or xs i 0) (omega arith))

-- ---- three of them

pub three_numbers_lem : (a b c : ℕ) (report : List ℕ) → 24 ≤ length report → a < 2 ^ 64 → b < 2 ^ 64 → c < 2 ^ 64
    → (report_number 0 (placed (three_numbers a b c) report) ≡ a) × (report_number 1 (placed (three_numbers a b c) report) ≡ b)
    × (report_number 2 (placed (three_numbers a b c) report) ≡ c)
three_numbers_lem a b c report h ha hb hc = (
  report_number_lem (a ∷ b ∷ c ∷ []) report 0 (omega arith) (omega arith) ha,
  report_number_lem (a ∷ b ∷ c ∷ []) report 1 (omega arith) (omega arith) hb,
  report_number_lem (a ∷ b ∷ c ∷ []) report 2 (omega arith) (omega arith) hc,
)

-- ---- an answer read: a longer report begins with the same three

length_id : (x : ExtendedGuid) → length (id_numbers x) ≡ 4
unfolding id_numbers
length_id id.Null = refl
length_id (id.Named g n) = refl

pub length_received : (x : Received) → length (received_numbers x) ≡ 10
unfolding received_numbers
length_received x = let e = length_id x.index in omega arith

pub length_short : (x : Received) (report : List ℕ) → length (placed (three_numbers 0 x.knowledge x.length) report) ≡ length report
length_short x report = length_placed (three_numbers 0 x.knowledge x.length) report

module _ (x : Received) (report : List ℕ) (h : 24 ≤ length report) (place : x.knowledge < 2 ^ 64) (size : x.length < 2 ^ 64) where
  abbrev short : List ℕ
  short = placed (three_numbers 0 x.knowledge x.length) report

  -- a report begins with these
  abbrev pub BeginsWith : List ℕ → Type 0
  BeginsWith r = (report_number 0 r ≡ 0) × (report_number 1 r ≡ x.knowledge) × (report_number 2 r ≡ x.length)

  in_short : BeginsWith short
  in_short = three_numbers_lem 0 x.knowledge x.length report h (omega arith) place size

  in_long : 88 ≤ length report → BeginsWith (placed (received_report x) short)
  unfolding received_numbers
  in_long l =
      let n = length_received x in
      let m = length_placed (three_numbers 0 x.knowledge x.length) report in (
        report_number_lem (0 ∷ received_numbers x) short 0 (omega arith) (omega arith) (omega arith),
        report_number_lem (0 ∷ received_numbers x) short 1 (omega arith) (omega arith) place,
        report_number_lem (0 ∷ received_numbers x) short 2 (omega arith) (omega arith) size,
      )

  pub read_numbers : BeginsWith (report_after (answer.Is x) report)
  unfolding report_after
  read_numbers =
      by_lt (length report) 88
      (λ l.
      let n = length_received x in
      let b = length_numbers (0 ∷ received_numbers x) in
      let m = length_placed (three_numbers 0 x.knowledge x.length) report in
      rw (placed_short (received_report x) short (omega arith)) in_short) in_long
