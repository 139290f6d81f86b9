-- What a bench in C looks at: the mark in the report of hub_read. A report of 88 bytes or more has it behind the id, 1 or 0, and it is 0 exactly where
-- the answer is unmarked. So the end of a talk that keeps its answers can be said of the calls alone (`ends_told`). A reader needs the statements
-- that are pub.
-- Assumes nothing.
use mathlib.Core.Path.{◌≡◌, refl, sym, ap, ◌∙◌}
use mathlib.Core.Bool.{Bool, true, false}
use mathlib.Core.List.{List, ◌∷◌, Memᴰ as In}
use Prim.Native.Nat.{ℕ, ◌^◌, ◌≤◌, ◌<◌}
use native.Mathlib.Omega.{arith}
use lib.ListN.{length}
use Rattle.laws.specs.Bytes.{AllBytes}
use Rattle.laws.specs.Pick.{pick}
use Rattle.laws.specs.Placed.{placed}
use Rattle.request.specs.Meaning.{Filter}
use Rattle.client.specs.Read.{answer_in, received_numbers, tell_read_answer}
use Rattle.client.specs.declared.answer.Received.{Received}
use Rattle.client.specs.Results.ReadAnswer.{ReadAnswer}
use Rattle.client.specs.Results.ReadAnswer as answer
use Rattle.report.specs.Report.{three_numbers}
use Rattle.hub.specs.Bench.{report_after, HubReads}
use Rattle.evidence.specs.Book.{InStep, HoldsAll, Standing, KeptTalk, Unmarked}
use Rattle.evidence.specs.Calling.{report_number}
use Rattle.evidence.specs.Refusing.{IfAndOnlyIf}
use Rattle.evidence.proofs.InStep.{all_in_book}
use Rattle.evidence.proofs.Refusals.{read_fault}
use Rattle.evidence.proofs.ReportNumbers.{report_number_lem, length_received, length_short}

-- the mark as a number
abbrev mark_number : Bool → ℕ
mark_number c = pick c 1 0

no_mark : (c : Bool) → mark_number c ≡ 0 → c ≡ false
no_mark true e = absurd (omega arith)
no_mark false e = refl

mark_small : (c : Bool) → mark_number c < 2 ^ 64
mark_small true = omega arith
mark_small false = omega arith

-- of an answer that is read
mark_number_lem : (x : Received) (report : List ℕ) → 88 ≤ length report → report_number 4 (report_after (answer.Is x) report) ≡ mark_number x.partial
unfolding report_after received_numbers
mark_number_lem x report l =
    let n = length_received x in
    let m = length_short x report in
    report_number_lem (0 ∷ received_numbers x) (placed (three_numbers 0 x.knowledge x.length) report) 4 (omega arith) (omega arith) (mark_small x.partial)

read_marks : (w report report' : List ℕ) (a : ReadAnswer) → answer_in w ≡ a → 88 ≤ length report → 0 ≡ (tell_read_answer a).number → report' ≡ report_after a report
    → IfAndOnlyIf (report_number 4 report' ≡ 0) (Unmarked w)
read_marks w report report' (answer.Is x) i l n e =
    let m : report_number 4 report' ≡ mark_number x.partial = ap (report_number 4) e ∙ mark_number_lem x report l in (
      λ z. (x, i, no_mark x.partial (sym m ∙ z)),
      λ u. m ∙ ap mark_number (same_mark x u.0 (sym i ∙ u.1) ∙ u.2),
    )
  where
    same_mark : (x y : Received) → answer.Is x ≡ answer.Is y → x.partial ≡ y.partial
    same_mark x y h = let e : x ≡ y = cc in ap (λ (v : Received). v.partial) e
read_marks w report report' (answer.Refused r) i l n e = let f = (read_fault w r i).least in absurd (omega arith)

pub mark_told : (w report report' : List ℕ) → HubReads w 0 report report' → 88 ≤ length report → IfAndOnlyIf (report_number 4 report' ≡ 0) (Unmarked w)
mark_told w report report' h l = read_marks w report report' (answer_in w) refl l h.0 h.1

-- a bench that keeps every answer until hub_read tells it no mark has all that the filters let in
pub ends_told : (s : List ℕ) → AllBytes s → (fs : List Filter) {z z' : Standing} {ws : List (List ℕ)} → KeptTalk s fs z ws z' → InStep s fs z.know z.book
    → (w report report' : List ℕ) → In w ws → HubReads w 0 report report' → 88 ≤ length report → report_number 4 report' ≡ 0 → HoldsAll s fs z'.book
ends_told s b fs t step w report report' i h l m = all_in_book s b fs t step w i ((mark_told w report report' h l).0 m)
