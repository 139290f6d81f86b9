-- What keeping an answer promises in the form exported to C: it returns the refusal number or 0; the new book and the report at exit. On
-- success the report has 0, 0 and the new book's length.
-- Assumes nothing.
use Rattle.numbers.specs.Refusals.{refusal_number}
use Rattle.std.specs.Prelude.{◌≡◌, ℕ, List, length}
use Rattle.laws.specs.Placed.{placed}
use Rattle.book.specs.Keep.{Outcome, refused, kept, keep_outcome, book_after}
use Rattle.report.specs.Report.{three_numbers, refusal_report}

-- "the refusal number or 0"
unfoldable pub keep_number : Outcome → ℕ
keep_number (refused r) = refusal_number r
keep_number (kept new) = 0

unfoldable pub keep_report : Outcome → List ℕ
keep_report (refused r) = refusal_report r
keep_report (kept new) = three_numbers 0 0 (length new)

-- what is promised where the outcome is o
abbrev pub HubGivesBook : Outcome → ℕ → List ℕ → List ℕ → List ℕ → List ℕ → Type 0
HubGivesBook o r new new' report report' = (r ≡ keep_number o) × (new' ≡ book_after o new) × (report' ≡ placed (keep_report o) report)

-- what the exported call promises
abbrev pub HubKeeps : List ℕ → List ℕ → ℕ → List ℕ → List ℕ → List ℕ → List ℕ → Type 0
HubKeeps b w r new new' report report' = HubGivesBook (keep_outcome b w (length new)) r new new' report report'
