-- What keeping an answer gives where it refuses nothing, which is "its result" in demand 1: the new book. Why it refuses, is `WhyKeep` of the
-- crate book.
-- Assumes nothing.
use Rattle.std.specs.Prelude.{◌≡◌, List, ◌++◌, ℕ, length, drop}
use Rattle.laws.specs.Placed.{placed}
use Rattle.book.specs.Keep.{kept, keep_outcome}
use Rattle.report.specs.Report.{three_numbers}

-- the answer w kept in the book b
pub record BookGiven (b w new new' report report' : List ℕ) : Type 0 where
  pub book : List ℕ
  -- it is that of the definition. (What it has in it, is `BookDemandTwo`.)
  pub keeps : keep_outcome b w (length new) ≡ kept book
  -- it stands at the front of its buffer; what stood behind it stays
  pub stands : new' ≡ book ++ drop (length book) new
  -- the report takes 0, 0 and its length
  pub told : report' ≡ placed (three_numbers 0 0 (length book)) report
