-- Why keeping an answer gives a refusal: the first fault of the inputs in their order, or else what falls on no item. And when it gives none.
-- That the outcome of Keep is so, are laws of proofs/Refusals.
-- Assumes nothing.
use Rattle.std.specs.Prelude.{◌≡◌, List, ℕ, ◌≤◌, ◌<◌, length}
use Rattle.numbers.specs.Refusals.{fault_at, too_short, longest_input}
use Rattle.numbers.specs.declared.refusal.Refusal.{Refusal}
use Rattle.objects.specs.Results.Reading as reading
use Rattle.store.specs.Store.{store_walk, Stands}
use Rattle.store.specs.Tables.{most_elements}
use Rattle.request.specs.Message.{in_request}
use Rattle.enter.specs.Package.{packed}
use Rattle.client.specs.Read.{answer_end}
use Rattle.book.specs.Keep.{kept_elements}

-- the new book
abbrev pub new_book : List ℕ → List ℕ → List ℕ
new_book b w = packed (kept_elements b w)

-- both are read, and neither 9 nor 1 nor 14 is met
pub record Enters (b w : List ℕ) (room : ℕ) : Type 0 where
  pub book_reads : Stands (store_walk b).last
  pub answer_reads : Stands (answer_end w)
  pub few : length (kept_elements b w) ≤ most_elements
  pub short : length (new_book b w) ≤ longest_input
  pub fits : length (new_book b w) ≤ room

-- why keeping the answer w in the book b, lent a buffer of so many bytes, refuses with r
pub data WhyKeep (b w : List ℕ) (room : ℕ) (r : Refusal) : Type 0 where
  -- the first fault that reading the book meets
  book : (store_walk b).last ≡ reading.Refused r → WhyKeep b w room r
  -- the book is read, and this is the first fault that reading the answer meets, which is the second input
  answer : (x : Refusal) → Stands (store_walk b).last → answer_end w ≡ reading.Refused x → r ≡ in_request x → WhyKeep b w room r
  -- both are read: the new book would have over 256 elements
  too_many : Stands (store_walk b).last → Stands (answer_end w) → most_elements < length (kept_elements b w) → r ≡ fault_at 9 0 → WhyKeep b w room r
  -- it would be over 16,777,216 bytes
  too_long : Stands (store_walk b).last → Stands (answer_end w) → length (kept_elements b w) ≤ most_elements → longest_input < length (new_book b w) → r ≡ fault_at 1 0
      → WhyKeep b w room r
  -- its buffer is shorter than it is, and this is the needed length
  buffer_short : Stands (store_walk b).last → Stands (answer_end w) → length (kept_elements b w) ≤ most_elements → length (new_book b w) ≤ longest_input
      → room < length (new_book b w) → r ≡ too_short (length (new_book b w)) → WhyKeep b w room r
