-- What keeping an answer does, for the book's bytes, the answer's bytes and the length of the new book's buffer: the refusal, or the new
-- book's bytes. A book is a store. The answer's elements enter it as a put's enter a store (document 02, Q-1): "an id already held is
-- replaced, new ones follow at the end"; but every element keeps its bytes as they came, its serial number included, for the hub alone
-- gives serial numbers. The refusals, in this order: the book's faults, as those of the first input; the answer's, as those of the second;
-- then 9 for over 256 elements, 1 for a new book over 16,777,216 bytes, 14 for its buffer, which fall on no item: they name the book, place 0.
-- Assumes nothing.
use Rattle.std.specs.Prelude.{◌≡◌, ℕ, List, [], ◌∷◌, ◌++◌, map, length, drop, ltb}
use Rattle.laws.specs.Pick.{pick}
use Rattle.numbers.specs.Refusals.{Told, gives, refuses, fault_at, too_short, longest_input}
use Rattle.numbers.specs.declared.refusal.Refusal.{Refusal}
use Rattle.objects.specs.Results.Reading.{Reading}
use Rattle.objects.specs.Results.Reading as reading
use Rattle.store.specs.Store.{store_walk}
use Rattle.store.specs.Tables.{most_elements}
use Rattle.request.specs.Message.{in_request}
use Rattle.enter.specs.Entering.{Kept, enter}
use Rattle.enter.specs.Package.{kept_in, packed}
use Rattle.client.specs.Read.{package_in, answer_end}
use Rattle.book.specs.Results.Keeping.{Keeping}
use Rattle.book.specs.Results.Keeping as keeping

pub data Outcome : Type 0 where
  refused : Refusal → Outcome
  kept : List ℕ → Outcome  -- the new book

-- ---- the elements of the new book: those of the book b, with those of the answer w entered

abbrev pub in_book : List ℕ → List Kept
in_book b = map (kept_in b) (store_walk b).elements

abbrev pub in_answer : List ℕ → List Kept
in_answer w = map (kept_in w) (package_in w).elements

unfoldable pub kept_elements : List ℕ → List ℕ → List Kept
kept_elements b w = enter (in_book b) (in_answer w)

-- ---- the refusals, from the last to the first

-- 1 for the new book, 14 for its buffer
unfoldable pub sized : List ℕ → ℕ → Outcome
sized new room = pick (ltb longest_input (length new)) (refused (fault_at 1 0)) (pick (ltb room (length new)) (refused (too_short (length new))) (kept new))

-- 9; the new book is its elements in a package that is written anew
unfoldable pub counted : List Kept → ℕ → Outcome
counted new room = pick (ltb most_elements (length new)) (refused (fault_at 9 0)) (sized (packed new) room)

-- the answer's faults, which is the second input
unfoldable pub on_answer : List ℕ → List ℕ → ℕ → Reading → Outcome
on_answer b w room (reading.At e v) = counted (kept_elements b w) room
on_answer b w room (reading.Refused r) = refused (in_request r)

-- the book's
unfoldable pub on_book : List ℕ → List ℕ → ℕ → Reading → Outcome
on_book b w room (reading.At e v) = on_answer b w room (answer_end w)
on_book b w room (reading.Refused r) = refused r

unfoldable pub keep_outcome : List ℕ → List ℕ → ℕ → Outcome
keep_outcome b w room = on_book b w room (store_walk b).last

-- ---- what the call answers: the new book's length

abbrev pub tell_keeping : Keeping → Told
tell_keeping (keeping.Book n) = gives (n ∷ [])
tell_keeping (keeping.Refused r) = refuses r

unfoldable pub keep_told : Outcome → Keeping
keep_told (refused r) = keeping.Refused r
keep_told (kept new) = keeping.Book (length new)

-- ---- and what the buffer then holds: on a refusal what it held; else the new book, and behind it what it held

unfoldable pub book_after : Outcome → List ℕ → List ℕ
book_after (refused r) t = t
book_after (kept new) t = new ++ drop (length new) t

-- what is promised where the outcome is o
abbrev pub GivesBook : Outcome → Keeping → List ℕ → List ℕ → Type 0
GivesBook o r new new' = (tell_keeping r ≡ tell_keeping (keep_told o)) × (new' ≡ book_after o new)

-- what the call promises
abbrev pub KeepsAnswer : List ℕ → List ℕ → Keeping → List ℕ → List ℕ → Type 0
KeepsAnswer b w r new new' = GivesBook (keep_outcome b w (length new)) r new new'
