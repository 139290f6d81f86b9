-- One element of an answer that was received, by its position: the promise of the store's accessor, for the answer. "gets the element's
-- own bytes as a part of" it, "on a refusal .. the empty part at its front"; the answer's faults come first, then 9 for "a position
-- past the last element", at place 0.
-- Assumes nothing.
use Rattle.std.specs.Prelude.{◌≡◌, ℕ, List, ltb, length}
use Rattle.laws.specs.Pick.{pick}
use Rattle.store.specs.Accessor.{found_on, tell_found, bytes_at}
use Rattle.store.specs.Store.{laid_rows, laid_ids}
use Rattle.store.specs.Results.Found.{Found}
use Rattle.client.specs.Read.{longest_answer, package_in, answer_end}

unfoldable pub received_at : List ℕ → ℕ → Found
received_at s i = found_on (package_in s).elements i (answer_end s)

-- what asking where an element stands promises
abbrev pub FindsReceived : List ℕ → ℕ → Found → Type 0
FindsReceived s i r = tell_found r ≡ tell_found (received_at s i)

unfoldable pub received_bytes : List ℕ → ℕ → List ℕ
received_bytes s i = bytes_at s (received_at s i)

-- ---- as the code has it: the rows and ids of the elements stand in working tables, if the answer is not over-long

unfoldable pub rows_received : List ℕ → List ℕ → List ℕ
rows_received s t = pick (ltb longest_answer (length s)) t (laid_rows (package_in s) t)

unfoldable pub ids_received : List ℕ → List ℕ → List ℕ
ids_received s t = pick (ltb longest_answer (length s)) t (laid_ids (package_in s) t)
