-- The outcome of keeping, step by step: each test of the definition with what the call then answers, and what the buffer holds.
-- Assumes nothing.
use mathlib.Core.Path.{◌≡◌, refl, ap, ◌∙◌}
use mathlib.Core.List.{List}
use Prim.Native.Nat.{ℕ, ◌≤◌, ◌<◌}
use native.Mathlib.Omega.{arith}
use lib.ListN.{length}
use borrow.Author.Tests.{lt-ltb, le-ltb}
use Rattle.laws.specs.Placed.{Lays}
use Rattle.laws.proofs.Cases.{impossible}
use Rattle.laws.proofs.Placing.{laid_front}
use Rattle.numbers.specs.Refusals.{fault_at, too_short, longest_input}
use Rattle.numbers.specs.declared.refusal.Refusal.{Refusal}
use Rattle.objects.specs.Results.Reading.{Reading}
use Rattle.objects.specs.Results.Reading as reading
use Rattle.store.specs.Store.{store_walk, stored_of, store_answer, Stands}
use Rattle.store.specs.Tables.{most_elements}
use Rattle.store.specs.Results.Stored as stored
use Rattle.request.specs.Message.{in_request}
use Rattle.enter.specs.Entering.{Kept}
use Rattle.enter.specs.Package.{packed}
use Rattle.client.specs.Read.{answer_end}
use Rattle.book.specs.Keep.{refused, kept, kept_elements, sized, counted, on_answer, on_book, keep_outcome, keep_told, book_after, GivesBook}
use Rattle.book.specs.Results.Keeping as keeping

-- what is refused leaves the buffer
pub refused_gives : (r : Refusal) (new : List ℕ) → GivesBook (refused r) (keeping.Refused r) new new
unfolding keep_told book_after
refused_gives r new = (refl, refl)

kept_gives : (new t t' : List ℕ) (n p : ℕ) → n ≡ length new → Lays 0 new t p t' → GivesBook (kept new) (keeping.Book n) t t'
unfolding keep_told book_after
kept_gives new t t' n p e a = (rw e, a.1 ∙ laid_front new t)

-- ---- 1 for the new book, 14 for its buffer

module _ (new : List ℕ) (room n : ℕ) (whole : n ≡ length new) where
  pub sized_long : longest_input < n → sized new room ≡ refused (fault_at 1 0)
  unfolding sized
  sized_long h = let e : longest_input < length new = omega arith in rw (lt-ltb _ _ e)

  pub sized_short : n ≤ longest_input → room < n → sized new room ≡ refused (too_short n)
  unfolding sized
  sized_short h g = let e : length new ≤ longest_input = omega arith in let f : room < length new = omega arith in rw (le-ltb _ _ e, lt-ltb _ _ f, whole)

  pub sized_fits : n ≤ longest_input → n ≤ room → sized new room ≡ kept new
  unfolding sized
  sized_fits h g = let e : length new ≤ longest_input = omega arith in let f : length new ≤ room = omega arith in rw (le-ltb _ _ e, le-ltb _ _ f)

  pub sized_gives : n ≤ longest_input → n ≤ room → (t t' : List ℕ) (p : ℕ) → Lays 0 new t p t' → GivesBook (sized new room) (keeping.Book n) t t'
  sized_gives h g t t' p a = rw (sized_fits h g) (kept_gives new t t' n p whole a)

-- ---- 9

module _ (new : List Kept) (room n : ℕ) (many : n ≡ length new) where
  pub counted_over : most_elements < n → counted new room ≡ refused (fault_at 9 0)
  unfolding counted
  counted_over h = let e : most_elements < length new = omega arith in rw (lt-ltb _ _ e)

  pub counted_fits : n ≤ most_elements → counted new room ≡ sized (packed new) room
  unfolding counted
  counted_fits h = let e : length new ≤ most_elements = omega arith in rw (le-ltb _ _ e)

-- ---- the answer's faults

answer_on_lem : (b w : List ℕ) (room : ℕ) (c : Reading) → Stands c → on_answer b w room c ≡ counted (kept_elements b w) room
unfolding on_answer
answer_on_lem b w room (reading.At e v) h = refl
answer_on_lem b w room (reading.Refused r) h = absurd h

pub answer_fine : (b w : List ℕ) (room : ℕ) → Stands (answer_end w) → on_answer b w room (answer_end w) ≡ counted (kept_elements b w) room
answer_fine b w room h = answer_on_lem b w room (answer_end w) h

pub answer_faulty : (b w : List ℕ) (room : ℕ) (r : Refusal) → answer_end w ≡ reading.Refused r → on_answer b w room (answer_end w) ≡ refused (in_request r)
unfolding on_answer
answer_faulty b w room r e = rw e

-- ---- the book's

faulty_on : (b w : List ℕ) (room m : ℕ) (r : Refusal) (c : Reading) → stored_of m c ≡ stored.Refused r → on_book b w room c ≡ refused r
unfolding stored_of on_book
faulty_on b w room m r (reading.At e v) h = impossible (cc)
faulty_on b w room m r (reading.Refused t) h = let e : t ≡ r = cc in ap refused e

pub book_faulty : (b w : List ℕ) (room : ℕ) (r : Refusal) → store_answer (store_walk b) ≡ stored.Refused r → keep_outcome b w room ≡ refused r
unfolding keep_outcome
book_faulty b w room r h = faulty_on b w room (length (store_walk b).elements) r (store_walk b).last h

fine_on : (b w : List ℕ) (room m n : ℕ) (c : Reading) → stored_of m c ≡ stored.Holds n → on_book b w room c ≡ on_answer b w room (answer_end w)
unfolding stored_of on_book
fine_on b w room m n (reading.At e v) h = refl
fine_on b w room m n (reading.Refused t) h = impossible (cc)

pub book_fine : (b w : List ℕ) (room n : ℕ) → store_answer (store_walk b) ≡ stored.Holds n → keep_outcome b w room ≡ on_answer b w room (answer_end w)
unfolding keep_outcome
book_fine b w room n h = fine_on b w room (length (store_walk b).elements) n (store_walk b).last h
