-- When keeping an answer is refused: the book's first fault, then the answer's, then 9, 1 and 14, each exactly where its test holds and none
-- before it does; and nothing is refused exactly where none holds.
-- Assumes nothing.
use mathlib.Core.Path.{◌≡◌, refl, sym, ap, ◌∙◌}
use mathlib.Core.List.{List}
use Prim.Native.Nat.{ℕ}
use lib.ListN.{length}
use Rattle.laws.proofs.Cases.{by_lt, impossible}
use Rattle.numbers.specs.Refusals.{fault_at, too_short, longest_input}
use Rattle.numbers.specs.declared.refusal.Refusal.{Refusal}
use Rattle.objects.specs.Results.Reading.{Reading}
use Rattle.objects.specs.Results.Reading as reading
use Rattle.store.specs.Store.{store_walk, Stands}
use Rattle.store.specs.Tables.{most_elements}
use Rattle.request.specs.Message.{in_request}
use Rattle.client.specs.Read.{answer_end}
use Rattle.book.specs.Refusing.{new_book, Enters, WhyKeep, book, answer, too_many, too_long, buffer_short}
use Rattle.book.specs.Keep.{Outcome, refused, kept, kept_elements, counted, on_answer, on_book, keep_outcome}
use Rattle.book.proofs.Outcomes.{sized_long, sized_short, sized_fits, counted_over, counted_fits}

-- what the outcome is where it is known why
pub data Comes (b w : List ℕ) (room : ℕ) : Outcome → Type 0 where
  is_kept : Enters b w room → Comes b w room (kept (new_book b w))
  is_refused : (r : Refusal) → WhyKeep b w room r → Comes b w room (refused r)

module _ (b w : List ℕ) (room : ℕ) where
  comes_counted : Stands (store_walk b).last → Stands (answer_end w) → (o : Outcome) → o ≡ counted (kept_elements b w) room → Comes b w room o
  comes_counted h g o e =
      let new = kept_elements b w in
      let bytes = new_book b w in
      by_lt most_elements (length new)
      (λ l. rw (e ∙ counted_over new room (length new) refl l) (is_refused (fault_at 9 0) (too_many h g l refl)))
      (λ l.
      let f = e ∙ counted_fits new room (length new) refl l in
      by_lt longest_input (length bytes)
      (λ m. rw (f ∙ sized_long bytes room (length bytes) refl m) (is_refused (fault_at 1 0) (too_long h g l m refl)))
      (λ m.
      by_lt room (length bytes)
      (λ n. rw (f ∙ sized_short bytes room (length bytes) refl m n) (is_refused (too_short (length bytes)) (buffer_short h g l m n refl)))
      (λ n. rw (f ∙ sized_fits bytes room (length bytes) refl m n) (is_kept (record { book_reads = h; answer_reads = g; few = l; short = m; fits = n })))))

  comes_answer : Stands (store_walk b).last → (c : Reading) → answer_end w ≡ c → Comes b w room (on_answer b w room c)
  unfolding on_answer
  comes_answer h (reading.At e v) i = comes_counted h (rw i tt) _ refl
  comes_answer h (reading.Refused r) i = is_refused (in_request r) (answer r h i refl)

  comes_book : (c : Reading) → (store_walk b).last ≡ c → Comes b w room (on_book b w room c)
  unfolding on_book
  comes_book (reading.At e v) i = comes_answer (rw i tt) (answer_end w) refl
  comes_book (reading.Refused r) i = is_refused r (book i)

  pub keep_comes : Comes b w room (keep_outcome b w room)
  unfolding keep_outcome
  keep_comes = comes_book (store_walk b).last refl

  kept_enters : (o : Outcome) (b' : List ℕ) → Comes b w room o → o ≡ kept b' → Enters b w room × (b' ≡ new_book b w)
  kept_enters o b' (is_kept h) e = (h, cc)
  kept_enters o b' (is_refused r h) e = impossible (cc)

  refused_why : (o : Outcome) (r : Refusal) → Comes b w room o → o ≡ refused r → WhyKeep b w room r
  refused_why o r (is_kept h) e = impossible (cc)
  refused_why o r (is_refused q h) e = let i : q ≡ r = cc in rw i at h

  -- nothing is refused exactly where both read, and none of the three is met
  pub nothing_refused : (b' : List ℕ) → keep_outcome b w room ≡ kept b' → Enters b w room × (b' ≡ new_book b w)
  nothing_refused b' e = kept_enters (keep_outcome b w room) b' keep_comes e

  pub why_refused : (r : Refusal) → keep_outcome b w room ≡ refused r → WhyKeep b w room r
  why_refused r e = refused_why (keep_outcome b w room) r keep_comes e

  answer_kept : Enters b w room → (c : Reading) → Stands c → on_answer b w room c ≡ kept (new_book b w)
  unfolding on_answer
  answer_kept h (reading.At e v) s =
      counted_fits (kept_elements b w) room (length (kept_elements b w)) refl h.few ∙ sized_fits (new_book b w) room (length (new_book b w)) refl h.short h.fits
  answer_kept h (reading.Refused r) s = absurd s

  book_kept : Enters b w room → (c : Reading) → Stands c → on_book b w room c ≡ kept (new_book b w)
  unfolding on_book
  book_kept h (reading.At e v) s = answer_kept h (answer_end w) h.answer_reads
  book_kept h (reading.Refused r) s = absurd s

  pub enters_kept : Enters b w room → keep_outcome b w room ≡ kept (new_book b w)
  unfolding keep_outcome
  enters_kept h = book_kept h (store_walk b).last h.book_reads

  -- what there is a reason for is refused

  sized_refused : Stands (store_walk b).last → Stands (answer_end w) → (c d : Reading) → (store_walk b).last ≡ c → answer_end w ≡ d → (r : Refusal)
      → counted (kept_elements b w) room ≡ refused r → on_book b w room (store_walk b).last ≡ refused r
  unfolding on_book on_answer
  sized_refused h g (reading.At e v) (reading.At f u) i j r k = rw (i, j) k
  sized_refused h g (reading.Refused x) d i j r k = absurd (rw i at h)
  sized_refused h g (reading.At e v) (reading.Refused x) i j r k = absurd (rw j at g)

  answer_refused : Stands (store_walk b).last → (c : Reading) → (store_walk b).last ≡ c → (x : Refusal) → answer_end w ≡ reading.Refused x
      → on_book b w room (store_walk b).last ≡ refused (in_request x)
  unfolding on_book on_answer
  answer_refused h (reading.At e v) i x j = rw (i, j)
  answer_refused h (reading.Refused r) i x j = absurd (rw i at h)

  pub why_keep : (r : Refusal) → WhyKeep b w room r → keep_outcome b w room ≡ refused r
  unfolding keep_outcome on_book
  why_keep r (book h) = rw h
  why_keep r (answer x h i e) = answer_refused h (store_walk b).last refl x i ∙ ap refused (sym e)
  why_keep r (too_many h g l e) =
      sized_refused h g (store_walk b).last (answer_end w) refl refl r (counted_over (kept_elements b w) room (length (kept_elements b w)) refl l ∙ ap refused (sym e))
  why_keep r (too_long h g l m e) =
      sized_refused h g (store_walk b).last (answer_end w) refl refl r
      (counted_fits (kept_elements b w) room (length (kept_elements b w)) refl l ∙ sized_long (new_book b w) room (length (new_book b w)) refl m ∙ ap refused (sym e))
  why_keep r (buffer_short h g l m n e) =
      sized_refused h g (store_walk b).last (answer_end w) refl refl r
      (counted_fits (kept_elements b w) room (length (kept_elements b w)) refl l ∙ sized_short (new_book b w) room (length (new_book b w)) refl m n ∙ ap refused (sym e))
