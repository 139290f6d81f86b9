-- Where an answer is kept, the new book is a store: it reads, as exactly the elements that the definition says, in order, each with its id, its
-- serial number and its bytes as they came. What the answer does not name stays byte for byte. Keeping the same answer again changes nothing.
-- And a buffer as long as book and answer together is always long enough.
-- Assumes nothing.
use mathlib.Core.Path.{◌≡◌, refl, sym, ap, subst, ◌∙◌}
use mathlib.Core.Bool.{true, false}
use mathlib.Core.List.Memᴰ.{of_map}
use mathlib.Core.List.{List, [], map, Memᴰ as In}
use Prim.Native.Nat.{ℕ, ◌+◌, ◌≤◌}
use native.Mathlib.Omega.{arith}
use lib.ListN.{length}
use Rattle.laws.specs.Once.{seen, once}
use Rattle.numbers.specs.Refusals.{longest_input}
use Rattle.store.specs.Element.{same_key, ids_in}
use Rattle.store.specs.Store.{store_walk, Stands}
use Rattle.store.specs.Tables.{most_elements}
use Rattle.store.specs.declared.element.Element.{Element}
use Rattle.store.proofs.Chains.{store_read, ids_once, chain_ids_once}
use Rattle.enter.specs.Entering.{Kept, kept_id, enter}
use Rattle.enter.specs.Package.{kept_in, joined, packed}
use Rattle.enter.proofs.EnteringLaws.{unnamed_stays, enter_twice}
use Rattle.enter.proofs.KeptIn.{kept_in_parts, kept_in_ids}
use Rattle.enter.proofs.PackageLeast.{end_inside, chain_joined, store_joined, entered_joined, length_packed}
use Rattle.enter.proofs.PackageReads.{Readable, Piece, enters, ReadsAs, each_readable, entered_reads}
use Rattle.client.specs.Read.{package_in, answer_end, answer_strictness}
use Rattle.book.specs.Keep.{kept, in_book, in_answer, kept_elements, keep_outcome}
use Rattle.book.proofs.ReadRows.{answer_package}
use Rattle.book.specs.Refusing.{new_book, Enters}
use Rattle.book.proofs.Refusals.{nothing_refused, enters_kept}

-- no id twice in an answer that is read
pub answer_ids_once : (w : List ℕ) → Stands (answer_end w) → once same_key (ids_in (package_in w).elements) ≡ true
answer_ids_once w h = let r = answer_package w h in chain_ids_once answer_strictness w (package_in w).elements r.first r.end r.chain

-- the new book b' of a book b and an answer w
pub record AfterKeep (b w b' : List ℕ) : Type 0 where
  pub book_reads : Stands (store_walk b).last
  pub answer_reads : Stands (answer_end w)
  -- the new book reads
  pub reads : Stands (store_walk b').last
  -- keeping is entering
  pub elements : in_book b' ≡ enter (in_book b) (in_answer w)
  -- its bytes are those elements in a package, and nothing else
  pub written : b' ≡ packed (enter (in_book b) (in_answer w))

module _ (b w : List ℕ) (room : ℕ) (h : Enters b w room) where
  abbrev there : List Element
  there = (store_walk b).elements

  abbrev came : List Element
  came = (package_in w).elements

  -- an element of the answer is read wherever it stands: an answer's elements are read as strictly as a store's
  piece_came : (x : Kept) → In x (in_answer w) → Piece there came x
  piece_came x m =
      let (y, n, e) = of_map (kept_in w) came m in
      let r = answer_package w h.answer_reads in
      record {
        kind = y.kind;
        readable = subst (λ (z : Kept). Readable z y.kind) e (each_readable w [] came r.first r.end r.chain y n);
        source = enters y n (sym (kept_in_parts w y).0 ∙ ap kept_id e) refl;
      }

  new_reads : ReadsAs there came (enter (in_book b) (in_answer w))
  unfolding kept_elements
  new_reads = entered_reads b h.book_reads came (in_answer w) (kept_in_ids w came) piece_came (answer_ids_once w h.answer_reads) h.few h.short

  pub new_after : AfterKeep b w (new_book b w)
  unfolding kept_elements
  new_after = record { book_reads = h.book_reads; answer_reads = h.answer_reads; reads = new_reads.stands; elements = new_reads.elements; written = refl }

pub after_keep : (b w : List ℕ) (room : ℕ) (b' : List ℕ) → keep_outcome b w room ≡ kept b' → AfterKeep b w b'
after_keep b w room b' e = let r = nothing_refused b w room b' e in subst (AfterKeep b w) (sym r.1) (new_after b w room r.0)

-- ---- what the answer does not name stays, byte for byte

pub unnamed_kept : (b w b' : List ℕ) → AfterKeep b w b' → (x : Kept) → In x (in_book b) → seen same_key x.id (ids_in (package_in w).elements) ≡ false → In x (in_book b')
unnamed_kept b w b' a x m h =
    subst (In x) (sym a.elements) (unnamed_stays (in_book b) (in_answer w) x m (rw (kept_in_ids w (package_in w).elements) h))

-- ---- keeping the same answer again changes nothing

pub kept_again : (b w : List ℕ) (room : ℕ) (b' : List ℕ) → keep_outcome b w room ≡ kept b' → (again : ℕ) → length b' ≤ again → keep_outcome b' w again ≡ kept b'
unfolding kept_elements
kept_again b w room b' e again fits =
    let r = nothing_refused b w room b' e in
    let h = r.0 in
    let a = after_keep b w room b' e in
    let o : once same_key (map kept_id (in_answer w)) ≡ true = rw (kept_in_ids w (package_in w).elements) (answer_ids_once w h.answer_reads) in
    let same : kept_elements b' w ≡ kept_elements b w = ap (λ (l : List Kept). enter l (in_answer w)) a.elements ∙ enter_twice (in_book b) (in_answer w) o in
    let bytes : new_book b' w ≡ b' = ap packed same ∙ sym r.1 in
    enters_kept b' w again
    (record {
      book_reads = a.reads;
      answer_reads = h.answer_reads;
      few = subst (λ (l : List Kept). length l ≤ most_elements) (sym same) h.few;
      short = subst (λ (l : List ℕ). length l ≤ longest_input) (sym (ap packed same)) h.short;
      fits = subst (λ (l : List ℕ). length l ≤ again) (sym bytes) fits;
    })
    ∙ ap kept bytes

-- ---- how much room is enough

-- what comes is not longer than the answer
came_joined : (w : List ℕ) → Stands (answer_end w) → length (joined (in_answer w)) ≤ length w
came_joined w h =
    let r = answer_package w h in
    let i = chain_joined answer_strictness w [] (package_in w).elements r.first r.end r.chain in
    let l = end_inside w 0x15 r.end 0 r.behind 0 r.ends in
    omega arith

pub room_enough : (b w : List ℕ) → Stands (store_walk b).last → Stands (answer_end w) → length (new_book b w) ≤ length b + length w
unfolding kept_elements
room_enough b w h g =
    let there : once same_key (map kept_id (in_book b)) ≡ true = rw (kept_in_ids b (store_walk b).elements) (ids_once b (store_read b h)) in
    let came : once same_key (map kept_id (in_answer w)) ≡ true = rw (kept_in_ids w (package_in w).elements) (answer_ids_once w g) in
    let a = length_packed (kept_elements b w) in
    let i = entered_joined (in_book b) (in_answer w) there came in
    let j = store_joined b h in
    let k = came_joined w g in
    omega arith
