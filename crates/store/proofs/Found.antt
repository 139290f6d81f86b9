-- An element found by its position is the one whose row stands there.
-- Assumes nothing.
use mathlib.Core.Path.{◌≡◌, refl}
use mathlib.Core.List.{List, [], ◌∷◌, ◌++◌, map, append_assoc}
use Prim.Native.Nat.{ℕ, zero, suc, ◌+◌, ◌*◌, ◌≤◌, ◌<◌}
use native.Mathlib.Omega.{arith}
use lib.ListN.{length, take, drop, length-append, length-drop}
use lib.Seq.{get_or-append-add}
use lib.Dec.{ltb}
use Rattle.std.specs.Result.{result_unwrap_or}
use Rattle.laws.proofs.Cases.{pick_all, impossible}
use Rattle.numbers.specs.Refusals.{fault_at, longest_input}
use Rattle.numbers.specs.declared.refusal.Refusal.{Refusal}
use Rattle.objects.specs.Steps.{nothing_open, next_is}
use Rattle.objects.specs.Results.Reading.{Reading}
use Rattle.objects.specs.Results.Reading as reading
use Rattle.store.specs.Element.{element_at}
use Rattle.store.specs.Tables.{row_width, id_width, most_elements, row_numbers, RowsStand, row_of, id_of, flat, rows_of, ids_of, element_in_row}
use Rattle.store.specs.Store.{Walk, on_element, walk_from, package_start, package_walk, store_walk, stored_of, store_answer, laid_rows, laid_ids, store_strictness}
use Rattle.store.specs.Accessor.{element_in, found_on, found_in, bytes_at}
use Rattle.store.specs.declared.element.Element.{Element}
use Rattle.store.specs.Results.ReadElement.{ReadElement}
use Rattle.store.specs.Results.ReadElement as element
use Rattle.store.specs.declared.element.Strictness.{Strictness}
use Rattle.store.specs.Results.Stored as stored
use Rattle.store.specs.Results.Found.{At, Found, Refused}
use Rattle.store.proofs.Rows.{length_flat}

-- whatever stands in the table of ids
pub found_row : (done : List Element) (t ids : List ℕ) (i : ℕ) → i < length done
    → element_in done i ≡ At (element_in_row (rows_of done ++ t) ids i).place (element_in_row (rows_of done ++ t) ids i).length
unfolding element_in element_in_row flat
found_row [] t ids i h = absurd (omega arith)
found_row (x ∷ done) t ids zero h = refl
found_row (x ∷ done) t ids (suc i) h =
    let e : (row_of x ++ rows_of done) ++ t ≡ row_of x ++ (rows_of done ++ t) = append_assoc (row_of x) (rows_of done) t in
    let a : suc i * row_width ≡ row_width + i * row_width = omega arith in
    let b : row_width + i * row_width + 1 ≡ row_width + (i * row_width + 1) = omega arith in
    rw (e, a, b, get_or-append-add (row_of x) (rows_of done ++ t) (i * row_width) 0, get_or-append-add (row_of x) (rows_of done ++ t) (i * row_width + 1) 0)
    (found_row done t ids i (omega arith))

pub found_none : (done : List Element) (i : ℕ) → length done ≤ i → element_in done i ≡ Refused (fault_at 9 0)
unfolding element_in
found_none [] i h = refl
found_none (x ∷ done) zero h = absurd (omega arith)
found_none (x ∷ done) (suc i) h = found_none done i (omega arith)

-- the bytes at what was found; on a refusal none, at the front
pub part_found : (s : List ℕ) (f : Found) → take (result_unwrap_or f (0, 0)).1 (drop (result_unwrap_or f (0, 0)).0 s) ≡ bytes_at s f
part_found s (At at n) = refl
part_found s (Refused r) = refl

-- ---- at most so many elements

pub on_most : (go : List Element → Reading → Walk) (done : List Element) (r : ReadElement) (most : ℕ) → length done ≤ most
    → ((x : Element) (c : Reading) → length (go (done ++ (x ∷ [])) c).elements ≤ most) → length (on_element go done r).elements ≤ most
on_most go done (element.Is x) most h f = f x (reading.At (x.place + x.length) 0)
on_most go done (element.Refused r) most h f = h

walk_most : (strict : Strictness) (left : ℕ) (s : List ℕ) (done : List Element) (c : Reading) → length (walk_from strict left s done c).elements ≤ length done + left
unfolding walk_from
walk_most strict zero s done c =
    pick_all (λ (w : Walk). length w.elements ≤ length done + 0) (next_is s 0x01 c) _ _ (λ e. omega arith) (λ e. omega arith)
walk_most strict (suc left) s done c =
    pick_all (λ (w : Walk). length w.elements ≤ length done + suc left) (next_is s 0x01 c) _ _
    (λ e.
    on_most (λ more e. walk_from strict left s more e) done
    (element_at strict (map (λ (x : Element). x.id) done) s c) (length done + suc left) (omega arith)
    (λ x d. let l = length-append done (x ∷ []) in let m = walk_most strict left s (done ++ (x ∷ [])) d in omega arith))
    (λ e. omega arith)

pub package_most : (strict : Strictness) (outer : ℕ) (s : List ℕ) (c : Reading) → length (package_walk strict outer s c).elements ≤ most_elements
package_most strict outer s c = let m = walk_most strict most_elements s [] (package_start strict.padding outer s c) in omega arith

pub store_most : (s : List ℕ) → length (store_walk s).elements ≤ most_elements
unfolding store_walk
store_most s =
    pick_all (λ (w : Walk). length w.elements ≤ most_elements) (ltb longest_input (length s)) _ _ (λ e. omega arith)
    (λ e. package_most store_strictness nothing_open s (reading.At 0 0))

-- ---- the tables are as long as they were

pub rows_length : (es : List Element) → length (rows_of es) ≡ length es * row_width
rows_length es = length_flat row_of row_width (λ x. refl) es

pub ids_length : (es : List Element) → length (ids_of es) ≡ length es * id_width
ids_length es = length_flat (λ x. id_of x.id) id_width (λ x. refl) es

pub laid_long : (w : Walk) (rows ids rows' ids' : List ℕ) → length w.elements ≤ most_elements → length rows ≡ row_numbers
    → length ids ≡ most_elements * id_width
    → rows' ≡ laid_rows w rows
    → ids' ≡ laid_ids w ids
    → (row_numbers ≡ length rows') × (most_elements * id_width ≡ length ids')
laid_long w rows ids rows' ids' m l g x y =
    let els = w.elements in (
      rw x (omega (arith, length-append (rows_of els) (drop (length els * row_width) rows), rows_length els, length-drop (length els * row_width) rows)),
      rw y (omega (arith, length-append (ids_of els) (drop (length els * id_width) ids), ids_length els, length-drop (length els * id_width) ids)),
    )

-- and have room for each of the elements
pub full_rows : (rows ids : List ℕ) (n : ℕ) → row_numbers ≡ length rows → most_elements * id_width ≡ length ids → n ≤ most_elements → RowsStand rows ids n
full_rows rows ids n a b m = record { row_room = omega arith; id_room = omega arith }

-- ---- what the answer says of the walk

holds_on : (m n : ℕ) (done : List Element) (last : Reading) → stored_of m last ≡ stored.Holds n → (m ≡ n) × ((i : ℕ) → found_on done i last ≡ element_in done i)
unfolding stored_of
holds_on m n done (reading.At e v) q = (cc, λ i. refl)
holds_on m n done (reading.Refused r) q = impossible (cc)

refused_on : (m : ℕ) (r : Refusal) (done : List Element) (last : Reading) → stored_of m last ≡ stored.Refused r → (i : ℕ) → found_on done i last ≡ Refused r
unfolding stored_of
refused_on m r done (reading.At e v) q i = impossible (cc)
refused_on m r done (reading.Refused r') q i = cc

pub store_holds : (s : List ℕ) (n : ℕ) → store_answer (store_walk s) ≡ stored.Holds n
    → (length (store_walk s).elements ≡ n) × ((i : ℕ) → found_in s i ≡ element_in (store_walk s).elements i)
unfolding found_in
store_holds s n q = holds_on (length (store_walk s).elements) n (store_walk s).elements (store_walk s).last q

pub store_refused : (s : List ℕ) (r : Refusal) → store_answer (store_walk s) ≡ stored.Refused r → (i : ℕ) → found_in s i ≡ Refused r
unfolding found_in
store_refused s r q i = refused_on (length (store_walk s).elements) r (store_walk s).elements (store_walk s).last q i
