-- What the working tables hold after a store was read into them; and the ranges with the serial numbers of some of its elements.
-- Assumes nothing.
use mathlib.Core.Path.{◌≡◌, sym, subst}
use mathlib.Core.List.{List, [], ◌∷◌}
use Prim.Native.Nat.{ℕ, zero, suc, ◌+◌, ◌*◌, ◌^◌, ◌≤◌, ◌<◌}
use native.Mathlib.Omega.{arith}
use lib.ListN.{length, drop, length-append}
use Rattle.laws.specs.Bytes.{AllBytes}
use Rattle.laws.proofs.Cases.{by_lt, impossible}
use Rattle.numbers.specs.Refusals.{longest_input}
use Rattle.objects.specs.Results.Reading.{Reading}
use Rattle.objects.specs.Results.Reading as reading
use Rattle.talk.specs.Each.{Each}
use Rattle.talk.specs.Ranges.{insert, Normal, AllFit}
use Rattle.talk.specs.declared.range.Range.{Range}
use Rattle.talk.proofs.Bounds.{insert_fits}
use Rattle.talk.proofs.Insertion.{normal_insert}
use Rattle.ranges.specs.Ranged.{range_of}
use Rattle.store.specs.Store.{store_walk, stored_of, WalkedTo, Stands}
use Rattle.store.specs.Tables.{row_width, id_width, most_elements, row_numbers, rows_of, ids_of, element_in_row, elements_in_rows, elements_in}
use Rattle.store.specs.Written.{key_guid}
use Rattle.store.specs.Held.{StoreHeld, key_range, serial_range, ranges_with}
use Rattle.store.specs.declared.element.Element.{Element}
use Rattle.store.specs.Results.Stored.{Stored}
use Rattle.store.specs.Results.Stored as stored
use Rattle.store.proofs.Found.{store_most, rows_length, ids_length, laid_long, store_holds}
use Rattle.store.proofs.Chains.{over_long_lem, store_read}
use Rattle.store.proofs.Elements.{elements_held}
use Rattle.store.proofs.ElementFits.{ElementFits, elements_fit}
use Rattle.store.proofs.ElementLeast.{elements_least}
use Rattle.store.proofs.KnowledgeFits.{range_fits}

-- ---- the tables

-- what holds of each element holds of the one of row i
pub each_at : (P : Element → Type 0) (rows ids : List ℕ) (k n i : ℕ) → i < n → Each P (elements_in_rows rows ids k n) → P (element_in_row rows ids (k + i))
unfolding elements_in_rows
each_at P rows ids k zero i h e = absurd (omega arith)
each_at P rows ids k (suc n) zero h e = let q : k + 0 ≡ k = omega arith in rw q e.0
each_at P rows ids k (suc n) (suc i) h e = let q : k + suc i ≡ suc k + i = omega arith in rw q (each_at P rows ids (suc k) n i (omega arith) e.1)

holds_stands : (m n : ℕ) (c : Reading) → stored_of m c ≡ stored.Holds n → Stands c
unfolding stored_of
holds_stands m n (reading.At e v) q = tt
holds_stands m n (reading.Refused r) q = impossible (cc)

pub store_held : (s rows ids rows' ids' : List ℕ) (n : ℕ) → AllBytes s → row_numbers ≤ length rows → most_elements * id_width ≤ length ids
    → WalkedTo (store_walk s) (stored.Holds n) rows rows' ids ids' → StoreHeld s rows' ids' n
store_held s rows ids rows' ids' n b h g w =
    let els = (store_walk s).elements in
    let c : length els ≡ n = (store_holds s n (sym w.0)).0 in
    let m : length els ≤ most_elements = store_most s in
    let t = holds_stands (length els) n (store_walk s).last (sym w.0) in
    let l : elements_in rows' ids' n ≡ els = rw (w.1, w.2, ← c) (elements_held els (drop (length els * row_width) rows) (drop (length els * id_width) ids)) in
    record {
      count = sym c;
      held = l;
      most = omega arith;
      stand = record {
        row_room = rw w.1 (omega (arith, length-append (rows_of els) (drop (length els * row_width) rows), rows_length els));
        id_room = rw w.2 (omega (arith, length-append (ids_of els) (drop (length els * id_width) ids), ids_length els));
      };
      short = by_lt longest_input (length s) (λ k. absurd (over_long_lem s k t)) (λ k. k);
      fits = elements_fit s b (store_read s t);
      least = elements_least s t;
    }

-- both tables are as long as they were
pub store_long : (s rows ids rows' ids' : List ℕ) (r : Stored) → length rows ≡ row_numbers → length ids ≡ most_elements * id_width
    → WalkedTo (store_walk s) r rows rows' ids ids' → (row_numbers ≡ length rows') × (most_elements * id_width ≡ length ids')
store_long s rows ids rows' ids' r l g w = laid_long (store_walk s) rows ids rows' ids' (store_most s) l g w.1 w.2

-- row by row: where an element stands, and the number of its id
module _ {s rows ids : List ℕ} {n : ℕ} (h : StoreHeld s rows ids n) where
  pub fits_row : (i : ℕ) → i < n → ElementFits s (element_in_row rows ids i)
  fits_row i k =
      let z : 0 + i ≡ i = omega arith in
      rw z at (each_at (ElementFits s) rows ids 0 n i k (subst (Each (ElementFits s)) (sym h.held) h.fits))

  pub short_row : (i : ℕ) → i < n → (element_in_row rows ids i).length ≤ 2 ^ 24
  short_row i k = let a = (fits_row i k).0 in let b = h.short in omega arith

  pub least_row : (i : ℕ) → i < n → 46 ≤ (element_in_row rows ids i).length
  least_row i k =
      let z : 0 + i ≡ i = omega arith in
      rw z at (each_at (λ (x : Element). 46 ≤ x.length) rows ids 0 n i k (subst (Each (λ (x : Element). 46 ≤ x.length)) (sym h.held) h.least))

  pub id_row_lem : (i : ℕ) → i < n → (element_in_row rows ids i).id.number < 2 ^ 32
  id_row_lem i k = (fits_row i k).1

-- ---- the ranges with elements

-- an element's serial number is a range that holds a number
serial_some : (x : Element) → (serial_range x).from ≤ (serial_range x).to
unfolding serial_range key_range range_of
serial_some x = omega arith

pub normal_with : (xs : List Element) (l : List Range) → Normal l → Normal (ranges_with l xs)
unfolding ranges_with
normal_with [] l n = n
normal_with (x ∷ xs) l n = normal_with xs (insert (serial_range x) l) (normal_insert (serial_range x) l (serial_some x) n)

-- where the serial numbers are of 64 bits, so are the ranges with them
pub fit_with : (xs : List Element) (l : List Range) → Each (λ (x : Element). x.serial.number < 2 ^ 64) xs → AllFit l → AllFit (ranges_with l xs)
unfolding ranges_with serial_range key_range
fit_with [] l h f = f
fit_with (x ∷ xs) l h f =
    fit_with xs (insert (serial_range x) l) h.1
    (insert_fits (serial_range x) l (range_fits (key_guid x.serial) x.serial.number x.serial.number h.0 h.0) f)
