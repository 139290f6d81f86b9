-- Rows that are weighed. What holds of each of those that flags choose holds of a row whose flag is set;
-- one position of a queue; and rows weighed by their own column of lengths are the elements that stand in them.
-- Assumes nothing.
use mathlib.Core.Path.{◌≡◌, refl, ap, ◌∙◌}
use mathlib.Core.Bool.{false}
use mathlib.Core.List.{List, [], ◌∷◌, map}
use Prim.Native.Nat.{ℕ, zero, suc, ◌+◌, ◌<◌}
use native.Mathlib.Omega.{arith}
use lib.ListN.{length, take, get_or, length-map}
use lib.Seq.{get_or-take, length-take-le}
use lib.Dec.{eqb}
use borrow.Author.Tests.{ne_eqb}
use Rattle.laws.proofs.Cases.{by_bool}
use Rattle.talk.specs.Each.{Each}
use Rattle.talk.proofs.Things.{each_so}
use Rattle.store.specs.Tables.{RowsStand, element_in_row, elements_in_rows, elements_in}
use Rattle.store.specs.declared.element.Element.{Element}
use Rattle.order.specs.Queue.{chosen, positions_from, queued_in, Queued}
use Rattle.order.proofs.Queueing.{each_get}
use Rattle.pages.specs.Weighed.{length_place, length_column, weighed, weighed_in, weighed_rows, WeighsRow, Weighs}
use Rattle.pages.specs.declared.weighed.Column.{Column}

-- ---- a row whose flag is not 0 is among those that are chosen

pub chosen_row : (P : Element → Type 0) (f : ℕ → Element) (i n : ℕ) (flags : List ℕ) → Each P (chosen (map f (positions_from i n)) flags) → (j : ℕ) → j < n → 0 < get_or flags j 0 → P (f (i + j))
unfolding chosen positions_from
chosen_row P f i zero flags h j l z = absurd (omega arith)
chosen_row P f i (suc n) [] h j l z = absurd (omega arith)
chosen_row P f i (suc n) (b ∷ flags) h zero l z =
    let e : i + 0 ≡ i = omega arith in
    let g : eqb b 0 ≡ false = ne_eqb b 0 (λ y. omega arith) in
    rw e (rw g at h).0
chosen_row P f i (suc n) (b ∷ flags) h (suc j) l z =
    let e : i + suc j ≡ suc i + j = omega arith in
    rw e
    (by_bool (eqb b 0)
    (λ g. chosen_row P f (suc i) n flags (rw g at h) j (omega arith) z)
    (λ g. chosen_row P f (suc i) n flags (rw g at h).1 j (omega arith) z))

-- ---- a queue of rows

pub length_weighed_lem : {rows ids lengths : List ℕ} {c : Column} {queue : List ℕ} {w : ℕ} → Weighs rows ids lengths c queue w → length (weighed_in rows ids lengths c w queue) ≡ w
length_weighed_lem {rows} {ids} {lengths} {c} {queue} {w} q = length-map (take w queue) (weighed rows ids lengths c) ∙ length-take-le w queue q.long

pub weighs_row : {rows ids lengths : List ℕ} {c : Column} {queue : List ℕ} {w : ℕ} → Weighs rows ids lengths c queue w → (k : ℕ) → k < w → WeighsRow rows ids lengths c (get_or queue k 0)
weighs_row {rows} {ids} {lengths} {c} {queue} {w} q k h =
    let l = q.long in
    rw (get_or-take w queue k 0 h) at
    (each_get (λ (i : ℕ). WeighsRow rows ids lengths c i) (take w queue) k (omega (arith, length-take-le w queue l)) q.within)

-- ---- rows are a table of their own lengths

module _ (rows ids : List ℕ) where
  pub weighed_itself : (i : ℕ) → weighed rows ids rows length_column i ≡ element_in_row rows ids i
  unfolding weighed element_in_row
  weighed_itself i = refl

  weighed_places : (l : List ℕ) → map (weighed rows ids rows length_column) l ≡ map (λ (i : ℕ). element_in_row rows ids i) l
  weighed_places [] = refl
  weighed_places (i ∷ l) = rw (weighed_itself i, weighed_places l)

  pub weighed_queue : (w : ℕ) (queue : List ℕ) → weighed_in rows ids rows length_column w queue ≡ queued_in rows ids w queue
  weighed_queue w queue = weighed_places (take w queue)

  elements_placed : (i n : ℕ) → map (λ (j : ℕ). element_in_row rows ids j) (positions_from i n) ≡ elements_in_rows rows ids i n
  unfolding positions_from elements_in_rows
  elements_placed i zero = refl
  elements_placed i (suc n) = ap (λ (l : List Element). element_in_row rows ids i ∷ l) (elements_placed (suc i) n)

  pub weighed_elements : (n : ℕ) → weighed_rows rows ids rows length_column n ≡ elements_in rows ids n
  weighed_elements n = weighed_places (positions_from 0 n) ∙ elements_placed 0 n

  pub length_inside : (i : ℕ) → RowsStand rows ids (i + 1) → length_place length_column i < length rows
  length_inside i h = let a = h.row_room in omega arith

  pub weighs_itself : {queue : List ℕ} {w : ℕ} → Queued rows ids queue w → Weighs rows ids rows length_column queue w
  weighs_itself {queue} {w} q =
      record {
        long = q.long;
        within = each_so (λ (i : ℕ). RowsStand rows ids (i + 1)) (λ (i : ℕ). WeighsRow rows ids rows length_column i) (take w queue) (λ i h. (h, length_inside i h)) q.within;
      }
