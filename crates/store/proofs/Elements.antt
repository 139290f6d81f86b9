-- The elements that stand in the working tables: those whose rows and ids were put there, and their count.
-- Assumes nothing.
use mathlib.Core.Path.{◌≡◌, refl, sym, ap, ap₂, ◌∙◌}
use mathlib.Core.List.{List, [], ◌∷◌, ◌++◌, append_assoc}
use Prim.Native.Nat.{ℕ, zero, suc, ◌+◌, ◌-◌, ◌*◌, ◌≤◌, ◌<◌}
use native.Mathlib.Omega.{arith}
use lib.ListN.{length, get_or, length-append}
use lib.Seq.{get_or-append-add}
use Rattle.store.specs.Tables.{row_width, id_width, RowsStand, key_at, row_of, id_of, flat, rows_of, ids_of, element_in_row, elements_in_rows, elements_in}
use Rattle.store.specs.declared.element.Key.{Key}
use Rattle.store.specs.declared.element.Element.{Element}

-- the rows up to one of them stand there too
pub rows_up_to : {rows ids : List ℕ} {n : ℕ} → RowsStand rows ids n → (i : ℕ) → i ≤ n → RowsStand rows ids i
rows_up_to h i l = let a = h.row_room in let b = h.id_room in record { row_room = omega arith; id_room = omega arith }

pub length_elements : (rows ids : List ℕ) (i n : ℕ) → length (elements_in_rows rows ids i n) ≡ n
unfolding elements_in_rows
length_elements rows ids i zero = refl
length_elements rows ids i (suc n) = ap suc (length_elements rows ids (suc i) n)

-- one more row of those still to come
pub elements_turn : (rows ids : List ℕ) (i n : ℕ) → i < n → elements_in_rows rows ids i (n - i) ≡ element_in_row rows ids i ∷ elements_in_rows rows ids (suc i) (n - suc i)
unfolding elements_in_rows
elements_turn rows ids i n h = let e : n - i ≡ suc (n - suc i) = omega arith in rw e

pub elements_end : (rows ids : List ℕ) (i n : ℕ) → n ≤ i → elements_in_rows rows ids i (n - i) ≡ []
unfolding elements_in_rows
elements_end rows ids i n h = let e : n - i ≡ 0 = omega arith in rw e

-- ---- the elements that were put into both tables stand there

pub key_stands : (k : Key) (pre l : List ℕ) (at offset : ℕ) → length pre + offset ≡ at → get_or l offset 0 ≡ k.low → get_or l (offset + 1) 0 ≡ k.high
    → get_or l (offset + 2) 0 ≡ k.number
    → key_at (pre ++ l) at ≡ k
unfolding key_at
key_stands k pre l at offset h a b c =
    let d : at ≡ length pre + offset = sym h in
    let e : at + 1 ≡ length pre + (offset + 1) = omega arith in
    let f : at + 2 ≡ length pre + (offset + 2) = omega arith in
    rw (e, f, d, get_or-append-add pre l offset 0, get_or-append-add pre l (offset + 1) 0, get_or-append-add pre l (offset + 2) 0, a, b, c)

element_stands : (x : Element) (pre before t u : List ℕ) (i : ℕ) → length pre ≡ i * row_width → length before ≡ i * id_width
    → element_in_row (pre ++ (row_of x ++ t)) (before ++ (id_of x.id ++ u)) i ≡ x
unfolding element_in_row
element_stands x pre before t u i h g =
    let a : i * row_width ≡ length pre + 0 = omega arith in
    let b : i * row_width + 1 ≡ length pre + 1 = omega arith in
    let c : i * row_width + 2 ≡ length pre + 2 = omega arith in
    let s = key_stands x.serial pre (row_of x ++ t) (i * row_width + 3) 3 (omega arith) refl refl refl in
    let k = key_stands x.id before (id_of x.id ++ u) (i * id_width) 0 (omega arith) refl refl refl in
    rw (s, k, b, c, a, get_or-append-add pre (row_of x ++ t) 0 0, get_or-append-add pre (row_of x ++ t) 1 0, get_or-append-add pre (row_of x ++ t) 2 0)

elements_behind_lem : (es : List Element) (pre before t u : List ℕ) (i : ℕ) → length pre ≡ i * row_width → length before ≡ i * id_width
    → elements_in_rows (pre ++ (rows_of es ++ t)) (before ++ (ids_of es ++ u)) i (length es) ≡ es
unfolding elements_in_rows flat
elements_behind_lem [] pre before t u i h g = refl
elements_behind_lem (x ∷ es) pre before t u i h g =
    let p : pre ++ ((row_of x ++ rows_of es) ++ t) ≡ pre ++ (row_of x ++ (rows_of es ++ t)) = ap (λ (l : List ℕ). pre ++ l) (append_assoc (row_of x) (rows_of es) t) in
    let q : before ++ ((id_of x.id ++ ids_of es) ++ u) ≡ before ++ (id_of x.id ++ (ids_of es ++ u)) =
    ap (λ (l : List ℕ). before ++ l) (append_assoc (id_of x.id) (ids_of es) u) in
    let p' : pre ++ (row_of x ++ (rows_of es ++ t)) ≡ (pre ++ row_of x) ++ (rows_of es ++ t) = sym (append_assoc pre (row_of x) (rows_of es ++ t)) in
    let q' : before ++ (id_of x.id ++ (ids_of es ++ u)) ≡ (before ++ id_of x.id) ++ (ids_of es ++ u) = sym (append_assoc before (id_of x.id) (ids_of es ++ u)) in
    let m : length (pre ++ row_of x) ≡ suc i * row_width = let a = length-append pre (row_of x) in omega arith in
    let n : length (before ++ id_of x.id) ≡ suc i * id_width = let a = length-append before (id_of x.id) in omega arith in
    let r : elements_in_rows (pre ++ (row_of x ++ (rows_of es ++ t))) (before ++ (id_of x.id ++ (ids_of es ++ u))) (suc i) (length es) ≡ es =
    ap₂ (λ (l k : List ℕ). elements_in_rows l k (suc i) (length es)) p' q' ∙ elements_behind_lem es (pre ++ row_of x) (before ++ id_of x.id) t u (suc i) m n in
    ap₂ (λ (y : Element) (ys : List Element). y ∷ ys)
    (ap₂ (λ (l k : List ℕ). element_in_row l k i) p q ∙ element_stands x pre before (rows_of es ++ t) (ids_of es ++ u) i h g)
    (ap₂ (λ (l k : List ℕ). elements_in_rows l k (suc i) (length es)) p q ∙ r)

pub elements_held : (es : List Element) (t u : List ℕ) → elements_in (rows_of es ++ t) (ids_of es ++ u) (length es) ≡ es
elements_held es t u = elements_behind_lem es [] [] t u 0 refl refl
