-- Whether a serial number stands twice among rows, found by looking at each among those before it: the test is the same, since to be
-- the same key does not care for the order.
-- Assumes nothing.
use mathlib.Core.Path.{◌≡◌, refl, sym, ap, ◌∙◌}
use mathlib.Core.Bool.{true, false}
use mathlib.Core.List.{List, [], ◌∷◌, ◌++◌, map}
use Prim.Native.Nat.{ℕ, zero, suc, ◌+◌, ◌-◌, ◌*◌, ◌≤◌, ◌<◌}
use native.Mathlib.Omega.{arith}
use lib.ListN.{length, set}
use Rattle.laws.specs.Once.{seen, once}
use Rattle.laws.proofs.Cases.{by_bool, impossible}
use Rattle.laws.proofs.Twice.{once_more, once_before}
use Rattle.store.specs.Element.{same_key}
use Rattle.store.specs.Tables.{row_width, serial_column, key_at, keys_at, serial_keys, mark_of, key_marks, Marked, element_in_row, elements_in_rows, elements_in}
use Rattle.store.specs.declared.element.Key.{Key}
use Rattle.store.specs.declared.element.Element.{Element}
use Rattle.store.proofs.Chains.{same_turn}
use Rattle.store.proofs.Rows.{keys_more, keys_turn, keys_split}
use Rattle.store.proofs.Walks.{none_marked, marked_more}

-- the serial numbers of the rows are those of the elements that stand there
serials_from : (rows ids : List ℕ) (i n : ℕ) → keys_at rows (i * row_width + serial_column) row_width n ≡ map (λ (x : Element). x.serial) (elements_in_rows rows ids i n)
unfolding keys_at elements_in_rows element_in_row
serials_from rows ids i zero = refl
serials_from rows ids i (suc n) =
    let e : i * row_width + serial_column + row_width ≡ suc i * row_width + serial_column = omega arith in
    rw (e, serials_from rows ids (suc i) n)

pub serials_in_rows : (rows ids : List ℕ) (n : ℕ) → serial_keys rows n ≡ map (λ (x : Element). x.serial) (elements_in rows ids n)
serials_in_rows rows ids n = serials_from rows ids 0 n

-- the serial number of row i
abbrev pub serial_in_row : List ℕ → ℕ → Key
serial_in_row rows i = key_at rows (i * row_width + serial_column)

serial_more : (rows : List ℕ) (i : ℕ) → serial_keys rows (i + 1) ≡ serial_keys rows i ++ (serial_in_row rows i ∷ [])
serial_more rows i = keys_more rows row_width serial_column i

-- ---- what holds whenever the loop's test is reached: none stands twice so far, and each has its mark

pub record NoneTwice (rows marks : List ℕ) (i : ℕ) : Type 0 where
  pub marked : Marked marks (serial_keys rows i)
  pub so_far : once same_key (serial_keys rows i) ≡ true

pub none_twice_start : (rows marks : List ℕ) → NoneTwice rows marks 0
unfolding keys_at once
none_twice_start rows marks = record { marked = none_marked marks; so_far = refl }

-- one row more
pub none_twice_more : (rows marks : List ℕ) (i : ℕ) → key_marks ≤ length marks → NoneTwice rows marks i
    → seen same_key (serial_in_row rows i) (serial_keys rows i) ≡ false
    → NoneTwice rows (set marks (mark_of key_marks (serial_in_row rows i)) 1) (i + 1)
none_twice_more rows marks i l h e =
    record {
      marked = rw (serial_more rows i) (marked_more marks (serial_keys rows i) (serial_in_row rows i) l h.marked);
      so_far = ap (once same_key) (serial_more rows i) ∙ once_more same_key same_turn (serial_in_row rows i) (serial_keys rows i) ∙ rw (h.so_far, e);
    }

-- one that stands before stands twice among all
pub stands_twice : (rows : List ℕ) (i n : ℕ) → i < n → seen same_key (serial_in_row rows i) (serial_keys rows i) ≡ true → once same_key (serial_keys rows n) ≡ false
stands_twice rows i n l e =
    by_bool (once same_key (serial_keys rows n))
    (λ t.
    let m : serial_keys rows n ≡ serial_keys rows i ++ (serial_in_row rows i ∷ keys_at rows ((i + 1) * row_width + serial_column) row_width (n - (i + 1))) =
    keys_split rows row_width serial_column i n (omega arith) ∙ ap (λ (k : List Key). serial_keys rows i ++ k) (keys_turn rows row_width serial_column i n l) in
    let z = once_before same_key same_turn (serial_in_row rows i) (serial_keys rows i) _ (sym (ap (once same_key) m) ∙ t) in
    impossible (let y : false ≡ true = sym z ∙ e in cc))
    (λ t. t)

-- one serial number does not stand twice
pub few_once : (rows : List ℕ) (n : ℕ) → n < 2 → once same_key (serial_keys rows n) ≡ true
unfolding keys_at once seen
few_once rows zero h = refl
few_once rows (suc zero) h = refl
few_once rows (suc (suc n)) h = absurd (omega arith)
