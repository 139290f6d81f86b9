-- The rule of `Compact` and document 01's table: the rule has just these rows, does what each says, and every value and every
-- first byte has exactly one of them. Over the form: only the byte 0 and how far the long form goes are cases of their own.
-- A reader can skip all but `rule_is_table`, at the end.
-- Assumes nothing.
use mathlib.Core.Path.{◌≡◌, refl, sym, ap, ◌∙◌, subst}
use mathlib.Core.Logic.{◌≢◌}
use mathlib.Core.Bool.{false}
use mathlib.Core.List.{List, [], ◌∷◌, ◌++◌}
use Prim.Native.Nat.{ℕ, zero, suc, ◌+◌, ◌-◌, ◌*◌, ◌/◌, ◌%◌, ◌^◌, ◌≤◌, ◌<◌}
use native.Mathlib.Nat.{one-le-pow, pow-suc, pow-le-pow_right, add-zero, zero-add, add-suc, suc-add}
use native.Mathlib.Omega.{arith}
use lib.ListN.{length, get_or, take, length-take}
use lib.Arith.{digits_mod}
use lib.Count.{count_trailing_zeros}
use lib.Dec.{lit<, lit≤}
use lib.Pow.{pow-lt, split, le_ones, lt_of_le_ones}
use borrow.Author.Tests.{ne_eqb, lt-ltb, le-ltb}
use Rattle.laws.specs.Bytes.{AllBytes, le, bytes}
use Rattle.laws.proofs.Cases.{by_lt, by_eq}
use Rattle.laws.proofs.Numbers.{length_bytes, le_lt, take_bytes}
use Rattle.numbers.specs.Refusals.{fault}
use Rattle.numbers.specs.Compact.{size_of, compact_value, read_form, read_compact, form_of, with_form, compact_bytes}
use Rattle.numbers.specs.CompactTable.{FormRow, form_table, InRange, row_bytes, HasLowBits, row_value, row_reads, RuleFollows, row_at, ExactlyOneRow, RuleIsTable}
use Rattle.numbers.specs.Results.Compact.{Refused, Value}
use Rattle.numbers.proofs.LowestBit.{zeros_lt, zeros_not_zero, zeros_with_form, zeros_low}
use Rattle.numbers.proofs.Forms.{size_long, size_short, size_pos, pow_seven, form_is, form_of_le, form_of_least, form_of_most, compact_is, value_lt, value_fits}
use Rattle.numbers.proofs.RoundTrip.{read_written}

-- ---- the rule's own rows

-- what a form leaves of its bytes for the value
unfoldable value_bits : ℕ → ℕ
value_bits k = 8 * size_of k - (k + 1)

abbrev zero_row : FormRow
zero_row = record { form = 0; low_bits = 8; low = 0; size = 1; first = 0; last = 0 }

abbrev form_row : ℕ → FormRow
form_row k = record { form = value_bits k; low_bits = k + 1; low = 2 ^ k; size = size_of k; first = 128 ^ k; last = 2 ^ value_bits k - 1 }

abbrev rule_row : ℕ → FormRow
rule_row zero = zero_row
rule_row (suc k) = form_row k

unfoldable rule_rows : ℕ → ℕ → List FormRow
rule_rows from zero = []
rule_rows from (suc n) = rule_row from ∷ rule_rows (suc from) n

-- every number of the table is what the rule has there
table_is : form_table ≡ rule_rows 0 9
unfolding form_table rule_rows value_bits size_of
table_is = refl

rows_at : (n from i : ℕ) (d : FormRow) → i < n → get_or (rule_rows from n) i d ≡ rule_row (from + i)
unfolding rule_rows
rows_at zero from i d h = absurd (omega arith)
rows_at (suc n) from zero d h = rw add-zero
rows_at (suc n) from (suc i) d h = rows_at n (suc from) i d (omega arith) ∙ ap rule_row (suc-add from i ∙ sym (add-suc from i))

row_at_lem : (i : ℕ) → i < 9 → row_at i ≡ rule_row i
row_at_lem i h = rw table_is (rows_at 9 0 i _ h ∙ ap rule_row (zero-add i))

-- ---- the values of a form

bits_long : (k : ℕ) → k ≡ 7 → value_bits k ≡ 64
unfolding value_bits
bits_long k e = rw (size_long k e) (omega arith)

most_short : (k : ℕ) → (k ≡ 7 → ⊥) → 2 ^ value_bits k ≡ 128 ^ suc k
unfolding value_bits
most_short k n =
    let e : 8 * (k + 1) - (k + 1) ≡ 7 * suc k = omega arith in
    rw (size_short k n, e) (pow_seven (suc k))

-- a value in the range of form k is written in form k
form_in_range : (k v : ℕ) → k ≤ 7 → InRange (form_row k) v → form_of v ≡ k
unfolding form_of
form_in_range k v h r =
    form_is 7 k v h (λ z. r.0) (λ l. rw (most_short k (λ e. omega arith)) at (lt_of_le_ones (value_bits k) r.1))

not_zero : (k v : ℕ) → InRange (form_row k) v → v ≢ 0
not_zero k v r e = omega (arith, one-le-pow k 128 (lit< tt), r.0)

-- what stands in form k is at most its last value
value_last : (k : ℕ) (s : List ℕ) → AllBytes s → k ≤ 7 → compact_value k s ≤ 2 ^ value_bits k - 1
value_last k s b h =
    le_ones (value_bits k)
    (by_eq k 7 (λ e. rw (bits_long k e) (value_fits k s b (omega arith))) (λ n. rw (most_short k n) (value_lt k s b n)))

fits_range : (k v : ℕ) → k ≤ 7 → InRange (form_row k) v → v < 2 ^ 64
unfolding value_bits
fits_range k v h r =
    let b : value_bits k ≤ 64 = by_eq k 7 (λ e. rw (size_long k e) (omega arith)) (λ n. rw (size_short k n) (omega arith)) in
    let m : 2 ^ value_bits k ≤ 2 ^ 64 = pow-le-pow_right {n = 2} (lit< tt) {i = value_bits k} {j = 64} b in
    let l : v < 2 ^ value_bits k = lt_of_le_ones (value_bits k) r.1 in
    omega arith

-- ---- the low bits of a form

zeros_of_lem : (k b : ℕ) → k ≤ 7 → HasLowBits (form_row k) b → count_trailing_zeros 8 b ≡ k
unfolding with_form
zeros_of_lem k b h l =
    let e : with_form k (b / 2 ^ (k + 1)) ≡ b = ap (λ (x : ℕ). b / 2 ^ (k + 1) * 2 ^ (k + 1) + x) (sym l) ∙ split b (k + 1) in
    ap (count_trailing_zeros 8) (sym e) ∙ zeros_with_form 8 k (b / 2 ^ (k + 1)) (omega arith)

has_low_bits : (b : ℕ) → count_trailing_zeros 8 b < 8 → HasLowBits (form_row (count_trailing_zeros 8 b)) b
unfolding with_form
has_low_bits b h =
    let k = count_trailing_zeros 8 b in
    ap (λ (x : ℕ). x % 2 ^ (k + 1)) (zeros_low 8 b h) ∙ digits_mod (b / 2 ^ (k + 1)) (pow-lt (omega arith))

byte_not_zero : (k b : ℕ) → k ≤ 7 → HasLowBits (form_row k) b → b ≢ 0
byte_not_zero k b h l = zeros_not_zero 8 b (omega (arith, zeros_of_lem k b h l))

-- ---- each row says what the rule does

-- what is written as a row says is read back with the row's size
row_back : (r : FormRow) (v : ℕ) (t : List ℕ) → v < 2 ^ 64 → compact_bytes v ≡ row_bytes r v → read_compact (row_bytes r v ++ t) ≡ Value v r.size false
unfolding row_bytes
row_back r v t f e =
    ap (λ (w : List ℕ). read_compact (w ++ t)) (sym e) ∙ read_written v f t
    ∙ ap (λ (n : ℕ). Value v n false) (ap length e ∙ length_bytes r.size (v * 2 ^ r.low_bits + r.low))

zero_row_written : (v : ℕ) → InRange zero_row v → compact_bytes v ≡ row_bytes zero_row v
unfolding compact_bytes row_bytes bytes
zero_row_written v r = let e : v ≡ 0 = omega (arith, r.1) in rw e

zero_row_read : (s : List ℕ) → AllBytes s → 0 < length s → HasLowBits zero_row (get_or s 0 0) → read_compact s ≡ row_reads zero_row s
unfolding read_compact row_reads row_value le
zero_row_read [] b p l = absurd (omega arith)
zero_row_read (x ∷ s) b p l =
    let e : x ≡ 0 = omega (arith, b 0, l) in
    simp (e, ne_eqb (suc (length s)) 0 (omega arith), le-ltb (suc (length s)) 1 (omega arith))

form_row_written : (k v : ℕ) → k ≤ 7 → InRange (form_row k) v → compact_bytes v ≡ row_bytes (form_row k) v
unfolding row_bytes with_form
form_row_written k v h r = compact_is v (not_zero k v r) ∙ ap (λ (f : ℕ). bytes (size_of f) (with_form f v)) (form_in_range k v h r)

form_row_read : (k : ℕ) (s : List ℕ) → k ≤ 7 → AllBytes s → 0 < length s → HasLowBits (form_row k) (get_or s 0 0)
    → read_compact s ≡ row_reads (form_row k) s
unfolding read_compact read_form compact_value row_reads row_value
form_row_read k s h b p l =
    let z : count_trailing_zeros 8 (get_or s 0 0) ≡ k = zeros_of_lem k (get_or s 0 0) h l in
    let n : length s ≢ 0 = λ e. omega arith in
    by_lt (length s) (size_of k)
    (λ q. rw (ne_eqb _ _ n, ne_eqb _ _ (byte_not_zero k (get_or s 0 0) h l), z, lt-ltb _ _ q))
    (λ q. rw (ne_eqb _ _ n, ne_eqb _ _ (byte_not_zero k (get_or s 0 0) h l), z, le-ltb _ _ q))

-- no bytes hold more than the last value
zero_row_topped : (s : List ℕ) → AllBytes s → row_value zero_row s ≤ 0
unfolding row_value
zero_row_topped s b =
    let l : le (take 1 s) < 256 ^ 1 = le_lt 1 (take 1 s) (simp length-take (omega arith)) (take_bytes 1 s b) in
    omega arith

form_row_topped : (k : ℕ) (s : List ℕ) → k ≤ 7 → AllBytes s → row_value (form_row k) s ≤ 2 ^ value_bits k - 1
unfolding row_value compact_value
form_row_topped k s h b = value_last k s b h

form_filled : (k : ℕ) → k ≤ 7 → value_bits k + (k + 1) ≡ 8 * size_of k
unfolding value_bits
form_filled k h = omega (arith, size_pos k)

form_ordered : (k : ℕ) → 128 ^ k ≤ 2 ^ value_bits k - 1
form_ordered k =
    le_ones (value_bits k)
    (by_eq k 7 (λ e. rw (bits_long k e, e) (lit< tt)) (λ n. rw (most_short k n, pow-suc 128 k) (omega (arith, one-le-pow k 128 (lit< tt)))))

follows_form : (i : ℕ) → i < 9 → RuleFollows (rule_row i)
follows_form zero h = record {
  filled = refl;
  ordered = lit≤ tt;
  laid_down = zero_row_written;
  read_back = λ v r t. row_back zero_row v t (omega (arith, r.1)) (zero_row_written v r);
  topped = zero_row_topped;
  read = zero_row_read;
}
follows_form (suc k) h =
    let le-seven : k ≤ 7 = omega arith in
    record {
      filled = form_filled k le-seven;
      ordered = form_ordered k;
      laid_down = λ v r. form_row_written k v le-seven r;
      read_back = λ v r t. row_back (form_row k) v t (fits_range k v le-seven r) (form_row_written k v le-seven r);
      topped = λ s. form_row_topped k s le-seven;
      read = λ s. form_row_read k s le-seven;
    }

follows_row : (i : ℕ) → i < length form_table → RuleFollows (row_at i)
unfolding form_table
follows_row i h = subst RuleFollows (sym (row_at_lem i h)) (follows_form i h)

-- ---- exactly one row

-- if exactly one of the rule's rows is such, exactly one of the table's is
one_of_table : (Such : FormRow → Type 0) (i : ℕ) → i < 9 → Such (rule_row i) → ((j : ℕ) → j < 9 → Such (rule_row j) → j ≡ i) → ExactlyOneRow Such
unfolding form_table
one_of_table Such i h p u = (i, h, subst Such (sym (row_at_lem i h)) p, λ j l q. u j l (subst Such (row_at_lem j l) q))

-- of a value: the byte 0, or the form that it is written in

value_in_range : (v : ℕ) → v ≢ 0 → v < 2 ^ 64 → InRange (form_row (form_of v)) v
value_in_range v n f =
    let k = form_of v in
    let m : v < 2 ^ value_bits k =
    by_eq k 7 (λ e. rw (bits_long k e) f) (λ o. rw (most_short k o) (form_of_most v (omega (arith, form_of_le v)))) in
    (form_of_least v n, le_ones (value_bits k) m)

range_of_zero : (v : ℕ) → v ≡ 0 → (j : ℕ) → j < 9 → InRange (rule_row j) v → j ≡ 0
range_of_zero v e zero h r = refl
range_of_zero v e (suc k) h r = absurd (not_zero k v r e)

range_of_lem : (v : ℕ) → v ≢ 0 → (j : ℕ) → j < 9 → InRange (rule_row j) v → j ≡ suc (form_of v)
range_of_lem v n zero h r = absurd (n (omega (arith, r.1)))
range_of_lem v n (suc k) h r = ap suc (sym (form_in_range k v (omega arith) r))

one_row_of_value : (v : ℕ) → v < 2 ^ 64 → ExactlyOneRow (λ r. InRange r v)
one_row_of_value v f =
    by_eq v 0
    (λ e. one_of_table (λ r. InRange r v) 0 (lit< tt) (omega arith, omega arith) (range_of_zero v e))
    (λ n. one_of_table (λ r. InRange r v) (suc (form_of v)) (omega (arith, form_of_le v)) (value_in_range v n f) (range_of_lem v n))

-- of a first byte: the byte 0, or the form that its lowest set bit tells

low_bits_of_zero : (b : ℕ) → b ≡ 0 → (j : ℕ) → j < 9 → HasLowBits (rule_row j) b → j ≡ 0
low_bits_of_zero b e zero h l = refl
low_bits_of_zero b e (suc k) h l = absurd (byte_not_zero k b (omega arith) l e)

low_bits_of : (b : ℕ) → b < 256 → b ≢ 0 → (j : ℕ) → j < 9 → HasLowBits (rule_row j) b → j ≡ suc (count_trailing_zeros 8 b)
low_bits_of b f n zero h l = absurd (n (omega (arith, l)))
low_bits_of b f n (suc k) h l = ap suc (sym (zeros_of_lem k b (omega arith) l))

one_row_of_byte : (b : ℕ) → b < 256 → ExactlyOneRow (λ r. HasLowBits r b)
one_row_of_byte b f =
    by_eq b 0
    (λ e. one_of_table (λ r. HasLowBits r b) 0 (lit< tt) (rw e) (low_bits_of_zero b e))
    (λ n.
    let h : count_trailing_zeros 8 b < 8 = zeros_lt 8 b f n in
    one_of_table (λ r. HasLowBits r b) (suc (count_trailing_zeros 8 b)) (omega arith) (has_low_bits b h) (low_bits_of b f n))

-- ---- the law

no_byte_lem : read_compact [] ≡ Refused (fault 2)
unfolding read_compact
no_byte_lem = refl

pub rule_is_table : RuleIsTable
rule_is_table = record { every_row = follows_row; every_value = one_row_of_value; every_first_byte = one_row_of_byte; no_byte = no_byte_lem }
