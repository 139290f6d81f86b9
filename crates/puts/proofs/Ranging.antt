-- The ranges of serial numbers in a working table: one more, and those of a plan.
-- Assumes nothing.
use mathlib.Core.Path.{◌≡◌, ◌∙◌}
use mathlib.Core.List.{List}
use Prim.Native.Nat.{ℕ, ◌+◌, ◌*◌, ◌≤◌}
use native.Mathlib.Omega.{arith}
use lib.ListN.{length, drop}
use Rattle.laws.proofs.Cases.{impossible}
use Rattle.talk.specs.Ranges.{insert, Normal}
use Rattle.talk.proofs.Insertion.{length_insert, normal_insert}
use Rattle.ranges.specs.RangeTable.{ranges_at, added_to, laid_in}
use Rattle.ranges.specs.Ranged.{range_of}
use Rattle.ranges.specs.Results.Added.{Full, Rows}
use Rattle.ranges.proofs.RangeRows.{length_rows, laid_rows_lem}
use Rattle.store.specs.declared.element.Key.{Key}
use Rattle.store.proofs.Uniting.{added_fits}
use Rattle.store.specs.Held.{key_range}

rows_number : (a b : ℕ) → Rows a ≡ Rows b → a ≡ b
rows_number a b e = cc

key_some : (k : Key) → (key_range k).from ≤ (key_range k).to
unfolding key_range range_of
key_some k = omega arith

module _ (t : List ℕ) (held : ℕ) (k : Key) (room : held * 4 + 4 ≤ length t) (normal : Normal (ranges_at t 0 held)) where
  pub serial_added : (n : ℕ) (t' : List ℕ) → Rows n ≡ added_to t (insert (key_range k) (ranges_at t 0 held)) → t' ≡ laid_in t (insert (key_range k) (ranges_at t 0 held))
      → (n ≤ held + 1) × (ranges_at t' 0 n ≡ insert (key_range k) (ranges_at t 0 held)) × Normal (ranges_at t' 0 n)
  serial_added n t' e f =
      let l = insert (key_range k) (ranges_at t 0 held) in
      let a = added_fits t held (key_range k) room in
      let m : n ≡ length l = rows_number n (length l) (e ∙ a.0) in
      let r : ranges_at t' 0 n ≡ l = rw (m, f, a.1) (laid_rows_lem l (drop (length l * 4) t)) in
      let b = length_insert (key_range k) (ranges_at t 0 held) in
      let c = length_rows t 0 held in
      (omega arith, r, rw r (normal_insert (key_range k) (ranges_at t 0 held) (key_some k) normal))

  full_rows : (n : ℕ) → Full ≡ Rows n → ◌≡◌ {A = ℕ} 0 1
  full_rows n e = cc

  pub never_full : {P : Type 0} → Full ≡ added_to t (insert (key_range k) (ranges_at t 0 held)) → P
  never_full e = impossible (full_rows _ (e ∙ (added_fits t held (key_range k) room).0))
