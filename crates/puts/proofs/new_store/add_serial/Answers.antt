-- `new_store::add_serial` meets its contract.
-- Assumes nothing.
use mathlib.Core.Path.{◌≡◌, refl, sym, ◌∙◌}
use Prim.Native.Nat.{ℕ}
use Rattle.std.specs.Prelude.{Option, Some, None}
use Rattle.puts.proofs.Ranging.{serial_added, never_full}
use Rattle.puts.proofs.new_store.add_serial.Goals as goal

pub returns : goal.returns
returns c = by_option c.add_range.result
    (λ n i. let e = rw c.from.ensures at c.add_range.ensures in
    rw (c.unwrap_or.ensures, i) (serial_added c.args.table.now c.args.held c.args.k c.requires.0 c.requires.1 n c.add_range.new.t (sym i ∙ e.0) e.1))
    (λ i. let e = rw c.from.ensures at c.add_range.ensures in
    never_full c.args.table.now c.args.held c.args.k c.requires.0 c.requires.1 (sym i ∙ e.0))
  where
    by_option : {P : Type 0} (o : Option ℕ) → ((n : ℕ) → o ≡ Some n → P) → (o ≡ None → P) → P
    by_option (Some n) f g = f n refl
    by_option None f g = g refl
