-- `sharing::none_twice` meets its contract. The invariant: none of the rows so far has the serial number of one before it, and each has
-- its mark.
-- Assumes nothing.
use mathlib.Core.Path.{◌≡◌}
use lib.ListN.{length}
use Rattle.store.specs.Tables.{key_marks}
use Rattle.store.proofs.SharedSerials.{NoneTwice}
use Rattle.store.proofs.sharing.none_twice.Given as goal

abbrev pub invariant-loop-i : goal.invariant-loop-i
invariant-loop-i l = (length l.marks ≡ key_marks) × NoneTwice l.rows l.marks l.i
