-- `tell_received` meets its contract.
-- Assumes nothing.
use mathlib.Core.Path.{◌≡◌, refl}
use Rattle.std.specs.Prelude.{Bool, true, false, ℕ}
use Rattle.std.specs.Int.{from_bool}
use Rattle.laws.specs.Pick.{pick}
use Rattle.client.specs.Read.{received_numbers}
use Rattle.hub.specs.Bench.{report_after}
use Rattle.hub.proofs.tell_received.Goals as goal

-- the mark as a number
mark_is : (b : Bool) → ◌≡◌ {A = ℕ} (from_bool b) (pick b 1 0)
mark_is true = refl
mark_is false = refl

pub returns : goal.returns
unfolding report_after received_numbers
returns c = (c.tell_all.ensures.0, rw (c.tell_all.ensures.1, c.index_numbers-index.ensures, c.from.ensures, mark_is c.args.x.partial))
