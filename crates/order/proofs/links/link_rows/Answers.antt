-- `links::link_rows` meets its contract: the heads are empty at first.
-- Assumes nothing.
use mathlib.Core.Path.{refl}
use Prim.Native.Nat.{ℕ}
use lib.ListN.{get_or-replicate}
use Rattle.order.specs.Links.{head_count}
use Rattle.order.proofs.links.link_rows.Goals as goal

-- src/links.rt:71:5
pub link_queued-requires : goal.link_queued-requires
link_queued-requires c = (c.requires.0, refl, λ h l. get_or-replicate {A = ℕ} head_count h 0 0 l, c.requires.1)
