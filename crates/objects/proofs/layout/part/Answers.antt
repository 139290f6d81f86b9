-- `layout::part` meets its contract.
-- Assumes nothing.
use native.Mathlib.Nat.{add-sub_cancel_left}
use Rattle.objects.proofs.ItemsAt.{part_past, rest_part}
use Rattle.objects.proofs.layout.part.Goals as goal

pub returns-then-len-from : goal.returns-then-len-from
returns-then-len-from c = search (part_past)

pub returns-then-len-from-2 : goal.returns-then-len-from-2
returns-then-len-from-2 c = search (rest_part)

pub returns : goal.returns
returns c = rw add-sub_cancel_left
