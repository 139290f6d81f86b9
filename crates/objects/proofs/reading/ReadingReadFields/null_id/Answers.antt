-- `reading::ReadingReadFields::null_id` meets its contract: by what stands here.
-- Assumes nothing.
use Rattle.std.proofs.Common.{rules}
use Rattle.objects.proofs.NullId.{null_id_lem}
use Rattle.objects.proofs.reading.ReadingReadFields.null_id.Goals as goal

pub returns-in_err-at : goal.returns-in_err-at
returns-in_err-at c = search (rules, null_id_lem, c.extended_guid.ensures, c.in_err-at.was)

pub returns-then-is_some : goal.returns-then-is_some
returns-then-is_some c = search (rules, null_id_lem, c.extended_guid.ensures, c.in_ok-at.was, c.at_place.ensures, c.place.ensures)

pub returns : goal.returns
returns c = search (rules, null_id_lem, c.extended_guid.ensures, c.in_ok-at.was)
