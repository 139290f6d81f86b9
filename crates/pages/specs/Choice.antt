-- Which groups are wanted: "Wanted = filters leave it in, and the knowledge lacks its serial number." With document 02, Q-3, this is said of
-- groups: "The filters let a group in as soon as they let one member in."
-- Assumes nothing.
use Rattle.std.specs.Prelude.{Bool, true, List}
use Rattle.talk.specs.Wanted.{wanted}
use Rattle.talk.specs.declared.range.Range.{Range}
use Rattle.store.specs.Written.{key_guid}
use Rattle.ranges.specs.Ranged.{knows}
use Rattle.order.specs.Order.{ordered}
use Rattle.order.specs.Groups.{Group, members, group_serial, groups, some_of}
use Rattle.store.specs.declared.element.Key.{Key}
use Rattle.store.specs.declared.element.Element.{Element}
use Rattle.request.specs.Meaning.{Filter, left_in}

-- whether the ranges hold a serial number, and whether that of an element
abbrev pub knows_key : List Range → Key → Bool
knows_key l k = knows l (key_guid k) k.number

unfoldable pub is_known : List Range → Element → Bool
is_known l x = knows_key l x.serial

-- a group is let in with one of its members. A filter sees the elements in the store's own order
unfoldable pub lets_group : List Filter → List Element → Group → Bool
lets_group fs all g = some_of (λ (x : Element). left_in fs all x true) (members g)

-- "Wanted elements are considered in store order", which is row order with document 02, Q-14, and with Q-3 they are groups: 'Demands 2 and 3
-- read "row order" for "store order"', and "take groups in this order"
unfoldable pub wanted_in : List Filter → List Range → List Element → List Group
wanted_in fs l all = wanted group_serial (lets_group fs all) (knows_key l) (groups (ordered all))
