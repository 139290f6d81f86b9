-- `deciding::decide_page` meets its contract: where no two elements share a serial number, what was decided of those that are chosen was
-- decided of the groups; else the groups themselves were.
-- Assumes nothing.
use mathlib.Core.Path.{◌≡◌, sym, ap, subst, ◌∙◌}
use mathlib.Core.Bool.{true}
use mathlib.Core.List.{List}
use Prim.Native.Nat.{ℕ, ◌^◌, ◌≤◌}
use native.Mathlib.Omega.{arith}
use lib.ListN.{length, get_or}
use Rattle.laws.specs.Once.{once}
use Rattle.talk.specs.declared.range.Range.{Range}
use Rattle.ranges.specs.RangeTable.{ranges_at}
use Rattle.store.specs.Element.{same_key}
use Rattle.store.specs.Tables.{serial_keys, elements_in}
use Rattle.store.specs.declared.element.Element.{Element}
use Rattle.order.specs.Links.{FlagsAre}
use Rattle.pages.specs.Tables.{ToChoose, taken_in, DecidesGroups}
use Rattle.pages.specs.Held.{is_wanted_here, groups_wanted, bounds_for}
use Rattle.pages.specs.declared.page.Bounds.{Bounds}
use Rattle.pages.proofs.Chosen.{flags_say}
use Rattle.pages.proofs.SingleGroups.{singles_decided}
use Rattle.pages.proofs.deciding.decide_page.Goals as goal
use Rattle.pages.proofs.deciding.decide_page.Goals.{After-bounds_of-bounds}

-- ---- the places: where the flags are set and the bounds are known
module _ (b : After-bounds_of-bounds) where
  abbrev all : List Element
  all = elements_in b.args.all.rows.now b.args.all.ids.now b.args.all.count

  abbrev ranges : List Range
  ranges = ranges_at b.args.known.now 0 b.args.a.known

  abbrev flags : List ℕ
  flags = b.mark_wanted.new.flags

  flags_long : b.args.all.count ≤ length flags
  flags_long =
      let few = b.requires.few in
      let long = b.mark_wanted.auto.flags in
      omega arith

  -- what both ways of deciding are lent
  to_choose : ToChoose b.args.all.rows.now b.args.all.ids.now b.args.all.count b.args.queue.now b.args.known.now b.args.a.known b.bounds_of-bounds.result.most
  to_choose =
      let most = ap (λ (x : Bounds). x.most) b.bounds_of-bounds.ensures.0 in
      subst (λ (m : ℕ). ToChoose b.args.all.rows.now b.args.all.ids.now b.args.all.count b.args.queue.now b.args.known.now b.args.a.known m) (sym most) b.requires

  fixed_small : b.bounds_of-bounds.result.fixed ≤ 2 ^ 32
  fixed_small = let f = b.bounds_of-bounds.ensures.1 in omega arith

  flags_are : FlagsAre (is_wanted_here b.args.request.now b.args.a ranges all) b.args.all.rows.now b.args.all.ids.now b.args.all.count flags
  flags_are i l = ap (λ (f : List ℕ). get_or f i 0) b.mark_wanted.ensures ∙ (flags_say b.args.request.now b.args.a ranges b.args.all.rows.now b.args.all.ids.now b.args.all.count _ i l)

-- src/deciding.rt:116:9
pub returns-then-serials_once : goal.returns-then-serials_once
returns-then-serials_once c = let a = c.args in
    let differ : once same_key (serial_keys a.all.rows.now a.all.count) ≡ true = sym c.serials_once.ensures ∙ c.if-serials_once.true in
    let x = singles_decided a.request.now a.a (ranges (goal.at.returns-then-serials_once c).After-bounds_of-bounds) a.all.rows.now a.all.ids.now a.all.count c.requires.stand differ _ _ c.mark_wanted.ensures _ _ c.decide_singles-decided.ensures.0
    c.bounds_of-bounds.result c.decide_singles-decided.result _ c.decide_singles-decided.ensures.1 in
    let gs = groups_wanted a.request.now a.a (ranges (goal.at.returns-then-serials_once c).After-bounds_of-bounds) (all (goal.at.returns-then-serials_once c).After-bounds_of-bounds) in
    let queue' = c.decide_singles-decided.new.queue in
    let known' = c.decide_singles-decided.new.known in
    let bounded = subst (λ (m : Bounds). DecidesGroups a.all.rows.now a.all.ids.now gs (ranges (goal.at.returns-then-serials_once c).After-bounds_of-bounds) m c.decide_singles-decided.result (taken_in c.decide_singles-decided.result) queue' known') c.bounds_of-bounds.ensures.0 x in
    subst (λ (m : ℕ). DecidesGroups a.all.rows.now a.all.ids.now gs (ranges (goal.at.returns-then-serials_once c).After-bounds_of-bounds) (bounds_for a.a a.index a.room) c.decide_singles-decided.result m queue' known') (sym c.taken_in.ensures) bounded

-- src/deciding.rt:121:5
pub decide_groups-requires : goal.decide_groups-requires
decide_groups-requires c = (to_choose (goal.at.decide_groups-requires c).After-bounds_of-bounds, flags_long (goal.at.decide_groups-requires c).After-bounds_of-bounds, fixed_small (goal.at.decide_groups-requires c).After-bounds_of-bounds, (is_wanted_here c.args.request.now c.args.a (ranges (goal.at.decide_groups-requires c).After-bounds_of-bounds) (all (goal.at.decide_groups-requires c).After-bounds_of-bounds), flags_are (goal.at.decide_groups-requires c).After-bounds_of-bounds))

-- src/deciding.rt:96:1
pub returns : goal.returns
returns c = let a = c.args in
    let gs = groups_wanted a.request.now a.a (ranges (goal.at.returns c).After-bounds_of-bounds) (all (goal.at.returns c).After-bounds_of-bounds) in
    subst (λ (m : Bounds). DecidesGroups a.all.rows.now a.all.ids.now gs (ranges (goal.at.returns c).After-bounds_of-bounds) m c.decide_groups.result.decided c.decide_groups.result.rows c.decide_groups.new.queue c.decide_groups.new.known) c.bounds_of-bounds.ensures.0
    (c.decide_groups.ensures (is_wanted_here a.request.now a.a (ranges (goal.at.returns c).After-bounds_of-bounds) (all (goal.at.returns c).After-bounds_of-bounds)) (flags_are (goal.at.returns c).After-bounds_of-bounds))
