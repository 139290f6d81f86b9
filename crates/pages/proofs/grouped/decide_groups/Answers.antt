-- `grouped::decide_groups` meets its contract: what is decided of the rows that stand for groups is decided of the groups, and the members of the
-- first ones stand first in the queue.
-- Assumes nothing.
use mathlib.Core.Path.{◌≡◌, refl, ap, ◌∙◌}
use mathlib.Core.Bool.{Bool}
use mathlib.Core.List.{List, map}
use Prim.Native.Nat.{ℕ, ◌^◌, ◌≤◌}
use native.Mathlib.Omega.{arith}
use lib.ListN.{length, take, length-map}
use Rattle.std.specs.Prelude.{Ok, Err}
use Rattle.ranges.specs.RangeTable.{ranges_at}
use Rattle.talk.specs.declared.range.Range.{Range}
use Rattle.store.specs.Tables.{most_elements, elements_in}
use Rattle.store.specs.declared.element.Element.{Element}
use Rattle.order.specs.Order.{ordered}
use Rattle.order.specs.Groups.{Group, members_of}
use Rattle.order.specs.Links.{bare, lump, FlagsAre, chosen_groups, GroupsLaid}
use Rattle.order.proofs.FirstGroups.{first_groups_are, first_groups_queued, chosen_each, chosen_short}
use Rattle.order.proofs.GroupMembers.{length_least}
use Rattle.pages.specs.Tables.{taken_in, DecidesPage, SendsRows}
use Rattle.pages.specs.Weighed.{sum_column, weighed_in}
use Rattle.pages.specs.Results.Decided.{Decided}
use Rattle.pages.proofs.Lumps.{least_lumps}
use Rattle.pages.proofs.SingleGroups.{taken_most}
use Rattle.pages.proofs.Summed.{same_decided, same_lengths, summed}
use Rattle.pages.proofs.grouped.decide_groups.Goals as goal
use Rattle.pages.proofs.grouped.decide_groups.Goals.{After-taken_in-sent, After-group_rows-wanted}

-- the members of those that are sent are the first rows
sends_rows : {rows ids : List ℕ} {m : ℕ} {sums earliest laid ends : List ℕ} {gs : List Group} {w : ℕ} → GroupsLaid rows ids m sums earliest laid ends gs w → (d : Decided) (n : ℕ)
    → n ≡ length (members_of (take (taken_in d) gs)) → SendsRows rows ids laid gs d n
sends_rows l (Ok x) n e = rw e (refl, first_groups_queued l x.count, first_groups_are l x.count)
sends_rows l (Err x) n e = tt

-- ---- the groups as they were laid, for whatever test the flags are of
module _ (g : After-group_rows-wanted) where
  abbrev wanted : (Element → Bool) → List Group
  wanted test = chosen_groups test (ordered (elements_in g.args.all.rows.now g.args.all.ids.now g.args.all.count))

  abbrev sums_then : List ℕ
  sums_then = g.group_rows-wanted.new.sums

  abbrev earliest_then : List ℕ
  earliest_then = g.group_rows-wanted.new.earliest

  abbrev laid_then : List ℕ
  laid_then = g.group_rows-wanted.new.laid

  abbrev ends_then : List ℕ
  ends_then = g.group_rows-wanted.new.ends

  abbrev Flagged : (Element → Bool) → Type 0
  Flagged test = FlagsAre test g.args.all.rows.now g.args.all.ids.now g.args.all.count g.args.flags.now

  laid_groups : (test : Element → Bool) → Flagged test → GroupsLaid g.args.all.rows.now g.args.all.ids.now g.args.all.count sums_then earliest_then laid_then ends_then (wanted test) g.group_rows-wanted.result
  laid_groups = g.group_rows-wanted.ensures

  some_laid : GroupsLaid g.args.all.rows.now g.args.all.ids.now g.args.all.count sums_then earliest_then laid_then ends_then (wanted g.requires.3.0) g.group_rows-wanted.result
  some_laid = laid_groups g.requires.3.0 g.requires.3.1

  groups_few : g.group_rows-wanted.result ≤ most_elements
  groups_few =
      let a = some_laid.counted in
      let b = length_least (wanted g.requires.3.0) in
      let c : length (members_of (wanted g.requires.3.0)) ≤ most_elements = some_laid.few in
      omega arith

  abbrev standing : List Element
  standing = weighed_in g.args.all.rows.now g.args.all.ids.now sums_then sum_column g.group_rows-wanted.result earliest_then

  -- the rows that stand for them have their serial numbers and the lengths of all their members
  stand_for : (test : Element → Bool) → Flagged test → map bare standing ≡ map bare (map lump (wanted test))
  stand_for test f = ap (map bare) (summed g.args.all.rows.now g.args.all.ids.now sums_then (take g.group_rows-wanted.result earliest_then)) ∙ (laid_groups test f).lumps

-- ---- what was decided
module _ (d : After-taken_in-sent) where
  abbrev known_then : List ℕ
  known_then = d.decide_sums-decided.new.known

  abbrev ranges : List Range
  ranges = ranges_at d.args.known.now 0 d.args.count

  decided : (test : Element → Bool) → Flagged (goal.at.returns d).After-group_rows-wanted test → DecidesPage (map lump (wanted (goal.at.returns d).After-group_rows-wanted test)) ranges d.args.bounds d.decide_sums-decided.result known_then
  decided test f = same_decided (standing (goal.at.returns d).After-group_rows-wanted) (map lump (wanted (goal.at.returns d).After-group_rows-wanted test)) (stand_for (goal.at.returns d).After-group_rows-wanted test f) ranges d.args.bounds d.decide_sums-decided.result known_then d.decide_sums-decided.ensures

  taken_few : (test : Element → Bool) → Flagged (goal.at.returns d).After-group_rows-wanted test → taken_in d.decide_sums-decided.result ≤ d.group_rows-wanted.result
  taken_few test f =
      let a = taken_most d.args.bounds ranges _ d.decide_sums-decided.result known_then (decided test f) in
      let b = length-map (wanted (goal.at.returns d).After-group_rows-wanted test) lump in
      let c = (laid_groups (goal.at.returns d).After-group_rows-wanted test f).counted in
      omega arith

pub group_rows-wanted-requires : goal.group_rows-wanted-requires
group_rows-wanted-requires c = let few : c.args.all.count ≤ most_elements = c.requires.0.few in
    (few, c.requires.0.short, c.requires.1, few, few, c.requires.0.roomy, omega arith, c.requires.3)

pub decide_sums-decided-requires : goal.decide_sums-decided-requires
decide_sums-decided-requires c = let a = c.args in
    let test = c.requires.3.0 in
    let l = some_laid (goal.at.decide_sums-decided-requires c).After-group_rows-wanted in
    let e = stand_for (goal.at.decide_sums-decided-requires c).After-group_rows-wanted test c.requires.3.1 in
    let few : a.all.count ≤ most_elements = c.requires.0.few in (
      record {
        stand = c.requires.0.stand;
        few = few;
        sums_long = let long = c.group_rows-wanted.auto in omega arith;
        long = l.long;
        wanted_few = groups_few (goal.at.decide_sums-decided-requires c).After-group_rows-wanted;
        inside = l.inside;
        apart = l.apart;
        short = same_lengths (standing (goal.at.decide_sums-decided-requires c).After-group_rows-wanted) (map lump (wanted (goal.at.decide_sums-decided-requires c).After-group_rows-wanted test)) e (λ (n : ℕ). n ≤ 2 ^ 32) (chosen_short test a.all.rows.now a.all.ids.now a.all.count c.requires.0.short l.few);
        least = same_lengths (standing (goal.at.decide_sums-decided-requires c).After-group_rows-wanted) (map lump (wanted (goal.at.decide_sums-decided-requires c).After-group_rows-wanted test)) e (λ (n : ℕ). 46 ≤ n) (least_lumps 46 (wanted (goal.at.decide_sums-decided-requires c).After-group_rows-wanted test) (chosen_each (λ (x : Element). 46 ≤ x.length) test a.all.rows.now a.all.ids.now a.all.count c.requires.0.least));
        carry = c.requires.0.carry;
      },
      c.requires.2,
    )

pub offset_bounds-ends-sent : goal.offset_bounds-ends-sent
offset_bounds-ends-sent c = let t = taken_few c c.requires.3.0 c.requires.3.1 in let f : c.group_rows-wanted.result ≤ most_elements = groups_few (goal.at.offset_bounds-ends-sent c).After-group_rows-wanted in rw c.taken_in-sent.ensures (omega arith)

pub bounds-ends-sent : goal.bounds-ends-sent
bounds-ends-sent c = let t = taken_few c c.requires.3.0 c.requires.3.1 in let f : c.group_rows-wanted.result ≤ most_elements = groups_few (goal.at.bounds-ends-sent c).After-group_rows-wanted in rw c.taken_in-sent.ensures (omega arith)

pub returns : goal.returns
returns c = λ test f.
    let l = laid_groups (goal.at.returns c).After-group_rows-wanted test f in
    (decided c test f, sends_rows l c.decide_sums-decided.result _ (rw c.taken_in-sent.ensures (l.ends_are (taken_in c.decide_sums-decided.result) (taken_few c test f))))
