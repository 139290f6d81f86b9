-- `guid::put_tagged` meets its contract: the byte 128, the GUID behind it, the number behind that.
-- Assumes nothing.
use mathlib.Core.Path.{◌≡◌, ◌∙◌}
use native.Mathlib.Omega.{arith}
use Prim.Native.Nat.{ℕ, ◌-◌}
use Rattle.laws.proofs.Parts.{tail_part, mid_tail, tail_length}
use mathlib.Core.List.{List, ◌++◌}
use lib.ListN.{length, take, drop, set, length-set}
use borrow.Rule.Slice.PartMut.{put_mid, same_len_mid}
use Rattle.numbers.specs.Guid.{guid_bytes}
use Rattle.numbers.proofs.Guids.{tagged_put}
use Rattle.numbers.proofs.guid.put_tagged.Goals as goal
use Rattle.numbers.proofs.guid.put_tagged.Goals.{After-put_guid}

pub slice_bounds-put_guid-count : goal.slice_bounds-put_guid-count
slice_bounds-put_guid-count c = simp length-set (omega arith)

pub slice_bounds-put_guid-start : goal.slice_bounds-put_guid-start
slice_bounds-put_guid-start c = simp length-set (omega arith)

pub put_guid-requires : goal.put_guid-requires
put_guid-requires c = tail_length 1 16 (set c.args.out.now 0 128) (simp length-set (omega arith))

-- what out holds once the GUID is in
abbrev then-held : (c : After-put_guid) → List ℕ
then-held c =
    let d = set c.args.out.now 0 128 in
    put_mid 1 (length d - 1) d c.put_guid.new.out

-- it is as long as it was
as_long : (c : After-put_guid) → length (then-held c) ≡ length c.args.out.now
as_long c =
    let d = set c.args.out.now 0 128 in
    same_len_mid 1 (length d - 1) d c.put_guid.new.out c.put_guid.auto.out ∙ simp length-set

pub slice_bounds-put_le-count : goal.slice_bounds-put_le-count
slice_bounds-put_le-count c = omega (arith, as_long (goal.at.slice_bounds-put_le-count c).After-put_guid)

pub slice_bounds-put_le-start : goal.slice_bounds-put_le-start
slice_bounds-put_le-start c = omega (arith, as_long (goal.at.slice_bounds-put_le-start c).After-put_guid)

pub put_le-requires : goal.put_le-requires
put_le-requires c = tail_length 17 c.args.n (then-held (goal.at.put_le-requires c).After-put_guid) (omega (arith, as_long (goal.at.put_le-requires c).After-put_guid))

pub returns : goal.returns
returns c = let a = c.args in
    let e : then-held (goal.at.returns c).After-put_guid ≡ take 1 (set a.out.now 0 128) ++ (guid_bytes a.g ++ drop 16 (drop 1 (set a.out.now 0 128))) =
    rw (mid_tail, c.put_guid.ensures, tail_part) in
    rw (mid_tail, c.put_le.ensures, tail_part, e) (tagged_put a.out.now a.n a.g a.x (omega arith))
