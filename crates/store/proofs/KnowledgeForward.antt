-- Reading a knowledge goes forward and stays within the input: a specialized knowledge takes a byte at least, so that the
-- turns end.
-- Assumes nothing.
use mathlib.Core.Path.{◌≡◌}
use mathlib.Core.Bool.{Bool, true, false}
use mathlib.Core.List.{List}
use Prim.Native.Nat.{ℕ, zero, suc, ◌+◌, ◌<◌}
use native.Mathlib.Omega.{arith}
use lib.ListN.{length}
use Rattle.laws.specs.Loop.{Turn}
use Rattle.laws.specs.Loop.Turn.{more, done}
use Rattle.laws.proofs.Cases.{pick_all, impossible}
use Rattle.laws.proofs.Loops.{Falls, iterate_at}
use Rattle.objects.specs.Steps.{place_of, guid_here, start_of_length, end_here, next_is, Behind, on_field}
use Rattle.objects.specs.Results.Reading.{At, Reading, Refused}
use Rattle.objects.proofs.Keep.{Onward, onto, behind_place, onward_start, onward_start_of_length, past_start_of_length, onward_guid, onward_end, next_within, onward_inside}
use Rattle.talk.specs.declared.range.Range.{Range}
use Rattle.ranges.specs.RangeTable.{laid_ranges}
use Rattle.store.specs.Knowledge.{item_next, item_kind, item_at, united, Knowing, standing, items_from, is_cell, specialized_guid, cell_from, specialized_from, knowledge_turn, to_go, unreached, knowledge_from}
use Rattle.store.proofs.Items.{onward_item}

-- ---- ranges and entries

pub onward_items : (padding : Bool) (left : ℕ) (s : List ℕ) (l : List Range) (t : List ℕ) (c : Reading) → Onward s c (items_from padding left s l t c).last
unfolding items_from
onward_items padding zero s l t c =
    pick_all (λ (k : Knowing). Onward s c k.last) (item_next s c) _ _ (λ e. onward_start padding s 0x14 (item_kind s c) false false c) (λ e. onward_end s 0x14 c)
onward_items padding (suc left) s l t c =
    let more = onward_items padding left s (united (item_at padding s c) l) (laid_ranges (united (item_at padding s c) l) t) (on_field (item_at padding s c)) in
    pick_all (λ (k : Knowing). Onward s c k.last) (item_next s c) _ _ (λ e. onto (onward_item padding s c) more) (λ e. onward_end s 0x14 c)

-- ---- a specialized knowledge

onward_cell : (padding : Bool) (s : List ℕ) (k : Knowing) (c : Reading) → Onward s c (cell_from padding s k c).last
unfolding cell_from
onward_cell padding s k c =
    let o = start_of_length padding s 0x44 0x14 true true 0 c in
    onto (onward_start_of_length padding s 0x44 0x14 true true 0 c) (onto (onward_items padding k.left s k.ranges k.table o) (onward_end s 0x44 _))

-- from behind its start
onward_within : (padding : Bool) (depth : ℕ) (s : List ℕ) (k : Knowing) → Onward s (start_of_length padding s 0x10 0x44 true true 16 k.last) (specialized_from padding depth s k).last
unfolding specialized_from specialized_guid
onward_within padding depth s k =
    let o = start_of_length padding s 0x10 0x44 true true 16 k.last in
    let c = on_field (guid_here s o) in
    pick_all (λ (m : Knowing). Onward s o m.last) (is_cell (guid_here s o)) _ _ (λ e. onto (onward_guid s o) (onward_cell padding s k c))
    (λ e. onto (onward_guid s o) (onward_inside padding s depth 0x44 c))

pub onward_specialized : (padding : Bool) (depth : ℕ) (s : List ℕ) (k : Knowing) → Onward s k.last (specialized_from padding depth s k).last
onward_specialized padding depth s k = onto (onward_start_of_length padding s 0x10 0x44 true true 16 k.last) (onward_within padding depth s k)

-- ---- the turns

less_to_go : (s : List ℕ) (c e : Reading) → next_is s 0x44 c ≡ true → place_of c < length s → Behind (place_of c + 1) e → to_go s e < to_go s c
unfolding to_go place_of next_is
less_to_go s (At p v) (At q w) n l h = omega arith
less_to_go s (At p v) (Refused r) n l h = omega arith
less_to_go s (Refused r) e n l h = impossible (cc)

pub specialized_falls : (padding : Bool) (depth : ℕ) (s : List ℕ) (k : Knowing) → next_is s 0x44 k.last ≡ true → to_go s (specialized_from padding depth s k).last < to_go s k.last
specialized_falls padding depth s k e =
    let c = k.last in
    less_to_go s c (specialized_from padding depth s k).last e (next_within s 0x44 c e)
    ((onward_within padding depth s k).behind (place_of c + 1) (past_start_of_length padding s 0x10 0x44 true true 16 (place_of c) c (behind_place c)))

pub knowledge_falls : (padding : Bool) (depth : ℕ) (s : List ℕ) (k : Knowing) → Falls (λ (m : Knowing). to_go s m.last) k (knowledge_turn padding depth s k)
unfolding knowledge_turn
knowledge_falls padding depth s k =
    pick_all (Falls (λ (m : Knowing). to_go s m.last) k) (next_is s 0x44 k.last) _ _
    (λ e. specialized_falls padding depth s k e) (λ e. tt)

module _ (padding : Bool) (depth : ℕ) (s : List ℕ) where
  abbrev turn : Knowing → Turn Knowing Knowing
  turn m = knowledge_turn padding depth s m

  abbrev size : Knowing → ℕ
  size m = to_go s m.last

  pub turn_more : (k : Knowing) → next_is s 0x44 k.last ≡ true → knowledge_turn padding depth s k ≡ more (specialized_from padding depth s k)
  unfolding knowledge_turn
  turn_more k e = rw e

  turn_end : (k : Knowing) → next_is s 0x44 k.last ≡ false → knowledge_turn padding depth s k ≡ done (standing (end_here s 0x10 k.last) k)
  unfolding knowledge_turn
  turn_end k e = rw e

  -- one more specialized knowledge, or the end
  pub knowledge_more : (k : Knowing) → next_is s 0x44 k.last ≡ true → knowledge_from padding depth s k ≡ knowledge_from padding depth s (specialized_from padding depth s k)
  unfolding knowledge_from
  knowledge_more k e = iterate_at turn size unreached (knowledge_falls padding depth s) k (more (specialized_from padding depth s k)) (turn_more k e)

  pub knowledge_end_lem : (k : Knowing) → next_is s 0x44 k.last ≡ false → knowledge_from padding depth s k ≡ standing (end_here s 0x10 k.last) k
  unfolding knowledge_from
  knowledge_end_lem k e = iterate_at turn size unreached (knowledge_falls padding depth s) k (done (standing (end_here s 0x10 k.last) k)) (turn_end k e)
