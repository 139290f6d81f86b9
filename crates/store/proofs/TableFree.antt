-- Reading a knowledge relies on nothing that was in the table: whatever stood there, the ranges, the count and the place are
-- the same.
-- Assumes nothing.
use mathlib.Core.Path.{◌≡◌, refl, ap}
use mathlib.Core.Bool.{Bool, true, false}
use mathlib.Core.List.{List, []}
use Prim.Native.Nat.{ℕ, zero, suc}
use Rattle.laws.proofs.Cases.{by_bool}
use Rattle.laws.proofs.Loops.{iterate_ind}
use Rattle.objects.specs.Steps.{start_of_length, end_here, next_is, on_field}
use Rattle.objects.specs.Results.Reading.{Reading}
use Rattle.talk.specs.declared.range.Range.{Range}
use Rattle.ranges.specs.RangeTable.{laid_ranges}
use Rattle.store.specs.Knowledge.{item_next, item_at, united, Knowing, knowing, items_from, is_cell, specialized_guid, cell_from, specialized_from, knowledge_turn, to_go, unreached, knowledge_from, knowledge_at}
use Rattle.store.proofs.Uniting.{items_end, items_over, items_more}
use Rattle.store.proofs.KnowledgeForward.{knowledge_falls, knowledge_more, knowledge_end_lem, turn_more}

-- the same but for the table
pub record Alike (k m : Knowing) : Type 0 where
  pub ranges : k.ranges ≡ m.ranges
  pub left : k.left ≡ m.left
  pub last : k.last ≡ m.last

items_alike : (padding : Bool) (left : ℕ) (s : List ℕ) (l : List Range) (t v : List ℕ) (c : Reading) → Alike (items_from padding left s l t c) (items_from padding left s l v c)
items_alike padding zero s l t v c =
    by_bool (item_next s c) (λ e. rw (items_over padding s l t c e, items_over padding s l v c e) (record { ranges = refl; left = refl; last = refl }))
    (λ e. rw (items_end padding 0 s l t c e, items_end padding 0 s l v c e) (record { ranges = refl; left = refl; last = refl }))
items_alike padding (suc left) s l t v c =
    by_bool (item_next s c)
    (λ e.
    let u = united (item_at padding s c) l in
    rw (items_more padding left s l t c e, items_more padding left s l v c e) (items_alike padding left s u (laid_ranges u t) (laid_ranges u v) (on_field (item_at padding s c))))
    (λ e. rw (items_end padding (suc left) s l t c e, items_end padding (suc left) s l v c e) (record { ranges = refl; left = refl; last = refl }))

-- one specialized knowledge, from the same place with the same ranges and count
specialized_alike : (padding : Bool) (depth : ℕ) (s : List ℕ) (l : List Range) (t v : List ℕ) (left : ℕ) (c : Reading)
    → Alike (specialized_from padding depth s (knowing l t left c)) (specialized_from padding depth s (knowing l v left c))
unfolding specialized_from cell_from
specialized_alike padding depth s l t v left c =
    by_bool (is_cell (specialized_guid padding s c))
    (λ e.
    let i = items_alike padding left s l t v (start_of_length padding s 0x44 0x14 true true 0 (on_field (specialized_guid padding s c))) in
    rw e (record { ranges = i.ranges; left = i.left; last = ap (end_here s 0x44) i.last }))
    (λ e. rw e (record { ranges = refl; left = refl; last = refl }))

-- the turns, from states that are alike
from_alike : (padding : Bool) (depth : ℕ) (s : List ℕ) (k m : Knowing) → Alike k m → Alike (knowledge_from padding depth s k) (knowledge_from padding depth s m)
from_alike padding depth s =
    iterate_ind (λ k. knowledge_turn padding depth s k) (λ k. to_go s k.last) unreached (knowledge_falls padding depth s)
    (λ (k : Knowing). (m : Knowing) → Alike k m → Alike (knowledge_from padding depth s k) (knowledge_from padding depth s m))
    (λ k h m a.
    by_bool (next_is s 0x44 k.last)
    (λ e.
    let f : next_is s 0x44 m.last ≡ true = rw (← a.last) e in
    let x : Alike (specialized_from padding depth s k) (specialized_from padding depth s m) =
    rw (a.ranges, a.left, a.last) (specialized_alike padding depth s m.ranges k.table m.table m.left m.last) in
    rw (knowledge_more padding depth s k e, knowledge_more padding depth s m f) (h (specialized_from padding depth s k) (turn_more padding depth s k e) (specialized_from padding depth s m) x))
    (λ e.
    let f : next_is s 0x44 m.last ≡ false = rw (← a.last) e in
    rw (knowledge_end_lem padding depth s k e, knowledge_end_lem padding depth s m f) (record { ranges = a.ranges; left = a.left; last = ap (end_here s 0x10) a.last })))

pub table_free : (padding : Bool) (allowed depth outer : ℕ) (s t v : List ℕ) (c : Reading) → Alike (knowledge_at padding allowed depth outer s t c) (knowledge_at padding allowed depth outer s v c)
unfolding knowledge_at
table_free padding allowed depth outer s t v c =
    let o = start_of_length padding s outer 0x10 true true 0 c in
    from_alike padding depth s (knowing [] t allowed o) (knowing [] v allowed o) (record { ranges = refl; left = refl; last = refl })
