-- Knowledge that was written reads back: a list in normal form, as the same list, at any place and followed by anything.
-- Assumes nothing.
use mathlib.Core.Path.{◌≡◌, refl, sym, ap, ◌∙◌}
use mathlib.Core.Bool.{Bool, true, false}
use mathlib.Core.List.{List, [], ◌∷◌, ◌++◌, append_assoc, append-nil}
use Prim.Native.Nat.{ℕ, zero, suc, ◌+◌, ◌^◌, ◌≤◌, ◌<◌}
use native.Mathlib.Omega.{arith}
use lib.ListN.{length, drop, length-append}
use lib.Seq.{take-append_seam}
use borrow.Author.Tests.{le-leb, le-ltb}
use Rattle.numbers.specs.Compact.{compact_bytes}
use Rattle.numbers.specs.Guid.{guid_bytes, GuidFits}
use Rattle.numbers.proofs.Guids.{length_guid, swapped_back, swapped_fits}
use Rattle.objects.specs.Header.{start_bytes, end_bytes}
use Rattle.objects.specs.Steps.{value_of, need, start_of_length, next_is, run_here, closed_at, on_field}
use Rattle.objects.specs.Results.Reading.{At}
use Rattle.objects.specs.Results.ReadingGuid as guid'
use Rattle.objects.proofs.Written.{behind, guid_written, reads_number}
use Rattle.objects.proofs.ObjectsWritten.{reads_start, reads_start_of_length, reads_end, next_start, next_end}
use Rattle.talk.specs.Ranges.{Normal, RangeFits, AllFit}
use Rattle.talk.specs.declared.range.Range.{Range}
use Rattle.talk.proofs.Insertion.{insert_last}
use Rattle.store.specs.Knowledge.{guid_in, guid_field, from_field, to_field, range_fields, item_of, range_start, range_item, item_next, item_at, united, Knowing, knowing, items_from, cell_guid, is_cell, specialized_guid, cell_from, specialized_from, knowledge_from, knowledge_at}
use Rattle.ranges.specs.Ranged.{range_of}
use Rattle.store.specs.KnowledgeWritten.{range_guid, range_data, range_bytes, ranges_bytes, cell_front, cell_back, knowledge_bytes}
use Rattle.store.specs.Results.Item as item
use Rattle.store.proofs.KnowledgeForward.{knowledge_more, knowledge_end_lem}
use Rattle.store.proofs.KnowledgeLengths.{data_most, length_front, length_back}

-- ---- the GUID there and back

guid_fits : (x : Range) → GuidFits (range_guid x)
unfolding range_guid
guid_fits x = (swapped_fits x.upper, swapped_fits x.lower)

range_back : (x : Range) → RangeFits x → range_of (range_guid x) x.from x.to ≡ x
unfolding range_of range_guid
range_back x f = rw (swapped_back x.upper f.0, swapped_back x.lower f.1)

-- ---- one range

module _ (padding : Bool) (x : Range) (f : RangeFits x) (v : x.from ≤ x.to) where
  abbrev guid_part : List ℕ
  guid_part = guid_bytes (range_guid x)

  abbrev from_part : List ℕ
  from_part = compact_bytes x.from

  abbrev to_part : List ℕ
  to_part = compact_bytes x.to

  guid_is : guid_field (range_data x) ≡ guid'.At (0 + length guid_part) (range_guid x)
  unfolding range_data
  guid_is = guid_written (range_data x) 0 0 (range_guid x) (from_part ++ to_part) (guid_fits x) refl

  from_is : from_field padding (range_data x) ≡ At (0 + length guid_part + length from_part) x.from
  unfolding range_data on_field
  from_is =
      rw guid_is
      ((reads_number padding 0 x.from f.2).here (range_data x) (0 + length guid_part) to_part (behind (range_data x) 0 guid_part (from_part ++ to_part) refl))

  to_is : to_field padding (range_data x) ≡ At (length (range_data x)) x.to
  unfolding range_data
  to_is =
      let p = 0 + length guid_part in
      let e : drop (p + length from_part) (range_data x) ≡ to_part ++ [] =
      behind (range_data x) p from_part to_part (behind (range_data x) 0 guid_part (from_part ++ to_part) refl) ∙ sym (append-nil to_part) in
      rw from_is
      ((reads_number padding x.from x.to f.3).here (range_data x) (p + length from_part) [] e
      ∙ ap (λ (n : ℕ). At n x.to) (let a = length-append guid_part (from_part ++ to_part) in let b = length-append from_part to_part in omega arith))

  fields_are : range_fields padding (range_data x) ≡ record { range = x; last = At (length (range_data x)) x.to }
  unfolding range_fields guid_in value_of need
  fields_are = rw (to_is, from_is, guid_is, range_back x f, le-leb x.from x.to v)

  -- where it stands, it is read
  module _ (s : List ℕ) (at u : ℕ) (t : List ℕ) (stands : drop at s ≡ range_bytes x ++ t) where
    abbrev start : List ℕ
    start = start_bytes 0x0F false (length (range_data x))

    short : length (range_data x) < 2 ^ 64
    short = let m = data_most x in omega arith

    stands' : drop at s ≡ start ++ (range_data x ++ t)
    unfolding range_bytes
    stands' = stands ∙ append_assoc start (range_data x) t

    opens : range_start padding s (At at u) ≡ At (at + length start) (length (range_data x))
    opens = (reads_start padding u 0x14 0x0F false (length (range_data x)) (omega arith) short).here s at (range_data x ++ t) stands'

    run_is : run_here s (range_start padding s (At at u)) ≡ range_data x
    unfolding run_here
    run_is = rw (opens, behind s at start (range_data x ++ t) stands') (take-append_seam (range_data x) t)

    place_is : at + length start + length (range_data x) ≡ at + length (range_bytes x)
    unfolding range_bytes
    place_is = let a = length-append start (range_data x) in omega arith

    range_read : range_item padding s (At at u) ≡ item.Adds (at + length (range_bytes x)) x
    unfolding range_item closed_at item_of
    range_read =
        let l : length (range_data x) ≤ length (range_data x) = omega arith in
        rw (run_is, fields_are, opens, le-ltb _ _ l, place_is)

    item_read : item_at padding s (At at u) ≡ item.Adds (at + length (range_bytes x)) x
    unfolding item_at
    item_read = rw (next_start s at u 0x0F false (length (range_data x)) (range_data x ++ t) (omega arith) short stands') range_read

    item_stands : item_next s (At at u) ≡ true
    unfolding item_next
    item_stands = rw (next_start s at u 0x0F false (length (range_data x)) (range_data x ++ t) (omega arith) short stands')

-- ---- the ranges of a cell knowledge, and its end

no_item : (s : List ℕ) (at u : ℕ) (t : List ℕ) → drop at s ≡ end_bytes 0x14 ++ t → item_next s (At at u) ≡ false
unfolding item_next
no_item s at u t h = rw (next_end s at u 0x0F 0x14 t (omega arith) h, next_end s at u 0x17 0x14 t (omega arith) h)

-- what is known is l, read to the place e
abbrev ReadTo : List Range → ℕ → Knowing → Type 0
ReadTo l e k = (k.ranges ≡ l) × (k.last ≡ At e 0)

-- a range of a list in normal form holds a number
holds_some : (l : List Range) (x : Range) (rest : List Range) → Normal (l ++ (x ∷ rest)) → x.from ≤ x.to
unfolding Normal
holds_some [] x rest n = n.0
holds_some (y ∷ ys) x rest n = holds_some ys x rest n.2

items_end : (padding : Bool) (left : ℕ) (s : List ℕ) (l : List Range) (t : List ℕ) (at u : ℕ) (rest : List ℕ) → drop at s ≡ end_bytes 0x14 ++ rest
    → ReadTo l (at + length (end_bytes 0x14)) (items_from padding left s l t (At at u))
unfolding items_from
items_end padding zero s l t at u rest h = rw (no_item s at u rest h) (refl, (reads_end u 0x14 (omega arith)).here s at rest h)
items_end padding (suc left) s l t at u rest h = rw (no_item s at u rest h) (refl, (reads_end u 0x14 (omega arith)).here s at rest h)

-- one range more
item_step_lem : (padding : Bool) (left : ℕ) (s : List ℕ) (l : List Range) (t : List ℕ) (at u : ℕ) (x : Range) (e : ℕ) (l' : List Range) (P : Knowing → Type 0)
    → item_next s (At at u) ≡ true → item_at padding s (At at u) ≡ item.Adds e x → united (item.Adds e x) l ≡ l'
    → ((t' : List ℕ) → P (items_from padding left s l' t' (At e 0))) → P (items_from padding (suc left) s l t (At at u))
unfolding items_from on_field
item_step_lem padding left s l t at u x e l' P n i j h = rw (n, i, j) (h _)

united_last : (l : List Range) (x : Range) (rest : List Range) (e : ℕ) → Normal (l ++ (x ∷ rest)) → united (item.Adds e x) l ≡ l ++ (x ∷ [])
unfolding united
united_last l x rest e n = insert_last l x rest n

items_read : (padding : Bool) (left : ℕ) (s : List ℕ) (before l : List Range) (t : List ℕ) (at u : ℕ) (rest : List ℕ) → length l ≤ left → Normal (before ++ l) → AllFit l
    → drop at s ≡ ranges_bytes l ++ (end_bytes 0x14 ++ rest) → ReadTo (before ++ l) (at + length (ranges_bytes l ++ end_bytes 0x14)) (items_from padding left s before t (At at u))
unfolding ranges_bytes AllFit
items_read padding left s before [] t at u rest m n f h = rw append-nil (items_end padding left s before t at u rest h)
items_read padding zero s before (x ∷ l) t at u rest m n f h = absurd (omega arith)
items_read padding (suc left) s before (x ∷ l) t at u rest m n f h =
    let w = range_bytes x in
    let y = ranges_bytes l ++ (end_bytes 0x14 ++ rest) in
    let v = holds_some before x l n in
    let h' : drop at s ≡ w ++ y = h ∙ append_assoc w (ranges_bytes l) (end_bytes 0x14 ++ rest) in
    let d : (before ++ (x ∷ [])) ++ l ≡ before ++ (x ∷ l) = append_assoc before (x ∷ []) l in
    let p : at + length w + length (ranges_bytes l ++ end_bytes 0x14) ≡ at + length ((w ++ ranges_bytes l) ++ end_bytes 0x14) =
    rw append_assoc (let a = length-append w (ranges_bytes l ++ end_bytes 0x14) in omega arith) in
    item_step_lem padding left s before t at u x (at + length w) (before ++ (x ∷ [])) (ReadTo (before ++ (x ∷ l)) (at + length ((w ++ ranges_bytes l) ++ end_bytes 0x14)))
    (item_stands padding x f.0 v s at u y h') (item_read padding x f.0 v s at u y h') (united_last before x l (at + length w) n)
    (λ t'. rw (d, p) at (items_read padding left s (before ++ (x ∷ [])) l t' (at + length w) 0 rest (omega arith) (rw d n) f.1 (behind s at w y h')))

-- ---- the cell knowledge around them

-- its bytes, and what follows
abbrev cell_then : List Range → List ℕ → List ℕ
cell_then l rest =
    start_bytes 0x44 true 16
    ++ (guid_bytes cell_guid ++ (start_bytes 0x14 true 0 ++ (ranges_bytes l ++ (end_bytes 0x14 ++ (end_bytes 0x44 ++ rest)))))

-- where its ranges begin, and the place behind it, if it begins at p
abbrev ranges_from : ℕ → ℕ
ranges_from p = p + length (start_bytes 0x44 true 16) + length (guid_bytes cell_guid) + length (start_bytes 0x14 true 0)

abbrev behind_cell : ℕ → List Range → ℕ
behind_cell p l = ranges_from p + length (ranges_bytes l ++ end_bytes 0x14) + length (end_bytes 0x44)

module _ (padding : Bool) (allowed depth : ℕ) (s : List ℕ) (p u : ℕ) (t : List ℕ) (l : List Range) (rest : List ℕ) (n : Normal l) (f : AllFit l) (m : length l ≤ allowed)
    (stands : drop p s ≡ cell_then l rest) where
  abbrev opened : List ℕ
  opened = start_bytes 0x44 true 16

  abbrev kind : List ℕ
  kind = guid_bytes cell_guid

  abbrev cell : List ℕ
  cell = start_bytes 0x14 true 0

  abbrev held : List ℕ
  held = ranges_bytes l ++ (end_bytes 0x14 ++ (end_bytes 0x44 ++ rest))

  kind_stands : drop (p + length opened) s ≡ kind ++ (cell ++ held)
  kind_stands = behind s p opened (kind ++ (cell ++ held)) stands

  cell_stands : drop (p + length opened + length kind) s ≡ cell ++ held
  cell_stands = behind s (p + length opened) kind (cell ++ held) kind_stands

  held_stands : drop (ranges_from p) s ≡ held
  held_stands = behind s (p + length opened + length kind) cell held cell_stands

  guid_read : specialized_guid padding s (At p u) ≡ guid'.At (p + length opened + length kind) cell_guid
  unfolding specialized_guid
  guid_read =
      rw ((reads_start_of_length padding u 0x10 0x44 true 16 (omega arith) (omega arith)).here s p (kind ++ (cell ++ held)) stands)
      (guid_written s (p + length opened) 16 cell_guid (cell ++ held) (omega arith, omega arith) kind_stands)

  cell_opens : start_of_length padding s 0x44 0x14 true true 0 (At (p + length opened + length kind) 0) ≡ At (ranges_from p) 0
  cell_opens = (reads_start_of_length padding 0 0x44 0x14 true 0 (omega arith) (omega arith)).here s (p + length opened + length kind) held cell_stands

  -- behind the end of the ranges
  abbrev last : ℕ
  last = ranges_from p + length (ranges_bytes l ++ end_bytes 0x14)

  items_are : ReadTo l last (items_from padding allowed s [] t (At (ranges_from p) 0))
  items_are = items_read padding allowed s [] l t (ranges_from p) 0 (end_bytes 0x44 ++ rest) m n f held_stands

  back_stands : drop last s ≡ end_bytes 0x44 ++ rest
  back_stands =
      behind s (ranges_from p) (ranges_bytes l ++ end_bytes 0x14) (end_bytes 0x44 ++ rest)
      (held_stands ∙ sym (append_assoc (ranges_bytes l) (end_bytes 0x14) (end_bytes 0x44 ++ rest)))

  cell_is : ReadTo l (behind_cell p l) (specialized_from padding depth s (knowing [] t allowed (At p u)))
  unfolding specialized_from is_cell cell_from on_field
  cell_is =
      rw (guid_read, cell_opens)
      (items_are.0, rw items_are.1 ((reads_end 0 0x44 (omega arith)).here s last rest back_stands))

  rest_stands : drop (behind_cell p l) s ≡ rest
  rest_stands = behind s last (end_bytes 0x44) rest back_stands

-- ---- the whole

-- its parts, one behind the other
parts_apart : (l : List Range) (rest : List ℕ)
    → (cell_front ++ (ranges_bytes l ++ cell_back)) ++ rest ≡ start_bytes 0x10 true 0 ++ cell_then l (end_bytes 0x10 ++ rest)
unfolding cell_front cell_back
parts_apart l rest = simp append_assoc

place_behind : (l : List Range) (at : ℕ)
    → behind_cell (at + length (start_bytes 0x10 true 0)) l + length (end_bytes 0x10) ≡ at + length (cell_front ++ (ranges_bytes l ++ cell_back))
place_behind l at =
    let a = length-append cell_front (ranges_bytes l ++ cell_back) in
    let b = length-append (ranges_bytes l) cell_back in
    let c = length-append (ranges_bytes l) (end_bytes 0x14) in
    omega (arith, length_front, length_back, length_guid cell_guid)

-- no specialized knowledge stands next, and the end does
ends : (padding : Bool) (depth : ℕ) (s : List ℕ) (k : Knowing) (l : List Range) (at : ℕ) (rest : List ℕ) → ReadTo l at k → drop at s ≡ end_bytes 0x10 ++ rest
    → ReadTo l (at + length (end_bytes 0x10)) (knowledge_from padding depth s k)
ends padding depth s k l at rest e h =
    let n : next_is s 0x44 k.last ≡ false = rw e.1 (next_end s at 0 0x44 0x10 rest (omega arith) h) in
    rw (knowledge_end_lem padding depth s k n) (e.0, rw e.1 ((reads_end 0 0x10 (omega arith)).here s at rest h))

-- one cell knowledge, and then the end
cell_and_end : (padding : Bool) (allowed depth : ℕ) (s : List ℕ) (p : ℕ) (t : List ℕ) (l : List Range) (rest : List ℕ) → Normal l → AllFit l → length l ≤ allowed
    → drop p s ≡ cell_then l (end_bytes 0x10 ++ rest) → ReadTo l (behind_cell p l + length (end_bytes 0x10)) (knowledge_from padding depth s (knowing [] t allowed (At p 0)))
cell_and_end padding allowed depth s p t l rest n f m h =
    let k = knowing [] t allowed (At p 0) in
    let rest' = end_bytes 0x10 ++ rest in
    let inner = guid_bytes cell_guid ++ (start_bytes 0x14 true 0 ++ (ranges_bytes l ++ (end_bytes 0x14 ++ (end_bytes 0x44 ++ rest')))) in
    rw (knowledge_more padding depth s k (next_start s p 0 0x44 true 16 inner (omega arith) (omega arith) h))
    (ends padding depth s (specialized_from padding depth s k) l (behind_cell p l) rest (cell_is padding allowed depth s p 0 t l rest' n f m h) (rest_stands padding allowed depth s p 0 t l rest' n f m h))

-- a list in normal form that is written reads back as itself: at any place, followed by anything, whatever stands in the table
pub knowledge_back : (padding : Bool) (allowed depth outer : ℕ) (l : List Range) (s t : List ℕ) (at u : ℕ) (rest : List ℕ) → Normal l → AllFit l → length l ≤ allowed
    → drop at s ≡ knowledge_bytes l ++ rest
    → ((knowledge_at padding allowed depth outer s t (At at u)).ranges ≡ l) × ((knowledge_at padding allowed depth outer s t (At at u)).last ≡ At (at + length (knowledge_bytes l)) 0)
unfolding knowledge_at knowledge_bytes
knowledge_back padding allowed depth outer [] s t at u rest n f m h =
    let start = start_bytes 0x10 true 0 in
    let end = end_bytes 0x10 in
    let stands : drop at s ≡ start ++ (end ++ rest) = h ∙ append_assoc start end rest in
    let opens = (reads_start_of_length padding u outer 0x10 true 0 (omega arith) (omega arith)).here s at (end ++ rest) stands in
    let place : at + length start + length end ≡ at + length (start ++ end) = let a = length-append start end in omega arith in
    rw (opens, ← place) (ends padding depth s (knowing [] t allowed (At (at + length start) 0)) [] (at + length start) rest (refl, refl) (behind s at start (end ++ rest) stands))
knowledge_back padding allowed depth outer (x ∷ xs) s t at u rest n f m h =
    let l = x ∷ xs in
    let start = start_bytes 0x10 true 0 in
    let inner = cell_then l (end_bytes 0x10 ++ rest) in
    let stands : drop at s ≡ start ++ inner = h ∙ parts_apart l rest in
    let opens = (reads_start_of_length padding u outer 0x10 true 0 (omega arith) (omega arith)).here s at inner stands in
    rw (opens, ← place_behind l at) (cell_and_end padding allowed depth s (at + length start) t l rest n f m (behind s at start inner stands))
