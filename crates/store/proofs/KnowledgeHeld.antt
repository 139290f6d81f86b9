-- What a knowledge that was read is: ranges in normal form, at most as many as may come, which are the rows of the table; what stood
-- in the table behind so many rows stands there still; and the place, or a fault's, lies within the input.
-- Assumes nothing.
use mathlib.Core.Path.{◌≡◌, refl, sym, ap, ◌∙◌}
use mathlib.Core.Bool.{Bool, true, false}
use mathlib.Core.List.{List, []}
use Prim.Native.Nat.{ℕ, zero, suc, ◌+◌, ◌*◌, ◌-◌, ◌≤◌}
use native.Mathlib.Omega.{arith}
use lib.ListN.{length, drop}
use lib.Seq.{drop-drop, drop_at}
use Rattle.laws.specs.Pick.{pick}
use Rattle.laws.proofs.Cases.{by_bool, pick_all, impossible}
use Rattle.laws.proofs.Loops.{iterate_ind}
use Rattle.objects.specs.Steps.{start_of_length, next_is, on_field}
use Rattle.objects.specs.Results.Reading.{At, Reading, Refused}
use Rattle.objects.proofs.Keep.{Onward, onto, onward_start_of_length, onward_end}
use Rattle.talk.specs.Ranges.{within, holds, Normal}
use Rattle.talk.specs.declared.range.Range.{Range}
use Rattle.talk.proofs.Membership.{holds_insert}
use Rattle.ranges.specs.RangeTable.{range_width, ranges_at, numbers_of, laid_ranges}
use Rattle.store.specs.Knowledge.{item_next, item_at, united, Knowing, knowing, items_from, is_cell, specialized_guid, cell_from, specialized_from, knowledge_turn, to_go, unreached, knowledge_from, knowledge_at, knowledge_answer}
use Rattle.store.specs.Results.Item.{Item}
use Rattle.store.specs.Results.Item as item
use Rattle.store.specs.Results.ReadKnowledge as read
use Rattle.ranges.proofs.RangeRows.{length_numbers, laid_rows_lem, length_laid}
use Rattle.store.proofs.Items.{sound_item, united_normal, length_united}
use Rattle.store.proofs.KnowledgeForward.{knowledge_falls, knowledge_more, knowledge_end_lem, turn_more, onward_specialized}

-- ---- what holds at the start and is kept by each range and entry holds at the end

module _ (padding : Bool) (P : List Range → List ℕ → ℕ → Type 0) (s : List ℕ)
    (step : (c : Reading) (l : List Range) (t : List ℕ) (left : ℕ) → P l t (suc left) → P (united (item_at padding s c) l) (laid_ranges (united (item_at padding s c) l) t) left) where
  abbrev On : Knowing → Type 0
  On k = P k.ranges k.table k.left

  items_keep : (left : ℕ) (l : List Range) (t : List ℕ) (c : Reading) → P l t left → On (items_from padding left s l t c)
  unfolding items_from
  items_keep zero l t c p = pick_all On (item_next s c) _ _ (λ e. p) (λ e. p)
  items_keep (suc left) l t c p =
      pick_all On (item_next s c) _ _
      (λ e. items_keep left (united (item_at padding s c) l) (laid_ranges (united (item_at padding s c) l) t) (on_field (item_at padding s c)) (step c l t left p)) (λ e. p)

  specialized_keep : (depth : ℕ) (k : Knowing) → On k → On (specialized_from padding depth s k)
  unfolding specialized_from cell_from
  specialized_keep depth k p =
      pick_all On (is_cell (specialized_guid padding s k.last)) _ _
      (λ e. items_keep k.left k.ranges k.table (start_of_length padding s 0x44 0x14 true true 0 (on_field (specialized_guid padding s k.last))) p) (λ e. p)

  knowledge_keep : (depth : ℕ) (k : Knowing) → On k → On (knowledge_from padding depth s k)
  knowledge_keep depth =
      iterate_ind (λ m. knowledge_turn padding depth s m) (λ m. to_go s m.last) unreached (knowledge_falls padding depth s) (λ (k : Knowing). On k → On (knowledge_from padding depth s k))
      (λ k h p.
      by_bool (next_is s 0x44 k.last)
      (λ e. rw (knowledge_more padding depth s k e) (h (specialized_from padding depth s k) (turn_more padding depth s k e) (specialized_keep depth k p)))
      (λ e. rw (knowledge_end_lem padding depth s k e) p))

  pub kept : (allowed depth outer : ℕ) (t : List ℕ) (c : Reading) → P [] t allowed → On (knowledge_at padding allowed depth outer s t c)
  unfolding knowledge_at
  kept allowed depth outer t c p = knowledge_keep depth (knowing [] t allowed (start_of_length padding s outer 0x10 true true 0 c)) p

-- ---- the ranges, and the table

pub record Held (allowed : ℕ) (t₀ : List ℕ) (l : List Range) (t : List ℕ) (left : ℕ) : Type 0 where
  pub normal : Normal l
  pub room : length l + left ≤ allowed
  pub rows : ranges_at t 0 (length l) ≡ l
  pub long : length t ≡ length t₀
  pub later : drop (allowed * range_width) t ≡ drop (allowed * range_width) t₀

later_laid : (l : List Range) (t : List ℕ) (n : ℕ) → length l * 4 ≤ n → drop n (laid_ranges l t) ≡ drop n t
later_laid l t n h =
    let m = length l * 4 in
    let e : n ≡ m + (n - m) = omega arith in
    let a : drop m (laid_ranges l t) ≡ drop m t = drop_at (numbers_of l) (drop m t) m (length_numbers l) in
    rw e (sym (drop-drop (n - m) m (laid_ranges l t)) ∙ ap (drop (n - m)) a ∙ drop-drop (n - m) m t)

pub knowledge_held : (padding : Bool) (allowed depth outer : ℕ) (s t : List ℕ) (c : Reading) → allowed * range_width ≤ length t
    → Held allowed t (knowledge_at padding allowed depth outer s t c).ranges (knowledge_at padding allowed depth outer s t c).table (knowledge_at padding allowed depth outer s t c).left
unfolding Normal ranges_at
knowledge_held padding allowed depth outer s t c h =
    kept padding (Held allowed t) s (λ d l v left p. more_held d l v left p) allowed depth outer t c (record { normal = tt; room = omega arith; rows = refl; long = refl; later = refl })
  where
    more_held : (d : Reading) (l : List Range) (v : List ℕ) (left : ℕ) → Held allowed t l v (suc left)
        → Held allowed t (united (item_at padding s d) l) (laid_ranges (united (item_at padding s d) l) v) left
    more_held d l v left p =
        let u = united (item_at padding s d) l in
        let m = length_united (item_at padding s d) l (length l) (omega arith) in
        let r = p.room in
        let n = p.long in
        record {
          normal = united_normal (item_at padding s d) l (sound_item padding s d) p.normal;
          room = omega arith;
          rows = laid_rows_lem u (drop (length u * 4) v);
          long = length_laid u v (omega arith) ∙ p.long;
          later = later_laid u v (allowed * range_width) (omega arith) ∙ p.later;
        }

-- "Several cell knowledges are united. As a set it holds pairs of GUID and number": after an item a pair is held if it lies in
-- the item's range, or was held before
abbrev pub item_holds : Item → ℕ → ℕ → ℕ → Bool
item_holds (item.Adds e x) a b n = within x a b n
item_holds (item.Nothing e) a b n = false
item_holds (item.Refused r) a b n = false

pub united_holds : (i : Item) (l : List Range) (a b n : ℕ) → Normal l → holds (united i l) a b n ≡ pick (item_holds i a b n) true (holds l a b n)
unfolding united
united_holds (item.Adds e x) l a b n o = holds_insert x l a b n o
united_holds (item.Nothing e) l a b n o = refl
united_holds (item.Refused r) l a b n o = refl

-- ---- the place

onward_from : (padding : Bool) (depth : ℕ) (s : List ℕ) (k : Knowing) → Onward s k.last (knowledge_from padding depth s k).last
onward_from padding depth s =
    iterate_ind (λ m. knowledge_turn padding depth s m) (λ m. to_go s m.last) unreached (knowledge_falls padding depth s) (λ (k : Knowing). Onward s k.last (knowledge_from padding depth s k).last)
    (λ k h.
    by_bool (next_is s 0x44 k.last)
    (λ e. rw (knowledge_more padding depth s k e) (onto (onward_specialized padding depth s k) (h (specialized_from padding depth s k) (turn_more padding depth s k e))))
    (λ e. rw (knowledge_end_lem padding depth s k e) (onward_end s 0x10 k.last)))

pub onward_knowledge : (padding : Bool) (allowed depth outer : ℕ) (s t : List ℕ) (c : Reading) → Onward s c (knowledge_at padding allowed depth outer s t c).last
unfolding knowledge_at
onward_knowledge padding allowed depth outer s t c =
    onto (onward_start_of_length padding s outer 0x10 true true 0 c) (onward_from padding depth s (knowing [] t allowed (start_of_length padding s outer 0x10 true true 0 c)))

-- ---- as a caller has it: the rows that the answer counts are in normal form

answer_rows : (m : ℕ) (c : Reading) (e n : ℕ) → knowledge_answer m c ≡ read.Holds e n → m ≡ n
unfolding knowledge_answer
answer_rows m (At p v) e n h = grind arith
answer_rows m (Refused r) e n h = impossible (cc)

pub rows_normal : (l : List Range) (c : Reading) (e n : ℕ) (t : List ℕ) → read.Holds e n ≡ knowledge_answer (length l) c → ranges_at t 0 (length l) ≡ l → Normal l
    → Normal (ranges_at t 0 n)
rows_normal l c e n t h r o = rw (← answer_rows (length l) c e n (sym h), r) o
