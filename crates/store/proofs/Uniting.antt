-- The ranges and entries of a cell knowledge, turn by turn: what the working table holds, and how many may still come.
-- Assumes nothing.
use mathlib.Core.Path.{◌≡◌, refl, sym, ap, ◌∙◌}
use mathlib.Core.Bool.{Bool, true, false}
use mathlib.Core.List.{List}
use Prim.Native.Nat.{ℕ, zero, suc, ◌+◌, ◌-◌, ◌*◌, ◌≤◌}
use native.Mathlib.Omega.{arith}
use lib.ListN.{length, drop}
use borrow.Author.Tests.{le-leb}
use Rattle.objects.specs.Steps.{start_here, end_here, on_field}
use Rattle.objects.specs.Results.Reading.{Reading}
use Rattle.talk.specs.Ranges.{insert, Normal}
use Rattle.talk.specs.declared.range.Range.{Range}
use Rattle.talk.proofs.Insertion.{length_insert}
use Rattle.ranges.specs.RangeTable.{range_width, ranges_at, laid_ranges, added_to, laid_in}
use Rattle.store.specs.Knowledge.{item_next, item_kind, item_at, united, Knowing, knowing, items_from, KnownIs}
use Rattle.store.specs.declared.knowledge.Known.{Known}
use Rattle.ranges.specs.Results.Added.{Rows}
use Rattle.ranges.proofs.RangeRows.{length_rows, laid_rows_lem, laid_same, length_laid}
use Rattle.store.proofs.Items.{sound_item, united_normal, length_united}

-- ---- one item's range

-- with room for one row more, a range is added
pub added_fits : (t : List ℕ) (n : ℕ) (x : Range) → n * 4 + 4 ≤ length t
    → (added_to t (insert x (ranges_at t 0 n)) ≡ Rows (length (insert x (ranges_at t 0 n))))
    × (laid_in t (insert x (ranges_at t 0 n)) ≡ laid_ranges (insert x (ranges_at t 0 n)) t)
added_fits t n x h =
    let k : length (insert x (ranges_at t 0 n)) * 4 ≤ length t = omega (arith, length_insert x (ranges_at t 0 n), length_rows t 0 n) in
    (simp (le-leb _ _ k), simp (le-leb _ _ k))

-- where nothing is added, rows and table stay
pub none_added : (t : List ℕ) (n : ℕ) → n * 4 + 4 ≤ length t → (n ≡ length (ranges_at t 0 n)) × (t ≡ laid_ranges (ranges_at t 0 n) t)
none_added t n h = (sym (length_rows t 0 n), sym (laid_same t n (omega arith)))

-- ---- the items at a place

pub items_end : (padding : Bool) (left : ℕ) (s : List ℕ) (l : List Range) (t : List ℕ) (c : Reading) → item_next s c ≡ false
    → items_from padding left s l t c ≡ knowing l t left (end_here s 0x14 c)
unfolding items_from
items_end padding zero s l t c e = rw e
items_end padding (suc left) s l t c e = rw e

pub items_over : (padding : Bool) (s : List ℕ) (l : List Range) (t : List ℕ) (c : Reading) → item_next s c ≡ true
    → items_from padding 0 s l t c ≡ knowing l t 0 (start_here padding s 0x14 (item_kind s c) false false c)
unfolding items_from
items_over padding s l t c e = rw e

pub items_more : (padding : Bool) (left : ℕ) (s : List ℕ) (l : List Range) (t : List ℕ) (c : Reading) → item_next s c ≡ true
    → items_from padding (suc left) s l t c ≡ items_from padding left s (united (item_at padding s c) l) (laid_ranges (united (item_at padding s c) l) t) (on_field (item_at padding s c))
unfolding items_from
items_more padding left s l t c e = rw e

-- ---- what holds whenever the loop's test is reached: the items from the start are the items from here

pub record Uniting (padding : Bool) (s : List ℕ) (told : Knowing) (t : List ℕ) (c : Reading) (n left : ℕ) : Type 0 where
  pub room : (n + left) * range_width ≤ length t
  pub normal : Normal (ranges_at t 0 n)
  pub rest : told ≡ items_from padding left s (ranges_at t 0 n) t c

module _ (padding : Bool) {s : List ℕ} {told : Knowing} {t : List ℕ} {c : Reading} {n left : ℕ} (u : Uniting padding s told t c n left) where
  -- where the walk ends at k with these ranges
  known_here : (k : Knowing) (r : Known) → told ≡ k → k.ranges ≡ ranges_at t 0 n → k.table ≡ t → k.left ≡ left → r.rows ≡ n → r.left ≡ left → r.last ≡ k.last → KnownIs told r t
  known_here k r e a b d f g h =
      rw e
      (record {
        rows = f ∙ sym (length_rows t 0 n) ∙ ap length (sym a);
        left = g ∙ sym d;
        last = h;
        table = sym b;
        held = rw f (sym a);
        room = rw (f, g) u.room;
        normal = rw a u.normal;
      })

  pub uniting_end : item_next s c ≡ false → (r : Known) → r.rows ≡ n → r.left ≡ left → r.last ≡ end_here s 0x14 c → KnownIs told r t
  uniting_end e r f g h =
      known_here (knowing (ranges_at t 0 n) t left (end_here s 0x14 c)) r (u.rest ∙ items_end padding left s (ranges_at t 0 n) t c e) refl refl refl f g h

  pub uniting_over : item_next s c ≡ true → left ≡ 0 → (r : Known) → r.rows ≡ n → r.left ≡ left → r.last ≡ start_here padding s 0x14 (item_kind s c) false false c
      → KnownIs told r t
  uniting_over e z r f g h =
      known_here (knowing (ranges_at t 0 n) t 0 (start_here padding s 0x14 (item_kind s c) false false c)) r
      (u.rest ∙ rw z (items_over padding s (ranges_at t 0 n) t c e)) refl refl (sym z) f g h

  -- with one more, the table is as long as it was
  pub uniting_long : (left ≡ 0 → ⊥) → length (laid_ranges (united (item_at padding s c) (ranges_at t 0 n)) t) ≡ length t
  uniting_long d =
      let m = length_united (item_at padding s c) (ranges_at t 0 n) n (let q = length_rows t 0 n in omega arith) in
      let q = u.room in
      length_laid (united (item_at padding s c) (ranges_at t 0 n)) t (omega arith)

  pub uniting_more : item_next s c ≡ true → (left ≡ 0 → ⊥)
      → Uniting padding s told (laid_ranges (united (item_at padding s c) (ranges_at t 0 n)) t) (on_field (item_at padding s c)) (length (united (item_at padding s c) (ranges_at t 0 n))) (left - 1)
  uniting_more e d =
      let l = united (item_at padding s c) (ranges_at t 0 n) in
      let z : left ≡ suc (left - 1) = omega arith in
      let h : ranges_at (laid_ranges l t) 0 (length l) ≡ l = laid_rows_lem l (drop (length l * 4) t) in
      let m = length_united (item_at padding s c) (ranges_at t 0 n) n (let q = length_rows t 0 n in omega arith) in
      let q = u.room in
      record {
        room = rw (uniting_long d) (omega arith);
        normal = rw h (united_normal (item_at padding s c) (ranges_at t 0 n) (sound_item padding s c) u.normal);
        rest = rw h (u.rest ∙ ap (λ (m : ℕ). items_from padding m s (ranges_at t 0 n) t c) z ∙ items_more padding (left - 1) s (ranges_at t 0 n) t c e);
      }
