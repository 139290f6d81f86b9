-- A range or an entry that is read: it stays within the input, goes forward, and adds a range in which from is not above to.
-- Assumes nothing.
use mathlib.Core.Path.{◌≡◌, refl}
use mathlib.Core.Bool.{Bool, true, false}
use mathlib.Core.List.{List}
use Prim.Native.Nat.{ℕ, ◌+◌, ◌≤◌}
use native.Mathlib.Omega.{arith}
use lib.ListN.{length}
use lib.Dec.{leb}
use borrow.Author.Tests.{leb-true}
use Rattle.laws.proofs.Cases.{pick_all}
use Rattle.numbers.specs.Results.Serial as number
use Rattle.objects.specs.Steps.{value_of, need, run_here, closed, next_is, Good, on_field}
use Rattle.objects.specs.Results.Reading.{At, Reading, Refused}
use Rattle.objects.specs.Results.ReadingSerial.{ReadingSerial}
use Rattle.objects.specs.Results.ReadingSerial as serial'
use Rattle.objects.proofs.Keep.{Onward, onto, good_front, onward_need, good_place, onward_number, onward_guid, onward_serial, onward_start, onward_closed}
use Rattle.talk.specs.Ranges.{Normal}
use Rattle.talk.specs.declared.range.Range.{Range}
use Rattle.talk.proofs.Insertion.{length_insert, normal_insert}
use Rattle.store.specs.Knowledge.{from_field, to_field, range_fields, item_of, range_start, range_item, entry_of, entry_start, entry_serial, entry_item, item_at, united}
use Rattle.ranges.specs.Ranged.{range_of}
use Rattle.store.specs.Store.{Stands}
use Rattle.store.specs.Results.Item.{Item}
use Rattle.store.specs.Results.Item as item
use Rattle.store.proofs.Taken.{stands_closed}

-- ---- the fields stay within the data run

good_from : (padding : Bool) (d : List ℕ) → Good d (from_field padding d)
good_from padding d = (onward_number padding d _).good ((onward_guid d (At 0 0)).good (good_front d 0))

pub good_range_fields : (padding : Bool) (d : List ℕ) → Good d (range_fields padding d).last
unfolding range_fields
good_range_fields padding d = (onward_need d _ 12 _ (to_field padding d) (omega arith) (good_place d (from_field padding d) (good_from padding d))).good ((onward_number padding d (from_field padding d)).good (good_from padding d))

pub good_entry_fields : (d : List ℕ) → Good d (on_field (entry_serial d))
good_entry_fields d = (onward_serial d (At 0 0)).good (good_front d 0)

-- ---- what holds of the place behind an item holds of where the reading goes on

-- `At e v` becomes `At e 0`, which the predicates here do not tell apart
on_range : (P : Reading → Type 0) → ((e v : ℕ) → P (At e v) → P (At e 0)) → (x : Range) (c : Reading) → P c → P (on_field (item_of x c))
unfolding on_field item_of
on_range P f x (At e v) h = f e v h
on_range P f x (Refused r) h = h

entry_closed : (P : Reading → Type 0) → ((e v : ℕ) → P (At e v) → P (At e 0)) → (k : ReadingSerial) (c : Reading) → P c
    → (Stands c → Stands (on_field k)) → P (on_field (entry_of k c))
unfolding on_field entry_of
entry_closed P f k (Refused r) h g = h
entry_closed P f (serial'.At q number.Null) (At e v) h g = f e v h
entry_closed P f (serial'.At q (number.Numbered i x)) (At e v) h g = f e v h
entry_closed P f (serial'.Refused r) (At e v) h g = absurd (g tt)

-- a serial number at fault leaves the closed run at fault
on_entry : (P : Reading → Type 0) → ((e v : ℕ) → P (At e v) → P (At e 0)) → (k : ReadingSerial) (s : List ℕ) (o : Reading)
    → P (closed s o (on_field k)) → P (on_field (entry_of k (closed s o (on_field k))))
on_entry P f k s o h = entry_closed P f k (closed s o (on_field k)) h (λ t. (stands_closed s o (on_field k) t).1)

module _ (padding : Bool) (P : Reading → Type 0) (f : (e v : ℕ) → P (At e v) → P (At e 0)) (s : List ℕ) (c : Reading) where
  pub on_item_lem : P (closed s (range_start padding s c) (range_fields padding (run_here s (range_start padding s c))).last)
      → P (closed s (entry_start padding s c) (on_field (entry_serial (run_here s (entry_start padding s c))))) → P (on_field (item_at padding s c))
  unfolding item_at range_item entry_item
  on_item_lem a b =
      pick_all (λ (i : Item). P (on_field i)) (next_is s 0x0F c) _ _
      (λ e. on_range P f (range_fields padding (run_here s (range_start padding s c))).range (closed s (range_start padding s c) (range_fields padding (run_here s (range_start padding s c))).last) a)
      (λ e. on_entry P f (entry_serial (run_here s (entry_start padding s c))) s (entry_start padding s c) b)

pub onward_item : (padding : Bool) (s : List ℕ) (c : Reading) → Onward s c (on_field (item_at padding s c))
onward_item padding s c =
    on_item_lem padding (Onward s c) (λ e v h. record { behind = h.behind; good = h.good }) s c
    (onto (onward_start padding s 0x14 0x0F false true c) (onward_closed s (range_start padding s c) _ (good_range_fields padding (run_here s (range_start padding s c)))))
    (onto (onward_start padding s 0x14 0x17 false true c) (onward_closed s (entry_start padding s c) _ (good_entry_fields (run_here s (entry_start padding s c)))))

-- ---- from is not above to

abbrev pub Sound : Item → Type 0
Sound (item.Adds e x) = x.from ≤ x.to
Sound (item.Nothing e) = Unit {0}
Sound (item.Refused r) = Unit {0}

need_holds : (fine : Bool) (k p : ℕ) (c : Reading) → Stands (need fine k p c) → fine ≡ true
unfolding need
need_holds true k p c h = refl
need_holds false k p (At at v) h = absurd h
need_holds false k p (Refused r) h = absurd h

sound_range : (x : Range) (c : Reading) → (Stands c → x.from ≤ x.to) → Sound (item_of x c)
unfolding item_of
sound_range x (At e v) h = h tt
sound_range x (Refused r) h = tt

sound_entry : (k : ReadingSerial) (c : Reading) → Sound (entry_of k c)
unfolding entry_of range_of
sound_entry k (Refused r) = tt
sound_entry (serial'.At q number.Null) (At e v) = tt
sound_entry (serial'.At q (number.Numbered g x)) (At e v) = omega arith
sound_entry (serial'.Refused r) (At e v) = tt

sound_fields : (padding : Bool) (d : List ℕ) → Stands (range_fields padding d).last → (range_fields padding d).range.from ≤ (range_fields padding d).range.to
unfolding range_fields range_of
sound_fields padding d h = leb-true _ _ (need_holds (leb (value_of (from_field padding d)) (value_of (to_field padding d))) 12 _ (to_field padding d) h)

pub sound_item : (padding : Bool) (s : List ℕ) (c : Reading) → Sound (item_at padding s c)
unfolding item_at range_item entry_item
sound_item padding s c =
    pick_all Sound (next_is s 0x0F c) _ _
    (λ e. sound_range _ _ (λ h. sound_fields padding (run_here s (range_start padding s c)) (stands_closed s (range_start padding s c) (range_fields padding (run_here s (range_start padding s c))).last h).1))
    (λ e. sound_entry _ _)

-- ---- the ranges with it

pub united_normal : (i : Item) (l : List Range) → Sound i → Normal l → Normal (united i l)
unfolding united
united_normal (item.Adds e x) l h n = normal_insert x l h n
united_normal (item.Nothing e) l h n = n
united_normal (item.Refused r) l h n = n

pub length_united : (i : Item) (l : List Range) (n : ℕ) → length l ≤ n → length (united i l) ≤ n + 1
unfolding united
length_united (item.Adds e x) l n h = omega (arith, length_insert x l)
length_united (item.Nothing e) l n h = omega arith
length_united (item.Refused r) l n h = omega arith
