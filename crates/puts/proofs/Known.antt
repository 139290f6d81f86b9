-- "only the knowledge of every serial now stored" (document 02, Q-1): the ranges that the answer says are in normal form, no more than there
-- are elements, of numbers that fit, and hold exactly the serial numbers of the new store's elements.
-- Assumes nothing.
use mathlib.Core.Path.{◌≡◌, refl, sym, ap, subst, ◌∙◌}
use mathlib.Core.Bool.{Bool, true, false}
use mathlib.Core.List.Memᴰ.{of_map}
use mathlib.Core.List.{List, [], ◌∷◌, map, Memᴰ as In}
use mathlib.Core.Logic.{⊎_elim}
use Prim.Native.Nat.{ℕ, ◌+◌, ◌^◌, ◌≤◌, ◌<◌}
use native.Mathlib.Omega.{arith}
use lib.ListN.{length}
use lib.Dec.{eqb}
use borrow.Author.Tests.{eq-eqb, ne_eqb}
use Rattle.laws.specs.Bytes.{AllBytes}
use Rattle.laws.specs.Once.{seen}
use Rattle.laws.proofs.Cases.{by_eq, eqb_turn}
use Rattle.numbers.specs.Guid.{GuidFits, swapped}
use Rattle.numbers.specs.declared.guid.Guid.{Guid}
use Rattle.numbers.proofs.Guids.{swapped_back}
use Rattle.talk.specs.Each.{Each}
use Rattle.talk.specs.RangeSeries.{with_ranges, RangeOfKey}
use Rattle.talk.specs.Ranges.{insert, holds, Normal, AllFit}
use Rattle.talk.specs.declared.range.Range.{Range}
use Rattle.talk.proofs.Bounds.{insert_fits}
use Rattle.talk.proofs.Counts.{holds_insert_one, known_with}
use Rattle.talk.proofs.Insertion.{length_insert, normal_insert}
use Rattle.talk.proofs.Things.{each_so}
use Rattle.ranges.specs.Ranged.{range_of, knows}
use Rattle.store.specs.Element.{key_of, same_key}
use Rattle.store.specs.Store.{store_walk, Stands}
use Rattle.store.specs.Written.{key_guid}
use Rattle.store.specs.declared.element.Key.{Key}
use Rattle.store.specs.declared.element.Element.{Element}
use Rattle.store.proofs.Chains.{store_read}
use Rattle.store.proofs.ElementFits.{NumberedFits, KeysFit, keys_fit}
use Rattle.store.proofs.KnowledgeFits.{range_fits}
use Rattle.store.specs.Held.{key_range}
use Rattle.puts.specs.Applied.{last_number}
use Rattle.enter.specs.Entering.{Kept, enter}
use Rattle.puts.specs.NewStore.{entering_from, highest_under, first_number, new_elements, ranges_of, staying}
use Rattle.enter.proofs.EnteringLaws.{nothing_else}
use Rattle.enter.proofs.Keys.{seen_member, member_seen}
use Rattle.enter.proofs.Members.{each_of, of_each}
use Rattle.enter.proofs.KeptIn.{kept_serial, kept_in_serial}
use Rattle.puts.proofs.Serials.{came, came_serial}

-- a serial number that can be written
abbrev pub SerialFits : Kept → Type 0
SerialFits x = NumberedFits x.serial

-- ---- the ranges of any elements

key_some : (k : Key) → (key_range k).from ≤ (key_range k).to
unfolding key_range range_of
key_some k = omega arith

pub ranges_normal : (l : List Range) (new : List Kept) → Normal l → Normal (ranges_of l new)
unfolding ranges_of
ranges_normal l [] n = n
ranges_normal l (x ∷ new) n = ranges_normal (insert (key_range x.serial) l) new (normal_insert (key_range x.serial) l (key_some x.serial) n)

pub ranges_count : (l : List Range) (new : List Kept) → length (ranges_of l new) ≤ length l + length new
unfolding ranges_of
ranges_count l [] = omega arith
ranges_count l (x ∷ new) =
    let a = ranges_count (insert (key_range x.serial) l) new in let b = length_insert (key_range x.serial) l in omega arith

key_fits : (l : List Range) (k : Key) → NumberedFits k → AllFit l → AllFit (insert (key_range k) l)
unfolding key_range
key_fits l k h f = insert_fits (range_of (key_guid k) k.number k.number) l (range_fits (key_guid k) k.number k.number h.1 h.1) f

pub ranges_fit : (l : List Range) (new : List Kept) → Each SerialFits new → AllFit l → AllFit (ranges_of l new)
unfolding ranges_of
ranges_fit l [] h f = f
ranges_fit l (x ∷ new) h f = ranges_fit (insert (key_range x.serial) l) new h.1 (key_fits l x.serial h.0 f)

-- ---- which serial numbers they hold

abbrev GuidOf : Key → Type 0
GuidOf k = GuidFits (key_guid k)

abbrev knows_key : List Range → Key → Bool
knows_key l k = knows l (key_guid k) k.number

eqb_swapped : (a b : ℕ) → a < 2 ^ 64 → b < 2 ^ 64 → eqb (swapped a) (swapped b) ≡ eqb b a
eqb_swapped a b h k =
    by_eq a b (λ e. eq-eqb (swapped a) (swapped b) (ap swapped e) ∙ sym (eq-eqb b a (sym e)))
    (λ n. ne_eqb (swapped a) (swapped b) (λ e. n (sym (swapped_back a h) ∙ ap swapped e ∙ swapped_back b k)) ∙ sym (ne_eqb b a (λ e. n (sym e))))

serial_keys_lem : RangeOfKey kept_serial (λ (x : Kept). key_range x.serial) knows_key same_key GuidOf
unfolding key_range range_of knows same_key
serial_keys_lem =
    record {
      some = λ x. omega arith;
      adds_one =
          λ x f l o k g.
          holds_insert_one (swapped x.serial.low) (swapped x.serial.high) x.serial.number l o (swapped k.low) (swapped k.high) k.number
          ∙ rw (eqb_swapped x.serial.low k.low f.0 g.0, eqb_swapped x.serial.high k.high f.1 g.1, eqb_turn x.serial.number k.number);
    }

with_same : (l : List Range) (new : List Kept) → ranges_of l new ≡ with_ranges l (map (λ (x : Kept). key_range x.serial) new)
unfolding ranges_of with_ranges
with_same l [] = refl
with_same l (x ∷ new) = with_same (insert (key_range x.serial) l) new

normal_none : Normal []
unfolding Normal
normal_none = tt

fit_none : AllFit []
unfolding AllFit
fit_none = tt

knows_none : (k : Key) → knows_key [] k ≡ false
unfolding knows holds
knows_none k = refl

pub ranges_know : (new : List Kept) → Each SerialFits new → (k : Key) → GuidFits (key_guid k) → knows (ranges_of [] new) (key_guid k) k.number ≡ seen same_key k (map kept_serial new)
ranges_know new f k h =
    let g = each_so SerialFits (λ (x : Kept). GuidOf x.serial) new (λ x h. h.0) f in
    rw (with_same [] new) (known_with same_key GuidOf kept_serial (λ (x : Kept). key_range x.serial) knows_key serial_keys_lem [] new normal_none g k h ∙ rw (knows_none k))

-- ---- the answer's knowledge

pub record Tells (new : List Kept) (l : List Range) : Type 0 where
  pub normal : Normal l
  pub few : length l ≤ length new
  pub fits : AllFit l
  pub known : (g : Guid) (n : ℕ) → GuidFits g → (x : Kept) → In x new → x.serial ≡ key_of g n → knows l g n ≡ true
  pub no_other : (g : Guid) (n : ℕ) → GuidFits g → knows l g n ≡ true → (x : Kept) × In x new × (x.serial ≡ key_of g n)

pub ranges_tell : (new : List Kept) → Each SerialFits new → Tells new (ranges_of [] new)
ranges_tell new f =
    record {
      normal = ranges_normal [] new normal_none;
      few = let n = ranges_count [] new in omega arith;
      fits = ranges_fit [] new f fit_none;
      known = λ g n h x m e. ranges_know new f (key_of g n) h ∙ rw e at (seen_member kept_serial new m);
      no_other = λ g n h e. member_seen kept_serial (key_of g n) new (sym (ranges_know new f (key_of g n) h) ∙ e);
    }

-- every serial number of the new store fits
module _ (s q : List ℕ) (g : Guid) (handed : List Element) (bytes : AllBytes s) (store_reads : Stands (store_walk s).last) (fits : GuidFits g)
    (left : highest_under g (store_walk s).elements + length handed ≤ last_number) where
  abbrev all : List Element
  all = (store_walk s).elements

  stays_fits : (x : Kept) → In x (map (staying s) all) → SerialFits x
  stays_fits x m =
      let r = of_map (staying s) all m in
      let k = of_each KeysFit all (keys_fit s bytes (store_read s store_reads)) r.0 r.1 in
      subst NumberedFits (sym (kept_in_serial s r.0) ∙ ap kept_serial r.2) k.1

  comes_fits : (x : Kept) → In x (entering_from q g (first_number g all) handed) → SerialFits x
  comes_fits x m =
      let r = came q g (first_number g all) handed x m in
      let b = r.below in
      subst NumberedFits (sym (came_serial r)) (fits, omega arith)

  pub serials_fit : Each SerialFits (new_elements s (store_walk s).elements q handed g)
  unfolding new_elements
  serials_fit =
      let before = map (staying s) all in
      let come = entering_from q g (first_number g all) handed in
      each_of SerialFits (enter before come) (λ x m. ⊎_elim (λ h. stays_fits x h.0) (λ n. comes_fits x n) (nothing_else before come x m))

  pub answer_tells : Tells (new_elements s (store_walk s).elements q handed g) (ranges_of [] (new_elements s (store_walk s).elements q handed g))
  answer_tells = ranges_tell (new_elements s all q handed g) serials_fit
