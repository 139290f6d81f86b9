-- Serial numbers as keys of a set: ranges of one number add exactly one key.
-- Assumes nothing.
use mathlib.Core.Path.{◌≡◌, refl, sym, ap, ◌∙◌}
use mathlib.Core.List.{List, [], ◌∷◌, map}
use Prim.Native.Nat.{ℕ, ◌^◌, ◌<◌}
use native.Mathlib.Omega.{arith}
use lib.Dec.{eqb}
use borrow.Author.Tests.{eq-eqb, ne_eqb}
use Rattle.laws.proofs.Cases.{by_eq, eqb_turn}
use Rattle.numbers.specs.Guid.{swapped}
use Rattle.numbers.proofs.Guids.{swapped_back, swapped_fits}
use Rattle.talk.specs.Each.{Each}
use Rattle.talk.specs.Ranges.{Normal, AllFit, insert, holds}
use Rattle.talk.specs.RangeSeries.{with_ranges, RangeOfKey}
use Rattle.talk.specs.Series.{with_keys}
use Rattle.talk.specs.declared.range.Range.{Range}
use Rattle.talk.proofs.Counts.{holds_insert_one, known_with}
use Rattle.talk.proofs.OneForm.{one_form_fits}
use Rattle.store.specs.Element.{same_key}
use Rattle.store.specs.Held.{key_range, serial_range, ranges_with}
use Rattle.ranges.specs.Ranged.{range_of, knows}
use Rattle.store.specs.declared.element.Element.{Element}
use Rattle.store.specs.declared.element.Key.{Key}
use Rattle.order.specs.Groups.{Group, group_serial, firsts}
use Rattle.pages.specs.Choice.{knows_key}
use Rattle.evidence.specs.Talk.{KeyFits, serial_of}

eqb_swapped : (a b : ℕ) → a < 2 ^ 64 → b < 2 ^ 64 → eqb (swapped a) (swapped b) ≡ eqb b a
eqb_swapped a b h k =
    by_eq a b (λ e. eq-eqb (swapped a) (swapped b) (ap swapped e) ∙ sym (eq-eqb b a (sym e)))
    (λ n. ne_eqb (swapped a) (swapped b) (λ e. n (sym (swapped_back a h) ∙ ap swapped e ∙ swapped_back b k)) ∙ sym (ne_eqb b a (λ e. n (sym e))))

pub serial_keys_lem : RangeOfKey serial_of serial_range knows_key same_key KeyFits
unfolding serial_range key_range range_of knows same_key
serial_keys_lem =
    record {
      some = λ x. omega arith;
      adds_one =
          λ x f l o k g.
          holds_insert_one (swapped x.serial.low) (swapped x.serial.high) x.serial.number l o (swapped k.low) (swapped k.high) k.number
          ∙ rw (eqb_swapped x.serial.low k.low f.0 g.0, eqb_swapped x.serial.high k.high f.1 g.1, eqb_turn x.serial.number k.number);
    }

pub with_same : (xs : List Element) (l : List Range) → ranges_with l xs ≡ with_ranges l (map serial_range xs)
unfolding ranges_with with_ranges
with_same [] l = refl
with_same (x ∷ xs) l = with_same xs (insert (serial_range x) l)

-- "with exactly those serial numbers added"
pub knows_with : (l : List Range) (page : List Element) → Normal l → Each (λ (x : Element). KeyFits x.serial) page → (k : Key) → KeyFits k
    → knows_key (ranges_with l page) k ≡ with_keys same_key (knows_key l) (map serial_of page) k
knows_with l page n f k g = rw (with_same page l) (known_with same_key KeyFits serial_of serial_range knows_key serial_keys_lem l page n f k g)

-- ---- a group has the serial number of its first member

abbrev pub group_range : Group → Range
group_range g = serial_range g.first

pub group_keys : RangeOfKey group_serial group_range knows_key same_key KeyFits
group_keys = record { some = λ g. serial_keys_lem.some g.first; adds_one = λ g f l o k h. serial_keys_lem.adds_one g.first f l o k h }

pub groups_with : (gs : List Group) (l : List Range) → ranges_with l (firsts gs) ≡ with_ranges l (map group_range gs)
unfolding ranges_with with_ranges
groups_with [] l = refl
groups_with (g ∷ gs) l = groups_with gs (insert (group_range g) l)

-- "with exactly those serial numbers added", of groups
pub knows_groups : (l : List Range) (page : List Group) → Normal l → Each (λ (g : Group). KeyFits (group_serial g)) page → (k : Key) → KeyFits k
    → knows_key (ranges_with l (firsts page)) k ≡ with_keys same_key (knows_key l) (map group_serial page) k
knows_groups l page n f k g = rw (groups_with page l) (known_with same_key KeyFits group_serial group_range knows_key group_keys l page n f k g)

-- ---- two lists in normal form that are one set are one list

set_holds : (l : List Range) (a b n : ℕ) → a < 2 ^ 64 → b < 2 ^ 64 → knows_key l (record { low = swapped a; high = swapped b; number = n }) ≡ holds l a b n
unfolding knows
set_holds l a b n h g = rw (swapped_back a h, swapped_back b g)

pub set_one : (p q : List Range) → Normal p → Normal q → AllFit p → AllFit q → ((k : Key) → KeyFits k → knows_key p k ≡ knows_key q k) → p ≡ q
set_one p q n m f g e =
    one_form_fits p q n m f g
    (λ a b x i j k.
    sym (set_holds p a b x i j) ∙ e (record { low = swapped a; high = swapped b; number = x }) (swapped_fits a, swapped_fits b) ∙ set_holds q a b x i j)
