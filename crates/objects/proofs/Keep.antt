-- Every step goes on from where it is: what is at or behind a place stays so, and what lies within the part that is read stays within it,
-- or becomes a fault whose place lies within, whose number is from 2 to 12, of the first input, with no needed length. A place that is
-- given to a step must lie within, and a number be from 2 to 12.
-- Assumes nothing.
use mathlib.Core.Path.{◌≡◌, refl}
use mathlib.Core.Bool.{Bool, true, false}
use mathlib.Core.Logic.{inl, inr}
use mathlib.Core.List.{List}
use Prim.Native.Nat.{ℕ, ◌-◌, ◌+◌, ◌<◌, ◌≤◌}
use native.Mathlib.Omega.{arith}
use lib.ListN.{length, take, drop, length-drop}
use lib.Dec.{ltb, eqb}
use borrow.Author.Tests.{ltb-false}
use Rattle.laws.specs.Bytes.{le}
use Rattle.laws.proofs.Cases.{pick_all, impossible}
use Rattle.numbers.specs.Refusals.{fault_at, refusal_number}
use Rattle.numbers.specs.Compact.{compact_for}
use Rattle.numbers.specs.ExtendedGuid.{read_extended_guid}
use Rattle.numbers.specs.Serial.{read_serial}
use Rattle.numbers.specs.declared.refusal.Refusal.{Refusal}
use Rattle.numbers.specs.Results.Compact.{Compact}
use Rattle.numbers.specs.Results.Compact as compact
use Rattle.numbers.specs.Results.ExtendedGuid as id
use Rattle.numbers.specs.Results.ReadExtendedGuid.{ReadExtendedGuid}
use Rattle.numbers.specs.Results.ReadExtendedGuid as extended
use Rattle.numbers.specs.Results.ReadSerial.{ReadSerial}
use Rattle.numbers.specs.Results.ReadSerial as serial
use Rattle.numbers.proofs.Within.{ItemFault, CompactWithin, compact_within, ExtendedGuidWithin, extended_guid_within, SerialWithin, serial_within}
use Rattle.objects.specs.Header.{header_at, length_at}
use Rattle.objects.specs.Nesting.{run_at}
use Rattle.objects.specs.Steps.{then, no, place_of, valued, need, fixed_in, number_on, number, number_is_on, number_is, null_id_on, null_id, skip, guid_here, id_on, id_here, serial_on, serial_here, same_bit, length_to, start_on, start_here, length_is, start_of_length, end_on, end_here, start_is, next_is, inside_on, inside, finish, run_here, closed_at, closed, Behind, FaultNumber, FaultWithin, Good, on_field}
use Rattle.objects.specs.Results.Header.{ReadHeader}
use Rattle.objects.specs.Results.Header as header
use Rattle.objects.specs.Results.Length.{Length}
use Rattle.objects.specs.Results.Length as length'
use Rattle.objects.specs.Results.Passed.{Passed}
use Rattle.objects.specs.Results.Passed as passed
use Rattle.objects.specs.Results.ReadingGuid.{ReadingGuid}
use Rattle.objects.specs.Results.Reading.{At, Reading, Refused}
use Rattle.objects.proofs.HeaderLaws.{Fits, header_fits, LengthFits, length_fits}
use Rattle.objects.proofs.Ahead.{NestingFault, two, three, four, six, Ahead, run_ahead}
use Rattle.objects.proofs.ItemsAt.{part_fits}

-- ---- what a chain of steps that leads from c to e keeps

pub record Onward (d : List ℕ) (c e : Reading) : Type 0 where
  pub behind : (p : ℕ) → Behind p c → Behind p e
  pub good : Good d c → Good d e

pub stays : (d : List ℕ) (c : Reading) → Onward d c c
stays d c = record { behind = λ p h. h; good = λ g. g }

-- one chain and then the next
pub onto : {d : List ℕ} {a b c : Reading} → Onward d a b → Onward d b c → Onward d a c
onto f g = record { behind = λ p h. g.behind p (f.behind p h); good = λ h. g.good (f.good h) }

-- a fault that a step gives
pub fault_within : (m k p : ℕ) → FaultNumber k → p ≤ m → FaultWithin m (fault_at k p)
fault_within m k p n h = record { number = n; input = refl; place = h; needed = refl }

fails : (d : List ℕ) (c : Reading) (k p : ℕ) → FaultNumber k → (Good d c → p ≤ length d) → Onward d c (no k p)
fails d c k p n h = record { behind = λ q b. tt; good = λ g. fault_within (length d) k p n (h g) }

-- a step from `at` gets to c, at or behind `low`
abbrev Gets : List ℕ → ℕ → ℕ → Reading → Type 0
Gets d low at (At q v) = (low ≤ q) × (at ≤ length d → q ≤ length d)
Gets d low at (Refused r) = at ≤ length d → FaultWithin (length d) r

here : (d : List ℕ) (low at k : ℕ) → FaultNumber k → Gets d low at (no k at)
here d low at k n = λ g. fault_within (length d) k at n g

-- such a step, where no fault stands
gets_on : (d : List ℕ) (at v : ℕ) (e : Reading) → Gets d at at e → Onward d (At at v) e
gets_on d at v (At q u) w = record { behind = λ p h. omega arith; good = λ g. w.1 g }
gets_on d at v (Refused r) w = record { behind = λ p h. tt; good = w }

goes : (d : List ℕ) (c : Reading) (step : ℕ → Reading) → ((at : ℕ) → Gets d at at (step at)) → Onward d c (then c step)
goes d (At at v) step f = gets_on d at v (step at) (f at)
goes d (Refused r) step f = stays d (Refused r)

-- ---- places

pub good_front : (d : List ℕ) (v : ℕ) → Good d (At 0 v)
good_front d v = omega arith

pub good_place : (d : List ℕ) (c : Reading) → Good d c → place_of c ≤ length d
unfolding place_of
good_place d (At at v) g = g
good_place d (Refused r) g = omega arith

pub behind_place : (c : Reading) → Behind (place_of c) c
unfolding place_of
behind_place (At at v) = omega arith
behind_place (Refused r) = tt

pub onward_valued : (d : List ℕ) (v : ℕ) (c : Reading) → Onward d c (valued v c)
unfolding valued
onward_valued d v c = goes d c (λ at. At at v) (λ at. (omega arith, λ g. g))

pub onward_need : (d : List ℕ) (fine : Bool) (k p : ℕ) (c : Reading) → FaultNumber k → p ≤ length d → Onward d c (need fine k p c)
unfolding need
onward_need d fine k p (At at v) n h =
    pick_all (Onward d (At at v)) fine (At at v) (no k p) (λ e. stays d (At at v)) (λ e. fails d (At at v) k p n (λ g. h))
onward_need d fine k p (Refused r) n h = stays d (Refused r)

-- ---- fields

-- n bytes that are there
left_fits : (d : List ℕ) (at n v : ℕ) → ltb (length d - at) n ≡ false → Gets d at at (At (at + n) v)
left_fits d at n v e = let h = ltb-false (length d - at) n e in (omega arith, λ g. omega arith)

pub onward_fixed : (d : List ℕ) (n least most k : ℕ) (c : Reading) → FaultNumber k → Onward d c (fixed_in d n least most k c)
unfolding fixed_in
onward_fixed d n least most k c h =
    goes d c _
    (λ at.
    let P = Gets d at at in
    pick_all P (ltb (length d - at) n) _ _ (λ e. here d at at 2 (omega arith))
    (λ e.
    pick_all P (ltb (le (take n (drop at d))) least) _ _ (λ f. here d at at k h)
    (λ f. pick_all P (ltb most (le (take n (drop at d)))) _ _ (λ i. here d at at k h) (λ i. left_fits d at n 0 e))))

pub onward_skip : (d : List ℕ) (n : ℕ) (c : Reading) → Onward d c (skip d n c)
unfolding skip
onward_skip d n c =
    goes d c _ (λ at. pick_all (Gets d at at) (ltb (length d - at) n) _ _ (λ e. here d at at 2 (omega arith)) (λ e. left_fits d at n 0 e))

-- an item that lies within what is left, and an item's own fault, which is 2 or 3, told at its place
item_fits : (d : List ℕ) (at n v : ℕ) → (0 < n) × (n ≤ length (drop at d)) → Gets d at at (At (at + n) v)
item_fits d at n v w = (omega arith, λ g. omega (arith, length-drop at d))

item_fault : (d : List ℕ) (at : ℕ) (r : Refusal) → ItemFault r → Gets d at at (no (refusal_number r) at)
item_fault d at r (inl e) = rw e (here d at at 2 (omega arith))
item_fault d at r (inr e) = rw e (here d at at 3 (omega arith))

number_on_lem : (d : List ℕ) (at : ℕ) (r : Compact) → CompactWithin (length (drop at d)) r → Gets d at at (number_on at r)
number_on_lem d at (compact.Value v n padded) w = item_fits d at n v w
number_on_lem d at (compact.Refused r) w = item_fault d at r w

pub onward_number : (padding : Bool) (d : List ℕ) (c : Reading) → Onward d c (number padding d c)
unfolding number
onward_number padding d c = goes d c _ (λ at. number_on_lem d at (compact_for padding (drop at d)) (compact_within padding (drop at d)))

number_is_on_lem : (d : List ℕ) (x k at : ℕ) (r : Compact) → FaultNumber k → CompactWithin (length (drop at d)) r → Gets d at at (number_is_on x k at r)
number_is_on_lem d x k at (compact.Value v n padded) h w =
    pick_all (Gets d at at) (eqb v x) (At (at + n) v) (no k at) (λ e. item_fits d at n v w) (λ e. here d at at k h)
number_is_on_lem d x k at (compact.Refused r) h w = item_fault d at r w

pub onward_number_is : (padding : Bool) (d : List ℕ) (x k : ℕ) (c : Reading) → FaultNumber k → Onward d c (number_is padding d x k c)
unfolding number_is
onward_number_is padding d x k c h = goes d c _ (λ at. number_is_on_lem d x k at (compact_for padding (drop at d)) h (compact_within padding (drop at d)))

null_on : (d : List ℕ) (k at : ℕ) (r : ReadExtendedGuid) → FaultNumber k → ExtendedGuidWithin (length (drop at d)) r → Gets d at at (null_id_on k at r)
null_on d k at (extended.Value id.Null n) h w = item_fits d at n 0 w
null_on d k at (extended.Value (id.Named i x) n) h w = here d at at k h
null_on d k at (extended.Refused r) h w = item_fault d at r w

pub onward_null_id : (d : List ℕ) (k : ℕ) (c : Reading) → FaultNumber k → Onward d c (null_id d k c)
unfolding null_id
onward_null_id d k c h = goes d c _ (λ at. null_on d k at (read_extended_guid (drop at d)) h (extended_guid_within (drop at d)))

pub onward_guid : (d : List ℕ) (c : Reading) → Onward d c (on_field (guid_here d c))
unfolding guid_here on_field
onward_guid d (At at v) =
    pick_all (λ (r : ReadingGuid). Onward d (At at v) (on_field r)) (ltb (length d - at) 16) _ _ (λ e. fails d (At at v) 2 at (omega arith) (λ g. g))
    (λ e. gets_on d at v (At (at + 16) 0) (left_fits d at 16 0 e))
onward_guid d (Refused r) = stays d (Refused r)

id_on_lem : (d : List ℕ) (at : ℕ) (r : ReadExtendedGuid) → ExtendedGuidWithin (length (drop at d)) r → Gets d at at (on_field (id_on at r))
unfolding on_field
id_on_lem d at (extended.Value x n) w = item_fits d at n 0 w
id_on_lem d at (extended.Refused r) w = item_fault d at r w

pub onward_id : (d : List ℕ) (c : Reading) → Onward d c (on_field (id_here d c))
unfolding id_here on_field
onward_id d (At at v) = gets_on d at v _ (id_on_lem d at (read_extended_guid (drop at d)) (extended_guid_within (drop at d)))
onward_id d (Refused r) = stays d (Refused r)

serial_on_lem : (d : List ℕ) (at : ℕ) (r : ReadSerial) → SerialWithin (length (drop at d)) r → Gets d at at (on_field (serial_on at r))
unfolding on_field
serial_on_lem d at (serial.Value x n) w = item_fits d at n 0 w
serial_on_lem d at (serial.Refused r) w = item_fault d at r w

pub onward_serial : (d : List ℕ) (c : Reading) → Onward d c (on_field (serial_here d c))
unfolding serial_here on_field
onward_serial d (At at v) = gets_on d at v _ (serial_on_lem d at (read_serial (drop at d)) (serial_within (drop at d)))
onward_serial d (Refused r) = stays d (Refused r)

-- ---- objects

length_gets : (d : List ℕ) (low at u : ℕ) (l : Length) → low ≤ at + u → at + u ≤ length d → LengthFits d (at + u) l → Gets d low at (length_to l)
length_gets d low at u (length'.Is v from) h i w = (omega arith, λ g. w.1 i)
length_gets d low at u (length'.Refused r) h i (inl e) = rw e (λ g. fault_within (length d) 2 (at + u) (omega arith) i)
length_gets d low at u (length'.Refused r) h i (inr e) = rw e (λ g. fault_within (length d) 3 (at + u) (omega arith) i)

-- a start goes on by a byte at least
start_on_lem : (padding : Bool) (d : List ℕ) (outer kind : ℕ) (compound room : Bool) (at : ℕ) (h : ReadHeader) → Fits at (length d - at) h
    → Gets d (at + 1) at (start_on padding d outer kind compound room at h)
start_on_lem padding d outer kind compound room at (header.Refused r) w = rw w (here d (at + 1) at 2 (omega arith))
start_on_lem padding d outer kind compound room at (header.End k u) w =
    pick_all (Gets d (at + 1) at) (eqb k outer) (no 5 at) (no 4 at) (λ e. here d (at + 1) at 5 (omega arith)) (λ e. here d (at + 1) at 4 (omega arith))
start_on_lem padding d outer kind compound room at (header.Start k b n u) w =
    let P = Gets d (at + 1) at in
    let five = here d (at + 1) at 5 (omega arith) in
    pick_all P (eqb k kind) _ _
    (λ e.
    pick_all P (same_bit b compound) _ _
    (λ f.
    pick_all P room _ _ (λ i. length_gets d (at + 1) at u (length_at padding d (at + u) n) (omega arith) (omega arith) (length_fits padding d (at + u) n))
    (λ i. here d (at + 1) at 9 (omega arith)))
    (λ f. five))
    (λ e. five)

-- so it goes on, and past the place where it is
weaker : (d : List ℕ) (at : ℕ) (e : Reading) → Gets d (at + 1) at e → Gets d at at e
weaker d at (At q v) w = (omega arith, w.1)
weaker d at (Refused r) w = w

gets_past : (d : List ℕ) (p at : ℕ) (e : Reading) → p ≤ at → Gets d (at + 1) at e → Behind (p + 1) e
gets_past d p at (At q v) h w = omega arith
gets_past d p at (Refused r) h w = tt

pub onward_start : (padding : Bool) (d : List ℕ) (outer kind : ℕ) (compound room : Bool) (c : Reading) → Onward d c (start_here padding d outer kind compound room c)
unfolding start_here
onward_start padding d outer kind compound room c =
    let step : ℕ → Reading = λ at. start_on padding d outer kind compound room at (header_at d at) in
    goes d c step (λ at. weaker d at (step at) (start_on_lem padding d outer kind compound room at (header_at d at) (header_fits d at)))

pub past_start : (padding : Bool) (d : List ℕ) (outer kind : ℕ) (compound room : Bool) (p : ℕ) (c : Reading) → Behind p c
    → Behind (p + 1) (start_here padding d outer kind compound room c)
unfolding start_here
past_start padding d outer kind compound room p (At at v) h =
    let i = header_at d at in
    gets_past d p at (start_on padding d outer kind compound room at i) h (start_on_lem padding d outer kind compound room at i (header_fits d at))
past_start padding d outer kind compound room p (Refused r) h = tt

onward_length_is : (d : List ℕ) (n : ℕ) (c e : Reading) → Onward d c e → Onward d c (length_is n (place_of c) e)
unfolding length_is
onward_length_is d n c (At from v) w =
    pick_all (Onward d c) (eqb v n) (At from v) (no 5 (place_of c)) (λ i. w) (λ i. fails d c 5 (place_of c) (omega arith) (good_place d c))
onward_length_is d n c (Refused r) w = w

pub onward_start_of_length : (padding : Bool) (d : List ℕ) (outer kind : ℕ) (compound room : Bool) (n : ℕ) (c : Reading)
    → Onward d c (start_of_length padding d outer kind compound room n c)
unfolding start_of_length
onward_start_of_length padding d outer kind compound room n c =
    onward_length_is d n c (start_here padding d outer kind compound room c) (onward_start padding d outer kind compound room c)

past_length_is : (n p q : ℕ) (e : Reading) → Behind p e → Behind p (length_is n q e)
unfolding length_is
past_length_is n p q (At from v) h = pick_all (Behind p) (eqb v n) (At from v) (no 5 q) (λ i. h) (λ i. tt)
past_length_is n p q (Refused r) h = tt

pub past_start_of_length : (padding : Bool) (d : List ℕ) (outer kind : ℕ) (compound room : Bool) (n p : ℕ) (c : Reading) → Behind p c
    → Behind (p + 1) (start_of_length padding d outer kind compound room n c)
unfolding start_of_length
past_start_of_length padding d outer kind compound room n p c h =
    past_length_is n (p + 1) (place_of c) (start_here padding d outer kind compound room c) (past_start padding d outer kind compound room p c h)

end_on_lem : (d : List ℕ) (kind at : ℕ) (h : ReadHeader) → Fits at (length d - at) h → Gets d at at (end_on kind at h)
end_on_lem d kind at (header.Refused r) w = rw w (here d at at 2 (omega arith))
end_on_lem d kind at (header.End k u) w =
    pick_all (Gets d at at) (eqb k kind) (At (at + u) 0) (no 4 at) (λ e. (omega arith, λ g. omega arith)) (λ e. here d at at 4 (omega arith))
end_on_lem d kind at (header.Start k b n u) w = here d at at 5 (omega arith)

pub onward_end : (d : List ℕ) (kind : ℕ) (c : Reading) → Onward d c (end_here d kind c)
unfolding end_here
onward_end d kind c = goes d c _ (λ at. end_on_lem d kind at (header_at d at) (header_fits d at))

-- where a start stands next, the input goes on
next_on_lem : (kind at m : ℕ) (h : ReadHeader) → start_is kind h ≡ true → Fits at m h → 0 < m
next_on_lem kind at m (header.Refused r) e w = impossible (cc)
next_on_lem kind at m (header.End k u) e w = impossible (cc)
next_on_lem kind at m (header.Start k b n u) e w = omega arith

pub next_within : (d : List ℕ) (kind : ℕ) (c : Reading) → next_is d kind c ≡ true → place_of c < length d
unfolding next_is place_of
next_within d kind (At at v) e = let w = next_on_lem kind at (length d - at) (header_at d at) e (header_fits d at) in omega arith
next_within d kind (Refused r) e = impossible (cc)

nesting_fault : (m : ℕ) (r : Refusal) → NestingFault r → r.place ≤ m → FaultWithin m r
nesting_fault m _ (two p) h = fault_within m 2 p (omega arith) h
nesting_fault m _ (three p) h = fault_within m 3 p (omega arith) h
nesting_fault m _ (four p) h = fault_within m 4 p (omega arith) h
nesting_fault m _ (six p) h = fault_within m 6 p (omega arith) h

inside_on_lem : (d : List ℕ) (at : ℕ) (p : Passed) → Ahead d at p → Gets d at at (inside_on p)
inside_on_lem d at (passed.To e) a = (omega arith, λ g. a.1)
inside_on_lem d at (passed.Refused r) a = λ g. nesting_fault (length d) r a.2 (a.1 g)

pub onward_inside : (padding : Bool) (d : List ℕ) (depth kind : ℕ) (c : Reading) → Onward d c (inside padding d depth kind c)
unfolding inside
onward_inside padding d depth kind c = goes d c _ (λ at. inside_on_lem d at (run_at padding d at depth kind) (run_ahead padding d at depth kind))

pub onward_finish : (d : List ℕ) (c : Reading) → Onward d c (finish d c)
unfolding finish
onward_finish d (At at v) =
    pick_all (Onward d (At at v)) (ltb at (length d)) (no 5 at) (At at v) (λ e. fails d (At at v) 5 at (omega arith) (λ g. g)) (λ e. stays d (At at v))
onward_finish d (Refused r) = stays d (Refused r)

-- ---- a data run, read by fields that stay within it

run_fits : (d : List ℕ) (from n : ℕ) → from ≤ length d → from + length (take n (drop from d)) ≤ length d
run_fits d from n g = part_fits d from n (length d) g (omega arith)

pub onward_closed : (d : List ℕ) (c f : Reading) → Good (run_here d c) f → Onward d c (closed d c f)
unfolding run_here closed_at
onward_closed d (Refused r) f h = stays d (Refused r)
onward_closed d (At from n) (Refused r) h =
    let p = h.place in
    record {
      behind = λ q b. tt;
      good =
          λ g.
          record { number = h.number; input = h.input; place = omega (arith, run_fits d from n g); needed = h.needed };
    }
onward_closed d (At from n) (At p v) h =
    let c = At from n in
    let m = length (take n (drop from d)) in
    let P = Onward d c in
    pick_all P (ltb p m) _ _ (λ e. fails d c 5 (from + p) (omega arith) (λ g. omega (arith, run_fits d from n g)))
    (λ e.
    pick_all P (ltb m n) _ _ (λ k. fails d c 2 (from + m) (omega arith) (λ g. run_fits d from n g))
    (λ k. record { behind = λ q b. omega arith; good = λ g. run_fits d from n g }))
