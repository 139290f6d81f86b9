-- The readers of data runs stay within them, or give a fault from 2 to 12 within them.
-- Assumes nothing.
use mathlib.Core.List.{List}
use mathlib.Core.Bool.{false}
use Prim.Native.Nat.{ℕ, zero, suc, ◌-◌}
use native.Mathlib.Omega.{arith}
use lib.Dec.{eqb}
use Rattle.laws.proofs.Cases.{pick_all}
use Rattle.objects.specs.Steps.{place_of, value_of, Good}
use Rattle.objects.specs.Results.Reading.{At, Reading}
use Rattle.objects.proofs.Keep.{good_front, onward_fixed, onward_need, good_place, onward_valued, onward_number, onward_number_is, onward_null_id, onward_id}
use Rattle.request.specs.Filter.{kind_taken, kind_byte, kind_field, filter_fields, one_number, id_step, ids_from, ids_field, request_padding}
use Rattle.request.specs.Message.{sub_request_fields, argument_fields}

pub good_one_number : (d : List ℕ) → Good d (one_number d)
unfolding one_number
good_one_number d = (onward_number request_padding d (At 0 0)).good (good_front d 0)

pub good_sub_request_fields : (kind : ℕ) (d : List ℕ) → Good d (sub_request_fields kind d)
unfolding sub_request_fields
good_sub_request_fields kind d =
    (onward_valued d _ _).good ((onward_number request_padding d _).good ((onward_number_is request_padding d kind 8 _ (omega arith)).good ((onward_number request_padding d (At 0 0)).good (good_front d 0))))

pub good_argument_fields : (d : List ℕ) → Good d (argument_fields d)
unfolding argument_fields
good_argument_fields d =
    (onward_null_id d 8 _ (omega arith)).good
    ((onward_null_id d 8 _ (omega arith)).good ((onward_need d _ 8 0 _ (omega arith) (omega arith)).good ((onward_fixed d 1 0 255 8 (At 0 0) (omega arith)).good (good_front d 0))))

good_kind : (d : List ℕ) → Good d (kind_field d)
good_kind d =
    (onward_need d (kind_taken (value_of (kind_byte d))) 8 0 (kind_byte d) (omega arith) (omega arith)).good ((onward_fixed d 1 0 255 8 (At 0 0) (omega arith)).good (good_front d 0))

pub good_filter_fields : (d : List ℕ) → Good d (filter_fields d).last
unfolding filter_fields
good_filter_fields d = (onward_fixed d 1 0 1 8 (kind_field d) (omega arith)).good (good_kind d)

good_ids_from : (left : ℕ) (d : List ℕ) (n : ℕ) (c : Reading) → Good d c → Good d (ids_from left d n c)
unfolding ids_from
good_ids_from zero d n c g =
    pick_all (Good d) (eqb n 0) _ _ (λ e. g) (λ e. (onward_need d false 9 (place_of c) (id_step d c) (omega arith) (good_place d c g)).good ((onward_id d c).good g))
good_ids_from (suc left) d n c g = pick_all (Good d) (eqb n 0) _ _ (λ e. g) (λ e. good_ids_from left d (n - 1) (id_step d c) ((onward_id d c).good g))

pub good_ids_field : (d : List ℕ) → Good d (ids_field d)
unfolding ids_field
good_ids_field d = good_ids_from 64 d (value_of (one_number d)) (one_number d) (good_one_number d)
