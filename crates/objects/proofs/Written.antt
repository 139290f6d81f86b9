-- What was written reads back: each step, where its own bytes w stand, goes on behind them. `drop at s ≡ w ++ t` says that w
-- stands at `at`.
-- Assumes nothing.
use mathlib.Core.Bool.{Bool}
use mathlib.Core.Path.{◌≡◌, refl, sym, ap, ◌∙◌}
use mathlib.Core.List.{List, [], ◌++◌, append_assoc, append-nil}
use Prim.Native.Nat.{ℕ, ◌+◌, ◌-◌, ◌^◌, ◌<◌, ◌≤◌}
use native.Mathlib.Omega.{arith}
use lib.ListN.{length, take, drop, length-drop, length-append}
use lib.Seq.{take_at, drop-append_seam, take-append_seam, drop-drop}
use borrow.Author.Tests.{le-ltb, eq-eqb}
use Rattle.laws.specs.Bytes.{le, bytes}
use Rattle.laws.proofs.Numbers.{length_bytes, le_bytes}
use Rattle.numbers.specs.Compact.{compact_bytes}
use Rattle.numbers.specs.Guid.{guid_bytes, GuidFits}
use Rattle.numbers.specs.ExtendedGuid.{extended_guid_bytes, ExtendedGuidFits}
use Rattle.numbers.specs.Serial.{serial_bytes, SerialFits}
use Rattle.numbers.specs.declared.guid.Guid.{Guid}
use Rattle.numbers.specs.Results.ExtendedGuid.{ExtendedGuid}
use Rattle.numbers.specs.Results.Serial.{Serial}
use Rattle.numbers.proofs.RoundTrip.{written_unpadded}
use Rattle.numbers.proofs.Guids.{length_guid, guid_read_written}
use Rattle.numbers.proofs.ExtendedGuids.{extended_guid_read_written}
use Rattle.numbers.proofs.Serials.{serial_read_written}
use Rattle.objects.specs.Steps.{fixed_in, number, number_is, skip, guid_here, id_here, serial_here, valued, finish, run_here, closed_at, in_run}
use Rattle.objects.specs.Results.Reading.{At, Reading}
use Rattle.objects.specs.Results.ReadingGuid as guid'
use Rattle.objects.specs.Results.ReadingId as id'
use Rattle.objects.specs.Results.ReadingSerial as serial'

-- behind w
pub behind : (s : List ℕ) (at : ℕ) (w t : List ℕ) → drop at s ≡ w ++ t → drop (at + length w) s ≡ t
behind s at w t h = sym (drop-drop (length w) at s) ∙ ap (drop (length w)) h ∙ drop-append_seam w t

-- as much is left
pub left_is : (s : List ℕ) (at : ℕ) (w t : List ℕ) → drop at s ≡ w ++ t → length s - at ≡ length w + length t
left_is s at w t h = sym (length-drop at s) ∙ ap length h ∙ length-append w t

-- `step`, which comes with the number u, reads w, with the number v, wherever w stands and whatever follows
pub record Reads (step : List ℕ → Reading → Reading) (u : ℕ) (w : List ℕ) (v : ℕ) : Type 0 where
  pub here : (s : List ℕ) (at : ℕ) (t : List ℕ) → drop at s ≡ w ++ t → step s (At at u) ≡ At (at + length w) v

-- one step and then the next
pub reads_then : {p q : List ℕ → Reading → Reading} {u v y : ℕ} {w x : List ℕ} → Reads p u w v → Reads q v x y → Reads (λ s c. q s (p s c)) u (w ++ x) y
reads_then {p} {q} {u} {v} {y} {w} {x} f g = record { here = go }
  where
    go : (s : List ℕ) (at : ℕ) (t : List ℕ) → drop at s ≡ (w ++ x) ++ t → q s (p s (At at u)) ≡ At (at + length (w ++ x)) y
    go s at t h =
        let k : drop at s ≡ w ++ (x ++ t) = h ∙ append_assoc w x t in
        ap (q s) (f.here s at (x ++ t) k) ∙ g.here s (at + length w) t (behind s at w (x ++ t) k)
        ∙ ap (λ (n : ℕ). At n y) (let l = length-append w x in omega arith)

-- a part that its steps read whole
pub whole : {p : List ℕ → Reading → Reading} {d : List ℕ} {u v : ℕ} → Reads p u d v → p d (At 0 u) ≡ At (length d) v
whole {p} {d} {u} {v} f = f.here d 0 [] (sym (append-nil d)) ∙ ap (λ (x : ℕ). At x v) (omega arith)

pub reads_valued : {p : List ℕ → Reading → Reading} (v : ℕ) {u y : ℕ} {w : List ℕ} → Reads p u w y → Reads (λ s c. valued v (p s c)) u w v
unfolding valued
reads_valued v f = record { here = λ s at t h. rw (f.here s at t h) }

-- ---- fields

pub reads_fixed : (u n least most k x : ℕ) → x < 256 ^ n → least ≤ x → x ≤ most → Reads (λ s c. fixed_in s n least most k c) u (bytes n x) x
unfolding fixed_in
reads_fixed u n least most k x b l m =
    record {
      here =
          λ s at t h.
          let r : n ≤ length s - at = rw (left_is s at (bytes n x) t h, length_bytes) (omega arith) in
          let e : le (take n (drop at s)) ≡ x = rw (h, take_at (bytes n x) t n (length_bytes n x)) (le_bytes n x b) in
          rw (le-ltb _ _ r, e, le-ltb _ _ l, le-ltb _ _ m, length_bytes n x);
    }

pub reads_number : (padding : Bool) (u v : ℕ) → v < 2 ^ 64 → Reads (number padding) u (compact_bytes v) v
unfolding number
reads_number padding u v b = record { here = λ s at t h. rw (h, written_unpadded padding v b t) }

pub reads_number_is : (padding : Bool) (u x k : ℕ) → x < 2 ^ 64 → Reads (λ s c. number_is padding s x k c) u (compact_bytes x) x
unfolding number_is
reads_number_is padding u x k b = record { here = λ s at t h. rw (h, written_unpadded padding x b t, eq-eqb x x refl) }

pub reads_skip : (u : ℕ) (w : List ℕ) → Reads (λ s c. skip s (length w) c) u w 0
unfolding skip
reads_skip u w =
    record {
      here =
          λ s at t h.
          let r : length w ≤ length s - at = rw (left_is s at w t h) (omega arith) in
          rw (le-ltb _ _ r);
    }

-- fields that are more than a number
pub guid_written : (s : List ℕ) (at u : ℕ) (g : Guid) (t : List ℕ) → GuidFits g → drop at s ≡ guid_bytes g ++ t
    → guid_here s (At at u) ≡ guid'.At (at + length (guid_bytes g)) g
unfolding guid_here
guid_written s at u g t f h =
    let r : 16 ≤ length s - at = rw (left_is s at (guid_bytes g) t h, length_guid) (omega arith) in
    rw (le-ltb _ _ r, h, guid_read_written g f t, length_guid g)

pub id_written : (s : List ℕ) (at u : ℕ) (x : ExtendedGuid) (t : List ℕ) → ExtendedGuidFits x → drop at s ≡ extended_guid_bytes x ++ t
    → id_here s (At at u) ≡ id'.At (at + length (extended_guid_bytes x)) x
unfolding id_here
id_written s at u x t f h = rw (h, extended_guid_read_written x f t)

pub serial_written : (s : List ℕ) (at u : ℕ) (x : Serial) (t : List ℕ) → SerialFits x → drop at s ≡ serial_bytes x ++ t
    → serial_here s (At at u) ≡ serial'.At (at + length (serial_bytes x)) x
unfolding serial_here
serial_written s at u x t f h = rw (h, serial_read_written x f t)

-- ---- a data run whose fields read it whole, and the end of the input

pub reads_run : (fields : List ℕ → Reading) (d : List ℕ) (v : ℕ) → fields d ≡ At (length d) v → Reads (λ s c. in_run s fields c) (length d) d v
unfolding run_here closed_at
reads_run fields d v f =
    record {
      here =
          λ s at t h.
          let e : take (length d) (drop at s) ≡ d = rw h (take-append_seam d t) in
          let l : length d ≤ length d = omega arith in
          ap (closed_at (At at (length d)) (length (take (length d) (drop at s)))) (ap fields e) ∙ rw (e, f, le-ltb _ _ l);
    }

pub finish_written : (s : List ℕ) (at u : ℕ) → drop at s ≡ [] → finish s (At at u) ≡ At at u
unfolding finish
finish_written s at u h = let l : length s ≤ at = omega (arith, length-drop at s, ap length h) in rw (le-ltb at (length s) l)
