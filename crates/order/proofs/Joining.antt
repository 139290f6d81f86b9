-- The parts of the ranks laid one behind the other, one more at a turn.
-- Assumes nothing.
use mathlib.Core.Path.{◌≡◌, refl, sym, ap, ◌∙◌}
use mathlib.Core.List.{List, [], ◌++◌}
use Prim.Native.Nat.{ℕ, zero, suc, ◌+◌, ◌-◌, ◌≤◌, ◌<◌}
use native.Mathlib.Omega.{arith}
use native.Mathlib.Numerals.{add-one}
use lib.ListN.{length, get_or, length-append}
use Rattle.laws.specs.Placed.{laid, Lays}
use Rattle.laws.proofs.Placing.{laid_nothing, lays_first}
use Rattle.store.specs.declared.element.Element.{Element}
use Rattle.order.specs.Queue.{places_from, ranks, part_at, joined_parts, Parted}

abbrev pub all_parts : List ℕ → List ℕ → List ℕ
all_parts parts counts = joined_parts ranks 0 parts counts

-- those from part r on
abbrev pub parts_behind : List ℕ → List ℕ → ℕ → List ℕ
parts_behind parts counts r = joined_parts (ranks - r) r parts counts

parts_turn : (parts counts : List ℕ) (r : ℕ) → r < ranks → parts_behind parts counts r ≡ part_at parts r (get_or counts r 0) ++ parts_behind parts counts (r + 1)
unfolding joined_parts
parts_turn parts counts r h = let e : ranks - r ≡ suc (ranks - (r + 1)) = omega arith in rw (e, add-one r)

-- with what is still to be laid the queue is what it is to be
pub record Joining (parts counts queue₀ queue : List ℕ) (at r : ℕ) : Type 0 where
  pub inside : r ≤ ranks
  pub place : at + length (parts_behind parts counts r) ≡ length (all_parts parts counts)
  pub room : length (all_parts parts counts) ≤ length queue
  pub rest : laid at (parts_behind parts counts r) queue ≡ laid 0 (all_parts parts counts) queue₀

pub joining_start : (parts counts queue : List ℕ) → length (all_parts parts counts) ≤ length queue → Joining parts counts queue queue 0 0
joining_start parts counts queue h = record { inside = omega arith; place = omega arith; room = h; rest = refl }

module _ {parts counts queue₀ queue : List ℕ} {at r : ℕ} (j : Joining parts counts queue₀ queue at r) where
  pub joining_fits : r < ranks → at + length (part_at parts r (get_or counts r 0)) ≤ length queue
  joining_fits h =
      let a = ap length (parts_turn parts counts r h) in
      let b = length-append (part_at parts r (get_or counts r 0)) (parts_behind parts counts (r + 1)) in
      let d = j.place in
      let e = j.room in
      omega arith

  pub joining_more : r < ranks → (p : ℕ) (queue' : List ℕ) → length queue' ≡ length queue → Lays at (part_at parts r (get_or counts r 0)) queue p queue'
      → Joining parts counts queue₀ queue' p (r + 1)
  joining_more h p queue' l y =
      let a = ap length (parts_turn parts counts r h) in
      let b = length-append (part_at parts r (get_or counts r 0)) (parts_behind parts counts (r + 1)) in
      let d = j.place in
      let e = j.room in
      let f = y.0 in
      record {
        inside = omega arith;
        place = omega arith;
        room = omega arith;
        rest = lays_first at (parts_behind parts counts r) (part_at parts r (get_or counts r 0)) (parts_behind parts counts (r + 1)) queue p queue' _ (parts_turn parts counts r h) (omega arith) j.rest y;
      }

  pub joining_end : ranks ≤ r → Lays 0 (all_parts parts counts) queue₀ at queue
  unfolding joined_parts
  joining_end h =
      let e : ranks - r ≡ 0 = omega arith in
      let a : parts_behind parts counts r ≡ [] = rw e in
      let b = ap length a in
      let d = j.place in
      (omega arith, sym (laid_nothing at queue) ∙ ap (λ (w : List ℕ). laid at w queue) (sym a) ∙ j.rest)

-- the parts joined are the queue
parts_from : (xs : List Element) (flags parts counts : List ℕ) → Parted xs flags parts counts → (k r : ℕ) → r + k ≤ ranks
    → joined_parts k r parts counts ≡ places_from k (suc r) xs flags
unfolding joined_parts places_from
parts_from xs flags parts counts h zero r l = refl
parts_from xs flags parts counts h (suc k) r l =
    let e = (h r (omega arith)).1 in
    rw (e, parts_from xs flags parts counts h k (suc r) (omega arith))

pub parts_queue : (xs : List Element) (flags parts counts : List ℕ) → Parted xs flags parts counts → all_parts parts counts ≡ places_from ranks 1 xs flags
parts_queue xs flags parts counts h = parts_from xs flags parts counts h ranks 0 (omega arith)
