-- The queued elements of the tables laid into an output, turn by turn: what is still to be laid, and where.
-- Assumes nothing.
use mathlib.Core.Path.{◌≡◌, refl, sym, ap, ◌∙◌}
use mathlib.Core.List.{List, [], ◌++◌}
use Prim.Native.Nat.{ℕ, ◌+◌, ◌≤◌, ◌<◌}
use native.Mathlib.Omega.{arith}
use lib.ListN.{length, get_or, length-append}
use Rattle.laws.specs.Placed.{laid, Lays}
use Rattle.laws.proofs.Placing.{laid_nothing, lays_first}
use Rattle.store.specs.Tables.{element_in_row}
use Rattle.store.specs.Held.{stored_bytes, elements_bytes}
use Rattle.order.specs.Queue.{queued_in}
use Rattle.pages.proofs.Chosen.{queued_from, queued_one, queued_none}

-- the bytes of those of the first k that are queued from place i on
abbrev pub to_lay : List ℕ → List ℕ → List ℕ → ℕ → List ℕ → ℕ → List ℕ
to_lay s rows ids k queue i = elements_bytes s (queued_from (element_in_row rows ids) k queue i)

-- what holds whenever the loop's test is reached: with what is still to be laid at p the output is what it is to be, and the
-- place behind it is that behind all
pub record Laying (s rows ids : List ℕ) (k : ℕ) (queue : List ℕ) (behind : ℕ) (told out : List ℕ) (p i : ℕ) : Type 0 where
  pub within : i ≤ k
  pub place : p + length (to_lay s rows ids k queue i) ≡ behind
  pub room : behind ≤ length out
  pub rest : laid p (to_lay s rows ids k queue i) out ≡ told

pub laying_start : (s rows ids : List ℕ) (k : ℕ) (queue : List ℕ) (at : ℕ) (out : List ℕ)
    → at + length (elements_bytes s (queued_in rows ids k queue)) ≤ length out
    → Laying s rows ids k queue (at + length (elements_bytes s (queued_in rows ids k queue))) (laid at (elements_bytes s (queued_in rows ids k queue)) out) out at 0
laying_start s rows ids k queue at out h = record { within = omega arith; place = refl; room = h; rest = refl }

module _ {s rows ids : List ℕ} {k : ℕ} {queue : List ℕ} {behind : ℕ} {told out : List ℕ} {p i : ℕ} (long : k ≤ length queue)
    (u : Laying s rows ids k queue behind told out p i) where
  abbrev next : List ℕ
  next = stored_bytes s (element_in_row rows ids (get_or queue i 0))

  taken : i < k → to_lay s rows ids k queue i ≡ next ++ to_lay s rows ids k queue (i + 1)
  unfolding elements_bytes
  taken h = ap (elements_bytes s) (queued_one (element_in_row rows ids) k queue i h long refl)

  -- there is room for the next
  pub laying_fits : i < k → p + length next ≤ length out
  laying_fits h =
      let a = ap length (taken h) in
      let b = length-append next (to_lay s rows ids k queue (i + 1)) in
      let d = u.place in
      let e = u.room in
      omega arith

  pub laying_taken : (q : ℕ) (d : List ℕ) → i < k → length d ≡ length out → Lays p next out q d → Laying s rows ids k queue behind told d q (i + 1)
  laying_taken q d h l y =
      let w = to_lay s rows ids k queue i in
      let r = to_lay s rows ids k queue (i + 1) in
      let a = ap length (taken h) in
      let b = length-append next r in
      let c = u.place in
      let e = u.room in
      let g = y.0 in
      record {
        within = omega arith;
        place = omega arith;
        room = omega arith;
        rest = lays_first p w next r out q d told (taken h) (omega arith) u.rest y;
      }

  -- nothing is still to be laid
  pub laying_end : k ≤ i → (p ≡ behind) × (out ≡ told)
  unfolding elements_bytes
  laying_end h =
      let e : to_lay s rows ids k queue i ≡ [] = ap (elements_bytes s) (queued_none (element_in_row rows ids) k queue i h) in (
        let a = ap length e in let b = u.place in omega arith,
        sym (laid_nothing p out) ∙ ap (λ (w : List ℕ). laid p w out) (sym e) ∙ u.rest,
      )
