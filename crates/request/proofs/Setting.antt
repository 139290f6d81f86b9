-- One go through the elements of the tables, turn by turn: what is set, and what is still to be set.
-- Assumes nothing.
use mathlib.Core.Path.{◌≡◌, sym, ap, ◌∙◌}
use mathlib.Core.Bool.{Bool, true, false}
use mathlib.Core.List.{List}
use Prim.Native.Nat.{ℕ, suc, ◌+◌, ◌-◌, ◌≤◌, ◌<◌}
use native.Mathlib.Omega.{arith}
use lib.ListN.{length, set}
use Rattle.laws.specs.Pick.{pick}
use Rattle.store.specs.declared.element.Element.{Element}
use Rattle.store.specs.Tables.{element_in_row, elements_in_rows, elements_in}
use Rattle.request.specs.Choice.{set_flags}
use Rattle.request.proofs.Choosing.{set_from, set_all_from}
use Rattle.store.proofs.Elements.{length_elements, elements_turn, elements_end}

-- what holds whenever the loop's test is reached: the flags from the start are those from here
pub record Setting (test : Element → Bool) (to : ℕ) (rows ids : List ℕ) (n : ℕ) (told : List ℕ) (flags : List ℕ) (i : ℕ) : Type 0 where
  pub within : i ≤ n
  pub rest : told ≡ set_from test to i (elements_in_rows rows ids i (n - i)) flags

pub setting_start : (test : Element → Bool) (to : ℕ) (rows ids : List ℕ) (n : ℕ) (flags : List ℕ) → n ≤ length flags
    → Setting test to rows ids n (set_flags test to (elements_in rows ids n) flags) flags 0
setting_start test to rows ids n flags h =
    let e : n - 0 ≡ n = omega arith in
    let l : length (elements_in rows ids n) ≤ length flags = let m = length_elements rows ids 0 n in omega arith in
    record { within = omega arith; rest = rw e (sym (set_all_from test to (elements_in rows ids n) flags l)) }

module _ {test : Element → Bool} {to : ℕ} {rows ids : List ℕ} {n : ℕ} {told flags : List ℕ} {i : ℕ} (u : Setting test to rows ids n told flags i) where
  turn : i < n → told ≡ set_from test to (suc i) (elements_in_rows rows ids (suc i) (n - suc i)) (pick (test (element_in_row rows ids i)) (set flags i to) flags)
  unfolding set_from
  turn h = u.rest ∙ ap (λ (l : List Element). set_from test to i l flags) (elements_turn rows ids i n h)

  pub setting_matched : i < n → test (element_in_row rows ids i) ≡ true → Setting test to rows ids n told (set flags i to) (i + 1)
  setting_matched h e =
      let a : i + 1 ≡ suc i = omega arith in
      record { within = omega arith; rest = rw a (rw e at (turn h)) }

  pub setting_passed : i < n → test (element_in_row rows ids i) ≡ false → Setting test to rows ids n told flags (i + 1)
  setting_passed h e =
      let a : i + 1 ≡ suc i = omega arith in
      record { within = omega arith; rest = rw a (rw e at (turn h)) }

  pub setting_end : n ≤ i → flags ≡ told
  unfolding set_from
  setting_end h = sym (u.rest ∙ ap (λ (l : List Element). set_from test to i l flags) (elements_end rows ids i n h))
