-- Short headers, a start of two bytes or an end of one, by their bytes: what they are, and what a layout has there. Only the proofs of
-- `nesting` and `layout` need this.
-- Assumes nothing.
use mathlib.Core.Path.{◌≡◌, sym, ap, ◌∙◌}
use mathlib.Core.Bool.{Bool, true}
use mathlib.Core.List.{List, [], ◌∷◌}
use Prim.Native.Nat.{ℕ, ◌+◌, ◌-◌, ◌*◌, ◌/◌, ◌%◌, ◌≤◌, ◌<◌}
use native.Mathlib.Nat.{add-zero}
use native.Mathlib.Omega.{arith}
use lib.ListN.{length, get_or, take, drop, length-drop}
use lib.Seq.{get_or-drop}
use lib.Dec.{ltb, eqb}
use borrow.Author.Tests.{ltb-false, le-ltb, eqb-true, eq-eqb, ne_eqb}
use Rattle.laws.specs.Bytes.{le}
use Rattle.laws.proofs.Cases.{by_bool, impossible}
use Rattle.objects.specs.Header.{start_of, end_of, sized, header_of, header_at, escape, length_at}
use Rattle.objects.specs.Nesting.{data_past}
use Rattle.objects.specs.Steps.{same_bit, start_on, start_is, end_on}
use Rattle.objects.specs.Next.{short_number, short_is}
use Rattle.objects.specs.Results.Header as header
use Rattle.objects.specs.Results.Passed.{To}
use Rattle.objects.specs.Results.Reading.{At}

short_start_of : (at : ℕ) (t : List ℕ) → 2 ≤ length t → le (take 2 t) % 4 ≡ 0 → header_of at t ≡ start_of 64 2 (le (take 2 t))
unfolding header_of sized le
short_start_of at [] h e = absurd (omega arith)
short_start_of at (a ∷ []) h e = absurd (omega arith)
short_start_of at (a ∷ b ∷ t) h e =
    let m : a % 4 ≡ 0 = omega arith in
    rw (ne_eqb (length (a ∷ b ∷ t)) 0 (λ z. omega arith), eq-eqb (a % 4) 0 m, le-ltb (length (a ∷ b ∷ t)) 2 h)

short_end_of : (at : ℕ) (t : List ℕ) → 2 ≤ length t → le (take 2 t) % 4 ≡ 1 → header_of at t ≡ header.End (get_or t 0 0 / 4) 1
unfolding header_of sized le end_of
short_end_of at [] h e = absurd (omega arith)
short_end_of at (a ∷ []) h e = absurd (omega arith)
short_end_of at (a ∷ b ∷ t) h e =
    let m : a % 4 ≡ 1 = omega arith in
    let l : 1 ≤ length (a ∷ b ∷ t) = omega arith in
    let one : 0 * 256 + a ≡ a = omega arith in
    rw (ne_eqb (length (a ∷ b ∷ t)) 0 (λ z. omega arith), ne_eqb (a % 4) 0 (λ z. omega arith), eq-eqb (a % 4) 1 m, le-ltb (length (a ∷ b ∷ t)) 1 l)
    (ap (λ (x : ℕ). header.End (x / 4) 1) one)

-- the two bytes are there, unless the number is 3
pub short_there : (s : List ℕ) (at : ℕ) → (short_number s at ≡ 3 → ⊥) → (2 ≤ length s - at) × (short_number s at ≡ le (take 2 (drop at s)))
unfolding short_number
short_there s at h =
    by_bool (ltb (length s - at) 2) (λ e. absurd (h (rw e)))
    (λ e. (ltb-false (length s - at) 2 e, rw e))

pub short_start_lem : (s : List ℕ) (at : ℕ) → short_number s at % 4 ≡ 0 → header_at s at ≡ start_of 64 2 (short_number s at)
unfolding header_at
short_start_lem s at e =
    let w = short_there s at (λ x. omega arith) in
    let l = length-drop at s in
    short_start_of at (drop at s) (omega arith) (ap (λ (x : ℕ). x % 4) (sym w.1) ∙ e) ∙ ap (start_of 64 2) (sym w.1)

pub short_end : (s : List ℕ) (at : ℕ) → short_number s at % 4 ≡ 1 → header_at s at ≡ header.End (get_or s at 0 / 4) 1
unfolding header_at
short_end s at e =
    let w = short_there s at (λ x. omega arith) in
    let l = length-drop at s in
    short_end_of at (drop at s) (omega arith) (ap (λ (x : ℕ). x % 4) (sym w.1) ∙ e) ∙ rw (get_or-drop at s 0 0, add-zero at)

pub short_room : (s : List ℕ) (at w low : ℕ) → short_number s at ≡ w → w % 4 ≡ low → low < 3 → 2 ≤ length s - at
short_room s at w low is e h = (short_there s at (λ x. let y : w ≡ 3 = sym is ∙ x in omega arith)).0

-- so many bytes of data that are there
pub short_data : (padding : Bool) (s : List ℕ) (at n : ℕ) → n ≤ 127 → n ≤ length s - at → data_past padding s at n ≡ To (at + n)
unfolding data_past length_at
short_data padding s at n h l = let x : n ≡ escape → ⊥ = λ e. omega arith in rw (ne_eqb n escape x, le-ltb (length s - at) n l)

-- ---- what a layout has there

pub short_starts : (s : List ℕ) (at kind w : ℕ) → short_number s at ≡ w → w % 4 ≡ 0 → start_is kind (header_at s at) ≡ eqb (w / 8 % 64) kind
unfolding start_of
short_starts s at kind w is e = rw (short_start_lem s at (ap (λ (x : ℕ). x % 4) is ∙ e), is)

pub short_ends : (s : List ℕ) (at kind w : ℕ) → short_number s at ≡ w → w % 4 ≡ 1 → get_or s at 0 / 4 ≡ kind → end_on kind at (header_at s at) ≡ At (at + 1) 0
short_ends s at kind w is e h = rw (short_end s at (ap (λ (x : ℕ). x % 4) is ∙ e), eq-eqb (get_or s at 0 / 4) kind h)

pub short_is_lem : (w kind : ℕ) (compound : Bool) → short_is w kind compound ≡ true
    → (w % 4 ≡ 0) × (w / 8 % 64 ≡ kind) × (same_bit (eqb (w / 4 % 2) 1) compound ≡ true)
unfolding short_is
short_is_lem w kind compound e =
    by_bool (eqb (w % 4) 0)
    (λ a.
    by_bool (eqb (w / 8 % 64) kind) (λ b. (eqb-true (w % 4) 0 a, eqb-true (w / 8 % 64) kind b, rw (a, b) at e))
    (λ b. impossible (let x = rw (a, b) at e in cc)))
    (λ a. impossible (let x = rw a at e in cc))

pub short_start_on : (padding : Bool) (s : List ℕ) (outer kind at w : ℕ) (compound room : Bool) → short_number s at ≡ w → short_is w kind compound ≡ true → room ≡ true
    → w / 8 / 64 < 128 → start_on padding s outer kind compound room at (header_at s at) ≡ At (at + 2) (w / 8 / 64)
unfolding start_of length_at
short_start_on padding s outer kind at w compound room is e r l =
    let h = short_is_lem w kind compound e in
    rw (short_start_lem s at (ap (λ (x : ℕ). x % 4) is ∙ h.0), is, eq-eqb (w / 8 % 64) kind h.1, h.2, r, ne_eqb (w / 8 / 64) escape (λ x. omega arith))
