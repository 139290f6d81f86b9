-- The loops over ids and over filters, turn by turn.
-- Assumes nothing.
use mathlib.Core.Path.{◌≡◌, ap, ◌∙◌}
use mathlib.Core.Bool.{true, false}
use mathlib.Core.List.{List}
use Prim.Native.Nat.{ℕ, zero, suc, ◌+◌, ◌-◌, ◌<◌, ◌≤◌}
use native.Mathlib.Omega.{arith}
use borrow.Author.Tests.{eq-eqb, ne_eqb}
use Rattle.objects.specs.Steps.{place_of, need, start_here, valued, next_is}
use Rattle.objects.specs.Results.Reading.{Reading}
use Rattle.request.specs.Filter.{id_step, ids_from, filter_at, filters_from, request_padding}

-- ---- ids: i of n are read

pub ids_more : (d : List ℕ) (n i : ℕ) (c : Reading) → i < n → i < 64 → ids_from (64 - i) d (n - i) c ≡ ids_from (64 - (i + 1)) d (n - (i + 1)) (id_step d c)
unfolding ids_from
ids_more d n i c h l =
    let e : 64 - i ≡ suc (64 - (i + 1)) = omega arith in
    let z : n - i ≡ 0 → ⊥ = λ q. omega arith in
    let m : n - i - 1 ≡ n - (i + 1) = omega arith in
    rw (e, ne_eqb (n - i) 0 z, m)

pub ids_over : (d : List ℕ) (n i : ℕ) (c : Reading) → i < n → i ≡ 64 → ids_from (64 - i) d (n - i) c ≡ need false 9 (place_of c) (id_step d c)
unfolding ids_from
ids_over d n i c h l =
    let e : 64 - i ≡ 0 = omega arith in
    let z : n - i ≡ 0 → ⊥ = λ q. omega arith in
    rw (e, ne_eqb (n - i) 0 z)

none_left : (left : ℕ) (d : List ℕ) (n : ℕ) (c : Reading) → n ≡ 0 → ids_from left d n c ≡ c
unfolding ids_from
none_left zero d n c q = rw (eq-eqb n 0 q)
none_left (suc left) d n c q = rw (eq-eqb n 0 q)

pub ids_end : (d : List ℕ) (n i : ℕ) (c : Reading) → n ≤ i → ids_from (64 - i) d (n - i) c ≡ c
ids_end d n i c h = none_left (64 - i) d (n - i) c (omega arith)

-- ---- filters: n of 16 are read

pub filters_more : (n : ℕ) (s : List ℕ) (c : Reading) → n < 16 → next_is s 0x47 c ≡ true → filters_from (16 - n) s c ≡ filters_from (16 - (n + 1)) s (filter_at s c)
unfolding filters_from
filters_more n s c h q = let e : 16 - n ≡ suc (16 - (n + 1)) = omega arith in rw (e, q)

pub filters_over : (n : ℕ) (s : List ℕ) (c : Reading) → n ≡ 16 → next_is s 0x47 c ≡ true → filters_from (16 - n) s c ≡ start_here request_padding s 0x42 0x47 true false c
unfolding filters_from
filters_over n s c h q = let e : 16 - n ≡ 0 = omega arith in rw (e, q)

no_more : (left : ℕ) (s : List ℕ) (c : Reading) → next_is s 0x47 c ≡ false → filters_from left s c ≡ valued (16 - left) c
unfolding filters_from
no_more zero s c q = rw q
no_more (suc left) s c q = rw q

pub filters_end : (n : ℕ) (s : List ℕ) (c : Reading) → n ≤ 16 → next_is s 0x47 c ≡ false → filters_from (16 - n) s c ≡ valued n c
filters_end n s c h q = let e : 16 - (16 - n) ≡ n = omega arith in no_more (16 - n) s c q ∙ ap (λ (x : ℕ). valued x c) e
