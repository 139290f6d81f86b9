-- Ids in the two shortest forms: by the first byte, and in the form of 18 bytes by the second, it is known where they end. It is
-- for `filter::past_id`; what is promised of a reading speaks of every form.
-- Assumes nothing.
use mathlib.Core.Path.{◌≡◌}
use mathlib.Core.List.{List, [], ◌∷◌}
use Prim.Native.Nat.{ℕ, ◌+◌, ◌/◌, ◌^◌, ◌≤◌, ◌<◌}
use native.Mathlib.Omega.{arith}
use lib.ListN.{length, get_or, take}
use lib.Count.{count_trailing_zeros}
use borrow.Author.Tests.{le-ltb, ne_eqb}
use Rattle.laws.specs.Bytes.{le}
use Rattle.numbers.specs.ExtendedGuid.{read_extended_guid, form_of_id, short_form, named_of}
use Rattle.objects.specs.Steps.{id_on, on_field}
use Rattle.objects.specs.Results.Reading.{At}
use Rattle.request.specs.ShortId.{Seen}

not_null : (b k : ℕ) → count_trailing_zeros 8 b ≡ k → k < 8 → b ≡ 0 → ⊥
unfolding count_trailing_zeros
not_null b k e h z = let y : count_trailing_zeros 8 0 ≡ k = rw z at e in omega arith

-- eight times 256 is the least number of the form, 32, above its six low bits
ten_bits : (s : List ℕ) → 2 ≤ length s → 8 ≤ get_or s 1 0 → 32 ≤ le (take 2 s) / 2 ^ 6
unfolding le
ten_bits [] l h = absurd (omega arith)
ten_bits (a ∷ []) l h = absurd (omega arith)
ten_bits (a ∷ b ∷ s) l h = omega arith

module _ (s : List ℕ) (room : 18 ≤ length s) where
  there : length s ≡ 0 → ⊥
  there e = omega arith

  five_bits_long : count_trailing_zeros 8 (get_or s 0 0) ≡ 2 → (at : ℕ) → on_field (id_on at (read_extended_guid s)) ≡ At (at + 17) 0
  unfolding on_field read_extended_guid form_of_id short_form named_of
  five_bits_long e at =
      rw (
        ne_eqb (length s) 0 there,
        ne_eqb (get_or s 0 0) 0 (not_null (get_or s 0 0) 2 e (omega arith)),
        e,
        le-ltb (length s) 17 (omega arith),
        le-ltb (le (take 1 s) / 2 ^ 3) 0 (omega arith),
      )

  pub seen_17 : count_trailing_zeros 8 (get_or s 0 0) ≡ 2 → Seen s 17
  seen_17 e = record { within = omega arith; reads = five_bits_long e }

  ten_bits_long : count_trailing_zeros 8 (get_or s 0 0) ≡ 5 → 8 ≤ get_or s 1 0 → (at : ℕ) → on_field (id_on at (read_extended_guid s)) ≡ At (at + 18) 0
  unfolding on_field read_extended_guid form_of_id short_form named_of
  ten_bits_long e h at =
      rw (
        ne_eqb (length s) 0 there,
        ne_eqb (get_or s 0 0) 0 (not_null (get_or s 0 0) 5 e (omega arith)),
        e,
        le-ltb (length s) 18 room,
        le-ltb (le (take 2 s) / 2 ^ 6) 32 (ten_bits s (omega arith) h),
      )

  pub seen_18 : count_trailing_zeros 8 (get_or s 0 0) ≡ 5 → 8 ≤ get_or s 1 0 → Seen s 18
  seen_18 e h = record { within = room; reads = ten_bits_long e h }
