-- Stream object headers: what was written reads back, at any place and followed by anything, and as a single item. One law
-- serves both widths of a start, and one both of an end: the lowest bits, the bytes and the spans are its numbers.
-- Assumes nothing.
use mathlib.Core.Path.{◌≡◌, refl, sym, ap, ◌∙◌}
use mathlib.Core.Logic.{◌≢◌}
use mathlib.Core.Bool.{Bool, true, false}
use mathlib.Core.List.{List, ◌++◌, append_assoc}
use Prim.Native.Nat.{ℕ, ◌+◌, ◌*◌, ◌/◌, ◌%◌, ◌^◌, ◌≤◌, ◌<◌}
use native.Mathlib.Nat.{zero-add}
use native.Mathlib.Omega.{arith}
use lib.ListN.{length, get_or, drop, length-append}
use lib.Seq.{drop-drop, take_at, drop_at}
use lib.Arith.{digits_lt, digits_div, digits_mod}
use lib.Dec.{lit<, ltb, eqb}
use borrow.Author.Tests.{lt-ltb, le-ltb, ne_eqb}
use Rattle.laws.specs.Pick.{pick}
use Rattle.laws.specs.Bytes.{bytes}
use Rattle.laws.proofs.Cases.{by_lt}
use Rattle.laws.proofs.Numbers.{length_bytes, le_bytes, first_byte}
use Rattle.numbers.specs.Compact.{padding_taken, compact_bytes}
use Rattle.numbers.proofs.RoundTrip.{written_unpadded}
use Rattle.objects.specs.Header.{start_of, end_of, sized, header_of, header_at, escape, length_at, whole_header, start_number, start_bytes, end_bytes}
use Rattle.objects.specs.Results.Header.{End, ReadHeader, Start}
use Rattle.objects.specs.Results.Length.{Is}
use Rattle.objects.proofs.HeaderForms.{short_start, by_start, length_short, length_own, length_behind, end_short, end_long, length_end_short, length_end_long}

-- ---- the form that the lowest two bits tell

abbrev form_for : ℕ → ℕ → List ℕ → ReadHeader
form_for low at t =
    pick (eqb low 0) (sized at 2 (start_of (2 ^ 6)) t)
    (pick (eqb low 1) (sized at 1 end_of t)
    (pick (eqb low 2) (sized at 4 (start_of (2 ^ 14)) t) (sized at 2 end_of t)))

by_low : (at : ℕ) (t : List ℕ) → length t ≢ 0 → header_of at t ≡ form_for (get_or t 0 0 % 4) at t
unfolding header_of
by_low at t n = rw (ne_eqb (length t) 0 n)

-- the number w of `size` bytes at the front, of the form that its lowest bits tell
number_back : (low size w : ℕ) (form : ℕ → ℕ → ReadHeader) (t : List ℕ) (at : ℕ) → 0 < size → w < 256 ^ size → w % 4 ≡ low
    → ((s : List ℕ) → form_for low at s ≡ sized at size form s) → header_of at (bytes size w ++ t) ≡ form size w
unfolding sized
number_back low size w form t at p b e is =
    let s = bytes size w ++ t in
    let h : size ≤ length s = rw (length-append, length_bytes) (omega arith) in
    let f : get_or s 0 0 % 4 ≡ low = rw (first_byte size w t p) (omega arith) in
    by_low at s (λ z. omega arith) ∙ ap (λ (x : ℕ). form_for x at s) f ∙ is s
    ∙ rw (le-ltb _ _ h, take_at (bytes size w) t size (length_bytes size w), le_bytes size w b)

-- ---- a start: its number and its parts

module _ (low span : ℕ) (b : low < 4) where
  start_low : (c : Bool) (k n : ℕ) → start_number low span c k n % 4 ≡ low
  unfolding start_number
  start_low true k n = omega arith
  start_low false k n = omega arith

  start_room : (top : ℕ) (c : Bool) (k n : ℕ) → k < span → n < top → start_number low span c k n < top * span * 8
  unfolding start_number
  start_room top true k n h l = omega (arith, digits_lt l h)
  start_room top false k n h l = omega (arith, digits_lt l h)

  rest_is : (c : Bool) (k n : ℕ) → start_number low span c k n / 8 ≡ n * span + k
  unfolding start_number
  rest_is true k n = omega arith
  rest_is false k n = omega arith

  bit_is : (c : Bool) (k n : ℕ) → eqb (start_number low span c k n / 4 % 2) 1 ≡ c
  unfolding start_number
  bit_is true k n = let e : (low + 4 + (k + n * span) * 8) / 4 % 2 ≡ 1 = omega arith in rw e
  bit_is false k n = let e : (low + 0 + (k + n * span) * 8) / 4 % 2 ≡ 0 = omega arith in rw e

  start_parts : (size : ℕ) (c : Bool) (k n : ℕ) → k < span → start_of span size (start_number low span c k n) ≡ Start k c n size
  unfolding start_of
  start_parts size c k n h = rw (rest_is c k n, bit_is c k n, digits_mod n h, digits_div n h)

  start_back : (size top : ℕ) → 0 < size → top * span * 8 ≡ 256 ^ size → (at : ℕ) → ((s : List ℕ) → form_for low at s ≡ sized at size (start_of span) s)
      → (c : Bool) (k n : ℕ) (t : List ℕ) → k < span → n < top → header_of at (bytes size (start_number low span c k n) ++ t) ≡ Start k c n size
  start_back size top p room at is c k n t h l =
      number_back low size (start_number low span c k n) (start_of span) t at p (rw (← room) (start_room top c k n h l)) (start_low c k n) is
      ∙ start_parts size c k n h

-- ---- a start that was written

-- the length that the header itself has
abbrev pub length_field : ℕ → ℕ
length_field n = pick (ltb n escape) n escape

-- the bytes of the header itself
abbrev pub own_bytes : ℕ → ℕ → ℕ
own_bytes k n = pick (short_start k n) 2 4

pub start_header : (k : ℕ) (c : Bool) (n : ℕ) → k < 2 ^ 14 → (t : List ℕ) (at : ℕ)
    → header_of at (start_bytes k c n ++ t) ≡ Start k c (length_field n) (own_bytes k n)
start_header k c n h t at =
    by_start k n
    (λ s a b e.
    let l : n < escape = omega arith in
    rw (e c, s, lt-ltb n escape l) (start_back 0 (2 ^ 6) (lit< tt) 2 128 (lit< tt) refl at (λ x. refl) c k n t a b))
    (λ s l e. rw (e c, s, lt-ltb n escape l) (start_back 2 (2 ^ 14) (lit< tt) 4 (2 ^ 15) (lit< tt) refl at (λ x. refl) c k n t h (omega arith)))
    (λ s l e.
    rw (e c, s, le-ltb n escape l, append_assoc) (start_back 2 (2 ^ 14) (lit< tt) 4 (2 ^ 15) (lit< tt) refl at (λ x. refl) c k escape (compact_bytes n ++ t) h (lit< tt)))

-- a length that is not the escape
pub own_length : (padding : Bool) (s : List ℕ) (at n : ℕ) → n ≢ escape → length_at padding s at n ≡ Is n at
unfolding length_at
own_length padding s at n h = rw (ne_eqb n escape h)

-- the escape, with the true length behind it
behind_length : (padding : Bool) (s : List ℕ) (at n : ℕ) (t : List ℕ) → n < 2 ^ 64 → drop at s ≡ compact_bytes n ++ t → length_at padding s at escape ≡ Is n (at + length (compact_bytes n))
unfolding length_at
behind_length padding s at n t h e = rw (e, written_unpadded padding n h t)

pub start_length : (padding : Bool) (s : List ℕ) (at k n : ℕ) (c : Bool) (t : List ℕ) → n < 2 ^ 64 → drop at s ≡ start_bytes k c n ++ t
    → length_at padding s (at + own_bytes k n) (length_field n) ≡ Is n (at + length (start_bytes k c n))
start_length padding s at k n c t h d =
    by_start k n
    (λ x a b e.
    let l : n < escape = omega arith in
    rw (x, lt-ltb n escape l, length_short k c n x) (own_length padding s (at + 2) n (λ z. omega arith)))
    (λ x l e. rw (x, lt-ltb n escape l, length_own k c n x l) (own_length padding s (at + 4) n (λ z. omega arith)))
    (λ x l e.
    let w = bytes 4 (start_number 2 (2 ^ 14) c k escape) in
    let f : drop (at + 4) s ≡ compact_bytes n ++ t =
    sym (drop-drop 4 at s) ∙ rw (d, e c, append_assoc) (drop_at w (compact_bytes n ++ t) 4 (length_bytes 4 (start_number 2 (2 ^ 14) c k escape))) in
    let g : at + 4 + length (compact_bytes n) ≡ at + length (start_bytes k c n) = omega (arith, length_behind k c n l) in
    rw (x, le-ltb n escape l, ← g) (behind_length padding s (at + 4) n t h f))

-- a start that stands at a place: its header, and behind that its true length
pub record StartWritten (padding : Bool) (s : List ℕ) (at k n : ℕ) (c : Bool) : Type 0 where
  pub field : ℕ  -- the length as the header has it
  pub used : ℕ  -- the header's own bytes
  pub header : header_at s at ≡ Start k c field used
  pub true_length : length_at padding s (at + used) field ≡ Is n (at + length (start_bytes k c n))

pub start_written : (padding : Bool) (s : List ℕ) (at k n : ℕ) (c : Bool) (t : List ℕ) → k ≤ 0x3FFF → n < 2 ^ 64 → drop at s ≡ start_bytes k c n ++ t
    → StartWritten padding s at k n c
unfolding header_at
start_written padding s at k n c t h b d =
    record {
      field = length_field n;
      used = own_bytes k n;
      header = rw d (start_header k c n (omega arith) t at);
      true_length = start_length padding s at k n c t b d;
    }

-- as the single item
pub header_read_written : (k n : ℕ) (c : Bool) (t : List ℕ) → k ≤ 0x3FFF → n < 2 ^ 64
    → whole_header (start_bytes k c n ++ t) ≡ Start k c n (length (start_bytes k c n))
unfolding whole_header
header_read_written k n c t h b =
    let l : length_at padding_taken (start_bytes k c n ++ t) (own_bytes k n) (length_field n) ≡ Is n (length (start_bytes k c n)) =
    rw (zero-add (own_bytes k n), zero-add (length (start_bytes k c n))) at (start_length padding_taken (start_bytes k c n ++ t) 0 k n c t b refl) in
    rw (start_header k c n (omega arith) t 0, l)

-- ---- an end that was written

end_back : (low size top : ℕ) → low < 4 → 0 < size → top * 4 ≡ 256 ^ size → (at : ℕ) → ((s : List ℕ) → form_for low at s ≡ sized at size end_of s)
    → (k : ℕ) (t : List ℕ) → k < top → header_of at (bytes size (low + k * 4) ++ t) ≡ End k size
unfolding end_of
end_back low size top b p room at is k t h =
    let e : (low + k * 4) / 4 ≡ k = omega arith in
    number_back low size (low + k * 4) end_of t at p (rw (← room) (omega arith)) (omega arith) is ∙ rw e

pub end_header : (k : ℕ) → k < 2 ^ 14 → (t : List ℕ) (at : ℕ) → header_of at (end_bytes k ++ t) ≡ End k (length (end_bytes k))
end_header k h t at =
    by_lt k 64
    (λ l. rw (length_end_short k l, end_short k l) (end_back 1 1 64 (lit< tt) (lit< tt) refl at (λ x. refl) k t l))
    (λ l. rw (length_end_long k l, end_long k l) (end_back 3 2 (2 ^ 14) (lit< tt) (lit< tt) refl at (λ x. refl) k t h))

pub end_written : (s : List ℕ) (at k : ℕ) (t : List ℕ) → k ≤ 0x3FFF → drop at s ≡ end_bytes k ++ t → header_at s at ≡ End k (length (end_bytes k))
unfolding header_at
end_written s at k t h d = rw d (end_header k (omega arith) t at)

pub end_read_written : (k : ℕ) (t : List ℕ) → k ≤ 0x3FFF → whole_header (end_bytes k ++ t) ≡ End k (length (end_bytes k))
unfolding whole_header
end_read_written k t h = rw (end_header k (omega arith) t 0)
