-- Stream object headers that are read: the bounds of what they say, and that what is read in its shortest form is exactly what
-- is written for it. Longer forms are read too, so the way back is of the shortest. One law serves both widths of a start, and
-- one both of an end.
-- Assumes nothing.
use mathlib.Core.Path.{◌≡◌, refl, sym, ap, ◌∙◌}
use mathlib.Core.Logic.{◌≢◌}
use mathlib.Core.Bool.{Bool, true}
use mathlib.Core.List.{List}
use Prim.Native.Nat.{ℕ, ◌+◌, ◌*◌, ◌/◌, ◌%◌, ◌^◌, ◌≤◌, ◌<◌}
use native.Mathlib.Nat.{mod-lt, div-add-mod', div-lt_iff_lt-mul}
use native.Mathlib.Omega.{arith}
use lib.ListN.{length, get_or, take, drop, length-take}
use lib.Seq.{take-add, length-take-le}
use lib.Dec.{lit<, eqb}
use borrow.Author.Tests.{lt-ltb, le-ltb, eq-eqb, ne_eqb}
use Rattle.laws.specs.Bytes.{AllBytes, le, bytes}
use Rattle.laws.proofs.Cases.{by_lt, by_eq, impossible}
use Rattle.laws.proofs.Numbers.{drop_bytes, take_bytes, le_lt, bytes_le, low_byte}
use Rattle.numbers.specs.Refusals.{fault_at}
use Rattle.numbers.specs.Compact.{padding_taken, compact_for, compact_bytes}
use Rattle.numbers.specs.Results.Compact.{Compact}
use Rattle.numbers.specs.Results.Compact as compact
use Rattle.numbers.proofs.Padding.{shortest_read}
use Rattle.objects.specs.Header.{start_of, end_of, sized, header_of, header_at, escape, length_on, length_at, lengthened, with_length, whole_header, start_number, start_bytes, end_bytes}
use Rattle.objects.specs.Results.Header.{End, ReadHeader, Refused, Start}
use Rattle.objects.specs.Results.Length.{Is, Length}
use Rattle.objects.specs.Results.Length as length'
use Rattle.objects.proofs.HeaderLaws.{compact_fits}
use Rattle.objects.proofs.HeaderForms.{short_start, start_short, by_start, length_short, length_own, length_behind, end_short, end_long, length_end_short}
use Rattle.objects.proofs.HeadersBack.{own_length}

-- ---- a header that is read, and the bytes that it was read from

-- not a refusal
abbrev Read : ReadHeader → Type 0
Read (Start k c n u) = Unit {0}
Read (End k u) = Unit {0}
Read (Refused r) = ⊥

not_refused : {A : Type 0} (at : ℕ) (h : ReadHeader) → Read h → Refused (fault_at 2 at) ≡ h → A
not_refused at (Start k c n u) r e = impossible (cc)
not_refused at (End k u) r e = impossible (cc)
not_refused at (Refused x) r e = absurd r

-- the number of `size` bytes at the front, with these lowest bits, of which this form makes h
record Front (low size : ℕ) (form : ℕ → ℕ → ReadHeader) (s : List ℕ) (h : ReadHeader) : Type 0 where
  within : size ≤ length s
  lowest : le (take size s) % 4 ≡ low
  room : le (take size s) < 256 ^ size
  same : take size s ≡ bytes size (le (take size s))
  reads : form size (le (take size s)) ≡ h

front : (low size : ℕ) (form : ℕ → ℕ → ReadHeader) (at : ℕ) (s : List ℕ) (h : ReadHeader) → 0 < size → AllBytes s → Read h → get_or s 0 0 % 4 ≡ low
    → sized at size form s ≡ h → Front low size form s h
unfolding sized
front low size form at s h p b r f e =
    by_lt (length s) size
    (λ l. not_refused at h r (rw (lt-ltb _ _ l) at e))
    (λ l.
    record {
      within = l;
      lowest = let x : le (take size s) % 256 % 4 ≡ low = rw (low_byte size s b p) f in omega arith;
      room = le_lt size (take size s) (simp length-take (omega arith)) (take_bytes size s b);
      same = sym (rw (length-take-le size s l) at (bytes_le (take size s) (take_bytes size s b)));
      reads = rw (le-ltb _ _ l) at e;
    })

-- one of the four forms
by_front : {P : Type 0} (at : ℕ) (s : List ℕ) (h : ReadHeader) → AllBytes s → Read h → header_of at s ≡ h
    → (Front 0 2 (start_of (2 ^ 6)) s h → P) → (Front 1 1 end_of s h → P) → (Front 2 4 (start_of (2 ^ 14)) s h → P) → (Front 3 2 end_of s h → P) → P
unfolding header_of
by_front at s h b r e f0 f1 f2 f3 =
    by_eq (length s) 0
    (λ z. not_refused at h r (rw (eq-eqb _ _ z) at e))
    (λ z.
    let low = get_or s 0 0 % 4 in
    by_eq low 0
    (λ x. f0 (front 0 2 (start_of (2 ^ 6)) at s h (lit< tt) b r x (rw (ne_eqb _ _ z, x) at e)))
    (λ n0.
    by_eq low 1
    (λ x. f1 (front 1 1 end_of at s h (lit< tt) b r x (rw (ne_eqb _ _ z, x) at e)))
    (λ n1.
    by_eq low 2
    (λ x. f2 (front 2 4 (start_of (2 ^ 14)) at s h (lit< tt) b r x (rw (ne_eqb _ _ z, x) at e)))
    (λ n2. let x : low ≡ 3 = omega arith in f3 (front 3 2 end_of at s h (lit< tt) b r x (rw (ne_eqb _ _ z, x) at e))))))

-- ---- a start that is read

record StartRead (low span size top : ℕ) (s : List ℕ) (k : ℕ) (c : Bool) (m u : ℕ) : Type 0 where
  whole : u ≡ size
  within : size ≤ length s
  type : k < span
  field : m < top
  same : take size s ≡ bytes size (start_number low span c k m)

number_same : (low span w : ℕ) → w % 4 ≡ low → start_number low span (eqb (w / 4 % 2) 1) (w / 8 % span) (w / 8 / span) ≡ w
unfolding start_number
number_same low span w e =
    by_eq (w / 4 % 2) 1
    (λ x. rw (eq-eqb _ _ x) (omega (arith, div-add-mod' (w / 8) span)))
    (λ x. rw (ne_eqb _ _ x) (omega (arith, div-add-mod' (w / 8) span)))

start_read : (low span size top : ℕ) → 0 < span → top * span * 8 ≡ 256 ^ size → (s : List ℕ) (k : ℕ) (c : Bool) (m u : ℕ)
    → Front low size (start_of span) s (Start k c m u) → StartRead low span size top s k c m u
unfolding start_of
start_read low span size top p room s k c m u f =
    let w = le (take size s) in
    let q = f.reads in
    let ek : w / 8 % span ≡ k = cc in
    let ec : eqb (w / 4 % 2) 1 ≡ c = cc in
    let em : w / 8 / span ≡ m = cc in
    let l : w < top * span * 8 = rw room f.room in
    record {
      whole = cc;
      within = f.within;
      type = rw (← ek) (mod-lt (w / 8) p);
      field = rw (← em) ((div-lt_iff_lt-mul p).1 (omega arith));
      same = f.same ∙ ap (bytes size) (sym (rw (ek, ec, em) at (number_same low span w f.lowest)));
    }

-- one of the two widths
by_start_read : {P : Type 0} (at : ℕ) (s : List ℕ) (k : ℕ) (c : Bool) (m u : ℕ) → AllBytes s → header_of at s ≡ Start k c m u
    → (StartRead 0 (2 ^ 6) 2 128 s k c m u → P) → (StartRead 2 (2 ^ 14) 4 (2 ^ 15) s k c m u → P) → P
unfolding end_of
by_start_read at s k c m u b e short long =
    by_front at s (Start k c m u) b tt e
    (λ f. short (start_read 0 (2 ^ 6) 2 128 (lit< tt) refl s k c m u f))
    (λ f. let q = f.reads in impossible (cc))
    (λ f. long (start_read 2 (2 ^ 14) 4 (2 ^ 15) (lit< tt) refl s k c m u f))
    (λ f. let q = f.reads in impossible (cc))

-- ---- an end that is read

record EndRead (low size top : ℕ) (s : List ℕ) (k u : ℕ) : Type 0 where
  whole : u ≡ size
  type : k < top
  same : take size s ≡ bytes size (low + k * 4)

end_read : (low size top : ℕ) → top * 4 ≡ 256 ^ size → (s : List ℕ) (k u : ℕ) → Front low size end_of s (End k u) → EndRead low size top s k u
unfolding end_of
end_read low size top room s k u f =
    let w = le (take size s) in
    let q = f.reads in
    let ek : w / 4 ≡ k = cc in
    let l : w < top * 4 = rw room f.room in
    let x : low + w / 4 * 4 ≡ w = omega (arith, f.lowest) in
    record {
      whole = cc;
      type = rw (← ek) (omega arith);
      same = f.same ∙ ap (bytes size) (sym (rw ek at x));
    }

by_end_read : {P : Type 0} (at : ℕ) (s : List ℕ) (k u : ℕ) → AllBytes s → header_of at s ≡ End k u
    → (EndRead 1 1 64 s k u → P) → (EndRead 3 2 (2 ^ 14) s k u → P) → P
unfolding start_of
by_end_read at s k u b e short long =
    by_front at s (End k u) b tt e
    (λ f. let q = f.reads in impossible (cc))
    (λ f. short (end_read 1 1 64 refl s k u f))
    (λ f. let q = f.reads in impossible (cc))
    (λ f. long (end_read 3 2 (2 ^ 14) refl s k u f))

-- ---- a true length that is read

own_read : (s : List ℕ) (at m n u : ℕ) → m ≢ escape → length_at padding_taken s at m ≡ Is n u → (m ≡ n) × (at ≡ u)
own_read s at m n u h e = let q : Is m at ≡ Is n u = sym (own_length padding_taken s at m h) ∙ e in (grind arith, grind arith)

record BehindRead (s : List ℕ) (at n u : ℕ) : Type 0 where
  size : ℕ
  padded : Bool
  item : compact_for padding_taken (drop at s) ≡ compact.Value n size padded
  place : u ≡ at + size

length_on_read : (s : List ℕ) (at n u : ℕ) (r : Compact) → compact_for padding_taken (drop at s) ≡ r → length_on at r ≡ Is n u → BehindRead s at n u
length_on_read s at n u (compact.Value v m padded) e q = record { size = m; padded = padded; item = grind arith; place = grind arith }
length_on_read s at n u (compact.Refused r) e q = impossible (cc)

behind_read : (s : List ℕ) (at n u : ℕ) → length_at padding_taken s at escape ≡ Is n u → BehindRead s at n u
unfolding length_at
behind_read s at n u e = length_on_read s at n u (compact_for padding_taken (drop at s)) refl e

-- ---- the bounds of what is read

pub start_bounds : (s : List ℕ) (at k : ℕ) (c : Bool) (m u : ℕ) → AllBytes s → header_at s at ≡ Start k c m u → (k ≤ 0x3FFF) × (m ≤ escape)
unfolding header_at
start_bounds s at k c m u b e =
    by_start_read at (drop at s) k c m u (drop_bytes at s b) e
    (λ r. (omega (arith, r.type), omega (arith, r.field)))
    (λ r. (omega (arith, r.type), omega (arith, r.field)))

pub end_bounds : (s : List ℕ) (at k u : ℕ) → AllBytes s → header_at s at ≡ End k u → k ≤ 0x3FFF
unfolding header_at
end_bounds s at k u b e =
    by_end_read at (drop at s) k u (drop_bytes at s b) e (λ r. omega (arith, r.type)) (λ r. omega (arith, r.type))

-- ---- the single item that is read: a header, and behind that its true length

record WholeStart (s : List ℕ) (h : ReadHeader) (k : ℕ) (c : Bool) (n u : ℕ) : Type 0 where
  field : ℕ
  used : ℕ
  header : h ≡ Start k c field used
  true_length : length_at padding_taken s used field ≡ Is n u

lengthened_start : (s : List ℕ) (j : ℕ) (d : Bool) (m v : ℕ) (l : Length) (k : ℕ) (c : Bool) (n u : ℕ) → length_at padding_taken s v m ≡ l → lengthened j d l ≡ Start k c n u
    → WholeStart s (Start j d m v) k c n u
lengthened_start s j d m v (Is x from) k c n u e q = record { field = m; used = v; header = cc; true_length = cc }
lengthened_start s j d m v (length'.Refused r) k c n u e q = impossible (cc)

with_length_start : (s : List ℕ) (h : ReadHeader) (k : ℕ) (c : Bool) (n u : ℕ) → with_length s h ≡ Start k c n u → WholeStart s h k c n u
with_length_start s (Start j d m v) k c n u e = lengthened_start s j d m v (length_at padding_taken s v m) k c n u refl e
with_length_start s (End j v) k c n u e = impossible (cc)
with_length_start s (Refused r) k c n u e = impossible (cc)

whole_start : (s : List ℕ) (k : ℕ) (c : Bool) (n u : ℕ) → whole_header s ≡ Start k c n u → WholeStart s (header_of 0 s) k c n u
unfolding whole_header
whole_start s k c n u e = with_length_start s (header_of 0 s) k c n u e

lengthened_end : {A : Type 0} (j : ℕ) (d : Bool) (l : Length) (k u : ℕ) → lengthened j d l ≡ End k u → A
lengthened_end j d (Is x from) k u q = impossible (cc)
lengthened_end j d (length'.Refused r) k u q = impossible (cc)

with_length_end : (s : List ℕ) (h : ReadHeader) (k u : ℕ) → with_length s h ≡ End k u → h ≡ End k u
with_length_end s (Start j d m v) k u e = lengthened_end j d (length_at padding_taken s v m) k u e
with_length_end s (End j v) k u e = e
with_length_end s (Refused r) k u e = impossible (cc)

whole_end : (s : List ℕ) (k u : ℕ) → whole_header s ≡ End k u → header_of 0 s ≡ End k u
unfolding whole_header
whole_end s k u e = with_length_end s (header_of 0 s) k u e

-- ---- what is read in its shortest form is what is written for it

short_same : (s : List ℕ) (k : ℕ) (c : Bool) (m v n u : ℕ) → StartRead 0 (2 ^ 6) 2 128 s k c m v → length_at padding_taken s v m ≡ Is n u → take u s ≡ start_bytes k c n
short_same s k c m v n u r l =
    let o = own_read s v m n u (λ z. omega (arith, r.field)) l in
    let y : short_start k m ≡ true = rw (lt-ltb k 64 r.type) (lt-ltb m 128 r.field) in
    rw (← o.0, ← o.1, r.whole) (r.same ∙ sym (start_short k c m y))

-- 32 bits, if 16 do not do
long_same : (s : List ℕ) (k : ℕ) (c : Bool) (m v n u : ℕ) → StartRead 2 (2 ^ 14) 4 (2 ^ 15) s k c m v → m ≢ escape → length_at padding_taken s v m ≡ Is n u
    → u ≡ length (start_bytes k c n) → take u s ≡ start_bytes k c n
long_same s k c m v n u r x l h =
    let o = own_read s v m n u x l in
    let w = r.whole in
    by_start k n
    (λ y a d g. absurd (omega (arith, length_short k c n y)))
    (λ y a g. rw (← o.1, w, g c, ← o.0) r.same)
    (λ y a g. absurd (omega (arith, r.field)))

-- and with the true length behind, if that has no room in the header
behind_same : (s : List ℕ) (k : ℕ) (c : Bool) (v n u : ℕ) → AllBytes s → StartRead 2 (2 ^ 14) 4 (2 ^ 15) s k c escape v → length_at padding_taken s v escape ≡ Is n u
    → u ≡ length (start_bytes k c n) → take u s ≡ start_bytes k c n
behind_same s k c v n u b r l h =
    let q = behind_read s 4 n u (rw r.whole at l) in
    let w = q.place in
    let f = compact_fits padding_taken s 4 n q.size q.padded q.item in
    by_start k n
    (λ y a d g. absurd (omega (arith, length_short k c n y)))
    (λ y a g. absurd (omega (arith, length_own k c n y a)))
    (λ y a g.
    let some : n ≢ 0 = λ z. omega arith in
    let shortest : q.size ≡ length (compact_bytes n) = omega (arith, length_behind k c n a) in
    rw (w, g c, take-add 4 q.size s, r.same, shortest_read padding_taken (drop 4 s) n q.size q.padded (drop_bytes 4 s b) q.item some shortest))

pub header_written_read : (s : List ℕ) (k : ℕ) (c : Bool) (n u : ℕ) → AllBytes s → whole_header s ≡ Start k c n u → u ≡ length (start_bytes k c n)
    → take u s ≡ start_bytes k c n
header_written_read s k c n u b e h =
    let w = whole_start s k c n u e in
    by_start_read 0 s k c w.field w.used b w.header
    (λ r. short_same s k c w.field w.used n u r w.true_length)
    (λ r.
    by_eq w.field escape
    (λ x. behind_same s k c w.used n u b (rw x at r) (rw x at w.true_length) h)
    (λ x. long_same s k c w.field w.used n u r x w.true_length h))

pub end_written_read : (s : List ℕ) (k u : ℕ) → AllBytes s → whole_header s ≡ End k u → u ≡ length (end_bytes k) → take u s ≡ end_bytes k
end_written_read s k u b e h =
    by_end_read 0 s k u b (whole_end s k u e)
    (λ r. rw (r.whole, end_short k r.type) r.same)
    (λ r.
    let w = r.whole in
    by_lt k 64
    (λ l. absurd (omega (arith, length_end_short k l)))
    (λ l. rw (w, end_long k l) r.same))
