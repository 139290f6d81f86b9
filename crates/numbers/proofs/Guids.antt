-- GUIDs: sixteen bytes there and back, and the order of the sixteen bytes as an order of numbers.
-- Assumes nothing.
use mathlib.Core.Path.{◌≡◌, sym, ap, ◌∙◌}
use mathlib.Core.Bool.{true, false}
use mathlib.Core.List.{List, [], ◌∷◌, ◌++◌, append_assoc}
use Prim.Native.Nat.{ℕ, zero, suc, ◌+◌, ◌*◌, ◌/◌, ◌%◌, ◌^◌, ◌≤◌, ◌<◌}
use native.Mathlib.Nat.{div-div-eq-div-mul}
use native.Mathlib.Omega.{arith}
use lib.ListN.{length, get_or, take, drop, set, length-append, length-drop, length-take}
use lib.Seq.{drop-drop, take_at, drop_at, take-add, length-take-le}
use lib.Dec.{ltb}
use Rattle.laws.specs.Pick.{pick}
use Rattle.laws.specs.Bytes.{AllBytes, le, bytes, before, be}
use Rattle.laws.proofs.Numbers.{length_bytes, le_bytes, bytes_le, bytes_bytes, take_bytes, drop_bytes, le_lt}
use Rattle.laws.proofs.Placing.{laid_behind}
use Rattle.laws.proofs.Order.{before_be, before_append, be_lt}
use Rattle.numbers.specs.Guid.{guid_at, guid_bytes, tagged_bytes, GuidFits, guid_before, swapped}
use Rattle.numbers.specs.declared.guid.Guid.{Guid}

pub length_guid : (g : Guid) → length (guid_bytes g) ≡ 16
unfolding guid_bytes
length_guid g = simp (length-append, length_bytes)

-- what was written reads back, followed by anything
pub guid_read_written : (g : Guid) → GuidFits g → (t : List ℕ) → guid_at (guid_bytes g ++ t) ≡ g
unfolding guid_at guid_bytes
guid_read_written g h t =
    let x = bytes 8 g.low in
    let y = bytes 8 g.high in
    let a : take 8 ((x ++ y) ++ t) ≡ x = rw append_assoc (take_at x (y ++ t) 8 (length_bytes 8 g.low)) in
    let b : drop 8 ((x ++ y) ++ t) ≡ y ++ t = rw append_assoc (drop_at x (y ++ t) 8 (length_bytes 8 g.low)) in
    rw (a, b, take_at y t 8 (length_bytes 8 g.high), le_bytes 8 g.low h.0, le_bytes 8 g.high h.1)

-- eight bytes that are there are written as they were
eight_back : (s : List ℕ) → AllBytes s → 8 ≤ length s → bytes 8 (le (take 8 s)) ≡ take 8 s
eight_back s b h = rw (length-take-le 8 s h) at (bytes_le (take 8 s) (take_bytes 8 s b))

-- what is read is what is written for it
pub guid_written_read : (s : List ℕ) → AllBytes s → 16 ≤ length s → guid_bytes (guid_at s) ≡ take 16 s
unfolding guid_at guid_bytes
guid_written_read s b h =
    rw (eight_back s b (omega arith), eight_back (drop 8 s) (drop_bytes 8 s b) (simp length-drop (omega arith))) (sym (take-add 8 8 s))

-- what is read fits
pub guid_at_fits : (s : List ℕ) → AllBytes s → GuidFits (guid_at s)
unfolding guid_at
guid_at_fits s b = (
  le_lt 8 (take 8 s) (simp length-take (omega arith)) (take_bytes 8 s b),
  le_lt 8 (take 8 (drop 8 s)) (simp length-take (omega arith)) (take_bytes 8 (drop 8 s) (drop_bytes 8 s b)),
)

-- ---- byte 128, the GUID, and a number of n bytes

pub length_tagged : (n : ℕ) (g : Guid) (x : ℕ) → length (tagged_bytes n g x) ≡ n + 17
unfolding tagged_bytes
length_tagged n g x = simp (length-append, length_bytes, length_guid) (omega arith)

-- as the code writes it
pub tagged_put : (d : List ℕ) (n : ℕ) (g : Guid) (x : ℕ) → 17 ≤ length d
    → take 17 (take 1 (set d 0 128) ++ (guid_bytes g ++ drop 16 (drop 1 (set d 0 128))))
    ++ (bytes n x ++ drop n (drop 17 (take 1 (set d 0 128) ++ (guid_bytes g ++ drop 16 (drop 1 (set d 0 128))))))
    ≡ tagged_bytes n g x ++ drop n (drop 17 d)
unfolding tagged_bytes
tagged_put [] n g x h = absurd (omega arith)
tagged_put (y ∷ d) n g x h = laid_behind (128 ∷ guid_bytes g) (bytes n x) (drop 16 d) 17 n (ap suc (length_guid g))

-- its parts, followed by anything
pub tagged_parts : (n : ℕ) (g : Guid) (x : ℕ) (t : List ℕ) → GuidFits g → x < 256 ^ n
    → (guid_at (drop 1 (tagged_bytes n g x ++ t)) ≡ g) × (le (take n (drop 17 (tagged_bytes n g x ++ t))) ≡ x)
unfolding tagged_bytes
tagged_parts n g x t f b =
    let s = (128 ∷ (guid_bytes g ++ bytes n x)) ++ t in
    let e : drop 1 s ≡ guid_bytes g ++ (bytes n x ++ t) = append_assoc (guid_bytes g) (bytes n x) t in
    let d : drop 17 s ≡ bytes n x ++ t = sym (drop-drop 16 1 s) ∙ ap (drop 16) e ∙ drop_at (guid_bytes g) (bytes n x ++ t) 16 (length_guid g) in
    (rw e (guid_read_written g f (bytes n x ++ t)), rw (d, take_at (bytes n x) t n (length_bytes n x)) (le_bytes n x b))

-- bytes that begin so are what is written for their parts
pub tagged_same : (n : ℕ) (s : List ℕ) → AllBytes s → get_or s 0 0 ≡ 128 → n + 17 ≤ length s
    → (take (n + 17) s ≡ tagged_bytes n (guid_at (drop 1 s)) (le (take n (drop 17 s))))
    × (GuidFits (guid_at (drop 1 s)) × (le (take n (drop 17 s)) < 256 ^ n))
unfolding tagged_bytes
tagged_same n [] b e h = absurd (omega arith)
tagged_same n (c ∷ s) b e h =
    let bs : AllBytes s = λ j. b (suc j) in
    let m = drop 16 s in
    let bm : AllBytes (take n m) = take_bytes n m (drop_bytes 16 s bs) in
    let f : n ≤ length m = simp length-drop (omega arith) in
    let y : bytes n (le (take n m)) ≡ take n m = rw (length-take-le n m f) at (bytes_le (take n m) bm) in
    let k : n + 17 ≡ suc (16 + n) = omega arith in (
      rw (guid_written_read s bs (omega arith), y, e, k) (ap (λ (l : List ℕ). 128 ∷ l) (take-add 16 n s)),
      (guid_at_fits s bs, le_lt n (take n m) (simp length-take (omega arith)) bm),
    )

-- ---- the order

half_order : (x y : ℕ) → before (bytes 8 x) (bytes 8 y) ≡ ltb (swapped x) (swapped y)
unfolding swapped
half_order x y =
    before_be (bytes 8 x) (bytes 8 y) (bytes_bytes 8 x) (bytes_bytes 8 y) (length_bytes 8 x ∙ sym (length_bytes 8 y))

-- the sixteen bytes stand in order as two numbers do, the first halves' first
pub guid_order : (a b : Guid) → guid_before a b
    ≡ pick (ltb (swapped a.low) (swapped b.low)) true
    (pick (ltb (swapped b.low) (swapped a.low)) false (ltb (swapped a.high) (swapped b.high)))
unfolding guid_before guid_bytes
guid_order a b =
    rw (← half_order a.low b.low, ← half_order b.low a.low, ← half_order a.high b.high)
    (before_append (bytes 8 a.low) (bytes 8 b.low) (bytes 8 a.high) (bytes 8 b.high) (length_bytes 8 a.low ∙ sym (length_bytes 8 b.low)))

-- each byte at its place from the other end
pub swapped_is : (x : ℕ)
    → swapped x
    ≡ x % 256 * 72057594037927936 + x / 256 % 256 * 281474976710656 + x / 65536 % 256 * 1099511627776 + x / 16777216 % 256 * 4294967296
    + x / 4294967296 % 256 * 16777216 + x / 1099511627776 % 256 * 65536 + x / 281474976710656 % 256 * 256 + x / 72057594037927936 % 256
unfolding swapped bytes be
swapped_is x =
    rw (
      div-div-eq-div-mul x 256 256,
      div-div-eq-div-mul x 65536 256,
      div-div-eq-div-mul x 16777216 256,
      div-div-eq-div-mul x 4294967296 256,
      div-div-eq-div-mul x 1099511627776 256,
      div-div-eq-div-mul x 281474976710656 256,
    ) (omega arith)

-- ---- swapped twice is as it was

-- eight bytes the highest first are these bytes the other way round, the lowest first
be_is_le : (a b c d e f g h : ℕ) → be (a ∷ b ∷ c ∷ d ∷ e ∷ f ∷ g ∷ h ∷ []) ≡ le (h ∷ g ∷ f ∷ e ∷ d ∷ c ∷ b ∷ a ∷ [])
unfolding be le
be_is_le a b c d e f g h = omega arith

turned_bytes : (a b c d e f g h : ℕ) → AllBytes (a ∷ b ∷ c ∷ d ∷ e ∷ f ∷ g ∷ h ∷ []) → AllBytes (h ∷ g ∷ f ∷ e ∷ d ∷ c ∷ b ∷ a ∷ [])
turned_bytes a b c d e f g h k zero = k 7
turned_bytes a b c d e f g h k (suc zero) = k 6
turned_bytes a b c d e f g h k (suc (suc zero)) = k 5
turned_bytes a b c d e f g h k (suc (suc (suc zero))) = k 4
turned_bytes a b c d e f g h k (suc (suc (suc (suc zero)))) = k 3
turned_bytes a b c d e f g h k (suc (suc (suc (suc (suc zero))))) = k 2
turned_bytes a b c d e f g h k (suc (suc (suc (suc (suc (suc zero)))))) = k 1
turned_bytes a b c d e f g h k (suc (suc (suc (suc (suc (suc (suc zero))))))) = k 0
turned_bytes a b c d e f g h k (suc (suc (suc (suc (suc (suc (suc (suc i)))))))) = k (suc (suc (suc (suc (suc (suc (suc (suc i))))))))

turned_back : (a b c d e f g h : ℕ) → AllBytes (a ∷ b ∷ c ∷ d ∷ e ∷ f ∷ g ∷ h ∷ [])
    → be (bytes 8 (be (a ∷ b ∷ c ∷ d ∷ e ∷ f ∷ g ∷ h ∷ []))) ≡ le (a ∷ b ∷ c ∷ d ∷ e ∷ f ∷ g ∷ h ∷ [])
turned_back a b c d e f g h k =
    rw (be_is_le a b c d e f g h, bytes_le (h ∷ g ∷ f ∷ e ∷ d ∷ c ∷ b ∷ a ∷ []) (turned_bytes a b c d e f g h k)) (be_is_le h g f e d c b a)

pub swapped_back : (x : ℕ) → x < 2 ^ 64 → swapped (swapped x) ≡ x
unfolding swapped bytes
swapped_back x h = turned_back _ _ _ _ _ _ _ _ (bytes_bytes 8 x) ∙ le_bytes 8 x h

pub swapped_fits : (x : ℕ) → swapped x < 2 ^ 64
unfolding swapped
swapped_fits x = rw length_bytes at (be_lt (bytes 8 x) (bytes_bytes 8 x))
