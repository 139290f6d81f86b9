-- The numbers of elements in a table, one behind the other: how many there are, one element more, and the keys among them.
-- Each law is over the width of a row.
-- Assumes nothing.
use mathlib.Core.Path.{◌≡◌, refl, sym, ap, ap₂, ◌∙◌}
use mathlib.Core.Bool.{Bool, true, false, ◌&&◌}
use mathlib.Core.List.{List, [], ◌∷◌, ◌++◌, map, append_assoc, append-nil}
use Prim.Native.Nat.{ℕ, zero, suc, ◌+◌, ◌-◌, ◌*◌, ◌%◌, ◌≤◌, ◌<◌}
use native.Mathlib.Nat.{suc-mul, zero-mul, mul-le-mul_right, mod-lt}
use native.Mathlib.Numerals.{add-one}
use native.Mathlib.Omega.{arith}
use lib.ListN.{length, take, drop, length-append}
use lib.Seq.{take_at, drop_at, drop-drop}
use lib.Dec.{eqb}
use borrow.Author.Tests.{eq-eqb, ne_eqb, eqb-true}
use Rattle.laws.specs.Once.{seen}
use Rattle.laws.specs.Pick.{pick}
use Rattle.laws.proofs.Cases.{by_eq, impossible}
use Rattle.store.specs.Element.{same_key}
use Rattle.store.specs.Tables.{key_at, keys_at, mark_of, flat}
use Rattle.store.specs.declared.element.Key.{Key}
use Rattle.store.specs.declared.element.Element.{Element}

module _ (row : Element → List ℕ) (width : ℕ) (wide : (x : Element) → length (row x) ≡ width) where
  pub length_flat : (done : List Element) → length (flat row done) ≡ length done * width
  unfolding flat
  length_flat [] = sym (zero-mul width)
  length_flat (x ∷ done) = length-append (row x) (flat row done) ∙ (let a = wide x in let b = length_flat done in omega (arith, suc-mul (length done) width))

  -- one element more
  pub flat_more : (done : List Element) (x : Element) → flat row (done ++ (x ∷ [])) ≡ flat row done ++ row x
  unfolding flat
  flat_more [] x = append-nil (row x)
  flat_more (y ∷ done) x = ap (λ (l : List ℕ). row y ++ l) (flat_more done x) ∙ sym (append_assoc (row y) (flat row done) (row x))

  -- as it is put into a table that holds the others
  pub put_more : (done : List Element) (x : Element) (t u : List ℕ) (n : ℕ) → length done ≡ n → t ≡ flat row done ++ drop (n * width) u
      → take (n * width) t ++ (row x ++ drop (n * width + width) t) ≡ flat row (done ++ (x ∷ [])) ++ drop (suc n * width) u
  put_more done x t u n e h =
      let l : length (flat row done) ≡ n * width = length_flat done ∙ ap (λ (m : ℕ). m * width) e in
      let a : take (n * width) t ≡ flat row done = ap (take (n * width)) h ∙ take_at (flat row done) (drop (n * width) u) (n * width) l in
      let b : drop (n * width) t ≡ drop (n * width) u = ap (drop (n * width)) h ∙ drop_at (flat row done) (drop (n * width) u) (n * width) l in
      let c : drop (n * width + width) t ≡ drop (suc n * width) u =
      sym (drop-drop width (n * width) t) ∙ ap (drop width) b ∙ drop-drop width (n * width) u ∙ ap (λ (m : ℕ). drop m u) (sym (suc-mul n width)) in
      rw (a, c, flat_more done x) (sym (append_assoc (flat row done) (row x) (drop (suc n * width) u)))

  -- the keys that stand at an offset of each row
  module _ (key : Element → Key) (offset : ℕ) (stands : (x : Element) (pre t : List ℕ) → key_at (pre ++ (row x ++ t)) (length pre + offset) ≡ key x) where
    keys_behind : (pre : List ℕ) (done : List Element) (t : List ℕ)
        → keys_at (pre ++ (flat row done ++ t)) (length pre + offset) width (length done) ≡ map key done
    unfolding keys_at flat
    keys_behind pre [] t = refl
    keys_behind pre (x ∷ done) t =
        let e : pre ++ ((row x ++ flat row done) ++ t) ≡ pre ++ (row x ++ (flat row done ++ t)) = ap (λ (l : List ℕ). pre ++ l) (append_assoc (row x) (flat row done) t) in
        let f : pre ++ (row x ++ (flat row done ++ t)) ≡ (pre ++ row x) ++ (flat row done ++ t) = sym (append_assoc pre (row x) (flat row done ++ t)) in
        let n : length pre + offset + width ≡ length (pre ++ row x) + offset = let a = length-append pre (row x) in let b = wide x in omega arith in
        let k : key_at (pre ++ (row x ++ (flat row done ++ t))) (length pre + offset) ≡ key x = stands x pre (flat row done ++ t) in
        let r : keys_at ((pre ++ row x) ++ (flat row done ++ t)) (length (pre ++ row x) + offset) width (length done) ≡ map key done =
        keys_behind (pre ++ row x) done t in
        ap₂ (λ (y : Key) (ys : List Key). y ∷ ys)
        (ap (λ (l : List ℕ). key_at l (length pre + offset)) e ∙ k)
        (ap (λ (l : List ℕ). keys_at l (length pre + offset + width) width (length done)) (e ∙ f)
        ∙ (ap (λ (m : ℕ). keys_at ((pre ++ row x) ++ (flat row done ++ t)) m width (length done)) n ∙ r))

    pub keys_flat : (done : List Element) (t : List ℕ) → keys_at (flat row done ++ t) offset width (length done) ≡ map key done
    keys_flat done t = rw (let z : 0 + offset ≡ offset = omega arith in z) at (keys_behind [] done t)

-- ---- the search among keys

pub keys_turn : (t : List ℕ) (width offset i n : ℕ) → i < n
    → keys_at t (i * width + offset) width (n - i) ≡ key_at t (i * width + offset) ∷ keys_at t ((i + 1) * width + offset) width (n - (i + 1))
unfolding keys_at
keys_turn t width offset i n h =
    let e : n - i ≡ suc (n - (i + 1)) = omega arith in
    let f : i * width + offset + width ≡ (i + 1) * width + offset = rw add-one (omega (arith, suc-mul i width)) in
    rw e (ap (λ (m : ℕ). key_at t (i * width + offset) ∷ keys_at t m width (n - (i + 1))) f)

pub keys_end : (t : List ℕ) (width offset i n : ℕ) → n ≤ i → keys_at t (i * width + offset) width (n - i) ≡ []
unfolding keys_at
keys_end t width offset i n h = let e : n - i ≡ 0 = omega arith in rw e

pub keys_front : (t : List ℕ) (width offset n : ℕ) → keys_at t offset width n ≡ keys_at t (0 * width + offset) width (n - 0)
keys_front t width offset n =
    let e : 0 * width + offset ≡ offset = omega (arith, zero-mul width) in
    let f : n - 0 ≡ n = omega arith in
    rw (e, f)

-- the keys of the rows before row i, and then those from it on
keys_join : (t : List ℕ) (width at m n : ℕ) → keys_at t at width (m + n) ≡ keys_at t at width m ++ keys_at t (m * width + at) width n
unfolding keys_at
keys_join t width at zero n =
    let e : 0 + n ≡ n = omega arith in let f : 0 * width + at ≡ at = omega (arith, zero-mul width) in rw (e, f)
keys_join t width at (suc m) n =
    let e : suc m + n ≡ suc (m + n) = omega arith in
    let f : m * width + (at + width) ≡ suc m * width + at = omega (arith, suc-mul m width) in
    rw (e, ← f) (ap (λ (k : List Key). key_at t at ∷ k) (keys_join t width (at + width) m n))

pub keys_split : (t : List ℕ) (width offset i n : ℕ) → i ≤ n
    → keys_at t offset width n ≡ keys_at t offset width i ++ keys_at t (i * width + offset) width (n - i)
keys_split t width offset i n h =
    let e : n ≡ i + (n - i) = omega arith in ap (keys_at t offset width) e ∙ keys_join t width offset i (n - i)

-- one row more
pub keys_more : (t : List ℕ) (width offset i : ℕ) → keys_at t offset width (i + 1) ≡ keys_at t offset width i ++ (key_at t (i * width + offset) ∷ [])
unfolding keys_at
keys_more t width offset i = keys_join t width offset i 1

-- a key within its row, and its row within the table
pub key_room : (i n width offset size : ℕ) → i < n → offset + 3 ≤ width → n * width ≤ size → i * width + offset + 3 ≤ size
key_room i n width offset size h o s = omega (arith, mul-le-mul_right width h, suc-mul i width)

-- the derived test of two keys is `same_key`
and_pick : (x y : Bool) → (x && y) ≡ pick x y false
and_pick true y = refl
and_pick false y = refl

pub same_fields : (a b : Key) → (eqb a.low b.low && (eqb a.high b.high && eqb a.number b.number)) ≡ same_key a b
unfolding same_key
same_fields a b = simp and_pick

-- equal keys are equal in each number
pub same_numbers : (a b : Key) → same_key a b ≡ true → (a.low ≡ b.low) × (a.high ≡ b.high) × (a.number ≡ b.number)
unfolding same_key
same_numbers a b e =
    by_eq a.low b.low
    (λ l.
    by_eq a.high b.high
    (λ h.
    let z : eqb a.number b.number ≡ true = rw (eq-eqb _ _ l, eq-eqb _ _ h) at e in
    (l, h, eqb-true a.number b.number z))
    (λ h. let z : false ≡ true = rw (eq-eqb _ _ l, ne_eqb _ _ h) at e in impossible (cc)))
    (λ l. let z : false ≡ true = rw (ne_eqb _ _ l) at e in impossible (cc))

pub same_equal : (a b : Key) → same_key a b ≡ true → a ≡ b
same_equal a b e = let n = same_numbers a b e in λ i. record { low = n.0 i; high = n.1 i; number = n.2 i }

-- a key is the same as itself
pub same_itself : (k : Key) → same_key k k ≡ true
unfolding same_key
same_itself k = rw (eq-eqb k.low k.low refl, eq-eqb k.high k.high refl, eq-eqb k.number k.number refl)

-- equal keys have equal marks, and every mark is one of so many
pub same_mark : (width : ℕ) (a b : Key) → same_key a b ≡ true → mark_of width a ≡ mark_of width b
unfolding mark_of
same_mark width a b e = let n = same_numbers a b e in rw (n.0, n.2)

pub mark_lt : (width : ℕ) (k : Key) → 0 < width → mark_of width k < width
unfolding mark_of
mark_lt width k h = mod-lt (k.number % width + k.low % width) h

pub seen_first : (k x : Key) (l : List Key) → same_key k x ≡ true → seen same_key k (x ∷ l) ≡ true
unfolding seen
seen_first k x l e = rw e

pub seen_later : (k x : Key) (l : List Key) → same_key k x ≡ false → seen same_key k (x ∷ l) ≡ seen same_key k l
unfolding seen
seen_later k x l e = rw e

pub seen_none : (k : Key) → seen same_key k [] ≡ false
unfolding seen
seen_none k = refl
