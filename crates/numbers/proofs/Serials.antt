-- Serial numbers: what was written reads back, followed by anything, and what is read is what is written for it.
-- Assumes nothing.
use mathlib.Core.Path.{◌≡◌, refl, ◌∙◌}
use mathlib.Core.Logic.{◌≢◌}
use mathlib.Core.List.{List, [], ◌∷◌, ◌++◌}
use Prim.Native.Nat.{ℕ, suc, ◌^◌, ◌≤◌, ◌<◌}
use native.Mathlib.Omega.{arith}
use lib.ListN.{length, get_or, take, drop, length-append}
use borrow.Author.Tests.{lt-ltb, le-ltb, eq-eqb, ne_eqb}
use Rattle.laws.specs.Bytes.{AllBytes, le, bytes}
use Rattle.laws.proofs.Cases.{by_lt, by_eq, impossible}
use Rattle.numbers.specs.Refusals.{fault}
use Rattle.numbers.specs.Guid.{guid_at, guid_bytes, tagged_bytes, GuidFits}
use Rattle.numbers.specs.Serial.{numbered, read_serial, serial_bytes, SerialFits}
use Rattle.numbers.specs.declared.guid.Guid.{Guid}
use Rattle.numbers.specs.Results.Serial.{Null, Numbered, Serial}
use Rattle.numbers.specs.Results.ReadSerial.{Refused, Value}
use Rattle.numbers.proofs.Guids.{tagged_parts, tagged_same, length_tagged}

-- ---- what was written reads back

null_back : (t : List ℕ) → read_serial ((0 ∷ []) ++ t) ≡ Value Null 1
unfolding read_serial
null_back t = rw (ne_eqb (suc (length t)) 0 (omega arith))

numbered_back : (g : Guid) (x : ℕ) (t : List ℕ) → GuidFits g → x < 2 ^ 64 → numbered (tagged_bytes 8 g x ++ t) ≡ Value (Numbered g x) 25
unfolding numbered
numbered_back g x t f b =
    let p = tagged_parts 8 g x t f b in
    let h : 25 ≤ length (tagged_bytes 8 g x ++ t) = simp (length-append, length_tagged) (omega arith) in
    rw (le-ltb _ _ h, p.0, p.1)

tagged_back : (g : Guid) (x : ℕ) (t : List ℕ) → numbered (tagged_bytes 8 g x ++ t) ≡ Value (Numbered g x) 25
    → read_serial (tagged_bytes 8 g x ++ t) ≡ Value (Numbered g x) 25
unfolding read_serial tagged_bytes
tagged_back g x t r = rw (ne_eqb (suc (length ((guid_bytes g ++ bytes 8 x) ++ t))) 0 (omega arith)) r

pub serial_read_written : (i : Serial) → SerialFits i → (t : List ℕ) → read_serial (serial_bytes i ++ t) ≡ Value i (length (serial_bytes i))
unfolding serial_bytes
serial_read_written Null f t = null_back t
serial_read_written (Numbered g x) f t = tagged_back g x t (numbered_back g x t f.0 f.1) ∙ rw (length_tagged 8 g x)

-- ---- what is read is what is written for it

numbered_same : (s : List ℕ) (i : Serial) (u : ℕ) → AllBytes s → get_or s 0 0 ≡ 128 → numbered s ≡ Value i u → (take u s ≡ serial_bytes i) × SerialFits i
unfolding numbered serial_bytes
numbered_same s i u b e r =
    by_lt (length s) 25
    (λ h. let z : Refused (fault 2) ≡ Value i u = rw (lt-ltb _ _ h) at r in impossible (cc))
    (λ h.
    let z : Value (Numbered (guid_at (drop 1 s)) (le (take 8 (drop 17 s)))) 25 ≡ Value i u = rw (le-ltb _ _ h) at r in
    let ei : i ≡ Numbered (guid_at (drop 1 s)) (le (take 8 (drop 17 s))) = grind arith in
    let eu : u ≡ 25 = grind arith in
    rw (ei, eu) (tagged_same 8 s b e h))

pub serial_written_read : (s : List ℕ) (i : Serial) (u : ℕ) → AllBytes s → read_serial s ≡ Value i u → (take u s ≡ serial_bytes i) × SerialFits i
unfolding read_serial serial_bytes
serial_written_read [] i u b r = impossible (cc)
serial_written_read (c ∷ s) i u b r =
    let n : suc (length s) ≢ 0 = omega arith in
    by_eq c 0
    (λ e.
    let x : Value Null 1 ≡ Value i u = rw (ne_eqb _ _ n, eq-eqb c 0 e) at r in
    let ei : i ≡ Null = grind arith in
    let eu : u ≡ 1 = grind arith in
    rw (ei, eu, e) (refl, tt))
    (λ z.
    by_eq c 128
    (λ e. numbered_same (c ∷ s) i u b e (rw (ne_eqb _ _ n, ne_eqb c 0 z, eq-eqb c 128 e) at r))
    (λ e.
    let x : Refused (fault 3) ≡ Value i u = rw (ne_eqb _ _ n, ne_eqb c 0 z, ne_eqb c 128 e) at r in
    impossible (cc)))
