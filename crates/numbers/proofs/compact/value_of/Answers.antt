-- `compact::value_of` meets its contract: only the long form has a byte behind k + 1 of them.
-- Assumes nothing.
use mathlib.Core.Path.{◌≡◌, ap, ap₂, ◌∙◌}
use mathlib.Core.List.{List}
use Prim.Native.Nat.{ℕ, ◌+◌, ◌-◌, ◌*◌, ◌/◌, ◌%◌, ◌^◌, ◌≤◌}
use native.Mathlib.Omega.{arith}
use lib.ListN.{length, take, drop, length-drop}
use Rattle.laws.specs.Bytes.{AllBytes, le}
use Rattle.laws.proofs.Parts.{tail_part}
use Rattle.numbers.specs.Compact.{compact_value}
use Rattle.numbers.proofs.Forms.{size_le, size_over, value_parts, value_fits}
use Rattle.numbers.proofs.compact.value_of.Goals as goal
use Rattle.numbers.proofs.compact.value_of.Goals.{After-read_le-ninth, Start}

-- k + 1 bytes are there
there : (c : Start) → (c.args.k + 1 ≤ c.args.n) × (c.args.k + 1 ≤ length c.args.s.now)
there c =
    let h : c.args.k + 1 ≤ c.args.n = omega (arith, size_over c.args.k, c.requires.1) in
    (h, omega (arith, h, c.requires.2))

pub read_le-requires : goal.read_le-requires
read_le-requires c = (omega (arith, c.requires.0), (there (goal.at.read_le-requires c).Start).1)

pub slice_bounds-read_le-count : goal.slice_bounds-read_le-count
slice_bounds-read_le-count c = (there (goal.at.slice_bounds-read_le-count c).Start).1

pub slice_bounds-read_le-start : goal.slice_bounds-read_le-start
slice_bounds-read_le-start c = (there (goal.at.slice_bounds-read_le-start c).Start).1

pub overflow_sub-n : goal.overflow_sub-n
overflow_sub-n c = (there (goal.at.overflow_sub-n c).Start).0

pub read_le-ninth-requires : goal.read_le-ninth-requires
read_le-ninth-requires c = simp (tail_part, length-drop) (omega (arith, size_le c.args.k c.requires.0, c.requires.1), omega (arith, c.requires.2, there (goal.at.read_le-ninth-requires c).Start))

-- every element of the slice is a byte
in_bytes : (c : After-read_le-ninth) → AllBytes c.args.s.now
in_bytes c i = (c.type_inv.s i).fits

-- the sum is the value
value : (c : After-read_le-ninth)
    → c.read_le.result / 2 ^ (c.args.k + 1) + (c.read_le-ninth.result * 2 ^ 56) % 2 ^ 64
    ≡ compact_value c.args.k c.args.s.now
value c =
    let a = c.args in
    let e : c.read_le-ninth.result ≡ le (take (a.n - (a.k + 1)) (drop (a.k + 1) a.s.now)) =
    c.read_le-ninth.ensures ∙ ap (λ (l : List ℕ). le (take (a.n - (a.k + 1)) l)) (tail_part (a.k + 1) a.s.now) in
    ap₂ (λ (x y : ℕ). x / 2 ^ (a.k + 1) + (y * 2 ^ 56) % 2 ^ 64) c.read_le.ensures e
    ∙ value_parts a.k a.n a.s.now (in_bytes c) c.requires.0 c.requires.1

pub overflow_add-result : goal.overflow_add-result
overflow_add-result c = omega (arith, value c, value_fits c.args.k c.args.s.now (in_bytes c) (omega (arith, c.requires.0)))

pub returns : goal.returns
returns c = value c
