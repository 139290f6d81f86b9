-- `header_write::write_lengthened` meets its contract: four bytes, and the compact integer behind them.
-- Assumes nothing.
use mathlib.Core.Path.{◌≡◌, ◌∙◌}
use Prim.Native.Nat.{◌+◌, ◌≤◌}
use mathlib.Core.List.{◌++◌}
use lib.ListN.{length, drop, length-append, length-drop}
use lib.Seq.{drop-drop, drop_at}
use native.Mathlib.Omega.{arith}
use Rattle.laws.specs.Bytes.{bytes}
use Rattle.laws.proofs.Numbers.{length_bytes}
use Rattle.laws.proofs.Parts.{tail_part, mid_tail}
use Rattle.laws.proofs.Placing.{placed_fits, laid_behind}
use Rattle.numbers.specs.Compact.{compact_bytes}
use Rattle.numbers.proofs.Calls.{wrote_short, wrote_done}
use Rattle.objects.proofs.header_write.write_lengthened.Goals as goal

pub returns-then-out-needed : goal.returns-then-out-needed
returns-then-out-needed c = let a = c.args in
    let w = bytes 4 a.x ++ compact_bytes a.n in
    let m = 4 + c.compact_length-needed.result in
    let e : length w ≡ m = simp (length-append, length_bytes) (omega arith) in
    rw c.too_short.ensures (wrote_short w a.out.now m e c.if-out-needed.true)

pub returns : goal.returns
returns c = let a = c.args in
    let b = bytes 4 a.x in
    let v = compact_bytes a.n in
    let m = 4 + c.compact_length-needed.result in
    let d = c.put_le.new.out in
    let n : 4 + length v ≡ m = omega arith in
    let e : length (b ++ v) ≡ m = simp (length-append, length_bytes) n in
    let l : length v ≤ length (drop 4 d) = rw (c.put_le.ensures, drop_at b (drop 4 a.out.now) 4 (length_bytes 4 a.x), length-drop) (omega arith) in
    let f : c.write_compact.new.out ≡ v ++ drop (length v) (drop 4 d) =
    rw tail_part at c.write_compact.ensures.1 ∙ placed_fits v (drop 4 d) l in
    wrote_done (b ++ v) a.out.now _ m e c.if-out-needed.false
    (rw (mid_tail, f, c.put_le.ensures)
    (laid_behind b v (drop 4 a.out.now) 4 (length v) (length_bytes 4 a.x) ∙ rw (drop-drop (length v) 4 a.out.now, n)))
