-- `apply::answer_length` meets its contract.
-- Assumes nothing.
use native.Mathlib.Omega.{arith}
use Rattle.ranges.specs.RangeTable.{ranges_at}
use Rattle.puts.proofs.NewLengths.{length_put_answer}
use Rattle.puts.proofs.apply.answer_length.Goals as goal

pub returns : goal.returns
returns c = let a = c.args in
    let e = length_put_answer a.id (ranges_at a.table.now 0 a.held) in
    let d = c.compact_length.ensures.0 in
    let k = c.knowledge_length.ensures.0 in
    omega arith
