-- `knowledge::unite` meets its contract.
-- Assumes nothing.
use mathlib.Core.Path.{◌∙◌}
use native.Mathlib.Omega.{arith}
use Rattle.std.proofs.Common.{rules}
use Rattle.store.specs.Knowledge.{united}
use Rattle.store.proofs.Uniting.{added_fits, none_added}
use Rattle.store.proofs.knowledge.unite.Goals as goal

pub returns-in_default : goal.returns-in_default
unfolding united
returns-in_default c = rw c.in_default.is (none_added c.args.table.now c.args.rows (omega arith))

pub returns-in-None : goal.returns-in-None
unfolding united
returns-in-None c = rw (c.in-Ok.is, c.in-None.is) (none_added c.args.table.now c.args.rows (omega arith))

pub returns-in-Some : goal.returns-in-Some
unfolding united
returns-in-Some c = let f = added_fits c.args.table.now c.args.rows c.in-Some.x (omega arith) in
    rw (c.in-Ok.is, c.in-Some.is) (search (rules, c.unwrap_or.ensures, c.add_range.ensures.0, f.0), c.add_range.ensures.1 ∙ f.1)
