-- `apply::apply_put` meets its contract.
-- Assumes nothing.
use mathlib.Core.List.{[]}
use Rattle.puts.specs.Applied.{on_put}
use Rattle.puts.proofs.Outcomes.{refused_gives}
use Rattle.puts.proofs.PutWhole.{over_long_put}
use Rattle.puts.proofs.apply.apply_put.Goals as goal

pub returns-then-request-gt-LONGEST_INPUT : goal.returns-then-request-gt-LONGEST_INPUT
unfolding on_put
returns-then-request-gt-LONGEST_INPUT c = let a = c.args in
    rw (c.in_request.ensures, c.over_long.ensures, ← (over_long_put a.request.now [] [] c.if-request-gt-LONGEST_INPUT.true).0)
    (refused_gives _ a.newstore.now a.out.now)
