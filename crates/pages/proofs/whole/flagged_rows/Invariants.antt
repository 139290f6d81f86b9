-- `whole::flagged_rows` meets its contract. The invariant is `Gathering`.
-- Assumes nothing.
use Rattle.pages.proofs.Gathering.{Gathering}
use Rattle.pages.proofs.whole.flagged_rows.Given as goal

abbrev pub invariant-loop-i : goal.invariant-loop-i
invariant-loop-i l = Gathering l.weights.all.rows.now l.weights.all.ids.now l.weights.all.count l.weights.lengths.now l.weights.column l.flags l.queue l.count l.stored l.i
