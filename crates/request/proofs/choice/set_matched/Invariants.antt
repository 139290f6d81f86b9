-- `choice::set_matched` meets its contract. The invariant: the flags that are told are those set from here on.
-- Assumes nothing.
use Rattle.request.specs.Choice.{set_flags, matched_by}
use Rattle.store.specs.Elements.{elements_of}
use Rattle.request.proofs.Setting.{Setting}
use Rattle.request.proofs.choice.set_matched.Given as goal

abbrev pub invariant-loop-i : goal.invariant-loop-i
invariant-loop-i l = Setting (matched_by l.m) l.to l.all.rows.now l.all.ids.now l.all.count (set_flags (matched_by l.m) l.to (elements_of l.all) l.initial.flags) l.flags l.i
