-- `choice::Index::set_with_ids` meets its contract. The invariant: what is told is what the ids still to come set, and they are read
-- from here.
-- Assumes nothing.
use Rattle.request.specs.Meaning.{keys_in}
use Rattle.request.specs.Choice.{set_flags, with_ids}
use Rattle.store.specs.Elements.{elements_of}
use Rattle.request.proofs.Putting.{SettingIds}
use Rattle.request.proofs.choice.Index.set_with_ids.Given as goal

abbrev pub invariant-loop-i : goal.invariant-loop-i
invariant-loop-i l = let all = elements_of l.self.all in SettingIds l.d l.to all l.count (set_flags (with_ids (keys_in l.d)) l.to all l.initial.flags) l.flags l.at l.i
