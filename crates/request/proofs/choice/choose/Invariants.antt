-- `choice::choose` meets its contract. The invariant: what is told is what the filters still to come set.
-- Assumes nothing.
use Rattle.store.specs.Elements.{elements_of}
use Rattle.request.specs.Meaning.{filters_read}
use Rattle.request.proofs.Putting.{Putting}
use Rattle.request.proofs.Choosing.{set_by_all}
use Rattle.request.proofs.choice.choose.Given as goal

abbrev pub invariant-loop : goal.invariant-loop
invariant-loop l = let all = elements_of l.all in Putting l.s all l.count (set_by_all (filters_read l.count l.s l.initial.at) all l.initial.flags) l.flags l.at l.counter
