-- `index_numbers` meets its contract.
-- Assumes nothing.
use Rattle.client.specs.Read.{id_numbers}
use Rattle.hub.proofs.index_numbers.Goals as goal

pub returns-in-None : goal.returns-in-None
unfolding id_numbers
returns-in-None c = rw c.in-None.is

pub returns-in-Some : goal.returns-in-Some
unfolding id_numbers
returns-in-Some c = rw c.in-Some.is
