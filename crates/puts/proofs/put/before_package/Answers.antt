-- `put::before_package` meets its contract.
-- Assumes nothing.
use Rattle.puts.specs.Put.{before_package}
use Rattle.puts.proofs.put.before_package.Goals as goal

pub returns : goal.returns
unfolding before_package
returns c = rw (c.end.ensures, c.optional_bytes.ensures, c.client_knowledge-behind_knowledge.ensures, c.optional_bytes-behind_lock.ensures, c.additional_flags.ensures)
