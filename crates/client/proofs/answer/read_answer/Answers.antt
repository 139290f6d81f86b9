-- `answer::read_answer` meets its contract.
-- Assumes nothing.
use mathlib.Core.Path.{ap}
use Rattle.client.specs.Read.{tell_read_answer}
use Rattle.client.proofs.answer.read_answer.Goals as goal

pub returns : goal.returns
returns c = ap tell_read_answer c.read_rows.ensures.0
