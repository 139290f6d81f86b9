-- `sharing::serials_once` meets its contract.
-- Assumes nothing.
use mathlib.Core.Path.{sym}
use Rattle.store.proofs.SharedSerials.{few_once}
use Rattle.store.proofs.sharing.serials_once.Goals as goal

pub returns-then-n-lt2 : goal.returns-then-n-lt2
returns-then-n-lt2 c = sym (few_once _ _ c.if-n-lt2.true)
