-- `choice::Index::set_id` meets its contract: by what stands there.
-- Assumes nothing.
use mathlib.Core.Path.{◌∙◌}
use Rattle.request.specs.Meaning.{key_in}
use Rattle.request.proofs.Putting.{no_id, one_id}
use Rattle.request.proofs.choice.Index.set_id.Goals as goal

pub returns-in-Err : goal.returns-in-Err
unfolding key_in
returns-in-Err c = rw c.in-Err.is (no_id _ _ _)

pub returns-in-None : goal.returns-in-None
unfolding key_in
returns-in-None c = rw (c.in-Ok.is, c.in-None.is) (no_id _ _ _)

pub returns-in-Some : goal.returns-in-Some
unfolding key_in
returns-in-Some c = rw (c.in-Ok.is, c.in-Some.is) (rw c.key_of.ensures at (c.set_key.ensures ∙ one_id _ _ _ _))
