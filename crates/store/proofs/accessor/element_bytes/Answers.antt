-- `accessor::element_bytes` meets its contract.
-- Assumes nothing.
use mathlib.Core.Path.{◌≡◌}
use Rattle.store.specs.Accessor.{found_in, element_bytes}
use Rattle.store.proofs.Found.{part_found}
use Rattle.store.proofs.OneAnswers.{found_telling}
use Rattle.store.proofs.accessor.element_bytes.Goals as goal

pub returns : goal.returns
unfolding element_bytes
returns c = let s = c.args.s.now in
    let e : c.find_element.result ≡ found_in s c.args.position = found_telling c.find_element.result (found_in s c.args.position) c.find_element.ensures in
    rw (c.part.ensures, c.unwrap_or-at.ensures, ← e) (part_found s c.find_element.result)
