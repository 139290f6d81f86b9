-- `accessor::received_bytes` meets its contract.
-- Assumes nothing.
use mathlib.Core.Path.{◌≡◌}
use Rattle.store.proofs.Found.{part_found}
use Rattle.store.proofs.OneAnswers.{found_telling}
use Rattle.client.specs.Accessor.{received_at, received_bytes}
use Rattle.client.proofs.accessor.received_bytes.Goals as goal

pub returns : goal.returns
unfolding received_bytes
returns c = let s = c.args.s.now in
    let e : c.find_received.result ≡ received_at s c.args.position = found_telling c.find_received.result (received_at s c.args.position) c.find_received.ensures in
    rw (c.part.ensures, c.unwrap_or-at.ensures, ← e) (part_found s c.find_received.result)
