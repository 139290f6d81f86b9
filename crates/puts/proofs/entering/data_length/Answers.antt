-- `entering::data_length` meets its contract.
-- Assumes nothing.
use mathlib.Core.Path.{ap}
use lib.ListN.{length}
use Rattle.numbers.specs.ExtendedGuid.{extended_guid_bytes}
use Rattle.numbers.specs.Results.ExtendedGuid.{ExtendedGuid}
use native.Mathlib.Omega.{arith}
use Rattle.puts.specs.Plan.{data_length}
use Rattle.puts.proofs.entering.data_length.Goals as goal

pub returns : goal.returns
unfolding data_length
returns c = let e = c.extended_guid_length.ensures.0 in
    let f = c.extended_guid_length.ensures.1 in
    let n = ap (λ (x : ExtendedGuid). length (extended_guid_bytes x)) c.named.ensures in
    let k = c.compact_length.ensures in
    (omega arith, omega arith)
