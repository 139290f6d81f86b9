-- `apply::expect` meets its contract.
-- Assumes nothing.
use mathlib.Core.Path.{◌≡◌, sym, ap, ◌∙◌}
use lib.ListN.{length}
use Rattle.store.specs.Held.{storage_index}
use Rattle.store.specs.Store.{store_walk}
use Rattle.store.proofs.StoreHeld.{id_row_lem}
use Rattle.puts.specs.Applied.{same_id}
use Rattle.puts.proofs.Outcomes.{refused_gives, expecting_other, expecting_same}
use Rattle.puts.proofs.apply.expect.Goals as goal

pub storage_index-index-requires : goal.storage_index-index-requires
storage_index-index-requires c = id_row_lem c.requires.0

pub returns-then-same_id : goal.returns-then-same_id
returns-then-same_id c = let a = c.args in
    let all = (store_walk a.stored.bytes.now).elements in
    let e : c.same_id.result ≡ same_id a.expected (storage_index all) = c.same_id.ensures ∙ ap (same_id a.expected) (c.storage_index-index.ensures ∙ ap storage_index c.requires.0.held) in
    rw (expecting_same a.stored.bytes.now all a.handed.bytes.now a.id a.g (length a.newstore.now) (length a.out.now) a.expected (sym e ∙ c.if-same_id.true)) c.number.ensures

pub returns : goal.returns
returns c = let a = c.args in
    let all = (store_walk a.stored.bytes.now).elements in
    let e : c.same_id.result ≡ same_id a.expected (storage_index all) = c.same_id.ensures ∙ ap (same_id a.expected) (c.storage_index-index.ensures ∙ ap storage_index c.requires.0.held) in
    rw (expecting_other a.stored.bytes.now all a.handed.bytes.now a.id a.g (length a.newstore.now) (length a.out.now) a.expected (sym e ∙ c.if-same_id.false), c.at_place.ensures) (refused_gives _ a.newstore.now a.out.now)
