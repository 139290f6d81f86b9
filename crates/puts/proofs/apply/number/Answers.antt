-- `apply::number` meets its contract.
-- Assumes nothing.
use mathlib.Core.Path.{◌≡◌, ap, ◌∙◌}
use native.Mathlib.Omega.{arith}
use lib.ListN.{length}
use Rattle.store.specs.Store.{store_walk}
use Rattle.puts.specs.NewStore.{highest_under}
use Rattle.puts.proofs.Applying.{handed_many}
use Rattle.puts.proofs.Outcomes.{refused_gives, numbered_out, numbered_left}
use Rattle.puts.proofs.apply.number.Goals as goal

pub returns-then-highest-handed : goal.returns-then-highest-handed
returns-then-highest-handed c = let a = c.args in
    let all = (store_walk a.stored.bytes.now).elements in
    let e : c.highest_under-highest.result ≡ highest_under a.g all = c.highest_under-highest.ensures ∙ ap (highest_under a.g) c.requires.0.held in
    let m = handed_many a.handed.bytes.now a.handed.elements.rows.now a.handed.elements.ids.now a.handed.elements.count c.requires.1 in
    let t = c.if-highest-handed.true in
    rw (numbered_out a.stored.bytes.now all a.handed.bytes.now a.id a.g (length a.newstore.now) (length a.out.now) (omega arith), c.at_place.ensures) (refused_gives _ a.newstore.now a.out.now)

pub count-requires : goal.count-requires
count-requires c = let a = c.args in
    let all = (store_walk a.stored.bytes.now).elements in
    let e : c.highest_under-highest.result ≡ highest_under a.g all = c.highest_under-highest.ensures ∙ ap (highest_under a.g) c.requires.0.held in
    let m = handed_many a.handed.bytes.now a.handed.elements.rows.now a.handed.elements.ids.now a.handed.elements.count c.requires.1 in
    let t = c.if-highest-handed.false in
    (c.requires.0, c.requires.1, e, omega arith)

pub returns : goal.returns
returns c = let a = c.args in
    let all = (store_walk a.stored.bytes.now).elements in
    let e : c.highest_under-highest.result ≡ highest_under a.g all = c.highest_under-highest.ensures ∙ ap (highest_under a.g) c.requires.0.held in
    let m = handed_many a.handed.bytes.now a.handed.elements.rows.now a.handed.elements.ids.now a.handed.elements.count c.requires.1 in
    let t = c.if-highest-handed.false in
    rw (numbered_left a.stored.bytes.now all a.handed.bytes.now a.id a.g (length a.newstore.now) (length a.out.now) (omega arith)) c.count.ensures
