-- `deciding::decide_asked` meets its contract: what was decided says which case of `on_decided` holds, and the tables hold the page's
-- answer.
-- Assumes nothing.
use mathlib.Core.Path.{◌≡◌, ap, ◌∙◌}
use mathlib.Core.List.{List, map}
use Prim.Native.Nat.{ℕ}
use native.Mathlib.Omega.{arith}
use lib.ListN.{length}
use Rattle.std.proofs.lemmas.Result.{err_from_is_err_and}
use Rattle.order.specs.Links.{lump}
use Rattle.store.specs.Store.{store_walk}
use Rattle.store.specs.Held.{StoreHeld, storage_index}
use Rattle.store.proofs.StoreHeld.{short_row, least_row, id_row_lem}
use Rattle.pages.specs.Tables.{Carries, SendsRows}
use Rattle.pages.specs.Answer.{Ask, known_in, page_decided}
use Rattle.pages.specs.Held.{ask_in}
use Rattle.pages.proofs.Paged.{page_decided_lem, page_unsent, page_reckoned, page_ready}
use Rattle.pages.proofs.deciding.decide_asked.Goals as goal
use Rattle.pages.proofs.deciding.decide_asked.Goals.{After-decide_page-chosen}

abbrev queue_then : (c : After-decide_page-chosen) → List ℕ
queue_then c = c.decide_page-chosen.new.queue

abbrev known_then : (c : After-decide_page-chosen) → List ℕ
known_then c = c.decide_page-chosen.new.known

-- whatever store stands in the tables
module _ (c : After-decide_page-chosen) (s : List ℕ) (h : StoreHeld s c.args.all.rows.now c.args.all.ids.now c.args.all.count) where
  abbrev asked : Ask
  asked = ask_in s c.args.request.now c.args.a

  index_is : c.storage_index-index.result ≡ storage_index (store_walk s).elements
  index_is = c.storage_index-index.ensures ∙ ap storage_index h.held

  -- the decision is that of document 01, the table of ranges holds what the page says, and the queue its rows
  decided_is : (c.decide_page-chosen.result.decided ≡ page_decided asked c.args.room)
      × Carries (map lump asked.wanted) (known_in c.args.request.now) c.decide_page-chosen.result.decided (known_then c)
      × SendsRows c.args.all.rows.now c.args.all.ids.now (queue_then c) asked.wanted c.decide_page-chosen.result.decided c.decide_page-chosen.result.rows
  decided_is =
      let a = c.args in
      page_decided_lem s a.request.now a.a a.all.rows.now a.all.ids.now a.known.now a.all.count h c.requires.1 a.room _ _ _ _ _ c.decide_page-chosen.ensures index_is

long_then : (c : After-decide_page-chosen) → length (known_then c) ≡ length c.args.known.now
long_then c = c.decide_page-chosen.auto.known

queue_long : (c : After-decide_page-chosen) → length (queue_then c) ≡ length c.args.queue.now
queue_long c = c.decide_page-chosen.auto.queue

-- ---- the answers
pub storage_index-index-requires : goal.storage_index-index-requires
storage_index-index-requires c = id_row_lem c.requires.0.1

pub decide_page-chosen-requires : goal.decide_page-chosen-requires
decide_page-chosen-requires c = let held = c.requires.0.1 in
    let given = c.requires.1 in
    record {
      stand = held.stand;
      few = held.most;
      short = short_row held;
      least = least_row held;
      roomy = c.requires.2;
      carry = record {
        said = given.most;
        most_carried = given.carried;
        room = omega (arith, given.carried, given.room);
        ranges_stand = (omega (arith, given.most, given.room), rw given.held given.normal);
      };
    }

pub returns-in_err-decision : goal.returns-in_err-decision
returns-in_err-decision c = λ s h.
    let a = c.args in
    let p = err_from_is_err_and c.from_residual.result c.from_residual.ensures.1 in
    let x = decided_is (goal.at.returns-in_err-decision c).After-decide_page-chosen s h in
    let y = page_unsent s a.request.now a.a a.all.rows.now a.all.ids.now a.known.now a.all.count h c.requires.1 a.room _ _ c.in_err-decision.was x.0 in
    rw (p.1, p.2) (y.0, long_then (goal.at.returns-in_err-decision c).After-decide_page-chosen, queue_long (goal.at.returns-in_err-decision c).After-decide_page-chosen, y.1)

pub returns : goal.returns
returns c = λ s h.
    let a = c.args in
    let g = c.requires.1 in
    let d = c.in_ok-decision.decision in
    let x = decided_is (goal.at.returns c).After-decide_page-chosen s h in
    let long = long_then (goal.at.returns c).After-decide_page-chosen in
    let index = index_is (goal.at.returns c).After-decide_page-chosen s h in (
      page_reckoned s a.request.now a.a a.all.rows.now a.all.ids.now a.known.now a.all.count h g a.room _ d.count d.length d.ranges d.more c.in_ok-decision.was x.0 _ _ _ x.1 x.2 long _ index,
      long,
      queue_long (goal.at.returns c).After-decide_page-chosen,
      page_ready s a.request.now a.a a.all.rows.now a.all.ids.now a.known.now a.all.count h g a.room _ d.count d.length d.ranges d.more c.in_ok-decision.was x.0 _ _ _ x.1 x.2 long _ index,
    )
