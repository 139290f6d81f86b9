-- `knowledge::read_specialized` meets its contract.
-- Assumes nothing.
use mathlib.Core.Path.{refl, sym, ap, ◌∙◌}
use Rattle.store.specs.Knowledge.{is_cell, specialized_from, cell_from}
use Rattle.store.proofs.Learning.{known_start}
use Rattle.store.proofs.SpecializedRun.{run_good, run_closed, run_cell}
use Rattle.store.proofs.knowledge.read_specialized.Goals as goal

pub closed-behind-requires : goal.closed-behind-requires
closed-behind-requires c = rw (c.on.ensures, c.guid-g.ensures) (run_good _ _ _ _ _ c.start_of_length-o.ensures c.run.ensures)

pub returns-then-is_cell : goal.returns-then-is_cell
unfolding specialized_from cell_from
returns-then-is_cell c = let o = c.start_of_length-o.ensures in
    let d = c.run.ensures in
    let cell = sym (run_cell _ _ _ _ _ o d) ∙ ap is_cell (sym c.guid-g.ensures) ∙ sym c.is_cell.ensures ∙ c.if-is_cell.true in
    let behind = rw (c.on.ensures, c.guid-g.ensures) at c.closed-behind.ensures ∙ run_closed _ _ _ _ _ o d in
    rw (cell, ← behind) c.read_cell.ensures

pub returns : goal.returns
unfolding specialized_from
returns c = let o = c.start_of_length-o.ensures in
    let d = c.run.ensures in
    let cell = sym (run_cell _ _ _ _ _ o d) ∙ ap is_cell (sym c.guid-g.ensures) ∙ sym c.is_cell.ensures ∙ c.if-is_cell.false in
    let behind = rw (c.on.ensures, c.guid-g.ensures) at c.closed-behind.ensures ∙ run_closed _ _ _ _ _ o d in
    rw (cell, ← behind) (known_start c.args.table.now c.args.known.rows c.args.known.left _ c.requires.0 c.requires.1 _ refl refl c.inside.ensures)
