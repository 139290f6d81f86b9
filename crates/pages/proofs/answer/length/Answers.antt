-- `answer::length` meets its contract: the lengths of the tables say which case of `answer_of` holds.
-- Assumes nothing.
use mathlib.Core.Path.{refl, sym, ◌∙◌}
use lib.ListN.{length}
use Rattle.pages.specs.Answer.{answer_told, rows_after, ranges_after}
use Rattle.pages.proofs.Stored.{tables_short, tables_long, tables_room}
use Rattle.pages.proofs.answer.length.Goals as goal

pub returns-then-too_few : goal.returns-then-too_few
unfolding answer_told rows_after ranges_after
returns-then-too_few c = let few = sym c.too_few.ensures ∙ c.if-too_few.true in
    let a = c.args in
    rw (tables_short a.store.now a.request.now (length a.rows.now) (length a.ranges.now) a.offered few, c.at_place.ensures) (refl, refl, refl)

pub tell_length-requires : goal.tell_length-requires
tell_length-requires c = tables_room _ _ (sym c.too_few.ensures ∙ c.if-too_few.false)

pub returns : goal.returns
returns c = let a = c.args in
    rw (tables_long a.store.now a.request.now (length a.rows.now) (length a.ranges.now) a.offered (sym c.too_few.ensures ∙ c.if-too_few.false)) c.tell_length.ensures
