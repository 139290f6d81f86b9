-- `package::begin_store` meets its contract.
-- Assumes nothing.
use mathlib.Core.Path.{sym, ap, ◌∙◌}
use borrow.Author.Tests.{lt-ltb, le-ltb}
use Rattle.objects.specs.Steps.{finish}
use Rattle.store.specs.Store.{nothing_of, beginning_of}
use Rattle.store.proofs.package.begin_store.Goals as goal

pub returns-then-s-gt-LONGEST_INPUT : goal.returns-then-s-gt-LONGEST_INPUT
unfolding beginning_of
returns-then-s-gt-LONGEST_INPUT c = rw (lt-ltb _ _ c.if-s-gt-LONGEST_INPUT.true, c.over_long.ensures)

pub returns-then-next_is : goal.returns-then-next_is
unfolding beginning_of
returns-then-next_is c = let e = rw c.package_start-first.ensures at (sym c.next_is.ensures ∙ c.if-next_is.true) in
    rw (le-ltb _ _ c.if-s-gt-LONGEST_INPUT.false, e)

pub returns : goal.returns
unfolding beginning_of
returns c = let e = rw c.package_start-first.ensures at (sym c.next_is.ensures ∙ c.if-next_is.false) in
    let f = rw c.package_start-first.ensures at c.end.ensures in
    rw (le-ltb _ _ c.if-s-gt-LONGEST_INPUT.false, e) (c.nothing_if_fine.ensures ∙ ap nothing_of (c.finish.ensures ∙ ap (finish _) f))
