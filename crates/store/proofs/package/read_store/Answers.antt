-- `package::read_store` meets its contract: an over-long store is 1, with the tables as they were.
-- Assumes nothing.
use mathlib.Core.Path.{◌≡◌, sym, ap, refl, ◌∙◌}
use Rattle.std.proofs.Common.{rules}
use Rattle.std.specs.Prelude.{Err}
use borrow.Author.Tests.{lt-ltb, le-ltb}
use Rattle.store.specs.Store.{store_walk, stored_of}
use Rattle.store.specs.Tables.{flat}
use Rattle.store.proofs.Walks.{finished_holds, finished_refused}
use Rattle.store.proofs.package.read_store.Goals as goal

pub returns-then-s-gt-LONGEST_INPUT : goal.returns-then-s-gt-LONGEST_INPUT
unfolding store_walk flat stored_of
returns-then-s-gt-LONGEST_INPUT c = rw (lt-ltb _ _ c.if-s-gt-LONGEST_INPUT.true, c.over_long.ensures) (refl, refl, refl)

pub returns-in_err-e : goal.returns-in_err-e
unfolding store_walk
returns-in_err-e c = let w = rw c.store_strictness.ensures at c.read_package.ensures in
    let e : c.from_residual.result ≡ Err c.in_err-e.field-0.0 = search rules in
    rw (e, le-ltb _ _ c.if-s-gt-LONGEST_INPUT.false) (finished_refused _ _ _ _ (sym c.in_err-e.was ∙ w.0), w.1, w.2)

pub returns : goal.returns
unfolding store_walk
returns c = let w = rw c.store_strictness.ensures at c.read_package.ensures in
    rw (le-ltb _ _ c.if-s-gt-LONGEST_INPUT.false) (
      c.count_if_fine.ensures ∙ ap (stored_of _) c.finish.ensures ∙ finished_holds _ _ _ _ _ (sym c.in_ok-e.was ∙ w.0),
      w.1,
      w.2,
    )
