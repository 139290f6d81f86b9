-- `put::put_package` meets its contract.
-- Assumes nothing.
use Rattle.std.specs.Prelude.{Err}
use Rattle.std.proofs.Common.{rules}
use mathlib.Core.Path.{◌≡◌, refl, sym, ◌∙◌}
use Rattle.store.specs.Tables.{flat}
use Rattle.store.specs.Store.{packaged_of}
use Rattle.puts.specs.Put.{put_package}
use Rattle.puts.proofs.put.put_package.Goals as goal

pub returns-then-next_is : goal.returns-then-next_is
unfolding put_package
returns-then-next_is c = let e = sym c.next_is.ensures ∙ c.if-next_is.true in
    rw e (rw c.put_strictness.ensures at c.read_package.ensures)

pub returns : goal.returns
unfolding put_package flat packaged_of
returns c = let e = sym c.next_is.ensures ∙ c.if-next_is.false in
    rw e (rw c.in_ok-e.was, refl, refl)

pub returns-in_err-e : goal.returns-in_err-e
unfolding put_package flat packaged_of
returns-in_err-e c = let residual : c.from_residual.result ≡ Err c.in_err-e.field-0.0 = search rules in
    rw residual (let e = sym c.next_is.ensures ∙ c.if-next_is.false in
    rw e (rw c.in_err-e.was, refl, refl))
