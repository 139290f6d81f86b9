-- `hub_element` meets its contract.
-- Assumes nothing.
use mathlib.Core.Path.{sym, ap, ◌∙◌}
use mathlib.Core.List.{List}
use Prim.Native.Nat.{ℕ}
use Rattle.laws.specs.Placed.{placed}
use Rattle.store.specs.Accessor.{tell_found}
use Rattle.hub.proofs.BenchReports.{found_told, found_refused}
use Rattle.hub.proofs.hub_element.Goals as goal

pub returns-in-Err : goal.returns-in-Err
returns-in-Err c = let f = c.refuse.ensures in
    let t = found_refused _ c.in-Err.r (ap tell_found (sym c.in-Err.is) ∙ c.find_in.ensures) in
    (f.0 ∙ t.0, f.1 ∙ ap (λ (v : List ℕ). placed v c.args.report.now) t.1)

pub returns-in-Ok : goal.returns-in-Ok
returns-in-Ok c = let f = c.done.ensures in
    let t = found_told _ c.in-Ok.at c.in-Ok.n (ap tell_found (sym c.in-Ok.is) ∙ c.find_in.ensures) in
    (f.0 ∙ t.0, f.1 ∙ ap (λ (v : List ℕ). placed v c.args.report.now) t.1)
