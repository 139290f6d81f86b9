-- `layout::closed_at` meets its contract.
-- Assumes nothing.
use native.Mathlib.Omega.{arith}
use Rattle.objects.specs.Steps.{GoodIn}
use Rattle.objects.specs.Results.Reading.{Refused}
use borrow.Author.Tests.{lt-ltb, le-ltb, eq-eqb, ne_eqb}
use Rattle.objects.specs.Steps.{closed_at}
use Rattle.objects.proofs.layout.closed_at.Goals as goal

pub carry-requires : goal.carry-requires
carry-requires c = let g : GoodIn c.args.m (Refused c.in-Err.r) = rw c.in-Err.is at c.requires.1 in
    let p = g.place in
    omega arith

pub returns-then-p-m : goal.returns-then-p-m
unfolding closed_at
returns-then-p-m c = search (lt-ltb, le-ltb, eq-eqb, ne_eqb, c.at_place.ensures, c.in-Ok.is)

pub returns-then-m-n : goal.returns-then-m-n
unfolding closed_at
returns-then-m-n c = search (lt-ltb, le-ltb, eq-eqb, ne_eqb, c.at_place-then-m-n.ensures, c.in-Ok.is)

pub returns-in-Err : goal.returns-in-Err
unfolding closed_at
returns-in-Err c = search (lt-ltb, le-ltb, eq-eqb, ne_eqb, c.carry.ensures, c.in-Err.is)

pub returns-else-m-n : goal.returns-else-m-n
unfolding closed_at
returns-else-m-n c = search (lt-ltb, le-ltb, eq-eqb, ne_eqb, c.in-Ok.is)
