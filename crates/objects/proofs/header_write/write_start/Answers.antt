-- `header_write::write_start` meets its contract: 3 for the type, and else the shortest form.
-- Assumes nothing.
use mathlib.Core.Path.{sym, ◌∙◌}
use native.Mathlib.Omega.{arith}
use Rattle.objects.specs.Header.{start_bytes}
use Rattle.objects.proofs.HeaderForms.{short_bounds, start_short, start_long}
use Rattle.objects.proofs.Calls.{typed_over, typed_within}
use Rattle.objects.proofs.header_write.write_start.Goals as goal

pub returns-then-kind-gt16383 : goal.returns-then-kind-gt16383
returns-then-kind-gt16383 c = let a = c.args in
    rw c.at_front.ensures (typed_over a.kind (start_bytes a.kind a.compound a.length) a.out.now c.if-kind-gt16383.true)

pub start_number-x-requires : goal.start_number-x-requires
start_number-x-requires c = let a = c.args in
    let b = short_bounds a.kind a.length (sym c.is_short.ensures ∙ c.if-is_short.true) in
    omega arith

pub returns-then-is_short : goal.returns-then-is_short
returns-then-is_short c = let x = c.write_number in
    let a = c.args in
    let e = start_short a.kind a.compound a.length (sym c.is_short.ensures ∙ c.if-is_short.true) in
    typed_within a.kind (start_bytes a.kind a.compound a.length) a.out.now x.result x.new.out c.if-kind-gt16383.false
    (rw (e, ← c.start_number-x.ensures) x.ensures)

pub returns : goal.returns
returns c = let x = c.write_long_start in
    let a = c.args in
    let e = start_long a.kind a.compound a.length (sym c.is_short.ensures ∙ c.if-is_short.false) in
    typed_within a.kind (start_bytes a.kind a.compound a.length) a.out.now x.result x.new.out c.if-kind-gt16383.false (rw e x.ensures)
