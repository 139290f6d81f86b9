-- `header_write::write_end` meets its contract: 3 for the type, and else the shortest form.
-- Assumes nothing.
use Rattle.objects.specs.Header.{end_bytes}
use Rattle.objects.proofs.HeaderForms.{end_short, end_long}
use Rattle.objects.proofs.Calls.{typed_over, typed_within}
use Rattle.objects.proofs.header_write.write_end.Goals as goal

pub returns-then-kind-gt16383 : goal.returns-then-kind-gt16383
returns-then-kind-gt16383 c = let a = c.args in
    rw c.at_front.ensures (typed_over a.kind (end_bytes a.kind) a.out.now c.if-kind-gt16383.true)

pub returns-then-kind-lt64 : goal.returns-then-kind-lt64
returns-then-kind-lt64 c = let x = c.write_number in
    let a = c.args in
    typed_within a.kind (end_bytes a.kind) a.out.now x.result x.new.out c.if-kind-gt16383.false (rw (end_short a.kind c.if-kind-lt64.true) x.ensures)

pub returns : goal.returns
returns c = let x = c.write_number-2 in
    let a = c.args in
    typed_within a.kind (end_bytes a.kind) a.out.now x.result x.new.out c.if-kind-gt16383.false (rw (end_long a.kind c.if-kind-lt64.false) x.ensures)
