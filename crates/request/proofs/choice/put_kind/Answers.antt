-- `choice::put_kind` meets its contract: by the kind.
-- Assumes nothing.
use mathlib.Core.Path.{◌∙◌}
use native.Mathlib.Omega.{arith}
use Rattle.store.specs.Elements.{elements_of}
use Rattle.request.specs.Filter.{ids_part}
use Rattle.request.proofs.Inside.{good_ids_field}
use Rattle.request.proofs.Putting.{kind_all, kind_type, kind_ids, kind_other}
use Rattle.request.proofs.choice.put_kind.Goals as goal

pub returns-in-1 : goal.returns-in-1
returns-in-1 c = let a = c.args in
    let e = kind_all a.s.now a.kind a.c a.to (elements_of a.index.all) a.flags.now c.in-1.is in
    (e.0, c.set_matched.ensures ∙ e.1)

pub returns-in-2 : goal.returns-in-2
returns-in-2 c = let a = c.args in
    let e = kind_type a.s.now a.kind a.c a.to (elements_of a.index.all) a.flags.now c.in-2.is in
    (c.type_part-t.ensures ∙ e.0, c.set_matched-in-2.ensures ∙ rw (c.value.ensures, c.type_part-t.ensures) e.1)

pub closed-requires : goal.closed-requires
closed-requires c = rw (c.set_with_ids-e.ensures.0, c.run.ensures) (good_ids_field _)

pub returns-in-6 : goal.returns-in-6
unfolding ids_part
returns-in-6 c = let a = c.args in
    let e = kind_ids a.s.now a.kind a.c a.to (elements_of a.index.all) a.flags.now c.in-6.is in
    (rw (c.closed.ensures, c.set_with_ids-e.ensures.0, c.run.ensures, c.start-listed.ensures) e.0, c.set_with_ids-e.ensures.1 ∙ rw (c.run.ensures, c.start-listed.ensures) e.1)

pub returns-in_default : goal.returns-in_default
returns-in_default c = let a = c.args in
    kind_other a.s.now a.kind a.c a.to (elements_of a.index.all) a.flags.now (λ e. omega arith) (λ e. omega arith) (λ e. omega arith)
