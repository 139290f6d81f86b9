-- `nesting::read_object` and `nesting::read_run`, which call each other, meet their contracts.
-- Assumes nothing.
use Rattle.std.specs.Prelude.{Ok}
use Rattle.std.proofs.Common.{◌≡◌, ℕ, true, sym, ap, ◌∙◌, refl, arith}
use Rattle.objects.specs.Next.{next_at, told_number}
use Rattle.objects.specs.Results.Passed.{Refused}
use Rattle.objects.specs.Results.Next.{Opens}
use Rattle.objects.proofs.Ahead.{object_next}
use Rattle.objects.proofs.Next.{next_ahead, object_next_on, met_is, opened_opens, opens_as}
use Rattle.objects.proofs.Told.{told_place, told_fault, told_goes, told_stops, refused_within}
use Rattle.objects.proofs.nesting.+read_object_read_run.Goals as goal
use Rattle.objects.proofs.nesting.+read_object_read_run.Goals.{read_object-Joined-inside-eq0, read_object-then-inside-eq0+in-Ok-Opens, read_object-else-inside-eq0}

pub read_object-told_refusal-requires : goal.read_object-told_refusal-requires
read_object-told_refusal-requires t c =
    let w = refused_within _ _ _ _ _ c.requires (object_next_on _ _ _ _ _ (sym c.next_by_header.ensures ∙ c.in-Err.is)) in
    let l = c.well_formed.0.1 in
    omega arith

pub read_object-returns-in-Err : goal.read_object-returns-in-Err
read_object-returns-in-Err t c =
    told_fault _ _ _ _ c.told_refusal.ensures (object_next_on _ _ _ _ _ (sym c.next_by_header.ensures ∙ c.in-Err.is))

pub read_object-returns-in-Ok-Past : goal.read_object-returns-in-Ok-Past
read_object-returns-in-Ok-Past t c = told_place _ _ _ (object_next_on _ _ _ _ _ (sym c.next_by_header.ensures ∙ c.in-Ok-Past.is ∙ ap Ok c.in-Ok-Past.field-0-is))

pub read_object-returns-in-Ok-Ends : goal.read_object-returns-in-Ok-Ends
read_object-returns-in-Ok-Ends t c =
    told_fault _ _ _ _ c.told_refusal-in-Ok-Ends.ensures
    (object_next_on _ _ _ _ _ (sym c.next_by_header.ensures ∙ c.in-Ok-Ends.is ∙ ap Ok c.in-Ok-Ends.field-0-is) ∙ ap Refused (sym c.at_place.ensures))

-- what opens the run inside, by a short start or by any other
opens : (t : ℕ) (c : read_object-Joined-inside-eq0 t)
    → next_at c.args.padding c.args.s.now c.args.at c.args.depth ≡ Opens c.if-inside-eq0.kind c.if-inside-eq0.inside
opens t c =
    elim c.if-inside-eq0.branch [
      | read_object-then-inside-eq0+in-Ok-Opens w ↦
          opens_as _ _ _ _ _ _ _ _ (sym w.next_by_header.ensures ∙ w.in-Ok-Opens.is ∙ ap Ok w.in-Ok-Opens.field-0-is) w.kind-is w.inside-is
      | read_object-else-inside-eq0 w ↦
          opened_opens _ _ _ _ _ _ _ _ (sym c.short_number-w.ensures) (sym c.opened_at-inside.ensures) w.if-inside-eq0.false w.kind-is w.inside-is
    ]

pub read_object-overflow_sub-depth : goal.read_object-overflow_sub-depth
read_object-overflow_sub-depth t c = (next_ahead _ _ _ _ _ (opens t c)).2

pub read_object-read_run-requires : goal.read_object-read_run-requires
read_object-read_run-requires t c =
    let w = next_ahead _ _ _ _ _ (opens t c) in
    let e = w.1 in
    let h = w.2 in
    let m = c.decreases in
    (omega arith, e)

pub read_object-returns : goal.read_object-returns
read_object-returns t c = c.read_run.ensures ∙ ap (told_number _) (sym (object_next_on _ _ _ _ _ (opens t (goal.at.read_object-returns t c).Joined-inside-eq0)))

pub read_run-loop-e-smaller-in-Plain : goal.read_run-loop-e-smaller-in-Plain
read_run-loop-e-smaller-in-Plain t c =
    let w = met_is true _ _ _ _ (sym c.met_at.ensures ∙ c.in-Plain.is) 0 in
    let a = w.1 in
    let b = w.2 in
    omega arith

pub read_run-loop-e-preserved-in-Plain : goal.read_run-loop-e-preserved-in-Plain
read_run-loop-e-preserved-in-Plain t c =
    let w = met_is _ _ _ _ _ (sym c.met_at.ensures ∙ c.in-Plain.is) _ in
    (c.loop-e.invariant.0 ∙ w.0, w.2)

pub read_run-returns-in-Ended : goal.read_run-returns-in-Ended
read_run-returns-in-Ended t c = told_place _ _ _ (c.loop-e.invariant.0 ∙ met_is _ _ _ _ _ (sym c.met_at.ensures ∙ c.in-Ended.is) _)

pub read_run-returns-then-e-ge-REFUSED : goal.read_run-returns-then-e-ge-REFUSED
read_run-returns-then-e-ge-REFUSED t c =
    let l = c.well_formed.0.1 in
    let m = met_is _ _ _ _ _ (sym c.met_at.ensures ∙ c.in-Object.is) _ _ refl in
    told_stops _ _ _ _ _ _ _ (omega arith) c.read_object-e.ensures c.if-e-ge-REFUSED.true ∙ ap (told_number _) (sym (c.loop-e.invariant.0 ∙ m))

pub read_run-loop-e-smaller : goal.read_run-loop-e-smaller
read_run-loop-e-smaller t c =
    let w = object_next _ _ _ _ _ (told_goes _ _ _ c.read_object-e.ensures c.if-e-ge-REFUSED.false) in
    let a = w.0 in
    let b = w.1 in
    omega arith

pub read_run-loop-e-preserved : goal.read_run-loop-e-preserved
read_run-loop-e-preserved t c =
    let q = told_goes _ _ _ c.read_object-e.ensures c.if-e-ge-REFUSED.false in
    let m = met_is _ _ _ _ _ (sym c.met_at.ensures ∙ c.in-Object.is) _ _ q in
    (c.loop-e.invariant.0 ∙ m, (object_next _ _ _ _ _ q).1)
