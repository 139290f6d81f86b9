-- Ranges of 64-bit numbers stay so.
-- Assumes nothing.
use mathlib.Core.List.{List, [], ◌∷◌}
use native.Mathlib.Omega.{arith}
use Rattle.laws.proofs.Cases.{by_bool}
use Rattle.talk.specs.declared.range.Range.{Range}
use Rattle.talk.specs.Ranges.{is_before, joined, absorb, insert, RangeFits, AllFit}
use Rattle.talk.proofs.Insertion.{insert_none, insert_past, insert_here, absorb_none, absorb_stop, absorb_join}

join_fits : (r x : Range) → RangeFits r → RangeFits x → RangeFits (joined r x)
unfolding joined
join_fits r x f g = (f.0, f.1, omega arith, omega arith)

absorb_fits : (r : Range) (l : List Range) → RangeFits r → AllFit l → AllFit (absorb r l)
unfolding AllFit
absorb_fits r [] f g = rw absorb_none (f, tt)
absorb_fits r (x ∷ xs) f g =
    by_bool (is_before r x) (λ e. rw (absorb_stop r x xs e) (f, g))
    (λ e. rw (absorb_join r x xs e) (absorb_fits (joined r x) xs (join_fits r x f g.0) g.1))

pub insert_fits : (r : Range) (l : List Range) → RangeFits r → AllFit l → AllFit (insert r l)
unfolding AllFit
insert_fits r [] f g = rw (insert_none, absorb_none) (f, tt)
insert_fits r (x ∷ xs) f g =
    by_bool (is_before x r) (λ e. rw (insert_past r x xs e) (g.0, insert_fits r xs f g.1))
    (λ e. rw (insert_here r x xs e) (absorb_fits r (x ∷ xs) f g))
