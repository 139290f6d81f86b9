-- `header_write::start_length` meets its contract: two bytes, four, or four and the true length.
-- Assumes nothing.
use mathlib.Core.Path.{sym, ap, ◌∙◌}
use mathlib.Core.Bool.{true, false}
use Prim.Native.Nat.{ℕ, ◌+◌}
use native.Mathlib.Omega.{arith}
use Rattle.objects.proofs.HeaderForms.{length_short, length_own, length_behind}
use Rattle.objects.proofs.header_write.start_length.Goals as goal

pub returns-then-is_short : goal.returns-then-is_short
returns-then-is_short c = let a = c.args in
    let e = sym c.is_short.ensures ∙ c.if-is_short.true in
    (sym (length_short a.kind true a.n e), sym (length_short a.kind false a.n e), omega arith)

pub returns-then-n-lt-ESCAPE : goal.returns-then-n-lt-ESCAPE
returns-then-n-lt-ESCAPE c = let a = c.args in
    let e = sym c.is_short.ensures ∙ c.if-is_short.false in
    let h = c.if-n-lt-ESCAPE.true in
    (sym (length_own a.kind true a.n e h), sym (length_own a.kind false a.n e h), omega arith)

pub returns : goal.returns
returns c = let a = c.args in
    let h = c.if-n-lt-ESCAPE.false in
    let e = ap (λ (m : ℕ). 4 + m) c.compact_length.ensures.0 in
    (e ∙ sym (length_behind a.kind true a.n h), e ∙ sym (length_behind a.kind false a.n h), omega arith)
