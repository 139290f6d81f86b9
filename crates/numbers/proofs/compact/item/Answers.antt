-- `compact::item` meets its contract.
-- Assumes nothing.
use Rattle.std.proofs.Common.{rules}
use borrow.Author.Tests.{lt-ltb, le-ltb, eq-eqb, ne_eqb}
use Rattle.numbers.specs.Compact.{compact_for}
use Rattle.numbers.proofs.compact.item.Goals as goal

pub returns-in_err-v : goal.returns-in_err-v
unfolding compact_for
returns-in_err-v c = search (rules, lt-ltb, le-ltb, eq-eqb, ne_eqb, c.form_at.ensures, c.branch-v.ensures, c.in_err-v.is, c.in_err-v.was, c.in_err-v.ensures, c.from_residual.ensures)

pub returns-then-not-padding : goal.returns-then-not-padding
unfolding compact_for
returns-then-not-padding c = search (rules, lt-ltb, le-ltb, eq-eqb, ne_eqb, c.form_at.ensures, c.branch-v.ensures, c.in_ok-v.is, c.in_ok-v.was, c.in_ok-v.ensures, c.if-padded.true, c.if-not-padding.true, c.at_front.ensures)

pub returns : goal.returns
unfolding compact_for
returns c = search (rules, lt-ltb, le-ltb, eq-eqb, ne_eqb, c.form_at.ensures, c.branch-v.ensures, c.in_ok-v.is, c.in_ok-v.was, c.in_ok-v.ensures)
