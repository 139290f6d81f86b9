-- `reading::ReadingReadFields::number_is` meets its contract: by what stands here.
-- Assumes nothing.
use Rattle.std.proofs.Common.{rules}
use borrow.Author.Tests.{eq-eqb, ne_eqb}
use Rattle.objects.proofs.NumberIs.{number_is_lem}
use Rattle.objects.proofs.reading.ReadingReadFields.number_is.Goals as goal

pub returns-in_err-end : goal.returns-in_err-end
returns-in_err-end c = search (rules, number_is_lem, c.number.ensures, c.in_err-end.was)

pub returns-then-v-x : goal.returns-then-v-x
returns-then-v-x c = search (rules, ne_eqb, number_is_lem, c.number.ensures, c.in_ok-end.was, c.if-v-x.true, c.at_place.ensures, c.place.ensures)

pub returns : goal.returns
returns c = search (rules, eq-eqb, number_is_lem, c.number.ensures, c.in_ok-end.was, c.if-v-x.false)
