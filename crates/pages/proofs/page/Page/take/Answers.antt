-- `Page::take` meets its contract.
-- Assumes nothing.
use mathlib.Core.Path.{refl}
use Rattle.store.specs.Held.{serial_range}
use Rattle.pages.proofs.Pricing.{laid_law}
use Rattle.pages.proofs.page.Page.take.Goals as goal

pub returns : goal.returns
returns c = let a = c.args in
    (refl, laid_law a.t.now c.shift.new.t a.self.ranges (serial_range a.x) a.p c.requires.5 c.requires.4 c.shift.ensures)
