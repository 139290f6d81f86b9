-- The limits that document 01 names by their numbers: whoever changes one of the names changes this page.
-- Assumes nothing.
use mathlib.Core.Path.{◌≡◌, refl}
use Rattle.store.specs.Knowledge.{most_said}
use Rattle.store.specs.Tables.{most_elements}
use Rattle.order.specs.Order.{ranked_numbers}
use Rattle.pages.specs.Decision.{most_carried}
use Rattle.pages.specs.Answer.{knowledge_numbers}

-- "over 256 elements"
pub elements_most : most_elements ≡ 256
elements_most = refl

-- 9: "over 256 elements, 512 ranges and entries"
pub said_most : most_said ≡ 512
said_most = refl

-- "carries at most 512 ranges"
pub carried_most : most_carried ≡ 512
carried_most = refl

-- 13: "store table under 1,536 numbers or knowledge table under 2,048", and with document 02, Q-14, "The store table grows to 1,792
-- numbers, and 13 with it"
pub store_table : ranked_numbers ≡ 1792
store_table = refl

pub knowledge_table : knowledge_numbers ≡ 2048
knowledge_table = refl
