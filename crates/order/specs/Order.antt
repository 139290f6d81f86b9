-- The order of a store's rows (document 02, Q-14): "Each store row gains a rank: type 1, then 2, 3, 4, then all others; rows are kept by
-- rank and, within a rank, by place in the store." This page owns the order: everything above speaks of `ordered` alone. And a row as the
-- lent table has it, with its rank.
-- Assumes nothing.
use Rattle.std.specs.Prelude.{ℕ, List, [], ◌∷◌, ◌++◌, eqb, ltb}
use Rattle.laws.specs.Pick.{pick}
use Rattle.talk.specs.Wanted.{keep}
use Rattle.store.specs.Tables.{row_of, flat}
use Rattle.store.specs.declared.element.Element.{Element}

-- ---- the order

-- "type 1, then 2, 3, 4, then all others"
unfoldable pub rank_of : Element → ℕ
rank_of x = pick (eqb x.kind 0) 5 (pick (ltb 4 x.kind) 5 x.kind)

-- those of one rank, in the order in which they come
abbrev pub of_rank : ℕ → List Element → List Element
of_rank r xs = keep (λ (x : Element). eqb (rank_of x) r) xs

-- "by rank and, within a rank, by place in the store", of elements that come in the store's order
unfoldable pub ordered : List Element → List Element
ordered xs = of_rank 1 xs ++ (of_rank 2 xs ++ (of_rank 3 xs ++ (of_rank 4 xs ++ of_rank 5 xs)))

-- ---- a row with its rank

-- "(place, length, type, serial's GUID as two little-endian numbers, serial's number)", and the rank as the last number
abbrev pub ranked_row : Element → List ℕ
ranked_row x = row_of x ++ (rank_of x ∷ [])

abbrev pub ranked_rows : List Element → List ℕ
ranked_rows xs = flat ranked_row xs

abbrev pub ranked_width : ℕ
ranked_width = 7

-- "The store table grows to 1,792 numbers": a table with room for such rows of 256 elements
abbrev pub ranked_numbers : ℕ
ranked_numbers = 1792
