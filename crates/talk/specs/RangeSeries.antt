-- A series of answers in which what is known is a list of ranges, and each answer puts a range for each thing of its page into it. For
-- the counts of ranges only: what demand 3 promises is in Series, and a reader of it can skip this.
-- Assumes nothing.
use Rattle.std.specs.Prelude.{◌≡◌, Bool, true, List, [], ◌∷◌, map, ◌≤◌}
use Rattle.laws.specs.Pick.{pick}
use Rattle.talk.specs.declared.range.Range.{Range}
use Rattle.talk.specs.Ranges.{insert, Normal}
use Rattle.talk.specs.Wanted.{wanted}
use Rattle.talk.specs.Series.{Answer, Takes}

-- a list of ranges with some more, one after the other
unfoldable pub with_ranges : List Range → List Range → List Range
with_ranges l [] = l
with_ranges l (r ∷ more) = with_ranges (insert r l) more

-- a range holds a number
abbrev pub HoldsSome : Range → Type 0
HoldsSome r = r.from ≤ r.to

module _ {E K : Type 0} (key : E → K) (range_of : E → Range) (known : List Range → K → Bool) where
  -- a thing's range is that of its key alone: with it, its key is known beside what was known before, and no other
  pub record RangeOfKey (same : K → K → Bool) (Fits : K → Type 0) : Type 0 where
    pub some : (x : E) → HoldsSome (range_of x)
    pub adds_one : (x : E) → Fits (key x) → (l : List Range) → Normal l → (k : K) → Fits k
        → known (insert (range_of x) l) k ≡ pick (same k (key x)) true (known l k)

  -- one answer: it takes from what is wanted, and the ranges are then those before with those of its page
  pub record Ranged (things : List E) (lets : E → Bool) (l : List Range) (a : Answer E) (l' : List Range) : Type 0 where
    pub rest : List E
    pub takes : Takes (wanted key lets (known l) things) a rest
    pub adds : l' ≡ with_ranges l (map range_of a.page)
