-- The page rule: "The answer holds the greatest k such that every page of 1 to k is allowed, fits the output and carries at
-- most 512 ranges. With nothing wanted, k is 0." Here `ok j` says all of that of the page of the first j of n wanted things.
-- Assumes nothing.
use Rattle.std.specs.Prelude.{◌≡◌, Bool, true, false, ℕ, zero, suc, ◌≤◌, ◌<◌}
use Rattle.laws.specs.Pick.{pick}

-- k of n, as the sentence says it
pub record Greatest (ok : ℕ → Bool) (n k : ℕ) : Type 0 where
  pub most : k ≤ n
  pub every : (j : ℕ) → 1 ≤ j → j ≤ k → ok j ≡ true
  pub stop : k < n → ok (suc k) ≡ false

-- as it is walked: m more to come, k taken. "none passed over": the first that is not ok is the last that is looked at
unfoldable pub grow : (ℕ → Bool) → ℕ → ℕ → ℕ
grow ok zero k = k
grow ok (suc m) k = let further = grow ok m (suc k) in pick (ok (suc k)) further k

unfoldable pub page_count : (ℕ → Bool) → ℕ → ℕ
page_count ok n = grow ok n 0

-- every page up to k is ok
abbrev pub Every : (ℕ → Bool) → ℕ → Type 0
Every ok k = (j : ℕ) → 1 ≤ j → j ≤ k → ok j ≡ true
