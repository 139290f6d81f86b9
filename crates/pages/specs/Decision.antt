-- Document 01, 'One page', over numbers alone: what a page of the first j wanted groups asks in stored bytes, in ranges and in
-- the answer's whole length decides how many are sent. (Document 02, Q-3: a group "counts as one in the page rule: the first group has no
-- byte limit", and where document 01 says elements it is groups.) "A page of 1 has no byte limit. A page of more is allowed if its
-- elements' stored lengths sum to at most the constraint. The answer holds the greatest k such that every page of 1 to k is
-- allowed, fits the output and carries at most 512 ranges. With nothing wanted, k is 0."
-- Assumes nothing.
use Rattle.std.specs.Prelude.{Bool, true, false, [], ◌∷◌, ℕ, Ok, Err, leb, ltb, eqb}
use Rattle.laws.specs.Pick.{pick}
use Rattle.numbers.specs.Refusals.{Told, gives, refuses, fault_at, too_short}
use Rattle.numbers.specs.declared.refusal.Refusal.{Refusal}
use Rattle.talk.specs.Page.{page_count}
use Rattle.pages.specs.declared.page.Unsent.{Unsent}
use Rattle.pages.specs.declared.page.Unsent.TheVariants as unsent
use Rattle.pages.specs.Results.Decided.{Decided, Sent, Crowded, Short}

-- "carries at most 512 ranges"
abbrev pub most_carried : ℕ
most_carried = 512

-- what the page of the first j asks
pub record Measure : Type 0 where
  pub stored : ℕ → ℕ  -- its elements' stored lengths, summed
  pub ranges : ℕ → ℕ  -- how many ranges it carries
  pub whole : ℕ → ℕ  -- how long the answer is

-- whether a page of j groups "carries at most" so many ranges, "fits the output", and "is allowed"
unfoldable pub is_sendable : ℕ → ℕ → ℕ → ℕ → ℕ → ℕ → ℕ → Bool
is_sendable most limit room j stored ranges whole =
    pick (leb ranges most) (pick (leb whole room) (pick (leb j 1) true (leb stored limit)) false) false

abbrev pub sendable : ℕ → ℕ → ℕ → Measure → ℕ → Bool
sendable most limit room m j = is_sendable most limit room j (m.stored j) (m.ranges j) (m.whole j)

-- the page of k, of n wanted: marked partial "exactly when a wanted element remains"
abbrev pub sent : Measure → ℕ → ℕ → Decided
sent m n k = Sent k (m.whole k) (m.ranges k) (ltb k n)

-- with nothing wanted the page of 0, or 14; else 9, "a page of 1 needs over 512 ranges", then 14, "the output is shorter than
-- the page of 1", then the greatest k
unfoldable pub decision : ℕ → ℕ → ℕ → Measure → ℕ → Decided
decision most limit room m n =
    pick (eqb n 0)
    (pick (leb (m.whole 0) room) (sent m n 0) (Short (m.whole 0)))
    (pick (leb (m.ranges 1) most)
    (pick (leb (m.whole 1) room) (sent m n (page_count (sendable most limit room m) n)) (Short (m.whole 1)))
    Crowded)

-- 9 "names the store, place 0", and so does 14, which has the needed length
abbrev pub unsent_refusal : Unsent → Refusal
unsent_refusal unsent.Crowded = fault_at 9 0
unsent_refusal (unsent.Short n) = too_short n

-- how many groups, how long the answer, how many ranges, and 1 where a wanted group remains; or 9; or 14
abbrev pub tell_decided : Decided → Told
tell_decided (Ok x) = gives (x.count ∷ x.length ∷ x.ranges ∷ pick x.more 1 0 ∷ [])
tell_decided (Err e) = refuses (unsent_refusal e)
