-- What a refusal tells, and why an answering call gives one: "Order: 13; the store's faults; the request's; then 9 for a page; then 14."
-- Assumes nothing.
use Rattle.std.specs.Prelude.{◌≡◌, List, [], ◌⊎◌, ℕ, ◌≤◌, ◌<◌, length, get_or}
use Rattle.numbers.specs.Refusals.{fault_at, too_short, refusal_number}
use Rattle.numbers.specs.declared.refusal.Refusal.{Refusal}
use Rattle.objects.specs.Results.Reading as reading
use Rattle.store.specs.Store.{store_walk, Stands}
use Rattle.order.specs.Order.{ranked_numbers}
use Rattle.request.specs.Message.{request_in}
use Rattle.request.specs.Results.Request as request'
use Rattle.pages.specs.Answer.{Ask, page_bytes, page_ranges, knowledge_numbers}
use Rattle.pages.specs.Cases.{Few, smallest, Asks}

-- "one of the numbered refusals of document 01, with the place of the fault": a number from 1 to 14, one of the inputs, a place that lies
-- within it (an item's place is "where its first byte stands or would stand", so it may be the input's end), and a needed length for 14
-- alone
pub record Fault (inputs : List (List ℕ)) (r : Refusal) : Type 0 where
  pub least : 1 ≤ refusal_number r
  pub most : refusal_number r ≤ 14
  pub input : r.input < length inputs
  pub place : r.place ≤ length (get_or inputs r.input [])
  pub needed : (refusal_number r ≡ 14 → ⊥) → r.needed ≡ 0

-- the tables are long enough
abbrev pub Tables : ℕ → ℕ → Type 0
Tables rows ranges = (ranked_numbers ≤ rows) × (knowledge_numbers ≤ ranges)

-- some numbers are told exactly where something holds
abbrev pub IfAndOnlyIf : Type 0 → Type 0 → Type 0
IfAndOnlyIf A B = (A → B) × (B → A)

-- why a call on the store s and the request q, lent tables of so many numbers, and lent or offered an output of so many bytes, refuses
-- with r
pub data Why (s q : List ℕ) (rows ranges room : ℕ) (r : Refusal) : Type 0 where
  -- 13: "store table under 1,536 numbers or knowledge table under 2,048"; 1,792 by document 02, Q-14
  tables : (rows < ranked_numbers) ⊎ (ranges < knowledge_numbers) → r ≡ fault_at 13 0 → Why s q rows ranges room r
  -- the first fault that reading the store meets
  store : Tables rows ranges → (store_walk s).last ≡ reading.Refused r → Why s q rows ranges room r
  -- the store is read, and this is the first fault that reading the request meets
  request : Tables rows ranges → Stands (store_walk s).last → request_in q [] ≡ request'.Refused r → Why s q rows ranges room r
  -- both are read, and a is asked: "a page of 1 needs over 512 ranges"
  crowded : Tables rows ranges → (a : Ask) → Asks s q a → 0 < length a.wanted → a.most < length (page_ranges a 1) → r ≡ fault_at 9 0
      → Why s q rows ranges room r
  -- "the output is shorter than the page of 1 (of 0, if nothing is wanted)", whose length is the needed one; the output is the one that is
  -- lent, or offered
  short : Tables rows ranges → (a : Ask) → Asks s q a → Few a → room < length (page_bytes a (smallest a))
      → r ≡ too_short (length (page_bytes a (smallest a))) → Why s q rows ranges room r
