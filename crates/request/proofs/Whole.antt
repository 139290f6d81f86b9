-- The request as a whole: over-long, or read through to its end; what was in the table does not matter; and the filters that
-- stand at the place that is told are those of the request.
-- Assumes nothing.
use mathlib.Core.Path.{◌≡◌, refl, ap, ◌∙◌}
use mathlib.Core.List.{List}
use Prim.Native.Nat.{ℕ, zero, suc, ◌≤◌, ◌<◌}
use native.Mathlib.Omega.{arith}
use lib.ListN.{length}
use lib.Dec.{ltb}
use borrow.Author.Tests.{lt-ltb, le-ltb}
use Rattle.laws.proofs.Cases.{by_bool, impossible}
use Rattle.numbers.specs.Refusals.{longest_input, over_long}
use Rattle.numbers.specs.declared.refusal.Refusal.{Refusal}
use Rattle.objects.specs.Steps.{place_of, value_of, valued, start_here, end_here, next_is, finish}
use Rattle.objects.specs.Results.Reading.{At, Reading, Refused}
use Rattle.talk.specs.Ranges.{Normal}
use Rattle.ranges.specs.RangeTable.{ranges_at}
use Rattle.store.specs.Knowledge.{most_said, said_numbers, knowledge_answer, ReadsKnowledge}
use Rattle.store.specs.Results.ReadKnowledge.{ReadKnowledge}
use Rattle.store.proofs.KnowledgeHeld.{Held, knowledge_held}
use Rattle.store.proofs.TableFree.{Alike, table_free}
use Rattle.request.specs.Filter.{filter_opened, filter_at, filters_from, request_padding}
use Rattle.request.specs.Meaning.{filter_read, filters_read}
use Rattle.request.specs.Message.{knowledge_part, package_part, query_changes_request, identified, constrained, filtered, request_end, request_knowing, in_request, request_answer, on_knowledge, rows_known, request_in, filters_of, ReadsRequest}
use Rattle.request.specs.Results.Request.{Request}
use Rattle.request.specs.Results.Request as request

-- ---- its length

-- "An over-long input gives 1 before its other faults", and nothing is written
pub over_long_read : (s t : List ℕ) → longest_input < length s → ReadsRequest s t (request.Refused (in_request over_long)) t
unfolding request_knowing request_in request_end end_here package_part next_is finish request_answer ranges_at Normal
over_long_read s t h = rw (lt-ltb _ _ h) (refl, refl, refl, tt)

-- ---- read through to its end

-- the code goes on from what reading the knowledge answered
abbrev pub answered : List ℕ → ReadKnowledge → Request
answered s k =
    request_answer (request_end s (on_knowledge k)) (value_of (identified query_changes_request s)) (value_of (constrained s)) (place_of (constrained s)) (value_of (filtered s)) (rows_known k)

-- which is where the knowledge ended
answered_is : (s : List ℕ) (n : ℕ) (c : Reading)
    → answered s (knowledge_answer n c)
    ≡ request_answer (request_end s c) (value_of (identified query_changes_request s)) (value_of (constrained s)) (place_of (constrained s)) (value_of (filtered s)) n
unfolding knowledge_answer on_knowledge rows_known request_end end_here package_part next_is finish request_answer
answered_is s n (At e v) = refl
answered_is s n (Refused r) = refl

pub whole_read : (s t : List ℕ) → length s ≤ longest_input → (k : ReadKnowledge) (exit : List ℕ) → ReadsKnowledge (knowledge_part s t (filtered s)) k exit → (r : Request) → r ≡ answered s k
    → ReadsRequest s t r exit
unfolding request_knowing request_in
whole_read s t h k exit i r q =
    rw (le-ltb _ _ h)
    (q ∙ ap (answered s) i.0 ∙ answered_is s (length (knowledge_part s t (filtered s)).ranges) (knowledge_part s t (filtered s)).last, i.1, i.2, i.3)

-- ---- "It relies on nothing that was in the tables"

knowing_alike : (s t v : List ℕ) → Alike (request_knowing s t) (request_knowing s v)
unfolding request_knowing knowledge_part
knowing_alike s t v =
    by_bool (ltb longest_input (length s)) (λ e. rw e (record { ranges = refl; left = refl; last = refl }))
    (λ e.
    rw e
    (by_bool (next_is s 0x10 (filtered s)) (λ f. rw f (table_free request_padding most_said 12 0x42 s t v (filtered s))) (λ f. rw f (record { ranges = refl; left = refl; last = refl }))))

pub request_table_free : (s t v : List ℕ) → (request_in s t ≡ request_in s v) × ((request_knowing s t).ranges ≡ (request_knowing s v).ranges)
unfolding request_in
request_table_free s t v = let a = knowing_alike s t v in (rw (a.ranges, a.last), a.ranges)

-- ---- the ranges, in a table that has room for all that may come

pub request_held : (s t : List ℕ) → said_numbers ≤ length t → Held most_said t (request_knowing s t).ranges (request_knowing s t).table (request_knowing s t).left
unfolding request_knowing knowledge_part Normal ranges_at
request_held s t h =
    by_bool (ltb longest_input (length s)) (λ e. rw e (record { normal = tt; room = omega arith; rows = refl; long = refl; later = refl }))
    (λ e.
    rw e
    (by_bool (next_is s 0x10 (filtered s)) (λ f. rw f (knowledge_held request_padding most_said 12 0x42 s t (filtered s) h))
    (λ f. rw f (record { normal = tt; room = omega arith; rows = refl; long = refl; later = refl }))))

-- ---- the filters of the request

-- a filter does not depend on the number that was read before it
pub filters_from_lem : (n : ℕ) (s : List ℕ) (p v w : ℕ) → filters_read n s (At p v) ≡ filters_read n s (At p w)
unfolding filters_read filter_read filter_at filter_opened start_here
filters_from_lem zero s p v w = refl
filters_from_lem (suc n) s p v w = refl

-- from the place alone; after a fault there is none
none_after : (s : List ℕ) (r : Refusal) → value_of (filters_from 16 s (Refused r)) ≡ 0
unfolding filters_from next_is valued value_of
none_after s r = refl

from_place : (s : List ℕ) (c : Reading)
    → filters_read (value_of (filters_from 16 s c)) s (At (place_of c) 0) ≡ filters_read (value_of (filters_from 16 s c)) s c
unfolding place_of filters_read
from_place s (At q v) = filters_from_lem (value_of (filters_from 16 s (At q v))) s q 0 v
from_place s (Refused r) = rw (none_after s r)

asked_parts : (c : Reading) (a b p n m a' b' p' n' m' : ℕ) → request_answer c a b p n m ≡ request.Asked a' b' p' n' m'
    → (p ≡ p') × (n ≡ n') × (m ≡ m') × (a ≡ a')
unfolding request_answer
asked_parts (At e v) a b p n m a' b' p' n' m' h = (grind arith, grind arith, grind arith, grind arith)
asked_parts (Refused r) a b p n m a' b' p' n' m' h = impossible (cc)

module _ (s t : List ℕ) (a b p n m : ℕ) (h : request_in s t ≡ request.Asked a b p n m) where
  told_parts : (place_of (constrained s) ≡ p) × (value_of (filtered s) ≡ n) × (length (request_knowing s t).ranges ≡ m) × (value_of (identified query_changes_request s) ≡ a)
  unfolding request_in
  told_parts =
      asked_parts (request_end s (request_knowing s t).last) (value_of (identified query_changes_request s)) (value_of (constrained s)) (place_of (constrained s)) (value_of (filtered s)) (length (request_knowing s t).ranges) a b p n m h

  -- the filters that stand at the place that is told, as many as are told, are those of the request
  pub asked_filters : filters_read n s (At p 0) ≡ filters_of s
  asked_filters = rw (← told_parts.0, ← told_parts.1) (from_place s (constrained s))

  -- as many ranges are known as are told
  pub asked_known : length (request_knowing s t).ranges ≡ m
  asked_known = told_parts.2

  -- the id that is told stands in the sub-request
  pub asked_id : value_of (identified query_changes_request s) ≡ a
  asked_id = told_parts.3
