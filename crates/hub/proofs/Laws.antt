-- The exported calls: the answering calls' tables are never too short, the two of them joined give what one call gave that decided and
-- wrote, and any two answers that a promise allows are equal.
-- Assumes nothing.
use mathlib.Core.Path.{◌≡◌, refl, sym, ap, ◌∙◌}
use mathlib.Core.List.{List}
use Prim.Native.Nat.{ℕ}
use lib.ListN.{length}
use Rattle.talk.specs.declared.range.Range.{Range}
use Rattle.order.specs.Order.{ranked_numbers}
use Rattle.store.specs.declared.element.Element.{Element}
use Rattle.pages.specs.Answer.{answered, number_in, knowledge_numbers, answer_of, outcome}
use Rattle.pages.proofs.Refusing.{never_thirteen}
use Rattle.pages.proofs.TwoCalls.{exact_answer}
use Rattle.hub.specs.Call.{hub_outcome, HubTellsLength, HubWritesAnswer}
use Rattle.hub.specs.Bench.{HubAsks, HubReads, HubFinds}

-- their own tables have as many numbers as the answering calls ask for: what is left are the faults of the store, those of the
-- request, and those of the page
pub tables_enough : (s q : List ℕ) (room : ℕ) → hub_outcome s q room ≡ outcome s q room
unfolding answer_of
tables_enough s q room = refl

-- so 13 is not given
pub tells_no_thirteen : (s q : List ℕ) (offered : ℕ) (report report' : List ℕ) → HubTellsLength s q offered 13 report report' → ⊥
tells_no_thirteen s q offered report report' h = never_thirteen s q offered (sym (ap number_in (tables_enough s q offered)) ∙ sym h.0)

pub writes_no_thirteen : (s q out out' report report' : List ℕ) → HubWritesAnswer s q 13 out out' report report' → ⊥
writes_no_thirteen s q out out' report report' h = tells_no_thirteen s q (length out) report report' (h.0, h.2)

-- ---- the two calls joined

-- with an output of the offered length the second tells what the first told
pub hub_same_told : (s q : List ℕ) (offered r t : ℕ) (out out' report x y : List ℕ) → length out ≡ offered → HubTellsLength s q offered r report x
    → HubWritesAnswer s q t out out' report y → (r ≡ t) × (x ≡ y)
hub_same_told s q offered r t out out' report x y e a b = let c = rw e at b in (a.0 ∙ sym c.0, a.1 ∙ sym c.2)

-- into an output of exactly the length of the answer that it told, the second decides as the first did
pub hub_exact : (s q : List ℕ) (offered : ℕ) (w : List ℕ) (all : List Element) (l : List Range) (exact : List ℕ) → hub_outcome s q offered ≡ answered w all l
    → length exact ≡ length w → hub_outcome s q (length exact) ≡ answered w all l
hub_exact s q offered w all l exact h e = ap (hub_outcome s q) e ∙ exact_answer s q ranked_numbers knowledge_numbers offered w all l h

-- ---- the number, the output and the report

pub hub_tells_one : (s q : List ℕ) (offered r r' : ℕ) (report y y' : List ℕ) → HubTellsLength s q offered r report y → HubTellsLength s q offered r' report y'
    → (r ≡ r') × (y ≡ y')
hub_tells_one s q offered r r' report y y' a b = (a.0 ∙ sym b.0, a.1 ∙ sym b.1)

pub hub_writes_one : (s q : List ℕ) (r r' : ℕ) (out x x' report y y' : List ℕ) → HubWritesAnswer s q r out x report y → HubWritesAnswer s q r' out x' report y'
    → (r ≡ r') × (x ≡ x') × (y ≡ y')
hub_writes_one s q r r' out x x' report y y' a b = (a.0 ∙ sym b.0, a.1 ∙ sym b.1, a.2 ∙ sym b.2)

-- and so of the bench's calls
pub hub_asks_one : (id limit : ℕ) (f k : List ℕ) (r r' : ℕ) (out x x' report y y' : List ℕ) → HubAsks id limit f k r out x report y
    → HubAsks id limit f k r' out x' report y' → (r ≡ r') × (x ≡ x') × (y ≡ y')
hub_asks_one id limit f k r r' out x x' report y y' a b = (a.0 ∙ sym b.0, a.1 ∙ sym b.1, a.2 ∙ sym b.2)

pub hub_reads_one : (s : List ℕ) (r r' : ℕ) (report y y' : List ℕ) → HubReads s r report y → HubReads s r' report y' → (r ≡ r') × (y ≡ y')
hub_reads_one s r r' report y y' a b = (a.0 ∙ sym b.0, a.1 ∙ sym b.1)

pub hub_finds_one : (kind : ℕ) (s : List ℕ) (i r r' : ℕ) (report y y' : List ℕ) → HubFinds kind s i r report y → HubFinds kind s i r' report y'
    → (r ≡ r') × (y ≡ y')
hub_finds_one kind s i r r' report y y' a b = (a.0 ∙ sym b.0, a.1 ∙ sym b.1)
