-- What a store that was read, and a request, leave behind: a fault or none, and what the working table of ranges holds. And what stands
-- ready after deciding, as it is told and written.
-- Assumes nothing.
use mathlib.Core.Path.{◌≡◌, refl, sym, ap, ◌∙◌}
use mathlib.Core.Bool.{Bool, true, false}
use mathlib.Core.List.{List, [], ◌++◌}
use Prim.Native.Nat.{ℕ, ◌*◌, ◌≤◌}
use native.Mathlib.Omega.{arith}
use lib.ListN.{length, drop, replicate, length-replicate}
use lib.Dec.{ltb}
use borrow.Author.Tests.{ltb-false}
use Rattle.laws.specs.Pick.{pick}
use Rattle.laws.specs.Placed.{laid}
use Rattle.laws.proofs.Cases.{impossible}
use Rattle.laws.proofs.Placing.{laid_front}
use Rattle.numbers.specs.Refusals.{fault_at}
use Rattle.numbers.specs.declared.refusal.Refusal.{Refusal}
use Rattle.objects.specs.Results.Reading.{Reading}
use Rattle.objects.specs.Results.Reading as reading
use Rattle.ranges.specs.RangeTable.{range_width, ranges_at}
use Rattle.ranges.proofs.RangeRows.{length_rows}
use Rattle.store.specs.Knowledge.{most_said, said_numbers}
use Rattle.store.specs.Store.{stored_of}
use Rattle.store.specs.Tables.{row_numbers, most_elements, id_width, elements_in}
use Rattle.order.specs.Order.{ordered, ranked_rows, ranked_width, ranked_numbers}
use Rattle.store.specs.Results.Stored as stored
use Rattle.store.proofs.Elements.{length_elements}
use Rattle.request.specs.Message.{request_in, ReadsRequest}
use Rattle.request.specs.Results.Request.{Request}
use Rattle.request.specs.Results.Request as request
use Rattle.request.proofs.Whole.{request_table_free, request_held, asked_filters, asked_known}
use Rattle.pages.specs.Tables.{sent_bytes}
use Rattle.pages.specs.Answer.{Outcome, refused, outcome, knowledge_numbers, answer_of, range_rows, answer_told, rows_after, ranges_after, output_after, Tells, Gives}
use Rattle.pages.specs.Held.{RequestHeld, WorkingTables, Ready, Follows}
use Rattle.pages.specs.Results.Answered as answer
use Rattle.pages.specs.Results.Reckoned.{Reckoned}
use Rattle.pages.specs.Results.Reckoned as reckoned
use Rattle.pages.specs.declared.write.Sending.{Sending}

-- ---- the lent tables: one is too short, or none

tables_on : (a b : Bool) (x y : Outcome) → pick a true b ≡ true → pick a x (pick b x y) ≡ x
tables_on true b x y h = refl
tables_on false true x y h = refl
tables_on false false x y h = impossible (cc)

tables_off : (a b : Bool) (x y : Outcome) → pick a true b ≡ false → pick a x (pick b x y) ≡ y
tables_off true b x y h = impossible (cc)
tables_off false true x y h = impossible (cc)
tables_off false false x y h = refl

module _ (s q : List ℕ) (rows ranges room : ℕ) where
  pub tables_short : pick (ltb rows ranked_numbers) true (ltb ranges knowledge_numbers) ≡ true → answer_of s q rows ranges room ≡ refused (fault_at 13 0)
  unfolding answer_of
  tables_short h = tables_on (ltb rows ranked_numbers) (ltb ranges knowledge_numbers) _ _ h

  pub tables_long : pick (ltb rows ranked_numbers) true (ltb ranges knowledge_numbers) ≡ false → answer_of s q rows ranges room ≡ outcome s q room
  unfolding answer_of
  tables_long h = tables_off (ltb rows ranked_numbers) (ltb ranges knowledge_numbers) _ _ h

both_long : (a b : Bool) → pick a true b ≡ false → (a ≡ false) × (b ≡ false)
both_long true b h = impossible (cc)
both_long false true h = impossible (cc)
both_long false false h = (refl, refl)

pub tables_room : (rows ranges : ℕ) → pick (ltb rows ranked_numbers) true (ltb ranges knowledge_numbers) ≡ false → (ranked_numbers ≤ rows) × (knowledge_numbers ≤ ranges)
tables_room rows ranges h = let x = both_long _ _ h in (ltb-false rows ranked_numbers x.0, ltb-false ranges knowledge_numbers x.1)

-- ---- the store: a fault stands, or none

pub last_refused : (m : ℕ) (r : Refusal) (c : Reading) → stored_of m c ≡ stored.Refused r → c ≡ reading.Refused r
unfolding stored_of
last_refused m r (reading.At e v) h = impossible (cc)
last_refused m r (reading.Refused r') h = let e : r' ≡ r = cc in ap reading.Refused e

pub last_read : (m n : ℕ) (c : Reading) → stored_of m c ≡ stored.Holds n → (e : ℕ) × (v : ℕ) × (c ≡ reading.At e v)
unfolding stored_of
last_read m n (reading.At e v) h = (e, v, refl)
last_read m n (reading.Refused r) h = impossible (cc)

-- ---- the request

-- what is answered does not depend on what was in the table
pub request_same : (q t t' : List ℕ) (r : Request) → ReadsRequest q t r t' → request_in q [] ≡ r
request_same q t t' r h = sym (h.0 ∙ (request_table_free q t []).0)

-- the table is as long as it was
pub request_long : (q t t' : List ℕ) (r : Request) → length t ≡ said_numbers → ReadsRequest q t r t' → said_numbers ≡ length t'
request_long q t t' r l h = sym (ap length h.1 ∙ (request_held q t (omega arith)).long ∙ l)

pub request_read : (q t t' : List ℕ) (id most limit place count k : ℕ) → most ≤ most_said → said_numbers ≤ length t → ReadsRequest q t (request.Asked id limit place count k) t'
    → RequestHeld q (record { id = id; most = most; limit = limit; place = place; count = count; known = k }) t'
request_read q t t' id most limit place count k c h r =
    let f = (request_table_free q t []).1 in
    let l = request_held q t h in
    let m = asked_known q t id limit place count k (sym r.0) in
    let o = l.room in
    record {
      filters = asked_filters q t id limit place count k (sym r.0);
      held = rw (← m) (r.2 ∙ f);
      normal = rw (← f) r.3;
      most = omega arith;
      carried = c;
      room = rw (r.1, l.long) h;
    }

-- ---- working tables of zeros have their lengths

pub new_tables : WorkingTables (replicate row_numbers 0) (replicate (most_elements * id_width) 0) (replicate said_numbers 0) (replicate most_elements 0)
new_tables =
    record {
      elements_long = length-replicate {A = ℕ} row_numbers 0;
      ids_long = length-replicate {A = ℕ} (most_elements * id_width) 0;
      known_long = length-replicate {A = ℕ} said_numbers 0;
      queue_long = length-replicate {A = ℕ} most_elements 0;
    }

-- ---- what deciding answered stands ready, or is the refusal

module _ (o : Outcome) (s : List ℕ) (room : ℕ) (x : Reckoned) (elements ids known queue : List ℕ) (h : Follows o s room x elements ids known queue) where
  pub page_follows : (page : Sending) (whole n : ℕ) → x ≡ reckoned.Page page whole n → Ready o s room page whole n elements ids known queue
  page_follows page whole n e = rw e at h

  pub refusal_follows : (r : Refusal) → x ≡ reckoned.Refused r → o ≡ refused r
  refusal_follows r e = rw e at h

-- ---- what stands ready is told, and written

module _ {o : Outcome} {s : List ℕ} {room : ℕ} {page : Sending} {whole n : ℕ} {elements ids known queue : List ℕ}
    (h : Ready o s room page whole n elements ids known queue) where
  pub ready_tells : (rows rows' ranges ranges' : List ℕ)
      → rows' ≡ ranked_rows (ordered (elements_in elements ids n)) ++ drop (n * ranked_width) rows
      → ranges' ≡ range_rows (ranges_at known 0 page.ranges) ++ drop (page.ranges * range_width) ranges
      → Tells o (answer.Sent whole n page.ranges) rows rows' ranges ranges'
  unfolding answer_told rows_after ranges_after
  ready_tells rows rows' ranges ranges' a b =
      let l = length_elements elements ids 0 n in
      let r = length_rows known 0 page.ranges in
      rw (h.outcome_is, l, r, ← h.whole_is) (refl, a, b)

  pub ready_gives : (rows rows' ranges ranges' out out' : List ℕ) → Tells o (answer.Sent whole n page.ranges) rows rows' ranges ranges'
      → out' ≡ laid 0 (sent_bytes s elements ids queue page known) out
      → Gives o (answer.Sent whole n page.ranges) rows rows' ranges ranges' out out'
  unfolding output_after
  ready_gives rows rows' ranges ranges' out out' a b = (a.0, a.1, a.2, b ∙ laid_front (sent_bytes s elements ids queue page known) out ∙ rw h.outcome_is)
