-- What the call that writes a request has written reads as exactly what was handed in; and where that is the knowledge of an answer,
-- the next request carries exactly the set that the answer told.
-- Assumes nothing.
use mathlib.Core.Path.{◌≡◌, refl, sym, ap, ◌∙◌}
use mathlib.Core.List.{List, ◌++◌}
use Prim.Native.Nat.{ℕ, ◌^◌, ◌≤◌, ◌<◌}
use lib.ListN.{length, take, drop}
use lib.Seq.{take_at}
use borrow.Author.Tests.{lt-ltb, le-ltb}
use Rattle.laws.proofs.Cases.{by_lt, impossible}
use Rattle.numbers.specs.Refusals.{longest_input}
use Rattle.numbers.specs.Results.Wrote.{Wrote}
use Rattle.numbers.specs.Results.Wrote as wrote
use Rattle.numbers.proofs.OneAnswers.{wrote_telling}
use Rattle.objects.specs.Results.Reading.{At, Reading, Refused}
use Rattle.store.specs.KnowledgeWritten.{knowledge_bytes}
use Rattle.store.specs.declared.element.Element.{Element}
use Rattle.talk.specs.declared.range.Range.{Range}
use Rattle.request.specs.Message.{request_knowing}
use Rattle.client.specs.AskWritten.{ask_bytes}
use Rattle.client.specs.Ask.{filters_given, knowledge_given, written_in, judged_second, judged_first, ask_wrote, ask_output, WritesRequest}
use Rattle.client.specs.Read.{answer_in}
use Rattle.client.specs.Back.{ReadBack}
use Rattle.client.specs.declared.answer.Received.{Received}
use Rattle.client.specs.Results.ReadAnswer.{ReadAnswer}
use Rattle.client.specs.Results.ReadAnswer as answer
use Rattle.client.proofs.AskRead.{ask_read}
use Rattle.client.proofs.AskAgain.{knowledge_sent_back}
use Rattle.client.proofs.CallBack.{CallReadsBack}

-- ---- what was judged, where something is written

pub filters_fine : (c : Reading) (o : Wrote) (n : ℕ) → judged_first c o ≡ wrote.Done n → (p : ℕ) × (m : ℕ) × (c ≡ At p m) × (o ≡ wrote.Done n)
unfolding judged_first
filters_fine (At p m) o n h = (p, m, refl, h)
filters_fine (Refused r) o n h = impossible (cc)

pub knowledge_fine : (c : Reading) (o : Wrote) (n : ℕ) → judged_second c o ≡ wrote.Done n → (q : ℕ) × (v : ℕ) × (c ≡ At q v) × (o ≡ wrote.Done n)
unfolding judged_second
knowledge_fine (At q v) o n h = (q, v, refl, h)
knowledge_fine (Refused r) o n h = impossible (cc)

pub room_enough : (room : ℕ) (w : List ℕ) (n : ℕ) → written_in room w ≡ wrote.Done n → (length w ≤ longest_input) × (length w ≡ n)
unfolding written_in
room_enough room w n h =
    by_lt longest_input (length w) (λ l. let z = rw (lt-ltb longest_input (length w) l) at h in impossible (cc))
    (λ l.
    by_lt room (length w) (λ k. let z = rw (le-ltb longest_input (length w) l, lt-ltb room (length w) k) at h in impossible (cc))
    (λ k.
    let z : wrote.Done (length w) ≡ wrote.Done n = rw (le-ltb longest_input (length w) l, le-ltb room (length w) k) at h in
    (l, cc)))

-- ---- the call

-- s is the request of these, and reads as exactly these
pub record WrittenReads (id limit : ℕ) (f k s t : List ℕ) : Type 0 where
  pub count : ℕ
  pub bytes_are : s ≡ ask_bytes id limit f k
  pub back : ReadBack id limit f k count s t

pub written_reads : (id limit : ℕ) (f k : List ℕ) (n : ℕ) (out out' : List ℕ) → id < 2 ^ 64 → limit < 2 ^ 64
    → WritesRequest id limit f k (wrote.Done n) out out' → (t : List ℕ) → WrittenReads id limit f k (take n out') t
unfolding ask_wrote ask_output
written_reads id limit f k n out out' hi hl h t =
    let w = ask_bytes id limit f k in
    let o : ask_wrote id limit f k (length out) ≡ wrote.Done n = sym (wrote_telling (wrote.Done n) (ask_wrote id limit f k (length out)) h.0) in
    let a = filters_fine (filters_given f) _ n o in
    let b = knowledge_fine (knowledge_given k) _ n a.3 in
    let c = room_enough (length out) w n b.3 in
    let e : out' ≡ w ++ drop (length w) out = h.1 ∙ ap (λ (r : Wrote). ask_output r w out) o in
    let s : take n out' ≡ w = rw e (take_at w (drop (length w) out) n c.1) in
    record {
      count = a.1;
      bytes_are = s;
      back = rw s (ask_read id limit f k a.0 a.1 b.0 b.1 hi hl a.2 b.2 c.0 t);
    }

-- ---- the next request

-- the place and the length of the knowledge
abbrev place_in : ReadAnswer → ℕ
place_in (answer.Is x) = x.knowledge
place_in (answer.Refused r) = 0

abbrev length_in : ReadAnswer → ℕ
length_in (answer.Is x) = x.length
length_in (answer.Refused r) = 0

-- The answer was read as x, and its knowledge, a part of it, is handed in with any id, limit and filters: what is then known is what
-- the answer told.
pub next_ask : (s q : List ℕ) (room : ℕ) (w : List ℕ) (all : List Element) (l : List Range) → CallReadsBack s q room w all l
    → (x : Received) → answer_in w ≡ answer.Is x → (id limit : ℕ) (f : List ℕ) (n : ℕ) (out out' : List ℕ) → id < 2 ^ 64 → limit < 2 ^ 64
    → WritesRequest id limit f (take x.length (drop x.knowledge w)) (wrote.Done n) out out' → (t : List ℕ)
    → (request_knowing (take n out') t).ranges ≡ l
next_ask s q room w all l b x h id limit f n out out' hi hl g t =
    let r = b.back in
    let y : answer.Is x ≡ _ = sym h ∙ r.read in
    let p : x.knowledge ≡ _ = ap (λ (z : ReadAnswer). place_in z) y in
    let m : x.length ≡ _ = ap (λ (z : ReadAnswer). length_in z) y in
    let k : take x.length (drop x.knowledge w) ≡ knowledge_bytes l = rw (p, m) r.knowledge_is in
    let e = written_reads id limit f (take x.length (drop x.knowledge w)) n out out' hi hl g t in
    e.back.known ∙ rw k (knowledge_sent_back l r.normal r.fit r.most).1
