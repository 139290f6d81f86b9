-- A bench that talks by the exported calls alone talks: each of its turns is an ask that is answered, by a request that carries its
-- filters and its knowledge, and what it hands in next is the knowledge of the answer. A reader needs the statements of turn-answered,
-- next-bytes and bench-talk only.
-- Assumes nothing.
use mathlib.Core.Path.{◌≡◌, refl, sym, ap, ◌∙◌, subst}
use mathlib.Core.List.{List, [], ◌++◌}
use Prim.Native.Nat.{ℕ, ◌^◌, ◌≤◌, ◌<◌}
use native.Mathlib.Omega.{arith}
use lib.ListN.{length, take, drop, length-take, length-drop}
use lib.Seq.{take_at}
use Rattle.laws.specs.Bytes.{AllBytes}
use Rattle.laws.specs.Placed.{placed}
use Rattle.numbers.specs.Results.Wrote.{Wrote}
use Rattle.objects.specs.Steps.{value_of}
use Rattle.talk.specs.Series.Chain.{done, next}
use Rattle.talk.specs.Series.Trace.{over, then}
use Rattle.talk.specs.declared.range.Range.{Range}
use Rattle.store.specs.KnowledgeWritten.{knowledge_bytes}
use Rattle.request.specs.Message.{filters_of}
use Rattle.pages.specs.Answer.{known_in}
use Rattle.pages.specs.Choice.{knows_key}
use Rattle.client.specs.Ask.{filters_given, knowledge_given, knowledge_of, ask_wrote}
use Rattle.client.specs.Ask as ask
use Rattle.client.specs.AskWritten.{ask_bytes}
use Rattle.client.specs.Read.{answer_in}
use Rattle.client.specs.Back.{ReadBack}
use Rattle.client.specs.declared.answer.Received.{Received}
use Rattle.client.specs.Results.ReadAnswer.{ReadAnswer}
use Rattle.client.specs.Results.ReadAnswer as answer
use Rattle.client.proofs.AskAgain.{knowledge_size, knowledge_sent_back}
use Rattle.client.proofs.AskRead.{ask_read}
use Rattle.client.proofs.NextAsk.{filters_fine, knowledge_fine, room_enough}
use Rattle.report.specs.Report.{three_numbers}
use Rattle.hub.specs.Bench.{wrote_report, HubAsks, report_after, HubReads}
use Rattle.evidence.specs.Calling.{report_number, GivesAnswer, exported_pair}
use Rattle.evidence.specs.Talk.{AnsweredAsk, Talk, ranges_in}
use Rattle.evidence.specs.Bench.{filters_in, knows_by, Exchange, BenchTalk}
use Rattle.evidence.proofs.Refusals.{request_written}
use Rattle.evidence.proofs.Calling.{read_within}
use Rattle.evidence.proofs.DemandTwo.{DemandTwo, demand_two}
use Rattle.evidence.proofs.BytesWritten.{knowledge_bytes_lem, ask_bytes_lem}
use Rattle.evidence.proofs.ReportNumbers.{three_numbers_lem, read_numbers}

-- ---- the request

-- q is the request of these, and reads as exactly these
pub record AskReads (id limit : ℕ) (f k q : List ℕ) : Type 0 where
  pub bytes_are : q ≡ ask_bytes id limit f k
  pub back : ReadBack id limit f k (value_of (filters_given f)) q []

pub asks_read : (id limit : ℕ) (f k out out' report report' : List ℕ) → id < 2 ^ 64 → limit < 2 ^ 64 → 24 ≤ length report
    → HubAsks id limit f k 0 out out' report report' → AskReads id limit f k (take (report_number 2 report') out')
unfolding ask_wrote ask.ask_output wrote_report value_of
asks_read id limit f k out out' report report' hi hl room h =
    let w = ask_bytes id limit f k in
    let z = request_written id limit f k (length out) (ask_wrote id limit f k (length out)) refl h.0 in
    let n = z.0 in
    let a = filters_fine (filters_given f) _ n z.1 in
    let b = knowledge_fine (knowledge_given k) _ n a.3 in
    let c = room_enough (length out) w n b.3 in
    let output : out' ≡ w ++ drop (length w) out = h.1 ∙ ap (λ (o : Wrote). ask.ask_output o w out) z.1 in
    let told : report' ≡ placed (three_numbers 0 0 n) report = h.2 ∙ ap (λ (o : Wrote). placed (wrote_report o) report) z.1 in
    let number : report_number 2 report' ≡ n = rw told (three_numbers_lem 0 0 n report room (omega arith) (omega arith) (omega arith)).2 in
    let is : take (report_number 2 report') out' ≡ w = rw (number, output) (take_at w (drop (length w) out) n c.1) in
    record { bytes_are = is; back = rw (is, a.2) (ask_read id limit f k a.0 a.1 b.0 b.1 hi hl a.2 b.2 c.0 []) }

-- ---- the knowledge in it

-- what stands behind a place, and is not empty, stands within
part_within : (n p : ℕ) (w v : List ℕ) → take n (drop p w) ≡ v → 0 < length v → p < length w
part_within n p w v e h =
    let a = ap length e in
    let b = length-take n (drop p w) in
    let c = length-drop p w in
    omega arith

-- the report tells where it stands
reads_part : (w report report' k' v : List ℕ) (x : Received) → answer_in w ≡ answer.Is x → take x.length (drop x.knowledge w) ≡ v → 0 < length v
    → x.length < 2 ^ 64 → 24 ≤ length report → HubReads w 0 report report' → k' ≡ take (report_number 2 report') (drop (report_number 1 report') w) → k' ≡ v
reads_part w report report' k' v x e part some size room h is =
    let told : report' ≡ report_after (answer.Is x) report = h.1 ∙ ap (λ (a : ReadAnswer). report_after a report) e in
    let within = part_within x.length x.knowledge w v part some in
    let short = read_within w x e in
    let n = read_numbers x report room (omega arith) size in
    is ∙ rw (told, n.1, n.2) part

reads_knowledge : (s q : List ℕ) (room : ℕ) (w : List ℕ) → DemandTwo s q room w → (report report' k' : List ℕ) → 24 ≤ length report → HubReads w 0 report report'
    → k' ≡ take (report_number 2 report') (drop (report_number 1 report') w) → k' ≡ knowledge_bytes (ranges_in w)
reads_knowledge s q room w h report report' k' long reads is =
    let r = h.read in
    let size = knowledge_size (ranges_in w) in
    let most = r.most in
    reads_part w report report' k' (knowledge_bytes (ranges_in w)) _ r.read r.knowledge_is (omega arith) (omega arith) long reads is

-- ---- the turn

-- what a turn comes to: its request reads as what was handed in, and its answer holds what demand 2 says; the knowledge of this is handed
-- in next
pub record TurnTells (s f k w k' : List ℕ) : Type 0 where
  pub request : List ℕ
  pub room : ℕ
  pub bytes : AllBytes request
  pub filters : filters_of request ≡ filters_in f
  pub known : known_in request ≡ (knowledge_of k).ranges
  pub gave : GivesAnswer s request room w
  pub held : DemandTwo s request room w
  pub next_is_lem : k' ≡ knowledge_bytes (ranges_in w)

pub turn_tells : (s f k w k' : List ℕ) → AllBytes s → AllBytes f → AllBytes k → Exchange s f k w k' → TurnTells s f k w k'
turn_tells s f k w k' bs bf bk t =
    let c = t.choice in
    let l = t.lends in
    let q = take (report_number 2 t.report_of_ask) t.ask_out in
    let a = asks_read c.id c.limit f k c.ask_out t.ask_out c.report_of_ask t.report_of_ask l.id l.limit l.report_of_ask t.asks in
    let bq : AllBytes q = subst (λ (v : List ℕ). AllBytes v) (sym a.bytes_are) (ask_bytes_lem c.id c.limit f k bf bk) in
    let out = c.block (report_number 2 t.report_of_length) in
    let gave : GivesAnswer s q c.offered w =
    exported_pair c.report_of_length t.report_of_length t.tells l.report_of_length 0 out w c.report t.report (l.block (report_number 2 t.report_of_length)) t.writes refl in
    let held : DemandTwo s q c.offered w = demand_two s q bs bq c.offered w gave in
    record {
      request = q;
      room = c.offered;
      bytes = bq;
      filters = a.back.filters;
      known = a.back.known;
      gave = gave;
      held = held;
      next_is_lem = reads_knowledge s q c.offered w held c.report_of_read t.report_of_read k' l.report_of_read t.reads t.next;
    }

module _ (s f k w k' : List ℕ) (bs : AllBytes s) (bf : AllBytes f) (bk : AllBytes k) (t : Exchange s f k w k') where
  abbrev tells : TurnTells s f k w k'
  tells = turn_tells s f k w k' bs bf bk t

  -- sent back, the knowledge tells the answer's ranges
  pub next_ranges : (knowledge_of k').ranges ≡ ranges_in w
  next_ranges =
      ap (λ (v : List ℕ). (knowledge_of v).ranges) tells.next_is_lem
      ∙ (knowledge_sent_back (ranges_in w) tells.held.read.normal tells.held.read.fit tells.held.read.most).1

  pub turn_answered : AnsweredAsk s (filters_in f) (knows_by k) w (knows_by k')
  turn_answered =
      record {
        request = tells.request;
        room = tells.room;
        bytes = tells.bytes;
        filters = tells.filters;
        carried = λ x h. ap (λ (l : List Range). knows_key l x) (sym tells.known);
        gave = tells.gave;
        told = λ x h. ap (λ (l : List Range). knows_key l x) next_ranges;
      }

  pub next_bytes : AllBytes k'
  next_bytes = subst (λ (v : List ℕ). AllBytes v) (sym tells.next_is_lem) (knowledge_bytes_lem (ranges_in w))

-- ---- the talk

pub bench_talk : (s f : List ℕ) → AllBytes s → AllBytes f → {k k' : List ℕ} {ws : List (List ℕ)} → AllBytes k → BenchTalk s f k ws k'
    → Talk s (filters_in f) (knows_by k) ws (knows_by k')
bench_talk s f bs bf bk done = over
bench_talk s f bs bf bk (next {k = k} {m = m} {a = w} t c) =
    then (turn_answered s f k w m bs bf bk t) (bench_talk s f bs bf (next_bytes s f k w m bs bf bk t) c)
