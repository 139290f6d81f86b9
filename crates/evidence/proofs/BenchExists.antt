-- Talks of a bench are not about nothing: on a store that reads, with filters that read and a first knowledge of at most 256 ranges and
-- entries, there is for every list of choices a talk with a turn for each of them, made under that choice, if the buffers for the
-- requests and the lengths that are offered for the answers are ample: the bench asks by hub_length, lends exactly so much, and writes,
-- and no ask is refused for room. A reader needs the statement of bench-chooses only.
-- Assumes nothing.
use mathlib.Core.Path.{◌≡◌, refl, sym, ap, ◌∙◌, subst}
use mathlib.Core.List.{List, [], ◌∷◌, map}
use Prim.Native.Nat.{ℕ, suc, ◌+◌, ◌*◌, ◌≤◌}
use native.Mathlib.Omega.{arith}
use lib.ListN.{length, take, drop, length-map, length-take}
use Rattle.laws.specs.Bytes.{AllBytes}
use Rattle.laws.specs.Placed.{placed}
use Rattle.laws.proofs.Cases.{by_eq}
use Rattle.numbers.specs.Refusals.{longest_input, tell_wrote}
use Rattle.numbers.specs.Results.Wrote.{Wrote}
use Rattle.numbers.specs.Results.Wrote as wrote
use Rattle.numbers.proofs.OneAnswers.{wrote_telling}
use Rattle.objects.specs.Steps.{value_of}
use Rattle.objects.specs.Results.Reading.{At}
use Rattle.talk.specs.Each.{Each}
use Rattle.talk.specs.Series.Chain.{done, next}
use Rattle.talk.specs.declared.range.Range.{Range}
use Rattle.talk.proofs.Counts.{length_with}
use Rattle.talk.proofs.Delivery.{length_wanted}
use Rattle.store.specs.Knowledge.{most_said}
use Rattle.store.specs.KnowledgeWritten.{knowledge_bytes}
use Rattle.store.specs.Store.{store_walk, Stands}
use Rattle.order.specs.Groups.{group_serial}
use Rattle.store.specs.declared.element.Element.{Element}
use Rattle.store.proofs.ElementWritten.{compact_most}
use Rattle.request.specs.Message.{filters_of}
use Rattle.pages.specs.Answer.{Ask, answered, number_in, ask_of, known_in, outcome, output_after, page_bytes, page_ranges}
use Rattle.pages.specs.Choice.{knows_key, lets_group, wanted_in}
use Rattle.pages.specs.Cases.{smallest, Asks}
use Rattle.pages.specs.Decision.{most_carried}
use Rattle.pages.proofs.PageCases.{page_answered}
use Rattle.pages.proofs.Refusing.{asked_outcome}
use Rattle.client.specs.Ask.{filters_given, knowledge_given, knowledge_of, ask_wrote}
use Rattle.client.specs.Ask as ask
use Rattle.client.specs.AskWritten.{constraint_bytes, ask_front, ask_bytes}
use Rattle.client.specs.Read.{answer_in, tell_read_answer}
use Rattle.client.specs.Results.ReadAnswer.{ReadAnswer}
use Rattle.client.proofs.AskAgain.{knowledge_size, knowledge_sent_back}
use Rattle.client.proofs.AskGiven.{sent_done, both_judged}
use Rattle.client.proofs.AskLengths.{length_none, length_constraint, length_ask}
use Rattle.client.proofs.CallBack.{asked_size}
use Rattle.hub.specs.Call.{report_bytes, hub_outcome, HubTellsLength, HubWritesAnswer}
use Rattle.hub.specs.Bench.{wrote_report, HubAsks, report_after, HubReads}
use Rattle.hub.proofs.Laws.{tables_enough}
use Rattle.evidence.specs.Calling.{report_number, exported_pair}
use Rattle.evidence.specs.Talk.{elements_of, groups_of, leaves_in, wanted_of, ranges_in}
use Rattle.evidence.specs.Bench.{filters_in, knows_by, said_by, Choice, Exchange, BenchTalk, choices_in, Ample}
use Rattle.evidence.proofs.Sending.{groups_most}
use Rattle.evidence.proofs.Calling.{exported_exact}
use Rattle.evidence.proofs.DemandTwo.{DemandTwo, demand_two}
use Rattle.evidence.proofs.BytesWritten.{ask_bytes_lem}
use Rattle.evidence.proofs.Steps.{sent_room}
use Rattle.evidence.proofs.Said.{said_by_lem}
use Rattle.evidence.proofs.Serials.{group_range, groups_with}
use Rattle.evidence.proofs.Turns.{AskReads, asks_read, turn_tells, next_ranges, next_bytes}

-- ---- how long a request is

constraint_most : (limit : ℕ) → length (constraint_bytes limit) ≤ 13
constraint_most limit =
    by_eq limit 0xFFFFFFFFFFFFFFFF (λ e. let z = length_none limit e in omega arith)
    (λ n. let z = length_constraint limit n in let m = compact_most limit in omega arith)

ask_most : (id limit : ℕ) (f k : List ℕ) → length (ask_bytes id limit f k) ≤ 66 + length f + length k
ask_most id limit f k = let a = length_ask id limit f k in let b = compact_most id in let c = constraint_most limit in omega arith

-- ---- the four calls, where there is room

-- a request is written
ask_written : (id limit : ℕ) (f k out : List ℕ) (p n q v : ℕ) → filters_given f ≡ At p n → knowledge_given k ≡ At q v
    → length (ask_bytes id limit f k) ≤ longest_input → length (ask_bytes id limit f k) ≤ length out
    → ask_wrote id limit f k (length out) ≡ wrote.Done (length (ask_bytes id limit f k))
ask_written id limit f k out p n q v hf hk short room =
    let w = ask_bytes id limit f k in
    let h = both_judged id limit f k out p n q v (wrote.Done (length w)) _ hf hk (sent_done (length out) w out short room) in
    sym (wrote_telling (wrote.Done (length w)) (ask_wrote id limit f k (length out)) h.0)

-- what it then leaves
abbrev asked_out : ℕ → ℕ → List ℕ → List ℕ → List ℕ → List ℕ
asked_out id limit f k out = ask.ask_output (ask_wrote id limit f k (length out)) (ask_bytes id limit f k) out

abbrev ask_report : ℕ → ℕ → List ℕ → List ℕ → List ℕ → List ℕ → List ℕ
ask_report id limit f k out report = placed (wrote_report (ask_wrote id limit f k (length out))) report

asks : (id limit : ℕ) (f k out report : List ℕ) (n : ℕ) → ask_wrote id limit f k (length out) ≡ wrote.Done n
    → HubAsks id limit f k 0 out (asked_out id limit f k out) report (ask_report id limit f k out report)
asks id limit f k out report n e = (ap (λ (o : Wrote). (tell_wrote o).number) (sym e), refl, refl)

-- its length is told
abbrev length_report : List ℕ → List ℕ → ℕ → List ℕ → List ℕ
length_report s q offered report = placed (report_bytes (hub_outcome s q offered)) report

tells : (s q : List ℕ) (offered : ℕ) (report w : List ℕ) (all : List Element) (l : List Range) → outcome s q offered ≡ answered w all l
    → HubTellsLength s q offered 0 report (length_report s q offered report)
unfolding number_in
tells s q offered report w all l e = (ap number_in (sym (tables_enough s q offered ∙ e)), refl)

-- it is written
writes : (s q out report w : List ℕ) (all : List Element) (l : List Range) → hub_outcome s q (length out) ≡ answered w all l
    → HubWritesAnswer s q 0 out (output_after (hub_outcome s q (length out)) out) report (placed (report_bytes (hub_outcome s q (length out))) report)
unfolding number_in
writes s q out report w all l e = (ap number_in (sym e), refl, refl)

-- and the answer is read
reads : (s q : List ℕ) (room : ℕ) (w report : List ℕ) → DemandTwo s q room w → HubReads w 0 report (report_after (answer_in w) report)
reads s q room w report h = (ap (λ (a : ReadAnswer). (tell_read_answer a).number) (sym h.read.read), refl)

-- ---- an ask that reads is answered, while the ranges and the wanted groups together are at most what a page may carry

-- a page adds at most a range for each of its groups
page_ranges_lem : (a : Ask) (j : ℕ) → length (page_ranges a j) ≤ length a.known + length a.wanted
unfolding page_ranges
page_ranges_lem a j =
    let page = take j a.wanted in
    let e = ap length (groups_with page a.known) in
    omega (arith, e, length_with a.known (map group_range page), length-map page group_range, length-take j a.wanted)

ask_answered : (s f k q : List ℕ) (id limit room : ℕ) → AllBytes s → AllBytes q → Stands (store_walk s).last → AskReads id limit f k q
    → length (knowledge_of k).ranges + length (wanted_of s (filters_in f) (knows_by k)) ≤ most_carried → length s + 65536 ≤ room
    → (w : List ℕ) × (all : List Element) × (l : List Range) × (outcome s q room ≡ answered w all l)
unfolding wanted_in lets_group
ask_answered s f k q id limit room bs bq h r few ample =
    let a = ask_of s (elements_of s) q id limit in
    let x : Asks s q a =
    record {
      id = id;
      limit = limit;
      place = length (ask_front id) + length (constraint_bytes limit);
      count = value_of (filters_given f);
      known = length (knowledge_of k).ranges;
      store_reads = h;
      request_reads = r.back.answer;
      asked = refl;
    } in
    let m : length (known_in q) + length (wanted_of s (filters_of q) (knows_key (known_in q))) ≤ most_carried = rw (r.back.filters, r.back.known) few in
    let most : (j : ℕ) → length (page_ranges a j) ≤ most_carried = λ j. let z = page_ranges_lem a j in omega arith in
    let size = asked_size s q bs bq a x (smallest a) (most (smallest a)) in
    let z = page_answered a room (λ p. most 1) (omega arith) in
    (page_bytes a z.0, a.elements, page_ranges a z.0, asked_outcome s q a room x ∙ z.1)

-- ---- a turn

-- the bench can go on from the knowledge k, where it began with `first`
record CanGoOn (s f first k : List ℕ) : Type 0 where
  bytes : AllBytes k
  place : ℕ
  value : ℕ
  given : knowledge_given k ≡ At place value
  size : length k ≤ length first + (28 + 36 * most_said)
  few : length (knowledge_of k).ranges + length (wanted_of s (filters_in f) (knows_by k)) ≤ most_carried

-- so it can from what it began with ..
go_on_first : (s f k : List ℕ) → AllBytes k → (q v : ℕ) → knowledge_given k ≡ At q v → said_by k ≤ 256 → CanGoOn s f k k
go_on_first s f k b q v e said =
    let a = said_by_lem k said in
    let c = length_wanted group_serial (leaves_in s (filters_in f)) (knows_by k) (groups_of s) in
    let d = groups_most s in
    record { bytes = b; place = q; value = v; given = e; size = omega arith; few = omega arith }

-- .. and then from what each turn leaves
go_on_next : (s f first k w k' : List ℕ) → AllBytes s → AllBytes f → Exchange s f k w k' → CanGoOn s f first k → CanGoOn s f first k'
go_on_next s f first k w k' bs bf turn g =
    let t = turn_tells s f k w k' bs bf g.bytes turn in
    let most = t.held.read.most in
    let sent = knowledge_sent_back (ranges_in w) t.held.read.normal t.held.read.fit most in
    let long = knowledge_size (ranges_in w) in
    let same = ap length t.next_is_lem in
    let before = g.few in
    let after = rw (t.filters, t.known) at (sent_room s t.request t.room bs w t.held) in
    record {
      bytes = next_bytes s f k w k' bs bf g.bytes turn;
      place = length (knowledge_bytes (ranges_in w));
      value = 0;
      given = ap knowledge_given t.next_is_lem ∙ sent.0;
      size = omega arith;
      few =
          subst (λ (l : List Range). length l + length (wanted_of s (filters_in f) (knows_key l)) ≤ most_carried) (sym (next_ranges s f k w k' bs bf g.bytes turn))
          (omega arith);
    }

module _ (s f first : List ℕ) (bs : AllBytes s) (bf : AllBytes f) (h : Stands (store_walk s).last) (p n : ℕ) (filters : filters_given f ≡ At p n)
    (short : length f + length first + 32768 ≤ longest_input) where
  -- a turn under the choice c
  module _ (c : Choice) (ample : Ample s f first c) (k : List ℕ) (g : CanGoOn s f first k) where
    abbrev out' : List ℕ
    out' = asked_out c.id c.limit f k c.ask_out

    abbrev report' : List ℕ
    report' = ask_report c.id c.limit f k c.ask_out c.report_of_ask

    written : HubAsks c.id c.limit f k 0 c.ask_out out' c.report_of_ask report'
    written =
        let m = ask_most c.id c.limit f k in
        let i = g.size in
        let o = ample.ask_out in
        asks c.id c.limit f k c.ask_out c.report_of_ask (length (ask_bytes c.id c.limit f k))
        (ask_written c.id c.limit f k c.ask_out p n g.place g.value filters g.given (omega arith) (omega arith))

    abbrev request : List ℕ
    request = take (report_number 2 report') out'

    request_reads : AskReads c.id c.limit f k request
    request_reads =
        asks_read c.id c.limit f k c.ask_out out' c.report_of_ask report' ample.lends.id ample.lends.limit ample.lends.report_of_ask written

    request_bytes : AllBytes request
    request_bytes = subst (λ (v : List ℕ). AllBytes v) (sym request_reads.bytes_are) (ask_bytes_lem c.id c.limit f k bf g.bytes)

    is_answered : (w : List ℕ) × (all : List Element) × (l : List Range) × (outcome s request c.offered ≡ answered w all l)
    is_answered = ask_answered s f k request c.id c.limit c.offered bs request_bytes h request_reads g.few ample.offered

    -- hub_length tells its length ..
    abbrev told_report : List ℕ
    told_report = length_report s request c.offered c.report_of_length

    length_told : HubTellsLength s request c.offered 0 c.report_of_length told_report
    length_told = tells s request c.offered c.report_of_length is_answered.0 is_answered.1 is_answered.2 is_answered.3

    -- .. and of hub_write a block of exactly so many bytes is never refused
    abbrev out : List ℕ
    out = c.block (report_number 2 told_report)

    abbrev answer : List ℕ
    answer = output_after (hub_outcome s request (length out)) out

    abbrev given_report : List ℕ
    given_report = placed (report_bytes (hub_outcome s request (length out))) c.report

    answer_written : HubWritesAnswer s request 0 out answer c.report given_report
    answer_written =
        let z = exported_exact s request bs request_bytes c.offered c.report_of_length told_report length_told ample.lends.report_of_length out (ample.lends.block (report_number 2 told_report)) in
        writes s request out c.report z.0 z.1 z.2 z.5

    abbrev report_of_read : List ℕ
    report_of_read = report_after (answer_in answer) c.report_of_read

    answer_reads : HubReads answer 0 c.report_of_read report_of_read
    answer_reads =
        reads s request c.offered answer c.report_of_read
        (demand_two s request bs request_bytes c.offered answer
        (exported_pair c.report_of_length told_report length_told ample.lends.report_of_length 0 out answer c.report given_report (ample.lends.block (report_number 2 told_report)) answer_written refl))

    abbrev next_knowledge : List ℕ
    next_knowledge = take (report_number 2 report_of_read) (drop (report_number 1 report_of_read) answer)

    turn : Exchange s f k answer next_knowledge
    turn =
        record {
          choice = c;
          lends = ample.lends;
          ask_out = out';
          report_of_ask = report';
          asks = written;
          report_of_length = told_report;
          tells = length_told;
          report = given_report;
          writes = answer_written;
          report_of_read = report_of_read;
          reads = answer_reads;
          next = refl;
        }

  -- a turn for each choice
  turns : (choices : List Choice) → Each (Ample s f first) choices → (k : List ℕ) → CanGoOn s f first k
      → (ws : List (List ℕ)) × (k' : List ℕ) × (length ws ≡ length choices) × (talk : BenchTalk s f k ws k') × (choices_in talk ≡ choices)
  unfolding turn
  turns [] e k g = ([], k, refl, done, refl)
  turns (c ∷ choices) e k g =
      let t = turn c e.0 k g in
      let z = turns choices e.1 (next_knowledge c e.0 k g) (go_on_next s f first k (answer c e.0 k g) (next_knowledge c e.0 k g) bs bf t g) in
      (answer c e.0 k g ∷ z.0, z.1, ap suc z.2, next t z.3, ap (λ (l : List Choice). c ∷ l) z.4)

module _ (s f k : List ℕ) (bs : AllBytes s) (bf : AllBytes f) (bk : AllBytes k) (h : Stands (store_walk s).last) (p n : ℕ)
    (filters : filters_given f ≡ At p n) (q v : ℕ) (given : knowledge_given k ≡ At q v) (said : said_by k ≤ 256)
    (short : length f + length k + 32768 ≤ longest_input) (choices : List Choice) (ample : Each (Ample s f k) choices) where
  pub bench_chooses : (ws : List (List ℕ)) × (k' : List ℕ) × (length ws ≡ length choices) × (talk : BenchTalk s f k ws k') × (choices_in talk ≡ choices)
  bench_chooses = turns s f k bs bf h p n filters short choices ample k (go_on_first s f k bk q v given said)
