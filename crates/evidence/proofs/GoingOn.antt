-- Why a talk goes on until it ends: from a first knowledge of at most 256 ranges the page of 1 never needs over 512, so 9 for a page does
-- not come, and an ask that is read is answered where there is room for its smallest page. For the proof of demand 3; a reader of the
-- demands can skip it.
-- Assumes nothing.
use mathlib.Core.Path.{◌≡◌, refl, sym, ap, ◌∙◌, subst}
use mathlib.Core.Bool.{Bool}
use mathlib.Core.List.{List, [], ◌∷◌, map}
use mathlib.Core.Logic.{⊎_elim}
use Prim.Native.Nat.{ℕ, ◌≤◌}
use native.Mathlib.Omega.{arith}
use lib.ListN.{length, take}
use Rattle.std.specs.Prelude.{Ok}
use Rattle.laws.specs.Bytes.{AllBytes}
use Rattle.laws.proofs.Cases.{impossible}
use Rattle.numbers.specs.declared.refusal.Refusal.{Refusal}
use Rattle.numbers.proofs.OneAnswers.{values_of}
use Rattle.talk.specs.RangeSeries.{with_ranges, Ranged}
use Rattle.talk.specs.Ranges.{Normal, AllFit}
use Rattle.talk.specs.Series.{Answer, Chain}
use Rattle.talk.specs.Series.Chain.{done, next}
use Rattle.talk.specs.Series.Trace.{over, idle, then}
use Rattle.talk.specs.declared.range.Range.{Range}
use Rattle.talk.proofs.Counts.{never_crowded}
use Rattle.store.specs.Element.{same_key}
use Rattle.order.specs.Groups.{Group, group_serial}
use Rattle.store.specs.declared.element.Key.{Key}
use Rattle.store.proofs.Chains.{same_turn}
use Rattle.request.specs.Meaning.{Filter}
use Rattle.request.specs.Message.{filters_of}
use Rattle.request.proofs.RequestFits.{known_fit, known_normal}
use Rattle.pages.specs.Answer.{Ask, answered, number_in, answer_told, known_in, outcome, page_bytes, page_ranges, TellsLength, WritesAnswer}
use Rattle.pages.specs.Results.Answered.{Answered}
use Rattle.pages.specs.Results.Answered as answer
use Rattle.pages.specs.Choice.{knows_key, lets_group, wanted_in}
use Rattle.pages.specs.Cases.{Few, smallest, Asks}
use Rattle.pages.proofs.PageCases.{page_answered}
use Rattle.pages.proofs.Refusing.{asked_most, asked_outcome, tables_fine, nine_of_call}
use Rattle.pages.proofs.TwoCalls.{pair_gives}
use Rattle.hub.specs.Call.{HubTellsLength, HubWritesAnswer}
use Rattle.hub.proofs.Laws.{tables_enough}
use Rattle.evidence.specs.Calling.{report_number, GivesRefusal}
use Rattle.evidence.specs.Refusing.{Tables}
use Rattle.evidence.specs.Talk.{KeyFits, groups_of, leaves_in, wanted_of, SameSet, ranges_in, Talk}
use Rattle.store.proofs.Rows.{same_itself}
use Rattle.evidence.proofs.Serials.{group_range, group_keys, groups_with, set_one}
use Rattle.evidence.proofs.Calling.{refusal_outcome, exported_pair_told}
use Rattle.evidence.proofs.Sending.{serials_fit, serials_differ, groups_most}
use Rattle.evidence.proofs.Steps.{answer, answered_ranged, ranges_fine}

-- ---- what is known, as a list: each ask carries the list of the last answer, since a set has one normal form

-- after the asks ws that began with the ranges l
record Known (s : List ℕ) (fs : List Filter) (l : List Range) (know' : Key → Bool) : Type 0 where
  ranges : List Range
  answers : List (Answer Group)
  chain : Chain (Ranged group_serial group_range knows_key (groups_of s) (leaves_in s fs)) l answers ranges
  normal : Normal ranges
  fit : AllFit ranges
  same : SameSet know' ranges

-- a request that carries the set carries the list
carried_one : (q : List ℕ) → AllBytes q → (know : Key → Bool) → SameSet know (known_in q) → (l : List Range) → Normal l → AllFit l → SameSet know l → known_in q ≡ l
carried_one q b know c l n f e =
    set_one (known_in q) l (known_normal q []).0 n (known_fit q [] b) f (λ k g. sym (c k g) ∙ e k g)

known : (s : List ℕ) → AllBytes s → (fs : List Filter) {know know' : Key → Bool} {ws : List (List ℕ)} → Talk s fs know ws know' → (l : List Range) → Normal l → AllFit l
    → SameSet know l → Known s fs l know'
known s b fs over l n f e = record { ranges = l; answers = []; chain = done; normal = n; fit = f; same = e }
known s b fs (idle {k = k} {m = m} q t) l n f e = known s b fs t l n f (subst (λ (set : Key → Bool). SameSet set l) q.same e)
known s b fs (then {k = k} {m = m} {a = w} r t) l n f e =
    let one : known_in r.request ≡ l = carried_one r.request r.bytes k r.carried l n f e in
    let g = ranges_fine s b fs k m w r in
    let z = known s b fs t (ranges_in w) g.0 g.1 r.told in
    record {
      ranges = z.ranges;
      answers = answer s b fs k m w r ∷ z.answers;
      chain = next (subst (λ (x : List Range). Ranged group_serial group_range knows_key (groups_of s) (leaves_in s fs) x (answer s b fs k m w r) (ranges_in w)) one (answered_ranged s b fs k m w r)) z.chain;
      normal = z.normal;
      fit = z.fit;
      same = z.same;
    }

-- ---- the next ask

module _ (s : List ℕ) (b : AllBytes s) (fs : List Filter) (know' : Key → Bool) (l : List Range) (n : Normal l) (f : AllFit l) (few : length l ≤ 256)
    (ws : List (List ℕ)) (t : Talk s fs (knows_key l) ws know') (q : List ℕ) (bytes : AllBytes q) (filters : filters_of q ≡ fs)
    (carried : SameSet know' (known_in q)) (a : Ask) (asks : Asks s q a) where
  after : Known s fs l know'
  after = known s b fs t l n f (λ k g. refl)

  ranges_are : known_in q ≡ after.ranges
  ranges_are = carried_one q bytes know' carried after.ranges after.normal after.fit after.same

  -- the page of 1 is that of the list
  page_is : page_ranges a 1 ≡ with_ranges after.ranges (map group_range (take 1 (wanted_of s fs (knows_key after.ranges))))
  unfolding page_ranges wanted_in lets_group
  page_is =
      ap (λ (y : Ask). page_ranges y 1) asks.asked
      ∙ rw (filters, ranges_are) (groups_with (take 1 (wanted_of s fs (knows_key after.ranges))) after.ranges)

  -- the page of 1 never needs over 512 ranges
  pub few_ranges : Few a
  unfolding page_ranges
  few_ranges p =
      rw (asked_most s q a asks, page_is)
      (never_crowded same_key KeyFits group_serial group_range knows_key group_keys (groups_of s) (leaves_in s fs) (serials_fit s b asks.store_reads) same_itself same_turn
      (serials_differ s) n few (groups_most s) after.chain)

-- ---- an ask that is read, whose page of 1 does not need over 512 ranges

module _ (s q : List ℕ) (a : Ask) (asks : Asks s q a) (few : Few a) where
  -- 9 for a page does not come
  pub no_page_nine : (room : ℕ) → GivesRefusal s q room 9 → ⊥
  unfolding number_in
  no_page_nine room r =
      ⊎_elim (λ (z : 9 ≡ 13). omega arith)
      (λ z. let y = nine_of_call s q room a asks (ap number_in z.1 ∙ sym z.2) in let x = few y.0 in omega arith)
      (refusal_outcome s q room 9 r)

  -- where there is room for the smallest page, it is answered
  is_answered : (room : ℕ) → length (page_bytes a (smallest a)) ≤ room → (k : ℕ) × (outcome s q room ≡ answered (page_bytes a k) a.elements (page_ranges a k))
  is_answered room h = let z = page_answered a room few h in (z.0, asked_outcome s q a room asks ∙ z.1)

  -- by the exported calls: the one that tells the length, and the one that writes
  pub told_zero : (r offered : ℕ) (report report' : List ℕ) → length (page_bytes a (smallest a)) ≤ offered → HubTellsLength s q offered r report report' → r ≡ 0
  unfolding number_in
  told_zero r offered report report' l h = h.0 ∙ ap number_in (tables_enough s q offered ∙ (is_answered offered l).1)

  pub written_zero : (r : ℕ) (out out' report report' : List ℕ) → length (page_bytes a (smallest a)) ≤ length out → HubWritesAnswer s q r out out' report report' → r ≡ 0
  written_zero r out out' report report' l h = told_zero r (length out) report report' l (h.0, h.2)

  -- and by those that are lent tables
  pub none_told : (r : Refusal) (offered : ℕ) (rows rows' ranges ranges' : List ℕ) → Tables (length rows) (length ranges) → length (page_bytes a (smallest a)) ≤ offered
      → TellsLength s q offered (answer.Refused r) rows rows' ranges ranges' → ⊥
  unfolding answer_told
  none_told r offered rows rows' ranges ranges' t l h =
      let e = tables_fine s q (length rows) (length ranges) offered t.0 t.1 ∙ (is_answered offered l).1 in
      let z = values_of _ _ (rw e at h.0) in
      impossible (cc)

  pub none_refused : (r : Refusal) (rows rows' ranges ranges' out out' : List ℕ) → Tables (length rows) (length ranges) → length (page_bytes a (smallest a)) ≤ length out
      → WritesAnswer s q (answer.Refused r) rows rows' ranges ranges' out out' → ⊥
  none_refused r rows rows' ranges ranges' out out' t l h = none_told r (length out) rows rows' ranges ranges' t l (h.0, h.1, h.2)

  -- and by both calls, where the second is lent exactly the length that the first told
  pub pair_zero : AllBytes s → AllBytes q → (r offered : ℕ) (told told' : List ℕ) → length (page_bytes a (smallest a)) ≤ offered → HubTellsLength s q offered r told told'
      → 24 ≤ length told → (number : ℕ) (out out' report report' : List ℕ) → length out ≡ report_number 2 told' → HubWritesAnswer s q number out out' report report'
      → (r ≡ 0) × (number ≡ 0)
  pair_zero b d r offered told told' l h long number out out' report report' e k =
      let z : r ≡ 0 = told_zero r offered told told' l h in
      let g = subst (λ (n : ℕ). HubTellsLength s q offered n told told') z h in
      (z, (exported_pair_told s q b d offered told told' g long number out out' report report' e k).0)

  pub pair_sent_lem : (r : Answered) (offered : ℕ) (rows rows' ranges ranges' : List ℕ) → Tables (length rows) (length ranges) → length (page_bytes a (smallest a)) ≤ offered
      → TellsLength s q offered r rows rows' ranges ranges'
      → (n : ℕ) × (rowCount : ℕ) × (rangeCount : ℕ) × (r ≡ answer.Sent n rowCount rangeCount)
      × ((t : Answered) (rowsThen rowsThen' rangesThen rangesThen' out out' : List ℕ) → Tables (length rowsThen) (length rangesThen) → length out ≡ n
      → WritesAnswer s q t rowsThen rowsThen' rangesThen rangesThen' out out' → t ≡ r)
  pair_sent_lem (answer.Refused x) offered rows rows' ranges ranges' t l h = absurd (none_told x offered rows rows' ranges ranges' t l h)
  pair_sent_lem (Ok x) offered rows rows' ranges ranges' t l h = (
    x.length,
    x.rows,
    x.ranges,
    refl,
    λ t rowsThen rowsThen' rangesThen rangesThen' out out' long e k.
        (pair_gives s q offered rows ranges x.length x.rows x.ranges rows' ranges' h t rowsThen rowsThen' rangesThen rangesThen' out out' long.0 long.1 e k).0,
  )
