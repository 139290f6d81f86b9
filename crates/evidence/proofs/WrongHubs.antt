-- Hubs that must not pass, each ruled out over bytes by what is demanded of the call: document 01, 'These must not pass' and 'Slips that
-- look right', the weekend's, and those of document 02, Q-3 and Q-6. Each statement is about every store and every request, and says what such a hub would break; where
-- it is only that there are inputs which are answered, one of them is named. A reader needs the statements marked `pub`, and may skip
-- what stands behind a `=`.
-- Assumes nothing.
use mathlib.Core.Path.{◌≡◌, refl, sym, ap, subst, ◌∙◌}
use mathlib.Core.Bool.{Bool, true, false, not}
use mathlib.Core.List.Memᴰ.{head}
use mathlib.Core.List.Memᴰ.{tail}
use mathlib.Core.List.{List, [], ◌∷◌, ◌++◌, map, map-append, append-nil, Memᴰ as In}
use mathlib.Core.Logic.{⊎_elim}
use Prim.Native.Nat.{ℕ, ◌+◌, ◌*◌, ◌≤◌, ◌<◌}
use native.Mathlib.Omega.{arith}
use lib.ListN.{length, get_or, take, drop, length-append}
use lib.Seq.{take_at, drop_at}
use Rattle.std.specs.Prelude.{Ok}
use Rattle.laws.specs.Bytes.{AllBytes, bytes}
use Rattle.laws.specs.Once.{seen}
use Rattle.laws.specs.Placed.{placed}
use Rattle.laws.specs.Pick.{pick}
use Rattle.laws.proofs.Cases.{neither, impossible}
use Rattle.laws.proofs.Twice.{seen_append}
use Rattle.numbers.specs.Refusals.{too_short, refusal_number}
use Rattle.numbers.specs.declared.refusal.Refusal.{Refusal}
use Rattle.talk.specs.Series.{Answer, is_some, joined_pages}
use Rattle.talk.specs.Wanted.{is_wanted, wanted}
use Rattle.ranges.specs.RangeTable.{range_width}
use Rattle.store.specs.Element.{same_key}
use Rattle.store.specs.declared.element.Element.{Element}
use Rattle.store.specs.declared.element.Key.{Key}
use Rattle.order.specs.Order.{ordered, ranked_rows, ranked_width}
use Rattle.order.specs.Groups.{Group, members, members_of, group_serial}
use Rattle.order.proofs.GroupMembers.{members_append, length_least}
use Rattle.order.proofs.Ordering.{ranked_length}
use Rattle.enter.proofs.Keys.{member_seen, once_one}
use Rattle.enter.proofs.Members.{of_each}
use Rattle.request.specs.Meaning.{Filter}
use Rattle.request.specs.Message.{filters_of, request_in}
use Rattle.request.specs.Response.{version_bytes}
use Rattle.request.specs.Results.Request.{Request}
use Rattle.request.specs.Results.Request as request
use Rattle.pages.specs.Answer.{Ask, number_in, known_in, page_bytes, range_rows, outcome, TellsLength, WritesAnswer}
use Rattle.pages.specs.Cases.{Few, smallest, Asks}
use Rattle.pages.specs.Choice.{knows_key}
use Rattle.pages.specs.Written.{answer_bytes}
use Rattle.pages.specs.Results.Answered.{Answered, Refused, Sent}
use Rattle.pages.proofs.Copying.{length_range_rows}
use Rattle.client.specs.Back.{set_down}
use Rattle.client.specs.Read.{package_in, answer_in}
use Rattle.client.specs.declared.answer.Received.{Received}
use Rattle.client.specs.Results.ReadAnswer.{ReadAnswer}
use Rattle.client.specs.Results.ReadAnswer as read
use Rattle.report.specs.Report.{refusal_report}
use Rattle.hub.specs.Call.{HubTellsLength, HubWritesAnswer}
use Rattle.hub.proofs.Laws.{tables_enough}
use Rattle.evidence.specs.Calling.{report_number, GivesAnswer}
use Rattle.evidence.specs.Refusing.{Tables, short}
use Rattle.evidence.specs.Results.{Result, TablesHold, AnswerStands, LengthTold}
use Rattle.evidence.specs.Talk.{KeyFits, serial_of, groups_of, leaves_in, wanted_of, ranges_in, Talk, AllReadAs}
use Rattle.evidence.proofs.Kept.{kept_was}
use Rattle.evidence.proofs.Sending.{serials_fit, serials_differ}
use Rattle.evidence.proofs.Calling.{told_is_given}
use Rattle.evidence.proofs.DemandOne.{demand_one_length, demand_one_write, demand_one_hub_length, demand_one_hub_write, demand_one_length_numbers, demand_one_write_numbers, demand_one_hub_length_numbers, demand_one_hub_write_numbers}
use Rattle.evidence.proofs.DemandTwo.{DemandTwo, demand_two}
use Rattle.evidence.proofs.DemandThree.{DemandThree, demand_three}
use Rattle.evidence.proofs.GoingOn.{told_zero, written_zero, none_told, none_refused}
use Rattle.evidence.proofs.Weekend.{count_in, mark_in, no_empty_partial}
use Rattle.evidence.proofs.Example.{one, asking, one_answered}

-- ---- one that refuses everything: "the table gives each refusal exactly when". Where both inputs are read, a page of 1 does not need over
-- 512 ranges, and the output has room for it (for that of 0, if nothing is wanted), neither call refuses

module _ (s q : List ℕ) (a : Ask) (asks : Asks s q a) (few : Few a) where
  pub tells_no_length : (r : Refusal) (offered : ℕ) (rows rows' ranges ranges' : List ℕ) → Tables (length rows) (length ranges)
      → length (page_bytes a (smallest a)) ≤ offered → TellsLength s q offered (Refused r) rows rows' ranges ranges' → ⊥
  tells_no_length = none_told s q a asks few

  pub hub_tells_no_length : (number offered : ℕ) (report report' : List ℕ) → length (page_bytes a (smallest a)) ≤ offered
      → HubTellsLength s q offered number report report' → (number ≡ 0 → ⊥) → ⊥
  hub_tells_no_length number offered report report' room h z = z (told_zero s q a asks few number offered report report' room h)

  pub refuses_everything : (r : Refusal) (rows rows' ranges ranges' out out' : List ℕ) → Tables (length rows) (length ranges)
      → length (page_bytes a (smallest a)) ≤ length out → WritesAnswer s q (Refused r) rows rows' ranges ranges' out out' → ⊥
  refuses_everything = none_refused s q a asks few

  pub hub_refuses_everything : (number : ℕ) (out out' report report' : List ℕ) → length (page_bytes a (smallest a)) ≤ length out
      → HubWritesAnswer s q number out out' report report' → (number ≡ 0 → ⊥) → ⊥
  hub_refuses_everything number out out' report report' room h z = z (written_zero s q a asks few number out out' report report' room h)

-- such inputs are there: document 01's store of one element, with 132 bytes offered or an output of as many
pub hub_tells_not_one : (number offered : ℕ) (report report' : List ℕ) → offered ≡ 132
    → HubTellsLength one (asking 0 []) offered number report report' → (number ≡ 0 → ⊥) → ⊥
unfolding number_in
hub_tells_not_one number offered report report' room h z =
    z (h.0 ∙ ap number_in (tables_enough one (asking 0 []) offered ∙ ap (outcome one (asking 0 [])) room ∙ one_answered.0))

pub hub_refuses_one : (number : ℕ) (out out' report report' : List ℕ) → length out ≡ 132
    → HubWritesAnswer one (asking 0 []) number out out' report report' → (number ≡ 0 → ⊥) → ⊥
hub_refuses_one number out out' report report' room h z = hub_tells_not_one number (length out) report report' room (h.0, h.2) z

-- ---- one that returns one fixed answer: "demand 2 fixes the bytes". Two requests that are answered by the same bytes have the same id

abbrev pub id_asked : Request → ℕ
id_asked (Ok x) = x.id
id_asked (request.Refused r) = 0

abbrev id_read : ReadAnswer → ℕ
id_read (read.Is x) = x.id
id_read (read.Refused r) = 0

pub one_fixed_answer : (s q s' q' : List ℕ) → AllBytes s → AllBytes q → AllBytes s' → AllBytes q' → (room room' : ℕ) (w : List ℕ)
    → GivesAnswer s q room w → GivesAnswer s' q' room' w → (id_asked (request_in q []) ≡ id_asked (request_in q' []) → ⊥) → ⊥
one_fixed_answer s q s' q' b d b' d' room room' w g g' z =
    let h : DemandTwo s q room w = demand_two s q b d room w g in
    let h' : DemandTwo s' q' room' w = demand_two s' q' b' d' room' w g' in
    z (ap id_asked h.request_reads ∙ ap id_read (sym h.read.read ∙ h'.read.read) ∙ sym (ap id_asked h'.request_reads))

-- ---- one that writes nothing: an answer begins with its version, 12, so an output that began otherwise is not what it was

begins : {s q : List ℕ} (out : List ℕ) {out' : List ℕ} {n rows ranges : ℕ} (x : Result s q (length out) n rows ranges) → AnswerStands x.bytes out out' → get_or out' 0 0 ≡ 12
unfolding page_bytes answer_bytes version_bytes bytes
begins out x h =
    ap (λ (l : List ℕ). get_or l 0 0) (h ∙ ap (λ (w : List ℕ). w ++ drop (length w) out) x.sends.bytes_are)

-- what was sent was not refused
sent_refused : {n rows ranges : ℕ} (r : Refusal) → Sent n rows ranges ≡ Refused r → ⊥
sent_refused r e = impossible (cc)

pub writes_nothing : (s q : List ℕ) (n rowCount rangeCount : ℕ) (rows rows' ranges ranges' out : List ℕ)
    → WritesAnswer s q (Sent n rowCount rangeCount) rows rows' ranges ranges' out out → (get_or out 0 0 ≡ 12 → ⊥) → ⊥
writes_nothing s q n rowCount rangeCount rows rows' ranges ranges' out h z =
    ⊎_elim (λ g. z (begins out g.4 g.6)) (λ g. sent_refused g.0 g.1) (demand_one_write s q _ rows rows' ranges ranges' out out h).gets

pub hub_writes_nothing : (s q out report report' : List ℕ) → HubWritesAnswer s q 0 out out report report' → (get_or out 0 0 ≡ 12 → ⊥) → ⊥
hub_writes_nothing s q out report report' h z =
    ⊎_elim (λ g. z (begins out g.1.3 g.1.4)) (λ g. let e = g.number_is in let f = g.fault.least in omega arith)
    (demand_one_hub_write s q 0 out out report report' h).gets

-- ---- one that clears what it does not fill: "Later rows, and output past the answer, keep their contents"

-- so many rows of each table, and so many bytes of the output, were filled
abbrev pub LaterKept : ℕ → ℕ → ℕ → List ℕ → List ℕ → List ℕ → List ℕ → List ℕ → List ℕ → Type 0
LaterKept n rowCount rangeCount rows rows' ranges ranges' out out' =
    (drop (rowCount * ranked_width) rows' ≡ drop (rowCount * ranked_width) rows)
    × (drop (rangeCount * range_width) ranges' ≡ drop (rangeCount * range_width) ranges)
    × (drop n out' ≡ drop n out)

later_kept : (s q rows rows' ranges ranges' out out' : List ℕ) (n rowCount rangeCount : ℕ) (x : Result s q (length out) n rowCount rangeCount)
    → TablesHold x.asked.elements x.ranges rows rows' ranges ranges' → AnswerStands x.bytes out out' → LaterKept n rowCount rangeCount rows rows' ranges ranges' out out'
later_kept s q rows rows' ranges ranges' out out' n rowCount rangeCount x t h =
    rw (x.rows_are, x.ranges_are, x.length_is, t.0, t.1, h) (
      drop_at (ranked_rows (ordered x.asked.elements)) _ _ (ranked_length x.asked.elements),
      drop_at (range_rows x.ranges) _ _ (length_range_rows x.ranges),
      drop_at x.bytes _ _ refl,
    )

same_sent : (n rowCount rangeCount m rowCount' rangeCount' : ℕ) (rows rows' ranges ranges' out out' : List ℕ)
    → Sent n rowCount rangeCount ≡ Sent m rowCount' rangeCount' → LaterKept m rowCount' rangeCount' rows rows' ranges ranges' out out'
    → LaterKept n rowCount rangeCount rows rows' ranges ranges' out out'
same_sent n rowCount rangeCount m rowCount' rangeCount' rows rows' ranges ranges' out out' e k =
    let a : n ≡ m = grind arith in
    let b : rowCount ≡ rowCount' = grind arith in
    let c : rangeCount ≡ rangeCount' = grind arith in
    rw (a, b, c) k

pub later_cleared : (s q : List ℕ) (n rowCount rangeCount : ℕ) (rows rows' ranges ranges' out out' : List ℕ)
    → WritesAnswer s q (Sent n rowCount rangeCount) rows rows' ranges ranges' out out'
    → (LaterKept n rowCount rangeCount rows rows' ranges ranges' out out' → ⊥) → ⊥
later_cleared s q n rowCount rangeCount rows rows' ranges ranges' out out' h z =
    ⊎_elim
    (λ g.
    z (same_sent n rowCount rangeCount g.0 g.1 g.2 rows rows' ranges ranges' out out' g.3
    (later_kept s q rows rows' ranges ranges' out out' g.0 g.1 g.2 g.4 g.5 g.6)))
    (λ g. sent_refused g.0 g.1)
    (demand_one_write s q (Sent n rowCount rangeCount) rows rows' ranges ranges' out out' h).gets

-- and one whose call that tells the length fills no row, or clears those behind the rows that it fills: "Both fill the tables as the old
-- call did"

-- so many rows of each table are those of the result, and the later ones are as they were
abbrev pub RowsFilled : {s q : List ℕ} {room n rowCount rangeCount : ℕ} → Result s q room n rowCount rangeCount → List ℕ → List ℕ → List ℕ → List ℕ → Type 0
RowsFilled {rowCount = rowCount} {rangeCount = rangeCount} x rows rows' ranges ranges' =
    (take (rowCount * ranked_width) rows' ≡ ranked_rows (ordered x.asked.elements)) × (take (rangeCount * range_width) ranges' ≡ range_rows x.ranges)
    × (drop (rowCount * ranked_width) rows' ≡ drop (rowCount * ranked_width) rows) × (drop (rangeCount * range_width) ranges' ≡ drop (rangeCount * range_width) ranges)

rows_filled : (s q : List ℕ) (offered : ℕ) (rows rows' ranges ranges' : List ℕ) (n rowCount rangeCount : ℕ) (x : Result s q offered n rowCount rangeCount)
    → TablesHold x.asked.elements x.ranges rows rows' ranges ranges' → RowsFilled x rows rows' ranges ranges'
rows_filled s q offered rows rows' ranges ranges' n rowCount rangeCount x t =
    rw (x.rows_are, x.ranges_are, t.0, t.1) (
      take_at (ranked_rows (ordered x.asked.elements)) _ _ (ranked_length x.asked.elements),
      take_at (range_rows x.ranges) _ _ (length_range_rows x.ranges),
      drop_at (ranked_rows (ordered x.asked.elements)) _ _ (ranked_length x.asked.elements),
      drop_at (range_rows x.ranges) _ _ (length_range_rows x.ranges),
    )

not_filled : (s q : List ℕ) (offered n rowCount rangeCount : ℕ) (rows rows' ranges ranges' : List ℕ)
    → ((x : Result s q offered n rowCount rangeCount) → RowsFilled x rows rows' ranges ranges' → ⊥) → LengthTold s q offered (Sent n rowCount rangeCount) rows rows' ranges ranges' → ⊥
not_filled s q offered n rowCount rangeCount rows rows' ranges ranges' z (m, rowCount', rangeCount', e, x, t) =
    let a : n ≡ m = grind (arith, e) in
    let b : rowCount ≡ rowCount' = grind (arith, e) in
    let c : rangeCount ≡ rangeCount' = grind (arith, e) in
    let y : Result s q offered n rowCount rangeCount =
    record {
      asked = x.asked;
      asks = x.asks;
      bytes = x.bytes;
      ranges = x.ranges;
      sends = x.sends;
      length_is = a ∙ x.length_is;
      rows_are = b ∙ x.rows_are;
      ranges_are = c ∙ x.ranges_are;
    } in
    z y (rows_filled s q offered rows rows' ranges ranges' n rowCount rangeCount y t)

pub told_rows_wrong : (s q : List ℕ) (offered n rowCount rangeCount : ℕ) (rows rows' ranges ranges' : List ℕ)
    → TellsLength s q offered (Sent n rowCount rangeCount) rows rows' ranges ranges'
    → ((x : Result s q offered n rowCount rangeCount) → RowsFilled x rows rows' ranges ranges' → ⊥) → ⊥
told_rows_wrong s q offered n rowCount rangeCount rows rows' ranges ranges' h z =
    ⊎_elim (not_filled s q offered n rowCount rangeCount rows rows' ranges ranges' z) (λ g. sent_refused g.0 g.1)
    (demand_one_length s q (Sent n rowCount rangeCount) rows rows' ranges ranges' offered h).gets

-- ---- lists with nothing in them

some_none : (l : List Group) → is_some l ≡ false → length l ≡ 0
some_none [] e = refl
some_none (x ∷ l) e = impossible (cc)

none_some : (l : List Group) → length l ≡ 0 → is_some l ≡ false
none_some [] e = refl
none_some (x ∷ l) e = absurd (omega arith)

none_left : (l : List Group) → is_some l ≡ false → l ≡ []
none_left [] e = refl
none_left (x ∷ l) e = impossible (cc)

-- ---- serial numbers

-- set down elsewhere, elements have their own serial numbers
same_serials : (at : ℕ) (page : List Element) → map serial_of (set_down at page) ≡ map serial_of page
unfolding set_down
same_serials at [] = refl
same_serials at (x ∷ page) = ap (λ (l : List Key). x.serial ∷ l) (same_serials (at + x.length) page)

-- one that no member has, no group has
unseen_groups : (k : Key) (gs : List Group) → seen same_key k (map serial_of (members_of gs)) ≡ false → seen same_key k (map group_serial gs) ≡ false
unfolding seen members_of
unseen_groups k [] h = refl
unseen_groups k (g ∷ gs) h =
    let p = neither (same_key k (group_serial g)) (seen same_key k (map serial_of (g.others ++ members_of gs))) h in
    let q = rw (map-append serial_of g.others (members_of gs)) at p.1 in
    let r = neither (seen same_key k (map serial_of g.others)) (seen same_key k (map serial_of (members_of gs))) (sym (seen_append same_key k (map serial_of g.others) (map serial_of (members_of gs))) ∙ q) in
    rw p.0 (unseen_groups k gs r.1)

-- a group of a list stands in it between others
stands_between : (g : Group) (gs : List Group) → In g gs → (before : List Group) × (after : List Group) × (gs ≡ before ++ (g ∷ after))
stands_between g [] m = elim m [ ]
stands_between g (h ∷ gs) (head e) = ([], gs, ap (λ (y : Group). y ∷ gs) (sym e))
stands_between g (h ∷ gs) (tail m) = let z = stands_between g gs m in (h ∷ z.0, z.1, ap (λ (l : List Group). h ∷ l) z.2)

in_first : {g : Group} (page rest : List Group) → In g page → In g (page ++ rest)
in_first {g = g} [] rest m = elim m [ ]
in_first (h ∷ page) rest (head e) = head e
in_first (h ∷ page) rest (tail m) = tail (in_first page rest m)

-- ---- one answer w, in which a bench reads x

module _ (s q : List ℕ) (b : AllBytes s) (d : AllBytes q) (room : ℕ) (w : List ℕ) (g : GivesAnswer s q room w) (x : Received) (e : answer_in w ≡ read.Is x) where
  -- what was wanted
  abbrev Wanted : List Group
  Wanted = wanted_of s (filters_of q) (knows_key (known_in q))

  held : DemandTwo s q room w
  held = demand_two s q b d room w g

  count : length (members_of held.page) ≡ x.count
  count = ap count_in (sym held.read.read ∙ e)

  all_members : members_of held.page ++ members_of held.rest ≡ members_of Wanted
  all_members = sym (members_append held.page held.rest) ∙ ap members_of held.run

  -- the weekend's: marked partial, with nothing in it
  pub partial_with_nothing : x.count ≡ 0 → x.partial ≡ true → ⊥
  partial_with_nothing = no_empty_partial s q b d room w g x e

  -- one whose page is empty though something is wanted
  pub empty_page : 0 < length Wanted → x.count ≡ 0 → ⊥
  empty_page p n =
      let l = length_least held.page in
      let c = count in
      let none : length held.page ≡ 0 = omega arith in
      let z = some_none Wanted (sym held.some ∙ none_some held.page none) in
      omega arith

  -- one that does not mark its answer though a wanted element remains
  pub unmarked_rest : x.count < length (members_of Wanted) → x.partial ≡ false → ⊥
  unfolding members_of
  unmarked_rest p m =
      let mark : held.marked ≡ x.partial = ap mark_in (sym held.read.read ∙ e) in
      let none = none_left held.rest (sym held.mark ∙ mark ∙ m) in
      let l = length-append (members_of held.page) (members_of held.rest) in
      let k = ap length all_members in
      let z : length (members_of held.rest) ≡ 0 = rw none in
      let n = count in
      omega arith

  -- one that passes over an element, to send a smaller one behind it: what is read is the first of what is wanted, as many as there are
  pub passes_over : ((package_in w).elements ≡ set_down 20 (take x.count (members_of Wanted)) → ⊥) → ⊥
  passes_over z =
      z (held.read.elements_are
      ∙ ap (set_down 20) (sym (take_at (members_of held.page) (members_of held.rest) x.count count) ∙ ap (take x.count) all_members))

  -- one that reports a range from the first to the last serial number sent: what is told and was not known is a serial number sent
  pub first_to_last : (k : Key) → KeyFits k → knows_key (ranges_in w) k ≡ true → knows_key (known_in q) k ≡ false
      → seen same_key k (map serial_of (package_in w).elements) ≡ false → ⊥
  first_to_last k f told unknown unsent =
      let sent : map serial_of (package_in w).elements ≡ map serial_of (members_of held.page) = ap (map serial_of) held.read.elements_are ∙ same_serials 20 (members_of held.page) in
      let none = unseen_groups k held.page (ap (seen same_key k) (sym sent) ∙ unsent) in
      let z : true ≡ false = sym told ∙ held.adds k f ∙ rw unknown none in
      impossible (cc)

  -- one that sends the first member of a group and knows the group (document 02, Q-3: "merely allowing it would lose the second element once
  -- the first is known"): where the serial number of a wanted group is known afterwards, all its members stand in the answer, one behind the
  -- other
  module _ (h : Group) (m : In h Wanted) (told : knows_key (ranges_in w) (group_serial h) ≡ true) where
    wanted_then : In h (groups_of s) × (is_wanted group_serial (leaves_in s (filters_of q)) (knows_key (known_in q)) h ≡ true)
    unfolding wanted
    wanted_then = kept_was _ (groups_of s) h m

    unknown_then : knows_key (known_in q) (group_serial h) ≡ false
    unfolding is_wanted
    unknown_then = not_known (leaves_in s (filters_of q) h) (knows_key (known_in q) (group_serial h)) wanted_then.1
      where
        not_known : (lets known : Bool) → pick lets (not known) false ≡ true → known ≡ false
        not_known true true z = impossible (cc)
        not_known true false z = refl
        not_known false known z = impossible (cc)

    sent_then : seen same_key (group_serial h) (map group_serial held.page) ≡ true
    sent_then =
        let fits = of_each (λ (y : Group). KeyFits (group_serial y)) (groups_of s) (serials_fit s b held.store_reads) h wanted_then.0 in
        sym (rw unknown_then at (held.adds (group_serial h) fits)) ∙ told

    in_page : In h held.page
    unfolding wanted
    in_page =
        let z = member_seen group_serial (group_serial h) held.page sent_then in
        let also : In z.0 Wanted = subst (In z.0) held.run (in_first held.page held.rest z.1) in
        let same : z.0 ≡ h = once_one group_serial (groups_of s) (serials_differ s) (kept_was _ (groups_of s) z.0 also).0 wanted_then.0 z.2 in
        subst (λ (y : Group). In y held.page) same z.1

    pub first_member_alone : ((before after : List Element) → (package_in w).elements ≡ set_down 20 (before ++ (members h ++ after)) → ⊥) → ⊥
    unfolding members_of
    first_member_alone z =
        let p = stands_between h held.page in_page in
        let whole : members_of held.page ≡ members_of p.0 ++ (members h ++ members_of p.1) = ap members_of p.2 ∙ members_append p.0 (h ∷ p.1) in
        z (members_of p.0) (members_of p.1) (held.read.elements_are ∙ ap (set_down 20) whole)

-- ---- one that sends a good first page, and then empty unmarked ones: "demand 3: the run must be whole"

second_empty : (s : List ℕ) (wanted : List Group) (first second : List ℕ) (others : List (List ℕ)) (x y : Received) → answer_in first ≡ read.Is x → answer_in second ≡ read.Is y
    → y.count ≡ 0 → y.partial ≡ false → (answers : List (Answer Group)) → AllReadAs s (first ∷ second ∷ others) answers
    → ((before after : List (Answer Group)) (a : Answer Group) → answers ≡ before ++ (a ∷ after) → a.marked ≡ false
    → (joined_pages (before ++ (a ∷ [])) ≡ wanted) × (joined_pages after ≡ []))
    → x.count ≡ length (members_of wanted)
second_empty s wanted first second others x y e f n m [] r whole = absurd r
second_empty s wanted first second others x y e f n m (a ∷ []) r whole = absurd r.1
second_empty s wanted first second others x y e f n m (a ∷ c ∷ rest) r whole =
    let count : length (members_of a.page) ≡ x.count = ap count_in (sym r.0.2.read ∙ e) in
    let none : length (members_of c.page) ≡ y.count = ap count_in (sym r.1.0.2.read ∙ f) in
    let mark : c.marked ≡ y.partial = ap mark_in (sym r.1.0.2.read ∙ f) in
    let both : members_of (a.page ++ (c.page ++ [])) ≡ members_of a.page ++ members_of c.page = members_append a.page (c.page ++ []) ∙ ap (λ (l : List Group). members_of a.page ++ members_of l) (append-nil c.page) in
    let k = ap length both in
    let l = length-append (members_of a.page) (members_of c.page) in
    let z = ap (λ (l : List Group). length (members_of l)) (whole (a ∷ []) rest c refl (mark ∙ m)).0 in
    omega arith

pub then_empty : (s : List ℕ) → AllBytes s → (fs : List Filter) (know know' : Key → Bool) (first second : List ℕ) (others : List (List ℕ))
    → Talk s fs know (first ∷ second ∷ others) know' → (x y : Received) → answer_in first ≡ read.Is x → answer_in second ≡ read.Is y
    → x.count < length (members_of (wanted_of s fs know)) → y.count ≡ 0 → y.partial ≡ false → ⊥
then_empty s b fs know know' first second others t x y e f p n m =
    let d : DemandThree s fs know (first ∷ second ∷ others) = demand_three s b fs know know' _ t in
    let z = second_empty s (wanted_of s fs know) first second others x y e f n m d.answers d.read d.whole in
    omega arith

-- ---- one that invents the needed length in refusal 14: "it is the length of a defined page"

abbrev needed_in : Answered → ℕ
needed_in (Refused r) = r.needed
needed_in (Ok x) = 0

-- what is asked, and how long its smallest page is
abbrev pub Needed : List ℕ → List ℕ → ℕ → Type 0
Needed s q n = (a : Ask) × Asks s q a × (n ≡ length (page_bytes a (smallest a)))

pub invented_length : (s q : List ℕ) (r : Refusal) (rows rows' ranges ranges' out out' : List ℕ) → WritesAnswer s q (Refused r) rows rows' ranges ranges' out out'
    → refusal_number r ≡ 14 → (Needed s q r.needed → ⊥) → ⊥
invented_length s q r rows rows' ranges ranges' out out' h e z =
    let (tables, a, t) = (demand_one_write_numbers s q (Refused r) rows rows' ranges ranges' out out' h).fourteen.0 e in
    let g = (demand_one_write s q (Refused r) rows rows' ranges ranges' out out' h).given (too_short (length (page_bytes a (smallest a)))) (short tables a t.asks t.few t.needs refl) in
    z (a, t.asks, ap needed_in g)

pub hub_invented_length : (s q out out' report report' : List ℕ) → HubWritesAnswer s q 14 out out' report report'
    → (((n : ℕ) × Needed s q n × (report' ≡ placed (refusal_report (too_short n)) report)) → ⊥) → ⊥
hub_invented_length s q out out' report report' h z =
    let (tables, a, t) = (demand_one_hub_write_numbers s q 14 out out' report report' h).fourteen.0 refl in
    let n = length (page_bytes a (smallest a)) in
    z (n, (a, t.asks, refl), ((demand_one_hub_write s q 14 out out' report report' h).given (too_short n) (short tables a t.asks t.few t.needs refl)).1)

-- and the call that tells the length does not invent it either
pub invented_told : (s q : List ℕ) (offered : ℕ) (r : Refusal) (rows rows' ranges ranges' : List ℕ) → TellsLength s q offered (Refused r) rows rows' ranges ranges'
    → refusal_number r ≡ 14 → (Needed s q r.needed → ⊥) → ⊥
invented_told s q offered r rows rows' ranges ranges' h e z =
    let (tables, a, t) = (demand_one_length_numbers s q offered (Refused r) rows rows' ranges ranges' h).fourteen.0 e in
    let g = (demand_one_length s q (Refused r) rows rows' ranges ranges' offered h).given (too_short (length (page_bytes a (smallest a)))) (short tables a t.asks t.few t.needs refl) in
    z (a, t.asks, ap needed_in g)

pub hub_invented_told : (s q : List ℕ) (offered : ℕ) (report report' : List ℕ) → HubTellsLength s q offered 14 report report'
    → (((n : ℕ) × Needed s q n × (report' ≡ placed (refusal_report (too_short n)) report)) → ⊥) → ⊥
hub_invented_told s q offered report report' h z =
    let (tables, a, t) = (demand_one_hub_length_numbers s q offered 14 report report' h).fourteen.0 refl in
    let n = length (page_bytes a (smallest a)) in
    z (n, (a, t.asks, refl), ((demand_one_hub_length s q offered 14 report report' h).given (too_short n) (short tables a t.asks t.few t.needs refl)).1)

-- ---- one that tells another length than that of the answer (document 02, Q-6). For the length that is offered, the told one is the length
-- of any answer that is given, by the call that writes alone or by both: it is neither longer nor shorter

module _ (s q : List ℕ) (b : AllBytes s) (d : AllBytes q) (offered : ℕ) (told told' : List ℕ) (h : HubTellsLength s q offered 0 told told') (long : 24 ≤ length told)
    (w : List ℕ) (g : GivesAnswer s q offered w) where
  pub told_too_long : length w < report_number 2 told' → ⊥
  told_too_long l = omega (arith, told_is_given s q b d offered told told' h long w g)

  pub told_too_short : report_number 2 told' < length w → ⊥
  told_too_short l = omega (arith, told_is_given s q b d offered told told' h long w g)
