-- Where no serial number stands twice nothing has changed with groups (document 02, Q-3): every group is one element, and each ask of a store
-- that is read gets the bytes, the tables and the refusals that it got when pages were of elements (specs/Base.antt has those definitions,
-- and says what is no part of them). A reader needs the statements that are pub: `wanted_unshared` and `wanted_of_unshared` for what is
-- wanted, in an ask and in a talk; `page_unshared` for each page; `outcome_unshared` and `answer_unshared` for what is decided;
-- `length_unshared` and `write_unshared` for the two answering calls.
-- Assumes nothing.
use mathlib.Core.Path.{◌≡◌, refl, sym, ap, subst, ◌∙◌, fun_ext}
use mathlib.Core.Bool.{Bool, true, not}
use mathlib.Core.List.{List, [], ◌∷◌, map}
use Prim.Native.Nat.{ℕ}
use lib.ListN.{length, take, length-map}
use Rattle.std.specs.Prelude.{Ok, Err}
use Rattle.laws.specs.Once.{once}
use Rattle.objects.specs.Results.Reading.{Reading}
use Rattle.objects.specs.Results.Reading as reading
use Rattle.talk.specs.Wanted.{is_wanted, wanted}
use Rattle.talk.specs.declared.range.Range.{Range}
use Rattle.talk.proofs.Delivery.{once_keep}
use Rattle.store.specs.Element.{same_key}
use Rattle.store.specs.Held.{ranges_with}
use Rattle.store.specs.declared.element.Element.{Element}
use Rattle.store.specs.declared.element.Key.{Key}
use Rattle.store.proofs.Chains.{same_turn}
use Rattle.order.specs.Groups.{Group, members, members_of, group_serial, groups, some_of, firsts, stored_length, single}
use Rattle.order.specs.Order.{ordered}
use Rattle.order.proofs.GroupMembers.{members_single}
use Rattle.order.proofs.Grouping.{all_single}
use Rattle.order.proofs.Ordering.{rearranged}
use Rattle.order.proofs.Rearranged.{once_rearranged}
use Rattle.request.specs.Meaning.{Filter, left_in}
use Rattle.request.specs.Message.{filters_of, request_in}
use Rattle.request.specs.Results.Request.{Request}
use Rattle.request.specs.Results.Request as request
use Rattle.pages.specs.Answer.{Outcome, Ask, ask_for, page_ranges, page_bytes, page_measure, page_decided, on_decided, page_outcome, on_request, on_store, outcome, answer_of, Tells, TellsLength, Gives, WritesAnswer}
use Rattle.pages.specs.Choice.{knows_key, lets_group, wanted_in}
use Rattle.pages.specs.Decision.{most_carried}
use Rattle.pages.specs.Results.Answered.{Answered}
use Rattle.pages.specs.Results.Decided.{Decided}
use Rattle.pages.proofs.Lumps.{take_map}
use Rattle.evidence.specs.Base.{base_wanted, BaseAsk, base_ranges, base_bytes, base_measure, base_decided, on_base_decided, base_page, base_ask_for, on_base_request, on_base_store, base_outcome, base_answer_of}
use Rattle.evidence.specs.Talk.{serial_of, elements_of, in_row_order, wanted_of}
use Rattle.evidence.proofs.OwnGroups.{own_wanted}

-- no serial number stands twice among these
abbrev pub Unshared : List Element → Type 0
Unshared all = once same_key (map serial_of all) ≡ true

-- ---- what is wanted

rows_unshared : (all : List Element) → Unshared all → Unshared (ordered all)
rows_unshared all differ = once_rearranged same_key serial_of same_turn (rearranged all) differ

-- every element is a group by itself, in row order
pub groups_unshared : (all : List Element) → Unshared all → groups (ordered all) ≡ map single (ordered all)
groups_unshared all differ = all_single (ordered all) (rows_unshared all differ)

module _ (all : List Element) (differ : Unshared all) (lets : Element → Bool) (know : Key → Bool) where
  wanted_single : wanted group_serial (λ (g : Group). some_of lets (members g)) know (groups (ordered all)) ≡ map single (wanted serial_of lets know (ordered all))
  unfolding wanted is_wanted
  wanted_single =
      own_wanted (λ (k : Key). not (know k)) lets (ordered all)
      (once_keep same_key serial_of (λ (x : Element). not (know x.serial)) (ordered all) (rows_unshared all differ))

-- in an ask, whatever its filters and its ranges
pub wanted_unshared : (fs : List Filter) (l : List Range) (all : List Element) → Unshared all → wanted_in fs l all ≡ map single (base_wanted fs l all)
unfolding wanted_in lets_group
wanted_unshared fs l all differ = wanted_single all differ (λ (x : Element). left_in fs all x true) (knows_key l)

-- in a talk, whatever is known: so demands 2 and 3 speak of elements, and n counts elements
pub wanted_of_unshared : (s : List ℕ) (fs : List Filter) (know : Key → Bool) → Unshared (elements_of s)
    → wanted_of s fs know ≡ map single (wanted serial_of (λ (x : Element). left_in fs (elements_of s) x true) know (in_row_order s))
wanted_of_unshared s fs know differ = wanted_single (elements_of s) differ (λ (x : Element). left_in fs (elements_of s) x true) know

-- ---- a page: what is asked of single ones

firsts_single : (xs : List Element) → firsts (map single xs) ≡ xs
firsts_single [] = refl
firsts_single (x ∷ xs) = ap (λ (l : List Element). x ∷ l) (firsts_single xs)

-- what was asked, of groups
abbrev as_single : BaseAsk → Ask
as_single a =
    record {
      store = a.store;
      elements = a.elements;
      id = a.id;
      most = a.most;
      limit = a.limit;
      known = a.known;
      wanted = map single a.wanted;
    }

module _ (a : BaseAsk) where
  members_first : (j : ℕ) → members_of (take j (map single a.wanted)) ≡ take j a.wanted
  members_first j = ap members_of (take_map single j a.wanted) ∙ members_single (take j a.wanted)

  single_ranges : (j : ℕ) → page_ranges (as_single a) j ≡ base_ranges a j
  unfolding page_ranges base_ranges
  single_ranges j = ap (ranges_with a.known) (ap firsts (take_map single j a.wanted) ∙ firsts_single (take j a.wanted))

  single_bytes : (j : ℕ) → page_bytes (as_single a) j ≡ base_bytes a j
  unfolding page_bytes base_bytes
  single_bytes j = rw (members_first j, length-map a.wanted single, single_ranges j)

  single_measure : page_measure (as_single a) ≡ base_measure a
  unfolding page_measure base_measure
  single_measure =
      let stored = fun_ext (λ (j : ℕ). ap stored_length (members_first j)) in
      let ranges = fun_ext (λ (j : ℕ). ap length (single_ranges j)) in
      let whole = fun_ext (λ (j : ℕ). ap length (single_bytes j)) in
      λ i. record { stored = stored i; ranges = ranges i; whole = whole i }

  single_decided : (room : ℕ) → page_decided (as_single a) room ≡ base_decided a room
  unfolding page_decided base_decided
  single_decided room = rw (single_measure, length-map a.wanted single)

  single_on : (d : Decided) → on_decided (as_single a) d ≡ on_base_decided a d
  unfolding on_decided on_base_decided
  single_on (Ok x) = rw (single_bytes x.count, single_ranges x.count)
  single_on (Err e) = refl

  single_page : (room : ℕ) → page_outcome (as_single a) room ≡ base_page a room
  unfolding page_outcome base_page
  single_page room = single_on (page_decided (as_single a) room) ∙ ap (on_base_decided a) (single_decided room)

-- ---- an ask of a store in which no serial number stands twice

-- each page, whatever is asked: its bytes, its ranges, and what it asks are those that they were; and so is what is decided
pub record SamePages (a : Ask) (b : BaseAsk) : Type 0 where
  pub bytes : (j : ℕ) → page_bytes a j ≡ base_bytes b j
  pub ranges : (j : ℕ) → page_ranges a j ≡ base_ranges b j
  pub measure : page_measure a ≡ base_measure b
  pub decided : (room : ℕ) → page_decided a room ≡ base_decided b room

module _ (s : List ℕ) (all : List Element) (differ : Unshared all) (q : List ℕ) where
  ask_single : (most id limit : ℕ) → ask_for most s all q id limit ≡ as_single (base_ask_for most s all q id limit)
  ask_single most id limit =
      ap
      (λ (w : List Group). record { store = s; elements = all; id = id; most = most; limit = limit; known = (ask_for most s all q id limit).known; wanted = w })
      (wanted_unshared (filters_of q) (ask_for most s all q id limit).known all differ)

  pub page_unshared : (most id limit : ℕ) → SamePages (ask_for most s all q id limit) (base_ask_for most s all q id limit)
  page_unshared most id limit =
      let b = base_ask_for most s all q id limit in
      subst (λ (a : Ask). SamePages a b) (sym (ask_single most id limit))
      (record { bytes = single_bytes b; ranges = single_ranges b; measure = single_measure b; decided = single_decided b })

  request_unshared : (room : ℕ) (r : Request) → on_request s all q room r ≡ on_base_request s all q room r
  unfolding on_request on_base_request
  request_unshared room (Ok x) =
      ap (λ (a : Ask). page_outcome a room) (ask_single most_carried x.id x.limit) ∙ single_page (base_ask_for most_carried s all q x.id x.limit) room
  request_unshared room (request.Refused r) = refl

  store_unshared : (room : ℕ) (c : Reading) → on_store s all q room c ≡ on_base_store s all q room c
  unfolding on_store on_base_store
  store_unshared room (reading.At e v) = request_unshared room (request_in q [])
  store_unshared room (reading.Refused r) = refl

-- ---- of a store in which no serial number stands twice, for every request: the bytes, the elements, the ranges, and the refusals

pub outcome_unshared : (s q : List ℕ) (room : ℕ) → Unshared (elements_of s) → outcome s q room ≡ base_outcome s q room
unfolding outcome base_outcome
outcome_unshared s q room differ = store_unshared s (elements_of s) differ q room _

pub answer_unshared : (s q : List ℕ) (rows ranges room : ℕ) → Unshared (elements_of s) → answer_of s q rows ranges room ≡ base_answer_of s q rows ranges room
unfolding answer_of base_answer_of
answer_unshared s q rows ranges room differ = rw (outcome_unshared s q room differ)

-- so what the two answering calls promise is what they promised: what is told, both tables, and the output
pub length_unshared : (s q : List ℕ) (offered : ℕ) (r : Answered) (rows rows' ranges ranges' : List ℕ) → Unshared (elements_of s)
    → TellsLength s q offered r rows rows' ranges ranges' → Tells (base_answer_of s q (length rows) (length ranges) offered) r rows rows' ranges ranges'
length_unshared s q offered r rows rows' ranges ranges' differ h =
    subst (λ (o : Outcome). Tells o r rows rows' ranges ranges') (answer_unshared s q (length rows) (length ranges) offered differ) h

pub write_unshared : (s q : List ℕ) (r : Answered) (rows rows' ranges ranges' out out' : List ℕ) → Unshared (elements_of s)
    → WritesAnswer s q r rows rows' ranges ranges' out out'
    → Gives (base_answer_of s q (length rows) (length ranges) (length out)) r rows rows' ranges ranges' out out'
write_unshared s q r rows rows' ranges ranges' out out' differ h =
    subst (λ (o : Outcome). Gives o r rows rows' ranges ranges' out out') (answer_unshared s q (length rows) (length ranges) (length out) differ) h
