-- One answer that a call gave, by the definitions: what was asked, the page that was sent of it, and what a bench reads in it. For the
-- proof of demand 2; a reader of the demands can skip it.
-- Assumes nothing.
use mathlib.Core.Path.{◌≡◌, refl, sym, ap, ◌∙◌, subst}
use mathlib.Core.Bool.{Bool, true}
use mathlib.Core.List.{List, [], map}
use Prim.Native.Nat.{ℕ, ◌≤◌, ◌<◌}
use native.Mathlib.Omega.{arith}
use lib.Dec.{ltb}
use lib.ListN.{length, take, drop}
use lib.Seq.{length-take-le}
use Rattle.std.specs.Prelude.{Ok, Err}
use Rattle.laws.specs.Bytes.{AllBytes}
use Rattle.laws.specs.Once.{once}
use Rattle.laws.proofs.Cases.{impossible}
use Rattle.talk.specs.Each.{Each}
use Rattle.talk.specs.Page.{Greatest}
use Rattle.talk.specs.Series.{Takes, with_keys}
use Rattle.talk.specs.Wanted.{wanted}
use Rattle.talk.specs.declared.range.Range.{Range}
use Rattle.talk.proofs.Delivery.{page_takes}
use Rattle.talk.proofs.PageRule.{greatest_one}
use Rattle.talk.proofs.Things.{each_first, each_kept, each_so}
use Rattle.store.specs.Element.{same_key}
use Rattle.store.specs.Store.{store_walk, Stands}
use Rattle.store.specs.Tables.{most_elements}
use Rattle.store.specs.Held.{ranges_with, storage_index}
use Rattle.store.specs.declared.element.Element.{Element}
use Rattle.store.specs.declared.element.Key.{Key}
use Rattle.store.proofs.Chains.{store_read}
use Rattle.store.proofs.Found.{store_most}
use Rattle.order.specs.Groups.{Group, members, members_of, group_serial, firsts}
use Rattle.order.proofs.Rearranged.{rearranged_each}
use Rattle.order.proofs.Grouping.{each_grouped, length_groups, serials_once}
use Rattle.order.proofs.Ordering.{rearranged, length_ordered}
use Rattle.store.proofs.ElementFits.{KeysFit, keys_fit}
use Rattle.request.specs.Message.{filters_of, request_in}
use Rattle.request.specs.Results.Request as request
use Rattle.request.proofs.RequestFits.{known_normal}
use Rattle.pages.specs.Answer.{Ask, answered, ask_of, known_in, outcome, on_decided, page_decided, page_outcome, page_measure, page_ranges, page_bytes}
use Rattle.pages.specs.Choice.{knows_key, lets_group, wanted_in}
use Rattle.pages.specs.Decision.{sendable}
use Rattle.pages.specs.Written.{answer_bytes}
use Rattle.pages.specs.Cases.{Asks}
use Rattle.pages.specs.Results.Decided.{Decided}
use Rattle.pages.proofs.Refusing.{asked_outcome}
use Rattle.pages.proofs.Stops.{sent_law}
use Rattle.client.specs.Back.{ReadsBack}
use Rattle.client.proofs.CallBack.{CallReadsBack, call_back}
use Rattle.evidence.specs.Calling.{GivesAnswer}
use Rattle.evidence.specs.Talk.{KeyFits, elements_of, in_row_order, groups_of, wanted_of, ranges_in}
use Rattle.evidence.proofs.Calling.{gave_outcome}
use Rattle.evidence.proofs.Serials.{knows_groups}

-- ---- a page that is sent is not empty while something is wanted

decided_some : (a : Ask) (room : ℕ) (d : Decided) → page_decided a room ≡ d → (w : List ℕ) (all : List Element) (l : List Range) → on_decided a d ≡ answered w all l
    → (k : ℕ) × Greatest (sendable a.most a.limit room (page_measure a)) (length a.wanted) k × (0 < length a.wanted → 0 < k)
unfolding on_decided page_decided
decided_some a room (Ok x) e w all l h =
    let z = sent_law a.most a.limit room (page_measure a) (length a.wanted) x.count x.length x.ranges x.more e in
    (x.count, z.greatest, z.some)
decided_some a room (Err x) e w all l h = impossible (cc (h))

sent_some : (s q : List ℕ) (a : Ask) (room : ℕ) → Asks s q a → (w : List ℕ) (all : List Element) (l : List Range) → outcome s q room ≡ answered w all l → (k : ℕ)
    → Greatest (sendable a.most a.limit room (page_measure a)) (length a.wanted) k → 0 < length a.wanted → 0 < k
unfolding page_outcome
sent_some s q a room x w all l h k g p =
    let d = decided_some a room (page_decided a room) refl w all l (sym (asked_outcome s q a room x) ∙ h) in
    let e : d.0 ≡ k = greatest_one (sendable a.most a.limit room (page_measure a)) (length a.wanted) d.0 k d.1 g in
    let z = d.2 p in
    omega arith

-- ---- the serial numbers of a store's groups

pub serials_fit : (s : List ℕ) → AllBytes s → Stands (store_walk s).last → Each (λ (g : Group). KeyFits (group_serial g)) (groups_of s)
serials_fit s b h =
    each_so (λ (g : Group). Each (λ (x : Element). KeyFits x.serial) (members g)) (λ (g : Group). KeyFits (group_serial g)) (groups_of s) (λ g f. f.0)
    (each_grouped (λ (x : Element). KeyFits x.serial) (in_row_order s)
    (rearranged_each (λ (x : Element). KeyFits x.serial) (rearranged (elements_of s))
    (each_so KeysFit (λ (x : Element). KeyFits x.serial) (elements_of s) (λ x f. (f.1.0.0, f.1.0.1)) (keys_fit s b (store_read s h)))))

pub serials_differ : (s : List ℕ) → once same_key (map group_serial (groups_of s)) ≡ true
serials_differ s = serials_once (in_row_order s)

pub groups_most : (s : List ℕ) → length (groups_of s) ≤ most_elements
groups_most s = let a = length_groups (in_row_order s) in let b = length_ordered (elements_of s) in let c = store_most s in omega arith

-- ---- the answer

module _ (s q : List ℕ) (b : AllBytes s) (d : AllBytes q) (room : ℕ) (w : List ℕ) (gives : GivesAnswer s q room w) where
  -- what the call gave, as an outcome
  abbrev gave : (all : List Element) × (l : List Range) × (outcome s q room ≡ answered w all l)
  gave = gave_outcome s q b d room w gives

  abbrev pub ranges : List Range
  ranges = gave.1

  abbrev back : CallReadsBack s q room w gave.0 ranges
  back = call_back s q room b d w gave.0 ranges gave.2

  abbrev pub ask : Ask
  ask = ask_of s (elements_of s) q back.asks.id back.asks.limit

  ask_is : back.ask ≡ ask
  ask_is = back.asks.asked

  asks : Asks s q ask
  asks = subst (Asks s q) ask_is back.asks

  -- both were read
  pub store_reads : Stands (store_walk s).last
  store_reads = back.asks.store_reads

  pub request_reads : request_in q [] ≡ request.Asked ask.id ask.limit back.asks.place back.asks.count back.asks.known
  request_reads = back.asks.request_reads

  -- so many were sent
  abbrev count : ℕ
  count = back.sends.count

  pub greatest : Greatest (sendable ask.most ask.limit room (page_measure ask)) (length ask.wanted) count
  greatest = subst (λ (a : Ask). Greatest (sendable a.most a.limit room (page_measure a)) (length a.wanted) count) ask_is back.sends.greatest

  abbrev pub page : List Group
  page = take count ask.wanted

  abbrev pub rest : List Group
  rest = drop count ask.wanted

  abbrev pub marked : Bool
  marked = ltb count (length ask.wanted)

  pub page_length : length page ≡ count
  page_length = length-take-le count ask.wanted greatest.most

  pub takes : Takes ask.wanted (record { page = page; marked = marked }) rest
  takes = page_takes ask.wanted count greatest.most (sent_some s q ask room asks w gave.0 ranges gave.2 count greatest)

  pub wanted_is : ask.wanted ≡ wanted_of s (filters_of q) (knows_key (known_in q))
  unfolding wanted_in lets_group
  wanted_is = refl

  -- ---- its knowledge

  page_fits : Each (λ (g : Group). KeyFits (group_serial g)) page
  unfolding wanted wanted_in
  page_fits = each_first _ count ask.wanted (each_kept _ _ (groups_of s) (serials_fit s b store_reads))

  pub ranges_are : ranges ≡ ranges_with (known_in q) (firsts page)
  unfolding page_ranges
  ranges_are = subst (λ (a : Ask). ranges ≡ page_ranges a count) ask_is back.sends.ranges_are

  pub ranges_told : ranges_in w ≡ ranges
  ranges_told = back.back.ranges_are

  pub adds : (k : Key) → KeyFits k → knows_key (ranges_in w) k ≡ with_keys same_key (knows_key (known_in q)) (map group_serial page) k
  adds k f = ap (λ (l : List Range). knows_key l k) (ranges_told ∙ ranges_are) ∙ knows_groups (known_in q) page (known_normal q []).0 page_fits k f

  -- ---- its bytes, and what is read in them

  pub bytes_are : w ≡ answer_bytes s ask.id (storage_index (elements_of s)) (members_of page) marked (ranges_in w)
  unfolding page_bytes page_ranges
  bytes_are =
      subst (λ (a : Ask). w ≡ page_bytes a count) ask_is back.sends.bytes_are
      ∙ ap (λ (l : List Range). answer_bytes s ask.id (storage_index (elements_of s)) (members_of page) marked l) (sym (ranges_told ∙ ranges_are))

  pub reads : ReadsBack s ask.id (storage_index (elements_of s)) (members_of page) marked (ranges_in w) w
  reads =
      subst (λ (l : List Range). ReadsBack s ask.id (storage_index (elements_of s)) (members_of page) marked l w) (sym ranges_told)
      (subst (λ (a : Ask). ReadsBack s a.id (storage_index a.elements) (members_of (take count a.wanted)) (ltb count (length a.wanted)) ranges w) ask_is back.back)
