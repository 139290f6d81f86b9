-- What the answering calls answer reads back: for any store and request bytes and any room, an answer that is given is read with no
-- refusal, as the page that was sent, with the knowledge that it was sent with.
-- Assumes nothing.
use mathlib.Core.Path.{◌≡◌, refl, sym, ap, subst, ◌∙◌}
use mathlib.Core.Bool.{Bool, true}
use mathlib.Core.List.{List, [], ◌∷◌, ◌++◌, map, map-append, append_assoc}
use Prim.Native.Nat.{ℕ, zero, suc, ◌+◌, ◌^◌, ◌≤◌, ◌<◌}
use native.Mathlib.Omega.{arith}
use lib.ListN.{length, take, drop, length-append, take-append-drop}
use lib.Dec.{ltb, eqb}
use Rattle.laws.specs.Bytes.{AllBytes}
use Rattle.laws.specs.Once.{once}
use Rattle.laws.proofs.Cases.{by_bool, by_lt, pick_all}
use Rattle.laws.proofs.Twice.{once_before}
use Rattle.numbers.specs.ExtendedGuid.{ExtendedGuidFits}
use Rattle.numbers.specs.Refusals.{longest_input}
use Rattle.numbers.specs.Results.ExtendedGuid.{ExtendedGuid}
use Rattle.objects.specs.Steps.{place_of}
use Rattle.objects.specs.Results.Reading.{At}
use Rattle.talk.specs.Each.{Each}
use Rattle.talk.specs.Page.{Greatest}
use Rattle.talk.specs.Ranges.{Normal, AllFit}
use Rattle.talk.specs.Wanted.{keep, is_wanted, wanted}
use Rattle.talk.specs.declared.range.Range.{Range}
use Rattle.talk.proofs.Things.{each_first, each_so}
use Rattle.store.specs.Chain.{Follows, Fresh, Tiles}
use Rattle.store.specs.Element.{same_key, ids_in, element_at}
use Rattle.store.specs.Knowledge.{most_said}
use Rattle.store.specs.KnowledgeWritten.{ranges_bytes}
use Rattle.store.specs.Store.{store_walk, Stands, store_strictness}
use Rattle.store.specs.Held.{ranges_with, storage_index}
use Rattle.store.specs.declared.element.Key.{Key}
use Rattle.store.specs.declared.element.Element.{Element}
use Rattle.store.specs.Results.ReadElement.{Is}
use Rattle.store.proofs.Chains.{store_read, store_tiles, over_long_lem, same_turn, ids_once}
use Rattle.store.proofs.ElementFits.{KeysFit, elements_fit, keys_fit, store_front}
use Rattle.store.proofs.ElementWritten.{compact_most}
use Rattle.store.proofs.Fields.{element_parts}
use Rattle.store.proofs.Found.{store_most}
use Rattle.store.proofs.StoreHeld.{normal_with, fit_with}
use Rattle.order.specs.Order.{ordered}
use Rattle.order.specs.Groups.{Group, members, members_of, group_serial, groups, firsts, stored_length}
use Rattle.order.proofs.GroupMembers.{members_append, each_members}
use Rattle.order.proofs.Grouping.{members_rearranged, length_members, once_grouped}
use Rattle.order.proofs.Rearranged.{once_rearranged}
use Rattle.order.proofs.Ordering.{rearranged, length_ordered}
use Rattle.request.specs.Message.{filters_of, request_in}
use Rattle.request.specs.Results.Request as request
use Rattle.request.proofs.RequestFits.{id_fits, known_fit, known_normal}
use Rattle.pages.specs.Answer.{Ask, answered, page_ranges, page_bytes, page_measure, known_in, ask_of, outcome}
use Rattle.pages.specs.Choice.{wanted_in, lets_group, knows_key}
use Rattle.pages.specs.Decision.{sendable}
use Rattle.pages.specs.Tables.{whole_of, fixed_length}
use Rattle.pages.specs.Cases.{Asks, Sends}
use Rattle.pages.proofs.AnyOrder.{stored_rearranged}
use Rattle.pages.proofs.Growing.{wanted_each}
use Rattle.pages.proofs.Lengths.{AllWithin, extended_most, answer_length, stored_append}
use Rattle.pages.proofs.Pricing.{bytes_most}
use Rattle.pages.proofs.Refusing.{call_sends, answered_asks}
use Rattle.pages.proofs.Stops.{sendable_ranges}
use Rattle.client.specs.Back.{StandsIn, ReadsBack}
use Rattle.client.specs.Read.{longest_answer}
use Rattle.client.proofs.AnswerBack.{answer_back}

-- ---- the elements of a store

-- each stands in it
chain_stands : (s : List ℕ) (done xs : List Element) (at e : ℕ) → Follows store_strictness s done at xs e → Each (StandsIn s) xs
unfolding place_of
chain_stands s done [] at e c = tt
chain_stands s done (x ∷ xs) at e c =
    let q : x.place ≡ at = (element_parts store_strictness (ids_in done) s (At at 0) x c.0).place in
    ((ids_in done, subst (λ (p : ℕ). element_at store_strictness (ids_in done) s (At p 0) ≡ Is x) (sym q) c.0), chain_stands s (done ++ (x ∷ [])) xs (x.place + x.length) e c.1)

-- together they are not longer than the store
tiles_length : (s : List ℕ) (xs : List Element) (at e : ℕ) → at ≤ length s → Tiles at xs e → AllWithin s xs → at + stored_length xs ≤ length s
unfolding stored_length
tiles_length s [] at e h t w = omega arith
tiles_length s (x ∷ xs) at e h t w =
    let p = t.0 in
    let v = w.0 in
    let r = tiles_length s xs (at + x.length) e (omega arith) t.2 w.1 in
    omega arith

-- the storage index is an id that was read
index_fits : (all : List Element) → Each KeysFit all → ExtendedGuidFits (storage_index all)
unfolding storage_index
index_fits [] h = tt
index_fits (x ∷ xs) h =
    pick_all ExtendedGuidFits (eqb x.kind 1) _ _ (λ e. h.0.0) (λ e. index_fits xs h.1)

-- ---- some groups of them

-- where no key stands twice, each is new to those before it
once_fresh : (key : Element → Key) (xs done : List Element) → once same_key (map key (done ++ xs)) ≡ true → Fresh key done xs
once_fresh key [] done h = tt
once_fresh key (x ∷ xs) done h = (
  once_before same_key same_turn (key x) (map key done) (map key xs) (rw (map-append key done (x ∷ xs)) at h),
  once_fresh key xs (done ++ (x ∷ [])) (rw (append_assoc done (x ∷ []) xs) h),
)

-- of groups that are kept the first ones are not longer than all of them, however long some elements are
module _ (size : List Element → ℕ) (both : (xs ys : List Element) → size (xs ++ ys) ≡ size xs + size ys) where
  kept_size : (test : Group → Bool) (gs : List Group) → size (members_of (keep test gs)) ≤ size (members_of gs)
  unfolding keep members_of
  kept_size test [] = omega arith
  kept_size test (g ∷ gs) =
      let r = kept_size test gs in
      let whole = both (members g) (members_of gs) in
      let kept = both (members g) (members_of (keep test gs)) in
      by_bool (test g) (λ e. rw e (omega arith)) (λ e. rw e (omega arith))

  first_size : (k : ℕ) (gs : List Group) → size (members_of (take k gs)) ≤ size (members_of gs)
  first_size k gs =
      let e = ap size (ap members_of (sym (take-append-drop k gs)) ∙ members_append (take k gs) (drop k gs)) in
      let f = both (members_of (take k gs)) (members_of (drop k gs)) in
      omega arith

-- what holds of the members holds of the first ones
firsts_each : (P : Element → Type 0) (gs : List Group) → Each (λ (g : Group). Each P (members g)) gs → Each P (firsts gs)
firsts_each P [] h = tt
firsts_each P (g ∷ gs) h = (h.0.0, firsts_each P gs h.1)

-- ---- what is sent

-- no more ranges than a knowledge may say
few_ranges : (a : Ask) (room k : ℕ) → Greatest (sendable a.most a.limit room (page_measure a)) (length a.wanted) k → length a.known ≤ most_said
    → a.most ≤ most_said → length (page_ranges a k) ≤ most_said
unfolding page_ranges ranges_with page_measure
few_ranges a room zero g h l = h
few_ranges a room (suc k) g h l =
    let m = page_measure a in
    let c : length (page_ranges a (suc k)) ≤ a.most = sendable_ranges a.most a.limit room (suc k) (m.stored (suc k)) (m.ranges (suc k)) (m.whole (suc k)) (g.every (suc k) (omega arith) (omega arith)) in
    omega arith

-- at most so long
whole_most : (fixed stored ranges spelled : ℕ) → whole_of fixed stored ranges spelled ≤ fixed + 25 + stored + spelled
unfolding whole_of
whole_most fixed stored ranges spelled =
    pick_all (λ (n : ℕ). n ≤ fixed + 25 + stored + spelled) (eqb ranges 0) _ _ (λ e. omega arith) (λ e. omega arith)

fixed_most : (id : ℕ) (index : ExtendedGuid) → fixed_length id index ≤ 69
unfolding fixed_length
fixed_most id index = let a = compact_most id in let b = extended_most index in omega arith

-- where both inputs read, the page of the first k wanted
module _ (s q : List ℕ) (room : ℕ) (b : AllBytes s) (d : AllBytes q) (h : Stands (store_walk s).last) (id limit place count known : ℕ)
    (r : request_in q [] ≡ request.Asked id limit place count known) (k : ℕ) where
  abbrev all : List Element
  all = (store_walk s).elements

  abbrev ask : Ask
  ask = ask_of s all q id limit

  abbrev page : List Element
  page = members_of (take k ask.wanted)

  abbrev ranges : List Range
  ranges = page_ranges ask k

  all_within : AllWithin s all
  all_within = each_so _ _ all (λ x f. f.0) (elements_fit s b (store_read s h))

  groups_each : (P : Element → Type 0) → Each P all → Each (λ (g : Group). Each P (members g)) (take k ask.wanted)
  groups_each P f = each_first (λ (g : Group). Each P (members g)) k ask.wanted (wanted_each P (filters_of q) (known_in q) all f)

  page_each : (P : Element → Type 0) → Each P all → Each P page
  page_each P f = each_members P (take k ask.wanted) (groups_each P f)

  page_fresh : (key : Element → Key) → once same_key (map key all) ≡ true → Fresh key [] page
  unfolding wanted_in wanted
  page_fresh key o = once_fresh key page [] (once_grouped same_key key same_turn _ k (ordered all) (once_rearranged same_key key same_turn (rearranged all) o))

  -- no longer than all elements
  page_fewer : (size : List Element → ℕ) → ((xs ys : List Element) → size (xs ++ ys) ≡ size xs + size ys) → size page ≤ size (members_of (groups (ordered all)))
  unfolding wanted_in wanted
  page_fewer size both =
      let a = first_size size both k ask.wanted in
      let c = kept_size size both (is_wanted group_serial (lets_group (filters_of q) all) (knows_key (known_in q))) (groups (ordered all)) in
      omega arith

  page_few : length page ≤ 256
  page_few =
      let a = page_fewer length length-append in
      let c = length_members (ordered all) in
      let f = length_ordered all in
      let e = store_most s in
      omega arith

  page_stored : stored_length page ≤ length s
  page_stored =
      let o = store_read s h in
      let a = page_fewer stored_length stored_append in
      let c = stored_rearranged (members_rearranged (ordered all)) in
      let f = stored_rearranged (rearranged all) in
      let e = tiles_length s all o.first o.end (store_front s o) (store_tiles s o) all_within in
      omega arith

  page_within : AllWithin s page
  page_within = page_each (λ (x : Element). x.place + x.length ≤ length s) all_within

  ranges_normal : Normal ranges
  unfolding page_ranges
  ranges_normal = normal_with (firsts (take k ask.wanted)) (known_in q) (known_normal q []).0

  ranges_fit : AllFit ranges
  unfolding page_ranges
  ranges_fit =
      fit_with (firsts (take k ask.wanted)) (known_in q)
      (firsts_each (λ (x : Element). x.serial.number < 2 ^ 64) (take k ask.wanted) (groups_each (λ (x : Element). x.serial.number < 2 ^ 64) (each_so KeysFit _ all (λ x f. f.1.1) (keys_fit s b (store_read s h))))) (known_fit q [] d)

  page_size : length ranges ≤ most_said → length (page_bytes ask k) ≤ length s + 65536
  unfolding page_bytes
  page_size m =
      let a = answer_length s id (storage_index all) page (ltb k (length ask.wanted)) ranges page_within in
      let c = whole_most (fixed_length id (storage_index all)) (stored_length page) (length ranges) (length (ranges_bytes ranges)) in
      let e = fixed_most id (storage_index all) in
      let f = bytes_most ranges in
      let g = page_stored in
      omega arith

  page_length : length ranges ≤ most_said → length (page_bytes ask k) ≤ longest_answer
  page_length m =
      let a = page_size m in
      let n : length s ≤ longest_input = by_lt longest_input (length s) (λ l. absurd (over_long_lem s l h)) (λ l. l) in
      omega arith

  page_back : Greatest (sendable ask.most limit room (page_measure ask)) (length ask.wanted) k
      → ReadsBack s id (storage_index all) page (ltb k (length ask.wanted)) ranges (page_bytes ask k)
  unfolding page_bytes
  page_back g =
      let o = store_read s h in
      let m : length ranges ≤ most_said = few_ranges ask room k g (known_normal q []).1 (omega arith) in
      answer_back s id (storage_index all) page (ltb k (length ask.wanted)) ranges (page_bytes ask k) refl
      (page_each (StandsIn s) (chain_stands s [] all o.first o.end o.chain))
      (page_fresh (λ x. x.id) (ids_once s o)) page_few
      (id_fits q [] id limit place count known d r) (index_fits all (keys_fit s b o)) ranges_normal ranges_fit
      m (page_length m)

-- the same, of an ask that is this one
asked_back : (s q : List ℕ) (room : ℕ) → AllBytes s → AllBytes q → (a : Ask) → Asks s q a → (k : ℕ)
    → Greatest (sendable a.most a.limit room (page_measure a)) (length a.wanted) k → (w : List ℕ) (l : List Range) → w ≡ page_bytes a k → l ≡ page_ranges a k
    → ReadsBack s a.id (storage_index a.elements) (members_of (take k a.wanted)) (ltb k (length a.wanted)) l w
asked_back s q room b d a x k g w l u v =
    rw (u, v, x.asked)
    (page_back s q room b d x.store_reads x.id x.limit x.place x.count x.known x.request_reads k (rw x.asked at g))

-- how much room an answer needs at most
pub asked_size : (s q : List ℕ) → AllBytes s → AllBytes q → (a : Ask) → Asks s q a → (k : ℕ) → length (page_ranges a k) ≤ most_said
    → length (page_bytes a k) ≤ length s + 65536
asked_size s q b d a x k m =
    rw x.asked
    (page_size s q 0 b d x.store_reads x.id x.limit x.place x.count x.known x.request_reads k (rw x.asked at m))

-- ---- the call

-- this was asked, so many of its wanted groups were sent, and what was answered reads back as their page: with the id that was
-- asked, the mark that says whether a wanted element remains, the store's index, and the ranges l
pub record CallReadsBack (s q : List ℕ) (room : ℕ) (w : List ℕ) (all : List Element) (l : List Range) : Type 0 where
  pub ask : Ask
  pub asks : Asks s q ask
  pub sends : Sends ask room w all l
  pub back : ReadsBack s ask.id (storage_index ask.elements) (members_of (take sends.count ask.wanted)) (ltb sends.count (length ask.wanted)) l w

pub call_back : (s q : List ℕ) (room : ℕ) → AllBytes s → AllBytes q → (w : List ℕ) (all : List Element) (l : List Range) → outcome s q room ≡ answered w all l
    → CallReadsBack s q room w all l
call_back s q room b d w all l h =
    let f = answered_asks s q room w all l h in
    let y = call_sends s q room f.0 f.1 w all l h in
    record {
      ask = f.0;
      asks = f.1;
      sends = y;
      back = asked_back s q room b d f.0 f.1 y.count y.greatest w l y.bytes_are y.ranges_are;
    }
