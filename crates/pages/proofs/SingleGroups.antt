-- Where no two elements share a serial number, each is a group by itself: the wanted groups are the elements that the flags choose, in row
-- order, and what was decided of these was decided of the groups.
-- Assumes nothing.
use mathlib.Core.Path.{◌≡◌, refl, sym, ap, subst, ◌∙◌}
use mathlib.Core.Bool.{Bool, true}
use mathlib.Core.List.{List, [], ◌∷◌, map}
use Prim.Native.Nat.{ℕ, ◌+◌, ◌≤◌}
use native.Mathlib.Omega.{arith}
use lib.ListN.{length, take, length-map}
use lib.Seq.{length-take-le}
use Rattle.std.specs.Prelude.{Ok, Err}
use Rattle.laws.specs.Once.{once}
use Rattle.laws.specs.Placed.{laid}
use Rattle.laws.proofs.Cases.{by_bool}
use Rattle.talk.specs.Wanted.{keep}
use Rattle.talk.specs.declared.range.Range.{Range}
use Rattle.store.specs.Element.{same_key}
use Rattle.store.specs.Tables.{RowsStand, serial_keys, elements_in}
use Rattle.store.specs.declared.element.Element.{Element}
use Rattle.store.proofs.Chains.{same_turn}
use Rattle.order.specs.Order.{ordered}
use Rattle.order.specs.Groups.{Group, members, members_of, some_of, single, stored_length}
use Rattle.order.specs.Links.{lump}
use Rattle.order.specs.Queue.{chosen, queue_of}
use Rattle.order.proofs.GroupMembers.{members_single}
use Rattle.order.proofs.Grouping.{all_single}
use Rattle.order.proofs.Ordering.{rearranged, keep_ordered}
use Rattle.order.proofs.Queueing.{queue_first, queue_part}
use Rattle.order.proofs.Rearranged.{once_rearranged}
use Rattle.request.specs.Meaning.{lets_in}
use Rattle.pages.specs.Choice.{is_known}
use Rattle.pages.specs.Tables.{taken_in, table_measure, DecidesPage, SendsRows, DecidesGroups}
use Rattle.pages.specs.Held.{wanted_flags, is_wanted_here, groups_wanted}
use Rattle.pages.specs.declared.page.Bounds.{Bounds}
use Rattle.pages.specs.Results.Decided.{Decided}
use Rattle.store.proofs.SharedSerials.{serials_in_rows}
use Rattle.pages.specs.declared.deciding.Asked.{Asked}
use Rattle.pages.proofs.Chosen.{chosen_wanted}
use Rattle.pages.proofs.Lumps.{take_map}
use Rattle.pages.proofs.Stops.{sent_law}

-- ---- an element as a group

lump_single : (x : Element) → lump (single x) ≡ x
unfolding lump stored_length
lump_single x =
    let e : x.length + 0 ≡ x.length = omega arith in
    λ i. record { place = x.place; length = e i; kind = x.kind; id = x.id; serial = x.serial }

lumps_single : (xs : List Element) → map lump (map single xs) ≡ xs
lumps_single [] = refl
lumps_single (x ∷ xs) = rw (lump_single x, lumps_single xs)

-- a group of one is kept where its member is
keep_single : (test : Element → Bool) (xs : List Element) → keep (λ (g : Group). some_of test (members g)) (map single xs) ≡ map single (keep test xs)
unfolding keep some_of
keep_single test [] = refl
keep_single test (x ∷ xs) = rw (keep_single test xs) (by_bool (test x) (λ e. rw e) (λ e. rw e))

-- ---- the wanted groups

module _ (q : List ℕ) (a : Asked) (known : List Range) (all : List Element) (differ : once same_key (map (λ (x : Element). x.serial) all) ≡ true) (behind : List ℕ) where
  singles_are : groups_wanted q a known all ≡ map single (ordered (chosen all (wanted_flags q a known all behind)))
  unfolding lets_in
  singles_are =
      let test = is_wanted_here q a known all in
      let apart = once_rearranged same_key (λ (x : Element). x.serial) same_turn (rearranged all) differ in
      ap (keep (λ (g : Group). some_of test (members g))) (all_single (ordered all) apart)
      ∙ keep_single test (ordered all)
      ∙ ap (map single) (keep_ordered test all ∙ ap ordered (sym (chosen_wanted (is_known known) _ all behind)))

  pub lumps_are : map lump (groups_wanted q a known all) ≡ ordered (chosen all (wanted_flags q a known all behind))
  lumps_are = ap (map lump) singles_are ∙ lumps_single _

  pub members_are : (k : ℕ) → members_of (take k (groups_wanted q a known all)) ≡ take k (ordered (chosen all (wanted_flags q a known all behind)))
  members_are k = ap (λ (gs : List Group). members_of (take k gs)) singles_are ∙ ap members_of (take_map single k _) ∙ members_single _

  singles_count : length (groups_wanted q a known all) ≡ length (ordered (chosen all (wanted_flags q a known all behind)))
  singles_count = ap length singles_are ∙ length-map (ordered (chosen all (wanted_flags q a known all behind))) single

-- no more are sent than are wanted
pub taken_most : (b : Bounds) (l : List Range) (w : List Element) (d : Decided) (t : List ℕ) → DecidesPage w l b d t → taken_in d ≤ length w
taken_most b l w (Ok x) t h =
    (sent_law b.most b.limit b.room (table_measure b.fixed l w) (length w) x.count x.length x.ranges x.more (sym h.0)).greatest.most
taken_most b l w (Err e) t h = omega arith

-- ---- as they stand in the tables and in the queue

module _ (q : List ℕ) (a : Asked) (known : List Range) (rows ids : List ℕ) (n : ℕ) (stand : RowsStand rows ids n) (differ : once same_key (serial_keys rows n) ≡ true)
    (behind flags : List ℕ) (marked : flags ≡ wanted_flags q a known (elements_in rows ids n) behind) (queue queue' : List ℕ)
    (queued : queue' ≡ laid 0 (queue_of (elements_in rows ids n) flags) queue) where
  apart : once same_key (map (λ (x : Element). x.serial) (elements_in rows ids n)) ≡ true
  apart = rw (serials_in_rows rows ids n) at differ

  pub singles_sent : (d : Decided) → taken_in d ≤ length (groups_wanted q a known (elements_in rows ids n))
      → SendsRows rows ids queue' (groups_wanted q a known (elements_in rows ids n)) d (taken_in d)
  singles_sent (Ok x) h =
      let k = x.count in
      let all = elements_in rows ids n in
      let w = ordered (chosen all flags) in
      let e : members_of (take k (groups_wanted q a known all)) ≡ take k w = rw marked (members_are q a known all apart behind k) in
      let m : k ≤ length w = rw marked (omega (arith, singles_count q a known all apart behind)) in (
        sym (ap length e ∙ length-take-le k w m),
        queue_part rows ids n flags queue queue' queued k m stand,
        queue_first rows ids n flags queue queue' queued k m ∙ sym e,
      )
  singles_sent (Err e) h = tt

  -- what was decided of those that are chosen was decided of the groups, and so many rows of the queue are sent
  pub singles_decided : (b : Bounds) (d : Decided) (t : List ℕ) → DecidesPage (ordered (chosen (elements_in rows ids n) flags)) known b d t
      → DecidesGroups rows ids (groups_wanted q a known (elements_in rows ids n)) known b d (taken_in d) queue' t
  singles_decided b d t h =
      let all = elements_in rows ids n in
      let e : map lump (groups_wanted q a known all) ≡ ordered (chosen all flags) = rw marked (lumps_are q a known all apart behind) in
      let g : DecidesPage (map lump (groups_wanted q a known all)) known b d t = subst (λ (w : List Element). DecidesPage w known b d t) (sym e) h in
      let m = taken_most b known _ d t g in
      (g, singles_sent d (omega (arith, length-map (groups_wanted q a known all) lump)))
