-- One answer that is kept: what a bench reads in it are the members of the page's groups, with the store's bytes (`answer_kept`); in the book
-- they then stand together, and under no other id anything is changed (`kept_page`). So what is right in the book stays right
-- (`stays_right`). A reader needs these statements only.
-- Assumes nothing.
use mathlib.Core.Path.{◌≡◌, refl, sym, ap, subst, ◌∙◌}
use mathlib.Core.Bool.{Bool, true, false, not}
use mathlib.Core.List.Memᴰ.{append_left as in_front}
use mathlib.Core.List.Memᴰ.{map as in_map}
use mathlib.Core.List.Memᴰ.{of_map}
use mathlib.Core.List.{List, [], ◌∷◌, ◌++◌, map, Memᴰ as In}
use mathlib.Core.Logic.{⊎_elim}
use Prim.Native.Nat.{ℕ, suc, ◌+◌, ◌<◌}
use native.Mathlib.Omega.{arith}
use lib.ListN.{length, take, drop, get_or}
use lib.Seq.{take_at}
use Rattle.laws.specs.Bytes.{AllBytes}
use Rattle.laws.specs.Once.{seen, once}
use Rattle.laws.specs.Pick.{pick}
use Rattle.laws.proofs.Cases.{by_bool, impossible}
use Rattle.objects.specs.Results.Reading.{Reading}
use Rattle.objects.specs.Results.Reading as reading
use Rattle.talk.specs.Wanted.{is_wanted, wanted}
use Rattle.store.specs.Accessor.{element_in, found_on, bytes_at}
use Rattle.store.specs.Element.{same_key}
use Rattle.store.specs.Held.{stored_bytes}
use Rattle.store.specs.Store.{store_walk, Stands}
use Rattle.store.specs.declared.element.Element.{Element}
use Rattle.store.specs.declared.element.Key.{Key}
use Rattle.store.proofs.Chains.{same_turn, store_read, ids_once}
use Rattle.order.specs.Groups.{Group, members, members_of, group_serial}
use Rattle.order.proofs.GroupMembers.{in_members, members_in}
use Rattle.order.proofs.Grouping.{once_grouped}
use Rattle.order.proofs.Ordering.{rearranged}
use Rattle.order.proofs.Rearranged.{once_rearranged}
use Rattle.request.specs.Meaning.{Filter}
use Rattle.request.specs.Message.{filters_of}
use Rattle.pages.specs.Answer.{known_in}
use Rattle.pages.specs.Choice.{knows_key}
use Rattle.enter.specs.Entering.{Kept, kept_id, enter}
use Rattle.enter.specs.Package.{kept_in}
use Rattle.enter.proofs.KeptIn.{kept_in_parts, kept_in_ids}
use Rattle.enter.proofs.EnteringLaws.{named, unnamed_stays, all_come, nothing_else}
use Rattle.enter.proofs.Keys.{member_seen, unseen_member}
use Rattle.client.specs.Accessor.{received_at, received_bytes}
use Rattle.client.specs.Back.{placed_at, set_down}
use Rattle.client.specs.Read.{package_in, answer_end, answer_on, answer_in}
use Rattle.client.specs.declared.answer.Received.{Received}
use Rattle.client.specs.Results.ReadAnswer as answer
use Rattle.evidence.specs.Book.{Holds, PageKept, Standing, KeptAsk}
use Rattle.evidence.specs.Talk.{elements_of, in_row_order, groups_of, leaves_in, wanted_of}
use Rattle.evidence.proofs.DemandTwo.{DemandTwo}
use Rattle.evidence.proofs.Holding.{id_of, one_element, of_store}
use Rattle.evidence.proofs.KeepDemands.{BookDemandTwo, demand_two_keep}
use Rattle.evidence.proofs.Kept.{kept_was}
use Rattle.evidence.proofs.Steps.{held}

-- ---- what is read in an answer

end_stands : (c : Reading) (x y : Received) → answer_on c x ≡ answer.Is y → Stands c
unfolding answer_on
end_stands (reading.At e v) x y h = tt
end_stands (reading.Refused r) x y h = impossible (cc)

found_on_lem : (xs : List Element) (i : ℕ) (c : Reading) → Stands c → found_on xs i c ≡ element_in xs i
found_on_lem xs i (reading.At e v) h = refl
found_on_lem xs i (reading.Refused r) h = absurd h

set_down_bytes : (w : List ℕ) (at : ℕ) (x : Element) → stored_bytes w (placed_at at x) ≡ take x.length (drop at w)
unfolding stored_bytes
set_down_bytes w at x = refl

-- elements that were set down have the bytes that they had
set_down_kept : (s w : List ℕ) (at : ℕ) (page : List Element)
    → ((i : ℕ) (d : Element) → i < length page → bytes_at w (element_in (set_down at page) i) ≡ stored_bytes s (get_or page i d))
    → map (kept_in w) (set_down at page) ≡ map (kept_in s) page
unfolding set_down element_in kept_in
set_down_kept s w at [] h = refl
set_down_kept s w at (x ∷ page) h =
    rw (set_down_bytes w at x ∙ h 0 x (omega arith), set_down_kept s w (at + x.length) page (λ i d l. h (suc i) d (omega arith)))

read_kept : (s w : List ℕ) (page : List Element) → (package_in w).elements ≡ set_down 20 page → Stands (answer_end w)
    → ((i : ℕ) (d : Element) → i < length page → received_bytes w i ≡ stored_bytes s (get_or page i d))
    → map (kept_in w) (package_in w).elements ≡ map (kept_in s) page
unfolding received_bytes received_at
read_kept s w page e stands h =
    ap (map (kept_in w)) e
    ∙ set_down_kept s w 20 page
    (λ i d l. ap (bytes_at w) (sym (found_on_lem (package_in w).elements i (answer_end w) stands ∙ ap (λ (xs : List Element). element_in xs i) e)) ∙ h i d l)

-- an answer is read
pub answer_stands : (s q : List ℕ) (room : ℕ) (w : List ℕ) → DemandTwo s q room w → Stands (answer_end w)
unfolding answer_in
answer_stands s q room w h = end_stands (answer_end w) _ _ h.read.read

-- its elements, with ids, serial numbers and bytes, are the members of the page's groups
pub answer_kept : (s q : List ℕ) (room : ℕ) (w : List ℕ) (h : DemandTwo s q room w)
    → map (kept_in w) (package_in w).elements ≡ map (kept_in s) (members_of h.page)
answer_kept s q room w h = read_kept s w (members_of h.page) h.read.elements_are (answer_stands s q room w h) h.read.bytes_are

-- ---- it enters the book

-- no id stands twice among the members of groups that are some first ones of those wanted
page_once : (s : List ℕ) → Stands (store_walk s).last → (fs : List Filter) (know : Key → Bool) (page rest : List Group) → page ++ rest ≡ wanted_of s fs know
    → once same_key (map id_of (members_of page)) ≡ true
unfolding wanted
page_once s r fs know page rest e =
    let first : take (length page) (wanted_of s fs know) ≡ page = ap (take (length page)) (sym e) ∙ take_at page rest (length page) refl in
    subst (λ (p : List Group). once same_key (map id_of (members_of p)) ≡ true) first
    (once_grouped same_key id_of same_turn (is_wanted group_serial (leaves_in s fs) know) (length page) (in_row_order s)
    (once_rearranged same_key id_of same_turn (rearranged (elements_of s)) (ids_once s (store_read s r))))

-- they are groups of the store, whose serial numbers are lacked
pub page_wanted : (s : List ℕ) (fs : List Filter) (know : Key → Bool) (page rest : List Group) → page ++ rest ≡ wanted_of s fs know → (g : Group) → In g page
    → In g (groups_of s) × (know (group_serial g) ≡ false)
unfolding wanted is_wanted
page_wanted s fs know page rest e g m =
    let (i, t) = kept_was (is_wanted group_serial (leaves_in s fs) know) (groups_of s) g (subst (In g) e (in_front rest m)) in
    (i, lacks (leaves_in s fs g) (know (group_serial g)) t)
  where
    lacks : (a b : Bool) → pick a (not b) false ≡ true → b ≡ false
    lacks a true h = by_bool a (λ t. impossible (let z : false ≡ true = rw t at h in cc)) (λ t. impossible (let z : false ≡ true = rw t at h in cc))
    lacks a false h = refl

-- what a book holds, by its elements as they are kept
kept_held : (b : List ℕ) (k : Kept) → In k (map (kept_in b) (elements_of b)) → Holds b k.id k.bytes
kept_held b k m =
    let (x, n, e) = of_map (kept_in b) (elements_of b) m in
    let p = kept_in_parts b x in
    record { element = x; among = n; id_is = sym p.0 ∙ ap kept_id e; bytes_are = sym p.2 ∙ ap (λ (y : Kept). y.bytes) e }

module _ (s b b' : List ℕ) (page : List Group) (no-twice : once same_key (map id_of (members_of page)) ≡ true)
    (elements : map (kept_in b') (elements_of b') ≡ enter (map (kept_in b) (elements_of b)) (map (kept_in s) (members_of page))) where
  abbrev there : List Kept
  there = map (kept_in b) (elements_of b)

  abbrev come : List Kept
  come = map (kept_in s) (members_of page)

  abbrev NotNamed : Key → Type 0
  NotNamed id = (g : Group) → In g page → (x : Element) → In x (members g) → x.id ≡ id → ⊥

  come_held : (g : Group) → In g page → (x : Element) → In x (members g) → Holds b' x.id (stored_bytes s x)
  come_held g i x m =
      let once-come : once same_key (map kept_id come) ≡ true = rw (kept_in_ids s (members_of page)) no-twice in
      let entered : In (kept_in s x) (enter there come) = all_come there come once-come (kept_in s x) (in_map (kept_in s) (members_in i m)) in
      let h = kept_held b' (kept_in s x) (subst (In (kept_in s x)) (sym elements) entered) in
      let p = kept_in_parts s x in
      record { element = h.element; among = h.among; id_is = h.id_is ∙ p.0; bytes_are = h.bytes_are ∙ p.2 }

  not_named : (id : Key) → NotNamed id → (k : Kept) → k.id ≡ id → named come k ≡ false
  not_named id none k e =
      by_bool (named come k)
      (λ t.
      let (x, m, i) = member_seen id_of k.id (members_of page) (rw (kept_in_ids s (members_of page)) at t) in
      let (g, j, n) = in_members page m in
      absurd (none g j x n (i ∙ e)))
      (λ t. t)

  stays_held : (id : Key) → NotNamed id → (v : List ℕ) → Holds b id v → Holds b' id v
  stays_held id none v h =
      let p = kept_in_parts b h.element in
      let k = kept_in b h.element in
      let r =
      kept_held b' k
      (subst (In k) (sym elements) (unnamed_stays there come k (in_map (kept_in b) h.among) (not_named id none k (p.0 ∙ h.id_is)))) in
      record { element = r.element; among = r.among; id_is = r.id_is ∙ p.0 ∙ h.id_is; bytes_are = r.bytes_are ∙ p.2 ∙ h.bytes_are }

  was_held : (id : Key) → NotNamed id → (v : List ℕ) → Holds b' id v → Holds b id v
  was_held id none v h =
      let p = kept_in_parts b' h.element in
      let k = kept_in b' h.element in
      ⊎_elim
      (λ n.
      let r = kept_held b k n.0 in
      record { element = r.element; among = r.among; id_is = r.id_is ∙ p.0 ∙ h.id_is; bytes_are = r.bytes_are ∙ p.2 ∙ h.bytes_are })
      (λ n.
      let (x, m, e) = of_map (kept_in s) (members_of page) n in
      let (g, j, i) = in_members page m in
      absurd (none g j x i (sym (kept_in_parts s x).0 ∙ ap kept_id e ∙ p.0 ∙ h.id_is)))
      (nothing_else there come k (subst (In k) elements (in_map (kept_in b') h.among)))

  page_kept : PageKept s page b b'
  page_kept = record { enter_together = come_held; others_stay = λ id none v. (stays_held id none v, was_held id none v) }

-- the answer's page is in the book, and under no other id anything is changed
pub taken_page : (s q : List ℕ) (room : ℕ) (w : List ℕ) (h : DemandTwo s q room w) (b b' : List ℕ) → BookDemandTwo b w b' → PageKept s h.page b b'
taken_page s q room w h b b' t =
    page_kept s b b' h.page (page_once s h.store_reads (filters_of q) (knows_key (known_in q)) h.page h.rest h.run)
    (t.elements ∙ ap (enter (map (kept_in b) (elements_of b))) (answer_kept s q room w h))

module _ (s : List ℕ) (b : AllBytes s) (fs : List Filter) (z z' : Standing) (w : List ℕ) (r : KeptAsk s fs z w z') where
  abbrev pub two : DemandTwo s r.0.request r.0.room w
  two = held s b fs z.know z'.know w r.0

  -- of a kept ask
  pub kept_page : PageKept s two.page z.book z'.book
  kept_page = taken_page s r.0.request r.0.room w two z.book z'.book (demand_two_keep z.book w z'.book r.1)

  -- the groups of its page are the store's
  page_stored : (g : Group) → In g two.page → In g (groups_of s)
  page_stored g m = (page_wanted s (filters_of r.0.request) (knows_key (known_in r.0.request)) two.page two.rest two.run g m).0

  -- what is right stays right: an element of the store that stands in the book with the store's bytes
  pub stays_right : (x : Element) → In x (elements_of s) → Holds z.book x.id (stored_bytes s x) → Holds z'.book x.id (stored_bytes s x)
  stays_right x m h =
      by_bool (seen same_key x.id (map id_of (members_of two.page)))
      (λ t.
      let (y, n, e) = member_seen id_of x.id (members_of two.page) t in
      let (g, i, j) = in_members two.page n in
      let same : y ≡ x = one_element s two.store_reads y x (of_store s (page_stored g i) j) m e in
      subst (λ (v : Element). Holds z'.book v.id (stored_bytes s v)) same (kept_page.enter_together g i y j))
      (λ t. (kept_page.others_stay x.id (λ g i y j e. unseen_member id_of x.id (members_of two.page) t (members_in i j) e) (stored_bytes s x)).0 h)
