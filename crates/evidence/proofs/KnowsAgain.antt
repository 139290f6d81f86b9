-- From put to put: a bench that knew everything asks behind a put, with the knowledge that it had and with no filters. When an unmarked
-- answer has come it knows everything again, so that all of BenchAfterPut holds behind the next put too; also where elements of the store
-- share a serial number (document 02, Q-3). A reader needs the statement of `knows_again`, at the end.
-- Assumes nothing.
use mathlib.Core.Path.{◌≡◌, refl, sym, ap, subst, ◌∙◌}
use mathlib.Core.Bool.{Bool, true, false}
use mathlib.Core.List.Memᴰ.{head as here}
use mathlib.Core.List.{List, [], map, map-append, Memᴰ as In}
use Prim.Native.Nat.{ℕ}
use Rattle.laws.specs.Bytes.{AllBytes}
use Rattle.laws.specs.Once.{seen}
use Rattle.laws.specs.Pick.{pick}
use Rattle.laws.proofs.Cases.{by_bool, impossible}
use Rattle.laws.proofs.Twice.{seen_append}
use Rattle.numbers.specs.declared.guid.Guid.{Guid}
use Rattle.talk.specs.Series.{Answer, Chain, done, next, Judged, joined_pages, FirstUnmarked, with_keys}
use Rattle.talk.specs.Wanted.{is_wanted, wanted}
use Rattle.talk.proofs.Series.{unmarked_sent}
use Rattle.talk.specs.declared.range.Range.{Range}
use Rattle.store.specs.Element.{same_key}
use Rattle.store.specs.declared.element.Element.{Element}
use Rattle.store.specs.declared.element.Key.{Key}
use Rattle.store.proofs.Chains.{store_read}
use Rattle.store.proofs.ElementFits.{KeysFit, keys_fit}
use Rattle.request.specs.Meaning.{left_in}
use Rattle.pages.specs.Choice.{knows_key}
use Rattle.enter.proofs.Keys.{seen_member, member_seen}
use Rattle.enter.proofs.Members.{of_each}
use Rattle.order.specs.Groups.{Group, members, group_serial, some_of}
use Rattle.order.proofs.Grouping.{members_share, every_member, every_element}
use Rattle.order.proofs.Members.{member_stays, member_was}
use Rattle.order.proofs.Ordering.{rearranged}
use Rattle.evidence.specs.Puts.{is_new, KnewEverything}
use Rattle.evidence.specs.Talk.{KeyFits, elements_of, in_row_order, groups_of, leaves_in, wanted_of, SameSet, Talk}
use Rattle.evidence.proofs.Kept.{kept_was, was_kept}
use Rattle.evidence.proofs.DemandThree.{DemandThree, demand_three, answers_read}
use Rattle.evidence.proofs.PutDemands.{PutDemandTwo}
use Rattle.evidence.proofs.SerialsOverPuts.{new_before}
use Rattle.evidence.proofs.Series.{all_read}
use Rattle.evidence.proofs.StoreBehind.{stored_not_new}

-- ---- what is known at the end of a chain of answers: what was known, and the serial numbers of all that came

more_known : (b c d : Bool) → pick (pick b true c) true d ≡ pick b true (pick c true d)
more_known b c d = by_bool b (λ e. rw e) (λ e. rw e)

chain_knows : {things : List Group} {lets : Group → Bool} {know know' : Key → Bool} {answers : List (Answer Group)}
    → Chain (Judged same_key KeyFits group_serial things lets) know answers know' → (k : Key) → KeyFits k
    → know' k ≡ with_keys same_key know (map group_serial (joined_pages answers)) k
unfolding seen
chain_knows {know = know} done k f = by_bool (know k) (λ e. rw e) (λ e. rw e)
chain_knows {know = know} (next {m = m} {a = a} {given = given} r c) k f =
    chain_knows c k f
    ∙ ap (λ (b : Bool). pick b true (seen same_key k (map group_serial (joined_pages given)))) (r.adds k f)
    ∙ more_known (know k) (seen same_key k (map group_serial a.page)) (seen same_key k (map group_serial (joined_pages given)))
    ∙ ap (λ (b : Bool). pick (know k) true b)
    (sym (ap (seen same_key k) (map-append group_serial a.page (joined_pages given)) ∙ seen_append same_key k (map group_serial a.page) (map group_serial (joined_pages given))))

-- ---- behind the talk on the new store

module _ (w : List ℕ) (bytes : AllBytes w) (know know' : Key → Bool) (ws : List (List ℕ)) (t : Talk w [] know ws know') where
  abbrev three : DemandThree w [] know ws
  three = demand_three w bytes [] know know' ws t

  abbrev came : List Group
  came = joined_pages three.answers

  known : (k : Key) → KeyFits k → know' k ≡ with_keys same_key know (map group_serial came) k
  known k f = rw (answers_read w bytes [] know know' ws t) (chain_knows (all_read w bytes [] t).chain k f)

  -- where an answer was unmarked, all that was wanted has come
  all_came : FirstUnmarked three.answers → came ≡ wanted_of w [] know
  all_came f = unmarked_sent (record { initial = three.initial; whole = three.whole; soon = three.soon }) f

  -- what has come is of the store
  came_from : FirstUnmarked three.answers → (x : Group) → In x came → In x.first (elements_of w)
  unfolding wanted
  came_from f x m =
      member_was (rearranged (elements_of w))
      (every_element (in_row_order w) (kept_was (is_wanted group_serial (leaves_in w []) know) (groups_of w) x (subst (In x) (all_came f) m)).0 (here refl))

  -- and of what was not known the group has come
  lacking_came : FirstUnmarked three.answers → (x : Element) → In x (elements_of w) → know x.serial ≡ false → (y : Group) × In y came × (group_serial y ≡ x.serial)
  unfolding wanted is_wanted left_in some_of
  lacking_came f x m e =
      let (y, i, j) = every_member (in_row_order w) (member_stays (rearranged (elements_of w)) m) in
      let shared : x.serial ≡ group_serial y = of_each (λ (z : Element). z.serial ≡ group_serial y) (members y) (of_each _ (groups_of w) (members_share (in_row_order w)) y i) x j in
      let lacked : know (group_serial y) ≡ false = ap know (sym shared) ∙ e in
      (y, subst (In y) (sym (all_came f)) (was_kept (is_wanted group_serial (leaves_in w []) know) (groups_of w) y i (rw lacked)), sym shared)

-- ---- everything again

module _ (s q : List ℕ) (g : Guid) (a w : List ℕ) (two : PutDemandTwo s q g a w) (bytes : AllBytes w) (l l' : List Range) (knew : KnewEverything s g l)
    (know' : Key → Bool) (ws : List (List ℕ)) (t : Talk w [] (knows_key l) ws know') (f : FirstUnmarked (three w bytes (knows_key l) know' ws t).answers)
    (same : SameSet know' l') where
  abbrev sent : List Group
  sent = came w bytes (knows_key l) know' ws t

  told : (k : Key) → KeyFits k → knows_key l' k ≡ with_keys same_key (knows_key l) (map group_serial sent) k
  told k fits = sym (same k fits) ∙ known w bytes (knows_key l) know' ws t k fits

  every : (x : Element) → In x (elements_of w) → knows_key l' x.serial ≡ true
  every x m =
      told x.serial (of_each KeysFit (elements_of w) (keys_fit w bytes (store_read w two.reads)) x m).1.0
      ∙ by_bool (knows_key l x.serial) (λ e. rw e)
      (λ e.
      let (y, i, j) = lacking_came w bytes (knows_key l) know' ws t f x m e in
      let there : seen same_key x.serial (map group_serial sent) ≡ true = subst (λ (k : Key). seen same_key k (map group_serial sent) ≡ true) j (seen_member group_serial sent i) in
      rw (e, there))

  none_sent_lem : (k : Key) → is_new w g k ≡ true → seen same_key k (map group_serial sent) ≡ false
  none_sent_lem k n =
      by_bool (seen same_key k (map group_serial sent))
      (λ e.
      let (x, m, i) = member_seen group_serial k sent e in
      let o = stored_not_new w g x.first (came_from w bytes (knows_key l) know' ws t f x m) in
      let j = ap (is_new w g) i in
      impossible (cc))
      (λ e. e)

  ahead : (k : Key) → KeyFits k → is_new w g k ≡ true → knows_key l' k ≡ false
  ahead k fits n = told k fits ∙ rw (knew.none_ahead k fits (new_before s q g a w two k n), none_sent_lem k n)

-- a put that was answered (`demand_two_hub_put`), a bench that knew everything before it, and a talk on the new store, from its knowledge and
-- with no filters, in which an unmarked answer has come: what it knows then, as ranges, is everything again
pub knows_again : (s q : List ℕ) (g : Guid) (a w : List ℕ) → PutDemandTwo s q g a w → (bytes : AllBytes w) (l l' : List Range) → KnewEverything s g l
    → (know' : Key → Bool) (ws : List (List ℕ)) (t : Talk w [] (knows_key l) ws know')
    → FirstUnmarked (demand_three w bytes [] (knows_key l) know' ws t).answers → SameSet know' l' → KnewEverything w g l'
knows_again s q g a w two bytes l l' knew know' ws t f same =
    record { all_known = every s q g a w two bytes l l' knew know' ws t f same; none_ahead = ahead s q g a w two bytes l l' knew know' ws t f same }
