-- The groups of which one member is chosen, laid one after the other: the groups that were looked at, with those still to come, are all groups,
-- and of those that were looked at the chosen ones stand in the tables.
-- Assumes nothing.
use mathlib.Core.Path.{◌≡◌, refl, sym, ap, subst, ◌∙◌}
use mathlib.Core.Bool.{Bool, true, false}
use mathlib.Core.List.{List, [], ◌∷◌, ◌++◌, map, append_assoc, append-nil, map-append}
use Prim.Native.Nat.{ℕ, zero, suc, ◌+◌, ◌≤◌, ◌<◌}
use native.Mathlib.Omega.{arith}
use native.Mathlib.Numerals.{add-one}
use lib.ListN.{length, take, get_or, set, length-set, length-append}
use lib.Seq.{get_or-set_same, get_or-set_other, take-append-le, take-suc-set}
use Rattle.laws.specs.Pick.{pick}
use Rattle.laws.specs.Once.{seen}
use Rattle.laws.proofs.Cases.{by_bool, by_eq, impossible}
use Rattle.talk.specs.Each.{Each}
use Rattle.talk.specs.Wanted.{keep}
use Rattle.talk.proofs.Delivery.{keep_append}
use Rattle.talk.proofs.Things.{each_so}
use Rattle.store.specs.Element.{same_key}
use Rattle.store.specs.Tables.{RowsStand, most_elements, element_in_row}
use Rattle.store.specs.declared.element.Element.{Element}
use Rattle.store.specs.declared.element.Key.{Key}
use Rattle.store.proofs.Chains.{same_turn}
use Rattle.store.proofs.Rows.{same_itself, same_equal}
use Rattle.order.specs.Groups.{Group, members, members_of, sharing, groups_behind, groups, some_of}
use Rattle.order.specs.Links.{with_length, lump, bare, summed_row, queued_at, queued_from, group_from, FlagsAre, ToLay, MembersLaid, ToGroup, chosen_groups, GroupsLaid}
use Rattle.order.specs.Queue.{elements_at, queued_in}
use Rattle.order.specs.Rearranged.{Pairs}
use Rattle.order.specs.declared.groups.Laid.{Laid}
use Rattle.order.proofs.Rearranged.{each_append, pairs_append}
use Rattle.order.proofs.GroupMembers.{members_append, length_more, length_least}
use Rattle.order.proofs.Grouping.{length_members}
use Rattle.order.proofs.Linking.{from_turn, from_end}
use Rattle.order.proofs.Laying.{length_from}

abbrev chosen_by : (Element → Bool) → Group → Bool
chosen_by test g = some_of test (members g)

-- ---- the turns

-- the first of the ends is 0
pub first_end : {rows ids : List ℕ} {n : ℕ} {queue links flags passed sums earliest laid ends : List ℕ} → ToGroup rows ids n queue links flags passed sums earliest laid ends
    → ToGroup rows ids n queue links flags passed sums earliest laid (set ends 0 0) × (get_or (set ends 0 0) 0 0 ≡ 0)
first_end {ends = ends} t =
    let r = t.ends_room in
    let e = length-set ends 0 0 in (
      record {
        queued = t.queued;
        short = t.short;
        links_long = t.links_long;
        linked = t.linked;
        flags_long = t.flags_long;
        passed_long = t.passed_long;
        none_passed = t.none_passed;
        sums_room = t.sums_room;
        earliest_room = t.earliest_room;
        room = t.room;
        ends_room = omega arith;
      },
      get_or-set_same ends 0 0 0 (omega arith),
    )

pub record GroupsLaying (rows ids : List ℕ) (n : ℕ) (queue flags passed₀ sums₀ earliest₀ laid₀ ends₀ passed sums earliest laid ends : List ℕ) (w at k : ℕ) : Type 0 where
  pub looked : List Group
  pub done : List Group
  pub before : List Key
  pub inside : k ≤ n
  pub all : looked ++ groups_behind before (queued_from rows ids n queue k) ≡ groups (queued_from rows ids n queue 0)
  pub fewer : length (members_of done) ≤ length (members_of looked)
  pub chosen : (test : Element → Bool) → FlagsAre test rows ids n flags → keep (chosen_by test) looked ≡ done
  pub passed_is : (j : ℕ) → k ≤ j → j < n → get_or passed j 0 ≡ pick (seen same_key (queued_at rows ids queue j).serial before) 1 0
  pub w_is : w ≡ length done
  pub at_is : at ≡ length (members_of done)
  pub lumps : map bare (map (summed_row rows ids sums) (take w earliest)) ≡ map bare (map lump done)
  pub rows_inside : Each (λ (i : ℕ). i < n) (take w earliest)
  pub rows_before : Each (λ (i : ℕ). seen same_key (element_in_row rows ids i).serial before ≡ true) (take w earliest)
  pub apart : Pairs (λ (i j : ℕ). i ≡ j → ⊥) (take w earliest)
  pub are : queued_in rows ids at laid ≡ members_of done
  pub within : Each (λ (i : ℕ). RowsStand rows ids (i + 1)) (take at laid)
  pub ends_are : (j : ℕ) → j ≤ w → get_or ends j 0 ≡ length (members_of (take j done))
  pub passed_long : length passed ≡ length passed₀
  pub sums_long : length sums ≡ length sums₀
  pub earliest_long : length earliest ≡ length earliest₀
  pub laid_long : length laid ≡ length laid₀
  pub ends_long : length ends ≡ length ends₀

module _ (rows ids : List ℕ) (n : ℕ) (queue links flags passed₀ sums₀ earliest₀ laid₀ ends₀ : List ℕ) (t : ToGroup rows ids n queue links flags passed₀ sums₀ earliest₀ laid₀ ends₀) where
  abbrev long_queue : n ≤ length queue
  long_queue = t.queued.long

  pub groups_start : get_or ends₀ 0 0 ≡ 0 → GroupsLaying rows ids n queue flags passed₀ sums₀ earliest₀ laid₀ ends₀ passed₀ sums₀ earliest₀ laid₀ ends₀ 0 0 0
  unfolding keep members_of seen
  groups_start e =
      record {
        looked = [];
        done = [];
        before = [];
        inside = omega arith;
        all = refl;
        fewer = omega arith;
        chosen = λ test f. refl;
        passed_is = λ j l m. t.none_passed j m;
        w_is = refl;
        at_is = refl;
        lumps = refl;
        rows_inside = tt;
        rows_before = tt;
        apart = tt;
        are = refl;
        within = tt;
        ends_are = λ j l. let z : j ≡ 0 = omega arith in rw z e;
        passed_long = refl;
        sums_long = refl;
        earliest_long = refl;
        laid_long = refl;
        ends_long = refl;
      }

  length_all : length (members_of (groups (queued_from rows ids n queue 0))) ≡ n
  length_all = length_members (queued_from rows ids n queue 0) ∙ length_from rows ids n queue long_queue n 0 (omega arith)

  module _ {passed sums earliest laid ends : List ℕ} {w at k : ℕ} (l : GroupsLaying rows ids n queue flags passed₀ sums₀ earliest₀ laid₀ ends₀ passed sums earliest laid ends w at k) (h : k < n) where
    abbrev x : Element
    x = queued_at rows ids queue k

    -- ---- one whose serial number came before

    seen_then : (b : Bool) → (get_or passed k 0 ≡ pick b 1 0) → (get_or passed k 0 ≡ 0 → ⊥) → b ≡ true
    seen_then true e f = refl
    seen_then false e f = absurd (f e)

    unseen_then : (b : Bool) → (get_or passed k 0 ≡ pick b 1 0) → get_or passed k 0 ≡ 0 → b ≡ false
    unseen_then true e f = absurd (let z : ◌≡◌ {A = ℕ} 1 0 = sym e ∙ f in omega arith)
    unseen_then false e f = refl

    pub groups_passed : (get_or passed k 0 ≡ 0 → ⊥) → GroupsLaying rows ids n queue flags passed₀ sums₀ earliest₀ laid₀ ends₀ passed sums earliest laid ends w at (k + 1)
    unfolding groups_behind
    groups_passed f =
        let s = seen_then (seen same_key x.serial l.before) (l.passed_is k (omega arith) h) f in
        let e : groups_behind l.before (queued_from rows ids n queue k) ≡ groups_behind l.before (queued_from rows ids n queue (k + 1)) = rw (from_turn rows ids n queue long_queue k h, s, add-one k) in
        record {
          looked = l.looked;
          done = l.done;
          before = l.before;
          inside = omega arith;
          all = ap (λ (gs : List Group). l.looked ++ gs) (sym e) ∙ l.all;
          fewer = l.fewer;
          chosen = l.chosen;
          passed_is = λ j a b. l.passed_is j (omega arith) b;
          w_is = l.w_is;
          at_is = l.at_is;
          lumps = l.lumps;
          rows_inside = l.rows_inside;
          rows_before = l.rows_before;
          apart = l.apart;
          are = l.are;
          within = l.within;
          ends_are = l.ends_are;
          passed_long = l.passed_long;
          sums_long = l.sums_long;
          earliest_long = l.earliest_long;
          laid_long = l.laid_long;
          ends_long = l.ends_long;
        }

    -- ---- the first of a group

    module _ (f : get_or passed k 0 ≡ 0) where
      abbrev g : Group
      g = record { first = x; others = keep (sharing x) (queued_from rows ids n queue (suc k)) }

      pub group_is : group_from rows ids n queue k ≡ members g
      unfolding keep
      group_is = rw (from_turn rows ids n queue long_queue k h, same_itself x.serial)

      behind_is : groups_behind l.before (queued_from rows ids n queue k) ≡ g ∷ groups_behind (x.serial ∷ l.before) (queued_from rows ids n queue (suc k))
      unfolding groups_behind
      behind_is =
          let s = unseen_then (seen same_key x.serial l.before) (l.passed_is k (omega arith) h) f in
          rw (from_turn rows ids n queue long_queue k h, s)

      all_more : (l.looked ++ (g ∷ [])) ++ groups_behind (x.serial ∷ l.before) (queued_from rows ids n queue (suc k)) ≡ groups (queued_from rows ids n queue 0)
      all_more = append_assoc l.looked (g ∷ []) _ ∙ ap (λ (gs : List Group). l.looked ++ gs) (sym behind_is) ∙ l.all

      -- there is room for its members
      pub members_room : at + length (members g) ≤ n
      members_room =
          let a = l.at_is in
          let b = l.fewer in
          let c = ap (λ (gs : List Group). length (members_of gs)) (sym (ap (λ (gs : List Group). l.looked ++ gs) (sym behind_is) ∙ l.all)) in
          let d = ap length (members_append l.looked (g ∷ groups_behind (x.serial ∷ l.before) (queued_from rows ids n queue (suc k)))) in
          let e = length-append (members_of l.looked) (members_of (g ∷ groups_behind (x.serial ∷ l.before) (queued_from rows ids n queue (suc k)))) in
          let i = length_more g (groups_behind (x.serial ∷ l.before) (queued_from rows ids n queue (suc k))) in
          let j = length_all in
          omega arith

      pub groups_room : w < n
      groups_room =
          let a = members_room in
          let b = length_least l.done in
          let c = l.w_is in
          let d = l.at_is in
          omega arith

      pub to_lay_lem : ToLay rows ids n queue links flags k passed at laid
      to_lay_lem =
          let a = t.room in
          let b = l.laid_long in
          let c = members_room in
          let d = ap length group_is in
          let e = t.passed_long in
          let i = l.passed_long in
          record {
            queued = t.queued;
            short = t.short;
            links_long = t.links_long;
            linked = t.linked;
            flags_long = t.flags_long;
            inside = h;
            passed_long = omega arith;
            room = omega arith;
            few = let few : n ≤ most_elements = t.queued.few in omega arith;
          }

      module _ {passed' laid' : List ℕ} {r : Laid} (m : MembersLaid rows ids n queue flags k passed passed' at laid laid' r) where
        passed_more : (j : ℕ) → k + 1 ≤ j → j < n → get_or passed' j 0 ≡ pick (seen same_key (queued_at rows ids queue j).serial (x.serial ∷ l.before)) 1 0
        unfolding seen
        passed_more j a b =
            m.marked j (omega arith) b
            ∙ rw (l.passed_is j (omega arith) b, same_turn (queued_at rows ids queue j).serial x.serial)
            (by_bool (same_key x.serial (queued_at rows ids queue j).serial) (λ e. rw e) (λ e. rw e))

        looked_more : (test : Element → Bool) → FlagsAre test rows ids n flags → keep (chosen_by test) (l.looked ++ (g ∷ [])) ≡ l.done ++ pick r.chosen (g ∷ []) []
        unfolding keep
        looked_more test fl =
            let e : r.chosen ≡ chosen_by test g = m.chosen test fl ∙ ap (some_of test) group_is in
            keep_append (chosen_by test) l.looked (g ∷ []) ∙ rw (l.chosen test fl, e)

        -- the rows whose serial numbers came before, and this one's own
        before_more : Each (λ (j : ℕ). seen same_key (element_in_row rows ids j).serial (x.serial ∷ l.before) ≡ true) (take w earliest)
        unfolding seen
        before_more =
            each_so (λ (j : ℕ). seen same_key (element_in_row rows ids j).serial l.before ≡ true) (λ (j : ℕ). seen same_key (element_in_row rows ids j).serial (x.serial ∷ l.before) ≡ true) (take w earliest)
            (λ j e. rw e (by_bool (same_key (element_in_row rows ids j).serial x.serial) (λ s. rw s) (λ s. rw s))) l.rows_before

        own_before : seen same_key (element_in_row rows ids r.earliest).serial (x.serial ∷ l.before) ≡ true
        unfolding seen
        own_before = rw (same_turn (element_in_row rows ids r.earliest).serial x.serial, m.shares)

        members_more : (gs : List Group) → members_of (gs ++ (g ∷ [])) ≡ members_of gs ++ members g
        unfolding members_of
        members_more gs = members_append gs (g ∷ []) ∙ ap (λ (r : List Element). members_of gs ++ r) (append-nil (members g))

        length_members_more : (gs : List Group) → length (members_of (gs ++ (g ∷ []))) ≡ length (members_of gs) + length (members g)
        length_members_more gs = ap length (members_more gs) ∙ length-append (members_of gs) (members g)

        -- of which none is chosen
        pub groups_left : r.chosen ≡ false → GroupsLaying rows ids n queue flags passed₀ sums₀ earliest₀ laid₀ ends₀ passed' sums earliest laid' ends w at (k + 1)
        groups_left c =
            let a = length_members_more l.looked in
            let b = l.fewer in
            record {
              looked = l.looked ++ (g ∷ []);
              done = l.done;
              before = x.serial ∷ l.before;
              inside = omega arith;
              all = rw (add-one k) all_more;
              fewer = omega arith;
              chosen = λ test fl. looked_more test fl ∙ rw (c, append-nil l.done);
              passed_is = passed_more;
              w_is = l.w_is;
              at_is = l.at_is;
              lumps = l.lumps;
              rows_inside = l.rows_inside;
              rows_before = before_more;
              apart = l.apart;
              are = ap (elements_at rows ids) m.kept ∙ l.are;
              within = rw m.kept l.within;
              ends_are = l.ends_are;
              passed_long = m.passed_long ∙ l.passed_long;
              sums_long = l.sums_long;
              earliest_long = l.earliest_long;
              laid_long = m.long ∙ l.laid_long;
              ends_long = l.ends_long;
            }

        -- of which one is chosen: its earliest row, which has its serial number
        abbrev i : ℕ
        i = r.earliest

        serial_is : (element_in_row rows ids i).serial ≡ x.serial
        serial_is = sym (same_equal x.serial (element_in_row rows ids i).serial m.shares)

        lump_is : bare (with_length (element_in_row rows ids i) r.stored) ≡ bare (lump g)
        unfolding lump
        lump_is = rw (serial_is, m.stored, group_is)

        -- it stands in the queue for no other group, whose serial number came before
        row_apart : Each (λ (j : ℕ). j ≡ i → ⊥) (take w earliest)
        row_apart =
            let u = unseen_then (seen same_key x.serial l.before) (l.passed_is k (omega arith) h) f in
            each_so (λ (j : ℕ). seen same_key (element_in_row rows ids j).serial l.before ≡ true) (λ (j : ℕ). j ≡ i → ⊥) (take w earliest)
            (λ j a e.
            let z : true ≡ false = sym a ∙ ap (λ (j : ℕ). seen same_key (element_in_row rows ids j).serial l.before) e ∙ ap (λ (k : Key). seen same_key k l.before) serial_is ∙ u in
            impossible (cc))
            l.rows_before

        sums_kept : (places : List ℕ) → Each (λ (j : ℕ). j ≡ i → ⊥) places → map (summed_row rows ids (set sums i r.stored)) places ≡ map (summed_row rows ids sums) places
        sums_kept [] a = refl
        sums_kept (j ∷ places) a = rw (get_or-set_other sums i j r.stored 0 a.0, sums_kept places a.1)

        earliest_taken : take (w + 1) (set earliest w i) ≡ take w earliest ++ (i ∷ [])
        earliest_taken =
            let a = groups_room in
            let b = t.earliest_room in
            let c = l.earliest_long in
            rw (add-one w) (take-suc-set earliest w i (omega arith))

        lumps_more : map bare (map (summed_row rows ids (set sums i r.stored)) (take (w + 1) (set earliest w i))) ≡ map bare (map lump (l.done ++ (g ∷ [])))
        lumps_more =
            let inside = m.inside in
            let a = t.sums_room in
            let b = l.sums_long in
            let own : get_or (set sums i r.stored) i 0 ≡ r.stored = get_or-set_same sums i r.stored 0 (omega arith) in
            rw (
              earliest_taken,
              map-append (summed_row rows ids (set sums i r.stored)) (take w earliest) (i ∷ []),
              map-append bare (map (summed_row rows ids (set sums i r.stored)) (take w earliest)) (summed_row rows ids (set sums i r.stored) i ∷ []),
              map-append lump l.done (g ∷ []),
              map-append bare (map lump l.done) (lump g ∷ []),
              sums_kept (take w earliest) row_apart,
              l.lumps,
              own,
              lump_is,
            )

        end_is : r.end ≡ length (members_of (l.done ++ (g ∷ [])))
        end_is = m.end ∙ (let a = l.at_is in let b = length_members_more l.done in let c = ap length group_is in omega arith)

        ends_more : (j : ℕ) → j ≤ w + 1 → get_or (set ends (w + 1) r.end) j 0 ≡ length (members_of (take j (l.done ++ (g ∷ []))))
        ends_more j a =
            let z = l.w_is in
            by_eq j (w + 1)
            (λ e.
            let room : w + 1 < length ends = let b = groups_room in let c = t.ends_room in let d = l.ends_long in omega arith in
            let every : take (w + 1) (l.done ++ (g ∷ [])) ≡ l.done ++ (g ∷ []) = take_all (l.done ++ (g ∷ [])) (w + 1) (let c = length-append l.done (g ∷ []) in omega arith) in
            rw (e, every) (get_or-set_same ends (w + 1) r.end 0 room ∙ end_is))
            (λ e.
            let b : j ≤ length l.done = omega arith in
            get_or-set_other ends (w + 1) j r.end 0 e ∙ l.ends_are j (omega arith) ∙ ap (λ (gs : List Group). length (members_of gs)) (sym (take-append-le j l.done (g ∷ []) b)))
          where
            take_all : {E : Type 0} (xs : List E) (m : ℕ) → length xs ≡ m → take m xs ≡ xs
            take_all [] zero e = refl
            take_all [] (suc m) e = refl
            take_all (y ∷ xs) zero e = absurd (omega arith)
            take_all (y ∷ xs) (suc m) e = ap (λ (r : List _). y ∷ r) (take_all xs m (omega arith))

        pub groups_laid : r.chosen ≡ true
            → GroupsLaying rows ids n queue flags passed₀ sums₀ earliest₀ laid₀ ends₀ passed' (set sums i r.stored) (set earliest w i) laid' (set ends (w + 1) r.end) (w + 1) r.end (k + 1)
        groups_laid c =
            let a = length_members_more l.looked in
            let b = length_members_more l.done in
            let d = l.fewer in
            let z = l.w_is in
            let y = length-append l.done (g ∷ []) in
            record {
              looked = l.looked ++ (g ∷ []);
              done = l.done ++ (g ∷ []);
              before = x.serial ∷ l.before;
              inside = omega arith;
              all = rw (add-one k) all_more;
              fewer = omega arith;
              chosen = λ test fl. looked_more test fl ∙ rw c;
              passed_is = passed_more;
              w_is = omega arith;
              at_is = end_is;
              lumps = lumps_more;
              rows_inside = rw earliest_taken (each_append (λ (j : ℕ). j < n) (take w earliest) (i ∷ []) l.rows_inside (m.inside, tt));
              rows_before = rw earliest_taken (each_append (λ (j : ℕ). seen same_key (element_in_row rows ids j).serial (x.serial ∷ l.before) ≡ true) (take w earliest) (i ∷ []) before_more (own_before, tt));
              apart = rw earliest_taken (pairs_append (λ (j j' : ℕ). j ≡ j' → ⊥) (take w earliest) (i ∷ []) l.apart (tt, tt) (each_so (λ (j : ℕ). j ≡ i → ⊥) (λ (j : ℕ). Each (λ (j' : ℕ). j ≡ j' → ⊥) (i ∷ [])) (take w earliest) (λ j a. (a, tt)) row_apart));
              are = m.are ∙ rw (l.are, group_is) (sym (members_more l.done));
              within = m.within l.within;
              ends_are = ends_more;
              passed_long = m.passed_long ∙ l.passed_long;
              sums_long = length-set sums i r.stored ∙ l.sums_long;
              earliest_long = length-set earliest w i ∙ l.earliest_long;
              laid_long = m.long ∙ l.laid_long;
              ends_long = length-set ends (w + 1) r.end ∙ l.ends_long;
            }

  -- ---- all of them

  pub groups_end : {passed sums earliest laid ends : List ℕ} {w at k : ℕ}
      → GroupsLaying rows ids n queue flags passed₀ sums₀ earliest₀ laid₀ ends₀ passed sums earliest laid ends w at k → n ≤ k → (test : Element → Bool) → FlagsAre test rows ids n flags
      → GroupsLaid rows ids n sums earliest laid ends (chosen_groups test (queued_from rows ids n queue 0)) w
  unfolding groups_behind
  groups_end {passed} {sums} {earliest} {laid} {ends} {w} {at} {k} l h test f =
      let every : l.looked ≡ groups (queued_from rows ids n queue 0) =
      sym (append-nil l.looked) ∙ ap (λ (r : List Element). l.looked ++ groups_behind l.before r) (sym (from_end rows ids n queue long_queue k h)) ∙ l.all in
      let done-is : l.done ≡ chosen_groups test (queued_from rows ids n queue 0) = sym (l.chosen test f) ∙ ap (keep (chosen_by test)) every in
      subst (λ (gs : List Group). GroupsLaid rows ids n sums earliest laid ends gs w) done-is
      (let a = l.at_is in
      let b = l.fewer in
      let c = ap (λ (gs : List Group). length (members_of gs)) every in
      let d = length_all in
      let e = length_least l.done in
      let z = l.w_is in
      let room = t.room in
      let most : n ≤ most_elements = t.queued.few in
      let long = l.laid_long in
      let earliest_room = t.earliest_room in
      let earliest_long = l.earliest_long in
      record {
        counted = l.w_is;
        long = omega arith;
        inside = l.rows_inside;
        apart = l.apart;
        lumps = l.lumps;
        few = omega arith;
        queued = record { long = omega arith; within = rw a at l.within };
        are = rw a at l.are;
        ends_are = l.ends_are;
      })
