-- The members of one group laid one after the other, link by link: what was laid, with what is still to come, is the group.
-- Assumes nothing.
use mathlib.Core.Path.{◌≡◌, refl, sym, ap, ◌∙◌}
use mathlib.Core.Bool.{Bool, true, false, not, ◌||◌}
use mathlib.Core.List.{List, [], ◌∷◌, ◌++◌, append_assoc, append-nil}
use Prim.Native.Nat.{ℕ, zero, suc, ◌+◌, ◌-◌, ◌*◌, ◌^◌, ◌≤◌, ◌<◌, min}
use Rattle.std.proofs.Math.Nat.{min-eq_left, min-eq_right}
use native.Mathlib.Omega.{arith}
use native.Mathlib.Numerals.{add-one}
use lib.ListN.{length, take, get_or, set, length-set, length-append}
use lib.Seq.{take-set-le, take-suc-set, get_or-set_same, get_or-set_other}
use lib.Dec.{ltb, eqb}
use borrow.Author.Tests.{lt-ltb, le-ltb}
use Rattle.laws.specs.Pick.{pick}
use Rattle.laws.proofs.Cases.{by_bool, by_eq, by_lt}
use Rattle.talk.specs.Each.{Each}
use Rattle.talk.specs.Wanted.{keep}
use Rattle.store.specs.Tables.{RowsStand, element_in_row}
use Rattle.store.specs.declared.element.Element.{Element}
use Rattle.store.proofs.Rows.{same_itself}
use Rattle.order.specs.Groups.{sharing, some_of, stored_length}
use Rattle.order.specs.Queue.{elements_at, queued_in}
use Rattle.order.specs.Links.{queued_at, queued_from, first_sharing, group_from, FlagsAre, ToLay, MembersLaid}
use Rattle.order.proofs.Rearranged.{each_append}
use Rattle.order.proofs.Queueing.{at_append}
use Rattle.order.proofs.Linking.{row_inside, row_stands, sharing_same, from_turn, from_end, NoneShares, FirstAt, first_of, keep_skips}

-- ---- one more

pub stored_more : (xs ys : List Element) → stored_length (xs ++ ys) ≡ stored_length xs + stored_length ys
unfolding stored_length
stored_more [] ys = omega arith
stored_more (x ∷ xs) ys = omega (arith, stored_more xs ys)

some_more : (test : Element → Bool) (xs : List Element) (y : Element) → some_of test (xs ++ (y ∷ [])) ≡ some_of test xs || not (eqb (pick (test y) 1 0) 0)
unfolding some_of
some_more test [] y = by_bool (test y) (λ e. rw e) (λ e. rw e)
some_more test (x ∷ xs) y =
    by_bool (test x)
    (λ e. rw e)
    (λ e. rw e (some_more test xs y))

keep_most : {E : Type 0} (test : E → Bool) (xs : List E) → length (keep test xs) ≤ length xs
unfolding keep
keep_most test [] = omega arith
keep_most test (x ∷ xs) = let h = keep_most test xs in by_bool (test x) (λ e. rw e (omega arith)) (λ e. rw e (omega arith))

pub length_from : (rows ids : List ℕ) (n : ℕ) (queue : List ℕ) → n ≤ length queue → (d k : ℕ) → k + d ≡ n → length (queued_from rows ids n queue k) ≡ d
length_from rows ids n queue long zero k e = rw (from_end rows ids n queue long k (omega arith))
length_from rows ids n queue long (suc d) k e = rw (from_turn rows ids n queue long k (omega arith)) (ap suc (length_from rows ids n queue long d (suc k) (omega arith)))

-- ---- the turns

pub record Laying (rows ids : List ℕ) (n : ℕ) (queue flags : List ℕ) (k : ℕ) (passed passed' : List ℕ) (at : ℕ) (laid laid' : List ℕ) (end stored : ℕ) (chosen : Bool) (earliest p : ℕ) : Type 0 where
  pub done : List Element
  pub from : k ≤ p
  pub inside : p ≤ n
  pub end_is : end ≡ at + length done
  pub rest : done ++ keep (sharing (queued_at rows ids queue k)) (queued_from rows ids n queue p) ≡ group_from rows ids n queue k
  pub shares : p < n → sharing (queued_at rows ids queue k) (queued_at rows ids queue p) ≡ true
  pub stored_is : stored ≡ stored_length done
  pub small : stored ≤ 2 ^ 24 * length done
  pub chosen_is : (test : Element → Bool) → FlagsAre test rows ids n flags → chosen ≡ some_of test done
  pub early : earliest < n
  pub early_shares : sharing (queued_at rows ids queue k) (element_in_row rows ids earliest) ≡ true
  pub are : queued_in rows ids end laid' ≡ queued_in rows ids at laid ++ done
  pub kept : take at laid' ≡ take at laid
  pub within : Each (λ (i : ℕ). RowsStand rows ids (i + 1)) (take at laid) → Each (λ (i : ℕ). RowsStand rows ids (i + 1)) (take end laid')
  pub long : length laid' ≡ length laid
  pub marked : (j : ℕ) → k ≤ j → j < n
      → get_or passed' j 0 ≡ pick (ltb j p) (pick (sharing (queued_at rows ids queue k) (queued_at rows ids queue j)) 1 (get_or passed j 0)) (get_or passed j 0)
  pub passed_long : length passed' ≡ length passed

module _ (rows ids : List ℕ) (n : ℕ) (queue links flags : List ℕ) (k : ℕ) (passed : List ℕ) (at : ℕ) (laid : List ℕ) (t : ToLay rows ids n queue links flags k passed at laid) where
  abbrev x : Element
  x = queued_at rows ids queue k

  abbrev long_queue : n ≤ length queue
  long_queue = t.queued.long

  pub group_few : length (group_from rows ids n queue k) ≤ n
  group_few =
      let a = keep_most (sharing x) (queued_from rows ids n queue k) in
      let i = t.inside in
      let b = length_from rows ids n queue long_queue (n - k) k (omega arith) in
      omega arith

  pub laying_start : Laying rows ids n queue flags k passed passed at laid laid at 0 false (get_or queue k 0) k
  unfolding stored_length some_of
  laying_start =
      let i = t.inside in
      record {
        done = [];
        from = omega arith;
        inside = omega arith;
        end_is = omega arith;
        rest = refl;
        shares = λ l. same_itself x.serial;
        stored_is = refl;
        small = omega arith;
        chosen_is = λ test f. refl;
        early = row_inside t.queued k i;
        early_shares = same_itself x.serial;
        are = sym (append-nil (queued_in rows ids at laid));
        kept = refl;
        within = λ w. w;
        long = refl;
        marked = λ j l m. rw (le-ltb j k l);
        passed_long = refl;
      }

  module _ {passed' laid' : List ℕ} {end stored : ℕ} {chosen : Bool} {earliest p : ℕ} (l : Laying rows ids n queue flags k passed passed' at laid laid' end stored chosen earliest p) (h : p < n) where
    abbrev y : Element
    y = queued_at rows ids queue p

    shares_now : sharing x y ≡ true
    shares_now = l.shares h

    pub rest_now : keep (sharing x) (queued_from rows ids n queue p) ≡ y ∷ keep (sharing x) (queued_from rows ids n queue (suc p))
    unfolding keep
    rest_now = rw (from_turn rows ids n queue long_queue p h, shares_now)

    pub count_now : end + 1 ≤ at + length (group_from rows ids n queue k)
    count_now =
        let a = l.end_is in
        let b = ap length l.rest in
        let c = length-append l.done (keep (sharing x) (queued_from rows ids n queue p)) in
        let d : length (keep (sharing x) (queued_from rows ids n queue p)) ≡ suc (length (keep (sharing x) (queued_from rows ids n queue (suc p)))) = ap length rest_now in
        omega arith

    pub done_few : length l.done < n
    done_few = let a = count_now in let b = group_few in let c = l.end_is in omega arith

    -- the link leads to the next of the group
    pub next : ℕ
    next = first_sharing y (suc p) (queued_from rows ids n queue (suc p))

    found : FirstAt rows ids n queue long_queue y (suc p) next
    unfolding next
    found = first_of rows ids n queue long_queue y (suc p) (omega arith)

    pub link_is : get_or links p 0 ≡ next
    unfolding next
    link_is = t.linked p (omega arith) h

    pub next_from : p < next
    next_from = let a = found.from in omega arith

    none_between : NoneShares rows ids queue x (suc p) next
    none_between i a b = sym (sharing_same x y shares_now (queued_at rows ids queue i)) ∙ found.none i a b

    rest_next : keep (sharing x) (queued_from rows ids n queue p) ≡ y ∷ keep (sharing x) (queued_from rows ids n queue next)
    rest_next =
        let a = found.from in
        rest_now ∙ ap (λ (r : List Element). y ∷ r) (keep_skips rows ids n queue long_queue (next - suc p) x (suc p) next (omega arith) found.within none_between)

    marked_more : (j : ℕ) → k ≤ j → j < n
        → get_or (set passed' p 1) j 0 ≡ pick (ltb j next) (pick (sharing x (queued_at rows ids queue j)) 1 (get_or passed j 0)) (get_or passed j 0)
    marked_more j a b =
        let m = l.marked j a b in
        let g = next_from in
        by_eq j p
        (λ e.
        let s : sharing x (queued_at rows ids queue j) ≡ true = ap (λ (i : ℕ). sharing x (queued_at rows ids queue i)) e ∙ shares_now in
        let r : p < length passed' = let c = l.passed_long in let d = t.passed_long in omega arith in
        ap (λ (i : ℕ). get_or (set passed' p 1) i 0) e ∙ get_or-set_same passed' p 1 0 r ∙ sym (rw (lt-ltb j next (omega arith), s)))
        (λ e.
        get_or-set_other passed' p j 1 0 e ∙ m
        ∙ by_lt j p
        (λ c. rw (lt-ltb j p c, lt-ltb j next (omega arith)))
        (λ c.
        by_lt j next
        (λ d. rw (le-ltb j p c, lt-ltb j next d, none_between j (omega arith) d))
        (λ d. rw (le-ltb j p c, le-ltb j next d))))

    -- what holds of the row so far and of this one holds of the earlier of the two
    earlier : (P : ℕ → Type 0) → P (get_or queue p 0) → P earliest → P (min earliest (get_or queue p 0))
    earlier P a b = by_lt (get_or queue p 0) earliest (λ e. rw (min-eq_right {n = get_or queue p 0} {m = earliest} (omega arith)) a) (λ e. rw (min-eq_left e) b)

    pub laying_more : (y-short : y.length ≤ 2 ^ 24)
        → Laying rows ids n queue flags k passed (set passed' p 1) at laid (set laid' end (get_or queue p 0)) (end + 1) (stored + y.length)
        (chosen || not (eqb (get_or flags (get_or queue p 0) 0) 0)) (min earliest (get_or queue p 0)) next
    unfolding stored_length
    laying_more short =
        let i = get_or queue p 0 in
        let room : end < length laid' = let a = count_now in let b = t.room in let d = l.long in omega arith in
        let taken : take (end + 1) (set laid' end i) ≡ take end laid' ++ (i ∷ []) = rw (add-one end) (take-suc-set laid' end i room) in
        let a = l.from in
        let b = l.end_is in
        let d = length-append l.done (y ∷ []) in
        let e = l.small in
        let g = next_from in
        record {
          done = l.done ++ (y ∷ []);
          from = omega arith;
          inside = found.within;
          end_is = omega arith;
          rest = append_assoc l.done (y ∷ []) _ ∙ ap (λ (r : List Element). l.done ++ r) (sym rest_next) ∙ l.rest;
          shares = λ m. sym (sharing_same x y shares_now (queued_at rows ids queue next)) ∙ found.shares m;
          stored_is = let s = l.stored_is in rw (stored_more l.done (y ∷ [])) (omega arith);
          small = omega arith;
          chosen_is =
              λ test f.
              rw (l.chosen_is test f, f i (row_inside t.queued p h)) (sym (some_more test l.done y));
          early = earlier (λ (j : ℕ). j < n) (row_inside t.queued p h) l.early;
          early_shares = earlier (λ (j : ℕ). sharing x (element_in_row rows ids j) ≡ true) shares_now l.early_shares;
          are = ap (elements_at rows ids) taken ∙ at_append rows ids (take end laid') (i ∷ []) ∙ ap (λ (r : List Element). r ++ (y ∷ [])) l.are ∙ append_assoc (queued_in rows ids at laid) l.done (y ∷ []);
          kept = take-set-le at laid' end i (omega arith) ∙ l.kept;
          within =
              λ w.
              rw taken (each_append (λ (j : ℕ). RowsStand rows ids (j + 1)) (take end laid') (i ∷ []) (l.within w) (row_stands t.queued p h, tt));
          long = length-set laid' end i ∙ l.long;
          marked = marked_more;
          passed_long = length-set passed' p 1 ∙ l.passed_long;
        }

  pub laying_end : {passed' laid' : List ℕ} {end stored : ℕ} {chosen : Bool} {earliest p : ℕ} → Laying rows ids n queue flags k passed passed' at laid laid' end stored chosen earliest p → n ≤ p
      → MembersLaid rows ids n queue flags k passed passed' at laid laid' (record { end = end; stored = stored; chosen = chosen; earliest = earliest })
  unfolding keep
  laying_end {passed'} {laid'} {end} {stored} {chosen} {earliest} {p} l h =
      let all : l.done ≡ group_from rows ids n queue k =
      sym (append-nil l.done) ∙ ap (λ (r : List Element). l.done ++ keep (sharing x) r) (sym (from_end rows ids n queue long_queue p h)) ∙ l.rest in
      record {
        end = l.end_is ∙ ap (λ (g : List Element). at + length g) all;
        few = group_few;
        stored = l.stored_is ∙ ap stored_length all;
        chosen = λ test f. l.chosen_is test f ∙ ap (some_of test) all;
        inside = l.early;
        shares = l.early_shares;
        are = l.are ∙ ap (λ (g : List Element). queued_in rows ids at laid ++ g) all;
        kept = l.kept;
        within = l.within;
        long = l.long;
        marked = λ j a b. l.marked j a b ∙ rw (lt-ltb j p (omega arith));
        passed_long = l.passed_long;
      }
