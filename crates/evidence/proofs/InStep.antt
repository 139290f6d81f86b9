-- The book is in step with the store at every moment of a talk in which each answer is kept before its knowledge is gone on with
-- (`in_step_kept`, `at_every_moment`), and when an answer that is not marked has come, it holds all that the filters let in (`all_in_book`).
-- A bench may begin with no knowledge and whatever book it has (`begins_anew`). A reader needs these statements, and that of `unmarked_read`,
-- which says the same of the answers as demand 3 reads them.
-- Assumes nothing.
use mathlib.Core.Path.{◌≡◌, refl, sym, ap, subst, ◌∙◌}
use mathlib.Core.Bool.{Bool, true, false, not}
use mathlib.Core.List.Memᴰ.{append_right as in_rest}
use mathlib.Core.List.Memᴰ.{cases_cons as first-or-later}
use mathlib.Core.List.Memᴰ.{head as here}
use mathlib.Core.List.Memᴰ.{not-nil as none_in}
use mathlib.Core.List.Memᴰ.{tail as later}
use mathlib.Core.List.{List, [], ◌∷◌, ◌++◌, map, Memᴰ as In}
use mathlib.Core.Logic.{⊎_elim}
use Prim.Native.Nat.{ℕ}
use Rattle.laws.specs.Bytes.{AllBytes}
use Rattle.laws.specs.Once.{seen}
use Rattle.laws.specs.Pick.{pick}
use Rattle.laws.proofs.Cases.{by_bool, impossible}
use Rattle.talk.specs.Series.{Answer, Takes, with_keys, over, idle, then}
use Rattle.talk.specs.Wanted.{is_wanted, wanted}
use Rattle.talk.proofs.Delivery.{judged_takes}
use Rattle.talk.proofs.Series.{none_some}
use Rattle.store.specs.Element.{same_key}
use Rattle.store.specs.declared.element.Element.{Element}
use Rattle.store.specs.declared.element.Key.{Key}
use Rattle.store.proofs.Chains.{same_turn}
use Rattle.store.proofs.Rows.{same_itself}
use Rattle.order.specs.Groups.{Group, members, group_serial}
use Rattle.request.specs.Meaning.{Filter}
use Rattle.enter.proofs.Keys.{member_seen}
use Rattle.client.specs.Read.{answer_in}
use Rattle.client.specs.declared.answer.Received.{Received}
use Rattle.client.specs.Results.ReadAnswer as answer
use Rattle.evidence.specs.Book.{LetIn, InStep, HoldsAll, Standing, KeptAsk, KeptTalk, Throughout, Unmarked}
use Rattle.evidence.specs.Talk.{KeyFits, elements_of, groups_of, leaves_in, wanted_of, AnsweredAsk, Talk, AllReadAs}
use Rattle.evidence.proofs.Holding.{shares, one_group, stored_fits, let_in_stored, nothing_known_lem}
use Rattle.evidence.proofs.Keeping.{two, kept_page, page_wanted, stays_right}
use Rattle.evidence.proofs.Kept.{was_kept}
use Rattle.evidence.proofs.Sending.{serials_fit, serials_differ}
use Rattle.evidence.proofs.Steps as steps

-- ---- one ask

same_mark : (x y : Received) → answer.Is x ≡ answer.Is y → x.partial ≡ y.partial
same_mark x y h = let e : x ≡ y = cc in ap (λ (v : Received). v.partial) e

module _ (s : List ℕ) (b : AllBytes s) (fs : List Filter) (know know' : Key → Bool) (w : List ℕ) (r : AnsweredAsk s fs know w know') where
  abbrev answer_is : Answer Group
  answer_is = steps.answer s b fs know know' w r

  -- it takes from what is wanted, and leaves what is wanted then
  pub ask_takes : Takes (wanted_of s fs know) answer_is (wanted_of s fs know')
  ask_takes =
      judged_takes same_key same_itself same_turn group_serial KeyFits (groups_of s) (leaves_in s fs)
      (serials_fit s b (steps.held s b fs know know' w r).store_reads) (serials_differ s) know know' answer_is (steps.answered_judged s b fs know know' w r)

  -- the groups that it brings are the store's, and were not known
  pub ask_page : (g : Group) → In g answer_is.page → In g (groups_of s) × (know (group_serial g) ≡ false)
  ask_page g m = page_wanted s fs know answer_is.page (wanted_of s fs know') ask_takes.run g m

  -- of the store's serial numbers what is known then was known, or came
  pub ask_knows : (x : Element) → In x (elements_of s) → know' x.serial ≡ with_keys same_key know (map group_serial answer_is.page) x.serial
  ask_knows x m = (steps.answered_judged s b fs know know' w r).adds x.serial (stored_fits s b (steps.held s b fs know know' w r).store_reads x m)

  -- the mark that a bench reads is that something is still wanted
  pub ask_marks : (x : Received) → answer_in w ≡ answer.Is x → x.partial ≡ answer_is.marked
  ask_marks x e = same_mark x _ (sym e ∙ (steps.held s b fs know know' w r).read.read)

-- ---- in step, ask by ask

ask_in_step : (s : List ℕ) → AllBytes s → (fs : List Filter) (z z' : Standing) (w : List ℕ) → KeptAsk s fs z w z' → InStep s fs z.know z.book
    → InStep s fs z'.know z'.book
ask_in_step s b fs z z' w r h x l k =
    let m : In x (elements_of s) = let_in_stored l in
    let page : List Group = (two s b fs z z' w r).page in
    by_bool (z.know x.serial)
    (λ t. stays_right s b fs z z' w r x m (h x l t))
    (λ t.
    let came : seen same_key x.serial (map group_serial page) ≡ true =
    sym (ap (λ (c : Bool). pick c true (seen same_key x.serial (map group_serial page))) t) ∙ sym (ask_knows s b fs z.know z'.know w r.0 x m) ∙ k in
    let (g, i, e) = member_seen group_serial x.serial page came in
    let same : l.group ≡ g =
    one_group s l.group g l.among (ask_page s b fs z.know z'.know w r.0 g i).0 (sym (shares s l.group x l.among l.member) ∙ sym e) in
    (kept_page s b fs z z' w r).enter_together g i x (subst (λ (y : Group). In x (members y)) same l.member))

unchanged_in_step : (s : List ℕ) (fs : List Filter) {know know' : Key → Bool} {book book' : List ℕ} → know ≡ know' → book ≡ book' → InStep s fs know book
    → InStep s fs know' book'
unchanged_in_step s fs {know' = know'} {book = book} p q h =
    subst (λ (c : List ℕ). InStep s fs know' c) q (subst (λ (k : Key → Bool). InStep s fs k book) p h)

-- a talk keeps the book in step
pub in_step_kept : (s : List ℕ) → AllBytes s → (fs : List Filter) {z z' : Standing} {ws : List (List ℕ)} → KeptTalk s fs z ws z'
    → InStep s fs z.know z.book
    → InStep s fs z'.know z'.book
in_step_kept s b fs over h = h
in_step_kept s b fs (idle u t) h = in_step_kept s b fs t (unchanged_in_step s fs u.0 u.1 h)
in_step_kept s b fs (then {k = z} {m = m} {a = w} r t) h = in_step_kept s b fs t (ask_in_step s b fs z m w r h)

-- at every moment
pub at_every_moment : (s : List ℕ) → AllBytes s → (fs : List Filter) {z z' : Standing} {ws : List (List ℕ)} (t : KeptTalk s fs z ws z')
    → InStep s fs z.know z.book
    → Throughout (λ (m : Standing). InStep s fs m.know m.book) t
at_every_moment s b fs over h = h
at_every_moment s b fs (idle u t) h = (h, at_every_moment s b fs t (unchanged_in_step s fs u.0 u.1 h))
at_every_moment s b fs (then {k = z} {m = m} {a = w} r t) h = (h, at_every_moment s b fs t (ask_in_step s b fs z m w r h))

-- a talk of some answers and then of others is one of the first and one of the others, and between them the book is in step
split_at : (s : List ℕ) (fs : List Filter) {z z' : Standing} {ws : List (List ℕ)} → KeptTalk s fs z ws z' → (front back : List (List ℕ)) → ws ≡ front ++ back
    → (m : Standing) × KeptTalk s fs z front m × KeptTalk s fs m back z'
split_at s fs {z} {z'} over [] back e = (z, over, subst (λ (l : List (List ℕ)). KeptTalk s fs z l z') e over)
split_at s fs over (v ∷ front) back e = impossible (cc)
split_at s fs (idle u t) front back e = let (m, x, y) = split_at s fs t front back e in (m, idle u x, y)
split_at s fs {z} {z'} (then r t) [] back e = (z, over, subst (λ (l : List (List ℕ)). KeptTalk s fs z l z') e (then r t))
split_at s fs {z} (then {m = n} {a = w} {given = ws} r t) (v ∷ front) back e =
    let first : w ≡ v = cc in
    let rest : ws ≡ front ++ back = cc in
    let (m, x, y) = split_at s fs t front back rest in
    (m, then (subst (λ (l : List ℕ). KeptAsk s fs z l n) first r) x, y)

pub kept_split : (s : List ℕ) (fs : List Filter) (front back : List (List ℕ)) {z z' : Standing} → KeptTalk s fs z (front ++ back) z'
    → (m : Standing) × KeptTalk s fs z front m × KeptTalk s fs m back z'
kept_split s fs front back t = split_at s fs t front back refl

pub between : (s : List ℕ) → AllBytes s → (fs : List Filter) (front back : List (List ℕ)) {z z' : Standing} → KeptTalk s fs z (front ++ back) z'
    → InStep s fs z.know z.book
    → (m : Standing) × KeptTalk s fs z front m × KeptTalk s fs m back z' × InStep s fs m.know m.book
between s b fs front back t h = let (m, x, y) = kept_split s fs front back t in (m, x, y, in_step_kept s b fs x h)

-- ---- it is a talk: what demand 3 says of its answers holds of them

pub talk_of : (s : List ℕ) (fs : List Filter) {z z' : Standing} {ws : List (List ℕ)} → KeptTalk s fs z ws z' → Talk s fs z.know ws z'.know
talk_of s fs over = over
talk_of s fs {z' = z'} {ws = ws} (idle u t) = subst (λ (k : Key → Bool). Talk s fs k ws z'.know) (sym u.0) (talk_of s fs t)
talk_of s fs (then r t) = then r.0 (talk_of s fs t)

-- ---- what a talk leaves to be wanted

-- what was known of the store stays known
pub knows_still : (s : List ℕ) → AllBytes s → (fs : List Filter) {know know' : Key → Bool} {ws : List (List ℕ)} → Talk s fs know ws know' → (x : Element)
    → In x (elements_of s)
    → know x.serial ≡ true → know' x.serial ≡ true
knows_still s b fs over x m h = h
knows_still s b fs (idle q t) x m h = knows_still s b fs t x m (sym (ap (λ (k : Key → Bool). k x.serial) q.same) ∙ h)
knows_still s b fs (then {k = k} {m = n} {a = w} r t) x m h =
    knows_still s b fs t x m
    (ask_knows s b fs k n w r x m ∙ ap (λ (c : Bool). pick c true (seen same_key x.serial (map group_serial (answer_is s b fs k n w r).page))) h)

-- where nothing is wanted of what the filters let in, all of it is known
pub all_known : (s : List ℕ) (fs : List Filter) (know : Key → Bool) → wanted_of s fs know ≡ [] → (x : Element) → LetIn s fs x → know x.serial ≡ true
unfolding wanted is_wanted
all_known s fs know none x l =
    by_bool (know x.serial) (λ t. t)
    (λ t.
    let lacked : know (group_serial l.group) ≡ false = ap know (sym (shares s l.group x l.among l.member)) ∙ t in
    absurd
    (none_in
    (subst (In l.group) none
    (was_kept (is_wanted group_serial (leaves_in s fs) know) (groups_of s) l.group l.among
    (wants (leaves_in s fs l.group) (know (group_serial l.group)) l.lets lacked)))))
  where
    wants : (a c : Bool) → a ≡ true → c ≡ false → pick a (not c) false ≡ true
    wants a c p q = rw (p, q)

-- nothing comes to be wanted
none_more : (s : List ℕ) → AllBytes s → (fs : List Filter) {know know' : Key → Bool} {ws : List (List ℕ)} → Talk s fs know ws know' → wanted_of s fs know ≡ []
    → wanted_of s fs know' ≡ []
none_more s b fs over e = e
none_more s b fs (idle q t) e = none_more s b fs t (sym (ap (λ (k : Key → Bool). wanted_of s fs k) q.same) ∙ e)
none_more s b fs (then {k = k} {m = n} {a = w} r t) e =
    none_more s b fs t (behind (answer_is s b fs k n w r).page (wanted_of s fs n) ((ask_takes s b fs k n w r).run ∙ e))
  where
    behind : {E : Type 0} (page rest : List E) → page ++ rest ≡ [] → rest ≡ []
    behind [] rest h = h
    behind (x ∷ page) rest h = impossible (cc)

-- once an answer that is not marked has come, nothing of what the filters let in is wanted
pub nothing_wanted : (s : List ℕ) → AllBytes s → (fs : List Filter) {know know' : Key → Bool} {ws : List (List ℕ)} → Talk s fs know ws know' → (w : List ℕ)
    → In w ws → Unmarked w
    → wanted_of s fs know' ≡ []
nothing_wanted s b fs over w i u = absurd (none_in i)
nothing_wanted s b fs (idle q t) w i u = nothing_wanted s b fs t w i u
nothing_wanted s b fs (then {k = k} {m = n} {a = v} r t) w i u =
    ⊎_elim
    (λ e.
    let (x, read, unmarked) = u in
    let mark = (ask_takes s b fs k n v r).mark in
    none_more s b fs t
    (none_some (wanted_of s fs n) (sym mark ∙ sym (ask_marks s b fs k n v r x (subst (λ (y : List ℕ). answer_in y ≡ answer.Is x) e read)) ∙ unmarked)))
    (λ j. nothing_wanted s b fs t w j u) (first-or-later i)

-- ---- all is in the book

-- a talk from a book that was in step, with an answer among those kept that is not marked: the book holds all that the filters let in
pub all_in_book : (s : List ℕ) → AllBytes s → (fs : List Filter) {z z' : Standing} {ws : List (List ℕ)} → KeptTalk s fs z ws z'
    → InStep s fs z.know z.book
    → (w : List ℕ) → In w ws → Unmarked w → HoldsAll s fs z'.book
all_in_book s b fs {z' = z'} t h w i u x l =
    in_step_kept s b fs t h x l (all_known s fs z'.know (nothing_wanted s b fs (talk_of s fs t) w i u) x l)

-- where it is the last
pub last_unmarked : (s : List ℕ) → AllBytes s → (fs : List Filter) (before : List (List ℕ)) (w : List ℕ) {z z' : Standing}
    → KeptTalk s fs z (before ++ (w ∷ [])) z'
    → InStep s fs z.know z.book → Unmarked w → HoldsAll s fs z'.book
last_unmarked s b fs before w t h u = all_in_book s b fs t h w (in_rest before (here refl)) u

-- in the words of demand 3: of the answers as they are read, one is not marked
read_unmarked : (s : List ℕ) (ws : List (List ℕ)) (answers before after : List (Answer Group)) (a : Answer Group) → AllReadAs s ws answers
    → answers ≡ before ++ (a ∷ after)
    → a.marked ≡ false → (w : List ℕ) × In w ws × Unmarked w
read_unmarked s [] [] [] after a r e m = impossible (cc)
read_unmarked s [] [] (c ∷ before) after a r e m = impossible (cc)
read_unmarked s [] (d ∷ answers) before after a r e m = absurd r
read_unmarked s (w ∷ ws) [] before after a r e m = absurd r
read_unmarked s (w ∷ ws) (d ∷ answers) [] after a r e m =
    let first : d ≡ a = cc in
    (w, here refl, (_, r.0.2.read, ap (λ (c : Answer Group). c.marked) first ∙ m))
read_unmarked s (w ∷ ws) (d ∷ answers) (c ∷ before) after a r e m =
    let rest : answers ≡ before ++ (a ∷ after) = cc in
    let (v, i, u) = read_unmarked s ws answers before after a r.1 rest m in
    (v, later i, u)

pub unmarked_read : (s : List ℕ) → AllBytes s → (fs : List Filter) {z z' : Standing} {ws : List (List ℕ)} → KeptTalk s fs z ws z'
    → InStep s fs z.know z.book
    → (answers before after : List (Answer Group)) (a : Answer Group) → AllReadAs s ws answers → answers ≡ before ++ (a ∷ after) → a.marked ≡ false
    → HoldsAll s fs z'.book
unmarked_read s b fs {ws = ws} t h answers before after a r e m =
    let (w, i, u) = read_unmarked s ws answers before after a r e m in
    all_in_book s b fs t h w i u

-- from no knowledge, and whatever book
pub begins_anew : (s : List ℕ) → AllBytes s → (fs : List Filter) {z z' : Standing} {ws : List (List ℕ)} → KeptTalk s fs z ws z'
    → ((k : Key) → z.know k ≡ false)
    → (w : List ℕ) → In w ws → Unmarked w → HoldsAll s fs z'.book
begins_anew s b fs {z} t none w i u = all_in_book s b fs t (nothing_known_lem s fs z.know z.book none) w i u
