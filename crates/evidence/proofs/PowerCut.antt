-- A power cut between saving the book and saving the knowledge. Where both were saved together the book is in step (`saved_together`). A book
-- that is ahead of the saved knowledge by answers that were kept is in step with it too (`book_ahead_lem`): the bench goes on from there, asks
-- for exactly what those answers carried once more (`asked_once_more`), and once an unmarked answer comes the book holds all (`ends_whole`).
-- So it is from cut to cut, however many there are (`in_step_resumed`). To forget does no harm (`forgets`). The other way round, a knowledge that is ahead of its book loses records: `Lost`. A reader needs the
-- statements that are pub.
-- Assumes nothing.
use mathlib.Core.Path.{◌≡◌, refl, sym, ap, subst, ◌∙◌}
use mathlib.Core.Bool.{Bool, true, false}
use mathlib.Core.List.Memᴰ.{append_cases as in_either}
use mathlib.Core.List.Memᴰ.{append_left as in_front}
use mathlib.Core.List.Memᴰ.{head as here}
use mathlib.Core.List.Memᴰ.{not-nil as none_in}
use mathlib.Core.List.{List, [], ◌∷◌, ◌++◌, append_assoc, Memᴰ as In}
use mathlib.Core.Logic.{⊎_elim}
use Prim.Native.Nat.{ℕ}
use Rattle.laws.specs.Bytes.{AllBytes}
use Rattle.laws.specs.Pick.{pick}
use Rattle.laws.proofs.Cases.{by_bool, impossible}
use Rattle.talk.specs.Wanted.{is_wanted, wanted}
use Rattle.talk.specs.Series.{Answer, joined_pages, over, idle, then}
use Rattle.store.specs.Store.{store_walk, Stands}
use Rattle.store.specs.declared.element.Element.{Element}
use Rattle.store.specs.declared.element.Key.{Key}
use Rattle.order.specs.Groups.{Group, group_serial}
use Rattle.request.specs.Meaning.{Filter}
use Rattle.evidence.specs.Book.{InStep, HoldsAll, Standing, KeptTalk, book_ahead, Resumed, begun, talked, stopped, Unmarked}
use Rattle.enter.proofs.Keys.{seen_member}
use Rattle.evidence.specs.Talk.{KeyFits, elements_of, groups_of, leaves_in, wanted_of, Talk, AllReadAs}
use Rattle.evidence.proofs.Holding.{stored_fits, let_in_stored, of_store}
use Rattle.evidence.proofs.InStep.{ask_takes, ask_page, ask_knows, in_step_kept, talk_of, knows_still, all_in_book}
use Rattle.evidence.proofs.Kept.{kept_was}
use Rattle.evidence.proofs.Steps as steps

-- ---- to forget does no harm

-- a knowledge that has no serial number of the store's elements besides
pub forgets_stored : (s : List ℕ) (fs : List Filter) (know less : Key → Bool) (book : List ℕ) → InStep s fs know book
    → ((x : Element) → In x (elements_of s) → less x.serial ≡ true → know x.serial ≡ true) → InStep s fs less book
forgets_stored s fs know less book h among x l k = h x l (among x (let_in_stored l) k)

-- every serial number of it is in what was known
pub forgets : (s : List ℕ) (fs : List Filter) (know less : Key → Bool) (book : List ℕ) → InStep s fs know book
    → ((k : Key) → less k ≡ true → know k ≡ true) → InStep s fs less book
forgets s fs know less book h among = forgets_stored s fs know less book h (λ x m k. among x.serial k)

-- of serial numbers whose GUID is sixteen bytes, which is all that a request or an answer can tell, if the store reads
pub forgets_told : (s : List ℕ) → AllBytes s → Stands (store_walk s).last → (fs : List Filter) (know less : Key → Bool) (book : List ℕ) → InStep s fs know book
    → ((k : Key) → KeyFits k → less k ≡ true → know k ≡ true) → InStep s fs less book
forgets_told s b r fs know less book h among = forgets_stored s fs know less book h (λ x m k. among x.serial (stored_fits s b r x m) k)

-- ---- what was saved

-- knowledge and book of one moment
pub saved_together : (s : List ℕ) → AllBytes s → (fs : List Filter) {z saved : Standing} {ws : List (List ℕ)} → KeptTalk s fs z ws saved
    → InStep s fs z.know z.book
    → InStep s fs saved.know saved.book
saved_together s b fs t h = in_step_kept s b fs t h

-- the knowledge of one moment, and the book of a later one
pub book_ahead_lem : (s : List ℕ) → AllBytes s → (fs : List Filter) {z saved later : Standing} {ws more : List (List ℕ)} → KeptTalk s fs z ws saved
    → KeptTalk s fs saved more later → InStep s fs z.know z.book → InStep s fs saved.know later.book
book_ahead_lem s b fs {saved = saved} {later = later} t u h =
    forgets_stored s fs later.know saved.know later.book (in_step_kept s b fs u (in_step_kept s b fs t h))
    (λ x m k. knows_still s b fs (talk_of s fs u) x m k)

-- ---- going on

-- what the answers of a talk carry and what is wanted behind it is what was wanted before it
pub carried_and_left : (s : List ℕ) → AllBytes s → (fs : List Filter) {know know' : Key → Bool} {ws : List (List ℕ)} → Talk s fs know ws know'
    → (answers : List (Answer Group)) × AllReadAs s ws answers × (wanted_of s fs know ≡ joined_pages answers ++ wanted_of s fs know')
carried_and_left s b fs over = ([], tt, refl)
carried_and_left s b fs (idle q t) =
    let (answers, read, e) = carried_and_left s b fs t in
    (answers, read, ap (λ (k : Key → Bool). wanted_of s fs k) q.same ∙ e)
carried_and_left s b fs {know' = know'} (then {k = k} {m = m} {a = w} r t) =
    let (answers, read, e) = carried_and_left s b fs t in
    let a : Answer Group = steps.answer s b fs k m w r in (
      a ∷ answers,
      (steps.read_as s b fs k m w r, read),
      sym (ask_takes s b fs k m w r).run ∙ ap (λ (l : List Group). a.page ++ l) e ∙ sym (append_assoc a.page (joined_pages answers) (wanted_of s fs know')),
    )

-- "it asks for some elements once more, at worst": with the saved knowledge exactly what the answers between carried is wanted once more,
-- besides what is wanted with the later one
unfoldable pub asked_once_more : (s : List ℕ) → AllBytes s → (fs : List Filter) {saved later : Standing} {more : List (List ℕ)} → KeptTalk s fs saved more later
    → (answers : List (Answer Group)) × AllReadAs s more answers × (wanted_of s fs saved.know ≡ joined_pages answers ++ wanted_of s fs later.know)
asked_once_more s b fs t = carried_and_left s b fs (talk_of s fs t)

-- and a talk from there, in which an unmarked answer comes, leaves nothing out
pub ends_whole : (s : List ℕ) → AllBytes s → (fs : List Filter) {z saved later end : Standing} {ws more then-on : List (List ℕ)} → KeptTalk s fs z ws saved
    → KeptTalk s fs saved more later → InStep s fs z.know z.book → KeptTalk s fs (book_ahead saved later) then-on end → (w : List ℕ) → In w then-on
    → Unmarked w
    → HoldsAll s fs end.book
ends_whole s b fs t u h v w i unmarked = all_in_book s b fs v (book_ahead_lem s b fs t u h) w i unmarked

-- ---- and so from cut to cut

pub in_step_resumed : (s : List ℕ) → AllBytes s → (fs : List Filter) {z y : Standing} → Resumed s fs z y → InStep s fs z.know z.book → InStep s fs y.know y.book
in_step_resumed s b fs begun h = h
in_step_resumed s b fs (talked r t) h = in_step_kept s b fs t (in_step_resumed s b fs r h)
in_step_resumed s b fs (stopped r t) h = book_ahead_lem s b fs over t (in_step_resumed s b fs r h)

-- ---- what the answers of a talk brought

-- what is wanted the filters let in
was_let_in : (s : List ℕ) (fs : List Filter) (know : Key → Bool) (g : Group) → In g (wanted_of s fs know) → leaves_in s fs g ≡ true
unfolding wanted is_wanted
was_let_in s fs know g m =
    let (i, e) = kept_was _ (groups_of s) g m in
    by_bool (leaves_in s fs g) (λ t. t) (λ t. impossible (let z : false ≡ true = rw t at e in cc))

-- a group of the store that the filters let in, and it is known behind the talk; for Lost
pub brought : (s : List ℕ) (b : AllBytes s) (fs : List Filter) {know know' : Key → Bool} {ws : List (List ℕ)} (t : Talk s fs know ws know') (g : Group)
    → In g (joined_pages (carried_and_left s b fs t).0) → In g (groups_of s) × (leaves_in s fs g ≡ true) × (know' (group_serial g) ≡ true)
unfolding carried_and_left
brought s b fs over g m = absurd (none_in m)
brought s b fs (idle q t) g m = brought s b fs t g m
brought s b fs (then {k = k} {m = n} {a = w} r t) g m =
    ⊎_elim
    (λ i.
    let page = (steps.answer s b fs k n w r).page in
    let there = (ask_page s b fs k n w r g i).0 in
    let first : In g.first (elements_of s) = of_store s there (here refl) in
    let known : n (group_serial g) ≡ true = ask_knows s b fs k n w r g.first first ∙ with_seen (k (group_serial g)) (seen_member group_serial page i) in
    (there, was_let_in s fs k g (subst (In g) (ask_takes s b fs k n w r).run (in_front (wanted_of s fs n) i)), knows_still s b fs t g.first first known))
    (λ i. brought s b fs t g i)
    (in_either (steps.answer s b fs k n w r).page m)
  where
    with_seen : (c : Bool) {d : Bool} → d ≡ true → pick c true d ≡ true
    with_seen true e = refl
    with_seen false e = e
