-- A knowledge that is ahead of its book loses records: what stands in the book under the id of an element whose serial number is known is
-- touched by no talk (`known_untouched`), so that such an element that is missing, or has other bytes, stays so, whatever talk follows
-- (`lost`); though an answer to each ask may come, unmarked and with nothing in it (`nothing_comes`). So the book is to be saved first. A
-- reader needs these statements only.
-- Assumes nothing.
use mathlib.Core.Path.{◌≡◌, refl, sym, ap, subst, ◌∙◌}
use mathlib.Core.Bool.{Bool, true}
use mathlib.Core.List.{List, [], ◌∷◌, ◌++◌, Memᴰ as In}
use mathlib.Core.Logic.{◌↔◌}
use Prim.Native.Nat.{ℕ}
use Rattle.laws.specs.Bytes.{AllBytes}
use Rattle.laws.proofs.Cases.{impossible}
use Rattle.talk.specs.Series.{is_some, over, idle, then, joined_pages}
use Rattle.store.specs.Held.{stored_bytes}
use Rattle.store.specs.declared.element.Element.{Element}
use Rattle.store.specs.declared.element.Key.{Key}
use Rattle.order.specs.Groups.{Group, members, members_of, group_serial}
use Rattle.request.specs.Meaning.{Filter}
use Rattle.client.specs.Back.{set_down}
use Rattle.client.specs.Read.{package_in}
use Rattle.evidence.specs.Book.{Holds, LetIn, Standing, KeptAsk, KeptTalk, knowledge_ahead, Unmarked}
use Rattle.evidence.specs.Talk.{elements_of, wanted_of, AnsweredAsk}
use Rattle.evidence.proofs.Holding.{one_element, of_store, shares, let_in_stored}
use Rattle.evidence.proofs.InStep.{ask_takes, ask_page, knows_still, talk_of}
use Rattle.evidence.proofs.Keeping.{two, kept_page}
use Rattle.evidence.proofs.PowerCut.{asked_once_more, brought}
use Rattle.evidence.proofs.Steps as steps

-- ---- one ask

-- no member of a group that comes has the id of an element whose serial number is known
not_named : (s : List ℕ) (b : AllBytes s) (fs : List Filter) (z z' : Standing) (w : List ℕ) (r : KeptAsk s fs z w z') (x : Element) → In x (elements_of s)
    → z.know x.serial ≡ true → (g : Group) → In g (two s b fs z z' w r).page → (y : Element) → In y (members g) → y.id ≡ x.id → ⊥
not_named s b fs z z' w r x m k g i y j e =
    let (n, lacked) = ask_page s b fs z.know z'.know w r.0 g i in
    let same : y ≡ x = one_element s (two s b fs z z' w r).store_reads y x (of_store s n j) m e in
    let serial : x.serial ≡ group_serial g = ap (λ (v : Element). v.serial) (sym same) ∙ shares s g y n j in
    let c = ap z.know serial in
    impossible (cc)

-- ---- a talk

-- under the id of an element whose serial number is known the book holds behind a talk what it held before it
pub known_untouched : (s : List ℕ) → AllBytes s → (fs : List Filter) {z z' : Standing} {ws : List (List ℕ)} → KeptTalk s fs z ws z' → (x : Element)
    → In x (elements_of s)
    → z.know x.serial ≡ true → (bytes : List ℕ) → Holds z.book x.id bytes ↔ Holds z'.book x.id bytes
known_untouched s b fs over x m k v = (λ h. h, λ h. h)
known_untouched s b fs (idle u t) x m k v =
    let r = known_untouched s b fs t x m (sym (ap (λ (f : Key → Bool). f x.serial) u.0) ∙ k) v in (
      λ h. r.0 (subst (λ (c : List ℕ). Holds c x.id v) u.1 h),
      λ h. subst (λ (c : List ℕ). Holds c x.id v) (sym u.1) (r.1 h),
    )
known_untouched s b fs (then {k = z} {m = n} {a = w} r t) x m k v =
    let still : n.know x.serial ≡ true = knows_still s b fs (then r.0 over) x m k in
    let rest = known_untouched s b fs t x m still v in
    let here = (kept_page s b fs z n w r).others_stay x.id (not_named s b fs z n w r x m k) v in
    (λ h. rest.0 (here.0 h), λ h. here.1 (rest.1 h))

-- an element that the filters let in, whose serial number is known, and that does not stand in the book with the store's bytes: it is lost,
-- whatever talk follows
pub lost : (s : List ℕ) → AllBytes s → (fs : List Filter) {z z' : Standing} {ws : List (List ℕ)} → KeptTalk s fs z ws z' → (x : Element) → LetIn s fs x
    → z.know x.serial ≡ true → (Holds z.book x.id (stored_bytes s x) → ⊥) → Holds z'.book x.id (stored_bytes s x) → ⊥
lost s b fs t x l k none h = none ((known_untouched s b fs t x (let_in_stored l) k (stored_bytes s x)).1 h)

-- the one order of saving that loses records: the bench was stopped with the knowledge of a later moment and the book of an earlier one. Each
-- member of a group that the answers between brought, and that the saved book does not hold with the store's bytes, is lost
pub knowledge_ahead_loses : (s : List ℕ) (b : AllBytes s) (fs : List Filter) {saved later end : Standing} {more ws : List (List ℕ)} (t : KeptTalk s fs saved more later) (g : Group)
    → In g (joined_pages (asked_once_more s b fs t).0) → (x : Element) → In x (members g) → (Holds saved.book x.id (stored_bytes s x) → ⊥)
    → KeptTalk s fs (knowledge_ahead saved later) ws end → Holds end.book x.id (stored_bytes s x) → ⊥
unfolding asked_once_more
knowledge_ahead_loses s b fs {later = later} t g m x i none u h =
    let (there, lets, known) = brought s b fs (talk_of s fs t) g m in
    lost s b fs u x (record { group = g; among = there; member = i; lets = lets }) (ap later.know (shares s g x there i) ∙ known) none h

-- ---- and nothing tells of it

-- where nothing is wanted every answer is unmarked, and has no element
pub nothing_comes : (s : List ℕ) → AllBytes s → (fs : List Filter) (know know' : Key → Bool) (w : List ℕ) → AnsweredAsk s fs know w know'
    → wanted_of s fs know ≡ []
    → Unmarked w × ((package_in w).elements ≡ [])
unfolding members_of set_down
nothing_comes s b fs know know' w r none =
    let h = steps.held s b fs know know' w r in
    let takes = ask_takes s b fs know know' w r in
    let (page, rest) = neither_some h.page (wanted_of s fs know') (takes.run ∙ none) in
    ((_, h.read.read, takes.mark ∙ ap is_some rest), h.read.elements_are ∙ ap (λ (gs : List Group). set_down 20 (members_of gs)) page)
  where
    neither_some : {E : Type 0} (l m : List E) → l ++ m ≡ [] → (l ≡ []) × (m ≡ [])
    neither_some [] m e = (refl, e)
    neither_some (x ∷ l) m e = (impossible (cc), impossible (cc))
