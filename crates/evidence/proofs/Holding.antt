-- What a book holds, and what the filters let in: under an id a book that reads holds one thing at most; the filters let in each element that
-- they leave in, and with no filters all; and a store is in step with itself.
-- Assumes nothing.
use mathlib.Core.Path.{◌≡◌, refl, sym, ap, ◌∙◌}
use mathlib.Core.Bool.{Bool, true, false}
use mathlib.Core.List.Memᴰ.{cases_cons as first-or-later}
use mathlib.Core.List.Memᴰ.{head as here}
use mathlib.Core.List.Memᴰ.{not-nil as none_in}
use mathlib.Core.List.Memᴰ.{tail as later}
use mathlib.Core.List.{List, [], ◌∷◌, Memᴰ as In}
use mathlib.Core.Logic.{⊎_elim}
use Prim.Native.Nat.{ℕ}
use Rattle.laws.specs.Bytes.{AllBytes}
use Rattle.laws.proofs.Cases.{by_bool, impossible}
use Rattle.store.specs.Held.{stored_bytes}
use Rattle.store.specs.Store.{store_walk, Stands}
use Rattle.store.specs.declared.element.Element.{Element}
use Rattle.store.specs.declared.element.Key.{Key}
use Rattle.store.proofs.Chains.{store_read, ids_once}
use Rattle.store.proofs.ElementFits.{KeysFit, keys_fit}
use Rattle.order.specs.Groups.{Group, members, group_serial, some_of}
use Rattle.order.proofs.Grouping.{members_share, every_member, every_element, serials_once}
use Rattle.order.proofs.Members.{member_stays, member_was}
use Rattle.order.proofs.Ordering.{rearranged}
use Rattle.request.specs.Meaning.{Filter, left_in}
use Rattle.enter.proofs.Keys.{once_one}
use Rattle.enter.proofs.Members.{of_each}
use Rattle.evidence.specs.Book.{Holds, LetIn, InStep, HoldsAll}
use Rattle.evidence.specs.Talk.{KeyFits, elements_of, in_row_order, groups_of}

abbrev pub id_of : Element → Key
id_of x = x.id

-- ---- a book

-- the elements of a store that reads have each an id of its own
pub one_element : (s : List ℕ) → Stands (store_walk s).last → (x y : Element) → In x (elements_of s) → In y (elements_of s) → x.id ≡ y.id → x ≡ y
one_element s r x y m n e = once_one id_of (elements_of s) (ids_once s (store_read s r)) m n e

-- a book that reads holds one thing under an id
pub one_thing : (b : List ℕ) → Stands (store_walk b).last → (id : Key) (v v' : List ℕ) → Holds b id v → Holds b id v' → v ≡ v'
one_thing b r id v v' h k =
    sym h.bytes_are ∙ ap (stored_bytes b) (one_element b r h.element k.element h.among k.among (h.id_is ∙ sym k.id_is)) ∙ k.bytes_are

-- a store holds its own elements
pub holds_own : (s : List ℕ) (x : Element) → In x (elements_of s) → Holds s x.id (stored_bytes s x)
holds_own s x m = record { element = x; among = m; id_is = refl; bytes_are = refl }

-- ---- groups

-- a test that holds of one member holds of some, and the other way round
pub some_member : (test : Element → Bool) (l : List Element) (x : Element) → In x l → test x ≡ true → some_of test l ≡ true
unfolding some_of
some_member test [] x m h = absurd (none_in m)
some_member test (y ∷ l) x m h =
    ⊎_elim (λ e. let t : test y ≡ true = ap test (sym e) ∙ h in rw t)
    (λ n. by_bool (test y) (λ t. rw t) (λ t. rw t (some_member test l x n h)))
    (first-or-later m)

pub member_some : (test : Element → Bool) (l : List Element) → some_of test l ≡ true → (x : Element) × In x l × (test x ≡ true)
unfolding some_of
member_some test [] h = impossible (cc)
member_some test (y ∷ l) h =
    by_bool (test y) (λ t. (y, here refl, t)) (λ t. let (x, m, e) = member_some test l (rw t at h) in (x, later m, e))

-- the members of a group of the store are elements of the store, with the group's serial number
pub of_store : (s : List ℕ) {g : Group} {x : Element} → In g (groups_of s) → In x (members g) → In x (elements_of s)
of_store s i m = member_was (rearranged (elements_of s)) (every_element (in_row_order s) i m)

pub shares : (s : List ℕ) (g : Group) (x : Element) → In g (groups_of s) → In x (members g) → x.serial ≡ group_serial g
shares s g x i m = of_each (λ (y : Element). y.serial ≡ group_serial g) (members g) (of_each _ (groups_of s) (members_share (in_row_order s)) g i) x m

-- each element is in one
pub group_of : (s : List ℕ) (x : Element) → In x (elements_of s) → (g : Group) × In g (groups_of s) × In x (members g)
group_of s x m = every_member (in_row_order s) (member_stays (rearranged (elements_of s)) m)

-- groups of the store that have one serial number are one
pub one_group : (s : List ℕ) (g h : Group) → In g (groups_of s) → In h (groups_of s) → group_serial g ≡ group_serial h → g ≡ h
one_group s g h i j e = once_one group_serial (groups_of s) (serials_once (in_row_order s)) i j e

-- the GUID of a serial number in a store that reads is sixteen bytes
pub stored_fits : (s : List ℕ) → AllBytes s → Stands (store_walk s).last → (x : Element) → In x (elements_of s) → KeyFits x.serial
stored_fits s b r x m = let f = (of_each KeysFit (elements_of s) (keys_fit s b (store_read s r)) x m).1.0 in (f.0, f.1)

-- ---- what the filters let in

-- is in the store
pub let_in_stored : {s : List ℕ} {fs : List Filter} {x : Element} → LetIn s fs x → In x (elements_of s)
let_in_stored {s} l = of_store s l.among l.member

-- each element that they leave in is let in
pub left_let_in : (s : List ℕ) (fs : List Filter) (x : Element) → In x (elements_of s) → left_in fs (elements_of s) x true ≡ true → LetIn s fs x
left_let_in s fs x m h =
    let (g, i, j) = group_of s x m in
    record { group = g; among = i; member = j; lets = some_member (λ (y : Element). left_in fs (elements_of s) y true) (members g) x j h }

-- with no filters every element is
pub all_let_in : (s : List ℕ) (x : Element) → In x (elements_of s) → LetIn s [] x
unfolding left_in
all_let_in s x m = left_let_in s [] x m refl

-- ---- in step

-- a store is in step with itself, with any knowledge, and holds all
pub store_holds : (s : List ℕ) (fs : List Filter) → HoldsAll s fs s
store_holds s fs x l = holds_own s x (let_in_stored l)

pub store_itself : (s : List ℕ) (fs : List Filter) (know : Key → Bool) → InStep s fs know s
store_itself s fs know x l k = store_holds s fs x l

-- a book that holds all is in step, whatever is known
pub all_in_step : (s : List ℕ) (fs : List Filter) (know : Key → Bool) (book : List ℕ) → HoldsAll s fs book → InStep s fs know book
all_in_step s fs know book h x l k = h x l

-- where nothing is known every book is in step: a bench may begin with an empty one, or with whatever it has
pub nothing_known_lem : (s : List ℕ) (fs : List Filter) (know : Key → Bool) (book : List ℕ) → ((k : Key) → know k ≡ false) → InStep s fs know book
nothing_known_lem s fs know book none x l k = impossible (let z = none x.serial in cc)
