-- The index before the bulk (document 02, Q-14: "Benches show a blank page until the storage index comes, often last"): if a group with an
-- element of type 1 is wanted, the next answer carries one, as its first element, whatever the limit, the buffer and the store: groups stand "at
-- the rank of their first member in the new order". So of a talk in which one is wanted at the start, the first answer has it.
-- Assumes nothing.
use mathlib.Core.Path.{◌≡◌, refl, sym, ap, subst, ◌∙◌}
use mathlib.Core.Bool.{Bool, true, false}
use mathlib.Core.List.Memᴰ.{head}
use mathlib.Core.List.Memᴰ.{tail}
use mathlib.Core.List.{List, [], ◌∷◌, ◌++◌, Memᴰ as In}
use Prim.Native.Nat.{ℕ, ◌≤◌}
use native.Mathlib.Omega.{arith}
use borrow.Author.Tests.{eq-eqb, eqb-true}
use Rattle.laws.specs.Bytes.{AllBytes}
use Rattle.laws.proofs.Cases.{by_bool, impossible}
use Rattle.talk.specs.Each.{Each}
use Rattle.talk.proofs.Things.{each_kept}
use Rattle.talk.specs.Series.{is_some}
use Rattle.talk.specs.Wanted.{keep, wanted}
use Rattle.store.specs.declared.element.Element.{Element}
use Rattle.store.specs.declared.element.Key.{Key}
use Rattle.order.specs.Order.{rank_of}
use Rattle.order.specs.Groups.{Group, members, members_of, firsts}
use Rattle.order.specs.Rearranged.{Pairs}
use Rattle.order.proofs.GroupOrder.{firsts_in_order, members_in_order}
use Rattle.order.proofs.Ordering.{by_rank, first_rank, NotFalling, ranks_do_not_fall}
use Rattle.enter.proofs.Members.{of_each}
use Rattle.request.specs.Meaning.{Filter}
use Rattle.request.specs.Message.{filters_of}
use Rattle.pages.specs.Answer.{known_in}
use Rattle.pages.specs.Choice.{knows_key}
use Rattle.evidence.specs.Talk.{elements_of, in_row_order, groups_of, wanted_of, AnsweredAsk}
use Rattle.evidence.proofs.DemandTwo.{DemandTwo}
use Rattle.evidence.proofs.Steps.{held, answered_judged}

-- a list that begins with an element of type 1
abbrev pub IndexFirst : List Element → Type 0
IndexFirst l = (y : Element) × (ys : List Element) × (l ≡ y ∷ ys) × (y.kind ≡ 1)

-- ---- type 1 is rank 1, and no other type is

rank_one : (x : Element) → x.kind ≡ 1 → rank_of x ≡ 1
rank_one x k = eqb-true (rank_of x) 1 (first_rank x ∙ eq-eqb x.kind 1 k)

type_one : (x : Element) → rank_of x ≤ 1 → x.kind ≡ 1
type_one x l =
    by_rank x
    (λ r. eqb-true x.kind 1 (sym (first_rank x) ∙ eq-eqb (rank_of x) 1 r))
    (λ r. absurd (omega arith))
    (λ r. absurd (omega arith))
    (λ r. absurd (omega arith))
    (λ r. absurd (omega arith))

-- ---- where ranks do not fall, it leads: the first member of its group is of no higher rank, and that of the first group of none higher still

leads : (x : Element) → x.kind ≡ 1 → (l : List Element) → NotFalling l → In x l → IndexFirst l
leads x k [] f m = elim m [ ]
leads x k (y ∷ ys) f (head e) = (y, ys, refl, subst (λ (z : Element). z.kind ≡ 1) e k)
leads x k (y ∷ ys) f (tail m) =
    let a = of_each (λ (z : Element). rank_of y ≤ rank_of z) ys f.0 x m in
    let b = rank_one x k in
    (y, ys, refl, type_one y (omega arith))

-- the first of a group with one of type 1 is one
group_leads : (x : Element) → x.kind ≡ 1 → (g : Group) → NotFalling (members g) → In x (members g) → g.first.kind ≡ 1
group_leads x k g f m = same_first (leads x k (members g) f m)
  where
    same_first : IndexFirst (members g) → g.first.kind ≡ 1
    same_first (y, ys, e, t) = let z : g.first ≡ y = cc in subst (λ (v : Element). v.kind ≡ 1) (sym z) t

first_in : (g : Group) (gs : List Group) → In g gs → In g.first (firsts gs)
first_in g [] m = elim m [ ]
first_in g (h ∷ gs) (head e) = head (ap (λ (y : Group). y.first) e)
first_in g (h ∷ gs) (tail m) = tail (first_in g gs m)

-- ---- so among the wanted

-- of groups some are kept, and their first members with them
firsts_kept : (R : Element → Element → Type 0) (test : Group → Bool) (gs : List Group) → Pairs R (firsts gs) → Pairs R (firsts (keep test gs))
unfolding keep
firsts_kept R test [] p = tt
firsts_kept R test (g ∷ gs) p =
    by_bool (test g) (λ e. rw e (each_firsts (R g.first) gs p.0, firsts_kept R test gs p.1)) (λ e. rw e (firsts_kept R test gs p.1))
  where
    each_firsts : (P : Element → Type 0) (hs : List Group) → Each P (firsts hs) → Each P (firsts (keep test hs))
    each_firsts P [] h = tt
    each_firsts P (y ∷ hs) h = by_bool (test y) (λ e. rw e (h.0, each_firsts P hs h.1)) (λ e. rw e (each_firsts P hs h.1))

wanted_leads : (s : List ℕ) (fs : List Filter) (know : Key → Bool) (g : Group) (x : Element) → In g (wanted_of s fs know) → In x (members g) → x.kind ≡ 1
    → IndexFirst (firsts (wanted_of s fs know))
unfolding wanted
wanted_leads s fs know g x m n k =
    let in_order = ranks_do_not_fall (elements_of s) in
    let whole : Each (λ (h : Group). NotFalling (members h)) (wanted_of s fs know) =
    each_kept (λ (h : Group). NotFalling (members h)) _ (groups_of s) (members_in_order (λ (y z : Element). rank_of y ≤ rank_of z) (in_row_order s) in_order) in
    leads g.first (group_leads x k g (of_each (λ (h : Group). NotFalling (members h)) (wanted_of s fs know) whole g m) n) (firsts (wanted_of s fs know))
    (firsts_kept (λ (y z : Element). rank_of y ≤ rank_of z) _ (groups_of s) (firsts_in_order (λ (y z : Element). rank_of y ≤ rank_of z) (in_row_order s) in_order))
    (first_in g (wanted_of s fs know) m)

-- a page that is not empty begins as the wanted do, and so do the elements that it carries
page_leads : (page rest all : List Group) → page ++ rest ≡ all → is_some page ≡ is_some all → IndexFirst (firsts all) → IndexFirst (members_of page)
unfolding members_of
page_leads [] rest [] e f (y, ys, q, k) = impossible (cc)
page_leads [] rest (h ∷ all) e f i = let z : false ≡ true = f in impossible (cc)
page_leads (g ∷ page) rest [] e f i = let z : true ≡ false = f in impossible (cc)
page_leads (g ∷ page) rest (h ∷ all) e f (y, ys, q, k) =
    let z : g ≡ h = cc in
    let v : h.first ≡ y = cc in
    (g.first, g.others ++ members_of page, refl, subst (λ (u : Element). u.kind ≡ 1) (sym (ap (λ (u : Group). u.first) z ∙ v)) k)

-- ---- of an answer, by any of the calls: a bench reads its page in it (`DemandTwo.read`)

pub index_first : (s q : List ℕ) (room : ℕ) (w : List ℕ) (two : DemandTwo s q room w) (g : Group) (x : Element)
    → In g (wanted_of s (filters_of q) (knows_key (known_in q))) → In x (members g) → x.kind ≡ 1 → IndexFirst (members_of two.page)
index_first s q room w two g x m n k =
    page_leads two.page two.rest (wanted_of s (filters_of q) (knows_key (known_in q))) two.run two.some (wanted_leads s (filters_of q) (knows_key (known_in q)) g x m n k)

-- ---- of an ask of a talk, where what is known is a set: of the first ask of a talk it is what is wanted at the start
pub talk_index_first : (s : List ℕ) (b : AllBytes s) (fs : List Filter) (know know' : Key → Bool) (w : List ℕ) (r : AnsweredAsk s fs know w know') (g : Group) (x : Element)
    → In g (wanted_of s fs know) → In x (members g) → x.kind ≡ 1 → IndexFirst (members_of (held s b fs know know' w r).page)
talk_index_first s b fs know know' w r g x m n k =
    let j = answered_judged s b fs know know' w r in
    page_leads (held s b fs know know' w r).page j.rest (wanted_of s fs know) j.takes.run j.takes.moves (wanted_leads s fs know g x m n k)
