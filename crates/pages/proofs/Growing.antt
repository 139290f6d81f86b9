-- Lengths grow with the page: an answer with one group more is longer, since an element has 46 bytes at least, and the group's serial
-- number saves 36 bytes of the written ranges at most.
-- Assumes nothing.
use mathlib.Core.Path.{◌≡◌, sym, subst}
use mathlib.Core.List.{List, [], map}
use Prim.Native.Nat.{ℕ, zero, suc, ◌+◌, ◌≤◌, ◌<◌}
use native.Mathlib.Numerals.{add-one}
use native.Mathlib.Omega.{arith}
use lib.ListN.{length, length-map}
use Rattle.laws.proofs.Cases.{by_lt}
use Rattle.talk.specs.Each.{Each}
use Rattle.talk.specs.Ranges.{Normal}
use Rattle.talk.specs.Wanted.{wanted}
use Rattle.talk.specs.declared.range.Range.{Range}
use Rattle.talk.proofs.Things.{each_kept}
use Rattle.store.specs.Store.{store_walk}
use Rattle.store.specs.Held.{storage_index}
use Rattle.store.specs.declared.element.Element.{Element}
use Rattle.store.proofs.ElementLeast.{elements_within, elements_least}
use Rattle.order.specs.Order.{ordered}
use Rattle.order.specs.Groups.{Group, members, groups}
use Rattle.order.specs.Links.{lump}
use Rattle.order.proofs.Rearranged.{rearranged_each}
use Rattle.order.proofs.Ordering.{rearranged}
use Rattle.order.proofs.Grouping.{each_grouped}
use Rattle.request.specs.Message.{filters_of}
use Rattle.request.specs.Meaning.{Filter}
use Rattle.request.proofs.RequestFits.{known_normal}
use Rattle.pages.specs.Choice.{wanted_in}
use Rattle.pages.specs.Decision.{Measure}
use Rattle.pages.specs.Tables.{fixed_length}
use Rattle.pages.specs.Answer.{Ask, page_bytes, page_measure, known_in}
use Rattle.pages.specs.Cases.{Asks}
use Rattle.pages.proofs.AnyOrder.{whole_grows}
use Rattle.pages.proofs.Lengths.{AllWithin}
use Rattle.pages.proofs.Lumps.{least_lumps, page_measured}

-- ---- the pages of what is asked

-- the members lie within the store, and none is short; the ranges are in normal form
module _ (a : Ask) (within : Each (λ (g : Group). AllWithin a.store (members g)) a.wanted)
    (least : Each (λ (g : Group). Each (λ (x : Element). 46 ≤ x.length) (members g)) a.wanted) (normal : Normal a.known) where
  one_longer : (j : ℕ) → j < length a.wanted → length (page_bytes a j) < length (page_bytes a (suc j))
  unfolding page_measure
  one_longer j h =
      let longer = whole_grows (fixed_length a.id (storage_index a.elements)) a.known normal (map lump a.wanted) (least_lumps 46 a.wanted least) j (omega (arith, length-map a.wanted lump)) in
      subst (λ (m : Measure). m.whole j < m.whole (suc j)) (sym (page_measured a within)) longer

-- ---- the pages of a call

-- what holds of each element of a store holds of each member of a group that is wanted
pub wanted_each : (P : Element → Type 0) (fs : List Filter) (known : List Range) (all : List Element) → Each P all
    → Each (λ (g : Group). Each P (members g)) (wanted_in fs known all)
unfolding wanted_in wanted
wanted_each P fs known all h =
    each_kept (λ (g : Group). Each P (members g)) _ (groups (ordered all)) (each_grouped P (ordered all) (rearranged_each P (rearranged all) h))

asked_longer : (s q : List ℕ) (a : Ask) → Asks s q a → (j : ℕ) → j < length a.wanted → length (page_bytes a j) < length (page_bytes a (suc j))
asked_longer s q a h =
    let all = (store_walk s).elements in
    one_longer a
    (subst (λ (y : Ask). Each (λ (g : Group). AllWithin y.store (members g)) y.wanted) (sym h.asked)
    (wanted_each (λ (x : Element). x.place + x.length ≤ length s) (filters_of q) (known_in q) all (elements_within s h.store_reads)))
    (subst (λ (y : Ask). Each (λ (g : Group). Each (λ (x : Element). 46 ≤ x.length) (members g)) y.wanted) (sym h.asked)
    (wanted_each (λ (x : Element). 46 ≤ x.length) (filters_of q) (known_in q) all (elements_least s h.store_reads)))
    (subst (λ (y : Ask). Normal y.known) (sym h.asked) (known_normal q []).0)

-- "a page of one more is longer"
pub page_grows : (s q : List ℕ) (a : Ask) → Asks s q a → (j : ℕ) → j < length a.wanted → length (page_bytes a j) < length (page_bytes a (j + 1))
page_grows s q a h j l = rw (add-one j) (asked_longer s q a h j l)

-- and so is every page of more
pub pages_grow : (s q : List ℕ) (a : Ask) → Asks s q a → (j k : ℕ) → j < k → k ≤ length a.wanted → length (page_bytes a j) < length (page_bytes a k)
pages_grow s q a h j zero l m = absurd (omega arith)
pages_grow s q a h j (suc k) l m =
    by_lt j k (λ i. omega (arith, pages_grow s q a h j k i (omega arith), asked_longer s q a h k (omega arith)))
    (λ i. let e : j ≡ k = omega arith in rw e (asked_longer s q a h k (omega arith)))
