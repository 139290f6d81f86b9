-- A second put of the same bytes, on the new store, as when the first one's answer was lost (document 02, Q-1): store and put are read, and
-- every id is held by then, so that as many elements as before would be there. So hub_put gives no fault of either input, and 9 neither.
-- 15 may come, where the put changed the first storage index. A reader needs the statements of `put_again` and `never_nine`.
-- Assumes nothing.
use mathlib.Core.Path.{◌≡◌, refl, sym, ap, subst, ◌∙◌}
use mathlib.Core.Bool.{true}
use mathlib.Core.List.Memᴰ.{cases_cons as first-or-later}
use mathlib.Core.List.Memᴰ.{head as here}
use mathlib.Core.List.Memᴰ.{map as in_map}
use mathlib.Core.List.Memᴰ.{not-nil as none_in}
use mathlib.Core.List.Memᴰ.{tail as later}
use mathlib.Core.List.{List, [], ◌∷◌, ◌++◌, map, append-nil, Memᴰ as In}
use mathlib.Core.Logic.{⊎_elim}
use Prim.Native.Nat.{ℕ, suc}
use native.Mathlib.Omega.{arith}
use lib.ListN.{length, length-map}
use Rattle.laws.specs.Once.{seen}
use Rattle.numbers.specs.declared.guid.Guid.{Guid}
use Rattle.store.specs.Element.{same_key}
use Rattle.store.specs.declared.element.Element.{Element}
use Rattle.store.specs.declared.element.Key.{Key}
use Rattle.store.proofs.Found.{store_most}
use Rattle.enter.specs.Entering.{Kept, kept_id, replaced_by, new_to, enter}
use Rattle.puts.specs.NewStore.{entering_from, first_number, new_elements, staying}
use Rattle.enter.proofs.KeptIn.{kept_in_parts}
use Rattle.puts.proofs.AfterPut.{entering_parts}
use Rattle.enter.proofs.Keys.{seen_member}
use Rattle.puts.proofs.Serials.{came}
use Rattle.hub.specs.Put.{guid_of, HubPuts}
use Rattle.evidence.specs.Puts.{handed_by, elements_behind, EnterFrom, BothRead}
use Rattle.evidence.specs.Talk.{elements_of}
use Rattle.evidence.proofs.PutDemands.{PutDemandTwo, demand_one_hub_put_numbers}

-- where every id that comes is there, none is new
none_new : (there come : List Kept) → ((y : Kept) → In y come → seen same_key y.id (map kept_id there) ≡ true) → new_to there come ≡ []
unfolding new_to
none_new there [] h = refl
none_new there (y ∷ come) h = rw (h y (here refl)) (none_new there come (λ z m. h z (later m)))

-- what was handed in is there, by its id
id_there : (q w : List ℕ) (g : Guid) (n : ℕ) (handed : List Element) → EnterFrom q w g n handed → (x : Element) → In x handed
    → seen same_key x.id (map kept_id (map (staying w) (elements_of w))) ≡ true
id_there q w g n [] e x m = absurd (none_in m)
id_there q w g n (y ∷ handed) e x m =
    ⊎_elim
    (λ i.
    let t = e.0 in
    let k : kept_id (staying w t.element) ≡ x.id = (kept_in_parts w t.element).0 ∙ t.id_is ∙ ap (λ (z : Element). z.id) (sym i) in
    subst (λ (j : Key). seen same_key j (map kept_id (map (staying w) (elements_of w))) ≡ true) k
    (seen_member kept_id (map (staying w) (elements_of w)) (in_map (staying w) t.among)))
    (λ r. id_there q w g (suc n) handed e.1 x r)
    (first-or-later m)

-- both are read, and no element is new: under any GUID
pub put_again : (s q : List ℕ) (g : Guid) (a w : List ℕ) → PutDemandTwo s q g a w → (h : Guid)
    → BothRead w q × (length (elements_behind w q h) ≡ length (elements_of w))
unfolding new_elements enter
put_again s q g a w two h =
    let there = map (staying w) (elements_of w) in
    let come = entering_from q h (first_number h (elements_of w)) (handed_by q) in
    let none : new_to there come ≡ [] =
    none_new there come
    (λ y m.
    let c = came q h (first_number h (elements_of w)) (handed_by q) y m in
    let k : y.id ≡ c.element.id = ap kept_id c.is ∙ (entering_parts q _ c.element).0 in
    ap (λ (j : Key). seen same_key j (map kept_id there)) k ∙ id_there q w g (first_number g (elements_of s)) (handed_by q) two.enter c.element c.among) in (
      (two.reads, two.both_read.1),
      ap (λ (l : List Kept). length (map (replaced_by come) there ++ l)) none
          ∙ ap length (append-nil (map (replaced_by come) there))
          ∙ length-map there (replaced_by come)
          ∙ length-map (elements_of w) (staying w),
    )

-- so the call does not refuse with 9
pub never_nine : (s q : List ℕ) (g : Guid) (a w : List ℕ) → PutDemandTwo s q g a w → (low high number : ℕ) (new new' out out' report report' : List ℕ)
    → HubPuts w q low high number new new' out out' report report' → number ≡ 9 → ⊥
never_nine s q g a w two low high number new new' out out' report report' h e =
    let (both, same) = put_again s q g a w two (guid_of low high) in
    let many = (((demand_one_hub_put_numbers w q low high number new new' out out' report report' h).nine both).0 e).2 in
    let few = store_most w in
    absurd (omega arith)
