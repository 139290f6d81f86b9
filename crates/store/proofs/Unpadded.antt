-- A package and a knowledge that were read without fault are read the same by whoever is no stricter than their reader. So what is read
-- where padding is refused is read the same where it is taken: a store without padded numbers is read as it always was.
-- Assumes nothing.
use mathlib.Core.Path.{◌≡◌, refl, sym, ap, subst, ◌∙◌}
use mathlib.Core.Bool.{Bool, true, false}
use mathlib.Core.List.{List, [], ◌∷◌, ◌++◌}
use Prim.Native.Nat.{ℕ, zero, suc, ◌+◌, ◌≤◌}
use native.Mathlib.Omega.{arith}
use lib.ListN.{length}
use lib.Dec.{leb}
use Rattle.laws.proofs.Cases.{by_bool}
use Rattle.laws.proofs.Loops.{iterate_ind}
use Rattle.numbers.specs.Refusals.{longest_input}
use Rattle.numbers.specs.Compact.{padding_refused}
use Rattle.numbers.specs.declared.refusal.Refusal.{Refusal}
use Rattle.numbers.proofs.Padding.{Takes, takes_refused}
use Rattle.objects.specs.Steps.{nothing_open, place_of, value_of, need, guid_here, start_here, length_is, start_of_length, skip, end_here, next_is, inside, run_here, closed, finish, on_field}
use Rattle.objects.specs.Steps as steps
use Rattle.objects.specs.Results.Reading.{At, Reading, Refused}
use Rattle.objects.proofs.StepsTaken.{number_taken, start_taken, start_of_length_taken, inside_deeper}
use Rattle.talk.specs.declared.range.Range.{Range}
use Rattle.ranges.specs.RangeTable.{laid_ranges}
use Rattle.store.specs.Element.{ids_in}
use Rattle.store.specs.Chain.{Follows}
use Rattle.store.specs.Store.{package_start, package_walk, finished, store_walk, Stands, store_strictness}
use Rattle.store.specs.Knowledge.{guid_field, from_field, to_field, range_fields, item_of, range_start, range_item, entry_of, entry_start, entry_serial, entry_item, item_next, item_kind, item_at, united, Knowing, knowing, items_from, is_cell, specialized_guid, cell_from, specialized_from, knowledge_turn, to_go, unreached, knowledge_from, knowledge_at}
use Rattle.store.specs.declared.element.Element.{Element}
use Rattle.store.specs.declared.element.Strictness.{Strictness}
use Rattle.store.specs.Results.Item.{Item}
use Rattle.store.proofs.Taken.{stands_before, stands_closed, stands_inside, stands_number, element_unseen}
use Rattle.store.proofs.ElementCarry.{stands_same, Wider, element_beside}
use Rattle.store.proofs.Found.{package_most}
use Rattle.store.proofs.Chains.{package_walked, package_read, stands_finish, within_limit}
use Rattle.store.proofs.Uniting.{items_end, items_over, items_more}
use Rattle.store.proofs.KnowledgeForward.{knowledge_falls, turn_more, knowledge_more, knowledge_end_lem}

module _ (padding other : Bool) (takes : Takes padding other) where
  start_same : (s : List ℕ) (outer kind : ℕ) (compound room : Bool) (c : Reading) → Stands (start_here padding s outer kind compound room c)
      → start_here other s outer kind compound room c ≡ start_here padding s outer kind compound room c
  start_same s outer kind compound room c h =
      stands_same (start_here padding s outer kind compound room c) (start_here other s outer kind compound room c) h
      (start_taken padding other takes s outer kind compound room c)

  start_of_length_same : (s : List ℕ) (outer kind : ℕ) (compound room : Bool) (n : ℕ) (c : Reading) → Stands (start_of_length padding s outer kind compound room n c)
      → start_of_length other s outer kind compound room n c ≡ start_of_length padding s outer kind compound room n c
  start_of_length_same s outer kind compound room n c h =
      stands_same (start_of_length padding s outer kind compound room n c) (start_of_length other s outer kind compound room n c) h
      (start_of_length_taken padding other takes s outer kind compound room n c)

  number_same : (d : List ℕ) (c : Reading) → Stands (steps.number padding d c) → steps.number other d c ≡ steps.number padding d c
  number_same d c h = stands_same (steps.number padding d c) (steps.number other d c) h (number_taken padding other takes d c)

  -- ---- a range and an entry

  range_fields_same : (d : List ℕ) → Stands (range_fields padding d).last → range_fields other d ≡ range_fields padding d
  unfolding range_fields need
  range_fields_same d h =
      let from = from_field padding d in
      let t = stands_before (need (leb (value_of from) (value_of (to_field padding d))) 12 (place_of from)) (λ r. refl) (to_field padding d) h in
      let f = stands_number padding d from t in
      let a = number_same d (on_field (guid_field d)) f in
      let b = number_same d from t in
      rw (a, b)

  range_same : (s : List ℕ) (c : Reading) → Stands (on_field (range_item padding s c)) → range_item other s c ≡ range_item padding s c
  unfolding range_item on_field item_of
  range_same s c h =
      let o = range_start padding s c in
      let f = range_fields padding (run_here s o) in
      let w = stands_closed s o f.last (stands_before (λ e. on_field (item_of f.range e)) (λ r. refl) (closed s o f.last) h) in
      rw (start_same s 0x14 0x0F false true c w.0, range_fields_same (run_here s o) w.1)

  entry_same : (s : List ℕ) (c : Reading) → Stands (on_field (entry_item padding s c)) → entry_item other s c ≡ entry_item padding s c
  unfolding entry_item on_field entry_of
  entry_same s c h =
      let o = entry_start padding s c in
      let k = entry_serial (run_here s o) in
      let w = stands_closed s o (on_field k) (stands_before (λ e. on_field (entry_of k e)) (λ r. refl) (closed s o (on_field k)) h) in
      rw (start_same s 0x14 0x17 false true c w.0)

  item_same : (s : List ℕ) (c : Reading) → Stands (on_field (item_at padding s c)) → item_at other s c ≡ item_at padding s c
  unfolding item_at
  item_same s c h =
      by_bool (next_is s 0x0F c) (λ e. rw e (range_same s c (rw e at h))) (λ e. rw e (entry_same s c (rw e at h)))

  -- ---- the ranges and entries of a cell knowledge

  items_fault : (left : ℕ) (s : List ℕ) (l : List Range) (t : List ℕ) (r : Refusal) → (items_from padding left s l t (Refused r)).last ≡ Refused r
  unfolding item_next next_is end_here
  items_fault left s l t r = ap (λ (k : Knowing). k.last) (items_end padding left s l t (Refused r) refl)

  items_same : (left : ℕ) (s : List ℕ) (l : List Range) (t : List ℕ) (c : Reading) → Stands (items_from padding left s l t c).last
      → items_from other left s l t c ≡ items_from padding left s l t c
  items_same zero s l t c h =
      by_bool (item_next s c)
      (λ e.
      let w = items_over padding s l t c e in
      let x = start_same s 0x14 (item_kind s c) false false c (rw w at h) in
      items_over other s l t c e ∙ ap (knowing l t 0) x ∙ sym w)
      (λ e. items_end other 0 s l t c e ∙ sym (items_end padding 0 s l t c e))
  items_same (suc left) s l t c h =
      by_bool (item_next s c)
      (λ e.
      let w = items_more padding left s l t c e in
      let k = rw w at h in
      let i = item_at padding s c in
      let b = stands_before (λ d. (items_from padding left s (united i l) (laid_ranges (united i l) t) d).last) (items_fault left s (united i l) (laid_ranges (united i l) t)) (on_field i) k in
      items_more other left s l t c e
      ∙ ap (λ (j : Item). items_from other left s (united j l) (laid_ranges (united j l) t) (on_field j)) (item_same s c b)
      ∙ items_same left s (united i l) (laid_ranges (united i l) t) (on_field i) k
      ∙ sym w)
      (λ e. items_end other (suc left) s l t c e ∙ sym (items_end padding (suc left) s l t c e))

  -- ---- a specialized knowledge

  cell_same : (s : List ℕ) (k : Knowing) (c : Reading) → Stands (cell_from padding s k c).last → cell_from other s k c ≡ cell_from padding s k c
  unfolding cell_from end_here
  cell_same s k c h =
      let o = start_of_length padding s 0x44 0x14 true true 0 c in
      let i = items_from padding k.left s k.ranges k.table o in
      let a = stands_before (end_here s 0x44) (λ r. refl) i.last h in
      let b = stands_before (λ d. (items_from padding k.left s k.ranges k.table d).last) (items_fault k.left s k.ranges k.table) o a in
      rw (start_of_length_same s 0x44 0x14 true true 0 c b, items_same k.left s k.ranges k.table o a)

  cell_fault : (s : List ℕ) (k : Knowing) (r : Refusal) → (cell_from padding s k (Refused r)).last ≡ Refused r
  unfolding cell_from start_of_length length_is start_here end_here
  cell_fault s k r = ap (end_here s 0x44) (items_fault k.left s k.ranges k.table r)

  specialized_same : (depth : ℕ) (s : List ℕ) (k : Knowing) → Stands (specialized_from padding depth s k).last → specialized_from other depth s k ≡ specialized_from padding depth s k
  unfolding specialized_from specialized_guid guid_here on_field inside
  specialized_same depth s k h =
      let o = start_of_length padding s 0x10 0x44 true true 16 k.last in
      let c = on_field (guid_here s o) in
      by_bool (is_cell (guid_here s o))
      (λ e.
      let g = rw e at h in
      let b = stands_before (λ d. on_field (guid_here s d)) (λ r. refl) o (stands_before (λ d. (cell_from padding s k d).last) (cell_fault s k) c g) in
      rw (start_of_length_same s 0x10 0x44 true true 16 k.last b, e) (cell_same s k c g))
      (λ e.
      let g = rw e at h in
      let b = stands_before (λ d. on_field (guid_here s d)) (λ r. refl) o (stands_inside padding s depth 0x44 c g) in
      let n = stands_same (inside padding s depth 0x44 c) (inside other s depth 0x44 c) g (λ q v j. inside_deeper padding other takes s depth depth 0x44 c q v (omega arith) j) in
      rw (start_of_length_same s 0x10 0x44 true true 16 k.last b, e, n))

  -- ---- the whole

  turns_fault : (depth : ℕ) (s : List ℕ) (l : List Range) (t : List ℕ) (left : ℕ) (r : Refusal) → (knowledge_from padding depth s (knowing l t left (Refused r))).last ≡ Refused r
  unfolding next_is end_here
  turns_fault depth s l t left r = ap (λ (m : Knowing). m.last) (knowledge_end_lem padding depth s (knowing l t left (Refused r)) refl)

  turns_same : (depth : ℕ) (s : List ℕ) (k : Knowing) → Stands (knowledge_from padding depth s k).last → knowledge_from other depth s k ≡ knowledge_from padding depth s k
  turns_same depth s =
      iterate_ind (λ m. knowledge_turn padding depth s m) (λ m. to_go s m.last) unreached (knowledge_falls padding depth s)
      (λ (k : Knowing). Stands (knowledge_from padding depth s k).last → knowledge_from other depth s k ≡ knowledge_from padding depth s k)
      (λ k ih h.
      by_bool (next_is s 0x44 k.last)
      (λ e.
      let m = specialized_from padding depth s k in
      let w = knowledge_more padding depth s k e in
      let g = rw w at h in
      let b = stands_before (λ d. (knowledge_from padding depth s (knowing m.ranges m.table m.left d)).last) (turns_fault depth s m.ranges m.table m.left) m.last g in
      knowledge_more other depth s k e ∙ ap (knowledge_from other depth s) (specialized_same depth s k b) ∙ ih m (turn_more padding depth s k e) g ∙ sym w)
      (λ e. knowledge_end_lem other depth s k e ∙ sym (knowledge_end_lem padding depth s k e)))

  pub knowledge_same : (allowed depth outer : ℕ) (s t : List ℕ) (c : Reading) → Stands (knowledge_at padding allowed depth outer s t c).last
      → knowledge_at other allowed depth outer s t c ≡ knowledge_at padding allowed depth outer s t c
  unfolding knowledge_at
  knowledge_same allowed depth outer s t c h =
      let o = start_of_length padding s outer 0x10 true true 0 c in
      let b = stands_before (λ d. (knowledge_from padding depth s (knowing [] t allowed d)).last) (turns_fault depth s [] t allowed) o h in
      rw (start_of_length_same s outer 0x10 true true 0 c b) (turns_same depth s (knowing [] t allowed o) h)

-- ---- a package

module _ (strict other : Strictness) (wider : Wider strict other) where
  chain_same : (s : List ℕ) (done xs : List Element) (at e : ℕ) → Follows strict s done at xs e → Follows other s done at xs e
  chain_same s done [] at e c = c
  chain_same s done (x ∷ xs) at e c =
      let u = element_unseen strict (ids_in done) s (At at 0) x c.0 in (
        element_beside strict other wider s at 0 0 (ids_in done) (ids_in done) x c.0 u,
        chain_same s (done ++ (x ∷ [])) xs (x.place + x.length) e c.1,
      )

  package_start_same : (outer : ℕ) (s : List ℕ) (c : Reading) → Stands (package_start strict.padding outer s c)
      → package_start other.padding outer s c ≡ package_start strict.padding outer s c
  unfolding package_start skip
  package_start_same outer s c h =
      let o = start_of_length strict.padding s outer 0x15 true true 1 c in
      rw (start_of_length_same strict.padding other.padding wider.takes s outer 0x15 true true 1 c (stands_before (skip s 1) (λ r. refl) o h))

  pub package_same : (outer : ℕ) (s : List ℕ) (c : Reading) → Stands (package_walk strict outer s c).last → package_walk other outer s c ≡ package_walk strict outer s c
  package_same outer s c h =
      let r = package_read strict outer s c h in
      let w = package_walk strict outer s c in
      let b : package_start other.padding outer s c ≡ At r.first 0 =
      package_start_same outer s c (subst Stands (sym r.start) tt) ∙ r.start in
      package_walked other outer s c r.first 0 w.elements r.end r.behind 0 b (chain_same s [] w.elements r.first r.end r.chain)
      (package_most strict outer s c) r.ends
      ∙ ap (λ (e : Reading). record { elements = w.elements; last = e }) (sym r.last)

-- ---- where padding is refused

-- as strict, but padding is refused
abbrev pub unpadded : Strictness → Strictness
unpadded strict = record { padding = padding_refused; levels = strict.levels; serials = strict.serials }

pub wider_unpadded : (strict : Strictness) → Wider (unpadded strict) strict
wider_unpadded strict = record { takes = takes_refused strict.padding; deeper = omega arith; judges = λ j. j }

-- a store that is read so is read the same as stores are read
pub store_unpadded : (s : List ℕ) → length s ≤ longest_input → Stands (finish s (package_walk (unpadded store_strictness) nothing_open s (At 0 0)).last)
    → store_walk s ≡ finished s (package_walk (unpadded store_strictness) nothing_open s (At 0 0))
store_unpadded s l h =
    let w = package_walk (unpadded store_strictness) nothing_open s (At 0 0) in
    within_limit s l
    ∙ ap (finished s) (package_same (unpadded store_strictness) store_strictness (wider_unpadded store_strictness) nothing_open s (At 0 0) (stands_finish s w.last h))

-- and so is a knowledge, whoever reads it
pub knowledge_unpadded : (other : Bool) (allowed depth outer : ℕ) (s t : List ℕ) (c : Reading) → Stands (knowledge_at padding_refused allowed depth outer s t c).last
    → knowledge_at other allowed depth outer s t c ≡ knowledge_at padding_refused allowed depth outer s t c
knowledge_unpadded other = knowledge_same padding_refused other (takes_refused other)
