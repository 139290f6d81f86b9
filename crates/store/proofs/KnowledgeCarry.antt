-- A knowledge depends only on its own bytes: what was read without fault, set down anywhere and followed by anything, is read
-- as the same ranges, whatever stood in the table.
-- Assumes nothing.
use mathlib.Core.Path.{◌≡◌, refl, sym, ap, subst, ◌∙◌}
use mathlib.Core.Bool.{Bool, true, false}
use mathlib.Core.List.{List, []}
use Prim.Native.Nat.{ℕ, zero, suc, ◌+◌, ◌-◌, ◌≤◌}
use native.Mathlib.Omega.{arith}
use lib.ListN.{length, take, drop}
use Rattle.laws.specs.Pick.{pick}
use Rattle.laws.proofs.Agreement.{Same, same_less, same_on, same_of}
use Rattle.laws.proofs.Cases.{by_bool, impossible}
use Rattle.laws.proofs.Loops.{iterate_ind}
use Rattle.numbers.specs.declared.refusal.Refusal.{Refusal}
use Rattle.numbers.specs.declared.guid.Guid.{Guid}
use Rattle.numbers.specs.Results.Serial as number
use Rattle.objects.specs.Steps.{start_here, start_of_length, run_here, in_run, end_here, next_is, inside, on_field}
use Rattle.objects.specs.Results.Reading.{At, Reading, Refused}
use Rattle.objects.specs.Results.ReadingGuid as guid'
use Rattle.objects.specs.Results.ReadingSerial.{ReadingSerial}
use Rattle.objects.specs.Results.ReadingSerial as serial'
use Rattle.objects.proofs.StepsCarry.{Took, Carries, Gives, carries_to, carries_span, carries_then, gives_first, gives_next, gives_all, gives_free, gives_by, gives_both, carries_same, gives_same, carries_by, gives_by_first, gives_by_next, carries_pick, gives_picked, gives_pick, carries_still, carries_guid, gives_guid, carries_start, gives_next_is, carries_start_of_length, gives_next_is_of_length, carries_end, gives_next_is_end, carries_inside, carries_run, gives_run, opened_from}
use Rattle.talk.specs.declared.range.Range.{Range}
use Rattle.ranges.specs.RangeTable.{laid_ranges}
use Rattle.store.specs.Knowledge.{range_fields, item_of, range_start, range_item, entry_of, entry_start, entry_serial, entry_item, item_next, item_kind, item_at, united, Knowing, knowing, standing, items_from, is_cell, specialized_guid, cell_from, specialized_from, knowledge_turn, to_go, unreached, knowledge_from, knowledge_at}
use Rattle.store.proofs.Uniting.{items_end, items_over, items_more}
use Rattle.store.proofs.KnowledgeForward.{knowledge_falls, knowledge_more, knowledge_end_lem, turn_more}
use Rattle.store.proofs.TableFree.{table_free}

-- ---- a range

abbrev range_run : Bool → List ℕ → Reading → Reading
range_run padding s c = in_run s (λ d. (range_fields padding d).last) (range_start padding s c)

carries_range_run : (padding : Bool) → Carries (range_run padding)
carries_range_run padding = carries_then (carries_start padding 0x14 0x0F false true) (carries_run (λ d. (range_fields padding d).last))

gives_range_run : (padding : Bool) → Gives (range_run padding) (λ s c. run_here s (range_start padding s c))
gives_range_run padding =
    gives_next (carries_start padding 0x14 0x0F false true) (carries_run (λ d. (range_fields padding d).last)) (gives_run (λ d. (range_fields padding d).last))

carries_on_range : (x : Range) → Carries (λ s c. on_field (item_of x c))
unfolding on_field item_of
carries_on_range x =
    carries_still (λ c. on_field (item_of x c)) (λ r. refl) (λ p u q v e. let y : p ≡ q = grind arith in let z : 0 ≡ v = grind arith in (sym y, λ p'. rw z))

abbrev range_step : Bool → List ℕ → Reading → Reading
range_step padding s c = on_field (range_item padding s c)

carries_range : (padding : Bool) → Carries (range_step padding)
unfolding range_item
carries_range padding = carries_by (carries_range_run padding) (gives_range_run padding) (λ d. carries_on_range (range_fields padding d).range)

range_united_free : (x : Range) (l : List Range) (p q u : ℕ) → united (item_of x (At p u)) l ≡ united (item_of x (At q u)) l
unfolding item_of united
range_united_free x l p q u = refl

gives_range_united : (padding : Bool) (l : List Range) → Gives (range_step padding) (λ s c. united (range_item padding s c) l)
unfolding range_item
gives_range_united padding l =
    gives_by_next (carries_range_run padding) (gives_range_run padding) (λ d. carries_on_range (range_fields padding d).range)
    (λ d. gives_free (λ c. united (item_of (range_fields padding d).range c) l) (range_united_free (range_fields padding d).range l))

gives_range_next : (padding : Bool) (x : ℕ) → Gives (range_step padding) (λ s c. next_is s x c)
unfolding range_item
gives_range_next padding x =
    gives_by_first (carries_range_run padding) (gives_range_run padding) (λ d. carries_on_range (range_fields padding d).range)
    (gives_first (carries_start padding 0x14 0x0F false true) (carries_run (λ d. (range_fields padding d).last)) (gives_next_is padding x 0x14 0x0F false true))

-- ---- an entry

abbrev entry_run : Bool → List ℕ → Reading → Reading
entry_run padding s c = in_run s (λ d. on_field (entry_serial d)) (entry_start padding s c)

carries_entry_run : (padding : Bool) → Carries (entry_run padding)
carries_entry_run padding = carries_then (carries_start padding 0x14 0x17 false true) (carries_run (λ d. on_field (entry_serial d)))

gives_entry_run : (padding : Bool) → Gives (entry_run padding) (λ s c. run_here s (entry_start padding s c))
gives_entry_run padding =
    gives_next (carries_start padding 0x14 0x17 false true) (carries_run (λ d. on_field (entry_serial d))) (gives_run (λ d. on_field (entry_serial d)))

entry_moves : (k : ReadingSerial) (p u q v : ℕ) → on_field (entry_of k (At p u)) ≡ At q v → (q ≡ p) × ((p' : ℕ) → on_field (entry_of k (At p' u)) ≡ At p' v)
unfolding on_field entry_of
entry_moves (serial'.At i number.Null) p u q v e = let y : p ≡ q = grind arith in let z : 0 ≡ v = grind arith in (sym y, λ p'. rw z)
entry_moves (serial'.At i (number.Numbered g x)) p u q v e = let y : p ≡ q = grind arith in let z : 0 ≡ v = grind arith in (sym y, λ p'. rw z)
entry_moves (serial'.Refused r) p u q v e = impossible (cc)

carries_on_entry : (k : ReadingSerial) → Carries (λ s c. on_field (entry_of k c))
unfolding on_field entry_of
carries_on_entry k = carries_still (λ c. on_field (entry_of k c)) (λ r. refl) (entry_moves k)

abbrev entry_step : Bool → List ℕ → Reading → Reading
entry_step padding s c = on_field (entry_item padding s c)

carries_entry : (padding : Bool) → Carries (entry_step padding)
unfolding entry_item
carries_entry padding = carries_by (carries_entry_run padding) (gives_entry_run padding) (λ d. carries_on_entry (entry_serial d))

entry_united_free : (k : ReadingSerial) (l : List Range) (p q u : ℕ) → united (entry_of k (At p u)) l ≡ united (entry_of k (At q u)) l
unfolding entry_of united
entry_united_free (serial'.At i number.Null) l p q u = refl
entry_united_free (serial'.At i (number.Numbered g x)) l p q u = refl
entry_united_free (serial'.Refused r) l p q u = refl

gives_entry_united : (padding : Bool) (l : List Range) → Gives (entry_step padding) (λ s c. united (entry_item padding s c) l)
unfolding entry_item
gives_entry_united padding l =
    gives_by_next (carries_entry_run padding) (gives_entry_run padding) (λ d. carries_on_entry (entry_serial d))
    (λ d. gives_free (λ c. united (entry_of (entry_serial d) c) l) (entry_united_free (entry_serial d) l))

gives_entry_next : (padding : Bool) (x : ℕ) → Gives (entry_step padding) (λ s c. next_is s x c)
unfolding entry_item
gives_entry_next padding x =
    gives_by_first (carries_entry_run padding) (gives_entry_run padding) (λ d. carries_on_entry (entry_serial d))
    (gives_first (carries_start padding 0x14 0x17 false true) (carries_run (λ d. on_field (entry_serial d))) (gives_next_is padding x 0x14 0x17 false true))

-- ---- a range or an entry

abbrev item_step : Bool → List ℕ → Reading → Reading
item_step padding s c = on_field (item_at padding s c)

abbrev picked_step : Bool → List ℕ → Reading → Reading
picked_step padding s c = pick (next_is s 0x0F c) (range_step padding s c) (entry_step padding s c)

item_picked : (padding : Bool) (s : List ℕ) (c : Reading) → item_step padding s c ≡ picked_step padding s c
unfolding item_at
item_picked padding s c = by_bool (next_is s 0x0F c) (λ e. rw e) (λ e. rw e)

carries_item : (padding : Bool) → Carries (item_step padding)
carries_item padding = carries_same (item_picked padding) (carries_pick (carries_range padding) (carries_entry padding) (gives_range_next padding 0x0F) (gives_entry_next padding 0x0F))

united_picked : (padding : Bool) (l : List Range) (s : List ℕ) (c : Reading) → united (item_at padding s c) l ≡ pick (next_is s 0x0F c) (united (range_item padding s c) l) (united (entry_item padding s c) l)
unfolding item_at
united_picked padding l s c = by_bool (next_is s 0x0F c) (λ e. rw e) (λ e. rw e)

gives_united : (padding : Bool) (l : List Range) → Gives (item_step padding) (λ s c. united (item_at padding s c) l)
gives_united padding l =
    gives_same (item_picked padding) (united_picked padding l)
    (gives_picked (gives_range_next padding 0x0F) (gives_entry_next padding 0x0F) (gives_range_united padding l) (gives_entry_united padding l))

gives_item_next : (padding : Bool) → Gives (item_step padding) item_next
unfolding item_next
gives_item_next padding =
    gives_both (λ (a b : Bool). pick a true b) (one 0x0F) (one 0x17)
  where
    one : (x : ℕ) → Gives (item_step padding) (λ s c. next_is s x c)
    one x =
        gives_same (item_picked padding) (λ s c. refl) (gives_pick (gives_range_next padding 0x0F) (gives_range_next padding x) (gives_entry_next padding x))

gives_end_next : (kind : ℕ) → Gives (λ s c. end_here s kind c) item_next
unfolding item_next
gives_end_next kind = gives_both (λ (a b : Bool). pick a true b) (gives_next_is_end 0x0F kind) (gives_next_is_end 0x17 kind)

-- ---- the ranges and entries of a cell knowledge

-- all but the place
abbrev rest : Knowing → Knowing
rest k = standing (At 0 0) k

abbrev items_last : Bool → ℕ → List Range → List ℕ → List ℕ → Reading → Reading
items_last padding left l t s c = (items_from padding left s l t c).last

-- the next ones, with what the item before them adds
abbrev onwards : Bool → ℕ → List ℕ → List Range → List ℕ → Reading → Knowing
onwards padding left t l s c = items_from padding left s l (laid_ranges l t) c

record ItemsCarry (padding : Bool) (left : ℕ) (l : List Range) (t : List ℕ) : Type 0 where
  carries : Carries (items_last padding left l t)
  gives : Gives (items_last padding left l t) (λ s c. rest (items_from padding left s l t c))

-- no room: an item that stands there is a fault
carries_over : (padding : Bool) → Carries (λ s c. start_here padding s 0x14 (item_kind s c) false false c)
unfolding start_here
carries_over padding = record { fault = λ s r. refl; took = λ s p u q v e. go s p u q v e }
  where
    go : (s : List ℕ) (p u q v : ℕ) → start_here padding s 0x14 (item_kind s (At p u)) false false (At p u) ≡ At q v
        → Took (λ t c. start_here padding t 0x14 (item_kind t c) false false c) s p u q v
    go s p u q v e =
        let z : false ≡ true = (opened_from padding s 0x14 (item_kind s (At p u)) false false p u q v e).free in
        impossible (cc)

gives_over : (padding : Bool) {A : Type 0} (got : List ℕ → Reading → A) → Gives (λ s c. start_here padding s 0x14 (item_kind s c) false false c) got
gives_over padding got =
    record {
      alike =
          λ s p u n v e t p' a.
          let z : false ≡ true = (opened_from padding s 0x14 (item_kind s (At p u)) false false p u (p + n) v e).free in
          impossible (cc);
    }

items_last_zero : (padding : Bool) (l : List Range) (t s : List ℕ) (c : Reading)
    → items_last padding 0 l t s c ≡ pick (item_next s c) (start_here padding s 0x14 (item_kind s c) false false c) (end_here s 0x14 c)
items_last_zero padding l t s c =
    let at : Knowing → Reading = λ k. k.last in
    by_bool (item_next s c) (λ e. ap at (items_over padding s l t c e) ∙ rw e) (λ e. ap at (items_end padding 0 s l t c e) ∙ rw e)

items_rest_zero : (padding : Bool) (l : List Range) (t s : List ℕ) (c : Reading) → rest (items_from padding 0 s l t c) ≡ rest (knowing l t 0 c)
items_rest_zero padding l t s c = by_bool (item_next s c) (λ e. ap rest (items_over padding s l t c e)) (λ e. ap rest (items_end padding 0 s l t c e))

items_last_suc : (padding : Bool) (left : ℕ) (l : List Range) (t s : List ℕ) (c : Reading)
    → items_last padding (suc left) l t s c ≡ pick (item_next s c) (onwards padding left t (united (item_at padding s c) l) s (item_step padding s c)).last (end_here s 0x14 c)
items_last_suc padding left l t s c =
    let at : Knowing → Reading = λ k. k.last in
    by_bool (item_next s c) (λ e. ap at (items_more padding left s l t c e) ∙ rw e) (λ e. ap at (items_end padding (suc left) s l t c e) ∙ rw e)

items_rest_suc : (padding : Bool) (left : ℕ) (l : List Range) (t s : List ℕ) (c : Reading)
    → rest (items_from padding (suc left) s l t c) ≡ pick (item_next s c) (rest (onwards padding left t (united (item_at padding s c) l) s (item_step padding s c))) (rest (knowing l t (suc left) c))
items_rest_suc padding left l t s c =
    by_bool (item_next s c) (λ e. ap rest (items_more padding left s l t c e) ∙ rw e) (λ e. ap rest (items_end padding (suc left) s l t c e) ∙ rw e)

items_carry : (padding : Bool) (left : ℕ) (l : List Range) (t : List ℕ) → ItemsCarry padding left l t
items_carry padding zero l t =
    record {
      carries = carries_same (items_last_zero padding l t) (carries_pick (carries_over padding) (carries_end 0x14) (gives_over padding item_next) (gives_end_next 0x14));
      gives =
          gives_same (items_last_zero padding l t) (items_rest_zero padding l t)
          (gives_pick (gives_over padding item_next) (gives_all (rest (knowing l t 0 (At 0 0)))) (gives_all (rest (knowing l t 0 (At 0 0)))));
    }
items_carry padding (suc left) l t =
    let next : (m : List Range) → Carries (λ s c. (onwards padding left t m s c).last) = λ m. (items_carry padding left m (laid_ranges m t)).carries in
    let more : Carries (λ s c. (onwards padding left t (united (item_at padding s c) l) s (item_step padding s c)).last) = carries_by (carries_item padding) (gives_united padding l) next in
    let test = gives_by_first (carries_item padding) (gives_united padding l) next (gives_item_next padding) in
    record {
      carries = carries_same (items_last_suc padding left l t) (carries_pick more (carries_end 0x14) test (gives_end_next 0x14));
      gives =
          gives_same (items_last_suc padding left l t) (items_rest_suc padding left l t)
          (gives_picked test (gives_end_next 0x14) (gives_by_next (carries_item padding) (gives_united padding l) next (λ m. (items_carry padding left m (laid_ranges m t)).gives))
          (gives_all (rest (knowing l t (suc left) (At 0 0)))));
    }

-- ---- a specialized knowledge

abbrev name_step : Bool → List ℕ → Reading → Reading
name_step padding s c = on_field (specialized_guid padding s c)

carries_name : (padding : Bool) → Carries (name_step padding)
unfolding specialized_guid
carries_name padding = carries_then (carries_start_of_length padding 0x10 0x44 true true 16) carries_guid

is_cell_free : (p q : ℕ) (g : Guid) → is_cell (guid'.At p g) ≡ is_cell (guid'.At q g)
unfolding is_cell
is_cell_free p q g = refl

gives_is_cell : (padding : Bool) → Gives (name_step padding) (λ s c. is_cell (specialized_guid padding s c))
unfolding specialized_guid
gives_is_cell padding = gives_next (carries_start_of_length padding 0x10 0x44 true true 16) carries_guid (gives_guid is_cell is_cell_free)

gives_name_next : (padding : Bool) → Gives (name_step padding) (λ s c. next_is s 0x44 c)
unfolding specialized_guid
gives_name_next padding = gives_first (carries_start_of_length padding 0x10 0x44 true true 16) carries_guid (gives_next_is_of_length padding 0x44 0x10 0x44 true true 16)

module _ (padding : Bool) (depth left : ℕ) (l : List Range) (t : List ℕ) where
  abbrev cell_items : List ℕ → Reading → Knowing
  cell_items s c = items_from padding left s l t (start_of_length padding s 0x44 0x14 true true 0 c)

  carries_cell_items : Carries (λ s c. (cell_items s c).last)
  carries_cell_items = carries_then (carries_start_of_length padding 0x44 0x14 true true 0) (items_carry padding left l t).carries

  gives_cell_items : Gives (λ s c. (cell_items s c).last) (λ s c. rest (cell_items s c))
  gives_cell_items = gives_next (carries_start_of_length padding 0x44 0x14 true true 0) (items_carry padding left l t).carries (items_carry padding left l t).gives

  -- behind its name: a cell knowledge or another
  abbrev body_step : Bool → List ℕ → Reading → Reading
  body_step cell s c = pick cell (end_here s 0x44 (cell_items s c).last) (inside padding s depth 0x44 c)

  abbrev body_rest : Bool → List ℕ → Reading → Knowing
  body_rest cell s c = pick cell (rest (cell_items s c)) (knowing l t left (At 0 0))

  carries_body : (cell : Bool) → Carries (body_step cell)
  carries_body true = carries_then carries_cell_items (carries_end 0x44)
  carries_body false = carries_inside padding depth 0x44

  gives_body : (cell : Bool) → Gives (body_step cell) (body_rest cell)
  gives_body true = gives_first carries_cell_items (carries_end 0x44) gives_cell_items
  gives_body false = gives_all (knowing l t left (At 0 0))

  abbrev special : List ℕ → Reading → Knowing
  special s c = specialized_from padding depth s (knowing l t left c)

  special_last : (s : List ℕ) (c : Reading) → (special s c).last ≡ body_step (is_cell (specialized_guid padding s c)) s (name_step padding s c)
  unfolding specialized_from cell_from
  special_last s c = by_bool (is_cell (specialized_guid padding s c)) (λ e. rw e) (λ e. rw e)

  special_rest : (s : List ℕ) (c : Reading) → rest (special s c) ≡ body_rest (is_cell (specialized_guid padding s c)) s (name_step padding s c)
  unfolding specialized_from cell_from
  special_rest s c = by_bool (is_cell (specialized_guid padding s c)) (λ e. rw e) (λ e. rw e)

  carries_special : Carries (λ s c. (special s c).last)
  carries_special = carries_same special_last (carries_by (carries_name padding) (gives_is_cell padding) carries_body)

  gives_special : Gives (λ s c. (special s c).last) (λ s c. rest (special s c))
  gives_special = gives_same special_last special_rest (gives_by_next (carries_name padding) (gives_is_cell padding) carries_body gives_body)

  gives_special_next : Gives (λ s c. (special s c).last) (λ s c. next_is s 0x44 c)
  gives_special_next = gives_same special_last (λ s c. refl) (gives_by_first (carries_name padding) (gives_is_cell padding) carries_body (gives_name_next padding))

-- ---- the turns

knowing_is : (k m : Knowing) (c : Reading) → k.last ≡ c → rest k ≡ rest m → k ≡ standing c m
knowing_is k m c g h = ap (λ (r : Knowing). standing k.last r) h ∙ ap (λ (d : Reading). standing d m) g

-- what the turns from k on took, from p on
record TookTurns (padding : Bool) (depth : ℕ) (s : List ℕ) (k : Knowing) (p u q v : ℕ) : Type 0 where
  size : ℕ
  past : q ≡ p + size
  there : (w : List ℕ) (p' : ℕ) → Same s p w p' size → knowledge_from padding depth w (standing (At p' u) k) ≡ standing (At (p' + size) v) (knowledge_from padding depth s k)

abbrev last_of : Knowing → Reading
last_of k = k.last

-- after a fault nothing is read
turns_fault : (padding : Bool) (depth : ℕ) (s : List ℕ) (k : Knowing) (r : Refusal) → k.last ≡ Refused r → (knowledge_from padding depth s k).last ≡ Refused r
unfolding next_is
turns_fault padding depth s k r h =
    let e : next_is s 0x44 k.last ≡ false = ap (next_is s 0x44) h in
    ap last_of (knowledge_end_lem padding depth s k e) ∙ ap (end_here s 0x10) h ∙ (carries_end 0x10).fault s r

module _ (padding : Bool) (depth : ℕ) (s : List ℕ) (k : Knowing) (p u q v : ℕ) (here : k.last ≡ At p u) (read : (knowledge_from padding depth s k).last ≡ At q v) where
  turns_end : next_is s 0x44 k.last ≡ false → TookTurns padding depth s k p u q v
  turns_end e =
      let x : end_here s 0x10 (At p u) ≡ At q v = sym (ap (end_here s 0x10) here) ∙ sym (ap last_of (knowledge_end_lem padding depth s k e)) ∙ read in
      let j = (carries_end 0x10).took s p u q v x in
      let y : end_here s 0x10 (At p u) ≡ At (p + j.size) v = x ∙ ap (λ (n : ℕ). At n v) j.past in
      let b : next_is s 0x44 (At p u) ≡ false = ap (next_is s 0x44) (sym here) ∙ e in
      record {
        size = j.size;
        past = j.past;
        there =
            λ w p' a.
            let f : next_is w 0x44 (At p' u) ≡ false = (gives_next_is_end 0x44 0x10).alike s p u j.size v y w p' a ∙ b in
            knowledge_end_lem padding depth w (standing (At p' u) k) f ∙ ap (λ (d : Reading). standing d k) (j.there w p' a)
            ∙ sym (ap (standing (At (p' + j.size) v)) (knowledge_end_lem padding depth s k e));
      }

  turns_more_at : next_is s 0x44 k.last ≡ true → (i x : ℕ) → (specialized_from padding depth s k).last ≡ At i x
      → TookTurns padding depth s (specialized_from padding depth s k) i x q v → TookTurns padding depth s k p u q v
  turns_more_at e i x g h =
      let l = k.ranges in
      let t = k.table in
      let n = k.left in
      let m = specialized_from padding depth s k in
      let c : specialized_from padding depth s (knowing l t n (At p u)) ≡ m = ap (λ (d : Reading). specialized_from padding depth s (knowing l t n d)) (sym here) in
      let o : (special padding depth n l t s (At p u)).last ≡ At i x = ap last_of c ∙ g in
      let j = (carries_special padding depth n l t).took s p u i x o in
      let y : (special padding depth n l t s (At p u)).last ≡ At (p + j.size) x = o ∙ ap (λ (a : ℕ). At a x) j.past in
      let b : next_is s 0x44 (At p u) ≡ true = ap (next_is s 0x44) (sym here) ∙ e in
      record {
        size = j.size + h.size;
        past = h.past ∙ ap (λ (a : ℕ). a + h.size) j.past ∙ omega arith;
        there =
            λ w p' a.
            let front = same_less s p w p' (j.size + h.size) j.size (omega arith) a in
            let behind : Same s i w (p' + j.size) h.size =
            subst (λ (z : ℕ). Same s z w (p' + j.size) h.size) (sym j.past) (same_on s p w p' j.size h.size a) in
            let f : next_is w 0x44 (At p' u) ≡ true = (gives_special_next padding depth n l t).alike s p u j.size x y w p' front ∙ b in
            let r : rest (specialized_from padding depth w (standing (At p' u) k)) ≡ rest m = (gives_special padding depth n l t).alike s p u j.size x y w p' front ∙ ap rest c in
            let z : specialized_from padding depth w (standing (At p' u) k) ≡ standing (At (p' + j.size) x) m =
            knowing_is (specialized_from padding depth w (standing (At p' u) k)) m (At (p' + j.size) x) (j.there w p' front) r in
            knowledge_more padding depth w (standing (At p' u) k) f ∙ ap (knowledge_from padding depth w) z ∙ h.there w (p' + j.size) behind
            ∙ ap (λ (d : ℕ). standing (At d v) (knowledge_from padding depth s m)) (omega arith)
            ∙ sym (ap (standing (At (p' + (j.size + h.size)) v)) (knowledge_more padding depth s k e));
      }

-- each turn leaves the rest to the next
turns_on : (padding : Bool) (depth : ℕ) (s : List ℕ) (k : Knowing) (p u q v : ℕ) → k.last ≡ At p u → (knowledge_from padding depth s k).last ≡ At q v → next_is s 0x44 k.last ≡ true
    → (c : Reading) → (specialized_from padding depth s k).last ≡ c
    → ((i x : ℕ) → (specialized_from padding depth s k).last ≡ At i x → (knowledge_from padding depth s (specialized_from padding depth s k)).last ≡ At q v
    → TookTurns padding depth s (specialized_from padding depth s k) i x q v) → TookTurns padding depth s k p u q v
turns_on padding depth s k p u q v here read e (At i x) g h =
    turns_more_at padding depth s k p u q v here read e i x g (h i x g (sym (ap last_of (knowledge_more padding depth s k e)) ∙ read))
turns_on padding depth s k p u q v here read e (Refused r) g h =
    let z : Refused r ≡ At q v = sym (turns_fault padding depth s (specialized_from padding depth s k) r g) ∙ sym (ap last_of (knowledge_more padding depth s k e)) ∙ read in
    impossible (cc)

turns_took : (padding : Bool) (depth : ℕ) (s : List ℕ) (k : Knowing) (p u q v : ℕ) → k.last ≡ At p u → (knowledge_from padding depth s k).last ≡ At q v → TookTurns padding depth s k p u q v
turns_took padding depth s =
    iterate_ind (λ m. knowledge_turn padding depth s m) (λ m. to_go s m.last) unreached (knowledge_falls padding depth s)
    (λ (k : Knowing). (p u q v : ℕ) → k.last ≡ At p u → (knowledge_from padding depth s k).last ≡ At q v → TookTurns padding depth s k p u q v)
    (λ k h p u q v here read.
    by_bool (next_is s 0x44 k.last)
    (λ e.
    turns_on padding depth s k p u q v here read e (specialized_from padding depth s k).last refl
    (λ i x g f. h (specialized_from padding depth s k) (turn_more padding depth s k e) i x q v g f))
    (λ e. turns_end padding depth s k p u q v here read e))

-- ---- the whole

module _ (padding : Bool) (depth left : ℕ) (l : List Range) (t : List ℕ) where
  abbrev turns : List ℕ → Reading → Knowing
  turns s c = knowledge_from padding depth s (knowing l t left c)

  turns_carried : (s : List ℕ) (p u q v : ℕ) → (turns s (At p u)).last ≡ At q v → Took (λ w c. (turns w c).last) s p u q v
  turns_carried s p u q v e =
      let k = turns_took padding depth s (knowing l t left (At p u)) p u q v refl e in
      record { size = k.size; past = k.past; there = λ w p' a. ap last_of (k.there w p' a) }

  carries_turns : Carries (λ s c. (turns s c).last)
  carries_turns = record { fault = λ s r. turns_fault padding depth s (knowing l t left (Refused r)) r refl; took = turns_carried }

  gives_turns : Gives (λ s c. (turns s c).last) (λ s c. rest (turns s c))
  gives_turns =
      record {
        alike =
            λ s p u n v e w p' a.
            let k = turns_took padding depth s (knowing l t left (At p u)) p u (p + n) v refl e in
            let z : n ≡ k.size = let y = k.past in omega arith in
            ap rest (k.there w p' (rw z at a));
      }

module _ (padding : Bool) (allowed depth outer : ℕ) (t : List ℕ) where
  pub carries_knowledge : Carries (λ s c. (knowledge_at padding allowed depth outer s t c).last)
  unfolding knowledge_at
  carries_knowledge = carries_then (carries_start_of_length padding outer 0x10 true true 0) (carries_turns padding depth allowed [] t)

  gives_knowledge_rest : Gives (λ s c. (knowledge_at padding allowed depth outer s t c).last) (λ s c. rest (knowledge_at padding allowed depth outer s t c))
  unfolding knowledge_at
  gives_knowledge_rest = gives_next (carries_start_of_length padding outer 0x10 true true 0) (carries_turns padding depth allowed [] t) (gives_turns padding depth allowed [] t)

  pub gives_knowledge : Gives (λ s c. (knowledge_at padding allowed depth outer s t c).last) (λ s c. (knowledge_at padding allowed depth outer s t c).ranges)
  gives_knowledge = gives_by (λ (k : Knowing). k.ranges) gives_knowledge_rest

-- set down anywhere and followed by anything, over any table
pub knowledge_carry : (padding : Bool) (allowed depth outer : ℕ) (s t t' : List ℕ) (p u q v : ℕ) → (knowledge_at padding allowed depth outer s t (At p u)).last ≡ At q v → (w : List ℕ) (p' : ℕ)
    → take (q - p) (drop p' w) ≡ take (q - p) (drop p s) → p' + (q - p) ≤ length w
    → ((knowledge_at padding allowed depth outer w t' (At p' u)).last ≡ At (p' + (q - p)) v)
    × ((knowledge_at padding allowed depth outer w t' (At p' u)).ranges ≡ (knowledge_at padding allowed depth outer s t (At p u)).ranges)
knowledge_carry padding allowed depth outer s t t' p u q v e w p' h l =
    let f = carries_knowledge padding allowed depth outer t in
    let d = carries_span f s p u q v e in
    let a = same_of s p w p' (q - p) h l in
    let k = table_free padding allowed depth outer w t' t (At p' u) in
    (k.last ∙ carries_to f s p u (q - p) v d w p' a, k.ranges ∙ (gives_knowledge padding allowed depth outer t).alike s p u (q - p) v d w p' a)
