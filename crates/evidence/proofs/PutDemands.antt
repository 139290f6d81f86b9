-- Demands 1 and 2 for puts (document 02, Q-1: "Demand 2 covers puts"), of the calls exported to C, whatever they are handed and lent. A
-- reader needs the records, whose lines are the sentences of the documents, and the statements of `demand_one_hub_put`,
-- `demand_one_hub_put_numbers`, `demand_one_hub_ask_put`, `demand_one_hub_read_put`, `demand_one_good_put`, `good_put_expects`,
-- `demand_two_hub_put` and `put_of_nothing`. The words are defined in specs/Puts.antt and specs/PutResults.antt. What stands behind a `=`
-- can be skipped.
-- Assumes nothing.
use mathlib.Core.Path.{◌≡◌, refl, ap, ◌∙◌}
use mathlib.Core.Bool.{true, false}
use mathlib.Core.List.{List, [], ◌∷◌, map, append-nil, Memᴰ as In}
use mathlib.Core.Logic.{◌⊎◌, inl, inr, ⊎_elim}
use Prim.Native.Nat.{ℕ, ◌^◌, ◌≤◌, ◌<◌}
use native.Mathlib.Omega.{arith}
use lib.ListN.{length}
use borrow.Author.Tests.{eq-eqb, ne_eqb}
use Rattle.laws.specs.Bytes.{AllBytes}
use Rattle.laws.specs.Once.{once}
use Rattle.laws.proofs.Cases.{by_eq, impossible}
use Rattle.numbers.specs.ExtendedGuid.{ExtendedGuidFits}
use Rattle.numbers.specs.Results.ExtendedGuid.{ExtendedGuid}
use Rattle.numbers.specs.Guid.{GuidFits}
use Rattle.numbers.specs.Refusals.{longest_input}
use Rattle.numbers.specs.declared.guid.Guid.{Guid}
use Rattle.objects.specs.Results.Reading.{Reading}
use Rattle.objects.specs.Results.Reading as reading
use Rattle.store.specs.Element.{same_key}
use Rattle.store.specs.Held.{storage_index}
use Rattle.store.specs.Store.{store_walk, Stands}
use Rattle.store.specs.Tables.{most_elements}
use Rattle.store.specs.declared.element.Key.{Key}
use Rattle.store.specs.declared.element.Element.{Element}
use Rattle.store.proofs.Contents.{OwnBytes}
use Rattle.pages.specs.Choice.{knows_key}
use Rattle.puts.specs.Applied.{entered, put_outcome, last_number}
use Rattle.enter.specs.Entering.{Kept, replaced_by, new_to, enter}
use Rattle.puts.specs.Put.{put_front, put_walk, put_read, put_in}
use Rattle.puts.specs.Results.Put as handed
use Rattle.puts.specs.NewStore.{entering_from, first_number, new_elements, staying}
use Rattle.client.specs.Back.{PutBack}
use Rattle.client.specs.PutWritten.{put_bytes}
use Rattle.client.proofs.PutRead.{put_read_lem}
use Rattle.hub.specs.BenchPut.{expected_of, put_asked, HubAsksPut, HubReadsPut}
use Rattle.hub.specs.Put.{guid_of, HubPuts}
use Rattle.evidence.specs.PutResults.{PutGiven, PutSent, PutAnswerRead, IndexFits, WhyAskPut, WhyReadPut}
use Rattle.evidence.specs.Puts.{handed_by, is_named, elements_behind, store_behind, answer_to, put_ranges_in, ReadAsPutAnswer, StaysIn, EnterFrom, knows_store, has_entered, PutFault, BothRead, Expects, last_given, WhyPut}
use Rattle.evidence.specs.Refusing.{Fault, IfAndOnlyIf}
use Rattle.evidence.specs.Talk.{KeyFits, serial_of, elements_of}
use Rattle.evidence.proofs.DemandOne.{ExportKeeps}
use Rattle.evidence.proofs.PutNumbers.{why_told, put_numbers}
use Rattle.evidence.proofs.PutResults.{hub_put_comes, hub_ask_put_comes, hub_read_put_comes, put_written, put_done}
use Rattle.evidence.proofs.Results.{export_kept}
use Rattle.evidence.proofs.StoreBehind as behind

-- ---- demand 1: "Every store, request, table and buffer handed in, damaged or hostile, gets its result or one of the numbered refusals ..,
-- with the place of the fault. .. A refusal leaves output and tables untouched." In the words of DemandOne (`ExportKeeps`), of the three calls

-- a put q on the store s under the hub's GUID: both buffers, of the new store and of the answer, are left as they were by a refusal
abbrev pub HubPutKeeps : List ℕ → List ℕ → ℕ → ℕ → ℕ → List ℕ → List ℕ → List ℕ → List ℕ → List ℕ → List ℕ → Type 0
HubPutKeeps s q low high number new new' out out' report report' =
    ExportKeeps (PutFault (s ∷ q ∷ [])) (PutGiven s q (guid_of low high) new new' out out' report report')
    (WhyPut s q (guid_of low high) (length new) (length out)) ((new' ≡ new) × (out' ≡ out)) number report report'

pub demand_one_hub_put : (s q : List ℕ) (low high number : ℕ) (new new' out out' report report' : List ℕ)
    → HubPuts s q low high number new new' out out' report report' → HubPutKeeps s q low high number new new' out out' report report'
demand_one_hub_put s q low high number new new' out out' report report' h =
    let k = export_kept _ _ _ _ number report report' (hub_put_comes s q low high number new new' out out' report report' h) in
    record { gets = k.0; given = k.1; untouched = k.2 }

-- the numbers that have an "if and only if" of their own: each test behind those before it
pub record PutNumbersExactly (s q : List ℕ) (g : Guid) (storeRoom room number : ℕ) : Type 0 where
  -- "15 another storage index"
  pub fifteen : IfAndOnlyIf (number ≡ 15) (BothRead s q × (Expects s q → ⊥))
  -- "16 no serial number left"
  pub sixteen : IfAndOnlyIf (number ≡ 16) (BothRead s q × Expects s q × (last_number < last_given s q g))
  -- "9, 1 for the new store", where both inputs are read
  pub nine : BothRead s q → IfAndOnlyIf (number ≡ 9) (Expects s q × (last_given s q g ≤ last_number) × (most_elements < length (elements_behind s q g)))
  pub one : BothRead s q
      → IfAndOnlyIf (number ≡ 1)
      (Expects s q × (last_given s q g ≤ last_number) × (length (elements_behind s q g) ≤ most_elements) × (longest_input < length (store_behind s q g)))
  -- "14 for its buffer, 14 for the output"
  pub fourteen : IfAndOnlyIf (number ≡ 14)
      (BothRead s q × Expects s q × (last_given s q g ≤ last_number) × (length (elements_behind s q g) ≤ most_elements) × (length (store_behind s q g) ≤ longest_input)
      × ((storeRoom < length (store_behind s q g)) ⊎ (room < length (answer_to s q g))))

pub demand_one_hub_put_numbers : (s q : List ℕ) (low high number : ℕ) (new new' out out' report report' : List ℕ)
    → HubPuts s q low high number new new' out out' report report' → PutNumbersExactly s q (guid_of low high) (length new) (length out) number
demand_one_hub_put_numbers s q low high number new new' out out' report report' h =
    let k = put_numbers s q (guid_of low high) (length new) (length out) number (why_told s q low high number new new' out out' report report' h) in
    record { fifteen = k.0; sixteen = k.1; nine = k.2; one = k.3; fourteen = k.4 }

-- a put of the elements e, written
abbrev pub HubAskPutKeeps : ℕ → ℕ → ℕ → ℕ → ℕ → List ℕ → ℕ → List ℕ → List ℕ → List ℕ → List ℕ → Type 0
HubAskPutKeeps id named low high number e returned out out' report report' =
    ExportKeeps (Fault (e ∷ [])) (PutSent id named low high number e out out' report report') (WhyAskPut id named low high number e (length out)) (out' ≡ out)
    returned report report'

pub demand_one_hub_ask_put : (id named low high number : ℕ) (e : List ℕ) (returned : ℕ) (out out' report report' : List ℕ)
    → HubAsksPut id named low high number e returned out out' report report' → HubAskPutKeeps id named low high number e returned out out' report report'
demand_one_hub_ask_put id named low high number e returned out out' report report' h =
    let k = export_kept _ _ _ _ returned report report' (hub_ask_put_comes id named low high number e returned out out' report report' h) in
    record { gets = k.0; given = k.1; untouched = k.2 }

-- the answer w to a put, read; this call is lent no output
abbrev pub HubReadPutKeeps : List ℕ → ℕ → List ℕ → List ℕ → Type 0
HubReadPutKeeps w number report report' = ExportKeeps (Fault (w ∷ [])) (PutAnswerRead w report report') (WhyReadPut w) (Unit {0}) number report report'

pub demand_one_hub_read_put : (w : List ℕ) (number : ℕ) (report report' : List ℕ) → HubReadsPut w number report report' → HubReadPutKeeps w number report report'
demand_one_hub_read_put w number report report' h =
    let k = export_kept _ _ _ _ number report report' (hub_read_put_comes w number report report' h) in
    record { gets = k.0; given = k.1; untouched = k.2 }

-- a put that is written, the bytes of `PutSent`, is read by the hub, and as exactly what was handed in
index_fits : (named low high number : ℕ) → low < 2 ^ 64 → high < 2 ^ 64 → IndexFits named number → ExtendedGuidFits (expected_of named low high number)
unfolding expected_of
index_fits named low high number a b (inl z) = rw (eq-eqb named 0 z) tt
index_fits named low high number a b (inr l) = by_eq named 0 (λ z. rw (eq-eqb named 0 z) tt) (λ n. rw (ne_eqb named 0 n) ((a, b), omega arith))

pub demand_one_good_put : (id named low high number : ℕ) (e out out' report report' : List ℕ) → id < 2 ^ 64 → low < 2 ^ 64 → high < 2 ^ 64
    → HubAsksPut id named low high number e 0 out out' report report'
    → PutBack id (expected_of named low high number) e (put_bytes id (expected_of named low high number) e)
demand_one_good_put id named low high number e out out' report report' a b c h =
    let w = put_written id named low high number e (length out) (put_asked id named low high number e (length out)) refl h.0 in
    let d = put_done id named low high number e (length out) w.0 w.1 in
    put_read_lem id (expected_of named low high number) e d.place d.value a (index_fits named low high number b c d.fits) d.judged d.short

-- and one that is written with the storage index of a store, as the answer to a query tells it, does not meet 15 there
read_expected : (c : Reading) (i m : ℕ) (y : ExtendedGuid) (id n : ℕ) (x : ExtendedGuid) → put_read c i y m ≡ handed.Handed id x n → y ≡ x
unfolding put_read
read_expected (reading.At p v) i m y id n x h = grind arith
read_expected (reading.Refused r) i m y id n x h = impossible (cc)

pub good_put_expects : (id named low high number : ℕ) (e out out' report report' s : List ℕ) → id < 2 ^ 64 → low < 2 ^ 64 → high < 2 ^ 64
    → HubAsksPut id named low high number e 0 out out' report report' → expected_of named low high number ≡ storage_index (elements_of s)
    → Expects s (put_bytes id (expected_of named low high number) e)
unfolding put_in
good_put_expects id named low high number e out out' report report' s a b c h i =
    let w = put_bytes id (expected_of named low high number) e in
    let back = demand_one_good_put id named low high number e out out' report report' a b c h in
    read_expected (put_walk w).last _ _ (put_front w).expected id _ (expected_of named low high number) back.answer ∙ i

-- ---- demand 2: the put q on the store s is answered with a, and w is the new store

pub record PutDemandTwo (s q : List ℕ) (g : Guid) (a w : List ℕ) : Type 0 where
  -- both were read
  pub both_read : BothRead s q
  -- "A put names the storage index it expects. If that is the store's first type 1 element (null: it has none), its elements enter"
  pub expects : Expects s q
  -- the new store is a store
  pub reads : Stands (store_walk w).last
  -- "an id already held is replaced, new ones follow at the end": its elements, in order, are exactly those of the definition
  pub elements : map (staying w) (elements_of w) ≡ elements_behind s q g
  -- "and the room of replaced ones is used again": its bytes are those elements in a package, and nothing else
  pub written : w ≡ store_behind s q g
  -- what the put does not name stays, byte for byte
  pub stay : (x : Element) → In x (elements_of s) → is_named q x.id ≡ false → StaysIn s w x
  -- "Each gets a new serial number, in order: one above the highest in the store under the hub's GUID .. (1 if there is none)"; "An element
  -- that enters keeps its other bytes, behind the shortest header"
  pub enter : EnterFrom q w g (first_number g (elements_of s)) (handed_by q)
  -- these are the bytes that it came with, but for header and serial number: its id and type came as they are written
  pub own_bytes_lem : (x : Element) → In x (handed_by q) → OwnBytes q x
  -- and nothing else is in it
  pub no_other : (y : Element) → In y (elements_of w) → (is_named q y.id ≡ true) ⊎ ((x : Element) × In x (elements_of s) × (x.id ≡ y.id))
  -- what entered has a number above the highest in the store, and nothing else in the new store has
  pub above : (y : Element) → In y (elements_of w) → has_entered s g y ≡ is_named q y.id
  -- no serial number is given that an element of the store had, and none twice: what entered shares its own with no other element of the new
  -- store, so that it is a group by itself (Q-3), also where others of the store share theirs
  pub serials_new : (x y : Element) → In x (elements_of s) → In y (elements_of w) → is_named q y.id ≡ true → x.serial ≡ y.serial → ⊥
  pub serials_own : (x y : Element) → In x (elements_of w) → In y (elements_of w) → is_named q y.id ≡ true → x.serial ≡ y.serial → x ≡ y
  -- and where none stood twice in the store, none does in the new one
  pub serials_once : once same_key (map serial_of (elements_of s)) ≡ true → once same_key (map serial_of (elements_of w)) ≡ true
  -- "The answer is document 01's with no elements, type 5 and, from 0x5F on, only the knowledge of every serial now stored": its bytes are
  -- those of the definition
  pub answer : a ≡ answer_to s q g
  -- a bench reads them with no refusal, as the put's id and that knowledge
  pub read : ReadAsPutAnswer s q g a
  -- and the ranges that it reads are exactly the set of these serial numbers
  pub knows : (k : Key) → KeyFits k → knows_key (put_ranges_in a) k ≡ knows_store w k

pub put_demand_two : (s q : List ℕ) (g : Guid) → AllBytes s → AllBytes q → GuidFits g → (storeRoom room : ℕ) (a w : List ℕ)
    → put_outcome s q g storeRoom room ≡ entered a w → PutDemandTwo s q g a w
put_demand_two s q g b c f storeRoom room a w h =
    let after = behind.after s q g storeRoom room a w b c f h in
    record {
      both_read = behind.reads s q g storeRoom room a w b c f h;
      expects = behind.expects s q g storeRoom room a w b c f h;
      reads = after.reads;
      elements = after.elements;
      written = behind.written s q g storeRoom room a w b c f h;
      stay = behind.stay s q g storeRoom room a w b c f h;
      enter = behind.enter_in_order s q g storeRoom room a w b c f h;
      own_bytes_lem = behind.own s q g storeRoom room a w b c f h;
      no_other = behind.no_other s q g storeRoom room a w b c f h;
      above = behind.entered_named s q g storeRoom room a w b c f h;
      serials_new = behind.named_new s q g storeRoom room a w b c f h;
      serials_own = behind.named_own s q g storeRoom room a w b c f h;
      serials_once = behind.once_still s q g storeRoom room a w b c f h;
      answer = after.answers;
      read = behind.read_back s q g storeRoom room a w b c f h;
      knows = behind.told s q g storeRoom room a w b c f h;
    }

-- so it is where hub_put returns 0: both buffers have it
pub record PutDelivers (s q : List ℕ) (g : Guid) (new new' out out' report report' : List ℕ) : Type 0 where
  pub given : PutGiven s q g new new' out out' report report'
  pub holds : PutDemandTwo s q g given.answer given.store

pub demand_two_hub_put : (s q : List ℕ) (low high : ℕ) (new new' out out' report report' : List ℕ) → AllBytes s → AllBytes q → low < 2 ^ 64 → high < 2 ^ 64
    → HubPuts s q low high 0 new new' out out' report report' → PutDelivers s q (guid_of low high) new new' out out' report report'
demand_two_hub_put s q low high new new' out out' report report' b c d e h =
    ⊎_elim
    (λ t.
    let p = t.1 in
    record { given = p; holds = put_demand_two s q (guid_of low high) b c (d, e) (length new) (length out) p.answer p.store p.enters })
    (λ x. let l = x.fault.least in let i = x.number_is in absurd (omega arith))
    (demand_one_hub_put s q low high 0 new new' out out' report report' h).gets

-- ---- a put of nothing

none_replaced : (l : List Kept) → map (replaced_by []) l ≡ l
unfolding replaced_by
none_replaced [] = refl
none_replaced (x ∷ l) = ap (λ (t : List Kept). x ∷ t) (none_replaced l)

none_enter : (s q : List ℕ) (all : List Element) (g : Guid) (handed : List Element) → handed ≡ [] → new_elements s all q handed g ≡ map (staying s) all
unfolding new_elements entering_from enter new_to
none_enter s q all g handed e = rw (e, append-nil) (none_replaced (map (staying s) all))

-- it changes no element: ids, serial numbers and bytes are those of the store, in order
pub put_of_nothing : (s q : List ℕ) (g : Guid) (a w : List ℕ) → PutDemandTwo s q g a w → handed_by q ≡ [] → map (staying w) (elements_of w) ≡ map (staying s) (elements_of s)
put_of_nothing s q g a w two e = two.elements ∙ none_enter s q (elements_of s) g (handed_by q) e
