-- Puts, over bytes (document 02, Q-1): what is said of a put q on the store s, with the hub's GUID g, by which the store w comes to be.
-- First what demand 2 speaks of, then who has entered, for the bench behind a put, then why a put is refused.
-- Assumes nothing.
use Rattle.std.specs.Prelude.{◌≡◌, Bool, true, false, ℕ, suc, ◌+◌, ◌≤◌, ◌<◌, length, get_or, ltb}
use mathlib.Core.List.{List, [], ◌∷◌, map, Memᴰ as In}
use Rattle.laws.specs.Once.{seen}
use Rattle.laws.specs.Pick.{pick}
use Rattle.numbers.specs.Refusals.{fault_at, too_short, longest_input, refusal_number}
use Rattle.numbers.specs.declared.guid.Guid.{Guid}
use Rattle.numbers.specs.declared.refusal.Refusal.{Refusal}
use Rattle.objects.specs.Steps.{value_of}
use Rattle.objects.specs.Results.Reading.{Refused}
use Rattle.talk.specs.declared.range.Range.{Range}
use Rattle.store.specs.Element.{key_of, same_key}
use Rattle.store.specs.Held.{storage_index, stored_bytes}
use Rattle.store.specs.Store.{store_walk, Stands}
use Rattle.store.specs.Tables.{most_elements}
use Rattle.store.specs.Written.{written_element, content_in}
use Rattle.store.specs.declared.element.Element.{Element}
use Rattle.store.specs.declared.element.Key.{Key}
use Rattle.request.specs.Message.{put_changes_request, identified, in_request}
use Rattle.pages.specs.Choice.{knows_key}
use Rattle.puts.specs.Applied.{put_answer_bytes, last_number}
use Rattle.puts.specs.Entering.{Kept}
use Rattle.puts.specs.NewStore.{under_guid, highest_under, new_elements, new_store, ranges_of}
use Rattle.puts.specs.Put.{put_front, put_walk}
use Rattle.client.specs.Back.{PutAnswerBack}
use Rattle.client.specs.Read.{knowledge_in, package_end}
use Rattle.client.specs.ReadPut.{put_known}
use Rattle.evidence.specs.Talk.{KeyFits, serial_of, elements_of}

-- ---- what a put brings, and what is there afterwards

-- "its elements": those that are handed in
abbrev pub handed_by : List ℕ → List Element
handed_by q = (put_walk q).elements

-- an id that the put has
abbrev pub is_named : List ℕ → Key → Bool
is_named q k = seen same_key k (map (λ (x : Element). x.id) (handed_by q))

-- "an id already held is replaced, new ones follow at the end": the elements of the new store, with ids, serial numbers and bytes
abbrev pub elements_behind : List ℕ → List ℕ → Guid → List Kept
elements_behind s q g = new_elements s (elements_of s) q (handed_by q) g

-- its bytes
abbrev pub store_behind : List ℕ → List ℕ → Guid → List ℕ
store_behind s q g = new_store (elements_behind s q g)

-- "The answer is document 01's with no elements, type 5 and, from 0x5F on, only the knowledge of every serial now stored."
abbrev pub answer_to : List ℕ → List ℕ → Guid → List ℕ
answer_to s q g = put_answer_bytes (value_of (identified put_changes_request q)) (ranges_of [] (elements_behind s q g))

-- what a bench reads in the answer to a put: the ranges of its knowledge
abbrev pub put_ranges_in : List ℕ → List Range
put_ranges_in a = (knowledge_in a (put_known a (package_end a))).ranges

-- a is read with no refusal, as the answer to the put q: as its id, and the knowledge of every serial number now stored
abbrev pub ReadAsPutAnswer : List ℕ → List ℕ → Guid → List ℕ → Type 0
ReadAsPutAnswer s q g a = PutAnswerBack (value_of (identified put_changes_request q)) (ranges_of [] (elements_behind s q g)) a

-- a store has an element with this id, serial number and type, and with these bytes
pub record Has (w : List ℕ) (id serial : Key) (kind : ℕ) (bytes : List ℕ) : Type 0 where
  pub element : Element
  pub among : In element (elements_of w)
  pub id_is : element.id ≡ id
  pub serial_is : element.serial ≡ serial
  pub kind_is : element.kind ≡ kind
  pub bytes_are : stored_bytes w element ≡ bytes

-- an element of the store that is as it was, byte for byte
abbrev pub StaysIn : List ℕ → List ℕ → Element → Type 0
StaysIn s w x = Has w x.id x.serial x.kind (stored_bytes s x)

-- "An element that enters keeps its other bytes, behind the shortest header.": with this number under the hub's GUID
abbrev pub EntersAs : List ℕ → List ℕ → Guid → ℕ → Element → Type 0
EntersAs q w g number x = Has w x.id (key_of g number) x.kind (written_element (content_in q x (key_of g number)))

-- "Each gets a new serial number, in order": from this one on
abbrev pub EnterFrom : List ℕ → List ℕ → Guid → ℕ → List Element → Type 0
EnterFrom q w g number [] = Unit {0}
EnterFrom q w g number (x ∷ xs) = EntersAs q w g number x × EnterFrom q w g (suc number) xs

-- ---- the bench behind a put

-- exactly the serial numbers of the store's elements
abbrev pub knows_store : List ℕ → Key → Bool
knows_store s k = seen same_key k (map serial_of (elements_of s))

-- a serial number above "the highest in the store under the hub's GUID"
abbrev pub is_new : List ℕ → Guid → Key → Bool
is_new s g k = pick (under_guid g k) (ltb (highest_under g (elements_of s)) k.number) false

-- an element of the new store that has one: it has entered
abbrev pub has_entered : List ℕ → Guid → Element → Bool
has_entered s g x = is_new s g x.serial

-- "a bench that knew everything before the put": its ranges may have other serial numbers besides, as those of elements that were replaced
pub record KnewEverything (s : List ℕ) (g : Guid) (l : List Range) : Type 0 where
  -- every serial number of the store is known
  pub all_known : (x : Element) → In x (elements_of s) → knows_key l x.serial ≡ true
  -- and none that the hub has yet to give
  pub none_ahead : (k : Key) → KeyFits k → is_new s g k ≡ true → knows_key l k ≡ false

-- ---- what a refusal of a put tells

-- "one of the numbered refusals of document 01, with the place of the fault", and of Q-1's two: a number from 1 to 16, but not 13, since it is
-- about tables; one of the inputs, a place that lies within it, and a needed length for 14 alone
pub record PutFault (inputs : List (List ℕ)) (r : Refusal) : Type 0 where
  pub least : 1 ≤ refusal_number r
  pub most : refusal_number r ≤ 16
  pub no_table : refusal_number r ≡ 13 → ⊥
  pub input : r.input < length inputs
  pub place : r.place ≤ length (get_or inputs r.input [])
  pub needed : (refusal_number r ≡ 14 → ⊥) → r.needed ≡ 0

-- ---- why a put is refused: "after the request's faults come 15, 16, 9, 1 for the new store, 14 for its buffer, 14 for the output"

-- both inputs are read
abbrev pub BothRead : List ℕ → List ℕ → Type 0
BothRead s q = Stands (store_walk s).last × Stands (put_walk q).last

-- "A put names the storage index it expects. If that is the store's first type 1 element (null: it has none), its elements enter"
abbrev pub Expects : List ℕ → List ℕ → Type 0
Expects s q = (put_front q).expected ≡ storage_index (elements_of s)

-- how far the numbers go
abbrev pub last_given : List ℕ → List ℕ → Guid → ℕ
last_given s q g = highest_under g (elements_of s) + length (handed_by q)

-- a put q on the store s, lent a buffer for the new store and an output of so many bytes, refuses with r
pub data WhyPut (s q : List ℕ) (g : Guid) (storeRoom room : ℕ) (r : Refusal) : Type 0 where
  -- the first fault that reading the store meets
  store : (store_walk s).last ≡ Refused r → WhyPut s q g storeRoom room r
  -- the store is read, and this is the first fault that reading the put meets, which is the second input
  put : (x : Refusal) → Stands (store_walk s).last → (put_walk q).last ≡ Refused x → r ≡ in_request x → WhyPut s q g storeRoom room r
  -- "15 another storage index"
  another_index : BothRead s q → (Expects s q → ⊥) → r ≡ fault_at 15 0 → WhyPut s q g storeRoom room r
  -- "16 no serial number left"
  no_number : BothRead s q → Expects s q → last_number < last_given s q g → r ≡ fault_at 16 0 → WhyPut s q g storeRoom room r
  -- 9: over 256 elements
  too_many : BothRead s q → Expects s q → last_given s q g ≤ last_number → most_elements < length (elements_behind s q g) → r ≡ fault_at 9 0
      → WhyPut s q g storeRoom room r
  -- "1 for the new store"
  too_long : BothRead s q → Expects s q → last_given s q g ≤ last_number → length (elements_behind s q g) ≤ most_elements
      → longest_input < length (store_behind s q g) → r ≡ fault_at 1 0 → WhyPut s q g storeRoom room r
  -- "14 for its buffer", with the new store's length
  buffer_short : BothRead s q → Expects s q → last_given s q g ≤ last_number → length (elements_behind s q g) ≤ most_elements
      → length (store_behind s q g) ≤ longest_input → storeRoom < length (store_behind s q g) → r ≡ too_short (length (store_behind s q g))
      → WhyPut s q g storeRoom room r
  -- "14 for the output", with the answer's
  output_short : BothRead s q → Expects s q → last_given s q g ≤ last_number → length (elements_behind s q g) ≤ most_elements
      → length (store_behind s q g) ≤ longest_input → length (store_behind s q g) ≤ storeRoom → room < length (answer_to s q g)
      → r ≡ too_short (length (answer_to s q g)) → WhyPut s q g storeRoom room r
