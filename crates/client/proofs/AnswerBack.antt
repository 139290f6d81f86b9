-- An answer that is written reads back: one whose elements stand in a store is read with no refusal, as the same id, mark and storage
-- index, the same elements with the same bytes, and the same ranges.
-- Assumes nothing.
use mathlib.Core.Path.{◌≡◌, refl, sym, ap, subst, ◌∙◌}
use mathlib.Core.Bool.{Bool, true, false}
use mathlib.Core.List.{List, [], ◌∷◌, ◌++◌, append_assoc, map-append, append-nil}
use Prim.Native.Nat.{ℕ, zero, suc, ◌+◌, ◌-◌, ◌^◌, ◌≤◌, ◌<◌}
use native.Mathlib.Omega.{arith}
use lib.ListN.{length, drop, get_or, length-append}
use lib.Seq.{take_at, drop_at, take-append_seam}
use borrow.Author.Tests.{le-ltb}
use Rattle.laws.specs.Bytes.{bytes}
use Rattle.laws.specs.Once.{seen}
use Rattle.laws.proofs.Parts.{part_length}
use Rattle.numbers.specs.Compact.{compact_bytes}
use Rattle.numbers.specs.ExtendedGuid.{extended_guid_bytes, ExtendedGuidFits}
use Rattle.numbers.specs.Results.ExtendedGuid.{ExtendedGuid}
use Rattle.objects.specs.Header.{start_bytes, end_bytes}
use Rattle.objects.specs.Steps.{◌▹◌, nothing_open, place_of, value_of, valued, need, fixed_in, number, number_is, start_here, run_here, in_run, end_here, on_field}
use Rattle.objects.specs.Results.Reading.{At}
use Rattle.objects.specs.Results.ReadingId as id'
use Rattle.objects.proofs.Written.{Reads, behind, reads_then, reads_fixed, reads_number, reads_number_is, reads_skip, reads_run, id_written, finish_written}
use Rattle.objects.proofs.ObjectsWritten.{reads_start, reads_start_of_length, reads_end}
use Rattle.talk.specs.Each.{Each}
use Rattle.talk.specs.Ranges.{Normal, AllFit}
use Rattle.talk.specs.declared.range.Range.{Range}
use Rattle.store.specs.Knowledge.{most_said}
use Rattle.store.specs.Accessor.{element_in, bytes_at}
use Rattle.store.specs.Chain.{Follows, Fresh}
use Rattle.store.specs.Element.{same_key, ids_in, element_at}
use Rattle.store.specs.KnowledgeWritten.{knowledge_bytes}
use Rattle.store.specs.Store.{Walk, walked, package_start, store_strictness}
use Rattle.store.specs.Written.{package_front}
use Rattle.store.specs.Held.{stored_bytes, elements_bytes}
use Rattle.store.specs.declared.element.Element.{Element}
use Rattle.store.specs.Results.ReadElement.{Is}
use Rattle.store.proofs.Chains.{package_walked}
use Rattle.store.proofs.ElementWritten.{compact_most}
use Rattle.store.proofs.ElementCarry.{Wider, wider_same, element_carry}
use Rattle.store.proofs.Found.{found_none}
use Rattle.store.proofs.KnowledgeBack.{knowledge_back}
use Rattle.store.proofs.Taken.{element_some}
use Rattle.request.specs.Message.{versions, query_changes_request, id_in}
use Rattle.request.specs.Response.{version_bytes, answer_signature, response_bytes, sub_response_data, sub_response_bytes, ends_bytes, answer_front}
use Rattle.pages.specs.Tables.{answer_middle}
use Rattle.pages.specs.Written.{partial_byte, changes_data, changes_bytes, answer_bytes}
use Rattle.request.proofs.ResponseLengths.{length_front, length_back, length_sub_data}
use Rattle.pages.proofs.Lengths.{answer_parts, length_middle, extended_most, length_changes_data}
use Rattle.client.specs.Back.{StandsIn, placed_at, set_down, knowledge_place, ReadsBack}
use Rattle.client.specs.Read.{longest_answer, status_byte, response_fields, response_start, package_in, elements_start, sub_response_fields, sub_response, index_field, changes_fields, changes_start, changes, knowledge_in, ends_of, mark_at, knowledge_end, mark_of, received_from, rest_of, package_end, answer_end, answer_on, answer_in, answer_padding, answer_strictness}
use Rattle.client.specs.Accessor.{received_at, received_bytes}

-- ---- the elements, set down one behind the other

-- an element that stands in a store lies within it
stands_within : (s : List ℕ) (x : Element) → StandsIn s x → x.place + x.length ≤ length s
stands_within s x h = (element_some store_strictness h.0 s x.place 0 x h.1).2

stored_length_lem : (s : List ℕ) (x : Element) → StandsIn s x → length (stored_bytes s x) ≡ x.length
unfolding stored_bytes
stored_length_lem s x h = part_length x.place x.length s (stands_within s x h)

-- one id more, of the same element at two places
ids_more : (there done : List Element) (y x : Element) → ids_in there ≡ ids_in done → y.id ≡ x.id → ids_in (there ++ (y ∷ [])) ≡ ids_in (done ++ (x ∷ []))
ids_more there done y x e f = rw (map-append (λ (z : Element). z.id) there (y ∷ []), map-append (λ (z : Element). z.id) done (x ∷ []), e, f)

-- a bench takes the elements that a store may have
store_wider : Wider store_strictness answer_strictness
store_wider = wider_same store_strictness

-- one of them, where its bytes stand, beside the ids of those before it
set_here : (s : List ℕ) (x : Element) (there done : List Element) (pre rest w : List ℕ) (at : ℕ) → w ≡ pre ++ (stored_bytes s x ++ rest) → length pre ≡ at
    → StandsIn s x → ids_in there ≡ ids_in done → seen same_key x.id (ids_in done) ≡ false → element_at answer_strictness (ids_in there) w (At at 0) ≡ Is (placed_at at x)
unfolding stored_bytes
set_here s x there done pre rest w at e n h i f =
    rw (e, ← n)
    (element_carry store_strictness answer_strictness store_wider s x.place 0 0 h.0 (ids_in there) x h.1 pre rest (rw i f))

-- they are a chain
chain_set : (s : List ℕ) (page there done : List Element) (pre post w : List ℕ) (at : ℕ) → w ≡ pre ++ (elements_bytes s page ++ post) → length pre ≡ at
    → Each (StandsIn s) page → ids_in there ≡ ids_in done → Fresh (λ x. x.id) done page
    → Follows answer_strictness w there at (set_down at page) (at + length (elements_bytes s page))
unfolding elements_bytes set_down
chain_set s [] there done pre post w at e n h i f = omega arith
chain_set s (x ∷ xs) there done pre post w at e n h i f =
    let y = placed_at at x in
    let b = stored_bytes s x in
    let rest = elements_bytes s xs ++ post in
    let l = stored_length_lem s x h.0 in
    let a = length-append pre b in
    let d = length-append b (elements_bytes s xs) in
    let e' : w ≡ pre ++ (b ++ rest) = e ∙ ap (λ (v : List ℕ). pre ++ v) (append_assoc b (elements_bytes s xs) post) in
    let r : element_at answer_strictness (ids_in there) w (At at 0) ≡ Is y = set_here s x there done pre rest w at e' n h.0 i f.0 in
    let o = chain_set s xs (there ++ (y ∷ [])) (done ++ (x ∷ [])) (pre ++ b) post w (at + x.length) (e' ∙ sym (append_assoc pre b rest)) (omega arith) h.1
    (ids_more there done y x i refl) f.1 in
    let m : at + x.length + length (elements_bytes s xs) ≡ at + length (b ++ elements_bytes s xs) = omega arith in
    (r, subst (λ (k : ℕ). Follows answer_strictness w (there ++ (y ∷ [])) (at + x.length) (set_down (at + x.length) xs) k) m o)

pub length_set_down : (at : ℕ) (page : List Element) → length (set_down at page) ≡ length page
unfolding set_down
length_set_down at [] = refl
length_set_down at (x ∷ xs) = ap suc (length_set_down (at + x.length) xs)

-- and each has its own bytes
bytes_set : (s : List ℕ) (page : List Element) (pre post w : List ℕ) (at i : ℕ) (d : Element) → w ≡ pre ++ (elements_bytes s page ++ post) → length pre ≡ at
    → Each (StandsIn s) page → i < length page → bytes_at w (element_in (set_down at page) i) ≡ stored_bytes s (get_or page i d)
unfolding elements_bytes set_down element_in
bytes_set s [] pre post w at i d e n h l = absurd (omega arith)
bytes_set s (x ∷ xs) pre post w at zero d e n h l =
    let b = stored_bytes s x in
    let e' : w ≡ pre ++ (b ++ (elements_bytes s xs ++ post)) = e ∙ ap (λ (v : List ℕ). pre ++ v) (append_assoc b (elements_bytes s xs) post) in
    rw (e', drop_at pre (b ++ (elements_bytes s xs ++ post)) at n) (take_at b (elements_bytes s xs ++ post) x.length (stored_length_lem s x h.0))
bytes_set s (x ∷ xs) pre post w at (suc i) d e n h l =
    let b = stored_bytes s x in
    let rest = elements_bytes s xs ++ post in
    let k = stored_length_lem s x h.0 in
    let a = length-append pre b in
    let e' : w ≡ pre ++ (b ++ rest) = e ∙ ap (λ (v : List ℕ). pre ++ v) (append_assoc b (elements_bytes s xs) post) in
    bytes_set s xs (pre ++ b) post w (at + x.length) i d (e' ∙ sym (append_assoc pre b rest)) (omega arith) h.1 (omega arith)

-- ---- the parts around them

reads_status : (u : ℕ) → Reads status_byte u (0 ∷ []) 0
unfolding status_byte bytes place_of value_of need
reads_status u = record { here = λ s at t h. rw ((reads_fixed u 1 0 255 5 0 (omega arith) (omega arith) (omega arith)).here s at t h) }

-- up to the first element
reads_versions : Reads (λ s c. c ▹ fixed_in s 2 12 0xFFFF 7 ▹ fixed_in s 2 0 12 7 ▹ fixed_in s 8 answer_signature answer_signature 7) 0 (version_bytes answer_signature) answer_signature
unfolding version_bytes
reads_versions =
    reads_then (reads_fixed 0 2 12 0xFFFF 7 12 (omega arith) (omega arith) (omega arith))
    (reads_then (reads_fixed 12 2 0 12 7 11 (omega arith) (omega arith) (omega arith))
    (reads_fixed 11 8 answer_signature answer_signature 7 answer_signature (omega arith) (omega arith) (omega arith)))

response_whole : response_fields (0 ∷ []) ≡ At 1 0
unfolding response_fields
response_whole = (reads_status 0).here (0 ∷ []) 0 [] refl

reads_response : (u : ℕ) → Reads (λ s c. c ▹ start_here answer_padding s nothing_open 0x62 true true ▹ in_run s response_fields) u response_bytes 0
unfolding response_bytes
reads_response u =
    reads_then (reads_start answer_padding u nothing_open 0x62 true 1 (omega arith) (omega arith)) (reads_run response_fields (0 ∷ []) 0 response_whole)

reads_package_start : (u : ℕ) → Reads (package_start answer_padding 0x62) u package_front 0
unfolding package_start package_front
reads_package_start u = reads_then (reads_start_of_length answer_padding u 0x62 0x15 true 1 (omega arith) (omega arith)) (reads_skip 1 (0 ∷ []))

pub front_read : (w rest : List ℕ) → w ≡ answer_front ++ rest → elements_start w ≡ At 20 0
unfolding answer_front response_start versions
front_read w rest e =
    (reads_then reads_versions (reads_then (reads_response answer_signature) (reads_package_start 0))).here w 0 rest e
    ∙ ap (λ (n : ℕ). At n 0) (let f = length_front in omega arith)

-- the sub-response, of any type
module _ (kind id : ℕ) (k : kind < 2 ^ 64) (h : id < 2 ^ 64) where
  abbrev sub_data : List ℕ
  sub_data = sub_response_data kind id

  id_read_lem : number answer_padding sub_data (At 0 0) ≡ At (0 + length (compact_bytes id)) id
  unfolding sub_response_data
  id_read_lem = (reads_number answer_padding 0 id h).here sub_data 0 (compact_bytes kind ++ (0 ∷ [])) refl

  type_read : status_byte sub_data (number_is answer_padding sub_data kind 8 (At (0 + length (compact_bytes id)) id)) ≡ At (length sub_data) 0
  unfolding sub_response_data
  type_read =
      let b : drop (0 + length (compact_bytes id)) sub_data ≡ compact_bytes kind ++ (0 ∷ []) = behind sub_data 0 (compact_bytes id) (compact_bytes kind ++ (0 ∷ [])) refl in
      (reads_then (reads_number_is answer_padding id kind 8 k) (reads_status kind)).here sub_data (0 + length (compact_bytes id)) [] (b ∙ sym (append-nil _))
      ∙ ap (λ (n : ℕ). At n 0) (let a = length-append (compact_bytes id) (compact_bytes kind ++ (0 ∷ [])) in omega arith)

  sub_response_whole : sub_response_fields kind sub_data ≡ At (length sub_data) id
  unfolding sub_response_fields value_of valued
  sub_response_whole = rw (id_read_lem, type_read)

  sub_short : length sub_data < 2 ^ 64
  sub_short = let d = length_sub_data kind id in let m = compact_most id in let n = compact_most kind in omega arith

  pub reads_sub_response : (u : ℕ) → Reads (sub_response kind) u (sub_response_bytes kind id) id
  unfolding sub_response sub_response_bytes
  reads_sub_response u =
      reads_then (reads_start answer_padding u 0x62 0x41 true (length sub_data) (omega arith) sub_short) (reads_run (sub_response_fields kind) sub_data id sub_response_whole)

-- the storage index and the partial byte
one_byte : (partial : Bool) → bytes 1 (partial_byte partial) ≡ partial_byte partial ∷ []
unfolding bytes partial_byte
one_byte true = refl
one_byte false = refl

a_bit : (partial : Bool) → partial_byte partial ≤ 1
unfolding partial_byte
a_bit true = omega arith
a_bit false = omega arith

mark_back : (partial : Bool) → mark_of (partial_byte partial) ≡ partial
unfolding partial_byte
mark_back true = refl
mark_back false = refl

module _ (index : ExtendedGuid) (partial : Bool) (h : ExtendedGuidFits index) where
  abbrev index_data : List ℕ
  index_data = changes_data index partial

  index_read : index_field index_data ≡ id'.At (0 + length (extended_guid_bytes index)) index
  unfolding changes_data
  index_read = id_written index_data 0 0 index (partial_byte partial ∷ []) h refl

  mark_stands : drop (0 + length (extended_guid_bytes index)) index_data ≡ bytes 1 (partial_byte partial) ++ []
  unfolding changes_data
  mark_stands = rw (one_byte partial) (behind index_data 0 (extended_guid_bytes index) (partial_byte partial ∷ []) refl)

  changes_whole : changes_fields index_data ≡ At (length index_data) (partial_byte partial)
  unfolding changes_fields on_field
  changes_whole =
      let m = a_bit partial in
      rw index_read
      ((reads_fixed 0 1 0 255 5 (partial_byte partial) (omega arith) (omega arith) (omega arith)).here index_data (0 + length (extended_guid_bytes index)) [] mark_stands
      ∙ ap (λ (n : ℕ). At n (partial_byte partial)) (let a = length_changes_data index partial in let b = ap length (one_byte partial) in omega arith))

  changes_short : length index_data < 2 ^ 64
  changes_short = let d = length_changes_data index partial in let m = extended_most index in omega arith

  -- its start, and the whole
  module _ (s : List ℕ) (at u : ℕ) (t : List ℕ) (stands : drop at s ≡ changes_bytes index partial ++ t) where
    stands_apart : drop at s ≡ start_bytes 0x5F false (length index_data) ++ (index_data ++ t)
    unfolding changes_bytes
    stands_apart = stands ∙ append_assoc (start_bytes 0x5F false (length index_data)) index_data t

    changes_open : changes_start s (At at u) ≡ At (at + length (start_bytes 0x5F false (length index_data))) (length index_data)
    changes_open = (reads_start answer_padding u 0x41 0x5F false (length index_data) (omega arith) changes_short).here s at (index_data ++ t) stands_apart

    run_is : run_here s (changes_start s (At at u)) ≡ index_data
    unfolding run_here
    run_is = rw (changes_open, behind s at (start_bytes 0x5F false (length index_data)) (index_data ++ t) stands_apart) (take-append_seam index_data t)

    changes_read : changes s (At at u) ≡ At (at + length (changes_bytes index partial)) (partial_byte partial)
    unfolding changes changes_bytes
    changes_read =
        (reads_then (reads_start answer_padding u 0x41 0x5F false (length index_data) (omega arith) changes_short) (reads_run changes_fields index_data (partial_byte partial) changes_whole)
        ).here s at t stands

    index_back : id_in (index_field (run_here s (changes_start s (At at u)))) ≡ index
    unfolding id_in
    index_back = rw (run_is, index_read)

-- the ends
reads_ends : (u : ℕ) → Reads (λ s c. c ▹ end_here s 0x41 ▹ end_here s 0x62) u ends_bytes 0
unfolding ends_bytes
reads_ends u = reads_then (reads_end u 0x41 (omega arith)) (reads_end 0 0x62 (omega arith))

pub ends_read : (w : List ℕ) (at u : ℕ) → drop at w ≡ ends_bytes → ends_of w (At at u) ≡ At (at + length ends_bytes) 0
unfolding ends_of
ends_read w at u h =
    let h' : drop at w ≡ ends_bytes ++ [] = h ∙ sym (append-nil ends_bytes) in
    rw ((reads_ends u).here w at [] h') (finish_written w (at + length ends_bytes) 0 (behind w at ends_bytes [] h'))

-- ---- the whole

module _ (s : List ℕ) (id : ℕ) (index : ExtendedGuid) (page : List Element) (partial : Bool) (l : List Range) (w : List ℕ)
    (is : w ≡ answer_bytes s id index page partial l) (stand : Each (StandsIn s) page) (ids : Fresh (λ x. x.id) [] page)
    (few : length page ≤ 256) (id_fits : id < 2 ^ 64) (index_fits : ExtendedGuidFits index)
    (normal : Normal l) (fit : AllFit l) (most : length l ≤ most_said) (short : length w ≤ longest_answer) where
  -- the parts, one behind the other
  abbrev elements_part : List ℕ
  elements_part = elements_bytes s page

  abbrev sub_part : List ℕ
  sub_part = sub_response_bytes query_changes_request id

  abbrev index_part : List ℕ
  index_part = changes_bytes index partial

  abbrev knowledge_part : List ℕ
  knowledge_part = knowledge_bytes l

  -- places: behind the elements, behind the package, behind the sub-response
  abbrev last : ℕ
  last = 20 + length elements_part

  abbrev past : ℕ
  past = last + length (end_bytes 0x15)

  abbrev marked : ℕ
  marked = past + length sub_part

  abbrev place : ℕ
  place = knowledge_place s id index page partial

  w_apart : w ≡ answer_front ++ (elements_part ++ (end_bytes 0x15 ++ (sub_part ++ (index_part ++ (knowledge_part ++ ends_bytes)))))
  unfolding answer_middle
  w_apart = is ∙ answer_parts s id index page partial l ∙ simp append_assoc

  elements_stand : drop 20 w ≡ elements_part ++ (end_bytes 0x15 ++ (sub_part ++ (index_part ++ (knowledge_part ++ ends_bytes))))
  elements_stand = rw w_apart (drop_at answer_front (elements_part ++ (end_bytes 0x15 ++ (sub_part ++ (index_part ++ (knowledge_part ++ ends_bytes))))) 20 length_front.3)

  end_stands : drop last w ≡ end_bytes 0x15 ++ (sub_part ++ (index_part ++ (knowledge_part ++ ends_bytes)))
  end_stands = behind w 20 elements_part _ elements_stand

  sub_stands : drop past w ≡ sub_part ++ (index_part ++ (knowledge_part ++ ends_bytes))
  sub_stands = behind w last (end_bytes 0x15) _ end_stands

  index_stands : drop marked w ≡ index_part ++ (knowledge_part ++ ends_bytes)
  index_stands = behind w past sub_part _ sub_stands

  place_is : marked + length index_part ≡ place
  place_is = let m = length_middle id index partial in let b = length_back in omega arith

  knowledge_stands : drop place w ≡ knowledge_part ++ ends_bytes
  knowledge_stands = rw (← place_is) (behind w marked index_part _ index_stands)

  ends_stand : drop (place + length knowledge_part) w ≡ ends_bytes
  ends_stand = behind w place knowledge_part ends_bytes knowledge_stands

  -- the package
  begins : elements_start w ≡ At 20 0
  begins = front_read w _ w_apart

  walk_is : package_in w ≡ walked (set_down 20 page) (At past 0)
  walk_is =
      package_walked answer_strictness 0x62 w (response_start w) 20 0 (set_down 20 page) last past 0 begins
      (chain_set s page [] [] answer_front _ w 20 w_apart length_front.3 stand refl ids)
      (let n = length_set_down 20 page in omega arith) ((reads_end 0 0x15 (omega arith)).here w last _ end_stands)

  elements_back : (package_in w).elements ≡ set_down 20 page
  elements_back = ap (λ (x : Walk). x.elements) walk_is

  package_past : package_end w ≡ At past 0
  unfolding valued
  package_past = rw (ap (λ (x : Walk). x.last) walk_is)

  -- behind it
  sub_is : sub_response query_changes_request w (At past 0) ≡ At marked id
  sub_is = (reads_sub_response query_changes_request id (omega arith) id_fits 0).here w past _ sub_stands

  mark_is : mark_at w (At past 0) ≡ At place (partial_byte partial)
  mark_is = rw sub_is (changes_read index partial index_fits w marked id _ index_stands ∙ rw place_is)

  ranges_back : ((knowledge_in w (At place (partial_byte partial))).ranges ≡ l) × ((knowledge_in w (At place (partial_byte partial))).last ≡ At (place + length knowledge_part) 0)
  unfolding knowledge_in
  ranges_back = knowledge_back answer_padding most_said 13 0x41 l w [] place (partial_byte partial) ends_bytes normal fit most knowledge_stands

  known_end : knowledge_end w (At past 0) ≡ At (place + length knowledge_part) 0
  unfolding valued
  known_end = rw (mark_is, ranges_back.1)

  rest_is : rest_of w (At past 0) ≡ At (place + length knowledge_part + length ends_bytes) 0
  unfolding rest_of
  rest_is = rw known_end (ends_read w (place + length knowledge_part) 0 ends_stand)

  end_is : answer_end w ≡ At (place + length knowledge_part + length ends_bytes) 0
  unfolding answer_end
  end_is = rw (le-ltb longest_answer (length w) short, package_past) rest_is

  received_is : received_from w (At past 0) 20 (length page)
      ≡ record { id = id; partial = partial; index = index; elements = 20; count = length page; knowledge = place; length = length knowledge_part }
  unfolding received_from value_of place_of
  received_is =
      let n : place + length knowledge_part - place ≡ length knowledge_part = omega arith in
      rw (known_end, mark_is, sub_is, mark_back partial, index_back index partial index_fits w marked id _ index_stands, n)

  found_is : (i : ℕ) → received_at w i ≡ element_in (set_down 20 page) i
  unfolding received_at
  found_is i = rw (end_is, elements_back)

  bytes_back : (i : ℕ) (d : Element) → i < length page → received_bytes w i ≡ stored_bytes s (get_or page i d)
  unfolding received_bytes
  bytes_back i d h = rw (found_is i) (bytes_set s page answer_front _ w 20 i d w_apart length_front.3 stand h)

  pub answer_back : ReadsBack s id index page partial l w
  unfolding answer_in answer_on place_of
  answer_back =
      record {
        read = rw (end_is, package_past, elements_back, begins, length_set_down 20 page, received_is);
        elements_are = elements_back;
        bytes_are = bytes_back;
        no_more = λ i h. found_is i ∙ found_none (set_down 20 page) i (let n = length_set_down 20 page in omega arith);
        knowledge_is = rw knowledge_stands (take-append_seam knowledge_part ends_bytes);
        ranges_are = rw (package_past, mark_is) ranges_back.0;
        normal = normal;
        fit = fit;
        most = most;
      }
