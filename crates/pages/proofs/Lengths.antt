-- How long the parts of an answer are, and the whole.
-- Assumes nothing.
use mathlib.Core.Path.{◌≡◌, refl, ap, ◌∙◌}
use mathlib.Core.Bool.{Bool, true, false}
use mathlib.Core.List.{List, [], ◌∷◌, ◌++◌, append_assoc}
use Prim.Native.Nat.{ℕ, ◌+◌, ◌≤◌}
use native.Mathlib.Omega.{arith}
use lib.ListN.{length, length-append}
use borrow.Author.Tests.{ne_eqb}
use Rattle.laws.proofs.Parts.{part_length}
use Rattle.numbers.specs.ExtendedGuid.{extended_guid_bytes}
use Rattle.numbers.specs.Results.ExtendedGuid.{ExtendedGuid, Named, Null}
use Rattle.objects.specs.Header.{start_bytes, end_bytes}
use Rattle.objects.proofs.HeaderForms.{length_own}
use Rattle.talk.specs.Each.{Each}
use Rattle.talk.specs.declared.range.Range.{Range}
use Rattle.store.specs.KnowledgeWritten.{ranges_bytes, cell_front, cell_back, knowledge_bytes}
use Rattle.store.specs.Held.{stored_bytes, elements_bytes, package_of}
use Rattle.store.specs.declared.element.Element.{Element}
use Rattle.store.proofs.ElementWritten.{named_most}
use Rattle.store.proofs.KnowledgeLengths as knowledge
use Rattle.request.specs.Message.{query_changes_request}
use Rattle.request.specs.Response.{sub_response_bytes, ends_bytes, answer_front}
use Rattle.request.proofs.ResponseLengths.{length_front, length_back, length_two, length_sub}
use Rattle.order.specs.Groups.{stored_length}
use Rattle.pages.specs.Written.{changes_data, changes_bytes, answer_bytes, partial_byte}
use Rattle.pages.specs.Tables.{answer_middle, whole_of, fixed_length}

-- ---- the storage index

pub extended_most : (x : ExtendedGuid) → length (extended_guid_bytes x) ≤ 21
unfolding extended_guid_bytes
extended_most Null = omega arith
extended_most (Named g x) = named_most g x

pub length_changes_data : (index : ExtendedGuid) (partial : Bool) → length (changes_data index partial) ≡ length (extended_guid_bytes index) + 1
unfolding changes_data
length_changes_data index partial = length-append (extended_guid_bytes index) (partial_byte partial ∷ [])

pub length_changes_start : (index : ExtendedGuid) (n : ℕ) → n ≡ length (extended_guid_bytes index) → length (start_bytes 0x5F false (n + 1)) ≡ 4
length_changes_start index n e = length_own 0x5F false (n + 1) refl (let m = extended_most index in omega arith)

pub length_changes : (index : ExtendedGuid) (partial : Bool) → length (changes_bytes index partial) ≡ 5 + length (extended_guid_bytes index)
unfolding changes_bytes
length_changes index partial =
    length-append (start_bytes 0x5F false (length (changes_data index partial))) (changes_data index partial)
    ∙ (let d = length_changes_data index partial in let m = extended_most index in let a = length_own 0x5F false (length (changes_data index partial)) refl (omega arith) in omega arith)

pub length_middle : (id : ℕ) (index : ExtendedGuid) (partial : Bool)
    → length (answer_middle id index partial) ≡ 1 + (length (sub_response_bytes query_changes_request id) + length (changes_bytes index partial))
unfolding answer_middle
length_middle id index partial =
    length-append (end_bytes 0x15) (sub_response_bytes query_changes_request id ++ changes_bytes index partial)
    ∙ (let a = length-append (sub_response_bytes query_changes_request id) (changes_bytes index partial) in let b = length_back in omega arith)

-- ---- the elements, each of which stands in the store

pub stored_append : (xs ys : List Element) → stored_length (xs ++ ys) ≡ stored_length xs + stored_length ys
unfolding stored_length
stored_append [] ys = omega arith
stored_append (x ∷ xs) ys = omega (arith, stored_append xs ys)

abbrev pub AllWithin : List ℕ → List Element → Type 0
AllWithin s page = Each (λ (x : Element). x.place + x.length ≤ length s) page

pub elements_length : (s : List ℕ) (page : List Element) → AllWithin s page → length (elements_bytes s page) ≡ stored_length page
unfolding elements_bytes stored_length stored_bytes
elements_length s [] w = refl
elements_length s (x ∷ xs) w =
    length-append (stored_bytes s x) (elements_bytes s xs)
    ∙ (let a = part_length x.place x.length s w.0 in let b = elements_length s xs w.1 in omega arith)

-- ---- the whole

-- with a range there is a cell knowledge
pub whole_some : (fixed stored ranges spelled : ℕ) → (ranges ≡ 0 → ⊥) → whole_of fixed stored ranges spelled ≡ fixed + 25 + stored + spelled
unfolding whole_of
whole_some fixed stored ranges spelled h = rw (ne_eqb ranges 0 h)

-- the knowledge is longer by 25 bytes and its ranges where there is a range
length_knowledge : (stored fixed : ℕ) (l : List Range)
    → fixed + stored + length (knowledge_bytes l) ≡ 3 + whole_of fixed stored (length l) (length (ranges_bytes l))
unfolding whole_of knowledge_bytes
length_knowledge stored fixed [] =
    let a = length-append (start_bytes 0x10 true 0) (end_bytes 0x10) in
    let b = knowledge.length_front in
    let d = knowledge.length_back in
    omega arith
length_knowledge stored fixed (x ∷ l) =
    let a = length-append cell_front (ranges_bytes (x ∷ l) ++ cell_back) in
    let b = length-append (ranges_bytes (x ∷ l)) cell_back in
    let d = knowledge.length_front in
    let e = knowledge.length_back in
    omega (arith, whole_some fixed stored (length (x ∷ l)) (length (ranges_bytes (x ∷ l))) (λ z. omega arith))

-- the whole, in the parts in which it is laid
pub answer_parts : (s : List ℕ) (id : ℕ) (index : ExtendedGuid) (page : List Element) (partial : Bool) (l : List Range)
    → answer_bytes s id index page partial l
    ≡ answer_front ++ (elements_bytes s page ++ (answer_middle id index partial ++ (knowledge_bytes l ++ ends_bytes)))
unfolding answer_bytes package_of answer_front answer_middle
answer_parts s id index page partial l = simp append_assoc

length_parts : (s : List ℕ) (id : ℕ) (index : ExtendedGuid) (page : List Element) (partial : Bool) (l : List Range)
    → length (answer_bytes s id index page partial l)
    ≡ 20 + (length (elements_bytes s page) + (length (answer_middle id index partial) + (length (knowledge_bytes l) + 4)))
length_parts s id index page partial l =
    ap length (answer_parts s id index page partial l)
    ∙ length-append answer_front (elements_bytes s page ++ (answer_middle id index partial ++ (knowledge_bytes l ++ ends_bytes)))
    ∙ (let a = length-append (elements_bytes s page) (answer_middle id index partial ++ (knowledge_bytes l ++ ends_bytes)) in
    let b = length-append (answer_middle id index partial) (knowledge_bytes l ++ ends_bytes) in
    let d = length-append (knowledge_bytes l) ends_bytes in
    let e = length_front in
    let f = length_back in
    omega arith)

-- where there is room for it, there is room for its parts
pub answer_room : (s : List ℕ) (id : ℕ) (index : ExtendedGuid) (page : List Element) (partial : Bool) (l : List Range) (room : ℕ)
    → length (answer_bytes s id index page partial l) ≤ room
    → 20 + (length (elements_bytes s page) + (length (answer_middle id index partial) + (length (knowledge_bytes l) + 4))) ≤ room
answer_room s id index page partial l room h = let e = length_parts s id index page partial l in omega arith

pub answer_length : (s : List ℕ) (id : ℕ) (index : ExtendedGuid) (page : List Element) (partial : Bool) (l : List Range) → AllWithin s page
    → length (answer_bytes s id index page partial l) ≡ whole_of (fixed_length id index) (stored_length page) (length l) (length (ranges_bytes l))
unfolding fixed_length
answer_length s id index page partial l w =
    omega (
      arith,
      length_parts s id index page partial l,
      elements_length s page w,
      length_middle id index partial,
      length_two,
      length_sub query_changes_request id,
      length_changes index partial,
      length_knowledge (stored_length page) (fixed_length id index) l,
    )
