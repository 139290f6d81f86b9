-- A put (document 02, Q-1; 000, 2.2.2.1.4): a request as document 01 has it, whose one sub-request is Put Changes. Its parts in the order
-- of 000, a line for each; where 000 and the dumps leave room, D-86 says how it is read. The four objects behind 0x5A and the package may
-- be absent: they begin with `next_is`. Padding is refused in every part, in the elements too (`request_padding`).
-- Assumes nothing.
use Rattle.std.specs.Prelude.{◌≡◌, ℕ, false, List, [], length, ltb}
use Rattle.laws.specs.Pick.{pick}
use Rattle.numbers.specs.Refusals.{longest_input, over_long}
use Rattle.numbers.specs.Results.ExtendedGuid.{ExtendedGuid}
use Rattle.objects.specs.Types.{sub_request_type, request_type, package_type, plain_bit, with_room}
use Rattle.objects.specs.Steps.{◌▹◌, value_of, valued, number, skip, id_here, start_here, run_here, closed, in_run, end_here, next_is, finish, on_field}
use Rattle.objects.specs.Results.Reading.{At, Reading, Refused}
use Rattle.objects.specs.Results.ReadingId.{ReadingId}
use Rattle.store.specs.Store.{Walk, walked, package_walk, laid_rows, laid_ids}
use Rattle.store.specs.declared.element.Strictness.{Strictness}
use Rattle.request.specs.Filter.{request_padding}
use Rattle.request.specs.Message.{id_in, put_changes_request, identified, knowledge_part, in_request}
use Rattle.puts.specs.declared.put.PutFields.{PutFields}
use Rattle.puts.specs.declared.put.PutHead.{PutHead}
use Rattle.puts.specs.Results.Put.{Put}
use Rattle.puts.specs.Results.Put as put

-- ---- types by number (000, 2.2.1.5)

abbrev pub put_changes_type : ℕ
put_changes_type = 0x5A

abbrev pub additional_flags_type : ℕ
additional_flags_type = 0x86

abbrev pub lock_id_type : ℕ
lock_id_type = 0x85

abbrev pub diagnostic_input_type : ℕ
diagnostic_input_type = 0x8A

-- ---- 0x5A, plain: the Storage Index extended GUID, any well-formed one, which is not used; the Expected Storage Index extended GUID,
-- "A put names the storage index it expects"; one flag byte, ignored. Its data ends there, as in both dumps; 000's three newer fields
-- behind the flag byte would be left over, 5 (D-86)

abbrev pub expected_field : List ℕ → ReadingId
expected_field d = id_here d (on_field (id_here d (At 0 0)))

unfoldable pub put_fields : List ℕ → PutFields
put_fields d = record { expected = id_in (expected_field d); last = on_field (expected_field d) ▹ skip d 1 }

abbrev pub put_start : List ℕ → Reading → Reading
put_start s c = start_here request_padding s sub_request_type put_changes_type plain_bit with_room c

-- behind its data
unfoldable pub put_changes : List ℕ → Reading → PutFields
put_changes s c =
    record {
      expected = (put_fields (run_here s (put_start s c))).expected;
      last = closed s (put_start s c) (put_fields (run_here s (put_start s c))).last;
    }

-- ---- what may stand behind it, each at most once, in this order; none of it is used, and none of its lengths is fixed

-- a plain object that may be absent, its data run read by its fields
abbrev pub optional : List ℕ → ℕ → (List ℕ → Reading) → Reading → Reading
optional s kind fields c =
    pick (next_is s kind c) (c ▹ start_here request_padding s sub_request_type kind plain_bit with_room ▹ in_run s fields) c

-- Additional Flags: two bytes as one item, a compact integer
unfoldable pub flag_fields : List ℕ → Reading
flag_fields d = At 0 0 ▹ skip d 2 ▹ number request_padding d

unfoldable pub additional_flags : List ℕ → Reading → Reading
additional_flags s c = optional s additional_flags_type flag_fields c

-- a data run of so many bytes that are not divided: Lock Id, sixteen; Diagnostic Input, one
unfoldable pub undivided : ℕ → List ℕ → Reading
undivided n d = At 0 0 ▹ skip d n

unfoldable pub optional_bytes : List ℕ → ℕ → ℕ → Reading → Reading
optional_bytes s kind n c = optional s kind (undivided n) c

-- the client's knowledge: read by document 01's layout, with its faults, and not used
unfoldable pub client_knowledge : List ℕ → Reading → Reading
client_knowledge s c = (knowledge_part s [] c).last ▹ valued 0

-- ---- the whole

-- up to the package
unfoldable pub before_package : List ℕ → Reading → Reading
before_package s c =
    c ▹ additional_flags s ▹ optional_bytes s lock_id_type 16 ▹ client_knowledge s ▹ optional_bytes s diagnostic_input_type 1 ▹ end_here s sub_request_type

-- its elements are read as in a store, but for the depth, which counts from the request: thirteen levels are left inside an element; and
-- "serials that came are ignored and meet no 10 or 11; an id twice in a put is 11"
abbrev pub put_strictness : Strictness
put_strictness = record { padding = request_padding; levels = 13; serials = false }

-- the package, which may be absent: then nothing enters
unfoldable pub put_package : List ℕ → Reading → Walk
put_package s c = pick (next_is s package_type c) (package_walk put_strictness request_type s c) (walked [] c)

-- the request's end: "After the last end any byte is 5"
unfoldable pub put_end : List ℕ → Reading → Reading
put_end s c = c ▹ end_here s request_type ▹ finish s

abbrev pub put_front : List ℕ → PutFields
put_front s = put_changes s (identified put_changes_request s)

-- what stands before the package, and where the package stands or would stand
unfoldable pub put_head : List ℕ → PutHead
put_head s =
    record {
      id = value_of (identified put_changes_request s);
      expected = (put_front s).expected;
      behind = before_package s (put_front s).last;
    }

abbrev pub handed_in : List ℕ → Walk
handed_in s = put_package s (before_package s (put_front s).last)

-- the elements that were handed in, and where reading ends; an over-long put is 1 first
unfoldable pub put_walk : List ℕ → Walk
put_walk s =
    pick (ltb longest_input (length s)) (walked [] (Refused over_long)) (walked (handed_in s).elements (put_end s (handed_in s).last))

-- ---- what reading answers: a fault of the put is one of the second input

-- the id, the storage index that is expected, how many elements
unfoldable pub put_read : Reading → ℕ → ExtendedGuid → ℕ → Put
put_read (At e v) id expected count = put.Handed id expected count
put_read (Refused r) id expected count = put.Refused (in_request r)

unfoldable pub put_in : List ℕ → Put
put_in s = put_read (put_walk s).last (value_of (identified put_changes_request s)) (put_front s).expected (length (put_walk s).elements)

-- what reading promises: the answer, and both tables at exit
abbrev pub ReadsPut : List ℕ → Put → List ℕ → List ℕ → List ℕ → List ℕ → Type 0
ReadsPut s r rows rowsExit ids idsExit = (r ≡ put_in s) × (rowsExit ≡ laid_rows (put_walk s) rows) × (idsExit ≡ laid_ids (put_walk s) ids)
