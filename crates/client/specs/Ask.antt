-- A request written: what a bench hands in is judged as it would be in a request, the filters as the first input and the knowledge
-- as the second, and padding is refused in both (`request_padding`); then come 1 where the request itself would be over-long, and 14.
-- Assumes nothing.
use Rattle.std.specs.Prelude.{◌≡◌, ℕ, List, [], ◌++◌, length, drop, ltb, eqb}
use Rattle.laws.specs.Pick.{pick}
use Rattle.numbers.specs.Refusals.{fault_at, longest_input, over_long, too_short, tell_wrote}
use Rattle.numbers.specs.Results.Wrote.{Wrote}
use Rattle.numbers.specs.Results.Wrote as wrote
use Rattle.objects.specs.Types.{sub_request_type, filter_type, compound_bit, with_room}
use Rattle.objects.specs.Steps.{◌▹◌, then, valued, start_here, finish}
use Rattle.objects.specs.Results.Reading.{At, Reading, Refused}
use Rattle.store.specs.Knowledge.{most_said, Knowing, knowing, knowledge_at}
use Rattle.request.specs.Filter.{filters_from, request_padding}
use Rattle.request.specs.Message.{in_request}
use Rattle.client.specs.AskWritten.{ask_bytes}

-- ---- the filters, which are all of the first input

-- bytes left behind the last object of this type are at fault, as the start of one more would be there (D-65, and of elements D-87)
unfoldable pub no_more : ℕ → ℕ → List ℕ → Reading → Reading
no_more outer kind s c = then c (λ at. pick (ltb at (length s)) (start_here request_padding s outer kind compound_bit with_room c) c)

-- the number is how many
unfoldable pub filters_given : List ℕ → Reading
filters_given f = pick (ltb longest_input (length f)) (Refused over_long) (At 0 0 ▹ filters_from 16 f ▹ no_more sub_request_type filter_type f)

-- ---- the knowledge, which is all of the second input: one object, or no byte

unfoldable pub knowledge_of : List ℕ → Knowing
knowledge_of k = pick (eqb (length k) 0) (knowing [] [] most_said (At 0 0)) (knowledge_at request_padding most_said 12 sub_request_type k [] (At 0 0))

-- "After the last end any byte is 5"
unfoldable pub knowledge_given : List ℕ → Reading
knowledge_given k = pick (ltb longest_input (length k)) (Refused over_long) ((knowledge_of k).last ▹ valued 0 ▹ finish k)

-- ---- what writing answers

-- so many bytes in so much room: 1 where they would be an over-long request, then 14 with their length. "A refusal that falls on no
-- item .. names the store, place 0" (D-66)
abbrev pub room_for : ℕ → ℕ → Wrote
room_for room needed =
    pick (ltb longest_input needed) (wrote.Refused (fault_at 1 0)) (pick (ltb room needed) (wrote.Refused (too_short needed)) (wrote.Done needed))

-- the bytes w
unfoldable pub written_in : ℕ → List ℕ → Wrote
written_in room w = room_for room (length w)

-- a fault of the first input, then one of the second
unfoldable pub judged_second : Reading → Wrote → Wrote
judged_second (At e v) w = w
judged_second (Refused r) w = wrote.Refused (in_request r)

unfoldable pub judged_first : Reading → Wrote → Wrote
judged_first (At e n) w = w
judged_first (Refused r) w = wrote.Refused r

unfoldable pub ask_wrote : ℕ → ℕ → List ℕ → List ℕ → ℕ → Wrote
ask_wrote id limit f k room =
    judged_first (filters_given f) (judged_second (knowledge_given k) (written_in room (ask_bytes id limit f k)))

-- the output then: "output past the answer, keep their contents"; on a refusal it stays as it was
unfoldable pub ask_output : Wrote → List ℕ → List ℕ → List ℕ
ask_output (wrote.Done n) w out = w ++ drop (length w) out
ask_output (wrote.Refused r) w out = out

-- what is promised where writing the bytes w answers o
abbrev pub WroteAs : Wrote → List ℕ → Wrote → List ℕ → List ℕ → Type 0
WroteAs o w r out out' = (tell_wrote r ≡ tell_wrote o) × (out' ≡ ask_output o w out)

-- what the call that writes a request promises
abbrev pub WritesRequest : ℕ → ℕ → List ℕ → List ℕ → Wrote → List ℕ → List ℕ → Type 0
WritesRequest id limit f k r out out' =
    WroteAs (ask_wrote id limit f k (length out)) (ask_bytes id limit f k) r out out'
