-- The put that a bench sends (document 02, Q-1: "Benches hand in their changes"), as bytes: the parts of 000, 2.2.2.1.4 in their order, with
-- the shortest headers; the elements are the bytes handed in. They are judged first, as they would be in a put, so that padding is
-- refused and "an id twice in a put is 11"; then come 1 where the put itself would be over-long, and 14.
-- Assumes nothing.
use Rattle.std.specs.Prelude.{ℕ, List, [], ◌∷◌, ◌++◌, length, ltb}
use Rattle.laws.specs.Pick.{pick}
use Rattle.numbers.specs.ExtendedGuid.{extended_guid_bytes}
use Rattle.numbers.specs.Refusals.{longest_input, over_long}
use Rattle.numbers.specs.Results.ExtendedGuid.{ExtendedGuid, Null}
use Rattle.numbers.specs.Results.Wrote.{Wrote}
use Rattle.objects.specs.Header.{start_bytes, end_bytes}
use Rattle.objects.specs.Steps.{◌▹◌, valued}
use Rattle.objects.specs.Types.{request_type, sub_request_type, package_type, element_type, plain_bit}
use Rattle.objects.specs.Results.Reading.{At, Reading, Refused}
use Rattle.store.specs.Store.{Walk, elements_walk}
use Rattle.store.specs.Tables.{most_elements}
use Rattle.store.specs.Written.{package_front}
use Rattle.request.specs.Message.{put_changes_request}
use Rattle.puts.specs.Put.{put_changes_type, put_strictness}
use Rattle.client.specs.AskWritten.{identified_bytes}
use Rattle.client.specs.Ask.{no_more, written_in, judged_first, WroteAs}

-- ---- the bytes

-- 0x5A: a null Storage Index, which is not used; "the storage index it expects"; a flag byte of 0
unfoldable pub put_changes_data : ExtendedGuid → List ℕ
put_changes_data expected = extended_guid_bytes Null ++ (extended_guid_bytes expected ++ (0 ∷ []))

unfoldable pub put_changes_bytes : ExtendedGuid → List ℕ
put_changes_bytes expected = start_bytes put_changes_type plain_bit (length (put_changes_data expected)) ++ put_changes_data expected

-- up to the first element: sub-request with type 5, 0x5A, the sub-request's end, the package's start and its zero byte
unfoldable pub put_front_bytes : ℕ → ExtendedGuid → List ℕ
put_front_bytes id expected = identified_bytes put_changes_request id ++ (put_changes_bytes expected ++ (end_bytes sub_request_type ++ package_front))

-- the package's end, and the request's
unfoldable pub put_ends_bytes : List ℕ
put_ends_bytes = end_bytes package_type ++ end_bytes request_type

unfoldable pub put_bytes : ℕ → ExtendedGuid → List ℕ → List ℕ
put_bytes id expected elements = put_front_bytes id expected ++ (elements ++ put_ends_bytes)

-- ---- the elements handed in, which are all of the first input: one behind the other, with no package around them

abbrev pub given_walk : List ℕ → Walk
given_walk s = elements_walk put_strictness most_elements s [] (At 0 0)

-- over-long input is 1 first; bytes left behind the last element are at fault as in a put, where one more or the package's end would stand
unfoldable pub elements_given : List ℕ → Reading
elements_given s = pick (ltb longest_input (length s)) (Refused over_long) ((given_walk s).last ▹ valued 0 ▹ no_more package_type element_type s)

-- ---- what writing answers

unfoldable pub put_wrote : ℕ → ExtendedGuid → List ℕ → ℕ → Wrote
put_wrote id expected s room = judged_first (elements_given s) (written_in room (put_bytes id expected s))

-- what the call that writes a put promises
abbrev pub WritesPut : ℕ → ExtendedGuid → List ℕ → Wrote → List ℕ → List ℕ → Type 0
WritesPut id expected s r out out' = WroteAs (put_wrote id expected s (length out)) (put_bytes id expected s) r out out'
