-- The request that a bench sends, as bytes: document 01's parts of a request in their order, with the shortest headers. Absent are the
-- package and, without a limit, the constraint. Filters and knowledge are the bytes handed in (D-71).
-- Assumes nothing.
use Rattle.std.specs.Prelude.{ℕ, List, [], ◌∷◌, ◌++◌, length, eqb}
use Rattle.laws.specs.Pick.{pick}
use Rattle.numbers.specs.Compact.{compact_bytes}
use Rattle.numbers.specs.ExtendedGuid.{extended_guid_bytes}
use Rattle.numbers.specs.Results.ExtendedGuid.{Null}
use Rattle.objects.specs.Types.{request_type, user_agent_type, compound_bit, sub_request_type, query_changes_type, plain_bit, arguments_type, constraint_type}
use Rattle.objects.specs.Header.{start_bytes, end_bytes}
use Rattle.request.specs.Message.{request_signature, query_changes_request}
use Rattle.request.specs.Response.{version_bytes}

-- "request start; user agent": the user agent is empty
unfoldable pub user_agent_bytes : List ℕ
user_agent_bytes = start_bytes request_type compound_bit 0 ++ (start_bytes user_agent_type compound_bit 0 ++ end_bytes user_agent_type)

-- "sub-request (id, type 2, priority)", of this type: the priority is 0
unfoldable pub sub_request_data : ℕ → ℕ → List ℕ
sub_request_data kind id = compact_bytes id ++ (compact_bytes kind ++ compact_bytes 0)

unfoldable pub sub_request_bytes : ℕ → ℕ → List ℕ
sub_request_bytes kind id = start_bytes sub_request_type compound_bit (length (sub_request_data kind id)) ++ sub_request_data kind id

-- up to the fields of a sub-request of this type, as `identified` reads them: the same in each message that a bench sends
unfoldable pub identified_bytes : ℕ → ℕ → List ℕ
identified_bytes kind id = version_bytes request_signature ++ (user_agent_bytes ++ sub_request_bytes kind id)

-- "0x51 with one byte, ignored": a zero byte
unfoldable pub query_bytes : List ℕ
query_bytes = start_bytes query_changes_type plain_bit 1 ++ (0 ∷ [])

-- "arguments, whose two low flag bits must be set .. and whose cell ID must be two nulls"
unfoldable pub argument_data : List ℕ
argument_data = 3 ∷ (extended_guid_bytes Null ++ extended_guid_bytes Null)

unfoldable pub argument_bytes : List ℕ
argument_bytes = start_bytes arguments_type plain_bit (length argument_data) ++ argument_data

-- "at most one constraint (absent: 2^64-1 bytes)"
unfoldable pub constraint_bytes : ℕ → List ℕ
constraint_bytes limit =
    pick (eqb limit 0xFFFFFFFFFFFFFFFF) [] (start_bytes constraint_type plain_bit (length (compact_bytes limit)) ++ compact_bytes limit)

-- up to the constraint
unfoldable pub ask_front : ℕ → List ℕ
ask_front id = identified_bytes query_changes_request id ++ (query_bytes ++ argument_bytes)

-- "ends": of the sub-request, and of the request
unfoldable pub ask_ends : List ℕ
ask_ends = end_bytes sub_request_type ++ end_bytes request_type

-- the whole, in the order of document 01
unfoldable pub ask_bytes : ℕ → ℕ → List ℕ → List ℕ → List ℕ
ask_bytes id limit filters knowledge = ask_front id ++ (constraint_bytes limit ++ (filters ++ (knowledge ++ ask_ends)))
