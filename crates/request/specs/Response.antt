-- The frame of a response, whatever it answers: what stands before its elements, the sub-response that names the request's type and
-- its id, and the ends. "version 12, minimum 11, the signature of 000, 2.2.3; response start (length 1) and a zero byte; package ..;
-- sub-response (id as asked, type 2, zero byte); ..; ends."
-- Assumes nothing.
use Rattle.std.specs.Prelude.{ℕ, List, [], ◌∷◌, ◌++◌, length}
use Rattle.laws.specs.Bytes.{bytes}
use Rattle.numbers.specs.Compact.{compact_bytes}
use Rattle.objects.specs.Types.{response_type, compound_bit, sub_response_type}
use Rattle.objects.specs.Header.{start_bytes, end_bytes}
use Rattle.store.specs.Written.{package_front}

-- "version 12, minimum 11", and a signature
unfoldable pub version_bytes : ℕ → List ℕ
version_bytes signature = bytes 2 12 ++ (bytes 2 11 ++ bytes 8 signature)

-- "the signature of 000, 2.2.3"
abbrev pub answer_signature : ℕ
answer_signature = 0x9B069439F329CF9D

-- "response start (length 1) and a zero byte"
unfoldable pub response_bytes : List ℕ
response_bytes = start_bytes response_type compound_bit 1 ++ (0 ∷ [])

-- up to the first element: these, and the package's start and its zero byte
unfoldable pub answer_front : List ℕ
answer_front = version_bytes answer_signature ++ (response_bytes ++ package_front)

-- "sub-response (id as asked, type 2, zero byte)"; the type is that of the request, 2 or, for a put, 5
unfoldable pub sub_response_data : ℕ → ℕ → List ℕ
sub_response_data kind id = compact_bytes id ++ (compact_bytes kind ++ (0 ∷ []))

unfoldable pub sub_response_bytes : ℕ → ℕ → List ℕ
sub_response_bytes kind id = start_bytes sub_response_type compound_bit (length (sub_response_data kind id)) ++ sub_response_data kind id

-- "ends": of the sub-response, and of the response
unfoldable pub ends_bytes : List ℕ
ends_bytes = end_bytes sub_response_type ++ end_bytes response_type
