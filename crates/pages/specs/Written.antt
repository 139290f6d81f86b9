-- "Answer bytes: version 12, minimum 11, the signature of 000, 2.2.3; response start (length 1) and a zero byte; package of the k
-- elements as stored; sub-response (id as asked, type 2, zero byte); 0x5F with the extended GUID of the first element of type 1
-- in the store (null if none) and the partial byte (1 or 0); knowledge; ends."
-- Assumes nothing.
use Rattle.std.specs.Prelude.{ℕ, Bool, List, [], ◌∷◌, ◌++◌, length}
use Rattle.laws.specs.Pick.{pick}
use Rattle.numbers.specs.ExtendedGuid.{extended_guid_bytes}
use Rattle.numbers.specs.Results.ExtendedGuid.{ExtendedGuid}
use Rattle.objects.specs.Types.{changes_type, plain_bit}
use Rattle.objects.specs.Header.{start_bytes}
use Rattle.talk.specs.declared.range.Range.{Range}
use Rattle.store.specs.KnowledgeWritten.{knowledge_bytes}
use Rattle.store.specs.Held.{package_of}
use Rattle.store.specs.declared.element.Element.{Element}
use Rattle.request.specs.Message.{query_changes_request}
use Rattle.request.specs.Response.{version_bytes, answer_signature, response_bytes, sub_response_bytes, ends_bytes}

-- "0x5F with the extended GUID .. and the partial byte (1 or 0)"
unfoldable pub partial_byte : Bool → ℕ
partial_byte partial = pick partial 1 0

unfoldable pub changes_data : ExtendedGuid → Bool → List ℕ
changes_data index partial = extended_guid_bytes index ++ (partial_byte partial ∷ [])

unfoldable pub changes_bytes : ExtendedGuid → Bool → List ℕ
changes_bytes index partial = start_bytes changes_type plain_bit (length (changes_data index partial)) ++ changes_data index partial

-- the whole, in the order of the sentence
unfoldable pub answer_bytes : List ℕ → ℕ → ExtendedGuid → List Element → Bool → List Range → List ℕ
answer_bytes s id index page partial l =
    version_bytes answer_signature
    ++ (response_bytes
    ++ (package_of s page ++ (sub_response_bytes query_changes_request id ++ (changes_bytes index partial ++ (knowledge_bytes l ++ ends_bytes)))))
