-- What is written are bytes: a request, if what is handed in are bytes. A reader can skip all but the statements with `pub`.
-- Assumes nothing.
use mathlib.Core.Bool.{Bool, true, false}
use mathlib.Core.List.{List, [], ◌∷◌, ◌++◌}
use Prim.Native.Nat.{ℕ, zero, suc, ◌^◌, ◌<◌}
use lib.ListN.{length}
use lib.Dec.{ltb, eqb, lit<}
use Rattle.laws.specs.Bytes.{AllBytes, bytes}
use Rattle.laws.proofs.Cases.{pick_all}
use Rattle.laws.proofs.Numbers.{bytes_bytes}
use Rattle.numbers.specs.Compact.{size_of, form_of, with_form, compact_bytes}
use Rattle.numbers.specs.Guid.{guid_bytes, tagged_bytes}
use Rattle.numbers.specs.ExtendedGuid.{short_bytes, named_bytes, extended_guid_bytes}
use Rattle.numbers.specs.declared.guid.Guid.{Guid}
use Rattle.numbers.specs.Results.ExtendedGuid.{ExtendedGuid, Named, Null}
use Rattle.objects.specs.Header.{start_number, escape, long_start, start_bytes, end_bytes}
use Rattle.talk.specs.declared.range.Range.{Range}
use Rattle.store.specs.Knowledge.{cell_guid}
use Rattle.store.specs.KnowledgeWritten.{range_guid, range_data, range_bytes, ranges_bytes, cell_front, cell_back, knowledge_bytes}
use Rattle.request.specs.Message.{request_signature}
use Rattle.request.specs.Response.{version_bytes}
use Rattle.client.specs.AskWritten.{user_agent_bytes, sub_request_data, sub_request_bytes, identified_bytes, query_bytes, argument_data, argument_bytes, constraint_bytes, ask_front, ask_ends, ask_bytes}

-- ---- runs of bytes

no_bytes : AllBytes []
no_bytes i = lit< tt

cons_bytes : (x : ℕ) (l : List ℕ) → x < 256 → AllBytes l → AllBytes (x ∷ l)
cons_bytes x l h b zero = h
cons_bytes x l h b (suc i) = b i

pub append_bytes : (a b : List ℕ) → AllBytes a → AllBytes b → AllBytes (a ++ b)
append_bytes [] b x y = y
append_bytes (c ∷ a) b x y = cons_bytes c (a ++ b) (x 0) (append_bytes a b (λ i. x (suc i)) y)

one_byte : (x : ℕ) → x < 256 → AllBytes (x ∷ [])
one_byte x h = cons_bytes x [] h no_bytes

-- ---- numbers and names

compact_bytes_lem : (v : ℕ) → AllBytes (compact_bytes v)
unfolding compact_bytes
compact_bytes_lem v =
    pick_all (λ (l : List ℕ). AllBytes l) (eqb v 0) _ _ (λ e. one_byte 0 (lit< tt)) (λ e. bytes_bytes (size_of (form_of v)) (with_form (form_of v) v))

guid_bytes_lem : (g : Guid) → AllBytes (guid_bytes g)
unfolding guid_bytes
guid_bytes_lem g = append_bytes (bytes 8 g.low) (bytes 8 g.high) (bytes_bytes 8 g.low) (bytes_bytes 8 g.high)

short_bytes_lem : (k m : ℕ) (g : Guid) (x : ℕ) → AllBytes (short_bytes k m g x)
unfolding short_bytes
short_bytes_lem k m g x = append_bytes (bytes m (with_form k x)) (guid_bytes g) (bytes_bytes m (with_form k x)) (guid_bytes_lem g)

tagged_bytes_lem : (n : ℕ) (g : Guid) (x : ℕ) → AllBytes (tagged_bytes n g x)
unfolding tagged_bytes
tagged_bytes_lem n g x = cons_bytes 128 (guid_bytes g ++ bytes n x) (lit< tt) (append_bytes (guid_bytes g) (bytes n x) (guid_bytes_lem g) (bytes_bytes n x))

named_bytes_lem : (g : Guid) (x : ℕ) → AllBytes (named_bytes g x)
unfolding named_bytes
named_bytes_lem g x =
    pick_all (λ (l : List ℕ). AllBytes l) (ltb x 0x20) _ _ (λ e. short_bytes_lem 2 1 g x)
    (λ e.
    pick_all (λ (l : List ℕ). AllBytes l) (ltb x 0x400) _ _ (λ f. short_bytes_lem 5 2 g x)
    (λ f. pick_all (λ (l : List ℕ). AllBytes l) (ltb x 0x20000) _ _ (λ h. short_bytes_lem 6 3 g x) (λ h. tagged_bytes_lem 4 g x)))

extended_bytes : (x : ExtendedGuid) → AllBytes (extended_guid_bytes x)
unfolding extended_guid_bytes
extended_bytes Null = one_byte 0 (lit< tt)
extended_bytes (Named g x) = named_bytes_lem g x

-- ---- headers

long_start_bytes : (k : ℕ) (c : Bool) (n : ℕ) → AllBytes (long_start k c n)
unfolding long_start
long_start_bytes k c n =
    let w = start_number 2 (2 ^ 14) c k escape in
    pick_all (λ (l : List ℕ). AllBytes l) (ltb n escape) _ _ (λ e. bytes_bytes 4 (start_number 2 (2 ^ 14) c k n))
    (λ e. append_bytes (bytes 4 w) (compact_bytes n) (bytes_bytes 4 w) (compact_bytes_lem n))

start_bytes_lem : (k : ℕ) (c : Bool) (n : ℕ) → AllBytes (start_bytes k c n)
unfolding start_bytes
start_bytes_lem k c n =
    pick_all (λ (l : List ℕ). AllBytes l) (ltb k 64) _ _
    (λ e. pick_all (λ (l : List ℕ). AllBytes l) (ltb n 128) _ _ (λ f. bytes_bytes 2 (start_number 0 (2 ^ 6) c k n)) (λ f. long_start_bytes k c n))
    (λ e. long_start_bytes k c n)

end_bytes_lem : (k : ℕ) → AllBytes (end_bytes k)
unfolding end_bytes
end_bytes_lem k = pick_all (λ (l : List ℕ). AllBytes l) (ltb k 64) _ _ (λ e. bytes_bytes 1 _) (λ e. bytes_bytes 2 _)

-- an object's start and its data
headed_bytes : (k : ℕ) (c : Bool) (n : ℕ) (d : List ℕ) → AllBytes d → AllBytes (start_bytes k c n ++ d)
headed_bytes k c n d b = append_bytes (start_bytes k c n) d (start_bytes_lem k c n) b

-- two numbers of two bytes and one of eight
version_bytes_lem : (signature : ℕ) → AllBytes (version_bytes signature)
unfolding version_bytes
version_bytes_lem signature =
    append_bytes (bytes 2 12) (bytes 2 11 ++ bytes 8 signature) (bytes_bytes 2 12)
    (append_bytes (bytes 2 11) (bytes 8 signature) (bytes_bytes 2 11) (bytes_bytes 8 signature))

-- ---- a knowledge

range_bytes_lem : (x : Range) → AllBytes (range_bytes x)
unfolding range_bytes range_data
range_bytes_lem x =
    headed_bytes 0x0F false _ _
    (append_bytes (guid_bytes (range_guid x)) (compact_bytes x.from ++ compact_bytes x.to) (guid_bytes_lem (range_guid x))
    (append_bytes (compact_bytes x.from) (compact_bytes x.to) (compact_bytes_lem x.from) (compact_bytes_lem x.to)))

ranges_bytes_lem : (l : List Range) → AllBytes (ranges_bytes l)
unfolding ranges_bytes
ranges_bytes_lem [] = no_bytes
ranges_bytes_lem (x ∷ l) = append_bytes (range_bytes x) (ranges_bytes l) (range_bytes_lem x) (ranges_bytes_lem l)

cell_front_bytes : AllBytes cell_front
unfolding cell_front
cell_front_bytes =
    headed_bytes 0x10 true 0 _
    (headed_bytes 0x44 true 16 _ (append_bytes (guid_bytes cell_guid) (start_bytes 0x14 true 0) (guid_bytes_lem cell_guid) (start_bytes_lem 0x14 true 0)))

cell_back_bytes : AllBytes cell_back
unfolding cell_back
cell_back_bytes =
    append_bytes (end_bytes 0x14) (end_bytes 0x44 ++ end_bytes 0x10) (end_bytes_lem 0x14)
    (append_bytes (end_bytes 0x44) (end_bytes 0x10) (end_bytes_lem 0x44) (end_bytes_lem 0x10))

pub knowledge_bytes_lem : (l : List Range) → AllBytes (knowledge_bytes l)
unfolding knowledge_bytes
knowledge_bytes_lem [] = headed_bytes 0x10 true 0 (end_bytes 0x10) (end_bytes_lem 0x10)
knowledge_bytes_lem (x ∷ l) =
    append_bytes cell_front (ranges_bytes (x ∷ l) ++ cell_back) cell_front_bytes
    (append_bytes (ranges_bytes (x ∷ l)) cell_back (ranges_bytes_lem (x ∷ l)) cell_back_bytes)

-- ---- a request

agent_bytes : AllBytes user_agent_bytes
unfolding user_agent_bytes
agent_bytes = headed_bytes 0x40 true 0 _ (headed_bytes 0x5D true 0 (end_bytes 0x5D) (end_bytes_lem 0x5D))

sub_request_bytes_lem : (kind id : ℕ) → AllBytes (sub_request_bytes kind id)
unfolding sub_request_bytes sub_request_data
sub_request_bytes_lem kind id =
    headed_bytes 0x42 true _ _
    (append_bytes (compact_bytes id) (compact_bytes kind ++ compact_bytes 0) (compact_bytes_lem id)
    (append_bytes (compact_bytes kind) (compact_bytes 0) (compact_bytes_lem kind) (compact_bytes_lem 0)))

identified_bytes_lem : (kind id : ℕ) → AllBytes (identified_bytes kind id)
unfolding identified_bytes
identified_bytes_lem kind id =
    append_bytes (version_bytes request_signature) _ (version_bytes_lem request_signature)
    (append_bytes user_agent_bytes (sub_request_bytes kind id) agent_bytes (sub_request_bytes_lem kind id))

query_bytes_lem : AllBytes query_bytes
unfolding query_bytes
query_bytes_lem = headed_bytes 0x51 false 1 (0 ∷ []) (one_byte 0 (lit< tt))

argument_bytes_lem : AllBytes argument_bytes
unfolding argument_bytes argument_data
argument_bytes_lem =
    headed_bytes 0x5B false _ _
    (cons_bytes 3 (extended_guid_bytes Null ++ extended_guid_bytes Null) (lit< tt)
    (append_bytes (extended_guid_bytes Null) (extended_guid_bytes Null) (extended_bytes Null) (extended_bytes Null)))

constraint_bytes_lem : (limit : ℕ) → AllBytes (constraint_bytes limit)
unfolding constraint_bytes
constraint_bytes_lem limit =
    pick_all (λ (l : List ℕ). AllBytes l) (eqb limit 0xFFFFFFFFFFFFFFFF) _ _ (λ e. no_bytes)
    (λ e. headed_bytes 0x59 false (length (compact_bytes limit)) (compact_bytes limit) (compact_bytes_lem limit))

front_bytes : (id : ℕ) → AllBytes (ask_front id)
unfolding ask_front
front_bytes id =
    append_bytes (identified_bytes 2 id) _ (identified_bytes_lem 2 id) (append_bytes query_bytes argument_bytes query_bytes_lem argument_bytes_lem)

ask_ends_bytes : AllBytes ask_ends
unfolding ask_ends
ask_ends_bytes = append_bytes (end_bytes 0x42) (end_bytes 0x40) (end_bytes_lem 0x42) (end_bytes_lem 0x40)

pub ask_bytes_lem : (id limit : ℕ) (f k : List ℕ) → AllBytes f → AllBytes k → AllBytes (ask_bytes id limit f k)
unfolding ask_bytes
ask_bytes_lem id limit f k a b =
    append_bytes (ask_front id) _ (front_bytes id)
    (append_bytes (constraint_bytes limit) _ (constraint_bytes_lem limit) (append_bytes f (k ++ ask_ends) a (append_bytes k ask_ends b ask_ends_bytes)))
