-- "Types by number (000, 2.2.1.5)", as document 01 lists them, and the two types of a filter's inside (000, 2.2.2.1.3.1); and what a
-- layout asks of a start: its compound bit, and whether there is room for one more such object.
-- Assumes nothing.
use Rattle.std.specs.Prelude.{Bool, true, false, ℕ}

-- ---- in a store and in a knowledge

abbrev pub element_type : ℕ
element_type = 0x01

abbrev pub package_type : ℕ
package_type = 0x15

abbrev pub knowledge_type : ℕ
knowledge_type = 0x10

abbrev pub specialized_type : ℕ
specialized_type = 0x44

abbrev pub cell_type : ℕ
cell_type = 0x14

abbrev pub range_type : ℕ
range_type = 0x0F

abbrev pub entry_type : ℕ
entry_type = 0x17

-- ---- in a request

abbrev pub request_type : ℕ
request_type = 0x40

abbrev pub user_agent_type : ℕ
user_agent_type = 0x5D

abbrev pub sub_request_type : ℕ
sub_request_type = 0x42

abbrev pub query_changes_type : ℕ
query_changes_type = 0x51

abbrev pub arguments_type : ℕ
arguments_type = 0x5B

abbrev pub constraint_type : ℕ
constraint_type = 0x59

abbrev pub filter_type : ℕ
filter_type = 0x47

-- what a filter of one type, and a filter of ids, have inside
abbrev pub filter_of_type_type : ℕ
filter_of_type_type = 0x57

abbrev pub filter_of_ids_type : ℕ
filter_of_ids_type = 0x54

-- ---- in an answer

abbrev pub response_type : ℕ
response_type = 0x62

abbrev pub sub_response_type : ℕ
sub_response_type = 0x41

abbrev pub changes_type : ℕ
changes_type = 0x5F

-- ---- what is asked of a start

-- its compound bit: there are objects inside, or there are none
abbrev pub compound_bit : Bool
compound_bit = true

abbrev pub plain_bit : Bool
plain_bit = false

-- whether the layout has room for one more: without it, 9
abbrev pub with_room : Bool
with_room = true

abbrev pub no_room : Bool
no_room = false
