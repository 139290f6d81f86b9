-- What a request says that was read from bytes: its id is a number of 64 bits, and what is known are at most 512 ranges of such
-- numbers, in normal form.
-- Assumes nothing.
use mathlib.Core.Path.{◌≡◌}
use mathlib.Core.Bool.{true}
use mathlib.Core.List.{List}
use Prim.Native.Nat.{ℕ, ◌^◌, ◌≤◌, ◌<◌}
use native.Mathlib.Omega.{arith}
use lib.ListN.{length, replicate, length-replicate}
use lib.Dec.{ltb}
use Rattle.request.specs.Filter.{request_padding}
use Rattle.laws.specs.Bytes.{AllBytes}
use Rattle.laws.proofs.Cases.{pick_all}
use Rattle.numbers.specs.Refusals.{longest_input}
use Rattle.objects.specs.Steps.{value_of, valued, start_here, run_here, closed_at, closed, next_is}
use Rattle.objects.specs.Steps as steps
use Rattle.objects.specs.Results.Reading.{At, Reading, Refused}
use Rattle.talk.specs.Ranges.{Normal, AllFit}
use Rattle.store.specs.Knowledge.{most_said, said_numbers, Knowing}
use Rattle.store.proofs.KnowledgeFits.{number_fits, run_bytes, knowledge_fits}
use Rattle.request.specs.Message.{versions, request_signature, user_agent, sub_request_fields, sub_request, query_changes_request, identified, knowledge_part, filtered, request_knowing, request_in}
use Rattle.request.specs.Results.Request as request
use Rattle.request.proofs.Whole.{request_table_free, request_held, asked_id}

-- ---- the id

-- a number that is carried on, or 0 after a fault
valued_fits : (v n : ℕ) (c : Reading) → v < n → value_of (valued v c) < n
unfolding valued value_of
valued_fits v n (At p u) h = h
valued_fits v n (Refused r) h = omega arith

closed_fits : (s : List ℕ) (c f : Reading) (n : ℕ) → 0 < n → value_of f < n → value_of (closed s c f) < n
unfolding closed_at value_of
closed_fits s (Refused r) f n z h = z
closed_fits s (At from m) (Refused r) n z h = z
closed_fits s (At from m) (At p v) n z h =
    pick_all (λ (c : Reading). value_of c < n) (ltb p _) _ _ (λ e. z) (λ e. pick_all (λ (c : Reading). value_of c < n) (ltb _ m) _ _ (λ g. z) (λ g. h))

fields_fit : (kind : ℕ) (d : List ℕ) → AllBytes d → value_of (sub_request_fields kind d) < 2 ^ 64
unfolding sub_request_fields
fields_fit kind d b = valued_fits (value_of (steps.number request_padding d (At 0 0))) (2 ^ 64) _ (number_fits request_padding d (At 0 0) b)

pub identified_fits : (kind : ℕ) (s : List ℕ) → AllBytes s → value_of (identified kind s) < 2 ^ 64
unfolding identified sub_request
identified_fits kind s b =
    let o = start_here request_padding s 0x40 0x42 true true (user_agent s (versions request_signature s)) in
    closed_fits s o (sub_request_fields kind (run_here s o)) (2 ^ 64) (omega arith) (fields_fit kind (run_here s o) (run_bytes s o b))

pub id_fits : (s t : List ℕ) (id limit place count known : ℕ) → AllBytes s → request_in s t ≡ request.Asked id limit place count known → id < 2 ^ 64
id_fits s t id limit place count known b h = rw (asked_id s t id limit place count known h) at (identified_fits query_changes_request s b)

-- ---- the ranges

pub known_fit : (s t : List ℕ) → AllBytes s → AllFit (request_knowing s t).ranges
unfolding request_knowing knowledge_part AllFit
known_fit s t b =
    pick_all (λ (k : Knowing). AllFit k.ranges) (ltb longest_input (length s)) _ _ (λ e. tt)
    (λ e. pick_all (λ (k : Knowing). AllFit k.ranges) (next_is s 0x10 (filtered s)) _ _ (λ f. knowledge_fits request_padding most_said 12 0x42 s t (filtered s) b) (λ f. tt))

-- whatever the table
pub known_normal : (s t : List ℕ) → Normal (request_knowing s t).ranges × (length (request_knowing s t).ranges ≤ most_said)
known_normal s t =
    let r : List ℕ = replicate said_numbers 0 in
    let l : said_numbers ≤ length r = let e : length r ≡ said_numbers = length-replicate {A = ℕ} said_numbers 0 in omega arith in
    let h = request_held s r l in
    let m : length (request_knowing s r).ranges ≤ most_said = let g = h.room in omega arith in
    rw (request_table_free s t r).1 (h.normal, m)
