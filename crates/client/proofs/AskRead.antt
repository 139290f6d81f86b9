-- A request that is written reads back as exactly what was handed in: the id, the limit, the filters and the knowledge.
-- Assumes nothing.
use mathlib.Core.Path.{◌≡◌, refl, sym, ap, ◌∙◌}
use mathlib.Core.Bool.{true, false}
use mathlib.Core.List.{List, [], ◌∷◌, ◌++◌, append_assoc, append-nil}
use Prim.Native.Nat.{ℕ, ◌+◌, ◌-◌, ◌^◌, ◌≤◌, ◌<◌}
use native.Mathlib.Nat.{zero-add}
use native.Mathlib.Omega.{arith}
use lib.ListN.{length, take, drop, length-drop, length-append, drop_of_length-le}
use lib.Seq.{take_all, take-append_seam, drop-append_seam}
use lib.Count.{count_trailing_zeros}
use borrow.Author.Tests.{le-ltb, eq-eqb, ne_eqb, eqb-true}
use Rattle.laws.specs.Bytes.{le}
use Rattle.laws.proofs.Cases.{by_bool, by_eq, impossible}
use Rattle.numbers.specs.Refusals.{longest_input}
use Rattle.numbers.specs.Compact.{compact_bytes}
use Rattle.numbers.specs.ExtendedGuid.{extended_guid_bytes, read_extended_guid, form_of_id}
use Rattle.objects.specs.Header.{start_bytes, end_bytes, header_at}
use Rattle.objects.specs.Nesting.{run_at}
use Rattle.objects.specs.Steps.{nothing_open, place_of, value_of, valued, need, fixed_in, number, null_id, start_here, length_is, start_of_length, end_here, start_is, next_is}
use Rattle.objects.specs.Results.Header.{ReadHeader}
use Rattle.objects.specs.Results.Header as header
use Rattle.objects.specs.Results.Passed as passed
use Rattle.objects.specs.Results.Reading.{At, Reading, Refused}
use Rattle.objects.proofs.Rules.{run_end}
use Rattle.objects.proofs.HeadersBack.{end_written}
use Rattle.objects.proofs.Written.{behind, Reads, reads_then, reads_valued, whole, reads_fixed, reads_number, reads_number_is, reads_skip, reads_run, finish_written}
use Rattle.objects.proofs.ObjectsWritten.{reads_start, reads_start_of_length, reads_end, reads_inside, next_start, next_end}
use Rattle.store.specs.Knowledge.{most_said, Knowing, knowing, knowledge_from, knowledge_at}
use Rattle.store.proofs.ElementWritten.{compact_most}
use Rattle.store.proofs.KnowledgeForward.{knowledge_end_lem}
use Rattle.store.proofs.KnowledgeCarry.{knowledge_carry}
use Rattle.request.specs.Filter.{one_number, filters_from, request_padding}
use Rattle.request.specs.Meaning.{filters_read}
use Rattle.request.specs.Message.{versions, request_signature, user_agent, sub_request_fields, sub_request, query_changes, argument_fields, arguments, constraint, knowledge_part, package_part, query_changes_request, identified, constrained_from, constrained, filtered, request_end, request_knowing, request_answer, request_in}
use Rattle.request.specs.Response.{version_bytes}
use Rattle.request.proofs.Turns.{filters_end}
use Rattle.request.proofs.FiltersCarry.{filters_between}
use Rattle.client.specs.AskWritten.{user_agent_bytes, sub_request_data, sub_request_bytes, identified_bytes, query_bytes, argument_data, argument_bytes, constraint_bytes, ask_front, ask_ends, ask_bytes}
use Rattle.client.specs.Ask.{filters_given, knowledge_of, knowledge_given}
use Rattle.client.specs.Back.{ReadBack}
use Rattle.client.proofs.AskLengths.{length_sub_data, length_arguments, no_constraint, a_constraint}
use Rattle.client.proofs.AskGiven.{knowledge_whole, started, filters_whole}

-- ---- the parts up to the constraint, each wherever it stands

abbrev versions_step : List ℕ → Reading → Reading
versions_step s c = fixed_in s 8 request_signature request_signature 7 (fixed_in s 2 0 12 7 (fixed_in s 2 12 0xFFFF 7 c))

versions_read : Reads versions_step 0 (version_bytes request_signature) request_signature
unfolding version_bytes
versions_read =
    reads_then (reads_fixed 0 2 12 0xFFFF 7 12 (omega arith) (omega arith) (omega arith))
    (reads_then (reads_fixed 12 2 0 12 7 11 (omega arith) (omega arith) (omega arith))
    (reads_fixed 11 8 request_signature request_signature 7 request_signature (omega arith) (omega arith) (omega arith)))

-- an empty user agent has only its end inside
nothing_inside : run_at request_padding (end_bytes 0x5D) 0 14 0x5D ≡ passed.To (length (end_bytes 0x5D))
nothing_inside =
    let w = end_bytes 0x5D in
    run_end request_padding w 0 14 0x5D (length w) (end_written w 0 0x5D [] (omega arith) (sym (append-nil w))) ∙ ap passed.To (zero-add (length w))

agent_read : (u : ℕ) → Reads user_agent u user_agent_bytes 0
unfolding user_agent user_agent_bytes
agent_read u =
    reads_then (reads_start_of_length request_padding u nothing_open 0x40 true 0 (omega arith) (omega arith))
    (reads_then (reads_start_of_length request_padding 0 0x40 0x5D true 0 (omega arith) (omega arith)) (reads_inside request_padding 0 14 0x5D (end_bytes 0x5D) nothing_inside))

-- the fields of a sub-request of any type
sub_fields : (kind id : ℕ) → kind < 2 ^ 64 → id < 2 ^ 64
    → sub_request_fields kind (compact_bytes id ++ (compact_bytes kind ++ compact_bytes 0)) ≡ At (length (compact_bytes id ++ (compact_bytes kind ++ compact_bytes 0))) id
unfolding sub_request_fields value_of
sub_fields kind id k h =
    let a = compact_bytes id in
    let b = compact_bytes kind ++ compact_bytes 0 in
    let x : number request_padding (a ++ b) (At 0 0) ≡ At (0 + length a) id = (reads_number request_padding 0 id h).here (a ++ b) 0 b refl in
    let y = (reads_valued id (reads_then (reads_number_is request_padding id kind 8 k) (reads_number request_padding kind 0 (omega arith)))).here (a ++ b) (0 + length a) [] (behind (a ++ b) 0 a b refl ∙ sym (append-nil b)) in
    rw x (y ∙ ap (λ (n : ℕ). At n id) (let l = length-append a b in omega arith))

sub_read : (kind u id : ℕ) → kind < 2 ^ 64 → id < 2 ^ 64 → Reads (sub_request kind) u (sub_request_bytes kind id) id
unfolding sub_request sub_request_bytes sub_request_data
sub_read kind u id k h =
    reads_then
    (reads_start request_padding u 0x40 0x42 true (length (sub_request_data kind id)) (omega arith) (omega (arith, length_sub_data kind id, compact_most id, compact_most kind)))
    (reads_run (sub_request_fields kind) (sub_request_data kind id) id (sub_fields kind id k h))

-- the front of a message of any type
pub front_identified : (kind id : ℕ) → kind < 2 ^ 64 → id < 2 ^ 64 → (s rest : List ℕ) → s ≡ identified_bytes kind id ++ rest
    → identified kind s ≡ At (length (identified_bytes kind id)) id
unfolding identified versions identified_bytes
front_identified kind id k h s rest e =
    (reads_then versions_read (reads_then (agent_read request_signature) (sub_read kind 0 id k h))).here s 0 rest e
    ∙ ap (λ (n : ℕ). At n id) (zero-add (length (identified_bytes kind id)))

query_read : (u : ℕ) → Reads query_changes u query_bytes 0
unfolding query_changes query_bytes
query_read u = reads_then (reads_start_of_length request_padding u 0x42 0x51 false 1 (omega arith) (omega arith)) (reads_skip 1 (0 ∷ []))

argument_fields_lem : argument_fields argument_data ≡ At (length argument_data) 0
unfolding argument_fields argument_data fixed_in need null_id value_of extended_guid_bytes read_extended_guid form_of_id count_trailing_zeros le
argument_fields_lem = refl

arguments_read : (u : ℕ) → Reads arguments u argument_bytes 0
unfolding arguments argument_bytes
arguments_read u =
    reads_then (reads_start request_padding u 0x42 0x5B false (length argument_data) (omega arith) (omega (arith, length_arguments)))
    (reads_run argument_fields argument_data 0 argument_fields_lem)

-- ---- a constraint, wherever it stands

one_number_lem : (v : ℕ) → v < 2 ^ 64 → one_number (compact_bytes v) ≡ At (length (compact_bytes v)) v
unfolding one_number
one_number_lem v h = whole (reads_number request_padding 0 v h)

constraint_read : (u limit : ℕ) → limit < 2 ^ 64 → (limit ≡ 0xFFFFFFFFFFFFFFFF → ⊥) → Reads constraint u (constraint_bytes limit) limit
unfolding constraint
constraint_read u limit h n =
    let d = compact_bytes limit in
    let w = start_bytes 0x59 false (length d) in
    let l : length d < 2 ^ 64 = omega (arith, compact_most limit) in
    record {
      here =
          λ s at t e.
          let e' : drop at s ≡ (w ++ d) ++ t = e ∙ ap (λ (x : List ℕ). x ++ t) (a_constraint limit n) in
          rw (next_start s at u 0x59 false (length d) (d ++ t) (omega arith) l (e' ∙ append_assoc w d t), a_constraint limit n)
          ((reads_then (reads_start request_padding u 0x42 0x59 false (length d) (omega arith) l) (reads_run one_number d limit (one_number_lem limit h))).here s at t e');
    }

-- ---- what stands next

other_header : (a b : ℕ) (h : ReadHeader) → (a ≡ b → ⊥) → start_is a h ≡ true → start_is b h ≡ false
other_header a b (header.Refused r) n e = refl
other_header a b (header.End k u) n e = refl
other_header a b (header.Start k c m u) n e = ne_eqb k b (λ i. n (sym (eqb-true k a e) ∙ i))

-- a start of one type is none of another
next_one : (s : List ℕ) (a b p u : ℕ) → (a ≡ b → ⊥) → next_is s a (At p u) ≡ true → next_is s b (At p u) ≡ false
unfolding next_is
next_one s a b p u n e = other_header a b (header_at s p) n e

-- where filters were read that take a byte, one stands next
filters_started : (s : List ℕ) (p u q v : ℕ) → p < q → filters_from 16 s (At p u) ≡ At q v → next_is s 0x47 (At p u) ≡ true
unfolding valued
filters_started s p u q v l e =
    by_bool (next_is s 0x47 (At p u)) (λ b. b)
    (λ b.
    let z : At p 0 ≡ At q v = sym (filters_end 0 s (At p u) (omega arith) b) ∙ e in
    let y : p ≡ q = grind arith in
    absurd (omega arith))

-- where a knowledge was read, one stands next
opened_of_length : (s : List ℕ) (outer kind n p u q v : ℕ) (c : Reading) → start_here request_padding s outer kind true true (At p u) ≡ c → length_is n p c ≡ At q v
    → next_is s kind (At p u) ≡ true
unfolding length_is
opened_of_length s outer kind n p u q v (At i w) e h = started s outer kind true true p u i w e
opened_of_length s outer kind n p u q v (Refused r) e h = impossible (cc)

knowledge_opened : (allowed depth : ℕ) (s t : List ℕ) (c : Reading) (q v : ℕ) → (knowledge_from request_padding depth s (knowing [] t allowed c)).last ≡ At q v
    → {P : Type 0} → ((i w : ℕ) → c ≡ At i w → P) → P
unfolding next_is end_here
knowledge_opened allowed depth s t (At i w) q v e f = f i w refl
knowledge_opened allowed depth s t (Refused r) q v e f =
    let z : Refused r ≡ At q v = sym (ap (λ (k : Knowing). k.last) (knowledge_end_lem request_padding depth s (knowing [] t allowed (Refused r)) refl)) ∙ e in
    impossible (cc)

knowledge_started : (allowed depth outer : ℕ) (s t : List ℕ) (p u q v : ℕ) → (knowledge_at request_padding allowed depth outer s t (At p u)).last ≡ At q v → next_is s 0x10 (At p u) ≡ true
unfolding knowledge_at start_of_length place_of
knowledge_started allowed depth outer s t p u q v e =
    knowledge_opened allowed depth s t (start_of_length request_padding s outer 0x10 true true 0 (At p u)) q v e
    (λ i w h. opened_of_length s outer 0x10 0 p u i w (start_here request_padding s outer 0x10 true true (At p u)) refl h)

-- ---- the knowledge, and the ends behind it

knowledge_any : (allowed depth outer : ℕ) (s t : List ℕ) (p u v : ℕ) → knowledge_at request_padding allowed depth outer s t (At p u) ≡ knowledge_at request_padding allowed depth outer s t (At p v)
unfolding knowledge_at start_of_length start_here place_of
knowledge_any allowed depth outer s t p u v = refl

record KnownThere (k s t : List ℕ) (at u : ℕ) : Type 0 where
  value : ℕ
  last : (knowledge_part s t (At at u)).last ≡ At (at + length k) value
  ranges : (knowledge_part s t (At at u)).ranges ≡ (knowledge_of k).ranges
  other : (kind : ℕ) → (0x10 ≡ kind → ⊥) → next_is s kind (At at u) ≡ false

module _ (k s t : List ℕ) (at u : ℕ) (stands : drop at s ≡ k ++ ask_ends) where
  none_there : length k ≡ 0 → KnownThere k s t at u
  unfolding knowledge_part knowledge_of ask_ends
  none_there e =
      let l : length k ≤ 0 = omega arith in
      let z : k ≡ [] = drop_of_length-le k {i = 0} l in
      let h : drop at s ≡ end_bytes 0x42 ++ end_bytes 0x40 = stands ∙ ap (λ (x : List ℕ). x ++ (end_bytes 0x42 ++ end_bytes 0x40)) z in
      let i : at ≡ at + length k = omega arith in
      let n = next_end s at u 0x10 0x42 (end_bytes 0x40) (omega arith) h in
      record {
        value = u;
        last = rw n (ap (λ (x : ℕ). At x u) i);
        ranges = rw (n, eq-eqb _ _ e);
        other = λ kind d. next_end s at u kind 0x42 (end_bytes 0x40) (omega arith) h;
      }

  some_there : (q v : ℕ) → knowledge_given k ≡ At q v → (length k ≡ 0 → ⊥) → KnownThere k s t at u
  unfolding knowledge_part knowledge_of
  some_there q v g n =
      let w = knowledge_whole k q v g n in
      let z : length k - 0 ≡ length k = omega arith in
      let a : take (length k - 0) (drop at s) ≡ take (length k - 0) (drop 0 k) =
      rw (z, stands) (take-append_seam k ask_ends ∙ sym (take_all (length k) k (omega arith))) in
      let l : at + (length k - 0) ≤ length s = omega (arith, length-drop at s, ap length stands, length-append k ask_ends) in
      let c = knowledge_carry request_padding most_said 12 0x42 k [] t 0 0 (length k) w.value w.read s at a l in
      let y : (knowledge_at request_padding most_said 12 0x42 s t (At at u)).last ≡ At (at + length k) w.value =
      ap (λ (m : Knowing). m.last) (knowledge_any most_said 12 0x42 s t at u 0) ∙ c.0 ∙ ap (λ (m : ℕ). At (at + m) w.value) z in
      let o : next_is s 0x10 (At at u) ≡ true = knowledge_started most_said 12 0x42 s t at u _ _ y in
      record {
        value = w.value;
        last = rw o y;
        ranges = rw (o, ne_eqb _ _ n) (ap (λ (m : Knowing). m.ranges) (knowledge_any most_said 12 0x42 s t at u 0) ∙ c.1);
        other = λ kind d. next_one s 0x10 kind at u d o;
      }

  known_there : (q v : ℕ) → knowledge_given k ≡ At q v → KnownThere k s t at u
  known_there q v g = by_eq (length k) 0 none_there (some_there q v g)

ended_there : (s : List ℕ) (x u : ℕ) → drop x s ≡ ask_ends → request_end s (At x u) ≡ At (x + length (end_bytes 0x42) + length (end_bytes 0x40)) 0
unfolding request_end package_part ask_ends
ended_there s x u h =
    let e = end_bytes 0x42 in
    let g = end_bytes 0x40 in
    let y = x + length e in
    let b : drop y s ≡ g ++ [] = behind s x e g h ∙ sym (append-nil g) in
    rw ((reads_end u 0x42 (omega arith)).here s x g h, next_end s y 0 0x15 0x40 [] (omega arith) b, (reads_end 0 0x40 (omega arith)).here s y [] b)
    (finish_written s (y + length g) 0 (behind s y g [] b))

-- ---- the front of a request

module _ (id : ℕ) (fits : id < 2 ^ 64) where
  -- to the sub-request's fields, and from there to the constraint
  abbrev naming : List ℕ
  naming = identified_bytes query_changes_request id

  abbrev asking : List ℕ
  asking = query_bytes ++ argument_bytes

  front_apart : (rest : List ℕ) → ask_front id ++ rest ≡ naming ++ (asking ++ rest)
  unfolding ask_front
  front_apart rest = simp append_assoc

  front_long : length (ask_front id) ≡ length naming + length asking
  front_long =
      sym (ap length (append-nil (ask_front id))) ∙ ap length (front_apart []) ∙ length-append naming (asking ++ [])
      ∙ ap (λ (w : List ℕ). length naming + length w) (append-nil asking)

  module _ (s rest : List ℕ) (stands : s ≡ ask_front id ++ rest) where
    named : identified query_changes_request s ≡ At (length naming) id
    named = front_identified query_changes_request id (omega arith) fits s (asking ++ rest) (stands ∙ front_apart rest)

    to_constraint : constrained s ≡ constraint s (At (length (ask_front id)) 0)
    unfolding constrained_from
    to_constraint =
        let d : drop (length naming) s ≡ asking ++ rest =
        ap (drop (length naming)) (stands ∙ front_apart rest) ∙ drop-append_seam naming (asking ++ rest) in
        rw named
        (ap (constraint s)
        ((reads_then (query_read id) (arguments_read 0)).here s (length naming) rest d ∙ ap (λ (n : ℕ). At n 0) (sym front_long)))

-- ---- the whole

module _ (id limit : ℕ) (f k : List ℕ) (p n q v : ℕ) (fits : id < 2 ^ 64) (limited : limit < 2 ^ 64) (filters : filters_given f ≡ At p n)
    (knows : knowledge_given k ≡ At q v) (s : List ℕ) (is : s ≡ ask_bytes id limit f k) (t : List ℕ) where
  -- where the constraint stands, the filters, the knowledge and the ends
  abbrev first : ℕ
  first = length (ask_front id)

  abbrev from : ℕ
  from = first + length (constraint_bytes limit)

  constraint_stands : drop first s ≡ constraint_bytes limit ++ (f ++ (k ++ ask_ends))
  unfolding ask_bytes
  constraint_stands = ap (drop first) is ∙ drop-append_seam (ask_front id) (constraint_bytes limit ++ (f ++ (k ++ ask_ends)))

  filters_stand : drop from s ≡ f ++ (k ++ ask_ends)
  filters_stand = behind s first (constraint_bytes limit) (f ++ (k ++ ask_ends)) constraint_stands

  knowledge_stands : drop (from + length f) s ≡ k ++ ask_ends
  knowledge_stands = behind s from f (k ++ ask_ends) filters_stand

  there : KnownThere k s t (from + length f) n
  there = known_there k s t (from + length f) n knowledge_stands q v knows

  filters_read_lem : (u : ℕ) → (filters_from 16 s (At from u) ≡ At (from + length f) n) × (filters_read n s (At from u) ≡ filters_read n f (At 0 0))
  unfolding ask_bytes
  filters_read_lem u =
      let front = ask_front id ++ constraint_bytes limit in
      let e : front ++ (f ++ (k ++ ask_ends)) ≡ s = append_assoc (ask_front id) (constraint_bytes limit) (f ++ (k ++ ask_ends)) ∙ sym is in
      let l : length front ≡ from = length-append (ask_front id) (constraint_bytes limit) in
      let z : next_is s 0x47 (At (from + length f) 0) ≡ false =
      (known_there k s t (from + length f) 0 knowledge_stands q v knows).other 0x47 (λ i. omega arith) in
      rw (e, l) at (filters_between f n (filters_whole f p n filters).read front (k ++ ask_ends) u (rw (e, l) z))

  -- a filter, the knowledge or an end stands behind the constraint, and no other constraint
  no_other : (u : ℕ) → next_is s 0x59 (At from u) ≡ false
  no_other u =
      by_eq (length f) 0
      (λ e.
      let i : from + length f ≡ from = omega arith in
      rw i at ((known_there k s t (from + length f) u knowledge_stands q v knows).other 0x59 (λ i. omega arith)))
      (λ e. next_one s 0x47 0x59 from u (λ i. omega arith) (filters_started s from u (from + length f) n (omega arith) (filters_read_lem u).0))

  no_constraint_there : limit ≡ 0xFFFFFFFFFFFFFFFF → constraint s (At first 0) ≡ At from limit
  unfolding constraint valued
  no_constraint_there e =
      let i : from ≡ first = let l = ap length (no_constraint limit e) in omega arith in
      let z : next_is s 0x59 (At first 0) ≡ false = rw i at (no_other 0) in
      rw (z, i, e)

  constrained_is : constrained s ≡ At from limit
  unfolding ask_bytes
  constrained_is =
      to_constraint id fits s (constraint_bytes limit ++ (f ++ (k ++ ask_ends))) is
      ∙ by_eq limit 0xFFFFFFFFFFFFFFFF no_constraint_there
      (λ d. (constraint_read 0 limit limited d).here s first (f ++ (k ++ ask_ends)) constraint_stands)

  filtered_is : filtered s ≡ At (from + length f) n
  filtered_is = ap (filters_from 16 s) constrained_is ∙ (filters_read_lem limit).0

  knowing_is : length s ≤ longest_input → request_knowing s t ≡ knowledge_part s t (At (from + length f) n)
  unfolding request_knowing
  knowing_is l = rw (le-ltb _ _ l, filtered_is)

  all_read : length s ≤ longest_input → ReadBack id limit f k n s t
  unfolding request_in request_answer value_of place_of ask_bytes
  all_read l =
      let r : (request_knowing s t).ranges ≡ (knowledge_of k).ranges = ap (λ (m : Knowing). m.ranges) (knowing_is l) ∙ there.ranges in
      let e : (request_knowing s t).last ≡ At (from + length f + length k) there.value = ap (λ (m : Knowing). m.last) (knowing_is l) ∙ there.last in
      let i : identified query_changes_request s ≡ At (length (naming id fits)) id = named id fits s (constraint_bytes limit ++ (f ++ (k ++ ask_ends))) is in
      let d = ended_there s (from + length f + length k) there.value (behind s (from + length f) k ask_ends knowledge_stands) in
      record {
        answer = rw (e, d, r, filtered_is, constrained_is, i);
        filters = rw (filtered_is, constrained_is) (filters_read_lem limit).1;
        known = r;
      }

-- what is written is read back, whatever stands in the table
pub ask_read : (id limit : ℕ) (f k : List ℕ) (p n q v : ℕ) → id < 2 ^ 64 → limit < 2 ^ 64 → filters_given f ≡ At p n → knowledge_given k ≡ At q v
    → length (ask_bytes id limit f k) ≤ longest_input → (t : List ℕ) → ReadBack id limit f k n (ask_bytes id limit f k) t
ask_read id limit f k p n q v fits limited filters knows l t = all_read id limit f k p n q v fits limited filters knows (ask_bytes id limit f k) refl t l
