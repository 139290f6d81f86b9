-- What is handed in to be sent: an over-long input is refused, and what was judged well is a whole knowledge, or filters and nothing
-- else. Then what writing answers, case by case.
-- Assumes nothing.
use mathlib.Core.Path.{◌≡◌, refl, sym, subst, ◌∙◌}
use mathlib.Core.Bool.{Bool, true, false}
use mathlib.Core.List.{List, []}
use Prim.Native.Nat.{ℕ, zero, suc, ◌-◌, ◌≤◌}
use native.Mathlib.Omega.{arith}
use lib.ListN.{length}
use borrow.Author.Tests.{lt-ltb, le-ltb, eq-eqb, ne_eqb}
use Rattle.laws.specs.Placed.{laid}
use Rattle.laws.proofs.Cases.{by_bool, by_lt, impossible}
use Rattle.laws.proofs.Placing.{laid_front}
use Rattle.numbers.specs.Refusals.{longest_input, over_long}
use Rattle.numbers.specs.declared.refusal.Refusal.{Refusal}
use Rattle.numbers.specs.Results.Wrote.{Wrote}
use Rattle.numbers.specs.Results.Wrote as wrote
use Rattle.objects.specs.Steps.{no, valued, start_here, next_is, finish, Good}
use Rattle.objects.specs.Results.Reading.{At, Reading, Refused}
use Rattle.objects.proofs.Keep.{good_front}
use Rattle.objects.proofs.StepsCarry.{opened_from}
use Rattle.store.specs.Knowledge.{most_said, knowledge_at}
use Rattle.store.proofs.KnowledgeHeld.{onward_knowledge}
use Rattle.request.specs.Filter.{filter_at, filters_from, request_padding}
use Rattle.request.specs.Message.{in_request}
use Rattle.request.proofs.Places.{good_filters}
use Rattle.client.specs.AskWritten.{ask_bytes}
use Rattle.client.specs.Ask.{no_more, filters_given, knowledge_of, knowledge_given, room_for, written_in, judged_second, judged_first, ask_wrote, ask_output, WroteAs, WritesRequest}

-- ---- neither input is over-long

pub filters_short : (f : List ℕ) (p n : ℕ) → filters_given f ≡ At p n → length f ≤ longest_input
unfolding filters_given
filters_short f p n h =
    by_lt longest_input (length f) (λ l. let z : Refused over_long ≡ At p n = rw (lt-ltb _ _ l) at h in impossible (cc)) (λ l. l)

pub knowledge_short : (k : List ℕ) (q v : ℕ) → knowledge_given k ≡ At q v → length k ≤ longest_input
unfolding knowledge_given
knowledge_short k q v h =
    by_lt longest_input (length k) (λ l. let z : Refused over_long ≡ At q v = rw (lt-ltb _ _ l) at h in impossible (cc)) (λ l. l)

-- ---- the knowledge

pub given_none : (k : List ℕ) → length k ≤ longest_input → length k ≡ 0 → At 0 0 ≡ knowledge_given k
unfolding knowledge_given knowledge_of valued finish
given_none k h e = let l : length k ≤ 0 = omega arith in rw (le-ltb _ _ h, eq-eqb _ _ e, le-ltb _ _ l)

pub given_some : (k : List ℕ) → length k ≤ longest_input → (length k ≡ 0 → ⊥) → finish k (valued 0 (knowledge_at request_padding most_said 12 0x42 k [] (At 0 0)).last) ≡ knowledge_given k
unfolding knowledge_given knowledge_of
given_some k h n = rw (le-ltb _ _ h, ne_eqb _ _ n)

-- what was read is all of it, to the last byte
pub record AllRead (k : List ℕ) (c : Reading) : Type 0 where
  pub value : ℕ
  pub read : c ≡ At (length k) value

finished : (k : List ℕ) (c : Reading) (q v : ℕ) → Good k c → finish k (valued 0 c) ≡ At q v → AllRead k c
unfolding valued finish
finished k (At e w) q v g h =
    by_lt e (length k)
    (λ l. let z : no 5 e ≡ At q v = rw (lt-ltb _ _ l) at h in impossible (cc))
    (λ l. let z : e ≡ length k = omega arith in record { value = w; read = rw z })
finished k (Refused r) q v g h = impossible (cc)

pub knowledge_whole : (k : List ℕ) (q v : ℕ) → knowledge_given k ≡ At q v → (length k ≡ 0 → ⊥) → AllRead k (knowledge_at request_padding most_said 12 0x42 k [] (At 0 0)).last
knowledge_whole k q v h n =
    finished k (knowledge_at request_padding most_said 12 0x42 k [] (At 0 0)).last q v ((onward_knowledge request_padding most_said 12 0x42 k [] (At 0 0)).good (good_front k 0))
    (given_some k (knowledge_short k q v h) n ∙ h)

-- ---- the filters

-- where a start of a type is read, one stands next
pub started : (s : List ℕ) (outer kind : ℕ) (compound room : Bool) (p u q v : ℕ) → start_here request_padding s outer kind compound room (At p u) ≡ At q v
    → next_is s kind (At p u) ≡ true
unfolding next_is
started s outer kind compound room p u q v e = rw ((opened_from request_padding s outer kind compound room p u q v e).start, eq-eqb kind kind refl)

-- with no room for one more none is read
pub too_many : {P : Type 0} (s : List ℕ) (outer kind : ℕ) (c : Reading) (q v : ℕ) → start_here request_padding s outer kind true false c ≡ At q v → P
unfolding start_here
too_many s outer kind (At p u) q v e = let z : false ≡ true = (opened_from request_padding s outer kind true false p u q v e).free in impossible (cc)
too_many s outer kind (Refused r) q v e = impossible (cc)

pub valued_next : (s : List ℕ) (kind w : ℕ) (c : Reading) (q v : ℕ) → valued w c ≡ At q v → next_is s kind c ≡ false → next_is s kind (At q v) ≡ false
unfolding valued next_is
valued_next s kind w (At p u) q v e h = let z : p ≡ q = grind arith in rw (← z) h
valued_next s kind w (Refused r) q v e h = impossible (cc)

-- no filter stands where reading them ended
stopped : (left : ℕ) (s : List ℕ) (c : Reading) (q v : ℕ) → filters_from left s c ≡ At q v → next_is s 0x47 (At q v) ≡ false
unfolding filters_from
stopped zero s c q v e =
    by_bool (next_is s 0x47 c) (λ b. too_many s 0x42 0x47 c q v (rw b at e)) (λ b. valued_next s 0x47 16 c q v (rw b at e) b)
stopped (suc left) s c q v e =
    by_bool (next_is s 0x47 c) (λ b. stopped left s (filter_at s c) q v (rw b at e)) (λ b. valued_next s 0x47 (16 - suc left) c q v (rw b at e) b)

-- they are all of the first input
pub record AllFilters (f : List ℕ) (p n : ℕ) : Type 0 where
  pub short : length f ≤ longest_input
  pub place : p ≡ length f
  pub read : filters_from 16 f (At 0 0) ≡ At (length f) n

no_byte_left : (f : List ℕ) (p n : ℕ) (c : Reading) → length f ≤ longest_input → filters_from 16 f (At 0 0) ≡ c → no_more 0x42 0x47 f c ≡ At p n → AllFilters f p n
unfolding no_more
no_byte_left f p n (At q m) s e h =
    by_lt q (length f)
    (λ l.
    let z : start_here request_padding f 0x42 0x47 true true (At q m) ≡ At p n = rw (lt-ltb _ _ l) at h in
    let a : next_is f 0x47 (At q m) ≡ false = stopped 16 f (At 0 0) q m e in
    let b : next_is f 0x47 (At q m) ≡ true = started f 0x42 0x47 true true q m p n z in
    impossible (cc))
    (λ l.
    let z : At q m ≡ At p n = rw (le-ltb _ _ l) at h in
    let g : Good f (At q m) = subst (Good f) e (good_filters 16 f (At 0 0) (good_front f 0)) in
    let i : q ≡ p = grind arith in
    let j : m ≡ n = grind arith in
    let w : q ≡ length f = omega arith in
    record { short = s; place = sym i ∙ w; read = e ∙ rw (w, j) })
no_byte_left f p n (Refused r) s e h = impossible (cc)

pub filters_whole : (f : List ℕ) (p n : ℕ) → filters_given f ≡ At p n → AllFilters f p n
unfolding filters_given
filters_whole f p n h =
    let s = filters_short f p n h in
    no_byte_left f p n (filters_from 16 f (At 0 0)) s refl (rw (le-ltb _ _ s) at h)

-- ---- what writing answers, of inputs that were judged

pub sent_not : (room needed : ℕ) (w out : List ℕ) (r : Refusal) → needed ≡ length w → room_for room needed ≡ wrote.Refused r
    → WroteAs (written_in room w) w (wrote.Refused r) out out
unfolding written_in ask_output
sent_not room needed w out r e h = let z : room_for room (length w) ≡ wrote.Refused r = rw e at h in rw z (refl, refl)

-- there is room for so many
pub has_room : (room needed n : ℕ) → room_for room needed ≡ wrote.Done n → (n ≡ needed) × (needed ≤ longest_input) × (needed ≤ room)
has_room room needed n h =
    by_lt longest_input needed (λ l. let z = rw (lt-ltb longest_input needed l) at h in impossible (cc))
    (λ l.
    by_lt room needed (λ k. let z = rw (le-ltb longest_input needed l, lt-ltb room needed k) at h in impossible (cc))
    (λ k.
    let z : wrote.Done needed ≡ wrote.Done n = rw (le-ltb longest_input needed l, le-ltb room needed k) at h in
    (cc, l, k)))

pub sent_done : (room : ℕ) (w out : List ℕ) → length w ≤ longest_input → length w ≤ room → WroteAs (written_in room w) w (wrote.Done (length w)) out (laid 0 w out)
unfolding written_in ask_output
sent_done room w out h l = rw (le-ltb _ _ h, le-ltb _ _ l) (refl, laid_front w out)

-- ---- and of any

module _ (id limit : ℕ) (f k out : List ℕ) where
  pub filters_refused : (r : Refusal) → filters_given f ≡ Refused r → WritesRequest id limit f k (wrote.Refused r) out out
  unfolding ask_wrote judged_first ask_output
  filters_refused r e = rw e (refl, refl)

  pub knowledge_refused : (p n : ℕ) (r : Refusal) → filters_given f ≡ At p n → knowledge_given k ≡ Refused r → WritesRequest id limit f k (wrote.Refused (in_request r)) out out
  unfolding ask_wrote judged_first judged_second ask_output
  knowledge_refused p n r e g = rw (e, g) (refl, refl)

  pub both_judged : (p n q v : ℕ) (r : Wrote) (out' : List ℕ) → filters_given f ≡ At p n → knowledge_given k ≡ At q v
      → WroteAs (written_in (length out) (ask_bytes id limit f k)) (ask_bytes id limit f k) r out out' → WritesRequest id limit f k r out out'
  unfolding ask_wrote judged_first judged_second
  both_judged p n q v r out' e g h = rw (e, g) h
