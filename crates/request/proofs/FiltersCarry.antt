-- Filters depend only on their own bytes: what was read without fault, set down anywhere with no further filter behind it, is
-- read as the same filters.
-- Assumes nothing.
use mathlib.Core.Path.{◌≡◌, refl, sym, ap, subst, ◌∙◌}
use mathlib.Core.Bool.{Bool, true, false}
use mathlib.Core.List.{List, ◌++◌}
use Prim.Native.Nat.{ℕ, zero, suc, ◌+◌, ◌-◌, ◌≤◌, ◌<◌}
use native.Mathlib.Nat.{add-zero}
use native.Mathlib.Omega.{arith}
use lib.ListN.{length}
use lib.Seq.{drop-append_seam}
use lib.Dec.{eqb}
use Rattle.laws.specs.Pick.{pick}
use Rattle.laws.proofs.Agreement.{Same, same_less, same_on, same_whole}
use Rattle.laws.proofs.Cases.{by_bool, impossible}
use Rattle.numbers.specs.declared.refusal.Refusal.{Refusal}
use Rattle.objects.specs.Steps.{value_of, valued, start_here, run_here, closed_at, in_run, end_here, next_is}
use Rattle.objects.specs.Results.Reading.{At, Reading, Refused}
use Rattle.objects.proofs.StepsCarry.{Carries, Gives, carries_then, gives_first, gives_next, gives_value, gives_by, gives_both, carries_by, gives_by_first, gives_by_next, carries_start, gives_next_is, carries_end, carries_run, gives_run, opened_from, gives_other_start, gives_no_start}
use Rattle.store.specs.declared.element.Key.{Key}
use Rattle.request.specs.Filter.{filter_fields, one_number, type_part, ids_field, ids_part, kind_part, filter_start, filter_opened, filter_kind, filter_at, filters_from, request_padding}
use Rattle.request.specs.Meaning.{Filter, keys_in, filter_read, filters_read}
use Rattle.request.proofs.Whole.{filters_from_lem}

-- ---- a filter's own bytes

carries_opened : Carries filter_opened
unfolding filter_opened
carries_opened = carries_then (carries_start request_padding 0x42 0x47 true true) (carries_run (λ d. (filter_fields d).last))

gives_filter_run : Gives filter_opened (λ s c. run_here s (filter_start s c))
unfolding filter_opened
gives_filter_run = gives_next (carries_start request_padding 0x42 0x47 true true) (carries_run (λ d. (filter_fields d).last)) (gives_run (λ d. (filter_fields d).last))

gives_filter_kind : Gives filter_opened filter_kind
gives_filter_kind = gives_by (λ (d : List ℕ). (filter_fields d).kind) gives_filter_run

gives_opened_next : Gives filter_opened (λ s c. next_is s 0x47 c)
unfolding filter_opened
gives_opened_next = gives_first (carries_start request_padding 0x42 0x47 true true) (carries_run (λ d. (filter_fields d).last)) (gives_next_is request_padding 0x47 0x42 0x47 true true)

-- ---- the kind's own object

carries_type : Carries type_part
unfolding type_part
carries_type = carries_then (carries_start request_padding 0x47 0x57 false true) (carries_run one_number)

carries_ids : Carries ids_part
unfolding ids_part
carries_ids = carries_then (carries_start request_padding 0x47 0x54 false true) (carries_run ids_field)

-- the part of another kind is read as none, in any filter
abbrev ids_of : List ℕ → Reading → List Key
ids_of s c = keys_in (run_here s (start_here request_padding s 0x47 0x54 false true c))

no_ids : (s t : List ℕ) (r q : Refusal) → keys_in (run_here s (Refused r)) ≡ keys_in (run_here t (Refused q))
unfolding run_here
no_ids s t r q = refl

no_type : (s t : List ℕ) (r q : Refusal) → value_of (in_run s one_number (Refused r)) ≡ value_of (in_run t one_number (Refused q))
unfolding closed_at value_of
no_type s t r q = refl

-- up to the filter's end, by its kind
abbrev body_step : ℕ → List ℕ → Reading → Reading
body_step kind s c = end_here s 0x47 (kind_part s kind c)

record BodyCarry (step : List ℕ → Reading → Reading) : Type 0 where
  carries : Carries step
  type : Gives step (λ s c. value_of (type_part s c))
  ids : Gives step ids_of

gives_ids_of_type : Gives type_part ids_of
unfolding type_part
gives_ids_of_type =
    gives_first (carries_start request_padding 0x47 0x57 false true) (carries_run one_number)
    (gives_other_start request_padding (λ s c. keys_in (run_here s c)) no_ids 0x47 0x54 false true 0x47 0x57 false true refl)

type_body : BodyCarry (λ s c. end_here s 0x47 (type_part s c))
type_body =
    record {
      carries = carries_then carries_type (carries_end 0x47);
      type = gives_first carries_type (carries_end 0x47) (gives_value carries_type);
      ids = gives_first carries_type (carries_end 0x47) gives_ids_of_type;
    }

gives_type_of_ids : Gives ids_part (λ s c. value_of (type_part s c))
unfolding ids_part type_part
gives_type_of_ids =
    gives_first (carries_start request_padding 0x47 0x54 false true) (carries_run ids_field)
    (gives_other_start request_padding (λ s c. value_of (in_run s one_number c)) no_type 0x47 0x57 false true 0x47 0x54 false true refl)

gives_ids_of_ids : Gives ids_part ids_of
unfolding ids_part
gives_ids_of_ids =
    gives_by keys_in (gives_next (carries_start request_padding 0x47 0x54 false true) (carries_run ids_field) (gives_run ids_field))

ids_body : BodyCarry (λ s c. end_here s 0x47 (ids_part s c))
ids_body =
    record {
      carries = carries_then carries_ids (carries_end 0x47);
      type = gives_first carries_ids (carries_end 0x47) gives_type_of_ids;
      ids = gives_first carries_ids (carries_end 0x47) gives_ids_of_ids;
    }

gives_type_of_none : Gives (λ s c. end_here s 0x47 c) (λ s c. value_of (type_part s c))
unfolding type_part
gives_type_of_none = gives_no_start request_padding (λ s c. value_of (in_run s one_number c)) no_type 0x47 0x57 false true 0x47

bare_body : BodyCarry (λ s c. end_here s 0x47 c)
bare_body =
    record {
      carries = carries_end 0x47;
      type = gives_type_of_none;
      ids = gives_no_start request_padding (λ s c. keys_in (run_here s c)) no_ids 0x47 0x54 false true 0x47;
    }

body_by : (two six : Bool) → BodyCarry (λ s c. end_here s 0x47 (pick two (type_part s c) (pick six (ids_part s c) c)))
body_by true six = type_body
body_by false true = ids_body
body_by false false = bare_body

body_carry : (kind : ℕ) → BodyCarry (body_step kind)
unfolding kind_part
body_carry kind = body_by (eqb kind 2) (eqb kind 6)

-- ---- a filter

carries_filter : Carries filter_at
unfolding filter_at
carries_filter = carries_by carries_opened gives_filter_kind (λ kind. (body_carry kind).carries)

module _ {A : Type 0} {got : List ℕ → Reading → A} where
  gives_front : Gives filter_opened got → Gives filter_at got
  unfolding filter_at
  gives_front h = gives_by_first carries_opened gives_filter_kind (λ kind. (body_carry kind).carries) h

  gives_inner : ((kind : ℕ) → Gives (body_step kind) got) → Gives filter_at (λ s c. got s (filter_opened s c))
  unfolding filter_at
  gives_inner h = gives_by_next carries_opened gives_filter_kind (λ kind. (body_carry kind).carries) h

-- what the filter says, by its data run, its type and its ids
abbrev said : List ℕ → ℕ → List Key → Filter
said d type ids = record { kind = (filter_fields d).kind; operation = (filter_fields d).operation; type = type; ids = ids }

gives_filter : Gives filter_at filter_read
unfolding filter_read
gives_filter =
    gives_both (λ (f : List Key → Filter) (ids : List Key). f ids)
    (gives_both (λ (f : ℕ → List Key → Filter) (type : ℕ). f type) (gives_by said (gives_front gives_filter_run)) (gives_inner (λ kind. (body_carry kind).type)))
    (gives_inner (λ kind. (body_carry kind).ids))

gives_filter_next : Gives filter_at (λ s c. next_is s 0x47 c)
gives_filter_next = gives_front gives_opened_next

-- ---- so many filters

-- what the filters from p on took, and how many they are; no further one may stand behind them
record TookFilters (left : ℕ) (s : List ℕ) (p u q v : ℕ) : Type 0 where
  size : ℕ
  count : ℕ
  past : q ≡ p + size
  total : count + (16 - left) ≡ v
  there : (t : List ℕ) (p' : ℕ) → Same s p t p' size → next_is t 0x47 (At (p' + size) 0) ≡ false
      → (filters_from left t (At p' u) ≡ At (p' + size) v) × (filters_read count t (At p' u) ≡ filters_read count s (At p u))

next_any : (s : List ℕ) (kind p u v : ℕ) → next_is s kind (At p u) ≡ next_is s kind (At p v)
unfolding next_is
next_any s kind p u v = refl

filters_fault : (left : ℕ) (s : List ℕ) (r : Refusal) → filters_from left s (Refused r) ≡ Refused r
unfolding filters_from next_is valued
filters_fault zero s r = refl
filters_fault (suc left) s r = refl

none_more : (left : ℕ) (s : List ℕ) (p u : ℕ) → next_is s 0x47 (At p u) ≡ false → filters_from left s (At p u) ≡ At p (16 - left)
unfolding filters_from valued
none_more zero s p u e = rw e
none_more (suc left) s p u e = rw e

one_more : (left : ℕ) (s : List ℕ) (p u : ℕ) → next_is s 0x47 (At p u) ≡ true → filters_from (suc left) s (At p u) ≡ filters_from left s (filter_at s (At p u))
unfolding filters_from
one_more left s p u e = rw e

too_many : (s : List ℕ) (p u : ℕ) → next_is s 0x47 (At p u) ≡ true → filters_from 0 s (At p u) ≡ start_here request_padding s 0x42 0x47 true false (At p u)
unfolding filters_from
too_many s p u e = rw e

filters_stop : (left : ℕ) (s : List ℕ) (p u q v : ℕ) → next_is s 0x47 (At p u) ≡ false → filters_from left s (At p u) ≡ At q v → TookFilters left s p u q v
unfolding filters_read
filters_stop left s p u q v e h =
    let x : At p (16 - left) ≡ At q v = sym (none_more left s p u e) ∙ h in
    let y : p ≡ q = grind arith in
    let z : 16 - left ≡ v = grind arith in
    record {
      size = 0;
      count = 0;
      past = omega arith;
      total = omega arith;
      there =
          λ t p' a f.
          let g : next_is t 0x47 (At p' u) ≡ false = next_any t 0x47 p' u 0 ∙ (rw add-zero at f) in
          (rw (add-zero, ← z) (none_more left t p' u g), refl);
    }

filters_on : (left : ℕ) (s : List ℕ) (p u q v i x : ℕ) → left < 16 → next_is s 0x47 (At p u) ≡ true → filter_at s (At p u) ≡ At i x
    → TookFilters left s i x q v → TookFilters (suc left) s p u q v
unfolding filters_read
filters_on left s p u q v i x l e g h =
    let j = carries_filter.took s p u i x g in
    let y : filter_at s (At p u) ≡ At (p + j.size) x = g ∙ ap (λ (a : ℕ). At a x) j.past in
    record {
      size = j.size + h.size;
      count = suc h.count;
      past = h.past ∙ ap (λ (a : ℕ). a + h.size) j.past ∙ omega arith;
      total = let z = h.total in omega arith;
      there =
          λ t p' a f.
          let front = same_less s p t p' (j.size + h.size) j.size (omega arith) a in
          let behind : Same s i t (p' + j.size) h.size =
          subst (λ (z : ℕ). Same s z t (p' + j.size) h.size) (sym j.past) (same_on s p t p' j.size h.size a) in
          let w : p' + (j.size + h.size) ≡ p' + j.size + h.size = omega arith in
          let n : next_is t 0x47 (At (p' + j.size + h.size) 0) ≡ false = subst (λ (z : ℕ). next_is t 0x47 (At z 0) ≡ false) w f in
          let b : next_is t 0x47 (At p' u) ≡ true = gives_filter_next.alike s p u j.size x y t p' front ∙ e in
          let c : filter_at t (At p' u) ≡ At (p' + j.size) x = j.there t p' front in
          let o = h.there t (p' + j.size) behind n in
          let d : filter_read t (At p' u) ≡ filter_read s (At p u) = gives_filter.alike s p u j.size x y t p' front in
          let k : filters_read h.count t (filter_at t (At p' u)) ≡ filters_read h.count s (filter_at s (At p u)) =
          ap (filters_read h.count t) c ∙ o.1 ∙ ap (filters_read h.count s) (sym g) in
          (one_more left t p' u b ∙ ap (filters_from left t) c ∙ o.0 ∙ ap (λ (z : ℕ). At z v) (sym w), rw (d, k));
    }

filters_next : (left : ℕ) (s : List ℕ) (p u q v : ℕ) → left < 16 → next_is s 0x47 (At p u) ≡ true → (c : Reading) → filter_at s (At p u) ≡ c
    → filters_from left s c ≡ At q v → ((i x : ℕ) → filters_from left s (At i x) ≡ At q v → TookFilters left s i x q v) → TookFilters (suc left) s p u q v
filters_next left s p u q v l e (At i x) g k h = filters_on left s p u q v i x l e g (h i x k)
filters_next left s p u q v l e (Refused r) g k h = let z : Refused r ≡ At q v = sym (filters_fault left s r) ∙ k in impossible (cc)

filters_took : (left : ℕ) (s : List ℕ) (p u q v : ℕ) → left ≤ 16 → filters_from left s (At p u) ≡ At q v → TookFilters left s p u q v
filters_took zero s p u q v l h =
    by_bool (next_is s 0x47 (At p u))
    (λ e.
    let z : false ≡ true = (opened_from request_padding s 0x42 0x47 true false p u q v (sym (too_many s p u e) ∙ h)).free in
    impossible (cc))
    (λ e. filters_stop 0 s p u q v e h)
filters_took (suc left) s p u q v l h =
    by_bool (next_is s 0x47 (At p u))
    (λ e.
    filters_next left s p u q v (omega arith) e (filter_at s (At p u)) refl (sym (one_more left s p u e) ∙ h)
    (λ i x k. filters_took left s i x q v (omega arith) k))
    (λ e. filters_stop (suc left) s p u q v e h)

-- ---- set down anywhere

-- the number that was read before does not matter
filters_any : (left : ℕ) (s : List ℕ) (p u v : ℕ) → filters_from left s (At p u) ≡ filters_from left s (At p v)
unfolding filters_from filter_at filter_opened start_here next_is valued
filters_any zero s p u v = refl
filters_any (suc left) s p u v = refl

-- n filters of s, from p to q, set down at p' of t
pub filters_carry : (s : List ℕ) (p u q n : ℕ) → filters_from 16 s (At p u) ≡ At q n → (t : List ℕ) (p' v : ℕ) → Same s p t p' (q - p)
    → next_is t 0x47 (At (p' + (q - p)) 0) ≡ false
    → (filters_from 16 t (At p' v) ≡ At (p' + (q - p)) n) × (filters_read n t (At p' v) ≡ filters_read n s (At p u))
filters_carry s p u q n e t p' v a f =
    let k = filters_took 16 s p u q n (omega arith) e in
    let z : q - p ≡ k.size = let y = k.past in omega arith in
    let c : k.count ≡ n = let y = k.total in omega arith in
    let o = k.there t p' (rw z at a) (rw z at f) in
    let r : filters_read n t (At p' u) ≡ filters_read n s (At p u) = subst (λ (m : ℕ). filters_read m t (At p' u) ≡ filters_read m s (At p u)) c o.1 in
    (filters_any 16 t p' v u ∙ o.0 ∙ ap (λ (m : ℕ). At (p' + m) n) (sym z), filters_from_lem n t p' v u ∙ r)

-- a slice that holds filters only, between any others
pub filters_between : (f : List ℕ) (n : ℕ) → filters_from 16 f (At 0 0) ≡ At (length f) n → (pre post : List ℕ) (v : ℕ)
    → next_is (pre ++ (f ++ post)) 0x47 (At (length pre + length f) 0) ≡ false
    → (filters_from 16 (pre ++ (f ++ post)) (At (length pre) v) ≡ At (length pre + length f) n)
    × (filters_read n (pre ++ (f ++ post)) (At (length pre) v) ≡ filters_read n f (At 0 0))
filters_between f n e pre post v h =
    let t = pre ++ (f ++ post) in
    let a = same_whole f t (length pre) post (drop-append_seam pre (f ++ post)) in
    let z : length f - 0 ≡ length f = omega arith in
    subst
    (λ (m : ℕ).
    Same f 0 t (length pre) m → next_is t 0x47 (At (length pre + m) 0) ≡ false
    → (filters_from 16 t (At (length pre) v) ≡ At (length pre + m) n) × (filters_read n t (At (length pre) v) ≡ filters_read n f (At 0 0)))
    z (filters_carry f 0 0 (length f) n e t (length pre) v) a h
