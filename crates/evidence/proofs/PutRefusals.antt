-- A put is refused exactly for the reasons that `WhyPut` lists, and each refusal is a `PutFault`: one of the numbers of document 01 or Q-1,
-- with a place within the input that it names.
-- Assumes nothing.
use mathlib.Core.Path.{◌≡◌, refl, sym, ap, subst, ◌∙◌}
use mathlib.Core.Bool.{false}
use mathlib.Core.List.{List, [], ◌∷◌}
use mathlib.Core.Logic.{◌⊎◌, inl, inr, ⊎_elim}
use Prim.Native.Nat.{ℕ, ◌≤◌}
use native.Mathlib.Omega.{arith}
use lib.ListN.{length}
use borrow.Author.Tests.{lt-ltb, le-ltb}
use Rattle.laws.proofs.Cases.{by_bool, by_lt, pick_all, impossible}
use Rattle.numbers.specs.Refusals.{fault_at, too_short, longest_input}
use Rattle.numbers.specs.declared.guid.Guid.{Guid}
use Rattle.numbers.specs.declared.refusal.Refusal.{Refusal}
use Rattle.numbers.specs.Results.ExtendedGuid.{ExtendedGuid}
use Rattle.objects.specs.Steps.{next_is, Good}
use Rattle.objects.specs.Results.Reading.{At, Reading, Refused}
use Rattle.objects.proofs.Keep.{onward_end, onward_finish}
use Rattle.objects.proofs.InputFaults.{InputFault, InputTold, input_fault, input_told}
use Rattle.store.specs.Held.{storage_index}
use Rattle.store.specs.Store.{Walk, store_walk, Stands}
use Rattle.store.specs.Tables.{most_elements}
use Rattle.store.specs.declared.element.Element.{Element}
use Rattle.store.proofs.Places.{package_good, store_fault}
use Rattle.request.specs.Message.{in_request}
use Rattle.puts.specs.Applied.{Outcome, refused, entered, last_number, same_id, on_put, on_store, put_outcome}
use Rattle.puts.specs.Put.{before_package, put_strictness, put_package, put_end, put_front, handed_in, put_walk, put_read, put_in}
use Rattle.puts.proofs.PutParts.{good_front_put, good_before_package}
use Rattle.puts.proofs.Refusals.{index_expected, fifteen, sixteen, nine, one, fourteen, nothing_refused}
use Rattle.evidence.specs.Puts.{elements_behind, store_behind, answer_to, PutFault, BothRead, Expects, last_given, WhyPut}
use Rattle.evidence.specs.Talk.{elements_of}

-- ---- a fault of the put

put_good : (q : List ℕ) → Good q (put_end q (handed_in q).last)
unfolding put_end put_package
put_good q =
    let c = before_package q (put_front q).last in
    let g : Good q c = good_before_package q (put_front q).last (good_front_put q) in
    (onward_finish q _).good
    ((onward_end q 0x40 _).good (pick_all (λ (k : Walk). Good q k.last) (next_is q 0x15 c) _ _ (λ e. package_good put_strictness 0x40 q c g) (λ e. g)))

pub put_fault : (q : List ℕ) (r : Refusal) → (put_walk q).last ≡ Refused r → InputFault longest_input q r
unfolding put_walk
put_fault q r h =
    input_fault longest_input q (put_walk q).last (put_end q (handed_in q).last) r (λ l. rw (lt-ltb longest_input (length q) l))
    (λ l. rw (le-ltb longest_input (length q) l)) (put_good q) h

-- ---- what is refused is a fault

of_store : (s q : List ℕ) (r : Refusal) → InputTold s r → PutFault (s ∷ q ∷ []) r
of_store s q r t =
    let m = t.most in
    record {
      least = t.least;
      most = omega arith;
      no_table = λ e. omega arith;
      input = rw t.input (omega arith);
      place = rw t.input t.place;
      needed = λ z. t.needed;
    }

of_put : (s q : List ℕ) (r : Refusal) → InputTold q r → PutFault (s ∷ q ∷ []) (in_request r)
of_put s q r t =
    let m = t.most in
    record { least = t.least; most = omega arith; no_table = λ e. omega arith; input = omega arith; place = t.place; needed = λ z. t.needed }

-- at the front of the store: it falls on no item
of_none : (s q : List ℕ) (k : ℕ) → 1 ≤ k → k ≤ 16 → (k ≡ 13 → ⊥) → PutFault (s ∷ q ∷ []) (fault_at k 0)
of_none s q k a b n = record { least = a; most = b; no_table = n; input = omega arith; place = omega arith; needed = λ z. refl }

of_short : (s q : List ℕ) (n : ℕ) → PutFault (s ∷ q ∷ []) (too_short n)
of_short s q n =
    record { least = omega arith; most = omega arith; no_table = λ e. omega arith; input = omega arith; place = omega arith; needed = λ z. absurd (z refl) }

pub why_put_fault : (s q : List ℕ) (g : Guid) (storeRoom room : ℕ) (r : Refusal) → WhyPut s q g storeRoom room r → PutFault (s ∷ q ∷ []) r
why_put_fault s q g storeRoom room r (WhyPut.store h) = of_store s q r (input_told longest_input s r (store_fault s r h))
why_put_fault s q g storeRoom room r (WhyPut.put x a h e) = rw e (of_put s q x (input_told longest_input q x (put_fault q x h)))
why_put_fault s q g storeRoom room r (WhyPut.another_index a n e) = rw e (of_none s q 15 (omega arith) (omega arith) (λ z. omega arith))
why_put_fault s q g storeRoom room r (WhyPut.no_number a i l e) = rw e (of_none s q 16 (omega arith) (omega arith) (λ z. omega arith))
why_put_fault s q g storeRoom room r (WhyPut.too_many a i l m e) = rw e (of_none s q 9 (omega arith) (omega arith) (λ z. omega arith))
why_put_fault s q g storeRoom room r (WhyPut.too_long a i l m n e) = rw e (of_none s q 1 (omega arith) (omega arith) (λ z. omega arith))
why_put_fault s q g storeRoom room r (WhyPut.buffer_short a i l m n k e) = rw e (of_short s q (length (store_behind s q g)))
why_put_fault s q g storeRoom room r (WhyPut.output_short a i l m n k o e) = rw e (of_short s q (length (answer_to s q g)))

-- ---- the inputs come first

store_refused : (s : List ℕ) (all : List Element) (q : List ℕ) (g : Guid) (storeRoom room : ℕ) (c : Reading) (r : Refusal) → c ≡ Refused r → on_store s all q g storeRoom room c ≡ refused r
unfolding on_store
store_refused s all q g storeRoom room c r h = rw h

store_passed : (s : List ℕ) (all : List Element) (q : List ℕ) (g : Guid) (storeRoom room : ℕ) (c : Reading) → Stands c → on_store s all q g storeRoom room c ≡ on_put s all q g storeRoom room (put_in q)
unfolding on_store
store_passed s all q g storeRoom room (At e v) a = refl
store_passed s all q g storeRoom room (Refused r) a = absurd a

put_refused : (s : List ℕ) (all : List Element) (q : List ℕ) (g : Guid) (storeRoom room id n : ℕ) (expected : ExtendedGuid) (c : Reading) (x : Refusal) → c ≡ Refused x
    → on_put s all q g storeRoom room (put_read c id expected n) ≡ refused (in_request x)
unfolding on_put put_read
put_refused s all q g storeRoom room id n expected c x h = rw h

-- a reading is refused or stands
read_or_refused : (c : Reading) → Stands c ⊎ ((r : Refusal) × (c ≡ Refused r))
read_or_refused (At e v) = inl tt
read_or_refused (Refused r) = inr (r, refl)

module _ (s q : List ℕ) (g : Guid) (storeRoom room : ℕ) where
  abbrev outcome : Outcome
  outcome = put_outcome s q g storeRoom room

  abbrev Why : Refusal → Type 0
  Why r = WhyPut s q g storeRoom room r

  store_faulty : (r : Refusal) → (store_walk s).last ≡ Refused r → outcome ≡ refused r
  unfolding put_outcome
  store_faulty r h = store_refused s (elements_of s) q g storeRoom room (store_walk s).last r h

  put_faulty : (x : Refusal) → Stands (store_walk s).last → (put_walk q).last ≡ Refused x → outcome ≡ refused (in_request x)
  unfolding put_outcome put_in
  put_faulty x a h =
      store_passed s (elements_of s) q g storeRoom room (store_walk s).last a ∙ put_refused s (elements_of s) q g storeRoom room _ _ _ (put_walk q).last x h

  another : (Expects s q → ⊥) → same_id (put_front q).expected (storage_index (elements_of s)) ≡ false
  another n = by_bool (same_id (put_front q).expected (storage_index (elements_of s))) (λ e. absurd (n ((index_expected s q g).0 e))) (λ e. e)

  -- ---- what there is a reason for is refused

  pub why_put_refused : (r : Refusal) → WhyPut s q g storeRoom room r → put_outcome s q g storeRoom room ≡ refused r
  why_put_refused r (WhyPut.store h) = store_faulty r h
  why_put_refused r (WhyPut.put x a h e) = put_faulty x a h ∙ ap refused (sym e)
  why_put_refused r (WhyPut.another_index a n e) = (fifteen s q g storeRoom room a.0 a.1).1 (another n) ∙ ap refused (sym e)
  why_put_refused r (WhyPut.no_number a i l e) = (sixteen s q g storeRoom room a.0 a.1).1 ((index_expected s q g).1 i, l) ∙ ap refused (sym e)
  why_put_refused r (WhyPut.too_many a i l m e) = (nine s q g storeRoom room a.0 a.1).1 (((index_expected s q g).1 i, l), m) ∙ ap refused (sym e)
  why_put_refused r (WhyPut.too_long a i l m n e) = (one s q g storeRoom room a.0 a.1).1 ((((index_expected s q g).1 i, l), m), n) ∙ ap refused (sym e)
  why_put_refused r (WhyPut.buffer_short a i l m n k e) =
      (fourteen s q g storeRoom room a.0 a.1 (length (store_behind s q g))).1 (inl ((((((index_expected s q g).1 i, l), m), n), k), refl)) ∙ ap refused (sym e)
  why_put_refused r (WhyPut.output_short a i l m n k o e) =
      (fourteen s q g storeRoom room a.0 a.1 (length (answer_to s q g))).1 (inr (((((((index_expected s q g).1 i, l), m), n), k), o), refl)) ∙ ap refused (sym e)

  -- ---- and each put has a reason to be refused, or is answered

  abbrev Ends : Type 0
  Ends = ((a : List ℕ) × (w : List ℕ) × (outcome ≡ entered a w)) ⊎ ((r : Refusal) × Why r)

  room_ends : BothRead s q → Expects s q → last_given s q g ≤ last_number → length (elements_behind s q g) ≤ most_elements
      → length (store_behind s q g) ≤ longest_input → Ends
  room_ends a i l m n =
      by_lt storeRoom (length (store_behind s q g)) (λ k. inr (too_short (length (store_behind s q g)), WhyPut.buffer_short a i l m n k refl))
      (λ k.
      by_lt room (length (answer_to s q g)) (λ o. inr (too_short (length (answer_to s q g)), WhyPut.output_short a i l m n k o refl))
      (λ o.
      inl (
        answer_to s q g,
        store_behind s q g,
        (nothing_refused s q g storeRoom room a.0 a.1 (answer_to s q g) (store_behind s q g)).1
            (((((((index_expected s q g).1 i, l), m), n), k), o), refl, refl),
      )))

  both_ends : BothRead s q → Ends
  both_ends a =
      by_bool (same_id (put_front q).expected (storage_index (elements_of s)))
      (λ e.
      let i = (index_expected s q g).0 e in
      by_lt last_number (last_given s q g) (λ l. inr (fault_at 16 0, WhyPut.no_number a i l refl))
      (λ l.
      by_lt most_elements (length (elements_behind s q g)) (λ m. inr (fault_at 9 0, WhyPut.too_many a i l m refl))
      (λ m.
      by_lt longest_input (length (store_behind s q g)) (λ n. inr (fault_at 1 0, WhyPut.too_long a i l m n refl)) (λ n. room_ends a i l m n))))
      (λ e. inr (fault_at 15 0, WhyPut.another_index a (λ i. let z = (index_expected s q g).1 i in impossible (cc)) refl))

  pub put_ends : ((a : List ℕ) × (w : List ℕ) × (put_outcome s q g storeRoom room ≡ entered a w)) ⊎ ((r : Refusal) × WhyPut s q g storeRoom room r)
  put_ends =
      ⊎_elim
      (λ a.
      ⊎_elim (λ b. both_ends (a, b)) (λ b. inr (in_request b.0, WhyPut.put b.0 a b.1 refl)) (read_or_refused (put_walk q).last))
      (λ a. inr (a.0, WhyPut.store a.1))
      (read_or_refused (store_walk s).last)

  pub put_refused_why : (r : Refusal) → put_outcome s q g storeRoom room ≡ refused r → WhyPut s q g storeRoom room r
  put_refused_why r h =
      ⊎_elim (λ e. let z = e.2 in impossible (cc))
      (λ e. let z : refused e.0 ≡ refused r = sym (why_put_refused e.0 e.1) ∙ h in subst Why (cc) e.1)
      put_ends
