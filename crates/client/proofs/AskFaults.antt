-- Which faults the filters and the knowledge give that are handed in for a request: 1 where they are over-long, else one of their layout.
-- Assumes nothing.
use mathlib.Core.Path.{◌≡◌}
use mathlib.Core.Bool.{true}
use mathlib.Core.List.{List, []}
use Prim.Native.Nat.{ℕ}
use lib.ListN.{length}
use lib.Dec.{eqb, ltb}
use borrow.Author.Tests.{lt-ltb, le-ltb}
use Rattle.laws.proofs.Cases.{pick_all}
use Rattle.numbers.specs.Refusals.{longest_input}
use Rattle.numbers.specs.declared.refusal.Refusal.{Refusal}
use Rattle.objects.specs.Steps.{Good, valued, finish}
use Rattle.objects.specs.Results.Reading.{At, Reading, Refused}
use Rattle.objects.proofs.Keep.{good_front, onward_valued, onward_start, onward_finish}
use Rattle.objects.proofs.InputFaults.{InputFault, input_fault}
use Rattle.store.specs.Knowledge.{most_said, Knowing}
use Rattle.store.proofs.KnowledgeHeld.{onward_knowledge}
use Rattle.request.specs.Filter.{filters_from, request_padding}
use Rattle.request.proofs.Places.{good_filters}
use Rattle.client.specs.Ask.{no_more, filters_given, knowledge_of, knowledge_given}

pub good_no_more : (outer kind : ℕ) (s : List ℕ) (c : Reading) → Good s c → Good s (no_more outer kind s c)
unfolding no_more
good_no_more outer kind s (At at v) g =
    pick_all (Good s) (ltb at (length s)) _ _ (λ e. (onward_start request_padding s outer kind true true (At at v)).good g) (λ e. g)
good_no_more outer kind s (Refused r) g = g

pub filters_fault : (f : List ℕ) (r : Refusal) → filters_given f ≡ Refused r → InputFault longest_input f r
unfolding filters_given
filters_fault f r h =
    let c = filters_from 16 f (At 0 0) in
    input_fault longest_input f (filters_given f) (no_more 0x42 0x47 f c) r (λ l. rw (lt-ltb longest_input (length f) l)) (λ l. rw (le-ltb longest_input (length f) l))
    (good_no_more 0x42 0x47 f c (good_filters 16 f (At 0 0) (good_front f 0))) h

good_knowledge_of : (k : List ℕ) → Good k (knowledge_of k).last
unfolding knowledge_of
good_knowledge_of k =
    pick_all (λ (m : Knowing). Good k m.last) (eqb (length k) 0) _ _ (λ e. good_front k 0) (λ e. (onward_knowledge request_padding most_said 12 0x42 k [] (At 0 0)).good (good_front k 0))

pub knowledge_fault : (k : List ℕ) (r : Refusal) → knowledge_given k ≡ Refused r → InputFault longest_input k r
unfolding knowledge_given
knowledge_fault k r h =
    let c = (knowledge_of k).last in
    input_fault longest_input k (knowledge_given k) (finish k (valued 0 c)) r (λ l. rw (lt-ltb longest_input (length k) l))
    (λ l. rw (le-ltb longest_input (length k) l)) ((onward_finish k _).good ((onward_valued k 0 c).good (good_knowledge_of k))) h
