-- An answer from behind its package on, and the answer to a put: after a fault nothing is read, and the knowledge lies before the end.
-- And what reading an answer says of its end and of its elements.
-- Assumes nothing.
use mathlib.Core.Path.{◌≡◌, refl, ap, subst}
use mathlib.Core.List.{List, []}
use Prim.Native.Nat.{ℕ, ◌≤◌}
use native.Mathlib.Omega.{arith}
use lib.ListN.{length}
use borrow.Author.Tests.{lt-ltb, le-ltb}
use Rattle.laws.proofs.Cases.{by_lt, impossible}
use Rattle.numbers.specs.Refusals.{fault_at}
use Rattle.numbers.specs.declared.refusal.Refusal.{Refusal}
use Rattle.objects.specs.Steps.{place_of, valued, start_here, run_here, closed_at, end_here, finish, Behind}
use Rattle.objects.specs.Results.Reading.{At, Reading, Refused}
use Rattle.objects.proofs.Keep.{behind_place}
use Rattle.store.specs.Knowledge.{most_said}
use Rattle.store.specs.Accessor.{element_in}
use Rattle.store.specs.Store.{packaged_of, laid_rows, laid_ids}
use Rattle.store.specs.Results.Found as found
use Rattle.store.specs.Results.Packaged as packaged
use Rattle.store.proofs.KnowledgeCarry.{carries_knowledge}
use Rattle.store.proofs.KnowledgeHeld.{onward_knowledge}
use Rattle.client.specs.Read.{longest_answer, package_in, sub_response, changes, knowledge_in, behind_knowledge, ends_of, mark_at, knowledge_end, received_from, rest_of, answer_end, answer_on, answer_in, answer_padding}
use Rattle.client.specs.Accessor.{received_at, rows_received, ids_received}
use Rattle.client.specs.ReadPut.{put_known, put_rest_of}
use Rattle.client.specs.declared.answer.Received.{Received}
use Rattle.client.specs.Results.ReadAnswer as answer

-- ---- after a fault

pub rest_fault : (s : List ℕ) (r : Refusal) → rest_of s (Refused r) ≡ Refused r
unfolding rest_of ends_of end_here finish sub_response changes start_here run_here closed_at knowledge_in valued
rest_fault s r = rw ((carries_knowledge answer_padding most_said 13 0x41 []).fault s r)

pub put_rest_fault : (s : List ℕ) (r : Refusal) → put_rest_of s (Refused r) ≡ Refused r
unfolding put_rest_of ends_of end_here finish sub_response start_here run_here closed_at knowledge_in valued
put_rest_fault s r = rw ((carries_knowledge answer_padding most_said 13 0x41 []).fault s r)

-- ---- the knowledge's length

ends_reached : (s : List ℕ) (c : Reading) (e v : ℕ) → ends_of s c ≡ At e v → (q : ℕ) × (u : ℕ) × (c ≡ At q u)
unfolding ends_of end_here finish
ends_reached s (At q u) e v h = (q, u, refl)
ends_reached s (Refused r) e v h = impossible (cc)

valued_reached : (c : Reading) (q u : ℕ) → valued 0 c ≡ At q u → (v : ℕ) × (c ≡ At q v)
unfolding valued
valued_reached (At p v) q u h = (v, grind arith)
valued_reached (Refused r) q u h = impossible (cc)

-- where the end is reached, the knowledge that begins at c ends behind its start
known_forward : (s : List ℕ) (c : Reading) (e v : ℕ) → ends_of s (behind_knowledge s c) ≡ At e v → place_of c ≤ place_of (behind_knowledge s c)
unfolding knowledge_in place_of
known_forward s c e v h =
    let a = ends_reached s (behind_knowledge s c) e v h in
    let b = valued_reached (knowledge_in s c).last a.0 a.1 a.2 in
    let p = (onward_knowledge answer_padding most_said 13 0x41 s [] c).behind (place_of c) (behind_place c) in
    let q : Behind (place_of c) (At a.0 b.0) = subst (Behind (place_of c)) b.1 p in
    rw a.2 (omega arith)

pub knowledge_forward : (s : List ℕ) (c : Reading) (e v : ℕ) → rest_of s c ≡ At e v → place_of (mark_at s c) ≤ place_of (knowledge_end s c)
unfolding rest_of
knowledge_forward s c e v h = known_forward s (mark_at s c) e v h

-- and so in the answer to a put
pub put_forward : (s : List ℕ) (c : Reading) (e v : ℕ) → put_rest_of s c ≡ At e v → place_of (put_known s c) ≤ place_of (behind_knowledge s (put_known s c))
unfolding put_rest_of
put_forward s c e v h = known_forward s (put_known s c) e v h

-- ---- the package

pub package_refused : (n : ℕ) (c : Reading) (r : Refusal) → packaged_of n c ≡ packaged.Refused r → c ≡ Refused r
unfolding packaged_of
package_refused n (At e v) r h = impossible (cc)
package_refused n (Refused q) r h = cc

pub package_holds : (m : ℕ) (c : Reading) (n e : ℕ) → packaged_of m c ≡ packaged.Holds e n → (m ≡ n) × (valued 0 c ≡ At e 0)
unfolding packaged_of valued
package_holds m (At q v) n e h = (grind arith, grind arith)
package_holds m (Refused r) n e h = impossible (cc)

-- ---- what reading an answer says of its end and of its elements

on_refused : (c : Reading) (x : Received) (r : Refusal) → answer_on c x ≡ answer.Refused r → c ≡ Refused r
unfolding answer_on
on_refused (At e v) x r h = impossible (cc)
on_refused (Refused q) x r h = cc

on_is : (c : Reading) (x y : Received) → answer_on c x ≡ answer.Is y → (e : ℕ) × (v : ℕ) × (c ≡ At e v) × (x ≡ y)
unfolding answer_on
on_is (At e v) x y h = (e, v, refl, cc)
on_is (Refused r) x y h = impossible (cc)

pub answer_fault : (s : List ℕ) (r : Refusal) → answer_in s ≡ answer.Refused r → answer_end s ≡ Refused r
unfolding answer_in
answer_fault s r h = on_refused (answer_end s) _ r h

pub answer_refused : (s : List ℕ) (r : Refusal) → answer_in s ≡ answer.Refused r → (i : ℕ) → received_at s i ≡ found.Refused r
unfolding received_at
answer_refused s r h i = rw (answer_fault s r h)

-- an answer that is read is not over-long
not_long : (s : List ℕ) (e v : ℕ) → answer_end s ≡ At e v → length s ≤ longest_answer
unfolding answer_end
not_long s e v h =
    by_lt longest_answer (length s) (λ l. let z : Refused (fault_at 1 longest_answer) ≡ At e v = rw (lt-ltb longest_answer (length s) l) at h in impossible (cc)) (λ l. l)

pub answer_is : (s : List ℕ) (x : Received) → answer_in s ≡ answer.Is x
    → (length (package_in s).elements ≡ x.count) × (length s ≤ longest_answer) × ((i : ℕ) → received_at s i ≡ element_in (package_in s).elements i)
unfolding answer_in received_at received_from
answer_is s x h =
    let a = on_is (answer_end s) _ x h in
    (ap (λ (y : Received). y.count) a.3, not_long s a.0 a.1 a.2, λ i. rw a.2)

pub rows_received_lem : (s t : List ℕ) → length s ≤ longest_answer → rows_received s t ≡ laid_rows (package_in s) t
unfolding rows_received
rows_received_lem s t h = rw (le-ltb longest_answer (length s) h)

pub ids_received_lem : (s t : List ℕ) → length s ≤ longest_answer → ids_received s t ≡ laid_ids (package_in s) t
unfolding ids_received
ids_received_lem s t h = rw (le-ltb longest_answer (length s) h)
