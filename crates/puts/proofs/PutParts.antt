-- The parts of a put up to its package: each stays within the bytes, or gives a fault from 2 to 12 within them; and the client's
-- knowledge is read alike whatever stood in the working table.
-- Assumes nothing.
use mathlib.Core.Path.{◌≡◌, refl, ap, ◌∙◌}
use mathlib.Core.Bool.{true, false}
use mathlib.Core.List.{List, []}
use Prim.Native.Nat.{ℕ}
use lib.ListN.{length}
use Rattle.laws.proofs.Cases.{by_bool, pick_all}
use Rattle.objects.specs.Steps.{valued, start_here, run_here, next_is, Good}
use Rattle.objects.specs.Results.Reading.{At, Reading, Refused}
use Rattle.objects.proofs.Keep.{good_front, onward_valued, onward_number, onward_skip, onward_id, onward_start, onward_closed, onward_end}
use Rattle.store.specs.Knowledge.{most_said, Knowing, knowledge_answer, ReadsKnowledge}
use Rattle.store.specs.Results.ReadKnowledge.{ReadKnowledge}
use Rattle.store.proofs.KnowledgeHeld.{onward_knowledge}
use Rattle.store.proofs.TableFree.{table_free}
use Rattle.request.specs.Filter.{request_padding}
use Rattle.request.specs.Message.{put_changes_request, identified, knowledge_part, on_knowledge}
use Rattle.request.proofs.Places.{good_identified}
use Rattle.puts.specs.Put.{put_fields, put_start, put_changes, optional, flag_fields, additional_flags, undivided, optional_bytes, client_knowledge, before_package, put_front}

-- ---- the readers of data runs

pub good_put_fields : (d : List ℕ) → Good d (put_fields d).last
unfolding put_fields
good_put_fields d =
    (onward_skip d 1 _).good ((onward_id d _).good ((onward_id d (At 0 0)).good (good_front d 0)))

pub good_flag_fields : (d : List ℕ) → Good d (flag_fields d)
unfolding flag_fields
good_flag_fields d = (onward_number request_padding d _).good ((onward_skip d 2 (At 0 0)).good (good_front d 0))

pub good_undivided : (n : ℕ) (d : List ℕ) → Good d (undivided n d)
unfolding undivided
good_undivided n d = (onward_skip d n (At 0 0)).good (good_front d 0)

-- ---- the client's knowledge

on_answer_lem : (n : ℕ) (c : Reading) → on_knowledge (knowledge_answer n c) ≡ valued 0 c
unfolding on_knowledge knowledge_answer valued
on_answer_lem n (At e v) = refl
on_answer_lem n (Refused r) = refl

part_free : (s t v : List ℕ) (c : Reading) → (knowledge_part s t c).last ≡ (knowledge_part s v c).last
unfolding knowledge_part
part_free s t v c =
    by_bool (next_is s 0x10 c) (λ e. rw e (table_free request_padding most_said 12 0x42 s t v c).last) (λ e. rw e)

pub client_on : (s t t' : List ℕ) (c : Reading) (r : ReadKnowledge) → ReadsKnowledge (knowledge_part s t c) r t' → on_knowledge r ≡ client_knowledge s c
unfolding client_knowledge
client_on s t t' c r h =
    ap on_knowledge h.0 ∙ on_answer_lem (length (knowledge_part s t c).ranges) (knowledge_part s t c).last ∙ ap (valued 0) (part_free s t [] c)

good_client : (s : List ℕ) (c : Reading) → Good s c → Good s (client_knowledge s c)
unfolding client_knowledge knowledge_part
good_client s c g =
    (onward_valued s 0 _).good
    (pick_all (λ (k : Knowing). Good s k.last) (next_is s 0x10 c) _ _ (λ e. (onward_knowledge request_padding most_said 12 0x42 s [] c).good g) (λ e. g))

-- ---- from the request's front to the package

pub good_front_put : (s : List ℕ) → Good s (put_front s).last
unfolding put_changes
good_front_put s =
    let c = identified put_changes_request s in
    let o = put_start s c in
    (onward_closed s o (put_fields (run_here s o)).last (good_put_fields (run_here s o))).good
    ((onward_start request_padding s 0x42 0x5A false true c).good (good_identified put_changes_request s))

-- a plain object that may be absent, its data run read by fields that stay within it
good_optional : (s : List ℕ) (kind : ℕ) (fields : List ℕ → Reading) → ((d : List ℕ) → Good d (fields d)) → (c : Reading) → Good s c → Good s (optional s kind fields c)
good_optional s kind fields f c g =
    let o = start_here request_padding s 0x42 kind false true c in
    pick_all (Good s) (next_is s kind c) _ _
    (λ e. (onward_closed s o (fields (run_here s o)) (f (run_here s o))).good ((onward_start request_padding s 0x42 kind false true c).good g))
    (λ e. g)

good_flags : (s : List ℕ) (c : Reading) → Good s c → Good s (additional_flags s c)
unfolding additional_flags
good_flags s c g = good_optional s 0x86 flag_fields good_flag_fields c g

good_bytes : (s : List ℕ) (kind n : ℕ) (c : Reading) → Good s c → Good s (optional_bytes s kind n c)
unfolding optional_bytes
good_bytes s kind n c g = good_optional s kind (undivided n) (good_undivided n) c g

pub good_before_package : (s : List ℕ) (c : Reading) → Good s c → Good s (before_package s c)
unfolding before_package
good_before_package s c g =
    (onward_end s 0x42 _).good (good_bytes s 0x8A 1 _ (good_client s _ (good_bytes s 0x85 16 _ (good_flags s c g))))
