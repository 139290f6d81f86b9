-- On from a knowledge that was read, in a request that is written and in an answer that is read: what stood in the working table
-- does not matter.
-- Assumes nothing.
use mathlib.Core.Bool.{Bool}
use mathlib.Core.Path.{◌≡◌, refl, ap, ◌∙◌}
use mathlib.Core.List.{List, []}
use Prim.Native.Nat.{ℕ}
use lib.ListN.{length}
use Rattle.objects.specs.Steps.{valued}
use Rattle.objects.specs.Results.Reading.{At, Reading, Refused}
use Rattle.store.specs.Knowledge.{knowledge_at, knowledge_answer, ReadsKnowledge}
use Rattle.store.specs.Results.ReadKnowledge.{ReadKnowledge}
use Rattle.store.proofs.TableFree.{table_free}
use Rattle.request.specs.Message.{on_knowledge}

on_answer_lem : (n : ℕ) (c : Reading) → on_knowledge (knowledge_answer n c) ≡ valued 0 c
unfolding on_knowledge knowledge_answer valued
on_answer_lem n (At e v) = refl
on_answer_lem n (Refused r) = refl

pub knowledge_on : (padding : Bool) (allowed depth outer : ℕ) (s t t' : List ℕ) (c : Reading) (r : ReadKnowledge) → ReadsKnowledge (knowledge_at padding allowed depth outer s t c) r t'
    → on_knowledge r ≡ valued 0 (knowledge_at padding allowed depth outer s [] c).last
knowledge_on padding allowed depth outer s t t' c r h =
    ap on_knowledge h.0 ∙ on_answer_lem (length (knowledge_at padding allowed depth outer s t c).ranges) (knowledge_at padding allowed depth outer s t c).last
    ∙ ap (valued 0) (table_free padding allowed depth outer s t [] c).last
