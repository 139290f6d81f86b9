-- A knowledge has at most as many ranges as ranges and entries were said: each adds one range at most. And what a bench hands in as its
-- knowledge is at most 512 ranges of 64-bit numbers, in normal form. A reader can skip all but the statements with `pub`.
-- Assumes nothing.
use mathlib.Core.Bool.{Bool}
use mathlib.Core.List.{List, []}
use Prim.Native.Nat.{ℕ, suc, ◌+◌, ◌≤◌}
use native.Mathlib.Omega.{arith}
use lib.ListN.{length}
use lib.Dec.{ltb, eqb}
use Rattle.request.specs.Filter.{request_padding}
use Rattle.laws.specs.Bytes.{AllBytes}
use Rattle.laws.proofs.Cases.{pick_all}
use Rattle.numbers.specs.Refusals.{longest_input}
use Rattle.objects.specs.Steps.{next_is}
use Rattle.objects.specs.Results.Reading.{At, Reading}
use Rattle.talk.specs.Ranges.{Normal, AllFit}
use Rattle.talk.specs.declared.range.Range.{Range}
use Rattle.store.specs.Knowledge.{most_said, Knowing, item_at, united, knowledge_at}
use Rattle.store.proofs.Items.{sound_item, united_normal, length_united}
use Rattle.store.proofs.KnowledgeFits.{knowledge_fits}
use Rattle.store.proofs.KnowledgeHeld.{kept}
use Rattle.request.specs.Message.{filtered, knowledge_part, request_knowing}
use Rattle.pages.specs.Answer.{known_in}
use Rattle.client.specs.Ask.{knowledge_of}
use Rattle.evidence.specs.Talk.{said_in}
use Rattle.evidence.specs.Bench.{said_by}

-- ---- each range and entry takes one from what may come, and adds one range at most

abbrev Room : Knowing → Type 0
Room k = length k.ranges + k.left ≤ most_said

item_room : (padding : Bool) (s : List ℕ) (c : Reading) (l : List Range) (t : List ℕ) (left : ℕ) → length l + suc left ≤ most_said → length (united (item_at padding s c) l) + left ≤ most_said
item_room padding s c l t left h = let m = length_united (item_at padding s c) l (length l) (omega arith) in omega arith

knowledge_room : (padding : Bool) (depth outer : ℕ) (s t : List ℕ) (c : Reading) → Room (knowledge_at padding most_said depth outer s t c)
knowledge_room padding depth outer s t c = kept padding (λ l v left. length l + left ≤ most_said) s (item_room padding s) most_said depth outer t c (omega arith)

-- ---- of a request

pub request_room : (q t : List ℕ) → length (request_knowing q t).ranges + (request_knowing q t).left ≤ most_said
unfolding request_knowing knowledge_part
request_room q t =
    pick_all Room (ltb longest_input (length q)) _ _ (λ e. omega arith)
    (λ e. pick_all Room (next_is q 0x10 (filtered q)) _ _ (λ f. knowledge_room request_padding 12 0x42 q t (filtered q)) (λ f. omega arith))

pub said_in_lem : (q : List ℕ) → said_in q ≤ 256 → length (known_in q) ≤ 256
said_in_lem q h = let r = request_room q [] in omega arith

-- ---- of what a bench hands in

-- what holds of no range and of any knowledge that is read from k holds of its knowledge
knowledge_so : (P : Knowing → Type 0) (k : List ℕ) → P (record { ranges = []; table = []; left = most_said; last = At 0 0 }) → P (knowledge_at request_padding most_said 12 0x42 k [] (At 0 0))
    → P (knowledge_of k)
unfolding knowledge_of
knowledge_so P k none some = pick_all P (eqb (length k) 0) _ _ (λ e. none) (λ e. some)

pub given_room : (k : List ℕ) → length (knowledge_of k).ranges + (knowledge_of k).left ≤ most_said
given_room k = knowledge_so Room k (omega arith) (knowledge_room request_padding 12 0x42 k [] (At 0 0))

pub said_by_lem : (k : List ℕ) → said_by k ≤ 256 → length (knowledge_of k).ranges ≤ 256
said_by_lem k h = let r = given_room k in omega arith

pub given_normal : (k : List ℕ) → Normal (knowledge_of k).ranges
unfolding Normal
given_normal k =
    knowledge_so (λ (m : Knowing). Normal m.ranges) k tt
    (kept request_padding (λ l v left. Normal l) k (λ c l v left n. united_normal (item_at request_padding k c) l (sound_item request_padding k c) n) most_said 12 0x42 [] (At 0 0) tt)

pub given_fits : (k : List ℕ) → AllBytes k → AllFit (knowledge_of k).ranges
unfolding AllFit
given_fits k b = knowledge_so (λ (m : Knowing). AllFit m.ranges) k tt (knowledge_fits request_padding most_said 12 0x42 k [] (At 0 0) b)
