-- Which buffers suffice for puts. include/hub.h says of hub_put that an output of HUB_LARGEST_PUT_ANSWER and a buffer of HUB_LONGEST_INPUT for
-- the new store always suffice, and of hub_ask_put that one of HUB_LARGEST_REQUEST does: then neither refuses with 14. A reader needs the types
-- of the two laws.
-- Assumes nothing.
use mathlib.Core.Path.{◌≡◌, sym, ◌∙◌}
use mathlib.Core.List.{List, []}
use mathlib.Core.Logic.{⊎_elim}
use Prim.Native.Nat.{ℕ, ◌^◌, ◌≤◌, ◌<◌}
use native.Mathlib.Omega.{arith}
use lib.ListN.{length}
use Rattle.laws.specs.Bytes.{AllBytes}
use Rattle.numbers.specs.Refusals.{longest_input}
use Rattle.objects.specs.Steps.{value_of}
use Rattle.store.proofs.ElementWritten.{compact_most}
use Rattle.request.specs.Message.{put_changes_request, identified}
use Rattle.puts.specs.NewStore.{ranges_of}
use Rattle.puts.proofs.Known.{answer_tells}
use Rattle.puts.proofs.NewLengths.{length_put_answer}
use Rattle.client.proofs.AskAgain.{knowledge_size}
use Rattle.hub.specs.BenchPut.{HubAsksPut}
use Rattle.hub.specs.Put.{guid_of, HubPuts}
use Rattle.evidence.specs.Puts.{handed_by, elements_behind}
use Rattle.evidence.proofs.PutDemands.{demand_one_hub_put_numbers, demand_one_hub_ask_put}
use Rattle.evidence.proofs.PutResults.{why_ask_put_short}

-- HUB_LARGEST_PUT_ANSWER: its knowledge has at most a range for each of 256 elements, and a range takes at most 36 bytes
abbrev pub largest_put_answer : ℕ
largest_put_answer = 9284

pub put_answer_suffices : (s q : List ℕ) (low high number : ℕ) (new new' out out' report report' : List ℕ) → AllBytes s → low < 2 ^ 64 → high < 2 ^ 64
    → longest_input ≤ length new → largest_put_answer ≤ length out → HubPuts s q low high number new new' out out' report report' → number ≡ 14 → ⊥
put_answer_suffices s q low high number new new' out out' report report' b c d store enough h e =
    let g = guid_of low high in
    let (both, i, l, few, short, w) = (demand_one_hub_put_numbers s q low high number new new' out out' report report' h).fourteen.0 e in
    let n = (answer_tells s q g (handed_by q) b both.0 (c, d) l).few in
    let ranges = ranges_of [] (elements_behind s q g) in
    let id = value_of (identified put_changes_request q) in
    let size = (knowledge_size ranges).1 in
    let most = compact_most id in
    let whole = length_put_answer id ranges in
    ⊎_elim (λ z. absurd (omega arith)) (λ z. absurd (omega arith)) w

pub ask_put_suffices : (id named low high number : ℕ) (e : List ℕ) (returned : ℕ) (out out' report report' : List ℕ) → longest_input ≤ length out
    → HubAsksPut id named low high number e returned out out' report report' → returned ≡ 14 → ⊥
ask_put_suffices id named low high number e returned out out' report report' enough h z =
    ⊎_elim (λ t. let i = t.0 in absurd (omega arith))
    (λ x.
    let m = why_ask_put_short id named low high number e (length out) x.refusal x.reason (sym x.number_is ∙ z) in
    let a = m.0 in
    let b = m.1 in
    absurd (omega arith))
    (demand_one_hub_ask_put id named low high number e returned out out' report report' h).gets
