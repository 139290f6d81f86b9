-- The knowledge of an answer, as it is written, is a knowledge that the next request takes: sent back, it tells the same ranges.
-- Assumes nothing.
use mathlib.Core.Path.{◌≡◌, sym, ◌∙◌}
use mathlib.Core.Bool.{true}
use mathlib.Core.List.{List, [], ◌∷◌, ◌++◌, append-nil}
use Prim.Native.Nat.{ℕ, ◌+◌, ◌*◌, ◌≤◌}
use native.Mathlib.Nat.{zero-add}
use native.Mathlib.Omega.{arith}
use lib.ListN.{length, length-append}
use lib.Seq.{drop-length}
use borrow.Author.Tests.{ne_eqb}
use Rattle.request.specs.Filter.{request_padding}
use Rattle.numbers.specs.Refusals.{longest_input}
use Rattle.objects.specs.Header.{start_bytes, end_bytes}
use Rattle.objects.specs.Steps.{valued}
use Rattle.objects.specs.Results.Reading.{At}
use Rattle.objects.proofs.Written.{finish_written}
use Rattle.talk.specs.Ranges.{Normal, AllFit}
use Rattle.talk.specs.declared.range.Range.{Range}
use Rattle.store.specs.Knowledge.{most_said, knowledge_at}
use Rattle.store.specs.KnowledgeWritten.{ranges_bytes, cell_front, cell_back, knowledge_bytes}
use Rattle.store.proofs.KnowledgeLengths.{length_front, length_back}
use Rattle.store.proofs.KnowledgeBack.{knowledge_back}
use Rattle.pages.proofs.Pricing.{bytes_most}
use Rattle.client.specs.Ask.{knowledge_of, knowledge_given}
use Rattle.client.proofs.AskGiven.{given_some}

-- it is never empty, and not long
pub knowledge_size : (l : List Range) → (3 ≤ length (knowledge_bytes l)) × (length (knowledge_bytes l) ≤ 28 + 36 * length l)
unfolding knowledge_bytes
knowledge_size [] =
    let a = length-append (start_bytes 0x10 true 0) (end_bytes 0x10) in
    (omega (arith, a, length_front, length_back), omega (arith, a, length_front, length_back))
knowledge_size (x ∷ xs) =
    let a = length-append cell_front (ranges_bytes (x ∷ xs) ++ cell_back) in
    let b = length-append (ranges_bytes (x ∷ xs)) cell_back in
    let m = bytes_most (x ∷ xs) in
    (omega (arith, a, b, length_front, length_back), omega (arith, a, b, m, length_front, length_back))

module _ (l : List Range) (n : Normal l) (f : AllFit l) (m : length l ≤ most_said) where
  abbrev sent : List ℕ
  sent = knowledge_bytes l

  short : length sent ≤ longest_input
  short = let z = knowledge_size l in omega arith

  some : length sent ≡ 0 → ⊥
  some e = let z = knowledge_size l in omega arith

  told : ((knowledge_at request_padding most_said 12 0x42 sent [] (At 0 0)).ranges ≡ l) × ((knowledge_at request_padding most_said 12 0x42 sent [] (At 0 0)).last ≡ At (length sent) 0)
  told = rw zero-add at (knowledge_back request_padding most_said 12 0x42 l sent [] 0 0 [] n f m (sym (append-nil sent)))

  pub knowledge_sent_back : (knowledge_given sent ≡ At (length sent) 0) × ((knowledge_of sent).ranges ≡ l)
  unfolding knowledge_of valued
  knowledge_sent_back = (
    sym (given_some sent short some) ∙ rw told.1 (finish_written sent (length sent) 0 (drop-length sent)),
    rw (ne_eqb _ _ some) told.0,
  )
