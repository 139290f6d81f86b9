-- How long the new store and the answer are, and the parts in which they are laid.
-- Assumes nothing.
use mathlib.Core.Path.{◌≡◌, refl, ap}
use mathlib.Core.List.{List, ◌++◌}
use Prim.Native.Nat.{ℕ, zero, suc, ◌+◌, ◌<◌}
use native.Mathlib.Omega.{arith}
use lib.ListN.{length, drop, get_or, length-append}
use borrow.Author.Tests.{lt-ltb, le-ltb}
use Rattle.laws.proofs.Cases.{by_lt}
use Rattle.laws.proofs.Parts.{part_length}
use Rattle.laws.specs.Bytes.{bytes}
use Rattle.numbers.specs.Compact.{compact_bytes, size_of, form_of, form_from}
use Rattle.numbers.specs.declared.guid.Guid.{Guid}
use Rattle.objects.specs.Header.{end_bytes}
use Rattle.talk.specs.declared.range.Range.{Range}
use Rattle.store.specs.Held.{stored_bytes}
use Rattle.store.specs.KnowledgeWritten.{knowledge_bytes}
use Rattle.store.specs.Tables.{most_elements, element_in_row}
use Rattle.request.specs.Response.{answer_front, sub_response_bytes, ends_bytes}
use Rattle.request.proofs.ResponseLengths.{length_front, length_back, length_sub}
use Rattle.puts.specs.Plan.{sides, handed_row, source_bytes, source_length, planned_bytes, planned_length, SourceFits, Planning}
use Rattle.puts.specs.Applied.{put_answer_bytes}
use Rattle.puts.proofs.Lengths.{length_entering}
use Rattle.puts.proofs.Plans.{bytes_turn, bytes_end, length_turn, length_end, source_kept, source_handed}

-- ---- the answer

pub length_five : length (compact_bytes 5) ≡ 1
unfolding compact_bytes size_of form_of form_from bytes
length_five = refl

pub length_put_answer : (id : ℕ) (l : List Range) → length (put_answer_bytes id l) ≡ 31 + length (compact_bytes id) + length (knowledge_bytes l)
unfolding put_answer_bytes
length_put_answer id l =
    let f = length_front in
    let b = length_back in
    let s = length_sub 5 id in
    let v = length_five in
    let k = knowledge_bytes l in
    let d = sub_response_bytes 5 id in
    let x = length-append answer_front (end_bytes 0x15 ++ (d ++ (k ++ ends_bytes))) in
    let y = length-append (end_bytes 0x15) (d ++ (k ++ ends_bytes)) in
    let z = length-append d (k ++ ends_bytes) in
    let w = length-append k ends_bytes in
    omega arith

-- ---- the elements of the new store

module _ (s rows ids q handed_rows handed_ids : List ℕ) (g : Guid) (highest : ℕ) where
  length_source : (source : ℕ) → SourceFits s rows ids q handed_rows handed_ids highest source
      → length (source_bytes (sides s rows ids q handed_rows handed_ids g highest) source) ≡ source_length rows ids q handed_rows handed_ids source
  unfolding source_length stored_bytes
  length_source source h =
      by_lt source most_elements
      (λ l.
      let x = element_in_row rows ids source in
      rw (lt-ltb source most_elements l, source_kept (sides s rows ids q handed_rows handed_ids g highest) source l) (part_length x.place x.length s (h.stored l)))
      (λ l.
      rw (le-ltb source most_elements l, source_handed (sides s rows ids q handed_rows handed_ids g highest) source l)
      (length_entering q _ (element_in_row handed_rows handed_ids (handed_row source)) (h.stands.enters l)))

  planned_from : (plan : List ℕ) → Planning s rows ids q handed_rows handed_ids highest plan → (d k : ℕ) → k + d ≡ length plan
      → length (planned_bytes (sides s rows ids q handed_rows handed_ids g highest) (drop k plan)) ≡ planned_length rows ids q handed_rows handed_ids (drop k plan)
  planned_from plan h zero k e =
      rw (bytes_end plan k (omega arith) (sides s rows ids q handed_rows handed_ids g highest), length_end plan k (omega arith) rows ids q handed_rows handed_ids)
  planned_from plan h (suc d) k e =
      let l : k < length plan = omega arith in
      let a = bytes_turn plan k l (sides s rows ids q handed_rows handed_ids g highest) in
      let b = length_turn plan k l rows ids q handed_rows handed_ids in
      let c = length-append (source_bytes (sides s rows ids q handed_rows handed_ids g highest) (get_or plan k 0)) (planned_bytes (sides s rows ids q handed_rows handed_ids g highest) (drop (k + 1) plan)) in
      let f = length_source (get_or plan k 0) (h.fits k l) in
      let i = planned_from plan h d (k + 1) (omega arith) in
      let m = ap length a in
      omega arith

  pub length_planned : (plan : List ℕ) → Planning s rows ids q handed_rows handed_ids highest plan
      → length (planned_bytes (sides s rows ids q handed_rows handed_ids g highest) plan) ≡ planned_length rows ids q handed_rows handed_ids plan
  length_planned plan h = planned_from plan h (length plan) 0 (omega arith)
