-- The answer to a put, as the hub writes it, is read with no refusal: as the same id and, at the place and with the length that are told,
-- exactly the knowledge that was written.
-- Assumes nothing.
use mathlib.Core.Path.{◌≡◌, refl, ap}
use mathlib.Core.List.{List, [], ◌++◌}
use Prim.Native.Nat.{ℕ, ◌+◌, ◌-◌, ◌^◌, ◌≤◌, ◌<◌}
use native.Mathlib.Omega.{arith}
use lib.ListN.{length, drop}
use lib.Seq.{drop_at, take-append_seam}
use borrow.Author.Tests.{le-ltb}
use Rattle.objects.specs.Header.{end_bytes}
use Rattle.objects.specs.Steps.{place_of, value_of, valued}
use Rattle.objects.specs.Results.Reading.{At}
use Rattle.objects.proofs.Written.{behind}
use Rattle.objects.proofs.ObjectsWritten.{reads_end}
use Rattle.talk.specs.Ranges.{Normal, AllFit}
use Rattle.talk.specs.declared.range.Range.{Range}
use Rattle.store.specs.Knowledge.{most_said}
use Rattle.store.specs.KnowledgeWritten.{knowledge_bytes}
use Rattle.store.specs.Store.{Walk, walked}
use Rattle.store.proofs.Chains.{package_walked}
use Rattle.store.proofs.ElementWritten.{compact_most}
use Rattle.store.proofs.KnowledgeBack.{knowledge_back}
use Rattle.request.specs.Message.{put_changes_request}
use Rattle.request.specs.Response.{sub_response_bytes, ends_bytes, answer_front}
use Rattle.request.proofs.ResponseLengths.{length_front, length_back}
use Rattle.puts.specs.Applied.{put_answer_bytes}
use Rattle.puts.proofs.NewLengths.{length_put_answer}
use Rattle.client.specs.Back.{put_knowledge_place, PutAnswerBack}
use Rattle.client.specs.Read.{longest_answer, response_start, package_in, elements_start, knowledge_in, behind_knowledge, package_end, answer_padding, answer_strictness}
use Rattle.client.specs.ReadPut.{put_known, received_put_from, put_rest_of, put_answer_end, put_answer_on, put_answer_in}
use Rattle.client.proofs.AnswerBack.{front_read, reads_sub_response, ends_read}
use Rattle.client.proofs.AskAgain.{knowledge_size}

module _ (id : ℕ) (l : List Range) (w : List ℕ) (is : w ≡ put_answer_bytes id l) (fits : id < 2 ^ 64) (normal : Normal l) (fit : AllFit l)
    (most : length l ≤ most_said) where
  -- the parts, one behind the other
  abbrev sub_part : List ℕ
  sub_part = sub_response_bytes put_changes_request id

  abbrev knowledge_part : List ℕ
  knowledge_part = knowledge_bytes l

  -- places: behind the package, behind the sub-response
  abbrev past : ℕ
  past = 20 + length (end_bytes 0x15)

  abbrev place : ℕ
  place = put_knowledge_place id

  w_apart : w ≡ answer_front ++ (end_bytes 0x15 ++ (sub_part ++ (knowledge_part ++ ends_bytes)))
  unfolding put_answer_bytes
  w_apart = is

  short : length w ≤ longest_answer
  short = rw is (omega (arith, length_put_answer id l, knowledge_size l, compact_most id))

  end_stands : drop 20 w ≡ end_bytes 0x15 ++ (sub_part ++ (knowledge_part ++ ends_bytes))
  end_stands = rw w_apart (drop_at answer_front (end_bytes 0x15 ++ (sub_part ++ (knowledge_part ++ ends_bytes))) 20 length_front.3)

  sub_stands : drop past w ≡ sub_part ++ (knowledge_part ++ ends_bytes)
  sub_stands = behind w 20 (end_bytes 0x15) _ end_stands

  place_is : past + length sub_part ≡ place
  place_is = let b = length_back in omega arith

  knowledge_stands : drop place w ≡ knowledge_part ++ ends_bytes
  knowledge_stands = rw (← place_is) (behind w past sub_part _ sub_stands)

  ends_stand : drop (place + length knowledge_part) w ≡ ends_bytes
  ends_stand = behind w place knowledge_part ends_bytes knowledge_stands

  -- the package, which is empty
  begins : elements_start w ≡ At 20 0
  begins = front_read w _ w_apart

  walk_is : package_in w ≡ walked [] (At past 0)
  walk_is =
      package_walked answer_strictness 0x62 w (response_start w) 20 0 [] 20 past 0 begins refl (omega arith)
      ((reads_end 0 0x15 (omega arith)).here w 20 _ end_stands)

  package_past : package_end w ≡ At past 0
  unfolding valued
  package_past = rw (ap (λ (x : Walk). x.last) walk_is)

  -- behind it
  sub_is : put_known w (At past 0) ≡ At place id
  sub_is = rw (← place_is) ((reads_sub_response put_changes_request id (omega arith) fits 0).here w past _ sub_stands)

  ranges_back : ((knowledge_in w (At place id)).ranges ≡ l) × ((knowledge_in w (At place id)).last ≡ At (place + length knowledge_part) 0)
  unfolding knowledge_in
  ranges_back = knowledge_back answer_padding most_said 13 0x41 l w [] place id ends_bytes normal fit most knowledge_stands

  known_end : behind_knowledge w (put_known w (At past 0)) ≡ At (place + length knowledge_part) 0
  unfolding valued
  known_end = rw (sub_is, ranges_back.1)

  rest_is : put_rest_of w (At past 0) ≡ At (place + length knowledge_part + length ends_bytes) 0
  unfolding put_rest_of
  rest_is = rw known_end (ends_read w (place + length knowledge_part) 0 ends_stand)

  end_is : put_answer_end w ≡ At (place + length knowledge_part + length ends_bytes) 0
  unfolding put_answer_end
  end_is = rw (le-ltb longest_answer (length w) short, package_past) rest_is

  received_is : received_put_from w (At past 0) ≡ record { id = id; knowledge = place; length = length knowledge_part }
  unfolding received_put_from value_of place_of
  received_is =
      let n : place + length knowledge_part - place ≡ length knowledge_part = omega arith in
      rw (known_end, sub_is, n)

  answer_read : PutAnswerBack id l w
  unfolding put_answer_in put_answer_on
  answer_read =
      record {
        read = rw (end_is, package_past, received_is);
        knowledge_is = rw knowledge_stands (take-append_seam knowledge_part ends_bytes);
        ranges_are = rw (package_past, sub_is) ranges_back.0;
        normal = normal;
        fit = fit;
        most = most;
      }

-- what the hub writes as the answer to a put
pub put_answer_back : (id : ℕ) (l : List Range) → id < 2 ^ 64 → Normal l → AllFit l → length l ≤ most_said → PutAnswerBack id l (put_answer_bytes id l)
put_answer_back id l fits normal fit most = answer_read id l (put_answer_bytes id l) refl fits normal fit most
