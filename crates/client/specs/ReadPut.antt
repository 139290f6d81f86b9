-- The answer to a put, read (document 02, Q-1): "The answer is document 01's with no elements, type 5 and, from 0x5F on, only the knowledge
-- of every serial now stored." So there is no 0x5F: the knowledge stands behind the sub-response. Its package is read as in each answer
-- that is read; limit, padding and depth are those of an answer.
-- Assumes nothing.
use Rattle.std.specs.Prelude.{◌≡◌, ℕ, ◌-◌, List, [], ◌∷◌, length, ltb}
use Rattle.laws.specs.Pick.{pick}
use Rattle.numbers.specs.Refusals.{Told, gives, refuses, fault_at}
use Rattle.objects.specs.Steps.{◌▹◌, place_of, value_of}
use Rattle.objects.specs.Results.Reading.{At, Reading, Refused}
use Rattle.request.specs.Message.{put_changes_request}
use Rattle.client.specs.Read.{longest_answer, sub_response, behind_knowledge, ends_of, package_end}
use Rattle.client.specs.declared.put_answer.ReceivedPut.{ReceivedPut}
use Rattle.client.specs.Results.ReadPutAnswer.{ReadPutAnswer}
use Rattle.client.specs.Results.ReadPutAnswer as answer

-- ---- what the parts are, in an answer from behind its package at c

-- sub-response of type 5: the id is carried on, and the knowledge stands behind it
abbrev pub put_known : List ℕ → Reading → Reading
put_known s c = sub_response put_changes_request s c

-- the id, and the place and length of the knowledge
unfoldable pub received_put_from : List ℕ → Reading → ReceivedPut
received_put_from s c =
    record {
      id = value_of (put_known s c);
      knowledge = place_of (put_known s c);
      length = place_of (put_known s c ▹ behind_knowledge s) - place_of (put_known s c);
    }

unfoldable pub put_rest_of : List ℕ → Reading → Reading
put_rest_of s c = put_known s c ▹ behind_knowledge s ▹ ends_of s

-- ---- the whole

-- where reading ends: "An over-long input gives 1 before its other faults, the limit as its place"
unfoldable pub put_answer_end : List ℕ → Reading
put_answer_end s = pick (ltb longest_answer (length s)) (Refused (fault_at 1 longest_answer)) (put_rest_of s (package_end s))

unfoldable pub put_answer_on : Reading → ReceivedPut → ReadPutAnswer
put_answer_on (At e v) x = answer.Is x
put_answer_on (Refused r) x = answer.Refused r

unfoldable pub put_answer_in : List ℕ → ReadPutAnswer
put_answer_in s = put_answer_on (put_answer_end s) (received_put_from s (package_end s))

-- ---- what reading it tells

-- knowledge (place, length), id
abbrev pub received_put_numbers : ReceivedPut → List ℕ
received_put_numbers x = x.knowledge ∷ x.length ∷ x.id ∷ []

abbrev pub tell_read_put_answer : ReadPutAnswer → Told
tell_read_put_answer (answer.Is x) = gives (received_put_numbers x)
tell_read_put_answer (answer.Refused r) = refuses r

-- what reading the answer to a put promises
abbrev pub ReadsPutAnswer : List ℕ → ReadPutAnswer → Type 0
ReadsPutAnswer s r = tell_read_put_answer r ≡ tell_read_put_answer (put_answer_in s)
