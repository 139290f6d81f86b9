-- What came as the answer to a put; or the refusal.
-- Assumes nothing.
use Rattle.std.specs.Prelude.{Result, Ok, Err}
use Rattle.numbers.specs.declared.refusal.Refusal.{Refusal}
use Rattle.client.specs.declared.put_answer.ReceivedPut.{ReceivedPut}

abbrev pub ReadPutAnswer : Type 0
ReadPutAnswer = Result ReceivedPut Refusal

pattern abbrev pub Is : ReceivedPut → ReadPutAnswer
Is x = Ok x

pattern abbrev pub Refused : Refusal → ReadPutAnswer
Refused r = Err r
