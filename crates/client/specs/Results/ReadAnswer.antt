-- What came; or the refusal.
-- Assumes nothing.
use Rattle.std.specs.Prelude.{Result, Ok, Err}
use Rattle.numbers.specs.declared.refusal.Refusal.{Refusal}
use Rattle.client.specs.declared.answer.Received.{Received}

abbrev pub ReadAnswer : Type 0
ReadAnswer = Result Received Refusal

pattern abbrev pub Is : Received → ReadAnswer
Is x = Ok x

pattern abbrev pub Refused : Refusal → ReadAnswer
Refused r = Err r
