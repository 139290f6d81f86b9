-- The calls on a request determine their answers: what is told is known by what tells it, and any two answers allowed are equal.
-- Assumes nothing.
use native.Mathlib.Omega.{arith}
use mathlib.Core.Path.{◌≡◌, sym, ap, ◌∙◌}
use mathlib.Core.List.{List}
use Prim.Native.Nat.{ℕ}
use Rattle.std.specs.Prelude.{Ok}
use Rattle.laws.proofs.Cases.{impossible}
use Rattle.laws.proofs.OneAnswer.{Telling}
use Rattle.numbers.proofs.OneAnswers.{refuses_telling, values_of}
use Rattle.objects.specs.Results.Reading.{Reading}
use Rattle.request.specs.Choice.{Chooses}
use Rattle.request.specs.Message.{ReadsRequest, tell_request}
use Rattle.request.specs.Results.Request.{Refused, Request}

pub request_telling : Telling tell_request
request_telling (Ok x) (Ok y) q = let v = values_of _ _ q in grind arith
request_telling (Ok x) (Refused r) q = let v = values_of _ _ q in impossible (cc)
request_telling (Refused r) (Ok x) q = let v = values_of _ _ q in impossible (cc)
request_telling (Refused r) (Refused t) q = ap Refused (refuses_telling r t q)

-- the answer, and the table at exit
pub reads_request_one : (s t : List ℕ) (r q : Request) (x y : List ℕ) → ReadsRequest s t r x → ReadsRequest s t q y → (r ≡ q) × (x ≡ y)
reads_request_one s t r q x y a b = (a.0 ∙ sym b.0, a.1 ∙ sym b.1)

-- the flags at exit
pub chooses_one : (s : List ℕ) (c : Reading) (count : ℕ) (rows ids : List ℕ) (n : ℕ) (entry x y : List ℕ) → Chooses s c count rows ids n entry x → Chooses s c count rows ids n entry y → x ≡ y
chooses_one s c count rows ids n entry x y a b = a ∙ sym b
