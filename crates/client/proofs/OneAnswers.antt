-- Writing a request or a put determines its answer and the output, and reading an answer or that to a put, finding an answer's element
-- and giving that element's bytes determine theirs: any two that a promise allows are equal.
-- Assumes nothing.
use mathlib.Core.Path.{◌≡◌, refl, sym, ap, ◌∙◌}
use mathlib.Core.Bool.{Bool}
use mathlib.Core.List.{List, []}
use Prim.Native.Nat.{ℕ}
use lib.ListN.{get_or, drop}
use Rattle.laws.proofs.Cases.{impossible}
use Rattle.laws.proofs.OneAnswer.{Telling, one_answer, one_outcome}
use Rattle.numbers.proofs.OneAnswers.{refuses_telling, values_of, same_guid, wrote_telling}
use Rattle.numbers.specs.declared.guid.Guid.{Guid}
use Rattle.numbers.specs.Results.ExtendedGuid.{ExtendedGuid}
use Rattle.numbers.specs.Results.ExtendedGuid as id
use Rattle.numbers.specs.Results.Wrote.{Wrote}
use Rattle.store.specs.Results.Found.{Found}
use Rattle.store.proofs.OneAnswers.{found_telling}
use Rattle.pages.proofs.OneAnswers.{mark_telling}
use Rattle.client.specs.Ask.{WritesRequest}
use Rattle.client.specs.Read.{id_numbers, received_numbers, tell_read_answer, ReadsAnswer}
use Rattle.client.specs.Accessor.{FindsReceived, received_bytes}
use Rattle.client.specs.PutWritten.{WritesPut}
use Rattle.client.specs.ReadPut.{received_put_numbers, tell_read_put_answer, ReadsPutAnswer}
use Rattle.client.specs.declared.answer.Received.{Received}
use Rattle.client.specs.Results.ReadAnswer.{ReadAnswer}
use Rattle.client.specs.Results.ReadAnswer as answer
use Rattle.client.specs.declared.put_answer.ReceivedPut.{ReceivedPut}
use Rattle.client.specs.Results.ReadPutAnswer.{ReadPutAnswer}
use Rattle.client.specs.Results.ReadPutAnswer as put_answer

-- ---- an answer that is read is known by what it tells

same_named : {g h : Guid} {x y : ℕ} → g.low ≡ h.low → g.high ≡ h.high → x ≡ y → id.Named g x ≡ id.Named h y
same_named a b c = let z = same_guid a b in cc

id_telling : Telling id_numbers
unfolding id_numbers
id_telling id.Null id.Null e = refl
id_telling id.Null (id.Named h y) e = impossible (cc)
id_telling (id.Named g x) id.Null e = impossible (cc)
id_telling (id.Named g x) (id.Named h y) e = same_named (cc) (cc) (cc)

abbrev received_of : ℕ → Bool → ExtendedGuid → ℕ → ℕ → ℕ → ℕ → Received
received_of i p x e c k l = record { id = i; partial = p; index = x; elements = e; count = c; knowledge = k; length = l }

same_received : {i i' e e' c c' k k' l l' : ℕ} {p p' : Bool} {x x' : ExtendedGuid} → i ≡ i' → p ≡ p' → x ≡ x' → e ≡ e' → c ≡ c' → k ≡ k' → l ≡ l'
    → received_of i p x e c k l ≡ received_of i' p' x' e' c' k' l'
same_received a b c d e f g = cc

received_telling : Telling received_numbers
unfolding received_numbers
received_telling x y v =
    let at : (i : ℕ) → get_or (received_numbers x) i 0 ≡ get_or (received_numbers y) i 0 = λ i. ap (λ (l : List ℕ). get_or l i 0) v in
    same_received (at 2) (mark_telling x.partial y.partial (at 3)) (id_telling x.index y.index (ap (drop 6) v)) (at 4) (at 5) (at 0) (at 1)

no_numbers : {P : Type 0} (x : Received) → received_numbers x ≡ [] → P
unfolding received_numbers
no_numbers x e = impossible (cc)

pub read_answer_telling : Telling tell_read_answer
read_answer_telling (answer.Is x) (answer.Is y) e = ap answer.Is (received_telling x y (values_of _ _ e))
read_answer_telling (answer.Is x) (answer.Refused q) e = no_numbers x (values_of _ _ e)
read_answer_telling (answer.Refused r) (answer.Is y) e = no_numbers y (sym (values_of _ _ e))
read_answer_telling (answer.Refused r) (answer.Refused q) e = ap answer.Refused (refuses_telling r q e)

-- ---- any two answers allowed are equal

pub writes_one : (id limit : ℕ) (f k : List ℕ) (r t : Wrote) (out out' out'' : List ℕ) → WritesRequest id limit f k r out out' → WritesRequest id limit f k t out out''
    → (r ≡ t) × (out' ≡ out'')
writes_one id limit f k r t out out' out'' a b = one_outcome wrote_telling a b

pub read_answer_one : (s : List ℕ) (r t : ReadAnswer) → ReadsAnswer s r → ReadsAnswer s t → r ≡ t
read_answer_one s r t a b = one_answer read_answer_telling a b

pub find_received_one : (s : List ℕ) (i : ℕ) (r t : Found) → FindsReceived s i r → FindsReceived s i t → r ≡ t
find_received_one s i r t a b = one_answer found_telling a b

pub received_bytes_one : (s : List ℕ) (i : ℕ) (r t : List ℕ) → r ≡ received_bytes s i → t ≡ received_bytes s i → r ≡ t
received_bytes_one s i r t a b = a ∙ sym b

-- ---- a put, and the answer to it

abbrev received_put_of : ℕ → ℕ → ℕ → ReceivedPut
received_put_of i k l = record { id = i; knowledge = k; length = l }

same_received_put : {i i' k k' l l' : ℕ} → i ≡ i' → k ≡ k' → l ≡ l' → received_put_of i k l ≡ received_put_of i' k' l'
same_received_put a b c = cc

received_put_telling : (x y : ReceivedPut) → received_put_numbers x ≡ received_put_numbers y → x ≡ y
received_put_telling x y v =
    let at : (i : ℕ) → get_or (received_put_numbers x) i 0 ≡ get_or (received_put_numbers y) i 0 = λ i. ap (λ (l : List ℕ). get_or l i 0) v in
    same_received_put (at 2) (at 0) (at 1)

pub read_put_answer_telling : Telling tell_read_put_answer
read_put_answer_telling (put_answer.Is x) (put_answer.Is y) e = ap put_answer.Is (received_put_telling x y (values_of _ _ e))
read_put_answer_telling (put_answer.Is x) (put_answer.Refused q) e = let v = values_of _ _ e in impossible (cc)
read_put_answer_telling (put_answer.Refused r) (put_answer.Is y) e = let v = values_of _ _ e in impossible (cc)
read_put_answer_telling (put_answer.Refused r) (put_answer.Refused q) e = ap put_answer.Refused (refuses_telling r q e)

pub writes_put_one : (id : ℕ) (x : ExtendedGuid) (s : List ℕ) (r t : Wrote) (out out' out'' : List ℕ) → WritesPut id x s r out out' → WritesPut id x s t out out''
    → (r ≡ t) × (out' ≡ out'')
writes_put_one id x s r t out out' out'' a b = one_outcome wrote_telling a b

pub read_put_answer_one : (s : List ℕ) (r t : ReadPutAnswer) → ReadsPutAnswer s r → ReadsPutAnswer s t → r ≡ t
read_put_answer_one s r t a b = one_answer read_put_answer_telling a b
