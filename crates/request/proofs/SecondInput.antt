-- What comes of a result whose fault is made one of the second input, as by `map_err(in_request)`.
-- Assumes nothing.
use mathlib.Core.Path.{◌≡◌, refl, sym, ◌∙◌}
use Rattle.std.specs.Prelude.{Result, Ok, Err}
use Rattle.std.specs.Result.{MatchResult, IsErrAnd}
use Rattle.std.proofs.lemmas.Result.{err_from_is_err_and}
use Rattle.laws.proofs.Cases.{impossible}
use Rattle.numbers.specs.declared.refusal.Refusal.{Refusal}
use Rattle.request.specs.Message.{in_request}

abbrev pub InSecond : {T : Type 0} → Result T Refusal → Result T Refusal → Type 0
InSecond x r = MatchResult x (λ v. r ≡ Ok v) (λ e. IsErrAnd r (λ f. f ≡ in_request e))

pub second_ok : {T : Type 0} (x r : Result T Refusal) → InSecond x r → (v : T) → r ≡ Ok v → x ≡ Ok v
second_ok (Ok w) r h v e = sym h ∙ e
second_ok (Err d) r h v e = let p = err_from_is_err_and r h in let z = p.1 in impossible (cc)

pub second_fault : {T : Type 0} (x r : Result T Refusal) → InSecond x r → (f : Refusal) → r ≡ Err f → (e : Refusal) × (x ≡ Err e) × (f ≡ in_request e)
second_fault (Ok w) r h f e = impossible (cc)
second_fault (Err d) r h f e = let p = err_from_is_err_and r h in let z = p.1 in let i : f ≡ p.0 = cc in (d, refl, i ∙ p.2)
