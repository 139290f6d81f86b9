-- Reading a put and applying it determine their answers and all that they are lent: any two that their promises allow are equal.
-- Assumes nothing.
use mathlib.Core.Path.{◌≡◌, sym, ap, ◌∙◌}
use mathlib.Core.List.{List}
use Prim.Native.Nat.{ℕ}
use Rattle.laws.proofs.Cases.{impossible}
use Rattle.laws.proofs.OneAnswer.{Telling, one_answer}
use Rattle.numbers.specs.declared.guid.Guid.{Guid}
use Rattle.numbers.proofs.OneAnswers.{refuses_telling, values_of}
use Rattle.puts.specs.Put.{ReadsPut}
use Rattle.puts.specs.Applied.{tell_applied, Puts}
use Rattle.puts.specs.Results.Put.{Put}
use Rattle.puts.specs.Results.Applied.{Applied}
use Rattle.puts.specs.Results.Applied as applied

pub reads_put_one : (s : List ℕ) (r q : Put) (rows rows' rows'' ids ids' ids'' : List ℕ) → ReadsPut s r rows rows' ids ids' → ReadsPut s q rows rows'' ids ids''
    → (r ≡ q) × (rows' ≡ rows'') × (ids' ≡ ids'')
reads_put_one s r q rows rows' rows'' ids ids' ids'' a b = (a.0 ∙ sym b.0, a.1 ∙ sym b.1, a.2 ∙ sym b.2)

pub applied_telling : Telling tell_applied
applied_telling (applied.Entered a b) (applied.Entered c d) q = let v = values_of _ _ q in cc
applied_telling (applied.Entered a b) (applied.Refused r) q = let v = values_of _ _ q in impossible (cc)
applied_telling (applied.Refused r) (applied.Entered c d) q = let v = values_of _ _ q in impossible (cc)
applied_telling (applied.Refused r) (applied.Refused t) q = ap applied.Refused (refuses_telling r t q)

pub puts_one : (s q : List ℕ) (g : Guid) (r t : Applied) (new new' new'' out out' out'' : List ℕ) → Puts s q g r new new' out out' → Puts s q g t new new'' out out''
    → (r ≡ t) × (new' ≡ new'') × (out' ≡ out'')
puts_one s q g r t new new' new'' out out' out'' a b = (one_answer applied_telling a.0 b.0, a.1 ∙ sym b.1, a.2 ∙ sym b.2)
