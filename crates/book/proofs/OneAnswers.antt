-- Keeping an answer determines what the call answers and the buffer that it is lent: any two that its promise allows are equal.
-- Assumes nothing.
use mathlib.Core.Path.{◌≡◌, sym, ap, ◌∙◌}
use mathlib.Core.List.{List}
use Prim.Native.Nat.{ℕ}
use Rattle.laws.proofs.Cases.{impossible}
use Rattle.laws.proofs.OneAnswer.{Telling, one_answer}
use Rattle.numbers.proofs.OneAnswers.{refuses_telling, values_of}
use Rattle.book.specs.Keep.{tell_keeping, KeepsAnswer}
use Rattle.book.specs.Results.Keeping.{Keeping}
use Rattle.book.specs.Results.Keeping as keeping

keeping_telling : Telling tell_keeping
keeping_telling (keeping.Book a) (keeping.Book c) q = let v = values_of _ _ q in cc
keeping_telling (keeping.Book a) (keeping.Refused r) q = let v = values_of _ _ q in impossible (cc)
keeping_telling (keeping.Refused r) (keeping.Book c) q = let v = values_of _ _ q in impossible (cc)
keeping_telling (keeping.Refused r) (keeping.Refused t) q = ap keeping.Refused (refuses_telling r t q)

pub keeps_one : (b w : List ℕ) (r t : Keeping) (new new' new'' : List ℕ) → KeepsAnswer b w r new new' → KeepsAnswer b w t new new'' → (r ≡ t) × (new' ≡ new'')
keeps_one b w r t new new' new'' a c = (one_answer keeping_telling a.0 c.0, a.1 ∙ sym c.1)
