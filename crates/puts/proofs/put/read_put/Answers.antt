-- `put::read_put` meets its contract.
-- Assumes nothing.
use mathlib.Core.Path.{◌≡◌, sym, ap, subst}
use Prim.Native.Nat.{ℕ}
use Rattle.std.specs.Prelude.{Ok, Err}
use Rattle.std.proofs.Common.{rules}
use Rattle.numbers.specs.declared.refusal.Refusal.{Refusal}
use Rattle.numbers.specs.Results.ExtendedGuid.{ExtendedGuid}
use Rattle.objects.specs.Results.Reading.{At, Reading, Refused}
use Rattle.objects.specs.Steps.{Good}
use Rattle.request.specs.Message.{in_request}
use Rattle.request.proofs.SecondInput.{second_ok, second_fault}
use Rattle.puts.specs.Put.{put_end, put_head, put_read}
use Rattle.puts.specs.declared.put.PutHead.{PutHead}
use Rattle.puts.specs.Results.Put.{Put}
use Rattle.puts.proofs.PutParts.{good_front_put, good_before_package}
use Rattle.puts.proofs.PutWhole.{behind_head, put_refused, put_holds}
use Rattle.puts.proofs.put.read_put.Goals as goal

-- the answer, where a fault stands behind the package, and where none does
read_refused : (c : Reading) (id : ℕ) (x : ExtendedGuid) (n : ℕ) (r : Refusal) → c ≡ Refused r → ◌≡◌ {A = Put} (Err (in_request r)) (put_read c id x n)
unfolding put_read
read_refused c id x n r e = rw e

read_all : (c : Reading) (id : ℕ) (x : ExtendedGuid) (n p v : ℕ) → c ≡ At p v → ◌≡◌ {A = Put} (Ok (record { id = id; expected = x; count = n })) (put_read c id x n)
unfolding put_read
read_all c id x n p v e = rw e

pub put_package-requires : goal.put_package-requires
unfolding put_head
put_package-requires c = subst (Good c.args.s.now) (sym (ap (λ (h : PutHead). h.behind) c.requires.1)) (good_before_package _ _ (good_front_put _))

pub returns-in_err-e : goal.returns-in_err-e
unfolding put_head
returns-in_err-e c = let w = behind_head c.args.s.now _ _ _ _ c.args.head _ c.requires.1 c.put_package.ensures in
    let f = second_fault c.put_package.result c.map_err.result c.map_err.ensures.cases _ c.in_err-e.was in
    let residual : c.from_residual.result ≡ Err c.in_err-e.field-0.0 = search rules in
    rw (residual, f.2) (put_refused c.args.s.now _ _ _ _ c.requires.0 _ w _ f.1)

pub returns-in_err-map_err : goal.returns-in_err-map_err
unfolding put_end put_head
returns-in_err-map_err c = let a = c.args in
    let w = behind_head a.s.now _ _ _ _ a.head _ c.requires.1 c.put_package.ensures in
    let f = second_fault c.finish.result c.map_err-2.result c.map_err-2.ensures.cases _ c.in_err-map_err.was in
    let residual : c.from_residual-in_err-map_err.result ≡ Err c.in_err-map_err.field-0.0 = search rules in
    rw (residual, f.2, read_refused c.finish.result a.head.id a.head.expected c.in_ok-e.count f.0 f.1, c.finish.ensures, c.end.ensures, ap (λ (h : PutHead). h.id) c.requires.1, ap (λ (h : PutHead). h.expected) c.requires.1)
    (put_holds a.s.now _ _ _ _ c.requires.0 _ w _ _ (second_ok c.put_package.result c.map_err.result c.map_err.ensures.cases _ c.in_ok-e.was))

pub returns : goal.returns
unfolding put_end put_head
returns c = let a = c.args in
    let w = behind_head a.s.now _ _ _ _ a.head _ c.requires.1 c.put_package.ensures in
    let e = second_ok c.finish.result c.map_err-2.result c.map_err-2.ensures.cases _ c.in_ok-map_err.was in
    rw (read_all c.finish.result a.head.id a.head.expected c.in_ok-e.count _ _ e, c.finish.ensures, c.end.ensures, ap (λ (h : PutHead). h.id) c.requires.1, ap (λ (h : PutHead). h.expected) c.requires.1)
    (put_holds a.s.now _ _ _ _ c.requires.0 _ w _ _ (second_ok c.put_package.result c.map_err.result c.map_err.ensures.cases _ c.in_ok-e.was))
