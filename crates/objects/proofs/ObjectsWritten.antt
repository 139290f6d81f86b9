-- What was written of objects reads back by the steps: starts, ends, contents that are nested, and whether a start of a type
-- stands next.
-- Assumes nothing.
use mathlib.Core.Path.{◌≡◌, refl}
use mathlib.Core.Bool.{Bool, true, false}
use mathlib.Core.List.{List, ◌++◌}
use Prim.Native.Nat.{ℕ, ◌+◌, ◌^◌, ◌<◌, ◌≤◌}
use native.Mathlib.Nat.{zero-add}
use lib.ListN.{length, drop}
use borrow.Author.Tests.{eq-eqb}
use Rattle.laws.proofs.Agreement.{same_whole}
use Rattle.numbers.specs.Compact.{padding_taken}
use Rattle.objects.specs.Header.{start_bytes, end_bytes}
use Rattle.objects.specs.Nesting.{run_at}
use Rattle.objects.specs.Steps.{same_bit, start_here, length_is, start_of_length, end_here, next_is, inside}
use Rattle.objects.specs.Results.Passed as passed
use Rattle.objects.specs.Results.Reading.{At}
use Rattle.objects.proofs.HeadersBack.{start_written, end_written}
use Rattle.objects.proofs.Local.{run_local}
use Rattle.objects.proofs.Written.{Reads}

same_bit_lem : (b : Bool) → same_bit b b ≡ true
same_bit_lem true = refl
same_bit_lem false = refl

-- a start of this type and compound bit, inside any open object
pub reads_start : (padding : Bool) (u outer k : ℕ) (c : Bool) (n : ℕ) → k ≤ 0x3FFF → n < 2 ^ 64 → Reads (λ s r. start_here padding s outer k c true r) u (start_bytes k c n) n
unfolding start_here
reads_start padding u outer k c n hk hn =
    record {
      here =
          λ s at t h.
          let w = start_written padding s at k n c t hk hn h in
          rw (w.header, eq-eqb k k refl, same_bit_lem c, w.true_length);
    }

pub reads_start_of_length : (padding : Bool) (u outer k : ℕ) (c : Bool) (n : ℕ) → k ≤ 0x3FFF → n < 2 ^ 64
    → Reads (λ s r. start_of_length padding s outer k c true n r) u (start_bytes k c n) n
unfolding start_of_length length_is
reads_start_of_length padding u outer k c n hk hn =
    record { here = λ s at t h. rw ((reads_start padding u outer k c n hk hn).here s at t h, eq-eqb n n refl) }

pub reads_end : (u k : ℕ) → k ≤ 0x3FFF → Reads (λ s r. end_here s k r) u (end_bytes k) 0
unfolding end_here
reads_end u k hk = record { here = λ s at t h. rw (end_written s at k t hk h, eq-eqb k k refl) }

-- whether a start of a type stands here: where one was written, and where an end was
pub next_start : (s : List ℕ) (at u k : ℕ) (c : Bool) (n : ℕ) (t : List ℕ) → k ≤ 0x3FFF → n < 2 ^ 64 → drop at s ≡ start_bytes k c n ++ t
    → next_is s k (At at u) ≡ true
unfolding next_is
next_start s at u k c n t hk hn h = let w = start_written padding_taken s at k n c t hk hn h in rw (w.header, eq-eqb k k refl)

pub next_end : (s : List ℕ) (at u kind k : ℕ) (t : List ℕ) → k ≤ 0x3FFF → drop at s ≡ end_bytes k ++ t → next_is s kind (At at u) ≡ false
unfolding next_is
next_end s at u kind k t hk h = rw (end_written s at k t hk h)

-- contents that read to the end of their own bytes w, wherever these stand and whatever follows
pub reads_inside : (padding : Bool) (u d k : ℕ) (w : List ℕ) → run_at padding w 0 d k ≡ passed.To (length w) → Reads (λ s r. inside padding s d k r) u w 0
unfolding inside
reads_inside padding u d k w e =
    record {
      here =
          λ s at t h.
          let r : run_at padding s at d k ≡ passed.To (at + length w) = run_local padding w 0 s at d k (length w) (rw zero-add e) (same_whole w s at t h) in
          rw r;
    }
