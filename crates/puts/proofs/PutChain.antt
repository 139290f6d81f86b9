-- A put that reads: its elements are a chain, each read where the one before it ends, and no id stands twice among them.
-- Assumes nothing.
use mathlib.Core.Path.{◌≡◌, refl}
use mathlib.Core.Bool.{true}
use mathlib.Core.List.{List, []}
use Prim.Native.Nat.{ℕ}
use Rattle.laws.specs.Once.{once}
use Rattle.laws.proofs.Cases.{by_bool}
use Rattle.objects.specs.Steps.{next_is}
use Rattle.objects.specs.Results.Reading.{Reading}
use Rattle.store.specs.Chain.{Follows}
use Rattle.store.specs.Element.{same_key, ids_in}
use Rattle.store.specs.Store.{Stands}
use Rattle.store.proofs.Chains.{package_read, chain_ids_once}
use Rattle.puts.specs.Put.{put_strictness, put_package, put_front, before_package, put_walk}
use Rattle.puts.proofs.PutHeld.{put_whole}

-- the package may be absent: then there are none
package_chain : (q : List ℕ) (c : Reading) → Stands (put_package q c).last
    → (first : ℕ) × (end : ℕ) × Follows put_strictness q [] first (put_package q c).elements end
unfolding put_package
package_chain q c h =
    by_bool (next_is q 0x15 c)
    (λ e. let r = package_read put_strictness 0x40 q c (rw e at h) in rw e (r.first, r.end, r.chain))
    (λ e. rw e (0, 0, refl))

pub put_chain : (q : List ℕ) → Stands (put_walk q).last → (first : ℕ) × (end : ℕ) × Follows put_strictness q [] first (put_walk q).elements end
put_chain q h = let w = put_whole q h in rw w.elements (package_chain q (before_package q (put_front q).last) w.last)

pub put_ids_once : (q : List ℕ) → Stands (put_walk q).last → once same_key (ids_in (put_walk q).elements) ≡ true
put_ids_once q h = let r = put_chain q h in chain_ids_once put_strictness q (put_walk q).elements r.0 r.1 r.2
