-- A talk, ask by ask: what a bench reads in its answers, each of which takes from what is wanted then. For the proof of demand 3; a reader
-- of the demands can skip it.
-- Assumes nothing.
use mathlib.Core.Path.{◌≡◌, refl, sym, subst}
use mathlib.Core.Logic.{◌⊎◌, inl, inr, ⊎_elim}
use mathlib.Core.Bool.{Bool}
use mathlib.Core.List.{List, [], ◌∷◌}
use Prim.Native.Nat.{ℕ}
use Rattle.laws.specs.Bytes.{AllBytes}
use Rattle.laws.specs.Once.{once}
use Rattle.talk.specs.Series.{Answer, Chain, done, next, Judged, Delivers, over, idle, then}
use Rattle.talk.proofs.Delivery.{judged_converges}
use Rattle.talk.proofs.Series.{converges}
use Rattle.store.specs.Element.{same_key}
use Rattle.order.specs.Groups.{Group, group_serial}
use Rattle.store.specs.Store.{store_walk, Stands}
use Rattle.store.specs.declared.element.Key.{Key}
use Rattle.store.proofs.Chains.{same_turn}
use Rattle.request.specs.Meaning.{Filter}
use Rattle.evidence.specs.Talk.{KeyFits, groups_of, leaves_in, Talk, AllReadAs}
use Rattle.evidence.proofs.Sending.{serials_fit, serials_differ}
use Rattle.store.proofs.Rows.{same_itself}
use Rattle.evidence.proofs.Steps.{held, read_as, answered_judged, answer}

-- a store of which something was answered is read
pub record Read (s : List ℕ) (fs : List Filter) (know : Key → Bool) (ws : List (List ℕ)) (know' : Key → Bool) : Type 0 where
  pub answers : List (Answer Group)
  pub read : AllReadAs s ws answers
  pub chain : Chain (Judged same_key KeyFits group_serial (groups_of s) (leaves_in s fs)) know answers know'
  pub stands : (answers ≡ []) ⊎ Stands (store_walk s).last

pub all_read : (s : List ℕ) → AllBytes s → (fs : List Filter) {know know' : Key → Bool} {ws : List (List ℕ)} → Talk s fs know ws know' → Read s fs know ws know'
all_read s b fs over = record { answers = []; read = tt; chain = done; stands = inl refl }
all_read s b fs (idle {k = k} {m = m} q t) = let z = all_read s b fs t in record { answers = z.answers; read = z.read; chain = rw q.same z.chain; stands = z.stands }
all_read s b fs (then {k = k} {m = m} {a = w} r t) =
    let z = all_read s b fs t in
    record {
      answers = answer s b fs k m w r ∷ z.answers;
      read = (read_as s b fs k m w r, z.read);
      chain = next (answered_judged s b fs k m w r) z.chain;
      stands = inr (held s b fs k m w r).store_reads;
    }

-- so it delivers: where nothing was answered there is nothing to show of the store
pub delivered : (s : List ℕ) → AllBytes s → (fs : List Filter) {know know' : Key → Bool} {ws : List (List ℕ)} → (r : Read s fs know ws know')
    → Delivers same_key group_serial (groups_of s) (leaves_in s fs) know r.answers
unfolding once
delivered s b fs {know} r =
    ⊎_elim (λ e. subst (Delivers same_key group_serial (groups_of s) (leaves_in s fs) know) (sym e) none)
    (λ h.
    judged_converges same_key same_itself same_turn group_serial KeyFits (groups_of s) (leaves_in s fs) (serials_fit s b h) (serials_differ s) r.chain)
    r.stands
  where
    none : Delivers same_key group_serial (groups_of s) (leaves_in s fs) know []
    none = record { converges = converges done; none_twice = refl }
