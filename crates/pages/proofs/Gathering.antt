-- The rows whose flag is not 0 put into a queue in the store's order, one more at a turn: what the queue holds, with what is still to come, is
-- what it is to hold.
-- Assumes nothing.
use mathlib.Core.Path.{◌≡◌, refl, sym, ap, ◌∙◌}
use mathlib.Core.List.{List, [], ◌∷◌, ◌++◌, append_assoc, append-nil, map, map-append}
use Prim.Native.Nat.{ℕ, suc, ◌+◌, ◌-◌, ◌*◌, ◌^◌, ◌≤◌, ◌<◌}
use native.Mathlib.Omega.{arith}
use native.Mathlib.Numerals.{add-one}
use lib.ListN.{length, take, drop, get_or, set, length-map}
use lib.Seq.{drop-cons, take-suc-set, length-take-le}
use lib.Dec.{eqb}
use borrow.Author.Tests.{eq-eqb, ne_eqb}
use Rattle.laws.specs.Pick.{pick}
use Rattle.talk.specs.Each.{Each}
use Rattle.store.specs.Tables.{most_elements}
use Rattle.store.specs.declared.element.Element.{Element}
use Rattle.order.specs.Queue.{chosen, positions_from}
use Rattle.order.proofs.Rearranged.{each_append}
use Rattle.order.specs.Groups.{stored_length}
use Rattle.pages.specs.Weighed.{weighed, weighed_in, weighed_rows, WeighsRow}
use Rattle.pages.specs.Tables.{Gathered}
use Rattle.pages.specs.declared.weighed.Column.{Column}
use Rattle.pages.proofs.Lengths.{stored_append}

-- those of the rows from i on
abbrev chosen_from : (ℕ → Element) → ℕ → List ℕ → ℕ → List Element
chosen_from f n flags i = chosen (map f (positions_from i (n - i))) (drop i flags)

chosen_turn : (f : ℕ → Element) (n : ℕ) (flags : List ℕ) (i : ℕ) → i < n → i < length flags
    → chosen_from f n flags i ≡ pick (eqb (get_or flags i 0) 0) (chosen_from f n flags (i + 1)) (f i ∷ chosen_from f n flags (i + 1))
unfolding chosen positions_from
chosen_turn f n flags i h g = let e : n - i ≡ suc (n - suc i) = omega arith in rw (e, drop-cons flags i 0 g, add-one i)

chosen_end : (f : ℕ → Element) (n : ℕ) (flags : List ℕ) (i : ℕ) → n ≤ i → chosen_from f n flags i ≡ []
unfolding chosen positions_from
chosen_end f n flags i h = let e : n - i ≡ 0 = omega arith in rw e

pub record Gathering (rows ids : List ℕ) (n : ℕ) (lengths : List ℕ) (c : Column) (flags queue : List ℕ) (count stored i : ℕ) : Type 0 where
  pub inside : i ≤ n
  pub few : count ≤ i
  pub short : stored ≤ 2 ^ 32 * i
  pub summed : stored ≡ stored_length (weighed_in rows ids lengths c count queue)
  pub within : Each (λ (j : ℕ). WeighsRow rows ids lengths c j) (take count queue)
  pub light : Each (λ (x : Element). x.length ≤ 2 ^ 32) (weighed_in rows ids lengths c count queue)
  pub are : weighed_in rows ids lengths c count queue ++ chosen_from (weighed rows ids lengths c) n flags i ≡ chosen (weighed_rows rows ids lengths c n) flags

module _ (rows ids : List ℕ) (n : ℕ) (lengths : List ℕ) (c : Column) (flags : List ℕ) where
  abbrev row : ℕ → Element
  row i = weighed rows ids lengths c i

  pub gathering_start : (queue : List ℕ) → Gathering rows ids n lengths c flags queue 0 0 0
  unfolding stored_length
  gathering_start queue =
      let e : n - 0 ≡ n = omega arith in
      record { inside = omega arith; few = omega arith; short = omega arith; summed = refl; within = tt; light = tt; are = rw e }

  module _ {queue : List ℕ} {count stored i : ℕ} (g : Gathering rows ids n lengths c flags queue count stored i) (h : i < n) (f : i < length flags) where
    pub gathering_passed : get_or flags i 0 ≡ 0 → Gathering rows ids n lengths c flags queue count stored (i + 1)
    gathering_passed e =
        let a = g.few in
        let b = g.short in
        record {
          inside = omega arith;
          few = omega arith;
          short = omega arith;
          summed = g.summed;
          within = g.within;
          light = g.light;
          are = ap (λ (l : List Element). map row (take count queue) ++ l) (sym (chosen_turn row n flags i h f ∙ rw (eq-eqb (get_or flags i 0) 0 e))) ∙ g.are;
        }

    pub gathering_taken : (get_or flags i 0 ≡ 0 → ⊥) → WeighsRow rows ids lengths c i → (row i).length ≤ 2 ^ 32 → count < length queue → {queue' : List ℕ} → queue' ≡ set queue count i
        → Gathering rows ids n lengths c flags queue' (count + 1) (stored + (row i).length) (i + 1)
    unfolding stored_length
    gathering_taken e stands light room {queue'} q =
        let x = row i in
        let t : take (count + 1) queue' ≡ take count queue ++ (i ∷ []) = ap (take (count + 1)) q ∙ rw (add-one count) (take-suc-set queue count i room) in
        let are' : map row (take (count + 1) queue') ≡ map row (take count queue) ++ (x ∷ []) = ap (map row) t ∙ map-append row (take count queue) (i ∷ []) in
        let a = g.few in
        let b = g.short in
        let s = g.summed in
        record {
          inside = omega arith;
          few = omega arith;
          short = omega arith;
          summed = rw (are', stored_append (map row (take count queue)) (x ∷ []), s) (omega arith);
          within = rw t (each_append (λ (j : ℕ). WeighsRow rows ids lengths c j) (take count queue) (i ∷ []) g.within (stands, tt));
          light = rw are' (each_append (λ (y : Element). y.length ≤ 2 ^ 32) (map row (take count queue)) (x ∷ []) g.light (light, tt));
          are = rw (are', append_assoc (map row (take count queue)) (x ∷ []) (chosen_from row n flags (i + 1)))
              (ap (λ (l : List Element). map row (take count queue) ++ l) (sym (chosen_turn row n flags i h f ∙ rw (ne_eqb (get_or flags i 0) 0 e))) ∙ g.are);
        }

  pub gathering_end : {queue : List ℕ} {count stored i : ℕ} → n ≤ most_elements → n ≤ i → n ≤ length queue → Gathering rows ids n lengths c flags queue count stored i
      → Gathered rows ids lengths c (chosen (weighed_rows rows ids lengths c n) flags) queue (record { count = count; stored = stored })
  gathering_end {queue} {count} {stored} {i} few e room g =
      let are' : map row (take count queue) ≡ chosen (weighed_rows rows ids lengths c n) flags =
      sym (append-nil (map row (take count queue))) ∙ ap (λ (l : List Element). map row (take count queue) ++ l) (sym (chosen_end row n flags i e)) ∙ g.are in
      let a = g.few in
      let b = g.inside in
      let s = g.short in
      record {
        few = omega arith;
        small = omega arith;
        light = g.light;
        counted = sym (length-take-le count queue (omega arith)) ∙ sym (length-map (take count queue) row) ∙ ap length are';
        summed = g.summed ∙ ap stored_length are';
        queued = record { long = omega arith; within = g.within };
        are = are';
      }
