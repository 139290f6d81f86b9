-- What was written for a package is read with no refusal wherever it stands, as exactly the elements that were written, each
-- behind the one before; and so is a store.
-- Assumes nothing.
use mathlib.Core.Path.{◌≡◌, refl, sym, subst, ap, ◌∙◌}
use mathlib.Core.Bool.{true}
use mathlib.Core.List.{List, [], ◌∷◌, ◌++◌, map, map-append, append_assoc, append-nil}
use Prim.Native.Nat.{ℕ, suc, ◌+◌, ◌≤◌}
use native.Mathlib.Nat.{zero-add}
use native.Mathlib.Omega.{arith}
use lib.ListN.{length, drop, length-append}
use lib.Seq.{drop-length}
use borrow.Author.Tests.{le-ltb}
use Rattle.laws.specs.Once.{once}
use Rattle.laws.proofs.Twice.{once_before}
use Rattle.numbers.specs.Refusals.{longest_input}
use Rattle.objects.specs.Header.{end_bytes}
use Rattle.objects.specs.Steps.{nothing_open, end_here}
use Rattle.objects.specs.Results.Reading.{At}
use Rattle.objects.proofs.Written.{behind, reads_then, reads_skip, finish_written}
use Rattle.objects.proofs.ObjectsWritten.{reads_start_of_length, reads_end}
use Rattle.store.specs.Element.{same_key, element_at}
use Rattle.store.specs.Tables.{most_elements}
use Rattle.store.specs.Store.{package_start, Walk, walked, package_walk, store_walk, store_padding, store_strictness}
use Rattle.store.specs.Chain.{Follows}
use Rattle.store.specs.Written.{Content, written_element, written_elements, package_front, package_bytes, AllFit, element_of, elements_from}
use Rattle.store.specs.declared.element.Key.{Key}
use Rattle.store.specs.declared.element.Element.{Element}
use Rattle.store.specs.Results.ReadElement.{Is}
use Rattle.store.specs.declared.element.Strictness.{Strictness}
use Rattle.store.proofs.ElementWritten.{element_written}
use Rattle.store.proofs.Chains.{same_turn, package_walked}

-- ---- the elements

abbrev ids : List Element → List Key
ids done = map (λ (x : Element). x.id) done

-- the id of one element more, with the ids that are to come
ids_more : (done : List Element) (x : Element) (rest : List Key) → ids (done ++ (x ∷ [])) ++ rest ≡ ids done ++ (x.id ∷ rest)
ids_more done x rest = rw (map-append (λ (y : Element). y.id) done (x ∷ []), append_assoc)

-- written one behind the other, they are a chain
written_chain : (strict : Strictness) (s : List ℕ) (at : ℕ) (done : List Element) (cs : List Content) (t : List ℕ) → AllFit strict.padding strict.levels cs
    → once same_key (ids done ++ map (λ (c : Content). c.id) cs) ≡ true
    → drop at s ≡ written_elements cs ++ t
    → Follows strict s done at (elements_from at cs) (at + length (written_elements cs))
unfolding written_elements elements_from
written_chain strict s at done [] t f a h = omega arith
written_chain strict s at done (c ∷ cs) t f a h =
    let w = written_element c in
    let x = element_of at c in
    let h' : drop at s ≡ w ++ (written_elements cs ++ t) = h ∙ append_assoc w (written_elements cs) t in
    let r : element_at strict (ids done) s (At at 0) ≡ Is x =
    element_written strict (ids done) s at 0 c (written_elements cs ++ t) f.0 h'
    (once_before same_key same_turn c.id (ids done) (map (λ (c : Content). c.id) cs) a) in
    let i = written_chain strict s (at + length w) (done ++ (x ∷ [])) cs t f.1
    (rw (ids_more done x (map (λ (y : Content). y.id) cs)) a) (behind s at w (written_elements cs ++ t) h') in
    let n : at + length w + length (written_elements cs) ≡ at + length (w ++ written_elements cs) =
    let m = length-append w (written_elements cs) in omega arith in
    (r, subst (λ (e : ℕ). Follows strict s (done ++ (x ∷ [])) (at + length w) (elements_from (at + length w) cs) e) n i)

elements_count : (at : ℕ) (cs : List Content) → length (elements_from at cs) ≡ length cs
unfolding elements_from
elements_count at [] = refl
elements_count at (c ∷ cs) = ap suc (elements_count (at + length (written_element c)) cs)

-- ---- the package, wherever it stands

module _ (strict : Strictness) (outer : ℕ) (s : List ℕ) (at u : ℕ) (cs : List Content) (t : List ℕ) (h : drop at s ≡ package_bytes cs ++ t) where
  abbrev inner : List ℕ
  inner = written_elements cs ++ (end_bytes 0x15 ++ t)

  front_stands : drop at s ≡ package_front ++ inner
  unfolding package_bytes
  front_stands =
      h ∙ append_assoc package_front (written_elements cs ++ end_bytes 0x15) t
      ∙ ap (λ (l : List ℕ). package_front ++ l) (append_assoc (written_elements cs) (end_bytes 0x15) t)

  start_written : package_start strict.padding outer s (At at u) ≡ At (at + length package_front) 0
  unfolding package_start package_front
  start_written =
      (reads_then (reads_start_of_length strict.padding u outer 0x15 true 1 (omega arith) (omega arith)) (reads_skip 1 (0 ∷ []))
      ).here s at inner front_stands

  elements_stand : drop (at + length package_front) s ≡ inner
  elements_stand = behind s at package_front inner front_stands

  abbrev end : ℕ
  end = at + length package_front + length (written_elements cs)

  end_stands : end_here s 0x15 (At end 0) ≡ At (end + length (end_bytes 0x15)) 0
  end_stands =
      (reads_end 0 0x15 (omega arith)).here s end t
      (behind s (at + length package_front) (written_elements cs) (end_bytes 0x15 ++ t) elements_stand)

  total_length : end + length (end_bytes 0x15) ≡ at + length (package_bytes cs)
  unfolding package_bytes
  total_length =
      let a = length-append package_front (written_elements cs ++ end_bytes 0x15) in
      let b = length-append (written_elements cs) (end_bytes 0x15) in
      omega arith

  pub package_reads : length cs ≤ most_elements → AllFit strict.padding strict.levels cs → once same_key (map (λ (c : Content). c.id) cs) ≡ true
      → package_walk strict outer s (At at u) ≡ walked (elements_from (at + length package_front) cs) (At (at + length (package_bytes cs)) 0)
  package_reads l f a =
      let n = elements_count (at + length package_front) cs in
      package_walked strict outer s (At at u) (at + length package_front) 0 (elements_from (at + length package_front) cs) end
      (at + length (package_bytes cs)) 0 start_written
      (written_chain strict s (at + length package_front) [] cs (end_bytes 0x15 ++ t) f a elements_stand) (omega arith) (end_stands ∙ rw total_length)

-- ---- the store

pub package_walk_lem : (cs : List Content) → length cs ≤ most_elements → AllFit store_padding 14 cs → once same_key (map (λ (c : Content). c.id) cs) ≡ true
    → length (package_bytes cs) ≤ longest_input
    → store_walk (package_bytes cs) ≡ walked (elements_from (length package_front) cs) (At (length (package_bytes cs)) 0)
unfolding store_walk
package_walk_lem cs l f a m =
    let w = package_reads store_strictness nothing_open (package_bytes cs) 0 0 cs [] (sym (append-nil (package_bytes cs))) l f a in
    rw (le-ltb _ _ m, w, zero-add (length package_front), zero-add (length (package_bytes cs)), finish_written (package_bytes cs) (length (package_bytes cs)) 0 (drop-length (package_bytes cs)))

pub package_written : (cs : List Content) → length cs ≤ most_elements → AllFit store_padding 14 cs → once same_key (map (λ (c : Content). c.id) cs) ≡ true
    → length (package_bytes cs) ≤ longest_input
    → ((store_walk (package_bytes cs)).elements ≡ elements_from (length package_front) cs)
    × ((store_walk (package_bytes cs)).last ≡ At (length (package_bytes cs)) 0)
package_written cs l f a m =
    let w = package_walk_lem cs l f a m in (ap (λ (x : Walk). x.elements) w, ap (λ (x : Walk). x.last) w)
