-- A group measured as if it were one element (`lump` of `order`): pages of groups ask what pages of these elements ask, so that the laws of
-- deciding over elements hold of groups.
-- Assumes nothing.
use mathlib.Core.Path.{◌≡◌, refl, sym, ap, ◌∙◌, fun_ext}
use mathlib.Core.List.{List, [], ◌∷◌, map}
use Prim.Native.Nat.{ℕ, zero, suc, ◌+◌, ◌≤◌}
use native.Mathlib.Omega.{arith}
use lib.ListN.{length, take}
use lib.Dec.{ltb}
use Rattle.talk.specs.Each.{Each}
use Rattle.talk.specs.Ranges.{insert}
use Rattle.talk.specs.declared.range.Range.{Range}
use Rattle.talk.proofs.Things.{each_first}
use Rattle.store.specs.Held.{storage_index, serial_range, ranges_with}
use Rattle.store.specs.declared.element.Element.{Element}
use Rattle.order.specs.Groups.{Group, members, members_of, firsts, stored_length}
use Rattle.order.specs.Links.{lump}
use Rattle.order.proofs.GroupMembers.{each_members}
use Rattle.pages.specs.Tables.{fixed_length, table_measure}
use Rattle.pages.specs.Answer.{Ask, page_ranges, page_bytes, page_measure}
use Rattle.pages.proofs.Lengths.{stored_append, AllWithin, answer_length}

-- ---- some groups

pub take_map : {A B : Type 0} (f : A → B) (k : ℕ) (l : List A) → take k (map f l) ≡ map f (take k l)
take_map f zero l = refl
take_map f (suc k) [] = refl
take_map f (suc k) (x ∷ l) = ap (λ t. f x ∷ t) (take_map f k l)

-- the members' stored lengths
stored_lumps : (gs : List Group) → stored_length (map lump gs) ≡ stored_length (members_of gs)
unfolding stored_length members_of lump
stored_lumps [] = refl
stored_lumps (g ∷ gs) = omega (arith, stored_lumps gs, stored_append (members g) (members_of gs))

-- one serial number for each
ranges_lumps : (gs : List Group) (l : List Range) → ranges_with l (map lump gs) ≡ ranges_with l (firsts gs)
unfolding ranges_with serial_range lump
ranges_lumps [] l = refl
ranges_lumps (g ∷ gs) l = ranges_lumps gs (insert (serial_range g.first) l)

-- a group is no shorter than a member
pub least_lumps : (least : ℕ) (gs : List Group) → Each (λ (g : Group). Each (λ (x : Element). least ≤ x.length) (members g)) gs → Each (λ (x : Element). least ≤ x.length) (map lump gs)
unfolding lump stored_length
least_lumps least [] h = tt
least_lumps least (g ∷ gs) h = let first = h.0.0 in (omega arith, least_lumps least gs h.1)

-- of the first ones
pub stored_first_lumps : (j : ℕ) (gs : List Group) → stored_length (take j (map lump gs)) ≡ stored_length (members_of (take j gs))
stored_first_lumps j gs = ap stored_length (take_map lump j gs) ∙ stored_lumps (take j gs)

pub ranges_first_lumps : (j : ℕ) (gs : List Group) (l : List Range) → ranges_with l (take j (map lump gs)) ≡ ranges_with l (firsts (take j gs))
ranges_first_lumps j gs l = ap (ranges_with l) (take_map lump j gs) ∙ ranges_lumps (take j gs) l

-- ---- the pages of what is asked, whose members lie within the store

module _ (a : Ask) (within : Each (λ (g : Group). AllWithin a.store (members g)) a.wanted) where
  page_within : (j : ℕ) → AllWithin a.store (members_of (take j a.wanted))
  page_within j =
      each_members (λ (x : Element). x.place + x.length ≤ length a.store) (take j a.wanted)
      (each_first (λ (g : Group). AllWithin a.store (members g)) j a.wanted within)

  abbrev fixed : ℕ
  fixed = fixed_length a.id (storage_index a.elements)

  page_whole : (j : ℕ) → length (page_bytes a j) ≡ (table_measure fixed a.known (map lump a.wanted)).whole j
  unfolding page_bytes page_ranges
  page_whole j =
      answer_length a.store a.id (storage_index a.elements) (members_of (take j a.wanted)) (ltb j (length a.wanted)) (page_ranges a j) (page_within j)
      ∙ rw (stored_first_lumps j a.wanted, ranges_first_lumps j a.wanted a.known)

  pub page_measured : page_measure a ≡ table_measure fixed a.known (map lump a.wanted)
  unfolding page_measure page_ranges
  page_measured =
      let stored = fun_ext (λ (j : ℕ). sym (stored_first_lumps j a.wanted)) in
      let ranges = fun_ext (λ (j : ℕ). ap length (sym (ranges_first_lumps j a.wanted a.known))) in
      let whole = fun_ext page_whole in
      λ i. record { stored = stored i; ranges = ranges i; whole = whole i }
