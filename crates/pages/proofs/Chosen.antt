-- The wanted among the elements of the working tables: those that are queued still to come, turn by turn, whichever element a position
-- stands for; the elements that flags choose are those that filters leave in and the ranges do not know; and the groups that have one of
-- these are the wanted groups.
-- Assumes nothing.
use mathlib.Core.Path.{◌≡◌, refl, subst}
use mathlib.Core.Bool.{Bool, true, false, not}
use mathlib.Core.List.{List, [], ◌∷◌, ◌++◌, map}
use Prim.Native.Nat.{ℕ, zero, suc, ◌+◌, ◌≤◌, ◌<◌}
use native.Mathlib.Omega.{arith}
use native.Mathlib.Numerals.{add-one}
use lib.ListN.{length, take, drop, get_or, drop_of_length-le, length-take}
use lib.Seq.{drop-cons, get_or-take, length-take-le}
use lib.Dec.{eqb}
use Rattle.laws.specs.Pick.{pick}
use Rattle.objects.specs.Results.Reading.{At}
use Rattle.talk.specs.Each.{Each}
use Rattle.talk.specs.Wanted.{keep, is_wanted, wanted}
use Rattle.talk.specs.declared.range.Range.{Range}
use Rattle.talk.proofs.Things.{each_so}
use Rattle.store.specs.declared.element.Element.{Element}
use Rattle.store.specs.Tables.{element_in_row, elements_in_rows, elements_in}
use Rattle.order.specs.Order.{ordered}
use Rattle.order.specs.Groups.{groups}
use Rattle.order.specs.Queue.{chosen}
use Rattle.order.proofs.GroupMembers.{some_share}
use Rattle.order.proofs.Grouping.{members_share}
use Rattle.request.specs.Meaning.{filters_read, left_in, lets_in}
use Rattle.request.specs.Choice.{flag_of, flags_of, set_flags}
use Rattle.pages.specs.Choice.{knows_key, is_known, lets_group, wanted_in}
use Rattle.pages.specs.Held.{wanted_flags, is_wanted_here, groups_wanted}
use Rattle.pages.specs.declared.deciding.Asked.{Asked}

-- ---- those that are queued from place i on

-- where the element of a position is that of its row, or that of its row weighed
abbrev pub queued_from : (ℕ → Element) → ℕ → List ℕ → ℕ → List Element
queued_from f w queue i = map f (drop i (take w queue))

each_behind : (P : Element → Type 0) (f : ℕ → Element) (i : ℕ) (l : List ℕ) → Each P (map f l) → Each P (map f (drop i l))
each_behind P f zero l e = e
each_behind P f (suc i) [] e = tt
each_behind P f (suc i) (j ∷ l) e = each_behind P f i l e.1

module _ (f : ℕ → Element) (w : ℕ) (queue : List ℕ) (i : ℕ) where
  pub queued_one : i < w → w ≤ length queue → {x : Element} → x ≡ f (get_or queue i 0) → queued_from f w queue i ≡ x ∷ queued_from f w queue (i + 1)
  queued_one h g x-is =
      let l : i < length (take w queue) = omega (arith, length-take-le w queue g) in
      rw (drop-cons (take w queue) i 0 l, get_or-take w queue i 0 h, add-one i, x-is)

  pub queued_each : (P : Element → Type 0) → i < w → w ≤ length queue → Each P (map f (take w queue)) → P (f (get_or queue i 0))
  queued_each P h g e = (subst (Each P) (queued_one h g refl) (each_behind P f i (take w queue) e)).0

  pub queued_none : w ≤ i → queued_from f w queue i ≡ []
  queued_none h = let l : length (take w queue) ≤ i = omega (arith, length-take w queue) in rw (drop_of_length-le (take w queue) l)

-- ---- those that are wanted

-- a flag is not 0 where its element is let in and not known
flag_wanted : {X : Type 0} (known lets : Bool) (out inside : X) → pick (eqb (pick known 0 (flag_of lets)) 0) out inside ≡ pick (pick lets (not known) false) inside out
unfolding flag_of
flag_wanted true true out inside = refl
flag_wanted true false out inside = refl
flag_wanted false true out inside = refl
flag_wanted false false out inside = refl

pub chosen_wanted : (known : Element → Bool) (lets : Element → Bool) (xs : List Element) (d : List ℕ)
    → chosen xs (set_flags known 0 xs (flags_of (map lets xs) ++ d)) ≡ keep (λ (x : Element). pick (lets x) (not (known x)) false) xs
unfolding chosen set_flags flags_of keep
chosen_wanted known lets [] d = refl
chosen_wanted known lets (x ∷ xs) d = rw (chosen_wanted known lets xs d) (flag_wanted (known x) (lets x) _ _)

-- ---- the flag of each says whether it is wanted

flag_says : (known lets : Bool) → pick known 0 (flag_of lets) ≡ pick (pick lets (not known) false) 1 0
unfolding flag_of
flag_says true true = refl
flag_says true false = refl
flag_says false true = refl
flag_says false false = refl

flags_from : (known lets : Element → Bool) (rows ids : List ℕ) (i n : ℕ) (d : List ℕ) (j : ℕ) → j < n
    → get_or (set_flags known 0 (elements_in_rows rows ids i n) (flags_of (map lets (elements_in_rows rows ids i n)) ++ d)) j 0
    ≡ pick (pick (lets (element_in_row rows ids (i + j))) (not (known (element_in_row rows ids (i + j)))) false) 1 0
unfolding set_flags flags_of elements_in_rows
flags_from known lets rows ids i zero d j h = absurd (omega arith)
flags_from known lets rows ids i (suc n) d zero h =
    let e : i + 0 ≡ i = omega arith in
    rw e (flag_says (known (element_in_row rows ids i)) (lets (element_in_row rows ids i)))
flags_from known lets rows ids i (suc n) d (suc j) h =
    let e : i + suc j ≡ suc i + j = omega arith in
    rw e (flags_from known lets rows ids (suc i) n d j (omega arith))

pub flags_say : (q : List ℕ) (a : Asked) (known : List Range) (rows ids : List ℕ) (n : ℕ) (behind : List ℕ) (i : ℕ) → i < n
    → get_or (wanted_flags q a known (elements_in rows ids n) behind) i 0 ≡ pick (is_wanted_here q a known (elements_in rows ids n) (element_in_row rows ids i)) 1 0
unfolding lets_in
flags_say q a known rows ids n behind i h =
    let e : 0 + i ≡ i = omega arith in
    rw e at
    (flags_from (is_known known) (λ (x : Element). left_in (filters_read a.count q (At a.place 0)) (elements_in rows ids n) x true) rows ids 0 n behind i h)

-- ---- the groups with a wanted member are those that are wanted, since all members have the serial number of their group

pub keep_same : {E : Type 0} (test other : E → Bool) (l : List E) → Each (λ (x : E). test x ≡ other x) l → keep test l ≡ keep other l
unfolding keep
keep_same test other [] h = refl
keep_same test other (x ∷ l) h = rw (h.0, keep_same test other l h.1)

pub groups_are_wanted : (q : List ℕ) (a : Asked) (known : List Range) (all : List Element)
    → groups_wanted q a known all ≡ wanted_in (filters_read a.count q (At a.place 0)) known all
unfolding wanted_in wanted is_wanted lets_group is_known
groups_are_wanted q a known all =
    let lets : Element → Bool = λ x. left_in (filters_read a.count q (At a.place 0)) all x true in
    keep_same _ _ (groups (ordered all))
    (each_so _ _ (groups (ordered all)) (λ g h. some_share lets (knows_key known) g h) (members_share (ordered all)))
