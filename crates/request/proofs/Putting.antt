-- The ids of one filter, and the filters of a request, put to the elements turn by turn; and what one filter of each kind sets.
-- Assumes nothing.
use mathlib.Core.Path.{◌≡◌, refl, sym, ◌∙◌}
use mathlib.Core.Bool.{Bool, true, false}
use mathlib.Core.List.{List, [], ◌∷◌, ◌++◌}
use Prim.Native.Nat.{ℕ, zero, suc, ◌+◌, ◌-◌, ◌≤◌, ◌<◌}
use native.Mathlib.Omega.{arith}
use borrow.Author.Tests.{ne_eqb}
use lib.ListN.{length, drop}
use lib.Dec.{eqb}
use Rattle.laws.specs.Pick.{pick}
use Rattle.laws.specs.Once.{seen}
use Rattle.objects.specs.Steps.{place_of, value_of, need, id_here, start_here, run_here}
use Rattle.objects.specs.Results.Reading.{Reading}
use Rattle.store.specs.Element.{same_key}
use Rattle.store.specs.declared.element.Key.{Key}
use Rattle.store.specs.declared.element.Element.{Element}
use Rattle.request.specs.Filter.{one_number, id_step, ids_from, ids_field, ids_part, type_part, kind_part, filter_opened, filter_kind, filter_at, request_padding}
use Rattle.request.specs.Meaning.{Filter, key_in, keys_from, keys_in, filter_read, filters_read, matches, lets_in}
use Rattle.store.specs.Tables.{elements_in}
use Rattle.request.specs.Choice.{flag_of, flags_of, set_flags, set_by_filter, matched_by, with_ids, kind_matches}
use Rattle.request.specs.declared.choice.Matched.TheVariants.{All, OfType, WithId}
use Rattle.request.proofs.Choosing.{same_flags, none_set, set_with_more, set_by_all, filters_set}
use Rattle.store.proofs.Elements.{length_elements}
use Rattle.request.proofs.Turns as turns

-- ---- the ids of a filter

or_none : (t : Bool) → t ≡ pick t true false
or_none true = refl
or_none false = refl

-- the elements with one id
pub one_id : (k : Key) (to : ℕ) (all : List Element) (flags : List ℕ) → set_flags (matched_by (WithId k)) to all flags ≡ set_flags (with_ids (k ∷ [])) to all flags
unfolding matched_by seen
one_id k to all flags = same_flags (matched_by (WithId k)) (with_ids (k ∷ [])) to all flags (λ x. or_none (same_key x.id k))

-- no id sets nothing
pub no_id : (to : ℕ) (all : List Element) (flags : List ℕ) → flags ≡ set_flags (with_ids []) to all flags
unfolding seen
no_id to all flags = sym (none_set (with_ids []) to all flags (λ x. refl))

-- what holds whenever the loop's test is reached: what is told is what the ids still to come set, and they are read from here
pub record SettingIds (d : List ℕ) (to : ℕ) (all : List Element) (count : ℕ) (told flags : List ℕ) (c : Reading) (i : ℕ) : Type 0 where
  pub most : i ≤ 64
  pub rest : told ≡ set_flags (with_ids (keys_from (64 - i) d (count - i) c)) to all flags
  pub read : ids_field d ≡ ids_from (64 - i) d (count - i) c

pub ids_start : (d : List ℕ) (to : ℕ) (all : List Element) (flags : List ℕ) (count : ℕ) (c : Reading) → c ≡ one_number d → count ≡ value_of c
    → SettingIds d to all count (set_flags (with_ids (keys_in d)) to all flags) flags c 0
unfolding keys_in ids_field
ids_start d to all flags count c e f =
    let a : count - 0 ≡ count = omega arith in
    record { most = omega arith; rest = rw (a, f, e); read = rw (a, f, e) }

no_keys : (left : ℕ) (d : List ℕ) (c : Reading) → keys_from left d 0 c ≡ []
unfolding keys_from
no_keys zero d c = refl
no_keys (suc left) d c = refl

keys_more : (d : List ℕ) (n i : ℕ) (c : Reading) → i < n → i < 64
    → keys_from (64 - i) d (n - i) c ≡ key_in (id_here d c) ++ keys_from (64 - (i + 1)) d (n - (i + 1)) (id_step d c)
unfolding keys_from
keys_more d n i c h l =
    let e : 64 - i ≡ suc (64 - (i + 1)) = omega arith in
    let z : n - i ≡ 0 → ⊥ = λ q. omega arith in
    let m : n - i - 1 ≡ n - (i + 1) = omega arith in
    rw (e, ne_eqb (n - i) 0 z, m)

below : (i : ℕ) → i ≤ 64 → (i ≡ 64 → ⊥) → i < 64
below i m l = omega arith

module _ {d : List ℕ} {to : ℕ} {all : List Element} {count : ℕ} {told flags : List ℕ} {c : Reading} {i : ℕ} (u : SettingIds d to all count told flags c i) where
  pub ids_more : i < count → (i ≡ 64 → ⊥) → SettingIds d to all count told (set_flags (with_ids (key_in (id_here d c))) to all flags) (id_step d c) (i + 1)
  ids_more h l =
      let m : i < 64 = below i u.most l in
      let k = keys_more d count i c h m in
      let b = keys_from (64 - (i + 1)) d (count - (i + 1)) (id_step d c) in
      record {
        most = omega arith;
        rest = rw k at u.rest ∙ set_with_more (key_in (id_here d c)) b to all flags;
        read = u.read ∙ turns.ids_more d count i c h m;
      }

  none_left : keys_from (64 - i) d (count - i) c ≡ [] → flags ≡ told
  none_left e = no_id to all flags ∙ sym (rw e at u.rest)

  -- no more than 64 are looked at
  over : i ≡ 64 → flags ≡ told
  unfolding keys_from
  over l = none_left (let e : 64 - i ≡ 0 = omega arith in rw e)

  pub ids_over : i < count → i ≡ 64 → (need false 9 (place_of c) (id_step d c) ≡ ids_field d) × (flags ≡ told)
  ids_over h l = (sym (u.read ∙ turns.ids_over d count i c h l), over l)

  pub ids_end : count ≤ i → (c ≡ ids_field d) × (flags ≡ told)
  ids_end h =
      let e : count - i ≡ 0 = omega arith in
      (sym (u.read ∙ turns.ids_end d count i c h), none_left (rw e (no_keys (64 - i) d c)))

-- ---- one filter

-- by its kind: what is read of it, and what it sets
module _ (s : List ℕ) (kind : ℕ) (c : Reading) (to : ℕ) (all : List Element) (flags : List ℕ) where
  pub kind_all : kind ≡ 1 → (c ≡ kind_part s kind c) × (set_flags (matched_by All) to all flags ≡ set_flags (kind_matches s kind c) to all flags)
  unfolding kind_part matched_by kind_matches
  kind_all e = (rw e, same_flags (matched_by All) (kind_matches s kind c) to all flags (λ x. rw e))

  pub kind_type : kind ≡ 2
      → (type_part s c ≡ kind_part s kind c)
      × (set_flags (matched_by (OfType (value_of (type_part s c)))) to all flags ≡ set_flags (kind_matches s kind c) to all flags)
  unfolding kind_part matched_by kind_matches
  kind_type e = (rw e, same_flags (matched_by (OfType (value_of (type_part s c)))) (kind_matches s kind c) to all flags (λ x. rw e))

  pub kind_ids : kind ≡ 6
      → (ids_part s c ≡ kind_part s kind c)
      × (set_flags (with_ids (keys_in (run_here s (start_here request_padding s 0x47 0x54 false true c)))) to all flags ≡ set_flags (kind_matches s kind c) to all flags)
  unfolding kind_part kind_matches
  kind_ids e = (rw e, same_flags (with_ids (keys_in (run_here s (start_here request_padding s 0x47 0x54 false true c)))) (kind_matches s kind c) to all flags (λ x. rw e))

  pub kind_other : (kind ≡ 1 → ⊥) → (kind ≡ 2 → ⊥) → (kind ≡ 6 → ⊥) → (c ≡ kind_part s kind c) × (flags ≡ set_flags (kind_matches s kind c) to all flags)
  unfolding kind_part kind_matches
  kind_other a b e =
      let p = ne_eqb kind 1 a in
      let q = ne_eqb kind 2 b in
      let r = ne_eqb kind 6 e in
      (rw (q, r), sym (none_set (kind_matches s kind c) to all flags (λ x. rw (p, q, r))))

pub filter_of_kind : (s : List ℕ) (c : Reading) (all : List Element) (flags : List ℕ)
    → set_flags (kind_matches s (filter_kind s c) (filter_opened s c)) (flag_of (eqb (filter_read s c).operation 1)) all flags ≡ set_by_filter (filter_read s c) all flags
unfolding filter_read matches kind_matches
filter_of_kind s c all flags = same_flags (kind_matches s (filter_kind s c) (filter_opened s c)) (matches (filter_read s c) all) _ all flags (λ x. refl)

-- ---- the filters of a request

pub record Putting (s : List ℕ) (all : List Element) (count : ℕ) (told flags : List ℕ) (c : Reading) (i : ℕ) : Type 0 where
  pub within : i ≤ count
  pub rest : told ≡ set_by_all (filters_read (count - i) s c) all flags

pub putting_start : (s : List ℕ) (all : List Element) (count : ℕ) (flags : List ℕ) (c : Reading)
    → Putting s all count (set_by_all (filters_read count s c) all flags) flags c 0
putting_start s all count flags c = let e : count - 0 ≡ count = omega arith in record { within = omega arith; rest = rw e }

module _ {s : List ℕ} {all : List Element} {count : ℕ} {told flags : List ℕ} {c : Reading} {i : ℕ} (u : Putting s all count told flags c i) where
  pub putting_more : i < count → Putting s all count told (set_by_filter (filter_read s c) all flags) (filter_at s c) (i + 1)
  unfolding filters_read set_by_all
  putting_more h =
      let e : count - i ≡ suc (count - (i + 1)) = omega arith in
      record { within = omega arith; rest = rw e at u.rest }

  pub putting_end : count ≤ i → flags ≡ told
  unfolding filters_read set_by_all
  putting_end h = let e : count - i ≡ 0 = omega arith in sym (rw e at u.rest)

-- from the flags of all elements, set
pub putting_all : (fs : List Filter) (rows ids : List ℕ) (n : ℕ) (flags : List ℕ) → n ≤ length flags
    → set_by_all fs (elements_in rows ids n) (set_flags (matched_by All) 1 (elements_in rows ids n) flags) ≡ flags_of (lets_in fs (elements_in rows ids n)) ++ drop n flags
unfolding matched_by
putting_all fs rows ids n flags h =
    let l = length_elements rows ids 0 n in
    let g : length (elements_in rows ids n) ≤ length flags = omega arith in
    rw l at (filters_set fs (elements_in rows ids n) flags g)
