-- The next of a group, found by a link: where the first stands that shares a serial number, that none between shares it, and that a head tells
-- where to begin. And the members of a group, one link after the other.
-- Assumes nothing.
use mathlib.Core.Path.{◌≡◌, sym, ap, ◌∙◌}
use mathlib.Core.Bool.{true, false}
use mathlib.Core.List.{List, [], ◌∷◌}
use Prim.Native.Nat.{ℕ, zero, suc, ◌+◌, ◌-◌, ◌≤◌, ◌<◌}
use native.Mathlib.Omega.{arith}
use lib.ListN.{length, take, get_or, set, replicate, drop_of_length-le, length-take}
use lib.Seq.{drop-cons, get_or-take, get_or-set_same, get_or-set_other, length-take-le}
use lib.Dec.{eqb}
use borrow.Author.Tests.{ne_eqb}
use Rattle.laws.specs.Placed.{Lays}
use Rattle.laws.proofs.Cases.{by_bool, by_eq}
use Rattle.talk.specs.Wanted.{keep}
use Rattle.store.specs.Element.{same_key}
use Rattle.store.specs.Tables.{RowsStand, most_elements, mark_of, elements_in}
use Rattle.store.specs.declared.element.Element.{Element}
use Rattle.store.specs.declared.element.Key.{Key}
use Rattle.store.proofs.Elements.{rows_up_to}
use Rattle.store.proofs.Rows.{same_equal, same_mark}
use Rattle.order.specs.Order.{ordered}
use Rattle.order.specs.Groups.{sharing}
use Rattle.order.specs.Queue.{queue_of}
use Rattle.order.specs.Links.{RowsQueued, queued_at, queued_from, first_sharing, from_head, LinkedFrom}
use Rattle.order.proofs.Queueing.{each_get, queue_within, queue_stands, all_queued}

-- who shares with the one shares with the other
pub sharing_same : (x y : Element) → sharing x y ≡ true → (z : Element) → sharing y z ≡ sharing x z
sharing_same x y h z = ap (λ (k : Key). same_key k z.serial) (sym (same_equal x.serial y.serial h))

-- ---- those that are queued, from a position on

-- the row at a position
pub row_inside : {rows ids queue : List ℕ} {n : ℕ} → RowsQueued rows ids queue n → (p : ℕ) → p < n → get_or queue p 0 < n
row_inside {rows} {ids} {queue} {n} q p h =
    let l = q.long in
    rw (get_or-take n queue p 0 h) at (each_get (λ (i : ℕ). i < n) (take n queue) p (omega (arith, length-take-le n queue l)) q.within)

pub row_stands : {rows ids queue : List ℕ} {n : ℕ} → RowsQueued rows ids queue n → (p : ℕ) → p < n → RowsStand rows ids (get_or queue p 0 + 1)
row_stands {queue = queue} q p h = let z = row_inside q p h in rows_up_to q.stand (get_or queue p 0 + 1) (omega arith)

-- all rows, as they were queued
module _ (rows ids : List ℕ) (n : ℕ) (queue : List ℕ) (w : ℕ) (queue' : List ℕ) (stand : RowsStand rows ids n) (few : n ≤ most_elements)
    (l : Lays 0 (queue_of (elements_in rows ids n) (replicate most_elements 1)) queue w queue') where
  pub all_count : w ≡ n
  all_count = (all_queued rows ids n queue w queue' few l).0

  pub all_are : queued_from rows ids n queue' 0 ≡ ordered (elements_in rows ids n)
  all_are = rw all_count at (all_queued rows ids n queue w queue' few l).1

  pub rows_queued : RowsQueued rows ids queue' n
  rows_queued =
      record {
        stand = stand;
        few = few;
        long = rw all_count at (queue_stands rows ids n (replicate most_elements 1) queue w queue' l stand).long;
        within = rw all_count at (queue_within rows ids n (replicate most_elements 1) queue w queue' l);
      }

-- none of those between two positions shares a serial number with x
abbrev pub NoneShares : List ℕ → List ℕ → List ℕ → Element → ℕ → ℕ → Type 0
NoneShares rows ids queue x j b = (i : ℕ) → j ≤ i → i < b → sharing x (queued_at rows ids queue i) ≡ false

-- of those with a mark, from position k on, none stands before its head
abbrev pub NoneMarked : List ℕ → List ℕ → ℕ → List ℕ → List ℕ → ℕ → ℕ → Type 0
NoneMarked rows ids n queue heads width k =
    (h : ℕ) → h < width → (k ≤ from_head (get_or heads h 0) n) × (from_head (get_or heads h 0) n ≤ n)
    × ((i : ℕ) → k ≤ i → i < from_head (get_or heads h 0) n → mark_of width (queued_at rows ids queue i).serial ≡ h → ⊥)

module _ (rows ids : List ℕ) (n : ℕ) (queue : List ℕ) (long : n ≤ length queue) where
  pub from_turn : (k : ℕ) → k < n → queued_from rows ids n queue k ≡ queued_at rows ids queue k ∷ queued_from rows ids n queue (suc k)
  from_turn k h =
      let l : k < length (take n queue) = omega (arith, length-take-le n queue long) in
      rw (drop-cons (take n queue) k 0 l, get_or-take n queue k 0 h)

  pub from_end : (k : ℕ) → n ≤ k → queued_from rows ids n queue k ≡ []
  from_end k h = let l : length (take n queue) ≤ k = omega (arith, length-take n queue) in rw (drop_of_length-le (take n queue) l)

  none_behind : (x : Element) (j b : ℕ) → NoneShares rows ids queue x j b → NoneShares rows ids queue x (suc j) b
  none_behind x j b h i l m = h i (omega arith) m

  pub first_passes : (x : Element) (j : ℕ) → j < n → sharing x (queued_at rows ids queue j) ≡ false
      → first_sharing x j (queued_from rows ids n queue j) ≡ first_sharing x (suc j) (queued_from rows ids n queue (suc j))
  unfolding first_sharing
  first_passes x j h e = rw (from_turn j h, e)

  pub first_stops : (x : Element) (j : ℕ) → j < n → sharing x (queued_at rows ids queue j) ≡ true → first_sharing x j (queued_from rows ids n queue j) ≡ j
  unfolding first_sharing
  first_stops x j h e = rw (from_turn j h, e)

  pub first_ends : (x : Element) (j : ℕ) → n ≤ j → first_sharing x j (queued_from rows ids n queue j) ≡ j
  unfolding first_sharing
  first_ends x j h = rw (from_end j h)

  pub first_skips : (d : ℕ) (x : Element) (j b : ℕ) → j + d ≡ b → b ≤ n → NoneShares rows ids queue x j b
      → first_sharing x j (queued_from rows ids n queue j) ≡ first_sharing x b (queued_from rows ids n queue b)
  first_skips zero x j b e l h = let z : j ≡ b = omega arith in rw z
  first_skips (suc d) x j b e l h =
      first_passes x j (omega arith) (h j (omega arith) (omega arith)) ∙ first_skips d x (suc j) b (omega arith) l (none_behind x j b h)

  pub keep_skips : (d : ℕ) (x : Element) (j b : ℕ) → j + d ≡ b → b ≤ n → NoneShares rows ids queue x j b
      → keep (sharing x) (queued_from rows ids n queue j) ≡ keep (sharing x) (queued_from rows ids n queue b)
  unfolding keep
  keep_skips zero x j b e l h = let z : j ≡ b = omega arith in rw z
  keep_skips (suc d) x j b e l h =
      rw (from_turn j (omega arith), h j (omega arith) (omega arith)) (keep_skips d x (suc j) b (omega arith) l (none_behind x j b h))

  -- ---- the first that shares

  pub record FirstAt (x : Element) (j f : ℕ) : Type 0 where
    pub from : j ≤ f
    pub within : f ≤ n
    pub shares : f < n → sharing x (queued_at rows ids queue f) ≡ true
    pub none : NoneShares rows ids queue x j f

  pub first_at : (d : ℕ) (x : Element) (j : ℕ) → j + d ≡ n → FirstAt x j (first_sharing x j (queued_from rows ids n queue j))
  first_at zero x j e =
      let z : first_sharing x j (queued_from rows ids n queue j) ≡ j = first_ends x j (omega arith) in
      rw z (record { from = omega arith; within = omega arith; shares = λ l. absurd (omega arith); none = λ i l m. absurd (omega arith) })
  first_at (suc d) x j e =
      by_bool (sharing x (queued_at rows ids queue j))
      (λ h. rw (first_stops x j (omega arith) h) (record { from = omega arith; within = omega arith; shares = λ l. h; none = λ i l m. absurd (omega arith) }))
      (λ h. rw (first_passes x j (omega arith) h) (later h (first_at d x (suc j) (omega arith))))
    where
      later : {f : ℕ} → sharing x (queued_at rows ids queue j) ≡ false → FirstAt x (suc j) f → FirstAt x j f
      later h a =
          let b = a.from in
          record {
            from = omega arith;
            within = a.within;
            shares = a.shares;
            none = λ i l m. by_eq i j (λ q. ap (λ (k : ℕ). sharing x (queued_at rows ids queue k)) q ∙ h) (λ q. a.none i (omega arith) m);
          }

  pub first_of : (x : Element) (j : ℕ) → j ≤ n → FirstAt x j (first_sharing x j (queued_from rows ids n queue j))
  first_of x j h = first_at (n - j) x j (omega arith)

  -- ---- heads

  -- none before the head of its mark shares its serial number
  none_before : (heads : List ℕ) (width k : ℕ) (x : Element) → mark_of width x.serial < width → NoneMarked rows ids n queue heads width k
      → NoneShares rows ids queue x k (from_head (get_or heads (mark_of width x.serial) 0) n)
  none_before heads width k x l h i a b =
      by_bool (sharing x (queued_at rows ids queue i))
      (λ e. absurd ((h (mark_of width x.serial) l).2 i a b (sym (same_mark width x.serial (queued_at rows ids queue i).serial e))))
      (λ e. e)

  -- and the link can be found from there
  pub link_found : (heads : List ℕ) (width k : ℕ) (x : Element) → mark_of width x.serial < width → NoneMarked rows ids n queue heads width k
      → first_sharing x k (queued_from rows ids n queue k)
      ≡ first_sharing x (from_head (get_or heads (mark_of width x.serial) 0) n) (queued_from rows ids n queue (from_head (get_or heads (mark_of width x.serial) 0) n))
  link_found heads width k x l h =
      let a = (h (mark_of width x.serial) l).0 in
      let b = (h (mark_of width x.serial) l).1 in
      let f = from_head (get_or heads (mark_of width x.serial) 0) n in
      first_skips (f - k) x k f (omega arith) b (none_before heads width k x l h)

  pub none_marked_start : (heads : List ℕ) (width : ℕ) → ((h : ℕ) → h < width → get_or heads h 0 ≡ 0) → NoneMarked rows ids n queue heads width n
  unfolding from_head
  none_marked_start heads width z h l = rw (z h l) (omega arith, omega arith, λ i a b. absurd (omega arith))

  -- one more, from the last to the first
  pub none_marked_more : (heads : List ℕ) (width k : ℕ) → k < n → length heads ≡ width → mark_of width (queued_at rows ids queue k).serial < width → NoneMarked rows ids n queue heads width (suc k)
      → NoneMarked rows ids n queue (set heads (mark_of width (queued_at rows ids queue k).serial) (k + 1)) width k
  unfolding from_head
  none_marked_more heads width k inside long m h j l =
      by_eq (mark_of width (queued_at rows ids queue k).serial) j
      (λ e.
      let g : get_or (set heads (mark_of width (queued_at rows ids queue k).serial) (k + 1)) j 0 ≡ k + 1 = rw (← e) (get_or-set_same heads _ (k + 1) 0 (omega arith)) in
      let t : eqb (k + 1) 0 ≡ false = ne_eqb (k + 1) 0 (λ z. omega arith) in
      let v : k + 1 - 1 ≡ k = omega arith in
      rw (g, t, v) (omega arith, omega arith, λ i a b. absurd (omega arith)))
      (λ e.
      let g : get_or (set heads (mark_of width (queued_at rows ids queue k).serial) (k + 1)) j 0 ≡ get_or heads j 0 = get_or-set_other heads _ j (k + 1) 0 (λ q. e (sym q)) in
      let a = (h j l).0 in
      let b = (h j l).1 in
      rw g
      (omega arith, b, λ i x y z. by_eq i k (λ q. e (ap (λ (p : ℕ). mark_of width (queued_at rows ids queue p).serial) (sym q) ∙ z)) (λ q. (h j l).2 i (omega arith) y z)))

  pub linked_more : (links : List ℕ) (k v : ℕ) → k < n → n ≤ length links → v ≡ first_sharing (queued_at rows ids queue k) (suc k) (queued_from rows ids n queue (suc k))
      → LinkedFrom rows ids n queue links (suc k) → LinkedFrom rows ids n queue (set links k v) k
  linked_more links k v inside room e h j l m =
      by_eq j k
      (λ q. rw q (get_or-set_same links k v 0 (omega arith) ∙ e))
      (λ q. get_or-set_other links k j v 0 q ∙ h j (omega arith) m)
