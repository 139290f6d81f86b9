-- A store that is written anew is a store (document 02, Q-1): where elements that are read enter others that are read, and neither 9 nor 1 is
-- met, its bytes read with no refusal, as exactly the elements that the definition says, in order, each with its id, its serial number and
-- its own bytes, and with the type of the element it comes from.
-- Assumes nothing.
use mathlib.Core.Path.{◌≡◌, refl, sym, ap, subst, ◌∙◌}
use mathlib.Core.Bool.{true, false}
use mathlib.Core.List.Memᴰ.{cases_cons as first-or-later}
use mathlib.Core.List.Memᴰ.{not-nil as none_in}
use mathlib.Core.List.Memᴰ.{of_map}
use mathlib.Core.List.{List, [], ◌∷◌, ◌++◌, map, map-append, append_assoc, append-nil, Memᴰ as In}
use mathlib.Core.Logic.{⊎_elim}
use Prim.Native.Nat.{ℕ, suc, ◌+◌, ◌≤◌}
use native.Mathlib.Nat.{zero-add}
use native.Mathlib.Omega.{arith}
use lib.ListN.{length, take, drop, length-append}
use lib.Seq.{take_at, drop_at, drop-append_seam, drop-length}
use Rattle.laws.specs.Once.{seen, once}
use Rattle.laws.proofs.Parts.{part_length}
use Rattle.laws.proofs.Twice.{once_before}
use Rattle.numbers.specs.Refusals.{longest_input}
use Rattle.objects.specs.Header.{end_bytes}
use Rattle.objects.specs.Steps.{nothing_open, end_here}
use Rattle.objects.specs.Results.Reading.{At}
use Rattle.objects.proofs.Written.{behind, reads_then, reads_skip, finish_written}
use Rattle.objects.proofs.ObjectsWritten.{reads_start_of_length, reads_end}
use Rattle.talk.specs.Each.{Each}
use Rattle.store.specs.Chain.{Follows}
use Rattle.store.specs.Element.{same_key, ids_in, element_at}
use Rattle.store.specs.Held.{stored_bytes}
use Rattle.store.specs.Store.{walked, package_start, package_walk, store_walk, Stands, store_padding, store_strictness}
use Rattle.store.specs.Tables.{most_elements}
use Rattle.store.specs.Written.{package_front}
use Rattle.store.specs.declared.element.Key.{Key}
use Rattle.store.specs.declared.element.Element.{Element}
use Rattle.store.specs.Results.ReadElement.{Is}
use Rattle.store.proofs.Chains.{same_turn, package_walked, within_limit, store_read, ids_once}
use Rattle.store.proofs.ElementCarry.{wider_same, element_carry}
use Rattle.store.proofs.Taken.{element_some}
use Rattle.enter.specs.Entering.{Kept, kept_id, enter}
use Rattle.enter.specs.Package.{kept_in, joined, packed}
use Rattle.enter.proofs.EnteringLaws.{named, nothing_else}
use Rattle.enter.proofs.EnteringLaws as laws
use Rattle.enter.proofs.KeptIn.{kept_in_parts, kept_in_ids}
use Rattle.enter.proofs.Members.{each_of}

-- ---- an element whose bytes are read wherever they stand

-- it, at a place, with a type
abbrev pub kept_at : ℕ → Kept → ℕ → Element
kept_at at x kind = record { place = at; length = length x.bytes; kind = kind; id = x.id; serial = x.serial }

-- as an element of a store of this type, beside any ids among which its own is not
pub record Readable (x : Kept) (kind : ℕ) : Type 0 where
  pub anywhere : (ids : List Key) (before rest : List ℕ) → seen same_key x.id ids ≡ false
      → element_at store_strictness ids (before ++ (x.bytes ++ rest)) (At (length before) 0) ≡ Is (kept_at (length before) x kind)

-- one that was read
read_readable : (s : List ℕ) (ids : List Key) (x : Element) → element_at store_strictness ids s (At x.place 0) ≡ Is x → Readable (kept_in s x) x.kind
unfolding kept_in stored_bytes
read_readable s ids x h =
    let n : length (take x.length (drop x.place s)) ≡ x.length = part_length x.place x.length s (element_some store_strictness ids s x.place 0 x h).2 in
    record {
      anywhere = λ ids' before rest i.
          rw n (element_carry store_strictness store_strictness (wider_same store_strictness) s x.place 0 0 ids ids' x h before rest i);
    }

-- each of a chain that was read
pub each_readable : (s : List ℕ) (done xs : List Element) (at e : ℕ) → Follows store_strictness s done at xs e → (x : Element) → In x xs → Readable (kept_in s x) x.kind
each_readable s done [] at e c x m = absurd (none_in m)
each_readable s done (y ∷ xs) at e c x m =
    let w = element_some store_strictness (ids_in done) s at 0 y c.0 in
    ⊎_elim
    (λ p. rw p (read_readable s (ids_in done) y (subst (λ (p : ℕ). element_at store_strictness (ids_in done) s (At p 0) ≡ Is y) (sym w.0) c.0)))
    (λ n. each_readable s (done ++ (y ∷ [])) xs (y.place + y.length) e c.1 x n)
    (first-or-later m)

-- ---- where an element comes from: with an id that one has that comes, from those; else from those that are there

pub data ComesFrom (all handed : List Element) (id : Key) (kind : ℕ) : Type 0 where
  stays : (x : Element) → In x all → x.id ≡ id → x.kind ≡ kind → seen same_key id (ids_in handed) ≡ false → ComesFrom all handed id kind
  enters : (x : Element) → In x handed → x.id ≡ id → x.kind ≡ kind → ComesFrom all handed id kind

pub record Piece (all handed : List Element) (x : Kept) : Type 0 where
  pub kind : ℕ
  pub readable : Readable x kind
  pub source : ComesFrom all handed x.id kind

-- ---- set down one behind the other

module _ (all handed : List Element) where
  laid : ℕ → (l : List Kept) → Each (Piece all handed) l → List Element
  laid at [] p = []
  laid at (x ∷ l) p = kept_at at x p.0.kind ∷ laid (at + length x.bytes) l p.1

  length_laid : (at : ℕ) (l : List Kept) (p : Each (Piece all handed) l) → length (laid at l p) ≡ length l
  unfolding laid
  length_laid at [] p = refl
  length_laid at (x ∷ l) p = ap suc (length_laid (at + length x.bytes) l p.1)

  laid_sources : (at : ℕ) (l : List Kept) (p : Each (Piece all handed) l) → Each (λ (x : Element). ComesFrom all handed x.id x.kind) (laid at l p)
  unfolding laid
  laid_sources at [] p = tt
  laid_sources at (x ∷ l) p = (p.0.source, laid_sources (at + length x.bytes) l p.1)

  joined_apart : (x : Kept) (l : List Kept) (before rest w : List ℕ) → w ≡ before ++ (joined (x ∷ l) ++ rest) → w ≡ before ++ (x.bytes ++ (joined l ++ rest))
  unfolding joined
  joined_apart x l before rest w e = e ∙ ap (λ (v : List ℕ). before ++ v) (append_assoc x.bytes (joined l) rest)

  length_joined : (x : Kept) (l : List Kept) → length (joined (x ∷ l)) ≡ length x.bytes + length (joined l)
  unfolding joined
  length_joined x l = length-append x.bytes (joined l)

  -- each has its own bytes
  laid_back : (l : List Kept) (p : Each (Piece all handed) l) (before rest w : List ℕ) (at : ℕ) → w ≡ before ++ (joined l ++ rest) → length before ≡ at
      → map (kept_in w) (laid at l p) ≡ l
  unfolding laid kept_in stored_bytes
  laid_back [] p before rest w at e n = refl
  laid_back (x ∷ l) p before rest w at e n =
      let f = joined_apart x l before rest w e in
      let a = length-append before x.bytes in
      let i = laid_back l p.1 (before ++ x.bytes) rest w (at + length x.bytes) (f ∙ sym (append_assoc before x.bytes (joined l ++ rest))) (omega arith) in
      let b : take (length x.bytes) (drop at w) ≡ x.bytes =
      rw (f, drop_at before (x.bytes ++ (joined l ++ rest)) at n) (take_at x.bytes (joined l ++ rest) (length x.bytes) refl) in
      rw (b, i)

  -- and they are a chain
  ids_more : (done : List Element) (x : Element) (rest : List Key) → ids_in (done ++ (x ∷ [])) ++ rest ≡ ids_in done ++ (x.id ∷ rest)
  ids_more done x rest = rw (map-append (λ (z : Element). z.id) done (x ∷ []), append_assoc)

  laid_chain : (l : List Kept) (p : Each (Piece all handed) l) (done : List Element) (before rest w : List ℕ) (at : ℕ) → w ≡ before ++ (joined l ++ rest) → length before ≡ at
      → once same_key (ids_in done ++ map kept_id l) ≡ true
      → Follows store_strictness w done at (laid at l p) (at + length (joined l))
  unfolding laid joined
  laid_chain [] p done before rest w at e n i = omega arith
  laid_chain (x ∷ l) p done before rest w at e n i =
      let y = kept_at at x p.0.kind in
      let f = joined_apart x l before rest w e in
      let a = length-append before x.bytes in
      let m = length_joined x l in
      let r : element_at store_strictness (ids_in done) w (At at 0) ≡ Is y =
      rw (f, ← n)
      (p.0.readable.anywhere (ids_in done) before (joined l ++ rest)
      (once_before same_key same_turn x.id (ids_in done) (map kept_id l) i)) in
      let o = laid_chain l p.1 (done ++ (y ∷ [])) (before ++ x.bytes) rest w (at + length x.bytes) (f ∙ sym (append_assoc before x.bytes (joined l ++ rest))) (omega arith)
      (rw (ids_more done y (map kept_id l)) i) in
      let k : at + length x.bytes + length (joined l) ≡ at + length (joined (x ∷ l)) = omega arith in
      (r, subst (λ (e : ℕ). Follows store_strictness w (done ++ (y ∷ [])) (at + length x.bytes) (laid (at + length x.bytes) l p.1) e) k o)

  -- ---- the whole of it

  -- what reading a store of these elements finds
  pub record ReadsAs (new : List Kept) : Type 0 where
    pub stands : Stands (store_walk (packed new)).last
    pub elements : map (kept_in (packed new)) (store_walk (packed new)).elements ≡ new
    pub types : Each (λ (x : Element). ComesFrom all handed x.id x.kind) (store_walk (packed new)).elements

  module _ (new : List Kept) (p : Each (Piece all handed) new) where
    abbrev front : ℕ
    front = length package_front

    abbrev end : ℕ
    end = front + length (joined new)

    start_read : package_start store_padding nothing_open (packed new) (At 0 0) ≡ At front 0
    unfolding package_start package_front packed
    start_read =
        (reads_then (reads_start_of_length store_padding 0 nothing_open 0x15 true 1 (omega arith) (omega arith)) (reads_skip 1 (0 ∷ []))
        ).here (packed new) 0 (joined new ++ end_bytes 0x15) refl
        ∙ ap (λ (n : ℕ). At n 0) (zero-add front)

    end_read : end_here (packed new) 0x15 (At end 0) ≡ At (length (packed new)) 0
    unfolding packed
    end_read =
        let a = length-append package_front (joined new ++ end_bytes 0x15) in
        let b = length-append (joined new) (end_bytes 0x15) in
        let n : end + length (end_bytes 0x15) ≡ length (packed new) = omega arith in
        (reads_end 0 0x15 (omega arith)).here (packed new) end []
        (behind (packed new) front (joined new) (end_bytes 0x15) (drop-append_seam package_front (joined new ++ end_bytes 0x15)) ∙ sym (append-nil (end_bytes 0x15)))
        ∙ ap (λ (n : ℕ). At n 0) n

    new_walk : once same_key (map kept_id new) ≡ true → length new ≤ most_elements → length (packed new) ≤ longest_input
        → store_walk (packed new) ≡ walked (laid front new p) (At (length (packed new)) 0)
    unfolding packed
    new_walk i few short =
        let w = packed new in
        let n = length_laid front new p in
        let o : package_walk store_strictness nothing_open w (At 0 0) ≡ walked (laid front new p) (At (length w) 0) =
        package_walked store_strictness nothing_open w (At 0 0) front 0 (laid front new p) end (length w) 0 start_read
        (laid_chain new p [] package_front (end_bytes 0x15) w front refl refl i) (omega arith) end_read in
        within_limit w short ∙ rw (o, finish_written w (length w) 0 (drop-length w))

    reads_as : once same_key (map kept_id new) ≡ true → length new ≤ most_elements → length (packed new) ≤ longest_input → ReadsAs new
    unfolding packed
    reads_as i few short =
        let e = new_walk i few short in
        record {
          stands = rw e tt;
          elements = rw e (laid_back new p package_front (end_bytes 0x15) (packed new) front refl refl);
          types = rw e (laid_sources front new p);
        }

-- ---- what enters a store

module _ (s : List ℕ) (store_reads : Stands (store_walk s).last) (handed : List Element) (come : List Kept) (ids-are : map kept_id come ≡ ids_in handed)
    (comes : (x : Kept) → In x come → Piece (store_walk s).elements handed x) where
  abbrev there : List Element
  there = (store_walk s).elements

  abbrev before : List Kept
  before = map (kept_in s) there

  piece_stays : (x : Kept) → In x before → named come x ≡ false → Piece there handed x
  piece_stays x m h =
      let r = of_map (kept_in s) there m in
      let c = store_read s store_reads in
      let i : x.id ≡ r.0.id = ap kept_id (sym r.2) ∙ (kept_in_parts s r.0).0 in
      let u : seen same_key x.id (ids_in handed) ≡ false = rw ids-are at h in
      record {
        kind = r.0.kind;
        readable = subst (λ (y : Kept). Readable y r.0.kind) r.2 (each_readable s [] there c.first c.end c.chain r.0 r.1);
        source = stays r.0 r.1 (sym i) refl u;
      }

  pieces : Each (Piece there handed) (enter before come)
  pieces = each_of (Piece there handed) (enter before come) (λ x m. ⊎_elim (λ h. piece_stays x h.0 h.1) (λ n. comes x n) (nothing_else before come x m))

  pub entered_reads : once same_key (ids_in handed) ≡ true → length (enter (map (kept_in s) (store_walk s).elements) come) ≤ most_elements
      → length (packed (enter (map (kept_in s) (store_walk s).elements) come)) ≤ longest_input
      → ReadsAs (store_walk s).elements handed (enter (map (kept_in s) (store_walk s).elements) come)
  entered_reads o few short =
      let i = ids_once s (store_read s store_reads) in
      reads_as there handed (enter before come) pieces (laws.ids_once before come (rw (kept_in_ids s there) i) (rw ids-are o)) few short
