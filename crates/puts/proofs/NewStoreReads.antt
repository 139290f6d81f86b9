-- The store behind a put is a store (document 02, Q-1): where store and put read, and neither 16 nor 9 nor 1 is met, its bytes read with no
-- refusal, as exactly the elements that the definition says, in order, each with its id, its serial number and its own bytes, and with
-- the type of the element it comes from.
-- Assumes nothing.
use mathlib.Core.Path.{◌≡◌, refl, sym, ap, subst, ◌∙◌}
use mathlib.Core.List.Memᴰ.{cases_cons as first-or-later}
use mathlib.Core.List.Memᴰ.{not-nil as none_in}
use mathlib.Core.List.{List, [], ◌∷◌, ◌++◌, Memᴰ as In}
use mathlib.Core.Logic.{⊎_elim}
use Prim.Native.Nat.{ℕ, ◌+◌, ◌≤◌}
use native.Mathlib.Omega.{arith}
use lib.ListN.{length}
use lib.Seq.{drop-append_seam}
use Rattle.laws.specs.Bytes.{AllBytes}
use Rattle.numbers.specs.Guid.{GuidFits}
use Rattle.numbers.specs.Refusals.{longest_input}
use Rattle.numbers.specs.declared.guid.Guid.{Guid}
use Rattle.numbers.proofs.Padding.{takes_refused}
use Rattle.objects.specs.Results.Reading.{At}
use Rattle.store.specs.Chain.{Follows}
use Rattle.store.specs.Element.{key_of, ids_in, element_at}
use Rattle.store.specs.Store.{store_walk, Stands, store_padding, store_strictness}
use Rattle.store.specs.Tables.{most_elements}
use Rattle.store.specs.Written.{written_element, ContentFits, content_in}
use Rattle.store.specs.declared.element.Key.{Key}
use Rattle.store.specs.declared.element.Element.{Element}
use Rattle.store.specs.Results.ReadElement.{Is}
use Rattle.store.proofs.Contents.{content_fits, content_wider}
use Rattle.store.proofs.ElementFits.{NumberedFits}
use Rattle.store.proofs.ElementWritten.{element_written}
use Rattle.request.specs.Filter.{request_padding}
use Rattle.enter.specs.Entering.{Kept, kept_id}
use Rattle.enter.proofs.PackageReads.{Readable, Piece, enters, ReadsAs, entered_reads}
use Rattle.puts.specs.Applied.{last_number}
use Rattle.puts.specs.NewStore.{entering, entering_from, highest_under, first_number, new_elements, new_store}
use Rattle.puts.specs.Put.{put_strictness, put_walk}
use Rattle.puts.proofs.PutChain.{put_chain, put_ids_once}
use Rattle.puts.proofs.Serials.{came, entering_ids}

-- ---- an element that enters is read wherever it stands

enters_readable : (q : List ℕ) (ids : List Key) (at : ℕ) (x : Element) (serial : Key) → AllBytes q → element_at put_strictness ids q (At at 0) ≡ Is x → NumberedFits serial
    → Readable (entering q serial x) x.kind
unfolding entering
enters_readable q ids at x serial b h f =
    let c = content_in q x serial in
    let fits : ContentFits store_padding 14 c = content_wider request_padding store_padding (takes_refused store_padding) 13 14 (omega arith) c (content_fits put_strictness ids q at 0 x b refl h serial f) in
    record {
      anywhere = λ ids' before rest i.
          element_written store_strictness ids' (before ++ (written_element c ++ rest)) (length before) 0 c rest fits (drop-append_seam before (written_element c ++ rest)) i;
    }

each_enters : (q : List ℕ) (done xs : List Element) (at e : ℕ) → AllBytes q → Follows put_strictness q done at xs e → (x : Element) → In x xs → (serial : Key) → NumberedFits serial
    → Readable (entering q serial x) x.kind
each_enters q done [] at e b c x m serial f = absurd (none_in m)
each_enters q done (y ∷ xs) at e b c x m serial f =
    ⊎_elim
    (λ p. rw p (enters_readable q (ids_in done) at y serial b c.0 f))
    (λ n. each_enters q (done ++ (y ∷ [])) xs (y.place + y.length) e b c.1 x n serial f)
    (first-or-later m)

-- ---- the store behind a put

entering_id : (q : List ℕ) (serial : Key) (x : Element) → (entering q serial x).id ≡ x.id
unfolding entering
entering_id q serial x = refl

module _ (s q : List ℕ) (g : Guid) (bytes : AllBytes q) (store_reads : Stands (store_walk s).last) (put_reads : Stands (put_walk q).last) (fits : GuidFits g)
    (left : highest_under g (store_walk s).elements + length (put_walk q).elements ≤ last_number) where
  abbrev all : List Element
  all = (store_walk s).elements

  abbrev handed : List Element
  handed = (put_walk q).elements

  abbrev come : List Kept
  come = entering_from q g (first_number g all) handed

  piece_enters : (x : Kept) → In x come → Piece all handed x
  piece_enters x m =
      let r = came q g (first_number g all) handed x m in
      let c = put_chain q put_reads in
      let k = key_of g r.number in
      let b = r.below in
      let f : NumberedFits k = (fits, omega arith) in
      record {
        kind = r.element.kind;
        readable = subst (λ (y : Kept). Readable y r.element.kind) (sym r.is) (each_enters q [] handed c.0 c.1 bytes c.2 r.element r.among k f);
        source = enters r.element r.among (sym (ap kept_id r.is ∙ entering_id q k r.element)) refl;
      }

  pub new_store_reads : length (new_elements s (store_walk s).elements q (put_walk q).elements g) ≤ most_elements
      → length (new_store (new_elements s (store_walk s).elements q (put_walk q).elements g)) ≤ longest_input
      → ReadsAs (store_walk s).elements (put_walk q).elements (new_elements s (store_walk s).elements q (put_walk q).elements g)
  unfolding new_elements
  new_store_reads few short =
      entered_reads s store_reads handed come (entering_ids q g (first_number g all) handed) piece_enters (put_ids_once q put_reads) few short
