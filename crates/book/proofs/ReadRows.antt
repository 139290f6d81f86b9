-- What the working tables hold after a book and an answer were read into them: their elements, each of which lies in them.
-- Assumes nothing.
use mathlib.Core.Path.{◌≡◌, refl, sym, subst, ◌∙◌}
use mathlib.Core.List.{List, [], ◌∷◌, ◌++◌}
use Prim.Native.Nat.{ℕ, ◌+◌, ◌*◌, ◌≤◌}
use native.Mathlib.Omega.{arith}
use lib.ListN.{length, drop, length-append}
use borrow.Author.Tests.{lt-ltb, le-ltb}
use Rattle.laws.proofs.Cases.{by_lt, impossible}
use Rattle.objects.specs.Steps.{valued}
use Rattle.objects.specs.Results.Reading.{Reading}
use Rattle.objects.specs.Results.Reading as reading
use Rattle.talk.specs.Each.{Each}
use Rattle.store.specs.Chain.{Follows}
use Rattle.store.specs.Element.{ids_in}
use Rattle.store.specs.Held.{StoreHeld}
use Rattle.store.specs.Store.{store_walk, Stands}
use Rattle.store.specs.Tables.{row_width, id_width, most_elements, row_numbers, rows_of, ids_of, elements_in}
use Rattle.store.specs.declared.element.Element.{Element}
use Rattle.store.specs.declared.element.Strictness.{Strictness}
use Rattle.store.proofs.Chains.{PackageRead, package_read}
use Rattle.store.proofs.Elements.{elements_held}
use Rattle.store.proofs.Found.{package_most, rows_length, ids_length, laid_long}
use Rattle.store.proofs.StoreHeld.{each_at, fits_row}
use Rattle.store.proofs.Taken.{element_some, stands_before}
use Rattle.client.specs.Accessor.{rows_received, ids_received}
use Rattle.client.specs.Read.{longest_answer, response_start, package_in, package_end, rest_of, answer_end, answer_on, answer_in, answer_strictness}
use Rattle.client.specs.declared.answer.Received.{Received}
use Rattle.client.specs.Results.ReadAnswer as answer
use Rattle.client.proofs.AnswerRest.{answer_is, rest_fault, rows_received_lem, ids_received_lem}
use Rattle.book.specs.Plan.{ReadRows}

-- ---- a book

pub book_rows : (b rows ids : List ℕ) (n : ℕ) → StoreHeld b rows ids n → ReadRows b rows ids n (store_walk b).elements
book_rows b rows ids n h =
    let s = h.short in
    record { held = h.held; most = h.most; stand = h.stand; within = λ i l. (fits_row h i l).0; short = omega arith }

-- ---- an answer

-- each element of a chain lies in the bytes in which it was read
chain_within : (strict : Strictness) (s : List ℕ) (done xs : List Element) (at e : ℕ) → Follows strict s done at xs e → Each (λ (x : Element). x.place + x.length ≤ length s) xs
chain_within strict s done [] at e c = tt
chain_within strict s done (x ∷ xs) at e c =
    let w = element_some strict (ids_in done) s at 0 x c.0 in
    let i = w.0 in
    let l = w.2 in
    (omega arith, chain_within strict s (done ++ (x ∷ [])) xs (x.place + x.length) e c.1)

valued_stands : (c : Reading) → Stands (valued 0 c) → Stands c
unfolding valued
valued_stands c h = stands_before (λ (d : Reading). valued 0 d) (λ r. refl) c h

-- of an answer that is read, the package is
pub answer_package : (w : List ℕ) → Stands (answer_end w) → PackageRead answer_strictness 0x62 w (response_start w)
unfolding answer_end
answer_package w h =
    by_lt longest_answer (length w) (λ l. absurd (rw (lt-ltb longest_answer (length w) l) at h))
    (λ l.
    package_read answer_strictness 0x62 w (response_start w)
    (valued_stands (package_in w).last (stands_before (λ (c : Reading). rest_of w c) (rest_fault w) (package_end w) (rw (le-ltb longest_answer (length w) l) at h))))

answered_end : (c : Reading) (x y : Received) → answer_on c y ≡ answer.Is x → Stands c
unfolding answer_on
answered_end (reading.At e v) x y h = tt
answered_end (reading.Refused r) x y h = impossible (cc)

pub answer_stands : (w : List ℕ) (x : Received) → answer_in w ≡ answer.Is x → Stands (answer_end w)
unfolding answer_in
answer_stands w x h = answered_end (answer_end w) x _ h

pub answer_rows : (w rows ids rows' ids' : List ℕ) (x : Received) → row_numbers ≤ length rows → most_elements * id_width ≤ length ids → answer_in w ≡ answer.Is x
    → rows' ≡ rows_received w rows → ids' ≡ ids_received w ids → ReadRows w rows' ids' x.count (package_in w).elements
answer_rows w rows ids rows' ids' x h g a e f =
    let els = (package_in w).elements in
    let q = answer_is w x a in
    let c : x.count ≡ length els = sym q.0 in
    let m = package_most answer_strictness 0x62 w (response_start w) in
    let s = q.1 in
    let i = e ∙ rows_received_lem w rows q.1 in
    let j = f ∙ ids_received_lem w ids q.1 in
    let r = answer_package w (answer_stands w x a) in
    let l : elements_in rows' ids' x.count ≡ els = rw (i, j, c) (elements_held els (drop (length els * row_width) rows) (drop (length els * id_width) ids)) in
    let each : Each (λ (y : Element). y.place + y.length ≤ length w) els = chain_within answer_strictness w [] els r.first r.end r.chain in
    record {
      held = l;
      most = omega arith;
      stand = record {
        row_room = rw i (omega (arith, length-append (rows_of els) (drop (length els * row_width) rows), rows_length els));
        id_room = rw j (omega (arith, length-append (ids_of els) (drop (length els * id_width) ids), ids_length els));
      };
      within = λ k d.
          let z : 0 + k ≡ k = omega arith in
          rw z at (each_at (λ (y : Element). y.place + y.length ≤ length w) rows' ids' 0 x.count k d (subst (Each (λ (y : Element). y.place + y.length ≤ length w)) (sym l) each));
      short = omega arith;
    }

-- both tables are as long as they were
pub answer_long : (w rows ids rows' ids' : List ℕ) (x : Received) → length rows ≡ row_numbers → length ids ≡ most_elements * id_width → answer_in w ≡ answer.Is x
    → rows' ≡ rows_received w rows → ids' ≡ ids_received w ids → (row_numbers ≡ length rows') × (most_elements * id_width ≡ length ids')
answer_long w rows ids rows' ids' x l g a e f =
    let q = answer_is w x a in
    laid_long (package_in w) rows ids rows' ids' (package_most answer_strictness 0x62 w (response_start w)) l g (e ∙ rows_received_lem w rows q.1) (f ∙ ids_received_lem w ids q.1)
