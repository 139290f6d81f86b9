-- Demands 1 and 2 for keeping an answer, of the call exported to C, whatever it is handed and lent: "gets its result or one of the numbered
-- refusals of document 01, with the place of the fault"; and what the new book has in it. A reader needs the records and the statements of
-- `demand_one_hub_keep`, `demand_two_keep` and `kept_twice`. What stands behind a `=` can be skipped.
-- Assumes nothing.
use mathlib.Core.Path.{◌≡◌, refl, sym, ap, subst, ◌∙◌}
use mathlib.Core.Bool.{false}
use mathlib.Core.List.{List, [], ◌∷◌, Memᴰ as In}
use mathlib.Core.Logic.{⊎_elim}
use Prim.Native.Nat.{ℕ, ◌≤◌}
use native.Mathlib.Omega.{arith}
use lib.ListN.{length, take, drop}
use lib.Seq.{take_at}
use Rattle.laws.specs.Once.{seen}
use Rattle.laws.proofs.Cases.{impossible}
use Rattle.numbers.specs.Refusals.{longest_input}
use Rattle.numbers.specs.declared.refusal.Refusal.{Refusal}
use Rattle.numbers.proofs.OneAnswers.{values_of}
use Rattle.objects.proofs.InputFaults.{input_told}
use Rattle.store.specs.Element.{same_key, ids_in}
use Rattle.store.specs.Store.{store_walk, Stands}
use Rattle.store.proofs.Places.{store_fault}
use Rattle.enter.specs.Entering.{Kept, enter}
use Rattle.enter.specs.Package.{packed}
use Rattle.client.specs.Read.{longest_answer, package_in, answer_end}
use Rattle.client.proofs.AnswerWithin.{answer_within}
use Rattle.book.specs.Keep.{Outcome, refused, kept, in_book, in_answer, keep_outcome, keep_told, book_after, GivesBook}
use Rattle.book.specs.Refusing.{new_book, WhyKeep}
use Rattle.book.specs.Results.Keeping as keeping
use Rattle.book.proofs.AfterKeep.{after_keep, unnamed_kept, kept_again}
use Rattle.book.proofs.Refusals.{nothing_refused, why_refused, why_keep}
use Rattle.hub.specs.Keep.{keep_number, keep_report, HubGivesBook, HubKeeps}
use Rattle.evidence.specs.Book.{Keeps, by_keep, by_hub_keep}
use Rattle.evidence.specs.Calling.{report_number}
use Rattle.evidence.specs.KeepResults.{BookGiven}
use Rattle.evidence.specs.Refusing.{Fault}
use Rattle.evidence.proofs.DemandOne.{ExportKeeps}
use Rattle.evidence.proofs.Refusals.{first_fault, second_fault, front_fault, short_fault}
use Rattle.evidence.proofs.ReportNumbers.{three_numbers_lem}
use Rattle.evidence.proofs.Results.{gives, refuses, ExportComes, export_kept}

-- ---- what is refused is a fault

pub why_keep_fault : (b w : List ℕ) (room : ℕ) (r : Refusal) → WhyKeep b w room r → Fault (b ∷ w ∷ []) r
why_keep_fault b w room r (WhyKeep.book h) = first_fault b (w ∷ []) r (input_told longest_input b r (store_fault b r h))
why_keep_fault b w room r (WhyKeep.answer x h g e) = rw e (second_fault b w x (input_told longest_answer w x (answer_within w x g)))
why_keep_fault b w room r (WhyKeep.too_many h g l e) = rw e (front_fault b (w ∷ []) 9 (omega arith) (omega arith))
why_keep_fault b w room r (WhyKeep.too_long h g l m e) = rw e (front_fault b (w ∷ []) 1 (omega arith) (omega arith))
why_keep_fault b w room r (WhyKeep.buffer_short h g l m n e) = rw e (short_fault b (w ∷ []) (length (new_book b w)))

-- ---- demand 1

-- the answer w kept in the book b
abbrev pub HubKeepKeeps : List ℕ → List ℕ → ℕ → List ℕ → List ℕ → List ℕ → List ℕ → Type 0
HubKeepKeeps b w number new new' report report' =
    ExportKeeps (Fault (b ∷ w ∷ [])) (BookGiven b w new new' report report') (WhyKeep b w (length new)) (new' ≡ new) number report report'

module _ (b w : List ℕ) (number : ℕ) (new new' report report' : List ℕ) where
  hub_keep_by : (o : Outcome) → keep_outcome b w (length new) ≡ o → HubGivesBook o number new new' report report'
      → ExportComes (Fault (b ∷ w ∷ [])) (BookGiven b w new new' report report') (WhyKeep b w (length new)) (new' ≡ new) number report report'
  unfolding keep_number book_after keep_report
  hub_keep_by (refused x) e h =
      let y = why_refused b w (length new) x e in
      refuses x (h.0, why_keep_fault b w (length new) x y, h.1, h.2) y (λ z v. let j = why_keep b w (length new) z v in cc)
  hub_keep_by (kept v) e h =
      gives (h.0, record { book = v; keeps = e; stands = h.1; told = h.2 }) (λ z y. let j = why_keep b w (length new) z y in impossible (cc))

  pub demand_one_hub_keep : HubKeeps b w number new new' report report' → HubKeepKeeps b w number new new' report report'
  demand_one_hub_keep h =
      let k = export_kept _ _ _ _ number report report' (hub_keep_by (keep_outcome b w (length new)) refl h) in
      record { gets = k.0; given = k.1; untouched = k.2 }

-- ---- demand 2: the answer w is kept in the book b, which becomes b'

pub record BookDemandTwo (b w b' : List ℕ) : Type 0 where
  -- both were read, and the new book is a store: it reads
  pub book_reads : Stands (store_walk b).last
  pub answer_reads : Stands (answer_end w)
  pub reads : Stands (store_walk b').last
  -- keeping is entering: "an id already held is replaced, new ones follow at the end" (document 02, Q-1), with their bytes as they came, serial
  -- numbers included
  pub elements : in_book b' ≡ enter (in_book b) (in_answer w)
  -- its bytes are those elements in a package, and nothing else
  pub written : b' ≡ packed (enter (in_book b) (in_answer w))
  -- what the answer does not name stays, byte for byte
  pub stay : (x : Kept) → In x (in_book b) → seen same_key x.id (ids_in (package_in w).elements) ≡ false → In x (in_book b')
  -- keeping the same answer again changes nothing: where there is room for the new book, it comes again
  pub again : (room : ℕ) → length b' ≤ room → keep_outcome b' w room ≡ kept b'

book_demand : (b w : List ℕ) (room : ℕ) (b' : List ℕ) → keep_outcome b w room ≡ kept b' → BookDemandTwo b w b'
book_demand b w room b' e =
    let a = after_keep b w room b' e in
    record {
      book_reads = a.book_reads;
      answer_reads = a.answer_reads;
      reads = a.reads;
      elements = a.elements;
      written = a.written;
      stay = unnamed_kept b w b' a;
      again = λ larger l. kept_again b w room b' e larger l;
    }

-- a call that answers so long a book has it at the front of its buffer
keep_given : (b w : List ℕ) (n : ℕ) (new new' : List ℕ) (o : Outcome) → keep_outcome b w (length new) ≡ o → GivesBook o (keeping.Book n) new new'
    → keep_outcome b w (length new) ≡ kept (take n new')
unfolding keep_told book_after
keep_given b w n new new' (refused r) e h = let v = values_of _ _ h.0 in impossible (cc)
keep_given b w n new new' (kept v) e h =
    let l = values_of _ _ h.0 in
    let i : n ≡ length v = cc in
    e ∙ ap kept (sym (rw h.1 (take_at v (drop (length v) new) n (sym i))))

hub_keep_given : (b w new new' report report' : List ℕ) → 24 ≤ length report → HubKeeps b w 0 new new' report report'
    → keep_outcome b w (length new) ≡ kept (take (report_number 2 report') new')
hub_keep_given b w new new' report report' room h =
    ⊎_elim
    (λ t.
    let g = t.1 in
    let v = g.book in
    let s = nothing_refused b w (length new) v g.keeps in
    let short : length v ≤ longest_input = subst (λ (l : List ℕ). length l ≤ longest_input) (sym s.1) s.0.short in
    let i : report_number 2 report' ≡ length v = rw g.told (three_numbers_lem 0 0 (length v) report room (omega arith) (omega arith) (omega arith)).2 in
    g.keeps ∙ ap kept (sym (rw g.stands (take_at v (drop (length v) new) (report_number 2 report') (sym i)))))
    (λ x. let l = x.fault.least in let i = x.number_is in absurd (omega arith))
    (demand_one_hub_keep b w 0 new new' report report' h).gets

-- so it is wherever an answer is kept, by either call
keeps_outcome : (b w b' : List ℕ) → Keeps b w b' → (room : ℕ) × (keep_outcome b w room ≡ kept b')
keeps_outcome b w b' (by_keep n new new' h e) = (length new, keep_given b w n new new' (keep_outcome b w (length new)) refl h ∙ ap kept (sym e))
keeps_outcome b w b' (by_hub_keep new new' report report' h l e) = (length new, hub_keep_given b w new new' report report' l h ∙ ap kept (sym e))

pub demand_two_keep : (b w b' : List ℕ) → Keeps b w b' → BookDemandTwo b w b'
demand_two_keep b w b' k = let (room, e) = keeps_outcome b w b' k in book_demand b w room b' e

-- keeping the same answer twice changes nothing, by whichever call and with whatever buffer
pub kept_twice : (b w b' b'' : List ℕ) → Keeps b w b' → Keeps b' w b'' → b'' ≡ b'
kept_twice b w b' b'' k l =
    let (room, e) = keeps_outcome b' w b'' l in
    let again = (demand_two_keep b w b' k).again (length b') (omega arith) in
    (nothing_refused b' w room b'' e).1 ∙ sym (nothing_refused b' w (length b') b' again).1
