-- A book of bytes, computed by the prover: the store with one element of `Example`, and a bench whose book is empty. With no knowledge it gets
-- the element, and its book is then the store's elements (`one_kept`). With a knowledge that was saved before the book, and has the element's
-- serial number already, the book is not in step (`not_in_step`): an answer comes at once, unmarked and with nothing in it (`at_once`), and no
-- talk ever brings the element (`never_comes`). Elements of other bytes under the same id are replaced in their place (`replaced`). A reader
-- needs the statements that are pub.
-- Assumes nothing.
use mathlib.Core.Path.{◌≡◌, refl, ap, subst}
use mathlib.Core.Bool.{Bool, true, false}
use mathlib.Core.List.Memᴰ.{head as here}
use mathlib.Core.List.Memᴰ.{not-nil as none_in}
use mathlib.Core.List.{List, [], ◌∷◌, ◌++◌, Memᴰ as In}
use Prim.Native.Nat.{ℕ, zero, suc}
use native.Mathlib.Omega.{arith}
use lib.Dec.{ltb}
use lib.ListN.{replicate}
use borrow.Author.Tests.{ltb-true}
use Rattle.laws.specs.Bytes.{AllBytes}
use Rattle.laws.specs.Pick.{pick}
use Rattle.laws.proofs.Cases.{by_bool, impossible}
use Rattle.objects.specs.Results.Reading.{At}
use Rattle.talk.specs.Series.{over, then}
use Rattle.store.specs.Held.{stored_bytes}
use Rattle.store.specs.Store.{Walk, walked, store_walk}
use Rattle.enter.specs.Entering.{replaced_by, new_to, enter}
use Rattle.enter.specs.Package.{kept_in, joined, packed}
use Rattle.book.specs.Keep as keep
use Rattle.book.specs.Keep.{kept_elements, counted, on_answer, on_book, keep_outcome, book_after}
use Rattle.hub.specs.Keep.{keep_number, keep_report}
use Rattle.evidence.specs.Bench.{knows_by, empty_book}
use Rattle.evidence.specs.Book.{Keeps, by_hub_keep, Holds, LetIn, InStep, HoldsAll, Standing, KeptTalk, knowledge_ahead, Unmarked}
use Rattle.evidence.specs.Calling.{exported}
use Rattle.evidence.specs.Talk.{wanted_of, AnsweredAsk}
use Rattle.evidence.proofs.Example.{element, one, key, stored, asking, known, answer_telling, answer_with, exporting}
use Rattle.evidence.proofs.Holding.{all_let_in, nothing_known_lem}
use Rattle.evidence.proofs.InStep.{all_in_book}
use Rattle.evidence.proofs.Lost.{lost}

-- ---- the store and the book

-- a list is bytes where each passes the test
every_byte : List ℕ → Bool
every_byte [] = true
every_byte (x ∷ l) = pick (ltb x 256) (every_byte l) false

are_bytes : (l : List ℕ) → every_byte l ≡ true → AllBytes l
unfolding every_byte
are_bytes [] h i = omega arith
are_bytes (x ∷ l) h zero = by_bool (ltb x 256) (λ e. ltb-true x 256 e) (λ e. impossible (let z : false ≡ true = rw e at h in cc))
are_bytes (x ∷ l) h (suc i) = by_bool (ltb x 256) (λ e. are_bytes l (rw e at h) i) (λ e. impossible (let z : false ≡ true = rw e at h in cc))

one_bytes : AllBytes one
unfolding every_byte
one_bytes = are_bytes one refl

pub one_read : (store_walk one ≡ walked (stored 3 1 7 ∷ []) (At 50 0)) × (store_walk empty_book ≡ walked [] (At 4 0))
unfolding exporting
one_read = (refl, refl)

-- its element is let in, where there are no filters
pub one_let_in : LetIn one [] (stored 3 1 7)
unfolding exporting
one_let_in = all_let_in one (stored 3 1 7) (here refl)

-- ---- an answer that is kept, by the exported call

-- what the prover looks through
keeping : Unit {0}
unfolding exporting kept_in enter replaced_by new_to joined packed kept_elements keep.sized counted on_answer on_book keep_outcome book_after keep_number keep_report
keeping = tt

abbrev report : List ℕ
report = replicate 24 0

-- the answer with the element enters the empty book, which is then the store
pub one_taken : Keeps empty_book (answer_with (element 1 7) 0 7) one
unfolding keeping
one_taken = by_hub_keep (replicate 50 0) one report _ (refl, refl, refl) (omega arith) refl

-- the answer with nothing changes nothing
pub none_taken : Keeps empty_book (answer_telling [] 0 (known 7)) empty_book
unfolding keeping
none_taken = by_hub_keep (replicate 4 0) empty_book report _ (refl, refl, refl) (omega arith) refl

-- an element with the same id and another serial number is replaced in its place, before one that the answer does not name
pub replaced : Keeps (0xAC ∷ 0x02 ∷ 0x00 ∷ (element 1 3 ++ (element 2 8 ++ (0x55 ∷ [])))) (answer_with (element 1 7) 0 7)
    (0xAC ∷ 0x02 ∷ 0x00 ∷ (element 1 7 ++ (element 2 8 ++ (0x55 ∷ []))))
unfolding keeping
replaced = by_hub_keep (replicate 96 0) _ report _ (refl, refl, refl) (omega arith) refl

-- ---- the asks, by the exported call, into an output of 132 or 86 bytes

-- with no knowledge the element comes, unmarked
pub one_asked : AnsweredAsk one [] (knows_by []) (answer_with (element 1 7) 0 7) (knows_by (known 7))
unfolding exporting every_byte
one_asked =
    record {
      request = asking 0 [];
      room = 132;
      bytes = are_bytes (asking 0 []) refl;
      filters = refl;
      carried = λ k f. refl;
      gave = exported (replicate 132 0) (answer_with (element 1 7) 0 7) report _ (refl, refl, refl) refl (omega arith) refl;
      told = λ k f. refl;
    }

-- with its serial number known nothing is wanted, and an answer comes, unmarked too, with nothing in it
pub nothing_asked_for : wanted_of one [] (knows_by (known 7)) ≡ []
unfolding exporting
nothing_asked_for = refl

pub none_asked : AnsweredAsk one [] (knows_by (known 7)) (answer_telling [] 0 (known 7)) (knows_by (known 7))
unfolding exporting every_byte
none_asked =
    record {
      request = asking 0 (known 7);
      room = 86;
      bytes = are_bytes (asking 0 (known 7)) refl;
      filters = refl;
      carried = λ k f. refl;
      gave = exported (replicate 86 0) (answer_telling [] 0 (known 7)) report _ (refl, refl, refl) refl (omega arith) refl;
      told = λ k f. refl;
    }

-- both are read as answers that are not marked
pub both_unmarked : Unmarked (answer_with (element 1 7) 0 7) × Unmarked (answer_telling [] 0 (known 7))
unfolding exporting
both_unmarked = ((_, refl, refl), (_, refl, refl))

-- ---- a talk that keeps the book in step

abbrev pub starting : Standing
starting = record { know = knows_by []; book = empty_book }

abbrev pub kept_one : Standing
kept_one = record { know = knows_by (known 7); book = one }

pub one_kept : KeptTalk one [] starting (answer_with (element 1 7) 0 7 ∷ []) kept_one
one_kept = then (one_asked, one_taken) over

-- nothing was known, so it began in step; and now it holds all of the store, by the law of all talks
pub one_in_book : HoldsAll one [] one
unfolding exporting
one_in_book =
    all_in_book one one_bytes [] one_kept (nothing_known_lem one [] (knows_by []) empty_book (λ k. refl)) (answer_with (element 1 7) 0 7) (here refl)
    both_unmarked.0

-- ---- a knowledge that is ahead of its book

-- the knowledge of behind the talk above, and the book of before it
abbrev pub ahead : Standing
ahead = knowledge_ahead starting kept_one

abbrev pub InBook : List ℕ → Type 0
InBook book = Holds book (key 1) (stored_bytes one (stored 3 1 7))

pub seven_known : knows_by (known 7) (key 7) ≡ true
unfolding exporting
seven_known = refl

pub not_in_book : InBook empty_book → ⊥
not_in_book h = none_in (subst (In h.element) (ap (λ (r : Walk). r.elements) one_read.1) h.among)

pub not_in_step : InStep one [] ahead.know ahead.book → ⊥
not_in_step h = not_in_book (h (stored 3 1 7) one_let_in seven_known)

-- an unmarked answer comes at once, and is kept
pub at_once : KeptTalk one [] ahead (answer_telling [] 0 (known 7) ∷ []) ahead
at_once = then (none_asked, none_taken) over

-- and no talk ever brings the element
pub never_comes : {z : Standing} {ws : List (List ℕ)} → KeptTalk one [] ahead ws z → InBook z.book → ⊥
never_comes t h = lost one one_bytes [] t (stored 3 1 7) one_let_in seven_known not_in_book h
