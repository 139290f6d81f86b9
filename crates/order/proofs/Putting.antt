-- Rows with their ranks put into a table: the numbers of one, and one more at a turn.
-- Assumes nothing.
use mathlib.Core.Path.{◌≡◌, refl, ◌∙◌}
use mathlib.Core.List.{List, [], ◌∷◌, ◌++◌, append_assoc}
use Prim.Native.Nat.{ℕ, suc, ◌+◌, ◌*◌, ◌≤◌, ◌<◌}
use native.Mathlib.Omega.{arith}
use native.Mathlib.Numerals.{add-one}
use lib.ListN.{length, take, drop, set, get_or}
use lib.Seq.{sets-eq, take-suc, length-take-le}
use Rattle.store.specs.Tables.{element_in_row, flat}
use Rattle.store.specs.declared.element.Element.{Element}
use Rattle.store.proofs.Rows.{put_more}
use Rattle.order.specs.Order.{ranked_row, ranked_rows, ranked_width}
use Rattle.order.specs.Queue.{elements_at}
use Rattle.order.proofs.Queueing.{length_at, at_append}

pub put_seven : (t : List ℕ) (i a b c d e f g : ℕ) → i + 7 ≤ length t
    → set (set (set (set (set (set (set t i a) (i + 1) b) (i + 2) c) (i + 3) d) (i + 4) e) (i + 5) f) (i + 6) g
    ≡ take i t ++ ((a ∷ b ∷ c ∷ d ∷ e ∷ f ∷ g ∷ []) ++ drop (i + 7) t)
put_seven t i a b c d e f g p =
    let e1 : i + 1 ≡ suc i = omega arith in
    let e2 : i + 2 ≡ suc (suc i) = omega arith in
    let e3 : i + 3 ≡ suc (suc (suc i)) = omega arith in
    let e4 : i + 4 ≡ suc (suc (suc (suc i))) = omega arith in
    let e5 : i + 5 ≡ suc (suc (suc (suc (suc i)))) = omega arith in
    let e6 : i + 6 ≡ suc (suc (suc (suc (suc (suc i))))) = omega arith in
    rw (e1, e2, e3, e4, e5, e6)
    (sets-eq (a ∷ b ∷ c ∷ d ∷ e ∷ f ∷ g ∷ []) t i p ∙ append_assoc (take i t) (a ∷ b ∷ c ∷ d ∷ e ∷ f ∷ g ∷ []) (drop (i + 7) t))

-- what stands in the table: the rows of the first k that are queued, and behind them its own numbers
abbrev pub put : List ℕ → List ℕ → List ℕ → ℕ → List ℕ → List ℕ
put rows ids queue k t = ranked_rows (elements_at rows ids (take k queue)) ++ drop (k * ranked_width) t

pub put_none : (rows ids queue t : List ℕ) → t ≡ put rows ids queue 0 t
unfolding flat
put_none rows ids queue t = refl

pub put_next : (rows ids queue t₀ t t' : List ℕ) (k : ℕ) (x : Element) → k < length queue → t ≡ put rows ids queue k t₀ → x ≡ element_in_row rows ids (get_or queue k 0)
    → t' ≡ take (k * ranked_width) t ++ (ranked_row x ++ drop (k * ranked_width + ranked_width) t)
    → t' ≡ put rows ids queue (k + 1) t₀
put_next rows ids queue t₀ t t' k x h e f g =
    let done = elements_at rows ids (take k queue) in
    let l : length done ≡ k = length_at rows ids (take k queue) ∙ length-take-le k queue (omega arith) in
    let more : elements_at rows ids (take (k + 1) queue) ≡ done ++ (x ∷ []) = rw (add-one k, take-suc queue k 0 h, at_append rows ids (take k queue) (get_or queue k 0 ∷ []), f) in
    let w : (y : Element) → length (ranked_row y) ≡ ranked_width = λ y. refl in
    g ∙ put_more ranked_row ranked_width w done x t t₀ k l e ∙ rw (more, add-one k)
