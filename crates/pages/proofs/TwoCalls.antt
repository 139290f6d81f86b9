-- The two calls joined give what one call gave that decided and wrote (document 02, Q-6): "joined, they give what it gave". With an
-- output of the offered length the second refuses exactly as the first, and else writes an answer of the told length; and into an
-- output of exactly the told length it writes that same page, bytes and tables, whatever tables it is lent that are long enough:
-- those that the first was lent, or those that the first has filled, which then stay as they are.
-- Assumes nothing.
use mathlib.Core.Path.{◌≡◌, refl, sym, ap, ◌∙◌}
use mathlib.Core.List.{List, [], ◌++◌, append-nil}
use Prim.Native.Nat.{ℕ, ◌*◌, ◌≤◌, ◌<◌}
use native.Mathlib.Omega.{arith}
use lib.ListN.{length, drop, length-append, length-drop}
use lib.Seq.{drop-length, drop_at}
use mathlib.Core.Logic.{◌⊎◌, inl, inr}
use Rattle.laws.proofs.Cases.{by_lt, impossible}
use Rattle.laws.proofs.OneAnswer.{one_answer}
use Rattle.talk.specs.declared.range.Range.{Range}
use Rattle.ranges.specs.RangeTable.{range_width}
use Rattle.order.specs.Order.{ordered, ranked_rows, ranked_width, ranked_numbers}
use Rattle.order.proofs.Ordering.{ranked_length}
use Rattle.store.specs.declared.element.Element.{Element}
use Rattle.pages.specs.Answer.{Outcome, refused, answered, knowledge_numbers, answer_of, answer_told, rows_after, ranges_after, range_rows, output_after, Gives, TellsLength, WritesAnswer}
use Rattle.pages.specs.Results.Answered.{Answered}
use Rattle.pages.specs.Results.Answered as answer
use Rattle.pages.proofs.Copying.{length_range_rows}
use Rattle.pages.proofs.Exact.{exact_outcome}
use Rattle.pages.proofs.OneAnswers.{answer_telling_lem, tells_one}
use Rattle.pages.proofs.Refusing.{thirteen_if, tables_fine}

-- ---- the decision for an output of exactly the told length

short_refused : (s q : List ℕ) (rows ranges room : ℕ) (w : List ℕ) (all : List Element) (l : List Range) → (rows < ranked_numbers) ⊎ (ranges < knowledge_numbers)
    → answer_of s q rows ranges room ≡ answered w all l → ⊥
short_refused s q rows ranges room w all l h e = let z = sym (thirteen_if s q rows ranges room h) ∙ e in impossible (cc)

-- where there is an answer, the tables were long enough
tables_long : (s q : List ℕ) (rows ranges room : ℕ) (w : List ℕ) (all : List Element) (l : List Range) → answer_of s q rows ranges room ≡ answered w all l
    → (ranked_numbers ≤ rows) × (knowledge_numbers ≤ ranges)
tables_long s q rows ranges room w all l h = (
  by_lt rows ranked_numbers (λ a. absurd (short_refused s q rows ranges room w all l (inl a) h)) (λ a. a),
  by_lt ranges knowledge_numbers (λ a. absurd (short_refused s q rows ranges room w all l (inr a) h)) (λ a. a),
)

-- and any tables that are long enough get the same decision for exactly the answer's length
exact_again : (s q : List ℕ) (rows ranges room : ℕ) (w : List ℕ) (all : List Element) (l : List Range) → answer_of s q rows ranges room ≡ answered w all l
    → (rowsThen rangesThen : ℕ) → ranked_numbers ≤ rowsThen → knowledge_numbers ≤ rangesThen → answer_of s q rowsThen rangesThen (length w) ≡ answered w all l
exact_again s q rows ranges room w all l h rowsThen rangesThen a b =
    let g = tables_long s q rows ranges room w all l h in
    tables_fine s q rowsThen rangesThen (length w) a b ∙ exact_outcome s q room w all l (sym (tables_fine s q rows ranges room g.0 g.1) ∙ h)

pub exact_answer : (s q : List ℕ) (rows ranges room : ℕ) (w : List ℕ) (all : List Element) (l : List Range) → answer_of s q rows ranges room ≡ answered w all l
    → answer_of s q rows ranges (length w) ≡ answered w all l
exact_answer s q rows ranges room w all l h =
    let g = tables_long s q rows ranges room w all l h in
    exact_again s q rows ranges room w all l h rows ranges g.0 g.1

-- ---- what an outcome is that tells a length

sent_on : (o : Outcome) (n m k : ℕ) → answer.Sent n m k ≡ answer_told o → (w : List ℕ) × (all : List Element) × (l : List Range) × (o ≡ answered w all l) × (length w ≡ n)
unfolding answer_told
sent_on (refused r) n m k e = impossible (cc)
sent_on (answered w all l) n m k e = (w, all, l, refl, grind arith)

-- ---- a table whose first rows were filled is no shorter, and filled again it is the same

no_shorter : (filled t : List ℕ) (n : ℕ) → length filled ≡ n → length t ≤ length (filled ++ drop n t)
no_shorter filled t n e = omega (arith, length-append filled (drop n t), length-drop n t)

filled_again : (filled t : List ℕ) (n : ℕ) → length filled ≡ n → filled ++ drop n (filled ++ drop n t) ≡ filled ++ drop n t
filled_again filled t n e = ap (λ (x : List ℕ). filled ++ x) (drop_at filled (drop n t) n e)

rows_again : (o : Outcome) (t : List ℕ) → (length t ≤ length (rows_after o t)) × (rows_after o (rows_after o t) ≡ rows_after o t)
unfolding rows_after
rows_again (refused r) t = (omega arith, refl)
rows_again (answered w all l) t = (
  no_shorter (ranked_rows (ordered all)) t (length all * ranked_width) (ranked_length all),
  filled_again (ranked_rows (ordered all)) t (length all * ranked_width) (ranked_length all),
)

ranges_again : (o : Outcome) (t : List ℕ) → (length t ≤ length (ranges_after o t)) × (ranges_after o (ranges_after o t) ≡ ranges_after o t)
unfolding ranges_after
ranges_again (refused r) t = (omega arith, refl)
ranges_again (answered w all l) t = (
  no_shorter (range_rows l) t (length l * range_width) (length_range_rows l),
  filled_again (range_rows l) t (length l * range_width) (length_range_rows l),
)

-- ---- the two calls, for an output of the offered length

module _ (s q : List ℕ) (offered : ℕ) (rows ranges : List ℕ) where
  -- lent the same tables: the same refusal, or the same length and row counts; and the same tables
  pub same_told : (r t : Answered) (rows' rows'' ranges' ranges'' out out' : List ℕ) → length out ≡ offered → TellsLength s q offered r rows rows' ranges ranges'
      → WritesAnswer s q t rows rows'' ranges ranges'' out out'
      → (r ≡ t) × (rows' ≡ rows'') × (ranges' ≡ ranges'')
  same_told r t rows' rows'' ranges' ranges'' out out' e a b =
      let c = rw e at b in
      tells_one _ r t rows rows' rows'' ranges ranges' ranges'' a (c.0, c.1, c.2)

  -- what is written is the answer that was decided, and the told length is its length
  pub told_is_written : (n m k : ℕ) (rows' ranges' out out' : List ℕ) → WritesAnswer s q (answer.Sent n m k) rows rows' ranges ranges' out out'
      → (w : List ℕ) × (all : List Element) × (l : List Range) × (answer_of s q (length rows) (length ranges) (length out) ≡ answered w all l)
      × (length w ≡ n) × (out' ≡ w ++ drop n out)
  unfolding output_after
  told_is_written n m k rows' ranges' out out' b =
      let (w, all, l, o, z) = sent_on _ n m k (one_answer answer_telling_lem b.0 refl) in
      let c = rw o at b.3 in
      (w, all, l, o, z, rw z at c)

-- ---- the second call behind the first, into an output of exactly the told length

module _ (s q : List ℕ) (offered : ℕ) (rows ranges : List ℕ) (n m k : ℕ) (rows' ranges' : List ℕ)
    (told : TellsLength s q offered (answer.Sent n m k) rows rows' ranges ranges') where
  decided_so : (w : List ℕ) × (all : List Element) × (l : List Range) × (answer_of s q (length rows) (length ranges) offered ≡ answered w all l) × (length w ≡ n)
  decided_so = sent_on _ n m k (one_answer answer_telling_lem told.0 refl)

  long_enough : (ranked_numbers ≤ length rows) × (knowledge_numbers ≤ length ranges)
  long_enough = let (w, all, l, o, z) = decided_so in tables_long s q (length rows) (length ranges) offered w all l o

  -- lent any tables that are long enough, it decides again what the first decided for the offered length
  pub pair_decides : (rowsThen rangesThen exact : List ℕ) → ranked_numbers ≤ length rowsThen → knowledge_numbers ≤ length rangesThen → length exact ≡ n
      → answer_of s q (length rowsThen) (length rangesThen) (length exact) ≡ answer_of s q (length rows) (length ranges) offered
  pair_decides rowsThen rangesThen exact a b e =
      let (w, all, l, o, z) = decided_so in
      ap (answer_of s q (length rowsThen) (length rangesThen)) (e ∙ sym z) ∙ exact_again s q (length rows) (length ranges) offered w all l o (length rowsThen) (length rangesThen) a b ∙ sym o

  -- so it tells the same length and row counts, fills those tables from that answer, and writes that answer
  pub pair_gives : (t : Answered) (rowsThen rowsThen' rangesThen rangesThen' exact exact' : List ℕ) → ranked_numbers ≤ length rowsThen → knowledge_numbers ≤ length rangesThen → length exact ≡ n
      → WritesAnswer s q t rowsThen rowsThen' rangesThen rangesThen' exact exact'
      → (t ≡ answer.Sent n m k) × Gives (answer_of s q (length rows) (length ranges) offered) t rowsThen rowsThen' rangesThen rangesThen' exact exact'
  pair_gives t rowsThen rowsThen' rangesThen rangesThen' exact exact' a b e h =
      let c = rw (pair_decides rowsThen rangesThen exact a b e) at h in
      (one_answer answer_telling_lem c.0 told.0, c)

  -- lent the tables as the first left them: they stay so
  pub pair_tables : (t : Answered) (rows'' ranges'' exact exact' : List ℕ) → length exact ≡ n → WritesAnswer s q t rows' rows'' ranges' ranges'' exact exact'
      → (t ≡ answer.Sent n m k) × (rows'' ≡ rows') × (ranges'' ≡ ranges')
  pair_tables t rows'' ranges'' exact exact' e h =
      let o = answer_of s q (length rows) (length ranges) offered in
      let x : length rows ≤ length rows' = rw told.1 (rows_again o rows).0 in
      let y : length ranges ≤ length ranges' = rw told.2 (ranges_again o ranges).0 in
      let g = pair_gives t rows' rows'' ranges' ranges'' exact exact' (omega (arith, long_enough.0)) (omega (arith, long_enough.1)) e h in (
        g.0,
        g.1.1 ∙ ap (rows_after o) told.1 ∙ (rows_again o rows).1 ∙ sym told.1,
        g.1.2 ∙ ap (ranges_after o) told.2 ∙ (ranges_again o ranges).1 ∙ sym told.2,
      )

  -- lent the tables that the first was lent, as they were before it
  module _ (t : Answered) (rows'' ranges'' exact exact' : List ℕ) (e : length exact ≡ n) (h : WritesAnswer s q t rows rows'' ranges ranges'' exact exact') where
    gives_again : (t ≡ answer.Sent n m k) × Gives (answer_of s q (length rows) (length ranges) offered) t rows rows'' ranges ranges'' exact exact'
    gives_again = pair_gives t rows rows'' ranges ranges'' exact exact' long_enough.0 long_enough.1 e h

    pub exact_told : (t ≡ answer.Sent n m k) × (rows'' ≡ rows') × (ranges'' ≡ ranges')
    exact_told = (gives_again.0, gives_again.1.1 ∙ sym told.1, gives_again.1.2 ∙ sym told.2)

    -- the same page, which is what would stand at the front of an output of the offered length
    pub exact_written : (u : Answered) (rowsThen rangesThen out out' : List ℕ) → length out ≡ offered → WritesAnswer s q u rows rowsThen ranges rangesThen out out'
        → out' ≡ exact' ++ drop n out
    unfolding output_after
    exact_written u rowsThen rangesThen out out' d c =
        let (w, all, l, o, z) = decided_so in
        let x : exact' ≡ w ++ drop (length w) exact = rw o at gives_again.1.3 in
        let y : out' ≡ w ++ drop (length w) out = rw (d, o) at c.3 in
        let v : drop (length w) exact ≡ [] = ap (λ (i : ℕ). drop i exact) (z ∙ sym e) ∙ drop-length exact in
        let u : exact' ≡ w = x ∙ ap (λ (z : List ℕ). w ++ z) v ∙ append-nil w in
        y ∙ ap (λ (i : ℕ). w ++ drop i out) z ∙ ap (λ (v : List ℕ). v ++ drop n out) (sym u)
