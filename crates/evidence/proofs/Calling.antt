-- What the calls of either form gave, as the outcome that the definitions have for it: an answer is the outcome's bytes, and a refusal is
-- the outcome's, or that of tables which are too short. An output of exactly the told length gets the answer that was told.
-- Assumes nothing.
use mathlib.Core.Path.{◌≡◌, refl, sym, ap, ◌∙◌}
use mathlib.Core.List.{List, [], ◌++◌, append-nil}
use mathlib.Core.Logic.{◌⊎◌, inl, inr, ⊎_elim}
use Prim.Native.Nat.{ℕ, ◌≤◌}
use native.Mathlib.Omega.{arith}
use lib.ListN.{length, take, drop}
use lib.Seq.{take_at, drop-length}
use borrow.Author.Tests.{lt-ltb}
use Rattle.laws.specs.Bytes.{AllBytes}
use Rattle.laws.specs.Placed.{placed}
use Rattle.laws.proofs.Cases.{by_lt, impossible}
use Rattle.numbers.specs.Refusals.{Told, refusal_number}
use Rattle.numbers.specs.declared.refusal.Refusal.{Refusal}
use Rattle.numbers.proofs.OneAnswers.{values_of}
use Rattle.talk.specs.declared.range.Range.{Range}
use Rattle.order.specs.Order.{ranked_numbers}
use Rattle.store.specs.declared.element.Element.{Element}
use Rattle.pages.specs.Answer.{Outcome, refused, answered, number_in, tell_answered, answer_told, answer_of, outcome, output_after, TellsLength, WritesAnswer, knowledge_numbers}
use Rattle.pages.specs.Results.Answered as answer
use Rattle.pages.proofs.Exact.{exact_outcome}
use Rattle.pages.proofs.Refusing.{tables_fine}
use Rattle.client.specs.Read.{longest_answer, answer_in, answer_end, answer_on}
use Rattle.client.specs.declared.answer.Received.{Received}
use Rattle.client.specs.Results.ReadAnswer as read
use Rattle.client.proofs.CallBack.{call_back}
use Rattle.report.specs.Report.{three_numbers}
use Rattle.hub.specs.Call.{report_bytes, hub_outcome, HubTellsLength, HubWritesAnswer}
use Rattle.hub.proofs.Laws.{tables_enough, hub_exact}
use Rattle.evidence.proofs.Refusals.{by_tables, refused_why, why_fault}
use Rattle.evidence.proofs.ReportNumbers.{three_numbers_lem}
use Rattle.evidence.specs.Refusing.{Tables}
use Rattle.evidence.specs.Calling.{report_number, GivesAnswer, lent, exported, lent_pair, exported_pair, GivesRefusal, lent_told, exported_told}

-- ---- what was told

sent_is : (o : Outcome) (n rows ranges : ℕ) → tell_answered (answer.Sent n rows ranges) ≡ tell_answered (answer_told o)
    → (w : List ℕ) × (all : List Element) × (l : List Range) × (o ≡ answered w all l) × (length w ≡ n)
unfolding answer_told
sent_is (refused r) n rows ranges e = let v = values_of _ _ e in impossible (cc)
sent_is (answered w all l) n rows ranges e = let v = values_of _ _ e in (w, all, l, refl, cc)

-- an answer comes from tables that are long enough
pub answered_outcome : (s q : List ℕ) (rows ranges room : ℕ) (w : List ℕ) (all : List Element) (l : List Range) → answer_of s q rows ranges room ≡ answered w all l
    → outcome s q room ≡ answered w all l
answered_outcome s q rows ranges room w all l e =
    ⊎_elim (λ z. let y = z.1 in impossible (cc)) (λ z. sym z.1 ∙ e) (by_tables s q rows ranges room)

-- and so does every number but 13
pub number_outcome : (s q : List ℕ) (rows ranges room n : ℕ) → (n ≡ 13 → ⊥) → number_in (answer_of s q rows ranges room) ≡ n
    → Tables rows ranges × (number_in (outcome s q room) ≡ n)
unfolding number_in
number_outcome s q rows ranges room n d e =
    ⊎_elim (λ z. absurd (d (sym e ∙ ap number_in z.1))) (λ z. (z.0, sym (ap number_in z.1) ∙ e)) (by_tables s q rows ranges room)

refusal_is : (o : Outcome) (r : Refusal) → tell_answered (answer.Refused r) ≡ tell_answered (answer_told o) → (x : Refusal) × (o ≡ refused x) × (refusal_number r ≡ refusal_number x)
unfolding answer_told
refusal_is (refused x) r e = (x, refl, ap (λ (t : Told). t.number) e)
refusal_is (answered w all l) r e = let v = values_of _ _ e in impossible (cc)

-- a call that tells 0 has answered, since a refusal has a number
zero_is : (o : Outcome) → ((r : Refusal) → o ≡ refused r → 1 ≤ refusal_number r) → 0 ≡ number_in o
    → (w : List ℕ) × (all : List Element) × (l : List Range) × (o ≡ answered w all l)
unfolding number_in
zero_is (refused r) h e = let z = h r refl in absurd (omega arith)
zero_is (answered w all l) h e = (w, all, l, refl)

-- what a bench takes for an answer is not over-long
pub read_within : (w : List ℕ) (x : Received) → answer_in w ≡ read.Is x → length w ≤ longest_answer
unfolding answer_in answer_end answer_on
read_within w x e =
    by_lt longest_answer (length w) (λ h. let z = rw (lt-ltb longest_answer (length w) h) at e in impossible (cc)) (λ h. h)

-- a call that tells another number has refused
number_is : (o : Outcome) → (number_in o ≡ 0 → ⊥) → (x : Refusal) × (o ≡ refused x)
unfolding number_in
number_is (refused x) h = (x, refl)
number_is (answered w all l) h = absurd (h refl)

-- for the tables, or as the outcome does
tables_or : (s q : List ℕ) (rows ranges room : ℕ) (x : Refusal) → answer_of s q rows ranges room ≡ refused x → (refusal_number x ≡ 13) ⊎ (outcome s q room ≡ refused x)
unfolding number_in
tables_or s q rows ranges room x e =
    ⊎_elim (λ z. inl (sym (ap number_in e) ∙ ap number_in z.1)) (λ z. inr (sym z.1 ∙ e)) (by_tables s q rows ranges room)

module _ (s q : List ℕ) where
  -- ---- an answer

  lent_outcome : (n rowCount rangeCount : ℕ) (rows rows' ranges ranges' out out' : List ℕ) → WritesAnswer s q (answer.Sent n rowCount rangeCount) rows rows' ranges ranges' out out'
      → (all : List Element) × (l : List Range) × (outcome s q (length out) ≡ answered (take n out') all l)
  unfolding output_after
  lent_outcome n rowCount rangeCount rows rows' ranges ranges' out out' h =
      let (w, all, l, is, long) = sent_is (answer_of s q (length rows) (length ranges) (length out)) n rowCount rangeCount h.0 in
      let o : out' ≡ w ++ drop (length w) out = h.3 ∙ ap (λ (x : Outcome). output_after x out) is in
      let v : take n out' ≡ w = ap (take n) o ∙ take_at w (drop (length w) out) n long in
      (all, l, rw v (answered_outcome s q (length rows) (length ranges) (length out) w all l is))

  -- what is told in a report
  told_length : AllBytes s → AllBytes q → (room : ℕ) (w : List ℕ) (all : List Element) (l : List Range) → hub_outcome s q room ≡ answered w all l → (report report' : List ℕ)
      → report' ≡ placed (report_bytes (hub_outcome s q room)) report → 24 ≤ length report → report_number 2 report' ≡ length w
  unfolding report_bytes
  told_length b d room w all l is report report' h long =
      let given : outcome s q room ≡ answered w all l = sym (tables_enough s q room) ∙ is in
      let short = read_within w _ (call_back s q room b d w all l given).back.read in
      let p : report' ≡ placed (three_numbers 0 0 (length w)) report = h ∙ ap (λ (x : Outcome). placed (report_bytes x) report) is in
      ap (report_number 2) p ∙ (three_numbers_lem 0 0 (length w) report long (omega arith) (omega arith) (omega arith)).2

  exported_sent : AllBytes s → AllBytes q → (out out' report report' w : List ℕ) (all : List Element) (l : List Range) → hub_outcome s q (length out) ≡ answered w all l
      → HubWritesAnswer s q 0 out out' report report' → 24 ≤ length report → take (report_number 2 report') out' ≡ w
  unfolding output_after
  exported_sent b d out out' report report' w all l is h long =
      let o : out' ≡ w ++ drop (length w) out = h.1 ∙ ap (λ (x : Outcome). output_after x out) is in
      let m : report_number 2 report' ≡ length w = told_length b d (length out) w all l is report report' h.2 long in
      rw (m, o) (take_at w (drop (length w) out) (length w) refl)

  -- where 0 is told, there is an answer
  zero_answered : (room : ℕ) → 0 ≡ number_in (hub_outcome s q room) → (w : List ℕ) × (all : List Element) × (l : List Range) × (hub_outcome s q room ≡ answered w all l)
  zero_answered room e = zero_is (hub_outcome s q room) (λ r e. (why_fault s q ranked_numbers knowledge_numbers room r (refused_why s q ranked_numbers knowledge_numbers room r e)).least) e

  exported_outcome : AllBytes s → AllBytes q → (out out' report report' : List ℕ) → HubWritesAnswer s q 0 out out' report report' → 24 ≤ length report
      → (all : List Element) × (l : List Range) × (outcome s q (length out) ≡ answered (take (report_number 2 report') out') all l)
  exported_outcome b d out out' report report' h long =
      let (w, all, l, is) = zero_answered (length out) h.0 in
      (all, l, rw (exported_sent b d out out' report report' w all l is h long) (sym (tables_enough s q (length out)) ∙ is))

  -- ---- an answer whose length was told first

  -- an output of exactly its length holds it, and nothing else
  pub all_written : (o : Outcome) (w : List ℕ) (all : List Element) (l : List Range) → o ≡ answered w all l → (out out' : List ℕ) → length out ≡ length w → out' ≡ output_after o out
      → out' ≡ w
  unfolding output_after
  all_written o w all l is out out' long h =
      let x : out' ≡ w ++ drop (length w) out = h ∙ ap (λ (y : Outcome). output_after y out) is in
      let none : drop (length w) out ≡ [] = ap (λ (i : ℕ). drop i out) (sym long) ∙ drop-length out in
      x ∙ ap (λ (y : List ℕ). w ++ y) none ∙ append-nil w

  pub lent_exact : (room n rowCount rangeCount : ℕ) (rows rows' ranges ranges' : List ℕ) → TellsLength s q room (answer.Sent n rowCount rangeCount) rows rows' ranges ranges'
      → (rowsThen rangesThen : ℕ) → Tables rowsThen rangesThen
      → (w : List ℕ) × (all : List Element) × (l : List Range) × (outcome s q room ≡ answered w all l) × (length w ≡ n) × (answer_of s q rowsThen rangesThen n ≡ answered w all l)
  lent_exact room n rowCount rangeCount rows rows' ranges ranges' h rowsThen rangesThen t =
      let (w, all, l, is, long) = sent_is (answer_of s q (length rows) (length ranges) room) n rowCount rangeCount h.0 in
      let o = answered_outcome s q (length rows) (length ranges) room w all l is in
      let e = exact_outcome s q room w all l o in
      (w, all, l, o, long, tables_fine s q rowsThen rangesThen n t.0 t.1 ∙ ap (outcome s q) (sym long) ∙ e)

  pub exported_exact : AllBytes s → AllBytes q → (room : ℕ) (told told' : List ℕ) → HubTellsLength s q room 0 told told' → 24 ≤ length told → (out : List ℕ)
      → length out ≡ report_number 2 told'
      → (w : List ℕ) × (all : List Element) × (l : List Range) × (outcome s q room ≡ answered w all l) × (length out ≡ length w)
      × (hub_outcome s q (length out) ≡ answered w all l)
  exported_exact b d room told told' h long out e =
      let (w, all, l, is) = zero_answered room h.0 in
      let m = told_length b d room w all l is told told' h.1 long in
      (w, all, l, sym (tables_enough s q room) ∙ is, e ∙ m, hub_exact s q room w all l out is (e ∙ m))

  -- so it is written, whatever stood in the output, and its length is told again
  pub exported_pair_told : AllBytes s → AllBytes q → (room : ℕ) (told told' : List ℕ) → HubTellsLength s q room 0 told told' → 24 ≤ length told
      → (number : ℕ) (out out' report report' : List ℕ) → length out ≡ report_number 2 told' → HubWritesAnswer s q number out out' report report'
      → (number ≡ 0) × (24 ≤ length report → report_number 2 report' ≡ report_number 2 told')
  unfolding number_in
  exported_pair_told b d room told told' h long number out out' report report' e k =
      let (w, all, l, o, same_length, is) = exported_exact b d room told told' h long out e in
      (k.0 ∙ ap number_in is, λ lent. told_length b d (length out) w all l is report report' k.2 lent ∙ sym same_length ∙ e)

  pub gave_outcome : AllBytes s → AllBytes q → (room : ℕ) (w : List ℕ) → GivesAnswer s q room w → (all : List Element) × (l : List Range) × (outcome s q room ≡ answered w all l)
  gave_outcome b d room w (lent n rowCount rangeCount rows rows' ranges ranges' out out' h e g) =
      rw (← e, g) (lent_outcome n rowCount rangeCount rows rows' ranges ranges' out out' h)
  gave_outcome b d room w (exported out out' report report' h e long g) = rw (← e, g) (exported_outcome b d out out' report report' h long)
  gave_outcome b d room w (lent_pair n rowCount rangeCount rows rows' ranges ranges' h r rowsThen rowsThen' rangesThen rangesThen' out out' tables e k g) =
      let (v, all, l, o, long, exact) = lent_exact room n rowCount rangeCount rows rows' ranges ranges' h (length rowsThen) (length rangesThen) tables in
      let is = ap (answer_of s q (length rowsThen) (length rangesThen)) e ∙ exact in
      let same : w ≡ v = g ∙ all_written (answer_of s q (length rowsThen) (length rangesThen) (length out)) v all l is out out' (e ∙ sym long) k.3 in
      (all, l, o ∙ ap (λ (x : List ℕ). answered x all l) (sym same))
  gave_outcome b d room w (exported_pair told told' h long number out out' report report' e k g) =
      let (v, all, l, o, same_length, is) = exported_exact b d room told told' h long out e in
      let same : w ≡ v = g ∙ all_written (hub_outcome s q (length out)) v all l is out out' same_length k.1 in
      (all, l, o ∙ ap (λ (x : List ℕ). answered x all l) (sym same))

  -- for one length lent or offered there is one answer: joined, the two calls give what the one that writes gives by itself
  pub one_given : AllBytes s → AllBytes q → (room : ℕ) (w w' : List ℕ) → GivesAnswer s q room w → GivesAnswer s q room w' → w ≡ w'
  one_given b d room w w' g g' =
      let (all, l, is) = gave_outcome b d room w g in
      let (all', l', is') = gave_outcome b d room w' g' in
      let e = sym is ∙ is' in
      cc (e)

  -- and the length that is told for it is the length of that answer
  pub told_is_given : AllBytes s → AllBytes q → (room : ℕ) (told told' : List ℕ) → HubTellsLength s q room 0 told told' → 24 ≤ length told → (w : List ℕ) → GivesAnswer s q room w
      → report_number 2 told' ≡ length w
  told_is_given b d room told told' h long w g =
      let (all, l, is) = gave_outcome b d room w g in
      told_length b d room w all l (tables_enough s q room ∙ is) told told' h.1 long

  -- ---- a refusal

  lent_refusal : (rows ranges room n : ℕ) (r : Refusal) → tell_answered (answer.Refused r) ≡ tell_answered (answer_told (answer_of s q rows ranges room)) → n ≡ refusal_number r
      → (n ≡ 13) ⊎ ((x : Refusal) × (outcome s q room ≡ refused x) × (n ≡ refusal_number x))
  lent_refusal rows ranges room n r h g =
      let (x, is, number) = refusal_is (answer_of s q rows ranges room) r h in
      ⊎_elim (λ z. inl (g ∙ number ∙ z)) (λ z. inr (x, z, g ∙ number)) (tables_or s q rows ranges room x is)

  exported_refusal : (room n : ℕ) → n ≡ number_in (hub_outcome s q room) → (n ≡ 0 → ⊥) → (n ≡ 13) ⊎ ((x : Refusal) × (outcome s q room ≡ refused x) × (n ≡ refusal_number x))
  unfolding number_in
  exported_refusal room n h g =
      let (x, is) = number_is (hub_outcome s q room) (λ z. g (h ∙ z)) in
      inr (x, sym (tables_enough s q room) ∙ is, h ∙ ap number_in is)

  -- 13, or the outcome's own
  pub refusal_outcome : (room n : ℕ) → GivesRefusal s q room n → (n ≡ 13) ⊎ ((x : Refusal) × (outcome s q room ≡ refused x) × (n ≡ refusal_number x))
  refusal_outcome room n (lent r rows rows' ranges ranges' out out' h e g) =
      lent_refusal (length rows) (length ranges) room n r (rw e at h.0) g
  refusal_outcome room n (exported out out' report report' h e g) = exported_refusal room n (rw e at h.0) g
  refusal_outcome room n (lent_told r rows rows' ranges ranges' h g) = lent_refusal (length rows) (length ranges) room n r h.0 g
  refusal_outcome room n (exported_told report report' h g) = exported_refusal room n h.0 g
