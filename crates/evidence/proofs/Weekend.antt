-- The weekend: "the hub had sent an answer marked partial with nothing in it. The bench asked again with the same knowledge and got the
-- same answer." The first never comes from this hub. And a bench that asks again with the knowledge that a marked answer told asks for
-- less: while answers are marked, what is wanted falls. (Who asks again with the same knowledge gets the same answer: that is the
-- bench's to avoid.)
-- Assumes nothing.
use mathlib.Core.Path.{◌≡◌, sym, ap, ◌∙◌}
use mathlib.Core.Bool.{Bool, true, false}
use mathlib.Core.List.{List}
use mathlib.Core.Logic.{◌⊎◌, inl, inr}
use Prim.Native.Nat.{ℕ, ◌<◌}
use native.Mathlib.Omega.{arith}
use lib.ListN.{length}
use Rattle.laws.specs.Bytes.{AllBytes}
use Rattle.laws.proofs.Cases.{by_bool, by_eq}
use Rattle.talk.proofs.Series.{marked_carries}
use Rattle.talk.proofs.Delivery.{judged_takes}
use Rattle.store.specs.Element.{same_key}
use Rattle.store.specs.declared.element.Key.{Key}
use Rattle.store.proofs.Chains.{same_turn}
use Rattle.request.specs.Meaning.{Filter}
use Rattle.client.specs.Read.{answer_in}
use Rattle.client.specs.declared.answer.Received.{Received}
use Rattle.client.specs.Results.ReadAnswer.{ReadAnswer}
use Rattle.client.specs.Results.ReadAnswer as read
use Rattle.evidence.specs.Calling.{GivesAnswer}
use Rattle.evidence.specs.Talk.{KeyFits, groups_of, leaves_in, wanted_of, AnsweredAsk}
use Rattle.order.specs.Groups.{members_of, group_serial}
use Rattle.order.proofs.GroupMembers.{length_least}
use Rattle.evidence.proofs.DemandTwo.{DemandTwo, demand_two}
use Rattle.evidence.proofs.Sending.{serials_fit, serials_differ}
use Rattle.store.proofs.Rows.{same_itself}
use Rattle.evidence.proofs.Steps.{held, answer, answered_judged}

-- ---- one answer

-- the count and the mark that a bench reads
abbrev pub count_in : ReadAnswer → ℕ
count_in (read.Is x) = x.count
count_in (read.Refused r) = 0

abbrev pub mark_in : ReadAnswer → Bool
mark_in (read.Is x) = x.partial
mark_in (read.Refused r) = false

-- "an answer marked partial with nothing in it" is none
pub no_empty_partial : (s q : List ℕ) → AllBytes s → AllBytes q → (room : ℕ) (w : List ℕ) → GivesAnswer s q room w → (x : Received) → answer_in w ≡ read.Is x
    → x.count ≡ 0 → x.partial ≡ true → ⊥
no_empty_partial s q b d room w g x e n m =
    let h : DemandTwo s q room w = demand_two s q b d room w g in
    let y = sym h.read.read ∙ e in
    let count : length (members_of h.page) ≡ x.count = ap count_in y in
    let each = length_least h.page in
    let mark : h.marked ≡ x.partial = ap mark_in y in
    let z = (marked_carries {a = record { page = h.page; marked = h.marked }} (record { run = h.run; moves = h.some; mark = h.mark }) (mark ∙ m)).carried in
    omega arith

-- the same, as a rule for what may be taken as progress: elements, or no mark
pub elements_or_unmarked : (s q : List ℕ) → AllBytes s → AllBytes q → (room : ℕ) (w : List ℕ) → GivesAnswer s q room w → (x : Received) → answer_in w ≡ read.Is x
    → (0 < x.count) ⊎ (x.partial ≡ false)
elements_or_unmarked s q b d room w g x e =
    by_bool x.partial
    (λ m. by_eq x.count 0 (λ n. absurd (no_empty_partial s q b d room w g x e n m)) (λ n. inl (omega arith)))
    (λ m. inr m)

-- ---- one ask after another

-- after an answer that is marked fewer groups are wanted: the same question does not come again
pub fewer_wanted : (s : List ℕ) → AllBytes s → (fs : List Filter) (know know' : Key → Bool) (w : List ℕ) → (r : AnsweredAsk s fs know w know')
    → (x : Received) → answer_in w ≡ read.Is x → x.partial ≡ true → length (wanted_of s fs know') < length (wanted_of s fs know)
fewer_wanted s b fs know know' w r x e m =
    let h = held s b fs know know' w r in
    let stands = h.store_reads in
    let t = judged_takes same_key same_itself same_turn group_serial KeyFits (groups_of s) (leaves_in s fs) (serials_fit s b stands) (serials_differ s) know know'
    (answer s b fs know know' w r) (answered_judged s b fs know know' w r) in
    let mark : h.marked ≡ x.partial = ap mark_in (sym h.read.read ∙ e) in
    (marked_carries t (mark ∙ m)).fewer
