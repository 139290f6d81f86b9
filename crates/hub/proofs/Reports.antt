-- What the answering calls tell, as number and report: their promises, from what deciding leaves behind.
-- Assumes nothing.
use native.Mathlib.Omega.{arith}
use mathlib.Core.Path.{◌≡◌, refl, sym, ap, subst, ◌∙◌}
use mathlib.Core.List.{List, [], ◌∷◌}
use Prim.Native.Nat.{ℕ}
use lib.ListN.{length}
use Rattle.std.specs.Prelude.{Ok, Err}
use Rattle.laws.specs.Bytes.{le}
use Rattle.laws.specs.Placed.{laid, placed}
use Rattle.laws.proofs.Cases.{impossible}
use Rattle.laws.proofs.Placing.{laid_front}
use Rattle.numbers.specs.Refusals.{Told, refuses, refusal_number}
use Rattle.numbers.specs.declared.refusal.Refusal.{Refusal}
use Rattle.objects.specs.Header.{header_at, header_of, sized, start_of, end_of, length_at}
use Rattle.objects.specs.Steps.{start_of_length, length_is, place_of, start_here, skip, next_is, end_here, finish}
use Rattle.store.specs.Store.{Walk, package_start, store_walk, nothing_of, beginning_of}
use Rattle.store.specs.Results.Beginning as beginning
use Rattle.store.proofs.Beginning.{begins_refused, begins_nothing, nothing_held}
use Rattle.request.specs.Message.{request_in}
use Rattle.request.specs.Results.Request.{Request}
use Rattle.request.specs.Results.Request as request
use Rattle.pages.specs.Tables.{sent_bytes}
use Rattle.pages.specs.Answer.{Ask, Outcome, refused, number_in, ask_of, page_decided, on_request, on_store, outcome, answer_of, output_after}
use Rattle.pages.specs.Held.{SomeStore, reckoned_on, reckoned_for, Ready, Follows, RequestReckoned}
use Rattle.pages.specs.Results.Decided.{Decided}
use Rattle.pages.specs.Results.Reckoned.{Reckoned}
use Rattle.pages.specs.Results.Reckoned as reckoned
use Rattle.pages.specs.declared.write.Sending.{Sending}
use Rattle.pages.proofs.Stored.{page_follows, refusal_follows}
use Rattle.report.specs.Report.{three_numbers, refusal_report}
use Rattle.hub.specs.Call.{report_bytes, HubTellsLength, HubWritesAnswer}

-- two refusals that tell the same have one number and one report
pub same_refusal : (r q : Refusal) → refuses r ≡ refuses q → (refusal_number r ≡ refusal_number q) × (refusal_report r ≡ refusal_report q)
same_refusal r q e = (
  ap (λ (t : Told). t.number) e,
  rw (ap (λ (t : Told). t.input) e, ap (λ (t : Told). t.place) e, ap (λ (t : Told). t.needed) e),
)

-- ---- a store without elements

-- its outcome goes on with the request
nothing_outcome : (s q : List ℕ) (room : ℕ) → beginning_of s ≡ beginning.Nothing → on_request s (store_walk s).elements q room (request_in q []) ≡ outcome s q room
unfolding outcome on_store
nothing_outcome s q room h =
    let (l, e, v, is) = begins_nothing s h in
    ap (on_store s (store_walk s).elements q room) (ap (λ (w : Walk). w.last) (sym is))

-- a page tells how many elements the store has
page_counted : (a : Ask) (d : Decided) (page : Sending) (whole n : ℕ) → reckoned_on a d ≡ reckoned.Page page whole n → n ≡ length a.elements
unfolding reckoned_on
page_counted a (Ok x) page whole n h = grind arith
page_counted a (Err e) page whole n h = impossible (cc)

counted_on : (s q : List ℕ) (room : ℕ) (r : Request) (page : Sending) (whole n : ℕ) → reckoned_for s q room r ≡ reckoned.Page page whole n
    → n ≡ length (store_walk s).elements
unfolding reckoned_for
counted_on s q room (Ok x) page whole n h =
    page_counted (ask_of s (store_walk s).elements q x.id x.limit) (page_decided (ask_of s (store_walk s).elements q x.id x.limit) room) page whole n h
counted_on s q room (request.Refused r) page whole n h = impossible (cc)

-- so what deciding promises of whatever store stands in empty tables, it promises of this one
module _ (s q : List ℕ) (room : ℕ) (x : Reckoned) (known known' queue queue' : List ℕ) (e : beginning_of s ≡ beginning.Nothing)
    (h : RequestReckoned q [] [] 0 room x known known' queue queue') where
  follows : Follows (outcome s q room) s room x [] [] known' queue'
  follows = subst (λ (o : Outcome). Follows o s room x [] [] known' queue') (nothing_outcome s q room e) (h s (nothing_held s e)).5

  pub nothing_ready : (page : Sending) (whole n : ℕ) → x ≡ reckoned.Page page whole n → (n ≡ 0) × Ready (outcome s q room) s room page whole 0 [] [] known' queue'
  nothing_ready page whole n is =
      let y = page_follows (outcome s q room) s room x [] [] known' queue' follows page whole n is in
      let z : n ≡ 0 = counted_on s q room (request_in q []) page whole n (sym (h s (nothing_held s e)).0 ∙ is) ∙ sym (nothing_held s e).count in
      (z, subst (λ (i : ℕ). Ready (outcome s q room) s room page whole i [] [] known' queue') z y)

  pub nothing_refused : (r : Refusal) → x ≡ reckoned.Refused r → outcome s q room ≡ refused r
  nothing_refused r is = refusal_follows (outcome s q room) s room x [] [] known' queue' follows r is

-- a store that is refused before its first element
pub begin_refused : (s q : List ℕ) (room : ℕ) (r : Refusal) → beginning_of s ≡ beginning.Refused r → outcome s q room ≡ refused r
unfolding outcome on_store
begin_refused s q room r h = ap (on_store s (store_walk s).elements q room) (ap (λ (w : Walk). w.last) (begins_refused s r h))

-- such stores are there: `AC 02 00 55`
pub some_store : SomeStore [] [] 0
unfolding beginning_of nothing_of package_start start_of_length length_is place_of start_here skip next_is end_here finish header_at header_of sized start_of end_of length_at le
some_store = (0xAC ∷ 0x02 ∷ 0x00 ∷ 0x55 ∷ [], nothing_held (0xAC ∷ 0x02 ∷ 0x00 ∷ 0x55 ∷ []) refl)

-- ---- a refusal

pub refusal_told : (s q : List ℕ) (room : ℕ) (report report' : List ℕ) (r : Refusal) → outcome s q room ≡ refused r → report' ≡ placed (refusal_report r) report
    → HubTellsLength s q room (refusal_number r) report report'
unfolding answer_of number_in report_bytes
refusal_told s q room report report' r e p = rw e (refl, p)

pub refusal_written : (s q : List ℕ) (out report report' : List ℕ) (r : Refusal) → outcome s q (length out) ≡ refused r → report' ≡ placed (refusal_report r) report
    → HubWritesAnswer s q (refusal_number r) out out report report'
unfolding answer_of number_in output_after report_bytes
refusal_written s q out report report' r e p = rw e (refl, refl, p)

-- ---- a page that stands ready

module _ {s : List ℕ} {room : ℕ} {page : Sending} {whole n : ℕ} {elements ids known queue : List ℕ} (q : List ℕ)
    (h : Ready (outcome s q room) s room page whole n elements ids known queue) where
  pub page_told : (report report' : List ℕ) → report' ≡ placed (three_numbers 0 0 whole) report → HubTellsLength s q room 0 report report'
  unfolding answer_of number_in report_bytes
  page_told report report' p = rw h.outcome_is (refl, rw h.whole_is at p)

  pub page_written : (out out' report report' : List ℕ) → length out ≡ room → out' ≡ laid 0 (sent_bytes s elements ids queue page known) out
      → report' ≡ placed (three_numbers 0 0 whole) report → HubWritesAnswer s q 0 out out' report report'
  unfolding answer_of number_in output_after report_bytes
  page_written out out' report report' e w p =
      rw (e, h.outcome_is) (refl, w ∙ laid_front (sent_bytes s elements ids queue page known) out, rw h.whole_is at p)
