-- One ask of a talk that is answered, from demand 2: what is read in the answer takes from what is wanted, and what is known afterwards is
-- what was known with exactly the serial numbers sent added. For the proof of demand 3; a reader of the demands can skip it.
-- Assumes nothing.
use mathlib.Core.Path.{◌≡◌, sym, ap, ◌∙◌, subst}
use mathlib.Core.Bool.{Bool, true}
use mathlib.Core.List.{List, [], map}
use Prim.Native.Nat.{ℕ, ◌+◌, ◌≤◌}
use lib.ListN.{length}
use Rattle.laws.specs.Bytes.{AllBytes}
use Rattle.laws.specs.Once.{seen}
use Rattle.laws.specs.Pick.{pick}
use Rattle.talk.specs.RangeSeries.{Ranged}
use Rattle.talk.specs.Ranges.{Normal, AllFit}
use Rattle.talk.specs.Series.{Answer, Takes, Judged, with_keys}
use Rattle.talk.proofs.Counts.{ranged_room}
use Rattle.talk.proofs.Delivery.{wanted_same}
use Rattle.talk.proofs.Things.{each_so}
use Rattle.store.specs.Element.{same_key}
use Rattle.store.specs.Held.{storage_index}
use Rattle.order.specs.Groups.{Group, group_serial}
use Rattle.store.specs.declared.element.Key.{Key}
use Rattle.store.proofs.Chains.{same_turn}
use Rattle.request.specs.Meaning.{Filter}
use Rattle.request.specs.Message.{filters_of}
use Rattle.request.proofs.RequestFits.{known_normal}
use Rattle.pages.specs.Answer.{known_in}
use Rattle.pages.specs.Choice.{knows_key}
use Rattle.evidence.specs.Talk.{KeyFits, elements_of, groups_of, leaves_in, wanted_of, ranges_in, AnsweredAsk, ReadAs}
use Rattle.evidence.proofs.DemandTwo.{DemandTwo, demand_two}
use Rattle.evidence.proofs.Sending.{serials_fit, serials_differ}
use Rattle.store.proofs.Rows.{same_itself}
use Rattle.evidence.proofs.Serials.{group_range, group_keys, groups_with}

-- ---- by the request's ranges, as a list

module _ (s q : List ℕ) (room : ℕ) (b : AllBytes s) (w : List ℕ) (h : DemandTwo s q room w) where
  -- the answer takes from what they lack, and tells them with those of its page
  pub sent_ranged : Ranged group_serial group_range knows_key (groups_of s) (leaves_in s (filters_of q)) (known_in q) (record { page = h.page; marked = h.marked }) (ranges_in w)
  sent_ranged =
      record {
        rest = h.rest;
        takes = record { run = h.run; moves = h.some; mark = h.mark };
        adds = h.ranges ∙ groups_with h.page (known_in q);
      }

  -- ranges and wanted elements together do not become more
  pub sent_room : length (ranges_in w) + length (wanted_of s (filters_of q) (knows_key (ranges_in w)))
      ≤ length (known_in q) + length (wanted_of s (filters_of q) (knows_key (known_in q)))
  sent_room =
      let stands = h.store_reads in
      ranged_room same_key KeyFits group_serial group_range knows_key group_keys (groups_of s) (leaves_in s (filters_of q)) (serials_fit s b stands) same_itself same_turn
      (serials_differ s) (known_in q) (ranges_in w) _ (known_normal q []).0 sent_ranged

-- ---- by the set that is known

module _ (s : List ℕ) (b : AllBytes s) (fs : List Filter) (know know' : Key → Bool) (w : List ℕ) (r : AnsweredAsk s fs know w know') where
  pub held : DemandTwo s r.request r.room w
  held = demand_two s r.request b r.bytes r.room w r.gave

  abbrev pub answer : Answer Group
  answer = record { page = held.page; marked = held.marked }

  pub read_as : ReadAs s w answer
  read_as = (held.id, storage_index (elements_of s), held.read)

  -- as of the request's ranges
  pub answered_ranged : Ranged group_serial group_range knows_key (groups_of s) (leaves_in s fs) (known_in r.request) answer (ranges_in w)
  answered_ranged =
      subst (λ (filters : List Filter). Ranged group_serial group_range knows_key (groups_of s) (leaves_in s filters) (known_in r.request) answer (ranges_in w)) r.filters
      (sent_ranged s r.request r.room b w held)

  -- what the request's ranges lack is what the set lacks
  wanted_is : wanted_of s fs (knows_key (known_in r.request)) ≡ wanted_of s fs know
  wanted_is =
      sym
      (wanted_same group_serial (leaves_in s fs) know (knows_key (known_in r.request)) (groups_of s)
      (each_so _ _ (groups_of s) (λ g f. r.carried (group_serial g) f) (serials_fit s b held.store_reads)))

  adds : (k : Key) → KeyFits k → know' k ≡ with_keys same_key know (map group_serial held.page) k
  adds k f =
      r.told k f ∙ held.adds k f ∙ ap (λ (is : Bool). pick is true (seen same_key k (map group_serial held.page))) (sym (r.carried k f))

  pub answered_judged : Judged same_key KeyFits group_serial (groups_of s) (leaves_in s fs) know answer know'
  answered_judged =
      record {
        rest = answered_ranged.rest;
        takes = subst (λ (l : List Group). Takes l answer answered_ranged.rest) wanted_is answered_ranged.takes;
        adds = adds;
      }

  -- what the answer told can be written again
  pub ranges_fine : Normal (ranges_in w) × AllFit (ranges_in w)
  ranges_fine = (held.read.normal, held.read.fit)
