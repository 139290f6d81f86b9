-- Demand 2: "Reading and writing agree with MS-FSSHTTPB as document 01 condenses it. An answer carries, in store order and with their
-- stored bytes, the longest page, by limit, buffer and range count, of elements that the filters let in and the client's knowledge
-- lacks. Its knowledge is the client's with exactly those serial numbers added. It is marked partial exactly when a wanted element
-- remains." It holds of every answer that a call gives, in either form (`GivesAnswer`; of the exported one with a report that has room for
-- the answer's length), whatever bytes the store and the request are. That what is written reads back, of the other items too, are laws
-- of their crates, which docs/PROMISES.md lists. A reader needs the record, whose lines are the demand's, and the statement of
-- `demand_two` below it.
-- Assumes nothing.
use mathlib.Core.Path.{◌≡◌, sym, ◌∙◌, subst}
use mathlib.Core.Bool.{Bool}
use mathlib.Core.List.{List, [], ◌++◌, map}
use Prim.Native.Nat.{ℕ}
use lib.ListN.{length}
use Rattle.laws.specs.Bytes.{AllBytes}
use Rattle.talk.specs.Page.{Greatest}
use Rattle.talk.specs.Series.{is_some, with_keys}
use Rattle.store.specs.Element.{same_key}
use Rattle.order.specs.Groups.{Group, members_of, group_serial, firsts}
use Rattle.store.specs.declared.element.Key.{Key}
use Rattle.store.specs.Store.{store_walk, Stands}
use Rattle.store.specs.Held.{ranges_with, storage_index}
use Rattle.request.specs.Message.{filters_of, request_in}
use Rattle.request.specs.Results.Request.{Asked}
use Rattle.pages.specs.Answer.{Ask, ask_of, known_in, page_measure}
use Rattle.pages.specs.Choice.{knows_key, lets_group, wanted_in}
use Rattle.pages.specs.Decision.{most_carried, sendable}
use Rattle.pages.specs.Written.{answer_bytes}
use Rattle.client.specs.Back.{ReadsBack}
use Rattle.evidence.specs.Calling.{GivesAnswer}
use Rattle.evidence.specs.Talk.{KeyFits, elements_of, wanted_of, ranges_in}
use Rattle.evidence.proofs.Sending as sending

-- the answer w to the request q on the store s, where a buffer of so many bytes was lent or offered
pub record DemandTwo (s q : List ℕ) (room : ℕ) (w : List ℕ) : Type 0 where
  -- both were read, and these are the request's own id and limit
  pub id : ℕ
  pub limit : ℕ
  pub place : ℕ
  pub count : ℕ
  pub known : ℕ
  pub store_reads : Stands (store_walk s).last
  pub request_reads : request_in q [] ≡ Asked id limit place count known
  pub page : List Group
  pub rest : List Group
  pub marked : Bool
  -- "Reading and writing agree with MS-FSSHTTPB as document 01 condenses it": these are the bytes of document 01's answer, and a bench
  -- reads in them the id, the storage index, exactly the members of the page's groups in their order, each group whole, "with their stored
  -- bytes", the mark and the knowledge
  pub written : w ≡ answer_bytes s id (storage_index (elements_of s)) (members_of page) marked (ranges_in w)
  pub read : ReadsBack s id (storage_index (elements_of s)) (members_of page) marked (ranges_in w) w
  -- "in store order", which Q-14 of document 02 makes row order, ".. of elements that the filters let in and the client's knowledge
  -- lacks", which Q-3 makes groups: the first of them, none passed over
  pub run : page ++ rest ≡ wanted_of s (filters_of q) (knows_key (known_in q))
  -- "the longest page, by limit, buffer and range count": the greatest k such that every page of 1 to k may be sent
  pub longest : Greatest (sendable most_carried limit room (page_measure (ask_of s (elements_of s) q id limit))) (length (wanted_of s (filters_of q) (knows_key (known_in q)))) (length page)
  -- it has something unless nothing is wanted: no answer is marked partial with nothing in it
  pub some : is_some page ≡ is_some (wanted_of s (filters_of q) (knows_key (known_in q)))
  -- "Its knowledge is the client's with exactly those serial numbers added."
  pub adds : (k : Key) → KeyFits k → knows_key (ranges_in w) k ≡ with_keys same_key (knows_key (known_in q)) (map group_serial page) k
  -- as a list: each put into the client's ranges, ordered and joined as document 01 says
  pub ranges : ranges_in w ≡ ranges_with (known_in q) (firsts page)
  -- "It is marked partial exactly when a wanted element remains."
  pub mark : marked ≡ is_some rest

pub demand_two : (s q : List ℕ) → AllBytes s → AllBytes q → (room : ℕ) (w : List ℕ) → GivesAnswer s q room w → DemandTwo s q room w
unfolding wanted_in lets_group
demand_two s q b d room w g =
    let takes = sending.takes s q b d room w g in
    let ask : Ask = sending.ask s q b d room w g in
    record {
      id = ask.id;
      limit = ask.limit;
      place = _;
      count = _;
      known = _;
      store_reads = sending.store_reads s q b d room w g;
      request_reads = sending.request_reads s q b d room w g;
      page = sending.page s q b d room w g;
      rest = sending.rest s q b d room w g;
      marked = sending.marked s q b d room w g;
      written = sending.bytes_are s q b d room w g;
      read = sending.reads s q b d room w g;
      run = takes.run;
      longest =
          subst (λ (n : ℕ). Greatest (sendable ask.most ask.limit room (page_measure ask)) (length ask.wanted) n) (sym (sending.page_length s q b d room w g))
          (sending.greatest s q b d room w g);
      some = takes.moves;
      adds = sending.adds s q b d room w g;
      ranges = sending.ranges_told s q b d room w g ∙ sending.ranges_are s q b d room w g;
      mark = takes.mark;
    }
