-- The page that was decided by the working tables is the page of document 01, of groups as document 02, Q-3, has it, and what then stands
-- ready to be sent is its answer.
-- Assumes nothing.
use mathlib.Core.Path.{◌≡◌, refl, sym, ap, ◌∙◌}
use mathlib.Core.Bool.{Bool}
use mathlib.Core.List.{List, map}
use Prim.Native.Nat.{ℕ, ◌+◌, ◌≤◌}
use native.Mathlib.Omega.{arith}
use lib.ListN.{length, take, length-map}
use Rattle.std.specs.Prelude.{Err}
use Rattle.numbers.specs.Results.ExtendedGuid.{ExtendedGuid}
use Rattle.talk.specs.Each.{Each}
use Rattle.talk.proofs.Things.{each_so}
use Rattle.order.specs.Groups.{Group, members, members_of}
use Rattle.order.specs.Links.{lump}
use Rattle.order.specs.Queue.{queued_in, Queued}
use Rattle.ranges.specs.RangeTable.{ranges_at}
use Rattle.store.specs.Knowledge.{most_said}
use Rattle.store.specs.Store.{store_walk}
use Rattle.store.specs.declared.element.Element.{Element}
use Rattle.ranges.proofs.RangeRows.{length_rows}
use Rattle.store.specs.Tables.{elements_in}
use Rattle.store.specs.Held.{storage_index, ranges_with, StoreHeld}
use Rattle.request.specs.Message.{filters_of}
use Rattle.pages.specs.Tables.{fixed_length, table_measure, Carries, SendsRows, DecidesGroups, sent_bytes}
use Rattle.pages.specs.Answer.{Ask, refused, answered, page_ranges, page_bytes, page_measure, on_decided, page_decided, page_outcome, known_in}
use Rattle.pages.specs.Held.{RequestHeld, ask_in, groups_wanted, bounds_for, reckoned_on, Ready}
use Rattle.pages.specs.Decision.{unsent_refusal}
use Rattle.pages.specs.declared.page.Unsent.{Unsent}
use Rattle.pages.specs.Results.Decided.{Decided, Sent}
use Rattle.pages.specs.declared.deciding.Asked.{Asked}
use Rattle.pages.specs.Results.Reckoned as reckoned
use Rattle.pages.specs.declared.write.Sending.{Sending}
use Rattle.pages.proofs.Stops.{Sends, sent_law}
use Rattle.pages.proofs.Chosen.{groups_are_wanted}
use Rattle.pages.proofs.Growing.{wanted_each}
use Rattle.pages.proofs.Lengths.{AllWithin}
use Rattle.pages.proofs.Lumps.{ranges_first_lumps, page_measured}

-- ---- what is measured: by the tables, and by the bytes

module _ (s q : List ℕ) (a : Asked) (rows ids known : List ℕ) (n : ℕ) (h : StoreHeld s rows ids n) (g : RequestHeld q a known) where
  abbrev ask : Ask
  ask = ask_in s q a

  -- the members of wanted groups lie within the store
  wanted_within : Each (λ (y : Group). AllWithin s (members y)) ask.wanted
  wanted_within =
      wanted_each (λ (x : Element). x.place + x.length ≤ length s) (filters_of q) (known_in q) (store_walk s).elements
      (each_so _ _ (store_walk s).elements (λ x f. f.0) h.fits)

  measure_same : table_measure (fixed_length a.id (storage_index (store_walk s).elements)) (known_in q) (map lump ask.wanted) ≡ page_measure ask
  measure_same = sym (page_measured ask wanted_within)

  -- ---- those that are wanted, and the decision

  pub groups_asked : groups_wanted q a (ranges_at known 0 a.known) (elements_in rows ids n) ≡ ask.wanted
  groups_asked = rw (h.held, g.held) (groups_are_wanted q a (known_in q) (store_walk s).elements ∙ rw g.filters)

  pub page_decided_lem : (room : ℕ) (index : ExtendedGuid) (r : Decided) (m : ℕ) (queue t : List ℕ)
      → DecidesGroups rows ids (groups_wanted q a (ranges_at known 0 a.known) (elements_in rows ids n)) (ranges_at known 0 a.known) (bounds_for a index room) r m queue t
      → index ≡ storage_index (store_walk s).elements
      → (r ≡ page_decided ask room) × Carries (map lump ask.wanted) (known_in q) r t × SendsRows rows ids queue ask.wanted r m
  unfolding page_decided
  page_decided_lem room index r m queue t d c =
      let w = groups_asked in
      let l = g.held in
      (rw (w, l, c, measure_same, length-map ask.wanted lump) at d.0.0, rw (w, l) at d.0.1, rw w at d.1)

  -- ---- what is answered, into an output of so many bytes

  pub page_unsent : (room : ℕ) (d : Decided) (x : Unsent) → d ≡ Err x → d ≡ page_decided ask room
      → (reckoned.Refused (unsent_refusal x) ≡ reckoned_on ask (page_decided ask room)) × (page_outcome ask room ≡ refused (unsent_refusal x))
  unfolding page_outcome on_decided reckoned_on
  page_unsent room d x e f = rw (← f, e) (refl, refl)

  -- the page of k groups stands ready: what is written is its answer, and it fits
  module _ (room : ℕ) (d : Decided) (k whole count : ℕ) (more : Bool) (e : d ≡ Sent k whole count more) (f : d ≡ page_decided ask room)
      (m : ℕ) (queue t : List ℕ) (c : Carries (map lump ask.wanted) (known_in q) d t) (v : SendsRows rows ids queue ask.wanted d m)
      (long : length t ≡ length known) (index : ExtendedGuid) (x : index ≡ storage_index (store_walk s).elements) where
    abbrev page : Sending
    page = record { count = m; id = a.id; index = index; partial = more; ranges = count }

    sent_is : Sends a.most a.limit room (page_measure ask) (length ask.wanted) k whole count more
    unfolding page_decided
    sent_is = sent_law a.most a.limit room (page_measure ask) (length ask.wanted) k whole count more (sym f ∙ e)

    known_count : a.known ≡ length (known_in q)
    known_count = sym (length_rows known 0 a.known) ∙ ap length g.held

    ranges_sent : ranges_at t 0 count ≡ page_ranges ask k
    unfolding page_ranges
    ranges_sent = (rw e at c) ∙ ranges_first_lumps k ask.wanted (known_in q)

    -- those that are queued first are the members of its groups
    rows_sent : (m ≡ length (members_of (take k ask.wanted))) × Queued rows ids queue m × (queued_in rows ids m queue ≡ members_of (take k ask.wanted))
    rows_sent = rw e at v

    -- the bytes that are written
    sent_bytes_lem : sent_bytes s rows ids queue page t ≡ page_bytes ask k
    unfolding page_bytes
    sent_bytes_lem = rw (rows_sent.2, ranges_sent, sent_is.more_is, x)

    sent_few : count ≤ most_said
    unfolding page_measure page_ranges ranges_with
    sent_few = let z : length (known_in q) ≤ most_said = rw (← known_count) g.most in rw sent_is.ranges_are (sent_is.carries most_said z g.carried)

    sent_outcome : page_outcome ask room ≡ answered (page_bytes ask k) (store_walk s).elements (page_ranges ask k)
    unfolding page_outcome on_decided
    sent_outcome = rw (← f, e)

    pub page_reckoned : reckoned.Page page whole n ≡ reckoned_on ask (page_decided ask room)
    unfolding reckoned_on
    page_reckoned = rw (← f, e, x, h.count, rows_sent.0)

    pub page_ready : Ready (page_outcome ask room) s room page whole n rows ids t queue
    unfolding page_measure
    page_ready =
        let few : count ≤ most_said = sent_few in
        let said = g.room in
        record {
          outcome_is = rw (sent_bytes_lem, ranges_sent, h.held) sent_outcome;
          whole_is = rw sent_bytes_lem sent_is.whole_is;
          stand = h.stand;
          few = h.most;
          to_send = record {
            queued = rows_sent.1;
            few = few;
            ranges_room = omega arith;
            fits = rw sent_bytes_lem sent_is.fits;
          };
        }
