-- What the functions of the answering calls say of their working tables: a page under way, its price, pages of groups, and the part of an
-- answer between its elements and its knowledge. Nothing here is needed to read the calls' own promises.
-- Assumes nothing.
use Rattle.std.specs.Prelude.{◌≡◌, Bool, true, false, not, ℕ, ◌+◌, ◌-◌, ◌*◌, ◌^◌, ◌≤◌, ◌<◌, List, [], ◌∷◌, ◌++◌, map, length, take, leb, eqb, Ok, Err}
use Rattle.laws.specs.Pick.{pick}
use Rattle.numbers.specs.Compact.{compact_bytes}
use Rattle.numbers.specs.ExtendedGuid.{extended_guid_bytes}
use Rattle.numbers.specs.Results.ExtendedGuid.{ExtendedGuid}
use Rattle.objects.specs.Types.{package_type}
use Rattle.objects.specs.Header.{end_bytes}
use Rattle.talk.specs.Ranges.{insert}
use Rattle.talk.specs.declared.range.Range.{Range}
use Rattle.ranges.specs.RangeTable.{FirstNotBefore, ranges_at, laid_ranges, range_width, RangesStand}
use Rattle.store.specs.Knowledge.{most_said}
use Rattle.store.specs.KnowledgeWritten.{ranges_bytes}
use Rattle.store.specs.Tables.{most_elements, RowsStand, element_in_row, elements_in}
use Rattle.store.specs.Held.{serial_range, ranges_with}
use Rattle.store.specs.declared.element.Element.{Element}
use Rattle.talk.specs.Each.{Each}
use Rattle.order.specs.Rearranged.{Rearranged, Pairs}
use Rattle.order.specs.Order.{ordered}
use Rattle.order.specs.Groups.{Group, members_of, stored_length}
use Rattle.order.specs.Links.{lump, FlagsAre, chosen_groups}
use Rattle.order.specs.Queue.{chosen, queued_in, Queued}
use Rattle.request.specs.Message.{query_changes_request}
use Rattle.request.specs.Response.{sub_response_bytes}
use Rattle.pages.specs.Decision.{Measure, decision}
use Rattle.pages.specs.Written.{changes_bytes, answer_bytes}
use Rattle.pages.specs.Weighed.{sum_column, weighed_in, weighed_rows, length_place, Weighs}
use Rattle.pages.specs.declared.page.Bounds.{Bounds}
use Rattle.pages.specs.declared.page.Chosen.{Chosen}
use Rattle.pages.specs.Results.Decided.{Decided, Sent, Crowded, Short}
use Rattle.pages.specs.declared.price.Price.{Price}
use Rattle.pages.specs.declared.weighed.Column.{Column}
use Rattle.pages.specs.declared.whole.Flagged.{Flagged}
use Rattle.pages.specs.declared.write.Sending.{Sending}

-- ---- the working table of ranges as elements are taken

-- after the rows l became those with one element's serial number, and with those of several
abbrev pub laid_with : Element → List Range → List ℕ → List ℕ
laid_with x l t = laid_ranges (insert (serial_range x) l) t

unfoldable pub laid_all : List Element → List Range → List ℕ → List ℕ
laid_all [] l t = t
laid_all (x ∷ xs) l t = laid_all xs (insert (serial_range x) l) (laid_with x l t)

-- what is known of a price: where a range goes among the first `count` rows, how many rows there are then, and their bytes
pub record Priced (t : List ℕ) (count : ℕ) (x : Range) (p : Price) : Type 0 where
  pub place : FirstNotBefore t count x p.at
  pub first : p.at ≤ p.next
  pub within : p.next ≤ count
  pub spread : p.ranges ≡ p.at + 1 + (count - p.next)
  pub form : insert x (ranges_at t 0 count) ≡ ranges_at t 0 p.at ++ (p.range ∷ ranges_at t p.next (count - p.next))
  pub counted : p.ranges ≡ length (insert x (ranges_at t 0 count))
  pub priced : p.spelled ≡ length (ranges_bytes (insert x (ranges_at t 0 count)))

-- ---- deciding by the tables: the rows that are queued are wanted, in this order, each with the length that a column has for it
-- (`Weighed`). Where elements share a serial number, each of them stands for a group (`lump` of `order`)

-- an answer's length, part by part: `fixed` is its length with no element and no range, and the first range brings the 25 bytes of
-- a cell knowledge
unfoldable pub whole_of : ℕ → ℕ → ℕ → ℕ → ℕ
whole_of fixed stored ranges spelled = pick (eqb ranges 0) (fixed + stored) (fixed + 25 + stored + spelled)

unfoldable pub fixed_length : ℕ → ExtendedGuid → ℕ
fixed_length id index = 39 + length (compact_bytes id) + length (extended_guid_bytes index)

-- what the page of the first j of w asks, where l is known
abbrev pub table_measure : ℕ → List Range → List Element → Measure
table_measure fixed l w =
    record {
      stored = λ j. stored_length (take j w);
      ranges = λ j. length (ranges_with l (take j w));
      whole = λ j.
          whole_of fixed (stored_length (take j w)) (length (ranges_with l (take j w))) (length (ranges_bytes (ranges_with l (take j w))));
    }

-- what the walk says that has taken k: where the next page is not sendable, and where nothing more is wanted
unfoldable pub stopped : ℕ → ℕ → ℕ → ℕ → ℕ → ℕ → Decided
stopped most k whole ranges ranges' whole' =
    pick (eqb k 0) (pick (leb ranges' most) (Short whole') Crowded) (Sent k whole ranges true)

unfoldable pub ended : ℕ → ℕ → ℕ → ℕ → Decided
ended room k whole ranges = pick (eqb k 0) (pick (leb whole room) (Sent k whole ranges false) (Short whole)) (Sent k whole ranges false)

-- how many are sent
abbrev pub taken_in : Decided → ℕ
taken_in (Ok x) = x.count
taken_in (Err e) = 0

-- the ranges that are known, and room for as many as a page may carry
pub record ToCarry (t : List ℕ) (count most : ℕ) : Type 0 where
  pub said : count ≤ most_said
  pub most_carried : most ≤ most_said
  pub room : most * range_width ≤ length t
  pub ranges_stand : RangesStand t count

-- what choosing and deciding are lent: n elements, none of them long and none under 46 bytes, a queue with room for all of them; and the
-- ranges
pub record ToChoose (rows ids : List ℕ) (n : ℕ) (queue t : List ℕ) (count most : ℕ) : Type 0 where
  pub stand : RowsStand rows ids n
  pub few : n ≤ most_elements
  pub short : (i : ℕ) → i < n → (element_in_row rows ids i).length ≤ 2 ^ 24
  pub least : (i : ℕ) → i < n → 46 ≤ (element_in_row rows ids i).length
  pub roomy : n ≤ length queue
  pub carry : ToCarry t count most

-- what deciding is lent: a queue of w rows, none of them long; and the ranges
pub record ToDecide (rows ids lengths : List ℕ) (c : Column) (w : ℕ) (queue t : List ℕ) (count most : ℕ) : Type 0 where
  pub queued : Weighs rows ids lengths c queue w
  pub few : w ≤ most_elements
  pub short : Each (λ (x : Element). x.length ≤ 2 ^ 32) (weighed_in rows ids lengths c w queue)
  pub carry : ToCarry t count most

-- what deciding promises: the decision, and the working table at exit
abbrev pub Decides : List Element → List Range → Bounds → Decided → List ℕ → List ℕ → Type 0
Decides w l b r t t' =
    (r ≡ decision b.most b.limit b.room (table_measure b.fixed l w) (length w))
    × (t' ≡ laid_all (take (taken_in r) w) l t)

-- what deciding the page promises, by whichever way: the decision, and the ranges of a page that is sent in the first rows of the table.
-- What stands behind these rows hangs on the order in which serial numbers were put to it
abbrev pub Carries : List Element → List Range → Decided → List ℕ → Type 0
Carries w l (Ok x) t = ranges_at t 0 x.ranges ≡ ranges_with l (take x.count w)
Carries w l (Err e) t = Unit {0}

abbrev pub DecidesPage : List Element → List Range → Bounds → Decided → List ℕ → Type 0
DecidesPage w l b r t =
    (r ≡ decision b.most b.limit b.room (table_measure b.fixed l w) (length w)) × Carries w l r t

-- a page of some groups: what was decided of them, and that so many rows of a queue are the members of those that are sent
abbrev pub SendsRows : List ℕ → List ℕ → List ℕ → List Group → Decided → ℕ → Type 0
SendsRows rows ids queue gs (Ok x) n =
    (n ≡ length (members_of (take x.count gs))) × Queued rows ids queue n × (queued_in rows ids n queue ≡ members_of (take x.count gs))
SendsRows rows ids queue gs (Err e) n = Unit {0}

abbrev pub DecidesGroups : List ℕ → List ℕ → List Group → List Range → Bounds → Decided → ℕ → List ℕ → List ℕ → Type 0
DecidesGroups rows ids gs l b r n queue t = DecidesPage (map lump gs) l b r t × SendsRows rows ids queue gs r n

-- the groups with a member for which a test holds are decided, whatever test the flags are of
abbrev pub DecidesChosen : List ℕ → List ℕ → ℕ → List ℕ → List Range → Bounds → Chosen → List ℕ → List ℕ → Type 0
DecidesChosen rows ids n flags l b r queue t =
    (test : Element → Bool) → FlagsAre test rows ids n flags
    → DecidesGroups rows ids (chosen_groups test (ordered (elements_in rows ids n))) l b r.decided r.rows queue t

-- ---- taking everything at once: so many wanted elements of so many bytes, where so many ranges are known, cannot fail to be carried: each
-- brings at most one range of 36 bytes
unfoldable pub takes_all : Bounds → ℕ → ℕ → ℕ → Bool
takes_all b count wanted stored =
    pick (eqb wanted 0) false
    (pick (leb (count + wanted) b.most)
    (pick (leb stored b.limit) (leb (b.fixed + 25 + stored + 36 * (count + wanted)) b.room) false) false)

-- where nothing is known yet, all of them may be tried in another order, as nothing has to be put back where they do not fit
unfoldable pub tries_all : Bounds → ℕ → ℕ → ℕ → Bool
tries_all b count wanted stored =
    pick (eqb count 0)
    (pick (eqb wanted 0) false
    (pick (leb wanted b.most) (pick (leb stored b.limit) (leb (b.fixed + stored) b.room) false) false)) false

-- a page that no wanted element remains behind
unfoldable pub is_whole : Decided → Bool
is_whole (Ok x) = not x.more
is_whole (Err e) = false

-- what trying is lent: a queue in either order, of the same elements, none under 46 bytes, and a table of ranges of which no row counts
pub record ToTry (rows ids lengths : List ℕ) (c : Column) (count : ℕ) (tried : List ℕ) (wanted : ℕ) (queue t : List ℕ) (b : Bounds) : Type 0 where
  pub first : ToDecide rows ids lengths c count tried t 0 b.most
  pub then : ToDecide rows ids lengths c wanted queue t 0 b.most
  pub same : Rearranged (weighed_in rows ids lengths c count tried) (weighed_in rows ids lengths c wanted queue)
  pub some : 0 < count
  pub few : count ≤ b.most
  pub least : Each (λ (x : Element). 46 ≤ x.length) (weighed_in rows ids lengths c wanted queue)

-- what deciding by flags is lent: n rows with their flags, and a queue of those whose flag is not 0, in any order, none of them long and
-- none under 46 bytes; and the ranges
pub record ToWeigh (rows ids : List ℕ) (n : ℕ) (lengths : List ℕ) (c : Column) (flags queue : List ℕ) (wanted : ℕ) (t : List ℕ) (count most : ℕ) : Type 0 where
  pub stand : RowsStand rows ids n
  pub few : n ≤ most_elements
  pub flagged : n ≤ length flags
  pub column : (i : ℕ) → i < n → length_place c i < length lengths
  pub queued : Weighs rows ids lengths c queue wanted
  pub wanted_few : wanted ≤ most_elements
  pub same : Rearranged (chosen (weighed_rows rows ids lengths c n) flags) (weighed_in rows ids lengths c wanted queue)
  pub short : Each (λ (x : Element). x.length ≤ 2 ^ 32) (weighed_in rows ids lengths c wanted queue)
  pub least : Each (λ (x : Element). 46 ≤ x.length) (weighed_in rows ids lengths c wanted queue)
  pub carry : ToCarry t count most

-- what deciding by sums is lent: n rows, a table with a sum for each, and a queue of those that stand for groups, no two of them the same;
-- none of the sums is long, and none under 46 bytes; and the ranges
pub record ToSum (rows ids : List ℕ) (n : ℕ) (sums earliest : List ℕ) (wanted : ℕ) (t : List ℕ) (count most : ℕ) : Type 0 where
  pub stand : RowsStand rows ids n
  pub few : n ≤ most_elements
  pub sums_long : n ≤ length sums
  pub long : wanted ≤ length earliest
  pub wanted_few : wanted ≤ most_elements
  pub inside : Each (λ (i : ℕ). i < n) (take wanted earliest)
  pub apart : Pairs (λ (i j : ℕ). i ≡ j → ⊥) (take wanted earliest)
  pub short : Each (λ (x : Element). x.length ≤ 2 ^ 32) (weighed_in rows ids sums sum_column wanted earliest)
  pub least : Each (λ (x : Element). 46 ≤ x.length) (weighed_in rows ids sums sum_column wanted earliest)
  pub carry : ToCarry t count most

-- those elements in the first positions of a queue, counted and their lengths summed
pub record Gathered (rows ids lengths : List ℕ) (c : Column) (xs : List Element) (queue : List ℕ) (f : Flagged) : Type 0 where
  pub counted : f.count ≡ length xs
  pub summed : f.stored ≡ stored_length xs
  pub few : f.count ≤ most_elements
  pub small : f.stored ≤ 2 ^ 32 * most_elements
  pub queued : Weighs rows ids lengths c queue f.count
  pub light : Each (λ (x : Element). x.length ≤ 2 ^ 32) (weighed_in rows ids lengths c f.count queue)
  pub are : weighed_in rows ids lengths c f.count queue ≡ xs

-- ---- sending a page that was decided

-- the answer: the first of those that are queued, and the ranges of the first rows
abbrev pub sent_bytes : List ℕ → List ℕ → List ℕ → List ℕ → Sending → List ℕ → List ℕ
sent_bytes store rows ids queue page table =
    answer_bytes store page.id page.index (queued_in rows ids page.count queue) page.partial (ranges_at table 0 page.ranges)

-- what sending is lent: a queue of the page's elements, the rows of ranges, and room for the answer
pub record ToSend (store rows ids queue : List ℕ) (page : Sending) (table : List ℕ) (room : ℕ) : Type 0 where
  pub queued : Queued rows ids queue page.count
  pub few : page.ranges ≤ most_said
  pub ranges_room : page.ranges * range_width ≤ length table
  pub fits : length (sent_bytes store rows ids queue page table) ≤ room

-- ---- an answer as it is laid: from behind the last element to the knowledge

unfoldable pub answer_middle : ℕ → ExtendedGuid → Bool → List ℕ
answer_middle id index partial = end_bytes package_type ++ (sub_response_bytes query_changes_request id ++ changes_bytes index partial)
