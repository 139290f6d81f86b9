-- A talk, over bytes: "Take one store, one list of filters and a first knowledge .. The client asks again with the last answer's
-- knowledge, under limits and buffers that may differ each time; refused asks change nothing and are not counted." What is known is a
-- set of serial numbers; a request carries it in any form. That requests are bytes (`AllBytes`) holds of every slice of bytes.
-- Assumes nothing.
use Rattle.std.specs.Prelude.{◌≡◌, Bool, true, List, [], ◌∷◌, ℕ, ◌-◌, ◌^◌, ◌<◌}
use Rattle.laws.specs.Bytes.{AllBytes}
use Rattle.numbers.specs.Results.ExtendedGuid.{ExtendedGuid}
use Rattle.talk.specs.Series.{Answer, Trace}
use Rattle.talk.specs.Wanted.{wanted}
use Rattle.talk.specs.declared.range.Range.{Range}
use Rattle.store.specs.Knowledge.{most_said}
use Rattle.store.specs.Store.{store_walk}
use Rattle.store.specs.declared.element.Element.{Element}
use Rattle.store.specs.declared.element.Key.{Key}
use Rattle.order.specs.Order.{ordered}
use Rattle.order.specs.Groups.{Group, members, members_of, group_serial, groups, some_of}
use Rattle.request.specs.Meaning.{Filter, left_in}
use Rattle.request.specs.Message.{filters_of, request_knowing}
use Rattle.pages.specs.Answer.{known_in}
use Rattle.pages.specs.Choice.{knows_key}
use Rattle.client.specs.Read.{package_end, mark_at, knowledge_in}
use Rattle.client.specs.Back.{ReadsBack}
use Rattle.evidence.specs.Calling.{GivesAnswer, GivesRefusal}

-- ---- what is wanted

-- a serial number whose GUID is sixteen bytes
abbrev pub KeyFits : Key → Type 0
KeyFits k = (k.low < 2 ^ 64) × (k.high < 2 ^ 64)

abbrev pub serial_of : Element → Key
serial_of x = x.serial

-- the elements of the store
abbrev pub elements_of : List ℕ → List Element
elements_of s = (store_walk s).elements

-- in row order: 'Demands 2 and 3 read "row order" for "store order"' (document 02, Q-14)
abbrev pub in_row_order : List ℕ → List Element
in_row_order s = ordered (elements_of s)

-- and those with an equal serial number as a group: "Demands 2 and 3 take groups in this order; n counts groups" (document 02, Q-3)
abbrev pub groups_of : List ℕ → List Group
groups_of s = groups (in_row_order s)

-- "The filters let a group in as soon as they let one member in."
abbrev pub leaves_in : List ℕ → List Filter → Group → Bool
leaves_in s fs g = some_of (λ (x : Element). left_in fs (elements_of s) x true) (members g)

-- "Wanted = filters leave it in, and the knowledge lacks its serial number", of groups
abbrev pub wanted_of : List ℕ → List Filter → (Key → Bool) → List Group
wanted_of s fs know = wanted group_serial (leaves_in s fs) know (groups_of s)

-- ---- what is known

-- ranges that are a set
abbrev pub SameSet : (Key → Bool) → List Range → Type 0
SameSet know l = (k : Key) → KeyFits k → know k ≡ knows_key l k

-- how many ranges and entries the knowledge of a request has: `left` is how many could still come
abbrev pub said_in : List ℕ → ℕ
said_in q = most_said - (request_knowing q []).left

-- what a bench reads in an answer: the ranges of its knowledge
abbrev pub ranges_in : List ℕ → List Range
ranges_in w = (knowledge_in w (mark_at w (package_end w))).ranges

-- ---- the talk

-- an ask that is answered with the bytes w: by any request with these filters that carries the set, into a buffer of any length, or into
-- one of the length that was told where any was offered; what is known afterwards is what the answer tells
pub record AnsweredAsk (s : List ℕ) (fs : List Filter) (know : Key → Bool) (w : List ℕ) (know' : Key → Bool) : Type 0 where
  pub request : List ℕ
  pub room : ℕ
  pub bytes : AllBytes request
  pub filters : filters_of request ≡ fs
  pub carried : SameSet know (known_in request)
  pub gave : GivesAnswer s request room w
  pub told : SameSet know' (ranges_in w)

-- an ask that is refused changes nothing
pub record RefusedAsk (s : List ℕ) (know know' : Key → Bool) : Type 0 where
  pub request : List ℕ
  pub room : ℕ
  pub number : ℕ
  pub gave : GivesRefusal s request room number
  pub same : know ≡ know'

abbrev pub Talk : List ℕ → List Filter → (Key → Bool) → List (List ℕ) → (Key → Bool) → Type 0
Talk s fs know answers know' = Trace (AnsweredAsk s fs) (RefusedAsk s) know answers know'

-- ---- what a bench reads

-- w is read as the answer a: its elements are the members of the page's groups, each group whole, with their stored bytes and in their
-- order, and its mark is a's
abbrev pub ReadAs : List ℕ → List ℕ → Answer Group → Type 0
ReadAs s w a = (id : ℕ) × (index : ExtendedGuid) × ReadsBack s id index (members_of a.page) a.marked (ranges_in w) w

-- and so each of the answers
abbrev pub AllReadAs : List ℕ → List (List ℕ) → List (Answer Group) → Type 0
AllReadAs s [] [] = Unit {0}
AllReadAs s (w ∷ ws) (a ∷ answers) = ReadAs s w a × AllReadAs s ws answers
AllReadAs s [] (a ∷ answers) = ⊥
AllReadAs s (w ∷ ws) [] = ⊥
