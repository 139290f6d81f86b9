-- The cases of the answering calls, in the words of document 01's table: what is asked where both inputs are read, when an input is
-- over-long, when the smallest page is too much, and what is sent where nothing is refused. The laws of proofs/PageCases and
-- proofs/Refusing say that both calls follow them exactly.
-- Assumes nothing.
use Rattle.std.specs.Prelude.{◌≡◌, List, [], ◌⊎◌, ℕ, ◌≤◌, ◌<◌, min, length}
use Rattle.numbers.specs.Refusals.{longest_input}
use Rattle.talk.specs.Page.{Greatest}
use Rattle.talk.specs.declared.range.Range.{Range}
use Rattle.store.specs.Store.{store_walk, Stands}
use Rattle.store.specs.declared.element.Element.{Element}
use Rattle.request.specs.Message.{request_in}
use Rattle.request.specs.Results.Request as request
use Rattle.pages.specs.Decision.{sendable}
use Rattle.pages.specs.Answer.{Ask, page_ranges, page_bytes, page_measure, ask_of}

-- both inputs read, and this is asked
pub record Asks (s q : List ℕ) (a : Ask) : Type 0 where
  pub id : ℕ
  pub limit : ℕ
  pub place : ℕ
  pub count : ℕ
  pub known : ℕ
  pub store_reads : Stands (store_walk s).last
  pub request_reads : request_in q [] ≡ request.Asked id limit place count known
  pub asked : a ≡ ask_of s (store_walk s).elements q id limit

-- 1: "an input is over 16,777,216 bytes"; the request's comes after all of the store's faults
abbrev pub OverLong : List ℕ → List ℕ → Type 0
OverLong s q = (longest_input < length s) ⊎ (Stands (store_walk s).last × (longest_input < length q))

-- "the page of 1 (of 0, if nothing is wanted)": 14 "reports the length for the first group" (document 02, Q-3)
abbrev pub smallest : Ask → ℕ
smallest a = min 1 (length a.wanted)

-- a page of 1 does not need more ranges than a page may carry
abbrev pub Few : Ask → Type 0
Few a = 0 < length a.wanted → length (page_ranges a 1) ≤ a.most

-- 14: this is asked, and its smallest page does not fit, though it does not need too many ranges
pub record TooShort (s q : List ℕ) (room : ℕ) (a : Ask) : Type 0 where
  pub asks : Asks s q a
  pub few : Few a
  pub needs : room < length (page_bytes a (smallest a))

-- where nothing is refused, the greatest page is sent: its bytes w, with all of the store's elements and the page's ranges for the tables
pub record Sends (a : Ask) (room : ℕ) (w : List ℕ) (all : List Element) (l : List Range) : Type 0 where
  pub count : ℕ
  pub greatest : Greatest (sendable a.most a.limit room (page_measure a)) (length a.wanted) count
  pub bytes_are : w ≡ page_bytes a count
  pub elements_are : all ≡ a.elements
  pub ranges_are : l ≡ page_ranges a count
