-- Why the bench's calls give a refusal: the first fault of the inputs in their order, or else what falls on no item.
-- Assumes nothing.
use Rattle.std.specs.Prelude.{◌≡◌, List, ℕ, ◌≤◌, ◌<◌, length}
use Rattle.numbers.specs.Refusals.{fault_at, too_short, longest_input}
use Rattle.numbers.specs.declared.refusal.Refusal.{Refusal}
use Rattle.objects.specs.Results.Reading.{Refused}
use Rattle.store.specs.Store.{store_walk, Stands}
use Rattle.request.specs.Message.{in_request}
use Rattle.client.specs.AskWritten.{ask_bytes}
use Rattle.client.specs.Ask.{filters_given, knowledge_given}
use Rattle.client.specs.Read.{package_in, answer_end}

-- why writing a request of the filters f and the knowledge k into an output of so many bytes refuses with r
pub data WhyAsk (id limit : ℕ) (f k : List ℕ) (room : ℕ) (r : Refusal) : Type 0 where
  -- the first fault that reading the filters meets
  filters : filters_given f ≡ Refused r → WhyAsk id limit f k room r
  -- the filters are read, and this is the first fault that reading the knowledge meets, which is the second input
  knowledge : (x : Refusal) → Stands (filters_given f) → knowledge_given k ≡ Refused x → r ≡ in_request x → WhyAsk id limit f k room r
  -- both are read: the request itself would be over 16,777,216 bytes
  long : Stands (filters_given f) → Stands (knowledge_given k) → longest_input < length (ask_bytes id limit f k) → r ≡ fault_at 1 0
      → WhyAsk id limit f k room r
  -- the output is shorter than the request, whose length is the needed one
  short : Stands (filters_given f) → Stands (knowledge_given k) → length (ask_bytes id limit f k) ≤ longest_input → room < length (ask_bytes id limit f k)
      → r ≡ too_short (length (ask_bytes id limit f k)) → WhyAsk id limit f k room r

-- why reading the answer w refuses with r: the first fault that is met
abbrev pub WhyRead : List ℕ → Refusal → Type 0
WhyRead w r = answer_end w ≡ Refused r

-- why asking for the element at the position i of s, a store (kind 0) or an answer (another kind), refuses with r
pub data WhyElement (kind : ℕ) (s : List ℕ) (i : ℕ) (r : Refusal) : Type 0 where
  -- the first fault that reading the store meets
  store : kind ≡ 0 → (store_walk s).last ≡ Refused r → WhyElement kind s i r
  -- or the answer
  answer : (kind ≡ 0 → ⊥) → answer_end s ≡ Refused r → WhyElement kind s i r
  -- it is read, and there are no more elements than i: 9, "a position past the last element"
  past_store : kind ≡ 0 → Stands (store_walk s).last → length (store_walk s).elements ≤ i → r ≡ fault_at 9 0 → WhyElement kind s i r
  past_answer : (kind ≡ 0 → ⊥) → Stands (answer_end s) → length (package_in s).elements ≤ i → r ≡ fault_at 9 0 → WhyElement kind s i r
