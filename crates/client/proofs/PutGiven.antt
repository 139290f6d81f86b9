-- The elements that are handed in to be put: an over-long input is refused, and what was judged well is elements and nothing else. Then
-- what writing answers, case by case.
-- Assumes nothing.
use mathlib.Core.Path.{◌≡◌, refl, ◌∙◌}
use mathlib.Core.Bool.{true, false}
use mathlib.Core.List.{List, [], ◌∷◌, ◌++◌}
use Prim.Native.Nat.{ℕ, zero, suc, ◌+◌, ◌≤◌, ◌<◌}
use native.Mathlib.Omega.{arith}
use lib.ListN.{length}
use borrow.Author.Tests.{lt-ltb, le-ltb}
use Rattle.laws.proofs.Cases.{by_bool, by_lt, impossible}
use Rattle.numbers.specs.Refusals.{longest_input, over_long}
use Rattle.numbers.specs.Results.ExtendedGuid.{ExtendedGuid}
use Rattle.numbers.specs.declared.refusal.Refusal.{Refusal}
use Rattle.numbers.specs.Results.Wrote.{Wrote}
use Rattle.numbers.specs.Results.Wrote as wrote
use Rattle.objects.specs.Steps.{valued, start_here, next_is, Good}
use Rattle.objects.specs.Results.Reading.{At, Reading, Refused}
use Rattle.objects.proofs.Keep.{good_front, onward_valued}
use Rattle.objects.proofs.InputFaults.{InputFault, input_fault}
use Rattle.store.specs.Element.{element_at, ids_in}
use Rattle.store.specs.Store.{on_element, elements_walk, packaged_of}
use Rattle.store.specs.declared.element.Element.{Element}
use Rattle.store.specs.Results.ReadElement.{ReadElement}
use Rattle.store.specs.Results.ReadElement as element
use Rattle.store.specs.Results.Packaged as packaged
use Rattle.store.proofs.Alone.{elements_good}
use Rattle.store.proofs.Walks.{elements_end, elements_over, elements_more}
use Rattle.request.specs.Filter.{request_padding}
use Rattle.puts.specs.Put.{put_strictness}
use Rattle.client.specs.Ask.{no_more, written_in, judged_first, ask_output, WroteAs}
use Rattle.client.specs.PutWritten.{put_bytes, given_walk, elements_given, put_wrote, WritesPut}
use Rattle.client.proofs.AskFaults.{good_no_more}
use Rattle.client.proofs.AskGiven.{started, too_many, valued_next}

-- ---- judging

pub given_long : (s : List ℕ) → longest_input < length s → Refused over_long ≡ elements_given s
unfolding elements_given
given_long s h = rw (lt-ltb _ _ h)

on_refused : (n : ℕ) (s : List ℕ) (c : Reading) (r : Refusal) → packaged.Refused r ≡ packaged_of n c → Refused r ≡ no_more 0x15 0x01 s (valued 0 c)
unfolding packaged_of valued no_more
on_refused n s (At e v) r h = impossible (cc)
on_refused n s (Refused q) r h = cc

pub given_refused : (n : ℕ) (s : List ℕ) (r : Refusal) → length s ≤ longest_input → packaged.Refused r ≡ packaged_of n (given_walk s).last → Refused r ≡ elements_given s
unfolding elements_given
given_refused n s r l h = rw (le-ltb _ _ l) (on_refused n s (given_walk s).last r h)

on_holds : (n m e : ℕ) (s : List ℕ) (c : Reading) → packaged.Holds e m ≡ packaged_of n c → no_more 0x15 0x01 s (At e 0) ≡ no_more 0x15 0x01 s (valued 0 c)
unfolding packaged_of valued
on_holds n m e s (At p v) h = let z : e ≡ p = grind arith in rw z
on_holds n m e s (Refused r) h = impossible (cc)

pub given_holds : (n m e : ℕ) (s : List ℕ) → length s ≤ longest_input → packaged.Holds e m ≡ packaged_of n (given_walk s).last → no_more 0x15 0x01 s (At e 0) ≡ elements_given s
unfolding elements_given
given_holds n m e s l h = rw (le-ltb _ _ l) (on_holds n m e s (given_walk s).last h)

-- ---- what was judged well

pub elements_short : (s : List ℕ) (p v : ℕ) → elements_given s ≡ At p v → length s ≤ longest_input
unfolding elements_given
elements_short s p v h =
    by_lt longest_input (length s) (λ l. let z : Refused over_long ≡ At p v = rw (lt-ltb _ _ l) at h in impossible (cc)) (λ l. l)

good_elements : (s : List ℕ) → Good s (given_walk s).last
good_elements s = elements_good put_strictness 256 s [] (At 0 0) (good_front s 0)

-- what was read is all of it, to the last byte
pub record AllElements (s : List ℕ) : Type 0 where
  pub value : ℕ
  pub read : (given_walk s).last ≡ At (length s) value

-- no element stands where reading them ended
on_stopped : (left : ℕ) (s : List ℕ) (done : List Element) (r : ReadElement) (q v : ℕ)
    → ((x : Element) → (elements_walk put_strictness left s (done ++ (x ∷ [])) (At (x.place + x.length) 0)).last ≡ At q v → next_is s 0x01 (At q v) ≡ false)
    → (on_element (λ more e. elements_walk put_strictness left s more e) done r).last ≡ At q v → next_is s 0x01 (At q v) ≡ false
on_stopped left s done (element.Is x) q v more h = more x h
on_stopped left s done (element.Refused r) q v more h = impossible (cc)

stopped : (left : ℕ) (s : List ℕ) (done : List Element) (c : Reading) (q v : ℕ) → (elements_walk put_strictness left s done c).last ≡ At q v → next_is s 0x01 (At q v) ≡ false
stopped zero s done c q v h =
    by_bool (next_is s 0x01 c) (λ b. too_many s 0x15 0x01 c q v (rw (elements_over put_strictness s done c b) at h))
    (λ b. let z : c ≡ At q v = rw (elements_end put_strictness 0 s done c b) at h in rw (← z) b)
stopped (suc left) s done c q v h =
    by_bool (next_is s 0x01 c)
    (λ b.
    on_stopped left s done (element_at put_strictness (ids_in done) s c) q v
    (λ x i. stopped left s (done ++ (x ∷ [])) (At (x.place + x.length) 0) q v i)
    (rw (elements_more put_strictness left s done c b (element_at put_strictness (ids_in done) s c) refl) at h))
    (λ b. let z : c ≡ At q v = rw (elements_end put_strictness (suc left) s done c b) at h in rw (← z) b)

none_left : (s : List ℕ) (c : Reading) (q v : ℕ) → (given_walk s).last ≡ c → Good s c → no_more 0x15 0x01 s (valued 0 c) ≡ At q v → AllElements s
unfolding no_more valued
none_left s (At e w) q v i g h =
    by_lt e (length s)
    (λ l.
    let z : start_here request_padding s 0x15 0x01 true true (At e 0) ≡ At q v = rw (lt-ltb _ _ l) at h in
    let a : next_is s 0x01 (At e 0) ≡ false = valued_next s 0x01 0 (At e w) e 0 refl (stopped 256 s [] (At 0 0) e w i) in
    let b : next_is s 0x01 (At e 0) ≡ true = started s 0x15 0x01 true true e 0 q v z in
    impossible (cc))
    (λ l. let z : e ≡ length s = omega arith in record { value = w; read = i ∙ rw z })
none_left s (Refused r) q v i g h = impossible (cc)

pub elements_whole : (s : List ℕ) (q v : ℕ) → elements_given s ≡ At q v → AllElements s
unfolding elements_given
elements_whole s q v h =
    none_left s (given_walk s).last q v refl (good_elements s) (rw (le-ltb _ _ (elements_short s q v h)) at h)

-- a fault is 1 where they are over-long, else one of their layout
pub elements_fault : (s : List ℕ) (r : Refusal) → elements_given s ≡ Refused r → InputFault longest_input s r
unfolding elements_given
elements_fault s r h =
    let c = (given_walk s).last in
    input_fault longest_input s (elements_given s) (no_more 0x15 0x01 s (valued 0 c)) r (λ l. rw (lt-ltb longest_input (length s) l))
    (λ l. rw (le-ltb longest_input (length s) l)) (good_no_more 0x15 0x01 s _ ((onward_valued s 0 c).good (good_elements s))) h

-- ---- what writing answers

module _ (id : ℕ) (x : ExtendedGuid) (s out : List ℕ) where
  pub elements_refused : (r : Refusal) → elements_given s ≡ Refused r → WritesPut id x s (wrote.Refused r) out out
  unfolding put_wrote judged_first ask_output
  elements_refused r e = rw e (refl, refl)

  pub elements_judged : (p v : ℕ) (r : Wrote) (out' : List ℕ) → elements_given s ≡ At p v
      → WroteAs (written_in (length out) (put_bytes id x s)) (put_bytes id x s) r out out' → WritesPut id x s r out out'
  unfolding put_wrote judged_first
  elements_judged p v r out' e h = rw e h
