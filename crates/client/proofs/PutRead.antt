-- A put that is written reads back as exactly what was handed in: the id, the storage index that is expected, and the elements, each with
-- its own bytes.
-- Assumes nothing.
use mathlib.Core.Path.{◌≡◌, refl, sym, ap, ◌∙◌}
use mathlib.Core.Bool.{true, false}
use mathlib.Core.List.{List, [], ◌∷◌, ◌++◌, map, append_assoc, append-nil}
use Prim.Native.Nat.{ℕ, ◌+◌, ◌^◌, ◌≤◌, ◌<◌}
use native.Mathlib.Omega.{arith}
use lib.ListN.{length, take, drop, length-append, length-map}
use lib.Seq.{take-append_seam, drop-append_seam}
use borrow.Author.Tests.{le-ltb}
use Rattle.laws.proofs.Agreement.{Same, same_less, same_on, same_whole}
use Rattle.laws.proofs.Cases.{impossible}
use Rattle.numbers.specs.ExtendedGuid.{extended_guid_bytes, ExtendedGuidFits}
use Rattle.numbers.specs.Refusals.{longest_input}
use Rattle.numbers.specs.Results.ExtendedGuid.{ExtendedGuid, Null}
use Rattle.objects.specs.Header.{start_bytes, end_bytes}
use Rattle.objects.specs.Steps.{value_of, valued, run_here, next_is, on_field}
use Rattle.objects.specs.Results.Reading.{At, Reading, Refused}
use Rattle.objects.specs.Results.ReadingId as id'
use Rattle.objects.proofs.Written.{Reads, behind, reads_then, reads_skip, reads_run, id_written, finish_written}
use Rattle.objects.proofs.ObjectsWritten.{reads_start, reads_start_of_length, reads_end, next_start, next_end}
use Rattle.talk.specs.Each.{Each}
use Rattle.store.specs.Chain.{Follows, further}
use Rattle.store.specs.Element.{ids_in}
use Rattle.store.specs.Held.{stored_bytes}
use Rattle.store.specs.Store.{Walk, walked, package_start, package_walk, Stands}
use Rattle.store.specs.Written.{package_front}
use Rattle.store.specs.declared.element.Element.{Element}
use Rattle.store.proofs.Alone.{ReadAlone, elements_read, elements_most, chain_further}
use Rattle.store.proofs.Chains.{package_walked}
use Rattle.store.proofs.Taken.{element_some}
use Rattle.pages.proofs.Lengths.{extended_most}
use Rattle.request.specs.Filter.{request_padding}
use Rattle.request.specs.Message.{put_changes_request, identified, knowledge_part, id_in}
use Rattle.puts.specs.Put.{expected_field, put_fields, put_start, put_changes, additional_flags, optional_bytes, client_knowledge, before_package, put_strictness, put_package, put_end, put_front, handed_in, put_walk, put_read, put_in}
use Rattle.client.specs.AskWritten.{identified_bytes}
use Rattle.client.specs.PutWritten.{put_changes_data, put_changes_bytes, put_front_bytes, put_ends_bytes, put_bytes, given_walk, elements_given}
use Rattle.client.specs.Back.{PutBack}
use Rattle.client.proofs.AskRead.{front_identified}
use Rattle.client.proofs.PutLengths.{length_put_data}
use Rattle.client.proofs.PutGiven.{elements_whole}

-- ---- 0x5A

module _ (x : ExtendedGuid) (fits : ExtendedGuidFits x) where
  abbrev data_bytes : List ℕ
  data_bytes = put_changes_data x

  -- the null storage index, then the one that is expected, then the flags
  abbrev rest : List ℕ
  rest = extended_guid_bytes x ++ (0 ∷ [])

  abbrev first : ℕ
  first = 0 + length (extended_guid_bytes Null)

  expected_stands : drop first data_bytes ≡ rest
  unfolding put_changes_data
  expected_stands = behind data_bytes 0 (extended_guid_bytes Null) rest refl

  expected_read : expected_field data_bytes ≡ id'.At (first + length (extended_guid_bytes x)) x
  unfolding put_changes_data on_field
  expected_read =
      rw (id_written data_bytes 0 0 Null rest tt refl) (id_written data_bytes first 0 x (0 ∷ []) fits expected_stands)

  fields_whole : (put_fields data_bytes).last ≡ At (length data_bytes) 0
  unfolding put_fields on_field put_changes_data
  fields_whole =
      rw expected_read
      ((reads_skip 0 (0 ∷ [])).here data_bytes (first + length (extended_guid_bytes x)) [] (behind data_bytes first (extended_guid_bytes x) (0 ∷ []) expected_stands)
      ∙ ap (λ (n : ℕ). At n 0)
      (let a = length-append (extended_guid_bytes Null) rest in let b = length-append (extended_guid_bytes x) (0 ∷ []) in omega arith))

  data_short : length data_bytes < 2 ^ 64
  data_short = omega (arith, length_put_data x, extended_most x)

  module _ (s : List ℕ) (at u : ℕ) (t : List ℕ) (stands : drop at s ≡ put_changes_bytes x ++ t) where
    abbrev start : List ℕ
    start = start_bytes 0x5A false (length data_bytes)

    stands_apart : drop at s ≡ start ++ (data_bytes ++ t)
    unfolding put_changes_bytes
    stands_apart = stands ∙ append_assoc start data_bytes t

    put_open : put_start s (At at u) ≡ At (at + length start) (length data_bytes)
    put_open = (reads_start request_padding u 0x42 0x5A false (length data_bytes) (omega arith) data_short).here s at (data_bytes ++ t) stands_apart

    run_is : run_here s (put_start s (At at u)) ≡ data_bytes
    unfolding run_here
    run_is = rw (put_open, behind s at start (data_bytes ++ t) stands_apart) (take-append_seam data_bytes t)

    put_changes_last : (put_changes s (At at u)).last ≡ At (at + length (put_changes_bytes x)) 0
    unfolding put_changes put_changes_bytes
    put_changes_last =
        (reads_then (reads_start request_padding u 0x42 0x5A false (length data_bytes) (omega arith) data_short)
        (reads_run (λ d. (put_fields d).last) data_bytes 0 fields_whole)).here s at t stands

    put_changes_expected : (put_changes s (At at u)).expected ≡ x
    unfolding put_changes put_fields id_in
    put_changes_expected = rw (run_is, expected_read)

-- ---- from behind 0x5A to the package: nothing stands there but the sub-request's end

before_read : (s : List ℕ) (at : ℕ) (t : List ℕ) → drop at s ≡ end_bytes 0x42 ++ t → before_package s (At at 0) ≡ At (at + length (end_bytes 0x42)) 0
unfolding before_package additional_flags optional_bytes client_knowledge knowledge_part valued
before_read s at t h =
    let n : (kind : ℕ) → next_is s kind (At at 0) ≡ false = λ kind. next_end s at 0 kind 0x42 t (omega arith) h in
    rw (n 0x86, n 0x85, n 0x10, n 0x8A) ((reads_end 0 0x42 (omega arith)).here s at t h)

-- ---- the package

reads_package : (u : ℕ) → Reads (package_start request_padding 0x40) u package_front 0
unfolding package_start package_front
reads_package u = reads_then (reads_start_of_length request_padding u 0x40 0x15 true 1 (omega arith) (omega arith)) (reads_skip 1 (0 ∷ []))

package_next : (s : List ℕ) (at : ℕ) (t : List ℕ) → drop at s ≡ package_front ++ t → next_is s 0x15 (At at 0) ≡ true
unfolding package_front
package_next s at t h = next_start s at 0 0x15 true 1 ((0 ∷ []) ++ t) (omega arith) (omega arith) (h ∙ append_assoc (start_bytes 0x15 true 1) (0 ∷ []) t)

end_read : (s : List ℕ) (at : ℕ) → drop at s ≡ end_bytes 0x40 → put_end s (At at 0) ≡ At (at + length (end_bytes 0x40)) 0
unfolding put_end
end_read s at h =
    let g = end_bytes 0x40 in
    let b : drop at s ≡ g ++ [] = h ∙ sym (append-nil g) in
    rw ((reads_end 0 0x40 (omega arith)).here s at [] b) (finish_written s (at + length g) 0 (behind s at g [] b))

-- ---- the elements handed in

same_place : (p q u v : ℕ) → At p u ≡ At q v → p ≡ q
same_place p q u v e = grind arith

stands_at : (c : Reading) (p v : ℕ) → c ≡ At p v → Stands c
stands_at (At q u) p v e = tt
stands_at (Refused r) p v e = impossible (cc)

-- the bytes of an element, wherever what it stands in is set down
bytes_there : (given pre post : List ℕ) (p n : ℕ) → p + n ≤ length given → take n (drop (length pre + p) (pre ++ (given ++ post))) ≡ take n (drop p given)
bytes_there given pre post p n l =
    let t = pre ++ (given ++ post) in
    let a = same_less given 0 t (length pre) (length given) (p + n) l (same_whole given t (length pre) post (drop-append_seam pre (given ++ post))) in
    let z : 0 + p ≡ p = omega arith in
    let b : Same given p t (length pre + p) n = rw z at (same_on given 0 t (length pre) p n a) in
    sym b.same

chain_bytes : (given pre post : List ℕ) (done xs : List Element) (at e : ℕ) → Follows put_strictness given done at xs e
    → Each (λ (x : Element). stored_bytes (pre ++ (given ++ post)) (further (length pre) x) ≡ stored_bytes given x) xs
unfolding stored_bytes
chain_bytes given pre post done [] at e c = tt
chain_bytes given pre post done (x ∷ xs) at e c =
    let g = element_some put_strictness (ids_in done) given at 0 x c.0 in
    let l : x.place + x.length ≤ length given = omega arith in
    (bytes_there given pre post x.place x.length l, chain_bytes given pre post (done ++ (x ∷ [])) xs (x.place + x.length) e c.1)

-- ---- the whole

module _ (id : ℕ) (x : ExtendedGuid) (given : List ℕ) (p v : ℕ) (fits : id < 2 ^ 64) (x_Fits : ExtendedGuidFits x) (judged : elements_given given ≡ At p v)
    (s : List ℕ) (is : s ≡ put_bytes id x given) where
  -- the parts, one behind the other
  abbrev naming : List ℕ
  naming = identified_bytes put_changes_request id

  abbrev changing : List ℕ
  changing = put_changes_bytes x

  abbrev ending : List ℕ
  ending = end_bytes 0x42

  abbrev behind_elements : List ℕ
  behind_elements = end_bytes 0x15 ++ end_bytes 0x40

  abbrev elements : List Element
  elements = (given_walk given).elements

  -- places: behind the sub-request's fields, behind 0x5A, behind the sub-request, behind the package's start, behind the elements
  abbrev named : ℕ
  named = length naming

  abbrev changed : ℕ
  changed = named + length changing

  abbrev ended : ℕ
  ended = changed + length ending

  abbrev from : ℕ
  from = ended + length package_front

  abbrev to : ℕ
  to = from + length given

  apart : s ≡ naming ++ (changing ++ (ending ++ (package_front ++ (given ++ behind_elements))))
  unfolding put_bytes put_front_bytes put_ends_bytes
  apart = is ∙ simp append_assoc

  front_long : length (put_front_bytes id x) ≡ from
  unfolding put_front_bytes
  front_long =
      let a = length-append naming (changing ++ (ending ++ package_front)) in
      let b = length-append changing (ending ++ package_front) in
      let d = length-append ending package_front in
      omega (arith, a, b, d)

  changing_stands : drop named s ≡ changing ++ (ending ++ (package_front ++ (given ++ behind_elements)))
  changing_stands = rw apart (drop-append_seam naming (changing ++ (ending ++ (package_front ++ (given ++ behind_elements)))))

  ending_stands : drop changed s ≡ ending ++ (package_front ++ (given ++ behind_elements))
  ending_stands = behind s named changing _ changing_stands

  package_stands : drop ended s ≡ package_front ++ (given ++ behind_elements)
  package_stands = behind s changed ending _ ending_stands

  given_stands : drop from s ≡ given ++ behind_elements
  given_stands = behind s ended package_front _ package_stands

  end_stands : drop to s ≡ end_bytes 0x15 ++ end_bytes 0x40
  end_stands = behind s from given behind_elements given_stands

  -- up to the package
  named_is : identified put_changes_request s ≡ At named id
  named_is = front_identified put_changes_request id (omega arith) fits s _ apart

  front_is : (put_front s).last ≡ At changed 0
  front_is = rw named_is (put_changes_last x x_Fits s named id _ changing_stands)

  expected_is : (put_front s).expected ≡ x
  expected_is = rw named_is (put_changes_expected x x_Fits s named id _ changing_stands)

  before_is : before_package s (put_front s).last ≡ At ended 0
  before_is = rw front_is (before_read s changed _ ending_stands)

  -- the elements
  whole : (given_walk given).last ≡ At (length given) (elements_whole given p v judged).value
  whole = (elements_whole given p v judged).read

  read : ReadAlone put_strictness given [] 0 (given_walk given)
  read = elements_read put_strictness 256 given [] 0 0 (stands_at (given_walk given).last (length given) _ whole)

  chain : Follows put_strictness given [] 0 elements (length given)
  chain =
      let e : read.end ≡ length given = same_place read.end (length given) read.value (elements_whole given p v judged).value (sym read.last ∙ whole) in
      rw (read.split, ← e) read.chain

  further_chain : Follows put_strictness s [] from (map (further from) elements) to
  unfolding put_bytes
  further_chain =
      let z : length (put_front_bytes id x) + 0 ≡ from = omega (arith, front_long) in
      rw (z, ← is, front_long) at (chain_further put_strictness given (put_front_bytes id x) put_ends_bytes [] elements 0 (length given) chain)

  few : length (map (further from) elements) ≤ 256
  few = let a = elements_most put_strictness 256 given [] (At 0 0) in omega (arith, a, length-map elements (further from))

  begins : package_start request_padding 0x40 s (At ended 0) ≡ At from 0
  begins = (reads_package 0).here s ended _ package_stands

  walk_is : package_walk put_strictness 0x40 s (At ended 0) ≡ walked (map (further from) elements) (At (to + length (end_bytes 0x15)) 0)
  walk_is =
      package_walked put_strictness 0x40 s (At ended 0) from 0 (map (further from) elements) to (to + length (end_bytes 0x15)) 0 begins further_chain few
      ((reads_end 0 0x15 (omega arith)).here s to (end_bytes 0x40) end_stands)

  handed_is : handed_in s ≡ walked (map (further from) elements) (At (to + length (end_bytes 0x15)) 0)
  unfolding put_package
  handed_is = rw (before_is, package_next s ended _ package_stands) walk_is

  put_walk_is : length s ≤ longest_input
      → put_walk s ≡ walked (map (further from) elements) (At (to + length (end_bytes 0x15) + length (end_bytes 0x40)) 0)
  unfolding put_walk
  put_walk_is l =
      rw (le-ltb _ _ l, handed_is)
      (ap (walked (map (further from) elements)) (end_read s (to + length (end_bytes 0x15)) (behind s to (end_bytes 0x15) (end_bytes 0x40) end_stands)))

  all_read : length s ≤ longest_input → PutBack id x given s
  unfolding put_in put_read value_of put_bytes
  all_read l =
      record {
        answer = rw (put_walk_is l, expected_is, named_is, length-map elements (further from));
        elements_are = rw front_long (ap (λ (w : Walk). w.elements) (put_walk_is l));
        bytes_are = rw is (chain_bytes given (put_front_bytes id x) put_ends_bytes [] elements 0 (length given) chain);
      }

-- what is written is read back
pub put_read_lem : (id : ℕ) (x : ExtendedGuid) (given : List ℕ) (p v : ℕ) → id < 2 ^ 64 → ExtendedGuidFits x → elements_given given ≡ At p v
    → length (put_bytes id x given) ≤ longest_input → PutBack id x given (put_bytes id x given)
put_read_lem id x given p v fits x_Fits judged l = all_read id x given p v fits x_Fits judged (put_bytes id x given) refl l
