-- What the working tables hold after a put was read into them: its elements, each of which lies in the put with what is inside it.
-- Assumes nothing.
use mathlib.Core.Path.{◌≡◌, refl, sym, subst}
use mathlib.Core.List.{List, [], ◌∷◌, ◌++◌}
use Prim.Native.Nat.{ℕ, ◌+◌, ◌-◌, ◌*◌, ◌^◌, ◌≤◌}
use native.Mathlib.Omega.{arith}
use lib.ListN.{length, take, drop, length-append}
use borrow.Author.Tests.{lt-ltb, le-ltb}
use Rattle.laws.specs.Bytes.{AllBytes}
use Rattle.laws.proofs.Cases.{by_bool, by_lt, impossible}
use Rattle.laws.proofs.Numbers.{drop_bytes, take_bytes}
use Rattle.numbers.specs.Refusals.{longest_input}
use Rattle.numbers.specs.Results.ExtendedGuid.{ExtendedGuid}
use Rattle.objects.specs.Steps.{place_of, value_of, skip, end_here, next_is, finish}
use Rattle.objects.specs.Results.Reading.{Reading}
use Rattle.objects.specs.Results.Reading as reading
use Rattle.talk.specs.Each.{Each}
use Rattle.store.specs.Chain.{Follows}
use Rattle.store.specs.Element.{ids_in}
use Rattle.store.specs.Store.{package_walk, Stands}
use Rattle.store.specs.Tables.{row_width, id_width, most_elements, row_numbers, rows_of, ids_of, elements_in}
use Rattle.store.specs.Written.{inside_of}
use Rattle.store.specs.declared.element.Element.{Element}
use Rattle.store.proofs.Chains.{package_read}
use Rattle.store.proofs.Contents.{element_layout}
use Rattle.store.proofs.ElementFits.{NamedFits, id_fits}
use Rattle.store.proofs.Elements.{elements_held}
use Rattle.store.proofs.Found.{package_most, rows_length, ids_length, laid_long}
use Rattle.store.proofs.StoreHeld.{each_at}
use Rattle.store.proofs.Taken.{stands_before}
use Rattle.puts.specs.Put.{put_strictness, put_package, put_end, put_front, before_package, handed_in, put_walk, put_read, put_in, ReadsPut}
use Rattle.puts.specs.Plan.{inside_from, Enters, PutHeld}
use Rattle.puts.specs.Results.Put.{Put}
use Rattle.puts.specs.Results.Put as put

-- ---- one element

element_enters : (q : List ℕ) (done : List Element) (at : ℕ) (x : Element) (xs : List Element) (e : ℕ) → AllBytes q → length q ≤ 2 ^ 24 → Follows put_strictness q done at (x ∷ xs) e
    → Enters q x
unfolding inside_from inside_of skip place_of value_of
element_enters q done at x xs e b short c =
    let l = element_layout put_strictness (ids_in done) q at 0 x c.0 in
    let first = l.first in
    let long = l.long in
    let within = l.within in
    let p : l.size ≤ length q - l.from = omega arith in
    let i : NamedFits x.id = rw l.id_is (id_fits put_strictness (ids_in done) (take l.size (drop l.from q)) (take_bytes l.size (drop l.from q) (drop_bytes l.from q b))) in
    record {
      within = rw l.place (omega arith);
      inside = rw (l.place, l.opens, le-ltb _ _ p) (omega arith);
      inner = rw (l.place, l.opens, le-ltb _ _ p);
      number = i.1;
      short = short;
    }

chain_enters : (q : List ℕ) (done : List Element) (at : ℕ) (xs : List Element) (e : ℕ) → AllBytes q → length q ≤ 2 ^ 24 → Follows put_strictness q done at xs e → Each (Enters q) xs
chain_enters q done at [] e b short c = tt
chain_enters q done at (x ∷ xs) e b short c =
    (element_enters q done at x xs e b short c, chain_enters q (done ++ (x ∷ [])) (x.place + x.length) xs e b short c.1)

-- ---- the package, and the whole

package_enters : (q : List ℕ) (c : Reading) → AllBytes q → length q ≤ 2 ^ 24 → Stands (put_package q c).last → Each (Enters q) (put_package q c).elements
unfolding put_package
package_enters q c b short h =
    by_bool (next_is q 0x15 c)
    (λ e.
    let r = package_read put_strictness 0x40 q c (rw e at h) in
    rw e (chain_enters q [] r.first (package_walk put_strictness 0x40 q c).elements r.end b short r.chain))
    (λ e. rw e tt)

package_few : (q : List ℕ) (c : Reading) → length (put_package q c).elements ≤ most_elements
unfolding put_package
package_few q c = by_bool (next_is q 0x15 c) (λ e. rw e (package_most put_strictness 0x40 q c)) (λ e. rw e (omega arith))

end_stands : (q : List ℕ) (c : Reading) → Stands (put_end q c) → Stands c
unfolding put_end finish end_here
end_stands q c h = stands_before (λ (d : Reading). finish q (end_here q 0x40 d)) (λ r. refl) c h

answer_stands : (c : Reading) (a n : ℕ) (b : ExtendedGuid) (id m : ℕ) (expected : ExtendedGuid) → put.Handed id expected m ≡ put_read c a b n → Stands c × (m ≡ n)
unfolding put_read
answer_stands (reading.At e v) a n b id m expected q = (tt, grind arith)
answer_stands (reading.Refused r) a n b id m expected q = impossible (cc)

-- a put that stands is not over-long, and its elements are those of its package
pub record Whole (q : List ℕ) : Type 0 where
  pub short : length q ≤ 2 ^ 24
  pub elements : (put_walk q).elements ≡ (handed_in q).elements
  pub last : Stands (handed_in q).last

pub put_whole : (q : List ℕ) → Stands (put_walk q).last → Whole q
unfolding put_walk
put_whole q h =
    by_lt longest_input (length q)
    (λ l. absurd (rw (lt-ltb _ _ l) at h))
    (λ l. record { short = l; elements = rw (le-ltb _ _ l); last = end_stands q (handed_in q).last (rw (le-ltb _ _ l) at h) })

pub put_few : (q : List ℕ) → length (put_walk q).elements ≤ most_elements
unfolding put_walk
put_few q =
    by_lt longest_input (length q) (λ l. rw (lt-ltb _ _ l) (omega arith))
    (λ l. rw (le-ltb _ _ l) (package_few q (before_package q (put_front q).last)))

pub put_held : (q rows ids rows' ids' : List ℕ) (id m : ℕ) (expected : ExtendedGuid) → AllBytes q → row_numbers ≤ length rows → most_elements * id_width ≤ length ids
    → ReadsPut q (put.Handed id expected m) rows rows' ids ids' → PutHeld q rows' ids' m
unfolding put_in
put_held q rows ids rows' ids' id m expected b h g w =
    let els = (put_walk q).elements in
    let a = answer_stands (put_walk q).last _ (length els) _ id m expected w.0 in
    let c : m ≡ length els = a.1 in
    let f = put_few q in
    let o = put_whole q a.0 in
    let l : elements_in rows' ids' m ≡ els = rw (w.1, w.2, c) (elements_held els (drop (length els * row_width) rows) (drop (length els * id_width) ids)) in
    let each : Each (Enters q) els = rw o.elements (package_enters q (before_package q (put_front q).last) b o.short o.last) in
    record {
      held = l;
      most = omega arith;
      stand = record {
        row_room = rw w.1 (omega (arith, length-append (rows_of els) (drop (length els * row_width) rows), rows_length els));
        id_room = rw w.2 (omega (arith, length-append (ids_of els) (drop (length els * id_width) ids), ids_length els));
      };
      enters = λ j k. let z : 0 + j ≡ j = omega arith in rw z at (each_at (Enters q) rows' ids' 0 m j k (subst (Each (Enters q)) (sym l) each));
    }

-- both tables are as long as they were
pub put_long : (q rows ids rows' ids' : List ℕ) (r : Put) → length rows ≡ row_numbers → length ids ≡ most_elements * id_width → ReadsPut q r rows rows' ids ids'
    → (row_numbers ≡ length rows') × (most_elements * id_width ≡ length ids')
put_long q rows ids rows' ids' r l g w = laid_long (put_walk q) rows ids rows' ids' (put_few q) l g w.1 w.2
