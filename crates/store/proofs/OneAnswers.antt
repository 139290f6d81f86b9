-- The calls on a package, on a store and on a knowledge determine their answers: what is told is known by what tells it, and any two answers allowed are equal.
-- Assumes nothing.
use mathlib.Core.Path.{◌≡◌, sym, ap, ◌∙◌}
use Prim.Native.Nat.{ℕ}
use mathlib.Core.List.{List}
use Rattle.laws.proofs.Cases.{impossible}
use Rattle.laws.proofs.OneAnswer.{Telling, one_answer}
use Rattle.numbers.proofs.OneAnswers.{refuses_telling, values_of}
use Rattle.store.specs.Element.{tell_reading_key, tell_read_element}
use Rattle.store.specs.declared.element.Key.{Key}
use Rattle.store.specs.declared.element.Element.{Element}
use Rattle.store.specs.Results.ReadingKey as key
use Rattle.store.specs.Results.ReadElement as element
use Rattle.store.specs.Store.{Walk, PackageTo, WalkedTo, tell_packaged, tell_stored}
use Rattle.store.specs.Accessor.{tell_found, FindsElement, element_bytes}
use Rattle.store.specs.Results.Packaged.{Packaged}
use Rattle.store.specs.Results.Packaged as packaged
use Rattle.store.specs.Results.Stored.{Stored}
use Rattle.store.specs.Results.Stored as stored
use Rattle.store.specs.Knowledge.{Knowing, ReadsKnowledge, tell_item, tell_read_knowledge}
use Rattle.talk.proofs.Order.{same_range}
use Rattle.store.specs.Results.Item as item
use Rattle.store.specs.Results.ReadKnowledge.{ReadKnowledge}
use Rattle.store.specs.Results.ReadKnowledge as read
use Rattle.store.specs.Results.Found.{Found}
use Rattle.store.specs.Results.Found as found

pub found_telling : Telling tell_found
found_telling (found.At p n) (found.At q m) e = let v = values_of _ _ e in cc
found_telling (found.At p n) (found.Refused q) e = let v = values_of _ _ e in impossible (cc)
found_telling (found.Refused r) (found.At q m) e = let v = values_of _ _ e in impossible (cc)
found_telling (found.Refused r) (found.Refused q) e = ap found.Refused (refuses_telling r q e)

pub packaged_telling : Telling tell_packaged
packaged_telling (packaged.Holds n p) (packaged.Holds m q) e = let v = values_of _ _ e in cc
packaged_telling (packaged.Holds n p) (packaged.Refused q) e = let v = values_of _ _ e in impossible (cc)
packaged_telling (packaged.Refused r) (packaged.Holds m q) e = let v = values_of _ _ e in impossible (cc)
packaged_telling (packaged.Refused r) (packaged.Refused q) e = ap packaged.Refused (refuses_telling r q e)

pub stored_telling : Telling tell_stored
stored_telling (stored.Holds n) (stored.Holds m) e = let v = values_of _ _ e in cc
stored_telling (stored.Holds n) (stored.Refused q) e = let v = values_of _ _ e in impossible (cc)
stored_telling (stored.Refused r) (stored.Holds m) e = let v = values_of _ _ e in impossible (cc)
stored_telling (stored.Refused r) (stored.Refused q) e = ap stored.Refused (refuses_telling r q e)

abbrev key_of : ℕ → ℕ → ℕ → Key
key_of l h n = record { low = l; high = h; number = n }

same_key_lem : {l h n l' h' n' : ℕ} → l ≡ l' → h ≡ h' → n ≡ n' → key_of l h n ≡ key_of l' h' n'
same_key_lem a b c = cc

pub reading_key_telling : Telling tell_reading_key
reading_key_telling (key.At p k) (key.At q m) e =
    let v = values_of _ _ e in let z : k ≡ m = same_key_lem (cc) (cc) (cc) in let y : p ≡ q = cc in rw (y, z)
reading_key_telling (key.At p k) (key.Refused q) e = let v = values_of _ _ e in impossible (cc)
reading_key_telling (key.Refused r) (key.At q m) e = let v = values_of _ _ e in impossible (cc)
reading_key_telling (key.Refused r) (key.Refused q) e = ap key.Refused (refuses_telling r q e)

abbrev element_of_lem : ℕ → ℕ → ℕ → Key → Key → Element
element_of_lem p l k i s = record { place = p; length = l; kind = k; id = i; serial = s }

same_element : {p l k p' l' k' : ℕ} {i s i' s' : Key} → p ≡ p' → l ≡ l' → k ≡ k' → i ≡ i' → s ≡ s' → element_of_lem p l k i s ≡ element_of_lem p' l' k' i' s'
same_element a b c d e = cc

pub read_element_telling : Telling tell_read_element
read_element_telling (element.Is x) (element.Is y) e =
    let v = values_of _ _ e in
    let i : x.id ≡ y.id = same_key_lem (cc) (cc) (cc) in
    let s : x.serial ≡ y.serial = same_key_lem (cc) (cc) (cc) in
    ap element.Is (same_element (cc) (cc) (cc) i s)
read_element_telling (element.Is x) (element.Refused q) e = let v = values_of _ _ e in impossible (cc)
read_element_telling (element.Refused r) (element.Is y) e = let v = values_of _ _ e in impossible (cc)
read_element_telling (element.Refused r) (element.Refused q) e = ap element.Refused (refuses_telling r q e)

pub find_element_one : (s : List ℕ) (i : ℕ) (r q : Found) → FindsElement s i r → FindsElement s i q → r ≡ q
find_element_one s i r q a b = one_answer found_telling a b

pub element_bytes_one : (s : List ℕ) (i : ℕ) (r q : List ℕ) → r ≡ element_bytes s i → q ≡ element_bytes s i → r ≡ q
element_bytes_one s i r q a b = a ∙ sym b

-- the answer of a walk, and both tables at its exit
pub package_one : (w : Walk) (r q : Packaged) (rows x y ids u v : List ℕ) → PackageTo w r rows x ids u → PackageTo w q rows y ids v
    → (r ≡ q) × (x ≡ y) × (u ≡ v)
package_one w r q rows x y ids u v a b = (a.0 ∙ sym b.0, a.1 ∙ sym b.1, a.2 ∙ sym b.2)

pub walked_one : (w : Walk) (r q : Stored) (rows x y ids u v : List ℕ) → WalkedTo w r rows x ids u → WalkedTo w q rows y ids v
    → (r ≡ q) × (x ≡ y) × (u ≡ v)
walked_one w r q rows x y ids u v a b = (a.0 ∙ sym b.0, a.1 ∙ sym b.1, a.2 ∙ sym b.2)

-- ---- knowledge

pub item_telling : Telling tell_item
item_telling (item.Adds p x) (item.Adds q y) e =
    let v = values_of _ _ e in let z : x ≡ y = same_range x y (cc) (cc) (cc) (cc) in let w : p ≡ q = cc in rw (w, z)
item_telling (item.Adds p x) (item.Nothing q) e = let v = values_of _ _ e in impossible (cc)
item_telling (item.Adds p x) (item.Refused q) e = let v = values_of _ _ e in impossible (cc)
item_telling (item.Nothing p) (item.Adds q y) e = let v = values_of _ _ e in impossible (cc)
item_telling (item.Nothing p) (item.Nothing q) e = let v = values_of _ _ e in cc
item_telling (item.Nothing p) (item.Refused q) e = let v = values_of _ _ e in impossible (cc)
item_telling (item.Refused r) (item.Adds q y) e = let v = values_of _ _ e in impossible (cc)
item_telling (item.Refused r) (item.Nothing q) e = let v = values_of _ _ e in impossible (cc)
item_telling (item.Refused r) (item.Refused q) e = ap item.Refused (refuses_telling r q e)

pub read_knowledge_telling : Telling tell_read_knowledge
read_knowledge_telling (read.Holds p n) (read.Holds q m) e = let v = values_of _ _ e in cc
read_knowledge_telling (read.Holds p n) (read.Refused q) e = let v = values_of _ _ e in impossible (cc)
read_knowledge_telling (read.Refused r) (read.Holds q m) e = let v = values_of _ _ e in impossible (cc)
read_knowledge_telling (read.Refused r) (read.Refused q) e = ap read.Refused (refuses_telling r q e)

-- the answer of a reading, and the table at its exit
pub reads_knowledge_one : (k : Knowing) (r q : ReadKnowledge) (x y : List ℕ) → ReadsKnowledge k r x → ReadsKnowledge k q y → (r ≡ q) × (x ≡ y)
reads_knowledge_one k r q x y a b = (a.0 ∙ sym b.0, a.1 ∙ sym b.1)
