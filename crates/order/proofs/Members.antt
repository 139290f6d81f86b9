-- A list in another order has the same members.
-- Assumes nothing.
use mathlib.Core.Path.{refl, subst, sym}
use mathlib.Core.List.Memᴰ.{head}
use mathlib.Core.List.Memᴰ.{tail}
use mathlib.Core.List.{List, ◌∷◌, Memᴰ as In}
use Rattle.order.specs.Rearranged.{Inserted, here, there, Rearranged, nothing, one_more}

module _ {E : Type 0} where
  inserted_is : {x : E} {l m : List E} → Inserted x l m → In x m
  inserted_is (here l) = head refl
  inserted_is (there y i) = tail (inserted_is i)

  inserted_keeps : {x z : E} {l m : List E} → Inserted x l m → In z l → In z m
  inserted_keeps (here l) h = tail h
  inserted_keeps (there y i) (head e) = head e
  inserted_keeps (there y i) (tail h) = tail (inserted_keeps i h)

  inserted_was : {x z : E} {l m : List E} → Inserted x l m → In z m → In z (x ∷ l)
  inserted_was (here l) h = h
  inserted_was (there y i) (head e) = tail (head e)
  inserted_was (there y i) (tail h) = swap (inserted_was i h)
    where
      swap : {x y z : E} {l : List E} → In z (x ∷ l) → In z (x ∷ y ∷ l)
      swap (head e) = head e
      swap (tail h) = tail (tail h)

  pub member_stays : {z : E} {xs ys : List E} → Rearranged xs ys → In z xs → In z ys
  member_stays {z = z} nothing h = elim h [ ]
  member_stays {ys = ys} (one_more r i) (head e) = subst (λ (x : E). In x ys) (sym e) (inserted_is i)
  member_stays (one_more r i) (tail h) = inserted_keeps i (member_stays r h)

  pub member_was : {z : E} {xs ys : List E} → Rearranged xs ys → In z ys → In z xs
  member_was {z = z} nothing h = elim h [ ]
  member_was (one_more r i) h = on (λ k. member_was r k) (inserted_was i h)
    where
      on : {x z : E} {xs l : List E} → (In z l → In z xs) → In z (x ∷ l) → In z (x ∷ xs)
      on was (head e) = head e
      on was (tail k) = tail (was k)
