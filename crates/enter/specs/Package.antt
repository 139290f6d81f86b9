-- Elements with their bytes, and a store of such elements: what stands in bytes that were read, and what is written anew.
-- Assumes nothing.
use Rattle.std.specs.Prelude.{ℕ, List, [], ◌∷◌, ◌++◌}
use Rattle.store.specs.Held.{stored_bytes}
use Rattle.store.specs.Written.{framed}
use Rattle.store.specs.declared.element.Element.{Element}
use Rattle.enter.specs.Entering.{Kept}

-- an element of the bytes s, as it is kept there: with its own bytes
unfoldable pub kept_in : List ℕ → Element → Kept
kept_in s x = record { id = x.id; serial = x.serial; bytes = stored_bytes s x }

-- one behind the other
unfoldable pub joined : List Kept → List ℕ
joined [] = []
joined (x ∷ xs) = x.bytes ++ joined xs

-- a store of these: a package whose start, zero byte and end are written anew, and nothing else, so that "the room of replaced ones is
-- used again"
unfoldable pub packed : List Kept → List ℕ
packed new = framed (joined new)
