-- A bool as a byte: 1 or 0.
-- Assumes nothing.
use mathlib.Core.Path.{◌≡◌, refl}
use mathlib.Core.Bool.{Bool, true, false}
use mir.Val.{bool_byte}
use Rattle.laws.specs.Pick.{pick}

pub byte_picked : (b : Bool) → bool_byte b ≡ pick b 1 0
byte_picked true = refl
byte_picked false = refl
