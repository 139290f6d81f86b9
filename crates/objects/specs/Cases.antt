-- Document 01's cases marked P ('Numbers to test'), numbers and headers in one table: the bytes that are given, and what is
-- said of them. "The three refused P cases become 0 with the mark" (document 02, Q-10).
-- Assumes nothing.
use Rattle.std.specs.Prelude.{ℕ, Bool, true, List, [], ◌∷◌, length}
use Rattle.laws.specs.Pick.{pick}
use Rattle.numbers.specs.Refusals.{Told, gives}
use Rattle.numbers.specs.Compact.{read_compact}
use Rattle.numbers.specs.Calls.{single, tell_compact}
use Rattle.objects.specs.Header.{whole_header}
use Rattle.objects.specs.Calls.{tell_header}

-- what the bytes are read as
pub data Kind : Type 0 where
  a_number : Kind
  a_header : Kind

pub data Answer : Type 0 where
  is : ℕ → Answer  -- a number in its shortest form
  padded : ℕ → Answer  -- a number for which a shorter form would do
  starts : ℕ → Bool → ℕ → Answer  -- type, compound, length
  ends : ℕ → Answer  -- type

pub record Case : Type 0 where
  pub kind : Kind
  pub given : List ℕ
  pub answer : Answer

-- what the call for a single item of this kind promises to tell (`ReadsCompact`, `ReadsHeader`)
unfoldable pub promised : Kind → List ℕ → Told
promised a_number s = single (λ t. tell_compact (read_compact t)) s
promised a_header s = single (λ t. tell_header (whole_header t)) s

-- the answer in the same terms: each case is one whole item, so that all its bytes are used
unfoldable pub told : List ℕ → Answer → Told
told s (is v) = gives (v ∷ length s ∷ 0 ∷ [])
told s (padded v) = gives (v ∷ length s ∷ 1 ∷ [])
told s (starts k c n) = gives (k ∷ pick c 1 0 ∷ n ∷ length s ∷ [])
told s (ends k) = gives (k ∷ length s ∷ [])

abbrev row : Kind → List ℕ → Answer → Case
row kind given answer = record { kind = kind; given = given; answer = answer }

unfoldable pub cases : List Case
cases =
    row a_number (0x00 ∷ []) (is 0)
    ∷ row a_number (0x03 ∷ []) (is 1)
    ∷ row a_number (0x59 ∷ []) (is 44)
    ∷ row a_number (0xFF ∷ []) (is 127)
    ∷ row a_number (0x02 ∷ 0x02 ∷ []) (is 128)
    ∷ row a_number (0xFE ∷ 0xFF ∷ []) (is 16383)
    ∷ row a_number (0x04 ∷ 0x00 ∷ 0x02 ∷ []) (is 16384)
    ∷ row a_number (0x1C ∷ 0xF9 ∷ 0x08 ∷ []) (is 73507)
    ∷ row a_number (0x08 ∷ 0x00 ∷ 0x80 ∷ 0x03 ∷ []) (is 3670016)
    ∷ row a_number (0x01 ∷ []) (padded 0)
    ∷ row a_number (0x02 ∷ 0x00 ∷ []) (padded 0)
    ∷ row a_number (0x80 ∷ 0x00 ∷ 0x00 ∷ 0x00 ∷ 0x00 ∷ 0x00 ∷ 0x00 ∷ 0x00 ∷ 0x00 ∷ []) (padded 0)
    ∷ row a_header (0x06 ∷ 0x02 ∷ 0x00 ∷ 0x00 ∷ []) (starts 0x40 true 0)
    ∷ row a_header (0x0C ∷ 0x56 ∷ []) (starts 1 true 43)
    ∷ row a_header (0x77 ∷ 0x01 ∷ []) (ends 0x5D)
    ∷ []
