-- The specialized knowledges of a knowledge, turn by turn: what the working table holds, and where the reading stands.
-- Assumes nothing.
use mathlib.Core.Path.{◌≡◌, refl, sym, ◌∙◌}
use mathlib.Core.Bool.{Bool, true, false}
use mathlib.Core.List.{List, []}
use Prim.Native.Nat.{ℕ, ◌+◌, ◌*◌, ◌≤◌}
use lib.ListN.{length}
use native.Mathlib.Omega.{arith}
use Rattle.objects.specs.Steps.{end_here, next_is}
use Rattle.objects.specs.Results.Reading.{Reading}
use Rattle.talk.specs.Ranges.{Normal}
use Rattle.ranges.specs.RangeTable.{range_width, ranges_at}
use Rattle.store.specs.Knowledge.{Knowing, knowing, standing, specialized_from, knowledge_from, knowledge_answer, KnownIs, ReadsKnowledge}
use Rattle.store.specs.declared.knowledge.Known.{Known}
use Rattle.store.specs.Results.ReadKnowledge.{ReadKnowledge}
use Rattle.ranges.proofs.RangeRows.{length_rows}
use Rattle.store.proofs.KnowledgeForward.{knowledge_more, knowledge_end_lem}

-- ---- what is known, as the code has it

-- the rows of a table
pub known_start : (t : List ℕ) (n left : ℕ) (c : Reading) → (n + left) * range_width ≤ length t → Normal (ranges_at t 0 n) → (r : Known) → r.rows ≡ n → r.left ≡ left → r.last ≡ c
    → KnownIs (knowing (ranges_at t 0 n) t left c) r t
known_start t n left c m o r f g h =
    record { rows = f ∙ sym (length_rows t 0 n); left = g; last = h; table = refl; held = rw f; room = rw (f, g) m; normal = o }

-- the same at another place
pub known_standing : (k : Knowing) (r q : Known) (t : List ℕ) (c : Reading) → KnownIs k r t → q.rows ≡ r.rows → q.left ≡ r.left → q.last ≡ c
    → KnownIs (standing c k) q t
known_standing k r q t c i f g h =
    record { rows = f ∙ i.rows; left = g ∙ i.left; last = h; table = i.table; held = rw f i.held; room = rw (f, g) i.room; normal = i.normal }

-- ---- what holds whenever the loop's test is reached: the knowledge from the start is the knowledge from here

pub record Learning (padding : Bool) (depth : ℕ) (s : List ℕ) (told : Knowing) (t : List ℕ) (c : Reading) (n left : ℕ) : Type 0 where
  pub room : (n + left) * range_width ≤ length t
  pub normal : Normal (ranges_at t 0 n)
  pub rest : told ≡ knowledge_from padding depth s (knowing (ranges_at t 0 n) t left c)

pub learning_start : (padding : Bool) (allowed depth : ℕ) (s t : List ℕ) (c : Reading) → allowed * range_width ≤ length t
    → Learning padding depth s (knowledge_from padding depth s (knowing [] t allowed c)) t c 0 allowed
unfolding ranges_at Normal
learning_start padding allowed depth s t c h = record { room = omega arith; normal = tt; rest = refl }

module _ (padding : Bool) {depth : ℕ} {s : List ℕ} {told : Knowing} {t : List ℕ} {c : Reading} {n left : ℕ} (u : Learning padding depth s told t c n left) where
  pub learning_more : next_is s 0x44 c ≡ true → (r : Known) (v : List ℕ) → KnownIs (specialized_from padding depth s (knowing (ranges_at t 0 n) t left c)) r v
      → Learning padding depth s told v r.last r.rows r.left
  learning_more e r v i =
      record {
        room = i.room;
        normal = rw i.held i.normal;
        rest = rw (i.held, i.left, i.last, i.table) (u.rest ∙ knowledge_more padding depth s (knowing (ranges_at t 0 n) t left c) e);
      }

  pub learning_end : next_is s 0x44 c ≡ false → (r : ReadKnowledge) → r ≡ knowledge_answer n (end_here s 0x10 c) → ReadsKnowledge told r t
  learning_end e r q = rw (u.rest ∙ knowledge_end_lem padding depth s (knowing (ranges_at t 0 n) t left c) e, length_rows t 0 n) (q, refl, refl, u.normal)
