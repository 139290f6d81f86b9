-- What a put promises in the form exported to C: it returns the refusal number or 0; the new store, the output and the report at exit. On
-- success the report has 0, 0 and the answer's length, and a report of 32 bytes or more the new store's length behind these.
-- Assumes nothing.
use Rattle.std.specs.Prelude.{◌≡◌, ℕ, List, [], ◌∷◌, length}
use Rattle.laws.specs.Placed.{placed}
use Rattle.numbers.specs.Refusals.{refusal_number}
use Rattle.numbers.specs.declared.guid.Guid.{Guid}
use Rattle.puts.specs.Applied.{Outcome, refused, entered, put_outcome, store_after, output_after}
use Rattle.report.specs.Report.{numbers_bytes, three_numbers, refusal_report}

-- the hub's GUID "as two little-endian numbers"
abbrev pub guid_of : ℕ → ℕ → Guid
guid_of low high = record { low = low; high = high }

-- "the refusal number or 0"
unfoldable pub put_number : Outcome → ℕ
put_number (refused r) = refusal_number r
put_number (entered w new) = 0

unfoldable pub put_report : Outcome → List ℕ → List ℕ
put_report (refused r) report = placed (refusal_report r) report
put_report (entered w new) report = placed (numbers_bytes (0 ∷ 0 ∷ length w ∷ length new ∷ [])) (placed (three_numbers 0 0 (length w)) report)

-- what is promised where the outcome is o
abbrev pub HubGivesPut : Outcome → ℕ → List ℕ → List ℕ → List ℕ → List ℕ → List ℕ → List ℕ → Type 0
HubGivesPut o r new new' out out' report report' =
    (r ≡ put_number o) × (new' ≡ store_after o new) × (out' ≡ output_after o out) × (report' ≡ put_report o report)

-- what the exported call promises
abbrev pub HubPuts : List ℕ → List ℕ → ℕ → ℕ → ℕ → List ℕ → List ℕ → List ℕ → List ℕ → List ℕ → List ℕ → Type 0
HubPuts s q low high r new new' out out' report report' =
    HubGivesPut (put_outcome s q (guid_of low high) (length new) (length out)) r new new' out out' report report'
