-- "that any two answers allowed are equal is itself proved": each call that a user makes, in one list: for single items, for one element,
-- the answering calls, the call that applies a put, the bench's calls, and those exported to C. A line says of the call, for all that it is
-- handed and lent, that its promise allows at most one answer with its buffers. What a promise is, its crate's specs say. (Public functions
-- that only the crates above call have a law of the same kind in their own crate, or a promise that is an equation.)
-- Assumes nothing.
use mathlib.Core.Path.{◌≡◌}
use mathlib.Core.Bool.{Bool}
use mathlib.Core.List.{List}
use Prim.Native.Nat.{ℕ}
use Rattle.numbers.specs.Calls.{ReadsCompact, ReadsExtendedGuid, ReadsSerial, WritesCompact, WritesExtendedGuid, WritesSerial}
use Rattle.numbers.specs.Compact.{compact_bytes}
use Rattle.numbers.specs.ExtendedGuid.{extended_guid_bytes}
use Rattle.numbers.specs.Serial.{serial_bytes}
use Rattle.numbers.specs.Results.Compact.{Compact}
use Rattle.numbers.specs.Results.ExtendedGuid.{ExtendedGuid}
use Rattle.numbers.specs.Results.ReadExtendedGuid.{ReadExtendedGuid}
use Rattle.numbers.specs.declared.guid.Guid.{Guid}
use Rattle.numbers.specs.Results.Wrote.{Wrote}
use Rattle.numbers.specs.Results.Serial.{Serial}
use Rattle.numbers.specs.Results.ReadSerial.{ReadSerial}
use Rattle.numbers.proofs.OneAnswers as numbers
use Rattle.objects.specs.Calls.{ReadsHeader, WritesStart, WritesEnd}
use Rattle.objects.specs.Header.{start_bytes, end_bytes}
use Rattle.objects.specs.Results.Header.{ReadHeader}
use Rattle.objects.proofs.OneAnswers as objects
use Rattle.store.specs.Accessor.{FindsElement, element_bytes}
use Rattle.store.specs.Results.Found.{Found}
use Rattle.store.proofs.OneAnswers as store
use Rattle.pages.specs.Answer.{TellsLength, WritesAnswer}
use Rattle.pages.specs.Results.Answered.{Answered}
use Rattle.pages.proofs.OneAnswers as pages
use Rattle.puts.specs.Applied.{Puts}
use Rattle.puts.specs.Results.Applied.{Applied}
use Rattle.puts.proofs.OneAnswers as puts
use Rattle.client.specs.Accessor.{FindsReceived, received_bytes}
use Rattle.client.specs.Ask.{WritesRequest}
use Rattle.client.specs.Read.{ReadsAnswer}
use Rattle.client.specs.PutWritten.{WritesPut}
use Rattle.client.specs.ReadPut.{ReadsPutAnswer}
use Rattle.client.specs.Results.ReadAnswer.{ReadAnswer}
use Rattle.client.specs.Results.ReadPutAnswer.{ReadPutAnswer}
use Rattle.client.proofs.OneAnswers as client
use Rattle.book.specs.Keep.{KeepsAnswer}
use Rattle.book.specs.Results.Keeping.{Keeping}
use Rattle.book.proofs.OneAnswers as book
use Rattle.hub.specs.Bench.{HubAsks, HubReads, HubFinds}
use Rattle.hub.specs.Call.{HubTellsLength, HubWritesAnswer}
use Rattle.hub.specs.BenchPut.{HubAsksPut, HubReadsPut}
use Rattle.hub.specs.Keep.{HubKeeps}
use Rattle.hub.specs.Put.{HubPuts}
use Rattle.hub.proofs.EnteredReports as hub_put
use Rattle.hub.proofs.KeepReports as hub_keep
use Rattle.hub.proofs.Laws as hub
use Rattle.hub.proofs.PutReports as bench_put

-- at most one is allowed
abbrev pub One : {A : Type 0} → (A → Type 0) → Type 0
One {A} Allowed = (x y : A) → Allowed x → Allowed y → x ≡ y

-- an answer beside one, two and three buffers
pair : {A B : Type 0} {a c : A} {b d : B} → (a ≡ c) × (b ≡ d) → ◌≡◌ {A = A × B} (a, b) (c, d)
pair e = rw (e.0, e.1)

triple : {A B C : Type 0} {a d : A} {b e : B} {c f : C} → (a ≡ d) × (b ≡ e) × (c ≡ f) → ◌≡◌ {A = A × B × C} (a, b, c) (d, e, f)
triple e = rw (e.0, e.1, e.2)

quadruple : {A B C D : Type 0} {a e : A} {b f : B} {c g : C} {d h : D} → (a ≡ e) × (b ≡ f) × (c ≡ g) × (d ≡ h)
    → ◌≡◌ {A = A × B × C × D} (a, b, c, d) (e, f, g, h)
quadruple e = rw (e.0, e.1, e.2, e.3)

-- ---- single items

pub read_compact_lem : (s : List ℕ) → One {A = Compact} (λ r. ReadsCompact s r)
read_compact_lem s x y a b = numbers.read_compact_one s x y a b

pub read_extended_guid_lem : (s : List ℕ) → One {A = ReadExtendedGuid} (λ r. ReadsExtendedGuid s r)
read_extended_guid_lem s x y a b = numbers.read_extended_guid_one s x y a b

pub read_serial_lem : (s : List ℕ) → One {A = ReadSerial} (λ r. ReadsSerial s r)
read_serial_lem s x y a b = numbers.read_serial_one s x y a b

pub read_header : (s : List ℕ) → One {A = ReadHeader} (λ r. ReadsHeader s r)
read_header s x y a b = objects.read_header_one s x y a b

pub write_compact : (v : ℕ) (out : List ℕ) → One {A = Wrote × List ℕ} (λ r. WritesCompact v out r.0 r.1)
write_compact v out x y a b = pair (numbers.writes_one (compact_bytes v) out x.0 y.0 x.1 y.1 a b)

pub write_extended_guid : (id : ExtendedGuid) (out : List ℕ) → One {A = Wrote × List ℕ} (λ r. WritesExtendedGuid id out r.0 r.1)
write_extended_guid id out x y a b = pair (numbers.writes_one (extended_guid_bytes id) out x.0 y.0 x.1 y.1 a b)

pub write_serial : (serial : Serial) (out : List ℕ) → One {A = Wrote × List ℕ} (λ r. WritesSerial serial out r.0 r.1)
write_serial serial out x y a b = pair (numbers.writes_one (serial_bytes serial) out x.0 y.0 x.1 y.1 a b)

pub write_start : (kind : ℕ) (compound : Bool) (n : ℕ) (out : List ℕ) → One {A = Wrote × List ℕ} (λ r. WritesStart kind compound n out r.0 r.1)
write_start kind compound n out x y a b = pair (objects.writes_typed_one kind (start_bytes kind compound n) out x.0 y.0 x.1 y.1 a b)

pub write_end : (kind : ℕ) (out : List ℕ) → One {A = Wrote × List ℕ} (λ r. WritesEnd kind out r.0 r.1)
write_end kind out x y a b = pair (objects.writes_typed_one kind (end_bytes kind) out x.0 y.0 x.1 y.1 a b)

-- ---- one element of a store

pub find_element : (s : List ℕ) (position : ℕ) → One {A = Found} (λ r. FindsElement s position r)
find_element s position x y a b = store.find_element_one s position x y a b

pub element_bytes_lem : (s : List ℕ) (position : ℕ) → One {A = List ℕ} (λ r. r ≡ element_bytes s position)
element_bytes_lem s position x y a b = store.element_bytes_one s position x y a b

-- ---- the answering calls: the answer, both tables, and of the one that writes the output

pub length_told : (s q : List ℕ) (offered : ℕ) (rows ranges : List ℕ) → One {A = Answered × List ℕ × List ℕ} (λ r. TellsLength s q offered r.0 rows r.1 ranges r.2)
length_told s q offered rows ranges x y a b = triple (pages.length_one s q offered x.0 y.0 rows x.1 y.1 ranges x.2 y.2 a b)

pub answer_written : (s q rows ranges out : List ℕ) → One {A = Answered × List ℕ × List ℕ × List ℕ} (λ r. WritesAnswer s q r.0 rows r.1 ranges r.2 out r.3)
answer_written s q rows ranges out x y a b =
    quadruple (pages.writes_one s q x.0 y.0 rows x.1 y.1 ranges x.2 y.2 out x.3 y.3 a b)

-- ---- the call that applies a put: its answer, the new store and the output

pub put_changes_lem : (s q : List ℕ) (g : Guid) (new out : List ℕ) → One {A = Applied × List ℕ × List ℕ} (λ r. Puts s q g r.0 new r.1 out r.2)
put_changes_lem s q g new out x y a b = triple (puts.puts_one s q g x.0 y.0 new x.1 y.1 out x.2 y.2 a b)

-- ---- the bench's calls

pub write_request : (id limit : ℕ) (filters knowledge out : List ℕ) → One {A = Wrote × List ℕ} (λ r. WritesRequest id limit filters knowledge r.0 out r.1)
write_request id limit filters knowledge out x y a b = pair (client.writes_one id limit filters knowledge x.0 y.0 out x.1 y.1 a b)

pub read_answer : (w : List ℕ) → One {A = ReadAnswer} (λ r. ReadsAnswer w r)
read_answer w x y a b = client.read_answer_one w x y a b

pub find_received : (w : List ℕ) (position : ℕ) → One {A = Found} (λ r. FindsReceived w position r)
find_received w position x y a b = client.find_received_one w position x y a b

pub received_bytes_lem : (w : List ℕ) (position : ℕ) → One {A = List ℕ} (λ r. r ≡ received_bytes w position)
received_bytes_lem w position x y a b = client.received_bytes_one w position x y a b

pub write_put : (id : ℕ) (expected : ExtendedGuid) (elements out : List ℕ) → One {A = Wrote × List ℕ} (λ r. WritesPut id expected elements r.0 out r.1)
write_put id expected elements out x y a b = pair (client.writes_put_one id expected elements x.0 y.0 out x.1 y.1 a b)

pub keep_answer : (b w new : List ℕ) → One {A = Keeping × List ℕ} (λ r. KeepsAnswer b w r.0 new r.1)
keep_answer b w new x y a c = pair (book.keeps_one b w x.0 y.0 new x.1 y.1 a c)

pub read_put_answer : (w : List ℕ) → One {A = ReadPutAnswer} (λ r. ReadsPutAnswer w r)
read_put_answer w x y a b = client.read_put_answer_one w x y a b

-- ---- the calls exported to C: the number, the output and the report, of a put the new store too

pub hub_length : (s q : List ℕ) (offered : ℕ) (report : List ℕ) → One {A = ℕ × List ℕ} (λ r. HubTellsLength s q offered r.0 report r.1)
hub_length s q offered report x y a b = pair (hub.hub_tells_one s q offered x.0 y.0 report x.1 y.1 a b)

pub hub_write : (s q out report : List ℕ) → One {A = ℕ × List ℕ × List ℕ} (λ r. HubWritesAnswer s q r.0 out r.1 report r.2)
hub_write s q out report x y a b = triple (hub.hub_writes_one s q x.0 y.0 out x.1 y.1 report x.2 y.2 a b)

pub hub_ask : (id limit : ℕ) (filters knowledge out report : List ℕ)
    → One {A = ℕ × List ℕ × List ℕ} (λ r. HubAsks id limit filters knowledge r.0 out r.1 report r.2)
hub_ask id limit filters knowledge out report x y a b =
    triple (hub.hub_asks_one id limit filters knowledge x.0 y.0 out x.1 y.1 report x.2 y.2 a b)

pub hub_read : (w report : List ℕ) → One {A = ℕ × List ℕ} (λ r. HubReads w r.0 report r.1)
hub_read w report x y a b = pair (hub.hub_reads_one w x.0 y.0 report x.1 y.1 a b)

pub hub_element : (kind : ℕ) (s : List ℕ) (position : ℕ) (report : List ℕ) → One {A = ℕ × List ℕ} (λ r. HubFinds kind s position r.0 report r.1)
hub_element kind s position report x y a b = pair (hub.hub_finds_one kind s position x.0 y.0 report x.1 y.1 a b)

pub hub_put_lem : (s q : List ℕ) (low high : ℕ) (new out report : List ℕ)
    → One {A = ℕ × List ℕ × List ℕ × List ℕ} (λ r. HubPuts s q low high r.0 new r.1 out r.2 report r.3)
hub_put_lem s q low high new out report x y a b =
    quadruple (hub_put.hub_puts_one s q low high x.0 y.0 new x.1 y.1 out x.2 y.2 report x.3 y.3 a b)

pub hub_ask_put : (id named low high number : ℕ) (elements out report : List ℕ)
    → One {A = ℕ × List ℕ × List ℕ} (λ r. HubAsksPut id named low high number elements r.0 out r.1 report r.2)
hub_ask_put id named low high number elements out report x y a b =
    triple (bench_put.hub_asks_put_one id named low high number elements x.0 y.0 out x.1 y.1 report x.2 y.2 a b)

pub hub_read_put : (w report : List ℕ) → One {A = ℕ × List ℕ} (λ r. HubReadsPut w r.0 report r.1)
hub_read_put w report x y a b = pair (bench_put.hub_reads_put_one w x.0 y.0 report x.1 y.1 a b)

pub hub_keep_lem : (b w new report : List ℕ) → One {A = ℕ × List ℕ × List ℕ} (λ r. HubKeeps b w r.0 new r.1 report r.2)
hub_keep_lem b w new report x y a c = triple (hub_keep.hub_keeps_one b w x.0 y.0 new x.1 y.1 report x.2 y.2 a c)
