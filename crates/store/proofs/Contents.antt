-- An element that was read where padding is refused, whoever read it: its own bytes are its header, its id, the serial number that it
-- came with, its type and its inside, each of the three as it is written. So it can be written anew with another serial number
-- (`content_in`); and what can be written for one reader can be for whoever is no stricter.
-- Assumes nothing.
use mathlib.Core.Path.{◌≡◌, refl, sym, subst, ap, ◌∙◌}
use mathlib.Core.Bool.{Bool, true, false}
use mathlib.Core.List.{List, [], ◌++◌, append-nil}
use Prim.Native.Nat.{ℕ, ◌+◌, ◌-◌, ◌^◌, ◌≤◌, ◌<◌}
use native.Mathlib.Nat.{zero-add}
use native.Mathlib.Omega.{arith}
use lib.ListN.{length, take, drop, length-take, take-append-drop}
use lib.Seq.{take-add, drop-drop}
use Rattle.laws.specs.Bytes.{AllBytes}
use Rattle.laws.specs.Once.{seen}
use Rattle.laws.proofs.Agreement.{same_front}
use Rattle.laws.proofs.Cases.{impossible}
use Rattle.laws.proofs.Numbers.{drop_bytes}
use Rattle.laws.proofs.Parts.{tail_part, part_length}
use Rattle.numbers.specs.Compact.{padding_refused, read_compact, accepted, compact_for, compact_bytes}
use Rattle.numbers.specs.ExtendedGuid.{read_extended_guid, extended_guid_bytes}
use Rattle.numbers.specs.Results.Compact.{Compact}
use Rattle.numbers.specs.Results.Compact as compact
use Rattle.numbers.specs.Results.ExtendedGuid as id
use Rattle.numbers.specs.Results.ReadExtendedGuid.{ReadExtendedGuid}
use Rattle.numbers.specs.Results.ReadExtendedGuid as extended
use Rattle.numbers.specs.Serial.{read_serial, serial_bytes}
use Rattle.numbers.specs.Results.Serial.{Serial}
use Rattle.numbers.specs.Results.Serial as numbered
use Rattle.numbers.specs.Results.ReadSerial.{ReadSerial}
use Rattle.numbers.specs.Results.ReadSerial as serials'
use Rattle.numbers.proofs.ExtendedGuids.{extended_guid_written_read}
use Rattle.numbers.proofs.Padding.{Takes}
use Rattle.numbers.proofs.RoundTrip.{written_read}
use Rattle.numbers.proofs.Serials.{serial_written_read}
use Rattle.objects.specs.Nesting.{run_at}
use Rattle.objects.specs.Steps.{place_of, value_of, number_on, number, id_on, id_here, serial_on, serial_here, start_here, run_here, closed, inside, Behind, GoodIn, on_field}
use Rattle.objects.specs.Results.Passed as passed
use Rattle.objects.specs.Results.Reading.{Reading}
use Rattle.objects.specs.Results.Reading as reading
use Rattle.objects.specs.Results.ReadingSerial.{ReadingSerial}
use Rattle.objects.specs.Results.ReadingSerial as serial'
use Rattle.objects.proofs.Ahead.{run_next}
use Rattle.objects.proofs.Deeper.{run_deeper}
use Rattle.objects.proofs.Keep.{behind_place, onward_serial, onward_start}
use Rattle.objects.proofs.Local.{run_local}
use Rattle.objects.proofs.StepsCarry.{inside_on_lem, closed_from}
use Rattle.store.specs.Element.{same_key, named_key, any_key, key_here, id_field, serial_field, fields_of, opened, data_of, element_at}
use Rattle.store.specs.Store.{Stands}
use Rattle.store.specs.Written.{Content, key_guid, ContentFits, behind_data, inside_of, content_in}
use Rattle.store.specs.declared.element.Key.{Key}
use Rattle.store.specs.declared.element.Element.{Element}
use Rattle.store.specs.Results.ReadingKey.{ReadingKey}
use Rattle.store.specs.Results.ReadElement.{Is}
use Rattle.store.specs.declared.element.Strictness.{Strictness}
use Rattle.store.proofs.ElementCarry.{serial_beside}
use Rattle.store.proofs.ElementFits.{NumberedFits, id_fits}
use Rattle.store.proofs.Fields.{good_fields, element_parts}
use Rattle.store.proofs.KnowledgeFits.{run_bytes}
use Rattle.store.proofs.Taken.{StandsKey, stands_number, stands_closed, fresh_stands, keys_stand, data_stands, element_some}

-- ---- what can be written for one reader can be for whoever takes the numbers that it takes and leaves as many levels or more

pub content_wider : (padding other : Bool) → Takes padding other → (depth depth' : ℕ) → depth ≤ depth' → (c : Content) → ContentFits padding depth c
    → ContentFits other depth' c
content_wider padding other takes depth depth' l c f =
    record {
      id_low = f.id_low;
      id_high = f.id_high;
      id_number = f.id_number;
      serial_low = f.serial_low;
      serial_high = f.serial_high;
      serial_number = f.serial_number;
      kind = f.kind;
      nested = run_deeper padding other takes c.inner 0 depth depth' 0x01 (length c.inner) l f.nested;
    }

-- ---- the fields, in their run d

-- n bytes behind m bytes
next_part : (l : List ℕ) (p m n : ℕ) → take (m + n) (drop p l) ≡ take m (drop p l) ++ take n (drop (p + m) l)
next_part l p m n = take-add m n (drop p l) ∙ ap (λ (k : List ℕ). take m (drop p l) ++ take n k) (drop-drop m p l)

-- an id that stands is written as it came
record IdCame (d : List ℕ) (c : ReadingKey) : Type 0 where
  size : ℕ
  on : on_field c ≡ reading.At size 0
  bytes : take size d ≡ extended_guid_bytes (id.Named (key_guid (key_here c)) (key_here c).number)

named_came : (d : List ℕ) (r : ReadExtendedGuid) → AllBytes d → read_extended_guid (drop 0 d) ≡ r → StandsKey (named_key 0 (id_on 0 r)) → IdCame d (named_key 0 (id_on 0 r))
unfolding named_key key_here on_field
named_came d (extended.Value id.Null n) b e h = absurd h
named_came d (extended.Value (id.Named g x) n) b e h =
    record {
      size = n;
      on = ap (λ (m : ℕ). reading.At m 0) (zero-add n);
      bytes = (extended_guid_written_read (drop 0 d) (id.Named g x) n (drop_bytes 0 d b) e).0;
    }
named_came d (extended.Refused r) b e h = absurd h

id_came : (ids : List Key) (d : List ℕ) → AllBytes d → StandsKey (id_field ids d) → IdCame d (id_field ids d)
unfolding id_field id_here
id_came ids d b h =
    let r = read_extended_guid (drop 0 d) in
    let c = named_key 0 (id_on 0 r) in
    let f = fresh_stands 0 (seen same_key (key_here c) ids) c h in
    subst (IdCame d) (sym f.1) (named_came d r b refl f.2)

-- a serial number that stands goes on from behind itself, judged or not
any_on : (c : ReadingSerial) → on_field (any_key c) ≡ on_field c
unfolding any_key on_field
any_on (serial'.At q numbered.Null) = refl
any_on (serial'.At q (numbered.Numbered g x)) = refl
any_on (serial'.Refused r) = refl

serial_on_lem : (judges : Bool) (d : List ℕ) (c : Reading) → StandsKey (serial_field judges d c) → on_field (serial_field judges d c) ≡ on_field (serial_here d c)
unfolding serial_field
serial_on_lem judges d c h = ap on_field (sym (serial_beside judges false (λ e. impossible (cc)) d c h)) ∙ any_on (serial_here d c)

-- and its bytes are those of a serial number, null or not
record SerialCame (d : List ℕ) (at : ℕ) (c : Reading) : Type 0 where
  serial : Serial
  past : ℕ
  on : c ≡ reading.At past 0
  bytes : take (past - at) (drop at d) ≡ serial_bytes serial

serial_bytes_lem : (d : List ℕ) (at : ℕ) (r : ReadSerial) → AllBytes d → read_serial (drop at d) ≡ r → Stands (on_field (serial_on at r)) → SerialCame d at (on_field (serial_on at r))
unfolding on_field
serial_bytes_lem d at (serials'.Value x n) b e h =
    let m : at + n - at ≡ n = omega arith in
    record { serial = x; past = at + n; on = refl; bytes = rw m (serial_written_read (drop at d) x n (drop_bytes at d b) e).0 }
serial_bytes_lem d at (serials'.Refused r) b e h = absurd h

serial_came : (d : List ℕ) (at v : ℕ) → AllBytes d → Stands (on_field (serial_here d (reading.At at v))) → SerialCame d at (on_field (serial_here d (reading.At at v)))
unfolding serial_here
serial_came d at v b h = serial_bytes_lem d at (read_serial (drop at d)) b refl h

-- where padding is refused, a number is written as it came
compact_came : (d : List ℕ) (q n v : ℕ) (r : Compact) → AllBytes d → read_compact (drop q d) ≡ r → number_on q (accepted padding_refused r) ≡ reading.At n v
    → (q ≤ n) × (take (n - q) (drop q d) ≡ compact_bytes v) × (v < 2 ^ 64)
compact_came d q n v (compact.Value x w true) b e h = impossible (cc)
compact_came d q n v (compact.Value x w false) b e h =
    let y : q + w ≡ n = grind arith in
    let z : x ≡ v = grind arith in
    let m : n - q ≡ w = omega arith in
    let k = written_read (drop q d) x w (drop_bytes q d b) e in
    (omega arith, rw (m, ← z) k.0, rw (← z) k.1)
compact_came d q n v (compact.Refused r) b e h = impossible (cc)

number_came : (d : List ℕ) (q u n v : ℕ) → AllBytes d → number padding_refused d (reading.At q u) ≡ reading.At n v
    → (q ≤ n) × (take (n - q) (drop q d) ≡ compact_bytes v) × (v < 2 ^ 64)
unfolding number compact_for
number_came d q u n v b e = compact_came d q n v (read_compact (drop q d)) b refl e

-- the whole run
record RunCame (d : List ℕ) (id' : Key) (kind : ℕ) : Type 0 where
  serial : Serial
  bytes : d ≡ extended_guid_bytes (id.Named (key_guid id') id'.number) ++ (serial_bytes serial ++ compact_bytes kind)
  fits : kind < 2 ^ 64

run_came : (strict : Strictness) → strict.padding ≡ padding_refused → (ids : List Key) (d : List ℕ) (kind : ℕ) → AllBytes d
    → (fields_of strict ids d).last ≡ reading.At (length d) kind → RunCame d (fields_of strict ids d).id kind
unfolding fields_of
run_came strict refused ids d kind b e =
    let c = on_field (id_field ids d) in
    let f = serial_field strict.serials d c in
    let stands : Stands (number strict.padding d (on_field f)) = subst Stands (sym e) tt in
    let w = keys_stand strict ids d stands in
    let i = id_came ids d b w.0 in
    let a = serial_on_lem strict.serials d c w.1 in
    let came : SerialCame d i.size (on_field (serial_here d c)) =
    subst (λ (r : Reading). SerialCame d i.size (on_field (serial_here d r))) (sym i.on)
    (serial_came d i.size 0 b (subst (λ (r : Reading). Stands (on_field (serial_here d r))) i.on (subst Stands a (stands_number strict.padding d (on_field f) stands)))) in
    let q = came.past in
    let j = came.on in
    let l : Behind i.size (reading.At q 0) =
    subst (Behind i.size) j ((onward_serial d c).behind i.size (subst (Behind i.size) (sym i.on) (omega arith))) in
    let g : number strict.padding d (reading.At q 0) ≡ reading.At (length d) kind = ap (number strict.padding d) (sym (a ∙ j)) ∙ e in
    let k = number_came d q 0 (length d) kind b (subst (λ (p : Bool). number p d (reading.At q 0) ≡ reading.At (length d) kind) refused g) in
    let t = take (q - i.size) (drop i.size d) in
    let m : i.size + (q - i.size) ≡ q = omega arith in
    let r : drop i.size d ≡ t ++ compact_bytes kind =
    sym (take-append-drop (q - i.size) (drop i.size d))
    ∙ ap (λ (u : List ℕ). t ++ u) (drop-drop (q - i.size) i.size d ∙ ap (λ (n : ℕ). drop n d) m ∙ sym (tail_part q d) ∙ k.1) in
    let x = extended_guid_bytes (id.Named (key_guid (key_here (id_field ids d))) (key_here (id_field ids d)).number) in
    record {
      serial = came.serial;
      bytes = sym (take-append-drop i.size d)
          ∙ ap (λ (u : List ℕ). u ++ drop i.size d) i.bytes
          ∙ ap (λ (u : List ℕ). x ++ u) (r ∙ ap (λ (u : List ℕ). u ++ compact_bytes kind) came.bytes);
      fits = k.2;
    }

-- ---- where the parts of an element stand

pub place_value : (c : Reading) → Stands c → (q : ℕ) × (v : ℕ) × (c ≡ reading.At q v)
place_value (reading.At q v) h = (q, v, refl)
place_value (reading.Refused r) h = absurd h

-- the number that was read before an element does not matter
any_start : (padding : Bool) (s : List ℕ) (at u v : ℕ) → opened padding s (reading.At at u) ≡ opened padding s (reading.At at v)
unfolding start_here
any_start padding s at u v = refl

-- header, data and inside, one behind the other
pub record Layout (strict : Strictness) (ids : List Key) (s : List ℕ) (at v : ℕ) (x : Element) : Type 0 where
  pub from : ℕ
  pub size : ℕ
  pub header : ℕ
  pub rest : ℕ
  pub opens : opened strict.padding s (reading.At at v) ≡ reading.At from size
  pub first : from ≡ at + header
  pub long : x.length ≡ header + (size + rest)
  pub within : at + x.length ≤ length s
  pub place : x.place ≡ at
  pub id_is : x.id ≡ (fields_of strict ids (take size (drop from s))).id
  pub whole : length (take size (drop from s)) ≡ size
  pub fields : (fields_of strict ids (take size (drop from s))).last ≡ reading.At size x.kind
  pub nested : run_at strict.padding s (from + size) strict.levels 0x01 ≡ passed.To (from + size + rest)

pub element_layout : (strict : Strictness) (ids : List Key) (s : List ℕ) (at v : ℕ) (x : Element) → element_at strict ids s (reading.At at v) ≡ Is x
    → Layout strict ids s at v x
unfolding data_of run_here inside place_of value_of
element_layout strict ids s at v x h =
    let c = reading.At at v in
    let o = opened strict.padding s c in
    let p = element_parts strict ids s c x h in
    let y = element_some strict ids s at v x h in
    let stands = data_stands strict ids s c x h in
    let (from, size, e) = place_value o (stands_closed s o (fields_of strict ids (run_here s o)).last stands).0 in
    let d = take size (drop from s) in
    let f = (fields_of strict ids d).last in
    let (q, kind, g) = place_value (data_of strict ids s c) stands in
    let w : data_of strict ids s c ≡ closed s (reading.At from size) f =
    ap (λ (r : Reading). closed s r (fields_of strict ids (run_here s r)).last) e in
    let k = closed_from size (length d) f from q kind (sym w ∙ g) in
    let n : length d ≡ size = let z = length-take size (drop from s) in let u = k.whole in omega arith in
    let r : k.read ≤ length d = subst (GoodIn (length d)) k.fields (good_fields strict ids d) in
    let m : k.read ≡ size = let u = k.all in omega arith in
    let j : q ≡ from + size = let u = k.past in omega arith in
    let i = inside_on_lem (run_at strict.padding s q strict.levels 0x01) p.end p.stop (sym (ap (inside strict.padding s strict.levels 0x01) g) ∙ p.reached) in
    let t = run_next strict.padding s q strict.levels 0x01 p.end i.0 in
    let b : at ≤ from = subst (Behind at) e ((onward_start strict.padding s 0x15 0x01 true true c).behind at (behind_place c)) in
    let l = p.length' in
    let z : p.end ≡ from + size + (p.end - (from + size)) = omega arith in
    record {
      from = from;
      size = size;
      header = from - at;
      rest = p.end - (from + size);
      opens = e;
      first = omega arith;
      long = omega arith;
      within = y.2;
      place = y.0;
      id_is = p.id ∙ ap (λ (r : Reading). (fields_of strict ids (run_here s r)).id) e;
      whole = n;
      fields = k.fields ∙ ap (λ (u : ℕ). reading.At u kind) m ∙ ap (reading.At size) (sym (p.kind ∙ ap value_of g));
      nested = ap (λ (u : ℕ). run_at strict.padding s u strict.levels 0x01) (sym j) ∙ i.0 ∙ ap passed.To z;
    }

-- ---- an element as a content

-- the data of its start, with this serial number: id, serial number and type as they are written
abbrev pub data_with : Serial → Element → List ℕ
data_with serial x = extended_guid_bytes (id.Named (key_guid x.id) x.id.number) ++ (serial_bytes serial ++ compact_bytes x.kind)

-- what its own bytes are made of: the header of a start with just this data, the data with the serial number that it came with, and what is
-- inside
pub record OwnBytes (s : List ℕ) (x : Element) : Type 0 where
  pub header : List ℕ
  pub serial : Serial
  pub starts : opened padding_refused s (reading.At x.place 0) ≡ reading.At (x.place + length header) (length (data_with serial x))
  pub bytes : take x.length (drop x.place s) ≡ header ++ (data_with serial x ++ inside_of s x)

module _ (strict : Strictness) (ids : List Key) (s : List ℕ) (at v : ℕ) (x : Element) (b : AllBytes s) (refused : strict.padding ≡ padding_refused)
    (h : element_at strict ids s (reading.At at v) ≡ Is x) where
  layout : Layout strict ids s at v x
  layout = element_layout strict ids s at v x h

  abbrev run : List ℕ
  run = take layout.size (drop layout.from s)

  run_all_bytes : AllBytes run
  unfolding run_here
  run_all_bytes = run_bytes s (reading.At layout.from layout.size) b

  run_fields : RunCame run x.id x.kind
  run_fields =
      subst (λ (k : Key). RunCame run k x.kind) (sym layout.id_is)
      (run_came strict refused ids run x.kind run_all_bytes (layout.fields ∙ ap (λ (n : ℕ). reading.At n x.kind) (sym layout.whole)))

  opens_refused : opened padding_refused s (reading.At x.place 0) ≡ reading.At layout.from layout.size
  opens_refused =
      ap (λ (p : ℕ). opened padding_refused s (reading.At p 0)) layout.place
      ∙ any_start padding_refused s at 0 v
      ∙ subst (λ (p : Bool). opened p s (reading.At at v) ≡ reading.At layout.from layout.size) refused layout.opens

  -- its inside is what lies behind its data, up to its end
  inside_is : inside_of s x ≡ take layout.rest (drop (layout.from + layout.size) s)
  unfolding inside_of
  inside_is =
      let n : x.place + x.length - (layout.from + layout.size) ≡ layout.rest =
      let f = layout.first in let l = layout.long in let p = layout.place in omega arith in
      ap (behind_data s (x.place + x.length)) opens_refused ∙ ap (λ (k : ℕ). take k (drop (layout.from + layout.size) s)) n

  inside_length : length (inside_of s x) ≡ layout.rest
  inside_length =
      ap length inside_is
      ∙ part_length (layout.from + layout.size) layout.rest s
      (let f = layout.first in let l = layout.long in let w = layout.within in omega arith)

  inside_nested : run_at strict.padding (inside_of s x) 0 strict.levels 0x01 ≡ passed.To (length (inside_of s x))
  inside_nested =
      let p = layout.from + layout.size in
      let n = layout.rest in
      let l : length (take n (drop p s)) ≡ n = sym (ap length inside_is) ∙ inside_length in
      run_local strict.padding s p (inside_of s x) 0 strict.levels 0x01 n layout.nested
      (same_front s p n (inside_of s x) 0 [] l (inside_is ∙ sym (append-nil (take n (drop p s)))))
      ∙ ap passed.To (zero-add n ∙ sym inside_length)

  -- it can be written anew, with any serial number that can be
  pub content_fits : (serial : Key) → NumberedFits serial → ContentFits strict.padding strict.levels (content_in s x serial)
  content_fits serial f =
      let i = id_fits strict ids run run_all_bytes in
      let e = layout.id_is in
      record {
        id_low = rw e i.0.0;
        id_high = rw e i.0.1;
        id_number = rw e i.1;
        serial_low = f.0.0;
        serial_high = f.0.1;
        serial_number = f.1;
        kind = run_fields.fits;
        nested = inside_nested;
      }

  abbrev front : List ℕ
  front = take layout.header (drop at s)

  front_starts : opened padding_refused s (reading.At x.place 0) ≡ reading.At (x.place + length front) (length (data_with run_fields.serial x))
  front_starts =
      let k = part_length at layout.header s (let l = layout.long in let w = layout.within in omega arith) in
      let f : layout.from ≡ x.place + length front = let p = layout.place in let e = layout.first in omega arith in
      let n : layout.size ≡ length (data_with run_fields.serial x) = sym layout.whole ∙ ap length run_fields.bytes in
      opens_refused ∙ ap (λ (p : ℕ). reading.At p layout.size) f ∙ ap (reading.At (x.place + length front)) n

  pub own_bytes_lem : OwnBytes s x
  own_bytes_lem =
      let f = layout.from in
      let n = layout.size in
      let k = layout.header in
      let m = layout.rest in
      let c = run_fields in
      let a : take x.length (drop x.place s) ≡ front ++ take (n + m) (drop f s) =
      ap (λ (l : ℕ). take l (drop x.place s)) layout.long
      ∙ ap (λ (p : ℕ). take (k + (n + m)) (drop p s)) layout.place
      ∙ next_part s at k (n + m)
      ∙ ap (λ (p : ℕ). front ++ take (n + m) (drop p s)) (sym layout.first) in
      let g : take (n + m) (drop f s) ≡ run ++ inside_of s x = next_part s f n m ∙ ap (λ (l : List ℕ). run ++ l) (sym inside_is) in
      record {
        header = front;
        serial = c.serial;
        starts = front_starts;
        bytes = a ∙ ap (λ (l : List ℕ). front ++ l) (g ∙ ap (λ (l : List ℕ). l ++ inside_of s x) c.bytes);
      }
