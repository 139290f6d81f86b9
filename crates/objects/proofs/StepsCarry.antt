-- A step depends only on its own bytes: what it read without fault reads the same when these bytes are set down anywhere else,
-- followed by anything. A layout has this by its steps, one after the other.
-- Assumes nothing.
use mathlib.Core.Path.{◌≡◌, refl, sym, ap, subst, ◌∙◌}
use mathlib.Core.Bool.{Bool, true, false}
use mathlib.Core.List.{List}
use Prim.Native.Nat.{ℕ, ◌+◌, ◌-◌, ◌<◌, ◌≤◌}
use native.Mathlib.Nat.{add-zero}
use native.Mathlib.Omega.{arith}
use lib.ListN.{length, take, drop, length-drop, length-take}
use lib.Dec.{eqb}
use borrow.Author.Tests.{lt-ltb, le-ltb, eq-eqb, eqb-true}
use Rattle.laws.specs.Pick.{pick}
use Rattle.laws.specs.Bytes.{le}
use Rattle.laws.proofs.Cases.{by_bool, by_lt, impossible}
use Rattle.laws.proofs.Parts.{same_part}
use Rattle.laws.proofs.Agreement.{agree_less, Same, same_less, same_on}
use Rattle.numbers.specs.Refusals.{fault_at}
use Rattle.numbers.specs.Compact.{compact_for}
use Rattle.numbers.specs.Guid.{guid_at}
use Rattle.numbers.specs.ExtendedGuid.{read_extended_guid}
use Rattle.numbers.specs.Serial.{read_serial}
use Rattle.numbers.specs.declared.refusal.Refusal.{Refusal}
use Rattle.numbers.specs.Results.Compact.{Compact}
use Rattle.numbers.specs.Results.Compact as compact
use Rattle.numbers.specs.declared.guid.Guid.{Guid}
use Rattle.numbers.specs.Results.ExtendedGuid.{ExtendedGuid}
use Rattle.numbers.specs.Results.ExtendedGuid as id
use Rattle.numbers.specs.Results.ReadExtendedGuid.{ReadExtendedGuid}
use Rattle.numbers.specs.Results.ReadExtendedGuid as extended
use Rattle.numbers.specs.Results.Serial.{Serial}
use Rattle.numbers.specs.Results.ReadSerial.{ReadSerial}
use Rattle.numbers.specs.Results.ReadSerial as serial
use Rattle.numbers.proofs.Within.{ExtendedGuidWithin, extended_guid_within, SerialWithin, serial_within}
use Rattle.numbers.proofs.OwnBytes.{compact_for_own, extended_guid_own, serial_own}
use Rattle.objects.specs.Header.{header_at, length_at}
use Rattle.objects.specs.Nesting.{run_at}
use Rattle.objects.specs.Steps.{no, place_of, value_of, valued, need, fixed_in, number_on, number, number_is_on, number_is, null_id_on, null_id, skip, guid_here, id_on, id_here, serial_on, serial_here, same_bit, length_to, start_on, start_here, length_is, start_of_length, end_on, end_here, next_is, inside_on, inside, run_here, closed_at, in_run, on_field}
use Rattle.objects.specs.Results.Header.{ReadHeader}
use Rattle.objects.specs.Results.Header as header
use Rattle.objects.specs.Results.Length.{Length}
use Rattle.objects.specs.Results.Length as length'
use Rattle.objects.specs.Results.Passed.{Passed}
use Rattle.objects.specs.Results.Passed as passed
use Rattle.objects.specs.Results.Reading.{At, Reading, Refused}
use Rattle.objects.specs.Results.ReadingGuid.{ReadingGuid}
use Rattle.objects.specs.Results.ReadingGuid as guid'
use Rattle.objects.specs.Results.ReadingId.{ReadingId}
use Rattle.objects.specs.Results.ReadingId as id'
use Rattle.objects.specs.Results.ReadingSerial.{ReadingSerial}
use Rattle.objects.specs.Results.ReadingSerial as serial'
use Rattle.objects.proofs.HeaderLaws.{compact_fits, length_fits_at}
use Rattle.objects.proofs.Ahead.{run_next}
use Rattle.objects.proofs.Local.{start_local, end_local, length_local, run_local}

-- ---- what a step took

pub record Took (step : List ℕ → Reading → Reading) (s : List ℕ) (p u q v : ℕ) : Type 0 where
  pub size : ℕ
  pub past : q ≡ p + size
  pub there : (t : List ℕ) (p' : ℕ) → Same s p t p' size → step t (At p' u) ≡ At (p' + size) v

-- a step that does nothing after a fault, and depends only on what it took
pub record Carries (step : List ℕ → Reading → Reading) : Type 0 where
  pub fault : (s : List ℕ) (r : Refusal) → step s (Refused r) ≡ Refused r
  pub took : (s : List ℕ) (p u q v : ℕ) → step s (At p u) ≡ At q v → Took step s p u q v

-- what is seen where a step reads, by the bytes that it takes
pub record Gives {A : Type 0} (step : List ℕ → Reading → Reading) (got : List ℕ → Reading → A) : Type 0 where
  pub alike : (s : List ℕ) (p u n v : ℕ) → step s (At p u) ≡ At (p + n) v → (t : List ℕ) (p' : ℕ) → Same s p t p' n → got t (At p' u) ≡ got s (At p u)

-- what was read without fault, set down anywhere and followed by anything
pub carries_to : {step : List ℕ → Reading → Reading} → Carries step → (s : List ℕ) (p u n v : ℕ) → step s (At p u) ≡ At (p + n) v
    → (t : List ℕ) (p' : ℕ) → Same s p t p' n → step t (At p' u) ≡ At (p' + n) v
carries_to {step} f s p u n v e t p' a =
    let k = f.took s p u (p + n) v e in
    let z : n ≡ k.size = let y = k.past in omega arith in
    let b : Same s p t p' k.size = rw (← z) a in
    rw z (k.there t p' b)

-- as far as the place behind it
pub carries_span : {step : List ℕ → Reading → Reading} → Carries step → (s : List ℕ) (p u q v : ℕ) → step s (At p u) ≡ At q v
    → step s (At p u) ≡ At (p + (q - p)) v
carries_span {step} f s p u q v e = let y = (f.took s p u q v e).past in e ∙ ap (λ (n : ℕ). At n v) (omega arith)

-- ---- one step and then the next

record Between (first next : List ℕ → Reading → Reading) (s : List ℕ) (p u q v : ℕ) : Type 0 where
  size : ℕ
  rest : ℕ
  value : ℕ
  before : first s (At p u) ≡ At (p + size) value
  behind : next s (At (p + size) value) ≡ At (p + size + rest) v
  whole : q ≡ p + (size + rest)

module _ {first next : List ℕ → Reading → Reading} (f : Carries first) (g : Carries next) where
  between_on : (s : List ℕ) (p u q v : ℕ) (c : Reading) → first s (At p u) ≡ c → next s c ≡ At q v → Between first next s p u q v
  between_on s p u q v (At m w) a b =
      let i = f.took s p u m w a in
      let j = g.took s m w q v b in
      let y : m ≡ p + i.size = i.past in
      let z : q ≡ m + j.size = j.past in
      let x : q ≡ p + i.size + j.size = z ∙ ap (λ (n : ℕ). n + j.size) y in
      let d : first s (At p u) ≡ At (p + i.size) w = a ∙ ap (λ (n : ℕ). At n w) y in
      let e : next s (At (p + i.size) w) ≡ At (p + i.size + j.size) v =
      ap (λ (n : ℕ). next s (At n w)) (sym y) ∙ b ∙ ap (λ (n : ℕ). At n v) x in
      record { size = i.size; rest = j.size; value = w; before = d; behind = e; whole = omega arith }
  between_on s p u q v (Refused r) a b = let z : Refused r ≡ At q v = sym (g.fault s r) ∙ b in impossible (cc)

  between : (s : List ℕ) (p u q v : ℕ) → next s (first s (At p u)) ≡ At q v → Between first next s p u q v
  between s p u q v e = between_on s p u q v (first s (At p u)) refl e

  then_took : (s : List ℕ) (p u q v : ℕ) → next s (first s (At p u)) ≡ At q v → Took (λ t c. next t (first t c)) s p u q v
  then_took s p u q v e =
      let b = between s p u q v e in
      record { size = b.size + b.rest; past = b.whole; there = λ t p' a. go b t p' a }
    where
      go : (b : Between first next s p u q v) (t : List ℕ) (p' : ℕ) → Same s p t p' (b.size + b.rest)
          → next t (first t (At p' u)) ≡ At (p' + (b.size + b.rest)) v
      go b t p' a =
          let x = same_less s p t p' (b.size + b.rest) b.size (omega arith) a in
          let y = same_on s p t p' b.size b.rest a in
          ap (next t) (carries_to f s p u b.size b.value b.before t p' x)
          ∙ carries_to g s (p + b.size) b.value b.rest v b.behind t (p' + b.size) y
          ∙ ap (λ (n : ℕ). At n v) (omega arith)

  pub carries_then : Carries (λ s c. next s (first s c))
  carries_then = record { fault = λ s r. ap (next s) (f.fault s r) ∙ g.fault s r; took = then_took }

  -- what is seen where the first reads
  pub gives_first : {A : Type 0} {got : List ℕ → Reading → A} → Gives first got → Gives (λ s c. next s (first s c)) got
  gives_first h =
      record {
        alike =
            λ s p u n v e t p' a.
            let b = between s p u (p + n) v e in
            let w = b.whole in
            h.alike s p u b.size b.value b.before t p' (same_less s p t p' n b.size (omega arith) a);
      }

  -- what is seen where the next reads
  pub gives_next : {A : Type 0} {got : List ℕ → Reading → A} → Gives next got → Gives (λ s c. next s (first s c)) (λ s c. got s (first s c))
  gives_next {A} {got} h =
      record {
        alike =
            λ s p u n v e t p' a.
            let b = between s p u (p + n) v e in
            let w = b.whole in
            let z : n ≡ b.size + b.rest = omega arith in
            let i : Same s p t p' (b.size + b.rest) = rw (← z) a in
            let x = same_less s p t p' (b.size + b.rest) b.size (omega arith) i in
            let y = same_on s p t p' b.size b.rest i in
            ap (got t) (carries_to f s p u b.size b.value b.before t p' x)
            ∙ h.alike s (p + b.size) b.value b.rest v b.behind t (p' + b.size) y
            ∙ ap (got s) (sym b.before);
      }

pub gives_all : {A : Type 0} {step : List ℕ → Reading → Reading} (x : A) → Gives step (λ s c. x)
gives_all x = record { alike = λ s p u n v e t p' a. refl }

-- the number that the step itself reads
pub gives_value : {step : List ℕ → Reading → Reading} → Carries step → Gives step (λ s c. value_of (step s c))
unfolding value_of
gives_value {step} f = record { alike = λ s p u n v e t p' a. ap value_of (carries_to f s p u n v e t p' a) ∙ ap value_of (sym e) }

-- what does not depend on the place
pub gives_free : {A : Type 0} {step : List ℕ → Reading → Reading} (of : Reading → A) → ((p q u : ℕ) → of (At p u) ≡ of (At q u)) → Gives step (λ s c. of c)
gives_free of free = record { alike = λ s p u n v e t p' a. free p' p u }

pub gives_by : {A B : Type 0} {step : List ℕ → Reading → Reading} {got : List ℕ → Reading → A} (of : A → B) → Gives step got
    → Gives step (λ s c. of (got s c))
gives_by of h = record { alike = λ s p u n v e t p' a. ap of (h.alike s p u n v e t p' a) }

pub gives_both : {A B C : Type 0} {step : List ℕ → Reading → Reading} {got : List ℕ → Reading → A} {other : List ℕ → Reading → B} (of : A → B → C)
    → Gives step got → Gives step other → Gives step (λ s c. of (got s c) (other s c))
gives_both of h i = record { alike = λ s p u n v e t p' a. rw (h.alike s p u n v e t p' a, i.alike s p u n v e t p' a) }

-- ---- the same step, or the same seen

pub carries_same : {step other : List ℕ → Reading → Reading} → ((s : List ℕ) (c : Reading) → other s c ≡ step s c) → Carries step → Carries other
carries_same {step} {other} h f =
    record { fault = λ s r. h s (Refused r) ∙ f.fault s r; took = λ s p u q v e. go s p u q v (f.took s p u q v (sym (h s (At p u)) ∙ e)) }
  where
    go : (s : List ℕ) (p u q v : ℕ) → Took step s p u q v → Took other s p u q v
    go s p u q v k = record { size = k.size; past = k.past; there = λ t p' a. h t (At p' u) ∙ k.there t p' a }

pub gives_same : {A : Type 0} {step other : List ℕ → Reading → Reading} {got seen : List ℕ → Reading → A} → ((s : List ℕ) (c : Reading) → other s c ≡ step s c)
    → ((s : List ℕ) (c : Reading) → seen s c ≡ got s c) → Gives step got → Gives other seen
gives_same h i k =
    record {
      alike =
          λ s p u n v e t p' a.
          i t (At p' u) ∙ k.alike s p u n v (sym (h s (At p u)) ∙ e) t p' a ∙ sym (i s (At p u));
    }

-- ---- one step and then a next that depends on what was seen there

module _ {A : Type 0} {first : List ℕ → Reading → Reading} {next : A → List ℕ → Reading → Reading} {got : List ℕ → Reading → A}
    (f : Carries first) (h : Gives first got) (g : (x : A) → Carries (next x)) where
  seen_there : (s : List ℕ) (p u n v : ℕ) → next (got s (At p u)) s (first s (At p u)) ≡ At (p + n) v → (t : List ℕ) (p' : ℕ) → Same s p t p' n
      → got t (At p' u) ≡ got s (At p u)
  seen_there s p u n v e t p' a = (gives_first f (g (got s (At p u))) h).alike s p u n v e t p' a

  by_took : (s : List ℕ) (p u q v : ℕ) → next (got s (At p u)) s (first s (At p u)) ≡ At q v → Took (λ t c. next (got t c) t (first t c)) s p u q v
  by_took s p u q v e =
      let x = got s (At p u) in
      let k = (carries_then f (g x)).took s p u q v e in
      let y : next x s (first s (At p u)) ≡ At (p + k.size) v = e ∙ ap (λ (n : ℕ). At n v) k.past in
      record {
        size = k.size;
        past = k.past;
        there = λ t p' a. ap (λ (z : A). next z t (first t (At p' u))) (seen_there s p u k.size v y t p' a) ∙ k.there t p' a;
      }

  pub carries_by : Carries (λ s c. next (got s c) s (first s c))
  carries_by =
      record {
        fault = λ s r. ap (next (got s (Refused r)) s) (f.fault s r) ∙ (g (got s (Refused r))).fault s r;
        took = λ s p u q v e. by_took s p u q v e;
      }

  pub gives_by_first : {B : Type 0} {seen : List ℕ → Reading → B} → Gives first seen → Gives (λ s c. next (got s c) s (first s c)) seen
  gives_by_first i = record { alike = λ s p u n v e t p' a. (gives_first f (g (got s (At p u))) i).alike s p u n v e t p' a }

  pub gives_by_next : {B : Type 0} {seen : A → List ℕ → Reading → B} → ((x : A) → Gives (next x) (seen x))
      → Gives (λ s c. next (got s c) s (first s c)) (λ s c. seen (got s c) s (first s c))
  gives_by_next {B} {seen} i =
      record {
        alike =
            λ s p u n v e t p' a.
            let x = got s (At p u) in
            ap (λ (z : A). seen z t (first t (At p' u))) (seen_there s p u n v e t p' a) ∙ (gives_next f (g x) (i x)).alike s p u n v e t p' a;
      }

-- ---- a choice by what is seen

module _ {first other : List ℕ → Reading → Reading} {test : List ℕ → Reading → Bool} where
  pick_took : Carries first → Carries other → Gives first test → Gives other test → (s : List ℕ) (p u q v : ℕ)
      → pick (test s (At p u)) (first s (At p u)) (other s (At p u)) ≡ At q v
      → Took (λ t c. pick (test t c) (first t c) (other t c)) s p u q v
  pick_took f g h i s p u q v e =
      by_bool (test s (At p u))
      (λ b.
      let x : first s (At p u) ≡ At q v = rw b at e in
      let k = f.took s p u q v x in
      let y : first s (At p u) ≡ At (p + k.size) v = x ∙ ap (λ (n : ℕ). At n v) k.past in
      record { size = k.size; past = k.past; there = λ t p' a. rw (h.alike s p u k.size v y t p' a ∙ b) (k.there t p' a) })
      (λ b.
      let x : other s (At p u) ≡ At q v = rw b at e in
      let k = g.took s p u q v x in
      let y : other s (At p u) ≡ At (p + k.size) v = x ∙ ap (λ (n : ℕ). At n v) k.past in
      record { size = k.size; past = k.past; there = λ t p' a. rw (i.alike s p u k.size v y t p' a ∙ b) (k.there t p' a) })

  pick_fault : Carries first → Carries other → Gives first test → (s : List ℕ) (r : Refusal)
      → pick (test s (Refused r)) (first s (Refused r)) (other s (Refused r)) ≡ Refused r
  pick_fault f g h s r = by_bool (test s (Refused r)) (λ b. rw b (f.fault s r)) (λ b. rw b (g.fault s r))

  pub carries_pick : Carries first → Carries other → Gives first test → Gives other test → Carries (λ s c. pick (test s c) (first s c) (other s c))
  carries_pick f g h i = record { fault = pick_fault f g h; took = pick_took f g h i }

  -- what is seen by the choice
  pub gives_picked : {A : Type 0} {got seen : List ℕ → Reading → A} → Gives first test → Gives other test → Gives first got → Gives other seen
      → Gives (λ s c. pick (test s c) (first s c) (other s c)) (λ s c. pick (test s c) (got s c) (seen s c))
  gives_picked h i f g =
      record {
        alike =
            λ s p u n v e t p' a.
            by_bool (test s (At p u))
            (λ b.
            let x : first s (At p u) ≡ At (p + n) v = rw b at e in
            rw (h.alike s p u n v x t p' a ∙ b, b) (f.alike s p u n v x t p' a))
            (λ b.
            let x : other s (At p u) ≡ At (p + n) v = rw b at e in
            rw (i.alike s p u n v x t p' a ∙ b, b) (g.alike s p u n v x t p' a));
      }

  -- what is seen where either reads
  pub gives_pick : {A : Type 0} {got : List ℕ → Reading → A} → Gives first test → Gives first got → Gives other got
      → Gives (λ s c. pick (test s c) (first s c) (other s c)) got
  gives_pick h f g =
      record {
        alike =
            λ s p u n v e t p' a.
            by_bool (test s (At p u)) (λ b. f.alike s p u n v (rw b at e) t p' a) (λ b. g.alike s p u n v (rw b at e) t p' a);
      }

-- ---- steps that take no bytes

pub carries_none : Carries (λ s c. c)
carries_none = record { fault = λ s r. refl; took = λ s p u q v e. none s p u q v e }
  where
    none : (s : List ℕ) (p u q v : ℕ) → At p u ≡ At q v → Took (λ t c. c) s p u q v
    none s p u q v e =
        let x : p ≡ q = grind arith in
        let y : u ≡ v = grind arith in
        record { size = 0; past = omega arith; there = λ t p' a. rw (add-zero, y) }

-- on at the same place
module _ (on : Reading → Reading) (stays : (r : Refusal) → on (Refused r) ≡ Refused r)
    (moves : (p u q v : ℕ) → on (At p u) ≡ At q v → (q ≡ p) × ((p' : ℕ) → on (At p' u) ≡ At p' v)) where
  still_took : (s : List ℕ) (p u q v : ℕ) → on (At p u) ≡ At q v → Took (λ t c. on c) s p u q v
  still_took s p u q v e =
      let o = moves p u q v e in
      record { size = 0; past = o.0 ∙ sym (add-zero p); there = λ t p' a. rw add-zero (o.1 p') }

  pub carries_still : Carries (λ s c. on c)
  carries_still = record { fault = λ s r. stays r; took = still_took }

pub carries_valued : (x : ℕ) → Carries (λ s c. valued x c)
unfolding valued
carries_valued x = carries_still (λ c. valued x c) (λ r. refl) (λ p u q v e. let y : p ≡ q = grind arith in let z : x ≡ v = grind arith in (sym y, λ p'. rw z))

-- a test, whose place does not matter where it holds
module _ {step : List ℕ → Reading → Reading} {fine : List ℕ → Reading → Bool} (k : ℕ) (place : List ℕ → Reading → ℕ) where
  need_took : Carries step → Gives step fine → (s : List ℕ) (p u q v : ℕ) (c : Reading) → step s (At p u) ≡ c
      → need (fine s (At p u)) k (place s (At p u)) c ≡ At q v → Took (λ t d. need (fine t d) k (place t d) (step t d)) s p u q v
  unfolding need
  need_took f h s p u q v (At m w) a e =
      by_bool (fine s (At p u))
      (λ b.
      let x : At m w ≡ At q v = rw b at e in
      let i = f.took s p u q v (a ∙ x) in
      let y : step s (At p u) ≡ At (p + i.size) v = a ∙ x ∙ ap (λ (n : ℕ). At n v) i.past in
      record { size = i.size; past = i.past; there = λ t p' j. rw (i.there t p' j, h.alike s p u i.size v y t p' j, b) })
      (λ b. let x : no k (place s (At p u)) ≡ At q v = rw b at e in impossible (cc))
  need_took f h s p u q v (Refused r) a e = impossible (cc)

  pub carries_need : Carries step → Gives step fine → Carries (λ s c. need (fine s c) k (place s c) (step s c))
  unfolding need
  carries_need f h =
      record {
        fault = λ s r. rw (f.fault s r);
        took = λ s p u q v e. need_took f h s p u q v (step s (At p u)) refl e;
      }

-- a test that does not depend on what is read
pub carries_test : (fine : Bool) (k p : ℕ) → Carries (λ s c. need fine k p c)
carries_test fine k p = carries_need k (λ s c. p) carries_none (gives_all fine)

-- ---- fields

-- bytes that are there
there_long : (s : List ℕ) (p : ℕ) (t : List ℕ) (p' n : ℕ) → Same s p t p' n → n ≤ length t - p'
there_long s p t p' n a = omega (arith, a.long, length-drop p' t)

fixed_took : (n least most k : ℕ) (s : List ℕ) (p u q v : ℕ) → fixed_in s n least most k (At p u) ≡ At q v → Took (λ t c. fixed_in t n least most k c) s p u q v
unfolding fixed_in
fixed_took n least most k s p u q v e =
    let x = le (take n (drop p s)) in
    by_lt (length s - p) n
    (λ l. let z : no 2 p ≡ At q v = rw (lt-ltb _ _ l) at e in impossible (cc))
    (λ l.
    by_lt x least
    (λ m. let z : no k p ≡ At q v = rw (le-ltb _ _ l, lt-ltb _ _ m) at e in impossible (cc))
    (λ m.
    by_lt most x
    (λ i. let z : no k p ≡ At q v = rw (le-ltb _ _ l, le-ltb _ _ m, lt-ltb _ _ i) at e in impossible (cc))
    (λ i.
    let z : At (p + n) x ≡ At q v = rw (le-ltb _ _ l, le-ltb _ _ m, le-ltb _ _ i) at e in
    let y : p + n ≡ q = grind arith in
    let w : x ≡ v = grind arith in
    record {
      size = n;
      past = sym y;
      there = λ t p' a. rw (le-ltb _ _ (there_long s p t p' n a), ← a.same, le-ltb _ _ m, le-ltb _ _ i, w);
    })))

pub carries_fixed : (n least most k : ℕ) → Carries (λ s c. fixed_in s n least most k c)
unfolding fixed_in
carries_fixed n least most k = record { fault = λ s r. refl; took = λ s p u q v e. fixed_took n least most k s p u q v e }

skip_took : (n : ℕ) (s : List ℕ) (p u q v : ℕ) → skip s n (At p u) ≡ At q v → Took (λ t c. skip t n c) s p u q v
unfolding skip
skip_took n s p u q v e =
    by_lt (length s - p) n
    (λ l. let z : no 2 p ≡ At q v = rw (lt-ltb _ _ l) at e in impossible (cc))
    (λ l.
    let z : At (p + n) 0 ≡ At q v = rw (le-ltb _ _ l) at e in
    let y : p + n ≡ q = grind arith in
    let w : 0 ≡ v = grind arith in
    record { size = n; past = sym y; there = λ t p' a. rw (le-ltb _ _ (there_long s p t p' n a), w) })

pub carries_skip : (n : ℕ) → Carries (λ s c. skip s n c)
unfolding skip
carries_skip n = record { fault = λ s r. refl; took = λ s p u q v e. skip_took n s p u q v e }

number_took : (padding : Bool) (s : List ℕ) (p u q v : ℕ) (r : Compact) → compact_for padding (drop p s) ≡ r → number_on p r ≡ At q v → Took (number padding) s p u q v
unfolding number
number_took padding s p u q v (compact.Value x n padded) a e =
    let y : p + n ≡ q = grind arith in
    let w : x ≡ v = grind arith in
    let f = compact_fits padding s p x n padded a in
    record { size = n; past = sym y; there = λ t p' i. rw (compact_for_own padding (drop p s) (drop p' t) x n padded a f.0 i, w) }
number_took padding s p u q v (compact.Refused r) a e = impossible (cc)

pub carries_number : (padding : Bool) → Carries (number padding)
unfolding number
carries_number padding = record { fault = λ s r. refl; took = λ s p u q v e. number_took padding s p u q v (compact_for padding (drop p s)) refl e }

number_is_took : (padding : Bool) (x k : ℕ) (s : List ℕ) (p u q v : ℕ) (r : Compact) → compact_for padding (drop p s) ≡ r → number_is_on x k p r ≡ At q v
    → Took (λ t c. number_is padding t x k c) s p u q v
unfolding number_is
number_is_took padding x k s p u q v (compact.Value y n padded) a e =
    by_bool (eqb y x)
    (λ b.
    let z : At (p + n) y ≡ At q v = rw b at e in
    let w : p + n ≡ q = grind arith in
    let o : y ≡ v = grind arith in
    let f = compact_fits padding s p y n padded a in
    record { size = n; past = sym w; there = λ t p' i. rw (compact_for_own padding (drop p s) (drop p' t) y n padded a f.0 i, b, o) })
    (λ b. let z : no k p ≡ At q v = rw b at e in impossible (cc))
number_is_took padding x k s p u q v (compact.Refused r) a e = impossible (cc)

pub carries_number_is : (padding : Bool) (x k : ℕ) → Carries (λ s c. number_is padding s x k c)
unfolding number_is
carries_number_is padding x k = record { fault = λ s r. refl; took = λ s p u q v e. number_is_took padding x k s p u q v (compact_for padding (drop p s)) refl e }

-- ---- fields that are more than a number, with what they hold

id_size : (s : List ℕ) (p : ℕ) (x : ExtendedGuid) (n : ℕ) → read_extended_guid (drop p s) ≡ extended.Value x n → 0 < n
id_size s p x n e = (subst (ExtendedGuidWithin (length (drop p s))) e (extended_guid_within (drop p s))).0

null_took : (k : ℕ) (s : List ℕ) (p u q v : ℕ) (r : ReadExtendedGuid) → read_extended_guid (drop p s) ≡ r → null_id_on k p r ≡ At q v
    → Took (λ t c. null_id t k c) s p u q v
unfolding null_id
null_took k s p u q v (extended.Value id.Null n) a e =
    let y : p + n ≡ q = grind arith in
    let w : 0 ≡ v = grind arith in
    record { size = n; past = sym y; there = λ t p' i. rw (extended_guid_own (drop p s) (drop p' t) id.Null n a (id_size s p id.Null n a) i, w) }
null_took k s p u q v (extended.Value (id.Named g x) n) a e = impossible (cc)
null_took k s p u q v (extended.Refused r) a e = impossible (cc)

pub carries_null_id : (k : ℕ) → Carries (λ s c. null_id s k c)
unfolding null_id
carries_null_id k = record { fault = λ s r. refl; took = λ s p u q v e. null_took k s p u q v (read_extended_guid (drop p s)) refl e }

-- the step of a GUID, of an id and of a serial number
abbrev pub guid_step : List ℕ → Reading → Reading
guid_step s c = on_field (guid_here s c)

abbrev pub id_step : List ℕ → Reading → Reading
id_step s c = on_field (id_here s c)

abbrev pub serial_step : List ℕ → Reading → Reading
serial_step s c = on_field (serial_here s c)

-- a value that was read at p, and that its own bytes give anywhere; `at q x` is x, read up to q
record Held {A X : Type 0} (here : List ℕ → Reading → X) (at : ℕ → A → X) (s : List ℕ) (p u q : ℕ) : Type 0 where
  size : ℕ
  value : A
  past : q ≡ p + size
  read : here s (At p u) ≡ at (p + size) value
  there : (t : List ℕ) (p' : ℕ) → Same s p t p' size → here t (At p' u) ≡ at (p' + size) value

record Item {A X : Type 0} (here : List ℕ → Reading → X) (on : X → Reading) (at : ℕ → A → X) : Type 0 where
  read : (p : ℕ) (x : A) → on (at p x) ≡ At p 0
  fault : (s : List ℕ) (r : Refusal) → on (here s (Refused r)) ≡ Refused r
  held : (s : List ℕ) (p u q v : ℕ) → on (here s (At p u)) ≡ At q v → Held here at s p u q

module _ {A X : Type 0} {here : List ℕ → Reading → X} {on : X → Reading} {at : ℕ → A → X} (i : Item here on at) where
  item_took : (s : List ℕ) (p u q v : ℕ) → on (here s (At p u)) ≡ At q v → Took (λ t c. on (here t c)) s p u q v
  item_took s p u q v e =
      let k = i.held s p u q v e in
      let z : At (p + k.size) 0 ≡ At q v = sym (ap on k.read ∙ i.read (p + k.size) k.value) ∙ e in
      let w : 0 ≡ v = grind arith in
      record {
        size = k.size;
        past = k.past;
        there = λ t p' a. ap on (k.there t p' a) ∙ i.read (p' + k.size) k.value ∙ ap (λ (n : ℕ). At (p' + k.size) n) w;
      }

  carries_item : Carries (λ s c. on (here s c))
  carries_item = record { fault = i.fault; took = item_took }

  -- what of it does not depend on the place behind it
  gives_item : {B : Type 0} (of : X → B) → ((p q : ℕ) (x : A) → of (at p x) ≡ of (at q x)) → Gives (λ s c. on (here s c)) (λ s c. of (here s c))
  gives_item of free =
      record {
        alike =
            λ s p u n v e t p' a.
            let k = i.held s p u (p + n) v e in
            let z : n ≡ k.size = let y = k.past in omega arith in
            let b : Same s p t p' k.size = rw z at a in
            ap of (k.there t p' b) ∙ free (p' + k.size) (p + k.size) k.value ∙ ap of (sym k.read);
      }

guid_same : (s : List ℕ) (p : ℕ) (t : List ℕ) (p' : ℕ) → Same s p t p' 16 → guid_at (drop p' t) ≡ guid_at (drop p s)
unfolding guid_at
guid_same s p t p' a =
    let x = drop p s in
    let y = drop p' t in
    let h : take 8 y ≡ take 8 x = sym (agree_less x y 16 8 (omega arith) a).same in
    let i : take 8 (drop 8 y) ≡ take 8 (drop 8 x) = sym (same_part x y 16 8 8 (omega arith) a.same) in
    rw (h, i)

guid_held : (s : List ℕ) (p u q v : ℕ) → guid_step s (At p u) ≡ At q v → Held guid_here (λ n g. guid'.At n g) s p u q
unfolding guid_here on_field
guid_held s p u q v e =
    by_lt (length s - p) 16
    (λ l. let z : no 2 p ≡ At q v = rw (lt-ltb _ _ l) at e in impossible (cc))
    (λ l.
    let z : At (p + 16) 0 ≡ At q v = rw (le-ltb _ _ l) at e in
    let y : p + 16 ≡ q = grind arith in
    record {
      size = 16;
      value = guid_at (drop p s);
      past = sym y;
      read = rw (le-ltb _ _ l);
      there = λ t p' a. rw (le-ltb _ _ (there_long s p t p' 16 a), guid_same s p t p' a);
    })

guid_item : Item guid_here on_field (λ n g. guid'.At n g)
unfolding guid_here on_field
guid_item = record { read = λ p g. refl; fault = λ s r. refl; held = guid_held }

id_held : (s : List ℕ) (p u q v : ℕ) (r : ReadExtendedGuid) → read_extended_guid (drop p s) ≡ r → on_field (id_on p r) ≡ At q v → Held id_here (λ n x. id'.At n x) s p u q
unfolding id_here on_field
id_held s p u q v (extended.Value x n) a e =
    let y : p + n ≡ q = grind arith in
    record {
      size = n;
      value = x;
      past = sym y;
      read = rw a;
      there = λ t p' i. rw (extended_guid_own (drop p s) (drop p' t) x n a (id_size s p x n a) i);
    }
id_held s p u q v (extended.Refused r) a e = impossible (cc)

id_item : Item id_here on_field (λ n x. id'.At n x)
unfolding id_here on_field
id_item = record { read = λ p x. refl; fault = λ s r. refl; held = λ s p u q v e. id_held s p u q v (read_extended_guid (drop p s)) refl e }

serial_held : (s : List ℕ) (p u q v : ℕ) (r : ReadSerial) → read_serial (drop p s) ≡ r → on_field (serial_on p r) ≡ At q v
    → Held serial_here (λ n x. serial'.At n x) s p u q
unfolding serial_here on_field
serial_held s p u q v (serial.Value x n) a e =
    let y : p + n ≡ q = grind arith in
    let w = subst (SerialWithin (length (drop p s))) a (serial_within (drop p s)) in
    record { size = n; value = x; past = sym y; read = rw a; there = λ t p' i. rw (serial_own (drop p s) (drop p' t) x n a w.0 i) }
serial_held s p u q v (serial.Refused r) a e = impossible (cc)

serial_item : Item serial_here on_field (λ n x. serial'.At n x)
unfolding serial_here on_field
serial_item = record { read = λ p x. refl; fault = λ s r. refl; held = λ s p u q v e. serial_held s p u q v (read_serial (drop p s)) refl e }

pub carries_guid : Carries guid_step
carries_guid = carries_item guid_item

pub carries_id : Carries id_step
carries_id = carries_item id_item

pub carries_serial : Carries serial_step
carries_serial = carries_item serial_item

pub gives_guid : {A : Type 0} (of : ReadingGuid → A) → ((p q : ℕ) (g : Guid) → of (guid'.At p g) ≡ of (guid'.At q g)) → Gives guid_step (λ s c. of (guid_here s c))
gives_guid of free = gives_item guid_item of free

pub gives_id : {A : Type 0} (of : ReadingId → A) → ((p q : ℕ) (x : ExtendedGuid) → of (id'.At p x) ≡ of (id'.At q x)) → Gives id_step (λ s c. of (id_here s c))
gives_id of free = gives_item id_item of free

pub gives_serial : {A : Type 0} (of : ReadingSerial → A) → ((p q : ℕ) (x : Serial) → of (serial'.At p x) ≡ of (serial'.At q x))
    → Gives serial_step (λ s c. of (serial_here s c))
gives_serial of free = gives_item serial_item of free

-- ---- a start

-- the header that a start read, and the data's length behind it
pub record Opened (padding : Bool) (s : List ℕ) (kind : ℕ) (compound room : Bool) (p from v : ℕ) : Type 0 where
  pub bit : Bool
  pub field : ℕ
  pub used : ℕ
  pub rest : ℕ  -- the true length's own bytes
  pub start : header_at s p ≡ header.Start kind bit field used
  pub same : same_bit bit compound ≡ true
  pub free : room ≡ true
  pub true_length : length_at padding s (p + used) field ≡ length'.Is v (p + used + rest)
  pub past : from ≡ p + (used + rest)

length_to_lem : (l : Length) (from v : ℕ) → length_to l ≡ At from v → l ≡ length'.Is v from
length_to_lem (length'.Is v' f) from v e = grind arith
length_to_lem (length'.Refused r) from v e = impossible (cc)

opened_on_lem : (padding : Bool) (s : List ℕ) (outer kind : ℕ) (compound room : Bool) (p from v : ℕ) (h : ReadHeader) → header_at s p ≡ h
    → start_on padding s outer kind compound room p h ≡ At from v → Opened padding s kind compound room p from v
opened_on_lem padding s outer kind compound room p from v (header.Refused r) e q = impossible (cc)
opened_on_lem padding s outer kind compound room p from v (header.End k u) e q =
    by_bool (eqb k outer)
    (λ b. let z : no 5 p ≡ At from v = rw b at q in impossible (cc))
    (λ b. let z : no 4 p ≡ At from v = rw b at q in impossible (cc))
opened_on_lem padding s outer kind compound room p from v (header.Start k bit n u) e q =
    by_bool (eqb k kind)
    (λ b.
    by_bool (same_bit bit compound)
    (λ c.
    by_bool room
    (λ d.
    let i : k ≡ kind = eqb-true k kind b in
    let z : length_to (length_at padding s (p + u) n) ≡ At from v = rw (b, c, d) at q in
    let l = length_to_lem (length_at padding s (p + u) n) from v z in
    let w = length_fits_at padding s (p + u) n (length'.Is v from) l in
    let y : from ≡ p + u + (from - (p + u)) = omega arith in
    record {
      bit = bit;
      field = n;
      used = u;
      rest = from - (p + u);
      start = rw i at e;
      same = c;
      free = d;
      true_length = l ∙ ap (λ (m : ℕ). length'.Is v m) y;
      past = omega arith;
    })
    (λ d. let z : no 9 p ≡ At from v = rw (b, c, d) at q in impossible (cc)))
    (λ c. let z : no 5 p ≡ At from v = rw (b, c) at q in impossible (cc)))
    (λ b. let z : no 5 p ≡ At from v = rw b at q in impossible (cc))

pub opened_from : (padding : Bool) (s : List ℕ) (outer kind : ℕ) (compound room : Bool) (p u from v : ℕ) → start_here padding s outer kind compound room (At p u) ≡ At from v
    → Opened padding s kind compound room p from v
unfolding start_here
opened_from padding s outer kind compound room p u from v q = opened_on_lem padding s outer kind compound room p from v (header_at s p) refl q

-- the header there
opened_there : (padding : Bool) (s : List ℕ) (kind : ℕ) (compound room : Bool) (p from v : ℕ) (o : Opened padding s kind compound room p from v) (t : List ℕ) (p' : ℕ)
    → Same s p t p' (o.used + o.rest) → header_at t p' ≡ header.Start kind o.bit o.field o.used
opened_there padding s kind compound room p from v o t p' a =
    start_local s p t p' kind o.bit o.field o.used o.start (same_less s p t p' (o.used + o.rest) o.used (omega arith) a)

pub start_at : (padding : Bool) (outer kind : ℕ) (compound room bit : Bool) (t : List ℕ) (p u n used v from : ℕ) → header_at t p ≡ header.Start kind bit n used
    → same_bit bit compound ≡ true → room ≡ true → length_at padding t (p + used) n ≡ length'.Is v from → start_here padding t outer kind compound room (At p u) ≡ At from v
unfolding start_here
start_at padding outer kind compound room bit t p u n used v from h b r l = rw (h, eq-eqb kind kind refl, b, r, l)

start_took : (padding : Bool) (outer kind : ℕ) (compound room : Bool) (s : List ℕ) (p u q v : ℕ) → start_here padding s outer kind compound room (At p u) ≡ At q v
    → Took (λ t c. start_here padding t outer kind compound room c) s p u q v
start_took padding outer kind compound room s p u q v e =
    let o = opened_from padding s outer kind compound room p u q v e in
    record {
      size = o.used + o.rest;
      past = o.past;
      there =
          λ t p' a.
          start_at padding outer kind compound room o.bit t p' u o.field o.used v (p' + o.used + o.rest) (opened_there padding s kind compound room p q v o t p' a) o.same o.free
          (length_local padding s (p + o.used) t (p' + o.used) o.field v o.rest o.true_length (same_on s p t p' o.used o.rest a))
          ∙ ap (λ (m : ℕ). At m v) (omega arith);
    }

pub carries_start : (padding : Bool) (outer kind : ℕ) (compound room : Bool) → Carries (λ s c. start_here padding s outer kind compound room c)
unfolding start_here
carries_start padding outer kind compound room = record { fault = λ s r. refl; took = λ s p u q v e. start_took padding outer kind compound room s p u q v e }

-- whether a start of another type stands there
pub gives_next_is : (padding : Bool) (x outer kind : ℕ) (compound room : Bool) → Gives (λ s c. start_here padding s outer kind compound room c) (λ s c. next_is s x c)
unfolding next_is
gives_next_is padding x outer kind compound room =
    record {
      alike =
          λ s p u n v e t p' a.
          let o = opened_from padding s outer kind compound room p u (p + n) v e in
          let z : n ≡ o.used + o.rest = let y = o.past in omega arith in
          let b : Same s p t p' (o.used + o.rest) = rw z at a in
          rw (opened_there padding s kind compound room p (p + n) v o t p' b, o.start);
    }

length_is_moves : (n : ℕ) (x p u q v : ℕ) → length_is n x (At p u) ≡ At q v → (u ≡ n) × (At p u ≡ At q v)
unfolding length_is
length_is_moves n x p u q v e =
    by_bool (eqb u n)
    (λ b. let z : At p u ≡ At q v = rw b at e in (eqb-true u n b, z))
    (λ b. let z : no 5 x ≡ At q v = rw b at e in impossible (cc))

pub length_is_at : (n x : ℕ) (c : Reading) (q v : ℕ) → length_is n x c ≡ At q v → (c ≡ At q v) × (v ≡ n)
unfolding length_is
length_is_at n x (At p u) q v e = let w = length_is_moves n x p u q v e in (w.1, let z : u ≡ v = grind arith in sym z ∙ w.0)
length_is_at n x (Refused r) q v e = impossible (cc)

start_of_length_took : (padding : Bool) (outer kind : ℕ) (compound room : Bool) (n : ℕ) (s : List ℕ) (p u q v : ℕ) → start_of_length padding s outer kind compound room n (At p u) ≡ At q v
    → Took (λ t c. start_of_length padding t outer kind compound room n c) s p u q v
unfolding start_of_length length_is
start_of_length_took padding outer kind compound room n s p u q v e =
    let w = length_is_at n (place_of (At p u)) (start_here padding s outer kind compound room (At p u)) q v e in
    let k = start_took padding outer kind compound room s p u q v w.0 in
    record { size = k.size; past = k.past; there = λ t p' a. rw (k.there t p' a, eq-eqb v n w.1) }

pub carries_start_of_length : (padding : Bool) (outer kind : ℕ) (compound room : Bool) (n : ℕ) → Carries (λ s c. start_of_length padding s outer kind compound room n c)
unfolding start_of_length start_here length_is
carries_start_of_length padding outer kind compound room n =
    record { fault = λ s r. refl; took = λ s p u q v e. start_of_length_took padding outer kind compound room n s p u q v e }

pub gives_next_is_of_length : (padding : Bool) (x outer kind : ℕ) (compound room : Bool) (n : ℕ)
    → Gives (λ s c. start_of_length padding s outer kind compound room n c) (λ s c. next_is s x c)
unfolding start_of_length
gives_next_is_of_length padding x outer kind compound room n =
    record {
      alike =
          λ s p u m v e t p' a.
          let w = length_is_at n (place_of (At p u)) (start_here padding s outer kind compound room (At p u)) (p + m) v e in
          (gives_next_is padding x outer kind compound room).alike s p u m v w.0 t p' a;
    }

-- ---- an end

record Ended (s : List ℕ) (kind p q v : ℕ) : Type 0 where
  used : ℕ
  end : header_at s p ≡ header.End kind used
  past : q ≡ p + used
  value : 0 ≡ v

ended_on : (s : List ℕ) (kind p q v : ℕ) (h : ReadHeader) → header_at s p ≡ h → end_on kind p h ≡ At q v → Ended s kind p q v
ended_on s kind p q v (header.Refused r) e h = impossible (cc)
ended_on s kind p q v (header.Start k b n u) e h = impossible (cc)
ended_on s kind p q v (header.End k u) e h =
    by_bool (eqb k kind)
    (λ b.
    let z : At (p + u) 0 ≡ At q v = rw b at h in
    let y : p + u ≡ q = grind arith in
    let w : 0 ≡ v = grind arith in
    let i : k ≡ kind = eqb-true k kind b in
    record { used = u; end = rw i at e; past = sym y; value = w })
    (λ b. let z : no 4 p ≡ At q v = rw b at h in impossible (cc))

ended_from : (s : List ℕ) (kind p u q v : ℕ) → end_here s kind (At p u) ≡ At q v → Ended s kind p q v
unfolding end_here
ended_from s kind p u q v e = ended_on s kind p q v (header_at s p) refl e

end_at : (kind : ℕ) (t : List ℕ) (p u used v : ℕ) → header_at t p ≡ header.End kind used → 0 ≡ v → end_here t kind (At p u) ≡ At (p + used) v
unfolding end_here
end_at kind t p u used v h z = rw (h, eq-eqb kind kind refl, z)

end_took : (kind : ℕ) (s : List ℕ) (p u q v : ℕ) → end_here s kind (At p u) ≡ At q v → Took (λ t c. end_here t kind c) s p u q v
end_took kind s p u q v e =
    let o = ended_from s kind p u q v e in
    record {
      size = o.used;
      past = o.past;
      there = λ t p' a. end_at kind t p' u o.used v (end_local s p t p' kind o.used o.end a) o.value;
    }

pub carries_end : (kind : ℕ) → Carries (λ s c. end_here s kind c)
unfolding end_here
carries_end kind = record { fault = λ s r. refl; took = λ s p u q v e. end_took kind s p u q v e }

-- no start stands where an end is read
pub gives_next_is_end : (x kind : ℕ) → Gives (λ s c. end_here s kind c) (λ s c. next_is s x c)
unfolding next_is
gives_next_is_end x kind =
    record {
      alike =
          λ s p u n v e t p' a.
          let o = ended_from s kind p u (p + n) v e in
          let z : n ≡ o.used = let y = o.past in omega arith in
          let b : Same s p t p' o.used = rw z at a in
          rw (end_local s p t p' kind o.used o.end b, o.end);
    }

-- ---- a start that does not stand there: what does not depend on the fault

module _ (padding : Bool) {A : Type 0} (of : List ℕ → Reading → A) (faulted : (s t : List ℕ) (r q : Refusal) → of s (Refused r) ≡ of t (Refused q)) (outer kind : ℕ)
    (compound room : Bool) where
  abbrev tried : List ℕ → Reading → Reading
  tried s c = start_here padding s outer kind compound room c

  other_start : (s : List ℕ) (p u k : ℕ) (b : Bool) (n used : ℕ) → header_at s p ≡ header.Start k b n used → eqb k kind ≡ false → tried s (At p u) ≡ no 5 p
  unfolding start_here
  other_start s p u k b n used h e = rw (h, e)

  -- where a start of another type is read
  pub gives_other_start : (o k : ℕ) (b r : Bool) → eqb k kind ≡ false → Gives (λ s c. start_here padding s o k b r c) (λ s c. of s (tried s c))
  gives_other_start o k b r e =
      record {
        alike =
            λ s p u n v h t p' a.
            let w = opened_from padding s o k b r p u (p + n) v h in
            let z : n ≡ w.used + w.rest = let y = w.past in omega arith in
            let i = opened_there padding s k b r p (p + n) v w t p' (rw z at a) in
            ap (of t) (other_start t p' u k w.bit w.field w.used i e) ∙ faulted t s (fault_at 5 p') (fault_at 5 p)
            ∙ ap (of s) (sym (other_start s p u k w.bit w.field w.used w.start e));
      }

  no_start : (s : List ℕ) (p u k used : ℕ) → header_at s p ≡ header.End k used → tried s (At p u) ≡ pick (eqb k outer) (no 5 p) (no 4 p)
  unfolding start_here
  no_start s p u k used h = rw h

  either_fault : (b : Bool) (s t : List ℕ) (p p' : ℕ) → of t (pick b (no 5 p') (no 4 p')) ≡ of s (pick b (no 5 p) (no 4 p))
  either_fault true s t p p' = faulted t s (fault_at 5 p') (fault_at 5 p)
  either_fault false s t p p' = faulted t s (fault_at 4 p') (fault_at 4 p)

  -- where an end is read
  pub gives_no_start : (k : ℕ) → Gives (λ s c. end_here s k c) (λ s c. of s (tried s c))
  gives_no_start k =
      record {
        alike =
            λ s p u n v h t p' a.
            let w = ended_from s k p u (p + n) v h in
            let z : n ≡ w.used = let y = w.past in omega arith in
            let i = end_local s p t p' k w.used w.end (rw z at a) in
            ap (of t) (no_start t p' u k w.used i) ∙ either_fault (eqb k outer) s t p p' ∙ ap (of s) (sym (no_start s p u k w.used w.end));
      }

-- ---- well-nested contents

pub inside_on_lem : (r : Passed) (e v : ℕ) → inside_on r ≡ At e v → (r ≡ passed.To e) × (0 ≡ v)
inside_on_lem (passed.To x) e v q = (grind arith, grind arith)
inside_on_lem (passed.Refused r) e v q = impossible (cc)

inside_took : (padding : Bool) (d kind : ℕ) (s : List ℕ) (p u q v : ℕ) → inside padding s d kind (At p u) ≡ At q v → Took (λ t c. inside padding t d kind c) s p u q v
unfolding inside
inside_took padding d kind s p u q v e =
    let w = inside_on_lem (run_at padding s p d kind) q v e in
    let n = run_next padding s p d kind q w.0 in
    let y : q ≡ p + (q - p) = omega arith in
    let z : run_at padding s p d kind ≡ passed.To (p + (q - p)) = w.0 ∙ ap (λ (m : ℕ). passed.To m) y in
    record { size = q - p; past = y; there = λ t p' a. rw (run_local padding s p t p' d kind (q - p) z a, ← w.1) }

pub carries_inside : (padding : Bool) (d kind : ℕ) → Carries (λ s c. inside padding s d kind c)
unfolding inside
carries_inside padding d kind = record { fault = λ s r. refl; took = λ s p u q v e. inside_took padding d kind s p u q v e }

-- ---- a data run: its fields are a function of its bytes alone

-- what a run that was closed is: all of it is there, and its fields read it to its end
pub record Closed (n m : ℕ) (f : Reading) (from q v : ℕ) : Type 0 where
  pub past : q ≡ from + m
  pub whole : n ≤ m
  pub read : ℕ
  pub fields : f ≡ At read v
  pub all : m ≤ read
  pub anywhere : (from' : ℕ) → closed_at (At from' n) m f ≡ At (from' + m) v

pub closed_from : (n m : ℕ) (f : Reading) (from q v : ℕ) → closed_at (At from n) m f ≡ At q v → Closed n m f from q v
unfolding closed_at
closed_from n m (Refused r) from q v e = impossible (cc)
closed_from n m (At i w) from q v e =
    by_lt i m
    (λ l. let z : no 5 (from + i) ≡ At q v = rw (lt-ltb _ _ l) at e in impossible (cc))
    (λ l.
    by_lt m n
    (λ k. let z : no 2 (from + m) ≡ At q v = rw (le-ltb _ _ l, lt-ltb _ _ k) at e in impossible (cc))
    (λ k.
    let z : At (from + m) w ≡ At q v = rw (le-ltb _ _ l, le-ltb _ _ k) at e in
    let y : from + m ≡ q = grind arith in
    let x : w ≡ v = grind arith in
    record { past = sym y; whole = k; read = i; fields = ap (At i) x; all = l; anywhere = λ from'. rw (le-ltb _ _ l, le-ltb _ _ k, x) }))

run_took : (fields : List ℕ → Reading) (s : List ℕ) (p u q v : ℕ) → in_run s fields (At p u) ≡ At q v → Took (λ t c. in_run t fields c) s p u q v
unfolding run_here
run_took fields s p u q v e =
    let d = take u (drop p s) in
    let k = closed_from u (length d) (fields d) p q v e in
    let y : length d ≡ u = let z = length-take u (drop p s) in let w = k.whole in omega arith in
    record {
      size = u;
      past = k.past ∙ ap (λ (m : ℕ). p + m) y;
      there = λ t p' a. rw (← a.same) (k.anywhere p' ∙ ap (λ (m : ℕ). At (p' + m) v) y);
    }

pub carries_run : (fields : List ℕ → Reading) → Carries (λ s c. in_run s fields c)
unfolding run_here closed_at
carries_run fields = record { fault = λ s r. refl; took = λ s p u q v e. run_took fields s p u q v e }

pub gives_run : (fields : List ℕ → Reading) → Gives (λ s c. in_run s fields c) run_here
unfolding run_here
gives_run fields =
    record {
      alike =
          λ s p u n v e t p' a.
          let d = take u (drop p s) in
          let k = closed_from u (length d) (fields d) p (p + n) v e in
          let y : length d ≡ u = let z = length-take u (drop p s) in let w = k.whole in omega arith in
          let z : n ≡ u = let w = k.past in omega arith in
          let b : Same s p t p' u = rw z at a in
          sym b.same;
    }
