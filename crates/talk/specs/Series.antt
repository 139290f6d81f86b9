-- Demand 3 over plain lists: what a series of answers comes to. "The client asks again with the last answer's knowledge, under
-- limits and buffers that may differ each time; refused asks change nothing and are not counted. Then the answers joined are an
-- initial run of the list of all elements wanted at the start, none sent twice. If n were wanted, an unmarked answer comes at the
-- n-th answer or sooner (at the first, if n is 0), and the run is then the whole list." Nothing here knows of a store or of bytes.
-- What the demand promises is `Delivers`, over `Converges`; what it asks of each answer is `Judged`, over `Takes`. A reader who takes
-- it that steps follow one another can skip `Chain` and `Trace`.
-- Assumes nothing.
use Rattle.std.specs.Prelude.{◌≡◌, Bool, true, false, List, [], ◌∷◌, ◌++◌, map, ℕ, ◌≤◌, ◌<◌, max, length}
use Rattle.laws.specs.Pick.{pick}
use Rattle.laws.specs.Once.{seen, once}
use Rattle.talk.specs.Wanted.{wanted}

-- ---- steps

-- steps of a relation, each from where the last one ended; the list holds what each step gave out
pub data Chain {N A : Type 0} (R : N → A → N → Type 0) : N → List A → N → Type 0 where
  done : {k : N} → Chain R k [] k
  next : {k m n : N} {a : A} {given : List A} → R k a m → Chain R m given n → Chain R k (a ∷ given) n

-- the same with steps of another relation in between, which give out nothing: refused asks, "not counted"
pub data Trace {N A : Type 0} (R : N → A → N → Type 0) (Q : N → N → Type 0) : N → List A → N → Type 0 where
  over : {k : N} → Trace R Q k [] k
  idle : {k m n : N} {given : List A} → Q k m → Trace R Q m given n → Trace R Q k given n
  then : {k m n : N} {a : A} {given : List A} → R k a m → Trace R Q m given n → Trace R Q k (a ∷ given) n

-- ---- answers

-- what an answer is here: its page, and whether it is marked partial
pub record Answer (E : Type 0) : Type 0 where
  pub page : List E
  pub marked : Bool

module _ {E : Type 0} where
  -- something is in the list
  abbrev pub is_some : List E → Bool
  is_some [] = false
  is_some (x ∷ xs) = true

  -- "the answers joined"
  abbrev pub joined_pages : List (Answer E) → List E
  joined_pages [] = []
  joined_pages (a ∷ answers) = a.page ++ joined_pages answers

  abbrev pub InitialRun : List E → List E → Type 0
  InitialRun run l = (rest : List E) × (run ++ rest ≡ l)

  -- one answer where w is wanted: its page is an initial run of w that leaves the rest, it is not empty unless w is, and it is marked
  -- exactly when something is left
  pub record Takes (w : List E) (a : Answer E) (rest : List E) : Type 0 where
    pub run : a.page ++ rest ≡ w
    pub moves : is_some a.page ≡ is_some w
    pub mark : a.marked ≡ is_some rest

  -- some answer is not marked
  abbrev pub has_unmarked : List (Answer E) → Bool
  has_unmarked [] = false
  has_unmarked (a ∷ answers) = pick a.marked (has_unmarked answers) true

  -- the first answer that is not marked, and those before and after it
  pub record FirstUnmarked (answers : List (Answer E)) : Type 0 where
    pub before : List (Answer E)
    pub first : Answer E
    pub after : List (Answer E)
    pub split : answers ≡ before ++ (first ∷ after)
    pub marked_before : has_unmarked before ≡ false
    pub unmarked : first.marked ≡ false

  -- what answers come to where w was wanted at the start
  pub record Converges (w : List E) (answers : List (Answer E)) : Type 0 where
    -- "the answers joined are an initial run of the list of all elements wanted at the start"
    pub initial : InitialRun (joined_pages answers) w
    -- where an answer is unmarked "the run is then the whole list", and no more comes behind it
    pub whole : (before after : List (Answer E)) (a : Answer E) → answers ≡ before ++ (a ∷ after) → a.marked ≡ false
        → (joined_pages (before ++ (a ∷ [])) ≡ w) × (joined_pages after ≡ [])
    -- "an unmarked answer comes at the n-th answer or sooner (at the first, if n is 0)": fewer than n, or than 1, are before it
    pub soon : max 1 (length w) ≤ length answers → (f : FirstUnmarked answers) × (length f.before < max 1 (length w))

-- ---- what is known

-- a set of keys with some more in it
abbrev pub with_keys : {K : Type 0} → (K → K → Bool) → (K → Bool) → List K → K → Bool
with_keys same know keys k = pick (know k) true (seen same k keys)

module _ {E K : Type 0} (same : K → K → Bool) (Fits : K → Type 0) (key : E → K) where
  -- one answer, over things in their order, those that the filters let in, what is known before and what is known after: it takes from
  -- what is wanted, and its knowledge is what was known "with exactly those serial numbers added". `Fits` says which keys there are:
  -- what is known of others does not matter
  pub record Judged (things : List E) (lets : E → Bool) (know : K → Bool) (a : Answer E) (know' : K → Bool) : Type 0 where
    pub rest : List E
    pub takes : Takes (wanted key lets know things) a rest
    pub adds : (k : K) → Fits k → know' k ≡ with_keys same know (map key a.page) k

module _ {E K : Type 0} (same : K → K → Bool) (key : E → K) where
  -- demand 3, of one list of things, those that the filters let in, a first knowledge and the answers
  pub record Delivers (things : List E) (lets : E → Bool) (know : K → Bool) (answers : List (Answer E)) : Type 0 where
    pub converges : Converges (wanted key lets know things) answers
    -- "none sent twice"
    pub none_twice : once same (map key (joined_pages answers)) ≡ true

-- ---- that there are such answers

-- a choice of the page's size, where w is wanted: of at least one thing while something is wanted
pub record PageSize (E : Type 0) : Type 0 where
  pub size : List E → ℕ
  pub most : (w : List E) → size w ≤ length w
  pub some : (w : List E) → 0 < length w → 0 < size w
