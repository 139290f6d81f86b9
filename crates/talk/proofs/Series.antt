-- A series of answers, each of which takes from the front of what is still wanted, does what demand 3 says (`converges`): the state of
-- the series is the list that is still wanted. And steps that can always be made can be made any number of times (`chain_exists`). A
-- reader needs the statements of marked-carries, converges, unmarked-sent, all-sent and chain-exists only.
-- Assumes nothing.
use mathlib.Core.Path.{◌≡◌, refl, sym, ◌∙◌, ap}
use mathlib.Core.Bool.{Bool, true, false}
use mathlib.Core.List.{List, [], ◌∷◌, ◌++◌, append_assoc, append-nil}
use Prim.Native.Nat.{suc, ◌≤◌, ◌<◌, max}
use native.Mathlib.Omega.{arith}
use lib.ListN.{length, length-append}
use Rattle.laws.specs.Pick.{pick}
use Rattle.laws.proofs.Cases.{by_bool, impossible}
use Rattle.talk.specs.Series.{Chain, done, next, Answer, is_some, joined_pages, Takes, has_unmarked, FirstUnmarked, Converges}

-- ---- steps

-- .. its answers as they are
pub chain_along : {N A M : Type 0} {R : N → A → N → Type 0} {S : M → A → M → Type 0} (f : N → M)
    → ((k m : N) (a : A) → R k a m → S (f k) a (f m)) → {k n : N} {given : List A} → Chain R k given n → Chain S (f k) given (f n)
chain_along f h done = done
chain_along f h (next {k = k} {m = m} {a = a} r c) = next (h k m a r) (chain_along f h c)

pub chain_split : {N A : Type 0} {R : N → A → N → Type 0} (given later : List A) {k n : N} → Chain R k (given ++ later) n
    → (m : N) × Chain R k given m × Chain R m later n
chain_split [] later {k} c = (k, done, c)
chain_split (a ∷ given) later (next r c) = let (m, x, y) = chain_split given later c in (m, next r x, y)

pub chain_append : {N A : Type 0} {R : N → A → N → Type 0} {given later : List A} {k m n : N} → Chain R k given m → Chain R m later n
    → Chain R k (given ++ later) n
chain_append done d = d
chain_append (next r c) d = next r (chain_append c d)

-- It is not about nothing: where under every choice a step can be made from every good state to a good state, there is for every list
-- of choices a chain with a step for each of them.
pub chain_exists : {N A C : Type 0} {R : N → A → N → Type 0} (Good : N → Type 0)
    → ((c : C) (k : N) → Good k → (a : A) × (m : N) × R k a m × Good m) → (choices : List C) (k : N) → Good k
    → (given : List A) × (n : N) × (length given ≡ length choices) × Chain R k given n × Good n
chain_exists Good h [] k g = ([], k, refl, done, g)
chain_exists Good h (c ∷ choices) k g =
    let (a, m, r, g') = h c k g in
    let (given, n, e, s, g'') = chain_exists Good h choices m g' in
    (a ∷ given, n, ap suc e, next r s, g'')

-- ---- answers that take from the front of what is wanted

marked_first : (b c : Bool) → pick b c true ≡ false → (b ≡ true) × (c ≡ false)
marked_first true c h = (refl, h)
marked_first false c h = impossible (cc)

module _ {E : Type 0} where
  -- what was sent and what is left are what was wanted
  pub joined_run : {w rest : List E} {answers : List (Answer E)} → Chain Takes w answers rest → joined_pages answers ++ rest ≡ w
  joined_run done = refl
  joined_run (next {a = a} t c) = rw (append_assoc, joined_run c) t.run

  pub none_some : (l : List E) → is_some l ≡ false → l ≡ []
  none_some [] h = refl
  none_some (x ∷ l) h = impossible (cc)

  pub some_positive : (l : List E) → is_some l ≡ true → 0 < length l
  some_positive [] h = impossible (cc)
  some_positive (x ∷ l) h = omega arith

  append_none : (s t : List E) → s ++ t ≡ [] → (s ≡ []) × (t ≡ [])
  append_none [] t h = (refl, h)
  append_none (x ∷ s) t h = (impossible (cc), impossible (cc))

  some_wanted : (l s r : List E) → s ++ r ≡ l → 0 < length r → is_some l ≡ true
  some_wanted [] s r q p = absurd (let z : 0 < length {A = E} [] = rw (append_none s r q).1 at p in omega arith)
  some_wanted (x ∷ l) s r q p = refl

  -- a marked answer carries something, and leaves something
  pub record Carries (w : List E) (a : Answer E) (rest : List E) : Type 0 where
    pub carried : 0 < length a.page
    pub left : 0 < length rest
    pub fewer : length rest < length w

  pub marked_carries : {w rest : List E} {a : Answer E} → Takes w a rest → a.marked ≡ true → Carries w a rest
  marked_carries {w} {rest} {a} t h = record { carried = gone; left = left; fewer = omega (arith, gone, simp length-append at (ap length t.run)) }
    where
      left : 0 < length rest
      left = some_positive rest (sym t.mark ∙ h)

      gone : 0 < length a.page
      gone = some_positive a.page (t.moves ∙ some_wanted w a.page rest t.run left)

  -- while every answer is marked, there are fewer of them than things wanted
  all_marked : {w rest : List E} {a : Answer E} {answers : List (Answer E)} → Chain Takes w (a ∷ answers) rest
      → has_unmarked (a ∷ answers) ≡ false → length (a ∷ answers) < length w
  all_marked (next {a = a} t done) e = omega (arith, marked_carries t (marked_first a.marked _ e).0)
  all_marked (next {a = a} t (next u c)) e =
      omega (arith, marked_carries t (marked_first a.marked _ e).0, all_marked (next u c) (marked_first a.marked _ e).1)

  few_marked : {w rest : List E} {answers : List (Answer E)} → Chain Takes w answers rest → has_unmarked answers ≡ false
      → length answers < max 1 (length w)
  few_marked done e = omega arith
  few_marked (next t c) e = omega (arith, all_marked (next t c) e)

  first_unmarked : (answers : List (Answer E)) → has_unmarked answers ≡ true → FirstUnmarked answers
  first_unmarked [] e = impossible (cc)
  first_unmarked (a ∷ answers) e =
      by_bool a.marked (λ h. later h (first_unmarked answers (rw h at e)))
      (λ h. record { before = []; first = a; after = answers; split = refl; marked_before = refl; unmarked = h })
    where
      later : a.marked ≡ true → FirstUnmarked answers → FirstUnmarked (a ∷ answers)
      later h f =
          record {
            before = a ∷ f.before;
            first = f.first;
            after = f.after;
            split = ap (λ (l : List (Answer E)). a ∷ l) f.split;
            marked_before = rw h f.marked_before;
            unmarked = f.unmarked;
          }

  -- demand 3, of answers that take from the list of what is wanted
  pub converges : {w rest : List E} {answers : List (Answer E)} → Chain Takes w answers rest → Converges w answers
  converges {w} {rest} {answers} c =
      record {
        initial = (rest, joined_run c);
        whole = all_of;
        soon = λ h. by_bool (has_unmarked answers) (λ e. early (first_unmarked answers e)) (λ e. absurd (omega (arith, few_marked c e)));
      }
    where
      all_of : (before after : List (Answer E)) (a : Answer E) → answers ≡ before ++ (a ∷ after) → a.marked ≡ false
          → (joined_pages (before ++ (a ∷ [])) ≡ w) × (joined_pages after ≡ [])
      all_of before after a q h = at (chain_split before (a ∷ after) (rw q at c))
        where
          to : {m : List E} → Chain Takes w before m → Chain Takes m (a ∷ after) rest → (joined_pages (before ++ (a ∷ [])) ≡ w) × (joined_pages after ≡ [])
          to d (next {m = m} t x) =
              let e : m ≡ [] = none_some m (sym t.mark ∙ h) in
              (sym (append-nil _) ∙ (rw e at (joined_run (chain_append d (next t done)))), (append_none (joined_pages after) rest (joined_run x ∙ e)).0)

          at : (m : List E) × Chain Takes w before m × Chain Takes m (a ∷ after) rest → (joined_pages (before ++ (a ∷ [])) ≡ w) × (joined_pages after ≡ [])
          at s = to s.1 s.2

      early : FirstUnmarked answers → (f : FirstUnmarked answers) × (length f.before < max 1 (length w))
      early f = (f, few_marked (chain_split f.before _ (rw f.split at c)).1 f.marked_before)

  joined_append : (s t : List (Answer E)) → joined_pages (s ++ t) ≡ joined_pages s ++ joined_pages t
  joined_append [] t = refl
  joined_append (a ∷ s) t = rw (append_assoc, joined_append s t)

  -- where an answer is unmarked, all is sent
  pub unmarked_sent : {w : List E} {answers : List (Answer E)} → Converges w answers → FirstUnmarked answers → joined_pages answers ≡ w
  unmarked_sent {w} {answers} v f =
      let a = v.whole f.before f.after f.first f.split f.unmarked in
      let e : joined_pages answers ≡ joined_pages ((f.before ++ (f.first ∷ [])) ++ f.after) = rw (f.split, append_assoc) in
      e ∙ joined_append (f.before ++ (f.first ∷ [])) f.after ∙ (rw (a.1, append-nil) a.0)

  -- so it is with an answer for each thing wanted (one, if nothing is)
  pub all_sent_lem : {w : List E} {answers : List (Answer E)} → Converges w answers → max 1 (length w) ≤ length answers → joined_pages answers ≡ w
  all_sent_lem v h = unmarked_sent v (v.soon h).0
