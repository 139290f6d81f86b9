-- The page under way: what holds of it at each turn, and how a turn carries it on.
-- Assumes nothing.
use mathlib.Core.Path.{◌≡◌, refl, sym, ap, ◌∙◌}
use mathlib.Core.Bool.{true, false}
use mathlib.Core.List.{List, [], ◌∷◌, ◌++◌}
use Prim.Native.Nat.{ℕ, suc, ◌+◌, ◌*◌, ◌^◌, ◌≤◌, ◌<◌}
use native.Mathlib.Omega.{arith}
use native.Mathlib.Numerals.{add-one}
use lib.ListN.{length, take, drop, length-drop}
use lib.Seq.{take-add, drop-drop}
use Rattle.talk.specs.Page.{Every}
use Rattle.talk.specs.Ranges.{insert}
use Rattle.talk.specs.declared.range.Range.{Range}
use Rattle.talk.proofs.Insertion.{length_insert}
use Rattle.talk.proofs.PageRule.{every_none, every_more}
use Rattle.ranges.specs.RangeTable.{range_width, ranges_at}
use Rattle.store.specs.Knowledge.{most_said}
use Rattle.store.specs.KnowledgeWritten.{ranges_bytes}
use Rattle.store.specs.Held.{serial_range, ranges_with}
use Rattle.store.specs.declared.element.Element.{Element}
use Rattle.ranges.proofs.RangeRows.{length_rows, laid_rows_lem, length_laid}
use Rattle.order.specs.Groups.{stored_length}
use Rattle.pages.specs.Decision.{is_sendable, sendable, decision}
use Rattle.pages.specs.Tables.{stopped, ended, taken_in, whole_of, laid_with, laid_all, Priced, table_measure, Decides}
use Rattle.pages.specs.declared.page.Bounds.{Bounds}
use Rattle.pages.specs.Results.Decided.{Decided}
use Rattle.pages.specs.declared.page.Page.{Page}
use Rattle.pages.specs.declared.price.Price.{Price}
use Rattle.pages.proofs.Lengths.{stored_append}
use Rattle.pages.proofs.Stops.{sendable_ranges, stop_law, end_law, taken_stopped, taken_ended}
use Rattle.pages.proofs.Pricing.{bytes_most}

-- ---- one element more

ranges_more : (xs : List Element) (x : Element) (l : List Range) → ranges_with l (xs ++ (x ∷ [])) ≡ insert (serial_range x) (ranges_with l xs)
unfolding ranges_with
ranges_more [] x l = refl
ranges_more (y ∷ xs) x l = ranges_more xs x (insert (serial_range y) l)

laid_more : (xs : List Element) (x : Element) (l : List Range) (t : List ℕ) → laid_all (xs ++ (x ∷ [])) l t ≡ laid_with x (ranges_with l xs) (laid_all xs l t)
unfolding ranges_with laid_all
laid_more [] x l t = refl
laid_more (y ∷ xs) x l t = laid_more xs x (insert (serial_range y) l) (laid_with y l t)

-- of w, k were taken, and x is the next
module _ (w : List Element) (k : ℕ) {x : Element} {r : List Element} (h : drop k w ≡ x ∷ r) where
  pub take_next : take (suc k) w ≡ take k w ++ (x ∷ [])
  take_next = rw (add-one k) at (take-add k 1 w ∙ ap (λ (l : List Element). take k w ++ take 1 l) h)

  pub drop_next : drop (suc k) w ≡ r
  drop_next = rw (add-one k) at (sym (drop-drop 1 k w) ∙ ap (drop 1) h)

  pub one_left : k < length w
  one_left = omega (arith, length-drop k w, ap length h)

  pub stored_next : stored_length (take (suc k) w) ≡ stored_length (take k w) + x.length
  unfolding stored_length
  stored_next = rw take_next (omega (arith, stored_append (take k w) (x ∷ [])))

  pub ranges_next : (l : List Range) → ranges_with l (take (suc k) w) ≡ insert (serial_range x) (ranges_with l (take k w))
  ranges_next l = rw take_next (ranges_more (take k w) x l)

  laid_next : (l : List Range) (t : List ℕ) → laid_all (take (suc k) w) l t ≡ laid_with x (ranges_with l (take k w)) (laid_all (take k w) l t)
  laid_next l t = rw take_next (laid_more (take k w) x l t)

-- ---- what holds whenever the loop's test is reached

-- w is wanted, l the ranges at the start, in the table t₀; `ahead` is what of w is still to come
pub record Under (w : List Element) (l : List Range) (t₀ : List ℕ) (b : Bounds) (ahead : List Element) (t : List ℕ) (p : Page) : Type 0 where
  pub rest : drop p.count w ≡ ahead
  pub within : p.count ≤ length w
  pub few : p.count ≤ p.place
  pub stored : p.bytes ≡ stored_length (take p.count w)
  pub small : p.bytes ≤ 2 ^ 32 * p.place
  pub carried : p.ranges ≤ most_said
  pub room : p.ranges * range_width ≤ length t₀
  pub held : ranges_at t 0 p.ranges ≡ ranges_with l (take p.count w)
  pub spelled : p.spelled ≡ length (ranges_bytes (ranges_with l (take p.count w)))
  pub laid : t ≡ laid_all (take p.count w) l t₀
  pub same_length : length t ≡ length t₀
  pub every : Every (sendable b.most b.limit b.room (table_measure b.fixed l w)) p.count

pub under_start : (w : List Element) (l : List Range) (t₀ : List ℕ) (b : Bounds) (count : ℕ) → count ≤ most_said → count * range_width ≤ length t₀ → ranges_at t₀ 0 count ≡ l
    → Under w l t₀ b w t₀ (record { count = 0; bytes = 0; place = 0; ranges = count; spelled = length (ranges_bytes l) })
unfolding ranges_with stored_length laid_all
under_start w l t₀ b count h k e =
    record {
      rest = refl;
      within = omega arith;
      few = omega arith;
      stored = refl;
      small = omega arith;
      carried = h;
      room = k;
      held = e;
      spelled = refl;
      laid = refl;
      same_length = refl;
      every = every_none _;
    }

module _ {w : List Element} {l : List Range} {t₀ : List ℕ} {b : Bounds} {ahead : List Element} {t : List ℕ} {p : Page} (u : Under w l t₀ b ahead t p) where
  ranges_are : p.ranges ≡ length (ranges_with l (take p.count w))
  ranges_are = sym (length_rows t 0 p.ranges) ∙ ap length u.held

  pub spelled_most : p.spelled ≤ 36 * p.ranges
  spelled_most = omega (arith, u.spelled, bytes_most (ranges_with l (take p.count w)), ranges_are)

  -- what is still to come, said in another way
  pub under_same : {ahead' : List Element} → ahead ≡ ahead' → Under w l t₀ b ahead' t p
  under_same e = rw e at u

  -- a decision that takes what was taken is what deciding promises
  decides : {d : Decided} → taken_in d ≡ p.count → d ≡ decision b.most b.limit b.room (table_measure b.fixed l w) (length w) → Decides w l b d t₀ t
  decides taken e = (e, u.laid ∙ ap (λ (k : ℕ). laid_all (take k w) l t₀) (sym taken))

  -- nothing more is wanted
  pub under_end : ahead ≡ [] → {d : Decided} → d ≡ ended b.room p.count (whole_of b.fixed p.bytes p.ranges p.spelled) p.ranges
      → Decides w l b d t₀ t
  under_end e d-is =
      decides (ap taken_in d-is ∙ taken_ended b.room p.count _ p.ranges)
      (d-is
      ∙ rw (u.stored, u.spelled, ranges_are)
      (end_law b.most b.limit b.room (table_measure b.fixed l w) (length w) p.count (omega (arith, u.within, length-drop p.count w, ap length (u.rest ∙ e))) u.every))

-- the element at the place is wanted, and its price is known
module _ {w : List Element} {l : List Range} {t₀ : List ℕ} {b : Bounds} {x : Element} {r : List Element} {t : List ℕ} {p : Page} {q : Price}
    (u : Under w l t₀ b (x ∷ r) t p) (priced : Priced t p.ranges (serial_range x) q) where
  ranges_then : insert (serial_range x) (ranges_at t 0 p.ranges) ≡ ranges_with l (take (suc p.count) w)
  ranges_then = ap (insert (serial_range x)) u.held ∙ sym (ranges_next w p.count u.rest l)

  stored_then : p.bytes + x.length ≡ stored_length (take (suc p.count) w)
  stored_then = omega (arith, u.stored, stored_next w p.count u.rest)

  count_then : q.ranges ≡ length (ranges_with l (take (suc p.count) w))
  count_then = priced.counted ∙ ap length ranges_then

  spelled_then : q.spelled ≡ length (ranges_bytes (ranges_with l (take (suc p.count) w)))
  spelled_then = priced.priced ∙ ap (λ (l : List Range). length (ranges_bytes l)) ranges_then

  whole_then : whole_of b.fixed (p.bytes + x.length) q.ranges q.spelled ≡ (table_measure b.fixed l w).whole (suc p.count)
  whole_then = rw (stored_then, count_then, spelled_then)

  sendable_then : is_sendable b.most b.limit b.room (p.count + 1) (p.bytes + x.length) q.ranges (whole_of b.fixed (p.bytes + x.length) q.ranges q.spelled) ≡ sendable b.most b.limit b.room (table_measure b.fixed l w) (suc p.count)
  sendable_then = rw (whole_then, stored_then, count_then, add-one p.count)

  pub price_most : q.spelled ≤ 36 * (p.ranges + 1)
  price_most =
      omega (arith, priced.priced, bytes_most (insert (serial_range x) (ranges_at t 0 p.ranges)), length_insert (serial_range x) (ranges_at t 0 p.ranges), length_rows t 0 p.ranges)

  -- the page with it is not sendable
  pub under_stop : is_sendable b.most b.limit b.room (p.count + 1) (p.bytes + x.length) q.ranges (whole_of b.fixed (p.bytes + x.length) q.ranges q.spelled) ≡ false
      → {d : Decided} → d ≡ stopped b.most p.count (whole_of b.fixed p.bytes p.ranges p.spelled) p.ranges q.ranges (whole_of b.fixed (p.bytes + x.length) q.ranges q.spelled)
      → Decides w l b d t₀ t
  under_stop f d-is =
      decides u (ap taken_in d-is ∙ taken_stopped b.most p.count _ p.ranges q.ranges _)
      (d-is
      ∙ rw (whole_then, count_then, u.stored, u.spelled, ranges_are u)
      (stop_law b.most b.limit b.room (table_measure b.fixed l w) (length w) p.count (one_left w p.count u.rest) u.every (sym sendable_then ∙ f)))

  -- the page with it is sendable
  pub under_take : (t' : List ℕ) → b.most ≤ most_said → b.most * range_width ≤ length t₀ → x.length ≤ 2 ^ 32 → t' ≡ laid_with x (ranges_at t 0 p.ranges) t
      → is_sendable b.most b.limit b.room (p.count + 1) (p.bytes + x.length) q.ranges (whole_of b.fixed (p.bytes + x.length) q.ranges q.spelled) ≡ true
      → Under w l t₀ b r t' (record { count = p.count + 1; bytes = p.bytes + x.length; place = p.place + 1; ranges = q.ranges; spelled = q.spelled })
  under_take t' most room light d f =
      let now = ranges_at t 0 p.ranges in
      let c : q.ranges ≤ b.most = sendable_ranges b.most b.limit b.room (p.count + 1) (p.bytes + x.length) q.ranges (whole_of b.fixed (p.bytes + x.length) q.ranges q.spelled) f in
      let g : laid_with x now t ≡ laid_with x (ranges_with l (take p.count w)) (laid_all (take p.count w) l t₀) = cc (u.held, u.laid) in
      rw (add-one p.count)
      (record {
        rest = drop_next w p.count u.rest;
        within = one_left w p.count u.rest;
        few = omega (arith, u.few);
        stored = stored_then;
        small = omega (arith, u.small);
        carried = omega (arith, c, most);
        room = omega (arith, c, room);
        held = rw d (ap (ranges_at (laid_with x now t) 0) priced.counted ∙ laid_rows_lem (insert (serial_range x) now) _ ∙ ranges_then);
        spelled = spelled_then;
        laid = d ∙ g ∙ sym (laid_next w p.count u.rest l t₀);
        same_length = ap length d ∙ length_laid (insert (serial_range x) now) t (omega (arith, priced.counted, u.same_length)) ∙ u.same_length;
        every = every_more (sendable b.most b.limit b.room (table_measure b.fixed l w)) p.count u.every (sym sendable_then ∙ f);
      })
