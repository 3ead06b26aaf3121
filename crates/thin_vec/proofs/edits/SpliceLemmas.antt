-- These lemmas are about `Splice::finish`, which replaces a range of a list with the items of an
-- iterator. They state what `finish` costs, which items the iterator yields, and why a call fails.
use Rattle.std.proofs.Common.{if◌then◌else◌, inl, inr, Option, Some, None, append_assoc, drop, take, subst, ◌≡◌, ℕ, ◌+◌, ◌-◌, ◌<◌, ◌≤◌, Bool, true, false, eqb, List, [], ◌∷◌, ◌++◌, ap, arith, length, length-append, refl, sym, ◌∙◌}
use Rattle.std.proofs.lemmas.List.{append-nil, drop_at, length-drop, length-take-le, take_at}
use Rattle.std.specs.Borrow.{RattleType}
use Rattle.std.specs.Option.{option_to_list}
use Rattle.std.specs.Prelude.{IfErr, IsSome, MatchOption, vec_capacity}
use Rattle.std.specs.declared.result.Result.{Result}
use Rattle.std.specs.declared.result.Result.TheVariants.{Ok, Err}
use Rattle.std.specs.Iterator.{Count, Drains, Yields, YieldsThen, size}
use Rattle.std.specs.Iterator.SizeHint.{IsWithinCount}
use Rattle.thin_vec.specs.Cheap.{IsCheap}
use Rattle.thin_vec.specs.List.Extend.{YieldsAndCanContinue}
use Rattle.std.proofs.lemmas.Bool.Decides.{nat_tests}
use Rattle.thin_block.specs.declared.errors.ThinVecError.TheVariants.{OutOfMemory}
use Rattle.thin_block.proofs.ResultLemmas.{some-same}
use Rattle.thin_block.specs.Cost.{Cost, add_moves}
use Rattle.thin_block.specs.Growth.{IsLawful, GrowthRule}
use Rattle.std.proofs.lemmas.Bool.{false≢true}
use Rattle.thin_vec.specs.OpenView.{OpenView, cost_closed, items_of}
use Rattle.thin_vec.specs.Edits.Splice.{IsSpliceCause, SpliceErrorAccountsFor}
use Rattle.thin_vec.specs.Edits.Finish.{AddsFromIter, without_middle, with_replacement}
use Rattle.thin_vec.specs.List.Capacity.{FailsForRoom}
use Rattle.thin_vec.specs.ThinVec.{HasRoomFor, ListView, capacity_after_reserve, cost_after_resize}
use Rattle.thin_vec.specs.declared.errors.SpliceRefused.{SpliceRefused}
use Rattle.thin_vec.proofs.list.ExtendLemmas.{yields-join}
use Rattle.thin_vec.proofs.GrowthLemmas.{grown-le}
use Rattle.thin_vec.proofs.RetainLemmas.{moving-more, moving-none}
use Rattle.thin_vec.proofs.list.ReservesLemmas.{cheap-kept}
use Rattle.thin_vec.proofs.GrowthLemmas.{cap-kept, cost_after_resize-same}

-- Closing `w` takes one move for each tail item, and none if `w` has no gap.
pub closed-moves : {T A : Type 0} (v w : OpenView T A) (n : ℕ)
    → w.cost ≡ add_moves (v.gap_before - w.gap_before)
    v.cost → w.middle ≡ [] → w.tail ≡ v.tail → n ≡ v.gap_before - w.gap_before
    → (m : ℕ) × (cost_closed w ≡ add_moves (n + m) v.cost)
    × (0 < w.gap_before → m ≡ length v.tail) × (w.gap_before ≡ 0 → m ≡ 0)
closed-moves v w n paid none same count = go (eqb w.gap_before 0) refl
  where
    filled : w.cost ≡ add_moves n v.cost
    filled = paid ∙ ap (λ k. add_moves k v.cost) (sym count)

    go : (b : Bool) → eqb w.gap_before 0 ≡ b → (m : ℕ)
        × ((if b then w.cost else add_moves (length w.middle + length w.tail) w.cost) ≡ add_moves
        (n + m)
        v.cost) × (0 < w.gap_before → m ≡ length v.tail) × (w.gap_before ≡ 0 → m ≡ 0)
    go true e = (
      0,
      filled ∙ ap (λ k. add_moves k v.cost) (let z : n ≡ n + 0 = omega arith in z),
      λ some. let t : eqb w.gap_before 0 ≡ false = grind (arith, nat_tests, some) in
          cc,
      λ _. refl,
    )
    go false e =
        let all : length w.middle + length w.tail ≡ length v.tail =
        omega (arith, ap length none, ap length same) in (
          length v.tail,
          ap (λ k. add_moves k w.cost) all
              ∙ (ap (λ c. add_moves (length v.tail) c) filled
              ∙ moving-more (length v.tail) n v.cost),
          λ _. refl,
          λ z. let t : eqb w.gap_before 0 ≡ true = grind (arith, nat_tests, z) in
              cc,
        )

-- A first step makes `n` moves, or none if `count` is 0. `k + m` more moves follow it.
pub run-moves : (count n k m : ℕ) (c d : Cost) → d ≡ (if eqb count 0 then c else add_moves n c)
    → add_moves (k + m) d ≡ add_moves (k + (if eqb count 0 then 0 else n) + m) c
run-moves count n k m c d e = go (eqb count 0) e
  where
    go : (b : Bool) → d ≡ (if b then c else add_moves n c)
        → add_moves (k + m) d ≡ add_moves (k + (if b then 0 else n) + m) c
    go true e =
        ap (λ q. add_moves (k + m) q) e
        ∙ ap (λ j. add_moves j c) (let f : k + m ≡ k + 0 + m = omega arith in f)
    go false e =
        ap (λ q. add_moves (k + m) q) e
        ∙ (moving-more (k + m) n c
        ∙ ap (λ j. add_moves j c) (let f : n + (k + m) ≡ k + n + m = omega arith in f))

module _ {S X : Type 0} (steps : S → Option X → S → Type 0) where
  -- If there is no item in hand, the iterator `s` has yielded the items `held`, and has ended.
  pub drawn-end : (s t u : S) (x : X) (held : List X) (o : Option X) → steps s (Some x) t
      → (xs : List X) × (held ++ option_to_list o ≡ x ∷ xs)
      × MatchOption o (YieldsThen steps t xs None u) (λ _. Yields steps t xs u)
      → o ≡ None → YieldsThen steps s held None u
  drawn-end s t u x held None one (xs, parts, now) none = (
    now.0,
    subst (λ l. Yields steps s l now.0) (sym (sym (append-nil held) ∙ parts)) (t, one, now.1),
    now.2,
  )
  drawn-end s t u x held (Some y) one (xs, parts, now) none = cc

  -- Otherwise, it has yielded the items `held`, and then the item `y` in hand.
  pub drawn-next : (s t u : S) (x y : X) (held : List X) (o : Option X) → steps s (Some x) t
      → (xs : List X) × (held ++ option_to_list o ≡ x ∷ xs)
      × MatchOption o (YieldsThen steps t xs None u) (λ _. Yields steps t xs u)
      → o ≡ Some y → Yields steps s (held ++ y ∷ []) u
  drawn-next s t u x y held None one (xs, parts, now) is = cc
  drawn-next s t u x y held (Some z) one (xs, parts, now) is =
      subst (λ l. Yields steps s l u) (sym parts ∙ ap (λ w. held ++ w ∷ []) (some-same is))
      (t, one, now)

pub if-err : {X E : Type 0} {P Q : E → Type 0} (r : Result X E) → ((e : E) → r ≡ Err e → P e → Q e)
    → IfErr r P → IfErr r Q
if-err (Ok _) h p = p
if-err (Err e) h p = h e refl p

pub any-err : {X E : Type 0} {Q : E → Type 0} (r : Result X E) → ((e : E) → Q e) → IfErr r Q
any-err (Ok _) h = tt
any-err (Err e) h = h e

pub inserted-long : {T : Type 0} (xs ys : List T) (at : ℕ) → at ≤ length xs
    → length ((take at xs ++ ys) ++ drop at xs) ≡ length xs + length ys
inserted-long xs ys at in_bounds =
    omega (
      arith,
      length-append (take at xs ++ ys) (drop at xs),
      length-append (take at xs) ys,
      length-take-le at xs in_bounds,
      length-drop at xs,
    )

module _ {S X : Type 0} (steps : S → Option X → S → Type 0) where
  pub drains-more : (s t : S) (xs ys : List X) → Yields steps s xs t → Drains steps t ys
      → Drains steps s (xs ++ ys)
  drains-more s t xs ys before now =
      (now.0, (now.1.0, yields-join steps s t now.1.0 xs ys before now.1.1, now.1.2))

module _ {S X A : Type 0} (steps : S → Option X → S → Type 0) (can : S → Type 0)
    (remaining : S → Count) where
  -- The items `xs` that the iterator yielded before count as inserted items.
  pub stopped-more : (s t : S) (xs : List X) (error : SpliceRefused X S A) → Yields steps s xs t
      → SpliceErrorAccountsFor steps can remaining t [] error
      → SpliceErrorAccountsFor steps can remaining s xs error
  stopped-more s t xs error before (inl now) =
      let held = error.held.items in let last : List X = option_to_list error.in_hand in
      inl (
        record {
          gave = subst (λ l. Yields steps s l error.rest) (sym (append_assoc xs held last))
              (yields-join steps s t error.rest xs (held ++ last) before now.0.gave);
          can_next = now.0.can_next;
          finite = now.0.finite;
        },
        now.1,
      )
  stopped-more s t xs error before (inr now) =
      inr (
        now.0,
        now.1,
        (now.2.0, yields-join steps s t now.2.0 xs error.held.items before now.2.1, now.2.2),
      )

  pub stopped-now : (s : S) (xs : List X) (error : SpliceRefused X S A) → error.held.items ≡ []
      → YieldsAndCanContinue steps can remaining s (xs ++ option_to_list error.in_hand) error.rest
      → SpliceErrorAccountsFor steps can remaining s xs error
  stopped-now s xs error none paused =
      inl (
        record {
          gave = subst (λ l. Yields steps s (l ++ option_to_list error.in_hand) error.rest)
              (sym (append-nil xs) ∙ ap (λ l. xs ++ l) (sym none)) paused.gave;
          can_next = paused.can_next;
          finite = paused.finite;
        },
        λ _. none,
      )

when-some : {X : Type 0} (P Q : Type 0) (o : Option X) → MatchOption o P (λ _. Q) → IsSome o
    → Q
when-some P Q (Some x) q some = q
when-some P Q None p some = absurd (false≢true some)

when-none : {X : Type 0} (P Q : Type 0) (o : Option X) → MatchOption o P (λ _. Q) → o ≡ None → P
when-none P Q (Some x) q none = cc
when-none P Q None p none = p

-- The lemmas in this module are about a call to `finish` that failed with `error`. `rule` is the
-- growth rule, `R` is the type of the items, and `v` is the list after the call. `tail` contains
-- the items after the replaced range. After the call, the iterator can yield at most `left` items.
module _ {S T A : Type 0} (rule : GrowthRule) (R : RattleType) (v : ListView T A) (tail : List T)
    (left : Count) (error : SpliceRefused T S A) where
  -- `finish` can fail at three steps: the reservation for the size hint, the collection and
  -- insertion of the held items, and, if no item follows the range, the call to `extend`.
  pub stop-at-hint : 0 < length tail → error.held.items ≡ [] → error.in_hand ≡ None
      → (h : ℕ) × IsWithinCount h left × FailsForRoom rule R v h error.cause
      → IsSpliceCause rule R v tail left error
  stop-at-hint some none empty fails = record {
    by_hint = λ _ _. fails;
    by_held = λ more _. absurd (omega (arith, more, ap length none));
    by_in_hand = λ _ is. absurd (false≢true (subst IsSome empty is));
    by_push = λ no_tail. absurd (omega (arith, some, ap length no_tail));
  }

  pub stop-at-held : 0 < length tail → (error.in_hand ≡ None → 0 < length error.held.items)
      → (error.in_hand ≡ None → FailsForRoom rule R v (length error.held.items) error.cause)
      → (IsSome error.in_hand
      → (error.cause ≡ OutOfMemory) × (length error.held.items ≡ vec_capacity error.held))
      → IsSpliceCause rule R v tail left error
  stop-at-held some more lacks memory = record {
    by_hint = λ none empty. absurd (omega (arith, more empty, ap length none));
    by_held = λ _ empty. lacks empty;
    by_in_hand = λ _ is. memory is;
    by_push = λ no_tail. absurd (omega (arith, some, ap length no_tail));
  }

  pub stop-at-end : tail ≡ [] → error.held.items ≡ []
      → (k : ℕ) × MatchOption error.in_hand (IsWithinCount k left) (λ _. k ≡ 1)
      × FailsForRoom rule R v k error.cause
      → IsSpliceCause rule R v tail left error
  stop-at-end no_tail none fails = record {
    by_hint = λ _ empty. (fails.0, when-none _ _ error.in_hand fails.1 empty, fails.2);
    by_held = λ more _. absurd (omega (arith, more, ap length none));
    by_in_hand = λ some _. absurd (omega (arith, some, ap length no_tail));
    by_push = λ _ some. subst (λ k. FailsForRoom rule R v k error.cause)
        (when-some _ _ error.in_hand fails.1 some) fails.2;
  }

unmoved : (b : Bool) (c : Cost) (n : ℕ) → n ≡ 0 → (if b then c else add_moves n c) ≡ c
unmoved true c n none = refl
unmoved false c n none = ap (λ k. add_moves k c) none ∙ moving-none c

module _ {T A : Type 0} where
  pub closed-left : (v : OpenView T A) (u : ListView T A) → v.middle ≡ [] → v.tail ≡ []
      → record u { items = items_of v; capacity = v.capacity; cost = cost_closed v }
      ≡ without_middle v u.alloc
  closed-left v u none no_tail =
      let free : cost_closed v ≡ v.cost =
      unmoved (eqb v.gap_before 0) v.cost (length v.middle + length v.tail)
      (omega (arith, ap length none, ap length no_tail)) in
      cc (none, free)

  pub between-more : (v : OpenView T A) (us xs ys : List T) (end : ℕ) → us ≡ with_replacement v xs
      → end ≡ length v.front + length xs
      → (take end us ++ ys) ++ drop end us ≡ with_replacement v (xs ++ ys)
  between-more v us xs ys end e ends =
      let pre : List T = v.front ++ xs in
      let here : length pre ≡ end = omega (arith, length-append v.front xs, ends) in
      (λ i. (take end (e i) ++ ys) ++ drop end (e i))
      ∙ ((λ i. (take_at pre v.tail end here i ++ ys) ++ drop_at pre v.tail end here i)
      ∙ ap (λ l. l ++ v.tail) (append_assoc v.front xs ys))

  pub between-length : (v : OpenView T A) (xs : List T)
      → length (with_replacement v xs) ≡ length v.front + length xs + length v.tail
  between-length v xs =
      omega (arith, length-append (v.front ++ xs) v.tail, length-append v.front xs)

  pub after-items : (v : OpenView T A) (xs : List T) → v.tail ≡ []
      → (v.front ++ v.tail) ++ xs ≡ with_replacement v xs
  after-items v xs none =
      (λ i. (v.front ++ none i) ++ xs)
      ∙ (ap (λ l. l ++ xs) (append-nil v.front)
      ∙ (sym (append-nil (v.front ++ xs)) ∙ (λ i. (v.front ++ xs) ++ sym none i)))

module _ (R : RattleType) {T A : Type 0} where
  pub taken-spare : (v w : ListView T A) (m : ℕ) (left : Count) → w.cost ≡ add_moves m v.cost
      → w.capacity ≡ v.capacity → w.alloc ≡ v.alloc → AddsFromIter v w left
  taken-spare v w m left paid same from = record {
    never_less = omega (arith, same);
    had_room = λ _. same;
    kept = λ _. ap (λ c. c.blocks) paid;
    alloc = from;
    cheap = cheap-kept R v w same (ap (λ c. c.blocks) paid, ap (λ c. c.grown) paid);
  }

  pub taken-none : (v w : ListView T A) (left : Count) → w ≡ v → AddsFromIter v w left
  taken-none v w left e =
      taken-spare v w 0 left (ap (λ z. z.cost) e ∙ sym (moving-none v.cost))
      (ap (λ z. z.capacity) e) (ap (λ z. z.alloc) e)

  pub taken-reserved : (rule : GrowthRule) → IsLawful rule → (v w : ListView T A) (h : ℕ)
      (left : Count)
      → capacity_after_reserve rule R v h ≡ Some w.capacity → w.alloc ≡ v.alloc
      → w.cost ≡ cost_after_resize v w.capacity → (IsCheap v → IsCheap w) → h ≤ size left
      → AddsFromIter v w left
  taken-reserved rule law v w h left named from paid cheap allowed = record {
    never_less = grown-le rule R law v.capacity (length v.items + h) w.capacity named;
    had_room = λ fit. cap-kept rule R law v h w.capacity (omega (arith, fit, allowed)) named;
    kept = λ same. ap (λ c. c.blocks) (paid ∙ cost_after_resize-same v w.capacity same);
    alloc = from;
    cheap = cheap;
  }

pub taken-join : {T A : Type 0} (v u w : ListView T A) (left more : Count)
    → (HasRoomFor v (size left) → u.capacity ≡ v.capacity → HasRoomFor u (size more))
    → AddsFromIter v u left → AddsFromIter u w more → AddsFromIter v w left
taken-join v u w left more room p q = record {
  never_less = omega (arith, p.never_less, q.never_less);
  had_room = λ fit. let same = p.had_room fit in q.had_room (room fit same) ∙ same;
  kept = λ same.
      let low = p.never_less in let high = q.never_less in
      q.kept (omega arith) ∙ p.kept (omega arith);
  alloc = q.alloc ∙ p.alloc;
  cheap = λ c. q.cheap (p.cheap c);
}
