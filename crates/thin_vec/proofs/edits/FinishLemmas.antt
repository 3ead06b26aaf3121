-- These lemmas are about `finish`, which completes a splice. They state what the list contains
-- after each step of `finish`, and how these steps combine.
use Rattle.std.proofs.Common.{if◌then◌else◌, inl, inr, Bool, None, Option, Some, drop, take, subst, ◌≡◌, ℕ, ◌+◌, ◌-◌, ◌<◌, ◌≤◌, true, false, eqb, List, [], ◌∷◌, ◌++◌, ap, arith, length, length-append, refl, sym, ◌∙◌}
use Rattle.std.proofs.lemmas.Bool.{cases_lt}
use Rattle.std.proofs.lemmas.Bool.Decides.{nat_tests}
use Rattle.std.specs.Align.{type_align}
use Rattle.std.specs.Mem.{type_size}
use Rattle.std.specs.Borrow.{RattleType}
use Rattle.std.specs.Prelude.{IfErr, IsOk, OnErr, OnOk}
use Rattle.std.specs.declared.result.Result.{Result}
use Rattle.std.specs.declared.result.Result.TheVariants.{Ok, Err}
use Rattle.std.specs.Iterator.{Count, Drains, IsFinite, Yields, size}
use Rattle.std.specs.Iterator.SizeHint.{IsWithinCount}
use Rattle.thin_block.specs.Cost.{add_moves}
use Rattle.thin_block.specs.Growth.{GrowthRule, IsLawful, grown_capacity}
use Rattle.thin_vec.specs.Put.{YieldsThenMayEnd, IsFilledBy}
use Rattle.thin_vec.specs.declared.put.Filled.{Filled}
use Rattle.thin_vec.specs.Edits.Splice.{IsAfterSplice, IsSpliceCause, SpliceErrorAccountsFor, cost_after_growth}
use Rattle.thin_vec.specs.List.Extend.{IsAfterExtend}
use Rattle.thin_vec.specs.Edits.Finish.{AddsFromIter, FinishesSplice, without_middle, with_replacement}
use Rattle.thin_vec.specs.OpenView.{OpenView, cost_closed, items_of}
use Rattle.thin_vec.specs.ThinVec.{ListView, capacity_after_reserve, cost_after_resize}
use Rattle.thin_vec.specs.declared.errors.SpliceRefused.{SpliceRefused}
use Rattle.thin_vec.proofs.list.ExtendLemmas.{yields-join}
use Rattle.thin_vec.proofs.GrowthLemmas.{grown-le}
use Rattle.thin_vec.proofs.FinishCostLemmas.{growth-once, growth-same}
use Rattle.thin_vec.proofs.PushesLemmas.{paid-none, pushes-costs}
use Rattle.thin_vec.proofs.PutLemmas.{filled-fits}
use Rattle.thin_vec.proofs.GrowthLemmas.{cost_after_resize-same}
use Rattle.thin_vec.proofs.edits.SpliceLemmas.{between-length, between-more, closed-moves, drains-more, run-moves, stopped-more, taken-join, taken-spare}

module _ {T A : Type 0} where
  -- `IsWide` holds if the open block `b` results from opening a gap of `count` slots in the list
  -- `u` before index `at`. The items from index `at` onward are now tail items.
  pub record IsWide (b : OpenView T A) (u : ListView T A) (at count : ℕ) : Type 0 where
    pub in_bounds : at ≤ length u.items
    pub front : b.front ≡ take at u.items
    pub tail : b.tail ≡ drop at u.items
    pub capacity : b.capacity ≡ u.capacity
    pub cost : b.cost ≡ (if eqb count 0 then u.cost else add_moves (length u.items - at) u.cost)

  -- `IsGapFilled v xs a w` holds if writing the items `xs` into the gap of the open block `v` (a
  -- block during an edit) results in the list `w` with the allocator `a`.
  pub record IsGapFilled (v : OpenView T A) (xs : List T) (a : A) (w : ListView T A) : Type 0 where
    pub items : w.items ≡ with_replacement v xs
    pub capacity : w.capacity ≡ v.capacity
    pub alloc : w.alloc ≡ a
    -- The cost counts one move for each item of `xs`, and `m` moves for the items after the range.
    -- Each of these items is moved once, unless the gap is full.
    pub cost : (m : ℕ) × (w.cost ≡ add_moves (length xs + m) v.cost)
        × (length xs < v.gap_before → m ≡ length v.tail) × (length xs ≡ v.gap_before → m ≡ 0)

module _ {S T A : Type 0} (steps : S → Option T → S → Type 0) (can : S → Type 0)
    (remaining : S → Count) where
  -- `FillsGap v a s w f` holds if items of the iterator `s` were put into the gap of the open block
  -- `v` until the gap was full or the iterator ended, and closing `v` then gave the list `w`, whose
  -- allocator is `a`. The value `f` contains the rest of the iterator.
  abbrev pub FillsGap : OpenView T A → A → S → ListView T A → Filled S → Type 0
  FillsGap v a s w f =
      (by : IsFilledBy steps can remaining v.gap_before s f) × IsGapFilled v by.items a w
      × (f.end ≡ length v.front + length by.items)

  -- `IsReached` describes a state during `finish`, which began with the open block `v` and the
  -- iterator `s`. The iterator has yielded the items `xs`, and is now `t`. The list is now `u`: it
  -- contains `xs` between the front items and the tail items of `v`. The items `xs` are at least as
  -- many as the slots of the gap of `v`. `end` is the index directly after `xs`.
  pub record IsReached (v : OpenView T A) (s : S) (u : ListView T A) (xs : List T) (end : ℕ)
      (t : S) : Type 0 where
    pub items : u.items ≡ with_replacement v xs
    pub ends : end ≡ length v.front + length xs
    pub gave : Yields steps s xs t
    pub full : v.gap_before ≤ length xs
    pub can_next : can t
    pub finite : IsFinite (remaining t)
    pub nearer : length xs + size (remaining t) ≤ size (remaining s)

eqb-plus : (m n p a b : ℕ) → m ≡ p + a → n ≡ p + b → eqb m n ≡ eqb a b
eqb-plus m n p a b left right = elim (cases_lt a b) [
  | inl less ↦
      let f : eqb m n ≡ false = grind (arith, nat_tests) in
      let g : eqb a b ≡ false = grind (arith, nat_tests) in
      f ∙ sym g
  | inr high ↦ elim (cases_lt b a) [
    | inl more ↦
        let f : eqb m n ≡ false = grind (arith, nat_tests) in
        let g : eqb a b ≡ false = grind (arith, nat_tests) in
        f ∙ sym g
    | inr same ↦
        let f : eqb m n ≡ true = grind (arith, nat_tests) in
        let g : eqb a b ≡ true = grind (arith, nat_tests) in
        f ∙ sym g
  ]
]

-- The moves up to the end of the gap for the hint: `xs` items in the range, and `n` more ones. In
-- these lemmas, `all` is the number of items without the range, which has `k` slots.
hinted-sum : (xs m n a b all k now : ℕ) → m ≡ 0 → xs ≡ k → now ≡ all + k + n
    → (xs + m) + (n + a + b) ≡ now - all + a + b
hinted-sum xs m n a b all k now none full long = omega arith

hinted-count : (xs m n h t moved all k now : ℕ) → m ≡ 0 → xs ≡ k → moved ≡ t
    → now ≡ all + k + n
    → (xs + m) + (n + (if eqb h 0 then 0 else moved) + (if eqb n h then 0 else moved))
    ≡ now - all + (if eqb h 0 then 0 else t) + (if eqb now (all + k + h) then 0 else t)
hinted-count xs m n h t moved all k now none full tails long =
    let same = sym (eqb-plus now (all + k + h) (all + k) n h long refl) in
    (λ i. (xs + m) + (n + (if eqb h 0 then 0 else tails i) + (if same i then 0 else tails i)))
    ∙ hinted-sum xs m n (if eqb h 0 then 0 else t) (if eqb now (all + k + h) then 0 else t) all k
    now none full long

held-sum : (before now all a b : ℕ) → all ≤ before → before ≤ now
    → (before - all + a + 0) + (now - before + b) ≡ now - all + a + b
held-sum before now all a b low high = omega arith

-- The moves up to the end of the gap for the held items.
pub held-count : (before now all end a t moved : ℕ) → before ≡ end → all ≤ before → before ≤ now
    → moved ≡ t
    → (before - all + a + (if eqb before end then 0 else t))
    + (now - before + (if eqb now before then 0 else moved))
    ≡ now - all + a + (if eqb now end then 0 else t)
held-count before now all end a t moved full low high tails =
    let f : eqb before end ≡ true = grind (arith, nat_tests, full) in
    (λ i. (before - all + a + (if f i then 0 else t))
    + (now - before + (if eqb now (full i) then 0 else tails i)))
    ∙ held-sum before now all a (if eqb now end then 0 else t) low high

module _ {S T A : Type 0} {steps : S → Option T → S → Type 0} {can : S → Type 0}
    {remaining : S → Count} where
  -- If a part of the gap remains empty, `close` moves each tail item once. Otherwise, it moves no
  -- item.
  pub gap-filled : (v u : OpenView T A) (s : S) (z w : ListView T A) (f : Filled S)
      → ((by : IsFilledBy steps can remaining v.gap_before s f)
      × (u ≡ record v {
        front = v.front ++ by.items;
        gap_before = v.gap_before - length by.items;
        cost = add_moves (length by.items) v.cost;
      }) × (f.end ≡ length u.front))
      → v.middle ≡ []
      → w ≡ record z { items = items_of u; capacity = u.capacity; cost = cost_closed u }
      → FillsGap steps can remaining v z.alloc s w f
  gap-filled v u s z w f filled empty closed =
      let xs = filled.0.items in
      let same = filled.1 in
      let none = ap (λ y. y.middle) same ∙ empty in
      let tail = ap (λ y. y.tail) same in
      let gap_before = ap (λ y. y.gap_before) same in
      let many : length xs ≡ v.gap_before - u.gap_before =
      omega (arith, gap_before, filled-fits filled.0) in
      let put = closed-moves v u (length xs)
      (ap (λ y. y.cost) same ∙ ap (λ n. add_moves n v.cost) many) none tail many in (
        filled.0,
        record {
          items = ap (λ y. y.items) closed ∙ (λ i. (same i).front ++ (none i ++ tail i));
          capacity = ap (λ y. y.capacity) closed ∙ ap (λ y. y.capacity) same;
          alloc = ap (λ y. y.alloc) closed;
          cost = (
            put.0,
            ap (λ y. y.cost) closed ∙ put.1,
            λ short. put.2 (omega (arith, gap_before, short)),
            λ full. put.3 (omega (arith, gap_before, full)),
          );
        },
        omega (arith, filled.2, ap (λ y. length y.front) same, length-append v.front xs),
      )

  module _ {v : OpenView T A} {a : A} {s : S} {w : ListView T A} {f : Filled S}
      (p : FillsGap steps can remaining v a s w f) where
    -- The lemmas `filled-..` are about the state after items were put into the gap of `v`.
    pub filled-long : length w.items ≡ length v.front + length v.tail + length p.0.items
    filled-long = omega (arith, ap length p.1.items, between-length v p.0.items)

    pub filled-reached : f.ended ≡ false
        → IsReached steps can remaining v s w p.0.items f.end f.rest
    filled-reached more = record {
      items = p.1.items;
      ends = p.2;
      gave = subst (λ b. YieldsThenMayEnd steps s p.0.items b f.rest) more p.0.gave;
      full = omega (arith, p.0.full more);
      can_next = (p.0.asked more).0;
      finite = (p.0.asked more).1;
      nearer = p.0.nearer more;
    }

    pub filled-drains : f.ended ≡ true → Drains steps s p.0.items
    filled-drains done =
        (f.rest, subst (λ b. YieldsThenMayEnd steps s p.0.items b f.rest) done p.0.gave)

    -- After the range is full, a gap of `h` slots at index `at` gets `n` more items.
    pub filled-hinted : (y : ListView T A) (n h at : ℕ) → f.ended ≡ false
        → y.cost ≡ add_moves (n + (if eqb h 0 then 0 else length w.items - at)
        + (if eqb n h then 0 else length w.items - at)) (cost_after_resize w y.capacity)
        → length w.items - at ≡ length v.tail → length y.items ≡ length w.items + n
        → y.cost ≡ add_moves (length y.items - length (v.front ++ v.tail)
        + (if eqb h 0 then 0 else length v.tail)
        + (if eqb (length y.items) (length (v.front ++ v.tail) + v.gap_before + h) then 0
        else length v.tail))
        (cost_after_growth (length (v.front ++ v.tail) + v.gap_before) v.capacity y.capacity v.cost)
    filled-hinted y n h at more paid tails long =
        let all = length (v.front ++ v.tail) in
        let start = all + v.gap_before in
        let slots : length w.items ≡ start =
        omega (arith, filled-long, p.0.full more, length-append v.front v.tail) in
        let moves = n + (if eqb h 0 then 0 else length w.items - at)
        + (if eqb n h then 0 else length w.items - at) in
        growth-once w y (length p.0.items + p.1.cost.0) moves start v.capacity v.cost p.1.cost.1
        p.1.capacity slots paid
        ∙ ap (λ q. add_moves q (cost_after_growth start v.capacity y.capacity v.cost))
        (hinted-count (length p.0.items) p.1.cost.0 n h (length v.tail) (length w.items - at) all
        v.gap_before (length y.items) (p.1.cost.3 (p.0.full more)) (p.0.full more) tails
        (omega (arith, long, slots)))

    module _ (R : RattleType) (left : Count) where
      pub filled-taken : AddsFromIter (without_middle v a) w left
      filled-taken =
          taken-spare R (without_middle v a) w (length p.0.items + p.1.cost.0) left p.1.cost.1
          p.1.capacity p.1.alloc

      pub wide-taken : (u : ListView T A) (at count : ℕ) → IsWide v u at count → a ≡ u.alloc
          → AddsFromIter u w left
      wide-taken u at count wide from =
          let before = if eqb count 0 then 0 else length u.items - at in
          taken-spare R u w (length p.0.items + before + p.1.cost.0) left
          (p.1.cost.1 ∙ run-moves count (length u.items - at) (length p.0.items) p.1.cost.0 u.cost
          v.cost wide.cost)
          (p.1.capacity ∙ wide.capacity) (p.1.alloc ∙ from)

  module _ {v : OpenView T A} {s t : S} {u : ListView T A} {xs : List T} {end : ℕ}
      (p : IsReached steps can remaining v s u xs end t) where
    -- The lemmas `reached-..` are about later steps, which start from the state `IsReached`.
    pub reached-long : length u.items ≡ end + length v.tail
    reached-long = omega (arith, ap length p.items, between-length v xs, p.ends)

    pub reached-taken : (a : A) (w : ListView T A)
        → AddsFromIter (without_middle v a) u (remaining s) → AddsFromIter u w (remaining t)
        → AddsFromIter (without_middle v a) w (remaining s)
    reached-taken a w before now =
        taken-join (without_middle v a) u w (remaining s) (remaining t)
        (λ fit same. omega (
          arith,
          fit,
          same,
          ap length p.items,
          between-length v xs,
          length-append v.front v.tail,
          p.nearer,
        ))
        before now

    -- Reserving room for `h` items now is like reserving it for `v.gap_before + h` items at the
    -- start.
    pub reached-reserved : (rule : GrowthRule) (R : RattleType) (a : A) (h c : ℕ)
        → u.capacity ≡ v.capacity → length xs ≡ v.gap_before → IsWithinCount h (remaining t)
        → capacity_after_reserve rule R u h ≡ Some c
        → IsWithinCount (v.gap_before + h) (remaining s)
        × (capacity_after_reserve rule R (without_middle v a) (v.gap_before + h) ≡ Some c)
    reached-reserved rule R a h c same all hint reserved =
        let within : h ≤ size (remaining t) = hint p.finite in
        let want : length v.front + length v.tail + (v.gap_before + h) ≡ length u.items + h =
        omega (arith, all, ap length p.items, between-length v xs) in (
          (λ _. omega (arith, all, p.nearer, within)),
          (λ i. grown_capacity rule (type_size R) (type_align R) (sym same i)
              ((ap (λ n. n + (v.gap_before + h)) (length-append v.front v.tail) ∙ want) i))
              ∙ reserved,
        )

    pub reached-more : {w : ListView T A} {room : ℕ} {f : Filled S}
        (by : IsFilledBy steps can remaining room t f)
        → w.items ≡ (take end u.items ++ by.items) ++ drop end u.items
        → f.end ≡ end + length by.items → f.ended ≡ false
        → IsReached steps can remaining v s w (xs ++ by.items) f.end f.rest
    reached-more {f = f} by items ends more =
        let ys = by.items in
        let long = length-append xs ys in
        record {
          items = items ∙ between-more v u.items xs ys end p.items p.ends;
          ends = omega (arith, ends, p.ends, long);
          gave = yields-join steps s t f.rest xs ys p.gave
              (subst (λ b. YieldsThenMayEnd steps t ys b f.rest) more by.gave);
          full = omega (arith, p.full, long);
          can_next = (by.asked more).0;
          finite = (by.asked more).1;
          nearer = omega (arith, p.nearer, by.nearer more, long);
        }

  module _ {rule : GrowthRule} {R : RattleType} (v : OpenView T A) (a : A) (s : S)
      (w : ListView T A) where
    pub finished-ok : (x : Unit {0})
        → (xs : List T) × Drains steps s xs × (w.items ≡ with_replacement v xs)
        → AddsFromIter (without_middle v a) w (remaining s)
        → (v.tail ≡ [] → (h : ℕ) × IsWithinCount h (remaining s)
        × IsAfterExtend rule R (without_middle v a) h w)
        → (0 < length v.tail → (h : ℕ) × IsAfterSplice rule R v.gap_before (length v.tail)
        (without_middle v a) h w (remaining s))
        → FinishesSplice steps can remaining rule R v a s w (Ok x)
    finished-ok x items taken at_end before_tail = record {
      succeeds = λ _. refl;
      succeeds_at_end = λ _ _. refl;
      items = items;
      longer = omega (
        arith,
        ap length items.2,
        between-length v items.0,
        length-append v.front v.tail,
      );
      taken = taken;
      at_end = at_end;
      before_tail = λ some. let grew = before_tail some in (grew.0, grew.1, tt);
      placed = tt;
      cause = tt;
      held_at_end = λ _. tt;
      in_hand_at_end = λ _. tt;
      in_hand_before_tail = λ _. tt;
    }

    pub finished-from : {t : S} {u : ListView T A} {xs : List T} {end : ℕ}
        (r : Result (Unit {0}) (SpliceRefused T S A))
        → IsReached steps can remaining v s u xs end t → 0 < length v.tail
        → (size (remaining t) ≡ 0 → IsOk r)
        → OnOk r ((ys : List T) × Drains steps t ys
        × (w.items ≡ (take end u.items ++ ys) ++ drop end u.items))
        → IfErr r (λ error. SpliceErrorAccountsFor steps can remaining t [] error)
        → IfErr r (λ error. IsSpliceCause rule R w v.tail (remaining error.rest) error)
        → OnErr r (w ≡ u)
        → AddsFromIter (without_middle v a) w (remaining s)
        → (h : ℕ) → IsAfterSplice rule R v.gap_before (length v.tail) (without_middle v a) h w
        (remaining s)
        → IfErr r (λ error. (length u.items ≡ length (v.front ++ v.tail) + v.gap_before + h)
        × (error.held.items ≡ [] → error.in_hand ≡ None → h ≡ 0))
        → FinishesSplice steps can remaining rule R v a s w r
    finished-from {t} {u} {xs} {end} (Ok x) p some ends items placed cause err taken h grew stops =
        finished-ok x (
          xs ++ items.0,
          drains-more steps s t xs items.0 p.gave items.1,
          items.2 ∙ between-more v u.items xs items.0 end p.items p.ends,
        )
        taken (λ none. absurd (omega (arith, some, ap length none))) (λ _. (h, grew))
    finished-from {t} {u} {xs} (Err e) p some ends items placed cause err taken h grew stops =
        let long = ap (λ z. length z.items) err ∙ stops.0 in
        record {
          succeeds = λ few. ends (omega (arith, few, p.full, p.nearer));
          succeeds_at_end = λ none. absurd (omega (arith, some, ap length none));
          items = tt;
          longer = omega (
            arith,
            ap (λ z. length z.items) err,
            ap length p.items,
            between-length v xs,
            length-append v.front v.tail,
          );
          taken = taken;
          at_end = λ none. absurd (omega (arith, some, ap length none));
          before_tail = λ _. (h, grew, long);
          placed = (
            xs,
            ap (λ z. z.items) err ∙ p.items,
            stopped-more steps can remaining s t xs e p.gave placed,
          );
          cause = cause;
          held_at_end = λ none. absurd (omega (arith, some, ap length none));
          in_hand_at_end = λ none. absurd (omega (arith, some, ap length none));
          in_hand_before_tail = λ _ none hand. omega (arith, long, stops.1 none hand);
        }

plus-none : (d x : ℕ) → d + 0 + x ≡ d + x
plus-none d x = omega arith

plus-either : (b : Bool) (d : ℕ) → d + (if b then 0 else 0) ≡ d
plus-either true d = omega arith
plus-either false d = omega arith

-- If the capacity did not change and the range, which has `k` slots, had one for each item that the
-- iterator could yield, each item after the range moved at most once.
pub finished-moves : {T A : Type 0} (rule : GrowthRule) (R : RattleType) (tail : List T) (k : ℕ)
    (v w : ListView T A) (limit : Count) → IsLawful rule
    → (tail ≡ [] → (h : ℕ) × IsWithinCount h limit × IsAfterExtend rule R v h w)
    → (0 < length tail → (h : ℕ) × IsAfterSplice rule R k (length tail) v h w limit)
    → length v.items ≤ length w.items → length w.items ≤ w.capacity → w.capacity ≡ v.capacity
    → IsFinite limit → size limit ≤ k
    → w.cost ≡ add_moves (length w.items - length v.items
    + (if eqb (length w.items - length v.items) k then 0 else length tail)) v.cost
finished-moves rule R [] k v w limit law at_end before_tail longer room same finite few =
    let grew = at_end refl in let after = grew.2 in
    let d = length w.items - length v.items in let c = after.reserved in
    let low = grown-le rule R law v.capacity (length v.items + grew.0) c after.reserves in
    let high = pushes-costs rule R law c (length w.items) w.capacity v.cost after.capacity in
    let kept : c ≡ v.capacity = omega (arith, low, high.never_less.0, same) in
    after.cost
    ∙ (ap (add_moves d)
    (paid-none rule R c (length w.items) (cost_after_resize v c) (omega (arith, room, same, kept))
    ∙ cost_after_resize-same v c kept)
    ∙ ap (λ m. add_moves m v.cost) (sym (plus-either (eqb d k) d)))
finished-moves rule R (x ∷ xs) k v w limit law at_end before_tail longer room same finite few =
    let t = length (x ∷ xs) in
    let grew = before_tail (omega arith) in let h = grew.0 in let after = grew.1 in
    let d = length w.items - length v.items in let c = after.reserved in
    let n = length v.items in
    let low = grown-le rule R law v.capacity (n + (k + h)) c after.reserves in
    let high = grown-le rule R law c (length w.items) w.capacity after.capacity in
    let kept : c ≡ v.capacity = omega (arith, low, high, same) in
    let none : h ≡ 0 = elim after.within [
      | inl zero ↦ zero
      | inr within ↦ omega (arith, within finite, few)
    ] in
    let unhinted : eqb h 0 ≡ true = grind (arith, nat_tests) in
    let exact : eqb (length w.items) (n + k + h) ≡ eqb d k =
    eqb-plus (length w.items) (n + k + h) n d k (omega (arith, longer)) (omega (arith, none)) in
    after.cost
    ∙ ((λ i. add_moves (d + (if unhinted i then 0 else t) + (if exact i then 0 else t))
    (cost_after_growth (n + k + h) c w.capacity (cost_after_growth (n + k) v.capacity c v.cost)))
    ∙ (ap (λ m. add_moves m (cost_after_growth (n + k + h) c w.capacity
    (cost_after_growth (n + k) v.capacity c v.cost)))
    (plus-none d (if eqb d k then 0 else t))
    ∙ ap (add_moves (d + (if eqb d k then 0 else t)))
    (growth-same (n + k + h) c w.capacity _ (omega (arith, kept, same))
    ∙ growth-same (n + k) v.capacity c v.cost kept)))
