-- These lemmas are about the capacity and the cost of a list after `finish` of a `Splice`. They
-- are also meant for other crates.
use Rattle.thin_block.proofs.ResultLemmas.{some-same}
use Rattle.std.proofs.Common.{if◌then◌else◌, Bool, ◌≡◌, ℕ, ◌+◌, ◌*◌, ◌<◌, ◌≤◌, true, false, Some, ap, List, [], arith, eqb, inl, inr, length, refl, subst, sym, ◌∙◌, ◌-◌, ◌∷◌, ◌++◌, length-append}
use Rattle.std.specs.Borrow.{RattleType}
use Rattle.std.proofs.lemmas.Bool.{cases_lt}
use Rattle.std.proofs.lemmas.Bool.Decides.{nat_tests}
use Rattle.thin_block.specs.Cost.{Cost, add_realloc, add_moves}
use Rattle.thin_block.specs.Growth.{GrowthRule, IsLawful}
use Rattle.thin_block.proofs.CapacityLemmas.{ruled-same, ruled-grows}
use Rattle.thin_vec.specs.ThinVec.{ListView, capacity_after_reserve, cost_after_resize, HasRoomFor}
use Rattle.std.specs.Iterator.{Count}
use Rattle.std.specs.Iterator.SizeHint.{IsWithinCount}
use Rattle.std.specs.Prelude.{◌⊎◌}
use Rattle.thin_vec.specs.Edits.Splice.{IsAfterSplice, cost_after_growth, list_without_range, splice_front, splice_range_len, splice_tail}
use Rattle.thin_block.specs.declared.growth.Growth.{Ghosts}
use Rattle.thin_vec.specs.OpenView.{OpenView}
use Rattle.thin_vec.specs.declared.edits.holder.IntoInner.{Ghosts as IntoInnerGhosts}
use Rattle.thin_vec.specs.declared.edits.splice.Splice.{Splice}
use Rattle.thin_vec.specs.List.Extend.{CostsInserting, IsAfterExtend}
use Rattle.thin_vec.proofs.RetainLemmas.{moving-more, moving-none}
use Rattle.thin_vec.proofs.GrowthLemmas.{IsChosenByRule, IsKeptOrGrown, cap-kept, cost_after_resize-same, grown, grown-kept, grown-room, kept-join, reserved-none}
use Rattle.thin_vec.proofs.ExtendCostLemmas.{extended-costs}

-- If the capacity does not change, the cost does not change.
pub growth-same : (n c d : ℕ) (cost : Cost) → d ≡ c → cost_after_growth n c d cost ≡ cost
growth-same n c d cost same = let t : eqb d c ≡ true = grind (arith, nat_tests) in rw t refl

-- A list that does not change has the cost after a change of its capacity to the same.
resized-now : {T A : Type 0} (v : ListView T A) (q : ℕ)
    → v.cost ≡ add_moves (length v.items - length v.items
    + (if eqb (length v.items) (length v.items) then 0 else q)) (cost_after_resize v v.capacity)
resized-now v q =
    let t : eqb (length v.items) (length v.items) ≡ true = grind (arith, nat_tests) in
    let none : length v.items - length v.items + 0 ≡ 0 = omega arith in
    rw t (sym (ap (λ k. add_moves k (cost_after_resize v v.capacity)) none
    ∙ (moving-none (cost_after_resize v v.capacity)
    ∙ cost_after_resize-same v v.capacity refl)))

-- So has a list that equals the list before the call.
pub resized-none : {T A : Type 0} (v w : ListView T A) (q : ℕ) → w ≡ v
    → w.cost ≡ add_moves (length w.items - length v.items
    + (if eqb (length w.items) (length v.items) then 0 else q)) (cost_after_resize v w.capacity)
resized-none v w q same =
    subst (λ z. z.cost ≡ add_moves (length z.items - length v.items
    + (if eqb (length z.items) (length v.items) then 0 else q)) (cost_after_resize v z.capacity))
    (sym same) (resized-now v q)

-- The `t` items after `n` others move, unless `n` is `k`.
pub tail-moves : (n k t m : ℕ) → (n < k → m ≡ t) → (n ≡ k → m ≡ 0) → n ≤ k
    → (if eqb n k then 0 else t) ≡ m
tail-moves n k t m short full low = elim (cases_lt n k) [
  | inl less ↦ let f : eqb n k ≡ false = grind (arith, nat_tests) in rw f (sym (short less))
  | inr all ↦
      let same : n ≡ k = omega arith in let f : eqb n k ≡ true = grind (arith, nat_tests) in
      rw f (sym (full same))
]

-- A list of `n` items with the capacity `c` and the cost `add_moves a k` grows, and moves are made.
pub growth-once : {T A : Type 0} (u w : ListView T A) (a b n c : ℕ) (k : Cost)
    → u.cost ≡ add_moves a k → u.capacity ≡ c → length u.items ≡ n
    → w.cost ≡ add_moves b (cost_after_resize u w.capacity)
    → w.cost ≡ add_moves (a + b) (cost_after_growth n c w.capacity k)
growth-once u w a b n c k cost cap long paid =
    paid
    ∙ ((λ i. add_moves b (if eqb w.capacity (cap i) then cost i else add_realloc (long i) (cost i)))
    ∙ (ap (add_moves b) (go (eqb w.capacity c)) ∙ moving-more b a _))
  where
    go : (t : Bool) → (if t then add_moves a k else add_realloc n (add_moves a k))
        ≡ add_moves a (if t then k else add_realloc n k)
    go true = refl
    go false = refl

module _ (rule : GrowthRule) (R : RattleType) where
  module _ {T A : Type 0} (v : ListView T A) where
    -- If the items fit into the slots of the range, the list does not grow.
    pub spliced-none : (w : ListView T A) (k t m : ℕ) (left : Count)
        → length v.items + k ≤ v.capacity → w.capacity ≡ v.capacity
        → w.cost ≡ add_moves (length w.items - length v.items + m) v.cost
        → length w.items ≤ length v.items + k → (length w.items < length v.items + k → m ≡ t)
        → (length w.items ≡ length v.items + k → m ≡ 0) → IsAfterSplice rule R k t v 0 w left
    spliced-none w k t m left room same paid low short full =
        let n = length w.items - length v.items in
        let end = length v.items + k + 0 in
        let once = tail-moves (length w.items) end t m
        (λ less. short (omega (arith, less))) (λ all. full (omega (arith, all))) (omega arith) in
        let count : n + m ≡ n + 0 + m = omega arith in
        record {
          within = inl refl;
          short = λ _. refl;
          reserved = v.capacity;
          reserves = reserved-none rule R v (k + 0) (omega (arith, room));
          capacity = ruled-same rule _ _ v.capacity (length w.items) (omega (arith, low, room))
              ∙ ap Some (sym same);
          cost = paid
              ∙ (ap (λ q. add_moves q v.cost) (count ∙ ap (λ q. n + 0 + q) (sym once))
              ∙ ap (add_moves (n + 0 + (if eqb (length w.items) end then 0 else t)))
              (sym (growth-same end v.capacity w.capacity _ same
              ∙ growth-same (length v.items + k) v.capacity v.capacity v.cost refl)));
        }

-- A growth makes at most one request.
growth-blocks : (n c d : ℕ) (cost : Cost) → (cost_after_growth n c d cost).blocks ≤ cost.blocks + 1
growth-blocks n c d cost = go (eqb d c)
  where
    go : (b : Bool) → (if b then cost else add_realloc n cost).blocks ≤ cost.blocks + 1
    go true = omega arith
    go false = omega arith

-- Before a tail, `finish` makes at most two requests for the list.
pub spliced-blocks : {T A : Type 0} (rule : GrowthRule) (R : RattleType) (k t : ℕ)
    (v : ListView T A) (h : ℕ) (w : ListView T A) (left : Count)
    → IsAfterSplice rule R k t v h w left → w.cost.blocks ≤ v.cost.blocks + 2
spliced-blocks rule R k t v h w left p =
    let first = cost_after_growth (length v.items + k) v.capacity p.reserved v.cost in
    let all = cost_after_growth (length v.items + k + h) p.reserved w.capacity first in
    let blocks : w.cost.blocks ≡ all.blocks = ap (λ x. x.blocks) p.cost in
    omega (
      arith,
      growth-blocks (length v.items + k) v.capacity p.reserved v.cost,
      growth-blocks (length v.items + k + h) p.reserved w.capacity first,
    )

module _ (rule : GrowthRule) (R : RattleType) (law : IsLawful rule) where
  -- `GrowthCosts n c d q r` bounds the cost `r` after a block with `n` items changed its capacity
  -- from `c` to `d`. The cost before was `q`.
  pub record GrowthCosts (n c d : ℕ) (q r : Cost) : Type 0 where
    pub moves : r.moves ≡ q.moves
    pub never_less : (c ≤ d) × (q.blocks ≤ r.blocks) × (q.grown ≤ r.grown)
    pub kept : d ≡ c → (r.blocks ≡ q.blocks) × (r.grown ≡ q.grown)
    pub on_growth : c < d → (q.blocks < r.blocks) × (q.grown + n ≤ r.grown)
    pub copied : r.grown + c ≤ q.grown + d

  growth-costs : (n c m d : ℕ) (q : Cost) → n ≤ c → grown rule R c m ≡ Some d
      → GrowthCosts n c d q (cost_after_growth n c d q)
  growth-costs n c m d q fit e = elim (cases_lt c m) [
    | inl more ↦
        let g = ruled-grows rule _ _ c m d law more e in
        let bigger : c < d = omega (arith, more, g.enough) in
        let other : eqb d c ≡ false = grind (arith, nat_tests, bigger) in
        subst (GrowthCosts n c d q) (sym (ap (λ b. if b then q else add_realloc n q) other))
        (record {
          moves = refl;
          never_less = (omega arith, omega arith, omega arith);
          kept = λ same. absurd (omega arith);
          on_growth = λ _. (omega arith, omega arith);
          copied = omega (arith, g.doubled);
        })
    | inr spare ↦
        let same : d ≡ c = some-same (sym e ∙ ruled-same rule _ _ c m spare) in
        subst (GrowthCosts n c d q) (sym (growth-same n c d q same)) (record {
          moves = refl;
          never_less = (omega arith, omega arith, omega arith);
          kept = λ _. (refl, refl);
          on_growth = λ more. absurd (omega arith);
          copied = omega arith;
        })
  ]

  two-growths : {T A : Type 0} (v w : ListView T A) (start end c t a b : ℕ) (k l : Cost)
      → GrowthCosts start v.capacity c v.cost k → GrowthCosts end c w.capacity k l
      → w.cost ≡ add_moves (length w.items - length v.items + a + b) l → a ≤ t → b ≤ t
      → length v.items ≤ length w.items → length v.items ≤ start → length v.items ≤ end
      → CostsInserting (2 * t) v w
  two-growths v w start end c t a b k l one two paid few less longer low high =
      let moves : w.cost.moves ≡ l.moves + (length w.items - length v.items + a + b) =
      ap (λ x. x.moves) paid in
      let blocks : w.cost.blocks ≡ l.blocks = ap (λ x. x.blocks) paid in
      let copies : w.cost.grown ≡ l.grown = ap (λ x. x.grown) paid in
      let first = one.never_less in let second = two.never_less in
      record {
        least = omega (arith, one.moves, two.moves);
        moves = omega (arith, one.moves, two.moves);
        kept = λ same. omega (arith, one.kept (omega arith), two.kept (omega arith));
        on_growth = λ more. elim (cases_lt v.capacity c) [
          | inl grew ↦ omega (arith, one.on_growth grew)
          | inr still ↦ omega (arith, two.on_growth (omega arith))
        ];
        copied = omega (arith, one.copied, two.copied);
      }

  module _ {T A : Type 0} (k t : ℕ) (v : ListView T A) (h : ℕ) (w : ListView T A) (left : Count)
      (p : IsAfterSplice rule R k t v h w left) where
    -- The capacity after `finish` satisfies `IsKeptOrGrown`.
    pub spliced-at_least : IsKeptOrGrown rule R v.capacity w.capacity
    spliced-at_least =
        kept-join rule R law v.capacity p.reserved w.capacity
        (grown-kept rule R law v.capacity (length v.items + (k + h)) p.reserved p.reserves)
        (grown-kept rule R law p.reserved (length w.items) w.capacity p.capacity)

    -- The capacity after `finish` is one that the rule chose for at most as many items as there
    -- are, or one after a `reserve` of some number within the limit.
    pub spliced-ruled : length v.items + k ≤ v.capacity
        → IsChosenByRule rule R w.capacity (length w.items) ⊎ ((q : ℕ) × IsWithinCount q left
        × (capacity_after_reserve rule R v q ≡ Some w.capacity))
    spliced-ruled room =
        elim (cases_lt p.reserved (length w.items)) [
          | inl more ↦
              inl (
                p.reserved,
                length w.items,
                more,
                (let all : length w.items ≤ length w.items = omega arith in all),
                p.capacity,
              )
          | inr spare ↦
              let same : w.capacity ≡ p.reserved =
              some-same (sym p.capacity ∙ ruled-same rule _ _ p.reserved (length w.items) spare) in
              inr (elim p.within [
                | inl none ↦
                    let kept : p.reserved ≡ v.capacity =
                    cap-kept rule R law v (k + h) p.reserved (omega (arith, room, none))
                    p.reserves in (
                      0,
                      (λ _. omega arith),
                      reserved-none rule R v 0 (omega (arith, room))
                          ∙ ap Some (sym (same ∙ kept)),
                    )
                | inr within ↦ (k + h, within, p.reserves ∙ ap Some (sym same))
              ])
        ]

    -- If the new items fit into the range, and nothing was reserved, the capacity is kept.
    pub spliced-kept : length v.items + k ≤ v.capacity → h ≡ 0
        → length w.items ≤ length v.items + k → w.capacity ≡ v.capacity
    spliced-kept room none fit =
        let kept : p.reserved ≡ v.capacity =
        cap-kept rule R law v (k + h) p.reserved (omega (arith, room, none)) p.reserves in
        let same : w.capacity ≡ p.reserved =
        some-same (sym p.capacity
        ∙ ruled-same rule _ _ p.reserved (length w.items) (omega (arith, room, fit, kept))) in
        same ∙ kept

    -- The bounds on the cost of `finish` before a tail follow from its exact cost.
    pub spliced-costs : length v.items + k ≤ v.capacity → length v.items ≤ length w.items
        → CostsInserting (2 * t) v w
    spliced-costs room longer =
        let start = length v.items + k in
        let fit : start + h ≤ p.reserved =
        omega (
          arith,
          grown-room rule R law v.capacity (length v.items + (k + h)) p.reserved p.reserves,
        ) in
        two-growths v w start (start + h) p.reserved t (if eqb h 0 then 0 else t)
        (if eqb (length w.items) (start + h) then 0 else t)
        (cost_after_growth start v.capacity p.reserved v.cost)
        (cost_after_growth (start + h) p.reserved w.capacity
        (cost_after_growth start v.capacity p.reserved v.cost))
        (growth-costs start v.capacity (length v.items + (k + h)) p.reserved v.cost room
        p.reserves)
        (growth-costs (start + h) p.reserved (length w.items) w.capacity
        (cost_after_growth start v.capacity p.reserved v.cost) fit p.capacity)
        p.cost (at-most (eqb h 0)) (at-most (eqb (length w.items) (start + h))) longer
        (omega arith) (omega arith)
      where
        at-most : (b : Bool) → (if b then 0 else t) ≤ t
        at-most true = omega arith
        at-most false = omega arith

-- The bounds on the cost of `finish` follow from its exact cost.
pub finished-costs : {T A : Type 0} (rule : GrowthRule) (R : RattleType) (tail : List T) (k : ℕ)
    (v w : ListView T A) (limit : Count) → IsLawful rule
    → (tail ≡ [] → (h : ℕ) × IsWithinCount h limit × IsAfterExtend rule R v h w)
    → (0 < length tail → (h : ℕ) × IsAfterSplice rule R k (length tail) v h w limit)
    → length v.items + k ≤ v.capacity → length v.items ≤ length w.items
    → CostsInserting (2 * length tail) v w
finished-costs rule R [] k v w limit law at_end before_tail room longer =
    let after = at_end refl in
    (extended-costs rule R law v w after.0 (omega (arith, room)) longer after.2).inserting
finished-costs rule R (x ∷ xs) k v w limit law at_end before_tail room longer =
    let after = before_tail (omega arith) in
    spliced-costs rule R law k (length (x ∷ xs)) v after.0 w limit after.1 room longer

-- The same for the clauses of `finish` of the `Splice` `s`, which inserted the items `xs`.
module _ {I T A G H : Type 0} {g : Ghosts G} {h : IntoInnerGhosts H (OpenView T A)}
    (s : Splice I T A G H g h) where
  pub finish-costs : {rule : GrowthRule} {R : RattleType} {w : ListView T A} {limit : Count}
      → IsLawful rule → (xs : List T) → w.items ≡ (splice_front s ++ xs) ++ splice_tail s
      → (splice_tail s ≡ [] → (h : ℕ) × IsWithinCount h limit
      × IsAfterExtend rule R (list_without_range s) h w)
      → (0 < length (splice_tail s) → (h : ℕ) × IsAfterSplice rule R (splice_range_len s)
      (length (splice_tail s)) (list_without_range s) h w limit)
      → HasRoomFor (list_without_range s) (splice_range_len s)
      → CostsInserting (2 * length (splice_tail s)) (list_without_range s) w
  unfolding list_without_range
  finish-costs {rule} {R} {w} {limit} law xs items at_end before_tail room =
      let front = splice_front s in let tail = splice_tail s in
      finished-costs rule R tail (splice_range_len s) (list_without_range s) w limit law at_end
      before_tail room
      (omega (
        arith,
        ap length items,
        length-append (front ++ xs) tail,
        length-append front xs,
        length-append front tail,
      ))
