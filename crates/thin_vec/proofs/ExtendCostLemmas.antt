-- These lemmas are about the capacity and the cost of a list after `extend` and `from_iter`. They
-- are also meant for other crates.
use Rattle.thin_block.proofs.ResultLemmas.{some-same, none-some}
use Rattle.std.proofs.Common.{if◌then◌else◌, [], Bool, ◌≡◌, ℕ, suc, ◌+◌, ◌*◌, ◌<◌, ◌≤◌, true, false, Some, ap, List, arith, eqb, inl, inr, length, refl, subst, sym, ◌∙◌, ◌-◌, ◌++◌, None, length-append}
use Rattle.std.specs.Borrow.{RattleType}
use Rattle.std.proofs.lemmas.Bool.{cases_lt}
use Rattle.thin_block.specs.Cost.{add_realloc, add_moves, no_cost}
use Rattle.thin_block.specs.Growth.{GrowthRule, IsLawful, checked_capacity, doubling, exact_capacity}
use Rattle.thin_block.specs.Capacity.{Fits, fits}
use Rattle.thin_block.proofs.CapacityLemmas.{ruled-same, exact-fits, exact-same}
use Rattle.thin_vec.specs.ThinVec.{IsBounded, ListView, capacity_after_reserve, cost_after_resize, cost_of_new}
use borrow.Author.Tests.{lt-leb}
use Rattle.std.specs.Align.{type_align}
use Rattle.std.specs.Iterator.{Count}
use Rattle.std.specs.Iterator.SizeHint.{IsWithinCount}
use Rattle.std.specs.Mem.{type_size}
use Rattle.std.specs.Prelude.{◌⊎◌}
use Rattle.thin_vec.specs.List.Capacity.{PreservesList}
use Rattle.thin_vec.specs.List.Extend.{CostsInserting, IsAfterCollect, IsAfterExtend, IsAfterPushes, cost_after_pushes}
use Rattle.thin_block.specs.GrowthLaws.{doubling_law}
use Rattle.thin_vec.proofs.CallerLemmas.{doubling-twice}
use Rattle.thin_vec.proofs.GrowthLemmas.{IsChosenByRule, IsKeptOrGrown, cap-kept, cost_after_resize-blocks, cost_after_resize-copied, cost_after_resize-more, cost_after_resize-moves, cost_after_resize-same, grown-kept, grown-le, kept-join}
use Rattle.thin_vec.proofs.PushesLemmas.{after-none, paid-full, paid-kept, paid-none, pushes-at_least, pushes-before, pushes-costs, pushes-first, pushes-kept, pushes-none, pushes-ruled}

module _ (rule : GrowthRule) (R : RattleType) where
  module _ {T A : Type 0} where
    -- The pushes begin with a new list of the capacity `h`.
    pub collected-from : (h : ℕ) (w : ListView T A)
        → IsAfterPushes rule R (record w { items = []; capacity = h; cost = cost_of_new h }) w
        → IsAfterCollect rule R h w
    collected-from h w p =
        let all : length w.items - 0 ≡ length w.items = omega arith in
        record {
          capacity = p.capacity;
          cost = p.cost ∙ ap (λ n. add_moves n
              (cost_after_pushes rule R h (length w.items) (cost_of_new h))) all;
        }

  module _ {T A : Type 0} (v : ListView T A) where
    -- The pushes follow a call to `reserve(h)`, which changed the capacity to `c`.
    pub extended-from : (c : ℕ) (w : ListView T A) (h : ℕ)
        → capacity_after_reserve rule R v h ≡ Some c
        → IsAfterPushes rule R (record v { capacity = c; cost = cost_after_resize v c }) w
        → IsAfterExtend rule R v h w
    extended-from c w h reserves p = record {
      reserved = c;
      reserves = reserves;
      capacity = p.capacity;
      cost = p.cost;
    }

    -- Nothing was reserved, and no item was added.
    pub extended-none : (w : ListView T A) (left : Count) → length v.items ≤ v.capacity → w ≡ v
        → (h : ℕ) × IsWithinCount h left × IsAfterExtend rule R v h w
    extended-none w left room same = (
      0,
      (λ _. omega arith),
      extended-from v.capacity w 0
          (ruled-same rule _ _ v.capacity (length v.items + 0) (omega (arith, room)))
          (after-none rule R
          (record v { capacity = v.capacity; cost = cost_after_resize v v.capacity }) w
          room (same ∙ (λ i. record v
          { cost = sym (cost_after_resize-same v v.capacity refl) i }))),
    )

-- A new list that was made with room for `h` items has exactly this capacity.
pub exact-is : (s a h d : ℕ) → exact_capacity s a 0 h ≡ Some d → d ≡ h
unfolding exact_capacity checked_capacity
exact-is s a h d e = elim (cases_lt 0 h) [
  | inl more ↦
      let told : exact_capacity s a 0 h ≡ (if fits s a h then Some h else None) =
      rw (lt-leb h 0 more) refl in
      go (fits s a h) (sym told ∙ e)
  | inr none ↦
      let zero : d ≡ 0 = some-same (sym e ∙ exact-same s a 0 h none) in
      omega arith
]
  where
    go : (b : Bool) → (if b then Some h else None) ≡ Some d → d ≡ h
    go true e = sym (some-same e)
    go false e = absurd (none-some refl e)

module _ {T A : Type 0} where
  -- `CostsExtending v w` bounds the recorded cost of a call that appended the items of an iterator,
  -- and changed the list from `v` to `w`.
  pub record CostsExtending (v w : ListView T A) : Type 0 where
    pub inserting : CostsInserting 0 v w
    -- There was at most one request for memory, and one more for each added item.
    pub requests : w.cost.blocks ≤ v.cost.blocks + 1 + (length w.items - length v.items)

module _ (rule : GrowthRule) (R : RattleType) (law : IsLawful rule) where
  -- The bounds on the cost of `extend` follow from its exact cost.
  pub extended-costs : {T A : Type 0} (v w : ListView T A) (h : ℕ) → length v.items ≤ v.capacity
      → length v.items ≤ length w.items → IsAfterExtend rule R v h w → CostsExtending v w
  extended-costs v w h room longer p =
      let c = p.reserved in let k = cost_after_resize v c in
      let q = cost_after_pushes rule R c (length w.items) k in
      let m = pushes-costs rule R law c (length w.items) w.capacity k p.capacity in
      let grew = grown-le rule R law v.capacity (length v.items + h) c p.reserves in
      let once = cost_after_resize-blocks v c in
      let still = cost_after_resize-moves v c in
      let copied = cost_after_resize-copied rule R law v h c room p.reserves in
      let blocks : w.cost.blocks ≡ q.blocks = ap (λ x. x.blocks) p.cost in
      let grown : w.cost.grown ≡ q.grown = ap (λ x. x.grown) p.cost in
      let moves : w.cost.moves ≡ q.moves + (length w.items - length v.items) =
      ap (λ x. x.moves) p.cost in
      let low = m.never_less in let same = m.moves in
      record {
        inserting = record {
          least = omega arith;
          moves = omega arith;
          kept = λ kept.
              let none : c ≡ v.capacity = omega arith in
              let paid = cost_after_resize-same v c none in
              let all = m.kept (omega arith) in
              (blocks ∙ (all.0 ∙ ap (λ x. x.blocks) paid), grown ∙ (all.1 ∙ ap (λ x. x.grown) paid));
          on_growth = λ more. elim (cases_lt v.capacity c) [
            | inl first ↦
                let paid = cost_after_resize-more v c first in
                let b = ap (λ x. x.blocks) paid in let g = ap (λ x. x.grown) paid in
                (omega arith, omega arith)
            | inr spare ↦
                let paid = cost_after_resize-same v c (omega arith) in
                let b = ap (λ x. x.blocks) paid in let g = ap (λ x. x.grown) paid in
                let all = m.on_growth (omega arith) in
                (omega arith, omega arith)
          ];
          copied = omega (arith, m.copied, copied);
        };
        requests = omega (arith, m.requests, once);
      }

  -- The bounds on the cost of `from_iter` follow from its exact cost, too.
  pub collected-costs : {T A : Type 0} (w : ListView T A) (h : ℕ) → IsAfterCollect rule R h w
      → (w.cost.moves ≡ length w.items) × (w.cost.blocks ≤ 1 + length w.items)
  collected-costs w h p =
      let m = pushes-costs rule R law h (length w.items) w.capacity (cost_of_new h) p.capacity in
      let few = go (eqb h 0) in (
        omega (arith, ap (λ x. x.moves) p.cost, m.moves, few.0),
        omega (arith, ap (λ x. x.blocks) p.cost, m.requests, few.1),
      )
    where
      go : (b : Bool) → ((if b then no_cost else add_realloc 0 no_cost).moves ≡ 0)
          × ((if b then no_cost else add_realloc 0 no_cost).blocks ≤ 1)
      go true = (refl, omega arith)
      go false = (refl, omega arith)

  module _ {T A : Type 0} (v : ListView T A) (h n d : ℕ) where
    -- The capacity after `extend` satisfies `IsKeptOrGrown`.
    pub extended-at_least : (w : ListView T A) → IsAfterExtend rule R v h w
        → IsKeptOrGrown rule R v.capacity w.capacity
    extended-at_least w p =
        kept-join rule R law v.capacity p.reserved w.capacity
        (grown-kept rule R law v.capacity (length v.items + h) p.reserved p.reserves)
        (pushes-at_least rule R law p.reserved (length w.items) w.capacity p.capacity)

    -- The capacity after `extend` is one that the rule chose for at most as many items as there
    -- are, or the one after `reserve(h)`.
    pub extended-ruled : (w : ListView T A) → IsAfterExtend rule R v h w
        → IsChosenByRule rule R w.capacity (length w.items)
        ⊎ (capacity_after_reserve rule R v h ≡ Some w.capacity)
    extended-ruled w p =
        elim (pushes-ruled rule R law p.reserved (length w.items) w.capacity p.capacity) [
          | inl same ↦ inr (p.reserves ∙ ap Some (sym same))
          | inr chosen ↦ inl chosen
        ]

-- Under `Doubling`, a full list that gets at most as many items as it has doubles its capacity, by
-- one request. The iterator could yield no more than these.
module _ (R : RattleType) {T A : Type 0} (v w : ListView T A) (h : ℕ) where
  pub doubled_once : 0 < v.capacity → length v.items ≡ v.capacity → v.capacity < length w.items
      → length w.items ≤ 2 * v.capacity → h ≤ v.capacity → IsAfterExtend doubling R v h w
      → (w.capacity ≡ 2 * v.capacity) × (w.cost.blocks ≡ v.cost.blocks + 1)
      × (w.cost.grown ≡ v.cost.grown + v.capacity)
  doubled_once some full more few hint p =
      let c = p.reserved in let n = length w.items in let k = cost_after_resize v c in
      let blocks = ap (λ x. x.blocks) p.cost in let copies = ap (λ x. x.grown) p.cost in
      elim (cases_lt 0 h) [
        | inl hinted ↦
            let twice = doubling-twice _ _ v.capacity (length v.items + h) c some (omega arith)
            (omega arith) p.reserves in
            let room : n ≤ c = omega arith in
            let same : w.capacity ≡ c =
            some-same (sym p.capacity ∙ pushes-none doubling R c n room) in
            let paid = paid-none doubling R c n k room
            ∙ cost_after_resize-more v c (omega arith) in (
              omega arith,
              omega (arith, blocks, ap (λ x. x.blocks) paid),
              omega (arith, copies, ap (λ x. x.grown) paid),
            )
        | inr none ↦
            let kept : c ≡ v.capacity =
            cap-kept doubling R doubling_law v h c (omega arith) p.reserves in
            let all : c ≤ c = omega arith in
            let first = pushes-before doubling R c (suc c) n w.capacity p.capacity
            (let less : suc c ≤ n = omega arith in less) in
            let twice = doubling-twice _ _ c (suc c) first.0 (omega arith) (omega arith)
            (omega arith) (pushes-first doubling R c first.0 first.1) in
            let low : suc c ≤ n = omega arith in let high : n ≤ first.0 = omega arith in
            let same : w.capacity ≡ first.0 =
            some-same (sym p.capacity
            ∙ pushes-kept doubling R c (suc c) n first.0 first.1 low high) in
            let paid = paid-kept doubling R c (suc c) n first.0 k first.1 low high
            ∙ (paid-full doubling R c c k (pushes-none doubling R c c all)
            ∙ ap (add_realloc c) (paid-none doubling R c c k all
            ∙ cost_after_resize-same v c kept)) in (
              omega arith,
              omega (arith, blocks, ap (λ x. x.blocks) paid),
              omega (arith, copies, ap (λ x. x.grown) paid),
            )
      ]

-- The bounds on the cost of `extend` also follow from its clauses. The call appended the items
-- `xs`.
pub extend-costs : {T A : Type 0} {rule : GrowthRule} {R : RattleType} {v w : ListView T A} {h : ℕ}
    → IsLawful rule → (xs : List T) → w.items ≡ v.items ++ xs → PreservesList R v w
    → IsAfterExtend rule R v h w → CostsExtending v w
extend-costs {rule = rule} {R} {v} {w} {h} law xs items kept after =
    extended-costs rule R law v w h kept.within.0.room
    (omega (arith, ap length items, length-append v.items xs)) after

-- The capacity after `from_iter` is one that the growth rule chose, or the one in the size hint.
pub collected-ruled : {T A : Type 0} (rule : GrowthRule) (R : RattleType) (w : ListView T A) (h : ℕ)
    → IsLawful rule → IsBounded R w → IsAfterCollect rule R h w
    → IsChosenByRule rule R w.capacity (length w.items)
    ⊎ (exact_capacity (type_size R) (type_align R) 0 h ≡ Some w.capacity)
collected-ruled rule R w h law bounds p =
    elim (pushes-ruled rule R law h (length w.items) w.capacity p.capacity) [
      | inl same ↦ inr (elim (cases_lt 0 h) [
        | inl some ↦
            exact-fits R 0 h some (subst (Fits R) same bounds.fits)
            ∙ ap Some (sym same)
        | inr none ↦
            exact-same _ _ 0 h none ∙ ap Some (let zero : 0 ≡ w.capacity = omega arith in zero)
      ])
      | inr chosen ↦ inl chosen
    ]
