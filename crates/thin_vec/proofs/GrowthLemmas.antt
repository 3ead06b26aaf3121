-- These lemmas are about the capacity that a growth rule chooses for a list, and about the cost of
-- a change of the capacity: memory requests and copied items. They are also meant for other
-- crates.
use Rattle.thin_block.proofs.ResultLemmas.{some-same}
use Rattle.std.proofs.Common.{if◌then◌else◌, Bool, ◌≡◌, ℕ, zero, suc, ◌+◌, ◌*◌, ◌^◌, ◌<◌, ◌≤◌, true, false, Some, ap, arith, eqb, inl, inr, length, refl, subst, sym, ◌∙◌, Option}
use Rattle.std.specs.Borrow.{RattleType}
use Rattle.std.proofs.lemmas.Bool.{cases_lt}
use Rattle.std.proofs.lemmas.Bool.Decides.{nat_tests}
use Rattle.std.proofs.lemmas.Grind.{pow_more}
use Rattle.thin_block.specs.Cost.{Cost, add_realloc}
use Rattle.thin_block.specs.Growth.{GrowthRule, IsLawful, grown_capacity}
use Rattle.thin_block.proofs.CapacityLemmas.{ruled-same, ruled-grows}
use Rattle.thin_vec.specs.Cheap.{IsCheap, IsCheapAt}
use Rattle.thin_vec.specs.ThinVec.{ListView, capacity_after_reserve, cost_after_resize}
use Rattle.std.specs.Align.{type_align}
use Rattle.std.specs.Mem.{type_size}
use Rattle.std.specs.Prelude.{◌⊎◌}

-- In this module, the capacity of the list `v` changes to `c`.
module _ {T A : Type 0} (v : ListView T A) (c : ℕ) where
  -- If the capacity does not change, the cost does not change.
  pub cost_after_resize-same : c ≡ v.capacity → cost_after_resize v c ≡ v.cost
  cost_after_resize-same e = let t : eqb c v.capacity ≡ true = grind (arith, nat_tests) in rw t refl

  -- A greater capacity costs one request for memory, which copies all items.
  pub cost_after_resize-more : v.capacity < c
      → cost_after_resize v c ≡ add_realloc (length v.items) v.cost
  cost_after_resize-more e = let t : eqb c v.capacity ≡ false = grind (arith, nat_tests) in
      rw t refl

  -- A change of the capacity makes no move.
  pub cost_after_resize-moves : (cost_after_resize v c).moves ≡ v.cost.moves
  cost_after_resize-moves = go (eqb c v.capacity)
    where
      go : (b : Bool) → (if b then v.cost else add_realloc (length v.items) v.cost).moves
          ≡ v.cost.moves
      go true = refl
      go false = refl

  -- A change of the capacity makes at most one request for memory.
  pub cost_after_resize-blocks : (cost_after_resize v c).blocks ≤ v.cost.blocks + 1
  cost_after_resize-blocks = go (eqb c v.capacity)
    where
      go : (b : Bool) → (if b then v.cost else add_realloc (length v.items) v.cost).blocks
          ≤ v.cost.blocks + 1
      go true = omega arith
      go false = omega arith

-- These rules are for proofs that can compare the capacities before and after the growth.
pub ruleset costs = (cost_after_resize-same, cost_after_resize-more)

-- A growth that at least doubles the capacity keeps the bound `IsCheapAt`.
cheap-growing : {c : ℕ} {k : Cost} (n c' : ℕ) → IsCheapAt c k → n ≤ c → c < c' → 2 * c ≤ c'
    → IsCheapAt c' (add_realloc n k)
cheap-growing {c = zero} {k} n c' h le larger doubled =
    let z = h.none refl in
    let two : 2 ^ (k.blocks + 1) ≡ 2 = ap (λ q. 2 ^ (q + 1)) z.0 in
    omega arith
cheap-growing {c = suc c} {k} n c' h le larger doubled =
    omega (arith, h.grown (omega arith), h.blocks (omega arith), pow_more 2 k.blocks)

module _ {T A : Type 0} (rule : GrowthRule) (R : RattleType) (law : IsLawful rule)
    (v : ListView T A) (k c : ℕ) where
  -- If a list has room for `k` more items, it keeps its capacity.
  pub cap-kept : length v.items + k ≤ v.capacity → capacity_after_reserve rule R v k ≡ Some c
      → c ≡ v.capacity
  cap-kept room e = some-same (sym e ∙ ruled-same rule _ _ v.capacity (length v.items + k) room)

  -- If a list has room for `k` more items, it keeps its cost.
  pub cost_after_resize-kept : length v.items + k ≤ v.capacity
      → capacity_after_reserve rule R v k ≡ Some c → cost_after_resize v c ≡ v.cost
  cost_after_resize-kept room e = cost_after_resize-same v c (cap-kept room e)

  -- If a list has no room for `k` more items, its new capacity has this room, and is at least twice
  -- the old one.
  pub cap-grown : v.capacity < length v.items + k → capacity_after_reserve rule R v k ≡ Some c
      → (length v.items + k ≤ c) × (2 * v.capacity ≤ c)
  cap-grown more e = let g = ruled-grows rule _ _ v.capacity (length v.items + k) c law more e in
      (g.enough, g.doubled)

  -- If a list has no room for `k` more items, this room costs one request for memory, which copies
  -- all items.
  pub cost_after_resize-grown : v.capacity < length v.items + k
      → capacity_after_reserve rule R v k ≡ Some c
      → cost_after_resize v c ≡ add_realloc (length v.items) v.cost
  cost_after_resize-grown more e =
      let g = cap-grown more e in
      cost_after_resize-more v c (omega (arith, g.0))

  -- Room for `k` more items copies at most as many items as the capacity grows by.
  pub cost_after_resize-copied : length v.items ≤ v.capacity
      → capacity_after_reserve rule R v k ≡ Some c
      → (cost_after_resize v c).grown + v.capacity ≤ v.cost.grown + c
  cost_after_resize-copied room e =
      elim (cases_lt v.capacity (length v.items + k)) [
        | inl more ↦ let g = cap-grown more e in
            let paid = ap (λ z. z.grown) (cost_after_resize-grown more e) in
            omega (arith, paid, g.1, room)
        | inr spare ↦
            let paid = ap (λ z. z.grown) (cost_after_resize-kept spare e) in
            omega (arith, paid, cap-kept spare e)
      ]

  -- A cheap list is still cheap after it has made room for `k` more items.
  pub cheap-regrown : IsCheap v → length v.items ≤ v.capacity
      → capacity_after_reserve rule R v k ≡ Some c
      → IsCheapAt c (cost_after_resize v c)
  cheap-regrown h room e =
      elim (cases_lt v.capacity (length v.items + k)) [
        | inl more ↦ let g = cap-grown more e in
            rw (cost_after_resize-grown more e)
            (cheap-growing (length v.items) c h room (omega (arith, g.0)) g.1)
        | inr spare ↦ rw (cost_after_resize-kept spare e, cap-kept spare e) h
      ]

module _ (rule : GrowthRule) (R : RattleType) where
  -- `grown rule R c n` is the capacity of a block for items of the type `R` after the capacity `c`
  -- has grown to hold `n` items.
  abbrev pub grown : ℕ → ℕ → Option ℕ
  grown c n = grown_capacity rule (type_size R) (type_align R) c n

  module _ {T A : Type 0} (v : ListView T A) where
    -- For the items that a list has, the rule chooses the capacity that it has.
    pub grown-none : (w : ListView T A) → length v.items ≤ v.capacity → w ≡ v
        → grown v.capacity (length w.items) ≡ Some w.capacity
    grown-none w room same =
        subst (λ z. grown v.capacity (length z.items) ≡ Some z.capacity) (sym same)
        (ruled-same rule _ _ v.capacity (length v.items) room)

    -- If a list has room for `k` more items, `reserve(k)` keeps its capacity.
    pub reserved-none : (k : ℕ) → length v.items + k ≤ v.capacity
        → capacity_after_reserve rule R v k ≡ Some v.capacity
    reserved-none k room = ruled-same rule _ _ v.capacity (length v.items + k) room

-- `IsKeptOrGrown rule R c d` is a lower bound of a new capacity `d`. Either `d` is the old capacity
-- `c`, or `d` is at least the capacity `n` that the growth rule `rule` chooses if a block of
-- capacity `c` must hold `want` items, for some `want` above `c`. The item type is `R`.
abbrev pub IsKeptOrGrown : GrowthRule → RattleType → ℕ → ℕ → Type 0
IsKeptOrGrown rule R c d =
    (d ≡ c) ⊎ ((want : ℕ) × (n : ℕ) × (c < want)
    × (grown_capacity rule (type_size R) (type_align R) c want ≡ Some n) × (n ≤ d))

-- `IsChosenByRule rule R d n` says where a new capacity `d` comes from. The growth rule `rule`
-- chooses `d` when a block of some capacity `e` must hold `want` items, for some `want` above `e`
-- that is at most `n`. The item type is `R`.
abbrev pub IsChosenByRule : GrowthRule → RattleType → ℕ → ℕ → Type 0
IsChosenByRule rule R d n =
    (e want : ℕ) × (e < want) × (want ≤ n)
    × (grown_capacity rule (type_size R) (type_align R) e want ≡ Some d)

module _ (rule : GrowthRule) (R : RattleType) (law : IsLawful rule) where
  -- A capacity that the rule chooses satisfies `IsKeptOrGrown`.
  pub grown-kept : (c n d : ℕ) → grown rule R c n ≡ Some d → IsKeptOrGrown rule R c d
  grown-kept c n d e = elim (cases_lt c n) [
    | inl more ↦ inr (n, d, more, e, omega arith)
    | inr spare ↦ inl (some-same (sym e ∙ ruled-same rule _ _ c n spare))
  ]

  kept-le : (c d : ℕ) → IsKeptOrGrown rule R c d → c ≤ d
  kept-le c d (inl e) = omega arith
  kept-le c d (inr p) = let g = ruled-grows rule _ _ c p.0 p.1 law p.2 p.3 in
      omega (arith, g.doubled, p.4)

  -- If two changes of the capacity satisfy `IsKeptOrGrown`, both together do.
  pub kept-join : (c d e : ℕ) → IsKeptOrGrown rule R c d → IsKeptOrGrown rule R d e
      → IsKeptOrGrown rule R c e
  kept-join c d e (inl p) q = subst (λ n. IsKeptOrGrown rule R n e) p q
  kept-join c d e (inr p) q = inr (p.0, p.1, p.2, p.3, omega (arith, p.4, kept-le d e q))

  -- A capacity that the rule chooses is not less than the capacity before.
  pub grown-le : (c n d : ℕ) → grown rule R c n ≡ Some d → c ≤ d
  grown-le c n d e = kept-le c d (grown-kept c n d e)

  -- A block that grew to hold `n` items has at least `n` slots.
  pub grown-room : (c n d : ℕ) → grown rule R c n ≡ Some d → n ≤ d
  grown-room c n d e = elim (cases_lt c n) [
    | inl more ↦ (ruled-grows rule _ _ c n d law more e).enough
    | inr spare ↦
        let same : d ≡ c = some-same (sym e ∙ ruled-same rule _ _ c n spare) in
        omega arith
  ]
