-- These definitions bound the cost of growing a list, that is, the number of requests for memory
-- and the number of copied items. The bound implies that `push` takes amortized constant time.
-- (std: `Vec::push`, "Time complexity")
use Rattle.std.specs.Prelude.{◌≡◌, ℕ, ◌*◌, ◌^◌, ◌<◌, ◌≤◌}
use Rattle.thin_block.specs.Cost.{Cost}
use Rattle.thin_vec.specs.ThinVec.{ListView}

-- `IsCheapAt cap cost` states a bound on `cost`, the recorded cost of a list with the capacity
-- `cap`. If `cap` is 0, there was no request for memory, and no item was copied. Otherwise fewer
-- than `cap` items were copied, and the number of requests for memory is at most the number of
-- binary digits of `cap`.
pub record IsCheapAt (cap : ℕ) (cost : Cost) : Type 0 where
  pub none : cap ≡ 0 → (cost.blocks ≡ 0) × (cost.grown ≡ 0)
  pub grown : 0 < cap → cost.grown < cap
  pub blocks : 0 < cap → 2 ^ cost.blocks ≤ 2 * cap

-- `IsCheap v` holds if the recorded cost of the list `v` is small for its capacity: few requests
-- for memory, and few copied items.
abbrev pub IsCheap : {T A : Type 0} → ListView T A → Type 0
IsCheap v = IsCheapAt v.capacity v.cost
