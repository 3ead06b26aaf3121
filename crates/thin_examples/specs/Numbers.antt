-- The contracts of `Matrix` use these definitions to describe the numbers of a matrix.
use Rattle.std.specs.Prelude.{ℕ, zero, suc, ◌+◌, ◌-◌, ◌*◌, ◌^◌, List, length, min, slice_index}
use Rattle.std.specs.Option.{unwrap_or}
use Rattle.thin_rows.specs.Table.{Table, value_at}

-- `number_at table i j` is the number at row `i` and column `j` of the table, or 0 if there is no
-- entry.
abbrev pub number_at : Table ℕ → ℕ → ℕ → ℕ
number_at table i j = unwrap_or (value_at table i j) 0

-- `added x y` is the sum of the numbers `x` and `y`, or `u64::MAX` if the sum is greater.
abbrev pub added : ℕ → ℕ → ℕ
added a b = min (a + b) (2 ^ 64 - 1)

-- `sum_below n f` is the sum of `f` over the numbers less than `n`: `f 0 + f 1 + .. + f (n - 1)`.
abbrev pub sum_below : ℕ → (ℕ → ℕ) → ℕ
sum_below zero f = 0
sum_below (suc n) f = sum_below n f + f n

-- `dot table i vector` is the dot product of row `i` of the table and the vector.
abbrev pub dot : Table ℕ → ℕ → List ℕ → ℕ
dot table i vector = sum_below (length vector) (λ j. number_at table i j * slice_index vector j)
