-- The record `Cost` counts requests for memory, copies of items, and moves of items. These counts
-- are unbounded and exist only in proofs: the program does not store them.
use Rattle.std.specs.Prelude.{ℕ, ◌+◌, refl}
use Rattle.std.specs.Coded.{Coded, code_by, coded×, coded_ℕ}

-- `Cost` consists of three counts of the work that has been done on a block since the block was
-- created.
pub record Cost : Type 0 where
  -- The number of granted requests for memory, not of the blocks that exist. A request allocates
  -- memory, or changes the size of an allocation.
  pub blocks : ℕ
  -- The number of items that reallocations have copied. Each reallocation counts every item of the
  -- block, even if the address of the block does not change.
  pub grown : ℕ
  -- The number of moves of items into the block or within the block. Putting in a clone counts as
  -- one move. Taking an item out does not count.
  pub moves : ℕ

-- `cost_code` encodes a value of the type `Cost` as a tuple of its three counts. The ghost field
-- `cost` of the struct `Block` uses this encoding.
abbrev pub cost_code : Coded Cost
cost_code =
    code_by (ℕ × (ℕ × ℕ)) (coded× coded_ℕ (coded× coded_ℕ coded_ℕ))
    (λ c. (c.blocks, (c.grown, c.moves)))
    (λ p. record { blocks = p.0; grown = p.1.0; moves = p.1.1 }) (λ _. refl)

-- `no_cost` is the cost whose three counts are all 0.
abbrev pub no_cost : Cost
no_cost = record { blocks = 0; grown = 0; moves = 0 }

-- `add_realloc k c` is the cost `c` with one more granted request for memory and `k` more copied
-- items.
abbrev pub add_realloc : ℕ → Cost → Cost
add_realloc k c = record { blocks = c.blocks + 1; grown = c.grown + k; moves = c.moves }

-- `add_moves k c` is the cost `c` plus `k` moves of items.
abbrev pub add_moves : ℕ → Cost → Cost
add_moves k c = record { blocks = c.blocks; grown = c.grown; moves = c.moves + k }
