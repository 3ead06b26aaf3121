-- This file proves that `first_capacity` returns the value of `min_non_zero_cap`, although the code
-- caps the item size at `usize::MAX`.
use Rattle.std.proofs.Common.{arith}
use Rattle.std.specs.Mem.{type_size}
use Rattle.thin_block.proofs.sizes.SizesLemmas.{first_one, first_many}
use denote.Param.{param}
use Rattle.thin_block.proofs.growth.doubling.first_capacity.Goals as goal

pub returns-then-item_size : goal.returns-then-item_size
returns-then-item_size g c =
    record { value = first_one (type_size (param 0 g.row.T)) (omega arith) }

pub returns-else-item_size : goal.returns-else-item_size
returns-else-item_size g c =
    record { value = first_many (type_size (param 0 g.row.T)) (omega arith) }
