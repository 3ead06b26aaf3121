-- This definition describes the new lists that `split_off` and `clone` make. The capacity of such a
-- list equals its length. (std: `Vec::split_off`, `Clone`)
use Rattle.std.specs.Prelude.{List, length}
use Rattle.thin_vec.specs.Cost.{add_moves}
use Rattle.thin_vec.specs.ThinVec.{ListView, cost_of_new}

module _ {T A : Type 0} where
  -- `made a xs` is a new list with the allocator `a`, the items `xs`, and the capacity `length xs`.
  abbrev pub made : A → List T → ListView T A
  made a xs = record {
    items = xs;
    capacity = length xs;
    alloc = a;
    cost = add_moves (length xs) (cost_of_new (length xs));
  }
