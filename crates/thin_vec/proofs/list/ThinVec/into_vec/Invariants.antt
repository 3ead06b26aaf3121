-- The items in `vec`, followed by the remaining items, are the items of the original list.
use Rattle.std.proofs.Common.{◌≡◌, ◌+◌, ◌++◌, length, vec_capacity, vec_len}
use Rattle.thin_vec.proofs.list.ThinVec.into_vec.Given as goal

abbrev pub invariant-loop-item : goal.invariant-loop-item
invariant-loop-item g l = record {
  items : l.vec.items ++ l.rest.items ≡ l.fn.self.items;
  len : vec_len l.vec + length l.rest.items ≡ length l.fn.self.items;
  capacity : vec_capacity l.vec ≡ length l.fn.self.items;
}

abbrev pub decreases-loop-item : goal.decreases-loop-item
decreases-loop-item g l = length l.rest.items
