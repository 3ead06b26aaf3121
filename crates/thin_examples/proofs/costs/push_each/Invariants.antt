-- The loop invariant of `push_each`: what it promises holds of the numbers that have been pushed.
use Rattle.std.proofs.Common.{◌≡◌, ◌+◌, ◌++◌, ◌≤◌, take}
use Rattle.thin_vec.specs.Cheap.{IsCheap}
use Rattle.thin_examples.proofs.costs.push_each.Given as goal

abbrev pub invariant-loop-number : goal.invariant-loop-number
invariant-loop-number g l = record {
  items : l.list.items ≡ l.fn.list.items ++ take l.number-index l.numbers;
  copied : l.list.cost.grown + l.fn.list.capacity ≤ l.fn.list.cost.grown + l.list.capacity;
  cheap : IsCheap l.fn.list → IsCheap l.list;
}
