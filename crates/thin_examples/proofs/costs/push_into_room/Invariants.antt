-- The loop invariant of `push_into_room`: a number has been pushed for each round, and the list has
-- not grown.
use Rattle.std.proofs.Common.{◌≡◌, ◌+◌, length}
use Rattle.thin_examples.proofs.costs.push_into_room.Given as goal

abbrev pub invariant-loop : goal.invariant-loop
invariant-loop g l = (length l.list.items ≡ length l.fn.list.items + l.counter)
    × (l.list.capacity ≡ l.fn.list.capacity)
    × (l.list.cost.grown ≡ l.fn.list.cost.grown)
    × (l.list.cost.blocks ≡ l.fn.list.cost.blocks)
