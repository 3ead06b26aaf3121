-- This file contains the loop invariant of `Value::count`, which counts the numbers of a value.
use Rattle.std.proofs.Common.{◌≡◌, ◌+◌, ◌-◌, ◌^◌, ◌<◌, map, min, sum}
use Rattle.thin_examples.specs.Tree.{number_count}
use Rattle.thin_examples.proofs.tree.Value.+count.Given as goal

-- The loop invariant of `Value::count`: the count so far plus the numbers of the unvisited values
-- is how many numbers the value has, if both are capped at `u64::MAX`.
abbrev pub invariant-loop-value : goal.invariant-loop-value
invariant-loop-value l =
    (min (l.count + sum (map number_count l.value-iterator.rest.now)) (2 ^ 64 - 1) ≡ min
    (number_count l.self) (2 ^ 64 - 1)) × (l.count < 2 ^ 64)
