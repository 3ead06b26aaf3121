-- The loop invariant of `append_doubled`: the list contains its old items and the doubles of the
-- numbers read so far, and has room for the remaining doubles.
use Rattle.std.proofs.Common.{◌≡◌, ◌+◌, ◌*◌, ◌++◌, ◌≤◌, length, map, take}
use Rattle.thin_examples.proofs.add.append_doubled.Given as goal

abbrev pub invariant-loop-number : goal.invariant-loop-number
invariant-loop-number g l =
    (l.list.items
    ≡ l.fn.list.items ++ map (λ number. 2 * number) (take l.number-index l.numbers))
    × (length l.list.items + length l.numbers ≤ l.list.capacity + l.number-index)
