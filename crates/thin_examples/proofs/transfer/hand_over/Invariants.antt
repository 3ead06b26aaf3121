-- The loop invariant of `hand_over`: the items that the `Drain` has yielded have been appended to
-- `other`, which has room for the remaining items.
use Rattle.std.proofs.Common.{◌≡◌, ◌+◌, ◌++◌, ◌≤◌, length}
use Rattle.thin_vec.specs.Edits.Drain.{drain_rest}
use Rattle.thin_examples.proofs.transfer.hand_over.Given as goal

abbrev pub invariant-loop-item : goal.invariant-loop-item
invariant-loop-item g l =
    (l.other.items ≡ l.fn.other.items ++ l.yielded)
    × (length l.other.items + length (drain_rest l.item-iterator) ≤ l.other.capacity)
