-- In the loop of `count_even`, the variable `count` is the number of even numbers before the
-- current number. So `count` is at most the index of the current number.
use Rattle.std.proofs.Common.{◌≡◌, ◌%◌, ◌==◌, ◌≤◌, length, take}
use Rattle.std.specs.Prelude.{filter}
use Rattle.thin_examples.proofs.read.count_even.Given as goal

abbrev pub invariant-loop-number : goal.invariant-loop-number
invariant-loop-number g l =
    (l.count ≡ length (filter (λ number. number % 2 == 0) (take l.number-index l.list.items)))
    × (l.count ≤ l.number-index)
