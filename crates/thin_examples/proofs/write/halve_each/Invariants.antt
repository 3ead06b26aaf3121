-- The numbers before the index are halved, and the others are as at the call.
use Rattle.std.proofs.Common.{◌≡◌, ◌/◌, ◌++◌, drop, map, take}
use Rattle.thin_examples.proofs.write.halve_each.Given as goal

abbrev pub invariant-loop-number : goal.invariant-loop-number
invariant-loop-number g l = l.number-items
    ≡ map (λ number. number / 2) (take l.number-index l.fn.list.items)
    ++ drop l.number-index l.fn.list.items
