-- The list is full, and gets at most as many numbers as it has. So it grows once, either for the
-- size hint or for the first number.
use Rattle.std.proofs.Common.{rules, ◌≡◌, ◌+◌, ◌*◌, ◌≤◌, ◌++◌, ap, arith, length, length-append}
use Rattle.thin_vec.proofs.ExtendCostLemmas.{doubled_once}
use Rattle.thin_examples.proofs.costs.fill_twice.Goals.{In-Ok}
use Rattle.thin_examples.proofs.costs.fill_twice.Goals as goal

doubled : (g : _) (c : In-Ok g)
    → (c.extend.new.self.capacity ≡ 2 * c.args.list.now.capacity)
    × (c.extend.new.self.cost.blocks ≡ c.args.list.now.cost.blocks + 1)
    × (c.extend.new.self.cost.grown ≡ c.args.list.now.cost.grown + c.args.list.now.capacity)
doubled g c =
    let v = c.args.list.now in let w = c.extend.new.self in
    let pushed = c.in-Ok.ensures.capacity in
    let items : w.items ≡ v.items ++ c.args.numbers.now = search rules in
    let within : pushed.0 ≤ length c.args.numbers.now = search rules in
    let long = length-append v.items c.args.numbers.now in
    doubled_once _ v w pushed.0 (omega (arith, c.requires.some, c.requires.few)) c.requires.full
    (omega (arith, ap length items, long, c.requires.full, c.requires.some))
    (omega (arith, ap length items, long, c.requires.full, c.requires.few))
    (omega (arith, within, c.requires.few)) pushed.2

pub returns-in-Ok-clause-capacity : goal.returns-in-Ok-clause-capacity
returns-in-Ok-clause-capacity g c = λ _.
    (doubled g (goal.at.returns-in-Ok-clause-capacity g c).In-Ok).0

pub returns-in-Ok-clause-blocks : goal.returns-in-Ok-clause-blocks
returns-in-Ok-clause-blocks g c = λ _.
    (doubled g (goal.at.returns-in-Ok-clause-blocks g c).In-Ok).1

pub returns-in-Ok-clause-grown : goal.returns-in-Ok-clause-grown
returns-in-Ok-clause-grown g c = λ _.
    (doubled g (goal.at.returns-in-Ok-clause-grown g c).In-Ok).2
