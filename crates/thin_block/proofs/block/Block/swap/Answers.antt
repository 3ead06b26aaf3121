-- This file proves that `swap` exchanges the contents of two slots, and that it counts two moves if
-- these are different slots, and one move otherwise.
use Rattle.std.proofs.Common.{◌≡◌, None, Some, sym, ap, ◌∙◌, arith}
use Rattle.std.specs.Prelude.{◌==◌, if◌then◌else◌, slice_set, ◌+◌}
use Rattle.std.proofs.lemmas.Bool.Decides.{nat_tests}
use Rattle.std.proofs.lemmas.List.{set-set}
use Rattle.thin_block.specs.Block.{BlockView, block_view}
use Rattle.thin_block.specs.Cost.{add_moves}
use Rattle.thin_block.specs.Slots.{slot}
use Rattle.thin_block.proofs.block.Block.swap.Goals as goal

pub returns : goal.returns
returns g c =
    let i = c.args.i in let j = c.args.j in let old = c.args.self.now in
    let s = old.slots in let value = c.swap_take-value.result in
    let both = c.put.ensures.changes
    ∙ ap (λ (v : (BlockView g.row.T.Denot g.row.A.Denot)).
    record v { slots = slice_set v.slots j (Some value); cost = add_moves 1 v.cost })
    c.swap_take-value.ensures.changes in
    let filled = slice_set s i (slot s j) in
    let count : old.cost.moves + (if i == j then 0 else 1) + 1
    ≡ old.cost.moves + (if i == j then 1 else 2) = grind (arith, nat_tests) in
    record {
      changes = both ∙ (λ n. record (block_view old) {
        slots = (set-set filled j None (Some value)
            ∙ ap (λ y. slice_set filled j y) (sym c.swap_take-value.ensures.value)) n;
        cost = record old.cost { moves = count n };
      });
    }
