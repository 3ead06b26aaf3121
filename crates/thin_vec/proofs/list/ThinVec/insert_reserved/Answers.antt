-- `move_run` empties the slot at `index`, and `put_and_set_len` writes `value` into it.
use Rattle.std.proofs.Common.{Some, ◌+◌, ◌-◌, ap, ◌∙◌, length, arith, refl}
use lib.ListN.{set}
use Rattle.std.specs.Prelude.{insert}
use Rattle.thin_vec.proofs.ListBlockLemmas.{RestoresInvariant, thin-filled}
use Rattle.thin_block.specs.Block.{BlockView}
use Rattle.thin_block.specs.Cost.{add_moves}
use Rattle.thin_block.specs.Slots.{items_in, slot}
use Rattle.thin_vec.proofs.list.ThinVec.insert_reserved.Goals.{After-put_and_set_len}
use Rattle.thin_vec.proofs.list.InsertRemoveLemmas.{restores-insert, thin-gap}
use Rattle.thin_vec.proofs.list.ReservesLemmas.{keeps-settled}
use Rattle.thin_vec.proofs.list.ThinVec.insert_reserved.Goals as goal

pub move_run-requires-clause-filled : goal.move_run-requires-clause-filled
move_run-requires-clause-filled g c = λ j low high.
    thin-filled c.self.inside.block c.self.inside.alloc j c.self.invariant
    (omega (arith, ap (λ v. length v.items) c.self.view_is))

pub put_and_set_len-requires-clause-empty : goal.put_and_set_len-requires-clause-empty
put_and_set_len-requires-clause-empty g c =
    ap (λ v. slot v.slots c.args.index) c.move_run.ensures.changes
    ∙ thin-gap c.self.invariant c.args.index
    (omega (arith, c.requires.in_bounds, ap (λ v. length v.items) c.self.view_is))
    (omega (arith, ap (λ v. length v.items) c.self.view_is, ap (λ v. v.capacity) c.self.view_is))
    refl (ap (λ n. n - c.args.index) c.len-len.ensures.value)

facts : (g : _) (c : After-put_and_set_len g)
    → RestoresInvariant c.put_and_set_len.new.self c.self.inside.alloc
    (insert (items_in c.self.inside.block.slots) c.args.index c.args.value)
    (length c.self.inside.block.slots)
facts g c =
    restores-insert c.self.invariant c.put_and_set_len.new.self c.args.index c.args.value
    (omega (arith, c.requires.in_bounds, ap (λ v. length v.items) c.self.view_is))
    (omega (arith, ap (λ v. length v.items) c.self.view_is, ap (λ v. v.capacity) c.self.view_is))
    refl (ap (λ n. n - c.args.index) c.len-len.ensures.value) c.len-len.ensures.value
    (c.put_and_set_len.ensures.changes ∙ ap {A = BlockView _ _} (λ v. record v {
      slots = set v.slots c.args.index (Some c.args.value);
      len = c.len-len.result + 1;
      cost = add_moves 1 v.cost;
    }) c.move_run.ensures.changes)

pub invariant_of-self : goal.invariant_of-self
invariant_of-self g c = (facts g c).thin

pub returns-clause-items : goal.returns-clause-items
returns-clause-items g c = (facts g c).items
    ∙ ap (λ v. insert v.items c.args.index c.args.value) c.self.view_is

pub returns-clause-preserved : goal.returns-clause-preserved
returns-clause-preserved g c =
    keeps-settled _ _ c.self.invariant c.self.view_is c.len-len.ensures.bounds (facts g c)
    (ap (λ v. v.cost) c.put_and_set_len.ensures.changes
    ∙ ap (λ v. add_moves 1 v.cost) c.move_run.ensures.changes) (refl, refl)
