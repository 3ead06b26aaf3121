-- `put` calls `put_array` with an array of one item. This file proves that the call is allowed, and
-- that it changes only slot `i`.
use Rattle.std.proofs.Common.{◌≡◌, subst, arith}
use denote.Param.{param}
use Rattle.std.specs.declared.option.Option.TheVariants.{None}
use Rattle.thin_block.specs.Slots.{slot}
use Rattle.thin_block.proofs.BlockLemmas.{slots-are}
use Rattle.thin_block.proofs.CapacityLemmas.{fits-part}
use Rattle.thin_block.proofs.SlotsLemmas.{written-single}
use Rattle.thin_block.proofs.block.Block.put.Goals as goal

pub put_array-requires : goal.put_array-requires
put_array-requires g c =
    let i = c.args.i in let s = c.args.self.now.slots in
    let within = c.requires.in_bounds in let long = c.cap-cap.ensures.value in (
      fits-part (param 0 g.row.T) 1 c.cap-cap.result c.cap-cap.ensures.fits (omega arith),
      (
        omega arith,
        λ j p q. subst (λ k. slot s k ≡ None) (let e : i ≡ j = omega arith in e) c.requires.empty,
      ),
    )

pub returns : goal.returns
returns g c = record {
  changes = slots-are c.put_array.ensures.changes
      (written-single c.args.self.now.slots c.args.i c.args.value c.requires.in_bounds);
}
