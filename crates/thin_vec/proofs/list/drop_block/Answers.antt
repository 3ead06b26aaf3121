-- After the last iteration, every slot is empty, so the block can be freed.
use Rattle.thin_block.proofs.BlockLemmas.{slots-are}
use Rattle.std.proofs.Common.{◌≡◌, ◌≤◌, ◌-◌, ap, ◌∙◌, length, arith, None}
use lib.ListN.{set}
use Rattle.thin_block.specs.Slots.{empty_slots, items_in}
use Rattle.thin_vec.proofs.ListBlockLemmas.{empty-alone}
use Rattle.thin_vec.proofs.list.InsertRemoveLemmas.{emptying, emptying-filled, emptying-take, emptying-all}
use Rattle.thin_vec.proofs.list.drop_block.Goals as goal

pub take-requires : goal.take-requires
take-requires g c =
    let old = c.args.block.slots in
    let len = c.len-len.ensures.value ∙ c.requires.packed.len in
    record {
      filled = rw (ap (λ v. v.slots) c.loop-i.invariant)
          (emptying-filled (items_in old) 0 c.loop-i.i (length old) (omega arith)
          (omega (arith, c.loop-i-test.true, len)));
    }

pub loop-i-preserved : goal.loop-i-preserved
loop-i-preserved g c =
    let old = c.args.block.slots in
    let h = c.loop-i.invariant in
    let len = c.len-len.ensures.value ∙ c.requires.packed.len in
    slots-are
    (c.take.ensures.changes
    ∙ (λ i. let v = h i in record v { slots = set v.slots c.loop-i.i None }))
    (emptying-take (items_in old) 0 c.loop-i.i (length old) (omega arith)
    (omega (arith, c.loop-i-test.true, len)))

pub release-requires-clause-empty : goal.release-requires-clause-empty
release-requires-clause-empty g c =
    let old = c.args.block.slots in
    let cap = length old in
    let len = c.len-len.ensures.value ∙ c.requires.packed.len in
    let end : c.loop-i.i ≡ length (items_in old) =
    omega (arith, c.loop-i-test.false, c.loop-i.auto.i-end, len) in
    let room : length (items_in old) ≤ cap = omega (arith, c.len-len.ensures.in_bounds, len) in
    let none : cap - 0 ≡ cap = omega arith in
    empty-alone _ cap
    (ap (λ v. v.slots) c.loop-i.invariant
    ∙ (ap (λ k. emptying (items_in old) 0 k cap) end
    ∙ (emptying-all (items_in old) 0 cap (omega arith) room ∙ ap (λ k. empty_slots k) none)))
