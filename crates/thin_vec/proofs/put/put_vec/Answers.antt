-- Each iteration moves the last item of the vector into the slot before the items moved so far.
use Rattle.std.proofs.lemmas.Grind.{common_steps}
use Rattle.thin_block.specs.Slots.{filled_slots, write_slots}
use Rattle.thin_vec.proofs.list.ExtendLemmas.{put-more, put-none}
use Rattle.thin_block.specs.Block.{block_view}
use Rattle.std.proofs.Common.{◌+◌, ◌∙◌, ap, arith, length, length-append, subst, sym, ◌≡◌, ◌-◌}
use Rattle.std.proofs.lemmas.List.{length_push}
use Rattle.thin_vec.proofs.PutLemmas.{IsMoving, moving-first, moving-next}
use Rattle.thin_vec.proofs.put.put_vec.Goals as goal

pub loop-item-init : goal.loop-item-init
loop-item-init g c = record {
  slots = moving-first c.args.items.items c.args.start c.args.block.now.slots;
  same = put-none (block_view c.args.block.now) _ (omega arith);
}

pub loop-item-preserved : goal.loop-item-preserved
loop-item-preserved g c =
    let xs = c.args.items.items in
    let start = c.args.start in
    let old = c.args.block.now.slots in
    let left = c.pop.new.self.items in
    let was = c.loop-item.invariant in
    let before = subst (λ l. IsMoving xs l start old c.loop-item.block.slots)
    c.in-Some.ensures.items was.slots in
    record {
      slots = subst (λ s. IsMoving xs left start old s)
          (ap (λ v. v.slots) (sym c.put.ensures.changes))
          (moving-next left (start + c.len.result) c.in-Some.item before
          (ap (λ n. start + n) (c.len.ensures ∙ c.pop.new.self.ok.0)) c.requires.in_bounds);
      same = put-more (block_view c.args.block.now) _ (length xs - length left)
          (omega (
            arith,
            ap length c.in-Some.ensures.items,
            length_push left c.in-Some.item,
            ap length was.slots.parts,
            length-append c.loop-item.items.items was.slots.rest,
          ))
          c.put.ensures.changes was.same;
    }

pub returns : goal.returns
returns g c =
    let xs = c.args.items.items in
    let old = c.args.block.now in
    let slots : c.loop-item.block.slots ≡ write_slots c.args.start (filled_slots xs) old.slots =
    search (arith, ◌∙◌) in
    let all : length xs - length c.loop-item.items.items ≡ length xs =
    grind (arith, common_steps) in
    record {
      changes = cc (c.loop-item.invariant.same, slots, all);
    }
