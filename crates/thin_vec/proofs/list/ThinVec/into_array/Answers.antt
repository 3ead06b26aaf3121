-- `take_array` moves the items out of their slots, and the empty block is freed.
use Rattle.std.proofs.Common.{◌≡◌, ℕ, ◌≤◌, List, ◌∙◌, ap, arith, length, subst, sym}
use denote.Param.{param}
use Rattle.thin_block.specs.Block.{IsAllocatedBy}
use Rattle.thin_block.specs.Capacity.{Fits}
use Rattle.thin_block.specs.Slots.{IsPacked, packed_slots, items_in}
use Rattle.thin_block.specs.declared.block.Block.{Block}
use Rattle.thin_block.proofs.CapacityLemmas.{fits-bytes}
use Rattle.thin_block.proofs.SlotsLemmas.{packed-emptied, packed-filled, packed-le, packed-run}
use Rattle.thin_vec.proofs.ListBlockLemmas.{empty-alone, full-same, settled, thin-packed}
use Rattle.thin_vec.proofs.list.ThinVec.into_array.Goals as goal

filled : {T A : Type 0} (b : Block T A) (a : A) (xs : List T) (c n : ℕ)
    → b.slots ≡ packed_slots xs c
    → b.len ≡ length xs → IsAllocatedBy b.alloc a → length xs ≤ c → length xs ≡ n
    → IsPacked b.slots n × (items_in b.slots ≡ xs)
filled b a xs c n slots len from room long =
    let after = settled b a xs c slots len room from in
    (thin-packed b a n after.thin (ap length after.items ∙ long), after.items)

pub take_array-items-requires : goal.take_array-items-requires
take_array-items-requires g c =
    let block = c.into_parts-block.result.0 in let parts = c.into_parts-block.ensures in
    let list = c.args.self in let n = g.row.N in
    let is = filled block c.into_parts-block.result.1 list.items list.capacity n parts.slots
    parts.len parts.same_allocator c.len.ensures.bounds.room
    (sym c.len.ensures.value ∙ c.if-len.false) in (
      fits-bytes (param 0 g.row.T) n
          (subst (λ k. Fits (param 0 g.row.T) k) c.if-len.false c.len.ensures.fits),
      (
        omega (arith, packed-le block.slots n is.0),
        λ i _ low. packed-filled block.slots n is.0 i (omega (arith, low)),
      ),
    )

pub release-requires-clause-empty : goal.release-requires-clause-empty
release-requires-clause-empty g c =
    let block = c.into_parts-block.result.0 in let parts = c.into_parts-block.ensures in
    let list = c.args.self in let n = g.row.N in
    let is = filled block c.into_parts-block.result.1 list.items list.capacity n parts.slots
    parts.len parts.same_allocator c.len.ensures.bounds.room
    (sym c.len.ensures.value ∙ c.if-len.false) in
    empty-alone _ (length block.slots)
    (ap (λ v. v.slots) c.take_array-items.ensures.changes
    ∙ packed-emptied block.slots n is.0)

pub returns-clause-items : goal.returns-clause-items
returns-clause-items g c =
    let block = c.into_parts-block.result.0 in let parts = c.into_parts-block.ensures in
    let list = c.args.self in let n = g.row.N in
    let is = filled block c.into_parts-block.result.1 list.items list.capacity n parts.slots
    parts.len parts.same_allocator c.len.ensures.bounds.room
    (sym c.len.ensures.value ∙ c.if-len.false) in
    full-same c.take_array-items.result (items_in block.slots)
    (c.take_array-items.ensures.value ∙ packed-run block.slots n is.0) ∙ is.1
