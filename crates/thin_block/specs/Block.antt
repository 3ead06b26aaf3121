-- The record `BlockView` holds the parts of a `Block` that contracts can mention. The predicate
-- `IsAllocatedBy` states that the memory of a block came from a given allocator. The record
-- `Reallocates` states what a change of the capacity does.
use Rattle.std.specs.Prelude.{◌≡◌, ℕ, IfErr, List, OnErr, OnOk, Option, Result}
use Rattle.std.specs.declared.option.Option.TheVariants.{Some}
use Rattle.thin_block.specs.Cost.{Cost, add_realloc}
use Rattle.thin_block.specs.declared.block.Block.{Block}
use Rattle.thin_block.specs.declared.errors.ThinVecError.{ThinVecError}
use Rattle.thin_block.specs.declared.errors.ThinVecError.TheVariants.{OutOfMemory}
use Rattle.thin_block.specs.Slots.{empty_slots, write_slots, slot_range}

-- `BlockView T A` holds the parts of a block that contracts can mention. The items have the type
-- `T`, and the allocator has the type `A`.
pub record BlockView (T A : Type 0) : Type 0 where
  pub slots : List (Option T)
  pub len : ℕ
  pub alloc : Option A
  pub cost : Cost

-- `IsAllocatedBy alloc a` holds if `alloc` is `None` or `Some a`. For the field `alloc` of a block,
-- this means that the block has no memory, or that its memory came from the allocator `a`.
abbrev pub IsAllocatedBy : {A : Type 0} → Option A → A → Type 0
IsAllocatedBy {A} alloc a = (x : A) → alloc ≡ Some x → x ≡ a

module _ {T A : Type 0} where
  -- `block_view b` is the view of the block `b` that contracts use.
  abbrev pub block_view : Block T A → BlockView T A
  block_view b = record { slots = b.slots; len = b.len; alloc = b.alloc; cost = b.cost }

  -- `Reallocates old new alloc cap result` holds if a change of the capacity of the block `old` to
  -- `cap` turned it into the block `new`, with memory from the allocator `alloc`. If the allocator
  -- failed, then `result` is an error, and the block is unchanged.
  pub record Reallocates (old new : Block T A) (alloc : A) (cap : ℕ)
      (result : Result (Unit {0}) ThinVecError) : Type 0 where
    pub ok : OnOk result (block_view new ≡ record (block_view old) {
      slots = write_slots 0 (slot_range 0 old.len old.slots) (empty_slots cap);
      alloc = Some alloc;
      cost = add_realloc old.len old.cost;
    })
    pub err : OnErr result (new ≡ old)
    pub cause : IfErr result (λ cause. cause ≡ OutOfMemory)
