-- When the loop variable is `i`, the slots `len..i` are empty, and all other slots are unchanged.
use Rattle.std.proofs.Common.{◌≡◌}
use Rattle.thin_block.specs.Block.{IsAllocatedBy}
use Rattle.thin_vec.proofs.list.InsertRemoveLemmas.{emptying}
use Rattle.thin_vec.proofs.list.ThinVec.truncate.Given as goal

abbrev pub invariant-loop-i : goal.invariant-loop-i
invariant-loop-i g l = record {
  slots : l.self-inside.block.slots ≡ emptying l.fn.self.items l.len l.i l.fn.self.capacity;
  len : l.self-inside.block.len ≡ l.len;
  from : IsAllocatedBy l.self-inside.block.alloc l.self-inside.alloc;
  alloc : l.self-inside.alloc ≡ l.fn.self.alloc;
  cost : l.self-inside.block.cost ≡ l.fn.self.cost;
}
