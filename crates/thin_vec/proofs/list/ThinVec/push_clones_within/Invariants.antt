-- The loop of `push_clones_within` appends a clone of each item of the range, in order.
use Rattle.std.proofs.Common.{◌≡◌, ◌+◌, length, take}
use Rattle.std.specs.List.{AppendsClones}
use Rattle.std.specs.Prelude.{slice_range}
use Rattle.thin_block.specs.Cost.{add_moves}
use denote.Param.{param}
use Rattle.thin_vec.specs.ThinVec.{IsBounded}
use Rattle.thin_vec.proofs.list.ThinVec.push_clones_within.Given as goal

abbrev pub invariant-loop-i : goal.invariant-loop-i
invariant-loop-i g l =
    record {
      items : AppendsClones g.T.Clone.is_clone l.fn.self.items l.self.items
          (take l.i (slice_range l.fn.self.items l.start l.end));
      len : length l.self.items ≡ length l.fn.self.items + l.i;
      capacity : l.self.capacity ≡ l.fn.self.capacity;
      alloc : l.self.alloc ≡ l.fn.self.alloc;
      cost : l.self.cost ≡ add_moves l.i l.fn.self.cost;
      within : IsBounded (param 0 g.row.T) l.self;
    }
