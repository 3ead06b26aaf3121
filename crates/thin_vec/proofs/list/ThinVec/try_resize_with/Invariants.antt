-- Before each iteration of the loop, the list contains its old items, followed by those that `make`
-- has returned so far. It has room for the others.
use Rattle.std.proofs.Common.{◌≡◌, ◌-◌, ◌≤◌, ◌++◌, List, Ok, Some, length}
use Rattle.std.specs.Fn.{Called}
use Rattle.std.specs.List.{FoldsTo}
use denote.Param.{param}
use Rattle.thin_vec.specs.List.Capacity.{CostsMoves, PreservesList}
use Rattle.thin_vec.specs.ThinVec.{HasRoomFor, capacity_after_reserve}
use Rattle.thin_vec.proofs.list.ThinVec.try_resize_with.Given as goal

abbrev pub invariant-loop-make : goal.invariant-loop-make
invariant-loop-make g l = record {
  within : length l.self.items ≤ l.len;
  room : l.len ≤ l.self.capacity;
  made : (xs : List g.row.T.Denot) × (l.self.items ≡ l.fn.self.items ++ xs)
      × CostsMoves (length xs) l.fn.self l.self
      × FoldsTo (λ f x f'. Called g.F.FnMut f tt (Ok x) f') l.fn.make xs l.make;
  capacity : capacity_after_reserve g.G.Growth.rule (param 0 g.row.T) l.fn.self
      (l.len - length l.fn.self.items)
      ≡ Some l.self.capacity;
  had_room : HasRoomFor l.fn.self (l.len - length l.fn.self.items)
      → l.self.capacity ≡ l.fn.self.capacity;
  preserved : PreservesList (param 0 g.row.T) l.fn.self l.self;
  callable : goal.F-IsAlwaysCallable g l.make;
}

abbrev pub decreases-loop-make : goal.decreases-loop-make
decreases-loop-make g l = l.len - length l.self.items
