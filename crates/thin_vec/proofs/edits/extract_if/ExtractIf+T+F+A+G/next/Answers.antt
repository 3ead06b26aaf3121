-- A call of `next` changes only the state that the `ExtractIf` owns.
use Rattle.std.proofs.Common.{◌+◌, ◌++◌, length, refl}
use Rattle.std.specs.Prelude.{◌==◌, if◌then◌else◌}
use Rattle.thin_block.specs.Cost.{add_moves}
use Rattle.thin_vec.proofs.edits.extract_if.ExtractIf+T+F+A+G.next.Goals as goal

pub returns-clause-steps : goal.returns-clause-steps
returns-clause-steps g c =
    let s = c.next_picked.ensures.steps in
    let new = c.next_picked.new.self in
    record {
      extracts = s;
      lender = refl;
      meanwhile = refl;
      after_drop = λ i. record {
        items = s.front i ++ (new.block.middle ++ s.tail i);
        capacity = s.capacity i;
        alloc = c.args.self.now.list.now.alloc;
        cost = if new.block.gap_before == 0 then new.block.cost else add_moves
            (length new.block.middle + length new.block.tail) new.block.cost;
      };
    }
