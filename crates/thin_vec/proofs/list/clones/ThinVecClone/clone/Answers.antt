-- The contract of `Clone::clone` follows from the contract of the inherent method `clone`.
use Rattle.std.proofs.Common.{sym, ◌∙◌}
use Rattle.std.proofs.lemmas.List.Elements.{length_all_zip}
use Rattle.thin_vec.proofs.list.clones.ThinVecClone.clone.Goals as goal

pub returns-in-Ok : goal.returns-in-Ok
returns-in-Ok g c =
    let e = c.in-Ok.ensures in
    record {
      cases = record {
        items = e.items;
        len = sym (length_all_zip g.T.Clone.is_clone c.args.self.now.items c.in-Ok.other.items
            e.items);
        capacity = e.capacity;
        alloc = e.fresh.alloc ∙ c.allocator.ensures.value;
        cost = e.cost;
        cheap = e.fresh.cheap;
        small = e.fresh.within.small;
      };
    }
