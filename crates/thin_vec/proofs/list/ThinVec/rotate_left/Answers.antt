-- The list contains the items of the rotated slice.
use Rattle.std.proofs.Common.{◌≡◌, ◌∙◌, ap, length}
use Rattle.thin_vec.specs.Lends.{with_items}
use Rattle.thin_vec.proofs.LendsLemmas.{all-replaced}
use Rattle.thin_vec.proofs.list.ThinVec.rotate_left.Goals as goal

same : (g : _) (c : goal.After-self-1 g)
    → length c.rotate_left.new.self ≡ length c.args.self.now.items
same g c = c.rotate_left.ensures.len ∙ c.as_mut_slice.ensures.len

all : (g : _) (c : goal.After-self-1 g)
    → (with_items c.args.self.now c.rotate_left.new.self).items ≡ c.rotate_left.new.self
all g c = all-replaced c.args.self.now c.rotate_left.new.self (same g c)

pub returns-clause-items : goal.returns-clause-items
returns-clause-items g c =
    rw (all g c, ← c.as_mut_slice.ensures.value) c.rotate_left.ensures.after

pub returns-clause-by_index : goal.returns-clause-by_index
returns-clause-by_index g c =
    rw (all g c, ← c.as_mut_slice.ensures.value) c.rotate_left.ensures.by_index

pub returns-clause-len : goal.returns-clause-len
returns-clause-len g c = ap length (all g c) ∙ same g c
