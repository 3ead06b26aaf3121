-- The list contains the items of the sorted slice.
use Rattle.std.proofs.Common.{◌≡◌, ◌∙◌, ap, length}
use Rattle.thin_vec.specs.Lends.{with_items}
use Rattle.thin_vec.proofs.LendsLemmas.{all-replaced}
use Rattle.thin_vec.proofs.list.ThinVec.sort_unstable_by_key.Goals as goal

same : (g : _) (c : goal.After-self-1 g)
    → length c.sort_unstable_by_key.new.self ≡ length c.args.self.now.items
same g c = c.sort_unstable_by_key.ensures.len ∙ c.as_mut_slice.ensures.len

all : (g : _) (c : goal.After-self-1 g)
    → (with_items c.args.self.now c.sort_unstable_by_key.new.self).items
    ≡ c.sort_unstable_by_key.new.self
all g c = all-replaced c.args.self.now c.sort_unstable_by_key.new.self (same g c)

pub returns-clause-sorted : goal.returns-clause-sorted
returns-clause-sorted g c = rw (all g c) c.sort_unstable_by_key.ensures.sorted

pub returns-clause-permutation : goal.returns-clause-permutation
returns-clause-permutation g c =
    rw (all g c, ← c.as_mut_slice.ensures.value) c.sort_unstable_by_key.ensures.permutation

pub returns-clause-len : goal.returns-clause-len
returns-clause-len g c = ap length (all g c) ∙ same g c
