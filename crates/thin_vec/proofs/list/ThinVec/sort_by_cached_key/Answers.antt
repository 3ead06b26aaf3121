-- The list contains the items of the sorted slice.
use Rattle.std.proofs.Common.{◌≡◌, ◌∙◌, ap, length}
use Rattle.std.proofs.lemmas.Result.{on_err_weaker}
use Rattle.thin_vec.specs.Lends.{with_items}
use Rattle.thin_vec.proofs.LendsLemmas.{all-replaced, none-replaced}
use Rattle.thin_vec.proofs.list.ThinVec.sort_by_cached_key.Goals as goal

same : (g : _) (c : goal.After-self-1 g)
    → length c.sort_by_cached_key.new.self ≡ length c.args.self.now.items
same g c = c.sort_by_cached_key.ensures.len ∙ c.parts_mut-items.ensures.len

all : (g : _) (c : goal.After-self-1 g)
    → (with_items c.args.self.now c.sort_by_cached_key.new.self).items
    ≡ c.sort_by_cached_key.new.self
all g c = all-replaced c.args.self.now c.sort_by_cached_key.new.self (same g c)

pub returns-clause-sorted : goal.returns-clause-sorted
returns-clause-sorted g c = rw (all g c) c.sort_by_cached_key.ensures.sorted

pub returns-clause-err : goal.returns-clause-err
returns-clause-err g c =
    on_err_weaker c.sort_by_cached_key.result
    (λ is. none-replaced c.args.self.now c.sort_by_cached_key.new.self (same g c)
    (is ∙ c.parts_mut-items.ensures.value))
    c.sort_by_cached_key.ensures.err

pub returns-clause-permutation : goal.returns-clause-permutation
returns-clause-permutation g c =
    rw (all g c, ← c.parts_mut-items.ensures.value) c.sort_by_cached_key.ensures.permutation

pub returns-clause-stable : goal.returns-clause-stable
returns-clause-stable g c =
    rw (all g c, ← c.parts_mut-items.ensures.value) c.sort_by_cached_key.ensures.stable

pub returns-clause-len : goal.returns-clause-len
returns-clause-len g c = ap length (all g c) ∙ same g c
