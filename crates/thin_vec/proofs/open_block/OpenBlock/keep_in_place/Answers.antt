-- Since there is no gap, the middle items directly follow the front items.
use Rattle.std.proofs.Common.{◌≤◌, ◌++◌, ap, ◌∙◌, arith, length, take, drop}
use Rattle.thin_vec.specs.OpenBlock.{open_view}
use Rattle.thin_vec.proofs.OpenBlockLemmas.{Found}
use Rattle.thin_vec.proofs.open_block.MiddleLemmas.{moved_run, moved_run-view, pass-step}
use Rattle.thin_vec.proofs.open_block.OpenBlock.keep_in_place.Goals as goal

facts : (g : _) (c : goal.After-self-2-1 g)
    → let low : c.args.k ≤ length (open_view c.self.inside).middle =
    omega (arith, c.requires.in_bounds, ap (λ v. length v.middle) c.self.view_is) in
    Found (moved_run c.self.inside c.self.invariant c.args.k low c.self.inside.block)
    (moved_run-view c.self.inside c.self.invariant c.args.k low c.self.inside.block)
facts g c =
    let low : c.args.k ≤ length (open_view c.self.inside).middle =
    omega (arith, c.requires.in_bounds, ap (λ v. length v.middle) c.self.view_is) in
    pass-step c.self.inside c.self.invariant c.args.k low
    (ap (λ v. v.gap_before) c.self.view_is ∙ c.requires.gap_before)

pub invariant_of-self : goal.invariant_of-self
invariant_of-self g c = (facts g c).lies

pub returns : goal.returns
returns g c = (facts g c).view ∙ (λ i. let v = c.self.view_is i in
    record v { front = v.front ++ take c.args.k v.middle; middle = drop c.args.k v.middle })
