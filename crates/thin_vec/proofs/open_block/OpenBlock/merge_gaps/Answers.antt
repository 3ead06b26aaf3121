-- There are no middle items, so the gap before them and the gap after them form one gap.
use Rattle.std.proofs.Common.{ap, ◌∙◌}
use Rattle.thin_vec.proofs.OpenBlockLemmas.{Found}
use Rattle.thin_vec.proofs.open_block.StepLemmas.{join-step, joined, joined-view}
use Rattle.thin_vec.proofs.open_block.OpenBlock.merge_gaps.Goals as goal

facts : (g : _) (c : goal.After-self-2-1 g)
    → Found (joined c.self.inside c.self.invariant) (joined-view c.self.inside c.self.invariant)
facts g c = join-step c.self.inside c.self.invariant
    (ap (λ v. v.middle) c.self.view_is ∙ c.requires.no_middle)

pub invariant_of-self : goal.invariant_of-self
invariant_of-self g c = (facts g c).lies

pub returns : goal.returns
returns g c = cc ((facts g c).view, c.self.view_is, c.requires.no_middle)
