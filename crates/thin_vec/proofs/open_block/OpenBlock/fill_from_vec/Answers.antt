-- `put_vec` puts the items of the vector into the gap directly after the front items.
use Rattle.std.proofs.Common.{◌+◌, ◌∙◌, ap}
use Rattle.thin_vec.proofs.open_block.StepLemmas.{fill-view}
use Rattle.thin_vec.proofs.open_block.OpenBlock.fill_from_vec.Goals as goal

pub invariant_of-self : goal.invariant_of-self
invariant_of-self g c =
    (fill-view c.self.inside c.self.invariant c.self.view_is c.put_vec.new.block
    c.args.items.items _
    (ap (λ n. c.self.inside.front_end + n) (c.len-count.ensures ∙ c.args.items.ok.0))
    c.requires.room c.put_vec.ensures.changes).lies

pub returns : goal.returns
returns g c =
    (fill-view c.self.inside c.self.invariant c.self.view_is c.put_vec.new.block
    c.args.items.items _
    (ap (λ n. c.self.inside.front_end + n) (c.len-count.ensures ∙ c.args.items.ok.0))
    c.requires.room c.put_vec.ensures.changes).view
