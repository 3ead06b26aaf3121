-- `copy_in` puts the copies into the gap directly after the front items.
use Rattle.std.proofs.Common.{refl}
use Rattle.thin_vec.proofs.open_block.StepLemmas.{fill-view}
use Rattle.thin_vec.proofs.open_block.OpenBlock.fill_from_copies.Goals as goal

pub invariant_of-self : goal.invariant_of-self
invariant_of-self g c =
    (fill-view c.self.inside c.self.invariant c.self.view_is c.copy_in.new.self c.args.items.now _
    refl c.requires.room c.copy_in.ensures.changes).lies

pub returns : goal.returns
returns g c =
    (fill-view c.self.inside c.self.invariant c.self.view_is c.copy_in.new.self c.args.items.now _
    refl c.requires.room c.copy_in.ensures.changes).view
