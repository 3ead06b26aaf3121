-- `take_first` empties slot `start`, which holds the first remaining item, and increments `start`.
use Rattle.std.proofs.Common.{◌+◌, ◌<◌, ◌∷◌, ap, sym, ◌∙◌, arith, drop, length, refl, rules}
use Rattle.thin_block.specs.Slots.{items_in}
use Rattle.thin_vec.proofs.convert.IntoIterLemmas.{Walking, first-item, restores-first, walked-filled}
use Rattle.thin_vec.proofs.ListBlockLemmas.{list_view-keeps}
use Rattle.thin_vec.proofs.convert.into_iter.IntoIter.take_first.Goals as goal

some : (g : _) (c : goal.After-take g) → c.self.inside.start < c.self.inside.end
some g c = omega (arith, ap (λ v. length v.items) c.self.view_is)

pub take-requires : goal.take-requires
take-requires g c =
    record {
      filled = walked-filled c.self.inside.block c.self.inside.alloc c.self.inside.start
          c.self.inside.end c.self.inside.start c.self.invariant (omega arith)
          (omega (arith, ap (λ v. length v.items) c.self.view_is));
    }

facts : (g : _) (c : goal.After-take g) → Walking c.take.new.self c.self.inside.alloc
    (drop 1 (items_in c.self.inside.block.slots)) (c.self.inside.start + 1) c.self.inside.end
    (length c.self.inside.block.slots)
facts g c =
    restores-first c.self.inside.block c.take.new.self c.self.inside.alloc c.self.inside.start
    c.self.inside.end c.take.result c.self.invariant (some g c)
    c.take.ensures.value c.take.ensures.changes

pub invariant_of-self : goal.invariant_of-self
invariant_of-self g c = (facts g c).walked

pub returns-clause-items : goal.returns-clause-items
returns-clause-items g c =
    sym (ap (λ v. v.items) c.self.view_is)
    ∙ (first-item c.self.inside.block c.take.new.self c.self.inside.alloc c.self.inside.start
    c.self.inside.end c.take.result c.self.invariant (some g c) c.take.ensures.value
    ∙ ap (λ xs. c.take.result ∷ xs) (sym (facts g c).items))

pub returns-clause-changes : goal.returns-clause-changes
returns-clause-changes g c =
    list_view-keeps c.self.view_is c.take.new.self (facts g c).cap refl (search rules)
