-- `take_last` empties slot `end - 1`, which holds the last remaining item, and decrements `end`.
use Rattle.std.proofs.Common.{◌-◌, ◌<◌, ◌≤◌, ◌∷◌, ◌++◌, [], ap, sym, ◌∙◌, arith, length, take, refl, rules}
use Rattle.thin_block.specs.Slots.{items_in}
use Rattle.thin_vec.proofs.convert.IntoIterLemmas.{Walking, last-item, restores-last, walked-filled}
use Rattle.thin_vec.proofs.ListBlockLemmas.{list_view-keeps}
use Rattle.thin_vec.proofs.convert.into_iter.IntoIter.take_last.Goals as goal

some : (g : _) (c : goal.After-take g) → c.self.inside.start < c.self.inside.end
some g c = omega (arith, ap (λ v. length v.items) c.self.view_is)

pub take-requires : goal.take-requires
take-requires g c =
    let it = c.self.inside in
    let remain = ap (λ v. length v.items) c.self.view_is in
    let from : it.start ≤ it.end - 1 =
    omega (arith, c.self.invariant.len, c.requires.nonempty, remain) in
    let to : it.end - 1 < it.end =
    omega (arith, c.self.invariant.len, c.requires.nonempty, remain) in
    record {
      filled = walked-filled it.block it.alloc it.start it.end (it.end - 1)
          c.self.invariant from to;
    }

facts : (g : _) (c : goal.After-take g)
    → let it = c.self.inside in
    let most = take (it.end - 1 - it.start) (items_in it.block.slots) in
    Walking c.take.new.self it.alloc most it.start (it.end - 1) (length it.block.slots)
facts g c =
    let it = c.self.inside in
    restores-last it.block c.take.new.self it.alloc it.start it.end c.take.result
    c.self.invariant (some g c) c.take.ensures.changes

pub invariant_of-self : goal.invariant_of-self
invariant_of-self g c = (facts g c).walked

pub returns-clause-items : goal.returns-clause-items
returns-clause-items g c =
    let it = c.self.inside in
    let parted = last-item it.block c.take.new.self it.alloc it.start it.end c.take.result
    c.self.invariant (some g c) c.take.ensures.value in
    sym (ap (λ v. v.items) c.self.view_is)
    ∙ (parted ∙ ap (λ xs. xs ++ c.take.result ∷ []) (sym (facts g c).items))

pub returns-clause-changes : goal.returns-clause-changes
returns-clause-changes g c =
    list_view-keeps c.self.view_is c.take.new.self (facts g c).cap refl (search rules)
