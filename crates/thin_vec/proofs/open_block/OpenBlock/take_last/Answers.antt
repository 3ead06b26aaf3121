-- `take_last` empties slot `middle_end - 1`, which then belongs to the gap before the tail items.
use Rattle.std.proofs.Common.{◌≡◌, ◌<◌, ◌+◌, ◌∷◌, ◌++◌, ◌-◌, [], List, ap, sym, ◌∙◌, arith, length}
use Rattle.thin_vec.specs.OpenBlock.{open_view}
use Rattle.thin_vec.proofs.OpenBlockLemmas.{Found, last-left, last-view, last-step, middle-filled}
use Rattle.thin_vec.proofs.open_block.OpenBlock.take_last.Goals as goal

pub take-requires : goal.take-requires
take-requires g c =
    let h = c.self.inside in
    let o = c.self.invariant in
    record {
      filled = middle-filled h (open_view h) o (h.middle_end - 1)
          (omega (arith, o.middle, c.requires.nonempty, ap (λ v. length v.middle) c.self.view_is))
          (omega (arith, o.middle, c.requires.nonempty, ap (λ v. length v.middle) c.self.view_is));
    }

some : (g : _) (c : goal.After-take g) → 0 < length (open_view c.self.inside).middle
some g c = omega (arith, c.requires.nonempty, ap (λ v. length v.middle) c.self.view_is)

facts : (g : _) (c : goal.After-take g) → (ys : List g.row.T.Denot)
    × ((open_view c.self.inside).middle ≡ ys ++ c.take.result ∷ [])
    × Found (last-left c.self.inside c.self.invariant c.take.new.self (some g c))
    (last-view c.self.inside c.self.invariant c.take.new.self (some g c) ys)
facts g c = last-step c.self.inside c.self.invariant c.take.new.self (some g c) c.take.result
    c.take.ensures.value c.take.ensures.changes

pub invariant_of-self : goal.invariant_of-self
invariant_of-self g c = (facts g c).2.lies

pub returns-clause-middle : goal.returns-clause-middle
returns-clause-middle g c =
    sym (ap (λ v. v.middle) c.self.view_is)
    ∙ ((facts g c).1 ∙ ap (λ xs. xs ++ c.take.result ∷ [])
    (sym (ap (λ v. v.middle) (facts g c).2.view)))

pub returns-clause-changes : goal.returns-clause-changes
returns-clause-changes g c = let seen = (facts g c).2.view in
    seen ∙ (λ i. let v = c.self.view_is i in
    record v { middle = (sym seen i).middle; gap_after = v.gap_after + 1 })
