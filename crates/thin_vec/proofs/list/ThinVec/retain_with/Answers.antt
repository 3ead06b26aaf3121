-- `retain_middle` tests each item, and drops the items that are not to be kept.
use Rattle.std.proofs.Common.{◌≡◌, ◌++◌, ◌∙◌, ap, arith, rules, sym}
use Rattle.std.proofs.lemmas.Grind.{common_steps}
use Rattle.std.proofs.lemmas.List.{append-nil}
use Rattle.thin_vec.proofs.RetainLemmas.{retained-results}
use Rattle.thin_vec.proofs.BoundsLemmas.{bounds-like}
use Rattle.thin_vec.proofs.list.ThinVec.retain_with.Goals as goal

pub returns-clause-bounds : goal.returns-clause-bounds
returns-clause-bounds g c =
    let same : c.close.new.self.capacity ≡ c.args.self.now.capacity = search rules in (
      c.len-len.ensures.bounds,
      bounds-like _ c.close.new.self c.args.self.now
          c.len-len.ensures.bounds same (omega (arith, c.close.ensures.room, same)),
    )

pub returns-clause-retained : goal.returns-clause-retained
returns-clause-retained g c =
    let r = c.retain_middle.ensures.retained in
    let all : r.done ≡ c.args.self.now.items =
    sym (append-nil r.done)
    ∙ (ap (λ l. r.done ++ l) (sym c.retain_middle.ensures.no_middle)
    ∙ (sym r.middle ∙ grind (arith, common_steps))) in
    retained-results g.J.Test.tests c.args.test.now c.retain_middle.new.test c.args.self.now
    c.close.new.self r.results (rw all at r.asked) (grind (arith, common_steps))
    (grind (arith, common_steps))
