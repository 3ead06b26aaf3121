-- The length and the capacity of a clone both equal the length of the original list.
use Rattle.std.proofs.Common.{arith, rules}
use Rattle.std.proofs.lemmas.List.Elements.{length_all_zip}
use Rattle.thin_runner.proofs.context.Context.clone.Goals as goal

pub returns-in-Ok : goal.returns-in-Ok
returns-in-Ok g c =
    let e = c.in-Ok.ensures in
    let same = length_all_zip _ _ _ e.items in
    record { allowed = (tt, (e.items, grind (arith, same), search rules)) }
