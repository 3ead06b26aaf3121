-- `extract_if` negates the result of its closure: the closure returns true for an item to extract,
-- but the test returns true for an item to keep.
use Rattle.std.proofs.Common.{Bool, rules, sym, subst}
use Rattle.std.specs.Fn.{CalledAtMut}
use Rattle.thin_vec.proofs.edits.ExtractIfLemmas.{not-not}
use Rattle.thin_vec.proofs.edits.extract_if.ExtractByTest.test.Goals as goal

pub returns-clause-tested : goal.returns-clause-tested
returns-clause-tested g c =
    let called : CalledAtMut g.F.FnMut c.args.self.now.pick c.args.item.now c.pick.result
    c.pick.new.self c.pick.new.arg2 = search rules in
    subst (λ (b : Bool). CalledAtMut g.F.FnMut c.args.self.now.pick c.args.item.now b
    c.pick.new.self c.pick.new.arg2) (sym (not-not c.pick.result)) called
