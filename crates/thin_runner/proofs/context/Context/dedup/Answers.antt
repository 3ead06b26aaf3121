-- `dedup` keeps the same items as if a judge compared them with `==`.
use Rattle.std.proofs.Common.{rules}
use Rattle.thin_runner.proofs.CallbackLemmas.{deduped-alike}
use Rattle.thin_runner.proofs.context.Context.dedup.Goals as goal

pub returns : goal.returns
returns g c = record {
  allowed = search (rules, deduped-alike g.T.PartialEq.eq c.args.self.judge c.args.list.now);
}
