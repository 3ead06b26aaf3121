-- `push` fails if `reserve(1)` fails, and its error has the same cause.
use Rattle.std.proofs.lemmas.Bool.{false≢true}
use denote.Param.{param}
use Rattle.thin_vec.proofs.list.ReservesLemmas.{lacks-room}
use Rattle.thin_vec.proofs.list.ThinVec.push.Goals as goal

pub returns-in-Err-clause-cause : goal.returns-in-Err-clause-cause
returns-in-Err-clause-cause g c =
    lacks-room (param 0 g.row.T) c.args.self.now g.G.Growth.rule 1 c.in-Err.cause
    (λ room. false≢true (c.in-Err.ensures.succeeds room)) c.in-Err.ensures.overflow.overflow

pub returns-clause-doubles : goal.returns-clause-doubles
returns-clause-doubles g c = rw c.push_at.ensures.capacity c.in_default.ensures.doubles
