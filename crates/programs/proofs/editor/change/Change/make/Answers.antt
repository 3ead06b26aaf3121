-- A second exchange of the same range undoes the first: this is the lemma `replaced-undone`.
use Rattle.std.proofs.Common.{arith}
use Rattle.thin_vec.proofs.CallerLemmas.{replaced-undone}
use Rattle.programs.proofs.editor.change.Change.make.Goals as goal

pub returns-clause-undoes : goal.returns-clause-undoes
returns-clause-undoes g c = grind (arith, replaced-undone)
