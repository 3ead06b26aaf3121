-- After a failed `paste`, each pasted item is in the list or in the error.
use Rattle.std.proofs.Common.{rules, ◌≡◌, ◌∙◌, ◌++◌, ap, sym}
use Rattle.std.proofs.lemmas.Result.{IfErr-weaker}
use Rattle.std.specs.Iterator.{YieldsFirst}
use Rattle.thin_vec.proofs.CallerLemmas.{accounts}
use Rattle.thin_vec.specs.Edits.Splice.{splice_iter}
use Rattle.thin_vec.specs.VecWords.{into_iter_items}
use Rattle.thin_examples.proofs.replace.paste.Goals as goal

pub returns-clause-none_lost : goal.returns-clause-none_lost
returns-clause-none_lost g c =
    let s = c.splice.ensures in
    let left : c.finish.new.self.0 ≡ c.text-1.given.0 = search rules in
    IfErr-weaker c.finish.result _ _ (λ error k. (
      k.0,
      ap (λ v. v.items) (sym left) ∙ (k.1 ∙ (λ i. (s.front i ++ k.0) ++ s.tail i)),
      ap into_iter_items (sym (s.value ∙ c.into_iter.ensures.value))
          ∙ accounts (YieldsFirst into_iter_items) into_iter_items (λ s t x e. e)
          (λ s t e. e.0 ∙ sym e.1) (splice_iter c.splice.result) k.0 error k.2,
    )) c.finish.ensures.placed
