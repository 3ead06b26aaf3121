-- In a sorted list, the clause `position` of `binary_search` says which numbers are less than
-- `number`, and which are greater. The slice has the items of the list.
use Rattle.std.proofs.Common.{◌<◌, IsSorted, nat_cmp, sym}
use Rattle.std.proofs.lemmas.Cmp.{nat_cmp_total, ranked}
use Rattle.std.proofs.lemmas.List.Sorted.{searchable_from_sorted}
use Rattle.std.proofs.lemmas.Result.{MatchResult-weaker}
use Rattle.std.specs.List.Sorted.{IsPartitionPoint}
use Rattle.thin_examples.proofs.read.find.Goals as goal

pub returns-clause-absent : goal.returns-clause-absent
returns-clause-absent g c = rw (← c.deref.ensures.value) (
    let items = c.deref.result.now in
    let number = c.args.number in
    let sorted : IsSorted nat_cmp items = rw c.deref.ensures.value c.requires.sorted in
    let rising = searchable_from_sorted nat_cmp_total (λ x. x) items number sorted in
    MatchResult-weaker _ {Q' = IsPartitionPoint (λ x. x < number) (λ x. number < x) items}
    c.binary_search.ensures.position (λ _ _. tt) (λ index point. (
      λ k d low high. ranked _ _ _ (sym ((point rising).0 k d low high)),
      λ k d low high. ranked _ _ _ (sym ((point rising).1 k d low high)),
    )))
