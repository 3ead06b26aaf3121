-- In a sorted list, no number that is less than the bound comes after one that is not. So the
-- clause `partitioned` of `partition_point` applies. The slice has the items of the list.
use Rattle.std.proofs.Common.{IsSorted, ltb, ltb-false, ltb-true, nat_cmp, rules}
use Rattle.std.proofs.lemmas.List.Sorted.{IsNonDecreasingBy-from_sort, IsPartitionPoint-from_clause, IsPartitionedBy-ltb}
use Rattle.thin_examples.proofs.read.count_below.Goals as goal

pub returns-clause-point : goal.returns-clause-point
returns-clause-point g c = rw (← c.deref.ensures.value) (
    let items = c.deref.result.now in
    let bound = c.args.bound in
    let sorted : IsSorted nat_cmp items = rw c.deref.ensures.value c.requires.sorted in
    let parted = IsPartitionedBy-ltb (λ x. x) items bound
    (IsNonDecreasingBy-from_sort (λ x. x) items sorted) in
    let point = IsPartitionPoint-from_clause (λ x. ltb x bound) items _
    c.partition_point.ensures.partitioned parted (λ a r f k. search rules) in (
      λ k d low high. ltb-true _ _ (point.0 k d low high),
      λ k d low high. ltb-false _ _ (point.1 k d low high),
    ))
