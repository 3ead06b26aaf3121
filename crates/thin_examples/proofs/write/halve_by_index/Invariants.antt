-- The numbers before the index are halved, and the others are as at the call. The words for the
-- parts of the list have the names of std's for a `Vec`. So for a `Vec`, only their import differs.
use Rattle.std.proofs.Common.{◌≡◌, ◌/◌, ◌++◌, drop, map, take}
use Rattle.thin_vec.specs.VecWords.{vec_capacity, vec_items, vec_len}
use Rattle.thin_examples.proofs.write.halve_by_index.Given as goal

abbrev pub invariant-loop-i : goal.invariant-loop-i
invariant-loop-i g l = record {
  items : vec_items l.list
      ≡ map (λ number. number / 2) (take l.i (vec_items l.fn.list))
      ++ drop l.i (vec_items l.fn.list);
  len : vec_len l.list ≡ vec_len l.fn.list;
  capacity : vec_capacity l.list ≡ vec_capacity l.fn.list;
}
