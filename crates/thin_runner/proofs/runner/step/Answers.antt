-- An arm of `step` that calls a method of `Context` has the clause `allowed` of this method.
use Rattle.thin_runner.proofs.runner.step.Goals as goal

pub returns-in-Resize : goal.returns-in-Resize
returns-in-Resize g c = record { allowed = rw c.in-Resize.is c.resize.ensures.allowed }

pub returns-in-ExtendFromSlice : goal.returns-in-ExtendFromSlice
returns-in-ExtendFromSlice g c = record {
  allowed = rw c.in-ExtendFromSlice.is c.extend_from_slice.ensures.allowed;
}

pub returns-in-Extend : goal.returns-in-Extend
returns-in-Extend g c = record { allowed = rw c.in-Extend.is c.extend.ensures.allowed }

pub returns-in-SplitOff : goal.returns-in-SplitOff
returns-in-SplitOff g c = record { allowed = rw c.in-SplitOff.is c.split_off.ensures.allowed }

pub returns-in-Clone : goal.returns-in-Clone
returns-in-Clone g c = record { allowed = rw c.in-Clone.is c.clone.ensures.allowed }

pub returns-in-Retain : goal.returns-in-Retain
returns-in-Retain g c = record { allowed = rw c.in-Retain.is c.retain.ensures.allowed }

pub returns-in-RetainMut : goal.returns-in-RetainMut
returns-in-RetainMut g c = record { allowed = rw c.in-RetainMut.is c.retain_mut.ensures.allowed }

pub returns-in-Dedup : goal.returns-in-Dedup
returns-in-Dedup g c = record { allowed = rw c.in-Dedup.is c.dedup.ensures.allowed }

pub returns-in-DedupBy : goal.returns-in-DedupBy
returns-in-DedupBy g c = record { allowed = rw c.in-DedupBy.is c.dedup_by.ensures.allowed }

pub returns-in-DedupByKey : goal.returns-in-DedupByKey
returns-in-DedupByKey g c = record {
  allowed = rw c.in-DedupByKey.is c.dedup_by_key.ensures.allowed;
}

pub returns-in-Drain : goal.returns-in-Drain
returns-in-Drain g c = record { allowed = rw c.in-Drain.is c.drain.ensures.allowed }

pub returns-in-ExtractIf : goal.returns-in-ExtractIf
returns-in-ExtractIf g c = record { allowed = rw c.in-ExtractIf.is c.extract_if.ensures.allowed }

pub returns-in-Splice : goal.returns-in-Splice
returns-in-Splice g c = record { allowed = rw c.in-Splice.is c.splice.ensures.allowed }
