-- No entry has been passed over: the rows that the loop has left behind have none.
use Rattle.std.proofs.Common.{◌≡◌, ◌+◌, ◌^◌, ◌<◌, length}
use Rattle.thin_rows.specs.Walk.{entries_left}
use Rattle.thin_rows.proofs.iter.IterIterator.next.Given as goal

abbrev pub invariant-loop-first : goal.invariant-loop-first
invariant-loop-first g l =
    (l.self-inside.row + length l.self-inside.rows.now < 2 ^ 64)
    × (entries_left l.self-inside.row l.self-inside.entries.now l.self-inside.rows.now ≡ l.fn.self)

abbrev pub decreases-loop-first : goal.decreases-loop-first
decreases-loop-first g l = length l.self-inside.rows.now
