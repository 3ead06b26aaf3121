-- The loop invariant of `all_granted` says that none of the replies before the current one reports
-- a failed call.
use Rattle.std.specs.List.{AllWithin}
use Rattle.thin_runner.specs.Replies.{IsGranted}
use Rattle.thin_examples.proofs.commands.all_granted.Given as goal

abbrev pub invariant-loop-reply : goal.invariant-loop-reply
invariant-loop-reply g l = AllWithin IsGranted l.replies 0 l.reply-index
