-- If `all_granted` succeeds, then no reply reports a failed call, because `all_granted` returns an
-- error at the first reply that reports one.
use Rattle.std.proofs.Common.{◌≡◌, None, sym, ◌∙◌, ap, rules}
use Rattle.std.proofs.lemmas.List.{get_or_default}
use Rattle.std.proofs.lemmas.List.Elements.{All-from_all_within, AllWithin-more, AllWithin-upto}
use Rattle.thin_runner.specs.Replies.{IsGranted, refusal_of}
use Rattle.thin_examples.proofs.commands.all_granted.Goals as goal

pub loop-reply-preserved : goal.loop-reply-preserved
loop-reply-preserved g c =
    let i = c.loop-reply.reply-index in
    let n = c.in_default.not-Some in let m = c.in_default.is in
    let none : c.refusal.result ≡ None = search rules in
    AllWithin-more IsGranted c.args.replies.now 0 i c.loop-reply.invariant
    (λ d. ap refusal_of (get_or_default c.args.replies.now i d c.reply-item.result c.loop-reply-test.true
    ∙ sym c.reply-item.is) ∙ (sym c.refusal.ensures.value ∙ none))

pub returns : goal.returns
returns g c =
    let l = c.loop-reply-test.false in
    record {
      granted = All-from_all_within IsGranted c.args.replies.now
          (AllWithin-upto IsGranted c.args.replies.now 0 c.loop-reply.reply-index _ l
          c.loop-reply.invariant);
    }
