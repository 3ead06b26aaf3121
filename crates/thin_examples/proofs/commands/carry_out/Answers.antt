-- If `carry_out` succeeds, then no reply reports a failed call, and the new items are the result of
-- a fold over the commands.
use Rattle.std.proofs.Common.{◌≡◌, ◌⊎◌, Result, Ok, Err, List, [], All, OnOk, subst, ◌∙◌, ap, ◌++◌, fold}
use Rattle.thin_vec.specs.List.Clones.{ClonesEqual}
use Rattle.thin_vec.specs.ThinVec.{ListView}
use Rattle.thin_runner.specs.Headline.{Headline}
use Rattle.thin_runner.specs.Plain.{items_after}
use Rattle.thin_runner.specs.Replies.{IsGranted}
use Rattle.thin_runner.specs.Run.{MakesNoClone}
use Rattle.thin_runner.specs.Env.{Env}
use Rattle.thin_runner.specs.declared.command.Command.{Command}
use Rattle.thin_runner.specs.declared.command.Reply.{Reply}
use Rattle.thin_examples.proofs.commands.carry_out.Goals as goal

-- Suppose that the commands turn the list `old` into the list `new`, and that no command clones or
-- every clone equals its original. If `result` is `Ok`, and no reply in the list `seen` reports a
-- failed call, then the items of `new` are `fold (items_after here) old.items commands`.
carried : {T A G J E : Type 0} (here : Env T A J) (old new : ListView T A)
    (commands : List (Command T A G)) (before after seen : List (Reply T A G))
    (result : Result (Unit {0}) E) → All MakesNoClone commands ⊎ ClonesEqual here.clones
    → before ≡ [] → seen ≡ after
    → Headline here old commands before after new → OnOk result (All IsGranted seen)
    → OnOk result (new.items ≡ fold (items_after here) old.items commands)
carried here old new commands before after seen (Ok u) equal none same h granted =
    let all : seen ≡ h.replies = same ∙ (h.appended ∙ ap (λ l. l ++ h.replies) none) in
    (h.plain equal (subst (All IsGranted) all granted)).0
carried here old new commands before after seen (Err e) equal none same h granted = tt

pub returns-in-Ok : goal.returns-in-Ok
returns-in-Ok g c = record {
  items = carried _ c.args.list.now c.run.new.list c.args.commands.items
      c.new-replies.result.items c.run.new.replies.items c.as_slice.result.now
      c.all_granted.result c.requires.clones c.new-replies.ensures.items
      c.as_slice.ensures.value c.in-Ok.ensures.ok c.all_granted.ensures.granted;
}
