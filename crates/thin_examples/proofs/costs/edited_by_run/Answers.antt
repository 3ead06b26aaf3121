-- The run of `edited_by_run` moves at most 14 items if none of its six commands fails.
use Rattle.std.proofs.Common.{◌≡◌, ◌∙◌, ◌+◌, ◌≤◌, ◌++◌, ℕ, List, [], ◌∷◌, All, ap, arith, refl, subst}
use Rattle.std.specs.Prelude.{Vec}
use Rattle.thin_vec.specs.ThinVec.{ListView}
use Rattle.thin_runner.specs.Env.{Env}
use Rattle.thin_runner.specs.Headline.{Headline}
use Rattle.thin_runner.specs.Replies.{IsGranted}
use Rattle.thin_runner.specs.Run.{Runs, run_may_move}
use Rattle.thin_runner.specs.declared.command.Command.{Command}
use Rattle.thin_runner.specs.declared.command.Reply.{Reply}
use Rattle.thin_runner.specs.declared.command.Step.{Step}
use Rattle.thin_examples.proofs.RunLemmas.{ask_even, first, six-moves, six_commands}
use Rattle.thin_examples.proofs.costs.edited_by_run.Goals as goal

-- Suppose that a run of the commands moves at most 14 items if none of them fails, and that no
-- reply in the list `seen` reports a failed call. Then the run moved at most 14 items.
moved : {A G J : Type 0} (here : Env ℕ A J) (old new : ListView ℕ A)
    (commands : List (Command ℕ A G)) (before after seen : List (Reply ℕ A G)) → before ≡ []
    → seen ≡ after → Headline here old commands before after new
    → ((replies : List (Reply ℕ A G)) (run : Runs here old commands replies new)
    → All IsGranted replies → run_may_move here old new commands replies run ≤ 14)
    → All IsGranted seen → new.cost.moves ≤ old.cost.moves + 14
moved here old new commands before after seen none same h few granted =
    let all : seen ≡ h.replies = same ∙ (h.appended ∙ ap (λ l. l ++ h.replies) none) in
    omega (arith, h.moves, few h.replies h.allowed (subst (All IsGranted) all granted))

-- The run of the six commands moved at most 14 items, if none of them failed.
six-moved : {A G J : Type 0} (here : Env ℕ A J) (old new : ListView ℕ A) (six nine seven : Vec ℕ A)
    (front no_steps : Vec Step A) (commands : List (Command ℕ A G))
    (before after seen : List (Reply ℕ A G)) → before ≡ [] → seen ≡ after
    → Headline here old commands before after new
    → commands ≡ six_commands here six nine seven front no_steps → old.items ≡ []
    → six.items ≡ first → nine.items ≡ 9 ∷ [] → here.model.take ≡ ask_even
    → All IsGranted seen → new.cost.moves ≤ old.cost.moves + 14
six-moved here old new six nine seven front no_steps commands before after seen empty same h is e
    six_items nine_items even granted =
    moved here old new commands before after seen empty same h
    (λ replies run ok. six-moves here six nine seven front no_steps old new commands replies run
    is e six_items nine_items even ok)
    granted

next : {X : Type 0} {old new before : List X} (x : X) → new ≡ old ++ x ∷ [] → old ≡ before
    → new ≡ before ++ x ∷ []
next x added same = added ∙ ap (λ l. l ++ x ∷ []) same

pub returns : goal.returns
returns g c =
    record {
      fourteen_moves = six-moved _ c.args.list.now c.run.new.list c.in_ok-six.six
          c.in_ok-nine.nine c.in_ok-seven.seven c.in_ok-front.front c.new-no_steps.result
          c.add-6.new.items.items c.new-replies.result.items c.run.new.replies.items
          c.as_slice.result.now c.new-replies.ensures.items c.as_slice.ensures.value
          c.in_ok-run.ensures.ok
          (next _ c.in_ok-add-6.ensures.items (next _ c.in_ok-add-5.ensures.items
          (next _ c.in_ok-add-4.ensures.items (next _ c.in_ok-add-3.ensures.items
          (next _ c.in_ok-add-2.ensures.items (next _ c.in_ok-add.ensures.items
          c.new-commands.ensures.items))))))
          c.requires.empty c.in_ok-six.ensures.items c.in_ok-nine.ensures.items refl
          c.in_ok-all_granted.ensures.granted;
    }
