-- Lemmas about a run with a single command: it produces exactly one reply, and the main theorem of
-- `thin_runner` (`Headline`) holds for this command and reply.
use Rattle.std.proofs.Common.{◌≡◌, List, [], ◌∷◌, ◌++◌, Option, Some, ap, arith, length, length-append, refl, subst, sym, ◌∙◌}
use Rattle.std.specs.Option.{option_to_list}
use Rattle.thin_vec.specs.ThinVec.{ListView}
use Rattle.thin_runner.specs.Headline.{Headline}
use Rattle.thin_runner.specs.Run.{Runs}
use Rattle.thin_runner.specs.Env.{Env}
use Rattle.thin_runner.specs.declared.command.Command.{Command}
use Rattle.thin_runner.specs.declared.command.Reply.{Reply}

-- If the list `front ++ x ∷ []` has length 1, then it equals `x ∷ []`, because `front` is empty.
alone : {X : Type 0} (front : List X) (x : X) → length (front ++ x ∷ []) ≡ 1
    → front ++ x ∷ [] ≡ x ∷ []
alone [] x one = refl
alone (y ∷ front) x one = absurd (omega (arith, length-append front (x ∷ [])))

-- In this module, a run with the single command `command` turns the list `old` into `new`. The
-- lists `before` and `after` contain the replies before and after the run.
module _ {T A G J : Type 0} (here : Env T A J) (old new : ListView T A)
    (command : Command T A G) (commands : List (Command T A G)) (before after : List (Reply T A G))
    (one : commands ≡ command ∷ []) (none : before ≡ [])
    (headline : Headline here old commands before after new) where
  -- If a run with the single command `command` turns the list `old` into `new` and produces the
  -- replies `replies`, then there is exactly one reply.
  has_one : (replies : List (Reply T A G)) → Runs here old (command ∷ []) replies new
      → length replies ≡ 1
  has_one [] run = absurd run
  has_one (reply ∷ []) run = refl
  has_one (reply ∷ more ∷ replies) run = absurd run.1.1

  -- After the run with a single command, the list `after` contains exactly one reply.
  pub one_reply : length after ≡ 1
  one_reply =
      ap length (headline.appended ∙ ap (λ (l : List (Reply T A G)). l ++ headline.replies) none)
      ∙ has_one headline.replies
      (subst (λ cs. Runs here old cs headline.replies new) one headline.allowed)

  -- If a call to `pop` on the replies `after` returns `Some reply`, then the main theorem
  -- (`Headline`) holds for the run with the single command `command` and the single reply `reply`.
  pub headline-one : (left : List (Reply T A G)) (popped : Option (Reply T A G))
      (reply : Reply T A G) → after ≡ left ++ option_to_list popped → popped ≡ Some reply
      → Headline here old (command ∷ []) [] (reply ∷ []) new
  headline-one left popped reply split is =
      let last : after ≡ left ++ reply ∷ [] = split ∙ ap (λ o. left ++ option_to_list o) is in
      let same : after ≡ reply ∷ [] = last ∙ alone left reply (ap length (sym last) ∙ one_reply) in
      subst (λ cs. Headline here old cs [] (reply ∷ []) new) one
      (subst (λ bs. Headline here old commands bs (reply ∷ []) new) none
      (subst (λ rs. Headline here old commands before rs new) same headline))
