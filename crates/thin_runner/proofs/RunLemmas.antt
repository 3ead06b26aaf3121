-- Runs can be extended by a command and joined, and keep what each command keeps.
use Rattle.std.proofs.Common.{◌≡◌, ℕ, ◌+◌, List, [], ◌∷◌, ◌++◌, append_assoc, ap, arith, refl, subst, sym, ◌∙◌}
use Rattle.std.proofs.lemmas.List.{append-nil}
use Rattle.std.proofs.lemmas.List.Elements.{All-head, All-tail}
use Rattle.std.specs.Prelude.{All}
use Rattle.thin_vec.specs.ThinVec.{ListView}
use Rattle.thin_runner.specs.Steps.{Steps}
use Rattle.thin_runner.specs.Env.{Env}
use Rattle.thin_runner.specs.Run.{Runs}
use Rattle.thin_runner.specs.declared.command.Command.{Command}
use Rattle.thin_runner.specs.declared.command.Reply.{Reply}

module _ {T A G : Type 0} (count : Command T A G → Reply T A G → ℕ) where
  -- The sum of `count command reply` over all commands of a run.
  abbrev pub counted : List (Command T A G) → List (Reply T A G) → ℕ
  counted (command ∷ commands) (reply ∷ replies) = count command reply + counted commands replies
  counted commands replies = 0

module _ {T A G J : Type 0} (here : Env T A J) where
  -- A run of `commands` that need not have ended: those in `left` have not been carried out.
  pub record HasRun (old : ListView T A) (commands left : List (Command T A G))
      (before after : List (Reply T A G)) (new : ListView T A) : Type 0 where
    pub done : List (Command T A G)
    pub replies : List (Reply T A G)
    pub split : commands ≡ done ++ left
    pub appended : after ≡ before ++ replies
    pub ran : Runs here old done replies new

  pub HasRun-none : (old : ListView T A) (commands left : List (Command T A G))
      (before after : List (Reply T A G)) → left ≡ commands → after ≡ before
      → HasRun old commands left before after old
  HasRun-none old commands left before after all same = record {
    done = [];
    replies = [];
    split = sym all;
    appended = same ∙ sym (append-nil before);
    ran = refl;
  }

  pub runs-append : (old mid new : ListView T A) (commands more : List (Command T A G))
      (replies further : List (Reply T A G)) → Runs here old commands replies mid
      → Runs here mid more further new → Runs here old (commands ++ more) (replies ++ further) new
  runs-append old mid new [] more [] further first second =
      subst (λ v. Runs here v more further new) first second
  runs-append old mid new (c ∷ commands) more (r ∷ replies) further first second = (
    first.0,
    (first.1.0, runs-append first.0 mid new commands more replies further first.1.1 second),
  )
  runs-append old mid new commands more replies further first second = absurd first

  module _ (mid new : ListView T A) (command : Command T A G) (reply : Reply T A G)
      (stepped : Steps here mid command reply new) where
    pub HasRun-push : {old : ListView T A} {commands left left' : List (Command T A G)}
        {before after after' : List (Reply T A G)} → HasRun old commands left before after mid
        → left ≡ command ∷ left' → after' ≡ after ++ reply ∷ []
        → HasRun old commands left' before after' new
    HasRun-push {old} {left' = left'} {before} h next pushed =
        record {
          done = h.done ++ command ∷ [];
          replies = h.replies ++ reply ∷ [];
          split = h.split
              ∙ (ap (λ l. h.done ++ l) next ∙ sym (append_assoc h.done (command ∷ []) left'));
          appended = pushed
              ∙ (ap (λ l. l ++ reply ∷ []) h.appended ∙ append_assoc before h.replies (reply ∷ []));
          ran = runs-append old mid new h.done (command ∷ []) h.replies (reply ∷ []) h.ran
              (new, (stepped, refl));
        }

  -- Each command that satisfies `Only` keeps `Holds`, and adds its `count` to the number.
  module _ (Holds : ℕ → ListView T A → Type 0) (Only : Command T A G → Type 0)
      (count : Command T A G → Reply T A G → ℕ)
      (step : (n : ℕ) (v w : ListView T A) (command : Command T A G) (reply : Reply T A G)
      → Only command → Holds n v → Steps here v command reply w
      → Holds (n + count command reply) w) where
    pub runs-keep : (n : ℕ) (v w : ListView T A) (commands : List (Command T A G))
        (replies : List (Reply T A G)) → All Only commands → Holds n v
        → Runs here v commands replies w → Holds (n + counted count commands replies) w
    runs-keep n v w [] [] only h r =
        let e : n ≡ n + 0 = omega arith in
        subst (λ k. Holds k w) e (subst (Holds n) (sym r) h)
    runs-keep n v w (c ∷ commands) (r ∷ replies) only h ran =
        let e : n + count c r + counted count commands replies
        ≡ n + (count c r + counted count commands replies) = omega arith in
        let first = step n v ran.0 c r (All-head Only c commands only) h ran.1.0 in
        subst (λ k. Holds k w) e
        (runs-keep (n + count c r) ran.0 w commands replies (All-tail Only c commands only) first
        ran.1.1)
    runs-keep n v w commands replies only h ran = absurd ran
