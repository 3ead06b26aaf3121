-- The main theorem, from the lemmas of the other files.
use Rattle.std.proofs.Common.{◌≡◌, List, [], ◌++◌, ap, sym, subst, ◌∙◌}
use Rattle.std.proofs.lemmas.List.{append-nil}
use Rattle.thin_vec.specs.Growth.{IsLawful}
use Rattle.thin_vec.specs.ThinVec.{IsBounded, ListView}
use Rattle.thin_runner.specs.Env.{Env}
use Rattle.thin_runner.specs.Headline.{Headline}
use Rattle.thin_runner.specs.Run.{Runs, successful_pushes}
use Rattle.thin_runner.specs.declared.command.Command.{Command}
use Rattle.thin_runner.specs.declared.command.Reply.{Reply}
use Rattle.thin_runner.proofs.AmortizedLemmas.{copied-run, new-amortized, runs-amortized}
use Rattle.thin_runner.proofs.MoveLemmas.{runs-moves}
use Rattle.thin_runner.proofs.PaidLemmas.{runs-paid}
use Rattle.thin_runner.proofs.PlainLemmas.{run-plain}
use Rattle.thin_runner.proofs.RunLemmas.{HasRun}
use Rattle.thin_runner.proofs.SlackLemmas.{runs-slack}

module _ {T A G J : Type 0} (here : Env T A J) (law : IsLawful here.rule) where
  module _ {old new : ListView T A} where
    pub headline : {commands left : List (Command T A G)} {before after : List (Reply T A G)}
        → IsBounded here.R old → IsBounded here.R new → left ≡ []
        → HasRun here old commands left before after new
        → Headline here old commands before after new
    headline {commands} was within none h =
        let replies = h.replies in
        let all : commands ≡ h.done = h.split ∙ (ap (λ l. h.done ++ l) none ∙ append-nil h.done) in
        let run : Runs here old commands replies new =
        subst (λ c. Runs here old c replies new) (sym all) h.ran in
        record {
          replies = replies;
          appended = h.appended;
          plain = λ equal ok. run-plain here old new commands replies equal ok run;
          allowed = run;
          within = within;
          stays_cheap = λ only.
              (runs-paid here law old new commands replies only was.room run).cheap;
          copied = λ only.
              (runs-paid here law old new commands replies only was.room run).copied;
          amortised = λ only is_new some.
              let none = new-amortized old is_new in
              copied-run new (successful_pushes commands replies)
              (runs-amortized here law old new commands replies only none run) some;
          slack = λ doubles only.
              runs-slack here law doubles old new commands replies only run;
          moves = runs-moves here old new commands replies run;
        }
