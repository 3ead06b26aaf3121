-- A judge makes the decisions of the closure that a method such as `retain` calls. This file
-- defines what a `DivisorJudge` decides for each item, and what it writes to the items.
use Rattle.std.specs.Prelude.{ℕ, Bool, ◌+◌, ◌/◌, ◌%◌, ◌^◌, ◌==◌}
use Rattle.thin_runner.specs.Judge.{CallbackModel}
use Rattle.programs.specs.declared.replay.divisor_judge.DivisorJudge.{DivisorJudge}

-- `number_for judge x` is the number that the judge computes for the item `x`. To make a decision,
-- the judge divides this number by its divisor.
abbrev pub number_for : DivisorJudge → ℕ → ℕ
number_for judge x = (x + judge.offset) % 2 ^ 64

-- `counted judge` is the state of `judge` after one more decision.
abbrev pub counted : DivisorJudge → DivisorJudge
counted judge = record judge { offset = (judge.offset + judge.stride) % 2 ^ 64 }

-- `written judge x` is the value that the judge writes to an item whose value was `x`.
abbrev pub written : DivisorJudge → ℕ → ℕ
written judge x = (x + judge.added) % 2 ^ 64

-- `chooses judge x` says whether the judge chooses the item `x`. It is true if and only if the
-- number `number_for judge x` is divisible by the divisor of the judge.
abbrev pub chooses : DivisorJudge → ℕ → Bool
chooses judge x = number_for judge x % judge.divisor == 0

-- `model` specifies the methods of a `DivisorJudge`: what each method returns, what it writes to
-- the items, and how it changes the judge.
abbrev pub model : CallbackModel ℕ DivisorJudge
model = record {
  look = λ judge x. (chooses judge x, counted judge);
  keep = λ judge x. (chooses judge x, written judge x, counted judge);
  same = λ judge later kept. (
    number_for judge later % judge.divisor == kept % judge.divisor,
    written judge later,
    written judge kept,
    counted judge,
  );
  key = λ judge x. (number_for judge x / judge.divisor, written judge x, counted judge);
  take = λ judge x. (chooses judge x, written judge x, counted judge);
}
