-- What all commands of a run share: the properties of the item type, the judge, the growth rule,
-- and the allocator.
use Rattle.std.specs.Prelude.{Bool}
use Rattle.std.specs.Borrow.{RattleType}
use Rattle.thin_vec.specs.Growth.{GrowthRule}
use Rattle.thin_runner.specs.Judge.{CallbackModel}

-- The environment of a command, for items `T`, allocators `A` and judges `J`.
pub record Env (T A J : Type 0) : Type 1 where
  -- `clones x y` holds if `y` may be a clone of `x`. `infallible x` holds if cloning `x` cannot
  -- fail. `eq x y` is the result of `x == y`.
  pub clones : T → T → Type 0
  pub infallible : T → Type 0
  pub eq : T → T → Bool
  -- `model` contains the functions that describe the decisions of the judge. `rule` is the growth
  -- rule. `R` is the type of the items, with its size and alignment.
  pub model : CallbackModel T J
  pub rule : GrowthRule
  pub R : RattleType
  -- `alloc` is the allocator for the lists and vectors that commands make. `judge` is the judge
  -- that was passed to `run` or `step`. Each command that uses a judge starts with a copy of this
  -- judge.
  pub alloc : A
  pub judge : J

-- `env` makes an `Env` from the values of its fields.
abbrev pub env : {T A J : Type 0} → (T → T → Type 0) → (T → Type 0) → (T → T → Bool)
    → CallbackModel T J → GrowthRule → RattleType → A → J → Env T A J
env clones infallible eq model rule R alloc judge =
    record {
      clones = clones;
      infallible = infallible;
      eq = eq;
      model = model;
      rule = rule;
      R = R;
      alloc = alloc;
      judge = judge;
    }
