-- A judge is a value that makes decisions about items. `CallbackModel` describes a judge by one
-- function for each method of the trait `Judge`.
use Rattle.std.specs.Prelude.{ℕ, Bool}

-- `CallbackModel T J` describes a judge. `T` is the item type, and `J` is the type of the judge's
-- state. Each field is a function that describes one method of the judge. It takes the state and
-- one or two items, and returns the decision, the items after the call, and the new state.
--
-- The function `key` returns a key instead of a decision. The function `look` returns no item,
-- because the method `look` cannot write to its item.
pub record CallbackModel (T J : Type 0) : Type 0 where
  pub look : J → T → Bool × J
  pub keep : J → T → Bool × T × J
  pub same : J → T → T → Bool × T × T × J
  pub key : J → T → ℕ × T × J
  pub take : J → T → Bool × T × J
