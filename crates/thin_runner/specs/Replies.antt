-- These definitions take a reply, and state whether the call failed, why it failed, and which items
-- it returns because of this.
use Rattle.std.specs.Prelude.{◌≡◌, List, [], ◌++◌, None, Option, Some}
use Rattle.std.specs.Option.{option_to_list}
use Rattle.thin_vec.specs.declared.ThinVecError.{ThinVecError}
use Rattle.thin_runner.specs.Hinted.{hinted_items}
use Rattle.thin_runner.specs.declared.command.Reply.{Reply}
use Rattle.thin_runner.specs.declared.command.Reply.TheVariants.{Other, Returned, Refused, Stopped}

module _ {T A G : Type 0} where
  -- `refusal_of reply` is the cause of the failure if the call failed, and `None` if the call
  -- succeeded. If the command was out of bounds, no call was made, and `refusal_of reply` is also
  -- `None`.
  abbrev pub refusal_of : Reply T A G → Option ThinVecError
  refusal_of (Other back refused) = refused
  refusal_of (Returned v cause) = Some cause
  refusal_of (Refused cause) = Some cause
  refusal_of (Stopped answers cause held in_hand rest) = Some cause
  refusal_of reply = None

  -- `IsGranted reply` holds if no call failed. This means that the command either succeeded, or was
  -- not carried out because its index or range was out of bounds.
  abbrev pub IsGranted : Reply T A G → Type 0
  IsGranted reply = refusal_of reply ≡ None

  -- `not_placed reply` is the list of the items that an `Extend` or a `Splice` was given, but did
  -- not put into the list, in order. It is empty unless the call failed.
  abbrev pub not_placed : Reply T A G → List T
  not_placed (Stopped answers cause held in_hand rest) =
      held.items ++ (option_to_list in_hand ++ hinted_items rest)
  not_placed reply = []
