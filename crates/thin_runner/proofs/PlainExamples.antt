-- The items and the replies that `items_after` and `reply_to` compute for eight commands.
use Rattle.std.proofs.Common.{◌≡◌, ℕ, List, [], ◌∷◌, Some, refl}
use Rattle.std.specs.List.{fold, scan}
use Rattle.thin_runner.specs.Env.{Env}
use Rattle.thin_runner.specs.Plain.{items_after, reply_to, says}
use Rattle.thin_runner.specs.declared.command.Command.{Command}
use Rattle.thin_runner.specs.declared.command.Command.TheVariants.{Push, Pop, Insert, SwapRemove, Set, Resize}
use Rattle.thin_runner.specs.declared.command.Reply.TheVariants.{Done, Item, OutOfRange}

module _ {A J : Type 0} (G : Type 0) (here : Env ℕ A J) where
  -- `Set 9 5` is out of range, because the list then has fewer than ten items.
  abbrev eight : List (Command ℕ A G)
  eight =
      Push 1 ∷ Push 2 ∷ Push 3 ∷ Insert 0 4 ∷ SwapRemove 1 ∷ Set 9 5 ∷ Pop ∷ Resize 4 7 ∷ []

  pub eight-leave : fold (items_after here) [] eight ≡ 4 ∷ 3 ∷ 7 ∷ 7 ∷ []
  eight-leave = refl

  pub eight-reply : scan (items_after here) (reply_to here) [] eight
      ≡ says Done ∷ says Done ∷ says Done ∷ says Done ∷ says (Item (Some 1))
      ∷ says (OutOfRange (Set 9 5)) ∷ says (Item (Some 2)) ∷ says Done ∷ []
  eight-reply = refl
