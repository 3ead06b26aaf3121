-- Replies that `Steps` excludes.
use Rattle.std.proofs.Common.{ℕ, ◌<◌, None, Option, length, refl}
use Rattle.std.specs.Prelude.{Vec}
use Rattle.thin_vec.specs.ThinVec.{HasRoomFor, ListView}
use Rattle.thin_vec.specs.declared.ThinVecError.{ThinVecError}
use Rattle.thin_runner.specs.Env.{Env}
use Rattle.thin_runner.specs.Steps.{Steps}
use Rattle.thin_runner.specs.declared.command.Command.TheVariants.{Splice}
use Rattle.thin_runner.specs.declared.command.Reply.TheVariants.{Stopped}
use Rattle.thin_runner.specs.declared.command.Step.{Step}
use Rattle.thin_runner.specs.declared.hinted.Hinted.{Hinted}

module _ {T A J : Type 0} (G : Type 0) (here : Env T A J) where
  -- A splice does not stop with items in `held`, and none in `in_hand`, if the list has room for
  -- them.
  pub held-without-room : (old new : ListView T A) (a b lower : ℕ) (steps : Vec Step A)
      (items held : Vec T A) (answers : Vec (Option T) A) (cause : ThinVecError)
      (rest : Hinted T A) → 0 < length held.items → HasRoomFor new (length held.items)
      → ¬ (Steps {G = G} here old (Splice a b steps items lower)
      (Stopped answers cause held None rest) new)
  held-without-room old new a b lower steps items held answers cause rest some room stops =
      (stops.1.1.by_held some refl).0 room
