-- None of the three commands clones.
use Rattle.std.proofs.Common.{◌≡◌, [], ◌∷◌, All, inl, rules, subst, sym}
use Rattle.std.proofs.lemmas.List.Elements.{All-from_recursion}
use Rattle.thin_runner.specs.Run.{MakesNoClone}
use Rattle.thin_runner.specs.declared.command.Command.TheVariants.{Push, Pop}
use Rattle.thin_examples.proofs.commands.first_of_two.Goals as goal

pub carry_out-requires : goal.carry_out-requires
carry_out-requires g c =
    let commands : c.add-3.new.items.items ≡ Push c.args.first ∷ Push c.args.second ∷ Pop ∷ [] =
    search rules in
    let three = Push c.args.first ∷ Push c.args.second ∷ Pop ∷ [] in
    record {
      clones = inl (subst (All MakesNoClone) (sym commands)
          (All-from_recursion MakesNoClone three (tt, (tt, (tt, tt)))));
    }
