-- Every run that is possible with a relation of clones is possible with any weaker relation, and,
-- if no command clones, with any relation.
use Rattle.std.proofs.Common.{◌≡◌, ◌⊎◌, ℕ, List, [], ◌∷◌, All, inl, inr}
use Rattle.std.proofs.Math.Logic.{⊎_map}
use Rattle.std.proofs.lemmas.List.Elements.{All-head, All-tail}
use Rattle.std.specs.List.{AllZip}
use Rattle.thin_vec.specs.List.Clones.{ClonesEqual, IsResized}
use Rattle.thin_vec.specs.ThinVec.{ListView}
use Rattle.thin_runner.specs.Env.{Env}
use Rattle.thin_runner.specs.Run.{MakesNoClone, Runs}
use Rattle.thin_runner.specs.Steps.{Steps}
use Rattle.thin_runner.specs.declared.command.Command.{Command}
use Rattle.thin_runner.specs.declared.command.Command.TheVariants.{Resize, ExtendFromSlice, Clone}
use Rattle.thin_runner.specs.declared.command.Reply.{Reply}
use Rattle.thin_runner.specs.declared.command.Reply.TheVariants.{Done, List as Made}

module _ {T : Type 0} (clones like : T → T → Type 0) where
  -- Every pair that `clones` relates is one that `like` relates.
  abbrev pub IsWeaker : Type 0
  IsWeaker = (x y : T) → clones x y → like x y

module _ {T : Type 0} (clones like : T → T → Type 0) (weaker : IsWeaker clones like) where
  pub zip-weaker : (xs ys : List T) → AllZip clones xs ys → AllZip like xs ys
  zip-weaker [] [] z = tt
  zip-weaker (x ∷ xs) (y ∷ ys) z = (weaker x y z.0, zip-weaker xs ys z.1)
  zip-weaker xs ys z = absurd z

  resized-weaker : (xs ys : List T) (n : ℕ) (x : T) → IsResized clones xs n x ys
      → IsResized like xs n x ys
  resized-weaker xs ys n x r = record {
    shorter = r.shorter;
    longer = λ more. let l = r.longer more in (l.0, λ k d below. weaker x _ (l.1 k d below), l.2);
    len = r.len;
  }

-- A command that clones needs the second part of a condition on clones.
pub needed : {P : Type 0} → ⊥ ⊎ P → P
needed (inl none) = absurd none
needed (inr p) = p

-- The first command and the others meet the condition that all commands meet.
module _ {T A G : Type 0} {P : Type 0} (command : Command T A G) (others : List (Command T A G))
    (condition : All MakesNoClone (command ∷ others) ⊎ P) where
  pub first-meets : MakesNoClone command ⊎ P
  first-meets = ⊎_map (All-head MakesNoClone command others) (λ p. p) condition

  pub others-meet : All MakesNoClone others ⊎ P
  others-meet = ⊎_map (All-tail MakesNoClone command others) (λ p. p) condition

module _ {T A G J : Type 0} (here : Env T A J) (like : T → T → Type 0) where
  step-weaker : (old new : ListView T A) (command : Command T A G) (reply : Reply T A G)
      → MakesNoClone command ⊎ IsWeaker here.clones like → Steps here old command reply new
      → Steps (record here { clones = like }) old command reply new
  step-weaker old new (Resize k v) Done weaker s =
      let items =
      resized-weaker here.clones like (needed weaker) old.items new.items k v s.1.0 in
      (s.0, (items, s.1.1))
  step-weaker old new (ExtendFromSlice xs) Done weaker s =
      let a = s.1.0 in
      let clones = zip-weaker here.clones like (needed weaker) xs.items a.0 a.2 in
      (s.0, ((a.0, a.1, clones), s.1.1))
  step-weaker old new Clone (Made copy) weaker s =
      let clones = zip-weaker here.clones like (needed weaker) old.items copy.items s.1.0 in
      (s.0, (clones, s.1.1, s.1.2))
  step-weaker old new command reply weaker s = s

  pub run-weaker : (old new : ListView T A) (commands : List (Command T A G))
      (replies : List (Reply T A G)) → All MakesNoClone commands ⊎ IsWeaker here.clones like
      → Runs here old commands replies new
      → Runs (record here { clones = like }) old commands replies new
  run-weaker old new [] [] weaker run = run
  run-weaker old new (c ∷ commands) (r ∷ replies) weaker run =
      let first = step-weaker old run.0 c r (first-meets c commands weaker) run.1.0 in
      let rest =
      run-weaker run.0 new commands replies (others-meet c commands weaker) run.1.1 in
      (run.0, (first, rest))
  run-weaker old new commands replies weaker run = absurd run

module _ {T A G J : Type 0} (here : Env T A J) where
  pub run-equal : (old new : ListView T A) (commands : List (Command T A G))
      (replies : List (Reply T A G)) → All MakesNoClone commands ⊎ ClonesEqual here.clones
      → Runs here old commands replies new
      → Runs (record here { clones = λ x y. y ≡ x }) old commands replies new
  run-equal = run-weaker here (λ x y. y ≡ x)
