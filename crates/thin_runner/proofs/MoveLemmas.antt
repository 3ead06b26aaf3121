-- A command adds at most `may_move` moves to the cost of a list, and a run at most `run_may_move`.
use Rattle.std.proofs.Common.{Bool, true, false, ◌≡◌, ℕ, ◌+◌, ◌-◌, ◌==◌, ◌<◌, ◌≤◌, List, [], ◌∷◌, ◌++◌, Option, Some, None, length, arith, ap, refl, inl, inr}
use Rattle.std.proofs.lemmas.List.{length-append, length-replicate}
use Rattle.std.specs.Prelude.{◌*◌, ◌⊎◌, drop, take, HoldsAt, replicate, if◌then◌else◌}
use Rattle.std.specs.Borrow.{RattleType}
use Rattle.std.specs.Option.{option_to_list}
use Rattle.thin_vec.specs.Cost.{add_realloc, no_cost}
use Rattle.thin_vec.specs.Growth.{GrowthRule}
use Rattle.thin_vec.specs.ThinVec.{ListView, cost_shrunk}
use Rattle.thin_vec.proofs.GrowthLemmas.{cost_after_resize-moves}
use Rattle.thin_runner.specs.Env.{Env}
use Rattle.thin_runner.specs.Steps.{Steps}
use Rattle.thin_runner.specs.commands.Items.{ReservesAndSets, set_capacity, set_items}
use Rattle.thin_runner.specs.commands.Many.{RefusesClone}
use Rattle.thin_runner.specs.commands.Splices.{Replaces, StopsBetween}
use Rattle.thin_runner.specs.declared.hinted.Hinted.{Hinted}
use Rattle.thin_vec.specs.declared.ThinVecError.{ThinVecError}
use Rattle.thin_runner.specs.Hinted.{hinted_items}
use Rattle.thin_runner.specs.Run.{Runs, may_move, run_may_move}
use Rattle.thin_runner.specs.declared.command.Command.{Command}
use Rattle.thin_runner.specs.declared.command.Command.TheVariants.{Push, Pop, Insert, Remove, SwapRemove, Set, Truncate, Clear, Reserve, ReserveExact, ShrinkToFit, Resize, ExtendFromSlice, Extend, Append, SplitOff, Clone, Retain, RetainMut, Dedup, DedupBy, DedupByKey, Drain, ExtractIf, Splice}
use Rattle.thin_runner.specs.declared.command.Reply.{Reply}
use Rattle.thin_runner.specs.declared.command.Reply.TheVariants.{Answers, Done, Item, List as Made, Other, Returned, Refused, Stopped, OutOfRange}

few-repeats : {T : Type 0} (k : ℕ) (x : T) → length (replicate (k - 1) x) ≤ k
few-repeats k x = omega (arith, length-replicate (k - 1) x)

module _ {T A : Type 0} (v w : ListView T A) where
  same-moves : (u : ListView T A) (k : ℕ) → w ≡ u → u.cost.moves ≡ v.cost.moves
      → w.cost.moves ≤ v.cost.moves + k
  same-moves u k e same = omega (arith, ap (λ z. z.cost.moves) e, same)

  set_items-moves : (xs : List T) (m : ℕ) → w ≡ set_items v xs m → w.cost.moves ≤ v.cost.moves + m
  set_items-moves xs m e = omega (arith, ap (λ z. z.cost.moves) e)

  grown-moves : (xs : List T) (m : ℕ) → w ≡ set_items (set_capacity v w.capacity) xs m
      → w.cost.moves ≤ v.cost.moves + m
  grown-moves xs m e = omega (arith, ap (λ z. z.cost.moves) e, cost_after_resize-moves v w.capacity)

  module _ (rule : GrowthRule) (R : RattleType) (a b : ℕ) where
    spliced-moves : (placed : List T) (most k : ℕ) → Replaces rule R v a b placed most w
        → length placed ≤ k → w.cost.moves ≤ v.cost.moves + (2 * (length v.items - b) + k)
    spliced-moves placed most k f few =
        omega (
          arith,
          f.cost.moves,
          ap length f.items,
          length-append (take a v.items ++ placed) (drop b v.items),
          length-append (take a v.items) placed,
          length-append (take a v.items) (drop b v.items),
          few,
        )

    stopped-moves : (xs held : List T) (lower : ℕ) (cause : ThinVecError) (in_hand : Option T)
        (rest : Hinted T A) → StopsBetween rule R v a b xs held lower cause in_hand rest w
        → w.cost.moves ≤ v.cost.moves + (2 * (length v.items - b)
        + (length xs - length (held ++ (option_to_list in_hand ++ hinted_items rest))))
    stopped-moves xs held lower cause in_hand rest s =
        let others = held ++ (option_to_list in_hand ++ hinted_items rest) in
        spliced-moves s.placed (lower + length xs) (length xs - length others) s.filled
        (omega (arith, ap length s.all, length-append s.placed others))

shrunk-moves : {T A : Type 0} (v : ListView T A) → (cost_shrunk v).moves ≤ v.cost.moves
shrunk-moves v = go (length v.items == v.capacity) (length v.items == 0)
  where
    go : (full none : Bool) → (if full then v.cost else
        (if none then no_cost else add_realloc (length v.items) v.cost)).moves ≤ v.cost.moves
    go true _ = omega arith
    go false true = omega arith
    go false false = omega arith

module _ {T A J : Type 0} (here : Env T A J) (v w : ListView T A) where
  refused-moves : (k : ℕ) (sources : List T) (cause : ThinVecError) → length sources ≤ k
      → RefusesClone here v k sources cause w → w.cost.moves ≤ v.cost.moves + k
  refused-moves k sources cause few r = stopped r.2
    where
      stopped : (w ≡ v) ⊎ ((at : ℕ) × (at < length sources)
          × HoldsAt (λ x. ¬ (here.infallible x)) sources at × ReservesAndSets here v k v.items at w)
          → w.cost.moves ≤ v.cost.moves + k
      stopped (inl e) = same-moves v w v k e refl
      stopped (inr s) = omega (arith, few, s.1, grown-moves v w v.items s.0 s.3.1)

module _ {T A G J : Type 0} (here : Env T A J) where
  pub step-moves : (v w : ListView T A) (command : Command T A G) (reply : Reply T A G)
      → Steps here v command reply w
      → w.cost.moves ≤ v.cost.moves + may_move here v.items command reply
  step-moves v w command (OutOfRange back) s = same-moves v w v 0 s.2 refl
  step-moves v w (Push x) Done s = grown-moves v w _ 1 s.1.1
  step-moves v w (Push x) (Returned y cause) s = same-moves v w v 0 s.1.1.2 refl
  step-moves v w Pop (Item o) s = same-moves v w _ 0 s.1.2 refl
  step-moves v w (Insert i x) Done s = grown-moves v w _ _ s.1.1
  step-moves v w (Insert i x) (Returned y cause) s = same-moves v w v 0 s.1.1.2 refl
  step-moves v w (Remove i) (Item (Some x)) s = set_items-moves v w _ _ s.1.1
  step-moves v w (SwapRemove i) (Item (Some x)) s = set_items-moves v w _ _ s.1.1
  step-moves v w (Set i x) (Item (Some y)) s = same-moves v w _ 0 s.1.1 refl
  step-moves v w (Truncate k) Done s = same-moves v w _ 0 s.1 refl
  step-moves v w Clear Done s = same-moves v w _ 0 s.1 refl
  step-moves v w (Reserve k) Done s =
      same-moves v w _ 0 s.1.1 (cost_after_resize-moves v w.capacity)
  step-moves v w (Reserve k) (Refused cause) s = same-moves v w v 0 s.1.2 refl
  step-moves v w (ReserveExact k) Done s =
      same-moves v w _ 0 s.1.1 (cost_after_resize-moves v w.capacity)
  step-moves v w (ReserveExact k) (Refused cause) s = same-moves v w v 0 s.1.2 refl
  step-moves v w ShrinkToFit Done s =
      omega (arith, ap (λ z. z.cost.moves) s.1, shrunk-moves v)
  step-moves v w ShrinkToFit (Refused cause) s = same-moves v w v 0 s.1.3 refl
  step-moves v w (Resize k x) Done s = grown-moves v w _ _ s.1.1.1
  step-moves v w (Resize k x) (Refused cause) s =
      let more = k - length v.items in
      refused-moves here v w more _ cause (few-repeats more x) s.1.1
  step-moves v w (ExtendFromSlice xs) Done s = grown-moves v w _ _ s.1.1.1
  step-moves v w (ExtendFromSlice xs) (Refused cause) s =
      refused-moves here v w (length xs.items) xs.items cause (omega arith) s.1.1
  step-moves v w (Extend xs lower) Done s =
      let end = length v.items in
      let most = lower + length xs.items in
      let few = spliced-moves v w here.rule here.R end end xs.items most (length xs.items) s.1 in
      omega (arith, few (omega arith))
  step-moves v w (Extend xs lower) (Stopped answers cause held in_hand rest) s =
      let end = length v.items in
      let few = stopped-moves v w here.rule here.R end end xs.items held.items lower cause in_hand
      in
      omega (arith, few rest s.1.1)
  step-moves v w (Append given) (Other back None) s = grown-moves v w _ _ s.1.1.1
  step-moves v w (Append given) (Other back (Some cause)) s = same-moves v w v 0 s.1.1.2 refl
  step-moves v w (SplitOff i) (Made out) s = same-moves v w _ 0 s.1.1 refl
  step-moves v w (SplitOff i) (Refused cause) s = same-moves v w v 0 s.1.2 refl
  step-moves v w Clone (Made copy) s = same-moves v w v 0 s.1.2 refl
  step-moves v w Clone (Refused cause) s = same-moves v w v 0 s.1.2 refl
  step-moves v w Retain Done s = set_items-moves v w _ _ s.1
  step-moves v w RetainMut Done s = set_items-moves v w _ _ s.1
  step-moves v w Dedup Done s = set_items-moves v w _ _ s.1
  step-moves v w DedupBy Done s = set_items-moves v w _ _ s.1
  step-moves v w DedupByKey Done s = set_items-moves v w _ _ s.1
  step-moves v w (Drain a b steps) (Answers answers) s = set_items-moves v w _ _ s.1.1
  step-moves v w (Drain a b steps) (Refused cause) s = same-moves v w v 0 s.1.2 refl
  step-moves v w (ExtractIf a b k) (Answers answers) s = set_items-moves v w _ _ s.1.1
  step-moves v w (ExtractIf a b k) (Refused cause) s = same-moves v w v 0 s.1.2 refl
  step-moves v w (Splice a b steps xs lower) (Answers answers) s =
      let most = lower + length xs.items in
      let few = spliced-moves v w here.rule here.R a b xs.items most (length xs.items) s.1.1 in
      omega (arith, few (omega arith))
  step-moves v w (Splice a b steps xs lower) (Stopped answers cause held in_hand rest) s =
      stopped-moves v w here.rule here.R a b xs.items held.items lower cause in_hand rest s.1.1
  step-moves v w (Splice a b steps xs lower) (Refused cause) s = same-moves v w v 0 s.1.2 refl
  step-moves v w command reply s = absurd s.1

  pub runs-moves : (v w : ListView T A) (commands : List (Command T A G))
      (replies : List (Reply T A G)) (run : Runs here v commands replies w)
      → w.cost.moves ≤ v.cost.moves + run_may_move here v w commands replies run
  runs-moves v w [] [] run = omega (arith, ap (λ z. z.cost.moves) run)
  runs-moves v w (c ∷ commands) (r ∷ replies) run =
      let rest = runs-moves run.0 w commands replies run.1.1 in
      omega (arith, step-moves v run.0 c r run.1.0, rest)
  runs-moves v w commands replies run = absurd run
