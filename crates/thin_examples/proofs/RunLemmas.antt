-- If none of the six commands of `edited_by_run` fails, they move at most 14 items: `Extend` moves
-- six, `Splice` seven, and `ExtractIf` one.
use Rattle.std.proofs.Common.{◌≡◌, ◌∙◌, ℕ, ◌+◌, ◌==◌, ◌≤◌, List, [], ◌∷◌, ◌++◌, All, Bool, Some, None, length, arith, ap, subst, sym, take, drop}
use Rattle.std.proofs.lemmas.List.Elements.{All-head, All-tail}
use Rattle.std.specs.Prelude.{◌%◌, Vec, slice_range}
use Rattle.thin_vec.specs.Edits.Retain.{flags_of, moves_of_retain}
use Rattle.thin_vec.specs.ThinVec.{ListView}
use Rattle.thin_runner.specs.Env.{Env}
use Rattle.thin_runner.specs.Replies.{IsGranted}
use Rattle.thin_runner.specs.Run.{Runs, may_move, run_may_move}
use Rattle.thin_runner.specs.Steps.{Steps}
use Rattle.thin_runner.specs.commands.Filters.{extract_results, keep_outside}
use Rattle.thin_runner.specs.declared.command.Command.{Command}
use Rattle.thin_runner.specs.declared.command.Command.TheVariants.{Pop, Extend, SplitOff, ExtractIf, Splice}
use Rattle.thin_runner.specs.declared.command.Reply.{Reply}
use Rattle.thin_runner.specs.declared.command.Reply.TheVariants.{Answers, Done, Refused, Stopped, OutOfRange}
use Rattle.thin_runner.specs.declared.command.Step.{Step}

refused : {X B : Type 0} (x : X) → Some x ≡ None → B
refused x e = cc

-- `ask_even` describes a judge that takes even items.
abbrev pub ask_even : {J : Type 0} → J → ℕ → Bool × ℕ × J
ask_even j x = (x % 2 == 0, x, j)

-- The items after the commands: `first` after `Extend`, and `second` after `Splice`.
abbrev pub first : List ℕ
first = 1 ∷ 2 ∷ 3 ∷ 4 ∷ 5 ∷ 6 ∷ []

abbrev second : List ℕ
second = 1 ∷ 9 ∷ 4 ∷ 5 ∷ 6 ∷ []

module _ {A G J : Type 0} (here : Env ℕ A J) where
  extends : (v w : ListView ℕ A) (ys : Vec ℕ A) (reply : Reply ℕ A G) → v.items ≡ []
      → ys.items ≡ first → IsGranted reply → Steps here v (Extend ys 6) reply w
      → (may_move here v.items (Extend ys 6) reply ≤ 6) × (w.items ≡ first)
  extends v w ys Done e ye ok s = (
    omega (arith, ap length ye),
    s.1.items ∙ (λ j. (take (length (e j)) (e j) ++ ye j) ++ drop (length (e j)) (e j)),
  )
  extends v w ys (Stopped answers cause held in_hand rest) e ye ok s = refused cause ok
  extends v w ys (OutOfRange back) e ye ok s = absurd (s.1 tt)
  extends v w ys reply e ye ok s = absurd s.1

  splices : (v w : ListView ℕ A) (front : Vec Step A) (ys : Vec ℕ A) (reply : Reply ℕ A G)
      → v.items ≡ first → ys.items ≡ 9 ∷ [] → IsGranted reply
      → Steps here v (Splice 1 3 front ys 1) reply w
      → (may_move here v.items (Splice 1 3 front ys 1) reply ≤ 7) × (w.items ≡ second)
  splices v w front ys (Answers answers) e ye ok s = (
    omega (arith, ap length e, ap length ye),
    s.1.1.items ∙ (λ j. (take 1 (e j) ++ ye j) ++ drop 3 (e j)),
  )
  splices v w front ys (Stopped answers cause held in_hand rest) e ye ok s = refused cause ok
  splices v w front ys (Refused cause) e ye ok s = refused cause ok
  splices v w front ys (OutOfRange back) e ye ok s =
      absurd (s.1 (omega arith, omega (arith, ap length e)))
  splices v w front ys reply e ye ok s = absurd s.1

  extracts : (v w : ListView ℕ A) (reply : Reply ℕ A G) → here.model.take ≡ ask_even
      → v.items ≡ second → IsGranted reply → Steps here v (ExtractIf 0 5 2) reply w
      → may_move here v.items (ExtractIf 0 5 2) reply ≤ 1
  extracts v w (Answers answers) even e ok s =
      let moved : (J → ℕ → Bool × ℕ × J) → List ℕ → ℕ =
      λ ask xs. moves_of_retain (flags_of (keep_outside xs 0 5
      (extract_results ask here.judge 2 (slice_range xs 0 5)))) in
      let one : moved here.model.take v.items ≡ 1 = λ j. moved (even j) (e j) in
      omega (arith, one)
  extracts v w (Refused cause) even e ok s = refused cause ok
  extracts v w (OutOfRange back) even e ok s = omega arith
  extracts v w reply even e ok s = absurd s.1

  splits : (v w : ListView ℕ A) (reply : Reply ℕ A G) → IsGranted reply
      → Steps here v (SplitOff 3) reply w → may_move here v.items (SplitOff 3) reply ≤ 0
  splits v w (OutOfRange back) ok s = omega arith
  splits v w reply ok s = omega arith

  -- The range ends before it begins.
  tries : (v w : ListView ℕ A) (front : Vec Step A) (ys : Vec ℕ A) (reply : Reply ℕ A G)
      → IsGranted reply → Steps here v (Splice 2 1 front ys 1) reply w
      → may_move here v.items (Splice 2 1 front ys 1) reply ≤ 0
  tries v w front ys (OutOfRange back) ok s = omega arith
  tries v w front ys reply ok s = omega (arith, s.0.0)

  pops : (v w : ListView ℕ A) (reply : Reply ℕ A G) → IsGranted reply
      → Steps here v Pop reply w → may_move here v.items Pop reply ≤ 0
  pops v w (OutOfRange back) ok s = omega arith
  pops v w reply ok s = omega arith

  -- The moves of a run are those of its first command and those of the others.
  cons-moves : (v w : ListView ℕ A) (c : Command ℕ A G) (cs : List (Command ℕ A G)) (k m : ℕ)
      → ((mid : ListView ℕ A) (reply : Reply ℕ A G) → IsGranted reply → Steps here v c reply mid
      → (may_move here v.items c reply ≤ k)
      × ((replies : List (Reply ℕ A G)) (run : Runs here mid cs replies w)
      → All IsGranted replies → run_may_move here mid w cs replies run ≤ m))
      → (replies : List (Reply ℕ A G)) (run : Runs here v (c ∷ cs) replies w)
      → All IsGranted replies → run_may_move here v w (c ∷ cs) replies run ≤ k + m
  cons-moves v w c cs k m one [] run ok = absurd run
  cons-moves v w c cs k m one (r ∷ replies) run ok =
      let a = one run.0 r (All-head IsGranted r replies ok) run.1.0 in
      omega (arith, a.0, a.1 replies run.1.1 (All-tail IsGranted r replies ok))

  no-moves : (v w : ListView ℕ A) (replies : List (Reply ℕ A G)) (run : Runs here v [] replies w)
      → All IsGranted replies → run_may_move here v w [] replies run ≤ 0
  no-moves v w [] run ok = omega arith
  no-moves v w (r ∷ replies) run ok = absurd run

  module _ (six nine seven : Vec ℕ A) (front no_steps : Vec Step A) where
    abbrev from_fourth : List (Command ℕ A G)
    from_fourth = SplitOff 3 ∷ Splice 2 1 no_steps seven 1 ∷ Pop ∷ []

    abbrev pub six_commands : List (Command ℕ A G)
    six_commands = Extend six 6 ∷ Splice 1 3 front nine 1 ∷ ExtractIf 0 5 2 ∷ from_fourth

    last-moves : (v w : ListView ℕ A) (replies : List (Reply ℕ A G))
        (run : Runs here v from_fourth replies w) → All IsGranted replies
        → run_may_move here v w from_fourth replies run ≤ 0
    last-moves v w =
        cons-moves v w (SplitOff 3) (Splice 2 1 no_steps seven 1 ∷ Pop ∷ []) 0 0
        (λ x r ok s. (
          splits v x r ok s,
          cons-moves x w (Splice 2 1 no_steps seven 1) (Pop ∷ []) 0 0
              (λ y r1 ok1 s1. (
                tries x y no_steps seven r1 ok1 s1,
                cons-moves y w Pop [] 0 0 (λ z r2 ok2 s2. (pops y z r2 ok2 s2, no-moves z w)),
              )),
        ))

    six-run : (v w : ListView ℕ A) (replies : List (Reply ℕ A G))
        (run : Runs here v six_commands replies w) → v.items ≡ [] → six.items ≡ first
        → nine.items ≡ 9 ∷ [] → here.model.take ≡ ask_even → All IsGranted replies
        → run_may_move here v w six_commands replies run ≤ 14
    six-run v w replies run e six_items nine_items even ok =
        cons-moves v w (Extend six 6)
        (Splice 1 3 front nine 1 ∷ ExtractIf 0 5 2 ∷ from_fourth) 6 8
        (λ x r ok1 s. let a = extends v x six r e six_items ok1 s in (
          a.0,
          cons-moves x w (Splice 1 3 front nine 1) (ExtractIf 0 5 2 ∷ from_fourth) 7 1
              (λ y r1 ok2 s1. let b = splices x y front nine r1 a.1 nine_items ok2 s1 in (
                b.0,
                cons-moves y w (ExtractIf 0 5 2) from_fourth 1 0
                    (λ z r2 ok3 s2. (extracts y z r2 even b.1 ok3 s2, last-moves z w)),
              )),
        ))
        replies run ok

    -- The list `commands` consists of the six commands.
    pub six-moves : (v w : ListView ℕ A) (commands : List (Command ℕ A G))
        (replies : List (Reply ℕ A G)) (run : Runs here v commands replies w)
        → commands ≡ six_commands → v.items ≡ [] → six.items ≡ first → nine.items ≡ 9 ∷ []
        → here.model.take ≡ ask_even → All IsGranted replies
        → run_may_move here v w commands replies run ≤ 14
    six-moves v w commands replies run same e six_items nine_items even ok =
        subst (λ cs. (ran : Runs here v cs replies w) → run_may_move here v w cs replies ran ≤ 14)
        (sym same) (λ ran. six-run v w replies ran e six_items nine_items even ok) run
