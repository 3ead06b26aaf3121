-- After pushes and pops on a new list, of which `m ≥ 1` pushes succeed, growth has copied fewer
-- than `2 * m` items.
use Rattle.std.proofs.Common.{◌≡◌, ℕ, zero, suc, ◌+◌, ◌*◌, ◌<◌, ◌≤◌, List, [], ◌∷◌, length, arith, ap, ◌∙◌, refl, subst, inl, inr}
use Rattle.std.proofs.lemmas.Bool.{cases_lt}
use Rattle.std.proofs.lemmas.List.{length-append, length_push}
use Rattle.thin_runner.proofs.RunLemmas.{counted, runs-keep}
use Rattle.std.specs.Prelude.{◌⊎◌, All}
use Rattle.std.specs.Option.{option_to_list}
use Rattle.thin_vec.specs.Cost.{Cost}
use Rattle.thin_vec.specs.Cheap.{IsCheap, IsCheapAt}
use Rattle.thin_vec.specs.Growth.{IsLawful}
use Rattle.thin_vec.specs.ThinVec.{ListView, IsNew, cost_after_resize}
use Rattle.thin_vec.proofs.GrowthLemmas.{cost_after_resize-kept, cost_after_resize-grown}
use Rattle.thin_runner.specs.Env.{Env}
use Rattle.thin_runner.specs.Steps.{Steps}
use Rattle.thin_runner.specs.Run.{IsPushOrPop, Runs, successful_pushes}
use Rattle.thin_runner.specs.declared.command.Command.{Command}
use Rattle.thin_runner.specs.declared.command.Command.TheVariants.{Push, Pop}
use Rattle.thin_runner.specs.declared.command.Reply.{Reply}
use Rattle.thin_runner.specs.declared.command.Reply.TheVariants.{Done, Item, Returned, OutOfRange}
use Rattle.thin_runner.proofs.PaidLemmas.{step-paid}

-- What holds of a list after pushes and pops, of which `m` pushes succeeded.
pub record IsAmortized {T A : Type 0} (m : ℕ) (v : ListView T A) : Type 0 where
  pub cheap : IsCheap v
  pub room : length v.items ≤ v.capacity
  pub items : length v.items ≤ m
  pub copied : (v.cost.grown < 2 * m) ⊎ (v.cost.grown ≡ 0)

module _ {T A : Type 0} where
  new-cheap : (v : ListView T A) → IsNew v v.alloc → IsCheap v
  new-cheap v new =
      let blocks : v.cost.blocks ≡ 0 = ap (λ c. c.blocks) new.cost in
      let grown : v.cost.grown ≡ 0 = ap (λ c. c.grown) new.cost in
      record {
        none = λ _. (blocks, grown);
        grown = λ some. absurd (omega (arith, new.capacity, some));
        blocks = λ some. absurd (omega (arith, new.capacity, some));
      }

  pub new-amortized : (v : ListView T A) → IsNew v v.alloc → IsAmortized 0 v
  new-amortized v new = record {
    cheap = new-cheap v new;
    room = omega (arith, ap length new.items);
    items = omega (arith, ap length new.items);
    copied = inr (ap (λ c. c.grown) new.cost);
  }

  pub copied-run : (w : ListView T A) (m : ℕ) → IsAmortized (0 + m) w → 0 < m → w.cost.grown < 2 * m
  copied-run w m a some = below a.copied
    where
      below : (w.cost.grown < 2 * (0 + m)) ⊎ (w.cost.grown ≡ 0) → w.cost.grown < 2 * m
      below (inl few) = omega (arith, few)
      below (inr none) = omega (arith, none, some)

  same-amortized : (m : ℕ) (v w : ListView T A) → IsAmortized m v → w ≡ v → IsAmortized (m + 0) w
  same-amortized m v w a same = let e : m + 0 ≡ m = omega arith in rw (same, e) a

copied-growing : (c m : ℕ) (k : Cost) → IsCheapAt c k → c ≤ m → k.grown + c < 2 * (m + 1)
copied-growing zero m k h few = let z = h.none refl in omega (arith, z.1)
copied-growing (suc c) m k h few =
    let copied : k.grown < suc c = h.grown (omega arith) in omega (arith, copied, few)

copied-kept : (m more : ℕ) {g g' : ℕ} → (g < 2 * m) ⊎ (g ≡ 0) → g' ≡ g
    → (g' < 2 * (m + more)) ⊎ (g' ≡ 0)
copied-kept m more (inl few) same = inl (omega (arith, few, same))
copied-kept m more (inr none) same = inr (same ∙ none)

module _ {T A G J : Type 0} (here : Env T A J) (law : IsLawful here.rule) where
  step-amortized : (m : ℕ) (v w : ListView T A) (command : Command T A G) (reply : Reply T A G)
      → IsPushOrPop command → IsAmortized m v → Steps here v command reply w
      → IsAmortized (m + successful_pushes (command ∷ []) (reply ∷ [])) w
  step-amortized m v w (Push x) Done only a s =
      let was : length v.items ≤ m = a.items in
      let paid : w.cost.grown ≡ (cost_after_resize v w.capacity).grown =
      ap (λ z. z.cost.grown) s.1.1 in
      let next = s.1.0 in
      let step = step-paid {G = G} here law v w (Push x) Done tt a.room s in
      record {
        cheap = step.cheap a.cheap;
        room = step.room;
        items = omega (arith, ap (λ z. length z.items) s.1.1, length_push v.items x, was);
        copied = elim (cases_lt v.capacity (length v.items + 1)) [
          | inl full ↦
              let one = cost_after_resize-grown here.rule here.R law v 1 w.capacity full next in
              let grown : w.cost.grown ≡ v.cost.grown + length v.items =
              paid ∙ ap (λ c. c.grown) one in
              let few = copied-growing v.capacity m v.cost a.cheap
              (omega (arith, full, was)) in
              inl (omega (arith, grown, few, a.room))
          | inr spare ↦
              let none = cost_after_resize-kept here.rule here.R law v 1 w.capacity spare next in
              copied-kept m 1 a.copied (paid ∙ ap (λ c. c.grown) none)
        ];
      }
  step-amortized m v w Pop (Item o) only a s =
      let was : length v.items ≤ m = a.items in
      let step = step-paid {G = G} here law v w Pop (Item o) tt a.room s in
      record {
        cheap = step.cheap a.cheap;
        room = step.room;
        items = omega (arith, ap length s.1.1, length-append w.items (option_to_list o), was);
        copied = copied-kept m 0 a.copied (ap (λ z. z.cost.grown) s.1.2);
      }
  step-amortized m v w (Push x) (Returned y cause) only a s = same-amortized m v w a s.1.1.2
  step-amortized m v w (Push x) (OutOfRange back) only a s = same-amortized m v w a s.2
  step-amortized m v w Pop (OutOfRange back) only a s = same-amortized m v w a s.2
  step-amortized m v w (Push x) reply only a s = absurd s.1
  step-amortized m v w Pop reply only a s = absurd s.1
  step-amortized m v w command reply only a s = absurd only

  successful_pushes-counted : (commands : List (Command T A G)) (replies : List (Reply T A G))
      → counted (λ c r. successful_pushes (c ∷ []) (r ∷ [])) commands replies
      ≡ successful_pushes commands replies
  successful_pushes-counted (Push x ∷ commands) (Done ∷ replies) =
      omega (arith, successful_pushes-counted commands replies)
  successful_pushes-counted (command ∷ commands) (reply ∷ replies) =
      omega (arith, successful_pushes-counted commands replies)
  successful_pushes-counted commands replies = refl

  pub runs-amortized : (v w : ListView T A) (commands : List (Command T A G))
      (replies : List (Reply T A G)) → All IsPushOrPop commands → IsAmortized 0 v
      → Runs here v commands replies w → IsAmortized (0 + successful_pushes commands replies) w
  runs-amortized v w commands replies only a run =
      subst (λ n. IsAmortized (0 + n) w) (successful_pushes-counted commands replies)
      (runs-keep here IsAmortized IsPushOrPop (λ c r. successful_pushes (c ∷ []) (r ∷ []))
      step-amortized
      0 v w commands replies only a run)
