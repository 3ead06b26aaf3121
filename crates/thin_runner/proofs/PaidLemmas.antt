-- Without `ReserveExact` and `ShrinkToFit`, a cheap list stays cheap, and growth copies at most as
-- many items as the capacity increases.
use Rattle.std.proofs.Common.{◌≡◌, ℕ, suc, ◌+◌, ◌-◌, ◌^◌, ◌<◌, ◌≤◌, List, [], ◌∷◌, ◌++◌, Some, None, length, arith, ap, sym, subst, ◌∙◌, refl, inl, inr}
use Rattle.std.proofs.lemmas.Bool.{cases_lt}
use Rattle.std.proofs.lemmas.List.{length-append, length-set, length_push, length-drop, length-take}
use Rattle.std.proofs.lemmas.List.Edits.{length-insert}
use Rattle.std.specs.List.{AllZip, AppendsClones, remove_range, swap_remove, slice_index_or}
use Rattle.thin_vec.specs.List.Clones.{IsResized}
use Rattle.thin_runner.specs.commands.Filters.{same_key}
use Rattle.thin_runner.proofs.CallbackExtractLemmas.{few-extracted}
use Rattle.thin_runner.proofs.CallbackLemmas.{few-test_each, few-pairs, looks, tells}
use Rattle.thin_runner.proofs.RunLemmas.{runs-keep}
use Rattle.std.specs.Prelude.{◌⊎◌, All, HoldsAt, drop, remove, slice_set, take}
use Rattle.std.specs.Option.{option_to_list}
use Rattle.thin_vec.specs.Cost.{Cost}
use Rattle.thin_vec.specs.Cheap.{IsCheap, IsCheapAt}
use Rattle.thin_vec.specs.Growth.{IsLawful}
use Rattle.thin_vec.specs.ThinVec.{ListView, capacity_after_reserve, cost_after_resize}
use Rattle.thin_vec.proofs.GrowthLemmas.{cap-kept, cap-grown, cheap-regrown, cost_after_resize-copied}
use Rattle.thin_runner.specs.Env.{Env}
use Rattle.thin_runner.specs.Steps.{Steps}
use Rattle.thin_runner.specs.commands.Items.{ReservesAndSets}
use Rattle.thin_runner.specs.commands.Many.{RefusesClone}
use Rattle.thin_runner.specs.commands.Splices.{Replaces}
use Rattle.thin_vec.specs.declared.ThinVecError.{ThinVecError}
use Rattle.thin_runner.specs.Run.{KeepsCheap, Runs}
use Rattle.thin_runner.specs.declared.command.Command.{Command}
use Rattle.thin_runner.specs.declared.command.Command.TheVariants.{Push, Pop, Insert, Remove, SwapRemove, Set, Truncate, Clear, Reserve, ReserveExact, ShrinkToFit, Resize, ExtendFromSlice, Extend, Append, SplitOff, Clone, Retain, RetainMut, Dedup, DedupBy, DedupByKey, Drain, ExtractIf, Splice}
use Rattle.thin_runner.specs.declared.command.Reply.{Reply}
use Rattle.thin_runner.specs.declared.command.Reply.TheVariants.{Answers, Done, Item, List as Made, Other, Returned, Refused, Stopped, OutOfRange}

-- `IsCheapAt c k` reads only the counters `blocks` and `grown` of `k`.
cheap-same : (c : ℕ) (k k' : Cost) → k'.blocks ≡ k.blocks → k'.grown ≡ k.grown
    → IsCheapAt c k → IsCheapAt c k'
cheap-same c k k' blocks grown h = record {
  none = λ e. let z = h.none e in (omega (arith, blocks, z.0), omega (arith, grown, z.1));
  grown = λ e. omega (arith, grown, h.grown e);
  blocks = λ e.
      let b = h.blocks e in
      let same : 2 ^ k'.blocks ≡ 2 ^ k.blocks = ap (λ n. 2 ^ n) blocks in
      omega (arith, same, b);
}

-- What holds of a call, or of a run, that turned the list `v` into `w`.
pub record IsPaid {T A : Type 0} (v w : ListView T A) : Type 0 where
  pub cheap : IsCheap v → IsCheap w
  pub copied : w.cost.grown + v.capacity ≤ v.cost.grown + w.capacity
  pub room : length w.items ≤ w.capacity

module _ {T A : Type 0} where
  pub none-paid : (v : ListView T A) → length v.items ≤ v.capacity → IsPaid v v
  none-paid v room = record { cheap = λ c. c; copied = omega arith; room = room }

  pub join-paid : {v u w : ListView T A} → IsPaid v u → IsPaid u w → IsPaid v w
  join-paid p q = record {
    cheap = λ c. q.cheap (p.cheap c);
    copied = omega (arith, p.copied, q.copied);
    room = q.room;
  }

module _ {T A : Type 0} (v w : ListView T A) (room : length v.items ≤ v.capacity) where
  same-paid : w ≡ v → IsPaid v w
  same-paid e = subst (IsPaid v) (sym e) (none-paid v room)

  kept-paid : (u : ListView T A) → w ≡ u → u.capacity ≡ v.capacity
      → u.cost.blocks ≡ v.cost.blocks → u.cost.grown ≡ v.cost.grown
      → length u.items ≤ length v.items → IsPaid v w
  kept-paid u e cap blocks copied few =
      subst (IsPaid v) (sym e) (record {
        cheap = λ (was : IsCheapAt v.capacity v.cost).
            subst (λ c. IsCheapAt c u.cost) (sym cap)
            (cheap-same v.capacity v.cost u.cost blocks copied was);
        copied = omega (arith, cap, copied);
        room = omega (arith, room, few, cap);
      })

module _ {T A J : Type 0} (here : Env T A J) (law : IsLawful here.rule) (v w : ListView T A)
    (room : length v.items ≤ v.capacity) where
  -- A call that reserves room for `n` more items and adds at most `n`.
  ruled-paid : (u : ListView T A) (n : ℕ)
      → capacity_after_reserve here.rule here.R v n ≡ Some w.capacity
      → w ≡ u → u.cost.blocks ≡ (cost_after_resize v w.capacity).blocks
      → u.cost.grown ≡ (cost_after_resize v w.capacity).grown
      → length u.items ≤ length v.items + n → IsPaid v w
  ruled-paid u n next e blocks copied few =
      let items : length w.items ≡ length u.items = ap (λ z. length z.items) e in
      let paid : w.cost.grown ≡ (cost_after_resize v w.capacity).grown =
      ap (λ z. z.cost.grown) e ∙ copied in
      record {
        cheap = λ was. cheap-same w.capacity (cost_after_resize v w.capacity) w.cost
            (ap (λ z. z.cost.blocks) e ∙ blocks) paid
            (cheap-regrown here.rule here.R law v n w.capacity was room next);
        copied = omega (
          arith,
          paid,
          cost_after_resize-copied here.rule here.R law v n w.capacity room next,
        );
        room = elim (cases_lt v.capacity (length v.items + n)) [
          | inl full ↦
              let g = cap-grown here.rule here.R law v n w.capacity full next in
              omega (arith, items, few, g.0)
          | inr spare ↦
              let same = cap-kept here.rule here.R law v n w.capacity spare next in
              omega (arith, items, few, same, spare)
        ];
      }

  refused-paid : (n : ℕ) (sources : List T) (cause : ThinVecError)
      → RefusesClone here v n sources cause w → IsPaid v w
  refused-paid n sources cause r = stopped r.2
    where
      stopped : (w ≡ v) ⊎ ((at : ℕ) × (at < length sources)
          × HoldsAt (λ x. ¬ (here.infallible x)) sources at × ReservesAndSets here v n v.items at w)
          → IsPaid v w
      stopped (inl e) = same-paid v w room e
      stopped (inr s) = ruled-paid _ n s.3.0 s.3.1 refl refl (omega arith)

  placed-paid : (a b : ℕ) (placed : List T) (most : ℕ)
      → Replaces here.rule here.R v a b placed most w → IsPaid v w
  placed-paid a b placed most f =
      record { cheap = f.keeps.cheap; copied = f.cost.copied; room = f.keeps.within.1.room }

-- Each lemma of this module bounds the length of a changed list, such as `take k xs`.
module _ {T : Type 0} where
  few-swap_remove : (xs : List T) (i : ℕ) (x : T) → length (swap_remove xs i x) ≤ length xs
  few-swap_remove xs i x =
      let last = slice_index_or xs (length xs - 1) x in
      omega (arith, length-take (length xs - 1) (slice_set xs i last))

  few-drained : (xs : List T) (a b : ℕ) → (a ≤ b) × (b ≤ length xs)
      → length (remove_range xs a b) ≤ length xs
  few-drained xs a b inside =
      let all = length-append (take a xs) (drop b xs) in
      omega (arith, inside.0, inside.1, all, length-take a xs, length-drop b xs)

  few-take : (xs : List T) (k : ℕ) → length (take k xs) ≤ length xs
  few-take xs k = omega (arith, length-take k xs)

  few-remove : (xs : List T) (i : ℕ) → length (remove xs i) ≤ length xs
  few-remove xs i =
      let all = length-append (take i xs) (drop (suc i) xs) in
      omega (arith, all, length-take i xs, length-drop (suc i) xs)

  one-more : (xs : List T) (x : T) → length (xs ++ x ∷ []) ≤ length xs + 1
  one-more xs x = omega (arith, length_push xs x)

  all-more : (xs ys : List T) → length (xs ++ ys) ≤ length xs + length ys
  all-more xs ys = omega (arith, length-append xs ys)

  resized-more : (clones : T → T → Type 0) (xs ys : List T) (k : ℕ) (x : T)
      → IsResized clones xs k x ys → length ys ≤ length xs + (k - length xs)
  resized-more clones xs ys k x r = omega (arith, r.len)

  zipped-more : (clones : T → T → Type 0) (xs ys : List T) → AllZip clones xs ys
      → length ys ≡ length xs
  zipped-more clones [] [] z = refl
  zipped-more clones (x ∷ xs) (y ∷ ys) z = ap suc (zipped-more clones xs ys z.1)
  zipped-more clones xs ys z = absurd z

  clones-more : (clones : T → T → Type 0) (xs ys more : List T)
      → AppendsClones clones xs ys more → length ys ≤ length xs + length more
  clones-more clones xs ys more a =
      let count = zipped-more clones more a.0 a.2 in
      omega (arith, ap length a.1, length-append xs a.0, count)

module _ {T A G J : Type 0} (here : Env T A J) (law : IsLawful here.rule) where
  pub step-paid : (v w : ListView T A) (command : Command T A G) (reply : Reply T A G)
      → KeepsCheap command → length v.items ≤ v.capacity → Steps here v command reply w
      → IsPaid v w
  step-paid v w command (OutOfRange back) keeps room s = same-paid v w room s.2
  step-paid v w (ReserveExact k) reply keeps room s = absurd keeps
  step-paid v w ShrinkToFit reply keeps room s = absurd keeps
  step-paid v w (Push x) Done keeps room s =
      ruled-paid here law v w room _ 1 s.1.0 s.1.1 refl refl (one-more v.items x)
  step-paid v w (Push x) (Returned y cause) keeps room s = same-paid v w room s.1.1.2
  step-paid v w Pop (Item o) keeps room s =
      let items = length-append w.items (option_to_list o) in
      kept-paid v w room _ s.1.2 refl refl refl (omega (arith, ap length s.1.1, items))
  step-paid v w (Insert i x) Done keeps room s =
      let items = length-insert v.items i x s.0 in
      ruled-paid here law v w room _ 1 s.1.0 s.1.1 refl refl (omega (arith, items))
  step-paid v w (Insert i x) (Returned y cause) keeps room s = same-paid v w room s.1.1.2
  step-paid v w (Remove i) (Item (Some x)) keeps room s =
      kept-paid v w room _ s.1.1 refl refl refl (few-remove v.items i)
  step-paid v w (SwapRemove i) (Item (Some x)) keeps room s =
      kept-paid v w room _ s.1.1 refl refl refl (few-swap_remove v.items i x)
  step-paid v w (Set i x) (Item (Some y)) keeps room s =
      kept-paid v w room _ s.1.1 refl refl refl (omega (arith, length-set v.items i x))
  step-paid v w (Truncate k) Done keeps room s =
      kept-paid v w room _ s.1 refl refl refl (few-take v.items k)
  step-paid v w Clear Done keeps room s = kept-paid v w room _ s.1 refl refl refl (omega arith)
  step-paid v w (Reserve k) Done keeps room s =
      ruled-paid here law v w room _ k s.1.0 s.1.1 refl refl (omega arith)
  step-paid v w (Reserve k) (Refused cause) keeps room s = same-paid v w room s.1.2
  step-paid v w (Resize k x) Done keeps room s =
      let few = resized-more here.clones v.items w.items k x s.1.0 in
      ruled-paid here law v w room _ (k - length v.items) s.1.1.0 s.1.1.1 refl refl few
  step-paid v w (Resize k x) (Refused cause) keeps room s =
      refused-paid here law v w room (k - length v.items) _ cause s.1.1
  step-paid v w (ExtendFromSlice xs) Done keeps room s =
      let few = clones-more here.clones v.items w.items xs.items s.1.0 in
      ruled-paid here law v w room _ (length xs.items) s.1.1.0 s.1.1.1 refl refl few
  step-paid v w (ExtendFromSlice xs) (Refused cause) keeps room s =
      refused-paid here law v w room (length xs.items) xs.items cause s.1.1
  step-paid v w (Extend xs lower) Done keeps room s =
      placed-paid here law v w room _ _ _ _ s.1
  step-paid v w (Extend xs lower) (Stopped answers cause held in_hand rest) keeps room s =
      placed-paid here law v w room _ _ _ _ s.1.1.filled
  step-paid v w (Append given) (Other back None) keeps room s =
      let few = all-more v.items given.items in
      ruled-paid here law v w room _ (length given.items) s.1.1.0 s.1.1.1 refl refl few
  step-paid v w (Append given) (Other back (Some cause)) keeps room s = same-paid v w room s.1.1.2
  step-paid v w (SplitOff i) (Made out) keeps room s =
      kept-paid v w room _ s.1.1 refl refl refl (few-take v.items i)
  step-paid v w (SplitOff i) (Refused cause) keeps room s = same-paid v w room s.1.2
  step-paid v w Clone (Made copy) keeps room s = same-paid v w room s.1.2
  step-paid v w Clone (Refused cause) keeps room s = same-paid v w room s.1.2
  step-paid v w Retain Done keeps room s =
      let few = few-test_each (looks here.model.look) here.judge v.items in
      kept-paid v w room _ s.1 refl refl refl few
  step-paid v w RetainMut Done keeps room s =
      kept-paid v w room _ s.1 refl refl refl (few-test_each here.model.keep here.judge v.items)
  step-paid v w Dedup Done keeps room s =
      let few = few-pairs (tells here.eq here.judge) here.judge v.items in
      kept-paid v w room _ s.1 refl refl refl few
  step-paid v w DedupBy Done keeps room s =
      kept-paid v w room _ s.1 refl refl refl (few-pairs here.model.same here.judge v.items)
  step-paid v w DedupByKey Done keeps room s =
      let few = few-pairs (same_key here.model.key) here.judge v.items in
      kept-paid v w room _ s.1 refl refl refl few
  step-paid v w (Drain i j steps) (Answers answers) keeps room s =
      kept-paid v w room _ s.1.1 refl refl refl (few-drained v.items i j s.0)
  step-paid v w (Drain i j steps) (Refused cause) keeps room s = same-paid v w room s.1.2
  step-paid v w (ExtractIf i j k) (Answers answers) keeps room s =
      let few = few-extracted here.model.take here.judge k v.items i j s.0.0 s.0.1 in
      kept-paid v w room _ s.1.1 refl refl refl few
  step-paid v w (ExtractIf i j k) (Refused cause) keeps room s = same-paid v w room s.1.2
  step-paid v w (Splice i j steps xs lower) (Answers answers) keeps room s =
      placed-paid here law v w room _ _ _ _ s.1.1
  step-paid v w (Splice i j steps xs lower) (Stopped answers cause held in_hand rest) keeps room s =
      placed-paid here law v w room _ _ _ _ s.1.1.filled
  step-paid v w (Splice i j steps xs lower) (Refused cause) keeps room s = same-paid v w room s.1.2
  step-paid v w command reply keeps room s = absurd s.1

  pub runs-paid : (v w : ListView T A) (commands : List (Command T A G))
      (replies : List (Reply T A G))
      → All KeepsCheap commands → length v.items ≤ v.capacity → Runs here v commands replies w
      → IsPaid v w
  runs-paid v w commands replies only room run =
      runs-keep here (λ n z. IsPaid v z) KeepsCheap (λ d r. 0)
      (λ n x y d r keeps h s. join-paid h (step-paid x y d r keeps h.room s))
      0 v w commands replies only (none-paid v room) run
