-- If no command fails, and none clones or each clone equals its source, `items_after` and
-- `reply_to` predict a run.
use Rattle.std.proofs.Common.{◌≡◌, ℕ, ◌+◌, ◌-◌, ◌&&◌, ◌<◌, ◌≤◌, ◌↔◌, ◌⊎◌, List, [], ◌∷◌, ◌++◌, All, Decides, IsSome, Option, Some, None, length, map, take, drop, true, arith, ap, nat_le, refl, slice_get, sym, take_all, ◌∙◌, inl, inr, append_assoc, length-append}
use Rattle.std.proofs.lemmas.Bool.{and_from, and_parts, cases_lt, cond-false, cond-true, false_from_ne_true, false≢true, le-leb, leb-true, lt-ltb, ltb-true}
use Rattle.std.proofs.lemmas.List.{append-nil, replicate-append-replicate}
use Rattle.std.proofs.lemmas.List.Elements.{All-head, All-tail, recursion_from_All}
use Rattle.std.proofs.Math.Seq.{take-append_seam}
use Rattle.std.specs.List.{AllByRecursion, AllZip, dedup, each_same, fold, replace_range, scan, swap_remove}
use Rattle.std.specs.Option.{option_map_or, option_to_list}
use Rattle.std.specs.Prelude.{replicate, slice_range}
use Rattle.thin_vec.specs.List.Clones.{ClonesEqual, IsResized}
use Rattle.thin_vec.specs.Edits.Retain.{TestResults, items_where, all_kept}
use Rattle.thin_vec.specs.ThinVec.{ListView}
use Rattle.thin_vec.proofs.RetainLemmas.{items_where-append, items_where-stay}
use Rattle.thin_runner.specs.Env.{Env}
use Rattle.thin_runner.specs.Plain.{reference_step, in_range, items_after, plain_step, reply_to, says, observed, yields}
use Rattle.thin_runner.specs.Replies.{IsGranted}
use Rattle.thin_runner.specs.Run.{MakesNoClone, Runs}
use Rattle.thin_runner.specs.Steps.{Does, IsInRange, Steps}
use Rattle.thin_runner.specs.commands.Filters.{keep_outside, extract_results}
use Rattle.thin_runner.specs.commands.Room.{made}
use Rattle.thin_runner.specs.declared.command.Command.{Command}
use Rattle.thin_runner.specs.declared.command.Command.TheVariants.{Push, Pop, Insert, Remove, SwapRemove, Set, Truncate, Clear, Reserve, ReserveExact, ShrinkToFit, Resize, ExtendFromSlice, Extend, Append, SplitOff, Clone, Retain, RetainMut, Dedup, DedupBy, DedupByKey, Drain, ExtractIf, Splice}
use Rattle.thin_runner.specs.declared.command.Reply.{Reply}
use Rattle.thin_runner.specs.declared.command.Reply.TheVariants.{Answers, Done, Item, List as Made, Other, Returned, Refused, Stopped, OutOfRange}
use Rattle.thin_runner.proofs.CallbackLemmas.{dedup-pairs}
use Rattle.thin_runner.proofs.SplicesLemmas.{at-end}
use Rattle.thin_runner.proofs.NextBackLemmas.{last-of}
use Rattle.thin_runner.proofs.WeakerClonesLemmas.{first-meets, needed, others-meet, zip-weaker}

refused : {X B : Type 0} (x : X) → Some x ≡ None → B
refused x e = cc

range-decides : (a b n : ℕ) → Decides (nat_le a b && nat_le b n) ((a ≤ b) × (b ≤ n))
range-decides a b n = (
  (λ e. let both = and_parts (nat_le a b) (nat_le b n) e in
      (leb-true a b both.0, leb-true b n both.1)),
  (λ e. and_from (nat_le a b) (nat_le b n) (le-leb a b e.0) (le-leb b n e.1)),
)

module _ {T A G : Type 0} where
  in_range-decides : (xs : List T) (command : Command T A G)
      → Decides (in_range xs command) (IsInRange xs command)
  in_range-decides xs (Insert i v) = (leb-true i (length xs), le-leb i (length xs))
  in_range-decides xs (Remove i) = (ltb-true i (length xs), lt-ltb i (length xs))
  in_range-decides xs (SwapRemove i) = (ltb-true i (length xs), lt-ltb i (length xs))
  in_range-decides xs (Set i v) = (ltb-true i (length xs), lt-ltb i (length xs))
  in_range-decides xs (SplitOff i) = (leb-true i (length xs), le-leb i (length xs))
  in_range-decides xs (Drain a b steps) = range-decides a b (length xs)
  in_range-decides xs (ExtractIf a b k) = range-decides a b (length xs)
  in_range-decides xs (Splice a b steps ys lower) = range-decides a b (length xs)
  in_range-decides xs command = ((λ e. tt), (λ e. refl))

module _ {T : Type 0} where
  -- `pop` returns the last item, if there is one.
  popped : (xs ys : List T) (o : Option T) → (IsSome o ↔ (0 < length xs))
      → xs ≡ ys ++ option_to_list o
      → (o ≡ slice_get xs (length xs - 1)) × (ys ≡ take (length xs - 1) xs)
  popped xs ys (Some x) some e =
      let all = length-append ys (x ∷ []) in
      let count : length xs - 1 ≡ length ys = omega (arith, ap length e, all) in
      let last : slice_get xs (length xs - 1) ≡ Some x = (λ i. slice_get (e i) (count i))
      ∙ last-of ys x in
      let others : take (length xs - 1) xs ≡ ys = (λ i. take (count i) (e i))
      ∙ take-append_seam ys (x ∷ []) in
      (sym last, sym others)
  popped [] ys None some e = (refl, sym (e ∙ append-nil ys))
  popped (x ∷ xs) ys None some e = absurd (false≢true (some.1 (omega arith)))

  zip-equal : {clones : T → T → Type 0} → ClonesEqual clones → (xs ys : List T)
      → AllZip clones xs ys → ys ≡ xs
  zip-equal {clones} equal xs ys z =
      each_same xs ys (zip-weaker clones (λ x y. y ≡ x) equal xs ys z)

  each-equal : {clones : T → T → Type 0} → ClonesEqual clones → (x : T) (ys : List T)
      → AllByRecursion (clones x) ys → ys ≡ replicate (length ys) x
  each-equal equal x [] e = refl
  each-equal equal x (y ∷ ys) e = λ i. equal x y e.0 i ∷ each-equal equal x ys e.1 i

  resized : (clones : T → T → Type 0) → ClonesEqual clones → (xs : List T) (k : ℕ) (x : T)
      (ys : List T) → IsResized clones xs k x ys → ys ≡ take k xs ++ replicate (k - length xs) x
  resized clones equal xs k x ys r = elim (cases_lt (length xs) k) [
    | inl more ↦
        let l = r.longer more in
        let same : l.0 ≡ replicate (length l.0) x =
        each-equal equal x l.0 (recursion_from_All (clones x) l.0 l.1) in
        let all = ap length l.2 ∙ length-append xs (l.0 ++ x ∷ []) in
        let tail = length-append l.0 (x ∷ []) in
        let count : length l.0 + 1 ≡ k - length xs = omega (arith, all, tail, r.len) in
        let whole : take k xs ≡ xs = take_all k xs (omega (arith, more)) in
        l.2 ∙ (ap (λ (t : List T). xs ++ (t ++ x ∷ [])) same
        ∙ (ap (λ (t : List T). xs ++ t) (replicate-append-replicate (length l.0) 1 x)
        ∙ (ap (λ n. xs ++ replicate n x) count
        ∙ ap (λ (t : List T). t ++ replicate (k - length xs) x) (sym whole))))
    | inr less ↦
        let none : k - length xs ≡ 0 = omega (arith, less) in
        r.shorter less ∙ sym (ap (λ n. take k xs ++ replicate n x) none ∙ append-nil (take k xs))
  ]

  left-keep_outside : (xs : List T) (a b : ℕ) (results : TestResults T)
      → items_where true (keep_outside xs a b results) ≡ replace_range xs a b
      (items_where true results)
  left-keep_outside xs a b results =
      let before : List T = take a xs in
      let kept : List T = items_where true results in
      let after : List T = drop b xs in
      items_where-append (all_kept before) (results ++ all_kept after)
      ∙ ((λ i. items_where-stay before i ++ items_where-append results (all_kept after) i)
      ∙ ((λ i. before ++ (kept ++ items_where-stay after i))
      ∙ sym (append_assoc before kept after)))

module _ {T A G J : Type 0} (here : Env T A J) where
  does-reference_step : (v w : ListView T A) (command : Command T A G) (reply : Reply T A G)
      → MakesNoClone command ⊎ ClonesEqual here.clones → IsGranted reply
      → Does here v command reply w
      → (observed reply, w.items) ≡ reference_step here v.items command
  does-reference_step v w (Push x) Done equal ok d = λ j. (says Done, (d.1 j).items)
  does-reference_step v w command (Returned y cause) equal ok d = refused cause ok
  does-reference_step v w command (Refused cause) equal ok d = refused cause ok
  does-reference_step v w command (Stopped answers cause held in_hand rest) equal ok d =
      refused cause ok
  does-reference_step v w Pop (Item o) equal ok d =
      let last = popped v.items w.items o d.0 d.1 in λ j. (says (Item (last.0 j)), last.1 j)
  does-reference_step v w (Insert i x) Done equal ok d = λ j. (says Done, (d.1 j).items)
  does-reference_step v w (Remove i) (Item (Some x)) equal ok d =
      λ j. (says (Item (sym d.0 j)), (d.1 j).items)
  does-reference_step v w (SwapRemove i) (Item (Some x)) equal ok d =
      let left : w.items ≡ option_map_or (swap_remove v.items i) (slice_get v.items i) v.items =
      (λ j. (d.1 j).items) ∙ ap (λ o. option_map_or (swap_remove v.items i) o v.items) (sym d.0) in
      λ j. (says (Item (sym d.0 j)), left j)
  does-reference_step v w (Set i x) (Item (Some y)) equal ok d =
      λ j. (says (Item (sym d.0 j)), (d.1 j).items)
  does-reference_step v w (Truncate k) Done equal ok d = λ j. (says Done, (d j).items)
  does-reference_step v w Clear Done equal ok d = λ j. (says Done, (d j).items)
  does-reference_step v w (Reserve k) Done equal ok d = λ j. (says Done, (d.1 j).items)
  does-reference_step v w (ReserveExact k) Done equal ok d = λ j. (says Done, (d.1 j).items)
  does-reference_step v w ShrinkToFit Done equal ok d = λ j. (says Done, (d j).items)
  does-reference_step v w (Resize k x) Done equal ok d =
      let left = resized here.clones (needed equal) v.items k x w.items d.0 in
      λ j. (says Done, left j)
  does-reference_step v w (ExtendFromSlice xs) Done equal ok d =
      let a = d.0 in
      let left : w.items ≡ v.items ++ xs.items =
      a.1 ∙ ap (λ l. v.items ++ l) (zip-equal (needed equal) xs.items a.0 a.2) in
      λ j. (says Done, left j)
  does-reference_step v w (Extend xs lower) Done equal ok d =
      let left : w.items ≡ v.items ++ xs.items = d.items ∙ at-end v.items xs.items in
      λ j. (says Done, left j)
  does-reference_step v w (Append other) (Other back None) equal ok d =
      λ j. (says (Other (d.0 j) None), (d.1.1 j).items)
  does-reference_step v w (Append other) (Other back (Some cause)) equal ok d = refused cause ok
  does-reference_step v w (SplitOff i) (Made out) equal ok d =
      λ j. (says (Made (d.0 j)), (d.1 j).items)
  does-reference_step v w Clone (Made copy) equal ok d =
      let same : copy ≡ made here.alloc v.items =
      d.1 ∙ ap (λ l. made here.alloc l) (zip-equal (needed equal) v.items copy.items d.0) in
      λ j. (says (Made (same j)), (d.2 j).items)
  does-reference_step v w Retain Done equal ok d = λ j. (says Done, (d j).items)
  does-reference_step v w RetainMut Done equal ok d = λ j. (says Done, (d j).items)
  does-reference_step v w Dedup Done equal ok d =
      let left : w.items ≡ dedup here.eq v.items =
      (λ j. (d j).items) ∙ sym (dedup-pairs here.eq here.judge v.items).1 in
      λ j. (says Done, left j)
  does-reference_step v w DedupBy Done equal ok d = λ j. (says Done, (d j).items)
  does-reference_step v w DedupByKey Done equal ok d = λ j. (says Done, (d j).items)
  does-reference_step v w (Drain a b steps) (Answers answers) equal ok d =
      λ j. (yields (d.0 j), (d.1 j).items)
  does-reference_step v w (ExtractIf a b k) (Answers answers) equal ok d =
      let results = extract_results here.model.take here.judge k (slice_range v.items a b) in
      let left : w.items ≡ replace_range v.items a b (items_where true results) =
      (λ j. (d.1 j).items) ∙ left-keep_outside v.items a b results in
      λ j. (yields (d.0 j), left j)
  does-reference_step v w (Splice a b steps xs lower) (Answers answers) equal ok d =
      λ j. (yields (d.0 j), d.1.items j)
  does-reference_step v w command reply equal ok d = absurd d

  step-plain : (v w : ListView T A) (command : Command T A G) (reply : Reply T A G)
      → MakesNoClone command ⊎ ClonesEqual here.clones → IsGranted reply
      → Steps here v command reply w
      → (observed reply, w.items) ≡ plain_step here v.items command
  step-plain v w command (OutOfRange back) equal ok s =
      let decides = in_range-decides v.items command in
      let out = false_from_ne_true (in_range v.items command) (λ e. s.1 (decides.0 e)) in
      (λ j. (says (OutOfRange (s.0 j)), (s.2 j).items))
      ∙ sym (cond-false (in_range v.items command) (reference_step here v.items command)
      (says (OutOfRange command), v.items) out)
  step-plain v w command reply equal ok s =
      let inside = (in_range-decides v.items command).1 s.0 in
      does-reference_step v w command reply equal ok s.1
      ∙ sym (cond-true (in_range v.items command) (reference_step here v.items command)
      (says (OutOfRange command), v.items) inside)

  pub run-plain : (v w : ListView T A) (commands : List (Command T A G))
      (replies : List (Reply T A G)) → All MakesNoClone commands ⊎ ClonesEqual here.clones
      → All IsGranted replies → Runs here v commands replies w
      → (w.items ≡ fold (items_after here) v.items commands)
      × (map observed replies ≡ scan (items_after here) (reply_to here) v.items commands)
  run-plain v w [] [] equal ok run = ((λ j. (run j).items), refl)
  run-plain v w (c ∷ commands) (r ∷ replies) equal ok run =
      let first = step-plain v run.0 c r (first-meets c commands equal)
      (All-head IsGranted r replies ok) run.1.0 in
      let rest = run-plain run.0 w commands replies (others-meet c commands equal)
      (All-tail IsGranted r replies ok) run.1.1 in
      let items : w.items ≡ fold (items_after here) v.items (c ∷ commands) =
      rest.0 ∙ (λ j. fold (items_after here) (first j).1 commands) in
      let xs : List T = items_after here v.items c in
      let later : map observed replies ≡ scan (items_after here) (reply_to here) xs commands =
      rest.1 ∙ (λ j. scan (items_after here) (reply_to here) (first j).1 commands) in
      (items, (λ j. (first j).0 ∷ later j))
  run-plain v w commands replies equal ok run = absurd run
