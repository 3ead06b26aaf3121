-- These lemmas state which items of a list are kept when a closure tests them one after the other.
-- `R` describes the calls to the closure, and `s`, `t` and `u` are its states.
use Rattle.std.proofs.Common.{◌≡◌, ℕ, ◌+◌, Bool, true, false, List, [], ◌∷◌, ◌++◌, length, take, drop, refl, sym, ap, ◌∙◌, arith, length-append, append_assoc}
use Rattle.std.proofs.lemmas.Bool.{false≢true}
use Rattle.std.proofs.lemmas.List.{append-nil, drop_at, map_push, take_at}
use Rattle.thin_vec.specs.Edits.Retain.{TestResults, all_kept}
use Rattle.thin_vec.specs.OpenBlock.Retain.{TestsAt, TestsFirst, TestsInTurn, TestsUntil}
use Rattle.thin_vec.proofs.RetainLemmas.{same-parts}

module _ {S T : Type 0} (R : S → T → Bool → S → T → Type 0) where
  module _ (t u : S) (ys : List T) (b : TestResults T) (k : TestsInTurn R t ys b u) where
    pub asked-append : (xs : List T) (s : S) (a : TestResults T) → TestsInTurn R s xs a t
        → TestsInTurn R s (xs ++ ys) (a ++ b) u
    asked-append [] s a h = rw (h.0, ← h.1) k
    asked-append (x ∷ xs) s a h = (
      h.0,
      h.1,
      h.2,
      h.3 ++ b,
      h.4,
      asked-append xs h.2 h.3 h.5,
      ap (λ (c : TestResults T). c ++ b) h.6,
    )

  first-kept : (s : S) (xs : List T) (t : S) (ys : List T) → TestsFirst R s xs true t ys
      → (x : T) × (y : T) × (later : List T) × R s x true t y × (xs ≡ x ∷ later) × (ys ≡ y ∷ later)
  first-kept s [] t ys h = absurd (false≢true (sym h.0))
  first-kept s (x ∷ xs) t ys h = (x, h.0, xs, h.1, refl, h.2)

  -- No item is left to be tested.
  pub none-at : {k : ℕ} (s : S) (xs : List T) → length xs ≡ k → TestsAt R k s xs false s xs
  none-at s xs e =
      record {
        before = xs;
        after = [];
        end = [];
        place = e;
        was = sym (append-nil xs);
        asked = (refl, refl, refl);
        now = sym (append-nil xs);
      }

  -- `Stays m s xs t ys` holds if the first `m` items of the list `xs` were tested and kept. The
  -- tests turned `xs` into `ys`, and the closure's state `s` into `t`.
  pub record Stays (m : ℕ) (s : S) (xs : List T) (t : S) (ys : List T) : Type 0 where
    pub run : List T
    pub left : List T
    pub more : List T
    pub reached : length left ≡ m
    pub was : xs ≡ run ++ more
    pub asked : TestsInTurn R s run (all_kept left) t
    pub now : ys ≡ left ++ more

  pub stays-start : (s : S) (xs : List T) → Stays 0 s xs s xs
  stays-start s xs =
      record {
        run = [];
        left = [];
        more = xs;
        reached = refl;
        was = refl;
        asked = (refl, refl);
        now = refl;
      }

  module _ {m : ℕ} {s t u : S} {xs ys zs : List T} (h : Stays m s xs t ys) where
    next-parts : {b : Bool} (a : TestsAt R m t ys b u zs) → (h.more ≡ a.after)
        × (zs ≡ h.left ++ a.end)
    next-parts a =
        let p = same-parts h.left h.more a.before a.after (h.reached ∙ sym a.place)
        (sym h.now ∙ a.was) in
        (p.1, a.now ∙ ap (λ (l : List T). l ++ a.end) (sym p.0))

    pub stays-more : TestsAt R m t ys true u zs → Stays (m + 1) s xs u zs
    stays-more a =
        let p = next-parts a in
        let f = first-kept t a.after u a.end a.asked in
        record {
          run = h.run ++ f.0 ∷ [];
          left = h.left ++ f.1 ∷ [];
          more = f.2;
          reached = omega (arith, h.reached, length-append h.left (f.1 ∷ []));
          was = h.was ∙ (ap (λ (l : List T). h.run ++ l) (p.0 ∙ f.4)
              ∙ sym (append_assoc h.run (f.0 ∷ []) f.2));
          asked = rw map_push
              (asked-append t u (f.0 ∷ []) ((true, f.1) ∷ []) (true, f.1, u, [], f.3, (refl, refl), refl)
              h.run s (all_kept h.left) h.asked);
          now = p.1 ∙ (ap (λ (l : List T). h.left ++ l) f.5
              ∙ sym (append_assoc h.left (f.1 ∷ []) f.2));
        }

    pub stays-stops : TestsAt R m t ys false u zs → TestsUntil R s xs (take m zs) u (drop m zs)
    stays-stops a =
        let p = next-parts a in
        let kept : take m zs ≡ h.left = ap (take m) p.1 ∙ take_at h.left a.end m h.reached in
        let end : drop m zs ≡ a.end = ap (drop m) p.1 ∙ drop_at h.left a.end m h.reached in
        record {
          run = h.run;
          after = a.after;
          between = t;
          was = h.was ∙ ap (λ (l : List T). h.run ++ l) p.0;
          asked = rw kept h.asked;
          stops = rw end a.asked;
        }

  -- `StaysAfter m t ys u zs` extends a test that kept the first item: if that test gave the state
  -- `t` and the list `ys`, then the first `m` items were tested and kept.
  abbrev pub StaysAfter : ℕ → S → List T → S → List T → Type 0
  StaysAfter m t ys u zs = (s : S) (xs : List T) → TestsAt R 0 s xs true t ys → Stays m s xs u zs

  pub stays-first : (s : S) (xs : List T) → StaysAfter 1 s xs s xs
  stays-first t ys = λ s xs a. stays-more (stays-start s xs) a
