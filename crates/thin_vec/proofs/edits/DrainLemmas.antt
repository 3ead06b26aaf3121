-- These lemmas state which items `next` and `next_back` yield on a `Drain`, and what these calls
-- leave unchanged.
use Rattle.std.proofs.Common.{◌≡◌, ◌⊎◌, ◌+◌, [], List, Option, inl, inr, ◌∷◌, ◌++◌, ap, append_assoc, arith, refl, subst, sym, ◌∙◌, length}
use Rattle.std.proofs.lemmas.List.{append-nil, length_push}
use Rattle.std.proofs.iter.runs.Sources.{as_is, as_is_back, from_back, from_front}
use Rattle.std.specs.Iterator.Runs.{YieldsInOrder, YieldsInReverse}
use Rattle.thin_block.specs.declared.growth.Growth.{Ghosts}
use Rattle.std.specs.Iterator.{Yields}
use Rattle.thin_vec.specs.Edits.Drain.{DrainKeeps, DrainKeepsAlong, DrainSteps, DrainStepsBack, drain_rest}
use Rattle.thin_vec.specs.OpenView.{OpenView}
use Rattle.thin_vec.specs.declared.edits.drain.Drain.{Drain}
use Rattle.thin_vec.specs.declared.edits.holder.IntoInner.{Ghosts as IntoInnerGhosts}

module _ {T A G H : Type 0} {g : Ghosts G} {h : IntoInnerGhosts H (OpenView T A)} where
  drain-keeps-more : (a b c : Drain T A G H g h) → DrainKeeps a b
      → DrainKeeps b c → DrainKeeps a c
  drain-keeps-more a b c p q =
      record {
        lender = q.lender ∙ p.lender;
        meanwhile = q.meanwhile ∙ p.meanwhile;
        after_drop = q.after_drop ∙ p.after_drop;
      }

  same : (d : Drain T A G H g h) → DrainKeeps d d
  same d = record { lender = refl; meanwhile = refl; after_drop = refl }

  drain-keeps-yielding : (d : Drain T A G H g h) (items : List T) (later : Drain T A G H g h)
      → Yields DrainSteps d items later → DrainKeeps d later
  drain-keeps-yielding d [] later e = subst (λ t. DrainKeeps d t) e (same d)
  drain-keeps-yielding d (x ∷ xs) later (m, one, e) =
      drain-keeps-more d m later one.keeps (drain-keeps-yielding m xs later e)

  -- Calls to `next` on a `Drain`, up to the first `None`, satisfy `DrainKeepsAlong`.
  pub drain_keeps_along : (d : Drain T A G H g h) → DrainKeepsAlong d
  drain_keeps_along d items later (inl e) = drain-keeps-yielding d items later e
  drain_keeps_along d items later (inr (m, e, last)) =
      drain-keeps-more d m later (drain-keeps-yielding d items m e) last.keeps

  -- `DrainStepsEither old item new` holds if a call to `next` or to `next_back` returned `item` and
  -- changed the `Drain` from `old` to `new`.
  abbrev pub DrainStepsEither : Drain T A G H g h → Option T → Drain T A G H g h → Type 0
  DrainStepsEither old item new = DrainSteps old item new ⊎ DrainStepsBack old item new

  -- `DrainLeaves first items later` states what calls to `next` and `next_back` leave, after they
  -- yielded `items` and changed the `Drain` from `first` to `later`. The items of `before` were
  -- yielded from the front, and those of `after` from the back.
  pub record DrainLeaves (first : Drain T A G H g h) (items : List T)
      (later : Drain T A G H g h) : Type 0 where
    pub keeps : DrainKeeps first later
    pub before : List T
    pub after : List T
    pub rest : drain_rest first ≡ before ++ (drain_rest later ++ after)
    pub count : length items ≡ length before + length after

  -- Calls to `next` and `next_back`, in any order, take items from the two ends of the range, and
  -- do not change the list that will remain after the `Drain` is dropped.
  pub drain_leaves : (d : Drain T A G H g h) (items : List T)
      (later : Drain T A G H g h) → Yields DrainStepsEither d items later
      → DrainLeaves d items later
  drain_leaves d [] later e = subst (λ t. DrainLeaves d [] t) e (record {
    keeps = same d;
    before = [];
    after = [];
    rest = sym (append-nil (drain_rest d));
    count = refl;
  })
  drain_leaves d (x ∷ xs) later (m, inl one, e) =
      let h = drain_leaves m xs later e in
      record {
        keeps = drain-keeps-more d m later one.keeps h.keeps;
        before = x ∷ h.before;
        after = h.after;
        rest = one.gave ∙ ap (λ l. x ∷ l) h.rest;
        count = omega (arith, h.count);
      }
  drain_leaves d (x ∷ xs) later (m, inr one, e) =
      let h = drain_leaves m xs later e in
      record {
        keeps = drain-keeps-more d m later one.keeps h.keeps;
        before = h.before;
        after = h.after ++ x ∷ [];
        rest = one.gave
            ∙ (ap (λ l. l ++ x ∷ []) h.rest
            ∙ (append_assoc h.before (drain_rest later ++ h.after) (x ∷ [])
            ∙ ap (λ l. h.before ++ l) (append_assoc (drain_rest later) h.after (x ∷ []))));
        count = omega (arith, h.count, length_push h.after x);
      }

  -- Calls to `next` yield the items of the range in order.
  pub drains_in_order : YieldsInOrder (DrainSteps {T = T} {A = A} {G = G} {H = H} {g = g} {h = h})
      drain_rest
  drains_in_order p s =
      as_is p (drain_rest p.from)
      (from_front DrainSteps (λ x. x) drain_rest (λ a b n. ap length n.gave.0)
      (λ a x b n. n.gave) p s)

  -- Calls to `next_back` yield the items of the range in reverse order.
  pub drains_in_reverse : YieldsInReverse
      (DrainStepsBack {T = T} {A = A} {G = G} {H = H} {g = g} {h = h})
      drain_rest
  drains_in_reverse p s =
      as_is_back p (drain_rest p.from)
      (from_back DrainStepsBack (λ x. x) drain_rest (λ a b n. ap length n.gave.0)
      (λ a x b n. n.gave) p s)
