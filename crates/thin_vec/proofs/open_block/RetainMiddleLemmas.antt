-- These lemmas state what an open block contains after a closure has tested some of its middle
-- items, and each tested item has been kept or removed.
use Rattle.std.proofs.Common.{◌≡◌, ℕ, ◌+◌, ◌<◌, ◌≤◌, Bool, true, false, List, [], ◌∷◌, ◌++◌, length, take, drop, refl, sym, ap, ◌∙◌, arith, length-append, append_assoc}
use Rattle.std.proofs.lemmas.Bool.{false≢true}
use Rattle.std.proofs.lemmas.List.{append-nil, drop_all, length-drop, length-take-le, take_all}
use Rattle.std.specs.Prelude.{◌==◌, if◌then◌else◌}
use Rattle.thin_block.specs.Cost.{add_moves}
use Rattle.thin_vec.specs.Edits.Retain.{TestResults, flags_of, items_where, moves_of_retain, all_kept, count_true}
use Rattle.thin_vec.specs.OpenView.{OpenView}
use Rattle.thin_vec.specs.OpenBlock.Retain.{Retains, SeeksRemoved, TestsFirst, TestsInTurn, TestsUntil}
use Rattle.thin_vec.proofs.RetainLemmas.{count_true-append, count_true-stay, gone-append, gone-stay, items_where-append, items_where-stay, moves_of_retain-stay, moving-none, paid-more}
use Rattle.thin_vec.proofs.open_block.TestLemmas.{asked-append}

module _ {S T : Type 0} (R : S → T → Bool → S → T → Type 0) where
  pub retains-start : {A : Type 0} (s : S) (v : OpenView T A) → v.gap_before ≡ 0
      → Retains R s v s v
  retains-start s v none =
      record {
        done = [];
        results = [];
        middle = refl;
        asked = (refl, refl);
        now = λ i. record v {
          front = sym (append-nil v.front) i;
          gap_before = none i;
          cost = sym (moving-none v.cost) i;
        };
      }

  -- A search ends with a test that fails, whose result is the only one in the list here, or with no
  -- test.
  last : (s : S) (xs : List T) (t : S) (ys : List T) → TestsFirst R s xs false t ys
      → (done : List T) × (results : TestResults T) × (xs ≡ done ++ drop 1 ys)
      × TestsInTurn R s done results t × (items_where true results ≡ [])
      × (items_where false results ≡ take 1 ys) × (count_true (flags_of results) ≡ 0)
      × (moves_of_retain (flags_of results) ≡ 0)
  last s [] t ys h = rw h.2 ([], [], refl, (refl, h.1), refl, refl, refl, refl)
  last s (x ∷ xs) t ys h = rw h.2 (
    x ∷ [],
    (false, h.0) ∷ [],
    refl,
    (false, h.0, t, [], h.1, (refl, refl), refl),
    refl,
    refl,
    refl,
    refl,
  )

  -- A search turned the block `w` into `x`. Then the item that it found, if any, was removed.
  pub retains-more : {A : Type 0} {s t u : S} {v w x : OpenView T A} → Retains R s v t w
      → SeeksRemoved R t w u x → (y : OpenView T A) → y ≡ record x {
        gap_before = x.gap_before + length (take 1 x.middle);
        middle = drop 1 x.middle;
      } → Retains R s v u y
  retains-more {s = s} {t} {u} {v} {w} {x} h k y now =
      let r = k.run in
      let l = last r.between r.after u x.middle r.stops in
      let run = all_kept k.kept in
      let new : TestResults T = run ++ l.1 in
      let kept : items_where true new ≡ k.kept =
      items_where-append run l.1
      ∙ ((λ i. items_where-stay k.kept i ++ l.4 i) ∙ append-nil k.kept) in
      let gone : items_where false new ≡ take 1 x.middle =
      gone-append run l.1 ∙ (λ i. gone-stay k.kept i ++ l.5 i) in
      let still : moves_of_retain (flags_of new) ≡ 0 = moves_of_retain-stay k.kept l.1
      ∙ l.7 in
      let count : count_true (flags_of new) ≡ length k.kept = omega (
        arith,
        count_true-append run l.1,
        count_true-stay k.kept,
        l.6,
      ) in
      let gap : x.gap_before + length (take 1 x.middle)
      ≡ length (items_where false (h.results ++ new)) =
      omega (
        arith,
        ap (λ o. o.gap_before) k.now,
        ap (λ o. o.gap_before) h.now,
        ap length (gone-append h.results new),
        length-append (items_where false h.results) (items_where false new),
        ap length gone,
      ) in
      let front : w.front ++ k.kept ≡ v.front ++ items_where true (h.results ++ new) =
      ap (λ o. o.front ++ k.kept) h.now
      ∙ (append_assoc v.front (items_where true h.results) k.kept
      ∙ ap (λ (o : List T). v.front ++ o)
      (ap (λ (o : List T). items_where true h.results ++ o) (sym kept)
      ∙ sym (items_where-append h.results new))) in
      let cost : (if w.gap_before == 0 then w.cost else add_moves (length k.kept) w.cost)
      ≡ add_moves (moves_of_retain (flags_of (h.results ++ new))) v.cost =
      ap (λ o. if o.gap_before == 0 then o.cost else add_moves (length k.kept) o.cost) h.now
      ∙ paid-more h.results new (length k.kept) v.cost still count in
      rw now (record {
        done = h.done ++ (r.run ++ l.0);
        results = h.results ++ new;
        middle = h.middle ∙ (ap (λ (o : List T). h.done ++ o)
            (r.was ∙ (ap (λ (o : List T). r.run ++ o) l.2
            ∙ sym (append_assoc r.run l.0 (drop 1 x.middle))))
            ∙ sym (append_assoc h.done (r.run ++ l.0) (drop 1 x.middle)));
        asked = asked-append R t u (r.run ++ l.0) new
            (asked-append R r.between u l.0 l.1 l.3 r.run t run r.asked)
            h.done s h.results h.asked;
        now = (λ i. record (k.now i) {
          gap_before = x.gap_before + length (take 1 x.middle);
          middle = drop 1 x.middle;
        }) ∙ (λ i. record (h.now i) {
          front = front i;
          gap_before = gap i;
          middle = drop 1 x.middle;
          cost = cost i;
        });
      })

  -- `Walks s v t w` states that items of `v` were tested and kept or removed, which turned `v` into
  -- `between`, and that then a search turned `between` into `w`.
  pub record Walks {A : Type 0} (s : S) (v : OpenView T A) (t : S)
      (w : OpenView T A) : Type 0 where
    pub state : S
    pub between : OpenView T A
    pub retains : Retains R s v state between
    pub seeks : SeeksRemoved R state between t w

  -- `Rounds s v b t w` is the invariant of the loop of `retain_middle`. If `b` is true, the loop
  -- goes on, and no middle item of `w` was tested. Otherwise at most one middle item is left.
  pub record Rounds {A : Type 0} (s : S) (v : OpenView T A) (b : Bool) (t : S)
      (w : OpenView T A) : Type 0 where
    pub on : b ≡ true → Retains R s v t w × (0 < w.gap_before) × (0 < length w.middle)
    pub off : b ≡ false → Walks s v t w × (1 < length w.middle → ⊥)

  -- After the search, the item that it found is dropped if another one follows.
  pub rounds-next : {A : Type 0} {s t : S} {v w : OpenView T A} → Walks s v t w
      → (b : Bool) (x : OpenView T A) → (b ≡ true → 1 < length w.middle)
      → (1 < length w.middle → b ≡ true)
      → x ≡ (if b then record w { gap_before = w.gap_before + 1; middle = drop 1 w.middle } else w)
      → Rounds s v b t x
  rounds-next {w = w} h b x more few now =
      record {
        on = λ e.
            let dropped = rw e at now in
            let one : length (take 1 w.middle) ≡ 1 =
            length-take-le 1 w.middle (omega (arith, more e)) in (
              retains-more h.retains h.seeks x (dropped ∙ (λ i. record w {
                gap_before = w.gap_before + sym one i;
                middle = drop 1 w.middle;
              })),
              omega (arith, ap (λ o. o.gap_before) dropped),
              omega (
                arith,
                more e,
                ap (λ o. length o.middle) dropped,
                length-drop 1 w.middle,
              ),
            );
        off = λ e. let same = rw e at now in
            rw same (h, λ some. false≢true (sym e ∙ few some));
      }

  -- The last search found nothing, or the last item, which is dropped.
  pub walks-end : {A : Type 0} {s t : S} {v w : OpenView T A} → Walks s v t w → v.gap_after ≡ 0
      → (1 < length w.middle → ⊥) → (z : OpenView T A) → z ≡ record w {
        gap_before = w.gap_before + length w.middle + w.gap_after;
        middle = [];
        gap_after = 0;
      } → Retains R s v t z
  walks-end {w = w} h none few z now =
      let end : w.gap_after ≡ 0 = ap (λ o. o.gap_after) h.seeks.now
      ∙ (ap (λ o. o.gap_after) h.retains.now ∙ none) in
      let low : length w.middle ≤ 1 = omega (arith, few) in
      let gap : w.gap_before + length w.middle + w.gap_after
      ≡ w.gap_before + length (take 1 w.middle) =
      omega (arith, end, ap length (take_all 1 w.middle low)) in
      retains-more h.retains h.seeks z (now ∙ (λ i. record w {
        gap_before = gap i;
        middle = sym (drop_all 1 w.middle low) i;
        gap_after = sym end i;
      }))

  -- The first `m` middle items of `x` were tested and kept, and then moved to the front of `y`,
  -- unless there was no gap.
  pub sought : {A : Type 0} {s t : S} {v y : OpenView T A} {b : Bool} (x : OpenView T A) (m : ℕ)
      → TestsUntil R s v.middle (take m x.middle) t (drop m x.middle)
      → x ≡ record v { middle = x.middle } → m ≤ length x.middle → b ≡ (v.gap_before == 0)
      → y ≡ record x {
        front = x.front ++ take m x.middle;
        middle = drop m x.middle;
        cost = if b then x.cost else add_moves m x.cost;
      } → SeeksRemoved R s v t y
  sought {y = y} x m run tested low gap now =
      let few = length-take-le m x.middle low in
      record {
        kept = take m x.middle;
        run = rw (ap (λ o. o.middle) now) run;
        now = now ∙ (λ i. let o = tested i in record o {
          front = o.front ++ take m x.middle;
          middle = sym (ap (λ o. o.middle) now) i;
          cost = if gap i then o.cost else add_moves (sym few i) o.cost;
        });
      }
