-- These lemmas are about the item that `next` on an `ExtractIf` extracts: the first untested item
-- for which the closure returns true.
use Rattle.std.proofs.Common.{◌≡◌, ℕ, ◌+◌, ◌≤◌, Bool, true, false, List, [], ◌∷◌, ◌++◌, Option, None, Some, length, take, drop, refl, sym, ap, subst, ◌∙◌, append_assoc, arith, length-append}
use Rattle.std.proofs.lemmas.List.{append-nil, length-drop, nil_from_length, take-append-drop}
use Rattle.std.proofs.lemmas.List.Folds.{drop_split}
use Rattle.std.specs.List.Retain.{ExtractsNext}
use Rattle.std.specs.Option.{option_to_list}
use Rattle.std.specs.Prelude.{◌==◌, MatchBool, cond, if◌then◌else◌, not, slice_range}
use Rattle.thin_block.specs.Cost.{Cost, add_moves}
use Rattle.thin_block.specs.declared.growth.Growth.{Ghosts}
use Rattle.thin_vec.specs.Edits.ExtractIf.{ExtractKeepsAlong, ExtractLeaves, ExtractSteps, ExtractsInTurn, ExtractsRange, ExtractsToEnd, extract_block, extract_closure, extract_rest, list_after_extract_if}
use Rattle.thin_vec.specs.Edits.Retain.{all_kept}
use Rattle.thin_vec.specs.List.Capacity.{MovesAtMost}
use Rattle.thin_vec.specs.OpenBlock.Retain.{TestsFirst, TestsInTurn, TestsUntil}
use Rattle.thin_vec.specs.ThinVec.{ListView}
use Rattle.thin_vec.specs.declared.edits.extract_if.ExtractIf.{ExtractIf}
use Rattle.thin_vec.specs.declared.edits.extract_if.ExtractState.{ExtractState}
use Rattle.thin_vec.specs.declared.edits.holder.IntoInner.{Ghosts as IntoInnerGhosts}
use Rattle.thin_vec.proofs.RetainLemmas.{cons-head, cons-not-nil, cons-tail, moving-more, moving-none}
use Rattle.thin_vec.proofs.open_block.PairTestLemmas.{by-answer}

pub not-not : (b : Bool) → not (not b) ≡ b
not-not true = refl
not-not false = refl

module _ {F T : Type 0} (R : F → T → Bool → F → T → Type 0) where
  pub picked-count : (s : F) (xs : List T) (item : Option T) (t : F) (kept untested : List T)
      → ExtractsNext R s xs item t kept untested → length xs ≡ length kept + length
      (option_to_list item) + length untested
  picked-count s [] item t kept untested e =
      omega (arith, ap (λ o. length (option_to_list o)) e.0, ap length e.2, ap length e.3)
  picked-count s (x ∷ xs) item t kept untested e =
      by-answer e.0 _ _
      (length (x ∷ xs) ≡ length kept + length (option_to_list item) + length untested)
      (λ m. omega (arith, ap (λ o. length (option_to_list o)) m.0, ap length m.2, ap length m.3))
      (λ m. omega (arith, picked-count e.1 xs item t m.0 untested m.1, ap length m.2)) e.4

  pub picked-turn : (s : F) (xs : List T) (item : Option T) (t : F) (kept untested : List T)
      → ExtractsNext R s xs item t kept untested
      → (tested : List T) × (xs ≡ tested ++ untested)
      × ExtractsInTurn R s tested (option_to_list item) kept t × (item ≡ None → untested ≡ [])
  picked-turn s [] item t kept untested e =
      ([], sym e.3, (ap option_to_list e.0, e.2, e.1), λ _. e.3)
  picked-turn s (x ∷ xs) item t kept untested e =
      one e.0 (λ ks n. picked-turn e.1 xs item t ks untested n) e.3 e.4
    where
      one : (b : Bool)
          → ((ks : List T) → ExtractsNext R e.1 xs item t ks untested
          → (tested : List T) × (xs ≡ tested ++ untested)
          × ExtractsInTurn R e.1 tested (option_to_list item) ks t × (item ≡ None → untested ≡ []))
          → R s x b e.1 e.2
          → MatchBool b ((item ≡ Some e.2) × (t ≡ e.1) × (kept ≡ []) × (untested ≡ xs))
          ((ks : List T) × ExtractsNext R e.1 xs item t ks untested × (kept ≡ e.2 ∷ ks))
          → (tested : List T) × (x ∷ xs ≡ tested ++ untested)
          × ExtractsInTurn R s tested (option_to_list item) kept t × (item ≡ None → untested ≡ [])
      one true more called m = (
        x ∷ [],
        ap (λ l. x ∷ l) (sym m.3),
        (true, e.1, e.2, called, [], [], (refl, refl, m.1), ap option_to_list m.0, m.2),
        λ n. cc m.0,
      )
      one false more called m =
          let on = more m.0 m.1 in (
            x ∷ on.0,
            ap (λ l. x ∷ l) on.1,
            (false, e.1, e.2, called, option_to_list item, m.0, on.2, refl, m.2),
            on.3,
          )

  module _ (t u : F) (ys i k : List T) (later : ExtractsInTurn R t ys i k u) where
    pub extracts-append : (xs : List T) (s : F) (j l : List T) → ExtractsInTurn R s xs j l t
        → ExtractsInTurn R s (xs ++ ys) (j ++ i) (l ++ k) u
    extracts-append [] s j l h = rw (h.0, h.1, ← h.2) later
    extracts-append (x ∷ xs) s j l h = (
      h.0,
      h.1,
      h.2,
      h.3,
      h.4 ++ i,
      h.5 ++ k,
      extracts-append xs h.1 h.4 h.5 h.6,
      ap (λ a. a ++ i) h.7 ∙ cond-append h.0 (h.2 ∷ h.4) h.4 i,
      ap (λ a. a ++ k) h.8 ∙ cond-append h.0 h.5 (h.2 ∷ h.5) k,
    )
      where
        cond-append : (b : Bool) (xs ys zs : List T)
            → cond b xs ys ++ zs ≡ cond b (xs ++ zs) (ys ++ zs)
        cond-append true xs ys zs = refl
        cond-append false xs ys zs = refl

  module _ {S : Type 0} (of : S → F) where
    -- `J` describes the calls to a predicate that negates the result of a closure. If `s` is a
    -- state of the predicate, then `of s` is the state of the closure.
    abbrev J : S → T → Bool → S → T → Type 0
    J s x b t y = R (of s) x (not b) (of t) y

    -- In this module, the items `after` have not been tested. The next test returns true for the
    -- first of them, and `item` is this item as the test left it. If `after` is empty, then `item`
    -- is `None`.
    module _ (between : S) (after : List T) (item : Option T) (t : F) (untested : List T)
        (e : ExtractsNext R (of between) after item t [] untested) where
      picked-after : (s : S) (run left : List T) → TestsInTurn J s run (all_kept left) between
          → ExtractsNext R (of s) (run ++ after) item t left untested
      picked-after s [] [] a =
          subst (λ (q : S). ExtractsNext R (of q) after item t [] untested) a.1 e
      picked-after s [] (y ∷ left) a = absurd (cons-not-nil a.0)
      picked-after s (x ∷ run) [] a = absurd (cons-not-nil (sym a.6))
      picked-after s (x ∷ run) (z ∷ left) a =
          let h = cons-head a.6 in
          let answer : true ≡ a.0 = ap (λ p. p.0) h in
          let as_left : z ≡ a.1 = ap (λ p. p.1) h in
          let called : R (of s) x false (of a.2) z = rw (← answer, ← as_left) at a.4 in
          let on = picked-after a.2 run left (rw (← cons-tail a.6) at a.5) in
          (false, of a.2, z, called, (left, on, refl))

    stops-at-end : (between t : S) (after ys : List T)
        → TestsFirst J between after false t ys → ys ≡ []
        → ExtractsNext R (of between) after None (of t) [] ys
    stops-at-end between t [] ys a none = (refl, ap of a.1, refl, none)
    stops-at-end between t (x ∷ xs) ys a none = absurd (cons-not-nil (sym a.2 ∙ none))

    stops-at-item : (between t : S) (after ys : List T) (v : T) (zs : List T)
        → TestsFirst J between after false t ys → ys ≡ v ∷ zs → ExtractsNext R (of between)
        after (Some v) (of t) [] zs
    stops-at-item between t [] ys v zs a some = absurd (cons-not-nil (sym some ∙ a.2))
    stops-at-item between t (x ∷ xs) ys v zs a some =
        let same : v ∷ zs ≡ a.0 ∷ xs = sym some ∙ a.2 in
        (true, of t, a.0, a.1, (ap Some (cons-head same), refl, refl, cons-tail same))

    module _ {s t : S} {xs kept end : List T} (h : TestsUntil J s xs kept t end) where
      whole : (item : Option T) (untested : List T)
          → ExtractsNext R (of h.between) h.after item (of t) [] untested
          → ExtractsNext R (of s) xs item (of t) kept untested
      whole item untested e =
          rw h.was (picked-after h.between h.after item (of t) untested e s h.run kept h.asked)

      pub picked-none : end ≡ [] → ExtractsNext R (of s) xs None (of t) kept end
      picked-none none = whole None end (stops-at-end h.between t h.after end h.stops none)

      pub picked-some : (v : T) (zs : List T) → end ≡ v ∷ zs
          → ExtractsNext R (of s) xs (Some v) (of t) kept zs
      picked-some v zs some =
          whole (Some v) zs (stops-at-item h.between t h.after end v zs h.stops some)

-- The parts of a list before, in and after a range are the whole list.
pub in-parts : {T : Type 0} (xs : List T) (start end : ℕ) → start ≤ end
    → take start xs ++ (slice_range xs start end ++ drop end xs) ≡ xs
in-parts xs start end order =
    ap (λ l. take start xs ++ l) (sym (drop_split xs start end order))
    ∙ take-append-drop start xs

moves-if : (b : Bool) (n k : ℕ) (c d : Cost) → d ≡ (if b then c else add_moves n c) → n ≤ k
    → MovesAtMost k c d
moves-if true n k c d e few =
    record { moves = 0; few = omega arith; cost = e ∙ sym (moving-none c) }
moves-if false n k c d e few = record { moves = n; few = few; cost = e }

moves-join : (m n k : ℕ) (b c d : Cost) → m + n ≤ k → MovesAtMost m b c → MovesAtMost n c d
    → MovesAtMost k b d
moves-join m n k b c d few p q = record {
  moves = p.moves + q.moves;
  few = omega (arith, few, p.few, q.few);
  cost = q.cost ∙ (ap (λ x. add_moves q.moves x) p.cost ∙ moving-more q.moves p.moves b);
}

-- A call that yields nothing leaves the cost after the drop as it was: the `k` items that it kept
-- are `k` fewer for the drop to move.
closed-none : (b : Bool) (k n m tail : ℕ) (c d : Cost) → d ≡ (if b then c else add_moves k c)
    → m ≡ k + n
    → (if b then d else add_moves (n + tail) d) ≡ (if b then c else add_moves (m + tail) c)
closed-none true k n m tail c d e count = e
closed-none false k n m tail c d e count =
    let all : k + (n + tail) ≡ m + tail = omega (arith, count) in
    ap (add_moves (n + tail)) e
    ∙ (moving-more (n + tail) k c ∙ ap (λ x. add_moves x c) all)

module _ {T F A G H : Type 0} {g : Ghosts G} {h : IntoInnerGhosts H (ExtractState T F A)}
    (R : F → T → Bool → F → T → Type 0) where
  leaves-none : (d : ExtractIf T F A G H g h) → ExtractLeaves R d [] d
  leaves-none d = record {
    lender = refl;
    meanwhile = refl;
    tested = [];
    kept = [];
    rest = refl;
    calls = (refl, refl, refl);
    count = omega arith;
    front = sym (append-nil (extract_block d).front);
    gone = omega arith;
    tail = refl;
    after_drop = λ i. record (list_after_extract_if d) {
      items = sym (append-nil (extract_block d).front) i
          ++ (extract_rest d ++ (extract_block d).tail);
    };
    moves_at_most = moves-if ((extract_block d).gap_before == 0)
        (length (extract_rest d) + length (extract_block d).tail) _ _ _ refl (omega arith);
    unmoved = λ _. refl;
  }

  -- The first call returned `item` and left the `ExtractIf` as `m`.
  leaves-first : (d m later : ExtractIf T F A G H g h) (item : Option T) (xs : List T)
      → ExtractSteps R d item m → ExtractLeaves R m xs later
      → ExtractLeaves R d (option_to_list item ++ xs) later
  leaves-first d m later item xs one on =
      let s = one.extracts in
      let turn = picked-turn R (extract_closure d) (extract_rest d) item (extract_closure m) s.kept
      (extract_rest m) s.asked in
      let both = length-append s.kept on.kept in
      let out = length-append (option_to_list item) xs in
      let front : (extract_block m).front ++ on.kept
      ≡ (extract_block d).front ++ (s.kept ++ on.kept) =
      ap (λ l. l ++ on.kept) s.front ∙ append_assoc (extract_block d).front s.kept on.kept in
      record {
        lender = on.lender ∙ one.lender;
        meanwhile = on.meanwhile ∙ one.meanwhile;
        tested = turn.0 ++ on.tested;
        kept = s.kept ++ on.kept;
        rest = turn.1 ∙ (ap (λ l. turn.0 ++ l) on.rest
            ∙ sym (append_assoc turn.0 on.tested (extract_rest later)));
        calls = extracts-append R (extract_closure m) (extract_closure later) on.tested xs on.kept
            on.calls turn.0 (extract_closure d) (option_to_list item) s.kept turn.2;
        count = omega (arith, on.count, s.count, both, out);
        front = on.front ∙ front;
        gone = omega (arith, on.gone, s.gap_before, out);
        tail = on.tail ∙ s.tail;
        after_drop = cc (on.after_drop, front, s.tail, s.capacity, one.meanwhile);
        moves_at_most = moves-join (length s.kept)
            (length on.kept + length (extract_rest later) + length (extract_block m).tail)
            _ _ _ _ (omega (arith, both, ap length s.tail))
            (moves-if ((extract_block d).gap_before == 0) (length s.kept) _ _ _ s.cost
            (omega arith))
            on.moves_at_most;
        unmoved = λ none. on.unmoved (nil_from_length xs (omega (arith, ap length none, out)))
            ∙ still (omega (arith, ap length none, out));
      }
    where
      still : length (option_to_list item) ≡ 0
          → (list_after_extract_if m).cost ≡ (list_after_extract_if d).cost
      still none =
          let s = one.extracts in
          let b = extract_block d in
          let n = extract_block m in
          let gap : n.gap_before ≡ b.gap_before = omega (arith, s.gap_before, none) in
          (λ i. if gap i == 0 then n.cost else add_moves (length n.middle + length (s.tail i)) n.cost)
          ∙ closed-none (b.gap_before == 0) (length s.kept) (length n.middle) (length b.middle)
          (length b.tail) b.cost n.cost s.cost (omega (arith, s.count, none))

  pub extract-keeps-along : (d : ExtractIf T F A G H g h) → ExtractKeepsAlong R d
  extract-keeps-along d [] later e = subst (λ t. ExtractLeaves R d [] t) e (leaves-none d)
  extract-keeps-along d (x ∷ xs) later (m, one, e) =
      leaves-first d m later (Some x) xs one (extract-keeps-along m xs later e)

  pub extracts-to-end : (d : ExtractIf T F A G H g h) → ExtractsToEnd R d
  extracts-to-end d [] last (m, e, one) =
      let end = subst (λ t. ExtractSteps R t None last) (sym e) one in
      let s = end.extracts in (
        leaves-first d last last None [] end (leaves-none last),
        (picked-turn R (extract_closure d) (extract_rest d) None (extract_closure last) s.kept
            (extract_rest last) s.asked).3 refl,
      )
  extracts-to-end d (x ∷ xs) last (m, (j, one, e), end) =
      let on = extracts-to-end j xs last (m, e, end) in
      (leaves-first d j last (Some x) xs one on.0, on.1)

  -- The list `v` is the one that `d` leaves if it is dropped before the first call to `next`.
  pub extracts-range : (v : ListView T A) (start end : ℕ) (d : ExtractIf T F A G H g h)
      → (extract_block d).front ≡ take start v.items → extract_rest d ≡ slice_range v.items start end
      → (extract_block d).tail ≡ drop end v.items → (extract_block d).gap_before ≡ 0
      → list_after_extract_if d ≡ v → ExtractsRange R (extract_closure d) v start end d
  extracts-range v start end d front rest tail gap is yielded last e =
      let b = extract_block d in
      let all = extracts-to-end d yielded last e in let l = all.0 in let none = all.1 in
      let tested : l.tested ≡ slice_range v.items start end =
      sym (append-nil l.tested) ∙ (ap (λ r. l.tested ++ r) (sym none) ∙ (sym l.rest ∙ rest)) in
      let paid : b.cost ≡ v.cost =
      (λ i. if sym gap i == 0 then b.cost else add_moves (length b.middle + length b.tail) b.cost)
      ∙ ap (λ z. z.cost) is in
      record {
        kept = l.kept;
        calls = subst (λ xs. ExtractsInTurn R (extract_closure d) xs yielded l.kept
            (extract_closure last)) tested l.calls;
        after_drop = l.after_drop ∙ (λ i. record (is i) {
          items = (front i ++ l.kept) ++ (none i ++ tail i);
          cost = (list_after_extract_if last).cost;
        });
        moves_at_most = record {
          moves = l.moves_at_most.moves;
          few = omega (
            arith,
            l.moves_at_most.few,
            ap length none,
            ap length tail,
            length-drop end v.items,
          );
          cost = l.moves_at_most.cost ∙ ap (add_moves l.moves_at_most.moves) paid;
        };
      }
