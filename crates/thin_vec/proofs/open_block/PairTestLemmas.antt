-- These lemmas state which items of a list are kept when a test compares each item with the last
-- item kept before it. `R` describes the calls to the test.
use Rattle.std.proofs.Common.{◌≡◌, ℕ, zero, suc, ◌+◌, ◌<◌, Bool, true, false, List, [], ◌∷◌, ◌++◌, length, take, drop, refl, sym, ap, subst, ◌∙◌, arith, append_assoc}
use Rattle.std.proofs.lemmas.Bool.{false≢true}
use Rattle.std.proofs.lemmas.List.{drop_at, length_push, replicate-append-replicate, same_from_push, take_at}
use Rattle.std.specs.Prelude.{MatchBool, map, not, replicate}
use Rattle.thin_vec.specs.Edits.Retain.{moves_of_retain, count_true}
use Rattle.thin_vec.specs.Edits.Dedup.{TestsEachAgainstLast}
use Rattle.thin_vec.specs.OpenBlock.Dedup.{Removes, TestsNext, TestsPairAt, TestsPairsUpTo, found}
use Rattle.thin_vec.proofs.OpenBlockLemmas.{last-of}
use Rattle.thin_vec.proofs.RetainLemmas.{cons-head, cons-tail, same-parts}

-- `OnPairs S T` is the type of the relations that describe a test of two items of type `T` by a
-- closure with states of type `S`.
abbrev pub OnPairs : Type 0 → Type 0 → Type 1
OnPairs S T = S → T → T → Bool → S → T → T → Type 0

-- In this file, a flag is true if its item is removed, so it is the opposite of what the test
-- returned.

-- `all-stay n` is the list of the flags of `n` kept items.
abbrev pub all-stay : ℕ → List Bool
all-stay n = replicate n false

-- `count_kept removed` is the number of kept items.
abbrev pub count_kept : List Bool → ℕ
count_kept removed = count_true (map not removed)

pub count_kept-join : (a b : List Bool) → count_kept (a ++ b) ≡ count_kept a + count_kept b
count_kept-join [] b = omega arith
count_kept-join (true ∷ a) b = count_kept-join a b
count_kept-join (false ∷ a) b = let e = count_kept-join a b in omega arith

pub count_kept-all : (n : ℕ) → count_kept (all-stay n) ≡ n
count_kept-all zero = refl
count_kept-all (suc n) = ap suc (count_kept-all n)

pub count_kept-found : {T : Type 0} (xs : List T) → count_kept (found xs) ≡ 0
count_kept-found [] = refl
count_kept-found (x ∷ xs) = refl

pub moved-all : (n : ℕ) (b : List Bool)
    → moves_of_retain (map not (all-stay n ++ b)) ≡ moves_of_retain (map not b)
moved-all zero b = refl
moved-all (suc n) b = moved-all n b

pub by-answer : (b : Bool) (P Q G : Type 0) → (P → G) → (Q → G) → MatchBool b P Q → G
by-answer true P Q G f g m = f m
by-answer false P Q G f g m = g m

pub map-answer : (b : Bool) {P Q P' Q' : Type 0} → (P → P') → (Q → Q') → MatchBool b P Q
    → MatchBool b P' Q'
map-answer true f g m = f m
map-answer false f g m = g m

after-first : {X : Type 0} (pre zs : List X) (k l : X) → pre ++ l ∷ [] ≡ k ∷ zs → 0 < length zs
    → (p : List X) × (zs ≡ p ++ l ∷ []) × (pre ≡ k ∷ p)
after-first [] zs k l e some = let n = ap length e in absurd (omega (arith, n, some))
after-first (a ∷ p) zs k l e some = (p, sym (cons-tail e), ap (λ z. z ∷ p) (cons-head e))

module _ {S T : Type 0} (R : OnPairs S T) where
  pub last-some : (xs : List T) (s t : S) (k : T) (removed : List Bool) (ys : List T)
      → TestsEachAgainstLast (Removes R) s k xs removed ys t → 0 < length ys
  last-some [] s t k removed ys h = omega (arith, ap length h.1)
  last-some (x ∷ xs) s t k removed ys h =
      by-answer h.0 _ _ (0 < length ys) (λ m. last-some xs h.3 t h.2 h.4 ys m)
      (λ m. omega (arith, ap length m.2)) h.7

  pub last-goes : (s t : S) (k x x' k' : T) → R s x k false t x' k'
      → TestsEachAgainstLast (Removes R) s k (x ∷ []) (true ∷ []) (k' ∷ []) t
  last-goes s t k x x' k' h = (true, x', k', t, [], h, refl, (refl, refl, refl))

  pub last-stays : (s t : S) (k x x' k' : T) → R s x k true t x' k'
      → TestsEachAgainstLast (Removes R) s k (x ∷ []) (false ∷ []) (k' ∷ x' ∷ []) t
  last-stays s t k x x' k' h = (false, x', k', t, [], h, refl, (x' ∷ [], (refl, refl, refl), refl))

  -- In this module, the items `zs` were tested after the kept item `l`. The flags `g` say which of
  -- the items `zs` were kept, and `ws` is the list of the kept items, including `l`.
  module _ (t u : S) (l : T) (g : List Bool) (ws zs : List T)
      (m : TestsEachAgainstLast (Removes R) t l zs g ws u) where
    pub last-append : (xs : List T) (s : S) (k : T) (f : List Bool) (pre : List T)
        → TestsEachAgainstLast (Removes R) s k xs f (pre ++ l ∷ []) t
        → TestsEachAgainstLast (Removes R) s k (xs ++ zs) (f ++ g) (pre ++ ws) u
    last-append [] s k f pre h =
        let e = same_from_push pre [] l k h.1 in
        rw (h.0, e.0, ← e.1, ← h.2) m
    last-append (x ∷ xs) s k f pre h = (
      h.0,
      h.1,
      h.2,
      h.3,
      h.4 ++ g,
      h.5,
      ap (λ (a : List Bool). a ++ g) h.6,
      map-answer h.0
          (λ p. last-append xs h.3 h.2 h.4 pre p)
          (λ q.
          let c = after-first pre q.0 h.2 l q.2 (last-some xs h.3 t h.1 h.4 q.0 q.1) in (
            c.0 ++ ws,
            last-append xs h.3 h.1 h.4 c.0
                (subst (λ a. TestsEachAgainstLast (Removes R) h.3 h.1 xs h.4 a t) c.1 q.1),
            ap (λ (a : List T). a ++ ws) c.2,
          ))
          h.7,
    )

  -- The following definitions and lemmas are about adjacent items that are all kept.

  -- `PairStays` holds if the first `m` items of the list `xs` were kept. The tests turned `xs` into
  -- `ys`, and the state `s` of the test into `t`.
  pub record PairStays (m : ℕ) (s : S) (xs : List T) (t : S) (ys : List T) : Type 0 where
    pub first : T
    pub done : List T
    pub after : List T
    pub pre : List T
    pub last : T
    pub was : xs ≡ first ∷ (done ++ after)
    pub asked : TestsEachAgainstLast (Removes R) s first done (all-stay (length pre))
        (pre ++ last ∷ []) t
    pub kept : suc (length pre) ≡ m
    pub now : ys ≡ pre ++ last ∷ after

  pub pair-start : (s : S) (xs : List T) → 0 < length xs → PairStays 1 s xs s xs
  pair-start s [] some = absurd (omega arith)
  pair-start s (x ∷ xs) some =
      record {
        first = x;
        done = [];
        after = xs;
        pre = [];
        last = x;
        was = refl;
        asked = (refl, refl, refl);
        kept = refl;
        now = refl;
      }

  -- No item is left to be tested.
  pub pair-none : {k : ℕ} (s : S) (xs : List T) → 0 < k → length xs ≡ k
      → TestsPairAt R k s xs false s xs
  pair-none s xs some e =
      let p = last-of xs (omega arith) in
      record {
        before = p.0;
        kept = p.1;
        left = p.1;
        after = [];
        end = [];
        place = omega (arith, ap length p.2, length_push p.0 p.1);
        was = p.2;
        asked = (refl, refl, refl, refl);
        now = p.2;
      }

  pub next-ends : (s : S) (k : T) (xs : List T) (t : S) (l : T) (ys : List T)
      → TestsNext R s k xs false t l ys
      → (done : List T) × (xs ≡ done ++ drop 1 ys)
      × TestsEachAgainstLast (Removes R) s k done (found ys) (l ∷ []) t
  next-ends s k [] t l ys h = rw h.3 ([], refl, (refl, ap (λ (x : T). x ∷ []) h.2, h.1))
  next-ends s k (x ∷ xs) t l ys h = rw h.2 (x ∷ [], refl, last-goes s t k x h.0 l h.1)

  pub next-kept : (s : S) (k : T) (xs : List T) (t : S) (l : T) (ys : List T)
      → TestsNext R s k xs true t l ys
      → (x : T) × (y : T) × (later : List T) × R s x k true t y l × (xs ≡ x ∷ later)
      × (ys ≡ y ∷ later)
  next-kept s k [] t l ys h = absurd (false≢true (sym h.0))
  next-kept s k (x ∷ xs) t l ys h = (x, h.0, xs, h.1, refl, h.2)

  module _ {m : ℕ} {s t u : S} {xs ys zs : List T} (h : PairStays m s xs t ys) where
    -- The next test compares the first untested item with the last kept item.
    next-pair : {b : Bool} (a : TestsPairAt R m t ys b u zs)
        → TestsNext R t h.last h.after b u a.left a.end × (zs ≡ h.pre ++ a.left ∷ a.end)
    next-pair {b} a =
        let p = same-parts h.pre (h.last ∷ h.after) a.before (a.kept ∷ a.after)
        (omega (arith, a.place, h.kept)) (sym h.now ∙ a.was) in (
          rw (cons-head p.1, cons-tail p.1) a.asked,
          a.now ∙ ap (λ (l : List T). l ++ a.left ∷ a.end) (sym p.0),
        )

    pub pair-more : TestsPairAt R m t ys true u zs → PairStays (m + 1) s xs u zs
    pair-more a =
        let p = next-pair a in
        let n = next-kept t h.last h.after u a.left a.end p.0 in
        let pre : List T = h.pre ++ a.left ∷ [] in
        let longer : length h.pre + 1 ≡ length pre = sym (length_push h.pre a.left) in
        let flags : all-stay (length h.pre) ++ false ∷ [] ≡ all-stay (length pre) =
        replicate-append-replicate (length h.pre) 1 false ∙ ap (λ (n : ℕ). all-stay n) longer in
        let asked = last-append t u h.last (false ∷ []) (a.left ∷ n.1 ∷ []) (n.0 ∷ [])
        (last-stays t u h.last n.0 n.1 a.left n.3)
        h.done s h.first (all-stay (length h.pre)) h.pre h.asked in
        record {
          first = h.first;
          done = h.done ++ n.0 ∷ [];
          after = n.2;
          pre = pre;
          last = n.1;
          was = h.was ∙ ap (λ (l : List T). h.first ∷ l)
              (ap (λ (l : List T). h.done ++ l) n.4 ∙ sym (append_assoc h.done (n.0 ∷ []) n.2));
          asked = rw (← flags, append_assoc h.pre (a.left ∷ []) (n.1 ∷ [])) asked;
          kept = omega (arith, longer, h.kept);
          now = p.1 ∙ (ap (λ (l : List T). h.pre ++ a.left ∷ l) n.5
              ∙ sym (append_assoc h.pre (a.left ∷ []) (n.1 ∷ n.2)));
        }

    pub pair-stops : TestsPairAt R m t ys false u zs → TestsPairsUpTo R m s xs u zs
    pair-stops a =
        let p = next-pair a in
        let e = next-ends t h.last h.after u a.left a.end p.0 in
        record {
          first = h.first;
          done = h.done ++ e.0;
          kept = h.pre ++ a.left ∷ [];
          end = a.end;
          more = length h.pre;
          was = h.was ∙ ap (λ (l : List T). h.first ∷ l)
              (ap (λ (l : List T). h.done ++ l) e.1 ∙ sym (append_assoc h.done e.0 (drop 1 a.end)));
          asked = last-append t u h.last (found a.end) (a.left ∷ []) e.0 e.2 h.done s h.first
              (all-stay (length h.pre)) h.pre h.asked;
          count = h.kept;
          reached = omega (arith, length_push h.pre a.left, h.kept);
          now = p.1 ∙ sym (append_assoc h.pre (a.left ∷ []) a.end);
        }

  module _ {m : ℕ} {s t : S} {xs ys : List T} (r : TestsPairsUpTo R m s xs t ys) where
    pub run-left : take m ys ≡ r.kept
    run-left = ap (take m) r.now ∙ take_at r.kept r.end m r.reached

    pub run-end : drop m ys ≡ r.end
    run-end = ap (drop m) r.now ∙ drop_at r.kept r.end m r.reached
