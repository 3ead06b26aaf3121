-- The closure may change the last item, even if this item then remains in the list.
use Rattle.std.proofs.Common.{◌≡◌, ℕ, ◌-◌, suc, true, false, inr, List, [], ◌∷◌, ◌++◌, length, take, take_all, get_or, Some, refl, sym, ap, subst, ◌∙◌, arith}
use Rattle.std.proofs.Math.Seq.{take-suc, take-suc-set}
use Rattle.std.proofs.lemmas.List.{same_from_push}
use Rattle.std.specs.Fn.{FnOnceReturnsAtMut}
use lib.ListN.{set, length-set}
use Rattle.thin_vec.proofs.list.ThinVec.pop_if.Goals as goal

last : {T : Type 0} (xs : List T) (n : ℕ) (x y : T) → length xs ≡ suc n → x ≡ get_or xs n x
    → (xs ≡ take n xs ++ x ∷ []) × (set xs n y ≡ take n xs ++ y ∷ [])
last xs n x y all is = (
  sym (take_all (suc n) xs (omega (arith, all)))
      ∙ (take-suc xs n x (omega (arith, all)) ∙ ap (λ z. take n xs ++ z ∷ []) (sym is)),
  sym (take_all (suc n) (set xs n y) (omega (arith, all, length-set xs n y)))
      ∙ take-suc-set xs n y (omega (arith, all)),
)

pub returns-then-predicate-clause-value : goal.returns-then-predicate-clause-value
returns-then-predicate-clause-value g c =
    let xs = c.args.self.now.items in
    let n = c.len-len.result - 1 in
    let x = c.index_mut.result.now in
    let y = c.predicate.new.arg2 in
    let parts = last xs n x y
    (omega (arith, c.len-len.ensures.value, c.if-len-eq0.false)) c.index_mut.ensures.value in
    let gave : FnOnceReturnsAtMut g.P.FnOnce c.args.predicate x c.predicate.result y =
    record { shown = _; shows = refl; left = _; met = c.predicate.ensures; leaves = refl } in
    let same = same_from_push c.pop_last.new.self.items (take n xs) c.pop_last.result y
    (sym c.pop_last.ensures.items ∙ parts.1) in
    inr (
      take n xs,
      x,
      true,
      y,
      parts.0,
      subst (λ b. FnOnceReturnsAtMut g.P.FnOnce c.args.predicate x b y) c.if-predicate.true gave,
      ap Some same.1,
      same.0,
    )

pub returns-clause-value : goal.returns-clause-value
returns-clause-value g c =
    let xs = c.args.self.now.items in
    let n = c.len-len.result - 1 in
    let x = c.index_mut.result.now in
    let y = c.predicate.new.arg2 in
    let parts = last xs n x y
    (omega (arith, c.len-len.ensures.value, c.if-len-eq0.false)) c.index_mut.ensures.value in
    let gave : FnOnceReturnsAtMut g.P.FnOnce c.args.predicate x c.predicate.result y =
    record { shown = _; shows = refl; left = _; met = c.predicate.ensures; leaves = refl } in
    inr (
      take n xs,
      x,
      false,
      y,
      parts.0,
      subst (λ b. FnOnceReturnsAtMut g.P.FnOnce c.args.predicate x b y) c.if-predicate.false gave,
      refl,
      parts.1,
    )
