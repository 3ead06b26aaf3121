-- These lemmas are about values of the types `Result` and `Option`. Both this crate and `thin_vec`
-- use these lemmas.
use Rattle.std.proofs.Common.{Err, None, Ok, Option, Result, Some, ◌≡◌}
use Rattle.std.specs.Prelude.{OnOk}

pub on-ok : {T E P Q : Type 0} (r : Result T E) → (P → Q) → OnOk r P → OnOk r Q
on-ok (Ok x) h p = h p
on-ok (Err e) h p = p

pub ok-err : {X E P : Type 0} (x : X) (e : E) → Ok x ≡ Err e → P
ok-err x e h = cc

pub err-same : {X E : Type 0} {d e : E} → (let r : Result X E = Err d in r) ≡ Err e → d ≡ e
err-same h = cc

pub some-same : {X : Type 0} {x y : X} → Some x ≡ Some y → x ≡ y
some-same e = cc

pub none-some : {X : Type 0} {o : Option X} {x : X} → o ≡ None → o ≡ Some x → ⊥
none-some e h = cc
