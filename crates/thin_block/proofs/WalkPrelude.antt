-- These lemmas are for proofs about function bodies. They state what must hold before or after a
-- part of a body is executed.
use Rattle.std.proofs.Common.{◌≡◌, ℕ, zero, suc, List, [], ◌∷◌, refl, T}
use seplogic.Ra.Ura.{Ura}
use base.Fml.{ftrue}
use base.Logic.{sep, SProp, via, emp, id⊢, ent, comm∗, emp∗, mono_l, mono_r}
use mir.Syntax.{Ty, Body}
use mir.Val.{Val, WT, vstruct, vnil, has_ty}
use prog.Wp.{Env, Calls, Loops, Wp, after_seq, after_block}
use contract.Monad.{fact, fact_i}
use types.Kit.{‵, ◌$◌, !, qed, use1, done, fjoin, prop, ◌∵◌, Item, any_q, Step, step, Post, post}
use types.Logic.{Logic, sem}
use denote.Builtin.{unit}
use denote.Exit.{Entries, all_last}
use denote.Laws.{Is, Typed}
use denote.Signature.{plain, Slot}
use denote.Steps.{nothing, owned}
use denote.Struct.Declared as Declared
use denote.Struct.Struct.{Struct, Struct-Makes}
use Rattle.core.specs.contracts.alloc.AllocError as AE

abbrev pub slot_at : {n : ℕ} → ℕ → List (Slot n) → Slot n
slot_at k [] = plain (λ _. unit)
slot_at zero (s ∷ ss) = s
slot_at (suc k) (s ∷ ss) = slot_at k ss

module _ {M : Type 1} {𝓤 : Ura M} (𝓛 : Logic 𝓤) where
  open 𝓛 use {H}

  -- `then_runs C Λ E b q` must hold before the last part `b` of a function body so that `q` holds
  -- after it. `C` and `Λ` are the tables of calls and loops, and `E` contains the local variables.
  abbrev pub then_runs : Calls 𝓤 H → Loops 𝓤 H → Env 𝓤 H → Body → Post 𝓤 H → Post 𝓤 H
  then_runs C Λ E b q = any_q (after_seq 𝓤 H (Wp 𝓤 H C Λ E b (post 𝓤 H q)) (post 𝓤 H q))

  -- `out_of_block q` must hold at the end of an inner block of statements so that `q` holds after
  -- it.
  abbrev pub out_of_block : Post 𝓤 H → Post 𝓤 H
  out_of_block q = any_q (after_block 𝓤 H (post 𝓤 H q))

-- `Facts 𝓤 φs` states the facts `φs`, which are clauses, as one entry of the proof context.
abbrev pub Facts : {M : Type 1} (𝓤 : Ura M) → List (Type 0) → SProp 𝓤
Facts 𝓤 [] = emp 𝓤
Facts 𝓤 (φ ∷ []) = fact 𝓤 φ
Facts 𝓤 (φ ∷ ψ ∷ φs) = sep 𝓤 (fact 𝓤 φ) (Facts 𝓤 (ψ ∷ φs))

-- A value of type `Shown φs` is a proof of all facts in the list `φs`.
abbrev pub Shown : List (Type 0) → Type 0
Shown [] = Unit {0}
Shown (φ ∷ []) = φ
Shown (φ ∷ ψ ∷ φs) = φ × (Shown (ψ ∷ φs))

facts_i : {M : Type 1} (𝓤 : Ura M) (φs : List (Type 0)) → Shown φs → ent 𝓤 (emp 𝓤) (Facts 𝓤 φs)
facts_i 𝓤 [] x = id⊢ 𝓤 _
facts_i 𝓤 (φ ∷ []) x = fact_i 𝓤 φ (emp 𝓤) x
facts_i 𝓤 (φ ∷ ψ ∷ φs) x =
    via 𝓤 (sep 𝓤 (emp 𝓤) (emp 𝓤)) (emp∗ 𝓤 (emp 𝓤))
    (via 𝓤 (sep 𝓤 (fact 𝓤 φ) (emp 𝓤)) (mono_l 𝓤 (emp 𝓤) (fact_i 𝓤 φ (emp 𝓤) x.0))
    (mono_r 𝓤 (fact 𝓤 φ) (facts_i 𝓤 (ψ ∷ φs) x.1)))

-- Proves several `ensures` clauses at once. The rest of the goal remains to be proved.
pub says_all : {M : Type 1} {𝓤 : Ura M} {𝓛 : Logic 𝓤} {K : Type 0} {Γ : List (Item 𝓤)} → K
    → (φs : List (Type 0)) {P : SProp 𝓤}
    → Shown φs → Step K 𝓛 Γ (prop P) Γ (prop (sep 𝓤 P (Facts 𝓤 φs)))
says_all {𝓤 = 𝓤} k φs {P} x = step (λ s. record {
  prf = via 𝓤 P s.prf
      (via 𝓤 (sep 𝓤 (emp 𝓤) P) (emp∗ 𝓤 P)
      (via 𝓤 (sep 𝓤 (Facts 𝓤 φs) P) (mono_l 𝓤 P (facts_i 𝓤 φs x)) (comm∗ 𝓤 (Facts 𝓤 φs) P)));
})

-- An `AllocError` owns nothing, so it can be created without any resource.
pub refused_made : {M : Type 1} {𝓤 : Ura M} (𝓛 : Logic 𝓤)
    → ent 𝓤 (emp 𝓤) (sem 𝓛 (AE.the_row.own_val (record {}) (vstruct vnil ∷ [])))
refused_made 𝓛 = qed 𝓛 [] ∵
    owned ! (Struct (Declared.shape AE.the_type)) (Is (Struct (Declared.shape AE.the_type)))
    (Struct-Makes 𝓛 (Declared.shape AE.the_type) tt) tt (vstruct vnil ∷ []) (tt, (refl, tt)) $
    done !

pub alone : (τ : Ty) (vs : List Val) → Typed (τ ∷ []) vs → (v : Val)
    × ((vs ≡ v ∷ []) × (T (has_ty τ v) × WT v))
alone τ [] t = absurd t
alone τ (v ∷ []) t = (v, (refl, t.0))
alone τ (v ∷ w ∷ vs) t = absurd t.1

-- A function that takes an array by value need not give anything of it back to its caller.
pub nothing_left : {M : Type 1} {𝓤 : Ura M} (𝓛 : Logic 𝓤) {X : Type 0} (xs : List X)
    (fs : Entries (λ _. Unit {0}) xs)
    → ent 𝓤 (sem 𝓛 ftrue) (sem 𝓛 (all_last (λ _. Unit {0}) (λ _ _. ftrue) xs fs))
nothing_left 𝓛 [] fs = qed 𝓛 (‵ ftrue ∷ []) ∵ done !
nothing_left 𝓛 {X} (x ∷ xs) fs = qed 𝓛 (‵ ftrue ∷ []) ∵ use1 𝓛
    (‵ (all_last (λ _. Unit {0}) (λ _ _. ftrue) xs fs.1)) (nothing_left 𝓛 xs fs.1) $
    nothing ! $ fjoin ! $ done !
