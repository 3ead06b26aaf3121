-- Lemmas about calls to `refuses`, which returns whether the allocator `Refusing` refuses a
-- request. The lemmas assume the laws of the separation logic (`Logic`).
use Rattle.std.proofs.Common.{◌≡◌, ℕ, Bool, List, [], ◌∷◌, refl, ap}
use seplogic.Ra.Ura.{Ura}
use mir.Val.{Val, vbool, vptr}
use base.Logic.{SProp, ent, sep, ex, guard, id⊢}
use base.Fml.{Lft, Share, ftrue, fsep, flft}
use prog.Memory.{Memory}
use prog.Routine.{Routine}
use types.Logic.{Logic, sem}
use contract.Monad.{Fun}
use types.Kit.{‵, raw, ◌⊛◌, some, later, ◌$◌, ◌∵◌, !, qed, move, keep, use1, split, join, pick, show, fjoin, feq_i, feq_l, check, await, updating, now as at_once, done}
use denote.RattleType.{RattleType}
use denote.Memory.{hidden_shr}
use denote.Builtin.{bool}
use denote.Steps.{nothing, only}
use denote.Triple.Statement.{Contract}
use denote.Triple.Spec.{triple_of}
use Rattle.refusing.specs.contracts.Counts as CT
use Rattle.refusing.specs.contracts.refuses as RF

-- `Row` is the type `Counts`.
abbrev pub Row : RattleType
Row = CT.the_row

module _ {M : Type 1} {𝓤 : Ura M} (𝓛 : Logic 𝓤) (at_mem : Memory → SProp 𝓤)
    (run : Routine → Fun 𝓤) where
  -- `Asks` is the contract of `refuses`.
  abbrev pub Asks : Contract 𝓤
  Asks = triple_of 𝓛 RF.signature (RF.spec 𝓛 at_mem run)

  -- `at_asks κ q c k` contains the ghost arguments for a call to `refuses`. Ghost arguments exist
  -- only in the proof. The call passes a shared reference to the counts. Here, `κ` is the lifetime
  -- of the reference, `c` is the address of the counts, and `k` is their value. The caller has a
  -- share `q` of a token, which proves that `κ` has not ended.
  abbrev pub at_asks : Lft → Share → ℕ × ℕ → Row.Denot → Asks.Ghost
  at_asks κ q c k = (
    (
      (κ, tt),
      (q, tt),
      tt,
      (record { ref_ptr = c; now = k }, tt),
      (vptr c.0 c.1 ∷ [], tt),
    ),
    tt,
  )

module _ {M : Type 1} {𝓤 : Ura M} (𝓛 : Logic 𝓤) (at_mem : Memory → SProp 𝓤) (run : Routine → Fun 𝓤)
    (κ : Lft) (q : Share) (c : ℕ × ℕ) (k : Row.Denot) where
  open 𝓛 use {H, A}

  -- If the counts are shared for the lifetime `κ`, and a token proves that `κ` has not ended, then
  -- the precondition of `refuses` holds.
  pub Asks-goes : ent 𝓤 (sep 𝓤 (sem 𝓛 (hidden_shr Row κ k c.0 c.1)) (A.lft κ q))
      ((Asks 𝓛 at_mem run).pre (at_asks 𝓛 at_mem run κ q c k))
  Asks-goes =
      qed 𝓛 (‵ (hidden_shr Row κ k c.0 c.1) ∷ ‵ (flft κ q) ∷ []) ∵ feq_i ! (List Val)
      (vptr c.0 c.1 ∷ []) (vptr c.0 c.1 ∷ []) refl $ fjoin ! $
      nothing ! $ move ! (1 ∷ []) $ fjoin ! $ nothing ! $ move ! (2 ∷ []) $ join ! $ join ! $
      nothing ! $ move ! (1 ∷ []) $ done !

  -- A call to `refuses` returns a Boolean, and gives the token of the lifetime `κ` back to the
  -- caller.
  pub Asks-gives : (v : Val) → ent 𝓤 ((Asks 𝓛 at_mem run).post (at_asks 𝓛 at_mem run κ q c k) v)
      (H.⇛ (ex 𝓤 (λ (y : Bool). guard 𝓤 (v ≡ vbool y) (A.lft κ q))))
  Asks-gives v =
      qed 𝓛 (raw ((Asks 𝓛 at_mem run).post (at_asks 𝓛 at_mem run κ q c k) v) ∷ []) ∵ updating ! $
      use1 𝓛 (later (some (λ (y : Bool). ((‵ (flft κ q) ⊛ ‵ ftrue) ⊛ ‵ (bool.own_val y (v ∷ [])))
      ⊛ some (λ (ws : Unit {0} × Unit {0}). ‵ (fsep ftrue ftrue) ⊛ ‵ ftrue)))) (id⊢ 𝓤 _) $
      await ! tt $ pick ! (λ y.
      split ! $ split ! $ move ! (1 ∷ []) $
      feq_l ! (λ e. split ! $ at_once ! $
      show ! (λ (z : Bool). guard 𝓤 (v ≡ vbool z) (A.lft κ q)) y $ check ! (ap only e) $
      keep ! (0 ∷ []) $ done !))
