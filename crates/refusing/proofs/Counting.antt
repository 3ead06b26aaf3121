-- Lemmas about calls to `granted` and `returned`, which count the blocks of the allocator
-- `Refusing`. The lemmas assume the laws of the separation logic (`Logic`).
use Rattle.std.proofs.Common.{◌≡◌, ℕ, ◌^◌, ◌<◌, List, [], ◌∷◌, refl, ap, w64}
use seplogic.Ra.Ura.{Ura}
use mir.Val.{Val, vunit, vint, vptr}
use base.Logic.{SProp, ent, sep, emp, guard, id⊢}
use base.Fml.{Lft, Share, ftrue, fsep, flft}
use prog.Memory.{Memory}
use prog.Routine.{Routine}
use types.Logic.{Logic, sem}
use contract.Monad.{Fun}
use types.Kit.{‵, raw, ◌⊛◌, some, later, ◌$◌, ◌∵◌, !, qed, move, keep, use0, use1, split, join, pick, fjoin, feq_i, feq_l, flt_i, check, await, updating, now as at_once, done}
use denote.Memory.{hidden_shr}
use denote.Builtin.{unit}
use denote.Steps.{nothing, only}
use denote.Triple.Statement.{Contract}
use denote.Triple.Spec.{triple_of}
use Rattle.std.proofs.alloc.Calls.{Answer}
use Rattle.refusing.proofs.Asks.{Row}
use Rattle.refusing.specs.contracts.granted as GR
use Rattle.refusing.specs.contracts.returned as RE

module _ {M : Type 1} {𝓤 : Ura M} (𝓛 : Logic 𝓤) (at_mem : Memory → SProp 𝓤)
    (run : Routine → Fun 𝓤) where
  -- `Granted` is the contract of `granted`.
  abbrev pub Granted : Contract 𝓤
  Granted = triple_of 𝓛 GR.signature (GR.spec 𝓛 at_mem run)

  -- `Returned` is the contract of `returned`.
  abbrev pub Returned : Contract 𝓤
  Returned = triple_of 𝓛 RE.signature (RE.spec 𝓛 at_mem run)

  -- `at_granted κ q c k n y v` contains the ghost arguments for a call to `granted`. Ghost
  -- arguments exist only in the proof. Here, `κ` is the lifetime of the shared reference to the
  -- counts, `c` is the address of the counts, and `k` is their value. `n` is the size of the block,
  -- `y` is the answer of the inner allocator, and `v` is the machine value of this answer. The
  -- caller has a share `q` of a token, which proves that `κ` has not ended.
  abbrev pub at_granted : Lft → Share → ℕ × ℕ → Row.Denot → ℕ → Answer.Denot → Val → Granted.Ghost
  at_granted κ q c k n y v = (
    (
      (κ, tt),
      (q, tt),
      tt,
      (record { ref_ptr = c; now = k }, (n, (y, tt))),
      (vptr c.0 c.1 ∷ [], (vint w64 n ∷ [], (v ∷ [], tt))),
    ),
    tt,
  )

  -- `at_returned κ q c k n` contains the ghost arguments for a call to `returned`. Ghost arguments
  -- exist only in the proof. The call passes a shared reference to the counts, and the size `n` of
  -- a block. Here, `κ` is the lifetime of the reference, `c` is the address of the counts, and `k`
  -- is their value. The caller has a share `q` of a token, which proves that `κ` has not ended.
  abbrev pub at_returned : Lft → Share → ℕ × ℕ → Row.Denot → ℕ → Returned.Ghost
  at_returned κ q c k n = (
    (
      (κ, tt),
      (q, tt),
      tt,
      (record { ref_ptr = c; now = k }, (n, tt)),
      (vptr c.0 c.1 ∷ [], (vint w64 n ∷ [], tt)),
    ),
    tt,
  )

module _ {M : Type 1} {𝓤 : Ura M} (𝓛 : Logic 𝓤) (at_mem : Memory → SProp 𝓤) (run : Routine → Fun 𝓤)
    (κ : Lft) (q : Share) (c : ℕ × ℕ) (k : Row.Denot) (n : ℕ) where
  open 𝓛 use {H, A}

  -- Suppose that the caller has a shared reference to the counts with the lifetime `κ`, and a token
  -- that proves that `κ` has not ended. Let `y` be an answer of the inner allocator to a request,
  -- and let `v` be its machine value. Then the precondition of `granted` holds for a call with this
  -- answer and the size `n`.
  pub Granted-goes : n < 2 ^ 64 → (y : Answer.Denot) (v : Val)
      → ent 𝓤 (emp 𝓤) (sem 𝓛 (Answer.own_val y (v ∷ [])))
      → ent 𝓤 (sep 𝓤 (sem 𝓛 (hidden_shr Row κ k c.0 c.1)) (A.lft κ q))
      ((Granted 𝓛 at_mem run).pre (at_granted 𝓛 at_mem run κ q c k n y v))
  Granted-goes fits y v owned =
      qed 𝓛 (‵ (hidden_shr Row κ k c.0 c.1) ∷ ‵ (flft κ q) ∷ []) ∵ feq_i ! (List Val)
      (vptr c.0 c.1 ∷ []) (vptr c.0 c.1 ∷ []) refl $ fjoin ! $
      use0 𝓛 (‵ (Answer.own_val y (v ∷ []))) owned $ nothing ! $ move ! (1 ∷ []) $ fjoin ! $
      flt_i ! n (2 ^ 64) fits $ feq_i ! (List Val) (vint w64 n ∷ []) (vint w64 n ∷ []) refl $
      fjoin ! $ fjoin ! $ move ! (1 ∷ []) $ fjoin ! $
      nothing ! $ move ! (2 ∷ []) $ join ! $ join ! $ nothing ! $ move ! (1 ∷ []) $ done !

  -- A call to `granted` returns the unit value, and gives the token of the lifetime `κ` back to the
  -- caller.
  pub Granted-gives : (y : Answer.Denot) (w v : Val)
      → ent 𝓤 ((Granted 𝓛 at_mem run).post (at_granted 𝓛 at_mem run κ q c k n y w) v)
      (H.⇛ (guard 𝓤 (v ≡ vunit) (A.lft κ q)))
  Granted-gives y w v =
      qed 𝓛 (raw ((Granted 𝓛 at_mem run).post (at_granted 𝓛 at_mem run κ q c k n y w) v) ∷ [])
      ∵ updating ! $
      use1 𝓛 (later (some
      (λ (r : Unit {0}). ((‵ (flft κ q) ⊛ ‵ ftrue) ⊛ ‵ (unit.own_val r (v ∷ []))) ⊛ some
      (λ (ws : Unit {0} × (Unit {0} × (Unit {0} × Unit {0}))).
      ‵ (fsep ftrue (fsep ftrue (fsep ftrue ftrue))) ⊛ ‵ ftrue)))) (id⊢ 𝓤 _) $ await ! tt $ pick ! (λ r.
      split ! $ split ! $ move ! (1 ∷ []) $
      feq_l ! (λ e. split ! $ at_once ! $ check ! (ap only e) $ keep ! (0 ∷ []) $ done !))

  -- If the counts are shared for the lifetime `κ`, and a token proves that `κ` has not ended, then
  -- the precondition of `returned` holds.
  pub Returned-goes : n < 2 ^ 64 → ent 𝓤 (sep 𝓤 (sem 𝓛 (hidden_shr Row κ k c.0 c.1)) (A.lft κ q))
      ((Returned 𝓛 at_mem run).pre (at_returned 𝓛 at_mem run κ q c k n))
  Returned-goes fits =
      qed 𝓛 (‵ (hidden_shr Row κ k c.0 c.1) ∷ ‵ (flft κ q) ∷ []) ∵ feq_i ! (List Val)
      (vptr c.0 c.1 ∷ []) (vptr c.0 c.1 ∷ []) refl $ fjoin ! $ nothing ! $
      flt_i ! n (2 ^ 64) fits $ feq_i ! (List Val) (vint w64 n ∷ []) (vint w64 n ∷ []) refl $
      fjoin ! $ fjoin ! $ move ! (1 ∷ []) $ fjoin ! $ nothing ! $ move ! (2 ∷ []) $ join ! $ join ! $
      nothing ! $ move ! (1 ∷ []) $ done !

  -- A call to `returned` returns the unit value, and gives the token of the lifetime `κ` back to
  -- the caller.
  pub Returned-gives : (v : Val)
      → ent 𝓤 ((Returned 𝓛 at_mem run).post (at_returned 𝓛 at_mem run κ q c k n) v)
      (H.⇛ (guard 𝓤 (v ≡ vunit) (A.lft κ q)))
  Returned-gives v =
      qed 𝓛 (raw ((Returned 𝓛 at_mem run).post (at_returned 𝓛 at_mem run κ q c k n) v) ∷ [])
      ∵ updating ! $
      use1 𝓛 (later (some
      (λ (r : Unit {0}). ((‵ (flft κ q) ⊛ ‵ ftrue) ⊛ ‵ (unit.own_val r (v ∷ []))) ⊛ some
      (λ (ws : Unit {0} × (Unit {0} × Unit {0})). ‵ (fsep ftrue (fsep ftrue ftrue)) ⊛ ‵ ftrue)))) (id⊢ 𝓤 _) $
      await ! tt $ pick ! (λ r.
      split ! $ split ! $ move ! (1 ∷ []) $
      feq_l ! (λ e. split ! $ at_once ! $ check ! (ap only e) $ keep ! (0 ∷ []) $ done !))
