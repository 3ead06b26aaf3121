-- These lemmas say when a block may be sent to another thread (`block_send`), and when a block may
-- be shared between threads (`block_sync`).
use Rattle.std.proofs.Common.{ℕ, zero, suc, ◌+◌, List, [], ◌∷◌, length, Option, Some, None}
use base.Fml.{Fml}
use base.Shift.{Keyless}
use mir.Syntax.{Ty}
use prog.Memory.{size}
use denote.Builtin.{usize}
use denote.Param.Send.{IsSend, IsSync, Common, AllSend, AllSync, Frees, owning_send, struct_send}
use denote.Param.Send.{struct_sync, sendable}
use denote.RattleType.{RattleType}
use denote.RawPtr.{Ptr, block_ptr, null_ptr}
use denote.Struct.Owning.{shape, fields, to}
use denote.Struct.Struct.{exits_of}
use Rattle.core.specs.declared.alloc.Allocator.{Ghosts}
use Rattle.std.specs.Int.{div_ceil}
use Rattle.std.specs.Mem.{type_size}
use Rattle.std.specs.Prelude.{Bool, true, false}
use Rattle.std_alloc.proofs.SendSync.{quiet, lies, seen}
use Rattle.thin_block.specs.Ownership.{erased_type, word_of, words_of, slot_owns, slots_own}
use Rattle.thin_block.specs.Ownership.{word_wands, rejoin_wand, pads, dealloc_right_if, block_owns}
use Rattle.thin_block.specs.Ownership.{slot_shares, slots_share, block_shares}
use Rattle.thin_block.specs.contracts.block.Block as C

number_send : IsSend usize
number_send = search sendable

number_sync : IsSync usize
number_sync = search sendable

-- What is `Keyless` does not depend on the thread that owns it. What is `Common` does not depend on
-- the thread that uses the shared reference.
ways_Keyless : (τ : Ty) (m w b o : ℕ) → Keyless (word_wands τ m w b o)
ways_Keyless τ m zero b o = tt
ways_Keyless τ m (suc w) b o = ((tt, tt), ways_Keyless τ m w b (o + size (word_of τ m)))

way_back_Keyless : (w : Option (ℕ × ℕ)) (τ : Ty) (c b o : ℕ) → Keyless (rejoin_wand w τ c b o)
way_back_Keyless None τ c b o = ((tt, (tt, tt)), tt)
way_back_Keyless (Some w) τ c b o =
    (((tt, tt), tt), (ways_Keyless τ w.0 (div_ceil c w.0) b (o + 16), tt))

right_Keyless : (t : Ty → Ptr → Fml) → ((τ : Ty) (p : Ptr) → Keyless (t τ p)) → (p : Bool)
    (w : Option (ℕ × ℕ)) (τ : Ty) (s c b o : ℕ) → Keyless (dealloc_right_if p t w τ s c b o)
right_Keyless t frees true w τ s c b o =
    λ start. (tt, (tt, (((tt, tt), tt), ((tt, tt), frees _ (block_ptr b start)))))
right_Keyless t frees false w τ s c b o = (way_back_Keyless w τ c b o, frees _ (block_ptr b o))

module _ (R : RattleType) where
  place_Keyless : IsSend R → (x : Option R.Denot) (b o : ℕ) → Keyless (slot_owns R x b o)
  place_Keyless s (Some x) b o = lies R s (block_ptr b o) x
  place_Keyless s None b o = tt

  places_Keyless : IsSend R → (xs : List (Option R.Denot)) (b o : ℕ) → Keyless (slots_own R xs b o)
  places_Keyless s [] b o = tt
  places_Keyless s (x ∷ xs) b o =
      (place_Keyless s x b o, places_Keyless s xs b (o + type_size R))

  place_Common : IsSync R → (x : Option R.Denot) (p : Ptr) → Common (slot_shares R x p)
  place_Common y (Some x) p κ = seen R y p x κ
  place_Common y None p κ = tt

  places_Common : IsSync R → (xs : List (Option R.Denot)) (b o : ℕ)
      → Common (slots_share R xs b o)
  places_Common y [] b o κ = tt
  places_Common y (x ∷ xs) b o κ =
      (place_Common y x (block_ptr b o) κ, places_Common y xs b (o + type_size R) κ)

  module _ (Z : RattleType) (g : Ghosts Z.Denot) where
    block_Keyless : IsSend R → Frees g g.dealloc_token → (p : Ptr) (n : ℕ)
        (xs : List (Option R.Denot)) (a : Option Z.Denot)
        → Keyless (block_owns g.dealloc_token R p n xs a)
    block_Keyless s f null_ptr n xs a = tt
    block_Keyless s f (block_ptr b o) n xs None = (
      seen usize number_sync (block_ptr b o) 0 [],
      seen usize number_sync (block_ptr b (o + 8)) 0 [],
    )
    block_Keyless s f (block_ptr b o) n xs (Some a) = (
      (
        lies usize number_send (block_ptr b o) (length xs),
        (
          lies usize number_send (block_ptr b (o + 8)) n,
          (
            tt,
            right_Keyless (g.dealloc_token a) (f.frees a) (pads R (length xs)) (words_of R)
                (erased_type R) (type_size R) (length xs) b o,
          ),
        ),
      ),
      places_Keyless s xs b (o + 16),
    )

    block_Common : IsSync R → (p : Ptr) (n : ℕ) (xs : List (Option R.Denot)) (a : Option Z.Denot)
        → Common (block_shares R p n xs a)
    block_Common y null_ptr n xs a κ = tt
    block_Common y (block_ptr b o) n xs None κ = (
      seen usize number_sync (block_ptr b o) 0 κ,
      seen usize number_sync (block_ptr b (o + 8)) 0 κ,
    )
    block_Common y (block_ptr b o) n xs (Some a) κ = (
      (
        seen usize number_sync (block_ptr b o) (length xs) κ,
        (seen usize number_sync (block_ptr b (o + 8)) n κ, tt),
      ),
      places_Common y xs b (o + 16) κ,
    )

    pub block_send : IsSend R → IsSend Z → Frees g g.dealloc_token → IsSend (C.the_row R Z g)
    block_send s z f =
        let O = C.the_type R Z g in
        let all : AllSend (fields O) =
        (search sendable, (search sendable, (search sendable, tt))) in
        owning_send O all (λ d. block_Keyless s f d.at d.len d.slots d.alloc)
        (λ k. quiet (to O) (exits_of k (fields O)) ((struct_send (shape O) all).leaving k))

    pub block_sync : IsSync R → IsSync Z → IsSync (C.the_row R Z g)
    block_sync y z =
        let O = C.the_type R Z g in
        let all : AllSync (fields O) =
        (search sendable, (search sendable, (search sendable, tt))) in
        record {
          shared = λ d b o κ. (
            (struct_sync (shape O) all).shared (to O d) b o κ,
            block_Common y d.at d.len d.slots d.alloc κ,
          );
        }
