-- This file describes the resources that a block owns, and the resources to which a shared
-- reference to a block gives access.
use Rattle.std.specs.Prelude.{◌≡◌, ℕ, zero, suc, ◌+◌, ◌-◌, ◌*◌, List, [], ◌∷◌, length, Bool, true, false, Option}
use Rattle.std.specs.declared.option.Option.TheVariants.{Some, None}
use Rattle.std.specs.Int.{div_ceil}
use Rattle.std.specs.Mem.{type_size}
use Rattle.std.specs.Align.{type_align}
use mathlib.Core.Path.{refl}
use native.Mathlib.Omega.{arith}
use base.Fraction.{full_share}
use base.Fml.{Lft, Fml, ftrue, ffalse, fsep, fwand, fex, fat, froom, feq}
use mir.Syntax.{Ty, w64, ty_int, ty_ptr, ty_array, ty_struct, tcons, tnil}
use mir.Val.{vptr}
use mir.Raw.{raw}
use prog.Memory.{size}
use denote.RattleType.{RattleType}
use denote.Builtin.{usize}
use denote.Memory.{lone}
use denote.RawPtr.{Ptr, block_ptr, null_ptr, lies_at, room_for}
use denote.Sharing.{nothing, said, beside}
use denote.Struct.Lending.{lent_at}
use Rattle.thin_block.specs.Capacity.{fits, has_padding, in_words}

-- `is_nonempty xs` is true if the list `xs` is non-empty.
abbrev pub is_nonempty : {X : Type 0} → List X → Bool
is_nonempty [] = false
is_nonempty (x ∷ xs) = true

pub is_nonempty_same : {X Y : Type 0} (xs : List X) (ys : List Y) → length ys ≡ length xs
    → is_nonempty ys ≡ is_nonempty xs
is_nonempty_same [] [] e = refl
is_nonempty_same [] (y ∷ ys) e = absurd (omega arith)
is_nonempty_same (x ∷ xs) [] e = absurd (omega arith)
is_nonempty_same (x ∷ xs) (y ∷ ys) e = refl

-- `fits_block R c` is true if a block of `c` slots for items of the type `R` is small enough to be
-- allocated.
abbrev pub fits_block : RattleType → ℕ → Bool
fits_block R c = fits (type_size R) (type_align R) c

-- `slot_owns R x b o` is the memory of the slot `x` at the offset `o` of the allocation `b`. A
-- filled slot contains an item of the type `R`. An empty slot is uninitialized.
abbrev pub slot_owns : (R : RattleType) → Option R.Denot → ℕ → ℕ → Fml
slot_owns R (Some x) b o = lies_at R full_share (block_ptr b o) x
slot_owns R None b o = room_for (raw (lone R.mir)) (block_ptr b o)

-- `slots_own R xs b o` describes the slots `xs` for items of the type `R` in contiguous memory,
-- starting at the offset `o` of the allocation `b`.
abbrev pub slots_own : (R : RattleType) → List (Option R.Denot) → ℕ → ℕ → Fml
slots_own R [] b o = ftrue
slots_own R (x ∷ xs) b o = fsep (slot_owns R x b o) (slots_own R xs b (o + type_size R))

-- `block_type_of τ c` is the type of a whole block: a struct of the capacity, the length, and an
-- array of `c` slots for items of the type `τ`.
abbrev pub block_type_of : Ty → ℕ → Ty
block_type_of τ c = ty_struct []
    (tcons (ty_int w64) (tcons (ty_int w64) (tcons (ty_array τ c) tnil)))

-- `erased_type R` is the compiled type of items of the type `R`, with all field names erased.
abbrev pub erased_type : RattleType → Ty
erased_type R = raw (lone R.mir)

-- `block_type R c` is the type of a whole block of `c` slots for items of the type `R`.
abbrev pub block_type : RattleType → ℕ → Ty
block_type R c = block_type_of (erased_type R) c

-- `word_of τ m` is the type of a word. A word consists of `m` items of the type `τ`, and has the
-- alignment of a block.
abbrev pub word_of : Ty → ℕ → Ty
word_of τ m = ty_struct [] (tcons (ty_array τ m) (tcons (ty_array (ty_int w64) 0) tnil))

-- `words_of R` is `Some (m, k)` if `m` items of the type `R` form one word, and the header is as
-- large as `k` words. If the items form no words, `words_of R` is `None`.
abbrev pub words_of : RattleType → Option (ℕ × ℕ)
words_of R = in_words (size (erased_type R))

-- A block of `c` slots for items of the type `τ` that is not padded requests memory for one value
-- of the type `requested_type_of w τ c`. This type is an array of words if `w` is `Some`, and the
-- type of the whole block if `w` is `None`.
abbrev pub requested_type_of : Option (ℕ × ℕ) → Ty → ℕ → Ty
requested_type_of None τ c = block_type_of τ c
requested_type_of (Some w) τ c = ty_array (word_of τ w.0) (w.1 + div_ceil c w.0)

-- `header_room b o` is uninitialized memory for the capacity and the length, at the offset `o` of
-- the allocation `b`.
abbrev pub header_room : ℕ → ℕ → Fml
header_room b o = fsep (froom (ty_int w64) b o) (froom (ty_int w64) b (o + 8))

-- `unjoined_room_of τ c b o` is uninitialized memory for the capacity, the length, and `c` slots
-- for items of the type `τ`. The block is at the offset `o` of the allocation `b`.
abbrev pub unjoined_room_of : Ty → ℕ → ℕ → ℕ → Fml
unjoined_room_of τ c b o = fsep (froom (ty_int w64) b o)
    (fsep (froom (ty_int w64) b (o + 8)) (froom (ty_array τ c) b (o + 16)))

-- `unjoined_room R c b o` is `unjoined_room_of` for items of the type `R`.
abbrev pub unjoined_room : RattleType → ℕ → ℕ → ℕ → Fml
unjoined_room R c b o = unjoined_room_of (erased_type R) c b o

-- `word_wand τ m b o` is the right to convert uninitialized memory for `m` items of the type `τ`
-- into uninitialized memory for one word. The memory is at the offset `o` of the allocation `b`.
abbrev pub word_wand : Ty → ℕ → ℕ → ℕ → Fml
word_wand τ m b o = fwand (froom (ty_array τ m) b o) (froom (word_of τ m) b o)

-- `word_wands τ m w b o` contains, for each of `w` adjacent words, the right to convert memory for
-- `m` items of the type `τ` into memory for this word. The first word is at the offset `o` of the
-- allocation `b`.
abbrev pub word_wands : Ty → ℕ → ℕ → ℕ → ℕ → Fml
word_wands τ m zero b o = ftrue
word_wands τ m (suc w) b o = fsep (word_wand τ m b o) (word_wands τ m w b (o + size (word_of τ m)))

-- `header_wand τ m k b o` is the right to convert the memory of the header, which is at the offset
-- `o` of the allocation `b`, into memory for `k` words. Each word holds `m` values of the type `τ`.
abbrev pub header_wand : Ty → ℕ → ℕ → ℕ → ℕ → Fml
header_wand τ m k b o = fwand (header_room b o) (froom (ty_array (word_of τ m) k) b o)

-- `slots_wand τ m w c b o` contains everything that is needed to convert the memory of `c` slots
-- into memory for `w` words: one right for each word, and the unused memory directly after the last
-- slot. Each word consists of `m` items of the type `τ`. The first slot is at the offset `o` of the
-- allocation `b`.
abbrev pub slots_wand : Ty → ℕ → ℕ → ℕ → ℕ → ℕ → Fml
slots_wand τ m w c b o =
    fsep (word_wands τ m w b o) (froom (ty_array τ (w * m - c)) b (o + c * size τ))

-- `rejoin_wand w τ c b o` is the right to join the uninitialized parts of a block into memory for
-- the whole block. The block has `c` slots for items of the type `τ`, and is at the offset `o` of
-- the allocation `b`. If the items form words, `w` is `Some`, as `in_words` says. Otherwise, `w` is
-- `None`.
abbrev pub rejoin_wand : Option (ℕ × ℕ) → Ty → ℕ → ℕ → ℕ → Fml
rejoin_wand None τ c b o = fwand (unjoined_room_of τ c b o) (froom (block_type_of τ c) b o)
rejoin_wand (Some w) τ c b o = fsep (header_wand τ w.0 w.1 b o)
    (slots_wand τ w.0 (div_ceil c w.0) c b (o + 16))

-- `dealloc_right_of t w τ c b o` consists of the right `rejoin_wand` to convert the parts of a
-- block back into memory for the whole block, and the right `t` to free this memory. The block has
-- `c` slots for items of the type `τ`. It is at the offset `o` of the allocation `b`, and `w` says
-- how its items form words.
abbrev pub dealloc_right_of : (Ty → Ptr → Fml) → Option (ℕ × ℕ) → Ty → ℕ → ℕ → ℕ → Fml
dealloc_right_of t w τ c b o =
    fsep (rejoin_wand w τ c b o) (t (requested_type_of w τ c) (block_ptr b o))

-- `pads R c` is true if a block of `c` slots for items of the type `R` is padded.
abbrev pub pads : RattleType → ℕ → Bool
pads R c = has_padding (type_size R) (type_align R) c

-- A padded block of `c` slots for items of the type `τ` requests memory for one value of the type
-- `padded_type τ c`: an array of `c` items, an item before them, in whose place the padding and the
-- header are, and an item after them, in whose place the address of the memory is.
abbrev pub padded_type : Ty → ℕ → Ty
padded_type τ c = ty_array τ (c + 2)

-- A block of `c` slots for items of the type `τ` requests memory for one value of the type
-- `memory_type_if p w τ c`. `p` says whether the block is padded. `w` says how its items form words
-- if it is not.
abbrev pub memory_type_if : Bool → Option (ℕ × ℕ) → Ty → ℕ → Ty
memory_type_if true w τ c = padded_type τ c
memory_type_if false w τ c = requested_type_of w τ c

-- `memory_type R c` is `memory_type_if` for items of the type `R`.
abbrev pub memory_type : RattleType → ℕ → Ty
memory_type R c = memory_type_if (pads R c) (words_of R) (erased_type R) c

-- `end_of s c o` is the offset directly after the `c` slots of a block at the offset `o`. Each slot
-- takes `s` bytes.
abbrev pub end_of : ℕ → ℕ → ℕ → ℕ
end_of s c o = c * s + (o + 16)

-- `padded_right_at t τ s c b start o` consists of what a padded block owns besides its header and
-- its `c` slots for items of the type `τ` and the size `s`: the address of its memory, which is
-- stored directly after the slots; the rights to convert the memory of the header, and of this
-- address, into memory for an item; and the right `t` to free the memory. The memory begins at the
-- offset `start` of the allocation `b`, and the header is at the offset `o`.
abbrev pub padded_right_at : (Ty → Ptr → Fml) → Ty → ℕ → ℕ → ℕ → ℕ → ℕ → Fml
padded_right_at t τ s c b start o =
    fsep (fat full_share ty_ptr b (end_of s c o) (vptr b start))
    (fsep (fwand (header_room b o) (froom τ b start))
    (fsep (fwand (froom ty_ptr b (end_of s c o)) (froom τ b (end_of s c o)))
    (t (padded_type τ c) (block_ptr b start))))

-- `padded_right t τ s c b o` is `padded_right_at t τ s c b start o`, where `start` is the offset
-- one item (`s` bytes) before the first slot.
abbrev pub padded_right : (Ty → Ptr → Fml) → Ty → ℕ → ℕ → ℕ → ℕ → Fml
padded_right t τ s c b o = fex ℕ (λ start.
    fsep (feq ℕ (start + s) (o + 16)) (padded_right_at t τ s c b start o))

-- `dealloc_right_if p t w τ s c b o` is the right to free a block of `c` slots for items of the
-- type `τ` and the size `s`. `p` says whether the block is padded. `w` says how its items form
-- words if it is not.
abbrev pub dealloc_right_if : Bool → (Ty → Ptr → Fml) → Option (ℕ × ℕ) → Ty → ℕ → ℕ → ℕ → ℕ → Fml
dealloc_right_if true t w τ s c b o = padded_right t τ s c b o
dealloc_right_if false t w τ s c b o = dealloc_right_of t w τ c b o

-- `dealloc_right t R c b o` is `dealloc_right_if` for items of the type `R`.
abbrev pub dealloc_right : (Ty → Ptr → Fml) → RattleType → ℕ → ℕ → ℕ → Fml
dealloc_right t R c b o =
    dealloc_right_if (pads R c) t (words_of R) (erased_type R) (type_size R) c b o

-- `header_owns t R n c b o` is a block without its slots: the capacity `c`, the length `n`, the
-- fact that the block is small enough to be allocated, and the `dealloc_right`, which includes the
-- right `t` to free the block. Items have the type `R`, and the block is at the offset `o` of the
-- allocation `b`.
abbrev pub header_owns : (Ty → Ptr → Fml) → RattleType → ℕ → ℕ → ℕ → ℕ → Fml
header_owns t R n c b o =
    fsep (lies_at usize full_share (block_ptr b o) c)
    (fsep (lies_at usize full_share (block_ptr b (o + 8)) n)
    (fsep (feq Bool (fits_block R c) true) (dealloc_right t R c b o)))

-- `block_owns` states what a block owns. A block with an allocation owns its header, its slots, and
-- the right to free the allocation. A block without an allocation owns no memory.
abbrev pub block_owns : {D : Type 0} → (D → Ty → Ptr → Fml) → (R : RattleType) → Ptr → ℕ
    → List (Option R.Denot) → Option D → Fml
block_owns t R null_ptr n xs a = ffalse
block_owns t R (block_ptr b o) n xs None = fsep (lent_at usize (block_ptr b o) 0 [])
    (lent_at usize (block_ptr b (o + 8)) 0 [])
block_owns t R (block_ptr b o) n xs (Some a) = fsep (header_owns (t a) R n (length xs) b o)
    (slots_own R xs b (o + 16))

-- `slot_shares R x p l` states that there is a shared reference, with the lifetime `l`, to the item
-- of the type `R` in the slot `x` at the address `p`. If the slot is empty, it states nothing.
abbrev pub slot_shares : (R : RattleType) → Option R.Denot → Ptr → Lft → Fml
slot_shares R (Some x) p = lent_at R p x
slot_shares R None p = nothing

-- `slots_share R xs b o l` contains a shared reference, with the lifetime `l`, to each item of the
-- type `R` in the slots `xs`. The first slot is at the offset `o` of the allocation `b`.
abbrev pub slots_share : (R : RattleType) → List (Option R.Denot) → ℕ → ℕ → Lft → Fml
slots_share R [] b o = nothing
slots_share R (x ∷ xs) b o = beside (slot_shares R x (block_ptr b o))
    (slots_share R xs b (o + type_size R))

-- `header_shares R n c b o l` contains shared references, with the lifetime `l`, to the capacity
-- `c` and the length `n` of a block for items of the type `R`. The block is at the offset `o` of
-- the allocation `b`, and small enough to be allocated.
abbrev pub header_shares : (R : RattleType) → ℕ → ℕ → ℕ → ℕ → Lft → Fml
header_shares R n c b o =
    beside (lent_at usize (block_ptr b o) c)
    (beside (lent_at usize (block_ptr b (o + 8)) n) (said (feq Bool (fits_block R c) true)))

-- `block_shares` states what a `&` to a block lends: a `&` to the capacity, a `&` to the length,
-- and a `&` to each item in the slots.
abbrev pub block_shares : {D : Type 0} → (R : RattleType) → Ptr → ℕ
    → List (Option R.Denot) → Option D → Lft → Fml
block_shares R null_ptr n xs a = said ffalse
block_shares R (block_ptr b o) n xs None = beside (lent_at usize (block_ptr b o) 0)
    (lent_at usize (block_ptr b (o + 8)) 0)
block_shares R (block_ptr b o) n xs (Some a) = beside (header_shares R n (length xs) b o)
    (slots_share R xs b (o + 16))
