-- These lemmas split the memory of a block into its header and its slots, and put these parts back
-- together.
use Rattle.std.proofs.Common.{◌≡◌, Bool, true, ℕ, Some, None, ◌+◌, ◌*◌, ◌<◌, List, [], ◌∷◌, ◌++◌}
use Rattle.std.proofs.Common.{length, refl, sym, ap, subst, ◌∙◌, arith, w64, Option}
use seplogic.Ra.Ura.{Ura}
use base.Fml.{Lft, GName, Share, Fml, ftrue, fsep, fat, froom, flft, fbor, fwand, fobs, fauth}
use base.Fml.{fobor}
use base.Fraction.{full_share}
use base.Logic.{ent, emp, sep, wand, id⊢, never, apply∗}
use base.Stored.{Gv}
use borrow.Author.Tests.{clash}
use mir.Raw.{raw}
use mir.Syntax.{Ty, Width, Args, w8, w16, w32, w128, a_type, dcons, dnil, ty_int, ty_array, Tys}
use mir.Syntax.{tcons, tnil}
use mir.Val.{Val, vstruct, vcons, vnil, bytes, vint, of_list}
use prog.Align.{align_w, align-bytes}
use prog.Memory.{size, align, up}
use prog.Model.{rooms_at}
use prog.RawLaws.{size-raw, align-raw}
use types.Kit.{‵, ◌⊛◌, ◌$◌, ◌∵◌, !, qed, by, move, keep, drop, use0, use1, use2, split, split3}
use types.Kit.{join, fsplit, fsplit3, fjoin, rewrite, frame as keeps, assume, feq_i, feq_l, Item}
use types.Kit.{Goal, Step, step, Seq, done, raw as given_raw, Soaks}
use types.Logic.{Logic, sem}
use types.SemTy.{Body}
use denote.Builtin.{usize}
use denote.Laws.{shows}
use denote.Memory.{lone, cell_at, mem}
use denote.Param.{param, bounded}
use denote.Plain.{uint_in, uint_out}
use denote.RattleType.{RattleType}
use denote.RawPtr.{lies_at, Ptr, RawPtr, block_ptr, ptr_val, in_a_block}
use denote.Shadow.{shadow, makes_shadow}
use denote.Steps.{nothing, peeks, opens, closes}
use denote.Struct.Lending.{lent_at}
use denote.Struct.Struct.{Struct}
use Rattle.core.proofs.alloc.Calls.{Al}
use Rattle.core.proofs.mem.Param.{El, R}
use Rattle.std.specs.Align.{type_align}
use Rattle.std.specs.Mem.{type_size}
use Rattle.std.specs.Option.{is_some}
use Rattle.std.specs.Prelude.{max}
use Rattle.thin_block.specs.Capacity.{block_align, block_bytes}
use Rattle.thin_block.specs.Ownership.{is_nonempty, fits_block, slots_own, unjoined_room}
use Rattle.thin_block.specs.Ownership.{block_type, header_owns, header_room, dealloc_right}
use Rattle.thin_block.specs.Ownership.{block_owns}
use Rattle.thin_block.specs.contracts.block.Block as block
use Rattle.thin_block.proofs.sizes.SizesLemmas.{fits-none}

-- `plainly Rs` is the struct type with the field types `Rs` and an empty name. What a struct owns
-- does not depend on its name.
abbrev pub plainly : List RattleType → RattleType
plainly Rs = Struct (record { name = []; args = []; types = []; fields = Rs })

-- `block_val p` is the machine value of a block: the pointer `p`, and two fields without bytes.
abbrev pub block_val : Ptr → Val
block_val p = vstruct (vcons (ptr_val p) (vcons (vstruct vnil) (vcons (vstruct vnil) vnil)))

-- `block_own p vs` states what the fields of a block own. `vs` lists their machine values.
abbrev pub block_own : Ptr → List Val → Fml
block_own p = (plainly (RawPtr ∷ plainly [] ∷ plainly [] ∷ [])).own_val (p, (tt, (tt, tt)))

pub block_told : (p : Ptr) (vs : List Val) → shadow (block_own p vs) → vs ≡ block_val p ∷ []
block_told p vs s =
    let (_, (whole, (at, ((_, (item, _)), ((_, (handle, _)), _))))) = s in
    whole ∙ (λ i. vstruct (of_list (at i ++ (item i ++ (handle i ++ [])))) ∷ [])

block_own_made : {M : Type 1} {𝓤 : Ura M} (𝓛 : Logic 𝓤) (p : Ptr)
    → ent 𝓤 (emp 𝓤) (sem 𝓛 (block_own p (block_val p ∷ [])))
block_own_made 𝓛 p =
    makes_shadow 𝓛 (block_own p (block_val p ∷ []))
    (λ _. (tt, (tt, ((λ _. (tt, tt)), ((λ _. (tt, tt)), tt))))) (
      (ptr_val p ∷ [], (vstruct vnil ∷ [], (vstruct vnil ∷ [], tt))),
      (refl, (refl, ((tt, (refl, tt)), ((tt, (refl, tt)), tt)))),
    )

-- `Alignment a` is what these lemmas need of an alignment `a`, which is 1, 2, 4, 8 or 16.
pub record Alignment (a : ℕ) : Type 0 where
  pub widest : max 8 (max 8 (max a 1)) ≡ max 8 a
  pub most : max 16 a ≡ 16
  pub zero_up : up a 0 ≡ 0
  pub sixteen_up : up a 16 ≡ 16

alignment_at : (w : Width) → Alignment (bytes w)
alignment_at w8 = record { widest = refl; most = refl; zero_up = refl; sixteen_up = refl }
alignment_at w16 = record { widest = refl; most = refl; zero_up = refl; sixteen_up = refl }
alignment_at w32 = record { widest = refl; most = refl; zero_up = refl; sixteen_up = refl }
alignment_at w64 = record { widest = refl; most = refl; zero_up = refl; sixteen_up = refl }
alignment_at w128 = record { widest = refl; most = refl; zero_up = refl; sixteen_up = refl }

pub alignment : (τ : Ty) → Alignment (align τ)
alignment τ = subst Alignment (sym (align-bytes τ)) (alignment_at (align_w τ))

module _ (R : RattleType) (c : ℕ) where
  abbrev τ : Ty
  τ = lone R.mir

  -- `items` is the type of the memory of all slots. It is an array of possibly uninitialized items.
  abbrev pub items : Ty
  items = raw (ty_array τ c)

  pub whole_align : align (block_type R c) ≡ block_align (type_align R)
  whole_align = ap (λ (a : ℕ). max 8 (max 8 (max a 1))) (align-raw τ) ∙ (alignment τ).widest

  pub whole_size : size (block_type R c) ≡ block_bytes (type_size R) (type_align R) c
  whole_size =
      let ends : up (align items) 16 + size items ≡ max 16 (align τ) + c * size τ =
      (λ i. ((alignment items).sixteen_up ∙ sym (alignment τ).most) i + c * size-raw τ i) in
      (λ i. up (whole_align i) (ends i))

module _ {M : Type 1} {𝓤 : Ura M} (𝓛 : Logic 𝓤) (R : RattleType) where
  open 𝓛 use {H}

  -- Splits the memory of a whole block into three parts, with the right to put them back together.
  pub carve : (c b o : ℕ) → ent 𝓤 (H.room (block_type R c) b o)
      (sep 𝓤 (H.room (ty_int w64) b o)
      (sep 𝓤 (H.room (ty_int w64) b (o + 8))
      (sep 𝓤 (H.room (items R c) b (o + 16))
      (sem 𝓛 (fwand (unjoined_room R c b o) (froom (block_type R c) b o))))))
  carve c b o =
      let word : Ty = ty_int w64 in
      let τs : Tys = tcons word (tcons word (tcons (items R c) tnil)) in
      let rooms = rooms_at 𝓤 H τs 0 b o in
      let first : o + 0 ≡ o = omega arith in
      let third : o + up (align (items R c)) 16 ≡ o + 16 =
      ap (λ (k : ℕ). o + k) (alignment (items R c)).sixteen_up in
      qed 𝓛 (‵ (froom (block_type R c) b o) ∷ []) ∵
      use1 𝓛 (given_raw rooms ⊛ given_raw (wand 𝓤 rooms (H.room (block_type R c) b o)))
      (𝓛.laws.room_fields [] τs b o) $ split ! $
      use1 𝓛 (‵ (froom word b (o + 0)) ⊛ ‵ (froom word b (o + 8)) ⊛ ‵
      (froom (items R c) b (o + up (align (items R c)) 16)) ⊛ ‵ ftrue) (id⊢ 𝓤 rooms) $
      split3 ! $ move ! (2 ∷ []) $ split ! $
      rewrite ! 0 (λ (k : ℕ). ‵ (froom (items R c) b k)) third refl $
      rewrite ! 2 (λ (k : ℕ). ‵ (froom word b k)) first refl $
      move ! (2 ∷ 3 ∷ 0 ∷ 4 ∷ []) $ keeps ! $ keeps ! $ keeps ! $
      assume {P = H.room (block_type R c) b o} ! (‵ (unjoined_room R c b o)) $ fsplit3 ! $
      rewrite ! 0 (λ (k : ℕ). ‵ (froom word b k)) (sym first) refl $
      rewrite ! 2 (λ (k : ℕ). ‵ (froom (items R c) b k)) (sym third) refl $
      move ! (2 ∷ 4 ∷ []) $ join ! $ move ! (2 ∷ 0 ∷ []) $ join ! $ move ! (1 ∷ 0 ∷ []) $ join ! $
      by ! (apply∗ 𝓤 rooms (H.room (block_type R c) b o))

-- In this module, a block of `c` slots has the length `n`, and its header is at the offset `o` of
-- the allocation `b`.
module _ {M : Type 1} {𝓤 : Ura M} (𝓛 : Logic 𝓤) (t : Ty → Ptr → Fml) (R : RattleType)
    (n c b o : ℕ) where
  open 𝓛 use {H}

  -- `Half at k` is one half of the header, at the offset `at`. It contains the number `k`.
  abbrev Half : ℕ → ℕ → Fml
  Half at k = fat full_share (ty_int w64) b at (vint w64 k)

  -- Separates the memory of the header, which is unused from then on, from the right to free the
  -- block.
  pub header_unwritten : ent 𝓤 (sem 𝓛 (header_owns t R n c b o))
      (sep 𝓤 (sem 𝓛 (header_room b o)) (sem 𝓛 (dealloc_right t R c b o)))
  header_unwritten =
      qed 𝓛 (‵ (header_owns t R n c b o) ∷ []) ∵ fsplit3 ! $
      use1 𝓛 (‵ (Half o c)) (uint_out 𝓛 full_share w64 c b o) $
      use1 𝓛 (‵ (froom (ty_int w64) b o)) (𝓛.laws.at_room (ty_int w64) b o (vint w64 c)) $
      move ! (1 ∷ []) $ use1 𝓛 (‵ (Half (o + 8) n)) (uint_out 𝓛 full_share w64 n b (o + 8)) $
      use1 𝓛 (‵ (froom (ty_int w64) b (o + 8)))
      (𝓛.laws.at_room (ty_int w64) b (o + 8) (vint w64 n)) $
      move ! (2 ∷ []) $ fsplit ! $ drop ! $ move ! (2 ∷ 1 ∷ []) $ fjoin ! $ done !

  -- Joins the capacity and the length, which the code has written, with the right to free the
  -- block.
  pub header_written : fits_block R c ≡ true
      → ent 𝓤 (sep 𝓤 (sem 𝓛 (Half o c))
      (sep 𝓤 (sem 𝓛 (Half (8 + o) n)) (sem 𝓛 (dealloc_right t R c b o))))
      (sem 𝓛 (header_owns t R n c b o))
  header_written fits =
      qed 𝓛 (‵ (Half o c) ∷ ‵ (Half (8 + o) n) ∷ ‵ (dealloc_right t R c b o) ∷ []) ∵
      use1 𝓛 (‵ (lies_at usize full_share (block_ptr b o) c)) (uint_in 𝓛 full_share w64 c b o) $
      move ! (1 ∷ []) $ rewrite ! 0 (λ (k : ℕ). ‵ (Half k n))
      (let turned : 8 + o ≡ o + 8 = omega arith in turned) refl $
      use1 𝓛 (‵ (lies_at usize full_share (block_ptr b (o + 8)) n))
      (uint_in 𝓛 full_share w64 n b (o + 8)) $ move ! (2 ∷ []) $
      feq_i ! Bool (fits_block R c) true fits $ fjoin ! $ move ! (1 ∷ 0 ∷ []) $ fjoin ! $
      move ! (1 ∷ 0 ∷ []) $ fjoin ! $ done !

-- `header t R n c a b o` states what a block with the length `n` and `c` slots for items of type
-- `R` owns besides these slots. If the option `a` contains an allocator, the block owns its header
-- and the right (`t`) to free the allocation. Otherwise, the block owns a share of the static
-- header. The header is at the offset `o` of the allocation `b`.
abbrev pub header : {D : Type 0} → (D → Ty → Ptr → Fml) → RattleType → ℕ → ℕ
    → Option D → ℕ → ℕ → Fml
header t R n c None b o = fsep (lent_at usize (block_ptr b o) 0 [])
    (lent_at usize (block_ptr b (o + 8)) 0 [])
header t R n c (Some a) b o = header_owns (t a) R n c b o

pub alloc_there : {D X : Type 0} (a : Option D) (xs : List X) → is_some a ≡ is_nonempty xs
    → 0 < length xs
    → (h : D) × (a ≡ Some h)
alloc_there (Some h) xs is some = (h, refl)
alloc_there None [] is some = absurd (omega arith)
alloc_there None (x ∷ xs) is some = absurd (clash is)

pub any_some : {X : Type 0} (xs : List X) → 0 < length xs → true ≡ is_nonempty xs
any_some [] some = absurd (omega arith)
any_some (x ∷ xs) some = refl

module _ {D : Type 0} (t : D → Ty → Ptr → Fml) (R : RattleType) {M : Type 1}
    {𝓤 : Ura M} (𝓛 : Logic 𝓤) where
  header_out : (n : ℕ) (xs : List (Option R.Denot)) (a : Option D) (b o : ℕ)
      → is_some a ≡ is_nonempty xs
      → ent 𝓤 (sem 𝓛 (block_owns t R (block_ptr b o) n xs a))
      (sep 𝓤 (sem 𝓛 (header t R n (length xs) a b o)) (sem 𝓛 (slots_own R xs b (o + 16))))
  header_out n xs (Some a) b o is = id⊢ 𝓤 _
  header_out n [] None b o is = qed 𝓛 (‵ (block_owns t R (block_ptr b o) n [] None) ∷ [])
      ∵ nothing ! $ move ! (1 ∷ 0 ∷ []) $ done !
  header_out n (x ∷ xs) None b o is = absurd (clash is)

  header_in : (n : ℕ) (xs : List (Option R.Denot)) (a : Option D) (b o : ℕ)
      → ent 𝓤 (sep 𝓤 (sem 𝓛 (header t R n (length xs) a b o)) (sem 𝓛 (slots_own R xs b (o + 16))))
      (sem 𝓛 (block_owns t R (block_ptr b o) n xs a))
  header_in n xs (Some a) b o = id⊢ 𝓤 _
  header_in n xs None b o =
      qed 𝓛 (‵ (header t R n (length xs) None b o) ∷ ‵ (slots_own R xs b (o + 16)) ∷ [])
      ∵ keep ! (0 ∷ []) $ done !

module _ {D : Type 0} (t : D → Ty → Ptr → Fml) (R : RattleType) {M : Type 1} {𝓤 : Ura M}
    {𝓛 : Logic 𝓤} {K : Type 0} {Γ : List (Item 𝓤)} {G : Goal 𝓤 𝓛.H} where
  -- Learns from the header of a block that the block is small enough to be allocated.
  pub header_fits : K → (n : ℕ) (xs : List (Option R.Denot)) (a : Option D)
      (b o : ℕ) → is_some a ≡ is_nonempty xs
      → (fits_block R (length xs) ≡ true → Seq K 𝓛 (‵ (header t R n (length xs) a b o) ∷ Γ) G)
      → Seq K 𝓛 (‵ (header t R n (length xs) a b o) ∷ Γ) G
  header_fits k n xs (Some a) b o is next =
      fsplit k $ move k (1 ∷ []) $ fsplit k $ move k (1 ∷ []) $ fsplit k $ feq_l k (λ fits.
      feq_i k Bool (fits_block R (length xs)) true fits $ fjoin k $ move k (1 ∷ 0 ∷ []) $ fjoin k $
      move k (1 ∷ 0 ∷ []) $ fjoin k $ next fits)
  header_fits k n [] None b o is next = next (fits-none R)
  header_fits k n (x ∷ xs) None b o is next = absurd (clash is)

module _ (E : El) (Y : Al) where
  -- The type arguments of a block's functions.
  abbrev pub args : Args
  args = bounded (a_type ∷ a_type ∷ []) (E.row, (Y.row, tt)) (dcons Y.d (dcons Y.drops dnil))

  -- `Br` is the type of blocks with items of type `E` and an allocator of type `Y`.
  abbrev pub Br : RattleType
  Br = block.the_row (param 0 E.row) (param 1 Y.row) Y.g

  -- `t a` is the right to free memory that the allocator `a` has allocated.
  abbrev pub t : Y.row.Denot → Ty → Ptr → Fml
  t = Y.g.dealloc_token

  -- `Header x b o` is what the block `x` owns besides its slots, with its header at the offset `o`.
  abbrev pub Header : Br.Denot → ℕ → ℕ → Fml
  Header x b o = header t (R E) x.len (length x.slots) x.alloc b o

  -- `Slots x b o` is the memory of the slots of the block `x`, with its header at the offset `o`.
  abbrev pub Slots : Br.Denot → ℕ → ℕ → Fml
  Slots x b o = slots_own (R E) x.slots b (o + 16)

module _ (E : El) (Y : Al) {M : Type 1} {𝓤 : Ura M} {𝓛 : Logic 𝓤} {K : Type 0}
    {Γ : List (Item 𝓤)} {G : Goal 𝓤 𝓛.H} where
  -- Splits a block into its header and its slots.
  pub block_had : K → (x : (Br E Y).Denot) (vs : List Val)
      → ((b o : ℕ) → x.at ≡ block_ptr b o → vs ≡ block_val (block_ptr b o) ∷ []
      → fits_block (R E) (length x.slots) ≡ true
      → Seq K 𝓛 (‵ (Header E Y x b o) ∷ ‵ (Slots E Y x b o) ∷ Γ) G)
      → Seq K 𝓛 (‵ ((Br E Y).own_val x vs) ∷ Γ) G
  block_had k x vs next =
      peeks k (Br E Y) _ (shows 𝓛 (Br E Y)) x vs (λ is. fsplit k $ drop k $
      in_a_block k x.at (λ p. block_owns (t E Y) (R E) p x.len x.slots x.alloc)
      (id⊢ 𝓤 (never 𝓤)) (λ b o at.
      use1 𝓛 (‵ (Header E Y x b o) ⊛ ‵ (Slots E Y x b o))
      (header_out (t E Y) (R E) 𝓛 x.len x.slots x.alloc b o x.sound.1) $ split k $
      header_fits (t E Y) (R E) k x.len x.slots x.alloc b o x.sound.1 (λ fits.
      next b o at (block_told x.at vs is.0 ∙ ap (λ (p : Ptr). block_val p ∷ []) at) fits)))

  -- Puts the header and the slots of a block back together.
  pub block_made : K → (x : (Br E Y).Denot) (b o : ℕ) → x.at ≡ block_ptr b o
      → Step K 𝓛 (‵ ((Br E Y).own_val x (block_val (block_ptr b o) ∷ [])) ∷ Γ) G
      (‵ (Header E Y x b o) ∷ ‵ (Slots E Y x b o) ∷ Γ) G
  block_made k x b o at = step (λ s.
      use2 𝓛 (‵ (block_owns (t E Y) (R E) (block_ptr b o) x.len x.slots x.alloc))
      (header_in (t E Y) (R E) 𝓛 x.len x.slots x.alloc b o) $
      rewrite k 0 (λ (p : Ptr). ‵ (block_owns (t E Y) (R E) p x.len x.slots x.alloc)) (sym at)
      refl $
      use0 𝓛 (‵ (block_own x.at (block_val x.at ∷ []))) (block_own_made 𝓛 x.at) $
      rewrite k 0 (λ (p : Ptr). ‵ (block_own x.at (block_val p ∷ []))) at refl $ fjoin k $ s)

module _ (E : El) (Y : Al) {M : Type 1} {𝓤 : Ura M} {𝓛 : Logic 𝓤} {K : Type 0}
    {Γ : List (Item 𝓤)} {G : Goal 𝓤 𝓛.H} where
  -- Opens the borrow of a block, and splits the block as `block_had` does.
  pub block_opens : K → Soaks G → {κ : Lft} {q : Share} {γ : GName} (x : (Br E Y).Denot) (rb ro : ℕ)
      → ((b o : ℕ) → x.at ≡ block_ptr b o → fits_block (R E) (length x.slots) ≡ true
      → Seq K 𝓛 (‵ (Header E Y x b o) ∷ ‵ (Slots E Y x b o) ∷ ‵
      (cell_at full_share (Br E Y).mir (block_val (block_ptr b o) ∷ []) rb ro)
      ∷ ‵ (fobor κ q (Body (mem (Br E Y)) rb ro γ)) ∷ ‵ (fobs γ ((Br E Y).coded.code x)) ∷ ‵
      (fauth γ ((Br E Y).coded.code x)) ∷ Γ) G)
      → Seq K 𝓛 (‵ (fobs γ ((Br E Y).coded.code x)) ∷ ‵
      (fbor κ (Body (mem (Br E Y)) rb ro γ)) ∷ ‵ (flft κ q) ∷ Γ) G
  block_opens k z x rb ro next =
      opens k z (Br E Y) {h = x} rb ro
      (λ vs. move k (1 ∷ []) $ block_had E Y k x vs (λ b o at is fits.
      rewrite k 2 (λ (us : List Val). ‵ (cell_at full_share (Br E Y).mir us rb ro))
      is refl $ next b o at fits))

  -- Puts the block back together as `block_made` does, and closes its borrow.
  pub block_closes : K → Soaks G → {κ : Lft} {q : Share} {u v : Gv} {γ : GName} (x : (Br E Y).Denot)
      (b o rb ro : ℕ) → x.at ≡ block_ptr b o
      → Step K 𝓛 (‵ (fobs γ ((Br E Y).coded.code x)) ∷ ‵
      (fbor κ (Body (mem (Br E Y)) rb ro γ)) ∷ ‵ (flft κ q) ∷ Γ) G
      (‵ (Header E Y x b o) ∷ ‵ (Slots E Y x b o) ∷ ‵
      (cell_at full_share (Br E Y).mir (block_val (block_ptr b o) ∷ []) rb ro)
      ∷ ‵ (fobor κ q (Body (mem (Br E Y)) rb ro γ)) ∷ ‵ (fobs γ u) ∷ ‵ (fauth γ v) ∷ Γ) G
  block_closes k z x b o rb ro at =
      step (λ s. block_made E Y k x b o at $ move k (1 ∷ 0 ∷ []) $
      closes k z (Br E Y) x (block_val (block_ptr b o) ∷ []) rb ro $ s)
