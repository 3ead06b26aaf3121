-- These lemmas are steps of proofs about function bodies. They compute the addresses of slots, and
-- separate one or two slots of a block from the other slots.
use Rattle.std.proofs.Common.{◌≡◌, ℕ, zero, Some, None, ◌+◌, ◌*◌, ◌^◌, ◌<◌, ◌≤◌, List, [], ◌∷◌}
use Rattle.std.proofs.Common.{length, true, refl, sym, ap, subst, arith, w64, T}
use lib.ListN.{get_or}
use seplogic.Ra.Ura.{Ura}
use base.Fml.{Share, ftrue, fat}
use base.Fraction.{full_share}
use mir.Syntax.{Body, seq, assign, place, copy, rv_opd, int, op2, offset, mul, unsigned, size_of}
use mir.Syntax.{deref, field}
use mir.Val.{Val, vint, vptr, has_ty}
use prog.Wp.{Env, Calls, Loops, spot_of}
use types.ByLocal.{through, is, get, at, set, set_at, free_needs}
use types.Kit.{Item, Goal, Seq, Step, step, ‵, ◌⊛◌, some, given, pick, learn, runs, ◌$◌, use1, move}
use types.Kit.{split, split3, rewrite, Post, nth, del}
use types.Logic.{Logic}
use types.Part.{whole, sub, look_in}
use types.Run.{stop, fld, load, lit, bin, size_word, of_opd, assigns, Opd, from}
use denote.Memory.{lone, cell_at}
use denote.RawPtr.{block_ptr}
use Rattle.core.proofs.alloc.Calls.{Al}
use Rattle.core.proofs.mem.Param.{El, R, elτ, el_x, Good}
use Rattle.core.proofs.slice.Rows.{el_out}
use Rattle.core.proofs.slots.Leases.{uncapped}
use Rattle.thin_block.specs.Ownership.{fits_block, slot_owns as slot_place, slots_own}
use Rattle.thin_block.proofs.HeaderMemory.{Br, block_val}
use Rattle.thin_block.proofs.SlotMemory.{Slot, sz, reach, besides, slot_out, Two}

pub near : (E : El) (xs : List (Slot E)) (i : ℕ) → fits_block (R E) (length xs) ≡ true
    → i ≤ length xs → i * sz E < 2 ^ 64
near E xs i fits le = let low = reach (R E) i (length xs) fits le in omega arith

module _ (E : El) (Y : Al) {M : Type 1} {𝓤 : Ura M} {𝓛 : Logic 𝓤} {K : Type 0}
    {Γ : List (Item 𝓤)} {h s : Item 𝓤} where
  -- Evaluates an operand that reads a block's pointer through the reference in the local variable
  -- `p`.
  pub its_ptr : K → {Ev : Env 𝓤 𝓛.H} {p b o rb ro : ℕ} {q : Share}
      → at 𝓛 p (h ∷ s ∷ ‵
      (cell_at full_share (Br E Y).mir (block_val (block_ptr b o) ∷ []) rb ro) ∷ Γ)
      ≡ ‵ (fat q (spot_of 𝓤 𝓛.H Ev p).0 (spot_of 𝓤 𝓛.H Ev p).1 zero (vptr rb ro))
      → Opd K 𝓛 (h ∷ s ∷ ‵
      (cell_at full_share (Br E Y).mir (block_val (block_ptr b o) ∷ []) rb ro) ∷ Γ) Ev
      (copy (place p (deref (lone (Br E Y).mir) ∷ field 0 ∷ []))) (vptr b o)
  its_ptr k e = load k (through k e (fld k refl (stop k))) (look_in k 2 (sub k 0 refl (whole k)))

module _ {M : Type 1} {𝓤 : Ura M} (𝓛 : Logic 𝓤) (Ev : Env 𝓤 𝓛.H) where
  open 𝓛 use {H}

  -- `holds p v` states that the local variable `p` holds the value `v`.
  abbrev pub holds : ℕ → Val → Item 𝓤
  holds p v = ‵ (fat full_share (spot_of 𝓤 H Ev p).0 (spot_of 𝓤 H Ev p).1 zero v)

  -- `free p Γ` is the entry of `Γ` that allows the code to assign to the local variable `p`.
  abbrev pub free : ℕ → List (Item 𝓤) → Item 𝓤
  free p Γ = nth 𝓛 0 (free_needs 𝓛 (((spot_of 𝓤 H Ev p).0, (spot_of 𝓤 H Ev p).1) ∷ [])
      (at 𝓛 p Γ ∷ ‵ ftrue ∷ []))

  -- `Takes p v` holds if the value `v` has the type of the local variable `p`.
  abbrev pub Takes : ℕ → Val → Type 0
  Takes p v = T (has_ty (spot_of 𝓤 H Ev p).0 v)

  module _ (Γ : List (Item 𝓤)) (E : El) (b o i p₃ p₄ : ℕ) where
    -- The computation of `p.add(i)` stores `i` times the item size in the local variable `p₃`, and
    -- then the address of item `i` in `p₄`. `far` and `gone` are `Γ` after these two statements.
    abbrev far : List (Item 𝓤)
    far = set 𝓛 p₃ (holds p₃ (vint w64 (i * sz E))) Γ

    abbrev pub gone : List (Item 𝓤)
    gone = set 𝓛 p₄ (holds p₄ (vptr b (i * sz E + o))) far

    -- `goes_by p pᵢ` lists the context entries that the computation of `p.add(i)` reads or
    -- replaces, and `goes_with p pᵢ` lists what these entries must be. The local variable `p` holds
    -- the address of the first item, and `pᵢ` holds the index `i`.
    abbrev pub goes_by : ℕ → ℕ → List (Item 𝓤)
    goes_by p pᵢ = at 𝓛 pᵢ Γ ∷ at 𝓛 p₃ Γ ∷ at 𝓛 p far ∷ at 𝓛 p₃ far ∷ at 𝓛 p₄ far ∷ []

    abbrev pub goes_with : ℕ → ℕ → List (Item 𝓤)
    goes_with p pᵢ = holds pᵢ (vint w64 i) ∷ free p₃ Γ ∷ holds p (vptr b o)
        ∷ holds p₃ (vint w64 (i * sz E)) ∷ free p₄ far ∷ []

  module _ (Γ : List (Item 𝓤)) (E : El) (b o i p₁ p₂ : ℕ) where
    -- `first` and `turned` are `Γ` after the address of slot 0 has been stored in `p₁`, and then in
    -- `p₂`.
    abbrev first : List (Item 𝓤)
    first = set 𝓛 p₁ (holds p₁ (vptr b (o + 16))) Γ

    abbrev pub turned : List (Item 𝓤)
    turned = set 𝓛 p₂ (holds p₂ (vptr b (o + 16))) first

    -- `meets` and `needs` are like `goes_by` and `goes_with`, for the address of a slot. Here, `p`
    -- holds the block's pointer.
    abbrev pub meets : ℕ → ℕ → ℕ → ℕ → List (Item 𝓤)
    meets p₃ p₄ p pᵢ = at 𝓛 p Γ ∷ at 𝓛 p₁ Γ ∷ at 𝓛 p₁ first ∷ at 𝓛 p₂ first
        ∷ goes_by turned E b (o + 16) i p₃ p₄ p₂ pᵢ

    abbrev pub needs : ℕ → ℕ → ℕ → ℕ → List (Item 𝓤)
    needs p₃ p₄ p pᵢ = holds p (vptr b o) ∷ free p₁ Γ ∷ holds p₁ (vptr b (o + 16)) ∷ free p₂ first
        ∷ goes_with turned E b (o + 16) i p₃ p₄ p₂ pᵢ

module _ (E : El) {M : Type 1} {𝓤 : Ura M} {𝓛 : Logic 𝓤} {K : Type 0} {Γ : List (Item 𝓤)} where
  open 𝓛 use {H}

  -- Symbolically executes the two statements that compute `p.add(i)`.
  pub moves_on : K → {C : Calls 𝓤 H} {Λ : Loops 𝓤 H} {Ev : Env 𝓤 H} {q : Post 𝓤 H} {rest : Body}
      {p pᵢ p₃ p₄ : ℕ} (b o i : ℕ) → i * sz E < 2 ^ 64
      → goes_by 𝓛 Ev Γ E b o i p₃ p₄ p pᵢ ≡ goes_with 𝓛 Ev Γ E b o i p₃ p₄ p pᵢ
      → Takes 𝓛 Ev p₃ (vint w64 (i * sz E)) × Takes 𝓛 Ev p₄ (vptr b (i * sz E + o))
      → Step K 𝓛 (gone 𝓛 Ev Γ E b o i p₃ p₄) (runs C Λ Ev rest q) Γ (runs C Λ Ev
      (seq (assign (place p₃ []) (op2 (mul unsigned) (copy (place pᵢ [])) (size_of (elτ E))))
      (seq (assign (place p₄ []) (op2 offset (copy (place p [])) (copy (place p₃ [])))) rest)) q)
  moves_on k {Ev = Ev} {p = p} {pᵢ = pᵢ} {p₃ = p₃} {p₄ = p₄} b o i fm met ts =
      let s : ℕ = sz E in
      step (λ rest.
      assigns k (is k (bin k (get k (ap (nth 𝓛 0) met)) (size_word k)
      (record { fits = subst (λ (n : ℕ). n < 2 ^ 64) (sym (uncapped i s fm)) fm }))
      (ap (vint w64) (uncapped i s fm)))
      (from k (stop k)) (set_at k p₃ (ap (nth 𝓛 1) met) (ts.0, record { fits = fm })) $
      assigns k (bin k (get k (ap (nth 𝓛 2) met)) (get k (ap (nth 𝓛 3) met)) tt)
      (from k (stop k)) (set_at k p₄ (ap (nth 𝓛 4) met) (ts.1, tt)) $
      rest)

module _ (E : El) {M : Type 1} {𝓤 : Ura M} {𝓛 : Logic 𝓤} {K : Type 0} {Γ : List (Item 𝓤)} where
  open 𝓛 use {H}

  -- Symbolically executes the four statements that compute
  -- `(p.add(HEADER_WORDS) as *mut T).add(i)`.
  pub slot_found : K → {C : Calls 𝓤 H} {Λ : Loops 𝓤 H} {Ev : Env 𝓤 H} {q : Post 𝓤 H} {rest : Body}
      {p pᵢ p₁ p₂ p₃ p₄ : ℕ} (b o i : ℕ) → i * sz E < 2 ^ 64
      → meets 𝓛 Ev Γ E b o i p₁ p₂ p₃ p₄ p pᵢ ≡ needs 𝓛 Ev Γ E b o i p₁ p₂ p₃ p₄ p pᵢ
      → (Takes 𝓛 Ev p₁ (vptr b (o + 16)) × Takes 𝓛 Ev p₂ (vptr b (o + 16)))
      × (Takes 𝓛 Ev p₃ (vint w64 (i * sz E)) × Takes 𝓛 Ev p₄ (vptr b (i * sz E + (o + 16))))
      → Step K 𝓛 (gone 𝓛 Ev (turned 𝓛 Ev Γ E b o i p₁ p₂) E b (o + 16) i p₃ p₄)
      (runs C Λ Ev rest q) Γ (runs C Λ Ev
      (seq (assign (place p₁ []) (op2 offset (copy (place p [])) (int w64 16)))
      (seq (assign (place p₂ []) (rv_opd (copy (place p₁ []))))
      (seq (assign (place p₃ []) (op2 (mul unsigned) (copy (place pᵢ [])) (size_of (elτ E))))
      (seq (assign (place p₄ []) (op2 offset (copy (place p₂ [])) (copy (place p₃ [])))) rest)))) q)
  slot_found k {Ev = Ev} {p₁ = p₁} {p₂ = p₂} b o i fm met ts =
      let plus : 16 + o ≡ o + 16 = omega arith in
      step (λ rest.
      assigns k (is k (bin k (get k (ap (nth 𝓛 0) met)) (lit k tt) tt) (ap (vptr b) plus))
      (from k (stop k)) (set_at k p₁ (ap (nth 𝓛 1) met) (ts.0.0, tt)) $
      assigns k (of_opd k (get k (ap (nth 𝓛 2) met))) (from k (stop k))
      (set_at k p₂ (ap (nth 𝓛 3) met) (ts.0.1, tt)) $
      moves_on E k b (o + 16) i fm
      (ap (λ Δ. del 𝓛 0 (del 𝓛 0 (del 𝓛 0 (del 𝓛 0 Δ)))) met) ts.1 $ rest)

module _ (E : El) {M : Type 1} {𝓤 : Ura M} {𝓛 : Logic 𝓤} {K : Type 0} {Γ : List (Item 𝓤)}
    {G : Goal 𝓤 𝓛.H} {h : Item 𝓤} where
  pub takes_slot : K → {x : Slot E} (b o : ℕ) (xs : List (Slot E)) (i : ℕ) → i < length xs
      → get_or xs i None ≡ x
      → Step K 𝓛 (‵ (slot_place (R E) x b (i * sz E + o)) ∷ ‵ (besides E 𝓛 b o xs i) ∷ h ∷ Γ) G
      (h ∷ ‵ (slots_own (R E) xs b o) ∷ Γ) G
  takes_slot k b o xs i within e = step (λ rest.
      move k (1 ∷ []) $ use1 𝓛
      (‵ (slot_place (R E) (get_or xs i None) b (i * sz E + o)) ⊛ ‵ (besides E 𝓛 b o xs i))
      (slot_out E 𝓛 b o xs i within) $ split k $
      rewrite k 0 (λ (x : Slot E). ‵ (slot_place (R E) x b (i * sz E + o))) e refl $ rest)

module _ (E : El) {M : Type 1} (𝓤 : Ura M) where
  -- `Bits b o v` says that the machine value `v` of an item is at the offset `o` of the allocation
  -- `b`.
  abbrev Bits : ℕ → ℕ → Val → Item 𝓤
  Bits b o v = ‵ (fat full_share (elτ E) b o v)

  -- `Owned x v` states which resources the item `x` owns if its machine value is `v`.
  abbrev Owned : el_x E → Val → Item 𝓤
  Owned x v = ‵ (E.row.own_val x (v ∷ []))

module _ (E : El) {M : Type 1} {𝓤 : Ura M} {𝓛 : Logic 𝓤} {K : Type 0} {Γ : List (Item 𝓤)}
    {G : Goal 𝓤 𝓛.H} {h : Item 𝓤} where
  -- Splits the filled slot `i` off, into the bytes of its item and the resources of the item.
  pub takes_item : K → {x : el_x E} (b o : ℕ) (xs : List (Slot E)) (i : ℕ) → i < length xs
      → get_or xs i None ≡ Some x
      → ((v : Val) → Good E v → Seq K 𝓛 (Bits E 𝓤 b (i * sz E + o) v ∷ Owned E 𝓤 x v
      ∷ ‵ (besides E 𝓛 b o xs i) ∷ h ∷ Γ) G)
      → Seq K 𝓛 (h ∷ ‵ (slots_own (R E) xs b o) ∷ Γ) G
  takes_item k {x} b o xs i within e next =
      takes_slot E k b o xs i within e $
      use1 𝓛 (some (λ (v : Val). given (Good E v) (Bits E 𝓤 b (i * sz E + o) v ⊛ Owned E 𝓤 x v)))
      (el_out E 𝓛 b x (i * sz E + o)) $ pick k (λ v. learn k (λ good. split k $ next v good))

  pub takes_two : K → {x y : el_x E} (b o : ℕ) (xs : List (Slot E)) (i j : ℕ)
      (p : Two E 𝓛 b o xs i j) → (get_or xs i None ≡ Some x) × (get_or xs j None ≡ Some y)
      → ((v w : Val) → Good E v → Good E w → Seq K 𝓛 (Bits E 𝓤 b (j * sz E + o) w ∷ Owned E 𝓤 y w
      ∷ Bits E 𝓤 b (i * sz E + o) v ∷ Owned E 𝓤 x v ∷ ‵ p.Rest ∷ h ∷ Γ) G)
      → Seq K 𝓛 (h ∷ ‵ (slots_own (R E) xs b o) ∷ Γ) G
  takes_two k {x} {y} b o xs i j p e next =
      let here : ℕ = i * sz E + o in
      let there : ℕ = j * sz E + o in
      move k (1 ∷ []) $ use1 𝓛 (‵ (slot_place (R E) (get_or xs i None) b here) ⊛ ‵
      (slot_place (R E) (get_or xs j None) b there) ⊛ ‵ p.Rest) p.out $ split3 k $
      rewrite k 0 (λ (c : Slot E). ‵ (slot_place (R E) c b here)) e.0 refl $
      rewrite k 1 (λ (c : Slot E). ‵ (slot_place (R E) c b there)) e.1 refl $
      use1 𝓛 (some (λ (v : Val). given (Good E v) (Bits E 𝓤 b here v ⊛ Owned E 𝓤 x v)))
      (el_out E 𝓛 b x here) $ pick k (λ v. learn k (λ good. split k $ move k (2 ∷ []) $
      use1 𝓛 (some (λ (w : Val). given (Good E w) (Bits E 𝓤 b there w ⊛ Owned E 𝓤 y w)))
      (el_out E 𝓛 b y there) $ pick k (λ w. learn k (λ good'. split k $ next v w good good'))))
