-- These lemmas begin and end the proofs of methods that take `&mut self` or `&self`. They also say
-- which arguments a method gives back to its caller.
use Rattle.std.proofs.Common.{◌≡◌, true, ℕ, zero, suc, ◌+◌, ◌^◌, ◌<◌, List, [], ◌∷◌, length, refl}
use Rattle.std.proofs.Common.{sym, lit<, w64, T, Some, Option}
use seplogic.Ra.Ura.{Ura}
use base.Fml.{Fml, Lft, Share, ftrue, fsep, feq, flft, fbor, fat, fobs, fauth, fobor}
use base.Fraction.{full_share}
use base.Logic.{SProp, ent, sep, id⊢}
use base.Stored.{Gv}
use mir.Syntax.{Fn, ty_int, Args, a_type, a_number, dcons, dnil, named, Dict}
use mir.Val.{Val, vint, vptr, vunit, WT, has_ty, vcons, vnil, vstruct}
use prog.Model.{Model}
use prog.Wp.{Calls, Loops, Wp, WpFn}
use contract.Lifetimes.{Lfts, Shares, toks}
use contract.Monad.{fact}
use contract.Running.{tables, Running}
use types.ByLocal.{env}
use types.Kit.{Item, Goal, Seq, Sq, Step, step, ‵, raw, ◌⊛◌, prop, runs, at_ret, keep, ◌$◌, ◌∵◌, ! }
use types.Kit.{qed, move, use1, use3, split, join, fsplit, fsplit3, fjoin, fjoin3, feq_i, rewrite}
use types.Kit.{regoal, drop, use0, Soaks, allocs, params', post}
use types.Logic.{Logic, sem}
use types.Match.{live}
use types.Run.{enter, exec}
use types.SemTy.{Body}
use denote.Builtin.{usize, unit}
use denote.Exit.{yes}
use denote.Memory.{cell_at, mem, hidden_shr}
use denote.Param.{bounded, number}
use denote.Param.Laws.{Laws}
use denote.RattleType.{RattleType, owns, Denots, Valss}
use denote.RawPtr.{block_ptr}
use denote.Ref.{MutBor, MutRef, mut_vals, at_last}
use denote.Signature.{Slot, plain, types_at, mut_ref_to, shr_ref_to}
use denote.Steps.{nothing, heard}
use denote.Triple.End.{Kepts}
use denote.Triple.Walked.{Stays, stay_ref, stay_dropped, Goes-ref, Goes-dropped, AllGo, Silent}
use Rattle.core.specs.contracts.alloc.AllocError as AE
use Rattle.core.specs.contracts.result.Result as RS
use Rattle.core.specs.declared.alloc.Allocator.{Ghosts}
use Rattle.core.specs.declared.result.Result.TheVariants.{Err, Ok}
use Rattle.core.proofs.alloc.Calls.{Al}
use Rattle.core.proofs.alloc.Shapes.{after}
use Rattle.core.proofs.mem.Param.{El, R}
use Rattle.std_alloc.proofs.ResultValues.{err_of, ok_of}
use Rattle.thin_block.specs.Ownership.{header_owns, dealloc_right, fits_block, slots_own}
use Rattle.thin_block.proofs.HeaderMemory.{Br, header, t, block_val, header_written, Header, Slots}
use Rattle.thin_block.proofs.HeaderMemory.{block_opens, block_closes}
use Rattle.thin_block.proofs.WalkPrelude.{Facts, refused_made}

abbrev pub others : {n : ℕ} → List (Slot n) → List (Slot n)
others [] = []
others (s ∷ ss) = ss

module _ {n : ℕ} where
  -- `dropped ss ks` is the choice to give none of a function's arguments back to its caller. `ks`
  -- lists the lifetimes of references whose final values the contract may mention.
  abbrev pub dropped : (ss : List (Slot n)) (ks : Kepts ss) → Stays ss ks
  dropped [] ks = tt
  dropped (s ∷ ss) ks = (stay_dropped s ks.0, dropped ss ks.1)

module _ {M : Type 1} {𝓤 : Ura M} (𝓛 : Logic 𝓤) {n : ℕ} where
  -- `AllSilent ss ks` holds if the contract says nothing about the arguments after the call.
  abbrev pub AllSilent : (ss : List (Slot n)) → Kepts ss → Type 1
  AllSilent [] ks = Unit {1}
  AllSilent (s ∷ ss) ks = Silent 𝓛 n s ks.0 × AllSilent ss ks.1

  pub all_go : (ss : List (Slot n)) (ks : Kepts ss) → AllSilent ss ks
      → AllGo 𝓛 n ss ks (dropped ss ks)
  all_go [] ks silent = tt
  all_go (s ∷ ss) ks silent =
      (Goes-dropped 𝓛 n s ks.0 silent.0, all_go ss ks.1 silent.1)

-- `Each φs X` is the type of functions that take a proof of each fact in the list `φs`, and return
-- an `X`.
abbrev pub Each : List (Type 0) → Type 1 → Type 1
Each [] X = X
Each (φ ∷ φs) X = φ → Each φs X

each : {X Y : Type 1} (φs : List (Type 0)) → (X → Y) → Each φs X → Each φs Y
each [] f x = f x
each (φ ∷ φs) f g = λ p. each φs f (g p)

module _ {M : Type 1} {𝓤 : Ura M} {𝓛 : Logic 𝓤} {K : Type 0} {Γ : List (Item 𝓤)}
    {G : Goal 𝓤 𝓛.H} where
  -- Removes the facts `φs` from the proof context, and gives a name to each.
  pub heard_each : K → (φs : List (Type 0)) → Each φs (Seq K 𝓛 Γ G)
      → Seq K 𝓛 (raw (Facts 𝓤 φs) ∷ Γ) G
  heard_each k [] next = drop k $ next
  heard_each k (φ ∷ []) next = heard k φ next
  heard_each k (φ ∷ ψ ∷ φs) next =
      use1 𝓛 (raw (fact 𝓤 φ) ⊛ raw (Facts 𝓤 (ψ ∷ φs))) (id⊢ 𝓤 _) $ split k $
      heard k φ (λ x. heard_each k (ψ ∷ φs) (next x))

-- A contract says nothing about a number after the call.
pub still : {M : Type 1} {𝓤 : Ura M} (𝓛 : Logic 𝓤) (n : ℕ) → Silent 𝓛 n (plain (λ _. usize)) yes
still 𝓛 n κs x f = refl

-- `ptr_of r` is the address to which the reference `r` points, as a machine value.
abbrev pub ptr_of : {X : Type 0} → MutBor X → Val
ptr_of r = vptr r.ref_ptr.0 r.ref_ptr.1

abbrev pub word : {n : ℕ} → n < 2 ^ 64 → T (has_ty (ty_int w64) (vint w64 n)) × WT (vint w64 n)
word fits = (tt, record { fits = fits })

module _ {M : Type 1} {𝓤 : Ura M} {𝓛 : Logic 𝓤} {K : Type 0} {Γ : List (Item 𝓤)} where
  -- Begins the proof about the body of `f`, with the arguments `vs` one by one in place of `us`.
  pub enters : K → {C : Calls 𝓤 𝓛.H} {Λ : Loops 𝓤 𝓛.H} (f : Fn) {us : List Val}
      {P : Val → SProp 𝓤} (vs : List Val) → us ≡ vs
      → Step K 𝓛 Γ (allocs f.locals (λ E. params' E vs (runs C Λ E f.body (at_ret E P))))
      Γ (prop (WpFn 𝓤 𝓛.H C Λ f us P))
  enters k {C} {Λ} f {us} {P} vs e = step (λ s.
      regoal k (λ (us : List Val). prop (WpFn 𝓤 𝓛.H C Λ f us P)) e refl $
      enter k C Λ f vs P $ s)

-- The item type `T` with its laws, as the lemmas about blocks take it.
abbrev pub item : {T : RattleType} → Laws T → El
item {T} L = record { row = T; laws = L }

-- The allocator type `A` with its laws and its ghost members, such as `dealloc_token`.
abbrev pub source : {A : RattleType} → Laws A → Ghosts A.Denot → Dict → Dict → Al
source {A} L g d drops = record { row = A; laws = L; g = g; d = d; drops = drops }

-- The generic arguments of a function: the item type, the allocator type, and a const argument.
abbrev pub args_at : El → Al → ℕ → Args
args_at E Y N = bounded (a_type ∷ a_type ∷ a_number ∷ []) (E.row, (Y.row, (number N, tt)))
    (dcons Y.d (dcons Y.drops dnil))

module _ (E : El) (Y : Al) {n : ℕ} (ss : List (Slot (suc n))) where
  -- `on_block` lists the parameters of a method that takes `&mut self`.
  abbrev pub on_block : List (Slot (suc n))
  on_block = mut_ref_to (0 ∷ []) tt (plain (λ _. Br E Y)) ∷ ss

  -- `block_stays ks` is the choice to give only the `&mut Block` back to the caller.
  abbrev pub block_stays : (ks : Kepts ss) → Stays on_block (yes, ks)
  block_stays ks = (stay_ref (0 ∷ []) tt (plain (λ _. Br E Y)), dropped ss ks)

  pub goes : {M : Type 1} {𝓤 : Ura M} (𝓛 : Logic 𝓤) (ks : Kepts ss) → AllSilent 𝓛 ss ks
      → AllGo 𝓛 (suc n) on_block (yes, ks) (block_stays ks)
  goes 𝓛 ks silent =
      (Goes-ref 𝓛 (suc n) 0 tt (plain (λ _. Br E Y)), all_go 𝓛 ss ks silent)

module _ {M : Type 1} {𝓤 : Ura M} {𝓛 : Logic 𝓤} {K : Type 0} {Γ : List (Item 𝓤)} where
  -- Continues the proof of the function `f` after the first `k` statements of its body.
  pub continues : K → (𝓜 : Model 𝓤 𝓛.H) (𝓡 : Running 𝓤 𝓛.H 𝓜) (f : Fn) (l : ℕ → ℕ) (k : ℕ)
      (P : Val → SProp 𝓤)
      → Step K 𝓛 Γ (runs (tables 𝓤 𝓛.H 𝓜 𝓡 𝓡.env).C (tables 𝓤 𝓛.H 𝓜 𝓡 𝓡.env).Λ
      (env f.locals l) (after k f.body) (at_ret (env f.locals l) P)) Γ
      (prop (Wp 𝓤 𝓛.H (tables 𝓤 𝓛.H 𝓜 𝓡 𝓡.env).C (tables 𝓤 𝓛.H 𝓜 𝓡 𝓡.env).Λ (env f.locals l)
      (after k f.body) (post 𝓤 𝓛.H (at_ret (env f.locals l) P))))
  continues t 𝓜 𝓡 f l k P = exec t (tables 𝓤 𝓛.H 𝓜 𝓡 𝓡.env).C (tables 𝓤 𝓛.H 𝓜 𝓡 𝓡.env).Λ
      (env f.locals l) (after k f.body) (at_ret (env f.locals l) P)

module _ {n : ℕ} (s : Slot (suc n)) (ss : List (Slot (suc n))) where
  -- `Passed Bd` is the type of all that is passed to a function: lifetimes that satisfy the bounds
  -- `Bd`, shares of lifetime tokens, and the arguments with their machine values.
  abbrev Passed : (Lfts (suc n) → Type 0) → Type 0
  Passed Bd = (κs : Lfts (suc n)) × Shares (suc n) × Bd κs × Denots (types_at (s ∷ ss) κs)
      × Valss (types_at (s ∷ ss) κs)

  -- `Entry 𝓛 x` states what a function owns at the start of a call, without its `requires` clauses.
  abbrev Entry : {M : Type 1} {𝓤 : Ura M} (𝓛 : Logic 𝓤) {Bd : Lfts (suc n) → Type 0} → Passed Bd
      → SProp 𝓤
  Entry {𝓤 = 𝓤} 𝓛 x = sep 𝓤 (toks 𝓛 (suc n) x.0 x.1) (sem 𝓛 (owns (types_at (s ∷ ss) x.0) x.3 x.4))

  -- Begins the proof of a function. The proof context then holds what the arguments own, the
  -- lifetime tokens and the `requires` clauses.
  pub arrives : {M : Type 1} {𝓤 : Ura M} (𝓛 : Logic 𝓤) {Bd : Lfts (suc n) → Type 0} {P : SProp 𝓤}
      (x : Passed Bd) (Q : SProp 𝓤)
      → Sq 𝓛 (‵ ((s.row x.0).own_val x.3.0 x.4.0) ∷ ‵ (flft x.0.0 x.1.0)
      ∷ raw (toks 𝓛 n x.0.1 x.1.1) ∷ ‵ (owns (types_at ss x.0) x.3.1 x.4.1) ∷ raw Q ∷ []) (prop P)
      → ent 𝓤 (sep 𝓤 (Entry 𝓛 x) Q) P
  arrives 𝓛 x Q next = qed 𝓛 (((‵ (flft x.0.0 x.1.0) ⊛ raw (toks 𝓛 n x.0.1 x.1.1)) ⊛ ‵
      (owns (types_at (s ∷ ss) x.0) x.3 x.4)) ∷ raw Q ∷ []) ∵
      split ! $ split ! $ move ! (2 ∷ []) $ fsplit ! $ move ! (0 ∷ 2 ∷ 3 ∷ 1 ∷ []) $ next

-- `blanks m` is trivially true. It stands for `m` arguments that are not given back to the caller.
abbrev pub blanks : ℕ → Fml
blanks zero = ftrue
blanks (suc m) = fsep ftrue (blanks m)

module _ (E : El) (Y : Al) {M : Type 1} {𝓤 : Ura M} (κ : Lft) (q : Share)
    (r : MutBor (Br E Y).Denot) where
  -- `Borrowed y Γ` is a proof context that begins with the borrow of the block `y` behind `r`. This
  -- borrow has three entries, the last of which is its lifetime token.
  abbrev pub Borrowed : (Br E Y).Denot → List (Item 𝓤) → List (Item 𝓤)
  Borrowed y Γ = ‵ (fobs r.ghost_name ((Br E Y).coded.code y)) ∷ ‵
      (fbor κ (Body (mem (Br E Y)) r.ref_ptr.0 r.ref_ptr.1 r.ghost_name)) ∷ ‵ (flft κ q) ∷ Γ

  -- `Open b o u v Γ` is a proof context that begins with four entries that the comments in the
  -- proofs of the methods call the open borrow: the memory that holds the block's pointer; the
  -- right to close the borrow, with its lifetime token; two ghost resources that record the value.
  abbrev pub Open : ℕ → ℕ → Gv → Gv → List (Item 𝓤) → List (Item 𝓤)
  Open b o u v Γ = ‵
      (cell_at full_share (Br E Y).mir (block_val (block_ptr b o) ∷ []) r.ref_ptr.0 r.ref_ptr.1)
      ∷ ‵ (fobor κ q (Body (mem (Br E Y)) r.ref_ptr.0 r.ref_ptr.1 r.ghost_name)) ∷ ‵
      (fobs r.ghost_name u) ∷ ‵ (fauth r.ghost_name v) ∷ Γ

  -- `Left y us T m F` is what a method leaves that gives none of its `m` other arguments back. Its
  -- result owns `F`. The machine values of `r` are `us`, and `T` are the other lifetime tokens.
  abbrev Left : (Br E Y).Denot → List Val → Item 𝓤 → ℕ → Fml → List (Item 𝓤)
  Left y us T m F = ((‵ (flft κ q) ⊛ T) ⊛ ‵
      (fsep ((MutRef (named 0) κ (Br E Y)).own_val (at_last r y) us) (blanks m)) ⊛ ‵ F) ∷ []

module _ (E : El) (Y : Al) {M : Type 1} {𝓤 : Ura M} (𝓛 : Logic 𝓤) {n : ℕ}
    (ss : List (Slot (suc n))) where
  abbrev lent : Slot (suc n)
  lent = mut_ref_to (0 ∷ []) tt (plain (λ _. Br E Y))

  abbrev shared : Slot (suc n)
  shared = shr_ref_to (0 ∷ []) tt (plain (λ _. Br E Y))

  -- `Entered x Γ` is the proof context at the start of a method that takes `&mut self`: what the
  -- method owns, and the entries `Γ`.
  abbrev Entered : {Bd : Lfts (suc n) → Type 0} → Passed lent ss Bd → List (Item 𝓤) → List (Item 𝓤)
  Entered x Γ = Borrowed E Y x.0.0 x.1.0 x.3.0 x.3.0.now (raw (toks 𝓛 n x.0.1 x.1.1) ∷ ‵
      (owns (types_at ss x.0) x.3.1 x.4.1) ∷ Γ)

  -- Begins the proof of a method that takes `&mut self`.
  pub starts : {Bd : Lfts (suc n) → Type 0} {P : SProp 𝓤} (x : Passed lent ss Bd) (Q : SProp 𝓤)
      → Sq 𝓛 (Entered x (raw Q ∷ [])) (prop P) → ent 𝓤 (sep 𝓤 (Entry lent ss 𝓛 x) Q) P
  starts x Q next = arrives lent ss 𝓛 x Q (fsplit3 ! $ drop ! $ next)

  -- Begins the proof of a method that takes `&mut self` and requires the facts `φs`. The rest of
  -- the proof may use these facts.
  pub begins_with : {Bd : Lfts (suc n) → Type 0} {P : SProp 𝓤} (x : Passed lent ss Bd)
      (φs : List (Type 0)) → Each φs (Sq 𝓛 (Entered x []) (prop P))
      → ent 𝓤 (sep 𝓤 (Entry lent ss 𝓛 x) (Facts 𝓤 φs)) P
  begins_with x φs next = starts x (Facts 𝓤 φs)
      (move ! (5 ∷ []) $ heard_each ! φs next)

  -- Does the same as `begins_with`, but for a method that does not need what its other arguments
  -- own.
  pub begins : {Bd : Lfts (suc n) → Type 0} {P : SProp 𝓤} (x : Passed lent ss Bd)
      (φs : List (Type 0))
      → Each φs (Sq 𝓛 (Borrowed E Y x.0.0 x.1.0 x.3.0 x.3.0.now (raw (toks 𝓛 n x.0.1 x.1.1) ∷ []))
      (prop P))
      → ent 𝓤 (sep 𝓤 (Entry lent ss 𝓛 x) (Facts 𝓤 φs)) P
  begins x φs next =
      begins_with x φs (each φs (λ s. keep ! (0 ∷ 1 ∷ 2 ∷ 3 ∷ []) $ s) next)

  -- Begins the proof of a method that takes `&self`.
  pub seen : {Bd : Lfts (suc n) → Type 0} {P : SProp 𝓤} (x : Passed shared ss Bd) (Q : SProp 𝓤)
      → Sq 𝓛 (‵ (hidden_shr (Br E Y) x.0.0 x.3.0.now x.3.0.ref_ptr.0 x.3.0.ref_ptr.1)
      ∷ ‵ (flft x.0.0 x.1.0) ∷ raw (toks 𝓛 n x.0.1 x.1.1) ∷ ‵
      (owns (types_at ss x.0) x.3.1 x.4.1) ∷ raw Q ∷ []) (prop P)
      → ent 𝓤 (sep 𝓤 (Entry shared ss 𝓛 x) Q) P
  seen x Q next = arrives shared ss 𝓛 x Q (fsplit ! $ drop ! $ next)

module _ {M : Type 1} {𝓤 : Ura M} {𝓛 : Logic 𝓤} {K : Type 0} {Γ : List (Item 𝓤)}
    {G : Goal 𝓤 𝓛.H} where
  -- Separates the token of the first lifetime from the tokens of the other lifetimes.
  pub token_out : K → (n : ℕ) (κs : Lfts (suc n)) (qs : Shares (suc n))
      → Step K 𝓛 (‵ (flft κs.0 qs.0) ∷ raw (toks 𝓛 n κs.1 qs.1) ∷ Γ) G
      (raw (toks 𝓛 (suc n) κs qs) ∷ Γ) G
  token_out k n κs qs = step (λ s.
      use1 𝓛 (‵ (flft κs.0 qs.0) ⊛ raw (toks 𝓛 n κs.1 qs.1)) (id⊢ 𝓤 _) $ split k $ s)

module _ {M : Type 1} {𝓤 : Ura M} {𝓛 : Logic 𝓤} {K : Type 0} {Γ : List (Item 𝓤)}
    {G : Goal 𝓤 𝓛.H} where
  pub blank : K → (m : ℕ) → Step K 𝓛 (‵ (blanks m) ∷ Γ) G Γ G
  blank k zero = nothing k
  blank k (suc m) = step (λ s. blank k m $ nothing k $ fjoin k $ s)

module _ {M : Type 1} {𝓤 : Ura M} {𝓛 : Logic 𝓤} {K : Type 0} {G : Goal 𝓤 𝓛.H} where
  -- Ends the proof of a function that gives none of its `m` arguments back.
  pub leaves : K → {Q F : Fml} {T : Item 𝓤} (m : ℕ)
      → Step K 𝓛 (((‵ Q ⊛ T) ⊛ ‵ (blanks m) ⊛ ‵ F) ∷ []) G (‵ Q ∷ ‵ F ∷ T ∷ []) G
  leaves k m = step (λ s. move k (0 ∷ 2 ∷ []) $ join k $ blank k m $ move k (0 ∷ 2 ∷ []) $ join k $
      move k (1 ∷ 0 ∷ []) $ join k $ s)

-- `Answer` is the type `Result<(), AllocError>`. `ok_val` and `err_val` are the machine values of
-- `Ok(())` and `Err(AllocError)`.
abbrev Answer : RattleType
Answer = RS.the_row unit AE.the_row

abbrev pub ok_val : Val
ok_val = live 0 (vcons vunit vnil)

abbrev pub err_val : Val
err_val = live 1 (vcons (vstruct vnil) vnil)

pub ok_typed : WT ok_val
ok_typed = (record { fits = lit< tt }, (tt, tt))

pub err_typed : WT err_val
err_typed = (record { fits = lit< tt }, (tt, tt))

module _ (E : El) (Y : Al) {M : Type 1} {𝓤 : Ura M} {𝓛 : Logic 𝓤} {K : Type 0}
    {G : Goal 𝓤 𝓛.H} where
  -- Splits the block behind `r` into its header, its slots and the open borrow.
  pub opens_self : K → Soaks G → {Γ : List (Item 𝓤)} {κ : Lft} {q : Share}
      (r : MutBor (Br E Y).Denot)
      → ((b o : ℕ) → r.now.at ≡ block_ptr b o → fits_block (R E) (length r.now.slots) ≡ true
      → Seq K 𝓛 (‵ (Header E Y r.now b o) ∷ ‵ (Slots E Y r.now b o) ∷ Open E Y κ q r b o
      ((Br E Y).coded.code r.now) ((Br E Y).coded.code r.now) Γ) G)
      → Seq K 𝓛 (Borrowed E Y κ q r r.now Γ) G
  opens_self k z r next = block_opens E Y k z r.now r.ref_ptr.0 r.ref_ptr.1 next

  -- Puts the block behind `r` back together as the block `y`. The proof context has to begin with
  -- the slots, the header and the open borrow, in this order.
  pub closes_over : K → Soaks G → {Γ : List (Item 𝓤)} {κ : Lft} {q : Share} {u v : Gv} {c : ℕ}
      (r : MutBor (Br E Y).Denot) (y : (Br E Y).Denot) (b o : ℕ) → y.at ≡ block_ptr b o
      → length y.slots ≡ c
      → Step K 𝓛 (Borrowed E Y κ q r y Γ) G
      (‵ (slots_own (R E) y.slots b (o + 16)) ∷ ‵ (header (t E Y) (R E) y.len c y.alloc b o)
      ∷ Open E Y κ q r b o u v Γ) G
  closes_over k z r y b o at long = step (λ s.
      rewrite k 1 (λ (c : ℕ). ‵ (header (t E Y) (R E) y.len c y.alloc b o)) (sym long) refl $
      move k (1 ∷ 0 ∷ []) $ block_closes E Y k z y b o r.ref_ptr.0 r.ref_ptr.1 at $ s)

  -- Puts the block behind `r` back together as `closes_over` does, after the code has written the
  -- capacity `n` and the length `m`.
  pub header_closes : K → Soaks G → {Γ : List (Item 𝓤)} {κ : Lft} {q : Share} {u v : Gv}
      (r : MutBor (Br E Y).Denot) (y : (Br E Y).Denot) (a : Y.row.Denot) (b o n m : ℕ)
      → y.at ≡ block_ptr b o → y.alloc ≡ Some a → length y.slots ≡ n → y.len ≡ m
      → fits_block (R E) n ≡ true
      → Step K 𝓛 (Borrowed E Y κ q r y Γ) G
      (‵ (fat full_share (ty_int w64) b o (vint w64 n)) ∷ ‵
      (fat full_share (ty_int w64) b (8 + o) (vint w64 m)) ∷ ‵
      (dealloc_right (t E Y a) (R E) n b o) ∷ ‵ (slots_own (R E) y.slots b (o + 16))
      ∷ Open E Y κ q r b o u v Γ) G
  header_closes k z r y a b o n m at from long counted fits = step (λ s.
      use3 𝓛 (‵ (header_owns (t E Y a) (R E) m n b o))
      (header_written 𝓛 (t E Y a) (R E) m n b o fits) $
      rewrite k 0 (λ (i : ℕ). ‵ (header_owns (t E Y a) (R E) i n b o)) (sym counted) refl $
      rewrite k 0 (λ (d : Option Y.row.Denot). ‵ (header (t E Y) (R E) y.len n d b o)) (sym from)
      refl $
      move k (1 ∷ 0 ∷ []) $ closes_over k z r y b o at long $ s)

  -- Ends the proof of a method that takes `&mut self` and `m` further parameters.
  pub leaves_with : K → {κ : Lft} {q : Share} {us : List Val} {F : Fml} {T : Item 𝓤}
      (r : MutBor (Br E Y).Denot) (y : (Br E Y).Denot) (m : ℕ) → us ≡ mut_vals r
      → Step K 𝓛 (Left E Y κ q r y us T m F) G (Borrowed E Y κ q r y (‵ F ∷ T ∷ [])) G
  leaves_with k {us = us} r y m e = step (λ s.
      feq_i k (List Val) us (mut_vals r) e $ fjoin3 k $ blank k m $ move k (1 ∷ 0 ∷ []) $ fjoin k $
      move k (0 ∷ 2 ∷ []) $ join k $ move k (1 ∷ 2 ∷ []) $ join k $ join k $ s)

  -- Does the same as `leaves_with`, but for a method that returns `()`.
  pub leaves_unit : K → {κ : Lft} {q : Share} {us : List Val} {T : Item 𝓤}
      (r : MutBor (Br E Y).Denot) (y : (Br E Y).Denot) (m : ℕ) → us ≡ mut_vals r
      → Step K 𝓛 (Left E Y κ q r y us T m (feq (List Val) (vunit ∷ []) (vunit ∷ []))) G
      (Borrowed E Y κ q r y (T ∷ [])) G
  leaves_unit k r y m e = step (λ s.
      feq_i k (List Val) (vunit ∷ []) (vunit ∷ []) refl $ move k (1 ∷ 2 ∷ 3 ∷ 0 ∷ []) $
      leaves_with k r y m e $ s)

  -- Does the same as `leaves_with`, but for a method that returns `Ok(())`.
  pub leaves_ok : K → {κ : Lft} {q : Share} {us : List Val} {T : Item 𝓤}
      (r : MutBor (Br E Y).Denot) (y : (Br E Y).Denot) (m : ℕ) → us ≡ mut_vals r
      → Step K 𝓛 (Left E Y κ q r y us T m (Answer.own_val (Ok tt) (ok_val ∷ []))) G
      (Borrowed E Y κ q r y (T ∷ [])) G
  leaves_ok k r y m e = step (λ s.
      feq_i k (List Val) (vunit ∷ []) (vunit ∷ []) refl $
      use1 𝓛 (‵ (Answer.own_val (Ok tt) (ok_val ∷ []))) (ok_of 𝓛 unit AE.the_row tt vunit) $
      move k (1 ∷ 2 ∷ 3 ∷ 0 ∷ []) $ leaves_with k r y m e $ s)

  -- Does the same as `leaves_with`, but for a method that returns `Err(AllocError)`.
  pub leaves_err : K → {κ : Lft} {q : Share} {us : List Val} {T : Item 𝓤}
      (r : MutBor (Br E Y).Denot) (y : (Br E Y).Denot) (m : ℕ) → us ≡ mut_vals r
      → Step K 𝓛 (Left E Y κ q r y us T m (Answer.own_val (Err (record {})) (err_val ∷ []))) G
      (Borrowed E Y κ q r y (T ∷ [])) G
  leaves_err k r y m e = step (λ s.
      use0 𝓛 (‵ (AE.the_row.own_val (record {}) (vstruct vnil ∷ []))) (refused_made 𝓛) $
      use1 𝓛 (‵ (Answer.own_val (Err (record {})) (err_val ∷ [])))
      (err_of 𝓛 unit AE.the_row (record {}) (vstruct vnil)) $
      move k (1 ∷ 2 ∷ 3 ∷ 0 ∷ []) $ leaves_with k r y m e $ s)
