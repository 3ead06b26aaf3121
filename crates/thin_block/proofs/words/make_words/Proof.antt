-- This file proves the contract of `make_words`, which makes `n` words of the items in place, one
-- word in each turn of its loop. The memory of a word is the memory of its items.
--
-- The proof has six stages. A stage ends with the next one, so the last one comes first.
--
-- 1. `make_words_spec` takes the arguments and the facts of the contract.
-- 2. `from_ptr` excludes that the pointer is null.
-- 3. `runs_by` enters the function and begins the loop.
-- 4. `turns_at` is one turn: it makes a word, or ends the loop and returns if no items are left.
-- 5. `makes_one` reads the items of the next word, and writes the word over them.
-- 6. `ends_turn` adds the word to those before it, counts it, and ends the turn.
use Rattle.std.proofs.Common.{◌≡◌, refl, sym, ap, ◌∙◌, List, [], ◌∷◌, map, ℕ, suc, ◌+◌, ◌-◌, ◌*◌}
use Rattle.std.proofs.Common.{◌<◌, ◌^◌, arith, lit<, length, w64}
use mathlib.Core.WellFounded.InvImage
use native.Mathlib.Nat.{suc-mul, zero-mul}
use lib.Dec.{ltb→lt, nltb→le}
use lib.WfN.{lt-wf_rel}
use seplogic.Ra.Ura.{Ura}
use base.Fml.{Lft, Share, Fml, ftrue, fat, flft, froom}
use base.Fraction.{full_share}
use base.Logic.{SProp, ent, emp, sep, wand, never_e, apply∗}
use borrow.Table.OneValue.{part_out, part_in}
use mir.MapTy.{inst_fn}
use mir.Raw.{raw as bare}
use mir.Syntax.{Ty, Fn, Body, Args, a_type, a_number, ty_int, ty_array}
use mir.Val.{Val, vunit, vint, vptr}
use prog.Memory.{size}
use prog.RawLaws.{size-raw}
use prog.Wp.{Env, Wp, WpFn, Tables, after_seq, after_block, Out, at_return, after_turn}
use contract.BorrowLft.{◌⊑◌}
use contract.Monad.{fact}
use contract.Running.{tables, tables_of}
use types.ByLocal.{alloc_all, pass_all, free_all, look_at, get, through, sets, sets_last, env}
use types.ByLocal.{holding, forget_but, take_at, give_at}
use types.Kit.{Item, Sq, any_q, runs, ‵, raw, ◌⊛◌, some as exists, prop, at_ret, ◌$◌, ◌∵◌, !, qed}
use types.Kit.{by, move, keep, drop, use0, use1, use2, join, split, pick, rewrite, fsplit, fjoin}
use types.Kit.{feq_i, assume, suffices, done}
use types.Logic.{Logic, sem}
use types.Part.{agg}
use types.Run.{stop, look, load, lit, bin, unit_lit, of_opd, no_more, and_then, init, assigns_last}
use types.Run.{first, blocks, skips, branches, exec, returns, enter, size_lit, jumps, loops, again}
use types.Run.{Below}
use denote.Builtin.{usize}
use denote.Exit.{yes}
use denote.Laws.{Is, shows}
use denote.Memory.{part_at}
use denote.Param.{layout, layouts, number}
use denote.Param.Laws.{param_laws, array_at_laws}
use denote.Plain.{uint_vals, uint_Tells}
use denote.RattleType.{RattleType, owns}
use denote.RawPtr.{Ptr, RawPtr, block_ptr, null_ptr, ptr_val, rawptr_vals, rawptr_Tells}
use denote.Signature.{plain}
use denote.Steps.{heard, nothing, peeks}
use denote.Triple.Clauses.{Ended}
use denote.Triple.Walked.{Stays, stay_dropped, walk_of, ends_at, Goes-dropped}
use Rattle.core.proofs.alloc.Shapes.{after, head}
use Rattle.core.proofs.mem.Param.{El, R, el_x}
use Rattle.core.proofs.ptr.Rows.{times_below, one_more, one_below}
use Rattle.std.proofs.raw_atomic.Walks.{proved}
use Rattle.std.specs.Mem.{type_size}
use Rattle.thin_block.specs.Ownership.{slots_own, word_of}
use Rattle.thin_block.specs.Slots.{filled_slots}
use Rattle.thin_block.specs.Words.{word, chunks_at, chunks_from, words_from}
use Rattle.thin_block.specs.contracts.words.make_words as F
use Rattle.thin_block.specs.contracts.words.make_words.Key.{name as #self}
use Rattle.thin_block.proofs.words.OneWord.{chunk_type, word_val, word_fits, word_made}
use Rattle.thin_block.proofs.words.WordsMemory.{word_row, number_of_items}
use Rattle.thin_block.proofs.words.make_words.Code as code
use Rattle.thin_block.proofs.words.make_words.Statement as stated

module _ (E : El) (m : ℕ) where
  abbrev args : Args
  args = layouts (a_type ∷ a_number ∷ []) (E.row, (number m, tt))

  abbrev fn' : Fn
  fn' = inst_fn args code.function

  -- `turn` is the body of the loop. Its first two statements test whether an item is left, the
  -- third makes a word, and the last one counts it.
  abbrev turn : Body
  turn = head (head (head (after 1 fn'.body)))

  abbrev ended : Ended
  ended = F.ended E.row (number m)

  abbrev stayed : Stays ended.signature.params ended.kept
  stayed = (stay_dropped _ yes, (stay_dropped _ yes, tt))

  -- `Chunks` is the type of lists of words in which each word is given as the list of its items.
  abbrev Chunks : Type 0
  Chunks = List (List (el_x E))

  abbrev N : RattleType
  N = number_of_items m

module _ (E : El) (m : ℕ) {M : Type 1} {𝓤 : Ura M} (𝓛 : Logic 𝓤) (𝓣 : Tables 𝓤 𝓛.H)
    (κ κ' : Lft) (q q' : Share) (Post : Val → SProp 𝓤) (n : ℕ) (g : Chunks E m) where
  open 𝓛 use {H, A}

  abbrev σ : Ty
  σ = ty_array (layout E.row) m

  abbrev τ' : Ty
  τ' = bare (layout E.row)

  abbrev s : ℕ
  s = size σ

  abbrev Tokens : Item 𝓤
  Tokens = ‵ (flft κ q) ⊛ ‵ (flft κ' q') ⊛ ‵ ftrue

  -- `Exits p` states that what must hold at the return follows from the words at `p`.
  abbrev Exits : Ptr → Type 1
  Exits p = Sq 𝓛 (‵ (words_from (R E) (N E m) g p) ∷ Tokens ∷ []) (prop (Post vunit))

  -- `Goes p` states that the function may be called with the items at `p`.
  abbrev Goes : Ptr → Type 1
  Goes p = Sq 𝓛 (‵ (chunks_from (R E) (N E m) g p) ∷ Tokens ∷ [])
      (prop (WpFn 𝓤 H 𝓣.C 𝓣.Λ (fn' E m) (ptr_val p ∷ vint w64 n ∷ []) Post))

  module _ (b o : ℕ) (fn : n < 2 ^ 64) (fb : n * s < 2 ^ 64)
      (dense : type_size (word_row E.row m) ≡ s) (exits : Exits (block_ptr b o)) where
    abbrev Rest : Chunks E m → ℕ → Fml
    Rest xss at = chunks_at (R E) (N E m) xss b at

    abbrev Made : Chunks E m → ℕ → Fml
    Made xss at = slots_own (word_row E.row m) (filled_slots (map (word (R E) (N E m)) xss)) b at

    abbrev To : Fml
    To = Made g o

    -- `Then xss at` is the right to join the words from the offset `at` onward, which hold the
    -- items `xss`, with all words before them.
    abbrev Then : Chunks E m → ℕ → SProp 𝓤
    Then xss at = wand 𝓤 (sem 𝓛 (Made xss at)) (sem 𝓛 To)

    -- A state of the loop: the number `i` of words that have been made, the items `xss` of the
    -- other words, and a proof that these are all `n` words.
    abbrev Left : Type 0
    Left = (i : ℕ) × ((xss : Chunks E m) × (i + length xss ≡ n))

    abbrev Nearer : Left → Left → Type 0
    Nearer t u = n - t.0 < n - u.0

    abbrev here : ℕ → ℕ
    here i = i * s + o

    same : size (word_of τ' m) ≡ s
    same = size-raw (layout (word_row E.row m)) ∙ dense

    further : (i : ℕ) → here i + size (word_of τ' m) ≡ here (suc i)
    further i = let e = same in omega (arith, suc-mul i s)

    -- The right `Then` for the later words follows from this right for one word more, and this
    -- word.
    onward : (i : ℕ) (xs : List (el_x E)) (xss : Chunks E m)
        → ent 𝓤 (sep 𝓤
        (sem 𝓛 (part_at (word_row E.row m) full_share (word (R E) (N E m) xs) b (here i)))
        (Then (xs ∷ xss) (here i))) (Then xss (here (suc i)))
    onward i xs xss =
        let first : Fml =
        part_at (word_row E.row m) full_share (word (R E) (N E m) xs) b (here i) in
        let next : here (suc i) ≡ here i + type_size (word_row E.row m) =
        sym (further i) ∙ ap (λ (x : ℕ). here i + x) (size-raw (layout (word_row E.row m))) in
        qed 𝓛 (‵ first ∷ raw (Then (xs ∷ xss) (here i)) ∷ []) ∵
        assume {P = sem 𝓛 To} ! (‵ (Made xss (here (suc i)))) $
        rewrite ! 0 (λ (x : ℕ). ‵ (Made xss x)) next refl $ move ! (1 ∷ 0 ∷ []) $ fjoin ! $
        by ! (apply∗ 𝓤 (sem 𝓛 (Made (xs ∷ xss) (here i))) (sem 𝓛 To))

    module _ (l : ℕ → ℕ) where
      abbrev En : Env 𝓤 H
      En = env (fn' E m).locals l

      -- The local variables 1, 2 and 3 hold the pointer, `count` and `i`.
      abbrev known : ℕ → List (ℕ × Val)
      known i = (1, vptr b o) ∷ (2, vint w64 n) ∷ (3, vint w64 i) ∷ []

      -- `Now t` is what the function owns at the beginning of a turn.
      abbrev Now : Left → List (Item 𝓤)
      Now t = ‵ (Rest t.1.0 (here t.0)) ∷ raw (Then t.1.0 (here t.0)) ∷ Tokens
          ∷ holding 𝓛 En (known t.0)

      -- `Turned t` must hold after a turn that begins in the state `t`, and `Turn t Γ k` states
      -- that a turn succeeds from its statement `k` on, with the proof context `Γ`.
      abbrev Turned : Left → Out → SProp 𝓤
      Turned t = after_turn 𝓤 H (Below 𝓛 Nearer Now t)
          (after_block 𝓤 H (after_seq 𝓤 H (Wp 𝓤 H 𝓣.C 𝓣.Λ En (after 2 (fn' E m).body)
          (at_return 𝓤 H En Post)) (at_return 𝓤 H En Post)))

      abbrev Turn : (t : Left) → List (Item 𝓤) → ℕ → Type 1
      Turn t Γ k = Sq 𝓛 Γ (runs 𝓣.C 𝓣.Λ En (after k (turn E m)) (any_q (Turned t)))

      -- Stage 6. The function owns the bytes of the new word, what its items own, the items of the
      -- later words, and the right `Then` for this word and the later ones.
      ends_turn : (i : ℕ) (xs : List (el_x E)) (xss : Chunks E m) (e : i + length (xs ∷ xss) ≡ n)
          (v : Val) → Turn (i, (xs ∷ xss, e))
          (‵ (fat full_share (layout (word_row E.row m)) b (here i) (word_val v))
          ∷ ‵ ((chunk_type E m).own_val xs (v ∷ [])) ∷ ‵ (Rest xss (here i + size (word_of τ' m)))
          ∷ raw (Then (xs ∷ xss) (here i)) ∷ Tokens ∷ holding 𝓛 En (known i)) 3
      unfolding after_turn
      ends_turn i xs xss e v =
          let at : ℕ = here i in let h : i < n = omega arith in
          let f₁ : i + 1 < 2 ^ 64 = omega arith in
          sets_last ! (bin ! (get ! refl) (lit ! tt) (record { fits = f₁ })) refl
          (tt, record { fits = f₁ }) $ move ! (1 ∷ []) $
          use1 𝓛 (‵ ((word_row E.row m).own_val (word (R E) (N E m) xs) (word_val v ∷ [])))
          (word_made E m 𝓛 xs v) $ move ! (1 ∷ 0 ∷ []) $
          use2 𝓛 (‵ (part_at (word_row E.row m) full_share (word (R E) (N E m) xs) b at))
          (part_in 𝓛 (word_row E.row m) refl full_share (word (R E) (N E m) xs) b at (word_val v)) $
          move ! (0 ∷ 2 ∷ []) $ use2 𝓛 (raw (Then xss (here (suc i)))) (onward i xs xss) $
          move ! (1 ∷ []) $ rewrite ! 0 (λ (x : ℕ). ‵ (Rest xss x)) (further i) refl $
          forget_but ! En (1 ∷ 2 ∷ 3 ∷ []) refl $ take_at ! 3 $
          rewrite ! 0 (λ (k : ℕ). ‵ (fat full_share (ty_int w64) (l 3) 0 (vint w64 k)))
          (one_more i) refl $ give_at ! 3 $
          again ! Nearer Now (i, (xs ∷ xss, e)) (suc i, (xss, omega arith)) (omega arith)

      -- Stage 5. The function owns what it owns at the beginning of the turn: the items of the next
      -- word and of the later ones, and the right `Then` for them. The items are read as an array,
      -- whose bytes become memory for the word.
      makes_one : (i : ℕ) (xs : List (el_x E)) (xss : Chunks E m) (e : i + length (xs ∷ xss) ≡ n)
          → Turn (i, (xs ∷ xss, e)) (Now (i, (xs ∷ xss, e))) 2
      unfolding after_turn
      makes_one i xs xss e =
          let h : i < n = omega arith in
          let fs : s < 2 ^ 64 = one_below n s (2 ^ 64) (omega arith) fb in
          let fm : i * s < 2 ^ 64 = times_below i n s (2 ^ 64) (omega arith) fb in
          let at : ℕ = here i in
          first ! $ blocks ! $
          sets ! (bin ! (get ! refl) (size_lit ! (record { fits = fs })) (record { fits = fm }))
          refl (tt, record { fits = fm }) $
          sets ! (bin ! (get ! refl) (get ! refl) tt) refl (tt, tt) $ fsplit ! $ fsplit ! $
          -- The context is now: the items of the next word; the right to convert their memory into
          -- memory for the word; the items of the later words; the right `Then`; the tokens.
          use1 𝓛 (exists (λ (v : Val). ‵ (fat full_share σ b at v) ⊛ ‵
          ((chunk_type E m).own_val xs (v ∷ [])))) (part_out 𝓛 (chunk_type E m) refl full_share xs b at) $
          pick ! (λ v. split ! $ move ! (1 ∷ []) $
          peeks ! (chunk_type E m) (Is (chunk_type E m)) (shows 𝓛 (chunk_type E m)) xs (v ∷ []) (λ is_v.
          let good = (((array_at_laws 1 (R E) (param_laws 0 E.row E.laws) m).lawful 𝓛).typed xs
          (v ∷ []) is_v).0 in
          let good' = word_fits E m v good in
          move ! (1 ∷ []) $
          sets ! (of_opd ! (load ! (through ! refl (stop !)) (look ! 0 refl))) refl good $
          sets ! (agg ! (no_more !)) refl (tt, tt) $
          sets ! (agg ! (and_then ! (get ! refl) (and_then ! (get ! refl) (no_more !)))) refl
          good' $
          sets ! (of_opd ! (get ! refl)) refl (tt, tt) $
          sets ! (of_opd ! (get ! refl)) refl good' $
          use1 𝓛 (‵ (froom σ b at)) (𝓛.laws.at_room σ b at v) $
          use1 𝓛 (‵ (froom (bare σ) b at)) (𝓛.laws.room-raw σ b at) $ move ! (0 ∷ 2 ∷ []) $
          use2 𝓛 (‵ (froom (word_of τ' m) b at))
          (apply∗ 𝓤 (H.room (bare σ) b at) (H.room (word_of τ' m) b at)) $
          use1 𝓛 (‵ (froom (layout (word_row E.row m)) b at))
          (𝓛.laws.raw-room (layout (word_row E.row m)) b at) $
          assigns_last ! (of_opd ! (get ! refl)) (through ! refl (stop !)) (init ! 0 refl good') $
          exec ! 𝓣.C 𝓣.Λ En (after 3 (turn E m)) (any_q (Turned (i, (xs ∷ xss, e)))) $
          forget_but ! En (1 ∷ 2 ∷ 3 ∷ []) refl $ ends_turn i xs xss e v))

      -- Stage 4. The function owns the items of the words that are not made yet, and the right
      -- `Then` for these words. Without any, this right gives all words, and the function returns.
      turns_at : (i : ℕ) (xss : Chunks E m) (e : i + length xss ≡ n)
          → Turn (i, (xss, e)) (Now (i, (xss, e))) 0
      unfolding after_turn
      turns_at i [] e =
          sets ! (bin ! (get ! refl) (get ! refl) tt) refl (tt, tt) $ first ! $
          branches ! (get ! refl)
          (λ less. absurd (let h : i < n = ltb→lt i n less in omega arith))
          (λ over. jumps ! $ exec ! 𝓣.C 𝓣.Λ En (after 2 (fn' E m).body) (at_ret En Post) $
          use2 𝓛 (‵ To) (apply∗ 𝓤 (sem 𝓛 (Made [] (here i))) (sem 𝓛 To)) $
          sets ! (of_opd ! (unit_lit !)) refl (tt, tt) $ returns ! (look_at ! 0 refl) $
          free_all ! refl $ exits)
      turns_at i (xs ∷ xss) e =
          sets ! (bin ! (get ! refl) (get ! refl) tt) refl (tt, tt) $ first ! $
          branches ! (get ! refl)
          (λ less. skips ! $
          exec ! 𝓣.C 𝓣.Λ En (after 2 (turn E m)) (any_q (Turned (i, (xs ∷ xss, e)))) $
          forget_but ! En (1 ∷ 2 ∷ 3 ∷ []) refl $ makes_one i xs xss e)
          (λ over. absurd (let h = nltb→le i n over in omega arith))

    begins : o ≡ here 0
    begins = omega (arith, zero-mul s)

    -- At the beginning, the right `Then` is for all words.
    start : ent 𝓤 (emp 𝓤) (Then g (here 0))
    start = qed 𝓛 [] ∵ assume {P = sem 𝓛 To} ! (‵ (Made g (here 0))) $
        rewrite ! 0 (λ (x : ℕ). ‵ (Made g x)) (sym begins) refl $ done !

    -- Stage 3. The function owns the items of all words, and nothing has been made.
    runs_by : length g ≡ n → Goes (block_ptr b o)
    runs_by count =
        rewrite ! 0 (λ (x : ℕ). ‵ (Rest g x)) begins refl $
        use0 𝓛 (raw (Then g (here 0))) start $ move ! (1 ∷ 0 ∷ []) $
        enter ! 𝓣.C 𝓣.Λ (fn' E m) (vptr b o ∷ vint w64 n ∷ []) _ $
        alloc_all ! (λ l. pass_all ! refl ((tt, tt), ((tt, record { fits = fn }), tt)) $
        sets ! (of_opd ! (lit ! tt)) refl (tt, record { fits = lit< tt }) $
        forget_but ! (En l) (1 ∷ 2 ∷ 3 ∷ []) refl $
        first ! $ blocks ! $ loops ! 𝓣 Nearer (InvImage.wf (λ (t : Left). n - t.0) lt-wf_rel.wf)
        (Now l) (λ t. turns_at l t.0 t.1.0 t.1.1) (0, (g, omega arith)))

  -- Stage 2. Nothing is owned at a null pointer.
  from_ptr : (p : Ptr) → n < 2 ^ 64 → n * s < 2 ^ 64 → type_size (word_row E.row m) ≡ s
      → length g ≡ n → Exits p → Goes p
  from_ptr null_ptr fn fb dense count exits = keep ! (0 ∷ []) $ by ! (never_e 𝓤 _)
  from_ptr (block_ptr b o) fn fb dense count exits = runs_by b o fn fb dense exits count

-- Stage 1. The function owns the items, and the lifetime tokens of `T` and `M`. `exits` shows that
-- the contract holds once it owns the words.
pub make_words_spec : {M : Type 1} → stated.statement M
unfolding tables_of
make_words_spec 𝓤 𝓛 𝓜 𝓡 wired X m L fits_m =
    let E : El = record { row = X; laws = L } in
    let 𝓣 : Tables 𝓤 𝓛.H = tables_of 𝓤 𝓛.H 𝓜 (tables 𝓤 𝓛.H 𝓜 𝓡 𝓡.env) in
    let c = F.clauses X (number m) 𝓛 𝓜.mem 𝓡.returns in
    let W = walk_of 𝓛 (ended E m) (stayed E m) c in
    let gone = λ (Y : RattleType). Goes-dropped 𝓛 2 (plain (λ _. Y)) yes in
    proved 𝓛 (ended E m) (stayed E m) c 𝓜 𝓡
    (gone RawPtr (λ κs x f. refl), (gone usize (λ κs x f. refl), tt))
    (#self (args E m)) (fn' E m) (code.unfolded 𝓤 𝓛.H 𝓜 𝓡 wired (X, (number m, tt)))
    (λ κs. (rawptr_vals, (uint_vals w64, tt))) (λ κs. (rawptr_Tells, (uint_Tells w64, tt)))
    (λ κs qs bounds a g are.
    let (κ, (κ', _)) = κs in let (q, (q', _)) = qs in let (p, (n, _)) = a in
    let y : W.Ghost = ((κs, qs, bounds, a, (ptr_val p ∷ [], (vint w64 n ∷ [], tt))), g) in
    let exits : Exits E m 𝓛 𝓣 κ κ' q q' (W.post y) n g p =
    suffices ! _ (ends_at 𝓛 (ended E m) (stayed E m) c y vunit tt (tt, (tt, tt)) (tt, (tt, tt))) $
    feq_i ! (List Val) (vunit ∷ []) (vunit ∷ []) refl $ nothing ! $ nothing ! $ fjoin ! $
    nothing ! $ fjoin ! $ join ! $ move ! (2 ∷ 0 ∷ []) $ join ! $ join ! $ done ! in
    let Counted : Type 0 = length g ≡ n in
    let Dense : Type 0 = type_size (word_row E.row m) ≡ m * type_size (R E) in
    let Short : Type 0 = n * (m * type_size (R E)) < 2 ^ 64 in
    qed 𝓛 ((Tokens E m 𝓛 𝓣 κ κ' q q' (W.post y) n g ⊛ ‵
    (owns (RawPtr ∷ usize ∷ []) (p, (n, tt)) y.0.4))
    ∷ (raw (fact 𝓤 (κ ⊑ E.row.lives)) ⊛ raw (fact 𝓤 (κ' ⊑ [])) ⊛ raw (fact 𝓤 Counted) ⊛
    raw (fact 𝓤 Dense) ⊛ raw (fact 𝓤 Short) ⊛ ‵ (chunks_from (R E) (N E m) g p)) ∷ []) ∵
    split ! $ move ! (1 ∷ []) $ drop ! $ move ! (1 ∷ []) $ split ! $ drop ! $ split ! $ drop ! $
    split ! $ heard ! Counted (λ count. split ! $ heard ! Dense (λ dense. split ! $
    heard ! Short (λ fb. from_ptr E m 𝓛 𝓣 κ κ' q q' (W.post y) n g p are.1.0.1 fb dense count
    exits))))
