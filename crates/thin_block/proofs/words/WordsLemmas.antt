-- These arithmetic lemmas are about words. A word is a struct of whole items that takes 8 or 16
-- bytes.
use Rattle.std.proofs.Common.{◌≡◌, true, false, ℕ, Some, None, ◌+◌, ◌*◌, ◌^◌, ◌<◌, ◌≤◌, refl, sym}
use Rattle.std.proofs.Common.{ap, subst, ◌∙◌, arith}
use borrow.Author.Tests.{clash}
use mir.Raw.{raw}
use mir.Syntax.{Ty, Width, w8, w16, w32, w64, w128}
use mir.Val.{bytes}
use prog.Align.{Dv, align_w, align-bytes, align_size}
use prog.Memory.{size, align, up}
use prog.RawLaws.{size-raw, align-raw}
use denote.Param.{layout}
use denote.RattleType.{RattleType}
use Rattle.std.proofs.lemmas.Bool.{eqb-true}
use Rattle.std.specs.Align.{type_align}
use Rattle.std.specs.Int.{div_ceil}
use Rattle.std.specs.Mem.{type_size}
use Rattle.std.specs.Option.{is_some}
use Rattle.std.specs.Prelude.{◌==◌, if◌then◌else◌, Bool, Option, max}
use Rattle.thin_block.specs.Capacity.{in_words, block_align, block_bytes}

-- `word_align a` is the alignment of a word that consists of items with the alignment `a`.
abbrev pub word_align : ℕ → ℕ
word_align a = max a (max 8 1)

-- `word_size s a m` is the size in bytes of a word of `m` items. Each item has the size `s` and the
-- alignment `a`.
abbrev pub word_size : ℕ → ℕ → ℕ → ℕ
word_size s a m = up (word_align a) (up 8 (up a 0 + m * s) + 0 * 8)

-- If a word holds `m` items, then `c` items need `div_ceil c m` words. `Counts m` collects facts
-- about this number of words.
pub record Counts (m : ℕ) : Type 0 where
  pub some : 0 < m
  pub covers : (c : ℕ) → c ≤ div_ceil c m * m
  pub holds : (n c : ℕ) → n * m ≤ c → n ≤ div_ceil c m
  pub more : (c d : ℕ) → c ≤ d → div_ceil c m ≤ div_ceil d m
  pub least : (n : ℕ) → n ≤ n * m
  pub few : (c : ℕ) → div_ceil c m ≤ c

counts_1 : Counts 1
counts_1 = omega arith

counts_2 : Counts 2
counts_2 = omega arith

counts_4 : Counts 4
counts_4 = omega arith

counts_8 : Counts 8
counts_8 = omega arith

-- `Laid s a m k` collects facts about the layout of words of `m` items with the size `s` and the
-- alignment `a`. The header is as large as `k` words.
abbrev Laid : ℕ → ℕ → ℕ → ℕ → Type 0
Laid s a m k = (word_size s a m ≡ m * s) × ((word_align a ≡ block_align a)
    × (Dv 8 (word_align a) × (Dv a (word_align a)
    × ((c : ℕ) → (k + div_ceil c m) * (m * s) ≡ block_bytes s a c))))

laid_1 : (w : Width) → Dv (bytes w) 1 → Laid 1 (bytes w) 8 2
laid_1 w8 d = (refl, (refl, (tt, (tt, λ c. omega arith))))
laid_1 w d = absurd d

laid_2 : (w : Width) → Dv (bytes w) 2 → Laid 2 (bytes w) 4 2
laid_2 w8 d = (refl, (refl, (tt, (tt, λ c. omega arith))))
laid_2 w16 d = (refl, (refl, (tt, (tt, λ c. omega arith))))
laid_2 w d = absurd d

laid_4 : (w : Width) → Dv (bytes w) 4 → Laid 4 (bytes w) 2 2
laid_4 w8 d = (refl, (refl, (tt, (tt, λ c. omega arith))))
laid_4 w16 d = (refl, (refl, (tt, (tt, λ c. omega arith))))
laid_4 w32 d = (refl, (refl, (tt, (tt, λ c. omega arith))))
laid_4 w d = absurd d

laid_8 : (w : Width) → Dv (bytes w) 8 → Laid 8 (bytes w) 1 2
laid_8 w8 d = (refl, (refl, (tt, (tt, λ c. omega arith))))
laid_8 w16 d = (refl, (refl, (tt, (tt, λ c. omega arith))))
laid_8 w32 d = (refl, (refl, (tt, (tt, λ c. omega arith))))
laid_8 w64 d = (refl, (refl, (tt, (tt, λ c. omega arith))))
laid_8 w128 d = absurd d

laid_16 : (w : Width) → Dv (bytes w) 16 → Laid 16 (bytes w) 1 1
laid_16 w8 d = (refl, (refl, (tt, (tt, λ c. omega arith))))
laid_16 w16 d = (refl, (refl, (tt, (tt, λ c. omega arith))))
laid_16 w32 d = (refl, (refl, (tt, (tt, λ c. omega arith))))
laid_16 w64 d = (refl, (refl, (tt, (tt, λ c. omega arith))))
laid_16 w128 d = (refl, (refl, (tt, (tt, λ c. omega arith))))

-- `InWords s a m k` holds if `m` items of size `s` and alignment `a` make a word, and the header
-- takes as many bytes as `k` words.
pub record InWords (s a m k : ℕ) : Type 0 where
  pub counts : Counts m
  pub size : word_size s a m ≡ m * s
  pub align : word_align a ≡ block_align a
  pub eight : Dv 8 (word_align a)
  pub item : Dv a (word_align a)
  pub bytes_are : (c : ℕ) → (k + div_ceil c m) * (m * s) ≡ block_bytes s a c
  pub room : k * (m * s) ≡ 16
  pub any : 0 < k

-- If `c` items fit into a block, then the header and these items take less than `2 ^ 63` bytes as
-- words.
pub words_short : {s a m k : ℕ} (c n : ℕ) → InWords s a m k → n ≡ k + div_ceil c m
    → block_bytes s a c < 2 ^ 63 → n * word_size s a m < 2 ^ 63
words_short {s} {a} {m} {k} c n h is small =
    subst (λ (i : ℕ). i < 2 ^ 63) (sym (ap (λ (i : ℕ). i * word_size s a m) is
    ∙ (ap (λ (i : ℕ). (k + div_ceil c m) * i) h.size ∙ h.bytes_are c))) small

in_words_by : (s a m k : ℕ) → Counts m → 0 < k → k * (m * s) ≡ 16 → Laid s a m k → InWords s a m k
in_words_by s a m k c any room l =
    let (size, (align, (eight, (item, bytes_are)))) = l in
    record {
      counts = c;
      size = size;
      align = align;
      eight = eight;
      item = item;
      bytes_are = bytes_are;
      room = room;
      any = any;
    }

-- `AtAny s m k` states that `InWords` holds for every alignment that divides the item size `s`.
abbrev AtAny : ℕ → ℕ → ℕ → Type 0
AtAny s m k = (w : Width) → Dv (bytes w) s → InWords s (bytes w) m k

abbrev pair : Option (ℕ × ℕ) → ℕ × ℕ
pair None = (0, 0)
pair (Some p) = p

at_size : (s t : ℕ) (p q : ℕ × ℕ) → s ≡ t → ◌≡◌ {A = Option (ℕ × ℕ)} (Some p) (Some q)
    → AtAny t p.0 p.1 → AtAny s q.0 q.1
at_size s t p q es e all =
    subst (λ (x : ℕ × (ℕ × ℕ)). AtAny x.0 x.1.0 x.1.1) (λ i. (sym es i, pair (e i))) all

-- `tested x y z u v` is the result of `in_words` for an item size. The booleans say whether this
-- size is 1, 2, 4, 8 or 16, in this order.
abbrev tested : Bool → Bool → Bool → Bool → Bool → Option (ℕ × ℕ)
tested x y z u v = if x then Some (8, 2) else (if y then Some (4, 2) else
    (if z then Some (2, 2) else (if u then Some (1, 2) else (if v then Some (1, 1) else None))))

by_test : (x y z u v : Bool) (s : ℕ) (q : ℕ × ℕ) → (s == 1) ≡ x → (s == 2) ≡ y → (s == 4) ≡ z
    → (s == 8) ≡ u → (s == 16) ≡ v → tested x y z u v ≡ Some q → AtAny s q.0 q.1
by_test true y z u v s q ex ey ez eu ev e =
    at_size s 1 (8, 2) q (eqb-true s 1 ex) e
    (λ w d. in_words_by 1 (bytes w) 8 2 counts_8 (omega arith) refl (laid_1 w d))
by_test false true z u v s q ex ey ez eu ev e =
    at_size s 2 (4, 2) q (eqb-true s 2 ey) e
    (λ w d. in_words_by 2 (bytes w) 4 2 counts_4 (omega arith) refl (laid_2 w d))
by_test false false true u v s q ex ey ez eu ev e =
    at_size s 4 (2, 2) q (eqb-true s 4 ez) e
    (λ w d. in_words_by 4 (bytes w) 2 2 counts_2 (omega arith) refl (laid_4 w d))
by_test false false false true v s q ex ey ez eu ev e =
    at_size s 8 (1, 2) q (eqb-true s 8 eu) e
    (λ w d. in_words_by 8 (bytes w) 1 2 counts_1 (omega arith) refl (laid_8 w d))
by_test false false false false true s q ex ey ez eu ev e =
    at_size s 16 (1, 1) q (eqb-true s 16 ev) e
    (λ w d. in_words_by 16 (bytes w) 1 1 counts_1 (omega arith) refl (laid_16 w d))
by_test false false false false false s q ex ey ez eu ev e = absurd (clash (ap is_some e))

pub words_told : (R : RattleType) (m k : ℕ) → in_words (type_size R) ≡ Some (m, k)
    → InWords (type_size R) (type_align R) m k
words_told R m k e =
    let s : ℕ = type_size R in
    let at_width : AtAny s m k =
    by_test (s == 1) (s == 2) (s == 4) (s == 8) (s == 16) s (m, k) refl refl refl refl refl e in
    let known = align-bytes (layout R) in
    subst (λ (a : ℕ). InWords s a m k) (sym known)
    (at_width (align_w (layout R)) (subst (λ (a : ℕ). Dv a s) known (align_size (layout R))))

pub nameless : (τ : Ty) (m k : ℕ) → InWords (size τ) (align τ) m k
    → InWords (size (raw τ)) (align (raw τ)) m k
nameless τ m k h = subst (λ (p : ℕ × ℕ). InWords p.0 p.1 m k)
    (λ i. (sym (size-raw τ) i, sym (align-raw τ) i)) h
