-- A session's numbers and arrays, read from bytes, and what some steps make of them.
use Prim.Native.Nat.{ℕ, ◌+◌, ◌*◌, ◌/◌, ◌%◌, ◌≤◌, ◌<◌}
use mathlib.Core.Path.{◌≡◌, sym, ap, ◌∙◌}
use mathlib.Core.List.{List}
use native.Mathlib.Nat.{zero-add, mod-lt, div-lt_iff_lt-mul}
use native.Mathlib.Omega.{arith}
use lib.Dec.{eqb}
use lib.ListN.{get_or}
use Rattle.laws.specs.Lists.{tabulate}
use Rattle.laws.proofs.Lists.{get_d_tabulate}
use Rattle.table.specs.declared.Answer.{Answer}
use Rattle.reader.proofs.Tabulated.{tabulate_same}
use Rattle.strands.specs.Levels.{of_each, level_names, level_spaces, level_strands}
use Rattle.sessions.specs.Sessions.{head_of, session_at}
use Rattle.sessions.specs.Stepping.{Step, given}
use Rattle.sessions.specs.Turns.{advanced_answer, advanced_in}
use Rattle.sessions.specs.Session.{Session}
use Rattle.sessions.specs.declared.Head.{Head}
use Rattle.sessions.specs.declared.Advanced.{Advanced}
use Rattle.sessions.proofs.Parted.{parted}
use Rattle.layout.specs.Layout.{word4, word8, level_at, space_at, strand_at, session_in}

pub head_read : (b : List ℕ) (place units depth bound : ℕ) → place ≡ word8 b 8 → units ≡ word8 b 16 → depth ≡ word8 b 24 → bound ≡ word8 b 32
    → record { place = place; units = units; closed = eqb (get_or b 1 0) 1; awaited = eqb (get_or b 2 0) 1; depth = depth; bound = bound } ≡ head_of (session_in b)
unfolding session_in
head_read b place units depth bound e₁ e₂ e₃ e₄ = cc

pub parts_joined : (z : Session) (head : Head) (levels bindings : List ℕ) → head ≡ head_of z → level_names levels ≡ z.scope.levels → bindings ≡ z.scope.bindings → level_spaces levels ≡ z.spaces
    → level_strands levels ≡ z.strands → session_at head levels bindings ≡ z
parts_joined z head levels bindings e₁ e₂ e₃ e₄ e₅ =
    ap (λ (x : Head). session_at x levels bindings) e₁
    ∙ ap (λ (x : List ℕ). session_at (head_of z) levels x) e₃
    ∙ sym (parted (head_of z) levels z.scope.levels z.scope.bindings z.spaces z.strands (sym e₂) (sym e₄) (sym e₅))

-- the numbers of each level, read from bytes
module _ (b : List ℕ) where
  abbrev read : List ℕ
  read = tabulate (λ (i : ℕ). word4 b (1064 + 4 * i)) 0 1536

  each_read : (wide from : ℕ) (at : ℕ → ℕ) → 0 < wide → from + wide ≤ 24 → ((i : ℕ) → 1064 + 4 * (24 * (i / wide) + from + i % wide) ≡ at i) → of_each wide from read ≡ tabulate (λ (i : ℕ). word4 b (at i)) 0 (64 * wide)
  unfolding of_each
  each_read wide from at some inside same = tabulate_same (λ (i : ℕ). get_or read (24 * (i / wide) + from + i % wide) 0) (λ (i : ℕ). word4 b (at i)) 0 0 (64 * wide) number
    where
      number : (i : ℕ) → i < 64 * wide → get_or read (24 * ((0 + i) / wide) + from + (0 + i) % wide) 0 ≡ word4 b (at (0 + i))
      number i h =
          let k : i / wide < 64 = (div-lt_iff_lt-mul some).1 h in
          let r : i % wide < wide = mod-lt i some in
          rw (zero-add i)
          (get_d_tabulate (λ (j : ℕ). word4 b (1064 + 4 * j)) 0 1536 (24 * (i / wide) + from + i % wide) 0 (omega arith)
          ∙ ap (λ (j : ℕ). word4 b (1064 + 4 * j)) (zero-add (24 * (i / wide) + from + i % wide))
          ∙ ap (word4 b) (same i))

  module _ (levels : List ℕ) (e : levels ≡ read) where
    pub levels_read : (level_names levels ≡ (session_in b).scope.levels) × (level_spaces levels ≡ (session_in b).spaces) × (level_strands levels ≡ (session_in b).strands)
    unfolding session_in
    levels_read = (
      ap level_names e ∙ each_read 3 0 level_at (omega arith) (omega arith) (λ i. omega arith),
      ap level_spaces e ∙ each_read 4 3 space_at (omega arith) (omega arith) (λ i. omega arith),
      ap level_strands e ∙ each_read 16 8 strand_at (omega arith) (omega arith) (λ i. omega arith),
    )

pub lent_handed : (r : Advanced) (a : Answer) (levels bindings out : List ℕ) (x : Step) → a ≡ advanced_answer r → advanced_in r levels bindings out ≡ x
    → given a (session_at r.head levels bindings) out ≡ x
lent_handed r a levels bindings out x e q = ap (λ (y : Answer). given y (session_at r.head levels bindings) out) e ∙ q
