-- Bindings that are laid in an array are read from it again.
--     Small, small_declared      numbers that 32 bits hold
--     laid_back                  what was laid
use Prim.Native.Nat.{ℕ, suc, ◌+◌, ◌*◌, ◌^◌, ◌<◌}
use mathlib.Core.Path.{◌≡◌, refl, sym, ap, ◌∙◌}
use mathlib.Core.List.{List, [], ◌∷◌, ◌++◌, append_assoc}
use native.Mathlib.Omega.{arith}
use native.Mathlib.Nat.{mod-eq_of_lt}
use lib.ListN.{length, get_or, drop, length-append}
use lib.Seq.{get_or-append-add}
use Rattle.laws.specs.Lists.{tabulate}
use Rattle.laws.specs.Gather.{gather}
use Rattle.lexer.specs.declared.Attr.{Attr}
use Rattle.reader.specs.Spans.{kind_of}
use Rattle.reader.specs.Namespaces.{declared_by, declarations_of}
use Rattle.reader.specs.Stored.{binding_in, bindings_in, binding_numbers, laid_bindings}
use Rattle.reader.specs.declared.Binding.{Binding}
use Rattle.reader.specs.declared.Kind.{Kind}
use Rattle.reader.specs.declared.Kind.TheVariants.{Plain, Prefixed, Default, Declares}
use Rattle.laws.specs.Members.{All}
use Rattle.laws.proofs.Elementwise.{each_append}

-- places and lengths that 32 bits hold
pub record Small (b : Binding) : Type 0 where
  pub prefix_at : b.prefix.at < 2 ^ 32
  pub prefix_len : b.prefix.len < 2 ^ 32
  pub uri_at_lem : b.uri.at < 2 ^ 32
  pub uri_len_lem : b.uri.len < 2 ^ 32

pub record SmallAttr (a : Attr) : Type 0 where
  pub part : a.name.part < 2 ^ 32
  pub end : a.name.end < 2 ^ 32
  pub value : a.value < 2 ^ 32
  pub stop : a.stop < 2 ^ 32

pub small_declared : (s : List ℕ) (attrs : List Attr) → All SmallAttr attrs → All Small (declarations_of s attrs)
unfolding gather
small_declared s [] h = tt
small_declared s (a ∷ attrs) h = each_append Small (declared_by (kind_of s a.name) a) (declarations_of s attrs) (cases (kind_of s a.name)) (small_declared s attrs h.1)
  where
    cases : (k : Kind) → All Small (declared_by k a)
    cases Plain = tt
    cases Prefixed = tt
    cases Default =
        (record { prefix_at = omega arith; prefix_len = omega arith; uri_at_lem = h.0.value; uri_len_lem = omega (arith, h.0.stop) }, tt)
    cases Declares =
        (record { prefix_at = h.0.part; prefix_len = omega (arith, h.0.end); uri_at_lem = h.0.value; uri_len_lem = omega (arith, h.0.stop) }, tt)

-- the i-th binding, behind i others
read_one : (pre : List ℕ) (b : Binding) (post : List ℕ) (i : ℕ) → length pre ≡ 4 * i → Small b → binding_in (pre ++ (binding_numbers b ++ post)) i ≡ b
unfolding binding_in
read_one pre b post i e p =
    rw (
      at 0 (4 * i) (omega arith),
      at 1 (4 * i + 1) (omega arith),
      at 2 (4 * i + 2) (omega arith),
      at 3 (4 * i + 3) (omega arith),
      mod-eq_of_lt {n = b.prefix.at} {m = 2 ^ 32} p.prefix_at,
      mod-eq_of_lt {n = b.prefix.len} {m = 2 ^ 32} p.prefix_len,
      mod-eq_of_lt {n = b.uri.at} {m = 2 ^ 32} p.uri_at_lem,
      mod-eq_of_lt {n = b.uri.len} {m = 2 ^ 32} p.uri_len_lem,
    )
  where
    at : (j k : ℕ) → k ≡ length pre + j → get_or (pre ++ (binding_numbers b ++ post)) k 0 ≡ get_or (binding_numbers b ++ post) j 0
    at j k q = ap (λ (n : ℕ). get_or (pre ++ (binding_numbers b ++ post)) n 0) q ∙ get_or-append-add pre (binding_numbers b ++ post) j 0

read_all : (bs : List Binding) (pre post : List ℕ) (i : ℕ) → length pre ≡ 4 * i → All Small bs
    → tabulate (binding_in (pre ++ (gather binding_numbers bs ++ post))) i (length bs) ≡ bs
unfolding tabulate gather
read_all [] pre post i e h = refl
read_all (b ∷ bs) pre post i e h =
    let more : List ℕ = gather binding_numbers bs ++ post in
    let q : length (pre ++ binding_numbers b) ≡ 4 * suc i = length-append pre (binding_numbers b) ∙ omega arith in
    ap (λ (x : Binding). x ∷ tabulate (binding_in (pre ++ (binding_numbers b ++ more))) (suc i) (length bs)) (read_one pre b more i e h.0)
    ∙ ap (λ (t : List Binding). b ∷ t)
    (ap (λ (l : List ℕ). tabulate (binding_in l) (suc i) (length bs)) (sym (append_assoc pre (binding_numbers b) more)) ∙ read_all bs (pre ++ binding_numbers b) post (suc i) q h.1)

-- what was laid
pub laid_back : (bs : List Binding) (l : List ℕ) → All Small bs → bindings_in (laid_bindings bs l) (length bs) ≡ bs
unfolding laid_bindings
laid_back bs l p = read_all bs [] (drop (4 * length bs) l) 0 refl p
