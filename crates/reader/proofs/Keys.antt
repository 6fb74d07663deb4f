-- Keys: names whose last bytes differ are unlike, and attributes of such names do not clash.
use Prim.Native.Nat.{ℕ, ◌+◌, ◌-◌, ◌≤◌, ◌<◌}
use mathlib.Core.Path.{◌≡◌, refl, sym, ap, ◌∙◌}
use mathlib.Core.List.{List}
use mathlib.Core.Bool.{Bool, true, false, and-false}
use native.Mathlib.Omega.{arith}
use lib.ListN.{length, get_or, take, drop, replicate, length-drop, get_or-replicate}
use lib.Seq.{length-take-le, get_or-take, get_or-drop}
use Rattle.laws.specs.Lists.{same_list}
use Rattle.compare.proofs.Equal.{same_eq}
use Rattle.lexer.specs.Attrs.{attr_in}
use Rattle.lexer.specs.declared.Name.{Name}
use Rattle.reader.specs.Spans.{between, bytes_of}
use Rattle.reader.specs.Stored.{Coded, clashes}
use Rattle.reader.specs.Keys.{EndsWith, Unlike, Keys}

-- the last of a list
abbrev last_in : List ℕ → ℕ
last_in l = get_or l (length l - 1) 0

span_last : (s : List ℕ) (from to : ℕ) → from < to → to ≤ length s → last_in (bytes_of s (between from to)) ≡ get_or s (to - 1) 0
span_last s from to h k =
    let n : length (take (to - from) (drop from s)) ≡ to - from = length-take-le (to - from) (drop from s) (omega (arith, length-drop from s)) in
    let i : from + (to - from - 1) ≡ to - 1 = omega arith in
    rw n (get_or-take (to - from) (drop from s) (to - from - 1) 0 (omega arith) ∙ get_or-drop from s (to - from - 1) 0 ∙ ap (λ (m : ℕ). get_or s m 0) i)

last_differ : (x y : List ℕ) → (last_in x ≡ last_in y → ⊥) → same_list x y ≡ false
last_differ x y h = by (same_list x y) refl
  where
    by : (t : Bool) → t ≡ same_list x y → same_list x y ≡ false
    by false e = sym e
    by true e = absurd (h (ap last_in (same_eq x y (sym e))))

unlike : (s : List ℕ) (m n : Name) (a b : ℕ) → EndsWith s m a → EndsWith s n b → (a ≡ b → ⊥) → Unlike s m n
unlike s m n a b p q h = record { wholes = apart m.at n.at p.whole q.whole; parts = apart m.part n.part p.part q.part }
  where
    apart : (f g : ℕ) → f < m.end → g < n.end → same_list (bytes_of s (between f m.end)) (bytes_of s (between g n.end)) ≡ false
    apart f g hf hg =
        last_differ _ _ (λ e. h (p.last ∙ sym (span_last s f m.end hf p.inside) ∙ e ∙ span_last s g n.end hg q.inside ∙ sym q.last))

-- the keys are the last bytes, or all 0
module _ (s array : List ℕ) (n : ℕ) where
  pub keys_last : (keys : List ℕ) → ((k : ℕ) → k < n → EndsWith s (attr_in array k).name (get_or keys k 0)) → Keys s array n keys
  keys_last keys h i j hi hj d = unlike s (attr_in array i).name (attr_in array j).name (get_or keys i 0) (get_or keys j 0) (h i hi) (h j hj) d

  pub keys_none : n ≤ 16 → Keys s array n (replicate 16 0)
  keys_none h i j hi hj d = absurd (d (get_or-replicate 16 i 0 0 (omega arith) ∙ sym (get_or-replicate 16 j 0 0 (omega arith))))

-- attributes of such names
pub clash_unlike : (s own open' : List ℕ) (a b : Coded) → Unlike s a.attr.name b.attr.name → false ≡ clashes s own open' a b
unfolding clashes
clash_unlike s own open' a b u = rw (u.wholes, u.parts, and-false, and-false, and-false)
