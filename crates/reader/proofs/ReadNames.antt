-- A name that was read: its tag's name is that name, and its part is what stands behind its only colon.
--     tag_named       the name of a start tag is the name at its place
--     part_plain      no colon stands in a part
--     part_again      the part of a name that was read before is the part that was read
use Rattle.std.specs.Prelude.{Ok, Err}
use Prim.Native.Nat.{ℕ, zero, suc, ◌+◌, ◌-◌, ◌≤◌, ◌<◌}
use mathlib.Core.Path.{◌≡◌, refl, sym, ap, subst, ◌∙◌}
use mathlib.Core.List.{List, [], ◌∷◌}
use mathlib.Core.Bool.{Bool, true, false, cond}
use mathlib.Core.Logic.{⊎_elim}
use native.Mathlib.Omega.{arith}
use borrow.Author.Tests.{eq-eqb, ne_eqb}
use lib.ListN.{length, take, drop, get_or, length-drop}
use lib.Seq.{length-take-le, get_or-take, get_or-drop}
use lib.Dec.{eqb}
use Rattle.laws.specs.Reading.{le_or_lt}
use Rattle.laws.proofs.Flags.{differ}
use Rattle.laws.proofs.Holds.{holds_cond, Turned, run_held}
use Rattle.lexer.specs.Stops.{after_name}
use Rattle.characters.specs.CanBegin.{begins}
use Rattle.lexer.specs.Names.{PartState, part_state, part_set, part_whole, part_step, part_end, name_at}
use Rattle.lexer.proofs.Parts.{part_refuses, no_colon_start, no_colon_char}
use Rattle.lexer.specs.Tags.{turn_at, attribute_at, tag_stopped, full_turn, attr_then, turn_then, attrs_from, tag_at}
use Rattle.lexer.specs.declared.Stop.TheVariants.{Bad, Cut}
use Rattle.lexer.specs.Reads.{Read, Named, Attributed, TurnRead, Tagged}
use Rattle.lexer.specs.declared.Name.{Name}
use Rattle.lexer.specs.declared.Attr.{Attr}
use Rattle.lexer.specs.declared.Turn.TheVariants as turn
use Rattle.lexer.specs.declared.Tag.{Tag}
use Rattle.lexer.proofs.Inside.{PrefixTo, NameInside, NamedInside, name_inside}
use Rattle.reader.specs.Spans.{whole_span, part_span}
use Rattle.reader.specs.Events.{colon_end, part_of}

-- ---- a start tag's name
abbrev TagNamed : Name → Tagged → Type 0
TagNamed name (Ok t) = t.name ≡ name
TagNamed name (Err x) = Unit

attrs_named : (s : List ℕ) (name : Name) (room : ℕ) (l : List Attr) (i : ℕ) → TagNamed name (attrs_from s name l room i).answer
unfolding attrs_from
attrs_named s name zero l i = ends (turn_at s i)
  where
    ends : (r : TurnRead) → TagNamed name (full_turn name l r).answer
    ends (Ok (turn.Close next empty)) = refl
    ends (Ok (turn.Attribute j)) = tt
    ends (Err x) = tt
attrs_named s name (suc room) l i = goes (attrs_named s name room) (turn_at s i)
  where
    More : Type 0
    More = (l' : List Attr) (k : ℕ) → TagNamed name (attrs_from s name l' room k).answer

    one : More → (r : Attributed) → TagNamed name (attr_then (λ (l' : List Attr) (k : ℕ). attrs_from s name l' room k) l r).answer
    one more (Ok a) = more _ _
    one more (Err x) = tt

    goes : More → (r : TurnRead) → TagNamed name (turn_then s (λ (l' : List Attr) (k : ℕ). attrs_from s name l' room k) name l r).answer
    goes more (Ok (turn.Close next empty)) = refl
    goes more (Ok (turn.Attribute j)) = one more (attribute_at s j)
    goes more (Err x) = tt

pub tag_named : (s : List ℕ) (at : ℕ) (t : Tag) → (tag_at s at).answer ≡ Ok t → name_at s at ≡ Ok t.name
unfolding tag_at
tag_named s at t = by (name_at s at)
  where
    by : (r : Named) → (after_name (tag_stopped []) r (λ (name : Name). attrs_from s name [] 16 name.end)).answer ≡ Ok t → r ≡ Ok t.name
    by (Ok n) e = ap Ok (sym (subst (TagNamed n) e (attrs_named s n 16 [] n.end)))
    by (Err x) e = let z : ◌≡◌ {A = ℕ} 0 1 = cc in absurd (omega arith)

-- ---- no colon stands in a part
-- from a place up to another
abbrev pub Plain : List ℕ → ℕ → ℕ → Type 0
Plain s at j = (i : ℕ) → at ≤ i → i < j → get_or s i 0 ≡ 0x3A → ⊥

plain_more : (s : List ℕ) (at j : ℕ) → Plain s at j → (get_or s j 0 ≡ 0x3A → ⊥) → Plain s at (j + 1)
plain_more s at j h n i lo hi e =
    ⊎_elim (λ le. n (ap (λ (k : ℕ). get_or s k 0) (omega arith) ∙ e)) (λ lt. h i lo lt e) (le_or_lt j i)

pub part_plain : (s : List ℕ) (at j : ℕ) → part_end s at ≡ Ok j → Plain s at j
unfolding part_end
part_plain s at j e =
    subst Ends e (run_held (Err Cut) part_step s (λ (q : PartState) (i : ℕ). Plain s at i) Ends tt turns (part_state 64 []) at (λ i lo hi q. omega arith))
  where
    Ends : Read → Type 0
    Ends (Ok k) = Plain s at k
    Ends (Err x) = Unit

    stops : (i : ℕ) → Plain s at i → (t : Bool) → Ends (cond t (Ok i) (Err (Bad i)))
    stops i h true = h
    stops i h false = tt

    turns : (q : PartState) (i : ℕ) → i < length s → Plain s at i → Turned (λ (q' : PartState). Plain s at (i + 1)) Ends (part_step q (get_or s i 0) i)
    turns q i lt h =
        holds_cond (Turned (λ (q' : PartState). Plain s at (i + 1)) Ends) (begins (part_set q) q.begun (get_or s i 0))
        (λ b. holds_cond (Turned (λ (q' : PartState). Plain s at (i + 1)) Ends) (eqb q.room 0) (λ _. tt)
        (λ _. plain_more s at i h (λ c. differ (sym b ∙ ap (begins (part_set q) q.begun) c ∙ part_refuses q 0x3A (omega arith) no_colon_start no_colon_char))))
        (λ _. stops i h (part_whole q))

-- ---- the first colon of some bytes
colon_none : (l : List ℕ) (k : ℕ) → ((i : ℕ) → i < length l → get_or l i 0 ≡ 0x3A → ⊥) → colon_end k l ≡ 0
unfolding colon_end
colon_none [] k n = refl
colon_none (b ∷ l) k n = rw (ne_eqb b 0x3A (n 0 (omega arith))) (colon_none l (k + 1) (λ i lt. n (suc i) (omega arith)))

colon_at : (l : List ℕ) (i k : ℕ) → i < length l → get_or l i 0 ≡ 0x3A → ((j : ℕ) → j < i → get_or l j 0 ≡ 0x3A → ⊥) → colon_end k l ≡ k + i + 1
unfolding colon_end
colon_at [] i k lt e n = absurd (omega arith)
colon_at (b ∷ l) zero k lt e n = rw (eq-eqb b 0x3A e) (omega arith)
colon_at (b ∷ l) (suc i) k lt e n =
    rw (ne_eqb b 0x3A (n 0 (omega arith))) (omega (arith, colon_at l i (k + 1) (omega arith) e (λ j h. n (suc j) (omega arith))))

pub part_of_lem : (s : List ℕ) (at : ℕ) (n : Name) → NameInside s at n → part_of s (whole_span n) ≡ part_span n
unfolding part_of
part_of_lem s at n h = ⊎_elim alone behind h.first
  where
    long : length (take (n.end - n.at) (drop n.at s)) ≡ n.end - n.at
    long = length-take-le (n.end - n.at) (drop n.at s) (omega (arith, length-drop n.at s))

    byte : (i : ℕ) → i < n.end - n.at → get_or (take (n.end - n.at) (drop n.at s)) i 0 ≡ get_or s (n.at + i) 0
    byte i lt = get_or-take (n.end - n.at) (drop n.at s) i 0 lt ∙ get_or-drop n.at s i 0

    -- what stands up to and with the colon, of k bytes
    from : (k : ℕ) → colon_end 0 (take (n.end - n.at) (drop n.at s)) ≡ k → n.at + k ≡ n.part → part_of s (whole_span n) ≡ part_span n
    from k e q =
        let r : n.end - n.at - k ≡ n.end - n.part = omega arith in
        rw (e, q, r)

    alone : n.part ≡ at → part_of s (whole_span n) ≡ part_span n
    alone q =
        from 0
        (colon_none _ 0 (λ i lt c. part_plain s n.part n.end h.last (n.at + i) (omega arith) (omega (arith, long)) (sym (byte i (omega (arith, long))) ∙ c)))
        (omega arith)

    behind : PrefixTo s at n.part → part_of s (whole_span n) ≡ part_span n
    behind f =
        let k : ℕ = n.part - 1 - n.at in
        let back : n.at + k ≡ n.part - 1 = omega arith in
        from (0 + k + 1)
        (colon_at _ k 0 (omega (arith, long)) (byte k (omega arith) ∙ ap (λ (i : ℕ). get_or s i 0) back ∙ f.2)
        (λ i lt c. part_plain s at (n.part - 1) f.1 (n.at + i) (omega arith) (omega arith) (sym (byte i (omega arith)) ∙ c)))
        (omega arith)

pub part_again : (s : List ℕ) (at : ℕ) (n : Name) → name_at s at ≡ Ok n → part_of s (whole_span n) ≡ part_span n
part_again s at n e = part_of_lem s at n (subst (NamedInside (NameInside s at) s at) e (name_inside s at))
