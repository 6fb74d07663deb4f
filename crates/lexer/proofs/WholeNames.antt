-- What was read as a part or as a name is one as a whole: its own bytes, wherever they stand, with a byte behind that ends them, are read the same.
--     part_moved, name_moved      the same bytes at another place
--     whole_part, whole_name      what was read is a part, a name as a whole
--     name_here, end_tag_here     a name as a whole, where it stands with a > behind
use Rattle.std.specs.Prelude.{Ok, Err}
use Prim.Native.Nat.{ℕ, ◌+◌, ◌-◌, ◌≤◌, ◌<◌}
use mathlib.Core.Path.{◌≡◌, refl, sym, ap, subst, ◌∙◌}
use mathlib.Core.List.{List, [], ◌∷◌, ◌++◌}
use mathlib.Core.Bool.{Bool, true, false, cond}
use mathlib.Core.Logic.{⊎_elim}
use native.Mathlib.Omega.{arith}
use native.Mathlib.Nat.{add_assoc, add-zero, zero-add}
use borrow.Author.Tests.{eq-eqb, lt-ltb, eqb-true}
use lib.ListN.{length, take, drop, get_or, length-append, length-drop, get_or-append}
use lib.Seq.{length-take-le, get_or-take, get_or-drop, get_or_at}
use lib.Dec.{eqb}
use Rattle.laws.specs.Reading.{go, run, run_go, run_stop}
use Rattle.laws.proofs.Holds.{holds_cond, Turned, run_held}
use Rattle.utf8.specs.declared.Set.TheVariants as set
use Rattle.characters.specs.CanBegin.{begins}
use Rattle.lexer.specs.Characters.{with_byte}
use Rattle.lexer.specs.Names.{space_step, spaces_end, PartState, part_state, part_set, part_whole, part_step, part_end, prefixed_at, name_at}
use Rattle.lexer.specs.Tags.{wanted, end_tag_at}
use Rattle.lexer.specs.Whole.{name_to, is_part, is_whole_name}
use Rattle.lexer.specs.declared.Stop.{Stop}
use Rattle.lexer.specs.declared.Stop.TheVariants.{Bad, Cut}
use Rattle.lexer.specs.Reads.{Read, Named}
use Rattle.lexer.specs.declared.Name.{Name}
use Rattle.lexer.proofs.Inside.{ReadInside, PartTo, part_inside, PrefixTo, NameInside, NamedInside, name_inside}
use Rattle.lexer.proofs.Parts.{part_ends, no_colon_char, no_zero_char, no_gt_char}

-- a part of n bytes at a place of s; the same bytes at a place of s', and what stands behind them there goes on with no part
module _ (s s' : List ℕ) (at at' n : ℕ) (in-s : at + n < length s) (in-s' : at' + n < length s') (same : (k : ℕ) → k < n → get_or s' (at' + k) 0 ≡ get_or s (at + k) 0) (ends : begins set.Name [] (get_or s' (at' + n) 0) ≡ false) where
  pub part_moved : part_end s at ≡ Ok (at + n) → part_end s' at' ≡ Ok (at' + n)
  unfolding part_end
  part_moved = run_held (Err Cut) part_step s Here There (λ e. differ e) turn (part_state 64 []) at (0, sym (add-zero at), λ le. rw add-zero)
    where
      differ : {x : Stop} → ◌≡◌ {A = Read} (Err x) (Ok (at + n)) → part_end s' at' ≡ Ok (at' + n)
      differ e = let z : ◌≡◌ {A = ℕ} 0 1 = cc in absurd (omega arith)

      -- as far as k bytes, the machine over s' is in the same state
      Here : PartState → ℕ → Type 0
      Here q i = (k : ℕ) × (i ≡ at + k) × (k ≤ n → run (Err Cut) part_step q (drop (at' + k) s') (at' + k) ≡ part_end s' at')

      There : Read → Type 0
      There r = r ≡ Ok (at + n) → part_end s' at' ≡ Ok (at' + n)

      byte : (i k : ℕ) → i ≡ at + k → k < n → get_or s' (at' + k) 0 ≡ get_or s i 0
      byte i k e lt = same k lt ∙ ap (λ (m : ℕ). get_or s m 0) (sym e)

      next : (q : PartState) (i : ℕ) (h : Here q i) (q' : PartState) → (h.0 < n → go q' ≡ part_step q (get_or s' (at' + h.0) 0) (at' + h.0)) → Here q' (i + 1)
      next q i h q' g =
          let k = h.0 in
          (k + 1, omega arith, λ le. subst (λ (m : ℕ). run (Err Cut) part_step q' (drop m s') m ≡ part_end s' at') (add_assoc at' k 1) (run_go (Err Cut) part_step (part_end s' at') q s' (at' + k) (h.2 (omega arith)) (omega arith) q' (g (omega arith))))

      last : (q : PartState) (i : ℕ) → Here q i → part_whole q ≡ true → i ≡ at + n → part_end s' at' ≡ Ok (at' + n)
      last q i h w e =
          let k : h.0 ≡ n = omega arith in
          let b : get_or s' (at' + h.0) 0 ≡ get_or s' (at' + n) 0 = ap (λ (m : ℕ). get_or s' (at' + m) 0) k in
          sym (run_stop (Err Cut) part_step (part_end s' at') q s' (at' + h.0) (h.2 (omega arith)) (omega arith) (Ok (at' + h.0)) (sym (part_ends q (get_or s' (at' + h.0) 0) (at' + h.0) w (rw b ends)))) ∙ ap (λ (m : ℕ). Ok (at' + m)) k

      stops : (q : PartState) (i : ℕ) → Here q i → (t : Bool) → part_whole q ≡ t → There (cond t (Ok i) (Err (Bad i)))
      stops q i h true w e = last q i h w (cc)
      stops q i h false w e = differ e

      turn : (q : PartState) (i : ℕ) → i < length s → Here q i → Turned (λ (q' : PartState). Here q' (i + 1)) There (part_step q (get_or s i 0) i)
      turn q i hi h =
          holds_cond (Turned (λ (q' : PartState). Here q' (i + 1)) There) (begins (part_set q) q.begun (get_or s i 0))
          (λ e. holds_cond (Turned (λ (q' : PartState). Here q' (i + 1)) There) (eqb q.room 0) (λ g. differ)
          (λ g. next q i h (part_state (q.room - 1) (with_byte q.begun (get_or s i 0))) (λ lt. rw (byte i h.0 h.1 lt, e, g))))
          (λ e. stops q i h (part_whole q) refl)

-- a name at a place of s; the same bytes at a place of s', and a byte behind them there that goes on with no name and is no colon
module _ (s s' : List ℕ) (at at' : ℕ) (n : Name) (h : NameInside s at n) (in-s' : at' + (n.end - at) < length s') (same : (k : ℕ) → k < n.end - at → get_or s' (at' + k) 0 ≡ get_or s (at + k) 0)
    (b : ℕ) (ends : get_or s' (at' + (n.end - at)) 0 ≡ b) (no_name : begins set.Name [] b ≡ false) (no-colon : eqb b 0x3A ≡ false) where
  -- a part that stands in there
  part_within : (from to : ℕ) → at ≤ from → from ≤ to → to ≤ n.end → begins set.Name [] (get_or s' (at' + (to - at)) 0) ≡ false → part_end s from ≡ Ok to → part_end s' (at' + (from - at)) ≡ Ok (at' + (to - at))
  part_within from to lo mid up closed e =
      let x : from + (to - from) ≡ to = omega arith in
      let y : at' + (from - at) + (to - from) ≡ at' + (to - at) = omega arith in
      part_moved s s' from (at' + (from - at)) (to - from) (omega (arith, h.inside)) (omega arith) moved (rw y closed) (rw x e) ∙ ap Ok y
    where
      moved : (k : ℕ) → k < to - from → get_or s' (at' + (from - at) + k) 0 ≡ get_or s (from + k) 0
      moved k lt =
          let x : at' + (from - at) + k ≡ at' + (from - at + k) = omega arith in
          let y : at + (from - at + k) ≡ from + k = omega arith in
          ap (λ (i : ℕ). get_or s' i 0) x ∙ same (from - at + k) (omega arith) ∙ ap (λ (i : ℕ). get_or s i 0) y

  first_within : (to : ℕ) → at ≤ to → to ≤ n.end → begins set.Name [] (get_or s' (at' + (to - at)) 0) ≡ false → part_end s at ≡ Ok to → part_end s' at' ≡ Ok (at' + (to - at))
  first_within to lo up closed e =
      let z : at' + (at - at) ≡ at' = omega arith in
      subst (λ (i : ℕ). part_end s' i ≡ Ok (at' + (to - at))) z (part_within at to (omega arith) lo up closed e)

  name_closed : begins set.Name [] (get_or s' (at' + (n.end - at)) 0) ≡ false
  name_closed = ap (begins set.Name []) ends ∙ no_name

  pub name_moved : name_at s' at' ≡ Ok (record { at = at'; part = at' + (n.part - at); end = at' + (n.end - at) })
  unfolding name_at prefixed_at
  name_moved = ⊎_elim alone behind h.first
    where
      alone : n.part ≡ at → name_at s' at' ≡ Ok (record { at = at'; part = at' + (n.part - at); end = at' + (n.end - at) })
      alone q =
          let z : at' + (n.part - at) ≡ at' = omega arith in
          let p : part_end s' at' ≡ Ok (at' + (n.end - at)) = first_within n.end (omega arith) (omega arith) name_closed (ap (part_end s) (sym q) ∙ h.last) in
          simp (p, lt-ltb (at' + (n.end - at)) (length s') in-s', ends, no-colon, z)

      behind : PrefixTo s at n.part → name_at s' at' ≡ Ok (record { at = at'; part = at' + (n.part - at); end = at' + (n.end - at) })
      behind f =
          let i : ℕ = n.part - 1 - at in
          let back : at + i ≡ n.part - 1 = omega arith in
          let next : at' + i + 1 ≡ at' + (n.part - at) = omega arith in
          let colon : get_or s' (at' + i) 0 ≡ 0x3A = same i (omega arith) ∙ ap (λ (k : ℕ). get_or s k 0) back ∙ f.2 in
          let p : part_end s' at' ≡ Ok (at' + i) = first_within (n.part - 1) (omega arith) (omega arith) (ap (begins set.Name []) colon ∙ no_colon_char) f.1 in
          let q : part_end s' (at' + (n.part - at)) ≡ Ok (at' + (n.end - at)) = part_within n.part n.end h.onward (omega arith) (omega arith) name_closed h.last in
          simp (p, lt-ltb (at' + i) (length s') (omega arith), colon, next, q)

-- n bytes from a place on, and a byte behind that no name has
module _ (s : List ℕ) (at n : ℕ) (hi : at + n < length s) where
  word : List ℕ
  word = take n (drop at s)

  word_length : length word ≡ n
  unfolding word
  word_length = length-take-le n (drop at s) (omega (arith, length-drop at s))

  word_long : length (word ++ (0 ∷ [])) ≡ n + 1
  word_long = length-append word (0 ∷ []) ∙ ap (λ (k : ℕ). k + 1) word_length

  word_byte : (k : ℕ) → k < n → get_or (word ++ (0 ∷ [])) (0 + k) 0 ≡ get_or s (at + k) 0
  unfolding word
  word_byte k lt =
      ap (λ (i : ℕ). get_or (word ++ (0 ∷ [])) i 0) (zero-add k) ∙ get_or-append word (0 ∷ []) 0 k (rw word_length lt) ∙ get_or-take n (drop at s) k 0 lt ∙ get_or-drop at s k 0

  word_end : get_or (word ++ (0 ∷ [])) (0 + n) 0 ≡ 0
  word_end = ap (λ (i : ℕ). get_or (word ++ (0 ∷ [])) i 0) (zero-add n) ∙ get_or_at word 0 [] 0 n word_length

-- ---- what was read
pub whole_part : (s : List ℕ) (at j : ℕ) → part_end s at ≡ Ok j → is_part (take (j - at) (drop at s)) ≡ true
unfolding is_part word
whole_part s at j e =
    let h : PartTo s at j = subst (ReadInside (PartTo s at) s at) e (part_inside s at) in
    let n : ℕ = j - at in
    let hi : at + n < length s = omega arith in
    let up : at + n ≡ j = omega arith in
    let l : List ℕ = word s at n hi ++ (0 ∷ []) in
    let p : part_end l 0 ≡ Ok (0 + n) =
    part_moved s l at 0 n hi (omega (arith, word_long s at n hi)) (word_byte s at n hi) (ap (begins set.Name []) (word_end s at n hi) ∙ no_zero_char) (rw up e) in
    rw p (eq-eqb (0 + n) (length (take n (drop at s))) (omega (arith, word_length s at n hi)))

pub whole_name : (s : List ℕ) (at : ℕ) (n : Name) → name_at s at ≡ Ok n → is_whole_name (take (n.end - n.at) (drop n.at s)) ≡ true
unfolding is_whole_name word
whole_name s at n e =
    let h : NameInside s at n = subst (NamedInside (NameInside s at) s at) e (name_inside s at) in
    let k : ℕ = n.end - at in
    let hi : at + k < length s = omega arith in
    let l : List ℕ = word s at k hi ++ (0 ∷ []) in
    let p = name_moved s l at 0 n h (omega (arith, word_long s at k hi)) (word_byte s at k hi) 0 (word_end s at k hi) no_zero_char refl in
    rw (h.begins, p) (eq-eqb (0 + k) (length (take k (drop at s))) (omega (arith, word_length s at k hi)))

-- ---- a name as a whole, where it stands with a > behind
module _ (s : List ℕ) (at n : ℕ) (hi : at + n < length s) (whole : is_whole_name (take n (drop at s)) ≡ true) (ends : get_or s (at + n) 0 ≡ 0x3E) where
  pub name_here : (part : ℕ) × (name_at s at ≡ Ok (record { at = at; part = part; end = at + n }))
  unfolding is_whole_name word
  name_here = by (name_at l 0) refl whole
    where
      l : List ℕ
      l = word s at n hi ++ (0 ∷ [])

      by : (r : Named) → name_at l 0 ≡ r → name_to (length (word s at n hi)) r ≡ true → (part : ℕ) × (name_at s at ≡ Ok (record { at = at; part = part; end = at + n }))
      by (Ok m) e f =
          let h : NameInside l 0 m = subst (NamedInside (NameInside l 0) l 0) e (name_inside l 0) in
          let k : m.end - 0 ≡ n = omega (arith, eqb-true m.end (length (word s at n hi)) f, word_length s at n hi) in
          let to : at + (m.end - 0) ≡ at + n = omega arith in
          let p = name_moved l s 0 at m h (omega arith) (λ i lt. sym (word_byte s at n hi i (omega arith))) 0x3E (ap (λ (i : ℕ). get_or s i 0) to ∙ ends) no_gt_char refl in
          (at + (m.part - 0), p ∙ ap (λ (i : ℕ). Ok (record { at = at; part = at + (m.part - 0); end = i })) to)
      by (Err x) e f = let z : ◌≡◌ {A = ℕ} 0 1 = cc in absurd (omega arith)

  no_space : spaces_end s (at + n) ≡ Ok (at + n)
  unfolding spaces_end
  no_space = sym (run_stop (Err Cut) space_step (spaces_end s (at + n)) 0 s (at + n) refl hi (Ok (at + n)) (rw ends))

  pub end_tag_here : end_tag_at s at ≡ Ok (record { name = record { at = at; part = name_here.0; end = at + n }; next = at + n + 1 })
  unfolding end_tag_at wanted
  end_tag_here = rw (name_here.1, no_space, lt-ltb (at + n) (length s) hi, ends)
