-- A character of a set: the place that an answer names is inside the scene, an answer other than `Cut` stays when more bytes come, and a machine that
-- reads byte by byte goes over it as a whole.
--     Within, PassedTo               what an answer says of its place; end_of takes it out
--     char_inside, char_stable       which places; more bytes
--     char_low                       a byte below 80
--     Inner, char_through            a machine whose state holds the bytes of a character
--     char_rest                      the bytes with which a character that was begun is whole
--     char_found                     the character that was read
use Rattle.std.specs.Prelude.{Ok, Err}
use Prim.Native.Nat.{ℕ, ◌+◌, ◌≤◌, ◌<◌}
use mathlib.Core.Path.{◌≡◌, refl, sym, ap, subst, ◌∙◌}
use mathlib.Core.List.{List, [], ◌∷◌, ◌++◌, append_assoc}
use mathlib.Core.Bool.{Bool, true, false, cond}
use native.Mathlib.Omega.{arith}
use borrow.Author.Tests.{eqb-true}
use lib.ListN.{length, drop, get_or, length-drop, length-append}
use Rattle.laws.specs.Reading.{RunNext, go, stop, follow, run, run_stable, Stable, drop_here}
use Rattle.laws.proofs.Holds.{holds_cond, Turned, run_held}
use Rattle.utf8.specs.Utf8.{utf8, is_form}
use Rattle.utf8.specs.Sets.{member, ranges_of}
use Rattle.utf8.specs.Forms.{next_form, form_of}
use Rattle.utf8.specs.declared.Set.{Set}
use Rattle.utf8.proofs.Deciding.{ranged}
use Rattle.utf8.proofs.FormLaws.{form_whole, ascii_whole}
use Rattle.characters.specs.CanBegin.{begins}
use Rattle.characters.proofs.Laws.{begins_so, begins_some, whole_left, form_short, ascii_begins}
use Rattle.lexer.specs.Stops.{after_read}
use Rattle.lexer.specs.Characters.{char_step, char_end}
use Rattle.lexer.specs.declared.Stop.TheVariants.{Bad, Long, Cut}
use Rattle.lexer.specs.Reads.{Read}

-- P: what holds of the end. A byte that cannot stand there is inside the scene; a character, a reference and a value are never too long
abbrev pub Within : (ℕ → Type 0) → List ℕ → ℕ → Read → Type 0
Within P s at (Ok j) = P j
Within P s at (Err (Bad j)) = (at ≤ j) × (j < length s)
Within P s at (Err (Long j)) = ⊥
Within P s at (Err Cut) = Unit

module _ (P : ℕ → Type 0) (s : List ℕ) (at j : ℕ) (r : Read) (w : Within P s at r) where
  pub end_of : r ≡ Ok j → P j
  end_of e = subst (Within P s at) e w

-- the end of a character or a reference
abbrev pub PassedTo : List ℕ → ℕ → ℕ → Type 0
PassedTo s at j = (at < j) × (j ≤ length s)

pub char_inside : (x : Set) (s : List ℕ) (at : ℕ) → Within (PassedTo s at) s at (char_end x s at)
unfolding char_end
char_inside x s at = run_held (Err Cut) (char_step x) s (λ (begun : List ℕ) (j : ℕ). at ≤ j) In tt turn [] at (omega arith)
  where
    In : Read → Type 0
    In = Within (PassedTo s at) s at

    Turn : ℕ → RunNext (List ℕ) Read → Type 0
    Turn j = Turned (λ (begun : List ℕ). at ≤ j + 1) In

    turn : (begun : List ℕ) (j : ℕ) → j < length s → at ≤ j → Turn j (char_step x begun (get_or s j 0) j)
    turn begun j hi lo =
        holds_cond (Turn j) (begins x begun (get_or s j 0))
        (λ _. holds_cond (Turn j) (is_form (begun ++ (get_or s j 0 ∷ []))) (λ _. omega arith) (λ _. omega arith))
        (λ _. (lo, hi))

pub char_stable : (x : Set) (s t : List ℕ) (at : ℕ) → Stable (Err Cut) (char_end x s at) (char_end x (s ++ t) at)
unfolding char_end
char_stable x s t at = run_stable (Err Cut) (char_step x) [] s t at

-- a byte below 80 is a character or none
pub char_low : (x : Set) (s : List ℕ) (at : ℕ) → at < length s → get_or s at 0 < 0x80 → char_end x s at ≡ cond (member (ranges_of x) (get_or s at 0)) (Ok (at + 1)) (Err (Bad at))
unfolding char_end run
char_low x s at h lt = rw (drop_here s at h, ascii_begins x (get_or s at 0) lt, ascii_whole (get_or s at 0) lt) (by (member (ranges_of x) (get_or s at 0)))
  where
    by : (t : Bool) → follow (cond t (stop (Ok (at + 1))) (stop (Err (Bad at)))) (λ (begun : List ℕ). run (Err Cut) (char_step x) begun (drop (at + 1) s) (at + 1)) ≡ cond t (Ok (at + 1)) (Err (Bad at))
    by true = refl
    by false = refl

-- ---- a machine whose state holds the bytes of a character: `inner begun` where some are read, `whole` behind it
module _ {St : Type 0} (x : Set) (step : St → ℕ → ℕ → RunNext St Read) (inner : List ℕ → St) (whole : St) where
  abbrev pub char_turn : List ℕ → ℕ → ℕ → RunNext St Read
  char_turn begun b i = cond (begins x begun b) (go (cond (is_form (begun ++ (b ∷ []))) whole (inner (begun ++ (b ∷ []))))) (stop (Err (Bad i)))

  module _ (s : List ℕ) (same : (begun : List ℕ) → 0 < length begun → (b i : ℕ) → step (inner begun) b i ≡ char_turn begun b i) where
    Over : List ℕ → List ℕ → St → ℕ → Type 0
    Over l begun q i = run (Err Cut) step q l i ≡ after_read Err (run (Err Cut) (char_step x) begun l i) (λ (j : ℕ). run (Err Cut) step whole (drop j s) j)

    through : (l begun : List ℕ) (q : St) (i : ℕ) → drop i s ≡ l → ((b : ℕ) (l' : List ℕ) → l ≡ b ∷ l' → step q b i ≡ char_turn begun b i) → Over l begun q i
    unfolding run Over
    through [] begun q i d h = refl
    through (b ∷ l) begun q i d h =
        let lt : i < length s = omega (arith, length-drop i s, ap length d) in
        let here : get_or s i 0 ∷ drop (i + 1) s ≡ b ∷ l = sym (drop_here s i lt) ∙ d in
        let rest : drop (i + 1) s ≡ l = cc in
        rw (h b l refl) (by rest (λ (q' : St) k. through l (begun ++ (b ∷ [])) q' (i + 1) rest k) (begins x begun b) (is_form (begun ++ (b ∷ []))))
      where
        more : List ℕ
        more = begun ++ (b ∷ [])

        by : drop (i + 1) s ≡ l → ((q' : St) → ((b' : ℕ) (l' : List ℕ) → l ≡ b' ∷ l' → step q' b' (i + 1) ≡ char_turn more b' (i + 1)) → Over l more q' (i + 1)) → (t u : Bool) → follow (cond t (go (cond u whole (inner more))) (stop (Err (Bad i)))) (λ (q' : St). run (Err Cut) step q' l (i + 1)) ≡ after_read Err (follow (cond t (cond u (stop (Ok (i + 1))) (go more)) (stop (Err (Bad i)))) (λ (begun' : List ℕ). run (Err Cut) (char_step x) begun' l (i + 1))) (λ (j : ℕ). run (Err Cut) step whole (drop j s) j)
        by rest ih false u = refl
        by rest ih true true = rw rest
        by rest ih true false = ih (inner more) (λ b' l' e. same more (omega (arith, length-append begun (b ∷ []))) b' (i + 1))

    -- from a character's first byte on
    pub char_through : (q : St) (i : ℕ) → (i < length s → step q (get_or s i 0) i ≡ char_turn [] (get_or s i 0) i) → run (Err Cut) step q (drop i s) i ≡ after_read Err (char_end x s i) (λ (j : ℕ). run (Err Cut) step whole (drop j s) j)
    unfolding Over char_end
    char_through q i h = through (drop i s) [] q i refl first
      where
        first : (b : ℕ) (l' : List ℕ) → drop i s ≡ b ∷ l' → step q b i ≡ char_turn [] b i
        first b l' d =
            let lt : i < length s = omega (arith, length-drop i s, ap length d) in
            let here : get_or s i 0 ∷ drop (i + 1) s ≡ b ∷ l' = sym (drop_here s i lt) ∙ d in
            let byte : get_or s i 0 ≡ b = cc in
            rw byte at (h lt)

pub empty : (l : List ℕ) → length l ≡ 0 → l ≡ []
empty [] e = refl
empty (b ∷ l) e = absurd (omega arith)

-- ---- the bytes that are left of a character
module _ (x : Set) (c : ℕ) (allowed : member (ranges_of x) c ≡ true) where
  pub char_rest : (rest begun u : List ℕ) (i : ℕ) → 0 < length rest → utf8 c ≡ begun ++ rest → run (Err Cut) (char_step x) begun (rest ++ u) i ≡ Ok (i + length rest)
  unfolding run
  char_rest [] begun u i h e = absurd (omega arith)
  char_rest (b ∷ []) begun u i h e =
      rw (begins_some x begun b (record { character = c; allowed = allowed; rest = []; form = e }), form_whole c (begun ++ (b ∷ [])) e)
  char_rest (b ∷ d ∷ rest) begun u i h e =
      let k : i + 1 + length (d ∷ rest) ≡ i + length (b ∷ d ∷ rest) = omega arith in
      let f : utf8 c ≡ (begun ++ (b ∷ [])) ++ (d ∷ rest) = e ∙ sym (append_assoc begun (b ∷ []) (d ∷ rest)) in
      rw (begins_some x begun b (record { character = c; allowed = allowed; rest = d ∷ rest; form = e }), form_short x c allowed begun b d rest e, ← k) (char_rest (d ∷ rest) (begun ++ (b ∷ [])) u (i + 1) (omega arith) f)

-- ---- the character that was read
pub record Found (x : Set) (s : List ℕ) (at j : ℕ) : Type 0 where
  pub character : ℕ
  pub allowed : member (ranges_of x) character ≡ true
  pub bytes : drop at s ≡ utf8 character ++ drop j s
  pub far : at + length (utf8 character) ≡ j

pub char_found : (x : Set) (s : List ℕ) (at j : ℕ) → char_end x s at ≡ Ok j → Found x s at j
unfolding char_end
char_found x s at j e = subst P e (run_held (Err Cut) (char_step x) s I P tt turn [] at (omega arith, refl))
  where
    P : Read → Type 0
    P (Ok k) = Found x s at k
    P (Err y) = Unit {0}

    I : List ℕ → ℕ → Type 0
    I begun i = (at + length begun ≡ i) × (drop at s ≡ begun ++ drop i s)

    on : (begun : List ℕ) (i : ℕ) → i < length s → I begun i → I (begun ++ (get_or s i 0 ∷ [])) (i + 1)
    on begun i lt h =
        (omega (arith, h.0, length-append begun (get_or s i 0 ∷ [])), h.1 ∙ ap (λ (l : List ℕ). begun ++ l) (drop_here s i lt) ∙ sym (append_assoc begun (get_or s i 0 ∷ []) (drop (i + 1) s)))

    whole : (begun : List ℕ) (i : ℕ) → i < length s → I begun i → begins x begun (get_or s i 0) ≡ true → is_form (begun ++ (get_or s i 0 ∷ [])) ≡ true → Found x s at (i + 1)
    whole begun i lt h e f =
        let b = begins_so x begun (get_or s i 0) e in
        let left = eqb-true (next_form (form_of begun) (get_or s i 0)).left 0 (sym (whole_left x begun (get_or s i 0) e) ∙ f) in
        let none : b.rest ≡ [] = empty b.rest (sym (ranged b.character begun (get_or s i 0) b.rest b.form).1 ∙ left) in
        let form : begun ++ (get_or s i 0 ∷ []) ≡ utf8 b.character = sym (b.form ∙ ap (λ (r : List ℕ). begun ++ (get_or s i 0 ∷ r)) none) in
        let k = on begun i lt h in
        record { character = b.character; allowed = b.allowed; bytes = k.1 ∙ ap (λ (l : List ℕ). l ++ drop (i + 1) s) form; far = ap (λ (l : List ℕ). at + length l) (sym form) ∙ k.0 }

    turn : (begun : List ℕ) (i : ℕ) → i < length s → I begun i → Turned (λ (q : List ℕ). I q (i + 1)) P (char_step x begun (get_or s i 0) i)
    turn begun i lt h =
        holds_cond (Turned (λ (q : List ℕ). I q (i + 1)) P) (begins x begun (get_or s i 0))
        (λ e. holds_cond (Turned (λ (q : List ℕ). I q (i + 1)) P) (is_form (begun ++ (get_or s i 0 ∷ []))) (λ f. whole begun i lt h e f) (λ f. on begun i lt h))
        (λ e. tt)
