-- Bytes behind a scene with which a name part, a name or a value that was cut is read to its end.
--     Byte, byte_in, byte_kept                       a byte of a scene
--     Reached, reaches, Left, runs_out               where a machine stands at the scene's end
--     Unfinished, rest_read                          a character that was begun, and what makes it whole
--     part_completed, name_completed                 three bytes suffice, unless the part has no room for them
--     spaces_completed, value_completed
use Rattle.std.specs.Prelude.{Ok, Err}
use Prim.Native.Nat.{ℕ, zero, suc, ◌+◌, ◌-◌, ◌≤◌, ◌<◌}
use mathlib.Core.Path.{◌≡◌, refl, sym, ap, subst, ◌∙◌}
use mathlib.Core.List.{List, [], ◌∷◌, ◌++◌, append_assoc, append-nil}
use mathlib.Core.Bool.{Bool, true, false, cond}
use mathlib.Core.Logic.{◌⊎◌, inl, inr, ⊎_elim, ⊎_map}
use native.Mathlib.Omega.{arith}
use native.Mathlib.Nat.{add-zero}
use borrow.Author.Tests.{eqb-true, eqb-false, eq-eqb, ne_eqb, leb-true, lt-ltb}
use lib.Arith.{lt_of_le-ne}
use lib.ListN.{length, drop, get_or, length-append, length-drop, get_or-append}
use lib.Seq.{drop_at, drop-append-le, get_or-append-add}
use lib.Dec.{leb, ltb, eqb}
use Rattle.laws.specs.Reading.{RunNext, go, stop, follow, run, peek, Stable, drop_here, drop_out, le_or_lt}
use Rattle.laws.specs.Members.{In}
use Rattle.laws.proofs.Flags.{differ}
use Rattle.laws.proofs.Holds.{holds_cond, Turned}
use Rattle.utf8.specs.Utf8.{utf8, is_form}
use Rattle.utf8.specs.Sets.{member, ranges_of}
use Rattle.utf8.specs.declared.Set.{Set}
use Rattle.utf8.specs.declared.Set.TheVariants as set
use Rattle.utf8.proofs.FormLaws.{form_whole}
use Rattle.characters.specs.CanBegin.{begins}
use Rattle.characters.proofs.Laws.{begins_so, begins_some, form_short}
use Rattle.lexer.specs.Computing.{computing}
use Rattle.lexer.specs.Stops.{after_read}
use Rattle.lexer.specs.Characters.{with_byte, char_step, char_end}
use Rattle.lexer.specs.Names.{is_space, space_step, spaces_end, PartState, part_state, part_set, part_whole, part_step, part_end, name_of, prefixed_at, name_at}
use Rattle.lexer.specs.Values.{references, common, whole_of, furthest, no_reference, reference_end, text_at, passed_over, closes, value_step, value_from, value_end}
use Rattle.lexer.specs.declared.Stop.TheVariants.{Bad, Long, Cut}
use Rattle.lexer.specs.Reads.{Read, Named}
use Rattle.lexer.specs.declared.Name.{Name}
use Rattle.lexer.proofs.Inside.{ReadInside, PartTo, part_inside}
use Rattle.lexer.proofs.Common.{common_none, common_few}
use Rattle.lexer.proofs.CharacterLaws.{Within, PassedTo, char_rest}
use Rattle.lexer.proofs.ValueLaws.{reference_inside, text_inside, closes_kept, value_agrees}
use Rattle.lexer.proofs.Parts.{part_ends}
use Rattle.lexer.proofs.Stable.{part_stable}
use Rattle.demands.specs.Answers.{Overfull}

-- what is made of something, unless the scene is overfull; and what is made of the refusal with bytes behind the scene
pub or_full : {s : List ℕ} {X Y : Type 0} {R R' : List ℕ → ℕ → Type 0} → (X → Y) → ((t : List ℕ) (p : ℕ) → R (s ++ t) p → R' (s ++ t) p) → X ⊎ Overfull s R → Y ⊎ Overfull s R'
or_full f g =
    ⊎_map f (λ o.
    record {
      part = o.part;
      character = o.character;
      behind = o.behind;
      inside = o.inside;
      code = o.code;
      rest = o.rest;
      form = o.form;
      past = o.past;
      long = o.long;
      refused = g o.rest (o.part + 64) o.refused;
    })

-- ---- a byte of a scene
abbrev pub Byte : List ℕ → ℕ → ℕ → Type 0
Byte s i b = (i < length s) × (get_or s i 0 ≡ b)

pub byte_in : (s r w : List ℕ) (k i : ℕ) → i ≡ length s + length r + k → k < length w → Byte (s ++ (r ++ w)) i (get_or w k 0)
byte_in s r w k i e lt =
    let at : i ≡ length s + (length r + k) = omega arith in (
      simp length-append (omega arith),
      ap (λ (j : ℕ). get_or (s ++ (r ++ w)) j 0) at ∙ get_or-append-add s (r ++ w) (length r + k) 0 ∙ get_or-append-add r w k 0,
    )

pub byte_kept : (s t : List ℕ) (i : ℕ) → i < length s → Byte (s ++ t) i (get_or s i 0)
byte_kept s t i lt = (simp length-append (omega arith), get_or-append s t 0 i lt)

-- ---- forms: what is read from a place on
abbrev pub Form : Type 0
Form = List ℕ → ℕ → Read

-- bytes behind a scene that end a form, which begins at a place of it
pub record Rest (f : Form) (s : List ℕ) (at k : ℕ) : Type 0 where
  pub more : List ℕ
  pub few : length more ≤ k
  pub done : (u : List ℕ) → f (s ++ (more ++ u)) at ≡ Ok (length s + length more)

-- ---- a machine
module _ {St Out : Type 0} (cut : Out) where
  run_byte : (step : St → ℕ → ℕ → RunNext St Out) (s : List ℕ) (q : St) (i b : ℕ) → Byte s i b → run cut step q (drop i s) i ≡ follow (step q b i) (λ (q' : St). run cut step q' (drop (i + 1) s) (i + 1))
  unfolding run
  run_byte step s q i b h = rw (drop_here s i h.0, h.1)

  -- step: by the scene. J: what its state keeps. P: what its answers meet
  module _ (step : List ℕ → St → ℕ → ℕ → RunNext St Out) (s : List ℕ) (J : St → ℕ → Type 0) (P : St → ℕ → Out → Type 0) where
    -- a scene that is cut: the state at its end, or at a byte where the machine stops with `cut`
    pub record Reached (q : St) (i : ℕ) : Type 0 where
      pub state : St
      pub place : ℕ
      pub kept : J state place
      pub same : (t : List ℕ) → run cut (step (s ++ t)) q (drop i (s ++ t)) i ≡ run cut (step (s ++ t)) state (drop place (s ++ t)) place
      pub ends : (place ≡ length s) ⊎ ((place < length s) × P state place cut)

    module _ (turn : (q : St) (i : ℕ) → i < length s → J q i → Turned (λ (q' : St). J q' (i + 1)) (P q i) (step s q (get_or s i 0) i))
        (agree : (t : List ℕ) (q : St) (i : ℕ) → i < length s → Stable (stop cut) (step s q (get_or s i 0) i) (step (s ++ t) q (get_or s i 0) i)) where
      pub reaches : (l : List ℕ) (q : St) (i : ℕ) → drop i s ≡ l → i ≤ length s → J q i → run cut (step s) q l i ≡ cut → Reached q i
      unfolding run
      reaches [] q i d le j e = record { state = q; place = i; kept = j; same = λ t. refl; ends = inl (omega (arith, ap length d, length-drop i s)) }
      reaches (b ∷ l) q i d le j e =
          let lt : i < length s = omega (arith, length-drop i s, ap length d) in
          let here : get_or s i 0 ∷ drop (i + 1) s ≡ b ∷ l = sym (drop_here s i lt) ∙ d in
          let byte : get_or s i 0 ≡ b = cc in
          let rest : drop (i + 1) s ≡ l = cc in
          by lt (step s q b i) (ap (λ (x : ℕ). step s q x i) byte) (turn q i lt j) (λ q' k f. reaches l q' (i + 1) rest (omega arith) k f) e
        where
          by : i < length s → (n : RunNext St Out) → step s q (get_or s i 0) i ≡ n → Turned (λ (q' : St). J q' (i + 1)) (P q i) (step s q (get_or s i 0) i) → ((q' : St) → J q' (i + 1) → run cut (step s) q' l (i + 1) ≡ cut → Reached q' (i + 1)) → follow n (λ (q' : St). run cut (step s) q' l (i + 1)) ≡ cut → Reached q i
          by lt (stop o) f k ih e = record { state = q; place = i; kept = j; same = λ t. refl; ends = inr (lt, subst (P q i) e (rw f at k)) }
          by lt (go q') f k ih e =
              let more : Reached q' (i + 1) = ih q' (rw f at k) e in
              record {
                state = more.state;
                place = more.place;
                kept = more.kept;
                same =
                    λ t.
                    run_byte (step (s ++ t)) (s ++ t) q i (get_or s i 0) (byte_kept s t i lt)
                    ∙ ap (λ (n : RunNext St Out). follow n (λ (x : St). run cut (step (s ++ t)) x (drop (i + 1) (s ++ t)) (i + 1))) (agree t q i lt (λ c. let y : go q' ≡ stop cut = sym f ∙ c in let w : ◌≡◌ {A = ℕ} 0 1 = cc in omega arith) ∙ f)
                    ∙ more.same t;
                ends = more.ends;
              }

abbrev pub NotCut : Read → Type 0
NotCut (Ok j) = Unit {0}
NotCut (Err (Bad j)) = Unit {0}
NotCut (Err (Long j)) = Unit {0}
NotCut (Err Cut) = ⊥

-- a machine that does not know the scene, and stops with no `Cut`
module _ {St : Type 0} (step : St → ℕ → ℕ → RunNext St Read) (s : List ℕ) (J : St → ℕ → Type 0) where
  -- what is left of it at the scene's end
  pub record Left (q : St) (at : ℕ) : Type 0 where
    pub state : St
    pub kept : J state (length s)
    pub same : (t : List ℕ) → run (Err Cut) step q (drop at (s ++ t)) at ≡ run (Err Cut) step state t (length s)

  pub runs_out : ((q : St) (i : ℕ) → i < length s → J q i → Turned (λ (q' : St). J q' (i + 1)) NotCut (step q (get_or s i 0) i)) → (q : St) (at : ℕ) → at ≤ length s → J q at → run (Err Cut) step q (drop at s) at ≡ Err Cut → Left q at
  runs_out turn q at le j e =
      let r = reaches (Err Cut) (λ (l : List ℕ). step) s J (λ (q : St) (i : ℕ). NotCut) turn (λ t q i lt m. refl) (drop at s) q at refl le j e in
      by r.state r.place r.kept r.same r.ends
    where
      by : (p : St) (i : ℕ) → J p i → ((t : List ℕ) → run (Err Cut) step q (drop at (s ++ t)) at ≡ run (Err Cut) step p (drop i (s ++ t)) i) → (i ≡ length s) ⊎ ((i < length s) × ⊥) → Left q at
      by p i k same (inl f) =
          record {
            state = p;
            kept = subst (J p) f k;
            same = λ t. same t ∙ ap (λ (l : List ℕ). run (Err Cut) step p l i) (drop_at s t i (sym f)) ∙ ap (run (Err Cut) step p t) f;
          }
      by p i k same (inr h) = absurd h.1

-- an end that was read stays
pub read_so : (r r' : Read) (j : ℕ) → r ≡ Ok j → Stable (Err Cut) r r' → r' ≡ Ok j
read_so r r' j e k = k (λ c. let d : Ok j ≡ Err Cut = sym e ∙ c in let z : ◌≡◌ {A = ℕ} 0 1 = cc in omega arith) ∙ e

-- ---- space
pub spaces_here : (s : List ℕ) (at b : ℕ) → Byte s at b → is_space b ≡ false → spaces_end s at ≡ Ok at
unfolding spaces_end
spaces_here s at b h n = run_byte (Err Cut) space_step s 0 at b h ∙ rw n

pub spaces_completed : (s : List ℕ) (at : ℕ) → at ≤ length s → spaces_end s at ≡ Err Cut → (b : ℕ) (u : List ℕ) → is_space b ≡ false → spaces_end (s ++ (b ∷ u)) at ≡ Ok (length s)
unfolding spaces_end run
spaces_completed s at le e b u n = (runs_out space_step s (λ (q i : ℕ). Unit {0}) turn 0 at le tt e).same (b ∷ u) ∙ rw n
  where
    turn : (q i : ℕ) → i < length s → Unit {0} → Turned (λ (q' : ℕ). Unit {0}) NotCut (space_step q (get_or s i 0) i)
    turn q i lt j = holds_cond (Turned (λ (q' : ℕ). Unit {0}) NotCut) (is_space (get_or s i 0)) (λ e. tt) (λ e. tt)

-- ---- a character
utf8_few : (c : ℕ) → length (utf8 c) ≤ 4
unfolding utf8
utf8_few c =
    holds_cond Few (ltb c 0x80) (λ e. omega arith)
    (λ e. holds_cond Few (ltb c 0x800) (λ e. omega arith)
    (λ e. holds_cond Few (ltb c 0x10000) (λ e. omega arith) (λ e. omega arith)))
  where
    Few : List ℕ → Type 0
    Few l = length l ≤ 4

-- the bytes of a character that is not whole, and a rest that makes it so
pub record Unfinished (x : Set) (begun : List ℕ) : Type 0 where
  pub character : ℕ
  pub allowed : member (ranges_of x) character ≡ true
  pub rest : List ℕ
  pub form : utf8 character ≡ begun ++ rest
  pub some : 0 < length begun
  pub lacks : 0 < length rest
  pub few : length rest ≤ 3

pub unfinished : (x : Set) (begun : List ℕ) (b : ℕ) → begins x begun b ≡ true → is_form (begun ++ (b ∷ [])) ≡ false → Unfinished x (begun ++ (b ∷ []))
unfinished x begun b e n = by (begins_so x begun b e).rest (begins_so x begun b e).form
  where
    c : ℕ
    c = (begins_so x begun b e).character

    by : (rest : List ℕ) → utf8 c ≡ begun ++ (b ∷ rest) → Unfinished x (begun ++ (b ∷ []))
    by [] f = absurd (differ (sym (form_whole c (begun ++ (b ∷ [])) f) ∙ n))
    by (d ∷ rest) f =
        record {
          character = c;
          allowed = (begins_so x begun b e).allowed;
          rest = d ∷ rest;
          form = f ∙ sym (append_assoc begun (b ∷ []) (d ∷ rest));
          some = omega (arith, length-append begun (b ∷ []));
          lacks = omega arith;
          few = omega (arith, utf8_few c, ap length f, length-append begun (b ∷ d ∷ rest));
        }

-- a machine goes over the rest of a character. at k begun: its state where k bytes are to come
module _ {St : Type 0} (step : St → ℕ → ℕ → RunNext St Read) (x : Set) (c : ℕ) (allowed : member (ranges_of x) c ≡ true) (at : ℕ → List ℕ → St)
    (goes : (k : ℕ) (begun : List ℕ) (b i : ℕ) → 0 < length begun → length begun + suc k ≡ length (utf8 c) → begins x begun b ≡ true → step (at (suc k) begun) b i ≡ go (at k (with_byte begun b))) where
  pub rest_read : (rest begun u : List ℕ) (i : ℕ) → 0 < length begun → 0 < length rest → utf8 c ≡ begun ++ rest → run (Err Cut) step (at (length rest) begun) (rest ++ u) i ≡ run (Err Cut) step (at 0 []) u (i + length rest)
  unfolding run with_byte
  rest_read [] begun u i h l e = absurd (omega arith)
  rest_read (b ∷ []) begun u i h l e =
      rw (goes 0 begun b i h (omega (arith, ap length e, length-append begun (b ∷ []))) (begins_some x begun b (record { character = c; allowed = allowed; rest = []; form = e })), form_whole c (begun ++ (b ∷ [])) e)
  rest_read (b ∷ d ∷ rest) begun u i h l e =
      let k : i + 1 + length (d ∷ rest) ≡ i + length (b ∷ d ∷ rest) = omega arith in
      rw (goes (length (d ∷ rest)) begun b i h (omega (arith, ap length e, length-append begun (b ∷ d ∷ rest))) (begins_some x begun b (record { character = c; allowed = allowed; rest = d ∷ rest; form = e })), form_short x c allowed begun b d rest e, ← k)
      (rest_read (d ∷ rest) (begun ++ (b ∷ [])) u (i + 1) (omega (arith, length-append begun (b ∷ []))) (omega arith) (e ∙ sym (append_assoc begun (b ∷ []) (d ∷ rest))))

-- a character of which a byte is there
char_completed : (x : Set) (s : List ℕ) (at : ℕ) → at < length s → char_end x s at ≡ Err Cut → Rest (char_end x) s at 3
unfolding char_end
char_completed x s at lt e =
    let r = runs_out (char_step x) s J turn [] at (omega arith) (inl refl) e in
    by r.state r.kept r.same
  where
    J : List ℕ → ℕ → Type 0
    J begun i = (i ≡ at) ⊎ Unfinished x begun

    turn : (begun : List ℕ) (i : ℕ) → i < length s → J begun i → Turned (λ (l : List ℕ). J l (i + 1)) NotCut (char_step x begun (get_or s i 0) i)
    turn begun i lt j =
        holds_cond T (begins x begun (get_or s i 0))
        (λ e. holds_cond T (is_form (begun ++ (get_or s i 0 ∷ []))) (λ f. tt) (λ f. inr (unfinished x begun (get_or s i 0) e f)))
        (λ e. tt)
      where
        T : RunNext (List ℕ) Read → Type 0
        T = Turned (λ (l : List ℕ). J l (i + 1)) NotCut

    by : (begun : List ℕ) → J begun (length s) → ((t : List ℕ) → run (Err Cut) (char_step x) [] (drop at (s ++ t)) at ≡ run (Err Cut) (char_step x) begun t (length s)) → Rest (char_end x) s at 3
    by begun (inl f) same = absurd (omega arith)
    by begun (inr u) same =
        record { more = u.rest; few = u.few; done = λ t. same (u.rest ++ t) ∙ char_rest x u.character u.allowed u.rest begun t (length s) u.lacks u.form }

-- ---- a name part
-- the letter a, whether a part begins or goes on with it
letter_char : (t : Bool) → begins (cond t set.Start set.Name) [] 0x61 ≡ true
unfolding computing
letter_char true = refl
letter_char false = refl

letter_whole : with_byte [] 0x61 ≡ []
unfolding computing
letter_whole = refl

letter_goes : (room i : ℕ) → 0 < room → part_step (part_state room []) 0x61 i ≡ go (part_state (room - 1) [])
letter_goes room i h = rw (letter_char (eqb (room + 0) 64), ne_eqb room 0 (λ e. omega arith), letter_whole)

pub part_stops : (room b i : ℕ) (u : List ℕ) → room < 64 → begins set.Name [] b ≡ false → run (Err Cut) part_step (part_state room []) (b ∷ u) i ≡ Ok i
unfolding run
part_stops room b i u h n = rw (part_ends (part_state room []) b i (rw (ne_eqb room 64 (λ e. omega arith))) n)

pub letter_then : (room b i : ℕ) (u : List ℕ) → 0 < room → room ≤ 64 → begins set.Name [] b ≡ false → run (Err Cut) part_step (part_state room []) (0x61 ∷ b ∷ u) i ≡ Ok (i + 1)
unfolding run
letter_then room b i u lo hi n = rw (letter_goes room i lo) (part_stops (room - 1) b (i + 1) u (omega arith) n)

-- the part a
pub letter_part : (s : List ℕ) (i b : ℕ) → Byte s i 0x61 → Byte s (i + 1) b → begins set.Name [] b ≡ false → part_end s i ≡ Ok (i + 1)
unfolding part_end
letter_part s i b h k n = rw (drop_here s i h.0, h.1, drop_here s (i + 1) k.0, k.1) (letter_then 64 b i (drop (i + 1 + 1) s) (omega arith) (omega arith) n)

-- the rest of its last character, or the byte a where it has none yet. Behind them it has room for so many bytes
pub record PartDone (s : List ℕ) (at : ℕ) : Type 0 where
  pub more : List ℕ
  pub few : length more ≤ 3
  pub room : ℕ
  pub left : room + (length s + length more) ≡ at + 64
  pub some : room < 64
  pub reads : (u : List ℕ) → part_end (s ++ (more ++ u)) at ≡ run (Err Cut) part_step (part_state room []) u (length s + length more)

pub part_done : (s : List ℕ) (at : ℕ) (p : PartDone s at) (b : ℕ) (u : List ℕ) → begins set.Name [] b ≡ false → part_end (s ++ (p.more ++ (b ∷ u))) at ≡ Ok (length s + length p.more)
part_done s at p b u n = p.reads (b ∷ u) ∙ part_stops p.room b (length s + length p.more) u p.some n

-- the bytes that are left of a character, where there is no room for them: the first without room is refused
part_long : (c : ℕ) (rest begun : List ℕ) (room i : ℕ) → member (ranges_of (part_set (part_state room begun))) c ≡ true → room < length rest → utf8 c ≡ begun ++ rest → run (Err Cut) part_step (part_state room begun) rest i ≡ Err (Long (i + room))
unfolding run with_byte
part_long c [] begun room i m h e = absurd (omega arith)
part_long c (b ∷ rest) begun zero i m h e =
    rw (begins_some (part_set (part_state 0 begun)) begun b (record { character = c; allowed = m; rest = rest; form = e }), add-zero)
part_long c (b ∷ []) begun (suc room) i m h e = absurd (omega arith)
part_long c (b ∷ d ∷ rest) begun (suc room) i m h e =
    let x = part_set (part_state (suc room) begun) in
    let n : room + length (begun ++ (b ∷ [])) ≡ suc room + length begun = omega (arith, length-append begun (b ∷ [])) in
    let y : part_set (part_state room (begun ++ (b ∷ []))) ≡ x = ap (λ (v : ℕ). cond (eqb v 64) set.Start set.Name) n in
    let q : i + 1 + room ≡ i + suc room = omega arith in
    let k : suc room - 1 ≡ room = omega arith in
    rw (begins_some x begun b (record { character = c; allowed = m; rest = d ∷ rest; form = e }), ne_eqb (suc room) 0 (λ z. omega arith), k, form_short x c m begun b d rest e, ← q)
    (part_long c (d ∷ rest) (begun ++ (b ∷ [])) room (i + 1) (rw y m) (omega arith) (e ∙ sym (append_assoc begun (b ∷ []) (d ∷ rest))))

module _ (s : List ℕ) (at : ℕ) where
  -- the bytes of the character that is not whole stand in the scene from `start` on
  record Inside (q : PartState) (i : ℕ) : Type 0 where
    left : q.room + i ≡ at + 64
    start : ℕ
    low : at ≤ start
    long : start + length q.begun ≡ i
    bytes : drop start s ≡ q.begun ++ drop i s
    state : (q.begun ≡ []) ⊎ Unfinished (part_set q) q.begun

  inside_turn : (q : PartState) (i : ℕ) → i < length s → Inside q i → Turned (λ (q' : PartState). Inside q' (i + 1)) NotCut (part_step q (get_or s i 0) i)
  unfolding with_byte
  inside_turn q i lt j =
      holds_cond T (begins (part_set q) q.begun b)
      (λ e. holds_cond T (eqb q.room 0) (λ z. tt)
      (λ z. holds_cond (λ (l : List ℕ). Inside (part_state (q.room - 1) l) (i + 1)) (is_form (q.begun ++ (b ∷ [])))
      (λ f. whole (eqb-false q.room 0 z))
      (λ f. short (eqb-false q.room 0 z) (unfinished (part_set q) q.begun b e f))))
      (λ e. holds_cond (λ (r : Read). NotCut r) (part_whole q) (λ w. tt) (λ w. tt))
    where
      b : ℕ
      b = get_or s i 0

      T : RunNext PartState Read → Type 0
      T = Turned (λ (q' : PartState). Inside q' (i + 1)) NotCut

      whole : (q.room ≡ 0 → ⊥) → Inside (part_state (q.room - 1) []) (i + 1)
      whole n =
          let k = j.left in
          let m = j.low in
          let l = j.long in
          record { left = omega arith; start = i + 1; low = omega arith; long = omega arith; bytes = refl; state = inl refl }

      short : (q.room ≡ 0 → ⊥) → Unfinished (part_set q) (q.begun ++ (b ∷ [])) → Inside (part_state (q.room - 1) (q.begun ++ (b ∷ []))) (i + 1)
      short n u =
          let k = j.left in
          let l = j.long in
          let more = length-append q.begun (b ∷ []) in
          let same : q.room + length q.begun ≡ q.room - 1 + length (q.begun ++ (b ∷ [])) = omega arith in
          record {
            left = omega arith;
            start = j.start;
            low = j.low;
            long = omega arith;
            bytes = j.bytes ∙ ap (λ (l : List ℕ). q.begun ++ l) (drop_here s i lt) ∙ sym (append_assoc q.begun (b ∷ []) (drop (i + 1) s));
            state = inr (subst (λ (k : ℕ). Unfinished (cond (eqb k 64) set.Start set.Name) (q.begun ++ (b ∷ []))) same u);
          }

  -- at the scene's end
  Reads : PartState → Type 0
  Reads q = (t : List ℕ) → part_end (s ++ t) at ≡ run (Err Cut) part_step q t (length s)

  behind_whole : (room : ℕ) → room + length s ≡ at + 64 → at ≤ length s → Reads (part_state room []) → (x : Bool) → eqb room 64 ≡ x → PartDone s at
  unfolding Reads run
  behind_whole room h le reads true x =
      record {
        more = 0x61 ∷ [];
        few = omega arith;
        room = 63;
        left = omega (arith, eqb-true room 64 x);
        some = omega arith;
        reads = λ u. reads (0x61 ∷ u) ∙ rw (letter_goes room (length s) (omega (arith, eqb-true room 64 x)), eqb-true room 64 x);
      }
  behind_whole room h le reads false x =
      record { more = []; few = omega arith; room = room; left = omega arith; some = lt_of_le-ne (omega arith) (eqb-false room 64 x); reads = λ u. reads u ∙ ap (run (Err Cut) part_step (part_state room []) u) (omega arith) }

  module _ (room : ℕ) (begun : List ℕ) (j : Inside (part_state room begun) (length s)) (u : Unfinished (part_set (part_state room begun)) begun) where
    has_room : length u.rest ≤ room → Reads (part_state room begun) → PartDone s at
    unfolding Reads
    has_room le reads =
        record {
          more = u.rest;
          few = u.few;
          room = spare;
          left = omega (arith, j.left);
          some = omega (arith, j.left, j.low, j.long, u.some);
          reads = λ t. reads (u.rest ++ t) ∙ rw (all, add-zero) at (rest_read part_step x u.character u.allowed (λ (k : ℕ). part_state (spare + k)) goes u.rest begun t (length s) u.some u.lacks u.form);
        }
      where
        spare : ℕ
        spare = room - length u.rest

        all : spare + length u.rest ≡ room
        all = omega arith

        x : Set
        x = part_set (part_state room begun)

        goes : (k : ℕ) (l : List ℕ) (b i : ℕ) → 0 < length l → length l + suc k ≡ length (utf8 u.character) → begins x l b ≡ true → part_step (part_state (spare + suc k) l) b i ≡ go (part_state (spare + k) (with_byte l b))
        goes k l b i h n e =
            let same : spare + suc k + length l ≡ room + length begun = omega (arith, ap length u.form, length-append begun u.rest) in
            let less : spare + suc k - 1 ≡ spare + k = omega arith in
            rw (same, e, ne_eqb (spare + suc k) 0 (λ z. omega arith), less)

    no_room : room < length u.rest → Reads (part_state room begun) → Overfull s (λ (S : List ℕ) (p : ℕ). part_end S at ≡ Err (Long p))
    unfolding Reads
    no_room lt reads =
        let bytes : begun ≡ drop j.start s = sym (j.bytes ∙ ap (λ (l : List ℕ). begun ++ l) (drop_out s (length s) (omega arith)) ∙ append-nil begun) in
        let place : length s + room ≡ at + 64 = omega (arith, j.left) in
        record {
          part = at;
          character = j.start;
          behind = j.low;
          inside = omega (arith, j.long, u.some);
          code = u.character;
          rest = u.rest;
          form = u.form ∙ ap (λ (l : List ℕ). l ++ u.rest) bytes;
          past = omega (arith, place);
          long = omega (arith, length-append s u.rest);
          refused = reads u.rest ∙ part_long u.character u.rest begun room (length s) u.allowed lt u.form ∙ ap (λ (p : ℕ). Err (Long p)) place;
        }

  pub part_completed : at ≤ length s → part_end s at ≡ Err Cut → PartDone s at ⊎ Overfull s (λ (S : List ℕ) (p : ℕ). part_end S at ≡ Err (Long p))
  unfolding part_end Reads
  part_completed le e =
      let r = runs_out part_step s Inside inside_turn (part_state 64 []) at le (record { left = omega arith; start = at; low = omega arith; long = omega arith; bytes = refl; state = inl refl }) e in
      by r.state.room r.state.begun r.kept r.kept.state r.same
    where
      by : (room : ℕ) (begun : List ℕ) → Inside (part_state room begun) (length s) → (begun ≡ []) ⊎ Unfinished (part_set (part_state room begun)) begun → Reads (part_state room begun) → PartDone s at ⊎ Overfull s (λ (S : List ℕ) (p : ℕ). part_end S at ≡ Err (Long p))
      by room begun j (inl f) reads = inl (behind_whole room j.left le (subst (λ (l : List ℕ). Reads (part_state room l)) f reads) (eqb room 64) refl)
      by room begun j (inr u) reads = ⊎_elim (λ h. inl (has_room room begun j u h reads)) (λ h. inr (no_room room begun j u h reads)) (le_or_lt (length u.rest) room)

-- ---- a name
pub record NameDone (s : List ℕ) (at : ℕ) : Type 0 where
  pub more : List ℕ
  pub few : length more ≤ 3
  pub done : (b : ℕ) (u : List ℕ) → begins set.Name [] b ≡ false → eqb b 0x3A ≡ false → (n : Name) × (name_at (s ++ (more ++ (b ∷ u))) at ≡ Ok n) × (n.end ≡ length s + length more)

pub name_completed : (s : List ℕ) (at : ℕ) → at ≤ length s → name_at s at ≡ Err Cut → NameDone s at ⊎ Overfull s (λ (S : List ℕ) (p : ℕ). name_at S at ≡ Err (Long p))
unfolding name_at prefixed_at
name_completed s at le e = by (part_end s at) refl (part_inside s at) e
  where
    Goal : Type 0
    Goal = NameDone s at ⊎ Overfull s (λ (S : List ℕ) (p : ℕ). name_at S at ≡ Err (Long p))

    Behind : List ℕ → ℕ → Named
    Behind l j = peek (Err Cut) l j (λ (b : ℕ). cond (eqb b 0x3A) (after_read Err (part_end l (j + 1)) (λ (end : ℕ). name_of at (j + 1) end)) (name_of at at j))

    first : PartDone s at → NameDone s at
    first p =
        record {
          more = p.more;
          few = p.few;
          done =
              λ b u n m.
              let h = byte_in s p.more (b ∷ u) 0 (length s + length p.more) (omega arith) (omega arith) in
              (record { at = at; part = at; end = length s + length p.more }, rw (part_done s at p b u n, lt-ltb (length s + length p.more) (length (s ++ (p.more ++ (b ∷ u)))) h.0, h.1, m), refl);
        }

    second : (j : ℕ) → part_end s at ≡ Ok j → j < length s → eqb (get_or s j 0) 0x3A ≡ true → PartDone s (j + 1) → NameDone s at
    second j f lt c p =
        record {
          more = p.more;
          few = p.few;
          done =
              λ b u n m.
              let t = p.more ++ (b ∷ u) in
              let h = byte_kept s t j lt in
              let same : part_end (s ++ t) at ≡ Ok j = read_so (part_end s at) (part_end (s ++ t) at) j f (part_stable s t at) in
              (record { at = at; part = j + 1; end = length s + length p.more }, rw (same, lt-ltb j (length (s ++ t)) h.0, h.1, c, part_done s (j + 1) p b u n), refl);
        }

    colon : (j : ℕ) → part_end s at ≡ Ok j → j < length s → (x : Bool) → eqb (get_or s j 0) 0x3A ≡ x → cond x (after_read Err (part_end s (j + 1)) (λ (end : ℕ). name_of at (j + 1) end)) (name_of at at j) ≡ Err Cut → Goal
    colon j f lt false c e = let z : ◌≡◌ {A = ℕ} 0 1 = cc in absurd (omega arith)
    colon j f lt true c e = last (part_end s (j + 1)) refl e
      where
        last : (r : Read) → part_end s (j + 1) ≡ r → after_read Err r (λ (end : ℕ). name_of at (j + 1) end) ≡ Err Cut → Goal
        last (Ok i) g e = let z : ◌≡◌ {A = ℕ} 0 1 = cc in absurd (omega arith)
        last (Err x) g e =
            let k : Err x ≡ Err Cut = cc in
            or_full (second j f lt c)
            (λ t p r.
            let h = byte_kept s t j lt in
            rw (read_so (part_end s at) (part_end (s ++ t) at) j f (part_stable s t at), lt-ltb j (length (s ++ t)) h.0, h.1, c) (ap (λ (x : Read). after_read Err x (λ (end : ℕ). name_of at (j + 1) end)) r))
            (part_completed s (j + 1) (omega arith) (g ∙ k))

    by : (r : Read) → part_end s at ≡ r → ReadInside (PartTo s at) s at (part_end s at) → after_read Err r (Behind s) ≡ Err Cut → Goal
    by (Ok j) f i e =
        let to : PartTo s at j = subst (ReadInside (PartTo s at) s at) f i in
        let g : cond (eqb (get_or s j 0) 0x3A) (after_read Err (part_end s (j + 1)) (λ (end : ℕ). name_of at (j + 1) end)) (name_of at at j) ≡ Err Cut = rw (lt-ltb j (length s) to.1) at e in
        colon j f to.1 (eqb (get_or s j 0) 0x3A) refl g
    by (Err x) f i e = let c : Err x ≡ Err Cut = cc in or_full first (λ t p r. rw r) (part_completed s at le (f ∙ c))

-- ---- a reference
common_prefix : (l word : List ℕ) → common l word ≡ length l → word ≡ l ++ drop (length l) word
unfolding common
common_prefix [] word e = refl
common_prefix (b ∷ l) [] e = absurd (omega arith)
common_prefix (b ∷ l) (c ∷ word) e = one (eqb b c) refl e (common_prefix l word)
  where
    one : (t : Bool) → eqb b c ≡ t → cond t (suc (common l word)) 0 ≡ suc (length l) → (common l word ≡ length l → word ≡ l ++ drop (length l) word) → c ∷ word ≡ b ∷ (l ++ drop (length l) word)
    one true q h ih =
        let x : b ≡ c = eqb-true b c q in
        let y : word ≡ l ++ drop (length l) word = ih (omega arith) in
        cc
    one false q h ih = absurd (omega arith)

furthest_found : (l : List ℕ) (words : List (List ℕ)) → 0 < length l → length l ≤ furthest l words → (w : List ℕ) × In w words × (length l ≤ common l w)
unfolding furthest
furthest_found l [] h k = absurd (omega arith)
furthest_found l (w ∷ words) h k = by (ltb (furthest l words) (common l w)) k (furthest_found l words h)
  where
    by : (t : Bool) → length l ≤ cond t (common l w) (furthest l words) → (length l ≤ furthest l words → (x : List ℕ) × In x words × (length l ≤ common l x)) → (x : List ℕ) × In x (w ∷ words) × (length l ≤ common l x)
    by true k ih = (w, inl refl, k)
    by false k ih = let r = ih k in (r.0, inr r.1, r.2)

whole_cut : (s : List ℕ) (at : ℕ) (words : List (List ℕ)) (other : Read) → whole_of s at words other ≡ Err Cut → other ≡ Err Cut
unfolding whole_of
whole_cut s at [] other e = e
whole_cut s at (w ∷ words) other e = by (eqb (common (drop at s) w) (length w)) e (whole_cut s at words other)
  where
    by : (t : Bool) → cond t (Ok (at + length w)) (whole_of s at words other) ≡ Err Cut → (whole_of s at words other ≡ Err Cut → other ≡ Err Cut) → other ≡ Err Cut
    by true f ih = let z : ◌≡◌ {A = ℕ} 0 1 = cc in absurd (omega arith)
    by false f ih = ih f

none_far : (s : List ℕ) (at : ℕ) → no_reference s at ≡ Err Cut → length s ≤ at + furthest (drop at s) references
unfolding no_reference
none_far s at e = by (leb (length s) (at + furthest (drop at s) references)) refl e
  where
    by : (t : Bool) → leb (length s) (at + furthest (drop at s) references) ≡ t → ◌≡◌ {A = Read} (cond t (Err Cut) (Err (Bad (at + furthest (drop at s) references)))) (Err Cut) → length s ≤ at + furthest (drop at s) references
    by true q f = leb-true (length s) (at + furthest (drop at s) references) q
    by false q f = let z : ◌≡◌ {A = ℕ} 0 1 = cc in absurd (omega arith)

-- one that stands whole is read
stands : (s w rest : List ℕ) (at : ℕ) → In w references → drop at s ≡ w ++ rest → reference_end s at ≡ Ok (at + length w)
unfolding reference_end whole_of common
stands s w rest at (inl q) e = rw (e, q, common_none rest)
stands s w rest at (inr (inl q)) e = rw (e, q, common_none rest)
stands s w rest at (inr (inr (inl q))) e = rw (e, q, common_none rest)
stands s w rest at (inr (inr (inr (inl q)))) e = rw (e, q, common_none rest)
stands s w rest at (inr (inr (inr (inr (inl q))))) e = rw (e, q, common_none rest)
stands s w rest at (inr (inr (inr (inr (inr q))))) e = elim q [ ]

reference_few : (w : List ℕ) → In w references → (1 ≤ length w) × (length w ≤ 6)
reference_few w (inl q) = rw q (omega arith)
reference_few w (inr (inl q)) = rw q (omega arith)
reference_few w (inr (inr (inl q))) = rw q (omega arith)
reference_few w (inr (inr (inr (inl q)))) = rw q (omega arith)
reference_few w (inr (inr (inr (inr (inl q))))) = rw q (omega arith)
reference_few w (inr (inr (inr (inr (inr q))))) = elim q [ ]

-- a scene that ends inside a reference
reference_completed : (s : List ℕ) (at : ℕ) → at < length s → reference_end s at ≡ Err Cut → Rest reference_end s at 5
unfolding reference_end
reference_completed s at lt e =
    let l = drop at s in
    let cut = length-drop at s in
    let far = none_far s at (whole_cut s at references (no_reference s at) e) in
    let r = furthest_found l references (omega arith) (omega arith) in
    let all : common l r.0 ≡ length l = omega (arith, common_few l r.0, r.2) in
    let rest = drop (length l) r.0 in
    let m : In (l ++ rest) references = subst (λ (w : List ℕ). In w references) (common_prefix l r.0 all) r.1 in
    let few = reference_few (l ++ rest) m in
    let size = length-append l rest in
    record {
      more = rest;
      few = omega arith;
      done = λ u. stands (s ++ (rest ++ u)) (l ++ rest) u at m (drop-append-le at s (rest ++ u) (omega arith) ∙ sym (append_assoc l rest u)) ∙ ap Ok (omega arith);
    }

-- ---- a value
-- the byte b at a place begins a character
abbrev Texted : ℕ → Form
Texted b s at = text_at s b at

text_completed : (s : List ℕ) (b at : ℕ) → at < length s → text_at s b at ≡ Err Cut → Rest (Texted b) s at 5
unfolding text_at
text_completed s b at lt e = by (eqb b 0x3C) refl e
  where
    by : (t : Bool) → eqb b 0x3C ≡ t → cond t (Err (Bad at)) (char_end set.Char s at) ≡ Err Cut → Rest (Texted b) s at 5
    by true q f = let z : ◌≡◌ {A = ℕ} 0 1 = cc in absurd (omega arith)
    by false q f =
        let r = char_completed set.Char s at lt f in
        record { more = r.more; few = omega (arith, r.few); done = λ u. rw q (r.done u) }

value_stops : (s : List ℕ) (at quote i : ℕ) → Byte s i quote → run (Err Cut) (value_step s at quote) 0 (drop i s) i ≡ Ok i
value_stops s at quote i h = run_byte (Err Cut) (value_step s at quote) s 0 i quote h ∙ rw (eq-eqb quote quote refl)

pub value_here : (s : List ℕ) (quote at : ℕ) → Byte s at quote → value_end s at quote ≡ Ok at
unfolding value_from
value_here s quote at h = value_stops s at quote at h

skips : (s : List ℕ) (at quote k i : ℕ) → i + k ≤ length s → run (Err Cut) (value_step s at quote) k (drop i s) i ≡ run (Err Cut) (value_step s at quote) 0 (drop (i + k) s) (i + k)
skips s at quote zero i h = rw add-zero
skips s at quote (suc k) i h =
    let e : i + suc k ≡ i + 1 + k = omega arith in
    let d : suc k - 1 ≡ k = omega arith in
    run_byte (Err Cut) (value_step s at quote) s (suc k) i (get_or s i 0) (omega arith, refl)
    ∙ rw (ne_eqb (suc k) 0 (λ z. omega arith), d, e) (skips s at quote k (i + 1) (omega arith))

pub record ValueDone (s : List ℕ) (at quote : ℕ) : Type 0 where
  pub more : List ℕ
  pub few : length more ≤ 5
  pub done : (u : List ℕ) → value_end (s ++ (more ++ (quote ∷ u))) at quote ≡ Ok (length s + length more)

module _ (s : List ℕ) (quote at : ℕ) where
  -- a reference or a character that begins at i, where the machine stops with `Cut`
  record Cuts (left i : ℕ) : Type 0 where
    none : left ≡ 0
    form : Form
    rest : Rest form s i 5
    step : (t : List ℕ) → value_step (s ++ t) at quote 0 (get_or s i 0) i ≡ passed_over i (form (s ++ t) i)

  abbrev StopsAt : ℕ → ℕ → Read → Type 0
  StopsAt left i (Ok j) = Unit {0}
  StopsAt left i (Err (Bad j)) = Unit {0}
  StopsAt left i (Err (Long j)) = Unit {0}
  StopsAt left i (Err Cut) = Cuts left i

  -- what is passed over ends inside the scene
  value_turn : (left i : ℕ) → i < length s → i + left ≤ length s → Turned (λ (q : ℕ). i + 1 + q ≤ length s) (StopsAt left i) (value_step s at quote left (get_or s i 0) i)
  value_turn left i lt j =
      holds_cond T (eqb left 0)
      (λ z. holds_cond T (eqb b quote) (λ e. tt)
      (λ q. holds_cond T (eqb b 0x26) (λ e. passed z reference_end (reference_completed s i lt) (λ t. rw (q, e)) (reference_end s i) refl (reference_inside s i))
      (λ a. holds_cond T (closes s at quote b i) (λ e. tt)
      (λ e. passed z (Texted b) (text_completed s b i lt) (λ t. rw (q, a, closes_kept s t at quote b i lt, e)) (text_at s b i) refl (text_inside s b i lt)))))
      (λ z. omega (arith, eqb-false left 0 z))
    where
      T : RunNext ℕ Read → Type 0
      T = Turned (λ (q : ℕ). i + 1 + q ≤ length s) (StopsAt left i)

      b : ℕ
      b = get_or s i 0

      passed : eqb left 0 ≡ true → (f : Form) → (f s i ≡ Err Cut → Rest f s i 5) → ((t : List ℕ) → value_step (s ++ t) at quote 0 b i ≡ passed_over i (f (s ++ t) i)) → (r : Read) → f s i ≡ r → Within (PassedTo s i) s i r → T (passed_over i r)
      passed z f h k (Ok m) e w = omega arith
      passed z f h k (Err (Bad m)) e w = tt
      passed z f h k (Err (Long m)) e w = tt
      passed z f h k (Err Cut) e w = record { none = eqb-true left 0 z; form = f; rest = h e; step = k }

  Same : ℕ → ℕ → Type 0
  Same left i = (t : List ℕ) → value_end (s ++ t) at quote ≡ run (Err Cut) (value_step (s ++ t) at quote) left (drop i (s ++ t)) i

  at_end : (left i : ℕ) → Same left i → i + left ≤ length s → i ≡ length s → ValueDone s at quote
  unfolding Same
  at_end left i same j f =
      record {
        more = [];
        few = omega arith;
        done =
            λ u.
            let none : left ≡ 0 = omega arith in
            same (quote ∷ u)
            ∙ ap (λ (k : ℕ). run (Err Cut) (value_step (s ++ (quote ∷ u)) at quote) k (drop i (s ++ (quote ∷ u))) i) none
            ∙ value_stops (s ++ (quote ∷ u)) at quote i (byte_in s [] (quote ∷ u) 0 i (omega arith) (omega arith))
            ∙ ap Ok (omega arith);
      }

  at_cut : (left i : ℕ) → Same left i → i < length s → Cuts left i → ValueDone s at quote
  unfolding Same
  at_cut left i same lt c =
      let r = c.rest in
      record {
        more = r.more;
        few = r.few;
        done =
            λ u.
            let S = s ++ (r.more ++ (quote ∷ u)) in
            let k : ℕ = length s + length r.more - (i + 1) in
            let long : length S ≡ length s + (length r.more + suc (length u)) = simp length-append in
            let last : i + 1 + k ≡ length s + length r.more = omega arith in
            same (r.more ++ (quote ∷ u))
            ∙ ap (λ (q : ℕ). run (Err Cut) (value_step S at quote) q (drop i S) i) c.none
            ∙ run_byte (Err Cut) (value_step S at quote) S 0 i (get_or s i 0) (byte_kept s (r.more ++ (quote ∷ u)) i lt)
            ∙ rw (c.step (r.more ++ (quote ∷ u)), r.done (quote ∷ u)) (skips S at quote k (i + 1) (omega arith))
            ∙ value_stops S at quote (i + 1 + k) (byte_in s r.more (quote ∷ u) 0 (i + 1 + k) (omega arith) (omega arith))
            ∙ ap Ok last;
      }

  pub value_completed : at ≤ length s → value_end s at quote ≡ Err Cut → ValueDone s at quote
  unfolding value_from Same
  value_completed le e =
      let r = reaches (Err Cut) (λ (l : List ℕ). value_step l at quote) s (λ (q i : ℕ). i + q ≤ length s) StopsAt value_turn (λ t left i. value_agrees s t at quote left (get_or s i 0) i) (drop at s) 0 at refl le (omega arith) e in
      ⊎_elim (at_end r.state r.place r.same r.kept) (λ h. at_cut r.state r.place r.same h.0 h.1) r.ends
