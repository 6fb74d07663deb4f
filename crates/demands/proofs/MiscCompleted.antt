-- Bytes behind a scene with which a comment, an instruction or the declaration that was cut is read to its end.
--     declaration_goes, instruction_completed, misc_completed    sixteen bytes suffice, unless the target is overfull
--     misc_begins                                                behind a <
use Rattle.std.specs.Prelude.{Ok, Err}
use Prim.Native.Nat.{ℕ, zero, suc, ◌+◌, ◌≤◌, ◌<◌, zero-le}
use mathlib.Core.Path.{◌≡◌, refl, sym, ap, subst, ◌∙◌}
use mathlib.Core.List.{List, [], ◌∷◌, ◌++◌, append_assoc}
use mathlib.Core.Bool.{Bool, true, false, cond, ◌&&◌, ◌||◌}
use mathlib.Core.Logic.{◌⊎◌, inl, inr, ⊎_elim}
use native.Mathlib.Omega.{arith}
use borrow.Author.Tests.{eqb-true, eqb-false, eq-eqb, ne_eqb, lt-ltb}
use lib.Arith.{lt_of_le-ne}
use lib.ListN.{length, drop, get_or, length-append}
use lib.Dec.{ltb, eqb}
use Rattle.laws.specs.Reading.{RunNext, go, stop, follow, run}
use Rattle.laws.specs.Text.{bytes}
use Rattle.laws.proofs.Flags.{differ}
use Rattle.laws.proofs.Holds.{holds_cond, Turned}
use Rattle.utf8.specs.Utf8.{is_form}
use Rattle.utf8.specs.declared.Set.TheVariants as set
use Rattle.utf8.proofs.FormLaws.{ascii_whole}
use Rattle.characters.specs.CanBegin.{begins}
use Rattle.characters.proofs.Laws.{ascii_breaks}
use Rattle.lexer.specs.Computing.{computing}
use Rattle.lexer.specs.Characters.{with_byte}
use Rattle.lexer.specs.Stops.{after_read}
use Rattle.lexer.specs.Names.{is_space, spaces_end, part_state, part_step, part_end}
use Rattle.lexer.specs.Tags.{wanted, slash_at}
use Rattle.lexer.specs.Declaration.{word_end, is_letter, is_field_byte, some_step, some_end, version_end, encoding_end, answer_end, standalone_end, field_word, field_value, quoted_end, field_end, turn_from, field_turn, field_then, last_rest, standalone_then, encoding_rest, encoding_then, either_then, version_rest, version_then, declaration_end}
use Rattle.lexer.specs.Misc.{MiscState, misc_state, free_step, comment_step, comment_rest, comment_end, content_step, content_end, behind_target, is_xml, is_declared, instruction_end, misc_end}
use Rattle.lexer.specs.declared.Stop.TheVariants.{Bad, Long, Cut}
use Rattle.lexer.specs.Reads.{Read}
use Rattle.lexer.specs.declared.Turn.TheVariants as turn
use Rattle.lexer.specs.declared.Field.{Field}
use Rattle.lexer.specs.declared.Field.TheVariants as field
use Rattle.lexer.proofs.Inside.{ReadInside, PartTo, part_inside}
use Rattle.lexer.proofs.Stable.{part_stable}
use Rattle.lexer.proofs.MiscLaws.{word_inside, answer_inside, field_word_inside, field_inside, word_stable, answer_stable, field_stable, declared_kept, xml_kept, xml_three}
use Rattle.demands.specs.Answers.{Overfull}
use Rattle.demands.proofs.CompletedParts.{or_full, byte_in, byte_kept, Form, Rest, NotCut, read_so, Unfinished, unfinished, rest_read, part_stops, letter_then, letter_part, PartDone, part_completed}
use Rattle.demands.proofs.CompletedForms.{Refused, Goes, Ends, goes_more, ends_at, fresh_behind, ends_same, ends_then, Spaced, ends_spaced, Peeked, goes_peek, ends_peek, goes_cond, goes_bad, Next, goes_next, fresh_next, Stops, ends_machine, OneByte, Word, ends_wanted, behind_first, ends_word, Equalled, ends_equals}

-- ---- comments and the content of instructions: a mark stands between characters, none inside of one
abbrev Kept : MiscState → Type 0
Kept q = ((q.begun ≡ []) × (q.mark ≤ 2)) ⊎ ((q.mark ≡ 0) × Unfinished set.Char q.begun)

-- a byte k below 80 leaves the mark m: it is a character by itself
module _ (k m : ℕ) (low : k < 0x80) (begun : List ℕ) (b : ℕ) where
  marks : eqb b k ≡ true → begins set.Char begun b ≡ true → begun ≡ []
  marks q e = by begun e
    where
      by : (l : List ℕ) → begins set.Char l b ≡ true → l ≡ []
      by [] e = refl
      by (a ∷ l) e = absurd (differ (sym e ∙ ascii_breaks set.Char a l b (omega (arith, eqb-true b k q))))

  free_turn : (i : ℕ) → m ≤ 2 → Turned Kept NotCut (free_step (cond (eqb b k) m 0) begun b i)
  unfolding with_byte
  free_turn i hi = holds_cond (Turned Kept NotCut) (begins set.Char begun b) (λ e. by e (eqb b k) refl) (λ e. tt)
    where
      by : begins set.Char begun b ≡ true → (t : Bool) → eqb b k ≡ t → Kept (misc_state (cond t m 0) (with_byte begun b))
      by e true q = rw (marks q e, ascii_whole b (omega (arith, eqb-true b k q))) (inl (refl, hi))
      by e false q = holds_cond (λ (l : List ℕ). Kept (misc_state 0 l)) (is_form (begun ++ (b ∷ []))) (λ f. inl (refl, zero-le)) (λ f. inr (refl, unfinished set.Char begun b e f))

  free_goes : (i : ℕ) → 0 < length begun → begins set.Char begun b ≡ true → free_step (cond (eqb b k) m 0) begun b i ≡ go (misc_state 0 (with_byte begun b))
  free_goes i h e = by (eqb b k) refl
    where
      by : (t : Bool) → eqb b k ≡ t → free_step (cond t m 0) begun b i ≡ go (misc_state 0 (with_byte begun b))
      by true q = absurd (omega (arith, ap length (marks q e)))
      by false q = rw e

-- marked: what ends it between characters
module _ (step : MiscState → ℕ → ℕ → RunNext MiscState Read) (k : ℕ) (marked : (m : ℕ) → m ≤ 2 → Stops step k (misc_state m [])) (few : 3 + length (marked 0 zero-le).word ≤ k)
    (goes : (begun : List ℕ) (b i : ℕ) → 0 < length begun → begins set.Char begun b ≡ true → step (misc_state 0 begun) b i ≡ go (misc_state 0 (with_byte begun b))) where
  each : (m : ℕ) (begun : List ℕ) → Kept (misc_state m begun) → Stops step k (misc_state m begun)
  each m [] (inl h) = marked m h.1
  each m (a ∷ begun) (inl h) = absurd (omega (arith, ap length h.0))
  each m begun (inr h) =
      let u = h.1 in
      let w = marked 0 zero-le in
      let size = length-append u.rest w.word in
      record {
        word = u.rest ++ w.word;
        few = omega (arith, u.few);
        stops =
            λ t i.
            rw (h.0, append_assoc u.rest w.word t)
            (rest_read step set.Char u.character u.allowed (λ (n : ℕ). misc_state 0) (λ n l b i some e. goes l b i some) u.rest begun (w.word ++ t) i u.some u.lacks u.form
            ∙ w.stops t (i + length u.rest)
            ∙ ap Ok (omega arith));
      }

  free_ends : ((q : MiscState) (b i : ℕ) → Kept q → Turned Kept NotCut (step q b i)) → Ends (λ (s : List ℕ) (at : ℕ). run (Err Cut) step (misc_state 0 []) (drop at s) at) (marked 0 zero-le).word k
  unfolding each
  free_ends turn = ends_machine step k Kept turn (λ q. each q.mark q.begun) (misc_state 0 []) (inl (refl, zero-le))

comment_marked : (m : ℕ) → m ≤ 2 → Stops comment_step 6 (misc_state m [])
unfolding run computing
comment_marked zero h = record { word = 0x2D ∷ 0x2D ∷ 0x3E ∷ []; few = omega arith; stops = λ u i. ap Ok (omega arith) }
comment_marked (suc zero) h = record { word = 0x2D ∷ 0x3E ∷ []; few = omega arith; stops = λ u i. ap Ok (omega arith) }
comment_marked (suc (suc zero)) h = record { word = 0x3E ∷ []; few = omega arith; stops = λ u i. refl }
comment_marked (suc (suc (suc m))) h = absurd (omega arith)

comment_ends : Ends comment_rest (0x2D ∷ 0x2D ∷ 0x3E ∷ []) 6
unfolding comment_rest comment_marked
comment_ends = free_ends comment_step 6 comment_marked (omega arith) (λ begun b. free_goes 0x2D 1 (omega arith) begun b) turn
  where
    turn : (q : MiscState) (b i : ℕ) → Kept q → Turned Kept NotCut (comment_step q b i)
    turn q b i j =
        holds_cond (Turned Kept NotCut) (eqb q.mark 2)
        (λ e. holds_cond (Turned Kept NotCut) (eqb b 0x3E) (λ f. tt) (λ f. tt))
        (λ e. free_turn 0x2D (q.mark + 1) (omega arith) q.begun b i (less (⊎_elim (λ h. h.1) (λ h. omega arith) j) (eqb-false q.mark 2 e)))
      where
        less : q.mark ≤ 2 → (q.mark ≡ 2 → ⊥) → q.mark + 1 ≤ 2
        less h n = omega (arith, lt_of_le-ne h n)

content_marked : (m : ℕ) → m ≤ 2 → Stops content_step 5 (misc_state m [])
unfolding run computing
content_marked m h = record { word = 0x3F ∷ 0x3E ∷ []; few = omega arith; stops = λ u i. by (eqb m 1) u i }
  where
    by : (x : Bool) (u : List ℕ) (i : ℕ) → follow (cond {A = RunNext MiscState Read} (x && false) (stop (Ok (i + 1))) (free_step 1 [] 0x3F i)) (λ (p : MiscState). run (Err Cut) content_step p (0x3E ∷ u) (i + 1)) ≡ Ok (i + 2)
    by true u i = ap Ok (omega arith)
    by false u i = ap Ok (omega arith)

content_ends : Ends content_end (0x3F ∷ 0x3E ∷ []) 5
unfolding content_end content_marked
content_ends = free_ends content_step 5 content_marked (omega arith) (λ begun b. free_goes 0x3F 1 (omega arith) begun b) turn
  where
    turn : (q : MiscState) (b i : ℕ) → Kept q → Turned Kept NotCut (content_step q b i)
    turn q b i j = holds_cond (Turned Kept NotCut) (eqb q.mark 1 && eqb b 0x3E) (λ e. tt) (λ e. free_turn 0x3F 1 (omega arith) q.begun b i (omega arith))

abbrev Some : Field → ℕ → Form
Some f quote s at = some_end s f at quote

some_ends : (f : Field) (c quote : ℕ) → is_field_byte f c ≡ true → Ends (Some f quote) (c ∷ quote ∷ []) 2
unfolding some_end run
some_ends f c quote fit = ends_machine (some_step f quote) 2 (λ (q : ℕ). Unit {0}) turn (λ q j. each q (eqb q 1) refl) 0 tt
  where
    turn : (q b i : ℕ) → Unit {0} → Turned (λ (q : ℕ). Unit {0}) NotCut (some_step f quote q b i)
    turn q b i j =
        holds_cond (Turned (λ (q : ℕ). Unit {0}) NotCut) (eqb q 1 && eqb b quote) (λ e. tt)
        (λ e. holds_cond (Turned (λ (q : ℕ). Unit {0}) NotCut) (is_field_byte f b) (λ e. tt) (λ e. tt))

    each : (q : ℕ) (x : Bool) → eqb q 1 ≡ x → Stops (some_step f quote) 2 q
    each q true x = record { word = quote ∷ []; few = omega arith; stops = λ u i. rw (x, eq-eqb quote quote refl) }
    each q false x = record { word = c ∷ quote ∷ []; few = omega arith; stops = λ u i. rw (x, fit, eq-eqb quote quote refl) (ap Ok (omega arith)) }

-- ---- the fields of a declaration
version_ends : (quote : ℕ) → Ends (λ (s : List ℕ) (at : ℕ). version_end s at quote) (bytes "1.0" ++ (quote ∷ [])) 4
unfolding version_end
version_ends quote =
    ends_then (Word (bytes "1.")) (Some field.Version quote)
    (λ s at. word_inside s at 0x31 (0x2E ∷ []))
    (λ s t at. word_stable s t at (bytes "1."))
    (bytes "1.")
    (0x30 ∷ quote ∷ [])
    1
    2
    4
    (ends_word (bytes "1."))
    (some_ends field.Version 0x30 quote refl)
    (omega arith)
    (omega arith)

encoding_ends : (quote : ℕ) → Ends (λ (s : List ℕ) (at : ℕ). encoding_end s at quote) (0x61 ∷ quote ∷ []) 2
unfolding encoding_end
encoding_ends quote =
    let some = some_ends field.Encoding 0x61 quote refl in
    ends_peek (λ (b : ℕ) (s : List ℕ) (at : ℕ). cond (is_letter b) (some_end s field.Encoding at quote) (Err (Bad at))) 0x61 (quote ∷ []) 2
    some.fresh
    (λ b. goes_cond (Some field.Encoding quote) Refused 2 (is_letter b) some.goes (goes_bad 2))

answer_ends : Ends answer_end (bytes "no") 2
unfolding answer_end
answer_ends =
    ends_peek (λ (b : ℕ) (s : List ℕ) (at : ℕ). cond (eqb b 0x79) (word_end s at (bytes "yes")) (word_end s at (bytes "no"))) 0x6E (0x6F ∷ []) 2
    (ends_word (bytes "no")).fresh
    (λ b. goes_cond (Word (bytes "yes")) (Word (bytes "no")) 2 (eqb b 0x79) (ends_word (bytes "yes")).goes (goes_more (Word (bytes "no")) 1 2 (omega arith) (ends_word (bytes "no")).goes))

standalone_ends : (quote : ℕ) → Ends (λ (s : List ℕ) (at : ℕ). standalone_end s at quote) (bytes "no" ++ (quote ∷ [])) 3
unfolding standalone_end
standalone_ends quote =
    ends_then answer_end (OneByte quote) answer_inside answer_stable (bytes "no") (quote ∷ []) 2 0 3 answer_ends (ends_wanted quote) (omega arith) (omega arith)

-- what stands in a field's quotes
abbrev field_text : Field → List ℕ
field_text field.Version = bytes "1.0"
field_text field.Encoding = bytes "a"
field_text field.Standalone = bytes "no"

abbrev Valued : Field → ℕ → Form
Valued f quote s at = field_value f s at quote

value_ends : (f : Field) (quote : ℕ) → Ends (Valued f quote) (field_text f ++ (quote ∷ [])) (length (field_text f) + 1)
value_ends field.Version quote = version_ends quote
value_ends field.Encoding quote = encoding_ends quote
value_ends field.Standalone quote = standalone_ends quote

abbrev quoted_text : Field → List ℕ
quoted_text f = 0x27 ∷ (field_text f ++ (0x27 ∷ []))

quoted_ends : (f : Field) → Ends (λ (s : List ℕ) (at : ℕ). quoted_end s f at) (quoted_text f) (length (field_text f) + 1)
unfolding quoted_end
quoted_ends f =
    ends_peek (λ (q : ℕ) (s : List ℕ) (at : ℕ). cond (eqb q 0x22 || eqb q 0x27) (field_value f s (at + 1) q) (Err (Bad at))) 0x27 (field_text f ++ (0x27 ∷ [])) k
    (fresh_next (Valued f 0x27) (field_text f ++ (0x27 ∷ [])) k (value_ends f 0x27) 0x27)
    (λ q.
    goes_cond (Next (Valued f q) (field_text f ++ (q ∷ [])) k (value_ends f q)) Refused k (eqb q 0x22 || eqb q 0x27)
    (goes_next (Valued f q) (field_text f ++ (q ∷ [])) k (value_ends f q) k (omega arith) (omega (arith, length-append (field_text f) (q ∷ []))))
    (goes_bad k))
  where
    k : ℕ
    k = length (field_text f) + 1

-- a field of which a byte is there
abbrev field_left : Field → ℕ
field_left field.Version = 12
field_left field.Encoding = 11
field_left field.Standalone = 14

abbrev Fielded : Field → Form
Fielded f s at = field_end s f at

abbrev field_whole : Field → List ℕ
field_whole f = field_word f ++ (0x3D ∷ quoted_text f)

field_ends : (f : Field) → Ends (Fielded f) (field_whole f) (field_left f)
unfolding field_end
field_ends f =
    ends_then (Word (field_word f)) (Equalled (λ (s : List ℕ) (at : ℕ). quoted_end s f at)) (λ s at. field_word_inside s f at) (λ s t at. word_stable s t at (field_word f)) (field_word f) (0x3D ∷ quoted_text f) (behind_first (field_word f)) k (field_left f)
    (ends_word (field_word f))
    (ends_equals (λ (s : List ℕ) (at : ℕ). quoted_end s f at) 0x27 (field_text f ++ (0x27 ∷ [])) (length (field_text f) + 1) k refl (quoted_ends f) (omega (arith, length-append (field_text f) (0x27 ∷ []))) (omega arith))
    (left f)
    (few f)
  where
    k : ℕ
    k = length (0x3D ∷ quoted_text f)

    left : (f : Field) → behind_first (field_word f) + length (0x3D ∷ quoted_text f) ≤ field_left f
    left field.Version = omega arith
    left field.Encoding = omega arith
    left field.Standalone = omega arith

    few : (f : Field) → length (0x3D ∷ quoted_text f) ≤ field_left f
    few field.Version = omega arith
    few field.Encoding = omega arith
    few field.Standalone = omega arith

-- ---- behind a field: its ?>, or another field
abbrev closing : List ℕ
closing = 0x3F ∷ 0x3E ∷ []

module _ (more : Form) (m : ℕ) (h : Goes more m) where
  abbrev Rests : Form
  Rests s at = field_then (λ (i : ℕ). more s i) (field_turn s at)

  rest_ends : (k : ℕ) → 2 ≤ k → m ≤ k → Ends Rests closing k
  unfolding field_turn turn_from slash_at
  rest_ends k two le =
      ends_same (Spaced turned) Rests closing k
      (λ s at. same s at (spaces_end s at))
      (ends_spaced turned 0x3F (0x3E ∷ []) k k refl each (omega arith) two)
    where
      byte : ℕ → ℕ → Form
      byte at b s i = cond (eqb b 0x3F) (wanted s (i + 1) 0x3E) (cond (eqb i at) (Err (Bad i)) (more s i))

      turned : ℕ → Form
      turned at = Peeked (byte at)

      behind : (at : ℕ) → Goes (λ (s : List ℕ) (i : ℕ). cond (eqb i at) (Err (Bad i)) (more s i)) k
      behind at s i lt e = by (eqb i at) refl e
        where
          by : (t : Bool) → eqb i at ≡ t → cond t (Err (Bad i)) (more s i) ≡ Err Cut → Rest (λ (s : List ℕ) (i : ℕ). cond (eqb i at) (Err (Bad i)) (more s i)) s i k
          by true q e = let z : ◌≡◌ {A = ℕ} 0 1 = cc in absurd (omega arith)
          by false q e =
              let r = goes_more more m k le h s i lt e in
              record { more = r.more; few = r.few; done = λ u. rw q (r.done u) }

      each : (at : ℕ) → Ends (turned at) closing k
      each at =
          ends_peek (byte at) 0x3F (0x3E ∷ []) k
          (fresh_next (OneByte 0x3E) (0x3E ∷ []) 0 (ends_wanted 0x3E) 0x3F)
          (λ b.
          goes_cond (Next (OneByte 0x3E) (0x3E ∷ []) 0 (ends_wanted 0x3E)) (λ (s : List ℕ) (i : ℕ). cond (eqb i at) (Err (Bad i)) (more s i)) k (eqb b 0x3F)
          (goes_next (OneByte 0x3E) (0x3E ∷ []) 0 (ends_wanted 0x3E) k (omega arith) (omega arith))
          (behind at))

      closes : (s : List ℕ) (r : Read) → field_then (λ (i : ℕ). more s i) (after_read Err r (λ (next : ℕ). Ok (turn.Close next true))) ≡ r
      closes s (Ok j) = refl
      closes s (Err x) = refl

      -- by the tests
      chooses : (s : List ℕ) (at i : ℕ) (a b c : Bool) → field_then (λ (i : ℕ). more s i) (cond a (cond b (after_read Err (wanted s (i + 1) 0x3E) (λ (next : ℕ). Ok (turn.Close next true))) (cond c (Err (Bad i)) (Ok (turn.Attribute i)))) (Err Cut)) ≡ cond a (cond b (wanted s (i + 1) 0x3E) (cond c (Err (Bad i)) (more s i))) (Err Cut)
      chooses s at i true true c = closes s (wanted s (i + 1) 0x3E)
      chooses s at i true false true = refl
      chooses s at i true false false = refl
      chooses s at i false b c = refl

      same : (s : List ℕ) (at : ℕ) (r : Read) → field_then (λ (i : ℕ). more s i) (after_read Err r (λ (i : ℕ). turn_from s at i)) ≡ after_read Err r (λ (i : ℕ). turned at s i)
      same s at (Ok i) = chooses s at i (ltb i (length s)) (eqb (get_or s i 0) 0x3F) (eqb i at)
      same s at (Err x) = refl

-- a field, and what stands behind it
field_then_ends : (f : Field) (g : Form) (kg k : ℕ) → Ends g closing kg → field_left f + 2 ≤ k → kg ≤ k → Ends (λ (s : List ℕ) (at : ℕ). after_read Err (field_end s f at) (λ (i : ℕ). g s i)) (field_whole f ++ closing) k
field_then_ends f g kg k h le le' =
    ends_then (Fielded f) g (λ s at. field_inside s f at) (λ s t at. field_stable s t f at) (field_whole f) closing (field_left f) kg k (field_ends f) h le le'

last_ends : Ends last_rest closing 2
unfolding last_rest
last_ends = rest_ends Refused 0 (goes_bad 0) 2 (omega arith) (omega arith)

standalone_then_ends : Ends standalone_then (field_whole field.Standalone ++ closing) 16
unfolding standalone_then
standalone_then_ends = field_then_ends field.Standalone last_rest 2 16 last_ends (omega arith) (omega arith)

encoding_rest_ends : Ends encoding_rest closing 16
unfolding encoding_rest
encoding_rest_ends = rest_ends standalone_then 16 standalone_then_ends.goes 16 (omega arith) (omega arith)

encoding_then_ends : Ends encoding_then (field_whole field.Encoding ++ closing) 16
unfolding encoding_then
encoding_then_ends = field_then_ends field.Encoding encoding_rest 16 16 encoding_rest_ends (omega arith) (omega arith)

either_goes : Goes either_then 16
unfolding either_then
either_goes =
    goes_peek (λ (b : ℕ) (s : List ℕ) (at : ℕ). cond (eqb b 0x65) (encoding_then s at) (standalone_then s at)) 16
    (λ b. goes_cond encoding_then standalone_then 16 (eqb b 0x65) encoding_then_ends.goes standalone_then_ends.goes)

version_rest_ends : Ends version_rest closing 16
unfolding version_rest
version_rest_ends = rest_ends either_then 16 either_goes 16 (omega arith) (omega arith)

version_then_ends : Ends version_then (field_whole field.Version ++ closing) 16
unfolding version_then
version_then_ends = field_then_ends field.Version version_rest 16 16 version_rest_ends (omega arith) (omega arith)

declaration_goes : Goes declaration_end 16
unfolding declaration_end
declaration_goes =
    goes_peek (λ (b : ℕ) (s : List ℕ) (at : ℕ). cond (is_space b) (after_read Err (spaces_end s at) (λ (i : ℕ). version_then s i)) (Err (Bad at))) 16
    (λ b. goes_cond (Spaced (λ (at : ℕ). version_then)) Refused 16 (is_space b) (ends_spaced (λ (at : ℕ). version_then) 0x76 _ 16 16 refl (λ at. version_then_ends) (omega arith) (omega arith)).goes (goes_bad 16))

-- ---- comments and instructions
comment_end_ends : Ends comment_end (bytes "---->") 6
unfolding comment_end
comment_end_ends =
    ends_then (Word (bytes "--")) comment_rest (λ s at. word_inside s at 0x2D (0x2D ∷ [])) (λ s t at. word_stable s t at (bytes "--")) (bytes "--") (bytes "-->") 1 6 6 (ends_word (bytes "--")) comment_ends (omega arith) (omega arith)

target_ends : Ends behind_target closing 5
unfolding behind_target
target_ends =
    let gt = ends_wanted 0x3E in
    ends_peek (λ (b : ℕ) (s : List ℕ) (at : ℕ). cond (is_space b) (content_end s (at + 1)) (cond (eqb b 0x3F) (wanted s (at + 1) 0x3E) (Err (Bad at)))) 0x3F (0x3E ∷ []) 5
    (fresh_next (OneByte 0x3E) (0x3E ∷ []) 0 gt 0x3F)
    (λ b.
    goes_cond (Next content_end closing 5 content_ends) (λ (s : List ℕ) (at : ℕ). cond (eqb b 0x3F) (wanted s (at + 1) 0x3E) (Err (Bad at))) 5 (is_space b) (goes_next content_end closing 5 content_ends 5 (omega arith) (omega arith))
    (goes_cond (Next (OneByte 0x3E) (0x3E ∷ []) 0 gt) Refused 5 (eqb b 0x3F) (goes_next (OneByte 0x3E) (0x3E ∷ []) 0 gt 5 (omega arith) (omega arith)) (goes_bad 5)))

xml_not : (s : List ℕ) (at end : ℕ) → (end ≡ at + 3 → ⊥) → is_xml s at end ≡ false
unfolding is_xml
xml_not s at end n = rw (ne_eqb end (at + 3) n)

-- ---- an instruction
no_question : begins set.Name [] 0x3F ≡ false
unfolding computing
no_question = refl

-- its target, then ?>
instruction_closes : (s : List ℕ) (at j : ℕ) → part_end s at ≡ Ok j → is_xml s at j ≡ false → behind_target s j ≡ Ok (j + 2) → instruction_end s at ≡ Ok (j + 2)
unfolding instruction_end
instruction_closes s at j p x b = rw (p, x, b)

module _ (s : List ℕ) (at : ℕ) where
  -- the target is cut. Where it has three bytes, as xml has, an a more
  target_cut : PartDone s at → Rest instruction_end s at 16
  unfolding run
  target_cut p = by (eqb j (at + 3)) refl
    where
      j : ℕ
      j = length s + length p.more

      closed : (w : List ℕ) → length w ≤ 1 → (j + length w ≡ at + 3 → ⊥) → ((u : List ℕ) → run (Err Cut) part_step (part_state p.room []) (w ++ (0x3F ∷ 0x3E ∷ u)) j ≡ Ok (j + length w)) → Rest instruction_end s at 16
      closed w le n part =
          let m = p.more ++ w in
          let size = length-append p.more w in
          let all = length-append m closing in
          record {
            more = m ++ closing;
            few = omega (arith, p.few);
            done =
                λ u.
                let S = s ++ (m ++ (0x3F ∷ 0x3E ∷ u)) in
                rw (append_assoc m closing u)
                (instruction_closes S at (j + length w)
                (rw (append_assoc p.more w (0x3F ∷ 0x3E ∷ u)) (p.reads (w ++ (0x3F ∷ 0x3E ∷ u)) ∙ part u))
                (xml_not S at (j + length w) n)
                (fresh_behind behind_target closing target_ends.fresh s m u (j + length w) (omega arith) ∙ ap Ok (omega arith))
                ∙ ap Ok (omega arith));
          }

      by : (t : Bool) → eqb j (at + 3) ≡ t → Rest instruction_end s at 16
      by false x = closed [] (omega arith) (λ e. eqb-false j (at + 3) x (omega arith)) (λ u. part_stops p.room 0x3F j (0x3E ∷ u) p.some no_question ∙ ap Ok (omega arith))
      by true x = let three = eqb-true j (at + 3) x in closed (0x61 ∷ []) (omega arith) (λ e. omega arith) (λ u. letter_then p.room 0x3F j (0x3E ∷ u) (omega (arith, p.left)) (omega (arith, p.some)) no_question)

  -- the target is whole
  target_whole : (j : ℕ) → part_end s at ≡ Ok j → PartTo s at j → (x : Bool) → is_xml s at j ≡ x → (d : Bool) → is_declared s at ≡ d → cond x (cond d (declaration_end s j) (Err (Bad at))) (behind_target s j) ≡ Err Cut → Rest instruction_end s at 16
  unfolding instruction_end
  target_whole j p to true x true d e =
      let three = xml_three s at j x in
      let r = declaration_goes s j to.1 e in
      record {
        more = r.more;
        few = r.few;
        done =
            λ u.
            let t = r.more ++ u in
            rw (read_so (part_end s at) (part_end (s ++ t) at) j p (part_stable s t at), xml_kept s t at j to.1, x, declared_kept s t at (omega arith), d) (r.done u);
      }
  target_whole j p to true x false d e = let z : ◌≡◌ {A = ℕ} 0 1 = cc in absurd (omega arith)
  target_whole j p to false x d d' e =
      let r = target_ends.goes s j to.1 e in
      record {
        more = r.more;
        few = omega (arith, r.few);
        done =
            λ u.
            let t = r.more ++ u in
            rw (read_so (part_end s at) (part_end (s ++ t) at) j p (part_stable s t at), xml_kept s t at j to.1, x) (r.done u);
      }

  instruction_completed : at ≤ length s → instruction_end s at ≡ Err Cut → Rest instruction_end s at 16 ⊎ Overfull s (λ (S : List ℕ) (p : ℕ). instruction_end S at ≡ Err (Long p))
  unfolding instruction_end
  instruction_completed le e = by (part_end s at) refl (part_inside s at) e
    where
      by : (r : Read) → part_end s at ≡ r → ReadInside (PartTo s at) s at (part_end s at) → after_read Err r (λ (j : ℕ). cond (is_xml s at j) (cond (is_declared s at) (declaration_end s j) (Err (Bad at))) (behind_target s j)) ≡ Err Cut → Rest instruction_end s at 16 ⊎ Overfull s (λ (S : List ℕ) (p : ℕ). instruction_end S at ≡ Err (Long p))
      by (Ok j) p in' e = inl (target_whole j p (subst (ReadInside (PartTo s at) s at) p in') (is_xml s at j) refl (is_declared s at) refl e)
      by (Err x) p in' e = or_full target_cut (λ t k r. rw r) (part_completed s at le (p ∙ e))

-- ---- a misc whose < stands at a place, a ! or ? behind it
pub misc_completed : (s : List ℕ) (at : ℕ) → at + 1 < length s → misc_end s at ≡ Err Cut → Rest misc_end s at 16 ⊎ Overfull s (λ (S : List ℕ) (p : ℕ). misc_end S at ≡ Err (Long p))
unfolding misc_end
misc_completed s at lt e = by (eqb (get_or s (at + 1) 0) 0x3F) refl (rw (lt-ltb (at + 1) (length s) lt) at e)
  where
    kept : (f : Form) (t : Bool) → eqb (get_or s (at + 1) 0) 0x3F ≡ t → ((l : List ℕ) → f l (at + 2) ≡ cond t (instruction_end l (at + 2)) (comment_end l (at + 2))) → Rest f s (at + 2) 16 → Rest misc_end s at 16
    kept f t q same r =
        record {
          more = r.more;
          few = r.few;
          done =
              λ u.
              let b = byte_kept s (r.more ++ u) (at + 1) lt in
              rw (lt-ltb (at + 1) (length (s ++ (r.more ++ u))) b.0, b.1, q) (sym (same (s ++ (r.more ++ u))) ∙ r.done u);
        }

    by : (t : Bool) → eqb (get_or s (at + 1) 0) 0x3F ≡ t → cond t (instruction_end s (at + 2)) (comment_end s (at + 2)) ≡ Err Cut → Rest misc_end s at 16 ⊎ Overfull s (λ (S : List ℕ) (p : ℕ). misc_end S at ≡ Err (Long p))
    by true q e =
        or_full (kept instruction_end true q (λ l. refl))
        (λ t p r. let b = byte_kept s t (at + 1) lt in rw (lt-ltb (at + 1) (length (s ++ t)) b.0, b.1, q) r)
        (instruction_completed s (at + 2) (omega arith) e)
    by false q e = inl (kept comment_end false q (λ l. refl) (ends_at comment_end (bytes "---->") 6 16 comment_end_ends (omega arith) (omega arith) s (at + 2) (omega arith) e))

-- its < is the scene's last byte: <?a?>
pub misc_begins : (s u : List ℕ) (at : ℕ) → at + 1 ≡ length s → misc_end (s ++ (bytes "?a?>" ++ u)) at ≡ Ok (length s + 4)
unfolding misc_end
misc_begins s u at e =
    let w : List ℕ = 0x3F ∷ 0x61 ∷ 0x3F ∷ 0x3E ∷ u in
    let S = s ++ w in
    let b0 = byte_in s [] w 0 (at + 1) (omega arith) (omega arith) in
    let b1 = byte_in s [] w 1 (at + 2) (omega arith) (omega arith) in
    let b2 = byte_in s [] w 2 (at + 2 + 1) (omega arith) (omega arith) in
    let part : part_end S (at + 2) ≡ Ok (at + 2 + 1) = letter_part S (at + 2) 0x3F b1 b2 no_question in
    let no : is_xml S (at + 2) (at + 2 + 1) ≡ false = xml_not S (at + 2) (at + 2 + 1) (λ f. omega arith) in
    let ends : behind_target S (at + 2 + 1) ≡ Ok (at + 2 + 1 + 2) = fresh_behind behind_target closing target_ends.fresh s (0x3F ∷ 0x61 ∷ []) u (at + 2 + 1) (omega arith) ∙ ap Ok (omega arith) in
    let last : at + 2 + 1 + 2 ≡ length s + 4 = omega arith in
    rw (lt-ltb (at + 1) (length S) b0.0, b0.1) (instruction_closes S (at + 2) (at + 2 + 1) part no ends ∙ ap Ok last)
