-- More bytes behind a scene: what is read is the same, or it lies behind the scene's end, and its refusal at most three bytes before that end.
--     Targets, Closings, closes_here       what settles the two refusals that their byte does not settle
--     Ext, ext_bind                        the same answer, or a late one
--     Grows, grows-*                       the same of what is read from a place on, and a late one where that place is behind the scene
--     run_grows, local_grows               of a machine
--     spaces_grows, .., ahead_grows        of each reading definition
--     value_ext, .., begin_ext             the first half; value_late, .., begin_late the second
--     finished_on                          what stands behind a finished scene is read as if it stood alone
use Rattle.std.specs.declared.ops.ControlFlow.TheVariants.{Break, Continue}
use Rattle.std.specs.Prelude.{Ok, Err}
use Prim.Native.Nat.{ℕ, zero, suc, ◌+◌, ◌-◌, ◌≤◌, ◌<◌}
use mathlib.Core.Path.{◌≡◌, refl, sym, ap, subst, ◌∙◌}
use mathlib.Core.List.{List, [], ◌∷◌, ◌++◌}
use mathlib.Core.Bool.{Bool, true, false, cond, not, ◌&&◌, ◌||◌}
use mathlib.Core.Logic.{◌⊎◌, inl, inr, ⊎_elim}
use native.Mathlib.Omega.{arith}
use borrow.Author.Tests.{eqb-true, eqb-false, lt-ltb, lt-leb, leb-true, le-leb}
use lib.ListN.{length, drop, get_or, length-append, length-drop, get_or-append}
use lib.Seq.{drop-append-le}
use lib.Dec.{leb, ltb, eqb}
use Rattle.laws.specs.Reading.{RunNext, go, stop, follow, run, peek, le_or_lt, drop_here, drop_out}
use Rattle.laws.specs.Text.{bytes}
use Rattle.laws.proofs.Flags.{differ, and_left, and_right}
use Rattle.laws.proofs.Holds.{holds_cond, holds_peek, Turned, run_held}
use Rattle.utf8.specs.Utf8.{is_form}
use Rattle.utf8.specs.declared.Set.{Set}
use Rattle.utf8.specs.declared.Set.TheVariants as set
use Rattle.characters.specs.CanBegin.{begins}
use Rattle.lexer.specs.Stops.{after_read, after_name}
use Rattle.lexer.specs.Characters.{char_step, char_end}
use Rattle.lexer.specs.Names.{is_space, space_step, spaces_end, part_state, part_set, part_whole, part_step, part_end, name_of, prefixed_at, name_at}
use Rattle.lexer.specs.Values.{references, common, whole_of, furthest, no_reference, reference_end, text_at, passed_over, closes, value_step, value_from, value_end}
use Rattle.lexer.specs.Tags.{wanted, equals_end, attr_of, quoted_at, attribute_at, slash_at, turn_behind, turn_at, TagRead, tag_stopped, full_turn, attr_then, turn_then, attrs_from, tag_at, end_tag_at}
use Rattle.lexer.specs.Declaration.{word_end, is_letter, is_field_byte, some_step, some_end, version_end, encoding_end, answer_end, standalone_end, field_word, field_value, quoted_end, field_end, turn_from, field_turn, field_then, last_rest, standalone_then, encoding_rest, encoding_then, either_then, version_rest, version_then, declaration_end}
use Rattle.lexer.specs.Misc.{misc_state, free_step, comment_step, comment_rest, comment_end, content_step, content_end, behind_target, is_xml, is_declared, instruction_end, misc_end}
use Rattle.lexer.specs.Begins.{stopped_ahead, misc_ahead, opens_misc, markup_at, either_at, ending, ahead_at, ahead_then, begin_at}
use Rattle.lexer.specs.declared.Stop.{Stop}
use Rattle.lexer.specs.declared.Stop.TheVariants.{Bad, Long, Cut}
use Rattle.lexer.specs.Reads.{Read, Named, Attributed, TurnRead, Tagged, Ended, BeginRead, Ahead}
use Rattle.lexer.specs.declared.Name.{Name}
use Rattle.lexer.specs.declared.Attr.{Attr}
use Rattle.lexer.specs.declared.Turn.TheVariants as turn
use Rattle.lexer.specs.declared.Field.{Field}
use Rattle.lexer.specs.declared.Field.TheVariants as field
use Rattle.lexer.specs.declared.Begin.TheVariants as begin
use Rattle.lexer.proofs.Common.{common_kept}
use Rattle.lexer.proofs.CharacterLaws.{Within, PassedTo}
use Rattle.lexer.proofs.ValueLaws.{reference_inside, reference_stable, text_inside, closes_kept, closes_behind, furthest_least}
use Rattle.lexer.proofs.MiscLaws.{xml_three, declared_kept, xml_kept}
use Rattle.lexer.proofs.BeginLaws.{begin_is, begin_held, CutAhead, ahead_stable}

-- ---- need: how many bytes behind a refused one settle its refusal, in a scene S
-- of a target xml, three
abbrev pub Targets : (ℕ → ℕ) → List ℕ → Type 0
Targets need S = (at : ℕ) → get_or S at 0 ≡ 0x3C → get_or S (at + 1) 0 ≡ 0x3F → is_xml S (at + 2) (at + 2 + 3) ≡ true → 3 ≤ need (at + 2)

-- of a ]]> in a value, two
abbrev pub Closings : (ℕ → ℕ) → List ℕ → ℕ → ℕ → Type 0
Closings need S at quote = (i : ℕ) → closes S at quote (get_or S i 0) i ≡ true → 2 ≤ need (i - 2)

pub closes_here : (S : List ℕ) (at quote b i : ℕ) → closes S at quote b i ≡ true → closes S (i - 2) 0x3C b i ≡ true
unfolding closes
closes_here S at quote b i e =
    let q = eqb quote 0x3C in
    let l = leb (at + 2) i in
    let x = eqb b 0x3E in
    let y = eqb (get_or S (i - 1) 0) 0x5D in
    let z = eqb (get_or S (i - 2) 0) 0x5D in
    let v = and_left (q && l && x && y) z e in
    let w = and_left (q && l && x) y v in
    let le : at + 2 ≤ i = leb-true (at + 2) i (and_right q l (and_left (q && l) x w)) in
    rw (le-leb (i - 2 + 2) i (omega arith), and_right (q && l) x w, and_right (q && l && x) y v, and_right (q && l && x && y) z e)

-- the quote of an attribute's value is no <
quoted_free : (need : ℕ → ℕ) (S : List ℕ) (at quote : ℕ) → (eqb quote 0x22 || eqb quote 0x27) ≡ true → Closings need S at quote
unfolding closes
quoted_free need S at quote q i e =
    let less = eqb quote 0x3C in
    let l = leb (at + 2) i in
    let x = eqb (get_or S i 0) 0x3E in
    let y = eqb (get_or S (i - 1) 0) 0x5D in
    let z = eqb (get_or S (i - 2) 0) 0x5D in
    let is : quote ≡ 0x3C = eqb-true quote 0x3C (and_left less l (and_left (less && l) x (and_left (less && l && x) y (and_left (less && l && x && y) z e)))) in
    absurd (differ (sym q ∙ ap (λ (k : ℕ). eqb k 0x22 || eqb k 0x27) is))

-- ---- the same answer, or a late one
abbrev pub Ext : {A : Type 0} → (A → Type 0) → A → A → Type 0
Ext L a b = (b ≡ a) ⊎ L b

-- decided at n or behind it
abbrev pub LateStop : (ℕ → ℕ) → ℕ → Stop → Type 0
LateStop need n (Bad j) = n ≤ j + need j
LateStop need n (Long j) = n ≤ j
LateStop need n Cut = Unit {0}

-- a place at n or behind it
abbrev pub LateRead : (ℕ → ℕ) → ℕ → Read → Type 0
LateRead need n (Ok j) = n ≤ j
LateRead need n (Err x) = LateStop need n x

abbrev pub LateNamed : (ℕ → ℕ) → ℕ → Named → Type 0
LateNamed need n (Ok m) = n ≤ m.end
LateNamed need n (Err x) = LateStop need n x

abbrev pub LateAttributed : (ℕ → ℕ) → ℕ → Attributed → Type 0
LateAttributed need n (Ok a) = n ≤ a.stop
LateAttributed need n (Err x) = LateStop need n x

abbrev pub LateTurn : (ℕ → ℕ) → ℕ → TurnRead → Type 0
LateTurn need n (Ok (turn.Close next empty)) = n < next
LateTurn need n (Ok (turn.Attribute i)) = n ≤ i
LateTurn need n (Err x) = LateStop need n x

abbrev pub LateTagged : (ℕ → ℕ) → ℕ → Tagged → Type 0
LateTagged need n (Ok t) = n < t.next
LateTagged need n (Err x) = LateStop need n x

abbrev pub LateEnded : (ℕ → ℕ) → ℕ → Ended → Type 0
LateEnded need n (Ok e) = n < e.next
LateEnded need n (Err x) = LateStop need n x

-- the byte behind the < of a tag
abbrev pub LateBegin : (ℕ → ℕ) → ℕ → BeginRead → Type 0
LateBegin need n (Ok (begin.Start i)) = n ≤ i + 1
LateBegin need n (Ok (begin.End i)) = n ≤ i + 1
LateBegin need n (Ok (begin.Text i)) = n ≤ i
LateBegin need n (Ok begin.Finished) = Unit {0}
LateBegin need n (Err x) = LateStop need n x

abbrev pub LateAhead : (ℕ → ℕ) → ℕ → Ahead → Type 0
LateAhead need n (Break b) = LateBegin need n b
LateAhead need n (Continue j) = n ≤ j

pub ext_cond : {A : Type 0} (L : A → Type 0) (t : Bool) {a b a' b' : A} → Ext L a a' → Ext L b b' → Ext L (cond t a b) (cond t a' b')
ext_cond L true p q = p
ext_cond L false p q = q

-- where an answer is taken apart
pub ext_bind : {A B : Type 0} (M : A → Type 0) (L : B → Type 0) (f f' : A → B) → ((x : A) → Ext L (f x) (f' x)) → ((x : A) → M x → L (f' x)) → (v w : A) → Ext M v w → Ext L (f v) (f' w)
ext_bind M L f f' same late v w (inl e) = rw e (same v)
ext_bind M L f f' same late v w (inr l) = inr (late w l)

-- ---- what is read from a place on, a scene of n bytes and then more: the same or late, and late where the place is behind the scene
abbrev pub Grows : {A : Type 0} → (A → Type 0) → ℕ → ℕ → A → A → Type 0
Grows L n at a b = Ext L a b × (n ≤ at → L b)

module _ {A : Type 0} (L : A → Type 0) (n at : ℕ) where
  pub grows_same : (a : A) → (n ≤ at → L a) → Grows L n at a a
  grows_same a h = (inl refl, h)

  -- inside the scene, or behind it
  pub grows_split : {a b : A} → (n ≤ at → L b) → (at < n → Ext L a b) → Grows L n at a b
  grows_split late same = (⊎_elim (λ out. inr (late out)) same (le_or_lt n at), late)

  pub grows_later : (j : ℕ) → at ≤ j → {a b : A} → Grows L n j a b → Grows L n at a b
  grows_later j le h = (h.0, λ out. h.1 (omega arith))

  pub grows_if : (t : Bool) {a b a' b' : A} → (t ≡ true → Grows L n at a a') → (t ≡ false → Grows L n at b b') → Grows L n at (cond t a b) (cond t a' b')
  grows_if true p q = p refl
  grows_if false p q = q refl

  pub grows_cond : (t : Bool) {a b a' b' : A} → Grows L n at a a' → Grows L n at b b' → Grows L n at (cond t a b) (cond t a' b')
  grows_cond t p q = grows_if t (λ e. p) (λ e. q)

  pub grows_bind : {B : Type 0} (M : B → Type 0) (f f' : B → A) → ((x : B) → Ext L (f x) (f' x) × (M x → L (f' x))) → (v w : B) → Grows M n at v w → Grows L n at (f v) (f' w)
  grows_bind M f f' h v w k = (ext_bind M L f f' (λ x. (h x).0) (λ x. (h x).1) v w k.0, λ out. (h w).1 (k.1 out))

  -- behind what was read: f says what a stop becomes, k and k' what is read behind an end
  module _ (need : ℕ → ℕ) (f : Stop → A) (stops : (x : Stop) → LateStop need n x → L (f x)) where
    pub grows_after : {k k' : ℕ → A} {r r' : Read} → Grows (LateRead need n) n at r r' → ((j : ℕ) → Grows L n j (k j) (k' j)) → Grows L n at (after_read f r k) (after_read f r' k')
    grows_after {k} {k'} {r} {r'} g h = grows_bind (LateRead need n) (λ (r : Read). after_read f r k) (λ (r : Read). after_read f r k') each r r' g
      where
        each : (r : Read) → Ext L (after_read f r k) (after_read f r k') × (LateRead need n r → L (after_read f r k'))
        each (Ok j) = h j
        each (Err x) = (inl refl, stops x)

    pub grows_after_name : {k k' : Name → A} {r r' : Named} → Grows (LateNamed need n) n at r r' → ((m : Name) → Grows L n m.end (k m) (k' m)) → Grows L n at (after_name f r k) (after_name f r' k')
    grows_after_name {k} {k'} {r} {r'} g h = grows_bind (LateNamed need n) (λ (r : Named). after_name f r k) (λ (r : Named). after_name f r k') each r r' g
      where
        each : (r : Named) → Ext L (after_name f r k) (after_name f r k') × (LateNamed need n r → L (after_name f r k'))
        each (Ok m) = h m
        each (Err x) = (inl refl, stops x)

-- the byte at an index
pub grows_seen : {A : Type 0} (L : A → Type 0) (s t : List ℕ) (at : ℕ) (cut : A) {f g : ℕ → A} → L cut → ((b : ℕ) → get_or (s ++ t) at 0 ≡ b → Grows L (length s) at (f b) (g b)) → Grows L (length s) at (peek cut s at f) (peek cut (s ++ t) at g)
grows_seen L s t at cut e h =
    grows_split L (length s) at
    (λ out. holds_cond L (ltb at (length (s ++ t))) (λ q. (h (get_or (s ++ t) at 0) refl).1 out) (λ q. e))
    (λ lt.
    let more : at < length (s ++ t) = simp length-append (omega arith) in
    let here : get_or (s ++ t) at 0 ≡ get_or s at 0 = get_or-append s t 0 at lt in
    rw (lt-ltb at (length s) lt, lt-ltb at (length (s ++ t)) more, here) (h (get_or s at 0) here).0)

pub grows_peek : {A : Type 0} (L : A → Type 0) (s t : List ℕ) (at : ℕ) (cut : A) {f g : ℕ → A} → L cut → ((b : ℕ) → Grows L (length s) at (f b) (g b)) → Grows L (length s) at (peek cut s at f) (peek cut (s ++ t) at g)
grows_peek L s t at cut e h = grows_seen L s t at cut e (λ b q. h b)

-- a machine, of which each scene has its own steps. I: the states in which all that is still said is late
module _ {St Out : Type 0} (cut : Out) (step step' : St → ℕ → ℕ → RunNext St Out) (s t : List ℕ) (I : St → ℕ → Type 0) (L : Out → Type 0) (e : L cut)
    (turn : (q : St) (i : ℕ) → i < length (s ++ t) → I q i → Turned (λ (q' : St). I q' (i + 1)) L (step' q (get_or (s ++ t) i 0) i))
    (behind : (q : St) (i : ℕ) → length s ≤ i → I q i)
    (agree : (q : St) (i : ℕ) → i < length s → Ext (Turned (λ (q' : St). I q' (i + 1)) L) (step q (get_or s i 0) i) (step' q (get_or s i 0) i)) where
  late_run : (q : St) (i : ℕ) → I q i → L (run cut step' q (drop i (s ++ t)) i)
  late_run q i h = run_held cut step' (s ++ t) I L e turn q i h

  ext_from : (l : List ℕ) (q : St) (i : ℕ) → drop i s ≡ l → Ext L (run cut step q l i) (run cut step' q (drop i (s ++ t)) i)
  unfolding run
  ext_from [] q i d = inr (late_run q i (behind q i (omega (arith, ap length d, length-drop i s))))
  ext_from (b ∷ l) q i d =
      let lt : i < length s = omega (arith, length-drop i s, ap length d) in
      let more : i < length (s ++ t) = simp length-append (omega arith) in
      let here : get_or s i 0 ∷ drop (i + 1) s ≡ b ∷ l = sym (drop_here s i lt) ∙ d in
      let byte : get_or s i 0 ≡ b = cc in
      let rest : drop (i + 1) s ≡ l = cc in
      let there : drop i (s ++ t) ≡ b ∷ drop (i + 1) (s ++ t) = drop_here (s ++ t) i more ∙ ap (λ (x : ℕ). x ∷ drop (i + 1) (s ++ t)) (get_or-append s t 0 i lt ∙ byte) in
      rw there
      (ext_bind T L (λ (m : RunNext St Out). follow m on) (λ (m : RunNext St Out). follow m on') (same (λ (q' : St). ext_from l q' (i + 1) rest)) late (step q b i) (step' q b i)
      (subst (λ (x : ℕ). Ext T (step q x i) (step' q x i)) byte (agree q i lt)))
    where
      T : RunNext St Out → Type 0
      T = Turned (λ (q' : St). I q' (i + 1)) L

      on : St → Out
      on q' = run cut step q' l (i + 1)

      on' : St → Out
      on' q' = run cut step' q' (drop (i + 1) (s ++ t)) (i + 1)

      same : ((q' : St) → Ext L (on q') (on' q')) → (m : RunNext St Out) → Ext L (follow m on) (follow m on')
      same ih (go q') = ih q'
      same ih (stop o) = inl refl

      late : (m : RunNext St Out) → T m → L (follow m on')
      late (go q') h = late_run q' (i + 1) h
      late (stop o) h = h

  pub run_grows : (q : St) (i : ℕ) → Grows L (length s) i (run cut step q (drop i s) i) (run cut step' q (drop i (s ++ t)) i)
  run_grows q i = (ext_from (drop i s) q i refl, λ out. late_run q i (behind q i out))

-- a machine that knows nothing of the scene but its byte, and names that byte
pub local_grows : {St : Type 0} (need : ℕ → ℕ) (step : St → ℕ → ℕ → RunNext St Read) (first : St) (s t : List ℕ)
    → ((q : St) (b i : ℕ) → length s ≤ i → Turned (λ (q' : St). length s ≤ i + 1) (LateRead need (length s)) (step q b i))
    → (at : ℕ) → Grows (LateRead need (length s)) (length s) at (run (Err Cut) step first (drop at s) at) (run (Err Cut) step first (drop at (s ++ t)) at)
local_grows {St} need step first s t h =
    run_grows (Err Cut) step step s t (λ (q : St) (i : ℕ). length s ≤ i) (LateRead need (length s)) tt (λ q i lt. h q (get_or (s ++ t) i 0) i) (λ q i out. out) (λ q i lt. inl refl) first

-- ---- references
common_word : (l word : List ℕ) → common l word ≤ length word
unfolding common
common_word [] word = omega arith
common_word (b ∷ l) [] = omega arith
common_word (b ∷ l) (c ∷ word) = holds_cond (λ (k : ℕ). k ≤ length (c ∷ word)) (eqb b c) (λ e. omega (arith, common_word l word)) (λ e. omega arith)

common_grows : (l t word : List ℕ) → common l word ≤ common (l ++ t) word
unfolding common
common_grows [] t word = omega arith
common_grows (b ∷ l) t [] = omega arith
common_grows (b ∷ l) t (c ∷ word) = by (eqb b c) (common_grows l t word)
  where
    by : (x : Bool) → common l word ≤ common (l ++ t) word → cond x (suc (common l word)) 0 ≤ cond x (suc (common (l ++ t) word)) 0
    by true h = omega arith
    by false h = omega arith

furthest_most : (l word : List ℕ) (words : List (List ℕ)) (m : ℕ) → common l word ≤ m → furthest l words ≤ m → furthest l (word ∷ words) ≤ m
unfolding furthest
furthest_most l word words m a b = holds_cond (λ (k : ℕ). k ≤ m) (ltb (furthest l words) (common l word)) (λ e. a) (λ e. b)

furthest_grows : (l t : List ℕ) (words : List (List ℕ)) → furthest l words ≤ furthest (l ++ t) words
unfolding furthest
furthest_grows l t [] = omega arith
furthest_grows l t (w ∷ words) =
    let least = furthest_least (l ++ t) w words in
    furthest_most l w words (furthest (l ++ t) (w ∷ words)) (omega (arith, common_grows l t w)) (omega (arith, furthest_grows l t words))

module _ (need : ℕ → ℕ) (s t : List ℕ) (at : ℕ) (inside : at ≤ length s) where
  -- where the scene ends inside a word, that word reaches behind its end
  late_whole : (words : List (List ℕ)) (other other' : Read) → whole_of s at words other ≡ Err Cut → (other ≡ Err Cut → LateRead need (length s) other') → LateRead need (length s) (whole_of (s ++ t) at words other')
  unfolding whole_of
  late_whole [] other other' q late = late q
  late_whole (w ∷ words) other other' q late =
      by (eqb (common (drop at s) w) (length w)) refl (eqb (common (drop at (s ++ t)) w) (length w)) refl q (λ h. late_whole words other other' h late)
    where
      here : drop at (s ++ t) ≡ drop at s ++ t
      here = drop-append-le at s t inside

      reaches : eqb (common (drop at s) w) (length w) ≡ false → eqb (common (drop at (s ++ t)) w) (length w) ≡ true → length s ≤ at + length w
      reaches a b =
          ⊎_elim (λ le. omega (arith, common_word (drop at s) w, length-drop at s))
          (λ lt. absurd (differ (sym b ∙ rw (here, common_kept (drop at s) w t lt) a)))
          (le_or_lt (length (drop at s)) (common (drop at s) w))

      by : (a : Bool) → eqb (common (drop at s) w) (length w) ≡ a → (b : Bool) → eqb (common (drop at (s ++ t)) w) (length w) ≡ b
          → cond a (Ok (at + length w)) (whole_of s at words other) ≡ Err Cut
          → (whole_of s at words other ≡ Err Cut → LateRead need (length s) (whole_of (s ++ t) at words other'))
          → LateRead need (length s) (cond b (Ok (at + length w)) (whole_of (s ++ t) at words other'))
      by true e b f q ih = let z : ◌≡◌ {A = ℕ} 0 1 = cc in absurd (omega arith)
      by false e true f q ih = reaches e f
      by false e false f q ih = ih q

  late_none : no_reference s at ≡ Err Cut → LateRead need (length s) (no_reference (s ++ t) at)
  unfolding no_reference
  late_none q =
      let k = at + furthest (drop at s) references in
      let far : length s ≤ k = ⊎_elim (λ le. le) (λ lt. absurd (never lt q)) (le_or_lt (length s) k) in
      let grows : furthest (drop at s) references ≤ furthest (drop at (s ++ t)) references = rw (drop-append-le at s t inside) (furthest_grows (drop at s) t references) in
      holds_cond (LateRead need (length s)) (leb (length (s ++ t)) (at + furthest (drop at (s ++ t)) references)) (λ e. tt) (λ e. omega arith)
    where
      never : at + furthest (drop at s) references < length s → ◌≡◌ {A = Read} (cond (leb (length s) (at + furthest (drop at s) references)) (Err Cut) (Err (Bad (at + furthest (drop at s) references)))) (Err Cut) → ⊥
      never lt e =
          let f : ◌≡◌ {A = Read} (Err (Bad (at + furthest (drop at s) references))) (Err Cut) = rw (lt-leb (length s) (at + furthest (drop at s) references) lt) at e in
          let z : ◌≡◌ {A = ℕ} 0 1 = cc in
          omega arith

  late_reference : reference_end s at ≡ Err Cut → LateRead need (length s) (reference_end (s ++ t) at)
  unfolding reference_end
  late_reference q = late_whole references (no_reference s at) (no_reference (s ++ t) at) q late_none

  reference_ext : Ext (LateRead need (length s)) (reference_end s at) (reference_end (s ++ t) at)
  reference_ext = by (reference_end s at) refl
    where
      by : (r : Read) → reference_end s at ≡ r → Ext (LateRead need (length s)) (reference_end s at) (reference_end (s ++ t) at)
      by (Ok j) e = inl (reference_stable s t at (λ c. let d : Ok j ≡ Err Cut = sym e ∙ c in let z : ◌≡◌ {A = ℕ} 0 1 = cc in omega arith))
      by (Err (Bad j)) e = inl (reference_stable s t at (λ c. let d : Err (Bad j) ≡ Err Cut = sym e ∙ c in let z : ◌≡◌ {A = ℕ} 0 1 = cc in omega arith))
      by (Err (Long j)) e = inl (reference_stable s t at (λ c. let d : Err (Long j) ≡ Err Cut = sym e ∙ c in let z : ◌≡◌ {A = ℕ} 0 1 = cc in omega arith))
      by (Err Cut) e = inr (late_reference e)

-- one look, and what it says of the begin
looked : (S : List ℕ) (at : ℕ) (inside closed : Bool) (a : Ahead) → ahead_at S inside closed at ≡ a → begin_at S at inside closed ≡ ahead_then (λ (j : ℕ). begin_at S j inside closed) a
looked S at inside closed a e = begin_is S at inside closed ∙ ap (ahead_then (λ (j : ℕ). begin_at S j inside closed)) e

-- ---- space, parts, characters, values
module _ (need : ℕ → ℕ) (s t : List ℕ) (targets : Targets need (s ++ t)) where
  -- a step at a byte behind the scene
  abbrev LateStep : {St : Type 0} → ℕ → RunNext St Read → Type 0
  LateStep {St} i = Turned (λ (q' : St). length s ≤ i + 1) (LateRead need (length s))

  -- what is read from a place on
  abbrev Reads : ℕ → Read → Read → Type 0
  Reads = Grows (LateRead need (length s)) (length s)

  bad_grows : (at : ℕ) → Reads at (Err (Bad at)) (Err (Bad at))
  bad_grows at = grows_same (LateRead need (length s)) (length s) at (Err (Bad at)) (λ out. omega arith)

  -- read, and then what stands behind it
  then : (at : ℕ) {k k' : ℕ → Read} {r r' : Read} → Reads at r r' → ((j : ℕ) → Reads j (k j) (k' j)) → Reads at (after_read Err r k) (after_read Err r' k')
  then at = grows_after (LateRead need (length s)) (length s) at need Err (λ x l. l)

  -- by the byte at a place
  byte : (at : ℕ) {f g : ℕ → Read} → ((b : ℕ) → Reads at (f b) (g b)) → Reads at (peek (Err Cut) s at f) (peek (Err Cut) (s ++ t) at g)
  byte at = grows_peek (LateRead need (length s)) s t at (Err Cut) tt

  either : (at : ℕ) (x : Bool) {a b a' b' : Read} → Reads at a a' → Reads at b b' → Reads at (cond x a b) (cond x a' b')
  either at = grows_cond (LateRead need (length s)) (length s) at

  on : (at : ℕ) {a b : Read} → Reads (at + 1) a b → Reads at a b
  on at = grows_later (LateRead need (length s)) (length s) at (at + 1) (omega arith)

  pub spaces_grows : (at : ℕ) → Reads at (spaces_end s at) (spaces_end (s ++ t) at)
  unfolding spaces_end
  spaces_grows = local_grows need space_step 0 s t (λ q b i out. holds_cond (LateStep i) (is_space b) (λ e. omega arith) (λ e. out))

  pub part_grows : (at : ℕ) → Reads at (part_end s at) (part_end (s ++ t) at)
  unfolding part_end
  part_grows =
      local_grows need part_step (part_state 64 []) s t (λ q b i out.
      holds_cond (LateStep i) (begins (part_set q) q.begun b)
      (λ e. holds_cond (LateStep i) (eqb q.room 0) (λ e. omega arith) (λ e. omega arith))
      (λ e. holds_cond (LateRead need (length s)) (part_whole q) (λ e. out) (λ e. omega arith)))

  char_grows : (x : Set) (at : ℕ) → Reads at (char_end x s at) (char_end x (s ++ t) at)
  unfolding char_end
  char_grows x =
      local_grows need (char_step x) [] s t (λ begun b i out.
      holds_cond (LateStep i) (begins x begun b) (λ e. holds_cond (LateStep i) (is_form (begun ++ (b ∷ []))) (λ e. omega arith) (λ e. omega arith)) (λ e. omega arith))

  text_ext : (b i : ℕ) → Ext (LateRead need (length s)) (text_at s b i) (text_at (s ++ t) b i)
  unfolding text_at
  text_ext b i = ext_cond (LateRead need (length s)) (eqb b 0x3C) (inl refl) (char_grows set.Char i).0

  module _ (at quote : ℕ) (closing : Closings need (s ++ t) at quote) where
    -- a value's step at a byte behind the scene, or at one of a reference or a character that reaches behind it
    abbrev LateValue : ℕ → RunNext ℕ Read → Type 0
    LateValue i = Turned (λ (left : ℕ). length s ≤ i + 1 + left) (LateRead need (length s))

    value_turn : (left i : ℕ) → i < length (s ++ t) → length s ≤ i + left → LateValue i (value_step (s ++ t) at quote left (get_or (s ++ t) i 0) i)
    value_turn left i lt h =
        holds_cond (LateValue i) (eqb left 0)
        (λ z.
        let out : length s ≤ i = omega (arith, eqb-true left 0 z) in
        holds_cond (LateValue i) (eqb b quote) (λ e. out)
        (λ e. holds_cond (LateValue i) (eqb b 0x26) (λ e. passed out (reference_end (s ++ t) i) (reference_inside (s ++ t) i))
        (λ e. holds_cond (LateValue i) (closes (s ++ t) at quote b i) (λ c. omega (arith, closing i c, closes_behind (s ++ t) at quote b i c))
        (λ e. passed out (text_at (s ++ t) b i) (text_inside (s ++ t) b i lt)))))
        (λ z. omega (arith, eqb-false left 0 z))
      where
        b : ℕ
        b = get_or (s ++ t) i 0

        passed : length s ≤ i → (r : Read) → Within (PassedTo (s ++ t) i) (s ++ t) i r → LateValue i (passed_over i r)
        passed out (Ok j) w = omega arith
        passed out (Err (Bad j)) w = omega arith
        passed out (Err (Long j)) w = absurd w
        passed out (Err Cut) w = tt

    value_agree : (left i : ℕ) → i < length s → Ext (LateValue i) (value_step s at quote left (get_or s i 0) i) (value_step (s ++ t) at quote left (get_or s i 0) i)
    value_agree left i lt =
        rw (closes_kept s t at quote (get_or s i 0) i lt)
        (ext_cond (LateValue i) (eqb left 0)
        (ext_cond (LateValue i) (eqb (get_or s i 0) quote) (inl refl)
        (ext_cond (LateValue i) (eqb (get_or s i 0) 0x26) (over (reference_end s i) (reference_end (s ++ t) i) (reference_ext need s t i (omega arith)))
        (ext_cond (LateValue i) (closes s at quote (get_or s i 0) i) (inl refl) (over (text_at s (get_or s i 0) i) (text_at (s ++ t) (get_or s i 0) i) (text_ext (get_or s i 0) i)))))
        (inl refl))
      where
        late : (r : Read) → LateRead need (length s) r → LateValue i (passed_over i r)
        late (Ok j) l = omega arith
        late (Err x) l = l

        over : (r r' : Read) → Ext (LateRead need (length s)) r r' → Ext (LateValue i) (passed_over i r) (passed_over i r')
        over = ext_bind (LateRead need (length s)) (LateValue i) (passed_over i) (passed_over i) (λ r. inl refl) late

    pub value_grows : Reads at (value_end s at quote) (value_end (s ++ t) at quote)
    unfolding value_from
    value_grows =
        run_grows (Err Cut) (value_step s at quote) (value_step (s ++ t) at quote) s t (λ (left i : ℕ). length s ≤ i + left) (LateRead need (length s)) tt value_turn (λ q i out. omega arith) value_agree 0 at

  -- ---- names and attributes
  prefixed_grows : (at part : ℕ) → Grows (LateNamed need (length s)) (length s) part (prefixed_at s at part) (prefixed_at (s ++ t) at part)
  unfolding prefixed_at
  prefixed_grows at part = grows_after L (length s) part need Err (λ x l. l) (part_grows part) (λ j. grows_same L (length s) j (name_of at part j) (λ out. out))
    where
      L : Named → Type 0
      L = LateNamed need (length s)

  pub name_grows : (at : ℕ) → Grows (LateNamed need (length s)) (length s) at (name_at s at) (name_at (s ++ t) at)
  unfolding name_at
  name_grows at =
      grows_after L (length s) at need Err (λ x l. l) (part_grows at) (λ j.
      grows_peek L s t j (Err Cut) tt (λ b.
      grows_cond L (length s) j (eqb b 0x3A) (grows_later L (length s) j (j + 1) (omega arith) (prefixed_grows at (j + 1))) (grows_same L (length s) j (name_of at at j) (λ out. out))))
    where
      L : Named → Type 0
      L = LateNamed need (length s)

  -- a byte that is wanted was read
  abbrev LatePast : Read → Type 0
  LatePast (Ok j) = length s < j
  LatePast (Err x) = LateStop need (length s) x

  wanted_past : (at c : ℕ) → Grows LatePast (length s) at (wanted s at c) (wanted (s ++ t) at c)
  unfolding wanted
  wanted_past at c =
      grows_peek LatePast s t at (Err Cut) tt (λ b.
      grows_cond LatePast (length s) at (eqb b c)
      (grows_same LatePast (length s) at (Ok (at + 1)) (λ out. omega arith))
      (grows_same LatePast (length s) at (Err (Bad at)) (λ out. omega arith)))

  -- and what is said behind it
  past : {A : Type 0} (L : A → Type 0) (at c : ℕ) (f : Read → A) → ((r : Read) → LatePast r → L (f r)) → Grows L (length s) at (f (wanted s at c)) (f (wanted (s ++ t) at c))
  past L at c f late = grows_bind L (length s) at LatePast f f (λ r. (inl refl, late r)) (wanted s at c) (wanted (s ++ t) at c) (wanted_past at c)

  wanted_grows : (at c : ℕ) → Reads at (wanted s at c) (wanted (s ++ t) at c)
  wanted_grows at c = past (LateRead need (length s)) at c (λ r. r) late
    where
      late : (r : Read) → LatePast r → LateRead need (length s) r
      late (Ok j) l = omega arith
      late (Err x) l = l

  equals_grows : (at : ℕ) → Reads at (equals_end s at) (equals_end (s ++ t) at)
  unfolding equals_end
  equals_grows at = then at (spaces_grows at) (λ i. then i (wanted_grows i 0x3D) spaces_grows)

  -- the quote, and the value behind it
  quoted_grows : (name : Name) (at : ℕ) → Grows (LateAttributed need (length s)) (length s) at (quoted_at s name at) (quoted_at (s ++ t) name at)
  unfolding quoted_at
  quoted_grows name at =
      grows_peek L s t at (Err Cut) tt (λ q.
      grows_if L (length s) at (eqb q 0x22 || eqb q 0x27)
      (λ e. grows_later L (length s) at (at + 1) (omega arith) (grows_after L (length s) (at + 1) need Err (λ x l. l) (value_grows (at + 1) q (quoted_free need (s ++ t) (at + 1) q e)) (λ j. grows_same L (length s) j (Ok (attr_of name (at + 1) j)) (λ out. out))))
      (λ e. grows_same L (length s) at (Err (Bad at)) (λ out. omega arith)))
    where
      L : Attributed → Type 0
      L = LateAttributed need (length s)

  attribute_grows : (at : ℕ) → Grows (LateAttributed need (length s)) (length s) at (attribute_at s at) (attribute_at (s ++ t) at)
  unfolding attribute_at
  attribute_grows at =
      grows_after_name L (length s) at need Err (λ x l. l) (name_grows at) (λ name.
      grows_after L (length s) name.end need Err (λ x l. l) (equals_grows name.end) (quoted_grows name))
    where
      L : Attributed → Type 0
      L = LateAttributed need (length s)

  -- ---- what stands behind a tag's name or an attribute
  abbrev Turns : ℕ → TurnRead → TurnRead → Type 0
  Turns = Grows (LateTurn need (length s)) (length s)

  slash_grows : (at : ℕ) → Turns at (slash_at s at) (slash_at (s ++ t) at)
  unfolding slash_at
  slash_grows at = grows_later L (length s) at (at + 1) (omega arith) (past L (at + 1) 0x3E (λ (r : Read). after_read Err r (λ (j : ℕ). Ok (turn.Close j true))) late)
    where
      L : TurnRead → Type 0
      L = LateTurn need (length s)

      late : (r : Read) → LatePast r → L (after_read Err r (λ (j : ℕ). Ok (turn.Close j true)))
      late (Ok j) l = l
      late (Err x) l = l

  behind_grows : (at i : ℕ) → Turns i (turn_behind s at i) (turn_behind (s ++ t) at i)
  unfolding turn_behind
  behind_grows at i =
      grows_peek L s t i (Err Cut) tt (λ b.
      grows_cond L (length s) i (eqb b 0x3E) (grows_same L (length s) i (Ok (turn.Close (i + 1) false)) (λ out. omega arith))
      (grows_cond L (length s) i (eqb b 0x2F) (slash_grows i)
      (grows_cond L (length s) i (eqb i at) (grows_same L (length s) i (Err (Bad i)) (λ out. omega arith))
      (grows_cond L (length s) i (begins set.Start [] b) (grows_same L (length s) i (Ok (turn.Attribute i)) (λ out. out)) (grows_same L (length s) i (Err (Bad i)) (λ out. omega arith))))))
    where
      L : TurnRead → Type 0
      L = LateTurn need (length s)

  turn_grows : (at : ℕ) → Turns at (turn_at s at) (turn_at (s ++ t) at)
  unfolding turn_at
  turn_grows at = grows_after (LateTurn need (length s)) (length s) at need Err (λ x l. l) (spaces_grows at) (behind_grows at)

  -- ---- tags
  abbrev LateTag : TagRead → Type 0
  LateTag r = LateTagged need (length s) r.answer

  attrs_grows : (name : Name) (room : ℕ) (l : List Attr) (i : ℕ) → Grows LateTag (length s) i (attrs_from s name l room i) (attrs_from (s ++ t) name l room i)
  unfolding attrs_from
  attrs_grows name zero l i = grows_bind LateTag (length s) i (LateTurn need (length s)) (full_turn name l) (full_turn name l) each (turn_at s i) (turn_at (s ++ t) i) (turn_grows i)
    where
      each : (r : TurnRead) → Ext LateTag (full_turn name l r) (full_turn name l r) × (LateTurn need (length s) r → LateTag (full_turn name l r))
      each (Ok (turn.Close next empty)) = (inl refl, λ h. h)
      each (Ok (turn.Attribute j)) = (inl refl, λ h. omega arith)
      each (Err x) = (inl refl, λ h. h)
  attrs_grows name (suc room) l i =
      grows_bind LateTag (length s) i (LateTurn need (length s)) (turn_then s (more s) name l) (turn_then (s ++ t) (more (s ++ t)) name l) (each (attrs_grows name room)) (turn_at s i) (turn_at (s ++ t) i) (turn_grows i)
    where
      more : List ℕ → List Attr → ℕ → TagRead
      more scene l' k = attrs_from scene name l' room k

      More : Type 0
      More = (l' : List Attr) (k : ℕ) → Grows LateTag (length s) k (more s l' k) (more (s ++ t) l' k)

      one : More → (r : Attributed) → Ext LateTag (attr_then (more s) l r) (attr_then (more (s ++ t)) l r) × (LateAttributed need (length s) r → LateTag (attr_then (more (s ++ t)) l r))
      one h (Ok a) = grows_later LateTag (length s) a.stop (a.stop + 1) (omega arith) (h (l ++ (a ∷ [])) (a.stop + 1))
      one h (Err x) = (inl refl, λ le. le)

      each : More → (r : TurnRead) → Ext LateTag (turn_then s (more s) name l r) (turn_then (s ++ t) (more (s ++ t)) name l r) × (LateTurn need (length s) r → LateTag (turn_then (s ++ t) (more (s ++ t)) name l r))
      each h (Ok (turn.Close next empty)) = (inl refl, λ le. le)
      each h (Ok (turn.Attribute j)) = grows_bind LateTag (length s) j (LateAttributed need (length s)) (attr_then (more s) l) (attr_then (more (s ++ t)) l) (one h) (attribute_at s j) (attribute_at (s ++ t) j) (attribute_grows j)
      each h (Err x) = (inl refl, λ le. le)

  pub tag_grows : (at : ℕ) → Grows LateTag (length s) at (tag_at s at) (tag_at (s ++ t) at)
  unfolding tag_at
  tag_grows at = grows_after_name LateTag (length s) at need (tag_stopped []) (λ x l. l) (name_grows at) (λ name. attrs_grows name 16 [] name.end)

  pub end_tag_grows : (at : ℕ) → Grows (LateEnded need (length s)) (length s) at (end_tag_at s at) (end_tag_at (s ++ t) at)
  unfolding end_tag_at
  end_tag_grows at =
      grows_after_name L (length s) at need Err (λ x l. l) (name_grows at) (λ name.
      grows_after L (length s) name.end need Err (λ x l. l) (spaces_grows name.end) (λ i.
      past L i 0x3E (λ (r : Read). after_read Err r (λ (j : ℕ). Ok (record { name = name; next = j }))) (late name)))
    where
      L : Ended → Type 0
      L = LateEnded need (length s)

      late : (name : Name) (r : Read) → LatePast r → L (after_read Err r (λ (j : ℕ). Ok (record { name = name; next = j })))
      late name (Ok j) l = l
      late name (Err x) l = l

  -- ---- the declaration
  word_grows : (at : ℕ) (word : List ℕ) → Reads at (word_end s at word) (word_end (s ++ t) at word)
  unfolding word_end
  word_grows at [] = grows_same (LateRead need (length s)) (length s) at (Ok at) (λ out. out)
  word_grows at (c ∷ word) = then at (wanted_grows at c) (λ i. word_grows i word)

  some_grows : (f : Field) (at quote : ℕ) → Reads at (some_end s f at quote) (some_end (s ++ t) f at quote)
  unfolding some_end
  some_grows f at quote =
      local_grows need (some_step f quote) 0 s t
      (λ q b i out. holds_cond (LateStep i) (eqb q 1 && eqb b quote) (λ e. omega arith) (λ e. holds_cond (LateStep i) (is_field_byte f b) (λ e. omega arith) (λ e. omega arith)))
      at

  answer_grows : (at : ℕ) → Reads at (answer_end s at) (answer_end (s ++ t) at)
  unfolding answer_end
  answer_grows at = byte at (λ b. either at (eqb b 0x79) (word_grows at (bytes "yes")) (word_grows at (bytes "no")))

  field_grows : (f : Field) (at quote : ℕ) → Reads at (field_value f s at quote) (field_value f (s ++ t) at quote)
  unfolding version_end encoding_end standalone_end
  field_grows field.Version at quote = then at (word_grows at (bytes "1.")) (λ i. some_grows field.Version i quote)
  field_grows field.Encoding at quote = byte at (λ b. either at (is_letter b) (some_grows field.Encoding at quote) (bad_grows at))
  field_grows field.Standalone at quote = then at (answer_grows at) (λ i. wanted_grows i quote)

  quoted_end_grows : (f : Field) (at : ℕ) → Reads at (quoted_end s f at) (quoted_end (s ++ t) f at)
  unfolding quoted_end
  quoted_end_grows f at = byte at (λ q. either at (eqb q 0x22 || eqb q 0x27) (on at (field_grows f (at + 1) q)) (bad_grows at))

  field_end_grows : (f : Field) (at : ℕ) → Reads at (field_end s f at) (field_end (s ++ t) f at)
  unfolding field_end
  field_end_grows f at = then at (word_grows at (field_word f)) (λ i. then i (equals_grows i) (quoted_end_grows f))

  turn_from_grows : (at i : ℕ) → Turns i (turn_from s at i) (turn_from (s ++ t) at i)
  unfolding turn_from
  turn_from_grows at i =
      grows_peek L s t i (Err Cut) tt (λ b.
      grows_cond L (length s) i (eqb b 0x3F) (slash_grows i)
      (grows_cond L (length s) i (eqb i at) (grows_same L (length s) i (Err (Bad i)) (λ out. omega arith)) (grows_same L (length s) i (Ok (turn.Attribute i)) (λ out. out))))
    where
      L : TurnRead → Type 0
      L = LateTurn need (length s)

  -- what stands behind a field, by what may follow
  field_then_grows : (more more' : ℕ → Read) → ((j : ℕ) → Reads j (more j) (more' j)) → (at : ℕ) → Reads at (field_then more (field_turn s at)) (field_then more' (field_turn (s ++ t) at))
  unfolding field_turn
  field_then_grows more more' h at =
      grows_bind L (length s) at (LateTurn need (length s)) (field_then more) (field_then more') each (field_turn s at) (field_turn (s ++ t) at)
      (grows_after (LateTurn need (length s)) (length s) at need Err (λ x l. l) (spaces_grows at) (turn_from_grows at))
    where
      L : Read → Type 0
      L = LateRead need (length s)

      each : (r : TurnRead) → Ext L (field_then more r) (field_then more' r) × (LateTurn need (length s) r → L (field_then more' r))
      each (Ok (turn.Close next empty)) = (inl refl, λ l. omega arith)
      each (Ok (turn.Attribute i)) = h i
      each (Err x) = (inl refl, λ l. l)

  standalone_grows : (at : ℕ) → Reads at (standalone_then s at) (standalone_then (s ++ t) at)
  unfolding standalone_then last_rest
  standalone_grows at = then at (field_end_grows field.Standalone at) (field_then_grows _ _ bad_grows)

  encoding_grows : (at : ℕ) → Reads at (encoding_then s at) (encoding_then (s ++ t) at)
  unfolding encoding_then encoding_rest
  encoding_grows at = then at (field_end_grows field.Encoding at) (field_then_grows _ _ standalone_grows)

  either_grows : (at : ℕ) → Reads at (either_then s at) (either_then (s ++ t) at)
  unfolding either_then
  either_grows at = byte at (λ b. either at (eqb b 0x65) (encoding_grows at) (standalone_grows at))

  version_grows : (at : ℕ) → Reads at (version_then s at) (version_then (s ++ t) at)
  unfolding version_then version_rest
  version_grows at = then at (field_end_grows field.Version at) (field_then_grows _ _ either_grows)

  declaration_grows : (at : ℕ) → Reads at (declaration_end s at) (declaration_end (s ++ t) at)
  unfolding declaration_end
  declaration_grows at = byte at (λ b. either at (is_space b) (then at (spaces_grows at) version_grows) (bad_grows at))

  -- ---- comments and instructions
  free_late : (mark : ℕ) (begun : List ℕ) (b i : ℕ) → length s ≤ i → LateStep i (free_step mark begun b i)
  free_late mark begun b i out = holds_cond (LateStep i) (begins set.Char begun b) (λ e. omega arith) (λ e. omega arith)

  comment_grows : (at : ℕ) → Reads at (comment_end s at) (comment_end (s ++ t) at)
  unfolding comment_end comment_rest
  comment_grows at =
      then at (word_grows at (bytes "--"))
      (local_grows need comment_step (misc_state 0 []) s t (λ q b i out.
      holds_cond (LateStep i) (eqb q.mark 2) (λ e. holds_cond (LateStep i) (eqb b 0x3E) (λ e. omega arith) (λ e. omega arith))
      (λ e. free_late (cond (eqb b 0x2D) (q.mark + 1) 0) q.begun b i out)))

  content_grows : (at : ℕ) → Reads at (content_end s at) (content_end (s ++ t) at)
  unfolding content_end
  content_grows =
      local_grows need content_step (misc_state 0 []) s t (λ q b i out. holds_cond (LateStep i) (eqb q.mark 1 && eqb b 0x3E) (λ e. omega arith) (λ e. free_late (cond (eqb b 0x3F) 1 0) q.begun b i out))

  target_grows : (at : ℕ) → Reads at (behind_target s at) (behind_target (s ++ t) at)
  unfolding behind_target
  target_grows at = byte at (λ b. either at (is_space b) (on at (content_grows (at + 1))) (either at (eqb b 0x3F) (on at (wanted_grows (at + 1) 0x3E)) (bad_grows at)))

  instruction_grows : (at : ℕ) → (is_xml (s ++ t) at (at + 3) ≡ true → 3 ≤ need at) → Reads at (instruction_end s at) (instruction_end (s ++ t) at)
  unfolding instruction_end
  instruction_grows at target = then at (part_grows at) (λ j. grows_split L (length s) j (late j) (same j))
    where
      L : Read → Type 0
      L = LateRead need (length s)

      behind : List ℕ → ℕ → Read
      behind l j = cond (is_xml l at j) (cond (is_declared l at) (declaration_end l j) (Err (Bad at))) (behind_target l j)

      late : (j : ℕ) → length s ≤ j → L (behind (s ++ t) j)
      late j out =
          holds_cond L (is_xml (s ++ t) at j)
          (λ x. holds_cond L (is_declared (s ++ t) at) (λ e. (declaration_grows j).1 out) (λ e. let three : j ≡ at + 3 = xml_three (s ++ t) at j x in omega (arith, target (subst (λ (k : ℕ). is_xml (s ++ t) at k ≡ true) three x))))
          (λ x. (target_grows j).1 out)

      declared : (j : ℕ) (x : Bool) → is_xml s at j ≡ x → j < length s → Ext L (cond x (cond (is_declared s at) (declaration_end s j) (Err (Bad at))) (behind_target s j)) (cond x (cond (is_declared (s ++ t) at) (declaration_end (s ++ t) j) (Err (Bad at))) (behind_target (s ++ t) j))
      declared j true q lt = rw (declared_kept s t at (omega (arith, xml_three s at j q))) (ext_cond L (is_declared s at) (declaration_grows j).0 (inl refl))
      declared j false q lt = (target_grows j).0

      same : (j : ℕ) → j < length s → Ext L (behind s j) (behind (s ++ t) j)
      same j lt = rw (xml_kept s t at j lt) (declared j (is_xml s at j) refl lt)

  -- by the byte behind its <
  pub misc_grows : (at : ℕ) → get_or (s ++ t) at 0 ≡ 0x3C → Reads (at + 1) (misc_end s at) (misc_end (s ++ t) at)
  unfolding misc_end
  misc_grows at less =
      grows_seen (LateRead need (length s)) s t (at + 1) (Err Cut) tt (λ b q.
      grows_if (LateRead need (length s)) (length s) (at + 1) (eqb b 0x3F)
      (λ e. further (instruction_grows (at + 2) (targets at less (q ∙ eqb-true b 0x3F e))))
      (λ e. further (comment_grows (at + 2))))
    where
      further : {a b : Read} → Reads (at + 2) a b → Reads (at + 1) a b
      further = grows_later (LateRead need (length s)) (length s) (at + 1) (at + 2) (omega arith)

  -- ---- where the next event begins
  abbrev Looks : ℕ → Ahead → Ahead → Type 0
  Looks = Grows (LateAhead need (length s)) (length s)

  -- by the byte behind a <
  markup_grows : (inside closed : Bool) (at : ℕ) → get_or (s ++ t) at 0 ≡ 0x3C → Looks (at + 1) (markup_at s inside closed at) (markup_at (s ++ t) inside closed at)
  unfolding markup_at misc_ahead
  markup_grows inside closed at less =
      grows_peek L s t (at + 1) (stopped_ahead Cut) tt (λ b.
      if (eqb b 0x2F) (if inside (only (Break (Ok (begin.End at))) (λ out. out)) bad)
      (if (opens_misc b) (grows_after L (length s) (at + 1) need stopped_ahead (λ x l. l) (misc_grows at less) (λ j. grows_same L (length s) j (Continue j) (λ out. out)))
      (if (inside || not closed) (only (Break (Ok (begin.Start at))) (λ out. out)) bad)))
    where
      L : Ahead → Type 0
      L = LateAhead need (length s)

      if : (x : Bool) {a b a' b' : Ahead} → Looks (at + 1) a a' → Looks (at + 1) b b' → Looks (at + 1) (cond x a b) (cond x a' b')
      if = grows_cond L (length s) (at + 1)

      only : (a : Ahead) → (length s ≤ at + 1 → L a) → Looks (at + 1) a a
      only = grows_same L (length s) (at + 1)

      bad : Looks (at + 1) (stopped_ahead (Bad (at + 1))) (stopped_ahead (Bad (at + 1)))
      bad = only (stopped_ahead (Bad (at + 1))) (λ out. omega arith)

  either_at_grows : (inside closed : Bool) (at : ℕ) → Looks at (either_at s inside closed at) (either_at (s ++ t) inside closed at)
  unfolding either_at
  either_at_grows inside closed at =
      grows_seen L s t at (stopped_ahead Cut) tt (λ b q.
      grows_if L (length s) at (eqb b 0x3C) (λ e. grows_later L (length s) at (at + 1) (omega arith) (markup_grows inside closed at (q ∙ eqb-true b 0x3C e)))
      (λ e. grows_cond L (length s) at inside (grows_same L (length s) at (Break (Ok (begin.Text at))) (λ out. out)) (grows_same L (length s) at (stopped_ahead (Bad at)) (λ out. omega arith))))
    where
      L : Ahead → Type 0
      L = LateAhead need (length s)

  pub ahead_grows : (inside closed : Bool) (at : ℕ) → Looks at (ahead_at s inside closed at) (ahead_at (s ++ t) inside closed at)
  unfolding ahead_at
  ahead_grows inside closed at =
      grows_cond L (length s) at inside (either_at_grows true closed at)
      (grows_after L (length s) at need (ending closed) (λ x l. holds_cond L closed (λ e. tt) (λ e. l)) (spaces_grows at) (either_at_grows false closed))
    where
      L : Ahead → Type 0
      L = LateAhead need (length s)

  -- ---- each half by itself
  pub value_ext : (at quote : ℕ) → Closings need (s ++ t) at quote → Ext (LateRead need (length s)) (value_end s at quote) (value_end (s ++ t) at quote)
  value_ext at quote closing = (value_grows at quote closing).0

  pub value_late : (at quote : ℕ) → Closings need (s ++ t) at quote → length s ≤ at → LateRead need (length s) (value_end (s ++ t) at quote)
  value_late at quote closing = (value_grows at quote closing).1

  pub tag_ext : (at : ℕ) → Ext (λ (r : TagRead). LateTagged need (length s) r.answer) (tag_at s at) (tag_at (s ++ t) at)
  tag_ext at = (tag_grows at).0

  pub tag_late : (at : ℕ) → length s ≤ at → LateTagged need (length s) (tag_at (s ++ t) at).answer
  tag_late at = (tag_grows at).1

  pub end_tag_ext : (at : ℕ) → Ext (LateEnded need (length s)) (end_tag_at s at) (end_tag_at (s ++ t) at)
  end_tag_ext at = (end_tag_grows at).0

  pub end_tag_late : (at : ℕ) → length s ≤ at → LateEnded need (length s) (end_tag_at (s ++ t) at)
  end_tag_late at = (end_tag_grows at).1

  pub ahead_ext : (inside closed : Bool) (at : ℕ) → Ext (LateAhead need (length s)) (ahead_at s inside closed at) (ahead_at (s ++ t) inside closed at)
  ahead_ext inside closed at = (ahead_grows inside closed at).0

  pub ahead_late : (inside closed : Bool) (at : ℕ) → length s ≤ at → LateAhead need (length s) (ahead_at (s ++ t) inside closed at)
  ahead_late inside closed at = (ahead_grows inside closed at).1

  -- ---- and behind any number of misc
  pub begin_late : (at : ℕ) (inside closed : Bool) → length s ≤ at → LateBegin need (length s) (begin_at (s ++ t) at inside closed)
  begin_late at inside closed =
      begin_held (s ++ t) inside closed (λ (i : ℕ) (b : BeginRead). length s ≤ i → LateBegin need (length s) b)
      (λ i b e out. subst (LateAhead need (length s)) e (ahead_late inside closed i out))
      (λ i j b e h k out. k (omega arith))
      at

  looked_late : (at : ℕ) (inside closed : Bool) (a : Ahead) → ahead_at (s ++ t) inside closed at ≡ a → LateAhead need (length s) a → LateBegin need (length s) (begin_at (s ++ t) at inside closed)
  looked_late at inside closed (Break b) e l = rw (looked (s ++ t) at inside closed (Break b) e) l
  looked_late at inside closed (Continue j) e l = rw (looked (s ++ t) at inside closed (Continue j) e) (begin_late j inside closed l)

  pub begin_ext : (at : ℕ) (inside closed : Bool) → Ext (LateBegin need (length s)) (begin_at s at inside closed) (begin_at (s ++ t) at inside closed)
  begin_ext at inside closed =
      begin_held s inside closed (λ (i : ℕ) (b : BeginRead). Ext (LateBegin need (length s)) b (begin_at (s ++ t) i inside closed))
      (λ i b e. from i (Break b) e b (inl refl))
      (λ i j b e h k. from i (Continue j) e b k)
      at
    where
      from : (i : ℕ) (a : Ahead) → ahead_at s inside closed i ≡ a → (b : BeginRead) → Ext (LateBegin need (length s)) b (ahead_then (λ (j : ℕ). begin_at (s ++ t) j inside closed) a) → Ext (LateBegin need (length s)) b (begin_at (s ++ t) i inside closed)
      from i a e b k =
          ⊎_elim
          (λ q. rw (looked (s ++ t) i inside closed a (q ∙ e)) k)
          (λ l. inr (looked_late i inside closed (ahead_at (s ++ t) inside closed i) refl l))
          (ahead_ext inside closed i)

-- ---- what stands behind a finished scene
-- space to the end
spaces_on : (l t : List ℕ) (i : ℕ) (x : Stop) → run (Err Cut) space_step 0 l i ≡ Err x → run (Err Cut) space_step 0 (l ++ t) i ≡ run (Err Cut) space_step 0 t (i + length l)
unfolding run
spaces_on [] t i x q = let e : i + 0 ≡ i = omega arith in rw e
spaces_on (b ∷ l) t i x q = by (is_space b) q (spaces_on l t (i + 1) x)
  where
    spaces : List ℕ → ℕ → Read
    spaces = run (Err Cut) space_step 0

    step : Bool → RunNext ℕ Read
    step y = cond y (go 0) (stop (Ok i))

    by : (y : Bool) → follow (step y) (λ (q' : ℕ). run (Err Cut) space_step q' l (i + 1)) ≡ Err x → (spaces l (i + 1) ≡ Err x → spaces (l ++ t) (i + 1) ≡ spaces t (i + 1 + length l))
        → follow (step y) (λ (q' : ℕ). run (Err Cut) space_step q' (l ++ t) (i + 1)) ≡ spaces t (i + suc (length l))
    by true q ih = let e : i + suc (length l) ≡ i + 1 + length l = omega arith in rw e (ih q)
    by false q ih = let z : ◌≡◌ {A = ℕ} 0 1 = cc in absurd (omega arith)

spaces_behind : (s t : List ℕ) (at : ℕ) (x : Stop) → at ≤ length s → spaces_end s at ≡ Err x → spaces_end (s ++ t) at ≡ spaces_end (s ++ t) (length s)
unfolding spaces_end
spaces_behind s t at x le q =
    let here : drop at (s ++ t) ≡ drop at s ++ t = drop-append-le at s t le in
    let there : drop (length s) (s ++ t) ≡ t = drop-append-le (length s) s t (omega arith) ∙ ap (λ (l : List ℕ). l ++ t) (drop_out s (length s) (omega arith)) in
    let end : at + length (drop at s) ≡ length s = omega (arith, length-drop at s) in
    rw (here, there, ← end) (spaces_on (drop at s) t at x q)

-- what is ahead, other than the scene's end
Unended : BeginRead → Type 0
Unended (Ok (begin.Start i)) = Unit {0}
Unended (Ok (begin.End i)) = Unit {0}
Unended (Ok (begin.Text i)) = Unit {0}
Unended (Ok begin.Finished) = ⊥
Unended (Err x) = Unit {0}

Going : Ahead → Type 0
Going (Break b) = Unended b
Going (Continue j) = Unit {0}

either_going : (s : List ℕ) (inside closed : Bool) (at : ℕ) → Going (either_at s inside closed at)
unfolding either_at markup_at misc_ahead Going Unended
either_going s inside closed at =
    holds_peek Going s at tt (λ lt.
    holds_cond Going (eqb (get_or s at 0) 0x3C)
    (λ e. holds_peek Going s (at + 1) tt (λ lt.
    holds_cond Going (eqb (get_or s (at + 1) 0) 0x2F) (λ e. holds_cond Going inside (λ e. tt) (λ e. tt)) (λ e.
    holds_cond Going (opens_misc (get_or s (at + 1) 0)) (λ e. misc (misc_end s at)) (λ e.
    holds_cond Going (inside || not closed) (λ e. tt) (λ e. tt)))))
    (λ e. holds_cond Going inside (λ e. tt) (λ e. tt)))
  where
    misc : (r : Read) → Going (after_read stopped_ahead r (λ (j : ℕ). Continue j))
    misc (Ok j) = tt
    misc (Err x) = tt

ahead_on : (s t : List ℕ) (at : ℕ) → ahead_at s false true at ≡ Break (Ok begin.Finished) → at ≤ length s → ahead_at (s ++ t) false true at ≡ ahead_at (s ++ t) false true (length s)
unfolding ahead_at Going Unended
ahead_on s t at e le = by (spaces_end s at) refl e
  where
    on : List ℕ → Read → Ahead
    on l r = after_read (ending true) r (λ (i : ℕ). either_at l false true i)

    by : (r : Read) → spaces_end s at ≡ r → on s r ≡ Break (Ok begin.Finished) → on (s ++ t) (spaces_end (s ++ t) at) ≡ on (s ++ t) (spaces_end (s ++ t) (length s))
    by (Ok j) d e = absurd (subst Going e (either_going s false true j))
    by (Err x) d e = ap (on (s ++ t)) (spaces_behind s t at x le d)

pub finished_on : (s : List ℕ) (at : ℕ) → begin_at s at false true ≡ (Ok begin.Finished) → at ≤ length s → (t : List ℕ) → begin_at (s ++ t) at false true ≡ begin_at (s ++ t) (length s) false true
finished_on s at q le t = begin_held s false true On event misc at q le
  where
    On : ℕ → BeginRead → Type 0
    On i b = b ≡ (Ok begin.Finished) → i ≤ length s → begin_at (s ++ t) i false true ≡ begin_at (s ++ t) (length s) false true

    event : (i : ℕ) (b : BeginRead) → ahead_at s false true i ≡ Break b → On i b
    event i b e q le =
        looked (s ++ t) i false true (ahead_at (s ++ t) false true (length s)) (ahead_on s t i (e ∙ ap Break q) le) ∙ sym (begin_is (s ++ t) (length s) false true)

    kept : (j : ℕ) (a : Ahead) → a ≡ Continue j → CutAhead a → ⊥
    kept j a e (inl c) = let z : ◌≡◌ {A = ℕ} 0 1 = cc in omega arith
    kept j a e (inr c) = let z : ◌≡◌ {A = ℕ} 0 1 = cc in omega arith

    misc : (i j : ℕ) (b : BeginRead) → ahead_at s false true i ≡ Continue j → (i < j) × (j ≤ length s) → On j b → On i b
    misc i j b e h k q le = looked (s ++ t) i false true (Continue j) (ahead_stable s t false true i (kept j (ahead_at s false true i) e) ∙ e) ∙ k q h.1
