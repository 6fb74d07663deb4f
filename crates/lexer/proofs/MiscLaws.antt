-- Comments, instructions and the declaration: the place that an answer names is inside the scene, and an answer other than `Cut` stays when more bytes
-- come.
--     Onward                                       what the answers' ends have in common
--     word_inside, declaration_inside, ..          which places an answer names
--     comment_inside, instruction_inside, misc_inside
--     word_stable, declaration_stable, ..          more bytes
--     comment_stable, instruction_stable, misc_stable
--     xml_kept, declared_kept                      the bytes of a target that has been read
--     misc_short                                   the bytes before the place where reading stops
use Rattle.std.specs.Prelude.{Ok, Err}
use Prim.Native.Nat.{ℕ, ◌+◌, ◌≤◌, ◌<◌}
use mathlib.Core.Path.{◌≡◌, refl, ap, subst, ◌∙◌}
use mathlib.Core.List.{List, [], ◌∷◌, ◌++◌}
use mathlib.Core.Bool.{Bool, true, false, cond, ◌&&◌, ◌||◌}
use native.Mathlib.Omega.{arith}
use borrow.Author.Tests.{eqb-true, eqb-false}
use lib.ListN.{length, take, get_or, get_or-append}
use lib.Dec.{eqb}
use Rattle.laws.specs.Reading.{RunNext, Stable, stable_same, stable_cond, stable_peek, stable_bind, run_stable}
use Rattle.laws.specs.Text.{bytes}
use Rattle.laws.proofs.Flags.{and_left}
use Rattle.laws.proofs.Holds.{holds_cond, holds_peek, Turned, run_held}
use Rattle.utf8.specs.declared.Set.TheVariants as set
use Rattle.characters.specs.CanBegin.{begins}
use Rattle.lexer.specs.Stops.{stop_place, after_read}
use Rattle.lexer.specs.Names.{is_space, spaces_end, part_end}
use Rattle.lexer.specs.Tags.{wanted, equals_end, slash_at}
use Rattle.lexer.specs.Declaration.{word_end, is_letter, is_field_byte, some_step, some_end, version_end, encoding_end, answer_end, standalone_end, field_word, field_value, quoted_end, field_end, turn_from, field_turn, field_then, last_rest, standalone_then, encoding_rest, encoding_then, either_then, version_rest, version_then, declaration_end}
use Rattle.lexer.specs.Misc.{MiscState, misc_state, free_step, comment_step, comment_rest, comment_end, content_step, content_end, behind_target, is_xml, is_declared, instruction_end, misc_end}
use Rattle.lexer.specs.declared.Stop.{Stop}
use Rattle.lexer.specs.declared.Stop.TheVariants.{Bad, Cut}
use Rattle.lexer.specs.Reads.{Read, TurnRead}
use Rattle.lexer.specs.declared.Turn.TheVariants as turn
use Rattle.lexer.specs.declared.Field.{Field}
use Rattle.lexer.specs.declared.Field.TheVariants as field
use Rattle.lexer.proofs.Inside.{ReadInside, stop_later, after_inside, SpacesTo, spaces_inside, PartTo, part_inside, ByteTo, wanted_inside, EqualsTo, equals_inside, TurnInside, slash_inside}
use Rattle.lexer.proofs.Stable.{stops_short, read_decided, stable_after, spaces_stable, part_stable, wanted_stable, equals_stable, slash_stable}

-- behind a place, and not behind the scene
abbrev pub Onward : List ℕ → ℕ → ℕ → Type 0
Onward s at j = (at < j) × (j ≤ length s)

abbrev pub ReadOnward : List ℕ → ℕ → Read → Type 0
ReadOnward s at = ReadInside (Onward s at) s at

-- a step at the index j of a machine that began at a place
abbrev Turns : List ℕ → ℕ → ℕ → RunNext ℕ Read → Type 0
Turns s at j = Turned (λ (q : ℕ). at ≤ j + 1) (ReadOnward s at)

abbrev FreeTurns : List ℕ → ℕ → ℕ → RunNext MiscState Read → Type 0
FreeTurns s at j = Turned (λ (q : MiscState). at ≤ j + 1) (ReadOnward s at)

module _ (s : List ℕ) where
  -- what was read from a later place on
  pub onward_later : (at later : ℕ) → at ≤ later → (r : Read) → ReadOnward s later r → ReadOnward s at r
  onward_later at later le (Ok j) h = omega arith
  onward_later at later le (Err x) h = stop_later s at later le x h

  -- what is read behind what was read
  pub onward_after : (P : ℕ → Type 0) (at : ℕ) → ((j : ℕ) → P j → at ≤ j) → (r : Read) (k : ℕ → Read) → ReadInside P s at r → ((j : ℕ) → P j → ReadOnward s j (k j)) → ReadOnward s at (after_read Err r k)
  onward_after P at le r k h e = after_inside (ReadOnward s at) Err P s at r k h (λ (x : Stop) i. i) (λ (j : ℕ) p. onward_later at j (le j p) (k j) (e j p))

  pub onward_then : (at : ℕ) (r : Read) (k : ℕ → Read) → ReadOnward s at r → ((j : ℕ) → ReadOnward s j (k j)) → ReadOnward s at (after_read Err r k)
  onward_then at r k h e = onward_after (Onward s at) at (λ j p. omega arith) r k h (λ j p. e j)

  -- ---- the declaration
  pub word_inside : (at c : ℕ) (word : List ℕ) → ReadInside (Onward s at) s at (word_end s at (c ∷ word))
  unfolding word_end
  word_inside at c [] = after_inside (ReadOnward s at) Err (ByteTo s at c) s at (wanted s at c) _ (wanted_inside s at c) (λ (x : Stop) h. h) (λ (i : ℕ) h. omega arith)
  word_inside at c (d ∷ word) = onward_after (ByteTo s at c) at (λ j h. omega arith) (wanted s at c) _ (wanted_inside s at c) (λ (i : ℕ) h. word_inside i d word)

  pub some_inside : (f : Field) (at quote : ℕ) → ReadInside (Onward s at) s at (some_end s f at quote)
  unfolding some_end
  some_inside f at quote = run_held (Err Cut) (some_step f quote) s (λ (q j : ℕ). at ≤ j) (ReadOnward s at) tt turn 0 at (omega arith)
    where
      turn : (q j : ℕ) → j < length s → at ≤ j → Turns s at j (some_step f quote q (get_or s j 0) j)
      turn q j hi lo =
          holds_cond (Turns s at j) (eqb q 1 && eqb (get_or s j 0) quote) (λ e. omega arith)
          (λ e. holds_cond (Turns s at j) (is_field_byte f (get_or s j 0)) (λ e. omega arith) (λ e. omega arith))

  pub version_inside : (at quote : ℕ) → ReadInside (Onward s at) s at (version_end s at quote)
  unfolding version_end
  version_inside at quote = onward_then at (word_end s at (bytes "1.")) _ (word_inside at _ _) (λ (i : ℕ). some_inside field.Version i quote)

  pub encoding_inside : (at quote : ℕ) → ReadInside (Onward s at) s at (encoding_end s at quote)
  unfolding encoding_end
  encoding_inside at quote =
      holds_peek (ReadOnward s at) s at tt (λ lt.
      holds_cond (ReadOnward s at) (is_letter (get_or s at 0)) (λ e. some_inside field.Encoding at quote) (λ e. omega arith))

  pub answer_inside : (at : ℕ) → ReadInside (Onward s at) s at (answer_end s at)
  unfolding answer_end
  answer_inside at = holds_peek (ReadOnward s at) s at tt (λ lt. holds_cond (ReadOnward s at) (eqb (get_or s at 0) 0x79) (λ e. word_inside at _ _) (λ e. word_inside at _ _))

  -- a byte, and no more
  pub byte_inside : (at byte : ℕ) → ReadInside (Onward s at) s at (wanted s at byte)
  byte_inside at byte = found (wanted s at byte) (wanted_inside s at byte)
    where
      found : (r : Read) → ReadInside (ByteTo s at byte) s at r → ReadOnward s at r
      found (Ok j) h = omega arith
      found (Err x) h = h

  pub standalone_inside : (at quote : ℕ) → ReadInside (Onward s at) s at (standalone_end s at quote)
  unfolding standalone_end
  standalone_inside at quote = onward_then at (answer_end s at) _ (answer_inside at) (λ (i : ℕ). byte_inside i quote)

  pub field_value_inside : (f : Field) (at quote : ℕ) → ReadInside (Onward s at) s at (field_value f s at quote)
  field_value_inside field.Version at quote = version_inside at quote
  field_value_inside field.Encoding at quote = encoding_inside at quote
  field_value_inside field.Standalone at quote = standalone_inside at quote

  pub quoted_inside : (f : Field) (at : ℕ) → ReadInside (Onward s at) s at (quoted_end s f at)
  unfolding quoted_end
  quoted_inside f at =
      holds_peek (ReadOnward s at) s at tt (λ lt.
      holds_cond (ReadOnward s at) (eqb (get_or s at 0) 0x22 || eqb (get_or s at 0) 0x27)
      (λ e. onward_later at (at + 1) (omega arith) (field_value f s (at + 1) (get_or s at 0)) (field_value_inside f (at + 1) (get_or s at 0)))
      (λ e. omega arith))

  pub field_word_inside : (f : Field) (at : ℕ) → ReadInside (Onward s at) s at (word_end s at (field_word f))
  field_word_inside field.Version at = word_inside at _ _
  field_word_inside field.Encoding at = word_inside at _ _
  field_word_inside field.Standalone at = word_inside at _ _

  pub field_inside : (f : Field) (at : ℕ) → ReadInside (Onward s at) s at (field_end s f at)
  unfolding field_end
  field_inside f at =
      onward_then at (word_end s at (field_word f)) _ (field_word_inside f at) (λ (i : ℕ).
      onward_after (EqualsTo s i) i (λ j h. omega arith) (equals_end s i) _ (equals_inside s i) (λ (j : ℕ) k. quoted_inside f j))

  -- ---- what stands behind a field
  pub turn_from_inside : (at i : ℕ) → at ≤ i → TurnInside s at (turn_from s at i)
  unfolding turn_from
  turn_from_inside at i le =
      holds_peek (TurnInside s at) s i tt (λ lt.
      holds_cond (TurnInside s at) (eqb (get_or s i 0) 0x3F) (λ e. later (slash_at s i) (slash_inside s i)) (λ e.
      holds_cond (TurnInside s at) (eqb i at) (λ e. omega arith) (λ ne. omega (arith, eqb-false i at ne))))
    where
      later : (r : TurnRead) → TurnInside s i r → TurnInside s at r
      later (Ok (turn.Close next empty)) h = omega arith
      later (Ok (turn.Attribute j)) h = omega arith
      later (Err x) h = stop_later s at i le x h

  pub field_turn_inside : (at : ℕ) → TurnInside s at (field_turn s at)
  unfolding field_turn
  field_turn_inside at =
      after_inside (TurnInside s at) Err (SpacesTo s at) s at (spaces_end s at) _ (spaces_inside s at) (λ (x : Stop) h. h) (λ (i : ℕ) h. turn_from_inside at i h.0)

  pub field_then_inside : (more : ℕ → Read) → ((i : ℕ) → i < length s → ReadOnward s i (more i)) → (at : ℕ) → ReadInside (Onward s at) s at (field_then more (field_turn s at))
  field_then_inside more e at = behind (field_turn s at) (field_turn_inside at)
    where
      behind : (r : TurnRead) → TurnInside s at r → ReadOnward s at (field_then more r)
      behind (Ok (turn.Close next empty)) h = h
      behind (Ok (turn.Attribute i)) h = onward_later at i (omega arith) (more i) (e i h.1)
      behind (Err x) h = h

  pub last_inside : (at : ℕ) → ReadInside (Onward s at) s at (last_rest s at)
  unfolding last_rest
  last_inside = field_then_inside (λ (i : ℕ). Err (Bad i)) (λ i lt. omega arith)

  pub standalone_then_inside : (at : ℕ) → ReadInside (Onward s at) s at (standalone_then s at)
  unfolding standalone_then
  standalone_then_inside at = onward_then at (field_end s field.Standalone at) _ (field_inside field.Standalone at) (λ (i : ℕ). last_inside i)

  pub encoding_rest_inside : (at : ℕ) → ReadInside (Onward s at) s at (encoding_rest s at)
  unfolding encoding_rest
  encoding_rest_inside = field_then_inside (λ (i : ℕ). standalone_then s i) (λ i lt. standalone_then_inside i)

  pub encoding_then_inside : (at : ℕ) → ReadInside (Onward s at) s at (encoding_then s at)
  unfolding encoding_then
  encoding_then_inside at = onward_then at (field_end s field.Encoding at) _ (field_inside field.Encoding at) (λ (i : ℕ). encoding_rest_inside i)

  pub either_inside : (at : ℕ) → ReadInside (Onward s at) s at (either_then s at)
  unfolding either_then
  either_inside at = holds_peek (ReadOnward s at) s at tt (λ lt. holds_cond (ReadOnward s at) (eqb (get_or s at 0) 0x65) (λ e. encoding_then_inside at) (λ e. standalone_then_inside at))

  pub version_rest_inside : (at : ℕ) → ReadInside (Onward s at) s at (version_rest s at)
  unfolding version_rest
  version_rest_inside = field_then_inside (λ (i : ℕ). either_then s i) (λ i lt. either_inside i)

  pub version_then_inside : (at : ℕ) → ReadInside (Onward s at) s at (version_then s at)
  unfolding version_then
  version_then_inside at = onward_then at (field_end s field.Version at) _ (field_inside field.Version at) (λ (i : ℕ). version_rest_inside i)

  pub declaration_inside : (at : ℕ) → ReadInside (Onward s at) s at (declaration_end s at)
  unfolding declaration_end
  declaration_inside at =
      holds_peek (ReadOnward s at) s at tt (λ lt.
      holds_cond (ReadOnward s at) (is_space (get_or s at 0))
      (λ e. onward_after (SpacesTo s at) at (λ j h. omega arith) (spaces_end s at) _ (spaces_inside s at) (λ (i : ℕ) h. version_then_inside i))
      (λ e. omega arith))

  -- ---- comments
  free_inside : (at mark : ℕ) (begun : List ℕ) (b j : ℕ) → j < length s → at ≤ j → FreeTurns s at j (free_step mark begun b j)
  free_inside at mark begun b j hi lo = holds_cond (FreeTurns s at j) (begins set.Char begun b) (λ e. omega arith) (λ e. omega arith)

  pub comment_rest_inside : (at : ℕ) → ReadInside (Onward s at) s at (comment_rest s at)
  unfolding comment_rest
  comment_rest_inside at = run_held (Err Cut) comment_step s (λ (q : MiscState) (j : ℕ). at ≤ j) (ReadOnward s at) tt turn (misc_state 0 []) at (omega arith)
    where
      turn : (q : MiscState) (j : ℕ) → j < length s → at ≤ j → FreeTurns s at j (comment_step q (get_or s j 0) j)
      turn q j hi lo =
          let b = get_or s j 0 in
          holds_cond (FreeTurns s at j) (eqb q.mark 2)
          (λ e. holds_cond (FreeTurns s at j) (eqb b 0x3E) (λ e. omega arith) (λ e. omega arith))
          (λ e. free_inside at (cond (eqb b 0x2D) (q.mark + 1) 0) q.begun b j hi lo)

  pub comment_inside : (at : ℕ) → ReadInside (Onward s at) s at (comment_end s at)
  unfolding comment_end
  comment_inside at = onward_then at (word_end s at (bytes "--")) _ (word_inside at _ _) (λ (i : ℕ). comment_rest_inside i)

  -- ---- instructions
  pub content_inside : (at : ℕ) → ReadInside (Onward s at) s at (content_end s at)
  unfolding content_end
  content_inside at = run_held (Err Cut) content_step s (λ (q : MiscState) (j : ℕ). at ≤ j) (ReadOnward s at) tt turn (misc_state 0 []) at (omega arith)
    where
      turn : (q : MiscState) (j : ℕ) → j < length s → at ≤ j → FreeTurns s at j (content_step q (get_or s j 0) j)
      turn q j hi lo =
          let b = get_or s j 0 in
          holds_cond (FreeTurns s at j) (eqb q.mark 1 && eqb b 0x3E) (λ e. omega arith) (λ e. free_inside at (cond (eqb b 0x3F) 1 0) q.begun b j hi lo)

  pub target_inside : (at : ℕ) → ReadInside (Onward s at) s at (behind_target s at)
  unfolding behind_target
  target_inside at =
      holds_peek (ReadOnward s at) s at tt (λ lt.
      holds_cond (ReadOnward s at) (is_space (get_or s at 0)) (λ e. onward_later at (at + 1) (omega arith) (content_end s (at + 1)) (content_inside (at + 1))) (λ e.
      holds_cond (ReadOnward s at) (eqb (get_or s at 0) 0x3F) (λ e. onward_later at (at + 1) (omega arith) (wanted s (at + 1) 0x3E) (byte_inside (at + 1) 0x3E)) (λ e. omega arith)))

  pub xml_three : (at end : ℕ) → is_xml s at end ≡ true → end ≡ at + 3
  unfolding is_xml
  xml_three at end e =
      let a = eqb end (at + 3) in
      let x = eqb (get_or s at 0) 0x58 || eqb (get_or s at 0) 0x78 in
      let m = eqb (get_or s (at + 1) 0) 0x4D || eqb (get_or s (at + 1) 0) 0x6D in
      let l = eqb (get_or s (at + 2) 0) 0x4C || eqb (get_or s (at + 2) 0) 0x6C in
      eqb-true end (at + 3) (and_left a x (and_left (a && x) m (and_left (a && x && m) l e)))

  pub instruction_inside : (at : ℕ) → ReadInside (Onward s at) s at (instruction_end s at)
  unfolding instruction_end
  instruction_inside at =
      after_inside (ReadOnward s at) Err (PartTo s at) s at (part_end s at) _ (part_inside s at) (λ (x : Stop) h. h) (λ (j : ℕ) h.
      holds_cond (ReadOnward s at) (is_xml s at j)
      (λ e. holds_cond (ReadOnward s at) (is_declared s at) (λ e. onward_later at j (omega arith) (declaration_end s j) (declaration_inside j)) (λ e. omega arith))
      (λ e. onward_later at j (omega arith) (behind_target s j) (target_inside j)))

  pub misc_inside : (at : ℕ) → ReadInside (Onward s at) s at (misc_end s at)
  unfolding misc_end
  misc_inside at =
      holds_peek (ReadOnward s at) s (at + 1) tt (λ lt.
      holds_cond (ReadOnward s at) (eqb (get_or s (at + 1) 0) 0x3F)
      (λ e. onward_later at (at + 2) (omega arith) (instruction_end s (at + 2)) (instruction_inside (at + 2)))
      (λ e. onward_later at (at + 2) (omega arith) (comment_end s (at + 2)) (comment_inside (at + 2))))

-- ---- more bytes
-- what is read behind a target, by whether it is an xml
abbrev choose : List ℕ → ℕ → ℕ → Bool → Read
choose s at end xml = cond xml (cond (is_declared s at) (declaration_end s end) (Err (Bad at))) (behind_target s end)

abbrev chosen : List ℕ → ℕ → ℕ → Read
chosen s at end = choose s at end (is_xml s at end)

module _ (s t : List ℕ) where
  -- ---- the declaration
  pub word_stable : (at : ℕ) (word : List ℕ) → Stable (Err Cut) (word_end s at word) (word_end (s ++ t) at word)
  unfolding word_end
  word_stable at [] = stable_same (Err Cut) (Ok at)
  word_stable at (c ∷ word) = stable_after Err _ _ (λ (i : ℕ). word_stable i word) _ _ (wanted_stable s t at c)

  pub some_stable : (f : Field) (at quote : ℕ) → Stable (Err Cut) (some_end s f at quote) (some_end (s ++ t) f at quote)
  unfolding some_end
  some_stable f at quote = run_stable (Err Cut) (some_step f quote) 0 s t at

  pub version_stable : (at quote : ℕ) → Stable (Err Cut) (version_end s at quote) (version_end (s ++ t) at quote)
  unfolding version_end
  version_stable at quote = stable_after Err _ _ (λ (i : ℕ). some_stable field.Version i quote) _ _ (word_stable at (bytes "1."))

  pub encoding_stable : (at quote : ℕ) → Stable (Err Cut) (encoding_end s at quote) (encoding_end (s ++ t) at quote)
  unfolding encoding_end
  encoding_stable at quote =
      stable_peek (Err Cut) s t at _ _ (λ (b : ℕ).
      stable_cond (Err Cut) (is_letter b) (some_stable field.Encoding at quote) (stable_same (Err Cut) (Err (Bad at))))

  pub answer_stable : (at : ℕ) → Stable (Err Cut) (answer_end s at) (answer_end (s ++ t) at)
  unfolding answer_end
  answer_stable at =
      stable_peek (Err Cut) s t at _ _ (λ (b : ℕ). stable_cond (Err Cut) (eqb b 0x79) (word_stable at (bytes "yes")) (word_stable at (bytes "no")))

  pub standalone_stable : (at quote : ℕ) → Stable (Err Cut) (standalone_end s at quote) (standalone_end (s ++ t) at quote)
  unfolding standalone_end
  standalone_stable at quote = stable_after Err _ _ (λ (i : ℕ). wanted_stable s t i quote) _ _ (answer_stable at)

  pub field_value_stable : (f : Field) (at quote : ℕ) → Stable (Err Cut) (field_value f s at quote) (field_value f (s ++ t) at quote)
  field_value_stable field.Version at quote = version_stable at quote
  field_value_stable field.Encoding at quote = encoding_stable at quote
  field_value_stable field.Standalone at quote = standalone_stable at quote

  pub quoted_stable : (f : Field) (at : ℕ) → Stable (Err Cut) (quoted_end s f at) (quoted_end (s ++ t) f at)
  unfolding quoted_end
  quoted_stable f at =
      stable_peek (Err Cut) s t at _ _ (λ (q : ℕ).
      stable_cond (Err Cut) (eqb q 0x22 || eqb q 0x27) (field_value_stable f (at + 1) q) (stable_same (Err Cut) (Err (Bad at))))

  pub field_stable : (f : Field) (at : ℕ) → Stable (Err Cut) (field_end s f at) (field_end (s ++ t) f at)
  unfolding field_end
  field_stable f at =
      stable_after Err _ _ (λ (i : ℕ). stable_after Err _ _ (λ (j : ℕ). quoted_stable f j) _ _ (equals_stable s t i)) _ _ (word_stable at (field_word f))

  -- ---- what stands behind a field
  pub turn_from_stable : (at i : ℕ) → Stable (Err Cut) (turn_from s at i) (turn_from (s ++ t) at i)
  unfolding turn_from
  turn_from_stable at i =
      stable_peek (Err Cut) s t i _ _ (λ (b : ℕ).
      stable_cond (Err Cut) (eqb b 0x3F) (slash_stable s t i) (stable_same (Err Cut) (cond (eqb i at) (Err (Bad i)) (Ok (turn.Attribute i)))))

  pub field_turn_stable : (at : ℕ) → Stable (Err Cut) (field_turn s at) (field_turn (s ++ t) at)
  unfolding field_turn
  field_turn_stable at = stable_after Err _ _ (λ (i : ℕ). turn_from_stable at i) _ _ (spaces_stable s t at)

  pub field_then_stable : (more more' : ℕ → Read) → ((i : ℕ) → Stable (Err Cut) (more i) (more' i)) → (at : ℕ) → Stable (Err Cut) (field_then more (field_turn s at)) (field_then more' (field_turn (s ++ t) at))
  field_then_stable more more' h at = stable_bind (Err Cut) (Err Cut) (field_then more) (field_then more') refl each _ _ (field_turn_stable at)
    where
      each : (r : TurnRead) → Stable (Err Cut) (field_then more r) (field_then more' r)
      each (Ok (turn.Close next empty)) = stable_same (Err Cut) (Ok next)
      each (Ok (turn.Attribute i)) = h i
      each (Err x) = stable_same (Err Cut) (Err x)

  pub last_stable : (at : ℕ) → Stable (Err Cut) (last_rest s at) (last_rest (s ++ t) at)
  unfolding last_rest
  last_stable = field_then_stable _ _ (λ (i : ℕ). stable_same (Err Cut) (Err (Bad i)))

  pub standalone_then_stable : (at : ℕ) → Stable (Err Cut) (standalone_then s at) (standalone_then (s ++ t) at)
  unfolding standalone_then
  standalone_then_stable at = stable_after Err _ _ last_stable _ _ (field_stable field.Standalone at)

  pub encoding_rest_stable : (at : ℕ) → Stable (Err Cut) (encoding_rest s at) (encoding_rest (s ++ t) at)
  unfolding encoding_rest
  encoding_rest_stable = field_then_stable _ _ standalone_then_stable

  pub encoding_then_stable : (at : ℕ) → Stable (Err Cut) (encoding_then s at) (encoding_then (s ++ t) at)
  unfolding encoding_then
  encoding_then_stable at = stable_after Err _ _ encoding_rest_stable _ _ (field_stable field.Encoding at)

  pub either_stable : (at : ℕ) → Stable (Err Cut) (either_then s at) (either_then (s ++ t) at)
  unfolding either_then
  either_stable at = stable_peek (Err Cut) s t at _ _ (λ (b : ℕ). stable_cond (Err Cut) (eqb b 0x65) (encoding_then_stable at) (standalone_then_stable at))

  pub version_rest_stable : (at : ℕ) → Stable (Err Cut) (version_rest s at) (version_rest (s ++ t) at)
  unfolding version_rest
  version_rest_stable = field_then_stable _ _ either_stable

  pub version_then_stable : (at : ℕ) → Stable (Err Cut) (version_then s at) (version_then (s ++ t) at)
  unfolding version_then
  version_then_stable at = stable_after Err _ _ version_rest_stable _ _ (field_stable field.Version at)

  pub declaration_stable : (at : ℕ) → Stable (Err Cut) (declaration_end s at) (declaration_end (s ++ t) at)
  unfolding declaration_end
  declaration_stable at =
      stable_peek (Err Cut) s t at _ _ (λ (b : ℕ).
      stable_cond (Err Cut) (is_space b) (stable_after Err _ _ version_then_stable _ _ (spaces_stable s t at)) (stable_same (Err Cut) (Err (Bad at))))

  -- ---- comments
  pub comment_rest_stable : (at : ℕ) → Stable (Err Cut) (comment_rest s at) (comment_rest (s ++ t) at)
  unfolding comment_rest
  comment_rest_stable at = run_stable (Err Cut) comment_step (misc_state 0 []) s t at

  pub comment_stable : (at : ℕ) → Stable (Err Cut) (comment_end s at) (comment_end (s ++ t) at)
  unfolding comment_end
  comment_stable at = stable_after Err _ _ comment_rest_stable _ _ (word_stable at (bytes "--"))

  -- ---- instructions
  pub content_stable : (at : ℕ) → Stable (Err Cut) (content_end s at) (content_end (s ++ t) at)
  unfolding content_end
  content_stable at = run_stable (Err Cut) content_step (misc_state 0 []) s t at

  pub target_stable : (at : ℕ) → Stable (Err Cut) (behind_target s at) (behind_target (s ++ t) at)
  unfolding behind_target
  target_stable at =
      stable_peek (Err Cut) s t at _ _ (λ (b : ℕ).
      stable_cond (Err Cut) (is_space b) (content_stable (at + 1))
      (stable_cond (Err Cut) (eqb b 0x3F) (wanted_stable s t (at + 1) 0x3E) (stable_same (Err Cut) (Err (Bad at)))))

  -- the bytes of a target that has been read
  pub declared_kept : (at : ℕ) → at + 2 < length s → is_declared (s ++ t) at ≡ is_declared s at
  unfolding is_declared
  declared_kept at h = rw (get_or-append s t 0 at (omega arith), get_or-append s t 0 (at + 1) (omega arith), get_or-append s t 0 (at + 2) h)

  pub xml_kept : (at end : ℕ) → end < length s → is_xml (s ++ t) at end ≡ is_xml s at end
  unfolding is_xml
  xml_kept at end h = by_length (eqb end (at + 3)) (λ e. omega (arith, eqb-true end (at + 3) e))
    where
      letters : List ℕ → Bool → Bool
      letters l three =
          three
          && (eqb (get_or l at 0) 0x58 || eqb (get_or l at 0) 0x78)
          && (eqb (get_or l (at + 1) 0) 0x4D || eqb (get_or l (at + 1) 0) 0x6D)
          && (eqb (get_or l (at + 2) 0) 0x4C || eqb (get_or l (at + 2) 0) 0x6C)

      by_length : (three : Bool) → (three ≡ true → at + 2 < length s) → letters (s ++ t) three ≡ letters s three
      by_length true k =
          let lt : at + 2 < length s = k refl in
          rw (get_or-append s t 0 at (omega arith), get_or-append s t 0 (at + 1) (omega arith), get_or-append s t 0 (at + 2) lt)
      by_length false k = refl

  -- a target xml has three bytes
  chosen_stable : (at end : ℕ) → end < length s → Stable (Err Cut) (chosen s at end) (chosen (s ++ t) at end)
  chosen_stable at end h = rw (xml_kept at end h) (by_test (is_xml s at end) (λ e. omega (arith, xml_three s at end e)))
    where
      by_test : (xml : Bool) → (xml ≡ true → at + 2 < length s) → Stable (Err Cut) (choose s at end xml) (choose (s ++ t) at end xml)
      by_test true k = rw (declared_kept at (k refl)) (stable_cond (Err Cut) (is_declared s at) (declaration_stable end) (stable_same (Err Cut) (Err (Bad at))))
      by_test false k = target_stable end

  pub instruction_stable : (at : ℕ) → Stable (Err Cut) (instruction_end s at) (instruction_end (s ++ t) at)
  unfolding instruction_end
  instruction_stable at n = ap (behind (s ++ t)) (part_stable s t at (λ q. n (ap (behind s) q))) ∙ each (part_end s at) (part_inside s at) n
    where
      behind : List ℕ → Read → Read
      behind l r = after_read Err r (λ (j : ℕ). chosen l at j)

      each : (r : Read) → ReadInside (PartTo s at) s at r → Stable (Err Cut) (behind s r) (behind (s ++ t) r)
      each (Ok j) h = chosen_stable at j h.1
      each (Err x) h = stable_same (Err Cut) (Err x)

  pub misc_stable : (at : ℕ) → Stable (Err Cut) (misc_end s at) (misc_end (s ++ t) at)
  unfolding misc_end
  misc_stable at =
      stable_peek (Err Cut) s t (at + 1) _ _ (λ (b : ℕ). stable_cond (Err Cut) (eqb b 0x3F) (instruction_stable (at + 2)) (comment_stable (at + 2)))

-- the bytes before the place where reading stops
pub misc_short : (s : List ℕ) (at : ℕ) (x : Stop) → misc_end s at ≡ Err x → misc_end (take (stop_place s x) s) at ≡ Err Cut
misc_short s at x =
    stops_short (λ (r : Read). r ≡ Err Cut) read_decided (λ (l : List ℕ). misc_end l at) (λ l m. misc_stable l m at) at (λ (r : Read) (y : Stop). r ≡ Err y) (λ r e. e)
    (λ l y e. subst (ReadInside (Onward l at) l at) e (misc_inside l at))
    s
    x
