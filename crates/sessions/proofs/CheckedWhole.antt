-- Number 20 asked binding by binding and level by level is `coherent`.
--     weaker, joined, two     tests of all elements
--     LevelParts              what the test of a level says
--     whole                   all of the checks together
--     session-*               the ways out of the code that asks them
use Prim.Native.Nat.{ℕ, ◌<◌}
use mathlib.Core.Path.{◌≡◌, refl, sym, ap, ◌∙◌}
use mathlib.Core.List.{List, [], ◌∷◌}
use mathlib.Core.Bool.{Bool, true, false, not, ◌&&◌, ◌||◌}
use native.Mathlib.Omega.{arith}
use lib.ListN.{length}
use lib.Dec.{leb, ltb, eqb}
use Rattle.laws.specs.Lists.{all}
use Rattle.laws.specs.Gather.{total}
use Rattle.laws.specs.Tests.{both}
use Rattle.laws.proofs.Elementwise.{tested_at, tabulated_all}
use Rattle.laws.proofs.Flags.{flag_same, and_left, and_right}
use Rattle.table.specs.Table.{Table}
use Rattle.reader.specs.declared.Binding.{Binding}
use Rattle.reader.specs.Spans.{bytes_of}
use Rattle.reader.specs.Namespaces.{refused_binding}
use Rattle.reader.specs.Scope.{name_in, count_in}
use Rattle.reader.specs.Counted.{count_of}
use Rattle.lexer.specs.Whole.{is_whole_name}
use Rattle.model.specs.Stream.{HeldStrand}
use Rattle.coherence.specs.Fitting.{span_inside, target_fits}
use Rattle.coherence.specs.Checks.{binding_fits, name_fits, class_fits, strand_fits, level_fits, arrays_fit}
use Rattle.coherence.proofs.Chain.{chain_out, chain_on}
use Rattle.sessions.specs.Sessions.{class_in, uri_in, strand_count, strands_in, session_of}
use Rattle.sessions.specs.Coherence.{open_levels, open_bindings, coherent}
use Rattle.sessions.specs.Checks.{head_fits}
use Rattle.sessions.specs.declared.Head.{Head}
use Rattle.sessions.specs.Session.{Session}
use Rattle.sessions.proofs.SoundCoherent.{total_numbers}
use Rattle.sessions.proofs.Clauses.{Clauses, clauses, all_clauses}

-- ---- tests of all elements that follow from tests of all
module _ {A : Type 0} where
  pub weaker : (p q : A → Bool) → ((x : A) → p x ≡ true → q x ≡ true) → (l : List A) → all p l ≡ true → all q l ≡ true
  unfolding all
  weaker p q f [] e = refl
  weaker p q f (x ∷ l) e = both (q x) (all q l) (f x (and_left (p x) (all p l) e)) (weaker p q f l (and_right (p x) (all p l) e))

  joined : (p q r : A → Bool) → ((x : A) → p x ≡ true → q x ≡ true → r x ≡ true) → (l : List A) → all p l ≡ true → all q l ≡ true → all r l ≡ true
  unfolding all
  joined p q r f [] e g = refl
  joined p q r f (x ∷ l) e g =
      both (r x) (all r l) (f x (and_left (p x) (all p l) e) (and_left (q x) (all q l) g)) (joined p q r f l (and_right (p x) (all p l) e) (and_right (q x) (all q l) g))

  -- two tests at once
  two : (p q : A → Bool) (l : List A) → all p l ≡ true → all q l ≡ true → all (λ (x : A). p x && q x) l ≡ true
  two p q = joined p q (λ (x : A). p x && q x) (λ x. both (p x) (q x))

-- ---- the checks and the clauses
module _ (t : Table) (s : List ℕ) (h : Head) (levels bindings spaces strands : List ℕ) where
  abbrev z : Session
  z = session_of h levels bindings spaces strands

  abbrev level_test : ℕ → Bool
  level_test = level_fits s (length t.uris) t.modes h.units levels spaces strands

  abbrev strand_test : ℕ → Bool
  strand_test k = all (strand_fits t.modes h.units) (strands_in z k)

  -- a level's test, in its parts
  record LevelParts (k : ℕ) : Type 0 where
    pub name : span_inside s (name_in levels k) ≡ true
    pub behind : (not (eqb (name_in levels k).at 0) && is_whole_name (bytes_of s (name_in levels k))) ≡ true
    pub class : class_fits (length t.uris) (class_in z k) ≡ true
    pub uri : span_inside s (uri_in z k) ≡ true
    pub count : (leb 1 (strand_count z k) && leb (strand_count z k) 16) ≡ true
    pub strands_fit_lem : strand_test k ≡ true

  level_parts : (k : ℕ) → level_test k ≡ true → LevelParts k
  unfolding level_fits strands_in
  level_parts k e =
      let n : ℕ = strand_count z k in
      let e₂ = and_right (name_fits s (name_in levels k)) _ e in
      let e₃ = and_right (class_fits (length t.uris) (class_in z k)) _ e₂ in
      let e₄ = and_right (span_inside s (uri_in z k)) _ e₃ in
      let e₅ = and_right (leb 1 n) _ e₄ in
      let a = and_left (name_fits s (name_in levels k)) _ e in
      record {
        name = and_left (span_inside s (name_in levels k)) _ a;
        behind = and_right (span_inside s (name_in levels k)) _ a;
        class = and_left (class_fits (length t.uris) (class_in z k)) _ e₂;
        uri = and_left (span_inside s (uri_in z k)) _ e₃;
        count = both (leb 1 n) (leb n 16) (and_left (leb 1 n) _ e₄) (and_left (leb n 16) _ e₅);
        strands_fit_lem = and_right (leb n 16) _ e₅;
      }

  level_whole : (k : ℕ) → LevelParts k → level_test k ≡ true
  unfolding level_fits strands_in
  level_whole k p =
      let n : ℕ = strand_count z k in
      both _ _ (both _ _ p.name p.behind)
      (both _ _ p.class
      (both _ _ p.uri
      (both _ _ (and_left (leb 1 n) (leb n 16) p.count) (both _ _ (and_right (leb 1 n) (leb n 16) p.count) p.strands_fit_lem))))

  levels_say : (q : ℕ → Bool) → ((k : ℕ) → LevelParts k → q k ≡ true) → all level_test (open_levels z) ≡ true → all q (open_levels z) ≡ true
  levels_say q f = weaker level_test q (λ k e. f k (level_parts k e)) (open_levels z)

  bindings_say : (q : Binding → Bool) → ((b : Binding) → binding_fits s b ≡ true → q b ≡ true) → all (binding_fits s) (open_bindings z) ≡ true → all q (open_bindings z) ≡ true
  bindings_say q f = weaker (binding_fits s) q f (open_bindings z)

  -- of each strand of a level
  strands_say : (q : HeldStrand ℕ → Bool) → ((r : HeldStrand ℕ) → strand_fits t.modes h.units r ≡ true → q r ≡ true) → (k : ℕ) → LevelParts k → all q (strands_in z k) ≡ true
  strands_say q f k p = weaker (strand_fits t.modes h.units) q f (strands_in z k) p.strands_fit_lem

  counted : eqb (total (count_in z.scope) (open_levels z)) h.bound ≡ eqb (count_of levels h.depth) h.bound
  counted = ap (λ (n : ℕ). eqb n h.bound) (total_numbers levels h.depth)

  abbrev checks : Bool
  checks = head_fits (length s) h && arrays_fit t s h.units h.depth h.bound levels bindings spaces strands

  said : checks ≡ true → coherent t s z ≡ true
  unfolding arrays_fit
  said e =
      let e₂ = and_right (head_fits (length s) h) _ e in
      let e₃ = and_right (eqb (count_of levels h.depth) h.bound) _ e₂ in
      let bs = and_left (all (binding_fits s) (open_bindings z)) _ e₃ in
      let ls = and_right (all (binding_fits s) (open_bindings z)) _ e₃ in
      let h₁ = and_left (head_fits (length s) h) _ e in
      let h₂ = and_right (leb h.depth 64) _ h₁ in
      let h₃ = and_right (leb h.bound 64) _ h₂ in
      let h₄ = and_right (leb h.place (length s)) _ h₃ in
      let h₅ = and_right (leb h.units 65536) _ h₄ in
      all_clauses t s z
      (record {
        depth = and_left (leb h.depth 64) _ h₁;
        bound = and_left (leb h.bound 64) _ h₂;
        place = and_left (leb h.place (length s)) _ h₃;
        level_spans = levels_say _ (λ k p. both _ _ p.name p.uri) ls;
        binding_spans = bindings_say _ (λ b f. let f₂ = and_right (span_inside s b.prefix) _ f in both _ _ (and_left (span_inside s b.prefix) _ f) (and_left (span_inside s b.uri) _ f₂)) bs;
        names = levels_say _ (λ k p. p.behind) ls;
        allowed = bindings_say _ (λ b f. and_left (not (refused_binding s b)) _ (and_right (span_inside s b.uri) _ (and_right (span_inside s b.prefix) _ f))) bs;
        prefixes = bindings_say _ (λ b f. and_right (not (refused_binding s b)) _ (and_right (span_inside s b.uri) _ (and_right (span_inside s b.prefix) _ f))) bs;
        strand_counts = levels_say _ (λ k p. p.count) ls;
        modes = levels_say _ (strands_say _ (λ r f. and_left (ltb r.mode t.modes) _ f)) ls;
        classes = levels_say _ (λ k p. p.class) ls;
        targets = levels_say _ (strands_say _ (λ r f. and_left (target_fits h.units r.target) _ (and_right (ltb r.mode t.modes) _ f))) ls;
        aims = levels_say _ (strands_say _ (λ r f. and_right (target_fits h.units r.target) _ (and_right (ltb r.mode t.modes) _ f))) ls;
        units = and_left (leb h.units 65536) _ h₄;
        sum = counted ∙ and_left (eqb (count_of levels h.depth) h.bound) _ e₂;
        awaited = and_left (not h.awaited || not (eqb h.depth 0)) _ h₅;
        closed = and_right (not h.awaited || not (eqb h.depth 0)) _ h₅;
      })

  -- at a level
  level_from : Clauses t s z → (k : ℕ) → k < h.depth → LevelParts k
  level_from c k l =
      let at : (q : ℕ → Bool) → all q (open_levels z) ≡ true → q k ≡ true = λ q e. tested_at q (λ (i : ℕ). i) 0 h.depth e k (omega arith) (omega arith) in
      let spans = at _ c.level_spans in
      record {
        name = and_left (span_inside s (name_in levels k)) _ spans;
        behind = at _ c.names;
        class = at _ c.classes;
        uri = and_right (span_inside s (name_in levels k)) _ spans;
        count = at _ c.strand_counts;
        strands_fit_lem = two _ _ (strands_in z k) (at _ c.modes) (two _ _ (strands_in z k) (at _ c.targets) (at _ c.aims));
      }

  asked : coherent t s z ≡ true → checks ≡ true
  unfolding arrays_fit
  asked e =
      let c = clauses t s z e in
      both _ _ (both _ _ c.depth (both _ _ c.bound (both _ _ c.place (both _ _ c.units (both _ _ c.awaited c.closed)))))
      (both _ _ (sym counted ∙ c.sum)
      (both _ _
      (joined _ _ (binding_fits s)
      (λ b f g.
      both (span_inside s b.prefix) _ (and_left (span_inside s b.prefix) (span_inside s b.uri) f)
      (both (span_inside s b.uri) _ (and_right (span_inside s b.prefix) (span_inside s b.uri) f) g))
      (open_bindings z) c.binding_spans (two _ _ (open_bindings z) c.allowed c.prefixes))
      (tabulated_all level_test (λ (k : ℕ). k) 0 h.depth (λ k lo hi. level_whole k (level_from c k (omega arith))))))

  whole : checks ≡ coherent t s z
  whole = flag_same checks (coherent t s z) said asked

  -- ---- the ways out
  module _ (a : Bool) (ea : a ≡ head_fits (length s) h) where
    pub session_head : a ≡ false → a ≡ coherent t s z
    session_head f = f ∙ chain_out a _ _ (coherent t s z) ea whole (ap not f)

    pub session_arrays : a ≡ true → (r : Bool) → r ≡ arrays_fit t s h.units h.depth h.bound levels bindings spaces strands → r ≡ coherent t s z
    session_arrays f r e = e ∙ chain_on a _ _ (coherent t s z) ea whole (ap not f)
