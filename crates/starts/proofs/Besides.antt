-- What the loop holds beside a session: laid at its start, and kept by each event.
--     classed_beside, classed_own, classed_keys          classes of a tag's own bindings laid
--     beside_fewer                                       where no binding was added
--     text_fewer, end_fewer, awaited_fewer               a text, an end: no binding is added
--     text_beside, end_beside, awaited_beside            so what is held stays true behind it
--     beside_start                                       a start: its own bindings behind those that were open
use Rattle.std.specs.Prelude.{Ok, Err}
use Prim.Native.Nat.{ℕ, ◌+◌, ◌-◌, ◌*◌, ◌≤◌, ◌<◌}
use mathlib.Core.Path.{◌≡◌, refl, sym, ap, subst, ◌∙◌}
use mathlib.Core.Logic.{inl, inr, ⊎_elim}
use mathlib.Core.List.{List, [], ◌∷◌}
use mathlib.Core.Bool.{true}
use native.Mathlib.Omega.{arith}
use borrow.Author.Tests.{ltb-false}
use lib.ListN.{length, get_or, take}
use lib.Dec.{leb, ltb, eqb}
use Rattle.laws.specs.Gather.{gather}
use Rattle.laws.specs.Lists.{same_list}
use Rattle.laws.specs.Over.{overwrite}
use Rattle.laws.specs.Reading.{le_or_lt}
use Rattle.laws.proofs.Holds.{holds_cond}
use Rattle.laws.proofs.Over.{length_over}
use Rattle.table.specs.Table.{Table, table_of, decode, header_of, class_of}
use Rattle.table.specs.declared.Header.{Header}
use Rattle.lexer.specs.Reads.{Read, Ended}
use Rattle.reader.specs.declared.Binding.{Binding}
use Rattle.reader.specs.declared.Scope.{Scope}
use Rattle.reader.specs.declared.Span.{Span}
use Rattle.reader.specs.Spans.{bytes_of, whole_span}
use Rattle.reader.specs.Stored.{binding_in, binding_numbers}
use Rattle.reader.specs.Scope.{closed_of, opens_of}
use Rattle.reader.specs.Known.{key_of, KeysAt}
use Rattle.reader.specs.Events.{Start, Open, Next, end_read, text_read}
use Rattle.reader.specs.Events as reads
use Rattle.model.specs.Stream.{entries_at, after}
use Rattle.model.specs.Tree.{start}
use Rattle.model.specs.Elements.{Element, element_of}
use Rattle.model.specs.Dispatch.{dispatch}
use Rattle.attributes.specs.Known.{classes_in, ClassesAt}
use Rattle.attributes.proofs.Known.{classes_long, classes_laid, classes_kept}
use Rattle.sessions.specs.Sessions.{state_of, reader_of}
use Rattle.sessions.specs.Stepping.{Plan, plan_by, plan_of, start_plan}
use Rattle.sessions.specs.Turns.{Beside, session_by}
use Rattle.sessions.specs.Session.{Session}
use Rattle.reader.proofs.Known.{keys_kept}
use Rattle.sessions.proofs.EventTurns.{awaited_plan}
use Rattle.sessions.proofs.Own.{opened, opened_before, opened_own, opened_long}

-- ---- classes of a tag's own bindings, laid behind those of the open ones
module _ (table s known known' own : List ℕ) (header : Header) (z : Session) (n : ℕ) (b : Beside table s known z) (bound_few : z.scope.bound ≤ 64) (few : n ≤ 16) (h : header ≡ header_of table)
    (e : known' ≡ overwrite known (80 + z.scope.bound) (classes_in (table_of table header) s own n)) where
  abbrev new : List ℕ
  new = classes_in (table_of table header) s own n

  inside : 80 + z.scope.bound + length new ≤ length known
  inside = omega (arith, classes_long (table_of table header) s own n, b.known_long)

  pub classed_beside : Beside table s known' z
  classed_beside =
      record {
        known_long = ap length e ∙ length_over known (80 + z.scope.bound) new inside ∙ b.known_long;
        bindings_long = b.bindings_long;
        keys = keys_kept s z.scope.bindings z.scope.bound 0 known known' (80 + z.scope.bound) new (omega (arith, inside)) (inl (omega arith)) e b.keys;
        classes = subst (ClassesAt (decode table) s z.scope.bindings z.scope.bound 0) (sym e) (classes_kept (decode table) s z.scope.bindings known z.scope.bound 0 b.classes (80 + z.scope.bound) new (omega (arith, inside)) (inr (omega arith)));
      }

  pub classed_own : ClassesAt (decode table) s own n z.scope.bound known'
  classed_own =
      subst (λ (x : Header). ClassesAt (table_of table x) s own n z.scope.bound known') h
      (classes_laid (table_of table header) s own known z.scope.bound known' n e (omega (arith, inside, classes_long (table_of table header) s own n)))

  pub classed_keys : KeysAt s own n z.scope.bound known → KeysAt s own n z.scope.bound known'
  classed_keys = keys_kept s own n z.scope.bound known known' (80 + z.scope.bound) new (omega (arith, inside)) (inl (omega arith)) e

-- ---- no binding more
pub beside_fewer : (table s known : List ℕ) (z z' : Session) → Beside table s known z → z'.scope.bindings ≡ z.scope.bindings → z'.scope.bound ≤ z.scope.bound → Beside table s known z'
beside_fewer table s known z z' b e l =
    record {
      known_long = b.known_long;
      bindings_long = ap length e ∙ b.bindings_long;
      keys = subst (λ (bs : List ℕ). KeysAt s bs z'.scope.bound 0 known) (sym e) (λ k m. b.keys k (omega arith));
      classes = subst (λ (bs : List ℕ). ClassesAt (decode table) s bs z'.scope.bound 0 known) (sym e) (λ k m. b.classes k (omega arith));
    }

-- what is read is no start
abbrev NoStart : Next → Type 0
NoStart (reads.event (reads.start e) z) = ⊥
NoStart (reads.event (reads.text w) z) = Unit {0}
NoStart (reads.event (reads.end part at) z) = Unit {0}
NoStart (reads.refusal n p) = Unit {0}
NoStart (reads.finished p) = Unit {0}

closed_fewer : (z : Session) → (closed_of z.scope).bound ≤ z.scope.bound
unfolding closed_of
closed_fewer z =
    holds_cond (λ (x : Scope). x.bound ≤ z.scope.bound) (eqb z.scope.depth 0) (λ e. omega arith) (λ e.
    holds_cond (λ (x : Scope). x.bound ≤ z.scope.bound) (ltb 64 z.scope.depth) (λ f. omega arith) (λ f. omega arith))

closed_bindings : (z : Session) → (closed_of z.scope).bindings ≡ z.scope.bindings
unfolding closed_of
closed_bindings z =
    holds_cond (λ (x : Scope). x.bindings ≡ z.scope.bindings) (eqb z.scope.depth 0) (λ e. refl) (λ e.
    holds_cond (λ (x : Scope). x.bindings ≡ z.scope.bindings) (ltb 64 z.scope.depth) (λ f. refl) (λ f. refl))

text_none : (s : List ℕ) (z : Session) (at : ℕ) (x : Read) → NoStart (text_read s (reader_of z) at x)
text_none s z at (Err y) = tt
text_none s z at (Ok j) = tt

end_none : (s : List ℕ) (at : ℕ) (os : List Open) (x : Ended) → NoStart (end_read s at os x)
end_none s at [] x = tt
end_none s at (o ∷ os) (Err y) = tt
end_none s at (o ∷ os) (Ok tag) = holds_cond NoStart (same_list (bytes_of s (whole_span tag.name)) (bytes_of s o.name)) (λ e. tt) (λ e. tt)

module _ (t : Table) (s : List ℕ) (z : Session) where
  abbrev Fewer : Plan → Type 0
  Fewer p = (session_by p z).scope.bound ≤ z.scope.bound

  abbrev Same : Plan → Type 0
  Same p = (session_by p z).scope.bindings ≡ z.scope.bindings

  next_fewer : (n : Next) → NoStart n → Fewer (plan_by t s z n)
  next_fewer (reads.event (reads.start e) z') h = absurd h
  next_fewer (reads.event (reads.text w) z') h = omega arith
  next_fewer (reads.event (reads.end part at) z') h = closed_fewer z
  next_fewer (reads.refusal n p) h = omega arith
  next_fewer (reads.finished p) h = omega arith

  next_same : (n : Next) → NoStart n → Same (plan_by t s z n)
  next_same (reads.event (reads.start e) z') h = absurd h
  next_same (reads.event (reads.text w) z') h = refl
  next_same (reads.event (reads.end part at) z') h = closed_bindings z
  next_same (reads.refusal n p) h = refl
  next_same (reads.finished p) h = refl

  pub text_fewer : (at : ℕ) (x : Read) → Fewer (plan_by t s z (text_read s (reader_of z) at x))
  text_fewer at x = next_fewer (text_read s (reader_of z) at x) (text_none s z at x)

  pub end_fewer : (at : ℕ) (x : Ended) → Fewer (plan_by t s z (end_read s at (opens_of z.scope) x))
  end_fewer at x = next_fewer (end_read s at (opens_of z.scope) x) (end_none s at (opens_of z.scope) x)

  pub awaited_fewer : 1 ≤ z.scope.depth → z.awaited ≡ true → Fewer (plan_of t s z)
  awaited_fewer l a = subst Fewer (sym (awaited_plan t s z l a)) (closed_fewer z)

-- what is held beside it
module _ (t : Table) (table s known : List ℕ) (z : Session) (b : Beside table s known z) where
  pub text_beside : (at : ℕ) (x : Read) → Beside table s known (session_by (plan_by t s z (text_read s (reader_of z) at x)) z)
  text_beside at x = beside_fewer table s known z _ b (next_same t s z (text_read s (reader_of z) at x) (text_none s z at x)) (text_fewer t s z at x)

  pub end_beside : (at : ℕ) (x : Ended) → Beside table s known (session_by (plan_by t s z (end_read s at (opens_of z.scope) x)) z)
  end_beside at x = beside_fewer table s known z _ b (next_same t s z (end_read s at (opens_of z.scope) x) (end_none s at (opens_of z.scope) x)) (end_fewer t s z at x)

  pub awaited_beside : 1 ≤ z.scope.depth → z.awaited ≡ true → Beside table s known (session_by (plan_of t s z) z)
  awaited_beside l a = beside_fewer table s known z _ b (subst (Same t s z) (sym (awaited_plan t s z l a)) (closed_bindings z)) (awaited_fewer t s z l a)

-- ---- a start
module _ (table s known own : List ℕ) (z : Session) (ds : List Binding) (beside : Beside table s known z) (few : length ds ≤ 16) (own_laid : take (4 * length ds) own ≡ gather binding_numbers ds)
    (own_keys : KeysAt s own (length ds) z.scope.bound known) (own_classes : ClassesAt (decode table) s own (length ds) z.scope.bound known) where
  module _ (roomy : z.scope.bound + length ds ≤ 64) (name : Span) where
    abbrev l' : List ℕ
    l' = (opened z.scope name ds).bindings

    -- of a binding that was open, and of one of the tag's own
    each : (P : Binding → ℕ → Type 0) → ((k : ℕ) → k < z.scope.bound → P (binding_in z.scope.bindings k) k) → ((k : ℕ) → k < length ds → P (binding_in own k) (z.scope.bound + k))
        → (k : ℕ) → k < z.scope.bound + length ds → P (binding_in l' k) k
    each P p q k l = ⊎_elim (λ h. behind h) (λ h. before h) (le_or_lt z.scope.bound k)
      where
        before : k < z.scope.bound → P (binding_in l' k) k
        before h = subst (λ (b : Binding). P b k) (sym (opened_before z.scope name ds few beside.bindings_long roomy k h)) (p k h)

        behind : z.scope.bound ≤ k → P (binding_in l' k) k
        behind h =
            let j : ℕ = k - z.scope.bound in
            let e : z.scope.bound + j ≡ k = omega arith in
            subst (λ (i : ℕ). P (binding_in l' i) i) e
            (subst (λ (b : Binding). P b (z.scope.bound + j)) (sym (opened_own z.scope name ds few beside.bindings_long roomy own own_laid j (omega arith))) (q j (omega arith)))

    keys_opened : KeysAt s l' (z.scope.bound + length ds) 0 known
    keys_opened =
        each (λ (b : Binding) (k : ℕ). get_or known (0 + k) 0 ≡ key_of (bytes_of s b.prefix)) beside.keys (λ k l.
        let e : 0 + (z.scope.bound + k) ≡ z.scope.bound + k = omega arith in
        ap (λ (i : ℕ). get_or known i 0) e ∙ own_keys k l)

    classes_opened : ClassesAt (decode table) s l' (z.scope.bound + length ds) 0 known
    classes_opened =
        each (λ (b : Binding) (k : ℕ). get_or known (80 + 0 + k) 0 ≡ class_of (decode table) (bytes_of s b.uri)) beside.classes (λ k l.
        let e : 80 + 0 + (z.scope.bound + k) ≡ 80 + z.scope.bound + k = omega arith in
        ap (λ (i : ℕ). get_or known i 0) e ∙ own_classes k l)

  pub beside_start : (e : Start) (place : ℕ) → Beside table s known (session_by (start_plan (decode table) s z e ds place) z)
  unfolding start_plan
  beside_start e place =
      holds_cond Kept (leb 64 z.scope.depth) (λ a. beside) (λ a.
      holds_cond Kept (ltb 64 (z.scope.bound + length ds)) (λ b. beside) (λ b.
      holds_cond Kept (ltb 16 (length (entries_at (dispatch (decode table)) (state_of (decode table) s z).levels σ))) (λ c. beside) (λ c.
      holds_cond Kept (ltb 65536 (after (dispatch (decode table)) (state_of (decode table) s z) (start σ)).units) (λ d. beside) (λ d.
      record {
        known_long = beside.known_long;
        bindings_long = opened_long z.scope e.name ds few beside.bindings_long (ltb-false 64 (z.scope.bound + length ds) b);
        keys = keys_opened (ltb-false 64 (z.scope.bound + length ds) b) e.name;
        classes = classes_opened (ltb-false 64 (z.scope.bound + length ds) b) e.name;
      }))))
    where
      σ : Element
      σ = element_of (decode table) s e

      Kept : Plan → Type 0
      Kept p = Beside table s known (session_by p z)
