-- A start whose tag was read, behind 21 and 22: what the loop holds with the classes of its own bindings; and what is answered.
--     found_few, names_few                    what was found, and the table's namespaces, are few
--     classed, unclassed                      behind `put_classes`, and where the tag has no declarations
--     refused_planned                         a refusal
--     decided_refused, decided_start          by what was decided
--     start_met, start_read_lem, refused_read     by what reading the tag came to
--     from_loop                               at the start of step, advance and run
use Prim.Native.Nat.{ℕ, ◌+◌, ◌≤◌, ◌<◌}
use mathlib.Core.Path.{◌≡◌, refl, sym, ap, subst, ◌∙◌}
use mathlib.Core.List.{List}
use mathlib.Core.Bool.{true}
use native.Mathlib.Omega.{arith}
use mathlib.Core.Logic.{inl}
use lib.ListN.{length, replicate, length-replicate}
use Rattle.std.specs.Prelude.{Result, Ok, Err}
use Rattle.laws.specs.Over.{overwrite}
use Rattle.table.specs.Table.{table_of, decode, header_of}
use Rattle.laws.proofs.Over.{length_over}
use Rattle.table.specs.Index.{index_of}
use Rattle.table.specs.Judge.{Accepted}
use Rattle.table.specs.declared.Header.{Header}
use Rattle.table.proofs.Accepted.{header_in}
use Rattle.lexer.specs.Attrs.{attrs_in}
use Rattle.lexer.specs.Tags.{tag_at}
use Rattle.lexer.specs.Reads.{Tagged}
use Rattle.reader.specs.declared.Found.{Found}
use Rattle.reader.specs.declared.Found.TheVariants as found
use Rattle.reader.specs.Namespaces.{declarations_of}
use Rattle.reader.specs.Events.{Start, Open, start_read}
use Rattle.reader.specs.Spans.{whole_span}
use Rattle.reader.specs.Stored.{stored_space}
use Rattle.reader.specs.Scope.{opens_of}
use Rattle.reader.specs.Known.{keys_in, KeysAt, Within}
use Rattle.model.specs.Elements.{Element, element_of, space_of}
use Rattle.attributes.specs.declared.Placing.{Placing}
use Rattle.attributes.specs.Attributes.{placing_of, attributes_in, sections_in}
use Rattle.attributes.specs.Known.{classes_in, ClassesAt}
use Rattle.attributes.proofs.Known.{classes_long, classes_laid}
use Rattle.strands.specs.Levels.{level_names, level_spaces, level_strands}
use Rattle.sessions.specs.Sessions.{session_at, session_of}
use Rattle.sessions.specs.Stepping.{Plan, refused, plan_by, start_plan}
use Rattle.sessions.specs.Turns.{TurnReady, LoopReady, Beside, Met, DecidedAs, decided_number, PlannedAs, start_of, read_plan, ReadMet, ReadAs, session_by}
use Rattle.sessions.specs.Session.{Session}
use Rattle.sessions.specs.declared.Head.{Head}
use Rattle.sessions.specs.declared.Started.{Started}
use Rattle.sessions.specs.declared.Refusal.{Refusal}
use Rattle.sessions.specs.declared.Planned.{Planned}
use Rattle.sessions.specs.declared.Planned.TheVariants as planned
use Rattle.openings.specs.declared.Decided.{Decided}
use Rattle.reader.proofs.Known.{keys_many, keys_laid, keys_kept}
use Rattle.starts.proofs.StartTurns.{few_bound, made_openable}
use Rattle.sessions.proofs.StartPlans.{plan_refused}
use Rattle.starts.proofs.Besides.{classed_beside, classed_own, classed_keys, beside_start}

pub names_few : (table : List ℕ) → Accepted table ≡ true → (header_of table).namespaces < 256
names_few table a = omega (arith, (header_in table a).few_namespaces)

within_more : (m n m' n' : ℕ) → m ≤ m' → n ≤ n' → (f : Found) → Within m n f → Within m' n' f
within_more m n m' n' h k found.Nothing w = tt
within_more m n m' n' h k found.Xml w = tt
within_more m n m' n' h k (found.Own i) w = omega arith
within_more m n m' n' h k (found.Open i) w = omega arith
within_more m n m' n' h k found.Unbound w = tt

-- what is known behind `put_classes`
pub record Classed (table s own attrs codes known : List ℕ) (z : Session) (o : Started) : Type 0 where
  pub beside : Beside table s known z
  pub own_classes : ClassesAt (decode table) s own o.owned z.scope.bound known
  pub met : Met s z.scope.bindings own attrs codes known z.scope.bound o
  pub kept : (e : Start) (place : ℕ) → Beside table s known (session_by (start_plan (decode table) s z e (declarations_of s (attrs_in attrs o.tag.count)) place) z)

with_classes : (table s own attrs codes known : List ℕ) (z : Session) (o : Started) → Beside table s known z → ClassesAt (decode table) s own o.owned z.scope.bound known
    → Met s z.scope.bindings own attrs codes known z.scope.bound o → Classed table s own attrs codes known z o
with_classes table s own attrs codes known z o b c m =
    record {
      beside = b;
      own_classes = c;
      met = m;
      kept =
          beside_start table s known own z (declarations_of s (attrs_in attrs o.tag.count)) b m.told.few_own m.told.own_laid
          (subst (λ (i : ℕ). KeysAt s own i z.scope.bound known) m.told.owned_is m.own_keys) (subst (λ (i : ℕ). ClassesAt (decode table) s own i z.scope.bound known) m.told.owned_is c);
    }

module _ (table index s known : List ℕ) where
  module _ (own attrs codes : List ℕ) (head : Head) (levels bindings spaces strands : List ℕ) (o : Started) (r : LoopReady table index s known (session_of head levels bindings spaces strands)) (m : Met s bindings own attrs codes known head.bound o) where
    bound_few : head.bound ≤ 64
    bound_few = few_bound table (header_of table) index s head levels bindings spaces strands r.ready

    owned_few : o.owned ≤ 16
    owned_few = omega (arith, m.told.owned_is, m.told.few_own)

    pub found_few : (head.bound ≤ 64) × Within 16 64 o.found
    found_few = (bound_few, within_more o.owned head.bound 16 64 owned_few bound_few o.found m.found_within)

pub classed : (table index s known known' own attrs codes : List ℕ) (header : Header) (head : Head) (levels bindings spaces strands : List ℕ) (o : Started)
    → LoopReady table index s known (session_of head levels bindings spaces strands) → Met s bindings own attrs codes known head.bound o → header ≡ header_of table
    → known' ≡ overwrite known (80 + head.bound) (classes_in (table_of table header) s own o.owned) → Classed table s own attrs codes known' (session_of head levels bindings spaces strands) o
classed table index s known known' own attrs codes header head levels bindings spaces strands o r m h e =
    let z = session_of head levels bindings spaces strands in
    let f = (found_few table index s known own attrs codes head levels bindings spaces strands o r m).0 in
    let n = owned_few table index s known own attrs codes head levels bindings spaces strands o r m in
    let k = classed_keys table s known known' own header z o.owned r.beside f n h e m.own_keys in
    with_classes table s own attrs codes known' z o
    (classed_beside table s known known' own header z o.owned r.beside f n h e)
    (classed_own table s known known' own header z o.owned r.beside f n h e)
    (record { told = m.told; own_keys = k; found_within = m.found_within; codes_within = m.codes_within; plain_names = m.plain_names; plain_codes = m.plain_codes })

-- where the tag has no declarations
pub unclassed : (table index s known known' own attrs codes : List ℕ) (z : Session) (o : Started) → LoopReady table index s known z → Met s z.scope.bindings own attrs codes known z.scope.bound o
    → o.owned ≡ 0 → known' ≡ known → Classed table s own attrs codes known' z o
unclassed table index s known known' own attrs codes z o r m n e =
    subst (λ (x : List ℕ). Classed table s own attrs codes x z o) (sym e)
    (with_classes table s own attrs codes known z o r.beside (λ k l. absurd (omega (arith, n))) m)

-- ---- what is answered
abbrev pub Answered : List ℕ → List ℕ → List ℕ → Session → List ℕ → List ℕ → List ℕ → List ℕ → List ℕ → Result Planned Refusal → Plan → Type 0
Answered table index s z own words schemas attributes known r p =
    PlannedAs table index s z own words schemas attributes r p × Beside table s known z × Beside table s known (session_by p z)

pub refused_planned : (table s known : List ℕ) (z : Session) (n at : ℕ) (p : Plan) → Beside table s known z → p ≡ refused n at → (n ≡ 0 → ⊥)
    → ((p ≡ refused n at) × (n ≡ 0 → ⊥)) × Beside table s known z × Beside table s known (session_by p z)
refused_planned table s known z n at p b e h = ((e, h), b, subst (λ (x : Plan). Beside table s known (session_by x z)) (sym e) b)

-- by what was decided
pub by_result : (table s : List ℕ) (z : Session) (σ : Element) (r q : Result Decided Refusal) (words schemas attributes : List ℕ) → r ≡ q
    → DecidedAs (decode table) s z σ r words schemas (attributes_in attributes) (sections_in attributes) → DecidedAs (decode table) s z σ q words schemas (attributes_in attributes) (sections_in attributes)
by_result table s z σ r q words schemas attributes e d = subst (λ (x : Result Decided Refusal). DecidedAs (decode table) s z σ x words schemas (attributes_in attributes) (sections_in attributes)) e d

module _ (table s own attrs codes known : List ℕ) (z : Session) (o : Started) (k : Classed table s own attrs codes known z o) (shallow : z.scope.depth < 64) (few : z.scope.bound + o.owned ≤ 64) where
  abbrev e : Start
  e = start_of s z.scope.bindings own attrs codes o.at o.tag o.found

  abbrev opens : Open
  opens = record { name = whole_span o.tag.name; declarations = declarations_of s (attrs_in attrs o.tag.count) }

  abbrev plan : Plan
  plan = start_plan (decode table) s z e opens.declarations o.tag.next

  pub decided_refused : (words schemas attributes : List ℕ) (x : Refusal)
      → DecidedAs (decode table) s z (element_of (decode table) s e) (Err x) words schemas (attributes_in attributes) (sections_in attributes)
      → ((plan ≡ refused x.number x.place) × (x.number ≡ 0 → ⊥)) × Beside table s known z × Beside table s known (session_by plan z)
  unfolding element_of
  decided_refused words schemas attributes x d =
      let number : x.number ≡ decided_number (decode table) s z (element_of (decode table) s e) = ap (λ (y : Refusal). y.number) d.0 in
      let place : x.place ≡ o.at = ap (λ (y : Refusal). y.place) d.0 in
      refused_planned table s known z x.number x.place plan k.beside
      (plan_refused (decode table) s z e opens o.tag.next shallow (omega (arith, few, k.met.told.owned_is)) x.number number d.1 ∙ ap (refused x.number) (sym place)) d.1

  pub decided_start : (index words schemas attributes : List ℕ) (placing : Placing) (decided : Decided) → TurnReady table (header_of table) index s z
      → placing ≡ placing_of (space_of (decode table) s (stored_space own z.scope.bindings o.found))
      → DecidedAs (decode table) s z (element_of (decode table) s e) (Ok decided) words schemas (attributes_in attributes) (sections_in attributes)
      → Answered table index s z own words schemas attributes known (Ok (planned.Start o placing decided)) plan
  decided_start index words schemas attributes placing decided ready w d = (
    record {
      attrs = attrs;
      codes = codes;
      ds = opens.declarations;
      plan_is = refl;
      told = k.met.told;
      placing_is = w;
      as_decided = d;
      shallow = shallow;
      few_bound = few;
      openable = made_openable table (header_of table) index s z ready e decided words schemas (attributes_in attributes) (sections_in attributes) d.1 o.at refl k.met.told.at_inside;
    },
    k.beside,
    k.kept e o.tag.next,
  )

-- by what reading the tag came to
pub start_met : (table index s : List ℕ) (z : Session) (at : ℕ) (x : Tagged) (own attrs codes known : List ℕ) (r : Result Started Refusal) → TurnReady table (header_of table) index s z → ReadAs table s z at x own attrs codes known r
    → (o : Started) → r ≡ Ok o → LoopReady table index s known z × Met s z.scope.bindings own attrs codes known z.scope.bound o
start_met table index s z at x own attrs codes known r t h o q = (record { ready = t; beside = h.beside }, subst (ReadMet s z own attrs codes known) q h.met)

module _ (table s : List ℕ) (z : Session) (at : ℕ) (x : Tagged) (own attrs codes known : List ℕ) (r : Result Started Refusal) (h : ReadAs table s z at x own attrs codes known r) where
  abbrev read_by : Plan
  read_by = plan_by (decode table) s z (start_read s at (opens_of z.scope) (tag_at s (at + 1)) x)

  pub start_read_lem : (index words schemas attributes known' : List ℕ) (o : Started) → r ≡ Ok o → (a : Result Planned Refusal)
      → Answered table index s z own words schemas attributes known' a (read_plan (decode table) s z own attrs codes (Ok o)) → Answered table index s z own words schemas attributes known' a read_by
  start_read_lem index words schemas attributes known' o q a w =
      subst (Answered table index s z own words schemas attributes known' a) (sym (h.plan_is ∙ ap (read_plan (decode table) s z own attrs codes) q)) w

  pub refused_read : (x : Refusal) → r ≡ Err x → ((read_by ≡ refused x.number x.place) × (x.number ≡ 0 → ⊥)) × Beside table s known z × Beside table s known (session_by read_by z)
  refused_read x q = refused_planned table s known z x.number x.place read_by h.beside (h.plan_is ∙ ap (read_plan (decode table) s z own attrs codes) q) (subst (ReadMet s z own attrs codes known) q h.met)

-- ---- the start of step, advance and run
pub from_loop : (table : List ℕ) (header : Header) (index s : List ℕ) (head : Head) (levels bindings : List ℕ) → TurnReady table header index s (session_at head levels bindings) → length bindings ≡ 256
    → (known known' : List ℕ) → known ≡ overwrite (replicate 160 0) 0 (keys_in s bindings head.bound) → known' ≡ overwrite known (80 + 0) (classes_in (table_of table header) s bindings head.bound)
    → LoopReady table index s known' (session_at head levels bindings)
from_loop table header index s head levels bindings r long known known' p q =
    let n = few_bound table header index s head (level_names levels) bindings (level_spaces levels) (level_strands levels) r in
    let l₀ : length {A = ℕ} (replicate 160 0) ≡ 160 = length-replicate {A = ℕ} 160 0 in
    let k = keys_many s bindings head.bound in
    let l₁ : length known ≡ 160 = ap length p ∙ length_over (replicate 160 0) 0 (keys_in s bindings head.bound) (omega arith) ∙ l₀ in
    let m = classes_long (table_of table header) s bindings head.bound in
    let keys₁ = keys_laid s bindings head.bound 0 (replicate 160 0) known (omega arith) p in
    record {
      ready = record { accepted = r.accepted; header_is = refl; index_is = r.index_is ∙ ap (index_of table) r.header_is; short = r.short; coherent' = r.coherent' };
      beside =
          record {
            known_long = ap length q ∙ length_over known (80 + 0) (classes_in (table_of table header) s bindings head.bound) (omega arith) ∙ l₁;
            bindings_long = long;
            keys = keys_kept s bindings head.bound 0 known known' (80 + 0) (classes_in (table_of table header) s bindings head.bound) (omega arith) (inl (omega arith)) q keys₁;
            classes =
                subst (λ (x : Header). ClassesAt (table_of table x) s bindings head.bound 0 known') r.header_is
                (classes_laid (table_of table header) s bindings known 0 known' head.bound q (omega arith));
          };
    }
