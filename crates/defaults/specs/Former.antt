-- N3: "An accepted table keeps its former results once given, for each mode and kind that lacks an any rule, one with unwrap, next mode its own, if 128
-- rules suffice." The table with these rules, in bytes; when they suffice; where its URIs stand; when every strand meets a rule. Definitions.
use Rattle.std.specs.Prelude.{ℕ, ◌+◌, ◌*◌, ◌/◌, ◌%◌, ◌^◌, ◌≤◌, ◌<◌, ◌≡◌, List, [], ◌∷◌, ◌++◌, map, cond, length, take, drop}
use Rattle.laws.specs.Lists.{any, keep, tabulate}
use Rattle.laws.specs.Gather.{gather}
use Rattle.table.specs.Table.{Table, header_of, uris_of, any_class, names_class, rules_of, all_rules}
use Rattle.table.specs.declared.Rule.{Rule}
use Rattle.uris.specs.Uris.{stands, slice_of}
use Rattle.uris.specs.declared.UriSpan.{UriSpan}
use Rattle.reader.specs.Events.{events}
use Rattle.model.specs.Theory.{Record}
use Rattle.model.specs.Tree.{tree_of}
use Rattle.model.specs.Model.{model_of, cut_model}
use Rattle.model.specs.Records.{Body}
use Rattle.model.specs.Dispatch.{dispatch, told}

-- "mode 5, kind 1, class 8, action 2, schema 8, next mode 5, three zero bits": any, unwrap, no schema, "next mode its own"
abbrev pub unwrap_any : ℕ → ℕ → ℕ
unwrap_any mode kind = mode * 2 ^ 27 + kind * 2 ^ 26 + 255 * 2 ^ 18 + 1 * 2 ^ 16 + 0 * 2 ^ 8 + mode * 2 ^ 3

-- "for each mode and kind that lacks an any rule, one": "no rule of t has class 255, whatever its action"
abbrev pub lacked_by : List Rule → ℕ → ℕ → List ℕ
lacked_by rules mode kind = cond (any (names_class mode kind any_class) rules) [] (unwrap_any mode kind ∷ [])

-- "For each mode below M and each kind 0, 1": the rule words that are added
unfoldable pub added_words : List ℕ → List ℕ
added_words t =
    let rules = all_rules t (header_of t) in
    gather (λ (mode : ℕ). lacked_by rules mode 0 ++ lacked_by rules mode 1) (tabulate (λ (mode : ℕ). mode) 0 (header_of t).modes)

-- "Bit-packed, most significant bit first": a number in four bytes
abbrev pub word_bytes : ℕ → List ℕ
word_bytes w = w / 2 ^ 24 % 2 ^ 8 ∷ w / 2 ^ 16 % 2 ^ 8 ∷ w / 2 ^ 8 % 2 ^ 8 ∷ w % 2 ^ 8 ∷ []

-- "R raised by as many"
abbrev pub raised_count : List ℕ → ℕ
raised_count t = (header_of t).rules + length (added_words t)

-- "if 128 rules suffice"
abbrev pub Suffices : List ℕ → Type 0
Suffices t = raised_count t ≤ 128

-- the rules stand behind the table's own
unfoldable pub with_any : List ℕ → List ℕ
with_any t =
    take 3 t
    ++ (raised_count t ∷ [])
    ++ take (4 * (header_of t).rules) (drop 4 t)
    ++ gather word_bytes (added_words t)
    ++ drop (4 + 4 * (header_of t).rules) t

-- "their place among the rules is of no account": two tables with the same modes and URIs, and for each mode, kind and class the same rules, in their
-- order, whatever stands between them
pub record SameRules (u t : List ℕ) : Type 0 where
  pub modes : (header_of u).modes ≡ (header_of t).modes
  pub uris : uris_of u (header_of u) ≡ uris_of t (header_of t)
  pub rules : (mode kind class : ℕ) → keep (names_class mode kind class) (all_rules u (header_of u)) ≡ keep (names_class mode kind class) (all_rules t (header_of t))

-- "a listed URI stands 4 bytes further on for each rule added": n bytes further on in the table; a part of the scene stands where it stood
abbrev pub later : ℕ → UriSpan → UriSpan
later n w = stands w.source (slice_of (w.at + n) w.at w.source) w.len

-- every strand meets a rule everywhere: in each mode, of each kind, for every class
abbrev pub Meets : List ℕ → Type 0
Meets t = (mode kind class : ℕ) → mode < (header_of t).modes → kind < 2 → rules_of (all_rules t (header_of t)) mode kind class ≡ [] → ⊥

-- "the model's list": of a scene's events, and of the first so many, the tree closed behind them
abbrev pub model_list : Table → List ℕ → List (List (Record Body ℕ))
model_list t s = model_of (dispatch t) (tree_of (dispatch t) (map (told t s) (events s)))

abbrev pub cut_list : Table → List ℕ → ℕ → List (List (Record Body ℕ))
cut_list t s k = cut_model (dispatch t) (map (told t s) (take k (events s)))
