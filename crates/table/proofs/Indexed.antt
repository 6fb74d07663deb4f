-- What the index finds is `rules_of`.
--     chosen_rules, chosen_says     the rules of the chosen key in the chosen window are those of (mode, kind, class)
--     next_those, next_here, ..     a loop over them: from one to the next
--     index_length, word_is         the index's length, and its rule words
use Prim.Native.Nat.{ℕ, zero, suc, ◌+◌, ◌-◌, ◌*◌, ◌≤◌, ◌<◌}
use mathlib.Core.Path.{◌≡◌, refl, sym, ap, ◌∙◌, subst}
use mathlib.Core.List.{List, [], ◌∷◌, ◌++◌, map, append-nil}
use mathlib.Core.Bool.{Bool, true, false, cond}
use mathlib.Core.Logic.{◌⊎◌, inl, inr, ⊎_elim}
use native.Mathlib.Numerals.{add-one}
use native.Mathlib.Omega.{arith}
use borrow.Author.Tests.{lt-ltb, ltb-true, ltb-false, eqb-true, eqb-false, eq-eqb, ne_eqb, le-leb}
use lib.ListN.{length, get_or, set, take, drop, replicate, length-set, length-append, get_or-replicate, take-append-drop, drop_of_length-le}
use lib.Seq.{slice, slice_empty, length-take-le, take-append-le, drop-append-le, take-take, take_all, take-set-le, take-suc-set, get_or-set_same, get_or-set_other, append_snoc}
use lib.Dec.{eqb, ltb}
use Rattle.laws.specs.Lists.{any, keep, tabulate}
use Rattle.laws.specs.Reading.{le_or_lt, slice_here}
use Rattle.laws.proofs.Flags.{flag_same}
use Rattle.laws.proofs.Lists.{length_tabulate, keep_same, keep_none, keep_append, keep_map, any_append, any_stronger}
use Rattle.table.specs.Table.{word_at, words_of, rule_of, all_rules, names_class, or_else, rules_of, any_class as any_class}
use Rattle.table.specs.Index.{key_of, bucket_of, bucket, indexed, index_from, up_to, index_of, next_from, next_rule, word_in, first_of, end_of, chosen_of}
use Rattle.table.specs.declared.Header.{Header}
use Rattle.table.specs.declared.Rule.{Rule}
use Rattle.table.specs.declared.Chosen.{Chosen}
use Rattle.table.proofs.Scan.{up_to_few}
use Rattle.table.proofs.Rules.{written_says, says_written}

abbrev pub has_key : ℕ → ℕ → Bool
has_key key w = eqb (key_of w) key

abbrev in_bucket : ℕ → ℕ → Bool
in_bucket b w = eqb (bucket_of w) b

-- ---- the window of a bucket: no rule of the bucket stands outside it
record Window (ws : List ℕ) (b first end : ℕ) : Type 0 where
  ordered : first ≤ end
  inside : end ≤ length ws
  before : any (in_bucket b) (take first ws) ≡ false
  behind : any (in_bucket b) (drop end ws) ≡ false

module _ (ws : List ℕ) (w b first end : ℕ) (v : Window ws b first end) where
  longer : length (ws ++ (w ∷ [])) ≡ length ws + 1
  longer = length-append ws (w ∷ [])

  window_other : (bucket_of w ≡ b → ⊥) → Window (ws ++ (w ∷ [])) b first end
  unfolding any
  window_other n =
      let o = v.ordered in
      let i = v.inside in
      record {
        ordered = o;
        inside = omega (arith, longer);
        before = ap (any (in_bucket b)) (take-append-le first ws (w ∷ []) (omega arith)) ∙ v.before;
        behind =
            ap (any (in_bucket b)) (drop-append-le end ws (w ∷ []) i)
            ∙ any_append (in_bucket b) (drop end ws) (w ∷ [])
            ∙ simp (v.behind, ne_eqb (bucket_of w) b n);
      }

  window_own : Window (ws ++ (w ∷ [])) b (cond (eqb end 0) (length ws) first) (length ws + 1)
  unfolding any
  window_own = by (eqb end 0) refl
    where
      nothing : any (in_bucket b) (drop (length ws + 1) (ws ++ (w ∷ []))) ≡ false
      nothing = ap (any (in_bucket b)) (drop_of_length-le (ws ++ (w ∷ [])) {i = length ws + 1} (omega (arith, longer)))

      by : (z : Bool) → z ≡ eqb end 0 → Window (ws ++ (w ∷ [])) b (cond z (length ws) first) (length ws + 1)
      by true e =
          let d : end ≡ 0 = eqb-true end 0 (sym e) in
          record {
            ordered = omega arith;
            inside = omega (arith, longer);
            before = ap (any (in_bucket b)) (take-append-le (length ws) ws (w ∷ []) (omega arith) ∙ take_all (length ws) ws (omega arith)) ∙ ap (λ (k : ℕ). any (in_bucket b) (drop k ws)) (sym d) ∙ v.behind;
            behind = nothing;
          }
      by false e =
          let o = v.ordered in
          let i = v.inside in
          record {
            ordered = omega arith;
            inside = omega (arith, longer);
            before = ap (any (in_bucket b)) (take-append-le first ws (w ∷ []) (omega arith)) ∙ v.before;
            behind = nothing;
          }

-- ---- the index of some rules
record Indexed (ws l : List ℕ) : Type 0 where
  size : length l ≡ 256
  words : take (length ws) l ≡ ws
  windows : (b : ℕ) → b < 64 → Window ws b (get_or l (128 + b) 0) (get_or l (192 + b) 0)

indexed_none : Indexed [] (replicate 256 0)
unfolding any
indexed_none = record { size = refl; words = refl; windows = windows }
  where
    windows : (b : ℕ) → b < 64 → Window [] b (get_or (replicate 256 0) (128 + b) 0) (get_or (replicate 256 0) (192 + b) 0)
    windows b h =
        rw (get_or-replicate {A = ℕ} 256 (128 + b) 0 0 (omega arith), get_or-replicate {A = ℕ} 256 (192 + b) 0 0 (omega arith))
        (record { ordered = omega arith; inside = omega arith; before = refl; behind = refl })

module _ (ws l : List ℕ) (w : ℕ) (few : length ws < 128) (v : Indexed ws l) where
  abbrev β : ℕ
  β = bucket_of w

  abbrev first : ℕ
  first = cond (eqb (get_or l (192 + β) 0) 0) (length ws) (get_or l (128 + β) 0)

  abbrev l₁ : List ℕ
  l₁ = set l (length ws) w

  abbrev l₂ : List ℕ
  l₂ = set l₁ (128 + β) first

  small : β < 64
  small = omega arith

  size₁ : length l₁ ≡ 256
  size₁ = length-set l (length ws) w ∙ v.size

  size₂ : length l₂ ≡ 256
  size₂ = length-set l₁ (128 + β) first ∙ size₁

  indexed_words : take (length (ws ++ (w ∷ []))) (indexed l (length ws) w) ≡ ws ++ (w ∷ [])
  indexed_words =
      ap (λ (k : ℕ). take k (indexed l (length ws) w)) (length-append ws (w ∷ []) ∙ add-one (length ws))
      ∙ take-set-le (suc (length ws)) l₂ (192 + β) (length ws + 1) (omega arith)
      ∙ take-set-le (suc (length ws)) l₁ (128 + β) first (omega arith)
      ∙ take-suc-set l (length ws) w (omega (arith, v.size))
      ∙ ap (λ (k : List ℕ). k ++ (w ∷ [])) v.words

  -- the other buckets' places, and this bucket's
  kept : (j : ℕ) → 128 ≤ j → (j ≡ 128 + β → ⊥) → (j ≡ 192 + β → ⊥) → get_or (indexed l (length ws) w) j 0 ≡ get_or l j 0
  kept j h n m =
      get_or-set_other l₂ (192 + β) j (length ws + 1) 0 m
      ∙ get_or-set_other l₁ (128 + β) j first 0 n
      ∙ get_or-set_other l (length ws) j w 0 (λ e. omega arith)

  new_first : get_or (indexed l (length ws) w) (128 + β) 0 ≡ first
  new_first =
      get_or-set_other l₂ (192 + β) (128 + β) (length ws + 1) 0 (λ e. omega arith)
      ∙ get_or-set_same l₁ (128 + β) first 0 (omega (arith, size₁, small))

  new_end : get_or (indexed l (length ws) w) (192 + β) 0 ≡ length ws + 1
  new_end = get_or-set_same l₂ (192 + β) (length ws + 1) 0 (omega (arith, size₂, small))

  indexed_window : (b : ℕ) → b < 64 → Window (ws ++ (w ∷ [])) b (get_or (indexed l (length ws) w) (128 + b) 0) (get_or (indexed l (length ws) w) (192 + b) 0)
  indexed_window b h = by (eqb β b) refl
    where
      by : (z : Bool) → z ≡ eqb β b → Window (ws ++ (w ∷ [])) b (get_or (indexed l (length ws) w) (128 + b) 0) (get_or (indexed l (length ws) w) (192 + b) 0)
      by true e =
          subst (λ (x : ℕ). Window (ws ++ (w ∷ [])) x (get_or (indexed l (length ws) w) (128 + x) 0) (get_or (indexed l (length ws) w) (192 + x) 0)) (eqb-true β b (sym e))
          (rw (new_first, new_end) (window_own ws w β (get_or l (128 + β) 0) (get_or l (192 + β) 0) (v.windows β small)))
      by false e =
          let n : β ≡ b → ⊥ = eqb-false β b (sym e) in
          rw (kept (128 + b) (omega arith) (λ d. n (omega arith)) (λ d. omega (arith, small)), kept (192 + b) (omega arith) (λ d. omega (arith, small)) (λ d. n (omega arith)))
          (window_other ws w b (get_or l (128 + b) 0) (get_or l (192 + b) 0) (v.windows b h) n)

  indexed_more : Indexed (ws ++ (w ∷ [])) (indexed l (length ws) w)
  indexed_more = record { size = length-set l₂ (192 + β) (length ws + 1) ∙ size₂; words = indexed_words; windows = indexed_window }

indexed_all : (ws done l : List ℕ) → length done + length ws ≤ 128 → Indexed done l → Indexed (done ++ ws) (index_from ws (length done) l)
unfolding index_from
indexed_all [] done l h v = rw (append-nil done) v
indexed_all (w ∷ ws) done l h v =
    let e : length (done ++ (w ∷ [])) ≡ length done + 1 = length-append done (w ∷ []) in
    subst (λ (k : ℕ). Indexed (done ++ (w ∷ ws)) (index_from ws k (indexed l (length done) w))) e
    (rw (← append_snoc done w ws) (indexed_all ws (done ++ (w ∷ [])) (indexed l (length done) w) (omega (arith, e)) (indexed_more done l w (omega arith) v)))

index_all : (t : List ℕ) (h : Header) → Indexed (tabulate (word_at t) 0 (up_to h.rules)) (index_of t h)
unfolding index_of
index_all t h =
    indexed_all (tabulate (word_at t) 0 (up_to h.rules)) [] (replicate 256 0) (omega (arith, length_tabulate (word_at t) 0 (up_to h.rules), up_to_few h.rules)) indexed_none

index_of_lem : (t : List ℕ) (h : Header) → h.rules ≤ 128 → Indexed (words_of t h) (index_of t h)
index_of_lem t h k = rw (le-leb h.rules 128 k) at (index_all t h)

pub index_length : (t : List ℕ) (h : Header) → length (index_of t h) ≡ 256
index_length t h = (index_all t h).size

-- what `word_in` reads there
pub word_is : (l : List ℕ) (i : ℕ) → i < 128 → word_in l i ≡ get_or l i 0
word_is l i h = rw (lt-ltb i 128 h)

-- ---- the next rule with a key
module _ (l : List ℕ) (end key : ℕ) where
  -- those from i on and before end
  abbrev pub those : ℕ → List ℕ
  those i = keep (has_key key) (slice i end l)

  -- j is the first from i on
  pub record Found (i j : ℕ) : Type 0 where
    pub from_on : i ≤ j
    pub below : j < end
    pub has_key_lem : has_key key (get_or l j 0) ≡ true
    pub and_others : those i ≡ get_or l j 0 ∷ those (j + 1)

  abbrev Next : ℕ → ℕ → Type 0
  Next i j = Found i j ⊎ ((j ≡ end) × (those i ≡ []))

  module _ (fits : end ≤ length l) where
    next_from_lem : (n i : ℕ) → i + n ≡ end → Next i (next_from l end key i n)
    unfolding next_from keep
    next_from_lem zero i e =
        let d : i ≡ end = omega arith in
        inr (refl, ap those d ∙ ap (keep (has_key key)) (slice_empty end l))
    next_from_lem (suc n) i e = by (has_key key (get_or l i 0)) refl (next_from_lem n (i + 1) (omega arith))
      where
        here : slice i end l ≡ get_or l i 0 ∷ slice (i + 1) end l
        here = slice_here i end l (omega arith) fits

        by : (b : Bool) → b ≡ has_key key (get_or l i 0) → Next (i + 1) (next_from l end key (i + 1) n) → Next i (cond b i (next_from l end key (i + 1) n))
        by true q ih = inl (record { from_on = omega arith; below = omega arith; has_key_lem = sym q; and_others = ap (keep (has_key key)) here ∙ simp (← q) })
        by false q (inl f) = inl (record { from_on = omega (arith, f.from_on); below = f.below; has_key_lem = f.has_key_lem; and_others = ap (keep (has_key key)) here ∙ (simp (← q)) ∙ f.and_others })
        by false q (inr r) = inr (r.0, ap (keep (has_key key)) here ∙ (simp (← q)) ∙ r.1)

    pub those_none : (i : ℕ) → end ≤ i → those i ≡ []
    unfolding keep
    those_none i h = ap (keep (has_key key)) (drop_of_length-le (take end l) {i = i} (omega (arith, length-take-le end l fits)))

    module _ (few : end ≤ 128) (from : ℕ) where
      abbrev next : ℕ
      next = next_rule l from end key

      next_rule_lem : Next from next
      unfolding next_rule next_from
      next_rule_lem = rw (le-leb end 128 few) (⊎_elim past inside (le_or_lt end from))
        where
          past : end ≤ from → Next from (next_from l end key from (end - from))
          past k = let z : end - from ≡ 0 = omega arith in rw z (inr (refl, those_none from k))

          inside : from < end → Next from (next_from l end key from (end - from))
          inside k = next_from_lem (end - from) from (omega arith)

      pub next_few : next_rule l from end key ≤ end
      next_few = ⊎_elim (λ f. omega (arith, f.below)) (λ r. omega (arith, r.0)) next_rule_lem

      -- there is one, or there is none
      pub next_found : next_rule l from end key < end → Found from (next_rule l from end key)
      next_found h = ⊎_elim (λ f. f) (λ r. absurd (omega (arith, r.0))) next_rule_lem

      pub next_none : end ≤ next_rule l from end key → those from ≡ []
      next_none h = ⊎_elim (λ f. absurd (omega (arith, f.below))) (λ r. r.1) next_rule_lem

      -- those from it on are those from `from` on
      pub next_those : those (next_rule l from end key) ≡ those from
      unfolding keep
      next_those = ⊎_elim there none next_rule_lem
        where
          there : Found from next → those next ≡ those from
          there f = ap (keep (has_key key)) (slice_here next end l f.below fits) ∙ (simp f.has_key_lem) ∙ sym f.and_others

          none : (next ≡ end) × (those from ≡ []) → those next ≡ those from
          none r = those_none next (omega (arith, r.0)) ∙ sym r.1

      -- a turn of a loop that stands at it
      pub next_here : next_rule l from end key < end → those (next_rule l from end key) ≡ get_or l (next_rule l from end key) 0 ∷ those (next_rule l from end key + 1)
      next_here h = next_those ∙ (next_found h).and_others

-- ---- no rule of a key stands outside its bucket's window
module _ (ws l : List ℕ) (v : Indexed ws l) (few : length ws ≤ 128) (b key : ℕ) (h : b < 64) (s : (w : ℕ) → has_key key w ≡ true → in_bucket b w ≡ true) where
  abbrev of_key : ℕ → Bool
  of_key = has_key key

  abbrev start : ℕ
  start = get_or l (128 + b) 0

  abbrev stop : ℕ
  stop = get_or l (192 + b) 0

  window : Window ws b start stop
  window = v.windows b h

  none_there : (part : List ℕ) → any (in_bucket b) part ≡ false → keep of_key part ≡ []
  none_there part k = keep_none of_key part (any_stronger of_key (in_bucket b) s part k)

  in_words : take stop l ≡ take stop ws
  in_words = sym (take-take stop (length ws) l window.inside) ∙ ap (take stop) v.words

  to_end : keep of_key (take stop ws) ≡ keep of_key ws
  to_end =
      sym (ap (λ (k : List ℕ). keep of_key (take stop ws) ++ k) (none_there (drop stop ws) window.behind) ∙ append-nil (keep of_key (take stop ws)))
      ∙ sym (keep_append of_key (take stop ws) (drop stop ws))
      ∙ ap (keep of_key) (take-append-drop stop ws)

  from_first : keep of_key (drop start (take stop ws)) ≡ keep of_key (take stop ws)
  from_first =
      ap (λ (k : List ℕ). k ++ keep of_key (drop start (take stop ws))) (sym (none_there (take start (take stop ws)) (ap (any (in_bucket b)) (take-take start stop ws window.ordered) ∙ window.before)))
      ∙ sym (keep_append of_key (take start (take stop ws)) (drop start (take stop ws)))
      ∙ ap (keep of_key) (take-append-drop start (take stop ws))

  end_is : end_of l b ≡ stop
  end_is = rw (le-leb stop 128 (omega (arith, window.inside)))

  in_window : keep of_key (slice (first_of l b) (end_of l b) l) ≡ keep of_key ws
  in_window = ap (λ (k : ℕ). keep of_key (slice start k l)) end_is ∙ ap (λ (k : List ℕ). keep of_key (drop start k)) in_words ∙ from_first ∙ to_end

-- ---- the key of a mode, kind and class
module _ (mode kind class : ℕ) (hm : mode < 32) (hk : kind < 2) (hc : class < 256) where
  key_bucket : (w : ℕ) → has_key (bucket mode kind * 256 + class) w ≡ true → in_bucket (bucket mode kind) w ≡ true
  key_bucket w e = eq-eqb (bucket_of w) (bucket mode kind) (omega (arith, eqb-true (key_of w) (bucket mode kind * 256 + class) e))

  written_key : (w : ℕ) → names_class mode kind class (rule_of w) ≡ has_key (bucket mode kind * 256 + class) w
  written_key w = flag_same (names_class mode kind class (rule_of w)) (has_key (bucket mode kind * 256 + class) w) there back
    where
      there : names_class mode kind class (rule_of w) ≡ true → has_key (bucket mode kind * 256 + class) w ≡ true
      there e =
          let a = written_says mode kind class (rule_of w) e in
          eq-eqb (key_of w) (bucket mode kind * 256 + class) (omega (arith, a.mode_is, a.kind_is, a.class_is))

      back : has_key (bucket mode kind * 256 + class) w ≡ true → names_class mode kind class (rule_of w) ≡ true
      back e =
          let d = eqb-true (key_of w) (bucket mode kind * 256 + class) e in
          says_written mode kind class (rule_of w) (record { mode_is = omega arith; kind_is = omega arith; class_is = omega arith })

  bucket_few : bucket mode kind < 64
  bucket_few = omega arith

  kept_words : (ws : List ℕ) → keep (names_class mode kind class) (map rule_of ws) ≡ map rule_of (keep (has_key (bucket mode kind * 256 + class)) ws)
  kept_words ws =
      keep_map rule_of (names_class mode kind class) ws
      ∙ ap (map rule_of) (keep_same (λ (w : ℕ). names_class mode kind class (rule_of w)) (has_key (bucket mode kind * 256 + class)) written_key ws)

-- ---- what is chosen
module _ (l : List ℕ) (mode kind class : ℕ) where
  abbrev b : ℕ
  b = bucket mode kind

  -- its end, and that it is a next place: those of its key from it on begin with it
  pub chosen_says : ((chosen_of l mode kind class).end ≤ 128)
      × ((chosen_of l mode kind class).first ≡ next_rule l (first_of l (bucket mode kind)) (chosen_of l mode kind class).end (chosen_of l mode kind class).key)
  unfolding chosen_of
  chosen_says = by (ltb (next_rule l (first_of l b) (end_of l b) (b * 256 + class)) (end_of l b))
    where
      c : Bool → Chosen
      c z = cond z (record { key = b * 256 + class; first = next_rule l (first_of l b) (end_of l b) (b * 256 + class); end = end_of l b }) (record { key = b * 256 + 255; first = next_rule l (first_of l b) (end_of l b) (b * 256 + 255); end = end_of l b })

      by : (z : Bool) → ((c z).end ≤ 128) × ((c z).first ≡ next_rule l (first_of l b) (c z).end (c z).key)
      by true = (up_to_few (get_or l (192 + b) 0), refl)
      by false = (up_to_few (get_or l (192 + b) 0), refl)

module _ (t : List ℕ) (h : Header) (few : h.rules ≤ 128) (mode kind class : ℕ) (hm : mode < 32) (hk : kind < 2) (hc : class < 256) where
  abbrev l : List ℕ
  l = index_of t h

  abbrev ws : List ℕ
  ws = words_of t h

  abbrev low : ℕ
  low = first_of l (bucket mode kind)

  abbrev high : ℕ
  high = end_of l (bucket mode kind)

  end_few : high ≤ 128
  end_few = up_to_few (get_or l (192 + bucket mode kind) 0)

  end_fits : high ≤ length l
  end_fits = omega (arith, end_few, index_length t h)

  -- those of a key in the window are those of the table
  all_those : (k : ℕ) → k < 256 → those l high (bucket mode kind * 256 + k) low ≡ keep (has_key (bucket mode kind * 256 + k)) ws
  all_those k hk' =
      in_window ws l (index_of_lem t h few) (omega (arith, length_tabulate (word_at t) 0 h.rules)) (bucket mode kind) (bucket mode kind * 256 + k)
      (bucket_few mode kind k hm hk hk') (key_bucket mode kind k hm hk hk')

  next_rules : (k : ℕ) → k < 256
      → map rule_of (those l high (bucket mode kind * 256 + k) (next_rule l low high (bucket mode kind * 256 + k))) ≡ keep (names_class mode kind k) (map rule_of ws)
  next_rules k hk' =
      ap (map rule_of) (next_those l high (bucket mode kind * 256 + k) end_fits end_few low ∙ all_those k hk')
      ∙ sym (kept_words mode kind k hm hk hk' ws)

  -- where those that name the class are some, or none
  some_naming : (w : ℕ) (rest : List ℕ) → those l high (bucket mode kind * 256 + class) low ≡ w ∷ rest
      → keep (names_class mode kind class) (map rule_of ws) ≡ rules_of (all_rules t h) mode kind class
  unfolding rules_of
  some_naming w rest e =
      let d : keep (names_class mode kind class) (map rule_of ws) ≡ rule_of w ∷ map rule_of rest = kept_words mode kind class hm hk hc ws ∙ ap (map rule_of) (sym (all_those class hc) ∙ e) in
      d ∙ sym (ap (λ (rs : List Rule). or_else rs (keep (names_class mode kind any_class) (map rule_of ws))) d)

  no_naming : those l high (bucket mode kind * 256 + class) low ≡ [] → keep (names_class mode kind any_class) (map rule_of ws) ≡ rules_of (all_rules t h) mode kind class
  unfolding rules_of
  no_naming e =
      let d : keep (names_class mode kind class) (map rule_of ws) ≡ [] = kept_words mode kind class hm hk hc ws ∙ ap (map rule_of) (sym (all_those class hc) ∙ e) in
      sym (ap (λ (rs : List Rule). or_else rs (keep (names_class mode kind any_class) (map rule_of ws))) d)

  -- the rules of the chosen key in the chosen window
  pub chosen_rules : map rule_of
      (keep (has_key (chosen_of (index_of t h) mode kind class).key) (slice (chosen_of (index_of t h) mode kind class).first (chosen_of (index_of t h) mode kind class).end (index_of t h)))
      ≡ rules_of (all_rules t h) mode kind class
  unfolding chosen_of
  chosen_rules = by (ltb naming high) refl
    where
      naming : ℕ
      naming = next_rule l low high (bucket mode kind * 256 + class)

      c : Bool → Chosen
      c z = cond z (record { key = bucket mode kind * 256 + class; first = naming; end = high }) (record { key = bucket mode kind * 256 + 255; first = next_rule l low high (bucket mode kind * 256 + 255); end = high })

      by : (z : Bool) → z ≡ ltb naming high → map rule_of (keep (has_key (c z).key) (slice (c z).first (c z).end l)) ≡ rules_of (all_rules t h) mode kind class
      by true e =
          next_rules class hc
          ∙ some_naming (get_or l naming 0) (those l high (bucket mode kind * 256 + class) (naming + 1))
          (next_found l high (bucket mode kind * 256 + class) end_fits end_few low (ltb-true naming high (sym e))).and_others
      by false e =
          next_rules 255 (omega arith)
          ∙ no_naming (next_none l high (bucket mode kind * 256 + class) end_fits end_few low (ltb-false naming high (sym e)))
