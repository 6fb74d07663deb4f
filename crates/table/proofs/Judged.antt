-- `judged` by the tests one after the other: the ways of `judge`.
use Prim.Native.Nat.{ℕ, ◌≤◌, ◌<◌}
use mathlib.Core.Path.{◌≡◌, sym, ap, ◌∙◌}
use mathlib.Core.List.{List}
use mathlib.Core.Bool.{Bool, true, false, cond, not, ◌&&◌, ◌||◌}
use borrow.Author.Tests.{lt-ltb, le-ltb, leb-true}
use lib.ListN.{length}
use lib.Dec.{leb}
use Rattle.laws.specs.Lists.{any, all, any_pair}
use Rattle.laws.proofs.Flags.{and_left}
use Rattle.table.specs.Table.{header_of, words_of, uris_of}
use Rattle.table.specs.Judge.{said, judged, header_fits, length_fits, word_fits, is_empty, rules_clash, uris_clash}
use Rattle.table.specs.declared.Answer.{Answer}
use Rattle.table.specs.declared.Header.{Header}

pub few_namespaces : (h : Header) (b : Bool) → b ≡ header_fits h → b ≡ true → h.namespaces ≤ 30
few_namespaces h b e k =
    leb-true h.namespaces 30 (and_left (leb h.namespaces 30) (leb 1 h.modes && (leb h.modes 32 && (leb h.schemas 64 && leb h.rules 128))) (sym e ∙ k))

-- 11 behind the length, and 12
abbrev pub bad_field : List ℕ → Header → Bool
bad_field t h = not (all (word_fits h) (words_of t h)) || any is_empty (uris_of t h)

abbrev pub bad_pair : List ℕ → Header → Bool
bad_pair t h = any_pair rules_clash (words_of t h) || uris_clash (uris_of t h)

-- a table of four bytes or more, by the other tests
abbrev pub verdict : ℕ → Bool → Bool → Bool → Bool → Answer
verdict n header length field clash = cond (not header) (said 11 0) (cond (not length) (said 10 0) (cond field (said 11 0) (cond clash (said 12 0) (said 0 n))))

module _ (t : List ℕ) where
  pub by_tests : 4 ≤ length t → (h : Header) → h ≡ header_of t
      → judged t ≡ verdict (length t) (header_fits h) (length_fits t h) (bad_field t h) (bad_pair t h)
  unfolding judged
  by_tests l h e = rw (le-ltb (length t) 4 l) (ap (λ (g : Header). verdict (length t) (header_fits g) (length_fits t g) (bad_field t g) (bad_pair t g)) (sym e))

  pub short : length t < 4 → said 10 0 ≡ judged t
  unfolding judged
  short l = sym (rw (lt-ltb (length t) 4 l))

  module _ (l : 4 ≤ length t) (h : Header) (e : h ≡ header_of t) (hf : Bool) (fh : hf ≡ header_fits h) where
    header_known : judged t ≡ verdict (length t) hf (length_fits t h) (bad_field t h) (bad_pair t h)
    header_known = by_tests l h e ∙ ap (λ (b : Bool). verdict (length t) b (length_fits t h) (bad_field t h) (bad_pair t h)) (sym fh)

    pub bad_header : hf ≡ false → said 11 0 ≡ judged t
    bad_header k = sym (header_known ∙ rw k)

    module _ (kh : hf ≡ true) (lf : Bool) (fl : lf ≡ length_fits t h) where
      length_known : judged t ≡ verdict (length t) hf lf (bad_field t h) (bad_pair t h)
      length_known = header_known ∙ ap (λ (b : Bool). verdict (length t) hf b (bad_field t h) (bad_pair t h)) (sym fl)

      pub bad_length : lf ≡ false → said 10 0 ≡ judged t
      bad_length k = sym (length_known ∙ rw (kh, k))

      module _ (kl : lf ≡ true) (wf : Bool) (fw : wf ≡ all (word_fits h) (words_of t h)) where
        words_known : judged t ≡ verdict (length t) hf lf (not wf || any is_empty (uris_of t h)) (bad_pair t h)
        words_known = length_known ∙ ap (λ (b : Bool). verdict (length t) hf lf (not b || any is_empty (uris_of t h)) (bad_pair t h)) (sym fw)

        pub bad_word : wf ≡ false → said 11 0 ≡ judged t
        bad_word k = sym (words_known ∙ rw (kh, kl, k))

        module _ (kw : wf ≡ true) (em : Bool) (fe : em ≡ any is_empty (uris_of t h)) where
          fields_known : judged t ≡ verdict (length t) hf lf (not wf || em) (bad_pair t h)
          fields_known = words_known ∙ ap (λ (b : Bool). verdict (length t) hf lf (not wf || b) (bad_pair t h)) (sym fe)

          pub bad_empty : em ≡ true → said 11 0 ≡ judged t
          bad_empty k = sym (fields_known ∙ rw (kh, kl, kw, k))

          module _ (ke : em ≡ false) (rc : Bool) (fr : rc ≡ any_pair rules_clash (words_of t h)) where
            rules_known : judged t ≡ verdict (length t) hf lf (not wf || em) (rc || uris_clash (uris_of t h))
            rules_known = fields_known ∙ ap (λ (b : Bool). verdict (length t) hf lf (not wf || em) (b || uris_clash (uris_of t h))) (sym fr)

            pub bad_rules : rc ≡ true → said 12 0 ≡ judged t
            bad_rules k = sym (rules_known ∙ rw (kh, kl, kw, ke, k))

            module _ (kr : rc ≡ false) (uc : Bool) (fu : uc ≡ uris_clash (uris_of t h)) where
              all_known : judged t ≡ verdict (length t) hf lf (not wf || em) (rc || uc)
              all_known = rules_known ∙ ap (λ (b : Bool). verdict (length t) hf lf (not wf || em) (rc || b)) (sym fu)

              pub bad_uris : uc ≡ true → said 12 0 ≡ judged t
              bad_uris k = sym (all_known ∙ rw (kh, kl, kw, ke, kr, k))

              pub good : uc ≡ false → said 0 (length t) ≡ judged t
              good k = sym (all_known ∙ rw (kh, kl, kw, ke, kr, k))
