-- The keys that are kept beside the bindings.
--     keys_none, keys_turn, key_read      the loop of `put_keys`
--     keys_many, keys_laid, keys_kept     keys that were laid down stand there, and stay where an array is overwritten behind or before them
use Prim.Native.Nat.{ℕ, ◌+◌, ◌-◌, ◌≤◌, ◌<◌}
use mathlib.Core.Path.{◌≡◌, sym, ap, ◌∙◌}
use mathlib.Core.List.{List, [], ◌∷◌, ◌++◌, map, map-append}
use mathlib.Core.Logic.{◌⊎◌, ⊎_elim}
use native.Mathlib.Omega.{arith}
use native.Mathlib.Nat.{zero-add}
use native.Mathlib.Numerals.{add-one}
use lib.ListN.{length, get_or, set, length-map, get_or-map}
use Rattle.laws.specs.Lists.{tabulate}
use Rattle.laws.specs.Over.{overwrite}
use Rattle.laws.proofs.Over.{over_none, over_set, get_d_over_in, get_d_over_before, get_d_over_after}
use Rattle.reader.specs.Spans.{span, bytes_of}
use Rattle.reader.specs.Namespaces.{binding}
use Rattle.reader.specs.Stored.{binding_in, bindings_in}
use Rattle.reader.specs.Known.{key_from, key_of, keys_in, KeysAt}
use Rattle.reader.specs.declared.Binding.{Binding}
use Rattle.reader.proofs.Indexed.{tab_long, tab_at, tab_last}

module _ (s l : List ℕ) where
  pub keys_many : (n : ℕ) → length (keys_in s l n) ≡ n
  unfolding keys_in
  keys_many n = length-map (bindings_in l n) (λ (b : Binding). key_of (bytes_of s b.prefix)) ∙ tab_long (binding_in l) 0 n

  keys_here : (n k : ℕ) → k < n → get_or (keys_in s l n) k 0 ≡ key_of (bytes_of s (binding_in l k).prefix)
  unfolding keys_in key_of key_from
  keys_here n k h =
      let none : Binding = binding (span 0 0) (span 0 0) in
      get_or-map (λ (b : Binding). key_of (bytes_of s b.prefix)) (bindings_in l n) k none
      ∙ ap (λ (b : Binding). key_of (bytes_of s b.prefix)) (tab_at (binding_in l) 0 n k none h ∙ ap (binding_in l) (zero-add k))

  keys_more : (k : ℕ) → keys_in s l (k + 1) ≡ keys_in s l k ++ (key_of (bytes_of s (binding_in l k).prefix) ∷ [])
  unfolding keys_in
  keys_more k =
      ap (λ (n : ℕ). map (λ (b : Binding). key_of (bytes_of s b.prefix)) (bindings_in l n)) (add-one k)
      ∙ ap (map (λ (b : Binding). key_of (bytes_of s b.prefix))) (tab_last (binding_in l) k)
      ∙ map-append (λ (b : Binding). key_of (bytes_of s b.prefix)) (bindings_in l k) (binding_in l k ∷ [])

  pub keys_none : (known : List ℕ) (from : ℕ) → known ≡ overwrite known from (keys_in s l 0)
  unfolding keys_in tabulate
  keys_none known from = sym (over_none known from)

  pub keys_turn : (known₀ known : List ℕ) (from k key : ℕ) → known ≡ overwrite known₀ from (keys_in s l k) → from + k < length known₀ → key ≡ key_of (bytes_of s (binding_in l k).prefix)
      → set known (from + k) key ≡ overwrite known₀ from (keys_in s l (k + 1))
  keys_turn known₀ known from k key e h q =
      ap (λ (x : List ℕ). set x (from + k) key) e
      ∙ ap (λ (i : ℕ). set (overwrite known₀ from (keys_in s l k)) (from + i) key) (sym (keys_many k))
      ∙ over_set known₀ from (keys_in s l k) key (omega (arith, keys_many k))
      ∙ ap (λ (x : ℕ). overwrite known₀ from (keys_in s l k ++ (x ∷ []))) q
      ∙ ap (overwrite known₀ from) (sym (keys_more k))

  -- as the code reads it
  pub key_read : (k : ℕ) (b : Binding) (p : List ℕ) (key : ℕ) → b ≡ binding_in l k → p ≡ bytes_of s b.prefix → key ≡ key_of p → key ≡ key_of (bytes_of s (binding_in l k).prefix)
  key_read k b p key eb ep ek = ek ∙ ap key_of ep ∙ ap (λ (x : Binding). key_of (bytes_of s x.prefix)) eb

  module _ (n from : ℕ) (known₀ known : List ℕ) where
    pub keys_laid : from + n ≤ length known₀ → known ≡ overwrite known₀ from (keys_in s l n) → KeysAt s l n from known
    keys_laid h e k lt =
        ap (λ (x : List ℕ). get_or x (from + k) 0) e
        ∙ get_d_over_in known₀ from (keys_in s l n) k 0 (omega (arith, keys_many n)) (omega arith)
        ∙ keys_here n k lt

    pub keys_kept : (at : ℕ) (ys : List ℕ) → at ≤ length known₀ → (from + n ≤ at) ⊎ (at + length ys ≤ from) → known ≡ overwrite known₀ at ys → KeysAt s l n from known₀ → KeysAt s l n from known
    keys_kept at ys h apart e w k lt = ap (λ (x : List ℕ). get_or x (from + k) 0) e ∙ ⊎_elim before behind apart ∙ w k lt
      where
        before : from + n ≤ at → get_or (overwrite known₀ at ys) (from + k) 0 ≡ get_or known₀ (from + k) 0
        before q = get_d_over_before known₀ at ys (from + k) 0 (omega arith) h

        behind : at + length ys ≤ from → get_or (overwrite known₀ at ys) (from + k) 0 ≡ get_or known₀ (from + k) 0
        behind q =
            let e : from + k ≡ at + length ys + (from + k - (at + length ys)) = omega arith in
            ap (λ (i : ℕ). get_or (overwrite known₀ at ys) i 0) e
            ∙ get_d_over_after known₀ at ys (from + k - (at + length ys)) 0 h
            ∙ ap (λ (i : ℕ). get_or known₀ i 0) (sym e)
