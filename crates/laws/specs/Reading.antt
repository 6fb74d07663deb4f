-- Laws of functions that read a slice by an index.
--     le_or_lt                            a case split on an order
--     drop_here, drop_out, slice_here     what is left of a list from an index on, at the code's `i + 1`
--     Stable, stable-*                    an answer that is not `cut` stays when more bytes come
--     peek                                the byte at an index, or `cut`
--     RunNext, run, run-*                 a machine that reads byte by byte
--     run_agree, run_agree_at             machines that know their scene, when more bytes come
--     run_out, run_stop, run_go, machine  a turn of the loop that runs a machine: `search machine`
--     room_step, fill_next                an array filled from the front, the default behind
use Rattle.std.specs.Prelude.{ℕ, zero, suc, ◌+◌, ◌-◌, ◌≤◌, ◌<◌, drop, get_or, set, replicate, ltb, Bool, true, false, cond, ◌⊎◌}
use Rattle.std.proofs.Common.{zero-le, suc-le-suc, sym, ap, ◌∙◌, add-one, le_of_lt, drop_of_length-le, length-append, drop-cons, lt-ltb, le-ltb, inl, inr}
use Rattle.std.proofs.Math.Path.{◌≡◌, refl}
use mathlib.Core.List.{List, [], ◌∷◌, ◌++◌}
use native.Mathlib.Omega.{arith}
use Rattle.std.proofs.Math.ListN.{length, length-drop, get_or-append}
use Rattle.std.proofs.Math.Seq.{drop-append-le, slice, slice-cons, append_snoc}
use Rattle.std.proofs.lemmas.List.{set_at}
use Rattle.std.proofs.Math.Logic.{⊎_elim}
use Rattle.laws.specs.Tests.{tests}

-- a case split on an order
pub le_or_lt : (a b : ℕ) → (a ≤ b) ⊎ (b < a)
le_or_lt zero b = inl zero-le
le_or_lt (suc a) zero = inr (suc-le-suc zero-le)
le_or_lt (suc a) (suc b) = ⊎_elim (λ p. inl (suc-le-suc p)) (λ q. inr (suc-le-suc q)) (le_or_lt a b)

pub drop_here : (s : List ℕ) (i : ℕ) → i < length s → drop i s ≡ get_or s i 0 ∷ drop (i + 1) s
drop_here s i h = rw (add-one, drop-cons s i 0)

-- the same of a part, from f up to t
pub slice_here : (f t : ℕ) (l : List ℕ) → f < t → t ≤ length l → slice f t l ≡ get_or l f 0 ∷ slice (f + 1) t l
slice_here f t l h k = rw (add-one, slice-cons f t l 0)

pub drop_out : (s : List ℕ) (i : ℕ) → length s ≤ i → drop i s ≡ []
drop_out s i h = drop_of_length-le s h

-- ---- stability: an answer that is not `cut` stays when more bytes come
-- Stable a b: where a is not `cut`, b is a. It goes through `cond` branch by branch, so a reader's stability follows the shape of its definition
module _ {A : Type 0} (cut : A) where
  abbrev pub Stable : A → A → Type 0
  Stable a b = (a ≡ cut → ⊥) → b ≡ a

  pub stable_same : (a : A) → Stable a a
  stable_same a n = refl

  pub stable_cut : (b : A) → Stable cut b
  stable_cut b n = absurd (n refl)

  pub stable_cond : (t : Bool) {a b a' b' : A} → Stable a b → Stable a' b' → Stable (cond t a a') (cond t b b')
  stable_cond true p q = p
  stable_cond false p q = q

  -- a reader of a list, read from an index on
  pub stable_at : (f : List ℕ → A) → f [] ≡ cut → ((s t : List ℕ) → Stable (f s) (f (s ++ t))) → (s t : List ℕ) (at : ℕ) → Stable (f (drop at s)) (f (drop at (s ++ t)))
  stable_at f e h s t at = ⊎_elim inside outside (le_or_lt at (length s))
    where
      inside : at ≤ length s → Stable (f (drop at s)) (f (drop at (s ++ t)))
      inside l = rw drop-append-le (h (drop at s) t)

      outside : length s < at → Stable (f (drop at s)) (f (drop at (s ++ t)))
      outside l n = absurd (n (ap f (drop_out s at (le_of_lt l)) ∙ e))

-- the byte at an index, and what it decides; `cut` where there is none
abbrev pub peek : {A : Type 0} → A → List ℕ → ℕ → (ℕ → A) → A
peek cut s at f = cond (ltb at (length s)) (f (get_or s at 0)) cut

pub stable_peek : {A : Type 0} (cut : A) (s t : List ℕ) (at : ℕ) (f g : ℕ → A) → ((b : ℕ) → Stable cut (f b) (g b)) → Stable cut (peek cut s at f) (peek cut (s ++ t) at g)
stable_peek cut s t at f g h = ⊎_elim outside inside (le_or_lt (length s) at)
  where
    outside : length s ≤ at → Stable cut (peek cut s at f) (peek cut (s ++ t) at g)
    outside l = rw (le-ltb at (length s) l) (stable_cut cut (peek cut (s ++ t) at g))

    inside : at < length s → Stable cut (peek cut s at f) (peek cut (s ++ t) at g)
    inside l =
        let m : at < length (s ++ t) = simp length-append (omega arith) in
        rw (lt-ltb at (length s) l, lt-ltb at (length (s ++ t)) m, get_or-append s t 0 at l) (h (get_or s at 0))

-- where an answer is taken apart: f of `cut` is `cut`, and f and g agree so far
pub stable_bind : {A B : Type 0} (cut : A) (cut' : B) (f g : A → B) → f cut ≡ cut' → ((x : A) → Stable cut' (f x) (g x)) → (v w : A) → Stable cut v w → Stable cut' (f v) (g w)
stable_bind cut cut' f g e h v w k n = ap g (k (λ q. n (ap f q ∙ e))) ∙ h v n

-- ---- a machine that reads a list byte by byte: in a state, at a byte, at an index, it goes on in a state or stops with an answer
pub data RunNext (St Out : Type 0) : Type 0 where
  go : St → RunNext St Out
  stop : Out → RunNext St Out

-- what a step's answer, if it stops, must meet
pub data Allowed {St Out : Type 0} (P : Out → Type 0) : RunNext St Out → Type 0 where
  goes : {q : St} → Allowed P (go q)
  stops : {o : Out} → P o → Allowed P (stop o)

module _ {St Out : Type 0} where
  abbrev pub follow : RunNext St Out → (St → Out) → Out
  follow (go q) k = k q
  follow (stop o) k = o

  pub allowed_cond : (P : Out → Type 0) (t : Bool) {m n : RunNext St Out} → Allowed P m → Allowed P n → Allowed P (cond t m n)
  allowed_cond P true a b = a
  allowed_cond P false a b = b

  module _ (cut : Out) (step : St → ℕ → ℕ → RunNext St Out) where
    -- the answer on a list: `cut` where the list ends before the machine stops
    unfoldable pub run : St → List ℕ → ℕ → Out
    run q [] at = cut
    run q (b ∷ s) at = follow (step q b at) (λ (q' : St). run q' s (at + 1))

    run_kept : (q : St) (s t : List ℕ) (at : ℕ) → Stable cut (run q s at) (run q (s ++ t) at)
    unfolding run
    run_kept q [] t at = stable_cut cut (run q t at)
    run_kept q (b ∷ s) t at = kept (step q b at) (λ (q' : St). run_kept q' s t (at + 1))
      where
        kept : (n : RunNext St Out) → ((q' : St) → Stable cut (run q' s (at + 1)) (run q' (s ++ t) (at + 1))) → Stable cut (follow n (λ (q' : St). run q' s (at + 1))) (follow n (λ (q' : St). run q' (s ++ t) (at + 1)))
        kept (go q') h = h q'
        kept (stop o) h = stable_same cut o

    -- any machine's answer from an index on, unless it is `cut`, stays when more bytes come
    pub run_stable : (q : St) (s t : List ℕ) (at : ℕ) → Stable cut (run q (drop at s) at) (run q (drop at (s ++ t)) at)
    unfolding run
    run_stable q s t at = stable_at cut (λ (l : List ℕ). run q l at) refl (λ (l m : List ℕ). run_kept q l m at) s t at

    -- what holds of `cut`, and of each answer that a step gives at an index of the list, holds of the machine's answer
    pub run_all : (P : Out → Type 0) → P cut → (q : St) (l : List ℕ) (at : ℕ) → ((q' : St) (b j : ℕ) → at ≤ j → j < at + length l → Allowed P (step q' b j)) → P (run q l at)
    unfolding run
    run_all P e q [] at h = e
    run_all P e q (b ∷ l) at h =
        next (step q b at) (λ (q' : St). run_all P e q' l (at + 1) (λ q'' b' j lo hi. h q'' b' j (omega arith) (omega arith))) (h q b at (omega arith) (omega arith))
      where
        next : (n : RunNext St Out) → ((q' : St) → P (run q' l (at + 1))) → Allowed P n → P (follow n (λ (q' : St). run q' l (at + 1)))
        next (go q') ih goes = ih q'
        next (stop o) ih (stops a) = a

    -- the same from an index of a slice on: each answer's index is inside the slice
    pub run_inside : (P : Out → Type 0) → P cut → (q : St) (s : List ℕ) (at : ℕ) → ((q' : St) (b j : ℕ) → at ≤ j → j < length s → Allowed P (step q' b j)) → P (run q (drop at s) at)
    run_inside P e q s at h = run_all P e q (drop at s) at (λ q' b j lo hi. h q' b j lo (omega (arith, length-drop at s)))

    -- what a turn of the loop does, with the invariant `run q (drop i s) i ≡ p`, p the answer
    module _ (p : Out) (q : St) (s : List ℕ) (i : ℕ) (inv : run q (drop i s) i ≡ p) where
      pub run_out : length s ≤ i → cut ≡ p
      unfolding run
      run_out h = simp (← inv, drop_out)

      pub run_stop : i < length s → (o : Out) → stop o ≡ step q (get_or s i 0) i → o ≡ p
      unfolding run
      run_stop h o e = simp (← inv, drop_here, ← e)

      pub run_go : i < length s → (q' : St) → go q' ≡ step q (get_or s i 0) i → run q' (drop (i + 1) s) (i + 1) ≡ p
      unfolding run
      run_go h q' e = simp (← inv, drop_here, ← e)

-- two machines, each of which may know a scene of its own, the second's longer: where their steps agree inside the list, but for the steps that
-- stop with `cut`, their answers do
module _ {St Out : Type 0} (cut : Out) (step step' : St → ℕ → ℕ → RunNext St Out) where
  pub run_agree : (q : St) (l t : List ℕ) (at : ℕ) → ((q' : St) (b j : ℕ) → at ≤ j → j < at + length l → Stable (stop cut) (step q' b j) (step' q' b j)) → Stable cut (run cut step q l at) (run cut step' q (l ++ t) at)
  unfolding run
  run_agree q [] t at h = stable_cut cut (run cut step' q t at)
  run_agree q (b ∷ l) t at h =
      agree (step q b at) (step' q b at) (h q b at (omega arith) (omega arith)) (λ (q' : St). run_agree q' l t (at + 1) (λ q'' b' j lo hi. h q'' b' j (omega arith) (omega arith)))
    where
      differ : (q' : St) → go q' ≡ stop cut → ⊥
      differ q' e = let z : ◌≡◌ {A = ℕ} 0 1 = cc in omega arith

      agree : (n n' : RunNext St Out) → Stable (stop cut) n n' → ((q' : St) → Stable cut (run cut step q' l (at + 1)) (run cut step' q' (l ++ t) (at + 1))) → Stable cut (follow n (λ (q' : St). run cut step q' l (at + 1))) (follow n' (λ (q' : St). run cut step' q' (l ++ t) (at + 1)))
      agree (go q') n' k ih n = rw (k (differ q')) (ih q' n)
      agree (stop o) n' k ih n = rw (k (λ e. n (cc)))

  pub run_agree_at : (q : St) (s t : List ℕ) (at : ℕ) → ((q' : St) (b j : ℕ) → at ≤ j → j < length s → Stable (stop cut) (step q' b j) (step' q' b j)) → Stable cut (run cut step q (drop at s) at) (run cut step' q (drop at (s ++ t)) at)
  unfolding run
  run_agree_at q s t at h = ⊎_elim inside outside (le_or_lt at (length s))
    where
      inside : at ≤ length s → Stable cut (run cut step q (drop at s) at) (run cut step' q (drop at (s ++ t)) at)
      inside l = rw drop-append-le (run_agree q (drop at s) t at (λ q' b j lo hi. h q' b j lo (omega (arith, length-drop at s))))

      outside : length s < at → Stable cut (run cut step q (drop at s) at) (run cut step' q (drop at (s ++ t)) at)
      outside l = rw (drop_out s at (le_of_lt l)) (stable_cut cut (run cut step' q (drop at (s ++ t)) at))

-- for `search machine` at the returns and the turns of a loop that runs a machine
pub ruleset machine = (run_out, run_stop, run_go, tests)

-- ---- an array of n places that is filled from the front: k elements, and the default behind them
pub room_step : (n k : ℕ) → k < n → n - k ≡ suc (n - (k + 1))
room_step n k h = omega arith

pub fill_next : {A : Type 0} (held : List A) (a d : A) (n k : ℕ) → length held ≡ k → k < n → set (held ++ replicate (n - k) d) k a ≡ (held ++ (a ∷ [])) ++ replicate (n - (k + 1)) d
fill_next held a d n k e h = rw (room_step n k h) (set_at held d (replicate (n - (k + 1)) d) a k e ∙ sym (append_snoc held a (replicate (n - (k + 1)) d)))
