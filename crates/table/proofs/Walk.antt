-- From one URI of a table to the next: what the place of the URI whose length stands at p says of all from p on.
--     none          there is no URI at p
--     inside, ..    there is one: it lies in the table, it is the first, and the others follow it
use Prim.Native.Nat.{ℕ, suc, ◌+◌, ◌-◌, ◌≤◌, ◌<◌}
use mathlib.Core.Path.{◌≡◌, refl, sym, ap, ◌∙◌}
use mathlib.Core.List.{List, [], ◌∷◌}
use mathlib.Core.Bool.{Bool, true, false, cond}
use native.Mathlib.Omega.{arith}
use borrow.Author.Tests.{le-leb, lt-leb, leb-true}
use lib.ListN.{length, get_or, drop, take, length-drop}
use lib.Seq.{drop-drop}
use lib.Dec.{leb}
use Rattle.std.specs.Prelude.{Option, None, Some, slice_get}
use Rattle.laws.specs.Reading.{drop_here, drop_out, room_step}
use Rattle.compare.specs.Compare.{span_of}
use Rattle.table.specs.Table.{uris_from}
use Rattle.table.specs.Judge.{uris_fill}
use Rattle.table.specs.Places.{placed, places_from}
use Rattle.table.specs.declared.Listed.{Listed}

abbrev pub uri_at : List ℕ → ℕ → Option Listed
uri_at t p = slice_get (places_from 1 p (drop p t)) 0

-- the ways of the code that reads it
module _ (t : List ℕ) (p : ℕ) where
  pub uri_past : length t ≤ p → None ≡ uri_at t p
  unfolding places_from
  uri_past h = simp (drop_out t p h)

  module _ (k : ℕ) (e : k ≡ get_or t p 0) (l : p < length t) where
    pub uri_cut : length t - p ≤ k → None ≡ uri_at t p
    unfolding places_from
    uri_cut h = simp (drop_here t p l, ← e, lt-leb k (length (drop (p + 1) t)) (omega (arith, length-drop (p + 1) t)))

    pub uri_whole : k < length t - p → Some (placed (p + 1) k) ≡ uri_at t p
    unfolding places_from
    uri_whole h = simp (drop_here t p l, ← e, le-leb k (length (drop (p + 1) t)) (omega (arith, length-drop (p + 1) t)))

-- what is left of the table, cut into its first byte and the rest
pub none_some : {u : Listed} → None ≡ Some u → ⊥
none_some e = cc

module _ (p : ℕ) (n : ℕ) where
  stop : (l : List ℕ) → None ≡ slice_get (places_from 1 p l) 0
      → (uris_from (suc n) l ≡ []) × (places_from (suc n) p l ≡ []) × (uris_fill (suc n) l ≡ false)
  unfolding places_from uris_from uris_fill
  stop [] e = (refl, refl, refl)
  stop (k ∷ l) e = by (leb k (length l)) refl e
    where
      by : (b : Bool) → b ≡ leb k (length l) → None ≡ slice_get (cond b (placed (p + 1) k ∷ []) []) 0
          → (uris_from (suc n) (k ∷ l) ≡ []) × (places_from (suc n) p (k ∷ l) ≡ []) × (uris_fill (suc n) (k ∷ l) ≡ false)
      by true q f = absurd (none_some f)
      by false q f = (simp (← q), simp (← q), simp (← q))

  go : (u : Listed) (l : List ℕ) → Some u ≡ slice_get (places_from 1 p l) 0
      → (u.at ≡ p + 1) × (1 + u.len ≤ length l)
      × (uris_from (suc n) l ≡ take u.len (drop 1 l) ∷ uris_from n (drop u.len (drop 1 l)))
      × (places_from (suc n) p l ≡ u ∷ places_from n (p + 1 + u.len) (drop u.len (drop 1 l)))
      × (uris_fill (suc n) l ≡ uris_fill n (drop u.len (drop 1 l)))
  unfolding places_from uris_from uris_fill
  go u [] e = absurd (none_some (sym e))
  go u (k ∷ l) e = by (leb k (length l)) refl e
    where
      by : (b : Bool) → b ≡ leb k (length l) → Some u ≡ slice_get (cond b (placed (p + 1) k ∷ []) []) 0
          → (u.at ≡ p + 1) × (1 + u.len ≤ suc (length l))
          × (uris_from (suc n) (k ∷ l) ≡ take u.len l ∷ uris_from n (drop u.len l))
          × (places_from (suc n) p (k ∷ l) ≡ u ∷ places_from n (p + 1 + u.len) (drop u.len l))
          × (uris_fill (suc n) (k ∷ l) ≡ uris_fill n (drop u.len l))
      by true q g =
          let f : u ≡ placed (p + 1) k = cc in
          let h : k ≤ length l = leb-true k (length l) (sym q) in
          (ap (λ (v : Listed). v.at) f, omega (arith, ap (λ (v : Listed). v.len) f), simp (← q, f), simp (← q, f), simp (← q, f))
      by false q g = absurd (none_some (sym g))

-- the URIs from p on, one at least asked for
module _ (t : List ℕ) (p n : ℕ) where
  module _ (e : None ≡ uri_at t p) where
    pub last_uri : uris_from (suc n) (drop p t) ≡ []
    last_uri = (stop p n (drop p t) e).0

    pub last_place : places_from (suc n) p (drop p t) ≡ []
    last_place = (stop p n (drop p t) e).1

    pub last_fill : uris_fill (suc n) (drop p t) ≡ false
    last_fill = (stop p n (drop p t) e).2

  module _ (u : Listed) (e : Some u ≡ uri_at t p) where
    at_next : u.at ≡ p + 1
    at_next = (go p n u (drop p t) e).0

    behind : drop 1 (drop p t) ≡ drop u.at t
    behind = drop-drop 1 p t ∙ ap (λ (k : ℕ). drop k t) (sym at_next)

    further : drop u.len (drop 1 (drop p t)) ≡ drop (u.at + u.len) t
    further = ap (drop u.len) behind ∙ drop-drop u.len u.at t

    pub place_inside : u.at + u.len ≤ length t
    place_inside = omega (arith, at_next, (go p n u (drop p t) e).1, length-drop p t)

    pub first_uri : uris_from (suc n) (drop p t) ≡ span_of t u.at u.len ∷ uris_from n (drop (u.at + u.len) t)
    first_uri = (go p n u (drop p t) e).2 ∙ simp (behind, drop-drop)

    pub first_place : places_from (suc n) p (drop p t) ≡ u ∷ places_from n (u.at + u.len) (drop (u.at + u.len) t)
    first_place = (go p n u (drop p t) e).3 ∙ simp (further, ← at_next)

    pub first_fill : uris_fill (suc n) (drop p t) ≡ uris_fill n (drop (u.at + u.len) t)
    first_fill = (go p n u (drop p t) e).4 ∙ ap (uris_fill n) further

-- the same where of n URIs i are behind us
module _ (t : List ℕ) (p n i : ℕ) (l : i < n) where
  module _ (e : None ≡ uri_at t p) where
    pub no_uri : uris_from (n - i) (drop p t) ≡ []
    no_uri = rw (room_step n i l) (last_uri t p (n - (i + 1)) e)

    pub no_place : places_from (n - i) p (drop p t) ≡ []
    no_place = rw (room_step n i l) (last_place t p (n - (i + 1)) e)

    pub no_fill : uris_fill (n - i) (drop p t) ≡ false
    no_fill = rw (room_step n i l) (last_fill t p (n - (i + 1)) e)

  module _ (u : Listed) (e : Some u ≡ uri_at t p) where
    pub inside : u.at + u.len ≤ length t
    inside = place_inside t p n u e

    pub one_uri : uris_from (n - i) (drop p t) ≡ span_of t u.at u.len ∷ uris_from (n - (i + 1)) (drop (u.at + u.len) t)
    one_uri = rw (room_step n i l) (first_uri t p (n - (i + 1)) u e)

    pub one_place : places_from (n - i) p (drop p t) ≡ u ∷ places_from (n - (i + 1)) (u.at + u.len) (drop (u.at + u.len) t)
    one_place = rw (room_step n i l) (first_place t p (n - (i + 1)) u e)

    pub one_fill : uris_fill (n - i) (drop p t) ≡ uris_fill (n - (i + 1)) (drop (u.at + u.len) t)
    one_fill = rw (room_step n i l) (first_fill t p (n - (i + 1)) u e)
