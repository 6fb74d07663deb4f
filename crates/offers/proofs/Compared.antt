-- Whether bytes hold an offer, test by test, and whether it is that of a session and a scene's length.
use Prim.Native.Nat.{ℕ}
use mathlib.Core.Path.{◌≡◌, sym, ap, ap₂, ◌∙◌}
use mathlib.Core.List.{List}
use mathlib.Core.Bool.{Bool, true, false, not, ◌&&◌}
use borrow.Author.Tests.{eq-eqb, ne_eqb, not-true, not-false}
use lib.ListN.{drop}
use lib.Dec.{eqb}
use Rattle.sessions.specs.Asking.{holds_same}
use Rattle.sessions.specs.Session.{Session}
use Rattle.layout.specs.Layout.{word8, session_in, holds_session}
use Rattle.offers.specs.Layout.{offer_in, holds_offer}

-- the first eight bytes are the number n, those from the sixteenth on are the part
module _ (b : List ℕ) (x : Bool) (n : ℕ) (e : n ≡ word8 b 0) where
  pub not_version : (n ≡ 1 → ⊥) → false ≡ (holds_offer b && x)
  unfolding holds_offer
  not_version h = rw (ne_eqb (word8 b 0) 1 (λ (k : word8 b 0 ≡ 1). h (e ∙ k)))

  module _ (v : n ≡ 1) (part : List ℕ) (p : part ≡ drop 16 b) (held : Bool) (h : held ≡ holds_session part) where
    held_is : holds_session (drop 16 b) ≡ held
    held_is = sym (h ∙ ap holds_session p)

    pub not_session : not held ≡ true → false ≡ (holds_offer b && x)
    unfolding holds_offer
    not_session k = rw (eq-eqb (word8 b 0) 1 (sym e ∙ v), held_is ∙ not-true held k)

    pub then_compared : not held ≡ false → (r : Bool) → r ≡ x → r ≡ (holds_offer b && x)
    unfolding holds_offer
    then_compared k r q = rw (eq-eqb (word8 b 0) 1 (sym e ∙ v), held_is ∙ not-false held k) q

-- a session compared with the one in the part, where its counts fit, and a length with the one in the bytes
pub both_compared : (b part : List ℕ) (w same : Bool) (z y : Session) (n m : ℕ) → part ≡ drop 16 b → y ≡ session_in part → same ≡ (w && holds_same z y) → m ≡ word8 b 8
    → (same && eqb n m) ≡ ((w && holds_same z (offer_in b).session) && eqb n (offer_in b).length)
unfolding offer_in
both_compared b part w same z y n m p e q l =
    ap₂ (λ (t : Bool) (k : ℕ). t && eqb n k) (q ∙ ap (λ (k : Session). w && holds_same z k) (e ∙ ap session_in p)) l
