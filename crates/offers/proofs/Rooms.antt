-- What ask and commit hand back where a slice has no room, and where both have.
use Prim.Native.Nat.{ℕ, ◌≤◌}
use mathlib.Core.Path.{◌≡◌, refl, sym, ap, ◌∙◌}
use mathlib.Core.List.{List}
use mathlib.Core.Bool.{Bool, true, false, cond}
use borrow.Author.Tests.{ltb-false}
use lib.Dec.{ltb}
use lib.ListN.{length}
use Rattle.laws.specs.Tests.{on, off}
use Rattle.laws.proofs.Flags.{or_left, or_right}
use Rattle.table.specs.declared.Answer.{Answer}
use Rattle.sessions.specs.Stepping.{Step}
use Rattle.layout.specs.Layout.{session_size}
use Rattle.layout.specs.Answers.{answer_numbers, bytes_behind, too_short}
use Rattle.layout.proofs.Told.{Handed}
use Rattle.offers.specs.Layout.{offer_size}
use Rattle.offers.specs.Calls.{lacks_room}

module _ (session offer : List ℕ) (lacks : Bool) (e : lacks ≡ lacks_room session offer) where
  pub has_room : lacks ≡ false → (session_size ≤ length session) × (offer_size ≤ length offer)
  has_room h =
      let k : lacks_room session offer ≡ false = sym e ∙ h in (
        ltb-false (length session) session_size (or_left (ltb (length session) session_size) (ltb (length offer) offer_size) k),
        ltb-false (length offer) offer_size (or_right (ltb (length session) session_size) (ltb (length offer) offer_size) k),
      )

  none : {A : Type 0} (x y : A) → lacks ≡ true → x ≡ cond (lacks_room session offer) x y
  none x y h = on (lacks_room session offer) x x y (sym e ∙ h) refl

  some : {A : Type 0} (x y z : A) → lacks ≡ false → z ≡ y → z ≡ cond (lacks_room session offer) x y
  some x y z h q = off (lacks_room session offer) z x y (sym e ∙ h) q

  -- the number that is returned, the answer's numbers, the offer's bytes
  module _ (answer : List ℕ) (a : Answer) (laid : List ℕ) where
    abbrev pub Asked : ℕ → List ℕ → List ℕ → Type 0
    Asked n answer' offer' =
        (n ≡ cond (lacks_room session offer) too_short a.number)
        × ((answer' ≡ cond (lacks_room session offer) answer (answer_numbers a)) × (offer' ≡ cond (lacks_room session offer) offer laid))

    pub asked_none : lacks ≡ true → Asked too_short answer offer
    asked_none h = (none too_short a.number h, (none answer (answer_numbers a) h, none offer laid h))

    pub asked_some : (r : Answer) (answer' offer' : List ℕ) → lacks ≡ false → r ≡ a → answer' ≡ answer_numbers r → offer' ≡ laid → Asked r.number answer' offer'
    asked_some r answer' offer' h q p o =
        (some too_short a.number r.number h (ap (λ (x : Answer). x.number) q), (some answer (answer_numbers a) answer' h (p ∙ ap answer_numbers q), some offer laid offer' h o))

  -- the number that is returned, the answer's numbers, the output, the session's bytes
  module _ (answer out : List ℕ) (w : Step) where
    abbrev pub Committed : ℕ → List ℕ → List ℕ → List ℕ → Type 0
    Committed n answer' out' session' =
        (n ≡ cond (lacks_room session offer) too_short w.answer.number)
        × ((answer' ≡ cond (lacks_room session offer) answer (answer_numbers w.answer))
        × ((out' ≡ cond (lacks_room session offer) out w.output) × (session' ≡ cond (lacks_room session offer) session (bytes_behind session w))))

    pub committed_none : lacks ≡ true → Committed too_short answer out session
    committed_none h =
        (none too_short w.answer.number h, (none answer (answer_numbers w.answer) h, (none out w.output h, none session (bytes_behind session w) h)))

    pub committed_some : (r : Answer) (answer' out' session' : List ℕ) → lacks ≡ false → Handed r out' session session' w → answer' ≡ answer_numbers r → Committed r.number answer' out' session'
    committed_some r answer' out' session' h q p = (
      some too_short w.answer.number r.number h (ap (λ (x : Answer). x.number) q.0),
      (
        some answer (answer_numbers w.answer) answer' h (p ∙ ap answer_numbers q.0),
        (some out w.output out' h q.1.0, some session (bytes_behind session w) session' h q.1.1),
      ),
    )
