-- A refused byte settles its refusal, that of a target xml or of ]]> with a few behind it: before it the scene ends too soon, and what stands behind
-- changes nothing. A scene that ends too soon can go on.
--     refused_before, refused_closed     the bytes before the place of a refusal by the reader: 1, behind the root 1 or 9
--     refused_after, refused_until       the bytes up to the place of a 2 or a 3, and those that settle it: the same, whatever stands behind; until then the same or 1
--     cut_completed                      1: a few bytes more, and the event is read to its end, or the scene finishes; or the scene is overfull
use Prim.Native.Nat.{ℕ, ◌+◌, ◌≤◌, ◌<◌}
use mathlib.Core.Path.{◌≡◌, refl, sym, ap, subst, ◌∙◌}
use mathlib.Core.List.{List, ◌++◌}
use mathlib.Core.Bool.{true, false}
use mathlib.Core.Logic.{◌⊎◌, inl, inr, ⊎_elim}
use native.Mathlib.Omega.{arith}
use lib.ListN.{length, take, drop, length-take, take-append-drop}
use lib.Seq.{length-take-le, take_all}
use Rattle.laws.specs.Reading.{le_or_lt}
use Rattle.laws.proofs.Flags.{differ}
use Rattle.table.specs.Table.{decode, standard}
use Rattle.table.specs.Judge.{judged}
use Rattle.reader.specs.Events.{refusal, finished, next}
use Rattle.reader.proofs.NextStable.{next_short}
use Rattle.sessions.specs.Sessions.{reader_of}
use Rattle.sessions.specs.Coherence.{coherent}
use Rattle.sessions.specs.Stepping.{Step, refused_step, longest, step_of}
use Rattle.sessions.specs.Session.{Session}
use Rattle.sessions.proofs.CoherentSound.{coherent_held}
use Rattle.demands.proofs.CoherentMore.{coherent_more}
use Rattle.demands.proofs.CompletedParts.{or_full}
use Rattle.demands.proofs.CompletedNext.{Whole, next_completed}
use Rattle.demands.proofs.LateNext.{LateNext, next_ext, next_stays, next_until}
use Rattle.demands.specs.Answers.{Ready, Answered, bad_table, long_scene, bad_session, unread, all_read, limited, no_room, wrote, settled, Through, Overfull, Overlong, Completes}
use Rattle.demands.proofs.Refusals.{answered_by, answered_so, exactly_read}

-- n at the place p, by the reader
module _ (table s : List ℕ) (z : Session) (out : List ℕ) (n p : ℕ) (lo : 1 ≤ n) (hi : n ≤ 6) (q : (step_of standard table s z out).answer.number ≡ n) (at : (step_of standard table s z out).answer.place ≡ p) where
  told : Ready table s z × (next s (reader_of z) ≡ refusal n p)
  told = subst (λ (i : ℕ). Ready table s z × (next s (reader_of z) ≡ refusal n i)) at ((exactly_read table s z out n lo hi).only q)

  -- where the session is coherent with the bytes before the place, these give 1 there, or 9 behind the root
  module _ (c : coherent (decode table) (take p s) z ≡ true) where
    ready : Ready table (take p s) z
    ready = let r = told.0 in record { accepted = r.accepted; short = omega (arith, r.short, length-take p s); fits = c }

    ends : (next (take p s) (reader_of z) ≡ refusal 1 p) ⊎ ((next (take p s) (reader_of z) ≡ finished p) × (z.closed ≡ true))
    ends = next_short s (reader_of z) n p told.1 (coherent_held (decode table) (take p s) z c)

    pub refused_before : z.closed ≡ false → step_of standard table (take p s) z out ≡ refused_step 1 p z out
    refused_before o =
        ⊎_elim (λ e. answered_so table (take p s) z out (unread ready 1 p e (omega arith) (omega arith))) (λ e. absurd (differ (sym e.1 ∙ o))) ends

    pub refused_closed : z.closed ≡ true → (step_of standard table (take p s) z out ≡ refused_step 9 p z out) ⊎ (step_of standard table (take p s) z out ≡ refused_step 1 p z out)
    refused_closed o =
        ⊎_elim (λ e. inr (answered_so table (take p s) z out (unread ready 1 p e (omega arith) (omega arith)))) (λ e. inl (answered_so table (take p s) z out (all_read ready p e.0))) ends

-- 2 or 3 at the place p, of a session that is coherent with each part of the scene that is spoken of
module _ (table s : List ℕ) (z : Session) (out : List ℕ) (n p : ℕ) (lo : 2 ≤ n) (hi : n ≤ 3) (q : (step_of standard table s z out).answer.number ≡ n) (at : (step_of standard table s z out).answer.place ≡ p) where
  reads : Ready table s z × (next s (reader_of z) ≡ refusal n p)
  reads = told table s z out n p (omega arith) (omega arith) q at

  -- the refused byte, and those behind it that settle it
  abbrev size : ℕ
  size = p + 1 + settled s (reader_of z) p

  up_to : next (take size s) (reader_of z) ≡ refusal n p
  up_to = ⊎_elim (λ e. sym e ∙ whole) (λ l. ⊎_elim short (λ lt. absurd (omega (arith, late l, length-take-le size s (omega arith)))) (le_or_lt (length s) size)) (next_ext (take size s) (drop size s) (reader_of z))
    where
      whole : next (take size s ++ drop size s) (reader_of z) ≡ refusal n p
      whole = rw (take-append-drop size s) reads.1

      short : length s ≤ size → next (take size s) (reader_of z) ≡ refusal n p
      short le = rw (take_all size s le) reads.1

      late : LateNext (settled (take size s ++ drop size s) (reader_of z)) (length (take size s)) (next (take size s ++ drop size s) (reader_of z)) → length (take size s) ≤ p + settled s (reader_of z) p
      late l = subst (λ (S : List ℕ). length (take size s) ≤ p + settled S (reader_of z) p) (take-append-drop size s) (subst (LateNext (settled (take size s ++ drop size s) (reader_of z)) (length (take size s))) whole l lo hi)

  -- they settle it, whatever stands behind
  pub refused_after : (rest : List ℕ) → length (take (p + 1 + settled s (reader_of z) p) s ++ rest) ≤ longest → coherent (decode table) (take (p + 1 + settled s (reader_of z) p) s ++ rest) z ≡ true → step_of standard table (take (p + 1 + settled s (reader_of z) p) s ++ rest) z out ≡ refused_step n p z out
  refused_after rest l c =
      answered_so table (take size s ++ rest) z out
      (unread (record { accepted = reads.0.accepted; short = l; fits = c }) n p (next_stays (take size s) rest (reader_of z) n p lo hi up_to) (omega arith) (omega arith))

  -- "until then the answer is 1"
  pub refused_until : (k : ℕ) → p < k → k ≤ length s → coherent (decode table) (take k s) z ≡ true → (step_of standard table (take k s) z out ≡ refused_step n p z out) ⊎ (step_of standard table (take k s) z out ≡ refused_step 1 k z out)
  refused_until k lt le c =
      ⊎_elim (λ e. inl (answered_so table (take k s) z out (unread ready n p e (omega arith) (omega arith)))) (λ e. inr (answered_so table (take k s) z out (unread ready 1 k e (omega arith) (omega arith))))
      (next_until (take k s) (drop k s) (reader_of z) (coherent_held (decode table) (take k s) z c) n p (rw (take-append-drop k s) reads.1) k (length-take-le k s le) lt)
    where
      ready : Ready table (take k s) z
      ready = let r = reads.0 in record { accepted = r.accepted; short = omega (arith, r.short, length-take k s); fits = c }

-- ---- 1: the scene ends, nothing else wrong so far
pub cut_completed : (table s : List ℕ) (z : Session) (out : List ℕ) → (step_of standard table s z out).answer.number ≡ 1 → Completes table s z out ⊎ Overfull s (Overlong table z out)
cut_completed table s z out q =
    let c = (exactly_read table s z out 1 (omega arith) (omega arith)).only q in
    let h = coherent_held (decode table) s z c.0.fits in
    or_full
    (λ d.
    record {
      more = d.more;
      few = d.few;
      reads = λ l. by d.more l c.0.accepted (coherent_more (decode table) s d.more z c.0.fits) d.done (answered_by table (s ++ d.more) z out);
    })
    (λ t p r l.
    let so = answered_so table (s ++ t) z out (unread (record { accepted = c.0.accepted; short = l; fits = coherent_more (decode table) s t z c.0.fits }) 3 p r (omega arith) (omega arith)) in
    (ap (λ (r : Step). r.answer.number) so, ap (λ (r : Step). r.answer.place) so))
    (next_completed s (reader_of z) h.place (step_of standard table s z out).answer.place c.1)
  where
    by : (u : List ℕ) → length (s ++ u) ≤ longest → (judged table).number ≡ 0 → coherent (decode table) (s ++ u) z ≡ true → Whole (next (s ++ u) (reader_of z)) → {r : Step} → Answered table (s ++ u) z out r → Through r.answer.number ⊎ (r.answer.number ≡ 9)
    by u l a c w (bad_table lo hi) = absurd (omega arith)
    by u l a c w (long_scene x y) = absurd (omega arith)
    by u l a c w (bad_session x y k) = absurd (differ (sym c ∙ k))
    by u l a c w (unread r n p k lo hi) = let m : 4 ≤ n = subst Whole k w in inl (inr (inl (m, hi)))
    by u l a c w (all_read r p k) = inr refl
    by u l a c w (limited r e o k n m lo hi) = inl (inr (inr (lo, omega arith)))
    by u l a c w (no_room r p rs z'' k m) = inl (inr (inr (omega arith)))
    by u l a c w (wrote r p rs z'' k m) = inl (inl refl)
