-- What a step answers, for all arguments: each number exactly where its phrase says, in document 01's order, and what is unchanged.
--     answered_by, answered_so         each step has a stage, and a stage has one answer
--     refused_keeps, accepted_writes   what a step changes
--     exactly-*                        when a number is given, and at what place
use Prim.Native.Nat.{ℕ, ◌+◌, ◌*◌, ◌≤◌, ◌<◌}
use mathlib.Core.Path.{◌≡◌, refl, sym, ap, subst, ◌∙◌}
use mathlib.Core.List.{List, [], ◌∷◌}
use mathlib.Core.Bool.{Bool, true, false, cond, not, ◌||◌}
use mathlib.Core.Logic.{◌⊎◌, inl, inr, ⊎_elim}
use native.Mathlib.Omega.{arith}
use borrow.Author.Tests.{ltb-true, ltb-false, leb-true, leb-false, eqb-true, eqb-false, not-true, not-false, lt-ltb, le-ltb, le-leb, lt-leb, eq-eqb, ne_eqb}
use lib.ListN.{length, drop}
use lib.Dec.{leb, ltb, eqb}
use Rattle.laws.specs.Lists.{any, all, any_pair}
use Rattle.laws.specs.Over.{overwrite}
use Rattle.laws.specs.Gather.{gather}
use Rattle.laws.proofs.Holds.{holds_cond}
use Rattle.laws.proofs.Over.{drop_over, length_over}
use Rattle.table.specs.Table.{decode, header_of, words_of, uris_of, standard}
use Rattle.table.specs.Judge.{judged, said, header_fits, length_fits, word_fits, is_empty, rules_clash, uris_clash}
use Rattle.table.specs.declared.Answer.{Answer}
use Rattle.reader.specs.Events as scene
use Rattle.reader.proofs.Held.{NextHeld, next_held, numbered, cut_at}
use Rattle.model.specs.Theory.{Record}
use Rattle.model.specs.Tree.{start}
use Rattle.model.specs.Elements.{element_of}
use Rattle.model.specs.Records.{Body}
use Rattle.model.specs.Stream.{entries_at, after}
use Rattle.model.specs.Dispatch.{dispatch, record_bytes_of}
use Rattle.sessions.specs.Sessions.{reader_of, state_of}
use Rattle.sessions.specs.Coherence.{coherent}
use Rattle.sessions.specs.Stepping.{Plan, refused, finished, event, start_plan, own_declarations, plan_by, plan_of, Step, refused_step, event_step, planned, longest, step_of}
use Rattle.sessions.specs.Session.{Session}
use Rattle.demands.specs.Answers.{Ready, Deep, Full, Crowded, Spent, Limit, Starts, Answered, bad_table, long_scene, bad_session, unread, all_read, limited, no_room, wrote, Unchanged, Changed, Exactly, ExactlyAt, Unread, AllRead, NoRoom}
use Rattle.demands.proofs.Goes.{event_goes}
use Rattle.sessions.proofs.CoherentSound.{coherent_held}
use Rattle.sessions.proofs.Room.{records_length}

-- judge's numbers
abbrev pub Judges : Answer → Type 0
Judges a = (a.number ≡ 0) ⊎ ((10 ≤ a.number) × (a.number ≤ 12))

by_tests : (n : ℕ) (a b c d e : Bool) → Judges (cond a (said 10 0) (cond b (said 11 0) (cond c (said 10 0) (cond d (said 11 0) (cond e (said 12 0) (said 0 n))))))
by_tests n true b c d e = inr (omega arith)
by_tests n false true c d e = inr (omega arith)
by_tests n false false true d e = inr (omega arith)
by_tests n false false false true e = inr (omega arith)
by_tests n false false false false true = inr (omega arith)
by_tests n false false false false false = inl refl

pub judges : (table : List ℕ) → Judges (judged table)
unfolding judged
judges table =
    let h = header_of table in
    by_tests (length table) (ltb (length table) 4) (not (header_fits h)) (not (length_fits table h)) (not (all (word_fits h) (words_of table h)) || any is_empty (uris_of table h)) (any_pair rules_clash (words_of table h) || uris_clash (uris_of table h))

-- ---- each step has a stage
module _ (table s : List ℕ) (z : Session) (out : List ℕ) where
  module _ (r : Ready table s z) where
    by_event : (p : ℕ) (rs : List (Record Body ℕ)) (z'' : Session) → plan_of (decode table) s z ≡ event p rs z'' → Answered table s z out (event_step p rs z'' z out)
    by_event p rs z'' q =
        holds_cond (Answered table s z out) (ltb (length out) (16 * length rs))
        (λ l. no_room r p rs z'' q (ltb-true (length out) (16 * length rs) l))
        (λ l. wrote r p rs z'' q (ltb-false (length out) (16 * length rs) l))

    by_start : (e : scene.Start) (o : scene.Open) (place : ℕ) → Starts s z e o → plan_of (decode table) s z ≡ start_plan (decode table) s z e o.declarations place → Answered table s z out (planned (start_plan (decode table) s z e o.declarations place) z out)
    unfolding start_plan
    by_start e o place q plan =
        let t = decode table in
        let state = state_of t s z in
        let strands = length (entries_at (dispatch t) state.levels (element_of t s e)) in
        let units = (after (dispatch t) state (start (element_of t s e))).units in
        let bound = z.scope.bound + length o.declarations in
        holds_cond (λ (x : Plan). plan_of t s z ≡ x → Answered table s z out (planned x z out)) (leb 64 z.scope.depth)
        (λ a k. limited r e o q 21 (inl (refl, leb-true 64 z.scope.depth a)) (omega arith) (omega arith))
        (λ a.
        let d : z.scope.depth < 64 = leb-false 64 z.scope.depth a in
        holds_cond (λ (x : Plan). plan_of t s z ≡ x → Answered table s z out (planned x z out)) (ltb 64 bound)
        (λ b k. limited r e o q 22 (inr (inl (refl, (d, ltb-true 64 bound b)))) (omega arith) (omega arith))
        (λ b.
        holds_cond (λ (x : Plan). plan_of t s z ≡ x → Answered table s z out (planned x z out)) (ltb 16 strands)
        (λ c k. limited r e o q 23 (inr (inr (inl (refl, (d, ltb-false 64 bound b, ltb-true 16 strands c))))) (omega arith) (omega arith))
        (λ c.
        holds_cond (λ (x : Plan). plan_of t s z ≡ x → Answered table s z out (planned x z out)) (ltb 65536 units)
        (λ u k. limited r e o q 24 (inr (inr (inr (refl, (d, ltb-false 64 bound b, ltb-false 16 strands c, ltb-true 65536 units u))))) (omega arith) (omega arith))
        (λ u k. by_event _ _ _ k))))
        plan

    by_next : (x : scene.Next) → scene.next s (reader_of z) ≡ x → plan_of (decode table) s z ≡ plan_by (decode table) s z x → Answered table s z out (planned (plan_by (decode table) s z x) z out)
    by_next (scene.refusal n p) q k = let i = numbered s (reader_of z) (coherent_held (decode table) s z r.fits) n p q in unread r n p q i.some i.few
    by_next (scene.finished p) q k = all_read r p q
    by_next (scene.event (scene.text w) z') q k = by_event _ _ _ k
    by_next (scene.event (scene.end part at) z') q k = by_event _ _ _ k
    by_next (scene.event (scene.start e) z') q k = opens z'.opened refl k
      where
        opens : (os : List scene.Open) → z'.opened ≡ os → plan_of (decode table) s z ≡ start_plan (decode table) s z e (own_declarations os) z'.place → Answered table s z out (planned (start_plan (decode table) s z e (own_declarations os) z'.place) z out)
        opens [] n k =
            let g = event_goes s (reader_of z) (scene.start e) z' q in
            let w : ◌≡◌ {A = ℕ} 0 1 = cc g.0.1 in
            absurd (omega arith)
        opens (o ∷ os) n k =
            let g = event_goes s (reader_of z) (scene.start e) z' q in
            let same : g.0.0 ∷ (reader_of z).opened ≡ o ∷ os = sym g.0.1 ∙ n in
            let rest : (reader_of z).opened ≡ os = cc in
            by_start e o z'.place (record { behind = z'; reads = q; opens = n ∙ ap (λ (l : List scene.Open). o ∷ l) (sym rest) }) k

  pub answered_by : Answered table s z out (step_of standard table s z out)
  unfolding step_of plan_of
  answered_by =
      holds_cond (Answered table s z out) (not (eqb (judged table).number 0))
      (λ j. ⊎_elim (λ e. absurd (eqb-false (judged table).number 0 (not-true (eqb (judged table).number 0) j) e)) (λ b. bad_table b.0 b.1) (judges table))
      (λ j.
      let a : (judged table).number ≡ 0 = eqb-true (judged table).number 0 (not-false (eqb (judged table).number 0) j) in
      holds_cond (Answered table s z out) (ltb longest (length s))
      (λ l. long_scene a (ltb-true longest (length s) l))
      (λ l.
      let few : length s ≤ longest = ltb-false longest (length s) l in
      holds_cond (Answered table s z out) (not (coherent (decode table) s z))
      (λ c. bad_session a few (not-true (coherent (decode table) s z) c))
      (λ c. by_next (record { accepted = a; short = few; fits = not-false (coherent (decode table) s z) c }) (scene.next s (reader_of z)) refl refl)))

  -- ---- and a stage has one answer
  pub step_planned : Ready table s z → step_of standard table s z out ≡ planned (plan_of (decode table) s z) z out
  unfolding step_of
  step_planned r = rw (eq-eqb (judged table).number 0 r.accepted, le-ltb longest (length s) r.short, r.fits)

  plan_next : (x : scene.Next) → scene.next s (reader_of z) ≡ x → plan_of (decode table) s z ≡ plan_by (decode table) s z x
  unfolding plan_of
  plan_next x q = ap (plan_by (decode table) s z) q

  limit_plan : (e : scene.Start) (o : scene.Open) (place n : ℕ) → Limit (decode table) s z e o n → start_plan (decode table) s z e o.declarations place ≡ refused n e.at
  unfolding start_plan
  limit_plan e o place n (inl (q, d)) = rw (le-leb 64 z.scope.depth d, q)
  limit_plan e o place n (inr (inl (q, h))) = rw (lt-leb 64 z.scope.depth h.0, lt-ltb 64 (z.scope.bound + length o.declarations) h.1, q)
  limit_plan e o place n (inr (inr (inl (q, h)))) =
      rw (lt-leb 64 z.scope.depth h.0, le-ltb 64 (z.scope.bound + length o.declarations) h.1, lt-ltb 16 (length (entries_at (dispatch (decode table)) (state_of (decode table) s z).levels (element_of (decode table) s e))) h.2, q)
  limit_plan e o place n (inr (inr (inr (q, h)))) =
      rw (lt-leb 64 z.scope.depth h.0, le-ltb 64 (z.scope.bound + length o.declarations) h.1, le-ltb 16 (length (entries_at (dispatch (decode table)) (state_of (decode table) s z).levels (element_of (decode table) s e))) h.2, lt-ltb 65536 (after (dispatch (decode table)) (state_of (decode table) s z) (start (element_of (decode table) s e))).units h.3, q)

  starts_plan : (e : scene.Start) (o : scene.Open) (q : Starts s z e o) → plan_of (decode table) s z ≡ start_plan (decode table) s z e o.declarations q.behind.place
  starts_plan e o q = plan_next (scene.event (scene.start e) q.behind) q.reads ∙ ap (λ (os : List scene.Open). start_plan (decode table) s z e (own_declarations os) q.behind.place) q.opens

  pub answered_so : {r : Step} → Answered table s z out r → step_of standard table s z out ≡ r
  unfolding step_of
  answered_so (bad_table lo hi) = rw (ne_eqb (judged table).number 0 (λ e. omega arith))
  answered_so (long_scene a l) = rw (eq-eqb (judged table).number 0 a, lt-ltb longest (length s) l)
  answered_so (bad_session a l c) = rw (eq-eqb (judged table).number 0 a, le-ltb longest (length s) l, c)
  answered_so (unread r n p q lo hi) = step_planned r ∙ ap (λ (x : Plan). planned x z out) (plan_next (scene.refusal n p) q)
  answered_so (all_read r p q) = step_planned r ∙ ap (λ (x : Plan). planned x z out) (plan_next (scene.finished p) q)
  answered_so (limited r e o q n l lo hi) = step_planned r ∙ ap (λ (x : Plan). planned x z out) (starts_plan e o q ∙ limit_plan e o q.behind.place n l)
  answered_so (no_room r p rs z'' q l) = step_planned r ∙ ap (λ (x : Plan). planned x z out) q ∙ rw (lt-ltb (length out) (16 * length rs) l)
  answered_so (wrote r p rs z'' q l) = step_planned r ∙ ap (λ (x : Plan). planned x z out) q ∙ rw (le-ltb (length out) (16 * length rs) l)

-- ---- what a step changes
module _ (table s : List ℕ) (z : Session) (out : List ℕ) where
  keeps : {r : Step} → Answered table s z out r → (r.answer.number ≡ 0 → ⊥) → Unchanged z out r
  keeps (bad_table lo hi) n = record { session = refl; output = refl; events = refl; records = refl }
  keeps (long_scene a l) n = record { session = refl; output = refl; events = refl; records = refl }
  keeps (bad_session a l c) n = record { session = refl; output = refl; events = refl; records = refl }
  keeps (unread r k p q lo hi) n = record { session = refl; output = refl; events = refl; records = refl }
  keeps (all_read r p q) n = record { session = refl; output = refl; events = refl; records = refl }
  keeps (limited r e o q k l lo hi) n = record { session = refl; output = refl; events = refl; records = refl }
  keeps (no_room r p rs z'' q l) n = record { session = refl; output = refl; events = refl; records = refl }
  keeps (wrote r p rs z'' q l) n = absurd (n refl)

  writes : {r : Step} → Answered table s z out r → r.answer.number ≡ 0 → Ready table s z × Changed (decode table) s z out r
  writes (bad_table lo hi) n = absurd (omega arith)
  writes (long_scene a l) n = absurd (omega arith)
  writes (bad_session a l c) n = absurd (omega arith)
  writes (unread r k p q lo hi) n = absurd (omega arith)
  writes (all_read r p q) n = absurd (omega arith)
  writes (limited r e o q k l lo hi) n = absurd (omega arith)
  writes (no_room r p rs z'' q l) n = absurd (omega arith)
  writes (wrote r p rs z'' q l) n =
      let size : length (gather record_bytes_of rs) ≡ 16 * length rs = records_length rs in
      let from : 0 + length (gather record_bytes_of rs) ≡ 16 * length rs = omega arith in (
        r,
        record {
          at = p;
          records = rs;
          plan = q;
          place = refl;
          events = refl;
          count = refl;
          room = l;
          output = refl;
          bytes = size;
          rest = subst (λ (k : ℕ). drop k (overwrite out 0 (gather record_bytes_of rs)) ≡ drop k out) from (drop_over out 0 (gather record_bytes_of rs) (omega arith));
          size = length_over out 0 (gather record_bytes_of rs) (omega arith);
        },
      )

  pub refused_keeps : ((step_of standard table s z out).answer.number ≡ 0 → ⊥) → Unchanged z out (step_of standard table s z out)
  refused_keeps = keeps (answered_by table s z out)

  pub accepted_writes : (step_of standard table s z out).answer.number ≡ 0 → Ready table s z × Changed (decode table) s z out (step_of standard table s z out)
  accepted_writes = writes (answered_by table s z out)

-- ---- when a number is given
module _ (table s : List ℕ) (z : Session) (out : List ℕ) where
  -- 10, 11 and 12
  pub exactly_table : (n : ℕ) → 10 ≤ n → n ≤ 12 → Exactly table s z out n (judged table).place ((judged table).number ≡ n)
  exactly_table n lo hi =
      record {
        when = λ e. answered_so table s z out (bad_table (omega arith) (omega arith)) ∙ ap (λ (k : ℕ). refused_step k (judged table).place z out) e;
        only = by (answered_by table s z out);
      }
    where
      by : {r : Step} → Answered table s z out r → r.answer.number ≡ n → (judged table).number ≡ n
      by (bad_table a b) e = e
      by (long_scene a l) e = absurd (omega arith)
      by (bad_session a l c) e = absurd (omega arith)
      by (unread r k p q a b) e = absurd (omega arith)
      by (all_read r p q) e = absurd (omega arith)
      by (limited r x o q k l a b) e = absurd (omega arith)
      by (no_room r p rs z'' q l) e = absurd (omega arith)
      by (wrote r p rs z'' q l) e = absurd (omega arith)

  pub exactly_7 : Exactly table s z out 7 0 (((judged table).number ≡ 0) × (longest < length s))
  exactly_7 = record { when = λ c. answered_so table s z out (long_scene c.0 c.1); only = by (answered_by table s z out) }
    where
      by : {r : Step} → Answered table s z out r → r.answer.number ≡ 7 → ((judged table).number ≡ 0) × (longest < length s)
      by (bad_table a b) e = absurd (omega arith)
      by (long_scene a l) e = (a, l)
      by (bad_session a l c) e = absurd (omega arith)
      by (unread r k p q a b) e = absurd (omega arith)
      by (all_read r p q) e = absurd (omega arith)
      by (limited r x o q k l a b) e = absurd (omega arith)
      by (no_room r p rs z'' q l) e = absurd (omega arith)
      by (wrote r p rs z'' q l) e = absurd (omega arith)

  pub exactly_20 : Exactly table s z out 20 0 (((judged table).number ≡ 0) × (length s ≤ longest) × (coherent (decode table) s z ≡ false))
  exactly_20 = record { when = λ c. answered_so table s z out (bad_session c.0 c.1 c.2); only = by (answered_by table s z out) }
    where
      by : {r : Step} → Answered table s z out r → r.answer.number ≡ 20 → ((judged table).number ≡ 0) × (length s ≤ longest) × (coherent (decode table) s z ≡ false)
      by (bad_table a b) e = absurd (omega arith)
      by (long_scene a l) e = absurd (omega arith)
      by (bad_session a l c) e = (a, l, c)
      by (unread r k p q a b) e = absurd (omega arith)
      by (all_read r p q) e = absurd (omega arith)
      by (limited r x o q k l a b) e = absurd (omega arith)
      by (no_room r p rs z'' q l) e = absurd (omega arith)
      by (wrote r p rs z'' q l) e = absurd (omega arith)

  -- 1 to 6: the reader's
  pub exactly_read : (n : ℕ) → 1 ≤ n → n ≤ 6 → ExactlyAt table s z out n (Unread table s z n)
  exactly_read n lo hi =
      record { when = λ p c. answered_so table s z out (unread c.0 n p c.1 lo hi); only = by (answered_by table s z out) }
    where
      by : {r : Step} → Answered table s z out r → r.answer.number ≡ n → Unread table s z n r.answer.place
      by (bad_table a b) e = absurd (omega arith)
      by (long_scene a l) e = absurd (omega arith)
      by (bad_session a l c) e = absurd (omega arith)
      by (unread r k p q a b) e = (r, q ∙ ap (λ (i : ℕ). scene.refusal i p) e)
      by (all_read r p q) e = absurd (omega arith)
      by (limited r x o q k l a b) e = absurd (omega arith)
      by (no_room r p rs z'' q l) e = absurd (omega arith)
      by (wrote r p rs z'' q l) e = absurd (omega arith)

  pub exactly_9 : ExactlyAt table s z out 9 (AllRead table s z)
  exactly_9 = record { when = λ p c. answered_so table s z out (all_read c.0 p c.1); only = by (answered_by table s z out) }
    where
      by : {r : Step} → Answered table s z out r → r.answer.number ≡ 9 → AllRead table s z r.answer.place
      by (bad_table a b) e = absurd (omega arith)
      by (long_scene a l) e = absurd (omega arith)
      by (bad_session a l c) e = absurd (omega arith)
      by (unread r k p q a b) e = absurd (omega arith)
      by (all_read r p q) e = (r, q)
      by (limited r x o q k l a b) e = absurd (omega arith)
      by (no_room r p rs z'' q l) e = absurd (omega arith)
      by (wrote r p rs z'' q l) e = absurd (omega arith)

  pub exactly_25 : ExactlyAt table s z out 25 (NoRoom table s z out)
  exactly_25 =
      record { when = λ p c. answered_so table s z out (no_room c.0 p c.1.0 c.1.1 c.1.2 c.1.3); only = by (answered_by table s z out) }
    where
      by : {r : Step} → Answered table s z out r → r.answer.number ≡ 25 → NoRoom table s z out r.answer.place
      by (bad_table a b) e = absurd (omega arith)
      by (long_scene a l) e = absurd (omega arith)
      by (bad_session a l c) e = absurd (omega arith)
      by (unread r k p q a b) e = absurd (omega arith)
      by (all_read r p q) e = absurd (omega arith)
      by (limited r x o q k l a b) e = absurd (omega arith)
      by (no_room r p rs z'' q l) e = (r, (rs, z'', q, l))
      by (wrote r p rs z'' q l) e = absurd (omega arith)

  -- 21 to 24: the reader reads the start e, which opens o
  module _ (r : Ready table s z) (e : scene.Start) (o : scene.Open) (q : Starts s z e o) where
    limit_only : (n : ℕ) → 21 ≤ n → n ≤ 24 → (step_of standard table s z out).answer.number ≡ n → Limit (decode table) s z e o n
    limit_only n lo hi = by (answered_by table s z out)
      where
        by : {r : Step} → Answered table s z out r → r.answer.number ≡ n → Limit (decode table) s z e o n
        by (bad_table a b) k = absurd (omega arith)
        by (long_scene a l) k = absurd (omega arith)
        by (bad_session a l c) k = absurd (omega arith)
        by (unread r i p x a b) k = absurd (omega arith)
        by (all_read r p x) k = absurd (omega arith)
        by (limited r e' o' q' i l a b) k =
            let told : scene.event (scene.start e') q'.behind ≡ scene.event (scene.start e) q.behind = sym q'.reads ∙ q.reads in
            let same : e' ≡ e = cc in
            let behind : q'.behind ≡ q.behind = cc in
            let both : o' ∷ (reader_of z).opened ≡ o ∷ (reader_of z).opened = sym q'.opens ∙ ap (λ (y : scene.ReaderState). y.opened) behind ∙ q.opens in
            let opens : o' ≡ o = cc in
            subst (Limit (decode table) s z e o) k (subst (λ (y : scene.Open). Limit (decode table) s z e y i) opens (subst (λ (y : scene.Start). Limit (decode table) s z y o' i) same l))
        by (no_room r p rs z'' x l) k = absurd (omega arith)
        by (wrote r p rs z'' x l) k = absurd (omega arith)

    limit_when : (n : ℕ) → 21 ≤ n → n ≤ 24 → Limit (decode table) s z e o n → step_of standard table s z out ≡ refused_step n e.at z out
    limit_when n lo hi l = answered_so table s z out (limited r e o q n l lo hi)

    pub exactly_21 : Exactly table s z out 21 e.at (Deep (decode table) s z e o)
    exactly_21 = record { when = λ c. limit_when 21 (omega arith) (omega arith) (inl (refl, c)); only = λ n. by (limit_only 21 (omega arith) (omega arith) n) }
      where
        by : Limit (decode table) s z e o 21 → Deep (decode table) s z e o
        by (inl (k, c)) = c
        by (inr (inl (k, c))) = absurd (omega arith)
        by (inr (inr (inl (k, c)))) = absurd (omega arith)
        by (inr (inr (inr (k, c)))) = absurd (omega arith)

    pub exactly_22 : Exactly table s z out 22 e.at (Full (decode table) s z e o)
    exactly_22 = record { when = λ c. limit_when 22 (omega arith) (omega arith) (inr (inl (refl, c))); only = λ n. by (limit_only 22 (omega arith) (omega arith) n) }
      where
        by : Limit (decode table) s z e o 22 → Full (decode table) s z e o
        by (inl (k, c)) = absurd (omega arith)
        by (inr (inl (k, c))) = c
        by (inr (inr (inl (k, c)))) = absurd (omega arith)
        by (inr (inr (inr (k, c)))) = absurd (omega arith)

    pub exactly_23 : Exactly table s z out 23 e.at (Crowded (decode table) s z e o)
    exactly_23 = record { when = λ c. limit_when 23 (omega arith) (omega arith) (inr (inr (inl (refl, c)))); only = λ n. by (limit_only 23 (omega arith) (omega arith) n) }
      where
        by : Limit (decode table) s z e o 23 → Crowded (decode table) s z e o
        by (inl (k, c)) = absurd (omega arith)
        by (inr (inl (k, c))) = absurd (omega arith)
        by (inr (inr (inl (k, c)))) = c
        by (inr (inr (inr (k, c)))) = absurd (omega arith)

    pub exactly_24 : Exactly table s z out 24 e.at (Spent (decode table) s z e o)
    exactly_24 = record { when = λ c. limit_when 24 (omega arith) (omega arith) (inr (inr (inr (refl, c)))); only = λ n. by (limit_only 24 (omega arith) (omega arith) n) }
      where
        by : Limit (decode table) s z e o 24 → Spent (decode table) s z e o
        by (inl (k, c)) = absurd (omega arith)
        by (inr (inl (k, c))) = absurd (omega arith)
        by (inr (inr (inl (k, c)))) = absurd (omega arith)
        by (inr (inr (inr (k, c)))) = c

  -- 21 to 24 at no other event
  pub limit_starts : (step_of standard table s z out).answer.number < 25 → 20 < (step_of standard table s z out).answer.number
      → Ready table s z × ((e : scene.Start) × (o : scene.Open) × Starts s z e o × ((step_of standard table s z out).answer.place ≡ e.at))
  limit_starts = by (answered_by table s z out)
    where
      by : {r : Step} → Answered table s z out r → r.answer.number < 25 → 20 < r.answer.number → Ready table s z × ((e : scene.Start) × (o : scene.Open) × Starts s z e o × (r.answer.place ≡ e.at))
      by (bad_table a b) hi lo = absurd (omega arith)
      by (long_scene a l) hi lo = absurd (omega arith)
      by (bad_session a l c) hi lo = absurd (omega arith)
      by (unread r k p q a b) hi lo = absurd (omega arith)
      by (all_read r p q) hi lo = absurd (omega arith)
      by (limited r e o q k l a b) hi lo = (r, (e, o, q, refl))
      by (no_room r p rs z'' q l) hi lo = absurd (omega arith)
      by (wrote r p rs z'' q l) hi lo = absurd (omega arith)

  -- 9 and 1 at the scene's end alone, 9 behind the root alone
  pub finished_there : (step_of standard table s z out).answer.number ≡ 9 → ((step_of standard table s z out).answer.place ≡ length s) × (z.closed ≡ true)
  finished_there n =
      let c = exactly_9.only n in
      subst (NextHeld s (reader_of z)) c.1 (next_held s (reader_of z) (coherent_held (decode table) s z c.0.fits))

  pub cut_there : (step_of standard table s z out).answer.number ≡ 1 → (step_of standard table s z out).answer.place ≡ length s
  cut_there n =
      let c = (exactly_read 1 (omega arith) (omega arith)).only n in
      cut_at s (reader_of z) (coherent_held (decode table) s z c.0.fits) (step_of standard table s z out).answer.place c.1
