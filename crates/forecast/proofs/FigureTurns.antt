-- A turn of the loop of `figures_of`: what a step without an output makes of the figures so far; and the arrays before the first turn.
use Prim.Native.Nat.{ℕ, ◌+◌, ◌^◌, ◌≤◌, ◌<◌}
use mathlib.Core.Path.{◌≡◌, refl, sym, ap, subst, ◌∙◌}
use mathlib.Core.List.{List}
use mathlib.Core.Bool.{true}
use mathlib.Core.Logic.{◌⊎◌, ⊎_elim}
use native.Mathlib.Omega.{arith}
use lib.ListN.{length, replicate, length-replicate}
use Rattle.table.specs.Table.{decode, header_of}
use Rattle.table.specs.Index.{index_of}
use Rattle.table.specs.Judge.{Accepted}
use Rattle.reader.proofs.Progress.{left_of}
use Rattle.sessions.specs.Sessions.{strand_count, reader_of, fresh_of, head_of, session_at}
use Rattle.sessions.specs.Stepping.{plan_of, Step}
use Rattle.sessions.specs.Turns.{Beside, LoopReady, weighed}
use Rattle.sessions.specs.Session.{Session}
use Rattle.sessions.specs.declared.Head.{Head}
use Rattle.advances.proofs.RunTurns.{fresh_arrays}
use Rattle.sessions.proofs.SoundCoherent.{sound_coherent}
use Rattle.forecast.specs.Forecasts.{greater_of, figures_of}
use Rattle.forecast.proofs.Stops.{Went, turn_stops, turn_goes}
use Rattle.forecast.proofs.Figured.{Figured, figured_fresh, left_less, shallow_behind, records_fit, opened_figured, stayed_figured, figured_stops}

-- ---- before the first turn
pub first_figured : (table s : List ℕ) (head : Head) → head ≡ head_of fresh_of → Figured table s (session_at head (replicate 1536 0) (replicate 256 0)) 0 0 0
first_figured table s head e =
    subst (λ (z : Session). Figured table s z 0 0 0) (sym (ap (λ (h : Head). session_at h (replicate 1536 0) (replicate 256 0)) e ∙ fresh_arrays)) (figured_fresh table s)

pub first_beside : (table s : List ℕ) (head : Head) → head ≡ head_of fresh_of → Beside table s (replicate 160 0) (session_at head (replicate 1536 0) (replicate 256 0))
first_beside table s head e =
    let none : head.bound ≡ 0 = ap (λ (h : Head). h.bound) e in
    record {
      known_long = length-replicate {A = ℕ} 160 0;
      bindings_long = length-replicate {A = ℕ} 256 0;
      keys = λ k lt. absurd (omega (arith, none));
      classes = λ k lt. absurd (omega (arith, none));
    }

-- ---- a turn
pub turn_ready : (table index s known : List ℕ) (z : Session) (records strands depth : ℕ) → (Accepted table ≡ true) × (index ≡ index_of table (header_of table)) × (length s ≤ 16777215)
    → Figured table s z records strands depth → Beside table s known z → LoopReady table index s known z
turn_ready table index s known z records strands depth p g b =
    record {
      ready = record { accepted = p.0; header_is = refl; index_is = p.1; short = p.2; coherent' = sound_coherent (decode table) s z g.reached.sound };
      beside = b;
    }

pub record Turned (table s : List ℕ) (z : Session) (records strands depth : ℕ) (r : Step) : Type 0 where
  pub stops : (r.answer.number ≡ 0 → ⊥) → record { number = r.answer.number; place = r.answer.place; records = records; units = z.units; strands = strands; depth = depth } ≡ figures_of (decode table) s
  pub fits : r.answer.number ≡ 0 → records + r.answer.records < 2 ^ 64
  pub shallow : r.answer.number ≡ 0 → r.session.scope.depth ≤ 64
  pub less : r.answer.number ≡ 0 → left_of s (reader_of r.session) < left_of s (reader_of z)
  pub opens : r.answer.number ≡ 0 → z.scope.depth < r.session.scope.depth
      → Figured table s r.session (records + r.answer.records) (greater_of strands (strand_count r.session z.scope.depth)) (greater_of depth r.session.scope.depth)
  pub stays : r.answer.number ≡ 0 → r.session.scope.depth ≤ z.scope.depth → Figured table s r.session (records + r.answer.records) strands depth

pub turned : (table s : List ℕ) → Accepted table ≡ true → length s ≤ 16777215 → (z : Session) (records strands depth : ℕ) → Figured table s z records strands depth
    → (r : Step) → r ≡ weighed (plan_of (decode table) s z) z → Turned table s z records strands depth r
turned table s ok short z records strands depth g r e =
    record {
      stops = λ n. figured_stops table s z records strands depth g r.answer.number r.answer.place (turn_stops table ok s short z g.events_taken g.taken g.reached r e n);
      fits = λ n. let w = went n in rw w.count (records_fit table ok s short z records strands depth g w.place w.records r.session w.is);
      shallow = λ n. let w = went n in shallow_behind table ok s short z records strands depth g w.place w.records r.session w.is;
      less = λ n. let w = went n in left_less table ok s short z records strands depth g w.place w.records r.session w.is;
      opens = λ n lt. let w = went n in rw w.count (opened_figured table ok s short z records strands depth g w.place w.records r.session w.is lt);
      stays = λ n le. let w = went n in rw w.count (stayed_figured table ok s short z records strands depth g w.place w.records r.session w.is le);
    }
  where
    went : r.answer.number ≡ 0 → Went table ok s short z g.events_taken g.taken g.reached r
    went n = turn_goes table ok s short z g.events_taken g.taken g.reached r e n

-- by which way the turn went: strands and depth are raised where a level was opened
pub turn_again : (table s : List ℕ) (z : Session) (records strands depth : ℕ) (r : Step) → Turned table s z records strands depth r → r.answer.number ≡ 0 → (most deep : ℕ)
    → ((z.scope.depth < r.session.scope.depth) × (most ≡ greater_of strands (strand_count r.session z.scope.depth)) × (deep ≡ greater_of depth r.session.scope.depth))
    ⊎ ((r.session.scope.depth ≤ z.scope.depth) × (most ≡ strands) × (deep ≡ depth))
    → Figured table s r.session (records + r.answer.records) most deep
turn_again table s z records strands depth r h n most deep =
    ⊎_elim
    (λ w. rw (w.1, w.2) (h.opens n w.0))
    (λ w. rw (w.1, w.2) (h.stays n w.0))
