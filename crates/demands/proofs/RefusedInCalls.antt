-- The law about the refused byte (RefusedByte) for a session that calls of step and of advance handed back: it is coherent with each part of the scene
-- that is spoken of.
--     byte_before, byte_closed     the bytes before the place of a refusal by the reader
--     byte_after, byte_until       those up to the place of a 2 or a 3, and those that settle it; until then
use Prim.Native.Nat.{ℕ, ◌+◌, ◌≤◌, ◌<◌}
use mathlib.Core.Path.{◌≡◌, sym, subst}
use mathlib.Core.List.{List, ◌++◌, map}
use mathlib.Core.Bool.{true, false}
use mathlib.Core.Logic.{◌⊎◌}
use native.Mathlib.Omega.{arith}
use lib.ListN.{length, take}
use Rattle.table.specs.Table.{decode, standard}
use Rattle.reader.specs.Events.{refusal, next}
use Rattle.reader.proofs.Progress.{Moved, next_moves}
use Rattle.sessions.specs.Sessions.{reader_of, fresh_of}
use Rattle.sessions.specs.Coherence.{coherent}
use Rattle.sessions.specs.Stepping.{refused_step, longest, step_of}
use Rattle.sessions.specs.Session.{Session}
use Rattle.demands.specs.Answers.{settled}
use Rattle.demands.specs.Calls.{BeginsWith, Growing, last_scene, AnyCall, call_of, calls_from, session_after, events_in}
use Rattle.demands.proofs.CoherentMore.{coherent_more}
use Rattle.demands.proofs.Refusals.{exactly_read}
use Rattle.demands.proofs.RefusedByte.{refused_before, refused_closed, refused_after, refused_until}
use Rattle.demands.proofs.Reached.{Reached, reached_more, reached_coherent}
use Rattle.demands.proofs.Calls.{all_called, all_reached}

-- z: the session that calls handed back, each scene beginning with the one before; s: a scene that begins with their last
module _ (table : List ℕ) (calls : List AnyCall) (g : Growing (map call_of calls)) (z : Session) (is : session_after table fresh_of calls ≡ z) (s : List ℕ) (longer : BeginsWith s (last_scene (map call_of calls))) (out : List ℕ) where
  reached : Reached (decode table) s z (events_in (calls_from table fresh_of calls)) (all_called table calls g).records
  reached =
      let k = events_in (calls_from table fresh_of calls) in
      let rs = (all_called table calls g).records in
      let last = last_scene (map call_of calls) in
      let there : Reached (decode table) last z k rs = subst (λ (w : Session). Reached (decode table) last w k rs) is (all_reached table calls g) in
      subst (λ (l : List ℕ). Reached (decode table) l z k rs) (sym longer.1) (reached_more (decode table) last z k rs there longer.0)

  fits : (k : ℕ) → z.place ≤ k → coherent (decode table) (take k s) z ≡ true
  fits = reached_coherent (decode table) s z _ _ reached

  -- n at the place p, by the reader
  module _ (n p : ℕ) (lo : 1 ≤ n) (hi : n ≤ 6) (q : (step_of standard table s z out).answer.number ≡ n) (at : (step_of standard table s z out).answer.place ≡ p) where
    behind : z.place ≤ p
    behind =
        let told : next s (reader_of z) ≡ refusal n p = subst (λ (i : ℕ). next s (reader_of z) ≡ refusal n i) at ((exactly_read table s z out n lo hi).only q).1 in
        (subst (Moved s (reader_of z)) told (next_moves s (reader_of z))).1 reached.sound.held.place

    pub byte_before : z.closed ≡ false → step_of standard table (take p s) z out ≡ refused_step 1 p z out
    byte_before = refused_before table s z out n p lo hi q at (fits p behind)

    pub byte_closed : z.closed ≡ true → (step_of standard table (take p s) z out ≡ refused_step 9 p z out) ⊎ (step_of standard table (take p s) z out ≡ refused_step 1 p z out)
    byte_closed = refused_closed table s z out n p lo hi q at (fits p behind)

  -- 2 or 3 at the place p
  module _ (n p : ℕ) (lo : 2 ≤ n) (hi : n ≤ 3) (q : (step_of standard table s z out).answer.number ≡ n) (at : (step_of standard table s z out).answer.place ≡ p) where
    behind_p : z.place ≤ p
    behind_p = behind n p (omega arith) (omega arith) q at

    pub byte_after : (rest : List ℕ) → length (take (p + 1 + settled s (reader_of z) p) s ++ rest) ≤ longest → step_of standard table (take (p + 1 + settled s (reader_of z) p) s ++ rest) z out ≡ refused_step n p z out
    byte_after rest l =
        let size = p + 1 + settled s (reader_of z) p in
        refused_after table s z out n p lo hi q at rest l (coherent_more (decode table) (take size s) rest z (fits size (omega (arith, behind_p))))

    pub byte_until : (k : ℕ) → p < k → k ≤ length s → (step_of standard table (take k s) z out ≡ refused_step n p z out) ⊎ (step_of standard table (take k s) z out ≡ refused_step 1 k z out)
    byte_until k lt le = refused_until table s z out n p lo hi q at k lt le (fits k (omega (arith, behind_p)))
