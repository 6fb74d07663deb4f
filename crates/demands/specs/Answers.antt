-- Demand 1: the stages of a step, in document 01's order; when a number is given; what a step changes. Definitions.
use Rattle.std.specs.Prelude.{ℕ, ◌+◌, ◌-◌, ◌*◌, ◌≤◌, ◌<◌, ◌≡◌, List, ◌∷◌, ◌++◌, Bool, true, false, cond, not, ◌&&◌, ◌⊎◌, length, drop, get_or, eqb, Ok, Err}
use Rattle.laws.specs.Over.{overwrite}
use Rattle.laws.specs.Gather.{gather}
use Rattle.table.specs.Table.{Table, decode, standard}
use Rattle.table.specs.Judge.{judged}
use Rattle.utf8.specs.Utf8.{utf8}
use Rattle.lexer.specs.Values.{closes}
use Rattle.lexer.specs.Misc.{is_xml}
use Rattle.lexer.specs.Begins.{begin_at}
use Rattle.lexer.specs.Reads.{BeginRead}
use Rattle.lexer.specs.declared.Begin.TheVariants as begin
use Rattle.reader.specs.Events as scene
use Rattle.model.specs.Theory.{Record}
use Rattle.model.specs.Tree.{start}
use Rattle.model.specs.Elements.{element_of}
use Rattle.model.specs.Records.{Body}
use Rattle.model.specs.Stream.{entries_at, after}
use Rattle.model.specs.Dispatch.{dispatch, record_bytes_of}
use Rattle.sessions.specs.Sessions.{reader_of, state_of}
use Rattle.sessions.specs.Coherence.{coherent}
use Rattle.sessions.specs.Stepping.{event, plan_of, Step, answered, refused_step, longest, step_of}
use Rattle.sessions.specs.Session.{Session}

-- nothing of 10, 11, 12, 7 and 20
pub record Ready (table s : List ℕ) (z : Session) : Type 0 where
  pub accepted : (judged table).number ≡ 0
  pub short : length s ≤ longest
  pub fits : coherent (decode table) s z ≡ true

-- "21 depth 65; 22 a 65th open binding; 23 a 17th strand; 24 a unit past 65,535", for a start e that opens o, each where none before it applies
module _ (t : Table) (s : List ℕ) (z : Session) (e : scene.Start) (o : scene.Open) where
  abbrev pub Deep : Type 0
  Deep = 64 ≤ z.scope.depth

  abbrev pub Full : Type 0
  Full = (z.scope.depth < 64) × (64 < z.scope.bound + length o.declarations)

  abbrev pub Crowded : Type 0
  Crowded =
      (z.scope.depth < 64)
      × (z.scope.bound + length o.declarations ≤ 64)
      × (16 < length (entries_at (dispatch t) (state_of t s z).levels (element_of t s e)))

  abbrev pub Spent : Type 0
  Spent =
      (z.scope.depth < 64)
      × (z.scope.bound + length o.declarations ≤ 64)
      × (length (entries_at (dispatch t) (state_of t s z).levels (element_of t s e)) ≤ 16)
      × (65536 < (after (dispatch t) (state_of t s z) (start (element_of t s e))).units)

  abbrev pub Limit : ℕ → Type 0
  Limit n = ((n ≡ 21) × Deep) ⊎ (((n ≡ 22) × Full) ⊎ (((n ≡ 23) × Crowded) ⊎ ((n ≡ 24) × Spent)))

-- the reader reads the start e, which opens o
pub record Starts (s : List ℕ) (z : Session) (e : scene.Start) (o : scene.Open) : Type 0 where
  pub behind : scene.ReaderState
  pub reads : scene.next s (reader_of z) ≡ scene.event (scene.start e) behind
  pub opens : behind.opened ≡ o ∷ (reader_of z).opened

-- "Order: 10 short, 11 header, 10, 11, 12, 7, 20; then 2, 3 or 1 by first byte; then 4; 5, 6, 21, 22, 23, 24; 25"
pub data Answered (table s : List ℕ) (z : Session) (out : List ℕ) : Step → Type 0 where
  bad_table : 10 ≤ (judged table).number → (judged table).number ≤ 12 → Answered table s z out (refused_step (judged table).number (judged table).place z out)
  long_scene : (judged table).number ≡ 0 → longest < length s → Answered table s z out (refused_step 7 0 z out)
  bad_session : (judged table).number ≡ 0 → length s ≤ longest → coherent (decode table) s z ≡ false → Answered table s z out (refused_step 20 0 z out)
  unread : Ready table s z → (n p : ℕ) → scene.next s (reader_of z) ≡ scene.refusal n p → 1 ≤ n → n ≤ 6 → Answered table s z out (refused_step n p z out)
  all_read : Ready table s z → (p : ℕ) → scene.next s (reader_of z) ≡ scene.finished p → Answered table s z out (refused_step 9 p z out)
  limited : Ready table s z → (e : scene.Start) (o : scene.Open) → Starts s z e o → (n : ℕ) → Limit (decode table) s z e o n → 21 ≤ n → n ≤ 24 → Answered table s z out (refused_step n e.at z out)
  no_room : Ready table s z → (p : ℕ) (rs : List (Record Body ℕ)) (z'' : Session) → plan_of (decode table) s z ≡ event p rs z'' → length out < 16 * length rs → Answered table s z out (refused_step 25 p z out)
  wrote : Ready table s z → (p : ℕ) (rs : List (Record Body ℕ)) (z'' : Session) → plan_of (decode table) s z ≡ event p rs z'' → 16 * length rs ≤ length out
      → Answered table s z out (record { answer = answered 0 z''.place 1 (length rs); session = z''; output = overwrite out 0 (gather record_bytes_of rs) })

-- "A step with any number but 0 returns the session unchanged and writes nothing"
pub record Unchanged (z : Session) (out : List ℕ) (r : Step) : Type 0 where
  pub session : r.session ≡ z
  pub output : r.output ≡ out
  pub events : r.answer.events ≡ 0
  pub records : r.answer.records ≡ 0

-- a step with 0: its event's records from the output's first byte on, what lies behind them as it was
pub record Changed (t : Table) (s : List ℕ) (z : Session) (out : List ℕ) (r : Step) : Type 0 where
  pub at : ℕ
  pub records : List (Record Body ℕ)
  pub plan : plan_of t s z ≡ event at records r.session
  pub place : r.answer.place ≡ r.session.place
  pub events : r.answer.events ≡ 1
  pub count : r.answer.records ≡ length records
  pub room : 16 * r.answer.records ≤ length out
  pub output : r.output ≡ overwrite out 0 (gather record_bytes_of records)
  pub bytes : length (gather record_bytes_of records) ≡ 16 * r.answer.records
  pub rest : drop (16 * r.answer.records) r.output ≡ drop (16 * r.answer.records) out
  pub size : length r.output ≡ length out

-- n at the place p, exactly where C
pub record Exactly (table s : List ℕ) (z : Session) (out : List ℕ) (n p : ℕ) (C : Type 0) : Type 0 where
  pub when : C → step_of standard table s z out ≡ refused_step n p z out
  pub only : (step_of standard table s z out).answer.number ≡ n → C

-- n, at each place p exactly where C p
pub record ExactlyAt (table s : List ℕ) (z : Session) (out : List ℕ) (n : ℕ) (C : ℕ → Type 0) : Type 0 where
  pub when : (p : ℕ) → C p → step_of standard table s z out ≡ refused_step n p z out
  pub only : (step_of standard table s z out).answer.number ≡ n → C (step_of standard table s z out).answer.place

-- 1 to 6: the reader's
abbrev pub Unread : List ℕ → List ℕ → Session → ℕ → ℕ → Type 0
Unread table s z n p = Ready table s z × (scene.next s (reader_of z) ≡ scene.refusal n p)

abbrev pub AllRead : List ℕ → List ℕ → Session → ℕ → Type 0
AllRead table s z p = Ready table s z × (scene.next s (reader_of z) ≡ scene.finished p)

-- "25 the event's records exceed the output": nothing before it refuses
abbrev pub NoRoom : List ℕ → List ℕ → Session → List ℕ → ℕ → Type 0
NoRoom table s z out p =
    Ready table s z
    × ((rs : List (Record Body ℕ)) × (z'' : Session) × (plan_of (decode table) s z ≡ event p rs z'') × (length out < 16 * length rs))

-- what the reader reads next is a text
abbrev pub is_text : BeginRead → Bool
is_text (Ok (begin.Start at)) = false
is_text (Ok (begin.End at)) = false
is_text (Ok (begin.Text at)) = true
is_text (Ok begin.Finished) = false
is_text (Err x) = false

abbrev pub reads_text : List ℕ → scene.ReaderState → Bool
reads_text s z = is_text (begin_at s z.place (not (scene.is_nil z.opened)) z.closed)

-- "A target xml is decided at p + 3, a ]]> at p + 2": how many bytes behind a refused one settle its refusal, at most. A target stands behind <?, but not
-- where an odd session's place is at its x; a ]]> is refused in text, but a ] that breaks off a reference or a character at once
unfoldable pub settled : List ℕ → scene.ReaderState → ℕ → ℕ
settled s z p =
    cond (eqb (get_or s (p - 2) 0) 0x3C && eqb (get_or s (p - 1) 0) 0x3F && is_xml s p (p + 3)) 3
    (cond (reads_text s z && closes s p 0x3C (get_or s (p + 2) 0) (p + 2)) 2 0)

-- an event was read to its end: 0, or a number that is said of a whole event
abbrev pub Through : ℕ → Type 0
Through n = (n ≡ 0) ⊎ (((4 ≤ n) × (n ≤ 6)) ⊎ ((21 ≤ n) × (n ≤ 25)))

-- "A sequence cut by the scene's end is 1", also where the 64 bytes of a part cannot hold the rest of its last character: some character begins with
-- the bytes that end the scene, and with its rest behind the scene the part's 65th byte, which is not there yet, is refused, inside the character.
-- Refused: that this is so of a scene, at a place
pub record Overfull (s : List ℕ) (Refused : List ℕ → ℕ → Type 0) : Type 0 where
  pub part : ℕ
  pub character : ℕ
  pub behind : part ≤ character
  pub inside : character < length s
  pub code : ℕ
  pub rest : List ℕ
  pub form : utf8 code ≡ drop character s ++ rest
  pub past : length s ≤ part + 64
  pub long : part + 64 < length (s ++ rest)
  pub refused : Refused (s ++ rest) (part + 64)

-- the step gives 3 there, where the scene is not too long
abbrev pub Overlong : List ℕ → Session → List ℕ → List ℕ → ℕ → Type 0
Overlong table z out s p =
    length s ≤ longest → ((step_of standard table s z out).answer.number ≡ 3) × ((step_of standard table s z out).answer.place ≡ p)

-- a few bytes with which the step reads its event to the end, or behind the root finishes, where the scene with them is not too long
pub record Completes (table s : List ℕ) (z : Session) (out : List ℕ) : Type 0 where
  pub more : List ℕ
  pub few : length more ≤ 19
  pub reads : length (s ++ more) ≤ longest → Through (step_of standard table (s ++ more) z out).answer.number ⊎ ((step_of standard table (s ++ more) z out).answer.number ≡ 9)
