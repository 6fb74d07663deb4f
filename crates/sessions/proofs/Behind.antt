-- What an event's plan is: the reader's next event, the stream's records of it, and a session that holds the reader's and the stream's state
-- behind it.
use Prim.Native.Nat.{ℕ, ◌+◌, ◌*◌, ◌≤◌, ◌<◌}
use mathlib.Core.Path.{◌≡◌, refl, sym, ap, ap₂, subst, ◌∙◌}
use mathlib.Core.List.{List, [], ◌∷◌}
use mathlib.Core.Bool.{true}
use native.Mathlib.Omega.{arith}
use borrow.Author.Tests.{leb-false, ltb-false}
use lib.ListN.{length, get_or, length-map}
use lib.Dec.{leb, ltb}
use Rattle.laws.specs.Lists.{tabulate}
use Rattle.laws.specs.Members.{All}
use Rattle.laws.proofs.Holds.{holds_cond}
use Rattle.laws.proofs.Lists.{length_tabulate}
use Rattle.laws.proofs.Elementwise.{each_map}
use Rattle.table.specs.Table.{Table, decode}
use Rattle.table.specs.Judge.{Accepted}
use Rattle.table.proofs.Accepted.{header_in}
use Rattle.reader.specs.declared.Span.{Span}
use Rattle.reader.specs.declared.Binding.{Binding}
use Rattle.reader.specs.Events as scene
use Rattle.reader.specs.Held.{SpanHeld, BindingHeld, OpenHeld}
use Rattle.reader.proofs.Held.{StartHeld, event_inside, held_next}
use Rattle.model.specs.Theory.{Record}
use Rattle.model.specs.Tree.{start}
use Rattle.model.specs.Elements.{Space, Element, element_of}
use Rattle.model.specs.Records.{Body}
use Rattle.model.specs.Stream.{entries_at, written, after, HeldStrand}
use Rattle.model.specs.Dispatch.{dispatch, told}
use Rattle.model.proofs.Steps.{below_more}
use Rattle.attributes.proofs.Sorted.{class_few, uri_held}
use Rattle.strands.specs.Packed.{strand_in}
use Rattle.sessions.specs.Sessions.{strand_count, strands_in, level_in, reader_of, state_of, with_start}
use Rattle.sessions.specs.Stepping.{event_place, Plan, refused, finished, event, start_plan, own_declarations, plan_by, plan_of}
use Rattle.sessions.specs.Session.{Session}
use Rattle.sessions.proofs.Sound.{Fits, Sound, StrandSound}
use Rattle.sessions.proofs.SoundCoherent.{sound_level}
use Rattle.sessions.proofs.NewStrands.{new_strands, new_length, new_strands_lem}
use Rattle.strands.proofs.Packing.{Packable}
use Rattle.sessions.proofs.Own.{SpanSmall, BindingSmall}
use Rattle.sessions.proofs.Views.{Room, state_start, reader_start, fits_start, state_end, reader_end, fits_end, state_place, fits_place}
use Rattle.sessions.proofs.Spaces.{space_back}
use Rattle.sessions.proofs.Followed.{StartFollowed, followed}

-- "21 depth 65; 22 a 65th open binding; 23 a 17th strand; 24 a unit past 65,535": none of them
pub record StartLimits (t : Table) (s : List ℕ) (z : Session) (e : scene.Start) (o : scene.Open) : Type 0 where
  pub shallow : z.scope.depth < 64
  pub bound : z.scope.bound + length o.declarations ≤ 64
  pub strands : length (entries_at (dispatch t) (state_of t s z).levels (element_of t s e)) ≤ 16
  pub units : (after (dispatch t) (state_of t s z) (start (element_of t s e))).units ≤ 65536

abbrev pub OpenLimits : (t : Table) → List ℕ → Session → scene.Start → List scene.Open → Type 0
OpenLimits t s z e [] = ⊥
OpenLimits t s z e (o ∷ os) = StartLimits t s z e o

abbrev pub Limits : (t : Table) → List ℕ → Session → scene.Event → scene.ReaderState → Type 0
Limits t s z (scene.start e) z' = OpenLimits t s z e z'.opened
Limits t s z (scene.text w) z' = Unit {0}
Limits t s z (scene.end part at) z' = Unit {0}

pub record Behind (t : Table) (s : List ℕ) (z : Session) (p : ℕ) (rs : List (Record Body ℕ)) (z'' : Session) : Type 0 where
  pub happened : scene.Event
  pub state : scene.ReaderState
  pub read : scene.next s (reader_of z) ≡ scene.event happened state
  pub place : p ≡ event_place happened
  pub reader : reader_of z'' ≡ state
  pub stream : state_of t s z'' ≡ after (dispatch t) (state_of t s z) (told t s happened)
  pub records : rs ≡ written (dispatch t) (state_of t s z) (told t s happened)
  pub fits : Fits z''
  pub few_units : z''.units ≤ 65536
  pub limits : Limits t s z happened state

abbrev PlanBehind : (t : Table) → List ℕ → Session → Plan → Type 0
PlanBehind t s z (refused n p) = Unit {0}
PlanBehind t s z (finished p) = Unit {0}
PlanBehind t s z (event p rs z'') = Behind t s z p rs z''

-- what lies inside a scene is small
module _ (s : List ℕ) (short : length s ≤ 16777215) where
  span_small : (w : Span) → SpanHeld s w → SpanSmall w
  span_small w h = record { at = omega arith; len = omega arith }

  binding_small : (b : Binding) → BindingHeld s b → BindingSmall b
  binding_small b h = record { prefix = span_small b.prefix h.inside.prefix; uri = span_small b.uri h.inside.uri }

module _ (table : List ℕ) (accepted : Accepted table ≡ true) (s : List ℕ) (short : length s ≤ 16777215) (z : Session) (sound : Sound (decode table) s z) where
  abbrev t : Table
  t = decode table

  counts : (k : ℕ) → k < z.scope.depth → strand_count z k ≤ 16
  unfolding level_in strands_in
  counts k l =
      let numbers = tabulate (λ (i : ℕ). get_or z.strands i 0) (16 * k) (strand_count z k) in
      omega (arith, (sound_level t s z sound k l).few_strands, length-map numbers strand_in, length_tabulate (λ (i : ℕ). get_or z.strands i 0) (16 * k) (strand_count z k))

  -- a start that passes no limit has room
  module _ (e : scene.Start) (z' : scene.ReaderState) (q : scene.next s (reader_of z) ≡ scene.event (scene.start e) z') where
    abbrev σ : Element
    σ = element_of t s e

    abbrev strands : List (HeldStrand ℕ)
    strands = new_strands t (state_of t s z) σ

    abbrev units : ℕ
    units = (after (dispatch t) (state_of t s z) (start σ)).units

    begins : StartFollowed s (reader_of z) e z'
    begins = followed s (reader_of z) sound.held (scene.start e) z' q

    inside : StartHeld s e
    inside = event_inside s (reader_of z) sound.held (scene.start e) z' q

    pub strands_sound : All (StrandSound t units) strands
    strands_sound = new_strands_lem table accepted s (state_of t s z) σ sound.levels

    abbrev open' : scene.Open
    open' = record { name = e.name; declarations = begins.own }

    is_open : z'.opened ≡ open' ∷ (reader_of z).opened
    is_open = ap (λ (x : scene.ReaderState). x.opened) begins.state

    own_held : All (BindingHeld s) begins.own
    own_held = (subst (All (OpenHeld s)) is_open (held_next s (reader_of z) sound.held (scene.start e) z' q).opened).0.declarations

    module _ (l : StartLimits t s z e open') where
      room : Room z e.name begins.own σ.space strands
      unfolding element_of
      room =
          record {
            counts = counts;
            shallow = l.shallow;
            bound = l.bound;
            few_own = begins.few_own;
            few_strands = omega (arith, new_length t (state_of t s z) σ, l.strands);
            packable =
                each_map (StrandSound t units) Packable
                (λ r h. record { mode_in = omega (arith, (header_in table accepted).few_modes, h.mode_in); target_in_lem = below_more units 65536 r.target l.units h.below })
                strands strands_sound;
            name_small = span_small s short e.name inside.inside;
            class_small = omega (arith, class_few table accepted s e.namespace);
            uri_small = span_small s short σ.space.uri (uri_held t s e.namespace inside.namespace);
            own_small = each_map (BindingHeld s) BindingSmall (binding_small s short) begins.own own_held;
          }

      abbrev next : Session
      next = with_start z z'.place e.empty units e.name begins.own σ.space strands

      stream_start : state_of t s next ≡ after (dispatch t) (state_of t s z) (start σ)
      unfolding after element_of
      stream_start =
          state_start z z'.place e.empty units e.name begins.own σ.space strands sound.fits room t s
          ∙ ap₂ (λ (part : Span) (space : Space). record { levels = record { at = record { part = part; space = space }; strands = strands } ∷ (state_of t s z).levels; units = units })
          begins.part (space_back table accepted s e.namespace)

      start_behind : Behind t s z e.at (written (dispatch t) (state_of t s z) (start σ)) next
      start_behind =
          record {
            happened = scene.start e;
            state = z';
            read = q;
            place = refl;
            reader = reader_start z z'.place e.empty units e.name begins.own σ.space strands sound.fits room ∙ sym begins.state;
            stream = stream_start;
            records = refl;
            fits = fits_start z z'.place e.empty units e.name begins.own σ.space strands sound.fits room;
            few_units = l.units;
            limits = subst (OpenLimits t s z e) (sym is_open) l;
          }

    start_plan_lem : PlanBehind t s z (start_plan t s z e (own_declarations z'.opened) z'.place)
    unfolding start_plan
    start_plan_lem =
        subst (λ (os : List scene.Open). PlanBehind t s z (start_plan t s z e (own_declarations os) z'.place)) (sym is_open)
        (holds_cond (PlanBehind t s z) (leb 64 z.scope.depth) (λ d. tt) (λ d.
        holds_cond (PlanBehind t s z) (ltb 64 (z.scope.bound + length begins.own)) (λ b. tt) (λ b.
        holds_cond (PlanBehind t s z) (ltb 16 (length (entries_at (dispatch t) (state_of t s z).levels σ))) (λ c. tt) (λ c.
        holds_cond (PlanBehind t s z) (ltb 65536 units) (λ u. tt) (λ u.
        start_behind
        (record {
          shallow = leb-false 64 z.scope.depth d;
          bound = ltb-false 64 (z.scope.bound + length begins.own) b;
          strands = ltb-false 16 (length (entries_at (dispatch t) (state_of t s z).levels σ)) c;
          units = ltb-false 65536 units u;
        }))))))

  plan_by_lem : (x : scene.Next) → scene.next s (reader_of z) ≡ x → PlanBehind t s z (plan_by t s z x)
  unfolding after
  plan_by_lem (scene.refusal n p) q = tt
  plan_by_lem (scene.finished p) q = tt
  plan_by_lem (scene.event (scene.start e) z') q = start_plan_lem e z' q
  plan_by_lem (scene.event (scene.text w) z') q =
      record {
        happened = scene.text w;
        state = z';
        read = q;
        place = refl;
        reader = sym (followed s (reader_of z) sound.held (scene.text w) z' q);
        stream = state_place z z'.place t s;
        records = refl;
        fits = fits_place z z'.place sound.fits;
        few_units = sound.few_units;
        limits = tt;
      }
  plan_by_lem (scene.event (scene.end part at) z') q =
      record {
        happened = scene.end part at;
        state = z';
        read = q;
        place = refl;
        reader = reader_end z z'.place z'.closed sound.fits ∙ sym (followed s (reader_of z) sound.held (scene.end part at) z' q);
        stream = state_end z z'.place z'.closed sound.fits t s;
        records = refl;
        fits = fits_end z z'.place z'.closed sound.fits;
        few_units = sound.few_units;
        limits = tt;
      }

  pub behind : (p : ℕ) (rs : List (Record Body ℕ)) (z'' : Session) → plan_of t s z ≡ event p rs z'' → Behind t s z p rs z''
  unfolding plan_of
  behind p rs z'' q = subst (PlanBehind t s z) q (plan_by_lem (scene.next s (reader_of z)) refl)
