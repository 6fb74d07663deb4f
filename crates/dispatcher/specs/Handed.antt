-- What the session type of the calls, an offer and an ask's answer hold, in the definitions' own records; what a call of a session hands back with the
-- output that it was lent. Every field stands in one place of these, so that an equation about them fixes all. Definitions.
use Rattle.std.specs.Prelude.{ℕ, List}
use Rattle.sessions.specs.Session.{Session}
use Rattle.sessions.specs.Stepping.{Step, given}
use Rattle.sessions.specs.Asking.{Offer, Asked}
use Rattle.dispatcher.specs.declared.Session as code
use Rattle.dispatcher.specs.declared.Stepped.{Stepped}
use Rattle.dispatcher.specs.declared.offers.Offer as offer
use Rattle.dispatcher.specs.declared.offers.Asked as asked

-- what a session holds
abbrev pub held_by : code.Session → Session
held_by z =
    record {
      place = z.place;
      units = z.units;
      closed = z.closed;
      awaited = z.awaited;
      scope = z.scope;
      spaces = z.spaces;
      strands = z.strands;
    }

-- what a step, an advance or a commit hands back
abbrev pub handed : Stepped → List ℕ → Step
handed r out = given r.answer (held_by r.session) out

-- what an offer holds, and what an ask hands back
abbrev pub held_offer : offer.Offer → Offer
held_offer o = record { session = held_by o.session; length = o.length }

abbrev pub handed_ask : asked.Asked → Asked
handed_ask r = record { number = r.number; place = r.place; records = r.records; offer = held_offer r.offer }
