-- What a host's call hands back, worked by computation: a session's slice of 7,207 bytes, and one of 7,208 bytes that hold no session; an offer's slice of
-- 7,223 bytes, and one of 7,224 bytes.
use Rattle.std.specs.Prelude.{ℕ, ◌≡◌, refl, List, [], ◌∷◌, replicate, take}
use Rattle.laws.specs.Lists.{same_list, any, all, any_pair, tabulate}
use Rattle.laws.specs.Over.{overwrite}
use Rattle.laws.specs.Text.{bytes}
use Rattle.table.specs.Table.{uris_from}
use Rattle.table.specs.Judge.{judged, uris_fill}
use Rattle.table.specs.Examples.{T}
use Rattle.layout.specs.Layout.{holds_session}
use Rattle.capi.specs.Calls.{byte_step, byte_advance}
use Rattle.offers.specs.Layout.{offer_bytes}
use Rattle.offers.specs.Calls.{byte_ask, byte_commit}
use Rattle.hosts.specs.Calls.{host_fresh, host_step, host_advance}
use Rattle.hosts.specs.Commits.{HostAsked, host_ask, host_commit}

abbrev A : List ℕ
A = bytes "<r xmlns=\"u\">a<x/></r>"

abbrev out : List ℕ
out = replicate 32 7

abbrev before : List ℕ
before = 1 ∷ 2 ∷ 3 ∷ 4 ∷ []

short_fresh : host_fresh (replicate 7207 0) ≡ record { number = 255; session = replicate 7207 0 }
unfolding host_fresh
short_fresh = refl

short_step : host_step T A (replicate 7207 0) out before ≡ record { number = 255; answer = before; output = out; session = replicate 7207 0 }
unfolding host_step
short_step = refl

no_session : host_step T A (replicate 7208 0) out before ≡ record { number = 20; answer = 20 ∷ 0 ∷ 0 ∷ 0 ∷ []; output = out; session = replicate 7208 0 }
unfolding host_step byte_step holds_session judged uris_fill uris_from all any any_pair same_list tabulate
no_session = refl

-- the same where no step is asked for
short_advance : host_advance 0 T A (replicate 7207 0) out before ≡ record { number = 255; answer = before; output = out; session = replicate 7207 0 }
unfolding host_advance
short_advance = refl

no_session_advanced : host_advance 0 T A (replicate 7208 0) out before ≡ record { number = 20; answer = 20 ∷ 0 ∷ 0 ∷ 0 ∷ []; output = out; session = replicate 7208 0 }
unfolding host_advance byte_advance holds_session judged uris_fill uris_from all any any_pair same_list tabulate
no_session_advanced = refl

-- ask and commit: a slice that has no room for an offer; 20, though the offer's bytes hold none either; the offer's version and the scene's 22 bytes
short_commit : host_commit (replicate 7223 0) T A (replicate 7208 0) out before ≡ record { number = 255; answer = before; output = out; session = replicate 7208 0 }
unfolding host_commit
short_commit = refl

no_session_committed : host_commit (replicate 7224 0) T A (replicate 7208 0) out before ≡ record { number = 20; answer = 20 ∷ 0 ∷ 0 ∷ 0 ∷ []; output = out; session = replicate 7208 0 }
unfolding host_commit byte_commit holds_session judged uris_fill uris_from all any any_pair same_list tabulate
no_session_committed = refl

abbrev asked : HostAsked
asked = host_ask T A (replicate 7208 0) (replicate 7224 9) before

no_session_asked : (asked.number ≡ 20) × (take 16 asked.offer ≡ 1 ∷ 0 ∷ 0 ∷ 0 ∷ 0 ∷ 0 ∷ 0 ∷ 0 ∷ 22 ∷ 0 ∷ 0 ∷ 0 ∷ 0 ∷ 0 ∷ 0 ∷ 0 ∷ [])
unfolding host_ask byte_ask overwrite offer_bytes holds_session judged uris_fill uris_from all any any_pair same_list tabulate
no_session_asked = (refl, refl)
