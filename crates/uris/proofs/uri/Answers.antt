-- `uris::uri` meets its contract: it gives the part that `uri_span` names.
use Rattle.uris.proofs.UriSpans.{table_place, scene_place, table_part, scene_part}
use Rattle.uris.proofs.uri.Goals as goal

pub returns-in-Table-clause-place : goal.returns-in-Table-clause-place
returns-in-Table-clause-place c = search table_place

pub returns-in-Table-clause-bytes : goal.returns-in-Table-clause-bytes
returns-in-Table-clause-bytes c = search table_part

pub returns-in-Scene-clause-place : goal.returns-in-Scene-clause-place
returns-in-Scene-clause-place c = search scene_place

pub returns-in-Scene-clause-bytes : goal.returns-in-Scene-clause-bytes
returns-in-Scene-clause-bytes c = search scene_part
