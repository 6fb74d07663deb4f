-- `judging::check` meets its contract: each test is a function's, in the definition's order.
use Rattle.table.proofs.Judged.{few_namespaces, short, bad_header, bad_length, bad_word, bad_empty, bad_rules, bad_uris, good}
use Rattle.judging.proofs.check.Goals as goal
use Rattle.judging.proofs.check.Goals.{then-not-words_fit-via-then-not-words_fit, then-not-words_fit-via-else-not-words_fit+then-lists_empty, then-rules_clash-via-then-rules_clash, then-rules_clash-via-else-rules_clash+then-uris_clash}

pub returns-then-table-lt4 : goal.returns-then-table-lt4
returns-then-table-lt4 c = search short

pub returns-then-not-header_fits : goal.returns-then-not-header_fits
returns-then-not-header_fits c = search bad_header

pub returns-then-not-length_fits : goal.returns-then-not-length_fits
returns-then-not-length_fits c = search bad_length

pub lists_empty-requires : goal.lists_empty-requires
lists_empty-requires c = few_namespaces c.header_of-header.result _ c.header_fits.ensures c.if-not-header_fits.false

pub returns-then-not-words_fit : goal.returns-then-not-words_fit
returns-then-not-words_fit c =
    elim c.then-not-words_fit.branch
    [ then-not-words_fit-via-then-not-words_fit w ↦ search bad_word | then-not-words_fit-via-else-not-words_fit+then-lists_empty w ↦ search bad_empty ]

pub uris_clash-requires : goal.uris_clash-requires
uris_clash-requires c = few_namespaces c.header_of-header.result _ c.header_fits.ensures c.if-not-header_fits.false

pub returns-then-rules_clash : goal.returns-then-rules_clash
returns-then-rules_clash c =
    elim c.then-rules_clash.branch
    [ then-rules_clash-via-then-rules_clash w ↦ search bad_rules | then-rules_clash-via-else-rules_clash+then-uris_clash w ↦ search bad_uris ]

pub returns : goal.returns
returns c = search good
