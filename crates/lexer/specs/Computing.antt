-- What the worked examples compute with, named once. A definition.
use Rattle.std.specs.Prelude.{Bool, true}
use Rattle.laws.specs.Lists.{same_list, any}
use Rattle.laws.specs.Reading.{run}
use Rattle.utf8.specs.Utf8.{utf8, code_point, is_form}
use Rattle.utf8.specs.Forms.{first_form, next_form, form_from, form_of, least, most, form_begins}
use Rattle.utf8.proofs.Deciding.{by_test, decided}
use Rattle.characters.specs.CanBegin.{begins}
use Rattle.lexer.specs.Characters.{with_byte, char_end}
use Rattle.lexer.specs.Names.{spaces_end, part_end, prefixed_at, name_at}
use Rattle.lexer.specs.Values.{common, whole_of, furthest, no_reference, reference_end, text_at, closes, value_from}
use Rattle.lexer.specs.Tags.{wanted, equals_end, quoted_at, attribute_at, slash_at, turn_behind, turn_at, attrs_from, tag_at, end_tag_at}
use Rattle.lexer.specs.Declaration.{word_end, some_end, version_end, encoding_end, answer_end, standalone_end, quoted_end, field_end, turn_from, field_turn, last_rest, standalone_then, encoding_rest, encoding_then, either_then, version_rest, version_then, declaration_end}
use Rattle.lexer.specs.Misc.{comment_rest, comment_end, content_end, behind_target, is_xml, is_declared, instruction_end, misc_end}
use Rattle.lexer.specs.Begins.{misc_ahead, markup_at, either_at, ahead_at, begin_by, begin_at}

unfoldable pub computing : Bool
unfolding begin_at begin_by ahead_at either_at markup_at misc_ahead misc_end instruction_end is_declared is_xml behind_target content_end comment_end comment_rest declaration_end version_then version_rest either_then encoding_then encoding_rest standalone_then last_rest field_turn turn_from field_end quoted_end standalone_end answer_end encoding_end version_end some_end word_end end_tag_at tag_at attrs_from turn_at turn_behind slash_at attribute_at quoted_at equals_end wanted value_from closes text_at reference_end no_reference furthest whole_of common name_at prefixed_at part_end spaces_end char_end with_byte begins decided by_test form_begins most least form_of form_from next_form first_form is_form code_point utf8 run any same_list
computing = true
