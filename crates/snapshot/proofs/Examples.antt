-- The checked examples of document 01 and of the orders hold, by computing.
use mathlib.Core.Path.{◌≡◌, refl}
use mathlib.Core.Bool.{true}
use Rattle.names.specs.Bytes.{all}
use Rattle.names.specs.Bytes.{any}
use Rattle.names.specs.Class.{is_white, is_letter, is_digit, is_name_mark, is_markup, is_name_byte, is_value_byte, class_of}
use Rattle.names.specs.Date.{picture, fits_byte, two_digits, is_leap, days_in, is_day, is_time, is_date, is_day_text, not_later}
use Rattle.names.specs.Key.{names_used, depth_of, key_order, same_key, covers, is_repeat, are_levels, is_key, own_names, packed, names_in}
use Rattle.names.specs.code.HeldKey.{held_name, held_from, eight, key_of, name_before, read_key}
use Rattle.names.specs.Number.{is_digits, without as unsigned, is_fraction, is_number}
use Rattle.names.specs.Name.{is_name_of, is_name, is_long_name, is_text_of, is_value}
use Rattle.names.specs.Order.{lex, alike, begins, byte_order, bytes_order, same}
use Rattle.names.specs.Overwrite.{overwrite}
use Rattle.names.specs.Pick.{pick, ◌and◌}
use Rattle.names.specs.Scan.{front, after}
use Rattle.names.specs.Text.{escapes, entities, in_value, first_of, piece_at, in_front, decoded_by, decode_from, decode, escape_by, escape}
use Rattle.names.specs.code.Decoding.{fitted}
use Rattle.store.specs.Answer.{◌>>=◌, ◌>>◌, unless, present}
use Rattle.store.specs.Calls.{outcome, right_lengths, opened, open_empty, open_call, without_last, strike, withdraw, withdraw_call}
use Rattle.store.specs.Change.{kind_number, is_item, parent_of, is_null, is_make, is_end, value_fits, is_change, makes, ends, gives, later, only_if, since_made, not_ended, live, value_of, change_bytes, changes_bytes}
use Rattle.store.specs.Machine.{changes_of, within_limits, allowed_by, in_turn, standing, last_filed, distinct, never_fall, is_filed, obeys, empty}
use Rattle.store.specs.Table.{put_by, put, revalue, without, applied as store-after, table_from, table, lookup}
use Rattle.store.specs.Word.{word_text, updated, decide}
use Rattle.reader.specs.Element.{elements, element_at, attribute_at, next, element_in, element_of, may_stand, words, has_form, get, or_else, known, complete, formed_by, formed, both, alike_items, one_sort, sort_behind, body_fits, well_placed}
use Rattle.reader.specs.Import.{declaration, body, is_nil, at_end, go_on, tags, after_odm, from_first, contents, with_file, import_file, import_call}
use Rattle.reader.specs.Tell.{◌▸◌, word_of, given, is_insert, is_remove, word_here, innermost, word_in, opening, tell_below, tell_body, tell_as, tell_closing, tell}
use Rattle.reader.specs.Judge.{header_of, follows, in_series, open_odm, adding, effect, settle, outer_key, key_here, value_by, given_by, closing, leaving, act, run, words_of, judge}
use Rattle.reader.specs.Tag.{strip, first_is, skip, is_tag_byte, tag_name, is_quote, up_to, quoted, attribute, end_by, tag_end, attribute_in_front as reader_in_front, attributes_by, attributes, has, none_twice as reader-distinct, opening_tag, closing_tag, tag_by, tag_behind, next_tag, cut_by, cut, is_none, body_by, text_body, closes_by, content}
use Rattle.snapshot.specs.Examples.{worked_input, worked_output, file, subject_of, subject, in_group, remove_form, form_again, group_again, seven, vitals, systolic, item, typed, typed_items, typed_output, imported, sent, two_numbers, numbers_are, changes, is_less, kinds, is_text, text_of, snapshot_of, examples}
use Rattle.snapshot.specs.Print.{put_attr, put_attrs, put_end, put_tag, put_tags}
use Rattle.snapshot.specs.Snapshot.{repeat_attr, value_attr, entity_attributes, open_tag, close_tags, entity_tags, odm_tag, clinical_tag, snapshot_tags, snapshot_text, snapshot, written_to, snapshot_call}

pub examples_hold : all (λ t. t) examples ≡ true
unfolding all any is_white is_letter is_digit is_name_mark is_markup is_name_byte is_value_byte class_of picture fits_byte two_digits is_leap days_in is_day is_time is_date is_day_text is_digits unsigned is_fraction is_number not_later names_used depth_of key_order same_key covers is_repeat are_levels is_key own_names held_name held_from eight key_of packed names_in name_before read_key is_name_of is_name is_long_name is_text_of is_value lex alike begins byte_order bytes_order same overwrite pick ◌and◌ front after escapes entities in_value first_of piece_at in_front decoded_by decode_from decode escape_by escape fitted ◌>>=◌ ◌>>◌ unless present outcome right_lengths opened open_empty open_call without_last strike withdraw withdraw_call kind_number is_item parent_of is_null is_make is_end value_fits is_change makes ends gives later only_if since_made not_ended live value_of change_bytes changes_bytes changes_of within_limits allowed_by in_turn standing last_filed distinct never_fall is_filed obeys empty put_by put revalue without store-after table_from table lookup word_text updated decide elements element_at attribute_at next element_in element_of may_stand words has_form get or_else known complete formed_by formed both alike_items one_sort sort_behind body_fits well_placed declaration body is_nil at_end go_on tags after_odm from_first contents with_file import_file import_call header_of follows in_series open_odm adding closing word_of given is_insert is_remove word_here outer_key effect key_here ◌▸◌ innermost word_in opening tell_below tell_body tell_as tell_closing tell settle value_by given_by leaving act run words_of judge strip first_is skip is_tag_byte tag_name is_quote up_to quoted attribute end_by tag_end reader_in_front attributes_by attributes has reader-distinct opening_tag closing_tag tag_by tag_behind next_tag cut_by cut is_none body_by text_body closes_by content worked_input worked_output file subject_of subject in_group remove_form form_again group_again seven vitals systolic item typed typed_items typed_output imported sent two_numbers numbers_are changes is_less kinds is_text text_of snapshot_of examples put_attr put_attrs put_end put_tag put_tags repeat_attr value_attr entity_attributes open_tag close_tags entity_tags odm_tag clinical_tag snapshot_tags snapshot_text snapshot written_to snapshot_call
examples_hold = refl
