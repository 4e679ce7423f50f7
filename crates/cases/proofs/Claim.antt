-- One claim over the whole list: what the definitions say is what document 01 says. Both sides compute, once the definitions are open; the search's
-- mark goes by what written words mean (Search.antt), since a table of 1,153 words is too long to be computed with.
use mathlib.Core.Path.{◌≡◌}
use Rattle.pkg_length.specs.Little.{little}
use Rattle.pkg_length.specs.Pkg.{spelt, raw_length_answer, from_raw, pkg_length_answer}
use Rattle.pkg_length.specs.Package.{package_in}
use Rattle.name_object.specs.Component.{lead_ok, digit_ok, char_ok, is_seg_ok, spell}
use Rattle.name_object.specs.Memory.{zeros, name_of, component_of, components, path_of_name, all_zero, bare, kind_ok, bytes_ok, path_ok, path_in_answer}
use Rattle.name_object.specs.Name.{byte_at, char, segment, segments, run_at, name_path_answer, carets, prefix_of, spelled, judged, name_string_answer}
use Rattle.path.specs.Normal.{step, walk, upright, limited, normal}
use Rattle.path.specs.Text.{padded, reading, after_root, text_path, from_text}
use Rattle.grammar.specs.Opcode.{look, term_op_at, stmt_op_at}
use Rattle.grammar.specs.Reader.{read_one, read_two, read_term, read_package, read_head, read_else, read_if, list_by, read_stmt, read_block}
use Rattle.statement.specs.Frames.{fresh}
use Rattle.statement.specs.Meaning.{eval, turns, do_stmt, do_stmts}
use Rattle.cases.specs.Cases.{cases, all_said, all_expected}
use Rattle.cases.proofs.Search.{search-mark}

pub cases-hold : all_said cases ≡ all_expected cases
unfolding cases all_said all_expected little spelt raw_length_answer from_raw pkg_length_answer lead_ok digit_ok char_ok is_seg_ok spell zeros name_of component_of components path_of_name
    all_zero bare kind_ok bytes_ok path_ok path_in_answer byte_at char segment segments run_at name_path_answer carets prefix_of spelled judged name_string_answer step walk upright
    limited normal padded reading after_root text_path from_text look term_op_at stmt_op_at read_one read_two read_term package_in read_package read_head read_else read_if list_by
    read_stmt read_block fresh eval turns do_stmt do_stmts
cases-hold = rw search-mark
