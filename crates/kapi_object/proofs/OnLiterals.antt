-- What a proof unfolds to compute what a body is read as.
use Rattle.std.specs.Prelude.{⊤}
use Rattle.std.specs.Fmt.{digits}
use Rattle.std.specs.Str.{is_utf8}
use Rattle.serde_json.proofs.OnLiterals.{serde_json_on_literals}
use Rattle.kapi_model.specs.Names.{is_dns_part, is_dns_label, is_dns_subdomain, is_path_segment, is_label_name, is_label_key, is_label_value, is_name_on}
use Rattle.kapi_object.specs.Contents.{rule_tree, requirement_tree, selector_tree, aggregation_tree, subject_tree, role_ref_tree, content_of}
use Rattle.kapi_object.specs.Given.{given_on}
use Rattle.kapi_object.specs.Tree.{json_object, with_content}
use Rattle.kapi_object.specs.Admission.{kept_metadata, kept_tree, faults_on, admitted, read_as}
use Rattle.kapi_object.specs.Faults.{entry_faults, members_faults, entries_faults, faults_of}
use Rattle.kapi_object.specs.Shapes.{part_faults, rows_faults}
use Rattle.kapi_object.specs.Typed.{text_faults, items_faults, list_faults}

unfoldable pub admission_on_literals : ⊤
unfolding is_utf8 digits serde_json_on_literals
    is_dns_part is_dns_label is_dns_subdomain is_path_segment is_label_name is_label_key is_label_value is_name_on rule_tree requirement_tree selector_tree aggregation_tree subject_tree role_ref_tree content_of given_on json_object with_content kept_metadata kept_tree faults_on admitted read_as entry_faults members_faults entries_faults faults_of part_faults rows_faults text_faults items_faults list_faults
admission_on_literals = tt
