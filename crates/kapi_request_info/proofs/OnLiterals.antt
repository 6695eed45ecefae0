-- What a proof unfolds to compute this crate's definitions on literals.
use Rattle.std.specs.Prelude.{⊤}
use Rattle.std.specs.Str.{is_utf8, chars}
use Rattle.std.specs.Str.Lossy.{utf8_valid_len, utf8_error_len, utf8_lossy}
use lib.Utf8.{encode}
use Rattle.form_urlencoded.proofs.OnLiterals.{form_urlencoded_on_literals}
use Rattle.kapi_model.specs.Names.{is_path_segment}
use Rattle.kapi_request_info.specs.Target.{path_on, split_target}
use Rattle.kapi_request_info.specs.Path.{without_last_empty, has_whole_escapes, texts, segments}
use Rattle.kapi_request_info.specs.Query.{query_value}
use Rattle.kapi_request_info.specs.Selector.{selected_name}
use Rattle.kapi_request_info.specs.Resource.{namespace_and_parts, watched_by, collection_read, verb_and_name, url_verb, attributes_by}
use Rattle.kapi_request_info.specs.Attributes.{info}

unfoldable pub info_on_literals : ⊤
unfolding path_on split_target without_last_empty has_whole_escapes texts segments query_value selected_name is_path_segment namespace_and_parts watched_by collection_read verb_and_name url_verb attributes_by info is_utf8 chars utf8_valid_len utf8_error_len utf8_lossy encode form_urlencoded_on_literals
info_on_literals = tt
