-- What is unfolded to compute the worked values.
use Rattle.std.specs.Prelude.{⊤}
use Rattle.std.specs.Str.{chars}
use Rattle.kapi_http.proofs.OnLiterals.{http_on_literals}
use Rattle.kapi_object.proofs.OnLiterals.{admission_on_literals}
use Rattle.kapi_request_info.proofs.OnLiterals.{info_on_literals}
use Rattle.kapi_store.proofs.OnLiterals.{store_on_literals}
use Rattle.kapi_aggregation.specs.Unions.{union_for}
use Rattle.kapi_answer.specs.Answer.{answer, answer_as, answer_asked, answer_by, answer_passed, checked, planned, planned_for, planned_on, told_well}
use Rattle.kapi_answer.specs.Authorization.{authorized}
use Rattle.kapi_answer.specs.Get.{found}
use Rattle.kapi_answer.specs.Headers.{is_typed, media_typed}
use Rattle.kapi_answer.specs.Impersonation.{acts_as}
use Rattle.kapi_answer.specs.Query.{asked, queried, version_reached}
use Rattle.kapi_answer.specs.Route.{action_at, collection_of, on_row, place_of, place_on, read_health, routed}
use Rattle.kapi_answer.specs.Watch.{since_served}
use Rattle.kapi_core.specs.Machine.{after_serve, answers, feed_step, open_step, rest_after, serve_beside, serve_item, serve_step, step}
use Rattle.kapi_escalation.specs.Checks.{all_held, checked as write_checked, rules_held}
use Rattle.kapi_escalation.specs.Kind.{policy_kind}
use Rattle.kapi_escalation.specs.Reading.{collected, policy_changes, policy_objects}
use Rattle.kapi_policy.specs.Decided.{bindings_in, decided, given, granted, granted_by, held, rules_of}
use Rattle.kapi_reply.specs.Refusals.{denied_text, failure_of, subject_of}
use Rattle.kapi_reply.specs.Status.{status_of, with_causes, with_some_object, with_some_text, with_subject}
use Rattle.kapi_request_info.specs.Impersonation.{impersonation, meant, named, names_in}
use Rattle.kapi_rules.specs.Atoms.{atoms}
use Rattle.kapi_rules.specs.Missing.{each_once, missing, rule_implies}
use Rattle.kapi_store.specs.Listing.{is_listed}
use Rattle.kapi_watch.specs.Shown.{shown_of}
use Rattle.kapi_watch.specs.Watches.{due, is_expired, startable}

unfoldable pub worked_on_literals : ⊤
unfolding chars http_on_literals admission_on_literals info_on_literals store_on_literals union_for answer answer_as answer_asked answer_by answer_passed checked
    planned planned_for planned_on told_well authorized found is_typed media_typed acts_as asked queried version_reached action_at collection_of on_row
    place_of place_on read_health routed since_served after_serve answers feed_step open_step rest_after serve_beside serve_item serve_step step all_held
    write_checked rules_held policy_kind collected policy_changes policy_objects bindings_in decided given granted granted_by held rules_of denied_text
    failure_of subject_of status_of with_causes with_some_object with_some_text with_subject impersonation meant named names_in atoms each_once missing
    rule_implies is_listed shown_of due is_expired startable
worked_on_literals = tt
