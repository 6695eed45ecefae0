use Rattle.std.proofs.Common.{◌≡◌, take, drop}
use Rattle.std.specs.List.{list_all}
use Rattle.kapi_request_info.specs.Fields.{values_named}
use Rattle.kapi_request_info.specs.Impersonation.{is_name}
use Rattle.kapi_request_info.proofs.headers.names_in.Given as goal

abbrev pub invariant-loop-header : goal.invariant-loop-header
invariant-loop-header l =
    (l.names.items ≡ values_named l.name (take l.header-index l.headers))
    × (list_all is_name (values_named l.name (drop l.header-index l.headers)) ≡ list_all is_name (values_named l.name l.headers))
