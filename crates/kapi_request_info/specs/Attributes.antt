-- The attributes of a request, from its method and target (Kubernetes, 'Authorization Overview', request attributes and
-- verbs).
use Rattle.std.specs.Prelude.{ℕ, List, Result}
use Rattle.kapi_http.specs.declared.message.Method.{Method}
use Rattle.kapi_request_info.specs.declared.attributes.Attributes.{Attributes}
use Rattle.kapi_text.specs.ResultIs.{◌>>=◌}
use Rattle.kapi_request_info.specs.Faults.{TargetFault}
use Rattle.kapi_request_info.specs.Target.{split_target}
use Rattle.kapi_request_info.specs.Path.{segments}
use Rattle.kapi_request_info.specs.Query.{query_pairs}
use Rattle.kapi_request_info.specs.Resource.{attributes_by}

-- the attributes of a request, or the first fault of its target
unfoldable pub info : Method → List ℕ → Result Attributes TargetFault
info method target = do
  parts ← split_target target
  names ← segments parts.0
  attributes_by method parts.0 names (query_pairs parts.1)
