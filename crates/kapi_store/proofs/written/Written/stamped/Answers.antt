use Rattle.std.proofs.Common.{◌∙◌, Some, codes, string_bytes, ap}
use Rattle.std.specs.Option.{option_and_then}
use Rattle.serde_json.specs.Data.{Data}
use Rattle.serde_json.specs.Find.{as_str}
use Rattle.kapi_object.specs.Object.{tree_of}
use Rattle.kapi_object.specs.Tree.{in_metadata, with_text}
use Rattle.kapi_store.proofs.Stamped.{version_there}
use Rattle.kapi_store.proofs.written.Written.stamped.Goals as goal

pub kept-requires-clause-versioned : goal.kept-requires-clause-versioned
kept-requires-clause-versioned c =
    ap (λ (d : Data). option_and_then as_str (in_metadata (codes "resourceVersion") d)) c.in_ok-object.ensures
    ∙ version_there (string_bytes c.in_ok-version.version) (with_text (codes "uid") (string_bytes c.in_ok-uid.uid) (tree_of c.args.object)) ∙ ap Some c.in_ok-version.ensures
