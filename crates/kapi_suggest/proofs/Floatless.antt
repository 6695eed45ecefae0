-- What is suggested is written without floats.
use Rattle.std.proofs.Common.{◌≡◌, ◌==◌, ℕ, List, length, false, refl, codes}
use Rattle.serde_json.specs.Data.{Members, no_members, put, string}
use Rattle.serde_json.specs.Written.{has_float, members_have_float}
use Rattle.kapi_model.specs.Kinds.{role_kind_text}
use Rattle.kapi_object.proofs.Closed.{binding_content_holds, put_if_holds, role_content_holds, unless_holds}
use Rattle.kapi_object.proofs.NoFloats.{no_floats, put_has_no_float}
use Rattle.kapi_object.specs.Contents.{binding_content, role_content, text_value}
use Rattle.kapi_suggest.specs.Printed.{binding_kind_in, binding_manifest, manifest, metadata_of, role_kind_in, role_manifest, role_ref_for, subjects_for}
use Rattle.kapi_suggest.specs.declared.suggested.Suggested.{Suggested}

whole : (kind name namespace : List ℕ) (content : Members) → members_have_float content ≡ false → has_float (manifest kind name namespace content) ≡ false
whole kind name namespace content h =
    let api : Members = put (codes "apiVersion") (string (codes "rbac.authorization.k8s.io/v1")) content in
    let with_kind : Members = put (codes "kind") (string kind) api in
    let named : Members = put (codes "name") (string name) no_members in
    let own : has_float (metadata_of name namespace) ≡ false =
    put_if_holds no_floats 0 (codes "namespace") (text_value namespace) named (unless_holds no_floats 0 (length namespace == 0) (string namespace) refl) refl in
    put_has_no_float (codes "metadata") (metadata_of name namespace) with_kind own
    (put_has_no_float (codes "kind") (string kind) api refl (put_has_no_float (codes "apiVersion") (string (codes "rbac.authorization.k8s.io/v1")) content refl h))

pub role_has_no_float : (name : List ℕ) (s : Suggested) → has_float (role_manifest name s) ≡ false
unfolding role_manifest
role_has_no_float name s = whole (role_kind_text (role_kind_in s.at.namespace)) name s.at.namespace (role_content s.rules) (role_content_holds no_floats 0 s.rules)

pub binding_has_no_float : (name : List ℕ) (s : Suggested) → has_float (binding_manifest name s) ≡ false
unfolding binding_manifest
binding_has_no_float name s =
    whole (binding_kind_in s.at.namespace) name s.at.namespace (binding_content (subjects_for s) (role_ref_for name s)) (binding_content_holds no_floats 0 (subjects_for s) (role_ref_for name s))
