use Rattle.std.proofs.Common.{◌≡◌, ◌∙◌, true, if◌then◌else◌, ap, sym}
use Rattle.kapi_store.specs.Keys.{namespace_key}
use Rattle.kapi_store.specs.Plain.{has_namespace, has_object, is_namespaced}
use Rattle.kapi_store.proofs.namespaces.keep_namespace.Goals as goal

pub returns-in_ok-copy : goal.returns-in_ok-copy
unfolding has_namespace
returns-in_ok-copy c s table there known =
    let key = c.args.key.now in
    let is : is_namespaced s.table key ≡ true
    = ap (λ rows. is_namespaced rows key) table ∙ sym c.is_namespaced.ensures ∙ c.if-is_namespaced.true in
    let named : has_object (namespace_key key.namespace) s ≡ true = sym (ap (λ b. if b then has_object (namespace_key key.namespace) s else true) is) ∙ there in
    ap (λ name. has_object (namespace_key name) s) c.in_ok-copy.ensures ∙ named
