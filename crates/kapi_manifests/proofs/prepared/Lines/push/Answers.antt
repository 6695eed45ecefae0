use Rattle.std.proofs.Common.{ap, ◌++◌, ◌∷◌, [], ◌∙◌}
use Rattle.kapi_manifests.proofs.Wrote.{pushed}
use Rattle.kapi_manifests.proofs.prepared.Lines.push.Goals as goal

pub returns : goal.returns
returns c = λ ds of.
    pushed c.args.self.now _ _ ds _ _ of
    (c.in_ok-push.ensures.items ∙ ap (λ t. t ++ 10 ∷ []) (c.in_ok-extend_from_slice.ensures.items ∙ ap (λ t. c.args.self.now.text.items ++ t) c.as_bytes.ensures.value))
    c.in_ok-push-2.ensures.items c.in_ok-text.ensures.reads_back
