use Rattle.std.proofs.Common.{◌≡◌, map, take}
use Rattle.kapi_store.specs.Stored.{stored_tree}
use Rattle.kapi_watch.proofs.watch.objects_of.Given as goal

abbrev pub invariant-loop-one : goal.invariant-loop-one
invariant-loop-one l = map stored_tree l.objects.items ≡ map (λ one. stored_tree one.object.now) (take l.one-index l.listed)
