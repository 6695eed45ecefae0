use Rattle.std.proofs.Common.{subst, sym}
use Rattle.std.specs.List.Sorted.{IsSorted}
use Rattle.kapi_policy.specs.Objects.{name_cmp}
use Rattle.kapi_index.proofs.asker.Asker.is_in.Goals as goal

pub search-requires : goal.search-requires
search-requires c = subst (IsSorted name_cmp) (sym c.as_slice.ensures) (c.args.self.now.ordered c.if-self.true)
