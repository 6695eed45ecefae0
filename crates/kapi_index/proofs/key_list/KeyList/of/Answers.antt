use Rattle.kapi_index.proofs.Ordered.{moved_keys}
use Rattle.kapi_index.proofs.key_list.KeyList.of.Goals as goal

pub returns : goal.returns
returns c = moved_keys _ _ c.sort_unstable.ensures.permutation
