use Rattle.kapi_index.proofs.Places.{not_marked}
use Rattle.kapi_index.proofs.marks.Marked.has_joined.Goals as goal

pub is_marked-requires : goal.is_marked-requires
is_marked-requires c = c.word.invariant.1

pub returns-else-is_marked : goal.returns-else-is_marked
returns-else-is_marked c =
    not_marked c.self.inside.marks c.word.inside.place _ _ _ _ _ c.self.view_is c.word.view_is c.word.invariant.0 c.self.invariant c.is_marked.ensures c.if-is_marked.false
