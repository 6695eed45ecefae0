use Rattle.std.proofs.Common.{ℕ, List, [], ◌∷◌, ◌++◌, ◌&&◌, ◌||◌, map, ap, ◌∙◌}
use Rattle.std.proofs.lemmas.List.{map-append}
use Rattle.std.specs.Str.{bytes_eq}
use Rattle.kapi_access.specs.Noted.{is_noted}
use Rattle.kapi_access.specs.Views.{way_of}
use Rattle.kapi_access.specs.Who.{same_grantee}
use Rattle.kapi_access.specs.declared.way.Way.{Way as ByWay}
use Rattle.kapi_access.proofs.First.{noted_more}
use Rattle.kapi_access.proofs.first_ways.FirstWays.add.Goals as goal

pub invariant_of-self-then-branch : goal.invariant_of-self-then-branch
invariant_of-self-then-branch c =
    noted_more c.self.inside.listed (λ n g. is_noted c.note.new.users c.note.new.groups n g) (λ n g. is_noted c.self.inside.users c.self.inside.groups n g)
    (map way_of c.self.inside.list.items) (map way_of c.push_reserved.new.self.items) (way_of c.args.way)
    (ap (map way_of) (c.push_reserved.ensures.items ∙ ap (λ (l : List ByWay). l ++ c.args.way ∷ []) c.in_ok-reserve.ensures.items) ∙ map-append way_of c.self.inside.list.items (c.args.way ∷ []))
    c.self.invariant
    (λ n g. c.in_ok-note.ensures.noted n g ∙ ap (λ (t : List ℕ). (bytes_eq n t && same_grantee g c.args.way.to) || is_noted c.self.inside.users c.self.inside.groups n g) c.within-there.ensures)
