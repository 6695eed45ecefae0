-- What came of going over connections, joined.
use Rattle.kapi_serve.specs.declared.progress.Progress.{Progress}
use Rattle.kapi_serve.specs.declared.progress.Progress.TheVariants as progress

-- what was done comes first, then what was left
abbrev pub both : Progress → Progress → Progress
both progress.Made other = progress.Made
both progress.Still other = other
both progress.Starved progress.Made = progress.Made
both progress.Starved other = progress.Starved
