-- The command line of Kapi, as clap takes it.
use Rattle.std.specs.Prelude.{List, [], ◌∷◌, ◌++◌, Some, codes, true, false}
use Rattle.clap.specs.Words.{App, Rule, Text, new_rule}
use Rattle.clap.specs.Simple.{Shape, new_shape}
use Rattle.clap.specs.declared.builder.action.ArgAction.TheVariants.{Append, SetTrue}

-- `--NAME`, which has no value
abbrev pub flag : Text → Rule
flag name = record (new_rule name) { long = Some name; action = Some SetTrue }

-- `--NAME VALUE`, which may be left out
abbrev pub once : Text → Rule
once name = record (new_rule name) { long = Some name; value_names = 1 }

-- `--NAME VALUE`, which may be given again and again
abbrev pub often : Text → Rule
often name = record (once name) { action = Some Append }

-- a word that must be there
abbrev pub word : Text → Rule
word name = record (new_rule name) { required = true }

-- a word that may be left out
abbrev pub maybe : Text → Rule
maybe name = new_rule name

-- words that may be left out
abbrev pub any : Text → Rule
any name = record (new_rule name) { range = Some (record { start_inclusive = 1; end_inclusive = 18446744073709551615 }) }

-- words, one or more
abbrev pub some : Text → Rule
some name = record (any name) { required = true }

-- words, 1 to 16
abbrev pub few : Text → Rule
few name = record (word name) { value_names = 1; range = Some (record { start_inclusive = 1; end_inclusive = 16 }) }

-- how a policy of manifests is read
abbrev pub reading : List Rule
reading = often (codes "with") ∷ flag (codes "with-defaults") ∷ once (codes "namespace") ∷ flag (codes "strict") ∷ []

-- how a policy is read, and what is printed
abbrev pub asking : List Rule
asking = reading ++ flag (codes "json") ∷ once (codes "format") ∷ []

-- a subcommand and its arguments
abbrev pub shape : Text → List Rule → Shape
shape name rules = record (new_shape name) { rules = rules }

-- the subcommands that run a machine
abbrev pub machines : List Shape
machines =
    shape (codes "script") (often (codes "kinds") ∷ [])
    ∷ shape (codes "audit") (reading ++ often (codes "kinds") ∷ word (codes "POLICY") ∷ word (codes "QUESTIONS") ∷ once (codes "readers")
    ∷ flag (codes "manifests") ∷ flag (codes "log") ∷ flag (codes "json") ∷ once (codes "format") ∷ [])
    ∷ shape (codes "serve") (often (codes "kinds") ∷ often (codes "manifests") ∷ flag (codes "with-defaults") ∷ once (codes "namespace")
    ∷ flag (codes "free-ports") ∷ once (codes "load") ∷ once (codes "first-revision") ∷ flag (codes "recheck-watches")
    ∷ once (codes "answer") ∷ once (codes "readers") ∷ few (codes "LISTEN") ∷ [])
    ∷ shape (codes "replay") (flag (codes "write") ∷ flag (codes "strict") ∷ once (codes "junit") ∷ some (codes "FILE") ∷ [])
    ∷ []

-- those that answer questions about a policy
abbrev pub askers : List Shape
askers =
    shape (codes "compare") (asking ++ flag (codes "usual-groups") ∷ flag (codes "atoms") ∷ flag (codes "lost") ∷ word (codes "BEFORE") ∷ word (codes "AFTER") ∷ [])
    ∷ shape (codes "who") (asking ++ once (codes "name") ∷ once (codes "questions") ∷ flag (codes "cluster") ∷ word (codes "POLICY") ∷ maybe (codes "VERB")
    ∷ maybe (codes "RESOURCE") ∷ [])
    ∷ shape (codes "what") (asking ++ word (codes "POLICY") ∷ word (codes "USER") ∷ any (codes "GROUP") ∷ [])
    ∷ shape (codes "risks") (asking ++ word (codes "POLICY") ∷ [])
    ∷ []

-- those that look through a policy
abbrev pub others : List Shape
others =
    shape (codes "paths") (asking ++ once (codes "to") ∷ often (codes "without") ∷ word (codes "POLICY") ∷ [])
    ∷ shape (codes "check") (asking ++ often (codes "kinds") ∷ word (codes "POLICY") ∷ [])
    ∷ shape (codes "suggest") (reading ++ flag (codes "log") ∷ once (codes "policy") ∷ flag (codes "list") ∷ word (codes "USES") ∷ [])
    ∷ []

-- `kapi`, which has a version and needs one of its subcommands
abbrev pub kapi : App
kapi = record { top = record (new_shape (codes "kapi")) { is_leaf = false; has_version = true; subcommand_required = true }; subs = machines ++ askers ++ others }
