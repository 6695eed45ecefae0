-- What the words of a command line ask for.
use Rattle.std.specs.Prelude.{◌≡◌, ◌⊎◌, ℕ, ◌==◌, ◌&&◌, ◌||◌, not, if◌then◌else◌, Bool, true, false, List, [], length, codes, Option, Some, None, option_map, is_some, unwrap_or, Result, Ok, Err}
use Rattle.std.specs.List.{list_any}
use Rattle.std.specs.Str.{bytes_eq}
use Rattle.clap.specs.Kinds.{IsAmong}
use Rattle.clap.specs.Matches.{found_of}
use Rattle.clap.specs.Walk.{rows_of}
use Rattle.clap.specs.Words.{Row, Text, all_of, fault_of, first_of, kind_of, subcommand_of}
use Rattle.clap.specs.declared.error.kind.ErrorKind.{ErrorKind}
use Rattle.clap.specs.declared.error.kind.ErrorKind.TheVariants.{DisplayHelp, DisplayVersion}
use Rattle.clap.specs.declared.parser.matches.ArgMatches.{ArgMatches}
use Rattle.kapi_command_line.specs.CommandLine.{kapi}
use Rattle.kapi_command_line.specs.Listens.{◌>>=◌, listens_of}
use Rattle.kapi_command_line.specs.Numbers.{are_few, is_first, number_of, when}
use Rattle.kapi_lines.specs.declared.form.Form.{Form}
use Rattle.kapi_lines.specs.declared.form.Form.TheVariants as form
use Rattle.kapi_command_line.specs.declared.program.Asking.{Asking}
use Rattle.kapi_command_line.specs.declared.program.AuditFiles.{AuditFiles}
use Rattle.kapi_command_line.specs.declared.program.Command.{Command}
use Rattle.kapi_command_line.specs.declared.program.Command.TheVariants.{Audit, Check, Compare, Paths, Replay, Risks, Script, Serve, Show, Suggest, What, Who}
use Rattle.kapi_command_line.specs.declared.program.CommandFault.{CommandFault}
use Rattle.kapi_command_line.specs.declared.program.CommandFault.TheVariants as fault
use Rattle.kapi_command_line.specs.declared.program.CompareWords.{CompareWords}
use Rattle.kapi_command_line.specs.declared.program.Listen.{Listen}
use Rattle.kapi_command_line.specs.declared.program.PathsWords.{PathsWords}
use Rattle.kapi_command_line.specs.declared.program.Reading.{Reading}
use Rattle.kapi_command_line.specs.declared.program.ReplayOptions.{ReplayOptions}
use Rattle.kapi_command_line.specs.declared.program.ServeOptions.{ServeOptions}
use Rattle.kapi_command_line.specs.declared.program.SuggestWords.{SuggestWords}
use Rattle.kapi_command_line.specs.declared.program.WhatWords.{WhatWords}
use Rattle.kapi_command_line.specs.declared.program.WhoQuestion.{WhoQuestion}
use Rattle.kapi_command_line.specs.declared.program.WhoQuestion.TheVariants.{File, Words}
use Rattle.kapi_command_line.specs.declared.program.WhoWanted.{WhoWanted}
use Rattle.kapi_command_line.specs.declared.program.WhoWords.{WhoWords}

-- the values that the words of a subcommand give to its arguments
abbrev pub rows_in : ArgMatches → List Row
rows_in matches = rows_of (found_of matches)

-- a flag that is given has the value true
abbrev pub is_true : Option Text → Bool
is_true None = false
is_true (Some value) = bytes_eq value (codes "true")

-- the values of that name, in the order of the words
abbrev pub each : Text → List Row → List Text
each name rows = unwrap_or (all_of name rows) []

-- the value of that name; empty if it is left out
abbrev pub text_or_empty : Text → List Row → Text
text_or_empty name rows = unwrap_or (first_of name rows) []

-- how manifests are read; `with` has the values of the option called `files`
abbrev pub reading_by : Text → List Row → Reading
reading_by files rows = record {
  with = each files rows;
  defaults = is_true (first_of (codes "with-defaults") rows);
  namespace = text_or_empty (codes "namespace") rows;
  strict = is_true (first_of (codes "strict") rows);
}

-- some word says how manifests are read
abbrev pub has_reading : List Row → Bool
has_reading rows =
    is_some (first_of (codes "with") rows) || (is_true (first_of (codes "with-defaults") rows)
    || (is_some (first_of (codes "namespace") rows) || is_true (first_of (codes "strict") rows)))

-- how the policy of an audit is read, if it is manifests, as it always is for an audit log; if the policy is lines,
-- options on reading manifests are refused
abbrev pub audited_in : List Row → Option (Option Reading)
audited_in rows =
    if is_true (first_of (codes "manifests") rows) || is_true (first_of (codes "log") rows) then Some (Some (reading_by (codes "with") rows))
    else (if has_reading rows then None else Some None)

-- a server begins with manifests, or with the default roles
abbrev pub has_manifests : List Row → Bool
has_manifests rows = is_some (first_of (codes "manifests") rows) || is_true (first_of (codes "with-defaults") rows)

-- how the manifests of a server are read, which stand in place of a file of lines; a namespace is theirs alone
abbrev pub served_in : List Row → Option (Option Reading)
served_in rows =
    if has_manifests rows then (if is_some (first_of (codes "load") rows) then None else Some (Some (reading_by (codes "manifests") rows)))
    else (if is_some (first_of (codes "namespace") rows) then None else Some None)

-- the number of readers, 1 to 16; 2 if it is left out
abbrev pub readers_of : Option Text → Option ℕ
readers_of None = Some 2
readers_of (Some digits) = number_of 2 1 16 digits

-- the form that is named, else a table
abbrev pub form_named : Option Text → Option Form
form_named None = Some form.Table
form_named (Some name) =
    if bytes_eq name (codes "table") then Some form.Table
    else (if bytes_eq name (codes "json") then Some form.Json else (if bytes_eq name (codes "markdown") then Some form.Markdown else None))

-- what is printed
abbrev pub form_in : List Row → Option Form
form_in rows = if is_true (first_of (codes "json") rows) then Some form.Json else form_named (first_of (codes "format") rows)

-- the audit that parsed rows ask for
abbrev pub audit_in : List Row → Option AuditFiles
audit_in rows = do
  readers ← readers_of (first_of (codes "readers") rows)
  policy ← first_of (codes "POLICY") rows
  questions ← first_of (codes "QUESTIONS") rows
  printed ← form_in rows
  manifests ← audited_in rows
  when (are_few readers) (λ few. Some (record {
    policy = policy;
    questions = questions;
    kinds = each (codes "kinds") rows;
    log = is_true (first_of (codes "log") rows);
    form = printed;
    manifests = manifests;
    readers = readers;
    few = few;
  }))

-- the port for questions, if one is named; nothing if the word is no port
abbrev pub answer_of : Option Text → Option (Option ℕ)
answer_of None = Some None
answer_of (Some digits) = option_map (λ port. Some port) (number_of 5 1 65535 digits)

-- a server's first revision, up to the largest after which the opening objects can be created: 0 if none is named, none
-- if the clock gives it; nothing if the word is neither
abbrev pub first_of_word : Option Text → Option (Option ℕ)
first_of_word None = Some (Some 0)
first_of_word (Some word) = if bytes_eq word (codes "clock") then Some None else option_map (λ n. Some n) (number_of 15 0 281474976710650 word)

-- the ports and the identities of their clients, in the order of the words, 1 to 16
abbrev pub listens_in : List Row → Option (List Listen)
listens_in rows = do
  words ← all_of (codes "LISTEN") rows
  listens ← listens_of (is_true (first_of (codes "free-ports") rows)) words
  (if are_few (length listens) then Some listens else None)

-- a number of readers is specified without a port for questions
abbrev pub are_idle : List Row → Bool
are_idle rows = is_some (first_of (codes "readers") rows) && not (is_some (first_of (codes "answer") rows))

-- the server that parsed rows ask for
abbrev pub serve_in : List Row → Option ServeOptions
serve_in rows = do
  answer ← answer_of (first_of (codes "answer") rows)
  readers ← readers_of (first_of (codes "readers") rows)
  first ← first_of_word (first_of (codes "first-revision") rows)
  manifests ← served_in rows
  listens ← listens_in rows
  when (is_first first) (λ small. when (are_few (length listens)) (λ few. when (are_few readers) (λ threads. Some (record {
    kinds = each (codes "kinds") rows;
    load = first_of (codes "load") rows;
    manifests = manifests;
    first_revision = first;
    recheck = is_true (first_of (codes "recheck-watches") rows);
    listens = listens;
    answer = answer;
    readers = readers;
    idle_readers = are_idle rows;
    first = small;
    few = few;
    threads = threads;
  }))))

-- the transcripts that parsed rows ask for
abbrev pub replay_in : List Row → ReplayOptions
replay_in rows = record {
  files = each (codes "FILE") rows;
  write = is_true (first_of (codes "write") rows);
  strict = is_true (first_of (codes "strict") rows);
  junit = first_of (codes "junit") rows;
}

-- the policy to ask, which the argument called `name` gives, how it is read, and what is printed
abbrev pub asking_in : Text → List Row → Option Asking
asking_in name rows = do
  policy ← first_of name rows
  printed ← form_in rows
  Some (record { policy = policy; reading = reading_by (codes "with") rows; form = printed })

-- the comparison that parsed rows ask for
abbrev pub compare_in : List Row → Option CompareWords
compare_in rows = do
  before ← first_of (codes "BEFORE") rows
  after ← asking_in (codes "AFTER") rows
  Some (record {
    before = before;
    after = after;
    usual_groups = is_true (first_of (codes "usual-groups") rows);
    atoms = is_true (first_of (codes "atoms") rows);
    lost = is_true (first_of (codes "lost") rows);
  })

-- the user of whom parsed rows ask what they have
abbrev pub what_in : List Row → Option WhatWords
what_in rows = do
  asking ← asking_in (codes "POLICY") rows
  user ← first_of (codes "USER") rows
  Some (record { asking = asking; user = user; groups = each (codes "GROUP") rows })

-- the paths that parsed rows ask for
abbrev pub paths_in : List Row → Option PathsWords
paths_in rows = do
  asking ← asking_in (codes "POLICY") rows
  Some (record { asking = asking; to = text_or_empty (codes "to") rows; without = each (codes "without") rows })

-- the uses whose roles parsed rows ask for
abbrev pub suggest_in : List Row → Option SuggestWords
suggest_in rows = do
  uses ← first_of (codes "USES") rows
  Some (record {
    uses = uses;
    log = is_true (first_of (codes "log") rows);
    policy = text_or_empty (codes "policy") rows;
    reading = reading_by (codes "with") rows;
    list = is_true (first_of (codes "list") rows);
  })

-- the question that parsed rows specify in words, which is not about one namespace and cluster-wide at once
abbrev pub wanted_in : List Row → Option WhoWanted
wanted_in rows = do
  verb ← first_of (codes "VERB") rows
  resource ← first_of (codes "RESOURCE") rows
  (if is_true (first_of (codes "cluster") rows) && is_some (first_of (codes "namespace") rows) then None else Some (record {
    verb = verb;
    resource = resource;
    namespace = text_or_empty (codes "namespace") rows;
    cluster = is_true (first_of (codes "cluster") rows);
    name = text_or_empty (codes "name") rows;
  }))

-- some word of a question is there
abbrev pub has_words : List Row → Bool
has_words rows =
    is_some (first_of (codes "VERB") rows) || (is_some (first_of (codes "namespace") rows)
    || (is_some (first_of (codes "name") rows) || is_true (first_of (codes "cluster") rows)))

-- the file of questions, with no word of a question beside it, or else the words of one
abbrev pub question_by : Option Text → List Row → Option WhoQuestion
question_by (Some file) rows = if has_words rows then None else Some (File file)
question_by None rows = option_map Words (wanted_in rows)

-- the question of `kapi who` and its policy
abbrev pub who_in : List Row → Option WhoWords
who_in rows = do
  asking ← asking_in (codes "POLICY") rows
  question ← question_by (first_of (codes "questions") rows) rows
  Some (record { asking = asking; question = question })

-- what the subcommand of that name asks for
abbrev pub asked_by : Text → List Row → Option Command
asked_by name rows =
    if bytes_eq name (codes "script") then Some (Script (each (codes "kinds") rows))
    else (if bytes_eq name (codes "audit") then option_map Audit (audit_in rows)
    else (if bytes_eq name (codes "serve") then option_map Serve (serve_in rows)
    else (if bytes_eq name (codes "replay") then Some (Replay (replay_in rows))
    else (if bytes_eq name (codes "compare") then option_map Compare (compare_in rows)
    else (if bytes_eq name (codes "who") then option_map Who (who_in rows)
    else (if bytes_eq name (codes "what") then option_map What (what_in rows)
    else (if bytes_eq name (codes "risks") then option_map Risks (asking_in (codes "POLICY") rows)
    else (if bytes_eq name (codes "paths") then option_map Paths (paths_in rows)
    else (if bytes_eq name (codes "check") then option_map (λ asking. Check asking (each (codes "kinds") rows)) (asking_in (codes "POLICY") rows)
    else (if bytes_eq name (codes "suggest") then option_map Suggest (suggest_in rows) else None))))))))))

-- ---- of the words

-- what the subcommand that the words name asks for, if clap finds no fault in them
unfoldable pub asked : List Text → Option Command
asked words =
    if length (fault_of kapi words) == 0 then subcommand_of kapi words >>= (λ p. asked_by p.0 p.1) else None

-- a text of that kind is shown, and is no fault
abbrev pub is_shown : ErrorKind → Bool
is_shown DisplayHelp = true
is_shown DisplayVersion = true
is_shown _ = false

-- clap shows a text of that kind for the words
abbrev pub Shows : List Text → ErrorKind → Type 0
Shows words kind = IsAmong kind (fault_of kapi words) × (is_shown kind ≡ true)

-- the words ask for nothing: clap finds no fault in them, or one that is no text to be shown
abbrev pub AreWrong : List Text → Type 0
AreWrong words =
    (asked words ≡ None) × ((fault_of kapi words ≡ []) ⊎ (list_any (λ kind. not (is_shown kind)) (fault_of kapi words) ≡ true))

-- the words ask for that command
abbrev pub Names : List Text → Command → Type 0
Names words (Show text) = Shows words (kind_of text)
Names words c = asked words ≡ Some c

-- the value that was read is the given one; the words are wrong if none is given; out of memory says nothing
abbrev pub Reads : {X : Type 0} → Result X CommandFault → Option X → Type 0
Reads (Ok x) given = given ≡ Some x
Reads (Err fault.Words) given = given ≡ None
Reads (Err fault.Memory) given = Unit {0}
