use Rattle.std.proofs.Common.{◌≡◌, ◌==◌, None, length, lit<}
use Rattle.std.specs.List.{position_or_len}
use Rattle.std.proofs.lemmas.Str.Pattern.{split_once_first}
use Rattle.kapi_model.proofs.Slashes.{key_without_slash}
use Rattle.kapi_model.proofs.names.check_label_key.Goals as goal

pub returns-in-None : goal.returns-in-None
returns-in-None c =
    let none : position_or_len (λ b. b == 47) c.args.key.now ≡ length c.args.key.now =
    split_once_first 47 c.args.key.now None c.in-None.ensures.cases (lit< tt) in
    rw (key_without_slash c.args.key.now none) c.is_label_name-in-None.ensures
