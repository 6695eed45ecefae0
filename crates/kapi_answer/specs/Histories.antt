-- Histories: what an answer changes is what one write of the store makes, so that all changes ever are a history.
use Rattle.std.specs.Prelude.{◌≡◌, ℕ, List, [], Result, Ok}
use Rattle.std.specs.List.{AllByRecursion}
use Rattle.std.specs.List.Sorted.{IsStrictlySortedBy}
use Rattle.std.specs.Map.{keys_of}
use Rattle.serde_json.specs.Data.{Data}
use Rattle.kapi_http.specs.declared.message.HttpFault.{HttpFault}
use Rattle.kapi_http.specs.declared.message.HttpRequest.{HttpRequest}
use Rattle.kapi_policy.specs.Objects.{PolicyObjects}
use Rattle.kapi_model.specs.declared.identity.Identity.{Identity}
use Rattle.kapi_store.specs.Keys.{key_cmp}
use Rattle.kapi_store.specs.Plain.{Plain, PlainChange}
use Rattle.kapi_store.specs.declared.key.Key.{Key}
use Rattle.kapi_watch.specs.Histories.{IsNamedBy, IsCreation, IsReplacement, IsRemoval}
use Rattle.kapi_answer.specs.Answer.{answer}
use Rattle.kapi_answer.specs.Load.{loads}

-- the objects are in the order of their keys, and the metadata of each has the namespace and the name of its key
pub record AreNamed (os : List (Key × Data)) : Type 0 where
  pub sorted : IsStrictlySortedBy key_cmp (keys_of os)
  pub named : AllByRecursion (λ e. IsNamedBy e.0 e.1) os

-- the changes of one write: none, or those of a creation, a replacement or a removal
pub data IsWrite (s : Plain) (cs : List PlainChange) : Type 0 where
  nothing : cs ≡ [] → IsWrite s cs
  creates : IsCreation s cs → IsWrite s cs
  replaces : IsReplacement s cs → IsWrite s cs
  removes : IsRemoval s cs → IsWrite s cs

-- each answer changes what one write makes
abbrev pub AnswersWrite : Type 0
AnswersWrite = (objects : PolicyObjects) (s : Plain) (identity : Identity) (item : Result HttpRequest HttpFault) → AreNamed s.objects
    → IsWrite s (answer objects s identity item).changes

-- each object that is loaded changes what a creation makes
abbrev pub LoadsCreate : Type 0
LoadsCreate = (s : Plain) (text : List ℕ) (cs : List PlainChange) → loads s text ≡ Ok cs → IsCreation s cs
