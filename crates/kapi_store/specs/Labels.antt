-- The labels in the text of an object (RFC 8259).
use Rattle.std.specs.Prelude.{ℕ, List, [], ◌∷◌, ◌++◌, codes, unwrap_or}
use Rattle.serde_json.specs.Data.{Data, null, string, Members, no_members, member}
use Rattle.serde_json.specs.Read.{read}
use Rattle.kapi_model.specs.declared.selector.Label.{Label}
use Rattle.kapi_object.specs.Tree.{in_metadata, members_or_none}

-- the tree that the text is read as
abbrev pub told_by : List ℕ → Data
told_by text = unwrap_or (read text) null

-- the label that a member is; one that is no text is none
abbrev pub label_of : List ℕ → Data → List Label
label_of key (string text) = record { key = key; value = text } ∷ []
label_of key d = []

-- the labels among some members
abbrev pub labels_among : Members → List Label
labels_among no_members = []
labels_among (member key d ms) = label_of key d ++ labels_among ms

-- the labels that a tree has
abbrev pub labels_of : Data → List Label
labels_of tree = labels_among (members_or_none (in_metadata (codes "labels") tree))
