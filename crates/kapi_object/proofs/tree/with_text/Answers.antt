use Rattle.std.proofs.Common.{◌≡◌, ◌∙◌, ℕ, List, Option, Some, None, true, codes, string_bytes, option_map, ap, refl, rules, sym}
use Rattle.serde_json.proofs.Views.{Entry, view-Object}
use Rattle.serde_json.specs.Data.{Data, null, object, put, string}
use Rattle.serde_json.specs.Find.{get_member}
use Rattle.serde_json.specs.View.{view, members_view}
use Rattle.serde_json.specs.declared.value.Value.{the_lemmas}
use Rattle.serde_json.specs.declared.value.Value.TheVariants.{Null}
use Rattle.kapi_object.proofs.Closed.{metadata_hold}
use Rattle.kapi_object.proofs.SetTexts.{in_object}
use Rattle.kapi_object.proofs.Ordered.{keys_in_order}
use Rattle.kapi_object.proofs.Puts.{members_view_set, place_found}
use Rattle.kapi_object.proofs.Removal.{members_are_in_order}
use Rattle.kapi_object.specs.Order.{in_order}
use Rattle.kapi_object.specs.Tree.{members_or_none, metadata_of, with_text}
use Rattle.kapi_object.proofs.tree.with_text.Goals as goal
use Rattle.kapi_object.proofs.tree.with_text.Goals.{in-Some+in_ok-set_text-in-Some, in-None+in_ok-set_text-in-None+in_ok-put-in-None}

abbrev at : List ℕ
at = codes "metadata"

null_view : view Null ≡ null
null_view = search (rules, the_lemmas)

-- what is found among the members of the tree are its metadata
found_metadata : (tree : Data) (es : List Entry) (o : Option Data) → members_view es ≡ members_or_none (Some tree) → o ≡ get_member at (members_view es)
    → members_or_none o ≡ metadata_of tree
found_metadata tree es o all found = ap members_or_none (found ∙ ap (get_member at) all ∙ in_object at tree)

-- the tree whose metadata were put among its members
put_metadata : (key text : List ℕ) (tree metadata : Data) (es : List Entry) (o : Option Data)
    → members_view es ≡ members_or_none (Some tree) → o ≡ get_member at (members_view es) → metadata ≡ object (put key (string text) (members_or_none o))
    → object (put at metadata (members_view es)) ≡ with_text key text tree
put_metadata key text tree metadata es o all found set =
    let is : metadata ≡ object (put key (string text) (metadata_of tree)) = set ∙ ap (λ ms. object (put key (string text) ms)) (found_metadata tree es o all found) in
    rw (is, all) refl

pub set_text-requires : goal.set_text-requires
set_text-requires c =
    let tree : Data = view c.args.tree in
    let es : List Entry = c.into_members-members.result.entries in
    let there = place_found at es c.get_mut.result c.get_mut.ensures.value in
    let found : Some (view c.in-Some.metadata.now) ≡ get_member at (members_view es) = ap (option_map (λ x. view x.now)) (sym c.in-Some.is) ∙ there in
    rw (found_metadata tree es (Some (view c.in-Some.metadata.now)) c.into_members-members.ensures found) (metadata_hold keys_in_order 0 tree c.requires)

pub returns : goal.returns
returns c =
    let tree : Data = view c.args.tree in
    let key : List ℕ = c.args.key.now in
    let text : List ℕ = string_bytes c.args.text in
    let es : List Entry = c.into_members-members.result.entries in
    let all : members_view es ≡ members_or_none (Some tree) = c.into_members-members.ensures in
    let there = place_found at es c.get_mut.result c.get_mut.ensures.value in
    view-Object c.match-get_mut.members ∙ elim c.match-get_mut.branch [
      | in-Some+in_ok-set_text-in-Some w ↦
          let found : Some (view w.in-Some.metadata.now) ≡ get_member at (members_view es) = ap (option_map (λ x. view x.now)) (sym w.in-Some.is) ∙ there in
          let ordered : in_order (members_view es) ≡ true = rw all (members_are_in_order tree c.requires) in
          ap object (ap (λ m. members_view m.entries) w.members-is ∙ ap members_view (c.get_mut.follows.holds w.set_text.new.tree).0
          ∙ members_view_set at w.set_text.new.tree (view w.in-Some.metadata.now) es ordered found)
          ∙ put_metadata key text tree (view w.set_text.new.tree) es (Some (view w.in-Some.metadata.now)) all found w.in_ok-set_text-in-Some.ensures
      | in-None+in_ok-set_text-in-None+in_ok-put-in-None w ↦
          let found : None ≡ get_member at (members_view es) = ap (option_map (λ x. view x.now)) (sym w.in-None.is) ∙ there in
          ap object (ap (λ m. members_view m.entries) w.members-is ∙ w.in_ok-put-in-None.ensures.ok
          ∙ ap (λ m. put at (view w.set_text-in-None.new.tree) (members_view m.entries)) c.get_mut.follows.holds-at-none)
          ∙ put_metadata key text tree (view w.set_text-in-None.new.tree) es None all found
          (w.in_ok-set_text-in-None.ensures ∙ ap (λ d. object (put key (string text) (members_or_none (Some d)))) null_view)
    ]
