-- Listed objects, their keys and their trees.
use Rattle.std.proofs.Common.{◌≡◌, ◌∙◌, ◌+◌, suc, ℕ, List, [], ◌∷◌, map, length, Ok, refl, sym, ap}
use Rattle.std.specs.Map.{keys_of}
use Rattle.serde_json.specs.Data.{Data}
use Rattle.serde_json.specs.Written.{compact_text}
use Rattle.kapi_answer.specs.List.{list_tree}
use Rattle.kapi_http.specs.declared.message.StatusCode.TheVariants as status
use Rattle.kapi_model.specs.declared.row.ResourceRow.{ResourceRow}
use Rattle.kapi_store.specs.Stored.{stored_tree}
use Rattle.kapi_reply.specs.declared.reply.Content.TheVariants as content
use Rattle.kapi_store.specs.Listing.{shown}
use Rattle.kapi_store.specs.Plain.{Plain, revisions_left, trees}
use Rattle.kapi_store.specs.declared.key.Key.{Key}
use Rattle.kapi_store.specs.declared.listing.Listed.{Listed}
use Rattle.kapi_answer.specs.Collection.{deletes_all, list_of}
use Rattle.kapi_answer.specs.Response.{Response, told}

-- the trees and the keys of what is listed
abbrev trees_in : List Listed → List Data
trees_in ls = map (λ l. stored_tree l.object.now) ls

abbrev keys_in : List Listed → List Key
keys_in ls = map (λ l. l.key.now) ls

listed_trees : (ls : List Listed) → map (λ (e : Key × Data). e.1) (trees (map shown ls)) ≡ trees_in ls
listed_trees [] = refl
listed_trees (l ∷ ls) = ap (λ ds. stored_tree l.object.now ∷ ds) (listed_trees ls)

listed_keys : (ls : List Listed) → map (λ (e : Key × Data). e.0) (trees (map shown ls)) ≡ keys_in ls
listed_keys [] = refl
listed_keys (l ∷ ls) = ap (λ ks. l.key.now ∷ ks) (listed_keys ls)

pub shown_keys : (ls : List Listed) → keys_of (map shown ls) ≡ map (λ l. l.key.now) ls
shown_keys [] = refl
shown_keys (l ∷ ls) = ap (λ ks. l.key.now ∷ ks) (shown_keys ls)

listed_length : (ls : List Listed) → length (trees (map shown ls)) ≡ length ls
listed_length [] = refl
listed_length (l ∷ ls) = ap suc (listed_length ls)

-- a response with a body that changes nothing
abbrev pub telling : List ℕ → Response
telling body = record { code = status.Ok; content = content.Json; body = body; changes = [] }

-- the reply to a list of some trees
pub list_told : (row : ResourceRow) (ls : List Listed) (es : List (Key × Data)) (n revision : ℕ) (body : List ℕ)
    → body ≡ compact_text (list_tree row (map (λ l. stored_tree l.object.now) ls) n) → n ≡ revision → trees (map shown ls) ≡ es
    → telling body ≡ told status.Ok (list_of row es revision)
list_told row ls es n revision body hb hn ht =
    ap telling
    (hb ∙ ap (λ m. compact_text (list_tree row (trees_in ls) m)) hn
    ∙ ap (λ ds. compact_text (list_tree row ds revision)) (sym (listed_trees ls) ∙ ap (map (λ (e : Key × Data). e.1)) ht))

-- the deletion of what is listed
pub deletion_told : (s : Plain) (row : ResourceRow) (ls : List Listed) (count n : ℕ) (name told : List ℕ) (keys : List Key)
    → revisions_left s count ≡ Ok tt → count ≡ length ls → name ≡ [] → keys ≡ map (λ l. l.key.now) ls
    → told ≡ compact_text (list_tree row (map (λ l. stored_tree l.object.now) ls) n) → n ≡ s.revision + count
    → deletes_all s row (trees (map shown ls)) ≡ Ok (record { name = name; keys = keys; told = told })
unfolding deletes_all
deletion_told s row ls count n name told keys left hc hname hkeys htold hn =
    let enough : revisions_left s (length ls) ≡ Ok tt = ap (revisions_left s) (sym hc) ∙ left in
    rw (hname, hkeys, htold, hn, hc, listed_length ls, enough, listed_keys ls, listed_trees ls) refl
