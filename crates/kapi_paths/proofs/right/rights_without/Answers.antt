use Rattle.std.proofs.Common.{◌≡◌, ◌++◌, ◌∙◌, List, ℕ, ap, sym, map}
use Rattle.std.specs.List.{filter, flat_map}
use Rattle.std.proofs.lemmas.Grind.{flat_map-append}
use Rattle.std.proofs.lemmas.List.Elements.{filter-append}
use Rattle.kapi_paths.specs.Rights.{Group, Row, account_groups, cluster_groups, group_of, groups, is_kept, person_groups, row_of, rows_of}
use Rattle.kapi_paths.specs.declared.right.Right.{Right}
use Rattle.kapi_paths.proofs.right.rights_without.Goals as goal

-- the rights of groups, but those of the kinds left out
abbrev kept : List (List ℕ) → List Group → List Row
kept without gs = flat_map rows_of (filter (is_kept without) gs)

both : (without : List (List ℕ)) (xs ys : List Group) → kept without xs ++ kept without ys ≡ kept without (xs ++ ys)
both without xs ys = sym (ap (flat_map rows_of) (filter-append (is_kept without) xs ys) ∙ flat_map-append rows_of (filter (is_kept without) xs) (filter (is_kept without) ys))

pub returns : goal.returns
unfolding groups
returns c =
    let k = kept c.args.without.now in
    let e1 : map row_of c.push_kept.new.list.items ≡ k cluster_groups =
    c.in_ok-push_kept.ensures ∙ (ap (λ (l : List Right). map row_of l ++ k (map group_of c.cluster_groups.result)) c.new-list.ensures.items ∙ ap (λ gs. k gs) c.cluster_groups.ensures) in
    let e2 : map row_of c.push_kept-2.new.list.items ≡ k (cluster_groups ++ account_groups) =
    c.in_ok-push_kept-2.ensures ∙ (ap (λ (l : List Row). l ++ k (map group_of c.account_groups.result)) e1
    ∙ (ap (λ gs. k cluster_groups ++ k gs) c.account_groups.ensures ∙ both c.args.without.now cluster_groups account_groups)) in
    c.in_ok-push_kept-3.ensures ∙ (ap (λ (l : List Row). l ++ k (map group_of c.person_groups.result)) e2
    ∙ (ap (λ gs. k (cluster_groups ++ account_groups) ++ k gs) c.person_groups.ensures ∙ both c.args.without.now (cluster_groups ++ account_groups) person_groups))
