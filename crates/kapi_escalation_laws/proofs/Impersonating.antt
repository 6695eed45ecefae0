-- An identity that makes requests as another may impersonate.
use Rattle.std.proofs.Common.{◌≡◌, ◌==◌, inl, inr, ℕ, List, ◌∷◌, length, map, Bool, true, false, not, if◌then◌else◌, Option, Some, None, Ok, Err, refl, sym, ◌∙◌, codes}
use Rattle.std.specs.List.{filter}
use Rattle.std.proofs.Math.Dec.{eqb-suc-zero}
use Rattle.kapi_escalation.specs.Impersonation.{MakesAs, asked_of, denied, effective, group_question, impersonated, is_denied, questions, service_account, user_question}
use Rattle.kapi_escalation.specs.declared.question.Question.{Question}
use Rattle.kapi_model.specs.declared.subject.ServiceAccount.{ServiceAccount}
use Rattle.kapi_policy.specs.Objects.{PolicyObjects}
use Rattle.kapi_model.specs.declared.identity.Identity.{Identity}
use Rattle.kapi_request_info.specs.declared.impersonated.Impersonation.{Impersonation}
use Rattle.kapi_rules.specs.Points.{HasPlainResource}
use Rattle.kapi_rules.specs.declared.point.Point.{Point}
use Rattle.kapi_escalation_laws.specs.Access.{ActsAs, MayImpersonate, may, verb_of}

-- a user is asked for with the verb, on a resource without a slash
abbrev IsAsked : Question → Type 0
IsAsked q = HasPlainResource q.point × (verb_of q.point ≡ codes "impersonate")

account_asked : (o : Option ServiceAccount) (user : List ℕ) → IsAsked (asked_of o user)
account_asked (Some account) user = (refl, refl)
account_asked None user = (refl, refl)

user_asked : (user : List ℕ) → IsAsked (user_question user)
unfolding user_question
user_asked user = account_asked (service_account user) user

-- if the first question is reported if it is denied, no report means that it is allowed
first_if : (q : Question) (rest : List Question) (b : Bool) → (length (map (λ q. q.point) (if not b then q ∷ rest else rest)) == 0) ≡ true → b ≡ true
first_if q rest true h = refl
first_if q rest false h = let never : false ≡ true = sym (eqb-suc-zero (length (map (λ q. q.point) rest))) ∙ h in cc never

-- if another identity is acted as, nothing is reported as denied
told_if : (b : Bool) (points : List Point) (it other : Identity) → (if b then Ok it else Err points) ≡ Ok other → b ≡ true
told_if true points it other h = refl
told_if false points it other h = cc h

module _ (objects : PolicyObjects) (identity : Identity) where
  -- where nothing is denied the first question is allowed
  first_allowed : (q : Question) (qs : List Question) → (length (denied objects identity (q ∷ qs)) == 0) ≡ true → may objects identity q.namespace q.point ≡ true
  first_allowed q qs none = first_if q (filter (is_denied objects identity) qs) (may objects identity q.namespace q.point) none

  none_denied : (wanted : Impersonation) (other : Identity) → impersonated objects identity wanted ≡ Ok other → (length (denied objects identity (questions wanted)) == 0) ≡ true
  unfolding impersonated
  none_denied wanted other acts =
      let points : List Point = denied objects identity (questions wanted) in
      told_if (length points == 0) points (effective wanted) other acts

  may_impersonate : (wanted : Impersonation) (other : Identity) → impersonated objects identity wanted ≡ Ok other → MayImpersonate objects identity
  may_impersonate wanted other acts =
      let q : Question = user_question wanted.user in record {
        namespace = q.namespace;
        request = q.point;
        plain = (user_asked wanted.user).0;
        verb = (user_asked wanted.user).1;
        allowed = first_allowed q (map group_question wanted.groups) (none_denied wanted other acts);
      }

  -- the identity is the other, or may impersonate
  pub acts_as : (other : Identity) → MakesAs objects identity other → ActsAs objects identity other
  acts_as other (inl same) = inl same
  acts_as other (inr (wanted, acts)) = inr (may_impersonate wanted other acts)
