-- Each part of an atom covers itself, covers what a covered part covers, and matches what a covered part matches.
use Rattle.std.proofs.Common.{◌≡◌, ℕ, ◌==◌, nat_eq, Bool, true, false, ◌&&◌, ◌||◌, ◌⊎◌, inl, inr, List, [], ◌∷◌, ◌++◌, length, drop, Option, Some, None, refl, ap, ◌∙◌, append_assoc}
use Rattle.std.proofs.Math.Dec.{eqb-suc-zero}
use Rattle.std.proofs.lemmas.Bool.{and_parts, or_cases, and_from, or_left, or_right}
use Rattle.std.proofs.lemmas.Bool.Decides.{Decides-eqb}
use Rattle.std.proofs.lemmas.List.Folds.{list_all-append}
use Rattle.std.proofs.lemmas.Slice.Eq.{bytes_eq-Decides, starts_is}
use Rattle.std.specs.List.{ends_with, list_any, starts_with}
use Rattle.std.specs.Str.{bytes_eq}
use Rattle.kapi_text.proofs.Booleans.{or_false, and_false}
use Rattle.kapi_rules.proofs.Texts.{all_stars}
use Rattle.kapi_rules.specs.Atoms.{after_slash, atom_allows, implies, is_any_with, names_allow, names_cover, only_names, resource_covers, rule_of}
use Rattle.kapi_rules.specs.Entries.{beginning_matches, resource_matches, star, subresource_matches, url_matches, without_stars, word_matches}
use Rattle.kapi_rules.specs.Points.{HasPlainResource}
use Rattle.kapi_rules.specs.Rules.{allows}
use Rattle.kapi_rules.specs.declared.atom.Atom.{Atom}
use Rattle.kapi_rules.specs.declared.atom.Atom.TheVariants as atom
use Rattle.kapi_rules.specs.declared.atom.Names.{Names}
use Rattle.kapi_rules.specs.declared.atom.Names.TheVariants as names
use Rattle.kapi_rules.specs.declared.point.Point.{Point}
use Rattle.kapi_rules.specs.declared.point.Point.TheVariants as point

pub same : (x y : List ℕ) → bytes_eq x y ≡ true → x ≡ y
same x y e = (bytes_eq-Decides x y).0 e

pub itself : (x : List ℕ) → bytes_eq x x ≡ true
itself x = (bytes_eq-Decides x x).1 refl

-- ---- verbs and groups

word_itself : (x : List ℕ) → word_matches x x ≡ true
word_itself x = or_right (bytes_eq x star) (bytes_eq x x) (itself x)

word_onward : (x y z : List ℕ) → word_matches x y ≡ true → word_matches y z ≡ true → word_matches x z ≡ true
word_onward x y z h k = by_case (or_cases (bytes_eq x star) (bytes_eq x y) h)
  where
    by_case : (bytes_eq x star ≡ true) ⊎ (bytes_eq x y ≡ true) → word_matches x z ≡ true
    by_case (inl all) = or_left (bytes_eq x star) (bytes_eq x z) all
    by_case (inr e) = rw (same x y e) k

-- ---- resources

-- the first slash of a joined text is the joining one, if the first text has none
slash_joined : (resource subresource : List ℕ) → after_slash resource ≡ None → after_slash (resource ++ 47 ∷ subresource) ≡ Some subresource
slash_joined [] subresource plain = refl
slash_joined (b ∷ resource) subresource plain = by_byte (b == 47) refl (slash_joined resource subresource)
  where
    by_byte : (t : Bool) → (b == 47) ≡ t → (after_slash resource ≡ None → after_slash (resource ++ 47 ∷ subresource) ≡ Some subresource)
        → after_slash (b ∷ (resource ++ 47 ∷ subresource)) ≡ Some subresource
    by_byte true t more = absurd (let found = rw t at plain in cc)
    by_byte false t more = let still = rw t at plain in rw t (more still)

no_slash : (resource : List ℕ) → list_any (λ b. b == 47) resource ≡ false → after_slash resource ≡ None
no_slash [] plain = refl
no_slash (b ∷ resource) plain = by_byte (b == 47) refl (no_slash resource)
  where
    by_byte : (t : Bool) → (b == 47) ≡ t → (list_any (λ b. b == 47) resource ≡ false → after_slash resource ≡ None) → after_slash (b ∷ resource) ≡ None
    by_byte true t more = absurd (let found = rw t at plain in cc)
    by_byte false t more = let still = rw t at plain in rw t (more still)

-- the entry `*/SUBRESOURCE` has its slash second
any_with_is : (entry : List ℕ) (o : Option (List ℕ)) → is_any_with entry o ≡ true → after_slash entry ≡ o
any_with_is entry None h = absurd cc
any_with_is entry (Some s) h = rw (same entry (42 ∷ 47 ∷ s) h) refl

any_with_same : (entry : List ℕ) (s t : List ℕ) (o : Option (List ℕ)) → o ≡ Some s → is_any_with entry o ≡ true → s ≡ t → bytes_eq entry (42 ∷ 47 ∷ t) ≡ true
any_with_same entry s t o is h e = let there = rw is at h in rw (← e) there

-- an entry that matches a subresource is `*`, or has the subresource behind its first slash
subresource_cases : (b r s : List ℕ) → after_slash r ≡ None → subresource_matches b r s ≡ true → (b ≡ star) ⊎ (after_slash b ≡ Some s)
subresource_cases b r s plain h = by_case (or_cases (word_matches b (r ++ 47 ∷ s)) (bytes_eq b (42 ∷ 47 ∷ s)) h)
  where
    by_word : (bytes_eq b star ≡ true) ⊎ (bytes_eq b (r ++ 47 ∷ s) ≡ true) → (b ≡ star) ⊎ (after_slash b ≡ Some s)
    by_word (inl all) = inl (same b star all)
    by_word (inr e) = inr (rw (same b (r ++ 47 ∷ s) e) (slash_joined r s plain))

    by_case : (word_matches b (r ++ 47 ∷ s) ≡ true) ⊎ (bytes_eq b (42 ∷ 47 ∷ s) ≡ true) → (b ≡ star) ⊎ (after_slash b ≡ Some s)
    by_case (inl w) = by_word (or_cases (bytes_eq b star) (bytes_eq b (r ++ 47 ∷ s)) w)
    by_case (inr e) = inr (rw (same b (42 ∷ 47 ∷ s) e) refl)

star_matches : (a r s : List ℕ) → bytes_eq a star ≡ true → resource_matches a r s ≡ true
star_matches a r [] all = or_left (bytes_eq a star) (bytes_eq a r) all
star_matches a r (c ∷ s) all = rw (eqb-suc-zero (length s), all) refl

any_matches : (a r s : List ℕ) (n : ℕ) → n ≡ length s → (n == 0) ≡ false → bytes_eq a (42 ∷ 47 ∷ s) ≡ true → resource_matches a r s ≡ true
any_matches a r s n is some e = rw (← is, some) (or_right (word_matches a (r ++ 47 ∷ s)) (bytes_eq a (42 ∷ 47 ∷ s)) e)

-- a resource entry matches what a covered entry matches, on a resource without a slash
resource_onward : (a b r s : List ℕ) → after_slash r ≡ None → resource_covers a b ≡ true → resource_matches b r s ≡ true → resource_matches a r s ≡ true
resource_onward a b r s plain h k = by_case (or_cases (word_matches a b) (is_any_with a (after_slash b)) h)
  where
    by_word : (bytes_eq a star ≡ true) ⊎ (bytes_eq a b ≡ true) → resource_matches a r s ≡ true
    by_word (inl all) = star_matches a r s all
    by_word (inr e) = rw (same a b e) k

    -- the other entry has a slash
    slashed : (t : List ℕ) → resource_matches b r t ≡ true → is_any_with a (after_slash b) ≡ true → resource_matches a r t ≡ true
    slashed [] m any = by_plain (or_cases (bytes_eq b star) (bytes_eq b r) m)
      where
        by_plain : (bytes_eq b star ≡ true) ⊎ (bytes_eq b r ≡ true) → resource_matches a r [] ≡ true
        by_plain (inl all) = absurd (let is = same b star all in let none = rw is at any in cc)
        by_plain (inr e) = absurd (let is = same b r e in let none = rw (is, plain) at any in cc)
    slashed (c ∷ t) m any =
        let some = eqb-suc-zero (length t) in
        let there = rw some at m in
        by_subresource (subresource_cases b r (c ∷ t) plain there)
      where
        by_subresource : (b ≡ star) ⊎ (after_slash b ≡ Some (c ∷ t)) → resource_matches a r (c ∷ t) ≡ true
        by_subresource (inl is) = absurd (let none = rw is at any in cc)
        by_subresource (inr is) =
            rw (eqb-suc-zero (length t)) (or_right (word_matches a (r ++ 47 ∷ (c ∷ t))) (bytes_eq a (42 ∷ 47 ∷ (c ∷ t))) (let there = rw is at any in there))

    by_case : (word_matches a b ≡ true) ⊎ (is_any_with a (after_slash b) ≡ true) → resource_matches a r s ≡ true
    by_case (inl w) = by_word (or_cases (bytes_eq a star) (bytes_eq a b) w)
    by_case (inr any) = slashed s k any

resource_itself : (a : List ℕ) → resource_covers a a ≡ true
resource_itself a = or_left (word_matches a a) (is_any_with a (after_slash a)) (word_itself a)

resource_covers_onward : (a b c : List ℕ) → resource_covers a b ≡ true → resource_covers b c ≡ true → resource_covers a c ≡ true
resource_covers_onward a b c h k = by_case (or_cases (word_matches a b) (is_any_with a (after_slash b)) h)
  where
    by_word : (bytes_eq a star ≡ true) ⊎ (bytes_eq a b ≡ true) → resource_covers a c ≡ true
    by_word (inl all) = or_left (word_matches a c) (is_any_with a (after_slash c)) (or_left (bytes_eq a star) (bytes_eq a c) all)
    by_word (inr e) = rw (same a b e) k

    by_next : is_any_with a (after_slash b) ≡ true → (word_matches b c ≡ true) ⊎ (is_any_with b (after_slash c) ≡ true) → resource_covers a c ≡ true
    by_next any (inl w) = by_other (or_cases (bytes_eq b star) (bytes_eq b c) w)
      where
        by_other : (bytes_eq b star ≡ true) ⊎ (bytes_eq b c ≡ true) → resource_covers a c ≡ true
        by_other (inl all) = absurd (let is = same b star all in let none = rw is at any in cc)
        by_other (inr e) =
            or_right (word_matches a c) (is_any_with a (after_slash c)) (let is = same b c e in let there = rw is at any in there)
    by_next any (inr other) =
        or_right (word_matches a c) (is_any_with a (after_slash c)) (let is = any_with_is b (after_slash c) other in let there = rw is at any in there)

    by_case : (word_matches a b ≡ true) ⊎ (is_any_with a (after_slash b) ≡ true) → resource_covers a c ≡ true
    by_case (inl w) = by_word (or_cases (bytes_eq a star) (bytes_eq a b) w)
    by_case (inr any) = by_next any (or_cases (word_matches b c) (is_any_with b (after_slash c)) k)

-- ---- names

names_itself : (a : Names) → names_cover a a ≡ true
names_itself names.All = refl
names_itself (names.One x) = itself x

names_cover_onward : (a b c : Names) → names_cover a b ≡ true → names_cover b c ≡ true → names_cover a c ≡ true
names_cover_onward names.All b c h k = refl
names_cover_onward (names.One x) names.All c h k = absurd cc
names_cover_onward (names.One x) (names.One y) names.All h k = absurd cc
names_cover_onward (names.One x) (names.One y) (names.One z) h k = rw (same x y h) k

names_onward : (a b : Names) (name : List ℕ) → names_cover a b ≡ true → names_allow b name ≡ true → names_allow a name ≡ true
names_onward names.All b name h k = refl
names_onward (names.One x) names.All name h k = absurd cc
names_onward (names.One x) (names.One y) name h k = rw (same x y h) k

-- ---- URLs

stars_left : (text : List ℕ) → all_stars (without_stars text) ≡ all_stars text
stars_left [] = refl
stars_left (b ∷ text) = by_case (all_stars (b ∷ text)) refl (stars_left text)
  where
    by_case : (t : Bool) → all_stars (b ∷ text) ≡ t → all_stars (without_stars text) ≡ all_stars text → all_stars (without_stars (b ∷ text)) ≡ all_stars (b ∷ text)
    by_case true t more = rw t refl
    by_case false t more = rw t (ap (λ r. (b == 42) && r) more ∙ t)

-- the text before the last stars of a text, and then another text: only that one's stars are last
stars_behind : (text more : List ℕ) → without_stars (without_stars text ++ more) ≡ without_stars text ++ without_stars more
stars_behind [] more = refl
stars_behind (b ∷ text) more = by_case (all_stars (b ∷ text)) refl (stars_behind text more)
  where
    not_all : all_stars (b ∷ text) ≡ false → all_stars (b ∷ (without_stars text ++ more)) ≡ false
    not_all some =
        let parts : all_stars (without_stars text ++ more) ≡ (all_stars (without_stars text) && all_stars more) = list_all-append (λ c. c == 42) (without_stars text) more in
        rw (parts, stars_left text) (cases (b == 42) (all_stars text) (all_stars more) some)
      where
        cases : (x y z : Bool) → (x && y) ≡ false → (x && (y && z)) ≡ false
        cases true true z e = absurd cc
        cases true false z e = refl
        cases false y z e = refl

    by_case : (t : Bool) → all_stars (b ∷ text) ≡ t
        → without_stars (without_stars text ++ more) ≡ without_stars text ++ without_stars more
        → without_stars (without_stars (b ∷ text) ++ more) ≡ without_stars (b ∷ text) ++ without_stars more
    by_case true t again = rw t refl
    by_case false t again = rw t (rw (not_all t) (ap (λ r. b ∷ r) again))

begins : (text front : List ℕ) → starts_with nat_eq text front ≡ true → text ≡ front ++ drop (length front) text
begins text front h = (starts_is Decides-eqb text front (starts_with nat_eq text front) refl).0 h

begins_with : (text front rest : List ℕ) → text ≡ front ++ rest → starts_with nat_eq text front ≡ true
begins_with text front rest e = (starts_is Decides-eqb text front (starts_with nat_eq text front) refl).1 rest e

url_itself : (x : List ℕ) → url_matches x x ≡ true
url_itself x = or_left (bytes_eq x x) (beginning_matches x x) (itself x)

-- covering a URL entry and matching a path are one test
url_onward : (x y z : List ℕ) → url_matches x y ≡ true → url_matches y z ≡ true → url_matches x z ≡ true
url_onward x y z h k = by_first (or_cases (bytes_eq x y) (beginning_matches x y) h)
  where
    joined : beginning_matches x y ≡ true → beginning_matches y z ≡ true → url_matches x z ≡ true
    joined p q =
        let first = and_parts (ends_with nat_eq x star) (starts_with nat_eq y (without_stars x)) p in
        let second = and_parts (ends_with nat_eq y star) (starts_with nat_eq z (without_stars y)) q in
        let middle : List ℕ = drop (length (without_stars x)) y in
        let last : List ℕ = drop (length (without_stars y)) z in
        let is : y ≡ without_stars x ++ middle = begins y (without_stars x) first.1 in
        let front : without_stars y ≡ without_stars x ++ without_stars middle = ap without_stars is ∙ stars_behind x middle in
        let whole : z ≡ without_stars x ++ (without_stars middle ++ last) =
        begins z (without_stars y) second.1 ∙ ap (λ (t : List ℕ). t ++ last) front ∙ append_assoc (without_stars x) (without_stars middle) last in
        or_right (bytes_eq x z) (beginning_matches x z)
        (and_from (ends_with nat_eq x star) (starts_with nat_eq z (without_stars x)) first.0 (begins_with z (without_stars x) (without_stars middle ++ last) whole))

    by_second : beginning_matches x y ≡ true → (bytes_eq y z ≡ true) ⊎ (beginning_matches y z ≡ true) → url_matches x z ≡ true
    by_second p (inl e) = rw (← same y z e) h
    by_second p (inr q) = joined p q

    by_first : (bytes_eq x y ≡ true) ⊎ (beginning_matches x y ≡ true) → url_matches x z ≡ true
    by_first (inl e) = rw (same x y e) k
    by_first (inr p) = by_second p (or_cases (bytes_eq y z) (beginning_matches y z) k)

-- ---- atoms

-- four parts that each follow from two
four : (a b c d a1 b1 c1 d1 a2 b2 c2 d2 : Bool)
    → (a1 ≡ true → a2 ≡ true → a ≡ true) → (b1 ≡ true → b2 ≡ true → b ≡ true) → (c1 ≡ true → c2 ≡ true → c ≡ true) → (d1 ≡ true → d2 ≡ true → d ≡ true)
    → (a1 && (b1 && (c1 && d1))) ≡ true → (a2 && (b2 && (c2 && d2))) ≡ true → (a && (b && (c && d))) ≡ true
four a b c d a1 b1 c1 d1 a2 b2 c2 d2 fa fb fc fd h k =
    let h1 = and_parts a1 (b1 && (c1 && d1)) h in
    let h2 = and_parts b1 (c1 && d1) h1.1 in
    let h3 = and_parts c1 d1 h2.1 in
    let k1 = and_parts a2 (b2 && (c2 && d2)) k in
    let k2 = and_parts b2 (c2 && d2) k1.1 in
    let k3 = and_parts c2 d2 k2.1 in
    and_from a (b && (c && d)) (fa h1.0 k1.0) (and_from b (c && d) (fb h2.0 k2.0) (and_from c d (fc h3.0 k3.0) (fd h3.1 k3.1)))

two : (a b a1 b1 a2 b2 : Bool) → (a1 ≡ true → a2 ≡ true → a ≡ true) → (b1 ≡ true → b2 ≡ true → b ≡ true)
    → (a1 && b1) ≡ true → (a2 && b2) ≡ true → (a && b) ≡ true
two a b a1 b1 a2 b2 fa fb h k =
    let h1 = and_parts a1 b1 h in
    let k1 = and_parts a2 b2 k in
    and_from a b (fa h1.0 k1.0) (fb h1.1 k1.1)

pub implies_itself : (a : Atom) → implies a a ≡ true
implies_itself (atom.Resource a) =
    and_from _ _ (word_itself a.verb) (and_from _ _ (word_itself a.group) (and_from _ _ (resource_itself a.resource) (names_itself a.names)))
implies_itself (atom.Url a) = and_from _ _ (word_itself a.verb) (url_itself a.url)

pub implies_onward : (a b c : Atom) → implies a b ≡ true → implies b c ≡ true → implies a c ≡ true
implies_onward (atom.Resource a) (atom.Resource b) (atom.Resource c) h k =
    four _ _ _ _ _ _ _ _ _ _ _ _ (word_onward a.verb b.verb c.verb) (word_onward a.group b.group c.group) (resource_covers_onward a.resource b.resource c.resource) (names_cover_onward a.names b.names c.names) h k
implies_onward (atom.Resource a) (atom.Resource b) (atom.Url c) h k = k
implies_onward (atom.Resource a) (atom.Url b) c h k = absurd cc
implies_onward (atom.Url a) (atom.Resource b) c h k = absurd cc
implies_onward (atom.Url a) (atom.Url b) (atom.Resource c) h k = k
implies_onward (atom.Url a) (atom.Url b) (atom.Url c) h k =
    two _ _ _ _ _ _ (word_onward a.verb b.verb c.verb) (url_onward a.url b.url c.url) h k

pub implies_allows : (a b : Atom) (p : Point) → HasPlainResource p → implies a b ≡ true → atom_allows b p ≡ true → atom_allows a p ≡ true
implies_allows (atom.Resource a) (atom.Resource b) (point.Resource p) plain h k =
    four _ _ _ _ _ _ _ _ _ _ _ _ (word_onward a.verb b.verb p.verb) (word_onward a.group b.group p.group) (resource_onward a.resource b.resource p.resource p.subresource (no_slash p.resource plain)) (names_onward a.names b.names p.name) h k
implies_allows (atom.Resource a) (atom.Resource b) (point.Url p) plain h k = k
implies_allows (atom.Resource a) (atom.Url b) p plain h k = absurd cc
implies_allows (atom.Url a) (atom.Resource b) p plain h k = absurd cc
implies_allows (atom.Url a) (atom.Url b) (point.Resource p) plain h k = k
implies_allows (atom.Url a) (atom.Url b) (point.Url p) plain h k =
    two _ _ _ _ _ _ (word_onward a.verb b.verb p.verb) (url_onward a.url b.url p.path) h k

-- an atom allows what the rule of the atom alone allows
pub alone_allows : (a : Atom) (p : Point) → allows (rule_of a) p ≡ atom_allows a p
alone_allows (atom.Resource a) (point.Resource p) =
    rw (or_false (word_matches a.verb p.verb), or_false (word_matches a.group p.group), or_false (resource_matches a.resource p.resource p.subresource))
    (ap (λ t. word_matches a.verb p.verb && (word_matches a.group p.group && (resource_matches a.resource p.resource p.subresource && t))) (one a.names))
  where
    one : (n : Names) → (length (only_names n) == 0 || list_any (λ x. bytes_eq x p.name) (only_names n)) ≡ names_allow n p.name
    one names.All = refl
    one (names.One x) = or_false (bytes_eq x p.name)
alone_allows (atom.Resource a) (point.Url p) = and_false (word_matches a.verb p.verb || false)
alone_allows (atom.Url a) (point.Resource p) = and_false (word_matches a.verb p.verb || false)
alone_allows (atom.Url a) (point.Url p) = rw (or_false (word_matches a.verb p.verb), or_false (url_matches a.url p.path)) refl
