-- Tokens that are written one after the other.
use Rattle.std.proofs.Common.{◌≡◌, ◌∙◌, List, ◌++◌, append_assoc, ap}
use Rattle.json.specs.Token.{Token}

two : {t u : List Token} (old a b : List Token) → t ≡ old ++ a → u ≡ t ++ b → u ≡ old ++ (a ++ b)
two old a b is then = then ∙ ap (λ ts. ts ++ b) is ∙ append_assoc old a b

pub three : {t u v : List Token} (old a b c : List Token) → t ≡ old ++ a → u ≡ t ++ b → v ≡ u ++ c → v ≡ old ++ (a ++ (b ++ c))
three {t} old a b c first e f = two old a (b ++ c) first (two t b c e f)

pub four : {t u v w : List Token} (old a b c d : List Token)
    → t ≡ old ++ a → u ≡ t ++ b → v ≡ u ++ c → w ≡ v ++ d → w ≡ old ++ (a ++ (b ++ (c ++ d)))
four {t} old a b c d first e f g = two old a (b ++ (c ++ d)) first (three t b c d e f g)

pub five : {t u v w x : List Token} (old a b c d e : List Token)
    → t ≡ old ++ a → u ≡ t ++ b → v ≡ u ++ c → w ≡ v ++ d → x ≡ w ++ e → x ≡ old ++ (a ++ (b ++ (c ++ (d ++ e))))
five {t} old a b c d e first g h i j = two old a (b ++ (c ++ (d ++ e))) first (four t b c d e g h i j)

pub six : {t u v w x y : List Token} (old a b c d e f : List Token)
    → t ≡ old ++ a → u ≡ t ++ b → v ≡ u ++ c → w ≡ v ++ d → x ≡ w ++ e → y ≡ x ++ f → y ≡ old ++ (a ++ (b ++ (c ++ (d ++ (e ++ f)))))
six {t} old a b c d e f first g h i j k = two old a (b ++ (c ++ (d ++ (e ++ f)))) first (five t b c d e f g h i j k)

pub seven : {t u v w x y z : List Token} (old a b c d e f g : List Token)
    → t ≡ old ++ a → u ≡ t ++ b → v ≡ u ++ c → w ≡ v ++ d → x ≡ w ++ e → y ≡ x ++ f → z ≡ y ++ g
    → z ≡ old ++ (a ++ (b ++ (c ++ (d ++ (e ++ (f ++ g))))))
seven {t} old a b c d e f g first h i j k l m = two old a (b ++ (c ++ (d ++ (e ++ (f ++ g))))) first (six t b c d e f g h i j k l m)
