-- Of a parameter that is passed on to a callee, a body has at exit what the callee's contract says of it.
use Rattle.std.proofs.Common.{ℕ, List, [], ◌∷◌}
use seplogic.Ra.Ura.{Ura}
use types.Logic.{Logic}
use denote.Exit.{left}
use denote.Signature.{Slot}
use denote.Triple.End.{Kepts}
use denote.Triple.Walked.{Stays, AllGo}

abbrev pub passed : {n : ℕ} (ss : List (Slot n)) (ks : Kepts ss) → Stays ss ks
passed [] ks = tt
passed (s ∷ ss) ks = (record { fit = λ κs x w. Unit {0}; has = λ κs x w vs. left ((s.row κs).exit ks.0) x w }, passed ss ks.1)

pub passed_go : {M : Type 1} {𝓤 : Ura M} (𝓛 : Logic 𝓤) (n : ℕ) (ss : List (Slot n)) (ks : Kepts ss) → AllGo 𝓛 n ss ks (passed ss ks)
passed_go 𝓛 n [] ks = tt
passed_go 𝓛 n (s ∷ ss) ks = ((λ κs x w vs ok. 𝓛.laws.⇛_intro _), passed_go 𝓛 n ss ks.1)
