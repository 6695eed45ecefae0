-- A gain more is put into the last line, or behind it.
use Rattle.std.proofs.Common.{◌≡◌, true, false, List, [], ◌∷◌, ◌++◌, map, refl, sym, ap, append_assoc, ◌∙◌}
use Rattle.std.proofs.lemmas.List.{map-append}
use Rattle.kapi_access.specs.Views.{gained_atoms_of}
use Rattle.kapi_access.specs.declared.gained_rules.GainedAtoms.{GainedAtoms as AtomsGained}
use Rattle.kapi_access.specs.Gained.{Gained, GainedAtoms, is_alike, with_gain}

at_last : (front : List GainedAtoms) (l : GainedAtoms) (g : Gained) → with_gain (front ++ l ∷ []) g ≡ front ++ with_gain (l ∷ []) g
unfolding with_gain
at_last [] l g = refl
at_last (f ∷ []) l g = refl
at_last (f ∷ h ∷ front) l g = ap (λ (lines : List GainedAtoms). f ∷ lines) (at_last (h ∷ front) l g)

pub own_line : (g : Gained) → with_gain [] g ≡ record { to = g.to; binding = g.binding; rule = g.rule; atoms = g.gain ∷ [] } ∷ []
unfolding with_gain
own_line g = refl

pub put_behind : (front : List GainedAtoms) (l : GainedAtoms) (g : Gained) → is_alike l g ≡ false
    → with_gain (front ++ l ∷ []) g ≡ front ++ (l ∷ record { to = g.to; binding = g.binding; rule = g.rule; atoms = g.gain ∷ [] } ∷ [])
unfolding with_gain
put_behind front l g other = at_last front l g ∙ rw other refl

pub put_into : (front : List GainedAtoms) (l : GainedAtoms) (g : Gained) → is_alike l g ≡ true
    → with_gain (front ++ l ∷ []) g ≡ front ++ record l { atoms = l.atoms ++ g.gain ∷ [] } ∷ []
unfolding with_gain
put_into front l g alike = at_last front l g ∙ rw alike refl

pub behind_last : (old popped mid new : List AtomsGained) (last one : AtomsGained) (g : Gained) → old ≡ popped ++ last ∷ [] → mid ≡ popped ++ last ∷ [] → new ≡ mid ++ one ∷ []
    → gained_atoms_of one ≡ record { to = g.to; binding = g.binding; rule = g.rule; atoms = g.gain ∷ [] } → is_alike (gained_atoms_of last) g ≡ false
    → map gained_atoms_of new ≡ with_gain (map gained_atoms_of old) g
behind_last old popped mid new last one g old_is mid_is new_is one_is other =
    ap (map gained_atoms_of) (new_is ∙ ap (λ (m : List AtomsGained). m ++ one ∷ []) mid_is)
    ∙ map-append gained_atoms_of (popped ++ last ∷ []) (one ∷ [])
    ∙ ap (λ (m : List GainedAtoms). m ++ gained_atoms_of one ∷ []) (map-append gained_atoms_of popped (last ∷ []))
    ∙ append_assoc (map gained_atoms_of popped) (gained_atoms_of last ∷ []) (gained_atoms_of one ∷ [])
    ∙ ap (λ (o : GainedAtoms). map gained_atoms_of popped ++ (gained_atoms_of last ∷ o ∷ [])) one_is
    ∙ sym (put_behind (map gained_atoms_of popped) (gained_atoms_of last) g other)
    ∙ ap (λ (l : List GainedAtoms). with_gain l g) (sym (ap (map gained_atoms_of) old_is ∙ map-append gained_atoms_of popped (last ∷ [])))

pub into_last : (old popped new : List AtomsGained) (last longer : AtomsGained) (g : Gained) → old ≡ popped ++ last ∷ [] → new ≡ popped ++ longer ∷ []
    → gained_atoms_of longer ≡ record (gained_atoms_of last) { atoms = (gained_atoms_of last).atoms ++ g.gain ∷ [] } → is_alike (gained_atoms_of last) g ≡ true
    → map gained_atoms_of new ≡ with_gain (map gained_atoms_of old) g
into_last old popped new last longer g old_is new_is longer_is alike =
    ap (map gained_atoms_of) new_is
    ∙ map-append gained_atoms_of popped (longer ∷ [])
    ∙ ap (λ (o : GainedAtoms). map gained_atoms_of popped ++ o ∷ []) longer_is
    ∙ sym (put_into (map gained_atoms_of popped) (gained_atoms_of last) g alike)
    ∙ ap (λ (l : List GainedAtoms). with_gain l g) (sym (ap (map gained_atoms_of) old_is ∙ map-append gained_atoms_of popped (last ∷ [])))
