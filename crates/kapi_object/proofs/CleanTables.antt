-- An object that has, by its table, what is kept of another has no fault if the other has none.
use Rattle.std.proofs.Common.{◌≡◌, ◌∙◌, ℕ, suc, zero, List, [], ◌∷◌, Bool, true, false, not, ◌&&◌, ◌||◌, Option, Some, None, refl, ap, subst, is_some, if◌then◌else◌, length, ◌==◌, bytes_eq}
use Rattle.std.proofs.Math.Dec.{eqb-suc-zero}
use Rattle.std.proofs.lemmas.Slice.Eq.{bytes_eq-Decides}
use Rattle.std.specs.Cmp.{first_so, second_so}
use Rattle.serde_json.specs.Data.{Data, string, array, object, Items}
use Rattle.serde_json.specs.Find.{as_object}
use Rattle.kapi_model.specs.FaultKind.{fault}
use Rattle.kapi_model.specs.declared.fault.FaultKind.TheVariants.{Required, BadValue}
use Rattle.kapi_model.specs.declared.fault.FieldFault.{FieldFault}
use Rattle.kapi_object.proofs.Puts.{text_round}
use Rattle.kapi_object.specs.Contents.{text_value, text_if, text_at, text_of, items_if, read_items, write_items}
use Rattle.kapi_object.specs.Tree.{is_empty, member_of}
use Rattle.kapi_object.proofs.CleanLabels.{labels_part}
use Rattle.kapi_object.proofs.CleanLists.{parts, both, listed_clean, array_clean, kept_clean, given_same, text_clean}
use Rattle.kapi_object.proofs.KeptParts.{Keeps, filled, written_value, part_value, row_value}
use Rattle.kapi_object.specs.Shapes.{Says, passes, chosen, element_faults, part_faults, row_faults, rows_faults, table_faults}
use Rattle.kapi_object.specs.Tables.{rows_of, word_text}
use Rattle.kapi_object.specs.Typed.{need_faults, items_faults, list_faults, is_given, is_right, is_required, member_path, object_faults, text_faults, text_item_faults}
use Rattle.kapi_object.specs.declared.table.Choice.{Choice}
use Rattle.kapi_object.specs.declared.table.Choice.TheVariants.{One, Two, Three}
use Rattle.kapi_object.specs.declared.table.ValueRule.{ValueRule}
use Rattle.kapi_object.specs.declared.table.ValueRule.TheVariants as part
use Rattle.kapi_object.specs.declared.table.Row.{Row}
use Rattle.kapi_object.specs.declared.table.Table.{Table}
use Rattle.kapi_object.specs.declared.table.Table.TheVariants as table
use Rattle.kapi_object.specs.declared.table.When.{When}
use Rattle.kapi_object.specs.declared.table.When.TheVariants as when
use Rattle.kapi_object.specs.declared.table.Written.{Written}
use Rattle.kapi_object.specs.declared.table.Written.TheVariants as written
use Rattle.kapi_object.specs.declared.text_rule.TextRule.{TextRule}
use Rattle.kapi_object.specs.declared.text_rule.TextRule.TheVariants as rule
use Rattle.kapi_object.specs.declared.typed_list.Presence.{Presence}
use Rattle.kapi_object.specs.declared.word.Word.{Word}

-- ---- objects

pub object_parts : (f : List ℕ → Data → List FieldFault) (p : List ℕ) (d : Data) → object_faults f p d ≡ [] → f p d ≡ []
object_parts f p (object ms) h = h
object_parts f p _ h = absurd (cc h)

pub object_clean : (f : List ℕ → Data → List FieldFault) (p : List ℕ) (d : Data) → is_some (as_object d) ≡ true → f p d ≡ [] → object_faults f p d ≡ []
object_clean f p d is h = rw is h

-- an object is given
is_object_given : (d : Data) → is_some (as_object d) ≡ true → is_given (Some d) ≡ true
is_object_given (array ds) h = absurd (cc h)
is_object_given _ h = refl

-- ---- texts

-- a text that is kept as it is
abbrev pub is_plain : TextRule → Bool
is_plain rule.RbacGroup = false
is_plain rule.RbacGroupOrEmpty = false
is_plain _ = true

plain_filled : (r : TextRule) (s : List ℕ) → is_plain r ≡ true → filled r s ≡ s
plain_filled rule.RbacGroup s h = absurd (cc h)
plain_filled rule.RbacGroupOrEmpty s h = absurd (cc h)
plain_filled _ s h = refl

pub text_written : (x : ℕ) (s : List ℕ) → text_value (x ∷ s) ≡ Some (string (x ∷ s))
text_written x s = rw (eqb-suc-zero (length s)) refl

not_required : (a b : Bool) (f g : FieldFault) → (if a && true then f ∷ [] else (if b then [] else g ∷ [])) ≡ [] → (if a then f ∷ [] else []) ≡ []
not_required true b f g h = absurd (cc h)
not_required false b f g h = refl

plain_clean : (r : TextRule) (p : List ℕ) (o : Option Data) → text_faults r p o ≡ [] → text_faults r p (text_value (text_if o)) ≡ []
unfolding text_faults
plain_clean r p None h = h
plain_clean r p (Some (string [])) h = not_required (is_required r) (is_right r []) (fault p Required) (fault p BadValue) h
plain_clean r p (Some (string (x ∷ s))) h = ap (text_faults r p) (text_written x s) ∙ h
plain_clean r p (Some _) h = absurd (cc h)

text_part : (r : TextRule) (p : List ℕ) (o : Option Data) → text_faults r p o ≡ [] → text_faults r p (text_value (filled r (text_if o))) ≡ []
unfolding text_faults
text_part rule.RbacGroup p o h = refl
text_part rule.RbacGroupOrEmpty p o h = refl
text_part r p o h = plain_clean r p o h

written_clean : (f : List ℕ → Data → List FieldFault) (n : Presence) (w : Written) (p : List ℕ) (ds : Items) → need_faults n (is_empty ds) p ≡ [] → items_faults f p 0 ds ≡ []
    → list_faults f n p (written_value w ds) ≡ []
written_clean f n written.Always p ds hn hi = array_clean f n p ds hn hi
written_clean f n written.NotEmpty p ds hn hi = listed_clean f n p ds hn hi

-- ---- which rows tell what others depend on

abbrev when_key : When → Word
when_key (when.Given key) = key
when_key (when.Filled key) = key
when_key (when.Says key one other) = key
when_key (when.Keeps key rule) = key

-- a condition holds alike of what is kept of the part
abbrev fits : When → ValueRule → Bool
fits (when.Given key) (part.Texts n r) = true
fits (when.Given key) (part.Object n t) = true
fits (when.Given key) _ = false
fits _ (part.Text r) = is_plain r
fits _ _ = false

abbrev fits_row : When → Choice → Bool
fits_row w (One q) = fits w q
fits_row w _ = false

-- some row is of the key, and fits
abbrev is_told : When → List Row → Bool
is_told w [] = false
is_told w (r ∷ rs) = (bytes_eq (word_text r.0) (word_text (when_key w)) && fits_row w r.1) || is_told w rs

-- each condition of a choice has a row of its key that fits
abbrev tells : Choice → List Row → Bool
tells (One q) rows = true
tells (Two w q r) rows = is_told w rows
tells (Three w q v r s) rows = is_told w rows && is_told v rows

-- each row's choice has rows of its keys that fit
abbrev are_told : List Row → List Row → Bool
are_told [] rows = true
are_told (r ∷ rs) rows = tells r.1 rows && are_told rs rows

sound : (t : Table) → are_told (rows_of t) (rows_of t) ≡ true
sound table.Role = refl
sound _ = refl

-- an object has what is kept of another by the rows
abbrev pub Found : Keeps → List Row → Data → Data → Type 0
Found g [] k d = Unit {0}
Found g (r ∷ rs) k d = (member_of (word_text r.0) k ≡ row_value g r d) × Found g rs k d

-- ---- one level

module _ (f : Says) (g : Keeps) (is_object : (t : Table) (d : Data) → is_some (as_object (g t d)) ≡ true)
    (below : (t : Table) (p : List ℕ) (d : Data) → object_faults (f t) p d ≡ [] → object_faults (f t) p (g t d) ≡ []) where
  part_clean : (q : ValueRule) (p : List ℕ) (o : Option Data) → part_faults f q p o ≡ [] → part_faults f q p (part_value g q o) ≡ []
  unfolding part_faults
  part_clean part.Dropped p o h = refl
  part_clean part.Forbidden p o h = refl
  part_clean (part.Text r) p o h = text_part r p o h
  part_clean (part.Texts n r) p o h =
      let ds : Items = write_items string (read_items text_of (items_if o)) in
      let hs : (need_faults n (is_empty ds) p ≡ []) × (items_faults (text_item_faults r) p 0 ds ≡ []) = kept_clean text_of string (text_item_faults r) n p o (text_clean r) h in
      listed_clean (text_item_faults r) n p ds hs.0 hs.1
  part_clean part.Labels p o h = labels_part p o h
  part_clean (part.Object n t) p None h = h
  part_clean (part.Object n t) p (Some d) h = below t p d h
  part_clean (part.Objects n w t) p o h =
      let ds : Items = write_items (λ d. d) (read_items (g t) (items_if o)) in
      let hs : (need_faults n (is_empty ds) p ≡ []) × (items_faults (object_faults (f t)) p 0 ds ≡ []) = kept_clean (g t) (λ d. d) (object_faults (f t)) n p o (below t) h in
      written_clean (object_faults (f t)) n w p ds hs.0 hs.1

  -- ---- the conditions hold alike

  object_given : (n : Presence) (t : Table) (p : List ℕ) (o : Option Data) → element_faults (object_faults (f t)) n p o ≡ [] → is_given (part_value g (part.Object n t) o) ≡ is_given o
  object_given n t p None h = refl
  object_given n t p (Some (object ms)) h = is_object_given (g t (object ms)) (is_object t (object ms))
  object_given n t p (Some _) h = absurd (cc h)

  text_same : (r : TextRule) (key : List ℕ) (k d : Data) → is_plain r ≡ true → member_of key k ≡ part_value g (part.Text r) (member_of key d) → text_at key k ≡ text_at key d
  text_same r key k d plain e = ap text_if e ∙ text_round (filled r (text_at key d)) ∙ plain_filled r (text_at key d) plain

  part_tells : (w : When) (q : ValueRule) (p : List ℕ) (k d : Data) → fits w q ≡ true → member_of (word_text (when_key w)) k ≡ part_value g q (member_of (word_text (when_key w)) d)
      → part_faults f q p (member_of (word_text (when_key w)) d) ≡ [] → passes w k ≡ passes w d
  unfolding part_faults
  part_tells (when.Given key) (part.Texts n r) p k d h e c = ap is_given e ∙ given_same text_of string (text_item_faults r) n p (member_of (word_text key) d) c
  part_tells (when.Given key) (part.Object n t) p k d h e c = ap is_given e ∙ object_given n t p (member_of (word_text key) d) c
  part_tells (when.Filled key) (part.Text r) p k d h e c = ap (λ s. not (length s == 0)) (text_same r (word_text key) k d h e)
  part_tells (when.Says key one other) (part.Text r) p k d h e c = ap (λ s. bytes_eq s (word_text one) || bytes_eq s (word_text other)) (text_same r (word_text key) k d h e)
  part_tells (when.Keeps key s) (part.Text r) p k d h e c = ap (is_right s) (text_same r (word_text key) k d h e)
  part_tells _ _ p k d h e c = absurd (cc h)

  row_tells : (w : When) (key : List ℕ) (c : Choice) (p : List ℕ) (k d : Data) → key ≡ word_text (when_key w) → fits_row w c ≡ true
      → member_of key k ≡ part_value g (chosen c d) (member_of key d) → part_faults f (chosen c d) p (member_of key d) ≡ [] → passes w k ≡ passes w d
  row_tells w key (One q) p k d is h e c =
      let P : List ℕ → Type 0 = λ l. member_of l k ≡ part_value g q (member_of l d) in
      let Q : List ℕ → Type 0 = λ l. part_faults f q p (member_of l d) ≡ [] in
      part_tells w q p k d h (subst P is e) (subst Q is c)
  row_tells w key _ p k d is h e c = absurd (cc h)

  told_same : (w : When) (rs : List Row) (p : List ℕ) (k d : Data) → is_told w rs ≡ true → Found g rs k d → rows_faults f rs p d ≡ [] → passes w k ≡ passes w d
  unfolding rows_faults
  told_same w [] p k d h found c = absurd (cc h)
  told_same w (r ∷ rs) p k d h found c =
      let cs : (row_faults f r p d ≡ []) × (rows_faults f rs p d ≡ []) = parts (row_faults f r p d) (rows_faults f rs p d) c in
      let here : Bool = bytes_eq (word_text r.0) (word_text (when_key w)) && fits_row w r.1 in
      let P : Bool → Type 0 = λ b. here ≡ b → (b || is_told w rs) ≡ true → passes w k ≡ passes w d in
      let cases : P here = elim here as P [
        | true ↦ λ e i. row_tells w (word_text r.0) r.1 (member_path p (word_text r.0)) k d
            ((bytes_eq-Decides (word_text r.0) (word_text (when_key w))).0 (first_so (bytes_eq (word_text r.0) (word_text (when_key w))) (fits_row w r.1) e))
            (second_so (bytes_eq (word_text r.0) (word_text (when_key w))) (fits_row w r.1) e) found.0 cs.0
        | false ↦ λ e i. told_same w rs p k d i found.1 cs.1
      ] in
      cases refl h

  chosen_same : (c : Choice) (rows : List Row) (k d : Data) → ((w : When) → is_told w rows ≡ true → passes w k ≡ passes w d) → tells c rows ≡ true → chosen c k ≡ chosen c d
  chosen_same (One q) rows k d same h = refl
  chosen_same (Two w q r) rows k d same h = ap (λ b. if b then q else r) (same w h)
  chosen_same (Three w q v r s) rows k d same h =
      ap (λ b. if b then q else (if passes v k then r else s)) (same w (first_so (is_told w rows) (is_told v rows) h))
      ∙ ap (λ b. if passes w d then q else (if b then r else s)) (same v (second_so (is_told w rows) (is_told v rows) h))

  rows_clean : (rs rows : List Row) (p : List ℕ) (k d : Data) → ((w : When) → is_told w rows ≡ true → passes w k ≡ passes w d) → are_told rs rows ≡ true
      → Found g rs k d → rows_faults f rs p d ≡ [] → rows_faults f rs p k ≡ []
  unfolding rows_faults
  rows_clean [] rows p k d same told found h = refl
  rows_clean (r ∷ rs) rows p k d same told found h =
      let hs : (row_faults f r p d ≡ []) × (rows_faults f rs p d ≡ []) = parts (row_faults f r p d) (rows_faults f rs p d) h in
      both (row_faults f r p k) (rows_faults f rs p k)
      (ap (λ q. part_faults f q (member_path p (word_text r.0)) (member_of (word_text r.0) k)) (chosen_same r.1 rows k d same (first_so (tells r.1 rows) (are_told rs rows) told))
      ∙ ap (part_faults f (chosen r.1 d) (member_path p (word_text r.0))) found.0
      ∙ part_clean (chosen r.1 d) (member_path p (word_text r.0)) (member_of (word_text r.0) d) hs.0)
      (rows_clean rs rows p k d same (second_so (tells r.1 rows) (are_told rs rows) told) found.1 hs.1)

  pub level_clean : (t : Table) (p : List ℕ) (k d : Data) → Found g (rows_of t) k d → rows_faults f (rows_of t) p d ≡ [] → rows_faults f (rows_of t) p k ≡ []
  level_clean t p k d found h =
      rows_clean (rows_of t) (rows_of t) p k d (λ w told. told_same w (rows_of t) p k d told found h) (sound t) found h

-- ---- all levels

module _ (g : ℕ → Keeps) (is_object : (n : ℕ) (t : Table) (d : Data) → is_some (as_object (g n t d)) ≡ true)
    (finds : (n : ℕ) (t : Table) (p : List ℕ) (d : Data) → table_faults (suc n) t p d ≡ [] → Found (g n) (rows_of t) (g (suc n) t d) d) where
  pub table_clean : (n : ℕ) (t : Table) (p : List ℕ) (d : Data) → object_faults (table_faults n t) p d ≡ [] → object_faults (table_faults n t) p (g n t d) ≡ []
  table_clean zero t p d h = object_clean (table_faults zero t) p (g zero t d) (is_object zero t d) refl
  table_clean (suc n) t p d h =
      let c : table_faults (suc n) t p d ≡ [] = object_parts (table_faults (suc n) t) p d h in
      object_clean (table_faults (suc n) t) p (g (suc n) t d) (is_object (suc n) t d)
      (level_clean (table_faults n) (g n) (is_object n) (table_clean n) t p (g (suc n) t d) d (finds n t p d c) c)
