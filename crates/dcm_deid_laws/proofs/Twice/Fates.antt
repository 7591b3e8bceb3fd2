-- Where unique identifiers are retained, and no pseudonyms are asked for, no value is made anew but of dates that are moved.
use Rattle.std.proofs.Common.{◌≡◌, ◌≢◌, ◌∙◌, ap, sym, refl, Bool, true, false, ◌&&◌, ◌||◌, not, ◌==◌, if◌then◌else◌, List, [], ◌∷◌, Option, Some, None}
use Rattle.std.specs.Prelude.{find}
use Rattle.std.specs.List.{list_all, list_any}
use Rattle.dcm_deid.proofs.Research.{kept_of_kept}
use Rattle.dcm_lemmas.proofs.Truth.{and_first, and_second}
use Rattle.dcm_base.specs.declared.dictionary.Dictionary.TheVariants.{Standard}
use Rattle.dcm_base.specs.declared.tag.Tag.{Tag}
use Rattle.dcm_base.specs.declared.vr.Vr.{Vr}
use Rattle.dcm_base.specs.declared.vr.Vr.TheVariants.{DA, TM, DT, PN}
use Rattle.dcm_base.specs.Tables.Dictionary.{vr_in}
use Rattle.dcm_base.specs.Tables.Representation.{is_sequence}
use Rattle.dcm_base.specs.Tables.Tag.{is_tag, tag_number}
use Rattle.dcm_deid.specs.declared.fate.Fate.{Fate}
use Rattle.dcm_deid.specs.declared.fate.Fate.TheVariants.{Remove, Empty, Replace, Anew, Keep}
use Rattle.dcm_deid.specs.declared.fate.NewValue.{NewValue}
use Rattle.dcm_deid.specs.declared.fate.NewValue.TheVariants.{Uid, Pseudonym, MovedDate, MovedDateTime}
use Rattle.dcm_deid.specs.declared.fate.Options.{Options}
use Rattle.dcm_deid_laws.specs.Laws.{MakesNothingAnew}
use Rattle.dcm_deid.specs.declared.fate.Retain.{Retain}
use Rattle.dcm_deid.specs.declared.fate.Retain.TheVariants.{Uids, Device, Institution, Patient, Dates}
use Rattle.dcm_deid.specs.declared.fate.Depth.{Depth}
use Rattle.dcm_deid.specs.declared.fate.ReadAs.{ReadAs}
use Rattle.dcm_deid.specs.declared.fate.ReadAs.TheVariants.{AsBytes, AsItems}
use Rattle.dcm_deid.specs.Fate.{Action, actions, fate, fate_as, are_left, are_modified, fate_in_table, fate_of_known, fate_of_vr, kept_as, moved_if, is_given, is_known, is_put_at, keeps}

abbrev is_anew : Fate → Bool
is_anew (Anew made) = true
is_anew _ = false

abbrev is_uids : Retain → Bool
is_uids Uids = true
is_uids _ = false

-- each row of the table that replaces a unique identifier is kept by the option
abbrev retains : Action → Bool
retains a = not (is_anew a.1) || list_any is_uids a.2

all_retain : list_all retains actions ≡ true
unfolding actions
all_retain = refl

found_here : (passes : Action → Bool) (b : Bool) (a f : Action) (rest : Option Action) → passes a ≡ true → (rest ≡ Some f → passes f ≡ true) → (if b then Some a else rest) ≡ Some f → passes f ≡ true
found_here passes true a f rest p q is = cc
found_here passes false a f rest p q is = q is

found_passes : (test passes : Action → Bool) (rows : List Action) (f : Action) → list_all passes rows ≡ true → find test rows ≡ Some f → passes f ≡ true
found_passes test passes [] f all is = absurd (cc)
found_passes test passes (a ∷ rows) f all is =
    found_here passes (test a) a f (find test rows) (and_first (passes a) (list_all passes rows) all) (found_passes test passes rows f (and_second (passes a) (list_all passes rows) all)) is

-- a value of another kind than those that dates get, if any
module _ (options : Options) (given : options.uids ≡ true) (unnamed : options.pseudonyms ≡ false) (made : NewValue) (other : (vr : Vr) → kept_as (are_modified options.dates) vr ≢ Anew made) where
  one_given : (r : Retain) (rest : Bool) → is_uids r ≡ true → (is_given options r || rest) ≡ true
  one_given Uids rest e = ap (λ (b : Bool). b || rest) given
  one_given Device rest e = absurd (cc)
  one_given Institution rest e = absurd (cc)
  one_given Patient rest e = absurd (cc)
  one_given Dates rest e = absurd (cc)

  or_last : (b : Bool) → (b || true) ≡ true
  or_last true = refl
  or_last false = refl

  first_or_more : (b : Bool) (r : Retain) (rs : List Retain) → is_uids r ≡ b → (b || list_any is_uids rs) ≡ true → (list_any is_uids rs ≡ true → keeps options rs ≡ true) → keeps options (r ∷ rs) ≡ true
  first_or_more true r rs e h more = one_given r (keeps options rs) e
  first_or_more false r rs e h more = ap (λ (b : Bool). is_given options r || b) (more h) ∙ or_last (is_given options r)

  any_given : (rs : List Retain) → list_any is_uids rs ≡ true → keeps options rs ≡ true
  any_given [] e = absurd (cc)
  any_given (r ∷ rs) e = first_or_more (is_uids r) r rs refl e (any_given rs)

  kept_or : (b : Bool) (f : Fate) → (if b then Keep else f) ≡ Anew made → f ≡ Anew made
  kept_or true f k = absurd (cc)
  kept_or false f k = k

  row_fate : (f : Fate) (rs : List Retain) → (not (is_anew f) || list_any is_uids rs) ≡ true → (if keeps options rs then Keep else f) ≢ Anew made
  row_fate (Anew new) rs e = λ k. (let no : Keep ≡ Anew made = sym (ap (λ (b : Bool). if b then Keep else Anew new) (any_given rs e)) ∙ k in cc)
  row_fate Remove rs e = λ k. (let no : Remove ≡ Anew made = kept_or (keeps options rs) Remove k in cc)
  row_fate Empty rs e = λ k. (let no : Empty ≡ Anew made = kept_or (keeps options rs) Empty k in cc)
  row_fate Replace rs e = λ k. (let no : Replace ≡ Anew made = kept_or (keeps options rs) Replace k in cc)
  row_fate Keep rs e = λ k. (let no : Keep ≡ Anew made = kept_or (keeps options rs) Keep k in cc)

  dates_fate : (b : Bool) → (if b then Keep else Empty) ≢ (Anew made)
  dates_fate true = λ k. cc
  dates_fate false = λ k. cc

  vr_fate : (vr : Vr) → fate_of_vr options vr ≢ (Anew made)
  vr_fate DA = dates_fate (are_left options.dates)
  vr_fate TM = dates_fate (are_left options.dates)
  vr_fate DT = dates_fate (are_left options.dates)
  vr_fate PN = λ k. cc
  vr_fate vr = λ k. cc

  in_table : (o : Option Action) (vr : Vr) → ((a : Action) → o ≡ Some a → retains a ≡ true) → fate_in_table options o vr ≢ (Anew made)
  in_table None vr h = vr_fate vr
  in_table (Some a) vr h = row_fate a.1 a.2 (h a refl)

  moved_fate : (vr : Vr) (f : Fate) → f ≢ Anew made → moved_if (are_modified options.dates) vr f ≢ Anew made
  moved_fate vr Remove h = h
  moved_fate vr Empty h = h
  moved_fate vr Replace h = h
  moved_fate vr (Anew new) h = h
  moved_fate vr Keep h = other vr

  no_pseudonym : (b p : Bool) (f : Fate) → p ≡ false → f ≢ Anew made → (if b && p then Anew Pseudonym else f) ≢ Anew made
  no_pseudonym true true f e h = absurd (cc)
  no_pseudonym false true f e h = absurd (cc)
  no_pseudonym true false f e h = h
  no_pseudonym false false f e h = h

  known_fate : (t : Tag) → fate_of_known options t ≢ Anew made
  known_fate t =
      let f : Fate = fate_in_table options (find (λ (a : Action). a.0 == tag_number t) actions) (vr_in Standard t) in
      let in_rows = in_table (find (λ (a : Action). a.0 == tag_number t) actions) (vr_in Standard t) (λ a is. found_passes (λ (a : Action). a.0 == tag_number t) retains actions a all_retain is) in
      no_pseudonym (is_tag 0x0010 0x0020 t) options.pseudonyms (moved_if (are_modified options.dates) (vr_in Standard t) f) unnamed (moved_fate (vr_in Standard t) f in_rows)

  if_removed : (b : Bool) (f : Fate) → f ≢ (Anew made) → (if b then Remove else f) ≢ (Anew made)
  if_removed true f h = λ k. cc
  if_removed false f h = h

  some_fate : (depth : Depth) (t : Tag) → fate options depth t ≢ (Anew made)
  some_fate depth t = if_removed (is_put_at options depth t || not (is_known t)) (fate_of_known options t) (known_fate t)

  not_anew : (depth : Depth) (read : ReadAs) (t : Tag) → fate_as options depth read t ≢ (Anew made)
  unfolding fate_as
  not_anew depth AsItems t = some_fate depth t
  not_anew depth AsBytes t = if_removed (is_sequence (vr_in Standard t)) (fate options depth t) (some_fate depth t)

-- ---- no value at all, where dates are not moved

none_moved : (moved : Bool) (made : NewValue) (vr : Vr) → moved ≡ false → kept_as moved vr ≢ Anew made
none_moved true made vr e = absurd (cc)
none_moved false made vr e = λ k. (let no : Keep ≡ Anew made = sym (kept_of_kept vr) ∙ k in cc)

pub none_anew : (options : Options) → MakesNothingAnew options → (made : NewValue) (depth : Depth) (read : ReadAs) (t : Tag) → fate_as options depth read t ≢ (Anew made)
none_anew options nothing made = not_anew options nothing.0 nothing.1 made (λ vr. none_moved (are_modified options.dates) made vr nothing.2)

-- ---- dates alone, where they are

-- a value that dates get
abbrev pub IsMoved : NewValue → Type 0
IsMoved Uid = ⊥
IsMoved Pseudonym = ⊥
IsMoved MovedDate = Unit {0}
IsMoved MovedDateTime = Unit {0}

moved_or : (moved : Bool) (made : NewValue) (f : Fate) → f ≢ Anew made → (if moved then f else Keep) ≢ Anew made
moved_or true made f h = h
moved_or false made f h = λ k. cc

no_other : (moved : Bool) (made : NewValue) → Anew MovedDate ≢ Anew made → Anew MovedDateTime ≢ Anew made → (vr : Vr) → kept_as moved vr ≢ Anew made
no_other moved made h k DA = moved_or moved made (Anew MovedDate) h
no_other moved made h k DT = moved_or moved made (Anew MovedDateTime) k
no_other moved made h k vr = λ e. cc

pub dates_alone : (options : Options) → options.uids ≡ true → options.pseudonyms ≡ false → (made : NewValue) (depth : Depth) (read : ReadAs) (t : Tag) → fate_as options depth read t ≡ Anew made → IsMoved made
dates_alone options given unnamed Uid depth read t e = absurd (not_anew options given unnamed Uid (no_other (are_modified options.dates) Uid (λ k. cc) (λ k. cc)) depth read t e)
dates_alone options given unnamed Pseudonym depth read t e = absurd (not_anew options given unnamed Pseudonym (no_other (are_modified options.dates) Pseudonym (λ k. cc) (λ k. cc)) depth read t e)
dates_alone options given unnamed MovedDate depth read t e = tt
dates_alone options given unnamed MovedDateTime depth read t e = tt
