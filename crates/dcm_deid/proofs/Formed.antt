-- The forms of values that are made anew, and dates that do not stay.
use Rattle.std.proofs.Common.{◌≡◌, ◌≢◌, ℕ, ℤ, List, [], ◌∷◌, Bool, true, false, refl, sym, ap, ◌∙◌, inl, inr, subst, ◌⊎◌}
use Rattle.std.specs.Prelude.{not, ◌==◌, ◌&&◌, ◌||◌, if◌then◌else◌, find, Option, Some, None}
use Rattle.std.specs.List.{AllZip, AllByRecursion, list_all}
use Rattle.std.specs.Option.{option_map_or}
use Rattle.std.proofs.lemmas.Bool.{eqb-true}
use mathlib.Core.Bool.{false≢true}
use Rattle.dcm_lemmas.proofs.Truth.{and_first, and_second, or_neither}
use Rattle.dcm_base.specs.declared.tag.Tag.{Tag}
use Rattle.dcm_base.specs.declared.vr.Vr.{Vr}
use Rattle.dcm_base.specs.declared.vr.Vr.TheVariants.{DA, DT, LO, UL, UN}
use Rattle.dcm_base.specs.declared.dictionary.Dictionary.TheVariants.{Standard}
use Rattle.dcm_base.specs.Tables.Tag.{is_tag, tag_number}
use Rattle.dcm_base.specs.Tables.Representation.{is_sequence}
use Rattle.dcm_base.specs.Tables.Dictionary.{vr_in}
use Rattle.dcm_base.specs.Tables.Dictionary as D
use Rattle.dcm_dates.specs.declared.moving.DateKind.{DateKind}
use Rattle.dcm_dates.specs.declared.moving.DateKind.TheVariants.{Da, Dt}
use Rattle.dcm_dates.specs.Moved.{may_follow, moved, parts_of}
use Rattle.dcm_dates.specs.Laws.{IsPartMoved}
use Rattle.dcm_dates.proofs.Texts.{text_is_moved}
use Rattle.dcm_uid.specs.Pseudonym.{patient_of, pseudonym_of}
use Rattle.dcm_uid.specs.Uid.{is_one_uid, is_standard, new_uid, replaced}
use Rattle.dcm_uid.proofs.NewUids.{new_uids}
use Rattle.dcm_uid.proofs.Pseudonyms.{form_of_pseudonym}
use Rattle.dcm_deid.specs.declared.fate.Fate.{Fate}
use Rattle.dcm_deid.specs.declared.fate.Fate.TheVariants.{Remove, Empty, Replace, Anew, Keep}
use Rattle.dcm_deid.specs.declared.fate.NewValue.{NewValue}
use Rattle.dcm_deid.specs.declared.fate.NewValue.TheVariants.{Uid, Pseudonym, MovedDate, MovedDateTime}
use Rattle.dcm_deid.specs.declared.fate.Options.{Options}
use Rattle.dcm_deid.specs.declared.fate.Retain.{Retain}
use Rattle.dcm_deid.specs.declared.fate.Retain.TheVariants.{Uids, Device, Institution, Patient, Dates}
use Rattle.dcm_deid.specs.declared.fate.Depth.{Depth}
use Rattle.dcm_deid.specs.declared.fate.ReadAs.{ReadAs}
use Rattle.dcm_deid.specs.declared.fate.ReadAs.TheVariants.{AsBytes, AsItems}
use Rattle.dcm_deid.specs.Fate.{Action, actions, are_full, are_left, are_modified, fate, fate_as, fate_in_table, fate_of_known, fate_of_vr, is_given, is_kept, is_known, is_put_at, keeps, moved_if}
use Rattle.dcm_deid.specs.MadeNew.{days_of, left_of, made_new}
use Rattle.dcm_deid.specs.MadeForms.{AreDated, HasForm, IsDated, IsDateVr}

-- ---- forms

replaced_form : (one standard : Bool) (key b : List ℕ) → is_standard b ≡ standard
    → HasForm Uid (if not one then [] else if standard then b else new_uid key b)
replaced_form false standard key b e = inl refl
replaced_form true true key b e = inr (inl e)
replaced_form true false key b e = inr (inr (new_uids key b))

uid_form : (key b : List ℕ) → HasForm Uid (replaced key b)
uid_form key b = replaced_form (is_one_uid b) (is_standard b) key b refl

pseudonym_form : (key p : List ℕ) → HasForm Pseudonym (pseudonym_of key p)
unfolding pseudonym_of
pseudonym_form key [] = inl refl
pseudonym_form key (b ∷ bs) = inr (form_of_pseudonym key b bs)

part_form : (kind : DateKind) (days : ℤ) (part new : List ℕ) → IsPartMoved kind days part new → IsDated kind new
part_form kind days part new (inl none) = inl none.1
part_form kind days part new (inr later) = inr (later.shows_new, ap (may_follow kind) later.rest ∙ later.follows)

parts_form : (kind : DateKind) (days : ℤ) (parts news : List (List ℕ)) → AllZip (IsPartMoved kind days) parts news
    → AllByRecursion (IsDated kind) news
parts_form kind days [] [] h = tt
parts_form kind days [] (n ∷ ns) h = absurd h
parts_form kind days (p ∷ ps) [] h = absurd h
parts_form kind days (p ∷ ps) (n ∷ ns) h = (part_form kind days p n h.0, parts_form kind days ps ns h.1)

moved_form : (kind : DateKind) (days : ℤ) (text : List ℕ) → (moved kind days text ≡ []) ⊎ AreDated kind (moved kind days text)
moved_form kind days text = by_any (moved kind days text) refl
  where
    by_any : (new : List ℕ) → moved kind days text ≡ new → (moved kind days text ≡ []) ⊎ AreDated kind (moved kind days text)
    by_any [] e = inl e
    by_any (b ∷ bs) e =
        let some : moved kind days text ≢ [] = λ none. (let no : b ∷ bs ≡ [] = sym e ∙ none in cc) in
        inr (parts_form kind days (parts_of text) (parts_of (moved kind days text)) (text_is_moved kind days text some).parts)

pub made_form : (options : Options) (key : List ℕ) (made : NewValue) (b : List ℕ) → HasForm made (made_new options key made b)
unfolding made_new left_of
made_form options key Uid b = uid_form key b
made_form options key Pseudonym b = pseudonym_form key (patient_of b)
made_form options key MovedDate b = moved_form Da (days_of options.dates) b
made_form options key MovedDateTime b = moved_form Dt (days_of options.dates) b

-- ---- dates do not stay

abbrev is_date_vr : Vr → Bool
is_date_vr DA = true
is_date_vr DT = true
is_date_vr _ = false

-- the representation that a number has in the dictionary
abbrev vr_numbered : ℕ → Vr
vr_numbered n = option_map_or (λ e. e.0) (D.numbered (D.elements_in Standard) n) (option_map_or (λ e. e.0) (D.numbered D.ambiguous n) UN)

abbrev is_of_dates : Retain → Bool
is_of_dates Dates = true
is_of_dates _ = false

-- a row that keeps nothing but by the options of dates
abbrev keeps_by_dates : Action → Bool
keeps_by_dates a = not (is_kept a.1) && list_all is_of_dates a.2

abbrev date_goes : Action → Bool
date_goes a = keeps_by_dates a || not (is_date_vr (vr_numbered a.0))

dates_go : list_all date_goes actions ≡ true
unfolding actions D.elements_in D.entries D.ambiguous
dates_go = refl

goes_or : (g d : Bool) → g || not d ≡ true → d ≡ true → g ≡ true
goes_or true d p q = refl
goes_or false true p q = p
goes_or false false p q = q

-- a tag of dates has its representation by its number
by_number : (tag : Tag) → IsDateVr (vr_in Standard tag) → is_date_vr (vr_numbered (tag_number tag)) ≡ true
unfolding D.vr_in D.element_in
by_number tag date = by_entry (D.numbered (D.elements_in Standard) (tag_number tag)) (D.numbered D.ambiguous (tag_number tag)) (said (vr_in Standard tag) date)
  where
    said : (vr : Vr) → IsDateVr vr → is_date_vr vr ≡ true
    said vr (inl e) = ap is_date_vr e
    said vr (inr e) = ap is_date_vr e

    unlisted : (b c : Bool) → is_date_vr (if b then UL else if c then LO else UN) ≡ false
    unlisted true c = refl
    unlisted false true = refl
    unlisted false false = refl

    by_entry : (e f : Option (Vr × List ℕ)) → is_date_vr (option_map_or (λ e. e.0) e (option_map_or (λ e. e.0) f (D.unlisted_vr tag))) ≡ true
        → is_date_vr (option_map_or (λ e. e.0) e (option_map_or (λ e. e.0) f UN)) ≡ true
    by_entry (Some e) f d = d
    by_entry None (Some f) d = d
    by_entry None None d = absurd (false≢true (sym (unlisted (D.is_group_length tag) (D.is_private_creator tag)) ∙ d))

-- what the table takes where no dates are left
module _ (options : Options) (taken : are_left options.dates ≡ false) where
  none_kept : (retains : List Retain) → list_all is_of_dates retains ≡ true → keeps options retains ≡ false
  none_kept [] all = refl
  none_kept (Dates ∷ rest) all = or_neither (is_given options Dates) (keeps options rest) taken (none_kept rest all)
  none_kept (Uids ∷ rest) all = absurd (false≢true all)
  none_kept (Device ∷ rest) all = absurd (false≢true all)
  none_kept (Institution ∷ rest) all = absurd (false≢true all)
  none_kept (Patient ∷ rest) all = absurd (false≢true all)

  not_kept : (f : Fate) → not (is_kept f) ≡ true → f ≢ Keep
  not_kept Remove e = λ k. cc
  not_kept Empty e = λ k. cc
  not_kept Replace e = λ k. cc
  not_kept (Anew made) e = λ k. cc
  not_kept Keep e = absurd (false≢true e)

  unless_kept : (b : Bool) (f : Fate) → b ≡ false → f ≢ Keep → (if b then Keep else f) ≢ Keep
  unless_kept true f e h = absurd (false≢true (sym e))
  unless_kept false f e h = h

  some_goes : (row : Action) → keeps_by_dates row ≡ true → (if keeps options row.2 then Keep else row.1) ≢ Keep
  some_goes row goes =
      unless_kept (keeps options row.2) row.1 (none_kept row.2 (and_second (not (is_kept row.1)) (list_all is_of_dates row.2) goes))
      (not_kept row.1 (and_first (not (is_kept row.1)) (list_all is_of_dates row.2) goes))

  none_goes : (vr : Vr) → IsDateVr vr → fate_of_vr options vr ≢ Keep
  none_goes vr (inl e) = subst (λ (v : Vr). fate_of_vr options v ≢ Keep) (sym e) (unless_kept (are_left options.dates) Empty taken (λ k. cc))
  none_goes vr (inr e) = subst (λ (v : Vr). fate_of_vr options v ≢ Keep) (sym e) (unless_kept (are_left options.dates) Empty taken (λ k. cc))

  module _ (n : ℕ) (vr : Vr) (date : IsDateVr vr) (dated : is_date_vr (vr_numbered n) ≡ true) where
    table_goes : (rows : List Action) → list_all date_goes rows ≡ true → fate_in_table options (find (λ (a : Action). a.0 == n) rows) vr ≢ Keep
    table_goes [] all = none_goes vr date
    table_goes (row ∷ rows) all = by_test (table_goes rows (and_second (date_goes row) (list_all date_goes rows) all)) (row.0 == n) refl
      where
        by_test : fate_in_table options (find (λ (a : Action). a.0 == n) rows) vr ≢ Keep → (b : Bool) → (row.0 == n) ≡ b
            → fate_in_table options (if b then Some row else find (λ (a : Action). a.0 == n) rows) vr ≢ Keep
        by_test rest true same =
            some_goes row (goes_or (keeps_by_dates row) (is_date_vr (vr_numbered row.0)) (and_first (date_goes row) (list_all date_goes rows) all)
            (ap (λ (m : ℕ). is_date_vr (vr_numbered m)) (eqb-true row.0 n same) ∙ dated))
        by_test rest false same = rest

no_date : (vr : Vr) (f : Fate) → IsDateVr vr → moved_if true vr f ≢ Keep
no_date vr f (inl e) = subst (λ (v : Vr). moved_if true v f ≢ Keep) (sym e) (by_fate f)
  where
    by_fate : (f : Fate) → moved_if true DA f ≢ Keep
    by_fate Remove = λ k. cc
    by_fate Empty = λ k. cc
    by_fate Replace = λ k. cc
    by_fate (Anew made) = λ k. cc
    by_fate Keep = λ k. cc
no_date vr f (inr e) = subst (λ (v : Vr). moved_if true v f ≢ Keep) (sym e) (by_fate f)
  where
    by_fate : (f : Fate) → moved_if true DT f ≢ Keep
    by_fate Remove = λ k. cc
    by_fate Empty = λ k. cc
    by_fate Replace = λ k. cc
    by_fate (Anew made) = λ k. cc
    by_fate Keep = λ k. cc

unmoved : (vr : Vr) (f : Fate) → f ≢ Keep → moved_if false vr f ≢ Keep
unmoved vr Remove h = h
unmoved vr Empty h = h
unmoved vr Replace h = h
unmoved vr (Anew made) h = h
unmoved vr Keep h = absurd (h refl)

or_named : (b : Bool) (f : Fate) → f ≢ Keep → (if b then Anew Pseudonym else f) ≢ Keep
or_named true f h = λ k. cc
or_named false f h = h

or_removed : (b : Bool) (f : Fate) → f ≢ Keep → (if b then Remove else f) ≢ Keep
or_removed true f h = λ k. cc
or_removed false f h = h

no_known_date : (options : Options) (tag : Tag) → are_full options.dates ≡ false → IsDateVr (vr_in Standard tag) → fate_of_known options tag ≢ Keep
no_known_date options tag full date = or_named (is_tag 0x0010 0x0020 tag && options.pseudonyms) _ (by_moved (are_modified options.dates) refl)
  where
    by_moved : (b : Bool) → are_modified options.dates ≡ b → moved_if b (vr_in Standard tag) (fate_in_table options (find (λ (a : Action). a.0 == tag_number tag) actions) (vr_in Standard tag)) ≢ Keep
    by_moved true e = no_date (vr_in Standard tag) (fate_in_table options (find (λ (a : Action). a.0 == tag_number tag) actions) (vr_in Standard tag)) date
    by_moved false e =
        unmoved (vr_in Standard tag) (fate_in_table options (find (λ (a : Action). a.0 == tag_number tag) actions) (vr_in Standard tag))
        (table_goes options (or_neither (are_full options.dates) (are_modified options.dates) full e) (tag_number tag) (vr_in Standard tag) date (by_number tag date) actions dates_go)

no_date_here : (options : Options) (depth : Depth) (tag : Tag) → are_full options.dates ≡ false → IsDateVr (vr_in Standard tag) → fate options depth tag ≢ Keep
no_date_here options depth tag full date = or_removed (is_put_at options depth tag || not (is_known tag)) (fate_of_known options tag) (no_known_date options tag full date)

pub no_date_stays : (options : Options) (depth : Depth) (read : ReadAs) (tag : Tag) → are_full options.dates ≡ false → IsDateVr (vr_in Standard tag)
    → fate_as options depth read tag ≢ Keep
unfolding fate_as
no_date_stays options depth AsItems tag full date = no_date_here options depth tag full date
no_date_stays options depth AsBytes tag full date = or_removed (is_sequence (vr_in Standard tag)) (fate options depth tag) (no_date_here options depth tag full date)
