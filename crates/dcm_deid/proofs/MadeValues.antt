-- What is made of values that are made anew.
use Rattle.std.proofs.Common.{◌≡◌, ◌<◌, ◌≤◌, ℕ, List, [], length, Bool, true, false, refl, arith}
use Rattle.std.specs.Prelude.{nat_lt, not, ◌&&◌, ◌==◌, if◌then◌else◌}
use Rattle.std.specs.List.{list_any}
use Rattle.std.proofs.lemmas.Bool.{lt-leb}
use Rattle.dcm_dates.specs.declared.moving.DateKind.TheVariants.{Da, Dt}
use Rattle.dcm_dates.specs.Moved.{moved}
use Rattle.dcm_dates.proofs.Parts.{moved_long}
use Rattle.dcm_dates.proofs.Texts.{moved_short}
use Rattle.dcm_uid.proofs.NewUids.{replaced_short}
use Rattle.dcm_uid.proofs.Pseudonyms.{pseudonyms_short}
use Rattle.dcm_uid.specs.Uid.{is_standard, new_uid, replaced}
use Rattle.dcm_uid.specs.Pseudonym.{patient_of, pseudonym_of}
use Rattle.dcm_deid.specs.declared.fate.NewValue.{NewValue}
use Rattle.dcm_deid.specs.declared.fate.NewValue.TheVariants.{Uid, Pseudonym, MovedDate, MovedDateTime}
use Rattle.dcm_deid.specs.declared.fate.Options.{Options}
use Rattle.dcm_deid.specs.MadeNew.{days_of, left_of, made_new}
use Rattle.dcm_deid.proofs.HeldValues.{NothingOfLong}

too_long : (key u : List ℕ) → 64 < length u → replaced key u ≡ []
too_long key u h = rw (lt-leb (length u) 64 h) (by_some (nat_lt 0 (length u)))
  where
    by_some : (some : Bool) → (if not (some && (false && not (list_any (λ z. z == 92) u))) then [] else if is_standard u then u else new_uid key u) ≡ []
    by_some true = refl
    by_some false = refl

nobody : (u : List ℕ) → 256 < length u → patient_of u ≡ []
nobody u h = rw (lt-leb (length u) 256 h) refl

of_nobody : (key u : List ℕ) → 256 < length u → pseudonym_of key (patient_of u) ≡ []
unfolding pseudonym_of
of_nobody key u h = rw (nobody u h) refl

-- nothing is made of more bytes than are held
pub nothing_of_long : (options : Options) (key : List ℕ) → NothingOfLong (made_new options key)
unfolding made_new left_of
nothing_of_long options key Uid u h = too_long key u (omega arith)
nothing_of_long options key Pseudonym u h = of_nobody key u h
nothing_of_long options key MovedDate u h = moved_long Da (days_of options.dates) u h
nothing_of_long options key MovedDateTime u h = moved_long Dt (days_of options.dates) u h

-- ---- by what it is

pub made_uid : (options : Options) (key : List ℕ) (made : NewValue) (b : List ℕ) → made ≡ Uid → replaced key b ≡ made_new options key made b
unfolding made_new left_of
made_uid options key made b e = rw e refl

pub made_pseudonym : (options : Options) (key : List ℕ) (made : NewValue) (b : List ℕ) → made ≡ Pseudonym → pseudonym_of key (patient_of b) ≡ made_new options key made b
unfolding made_new left_of
made_pseudonym options key made b e = rw e refl

pub made_date : (options : Options) (key : List ℕ) (made : NewValue) (b : List ℕ) → made ≡ MovedDate → moved Da (days_of options.dates) b ≡ made_new options key made b
unfolding made_new left_of
made_date options key made b e = rw e refl

pub made_date_time : (options : Options) (key : List ℕ) (made : NewValue) (b : List ℕ) → made ≡ MovedDateTime → moved Dt (days_of options.dates) b ≡ made_new options key made b
unfolding made_new left_of
made_date_time options key made b e = rw e refl

-- ---- lengths

pseudonym_short : (key p : List ℕ) → length (pseudonym_of key p) ≤ 256
pseudonym_short key p = omega (arith, pseudonyms_short key p)

-- what is made is not longer than what is held
pub made_short : (options : Options) (key : List ℕ) (made : NewValue) (b : List ℕ) → length (made_new options key made b) ≤ 256
unfolding made_new left_of
made_short options key Uid b = omega (arith, replaced_short key b)
made_short options key Pseudonym b = pseudonym_short key (patient_of b)
made_short options key MovedDate b = moved_short Da (days_of options.dates) b
made_short options key MovedDateTime b = moved_short Dt (days_of options.dates) b
