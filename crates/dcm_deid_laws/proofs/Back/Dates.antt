-- What is made of dates that are moved, by days and back.
use Rattle.std.proofs.Common.{◌≡◌, ◌∙◌, ap, sym, refl, ℕ, ℤ, List, length, true, false}
use Rattle.std.specs.Prelude.{neg_ℤ}
use Rattle.dcm_base.specs.Tables.Transfer.{without_pads}
use Rattle.dcm_base.proofs.DumpsBack.Texts.{Bytes}
use Rattle.dcm_dates.specs.declared.moving.DateKind.{DateKind}
use Rattle.dcm_dates.specs.declared.moving.DateKind.TheVariants.{Da, Dt}
use Rattle.dcm_deid.specs.Alike.{moved_by, moving}
use Rattle.dcm_deid.specs.declared.fate.NewValue.{NewValue}
use Rattle.dcm_deid.specs.declared.fate.NewValue.TheVariants.{Uid, Pseudonym, MovedDate, MovedDateTime}
use Rattle.dcm_deid.specs.declared.fate.Options.{Options}
use Rattle.dcm_deid.specs.declared.fate.Temporal.{Temporal}
use Rattle.dcm_deid.specs.declared.fate.Temporal.TheVariants.{Removed, Full, Modified}
use Rattle.dcm_deid.specs.Fate.{are_full, are_modified}
use Rattle.dcm_deid.specs.MadeNew.{days_of, left_of, made_new}
use Rattle.dcm_dates.specs.Moved.{moved}
use Rattle.dcm_deid_laws.proofs.Back.Texts.{anew, back_size, moved_bytes, there_again}
use Rattle.dcm_deid_laws.proofs.Twice.Fates.{IsMoved}

days_are : (dates : Temporal) (days : ℤ) → are_modified dates ≡ true → days_of (moved_by days dates) ≡ days
days_are Removed days e = absurd (cc)
days_are Full days e = absurd (cc)
days_are (Modified other) days e = refl

pub not_full : (dates : Temporal) (days : ℤ) → are_modified dates ≡ true → are_full (moved_by days dates) ≡ false
not_full Removed days e = absurd (cc)
not_full Full days e = absurd (cc)
not_full (Modified other) days e = refl

-- over any numbers of days of which the second is the first one, back
there_again_by : (kind : DateKind) (d e days : ℤ) (b : List ℕ) → d ≡ days → e ≡ neg_ℤ days → anew kind d (anew kind e (moved kind d b)) ≡ moved kind d b
there_again_by kind d e days b p q = ap (λ (x : ℤ). anew kind d (anew kind x (moved kind d b))) (q ∙ ap neg_ℤ (sym p)) ∙ there_again kind d b

back_size_by : (kind : DateKind) (d e days : ℤ) (b : List ℕ) → d ≡ days → e ≡ neg_ℤ days → length (anew kind e (moved kind d b)) ≡ length (moved kind d b)
back_size_by kind d e days b p q = ap (λ (x : ℤ). length (anew kind x (moved kind d b))) (q ∙ ap neg_ℤ (sym p)) ∙ back_size kind d b

module _ (options : Options) (key : List ℕ) (days : ℤ) (given : are_modified options.dates ≡ true) where
  abbrev there : NewValue → List ℕ → List ℕ
  there made b = made_new (moving options days) key made b

  abbrev back : NewValue → List ℕ → List ℕ
  back made b = made_new (moving options (neg_ℤ days)) key made b

  pub made_again : (made : NewValue) (b : List ℕ) → IsMoved made → there made (without_pads (back made (without_pads (there made b)))) ≡ there made b
  unfolding made_new left_of
  made_again Uid b h = absurd h
  made_again Pseudonym b h = absurd h
  made_again MovedDate b h = there_again_by Da _ _ days b (days_are options.dates days given) (days_are options.dates (neg_ℤ days) given)
  made_again MovedDateTime b h = there_again_by Dt _ _ days b (days_are options.dates days given) (days_are options.dates (neg_ℤ days) given)

  pub made_size : (made : NewValue) (b : List ℕ) → IsMoved made → length (back made (without_pads (there made b))) ≡ length (there made b)
  unfolding made_new left_of
  made_size Uid b h = absurd h
  made_size Pseudonym b h = absurd h
  made_size MovedDate b h = back_size_by Da _ _ days b (days_are options.dates days given) (days_are options.dates (neg_ℤ days) given)
  made_size MovedDateTime b h = back_size_by Dt _ _ days b (days_are options.dates days given) (days_are options.dates (neg_ℤ days) given)

  pub made_bytes : (made : NewValue) (b : List ℕ) → IsMoved made → Bytes (there made b)
  unfolding made_new left_of
  made_bytes Uid b h = absurd h
  made_bytes Pseudonym b h = absurd h
  made_bytes MovedDate b h = moved_bytes Da _ b
  made_bytes MovedDateTime b h = moved_bytes Dt _ b
