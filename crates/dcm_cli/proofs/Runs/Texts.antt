-- What the writing of a text comes to.
use Rattle.std.proofs.Common.{◌≡◌, ◌∙◌, ap, sym, subst, refl, ℕ, List, [], Bool, true, false, Option, Some, None, inl, inr}
use Rattle.std.specs.Io.KnownBytes.{append_known}
use Rattle.dcm_devices.specs.Device.{AppendsFront}
use Rattle.dcm_cli.specs.declared.ending.Ending.{Ending}
use Rattle.dcm_cli.specs.declared.ending.Ending.TheVariants.{Worked, Output}
use Rattle.dcm_cli.specs.declared.ending.Verdict.TheVariants.{Done}
use Rattle.dcm_devices.specs.Writing.{Writer}
use Rattle.dcm_cli.specs.Change.{Change, change_of}
use Rattle.dcm_cli.specs.ErrorLines.{Reports, mask_lines}
use Rattle.dcm_cli.specs.Program.{PutsText, put, not_put, not_flushed}
use Rattle.dcm_cli.specs.Run.{FlushedAs, ending_lines, ending_status}

-- nothing is reported where no edit is missing
no_lines : mask_lines 64 1 0 ≡ []
unfolding mask_lines
no_lines = refl

module _ (text : List ℕ) (o e : Change) (status : ℕ) (after : Ending) (lines : Reports e (ending_lines after)) (status_is : status ≡ ending_status after) where
  -- all of it was written, and then the output was flushed
  pub whole : (mid : Option (List ℕ)) (failed : Bool) → mid ≡ append_known o.before text → failed ≡ o.failed_before → o.after ≡ mid → FlushedAs (Worked (Done 0)) after failed o.failed_after o.room
      → (o.failed_after ≡ false → o.is_flushed ≡ true) → PutsText text o e status
  whole mid failed took kept holds (inl x) drained =
      put (holds ∙ took) (x.1 ∙ kept) drained (subst (Reports e) no_lines (subst (λ (a : Ending). Reports e (ending_lines a)) x.0 lines)) (status_is ∙ ap ending_status x.0)
  whole mid failed took kept holds (inr x) drained =
      not_flushed (holds ∙ took) x.1 x.2 (subst (λ (a : Ending). Reports e (ending_lines a)) x.0 lines) (status_is ∙ ap ending_status x.0)

  -- a beginning of it was written
  pub part : (mid : Option (List ℕ)) (failed : Bool) → AppendsFront o.before mid text → failed ≡ true → o.after ≡ mid → FlushedAs Output after failed o.failed_after o.room → PutsText text o e status
  part mid failed took bad holds x =
      not_put (subst (λ (h : Option (List ℕ)). AppendsFront o.before h text) (sym holds) took) (x.1 ∙ bad) (subst (λ (a : Ending). Reports e (ending_lines a)) x.0 lines) (status_is ∙ ap ending_status x.0)

-- the same text over the same output
pub over_output : {O : Type 0} (w : Writer O) (e : Change) (status : ℕ) (said text : List ℕ) (d o output : O) → said ≡ text → d ≡ o
    → PutsText said (change_of w d output) e status → PutsText text (change_of w o output) e status
over_output w e status said text d o output same device puts =
    subst (λ (x : List ℕ). PutsText x (change_of w o output) e status) same
    (subst (λ x. PutsText said (change_of w x output) e status) device puts)

-- an option that is not there
pub none_of : {T : Type 0} (o : Option T) → ((x : T) → o ≡ Some x → ⊥) → o ≡ None
none_of None none = refl
none_of (Some x) none = absurd (none x refl)
