-- What is remarked of a file without identity.
use Rattle.std.proofs.Common.{◌≡◌, ap, sym, subst, refl, ℕ, List, Bool, true, false, Option, None}
use Rattle.dcm_base.specs.declared.dictionary.Dictionary.TheVariants.{Standard}
use Rattle.dcm_base.specs.declared.syntax.Syntax.{Syntax}
use Rattle.dcm_deid.specs.declared.fate.Options.{Options}
use Rattle.dcm_words.specs.Words.{Job, deidentify}
use Rattle.dcm_cli.specs.declared.ending.Ending.{Ending}
use Rattle.dcm_cli.specs.declared.ending.Ending.TheVariants as endings
use Rattle.dcm_cli.specs.declared.ending.Ending.TheVariants.{Unread, Output}
use Rattle.dcm_cli.specs.declared.ending.Remarks.{Remarks}
use Rattle.dcm_cli.specs.declared.ending.Verdict.TheVariants.{Done, PixelsMayShow, Refused, RefusedLine}
use Rattle.dcm_cli.specs.InputCalls.{How}
use Rattle.dcm_cli.specs.Opening.{NotOpened, no_set, no_change, no_head, without_identity}
use Rattle.dcm_cli.specs.Pass.{with_pixels}
use Rattle.dcm_cli.specs.Remarks.{no_remarks}
use Rattle.dcm_cli.specs.Run.{RemarkedAs}
use Rattle.dcm_cli.proofs.Passes.MakesDeidentified.{FileState, deidentifier, last_remarks, remarks_so_far, state_remarks}
use Rattle.dcm_cli.proofs.Passes.Remarked.{Tells, head_remarked}

module _ (options : Options) (reports : Bool) (key : List ℕ) where
  abbrev job : Job
  job = deidentify options reports key

  pub not_opened_remarked : (read : List ℕ) (how : How) (held holds : Option (List ℕ)) (ending : Ending) → NotOpened Standard None (without_identity options key) read how held holds ending → RemarkedAs job read how ending no_remarks
  not_opened_remarked read how held holds ending (no_set r head fails still is) = subst (λ (x : Ending). RemarkedAs job read how x no_remarks) (sym is) (head_remarked job refl r read how head fails)
  not_opened_remarked read how held holds ending (no_change buffer r b coding start h refuses still is) = absurd (let no : false ≡ true = refuses in cc)
  not_opened_remarked read how held holds ending (no_head buffer r b coding start uid h keeps uid_is written is) = subst (λ (x : Ending). RemarkedAs job read how x no_remarks) (sym is) tt

  -- whom PatientID names, and how many dates have nothing left
  pub all_told : (s : Syntax) (start : ℕ) (t : FileState options key) → Tells job (deidentifier options key s) s start t (state_remarks options key t)
  all_told s start t = record {
    last = λ le bytes f stop reads last. last_remarks options key reports s s start le bytes f stop t reads last;
    so_far = λ le bytes f stop count reads left. remarks_so_far options key reports s s start le bytes f stop count t reads left;
  }

  -- whatever is told of pixels
  pub with_pixels_remarked : (given : List ℕ) (how : How) (passed : Ending) (remarks : Remarks) (shows : Bool) → RemarkedAs job given how passed remarks → RemarkedAs job given how (with_pixels passed shows) remarks
  with_pixels_remarked given how (endings.Worked (Done n)) remarks true all = all
  with_pixels_remarked given how (endings.Worked (Done n)) remarks false all = all
  with_pixels_remarked given how (endings.Worked PixelsMayShow) remarks shows all = all
  with_pixels_remarked given how (endings.Worked (Refused stop)) remarks shows all = all
  with_pixels_remarked given how (endings.Worked (RefusedLine stop)) remarks shows all = all
  with_pixels_remarked given how (Unread n) remarks shows all = all
  with_pixels_remarked given how Output remarks shows all = all
