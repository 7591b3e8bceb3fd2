-- What a program did, by what its parts did.
use Rattle.dcm_words.specs.Plans.{named_as}
use Rattle.dcm_cli.proofs.Passes.NamedJobs.{of_named}
use Rattle.std.proofs.Common.{Global, ◌≡◌, ◌≢◌, ◌⊎◌, inl, inr, sym, subst, refl, ◌==◌, ℕ, List, [], Bool, true, false, Option, None, Result, Ok, Err, arith}
use Rattle.std.specs.Result.{is_err}
use Rattle.std.specs.declared.io.Error.{Error}
use Rattle.std.proofs.lemmas.Bool.Decides.{nat_tests}
use Rattle.dcm_lemmas.proofs.Options.{known_nothing}
use Rattle.dcm_words.specs.declared.job.Deidentify.{Deidentify}
use Rattle.dcm_words.specs.declared.job.Job.{Job as AnyJob}
use Rattle.dcm_words.specs.declared.job.Job.TheVariants as jobs
use Rattle.dcm_words.specs.declared.usage.Usage.{Usage}
use Rattle.dcm_words.specs.declared.usage.Usage.TheVariants.{AtWord, Whole, InEdit, InElement, TooManyElements, Memory}
use Rattle.dcm_base.specs.declared.dictionary.Dictionary.{Dictionary}
use Rattle.dcm_base.specs.declared.mode.Mode.{Mode}
use Rattle.dcm_base.specs.declared.syntax.Syntax.{Syntax}
use Rattle.dcm_words.specs.declared.job.Texts.{Texts}
use Rattle.dcm_words.specs.declared.job.Texts.TheVariants.{Bytes, Characters}
use Rattle.dcm_words.specs.Words.{Job, Plan, meant, dump_as}
use Rattle.dcm_words.specs.Topics.{asked}
use Rattle.dcm_words.specs.Plans.{job_of, Gives, GivesUnlessMemory, takes_memory}
use Rattle.dcm_devices.specs.Writing.{Writer}
use Rattle.dcm_files.specs.Devices.{MayDo}
use Rattle.dcm_cli.specs.Calls.{Reader}
use Rattle.dcm_files.specs.Part.{EndsPart}
use Rattle.dcm_cli.specs.Change.{Change, change_of}
use Rattle.dcm_cli.specs.Program.{RunsOver, Works, Deidentifies, WorksAs, EndsOutput, named, not_named, removed, Obeys, refused, no_memory}
use Rattle.dcm_cli.specs.ErrorLines.{Reports, output_line, usage_line, usage_status}

-- a run over the same devices
pub over : {S I O : Type 0} (may : MayDo S I O) (r : Reader I) (w : Writer O) (job : Job) (e : Change) (i j : I) (o p : O) (old : S) (status : ℕ) (new : S) → i ≡ j → o ≡ p
    → RunsOver may r w job e i o old status new → RunsOver may r w job e j p old status new
over may r w job e i j o p old status new input output run =
    subst (λ x. RunsOver may r w job e x p old status new) input (subst (λ x. RunsOver may r w job e i x old status new) output run)

module _ {S I O : Type 0} (may : MayDo S I O) (r : Reader I) (w : Writer O) (words : List (List ℕ)) (e : Change) (old : S) (status : ℕ) (new : S) (no_text : asked words ≡ None) where
  -- memory is refused to the edits of dcmodify alone, after two paths
  memory : (b : Bool) → takes_memory words ≡ b → (takes_memory words ≡ false → meant words ≡ Err Memory) → Reports e (usage_line Memory) → status ≡ 5 → new ≡ old → Obeys may r w words e old status new
  memory true is meant_is line status_is same = no_memory no_text is line status_is same
  memory false is meant_is line status_is same = refused Memory no_text (meant_is is) line status_is same

  -- words that are refused
  pub refuse : (u : Usage) → GivesUnlessMemory {A = Global} (Err u) (meant words) → (takes_memory words ≡ false → Gives {A = Global} (Err u) (meant words)) → Reports e (usage_line u) → status ≡ usage_status u → new ≡ old
      → Obeys may r w words e old status new
  refuse (AtWord fault n) gives gives_all line status_is same = refused (AtWord fault n) no_text gives line status_is same
  refuse (Whole fault) gives gives_all line status_is same = refused (Whole fault) no_text gives line status_is same
  refuse (InEdit fault n) gives gives_all line status_is same = refused (InEdit fault n) no_text gives line status_is same
  refuse (InElement fault n) gives gives_all line status_is same = refused (InElement fault n) no_text gives line status_is same
  refuse TooManyElements gives gives_all line status_is same = refused TooManyElements no_text gives line status_is same
  refuse Memory gives gives_all line status_is same = memory (takes_memory words) refl gives_all line status_is same

-- ---- outputs that have their name only once they are whole

-- where no call was made, nothing was reported
pub nothing_told : {E : Type 0} (w : Writer E) (errors : E) → Reports (change_of w errors errors) []
nothing_told w errors = inl (sym (known_nothing (w.contents errors)), refl)

is_done : (n : ℕ) → n ≡ 0 → (n == 0) ≡ true
is_done n e = grind (arith, nat_tests, e)

is_not_done : (n : ℕ) → n ≢ 0 → (n == 0) ≡ false
is_not_done n e = grind (arith, nat_tests, e)

module _ {S I O : Type 0} (may : MayDo S I O) (output : List ℕ) (ran : ℕ) (e : Change) (old new : S) where
  -- it could not be given its name
  pub end_failed : (r : Result (Unit {0}) Error) → EndsPart may output (ran == 0) old r new → is_err r ≡ true → ran ≡ 0 → Reports e output_line → EndsOutput may output ran e old 4 new
  end_failed (Ok x) ends failed done line = absurd (cc)
  end_failed (Err x) ends failed done line = not_named x done (subst (λ (b : Bool). EndsPart may output b old (Err x) new) (is_done ran done) ends) line refl

  -- it was given its name, or removed
  pub end_kept : (r : Result (Unit {0}) Error) → EndsPart may output (ran == 0) old r new → (ran ≢ 0) ⊎ ((ran ≡ 0) × (is_err r ≡ false)) → Reports e [] → EndsOutput may output ran e old ran new
  end_kept r ends (inl not_done) nothing = removed r not_done (subst (λ (b : Bool). EndsPart may output b old r new) (is_not_done ran not_done) ends) nothing refl
  end_kept (Ok x) ends (inr done) nothing = named done.0 (subst (λ (b : Bool). EndsPart may output b old (Ok x) new) (is_done ran done.0) ends) nothing done.0
  end_kept (Err x) ends (inr done) nothing = absurd (let no = done.1 in cc)

-- what is done of a plan whose job is a dump
dumped_job : {S I O : Type 0} (may : MayDo S I O) (r : Reader I) (w : Writer O) (p : Plan) (e : Change) (old : S) (status : ℕ) (new : S) (texts : Texts) (d : Dictionary) (mode : Mode) (bare : Option Syntax)
    → Works may r w p e old status new → WorksAs (dump_as texts d mode bare) may r w p e old status new
dumped_job may r w p e old status new Bytes d mode bare works = works
dumped_job may r w p e old status new Characters d mode bare works = works

-- what is done of a plan whose job is another one
pub other_job : {A S I O : Type 0} (may : MayDo S I O) (r : Reader I) (w : Writer O) (p : Plan) (e : Change) (old : S) (status : ℕ) (new : S) (j : AnyJob A) → ((d : Deidentify) → j ≡ jobs.Deidentify d → ⊥)
    → Works may r w p e old status new → WorksAs (job_of j) may r w p e old status new
other_job may r w p e old status new (jobs.Dump d) other works =
    of_named (λ (j : Job). WorksAs j may r w p e old status new) (named_as d.named) d.texts d.dictionary d.mode d.bare (dumped_job may r w p e old status new d.texts d.dictionary d.mode d.bare works) works
other_job may r w p e old status new (jobs.Convert d) other works = works
other_job may r w p e old status new (jobs.Build d) other works = works
other_job may r w p e old status new (jobs.Modify d) other works = works
other_job may r w p e old status new (jobs.Deidentify d) other works = absurd (other d refl)

-- and of one by which identity is taken out
pub identity_job : {A S I O : Type 0} (may : MayDo S I O) (r : Reader I) (w : Writer O) (p : Plan) (e : Change) (old : S) (status : ℕ) (new : S) (j : AnyJob A) (d : Deidentify) → j ≡ jobs.Deidentify d
    → Deidentifies may r w p d.options d.reports e old status new → WorksAs (job_of j) may r w p e old status new
identity_job {A} may r w p e old status new j d is works = subst (λ (x : AnyJob A). WorksAs (job_of x) may r w p e old status new) (sym is) works
