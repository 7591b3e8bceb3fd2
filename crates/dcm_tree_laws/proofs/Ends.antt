-- A file ends in one way, and names one instance.
use Rattle.std.proofs.Common.{◌≡◌, ◌∙◌, sym, ap, subst, ℕ, ℤ, List, drop, Option, Some, None, Result}
use Rattle.dcm_base.specs.declared.dictionary.Dictionary.{Dictionary}
use Rattle.dcm_base.specs.declared.dictionary.Dictionary.TheVariants.{Standard}
use Rattle.dcm_base.specs.declared.fault.Stop.{Stop as FaultAt}
use Rattle.dcm_base.specs.declared.mode.Mode.{Mode}
use Rattle.dcm_base.specs.declared.syntax.Coding.{Coding}
use Rattle.dcm_base.specs.declared.syntax.Syntax.{Syntax}
use Rattle.dcm_base.specs.File.MetaReads.{begins, refused}
use Rattle.dcm_base.specs.Reading.Bars.{no_bar}
use Rattle.dcm_base.specs.Reading.Reads.{Reads}
use Rattle.dcm_base.specs.Reading.Stop.{Stop}
use Rattle.dcm_base.specs.Tables.Syntax.{read_by}
use Rattle.dcm_base.specs.Tree.Front.{Front}
use Rattle.dcm_base.proofs.DataSets.OneAnswer.{reads_once}
use Rattle.dcm_cli.proofs.Runs.OneAnswer.{alone_once}
use Rattle.dcm_head.proofs.MetaGroups.OneMeta.{one_meta}
use Rattle.dcm_instance.specs.declared.names.NoInstance.{NoInstance}
use Rattle.dcm_instance.specs.ReadInstance.{FileNames, no_set, of_set}
use Rattle.dcm_instance.specs.Uids.{Uids, instance_in}
use Rattle.dcm_words.specs.declared.job.Texts.{Texts}
use Rattle.dcm_words.specs.Words.{Job, Named, dump, dump_decoded, dump_named, convert, build as building, modify, deidentify}
use Rattle.dcm_cli.proofs.Runs.OneFirst.{one_first, never_begins}
use Rattle.dcm_cli.proofs.Runs.OneSource.{heads_alike, one_source}
use Rattle.dcm_cli.proofs.Runs.Sure.{beginnings_alike}
use Rattle.dcm_cli.specs.Answer.{Source, output_of, set_at}
use Rattle.dcm_cli.specs.First.{FirstReads}
use Rattle.dcm_cli.specs.Run.{Answered, ReadEnds, verdict_of_source}
use Rattle.dcm_cli.specs.declared.ending.Verdict.{Verdict}
use Rattle.dcm_cli.specs.declared.first.FirstEnd.{FirstEnd}
use Rattle.dcm_cli.specs.declared.first.FirstEnd.TheVariants.{Days, Refused}
use Rattle.dcm_trees.specs.Task.{Task}
use Rattle.dcm_tree_laws.specs.Determined.{ComesTo, HasNoDays, was_done, no_job, by_job, by_days_of, OneEnd, EndIsAnswer, DoneIsAnswer, OneInstance}
use Rattle.dcm_tree_laws.specs.Single.{IsJobOf, of_all, of_days}
use Rattle.dcm_tree_laws.proofs.Answered.{Gives, gives_answer}
use Rattle.dcm_tree_laws.proofs.SharesBy.{one_job, not_same, same_key}

-- ---- what a job comes to

by_source : (job : Job) (input out other : List ℕ) (v w : Verdict) (x : ReadEnds job input out v) (y : ReadEnds job input other w) → x.source ≡ y.source → (out ≡ other) × (v ≡ w)
by_source job input out other v w x y is = (x.out_is ∙ ap (λ (s : Source). output_of job s) is ∙ sym y.out_is, x.verdict_is ∙ ap (λ (s : Source). verdict_of_source job s) is ∙ sym y.verdict_is)

dumped_once : (d : Dictionary) (mode : Mode) (bare : Option Syntax) (input out other : List ℕ) (v w : Verdict) → Answered (dump d mode bare) input out v → Answered (dump d mode bare) input other w → (out ≡ other) × (v ≡ w)
dumped_once d mode None input out other v w x y = by_source (dump d mode None) input out other v w x y (one_source (dump d mode None) input x.source y.source x.reads y.reads)
dumped_once d mode (Some s) input out other v w x y = by_source (dump d mode (Some s)) input out other v w x y (alone_once (read_by d s) input x.source y.source x.reads y.reads)

decoded_once : (d : Dictionary) (mode : Mode) (bare : Option Syntax) (input out other : List ℕ) (v w : Verdict) → Answered (dump_decoded d mode bare) input out v → Answered (dump_decoded d mode bare) input other w → (out ≡ other) × (v ≡ w)
decoded_once d mode None input out other v w x y = by_source (dump_decoded d mode None) input out other v w x y (one_source (dump_decoded d mode None) input x.source y.source x.reads y.reads)
decoded_once d mode (Some s) input out other v w x y = by_source (dump_decoded d mode (Some s)) input out other v w x y (alone_once (read_by d s) input x.source y.source x.reads y.reads)

named_once : (texts : Texts) (d : Dictionary) (mode : Mode) (bare : Option Syntax) (named : Named) (input out other : List ℕ) (v w : Verdict) → Answered (dump_named texts d mode bare named) input out v → Answered (dump_named texts d mode bare named) input other w → (out ≡ other) × (v ≡ w)
named_once texts d mode None named input out other v w x y = by_source (dump_named texts d mode None named) input out other v w x y (one_source (dump_named texts d mode None named) input x.source y.source x.reads y.reads)
named_once texts d mode (Some s) named input out other v w x y = by_source (dump_named texts d mode (Some s) named) input out other v w x y (alone_once (read_by d s) input x.source y.source x.reads y.reads)

pub answered_once : (job : Job) (input out other : List ℕ) (v w : Verdict) → Answered job input out v → Answered job input other w → (out ≡ other) × (v ≡ w)
answered_once (dump d mode bare) input out other v w x y = dumped_once d mode bare input out other v w x y
answered_once (dump_decoded d mode bare) input out other v w x y = decoded_once d mode bare input out other v w x y
answered_once (dump_named texts d mode bare named) input out other v w x y = named_once texts d mode bare named input out other v w x y
answered_once (convert d target) input out other v w x y = by_source (convert d target) input out other v w x y (one_source (convert d target) input x.source y.source x.reads y.reads)
answered_once (building limit) input out other v w x y = (x.out_is ∙ sym y.out_is, x.verdict_is ∙ sym y.verdict_is)
answered_once (modify d edits) input out other v w x y = by_source (modify d edits) input out other v w x y (one_source (modify d edits) input x.source y.source x.reads y.reads)
answered_once (deidentify options reports key) input out other v w x y =
    by_source (deidentify options reports key) input out other v w x y (one_source (deidentify options reports key) input x.source y.source x.reads y.reads)

pub comes_once : (task : Task) (bytes out other : List ℕ) (v w : Verdict) → ComesTo task bytes out v → ComesTo task bytes other w → (out ≡ other) × (v ≡ w)
comes_once task bytes out other v w x y =
    answered_once y.job bytes out other v w (subst (λ (j : Job). Answered j bytes out v) (one_job task bytes x.job y.job x.is_job y.is_job) x.answered) y.answered

-- ---- how a file ends

never_refused : (days : ℤ) (stop : FaultAt) → Days days ≡ Refused stop → ⊥
never_refused days stop e = cc

same_stop : (a b : FaultAt) → Refused a ≡ Refused b → a ≡ b
same_stop a b e = cc

same_key_reads : (k l bytes : List ℕ) (a b : FirstEnd) → k ≡ l → FirstReads k bytes a → FirstReads l bytes b → a ≡ b
same_key_reads k l bytes a b is x y = one_first l bytes a b (subst (λ (z : List ℕ). FirstReads z bytes a) is x) y

-- where it has a job, it has days
pub has_days : {A : Type 0} (task : Task) (bytes : List ℕ) (job : Job) (stop : FaultAt) → IsJobOf task bytes job → HasNoDays task bytes stop → A
has_days task bytes job stop (of_all t) none = absurd (not_same job none.options none.reports none.key (sym t ∙ none.task_is))
has_days task bytes job stop (of_days options reports key days t reads is) none =
    absurd (never_refused days stop (same_key_reads key none.key bytes (Days days) (Refused stop) (same_key options none.options reports none.reports key none.key (sym t ∙ none.task_is)) reads none.reads))

pub no_days_once : (task : Task) (bytes : List ℕ) (a b : FaultAt) → HasNoDays task bytes a → HasNoDays task bytes b → a ≡ b
no_days_once task bytes a b x y =
    same_stop a b (same_key_reads x.key y.key bytes (Refused a) (Refused b) (same_key x.options y.options x.reports y.reports x.key y.key (sym x.task_is ∙ y.task_is)) x.reads y.reads)

pub one_end : OneEnd
one_end task bytes one other (by_job out v x e) (by_job put w y f) =
    let once = comes_once task bytes out put v w x y in
    e ∙ ap (λ (o : List ℕ). was_done o v) once.0 ∙ ap (was_done put) once.1 ∙ sym f
one_end task bytes one other (by_job out v x e) (by_days_of stop none f) = has_days task bytes x.job stop x.is_job none
one_end task bytes one other (by_days_of stop none e) (by_job out v x f) = has_days task bytes x.job stop x.is_job none
one_end task bytes one other (by_days_of a x e) (by_days_of b y f) = e ∙ ap no_job (no_days_once task bytes a b x y) ∙ sym f

pub end_is_answer : EndIsAnswer
end_is_answer task bytes output verdict x =
    let gives : Gives x.job bytes output = gives_answer x.job bytes output verdict x.answered in
    record { job = x.job; is_job = x.is_job; answer = gives.a; answers = gives.answers; output_is = gives.output_is }

pub done_is_answer : DoneIsAnswer
done_is_answer task bytes output verdict x done =
    let gives : Gives x.job bytes output = gives_answer x.job bytes output verdict x.answered in
    record {
      answered = record { job = x.job; is_job = x.is_job; answer = gives.a; answers = gives.answers; output_is = gives.output_is };
      verdict = verdict;
      comes_to = x.answered;
      done = done;
    }

-- ---- the instance that it names

module _ (bytes : List ℕ) where
  abbrev ReadsSet : List ℕ → Coding → Front → Stop → Type 0
  ReadsSet group coding set stop = Reads no_bar coding.syntax (set_at group) (drop (set_at group) bytes) set stop

  same_instance : (g h : List ℕ) (c d : Coding) (f t : Front) (p q : Stop) → g ≡ h → c ≡ d → ReadsSet g c f p → ReadsSet h d t q → instance_in c.syntax f ≡ instance_in d.syntax t
  same_instance g h c d f t p q groups codings one other =
      let there : ReadsSet g c t q = subst (λ (z : Coding). ReadsSet g z t q) (sym codings) (subst (λ (z : List ℕ). ReadsSet z d t q) (sym groups) other) in
      let all = reads_once no_bar c.syntax (set_at g) (drop (set_at g) bytes) f t p q one there in
      ap (λ (z : Front). instance_in c.syntax z) all.0 ∙ ap (λ (z : Coding). instance_in z.syntax t) codings

  names_once : (a b : Result Uids NoInstance) → FileNames bytes a → FileNames bytes b → a ≡ b
  names_once a b (no_set f m h e) (no_set g n k d) = e ∙ sym d
  names_once a b (no_set f n h e) (of_set m group coding set stop k reads d) = absurd (never_begins f n m group k.named (one_meta bytes (refused f n) (begins m group k.named) h k.head))
  names_once a b (of_set m group coding set stop k reads d) (no_set f n h e) = absurd (never_begins f n m group k.named (one_meta bytes (refused f n) (begins m group k.named) h k.head))
  names_once a b (of_set m g c f p h reads e) (of_set n k d t q i others w) =
      let alike = beginnings_alike m n g k c d (heads_alike Standard bytes m n g k c d h i) in
      e ∙ same_instance g k c d f t p q alike.1 alike.2 reads others ∙ sym w

pub one_instance : OneInstance
one_instance bytes one other x y = names_once bytes one other x y
