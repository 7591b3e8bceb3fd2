-- What the work on a dump, and its end, leave of one file.
use Rattle.std.proofs.Common.{◌≡◌, ◌∙◌, ap, sym, subst, refl, ℕ, List, [], ◌++◌, length, true, Option, Some, None, Result, Ok, Err, inl, inr}
use Rattle.std.specs.Io.KnownBytes.{append_known}
use Rattle.std.proofs.lemmas.List.{append_cancel_right}
use Rattle.dcm_devices.specs.declared.device.WriteFailed.{WriteFailed}
use Rattle.dcm_devices.specs.Device.{AppendsFront}
use Rattle.dcm_devices.specs.Writing.{Writer}
use Rattle.dcm_words.specs.Words.{Job}
use Rattle.dcm_cli.specs.declared.ending.Ended.{Ended}
use Rattle.dcm_cli.specs.declared.ending.Ending.{Ending}
use Rattle.dcm_cli.specs.declared.ending.Ending.TheVariants as endings
use Rattle.dcm_cli.specs.declared.ending.Ending.TheVariants.{Unread, Output}
use Rattle.dcm_cli.specs.declared.ending.Verdict.{Verdict}
use Rattle.dcm_cli.specs.Answer.{Sure}
use Rattle.dcm_cli.specs.Calls.{Reader, Works, WorksOn}
use Rattle.dcm_cli.specs.Change.{Change}
use Rattle.dcm_cli.specs.ErrorLines.{Reports}
use Rattle.dcm_cli.specs.InputCalls.{How, Allows}
use Rattle.dcm_cli.specs.Pass.{TellsUnread, TellsOutput}
use Rattle.dcm_cli.specs.Run.{Answered, AnsweredAll, RemarkedAs, Worked, answered, could_not_read, could_not_write}
use Rattle.dcm_cli.proofs.Passes.Readers.{allows_nothing}
use Rattle.dcm_dumps.specs.Dumps.{EndsDump, failed_before, flushed, not_flushed as end_not_flushed, ended_lines, ending_lines, ending_status, remarks_told, IsText, ShowsFile, shown, unread, not_written, not_flushed}
use Rattle.dcm_dumps.proofs.Texts.{one_text, front_after, all_after}

-- what was read, where nothing follows
one_front : (before p left : List ℕ) → before ++ [] ≡ p ++ left → Some [] ≡ Some left → p ≡ before
one_front before p left whole at =
    let same : left ≡ [] = cc in
    append_cancel_right p before [] (ap (λ (bytes : List ℕ). p ++ bytes) (sym same) ∙ sym whole)

module _ {I W : Type 0} (r : Reader I) (w : Writer W) (job : Job) (heading name : List ℕ) (errors : Change) (from mid worked to : W) (before after : I) (ended : Ended) (result : Result ℕ WriteFailed)
    (head : w.contents mid ≡ append_known (w.contents from) heading) (fine : w.has_failed mid ≡ w.has_failed from)
    (on : WorksOn r w job before after mid worked ended) where
  abbrev ending : Ending
  ending = ended.ending

  abbrev works : Works r w job before after mid worked ending
  works = on.works

  abbrev Shows : Type 0
  Shows = ShowsFile r w job heading name errors from to before result after

  -- the output had failed, whatever follows
  unwritten_for : (rest : List ℕ) → ending ≡ Output → Worked job (works.given ++ rest) (Some rest) (w.contents mid) (w.contents worked) ending → w.contents to ≡ w.contents worked
      → (text : List ℕ) × (verdict : Verdict) × Answered job (works.given ++ rest) text verdict × AppendsFront (w.contents from) (w.contents to) (heading ++ text)
  unwritten_for rest is (answered out verdict was e grown) same = absurd (let no : Output ≡ endings.Worked verdict = sym is ∙ e in cc)
  unwritten_for rest is (could_not_read p left out whole at sure e grown) same = absurd (let no : Output ≡ Unread (length p) = sym is ∙ e in cc)
  unwritten_for rest is (could_not_write out verdict was e front) same =
      (out, verdict, was, subst (λ (k : Option (List ℕ)). AppendsFront (w.contents from) k (heading ++ out)) (sym same) (front_after (w.contents from) (w.contents mid) (w.contents worked) heading out head front))

  -- by what the work came to where nothing follows
  abbrev First : Type 0
  First = Worked job (works.given ++ []) (Some []) (w.contents mid) (w.contents worked) ending

  decided_text : (out : List ℕ) (verdict : Verdict) → Answered job (works.given ++ []) out verdict → ending ≡ endings.Worked verdict → (all : List ℕ) × AnsweredAll job works.given works.how all verdict × (out ≡ all)
  decided_text out verdict was is =
      let all = works.decided verdict is in
      (all.0, all.1, (one_text job (works.given ++ []) out all.0 verdict verdict was (all.1 [] (allows_nothing works.how))).0)

  whole : (text out : List ℕ) → out ≡ text → w.contents worked ≡ append_known (w.contents mid) out → w.contents to ≡ w.contents worked → w.contents to ≡ append_known (w.contents from) (heading ++ text)
  whole text out is grown same = same ∙ all_after (w.contents from) (w.contents mid) (w.contents worked) heading text head (grown ∙ ap (append_known (w.contents mid)) is)

  by_flush : First → (¬ (ending ≡ Output)) → w.contents to ≡ w.contents worked → w.has_failed to ≡ w.has_failed worked → w.is_flushed to ≡ true → Reports errors (ended_lines name ended) → result ≡ Ok (ending_status ending) → Shows
  by_flush (answered out verdict was is grown) not_out same sound out_flushed line res =
      let t = decided_text out verdict was is in
      shown works.given works.how t.0 verdict ended.remarks works.reads t.1
      (subst (λ (x : Ending). RemarkedAs job works.given works.how x ended.remarks) is on.remarked)
      (subst (λ (x : Ending). TellsUnread (r.has_failed before) (r.has_failed after) x) is works.unread)
      (whole t.0 out t.2 grown same)
      (sound ∙ subst (λ (x : Ending). TellsOutput (w.has_failed mid) (w.has_failed worked) x) is works.failed ∙ fine)
      out_flushed
      (subst (λ (x : Ending). Reports errors (remarks_told name x ended.remarks ++ ending_lines name x)) is line)
      (res ∙ ap (λ (x : Ending). Ok (ending_status x)) is)
  by_flush (could_not_read p left out at_whole at sure is grown) not_out same sound out_flushed line res =
      let front : p ≡ works.given = one_front works.given p left at_whole at in
      let here : ending ≡ Unread (length works.given) = is ∙ ap (λ (bytes : List ℕ). Unread (length bytes)) front in
      unread works.given works.how out ended.remarks works.reads (subst (λ (bytes : List ℕ). Sure job bytes out) front sure)
      (subst (λ (x : Ending). RemarkedAs job works.given works.how x ended.remarks) here on.remarked)
      (subst (λ (x : Ending). TellsUnread (r.has_failed before) (r.has_failed after) x) here works.unread)
      (whole out out refl grown same)
      (sound ∙ subst (λ (x : Ending). TellsOutput (w.has_failed mid) (w.has_failed worked) x) here works.failed ∙ fine)
      out_flushed
      (subst (λ (x : Ending). Reports errors (remarks_told name x ended.remarks ++ ending_lines name x)) here line)
      (res ∙ ap (λ (x : Ending). Ok (ending_status x)) here)
  by_flush (could_not_write out verdict was is grown) not_out same sound out_flushed line res = absurd (not_out is)

  by_failed_flush : First → (failure : WriteFailed) → (¬ (ending ≡ Output)) → w.contents to ≡ w.contents worked → w.has_failed to ≡ true → w.room to ≡ None → Reports errors [] → result ≡ Err failure → Shows
  by_failed_flush (answered out verdict was is grown) failure not_out same failed room line res =
      let t = decided_text out verdict was is in
      not_flushed works.given works.how t.0 failure works.reads (inl (verdict, t.1)) (whole t.0 out t.2 grown same) failed room line res
  by_failed_flush (could_not_read p left out at_whole at sure is grown) failure not_out same failed room line res =
      let front : p ≡ works.given = one_front works.given p left at_whole at in
      not_flushed works.given works.how out failure works.reads (inr (subst (λ (bytes : List ℕ). Sure job bytes out) front sure)) (whole out out refl grown same) failed room line res
  by_failed_flush (could_not_write out verdict was is grown) failure not_out same failed room line res = absurd (not_out is)

  pub file_shown : EndsDump w name ended errors worked to result → Shows
  file_shown (failed_before failure is same line res) =
      not_written works.given works.how failure works.reads (λ rest ok. unwritten_for rest is (works.worked rest ok) (ap w.contents same))
      (ap w.has_failed same ∙ subst (λ (x : Ending). TellsOutput (w.has_failed mid) (w.has_failed worked) x) is works.failed) line res
  file_shown (flushed not_out same sound is_flushed line res) = by_flush (works.worked [] (allows_nothing works.how)) not_out same sound is_flushed line res
  file_shown (end_not_flushed failure not_out same failed room line res) = by_failed_flush (works.worked [] (allows_nothing works.how)) failure not_out same failed room line res
