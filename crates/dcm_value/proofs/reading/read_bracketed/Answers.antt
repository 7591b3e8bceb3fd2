use Rattle.std.proofs.Common.{◌≡◌, ◌∙◌, ap, sym, Some, ◌∷◌, []}
use Rattle.dcm_base.specs.Lines.ReadValue.{bracketed_value}
use Rattle.dcm_value.specs.Taking.{behind}
use Rattle.dcm_value.proofs.ReadBack.Parts.{took, failed, reads_err}
use Rattle.dcm_value.proofs.ReadBack.PlainTexts.{behind_nothing}
use Rattle.dcm_value.proofs.reading.read_bracketed.Goals as goal

pub returns-in_err-extend : goal.returns-in_err-extend
returns-in_err-extend c =
    let text = c.args.text.now in
    let plain = c.split_at.result.0.now in
    let after = c.split_at.result.1.now in
    let meant : bracketed_value text ≡ behind plain (bracketed_value after) = rw (c.split_at.ensures.front, c.split_at.ensures.back) c.plain_size.ensures.value in
    let whole = meant ∙ behind_nothing (behind plain (bracketed_value after)) ∙ ap (λ old. behind old (behind plain (bracketed_value after))) (sym c.requires) in
    reads_err _ _ _ c.from_residual.ensures.0 (failed (bracketed_value text) (Some plain) (bracketed_value after) c.args.value.now.items whole c.in_err-extend.ensures)

pub returns-in_err-extend-in-Some : goal.returns-in_err-extend-in-Some
returns-in_err-extend-in-Some c =
    let rest = bracketed_value c.in-Some.after.now in
    let meant = c.loop-rest.invariant.same ∙ ap (behind c.loop-rest.value.items) c.in-Some.ensures.value in
    reads_err _ _ _ c.from_residual-in_err-extend-in-Some.ensures.0 (failed (bracketed_value c.args.text.now) (Some (c.in-Some.byte ∷ [])) rest c.loop-rest.value.items meant c.in_err-extend-in-Some.ensures)

pub loop-rest-preserved : goal.loop-rest-preserved
loop-rest-preserved c =
    let rest = bracketed_value c.in-Some.after.now in
    let meant = c.loop-rest.invariant.same ∙ ap (behind c.loop-rest.value.items) c.in-Some.ensures.value in
    let taken = c.in_ok-extend-in-Some.ensures in
    record {
      same = took (bracketed_value c.args.text.now) (Some (c.in-Some.byte ∷ [])) rest c.loop-rest.value.items c.extend-in-Some.new.value.items meant taken;
      fits = taken.3;
    }
