use Rattle.std.proofs.Common.{List, Some, Ok, Err, refl, subst}
use Rattle.dcm_base.specs.Steps.Atoms.{Atom}
use Rattle.dcm_stream.specs.declared.token.WholeFailed.TheVariants.{AtHead, InValue}
use Rattle.dcm_deid.specs.DeidentifySink as spec
use Rattle.dcm_deid.specs.Deidentifying as deidentifying
use Rattle.dcm_deid.specs.Noting.{NotesFailed, head_put, value_put}
use Rattle.dcm_deid.proofs.Noted.{told_after, told_before, failed_as, on_err}
use Rattle.dcm_deid.proofs.Taking.{TookAs, on, failed}
use Rattle.dcm_deid.proofs.Unheld.{whole_passed, whole_state}
use Rattle.dcm_deid.proofs.whole.pass_unheld.Goals as goal

pub returns-in_err-put_gap-clause-took : goal.returns-in_err-put_gap-clause-took
returns-in_err-put_gap-clause-took g c = λ key.
    let a = c.args in
    let said = spec.said_before a.options.now (deidentifying.place a.place.now) (Some a.head.tag) in
    let put = deidentifying.whole_by a.fate a.head a.syntax a.value.now in
    let whole = whole_passed a.options.now key a.place.now a.fate a.head a.syntax a.value.now c.requires.leaf c.requires.shown c.requires.fate c.requires.unheld in
    subst (λ (xs : List Atom). TookAs g.S.Sink a.sink.now c.put_gap.new.sink xs c.from_residual.result) whole
    (failed g.S.Sink a.sink.now c.put_gap.new.sink said put c.from_residual.result c.from_residual.ensures.0 c.in_err-put_gap.ensures)

pub returns-in_err-put_gap-clause-noted : goal.returns-in_err-put_gap-clause-noted
returns-in_err-put_gap-clause-noted g c =
    let a = c.args in
    let said = spec.said_before a.options.now (deidentifying.place a.place.now) (Some a.head.tag) in
    let new = c.put_gap.new.sink in
    on_err (NotesFailed g.S.Sink a.sink.now new a.options.now a.place.now a.place.now a.fate a.head a.syntax a.value.now) c.from_residual.result
    (record {
      failed_at = AtHead;
      told = told_before g.S.Sink.step g.S.Sink.writes (g.S.Sink.state a.sink.now) (g.S.Sink.contents a.sink.now) (g.S.Sink.contents new) said (head_put a.fate a.head a.syntax) (value_put a.fate a.value.now) c.in_err-put_gap.ensures.takes;
      noted = refl;
    })

pub returns-in-Ok-clause-took : goal.returns-in-Ok-clause-took
returns-in-Ok-clause-took g c = λ key.
    let a = c.args in
    let said = spec.said_before a.options.now (deidentifying.place a.place.now) (Some a.head.tag) in
    let put = deidentifying.whole_by a.fate a.head a.syntax a.value.now in
    let whole = whole_passed a.options.now key a.place.now a.fate a.head a.syntax a.value.now c.requires.leaf c.requires.shown c.requires.fate c.requires.unheld in
    let new = c.put_whole.new.sink in
    subst (λ (xs : List Atom). TookAs g.S.Sink a.sink.now new xs (Ok tt)) whole
    (on g.S.Sink a.sink.now c.put_gap.new.sink new said put c.in_ok-put_gap.ensures
    (record { takes = c.in-Ok.ensures.took.takes; failed = c.in-Ok.ensures.took.failed; kept = c.in-Ok.ensures.took.kept }))

pub returns-in-Ok-clause-state : goal.returns-in-Ok-clause-state
returns-in-Ok-clause-state g c = λ key.
    let a = c.args in
    whole_state a.options.now key a.place.now a.fate a.head a.syntax a.value.now c.requires.leaf c.requires.shown c.requires.fate c.requires.unheld c.pass_by.new.self c.pass_by.ensures

pub returns-in-Err-AtHead-clause-took : goal.returns-in-Err-AtHead-clause-took
returns-in-Err-AtHead-clause-took g c = λ key.
    let a = c.args in
    let said = spec.said_before a.options.now (deidentifying.place a.place.now) (Some a.head.tag) in
    let put = deidentifying.whole_by a.fate a.head a.syntax a.value.now in
    let whole = whole_passed a.options.now key a.place.now a.fate a.head a.syntax a.value.now c.requires.leaf c.requires.shown c.requires.fate c.requires.unheld in
    let new = c.put_whole.new.sink in
    subst (λ (xs : List Atom). TookAs g.S.Sink a.sink.now new xs (Err record {})) whole
    (on g.S.Sink a.sink.now c.put_gap.new.sink new said put c.in_ok-put_gap.ensures
    (failed_as g.S.Sink c.put_gap.new.sink new put c.in-Err-AtHead.field-0 (record {}) c.in-Err-AtHead.ensures.took))

pub returns-in-Err-AtHead-clause-noted : goal.returns-in-Err-AtHead-clause-noted
returns-in-Err-AtHead-clause-noted g c =
    let a = c.args in
    let said = spec.said_before a.options.now (deidentifying.place a.place.now) (Some a.head.tag) in
    let mid = c.put_gap.new.sink in
    let new = c.put_whole.new.sink in
    let sink = g.S.Sink in
    record {
      failed_at = AtHead;
      told = told_after sink.step sink.writes (sink.state a.sink.now) (sink.contents a.sink.now) (sink.state mid) (sink.contents mid) (sink.contents new) said (head_put a.fate a.head a.syntax) (value_put a.fate a.value.now) c.in_ok-put_gap.ensures.takes.0 c.in_ok-put_gap.ensures.takes.1 (Unit {0}) c.in-Err-AtHead.field-0 AtHead c.in-Err-AtHead.field-0-is c.in-Err-AtHead.ensures.told;
      noted = refl;
    }

pub returns-in-Err-InValue-clause-took : goal.returns-in-Err-InValue-clause-took
returns-in-Err-InValue-clause-took g c = λ key.
    let a = c.args in
    let said = spec.said_before a.options.now (deidentifying.place a.place.now) (Some a.head.tag) in
    let put = deidentifying.whole_by a.fate a.head a.syntax a.value.now in
    let whole = whole_passed a.options.now key a.place.now a.fate a.head a.syntax a.value.now c.requires.leaf c.requires.shown c.requires.fate c.requires.unheld in
    let new = c.put_whole.new.sink in
    subst (λ (xs : List Atom). TookAs g.S.Sink a.sink.now new xs (Err record {})) whole
    (on g.S.Sink a.sink.now c.put_gap.new.sink new said put c.in_ok-put_gap.ensures
    (failed_as g.S.Sink c.put_gap.new.sink new put c.in-Err-InValue.field-0 (record {}) c.in-Err-InValue.ensures.took))

pub returns-in-Err-InValue-clause-noted : goal.returns-in-Err-InValue-clause-noted
returns-in-Err-InValue-clause-noted g c =
    let a = c.args in
    let said = spec.said_before a.options.now (deidentifying.place a.place.now) (Some a.head.tag) in
    let mid = c.put_gap.new.sink in
    let new = c.put_whole.new.sink in
    let sink = g.S.Sink in
    record {
      failed_at = InValue;
      told = told_after sink.step sink.writes (sink.state a.sink.now) (sink.contents a.sink.now) (sink.state mid) (sink.contents mid) (sink.contents new) said (head_put a.fate a.head a.syntax) (value_put a.fate a.value.now) c.in_ok-put_gap.ensures.takes.0 c.in_ok-put_gap.ensures.takes.1 (Unit {0}) c.in-Err-InValue.field-0 InValue c.in-Err-InValue.field-0-is c.in-Err-InValue.ensures.told;
      noted = c.pass_by-in-Err-InValue.ensures;
    }
