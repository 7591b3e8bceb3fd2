use Rattle.std.proofs.Common.{◌∙◌, ◌++◌, List, Some, None, sym, ap, subst}
use Rattle.dcm_base.specs.Steps.Atoms.{Atom}
use Rattle.dcm_stream.specs.Tokens.{leaf_atoms}
use Rattle.dcm_deid.specs.DeidentifySink as spec
use Rattle.dcm_deid.specs.DeidentifySink.{Place}
use Rattle.dcm_deid.specs.Deidentifying as deidentifying
use Rattle.dcm_deid.specs.Emptied.{is_emptied}
use Rattle.dcm_deid.specs.MadeNew.{made_new}
use Rattle.dcm_deid.specs.declared.fate.Fate.TheVariants.{Anew}
use Rattle.dcm_deid.proofs.Anew.{anew_passed, anew_state, emptied_here, went}
use Rattle.dcm_deid.proofs.Taking.{TookAs}
use Rattle.dcm_deid.proofs.whole.pass_anew.Goals as goal

pub returns-clause-took : goal.returns-clause-took
returns-clause-took g c =
    let a = c.args in
    let whole = anew_passed a.options.now a.key.now.bytes.now a.place.now a.made a.head a.syntax a.value.now c.requires.leaf c.requires.shown c.requires.fate c.requires.little in
    let value = ap (leaf_atoms a.head.tag a.head.vr) (c.as_slice-2.ensures.value ∙ c.made_whole-new.ensures) in
    let new = c.put_in_place.new.sink in
    let made = spec.made_of (made_new a.options.now a.key.now.bytes.now) (Anew a.made) a.head.vr a.value.now in
    let took = subst (λ (xs : List Atom). TookAs g.S.Sink a.sink.now new (spec.said_before a.options.now (deidentifying.place c.count.new.self) (Some a.head.tag) ++ xs) c.put_in_place.result) value c.put_in_place.ensures.took in
    let said = ap (λ (p : Place). spec.said_before a.options.now p (Some a.head.tag) ++ leaf_atoms a.head.tag a.head.vr made) c.count.ensures in
    subst (λ (xs : List Atom). TookAs g.S.Sink a.sink.now new xs c.put_in_place.result) (said ∙ whole) took

pub returns-clause-state : goal.returns-clause-state
returns-clause-state g c =
    let a = c.args in
    let one = c.is_emptied.ensures
    ∙ ap (is_emptied a.made a.value.now) (c.as_slice.ensures.value ∙ c.made_whole-new.ensures)
    ∙ sym (emptied_here a.options.now a.key.now.bytes.now a.place.now a.made a.head a.syntax a.value.now c.requires.leaf c.requires.shown c.requires.fate c.requires.little)
    in
    went c.put_in_place.result (λ is key. anew_state a.options.now key a.place.now a.made a.head a.syntax a.value.now c.requires.leaf c.requires.shown c.requires.fate c.requires.little c.put_in_place.new.place c.is_emptied.result one (is ∙ ap (λ (p : Place). spec.with_last (spec.holding p None) a.head.tag) c.count.ensures)) c.put_in_place.ensures.state
