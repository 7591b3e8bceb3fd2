use Rattle.std.proofs.Common.{rules, ◌≡◌, ◌+◌, ◌≤◌, ◌∷◌, [], ◌++◌, ℕ, suc, List, length, map, drop, Err, sym, ◌∙◌, ap, subst, arith, Vec}
use Rattle.std.proofs.lemmas.List.{map-append}
use Rattle.dcm_base.specs.declared.fault.EditRefusal.TheVariants.{TooMany}
use Rattle.dcm_edits.specs.declared.edit.Edit as declared
use Rattle.dcm_edits.specs.Edit.{Edit}
use Rattle.dcm_edits.specs.EditWords.{without_settings, meant_from, in_edit}
use Rattle.dcm_edits.specs.Making.{texts, after_edits, first_edit, MakesFrom, MakesAll}
use Rattle.dcm_edits.specs.Meaning.{edit_of}
use Rattle.dcm_edits.proofs.Words.SettingWords.{no_word}
use Rattle.dcm_edits.proofs.Words.ManyEdits.{First, all_done, passed, too_many, one_edit, failed, one_longer, longer}
use Rattle.dcm_edits.proofs.parse.edits_of.Goals as goal

pub loop-place-preserved-then-is_setting : goal.loop-place-preserved-then-is_setting
loop-place-preserved-then-is_setting g c =
    let es = map edit_of c.loop-place.edits.items in
    let named = sym c.is_setting.ensures ∙ c.if-is_setting.true in
    record {
      same = c.loop-place.invariant.same ∙ passed c.args.dictionary es (length c.loop-place.edits.items + 1) c.loop-place.place c.args.words.now no_word c.loop-place-test.true named;
      few = c.loop-place.invariant.few;
      within = omega (arith, c.loop-place-test.true);
    }

pub returns-then-len-eq-MOST_EDITS : goal.returns-then-len-eq-MOST_EDITS
returns-then-len-eq-MOST_EDITS g c =
    let full : length c.loop-place.edits.items ≡ 64 = omega (arith, c.len.ensures, c.if-len-eq-MOST_EDITS.true) in
    let es = map edit_of c.loop-place.edits.items in
    let edit = sym c.is_setting.ensures ∙ c.if-is_setting.false in
    c.loop-place.invariant.same
    ∙ too_many c.args.dictionary es (length c.loop-place.edits.items + 1) c.loop-place.place c.args.words.now no_word c.loop-place-test.true edit (omega arith)
    ∙ ap (λ n. Err (in_edit TooMany (n + 1))) full

pub returns-in_err-edit : goal.returns-in_err-edit
returns-in_err-edit g c =
    let es = map edit_of c.loop-place.edits.items in
    let some : length c.loop-place.edits.items + 1 ≤ 64 = omega (arith, c.if-len-eq-MOST_EDITS.false, c.len.ensures, c.loop-place.invariant.few) in
    let number : c.len-in-loop-place.result + 1 ≡ length c.loop-place.edits.items + 1 = omega (arith, c.len-in-loop-place.ensures) in
    let view : declared.Edit g.row.A.Denot × ℕ → First = λ r. (edit_of r.0, texts (drop (c.loop-place.place + r.1) c.args.words.now)) in
    let fault = c.in_err-edit.field-0.0 in
    let first = first_edit c.args.dictionary (texts (drop c.loop-place.place c.args.words.now)) in
    let here = subst (λ n. MakesFrom view n (Err fault) first) number c.in_err-edit.ensures.edit in
    let listed : Vec (declared.Edit g.row.A.Denot) g.row.A.Denot → List Edit = λ v. map edit_of v.items in
    let edit = sym c.is_setting.ensures ∙ c.if-is_setting.false in
    let all = failed c.args.dictionary es (length c.loop-place.edits.items + 1) c.loop-place.place c.args.words.now no_word c.loop-place-test.true edit view listed fault some here in
    let made = subst (MakesAll listed (Err fault)) (sym c.loop-place.invariant.same) all in
    search rules

pub loop-place-preserved : goal.loop-place-preserved
loop-place-preserved g c =
    let items = c.loop-place.edits.items in
    let es = map edit_of items in
    let new = c.in_ok-push.ensures.items in
    let some : length items + 1 ≤ 64 = omega (arith, c.if-len-eq-MOST_EDITS.false, c.len.ensures, c.loop-place.invariant.few) in
    let rest = texts (drop (c.loop-place.place + c.in_ok-edit.used) c.args.words.now) in
    let edit = sym c.is_setting.ensures ∙ c.if-is_setting.false in
    let meant = c.loop-place.invariant.same
    ∙ one_edit c.args.dictionary es (length items + 1) c.loop-place.place c.args.words.now no_word c.loop-place-test.true edit (edit_of c.in_ok-edit.edit) rest some c.in_ok-edit.ensures.edit in
    let edits : map edit_of c.push.new.self.items ≡ es ++ edit_of c.in_ok-edit.edit ∷ [] = ap (map edit_of) new ∙ map-append edit_of items (c.in_ok-edit.edit ∷ []) in
    record {
      same = meant
          ∙ ap (λ l. after_edits l (meant_from c.args.dictionary (suc (length items + 1)) (without_settings rest))) (sym edits)
          ∙ ap (λ n. after_edits (map edit_of c.push.new.self.items) (meant_from c.args.dictionary n (without_settings rest)))
          (one_longer items c.in_ok-edit.edit ∙ ap (λ (l : List (declared.Edit g.row.A.Denot)). length l + 1) (sym new));
      few = longer items c.in_ok-edit.edit c.push.new.self.items new some;
      within = c.in_ok-edit.ensures.used.1;
    }

pub returns : goal.returns
returns g c = c.loop-place.invariant.same ∙ all_done c.args.dictionary (map edit_of c.loop-place.edits.items) _ c.loop-place.place c.args.words.now c.loop-place-test.false
