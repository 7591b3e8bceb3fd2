use Rattle.std.proofs.Common.{◌∙◌, sym, arith}
use Rattle.dcm_edits.specs.Meaning.{edit_of}
use Rattle.dcm_editor.specs.declared.asked.Question.TheVariants.{Meets}
use Rattle.dcm_editor.proofs.Masks.Skips.{any_skips, any_on, any_here, any_none}
use Rattle.dcm_editor.proofs.place.Asked.any_meets.Goals as goal

pub loop-edit-init : goal.loop-edit-init
loop-edit-init g c = record {
  few = omega arith;
  same = any_skips (Meets c.args.tag c.args.last) c.args.self.now.depth c.args.self.now.mask _ _ _ _ c.rest_of-rest.ensures.skips;
}

pub returns-then-meets_in : goal.returns-then-meets_in
returns-then-meets_in g c =
    sym (any_here edit_of (Meets c.args.tag c.args.last) c.args.self.now.depth c.args.self.now.mask _ c.in-Some.edit.now c.in-Some.after.now _ c.in-Some.ensures.cases.0 (sym c.if-meets_in.ensures)) ∙ c.loop-edit.invariant.same

pub loop-edit-preserved : goal.loop-edit-preserved
loop-edit-preserved g c = record {
  few = let one_less = c.in-Some.ensures.cases.1 in omega (arith, one_less);
  same =
      any_on edit_of (Meets c.args.tag c.args.last) c.args.self.now.depth c.args.self.now.mask _ c.in-Some.edit.now c.in-Some.after.now _ _ _ c.in-Some.ensures.cases.0 (sym c.if-meets_in.ensures) c.rest_of-rest-in-Some.ensures.skips
      ∙ c.loop-edit.invariant.same;
}

pub returns : goal.returns
returns g c = sym (any_none edit_of (Meets c.args.tag c.args.last) c.args.self.now.depth c.args.self.now.mask _ _ c.in_default.ensures.cases) ∙ c.loop-edit.invariant.same
