use Rattle.std.proofs.Common.{map, ℕ, ap, ◌∙◌, arith}
use Rattle.dcm_edits.specs.Meaning.{edit_of}
use Rattle.dcm_editor.specs.Masks.{bits}
use Rattle.dcm_editor.proofs.Masks.IndexGrows.{goes_on, ends, still_tells}
use Rattle.dcm_editor.proofs.index.TagIndex.of.Goals as goal

pub loop-edit-init : goal.loop-edit-init
loop-edit-init g c = record {
  few = omega arith;
  so_far = λ final grows has. has;
  tells = ap (λ (n : ℕ). bits n 0 (map edit_of c.args.edits.now)) c.empty-index.ensures ∙ c.edits_everywhere.ensures;
}

pub loop-edit-preserved : goal.loop-edit-preserved
loop-edit-preserved g c =
    let l = c.loop-edit in
    record {
      few = let one_less = c.in-Some.ensures.cases.1 in omega (arith, l.invariant.few, one_less);
      so_far = goes_on edit_of (map edit_of c.args.edits.now) l.index c.add.new.self l.place l.rest.now c.in-Some.edit.now c.in-Some.after.now c.in-Some.ensures.cases.0 l.invariant.so_far c.add.ensures.others c.add.ensures.here;
      tells = still_tells l.index c.add.new.self (map edit_of c.args.edits.now) c.add.ensures.same l.invariant.tells;
    }

pub returns-clause-all : goal.returns-clause-all
returns-clause-all g c = ends edit_of (map edit_of c.args.edits.now) c.loop-edit.index c.loop-edit.place c.loop-edit.rest.now c.in_default.ensures.cases c.loop-edit.invariant.so_far

pub returns-clause-everywhere : goal.returns-clause-everywhere
returns-clause-everywhere g c = c.loop-edit.invariant.tells
