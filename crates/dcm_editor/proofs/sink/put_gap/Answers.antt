use Rattle.std.proofs.Common.{rules, ◌≡◌, ℕ, [], ◌∙◌, map, ap, sym, subst}
use Rattle.std.proofs.lemmas.Bool.{eqb-true}
use Rattle.std.specs.Prelude.{length, reverse}
use Rattle.std.specs.Int.Bits.{bit_and}
use Rattle.dcm_base.specs.Steps.Atoms.{trees_then}
use Rattle.dcm_base.specs.Tables.Syntax.{Little}
use Rattle.dcm_base.specs.Tree.Tree.{Trees, no_tree}
use Rattle.dcm_edits.specs.Meaning.{edit_of}
use Rattle.dcm_edits.specs.NewOnes.{puts}
use Rattle.dcm_edits.specs.Overlap.{AreApart, ArePublic}
use Rattle.dcm_editor.specs.Editing.{meant}
use Rattle.dcm_editor.specs.Asking.{in_gap, lies_in}
use Rattle.dcm_editor.specs.Masks.{asked}
use Rattle.dcm_editor.specs.Outputs.{TookTrees}
use Rattle.dcm_editor.proofs.EditSinks.Passing.{same_asked, takes_nothing}
use Rattle.dcm_editor.proofs.Masks.Indexed.{none_made}
use Rattle.dcm_editor.proofs.sink.put_gap.Goals as goal

pub put_new-requires-clause-apart : goal.put_new-requires-clause-apart
put_new-requires-clause-apart g c =
    let e = c.args.editor.now in
    let here : (meant c.args.edits.now e).level.edits ≡ asked c.depth.result e.level.mask 0 (map edit_of c.args.edits.now) = same_asked c.args.edits.now e ∙ ap (λ (n : ℕ). asked n e.level.mask 0 (map edit_of c.args.edits.now)) (sym c.depth.ensures.value) in
    subst AreApart here c.requires.sound.0.0

pub put_new-requires-clause-public : goal.put_new-requires-clause-public
put_new-requires-clause-public g c =
    let e = c.args.editor.now in
    let here : (meant c.args.edits.now e).level.edits ≡ asked c.depth.result e.level.mask 0 (map edit_of c.args.edits.now) = same_asked c.args.edits.now e ∙ ap (λ (n : ℕ). asked n e.level.mask 0 (map edit_of c.args.edits.now)) (sym c.depth.ensures.value) in
    subst ArePublic here c.requires.sound.0.1

pub returns-then-makes_nothing : goal.returns-then-makes_nothing
unfolding trees_then
returns-then-makes_nothing g c =
    let e = c.args.editor.now in
    let es = map edit_of c.args.edits.now in
    let none = eqb-true (bit_and e.level.mask c.args.index.now.makers) 0 (sym c.makes_nothing.ensures ∙ c.if-makes_nothing.true) in
    let nothing = none_made c.args.index.now (length (reverse e.outermost_first.items)) e.level.mask none (lies_in e.level.last c.args.next) 0 es no_tree c.requires.index in
    let taken = takes_nothing g.S.Sink c.args.sink.now _ (ap (λ (x : Trees). trees_then Little x []) nothing) in
    record { takes = taken; failed = search rules; kept = search rules }

pub returns : goal.returns
returns g c =
    let e = c.args.editor.now in
    subst (λ (n : ℕ). TookTrees g.S.Sink c.args.sink.now c.put_new.new.sink (puts (in_gap (record { last = e.level.last; next = c.args.next })) (asked n e.level.mask 0 (map edit_of c.args.edits.now)) no_tree) c.put_new.result) c.depth.ensures.value c.put_new.ensures
