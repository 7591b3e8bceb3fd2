use Rattle.std.proofs.Common.{◌∙◌, subst, refl, sym, ap, ℕ, List, arith, rules, Bool, Ok, Err}
use Rattle.dcm_files.specs.Folders.{name_given}
use Rattle.dcm_walk.specs.Folder.{EntryAt, IsJudged, not_fit, not_seen, a_file, no_file, a_folder}
use Rattle.dcm_walk.specs.Folder.{none_listed, and_entry, all_listed, not_listed, was_stopped}
use Rattle.dcm_walk.specs.Folder.{of_output, named_at}
use Rattle.dcm_walk.specs.Names.{below}
use Rattle.dcm_walk.specs.Visits.{Named}
use Rattle.dcm_walk.specs.declared.visitor.What.TheVariants.{Unlisted}
use Rattle.dcm_walk.proofs.Folders.{at_name, too_deep, opened_as, deeper, enters_whole, enters_part, enters_stopped}
use Rattle.dcm_walk.proofs.folder.+entering.Goals as goal

-- ---- a name

pub do_entry-returns-clause-does : goal.do_entry-returns-clause-does
do_entry-returns-clause-does g t c =
    at_name _ _ c.args.walk c.args.levels c.args.trail.now.path.items c.args.trail.now.entry.items _ _ _ _ _ _
    (c.go_below.ensures ∙ ap (below c.args.trail.now.path.items) c.as_slice.ensures.value) c.do_path-done.ensures.does

pub do_path-returns-in-Some-clause-does : goal.do_path-returns-in-Some-clause-does
do_path-returns-in-Some-clause-does g t c =
    not_fit c.in-Some.what
    (subst (λ (n : Named). IsJudged n c.in-Some.what) c.named_at.ensures c.in-Some.ensures) c.visit_at.ensures

pub do_fit-returns-in_default-clause-does : goal.do_fit-returns-in_default-clause-does
do_fit-returns-in_default-clause-does g t c =
    not_seen c.seen.new.system c.requires.fit c.in_default.ensures c.visit_at.ensures

pub do_fit-returns-in-Folder-clause-does : goal.do_fit-returns-in-Folder-clause-does
do_fit-returns-in-Folder-clause-does g t c =
    a_folder c.in-Some.found c.seen.new.system c.requires.fit c.in-Some.ensures c.in-Folder.is c.enter.ensures.does

pub do_fit-returns-in-File-clause-does : goal.do_fit-returns-in-File-clause-does
do_fit-returns-in-File-clause-does g t c =
    a_file c.in-Some.found c.seen.new.system c.requires.fit c.in-Some.ensures c.in-File.is c.visit_at-in-File.ensures

pub do_fit-returns-in-Other-clause-does : goal.do_fit-returns-in-Other-clause-does
do_fit-returns-in-Other-clause-does g t c =
    no_file c.in-Some.found c.seen.new.system c.requires.fit c.in-Some.ensures c.in-Other.is c.visit_at-in-Other.ensures

-- ---- the names of a folder

pub do_names-loop-count-init : goal.do_names-loop-count-init
do_names-loop-count-init g t c = (none_listed refl refl refl refl, refl)

pub do_names-returns-in_err-do_entry-in-Ok-true-clause-does : goal.do_names-returns-in_err-do_entry-in-Ok-true-clause-does
do_names-returns-in_err-do_entry-in-Ok-true-clause-does g t c =
    was_stopped c.loop-count.count c.next_name.new.name.items c.in_err-do_entry-in-Ok-true.field-0.0 c.loop-count.folder (c.loop-count.visitor, c.loop-count.errors) c.loop-count.system c.next_name.new.self c.loop-count.invariant.0
    (subst (λ (b : Bool). g.S.Folders.folders_do.names c.loop-count.system c.loop-count.folder (name_given c.next_name.new.name.items (Ok b)) c.next_name.new.folder c.next_name.new.self) c.in-Ok-true.field-0-test c.in-Ok-true.ensures)
    (subst (λ (path : List ℕ). EntryAt g.S.Folders.folders_do g.V.Visitor.visits c.args.walk c.args.levels path c.next_name.new.name.items (c.loop-count.visitor, c.loop-count.errors) c.next_name.new.self (Err c.in_err-do_entry-in-Ok-true.field-0.0) (c.do_entry.new.visitor, c.do_entry.new.errors) c.do_entry.new.system) c.loop-count.invariant.1 c.in_err-do_entry-in-Ok-true.ensures.does) (search rules)

pub do_names-returns-in-Ok-false-clause-does : goal.do_names-returns-in-Ok-false-clause-does
do_names-returns-in-Ok-false-clause-does g t c =
    all_listed c.loop-count.count c.loop-count.folder c.loop-count.system c.loop-count.invariant.0
    (subst (λ (b : Bool). g.S.Folders.folders_do.names c.loop-count.system c.loop-count.folder (name_given c.next_name.new.name.items (Ok b)) c.next_name.new.folder c.next_name.new.self) c.in-Ok-false.field-0-test c.in-Ok-false.ensures) refl

pub do_names-returns-in-Err-clause-does : goal.do_names-returns-in-Err-clause-does
do_names-returns-in-Err-clause-does g t c =
    not_listed c.loop-count.count c.in-Err.field-0 c.loop-count.folder c.loop-count.system c.loop-count.invariant.0 c.in-Err.ensures refl

pub do_names-loop-count-preserved : goal.do_names-loop-count-preserved
do_names-loop-count-preserved g t c = (
  and_entry c.loop-count.count c.next_name.new.name.items (c.loop-count.visitor, c.loop-count.errors) c.loop-count.system c.next_name.new.self c.loop-count.folder c.loop-count.invariant.0
      (subst (λ (b : Bool). g.S.Folders.folders_do.names c.loop-count.system c.loop-count.folder (name_given c.next_name.new.name.items (Ok b)) c.next_name.new.folder c.next_name.new.self) c.in-Ok-true.field-0-test c.in-Ok-true.ensures)
      (subst (λ (path : List ℕ). EntryAt g.S.Folders.folders_do g.V.Visitor.visits c.args.walk c.args.levels path c.next_name.new.name.items (c.loop-count.visitor, c.loop-count.errors) c.next_name.new.self (Ok _) (c.do_entry.new.visitor, c.do_entry.new.errors) c.do_entry.new.system) c.loop-count.invariant.1 c.in_ok-do_entry-in-Ok-true.ensures.does) refl,
  c.in_ok-do_entry-in-Ok-true.ensures.path ∙ c.loop-count.invariant.1,
)

-- ---- folders in it

pub enter-returns-then-levels-eq0-clause-does : goal.enter-returns-then-levels-eq0-clause-does
enter-returns-then-levels-eq0-clause-does g t c = too_deep _ _ c.args.walk c.args.levels c.args.found _ _ _ _ _ _ c.if-levels-eq0.true c.visit_at.ensures

pub enter-returns-then-is_output-clause-does : goal.enter-returns-then-is_output-clause-does
enter-returns-then-is_output-clause-does g t c =
    deeper _ _ c.args.walk c.args.levels c.args.found _ _ _ _ _ _ (omega (arith, c.if-levels-eq0.false)) (of_output (sym c.is_output.ensures ∙ c.if-is_output.true) c.visit_at-then-is_output.ensures)

pub do_opened-returns-clause-does : goal.do_opened-returns-clause-does
do_opened-returns-clause-does g t c =
    opened_as _ _ c.in-Some.open c.args.folder.now _ _ _ _ _ c.in-Some.is (record {
      left = c.do_names-ended.new.folder;
      listed = c.do_names-ended.new.system;
      names = c.do_names-ended.ensures.does;
      closes = c.close.ensures;
    })

pub enter-returns-in_err-is_whole-clause-does : goal.enter-returns-in_err-is_whole-clause-does
enter-returns-in_err-is_whole-clause-does g t c =
    deeper _ _ c.args.walk c.args.levels c.args.found _ _ _ _ _ _ (omega (arith, c.if-levels-eq0.false))
    (enters_stopped _ _ c.args.walk _ c.args.found _ _ _ c.open_at.new.system c.open_at.new.folder c.in_err-is_whole.field-0.0 _ _ _
    (sym c.is_output.ensures ∙ c.if-is_output.false) c.open_at.ensures c.in_err-is_whole.ensures.does (search rules))

pub enter-returns-then-is_whole-clause-does : goal.enter-returns-then-is_whole-clause-does
enter-returns-then-is_whole-clause-does g t c =
    deeper _ _ c.args.walk c.args.levels c.args.found _ _ _ _ _ _ (omega (arith, c.if-levels-eq0.false))
    (enters_whole _ _ c.args.walk _ c.args.found _ _ _ c.open_at.new.system c.open_at.new.folder c.in_ok-is_whole.is_whole _ _
    (sym c.is_output.ensures ∙ c.if-is_output.false) c.open_at.ensures c.in_ok-is_whole.ensures.does c.if-is_whole.true)

pub enter-returns-clause-does : goal.enter-returns-clause-does
enter-returns-clause-does g t c =
    deeper _ _ c.args.walk c.args.levels c.args.found _ _ _ _ _ _ (omega (arith, c.if-levels-eq0.false))
    (enters_part _ _ c.args.walk _ c.args.found _ _ _ c.open_at.new.system c.open_at.new.folder c.in_ok-is_whole.is_whole
    (c.do_opened.new.visitor, c.do_opened.new.errors) c.do_opened.new.system _ _ _
    (sym c.is_output.ensures ∙ c.if-is_output.false) c.open_at.ensures c.in_ok-is_whole.ensures.does c.if-is_whole.false
    (subst (λ (path : List ℕ). g.V.Visitor.visits (c.do_opened.new.visitor, c.do_opened.new.errors) c.do_opened.new.system (named_at c.args.walk.base path) Unlisted c.visit_at-2.result (c.visit_at-2.new.visitor, c.visit_at-2.new.errors) c.visit_at-2.new.system) c.in_ok-is_whole.ensures.path c.visit_at-2.ensures))
