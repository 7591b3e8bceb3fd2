use Rattle.std.proofs.Common.{refl, subst, List, ℕ, Ok, Err, Bool}
use Rattle.dcm_files.specs.Folders.{name_given}
use Rattle.dcm_trees.specs.Beginning as spec
use Rattle.dcm_trees.proofs.beginning.check_empty.Goals as goal

pub returns-in_default-open_folder : goal.returns-in_default-open_folder
returns-in_default-open_folder g c = spec.not_opened c.in_default-open_folder.field-0 c.in-Ok.ensures.cases.1 (subst (λ (path : List ℕ). g.S.Folders.folders_do.opens_folder c.args.system.now path (Err c.in_default-open_folder.field-0) c.open_folder.new.self) c.in-Ok.ensures.cases.0 c.in_default-open_folder.ensures) refl

pub returns-in-Ok-true : goal.returns-in-Ok-true
returns-in-Ok-true g c = spec.not_empty c.in-Ok-open_folder.folder c.next_name-given.new.folder c.next_name-given.new.name.items c.open_folder.new.self c.next_name-given.new.self c.in-Ok.ensures.cases.1 (subst (λ (path : List ℕ). g.S.Folders.folders_do.opens_folder c.args.system.now path (Ok c.in-Ok-open_folder.folder) c.open_folder.new.self) c.in-Ok.ensures.cases.0 c.in-Ok-open_folder.ensures) (subst (λ (b : Bool). g.S.Folders.folders_do.names c.open_folder.new.self c.in-Ok-open_folder.folder (name_given c.next_name-given.new.name.items (Ok b)) c.next_name-given.new.folder c.next_name-given.new.self) c.in-Ok-true.field-0-test c.in-Ok-true.ensures) c.close_folder.ensures refl

pub returns-in-Ok-false : goal.returns-in-Ok-false
returns-in-Ok-false g c = spec.empty c.in-Ok-open_folder.folder c.next_name-given.new.folder c.open_folder.new.self c.next_name-given.new.self c.in-Ok.ensures.cases.1 (subst (λ (path : List ℕ). g.S.Folders.folders_do.opens_folder c.args.system.now path (Ok c.in-Ok-open_folder.folder) c.open_folder.new.self) c.in-Ok.ensures.cases.0 c.in-Ok-open_folder.ensures) (subst (λ (b : Bool). g.S.Folders.folders_do.names c.open_folder.new.self c.in-Ok-open_folder.folder (name_given c.next_name-given.new.name.items (Ok b)) c.next_name-given.new.folder c.next_name-given.new.self) c.in-Ok-false.field-0-test c.in-Ok-false.ensures) c.close_folder.ensures refl

pub returns-in-Err : goal.returns-in-Err
returns-in-Err g c = spec.not_listed c.in-Ok-open_folder.folder c.next_name-given.new.folder c.in-Err.field-0 c.open_folder.new.self c.next_name-given.new.self c.in-Ok.ensures.cases.1 (subst (λ (path : List ℕ). g.S.Folders.folders_do.opens_folder c.args.system.now path (Ok c.in-Ok-open_folder.folder) c.open_folder.new.self) c.in-Ok.ensures.cases.0 c.in-Ok-open_folder.ensures) c.in-Err.ensures c.close_folder.ensures refl
