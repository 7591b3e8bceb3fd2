use Rattle.std.proofs.Common.{rules, refl, sym, subst, ◌∙◌, List, ℕ, Ok, Err}
use Rattle.dcm_trees.specs.Beginning as spec
use Rattle.dcm_trees.specs.Modes.{Modes}
use Rattle.dcm_trees.proofs.beginning.make_apart.Goals as goal

pub returns-in_err-read : goal.returns-in_err-read
returns-in_err-read g c = spec.not_numbered _ c.in_err-read.ensures (search rules)

pub returns-in_err-way : goal.returns-in_err-way
returns-in_err-way g c = spec.not_climbed c.in_ok-read.read c.in_err-way.field-0.0 c.number_at.new.system c.in_ok-read.ensures (subst (λ (path : List ℕ). spec.Climbs g.S.Folders.folders_do path c.in_ok-read.read c.number_at.new.system (Err c.in_err-way.field-0.0) c.climb.new.system) c.parent_of.ensures c.in_err-way.ensures) (search rules)

pub returns-then-is_within : goal.returns-then-is_within
returns-then-is_within g c = spec.within c.in_ok-read.read c.in_ok-way.way c.number_at.new.system c.in_ok-read.ensures (subst (λ (path : List ℕ). spec.Climbs g.S.Folders.folders_do path c.in_ok-read.read c.number_at.new.system (Ok c.in_ok-way.way) c.climb.new.system) c.parent_of.ensures c.in_ok-way.ensures) (sym c.is_within.ensures ∙ c.if-is_within.true) refl

pub returns : goal.returns
returns g c = spec.made c.in_ok-read.read c.in_ok-way.way c.number_at.new.system c.climb.new.system c.in_ok-read.ensures (subst (λ (path : List ℕ). spec.Climbs g.S.Folders.folders_do path c.in_ok-read.read c.number_at.new.system (Ok c.in_ok-way.way) c.climb.new.system) c.parent_of.ensures c.in_ok-way.ensures) (sym c.is_within.ensures ∙ c.if-is_within.false)
    (subst (λ (modes : Modes). spec.MakesOutput g.S.Folders.folders_do modes c.args.output.now c.climb.new.system c.make_output.result c.make_output.new.system) c.output_modes.ensures c.make_output.ensures)
