use Rattle.std.proofs.Common.{subst, List, ℕ}
use Rattle.dcm_walk.specs.Folder.{IsFit, IsJudged}
use Rattle.dcm_walk.specs.List.{Looks, not_fit, looked}
use Rattle.dcm_walk.specs.Visits.{Named}
use Rattle.dcm_walk.proofs.list.do_line.Goals as goal

-- a line of this relative name
line_as : (line relative : List ℕ) → Named
line_as line relative = record { name = line; relative = relative; path = line }

pub returns-in-Some : goal.returns-in-Some
unfolding line_as
returns-in-Some g c =
    let line : List ℕ = c.args.line.now in
    not_fit c.in-Some.what
    (subst (λ (relative : List ℕ). IsJudged (line_as line relative) c.in-Some.what) c.relative_of.ensures c.in-Some.ensures)
    (subst (λ (relative : List ℕ). g.V.Visitor.visits (c.args.visitor.now, c.args.errors.now) c.args.system.now (line_as line relative) c.in-Some.what c.visit.result
    (c.visit.new.self, c.visit.new.errors) c.visit.new.system) c.relative_of.ensures c.visit.ensures)

pub returns : goal.returns
unfolding line_as
returns g c =
    let line : List ℕ = c.args.line.now in
    looked c.look-what.result c.look-what.new.system
    (subst (λ (relative : List ℕ). IsFit (line_as line relative)) c.relative_of.ensures c.in_default.ensures)
    (subst (λ (relative : List ℕ). Looks g.S.Folders.folders_do c.args.output (line_as line relative) c.args.system.now c.look-what.result c.look-what.new.system) c.relative_of.ensures c.look-what.ensures)
    (subst (λ (relative : List ℕ). g.V.Visitor.visits (c.args.visitor.now, c.args.errors.now) c.look-what.new.system (line_as line relative) c.look-what.result c.visit-2.result
    (c.visit-2.new.self, c.visit-2.new.errors) c.visit-2.new.system) c.relative_of.ensures c.visit-2.ensures)
