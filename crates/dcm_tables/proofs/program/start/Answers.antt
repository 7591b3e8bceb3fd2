use Rattle.std.proofs.Common.{subst, ap, ◌∙◌, map}
use Rattle.dcm_files.specs.Devices.{words_given}
use Rattle.dcm_tables.specs.TableProgram.{no_views}
use Rattle.dcm_tables.proofs.Made.{started}
use Rattle.dcm_tables.proofs.program.start.Goals as goal

pub returns-in-Ok-views-clause-starts : goal.returns-in-Ok-views-clause-starts
returns-in-Ok-views-clause-starts g c =
    started _ _ _ _ _ _ _ _ _ (map (λ w. w.items) c.in-Ok.words.items) _
    (subst (λ r. g.S.System.may_do.words c.args.system.now (words_given r) c.words.new.self) c.in-Ok.is c.words.ensures)
    (ap (map (λ w. w.now)) c.as_slice-in-Ok-views.ensures.value ∙ c.in-Ok-views.ensures ∙ ap (map (λ w. w.items)) c.as_slice.ensures.value)
    c.obey.ensures.obeys

pub returns-clause-starts : goal.returns-clause-starts
returns-clause-starts g c =
    no_views (map (λ w. w.items) c.in-Ok.words.items)
    (subst (λ r. g.S.System.may_do.words c.args.system.now (words_given r) c.words.new.self) c.in-Ok.is c.words.ensures)
    (record { line = c.tell-in-Err.ensures.line; status_is = c.tell-in-Err.ensures.status })
