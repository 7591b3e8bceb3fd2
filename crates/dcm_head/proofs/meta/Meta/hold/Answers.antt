use Rattle.std.proofs.Common.{◌∙◌, ap, sym, subst, List, ℕ}
use Rattle.dcm_head.specs.MetaReading.{Reading}
use Rattle.dcm_head.specs.MetaRuns.{Idle, holding}
use Rattle.dcm_head.proofs.HeadReading.Runs.{held_all}
use Rattle.dcm_head.proofs.meta.Meta.hold.Goals as goal

pub returns : goal.returns
returns c =
    let going = ap (λ (r : Reading). r.end) c.self.view_is ∙ c.requires.going in
    let here : Reading = record { bytes = c.self.inside.bytes.items; place = c.self.inside.place; uid_at = c.self.inside.uid_at; uid_size = c.self.inside.uid_size; end = c.self.inside.end } in
    let idle = subst (λ (r : Reading). Idle r c.args.run.now) (sym c.self.view_is) c.requires.idle in
    let all = held_all here c.args.run.now c.try_extend_from_slice.new.self.items c.try_extend_from_slice.result going idle c.try_extend_from_slice.ensures.variant.1 c.try_extend_from_slice.ensures.ok in
    ap (λ (x : List ℕ). record here { bytes = x }) all ∙ ap (λ (r : Reading). holding r c.args.run.now) c.self.view_is
