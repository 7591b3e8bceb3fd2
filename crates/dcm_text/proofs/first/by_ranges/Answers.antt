use Rattle.std.proofs.Common.{sym, ◌∙◌, arith}
use Rattle.dcm_text.proofs.Firsts.{fit_size}
use Rattle.dcm_text.proofs.first.by_ranges.Goals as goal

-- what fits is there
pub formed-requires : goal.formed-requires
formed-requires c =
    let l = fit_size c.args.ranges.now c.args.rest.now (sym c.fit_of.ensures ∙ c.in-Whole.is) in
    let whole = c.requires in
    omega (arith, l, whole)
