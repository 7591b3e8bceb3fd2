use Rattle.std.proofs.Common.{sym, ◌∙◌}
use Rattle.dcm_deid.proofs.Known.{unknown_goes, known_fate, chosen, not_chosen}
use Rattle.dcm_deid.proofs.fate.looked_up.Goals as goal

pub returns-in-Some : goal.returns-in-Some
returns-in-Some c =
    chosen _ _ (sym c.is_removed.ensures ∙ c.if-is_removed.true)
    ∙ known_fate c.args.options.now c.args.depth c.args.read c.args.tag c.in-Some.vr (sym c.known_vr_in.ensures ∙ c.in-Some.is)

pub returns-in-Some-2 : goal.returns-in-Some-2
returns-in-Some-2 c =
    c.fate_of_known.ensures ∙ not_chosen _ _ (sym c.is_removed.ensures ∙ c.if-is_removed.false)
    ∙ known_fate c.args.options.now c.args.depth c.args.read c.args.tag c.in-Some.vr (sym c.known_vr_in.ensures ∙ c.in-Some.is)

pub returns-in-None : goal.returns-in-None
returns-in-None c = unknown_goes c.args.options.now c.args.depth c.args.read c.args.tag (sym c.known_vr_in.ensures ∙ c.in-None.is)
