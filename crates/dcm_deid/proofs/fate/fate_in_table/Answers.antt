use Rattle.std.proofs.Common.{ap, sym, ◌∙◌, Option, Bor, option_map, Some, None}
use Rattle.dcm_base.specs.Tables.Tag.{tag_number}
use Rattle.dcm_deid.specs.Fate.{Action}
use Rattle.dcm_deid.proofs.Rows.{Row, action_of, by_row, kept, its_own}
use Rattle.dcm_deid.proofs.fate.fate_in_table.Goals as goal

abbrev given : Option (Bor Row) → Option Action
given o = option_map action_of (option_map (λ (a : Bor Row). a.now) o)

-- an option keeps it
pub returns-in-Some : goal.returns-in-Some
returns-in-Some c =
    kept c.args.options.now c.args.vr c.in-Some.action.now (sym c.keeps.ensures ∙ c.if-keeps.true)
    ∙ by_row c.args.options.now c.args.vr (tag_number c.args.tag) c.number.result (Some c.in-Some.action.now) c.number.ensures
    (ap given (sym c.in-Some.is) ∙ c.row_in_table.ensures)

-- none does
pub returns-in-Some-2 : goal.returns-in-Some-2
returns-in-Some-2 c =
    its_own c.args.options.now c.args.vr c.in-Some.action.now (sym c.keeps.ensures ∙ c.if-keeps.false)
    ∙ by_row c.args.options.now c.args.vr (tag_number c.args.tag) c.number.result (Some c.in-Some.action.now) c.number.ensures
    (ap given (sym c.in-Some.is) ∙ c.row_in_table.ensures)

-- the table does not have it
pub returns-in-None : goal.returns-in-None
returns-in-None c =
    c.fate_of_vr.ensures
    ∙ by_row c.args.options.now c.args.vr (tag_number c.args.tag) c.number.result None c.number.ensures
    (ap given (sym c.in-None.is) ∙ c.row_in_table.ensures)
