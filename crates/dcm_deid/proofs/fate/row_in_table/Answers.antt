use Rattle.std.proofs.Common.{List, ℕ, sym, ap, ◌∙◌, option_map, Bor}
use Rattle.dcm_deid.specs.Marks.{is_marked}
use Rattle.dcm_deid.proofs.Marked.{no_row}
use Rattle.dcm_deid.proofs.Rows.{Row, rows_ascend, row_is}
use Rattle.dcm_deid.proofs.fate.row_in_table.Goals as goal

-- the numbers of the table ascend
pub row_of-requires : goal.row_of-requires
row_of-requires c = record { ascending = rows_ascend c.actions.result.now c.actions.ensures }

-- a number without a mark has no row
pub returns-then-not-is_marked : goal.returns-then-not-is_marked
returns-then-not-is_marked c =
    sym (no_row c.args.number (ap (λ (words : List ℕ). is_marked words c.args.number) (sym c.marks.ensures) ∙ sym c.is_marked.ensures ∙ c.if-not-is_marked.true))

pub returns : goal.returns
returns c =
    sym (row_is c.args.number c.actions.result.now (option_map (λ (a : Bor Row). a.now) c.row_of.result) c.actions.ensures c.row_of.ensures)
