use Rattle.std.proofs.Common.{List, ℕ, sym, ap, ◌∙◌, refl, true, false}
use Rattle.dcm_lemmas.proofs.Lists.{tail_is}
use Rattle.dcm_base.specs.declared.vr.Vr.TheVariants.{UN}
use Rattle.dcm_base.specs.Tables.Number.{number}
use Rattle.dcm_base.specs.Bytes.Head.{long_length}
use Rattle.dcm_head.specs.declared.head.HeadRead.TheVariants.{Done}
use Rattle.dcm_head.specs.HeadRead.{is_delimiter}
use Rattle.dcm_head.proofs.Heads.Reads.{by_tests}
use Rattle.dcm_head.proofs.head.read_tagged.Goals as goal

pub returns-then-is_item : goal.returns-then-is_item
returns-then-is_item c =
    c.without_vr.ensures ∙ (λ i. Done (record { tag = c.args.tag; vr = UN; length = (c.read_long-length.ensures ∙ ap (λ (x : List ℕ). long_length (number c.args.syntax 4 x)) (tail_is 4 c.args.bytes.now)) i }) 8)
    ∙ sym (by_tests c.args.syntax c.args.bytes.now c.args.tag true (is_delimiter c.args.tag) (sym c.is_item.ensures ∙ c.if-is_item.true) refl)

pub returns-then-is_delimiter : goal.returns-then-is_delimiter
returns-then-is_delimiter c =
    c.without_vr-then-is_delimiter.ensures ∙ sym (by_tests c.args.syntax c.args.bytes.now c.args.tag false true (sym c.is_item.ensures ∙ c.if-is_item.false) (sym c.is_delimiter.ensures ∙ c.if-is_delimiter.true))

pub returns : goal.returns
returns c =
    c.read_element.ensures ∙ sym (by_tests c.args.syntax c.args.bytes.now c.args.tag false false (sym c.is_item.ensures ∙ c.if-is_item.false) (sym c.is_delimiter.ensures ∙ c.if-is_delimiter.false))
