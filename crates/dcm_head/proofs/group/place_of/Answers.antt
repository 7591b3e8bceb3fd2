use Rattle.std.proofs.Common.{◌∙◌, ◌<◌, sym, arith, length, eq-eqb}
use Rattle.std.proofs.lemmas.Bool.{ne_eqb, eqb-false, eqb-true}
use Rattle.dcm_base.specs.Tables.Syntax.{Little}
use Rattle.dcm_head.proofs.Heads.Reads.{element_told}
use Rattle.dcm_head.proofs.MetaGroups.Places.{at_empty, at_one, at_other, at_short, at_bad, at_long, at_head}
use Rattle.dcm_head.proofs.group.place_of.Goals as goal

pub returns-then-is_empty : goal.returns-then-is_empty
returns-then-is_empty c =
    sym (at_empty c.args.taken c.args.rest.now (eqb-true _ _ (sym c.is_empty.ensures ∙ c.if-is_empty.true)))

pub returns-then-rest-lt-GROUP_SIZE : goal.returns-then-rest-lt-GROUP_SIZE
returns-then-rest-lt-GROUP_SIZE c =
    let ne = eqb-false (length c.args.rest.now) 0 (sym c.is_empty.ensures ∙ c.if-is_empty.false) in
    let some : 0 < length c.args.rest.now = omega (arith, ne) in
    sym (at_one c.args.taken c.args.rest.now some c.if-rest-lt-GROUP_SIZE.true)

pub returns-then-read_short-ne-META_GROUP : goal.returns-then-read_short-ne-META_GROUP
returns-then-read_short-ne-META_GROUP c =
    sym (at_other c.args.taken c.args.rest.now c.if-rest-lt-GROUP_SIZE.false (ne_eqb _ 2 (λ h. c.if-read_short-ne-META_GROUP.true (c.read_short.ensures ∙ h))))

pub returns-then-rest-lt-SHORT_HEAD : goal.returns-then-rest-lt-SHORT_HEAD
returns-then-rest-lt-SHORT_HEAD c =
    sym (at_short c.args.taken c.args.rest.now c.if-rest-lt-GROUP_SIZE.false (eq-eqb _ 2 (sym c.read_short.ensures ∙ c.if-read_short-ne-META_GROUP.false)) c.if-rest-lt-SHORT_HEAD.true)

pub place_of_head-requires-clause-used : goal.place_of_head-requires-clause-used
place_of_head-requires-clause-used c = let t = element_told Little c.args.rest.now _ c.in-Done.ensures in t.1

pub returns-in-BadVr : goal.returns-in-BadVr
returns-in-BadVr c =
    sym (at_bad c.args.taken c.args.rest.now c.if-rest-lt-SHORT_HEAD.false (eq-eqb _ 2 (sym c.read_short.ensures ∙ c.if-read_short-ne-META_GROUP.false)) (element_told Little c.args.rest.now _ c.in-BadVr.ensures))

pub returns-in-More : goal.returns-in-More
returns-in-More c =
    let t = element_told Little c.args.rest.now _ c.in-More.ensures in
    sym (at_long c.args.taken c.args.rest.now t.0 c.if-rest-lt-SHORT_HEAD.false (eq-eqb _ 2 (sym c.read_short.ensures ∙ c.if-read_short-ne-META_GROUP.false)) t.1 t.2)

pub returns-in-Done : goal.returns-in-Done
returns-in-Done c =
    let t = element_told Little c.args.rest.now _ c.in-Done.ensures in
    c.place_of_head.ensures ∙ sym (at_head c.args.taken c.args.rest.now _ _ _ _ c.if-rest-lt-SHORT_HEAD.false (eq-eqb _ 2 (sym c.read_short.ensures ∙ c.if-read_short-ne-META_GROUP.false)) t.0)
