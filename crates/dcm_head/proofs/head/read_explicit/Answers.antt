use Rattle.std.proofs.Common.{List, ℕ, sym, ◌∙◌, ap, true, false}
use Rattle.dcm_lemmas.proofs.Lists.{tail_is}
use Rattle.dcm_base.specs.declared.length.Length.TheVariants.{Known}
use Rattle.dcm_base.specs.Tables.Number.{number}
use Rattle.dcm_base.specs.Bytes.Head.{long_length}
use Rattle.dcm_head.proofs.Heads.Explicit.{vr_is, size_is, length_is, none_from}
use Rattle.dcm_head.proofs.Heads.Reads.{element_missing, element_short, element_whole}
use Rattle.dcm_head.proofs.head.read_explicit.Goals as goal

pub returns-in_default : goal.returns-in_default
returns-in_default c =
    sym (element_missing c.args.syntax c.args.bytes.now _ (sym (vr_is c.args.syntax c.args.bytes.now c.read_vr.result c.requires.explicit c.read_vr.ensures) ∙ none_from c.read_vr.result c.in_default.not-Some))

pub returns-then-not-is_long : goal.returns-then-not-is_long
returns-then-not-is_long c =
    let short = sym c.is_long.ensures ∙ c.if-not-is_long.true in
    sym (element_whole c.args.syntax c.args.bytes.now _ c.args.tag c.in-Some.vr _ 8
    (sym (vr_is c.args.syntax c.args.bytes.now _ c.requires.explicit c.in-Some.ensures))
    (size_is c.args.syntax c.in-Some.vr false c.requires.explicit short) c.requires.eight c.requires.tag
    (ap Known (c.from.ensures ∙ c.read_short.ensures ∙ ap (λ (x : List ℕ). number c.args.syntax 2 x) (tail_is 6 c.args.bytes.now))
    ∙ sym (length_is c.args.syntax c.in-Some.vr false c.args.bytes.now c.requires.explicit short)))

pub returns-then-bytes-lt-LONG_HEAD : goal.returns-then-bytes-lt-LONG_HEAD
returns-then-bytes-lt-LONG_HEAD c =
    let long = sym c.is_long.ensures ∙ c.if-not-is_long.false in
    sym (element_short c.args.syntax c.args.bytes.now _ c.in-Some.vr 12
    (sym (vr_is c.args.syntax c.args.bytes.now _ c.requires.explicit c.in-Some.ensures))
    (size_is c.args.syntax c.in-Some.vr true c.requires.explicit long) c.if-bytes-lt-LONG_HEAD.true)

pub returns : goal.returns
returns c =
    let long = sym c.is_long.ensures ∙ c.if-not-is_long.false in
    sym (element_whole c.args.syntax c.args.bytes.now _ c.args.tag c.in-Some.vr _ 12
    (sym (vr_is c.args.syntax c.args.bytes.now _ c.requires.explicit c.in-Some.ensures))
    (size_is c.args.syntax c.in-Some.vr true c.requires.explicit long) c.if-bytes-lt-LONG_HEAD.false c.requires.tag
    (c.read_long-length.ensures ∙ ap (λ (x : List ℕ). long_length (number c.args.syntax 4 x)) (tail_is 8 c.args.bytes.now)
    ∙ sym (length_is c.args.syntax c.in-Some.vr true c.args.bytes.now c.requires.explicit long)))
