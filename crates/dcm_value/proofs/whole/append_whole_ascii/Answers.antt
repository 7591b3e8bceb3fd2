use Rattle.std.proofs.Common.{rules, ◌≡◌, ◌==◌, ◌∙◌, ap, sym, length, cond, ℕ, Bool, true, false, List, ◌++◌}
use Rattle.std.specs.Prelude.{nat_le}
use Rattle.std.specs.List.{list_all}
use Rattle.dcm_base.specs.Dump.ValueText.{padded, unpadded}
use Rattle.dcm_value.specs.DecodedProgress.{is_named}
use Rattle.dcm_value.specs.Plain.{is_ascii_byte}
use Rattle.dcm_value.specs.WholeAscii.{ascii_shown}
use Rattle.dcm_value.proofs.Displays.DecodedPieces.{ascii_text, ascii_count}
use Rattle.dcm_value.proofs.whole.append_whole_ascii.Goals as goal

pub returns-then-append_ascii-clause-items : goal.returns-then-append_ascii-clause-items
returns-then-append_ascii-clause-items g c =
    let vr = c.args.vr in
    let v : List ℕ = c.args.value.now in
    let line : List ℕ = c.args.line.now.items in
    let now : List ℕ = c.append_ascii.new.line.items in
    let t : List ℕ = c.unpadded-text.result.now in
    let name : Bool = c.may_have_name-may_have_name.result in
    let some : (length v == 0) ≡ false = search rules in
    let plain : list_all is_ascii_byte (unpadded vr v) ≡ true =
    sym (c.is_plain_ascii.ensures ∙ ap (list_all is_ascii_byte) c.unpadded-text.ensures) ∙ c.if-is_plain_ascii.true
    in
    let shown : ascii_shown name t ≡ ascii_shown (is_named vr (length v)) (unpadded vr v) =
    ap (λ (b : Bool). ascii_shown b t) c.may_have_name-may_have_name.ensures.named
    ∙ ap (ascii_shown (is_named vr (length v))) c.unpadded-text.ensures
    in
    let short : nat_le (length (ascii_shown (is_named vr (length v)) (unpadded vr v))) 66 ≡ true =
    sym (ap (λ (x : List ℕ). nat_le (length x) 66) shown) ∙ sym c.append_ascii.ensures.known ∙ c.if-append_ascii.true
    in
    let text : now ≡ line ++ padded (ascii_shown name t) =
    c.append_ascii.ensures.items ∙ ap (λ (b : Bool). cond b (line ++ padded (ascii_shown name t)) line) c.if-append_ascii.true
    in
    λ mode sets. (
      text
          ∙ ap (λ (x : List ℕ). line ++ padded x) shown
          ∙ ap (λ (x : List ℕ). line ++ x) (ascii_text vr sets v some plain mode short),
      c.count.ensures ∙ ascii_count vr sets v some plain,
    )
