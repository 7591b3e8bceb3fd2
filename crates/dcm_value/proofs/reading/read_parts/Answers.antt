use Rattle.std.proofs.Common.{◌≡◌, ◌∙◌, ap, sym, ◌+◌, take, drop, drop-drop, List, ℕ, Option}
use Rattle.dcm_base.specs.Lines.ReadValue.{◌>>=◌, joined}
use Rattle.dcm_value.specs.Parts.{part_value}
use Rattle.dcm_value.specs.Taking.{behind}
use Rattle.dcm_value.proofs.ReadBack.Parts.{took, failed, reads_err, reads_last, joined_first, joined_last}
use Rattle.dcm_value.proofs.reading.read_parts.Goals as goal

pub returns-in_err-read_part : goal.returns-in_err-read_part
returns-in_err-read_part c =
    let read : List ℕ → Option (List ℕ) = part_value c.args.kind c.args.size in
    let rest : List ℕ = c.loop-at.rest.now in
    let first : joined read rest ≡ (read (take c.in-Some.at rest) >>= λ b. behind b (joined read (drop (c.in-Some.at + 1) rest))) = joined_first read rest c.in-Some.at (sym c.in-Some.ensures) in
    let part : joined read rest ≡ (read c.split_at.result.0.now >>= λ b. behind b (joined read (drop (c.in-Some.at + 1) rest))) = first ∙ ap (λ x. read x >>= λ b. behind b (joined read (drop (c.in-Some.at + 1) rest))) (sym c.split_at.ensures.front) in
    let meant = c.loop-at.invariant.same ∙ ap (behind c.loop-at.value.items) part in
    reads_err _ _ _ c.from_residual.ensures.0 (failed (joined read c.args.text.now) (read c.split_at.result.0.now) (joined read (drop (c.in-Some.at + 1) rest)) c.loop-at.value.items meant c.in_err-read_part.ensures)

pub loop-at-preserved : goal.loop-at-preserved
loop-at-preserved c =
    let read : List ℕ → Option (List ℕ) = part_value c.args.kind c.args.size in
    let rest : List ℕ = c.loop-at.rest.now in
    let first : joined read rest ≡ (read (take c.in-Some.at rest) >>= λ b. behind b (joined read (drop (c.in-Some.at + 1) rest))) = joined_first read rest c.in-Some.at (sym c.in-Some.ensures) in
    let part : joined read rest ≡ (read c.split_at.result.0.now >>= λ b. behind b (joined read (drop (c.in-Some.at + 1) rest))) = first ∙ ap (λ x. read x >>= λ b. behind b (joined read (drop (c.in-Some.at + 1) rest))) (sym c.split_at.ensures.front) in
    let meant = c.loop-at.invariant.same ∙ ap (behind c.loop-at.value.items) part in
    let next : drop (c.in-Some.at + 1) rest ≡ c.split_at-in-Some.result.1.now = sym (c.split_at-in-Some.ensures.back ∙ ap (drop 1) c.split_at.ensures.back ∙ drop-drop 1 c.in-Some.at rest) in
    let taken = c.in_ok-read_part.ensures in
    record {
      same = took (joined read c.args.text.now) (read c.split_at.result.0.now) (joined read (drop (c.in-Some.at + 1) rest)) c.loop-at.value.items c.read_part.new.value.items meant taken ∙ ap (λ x. behind c.read_part.new.value.items (joined read x)) next;
    }

pub returns : goal.returns
returns c =
    let read : List ℕ → Option (List ℕ) = part_value c.args.kind c.args.size in
    let meant = c.loop-at.invariant.same ∙ ap (behind c.loop-at.value.items) (joined_last read c.loop-at.rest.now (sym c.backslash.ensures ∙ c.in_default.is)) in
    reads_last (joined read c.args.text.now) (read c.loop-at.rest.now) c.loop-at.value.items c.read_part-2.new.value.items c.read_part-2.result meant c.read_part-2.ensures
