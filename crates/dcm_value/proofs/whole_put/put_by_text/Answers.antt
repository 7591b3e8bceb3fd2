use Rattle.std.proofs.Common.{rules, refl, ap, sym, ◌≡◌, ◌∙◌, List, ℕ, ◌++◌, length, Ok}
use Rattle.std.specs.Prelude.{fold}
use Rattle.dcm_base.specs.declared.vr.Vr.{Vr}
use Rattle.dcm_base.specs.declared.mode.Mode.TheVariants.{Full}
use Rattle.dcm_devices.proofs.Writes.Puts.{puts_err}
use Rattle.dcm_devices.proofs.Writes.PartsOut.{part_failed, parts_put}
use Rattle.dcm_text.specs.declared.sets.Sets.{Sets}
use Rattle.dcm_value.specs.DecodedDisplay.{decoded_text_of}
use Rattle.dcm_value.specs.DecodedLaws.{decoded_after}
use Rattle.dcm_value.specs.DecodedText.{decoded_progress}
use Rattle.dcm_value.specs.DecodedProgress.{DecodedProgress, started, opened, step, feeds, finishes, closing_writes, end_writes, multiplicity}
use Rattle.dcm_value.proofs.Displays.DecodedWholes.{decoded_whole, decoded_counts}
use Rattle.dcm_value.proofs.whole_put.put_by_text.Goals as goal

-- what is written with the bytes, at their end, and of the line
text_parts : (vr : Vr) (sets : Sets) (v : List ℕ)
    → decoded_text_of Full vr sets v ≡ feeds (started vr sets (length v) Full) v
    ++ (closing_writes (decoded_after vr sets (length v) Full v) ++ end_writes (decoded_after vr sets (length v) Full v))
unfolding finishes
text_parts vr sets v = sym (decoded_whole vr sets Full v)

pub returns-in_err-feed-clause-wrote : goal.returns-in_err-feed-clause-wrote
returns-in_err-feed-clause-wrote g c =
    let v : List ℕ = c.args.value.now in
    record {
      bytes = part_failed _ _ (feeds (started c.args.vr c.args.sets (length v) Full) v) _ _ _ c.from_residual.result c.from_residual.ensures.0
          (ap (λ (p : DecodedProgress). feeds p v) c.new-text.ensures) (text_parts c.args.vr c.args.sets v) c.in_err-feed.ensures.wrote.bytes;
      failed = search rules;
    }

pub returns-in_err-count-clause-wrote : goal.returns-in_err-count-clause-wrote
returns-in_err-count-clause-wrote g c =
    let v : List ℕ = c.args.value.now in
    let p : DecodedProgress = started c.args.vr c.args.sets (length v) Full in
    let q : DecodedProgress = decoded_after c.args.vr c.args.sets (length v) Full v in
    let last = c.in_ok-feed.ensures.state ∙ ap (λ (p : DecodedProgress). fold step (opened p) v) c.new-text.ensures in
    record {
      bytes = parts_put _ _ _ (feeds p v) _ (closing_writes q ++ end_writes q) (closing_writes q ++ end_writes q) _ c.from_residual-in_err-count.result
          (ap (λ (p : DecodedProgress). feeds p v) c.new-text.ensures) refl (text_parts c.args.vr c.args.sets v) c.in_ok-feed.ensures.wrote.bytes
          (part_failed _ _ (closing_writes q) _ (end_writes q) _ c.from_residual-in_err-count.result c.from_residual-in_err-count.ensures.0
          (ap closing_writes last) refl c.in_err-count.ensures.wrote.bytes);
      failed = search rules;
    }

pub returns-in_err-put_all-clause-wrote : goal.returns-in_err-put_all-clause-wrote
returns-in_err-put_all-clause-wrote g c =
    let v : List ℕ = c.args.value.now in
    let p : DecodedProgress = started c.args.vr c.args.sets (length v) Full in
    let q : DecodedProgress = decoded_after c.args.vr c.args.sets (length v) Full v in
    let last = c.in_ok-feed.ensures.state ∙ ap (λ (p : DecodedProgress). fold step (opened p) v) c.new-text.ensures in
    let line : c.as_slice.result.now ≡ end_writes q =
    c.as_slice.ensures.value ∙ c.in_ok-count.ensures.line ∙ ap (λ (x : List ℕ). x ++ end_writes (decoded_progress c.feed.new.self)) c.new-line.ensures ∙ ap end_writes last
    in
    record {
      bytes = parts_put _ _ _ (feeds p v) _ (closing_writes q ++ end_writes q) (closing_writes q ++ end_writes q) _ c.from_residual-in_err-put_all.result
          (ap (λ (p : DecodedProgress). feeds p v) c.new-text.ensures) refl (text_parts c.args.vr c.args.sets v) c.in_ok-feed.ensures.wrote.bytes
          (parts_put _ _ _ (closing_writes q) _ (end_writes q) _ _ c.from_residual-in_err-put_all.result (ap closing_writes last) line refl c.in_ok-count.ensures.wrote.bytes
          (puts_err _ _ _ c.from_residual-in_err-put_all.result c.from_residual-in_err-put_all.ensures.0 c.in_err-put_all.ensures.wrote.bytes));
      failed = search rules;
    }

pub returns-clause-wrote : goal.returns-clause-wrote
returns-clause-wrote g c =
    let v : List ℕ = c.args.value.now in
    let p : DecodedProgress = started c.args.vr c.args.sets (length v) Full in
    let q : DecodedProgress = decoded_after c.args.vr c.args.sets (length v) Full v in
    let last = c.in_ok-feed.ensures.state ∙ ap (λ (p : DecodedProgress). fold step (opened p) v) c.new-text.ensures in
    let line : c.as_slice.result.now ≡ end_writes q =
    c.as_slice.ensures.value ∙ c.in_ok-count.ensures.line ∙ ap (λ (x : List ℕ). x ++ end_writes (decoded_progress c.feed.new.self)) c.new-line.ensures ∙ ap end_writes last
    in
    record {
      bytes = parts_put {T = ℕ} {E = ℕ} _ _ _ (feeds p v) _ (closing_writes q ++ end_writes q) (closing_writes q ++ end_writes q) _ (Ok 0)
          (ap (λ (p : DecodedProgress). feeds p v) c.new-text.ensures) refl (text_parts c.args.vr c.args.sets v) c.in_ok-feed.ensures.wrote.bytes
          (parts_put {T = ℕ} {E = ℕ} _ _ _ (closing_writes q) _ (end_writes q) _ _ (Ok 0) (ap closing_writes last) line refl c.in_ok-count.ensures.wrote.bytes
          c.in_ok-put_all.ensures.wrote.bytes);
      failed = search rules;
    }

pub returns-clause-count : goal.returns-clause-count
returns-clause-count g c =
    let v : List ℕ = c.args.value.now in
    let last = c.in_ok-feed.ensures.state ∙ ap (λ (p : DecodedProgress). fold step (opened p) v) c.new-text.ensures in
    c.in_ok-count.ensures.count ∙ ap multiplicity last ∙ decoded_counts c.args.vr c.args.sets Full v
