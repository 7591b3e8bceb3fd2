use Rattle.std.proofs.Common.{rules, refl, ap, sym, subst, ◌∙◌, ◌+◌, ◌%◌, ◌==◌, ◌&&◌, ◌≤◌, length, List, [], ℕ, ◌≡◌, false, arith}
use Rattle.dcm_text.specs.Runs.{Run, run}
use Rattle.dcm_text.proofs.Calls.{empty_of}
use Rattle.dcm_value.specs.Way.{without_pad}
use Rattle.dcm_value.specs.DecodedText.{decoded_progress}
use Rattle.dcm_value.specs.DecodedProgress.{shown_pieces, further}
use Rattle.dcm_value.proofs.Displays.Emits.{settled_of}
use Rattle.dcm_value.proofs.Displays.DecodedRuns.{decided, decided_some}
use Rattle.dcm_value.proofs.Displays.DecodedTexts.{bytes_are}
use Rattle.dcm_value.proofs.Displays.DecodedSteps.{Leads, leads_goes, leads_some, same_progress, shown_further, without_within, leads_empty, waits_goes}
use Rattle.dcm_value.proofs.decoded_text.DecodedText.feed_text.Goals as goal

pub emit_decoded-requires : goal.emit_decoded-requires
emit_decoded-requires g c =
    let s = c.args.self.now in
    let v = c.args.bytes.now in
    let few : length c.without_pad-text.result.now ≤ length v =
    subst (λ (x : List ℕ). length x ≤ length v) (sym c.without_pad-text.ensures) (without_within s.vr _ v) in
    omega (arith, bytes_are s.decoder c.without_pad-text.result.now, few, s.counted, s.within, c.requires.within)

pub invariant_of-self-2-clause-counted : goal.invariant_of-self-2-clause-counted
invariant_of-self-2-clause-counted g c =
    let s = c.args.self.now in
    let v = c.args.bytes.now in
    let few : length c.without_pad-text.result.now ≤ length v =
    subst (λ (x : List ℕ). length x ≤ length v) (sym c.without_pad-text.ensures) (without_within s.vr _ v) in
    omega (arith, bytes_are s.decoder c.without_pad-text.result.now, few, s.counted, c.emit_decoded.ensures.few)

pub returns-then-is_empty-clause-went : goal.returns-then-is_empty-clause-went
returns-then-is_empty-clause-went g c =
    let p = decoded_progress c.args.self.now in
    let s = c.args.self.now.shown in
    let v = c.args.bytes.now in
    let settled = settled_of s.mode s.count s.front.items s.capped s.filled in
    let shown : List ℕ = without_pad p.vr (p.seen + length v == p.size && p.size % 2 == 0) v in
    let text : c.without_pad-text.result.now ≡ shown = search rules in
    let none : shown ≡ [] = sym text ∙ empty_of c.without_pad-text.result.now (search rules) in
    record {
      failed = search rules;
      goes = waits_goes p _ _ v (leads_empty p v shown none (leads_some p v c.requires.text settled c.requires.within))
          (same_progress p _ _ _ _ _ _ _ _ _ _ refl refl refl (omega arith) (sym settled));
    }

pub returns-clause-went : goal.returns-clause-went
returns-clause-went g c =
    let p = decoded_progress c.args.self.now in
    let s = c.args.self.now.shown in
    let v = c.args.bytes.now in
    let settled = settled_of s.mode s.count s.front.items s.capped s.filled in
    let shown : List ℕ = without_pad p.vr (p.seen + length v == p.size && p.size % 2 == 0) v in
    let given : List ℕ = c.without_pad-text.result.now in
    let text : given ≡ shown = search rules in
    let some : (length given == 0) ≡ false = search rules in
    let r : Run = run false p.state given in
    let is : decided p.state shown ≡ r = ap (decided p.state) (sym text) ∙ decided_some p.state given some in
    let leads : Leads p v (further p (length v) p.name r) (shown_pieces r) =
    subst (λ (x : Run). Leads p v (further p (length v) p.name x) (shown_pieces x)) is (leads_some p v c.requires.text settled c.requires.within) in
    record {
      failed = search rules;
      goes = leads_goes p (further p (length v) p.name r) _ _ _ v (shown_pieces r) c.emit_decoded.result leads
          (shown_further p _ (length v) r c.emit_decoded.result refl c.emit_decoded.ensures.state c.emit_decoded.ensures.count c.emit_decoded.ensures.shown.state)
          c.emit_decoded.ensures.shown.bytes;
    }
