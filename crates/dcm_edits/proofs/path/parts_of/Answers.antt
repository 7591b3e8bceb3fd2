use Rattle.std.proofs.Common.{rules, ◌≡◌, ◌∷◌, [], ◌++◌, List, ℕ, Option, Some, None, map, option_map, length, sym, ◌∙◌, ap, arith, eqb-true, Bor}
use Rattle.std.specs.Str.{byte}
use Rattle.std.proofs.lemmas.List.{map-append}
use Rattle.dcm_edits.specs.Parts.{part_as, few, path_parts, after_parts, rest_parts, rest_length}
use Rattle.dcm_edits.proofs.Words.ManyParts.{no_part, one_part, rest_shorter, after_more, refused, too_long, ended, room, map_length}
use Rattle.dcm_edits.proofs.path.parts_of.Goals as goal

abbrev left : Option (Bor (List ℕ)) → Option (List ℕ)
left r = option_map (λ t. t.now) r

pub returns-in_err-part : goal.returns-in_err-part
returns-in_err-part c =
    let ms = map part_as c.loop-rest.parts.items in
    let meant = c.loop-rest.invariant.same ∙ ap (λ r. after_parts ms (rest_parts (left r))) c.in-Some.is in
    let none = no_part c.in-Some.text.now c.cut_at.result.0.now (left c.cut_at.result.1) c.cut_at.ensures (sym c.in_err-part.ensures) in
    let all : few (path_parts c.args.path.now) ≡ None = ap few meant ∙ refused ms (rest_parts (Some c.in-Some.text.now)) none in
    search rules

pub returns-then-is_full : goal.returns-then-is_full
returns-then-is_full c =
    let ms = map part_as c.loop-rest.parts.items in
    let m = part_as c.in_ok-part.part in
    let meant = c.loop-rest.invariant.same ∙ ap (λ r. after_parts ms (rest_parts (left r))) c.in-Some.is in
    let one = one_part c.in-Some.text.now c.cut_at.result.0.now (left c.cut_at.result.1) m c.cut_at.ensures (sym c.in_ok-part.ensures) in
    let full : length c.loop-rest.parts.items ≡ 65 = eqb-true _ _ (sym c.if-is_full.ensures.value) in
    sym (ap few (meant ∙ ap (after_parts ms) one) ∙ too_long ms m (rest_parts (left c.cut_at.result.1)) (map_length part_as c.loop-rest.parts.items ∙ full))

pub loop-rest-smaller : goal.loop-rest-smaller
loop-rest-smaller c =
    let less = rest_shorter (byte ".") c.in-Some.text.now c.cut_at.result.0.now (left c.cut_at.result.1) c.cut_at.ensures in
    let whole : rest_length (left c.loop-rest.rest) ≡ rest_length (Some c.in-Some.text.now) = ap (λ r. rest_length (left r)) c.in-Some.is in
    omega (arith, less, whole)

pub loop-rest-preserved : goal.loop-rest-preserved
loop-rest-preserved c =
    let ms = map part_as c.loop-rest.parts.items in
    let m = part_as c.in_ok-part.part in
    let meant = c.loop-rest.invariant.same ∙ ap (λ r. after_parts ms (rest_parts (left r))) c.in-Some.is in
    let one = one_part c.in-Some.text.now c.cut_at.result.0.now (left c.cut_at.result.1) m c.cut_at.ensures (sym c.in_ok-part.ensures) in
    let items : map part_as c.push.new.self.items ≡ ms ++ m ∷ [] = ap (map part_as) c.push.ensures.items ∙ map-append part_as c.loop-rest.parts.items (c.in_ok-part.part ∷ []) in
    let rest = rest_parts (left c.cut_at.result.1) in
    record {
      same = meant ∙ ap (after_parts ms) one ∙ sym (after_more ms m rest) ∙ ap (λ l. after_parts l rest) (sym items);
      within = room (length c.loop-rest.parts.items) (length c.push.new.self.items) c.if-is_full.ensures.value c.if-is_full.ensures.fits c.push.ensures.len;
    }

pub returns : goal.returns
returns c =
    let ms = map part_as c.loop-rest.parts.items in
    let meant = c.loop-rest.invariant.same ∙ ap (λ r. after_parts ms (rest_parts (left r))) c.in_default.is in
    sym (ap few meant ∙ ended ms (omega (arith, map_length part_as c.loop-rest.parts.items, c.loop-rest.invariant.within)))
