use Rattle.std.proofs.Common.{rules, ◌∷◌, [], List, map, length, take, drop, ◌-◌, sym, ◌∙◌, ap, arith, length-append}
use Rattle.std.proofs.lemmas.List.{map-append}
use Rattle.dcm_edits.specs.EditWords as words
use Rattle.dcm_edits.specs.Parts.{part_as}
use Rattle.dcm_edits.specs.Making.{known_as, after_known}
use Rattle.dcm_edits.proofs.Trees.FirstOnes.{front, front_length}
use Rattle.dcm_edits.proofs.Words.KnownParts.{one_known, one_refused, all_known}
use Rattle.dcm_edits.proofs.known.known_parts.Goals as goal

pub returns-in_err-known_part : goal.returns-in_err-known_part
returns-in_err-known_part c =
    let whole = ap (map part_as) (front c.loop-rest.rest.now _ c.in-len1-up.len_at_least) in
    let meant = c.loop-rest.invariant.same ∙ one_refused c.args.dictionary (map known_as c.loop-rest.known.items) _ c.in_err-known_part.field-0.0 _ _ whole c.in_err-known_part.ensures in
    search rules

pub loop-rest-preserved : goal.loop-rest-preserved
loop-rest-preserved c =
    let whole = ap (map part_as) (front c.loop-rest.rest.now _ c.in-len1-up.len_at_least) in
    let ks = map known_as c.loop-rest.known.items in
    let more = map-append known_as c.loop-rest.known.items (c.in_ok-known_part.field-0 ∷ []) in
    let items = ap (map known_as) c.push.ensures.items ∙ more in
    record {
      same = c.loop-rest.invariant.same ∙ one_known c.args.dictionary ks _ (known_as c.in_ok-known_part.field-0) _ _ whole c.in_ok-known_part.ensures ∙ ap (λ (l : List words.Known). after_known l (words.known_parts c.args.dictionary (map part_as (take (length c.loop-rest.rest.now - 1) (drop 1 c.loop-rest.rest.now))))) (sym items);
      counted = omega (arith, c.loop-rest.invariant.counted, front_length c.loop-rest.rest.now c.in-len1-up.len_at_least, ap length c.push.ensures.items, length-append c.loop-rest.known.items (c.in_ok-known_part.field-0 ∷ []));
    }

pub returns : goal.returns
returns c = c.loop-rest.invariant.same ∙ all_known c.args.dictionary (map known_as c.loop-rest.known.items) part_as c.loop-rest.rest.now c.in_default.len_below
