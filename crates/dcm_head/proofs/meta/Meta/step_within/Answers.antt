use Rattle.std.proofs.Common.{◌≡◌, ◌∙◌, ◌+◌, ◌-◌, ◌≤◌, Some, drop, length, [], ◌∷◌, ◌++◌, sym, ap, arith, subst, refl, length-append}
use Rattle.std.proofs.lemmas.List.{length-take}
use Rattle.dcm_head.specs.declared.meta.Meta.TheInside.{Inside}
use Rattle.dcm_base.specs.File.MetaGroup.{group_place}
use Rattle.dcm_head.specs.MetaReading.{Reading}
use Rattle.dcm_head.proofs.HeadReading.GoesOn.{room, passed, kept_behind, ends, over}
use Rattle.dcm_head.proofs.meta.Meta.step_within.Goals as goal
use Rattle.dcm_head.proofs.meta.Meta.step_within.Goals.{then-is_first_syntax, else-is_first_syntax}

pub push-requires : goal.push-requires
push-requires c =
    let going = ap (λ (r : Reading). r.end) c.self.view_is ∙ c.requires.going in
    let more = room _ c.self.invariant going in
    (omega arith, omega arith)

pub invariant_of-self-in-End : goal.invariant_of-self-in-End
invariant_of-self-in-End c =
    let going = ap (λ (r : Reading). r.end) c.self.view_is ∙ c.requires.going in
    let within : 132 ≤ length c.self.inside.bytes.items = subst (λ (r : Reading). 132 ≤ length r.bytes) (sym c.self.view_is) c.requires.within in
    let rest : c.split_at.result.1.now ≡ drop c.self.inside.place (c.self.inside.bytes.items ++ c.args.byte ∷ []) = c.split_at.ensures.back ∙ ap (drop c.self.inside.place) (c.as_slice.ensures.value ∙ c.push.ensures.items) in
    let exact = ends _ c.args.byte c.self.invariant going within (sym (ap (group_place (c.self.inside.place - 132)) rest) ∙ sym c.in-End.ensures) in
    let all = ap length c.push.ensures.items ∙ length-append c.self.inside.bytes.items (c.args.byte ∷ []) in
    record {
      low = c.self.invariant.low;
      high = c.self.invariant.high;
      uid = c.self.invariant.uid;
      begun = λ h. omega arith;
      waits = over (record { bytes = c.push.new.self.items; place = c.self.inside.place; uid_at = c.self.inside.uid_at; uid_size = c.self.inside.uid_size; end = Some c.group_end.result })
          c.group_end.result refl (omega arith) (omega arith);
    }

pub overflow_add-value : goal.overflow_add-value
overflow_add-value c =
    let going = ap (λ (r : Reading). r.end) c.self.view_is ∙ c.requires.going in
    let within : 132 ≤ length c.self.inside.bytes.items = subst (λ (r : Reading). 132 ≤ length r.bytes) (sym c.self.view_is) c.requires.within in
    let p = passed _ c.args.byte _ _ _ _ _ _ _ c.self.invariant going within c.push.ensures.items c.as_slice.ensures.value c.split_at.ensures.back c.in-Element.ensures in
    let all = p.all in
    let high = p.high in
    let longer = ap length c.push.ensures.items ∙ length-append c.self.inside.bytes.items (c.args.byte ∷ []) in
    omega arith

pub part-requires : goal.part-requires
part-requires c =
    let going = ap (λ (r : Reading). r.end) c.self.view_is ∙ c.requires.going in
    let within : 132 ≤ length c.self.inside.bytes.items = subst (λ (r : Reading). 132 ≤ length r.bytes) (sym c.self.view_is) c.requires.within in
    let p = passed _ c.args.byte _ _ _ _ _ _ _ c.self.invariant going within c.push.ensures.items c.as_slice.ensures.value c.split_at.ensures.back c.in-Element.ensures in
    let all = p.all in
    let high = p.high in
    let longer = ap length c.push.ensures.items ∙ length-append c.self.inside.bytes.items (c.args.byte ∷ []) in
    let same = ap length c.as_slice-then-is_first_syntax.ensures.value in
    omega arith

pub overflow_add-self : goal.overflow_add-self
overflow_add-self c =
    let going = ap (λ (r : Reading). r.end) c.self.view_is ∙ c.requires.going in
    let within : 132 ≤ length c.self.inside.bytes.items = subst (λ (r : Reading). 132 ≤ length r.bytes) (sym c.self.view_is) c.requires.within in
    let p = passed _ c.args.byte _ _ _ _ _ _ _ c.self.invariant going within c.push.ensures.items c.as_slice.ensures.value c.split_at.ensures.back c.in-Element.ensures in
    let all = p.all in
    let high = p.high in
    let longer = ap length c.push.ensures.items ∙ length-append c.self.inside.bytes.items (c.args.byte ∷ []) in
    omega arith

pub invariant_of-self-in-Element : goal.invariant_of-self-in-Element
invariant_of-self-in-Element c =
    let going = ap (λ (r : Reading). r.end) c.self.view_is ∙ c.requires.going in
    let within : 132 ≤ length c.self.inside.bytes.items = subst (λ (r : Reading). 132 ≤ length r.bytes) (sym c.self.view_is) c.requires.within in
    let p = passed _ c.args.byte _ _ _ _ _ _ _ c.self.invariant going within c.push.ensures.items c.as_slice.ensures.value c.split_at.ensures.back c.in-Element.ensures in
    let all = p.all in
    let high = p.high in
    let longer = ap length c.push.ensures.items ∙ length-append c.self.inside.bytes.items (c.args.byte ∷ []) in
    let q : Reading = record {
      bytes = c.if-is_first_syntax.self-inside.bytes.items;
      place = c.self.inside.place + c.in-Element.head + c.in-Element.size;
      uid_at = c.if-is_first_syntax.self-inside.uid_at;
      uid_size = c.if-is_first_syntax.self-inside.uid_size;
      end = c.if-is_first_syntax.self-inside.end;
    } in
    elim c.if-is_first_syntax.branch [
      | then-is_first_syntax w ↦
          let at = ap (λ (x : Inside). x.uid_at) w.self-inside-is in
          let size = ap (λ (x : Inside). x.uid_size) w.self-inside-is in
          let most = w.size_without_pads-self-inside.ensures.within in
          let whole = ap length w.part.ensures ∙ length-take c.in-Element.size (drop (c.self.inside.place + c.in-Element.head) w.as_slice-then-is_first_syntax.result.now) in
          kept_behind _ q c.args.byte _ _ c.self.invariant (ap (λ (x : Inside). x.end) w.self-inside-is ∙ going) p (ap (λ (x : Inside). x.bytes.items) w.self-inside-is ∙ c.push.ensures.items) refl (omega arith)
      | else-is_first_syntax w ↦
          let at = ap (λ (x : Inside). x.uid_at) w.self-inside-is in
          let size = ap (λ (x : Inside). x.uid_size) w.self-inside-is in
          let uid = c.self.invariant.uid in
          kept_behind _ q c.args.byte _ _ c.self.invariant (ap (λ (x : Inside). x.end) w.self-inside-is ∙ going) p (ap (λ (x : Inside). x.bytes.items) w.self-inside-is ∙ c.push.ensures.items) refl (omega arith)
    ]
