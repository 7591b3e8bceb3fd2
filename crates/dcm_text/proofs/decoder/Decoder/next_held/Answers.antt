use Rattle.std.proofs.Common.{◌≡◌, List, ℕ, Some, None, ap, sym, ◌∙◌, arith, refl, length, take}
use Rattle.dcm_text.specs.Decoding.{found}
use Rattle.dcm_text.proofs.Pieces.{found_sized, none_sized}
use Rattle.dcm_text.proofs.Calls.{held_gives, window_size}
use Rattle.dcm_text.proofs.decoder.Decoder.next_held.Goals as goal

pub split_at-requires : goal.split_at-requires
split_at-requires c =
    let d = c.args.self.now in
    let window : List ℕ = c.window_of-window.result.0.items in
    let is : found c.args.at_end d.sets d.kind d.halves window ≡ Some c.in-Some.found =
    ap (found c.args.at_end d.sets d.kind d.halves) (sym c.as_slice.ensures.value) ∙ sym c.in-Some.ensures in
    let s = found_sized c.args.at_end d.sets d.kind d.halves window c.in-Some.found is in
    omega (arith, s.1, ap length c.as_slice-in-Some.ensures.value)

pub passed-rest-requires : goal.passed-rest-requires
passed-rest-requires c =
    let d = c.args.self.now in
    let window : List ℕ = c.window_of-window.result.0.items in
    let is : found c.args.at_end d.sets d.kind d.halves window ≡ Some c.in-Some.found =
    ap (found c.args.at_end d.sets d.kind d.halves) (sym c.as_slice.ensures.value) ∙ sym c.in-Some.ensures in
    let s = found_sized c.args.at_end d.sets d.kind d.halves window c.in-Some.found is in
    omega (arith, s.1, window_size d.held.items c.args.input.now window _ c.window_of-window.ensures.whole)

pub copied-self-requires : goal.copied-self-requires
copied-self-requires c =
    let d = c.args.self.now in
    let window : List ℕ = c.window_of-window.result.0.items in
    let is : found c.args.at_end d.sets d.kind d.halves window ≡ None =
    ap (found c.args.at_end d.sets d.kind d.halves) (sym c.as_slice.ensures.value) ∙ sym c.in-None.ensures in
    let s = none_sized c.args.at_end d.sets d.kind d.halves window is in
    (omega arith, omega (arith, s, ap length c.as_slice-in-None.ensures.value))

pub returns-in-Some : goal.returns-in-Some
returns-in-Some c =
    let d = c.args.self.now in
    let window : List ℕ = c.window_of-window.result.0.items in
    let is : found c.args.at_end d.sets d.kind d.halves window ≡ Some c.in-Some.found =
    ap (found c.args.at_end d.sets d.kind d.halves) (sym c.as_slice.ensures.value) ∙ sym c.in-Some.ensures in
    held_gives c.args.at_end d _ c.args.input.now window _ _ c.in-Some.found _
    c.window_of-window.ensures.whole c.window_of-window.ensures.all is
    (c.copied.ensures ∙ c.split_at.ensures.front ∙ ap (take c.in-Some.found.size) c.as_slice-in-Some.ensures.value)
    refl refl c.passed-rest.ensures (refl, refl)
