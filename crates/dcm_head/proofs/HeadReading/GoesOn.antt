-- What a reading that goes on knows.
use Rattle.std.proofs.Common.{◌≡◌, ◌⊎◌, inl, inr, ℕ, ◌+◌, ◌-◌, ◌≤◌, ◌<◌, List, [], ◌∷◌, ◌++◌, length, drop, Option, Some, None, sym, ap, ◌∙◌, subst, arith, length-drop, length-append}
use Rattle.std.proofs.lemmas.List.{drop-append-le}
use Rattle.std.proofs.lemmas.Bool.Decides.{leb_tells}
use Rattle.dcm_base.specs.declared.tag.Tag.{Tag}
use Rattle.dcm_base.specs.declared.vr.Vr.{Vr}
use Rattle.dcm_base.specs.File.MetaGroup.{an_element, the_end, too_few}
use Rattle.dcm_head.specs.declared.meta_read.MetaEnd.{MetaEnd}
use Rattle.dcm_head.specs.declared.meta_read.MetaEnd.TheVariants.{Refused, Ended}
use Rattle.dcm_base.specs.File.MetaGroup.{group_place}
use Rattle.dcm_head.specs.MetaReading.{Reading, Keeps, Waits, HasEnded}
use Rattle.dcm_head.proofs.MetaGroups.Elements.{element_tells, element_exact, end_exact, cut_room}

waits_here : (r : Reading) → Keeps r → r.end ≡ None → (length r.bytes ≤ r.place) ⊎ (group_place (r.place - 132) (drop r.place r.bytes) ≡ too_few)
waits_here r k h = subst (Waits r) h k.waits

-- there is room for one byte more
pub room : (r : Reading) → Keeps r → r.end ≡ None → length r.bytes < 16528
room r k h =
    let high = k.high in
    let low = k.low in
    elim (waits_here r k h) [
      | inl le ↦ omega arith
      | inr cut ↦
          let few = cut_room (r.place - 132) (drop r.place r.bytes) (omega arith) cut in
          let size = length-drop r.place r.bytes in
          omega arith
    ]

-- the bytes from the place on wait for the element
pub waiting : (r : Reading) → Keeps r → r.end ≡ None → (length (drop r.place r.bytes) ≡ 0) ⊎ (group_place (r.place - 132) (drop r.place r.bytes) ≡ too_few)
waiting r k h =
    elim (waits_here r k h) [
      | inl le ↦ let size = length-drop r.place r.bytes in inl (omega arith)
      | inr cut ↦ inr cut
    ]

pub place_within : (r : Reading) → Keeps r → 132 ≤ length r.bytes → r.place ≤ length r.bytes
place_within r k le =
    elim (leb_tells r.place 132) [
      | inl p ↦ let low = p.1 in omega arith
      | inr p ↦ k.begun p.1
    ]

-- with a byte that makes an element whole
pub record Passes (r : Reading) (head size : ℕ) : Type 0 where
  pub all : r.place + head + size ≡ length r.bytes + 1
  pub high : r.place + head + size ≤ 16516
  pub fits : head + size ≤ 16384

pub passes : (r : Reading) (byte : ℕ) (tag : Tag) (vr : Vr) (head size : ℕ) → Keeps r → r.end ≡ None → 132 ≤ length r.bytes
    → group_place (r.place - 132) (drop r.place (r.bytes ++ byte ∷ [])) ≡ an_element tag vr head size → Passes r head size
passes r byte tag vr head size k h le e =
    let within = place_within r k le in
    let low = k.low in
    let behind = drop-append-le r.place r.bytes (byte ∷ []) within in
    let here : group_place (r.place - 132) (drop r.place r.bytes ++ byte ∷ []) ≡ an_element tag vr head size = sym (ap (group_place (r.place - 132)) behind) ∙ e in
    let exact = element_exact (r.place - 132) (drop r.place r.bytes) byte tag vr head size (waiting r k h) here in
    let is = element_tells (r.place - 132) (drop r.place r.bytes ++ byte ∷ []) tag vr head size here in
    let fits = is.fits in
    let left = length-drop r.place r.bytes in
    record { all = omega arith; high = omega arith; fits = omega arith }

pub ends : (r : Reading) (byte : ℕ) → Keeps r → r.end ≡ None → 132 ≤ length r.bytes → group_place (r.place - 132) (drop r.place (r.bytes ++ byte ∷ [])) ≡ the_end → length r.bytes ≡ r.place + 1
ends r byte k h le e =
    let within = place_within r k le in
    let behind = drop-append-le r.place r.bytes (byte ∷ []) within in
    let exact = end_exact (r.place - 132) (drop r.place r.bytes) byte (waiting r k h) (sym (ap (group_place (r.place - 132)) behind) ∙ e) in
    let left = length-drop r.place r.bytes in
    omega arith

over_at : (r : Reading) (end : MetaEnd) → r.place ≤ length r.bytes → length r.bytes ≤ r.place + 2 → Waits r (Some end)
over_at r (Refused stop) a b = tt
over_at r (Ended coding) a b = (a, b)

-- an end at most two bytes behind the place
pub over : (r : Reading) (end : MetaEnd) → r.end ≡ Some end → r.place ≤ length r.bytes → length r.bytes ≤ r.place + 2 → Waits r r.end
over r end h a b = subst (Waits r) (sym h) (over_at r end a b)

-- the same, as code comes to it
pub passed : (r : Reading) (byte : ℕ) (bytes slice rest : List ℕ) (tag : Tag) (vr : Vr) (head size : ℕ) → Keeps r → r.end ≡ None → 132 ≤ length r.bytes
    → bytes ≡ r.bytes ++ byte ∷ [] → slice ≡ bytes → rest ≡ drop r.place slice → an_element tag vr head size ≡ group_place (r.place - 132) rest → Passes r head size
passed r byte bytes slice rest tag vr head size k h le b s d e =
    passes r byte tag vr head size k h le (sym (ap (group_place (r.place - 132)) (d ∙ ap (drop r.place) (s ∙ b))) ∙ sym e)

-- what is kept behind an element
pub kept_behind : (r q : Reading) (byte head size : ℕ) → Keeps r → q.end ≡ None → Passes r head size → q.bytes ≡ r.bytes ++ byte ∷ [] → q.place ≡ r.place + head + size → q.uid_at + q.uid_size ≤ q.place → Keeps q
kept_behind r q byte head size k h p b e u =
    let all = p.all in
    let high = p.high in
    let low = k.low in
    let longer = ap length b ∙ length-append r.bytes (byte ∷ []) in
    record {
      low = omega arith;
      high = omega arith;
      uid = u;
      begun = λ _. omega arith;
      waits = subst (Waits q) (sym h) (inl (omega arith));
    }

ended_at : (r : Reading) (end : Option MetaEnd) → Waits r end → HasEnded end → r.place ≤ length r.bytes
ended_at r (Some (Ended coding)) w h = w.0
ended_at r (Some (Refused stop)) w h = absurd h
ended_at r None w h = absurd h

-- where the group has ended, all of it came
pub ended_whole : (r : Reading) → Keeps r → HasEnded r.end → r.place ≤ length r.bytes
ended_whole r k h = ended_at r r.end k.waits h
