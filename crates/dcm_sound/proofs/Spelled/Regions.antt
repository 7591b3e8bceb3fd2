-- What a container encloses, where some of it was read.
use Rattle.std.proofs.Common.{◌≡◌, ◌∙◌, ap, sym, refl, subst, ℕ, ◌+◌, ◌≤◌, List, [], ◌∷◌, ◌++◌, length, Option, Bool, true, false, ◌⊎◌, inl, inr, arith, length-append, append_assoc}
use Rattle.dcm_base.specs.declared.tag.Tag.{Tag}
use Rattle.dcm_base.specs.declared.syntax.Syntax.{Syntax}
use Rattle.dcm_base.specs.declared.length.Length.{Length}
use Rattle.dcm_base.specs.declared.length.Length.TheVariants.{Known, Undefined}
use Rattle.dcm_base.specs.Bytes.Head.{Delimiter}
use Rattle.dcm_base.specs.Bytes.Spelling.{Enclosed, StaysOpen}
use Rattle.dcm_base.specs.Reading.Place.{distance, end_of}
use Rattle.dcm_base.specs.Tables.Tag.{item_end_tag, sequence_end_tag}
use Rattle.dcm_base.proofs.DataSets.Heads.{NoElement, NoItem}
use Rattle.dcm_base.proofs.DataSets.Whole.{at_end_NoElement, at_end_NoItem, delimiter_NoElement, delimiter_NoItem}
use Rattle.dcm_sound.proofs.Spelled.Places.{HasRoom, less_room}

-- more of a list that begins with what was read
pub record Cut (c r i e : List ℕ) : Type 0 where
  pub more : List ℕ
  pub whole : i ≡ c ++ more
  pub rest : r ≡ more ++ e

pub cut : (c r i e : List ℕ) → c ++ r ≡ i ++ e → length c ≤ length i → Cut c r i e
cut [] r i e h le = record { more = i; whole = refl; rest = h }
cut (x ∷ c) r [] e h le = absurd (omega (arith, le))
cut (x ∷ c) r (y ∷ i) e h le =
    let heads : x ≡ y = cc in
    let tails : c ++ r ≡ i ++ e = cc in
    let k = cut c r i e tails (omega (arith, le)) in
    record { more = k.more; whole = (λ j. sym heads j ∷ k.whole j); rest = k.rest }

-- what is to come of the contents, and of what is after them
pub record Region (k : Syntax) (end_tag : Tag) (declared : Length) (R : List ℕ → List ℕ → Type 0) (c r z : List ℕ) (begin position : ℕ) (held : Bool) (around : Option ℕ) : Type 0 where
  pub more : List ℕ
  pub beyond : List ℕ
  pub end : List ℕ
  pub rest_is : r ++ z ≡ more ++ beyond
  pub holds : R (c ++ more) end
  pub ends : (end ≡ []) ⊎ ((after : List ℕ) × Delimiter k end_tag end after)
  pub room_around : HasRoom (length more) around
  pub own_room : HasRoom (length more) (distance position (end_of declared begin))
  pub delimited : held ≡ false → more ≡ end → (declared ≡ Undefined) × ((after : List ℕ) × Delimiter k end_tag more after)

stays_within : (size : ℕ) (held : Bool) (c : List ℕ) → StaysOpen (Known size) held c → length c ≤ size
stays_within size true c h = h
stays_within size false c h = omega (arith, h)

not_full : (size : ℕ) (held : Bool) (c more : List ℕ) → StaysOpen (Known size) held c → length (c ++ more) ≡ size → held ≡ false → more ≡ [] → ⊥
not_full size true c more h full e none = absurd (cc)
not_full size false c more h full e none = omega (arith, h, full, length-append c more, ap length none)

pub region : (k : Syntax) (end_tag : Tag) (declared : Length) (R : List ℕ → List ℕ → Type 0) (c r z e : List ℕ) (begin position : ℕ) (held : Bool) (around : Option ℕ)
    → Enclosed k end_tag declared R (c ++ r) e → StaysOpen declared held c → position ≡ begin + length c → HasRoom (length r) around → Region k end_tag declared R c r z begin position held around
region k end_tag (Known size) R c r z e begin position held around (i, parts, full, x) stays at has_room =
    let within : length c ≤ size = stays_within size held c stays in
    let n = cut c r i e parts (omega (arith, within, full)) in
    let few : length r ≡ length n.more + length e = ap length n.rest ∙ length-append n.more e in
    let all : length i ≡ length c + length n.more = ap length n.whole ∙ length-append c n.more in
    record {
      more = n.more;
      beyond = e ++ z;
      end = [];
      rest_is = ap (λ (y : List ℕ). y ++ z) n.rest ∙ append_assoc n.more e z;
      holds = subst (λ (y : List ℕ). R y []) n.whole x;
      ends = inl refl;
      room_around = less_room (length r) (length n.more) around has_room (omega (arith, few));
      own_room = omega (arith, at, all, full);
      delimited = λ closed none. absurd (not_full size held c n.more stays (ap length (sym n.whole) ∙ full) closed none);
    }
region k end_tag Undefined R c r z e begin position held around (d, x, delimiter) stays at has_room =
    record {
      more = r;
      beyond = z;
      end = d;
      rest_is = refl;
      holds = x;
      ends = inr (e, delimiter);
      room_around = has_room;
      own_room = tt;
      delimited = λ closed same. (refl, (e, subst (λ (y : List ℕ). Delimiter k end_tag y e) (sym same) delimiter));
    }

pub no_element : (k : Syntax) (end : List ℕ) → (end ≡ []) ⊎ ((after : List ℕ) × Delimiter k item_end_tag end after) → NoElement k end
no_element k end (inl none) = subst (NoElement k) (sym none) (at_end_NoElement k)
no_element k end (inr (e, delimiter)) = delimiter_NoElement k end e delimiter

pub no_item : (k : Syntax) (end : List ℕ) → (end ≡ []) ⊎ ((after : List ℕ) × Delimiter k sequence_end_tag end after) → NoItem k end
no_item k end (inl none) = subst (NoItem k) (sym none) (at_end_NoItem k)
no_item k end (inr (e, delimiter)) = delimiter_NoItem k end e delimiter
