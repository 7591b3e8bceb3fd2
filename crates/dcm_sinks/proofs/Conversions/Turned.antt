-- Units that are turned round part by part.
use Rattle.std.proofs.Common.{◌≡◌, ◌∙◌, ap, sym, refl, ℕ, zero, suc, ◌+◌, ◌*◌, ◌<◌, List, [], ◌∷◌, ◌++◌, append_assoc, length, take, drop, min, Option, arith, inl, inr}
use Rattle.std.specs.Prelude.{Result, Err, Ok, IsErr, reverse}
use Rattle.std.specs.Io.KnownBytes.{append_known}
use Rattle.std.proofs.lemmas.Bool.{cases_lt}
use Rattle.std.proofs.lemmas.List.{append-nil, length-take, length-drop, take-append-drop, take_all, drop_all}
use Rattle.dcm_lemmas.proofs.Options.{known_nothing, known_twice}
use Rattle.dcm_base.specs.declared.vr.Vr.{Vr}
use Rattle.dcm_base.specs.declared.vr.Vr.TheVariants.{AT, US, SS, OW, UL, SL, FL, OF, OL, FD, OD, OV, SV, UV}
use Rattle.dcm_devices.specs.Device.{AppendsFront, Puts}
use Rattle.dcm_base.specs.Tables.Representation.{unit}
use Rattle.dcm_base.specs.Tree.Value.{turned}
use Rattle.dcm_base.proofs.Conversions.Order.{turned_cons, turned_short, unit_some}

-- some of the bytes went out, and these are left
pub record PutSoFar (held holds : Option (List ℕ)) (all left : List ℕ) : Type 0 where
  pub done : List ℕ
  pub whole : all ≡ done ++ left
  pub grown : holds ≡ append_known held done

pub put_none : (held : Option (List ℕ)) (all : List ℕ) → PutSoFar held held all all
put_none held all = record { done = []; whole = refl; grown = sym (known_nothing held) }

pub put_more : (held mid holds : Option (List ℕ)) (all left part after : List ℕ) → PutSoFar held mid all left → left ≡ part ++ after → holds ≡ append_known mid part → PutSoFar held holds all after
put_more held mid holds all left part after so split put = record {
  done = so.done ++ part;
  whole = so.whole ∙ ap (λ z. so.done ++ z) split ∙ sym (append_assoc so.done part after);
  grown = put ∙ ap (λ known. append_known known part) so.grown ∙ known_twice held so.done part;
}

pub put_all_of : (held holds : Option (List ℕ)) (all : List ℕ) → PutSoFar held holds all [] → holds ≡ append_known held all
put_all_of held holds all so = so.grown ∙ ap (append_known held) (sym (append-nil so.done) ∙ sym so.whole)

pub put_stopped : (held mid holds : Option (List ℕ)) (all left part after : List ℕ) → PutSoFar held mid all left → left ≡ part ++ after → AppendsFront mid holds part → AppendsFront held holds all
put_stopped held mid holds all left part after so split front = record {
  front = so.done ++ front.front;
  next = front.next;
  rest = front.rest ++ after;
  whole = so.whole ∙ ap (λ z. so.done ++ z) (split ∙ ap (λ z. z ++ after) front.whole ∙ append_assoc front.front (front.next ∷ front.rest) after) ∙ sym (append_assoc so.done front.front (front.next ∷ (front.rest ++ after)));
  grown = front.grown ∙ ap (λ known. append_known known front.front) so.grown ∙ known_twice held so.done front.front;
}

module _ (k : ℕ) (some : 0 < k) where
  -- whole units in front
  pub turned_behind : (n : ℕ) (a b : List ℕ) → length a ≡ n * k → turned k (a ++ b) ≡ turned k a ++ turned k b
  turned_behind zero [] b e = ap (λ z. z ++ turned k b) (sym (turned_short k some [] some))
  turned_behind zero (x ∷ a) b e = absurd (omega arith)
  turned_behind (suc n) a b e =
      let u : List ℕ = take k a in
      let w : List ℕ = drop k a in
      let whole : u ++ w ≡ a = take-append-drop k a in
      let more : suc n * k ≡ k + n * k = omega arith in
      let is_unit : length u ≡ k = omega (arith, length-take k a) in
      let others : length w ≡ n * k = omega (arith, length-drop k a) in
      ap (λ x. turned k (x ++ b)) (sym whole)
      ∙ ap (turned k) (append_assoc u w b)
      ∙ turned_cons k some u (w ++ b) is_unit
      ∙ ap (λ z. reverse u ++ z) (turned_behind n w b others)
      ∙ sym (append_assoc (reverse u) (turned k w) (turned k b))
      ∙ ap (λ z. z ++ turned k b) (sym (turned_cons k some u w is_unit) ∙ ap (turned k) whole)

-- blocks hold whole units
block_units : (vr : Vr) → (n : ℕ) × (8192 ≡ n * unit vr)
block_units AT = (4096, refl)
block_units US = (4096, refl)
block_units SS = (4096, refl)
block_units OW = (4096, refl)
block_units UL = (2048, refl)
block_units SL = (2048, refl)
block_units FL = (2048, refl)
block_units OF = (2048, refl)
block_units OL = (2048, refl)
block_units FD = (1024, refl)
block_units OD = (1024, refl)
block_units OV = (1024, refl)
block_units SV = (1024, refl)
block_units UV = (1024, refl)
block_units _ = (8192, refl)

-- a block, and what follows it
pub turned_block : (vr : Vr) (n : ℕ) (rest part after : List ℕ) → n ≡ min (length rest) 8192 → part ≡ take n rest → after ≡ drop n rest → turned (unit vr) rest ≡ turned (unit vr) part ++ turned (unit vr) after
turned_block vr n rest part after size front back =
    elim (cases_lt (length rest) 8192) [
      | inl short ↦
          let all : n ≡ length rest = omega arith in
          let whole : part ≡ rest = front ∙ ap (λ m. take m rest) all ∙ take_all (length rest) rest (omega arith) in
          let none : after ≡ [] = back ∙ ap (λ m. drop m rest) all ∙ drop_all (length rest) rest (omega arith) in
          ap (turned (unit vr)) (sym whole) ∙ sym (append-nil (turned (unit vr) part)) ∙ ap (λ z. turned (unit vr) part ++ z) (sym (ap (turned (unit vr)) none ∙ turned_short (unit vr) (unit_some vr) [] (unit_some vr)))
      | inr long ↦
          let b = block_units vr in
          let block : n ≡ 8192 = omega arith in
          let long : length part ≡ b.0 * unit vr = ap length front ∙ ap (λ m. length (take m rest)) block ∙ (let l = length-take 8192 rest in let e : length (take 8192 rest) ≡ 8192 = omega arith in e) ∙ b.1 in
          let whole : part ++ after ≡ rest = ap (λ z. z ++ after) front ∙ ap (λ z. take n rest ++ z) back ∙ take-append-drop n rest in
          ap (turned (unit vr)) (sym whole) ∙ turned_behind (unit vr) (unit_some vr) b.0 part after long
    ]

-- a call fails at one of the parts
pub put_failed : {T E : Type 0} (held mid holds : Option (List ℕ)) (all left part after : List ℕ) (r : Result T E) → IsErr r → PutSoFar held mid all left → left ≡ part ++ after → AppendsFront mid holds part → Puts held holds all r
put_failed held mid holds all left part after (Ok x) e so split front = cc
put_failed held mid holds all left part after (Err x) e so split front = put_stopped held mid holds all left part after so split front
