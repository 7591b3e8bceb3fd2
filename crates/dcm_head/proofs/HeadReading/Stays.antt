-- An end stays, and what was read stays in front.
use Rattle.std.proofs.Common.{◌≡◌, ◌∙◌, ◌⊎◌, inl, inr, ◌+◌, ◌-◌, ◌<◌, ◌≤◌, List, [], ◌∷◌, ◌++◌, length, take, ℕ, Bool, true, false, cond, nat_lt, nat_eq, Option, Some, None, refl, ap, sym, subst, drop, arith, append_assoc, length-append}
use Rattle.std.proofs.lemmas.List.{take_at, drop_at, drop-drop, append-nil, length-take}
use Rattle.std.specs.Prelude.{fold, is_some, option_to_list}
use Rattle.dcm_base.specs.declared.syntax.Coding.{Coding}
use Rattle.dcm_base.specs.File.MetaGroup.{GroupPlace}
use Rattle.dcm_base.specs.File.MetaGroup.{an_element, the_end, too_few, a_fault}
use Rattle.dcm_head.specs.declared.meta_read.MetaEnd.{MetaEnd}
use Rattle.dcm_head.specs.declared.meta_read.MetaEnd.TheVariants.{Ended}
use Rattle.dcm_head.specs.declared.meta_read.MetaRead.{MetaRead}
use Rattle.dcm_head.specs.declared.meta_read.MetaRead.TheVariants as reads
use Rattle.dcm_base.specs.File.MetaGroup.{group_place}
use Rattle.dcm_head.specs.MetaReading.{Reading, meta_step, step_from, reached, at_place, is_first_syntax, has_prefix, IsOpen, Answers, BeginsAt, EndsIn, HasEnded, UsesWithin}

pub stays : (r : Reading) (end : MetaEnd) (bytes : List ℕ) → r.end ≡ Some end → fold meta_step r bytes ≡ r
stays r end [] h = refl
stays r end (b ∷ bytes) h = ap (λ (x : Reading). fold meta_step x bytes) (ap (step_from r b) h) ∙ stays r end bytes h

either : (b : Bool) (x y : Reading) (bytes : List ℕ) → x.bytes ≡ bytes → y.bytes ≡ bytes → (let z : Reading = cond b x y in z.bytes) ≡ bytes
either true x y bytes h g = h
either false x y bytes h g = g

at_place_bytes : (r : Reading) (p : GroupPlace) → (at_place r p).bytes ≡ r.bytes
at_place_bytes r (an_element tag vr head size) = either (is_first_syntax r.uid_at tag) _ _ r.bytes refl refl
at_place_bytes r the_end = refl
at_place_bytes r too_few = refl
at_place_bytes r (a_fault fault) = refl

reached_bytes : (r : Reading) → (reached r).bytes ≡ r.bytes
reached_bytes r =
    either (nat_lt (length r.bytes) 132) r _ r.bytes refl
    (either (nat_eq (length r.bytes) 132) _ _ r.bytes (either (has_prefix r.bytes) r _ r.bytes refl refl) (at_place_bytes r (group_place (r.place - 132) (drop r.place r.bytes))))

-- a byte is kept, or the reading was over
step_keeps : (r : Reading) (byte : ℕ) (end : Option MetaEnd) → (step_from r byte end ≡ r) ⊎ ((step_from r byte end).bytes ≡ r.bytes ++ byte ∷ [])
step_keeps r byte (Some end) = inl refl
step_keeps r byte None = inr (reached_bytes (record r { bytes = r.bytes ++ byte ∷ [] }))

-- what came before stays in front
pub grown : (r : Reading) (bytes : List ℕ) → (fold meta_step r bytes ≡ r) ⊎ ((byte : ℕ) × (more : List ℕ) × ((fold meta_step r bytes).bytes ≡ r.bytes ++ byte ∷ more))
grown r [] = inl refl
grown r (b ∷ bytes) =
    elim (step_keeps r b r.end) [
      | inl same ↦ elim (grown r bytes) [ inl h ↦ inl (ap (λ (x : Reading). fold meta_step x bytes) same ∙ h) | inr h ↦ inr (h.0, h.1, ap (λ (x : Reading). (fold meta_step x bytes).bytes) same ∙ h.2) ]
      | inr more ↦ elim (grown (meta_step r b) bytes) [
        | inl h ↦ inr (b, [], ap (λ (x : Reading). x.bytes) h ∙ more)
        | inr h ↦ inr (b, h.0 ∷ h.1, h.2 ∙ ap (λ (x : List ℕ). x ++ h.0 ∷ h.1) more ∙ append_assoc r.bytes (b ∷ []) (h.0 ∷ h.1))
      ]
    ]

not_over : (end : Option MetaEnd) (coding : Coding) → IsOpen end → end ≡ Some (Ended coding) → ⊥
not_over end coding o h = subst IsOpen h o

-- where a piece ended the group, bytes of it were kept behind those before
pub record Grew (r q : Reading) : Type 0 where
  pub longer : length r.bytes < length q.bytes
  pub front : take (length r.bytes) q.bytes ≡ r.bytes

pub grew : (r q : Reading) (bytes : List ℕ) (coding : Coding) → q ≡ fold meta_step r bytes → IsOpen r.end → q.end ≡ Some (Ended coding) → Grew r q
grew r q bytes coding is o h =
    elim (grown r bytes) [
      | inl same ↦ absurd (not_over r.end coding o (sym (ap (λ (x : Reading). x.end) (is ∙ same)) ∙ h))
      | inr more ↦
          let parts : q.bytes ≡ r.bytes ++ more.0 ∷ more.1 = ap (λ (x : Reading). x.bytes) is ∙ more.2 in
          let all = ap length parts ∙ length-append r.bytes (more.0 ∷ more.1) in
          record {
            longer = omega arith;
            front = ap (take (length r.bytes)) parts ∙ take_at r.bytes (more.0 ∷ more.1) (length r.bytes) refl;
          }
    ]

pub answers : (before : List ℕ) (r : Reading) (coding : Coding) (result : MetaRead) → r.end ≡ Some (Ended coding) → EndsIn before r.place result → Answers before r result
answers before r coding (reads.Ended used ahead) h e = (subst HasEnded (sym h) tt, e)
answers before r coding reads.More h e = absurd e
answers before r coding (reads.Refused stop) h e = absurd e

pub stays_some : (r : Reading) (end : Option MetaEnd) (bytes : List ℕ) → end ≡ r.end → is_some end ≡ true → fold meta_step r bytes ≡ r
stays_some r (Some end) bytes h s = stays r end bytes (sym h)
stays_some r None bytes h s = cc

kept_by : (r : Reading) (end : Option MetaEnd) (byte : ℕ) (bytes : List ℕ) → r.end ≡ end → (fold meta_step r (byte ∷ bytes)).end ≡ None → (meta_step r byte).bytes ≡ r.bytes ++ byte ∷ []
kept_by r (Some end) byte bytes e h = absurd (let no : Some end ≡ None = sym e ∙ sym (ap (λ (x : Reading). x.end) (stays r end (byte ∷ bytes) e)) ∙ h in cc)
kept_by r None byte bytes e h = ap (λ (x : Option MetaEnd). (step_from r byte x).bytes) e ∙ reached_bytes (record r { bytes = r.bytes ++ byte ∷ [] })

-- a reading that goes on has kept all bytes
pub kept_all : (r : Reading) (bytes : List ℕ) → (fold meta_step r bytes).end ≡ None → (fold meta_step r bytes).bytes ≡ r.bytes ++ bytes
kept_all r [] h = sym (append-nil r.bytes)
kept_all r (byte ∷ bytes) h =
    kept_all (meta_step r byte) bytes h ∙ ap (λ (x : List ℕ). x ++ bytes) (kept_by r r.end byte bytes refl h) ∙ append_assoc r.bytes (byte ∷ []) bytes

-- the bytes of the data set are the byte ahead and those from the place in the piece
pub data_set_there : (before piece : List ℕ) (place used : ℕ) (ahead : Option ℕ) → BeginsAt before place used ahead → drop place (before ++ piece) ≡ option_to_list ahead ++ drop used piece
data_set_there before piece place used None h =
    ap (λ (n : ℕ). drop n (before ++ piece)) (sym h) ∙ sym (drop-drop used (length before) (before ++ piece)) ∙ ap (drop used) (drop_at before piece (length before) refl)
data_set_there before piece place used (Some byte) h =
    let size = ap length h.1 ∙ length-append (take place before) (byte ∷ []) in
    let front = length-take place before in
    let place_is : place ≡ length (take place before) = omega arith in
    ap (λ (x : List ℕ). drop place (x ++ piece)) h.1 ∙ ap (drop place) (append_assoc (take place before) (byte ∷ []) piece)
    ∙ drop_at (take place before) (byte ∷ piece) place (sym place_is) ∙ ap (λ (n : ℕ). byte ∷ drop n piece) (sym h.0)

step_most : (r : Reading) (byte : ℕ) → length (meta_step r byte).bytes ≤ length r.bytes + 1
step_most r byte =
    elim (step_keeps r byte r.end) [
      | inl same ↦ let size = ap (λ (x : Reading). length x.bytes) same in omega arith
      | inr more ↦ let size = ap length more ∙ length-append r.bytes (byte ∷ []) in omega arith
    ]

-- no more bytes are kept than came
pub kept_most : (r : Reading) (bytes : List ℕ) → length (fold meta_step r bytes).bytes ≤ length r.bytes + length bytes
kept_most r [] = omega arith
kept_most r (byte ∷ bytes) =
    let more = kept_most (meta_step r byte) bytes in
    let one = step_most r byte in
    omega arith

uses_more : (m n : ℕ) (result : MetaRead) → m ≤ n → UsesWithin m result → UsesWithin n result
uses_more m n (reads.Ended used ahead) le h = omega arith
uses_more m n reads.More le h = tt
uses_more m n (reads.Refused stop) le h = tt

pub uses_piece : (r q : Reading) (bytes : List ℕ) (result : MetaRead) → q ≡ fold meta_step r bytes → UsesWithin (length q.bytes - length r.bytes) result → UsesWithin (length bytes) result
uses_piece r q bytes result is h =
    let most = kept_most r bytes in
    let size = ap (λ (x : Reading). length x.bytes) is in
    uses_more (length q.bytes - length r.bytes) (length bytes) result (omega arith) h
