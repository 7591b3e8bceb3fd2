-- Rows of parts that go out one after another.
use Rattle.std.proofs.Common.{◌≡◌, ◌∙◌, sym, ap, refl, subst, ℕ, List, [], ◌∷◌, ◌++◌, Option, Result, Ok, Err, append_assoc}
use Rattle.std.specs.Prelude.{MatchResult, IsErr}
use Rattle.std.specs.Io.KnownBytes.{append_known}
use Rattle.std.proofs.lemmas.List.{append-nil}
use Rattle.dcm_lemmas.proofs.Options.{known_nothing, known_twice}
use Rattle.dcm_devices.specs.Device.{AppendsFront, Puts}
use Rattle.dcm_devices.proofs.Writes.Puts.{puts_behind}
use Rattle.dcm_table.specs.Parts.{Part, some_bytes, SpellsPart, SpellsParts, AppendsParts, AppendsFrontOfParts}

-- the parts went out whole, or a beginning of them where the call failed
abbrev pub Out : {T E : Type 0} → (old new : Option (List ℕ)) → List Part → Result T E → Type 0
Out old new parts r = MatchResult r (λ _. AppendsParts old new parts) (λ _. AppendsFrontOfParts old new parts)

-- ---- texts

pub spells_one : (p : Part) (text : List ℕ) → SpellsPart p text → SpellsParts (p ∷ []) text
spells_one p text h = (text, [], sym (append-nil text), h, refl)

pub spells_both : (ps qs : List Part) (s t : List ℕ) → SpellsParts ps s → SpellsParts qs t → SpellsParts (ps ++ qs) (s ++ t)
spells_both [] qs s t e h = subst (λ (x : List ℕ). SpellsParts qs (x ++ t)) (sym e) h
spells_both (p ∷ ps) qs s t (first, rest, is, one, more) h =
    (first, rest ++ t, ap (λ (x : List ℕ). x ++ t) is ∙ append_assoc first rest t, one, spells_both ps qs rest t more h)

-- ---- one call

pub part_out : {T E : Type 0} (old new : Option (List ℕ)) (p : Part) (text : List ℕ) (r : Result T E) → SpellsPart p text → Puts old new text r → Out old new (p ∷ []) r
part_out old new p text (Ok x) h put = record { text = text; spelled = spells_one p text h; grown = put }
part_out old new p text (Err e) h put = record { first = p ∷ []; others = []; whole = refl; text = text; spelled = spells_one p text h; front = put }

pub bytes_out : {T E : Type 0} (old new : Option (List ℕ)) (bytes : List ℕ) (r : Result T E) → Puts old new bytes r → Out old new (some_bytes bytes ∷ []) r
bytes_out old new bytes r put = part_out old new (some_bytes bytes) bytes r refl put

pub nothing_out : (known : Option (List ℕ)) → AppendsParts known known []
nothing_out known = record { text = []; spelled = refl; grown = sym (known_nothing known) }

-- ---- one call and then another

pub appends_then : {old mid new : Option (List ℕ)} {ps qs : List Part} → AppendsParts old mid ps → AppendsParts mid new qs → AppendsParts old new (ps ++ qs)
appends_then {old} {mid} {new} {ps} {qs} a b = record {
  text = a.text ++ b.text;
  spelled = spells_both ps qs a.text b.text a.spelled b.spelled;
  grown = b.grown ∙ ap (λ (k : Option (List ℕ)). append_known k b.text) a.grown ∙ known_twice old a.text b.text;
}

pub front_then : {old mid new : Option (List ℕ)} {ps qs : List Part} → AppendsParts old mid ps → AppendsFrontOfParts mid new qs → AppendsFrontOfParts old new (ps ++ qs)
front_then {old} {mid} {new} {ps} {qs} a b = record {
  first = ps ++ b.first;
  others = b.others;
  whole = ap (λ (x : List Part). ps ++ x) b.whole ∙ sym (append_assoc ps b.first b.others);
  text = a.text ++ b.text;
  spelled = spells_both ps b.first a.text b.text a.spelled b.spelled;
  front = puts_behind {T = ℕ} {E = ℕ} old mid new a.text b.text (Err 0) a.grown b.front;
}

pub front_longer : {old new : Option (List ℕ)} {ps : List Part} (qs : List Part) → AppendsFrontOfParts old new ps → AppendsFrontOfParts old new (ps ++ qs)
front_longer {old} {new} {ps} qs a = record {
  first = a.first;
  others = a.others ++ qs;
  whole = ap (λ (x : List Part). x ++ qs) a.whole ∙ append_assoc a.first a.others qs;
  text = a.text;
  spelled = a.spelled;
  front = a.front;
}

pub out_then : {T E : Type 0} (old mid new : Option (List ℕ)) (ps qs : List Part) (r : Result T E) → AppendsParts old mid ps → Out mid new qs r → Out old new (ps ++ qs) r
out_then old mid new ps qs (Ok x) a b = appends_then a b
out_then old mid new ps qs (Err e) a b = front_then a b

pub out_err : {T E : Type 0} (old new : Option (List ℕ)) (ps : List Part) (r : Result T E) → IsErr r → AppendsFrontOfParts old new ps → Out old new ps r
out_err old new ps (Ok x) e h = cc
out_err old new ps (Err x) e h = h

-- a failure in the first parts
pub out_failed : {T E : Type 0} (old new : Option (List ℕ)) (ps qs : List Part) (r : Result T E) → IsErr r → AppendsFrontOfParts old new ps → Out old new (ps ++ qs) r
out_failed old new ps qs r e h = out_err old new (ps ++ qs) r e (front_longer qs h)

-- bytes that went out, and those of which a beginning did
pub bytes_went : (old new : Option (List ℕ)) (bytes : List ℕ) → new ≡ append_known old bytes → AppendsParts old new (some_bytes bytes ∷ [])
bytes_went old new bytes e = bytes_out {T = ℕ} {E = ℕ} old new bytes (Ok 0) e

pub bytes_broke : (old new : Option (List ℕ)) (bytes : List ℕ) → AppendsFront old new bytes → AppendsFrontOfParts old new (some_bytes bytes ∷ [])
bytes_broke old new bytes h = bytes_out {T = ℕ} {E = ℕ} old new bytes (Err 0) h

-- ---- in a loop

-- of all parts these are to come
pub record SoFar (old now : Option (List ℕ)) (all rest : List Part) : Type 0 where
  pub first : List Part
  pub whole : all ≡ first ++ rest
  pub out : AppendsParts old now first

pub so_far_none : (old : Option (List ℕ)) (all : List Part) → SoFar old old all all
so_far_none old all = record { first = []; whole = refl; out = nothing_out old }

pub so_far_more : {old mid : Option (List ℕ)} {all rest : List Part} (new : Option (List ℕ)) (more after : List Part) → SoFar old mid all rest → rest ≡ more ++ after → AppendsParts mid new more → SoFar old new all after
so_far_more {old} {mid} {all} {rest} new more after s e h = record {
  first = s.first ++ more;
  whole = s.whole ∙ ap (λ (x : List Part). s.first ++ x) e ∙ sym (append_assoc s.first more after);
  out = appends_then s.out h;
}

pub so_far_failed : {T E : Type 0} {old mid : Option (List ℕ)} {all rest : List Part} (new : Option (List ℕ)) (more after : List Part) (r : Result T E) → SoFar old mid all rest → rest ≡ more ++ after → IsErr r → AppendsFrontOfParts mid new more → Out old new all r
so_far_failed {T} {E} {old} {mid} {all} {rest} new more after r s e failed h =
    subst (λ (x : List Part). Out {T = T} {E = E} old new x r)
    (append_assoc s.first more after ∙ ap (λ (x : List Part). s.first ++ x) (sym e) ∙ sym s.whole)
    (out_failed old new (s.first ++ more) after r failed (front_then s.out h))

pub so_far_done : {old now : Option (List ℕ)} {all rest : List Part} → SoFar old now all rest → rest ≡ [] → AppendsParts old now all
so_far_done {old} {now} {all} {rest} s e =
    subst (AppendsParts old now) (sym (s.whole ∙ ap (λ (x : List Part). s.first ++ x) e ∙ append-nil s.first)) s.out

-- ---- parts between bytes

pub between_failed_first : {T E : Type 0} (old new : Option (List ℕ)) (first last : List ℕ) (ps : List Part) (r : Result T E) → IsErr r → AppendsFront old new first
    → Out old new (some_bytes first ∷ (ps ++ some_bytes last ∷ [])) r
between_failed_first old new first last ps r failed h =
    out_failed old new (some_bytes first ∷ []) (ps ++ some_bytes last ∷ []) r failed (bytes_broke old new first h)

pub between_failed : {T E : Type 0} (old mid new : Option (List ℕ)) (first last : List ℕ) (ps : List Part) (r : Result T E) → IsErr r → mid ≡ append_known old first → AppendsFrontOfParts mid new ps
    → Out old new (some_bytes first ∷ (ps ++ some_bytes last ∷ [])) r
between_failed old mid new first last ps r failed e h =
    out_err old new (some_bytes first ∷ (ps ++ some_bytes last ∷ [])) r failed
    (front_then (bytes_went old mid first e) (front_longer (some_bytes last ∷ []) h))

pub between_went : {T E : Type 0} (old one two new : Option (List ℕ)) (first last : List ℕ) (ps : List Part) (r : Result T E) → one ≡ append_known old first → AppendsParts one two ps → Puts two new last r
    → Out old new (some_bytes first ∷ (ps ++ some_bytes last ∷ [])) r
between_went old one two new first last ps r e a put =
    out_then old one new (some_bytes first ∷ []) (ps ++ some_bytes last ∷ []) r (bytes_went old one first e)
    (out_then one two new ps (some_bytes last ∷ []) r a (bytes_out two new last r put))
