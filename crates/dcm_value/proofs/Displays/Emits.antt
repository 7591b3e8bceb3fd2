-- What is shown piece by piece.
use Rattle.std.proofs.Common.{◌≡◌, ◌≤◌, ℕ, ◌+◌, min, List, [], ◌++◌, length, take, drop, ap, sym, ◌∙◌, arith, refl, append_assoc, true, Bool, ◌&&◌, nat_lt, le-ltb, subst, Option, Some, None, Result, Ok, Err, codes}
use Rattle.std.proofs.lemmas.Bool.{cases_lt, false≢true}
use mathlib.Core.Logic.{⊎_elim}
use Rattle.std.specs.Prelude.{IsErr, OnOk}
use Rattle.std.specs.Option.{option_map_or}
use Rattle.dcm_lemmas.proofs.Lists.{take_twice}
use Rattle.std.proofs.lemmas.List.{take_all, take-append-le, take-append-drop, length-append, append-nil}
use Rattle.dcm_lemmas.proofs.Options.{known_nothing, known_twice}
use Rattle.dcm_base.specs.Tables.Uid.{uid_name}
use Rattle.std.specs.Io.KnownBytes.{append_known}
use Rattle.dcm_base.specs.declared.mode.Mode.{Mode}
use Rattle.dcm_base.specs.declared.mode.Mode.TheVariants.{Short, Full}
use Rattle.dcm_devices.specs.Device.{AppendsFront, Puts}
use Rattle.dcm_base.specs.Dump.ValueText.{escape, escaped, identified, bracketed}
use Rattle.std.proofs.lemmas.Grind.{flat_map-append}
use Rattle.dcm_devices.proofs.Writes.Puts.{puts_behind, puts_err, front_longer}
use Rattle.dcm_value.specs.Display.{Display, emit, front_after, front_size, at_once, is_short}
use Rattle.dcm_value.specs.Emits.{Emits}
use Rattle.dcm_devices.specs.Writing.{Writer}

-- a record of what is shown, from its parts
pub same_display : (mode : Mode) (s t : ℕ) (f g : List ℕ) → s ≡ t → f ≡ g → (let d : Display = record { mode = mode; shown = s; front = f } in d) ≡ record { mode = mode; shown = t; front = g }
same_display mode s t f g p q = λ i. record { mode = mode; shown = p i; front = q i }

front_twice : (mode : Mode) (f t u : List ℕ) → front_after mode (front_after mode f t) u ≡ front_after mode f (t ++ u)
front_twice Short f t u = take_twice 66 (f ++ t) u ∙ ap (take 66) (append_assoc f t u)
front_twice Full f t u = refl

-- two pieces are one
pub emit_twice : (d : Display) (t u : List ℕ) → emit (emit d t) u ≡ emit d (t ++ u)
unfolding emit
emit_twice d t u = same_display d.mode _ _ _ _ (omega (arith, length-append t u)) (front_twice d.mode d.front t u)

-- where nothing more changes nothing
abbrev pub IsSettled : Display → Type 0
IsSettled d = emit d [] ≡ d

pub emit_settled : (d : Display) (t : List ℕ) → IsSettled (emit d t)
emit_settled d t = emit_twice d t [] ∙ ap (emit d) (append-nil t)

front_none : (mode : Mode) (n : ℕ) (f : List ℕ) → length f ≡ front_size mode n → front_after mode f [] ≡ f
front_none Short n f e = ap (take 66) (append-nil f) ∙ take_all 66 f (omega arith)
front_none Full n f e = refl

-- a display that is capped and filled
pub settled_of : (mode : Mode) (n : ℕ) (f : List ℕ) → n ≤ 67 → length f ≡ front_size mode n → IsSettled (record { mode = mode; shown = n; front = f })
unfolding emit
settled_of mode n f l e = same_display mode _ _ _ _ (omega arith) (front_none mode n f e)

-- nothing more is seen of one that is cut
pub cut_stays : (mode : Mode) (n : ℕ) (f t : List ℕ) → n ≤ 67 → length f ≡ front_size mode n → is_short mode && nat_lt 66 n ≡ true → (let d : Display = record { mode = mode; shown = n; front = f } in emit d t ≡ d)
unfolding emit
cut_stays Full n f t l e c = absurd (false≢true c)
cut_stays Short n f t l e c =
    ⊎_elim
    (λ long. same_display Short _ _ _ _ (let h : min 67 (n + length t) ≡ n = omega arith in h) (take-append-le 66 f t (omega arith) ∙ take_all 66 f (omega arith)))
    (λ short. absurd (false≢true (sym (le-ltb 66 n short) ∙ c)))
    (cases_lt 66 n)

-- what goes out at once
pub once_none : (mode : Mode) → at_once mode [] ≡ []
once_none Short = refl
once_none Full = refl

pub once_append : (mode : Mode) (t u : List ℕ) → at_once mode (t ++ u) ≡ at_once mode t ++ at_once mode u
once_append Short t u = refl
once_append Full t u = refl

once_short : (mode : Mode) (b : Bool) (t : List ℕ) → is_short mode && b ≡ true → at_once mode t ≡ []
once_short Short b t c = refl
once_short Full b t c = absurd (false≢true c)

pub emit_mode : (d : Display) (t : List ℕ) → (emit d t).mode ≡ d.mode
unfolding emit
emit_mode d t = refl

-- a part of the whole is shown, and the rest is to come
pub record PartShown (d now : Display) (old holds : Option (List ℕ)) (whole rest : List ℕ) : Type 0 where
  pub front : List ℕ
  pub all : whole ≡ front ++ rest
  pub shown : now ≡ emit d front
  pub out : holds ≡ append_known old (at_once d.mode front)

same_mode : (d now : Display) (front : List ℕ) → now ≡ emit d front → now.mode ≡ d.mode
same_mode d now front e = ap (λ x. x.mode) e ∙ emit_mode d front

pub part_more : {d now : Display} {old holds : Option (List ℕ)} {whole : List ℕ} (after : Display) (new : Option (List ℕ)) (t rest both : List ℕ) → PartShown d now old holds whole both → both ≡ t ++ rest → after ≡ emit now t → new ≡ append_known holds (at_once now.mode t) → PartShown d after old new whole rest
part_more {d} {now} {old} {holds} {whole} after new t rest both p split more one = record {
  front = p.front ++ t;
  all = p.all ∙ ap (λ xs. p.front ++ xs) split ∙ sym (append_assoc p.front t rest);
  shown = more ∙ ap (λ x. emit x t) p.shown ∙ emit_twice d p.front t;
  out =
      one
      ∙ ap (λ m. append_known holds (at_once m t)) (same_mode d now p.front p.shown)
      ∙ ap (λ known. append_known known (at_once d.mode t)) p.out
      ∙ known_twice old (at_once d.mode p.front) (at_once d.mode t)
      ∙ ap (append_known old) (sym (once_append d.mode p.front t));
}

-- a failure at the next part
pub part_failed : {T E : Type 0} {d now : Display} {old holds : Option (List ℕ)} {whole : List ℕ} (new : Option (List ℕ)) (t rest both : List ℕ) (r : Result T E) → PartShown d now old holds whole both → both ≡ t ++ rest → IsErr r → AppendsFront holds new (at_once now.mode t) → Puts old new (at_once d.mode whole) r
part_failed {T} {E} {d} {now} {old} {holds} {whole} new t rest both r p split failed h =
    let next : AppendsFront holds new (at_once d.mode t) = subst (λ m. AppendsFront holds new (at_once m t)) (same_mode d now p.front p.shown) h in
    let first : AppendsFront old new (at_once d.mode p.front ++ at_once d.mode t) = behind (at_once d.mode p.front) (at_once d.mode t) p.out next in
    let text : (at_once d.mode p.front ++ at_once d.mode t) ++ at_once d.mode rest ≡ at_once d.mode whole =
    ap (λ xs. xs ++ at_once d.mode rest) (sym (once_append d.mode p.front t)) ∙ sym (once_append d.mode (p.front ++ t) rest) ∙ ap (at_once d.mode) (append_assoc p.front t rest ∙ ap (λ xs. p.front ++ xs) (sym split) ∙ sym p.all)
    in
    puts_err old new (at_once d.mode whole) r failed (subst (AppendsFront old new) text (front_longer (at_once d.mode rest) first))
  where
    behind : (xs ys : List ℕ) → holds ≡ append_known old xs → AppendsFront holds new ys → AppendsFront old new (xs ++ ys)
    behind xs ys went front = puts_behind {T = ℕ} {E = ℕ} old holds new xs ys (Err 0) went front

-- nothing is left
pub part_ends : {d now : Display} {old holds : Option (List ℕ)} {whole : List ℕ} (rest : List ℕ) → PartShown d now old holds whole rest → rest ≡ [] → (now ≡ emit d whole) × (holds ≡ append_known old (at_once d.mode whole))
part_ends {d} {now} {old} {holds} {whole} rest p none =
    let all : whole ≡ p.front = p.all ∙ ap (λ xs. p.front ++ xs) none ∙ append-nil p.front in
    (p.shown ∙ ap (emit d) (sym all), p.out ∙ ap (λ xs. append_known old (at_once d.mode xs)) (sym all))

-- nothing more is seen
pub part_cut : {d now : Display} {old holds : Option (List ℕ)} {whole : List ℕ} (rest : List ℕ) → PartShown d now old holds whole rest → is_short now.mode && nat_lt 66 now.shown ≡ true → emit now rest ≡ now → (now ≡ emit d whole) × (holds ≡ append_known old (at_once d.mode whole))
part_cut {d} {now} {old} {holds} {whole} rest p cut stays =
    let short : is_short d.mode && nat_lt 66 now.shown ≡ true = ap (λ m. is_short m && nat_lt 66 now.shown) (sym (same_mode d now p.front p.shown)) ∙ cut in (
      sym stays ∙ ap (λ x. emit x rest) p.shown ∙ emit_twice d p.front rest ∙ ap (emit d) (sym p.all),
      p.out ∙ ap (append_known old) (once_short d.mode (nat_lt 66 now.shown) p.front short ∙ sym (once_short d.mode (nat_lt 66 now.shown) whole short)),
    )

-- nothing is shown yet
pub part_starts : (d : Display) (old : Option (List ℕ)) (whole : List ℕ) → IsSettled d → PartShown d d old old whole whole
part_starts d old whole settled = record { front = []; all = refl; shown = sym settled; out = sym (ap (append_known old) (once_none d.mode) ∙ known_nothing old) }

-- a text in two parts
pub escaped_split : (rest front back : List ℕ) (n : ℕ) → front ≡ take n rest → back ≡ drop n rest → escaped rest ≡ escaped front ++ escaped back
escaped_split rest front back n a b = ap escaped (sym (take-append-drop n rest)) ∙ flat_map-append escape (take n rest) (drop n rest) ∙ ap (λ xs. escaped xs ++ escaped (drop n rest)) (sym a) ∙ ap (λ xs. escaped front ++ escaped xs) (sym b)

-- the last part
pub part_last : {T E : Type 0} {d now : Display} {old holds : Option (List ℕ)} {whole : List ℕ} (after : Display) (new : Option (List ℕ)) (rest : List ℕ) (r : Result T E) → PartShown d now old holds whole rest → OnOk r (after ≡ emit now rest) → Puts holds new (at_once now.mode rest) r → OnOk r (after ≡ emit d whole) × Puts old new (at_once d.mode whole) r
part_last {T} {E} {d} {now} {old} {holds} {whole} after new rest (Ok x) p state puts =
    part_ends [] (part_more after new rest [] rest p (sym (append-nil rest)) state puts) refl
part_last {T} {E} {d} {now} {old} {holds} {whole} after new rest (Err x) p state puts =
    (tt, part_failed {T = T} {E = E} new rest [] rest (Err x) p (sym (append-nil rest)) refl puts)

-- the name of an identifier, or the identifier
pub named : (uid name : List ℕ) → Some name ≡ uid_name uid → identified uid ≡ codes "=" ++ name
named uid name e = ap (λ n. option_map_or (λ name. codes "=" ++ name) n (bracketed uid)) (sym e)

pub unnamed : (uid : List ℕ) → None ≡ uid_name uid → identified uid ≡ codes "[" ++ (escaped uid ++ codes "]")
unnamed uid e = ap (λ n. option_map_or (λ name. codes "=" ++ name) n (bracketed uid)) (sym e) ∙ append_assoc (codes "[") (escaped uid) (codes "]")

-- the same bytes
pub emits_same : {W T E : Type 0} {w : Writer W} {held holds : W} {old new : Display} {xs ys : List ℕ} {r : Result T E} → xs ≡ ys → Emits w held holds old new xs r → Emits w held holds old new ys r
emits_same {W} {T} {E} {w} {held} {holds} {old} {new} {xs} {ys} {r} e h = subst (λ all. Emits w held holds old new all r) e h
