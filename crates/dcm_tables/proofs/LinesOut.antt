-- Lines that are written one after another.
use Rattle.std.proofs.Common.{◌≡◌, ◌∙◌, ap, sym, subst, refl, ℕ, zero, suc, ◌+◌, ◌<◌, ◌≤◌, List, [], ◌∷◌, ◌++◌, append_assoc, length, take, drop, Bool, true, false, Option, Result, Err, arith}
use Rattle.std.specs.Prelude.{IsErr, flat_map, option_to_list, Some, None, is_some}
use Rattle.std.specs.Io.KnownBytes.{append_known}
use Rattle.std.proofs.lemmas.List.{append-nil}
use Rattle.dcm_lemmas.proofs.Options.{known_nothing, known_twice}
use Rattle.dcm_base.specs.declared.tag.Tag.{Tag}
use Rattle.dcm_devices.specs.Device.{AppendsFront, Puts}
use Rattle.dcm_devices.proofs.Writes.Puts.{front_longer, puts_behind, puts_err}
use Rattle.dcm_names.specs.NamedLines.{too_long_line, unknown_lines}
use Rattle.dcm_table.specs.declared.ending.RowEnd.{RowEnd}
use Rattle.dcm_table.specs.Row.{reported, slot_at}
use Rattle.dcm_table.specs.TableSink.{Slot}
use Rattle.dcm_tables.specs.Rows.{end_lines, long_lines, long_tags, long_status}

-- ---- bytes in parts

-- of all bytes the rest is to come
pub record SoFar (old now : Option (List ℕ)) (all rest : List ℕ) : Type 0 where
  pub front : List ℕ
  pub whole : all ≡ front ++ rest
  pub grown : now ≡ append_known old front

pub none_so_far : (old : Option (List ℕ)) (all : List ℕ) → SoFar old old all all
none_so_far old all = record { front = []; whole = refl; grown = sym (known_nothing old) }

pub more_so_far : {old mid : Option (List ℕ)} {all rest : List ℕ} (new : Option (List ℕ)) (line after : List ℕ) → SoFar old mid all rest → rest ≡ line ++ after → new ≡ append_known mid line → SoFar old new all after
more_so_far {old} {mid} {all} {rest} new line after s is went = record {
  front = s.front ++ line;
  whole = s.whole ∙ ap (λ (bs : List ℕ). s.front ++ bs) is ∙ sym (append_assoc s.front line after);
  grown = went ∙ ap (λ (k : Option (List ℕ)). append_known k line) s.grown ∙ known_twice old s.front line;
}

pub failed_so_far : {T E : Type 0} {old mid : Option (List ℕ)} {all rest : List ℕ} (new : Option (List ℕ)) (line after : List ℕ) (r : Result T E) → SoFar old mid all rest → rest ≡ line ++ after → IsErr r → AppendsFront mid new line → Puts old new all r
failed_so_far {T} {E} {old} {mid} {all} {rest} new line after r s is failed front =
    subst (λ (bs : List ℕ). Puts {T = T} {E = E} old new bs r)
    (append_assoc s.front line after ∙ ap (λ (bs : List ℕ). s.front ++ bs) (sym is) ∙ sym s.whole)
    (puts_err old new ((s.front ++ line) ++ after) r failed (front_longer after (puts_behind {T = ℕ} {E = ℕ} old mid new s.front line (Err 0) s.grown front)))

pub all_so_far : {old now : Option (List ℕ)} {all rest : List ℕ} → SoFar old now all rest → rest ≡ [] → now ≡ append_known old all
all_so_far {old} {now} {all} {rest} s none =
    s.grown ∙ ap (append_known old) (sym (s.whole ∙ ap (λ (bs : List ℕ). s.front ++ bs) none ∙ append-nil s.front))

-- ---- columns

flat_more : (f : Tag → List ℕ) (xs ys : List Tag) → flat_map f (xs ++ ys) ≡ flat_map f xs ++ flat_map f ys
flat_more f [] ys = refl
flat_more f (x ∷ xs) ys = ap (λ (bs : List ℕ). f x ++ bs) (flat_more f xs ys) ∙ sym (append_assoc (f x) (flat_map f xs) (flat_map f ys))

-- the columns from one on are that one and those after it
from_column : (slots : List Slot) (i : ℕ) → i < length slots → drop i slots ≡ slot_at slots i ∷ drop (i + 1) slots
from_column [] i h = absurd (omega (arith, h))
from_column (c ∷ slots) zero h = refl
from_column (c ∷ slots) (suc i) h = let e : suc i + 1 ≡ suc (i + 1) = omega arith in rw e (from_column slots i (omega (arith, h)))

before_next : (slots : List Slot) (i : ℕ) → i < length slots → take (i + 1) slots ≡ take i slots ++ slot_at slots i ∷ []
before_next [] i h = absurd (omega (arith, h))
before_next (c ∷ slots) zero h = refl
before_next (c ∷ slots) (suc i) h = let e : suc i + 1 ≡ suc (i + 1) = omega arith in rw e (ap (λ (cs : List Slot). c ∷ cs) (before_next slots i (omega (arith, h))))

pub next_tags : (slots : List Slot) (i : ℕ) → i < length slots → long_tags (take i slots) (drop i slots) ≡ option_to_list (reported slots i) ++ long_tags (take (i + 1) slots) (drop (i + 1) slots)
next_tags slots i h =
    ap (long_tags (take i slots)) (from_column slots i h)
    ∙ ap (λ (before : List Slot). option_to_list (reported slots i) ++ long_tags before (drop (i + 1) slots)) (sym (before_next slots i h))

pub next_lines : (name : List ℕ) (slots : List Slot) (i : ℕ) → i < length slots
    → long_lines name (take i slots) (drop i slots) ≡ flat_map (too_long_line name) (option_to_list (reported slots i)) ++ long_lines name (take (i + 1) slots) (drop (i + 1) slots)
next_lines name slots i h =
    ap (flat_map (too_long_line name)) (next_tags slots i h)
    ∙ flat_more (too_long_line name) (option_to_list (reported slots i)) (long_tags (take (i + 1) slots) (drop (i + 1) slots))

-- none is left
pub no_tags : (slots : List Slot) (i : ℕ) → length slots ≤ i → long_tags (take i slots) (drop i slots) ≡ []
no_tags slots i h = ap (long_tags (take i slots)) (none_after slots i h)
  where
    none_after : (slots : List Slot) (i : ℕ) → length slots ≤ i → drop i slots ≡ []
    none_after [] zero h = refl
    none_after [] (suc i) h = refl
    none_after (c ∷ slots) zero h = absurd (omega (arith, h))
    none_after (c ∷ slots) (suc i) h = none_after slots i (omega (arith, h))

pub no_lines : (name : List ℕ) (slots : List Slot) (i : ℕ) → length slots ≤ i → long_lines name (take i slots) (drop i slots) ≡ []
no_lines name slots i h = ap (flat_map (too_long_line name)) (no_tags slots i h)

-- whether one is reported
pub tag_skipped : (r : Option Tag) (tags : List Tag) → is_some r ≡ false → option_to_list r ++ tags ≡ tags
tag_skipped None tags e = refl
tag_skipped (Some t) tags e = cc

pub tag_found : (r : Option Tag) (tags : List Tag) → is_some r ≡ true → long_status (option_to_list r ++ tags) ≡ 2
tag_found None tags e = cc
tag_found (Some t) tags e = refl

-- the lines behind those of values that are too long
abbrev pub last_lines : (name : List ℕ) → (unknown : Bool) → RowEnd → List ℕ
last_lines name unknown end = unknown_lines name unknown ++ end_lines name end
