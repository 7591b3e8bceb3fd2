-- Paths of parts.
use Rattle.std.proofs.Common.{◌≡◌, List, ℕ, refl, sym, subst, codes, Result, Ok, Err, IfErr, OnOk}
use Rattle.std.specs.Str.{IsUtf8}
use Rattle.std.proofs.lemmas.Str.{IsUtf8-append}
use Rattle.dcm_files.specs.Part.{part_of}

suffix_is_text : IsUtf8 (codes ".part")
unfolding lib.Utf8.encode
suffix_is_text = (codes ".part", (refl, refl))

-- the path of a part is a text where that of its output is
pub part_is_text : (output : List ℕ) → IsUtf8 output → IsUtf8 (part_of output)
part_is_text output text = IsUtf8-append output (codes ".part") text suffix_is_text

pub not_text_part : (output path : List ℕ) → path ≡ part_of output → ¬ (IsUtf8 path) → ¬ (IsUtf8 output)
not_text_part output path is none text = none (subst IsUtf8 (sym is) (part_is_text output text))

-- ---- what an answer says, from what it says otherwise

pub on_ok : {T E A B : Type 0} (r : Result T E) → (A → B) → OnOk r A → OnOk r B
on_ok (Ok x) says it = says it
on_ok (Err e) says it = it

pub if_err : {T E : Type 0} {A B : E → Type 0} (r : Result T E) → ((e : E) → A e → B e) → IfErr r A → IfErr r B
if_err (Ok x) says it = it
if_err (Err e) says it = says e it
