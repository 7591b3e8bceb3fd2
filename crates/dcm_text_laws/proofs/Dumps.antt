-- The dumps of several files, with their headings, are valid UTF-8.
use Rattle.std.proofs.Common.{◌≡◌, ◌∙◌, ap, sym, refl, subst, ℕ, List, [], ◌∷◌, Bool, true, false, Option, Some, None, Result, Ok}
use Rattle.std.specs.Prelude.{codes, IsUtf8}
use Rattle.std.proofs.lemmas.Str.{IsUtf8-nil}
use Rattle.dcm_base.specs.declared.dictionary.Dictionary.{Dictionary}
use Rattle.dcm_base.specs.declared.mode.Mode.{Mode}
use Rattle.dcm_base.specs.declared.syntax.Syntax.{Syntax}
use Rattle.dcm_base.proofs.DumpsBack.Texts.{bytes_of}
use Rattle.dcm_files.specs.declared.memory.MemSystem.{MemSystem}
use Rattle.dcm_names.specs.Names.{names_of, shown_name}
use Rattle.dcm_value.proofs.Displays.DecodedUtf8.{low_utf8}
use Rattle.dcm_words.specs.Words.{Job, dump_decoded}
use Rattle.dcm_table_words.specs.Table.{Name, file, list}
use Rattle.dcm_cli.specs.declared.ending.Verdict.{Verdict}
use Rattle.dcm_cli.specs.Run.{Answered}
use Rattle.dcm_each.specs.Each.{listed_path}
use Rattle.dcm_each.specs.InMemory.{file_of}
use Rattle.dcm_dumps.specs.declared.plan.DumpsUsage.{DumpsUsage}
use Rattle.dcm_dumps.specs.Dumps.{next_number}
use Rattle.dcm_dumps.specs.DumpsInMemory.{AllCome, DumpsComeBy, DumpsOutcome, FileComes, ListComes, ListedComes, NameComes, Place, Showing, Texts, at_first, showing}
use Rattle.dcm_dumps.specs.Heading.{before_heading, heading, of_total}
use Rattle.dcm_dumps.specs.Words.{Dumps}
use Rattle.dcm_text_laws.specs.Laws.{DumpsAreUtf8, HoldsBytes}
use Rattle.dcm_text_laws.proofs.Lines.{both, decimal_utf8}
use Rattle.dcm_text_laws.proofs.Names.{IsOpened, file_opened, listed_opened, shown_utf8}
use Rattle.dcm_text_laws.proofs.Runs.{source_utf8}

-- ---- headings

before_utf8 : (is_first : Bool) → IsUtf8 (before_heading is_first)
before_utf8 true = IsUtf8-nil
before_utf8 false = low_utf8 (10 ∷ []) refl

total_utf8 : (total : Option ℕ) → IsUtf8 (of_total total)
total_utf8 (Some n) = both (low_utf8 (codes "/") refl) (decimal_utf8 n)
total_utf8 None = IsUtf8-nil

pub heading_utf8 : (is_first : Bool) (number : ℕ) (total : Option ℕ) (name : List ℕ) → IsUtf8 (shown_name name) → IsUtf8 (heading is_first number total name)
heading_utf8 is_first number total name h =
    both (before_utf8 is_first) (both (low_utf8 (codes "# dcmdump (") refl) (both (decimal_utf8 number) (both (total_utf8 total) (both (low_utf8 (codes "): ") refl) (both h (low_utf8 (10 ∷ 10 ∷ []) refl))))))

-- ---- dumps

abbrev pub ValidText : Texts → Type 0
ValidText t = IsUtf8 t.text

all_valid : {X : Type 0} (Comes : Place → X → Texts → Place → Type 0) → ((from : Place) (x : X) (t : Texts) (to : Place) → Comes from x t to → ValidText t)
    → (from : Place) (xs : List X) (t : Texts) (to : Place) → AllCome Comes from xs t to → ValidText t
all_valid Comes each from [] t to e = subst ValidText (sym e.0) IsUtf8-nil
all_valid Comes each from (x ∷ xs) t to (mid, first, later, one, more, is) = subst ValidText (sym is) (both (each from x first mid one) (all_valid Comes each mid xs later to more))

module _ (s : MemSystem) (h : HoldsBytes s) (shown : Showing) (d : Dictionary) (mode : Mode) (bare : Option Syntax) (is_job : shown.job ≡ dump_decoded d mode bare) where
  dump_utf8 : (bytes text : List ℕ) (verdict : Verdict) (name : List ℕ) → IsOpened name bytes → Answered shown.job bytes text verdict → IsUtf8 text
  dump_utf8 bytes text verdict name o y =
      let r : Answered (dump_decoded d mode bare) bytes text verdict = subst (λ (job : Job). Answered job bytes text verdict) is_job y in
      subst IsUtf8 (sym r.out_is) (source_utf8 d mode bare bytes r.source (bytes_of bytes o.are) r.reads)

  pub file_valid : (from : Place) (name : List ℕ) (o : Option (List ℕ)) (t : Texts) (to : Place) → ((bytes : List ℕ) → o ≡ Some bytes → IsOpened name bytes) → FileComes shown from name o t to → ValidText t
  file_valid from name None t to f e = subst ValidText (sym e.0) IsUtf8-nil
  file_valid from name (Some bytes) t to f (text, verdict, remarks, y, told, is, place) =
      let o = f bytes refl in
      subst ValidText (sym is) (both (heading_utf8 from.is_first (next_number from.number) shown.total name (shown_utf8 name o.named o.short)) (dump_utf8 bytes text verdict name o y))

  listed_valid : (from : Place) (name : List ℕ) (t : Texts) (to : Place) → ListedComes s shown from name t to → ValidText t
  listed_valid from name t to = file_valid from name (file_of s name (listed_path name)) t to (λ bytes e. listed_opened s name bytes h e)

  list_valid : (from : Place) (path : List ℕ) (o : Option (List ℕ)) (t : Texts) (to : Place) → ListComes s shown from path o t to → ValidText t
  list_valid from path None t to e = subst ValidText (sym e.0) IsUtf8-nil
  list_valid from path (Some bytes) t to y = all_valid (ListedComes s shown) listed_valid from (names_of bytes true) t to y

  name_valid : (from : Place) (name : Name) (t : Texts) (to : Place) → NameComes s shown from name t to → ValidText t
  name_valid from (file path) t to = file_valid from path (file_of s path path) t to (λ bytes e. file_opened s path bytes h e)
  name_valid from (list path) t to = list_valid from path (file_of s path path) t to

outcome_utf8 : (s : MemSystem) (asked : Dumps) (d : Dictionary) (mode : Mode) (bare : Option Syntax) (o : DumpsOutcome) (text : List ℕ) → HoldsBytes s → asked.job ≡ dump_decoded d mode bare
    → DumpsComeBy s (Ok asked) o → o.text ≡ Some text → IsUtf8 text
outcome_utf8 s asked d mode bare o text h is_job (t, (last, come), e) is =
    let same : t.text ≡ text = some_is t.text text (sym (ap (λ (o : DumpsOutcome). o.text) e) ∙ is) in
    subst IsUtf8 same (all_valid (NameComes s (showing asked)) (name_valid s h (showing asked) d mode bare is_job) at_first asked.names t last come)
  where
    some_is : (x y : List ℕ) → (let o : Option (List ℕ) = Some x in o ≡ Some y) → x ≡ y
    some_is x y e = cc

pub dumps_utf8 : DumpsAreUtf8
dumps_utf8 words s asked d mode bare o text h meant is_job comes is =
    outcome_utf8 s asked d mode bare o text h is_job (subst (λ (r : Result Dumps DumpsUsage). DumpsComeBy s r o) meant comes) is
