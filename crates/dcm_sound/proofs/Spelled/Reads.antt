-- Of the bytes that whole trees spell the data set is read without fault.
use Rattle.std.proofs.Common.{◌≡◌, ◌∙◌, ap, sym, refl, subst, ℕ, ◌+◌, ◌-◌, ◌≤◌, ◌<◌, List, [], ◌∷◌, ◌++◌, length, Some, None, Bool, false, cond, arith, length-append}
use Rattle.std.proofs.lemmas.Bool.{le-ltb}
use Rattle.std.proofs.lemmas.List.{append-nil, take_all}
use Rattle.dcm_base.specs.declared.syntax.Syntax.{Syntax}
use Rattle.dcm_base.specs.declared.length.Length.TheVariants.{Undefined}
use Rattle.dcm_base.specs.declared.level.Container.TheVariants.{DataSet as the_data_set}
use Rattle.dcm_base.specs.Tree.Tree.{Trees}
use Rattle.dcm_base.specs.Tree.Front.{Front, front, nothing_open}
use Rattle.dcm_base.specs.Bytes.Spelling.{TreesAt, SpellsFront, last_tag}
use Rattle.dcm_base.specs.Conversion.Normal.{whole_front}
use Rattle.dcm_base.specs.Reading.Place.{depth, level, levels, room, set_levels, value_open}
use Rattle.dcm_base.specs.Reading.Reads.{INPUT_LIMIT, Reads, StopsFirst, at_the_cut}
use Rattle.dcm_base.specs.Reading.Stop.{complete, Bar, HeadBar, stop_at}
use Rattle.dcm_base.proofs.DataSets.Whole.{at_end_NoElement}
use Rattle.dcm_sinks.proofs.ReadBack.WrittenRead.{set_takes}
use Rattle.dcm_sound.proofs.Spelled.Left.{MayCome}
use Rattle.dcm_sound.proofs.Spelled.NoFault.{set_fine, stop_here}

top_depth : (q : Syntax) (start : ℕ) → depth (level the_data_set q Undefined start ∷ []) ≡ 0
unfolding depth
top_depth q start = refl

-- the whole set as it is reached, before it has ended
abbrev reached : Trees → Front
reached set = front set nothing_open (last_tag None set) false

whole_spells : (s : Syntax) (set : Trees) (bytes : List ℕ) → TreesAt s set bytes [] → SpellsFront s (reached set) bytes
unfolding SpellsFront
whole_spells s set bytes at = ([], at, refl, refl, refl)

module _ (bar : Bar) (heads : HeadBar) (same : (f : Front) → bar f ≡ heads) (s : Syntax) (start : ℕ) (set : Trees) (bytes : List ℕ) (at : TreesAt s set bytes []) (may : MayCome heads 0 set) where
  -- the set ends with the bytes
  ends_there : stop_at bar s start (reached set) (start + length bytes) [] ≡ Some complete
  unfolding stop_at levels set_levels value_open room
  ends_there = refl

  here : (g : Front) (position : ℕ) (rest : List ℕ) → stop_at bar s start g position rest ≡ stop_here heads (value_open g) (set_levels s the_data_set Undefined start [] g) position rest
  unfolding stop_at levels
  here g position rest = ap (λ (b : HeadBar). stop_here b (value_open g) (levels s start g) position rest) (same g)

  -- and nothing stops before
  goes_on : (earlier later : List ℕ) (g : Front) → bytes ≡ earlier ++ later → length earlier < length bytes → SpellsFront s g earlier → stop_at bar s start g (start + length earlier) later ≡ None
  unfolding room
  goes_on earlier later g parts lt spelled =
      here g (start + length earlier) later
      ∙ ap (λ (x : List ℕ). stop_here heads (value_open g) (set_levels s the_data_set Undefined start [] g) (start + length earlier) x) (sym (append-nil later))
      ∙ set_fine heads s g the_data_set Undefined start (start + length earlier) 0 [] earlier later [] [] set spelled (subst (λ (x : List ℕ). TreesAt s set x []) parts at) (at_end_NoElement s) may set_takes
      (λ q. top_depth q start) refl tt tt (λ held none q tags. absurd (omega (arith, lt, ap length parts, length-append earlier later, ap length none)))

  stops : StopsFirst bar s start bytes (reached set) complete
  stops = record {
    read = bytes;
    rest = [];
    parts = sym (append-nil bytes);
    spelled = whole_spells s set bytes at;
    stops = ends_there;
    first = goes_on;
  }

  pub spelled_reads : start + length bytes ≤ INPUT_LIMIT → Reads bar s start bytes (whole_front set) complete
  spelled_reads within = (
    reached set,
    complete,
    subst (λ (x : List ℕ). StopsFirst bar s start x (reached set) complete) (sym (take_all (INPUT_LIMIT - start) bytes (omega (arith, within)))) stops,
    sym (ap (λ (t : Bool). cond t (at_the_cut complete) complete) (le-ltb INPUT_LIMIT (start + length bytes) within)),
    refl,
  )
