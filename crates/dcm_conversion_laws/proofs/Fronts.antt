-- What was read is converted by way of another syntax as it is at once.
use Rattle.std.proofs.Common.{◌≡◌, ◌∙◌, ap, sym, subst, ℕ, ◌≤◌, List, Option, Bool, append-nil}
use Rattle.dcm_base.specs.declared.syntax.Syntax.{Syntax}
use Rattle.dcm_base.specs.declared.tag.Tag.{Tag}
use Rattle.dcm_base.specs.Conversion.Normal.{normal, normal_front, whole_front}
use Rattle.dcm_base.specs.Conversion.Recode.{recode, recode_set}
use Rattle.dcm_base.specs.Reading.Bars.{no_bar, target_bar}
use Rattle.dcm_base.specs.Reading.Reads.{INPUT_LIMIT, Reads}
use Rattle.dcm_base.specs.Reading.Stop.{Bar, complete}
use Rattle.dcm_base.specs.Tables.Number.{AreBytes}
use Rattle.dcm_base.specs.Tree.Front.{Front, front, nothing_open}
use Rattle.dcm_base.specs.Tree.Tree.{Trees}
use Rattle.dcm_base.proofs.DataSets.OneAnswer.{reads_once}
use Rattle.dcm_sinks.specs.Conversion.{Converts}
use Rattle.dcm_sinks.proofs.ReadBack.RecodeReads.{recode_reads, source_whole, whole_recodes}
use Rattle.dcm_deid_laws.proofs.NotBarred.{not_barred}
use Rattle.dcm_conversion_laws.specs.Detour.{FrontKeeps}
use Rattle.dcm_conversion_laws.proofs.Detour.{sets_compose}

set_recodes : (s : Syntax) (set : Trees) (reached : Option Tag) (closed : Bool) → recode s (front set nothing_open reached closed) ≡ recode_set s set
unfolding recode
set_recodes s set reached closed = append-nil (recode_set s set)

whole_composes : (way target : Syntax) (set : Trees) → FrontKeeps way target (whole_front set) → recode target (normal_front way (whole_front set)) ≡ recode target (whole_front set)
whole_composes way target set h = whole_recodes target (normal way set) ∙ sets_compose way target set h ∙ sym (whole_recodes target set)

-- of what was read without fault
pub front_composes : (way target bar_of s : Syntax) (start : ℕ) (bytes : List ℕ) (f : Front) → start ≤ INPUT_LIMIT → AreBytes bytes → Reads (target_bar bar_of) s start bytes f complete → FrontKeeps way target f
    → recode target (normal_front way f) ≡ recode target f
front_composes way target bar_of s start bytes f le are reads h =
    let w = source_whole bar_of s start bytes f le are reads in
    subst (λ (g : Front). recode target (normal_front way g) ≡ recode target g) (sym w.is) (whole_composes way target w.trees (subst (FrontKeeps way target) w.is h))

-- what two tools read without fault is one
pub read_alike : (a b : Bar) (s : Syntax) (start : ℕ) (bytes : List ℕ) (f g : Front) → Reads a s start bytes f complete → Reads b s start bytes g complete → f ≡ g
read_alike a b s start bytes f g x y =
    (reads_once no_bar s start bytes f g complete complete (not_barred a s start bytes f x) (not_barred b s start bytes g y)).0

pub recode_composes : (s way target : Syntax) (start at : ℕ) (bytes : List ℕ) (f g h : Front) → Converts way s start at bytes f → Reads (target_bar target) way at (recode way f) g complete → Reads (target_bar target) s start bytes h complete
    → FrontKeeps way target f → recode target g ≡ recode target h
recode_composes s way target start at bytes f g h c again once keeps =
    ap (recode target) (read_alike (target_bar target) (target_bar way) way at (recode way f) g (normal_front way f) again (recode_reads way s start at bytes f c))
    ∙ front_composes way target way s start bytes f c.begins c.are_bytes c.reads keeps
    ∙ ap (recode target) (read_alike (target_bar way) (target_bar target) s start bytes f h c.reads once)
