-- What is read of an input, written without identity.
use Rattle.std.proofs.Common.{◌≡◌, ◌∙◌, ap, sym, refl, subst, ℕ, ◌≤◌, ◌+◌, ◌-◌, List, length, take, Option, Bool, true, false, arith, length-append}
use Rattle.std.proofs.lemmas.List.{length-take}
use Rattle.std.specs.Prelude.{fold, ◌&&◌}
use Rattle.dcm_base.specs.declared.syntax.Syntax.{Syntax}
use Rattle.dcm_base.specs.declared.tag.Tag.{Tag}
use Rattle.dcm_base.specs.Bytes.Spelling.{SpellsFront}
use Rattle.dcm_base.specs.Conversion.Recode.{recode}
use Rattle.dcm_base.specs.Reading.Bars.{identity_bar}
use Rattle.dcm_base.specs.Reading.Reads.{INPUT_LIMIT, Reads, ended}
use Rattle.dcm_base.specs.Reading.Stop.{Stop, complete, refused}
use Rattle.dcm_base.specs.Steps.Anew.{reached_anew}
use Rattle.dcm_base.specs.Steps.Atoms.{Atom, Shows, front_atoms, is_closed}
use Rattle.dcm_base.specs.Steps.Steps.{outputs}
use Rattle.dcm_base.specs.Tree.Front.{Front, front, OpenTree}
use Rattle.dcm_base.specs.Tree.Tree.{Trees}
use Rattle.dcm_sinks.specs.EncodeSink.{encode_start, encode_step, encode_writes}
use Rattle.dcm_sinks.specs.Laws.{StaysShallow}
use Rattle.dcm_sinks.proofs.Conversions.DataSets.{encode_steps}
use Rattle.dcm_editor.proofs.ReadBack.EditReads.{Shown, shown_so_far, shown_whole}
use Rattle.dcm_editor.proofs.ReadBack.IdentityBar.{identity, identity_in_order}
use Rattle.dcm_editor.proofs.ReadBack.RecodeAnew.{recode_anew}
use Rattle.dcm_editor.proofs.Trees.DepthAtoms.{front_shallow, front_stays, anew_shallow}
use Rattle.dcm_deid.specs.MadeNew.{made_new}
use Rattle.dcm_deid.specs.declared.fate.Options.{Options}
use Rattle.dcm_deid.specs.declared.fate.Depth.TheVariants.{Outermost}
use Rattle.dcm_deid.specs.DeidentifySink.{MOST_COUNTED, begun, next, passed}
use Rattle.dcm_deid.specs.Deidentify.{Renaming}
use Rattle.dcm_deid.specs.Emptied.{dates_emptied}
use Rattle.dcm_deid.specs.Fate.{fate_as}
use Rattle.dcm_deid.specs.Saying.{deidentified, read_whole}
use Rattle.dcm_deid.proofs.Deidentified.{deidentify_steps}
use Rattle.dcm_deid.proofs.DatesTold.{date_steps}
use Rattle.dcm_deid.proofs.EmptiedBytes.{front_holds}
use Rattle.dcm_deid.proofs.PixelsTold.{pixel_steps}
use Rattle.dcm_deid.proofs.Shallow.{deidentified_shallow}
use Rattle.dcm_sinks.proofs.ReadBack.IsRead.{not_closed}
use Rattle.dcm_deid.specs.Unnamed.{names_nobody}
use Rattle.dcm_deid.specs.WithPatient.{is_unnamed, noted, noting}
use Rattle.dcm_deid.proofs.NotedPatient.{unnamed_steps}
use Rattle.dcm_cli.specs.declared.ending.Ending.TheVariants.{Worked}
use Rattle.dcm_cli.specs.Answer.{shows_identity}
use Rattle.dcm_cli.specs.DeidentifyPass.{ends_whole}
use Rattle.dcm_cli.specs.Run.{verdict_of_stop}

pub deidentify_encodes : (target : Syntax) (options : Options) (key : List ℕ) (s : Syntax) (f : Front) → Shown s f
    → outputs encode_step encode_writes (encode_start target) (outputs next passed (begun options key) (front_atoms s f)) ≡ recode target (deidentified options (made_new options key) f)
deidentify_encodes target options key s f r =
    let left : Front = deidentified options (made_new options key) f in
    let atoms : List Atom = outputs next passed (begun options key) (front_atoms s f) in
    let shown : Shows (reached_anew left) atoms = deidentify_steps options key f (front_atoms s f) r.ascends r.shallow r.shows in
    let shallow : StaysShallow 0 atoms =
    front_stays (reached_anew left) 0 atoms shown (omega arith) (anew_shallow 0 left (deidentified_shallow options (made_new options key) f (front_shallow f 0 (front_atoms s f) r.shows r.shallow))) in
    encode_steps target (reached_anew left) atoms shallow shown ∙ recode_anew target left

-- ---- whether pixels may show identity

closed_at_end : (f : Front) → is_closed (ended complete f) ≡ true
closed_at_end (front whole o reached closed) = refl

-- where all was read, nothing is open
pub record IsWhole (f : Front) : Type 0 where
  pub reached : Option Tag
  pub set : Trees
  pub is : f ≡ read_whole reached set

whole_by : (o : OpenTree) (whole : Trees) (reached : Option Tag) (closed : Bool) (atoms : List Atom) → closed ≡ true → Shows (front whole o reached closed) atoms → IsWhole (front whole o reached closed)
unfolding Shows
whole_by o whole reached true atoms e (others, shown, more, may, re) = record { reached = reached; set = whole; is = ap (λ (p : OpenTree). front whole p reached true) may }
whole_by o whole reached false atoms e shown = absurd (let no : false ≡ true = e in cc)

is_whole : (f : Front) (atoms : List Atom) → is_closed f ≡ true → Shows f atoms → IsWhole f
is_whole (front whole o reached closed) atoms e shown = whole_by o whole reached closed atoms e shown

pub read_is_whole : (s : Syntax) (start : ℕ) (bytes : List ℕ) (f : Front) → start ≤ INPUT_LIMIT → Reads identity_bar s start bytes f complete → IsWhole f
read_is_whole s start bytes f le (reached, why, first, said, is) =
    let r = shown_whole identity identity_bar identity_in_order s start bytes f complete le (reached, why, first, said, is) in
    is_whole f (front_atoms s f) (ap is_closed is ∙ closed_at_end reached) r.shows

pub pixels_known : (options : Options) (key : List ℕ) (s : Syntax) (start : ℕ) (bytes : List ℕ) (f : Front) → start ≤ INPUT_LIMIT → Reads identity_bar s start bytes f complete
    → (fold next (begun options key) (front_atoms s f)).place.seen.may_show ≡ shows_identity options key f
pixels_known options key s start bytes f le reads =
    let r = shown_whole identity identity_bar identity_in_order s start bytes f complete le reads in
    let w = read_is_whole s start bytes f le reads in
    let atoms : List Atom = front_atoms s f in
    subst (λ (g : Front). (fold next (begun options key) atoms).place.seen.may_show ≡ shows_identity options key g) (sym w.is)
    (pixel_steps options key w.reached w.set atoms r.shallow (subst (λ (g : Front). Shows g atoms) w.is r.shows))

-- ---- how many dates were emptied

-- whether the data set has ended has no influence
emptied_ended : (stop : Stop) (options : Options) (new : Renaming) (f : Front) → dates_emptied options new (ended stop f) ≡ dates_emptied options new f
unfolding dates_emptied
emptied_ended complete options new (front whole o reached closed) = refl
emptied_ended (refused fault offset) options new f = refl

front_few : (options : Options) (new : Renaming) (s : Syntax) (f : Front) (bytes : List ℕ) → SpellsFront s f bytes → dates_emptied options new f ≤ length bytes
unfolding dates_emptied
front_few options new s f bytes spelled = front_holds (fate_as options) new Outermost s f bytes spelled

-- there is room to count them
few_dates : (options : Options) (new : Renaming) (s : Syntax) (start : ℕ) (bytes : List ℕ) (f : Front) (stop : Stop) → Reads identity_bar s start bytes f stop → dates_emptied options new f ≤ MOST_COUNTED
few_dates options new s start bytes f stop (reached, why, first, said, is) =
    let few = front_few options new s reached first.read first.spelled in
    let size : length (take (INPUT_LIMIT - start) bytes) ≡ length first.read + length first.rest = ap length first.parts ∙ length-append first.read first.rest in
    let most = length-take (INPUT_LIMIT - start) bytes in
    let same : dates_emptied options new f ≡ dates_emptied options new reached = ap (dates_emptied options new) is ∙ emptied_ended stop options new reached in
    omega (arith, few, size, most, same)

pub dates_known : (options : Options) (key : List ℕ) (s : Syntax) (start : ℕ) (bytes : List ℕ) (f : Front) (stop : Stop) → start ≤ INPUT_LIMIT → Reads identity_bar s start bytes f stop
    → (fold next (begun options key) (front_atoms s f)).place.seen.emptied ≡ dates_emptied options (made_new options key) f
dates_known options key s start bytes f stop le reads =
    let r = shown_whole identity identity_bar identity_in_order s start bytes f stop le reads in
    date_steps options key f (front_atoms s f) r.shallow r.shows (few_dates options (made_new options key) s start bytes f stop reads)

pub dates_so_far : (options : Options) (key : List ℕ) (s : Syntax) (start : ℕ) (bytes : List ℕ) (f : Front) (stop : Stop) → start ≤ INPUT_LIMIT → is_closed f ≡ false → Reads identity_bar s start bytes (ended stop f) stop
    → (fold next (begun options key) (front_atoms s f)).place.seen.emptied ≡ dates_emptied options (made_new options key) f
dates_so_far options key s start bytes f stop le open_end reads =
    let r = shown_so_far identity identity_bar identity_in_order s start bytes f stop le open_end reads in
    let same = emptied_ended stop options (made_new options key) f in
    let few = few_dates options (made_new options key) s start bytes (ended stop f) stop reads in
    date_steps options key f (front_atoms s f) r.shallow r.shows (subst (λ (n : ℕ). n ≤ MOST_COUNTED) same few)

-- ---- whether PatientID names nobody

-- the data set is closed where all was read without fault
pub closed_so : (s : Syntax) (start : ℕ) (bytes : List ℕ) (f : Front) (stop : Stop) → Reads identity_bar s start bytes f stop → ends_whole (Worked (verdict_of_stop stop)) ≡ is_closed f
closed_so s start bytes f complete (reached, why, first, said, is) = sym (ap is_closed is ∙ closed_at_end reached)
closed_so s start bytes f (refused fault offset) (reached, why, first, said, is) = sym (ap is_closed is ∙ not_closed s reached first.read first.spelled)

pub unnamed_known : (asked : Bool) (s : Syntax) (start : ℕ) (bytes : List ℕ) (f : Front) (stop : Stop) → start ≤ INPUT_LIMIT → Reads identity_bar s start bytes f stop
    → is_unnamed (fold noted (noting asked) (front_atoms s f)) (is_closed f) ≡ (asked && names_nobody f)
unnamed_known asked s start bytes f stop le reads =
    let r = shown_whole identity identity_bar identity_in_order s start bytes f stop le reads in
    unnamed_steps asked f (front_atoms s f) r.shallow r.shows

pub unnamed_so_far : (asked : Bool) (s : Syntax) (start : ℕ) (bytes : List ℕ) (f : Front) (stop : Stop) → start ≤ INPUT_LIMIT → is_closed f ≡ false → Reads identity_bar s start bytes (ended stop f) stop
    → is_unnamed (fold noted (noting asked) (front_atoms s f)) false ≡ (asked && names_nobody f)
unnamed_so_far asked s start bytes f stop le open_end reads =
    let r = shown_so_far identity identity_bar identity_in_order s start bytes f stop le open_end reads in
    ap (is_unnamed (fold noted (noting asked) (front_atoms s f))) (sym open_end) ∙ unnamed_steps asked f (front_atoms s f) r.shallow r.shows
