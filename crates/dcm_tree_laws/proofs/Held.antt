-- What an input gave is a front of what it had still to give.
use Rattle.std.proofs.Common.{◌≡◌, ◌∙◌, refl, sym, ap, subst, ℕ, List, [], ◌∷◌, ◌++◌, Option, Some, None, append_assoc}
use Rattle.std.specs.Prelude.{unwrap_or}
use Rattle.std.proofs.lemmas.List.{append-nil}
use Rattle.dcm_devices.specs.Device.{Gave, no_calls, and_call}
use Rattle.dcm_devices.specs.Writing.{Writer}
use Rattle.dcm_cli.specs.Calls.{Reader}
use Rattle.dcm_cli.specs.InputCalls.{How, in_part, to_end, with_failure, how_of, Allows, InputCalls, no_call, last_call, ReadsInput}
use Rattle.dcm_tree_laws.specs.FileSystem.{Host}
use Rattle.dcm_tree_laws.specs.Single.{as_held, TellsAll}

-- an input gives what it has still to give, and ends with it; and an output tells all that it took
pub record GivesAll {I O : Type 0} (h : Host I O) (reader : Reader I) (output : Writer O) : Type 0 where
  pub gives : (before after : I) (piece : List ℕ) → reader.gets before (Some piece) after → h.holds before ≡ piece ++ h.holds after
  pub ends : (before after : I) → reader.gets before (Some []) after → h.holds after ≡ []
  pub tells : TellsAll h output

pub held_gives : {I O : Type 0} (h : Host I O) (r : Reader I) (w : Writer O) → TellsAll h w → GivesAll h (as_held h r) w
held_gives h r w tells = record {
  gives = λ before after piece call. call.1.0;
  ends = λ before after call. call.1.1 refl;
  tells = tells;
}

-- after calls that each gave some bytes
gave_front : {I O : Type 0} (h : Host I O) (r : Reader I) (w : Writer O) → GivesAll h r w → (old : I) (bytes : List ℕ) (new : I) → Gave r.gets old bytes new → h.holds old ≡ bytes ++ h.holds new
gave_front h r w all old bytes new (no_calls b n) = sym (ap (λ (front : List ℕ). front ++ h.holds new) b ∙ ap h.holds n)
gave_front h r w all old bytes new (and_call before piece mid more call some is) =
    gave_front h r w all old before mid more ∙ ap (λ (rest : List ℕ). before ++ rest) (all.gives mid new piece call) ∙ sym (append_assoc before piece (h.holds new)) ∙ ap (λ (front : List ℕ). front ++ h.holds new) (sym is)

-- what is left of an input that was read so
pub record Left {I O : Type 0} (h : Host I O) (before : I) (given : List ℕ) (how : How) : Type 0 where
  pub rest : List ℕ
  pub whole : h.holds before ≡ given ++ rest
  pub allowed : Allows how rest

then_left : {I O : Type 0} (h : Host I O) (before : I) (front given rest : List ℕ) (how other : How) → given ≡ front → how ≡ other → h.holds before ≡ front ++ rest → Allows other rest → Left h before given how
then_left h before front given rest how other g is whole allowed = record {
  rest = rest;
  whole = whole ∙ ap (λ (x : List ℕ). x ++ rest) (sym g);
  allowed = subst (λ (x : How). Allows x rest) (sym is) allowed;
}

by_last : {I O : Type 0} (h : Host I O) (r : Reader I) (w : Writer O) → GivesAll h r w → (before mid after : I) (front given : List ℕ) (how : How) (call : Option (List ℕ)) → h.holds before ≡ front ++ h.holds mid → r.gets mid call after
    → given ≡ front ++ unwrap_or call [] → how ≡ how_of call → Left h before given how
by_last h r w all before mid after front given how None whole gets g is = then_left h before front given (h.holds mid) how with_failure (g ∙ append-nil front) is whole tt
by_last h r w all before mid after front given how (Some []) whole gets g is =
    then_left h before front given (h.holds mid) how to_end (g ∙ append-nil front) is whole (all.gives mid after [] gets ∙ all.ends mid after gets)
by_last h r w all before mid after front given how (Some (b ∷ bs)) whole gets g is =
    then_left h before (front ++ (b ∷ bs)) given (h.holds after) how in_part g is
    (whole ∙ ap (λ (rest : List ℕ). front ++ rest) (all.gives mid after (b ∷ bs) gets) ∙ sym (append_assoc front (b ∷ bs) (h.holds after))) tt

by_calls : {I O : Type 0} (h : Host I O) (r : Reader I) (w : Writer O) → GivesAll h r w → (Needed : List ℕ → Type 0) (before after : I) (given : List ℕ) (how : How) → InputCalls r.gets Needed before given how after → Left h before given how
by_calls h r w all Needed before after given how (no_call g is same) = then_left h before [] given (h.holds before) how in_part g is refl tt
by_calls h r w all Needed before after given how (last_call front mid call gave needed gets g is) =
    by_last h r w all before mid after front given how call (gave_front h r w all before front mid gave) gets g is

pub reads_left : {I O : Type 0} (h : Host I O) (r : Reader I) (w : Writer O) → GivesAll h r w → (Needed : List ℕ → Type 0) (before after : I) (given : List ℕ) (how : How) → ReadsInput r Needed before given how after → Left h before given how
reads_left h r w all Needed before after given how reads = by_calls h r w all Needed before after given how reads.calls
