-- The calls that are made of a reader.
use Rattle.std.proofs.Common.{◌≡◌, ◌∙◌, ap, sym, subst, ℕ, ◌≤◌, ◌<◌, List, [], ◌∷◌, ◌++◌, append_assoc, length, take, Bool, true, Option, Some, None, unwrap_or, refl, arith}
use Rattle.std.proofs.lemmas.List.{append-nil, length-take-le}
use Rattle.std.specs.Io.KnownBytes.{prepend_known, IsAtEnd}
use Rattle.dcm_devices.specs.declared.device.Device.{Ghosts as Device}
use Rattle.dcm_devices.specs.declared.device.DeviceIn.{Ghosts as DeviceIn}
use Rattle.dcm_devices.specs.declared.device.DeviceOut.{Ghosts as DeviceOut}
use Rattle.dcm_devices.specs.Device.{Gave, no_calls, and_call}
use Rattle.dcm_base.specs.Steps.Outputs.{Writer}
use Rattle.dcm_cli.specs.InputCalls.{Reader, How, in_part, to_end, with_failure, how_of, Allows, TellsHow, InputCalls, no_call, last_call, ReadsInput}
use Rattle.dcm_cli.proofs.Passes.Passes.{read_nothing, read_twice}

-- the members of a reader, as a contract names them
abbrev pub members : {R : Type 0} → Device R → DeviceIn R → Reader R
members device input = record { has_failed = device.has_failed; remaining = input.remaining; gets = input.gets }

-- and of a writer
abbrev pub writer : {W : Type 0} → Device W → DeviceOut W → Writer W
writer device out = record { has_failed = device.has_failed; contents = out.contents; room = out.room; is_flushed = out.is_flushed }

-- ---- how an input was read

-- nothing follows its end
pub nothing_follows : (how : How) (rest : List ℕ) → Allows how rest → how ≡ to_end → rest ≡ []
nothing_follows in_part rest ok is = absurd (let no : in_part ≡ to_end = is in cc)
nothing_follows to_end rest ok is = ok
nothing_follows with_failure rest ok is = absurd (let no : with_failure ≡ to_end = is in cc)

-- nothing may follow in each case
pub allows_nothing : (how : How) → Allows how []
allows_nothing in_part = tt
allows_nothing to_end = refl
allows_nothing with_failure = tt

pub allows_any : (how : How) → how ≡ in_part → (rest : List ℕ) → Allows how rest
allows_any how is rest = subst (λ (h : How). Allows h rest) (sym is) tt

-- a call that gave a byte
pub how_given : (piece : List ℕ) → 0 < length piece → in_part ≡ how_of (Some piece)
how_given [] some = absurd (omega (arith, some))
how_given (b ∷ bs) some = refl

-- bytes that end a list
pub ends_empty : (xs ys : List ℕ) → xs ++ ys ≡ [] → ys ≡ []
ends_empty [] ys e = e
ends_empty (x ∷ xs) ys e = cc

-- ---- the last call

-- one more call, which gave so many bytes of the buffer
pub gave_on : {R : Type 0} (gets : R → Option (List ℕ) → R → Type 0) (old mid new : R) (front buffer : List ℕ) (n : ℕ) → Gave gets old front mid → 0 < n → n ≤ length buffer → gets mid (Some (take n buffer)) new
    → Gave gets old (front ++ take n buffer) new
gave_on gets old mid new front buffer n calls some le call = and_call front (take n buffer) mid calls call (let size = length-take-le n buffer le in omega (arith, size, some)) refl

module _ {R : Type 0} (r : Reader R) (Needed : List ℕ → Type 0) (old mid new : R) (front : List ℕ) (calls : Gave r.gets old front mid) (given : r.remaining old ≡ prepend_known front (r.remaining mid))
    (unread : r.has_failed mid ≡ r.has_failed old) (needed : Needed front) where
  -- it gave so many bytes of the buffer
  pub piece_read : (buffer : List ℕ) (n : ℕ) → (0 < n) × (n ≤ length buffer) × (r.remaining mid ≡ prepend_known (take n buffer) (r.remaining new)) → r.gets mid (Some (take n buffer)) new → r.has_failed new ≡ r.has_failed mid
      → ReadsInput r Needed old (front ++ take n buffer) in_part new
  piece_read buffer n came call failed =
      let size = length-take-le n buffer came.1 in
      let some = came.0 in
      record {
        calls = last_call front mid (Some (take n buffer)) calls needed call refl (how_given (take n buffer) (omega (arith, size, some)));
        left = read_twice _ _ _ front (take n buffer) given came.2;
        end = λ is. absurd (let no : in_part ≡ to_end = is in cc);
        failed = failed ∙ unread;
      }

  -- it gave none, at the end
  pub end_read : IsAtEnd (r.remaining new) × (r.remaining new ≡ r.remaining mid) → r.gets mid (Some []) new → r.has_failed new ≡ r.has_failed mid → ReadsInput r Needed old front to_end new
  end_read over call failed = record {
    calls = last_call front mid (Some []) calls needed call (sym (append-nil front)) refl;
    left = given ∙ ap (prepend_known front) (sym over.1);
    end = λ is. over.0;
    failed = failed ∙ unread;
  }

  -- it failed
  pub failed_read : r.remaining new ≡ r.remaining mid → r.gets mid None new → r.has_failed new ≡ true → ReadsInput r Needed old front with_failure new
  failed_read same call failed = record {
    calls = last_call front mid None calls needed call (sym (append-nil front)) refl;
    left = given ∙ ap (prepend_known front) (sym same);
    end = λ is. absurd (let no : with_failure ≡ to_end = is in cc);
    failed = failed;
  }

-- no call was made
pub nothing_read : {R : Type 0} (r : Reader R) (Needed : List ℕ → Type 0) (old : R) → ReadsInput r Needed old [] in_part old
nothing_read r Needed old = record {
  calls = no_call refl refl refl;
  left = read_nothing (r.remaining old);
  end = λ is. absurd (let no : in_part ≡ to_end = is in cc);
  failed = refl;
}

-- calls that were needed for another reason
pub for_another : {R : Type 0} (r : Reader R) (U V : List ℕ → Type 0) (old new : R) (given : List ℕ) (how : How) → ((bytes : List ℕ) → U bytes → V bytes) → ReadsInput r U old given how new → ReadsInput r V old given how new
for_another r U V old new given how from h = record { calls = by_calls h.calls; left = h.left; end = h.end; failed = h.failed }
  where
    by_calls : InputCalls r.gets U old given how new → InputCalls r.gets V old given how new
    by_calls (no_call none is same) = no_call none is same
    by_calls (last_call before mid call calls needed gets all is) = last_call before mid call calls (from before needed) gets all is

-- ---- calls, and then others

pub gave_append : {R : Type 0} (gets : R → Option (List ℕ) → R → Type 0) (old mid new : R) (xs ys : List ℕ) → Gave gets old xs mid → Gave gets mid ys new → Gave gets old (xs ++ ys) new
gave_append gets old mid new xs ys first (no_calls none same) =
    subst (λ (bs : List ℕ). Gave gets old bs new) (sym (ap (λ (zs : List ℕ). xs ++ zs) none ∙ append-nil xs)) (subst (λ r. Gave gets old xs r) (sym same) first)
gave_append gets old mid new xs ys first (and_call before piece last calls call some is) =
    and_call (xs ++ before) piece last (gave_append gets old mid last xs before first calls) call some (ap (λ (zs : List ℕ). xs ++ zs) is ∙ sym (append_assoc xs before piece))

-- what both gave, and what may follow each of them
pub record Joined {R : Type 0} (r : Reader R) (Needed : List ℕ → Type 0) (old new : R) (read more : List ℕ) (first second : How) : Type 0 where
  pub how : How
  pub reads : ReadsInput r Needed old (read ++ more) how new
  pub allows : (rest : List ℕ) → Allows how rest → Allows first (more ++ rest) × Allows second rest

-- where others were made, the earlier ones all gave bytes
pub joined : {R : Type 0} (r : Reader R) (U V W : List ℕ → Type 0) (old mid new : R) (read more : List ℕ) (first second : How) → ReadsInput r U old read first mid → ReadsInput r V mid more second new
    → ((bytes : List ℕ) → U bytes → W bytes) → ((bytes : List ℕ) → first ≡ in_part → V bytes → W (read ++ bytes)) → ((bytes : List ℕ) → V bytes → Gave r.gets old read mid × (first ≡ in_part))
    → Joined r W old new read more first second
joined {R} r U V W old mid new read more first second a b from_first from_second gave = by_calls b.calls
  where
    all_left : r.remaining old ≡ prepend_known (read ++ more) (r.remaining new)
    all_left = read_twice _ _ _ read more a.left b.left

    by_calls : InputCalls r.gets V mid more second new → Joined r W old new read more first second
    by_calls (no_call none is same) =
        let alone = for_another r U W old mid read first from_first a in
        let whole : read ≡ read ++ more = sym (ap (λ (bs : List ℕ). read ++ bs) none ∙ append-nil read) in
        record {
          how = first;
          reads = subst (λ (bytes : List ℕ). ReadsInput r W old bytes first new) whole (subst (λ (x : R). ReadsInput r W old read first x) (sym same) alone);
          allows = λ rest ok. (subst (λ (bs : List ℕ). Allows first (bs ++ rest)) (sym none) ok, subst (λ (h : How). Allows h rest) (sym is) tt);
        }
    by_calls (last_call before last call calls needed gets all is) =
        let g = gave before needed in
        let fine : r.has_failed mid ≡ r.has_failed old = subst (λ (h : How). TellsHow (r.has_failed old) (r.has_failed mid) h) g.1 a.failed in
        record {
          how = second;
          reads = record {
            calls = last_call (read ++ before) last call (gave_append r.gets old mid last read before g.0 calls) (from_second before g.1 needed) gets
                (ap (λ (bs : List ℕ). read ++ bs) all ∙ sym (append_assoc read before (unwrap_or call []))) is;
            left = all_left;
            end = b.end;
            failed = subst (λ (f : Bool). TellsHow f (r.has_failed new) second) fine b.failed;
          };
          allows = λ rest ok. (allows_any first g.1 (more ++ rest), ok);
        }

-- ---- a reader that tells what it has still to give

-- what it gave, and what is left
pub known : {R : Type 0} (r : Reader R) (Needed : List ℕ → Type 0) (old new : R) (given : List ℕ) (how : How) → ReadsInput r Needed old given how new → (file : List ℕ) → r.remaining old ≡ Some file
    → (rest : List ℕ) × Allows how rest × (file ≡ given ++ rest)
known r Needed old new given how h file some = by_left (r.remaining new) how h.left h.end
  where
    by_left : (left : Option (List ℕ)) (x : How) → r.remaining old ≡ prepend_known given left → (x ≡ to_end → IsAtEnd left) → (rest : List ℕ) × Allows x rest × (file ≡ given ++ rest)
    by_left None x is end = absurd (let no : Some file ≡ None = sym some ∙ is in cc)
    by_left (Some rest) in_part is end = (rest, tt, let e : Some file ≡ Some (given ++ rest) = sym some ∙ is in cc)
    by_left (Some rest) to_end is end = (rest, end refl, let e : Some file ≡ Some (given ++ rest) = sym some ∙ is in cc)
    by_left (Some rest) with_failure is end = (rest, tt, let e : Some file ≡ Some (given ++ rest) = sym some ∙ is in cc)
