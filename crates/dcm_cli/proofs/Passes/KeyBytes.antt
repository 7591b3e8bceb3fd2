-- The reading of a key, call by call.
use Rattle.std.proofs.Common.{◌≡◌, ◌≢◌, ◌∙◌, ap, sym, subst, refl, ◌+◌, ◌<◌, ◌≤◌, ℕ, List, [], ◌++◌, length, length-append, take, true, Option, Some, None, Result, Ok, Err, inl, inr, arith}
use Rattle.std.proofs.lemmas.List.{length-take-le}
use Rattle.std.specs.Io.KnownBytes.{prepend_known, IsAtEnd}
use Rattle.arrayvec.specs.ArrayVec.{ArrayVec}
use Rattle.dcm_devices.specs.Device.{Gave, no_calls}
use Rattle.dcm_cli.specs.declared.key.NoKey.{NoKey}
use Rattle.dcm_cli.specs.declared.key.NoKey.TheVariants.{Unread, Size}
use Rattle.dcm_cli.specs.InputCalls.{Reader, in_part, to_end, with_failure}
use Rattle.dcm_cli.specs.Keys.{ReadsKey}
use Rattle.dcm_cli.proofs.Passes.Passes.{read_nothing, read_twice}
use Rattle.dcm_cli.proofs.Passes.Readers.{gave_on, piece_read, end_read, failed_read}

module _ {R : Type 0} (r : Reader R) (old : R) where
  -- these bytes came so far, each call giving some
  pub record KeySoFar (key : List ℕ) (mid : R) : Type 0 where
    pub calls : Gave r.gets old key mid
    pub given : r.remaining old ≡ prepend_known key (r.remaining mid)
    pub unread : r.has_failed mid ≡ r.has_failed old
    pub few : length key ≤ 4096

  pub key_begun : KeySoFar [] old
  key_begun = record { calls = no_calls refl refl; given = read_nothing (r.remaining old); unread = refl; few = omega arith }

  module _ (key : List ℕ) (mid new : R) (so_far : KeySoFar key mid) where
    -- reading failed
    pub key_failed : r.remaining new ≡ r.remaining mid → r.gets mid None new → r.has_failed new ≡ true → ReadsKey r old new (Err Unread)
    key_failed same call failed = record {
      given = key;
      how = with_failure;
      reads = failed_read r (λ p. length p ≤ 4096) old mid new key so_far.calls so_far.given so_far.unread so_far.few same call failed;
      key_is = refl;
    }

    module _ (buffer : List ℕ) (size : ℕ) (within : size ≤ length buffer) (bytes : r.remaining mid ≡ prepend_known (take size buffer) (r.remaining new)) (call : r.gets mid (Some (take size buffer)) new) (failed : r.has_failed new ≡ r.has_failed mid) where
      more : size ≢ 0 → 0 < size
      more some = omega (arith, some)

      -- a piece came, and there is room for it
      pub key_goes_on : size ≢ 0 → length key + size ≤ 4096 → KeySoFar (key ++ take size buffer) new
      key_goes_on some room = record {
        calls = gave_on r.gets old mid new key buffer size so_far.calls (more some) within call;
        given = read_twice _ _ _ key (take size buffer) so_far.given bytes;
        unread = failed ∙ so_far.unread;
        few = let whole = length-append key (take size buffer) in let long = length-take-le size buffer within in omega (arith, whole, long, room);
      }

      -- and there is none
      pub key_too_long : size ≢ 0 → 4096 < length key + size → ReadsKey r old new (Err Size)
      key_too_long some full = record {
        given = key ++ take size buffer;
        how = in_part;
        reads = piece_read r (λ p. length p ≤ 4096) old mid new key so_far.calls so_far.given so_far.unread so_far.few buffer size (more some, within, bytes) call failed;
        key_is = inr (refl, let whole = length-append key (take size buffer) in let long = length-take-le size buffer within in omega (arith, whole, long, full));
      }

      -- none came, at the end
      module _ (none : size ≡ 0) (end : IsAtEnd (r.remaining new)) where
        empty : take size buffer ≡ []
        empty = ap (λ (n : ℕ). take n buffer) none

        same : r.remaining new ≡ r.remaining mid
        same = read_nothing (r.remaining new) ∙ sym (bytes ∙ ap (λ (bs : List ℕ). prepend_known bs (r.remaining new)) empty)

        nothing : r.gets mid (Some []) new
        nothing = subst (λ (bs : List ℕ). r.gets mid (Some bs) new) empty call

        pub key_too_short : length key < 16 → ReadsKey r old new (Err Size)
        key_too_short short = record {
          given = key;
          how = to_end;
          reads = end_read r (λ p. length p ≤ 4096) old mid new key so_far.calls so_far.given so_far.unread so_far.few (end, same) nothing failed;
          key_is = inl (refl, short);
        }

        pub key_whole : (k : ArrayVec ℕ) → k.items ≡ key → 16 ≤ length key → ReadsKey r old new (Ok k)
        key_whole k is long = record {
          given = key;
          how = to_end;
          reads = end_read r (λ p. length p ≤ 4096) old mid new key so_far.calls so_far.given so_far.unread so_far.few (end, same) nothing failed;
          key_is = (refl, is, long, so_far.few);
        }

-- the same of the same reader
pub read_over : {R : Type 0} (r : Reader R) (i j left : R) (a b : Result (ArrayVec ℕ) NoKey) → i ≡ j → a ≡ b → ReadsKey r i left a → ReadsKey r j left b
read_over r i j left a b same is reads = subst (λ x. ReadsKey r x left b) same (subst (λ (x : Result (ArrayVec ℕ) NoKey). ReadsKey r i left x) is reads)

-- what is not at most so much is more
pub is_more : (n most : ℕ) → (n ≤ most → ⊥) → most < n
is_more n most above = omega (arith, above)
