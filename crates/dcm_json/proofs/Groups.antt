-- Groups of three bytes in base64.
use Rattle.std.proofs.Common.{◌≡◌, ◌∙◌, sym, ap, ap₂, ℕ, ◌*◌, ◌/◌, ◌%◌, ◌≤◌, List, [], ◌∷◌, ◌++◌, length, take, drop, arith, append_assoc, append-nil}
use Rattle.std.specs.Prelude.{fold, min}
use Rattle.std.specs.List.{concat}
use Rattle.std.proofs.Math.Nat.{div-mul-le_self}
use Rattle.dcm_base.specs.Steps.Steps.{outputs}
use Rattle.dcm_json.specs.Base64State.{fed, feeds, finishes}
use Rattle.std.proofs.lemmas.List.{take-append-drop, length-take-le}
use Rattle.base64.specs.Engines.{standard}
use Rattle.base64.specs.GeneralPurpose.{encode_of}
use Rattle.base64.proofs.EngineFacts.{encode_of-append}

-- a block of them, and what is behind
pub next_block : (rest block after : List ℕ) (n : ℕ) → n ≡ min (length rest) 768 → length rest % 3 ≡ 0 → block ≡ take n rest → after ≡ drop n rest
    → encode_of standard rest ≡ encode_of standard block ++ encode_of standard after
next_block rest block after n e whole f a =
    let all : block ++ after ≡ rest = ap₂ (λ (x y : List ℕ). x ++ y) f a ∙ take-append-drop n rest in
    let within : n ≤ length rest = omega (arith, e) in
    let size : length block ≡ n = ap length f ∙ length-take-le n rest within in
    ap (encode_of standard) (sym all) ∙ encode_of-append standard block after (omega (arith, size, e, whole))

-- ---- all pieces

group_more : (h p v : List ℕ) → feeds h p ++ encode_of standard (fed h p ++ v) ≡ encode_of standard (h ++ (p ++ v))
group_more h p v =
    let a : List ℕ = h ++ p in
    let n : ℕ = length a / 3 * 3 in
    let fits : n ≤ length a = div-mul-le_self (length a) 3 in
    let size : length (take n a) ≡ n = length-take-le n a fits in
    let whole : length (take n a) % 3 ≡ 0 = omega (arith, size) in
    sym (encode_of-append standard (take n a) (drop n a ++ v) whole)
    ∙ ap (encode_of standard) (sym (append_assoc (take n a) (drop n a) v) ∙ ap (λ (x : List ℕ). x ++ v) (take-append-drop n a) ∙ append_assoc h p v)

pub groups_whole : (h : List ℕ) (pieces : List (List ℕ)) → outputs fed feeds h pieces ++ finishes (fold fed h pieces) ≡ encode_of standard (h ++ concat pieces)
groups_whole h [] = ap (encode_of standard) (sym (append-nil h))
groups_whole h (p ∷ pieces) =
    append_assoc (feeds h p) (outputs fed feeds (fed h p) pieces) (finishes (fold fed (fed h p) pieces))
    ∙ ap (λ (x : List ℕ). feeds h p ++ x) (groups_whole (fed h p) pieces)
    ∙ group_more h p (concat pieces)
