-- Pseudonyms and days worked out: HMAC-SHA-256 was computed by openssl.
use Rattle.std.specs.Prelude.{◌≡◌, negsuc, [], ◌∷◌, replicate, codes, refl}
use Rattle.sha2.specs.Sha256.{compress, digest_bytes, first_words, hash_after, rounds, schedule, sha256}
use Rattle.dcm_base.specs.Tables.Transfer.{without_pads}
use Rattle.dcm_uid.specs.Hmac.{hmac_sha256}
use Rattle.dcm_uid.specs.Pseudonym.{days, patient, pseudonym, pseudonym_of}

of_1234 : pseudonym (codes "a key of 16 byte") (codes "  1234 ") ≡ codes "P72efef0a0cecf3a48f95"
unfolding first_words schedule rounds compress hash_after digest_bytes sha256 hmac_sha256 without_pads patient pseudonym_of pseudonym
of_1234 = refl

of_inner_space : pseudonym (codes "a key of 16 byte") (codes "12 34") ≡ codes "Padfa8c9bef4bcb948090"
unfolding first_words schedule rounds compress hash_after digest_bytes sha256 hmac_sha256 without_pads patient pseudonym_of pseudonym
of_inner_space = refl

of_backslash : pseudonym (codes "a key of 16 byte") (codes "A\\B") ≡ codes "P9d4d71c47d7ab93337e0"
unfolding first_words schedule rounds compress hash_after digest_bytes sha256 hmac_sha256 without_pads patient pseudonym_of pseudonym
of_backslash = refl

of_256 : pseudonym (codes "a key of 16 byte") (replicate 256 120) ≡ codes "P092aa8d9446c8ca4ea00"
unfolding first_words schedule rounds compress hash_after digest_bytes sha256 hmac_sha256 without_pads patient pseudonym_of pseudonym
of_256 = refl

of_257 : pseudonym (codes "a key of 16 byte") (replicate 257 120) ≡ []
unfolding without_pads patient pseudonym_of pseudonym
of_257 = refl

of_padding : pseudonym (codes "a key of 16 byte") (32 ∷ 0 ∷ 32 ∷ []) ≡ []
unfolding without_pads patient pseudonym_of pseudonym
of_padding = refl

days_of_1234 : days (codes "a key of 16 byte") (codes "1234") ≡ negsuc 1857
unfolding first_words schedule rounds compress hash_after digest_bytes sha256 hmac_sha256 days
days_of_1234 = refl
