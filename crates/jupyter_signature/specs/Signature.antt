-- The signature of a message: wire protocol of the Jupyter messaging page.
use Rattle.std.specs.Prelude.{ℕ, Bool, true, List, [], ◌∷◌, ◌++◌}
use Rattle.std.specs.Str.{bytes_eq}
use Rattle.hex.specs.Hex.{encode_lower}
use Rattle.jupyter_signature.specs.Hmac.{hmac_of}
use Rattle.jupyter_signature.specs.declared.signature.Parts.{Parts}

-- what is signed: header, parent header, metadata and content, one after another
abbrev pub joined : List ℕ → List ℕ → List ℕ → List ℕ → List ℕ
joined header parent metadata content = header ++ parent ++ metadata ++ content

abbrev pub signed_text : Parts → List ℕ
signed_text p = joined p.header.now p.parent.now p.metadata.now p.content.now

-- the signature that is written: lower-case hex, and nothing at all where the key is empty
abbrev pub signature_of : List ℕ → List ℕ → List ℕ
signature_of [] text = []
signature_of (k ∷ ks) text = encode_lower (hmac_of (k ∷ ks) text)

-- the key is empty, or the signature is the one of the text under the key
abbrev pub fits : List ℕ → List ℕ → List ℕ → Bool
fits [] signature text = true
fits (k ∷ ks) signature text = bytes_eq signature (signature_of (k ∷ ks) text)
