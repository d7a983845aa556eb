-- The ids of a set, as octets.
use Rattle.std.proofs.Common.{◌≡◌, ℕ, Bool, true, false, ◌||◌, List, [], ◌∷◌, map, refl, ap, String, string_bytes, if◌then◌else◌}
use Rattle.std.specs.declared.alloc.Global.{Global}
use Rattle.std.specs.Ordering.{nat_cmp}
use Rattle.std.specs.Cmp.Lexicographic.{slice_cmp}
use Rattle.std.specs.BTreeMap.{is_at}
use Rattle.std.specs.List.{list_any}
use Rattle.std.specs.Set.{remove_key}
use Rattle.kernel_ask.specs.Comms.{is_same, is_open, without_id}

-- the test of an id at a text
abbrev pub at_text : List ℕ → String Global → Bool
at_text id = is_at (λ k. slice_cmp nat_cmp id (string_bytes k))

pub open_octets : (ks : List (String Global)) (id : List ℕ) → list_any (at_text id) ks ≡ is_open (map string_bytes ks) id
open_octets [] id = refl
open_octets (k ∷ ks) id = ap (λ b. is_same id (string_bytes k) || b) (open_octets ks id)

removed : (b : Bool) (k : String Global) (ks rest : List (String Global)) (rest' : List (List ℕ)) → map string_bytes rest ≡ rest' →
    map string_bytes (if b then ks else k ∷ rest) ≡ (if b then map string_bytes ks else string_bytes k ∷ rest')
removed true k ks rest rest' e = refl
removed false k ks rest rest' e = ap (λ xs. string_bytes k ∷ xs) e

pub removed_octets : (ks : List (String Global)) (id : List ℕ) → map string_bytes (remove_key (at_text id) ks) ≡ without_id (map string_bytes ks) id
removed_octets [] id = refl
removed_octets (k ∷ ks) id = removed (is_same id (string_bytes k)) k ks (remove_key (at_text id) ks) (without_id (map string_bytes ks) id)
    (removed_octets ks id)
