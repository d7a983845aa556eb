-- What one more element adds.
use Rattle.std.proofs.Common.{◌≡◌, List, [], ◌∷◌, ◌++◌, map, refl, String, string_bytes}
use Rattle.std.specs.declared.alloc.Global.{Global}
use Rattle.serde_json.specs.Data.{Members, put}
use Rattle.kernel_ask.specs.declared.done.NamedValue.{NamedValue}
use Rattle.kernel_reply.specs.Execution.{with_values, value_shown}
use Rattle.kernel_reply.specs.Comms.{with_comms, comm_shown}

pub with_values_more : (ms : Members) (vs : List NamedValue) (v : NamedValue) → with_values ms (vs ++ v ∷ []) ≡ put (string_bytes v.name) (value_shown v.value)
    (with_values ms vs)
with_values_more ms [] v = refl
with_values_more ms (w ∷ ws) v = with_values_more (put (string_bytes w.name) (value_shown w.value) ms) ws v

pub with_comms_more : (ms : Members) (ids : List (String Global)) (id : String Global) →
    with_comms ms (map string_bytes (ids ++ id ∷ [])) ≡ put (string_bytes id) comm_shown (with_comms ms (map string_bytes ids))
with_comms_more ms [] id = refl
with_comms_more ms (x ∷ xs) id = with_comms_more (put (string_bytes x) comm_shown ms) xs id
