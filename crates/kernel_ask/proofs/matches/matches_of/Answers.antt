use Rattle.std.proofs.Common.{◌≡◌, ℕ, List, map, ap, ◌∙◌, Result, Ok, Err, String, Vec, string_bytes, IfOk}
use Rattle.janus_meaning.specs.World.{World}
use Rattle.kernel_text.specs.Defined.{in_a_row}
use Rattle.std.specs.declared.alloc.Global.{Global}
use Rattle.std.specs.declared.alloc.AllocError.{AllocError}
use Rattle.std.specs.List.Sorted.{IsStrictlySortedBy}
use Rattle.std.specs.String.{string_cmp}
use Rattle.janus_syntax.specs.Spelling.{keyword_text}
use Rattle.janus_syntax.specs.declared.token.TheConstants.{KEYWORDS}
use Rattle.kernel_ask.specs.Added.{with_matches}
use Rattle.kernel_text.specs.Procedures.{procedure_names}
use Rattle.kernel_ask.specs.Matches.{names_of, AreMatches}
use Rattle.kernel_text.proofs.NameSets.{ordered_octets}
use Rattle.kernel_ask.proofs.Known.{are_matches, all_matches}
use Rattle.kernel_ask.proofs.matches.matches_of.Goals as goal

listed :
    (r : Result (Vec (String Global) Global) AllocError) (ks : List (String Global)) (w : World) (prefix : List ℕ) →
    IfOk r (λ v. v.items ≡ ks) → IfOk r (λ v. IsStrictlySortedBy string_cmp v.items) → map string_bytes ks ≡ all_matches w prefix →
    IfOk r (λ v. AreMatches w prefix (map string_bytes v.items))
listed (Ok v) ks w prefix same sorted all = are_matches w prefix (map string_bytes v.items) (ordered_octets v.items sorted) (ap (map string_bytes) same ∙ all)
listed (Err e) ks w prefix same sorted all = tt

pub returns : goal.returns
returns g c =
    let prefix = c.args.prefix.now in
    let keywords = map keyword_text KEYWORDS in
    let w : World = record { store = c.args.world.now.store; procedures = in_a_row c.args.procedures.now } in
    let all : map string_bytes c.add_keywords.new.names.keys ≡ all_matches w prefix =
    c.in_ok-add_keywords.ensures
    ∙ ap (λ ks. with_matches prefix ks keywords)
    (c.in_ok-add_procedures.ensures ∙ ap (λ ks. with_matches prefix ks (procedure_names w.procedures)) (c.in_ok-add_declared.ensures
    ∙ ap (λ ks. with_matches prefix (map string_bytes ks) (names_of w.store)) c.new-names.ensures.empty)) in
    listed c.in_order.result c.add_keywords.new.names.keys w prefix c.in_order.ensures.items c.in_order.ensures.ordered all
