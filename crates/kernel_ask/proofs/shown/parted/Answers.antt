use Rattle.std.proofs.Common.{◌≡◌, ℕ, ◌+◌, List, [], ◌∷◌, ◌++◌, take, map, sym, ap, ◌∙◌, string_bytes}
use Rattle.std.specs.List.{join_with_byte}
use Rattle.std.proofs.lemmas.List.{map_more}
use Rattle.kernel_ask.proofs.Joined.{join_more}
use Rattle.kernel_ask.proofs.shown.parted.Goals as goal

pub loop-next-preserved : goal.loop-next-preserved
loop-next-preserved c =
    let first = c.args.first.now in
    let i = c.loop-next.next-index in
    let item = c.next-item.result in
    let before : List (List ℕ) = map string_bytes (take i c.args.rest.now) in
    let next : before ++ string_bytes item ∷ [] ≡ map string_bytes (take (i + 1) c.args.rest.now) =
    ap (λ t. before ++ string_bytes t ∷ []) c.next-item.is ∙ sym (map_more string_bytes c.args.rest.now i item c.loop-next-test.true) in
    c.in_ok-push_str-2.ensures.bytes
    ∙ ap (λ text. text ++ c.as_str.result.now) c.in_ok-push_str.ensures.bytes
    ∙ ap (λ text. (string_bytes c.loop-next.text ++ 10 ∷ []) ++ text) c.as_str.ensures.value
    ∙ ap (λ text. (text ++ 10 ∷ []) ++ string_bytes item) c.loop-next.invariant
    ∙ sym (join_more first before (string_bytes item))
    ∙ ap (λ ts. join_with_byte 10 (first ∷ ts)) next
