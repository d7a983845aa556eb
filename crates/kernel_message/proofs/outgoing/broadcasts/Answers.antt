use Rattle.std.proofs.Common.{◌≡◌, ◌+◌, [], ◌∷◌, ◌++◌, take, length, map, sym, ap, ◌∙◌, arith}
use Rattle.std.proofs.lemmas.Grind.{common_steps}
use Rattle.std.proofs.lemmas.List.{take_more, map-append, length-map}
use Rattle.kernel_message.specs.Draft.{said_of}
use Rattle.kernel_message.specs.Message.{broadcast_message}
use Rattle.kernel_message.specs.Sent.{numbered}
use Rattle.kernel_message.proofs.Numbers.{numbered_more}
use Rattle.kernel_message.proofs.outgoing.broadcasts.Goals as goal

pub loop-draft-preserved : goal.loop-draft-preserved
loop-draft-preserved c =
    let drafts = c.args.drafts.now in
    let i = c.loop-draft.draft-index in
    let item = c.draft-item.result in
    let parent = c.args.parent.now in
    let stamp = c.args.stamp.now in
    let old = c.loop-draft.messages.items in
    let step : take (i + 1) drafts ≡ take i drafts ++ item ∷ [] = take_more drafts i item c.loop-draft-test.true
    ∙ ap (λ x. take i drafts ++ x ∷ []) (sym c.draft-item.is) in
    let before = map said_of (take i drafts) in
    let taken : length (take i drafts) ≡ i = grind (arith, common_steps) in
    let count = length-map (take i drafts) said_of in
    let at : c.loop-draft.n ≡ c.args.first + length before = omega arith in
    record {
      number = omega arith;
      written =
          c.in_ok-push.ensures.items
          ∙ ap (λ b. old ++ b ∷ []) c.in_ok-numbered_broadcast.ensures
          ∙ ap (λ ms. ms ++ broadcast_message parent stamp c.loop-draft.n (said_of item) ∷ []) c.loop-draft.invariant.written
          ∙ sym (numbered_more parent stamp c.args.first c.loop-draft.n before (said_of item) at)
          ∙ ap (numbered parent stamp c.args.first) (sym (map-append said_of (take i drafts) (item ∷ [])))
          ∙ ap (λ xs. numbered parent stamp c.args.first (map said_of xs)) (sym step);
    }
