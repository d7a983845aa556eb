use Rattle.std.proofs.Common.{Some, [], ◌∷◌, ◌∙◌, sym, ap}
use Rattle.std.proofs.lemmas.Bool.{false≢true}
use Rattle.std.proofs.lemmas.Slice.Eq.{bytes_eq-Decides}
use Rattle.serde_json.specs.Data.{object}
use Rattle.serde_json.specs.View.{members_view}
use Rattle.serde_json.proofs.Views.{view-Object}
use Rattle.jupyter_msg.specs.Object.{object_of}
use Rattle.jupyter_msg.proofs.ObjectLemmas.{object_of-empty, object_of-read, object_of-unread, only_object-object, only_object-other}
use Rattle.jupyter_msg.proofs.object.object_of.Goals as goal

pub returns-then-is_object-clause-object : goal.returns-then-is_object-clause-object
returns-then-is_object-clause-object c =
    let read = c.in-Ok.ensures.ok in
    sym (object_of-read _ _ read.0 read.1 ∙ only_object-object _ (sym c.is_object.ensures ∙ c.if-is_object.true))

pub returns-else-is_object-clause-object : goal.returns-else-is_object-clause-object
returns-else-is_object-clause-object c =
    let read = c.in-Ok.ensures.ok in
    sym (object_of-read _ _ read.0 read.1 ∙ only_object-other _ (sym c.is_object.ensures ∙ c.if-is_object.false))

pub returns-else-is_memory-clause-object : goal.returns-else-is_memory-clause-object
returns-else-is_memory-clause-object c =
    sym (object_of-unread _ (λ u. c.in-Err.ensures.err (λ m. false≢true (c.if-is_memory.ensures.1 m)) u))

pub returns-then-eq-clause-object : goal.returns-then-eq-clause-object
returns-then-eq-clause-object c =
    let same = (bytes_eq-Decides c.args.octets.now (123 ∷ 125 ∷ [])).0 (sym c.eq.ensures ∙ c.if-eq.true) in
    ap Some (view-Object c.new.result) ∙ ap (λ ms. Some (object (members_view ms))) c.new.ensures.empty ∙ sym (ap object_of same ∙ object_of-empty)
