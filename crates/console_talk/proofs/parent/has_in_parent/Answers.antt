use Rattle.std.proofs.Common.{◌∙◌, sym, ap, false}
use Rattle.std.specs.Option.{option_map_or}
use Rattle.std.proofs.lemmas.Bool.{false≢true}
use Rattle.console_talk.specs.Look.{is_word}
use Rattle.console_talk.specs.Parents.{data_of}
use Rattle.console_talk.proofs.DataLemmas.{data_of-read, data_of-unread}
use Rattle.console_talk.proofs.parent.has_in_parent.Goals as goal

pub returns-in-Ok : goal.returns-in-Ok
returns-in-Ok c =
    let read = c.in-Ok.ensures.ok in
    c.is_word.ensures
    ∙ sym (ap (λ o. option_map_or (λ d. is_word c.args.name.now c.args.word.now d) o false)
    (ap data_of (sym c.deref.ensures.value) ∙ data_of-read _ _ read.0 read.1))

pub returns-else-is_memory : goal.returns-else-is_memory
returns-else-is_memory c =
    sym (ap (λ o. option_map_or (λ d. is_word c.args.name.now c.args.word.now d) o false)
    (ap data_of (sym c.deref.ensures.value) ∙ data_of-unread _ (λ u. c.in-Err.ensures.err (λ m. false≢true (c.if-is_memory.ensures.1 m)) u)))
