use Rattle.std.proofs.Common.{◌≡◌, ◌∙◌, ap, ap₂, map, rules, Some}
use Rattle.std.specs.Ordering.{nat_cmp, ord_max}
use Rattle.std.specs.Int.{saturate_unsigned, w64}
use Rattle.std.specs.Str.Parse.{ExplainsUnsignedError, HasUnsignedDigitsIfOk, ParsesUnsigned}
use Rattle.std.proofs.lemmas.Result.{err_from_is_err_and}
use Rattle.clap.specs.Values.{unsigned_up_to}
use Rattle.clap.specs.Simple.{app_of_fields, on_top}
use Rattle.clap.specs.Words.{app_of, rule_of, with_rule}
use Rattle.clap.specs.declared.builder.value_parser.ValueParser.TheVariants as vp
use Rattle.cells_program.proofs.CommandReads.{IsGiven, given_number, never_none, never_served, refused_help, refused_memory, steps_given}
use Rattle.cells_program.proofs.CommandWords.{program, steps_rule, versioned}
use Rattle.cells_program.proofs.words.steps_of.Goals as goal

pub returns-in_err-matches-clause-err : goal.returns-in_err-matches-clause-err
returns-in_err-matches-clause-err g c =
    let made : c.range.result ≡ vp.Unsigned 1 1000000000000 =
    rw c.value_parser.ensures at c.range.ensures
    ∙ ap₂ (λ low high. unsigned_up_to (ord_max nat_cmp 0 (saturate_unsigned w64 low)) 18446744073709551615 (Some high))
    c.new-2.ensures.start c.new-2.ensures.end in
    let parser : c.value_parser-2.result.value_parser ≡ Some (vp.Unsigned 1 1000000000000) = c.value_parser-2.ensures.given.1
    ∙ ap (λ q. Some q) (c.value_parser-2.ensures.given.2 ∙ made) in
    let rule : rule_of c.help-steps.result ≡ steps_rule = search rules in
    let program_is : app_of c.in_ok-command.command ≡ program = c.in_ok-command.ensures.shape (search rules)
    ∙ ap₂ with_rule (ap app_of_fields c.after_help.ensures ∙ ap app_of_fields c.about.ensures ∙ ap app_of_fields c.version.ensures
    ∙ ap (on_top versioned) c.new-3.ensures.app) rule in
    let p = err_from_is_err_and c.from_residual-in_err-matches.result c.from_residual-in_err-matches.ensures.1 in
    rw (p.1, p.2)
    (refused_memory (app_of c.in_ok-command.command) (map g.S.AsStr.text c.args.words.now) c.in_err-matches.field-0.0 program_is
    c.in_err-matches.ensures.kinds)

pub returns-in_err-matches-clause-help : goal.returns-in_err-matches-clause-help
returns-in_err-matches-clause-help g c =
    let made : c.range.result ≡ vp.Unsigned 1 1000000000000 =
    rw c.value_parser.ensures at c.range.ensures
    ∙ ap₂ (λ low high. unsigned_up_to (ord_max nat_cmp 0 (saturate_unsigned w64 low)) 18446744073709551615 (Some high))
    c.new-2.ensures.start c.new-2.ensures.end in
    let parser : c.value_parser-2.result.value_parser ≡ Some (vp.Unsigned 1 1000000000000) = c.value_parser-2.ensures.given.1
    ∙ ap (λ q. Some q) (c.value_parser-2.ensures.given.2 ∙ made) in
    let rule : rule_of c.help-steps.result ≡ steps_rule = search rules in
    let program_is : app_of c.in_ok-command.command ≡ program = c.in_ok-command.ensures.shape (search rules)
    ∙ ap₂ with_rule (ap app_of_fields c.after_help.ensures ∙ ap app_of_fields c.about.ensures ∙ ap app_of_fields c.version.ensures
    ∙ ap (on_top versioned) c.new-3.ensures.app) rule in
    let p = err_from_is_err_and c.from_residual-in_err-matches.result c.from_residual-in_err-matches.ensures.1 in
    rw (p.1, p.2)
    (refused_help (app_of c.in_ok-command.command) (map g.S.AsStr.text c.args.words.now) c.in_err-matches.field-0.0 program_is
    c.in_err-matches.ensures.kinds)

pub unreachable-requires : goal.unreachable-requires
unreachable-requires g c =
    let made : c.range.result ≡ vp.Unsigned 1 1000000000000 =
    rw c.value_parser.ensures at c.range.ensures
    ∙ ap₂ (λ low high. unsigned_up_to (ord_max nat_cmp 0 (saturate_unsigned w64 low)) 18446744073709551615 (Some high))
    c.new-2.ensures.start c.new-2.ensures.end in
    let parser : c.value_parser-2.result.value_parser ≡ Some (vp.Unsigned 1 1000000000000) = c.value_parser-2.ensures.given.1
    ∙ ap (λ q. Some q) (c.value_parser-2.ensures.given.2 ∙ made) in
    let rule : rule_of c.help-steps.result ≡ steps_rule = search rules in
    let program_is : app_of c.in_ok-command.command ≡ program = c.in_ok-command.ensures.shape (search rules)
    ∙ ap₂ with_rule (ap app_of_fields c.after_help.ensures ∙ ap app_of_fields c.about.ensures ∙ ap app_of_fields c.version.ensures
    ∙ ap (on_top versioned) c.new-3.ensures.app) rule in
    let given : IsGiven (map g.S.AsStr.text c.args.words.now) c.get_one.result =
    steps_given _ (λ bs r. ParsesUnsigned 64 10 bs r × ExplainsUnsignedError 10 bs r × HasUnsignedDigitsIfOk bs r) (app_of c.in_ok-command.command)
    c.in_ok-matches.matches (map g.S.AsStr.text c.args.words.now) c.get_one.result (λ u x h. h.0) program_is c.in_ok-matches.ensures.kinds
    c.in_ok-matches.ensures.matches c.get_one.ensures.value in
    never_none (map g.S.AsStr.text c.args.words.now) c.get_one.result given c.in-None.is

pub returns-clause-ok : goal.returns-clause-ok
returns-clause-ok g c =
    let made : c.range.result ≡ vp.Unsigned 1 1000000000000 =
    rw c.value_parser.ensures at c.range.ensures
    ∙ ap₂ (λ low high. unsigned_up_to (ord_max nat_cmp 0 (saturate_unsigned w64 low)) 18446744073709551615 (Some high))
    c.new-2.ensures.start c.new-2.ensures.end in
    let parser : c.value_parser-2.result.value_parser ≡ Some (vp.Unsigned 1 1000000000000) = c.value_parser-2.ensures.given.1
    ∙ ap (λ q. Some q) (c.value_parser-2.ensures.given.2 ∙ made) in
    let rule : rule_of c.help-steps.result ≡ steps_rule = search rules in
    let program_is : app_of c.in_ok-command.command ≡ program = c.in_ok-command.ensures.shape (search rules)
    ∙ ap₂ with_rule (ap app_of_fields c.after_help.ensures ∙ ap app_of_fields c.about.ensures ∙ ap app_of_fields c.version.ensures
    ∙ ap (on_top versioned) c.new-3.ensures.app) rule in
    let given : IsGiven (map g.S.AsStr.text c.args.words.now) c.get_one.result =
    steps_given _ (λ bs r. ParsesUnsigned 64 10 bs r × ExplainsUnsignedError 10 bs r × HasUnsignedDigitsIfOk bs r) (app_of c.in_ok-command.command)
    c.in_ok-matches.matches (map g.S.AsStr.text c.args.words.now) c.get_one.result (λ u x h. h.0) program_is c.in_ok-matches.ensures.kinds
    c.in_ok-matches.ensures.matches c.get_one.ensures.value in
    (given_number (map g.S.AsStr.text c.args.words.now) c.get_one.result c.in-Some.steps given c.in-Some.is).0

pub returns-clause-range : goal.returns-clause-range
returns-clause-range g c =
    let made : c.range.result ≡ vp.Unsigned 1 1000000000000 =
    rw c.value_parser.ensures at c.range.ensures
    ∙ ap₂ (λ low high. unsigned_up_to (ord_max nat_cmp 0 (saturate_unsigned w64 low)) 18446744073709551615 (Some high))
    c.new-2.ensures.start c.new-2.ensures.end in
    let parser : c.value_parser-2.result.value_parser ≡ Some (vp.Unsigned 1 1000000000000) = c.value_parser-2.ensures.given.1
    ∙ ap (λ q. Some q) (c.value_parser-2.ensures.given.2 ∙ made) in
    let rule : rule_of c.help-steps.result ≡ steps_rule = search rules in
    let program_is : app_of c.in_ok-command.command ≡ program = c.in_ok-command.ensures.shape (search rules)
    ∙ ap₂ with_rule (ap app_of_fields c.after_help.ensures ∙ ap app_of_fields c.about.ensures ∙ ap app_of_fields c.version.ensures
    ∙ ap (on_top versioned) c.new-3.ensures.app) rule in
    let given : IsGiven (map g.S.AsStr.text c.args.words.now) c.get_one.result =
    steps_given _ (λ bs r. ParsesUnsigned 64 10 bs r × ExplainsUnsignedError 10 bs r × HasUnsignedDigitsIfOk bs r) (app_of c.in_ok-command.command)
    c.in_ok-matches.matches (map g.S.AsStr.text c.args.words.now) c.get_one.result (λ u x h. h.0) program_is c.in_ok-matches.ensures.kinds
    c.in_ok-matches.ensures.matches c.get_one.ensures.value in
    (given_number (map g.S.AsStr.text c.args.words.now) c.get_one.result c.in-Some.steps given c.in-Some.is).1

pub returns-clause-help : goal.returns-clause-help
returns-clause-help g c =
    let made : c.range.result ≡ vp.Unsigned 1 1000000000000 =
    rw c.value_parser.ensures at c.range.ensures
    ∙ ap₂ (λ low high. unsigned_up_to (ord_max nat_cmp 0 (saturate_unsigned w64 low)) 18446744073709551615 (Some high))
    c.new-2.ensures.start c.new-2.ensures.end in
    let parser : c.value_parser-2.result.value_parser ≡ Some (vp.Unsigned 1 1000000000000) = c.value_parser-2.ensures.given.1
    ∙ ap (λ q. Some q) (c.value_parser-2.ensures.given.2 ∙ made) in
    let rule : rule_of c.help-steps.result ≡ steps_rule = search rules in
    let program_is : app_of c.in_ok-command.command ≡ program = c.in_ok-command.ensures.shape (search rules)
    ∙ ap₂ with_rule (ap app_of_fields c.after_help.ensures ∙ ap app_of_fields c.about.ensures ∙ ap app_of_fields c.version.ensures
    ∙ ap (on_top versioned) c.new-3.ensures.app) rule in
    never_served (app_of c.in_ok-command.command) (map g.S.AsStr.text c.args.words.now) program_is c.in_ok-matches.ensures.kinds
