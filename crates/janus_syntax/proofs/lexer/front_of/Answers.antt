use Rattle.std.proofs.Common.{ap, sym, ◌∙◌, length, get_or, refl, drop, subst, Some}
use Rattle.std.specs.List.{prefix_len}
use Rattle.janus_syntax.specs.Lexical.{class_of, of_name, of_number, in_line}
use Rattle.janus_syntax.specs.Scan.{IsLongestSign}
use Rattle.janus_syntax.proofs.Fronts.{letters_front, digits_front, comment_front, sign_front, underscore_none, space_front, letters_cut, digits_cut, space_cut}
use Rattle.janus_syntax.proofs.Fronts.{line_cut, sign_cut, slashes, no_slashes}
use Rattle.janus_syntax.proofs.lexer.front_of.Goals as goal

pub returns-in-Letter-clause-found : goal.returns-in-Letter-clause-found
returns-in-Letter-clause-found c =
    let bytes = c.as_bytes-octets.ensures.value in
    letters_front c.args.text.now c.run_len.result c.requires
    (ap (λ l. class_of (get_or l 0 0)) (sym bytes) ∙ sym c.class_of.ensures ∙ c.in-Letter.is)
    (c.run_len.ensures ∙ ap (prefix_len of_name) bytes)

pub returns-in-Letter-clause-cut : goal.returns-in-Letter-clause-cut
returns-in-Letter-clause-cut c =
    let bytes = c.as_bytes-octets.ensures.value in
    let n = c.run_len.ensures ∙ ap (prefix_len of_name) bytes in
    letters_cut c.args.text.now c.run_len.result c.utf8.text
    (letters_front c.args.text.now c.run_len.result c.requires
    (ap (λ l. class_of (get_or l 0 0)) (sym bytes) ∙ sym c.class_of.ensures ∙ c.in-Letter.is) n) n

pub returns-in-Digit-clause-found : goal.returns-in-Digit-clause-found
returns-in-Digit-clause-found c =
    let bytes = c.as_bytes-octets.ensures.value in
    digits_front c.args.text.now c.run_len-in-Digit.result c.requires
    (ap (λ l. class_of (get_or l 0 0)) (sym bytes) ∙ sym c.class_of.ensures ∙ c.in-Digit.is)
    (c.run_len-in-Digit.ensures ∙ ap (prefix_len of_number) bytes)

pub returns-in-Digit-clause-cut : goal.returns-in-Digit-clause-cut
returns-in-Digit-clause-cut c =
    let bytes = c.as_bytes-octets.ensures.value in
    let n = c.run_len-in-Digit.ensures ∙ ap (prefix_len of_number) bytes in
    digits_cut c.args.text.now c.run_len-in-Digit.result c.utf8.text
    (digits_front c.args.text.now c.run_len-in-Digit.result c.requires
    (ap (λ l. class_of (get_or l 0 0)) (sym bytes) ∙ sym c.class_of.ensures ∙ c.in-Digit.is) n) n

pub returns-in-Space-clause-found : goal.returns-in-Space-clause-found
returns-in-Space-clause-found c =
    space_front c.args.text.now c.requires
    (ap (λ l. class_of (get_or l 0 0)) (sym c.as_bytes-octets.ensures.value) ∙ sym c.class_of.ensures ∙ c.in-Space.is)

pub returns-in-Space-clause-cut : goal.returns-in-Space-clause-cut
returns-in-Space-clause-cut c =
    space_cut c.args.text.now c.utf8.text c.requires
    (ap (λ l. class_of (get_or l 0 0)) (sym c.as_bytes-octets.ensures.value) ∙ sym c.class_of.ensures ∙ c.in-Space.is)

pub returns-in-Underscore-clause-none : goal.returns-in-Underscore-clause-none
returns-in-Underscore-clause-none c =
    underscore_none c.args.text.now
    (ap (λ l. class_of (get_or l 0 0)) (sym c.as_bytes-octets.ensures.value) ∙ sym c.class_of.ensures ∙ c.in-Underscore.is)

pub returns-then-starts_with-clause-found : goal.returns-then-starts_with-clause-found
returns-then-starts_with-clause-found c =
    let bytes = c.as_bytes-octets.ensures.value in
    let two = slashes c.as_bytes-octets.result.now _ c.starts_with.result refl c.starts_with.ensures.value c.if-starts_with.true in
    comment_front c.args.text.now (drop 2 c.as_bytes-octets.result.now) c.line_len.result (sym bytes ∙ two) (c.line_len.ensures ∙ ap (prefix_len in_line) bytes)

pub returns-then-starts_with-clause-cut : goal.returns-then-starts_with-clause-cut
returns-then-starts_with-clause-cut c =
    line_cut c.args.text.now c.line_len.result (c.line_len.ensures ∙ ap (prefix_len in_line) c.as_bytes-octets.ensures.value)

pub returns-in_ok-sign-in-Other-clause-found : goal.returns-in_ok-sign-in-Other-clause-found
returns-in_ok-sign-in-Other-clause-found c =
    let bytes = c.as_bytes-octets.ensures.value in
    sign_front c.in_ok-sign-in-Other.sign c.args.text.now (length c.text.result.now) (ap length c.text.ensures)
    (subst (λ l. IsLongestSign l (Some c.in_ok-sign-in-Other.sign)) bytes c.in_ok-sign-in-Other.ensures)
    (λ ds e. no_slashes c.as_bytes-octets.result.now _ c.starts_with.result refl c.starts_with.ensures.value c.if-starts_with.false ds (bytes ∙ e))

pub returns-in_ok-sign-in-Other-clause-cut : goal.returns-in_ok-sign-in-Other-clause-cut
returns-in_ok-sign-in-Other-clause-cut c =
    let bytes = c.as_bytes-octets.ensures.value in
    let longest = subst (λ l. IsLongestSign l (Some c.in_ok-sign-in-Other.sign)) bytes c.in_ok-sign-in-Other.ensures in
    sign_cut c.in_ok-sign-in-Other.sign c.args.text.now (length c.text.result.now) c.utf8.text (ap length c.text.ensures) longest
    (sign_front c.in_ok-sign-in-Other.sign c.args.text.now (length c.text.result.now) (ap length c.text.ensures) longest
    (λ ds e. no_slashes c.as_bytes-octets.result.now _ c.starts_with.result refl c.starts_with.ensures.value c.if-starts_with.false ds (bytes ∙ e)))
